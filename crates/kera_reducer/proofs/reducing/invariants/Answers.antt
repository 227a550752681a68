use Rattle.std.proofs.Common.{arith, ℕ, ◌+◌, ◌<◌, List, None, [], length, map, subst, sym, take}
use Rattle.tla_meaning.specs.declared.expr.Expr.{Expr}
use Rattle.kernel_reduction.specs.BuildsTyped.{BuildsTyped}
use Rattle.kera_reducer.specs.inner.Parts.{ArePartsBuilt}
use Rattle.kera_reducer.proofs.PartsMade.{next_part}
use Rattle.kera_reducer.proofs.reducing.invariants.Goals as goal

pub loop-i-preserved : goal.loop-i-preserved
loop-i-preserved c =
    let invs = c.args.invs.now in
    let types = c.args.types.now in
    let i = c.loop-i.i in
    let less : i < length types = (let a = c.loop-i-test.true in let b = c.if-types-invs.false in omega (arith, a, b)) in
    subst (λ z. ArePartsBuilt (map (λ v. v.1) (take (i + 1) invs)) (take (i + 1) types) z) (sym c.in_ok-push.ensures.items)
    (next_part invs types i c.index-invs-i.result c.index-types-i.result c.loop-i.trees.items c.in_ok-part.field-0
    c.loop-i-test.true c.index-invs-i.is less c.index-types-i.is c.loop-i.invariant
    (subst (λ (v : List ℕ × Expr). BuildsTyped None [] v.1 c.index-types-i.result c.in_ok-part.field-0 [])
    (sym c.index-invs-i.is) c.in_ok-part.ensures))
