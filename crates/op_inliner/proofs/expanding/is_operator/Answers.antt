use Rattle.std.proofs.Common.{arith, ◌≡◌, ◌∙◌, ◌+◌, ◌-◌, ◌<◌, ◌==◌, ap, sym, length, map, List, ℕ}
use Rattle.std.proofs.lemmas.List.{take_all}
use Rattle.tla_meaning.specs.declared.expr.Def.{Def}
use Rattle.tla_meaning.specs.Scopes.{find_last}
use Rattle.op_inliner.specs.Known.{wants}
use Rattle.op_inliner.proofs.NameLemmas.{find_last-hit, find_last-miss}
use Rattle.op_inliner.proofs.ExpandSteps.{arities_begun, arity_of}
use Rattle.op_inliner.proofs.expanding.is_operator.Goals as goal

pub loop-i-init : goal.loop-i-init
loop-i-init c = record {
  within = omega arith;
  same = ap (λ (ds : List Def). find_last c.args.name.now (map arity_of ds)) (take_all (length c.args.defs.now) c.args.defs.now (omega arith)) ∙ arities_begun c.args.name.now c.args.defs.now;
}

pub returns-then-same_name : goal.returns-then-same_name
returns-then-same_name c =
    let up : c.loop-i.i ≡ (c.loop-i.i - 1) + 1 = let h = c.loop-i-test.true in omega (arith, h) in
    let lt : c.loop-i.i - 1 < length c.args.defs.now = let h = c.loop-i-test.true in let k = c.loop-i.invariant.within in omega (arith, h, k) in
    c.is_empty.ensures ∙ ap (λ (xs : List (List ℕ)). length xs == 0) c.as_slice.ensures
    ∙ sym (ap (wants 0) (sym c.loop-i.invariant.same
    ∙ find_last-hit c.args.name.now arity_of c.args.defs.now (c.loop-i.i - 1) c.loop-i.i c.index-defs-i.result up lt c.index-defs-i.is (sym c.if-same_name.ensures)))

pub loop-i-preserved : goal.loop-i-preserved
loop-i-preserved c =
    let up : c.loop-i.i ≡ (c.loop-i.i - 1) + 1 = let h = c.loop-i-test.true in omega (arith, h) in
    let lt : c.loop-i.i - 1 < length c.args.defs.now = let h = c.loop-i-test.true in let k = c.loop-i.invariant.within in omega (arith, h, k) in record {
      within = let k = c.loop-i.invariant.within in omega (arith, k);
      same = sym (find_last-miss c.args.name.now arity_of c.args.defs.now (c.loop-i.i - 1) c.loop-i.i c.index-defs-i.result up lt c.index-defs-i.is (sym c.if-same_name.ensures)) ∙ c.loop-i.invariant.same;
    }
