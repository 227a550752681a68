use Rattle.std.proofs.Common.{rules, ◌≡◌, ◌∙◌, ap, suc}
use Rattle.snowcat_rows.specs.declared.types.Ty.TheVariants as ty
use Rattle.tla_meaning.specs.declared.op.Op.TheVariants as op
use Rattle.kernel_reduction.specs.Making.{let_of}
use Rattle.kernel_reduction.specs.Rows.{let_in}
use Rattle.kera_reducer.specs.inner.Standing.{MakesOf, same_truth_of}
use Rattle.kera_reducer.proofs.IfOks.{ok_by}
use Rattle.kera_reducer.proofs.RowsMade.{equivalence_makes}
use Rattle.kera_reducer.proofs.naming.equivalence.Goals as goal

pub returns : goal.returns
returns c =
    let m = c.args.made.now in
    let n = c.in_ok-pairs.field-0 in
    let whole : c.in_ok-equal.equal ≡ same_truth_of m n.first n.second = search rules in
    ok_by _ (λ k. MakesOf m op.Iff c.args.kids.items k) _ c.let_in.ensures
    (λ k e. equivalence_makes m c.in_ok-left.left c.in_ok-left.right n c.args.kids.items k c.in_ok-left.ensures c.in_ok-pairs.ensures
    (e ∙ ap (let_in m.place (let_of ty.Bool n.pairs m.depth (suc m.depth)) n.operands) whole))
