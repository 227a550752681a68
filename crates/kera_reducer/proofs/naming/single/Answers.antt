use Rattle.std.proofs.Common.{rules, ◌≡◌, ◌∙◌, ap₂, suc}
use Rattle.tla_meaning.specs.declared.op.Op.TheVariants as op
use Rattle.kernel_reduction.specs.Making.{let_of}
use Rattle.kernel_reduction.specs.Rows.{let_in}
use Rattle.kera_reducer.specs.inner.Standing.{MakesOf, function_of}
use Rattle.kera_reducer.proofs.IfOks.{ok_by}
use Rattle.kera_reducer.proofs.RowsMade.{single_makes}
use Rattle.kera_reducer.proofs.naming.single.Goals as goal

pub returns : goal.returns
returns c =
    let m = c.args.made.now in
    let n = c.in_ok-pairs.field-0 in
    let whole : c.in_ok-body.body ≡ function_of m n.first n.second = search rules in
    ok_by _ (λ k. MakesOf m op.Single c.args.kids.items k) _ c.let_in.ensures
    (λ k e. single_makes m c.in_ok-left.left c.in_ok-left.right n c.args.kids.items k c.in_ok-left.ensures c.in_ok-pairs.ensures
    (e ∙ ap₂ (λ t b. let_in m.place (let_of t n.pairs m.depth (suc m.depth)) n.operands b) c.in_ok-whole.ensures whole))
