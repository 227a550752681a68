use Rattle.std.proofs.Common.{◌∙◌, ◌∷◌, [], ap}
use Rattle.snowcat_rows.specs.declared.types.Ty.TheVariants as ty
use Rattle.kernel_trees.specs.declared.kernel.KerOp.TheVariants as ker
use Rattle.kernel_reduction.specs.Rows.{negation, node}
use Rattle.kera_reducer.proofs.RowsMade.{implies_makes}
use Rattle.kera_reducer.proofs.operators.implication.Goals as goal

pub returns : goal.returns
returns c =
    let m = c.args.made.now in
    let a = c.in_ok-left.left in
    let b = c.in_ok-left.right in
    implies_makes m a b c.args.kids.items c.in_ok-whole.whole c.in_ok-left.ensures
    (c.in_ok-whole.ensures ∙ ap (negation m.place ty.Bool)
    (c.in_ok-both.ensures ∙ ap (λ z. node m.place ty.Bool ker.And (a ∷ z ∷ [])) c.in_ok-fails.ensures))
