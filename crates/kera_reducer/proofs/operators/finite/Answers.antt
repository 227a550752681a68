use Rattle.std.proofs.Common.{rules, ◌≡◌, ◌∷◌, [], true}
use Rattle.snowcat_rows.specs.declared.types.Ty.TheVariants as ty
use Rattle.kernel_trees.specs.declared.kernel.KerOp.TheVariants as ker
use Rattle.kernel_reduction.specs.Rows.{tree, truth}
use Rattle.kera_reducer.proofs.RowsMade.{finite_makes}
use Rattle.kera_reducer.proofs.operators.finite.Goals as goal

pub returns : goal.returns
returns c =
    let m = c.args.made.now in
    let a = c.in_ok-operand.operand in
    let whole : c.tree.result ≡ tree m.place ty.Bool ker.Every (a ∷ truth m.place ty.Bool true ∷ []) (m.depth ∷ []) =
    search rules in
    finite_makes m a c.args.kids.items c.tree.result c.in_ok-operand.ensures whole
