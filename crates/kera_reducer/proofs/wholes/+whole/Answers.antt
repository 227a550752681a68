use Rattle.std.proofs.Common.{◌∙◌, ◌&&◌, ap, sym}
use Rattle.std.specs.List.{list_all}
use Rattle.tla_meaning.specs.declared.expr.Expr.{out-Expr}
use Rattle.kernel_reduction.specs.Whole.{is_whole}
use Rattle.kera_reducer.proofs.WholeNodes.{whole_out}
use Rattle.kera_reducer.proofs.wholes.+whole.Goals as goal

pub is_whole-returns-then-is_node_whole : goal.is_whole-returns-then-is_node_whole
is_whole-returns-then-is_node_whole t c =
    let rest = list_all (is_whole c.args.count) (out-Expr c.args.e.now).args in
    c.are_whole.ensures
    ∙ ap (list_all (is_whole c.args.count)) c.as_slice.ensures
    ∙ ap (λ b. b && rest) (sym c.if-is_node_whole.true ∙ c.is_node_whole.ensures)
    ∙ sym (whole_out c.args.count c.args.e.now)

pub is_whole-returns-else-is_node_whole : goal.is_whole-returns-else-is_node_whole
is_whole-returns-else-is_node_whole t c =
    let rest = list_all (is_whole c.args.count) (out-Expr c.args.e.now).args in
    c.if-is_node_whole.false
    ∙ ap (λ b. b && rest) (sym c.if-is_node_whole.false ∙ c.is_node_whole.ensures)
    ∙ sym (whole_out c.args.count c.args.e.now)
