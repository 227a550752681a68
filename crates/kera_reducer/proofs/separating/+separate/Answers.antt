use Rattle.std.proofs.Common.{◌∙◌, ◌&&◌, ap, sym}
use Rattle.std.specs.List.{list_all}
use Rattle.tla_meaning.specs.declared.expr.Expr.{out-Expr}
use Rattle.kernel_reduction.specs.SizeLaws.{is_apart}
use Rattle.kernel_reduction.proofs.Apart.{apart_step}
use Rattle.kera_reducer.proofs.separating.+separate.Goals as goal

pub is_apart-returns-then-is_node_apart : goal.is_apart-returns-then-is_node_apart
is_apart-returns-then-is_node_apart t c =
    let rest = list_all is_apart (out-Expr c.args.e.now).args in
    c.all_apart.ensures
    ∙ ap (list_all is_apart) c.as_slice.ensures
    ∙ ap (λ b. b && rest) (sym c.if-is_node_apart.true ∙ c.is_node_apart.ensures)
    ∙ sym (apart_step c.args.e.now)

pub is_apart-returns-else-is_node_apart : goal.is_apart-returns-else-is_node_apart
is_apart-returns-else-is_node_apart t c =
    let rest = list_all is_apart (out-Expr c.args.e.now).args in
    c.if-is_node_apart.false
    ∙ ap (λ b. b && rest) (sym c.if-is_node_apart.false ∙ c.is_node_apart.ensures)
    ∙ sym (apart_step c.args.e.now)
