use Rattle.std.proofs.Common.{◌∙◌, ap, sym, arith}
use Rattle.std.proofs.lemmas.List.{length-map}
use Rattle.snowcat_rows.specs.Codes.{binding}
use Rattle.snowcat_rows.specs.Views.{type_bound}
use Rattle.snowcat_rows.proofs.Indexes.{bound_at}
use Rattle.snowcat_rows.proofs.substitution.Subst.bound_type.Goals as goal

pub returns-in-Type : goal.returns-in-Type
returns-in-Type c =
    let bs = c.args.self.now.store.bindings.items in
    ap (λ b. type_bound (binding b)) (sym c.in-Type.is) ∙ sym (bound_at bs c.args.i c.index.result.now (omega (arith, c.requires, length-map bs binding)) c.index.ensures)

pub returns-in-Row : goal.returns-in-Row
returns-in-Row c =
    let bs = c.args.self.now.store.bindings.items in
    ap (λ b. type_bound (binding b)) (sym c.in-Row.is) ∙ sym (bound_at bs c.args.i c.index.result.now (omega (arith, c.requires, length-map bs binding)) c.index.ensures)
