use Rattle.std.proofs.Common.{[], ◌∷◌, ◌∙◌, ap, refl, sym}
use Rattle.kernel_shapes.specs.Codes.{mean}
use Rattle.kernel_shapes.specs.Rows.{applied_at}
use Rattle.shape_bounds.proofs.ExtentsUnder.{update_under}
use Rattle.shape_bounds.proofs.Families.{two_first}
use Rattle.shape_bounds.proofs.names.Names.under_update.Goals as goal

pub returns-in_ok-vec-in-len2-up : goal.returns-in_ok-vec-in-len2-up
returns-in_ok-vec-in-len2-up c =
    update_under c.args.self.now c.shape_at.new.self c.extended.new.self c.args.k.now c.updated-item.result c.index-item.result _ c.args.stack.now
    c.in_ok-extended-in-len2-up.extended c.as_slice-in-len2-up.result.now c.in_ok-whole-in-len2-up.whole c.in_ok-part-in-len2-up.part (c.in_ok-part-in-len2-up.part ∷ [])
    c.in_ok-vec-in-len2-up.field-0.items c.requires.kind
    (sym c.as_slice.ensures ∙ two_first c.as_slice.result.now _ _ c.in-len2-up.len_at_least c.updated-item.is c.index-item.is)
    c.as_slice-in-len2-up.ensures c.in_ok-whole-in-len2-up.ensures
    (c.in_ok-part-in-len2-up.ensures ∙ c.applied.ensures ∙ ap (applied_at (mean c.in_ok-whole-in-len2-up.whole)) c.literal_of.ensures) refl
    c.in_ok-extended-in-len2-up.ensures c.in_ok-vec-in-len2-up.ensures.items
