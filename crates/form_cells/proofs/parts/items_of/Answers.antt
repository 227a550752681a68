use Rattle.std.proofs.Common.{◌∙◌}
use Rattle.form_cells.proofs.PartLemmas.{tuple-kind, tuple-parts}
use Rattle.form_cells.proofs.parts.items_of.Goals as goal

pub returns : goal.returns
returns c = tuple-parts _ c.args.t _ c.in-Tup.parts _ c.kind.ensures.same c.in-Tup.is (c.in_ok-copied.ensures.items ∙ c.as_slice.ensures)

pub returns-in_default : goal.returns-in_default
returns-in_default c = absurd (tuple-kind _ c.args.t _ c.requires c.kind.ensures.same c.in_default.not-Tup)
