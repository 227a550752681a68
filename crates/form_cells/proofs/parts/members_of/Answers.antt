use Rattle.std.proofs.Common.{◌∙◌}
use Rattle.form_cells.proofs.PartLemmas.{members-listed, set-kind}
use Rattle.form_cells.proofs.parts.members_of.Goals as goal

pub returns : goal.returns
returns c = members-listed c.args.b.now c.args.s _ c.in-Set.edges _ c.kind.ensures.same c.requires.is.0 c.kind.ensures.held c.in-Set.is (c.in_ok-copied.ensures.items ∙ c.as_slice.ensures)

pub returns-in_default : goal.returns-in_default
returns-in_default c = absurd (set-kind _ c.args.s _ c.requires c.kind.ensures.same c.in_default.not-Set)
