use Rattle.std.proofs.Common.{take}
use Rattle.snowcat_rows.specs.Views.{known_by}
use Rattle.snowcat_types.specs.Annotated.{all_notes}
use Rattle.snowcat_types.specs.inner.Telling.{HearsBesides}
use Rattle.snowcat_types.proofs.hearing.Heard.+trees.Given as goal

abbrev pub invariant-hear_trees-loop-e : goal.invariant-hear_trees-loop-e
invariant-hear_trees-loop-e l = HearsBesides (known_by l.aliases) l.fn.self (all_notes (take l.e-index l.trees)) l.self
