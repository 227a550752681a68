use Rattle.std.proofs.Common.{map, take}
use Rattle.snowcat_rows.specs.Views.{known_by}
use Rattle.snowcat_types.specs.Annotated.{all_notes}
use Rattle.snowcat_types.specs.inner.Telling.{HearsBesides}
use Rattle.snowcat_types.proofs.hearing.Heard.hear_invariants.Given as goal

abbrev pub invariant-loop-inv : goal.invariant-loop-inv
invariant-loop-inv l = HearsBesides (known_by l.aliases) l.fn.self (all_notes (map (λ v. v.1) (take l.inv-index l.invs))) l.self
