use Rattle.std.proofs.Common.{◌≡◌, take}
use Rattle.std.specs.List.{flat_map}
use Rattle.snowcat_rows.specs.Numbered.{occurring}
use Rattle.snowcat_rows.specs.inner.Meeting.{all_met}
use Rattle.snowcat_rows.proofs.renumbering.+meet.Given as goal

abbrev pub invariant-meet_all-loop-t : goal.invariant-meet_all-loop-t
invariant-meet_all-loop-t l = l.known.items ≡ all_met l.initial.known.items (flat_map occurring (take l.t-index l.ts))

abbrev pub invariant-meet_fields-loop-f : goal.invariant-meet_fields-loop-f
invariant-meet_fields-loop-f l = l.known.items ≡ all_met l.initial.known.items (flat_map (λ f. occurring f.1) (take l.f-index l.fs))
