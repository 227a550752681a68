use Rattle.std.proofs.Common.{◌≡◌, length, map}
use Rattle.snowcat_rows.specs.Views.{kept_by}
use Rattle.snowcat_types.specs.inner.Awaited.{IsAwaiting}
use Rattle.snowcat_types.proofs.awaiting.Awaiting.next_decided.Given as goal

abbrev pub invariant-agenda : goal.invariant-agenda
invariant-agenda l = record {
  awaiting : IsAwaiting (kept_by l.subst) (map (λ w. w.now) l.waits) l.self;
  marks : l.self.marks ≡ l.initial.self.marks;
  same : l.self.defaults ≡ l.initial.self.defaults;
}

abbrev pub decreases-agenda : goal.decreases-agenda
decreases-agenda l = length l.self.watching.agenda.items
