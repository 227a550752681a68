use Rattle.std.proofs.Common.{◌≡◌, length}
use Rattle.snowcat_rows.specs.inner.Readers.{unwound}
use Rattle.snowcat_rows.proofs.reader.Reader.unwind.Given as goal

abbrev pub invariant-loop : goal.invariant-loop
invariant-loop l = (unwound l.self ≡ unwound l.fn.self) × (l.self.rows.items ≡ l.fn.self.rows.items)

abbrev pub decreases-loop : goal.decreases-loop
decreases-loop l = length l.self.frames.items
