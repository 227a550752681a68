use Rattle.std.proofs.Common.{◌≡◌, ◌-◌, take, drop}
use Rattle.sequence_rewriter.specs.inner.Lengths.{places_of}
use Rattle.sequence_rewriter.proofs.ends.places_from.Given as goal

abbrev pub invariant-loop-p : goal.invariant-loop-p
invariant-loop-p l = l.out.items ≡ take (l.p - l.from) (drop l.from (places_of l.arena l.s))
