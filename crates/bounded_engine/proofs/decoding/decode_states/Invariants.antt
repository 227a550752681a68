use Rattle.bounded_engine.specs.inner.Finding.{AreDecoded}
use Rattle.bounded_engine.proofs.decoding.decode_states.Given as goal

abbrev pub invariant-loop-level : goal.invariant-loop-level
invariant-loop-level l = AreDecoded l.encoder l.assignment l.level l.states.items
