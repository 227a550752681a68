use Rattle.kera_reducer.specs.inner.Excepts.{IsPopped}
use Rattle.kera_reducer.proofs.excepts.taken.Given as goal

abbrev pub invariant-loop : goal.invariant-loop
invariant-loop l = IsPopped l.counter l.fn.stack.items l.front.items l.stack.items
