use Rattle.std.proofs.Common.{◌≡◌, List, Ok, map}
use Rattle.tla_evaluator.proofs.Words.{Value}
use Rattle.tla_evaluator.proofs.sets.set_made.Given as goal

abbrev pub invariant-loop-list : goal.invariant-loop-list
invariant-loop-list g l =
    (f : List Value → Value) → ((items : _) (v : Value) → g.F.Fn.post l.make (items, tt) (Ok v) → v ≡ f items.items) → l.members.items ≡ map f l.yielded
