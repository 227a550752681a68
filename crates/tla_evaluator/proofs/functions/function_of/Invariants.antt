use Rattle.std.proofs.Common.{◌≡◌, ◌++◌, List, vec_len}
use Rattle.tla_evaluator.proofs.Words.{Value, function_of}
use Rattle.tla_evaluator.proofs.functions.function_of.Given as goal

-- the pairs that are done
abbrev pub invariant-loop-pair : goal.invariant-loop-pair
invariant-loop-pair l = (done : List (Value × Value)) × (l.initial.rest.items ≡ l.rest.items ++ done) × (l.function.items ≡ function_of done)

abbrev pub decreases-loop-pair : goal.decreases-loop-pair
decreases-loop-pair l = vec_len l.rest
