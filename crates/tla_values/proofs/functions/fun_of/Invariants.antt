use Rattle.std.proofs.Common.{◌≡◌, ◌++◌, vec_len, List, true}
use Rattle.tla_values.specs.Sets.{arguments, function_of, distinct}
use Rattle.tla_values.specs.declared.value.Value.{Value}
use Rattle.tla_values.proofs.functions.fun_of.Given as goal

-- the pairs that are done
abbrev pub invariant-loop-argument : goal.invariant-loop-argument
invariant-loop-argument l =
    (done : List (Value × Value)) × (l.initial.rest.items ≡ l.rest.items ++ done) × (l.function.items ≡ function_of done)
    × (distinct (arguments done) ≡ true)

abbrev pub decreases-loop-argument : goal.decreases-loop-argument
decreases-loop-argument l = vec_len l.rest
