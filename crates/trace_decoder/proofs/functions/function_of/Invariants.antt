use Rattle.std.proofs.Common.{◌≡◌, ◌++◌, vec_len, List}
use Rattle.tla_values.specs.Sets.{function_of}
use Rattle.tla_values.specs.declared.value.Value.{Value}
use Rattle.trace_decoder.proofs.functions.function_of.Given as goal

-- the pairs that are done
abbrev pub invariant-loop-argument : goal.invariant-loop-argument
invariant-loop-argument l =
    (done : List (Value × Value)) × (l.initial.rest.items ≡ l.rest.items ++ done) × (l.function.items ≡ function_of done)

abbrev pub decreases-loop-argument : goal.decreases-loop-argument
decreases-loop-argument l = vec_len l.rest
