use Rattle.std.proofs.Common.{◌≡◌, filter, not}
use Rattle.tla_meaning.specs.declared.expr.Decl.{Decl}
use Rattle.flat_modules.proofs.flattening.in_state_order.Given as goal

abbrev pub invariant-loop-d : goal.invariant-loop-d
invariant-loop-d l =
    (l.constants.items ≡ filter (λ (d : Decl). d.constant) l.yielded) × (l.variables.items ≡ filter (λ (d : Decl). not d.constant) l.yielded)
