-- Outcomes, and how those of several operands are one.
use Rattle.std.specs.Prelude.{ℕ, Bool, List, [], ◌∷◌, if◌then◌else◌}
use Rattle.std.specs.declared.cmp.Ordering.{Ordering}
use Rattle.std.specs.Ordering.{nat_cmp, is_lt}
use Rattle.std.specs.Cmp.Lexicographic.{slice_cmp}
use Rattle.tla_values.specs.Sets.{Normal}
use Rattle.tla_values.specs.declared.value.Value.{Value}
use Rattle.tla_meaning.specs.declared.place.Place.{Place}
use Rattle.tla_meaning.specs.declared.outcome.Fault.{Fault}
use Rattle.tla_meaning.specs.declared.outcome.Fault.TheVariants.{NoFault, IsWrong, IsBig}
use Rattle.tla_meaning.specs.declared.outcome.Outcome.{Outcome}
use Rattle.tla_meaning.specs.declared.outcome.Outcome.TheVariants.{Val, Wrong, Big}

-- places in order of file, line and column
abbrev pub place_parts : Place → List ℕ
place_parts p = p.file ∷ p.line ∷ p.col ∷ []

abbrev pub place_cmp : Place → Place → Ordering
place_cmp p q = slice_cmp nat_cmp (place_parts p) (place_parts q)

abbrev pub before : Place → Place → Bool
before p q = is_lt (place_cmp p q)

abbrev pub least : Place → Place → Place
least p q = if before q p then q else p

-- Wrong at the least place at which one is Wrong, else Big at the least place at which one is Big
abbrev pub join_faults : Fault → Fault → Fault
join_faults NoFault g = g
join_faults (IsWrong p) NoFault = IsWrong p
join_faults (IsWrong p) (IsWrong q) = IsWrong (least p q)
join_faults (IsWrong p) (IsBig q) = IsWrong p
join_faults (IsBig p) NoFault = IsBig p
join_faults (IsBig p) (IsWrong q) = IsWrong q
join_faults (IsBig p) (IsBig q) = IsBig (least p q)

abbrev pub fault_of : Outcome → Fault
fault_of (Val v) = NoFault
fault_of (Wrong p) = IsWrong p
fault_of (Big p) = IsBig p

-- the join of the faults of several outcomes
abbrev pub joined : List Outcome → Fault
joined [] = NoFault
joined (o ∷ os) = join_faults (fault_of o) (joined os)

-- the outcomes that are values
abbrev pub values : List Outcome → List Value
values [] = []
values (Val v ∷ os) = v ∷ values os
values (Wrong p ∷ os) = values os
values (Big p ∷ os) = values os

-- the fault, or else the outcome
abbrev pub fault_or : Fault → Outcome → Outcome
fault_or NoFault o = o
fault_or (IsWrong p) o = Wrong p
fault_or (IsBig p) o = Big p

-- the join of the operands, where there is no fault with the outcome of their values
abbrev pub strict : List Outcome → (List Value → Outcome) → Outcome
strict os f = fault_or (joined os) (f (values os))

-- goes on with a value
abbrev pub with_value : Outcome → (Value → Outcome) → Outcome
with_value (Val v) f = f v
with_value (Wrong p) f = Wrong p
with_value (Big p) f = Big p

-- a value of an outcome is normal
abbrev pub IsNormalOutcome : Outcome → Type 0
IsNormalOutcome (Val v) = Normal v
IsNormalOutcome (Wrong p) = Unit {0}
IsNormalOutcome (Big p) = Unit {0}
