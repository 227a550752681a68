-- What it means that a path holds, or meets a fault, for given choices, and that an action is what its paths are. Source:
-- Konnov, Kukovec and Tran, "TLA+ Model Checking Made Symbolic", OOPSLA 2019, on symbolic transitions.
use Rattle.std.specs.Prelude.{◌≡◌, ◌⊎◌, ◌↔◌, true, ℕ, List, [], ◌∷◌, map, Some, None}
use Rattle.tla_values.specs.Order.{Layer}
use Rattle.tla_values.specs.declared.value.Value.{Value, out-Value}
use Rattle.tla_values.specs.declared.value.Value.TheOpen as layer
use Rattle.tla_meaning.specs.declared.actions.Effect.{Effect}
use Rattle.tla_meaning.specs.declared.place.Place.{Place}
use Rattle.tla_meaning.specs.declared.job.State.{State}
use Rattle.tla_meaning.specs.declared.outcome.Fault.{Fault}
use Rattle.tla_meaning.specs.declared.outcome.Fault.TheVariants.{NoFault, IsWrong, IsBig}
use Rattle.tla_meaning.specs.declared.outcome.Outcome.{Outcome}
use Rattle.tla_meaning.specs.declared.outcome.Outcome.TheVariants.{Val, Wrong, Big}
use Rattle.tla_meaning.specs.Outcomes.{join_faults, fault_of, joined, values}
use Rattle.tla_meaning.specs.Shapes.{all_set_items}
use Rattle.tla_meaning.specs.Operators.{yes_no}
use Rattle.tla_meaning.specs.Numbers.{Width}
use Rattle.tla_meaning.specs.Scopes.{Scope, bind}
use Rattle.kernel_trees.specs.declared.kernel.Ker.{Ker}
use Rattle.kernel_trees.specs.Trees.{names_of, ker_val}
use Rattle.kernel_trees.specs.Ways.{Way}
use Rattle.kernel_trees.specs.Paths.{Step, Holds, Branch, Choice, numbers, sets}

-- x stands in the list
abbrev pub IsOneOf : {X : Type 0} → X → List X → Type 0
IsOneOf x [] = ⊥
IsOneOf x (y ∷ ys) = (x ≡ y) ⊎ IsOneOf x ys

-- each value is in its set
abbrev pub AreIn : List Value → List (List Value) → Type 0
AreIn [] [] = Unit {0}
AreIn [] (xs ∷ xss) = ⊥
AreIn (v ∷ vs) [] = ⊥
AreIn (v ∷ vs) (xs ∷ xss) = IsOneOf v xs × AreIn vs xss

-- the values are in the sets, which have no fault
pub record Picked (os : List Outcome) (vs : List Value) : Type 0 where
  pub members : List (List Value)
  pub sound : joined os ≡ NoFault
  pub are_sets : all_set_items (values os) ≡ Some members
  pub are_in : AreIn vs members

-- what a guard gives instead of a truth value
abbrev pub kind_fault : Place → Layer Value → Fault
kind_fault p (layer.Bool b) = NoFault
kind_fault p l = IsWrong p

abbrev pub guard_fault : Place → Outcome → Fault
guard_fault p (Val v) = kind_fault p (out-Value v)
guard_fault p (Wrong q) = IsWrong q
guard_fault p (Big q) = IsBig q

-- what sets give instead of members
abbrev pub sets_fault : Place → List Outcome → Fault
sets_fault p os = elim (joined os) [
  | NoFault ↦ elim (all_set_items (values os)) [ None ↦ IsWrong p | Some xss ↦ NoFault ]
  | IsWrong q ↦ IsWrong q
  | IsBig q ↦ IsBig q
]

-- there is a fault
abbrev pub IsFault : Fault → Type 0
IsFault NoFault = ⊥
IsFault (IsWrong p) = Unit {0}
IsFault (IsBig p) = Unit {0}

-- what the sets of a choice give
abbrev pub set_outcomes : Width → State → State → List (ℕ × Ker) → Scope → List Outcome
set_outcomes w s t ps sc = map (λ k. ker_val w k sc s t) (sets ps)

-- the scope in which their numbers stand for these values
abbrev pub picking : List (ℕ × Ker) → List Value → Scope → Scope
picking ps vs sc = bind (names_of (numbers ps)) vs sc

-- a list has a first item with which this holds of the rest
abbrev pub WithFirst : {X : Type 0} → (X → List X → Type 0) → List X → Type 0
WithFirst P [] = ⊥
WithFirst P (x ∷ xs) = P x xs

-- the path holds for these choices, one list of values for each choice on it
abbrev pub HoldsFor : Width → State → State → List Step → List (List Value) → Scope → Type 0
HoldsFor w s t [] vss sc = vss ≡ []
HoldsFor w s t (Holds k ∷ ys) vss sc = (ker_val w k sc s t ≡ yes_no true) × HoldsFor w s t ys vss sc
HoldsFor w s t (Branch p k b ∷ ys) vss sc = (ker_val w k sc s t ≡ yes_no b) × HoldsFor w s t ys vss sc
HoldsFor w s t (Choice p ps ∷ ys) vss sc =
    WithFirst (λ vs rest. Picked (set_outcomes w s t ps sc) vs × HoldsFor w s t ys rest (picking ps vs sc)) vss

-- the path meets the fault for these choices: the steps before it hold
abbrev pub MeetsFor : Width → State → State → List Step → List (List Value) → Scope → Fault → Type 0
MeetsFor w s t [] vss sc f = ⊥
MeetsFor w s t (Holds k ∷ ys) vss sc f =
    (fault_of (ker_val w k sc s t) ≡ f) ⊎ ((ker_val w k sc s t ≡ yes_no true) × MeetsFor w s t ys vss sc f)
MeetsFor w s t (Branch p k b ∷ ys) vss sc f =
    (guard_fault p (ker_val w k sc s t) ≡ f) ⊎ ((ker_val w k sc s t ≡ yes_no b) × MeetsFor w s t ys vss sc f)
MeetsFor w s t (Choice p ps ∷ ys) vss sc f =
    (sets_fault p (set_outcomes w s t ps sc) ≡ f)
    ⊎ WithFirst (λ vs rest. Picked (set_outcomes w s t ps sc) vs × MeetsFor w s t ys rest (picking ps vs sc) f) vss

-- the fault is the join of those that are met: each of them counts in it, and it is one of them if there is any
pub record IsJoin (f : Fault) (Met : Fault → Type 0) : Type 0 where
  pub counts : (g : Fault) → IsFault g → Met g → join_faults g f ≡ f
  pub is_met : (f ≡ NoFault) ⊎ Met f

-- an action holds where one of its paths does for some choices, and its fault is the join of those that its paths meet
pub record IsByPaths (w : Width) (s t : State) (ys : List (Way Step)) (sc : Scope) (e : Effect) : Type 0 where
  pub holds : (e.holds ≡ true) ↔ ((y : Way Step) × IsOneOf y ys × ((vss : List (List Value)) × HoldsFor w s t y.steps vss sc))
  pub fault : IsJoin e.fault (λ f. (y : Way Step) × IsOneOf y ys × ((vss : List (List Value)) × MeetsFor w s t y.steps vss sc f))
