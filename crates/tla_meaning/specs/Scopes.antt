-- What names stand for, and what an expression means where all names are known.
use Rattle.std.specs.Prelude.{ℕ, Bool, false, List, [], ◌∷◌, ◌++◌, map, zip, Option, Some, None, if◌then◌else◌}
use Rattle.std.specs.Ordering.{is_eq}
use Rattle.tla_values.specs.Order.{text_cmp}
use Rattle.tla_values.specs.declared.value.Value.{Value}
use Rattle.tla_values.specs.declared.value.Value.TheVariants as value
use Rattle.tla_meaning.specs.declared.actions.Assignable.{Assignable}
use Rattle.tla_meaning.specs.declared.actions.Effect.{Effect}
use Rattle.tla_meaning.specs.declared.place.Place.{Place}
use Rattle.tla_meaning.specs.declared.job.State.{State}
use Rattle.tla_meaning.specs.declared.outcome.Outcome.{Outcome}
use Rattle.tla_meaning.specs.declared.outcome.Outcome.TheVariants.{Val, Wrong}
use Rattle.tla_meaning.specs.declared.outcome.Fault.TheVariants.{IsWrong}
use Rattle.tla_meaning.specs.Forms.{Formed, Broken}

-- what an expression means in a state with a next state, where its names are known
pub record Denotation : Type 0 where
  pub value : State → State → Outcome
  -- as the right side of a membership
  pub form : State → State → Formed
  -- in an action position
  pub act : Assignable → State → State → Effect
  -- under UNCHANGED
  pub unchanged : State → State → Outcome
  -- whether it holds a name that counts as assigned
  pub mentions : Assignable → Bool

-- bound names stand for values, and parameters and definitions for what they mean at their arguments
pub record Scope : Type 0 where
  pub bound : List (List ℕ × Value)
  pub named : List (List ℕ × (List Denotation → Denotation))

abbrev pub same_text : List ℕ → List ℕ → Bool
same_text a b = is_eq (text_cmp a b)

abbrev pub or_else : {X : Type 0} → Option X → Option X → Option X
or_else (Some x) o = Some x
or_else None o = o

-- what the last entry of a name says
abbrev pub find_last : {X : Type 0} → List ℕ → List (List ℕ × X) → Option X
find_last x [] = None
find_last x (e ∷ es) = or_else (find_last x es) (if same_text x e.0 then Some e.1 else None)

-- each name with its value; a name that is given none has some value, so that it is bound in any case
abbrev pub bound_to : List (List ℕ) → List Value → List (List ℕ × Value)
bound_to [] vs = []
bound_to (x ∷ xs) [] = (x, value.Bool false) ∷ bound_to xs []
bound_to (x ∷ xs) (v ∷ vs) = (x, v) ∷ bound_to xs vs

-- the scope with more bound names
abbrev pub bind : List (List ℕ) → List Value → Scope → Scope
bind xs vs sc = record sc { bound = sc.bound ++ bound_to xs vs }

-- the scope with one more definition
abbrev pub define : List ℕ → (List Denotation → Denotation) → Scope → Scope
define x d sc = record sc { named = sc.named ++ (x, d) ∷ [] }

-- the scope in which parameters stand for arguments
abbrev pub pass : List (List ℕ) → List Denotation → Scope → Scope
pass xs as' sc = record sc { named = sc.named ++ zip xs (map (λ a. λ _. a) as') }

-- what is not there
abbrev pub absent : Place → Denotation
absent p = record {
  value = λ s t. Wrong p;
  form = λ s t. Broken (IsWrong p);
  act = λ m s t. record { holds = false; fault = IsWrong p };
  unchanged = λ s t. Wrong p;
  mentions = λ m. false;
}

abbrev pub stands_for : Place → Option (List Denotation → Denotation) → List Denotation → Denotation
stands_for p None as' = absent p
stands_for p (Some d) as' = d as'

abbrev pub value_found : Place → Option Value → Outcome
value_found p None = Wrong p
value_found p (Some v) = Val v
