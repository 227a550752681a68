-- What an evaluation reads, and what trees give there.
use Rattle.std.specs.Prelude.{ℕ, ◌≤◌, List, ◌++◌}
use Rattle.tla_values.specs.declared.value.Value.{Value}
use Rattle.tla_meaning.specs.declared.actions.Assignable.{Assignable}
use Rattle.tla_meaning.specs.declared.actions.Effect.{Effect}
use Rattle.tla_meaning.specs.declared.expr.Expr.{Expr}
use Rattle.tla_meaning.specs.declared.job.State.{State}
use Rattle.tla_meaning.specs.declared.outcome.Outcome.{Outcome}
use Rattle.tla_meaning.specs.declared.place.Place.{Place}
use Rattle.tla_meaning.specs.Forms.{Formed}
use Rattle.tla_meaning.specs.Scopes.{bound_to}
use Rattle.tla_evaluator.specs.Trees.{AreNormal, effect_at, effects_at, first_at, form_at, forms_at, outcomes_at, value_at}

-- the values of bound names, a state with a next one, and the width of numbers
pub record Reading : Type 0 where
  pub bound : List (List ℕ × Value)
  pub state : State
  pub next : State
  pub width : ℕ

-- from 4 to 64 bits
pub record IsWidth (w : ℕ) : Type 0 where
  pub narrow : w ≤ 64
  pub wide : 4 ≤ w

-- all values are normal, and the width is one that is allowed
pub record IsReadable (r : Reading) : Type 0 where
  pub sized : IsWidth r.width
  pub normal : AreNormal r.bound r.state r.next

-- more bound names
abbrev pub with_names : Reading → List (List ℕ) → List Value → Reading
with_names r xs vs = record r { bound = r.bound ++ bound_to xs vs }

abbrev pub value_in : Reading → Expr → Outcome
value_in r e = value_at r.width e r.bound r.state r.next

abbrev pub form_in : Reading → Expr → Formed
form_in r e = form_at r.width e r.bound r.state r.next

abbrev pub effect_in : Reading → Assignable → Expr → Effect
effect_in r m e = effect_at r.width m e r.bound r.state r.next

abbrev pub outcomes_in : Reading → List Expr → List Outcome
outcomes_in r es = outcomes_at r.width es r.bound r.state r.next

abbrev pub forms_in : Reading → List Expr → List Formed
forms_in r es = forms_at r.width es r.bound r.state r.next

abbrev pub effects_in : Reading → Assignable → List Expr → List Effect
effects_in r m es = effects_at r.width m es r.bound r.state r.next

-- the first of these trees, or Wrong where there is none
abbrev pub first_in : Reading → Place → List Expr → Outcome
first_in r p es = first_at r.width p es r.bound r.state r.next
