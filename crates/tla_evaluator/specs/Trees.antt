-- What an evaluation computes: the meaning of expanded trees, where bound names have values and nothing is defined.
use Rattle.std.specs.Prelude.{ℕ, true, false, List, [], ◌∷◌, map, Some}
use Rattle.std.specs.List.{All}
use Rattle.tla_values.specs.Sets.{Normal}
use Rattle.tla_values.specs.declared.value.Value.{Value}
use Rattle.tla_meaning.specs.declared.expr.Expr.{Expr}
use Rattle.tla_meaning.specs.declared.expr.Expr.TheOpen.{Expr-F}
use Rattle.tla_meaning.specs.declared.expr.Expr.TheFolds.{fold-Expr}
use Rattle.tla_meaning.specs.declared.job.State.{State}
use Rattle.tla_meaning.specs.declared.outcome.Fault.TheVariants.{IsWrong}
use Rattle.tla_meaning.specs.declared.outcome.Outcome.{Outcome}
use Rattle.tla_meaning.specs.declared.outcome.Outcome.TheVariants.{Wrong}
use Rattle.tla_meaning.specs.declared.place.Place.{Place}
use Rattle.tla_meaning.specs.declared.actions.Assignable.{Assignable}
use Rattle.tla_meaning.specs.declared.actions.Effect.{Effect}
use Rattle.tla_meaning.specs.Actions.{node}
use Rattle.tla_meaning.specs.Forms.{Broken, Formed}
use Rattle.tla_meaning.specs.Meaning.{Meaning}
use Rattle.tla_meaning.specs.Numbers.{Width}
use Rattle.tla_meaning.specs.Scopes.{Scope, absent}
pub use Rattle.tla_meaning.specs.Expanded.{is_expanded, is_expanded_op}

-- such a node means what it means, and every other one nothing
abbrev pub expanded_node : Width → Expr-F Meaning → Meaning
expanded_node w x sc = elim (is_expanded_op x.op) [ true ↦ node w x sc | false ↦ absent x.place ]

-- the meaning of trees that use nothing that is defined elsewhere
unfoldable pub expanded_meaning : Width → Expr → Meaning
expanded_meaning w = fold-Expr Meaning (expanded_node w)

-- bound names have these values, and nothing is defined
abbrev pub scope_at : List (List ℕ × Value) → Scope
scope_at vars = record { bound = vars; named = [] }

abbrev pub value_at : ℕ → Expr → List (List ℕ × Value) → State → State → Outcome
value_at w e vars s t = (expanded_meaning (Some w) e (scope_at vars)).value s t

abbrev pub form_at : ℕ → Expr → List (List ℕ × Value) → State → State → Formed
form_at w e vars s t = (expanded_meaning (Some w) e (scope_at vars)).form s t

abbrev pub effect_at : ℕ → Assignable → Expr → List (List ℕ × Value) → State → State → Effect
effect_at w m e vars s t = (expanded_meaning (Some w) e (scope_at vars)).act m s t

abbrev pub outcomes_at : ℕ → List Expr → List (List ℕ × Value) → State → State → List Outcome
outcomes_at w es vars s t = map (λ e. value_at w e vars s t) es

abbrev pub forms_at : ℕ → List Expr → List (List ℕ × Value) → State → State → List Formed
forms_at w es vars s t = map (λ e. form_at w e vars s t) es

abbrev pub effects_at : ℕ → Assignable → List Expr → List (List ℕ × Value) → State → State → List Effect
effects_at w m es vars s t = map (λ e. effect_at w m e vars s t) es

-- the values that an evaluation reads are normal
pub record AreNormal (vars : List (List ℕ × Value)) (s t : State) : Type 0 where
  pub bound : All (λ b. Normal b.1) vars
  pub now : All Normal s.vals
  pub next : All Normal t.vals

-- the first of these trees, or Wrong where there is none
abbrev pub first_at : ℕ → Place → List Expr → List (List ℕ × Value) → State → State → Outcome
first_at w p [] vars s t = Wrong p
first_at w p (e ∷ es) vars s t = value_at w e vars s t

abbrev pub first_form_at : ℕ → Place → List Expr → List (List ℕ × Value) → State → State → Formed
first_form_at w p [] vars s t = Broken (IsWrong p)
first_form_at w p (e ∷ es) vars s t = form_at w e vars s t
