-- What the evaluation of an action answers, by the operator at the node.
use Rattle.std.specs.List.{list_any}
use Rattle.std.specs.Prelude.{ℕ, Bool, true, false, ◌||◌, List, [], ◌∷◌, ◌++◌, drop, length, take}
use Rattle.tla_values.specs.declared.value.Value.{Value}
use Rattle.tla_meaning.specs.declared.actions.Assignable.{Assignable}
use Rattle.tla_meaning.specs.declared.actions.Effect.{Effect}
use Rattle.tla_meaning.specs.declared.expr.Expr.{Expr}
use Rattle.tla_meaning.specs.declared.job.State.{State}
use Rattle.tla_meaning.specs.declared.outcome.Fault.{Fault}
use Rattle.tla_meaning.specs.declared.outcome.Fault.TheVariants.{IsWrong}
use Rattle.tla_meaning.specs.declared.place.Place.{Place}
use Rattle.tla_meaning.specs.declared.op.Op.{Op}
use Rattle.tla_meaning.specs.declared.op.Op.TheVariants as op
use Rattle.tla_meaning.specs.Actions.{effects_and, effects_or, exists_effect, fails_by}
use Rattle.tla_evaluator.specs.inner.Mentions.{mentions}
use Rattle.tla_meaning.specs.Outcomes.{join_faults}
use Rattle.tla_meaning.specs.Scopes.{bound_to}
use Rattle.tla_evaluator.specs.Trees.{effect_at, outcomes_at}
use Rattle.tla_evaluator.specs.inner.Branches.{branch_effect, branch_in}
use Rattle.tla_evaluator.specs.inner.Readings.{Reading, effects_in}

-- an effect behind a fault that came before
abbrev pub behind : Fault → Effect → Effect
behind g f = record { holds = f.holds; fault = join_faults g f.fault }

-- one of two effects
abbrev pub either : Effect → Effect → Effect
either f g = record { holds = f.holds || g.holds; fault = join_faults f.fault g.fault }

-- the first of these trees, or Wrong where there is none
abbrev pub first_effect : ℕ → Assignable → Place → List Expr → List (List ℕ × Value) → State → State → Effect
first_effect w m p [] vars s t = fails_by (IsWrong p)
first_effect w m p (e ∷ es) vars s t = effect_at w m e vars s t

-- the body, the first of these trees, where the names have these values
abbrev pub body_effect : ℕ → Assignable → Place → List Expr → List (List ℕ) → List (List ℕ × Value) → State → State → List Value → Effect
body_effect w m p es xs vars s t c = first_effect w m p es (vars ++ bound_to xs c) s t

-- \E: the domains come first, and then the body over all members
abbrev pub exists_at : ℕ → Assignable → Place → List (List ℕ) → List Expr → List (List ℕ × Value) → State → State → Effect
exists_at w m p xs es vars s t =
    exists_effect p (outcomes_at w (take (length xs) es) vars s t)
    (body_effect w m p (drop (length xs) es) xs vars s t)

-- the same, by what an evaluation reads
abbrev pub body_in : Reading → Assignable → Place → List Expr → List (List ℕ) → List Value → Effect
body_in r m p es xs c = body_effect r.width m p es xs r.bound r.state r.next c

abbrev pub first_effect_in : Reading → Assignable → Place → List Expr → Effect
first_effect_in r m p es = first_effect r.width m p es r.bound r.state r.next

abbrev pub exists_in : Reading → Assignable → Place → List (List ℕ) → List Expr → Effect
exists_in r m p xs es = exists_at r.width m p xs es r.bound r.state r.next

-- whether a node with these children acts by its parts, and not by its value
abbrev pub acts : Assignable → Op → List Expr → Bool
acts m op.And es = true
acts m op.Exists es = true
acts m (op.Noted x) es = true
acts m op.Or es = list_any (mentions m) es
acts m op.If es = list_any (mentions m) es
acts m (op.Case other) es = list_any (mentions m) es
acts m o es = false

-- the effect of such a node, by its operator
abbrev pub act_in : Reading → Assignable → Place → Op → List (List ℕ) → List Expr → Effect
act_in r m p op.And xs es = effects_and (effects_in r m es)
act_in r m p op.Exists xs es = exists_in r m p xs es
act_in r m p (op.Noted x) xs es = first_effect_in r m p es
act_in r m p op.Or xs es = effects_or (effects_in r m es)
act_in r m p op.If xs es = branch_effect r m (branch_in r p op.If es)
act_in r m p (op.Case other) xs es = branch_effect r m (branch_in r p (op.Case other) es)
act_in r m p o xs es = fails_by (IsWrong p)
