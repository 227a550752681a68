-- The branch that an IF or a CASE takes.
use Rattle.std.specs.Prelude.{◌≡◌, Bool, true, false, List, [], ◌∷◌, Result, Ok, Err, if◌then◌else◌}
use Rattle.std.proofs.Common.{Bor}
use Rattle.tla_values.specs.Order.{Layer}
use Rattle.tla_values.specs.declared.value.Value.{Value, out-Value}
use Rattle.tla_values.specs.declared.value.Value.TheOpen as layer
use Rattle.tla_meaning.specs.declared.expr.Expr.{Expr}
use Rattle.tla_meaning.specs.declared.op.Op.{Op}
use Rattle.tla_meaning.specs.declared.op.Op.TheVariants as op
use Rattle.tla_meaning.specs.declared.outcome.Outcome.{Outcome}
use Rattle.tla_meaning.specs.declared.outcome.Outcome.TheVariants as outcome
use Rattle.tla_meaning.specs.declared.outcome.Fault.TheVariants.{IsWrong, IsBig}
use Rattle.tla_meaning.specs.declared.place.Place.{Place}
use Rattle.tla_meaning.specs.declared.actions.Assignable.{Assignable}
use Rattle.tla_meaning.specs.declared.actions.Effect.{Effect}
use Rattle.tla_meaning.specs.Actions.{fails_by}
use Rattle.tla_meaning.specs.Forms.{Formed, Broken}
use Rattle.tla_evaluator.specs.declared.answers.Stop.{Stop}
use Rattle.tla_evaluator.specs.declared.answers.Stop.TheVariants.{Wrong, Big, Memory}
use Rattle.tla_evaluator.specs.inner.Readings.{Reading, effect_in, form_in, value_in}

pub data Branch : Type 0 where
  Taken : Expr → Branch
  WrongAt : Place → Branch
  BigAt : Place → Branch

-- goes on by the value of a guard
abbrev pub by_value : Place → Layer Value → Branch → Branch → Branch
by_value p (layer.Bool true) a b = a
by_value p (layer.Bool false) a b = b
by_value p v a b = WrongAt p

abbrev pub by_guard : Place → Outcome → Branch → Branch → Branch
by_guard p (outcome.Val v) a b = by_value p (out-Value v) a b
by_guard p (outcome.Wrong q) a b = WrongAt q
by_guard p (outcome.Big q) a b = BigAt q

-- guards in order, each with its branch; a tree alone at the end is that of OTHER
abbrev pub case_branch : Reading → Place → List Expr → Branch
case_branch r p [] = WrongAt p
case_branch r p (e ∷ []) = Taken e
case_branch r p (c ∷ a ∷ es) = by_guard p (value_in r c) (Taken a) (case_branch r p es)

-- IF has a guard and two branches
abbrev pub is_malformed : Op → List Expr → Bool
is_malformed op.If (c ∷ a ∷ b ∷ []) = false
is_malformed op.If es = true
is_malformed o es = false

abbrev pub branch_in : Reading → Place → Op → List Expr → Branch
branch_in r p o es = if is_malformed o es then WrongAt p else case_branch r p es

-- the first of these trees, or Wrong where there is none
abbrev pub first_tree : Place → List Expr → Branch
first_tree p [] = WrongAt p
first_tree p (e ∷ es) = Taken e

abbrev pub GivesBranch : Branch → Result (Bor Expr) Stop → Type 0
GivesBranch b (Ok e) = b ≡ Taken e.now
GivesBranch b (Err (Wrong p)) = b ≡ WrongAt p
GivesBranch b (Err (Big p)) = b ≡ BigAt p
GivesBranch b (Err (Memory e)) = Unit {0}

-- what the branch gives, as a value and as an action
abbrev pub branch_value : Reading → Branch → Outcome
branch_value r (Taken e) = value_in r e
branch_value r (WrongAt q) = outcome.Wrong q
branch_value r (BigAt q) = outcome.Big q

abbrev pub branch_form : Reading → Branch → Formed
branch_form r (Taken e) = form_in r e
branch_form r (WrongAt q) = Broken (IsWrong q)
branch_form r (BigAt q) = Broken (IsBig q)

abbrev pub branch_effect : Reading → Assignable → Branch → Effect
branch_effect r m (Taken e) = effect_in r m e
branch_effect r m (WrongAt q) = fails_by (IsWrong q)
branch_effect r m (BigAt q) = fails_by (IsBig q)
