-- The meaning of actions, and of whole expressions.
use Rattle.std.specs.Prelude.{ℕ, Bool, true, false, ◌&&◌, ◌||◌, nat_lt, nat_le, List, [], ◌∷◌, map, length, take, Option, Some, None, if◌then◌else◌}
use Rattle.std.specs.List.{list_any}
use Rattle.tla_values.specs.Order.{Layer}
use Rattle.tla_values.specs.declared.value.Value.{Value, out-Value}
use Rattle.tla_values.specs.declared.value.Value.TheOpen as layer
use Rattle.tla_meaning.specs.declared.actions.Assignable.{Assignable}
use Rattle.tla_meaning.specs.declared.actions.Assignable.TheVariants.{Every, Primed, Constants, Variables, PrimedVariables}
use Rattle.tla_meaning.specs.declared.actions.Effect.{Effect}
use Rattle.tla_meaning.specs.declared.op.Op.{Op}
use Rattle.tla_meaning.specs.declared.op.Op.TheVariants as op
use Rattle.tla_meaning.specs.declared.place.Place.{Place}
use Rattle.tla_meaning.specs.declared.job.State.{State}
use Rattle.tla_meaning.specs.declared.expr.Expr.{Expr}
use Rattle.tla_meaning.specs.declared.expr.Expr.TheOpen.{Expr-F}
use Rattle.tla_meaning.specs.declared.expr.Expr.TheFolds.{fold-Expr}
use Rattle.tla_meaning.specs.declared.outcome.Outcome.{Outcome}
use Rattle.tla_meaning.specs.declared.outcome.Outcome.TheVariants.{Val, Wrong, Big}
use Rattle.tla_meaning.specs.declared.outcome.Fault.{Fault}
use Rattle.tla_meaning.specs.declared.outcome.Fault.TheVariants.{NoFault, IsWrong, IsBig}
use Rattle.tla_meaning.specs.Outcomes.{join_faults, joined, values, fault_or}
use Rattle.tla_meaning.specs.Numbers.{Width}
use Rattle.tla_meaning.specs.Shapes.{choices, all_set_items}
use Rattle.tla_meaning.specs.Operators.{yes_no}
use Rattle.tla_meaning.specs.Scopes.{Denotation, Scope}
use Rattle.tla_meaning.specs.Meaning.{Meaning, outcomes, child, View, view, role, changed, value_of, form_of, unchanged_of}

abbrev pub fails_by : Fault → Effect
fails_by g = record { holds = false; fault = g }

abbrev pub is_true : Layer Value → Bool
is_true (layer.Bool b) = b
is_true x = false

-- it holds where its value is TRUE
abbrev pub effect_of : Outcome → Effect
effect_of (Val v) = record { holds = is_true (out-Value v); fault = NoFault }
effect_of (Wrong p) = fails_by (IsWrong p)
effect_of (Big p) = fails_by (IsBig p)

-- the fault where there is one, else whether the action holds
abbrev pub outcome_of : Effect → Outcome
outcome_of e = fault_or e.fault (yes_no e.holds)

-- a conjunction goes on where the operands so far hold, even where they have a fault
abbrev pub effects_and : List Effect → Effect
effects_and [] = record { holds = true; fault = NoFault }
effects_and (e ∷ es) =
    let rest = effects_and es in
    elim e.holds [ true ↦ record { holds = rest.holds; fault = join_faults e.fault rest.fault } | false ↦ e ]

-- a disjunction holds where one operand does, and has the faults of all
abbrev pub effects_or : List Effect → Effect
effects_or [] = fails_by NoFault
effects_or (e ∷ es) =
    let rest = effects_or es in record { holds = e.holds || rest.holds; fault = join_faults e.fault rest.fault }

-- goes on by the truth value of a guard
abbrev pub guard : Place → Layer Value → Effect → Effect → Effect
guard p (layer.Bool true) a b = a
guard p (layer.Bool false) a b = b
guard p v a b = fails_by (IsWrong p)

abbrev pub guarded : Place → Outcome → Effect → Effect → Effect
guarded p (Val v) a b = guard p (out-Value v) a b
guarded p (Wrong q) a b = fails_by (IsWrong q)
guarded p (Big q) a b = fails_by (IsBig q)

-- guards in order, each with its branch; one at the end is that of OTHER
abbrev pub case_effect : Place → List Outcome → List Effect → Effect
case_effect p (c ∷ d ∷ os) (e ∷ a ∷ es) = guarded p c a (case_effect p os es)
case_effect p (o ∷ []) (e ∷ es) = e
case_effect p os es = fails_by (IsWrong p)

abbrev pub if_effect : Place → List Outcome → List Effect → Effect
if_effect p (c ∷ os) (e ∷ a ∷ b ∷ []) = guarded p c a b
if_effect p os es = fails_by (IsWrong p)

abbrev pub effects : Assignable → List Denotation → State → State → List Effect
effects m as' s t = map (λ a. a.act m s t) as'

-- a fault of the domains, or else the disjunction over all members
abbrev pub exists_effect : Place → List Outcome → (List Value → Effect) → Effect
exists_effect p os body =
    elim (joined os) [
      | NoFault ↦ elim (all_set_items (values os)) [
        | None ↦ fails_by (IsWrong p)
        | Some xss ↦ effects_or (map body (choices xss))
      ]
      | IsWrong q ↦ fails_by (IsWrong q)
      | IsBig q ↦ fails_by (IsBig q)
    ]

-- whether the name of this number counts as assigned, itself primed or not
abbrev pub counts : Assignable → ℕ → Bool → Bool
counts Every i primed = true
counts Primed i primed = primed
counts (Constants n) i primed = nat_lt i n
counts (Variables n) i primed = nat_le n i
counts (PrimedVariables n) i primed = primed && nat_le n i

-- what counts under a prime, where every name is a primed one
abbrev pub under_prime : Assignable → Assignable
under_prime Every = Every
under_prime Primed = Every
under_prime (Constants n) = Constants n
under_prime (Variables n) = Variables n
under_prime (PrimedVariables n) = Variables n

-- whether one of several holds a name that counts
abbrev pub any_mentions : Assignable → List Denotation → Bool
any_mentions m as' = list_any (λ a. a.mentions m) as'

-- `[A]_v` is `A \/ UNCHANGED v`, and `<<A>>_v` is `A /\ ~(UNCHANGED v)`; what is mentioned depends on no bound value
abbrev pub mentions_of : Place → Op → ℕ → View → Assignable → Bool
mentions_of p (op.Name i primed) n v m = counts m i primed
mentions_of p op.Prime n v m = (child p 0 v.here).mentions (under_prime m)
mentions_of p op.Unchanged n v m = (child p 0 v.here).mentions (under_prime m) || (child p 0 v.here).mentions m
mentions_of p op.Boxed n v m =
    (child p 0 v.here).mentions m || (child p 1 v.here).mentions (under_prime m) || (child p 1 v.here).mentions m
mentions_of p op.Angled n v m =
    (child p 0 v.here).mentions m || (child p 1 v.here).mentions (under_prime m) || (child p 1 v.here).mentions m
mentions_of p o n v m = any_mentions m v.here || any_mentions m (v.under [])

-- the effect of a node in an action position
abbrev pub act_of : Width → Place → Op → ℕ → View → Assignable → State → State → Effect
act_of w p op.And n v m s t = effects_and (effects m v.here s t)
act_of w p op.Or n v m s t =
    if any_mentions m v.here
    then effects_or (effects m v.here s t)
    else effect_of (value_of w p op.Or n v s t)
act_of w p op.If n v m s t =
    if any_mentions m v.here
    then if_effect p (outcomes v.here s t) (effects m v.here s t)
    else effect_of (value_of w p op.If n v s t)
act_of w p (op.Case other) n v m s t =
    if any_mentions m v.here
    then case_effect p (outcomes v.here s t) (effects m v.here s t)
    else effect_of (value_of w p (op.Case other) n v s t)
act_of w p op.Exists n v m s t =
    exists_effect p (outcomes (take (n) v.here) s t) (λ vs. (child p (n) (v.under vs)).act m s t)
act_of w p (op.Noted x) n v m s t = (child p 0 v.here).act m s t
act_of w p op.Prime n v m s t = (child p 0 v.here).act (under_prime m) t t
act_of w p op.Boxed n v m s t =
    if mentions_of p op.Boxed n v m
    then effects_or ((child p 0 v.here).act m s t ∷ effect_of ((child p 1 v.here).unchanged s t) ∷ [])
    else effect_of (value_of w p op.Boxed n v s t)
act_of w p op.Angled n v m s t =
    effects_and ((child p 0 v.here).act m s t ∷ effect_of (changed p ((child p 1 v.here).unchanged s t)) ∷ [])
act_of w p o n v m s t = effect_of (value_of w p o n v s t)

abbrev pub meant : Option Denotation → Denotation → Denotation
meant None a = a
meant (Some b) a = b

-- what a node means, by what it reads
abbrev pub denotation_of : Width → Place → Op → ℕ → View → Denotation
denotation_of w p o n v = meant v.whole (record {
  value = value_of w p o n v;
  form = form_of w p o n v;
  act = act_of w p o n v;
  unchanged = unchanged_of w p o n v;
  mentions = mentions_of p o n v;
})

-- what a node means in a scope
abbrev pub node : Width → Expr-F Meaning → Meaning
node w e sc = denotation_of w e.place e.op (length e.binds) (view e.place (role e.op (length e.binds)) e.binds e.args sc)

-- the meaning of an expression
unfoldable pub meaning : Width → Expr → Meaning
meaning w = fold-Expr Meaning (node w)

-- the outcome of an expression in a scope, in a state with a next state
abbrev pub val : Width → Expr → Scope → State → State → Outcome
val w e sc s t = (meaning w e sc).value s t

-- the outcome of an action
abbrev pub act : Width → Assignable → Expr → Scope → State → State → Outcome
act w m e sc s t = outcome_of ((meaning w e sc).act m s t)
