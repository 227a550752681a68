-- Guards that are negated lead on where they led on before, and a CASE that is split has the effect of the CASE.
use Rattle.std.proofs.Common.{◌≡◌, Bool, true, false, ◌||◌, List, [], ◌∷◌, ◌++◌, map, refl, ◌∙◌, ap, ap₂, Option, Some, None, if◌then◌else◌}
use Rattle.std.specs.List.{list_any}
use Rattle.tla_values.specs.Order.{Layer}
use Rattle.tla_values.specs.declared.value.Value.{Value, out-Value}
use Rattle.tla_values.specs.declared.value.Value.TheVariants as value
use Rattle.tla_values.specs.declared.value.Value.TheOpen as layer
use Rattle.tla_meaning.specs.declared.actions.Assignable.{Assignable}
use Rattle.tla_meaning.specs.declared.actions.Effect.{Effect}
use Rattle.tla_meaning.specs.declared.place.Place.{Place}
use Rattle.tla_meaning.specs.declared.job.State.{State}
use Rattle.tla_meaning.specs.declared.outcome.Fault.TheVariants.{NoFault, IsWrong, IsBig}
use Rattle.tla_meaning.specs.declared.outcome.Outcome.{Outcome}
use Rattle.tla_meaning.specs.declared.outcome.Outcome.TheVariants.{Val, Wrong, Big}
use Rattle.tla_meaning.specs.Operators.{yes_no}
use Rattle.tla_meaning.specs.Numbers.{Width}
use Rattle.tla_meaning.specs.Scopes.{Scope}
use Rattle.tla_meaning.specs.Meaning.{Meaning}
use Rattle.tla_meaning.specs.Actions.{case_effect, counts, effect_of, effects_and, effects_or, fails_by, guard, guarded, is_true}
use Rattle.snowcat_rows.specs.declared.types.Ty.{Ty}
use Rattle.kernel_trees.specs.declared.kernel.Ker.{Ker}
use Rattle.kernel_trees.specs.declared.kernel.KerOp.TheVariants as ker
use Rattle.kernel_trees.specs.Paths.{is_end, mentions}
use Rattle.kernel_trees.specs.Trees.{ker_effect, ker_val}
use Rattle.kernel_trees.specs.inner.Runs.{and_then}
use Rattle.kernel_trees.proofs.Effects.{and_done, effect, or_also, or_and, or_nothing, or_twice}
use Rattle.kernel_trees.proofs.Nodes.{any_here, effects_here, sense_at}
use Rattle.kernel_trees.proofs.Operators.{val_not}
use Rattle.kernel_trees.proofs.Trees.{ker-roll}
use Rattle.kernel_reduction.specs.Rows.{case_branches, guard_of, may_assign, negation, node, op_at, place_of, split_case, twice_negated}
use Rattle.kernel_reduction.proofs.Basics.{map_append}
use Rattle.kernel_reduction.proofs.Outcomes.{negated, negated_is, not_layer, not_truth}
use Rattle.kernel_reduction.proofs.RowNames.{case_children}

-- ---- a guard

opened_guard : (p : Place) (b : Bool) (x y : Effect) → guarded p (yes_no b) x y ≡ guard p (layer.Bool b) x y
opened_guard p b x y = ap (λ (l : Layer Value). guard p l x y) (value.outs-Bool b)

-- negated twice it leads on as before
pub guard_twice : (w : Width) (p : Place) (o : Outcome) (x y : Effect) → guarded p (negated w p (negated w p o)) x y ≡ guarded p o x y
guard_twice w p (Wrong q) x y = refl
guard_twice w p (Big q) x y = refl
guard_twice w p (Val v) x y = ap (λ o. guarded p (negated w p o) x y) (negated_is w p v (out-Value v) refl) ∙ by (out-Value v)
  where
    by : (l : Layer Value) → guarded p (negated w p (not_layer p l)) x y ≡ guard p l x y
    by (layer.Bool true) = ap (λ o. guarded p o x y) (not_truth w p false) ∙ opened_guard p true x y
    by (layer.Bool false) = ap (λ o. guarded p o x y) (not_truth w p true) ∙ opened_guard p false x y
    by (layer.Int i) = refl
    by (layer.Text a) = refl
    by (layer.Set xs) = refl
    by (layer.Fun ps) = refl

-- the branch whose guard is TRUE, and the rest behind this guard FALSE
abbrev guard_true : Width → Place → Outcome → Effect
guard_true w p c = effect_of (negated w p (negated w p c))

abbrev guard_false : Width → Place → Outcome → Effect
guard_false w p c = effect_of (negated w p c)

truth_effect : (b : Bool) → effect_of (yes_no b) ≡ effect b NoFault
truth_effect b = ap (λ (l : Layer Value). effect (is_true l) NoFault) (value.outs-Bool b)

-- one arm of a CASE: its own branch, or what follows it
case_arm : (w : Width) (p : Place) (c : Outcome) (a rest : Effect) →
    or_also (and_then (guard_true w p c) a) (and_then (guard_false w p c) rest) ≡ guarded p c a rest
case_arm w p (Wrong q) a rest = or_twice (fails_by (IsWrong q))
case_arm w p (Big q) a rest = or_twice (fails_by (IsBig q))
case_arm w p (Val v) a rest =
    (λ i. or_also (and_then (effect_of (negated w p (negated_is w p v (out-Value v) refl i))) a) (and_then (effect_of (negated_is w p v (out-Value v) refl i)) rest))
    ∙ by (out-Value v)
  where
    by : (l : Layer Value) → or_also (and_then (effect_of (negated w p (not_layer p l))) a) (and_then (effect_of (not_layer p l)) rest) ≡ guard p l a rest
    by (layer.Bool true) =
        (λ i. or_also (and_then ((ap effect_of (not_truth w p false) ∙ truth_effect true) i) a) (and_then (truth_effect false i) rest))
        ∙ or_nothing a
    by (layer.Bool false) =
        λ i. or_also (and_then ((ap effect_of (not_truth w p true) ∙ truth_effect false) i) a) (and_then (truth_effect true i) rest)
    by (layer.Int i) = or_twice (fails_by (IsWrong p))
    by (layer.Text x) = or_twice (fails_by (IsWrong p))
    by (layer.Set xs) = or_twice (fails_by (IsWrong p))
    by (layer.Fun ps) = or_twice (fails_by (IsWrong p))

-- ---- effects behind others

abbrev behind : List Effect → Effect → Effect
behind [] e = e
behind (x ∷ xs) e = and_then x (behind xs e)

and_two : (xs : List Effect) (x a : Effect) → effects_and (xs ++ x ∷ a ∷ []) ≡ behind xs (and_then x a)
and_two [] x a = ap (and_then x) (and_done a)
and_two (y ∷ ys) x a = ap (and_then y) (and_two ys x a)

and_one : (xs : List Effect) (a : Effect) → effects_and (xs ++ a ∷ []) ≡ behind xs a
and_one [] a = and_done a
and_one (y ∷ ys) a = ap (and_then y) (and_one ys a)

behind_last : (xs : List Effect) (y e : Effect) → behind (xs ++ y ∷ []) e ≡ behind xs (and_then y e)
behind_last [] y e = refl
behind_last (x ∷ xs) y e = ap (and_then x) (behind_last xs y e)

behind_or : (xs : List Effect) (e f : Effect) → or_also (behind xs e) (behind xs f) ≡ behind xs (or_also e f)
behind_or [] e f = refl
behind_or (x ∷ xs) e f = or_and x (behind xs e) (behind xs f) ∙ ap (and_then x) (behind_or xs e f)

module _ (w : Width) (m : Assignable) (s t : State) (sc : Scope) where
  abbrev act : Ker → Effect
  act k = ker_effect w m k sc s t

  abbrev val : Ker → Outcome
  val k = ker_val w k sc s t

  val_negation : (p : Place) (a : Ty) (k : Ker) → val (negation p a k) ≡ negated w p (val k)
  val_negation p a k = val_not w s t p a (k ∷ []) [] sc

  val_twice : (p : Place) (a : Ty) (k : Ker) → val (twice_negated p a k) ≡ negated w p (negated w p (val k))
  val_twice p a k = val_negation p a (negation p a k) ∙ ap (negated w p) (val_negation p a k)

  -- the guard of an IF that is split
  pub guard_kept : (p : Place) (b : Ty) (g : Ker) (x y : Effect) → guarded p (ker_val w (guard_of p b g) sc s t) x y ≡ guarded p (ker_val w g sc s t) x y
  guard_kept p b g x y = by (may_assign (op_at g) || is_end (op_at g))
    where
      by : (c : Bool) → guarded p (val (if c then twice_negated p b g else g)) x y ≡ guarded p (val g) x y
      by true = ap (λ o. guarded p o x y) (val_twice p b g) ∙ guard_twice w p (val g) x y
      by false = refl

  pub act_conjunction : (q : Place) (a : Ty) (ks : List Ker) → ker_effect w m (node q a ker.And ks) sc s t ≡ effects_and (map (λ k. ker_effect w m k sc s t) ks)
  act_conjunction q a ks = ap (λ (k : Meaning). (k sc).act m s t) (ker-roll w _) ∙ ap effects_and (effects_here w m q ks sc s t)

  module _ (p : Place) (ty : Ty) where
    abbrev off : Ker → Effect
    off g = guard_false w p (val g)

    act_not : (g : Ker) → act (negation p ty g) ≡ off g
    act_not g = ap (λ (k : Meaning). (k sc).act m s t) (ker-roll w _)

    act_taken : (g : Ker) → act (twice_negated p ty g) ≡ guard_true w p (val g)
    act_taken g = act_not (negation p ty g) ∙ ap (guard_false w p) (val_negation p ty g)

    fronts : (gs : List Ker) → map act (map (negation p ty) gs) ≡ map off gs
    fronts [] = refl
    fronts (g ∷ gs) = ap₂ (λ (e : Effect) (es : List Effect). e ∷ es) (act_not g) (fronts gs)

    no_case : act (node p ty ker.NoCase []) ≡ fails_by (IsWrong p)
    no_case = ap (λ (k : Meaning). (k sc).act m s t) (ker-roll w _)

    abbrev case_of : List (Ker × Ker) → Option Ker → Effect
    case_of xs o = case_effect p (map val (case_children (λ i b q. false) xs o)) (map act (case_children (λ i b q. false) xs o))

    branches_act : (front : List Ker) (xs : List (Ker × Ker)) (o : Option Ker) →
        effects_or (map act (case_branches p ty front xs o)) ≡ behind (map off front) (case_of xs o)
    branches_act front [] (Some o) =
        or_nothing (act (node (place_of o) ty ker.And (map (negation p ty) front ++ o ∷ [])))
        ∙ act_conjunction (place_of o) ty (map (negation p ty) front ++ o ∷ [])
        ∙ ap effects_and (map_append act (map (negation p ty) front) (o ∷ []) ∙ ap (λ l. l ++ act o ∷ []) (fronts front))
        ∙ and_one (map off front) (act o)
    branches_act front [] None =
        or_nothing (act (node p ty ker.And (map (negation p ty) front ++ node p ty ker.NoCase [] ∷ [])))
        ∙ act_conjunction p ty (map (negation p ty) front ++ node p ty ker.NoCase [] ∷ [])
        ∙ ap effects_and (map_append act (map (negation p ty) front) (node p ty ker.NoCase [] ∷ []) ∙ (λ i. fronts front i ++ no_case i ∷ []))
        ∙ and_one (map off front) (fails_by (IsWrong p))
    branches_act front (x ∷ xs) o =
        ap₂ or_also
        (act_conjunction (place_of x.1) ty (map (negation p ty) front ++ twice_negated p ty x.0 ∷ x.1 ∷ [])
        ∙ ap effects_and (map_append act (map (negation p ty) front) (twice_negated p ty x.0 ∷ x.1 ∷ []) ∙ (λ i. fronts front i ++ act_taken x.0 i ∷ act x.1 ∷ []))
        ∙ and_two (map off front) (guard_true w p (val x.0)) (act x.1))
        (branches_act (front ++ x.0 ∷ []) xs o
        ∙ ap (λ es. behind es (case_of xs o)) (map_append off front (x.0 ∷ []))
        ∙ behind_last (map off front) (off x.0) (case_of xs o))
        ∙ behind_or (map off front) (and_then (guard_true w p (val x.0)) (act x.1)) (and_then (off x.0) (case_of xs o))
        ∙ ap (behind (map off front)) (case_arm w p (val x.0) (act x.1) (case_of xs o))

    -- the disjunction has the effect of the CASE
    pub split_act : (xs : List (Ker × Ker)) (o : Option Ker) → list_any (mentions (counts m)) (case_branches p ty [] xs o) ≡ true →
        act (split_case p ty xs o) ≡ case_of xs o
    split_act xs o h =
        ap (λ (k : Meaning). (k sc).act m s t) (ker-roll w _)
        ∙ (λ i. if (any_here w m p (case_branches p ty [] xs o) sc ∙ h) i
        then effects_or (effects_here w m p (case_branches p ty [] xs o) sc s t i)
        else effect_of ((sense_at w p ker.Or 0 [] (case_branches p ty [] xs o) sc).value s t))
        ∙ branches_act [] xs o
