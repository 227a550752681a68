-- What the nodes of an action come to, operator by operator.
use Rattle.std.proofs.Common.{◌≡◌, ℕ, zero, suc, Bool, true, false, ◌||◌, List, [], ◌∷◌, ◌++◌, map, take, replicate, refl, sym, ◌∙◌, ap, ap₂, Option, Some, None}
use Rattle.std.specs.List.{list_any, slice_get}
use Rattle.tla_values.specs.Order.{Layer}
use Rattle.tla_values.specs.declared.value.Value.{Value, out-Value}
use Rattle.tla_meaning.specs.declared.place.Place.{Place}
use Rattle.tla_meaning.specs.declared.job.State.{State}
use Rattle.tla_meaning.specs.declared.outcome.Fault.{Fault}
use Rattle.tla_meaning.specs.declared.outcome.Fault.TheVariants.{NoFault, IsWrong, IsBig}
use Rattle.tla_meaning.specs.declared.outcome.Outcome.{Outcome}
use Rattle.tla_meaning.specs.declared.outcome.Outcome.TheVariants.{Wrong}
use Rattle.tla_meaning.specs.Outcomes.{join_faults, joined, values, fault_or, strict}
use Rattle.tla_meaning.specs.Shapes.{choices, all_set_items}
use Rattle.tla_meaning.specs.Operators.{on_all_sets}
use Rattle.tla_meaning.specs.Numbers.{Width}
use Rattle.tla_meaning.specs.declared.actions.Effect.{Effect}
use Rattle.kernel_trees.specs.Paths.{mentions}
use Rattle.tla_meaning.specs.Scopes.{Scope, Denotation, absent}
use Rattle.tla_meaning.specs.Meaning.{Meaning, outcomes, child, view, role, outer, inner, bound_table}
use Rattle.tla_meaning.specs.Actions.{meaning, denotation_of, any_mentions, fails_by, effect_of, effects_or, exists_effect, counts}
use Rattle.tla_meaning.proofs.Joins.{both_same}
use Rattle.tla_meaning.proofs.Views.{false≢true}
use Rattle.kernel_trees.specs.declared.kernel.Ker.{Ker}
use Rattle.kernel_trees.specs.declared.kernel.KerOp.{KerOp}
use Rattle.kernel_trees.specs.Trees.{as_expr, op_of, operands, constant, names_of, ker_val, ker_effect}
use Rattle.kernel_trees.proofs.Effects.{or_also, or_twice, or_nothing}
use Rattle.kernel_trees.proofs.Mentions.{holds_is}
use Rattle.tla_values.specs.declared.value.Value.TheVariants as value
use Rattle.tla_values.specs.declared.value.Value.TheOpen as layer
use Rattle.tla_meaning.specs.declared.op.Op.TheVariants as op
use Rattle.kernel_trees.specs.declared.kernel.KerOp.TheVariants as ker
use Rattle.tla_meaning.specs.declared.actions.Assignable.{Assignable}

-- ---- children

abbrev pub all_meanings : Width → List Ker → List Meaning
all_meanings w ks = map (meaning w) (map as_expr ks)

pub effects_here : (w : Width) (m : Assignable) (p : Place) (ks : List Ker) (sc : Scope) (s t : State) →
    map (λ (a : Denotation). a.act m s t) (outer p [] (all_meanings w ks) sc) ≡ map (λ k. ker_effect w m k sc s t) ks
effects_here w m p [] sc s t = refl
effects_here w m p (k ∷ ks) sc s t = ap (λ (es : List Effect). ker_effect w m k sc s t ∷ es) (effects_here w m p ks sc s t)

pub outcomes_here : (w : Width) (p : Place) (ks : List Ker) (sc : Scope) (s t : State) →
    outcomes (outer p [] (all_meanings w ks) sc) s t ≡ map (λ k. ker_val w k sc s t) ks
outcomes_here w p [] sc s t = refl
outcomes_here w p (k ∷ ks) sc s t = ap (λ (os : List Outcome). ker_val w k sc s t ∷ os) (outcomes_here w p ks sc s t)

pub any_here : (w : Width) (m : Assignable) (p : Place) (ks : List Ker) (sc : Scope) →
    any_mentions m (outer p [] (all_meanings w ks) sc) ≡ list_any (mentions (counts m)) ks
any_here w m p [] sc = refl
any_here w m p (k ∷ ks) sc = ap₂ (λ (a b : Bool). a || b) (holds_is w m k sc) (any_here w m p ks sc)

-- the sets of a binder
pub sets_here : (w : Width) (p : Place) (n : ℕ) (ks : List Ker) (sc : Scope) (s t : State) →
    outcomes (take n (outer p (replicate n false ++ true ∷ []) (all_meanings w ks) sc)) s t ≡ map (λ k. ker_val w k sc s t) (take n ks)
sets_here w p zero ks sc s t = refl
sets_here w p (suc n) [] sc s t = refl
sets_here w p (suc n) (k ∷ ks) sc s t = ap (λ (os : List Outcome). ker_val w k sc s t ∷ os) (sets_here w p n ks sc s t)

abbrev pub body_sense : Width → Place → Option Ker → Scope → Denotation
body_sense w p None sc = absent p
body_sense w p (Some k) sc = meaning w (as_expr k) sc

-- its body
pub body_here : (w : Width) (p : Place) (n : ℕ) (ks : List Ker) (sc : Scope) →
    child p n (inner p (replicate n false ++ true ∷ []) (all_meanings w ks) sc) ≡ body_sense w p (slice_get ks n) sc
body_here w p zero [] sc = refl
body_here w p zero (k ∷ ks) sc = refl
body_here w p (suc n) [] sc = refl
body_here w p (suc n) (k ∷ ks) sc = body_here w p n ks sc

-- ---- a node by its parts

abbrev pub sense_at : Width → Place → KerOp → ℕ → List ℕ → List Ker → Scope → Denotation
sense_at w p o n xs ks sc =
    denotation_of w p (op_of o) n (view p (role (op_of o) n) (names_of xs) (map (meaning w) (operands o p (map as_expr ks))) sc)

-- ---- everything else

pub constant_effect : (w : Width) (m : Assignable) (p : Place) (l : Layer Value) (n : ℕ) (xs : List (List ℕ)) (sc : Scope) (s t : State) →
    let a : Denotation = denotation_of w p (constant l) n (view p (role (constant l) n) xs [] sc) in a.act m s t ≡ effect_of (a.value s t)
constant_effect w m p (layer.Bool b) n xs sc s t = refl
constant_effect w m p (layer.Int i) n xs sc s t = refl
constant_effect w m p (layer.Text a) n xs sc s t = refl
constant_effect w m p (layer.Set vs) n xs sc s t = refl
constant_effect w m p (layer.Fun ps) n xs sc s t = refl

abbrev pub is_leaf : KerOp → Bool
is_leaf ker.And = false
is_leaf ker.Or = false
is_leaf ker.If = false
is_leaf ker.Some = false
is_leaf o = true

pub leaf_effect : (w : Width) (m : Assignable) (p : Place) (o : KerOp) (n : ℕ) (xs : List ℕ) (ks : List Ker) (sc : Scope) (s t : State) →
    is_leaf o ≡ true → (sense_at w p o n xs ks sc).act m s t ≡ effect_of ((sense_at w p o n xs ks sc).value s t)
leaf_effect w m p (ker.Const v) n xs ks sc s t h = constant_effect w m p (out-Value v) n (names_of xs) sc s t
leaf_effect w m p ker.And n xs ks sc s t h = absurd (false≢true h)
leaf_effect w m p ker.Or n xs ks sc s t h = absurd (false≢true h)
leaf_effect w m p ker.If n xs ks sc s t h = absurd (false≢true h)
leaf_effect w m p ker.Some n xs ks sc s t h = absurd (false≢true h)
leaf_effect w m p ker.NoCase n xs ks sc s t h = refl
leaf_effect w m p o n xs ks sc s t h = refl

-- ---- an `\E` without a body

unless_effect : (g : Fault) (o : Outcome) →
    effect_of (fault_or g o) ≡ elim g [ NoFault ↦ effect_of o | IsWrong q ↦ fails_by (IsWrong q) | IsBig q ↦ fails_by (IsBig q) ]
unless_effect NoFault o = refl
unless_effect (IsWrong q) o = refl
unless_effect (IsBig q) o = refl

all_wrong : {X : Type 0} (p : Place) (x : X) (xs : List X) → joined (map (λ x. Wrong p) (x ∷ xs)) ≡ IsWrong p
all_wrong p x [] = refl
all_wrong p x (y ∷ ys) = ap (join_faults (IsWrong p)) (all_wrong p y ys) ∙ both_same (IsWrong p)

all_fail : {X : Type 0} (p : Place) (x : X) (xs : List X) → effects_or (map (λ x. fails_by (IsWrong p)) (x ∷ xs)) ≡ fails_by (IsWrong p)
all_fail p x [] = or_nothing (fails_by (IsWrong p))
all_fail p x (y ∷ ys) = ap (or_also (fails_by (IsWrong p))) (all_fail p y ys) ∙ or_twice (fails_by (IsWrong p))

empty_effect : (p : Place) (cs : List (List Value)) →
    effects_or (map (λ vs. fails_by (IsWrong p)) cs) ≡ effect_of (strict (map (λ vs. Wrong p) cs) (bound_table p op.Exists cs))
empty_effect p [] = simp (value.outs-Bool)
empty_effect p (c ∷ cs) =
    all_fail p c cs
    ∙ sym (ap (λ (g : Fault). effect_of (fault_or g (bound_table p op.Exists (c ∷ cs) (values (map (λ vs. Wrong p) (c ∷ cs)))))) (all_wrong p c cs))

pub no_body : (p : Place) (os : List Outcome) →
    exists_effect p os (λ vs. fails_by (IsWrong p))
    ≡ effect_of (strict os (on_all_sets p (λ xss. strict (map (λ vs. Wrong p) (choices xss)) (bound_table p op.Exists (choices xss)))))
no_body p os = ap (λ e. elim (joined os) [ NoFault ↦ e | IsWrong q ↦ fails_by (IsWrong q) | IsBig q ↦ fails_by (IsBig q) ]) (by (all_set_items (values os)))
    ∙ sym (unless_effect (joined os) _)
  where
    by : (o : Option (List (List Value))) →
        elim o [ None ↦ fails_by (IsWrong p) | Some xss ↦ effects_or (map (λ vs. fails_by (IsWrong p)) (choices xss)) ]
        ≡ effect_of (elim o [ None ↦ Wrong p | Some xss ↦ strict (map (λ vs. Wrong p) (choices xss)) (bound_table p op.Exists (choices xss)) ])
    by None = refl
    by (Some xss) = empty_effect p (choices xss)
