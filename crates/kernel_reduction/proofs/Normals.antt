-- Values that are bound by a binder, in a fold and by an EXCEPT are normal, and what agrees on these is the same.
use Rattle.std.proofs.Common.{◌≡◌, ℕ, true, false, List, [], ◌∷◌, map, refl, sym, ◌∙◌, ap, subst, Option, Some, None}
use Rattle.std.specs.List.{AllByRecursion}
use Rattle.tla_values.specs.Order.{Layer}
use Rattle.tla_values.specs.Sets.{Normal}
use Rattle.tla_values.specs.declared.value.Value.{Value, out-Value}
use Rattle.tla_values.specs.declared.value.Value.TheOpen as layer
use Rattle.tla_meaning.specs.declared.expr.Expr.{Expr}
use Rattle.tla_meaning.specs.declared.op.Op.{Op}
use Rattle.tla_meaning.specs.declared.place.Place.{Place}
use Rattle.tla_meaning.specs.declared.job.State.{State}
use Rattle.tla_meaning.specs.declared.outcome.Outcome.{Outcome}
use Rattle.tla_meaning.specs.declared.outcome.Outcome.TheVariants.{Val, Wrong, Big}
use Rattle.tla_meaning.specs.Outcomes.{IsNormalOutcome, joined, values, fault_or, strict, with_value}
use Rattle.tla_meaning.specs.Shapes.{choices, all_set_items, items_of}
use Rattle.tla_meaning.specs.Numbers.{Width}
use Rattle.tla_meaning.specs.Operators.{on_all_sets, on_items}
use Rattle.tla_meaning.specs.Scopes.{Scope, bind, bound_to}
use Rattle.tla_meaning.specs.Meaning.{bound_table, fold_over, folded}
use Rattle.tla_meaning.specs.Actions.{val}
use Rattle.tla_meaning.proofs.NormalShapes.{Normals, NormalSet, NormalLists, NormalLayer, IfSomes, layer_normal, truth_normal, choices_normal, all_items_normal, lists_of, all_plus}
use Rattle.tla_meaning.proofs.NormalTable.{items_of_normal}
use Rattle.tla_meaning.proofs.NormalNodes.{NormalOutcomes}
use Rattle.tla_meaning.proofs.NormalLaw.{NormalDef, NormalScope, meaning_normal}
use Rattle.kernel_trees.specs.Trees.{names_of}
use Rattle.kernel_shapes.specs.Laws.{IsNormal}
use Rattle.kernel_reduction.specs.Reduction.{Numbering, Matched, numbered, all_fresh}
use Rattle.kernel_reduction.proofs.Tying.{tied_bind}

normal_scope : (a : Scope) → AllByRecursion (λ b. Normal b.1) a.bound → a.named ≡ [] → NormalScope a
normal_scope a h q = record { bound = h; named = subst (λ ds. AllByRecursion (λ e. NormalDef e.1) ds) (sym q) tt }

-- what a tree gives is normal
pub outcome_normal : (w : Width) (e : Expr) (a : Scope) (s t : State) → IsNormal a s t → IsNormalOutcome (val w e a s t)
outcome_normal w e a s t n = (meaning_normal w e a (normal_scope a n.bound n.named)).value s t n.now n.next

bound_normal : (xs : List (List ℕ)) (vs : List Value) → Normals vs →
    AllByRecursion (λ (b : List ℕ × Value). Normal b.1) (bound_to xs vs)
bound_normal [] vs h = tt
bound_normal (x ∷ xs) [] h = (truth_normal false, bound_normal xs [] h)
bound_normal (x ∷ xs) (v ∷ vs) h = (h.0, bound_normal xs vs h.1)

pub bind_normal : (xs : List (List ℕ)) (vs : List Value) (a : Scope) (s t : State) → Normals vs → IsNormal a s t →
    IsNormal (bind xs vs a) s t
bind_normal xs vs a s t h n = record {
  bound = all_plus (λ b. Normal b.1) a.bound (bound_to xs vs) n.bound (bound_normal xs vs h);
  named = n.named;
  now = n.now;
  next = n.next;
}

-- under the names of a binder
pub matched_bind : (xs : List (List ℕ)) (ns : List ℕ) (vs : List Value) (ρ : Numbering) (a b : Scope) (s t : State) →
    all_fresh xs ns ρ ≡ true → Normals vs →
    Matched ρ a b s t → Matched (numbered xs ns ρ) (bind xs vs a) (bind (names_of ns) vs b) s t
matched_bind xs ns vs ρ a b s t f h r =
    record { tied = tied_bind xs ns vs ρ a b f r.tied; normal = bind_normal xs vs a s t h r.normal }

-- ---- binders

pub values_normal : (os : List Outcome) → NormalOutcomes os → Normals (values os)
values_normal [] h = tt
values_normal (Val v ∷ os) h = (h.0, values_normal os h.1)
values_normal (Wrong q ∷ os) h = values_normal os h.1
values_normal (Big q ∷ os) h = values_normal os h.1

abbrev pub of_sets : Place → Op → List Outcome → (List Value → Outcome) → Outcome
of_sets p o os body = strict os (on_all_sets p (λ xss. strict (map body (choices xss)) (bound_table p o (choices xss))))

each_same : (f g : List Value → Outcome) → ((vs : List Value) → Normals vs → f vs ≡ g vs) → (cs : List (List Value)) →
    NormalLists cs → map f cs ≡ map g cs
each_same f g h [] k = refl
each_same f g h (c ∷ cs) k = λ i. h c k.0 i ∷ each_same f g h cs k.1 i

-- bodies that agree at normal members
pub over_same : (p : Place) (o : Op) (os : List Outcome) (f g : List Value → Outcome) → NormalOutcomes os →
    ((vs : List Value) → Normals vs → f vs ≡ g vs) →
    of_sets p o os f ≡ of_sets p o os g
over_same p o os f g n h =
    ap (fault_or (joined os)) (by (all_set_items (values os)) (all_items_normal (values os) (values_normal os n)))
  where
    by : (x : Option (List (List Value))) → IfSomes (λ xss. AllByRecursion NormalSet xss) x →
        elim x as (λ _.
        Outcome) [ None ↦ Wrong p | Some xss ↦ strict (map f (choices xss)) (bound_table p o (choices xss)) ]
        ≡ elim x as (λ _.
        Outcome) [ None ↦ Wrong p | Some xss ↦ strict (map g (choices xss)) (bound_table p o (choices xss)) ]
    by None k = refl
    by (Some xss) k =
        ap (λ zs. strict zs (bound_table p o (choices xss)))
        (each_same f g h (choices xss) (choices_normal xss (lists_of xss k)))

-- ---- folds

folded_same : (f g : Value → Value → Outcome) → ((u v : Value) → Normal u → Normal v → f u v ≡ g u v) →
    ((u v : Value) → Normal u → Normal v → IsNormalOutcome (f u v)) →
    (xs : List Value) (v : Value) → Normals xs → Normal v → folded f xs v ≡ folded g xs v
folded_same f g h k [] v n m = refl
folded_same f g h k (x ∷ xs) v n m =
    by (λ u l. folded_same f g h k xs u n.1 l) (f v x) (k v x m n.0)
    ∙ ap (λ o. with_value o (folded g xs)) (h v x m n.0)
  where
    by : ((u : Value) → Normal u → folded f xs u ≡ folded g xs u) → (o : Outcome) → IsNormalOutcome o →
        with_value o (folded f xs) ≡ with_value o (folded g xs)
    by rest (Val u) l = rest u l
    by rest (Wrong q) l = refl
    by rest (Big q) l = refl

-- bodies that agree at normal values
pub fold_same : (p : Place) (os : List Outcome) (f g : Value → Value → Outcome) → NormalOutcomes os →
    ((u v : Value) → Normal u → Normal v → f u v ≡ g u v) →
    ((u v : Value) → Normal u → Normal v → IsNormalOutcome (f u v)) →
    strict os (fold_over p f) ≡ strict os (fold_over p g)
fold_same p os f g n h k = ap (fault_or (joined os)) (by (values os) (values_normal os n))
  where
    on_layer : (l : Layer Value) (v : Value) → Normal v → NormalLayer l →
        elim l as (λ _. Outcome) [ layer.Fun ps ↦ on_items p (λ xs. folded f xs v) (items_of ps) | _ ↦ Wrong p ]
        ≡ elim l as (λ _. Outcome) [ layer.Fun ps ↦ on_items p (λ xs. folded g xs v) (items_of ps) | _ ↦ Wrong p ]
    on_layer (layer.Fun ps) v m l = by_items (items_of ps) (items_of_normal ps l)
      where
        by_items : (o : Option (List Value)) → IfSomes Normals o →
            on_items p (λ xs. folded f xs v) o ≡ on_items p (λ xs. folded g xs v) o
        by_items None l = refl
        by_items (Some xs) l = folded_same f g h k xs v l m
    on_layer l v m r = refl

    by : (vs : List Value) → Normals vs → fold_over p f vs ≡ fold_over p g vs
    by [] m = refl
    by (v ∷ []) m = refl
    by (v ∷ q ∷ []) m = on_layer (out-Value q) v m.0 (layer_normal q m.1.0)
    by (v ∷ q ∷ x ∷ vs) m = refl
