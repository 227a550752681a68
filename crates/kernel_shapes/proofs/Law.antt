-- The law of shapes: each value that an expression has under a width fits its shape.
use Rattle.std.proofs.Common.{◌≡◌, ℕ, zero, suc, Bool, true, false, ◌&&◌, IsTrue, List, [], ◌∷◌, ◌++◌, map, zip, not, ◌≤◌, length, take, drop, nat_eq, Option, Some, None, ℤ, refl, sym, ap, subst, if◌then◌else◌, arith}
use Rattle.std.specs.Prelude.{slice_get, option_and_then, is_some}
use Rattle.std.specs.List.{list_all}
use Rattle.std.proofs.lemmas.Int.{ints}
use Rattle.tla_values.specs.declared.value.Value.{Value, out-Value}
use Rattle.tla_values.specs.declared.value.Value.TheVariants as value
use Rattle.tla_meaning.specs.declared.expr.Expr.{Expr, roll-Expr}
use Rattle.tla_meaning.specs.declared.expr.Expr.TheOpen.{Expr-F}
use Rattle.tla_meaning.specs.declared.expr.Expr.TheFolds.{fold-roll-Expr, map-Expr}
use Rattle.tla_meaning.specs.declared.op.Op.{Op}
use Rattle.tla_meaning.specs.declared.op.Op.TheVariants as op
use Rattle.tla_meaning.specs.declared.place.Place.{Place}
use Rattle.tla_meaning.specs.declared.job.State.{State}
use Rattle.tla_meaning.specs.declared.outcome.Outcome.{Outcome}
use Rattle.tla_meaning.specs.declared.outcome.Outcome.TheVariants.{Val, Wrong, Big}
use Rattle.tla_meaning.specs.Numbers.{number, in_width}
use Rattle.tla_meaning.specs.Outcomes.{strict, join_faults}
use Rattle.tla_meaning.specs.declared.outcome.Fault.{Fault}
use Rattle.tla_meaning.specs.declared.outcome.Fault.TheVariants.{NoFault, IsWrong, IsBig}
use Rattle.tla_meaning.specs.Operators.{table, yes_no}
use Rattle.tla_meaning.specs.Forms.{Formed, Made, Broken, is_set_form, form_fault, belongs}
use Rattle.tla_meaning.specs.declared.forms.SetForm.{SetForm}
use Rattle.tla_meaning.specs.Scopes.{Scope, bind, bound_to, find_last, or_else, same_text, value_found}
use Rattle.tla_meaning.specs.Meaning.{Meaning, View, outcomes, forms, role, outer, inner, view, value_of, in_form, all_in, argument, bound_table}
use Rattle.tla_meaning.specs.Shapes.{set_items, choices, the_set, the_function}
use Rattle.tla_meaning.specs.Actions.{node, meaning, denotation_of}
use Rattle.tla_meaning.proofs.MeaningLemmas.{meaning-roll}
use Rattle.kernel_shapes.proofs.TreeLemmas.{Each, by_nodes, parts_of, tree-roll}
use Rattle.tla_meaning.proofs.Views.{and_left, and_right, false≢true}
use Rattle.kernel_shapes.specs.Shape.{Shape, Atom, Set, Fun, interval}
use Rattle.kernel_shapes.specs.Fits.{BoundFit, FitsLayer, Fits, FitAll, StateFits}
use Rattle.kernel_shapes.specs.Laws.{FitsItsShape, Ready}
use Rattle.kernel_trees.specs.TypeKinds as kind
use Rattle.kernel_trees.specs.TypeKinds.{Kind}
use Rattle.kernel_shapes.specs.Rows.{Literal, no_literal, Row, the_tuples, the_records, a_power, a_merge, a_record, the_arguments, the_places, the_names, a_truth, a_sum, a_difference, a_product, a_negation, a_quotient, a_remainder, a_size, an_enumeration, a_range, a_union, a_part, the_truths, an_application, a_field, a_big_union, a_single, a_length, a_head, a_shorter, an_append, a_concatenation, a_sequence, a_tuple, a_map, a_function, row_shape, product_of, nth, but_last, last_of, argument_of}
use Rattle.kernel_shapes.specs.Sized.{Extent, Sized, plain, Sizing, Seen, found, bound_shapes, bind_shapes, outside, underneath, seen, shapes_of, child_at, body, all_sound, family_sound, row_joins, index_of, sized, is_sequence, is_sequence}
use Rattle.kernel_shapes.specs.Trees.{SizedTree, tree_sized, family_with, domain_row, exponent, read_shape, marks_of, sizings, kinds_of, first_kind, sized_node}
use Rattle.tla_meaning.specs.Expanded.{is_expanded_op, is_expanded}
use Rattle.kernel_shapes.proofs.FitLemmas.{IfVal, AllFit, IsSet, is_set, weaker}
use Rattle.kernel_shapes.proofs.Intervals.{Between}
use Rattle.kernel_shapes.proofs.Operators.{fits_truth, number_fits}
use Rattle.kernel_shapes.proofs.Combine.{Meets, Kid, KidsFit, MeetAll, kid_fits, strict_meets, strict_any, IsTruth, yes_fits, conjoined_fits, disjoined_fits, implied_fits, if_fits, case_fits}
use Rattle.kernel_shapes.proofs.Binders.{over_fits, exists_fits, forall_fits, map_fits, filter_fits, fold_fits, SetsFit}
use Rattle.kernel_shapes.proofs.Sequences.{length_gives, head_gives, tail_gives, append_gives, concat_gives, sequence_gives, tuple_gives, part_gives}
use Rattle.kernel_shapes.proofs.SetsOfSets.{functions_give, big_union_gives}
use Rattle.kernel_shapes.proofs.Lambdas.{lambda_fits}
use Rattle.kernel_shapes.proofs.Singles.{single_gives, merge_gives}
use Rattle.kernel_shapes.proofs.Records.{record_gives, tuples_give, records_give}
use Rattle.kernel_shapes.proofs.Domains.{arguments_give, places_give, names_give}
use Rattle.kernel_shapes.proofs.Powers.{power_gives}
use Rattle.kernel_shapes.proofs.Excepts.{except_fits}
use Rattle.kernel_shapes.proofs.Tables.{Gives, apply_gives, field_gives, not_gives, iff_gives, eq_gives, ne_gives, assign_gives, less_gives, greater_gives, at_most_gives, at_least_gives, finite_gives, truths_give, sum_gives, difference_gives, product_gives, negation_gives, quotient_gives, remainder_gives, range_gives, enumeration_gives, union_gives, inter_gives, minus_gives, subsets_give, size_gives}

-- ---- names

-- what is read of a name on both sides
abbrev pub FoundFits : Option Value → Option Shape → Type 0
FoundFits None None = Unit {0}
FoundFits (Some v) (Some a) = Fits a v
FoundFits None (Some a) = ⊥
FoundFits (Some v) None = ⊥

else_fits : (o o' : Option Value) (q q' : Option Shape) → FoundFits o q → FoundFits o' q' → FoundFits (or_else o o') (or_else q q')
else_fits None o' None q' h k = k
else_fits None o' (Some a) q' h k = absurd h
else_fits (Some v) o' (Some a) q' h k = h
else_fits (Some v) o' None q' h k = absurd h

test_fits : (b : Bool) (v : Value) (a : Shape) → Fits a v → FoundFits (if b then Some v else None) (if b then Some a else None)
test_fits true v a h = h
test_fits false v a h = tt

last_fits : (x : List ℕ) (es : List (List ℕ × Value)) (bs : List (List ℕ × Shape)) → BoundFit es bs → FoundFits (find_last x es) (find_last x bs)
last_fits x [] [] h = tt
last_fits x [] (b ∷ bs) h = absurd h
last_fits x (e ∷ es) [] h = absurd h
last_fits x (e ∷ es) (b ∷ bs) h =
    else_fits (find_last x es) (if same_text x e.0 then Some e.1 else None) (find_last x bs) (if same_text x b.0 then Some b.1 else None) (last_fits x es bs h.2)
    (subst (λ (y : List ℕ). FoundFits (if same_text x e.0 then Some e.1 else None) (if same_text x y then Some b.1 else None)) h.0 (test_fits (same_text x e.0) e.1 b.1 h.1))

bound_plus : (es fs : List (List ℕ × Value)) (bs cs : List (List ℕ × Shape)) → BoundFit es bs → BoundFit fs cs → BoundFit (es ++ fs) (bs ++ cs)
bound_plus [] fs [] cs h k = k
bound_plus (e ∷ es) fs (b ∷ bs) cs h k = (h.0, h.1, bound_plus es fs bs cs h.2 k)
bound_plus [] fs (b ∷ bs) cs h k = absurd h
bound_plus (e ∷ es) fs [] cs h k = absurd h

bound_fits : (xs : List (List ℕ)) (vs : List Value) (as' : List Shape) → FitAll as' vs → BoundFit (bound_to xs vs) (bound_shapes xs as')
bound_fits [] vs as' h = tt
bound_fits (x ∷ xs) [] [] h = (refl, fits_truth false, bound_fits xs [] [] h)
bound_fits (x ∷ xs) (v ∷ vs) (a ∷ as') h = (refl, h.0, bound_fits xs vs as' h.1)
bound_fits (x ∷ xs) [] (a ∷ as') h = absurd h
bound_fits (x ∷ xs) (v ∷ vs) [] h = absurd h

found_meets : (p : Place) (o : Option Value) (q : Option Shape) → FoundFits o q → IfVal (Fits (found q)) (value_found p o)
found_meets p None q h = tt
found_meets p (Some v) (Some a) h = h
found_meets p (Some v) None h = absurd h

-- a name of the state, where it has a shape
state_reads : (p : Place) (i : ℕ) (os : List (Option Shape)) (vs : List Value) → StateFits os vs → IsTrue (is_some (option_and_then (λ o. o) (slice_get os i))) →
    IfVal (Fits (found (option_and_then (λ o. o) (slice_get os i)))) (value_found p (slice_get vs i))
state_reads p i [] [] h e = tt
state_reads p i [] (v ∷ vs) h e = absurd h
state_reads p i (o ∷ os) [] h e = tt
state_reads p zero (Some a ∷ os) (v ∷ vs) h e = h.0
state_reads p zero (None ∷ os) (v ∷ vs) h e = absurd (false≢true e)
state_reads p (suc i) (o ∷ os) (v ∷ vs) h e = state_reads p i os vs h.1 e

-- ---- children

-- what an expression means, and what is computed of it, at every scope and extent that fit, and at states that fit the extent
abbrev pub Fitting : Meaning → Sizing → Type 0
Fitting k l = (sc : Scope) (g : Extent) (s t : State) → Ready sc g s t → Kid s t (k sc) (l g)

abbrev pub FittingAll : List Meaning → List Sizing → Type 0
FittingAll [] [] = Unit {0}
FittingAll (k ∷ ks) (l ∷ ls) = Fitting k l × FittingAll ks ls
FittingAll [] (l ∷ ls) = ⊥
FittingAll (k ∷ ks) [] = ⊥

outer_fits : (p : Place) (ms : List Bool) (ks : List Meaning) (ls : List Sizing) → FittingAll ks ls → (sc : Scope) (g : Extent) (s t : State) → Ready sc g s t →
    KidsFit s t (outer p ms ks sc) (outside ms ls g)
outer_fits p ms [] [] h sc g s t r = tt
outer_fits p ms [] (l ∷ ls) h sc g s t r = absurd h
outer_fits p ms (k ∷ ks) [] h sc g s t r = absurd h
outer_fits p [] (k ∷ ks) (l ∷ ls) h sc g s t r = (h.0 sc g s t r, outer_fits p [] ks ls h.1 sc g s t r)
outer_fits p (true ∷ ms) (k ∷ ks) (l ∷ ls) h sc g s t r = ((λ e. tt), outer_fits p ms ks ls h.1 sc g s t r)
outer_fits p (false ∷ ms) (k ∷ ks) (l ∷ ls) h sc g s t r = (h.0 sc g s t r, outer_fits p ms ks ls h.1 sc g s t r)

inner_fits : (p : Place) (ms : List Bool) (ks : List Meaning) (ls : List Sizing) → FittingAll ks ls → (sc : Scope) (g : Extent) (s t : State) → Ready sc g s t →
    KidsFit s t (inner p ms ks sc) (underneath ms ls g)
inner_fits p ms [] [] h sc g s t r = tt
inner_fits p ms [] (l ∷ ls) h sc g s t r = absurd h
inner_fits p ms (k ∷ ks) [] h sc g s t r = absurd h
inner_fits p [] (k ∷ ks) (l ∷ ls) h sc g s t r = ((λ e. tt), inner_fits p [] ks ls h.1 sc g s t r)
inner_fits p (true ∷ ms) (k ∷ ks) (l ∷ ls) h sc g s t r = (h.0 sc g s t r, inner_fits p ms ks ls h.1 sc g s t r)
inner_fits p (false ∷ ms) (k ∷ ks) (l ∷ ls) h sc g s t r = ((λ e. tt), inner_fits p ms ks ls h.1 sc g s t r)

pub bind_ready : (xs : List (List ℕ)) (vs : List Value) (as' : List Shape) (sc : Scope) (g : Extent) (s t : State) → FitAll as' vs → Ready sc g s t → Ready (bind xs vs sc) (bind_shapes xs as' g) s t
bind_ready xs vs as' sc g s t h r = record {
  bound = bound_plus sc.bound (bound_to xs vs) g.bound (bound_shapes xs as') r.bound (bound_fits xs vs as' h);
  now = r.now;
  next = r.next;
}

-- ---- a node

pub record ViewFits (s t : State) (v : View) (u : Seen) : Type 0 where
  pub here : KidsFit s t v.here u.here
  pub under : (vs : List Value) (as' : List Shape) → FitAll as' vs → KidsFit s t (v.under vs) (u.under as')

no_more : (a : Shape) (o : Outcome) → IfVal (Fits a) o → IfVal (λ v. Fits a v × Unit {0}) o
no_more a o h = weaker _ _ o (λ v k. (k, tt)) h

-- an operator that joins its operands
joining : (w : ℕ) (p : Place) (o : Op) (r : Row) (v : View) (u : Seen) (s t : State) → ViewFits s t v u → IsTrue (all_sound u.here && row_joins r (index_of u.here) (shapes_of u.here)) →
    ((vs : List Value) → MeetAll u.here vs → IsTrue (row_joins r (index_of u.here) (shapes_of u.here)) → Gives w p o r u.here vs) →
    IfVal (λ v. Fits (row_shape w r (index_of u.here) (shapes_of u.here)) v × Unit {0}) (strict (outcomes v.here s t) (table (Some w) p o))
joining w p o r v u s t h e k =
    no_more (row_shape w r (index_of u.here) (shapes_of u.here)) (strict (outcomes v.here s t) (table (Some w) p o))
    (strict_meets _ s t v.here u.here (table (Some w) p o) h.here (and_left (all_sound u.here) _ e) (λ vs m. k vs m (and_right (all_sound u.here) _ e)))

told : (p : Place) (f : Fault) → IsTruth (elim f [ NoFault ↦ Wrong p | IsWrong q ↦ Wrong q | IsBig q ↦ Big q ])
told p NoFault = tt
told p (IsWrong q) = tt
told p (IsBig q) = tt

in_truth : (p : Place) (test : Value → SetForm → Outcome) → ((v : Value) (f : SetForm) → IsTruth (test v f)) → (os : List Outcome) (fs : List Formed) → IsTruth (in_form p test os fs)
in_truth p test r (Val v ∷ os) (d ∷ Made f ∷ []) = by_kind (is_set_form f)
  where
    by_kind : (b : Bool) → IsTruth (if b then test v f else Wrong p)
    by_kind true = r v f
    by_kind false = tt
in_truth p test r (Val v ∷ os) (d ∷ Broken f ∷ []) = told p (join_faults NoFault f)
in_truth p test r (Wrong q ∷ os) (d ∷ f ∷ []) = told p (join_faults (IsWrong q) (form_fault f))
in_truth p test r (Big q ∷ os) (d ∷ f ∷ []) = told p (join_faults (IsBig q) (form_fault f))
in_truth p test r os fs = tt

all_in_truth : (p : Place) (v : Value) (f : SetForm) → IsTruth (all_in p v f)
all_in_truth p v f = by_items (set_items (out-Value v))
  where
    by_items : (o : Option (List Value)) → IsTruth (elim o [ None ↦ Wrong p | Some xs ↦ yes_no (list_all (belongs f) xs) ])
    by_items None = tt
    by_items (Some xs) = yes_fits (list_all (belongs f) xs)

literal_number : (w : ℕ) (p : Place) (i : ℤ) → IfVal (λ v. Fits (interval w i i) v × (v ≡ value.Int i)) (number (Some w) p i)
literal_number w p i = by (in_width (Some w) i) refl
  where
    by : (b : Bool) → in_width (Some w) i ≡ b → IfVal (λ v. Fits (interval w i i) v × (v ≡ value.Int i)) (if b then Val (value.Int i) else Big p)
    by true e =
        let h : Between i i i = record { low = omega (arith, ints); high = omega (arith, ints) } in
        (subst (λ (b : Bool). IfVal (Fits (interval w i i)) (if b then Val (value.Int i) else Big p)) e (number_fits w p i i i h), refl)
    by false e = tt

first_sound : (as' : List Sized) → IsTrue (all_sound as') → IsTrue (child_at 0 as').sound
first_sound [] e = refl
first_sound (a ∷ as') e = and_left a.sound (all_sound as') e

one_bound : (n : ℕ) → IsTrue (nat_eq n 1) → n ≡ 1
one_bound n e = grind arith

-- what is no name
abbrev pub not_name : Op → Bool
not_name (op.Name i primed) = false
not_name (op.Bound x) = false
not_name o = true

pub but_last_end : (as' : List Shape) (b : Shape) → but_last (as' ++ b ∷ []) ≡ as'
but_last_end [] b = refl
but_last_end (a ∷ []) b = refl
but_last_end (a ∷ c ∷ as') b = ap (λ (bs : List Shape). a ∷ bs) (but_last_end (c ∷ as') b)

pub last_end : (as' : List Shape) (b : Shape) → last_of (as' ++ b ∷ []) ≡ b
last_end [] b = refl
last_end (a ∷ []) b = refl
last_end (a ∷ c ∷ as') b = last_end (c ∷ as') b

mapped : (w n : ℕ) (as' : List Shape) (b : Shape) (xss : List (List Value)) (vs : List Value) → SetsFit as' xss → length vs ≡ length (choices xss) → AllFit b vs →
    Fits (row_shape w (a_map n) no_literal (as' ++ b ∷ [])) (the_set vs)
mapped w n as' b xss vs h e k =
    subst (λ (bs : List Shape). Fits (Set (product_of bs) (last_of (as' ++ b ∷ []))) (the_set vs)) (sym (but_last_end as' b))
    (subst (λ (c : Shape). Fits (Set (product_of as') c) (the_set vs)) (sym (last_end as' b)) (map_fits as' b xss vs h e k))

-- there is just one set
abbrev JustOne : List Shape → Type 0
JustOne [] = ⊥
JustOne (a ∷ []) = Unit {0}
JustOne (a ∷ b ∷ as') = ⊥

just_one : (n : ℕ) → n ≡ 1 → (as' : List Sized) → length as' ≡ 2 → JustOne (shapes_of (take n as'))
just_one n e as' l = subst (λ m. JustOne (shapes_of (take m as'))) (sym e) (by as' l)
  where
    none : (m : ℕ) → m ≡ 0 → m ≡ 2 → ⊥
    none m q r = omega (arith, q, r)

    by : (as' : List Sized) → length as' ≡ 2 → JustOne (shapes_of (take 1 as'))
    by [] l = absurd (none 0 refl l)
    by (a ∷ as') l = tt

kept_here : (w : ℕ) (p : Place) (n : ℕ) (as' : List Shape) (b : Shape) (xss : List (List Value)) (vs : List Value) → JustOne as' → SetsFit as' xss →
    IfVal (Fits (row_shape w a_part no_literal (as' ++ b ∷ []))) (bound_table p op.Filter (choices xss) vs)
kept_here w p n [] b xss vs o h = absurd o
kept_here w p n (a ∷ c ∷ as') b xss vs o h = absurd o
kept_here w p n (a ∷ []) b [] vs o h = absurd h
kept_here w p n (a ∷ []) b (xs ∷ ys ∷ xss) vs o h = absurd h.1
kept_here w p n (a ∷ []) b (xs ∷ []) vs o h = by a h.0
  where
    by : (a : Shape) → IsSet a xs → IfVal (Fits (row_shape w a_part no_literal (a ∷ b ∷ []))) (bound_table p op.Filter (choices (xs ∷ [])) vs)
    by _ (is_set {n = m} {a = c} l k) = filter_fits p (Set m c) xs vs (is_set l k)

made_here : (w n : ℕ) (as' : List Shape) (b : Shape) (xss : List (List Value)) (vs : List Value) → SetsFit as' xss → length vs ≡ length (choices xss) → AllFit b vs →
    Fits (row_shape w (a_function n) no_literal (as' ++ b ∷ [])) (the_function (zip (map argument (choices xss)) vs))
made_here w n as' b xss vs h e k =
    subst (λ (bs : List Shape). Fits (Fun (product_of bs) (argument_of bs) (last_of (as' ++ b ∷ []))) (the_function (zip (map argument (choices xss)) vs))) (sym (but_last_end as' b))
    (subst (λ (c : Shape). Fits (Fun (product_of as') (argument_of as') c) (the_function (zip (map argument (choices xss)) vs))) (sym (last_end as' b)) (lambda_fits as' b xss vs h e k))

two_children : (n : ℕ) → IsTrue (nat_eq n 2) → n ≡ 2
two_children n e = grind arith

-- DOMAIN by the type of its operand
domain_gives : (w : ℕ) (p : Place) (a : Kind) (v : View) (u : Seen) (s t : State) → ViewFits s t v u → IsTrue (family_sound (plain (domain_row a) no_literal) u) →
    IfVal (Meets (sized w p (plain (domain_row a) no_literal) u)) (strict (outcomes v.here s t) (table (Some w) p op.Domain))
domain_gives w p (kind.Fun k l) v u s t h g = joining w p op.Domain the_arguments v u s t h g (λ vs l r. arguments_give w p u.here vs l r)
domain_gives w p (kind.Rec fs) v u s t h g = joining w p op.Domain the_names v u s t h g (λ vs l r. names_give w p u.here vs l r)
domain_gives w p kind.Truth v u s t h g = joining w p op.Domain the_places v u s t h g (λ vs l r. places_give w p u.here vs l r)
domain_gives w p kind.Number v u s t h g = joining w p op.Domain the_places v u s t h g (λ vs l r. places_give w p u.here vs l r)
domain_gives w p (kind.Word x) v u s t h g = joining w p op.Domain the_places v u s t h g (λ vs l r. places_give w p u.here vs l r)
domain_gives w p (kind.Set k) v u s t h g = joining w p op.Domain the_places v u s t h g (λ vs l r. places_give w p u.here vs l r)
domain_gives w p (kind.Seq k) v u s t h g = joining w p op.Domain the_places v u s t h g (λ vs l r. places_give w p u.here vs l r)
domain_gives w p (kind.Tup ks) v u s t h g = joining w p op.Domain the_places v u s t h g (λ vs l r. places_give w p u.here vs l r)

never : (P : Value → Type 0) (p : Place) (os : List Outcome) → IfVal P (strict os (λ vs. Wrong p))
never P p os = strict_any P os (λ vs. Wrong p) (λ vs. tt)

-- a node of each operator
pub value_fits : (w : ℕ) (p : Place) (o : Op) (n : ℕ) (k : Kind) (ks : List Kind) (e : Literal) (ps : List Bool) (v : View) (u : Seen) (s t : State) → 2 ≤ w → IsTrue (is_expanded_op o) → ViewFits s t v u →
    IsTrue (not_name o) → IsTrue (family_sound (family_with o n k ks e ps) u) → IfVal (Meets (sized w p (family_with o n k ks e ps) u)) (value_of (Some w) p o n v s t)
value_fits w p (op.Bool b) n k ks e ps v u s t wide c h m g = (fits_truth b, tt)
value_fits w p (op.Int i) n k ks e ps v u s t wide c h m g = literal_number w p i
value_fits w p (op.Str x) n k ks e ps v u s t wide c h m g = (subst (FitsLayer Atom) (sym (value.outs-Text x)) tt, refl)
value_fits w p op.And n k ks e ps v u s t wide c h m g = no_more Atom _ (conjoined_fits p (outcomes v.here s t))
value_fits w p op.Or n k ks e ps v u s t wide c h m g = no_more Atom _ (disjoined_fits p (outcomes v.here s t))
value_fits w p op.Implies n k ks e ps v u s t wide c h m g = no_more Atom _ (implied_fits p (outcomes v.here s t))
value_fits w p op.If n k ks e ps v u s t wide c h m g =
    no_more _ _ (if_fits s t p v.here u.here h.here (and_left (all_sound u.here) _ g) (and_right (all_sound u.here) _ g))
value_fits w p op.In n k ks e ps v u s t wide c h m g = no_more Atom _ (in_truth p _ (λ x f. yes_fits (belongs f x)) (outcomes v.here s t) (forms v.here s t))
value_fits w p op.NotIn n k ks e ps v u s t wide c h m g = no_more Atom _ (in_truth p _ (λ x f. yes_fits (not (belongs f x))) (outcomes v.here s t) (forms v.here s t))
value_fits w p op.SubsetEq n k ks e ps v u s t wide c h m g = no_more Atom _ (in_truth p (all_in p) (all_in_truth p) (outcomes v.here s t) (forms v.here s t))
value_fits w p op.Not n k ks e ps v u s t wide c h m g = joining w p op.Not a_truth v u s t h g (λ vs l r. not_gives w p u.here vs)
value_fits w p op.Iff n k ks e ps v u s t wide c h m g = joining w p op.Iff a_truth v u s t h g (λ vs l r. iff_gives w p u.here vs)
value_fits w p op.Eq n k ks e ps v u s t wide c h m g = joining w p op.Eq a_truth v u s t h g (λ vs l r. eq_gives w p u.here vs)
value_fits w p op.Ne n k ks e ps v u s t wide c h m g = joining w p op.Ne a_truth v u s t h g (λ vs l r. ne_gives w p u.here vs)
value_fits w p op.Assign n k ks e ps v u s t wide c h m g = joining w p op.Assign a_truth v u s t h g (λ vs l r. assign_gives w p u.here vs)
value_fits w p op.Lt n k ks e ps v u s t wide c h m g = joining w p op.Lt a_truth v u s t h g (λ vs l r. less_gives w p u.here vs)
value_fits w p op.Gt n k ks e ps v u s t wide c h m g = joining w p op.Gt a_truth v u s t h g (λ vs l r. greater_gives w p u.here vs)
value_fits w p op.Le n k ks e ps v u s t wide c h m g = joining w p op.Le a_truth v u s t h g (λ vs l r. at_most_gives w p u.here vs)
value_fits w p op.Ge n k ks e ps v u s t wide c h m g = joining w p op.Ge a_truth v u s t h g (λ vs l r. at_least_gives w p u.here vs)
value_fits w p op.IsFinite n k ks e ps v u s t wide c h m g = joining w p op.IsFinite a_truth v u s t h g (λ vs l r. finite_gives w p u.here vs)
value_fits w p op.BooleanSet n k ks e ps v u s t wide c h m g = joining w p op.BooleanSet the_truths v u s t h g (λ vs l r. truths_give w p u.here vs)
value_fits w p op.Add n k ks e ps v u s t wide c h m g = joining w p op.Add a_sum v u s t h g (λ vs l r. sum_gives w p u.here vs l)
value_fits w p op.Sub n k ks e ps v u s t wide c h m g = joining w p op.Sub a_difference v u s t h g (λ vs l r. difference_gives w p u.here vs l)
value_fits w p op.Mul n k ks e ps v u s t wide c h m g = joining w p op.Mul a_product v u s t h g (λ vs l r. product_gives w p u.here vs l)
value_fits w p op.Neg n k ks e ps v u s t wide c h m g = joining w p op.Neg a_negation v u s t h g (λ vs l r. negation_gives w p u.here vs l)
value_fits w p op.Div n k ks e ps v u s t wide c h m g = joining w p op.Div a_quotient v u s t h g (λ vs l r. quotient_gives w p u.here vs l)
value_fits w p op.Mod n k ks e ps v u s t wide c h m g = joining w p op.Mod a_remainder v u s t h g (λ vs l r. remainder_gives w p u.here vs l)
value_fits w p op.Range n k ks e ps v u s t wide c h m g = joining w p op.Range a_range v u s t h g (λ vs l r. range_gives w p u.here vs l)
value_fits w p op.SetEnum n k ks e ps v u s t wide c h m g = joining w p op.SetEnum an_enumeration v u s t h g (λ vs l r. enumeration_gives w p u.here vs l r)
value_fits w p op.Cup n k ks e ps v u s t wide c h m g = joining w p op.Cup a_union v u s t h g (λ vs l r. union_gives w p u.here vs l r)
value_fits w p op.Cap n k ks e ps v u s t wide c h m g = joining w p op.Cap a_part v u s t h g (λ vs l r. inter_gives w p u.here vs l)
value_fits w p op.Minus n k ks e ps v u s t wide c h m g = joining w p op.Minus a_part v u s t h g (λ vs l r. minus_gives w p u.here vs l)
value_fits w p op.Cardinality n k ks e ps v u s t wide c h m g = joining w p op.Cardinality a_size v u s t h g (λ vs l r. size_gives w p u.here vs l)
value_fits w p op.Apply n k ks e ps v u s t wide c h m g = joining w p op.Apply an_application v u s t h g (λ vs l r. apply_gives w p u.here vs l r)
value_fits w p (op.Field x) n k ks e ps v u s t wide c h m g = joining w p (op.Field x) (a_field x) v u s t h g (λ vs l r. field_gives w p x u.here vs l r)
value_fits w p op.Len n k ks e ps v u s t wide c h m g = joining w p op.Len a_length v u s t h g (λ vs l r. length_gives w p u.here vs l r)
value_fits w p op.Head n k ks e ps v u s t wide c h m g = joining w p op.Head a_head v u s t h g (λ vs l r. head_gives w p u.here vs l r)
value_fits w p op.Tail n k ks e ps v u s t wide c h m g = joining w p op.Tail a_shorter v u s t h g (λ vs l r. tail_gives w p u.here vs l r)
value_fits w p op.Append n k ks e ps v u s t wide c h m g = joining w p op.Append an_append v u s t h g (λ vs l r. append_gives w p u.here vs l r)
value_fits w p op.Concat n k ks e ps v u s t wide c h m g = joining w p op.Concat a_concatenation v u s t h g (λ vs l r. concat_gives w p u.here vs l r)
value_fits w p op.Tuple n (kind.Seq k) ks e ps v u s t wide c h m g = joining w p op.Tuple a_sequence v u s t h g (λ vs l r. sequence_gives w p u.here vs l r)
value_fits w p op.Tuple n kind.Truth ks e ps v u s t wide c h m g = joining w p op.Tuple a_tuple v u s t h g (λ vs l r. tuple_gives w p u.here vs l)
value_fits w p op.Tuple n kind.Number ks e ps v u s t wide c h m g = joining w p op.Tuple a_tuple v u s t h g (λ vs l r. tuple_gives w p u.here vs l)
value_fits w p op.Tuple n (kind.Word x) ks e ps v u s t wide c h m g = joining w p op.Tuple a_tuple v u s t h g (λ vs l r. tuple_gives w p u.here vs l)
value_fits w p op.Tuple n (kind.Set k) ks e ps v u s t wide c h m g = joining w p op.Tuple a_tuple v u s t h g (λ vs l r. tuple_gives w p u.here vs l)
value_fits w p op.Tuple n (kind.Fun k l) ks e ps v u s t wide c h m g = joining w p op.Tuple a_tuple v u s t h g (λ vs l r. tuple_gives w p u.here vs l)
value_fits w p op.Tuple n (kind.Rec fs) ks e ps v u s t wide c h m g = joining w p op.Tuple a_tuple v u s t h g (λ vs l r. tuple_gives w p u.here vs l)
value_fits w p op.Tuple n (kind.Tup js) ks e ps v u s t wide c h m g = joining w p op.Tuple a_tuple v u s t h g (λ vs l r. tuple_gives w p u.here vs l)
value_fits w p (op.Case other) n k ks e ps v u s t wide c h m g =
    no_more _ _ (case_fits s t p v.here u.here h.here (and_left (all_sound u.here) _ g) (and_right (all_sound u.here) _ g))
value_fits w p op.Pow n k ks e ps v u s t wide c h m g =
    joining w p op.Pow (a_power (exponent e)) v u s t h g (λ vs l r. power_gives w p wide (exponent e) u.here vs l r)
value_fits w p op.Product n k ks e ps v u s t wide c h m g =
    no_more (row_shape w the_tuples no_literal (shapes_of u.here)) _ (strict_meets _ s t v.here u.here (table (Some w) p op.Product) h.here (and_left (all_sound u.here) _ g) (λ vs l. tuples_give w p u.here vs l))
value_fits w p (op.RecSet xs) n k ks e ps v u s t wide c h m g =
    no_more (row_shape w (the_records xs) no_literal (shapes_of u.here)) _ (strict_meets _ s t v.here u.here (table (Some w) p (op.RecSet xs)) h.here (and_left (all_sound u.here) _ g)
    (λ vs l. records_give w p xs u.here vs l (and_right (all_sound u.here) _ g)))
value_fits w p op.Merge n k ks e ps v u s t wide c h m g = joining w p op.Merge a_merge v u s t h g (λ vs l r. merge_gives w p u.here vs l r)
value_fits w p (op.Record xs) n k ks e ps v u s t wide c h m g = joining w p (op.Record xs) (a_record xs) v u s t h g (λ vs l r. record_gives w p xs u.here vs l r)
value_fits w p op.SubSeq n k ks e ps v u s t wide c h m g = joining w p op.SubSeq a_shorter v u s t h g (λ vs l r. part_gives w p u.here vs l r)
value_fits w p op.Domain n k ks e ps v u s t wide c h m g = domain_gives w p (nth kind.Truth 0 ks) v u s t h g
value_fits w p op.BigUnion n k ks e ps v u s t wide c h m g = joining w p op.BigUnion a_big_union v u s t h g (λ vs l r. big_union_gives w p u.here vs l)
value_fits w p op.FunSet n k ks e ps v u s t wide c h m g =
    no_more _ _ (strict_meets _ s t v.here u.here (table (Some w) p op.FunSet) h.here g (λ vs l. functions_give w p u.here vs l))
value_fits w p op.Single n k ks e ps v u s t wide c h m g = joining w p op.Single a_single v u s t h g (λ vs l r. single_gives w p u.here vs l)
value_fits w p op.Powerset n k ks e ps v u s t wide c h m g =
    no_more _ _ (strict_meets _ s t v.here u.here (table (Some w) p op.Powerset) h.here g (λ vs l. subsets_give w p u.here vs l))
value_fits w p op.Exists n k ks e ps v u s t wide c h m g =
    no_more Atom _ (over_fits _ s t p op.Exists n v u h.here h.under (and_left (all_sound (take n u.here)) _ g) (and_right (all_sound (take n u.here)) _ g) (λ xss vs y q z. exists_fits p (choices xss) vs))
value_fits w p op.Forall n k ks e ps v u s t wide c h m g =
    no_more Atom _ (over_fits _ s t p op.Forall n v u h.here h.under (and_left (all_sound (take n u.here)) _ g) (and_right (all_sound (take n u.here)) _ g) (λ xss vs y q z. forall_fits p (choices xss) vs))
value_fits w p op.MapTo n k ks e ps v u s t wide c h m g =
    no_more (row_shape w (a_map n) no_literal (shapes_of (take n u.here) ++ (body n u).shape ∷ [])) _ (over_fits _ s t p op.MapTo n v u h.here h.under (and_left (all_sound (take n u.here)) _ g) (and_right (all_sound (take n u.here)) _ g) (λ xss vs y q z.
    mapped w n (shapes_of (take n u.here)) (body n u).shape xss vs y q z))
value_fits w p op.Filter n k ks e ps v u s t wide c h m g =
    let c0 = and_left (nat_eq n 1 && nat_eq (length u.here) 2) (all_sound (take n u.here) && (body n u).sound) g in
    let g0 = and_right (nat_eq n 1 && nat_eq (length u.here) 2) (all_sound (take n u.here) && (body n u).sound) g in
    no_more _ _ (over_fits _ s t p op.Filter n v u h.here h.under (and_left (all_sound (take n u.here)) _ g0) (and_right (all_sound (take n u.here)) _ g0) (λ xss vs y q z.
    kept_here w p n (shapes_of (take n u.here)) (body n u).shape xss vs (just_one n (one_bound n (and_left (nat_eq n 1) _ c0)) u.here (two_children (length u.here) (and_right (nat_eq n 1) _ c0))) y))
value_fits w p op.Lambda n k ks e ps v u s t wide c h m g =
    no_more (row_shape w (a_function n) no_literal (shapes_of (take n u.here) ++ (body n u).shape ∷ [])) _ (over_fits _ s t p op.Lambda n v u h.here h.under (and_left (all_sound (take n u.here)) _ g) (and_right (all_sound (take n u.here)) _ g) (λ xss vs y q z.
    made_here w n (shapes_of (take n u.here)) (body n u).shape xss vs y q z))
value_fits w p (op.Except ns) n k ks e ps v u s t wide c h m g = no_more _ _ (except_fits s t p ns v.here u.here v.under u.under h.here h.under g)
value_fits w p op.Fold n k ks e ps v u s t wide c h m g =
    let g1 = and_right (all_sound (drop 1 u.here)) _ g in
    no_more _ _ (fold_fits s t p v u h.here h.under (and_left (all_sound (drop 1 u.here)) _ g) (and_left (is_sequence (child_at 2 u.here).shape) _ g1)
    (and_right (is_sequence (child_at 2 u.here).shape) _ g1))
value_fits w p op.IntSet n k ks e ps v u s t wide c h m g = never (Meets (sized w p (family_with op.IntSet n k ks e ps) u)) p (outcomes v.here s t)
value_fits w p op.NatSet n k ks e ps v u s t wide c h m g = never (Meets (sized w p (family_with op.NatSet n k ks e ps) u)) p (outcomes v.here s t)
value_fits w p op.StringSet n k ks e ps v u s t wide c h m g = never (Meets (sized w p (family_with op.StringSet n k ks e ps) u)) p (outcomes v.here s t)
value_fits w p (op.Outside x) n k ks e ps v u s t wide c h m g = never (Meets (sized w p (family_with (op.Outside x) n k ks e ps) u)) p (outcomes v.here s t)
value_fits w p op.SeqSet n k ks e ps v u s t wide c h m g = never (Meets (sized w p (family_with op.SeqSet n k ks e ps) u)) p (outcomes v.here s t)
value_fits w p (op.Noted x) n k ks e ps v u s t wide c h m g = kid_fits s t p 0 v.here u.here h.here (first_sound u.here g)
value_fits w p (op.Name i primed) n k ks e ps v u s t wide c h m g = absurd (false≢true m)
value_fits w p (op.Bound x) n k ks e ps v u s t wide c h m g = absurd (false≢true m)
value_fits w p o n k ks e ps v u s t wide c h m g = absurd (false≢true c)

-- ---- trees

-- one layer, by its children
node_fits : (w : ℕ) (p : Place) (o : Op) (xs : List (List ℕ)) (ps : List Bool) (k : Kind) (kinds : List Kind) (ks : List Meaning) (ls : List Sizing) → 2 ≤ w → IsTrue (is_expanded_op o) → FittingAll ks ls →
    Fitting (λ sc. denotation_of (Some w) p o (length xs) (view p (role o (length xs)) xs ks sc)) (sized_node w p o xs ps k kinds ls)
node_fits w p (op.Name i true) xs ps k kinds ks ls wide c f sc g s t r e = no_more _ _ (state_reads p i g.next t.vals r.next e)
node_fits w p (op.Name i false) xs ps k kinds ks ls wide c f sc g s t r e = no_more _ _ (state_reads p i g.now s.vals r.now e)
node_fits w p (op.Bound x) xs ps k kinds ks ls wide c f sc g s t r e =
    no_more _ _ (found_meets p (find_last x sc.bound) (find_last x g.bound) (last_fits x sc.bound g.bound r.bound))
node_fits w p (op.Use x) xs ps k kinds ks ls wide c f sc g s t r e = absurd (false≢true c)
node_fits w p (op.Param x) xs ps k kinds ks ls wide c f sc g s t r e = absurd (false≢true c)
node_fits w p (op.Let ds) xs ps k kinds ks ls wide c f sc g s t r e = absurd (false≢true c)
node_fits w p o xs ps k kinds ks ls wide c f sc g s t r e =
    let ms : List Bool = marks_of (role o (length xs)) in
    let u : Seen = seen (read_shape o) ms xs ls g in
    value_fits w p o (length xs) k kinds (index_of u.here) ps (view p (role o (length xs)) xs ks sc) u s t wide c
    (record {
      here = outer_fits p ms ks ls f sc g s t r;
      under = λ vs as' h. inner_fits p ms ks ls f (bind xs vs sc) (bind_shapes xs as' g) s t (bind_ready xs vs as' sc g s t h r);
    }) refl e

-- ---- the law

abbrev pub Lawful : ℕ → Expr → Type 0
Lawful w e = IsTrue (is_expanded e) → (ks : List Kind) → Fitting (meaning (Some w) e) ((tree_sized w e).sizing ks)

expanded-roll : (x : Expr-F Expr) → is_expanded (roll-Expr x) ≡ is_expanded_op x.op && list_all (λ b. b) (map is_expanded x.args)
expanded-roll x = fold-roll-Expr Bool (λ x. is_expanded_op x.op && list_all (λ b. b) x.args) x

children_fit : (w : ℕ) (es : List Expr) → Each (Lawful w) es → (ks : List Kind) → IsTrue (list_all (λ b. b) (map is_expanded es)) →
    FittingAll (map (meaning (Some w)) es) (sizings (map (tree_sized w) es) ks)
children_fit w [] h ks c = tt
children_fit w (e ∷ es) h ks c = (
  h.0 (and_left (is_expanded e) (list_all (λ b. b) (map is_expanded es)) c) (take (tree_sized w e).size ks),
  children_fit w es h.1 (drop (tree_sized w e).size ks) (and_right (is_expanded e) (list_all (λ b. b) (map is_expanded es)) c),
)

pub law : (w : ℕ) → 2 ≤ w → (e : Expr) → Lawful w e
law w wide = by_nodes (Lawful w) (λ x h c ks.
    let c1 : IsTrue (is_expanded_op x.op && list_all (λ b. b) (map is_expanded x.args)) = subst IsTrue (expanded-roll x) c in
    let c0 = and_left (is_expanded_op x.op) (list_all (λ b. b) (map is_expanded x.args)) c1 in
    let c2 = and_right (is_expanded_op x.op) (list_all (λ b. b) (map is_expanded x.args)) c1 in
    let as' : List SizedTree = map (tree_sized w) x.args in
    let rest : List Kind = drop 1 ks in
    subst (λ (m : Meaning). Fitting m ((tree_sized w (roll-Expr x)).sizing ks)) (sym (meaning-roll (Some w) x))
    (subst (λ (a : SizedTree). Fitting (node (Some w) (map-Expr Expr Meaning (meaning (Some w)) x)) (a.sizing ks)) (sym (tree-roll w x))
    (node_fits w x.place x.op x.binds (parts_of x) (first_kind ks) (kinds_of as' rest) (map (meaning (Some w)) x.args) (sizings as' rest) wide c0
    (children_fit w x.args h rest c2))))

-- each value that a sound expression has under the width, at states that fit, fits its shape
pub each_value_fits : (w : ℕ) (e : Expr) (ks : List Kind) (sc : Scope) (g : Extent) (s t : State) (v : Value) → FitsItsShape w e ks sc g s t v
each_value_fits w e ks sc g s t v wide c r h is = (subst (IfVal (Meets ((tree_sized w e).sizing ks g))) is (law w wide e c ks sc g s t r h)).0
