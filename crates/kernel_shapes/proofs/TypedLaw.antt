-- The law of typed states: a normal value of a type within bounds fits the shape of the type.
use Rattle.std.proofs.Common.{◌≡◌, ℕ, suc, ◌≤◌, Bool, true, false, not, ◌||◌, IsTrue, List, [], ◌∷◌, ◌++◌, map, length, Option, Some, None, option_map, ◌⊎◌, inl, inr, ⊎_elim, ℤ, is_some, bytes_eq, refl, sym, ◌∙◌, ap, subst, arith, if◌then◌else◌}
use Rattle.std.specs.Prelude.{option_and_then}
use Rattle.std.proofs.lemmas.Int.{ints}
use Rattle.std.proofs.lemmas.List.{length-map}
use Rattle.std.proofs.lemmas.Slice.Eq.{bytes_eq-Decides}
use Rattle.std.proofs.lemmas.List.Elements.{recursion_from_All}
use Rattle.std.specs.List.{AllByRecursion, list_all}
use Rattle.std.specs.Ordering.{is_lt}
use Rattle.tla_values.specs.Order.{same_value, text_cmp}
use Rattle.tla_values.specs.Sets.{Normal, apply, arguments, member, set_of, subset}
use Rattle.tla_values.specs.declared.value.Value.{Value, out-Value}
use Rattle.tla_values.specs.declared.value.Value.TheVariants as value
use Rattle.tla_values.proofs.Extensional.{member-set_of, same_itself}
use Rattle.tla_values.proofs.FunLaws.{apply_domain}
use Rattle.tla_values.proofs.NormalLemmas.{fun_order, fun_pairs, set_members}
use Rattle.tla_values.proofs.SetLaws.{Rising, rising_from, rising_set_of}
use Rattle.tla_meaning.specs.Shapes.{numbered, sequence, sublists}
use Rattle.tla_meaning.proofs.Laws.{none≢some}
use Rattle.tla_meaning.proofs.NormalShapes.{IfSomes, apply_normal, items_normal}
use Rattle.tla_meaning.proofs.Views.{and_left, and_right, and_both, false≢true}
use Rattle.snowcat_rows.specs.TypeTexts.{are_distinct, is_among}
use Rattle.snowcat_rows.specs.Types.{Term, Slot, lookup, mean, mean_layer, row, some}
use Rattle.snowcat_rows.specs.Values.{Limits, OfField, OfItems, OfType, bounded}
use Rattle.snowcat_rows.specs.declared.types.Ty.{Ty, roll-Ty}
use Rattle.snowcat_rows.specs.declared.types.Ty.TheOpen as ty
use Rattle.snowcat_rows.specs.declared.types.Ty.TheFolds.{fold-roll-Ty, ind-Ty, map-Ty}
use Rattle.tla_meaning.specs.declared.job.State.{State}
use Rattle.kernel_trees.specs.declared.system.System.{System}
use Rattle.kernel_trees.specs.TypeKinds as kind
use Rattle.kernel_trees.specs.TypeKinds.{Kind, Kinds, Fields, all_fields_there, all_there, fields, insert_field, kind_layer, kind_of, more_fields, more_kinds, no_fields, no_kinds}
use Rattle.kernel_shapes.specs.Shape.{Shape, Atom, Tup, Shapes, more_shapes, shapes}
use Rattle.kernel_shapes.specs.Fits.{FieldsFit, StateFits, Fits, FitsLayer, FitAll, OfSome}
use Rattle.kernel_shapes.specs.Laws.{EachInBounds, TypedFits, TypedStateFits}
use Rattle.kernel_shapes.specs.Levels.{constant_shapes, kept_constants}
use Rattle.kernel_shapes.specs.Systems.{system_parts}
use Rattle.kernel_shapes.specs.TypedStates.{EachOfKind, typed_shapes, names_of_fields, shape_of_kind, shapes_of_fields, shapes_of_kinds}
use Rattle.kernel_shapes.proofs.Choices.{OneOf, sublist_there}
use Rattle.kernel_shapes.proofs.FitLemmas.{AllFit}
use Rattle.kernel_shapes.proofs.KindLaw.{typed_kind}
use Rattle.kernel_shapes.proofs.Operators.{fits_int, fits_set, fits_truth}
use Rattle.kernel_shapes.proofs.Records.{texts}
use Rattle.kernel_shapes.proofs.Sequences.{fits_sequence, fits_tuple, items_numbered}
use Rattle.kernel_shapes.proofs.Sizes.{set_size}
use Rattle.kernel_shapes.proofs.StartLaw.{constants_fit}

some_is : {X : Type 0} {x y : X} → Some x ≡ Some y → x ≡ y
some_is e = cc

fits_text : (x : List ℕ) → Fits Atom (value.Text x)
fits_text x = subst (FitsLayer Atom) (sym (value.outs-Text x)) tt

-- the items of a normal sequence are normal
parts_normal : (xs : List Value) → Normal (sequence xs) → AllByRecursion Normal xs
parts_normal xs n = subst (IfSomes (AllByRecursion Normal)) (items_numbered 1 xs) (items_normal 1 (numbered 1 xs) (fun_pairs (numbered 1 xs) n))

-- ---- how many arguments a record has

in_parts : (y : List Value) (xss yss : List (List Value)) → OneOf y (xss ++ yss) → OneOf y xss ⊎ OneOf y yss
in_parts y [] yss h = inr h
in_parts y (x ∷ xss) yss (inl e) = inl (inl e)
in_parts y (x ∷ xss) yss (inr h) = ⊎_elim (λ k. inl (inr k)) (λ k. inr k) (in_parts y xss yss h)

in_image : (x : Value) (y : List Value) (yss : List (List Value)) → OneOf y (map (λ zs. x ∷ zs) yss) → (zs : List Value) × (y ≡ x ∷ zs) × OneOf zs yss
in_image x y [] h = absurd h
in_image x y (zs ∷ yss) (inl e) = (zs, e, inl refl)
in_image x y (zs ∷ yss) (inr h) = let r = in_image x y yss h in (r.0, r.1, inr r.2)

sublist_size : (xs ys : List Value) → OneOf ys (sublists xs) → length ys ≤ length xs
sublist_size [] ys (inl e) = let l : length ys ≡ 0 = ap length e in omega (arith, l)
sublist_size [] ys (inr h) = absurd h
sublist_size (x ∷ xs) ys h =
    ⊎_elim (λ k. let l = sublist_size xs ys k in omega (arith, l))
    (λ k. let r = in_image x ys (sublists xs) k in let l = sublist_size xs r.0 r.2 in let q : length ys ≡ suc (length r.0) = ap length r.1 in omega (arith, l, q))
    (in_parts ys (sublists xs) (map (λ zs. x ∷ zs) (sublists xs)) h)

subset_of_set : (vs xs : List Value) → IsTrue (list_all (λ v. member v xs) vs) → IsTrue (subset vs (set_of xs))
subset_of_set [] xs h = refl
subset_of_set (v ∷ vs) xs h =
    and_both (member v (set_of xs)) (subset vs (set_of xs)) (member-set_of v xs ∙ and_left (member v xs) (list_all (λ u. member u xs) vs) h)
    (subset_of_set vs xs (and_right (member v xs) (list_all (λ u. member u xs) vs) h))

-- rising values that are among some are no more than these
rising_few : (vs xs : List Value) → Rising vs → IsTrue (list_all (λ v. member v xs) vs) → length vs ≤ length xs
rising_few vs xs r h =
    let l = sublist_size (set_of xs) vs (sublist_there (set_of xs) vs (rising_set_of xs) r (subset_of_set vs xs h)) in
    let m = set_size xs in
    omega (arith, l, m)

-- ---- lists of types

tuple_shapes : (low high : ℤ) (size : ℕ) (ks : List Kind) → shapes_of_kinds low high size (kind.kinds ks) ≡ shapes (map (shape_of_kind low high size) ks)
tuple_shapes low high size [] = refl
tuple_shapes low high size (k ∷ ks) = ap (more_shapes (shape_of_kind low high size k)) (tuple_shapes low high size ks)

module _ (literals : List (List ℕ)) (low high : ℤ) (size : ℕ) where
  abbrev L : Limits
  L = bounded literals low high size

  abbrev shape : Kind → Shape
  shape k = shape_of_kind low high size k

  -- what is said of a type
  abbrev Typed : Ty → Type 0
  Typed t = (k : Kind) → kind_of t ≡ Some k → (v : Value) → Normal v → OfType L (mean t) v → Fits (shape k) v

  abbrev Item : Type 0
  Item = (t : Ty) × Typed t

  abbrev Said : Option Kind → Term → Type 0
  Said o t = (k : Kind) → o ≡ Some k → (v : Value) → Normal v → OfType L t v → Fits (shape k) v

  all_fit : (a : Item) (k : Kind) → kind_of a.0 ≡ Some k → (xs : List Value) → AllByRecursion Normal xs → AllByRecursion (OfType L (mean a.0)) xs → AllFit (shape k) xs
  all_fit a k e [] n h = tt
  all_fit a k e (x ∷ xs) n h = (a.1 k e x n.0 h.0, all_fit a k e xs n.1 h.1)

  pairs_fit : (a b : Item) (k j : Kind) → kind_of a.0 ≡ Some k → kind_of b.0 ≡ Some j → (ps : List (Value × Value)) → AllByRecursion (λ p. Normal p.0 × Normal p.1) ps →
      AllByRecursion (λ p. OfType L (mean a.0) p.0) ps → AllByRecursion (λ p. OfType L (mean b.0) p.1) ps →
      AllByRecursion (λ p. FitsLayer (shape k) (out-Value p.0) × FitsLayer (shape j) (out-Value p.1)) ps
  pairs_fit a b k j e f [] n g h = tt
  pairs_fit a b k j e f (p ∷ ps) n g h = ((a.1 k e p.0 n.0.0 g.0, b.1 j f p.1 n.0.1 h.0), pairs_fit a b k j e f ps n.1 g.1 h.1)

  items_fit : (as' : List Item) (ks : List Kind) → all_there (map kind_of (map (λ (p : Item). p.0) as')) ≡ Some ks → (xs : List Value) → AllByRecursion Normal xs →
      OfItems L (row (map mean (map (λ (p : Item). p.0) as'))) xs → FitAll (map shape ks) xs
  items_fit [] ks e [] n h = subst (λ (js : List Kind). FitAll (map shape js) []) (some_is e) tt
  items_fit [] ks e (x ∷ xs) n h = absurd h
  items_fit (a ∷ as') ks e [] n h = absurd h
  items_fit (a ∷ as') ks e (x ∷ xs) n h =
      by (kind_of a.0) refl (all_there (map kind_of (map (λ (p : Item). p.0) as'))) refl e (λ js q. items_fit as' js q xs n.1 h.1)
    where
      by : (o : Option Kind) → kind_of a.0 ≡ o → (r : Option (List Kind)) → all_there (map kind_of (map (λ (p : Item). p.0) as')) ≡ r →
          option_and_then (λ y. option_map (λ ys. y ∷ ys) r) o ≡ Some ks → ((js : List Kind) → all_there (map kind_of (map (λ (p : Item). p.0) as')) ≡ Some js → FitAll (map shape js) xs) → FitAll (map shape ks) (x ∷ xs)
      by None q r s k go = absurd (none≢some k)
      by (Some d) q None s k go = absurd (none≢some k)
      by (Some d) q (Some js) s k go = subst (λ (is : List Kind). FitAll (map shape is) (x ∷ xs)) (some_is k) (a.1 d q x n.0 h.0, go js s)

  tuple_fits : (ks : List Kind) (xs : List Value) → FitAll (map shape ks) xs → Fits (shape (kind.Tup (kind.kinds ks))) (sequence xs)
  tuple_fits ks xs h = subst (λ (as' : Shapes). Fits (Tup as') (sequence xs)) (sym (tuple_shapes low high size ks)) (fits_tuple (map shape ks) xs h)

  -- ---- all types but records

  layer_fits : (y : ty.Ty-F Item) → ((fs : List (List ℕ × Item)) → y ≡ ty.Rec fs None → Said (kind_layer (map-Ty Ty (Option Kind) kind_of (map-Ty Item Ty (λ t. t.0) y))) (mean_layer (map-Ty Ty Term mean (map-Ty Item Ty (λ t. t.0) y)))) →
      Said (kind_layer (map-Ty Ty (Option Kind) kind_of (map-Ty Item Ty (λ t. t.0) y))) (mean_layer (map-Ty Ty Term mean (map-Ty Item Ty (λ t. t.0) y)))
  layer_fits ty.Bool r k e v n h = subst (λ (j : Kind). Fits (shape j) v) (some_is e) (subst (Fits Atom) (sym h.1) (fits_truth h.0))
  layer_fits ty.Int r k e v n h =
      let a = h.2.0 in let b = h.2.1 in
      subst (λ (j : Kind). Fits (shape j) v) (some_is e) (subst (Fits (shape kind.Number)) (sym h.1) (fits_int low high h.0 (record { low = grind (arith, ints, a); high = grind (arith, ints, b) })))
  layer_fits ty.Str r k e v n h = subst (λ (j : Kind). Fits (shape j) v) (some_is e) (subst (Fits Atom) (sym h.1) (fits_text h.0))
  layer_fits (ty.Named []) r k e v n h = absurd (none≢some e)
  layer_fits (ty.Named (x ∷ xs)) r k e v n h = subst (λ (j : Kind). Fits (shape j) v) (some_is e) (subst (Fits Atom) (sym h.1) (fits_text h.0))
  layer_fits (ty.Var i) r k e v n h = absurd (none≢some e)
  layer_fits (ty.Set a) r k e v n h = by (kind_of a.0) refl e
    where
      by : (o : Option Kind) → kind_of a.0 ≡ o → option_map kind.Set o ≡ Some k → Fits (shape k) v
      by None q f = absurd (none≢some f)
      by (Some d) q f =
          subst (λ (j : Kind). Fits (shape j) v) (some_is f) (subst (Fits (shape (kind.Set d))) (sym h.1)
          (fits_set size (shape d) h.0 h.3 (all_fit a d q h.0 (set_members h.0 (subst Normal h.1 n)) (recursion_from_All (OfType L (mean a.0)) h.0 h.2))))
  layer_fits (ty.Seq a) r k e v n h = by (kind_of a.0) refl e
    where
      by : (o : Option Kind) → kind_of a.0 ≡ o → option_map kind.Seq o ≡ Some k → Fits (shape k) v
      by None q f = absurd (none≢some f)
      by (Some d) q f =
          subst (λ (j : Kind). Fits (shape j) v) (some_is f) (subst (Fits (shape (kind.Seq d))) (sym h.1)
          (fits_sequence size (shape d) h.0 h.3 (all_fit a d q h.0 (parts_normal h.0 (subst Normal h.1 n)) (recursion_from_All (OfType L (mean a.0)) h.0 h.2))))
  layer_fits (ty.Fun a b) r k e v n h = by (kind_of a.0) refl (kind_of b.0) refl e
    where
      by : (o : Option Kind) → kind_of a.0 ≡ o → (p : Option Kind) → kind_of b.0 ≡ p → option_and_then (λ x. option_map (λ y. kind.Fun x y) p) o ≡ Some k → Fits (shape k) v
      by None q p s f = absurd (none≢some f)
      by (Some d) q None s f = absurd (none≢some f)
      by (Some d) q (Some j) s f =
          subst (λ (i : Kind). Fits (shape i) v) (some_is f) (subst (Fits (shape (kind.Fun d j))) (sym h.1)
          (subst (FitsLayer (shape (kind.Fun d j))) (sym (value.outs-Fun h.0))
          (h.4, pairs_fit a b d j q s h.0 (fun_pairs h.0 (subst Normal h.1 n)) (recursion_from_All (λ (p : Value × Value). OfType L (mean a.0) p.0) h.0 h.2) (recursion_from_All (λ (p : Value × Value). OfType L (mean b.0) p.1) h.0 h.3))))
  layer_fits (ty.Tup as') r k e v n h = by (all_there (map kind_of (map (λ (p : Item). p.0) as'))) refl e
    where
      by : (o : Option (List Kind)) → all_there (map kind_of (map (λ (p : Item). p.0) as')) ≡ o → option_map (λ xs. kind.Tup (kind.kinds xs)) o ≡ Some k → Fits (shape k) v
      by None q f = absurd (none≢some f)
      by (Some ks) q f =
          subst (λ (j : Kind). Fits (shape j) v) (some_is f) (subst (Fits (shape (kind.Tup (kind.kinds ks)))) (sym h.1)
          (tuple_fits ks h.0 (items_fit as' ks q h.0 (parts_normal h.0 (subst Normal h.1 n)) h.2)))
  layer_fits (ty.Rec fs None) r k e v n h = r fs refl k e v n h
  layer_fits (ty.Rec fs (Some q)) r k e v n h = absurd (none≢some e)
  layer_fits (ty.Oper as' b) r k e v n h = absurd (none≢some e)

  -- ---- records

  abbrev Field : Type 0
  Field = List ℕ × Item

  abbrev named : List Field → List (List ℕ × Term)
  named fs = map (λ (f : List ℕ × Ty). (f.0, mean f.1)) (map (λ (f : Field). (f.0, f.1.0)) fs)

  abbrev kinded : List Field → List (List ℕ × Option Kind)
  kinded fs = map (λ (f : List ℕ × Ty). (f.0, kind_of f.1)) (map (λ (f : Field). (f.0, f.1.0)) fs)

  abbrev names : List Field → List (List ℕ)
  names fs = map (λ (f : List ℕ × Option Kind). f.0) (kinded fs)

  -- a look-up finds each field
  abbrev Finds : (List ℕ → Slot) → List Field → Type 0
  Finds look [] = Unit {0}
  Finds look (f ∷ fs) = (look f.0 ≡ some (mean f.1.0)) × Finds look fs

  finds_behind : (x : List ℕ) (t : Term) (look : List ℕ → Slot) (fs : List Field) → IsTrue (not (is_among x (names fs))) → Finds look fs → Finds (λ y. if bytes_eq x y then some t else look y) fs
  finds_behind x t look [] e h = tt
  finds_behind x t look (f ∷ fs) e h = (by (bytes_eq x f.0) e, finds_behind x t look fs (rest (bytes_eq x f.0) e) h.1)
    where
      by : (b : Bool) → IsTrue (not (b || is_among x (names fs))) → (if b then some t else look f.0) ≡ some (mean f.1.0)
      by true k = absurd (false≢true k)
      by false k = h.0

      rest : (b : Bool) → IsTrue (not (b || is_among x (names fs))) → IsTrue (not (is_among x (names fs)))
      rest true k = absurd (false≢true k)
      rest false k = k

  finds_all : (fs : List Field) → IsTrue (are_distinct (names fs)) → Finds (lookup (named fs)) fs
  finds_all [] e = tt
  finds_all (f ∷ fs) e =
      let fresh : Bool = not (is_among f.0 (names fs)) in (
        ap (λ (b : Bool). if b then some (mean f.1.0) else lookup (named fs) f.0) ((bytes_eq-Decides f.0 f.0).1 refl),
        finds_behind f.0 (mean f.1.0) (lookup (named fs)) fs (and_left fresh (are_distinct (names fs)) e) (finds_all fs (and_right fresh (are_distinct (names fs)) e)),
      )

  -- the function has a value of the field's shape at the field's name
  abbrev Held : List (Value × Value) → List ℕ × Kind → Type 0
  Held ps f = OfSome (λ v. FitsLayer (shape f.1) (out-Value v)) (apply ps (value.Text f.0))

  normal_value : (ps : List (Value × Value)) (x : List ℕ) (v : Value) → AllByRecursion (λ p. Normal p.0 × Normal p.1) ps → apply ps (value.Text x) ≡ Some v → Normal v
  normal_value ps x v n e = subst (IfSomes Normal) e (apply_normal ps (value.Text x) n)

  held_all : (ps : List (Value × Value)) (look : List ℕ → Slot) (fs : List Field) (ks : List (List ℕ × Kind)) → AllByRecursion (λ p. Normal p.0 × Normal p.1) ps →
      ((x : List ℕ) → OfField L (look x) (apply ps (value.Text x))) → Finds look fs → all_fields_there (kinded fs) ≡ Some ks → AllByRecursion (Held ps) ks × (map (λ (f : List ℕ × Kind). f.0) ks ≡ names fs)
  held_all ps look [] ks n h g e = subst (λ (js : List (List ℕ × Kind)). AllByRecursion (Held ps) js × (map (λ (f : List ℕ × Kind). f.0) js ≡ [])) (some_is e) (tt, refl)
  held_all ps look (f ∷ fs) ks n h g e =
      by (kind_of f.1.0) refl (all_fields_there (kinded fs)) refl e (λ js q. held_all ps look fs js n h g.1 q)
    where
      one : (k : Kind) → kind_of f.1.0 ≡ Some k → Held ps (f.0, k)
      one k q =
          let z : OfField L (some (mean f.1.0)) (apply ps (value.Text f.0)) = subst (λ (s : Slot). OfField L s (apply ps (value.Text f.0))) g.0 (h f.0) in
          subst (OfSome (λ v. FitsLayer (shape k) (out-Value v))) (sym z.1) (f.1.1 k q z.0 (normal_value ps f.0 z.0 n z.1) z.2)

      by : (o : Option Kind) → kind_of f.1.0 ≡ o → (r : Option (List (List ℕ × Kind))) → all_fields_there (kinded fs) ≡ r → option_and_then (λ x. option_map (λ xs. (f.0, x) ∷ xs) r) o ≡ Some ks →
          ((js : List (List ℕ × Kind)) → all_fields_there (kinded fs) ≡ Some js → AllByRecursion (Held ps) js × (map (λ (f : List ℕ × Kind). f.0) js ≡ names fs)) →
          AllByRecursion (Held ps) ks × (map (λ (f : List ℕ × Kind). f.0) ks ≡ f.0 ∷ names fs)
      by None q r s k go = absurd (none≢some k)
      by (Some d) q None s k go = absurd (none≢some k)
      by (Some d) q (Some js) s k go =
          let z = go js s in
          subst (λ (is : List (List ℕ × Kind)). AllByRecursion (Held ps) is × (map (λ (f : List ℕ × Kind). f.0) is ≡ f.0 ∷ names fs)) (some_is k)
          ((one d q, z.0), ap (λ (l : List (List ℕ)). f.0 ∷ l) z.1)

  -- in the order of their bytes
  abbrev HeldFields : List (Value × Value) → Fields → Type 0
  HeldFields ps fs = FieldsFit (names_of_fields fs) (shapes_of_fields low high size fs) ps × IsTrue (list_all (λ v. member v (arguments ps)) (texts (names_of_fields fs)))

  is_there : (ps : List (Value × Value)) (x : List ℕ) (k : Kind) → Held ps (x, k) → IsTrue (member (value.Text x) (arguments ps))
  is_there ps x k h = by (apply ps (value.Text x)) refl h
    where
      by : (o : Option Value) → apply ps (value.Text x) ≡ o → OfSome (λ v. FitsLayer (shape k) (out-Value v)) o → IsTrue (member (value.Text x) (arguments ps))
      by (Some v) e g = sym (apply_domain (value.Text x) ps) ∙ ap is_some e
      by None e g = absurd g

  held_put : (ps : List (Value × Value)) (x : List ℕ) (k : Kind) (fs : Fields) → Held ps (x, k) → HeldFields ps fs → HeldFields ps (insert_field x k fs)
  held_put ps x k no_fields h g = ((h, tt), and_both (member (value.Text x) (arguments ps)) true (is_there ps x k h) refl)
  held_put ps x k (more_fields y j fs) h g =
      by (is_lt (text_cmp x y)) (held_put ps x k fs h (g.0.1, and_right (member (value.Text y) (arguments ps)) _ g.1))
    where
      by : (b : Bool) → HeldFields ps (insert_field x k fs) → HeldFields ps (if b then more_fields x k (more_fields y j fs) else more_fields y j (insert_field x k fs))
      by true r = ((h, g.0), and_both (member (value.Text x) (arguments ps)) _ (is_there ps x k h) g.1)
      by false r = ((g.0.0, r.0), and_both (member (value.Text y) (arguments ps)) _ (and_left (member (value.Text y) (arguments ps)) _ g.1) r.1)

  held_fields : (ps : List (Value × Value)) (ks : List (List ℕ × Kind)) → AllByRecursion (Held ps) ks → HeldFields ps (fields ks)
  held_fields ps [] h = (tt, refl)
  held_fields ps (f ∷ ks) h = held_put ps f.0 f.1 (fields ks) h.0 (held_fields ps ks h.1)

  -- each argument is a name
  or_left : (a b : Bool) → IsTrue a → IsTrue (a || b)
  or_left true b h = refl
  or_left false b h = absurd (false≢true h)

  or_right : (a b : Bool) → IsTrue b → IsTrue (a || b)
  or_right true b h = refl
  or_right false b h = h

  or_case : (a b : Bool) → IsTrue (a || b) → IsTrue a ⊎ IsTrue b
  or_case true b h = inl refl
  or_case false b h = inr h

  name_put : (v : Value) (x : List ℕ) (k : Kind) (fs : Fields) → IsTrue (same_value v (value.Text x)) ⊎ IsTrue (member v (texts (names_of_fields fs))) → IsTrue (member v (texts (names_of_fields (insert_field x k fs))))
  name_put v x k no_fields (inl h) = or_left (same_value v (value.Text x)) false h
  name_put v x k no_fields (inr h) = absurd (false≢true h)
  name_put v x k (more_fields y j fs) h = by (is_lt (text_cmp x y)) (name_put v x k fs) h
    where
      by : (b : Bool) → (IsTrue (same_value v (value.Text x)) ⊎ IsTrue (member v (texts (names_of_fields fs))) → IsTrue (member v (texts (names_of_fields (insert_field x k fs))))) →
          IsTrue (same_value v (value.Text x)) ⊎ IsTrue (same_value v (value.Text y) || member v (texts (names_of_fields fs))) →
          IsTrue (member v (texts (names_of_fields (if b then more_fields x k (more_fields y j fs) else more_fields y j (insert_field x k fs)))))
      by true r (inl g) = or_left (same_value v (value.Text x)) _ g
      by true r (inr g) = or_right (same_value v (value.Text x)) _ g
      by false r (inl g) = or_right (same_value v (value.Text y)) _ (r (inl g))
      by false r (inr g) =
          ⊎_elim (λ l. or_left (same_value v (value.Text y)) _ l) (λ l. or_right (same_value v (value.Text y)) _ (r (inr l)))
          (or_case (same_value v (value.Text y)) (member v (texts (names_of_fields fs))) g)

  name_sorted : (v : Value) (ks : List (List ℕ × Kind)) → IsTrue (member v (texts (map (λ (f : List ℕ × Kind). f.0) ks))) → IsTrue (member v (texts (names_of_fields (fields ks))))
  name_sorted v [] h = absurd (false≢true h)
  name_sorted v (f ∷ ks) h =
      name_put v f.0 f.1 (fields ks)
      (⊎_elim (λ l. inl l) (λ l. inr (name_sorted v ks l)) (or_case (same_value v (value.Text f.0)) (member v (texts (map (λ (g : List ℕ × Kind). g.0) ks))) h))

  name_looked : (s : List ℕ) (fs : List Field) (o : Option Value) → OfField L (lookup (named fs) s) o → is_some o ≡ true → IsTrue (member (value.Text s) (texts (names fs)))
  name_looked s [] o h e = absurd (false≢true (sym (ap is_some h) ∙ e))
  name_looked s (f ∷ fs) o h e = by (bytes_eq f.0 s) refl h (λ g. name_looked s fs o g e)
    where
      by : (b : Bool) → bytes_eq f.0 s ≡ b → OfField L (if b then some (mean f.1.0) else lookup (named fs) s) o →
          (OfField L (lookup (named fs) s) o → IsTrue (member (value.Text s) (texts (names fs)))) →
          IsTrue (same_value (value.Text s) (value.Text f.0) || member (value.Text s) (texts (names fs)))
      by true q g r =
          let same : f.0 ≡ s = (bytes_eq-Decides f.0 s).0 q in
          or_left (same_value (value.Text s) (value.Text f.0)) _ (subst (λ (z : List ℕ). same_value (value.Text s) (value.Text z) ≡ true) (sym same) (same_itself (value.Text s)))
      by false q g r = or_right (same_value (value.Text s) (value.Text f.0)) _ (r g)

  arguments_named : (all ps : List (Value × Value)) (fs : List Field) (N : List (List ℕ)) → ((v : Value) → IsTrue (member v (texts (names fs))) → IsTrue (member v (texts N))) →
      ((x : List ℕ) → OfField L (lookup (named fs) x) (apply all (value.Text x))) → ((v : Value) → IsTrue (member v (arguments ps)) → IsTrue (member v (arguments all))) →
      AllByRecursion (λ (p : Value × Value). (s : List ℕ) × (p.0 ≡ value.Text s)) ps → IsTrue (list_all (λ v. member v (texts N)) (arguments ps))
  arguments_named all [] fs N k h i t = refl
  arguments_named all (p ∷ ps) fs N k h i t =
      let s : List ℕ = t.0.0 in
      let in_all : IsTrue (member p.0 (arguments all)) = i p.0 (or_left (same_value p.0 p.0) (member p.0 (arguments ps)) (same_itself p.0)) in
      let there : is_some (apply all (value.Text s)) ≡ true = apply_domain (value.Text s) all ∙ subst (λ (v : Value). member v (arguments all) ≡ true) t.0.1 in_all in
      and_both (member p.0 (texts N)) (list_all (λ v. member v (texts N)) (arguments ps))
      (subst (λ (v : Value). IsTrue (member v (texts N))) (sym t.0.1) (k (value.Text s) (name_looked s fs (apply all (value.Text s)) (h s) there)))
      (arguments_named all ps fs N k h (λ v l. i v (or_right (same_value v p.0) (member v (arguments ps)) l)) t.1)

  record_fits : (fs : List Field) → Said (kind_layer (map-Ty Ty (Option Kind) kind_of (map-Ty Item Ty (λ t. t.0) (ty.Rec fs None)))) (mean_layer (map-Ty Ty Term mean (map-Ty Item Ty (λ t. t.0) (ty.Rec fs None))))
  record_fits fs k e v n h = by (are_distinct (names fs)) refl (all_fields_there (kinded fs)) refl e
    where
      ps : List (Value × Value)
      ps = h.0

      whole : Normal (value.Fun h.0)
      whole = subst Normal h.1 n

      made : (ks : List (List ℕ × Kind)) → are_distinct (names fs) ≡ true → all_fields_there (kinded fs) ≡ Some ks → Fits (shape (kind.Rec (fields ks))) v
      made ks d q =
          let z = held_all ps (lookup (named fs)) fs ks (fun_pairs ps whole) h.3 (finds_all fs d) q in
          let f = held_fields ps ks z.0 in
          let N : List (List ℕ) = names_of_fields (fields ks) in
          let args : IsTrue (list_all (λ v. member v (texts N)) (arguments ps)) =
          arguments_named ps ps fs N (λ u l. name_sorted u ks (subst (λ (xs : List (List ℕ)). IsTrue (member u (texts xs))) (sym z.1) l)) h.3 (λ u l. l)
          (recursion_from_All (λ (p : Value × Value). (s : List ℕ) × (p.0 ≡ value.Text s)) ps h.2) in
          let few = rising_few (arguments ps) (texts N) (rising_from (arguments ps) (fun_order ps whole)) args in
          let l1 = length-map ps (λ (p : Value × Value). p.0) in
          let l2 = length-map N (λ (x : List ℕ). value.Text x) in
          subst (Fits (shape (kind.Rec (fields ks)))) (sym h.1)
          (subst (FitsLayer (shape (kind.Rec (fields ks)))) (sym (value.outs-Fun ps))
          (omega (arith, few, l1, l2), and_both (list_all (λ v. member v (arguments ps)) (texts N)) (list_all (λ v. member v (texts N)) (arguments ps)) f.1 args, f.0))

      by : (b : Bool) → are_distinct (names fs) ≡ b → (o : Option (List (List ℕ × Kind))) → all_fields_there (kinded fs) ≡ o →
          (if b then option_map (λ xs. kind.Rec (fields xs)) o else None) ≡ Some k → Fits (shape k) v
      by false d o q f = absurd (none≢some f)
      by true d None q f = absurd (none≢some f)
      by true d (Some ks) q f = subst (λ (j : Kind). Fits (shape j) v) (some_is f) (made ks d q)

  kind-roll : (x : ty.Ty-F Ty) → kind_of (roll-Ty x) ≡ kind_layer (map-Ty Ty (Option Kind) kind_of x)
  unfolding kind_of
  kind-roll x = fold-roll-Ty (Option Kind) kind_layer x

  mean-roll : (x : ty.Ty-F Ty) → mean (roll-Ty x) ≡ mean_layer (map-Ty Ty Term mean x)
  unfolding mean
  mean-roll x = fold-roll-Ty Term mean_layer x

  typed : (t : Ty) → Typed t
  typed = ind-Ty Typed (λ x y is. subst (λ (z : ty.Ty-F Ty). Typed (roll-Ty z)) is (λ k e v n h.
      let z : ty.Ty-F Ty = map-Ty Item Ty (λ t. t.0) y in
      layer_fits y (λ fs q. subst (λ (u : ty.Ty-F Item). Said (kind_layer (map-Ty Ty (Option Kind) kind_of (map-Ty Item Ty (λ t. t.0) u))) (mean_layer (map-Ty Ty Term mean (map-Ty Item Ty (λ t. t.0) u)))) (sym q) (record_fits fs))
      k (sym (kind-roll z) ∙ e) v n (subst (λ (u : Term). OfType L u v) (mean-roll z) h)))

pub each_typed_value_fits : (literals : List (List ℕ)) (low high : ℤ) (size : ℕ) (t : Ty) (k : Kind) (v : Value) → TypedFits literals low high size t k v
each_typed_value_fits literals low high size t k v e n h = typed literals low high size t k e v n h

-- ---- typed states

typed_fit : (literals : List (List ℕ)) (low high : ℤ) (size : ℕ) (bs : List Bool) (ts : List Ty) (as' : List Shape) (ks : List Kind) (vs : List Value) → EachOfKind ks as' →
    StateFits (kept_constants bs as') vs → AllByRecursion Normal vs → EachInBounds literals low high size bs ts ks vs →
    FitAll (typed_shapes low high size bs as' ks) vs × EachOfKind ks (typed_shapes low high size bs as' ks)
typed_fit literals low high size [] [] [] [] [] e f n h = (tt, tt)
typed_fit literals low high size [] [] (a ∷ as') [] [] e f n h = absurd e
typed_fit literals low high size [] [] as' [] (v ∷ vs) e f n h = absurd h
typed_fit literals low high size [] [] as' (k ∷ ks) vs e f n h = absurd h
typed_fit literals low high size [] (t ∷ ts) as' ks vs e f n h = absurd h
typed_fit literals low high size (true ∷ bs) [] as' ks vs e f n h = absurd h
typed_fit literals low high size (true ∷ bs) (t ∷ ts) as' [] vs e f n h = absurd h
typed_fit literals low high size (true ∷ bs) (t ∷ ts) as' (k ∷ ks) [] e f n h = absurd h
typed_fit literals low high size (true ∷ bs) (t ∷ ts) [] (k ∷ ks) (v ∷ vs) e f n h = absurd e
typed_fit literals low high size (true ∷ bs) (t ∷ ts) (a ∷ as') (k ∷ ks) (v ∷ vs) e f n h =
    let z = typed_fit literals low high size bs ts as' ks vs e.1 f.1 n.1 h in
    ((f.0, z.0), (e.0, z.1))
typed_fit literals low high size (false ∷ bs) [] as' ks vs e f n h = absurd h
typed_fit literals low high size (false ∷ bs) (t ∷ ts) as' [] vs e f n h = absurd h
typed_fit literals low high size (false ∷ bs) (t ∷ ts) as' (k ∷ ks) [] e f n h = absurd h
typed_fit literals low high size (false ∷ bs) (t ∷ ts) [] (k ∷ ks) (v ∷ vs) e f n h = absurd e
typed_fit literals low high size (false ∷ bs) (t ∷ ts) (a ∷ as') (k ∷ ks) (v ∷ vs) e f n h =
    let z = typed_fit literals low high size bs ts as' ks vs e.1 f.1 n.1 h.2 in
    ((each_typed_value_fits literals low high size t k v h.0 n.0 h.1, z.0), (typed_kind low high size k, z.1))

pub each_typed_state_fits : (w : ℕ) (sys : System) (names : List Kind) (literals : List (List ℕ)) (low high : ℤ) (size : ℕ) (ts : List Ty) (s : State) →
    TypedStateFits w sys names literals low high size ts s
each_typed_state_fits w sys names literals low high size ts s wide many filled cs norm rc h =
    let z = constants_fit w sys names s wide many filled cs norm rc in
    typed_fit literals low high size sys.ker.fixed ts (constant_shapes (system_parts w sys)) names s.vals z.1 z.0 norm h
