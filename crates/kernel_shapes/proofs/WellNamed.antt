-- The names of a record's fields differ, in each kind of a type.
use Rattle.std.proofs.Common.{◌≡◌, ℕ, suc, Bool, true, false, not, ◌&&◌, ◌||◌, IsTrue, List, [], ◌∷◌, map, zip, length, Option, Some, None, option_map, option_and_then, bytes_eq, refl, sym, ap, subst, arith, if◌then◌else◌}
use Rattle.std.specs.List.{list_any}
use Rattle.std.specs.Ordering.{is_lt}
use Rattle.std.proofs.lemmas.Slice.Eq.{bytes_eq-Decides}
use Rattle.tla_values.specs.Order.{text_cmp}
use Rattle.tla_meaning.specs.Scopes.{same_text}
use Rattle.tla_meaning.proofs.Views.{and_left, and_right, and_both, false≢true}
use Rattle.snowcat_rows.specs.TypeTexts.{are_distinct, is_among}
use Rattle.snowcat_rows.specs.declared.types.Ty.{Ty, roll-Ty}
use Rattle.snowcat_rows.specs.declared.types.Ty.TheOpen as ty
use Rattle.snowcat_rows.specs.declared.types.Ty.TheFolds.{fold-roll-Ty, map-Ty, ind-Ty}
use Rattle.kernel_trees.specs.TypeKinds as kind
use Rattle.kernel_trees.specs.TypeKinds.{Kind, Kinds, Fields, no_kinds, more_kinds, no_fields, more_fields, insert_field, fields, all_there, all_fields_there, kind_layer, kind_of}
use Rattle.kernel_shapes.specs.Sized.{names_differ}
use Rattle.kernel_shapes.specs.TypedStates.{names_of_fields}
use Rattle.kernel_shapes.proofs.JoinRight.{text_is}
use Rattle.kernel_shapes.proofs.KindLaw.{text_itself}

abbrev mutual
  pub well_named : Kind → Bool
  well_named kind.Truth = true
  well_named kind.Number = true
  well_named (kind.Word x) = true
  well_named (kind.Set k) = well_named k
  well_named (kind.Seq k) = well_named k
  well_named (kind.Fun k l) = well_named k && well_named l
  well_named (kind.Tup ks) = kinds_named ks
  well_named (kind.Rec fs) = names_differ (names_of_fields fs) && fields_named fs

  kinds_named : Kinds → Bool
  kinds_named no_kinds = true
  kinds_named (more_kinds k ks) = well_named k && kinds_named ks

  fields_named : Fields → Bool
  fields_named no_fields = true
  fields_named (more_fields x k fs) = well_named k && fields_named fs

-- ---- names that pass no test

abbrev Passes : (List ℕ → Bool) → List (List ℕ) → Type 0
Passes p xs = IsTrue (not (list_any p xs))

not_or : (a b : Bool) → IsTrue (not a) → IsTrue (not b) → IsTrue (not (a || b))
not_or true b h k = absurd (false≢true h)
not_or false b h k = k

or_first : (a b : Bool) → IsTrue (not (a || b)) → IsTrue (not a)
or_first true b h = absurd (false≢true h)
or_first false b h = refl

or_rest : (a b : Bool) → IsTrue (not (a || b)) → IsTrue (not b)
or_rest true b h = absurd (false≢true h)
or_rest false b h = h

none_put : (p : List ℕ → Bool) (x : List ℕ) (k : Kind) (fs : Fields) → IsTrue (not (p x)) → Passes p (names_of_fields fs) → Passes p (names_of_fields (insert_field x k fs))
none_put p x k no_fields h l = not_or (p x) false h refl
none_put p x k (more_fields y j fs) h l = by (is_lt (text_cmp x y)) (none_put p x k fs h (or_rest (p y) _ l))
  where
    by : (b : Bool) → Passes p (names_of_fields (insert_field x k fs)) →
        Passes p (names_of_fields (if b then more_fields x k (more_fields y j fs) else more_fields y j (insert_field x k fs)))
    by true r = not_or (p x) _ h l
    by false r = not_or (p y) _ (or_first (p y) _ l) r

none_out : (p : List ℕ → Bool) (x : List ℕ) (k : Kind) (fs : Fields) → Passes p (names_of_fields (insert_field x k fs)) → IsTrue (not (p x)) × Passes p (names_of_fields fs)
none_out p x k no_fields h = (or_first (p x) false h, refl)
none_out p x k (more_fields y j fs) h = by (is_lt (text_cmp x y)) h (none_out p x k fs)
  where
    by : (b : Bool) → Passes p (names_of_fields (if b then more_fields x k (more_fields y j fs) else more_fields y j (insert_field x k fs))) →
        (Passes p (names_of_fields (insert_field x k fs)) → IsTrue (not (p x)) × Passes p (names_of_fields fs)) →
        IsTrue (not (p x)) × Passes p (y ∷ names_of_fields fs)
    by true g r = (or_first (p x) _ g, or_rest (p x) _ g)
    by false g r = let z = r (or_rest (p y) _ g) in (z.0, not_or (p y) _ (or_first (p y) _ g) z.1)

turned : (x y : List ℕ) → IsTrue (not (same_text x y)) → IsTrue (not (same_text y x))
turned x y h = by (same_text y x) refl
  where
    by : (b : Bool) → same_text y x ≡ b → IsTrue (not b)
    by false e = refl
    by true e =
        let s : IsTrue (same_text x y) = subst (λ (z : List ℕ). IsTrue (same_text x z)) (sym (text_is y x e)) (text_itself x) in
        absurd (false≢true (subst (λ (b : Bool). IsTrue (not b)) s h))

-- ---- fields in order

abbrev Fresh : List ℕ → List (List ℕ) → Type 0
Fresh x ys = Passes (λ y. same_text y x) ys

differ_put : (x : List ℕ) (k : Kind) (fs : Fields) → Fresh x (names_of_fields fs) → IsTrue (names_differ (names_of_fields fs)) → IsTrue (names_differ (names_of_fields (insert_field x k fs)))
differ_put x k no_fields h l = refl
differ_put x k (more_fields y j fs) h l = by (is_lt (text_cmp x y)) (differ_put x k fs (or_rest (same_text y x) _ h) rest)
  where
    here : Fresh y (names_of_fields fs)
    here = and_left (not (list_any (λ z. same_text z y) (names_of_fields fs))) (names_differ (names_of_fields fs)) l

    rest : IsTrue (names_differ (names_of_fields fs))
    rest = and_right (not (list_any (λ z. same_text z y) (names_of_fields fs))) (names_differ (names_of_fields fs)) l

    by : (b : Bool) → IsTrue (names_differ (names_of_fields (insert_field x k fs))) →
        IsTrue (names_differ (names_of_fields (if b then more_fields x k (more_fields y j fs) else more_fields y j (insert_field x k fs))))
    by true r = and_both (not (list_any (λ z. same_text z x) (y ∷ names_of_fields fs))) _ h l
    by false r =
        and_both (not (list_any (λ z. same_text z y) (names_of_fields (insert_field x k fs)))) _
        (none_put (λ z. same_text z y) x k fs (turned y x (or_first (same_text y x) _ h)) here) r

differ_out : (x : List ℕ) (k : Kind) (fs : Fields) → IsTrue (names_differ (names_of_fields (insert_field x k fs))) → Fresh x (names_of_fields fs) × IsTrue (names_differ (names_of_fields fs))
differ_out x k no_fields h = (refl, refl)
differ_out x k (more_fields y j fs) h = by (is_lt (text_cmp x y)) h (differ_out x k fs)
  where
    by : (b : Bool) → IsTrue (names_differ (names_of_fields (if b then more_fields x k (more_fields y j fs) else more_fields y j (insert_field x k fs)))) →
        (IsTrue (names_differ (names_of_fields (insert_field x k fs))) → Fresh x (names_of_fields fs) × IsTrue (names_differ (names_of_fields fs))) →
        Fresh x (y ∷ names_of_fields fs) × IsTrue (names_differ (y ∷ names_of_fields fs))
    by true g r = (
      and_left (not (list_any (λ z. same_text z x) (y ∷ names_of_fields fs))) (names_differ (y ∷ names_of_fields fs)) g,
      and_right (not (list_any (λ z. same_text z x) (y ∷ names_of_fields fs))) (names_differ (y ∷ names_of_fields fs)) g,
    )
    by false g r =
        let q = none_out (λ z. same_text z y) x k fs
        (and_left (not (list_any (λ z. same_text z y) (names_of_fields (insert_field x k fs)))) (names_differ (names_of_fields (insert_field x k fs))) g) in
        let z = r (and_right (not (list_any (λ z. same_text z y) (names_of_fields (insert_field x k fs)))) (names_differ (names_of_fields (insert_field x k fs))) g) in
        (not_or (same_text y x) _ (turned x y q.0) z.0, and_both (not (list_any (λ z. same_text z y) (names_of_fields fs))) _ q.1 z.1)

none_in : (p : List ℕ → Bool) (fs : List (List ℕ × Kind)) → Passes p (map (λ f. f.0) fs) → Passes p (names_of_fields (fields fs))
none_in p [] h = refl
none_in p (f ∷ fs) h = none_put p f.0 f.1 (fields fs) (or_first (p f.0) _ h) (none_in p fs (or_rest (p f.0) _ h))

fields_differ : (fs : List (List ℕ × Kind)) → IsTrue (names_differ (map (λ f. f.0) fs)) → IsTrue (names_differ (names_of_fields (fields fs)))
fields_differ [] h = refl
fields_differ (f ∷ fs) h =
    let fresh : Bool = not (list_any (λ y. same_text y f.0) (map (λ (g : List ℕ × Kind). g.0) fs)) in
    let rest : Bool = names_differ (map (λ (g : List ℕ × Kind). g.0) fs) in
    differ_put f.0 f.1 (fields fs) (none_in (λ y. same_text y f.0) fs (and_left fresh rest h)) (fields_differ fs (and_right fresh rest h))

uneven : (n : ℕ) → suc n ≡ 0 → ⊥
uneven n e = omega (arith, e)

less : (m n : ℕ) → suc m ≡ suc n → m ≡ n
less m n e = omega (arith, e)

none_from : (p : List ℕ → Bool) (xs : List (List ℕ)) (ks : List Kind) → length xs ≡ length ks → Passes p (names_of_fields (fields (zip xs ks))) → Passes p xs
none_from p [] ks e h = refl
none_from p (x ∷ xs) [] e h = absurd (uneven (length xs) e)
none_from p (x ∷ xs) (k ∷ ks) e h =
    let z = none_out p x k (fields (zip xs ks)) h in not_or (p x) _ z.0 (none_from p xs ks (less (length xs) (length ks) e) z.1)

-- the names of a record differ where those of its kind do
pub names_from : (xs : List (List ℕ)) (ks : List Kind) → length xs ≡ length ks → IsTrue (well_named (kind.Rec (fields (zip xs ks)))) → IsTrue (names_differ xs)
names_from xs ks e h = by xs ks e (and_left (names_differ (names_of_fields (fields (zip xs ks)))) (fields_named (fields (zip xs ks))) h)
  where
    by : (xs : List (List ℕ)) (ks : List Kind) → length xs ≡ length ks → IsTrue (names_differ (names_of_fields (fields (zip xs ks)))) → IsTrue (names_differ xs)
    by [] ks e h = refl
    by (x ∷ xs) [] e h = absurd (uneven (length xs) e)
    by (x ∷ xs) (k ∷ ks) e h =
        let z = differ_out x k (fields (zip xs ks)) h in
        and_both (not (list_any (λ y. same_text y x) xs)) (names_differ xs) (none_from (λ y. same_text y x) xs ks (less (length xs) (length ks) e) z.0)
        (by xs ks (less (length xs) (length ks) e) z.1)

-- ---- types

named_put : (x : List ℕ) (k : Kind) (fs : Fields) → IsTrue (well_named k) → IsTrue (fields_named fs) → IsTrue (fields_named (insert_field x k fs))
named_put x k no_fields h l = and_both (well_named k) true h refl
named_put x k (more_fields y j fs) h l = by (is_lt (text_cmp x y)) (named_put x k fs h (and_right (well_named j) (fields_named fs) l))
  where
    by : (b : Bool) → IsTrue (fields_named (insert_field x k fs)) → IsTrue (fields_named (if b then more_fields x k (more_fields y j fs) else more_fields y j (insert_field x k fs)))
    by true r = and_both (well_named k) (fields_named (more_fields y j fs)) h l
    by false r = and_both (well_named j) (fields_named (insert_field x k fs)) (and_left (well_named j) (fields_named fs) l) r

-- where there is one
abbrev IfKind : {X : Type 0} → (X → Type 0) → Option X → Type 0
IfKind P None = Unit {0}
IfKind P (Some x) = P x

abbrev Well : Option Kind → Type 0
Well o = IfKind (λ a. IsTrue (well_named a)) o

mapped : {X Y : Type 0} (P : X → Type 0) (Q : Y → Type 0) (f : X → Y) → ((x : X) → P x → Q (f x)) → (o : Option X) → IfKind P o → IfKind Q (option_map f o)
mapped P Q f g None h = tt
mapped P Q f g (Some x) h = g x h

abbrev Item : Type 0
Item = (t : Ty) × Well (kind_of t)

items_named : (ps : List Item) → IfKind (λ as'. IsTrue (kinds_named (kind.kinds as'))) (all_there (map kind_of (map (λ (p : Item). p.0) ps)))
items_named [] = refl
items_named (p ∷ ps) = by (kind_of p.0) p.1 (all_there (map kind_of (map (λ (p : Item). p.0) ps))) (items_named ps)
  where
    by : (o : Option Kind) → Well o → (q : Option (List Kind)) → IfKind (λ as'. IsTrue (kinds_named (kind.kinds as'))) q →
        IfKind (λ as'. IsTrue (kinds_named (kind.kinds as'))) (option_and_then (λ x. option_map (λ xs. x ∷ xs) q) o)
    by None h q k = tt
    by (Some a) h None k = tt
    by (Some a) h (Some as') k = and_both (well_named a) (kinds_named (kind.kinds as')) h k

abbrev Field : Type 0
Field = List ℕ × Item

-- the fields have the names that they are written with, and well-named kinds
abbrev FieldsWell : List (List ℕ) → List (List ℕ × Kind) → Type 0
FieldsWell ns fs = (map (λ (f : List ℕ × Kind). f.0) fs ≡ ns) × IsTrue (fields_named (fields fs))

abbrev pairs_of : List Field → List (List ℕ × Option Kind)
pairs_of ps = map (λ (f : List ℕ × Ty). (f.0, kind_of f.1)) (map (λ (f : Field). (f.0, f.1.0)) ps)

fields_there : (ps : List Field) → IfKind (FieldsWell (map (λ (f : List ℕ × Option Kind). f.0) (pairs_of ps))) (all_fields_there (pairs_of ps))
fields_there [] = (refl, refl)
fields_there (p ∷ ps) = by (kind_of p.1.0) p.1.1 (all_fields_there (pairs_of ps)) (fields_there ps)
  where
    ns : List (List ℕ)
    ns = map (λ (f : List ℕ × Option Kind). f.0) (pairs_of ps)

    by : (o : Option Kind) → Well o → (q : Option (List (List ℕ × Kind))) → IfKind (FieldsWell ns) q →
        IfKind (FieldsWell (p.0 ∷ ns)) (option_and_then (λ x. option_map (λ xs. (p.0, x) ∷ xs) q) o)
    by None h q k = tt
    by (Some a) h None k = tt
    by (Some a) h (Some fs) k = (ap (λ (l : List (List ℕ)). p.0 ∷ l) k.0, named_put p.0 a (fields fs) h k.1)

none_among : (x : List ℕ) (ys : List (List ℕ)) → IsTrue (not (is_among x ys)) → Fresh x ys
none_among x [] h = refl
none_among x (y ∷ ys) h = by (same_text y x) refl (none_among x ys (or_rest (bytes_eq x y) (is_among x ys) h))
  where
    by : (b : Bool) → same_text y x ≡ b → Fresh x ys → IsTrue (not (b || list_any (λ z. same_text z x) ys))
    by false e r = r
    by true e r = absurd (false≢true (subst (λ (b : Bool). IsTrue (not b)) ((bytes_eq-Decides x y).1 (sym (text_is y x e))) (or_first (bytes_eq x y) _ h)))

distinct_differ : (xs : List (List ℕ)) → IsTrue (are_distinct xs) → IsTrue (names_differ xs)
distinct_differ [] h = refl
distinct_differ (x ∷ xs) h =
    and_both (not (list_any (λ y. same_text y x) xs)) (names_differ xs) (none_among x xs (and_left (not (is_among x xs)) (are_distinct xs) h))
    (distinct_differ xs (and_right (not (is_among x xs)) (are_distinct xs) h))

record_well : (ns : List (List ℕ)) (q : Option (List (List ℕ × Kind))) → IfKind (FieldsWell ns) q → (b : Bool) → are_distinct ns ≡ b →
    Well (if b then option_map (λ xs. kind.Rec (fields xs)) q else None)
record_well ns q h false e = tt
record_well ns None h true e = tt
record_well ns (Some fs) h true e =
    and_both (names_differ (names_of_fields (fields fs))) (fields_named (fields fs))
    (fields_differ fs (subst (λ (l : List (List ℕ)). IsTrue (names_differ l)) (sym h.0) (distinct_differ ns e))) h.1

layer_well : (y : ty.Ty-F Item) → Well (kind_layer (map-Ty Ty (Option Kind) kind_of (map-Ty Item Ty (λ t. t.0) y)))
layer_well ty.Bool = refl
layer_well ty.Int = refl
layer_well ty.Str = refl
layer_well (ty.Named []) = tt
layer_well (ty.Named (x ∷ xs)) = refl
layer_well (ty.Var n) = tt
layer_well (ty.Set a) = mapped _ _ kind.Set (λ x h. h) (kind_of a.0) a.1
layer_well (ty.Seq a) = mapped _ _ kind.Seq (λ x h. h) (kind_of a.0) a.1
layer_well (ty.Fun a b) = by (kind_of a.0) a.1 (kind_of b.0) b.1
  where
    by : (o : Option Kind) → Well o → (q : Option Kind) → Well q → Well (option_and_then (λ x. option_map (λ y. kind.Fun x y) q) o)
    by None h q k = tt
    by (Some x) h None k = tt
    by (Some x) h (Some y) k = and_both (well_named x) (well_named y) h k
layer_well (ty.Tup as') = mapped _ _ (λ xs. kind.Tup (kind.kinds xs)) (λ xs h. h) (all_there (map kind_of (map (λ (p : Item). p.0) as'))) (items_named as')
layer_well (ty.Rec fs None) =
    let ns : List (List ℕ) = map (λ (f : List ℕ × Option Kind). f.0) (pairs_of fs) in
    record_well ns (all_fields_there (pairs_of fs)) (fields_there fs) (are_distinct ns) refl
layer_well (ty.Rec fs (Some r)) = tt
layer_well (ty.Oper as' b) = tt

kind-roll : (x : ty.Ty-F Ty) → kind_of (roll-Ty x) ≡ kind_layer (map-Ty Ty (Option Kind) kind_of x)
unfolding kind_of
kind-roll x = fold-roll-Ty (Option Kind) kind_layer x

type_well : (t : Ty) → Well (kind_of t)
type_well = ind-Ty (λ t. Well (kind_of t)) (λ x y is. subst (λ (z : ty.Ty-F Ty). Well (kind_of (roll-Ty z))) is
    (subst Well (sym (kind-roll (map-Ty Item Ty (λ t. t.0) y))) (layer_well y)))

pub kind_named : (t : Ty) (a : Kind) → kind_of t ≡ Some a → IsTrue (well_named a)
kind_named t a e = subst Well e (type_well t)
