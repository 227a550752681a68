-- Fields that are looked up by name, in whatever order they are kept.
use Rattle.std.proofs.Common.{◌≡◌, ℕ, Bool, true, false, not, ◌||◌, IsTrue, List, [], ◌∷◌, map, refl, sym, ◌∙◌, ap, subst, Option, Some, None, bytes_eq, if◌then◌else◌}
use Rattle.std.specs.Prelude.{option_map, option_and_then}
use Rattle.std.proofs.lemmas.Slice.Eq.{bytes_eq-Decides}
use Rattle.std.specs.Ordering.{is_eq, is_lt}
use Rattle.std.specs.declared.cmp.Ordering.{Ordering}
use Rattle.std.specs.declared.cmp.Ordering.TheVariants.{Less, Equal, Greater}
use Rattle.tla_values.specs.Order.{text_cmp}
use Rattle.tla_values.proofs.TotalLemmas.{texts_equal}
use Rattle.tla_meaning.proofs.Laws.{none≢some, equal_of}
use Rattle.tla_meaning.proofs.Views.{and_left, and_right, false≢true}
use Rattle.snowcat_rows.specs.TypeTexts.{are_distinct, is_among}
use Rattle.kernel_trees.specs.TypeKinds.{Kind, Fields, no_fields, more_fields, insert_field, fields, field_kind, all_fields_there}
use Rattle.kernel_trees.proofs.Steps.{same_text_same}

pub some_is : {X : Type 0} {x y : X} → Some x ≡ Some y → x ≡ y
some_is e = cc

-- two tests of equal names
pub one-test : (x y : List ℕ) → bytes_eq y x ≡ is_eq (text_cmp x y)
one-test x y = by (bytes_eq y x) refl (is_eq (text_cmp x y)) refl
  where
    by : (b : Bool) → bytes_eq y x ≡ b → (d : Bool) → is_eq (text_cmp x y) ≡ d → bytes_eq y x ≡ is_eq (text_cmp x y)
    by true p true q = p ∙ sym q
    by true p false q =
        let e : y ≡ x = (bytes_eq-Decides y x).0 p in
        absurd (false≢true (sym q ∙ ap (λ (z : List ℕ). is_eq (text_cmp x z)) e ∙ same_text_same x))
    by false p true q =
        let e : x ≡ y = texts_equal x y (equal_of (text_cmp x y) q) in
        absurd (false≢true (sym p ∙ ap (λ (z : List ℕ). bytes_eq y z) e ∙ (bytes_eq-Decides y y).1 refl))
    by false p false q = p ∙ sym q

-- the first of a name
abbrev pub found : List (List ℕ × Kind) → List ℕ → Option Kind
found [] x = None
found (f ∷ fs) x = if is_eq (text_cmp x f.0) then Some f.1 else found fs x

-- no name twice
abbrev pub Once : List (List ℕ × Kind) → Type 0
Once [] = Unit {0}
Once (f ∷ fs) = (found fs f.0 ≡ None) × Once fs

insert_found : (y : List ℕ) (b : Kind) (fs : Fields) (x : List ℕ) → field_kind fs y ≡ None →
    field_kind (insert_field y b fs) x ≡ (if is_eq (text_cmp x y) then Some b else field_kind fs x)
insert_found y b no_fields x n = refl
insert_found y b (more_fields z c fs) x n = by (λ m. insert_found y b fs x m) (text_cmp y z) refl
  where
    two : (d e : Bool) → is_eq (text_cmp x y) ≡ d → is_eq (text_cmp x z) ≡ e →
        (if is_eq (text_cmp y z) then Some c else field_kind fs y) ≡ None →
        (if e then Some c else (if d then Some b else field_kind fs x)) ≡ (if d then Some b else (if e then Some c else field_kind fs x))
    two true true p q m =
        let s : x ≡ y = texts_equal x y (equal_of (text_cmp x y) p) in
        let k : is_eq (text_cmp y z) ≡ true = ap (λ v. is_eq (text_cmp v z)) (sym s) ∙ q in
        absurd (none≢some (sym m ∙ ap (λ d. if d then Some c else field_kind fs y) k))
    two true false p q m = refl
    two false true p q m = refl
    two false false p q m = refl

    by : (field_kind fs y ≡ None → field_kind (insert_field y b fs) x ≡ (if is_eq (text_cmp x y) then Some b else field_kind fs x)) →
        (o : Ordering) → text_cmp y z ≡ o →
        field_kind (if is_lt o then more_fields y b (more_fields z c fs) else more_fields z c (insert_field y b fs)) x
        ≡ (if is_eq (text_cmp x y) then Some b else field_kind (more_fields z c fs) x)
    by f Less k = refl
    by f Equal k = absurd (none≢some (sym n ∙ ap (λ o. if is_eq o then Some c else field_kind fs y) k))
    by f Greater k =
        ap (λ v. if is_eq (text_cmp x z) then Some c else v) (f (sym (ap (λ o. if is_eq o then Some c else field_kind fs y) k) ∙ n))
        ∙ two (is_eq (text_cmp x y)) (is_eq (text_cmp x z)) refl refl n

-- sorting changes no look-up
pub fields_found : (fs : List (List ℕ × Kind)) → Once fs → (x : List ℕ) → field_kind (fields fs) x ≡ found fs x
fields_found [] h x = refl
fields_found (f ∷ fs) h x =
    insert_found f.0 f.1 (fields fs) x (fields_found fs h.1 f.0 ∙ h.0)
    ∙ ap (λ v. if is_eq (text_cmp x f.0) then Some f.1 else v) (fields_found fs h.1 x)

-- names of fields with or without kinds
abbrev names : List (List ℕ × Option Kind) → List (List ℕ)
names fs = map (λ f. f.0) fs

not-found : (x : List ℕ) (fs : List (List ℕ × Option Kind)) (ks : List (List ℕ × Kind)) → all_fields_there fs ≡ Some ks →
    IsTrue (not (is_among x (names fs))) → found ks x ≡ None
not-found x [] ks e h = sym (ap (λ (js : List (List ℕ × Kind)). found js x) (some_is e))
not-found x (f ∷ fs) ks e h = by f.1 refl (all_fields_there fs) refl e (bytes_eq x f.0) refl h (λ js q g. not-found x fs js q g)
  where
    by : (o : Option Kind) → f.1 ≡ o → (r : Option (List (List ℕ × Kind))) → all_fields_there fs ≡ r →
        option_and_then (λ y. option_map (λ ys. (f.0, y) ∷ ys) r) o ≡ Some ks → (b : Bool) → bytes_eq x f.0 ≡ b → IsTrue (not (b || is_among x (names fs))) →
        ((js : List (List ℕ × Kind)) → all_fields_there fs ≡ Some js → IsTrue (not (is_among x (names fs))) → found js x ≡ None) → found ks x ≡ None
    by None p r q s b t g go = absurd (none≢some s)
    by (Some d) p None q s b t g go = absurd (none≢some s)
    by (Some d) p (Some js) q s true t g go = absurd (false≢true g)
    by (Some d) p (Some js) q s false t g go =
        sym (ap (λ (is : List (List ℕ × Kind)). found is x) (some_is s))
        ∙ ap (λ (b : Bool). if b then Some d else found js x) (sym (one-test x f.0) ∙ other t) ∙ go js q g
      where
        other : bytes_eq x f.0 ≡ false → bytes_eq f.0 x ≡ false
        other t = turned (bytes_eq f.0 x) refl
          where
            turned : (b : Bool) → bytes_eq f.0 x ≡ b → bytes_eq f.0 x ≡ false
            turned false k = k
            turned true k =
                let e : f.0 ≡ x = (bytes_eq-Decides f.0 x).0 k in
                absurd (false≢true (sym t ∙ ap (λ (z : List ℕ). bytes_eq x z) e ∙ (bytes_eq-Decides x x).1 refl))

pub once : (fs : List (List ℕ × Option Kind)) (ks : List (List ℕ × Kind)) → all_fields_there fs ≡ Some ks → are_distinct (names fs) ≡ true → Once ks
once [] ks e h = let P : List (List ℕ × Kind) → Type 0 = Once in subst P (some_is e) tt
once (f ∷ fs) ks e h = by f.1 refl (all_fields_there fs) refl e (λ js q. once fs js q (and_right (not (is_among f.0 (names fs))) (are_distinct (names fs)) h))
  where
    by : (o : Option Kind) → f.1 ≡ o → (r : Option (List (List ℕ × Kind))) → all_fields_there fs ≡ r →
        option_and_then (λ y. option_map (λ ys. (f.0, y) ∷ ys) r) o ≡ Some ks → ((js : List (List ℕ × Kind)) → all_fields_there fs ≡ Some js → Once js) → Once ks
    by None p r q s go = absurd (none≢some s)
    by (Some d) p None q s go = absurd (none≢some s)
    by (Some d) p (Some js) q s go =
        let P : List (List ℕ × Kind) → Type 0 = Once in
        subst P (some_is s) (not-found f.0 fs js q (and_left (not (is_among f.0 (names fs))) (are_distinct (names fs)) h), go js q)
