-- Steps of building a record from names that may stand twice.
use Rattle.std.proofs.Common.{◌≡◌, ℕ, suc, ◌+◌, ◌<◌, Bool, true, false, List, [], ◌∷◌, ◌++◌, drop, get_or, take, length, refl, ap, ◌∙◌, sym, inl, inr, arith, None}
use Rattle.std.specs.Prelude.{bytes_eq, ◌||◌, zip}
use Rattle.std.proofs.lemmas.Bool.{cases_Bool}
use Rattle.std.proofs.lemmas.List.{drop_more}
use Rattle.std.proofs.lemmas.Slice.Eq.{bytes_eq-Decides}
use Rattle.snowcat_rows.specs.declared.types.Ty.{Ty, Rec}
use Rattle.snowcat_rows.specs.Types.{Term, fields, lookup, mean}
use Rattle.snowcat_rows.specs.Substitutions.{or_else}
use Rattle.snowcat_rows.specs.FieldNames.{names}
use Rattle.snowcat_rows.specs.TypeTexts.{is_among}
use Rattle.snowcat_rows.specs.inner.Naming.{record_named}
use Rattle.snowcat_rows.proofs.Distinct.{record_snoc}
use Rattle.snowcat_rows.proofs.Means.{lookup-append, mean-Rec}
use Rattle.snowcat_types.specs.TypeForms.{record_type}
use Rattle.snowcat_types.specs.Rows.{Scope}
use Rattle.snowcat_types.specs.inner.Built.{means, scope_of}
use Rattle.snowcat_types.specs.inner.Gathered.{IsNamed}
use Rattle.snowcat_types.specs.inner.Named.{Tells, TellsBehind}
use Rattle.snowcat_types.proofs.FormSteps.{scope_append, zip_more}

-- ---- whether a name stands there

or_true : (a b : Bool) → a ≡ true → (a || b) ≡ true
or_true true b e = refl
or_true false b e = absurd (cc)

or_other : (a b : Bool) → a ≡ false → (a || b) ≡ b
or_other false b e = refl
or_other true b e = absurd (cc)

pub among_here : (x : List ℕ) (fs : List (List ℕ × Ty)) (i : ℕ) (f : List ℕ × Ty) → i < length fs → f ≡ get_or fs i f → x ≡ f.0 →
    is_among x (names (drop i fs)) ≡ true
among_here x fs i f lt q e =
    ap (λ z. is_among x (names z)) (drop_more fs i f lt ∙ ap (λ z. z ∷ drop (i + 1) fs) (sym q))
    ∙ or_true (bytes_eq x f.0) (is_among x (names (drop (i + 1) fs))) ((bytes_eq-Decides x f.0).1 e)

pub among_later : (x : List ℕ) (fs : List (List ℕ × Ty)) (i : ℕ) (f : List ℕ × Ty) → i < length fs → f ≡ get_or fs i f → (x ≡ f.0 → ⊥) →
    is_among x (names (drop (i + 1) fs)) ≡ is_among x (names (drop i fs))
among_later x fs i f lt q n =
    sym (ap (λ z. is_among x (names z)) (drop_more fs i f lt ∙ ap (λ z. z ∷ drop (i + 1) fs) (sym q))
    ∙ elim (cases_Bool (bytes_eq x f.0)) [
      | inl h ↦ absurd (n ((bytes_eq-Decides x f.0).0 h))
      | inr h ↦ or_other (bytes_eq x f.0) (is_among x (names (drop (i + 1) fs))) h
    ])

-- ---- fields of which the first of each name are taken

unless : (x : List ℕ) (t : Term) (xs : Scope) (n : List ℕ) → bytes_eq x n ≡ false → lookup (xs ++ (x, t) ∷ []) n ≡ lookup xs n
unless x t [] n e = rw e refl
unless x t (y ∷ xs) n e = elim (cases_Bool (bytes_eq y.0 n)) [
  | inl h ↦ rw h refl
  | inr h ↦ rw h (unless x t xs n e)
]

false_by : (a b : List ℕ) → bytes_eq a b ≡ true → (n : List ℕ) → bytes_eq b n ≡ false → bytes_eq a n ≡ false
false_by a b e n h = ap (λ z. bytes_eq z n) ((bytes_eq-Decides a b).0 e) ∙ h

-- one of a name that stands already tells nothing
pub told_already : (x : List ℕ) (t : Term) (fs : List (List ℕ × Ty)) (n : List ℕ) → is_among x (names fs) ≡ true →
    lookup (scope_of fs ++ (x, t) ∷ []) n ≡ lookup (scope_of fs) n
told_already x t [] n e = absurd (cc)
told_already x t (f ∷ fs) n e = elim (cases_Bool (bytes_eq f.0 n)) [
  | inl h ↦ rw h refl
  | inr h ↦ rw h (elim (cases_Bool (bytes_eq x f.0)) [
    | inl k ↦ unless x t (scope_of fs) n (false_by x f.0 k n h)
    | inr k ↦ told_already x t fs n (sym (or_other (bytes_eq x f.0) (is_among x (names fs)) k) ∙ e)
  ])
]

pub one_told : (xs : List (List ℕ)) (ts : List Ty) (i : ℕ) (x d : List ℕ) (t e : Ty) (fs : List (List ℕ × Ty)) → i < length xs → i < length ts →
    x ≡ get_or xs i d → t ≡ get_or ts i e → Tells fs (take i xs) ts →
    (n : List ℕ) → lookup (scope_of fs ++ (x, mean t) ∷ []) n ≡ lookup (zip (take (i + 1) xs) (means ts)) n
one_told xs ts i x d t e fs l k p q h n =
    let up : suc i ≡ i + 1 = omega arith in
    let one : Scope = (x, mean t) ∷ [] in
    lookup-append (scope_of fs) one n
    ∙ ap (λ z. or_else z (lookup one n)) (h n)
    ∙ sym (lookup-append (zip (take i xs) (means ts)) one n)
    ∙ ap (λ z. lookup z n) (sym (zip_more xs ts i x d t e l k p q) ∙ ap (λ z. zip (take z xs) (means ts)) up)

pub told_behind : (fs gs : List (List ℕ × Ty)) (x y : List ℕ) (t u : Ty) → gs ≡ fs ++ (y, u) ∷ [] → y ≡ x → u ≡ t → TellsBehind fs x (mean t) gs
told_behind fs gs x y t u g p q n =
    ap (λ z. lookup (scope_of z) n) g ∙ ap (λ z. lookup z n) (scope_append fs ((y, u) ∷ []))
    ∙ (λ i. lookup (scope_of fs ++ (p i, mean (q i)) ∷ []) n)

pub record_is : (fs : List (List ℕ × Ty)) (xs : List (List ℕ)) (ts : List Ty) → Tells fs xs ts → mean (Rec fs None) ≡ record_type (zip xs (means ts))
record_is fs xs ts h = mean-Rec fs None ∙ (λ i. fields (λ n. h n i) None)

pub fields_more : (fs gs : List (List ℕ × Ty)) (x y : List ℕ) (t u : Ty) → gs ≡ fs ++ (y, u) ∷ [] → y ≡ x → u ≡ t → is_among x (names fs) ≡ false →
    IsNamed t → record_named fs ≡ true → record_named gs ≡ true
fields_more fs gs x y t u e p q n h k = ap record_named e ∙ (λ i. record_named (fs ++ (p i, q i) ∷ [])) ∙ record_snoc fs (x, t) k n h
