-- Fields in the order of their names are one list where they have one look-up.
use Rattle.std.proofs.Common.{◌≡◌, ℕ, Bool, true, false, List, [], ◌∷◌, refl, sym, ◌∙◌, ap, subst, Option, Some, None, if◌then◌else◌}
use Rattle.std.proofs.lemmas.Cmp.{nat_list_cmp_total}
use Rattle.std.specs.Ordering.{is_eq, is_lt, ordering_reverse}
use Rattle.std.specs.declared.cmp.Ordering.{Ordering}
use Rattle.std.specs.declared.cmp.Ordering.TheVariants.{Less, Equal, Greater}
use Rattle.tla_values.specs.Order.{text_cmp}
use Rattle.tla_values.proofs.TotalLemmas.{texts_equal}
use Rattle.tla_meaning.proofs.Laws.{none≢some, equal_of}
use Rattle.kernel_trees.specs.TypeKinds.{Kind, Fields, no_fields, more_fields, insert_field, fields, field_kind}
use Rattle.kernel_trees.proofs.Steps.{same_text_same}

abbrev Above : List ℕ → Fields → Type 0
Above x no_fields = Unit {0}
Above x (more_fields y a fs) = (text_cmp x y ≡ Less) × Above x fs

abbrev pub InOrder : Fields → Type 0
InOrder no_fields = Unit {0}
InOrder (more_fields x a fs) = Above x fs × InOrder fs

above_more : (x y : List ℕ) (fs : Fields) → text_cmp x y ≡ Less → Above y fs → Above x fs
above_more x y no_fields l h = tt
above_more x y (more_fields z a fs) l h =
    (nat_list_cmp_total.trans x y z l h.0, above_more x y fs l h.1)

none_below : (x : List ℕ) (fs : Fields) → Above x fs → field_kind fs x ≡ None
none_below x no_fields h = refl
none_below x (more_fields y a fs) h =
    ap (λ o. if is_eq o then Some a else field_kind fs x) h.0 ∙ none_below x fs h.1

here : (x : List ℕ) (a : Kind) (fs : Fields) → field_kind (more_fields x a fs) x ≡ Some a
here x a fs = ap (λ d. if d then Some a else field_kind fs x) (same_text_same x)

same_there : {X : Type 0} {x y : X} → Some x ≡ Some y → x ≡ y
same_there e = cc

turned : (x y : List ℕ) → text_cmp x y ≡ Greater → text_cmp y x ≡ Less
turned x y h = nat_list_cmp_total.antisymm y x ∙ ap ordering_reverse h

pub one_list : (fs gs : Fields) → InOrder fs → InOrder gs → ((x : List ℕ) → field_kind fs x ≡ field_kind gs x) → fs ≡ gs
one_list no_fields no_fields p q e = refl
one_list no_fields (more_fields y b gs) p q e = absurd (none≢some (e y ∙ here y b gs))
one_list (more_fields x a fs) no_fields p q e = absurd (none≢some (sym (e x) ∙ here x a fs))
one_list (more_fields x a fs) (more_fields y b gs) p q e =
    by (λ r. one_list fs gs p.1 q.1 r) (text_cmp x y) refl
  where
    rest : x ≡ y → (z : List ℕ) → field_kind fs z ≡ field_kind gs z
    rest w z = cond (is_eq (text_cmp z x)) refl
      where
        cond : (d : Bool) → is_eq (text_cmp z x) ≡ d → field_kind fs z ≡ field_kind gs z
        cond true k =
            let s : z ≡ x = texts_equal z x (equal_of (text_cmp z x) k) in
            subst (λ v. field_kind fs v ≡ None) (sym s) (none_below x fs p.0)
            ∙ sym (subst (λ v. field_kind gs v ≡ None) (sym (s ∙ w)) (none_below y gs q.0))
        cond false k =
            sym (ap (λ d. if d then Some a else field_kind fs z) k) ∙ e z
            ∙ ap (λ d. if d then Some b else field_kind gs z) (sym (ap (λ v. is_eq (text_cmp z v)) w) ∙ k)

    by : (((z : List ℕ) → field_kind fs z ≡ field_kind gs z) → fs ≡ gs) → (o : Ordering) → text_cmp x y ≡ o →
        more_fields x a fs ≡ more_fields y b gs
    by f Less c =
        absurd (none≢some (sym (none_below x (more_fields y b gs) (c, above_more x y gs c q.0)) ∙ sym (e x) ∙ here x a fs))
    by f Greater c =
        let c' = turned x y c in
        absurd (none≢some (sym (none_below y (more_fields x a fs) (c', above_more y x fs c' p.0)) ∙ e y ∙ here y b gs))
    by f Equal c =
        let w : x ≡ y = texts_equal x y c in
        let k : a ≡ b =
        same_there (sym (here x a fs) ∙ e x ∙ ap (field_kind (more_fields y b gs)) w ∙ here y b gs) in
        let r : fs ≡ gs = f (rest w) in
        λ i. more_fields (w i) (k i) (r i)

above_insert : (z x : List ℕ) (a : Kind) (fs : Fields) → text_cmp z x ≡ Less → Above z fs → Above z (insert_field x a fs)
above_insert z x a no_fields l h = (l, tt)
above_insert z x a (more_fields y b fs) l h = by (above_insert z x a fs l h.1) (is_lt (text_cmp x y))
  where
    by : Above z (insert_field x a fs) → (d : Bool) →
        Above z (if d then more_fields x a (more_fields y b fs) else more_fields y b (insert_field x a fs))
    by r true = (l, h)
    by r false = (h.0, r)

pub insert_in_order : (x : List ℕ) (a : Kind) (fs : Fields) → InOrder fs → field_kind fs x ≡ None →
    InOrder (insert_field x a fs)
insert_in_order x a no_fields h n = (tt, tt)
insert_in_order x a (more_fields y b fs) h n = by (λ m. insert_in_order x a fs h.1 m) (text_cmp x y) refl
  where
    by : (field_kind fs x ≡ None → InOrder (insert_field x a fs)) → (o : Ordering) → text_cmp x y ≡ o →
        InOrder (if is_lt o then more_fields x a (more_fields y b fs) else more_fields y b (insert_field x a fs))
    by f Less c = ((c, above_more x y fs c h.0), h)
    by f Equal c = absurd (none≢some (sym n ∙ ap (λ o. if is_eq o then Some b else field_kind fs x) c))
    by f Greater c = (
      above_insert y x a fs (turned x y c) h.0,
      f (sym (ap (λ o. if is_eq o then Some b else field_kind fs x) c) ∙ n),
    )

-- ---- look-up in fields as they are written

abbrev pub found : {X : Type 0} → List (List ℕ × X) → List ℕ → Option X
found [] x = None
found (f ∷ fs) x = if is_eq (text_cmp x f.0) then Some f.1 else found fs x

-- the fields are looked up one by one, and no name twice
abbrev pub Once : {X : Type 0} → List (List ℕ × X) → Type 0
Once [] = Unit {0}
Once (f ∷ fs) = (found fs f.0 ≡ None) × Once fs

insert_found : (y : List ℕ) (b : Kind) (fs : Fields) (x : List ℕ) → field_kind fs y ≡ None →
    field_kind (insert_field y b fs) x ≡ (if is_eq (text_cmp x y) then Some b else field_kind fs x)
insert_found y b no_fields x n = refl
insert_found y b (more_fields z c fs) x n = by (λ m. insert_found y b fs x m) (text_cmp y z) refl
  where
    two : (d e : Bool) → is_eq (text_cmp x y) ≡ d → is_eq (text_cmp x z) ≡ e →
        (if is_eq (text_cmp y z) then Some c else field_kind fs y) ≡ None →
        (if e then Some c else (if d then Some b else field_kind fs x))
        ≡ (if d then Some b else (if e then Some c else field_kind fs x))
    two true true p q m =
        let s : x ≡ y = texts_equal x y (equal_of (text_cmp x y) p) in
        let k : is_eq (text_cmp y z) ≡ true = ap (λ v. is_eq (text_cmp v z)) (sym s) ∙ q in
        absurd (none≢some (sym m ∙ ap (λ d. if d then Some c else field_kind fs y) k))
    two true false p q m = refl
    two false true p q m = refl
    two false false p q m = refl

    by : (field_kind fs y ≡ None →
        field_kind (insert_field y b fs) x ≡ (if is_eq (text_cmp x y) then Some b else field_kind fs x)) →
        (o : Ordering) → text_cmp y z ≡ o →
        field_kind (if is_lt o then more_fields y b (more_fields z c fs) else more_fields z c (insert_field y b fs)) x
        ≡ (if is_eq (text_cmp x y) then Some b else field_kind (more_fields z c fs) x)
    by f Less k = refl
    by f Equal k = absurd (none≢some (sym n ∙ ap (λ o. if is_eq o then Some c else field_kind fs y) k))
    by f Greater k =
        ap (λ v. if is_eq (text_cmp x z) then Some c else v)
        (f (sym (ap (λ o. if is_eq o then Some c else field_kind fs y) k) ∙ n))
        ∙ two (is_eq (text_cmp x y)) (is_eq (text_cmp x z)) refl refl n

pub fields_found : (fs : List (List ℕ × Kind)) → Once fs →
    InOrder (fields fs) × ((x : List ℕ) → field_kind (fields fs) x ≡ found fs x)
fields_found [] h = (tt, λ x. refl)
fields_found (f ∷ fs) h =
    let r = fields_found fs h.1 in
    let n : field_kind (fields fs) f.0 ≡ None = r.1 f.0 ∙ h.0 in (
      insert_in_order f.0 f.1 (fields fs) r.0 n,
      λ x.
          insert_found f.0 f.1 (fields fs) x n
          ∙ ap (λ v. if is_eq (text_cmp x f.0) then Some f.1 else v) (r.1 x),
    )
