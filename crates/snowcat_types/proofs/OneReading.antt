-- The annotations of a job are determined: each text says one type, and each note binds one type or none.
use Rattle.std.proofs.Common.{◌+◌, ◌<◌, ◌^◌, ◌%◌, arith, ◌≡◌, ℕ, true, false, ◌⊎◌, inl, inr, List, [], ◌∷◌, ◌++◌, map, refl, ap, sym, ◌∙◌, subst, Option, Some}
use Rattle.std.specs.Prelude.{bytes_eq, Contains}
use Rattle.std.specs.List.{list_any}
use Rattle.std.specs.Cmp.{IsEquivalence}
use Rattle.std.specs.Fmt.{decimal}
use Rattle.std.specs.Str.Parse.{digits_value}
use Rattle.std.proofs.lemmas.Fmt.{decimal_by_steps, decimal_is_IsNumeral}
use Rattle.std.proofs.lemmas.Bool.{cases_Bool}
use Rattle.std.proofs.lemmas.Map.Views.{list_any-from_Contains, Contains-from_any}
use Rattle.std.proofs.lemmas.Slice.Eq.{bytes_eq-Decides}
use Rattle.tla_meaning.specs.declared.expr.Decl.{Decl}
use Rattle.tla_meaning.specs.declared.job.Job.{Job}
use Rattle.snowcat_rows.specs.Types.{Term}
use Rattle.snowcat_rows.specs.Readings.{Known, IsReadBy}
use Rattle.snowcat_rows.proofs.ReadingLaws.{same_known, read_once}
use Rattle.snowcat_types.specs.Systems.{Annotations, parts_of}
use Rattle.snowcat_types.specs.Annotated.{Aliases, IsReadWith, IsNameType, numbered, Binds, Says, all_notes, AreNameTypes, AreAnnotations}
use Rattle.snowcat_types.specs.inner.Telling.{IsUnbroken}

pub some_same : {X : Type 0} → (x y : X) → Some x ≡ Some y → x ≡ y
some_same x y e = cc

pair_same : {X : Type 0} → {Y : Type 0} → (a b : X × Y) → a.0 ≡ b.0 → a.1 ≡ b.1 → a ≡ b
pair_same a b e f = λ i. (e i, f i)

-- ---- what a text says

pub read_the_same : (aliases : Aliases) (text : List ℕ) (t u : Term) (n m : ℕ) → IsReadWith aliases text t n → IsReadWith aliases text u m → (t ≡ u) × (n ≡ m)
read_the_same aliases text t u n m (k, g, r) (j, h, q) =
    let P : Known → Type 0 = λ z. IsReadBy z text t n in
    read_once j text t u n m (subst P (same_known aliases [] k j g h) r) q

-- ---- names

same_name_type : (aliases : Aliases) (d : Decl) (t u : Term × ℕ) → IsNameType aliases d t → IsNameType aliases d u → t ≡ u
same_name_type aliases d t u g h =
    let e : g.text ≡ h.text = some_same g.text h.text (sym g.written ∙ h.written) in
    let P : List ℕ → Type 0 = λ z. IsReadWith aliases z t.0 t.1 in
    let r : IsReadWith aliases h.text t.0 t.1 = subst P e g.read_with in
    let q = read_the_same aliases h.text t.0 u.0 t.1 u.1 r h.read_with in
    pair_same t u q.0 q.1

same_name_types : (aliases : Aliases) (ds : List Decl) (ts us : List (Term × ℕ)) → AreNameTypes aliases ds ts → AreNameTypes aliases ds us → ts ≡ us
same_name_types aliases [] [] [] g h = refl
same_name_types aliases [] [] (u ∷ us) g h = absurd h
same_name_types aliases [] (t ∷ ts) us g h = absurd g
same_name_types aliases (d ∷ ds) [] us g h = absurd g
same_name_types aliases (d ∷ ds) (t ∷ ts) [] g h = absurd h
same_name_types aliases (d ∷ ds) (t ∷ ts) (u ∷ us) g h =
    λ i. same_name_type aliases d t u g.0 h.0 i ∷ same_name_types aliases ds ts us g.1 h.1 i

-- ---- notes

same_binding : (i : ℕ) (t : Term) (o p : Option Term) → Binds i t o → Binds i t p → o ≡ p
same_binding i t o p (inl g) (inl h) = g.1 ∙ sym h.1
same_binding i t o p (inl g) (inr h) = absurd (h.0 g.0)
same_binding i t o p (inr g) (inl h) = absurd (g.0 h.0)
same_binding i t o p (inr g) (inr h) = g.1 ∙ sym h.1

-- a number's digits end before the blank behind it

unbroken_append : (xs ys : List ℕ) → IsUnbroken xs → IsUnbroken ys → IsUnbroken (xs ++ ys)
unbroken_append [] ys h k = k
unbroken_append (x ∷ xs) ys h k = (h.0, unbroken_append xs ys h.1 k)

pub decimal_unbroken : (n : ℕ) → n < 2 ^ 64 → IsUnbroken (decimal n)
decimal_unbroken n lt =
    decimal_by_steps (λ n ds. IsUnbroken ds) (λ n l. ((λ e. omega (arith, e)), tt))
    (λ n ds l h. unbroken_append ds ((48 + n % 10) ∷ []) h ((λ e. omega (arith, e)), tt)) n lt

head_same : (x y : ℕ) (xs ys : List ℕ) → x ∷ xs ≡ y ∷ ys → x ≡ y
head_same x y xs ys e = cc

tail_same : (x y : ℕ) (xs ys : List ℕ) → x ∷ xs ≡ y ∷ ys → xs ≡ ys
tail_same x y xs ys e = cc

pub same_split : (xs ys us vs : List ℕ) → IsUnbroken xs → IsUnbroken ys → xs ++ 32 ∷ us ≡ ys ++ 32 ∷ vs → (xs ≡ ys) × (us ≡ vs)
same_split [] [] us vs h k e = (refl, tail_same 32 32 us vs e)
same_split [] (y ∷ ys) us vs h k e =
    absurd (k.0 (sym (head_same 32 y us (ys ++ 32 ∷ vs) e)))
same_split (x ∷ xs) [] us vs h k e =
    absurd (h.0 (head_same x 32 (xs ++ 32 ∷ us) vs e))
same_split (x ∷ xs) (y ∷ ys) us vs h k e =
    let d : x ≡ y = head_same x y (xs ++ 32 ∷ us) (ys ++ 32 ∷ vs) e in
    let r = same_split xs ys us vs h.1 k.1 (tail_same x y (xs ++ 32 ∷ us) (ys ++ 32 ∷ vs) e) in
    (λ i. d i ∷ r.0 i, r.1)

pub same_numbered : (i j : ℕ) (x y : List ℕ) → i < 2 ^ 64 → j < 2 ^ 64 → numbered i x ≡ numbered j y → (i ≡ j) × (x ≡ y)
same_numbered i j x y li lj e =
    let r = same_split (decimal i) (decimal j) x y (decimal_unbroken i li) (decimal_unbroken j lj) e in
    (sym (decimal_is_IsNumeral i li).1 ∙ ap (digits_value 10) r.0 ∙ (decimal_is_IsNumeral j lj).1, r.1)

same_saying : (aliases : Aliases) (text : List ℕ) (o p : Option Term) → Says aliases text o → Says aliases text p → o ≡ p
same_saying aliases text o p g h =
    let e = same_numbered g.number h.number g.annotation h.annotation g.small h.small (sym g.is_numbered ∙ h.is_numbered) in
    let P : List ℕ → Type 0 = λ z. (n : ℕ) × IsReadWith aliases z g.type n in
    let w : (n : ℕ) × IsReadWith aliases h.annotation g.type n = subst P e.1 g.whole.0 in
    let t : g.type ≡ h.type = (read_the_same aliases h.annotation g.type h.type w.0 h.whole.0.0 w.1 h.whole.0.1).0 in
    let Q : ℕ → Type 0 = λ z. Binds z g.type o in
    let R : Term → Type 0 = λ z. Binds h.number z o in
    same_binding h.number h.type o p (subst R t (subst Q e.0 g.binds)) h.binds

bytes_same : (xs ys : List ℕ) → bytes_eq xs ys ≡ true → xs ≡ ys
bytes_same xs ys e = (bytes_eq-Decides xs ys).0 e

equivalence : IsEquivalence bytes_eq
equivalence = record {
  refl = λ x. (bytes_eq-Decides x x).1 refl;
  symm = turned;
  congr = λ x y z e. ap (λ w. bytes_eq w z) (bytes_same x y e);
}
  where
    turned : (x y : List ℕ) → bytes_eq x y ≡ bytes_eq y x
    turned x y =
        elim (cases_Bool (bytes_eq x y)) [
          | inl e ↦ e ∙ sym ((bytes_eq-Decides y x).1 (sym (bytes_same x y e)))
          | inr e ↦ elim (cases_Bool (bytes_eq y x)) [
            | inl f ↦ (bytes_eq-Decides x y).1 (sym (bytes_same y x f)) ∙ sym f
            | inr f ↦ e ∙ sym f
          ]
        ]

pub stands_or_not : (x : List ℕ) (xs : List (List ℕ)) → Contains xs x ⊎ (Contains xs x → ⊥)
stands_or_not x xs =
    elim (cases_Bool (list_any (bytes_eq x) xs)) [
      | inl e ↦ inl (Contains-from_any bytes_same x xs e)
      | inr e ↦ inr (λ h. absurd (let f : true ≡ false = sym (list_any-from_Contains equivalence x xs h) ∙ e in cc))
    ]

same_noted : (job : Job) (a b : Annotations) → AreAnnotations job a → AreAnnotations job b → (text : List ℕ) → a.noted text ≡ b.noted text
same_noted job a b g h text =
    elim (stands_or_not text (map (λ n. n.0) (all_notes (parts_of job)))) [
      | inl i ↦ same_saying job.aliases text (a.noted text) (b.noted text) (g.notes text i) (h.notes text i)
      | inr n ↦ g.others text n ∙ sym (h.others text n)
    ]

pub one_annotation : (job : Job) (a b : Annotations) → AreAnnotations job a → AreAnnotations job b → a ≡ b
one_annotation job a b g h = λ i. record {
  declared = same_name_types job.aliases job.names a.declared b.declared g.names h.names i;
  noted = λ text. same_noted job a b g h text i;
}
