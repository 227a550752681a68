-- A type is of a kind throughout where its items and its fields are.
use Rattle.std.proofs.Common.{Bool, true, false, arith, ◌≡◌, ℕ, zero, suc, ◌<◌, ◌≤◌, ◌⊎◌, inl, inr, List, [], ◌∷◌, length, drop, get_or, drop-cons, map, ap, ◌∙◌, sym, subst, Option}
use Rattle.std.specs.Bool.{MatchBool}
use Rattle.std.proofs.lemmas.List.{drop_all}
use Rattle.snowcat_rows.specs.declared.types.Ty.{Ty, Rec}
use Rattle.snowcat_rows.specs.Types.{Term, Slot, Head, none, some, row, mean}
use Rattle.snowcat_rows.specs.Throughout.{Throughout, ThroughoutSlot}
use Rattle.snowcat_rows.specs.Codes.{has}
use Rattle.snowcat_rows.specs.inner.Rounds.{Is}
use Rattle.snowcat_rows.proofs.Steps.{rec_is}
use Rattle.snowcat_rows.proofs.Fields.{has_later, is_at, name_cases, opened}

module _ (V : ℕ → Type 0) (H : Head → Type 0) (E : Option ℕ → Type 0) where
  abbrev Part : Term → Type 0
  Part t = Throughout V H E t

  abbrev PartSlot : Slot → Type 0
  PartSlot x = ThroughoutSlot V H E x

  -- an item of a row
  pub item_at : (ts : List Ty) (i : ℕ) (t : Ty) → i < length ts → t ≡ get_or ts i t → Part (row (map mean ts)) → Part (mean t)
  item_at [] i t lt e b = absurd (omega (arith, lt))
  item_at (x ∷ xs) zero t lt e b = let P : Ty → Type 0 = λ z. Part (mean z) in subst P (sym e) b.0
  item_at (x ∷ xs) (suc i) t lt e b = item_at xs i t (omega (arith, lt)) e b.1

  pub row_further : (ts : List Ty) (i j : ℕ) (t : Ty) → i < length ts → t ≡ get_or ts i t → j ≡ suc i → Part (mean t) →
      (Part (row (map mean (drop i ts))) → Part (row (map mean ts))) → Part (row (map mean (drop j ts))) → Part (row (map mean ts))
  row_further ts i j t lt e q b h r =
      let P : List Ty → Type 0 = λ l. Part (row (map mean l)) in
      let Q : ℕ → Type 0 = λ z. Part (row (map mean (drop z ts))) in
      h (subst P (sym (drop-cons ts i t lt ∙ ap (λ x. x ∷ drop (suc i) ts) (sym e))) (b, subst Q q r))

  -- ---- fields: each name stands in what is left, or its type is of the kind

  abbrev pub Left : List (List ℕ × Ty) → List (List ℕ × Ty) → Type 0
  Left fs rest = (name : List ℕ) → Is (has rest name) ⊎ PartSlot (has fs name)

  slot_start : (x : Slot) → Is x ⊎ PartSlot x
  slot_start none = inr tt
  slot_start (some t) = inl tt

  pub left_start : (fs : List (List ℕ × Ty)) → Left fs fs
  left_start fs name = slot_start (has fs name)

  pub left_further : (fs : List (List ℕ × Ty)) (i j : ℕ) (f : List ℕ × Ty) → i < length fs → f ≡ get_or fs i f → j ≡ suc i → PartSlot (has fs f.0) →
      Left fs (drop i fs) → Left fs (drop j fs)
  left_further fs i j f lt e q b h name =
      elim (name_cases f.0 name) [
        | inl k ↦ inr (let P : List ℕ → Type 0 = λ z. PartSlot (has fs z) in subst P k b)
        | inr k ↦ elim (h name) [
          | inl o ↦ inl (is_at (has (drop i fs) name) (has (drop j fs) name) (ap (λ l. has l name) (opened fs i f lt e) ∙ has_later f (drop (suc i) fs) name k ∙ ap (λ z. has (drop z fs) name) (sym q)) o)
          | inr o ↦ inr o
        ]
      ]

  pub left_end : (fs : List (List ℕ × Ty)) (i : ℕ) → length fs ≤ i → Left fs (drop i fs) → (name : List ℕ) → PartSlot (has fs name)
  left_end fs i le h name =
      elim (h name) [ inl o ↦ absurd (is_at (has (drop i fs) name) none (ap (λ l. has l name) (drop_all i fs le)) o) | inr o ↦ o ]

  pub slot_of : (x : Slot) (t : Term) → x ≡ some t → Part t → PartSlot x
  slot_of x t e b = let P : Slot → Type 0 = λ z. PartSlot z in subst P (sym e) b

  pub slot_lacks : (x : Slot) → x ≡ none → PartSlot x
  slot_lacks x e = let P : Slot → Type 0 = λ z. PartSlot z in subst P (sym e) tt

  pub slot_holds : (x : Slot) (t : Term) → x ≡ some t → PartSlot x → Part t
  slot_holds x t e b = let P : Slot → Type 0 = λ z. PartSlot z in subst P e b

  -- a record with a field that is not of the kind
  pub record_not : (a : Ty) (xs us : List (List ℕ × Ty)) (k : Option ℕ) (b : Bool) → a ≡ Rec xs k → us ≡ xs → b ≡ false →
      (((name : List ℕ) → PartSlot (has us name)) → ⊥) → MatchBool b (Part (mean a)) (Part (mean a) → ⊥)
  record_not a xs us k b e h f q =
      let P : Bool → Type 0 = λ z. MatchBool z (Part (mean a)) (Part (mean a) → ⊥) in
      let Q : Term → Type 0 = λ z. Part z in
      subst P (sym f) (λ w. q (subst Q (rec_is a xs us k e h) w).0)

  -- a record is of the kind where its fields are and its end is
  pub record_as : (a : Ty) (xs us : List (List ℕ × Ty)) (k : Option ℕ) (b : Bool) → a ≡ Rec xs k → us ≡ xs → E k →
      MatchBool b ((name : List ℕ) → PartSlot (has us name)) (((name : List ℕ) → PartSlot (has us name)) → ⊥) → MatchBool b (Part (mean a)) (Part (mean a) → ⊥)
  record_as a xs us k true e h w f = let Q : Term → Type 0 = λ z. Part z in subst Q (sym (rec_is a xs us k e h)) (f, w)
  record_as a xs us k false e h w f = λ p. f (let Q : Term → Type 0 = λ z. Part z in subst Q (rec_is a xs us k e h) p).0
