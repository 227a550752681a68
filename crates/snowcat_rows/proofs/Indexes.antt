-- A binding is found at the place that is noted for its variable, or there is lacks.
use Rattle.std.proofs.Common.{rules, true, false, ◌≡◌, ℕ, zero, suc, ◌+◌, ◌<◌, ◌≤◌, inl, inr, List, [], ◌∷◌, length, get_or, take, refl, ap, sym, ◌∙◌, subst, arith, Option, Some, None}
use Rattle.std.specs.Prelude.{slice_get, ltb}
use Rattle.std.proofs.lemmas.Option.{slice_get_read, slice_get_past}
use Rattle.std.proofs.lemmas.Bool.Decides.{eqb_tells}
use Rattle.snowcat_rows.specs.declared.types.Ty.{Ty}
use Rattle.snowcat_rows.specs.declared.bindings.Bound.{Bound}
use Rattle.snowcat_rows.specs.declared.bindings.Bound.TheVariants as bound
use Rattle.snowcat_rows.specs.Types.{var, mean}
use Rattle.snowcat_rows.specs.Substitutions.{same_sub}
use Rattle.snowcat_rows.specs.Chains.{Variable, type_var, row_var, key, Absent, Chain}
use Rattle.snowcat_rows.specs.Codes.{binding, bindings_of, has}
use Rattle.snowcat_rows.specs.Views.{type_bound, type_bound_at}
use Rattle.snowcat_rows.specs.inner.Rounds.{row_of}
use Rattle.snowcat_rows.specs.inner.Places.{IndexedFrom}
use Rattle.snowcat_rows.specs.inner.Lookups.{type_at, row_at}

same : (a b : Bound) → Some a ≡ Some b → a ≡ b
same a b q = cc

-- what stands at a place has this place noted
pub entry_at : (e : Variable → ℕ) (i n : ℕ) (bs : List Bound) (b : Bound) → IndexedFrom e i bs → slice_get bs n ≡ Some b → e (key (binding b)) ≡ i + n
entry_at e i n [] b h g = absurd (cc)
entry_at e i zero (a ∷ bs) b h g = ap (λ x. e (key (binding x))) (sym (same a b g)) ∙ h.0 ∙ omega arith
entry_at e i (suc n) (a ∷ bs) b h g = entry_at e (suc i) n bs b h.1 g ∙ omega arith

pub type_found : (e : Variable → ℕ) (i n : ℕ) (bs : List Bound) (v : ℕ) (t : Ty) → IndexedFrom e i bs → slice_get bs n ≡ Some (bound.Type v t) → type_at (bindings_of bs) v ≡ mean t
type_found e i n [] v t h g = absurd (cc)
type_found e i zero (a ∷ bs) v t h g = ap (λ x. type_at (bindings_of (x ∷ bs)) v) (same a (bound.Type v t) g) ∙ own
  where
    own : type_at (bindings_of (bound.Type v t ∷ bs)) v ≡ mean t
    own = elim (eqb_tells v v) [ inl k ↦ rw k.0 refl | inr k ↦ absurd (k.1 refl) ]
type_found e i (suc n) (bound.Type w u ∷ bs) v t h g =
    elim (eqb_tells v w) [
      | inl k ↦ (let a : e (type_var v) ≡ i = ap (λ x. e (type_var x)) k.1 ∙ h.0 in
          let b : e (type_var v) ≡ suc i + n = entry_at e (suc i) n bs (bound.Type v t) h.1 g in absurd (omega (arith, a, b)))
      | inr k ↦ rw k.0 (type_found e (suc i) n bs v t h.1 g)
    ]
type_found e i (suc n) (bound.Row q fs k ∷ bs) v t h g = type_found e (suc i) n bs v t h.1 g

pub type_missing : (e : Variable → ℕ) (i : ℕ) (bs : List Bound) (v : ℕ) → IndexedFrom e i bs →
    ((n : ℕ) (t : Ty) → e (type_var v) ≡ i + n → slice_get bs n ≡ Some (bound.Type v t) → ⊥) → type_at (bindings_of bs) v ≡ var v
type_missing e i [] v h lacks = refl
type_missing e i (bound.Type w u ∷ bs) v h lacks =
    elim (eqb_tells v w) [
      | inl k ↦ absurd (lacks zero u (ap (λ x. e (type_var x)) k.1 ∙ h.0 ∙ omega arith) (ap (λ x. Some (bound.Type x u)) (sym k.1)))
      | inr k ↦ rw k.0 (type_missing e (suc i) bs v h.1 (λ n t q g. lacks (suc n) t (q ∙ omega arith) g))
    ]
type_missing e i (bound.Row q fs k ∷ bs) v h lacks = type_missing e (suc i) bs v h.1 (λ n t p g. lacks (suc n) t (p ∙ omega arith) g)

pub row_found : (e : Variable → ℕ) (i n : ℕ) (bs : List Bound) (r : ℕ) (fs : List (List ℕ × Ty)) (k : Option ℕ) → IndexedFrom e i bs → slice_get bs n ≡ Some (bound.Row r fs k) →
    row_at (bindings_of bs) r ≡ row_of (has fs) k
row_found e i n [] r fs k h g = absurd (cc)
row_found e i zero (a ∷ bs) r fs k h g = ap (λ x. row_at (bindings_of (x ∷ bs)) r) (same a (bound.Row r fs k) g) ∙ own
  where
    own : row_at (bindings_of (bound.Row r fs k ∷ bs)) r ≡ row_of (has fs) k
    own = elim (eqb_tells r r) [ inl j ↦ rw j.0 refl | inr j ↦ absurd (j.1 refl) ]
row_found e i (suc n) (bound.Row q gs j ∷ bs) r fs k h g =
    elim (eqb_tells r q) [
      | inl m ↦ (let a : e (row_var r) ≡ i = ap (λ x. e (row_var x)) m.1 ∙ h.0 in
          let b : e (row_var r) ≡ suc i + n = entry_at e (suc i) n bs (bound.Row r fs k) h.1 g in absurd (omega (arith, a, b)))
      | inr m ↦ rw m.0 (row_found e (suc i) n bs r fs k h.1 g)
    ]
row_found e i (suc n) (bound.Type w u ∷ bs) r fs k h g = row_found e (suc i) n bs r fs k h.1 g

pub row_missing : (e : Variable → ℕ) (i : ℕ) (bs : List Bound) (r : ℕ) → IndexedFrom e i bs →
    ((n : ℕ) (fs : List (List ℕ × Ty)) (k : Option ℕ) → e (row_var r) ≡ i + n → slice_get bs n ≡ Some (bound.Row r fs k) → ⊥) → row_at (bindings_of bs) r ≡ same_sub.row_of r
row_missing e i [] r h lacks = refl
row_missing e i (bound.Row q gs j ∷ bs) r h lacks =
    elim (eqb_tells r q) [
      | inl m ↦ absurd (lacks zero gs j (ap (λ x. e (row_var x)) m.1 ∙ h.0 ∙ omega arith) (ap (λ x. Some (bound.Row x gs j)) (sym m.1)))
      | inr m ↦ rw m.0 (row_missing e (suc i) bs r h.1 (λ n fs k p g. lacks (suc n) fs k (p ∙ omega arith) g))
    ]
row_missing e i (bound.Type w u ∷ bs) r h lacks = row_missing e (suc i) bs r h.1 (λ n fs k p g. lacks (suc n) fs k (p ∙ omega arith) g)

-- ---- writing places

absent_at : (x : Variable) (bs : List Bound) (n : ℕ) (b : Bound) → Absent x (bindings_of bs) → n < length bs → b ≡ get_or bs n b → x ≡ key (binding b) → ⊥
absent_at x [] n b a lt g k = omega (arith, lt)
absent_at x (c ∷ bs) zero b a lt g k = a.0 (k ∙ ap (λ y. key (binding y)) g)
absent_at x (c ∷ bs) (suc n) b a lt g k = absent_at x bs n b a.1.1 (omega (arith, lt)) g k

-- the place of the next binding is noted
pub indexed_more : (e d : Variable → ℕ) (i n : ℕ) (bs : List Bound) (b : Bound) → Chain (bindings_of bs) → n < length bs → b ≡ get_or bs n b →
    d (key (binding b)) ≡ i + n → ((y : Variable) → (y ≡ key (binding b) → ⊥) → d y ≡ e y) → IndexedFrom e i (take n bs) → IndexedFrom d i (take (suc n) bs)
indexed_more e d i n [] b c lt g own f h = absurd (omega (arith, lt))
indexed_more e d i zero (a ∷ bs) b c lt g own f h = (ap (λ y. d (key (binding y))) (sym g) ∙ own ∙ omega arith, tt)
indexed_more e d i (suc n) (a ∷ bs) b c lt g own f h = (
  f (key (binding a)) (λ k. absent_at (key (binding a)) bs n b c.1.0 (omega (arith, lt)) g k) ∙ h.0,
  indexed_more e d (suc i) n bs b c.1.1 (omega (arith, lt)) g (own ∙ omega arith) f h.1,
)

-- an entry of a later binding harms no earlier one
pub indexed_kept : (e d : Variable → ℕ) (i n : ℕ) (bs : List Bound) (b : Bound) → Chain (bindings_of bs) → n < length bs → b ≡ get_or bs n b →
    ((y : Variable) → (y ≡ key (binding b) → ⊥) → d y ≡ e y) → IndexedFrom e i (take n bs) → IndexedFrom d i (take n bs)
indexed_kept e d i n [] b c lt g f h = absurd (omega (arith, lt))
indexed_kept e d i zero (a ∷ bs) b c lt g f h = tt
indexed_kept e d i (suc n) (a ∷ bs) b c lt g f h = (
  f (key (binding a)) (λ k. absent_at (key (binding a)) bs n b c.1.0 (omega (arith, lt)) g k) ∙ h.0,
  indexed_kept e d (suc i) n bs b c.1.1 (omega (arith, lt)) g f h.1,
)

pub indexed_front : (e : Variable → ℕ) (i m n : ℕ) (bs : List Bound) → m ≤ n → IndexedFrom e i (take n bs) → IndexedFrom e i (take m bs)
indexed_front e i zero n bs le h = tt
indexed_front e i (suc m) n [] le h = tt
indexed_front e i (suc m) zero (a ∷ bs) le h = absurd (omega (arith, le))
indexed_front e i (suc m) (suc n) (a ∷ bs) le h = (h.0, indexed_front e (suc i) m n bs (omega (arith, le)) h.1)

-- ---- what a reading of the list says

in_list : (n : ℕ) (bs : List Bound) → true ≡ ltb n (length bs) → n < length bs
in_list n bs k = search (rules, sym k)

past_list : (n : ℕ) (bs : List Bound) → false ≡ ltb n (length bs) → length bs ≤ n
past_list n bs k = search (rules, sym k)

pub reads : (n : ℕ) (bs : List Bound) (x y : Bound) → true ≡ ltb n (length bs) → x ≡ get_or bs n x → x ≡ y → slice_get bs n ≡ Some y
reads n bs x y k g e = slice_get_read bs (length bs) n x refl (in_list n bs k) g ∙ ap Some e

pub reads_none : (n : ℕ) (bs : List Bound) → false ≡ ltb n (length bs) → slice_get bs n ≡ None
reads_none n bs k = slice_get_past bs n (past_list n bs k)

pub indexed_next : (e d : Variable → ℕ) (n j : ℕ) (bs : List Bound) (b : Bound) → Chain (bindings_of bs) → n < length bs → b ≡ get_or bs n b → j ≡ suc n →
    d (key (binding b)) ≡ n → ((y : Variable) → (y ≡ key (binding b) → ⊥) → d y ≡ e y) → IndexedFrom e 0 (take n bs) → IndexedFrom d 0 (take j bs)
indexed_next e d n j bs b c lt g q own f h =
    let P : ℕ → Type 0 = λ z. IndexedFrom d 0 (take z bs) in subst P (sym q) (indexed_more e d 0 n bs b c lt g (own ∙ omega arith) f h)

module _ (e : Variable → ℕ) (n v : ℕ) (bs : List Bound) (h : IndexedFrom e 0 bs) where
  pub type_read : (w : ℕ) (t : Ty) → slice_get bs n ≡ Some (bound.Type w t) → w ≡ v → type_at (bindings_of bs) v ≡ mean t
  type_read w t g q = type_found e 0 n bs v t h (g ∙ ap (λ z. Some (bound.Type z t)) q)

  no_type : n ≡ e (type_var v) → ((t : Ty) → slice_get bs n ≡ Some (bound.Type v t) → ⊥) → type_at (bindings_of bs) v ≡ var v
  no_type k lacks = type_missing e 0 bs v h (λ m t q g. lacks t (ap (slice_get bs) (k ∙ q ∙ omega arith) ∙ g))

  pub other_type : n ≡ e (type_var v) → (w : ℕ) (t : Ty) → slice_get bs n ≡ Some (bound.Type w t) → (w ≡ v → ⊥) → type_at (bindings_of bs) v ≡ var v
  other_type k w t g q = no_type k (λ u f. q (names u (sym g ∙ f)))
    where
      names : (u : Ty) → Some (bound.Type w t) ≡ Some (bound.Type v u) → w ≡ v
      names u f = cc

  pub type_at_row : n ≡ e (type_var v) → (r : ℕ) (fs : List (List ℕ × Ty)) (j : Option ℕ) → slice_get bs n ≡ Some (bound.Row r fs j) → type_at (bindings_of bs) v ≡ var v
  type_at_row k r fs j g = no_type k (λ u f. apart u (sym g ∙ f))
    where
      apart : (u : Ty) → Some (bound.Row r fs j) ≡ Some (bound.Type v u) → ⊥
      apart u f = absurd (cc)

  pub type_past : n ≡ e (type_var v) → slice_get bs n ≡ None → type_at (bindings_of bs) v ≡ var v
  type_past k g = no_type k (λ u f. apart u (sym g ∙ f))
    where
      apart : (u : Ty) → None ≡ Some (bound.Type v u) → ⊥
      apart u f = absurd (cc)

  pub row_read : (q : ℕ) (fs : List (List ℕ × Ty)) (j : Option ℕ) → slice_get bs n ≡ Some (bound.Row q fs j) → q ≡ v → row_at (bindings_of bs) v ≡ row_of (has fs) j
  row_read q fs j g p = row_found e 0 n bs v fs j h (g ∙ ap (λ z. Some (bound.Row z fs j)) p)

  no_row : n ≡ e (row_var v) → ((fs : List (List ℕ × Ty)) (j : Option ℕ) → slice_get bs n ≡ Some (bound.Row v fs j) → ⊥) → row_at (bindings_of bs) v ≡ same_sub.row_of v
  no_row k lacks = row_missing e 0 bs v h (λ m fs j q g. lacks fs j (ap (slice_get bs) (k ∙ q ∙ omega arith) ∙ g))

  pub other_row : n ≡ e (row_var v) → (q : ℕ) (fs : List (List ℕ × Ty)) (j : Option ℕ) → slice_get bs n ≡ Some (bound.Row q fs j) → (q ≡ v → ⊥) → row_at (bindings_of bs) v ≡ same_sub.row_of v
  other_row k q fs j g p = no_row k (λ gs i f. p (names gs i (sym g ∙ f)))
    where
      names : (gs : List (List ℕ × Ty)) (i : Option ℕ) → Some (bound.Row q fs j) ≡ Some (bound.Row v gs i) → q ≡ v
      names gs i f = cc

  pub row_at_type : n ≡ e (row_var v) → (w : ℕ) (t : Ty) → slice_get bs n ≡ Some (bound.Type w t) → row_at (bindings_of bs) v ≡ same_sub.row_of v
  row_at_type k w t g = no_row k (λ gs i f. apart gs i (sym g ∙ f))
    where
      apart : (gs : List (List ℕ × Ty)) (i : Option ℕ) → Some (bound.Type w t) ≡ Some (bound.Row v gs i) → ⊥
      apart gs i f = absurd (cc)

  pub row_past : n ≡ e (row_var v) → slice_get bs n ≡ None → row_at (bindings_of bs) v ≡ same_sub.row_of v
  row_past k g = no_row k (λ gs i f. apart gs i (sym g ∙ f))
    where
      apart : (gs : List (List ℕ × Ty)) (i : Option ℕ) → None ≡ Some (bound.Row v gs i) → ⊥
      apart gs i f = absurd (cc)

-- what the i-th binding binds
pub bound_at : (bs : List Bound) (i : ℕ) (b : Bound) → i < length bs → b ≡ get_or bs i b → type_bound_at (bindings_of bs) i ≡ type_bound (binding b)
bound_at [] i b lt e = absurd (omega (arith, lt))
bound_at (x ∷ xs) zero b lt e = ap (λ z. type_bound (binding z)) (sym e)
bound_at (x ∷ xs) (suc i) b lt e = bound_at xs i b (omega (arith, lt)) e
