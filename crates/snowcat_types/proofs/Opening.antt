-- A field_at of a record that is not known: a new row variable stands for the other fields.
use Rattle.std.proofs.Common.{◌≡◌, ℕ, ◌+◌, ◌<◌, ◌≤◌, Bool, true, false, ◌==◌, if◌then◌else◌, inl, inr, List, [], ◌∷◌, ◌++◌, refl, ap, sym, ◌∙◌, arith, Option, Some}
use Rattle.std.specs.Prelude.{bytes_eq}
use Rattle.std.proofs.lemmas.Bool.{cases_Bool}
use Rattle.std.proofs.lemmas.Bool.Decides.{eqb_tells}
use Rattle.std.proofs.lemmas.Slice.Eq.{bytes_eq-Decides}
use Rattle.snowcat_rows.specs.Types.{Term, Slot, var, fields, none, some}
use Rattle.snowcat_rows.specs.Substitutions.{Row, Sub, apply, apply_slot, apply_row, or_else, same_sub, Fits, Fronts, Extends, Agree, Apart, Lifted, Unified}
use Rattle.snowcat_rows.specs.Chains.{Variable, row_var, number, Occurs, OccursRow}
use Rattle.snowcat_rows.specs.Sorting.{Within}
use Rattle.snowcat_rows.proofs.RowTheory.{renewed, renewed_at, renewed_off, renewed_same}
use Rattle.snowcat_rows.proofs.General.{apply_agree, row_agree, renewed_agree}
use Rattle.snowcat_types.specs.Requirements.{Requirement, FieldOf, field_at, MeetAll}
use Rattle.snowcat_types.proofs.Choices.{meet_left, meet_right, meet_append}
use Rattle.snowcat_types.proofs.Joining.{carried, meets_agree, extends_less, agree_more}
use Rattle.snowcat_types.specs.inner.Solved.{AllInside, Solved}

-- that field_at, and no other
abbrev pub only_at : List ℕ → Term → List ℕ → Slot
only_at y b x = if bytes_eq y x then some b else none

-- the others
abbrev pub without : List ℕ → (List ℕ → Slot) → Option ℕ → Row
without y h q = record { at = λ x. if bytes_eq y x then none else h x; tail = q }

-- the new variable stands after the name
abbrev pub with_front : Fronts → ℕ → List ℕ → Fronts
with_front k m y v x = if v == m then bytes_eq y x else k v x

own_field : (y : List ℕ) (b : Term) → only_at y b y ≡ some b
own_field y b = let e : bytes_eq y y ≡ true = (bytes_eq-Decides y y).1 refl in rw e refl

record_of : (t : Term) (y : List ℕ) (c : Term) → field_at t y ≡ some c → (h : List ℕ → Slot) × (q : Option ℕ) × (t ≡ fields h q) × (h y ≡ some c)
record_of (fields h q) y c e = (h, q, refl, e)
record_of t y c e = absurd (cc)

-- what stands at a variable, and elsewhere as before
abbrev patched : Sub → ℕ → Term → Row → Sub
patched s m t r = record { type_of = λ v. if v == m then t else s.type_of v; row_of = λ v. if v == m then r else s.row_of v }

patched_type : (s : Sub) (m v : ℕ) (t : Term) (r : Row) → (v ≡ m → ⊥) → (patched s m t r).type_of v ≡ s.type_of v
patched_type s m v t r n = elim (eqb_tells v m) [ inl h ↦ absurd (n h.1) | inr h ↦ rw h.0 refl ]

patched_row : (s : Sub) (m v : ℕ) (t : Term) (r : Row) → (v ≡ m → ⊥) → (patched s m t r).row_of v ≡ s.row_of v
patched_row s m v t r n = elim (eqb_tells v m) [ inl h ↦ absurd (n h.1) | inr h ↦ rw h.0 refl ]

patched_type_at : (s : Sub) (m : ℕ) (t : Term) (r : Row) → (patched s m t r).type_of m ≡ t
patched_type_at s m t r = elim (eqb_tells m m) [ inl h ↦ rw h.0 refl | inr h ↦ absurd (h.1 refl) ]

patched_row_at : (s : Sub) (m : ℕ) (t : Term) (r : Row) → (patched s m t r).row_of m ≡ r
patched_row_at s m t r = elim (eqb_tells m m) [ inl h ↦ rw h.0 refl | inr h ↦ absurd (h.1 refl) ]

module _ (n m : ℕ) (l k : Fronts) (rs : List Requirement) (s : Sub) (f b : Term) (y : List ℕ)
    (wf : Within n f) (wb : Within n b)
    -- the substitution says nothing of the new variable
    (own_type : s.type_of m ≡ var m) (own_row : s.row_of m ≡ same_sub.row_of m)
    (types_below : (v : ℕ) → v < m → Within m (s.type_of v)) (rows_below : (v : ℕ) → v < m → (x : Variable) → OccursRow x (s.row_of v) → number x < m)
    (g : Solved n m l k rs s) where
  not_m : (v : ℕ) → v < m → v ≡ m → ⊥
  not_m v lt e = omega (arith, lt, e)

  below_m : (v : ℕ) → v < n → v < m
  below_m v lt = let le = g.more in omega (arith, lt, le)

  free_of : (u : Term) → Within n u → Occurs (row_var m) u → ⊥
  free_of u w o = let lt : m < n = w (row_var m) o in let le = g.more in omega (arith, lt, le)

  module _ (u : Sub) (fu : Fits n l u) (su : MeetAll u (rs ++ FieldOf f y b ∷ [])) where
    first : Lifted n m k u s
    first = g.general u fu (meet_left u rs (FieldOf f y b ∷ []) su)

    shape : (z : List ℕ → Slot) × (q : Option ℕ) × (apply first.to f ≡ fields z q) × (z y ≡ some (apply first.to b))
    shape = record_of (apply first.to f) y (apply first.to b) (meets_agree n u first.to (FieldOf f y b) first.agree (wf, wb) (meet_right u rs (FieldOf f y b ∷ []) su).0)

    rest_row : Row
    rest_row = without y shape.0 shape.1

    to : Sub
    to = renewed first.to m rest_row

    joined : (x : List ℕ) → or_else (apply_slot to (only_at y b x)) (rest_row.at x) ≡ shape.0 x
    unfolding rest_row to
    joined x =
        elim (cases_Bool (bytes_eq y x)) [
          | inl e ↦ rw e (ap some (renewed_same first.to m (without y shape.0 shape.1) b (free_of b wb)) ∙ sym shape.3 ∙ ap shape.0 ((bytes_eq-Decides y x).0 e))
          | inr e ↦ rw e refl
        ]

    equal : apply to f ≡ apply to (fields (only_at y b) (Some m))
    unfolding rest_row to
    equal =
        renewed_same first.to m (without y shape.0 shape.1) f (free_of f wf) ∙ shape.2
        ∙ sym ((λ i. fields (λ x. or_else (apply_slot to (only_at y b x)) ((renewed_at first.to m (without y shape.0 shape.1) i).at x)) (renewed_at first.to m (without y shape.0 shape.1) i).tail)
        ∙ (λ i. fields (λ x. joined x i) shape.1))

    fits : Fits (m + 1) (with_front k m y) to
    unfolding rest_row to
    fits v lt x e =
        elim (eqb_tells v m) [
          | inl i ↦ ap (λ (w : Row). w.at x) (ap to.row_of i.1 ∙ renewed_at first.to m (without y shape.0 shape.1)) ∙ (let c : bytes_eq y x ≡ true = sym (chosen (v == m) i.0) ∙ e in rw c refl)
          | inr i ↦ ap (λ (w : Row). w.at x) (renewed_off first.to m v (without y shape.0 shape.1) i.1) ∙ first.fits v (smaller i.1) x (sym (other (v == m) i.0) ∙ e)
        ]
      where
        chosen : (c : Bool) → c ≡ true → (if c then bytes_eq y x else k v x) ≡ bytes_eq y x
        chosen true q = refl
        chosen false q = absurd (cc)

        other : (c : Bool) → c ≡ false → (if c then bytes_eq y x else k v x) ≡ k v x
        other true q = absurd (cc)
        other false q = refl

        smaller : (v ≡ m → ⊥) → v < m
        smaller q = omega (arith, lt, q)

    rest : Sub
    rest = patched first.extends.rest m (first.to.type_of m) rest_row

    rest_agree : Agree m first.extends.rest rest
    unfolding rest
    rest_agree = record {
      types = λ v lt. sym (patched_type first.extends.rest m v (first.to.type_of m) rest_row (not_m v lt));
      rows = λ v lt. sym (patched_row first.extends.rest m v (first.to.type_of m) rest_row (not_m v lt));
    }

    extends : Extends (m + 1) s to
    unfolding rest to
    extends = record {
      rest = rest;
      types = λ v lt. elim (eqb_tells v m) [
        | inl i ↦ ap first.to.type_of i.1 ∙ sym (patched_type_at first.extends.rest m (first.to.type_of m) rest_row) ∙ ap (apply rest) (sym own_type) ∙ ap (λ w. apply rest (s.type_of w)) (sym i.1)
        | inr i ↦ first.extends.types v (smaller v lt i.1) ∙ apply_agree m first.extends.rest rest (s.type_of v) rest_agree (types_below v (smaller v lt i.1))
      ];
      rows = λ v lt. elim (eqb_tells v m) [
        | inl i ↦ ap to.row_of i.1 ∙ renewed_at first.to m rest_row ∙ sym (patched_row_at first.extends.rest m (first.to.type_of m) rest_row) ∙ ap (apply_row rest) (sym own_row) ∙ ap (λ w. apply_row rest (s.row_of w)) (sym i.1)
        | inr i ↦ renewed_off first.to m v rest_row i.1 ∙ first.extends.rows v (smaller v lt i.1) ∙ row_agree m first.extends.rest rest (s.row_of v) rest_agree (rows_below v (smaller v lt i.1))
      ];
    }
      where
        smaller : (v : ℕ) → v < m + 1 → (v ≡ m → ⊥) → v < m
        smaller v lt q = omega (arith, lt, q)

    agree_to : Agree n u to
    unfolding to
    agree_to = agree_more n m u first.to to g.more first.agree (renewed_agree m first.to rest_row)

  -- where nothing makes the two equal, nothing has the field
  pub not_opened : Apart (m + 1) (with_front k m y) s f (fields (only_at y b) (Some m)) → (u : Sub) → Fits n l u → MeetAll u (rs ++ FieldOf f y b ∷ []) → ⊥
  not_opened apart u fu su = apart (to u fu su) (fits u fu su) (extends u fu su) (equal u fu su)

  module _ (p : ℕ) (j : Fronts) (t : Sub) (mp : m + 1 ≤ p) (inside : AllInside n rs) (h : Unified (m + 1) p (with_front k m y) j s f (fields (only_at y b) (Some m)) t) where
    met : field_at (apply t f) y ≡ some (apply t b)
    met = ap (λ z. field_at z y) h.equal ∙ ap (λ z. or_else (apply_slot t z) ((t.row_of m).at y)) (own_field y b)

    all_lifted : (u : Sub) (fu : Fits n l u) (su : MeetAll u (rs ++ FieldOf f y b ∷ [])) → Lifted n p j u t
    all_lifted u fu su =
        let second = h.general (to u fu su) (fits u fu su) (extends u fu su) (equal u fu su) in
        record {
          to = second.to;
          agree = agree_more n (m + 1) u (to u fu su) second.to (let le = g.more in omega (arith, le)) (agree_to u fu su) second.agree;
          fits = second.fits;
          extends = second.extends;
        }

    pub field_opened : Solved n p l j (rs ++ FieldOf f y b ∷ []) t
    field_opened = record {
      more = let le = g.more in omega (arith, le, mp);
      solves = meet_append t rs (FieldOf f y b ∷ []) (carried n s t rs (extends_less n (m + 1) s t (let le = g.more in omega (arith, le)) h.extends) inside g.solves) (met, tt);
      general = all_lifted;
    }
