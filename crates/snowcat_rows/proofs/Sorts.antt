-- Names before row variables, and the step that makes two records alike.
use Rattle.std.proofs.Common.{◌≡◌, ℕ, Bool, true, false, ◌==◌, ◌||◌, if◌then◌else◌, inl, inr, List, [], ◌∷◌, refl, ap, sym, ◌∙◌, subst, Some, None}
use Rattle.std.proofs.lemmas.Bool.Decides.{eqb_tells}
use Rattle.snowcat_rows.specs.Types.{Term, Slot, var, con, app, fields, none, some}
use Rattle.snowcat_rows.specs.Substitutions.{Sub, apply, apply_slot, or_else, Sorted, SortedSlot, Present, Fronts}
use Rattle.snowcat_rows.specs.Sorting.{Follows, RowSorted, BindingSorted, AllSorted}
use Rattle.snowcat_rows.specs.Chains.{row_var, Binding, to_type, to_row, single, solved, OccursSlot, Keeps}
use Rattle.snowcat_rows.proofs.RowTheory.{renewed, rest_row, renewed_slot, renewed_at, renewed_off, row_left, row_right}
use Rattle.snowcat_rows.specs.inner.Rounds.{only, others, Is}

present_or : (b : Binding) (f x : Slot) (p q : Bool) → Present f p → Follows x p q → Present (or_else (apply_slot (single b) f) x) q
present_or b none none p q h e = λ k. h (sym e ∙ k)
present_or b none (some t) p q h e = e.1
present_or b (some u) none p q h e = e ∙ h
present_or b (some u) (some t) p q h e = absurd (e.0 h)

present_same : (b : Binding) (f : Slot) (p : Bool) → Present f p → Present (or_else (apply_slot (single b) f) none) p
present_same b none p h = h
present_same b (some t) p h = h

some_same : (q r : ℕ) → Some q ≡ Some r → q ≡ r
some_same q r e = cc

sorted_or : (l : Fronts) (x y : Slot) → SortedSlot l x → SortedSlot l y → SortedSlot l (or_else x y)
sorted_or l none y h k = k
sorted_or l (some t) y h k = h

-- the row that a binding gives to a variable
pub single_row : (l : Fronts) (b : Binding) (r : ℕ) → BindingSorted l b → RowSorted l r ((single b).row_of r)
single_row l (to_type v t) r h = record { slots = λ n. tt; follows = λ q e n. ap (λ x. l x n) (some_same q r (sym e)) }
single_row l (to_row v w) r h =
    elim (eqb_tells r v) [
      | inl k ↦ rw k.0 (let P : ℕ → Type 0 = λ x. RowSorted l x w in subst P (sym k.1) h)
      | inr k ↦ rw k.0 record { slots = λ n. tt; follows = λ q e n. ap (λ x. l x n) (some_same q r (sym e)) }
    ]

mutual
  pub Sorted-single : (l : Fronts) (b : Binding) (u : Term) → BindingSorted l b → Sorted l u → Sorted l (apply (single b) u)
  Sorted-single l (to_type w t) (var v) h k = elim (eqb_tells v w) [ inl e ↦ rw e.0 h | inr e ↦ rw e.0 tt ]
  Sorted-single l (to_row w t) (var v) h k = tt
  Sorted-single l b (con c) h k = tt
  Sorted-single l b (app x y) h k = (Sorted-single l b x h k.0, Sorted-single l b y h k.1)
  Sorted-single l b (fields f None) h k =
      (λ n. sorted_or l (apply_slot (single b) (f n)) none (SortedSlot-single l b (f n) h (k.0 n)) tt, λ r e. absurd (cc))
  Sorted-single l b (fields f (Some r)) h k =
      let w : RowSorted l r ((single b).row_of r) = single_row l b r h in (
        λ n. sorted_or l (apply_slot (single b) (f n)) (((single b).row_of r).at n) (SortedSlot-single l b (f n) h (k.0 n)) (w.slots n),
        λ q e n. present_or b (f n) (((single b).row_of r).at n) (l r n) (l q n) (k.1 r refl n) (w.follows q e n),
      )

  pub SortedSlot-single : (l : Fronts) (b : Binding) (x : Slot) → BindingSorted l b → SortedSlot l x → SortedSlot l (apply_slot (single b) x)
  SortedSlot-single l b none h k = tt
  SortedSlot-single l b (some t) h k = Sorted-single l b t h k

pub Sorted-solved : (l : Fronts) (bs : List Binding) (u : Term) → AllSorted l bs → Sorted l u → Sorted l (solved bs u)
Sorted-solved l [] u h k = k
Sorted-solved l (b ∷ bs) u h k = Sorted-solved l bs (apply (single b) u) h.1 (Sorted-single l b u h.0 k)

-- ---- the step

abbrev pub is_some : Slot → Bool
is_some none = false
is_some (some t) = true

-- the new variable stands after the names of both records
abbrev pub more_fronts : Fronts → ℕ → ℕ → (List ℕ → Slot) → Fronts
more_fronts l m r g v n = if v == m then (l r n || is_some (g n)) else l v n

module _ (l : Fronts) (s : Sub) (f g : List ℕ → Slot) (r q m : ℕ) (e : apply s (fields f (Some r)) ≡ apply s (fields g (Some q)))
    (lf : (n : List ℕ) → Is (f n) → (s.row_of r).at n ≡ none) (lg : (n : List ℕ) → Is (g n) → (s.row_of q).at n ≡ none)
    (nr : r ≡ m → ⊥) (nq : q ≡ m → ⊥) (of : (n : List ℕ) → OccursSlot (row_var m) (f n) → ⊥) (og : (n : List ℕ) → OccursSlot (row_var m) (g n) → ⊥) where
  only_free : (x y : Slot) → (OccursSlot (row_var m) x → ⊥) → OccursSlot (row_var m) (only x y) → ⊥
  only_free x none n o = n o
  only_free x (some t) n o = o

  pub keeps_left : Keeps (renewed s m (rest_row s f g r)) (to_row r (others f g m))
  keeps_left =
      renewed_off s m r (rest_row s f g r) nr
      ∙ row_left s f g r q e lf lg
      ∙ sym (λ i. record {
        at = λ n. or_else (renewed_slot s m (rest_row s f g r) (only (g n) (f n)) (only_free (g n) (f n) (og n)) i) ((renewed_at s m (rest_row s f g r) i).at n);
        tail = (renewed_at s m (rest_row s f g r) i).tail;
      })

  pub keeps_right : Keeps (renewed s m (rest_row s f g r)) (to_row q (others g f m))
  keeps_right =
      renewed_off s m q (rest_row s f g r) nq
      ∙ row_right s f g r q e lf lg
      ∙ sym (λ i. record {
        at = λ n. or_else (renewed_slot s m (rest_row s f g r) (only (f n) (g n)) (only_free (f n) (g n) (of n)) i) ((renewed_at s m (rest_row s f g r) i).at n);
        tail = (renewed_at s m (rest_row s f g r) i).tail;
      })
