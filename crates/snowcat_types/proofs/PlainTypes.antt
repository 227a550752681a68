-- Types without row variables and without operator types, of the variables below a number: those of a job's nodes before
-- anything is made equal.
use Rattle.std.proofs.Common.{◌≡◌, ℕ, zero, suc, ◌<◌, Bool, true, false, inl, inr, List, [], ◌∷◌, refl, sym, ◌∙◌, subst, arith, Some, None}
use Rattle.std.specs.Prelude.{bytes_eq, if◌then◌else◌}
use Rattle.snowcat_rows.specs.Types.{Term, Slot, var, con, app, fields, none, some, row, lookup, OperHead}
use Rattle.snowcat_rows.specs.Substitutions.{Sub, apply, apply_slot, or_else, same_sub, Fronts, Sorted, SortedSlot}
use Rattle.snowcat_rows.specs.Chains.{Variable, type_var, row_var, number, OccursSlot}
use Rattle.snowcat_rows.specs.Sorting.{Within}
use Rattle.snowcat_rows.proofs.RowTheory.{apply_same}
use Rattle.snowcat_rows.proofs.General.{apply_agree}
use Rattle.snowcat_rows.specs.Throughout.{Throughout, ThroughoutSlot}
use Rattle.snowcat_rows.specs.Operators.{IsNoOperator, HasNoOperator}
use Rattle.snowcat_rows.specs.Closing.{closing}
use Rattle.snowcat_types.specs.Rows.{Scope}
use Rattle.snowcat_types.specs.Annotated.{OperatorAtRootAlone, nth_of, part_of}
use Rattle.snowcat_types.specs.Answers.{IsGround}
use Rattle.snowcat_types.proofs.Holding.{AllTypes, AllNamed, KeepsForms}

abbrev pub Plain : ℕ → Term → Type 0
Plain n t = Throughout (λ v. v < n) IsNoOperator (λ k. k ≡ None) t

abbrev pub PlainSlot : ℕ → Slot → Type 0
PlainSlot n x = ThroughoutSlot (λ v. v < n) IsNoOperator (λ k. k ≡ None) x

row_plain : (n : ℕ) (ts : List Term) → AllTypes (Plain n) ts → Plain n (row ts)
row_plain n [] h = tt
row_plain n (t ∷ ts) h = (h.0, row_plain n ts h.1)

chosen_plain : (n : ℕ) (b : Bool) (t : Term) (x : Slot) → Plain n t → PlainSlot n x → PlainSlot n (if b then some t else x)
chosen_plain n true t x h k = h
chosen_plain n false t x h k = k

lookup_plain : (n : ℕ) (fs : Scope) → AllNamed (Plain n) fs → (x : List ℕ) → PlainSlot n (lookup fs x)
lookup_plain n [] h x = tt
lookup_plain n (f ∷ fs) h x = chosen_plain n (bytes_eq f.0 x) f.1 (lookup fs x) h.0 (lookup_plain n fs h.1 x)

pub keeps_plain : (n : ℕ) → KeepsForms (Plain n)
keeps_plain n = record {
  plain = record {
    truth = tt;
    number = tt;
    text = tt;
    named = λ x. tt;
    set = λ t h. (tt, h);
    seq = λ t h. (tt, h);
    fun = λ t u h k. (tt, (h, k));
    tuple = λ ts h. (tt, row_plain n ts h);
  };
  of_record = λ fs h. (lookup_plain n fs h, refl);
}

-- ---- what they are

mutual
  pub plain_within : (n : ℕ) (t : Term) → Plain n t → Within n t
  plain_within n (var w) h (type_var v) o = occurs v w o h
    where
      occurs : (v w : ℕ) → v ≡ w → w < n → v < n
      occurs v w e lt = omega (arith, e, lt)
  plain_within n (var w) h (row_var v) o = absurd o
  plain_within n (con c) h v o = absurd o
  plain_within n (app a b) h v (inl o) = plain_within n a h.0 v o
  plain_within n (app a b) h v (inr o) = plain_within n b h.1 v o
  plain_within n (fields f k) h v (inl o) = slot_within n (f o.0) (h.0 o.0) v o.1
  plain_within n (fields f k) h (type_var v) (inr o) = absurd o
  plain_within n (fields f k) h (row_var v) (inr o) = absurd (let e : None ≡ Some v = sym h.1 ∙ o in cc)

  slot_within : (n : ℕ) (x : Slot) → PlainSlot n x → (v : Variable) → OccursSlot v x → number v < n
  slot_within n none h v o = absurd o
  slot_within n (some t) h v o = plain_within n t h v o

mutual
  pub plain_sorted : (n : ℕ) (l : Fronts) (t : Term) → Plain n t → Sorted l t
  plain_sorted n l (var v) h = tt
  plain_sorted n l (con c) h = tt
  plain_sorted n l (app a b) h = (plain_sorted n l a h.0, plain_sorted n l b h.1)
  plain_sorted n l (fields f k) h = (λ x. slot_sorted n l (f x) (h.0 x), λ r e. absurd (let d : None ≡ Some r = sym h.1 ∙ e in cc))

  slot_sorted : (n : ℕ) (l : Fronts) (x : Slot) → PlainSlot n x → SortedSlot l x
  slot_sorted n l none h = tt
  slot_sorted n l (some t) h = plain_sorted n l t h

mutual
  pub plain_no_operator : (n : ℕ) (t : Term) → Plain n t → HasNoOperator t
  plain_no_operator n (var v) h = tt
  plain_no_operator n (con c) h = h
  plain_no_operator n (app a b) h = (plain_no_operator n a h.0, plain_no_operator n b h.1)
  plain_no_operator n (fields f k) h = (λ x. slot_no_operator n (f x) (h.0 x), tt)

  slot_no_operator : (n : ℕ) (x : Slot) → PlainSlot n x → ThroughoutSlot (λ v. Unit {0}) IsNoOperator (λ k. Unit {0}) x
  slot_no_operator n none h = tt
  slot_no_operator n (some t) h = plain_no_operator n t h

-- ---- closed types

mutual
  pub closed_plain : (n : ℕ) (t : Term) → Within 0 t → HasNoOperator t → Plain n t
  closed_plain n (var v) w h = absurd (none_below v (w (type_var v) refl))
    where
      none_below : (v : ℕ) → v < 0 → ⊥
      none_below v lt = omega (arith, lt)
  closed_plain n (con c) w h = h
  closed_plain n (app a b) w h = (closed_plain n a (λ v o. w v (inl o)) h.0, closed_plain n b (λ v o. w v (inr o)) h.1)
  closed_plain n (fields f None) w h = (λ x. closed_slot n (f x) (λ v o. w v (inl (x, o))) (h.0 x), refl)
  closed_plain n (fields f (Some r)) w h = absurd (none_below r (w (row_var r) (inr refl)))
    where
      none_below : (v : ℕ) → v < 0 → ⊥
      none_below v lt = omega (arith, lt)

  closed_slot : (n : ℕ) (x : Slot) → ((v : Variable) → OccursSlot v x → number v < 0) → ThroughoutSlot (λ v. Unit {0}) IsNoOperator (λ k. Unit {0}) x → PlainSlot n x
  closed_slot n none w h = tt
  closed_slot n (some t) w h = closed_plain n t w h

pub closed_same : (s : Sub) (t : Term) → Within 0 t → apply s t ≡ t
closed_same s t w = apply_agree 0 s same_sub t (record { types = λ v lt. absurd (omega (arith, lt)); rows = λ v lt. absurd (omega (arith, lt)) }) w ∙ apply_same t

-- ---- what a definition's annotation says of a part

some_is : (t u : Term) → Some t ≡ Some u → t ≡ u
some_is t u e = cc

abbrev Closed : Term → Type 0
Closed t = Within 0 t × HasNoOperator t

closed_is : (t u : Term) → Closed t → Some t ≡ Some u → Closed u
closed_is t u h e = let P : Term → Type 0 = λ z. Closed z in subst P (some_is t u e) h

nth_closed : (r : Term) (i : ℕ) (u : Term) → Closed r → nth_of r i ≡ Some u → Closed u
nth_closed (app t r) zero u h e = closed_is t u (λ v o. h.0 v (inl o), h.1.0) e
nth_closed (app t r) (suc i) u h e = nth_closed r i u (λ v o. h.0 v (inr o), h.1.1) e
nth_closed t i u h e = absurd (cc)

pub part_closed : (i : ℕ) (t u : Term) → Within 0 t → OperatorAtRootAlone t → part_of i t ≡ Some u → Within 0 u × HasNoOperator u
part_closed zero (app (con OperHead) (app r b)) u w h e = closed_is b u (λ v o. w v (inr (inr o)), h.1) e
part_closed (suc i) (app (con OperHead) (app r b)) u w h e = nth_closed r i u (λ v o. w v (inr (inl o)), h.0) e
part_closed zero t u w h e = closed_is t u (w, h) e
part_closed (suc i) t u w h e = absurd (cc)

-- ---- what is left open is closed at the end

ground_joined : (x : Slot) → ThroughoutSlot (λ v. ⊥) IsNoOperator (λ k. k ≡ None) x → ThroughoutSlot (λ v. ⊥) IsNoOperator (λ k. k ≡ None) (or_else x none)
ground_joined none h = tt
ground_joined (some t) h = h

mutual
  pub closing_ground : (t : Term) → HasNoOperator t → IsGround (apply closing t)
  closing_ground (var v) h = tt
  closing_ground (con c) h = h
  closing_ground (app a b) h = (closing_ground a h.0, closing_ground b h.1)
  closing_ground (fields f None) h = (λ x. ground_joined (apply_slot closing (f x)) (slot_ground (f x) (h.0 x)), refl)
  closing_ground (fields f (Some r)) h = (λ x. ground_joined (apply_slot closing (f x)) (slot_ground (f x) (h.0 x)), refl)

  slot_ground : (x : Slot) → ThroughoutSlot (λ v. Unit {0}) IsNoOperator (λ k. Unit {0}) x → ThroughoutSlot (λ v. ⊥) IsNoOperator (λ k. k ≡ None) (apply_slot closing x)
  slot_ground none h = tt
  slot_ground (some t) h = closing_ground t h

no_operator_joined : (x : Slot) → ThroughoutSlot (λ v. Unit {0}) IsNoOperator (λ k. Unit {0}) x → ThroughoutSlot (λ v. Unit {0}) IsNoOperator (λ k. Unit {0}) (or_else x none)
no_operator_joined none h = tt
no_operator_joined (some t) h = h

-- where the substitution gives no operator types
mutual
  pub applied_no_operator : (n : ℕ) (s : Sub) (t : Term) → ((v : ℕ) → v < n → HasNoOperator (s.type_of v)) → Plain n t → HasNoOperator (apply s t)
  applied_no_operator n s (var v) g h = g v h
  applied_no_operator n s (con c) g h = h
  applied_no_operator n s (app a b) g h = (applied_no_operator n s a g h.0, applied_no_operator n s b g h.1)
  applied_no_operator n s (fields f None) g h = (λ x. no_operator_joined (apply_slot s (f x)) (applied_slot n s (f x) g (h.0 x)), tt)
  applied_no_operator n s (fields f (Some r)) g h = absurd (let e : Some r ≡ None = h.1 in cc)

  applied_slot : (n : ℕ) (s : Sub) (x : Slot) → ((v : ℕ) → v < n → HasNoOperator (s.type_of v)) → PlainSlot n x →
      ThroughoutSlot (λ v. Unit {0}) IsNoOperator (λ k. Unit {0}) (apply_slot s x)
  applied_slot n s none g h = tt
  applied_slot n s (some t) g h = applied_no_operator n s t g h
