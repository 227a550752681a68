-- Part by part and by the variables that stand in a type.
use Rattle.std.proofs.Common.{Bool, true, false, ◌≡◌, ℕ, ◌<◌, inl, inr, refl, sym, subst, Option, Some, None}
use Rattle.std.specs.Bool.{MatchBool}
use Rattle.snowcat_rows.specs.Types.{Term, Slot, var, con, app, fields, none, some}
use Rattle.snowcat_rows.specs.Chains.{Variable, type_var, row_var, number, OccursSlot, Ends}
use Rattle.snowcat_rows.specs.Sorting.{Within}
use Rattle.snowcat_rows.specs.inner.Below.{Below, BelowSlot, EndBelow}

same : (i j : ℕ) → Some i ≡ Some j → i ≡ j
same i j e = cc

end_within : (n : ℕ) (k : Option ℕ) → EndBelow n k → (v : Variable) → Ends v k → number v < n
end_within n k b (type_var x) o = absurd o
end_within n None b (row_var x) o = absurd (cc)
end_within n (Some r) b (row_var x) o = let P : ℕ → Type 0 = λ z. z < n in subst P (same r x o) b

mutual
  pub below_within : (n : ℕ) (u : Term) → Below n u → Within n u
  below_within n (var w) b (type_var x) o = let P : ℕ → Type 0 = λ z. z < n in subst P (sym o) b
  below_within n (var w) b (row_var x) o = absurd o
  below_within n (con h) b v o = absurd o
  below_within n (app x y) b v (inl o) = below_within n x b.0 v o
  below_within n (app x y) b v (inr o) = below_within n y b.1 v o
  below_within n (fields f k) b v (inl (name, o)) = slot_within n (f name) (b.0 name) v o
  below_within n (fields f k) b v (inr o) = end_within n k b.1 v o

  slot_within : (n : ℕ) (x : Slot) → BelowSlot n x → (v : Variable) → OccursSlot v x → number v < n
  slot_within n none b v o = absurd o
  slot_within n (some t) b v o = below_within n t b v o

end_below : (n : ℕ) (k : Option ℕ) → ((r : ℕ) → k ≡ Some r → r < n) → EndBelow n k
end_below n None h = tt
end_below n (Some r) h = h r refl

mutual
  pub within_below : (n : ℕ) (u : Term) → Within n u → Below n u
  within_below n (var w) h = h (type_var w) refl
  within_below n (con x) h = tt
  within_below n (app x y) h = (within_below n x (λ v o. h v (inl o)), within_below n y (λ v o. h v (inr o)))
  within_below n (fields f k) h = (λ name. within_slot n (f name) (λ v o. h v (inl (name, o))), end_below n k (λ r e. h (row_var r) (inr e)))

  within_slot : (n : ℕ) (x : Slot) → ((v : Variable) → OccursSlot v x → number v < n) → BelowSlot n x
  within_slot n none h = tt
  within_slot n (some t) h = within_below n t h

pub by_parts : (n : ℕ) (u : Term) (b : Bool) → MatchBool b (Below n u) (Below n u → ⊥) → MatchBool b (Within n u) (Within n u → ⊥)
by_parts n u true h = below_within n u h
by_parts n u false h = λ w. h (within_below n u w)
