-- The items of sequences, by their places.
use Rattle.std.proofs.Common.{◌≡◌, ◌≢◌, ℕ, zero, suc, ◌+◌, ◌-◌, ◌^◌, ◌<◌, ◌≤◌, Bool, true, false, not, IsTrue, List, [], ◌∷◌, ◌++◌, map, length, take, drop, get_or, ℤ, pos, negsuc, refl, ap, ◌∙◌, sym, subst, arith, inl, inr, Some, None, if◌then◌else◌}
use Rattle.std.specs.Prelude.{option_map, ◌==◌}
use Rattle.std.proofs.lemmas.Bool.{lt-ltb}
use Rattle.std.proofs.lemmas.Bool.Decides.{eqb_tells}
use Rattle.std.proofs.Math.Dec.{eqb-suc-zero}
use Rattle.tla_values.specs.Integers.{fits_width}
use Rattle.tla_values.specs.Order.{same_value}
use Rattle.tla_values.specs.Sets.{apply, override_at}
use Rattle.tla_values.proofs.Extensional.{same_equal, same_itself}
use Rattle.tla_values.specs.Sequences.{numbered, sequence}
use Rattle.tla_values.specs.declared.value.Value.{Value}
use Rattle.tla_values.specs.declared.value.Value.TheVariants as value
use Rattle.tla_values.specs.declared.value.Value.TheVariants.{outs-Fun, outs-Int}
use Rattle.cell_arena.specs.Cells.{is_index}
use Rattle.cell_merge.specs.Arrows.{pairs_here, pairs_of}
use Rattle.cell_merge.specs.Partial.{Tells}
use Rattle.cell_merge.proofs.FunctionValues.{results-numbered}
use Rattle.cell_merge.proofs.Names.{below}
use Rattle.word_blaster.specs.Word.{magnitude}
use Rattle.sequence_rewriter.specs.Sequences.{int_here, int_of, items, tail_of, where_fits}
use Rattle.sequence_rewriter.specs.inner.Lengths.{replaced}

-- ---- what a sequence holds

pub pairs-sequence : (xs : List Value) → pairs_of (sequence xs) ≡ numbered 1 xs
unfolding pairs_of
pairs-sequence xs = ap pairs_here (outs-Fun (numbered 1 xs))

pub items-sequence : (xs : List Value) → items (sequence xs) ≡ xs
items-sequence xs = ap (map (λ (p : Value × Value). p.1)) (pairs-sequence xs) ∙ results-numbered 1 xs

-- ---- numbers

-- an index is a number
pub index-number : (m : ℕ) (z : ℤ) → IsTrue (is_index m z) → (n : ℕ) × (z ≡ pos n) × (n < m)
index-number m (pos n) h = (n, refl, below n m h)
index-number m (negsuc n) h = absurd (let e : false ≡ true = h in cc)

pub fits-small : (n : ℕ) → n < 2 ^ 31 → fits_width 32 (pos n) ≡ true
fits-small n lt = lt-ltb n (2 ^ 31) lt

-- ---- an item more, and the first one less

no-end : (n : ℕ) → suc n ≡ 0 → ⊥
no-end n e = omega arith

-- the place behind the n-th is the one that is replaced
pub push-items : (n k : ℕ) (v : Value) (ws : List Value) (test : ℕ → Bool) → ((p : ℕ) → test p ≡ (n + k == p)) → n ≤ length ws → take (suc n) (replaced test k v ws ++ v ∷ []) ≡ take n ws ++ v ∷ []
push-items zero k v [] test h le = refl
push-items (suc n) k v [] test h le = absurd (omega arith)
push-items zero k v (w ∷ ws) test h le = ap (λ b. (if b then v else w) ∷ []) (h k ∙ same k)
  where
    same : (k : ℕ) → (0 + k == k) ≡ true
    same k = elim (eqb_tells (0 + k) k) [ inl e ↦ e.0 | inr e ↦ absurd (e.1 (omega arith)) ]
push-items (suc n) k v (w ∷ ws) test h le =
    ap (λ b. (if b then v else w) ∷ take (suc n) (replaced test (k + 1) v ws ++ v ∷ [])) (h k ∙ other)
    ∙ ap (λ (us : List Value). w ∷ us) (push-items n (k + 1) v ws test (λ p. h p ∙ ap (λ (m : ℕ). m == p) (omega arith)) (omega arith))
  where
    other : (suc n + k == k) ≡ false
    other = elim (eqb_tells (suc n + k) k) [ inl e ↦ absurd (let q = e.1 in omega arith) | inr e ↦ e.0 ]

-- one value more
pub replaced-push : (test : ℕ → Bool) (k : ℕ) (v : Value) (ws : List Value) (w : Value) → replaced test k v (ws ++ w ∷ []) ≡ replaced test k v ws ++ (if test (k + length ws) then v else w) ∷ []
replaced-push test k v [] w = ap (λ (n : ℕ). (if test n then v else w) ∷ []) (omega arith)
replaced-push test k v (u ∷ ws) w =
    ap (λ (us : List Value). (if test k then v else u) ∷ us) (replaced-push test (k + 1) v ws w ∙ ap (λ (n : ℕ). replaced test (k + 1) v ws ++ (if test n then v else w) ∷ []) (omega arith))

pub replaced-length : (test : ℕ → Bool) (k : ℕ) (v : Value) (ws : List Value) → length (replaced test k v ws) ≡ length ws
replaced-length test k v [] = refl
replaced-length test k v (w ∷ ws) = let h = replaced-length test (k + 1) v ws in omega arith

pub rest-tells : (n : ℕ) (ws : List Value) (empty : Bool) (v : Value) → n ≤ length ws → empty ≡ (n == 0) → v ≡ sequence (take (n - 1) (drop 1 ws)) → Tells empty v (option_map sequence (tail_of (take n ws)))
rest-tells zero ws empty v le e is = e
rest-tells (suc n) [] empty v le e is = absurd (omega arith)
rest-tells (suc n) (w ∷ ws) empty v le e is = (e ∙ eqb-suc-zero n, is ∙ ap (λ (m : ℕ). sequence (take m ws)) (omega arith))

pub length-tells : (out : Bool) (v : Value) (width n : ℕ) (w : Value) → out ≡ not (fits_width width (pos n)) → (out ≡ false → v ≡ w) → Tells out v (where_fits width n w)
length-tells out v width n w e h = go (fits_width width (pos n)) refl
  where
    go : (b : Bool) → fits_width width (pos n) ≡ b → Tells out v (if b then Some w else None)
    go true f = let off : out ≡ false = e ∙ ap not f in (off, h off)
    go false f = e ∙ ap not f

-- ---- the item with a number

pub same-numbers : (m n : ℕ) → same_value (value.Int (pos m)) (value.Int (pos n)) ≡ (m == n)
same-numbers m n = elim (eqb_tells m n) [
  | inl e ↦ subst (λ (k : ℕ). same_value (value.Int (pos m)) (value.Int (pos k)) ≡ true) e.1 (same_itself (value.Int (pos m))) ∙ sym e.0
  | inr e ↦ go (same_value (value.Int (pos m)) (value.Int (pos n))) refl e.1 ∙ sym e.0
]
  where
    go : (b : Bool) → same_value (value.Int (pos m)) (value.Int (pos n)) ≡ b → m ≢ n → b ≡ false
    go false e h = refl
    go true e h =
        let q : pos m ≡ pos n = sym (ap int_here (outs-Int (pos m))) ∙ ap int_of (same_equal (value.Int (pos m)) (value.Int (pos n)) e) ∙ ap int_here (outs-Int (pos n)) in
        absurd (h (ap magnitude q))

-- the sequence gives at a number what stands there
pub apply-at : (k j : ℕ) (ws : List Value) (d : Value) → j < length ws → apply (numbered k ws) (value.Int (pos (j + k))) ≡ Some (get_or ws j d)
apply-at k j [] d lt = absurd (omega arith)
apply-at k zero (w ∷ ws) d lt = ap (λ b. if b then Some w else apply (numbered (k + 1) ws) (value.Int (pos (0 + k)))) (same-numbers (0 + k) k ∙ same k)
  where
    same : (k : ℕ) → (0 + k == k) ≡ true
    same k = elim (eqb_tells (0 + k) k) [ inl e ↦ e.0 | inr e ↦ absurd (e.1 (omega arith)) ]
apply-at k (suc j) (w ∷ ws) d lt =
    ap (λ b. if b then Some w else apply (numbered (k + 1) ws) (value.Int (pos (suc j + k)))) (same-numbers (suc j + k) k ∙ other)
    ∙ (let e : suc j + k ≡ j + (k + 1) = omega arith in ap (λ (m : ℕ). apply (numbered (k + 1) ws) (value.Int (pos m))) e) ∙ apply-at (k + 1) j ws d (omega arith)
  where
    other : (suc j + k == k) ≡ false
    other = elim (eqb_tells (suc j + k) k) [ inl e ↦ absurd (let q = e.1 in omega arith) | inr e ↦ e.0 ]

-- and nothing at what is none of its numbers
pub apply-none : (k : ℕ) (ws : List Value) (x : Value) → ((p : ℕ) → k ≤ p → p < k + length ws → same_value x (value.Int (pos p)) ≡ false) → apply (numbered k ws) x ≡ None
apply-none k [] x h = refl
apply-none k (w ∷ ws) x h =
    ap (λ b. if b then Some w else apply (numbered (k + 1) ws) x) (h k (omega arith) (omega arith)) ∙ apply-none (k + 1) ws x (λ p l r. h p (omega arith) (omega arith))

-- another item at a number
pub override-numbered : (k n : ℕ) (ws : List Value) (x v : Value) (test : ℕ → Bool) → ((p : ℕ) → k ≤ p → p < k + length ws → test p ≡ same_value x (value.Int (pos p)))
    → override_at (numbered k (take n ws)) x v ≡ numbered k (take n (replaced test k v ws))
override-numbered k zero ws x v test h = refl
override-numbered k (suc n) [] x v test h = refl
override-numbered k (suc n) (w ∷ ws) x v test h =
    ap (λ (ps : List (Value × Value)). (if same_value x (value.Int (pos k)) then (value.Int (pos k), v) else (value.Int (pos k), w)) ∷ ps) (override-numbered (k + 1) n ws x v test (λ p l r. h p (omega arith) (omega arith)))
    ∙ ap (λ (p : Value × Value). p ∷ numbered (k + 1) (take n (replaced test (k + 1) v ws))) (either (same_value x (value.Int (pos k))) (test k) (sym (h k (omega arith) (omega arith))))
  where
    either : (b c : Bool) → b ≡ c → ◌≡◌ {A = Value × Value} (if b then (value.Int (pos k), v) else (value.Int (pos k), w)) (value.Int (pos k), if c then v else w)
    either true true e = refl
    either false false e = refl
    either true false e = absurd (cc)
    either false true e = absurd (cc)
