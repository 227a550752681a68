-- The first unknown alias in bytes, found byte by byte.
use Rattle.std.proofs.Common.{◌≡◌, ℕ, zero, suc, ◌+◌, ◌<◌, true, false, List, [], ◌∷◌, length, drop, refl, ap, ◌∙◌, sym, Some, arith}
use Rattle.snowcat_rows.specs.Readings.{Known, begins_unknown, first_word, unknown_within}

found : (k : Known) (bs : List ℕ) (i : ℕ) → i < length bs → begins_unknown k (drop i bs) ≡ true → unknown_within k (drop i bs) ≡ Some (first_word (drop (suc i) bs))
found k [] i lt e = absurd (omega (arith, lt))
found k (b ∷ bs) zero lt e = rw e refl
found k (b ∷ bs) (suc i) lt e = found k bs i (omega (arith, lt)) e

passed : (k : Known) (bs : List ℕ) (i : ℕ) → i < length bs → begins_unknown k (drop i bs) ≡ false → unknown_within k (drop i bs) ≡ unknown_within k (drop (suc i) bs)
passed k [] i lt e = absurd (omega (arith, lt))
passed k (b ∷ bs) zero lt e = rw e refl
passed k (b ∷ bs) (suc i) lt e = passed k bs i (omega (arith, lt)) e

module _ (k : Known) (bs rest : List ℕ) (i : ℕ) (lt : i < length bs) (is : rest ≡ drop i bs) (so_far : unknown_within k bs ≡ unknown_within k (drop i bs)) where
  one_more : suc i ≡ i + 1
  one_more = omega arith

  pub found_at : (x : List ℕ) → begins_unknown k rest ≡ true → x ≡ first_word (drop (i + 1) bs) → Some x ≡ unknown_within k bs
  found_at x e h = ap Some h ∙ ap (λ n. Some (first_word (drop n bs))) (sym one_more) ∙ sym (found k bs i lt (ap (begins_unknown k) (sym is) ∙ e)) ∙ sym so_far

  pub passed_at : begins_unknown k rest ≡ false → unknown_within k bs ≡ unknown_within k (drop (i + 1) bs)
  passed_at e = so_far ∙ passed k bs i lt (ap (begins_unknown k) (sym is) ∙ e) ∙ ap (λ n. unknown_within k (drop n bs)) one_more
