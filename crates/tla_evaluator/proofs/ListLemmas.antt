-- Steps of the loops that build lists of lists.
use Rattle.std.proofs.Common.{◌≡◌, ℕ, suc, ◌+◌, ◌-◌, ◌<◌, ◌≤◌, List, [], ◌∷◌, ◌++◌, map, drop, length, get_or, refl, ap, ◌∙◌, sym, arith, append_assoc, drop-cons, add-one, true, zero, take, ℤ, pos, cond, nat_le}
use Rattle.tla_evaluator.proofs.Words.{Place, Val, Value, Wrong, drop-map, each_to, length-map, part_of, results, sequence, sublists, take-map, with_each}
use Rattle.std.proofs.lemmas.Bool.{le-leb}

-- the list from a place on
at_place : (xs : List Value) (i : ℕ) (x : Value) → 0 < i → i ≤ length xs → x ≡ get_or xs (i - 1) x → drop (i - 1) xs ≡ x ∷ drop i xs
at_place xs i x low le is =
    let lt : i - 1 < length xs = omega arith in
    let s : suc (i - 1) ≡ i = omega arith in
    drop-cons xs (i - 1) x lt ∙ ap (λ y. y ∷ drop (suc (i - 1)) xs) (sym is) ∙ ap (λ n. x ∷ drop n xs) s

pub sublists_more : (xs : List Value) (i : ℕ) (x : Value) (ls new : List (List Value)) → 0 < i → i ≤ length xs → x ≡ get_or xs (i - 1) x →
    ls ≡ sublists (drop i xs) → new ≡ ls ++ map (λ ys. x ∷ ys) ls → new ≡ sublists (drop (i - 1) xs)
sublists_more xs i x ls new low le is e f =
    f ∙ ap (λ l. l ++ map (λ ys. x ∷ ys) l) e ∙ ap sublists (sym (at_place xs i x low le is))

-- only the number of arguments counts
pub each_to_more : (xs ts : List Value) (i : ℕ) (ls ls' new : List (List Value)) → i < length xs →
    ls ≡ each_to (take i xs) ts → ls' ≡ ls → new ≡ with_each ts ls' → new ≡ each_to (take (i + 1) xs) ts
each_to_more xs ts i ls ls' new lt e s f =
    f ∙ ap (with_each ts) (s ∙ e) ∙ sym (ap (λ n. each_to (take n xs) ts) (add-one i) ∙ longer xs i lt)
  where
    longer : (xs : List Value) (i : ℕ) → i < length xs → each_to (take (suc i) xs) ts ≡ with_each ts (each_to (take i xs) ts)
    longer [] i lt = absurd (omega arith)
    longer (x ∷ xs) zero lt = refl
    longer (x ∷ xs) (suc i) lt = ap (with_each ts) (longer xs i (omega arith))

pub with_each_more : (xs : List Value) (yss all new whole : List (List Value)) (i : ℕ) (x : Value) → i < length xs → x ≡ get_or xs i x →
    all ++ with_each (drop i xs) yss ≡ whole → new ≡ all ++ map (λ ys. x ∷ ys) yss → new ++ with_each (drop (i + 1) xs) yss ≡ whole
with_each_more xs yss all new whole i x lt is h e =
    ap (λ l. l ++ with_each (drop (i + 1) xs) yss) e
    ∙ append_assoc all (map (λ ys. x ∷ ys) yss) (with_each (drop (i + 1) xs) yss)
    ∙ ap (λ k. all ++ with_each (x ∷ drop k xs) yss) (add-one i)
    ∙ ap (λ y. all ++ with_each (y ∷ drop (suc i) xs) yss) is
    ∙ ap (λ l. all ++ with_each l yss) (sym (drop-cons xs i x lt)) ∙ h

-- ---- parts of sequences

pub results_range : (ps : List (Value × Value)) (i j : ℕ) → results (take (j - i) (drop i ps)) ≡ take (j - i) (drop i (results ps))
results_range ps i j = sym (take-map (λ p. p.1) (j - i) (drop i ps)) ∙ ap (take (j - i)) (sym (drop-map (λ p. p.1) i ps))

pub part_is : (p : Place) (xs : List Value) (m n : ℤ) (i j : ℕ) → m ≡ pos (1 + i) → n ≡ pos j → i < j → j ≤ length xs →
    part_of p xs m n ≡ Val (sequence (take (j - i) (drop i xs)))
part_is p xs m n i j em en lt le =
    let s : 1 + i ≡ suc i = omega arith in
    ap (λ k. part_of p xs k n) (em ∙ ap pos s) ∙ ap (part_of p xs (pos (suc i))) en
    ∙ ap (λ b. cond b (cond (nat_le j (length xs)) (Val (sequence (take (j - i) (drop i xs)))) (Wrong p)) (Val (sequence []))) (nat_le-true (suc i) j (omega arith))
    ∙ ap (λ b. cond b (Val (sequence (take (j - i) (drop i xs)))) (Wrong p)) (nat_le-true j (length xs) le)
  where
    nat_le-true : (a b : ℕ) → a ≤ b → nat_le a b ≡ true
    nat_le-true a b h = le-leb a b h

pub part_value : (p : Place) (ps : List (Value × Value)) (m n : ℤ) (i j : ℕ) (v : Value) → m ≡ pos (1 + i) → n ≡ pos j → i < j → j ≤ length ps →
    v ≡ sequence (results (take (j - i) (drop i ps))) → part_of p (results ps) m n ≡ Val v
part_value p ps m n i j v em en lt le ev =
    let k : length (results ps) ≡ length ps = simp length-map in
    part_is p (results ps) m n i j em en lt (omega (arith, k)) ∙ ap Val (sym (ev ∙ ap sequence (results_range ps i j)))
