-- How much of a search is left.
use Rattle.std.proofs.Common.{◌≡◌, ℕ, zero, suc, ◌+◌, ◌<◌, ◌≤◌, Bool, true, false, List, [], ◌∷◌, ◌++◌, length, All, sym, ap, subst, arith, length-append}
use Rattle.std.proofs.lemmas.List.Elements.{All-tail}
use Rattle.plain_search.specs.inner.Search.{IsTurn}

-- the nodes of a tree of this depth
abbrev size : ℕ → ℕ
size zero = 1
size (suc n) = size n + size n + 1

-- the nodes at these values and after them, in a tree of n variables
abbrev pub work : ℕ → List Bool → ℕ
work n [] = size n
work zero (b ∷ bs) = 0
work (suc n) (true ∷ bs) = work n bs
work (suc n) (false ∷ bs) = work n bs + size n

pub work-push : (n : ℕ) (bs : List Bool) → length bs < n → work n (bs ++ false ∷ []) < work n bs
work-push zero bs lt = absurd (omega arith)
work-push (suc n) [] lt = omega arith
work-push (suc n) (true ∷ bs) lt = work-push n bs (omega arith)
work-push (suc n) (false ∷ bs) lt = let less = work-push n bs (omega arith) in omega arith

some_size : (n : ℕ) → 0 < size n
some_size zero = omega arith
some_size (suc n) = omega arith

some_work : (n : ℕ) (bs : List Bool) → length bs ≤ n → All (λ b. b ≡ true) bs → 0 < work n bs
some_work n [] le all = some_size n
some_work zero (b ∷ bs) le all = absurd (omega arith)
some_work (suc n) (true ∷ bs) le all = some_work n bs (omega arith) (All-tail (λ b. b ≡ true) true bs all)
some_work (suc n) (false ∷ bs) le all = let more = some_size n in omega arith

turned : (n : ℕ) (kept tried : List Bool) → length (kept ++ false ∷ tried) ≤ n → All (λ b. b ≡ true) tried
    → work n (kept ++ true ∷ []) < work n (kept ++ false ∷ tried)
turned zero [] tried le all = absurd (omega arith)
turned zero (b ∷ bs) tried le all = absurd (omega arith)
turned (suc n) [] tried le all = let more = some_work n tried (omega arith) all in omega arith
turned (suc n) (true ∷ bs) tried le all = turned n bs tried (omega arith) all
turned (suc n) (false ∷ bs) tried le all = let less = turned n bs tried (omega arith) all in omega arith

pub work-turn : (n : ℕ) (old new : List Bool) → IsTurn old new → length old ≤ n → work n new < work n old
work-turn n old new turn le =
    subst (λ (x : List Bool). work n x < work n old) (sym turn.are)
    (subst (λ (x : List Bool). work n (turn.kept ++ true ∷ []) < work n x) (sym turn.were)
    (turned n turn.kept turn.tried (subst (λ (x : List Bool). length x ≤ n) turn.were le) turn.all_tried))

pub length-turn : (old new : List Bool) → IsTurn old new → length new ≤ length old
length-turn old new turn =
    omega (arith, ap length turn.are, ap length turn.were, length-append turn.kept (true ∷ []), length-append turn.kept (false ∷ turn.tried))
