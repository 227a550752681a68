-- Steps of listing the waiting nodes of a node.
use Rattle.std.proofs.Common.{◌≡◌, ℕ, zero, suc, ◌+◌, ◌<◌, List, [], ◌∷◌, ◌++◌, append_assoc, drop, get_or, length, take, refl, ap, ◌∙◌, sym, arith, Result, Ok, Err, IfOk}
use Rattle.std.proofs.lemmas.List.{drop_all, drop_more}
use Rattle.tla_meaning.specs.declared.place.Place.{Place}
use Rattle.snowcat_types.specs.declared.waiting.Wait.{Wait}
use Rattle.snowcat_types.specs.declared.waiting.Wait.TheVariants as wait
use Rattle.snowcat_types.specs.Rows.{index_number, reached_number}
use Rattle.snowcat_types.specs.Waiting.{Sight, waiting_indexes, waiting_updates}

-- all of these are indexes
abbrev pub all_indexes : ℕ → ℕ → ℕ → List Sight → List Wait
all_indexes v from i ks = waiting_indexes v from i (length ks) ks

pub next_index_wait : (v from i at j : ℕ) (ks : List Sight) (k : Sight) (w : Wait) (ws us : List Wait) → j < length ks → k ≡ get_or ks j k → at ≡ i + j →
    w ∷ [] ≡ waiting_indexes v from at 1 (k ∷ []) → us ≡ ws ++ w ∷ [] →
    us ++ all_indexes v (v + (at + at + 2)) (i + (j + 1)) (drop (j + 1) ks) ≡ ws ++ all_indexes v from (i + j) (drop j ks)
next_index_wait v from i at j ks k w ws us lt q a e h =
    let up : i + (j + 1) ≡ at + 1 = omega (arith, a) in
    let rest : List Wait = all_indexes v (v + reached_number at) (at + 1) (drop (j + 1) ks) in
    ap (λ z. us ++ all_indexes v (v + reached_number at) z (drop (j + 1) ks)) up
    ∙ ap (λ z. z ++ rest) h
    ∙ append_assoc ws (w ∷ []) rest
    ∙ ap (λ z. ws ++ (z ++ rest)) e
    ∙ ap (λ z. ws ++ all_indexes v from at z) (sym (drop_more ks j k lt ∙ ap (λ z. z ∷ drop (j + 1) ks) (sym q)))
    ∙ ap (λ z. ws ++ all_indexes v from z (drop j ks)) a

pub indexes_end : (v from i j : ℕ) (ks : List Sight) (ws : List Wait) → length ks < j + 1 → ws ++ all_indexes v from (i + j) (drop j ks) ≡ ws
indexes_end v from i j ks ws le = ap (λ z. ws ++ all_indexes v from (i + j) z) (drop_all j ks (omega (arith, le))) ∙ nothing_behind ws
  where
    nothing_behind : (xs : List Wait) → xs ++ [] ≡ xs
    nothing_behind [] = refl
    nothing_behind (x ∷ xs) = ap (λ z. x ∷ z) (nothing_behind xs)

as_far : (v from i n : ℕ) (ks : List Sight) → all_indexes v from i (take n ks) ≡ waiting_indexes v from i n ks
as_far v from i zero ks = refl
as_far v from i (suc n) [] = refl
as_far v from i (suc n) (k ∷ ks) =
    ap (λ z. wait.Apply k.place from (v + index_number i) (v + reached_number i) k.literal ∷ z) (as_far v (v + reached_number i) (i + 1) n ks)

drop_none : (n : ℕ) → drop {A = Sight} n [] ≡ []
drop_none zero = refl
drop_none (suc n) = refl

drop_twice : (xs : List Sight) (m n k : ℕ) → k ≡ m + n → drop n (drop m xs) ≡ drop k xs
drop_twice xs zero n k e = let h : n ≡ k = omega (arith, e) in ap (λ z. drop z xs) h
drop_twice [] (suc m) n k e = drop_none n ∙ sym (drop_none k)
drop_twice (x ∷ xs) (suc m) n zero e = absurd (omega (arith, e))
drop_twice (x ∷ xs) (suc m) n (suc k) e = drop_twice xs m n k (omega (arith, e))

pub next_update_waits : (v i j n at start next d : ℕ) (counts : List ℕ) (ks part : List Sight) (ws us : List Wait) → at < length counts → n ≡ get_or counts at d →
    j ≡ i + n → next ≡ start + (n + 1) → part ≡ take n (drop start ks) → us ≡ ws ++ all_indexes v v i part →
    us ++ waiting_updates v j (drop (at + 1) counts) (drop next ks) ≡ ws ++ waiting_updates v i (drop at counts) (drop start ks)
next_update_waits v i j n at start next d counts ks part ws us lt q a b p h =
    let up : next ≡ start + suc n = omega (arith, b) in
    let rest : List Wait = waiting_updates v (i + n) (drop (at + 1) counts) (drop (suc n) (drop start ks)) in
    (λ z. h z ++ waiting_updates v (a z) (drop (at + 1) counts) (drop next ks))
    ∙ ap (λ z. (ws ++ all_indexes v v i part) ++ waiting_updates v (i + n) (drop (at + 1) counts) z) (sym (drop_twice ks start (suc n) next up))
    ∙ ap (λ z. (ws ++ z) ++ rest) (ap (all_indexes v v i) p ∙ as_far v v i n (drop start ks))
    ∙ append_assoc ws (waiting_indexes v v i n (drop start ks)) rest
    ∙ ap (λ z. ws ++ waiting_updates v i z (drop start ks)) (sym (drop_more counts at d lt ∙ ap (λ z. z ∷ drop (at + 1) counts) (sym q)))

-- what holds for each place holds for one
pub at_place : {A B : Type 0} (P : A → Place → Type 0) (r : Result A B) (p : Place) → IfOk r (λ a. (q : Place) → P a q) → IfOk r (λ a. P a p)
at_place P (Ok a) p h = h p
at_place P (Err e) p h = tt
