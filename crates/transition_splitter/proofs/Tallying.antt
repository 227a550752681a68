-- How many paths have ended and go on, of paths behind others and of alternatives, where numbers are cut.
use Rattle.std.proofs.Common.{◌≡◌, ℕ, zero, suc, ◌+◌, ◌*◌, ◌≤◌, ◌<◌, min, Bool, true, false, not, nat_lt, List, []}
use Rattle.std.proofs.Common.{◌∷◌, ◌++◌, map, length, refl, sym, ◌∙◌, ap, ap₂, arith}
use Rattle.std.proofs.lemmas.Bool.{ltb-true, ltb-false}
use Rattle.std.proofs.Math.Nat.{add-mul, le-mul_of_pos_right, mul_comm}
use Rattle.kernel_trees.specs.Paths.{Step, ends_at}
use Rattle.kernel_trees.specs.Ways.{Way, after, after_each, one_after}
use Rattle.transition_splitter.specs.declared.counts.Tally.{Tally}
use Rattle.transition_splitter.specs.Splitting.{greatest_number}
use Rattle.transition_splitter.specs.inner.Counts.{both, behind, cut, goes_on, number_of, number_where, one_if, tally}
use Rattle.transition_splitter.specs.inner.Routes.{has_way_ended}
use Rattle.transition_splitter.proofs.Following.{ended_after, running_after, running_append}

abbrev Ways : Type 0
Ways = List (Way Step)

-- ---- numbers that are cut

cut_sum : (l a b : ℕ) → min (a + b) l ≡ min (min a l + min b l) l
cut_sum l a b = omega arith

cut_great : (l a b : ℕ) → l < a → min (a * b) l ≡ min (l * b) l
cut_great l a zero h =
    let i : a * 0 ≡ 0 = omega arith in
    let j : l * 0 ≡ 0 = omega arith in
    ap (λ n. min n l) (i ∙ sym j)
cut_great l a (suc b) h =
    let m = le-mul_of_pos_right {m = suc b} a (omega arith) in
    let n = le-mul_of_pos_right {m = suc b} l (omega arith) in
    omega (arith, h, m, n)

cut_left_at : (l a b : ℕ) (c : Bool) → nat_lt l a ≡ c → min (a * b) l ≡ min (min a l * b) l
cut_left_at l a b true e =
    let h : l < a = ltb-true l a e in
    let k : l ≡ min a l = omega (arith, h) in
    cut_great l a b h ∙ ap (λ n. min (n * b) l) k
cut_left_at l a b false e =
    let h : a ≤ l = ltb-false l a e in
    let k : a ≡ min a l = omega (arith, h) in
    ap (λ n. min (n * b) l) k

cut_left : (l a b : ℕ) → min (a * b) l ≡ min (min a l * b) l
cut_left l a b = cut_left_at l a b (nat_lt l a) refl

cut_product : (l a b : ℕ) → min (a * b) l ≡ min (min a l * min b l) l
cut_product l a b =
    cut_left l a b
    ∙ ap (λ n. min n l) (mul_comm (min a l) b)
    ∙ cut_left l b (min a l)
    ∙ ap (λ n. min n l) (mul_comm (min b l) (min a l))

-- ---- numbers of paths

number_append : (p : Way Step → Bool) (xs ys : Ways) → number_where p (xs ++ ys) ≡ number_where p xs + number_where p ys
number_append p [] ys = omega arith
number_append p (x ∷ xs) ys = let h = number_append p xs ys in omega (arith, h)

-- a path that goes on changes no end of what follows it
ended_behind : (a : Way Step) (bs : Ways) → has_way_ended a ≡ false →
    number_where has_way_ended (map (one_after a) bs) ≡ number_where has_way_ended bs
ended_behind a [] h = refl
ended_behind a (b ∷ bs) h =
    ap₂ (λ (c : Bool) (n : ℕ). one_if c + n) (running_append a.steps b.steps h) (ended_behind a bs h)

running_behind : (a : Way Step) (bs : Ways) → has_way_ended a ≡ false →
    number_where goes_on (map (one_after a) bs) ≡ number_where goes_on bs
running_behind a [] h = refl
running_behind a (b ∷ bs) h =
    ap₂ (λ (c : Bool) (n : ℕ). one_if (not c) + n) (running_append a.steps b.steps h) (running_behind a bs h)

one_times : (r e : ℕ) → (1 + r) * e ≡ e + r * e
one_times r e = add-mul 1 r e ∙ (let h : 1 * e ≡ e = omega arith in ap (λ n. n + r * e) h)

none_times : (r e : ℕ) → (0 + r) * e ≡ r * e
none_times r e = ap (λ n. n * e) (omega arith)

ended_more : (a : Way Step) (bs : Ways) (n r : ℕ) (c : Bool) → has_way_ended a ≡ c →
    number_where has_way_ended (after ends_at a bs) + (n + r * number_where has_way_ended bs)
    ≡ (one_if c + n) + (one_if (not c) + r) * number_where has_way_ended bs
ended_more a bs n r true e =
    let x = ap (number_where has_way_ended) (ended_after a bs e) in
    let y = ap (λ c. one_if c + 0) e in
    let z = none_times r (number_where has_way_ended bs) in
    omega (arith, x, y, z)
ended_more a bs n r false e =
    let x = ap (number_where has_way_ended) (running_after a bs e) in
    let y = ended_behind a bs e in
    let z = one_times r (number_where has_way_ended bs) in
    omega (arith, x, y, z)

running_more : (a : Way Step) (bs : Ways) (r : ℕ) (c : Bool) → has_way_ended a ≡ c →
    number_where goes_on (after ends_at a bs) + r * number_where goes_on bs
    ≡ (one_if (not c) + r) * number_where goes_on bs
running_more a bs r true e =
    let x = ap (number_where goes_on) (ended_after a bs e) in
    let y = ap (λ c. one_if (not c) + 0) e in
    let z = none_times r (number_where goes_on bs) in
    omega (arith, x, y, z)
running_more a bs r false e =
    let x = ap (number_where goes_on) (running_after a bs e) in
    let y = running_behind a bs e in
    let z = one_times r (number_where goes_on bs) in
    omega (arith, x, y, z)

ended_each : (as' bs : Ways) →
    number_where has_way_ended (after_each ends_at as' bs)
    ≡ number_where has_way_ended as' + number_where goes_on as' * number_where has_way_ended bs
ended_each [] bs = let z : 0 * number_where has_way_ended bs ≡ 0 = omega arith in omega (arith, z)
ended_each (a ∷ as') bs =
    number_append has_way_ended (after ends_at a bs) (after_each ends_at as' bs)
    ∙ ap (λ n. number_where has_way_ended (after ends_at a bs) + n) (ended_each as' bs)
    ∙ ended_more a bs (number_where has_way_ended as') (number_where goes_on as') (has_way_ended a) refl

running_each : (as' bs : Ways) →
    number_where goes_on (after_each ends_at as' bs) ≡ number_where goes_on as' * number_where goes_on bs
running_each [] bs = let z : 0 * number_where goes_on bs ≡ 0 = omega arith in omega (arith, z)
running_each (a ∷ as') bs =
    number_append goes_on (after ends_at a bs) (after_each ends_at as' bs)
    ∙ ap (λ n. number_where goes_on (after ends_at a bs) + n) (running_each as' bs)
    ∙ running_more a bs (number_where goes_on as') (has_way_ended a) refl

one_of_two : (c : Bool) → one_if c + one_if (not c) ≡ 1
one_of_two true = refl
one_of_two false = refl

number_all : (ys : Ways) → number_where has_way_ended ys + number_where goes_on ys ≡ length ys
number_all [] = refl
number_all (y ∷ ys) =
    let h = number_all ys in
    let k = one_of_two (has_way_ended y) in
    omega (arith, h, k)

-- ---- tallies

abbrev two : ℕ → ℕ → Tally
two e r = record { ended = e; running = r }

pub tally_append : (xs ys : Ways) → tally (xs ++ ys) ≡ both (tally xs) (tally ys)
tally_append xs ys =
    ap₂ (λ e r. two (cut e) (cut r)) (number_append has_way_ended xs ys) (number_append goes_on xs ys)
    ∙ ap₂ two
    (cut_sum greatest_number (number_where has_way_ended xs) (number_where has_way_ended ys))
    (cut_sum greatest_number (number_where goes_on xs) (number_where goes_on ys))

cut_behind : (l e r n : ℕ) → min (e + r * n) l ≡ min (min e l + min (min r l * min n l) l) l
cut_behind l e r n = cut_sum l e (r * n) ∙ ap (λ m. min (min e l + m) l) (cut_product l r n)

pub tally_each : (as' bs : Ways) → tally (after_each ends_at as' bs) ≡ behind (tally as') (tally bs)
tally_each as' bs =
    ap₂ (λ e r. two (cut e) (cut r)) (ended_each as' bs) (running_each as' bs)
    ∙ ap₂ two
    (cut_behind greatest_number (number_where has_way_ended as') (number_where goes_on as')
    (number_where has_way_ended bs))
    (cut_product greatest_number (number_where goes_on as') (number_where goes_on bs))

pub tally_behind : (a : Way Step) (bs : Ways) → has_way_ended a ≡ false → tally (map (one_after a) bs) ≡ tally bs
tally_behind a bs h = ap₂ (λ e r. two (cut e) (cut r)) (ended_behind a bs h) (running_behind a bs h)

pub tally_total : (ys : Ways) → number_of (tally ys) ≡ cut (length ys)
tally_total ys =
    sym (cut_sum greatest_number (number_where has_way_ended ys) (number_where goes_on ys))
    ∙ ap cut (number_all ys)
