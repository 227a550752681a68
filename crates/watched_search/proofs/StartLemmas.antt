use Rattle.std.proofs.Common.{◌≡◌, ℕ, zero, suc, ◌+◌, ◌-◌, ◌<◌, ◌≤◌, inl, inr, Bool, true, false, not, List, [], ◌∷◌, ◌++◌, length, take, filter, All, Option, Some, get_or, refl, sym, ◌∙◌, ap, arith, append_assoc}
use Rattle.std.specs.Prelude.{AllPairs, Contains, slice_get, nat_lt}
use Rattle.std.proofs.lemmas.Bool.{lt-ltb, ltb-true, cases_lt}
use Rattle.std.proofs.lemmas.List.{append-nil, length_push, length-take, take_more, take_all, get_or_default, get_or_push, get_or_append_left}
use Rattle.std.proofs.lemmas.List.Quantifiers.{all_pairs_push}
use Rattle.std.proofs.lemmas.List.Elements.{All-push, All-tail, All-weaker, All-contains, All-contains_itself, Contains-get_or, Contains-append_left, Contains-append_right, Contains-append_cases, All-filter, filter-append, filter_passes}
use Rattle.std.proofs.lemmas.List.Kept.{AllPairs-filter}
use Rattle.std.proofs.lemmas.Option.{get_or_from_slice_get, slice_get_within, slice_get-get_or}
use Rattle.watched_search.specs.Trail.{AreStarts, starts_below, starts_from}

abbrev pub Rising : List ℕ → Type 0
Rising starts = AllPairs (λ s t. s < t) starts

-- with more entries they stay starts
pub AreStarts-more : (n m : ℕ) (starts : List ℕ) → n ≤ m → AreStarts n starts → AreStarts m starts
AreStarts-more n m starts le h = record {
  rising = h.rising;
  within = All-weaker (λ s. s < n) (λ s. s < m) (λ s lt. omega arith) starts h.within;
}

-- the last entry becomes a start
pub AreStarts-push : (n : ℕ) (starts : List ℕ) → 0 < n → All (λ s. s + 1 < n) starts → AreStarts n starts → AreStarts n (starts ++ (n - 1) ∷ [])
AreStarts-push n starts some later h = record {
  rising = all_pairs_push (λ s t. s < t) starts (n - 1) h.rising (λ k d at. let lt = later k d at in omega arith);
  within = All-push (λ s. s < n) starts (n - 1) h.within (omega arith);
}

pub below_all : (limit : ℕ) (starts : List ℕ) → All (λ s. s < limit) (starts_below limit starts)
below_all limit starts = All-weaker (λ s. nat_lt s limit ≡ true) (λ s. s < limit) (λ s e. ltb-true s limit e) (starts_below limit starts) (filter_passes (λ s. nat_lt s limit) starts)

-- the starts before a place stay starts
pub AreStarts-cut : (n limit : ℕ) (starts : List ℕ) → AreStarts n starts → AreStarts n (starts_below limit starts)
AreStarts-cut n limit starts h = record {
  rising = AllPairs-filter (λ s t. s < t) (λ s. nat_lt s limit) starts h.rising;
  within = All-filter (λ s. nat_lt s limit) (λ s. s < n) starts h.within;
}

-- the starts among the first entries are starts of these
pub AreStarts-back : {X : Type 0} → (xs : List X) (keep : ℕ) (starts : List ℕ) → AreStarts (length xs) starts → AreStarts (length (take keep xs)) (starts_below keep starts)
AreStarts-back xs keep starts h =
    let cut = AreStarts-cut (length xs) keep starts h in
    let size = length-take keep xs in
    record {
      rising = cut.rising;
      within = λ k d at. let p = cut.within k d at in let q = below_all keep starts k d at in omega arith;
    }

-- the number at k of a rising list is k at least
at_least : (starts : List ℕ) → Rising starts → (k : ℕ) → k < length starts → k ≤ get_or starts k 0
at_least starts h zero lt = omega arith
at_least starts h (suc k) lt =
    let p = at_least starts h k (omega arith) in
    let q : get_or starts k 0 < get_or starts (suc k) 0 = h k (suc k) 0 (omega arith) lt in
    omega arith

pub few_starts_lem : (n m : ℕ) (starts : List ℕ) → AreStarts n starts → m ≡ length starts → m ≤ n
few_starts_lem n zero starts h e = omega arith
few_starts_lem n (suc m) starts h e =
    let lt : m < length starts = omega arith in
    let p = at_least starts h.rising m lt in
    let q : get_or starts m 0 < n = h.within m 0 lt in
    omega arith

-- there are no more starts than entries
pub few_starts : (n : ℕ) (starts : List ℕ) → AreStarts n starts → length starts ≤ n
few_starts n starts h = few_starts_lem n (length starts) starts h refl

-- one more start has room: the entry at which it stands begins no level yet
pub room_for_start : (n : ℕ) (starts : List ℕ) → 0 < n → All (λ s. s + 1 < n) starts → AreStarts n starts → length starts < n
room_for_start n starts some later h =
    let all = few_starts n (starts ++ (n - 1) ∷ []) (AreStarts-push n starts some later h) in
    let size = length_push starts (n - 1) in
    omega arith

-- a rising list while the numbers from `limit` on are taken from its end: what is left, and the first that was taken
pub record Cut (limit : ℕ) (all left : List ℕ) (first : Option ℕ) : Type 0 where
  pub gone : List ℕ
  pub from : starts_from limit all ≡ starts_from limit left ++ gone
  pub below : starts_below limit all ≡ starts_below limit left
  pub head : first ≡ slice_get gone 0
  pub rising : Rising left

kept_one : (b : Bool) (s : ℕ) → b ≡ true → (filter (λ (x : ℕ). b) (s ∷ []) ≡ s ∷ []) × (filter (λ (x : ℕ). not b) (s ∷ []) ≡ [])
kept_one true s e = (refl, refl)
kept_one false s e = cc

gone_one : (b : Bool) (s : ℕ) → (b ≡ true → ⊥) → (filter (λ (x : ℕ). b) (s ∷ []) ≡ []) × (filter (λ (x : ℕ). not b) (s ∷ []) ≡ s ∷ [])
gone_one true s e = absurd (e refl)
gone_one false s e = (refl, refl)

-- filters at the end of a list
below_kept : (limit s : ℕ) (xs : List ℕ) → s < limit → (starts_below limit (xs ++ s ∷ []) ≡ starts_below limit xs ++ s ∷ []) × (starts_from limit (xs ++ s ∷ []) ≡ starts_from limit xs)
below_kept limit s xs lt =
    let one = kept_one (nat_lt s limit) s (lt-ltb s limit lt) in (
      filter-append (λ x. nat_lt x limit) xs (s ∷ []) ∙ ap (λ ys. starts_below limit xs ++ ys) one.0,
      filter-append (λ x. not (nat_lt x limit)) xs (s ∷ []) ∙ ap (λ ys. starts_from limit xs ++ ys) one.1 ∙ append-nil (starts_from limit xs),
    )

from_gone : (limit s : ℕ) (xs : List ℕ) → (s < limit → ⊥) → (starts_below limit (xs ++ s ∷ []) ≡ starts_below limit xs) × (starts_from limit (xs ++ s ∷ []) ≡ starts_from limit xs ++ s ∷ [])
from_gone limit s xs ge =
    let one = gone_one (nat_lt s limit) s (λ e. ge (ltb-true s limit e)) in (
      filter-append (λ x. nat_lt x limit) xs (s ∷ []) ∙ ap (λ ys. starts_below limit xs ++ ys) one.0 ∙ append-nil (starts_below limit xs),
      filter-append (λ x. not (nat_lt x limit)) xs (s ∷ []) ∙ ap (λ ys. starts_from limit xs ++ ys) one.1,
    )

-- all before a number are kept
all_kept_head : (limit : ℕ) (x : ℕ) (xs : List ℕ) → x < limit → (starts_below limit xs ≡ xs) × (starts_from limit xs ≡ []) → (starts_below limit (x ∷ xs) ≡ x ∷ xs) × (starts_from limit (x ∷ xs) ≡ [])
all_kept_head limit x xs lt h =
    let one = kept_one (nat_lt x limit) x (lt-ltb x limit lt) in (
      filter-append (λ y. nat_lt y limit) (x ∷ []) xs ∙ ap (λ ys. ys ++ starts_below limit xs) one.0 ∙ ap (λ ys. x ∷ ys) h.0,
      filter-append (λ y. not (nat_lt y limit)) (x ∷ []) xs ∙ ap (λ ys. ys ++ starts_from limit xs) one.1 ∙ h.1,
    )

all_kept : (limit : ℕ) (xs : List ℕ) → All (λ s. s < limit) xs → (starts_below limit xs ≡ xs) × (starts_from limit xs ≡ [])
all_kept limit [] h = (refl, refl)
all_kept limit (x ∷ xs) h = all_kept_head limit x xs (h 0 0 (omega (arith))) (all_kept limit xs (All-tail (λ s. s < limit) x xs h))

Rising-front : (xs : List ℕ) (s : ℕ) → Rising (xs ++ s ∷ []) → Rising xs
Rising-front xs s h = λ i j d lt at.
    let size = length_push xs s in
    rw (get_or_append_left xs (s ∷ []) d i (omega arith), get_or_append_left xs (s ∷ []) d j at) at (h i j d lt (omega arith))

Rising-last : (xs : List ℕ) (s limit : ℕ) → Rising (xs ++ s ∷ []) → s < limit → All (λ x. x < limit) xs
Rising-last xs s limit h lt = λ k d at.
    let size = length_push xs s in
    let p = rw (get_or_append_left xs (s ∷ []) d k at, get_or_push xs s d (length xs) refl) at (h k (length xs) d at (omega arith)) in
    omega arith

last_split : (xs : List ℕ) (s : ℕ) → slice_get xs (length xs - 1) ≡ Some s → xs ≡ take (length xs - 1) xs ++ s ∷ []
last_split xs s e =
    let lt = slice_get_within xs (length xs - 1) s e in
    let more = take_more xs (length xs - 1) 0 lt in
    let n : length xs - 1 + 1 ≡ length xs = omega arith in
    sym (take_all (length xs) xs (omega arith)) ∙ ap (λ k. take k xs) (sym n) ∙ more ∙ ap (λ x. take (length xs - 1) xs ++ x ∷ []) (get_or_from_slice_get xs (length xs - 1) s 0 e)

-- the last one is taken
pub Cut-step : (limit : ℕ) (all left : List ℕ) (first : Option ℕ) (s : ℕ) → Cut limit all left first → slice_get left (length left - 1) ≡ Some s → (s < limit → ⊥)
    → Cut limit all (take (length left - 1) left) (Some s)
Cut-step limit all left first s h e ge =
    let split = last_split left s e in
    let front = take (length left - 1) left in
    let step = from_gone limit s front ge in
    record {
      gone = s ∷ h.gone;
      from = h.from ∙ ap (λ xs. starts_from limit xs ++ h.gone) split ∙ ap (λ xs. xs ++ h.gone) step.1 ∙ append_assoc (starts_from limit front) (s ∷ []) h.gone;
      below = h.below ∙ ap (λ xs. starts_below limit xs) split ∙ step.0;
      head = refl;
      rising = Rising-front front s (rw split at h.rising);
    }

Cut-all : (limit : ℕ) (all left : List ℕ) (first : Option ℕ) → Cut limit all left first → All (λ s. s < limit) left
    → (left ≡ starts_below limit all) × (first ≡ slice_get (starts_from limit all) 0)
Cut-all limit all left first h less =
    let p = all_kept limit left less in (
      sym (h.below ∙ p.0),
      h.head ∙ ap (λ xs. slice_get xs 0) (sym (h.from ∙ ap (λ xs. xs ++ h.gone) p.1)),
    )

-- the last one stays, and so all do
pub Cut-end : (limit : ℕ) (all left : List ℕ) (first : Option ℕ) (s : ℕ) → Cut limit all left first → slice_get left (length left - 1) ≡ Some s → s < limit
    → (left ≡ starts_below limit all) × (first ≡ slice_get (starts_from limit all) 0)
Cut-end limit all left first s h e lt =
    let split = last_split left s e in
    let front = take (length left - 1) left in
    Cut-all limit all left first h (rw split (All-push (λ x. x < limit) front s (Rising-last front s limit (rw split at h.rising) lt) lt))

-- which starts are left, and which are gone

only : (x y : ℕ) → Contains (x ∷ []) y → x ≡ y
only x y h = let lt : h.0 < 1 = h.1 in let z : h.0 ≡ 0 = omega arith in rw z at h.2

passes_one : (p : ℕ → Bool) (x : ℕ) (b : Bool) → p x ≡ b → b ≡ true → filter p (x ∷ []) ≡ x ∷ []
passes_one p x true e t = rw e refl
passes_one p x false e t = cc

-- what passes a test is left by it
passed_in : (p : ℕ → Bool) (xs : List ℕ) (y : ℕ) → Contains xs y → p y ≡ true → Contains (filter p xs) y
passed_in p [] y h e = let lt : h.0 < 0 = h.1 in absurd (omega arith)
passed_in p (x ∷ xs) y h e = rw (filter-append p (x ∷ []) xs) (elim (Contains-append_cases (x ∷ []) xs y h) [
  | inl here ↦
      (let same = only x y here in
      Contains-append_left (filter p (x ∷ [])) (filter p xs) y (rw (passes_one p x true (rw same e) refl) here))
  | inr later ↦ Contains-append_right (filter p (x ∷ [])) (filter p xs) y (passed_in p xs y later e)
])

passed_from : (p : ℕ → Bool) (xs : List ℕ) (y : ℕ) → Contains (filter p xs) y → Contains xs y × (p y ≡ true)
passed_from p xs y h = (
  All-contains (Contains xs) (filter p xs) y (All-filter p (Contains xs) xs (All-contains_itself xs)) h,
  All-contains (λ x. p x ≡ true) (filter p xs) y (filter_passes p xs) h,
)

not_false : (b : Bool) → not b ≡ true → b ≡ true → ⊥
not_false true e f = cc
not_false false e f = cc

at_limit : (limit x : ℕ) → not (nat_lt x limit) ≡ true → limit ≤ x
at_limit limit x e = elim (cases_lt x limit) [ inl less ↦ absurd (not_false (nat_lt x limit) e (lt-ltb x limit less)) | inr ge ↦ omega arith ]

pub in-starts_below : (limit : ℕ) (starts : List ℕ) (s : ℕ) → Contains (starts_below limit starts) s → Contains starts s × (s < limit)
in-starts_below limit starts s h = let p = passed_from (λ x. nat_lt x limit) starts s h in (p.0, ltb-true s limit p.1)

-- the first that is gone is a start
pub in-starts_from : (limit : ℕ) (starts : List ℕ) (s : ℕ) → slice_get (starts_from limit starts) 0 ≡ Some s → Contains starts s × (limit ≤ s)
in-starts_from limit starts s e =
    let lt = slice_get_within (starts_from limit starts) 0 s e in
    let has = rw (get_or_from_slice_get (starts_from limit starts) 0 s 0 e) at (Contains-get_or (starts_from limit starts) 0 0 lt) in
    let p = passed_from (λ x. not (nat_lt x limit)) starts s has in
    (p.0, at_limit limit s p.1)

test_not : (b : Bool) → (b ≡ true → ⊥) → not b ≡ true
test_not true h = absurd (h refl)
test_not false h = refl

not_below : (limit : ℕ) → not (nat_lt limit limit) ≡ true
not_below limit = test_not (nat_lt limit limit) (λ e. let lt = ltb-true limit limit e in absurd (omega arith))

rising_first : (starts : List ℕ) (limit : ℕ) → Rising starts → All (λ x. limit ≤ x) starts → Contains starts limit → slice_get starts 0 ≡ Some limit
rising_first starts limit h least has =
    let i = has.0 in
    let lt : 0 < length starts = let at = has.1 in omega arith in
    let here : get_or starts i limit ≡ limit = has.2 in
    slice_get-get_or starts 0 limit lt ∙ ap (λ x. Some x) (elim (cases_lt 0 i) [
      | inl behind ↦
          (let before = rw here at (h 0 i limit behind has.1) in
          let first = least 0 limit lt in
          absurd (omega arith))
      | inr front ↦ let zero_at : i ≡ 0 = omega arith in rw zero_at at here
    ])

-- none is behind the last
pub starts-last : (starts : List ℕ) (s t : ℕ) → Rising starts → slice_get starts (length starts - 1) ≡ Some s → Contains starts t → t ≤ s
starts-last starts s t h e has =
    let lt = slice_get_within starts (length starts - 1) s e in
    let last : get_or starts (length starts - 1) 0 ≡ s = get_or_from_slice_get starts (length starts - 1) s 0 e in
    let here : get_or starts has.0 0 ≡ t = get_or_default starts has.0 0 t has.1 ∙ has.2 in
    let at = has.1 in
    elim (cases_lt has.0 (length starts - 1)) [
      | inl before ↦ let less = rw (here, last) at (h has.0 (length starts - 1) 0 before lt) in omega arith
      | inr ge ↦ let same : has.0 ≡ length starts - 1 = omega arith in let one : t ≡ s = sym here ∙ ap (λ k. get_or starts k 0) same ∙ last in omega arith
    ]
