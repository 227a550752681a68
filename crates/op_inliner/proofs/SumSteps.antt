-- The steps of the loops over sums.
use Rattle.std.proofs.Common.{◌≡◌, ◌≤◌, ◌<◌, ◌-◌, ℕ, zero, suc, List, [], ◌∷◌, ◌++◌, length, take, drop, get_or, min, inl, inr, arith, refl, ap, ap₂, ◌∙◌, sym}
use Rattle.std.proofs.lemmas.Bool.{cases_lt}
use Rattle.std.proofs.lemmas.List.{take_all, append-nil, drop_all, append_assoc, take_rest}
use Rattle.op_inliner.specs.declared.sums.Sum.{Sum}
use Rattle.op_inliner.specs.declared.sums.Counted.{Counted}
use Rattle.op_inliner.specs.declared.scope.Entry.{Entry}
use Rattle.op_inliner.specs.inner.Sums.{add_factors, add_sums, behind_all, combined, cut_sum_of, flat_sums, parameters, scope_of, given, plain_number, times}

-- ---- two lists of factors

pub record Adding (us vs : List ℕ) (i : ℕ) (out : List ℕ) : Type 0 where
  pub first : i ≤ length us
  pub second : i ≤ length vs
  pub rest : out ++ add_factors (drop i us) (drop i vs) ≡ add_factors us vs

pub add_begun : (us vs : List ℕ) → Adding us vs 0 []
add_begun us vs = record { first = omega arith; second = omega arith; rest = refl }

add_one : (us vs : List ℕ) (i : ℕ) → i < length us → i < length vs →
    add_factors (drop i us) (drop i vs) ≡ cut_sum_of (get_or us i 0) (get_or vs i 0) ∷ add_factors (drop (suc i) us) (drop (suc i) vs)
add_one [] vs i h k = absurd (omega (arith, h))
add_one (u ∷ us) [] i h k = absurd (omega (arith, k))
add_one (u ∷ us) (v ∷ vs) zero h k = refl
add_one (u ∷ us) (v ∷ vs) (suc i) h k = add_one us vs i (omega (arith, h)) (omega (arith, k))

pub add_step : (us vs : List ℕ) (i : ℕ) (out : List ℕ) → Adding us vs i out → i < length us → i < length vs →
    Adding us vs (suc i) (out ++ cut_sum_of (get_or us i 0) (get_or vs i 0) ∷ [])
add_step us vs i out a h k = record {
  first = h;
  second = k;
  rest = append_assoc out (cut_sum_of (get_or us i 0) (get_or vs i 0) ∷ []) (add_factors (drop (suc i) us) (drop (suc i) vs))
      ∙ ap (λ ws. out ++ ws) (sym (add_one us vs i h k)) ∙ a.rest;
}

add_nothing : (us : List ℕ) → add_factors us [] ≡ us
add_nothing [] = refl
add_nothing (u ∷ us) = refl

add_rests : (us vs : List ℕ) (i : ℕ) (out : List ℕ) → Adding us vs i out → add_factors (drop i us) (drop i vs) ≡ drop i us ++ drop i vs →
    out ++ take (length us - i) (drop i us) ++ take (length vs - i) (drop i vs) ≡ add_factors us vs
add_rests us vs i out a e =
    ap₂ (λ (xs ys : List ℕ). (out ++ xs) ++ ys) (take_rest us i) (take_rest vs i)
    ∙ append_assoc out (drop i us) (drop i vs) ∙ ap (λ ws. out ++ ws) (sym e) ∙ a.rest

pub add_first_done : (us vs : List ℕ) (i : ℕ) (out : List ℕ) → Adding us vs i out → length us ≤ i →
    out ++ take (length us - i) (drop i us) ++ take (length vs - i) (drop i vs) ≡ add_factors us vs
add_first_done us vs i out a h =
    let e = drop_all i us h in
    add_rests us vs i out a (ap (λ ws. add_factors ws (drop i vs)) e ∙ sym (ap (λ ws. ws ++ drop i vs) e))

pub add_second_done : (us vs : List ℕ) (i : ℕ) (out : List ℕ) → Adding us vs i out → length vs ≤ i →
    out ++ take (length us - i) (drop i us) ++ take (length vs - i) (drop i vs) ≡ add_factors us vs
add_second_done us vs i out a h =
    let e = drop_all i vs h in
    add_rests us vs i out a (ap (add_factors (drop i us)) e ∙ add_nothing (drop i us) ∙ sym (ap (λ ws. drop i us ++ ws) e ∙ append-nil (drop i us)))

-- ---- sums in the place of unknowns

pub record Combining (us : List ℕ) (ss : List Sum) (i : ℕ) (all : Sum) : Type 0 where
  pub first : i ≤ length us
  pub second : i ≤ length ss
  pub rest : all ≡ combined (drop i us) (drop i ss)

combined_nothing : (us : List ℕ) → combined us [] ≡ plain_number 0
combined_nothing [] = refl
combined_nothing (u ∷ us) = refl

pub combine_begun : (us : List ℕ) (ss : List Sum) (i : ℕ) → i ≡ min (length us) (length ss) → Combining us ss i (plain_number 0)
combine_begun us ss i e = elim (cases_lt (length us) (length ss)) [
  | inl less ↦ record {
    first = omega (arith, e, less);
    second = omega (arith, e, less);
    rest = sym (ap (λ ws. combined ws (drop i ss)) (drop_all i us (omega (arith, e, less))));
  }
  | inr more ↦ record {
    first = omega (arith, e, more);
    second = omega (arith, e, more);
    rest = sym (ap (combined (drop i us)) (drop_all i ss (omega (arith, e, more))) ∙ combined_nothing (drop i us));
  }
]

combine_one : (us : List ℕ) (ss : List Sum) (d : Sum) (i : ℕ) → i < length us → i < length ss →
    combined (drop i us) (drop i ss) ≡ add_sums (times (get_or us i 0) (get_or ss i d)) (combined (drop (suc i) us) (drop (suc i) ss))
combine_one [] ss d i h k = absurd (omega (arith, h))
combine_one (u ∷ us) [] d i h k = absurd (omega (arith, k))
combine_one (u ∷ us) (s ∷ ss) d zero h k = refl
combine_one (u ∷ us) (s ∷ ss) d (suc i) h k = combine_one us ss d i (omega (arith, h)) (omega (arith, k))

pub combine_step : (us : List ℕ) (ss : List Sum) (d : Sum) (i : ℕ) (all part more : Sum) → Combining us ss (suc i) all →
    part ≡ times (get_or us i 0) (get_or ss i d) → more ≡ add_sums part all → Combining us ss i more
combine_step us ss d i all part more c e f = record {
  first = let h = c.first in omega (arith, h);
  second = let h = c.second in omega (arith, h);
  rest = f ∙ ap₂ add_sums e c.rest ∙ sym (combine_one us ss d i c.first c.second);
}

-- a part of the list of factors that reaches past its end is the whole
take_min : (m : ℕ) (us : List ℕ) (k : ℕ) → k ≡ min m (length us) → take k us ≡ take m us
take_min m us k e = elim (cases_lt m (length us)) [
  | inl less ↦ ap (λ n. take n us) (let i : k ≡ m = omega (arith, e, less) in i)
  | inr more ↦ take_all k us (omega (arith, e, more)) ∙ sym (take_all m us more)
]

drop_min : (m : ℕ) (us : List ℕ) (k : ℕ) → k ≡ min m (length us) → drop k us ≡ drop m us
drop_min m us k e = elim (cases_lt m (length us)) [
  | inl less ↦ ap (λ n. drop n us) (let i : k ≡ m = omega (arith, e, less) in i)
  | inr more ↦ drop_all k us (omega (arith, e, more)) ∙ sym (drop_all m us more)
]

pub given_is : (m k : ℕ) (ss : List Sum) (s front behind r : Sum) → k ≡ min m (length s.factors) →
    front ≡ (record { base = s.base; factors = take k s.factors }) → behind ≡ combined (take (length s.factors - k) (drop k s.factors)) ss →
    r ≡ add_sums front behind → r ≡ given m ss s
given_is m k ss s front behind r e f g h =
    h
    ∙ ap₂ add_sums (f ∙ ap (λ (us : List ℕ). record { base = s.base; factors = us }) (take_min m s.factors k e))
    (g ∙ ap (λ us. combined us ss) (take_rest s.factors k ∙ drop_min m s.factors k e))

-- ---- totals

pub record Totals (total : List Counted → Sum) (cs : List Counted) (i : ℕ) (all : Sum) : Type 0 where
  pub fits : i ≤ length cs
  pub rest : all ≡ total (drop i cs)

pub totals_begun : (total : List Counted → Sum) (cs : List Counted) → total [] ≡ plain_number 0 → Totals total cs (length cs) (plain_number 0)
totals_begun total cs e = record { fits = omega arith; rest = sym (ap total (drop_all (length cs) cs (omega arith)) ∙ e) }

flat_last : (cs : List Counted) (c : Counted) → flat_sums (cs ++ c ∷ []) ≡ flat_sums cs ++ c.tree ∷ c.kept ∷ c.plain ∷ []
flat_last [] c = refl
flat_last (d ∷ cs) c = ap (λ (ss : List Sum). d.tree ∷ d.kept ∷ d.plain ∷ ss) (flat_last cs c)

pub flat_push : (cs : List Counted) (c : Counted) (out : List Sum) → out ≡ flat_sums cs →
    out ++ c.tree ∷ [] ++ c.kept ∷ [] ++ c.plain ∷ [] ≡ flat_sums (cs ++ c ∷ [])
flat_push cs c out e =
    append_assoc (out ++ c.tree ∷ []) (c.kept ∷ []) (c.plain ∷ [])
    ∙ append_assoc out (c.tree ∷ []) (c.kept ∷ c.plain ∷ [])
    ∙ ap (λ ss. ss ++ c.tree ∷ c.kept ∷ c.plain ∷ []) e
    ∙ sym (flat_last cs c)

-- ---- parameters

-- what is pushed, and where the next parameter begins
pub record Pushing (names : List (List ℕ)) (first : ℕ) (i : ℕ) (next : ℕ) (before now : List Entry) : Type 0 where
  pub scope : scope_of now ++ parameters (drop i names) next ≡ scope_of before ++ parameters names first
  pub behind : behind_all (drop i names) next ≡ behind_all names first
