use Rattle.std.proofs.Common.{◌≡◌, ℕ, zero, suc, ◌+◌, ◌-◌, ◌*◌, ◌<◌, ◌≤◌, inl, inr, Bool, true, false, ◌||◌, List, [], ◌∷◌, length, take, map, All, get_or, refl, sym, ◌∙◌, ap, subst, arith, eqb, eq-eqb}
use Rattle.std.specs.Prelude.{Contains}
use Rattle.std.specs.List.{list_any}
use Rattle.std.proofs.lemmas.Bool.{cases_lt, eqb-true, ne_eqb, or_cases, false≢true}
use Rattle.std.proofs.lemmas.List.{get_or-map, length-map, get_or-take, length-take}
use Rattle.std.proofs.lemmas.List.Elements.{All-contains, All-weaker, All-contains_itself, Contains-append_right}
use Rattle.std.proofs.lemmas.Map.Keys.{IsDistinct-from_apart}
use Rattle.std.proofs.lemmas.Map.Steps.{length-le_from_distinct_below}
use Rattle.std.proofs.lemmas.Map.Views.{Contains-from_any}
use Rattle.sat_formula.specs.declared.lit.Lit.{Lit}
use Rattle.sat_formula.specs.Lit.{IsBelow}
use Rattle.refutation_checker.specs.declared.log.Step.{Step}
use Rattle.refutation_checker.specs.Follows.{known}
use Rattle.watched_search.specs.Codes.{code}
use Rattle.watched_search.proofs.CodeLemmas.{code-same, code-below}
use Rattle.cdcl_solver.specs.Answers.{EachNew}
use Rattle.cdcl_solver.specs.inner.Rounds.{subsets, digit, set_number, times, rounds_left}

-- sets have different numbers
digit-le : (b : Bool) → digit b ≤ 1
digit-le true = omega arith
digit-le false = omega arith

digit-same : (a b : Bool) → digit a ≡ digit b → a ≡ b
digit-same true true e = refl
digit-same false false e = refl
digit-same true false e = absurd (omega arith)
digit-same false true e = absurd (omega arith)

set_number-below : (ks : List ℕ) (n : ℕ) → set_number ks n < subsets n
unfolding set_number subsets
set_number-below ks zero = omega arith
set_number-below ks (suc n) =
    let h = set_number-below ks n in
    let d = digit-le (list_any (eqb n) ks) in
    omega arith

set_number-same : (ks ms : List ℕ) (n k : ℕ) → set_number ks n ≡ set_number ms n → k < n → list_any (eqb k) ks ≡ list_any (eqb k) ms
unfolding set_number
set_number-same ks ms zero k e lt = absurd (omega arith)
set_number-same ks ms (suc n) k e lt =
    let a = digit-le (list_any (eqb n) ks) in
    let b = digit-le (list_any (eqb n) ms) in
    let rest : set_number ks n ≡ set_number ms n = omega arith in
    elim (cases_lt k n) [
      | inl below ↦ set_number-same ks ms n k rest below
      | inr ge ↦
          (let here : n ≡ k = omega arith in
          subst (λ (i : ℕ). list_any (eqb i) ks ≡ list_any (eqb i) ms) here (digit-same (list_any (eqb n) ks) (list_any (eqb n) ms) (omega arith)))
    ]

or_true : (x y : Bool) → y ≡ true → x || y ≡ true
or_true true y e = refl
or_true false y e = e

any_in : (ks : List ℕ) (q : ℕ) → Contains ks q → list_any (eqb q) ks ≡ true
any_in [] q h = let lt : h.0 < 0 = h.1 in absurd (omega arith)
any_in (k ∷ ks) q (zero, lt, e) = rw (eq-eqb q k (sym e)) refl
any_in (k ∷ ks) q (suc i, lt, e) = or_true (eqb q k) (list_any (eqb q) ks) (any_in ks q (i, (omega arith), e))

code_in : (c : List Lit) (l : Lit) → Contains c l → Contains (map code c) (code l)
code_in c l (i, lt, e) = let size = length-map c code in (i, (omega arith), get_or-map code c i l (code l) lt ∙ ap code e)

in_code : (c : List Lit) (l : Lit) → Contains (map code c) (code l) → Contains c l
in_code c l (i, lt, e) =
    let size = length-map c code in
    let within : i < length c = omega arith in
    (i, within, code-same (get_or c i l) l (sym (get_or-map code c i l (code l) within) ∙ e))

-- the number of a clause's set of literals, over so many variables
clause_number : ℕ → List Lit → ℕ
clause_number vars c = set_number (map code c) (2 * vars)

-- clauses of one number have the same literals
same_in : (vars : ℕ) (c d : List Lit) → clause_number vars c ≡ clause_number vars d → (l : Lit) → l.var < vars → Contains c l → Contains d l
unfolding clause_number
same_in vars c d same l lt has =
    let any : list_any (eqb (code l)) (map code c) ≡ true = any_in (map code c) (code l) (code_in c l has) in
    let both : list_any (eqb (code l)) (map code c) ≡ list_any (eqb (code l)) (map code d) = set_number-same (map code c) (map code d) (2 * vars) (code l) same (code-below l vars lt) in
    in_code d l (Contains-from_any eqb-true (code l) (map code d) (sym both ∙ any))

all_in : (vars : ℕ) (c d : List Lit) → clause_number vars c ≡ clause_number vars d → All (IsBelow vars) c → All (Contains d) c
all_in vars c d same below =
    All-weaker (Contains c) (Contains d) (λ l has. same_in vars c d same l (All-contains (IsBelow vars) c l below has) has) c (All-contains_itself c)

no_step : Step
no_step = record { id = 0; lits = []; hints = [] }

any_below : (f : Step → ℕ) (steps : List Step) (n : ℕ) → ((s : Step) → f s < n) → (q : ℕ) → list_any (eqb q) (map f steps) ≡ true → q < n
any_below f [] n below q h = absurd (false≢true h)
any_below f (s ∷ steps) n below q h = elim (or_cases (eqb q (f s)) (list_any (eqb q) (map f steps)) h) [
  | inl e ↦ subst (λ (k : ℕ). k < n) (sym (eqb-true q (f s) e)) (below s)
  | inr t ↦ any_below f steps n below q t
]

-- so there are no more steps than sets of literals
module _ (clauses : List (List Lit)) (steps : List Step) (vars : ℕ) (names : All (λ s. All (IsBelow vars) s.lits) steps)
    (new : EachNew clauses steps) (some : All (λ s. 0 < length s.lits) steps) where
  earlier : (i j : ℕ) → i < j → j < length steps → Contains (known clauses (take j steps)) (get_or steps i no_step).lits
  earlier i j lt within =
      let lits : Step → List Lit = λ s. s.lits in
      let size = length-take j steps in
      let before : i < length (take j steps) = omega arith in
      let all = length-map (take j steps) lits in
      Contains-append_right clauses (map lits (take j steps)) (get_or steps i no_step).lits
      (i, (omega arith), get_or-map lits (take j steps) i no_step (get_or steps i no_step).lits before ∙ ap lits (get_or-take j steps i no_step lt))

  apart : (i j : ℕ) → i < j → j < length steps → clause_number vars (get_or steps i no_step).lits ≡ clause_number vars (get_or steps j no_step).lits → ⊥
  apart i j lt within same =
      let c : List Lit = (get_or steps i no_step).lits in
      let d : List Lit = (get_or steps j no_step).lits in
      All-contains (λ b. All (Contains d) b → ⊥) (known clauses (take j steps)) c (new j within no_step (some j no_step within)) (earlier i j lt within)
      (all_in vars c d same (names i no_step (omega arith)))

  pub steps_bounded : length steps ≤ subsets (2 * vars)
  unfolding clause_number
  steps_bounded =
      let f : Step → ℕ = λ s. clause_number vars s.lits in
      let count = length-map steps f in
      let numbers = length-le_from_distinct_below (map f steps) (subsets (2 * vars))
      (IsDistinct-from_apart eqb (map f steps) (λ i j e lt within.
      let there : j < length steps = omega arith in
      let here : i < length steps = omega arith in
      ne_eqb (get_or (map f steps) i e) (get_or (map f steps) j e)
      (λ same. apart i j lt there (sym (get_or-map f steps i no_step e here) ∙ same ∙ get_or-map f steps j no_step e there))))
      (λ q h. any_below f steps (subsets (2 * vars)) (λ s. set_number-below (map code s.lits) (2 * vars)) q h) in
      omega arith

-- less is left behind a decision and behind a step
pub left-decided : (vars steps before after : ℕ) → before < after → after ≤ vars → rounds_left vars steps after < rounds_left vars steps before
left-decided vars steps before after lt le = omega arith

times-less : (n k m : ℕ) → n ≡ k + 1 → times k m + m ≡ times n m
unfolding times
times-less zero k m e = absurd (omega arith)
times-less (suc n) k m e = let same : n ≡ k = omega arith in rw same refl

pub left-learned : (vars steps before after : ℕ) → steps + 1 ≤ subsets (2 * vars) → rounds_left vars (steps + 1) after < rounds_left vars steps before
left-learned vars steps before after le =
    let less : subsets (2 * vars) - steps ≡ subsets (2 * vars) - (steps + 1) + 1 = omega arith in
    let all = times-less (subsets (2 * vars) - steps) (subsets (2 * vars) - (steps + 1)) (vars + 1) less in
    omega arith
