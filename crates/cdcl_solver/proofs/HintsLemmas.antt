use Rattle.std.proofs.Common.{◌≡◌, ℕ, ◌+◌, ◌-◌, ◌<◌, ◌⊎◌, inl, inr, List, [], ◌∷◌, ◌++◌, Some, None, length, subst, arith, append_assoc}
use Rattle.std.specs.Prelude.{Contains}
use Rattle.std.proofs.lemmas.List.{append-nil}
use Rattle.std.proofs.lemmas.List.Elements.{All-weaker, Contains-append_left, Contains-append_right, Contains-push, Contains-push_cases, Contains-append_cases}
use Rattle.sat_formula.specs.declared.lit.Lit.{Lit}
use Rattle.refutation_checker.specs.Follows.{negation}
use Rattle.refutation_checker.specs.Follows.{IsFalse, IsUnit, Propagates}
use Rattle.refutation_checker.proofs.HintLemmas.{Propagates-unit}
use Rattle.watched_search.specs.declared.entry.Entry.{Entry}
use Rattle.watched_search.specs.Trail.{lits_of, IsFree}
use Rattle.watched_search.specs.Searching.{IsFalseAt}
use Rattle.cdcl_solver.specs.inner.Chain.{Why, Chain, decided, decisions, reason_of, reasons}
use Rattle.cdcl_solver.proofs.ChainLemmas.{Chain-later, decisions-within}

-- the two lists have the same members
pub record Same (T S : List Lit) : Type 0 where
  pub sub : (l : Lit) → Contains T l → Contains S l
  pub sup : (l : Lit) → Contains S l → Contains T l

IsFalse-more : (B T c : List Lit) → ((l : Lit) → Contains B l → Contains T l) → IsFalse B c → IsFalse T c
IsFalse-more B T c more f = All-weaker (λ l. Contains B (negation l)) (λ l. Contains T (negation l)) (λ l t. more (negation l) t) c f

IsUnit-more : (B T c : List Lit) (u : Lit) → ((l : Lit) → Contains B l → Contains T l) → IsFree T u → IsUnit B c u → IsUnit T c u
IsUnit-more B T c u more free h = record {
  member = h.member;
  not_true = free.0;
  not_false = free.1;
  others = All-weaker (λ l. (l ≡ u) ⊎ Contains B (negation l)) (λ l. (l ≡ u) ⊎ Contains T (negation l))
      (λ l o. elim o [ inl e ↦ inl e | inr f ↦ inr (more (negation l) f) ]) c h.others;
}

not_empty : (xs : List ℕ) (h : ℕ) → xs ++ h ∷ [] ≡ [] → ⊥
not_empty [] h e = cc
not_empty (x ∷ xs) h e = cc

-- the trail's reasons in order, and a false clause behind them, are the hints of a step from the negated decisions
pub Chain-propagates : (known : List (List Lit)) (h : ℕ) (B : List Lit) (es : List Entry) → Chain known B es → (T : List Lit) → Same T (B ++ decisions es)
    → IsFalseAt known (B ++ lits_of es) h → Propagates known T (reasons es ++ (h + 1) ∷ [])
Chain-propagates known h B [] c T same f =
    let lt : h < length known = f.0 in
    let back : h + 1 - 1 ≡ h = omega arith in
    (omega arith, (omega arith, rw back (IsFalse-more B T _ (λ l t. same.sup l (rw (append-nil B) t)) (rw (append-nil B) at f.1))))
Chain-propagates known h B (e ∷ es) c T same f =
    let after : IsFalseAt known ((B ++ e.lit ∷ []) ++ lits_of es) h = rw append_assoc f in
    let later = Chain-later known B e.lit es c.1 in
    elim e.reason as (λ r. Why known B e.lit r → Same T (B ++ (decided e.lit r ++ decisions es)) → Propagates known T ((reason_of r ++ reasons es) ++ (h + 1) ∷ [])) [
      | None ↦ λ why s. Chain-propagates known h (B ++ e.lit ∷ []) es c.1 T (rw append_assoc s) after
      | Some k ↦ λ why s.
          let free : IsFree T e.lit = (
            λ t. elim (Contains-append_cases B (decisions es) e.lit (s.sub e.lit t)) [
              | inl b ↦ c.0.free.0 b
              | inr d ↦ later.0 (decisions-within es e.lit d)
            ],
            λ t. elim (Contains-append_cases B (decisions es) (negation e.lit) (s.sub (negation e.lit) t)) [
              | inl b ↦ c.0.free.1 b
              | inr d ↦ later.1 (decisions-within es (negation e.lit) d)
            ],
          ) in
          let unit = IsUnit-more B T _ e.lit (λ l b. s.sup l (Contains-append_left B (decisions es) l b)) free why.1 in
          let wider : Same (T ++ e.lit ∷ []) ((B ++ e.lit ∷ []) ++ decisions es) = record {
            sub = λ l t. elim (Contains-push_cases T e.lit l t) [
              | inl old ↦ elim (Contains-append_cases B (decisions es) l (s.sub l old)) [
                | inl b ↦ Contains-append_left (B ++ e.lit ∷ []) (decisions es) l (Contains-append_left B (e.lit ∷ []) l b)
                | inr d ↦ Contains-append_right (B ++ e.lit ∷ []) (decisions es) l d
              ]
              | inr here ↦ subst (λ (m : Lit). Contains ((B ++ e.lit ∷ []) ++ decisions es) m) here (Contains-append_left (B ++ e.lit ∷ []) (decisions es) e.lit (Contains-push B e.lit))
            ];
            sup = λ l t. elim (Contains-append_cases (B ++ e.lit ∷ []) (decisions es) l t) [
              | inl b ↦ elim (Contains-push_cases B e.lit l b) [
                | inl old ↦ Contains-append_left T (e.lit ∷ []) l (s.sup l (Contains-append_left B (decisions es) l old))
                | inr here ↦ subst (λ (m : Lit). Contains (T ++ e.lit ∷ []) m) here (Contains-push T e.lit)
              ]
              | inr d ↦ Contains-append_left T (e.lit ∷ []) l (s.sup l (Contains-append_right B (decisions es) l d))
            ];
          } in
          let lt : k < length known = why.0 in
          let back : k + 1 - 1 ≡ k = omega arith in
          (Propagates-unit known T (k + 1) e.lit (reasons es ++ (h + 1) ∷ []) (omega arith) (omega arith) (rw back unit) (not_empty (reasons es) (h + 1))).1
          (Chain-propagates known h (B ++ e.lit ∷ []) es c.1 (T ++ e.lit ∷ []) wider after)
    ] c.0.why same
