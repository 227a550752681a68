use Rattle.std.proofs.Common.{◌≡◌, ℕ, ◌+◌, ◌-◌, ◌<◌, ◌≤◌, ◌↔◌, ◌⊎◌, inl, inr, false, List, [], ◌∷◌, ◌++◌, length, drop, IsTrue, get_or, refl, arith, eqb, eq-eqb}
use Rattle.std.proofs.lemmas.Bool.{eqb-true, cases_eq, false≢true}
use Rattle.std.specs.Prelude.{Contains}
use Rattle.std.proofs.lemmas.List.{drop_more, drop_all}
use Rattle.std.proofs.lemmas.List.Elements.{All-contains}
use Rattle.sat_formula.specs.declared.lit.Lit.{Lit}
use Rattle.refutation_checker.specs.Follows.{negation, IsFalse, IsUnit, Propagates}

pub IsUnit-not_false : (T c : List Lit) (u : Lit) → IsUnit T c u → IsFalse T c → ⊥
IsUnit-not_false T c u h f = h.not_false (All-contains (λ l. Contains T (negation l)) c u f h.member)

pub IsUnit-unique : (T c : List Lit) (u w : Lit) → IsUnit T c u → IsUnit T c w → u ≡ w
IsUnit-unique T c u w h g = elim (All-contains (λ l. (l ≡ w) ⊎ Contains T (negation l)) c u g.others h.member) [ inl e ↦ e | inr f ↦ absurd (h.not_false f) ]

module _ (known : List (List Lit)) (T : List Lit) (h : ℕ) where
  pub Propagates-bad : (hs : List ℕ) → (0 < h → h ≤ length known → ⊥) → Propagates known T (h ∷ hs) → ⊥
  Propagates-bad [] bad p = bad p.0 p.1.0
  Propagates-bad (k ∷ hs) bad p = bad p.0 p.1.0

  pub Propagates-other : (hs : List ℕ) → (IsFalse T (get_or known (h - 1) []) → ⊥) → ((u : Lit) → IsUnit T (get_or known (h - 1) []) u → ⊥) → Propagates known T (h ∷ hs) → ⊥
  Propagates-other [] f g p = f p.1.1
  Propagates-other (k ∷ hs) f g p = g p.1.1.0 p.1.1.1.0

  pub Propagates-false : (hs : List ℕ) → 0 < h → h ≤ length known → IsFalse T (get_or known (h - 1) []) → Propagates known T (h ∷ hs) ↔ (hs ≡ [])
  Propagates-false [] a b f = (λ p. refl, λ e. (a, (b, f)))
  Propagates-false (k ∷ hs) a b f = (λ p. absurd (IsUnit-not_false T _ _ p.1.1.1.0 f), λ e. cc)

  pub Propagates-unit_last : (u : Lit) → IsUnit T (get_or known (h - 1) []) u → Propagates known T (h ∷ []) → ⊥
  Propagates-unit_last u f p = IsUnit-not_false T _ u f p.1.1

  pub Propagates-unit : (u : Lit) (hs : List ℕ) → 0 < h → h ≤ length known → IsUnit T (get_or known (h - 1) []) u → (hs ≡ [] → ⊥)
      → Propagates known T (h ∷ hs) ↔ Propagates known (T ++ u ∷ []) hs
  Propagates-unit u [] a b f some = absurd (some refl)
  Propagates-unit u (k ∷ hs) a b f some =
      (λ p. rw (IsUnit-unique T _ u p.1.1.0 f p.1.1.1.0) p.1.1.1.1, λ p. (a, (b, (u, (f, p)))))

-- the hint at i and what is left behind it
pub split_at : (hints : List ℕ) (i : ℕ) → i < length hints → drop i hints ≡ get_or hints i 0 ∷ drop (i + 1) hints
split_at hints i lt = drop_more hints i 0 lt

pub left_none : (hints : List ℕ) (i : ℕ) → i + 1 ≡ length hints → drop (i + 1) hints ≡ []
left_none hints i e = drop_all (i + 1) hints (omega arith)

pub left_some : (hints : List ℕ) (i : ℕ) → i < length hints → (i + 1 ≡ length hints → ⊥) → drop (i + 1) hints ≡ [] → ⊥
left_some hints i lt ne e =
    let more : i + 1 < length hints = omega arith in
    let s : drop (i + 1) hints ≡ get_or hints (i + 1) 0 ∷ drop (i + 1 + 1) hints = drop_more hints (i + 1) 0 more in
    cc

-- one step of the loop over the hints, where P is what the loop decides
module _ (P : Type 0) (known : List (List Lit)) (T : List Lit) (hints : List ℕ) (i : ℕ) (clause : List Lit) (lt : i < length hints)
    (left : P ↔ Propagates known T (drop i hints)) (same : clause ≡ get_or known (get_or hints i 0 - 1) []) where
  here_is : P ↔ Propagates known T (get_or hints i 0 ∷ drop (i + 1) hints)
  here_is = rw (split_at hints i lt) at left

  pub at_false : 0 < get_or hints i 0 → get_or hints i 0 ≤ length known → IsFalse T clause → IsTrue (eqb (i + 1) (length hints)) ↔ P
  at_false a b f =
      let after = Propagates-false known T (get_or hints i 0) (drop (i + 1) hints) a b (rw same at f) in (
        λ e. here_is.1 (after.1 (left_none hints i (eqb-true _ _ e))),
        λ p. elim (cases_eq (i + 1) (length hints)) [
          | inl e ↦ eq-eqb _ _ e
          | inr ne ↦ absurd (left_some hints i lt ne (after.0 (here_is.0 p)))
        ],
      )

  pub at_last : (u : Lit) → IsUnit T clause u → i + 1 ≡ length hints → IsTrue false ↔ P
  at_last u f e =
      (λ w. absurd (false≢true w), λ p. absurd (Propagates-unit_last known T (get_or hints i 0) u (rw same at f) (rw (left_none hints i e) at (here_is.0 p))))

  pub at_other : (IsFalse T clause → ⊥) → ((u : Lit) → IsUnit T clause u → ⊥) → IsTrue false ↔ P
  at_other f g =
      (λ w. absurd (false≢true w), λ p. absurd (Propagates-other known T (get_or hints i 0) (drop (i + 1) hints) (rw same at f) (rw same at g) (here_is.0 p)))

  pub at_unit : (u : Lit) → 0 < get_or hints i 0 → get_or hints i 0 ≤ length known → IsUnit T clause u → (i + 1 ≡ length hints → ⊥)
      → P ↔ Propagates known (T ++ u ∷ []) (drop (i + 1) hints)
  at_unit u a b f ne =
      let after = Propagates-unit known T (get_or hints i 0) u (drop (i + 1) hints) a b (rw same at f) (left_some hints i lt ne) in
      (λ p. after.0 (here_is.0 p), λ q. here_is.1 (after.1 q))
