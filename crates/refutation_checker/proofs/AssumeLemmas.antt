use Rattle.std.proofs.Common.{◌≡◌, ℕ, suc, ◌+◌, ◌<◌, inl, inr, Bool, true, false, not, List, [], ◌∷◌, ◌++◌, length, take, map, get_or, refl, sym, ◌∙◌, ap, arith}
use Rattle.std.specs.Prelude.{Contains}
use Rattle.std.proofs.lemmas.List.{take_more, map-append}
use Rattle.std.proofs.lemmas.List.Elements.{Contains-push_cases, Contains-get_or}
use Rattle.sat_formula.specs.declared.lit.Lit.{Lit}
use Rattle.refutation_checker.specs.Follows.{negation, HasNoOpposites}
use Rattle.refutation_checker.proofs.TrailLemmas.{Contains-nil, Contains-cons_cases, not_not}
use Rattle.refutation_checker.proofs.StatusLemmas.{Contains-take}

pub negation-negation : (m : Lit) → negation (negation m) ≡ m
negation-negation m = ap (λ (b : Bool). record { var = m.var; neg = b }) (not_not m.neg)

there : (x : Lit) (xs : List Lit) (y : Lit) → Contains xs y → Contains (x ∷ xs) y
there x xs y h = let lt : h.0 < length xs = h.1 in (suc h.0, (omega arith), h.2)

here : (x : Lit) (xs : List Lit) → Contains (x ∷ xs) x
here x xs = (0, (omega arith), refl)

pub Contains-negations : (p : List Lit) (m : Lit) → Contains p m → Contains (map negation p) (negation m)
Contains-negations [] m h = absurd (Contains-nil m h)
Contains-negations (x ∷ xs) m h = elim (Contains-cons_cases x xs m h) [
  | inl e ↦ rw (← e) (here (negation x) (map negation xs))
  | inr q ↦ there (negation x) (map negation xs) (negation m) (Contains-negations xs m q)
]

pub Contains-negations_back : (p : List Lit) (l : Lit) → Contains (map negation p) l → Contains p (negation l)
Contains-negations_back [] l h = absurd (Contains-nil l h)
Contains-negations_back (x ∷ xs) l h = elim (Contains-cons_cases (negation x) (map negation xs) l h) [
  | inl e ↦ rw (← e) (rw (negation-negation x) (here x xs))
  | inr q ↦ there x xs (negation l) (Contains-negations_back xs l q)
]

not_own : (b : Bool) → b ≡ not b → ⊥
not_own true e = cc
not_own false e = cc

pub HasNoOpposites-more : (p : List Lit) (l : Lit) → HasNoOpposites p → (Contains (map negation p) l → ⊥) → HasNoOpposites (p ++ l ∷ [])
HasNoOpposites-more p l h free = λ m a b.
    elim (Contains-push_cases p l m a) [
      | inl a' ↦ elim (Contains-push_cases p l (negation m) b) [
        | inl b' ↦ h m a' b'
        | inr e ↦ free (rw e (Contains-negations p m a'))
      ]
      | inr e ↦ elim (Contains-push_cases p l (negation m) b) [
        | inl b' ↦ free (rw (e ∙ sym (negation-negation m)) (Contains-negations p (negation m) b'))
        | inr e' ↦ not_own m.neg (ap (λ (x : Lit). x.neg) (sym e ∙ e'))
      ]
    ]

pub opposite_found : (lits : List Lit) (i : ℕ) (d : Lit) → i < length lits → Contains (map negation (take i lits)) (get_or lits i d) → HasNoOpposites lits → ⊥
opposite_found lits i d lt h alone =
    alone (get_or lits i d) (Contains-get_or lits i d lt) (Contains-take lits i (negation (get_or lits i d)) (Contains-negations_back (take i lits) (get_or lits i d) h))

pub assumed_more : (lits trail : List Lit) (i : ℕ) (d : Lit) → i < length lits → trail ≡ map negation (take i lits)
    → trail ++ negation (get_or lits i d) ∷ [] ≡ map negation (take (i + 1) lits)
assumed_more lits trail i d lt e = rw (e, take_more lits i d lt, map-append negation (take i lits) (get_or lits i d ∷ []))

pub HasNoOpposites-step : (lits trail : List Lit) (i : ℕ) (d : Lit) → i < length lits → trail ≡ map negation (take i lits) → HasNoOpposites (take i lits)
    → (Contains trail (get_or lits i d) → ⊥) → HasNoOpposites (take (i + 1) lits)
HasNoOpposites-step lits trail i d lt e h free = rw (take_more lits i d lt) (HasNoOpposites-more (take i lits) (get_or lits i d) h (rw e at free))
