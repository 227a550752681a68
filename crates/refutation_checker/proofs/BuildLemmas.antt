use Rattle.std.proofs.Common.{ℕ, ◌-◌, ◌<◌, ◌≤◌, List, [], ◌∷◌, ◌++◌, length, map, get_or, append_assoc}
use Rattle.std.proofs.lemmas.List.{append-nil}
use Rattle.sat_formula.specs.declared.lit.Lit.{Lit}
use Rattle.refutation_checker.specs.Follows.{IsFalse, IsUnit, Propagates}

-- each literal is forced in turn by the clause with the number beside it
abbrev pub Forced : List (List Lit) → List Lit → List (Lit × ℕ) → Type 0
Forced known T [] = Unit {0}
Forced known T (r ∷ rs) = (0 < r.1) × ((r.1 ≤ length known) × (IsUnit T (get_or known (r.1 - 1) []) r.0 × Forced known (T ++ r.0 ∷ []) rs))

-- a solver's trail of forced literals with their reasons, and a clause that is false at its end, are the hints of a step
pub Propagates-build : (known : List (List Lit)) (T : List Lit) (rs : List (Lit × ℕ)) (h : ℕ) → Forced known T rs → 0 < h → h ≤ length known
    → IsFalse (T ++ map (λ r. r.0) rs) (get_or known (h - 1) []) → Propagates known T (map (λ r. r.1) rs ++ h ∷ [])
Propagates-build known T [] h f a b c = (a, (b, rw (append-nil T) at c))
Propagates-build known T (r ∷ []) h f a b c =
    (f.0, (f.1.0, (r.0, (f.1.1.0, (a, (b, c))))))
Propagates-build known T (r ∷ s ∷ rs) h f a b c =
    (f.0, (f.1.0, (r.0, (f.1.1.0, Propagates-build known (T ++ r.0 ∷ []) (s ∷ rs) h f.1.1.1 a b (rw append_assoc c)))))

pub Forced-push : (known : List (List Lit)) (T : List Lit) (rs : List (Lit × ℕ)) (u : Lit) (h : ℕ) → Forced known T rs → 0 < h → h ≤ length known
    → IsUnit (T ++ map (λ r. r.0) rs) (get_or known (h - 1) []) u → Forced known T (rs ++ (u, h) ∷ [])
Forced-push known T [] u h f a b c = (a, (b, (rw (append-nil T) at c, tt)))
Forced-push known T (r ∷ rs) u h f a b c = (f.0, (f.1.0, (f.1.1.0, Forced-push known (T ++ r.0 ∷ []) rs u h f.1.1.1 a b (rw append_assoc c))))
