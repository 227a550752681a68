-- Paths along any links: `next` says what follows an item.
use Rattle.std.proofs.Common.{◌≡◌, ◌≢◌, ℕ, zero, suc, ◌<◌, ◌≤◌, ◌⊎◌, inl, inr, true, List, [], ◌∷◌, ◌++◌, length, map, get_or, Option, Some, refl, sym, ◌∙◌, ap, subst, arith, eqb}
use Rattle.std.specs.Prelude.{Contains, slice_get}
use Rattle.std.specs.List.{list_any}
use Rattle.std.proofs.lemmas.Bool.{eqb-true, ne_eqb, or_cases, false≢true}
use Rattle.std.proofs.lemmas.List.{get_or-map, length-map}
use Rattle.std.proofs.lemmas.List.Elements.{Contains-append_left, Contains-append_right, Contains-push, Contains-append_cases, Contains-get_or}
use Rattle.std.proofs.lemmas.Map.Keys.{IsDistinct-from_apart}
use Rattle.std.proofs.lemmas.Map.Steps.{length-le_from_distinct_below}
use Rattle.watch_chains.specs.Chains.{walk, Path}

-- members of a list
module _ {X : Type 0} where
  pub Contains-nil : (y : X) → Contains [] y → ⊥
  Contains-nil y h = let p : h.0 < 0 = h.1 in absurd (omega arith)

  head_is : (x y : X) → Contains (x ∷ []) y → x ≡ y
  head_is x y h = let lt : h.0 < 1 = h.1 in let z : h.0 ≡ 0 = omega arith in rw z at h.2

  pub Contains-head : (x : X) (xs : List X) → Contains (x ∷ xs) x
  Contains-head x xs = Contains-append_left (x ∷ []) xs x (Contains-push [] x)

  pub Contains-tail : (x : X) (xs : List X) (y : X) → Contains xs y → Contains (x ∷ xs) y
  Contains-tail x xs y h = Contains-append_right (x ∷ []) xs y h

  pub Contains-cases : (x : X) (xs : List X) (y : X) → Contains (x ∷ xs) y → (x ≡ y) ⊎ Contains xs y
  Contains-cases x xs y h = elim (Contains-append_cases (x ∷ []) xs y h) [ inl p ↦ inl (head_is x y p) | inr q ↦ inr q ]

  -- the item behind b is a member, and so is what is left without it
  pub Contains-cut : (front : List X) (b l : X) (rest : List X) (y : X) → Contains (front ++ b ∷ rest) y → Contains (front ++ b ∷ l ∷ rest) y
  Contains-cut front b l rest y h = elim (Contains-append_cases front (b ∷ rest) y h) [
    | inl before ↦ Contains-append_left front (b ∷ l ∷ rest) y before
    | inr after ↦ Contains-append_right front (b ∷ l ∷ rest) y (elim (Contains-cases b rest y after) [
      | inl same ↦ subst (λ (z : X). Contains (b ∷ l ∷ rest) z) same (Contains-head b (l ∷ rest))
      | inr more ↦ Contains-tail b (l ∷ rest) y (Contains-tail l rest y more)
    ])
  ]

  pub Contains-middle : (front : List X) (x : X) (rest : List X) → Contains (front ++ x ∷ rest) x
  Contains-middle front x rest = Contains-append_right front (x ∷ rest) x (Contains-head x rest)

  -- a member stands somewhere
  pub splits : (xs : List X) (y : X) → Contains xs y → (front : List X) × (rest : List X) × (xs ≡ front ++ y ∷ rest)
  splits [] y h = absurd (Contains-nil y h)
  splits (x ∷ xs) y h = elim (Contains-cases x xs y h) [
    | inl same ↦ ([], xs, ap (λ (z : X). z ∷ xs) same)
    | inr more ↦ (let s = splits xs y more in (x ∷ s.0, s.1, ap (λ (zs : List X). x ∷ zs) s.2))
  ]

  -- a path reads what follows its own items alone
  pub Path-same : (next more : X → Option X) (at : Option X) (xs : List X) → ((x : X) → Contains xs x → more x ≡ next x) → Path next at xs → Path more at xs
  Path-same next more at [] same p = p
  Path-same next more at (x ∷ xs) same p = (
    p.0,
    p.1,
    subst (λ (to : Option X). Path more to xs) (sym (same x (Contains-head x xs)))
        (Path-same next more (next x) xs (λ y has. same y (Contains-tail x xs y has)) p.2),
  )

  -- one more item at the front
  pub Path-link : (next more : X → Option X) (at : Option X) (l : X) (xs : List X) → (Contains xs l → ⊥) → more l ≡ at → ((x : X) → Contains xs x → x ≢ l → more x ≡ next x) → Path next at xs
      → Path more (Some l) (l ∷ xs)
  Path-link next more at l xs absent here others p = (
    refl,
    absent,
    subst (λ (to : Option X). Path more to xs) (sym here)
        (Path-same next more at xs (λ x has. others x has (λ e. absent (subst (λ (z : X). Contains xs z) e has))) p),
  )

  -- the item behind b is taken out
  pub Path-cut : (next more : X → Option X) (at : Option X) (front : List X) (b l : X) (rest : List X) → more b ≡ next l
      → ((x : X) → Contains (front ++ b ∷ rest) x → x ≢ b → more x ≡ next x) → Path next at (front ++ b ∷ l ∷ rest) → Path more at (front ++ b ∷ rest)
  Path-cut next more at [] b l rest here others p =
      let absent : Contains rest b → ⊥ = (λ has. p.1 (Contains-tail l rest b has)) in (
        p.0,
        absent,
        subst (λ (to : Option X). Path more to rest) (sym here)
            (Path-same next more (next l) rest (λ x has. others x (Contains-tail b rest x has) (λ e. absent (subst (λ (z : X). Contains rest z) e has))) p.2.2),
      )
  Path-cut next more at (x ∷ front) b l rest here others p =
      let apart : x ≢ b = (λ e. p.1 (subst (λ (z : X). Contains (front ++ b ∷ l ∷ rest) z) (sym e) (Contains-middle front b (l ∷ rest)))) in (
        p.0,
        (λ has. p.1 (Contains-cut front b l rest x has)),
        subst (λ (to : Option X). Path more to (front ++ b ∷ rest)) (sym (others x (Contains-head x (front ++ b ∷ rest)) apart))
            (Path-cut next more (next x) front b l rest here (λ y has ne. others y (Contains-tail x (front ++ b ∷ rest) y has) ne) p.2),
      )

  -- what a path begins with, and what follows an item of it
  pub Path-first : (next : X → Option X) (at : Option X) (xs : List X) → Path next at xs → at ≡ slice_get xs 0
  Path-first next at [] p = p
  Path-first next at (x ∷ xs) p = p.0

  pub Path-next : (next : X → Option X) (at : Option X) (front : List X) (x : X) (rest : List X) → Path next at (front ++ x ∷ rest) → next x ≡ slice_get rest 0
  Path-next next at [] x rest p = Path-first next (next x) rest p.2
  Path-next next at (y ∷ front) x rest p = Path-next next (next y) front x rest p.2

  -- the item taken out is in what is left no more
  pub Path-taken : (next : X → Option X) (at : Option X) (front : List X) (b l : X) (rest : List X) → Path next at (front ++ b ∷ l ∷ rest) → Contains (front ++ b ∷ rest) l → ⊥
  Path-taken next at [] b l rest p has = elim (Contains-cases b rest l has) [
    | inl same ↦ p.1 (subst (λ (z : X). Contains (l ∷ rest) z) (sym same) (Contains-head l rest))
    | inr more ↦ p.2.1 more
  ]
  Path-taken next at (x ∷ front) b l rest p has = elim (Contains-cases x (front ++ b ∷ rest) l has) [
    | inl same ↦ p.1 (subst (λ (z : X). Contains (front ++ b ∷ l ∷ rest) z) (sym same) (Contains-append_right front (b ∷ l ∷ rest) l (Contains-tail b (l ∷ rest) l (Contains-head l rest))))
    | inr more ↦ Path-taken next (next x) front b l rest p.2 more
  ]

  -- no item of a path stands twice
  pub Path-once : (next : X → Option X) (at : Option X) (xs : List X) → Path next at xs → (i j : ℕ) (d : X) → i < j → j < length xs → get_or xs i d ≢ get_or xs j d
  Path-once next at [] p i j d lt within e = absurd (omega arith)
  Path-once next at (x ∷ xs) p i zero d lt within e = absurd (omega arith)
  Path-once next at (x ∷ xs) p zero (suc j) d lt within e = p.1 (subst (λ (z : X). Contains xs z) (sym e) (Contains-get_or xs j d (omega arith)))
  Path-once next at (x ∷ xs) p (suc i) (suc j) d lt within e = Path-once next (next x) xs p.2 i j d (omega arith) (omega arith) e

  heads_same : (x y : X) (xs ys : List X) → x ∷ xs ≡ y ∷ ys → x ≡ y
  heads_same x y xs ys e = cc

  tails_same : (x y : X) (xs ys : List X) → x ∷ xs ≡ y ∷ ys → xs ≡ ys
  tails_same x y xs ys e = cc

  -- a path splits at an item in one way
  pub Path-split : (next : X → Option X) (at : Option X) (front ahead : List X) (b : X) (rest behind : List X) → front ++ b ∷ rest ≡ ahead ++ b ∷ behind → Path next at (front ++ b ∷ rest)
      → (front ≡ ahead) × (rest ≡ behind)
  Path-split next at [] [] b rest behind e p = (refl, tails_same b b rest behind e)
  Path-split next at [] (y ∷ ahead) b rest behind e p =
      absurd (p.1 (subst (λ (xs : List X). Contains xs b) (sym (tails_same b y rest (ahead ++ b ∷ behind) e)) (Contains-middle ahead b behind)))
  Path-split next at (x ∷ front) [] b rest behind e p =
      absurd (p.1 (subst (λ (z : X). Contains (front ++ b ∷ rest) z) (sym (heads_same x b (front ++ b ∷ rest) behind e)) (Contains-middle front b rest)))
  Path-split next at (x ∷ front) (y ∷ ahead) b rest behind e p =
      let both = Path-split next (next x) front ahead b rest behind (tails_same x y (front ++ b ∷ rest) (ahead ++ b ∷ behind) e) p.2 in
      (ap (λ (xs : List X). x ∷ xs) both.0 ∙ ap (λ (z : X). z ∷ ahead) (heads_same x y (front ++ b ∷ rest) (ahead ++ b ∷ behind) e), both.1)

  any_is : (number : X → ℕ) (xs : List X) (q : ℕ) → list_any (eqb q) (map number xs) ≡ true → (x : X) × Contains xs x × (q ≡ number x)
  any_is number [] q h = absurd (false≢true h)
  any_is number (x ∷ xs) q h = elim (or_cases (eqb q (number x)) (list_any (eqb q) (map number xs)) h) [
    | inl e ↦ (x, Contains-head x xs, eqb-true q (number x) e)
    | inr t ↦ (let s = any_is number xs q t in (s.0, Contains-tail x xs s.0 s.1, s.2))
  ]

  -- a path is no longer than there are numbers for its items
  pub Path-length : (next : X → Option X) (at : Option X) (xs : List X) (number : X → ℕ) (size : ℕ) (d : X) → Path next at xs
      → ((x : X) → Contains xs x → number x < size) → ((x y : X) → Contains xs x → Contains xs y → number x ≡ number y → x ≡ y) → length xs ≤ size
  Path-length next at xs number size d p below injective =
      let count = length-map xs number in
      let numbers = length-le_from_distinct_below (map number xs) size
      (IsDistinct-from_apart eqb (map number xs) (λ i j e lt within.
      let there : j < length xs = omega arith in
      let here : i < length xs = omega arith in
      ne_eqb (get_or (map number xs) i e) (get_or (map number xs) j e) (λ same.
      Path-once next at xs p i j d lt there
      (injective (get_or xs i d) (get_or xs j d) (Contains-get_or xs i d here) (Contains-get_or xs j d there)
      (sym (get_or-map number xs i d e here) ∙ same ∙ get_or-map number xs j d e there)))))
      (λ q h. let s = any_is number xs q h in subst (λ (n : ℕ). n < size) (sym s.2) (below s.0 s.1)) in
      omega arith

  -- a walk along a path with fuel for its length gives its items
  pub walk-path : (next : X → Option X) (fuel : ℕ) (at : Option X) (xs : List X) → Path next at xs → length xs ≤ fuel → walk next fuel at ≡ xs
  walk-path next zero at [] p le = refl
  walk-path next zero at (x ∷ xs) p le = absurd (omega arith)
  walk-path next (suc fuel) at [] p le = ap (walk next (suc fuel)) p
  walk-path next (suc fuel) at (x ∷ xs) p le = ap (walk next (suc fuel)) p.0 ∙ ap (λ (rest : List X). x ∷ rest) (walk-path next fuel (next x) xs p.2 (omega arith))
