-- A list after one of its items was taken out, and the last moved into its place.
use Rattle.std.proofs.Common.{◌≡◌, ℕ, ◌+◌, ◌-◌, ◌<◌, ◌⊎◌, inl, inr, List, length, map, set, take, get_or, All, refl, sym, ◌∙◌, ap, subst, arith, length-set}
use Rattle.std.specs.Prelude.{Contains, AllPairs}
use Rattle.std.specs.List.{swap_remove}
use Rattle.std.proofs.lemmas.Bool.{cases_eq, cases_lt}
use Rattle.std.proofs.lemmas.List.{get_or-set_same, get_or-set_other, get_or-take, get_or-map, get_or_default, length-map, length-take-le, take-take, take-set-le, take-map, map-set}
use Rattle.std.proofs.lemmas.List.Elements.{All-set, All-take}

module _ {X : Type 0} (xs : List X) (i : ℕ) (x : X) (lt : i < length xs) where
  pub swapped-length : length (swap_remove xs i x) + 1 ≡ length xs
  swapped-length =
      let long = length-set xs i (get_or xs (length xs - 1) x) in
      let cut = length-take-le (length xs - 1) (set xs i (get_or xs (length xs - 1) x)) (omega arith) in
      omega arith

  pub swapped-front : take i (swap_remove xs i x) ≡ take i xs
  swapped-front = take-take i (length xs - 1) (set xs i (get_or xs (length xs - 1) x)) (omega arith) ∙ take-set-le i xs i (get_or xs (length xs - 1) x) (omega arith)

  swapped-at : (j : ℕ) (d : X) → j + 1 < length xs → (j ≡ i → ⊥) → get_or (swap_remove xs i x) j d ≡ get_or xs j d
  swapped-at j d within apart =
      get_or-take (length xs - 1) (set xs i (get_or xs (length xs - 1) x)) j d (omega arith) ∙ get_or-set_other xs i j (get_or xs (length xs - 1) x) d apart

  swapped-here : (j : ℕ) (d : X) → j + 1 < length xs → j ≡ i → get_or (swap_remove xs i x) j d ≡ get_or xs (length xs - 1) d
  swapped-here j d within here =
      let last = get_or xs (length xs - 1) x in
      get_or-take (length xs - 1) (set xs i last) j d (omega arith) ∙ ap (λ (n : ℕ). get_or (set xs i last) n d) here ∙ get_or-set_same xs i last d lt
      ∙ get_or_default xs (length xs - 1) x d (omega arith)

  pub in-swapped : (m : X) → Contains (swap_remove xs i x) m → Contains xs m
  in-swapped m has =
      let j = has.0 in
      let within = has.1 in
      let size = swapped-length in
      elim (cases_eq j i) [
        | inl here ↦ (length xs - 1, omega arith, sym (swapped-here j m (omega arith) here) ∙ has.2)
        | inr apart ↦ (j, omega arith, sym (swapped-at j m (omega arith) apart) ∙ has.2)
      ]

  pub swapped-in : x ≡ get_or xs i x → (m : X) → Contains xs m → (m ≡ x) ⊎ Contains (swap_remove xs i x) m
  swapped-in is m has =
      let j = has.0 in
      let within = has.1 in
      let size = swapped-length in
      elim (cases_eq j i) [
        | inl here ↦ inl (sym (ap (λ (n : ℕ). get_or xs n m) (sym here) ∙ has.2) ∙ get_or_default xs i m x lt ∙ sym is)
        | inr apart ↦ elim (cases_lt (j + 1) (length xs)) [
          | inl before ↦ inr (j, omega arith, swapped-at j m before apart ∙ has.2)
          | inr last ↦
              (let at : length xs - 1 ≡ j = omega arith in
              inr (i, omega arith, swapped-here i m (omega arith) refl ∙ ap (λ (n : ℕ). get_or xs n m) at ∙ has.2))
        ]
      ]

  pub All-swapped : (P : X → Type 0) → All P xs → All P (swap_remove xs i x)
  All-swapped P h = All-take P (length xs - 1) (set xs i (get_or xs (length xs - 1) x)) (All-set P xs i (get_or xs (length xs - 1) x) (h (length xs - 1) x (omega arith)) h)

  pub AllPairs-swapped : (R : X → X → Type 0) → ((a b : X) → R a b → R b a) → AllPairs R xs → AllPairs R (swap_remove xs i x)
  AllPairs-swapped R turn h = λ j k d jk kl.
      let size = swapped-length in
      elim (cases_eq j i) [
        | inl here ↦
            (let apart : k ≡ i → ⊥ = λ e. omega arith in
            rw (swapped-here j d (omega arith) here, swapped-at k d (omega arith) apart) (turn (get_or xs k d) (get_or xs (length xs - 1) d) (h k (length xs - 1) d (omega arith) (omega arith))))
        | inr other ↦ elim (cases_eq k i) [
          | inl here ↦ rw (swapped-at j d (omega arith) other, swapped-here k d (omega arith) here) (h j (length xs - 1) d (omega arith) (omega arith))
          | inr apart ↦ rw (swapped-at j d (omega arith) other, swapped-at k d (omega arith) apart) (h j k d jk (omega arith))
        ]
      ]

  -- what was taken out stands in a relation with all others
  pub swapped-apart : (R : X → X → Type 0) → ((a b : X) → R a b → R b a) → AllPairs R xs → x ≡ get_or xs i x → All (λ m. R m x) (swap_remove xs i x)
  swapped-apart R turn h is = λ j d within.
      let size = swapped-length in
      let it : get_or xs i d ≡ x = get_or_default xs i d x lt ∙ sym is in
      subst (λ (y : X). R (get_or (swap_remove xs i x) j d) y) it (elim (cases_eq j i) [
        | inl here ↦ rw (swapped-here j d (omega arith) here) (turn (get_or xs i d) (get_or xs (length xs - 1) d) (h i (length xs - 1) d (omega arith) (omega arith)))
        | inr apart ↦ rw (swapped-at j d (omega arith) apart) (elim (cases_lt j i) [
          | inl before ↦ h j i d before lt
          | inr ge ↦ turn (get_or xs i d) (get_or xs j d) (h i j d (omega arith) (omega arith))
        ])
      ])

  pub map-swapped : {Y : Type 0} (f : X → Y) → map f (swap_remove xs i x) ≡ swap_remove (map f xs) i (f x)
  map-swapped {Y = Y} f =
      let last = length xs - 1 in
      let size : length (map f xs) ≡ length xs = length-map xs f in
      let end : get_or (map f xs) last (f x) ≡ f (get_or xs last x) = get_or-map f xs last x (f x) (omega arith) in
      sym (take-map f last (set xs i (get_or xs last x)))
      ∙ ap (λ (ys : List Y). take last ys) (map-set f xs i (get_or xs last x) ∙ ap (λ (y : Y). set (map f xs) i y) (sym end))
      ∙ ap (λ (n : ℕ). take (n - 1) (set (map f xs) i (get_or (map f xs) (n - 1) (f x)))) (sym size)
