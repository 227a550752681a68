-- Items of a list, each under a function.
use Rattle.std.proofs.Common.{◌≡◌, ℕ, ◌+◌, ◌<◌, ◌≤◌, List, [], ◌∷◌, ◌++◌, drop, length, map, ap, sym, ◌∙◌, subst, arith, take}
use Rattle.std.specs.Prelude.{get_or}
use Rattle.std.proofs.lemmas.List.{drop_more, get_or-map, length-map, map-append, take-append-drop, take_all, take_more}

module _ {X Y : Type 0} (f : X → Y) (xs : List X) (i : ℕ) (x : X) (lt : i < length xs) (is : x ≡ get_or xs i x) where
  here : get_or (map f xs) i (f x) ≡ f x
  here = get_or-map f xs i x (f x) lt ∙ ap f (sym is)

  long : i < length (map f xs)
  long = let e : length (map f xs) ≡ length xs = length-map xs f in omega (arith, e, lt)

  pub next_taken : take (i + 1) (map f xs) ≡ take i (map f xs) ++ f x ∷ []
  next_taken = take_more (map f xs) i (f x) long ∙ ap (λ z. take i (map f xs) ++ z ∷ []) here

  pub next_left : drop i (map f xs) ≡ f x ∷ drop (i + 1) (map f xs)
  next_left = drop_more (map f xs) i (f x) long ∙ ap (λ z. z ∷ drop (i + 1) (map f xs)) here

  pub set_apart : map f xs ≡ take i (map f xs) ++ f x ∷ drop (i + 1) (map f xs)
  set_apart = sym (take-append-drop i (map f xs)) ∙ ap (λ z. take i (map f xs) ++ z) next_left

-- the same of a list that is lent
module _ {X Y : Type 0} (f : X → Y) (xs ys : List X) (i : ℕ) (x : X) (lent : ys ≡ xs) (lt : i < length ys) (is : x ≡ get_or ys i x) where
  pub apart_of : map f xs ≡ take i (map f xs) ++ f x ∷ drop (i + 1) (map f xs)
  apart_of = let P : List X → Type 0 = λ z. map f z ≡ take i (map f z) ++ f x ∷ drop (i + 1) (map f z) in subst P lent (set_apart f ys i x lt is)

  pub taken_of : take (i + 1) (map f xs) ≡ take i (map f xs) ++ f x ∷ []
  taken_of = let P : List X → Type 0 = λ z. take (i + 1) (map f z) ≡ take i (map f z) ++ f x ∷ [] in subst P lent (next_taken f ys i x lt is)

pub all_taken : {X Y : Type 0} (f : X → Y) (xs ys : List X) (i : ℕ) → ys ≡ xs → length ys ≤ i → take i (map f xs) ≡ map f xs
all_taken f xs ys i lent le =
    let e : length (map f xs) ≡ length xs = length-map xs f in
    let l : length ys ≡ length xs = ap length lent in
    take_all i (map f xs) (omega (arith, e, l, le))

-- one item more of a list whose items mean those of another, under g
pub mapped_on : {X Y : Type 0} (f : X → Y) (g : Y → Y) (xs : List X) (i : ℕ) (x : X) (ys zs : List X) (y : X) → i < length xs → x ≡ get_or xs i x
    → zs ≡ ys ++ y ∷ [] → map f ys ≡ map g (map f (take i xs)) → f y ≡ g (f x) → map f zs ≡ map g (map f (take (i + 1) xs))
mapped_on f g xs i x ys zs y lt is more h e =
    ap (map f) more ∙ map-append f ys (y ∷ []) ∙ (λ k. h k ++ e k ∷ [])
    ∙ sym (map-append g (map f (take i xs)) (f x ∷ []))
    ∙ ap (map g) (sym (map-append f (take i xs) (x ∷ [])) ∙ ap (map f) (ap (λ z. take i xs ++ z ∷ []) is ∙ sym (take_more xs i x lt)))
