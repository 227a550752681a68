-- Truth values and lists.
use Rattle.std.proofs.Common.{◌≡◌, ℕ, zero, suc, Bool, true, false, ◌||◌, List, [], ◌∷◌, ◌++◌, map, take, drop, true≢false, refl, sym, ◌∙◌, ap}
use Rattle.std.specs.List.{list_any}

pub or_none : (a : Bool) → (a || false) ≡ a
or_none true = refl
or_none false = refl

pub or_assoc : (a b c : Bool) → ((a || b) || c) ≡ (a || (b || c))
or_assoc true b c = refl
or_assoc false b c = refl

pub or_left : (a b : Bool) → (a || b) ≡ false → a ≡ false
or_left true b h = absurd (true≢false h)
or_left false b h = refl

pub or_right : (a b : Bool) → (a || b) ≡ false → b ≡ false
or_right true b h = absurd (true≢false h)
or_right false b h = h

pub any_append : (bs cs : List Bool) → list_any (λ b. b) (bs ++ cs) ≡ (list_any (λ b. b) bs || list_any (λ b. b) cs)
any_append [] cs = refl
any_append (b ∷ bs) cs = ap (λ c. b || c) (any_append bs cs) ∙ sym (or_assoc b (list_any (λ b. b) bs) (list_any (λ b. b) cs))

pub append_none : {X : Type 0} (xs : List X) → xs ++ [] ≡ xs
append_none [] = refl
append_none (x ∷ xs) = ap (λ l. x ∷ l) (append_none xs)

pub map_append : {X Y : Type 0} (f : X → Y) (xs ys : List X) → map f (xs ++ ys) ≡ map f xs ++ map f ys
map_append f [] ys = refl
map_append f (x ∷ xs) ys = ap (λ zs. f x ∷ zs) (map_append f xs ys)

pub map_map : {X Y Z : Type 0} (f : Y → Z) (g : X → Y) (xs : List X) → map f (map g xs) ≡ map (λ x. f (g x)) xs
map_map f g [] = refl
map_map f g (x ∷ xs) = ap (λ zs. f (g x) ∷ zs) (map_map f g xs)

-- a list in two parts
pub in_parts : {X : Type 0} (n : ℕ) (xs : List X) → take n xs ++ drop n xs ≡ xs
in_parts zero xs = refl
in_parts (suc n) [] = refl
in_parts (suc n) (x ∷ xs) = ap (λ l. x ∷ l) (in_parts n xs)
