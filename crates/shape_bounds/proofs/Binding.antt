-- Further numbers are bound one by one.
use Rattle.std.proofs.Common.{◌≡◌, ◌≤◌, ◌<◌, ℕ, zero, suc, ◌+◌, List, [], ◌∷◌, ◌++◌, map, take, length, get_or, refl, sym, ◌∙◌, ap, subst, arith}
use Rattle.kernel_trees.specs.Trees.{names_of, number_name}
use Rattle.kernel_shapes.specs.declared.bounds.Shape.{Shape as Code}
use Rattle.kernel_shapes.specs.Codes.{mean}
use Rattle.kernel_shapes.specs.Shape.{Shape}
use Rattle.kernel_shapes.specs.Sized.{bound_shapes}
use Rattle.shape_bounds.specs.declared.names.Names.{Names}
use Rattle.shape_bounds.specs.Sizes.{IsBound, bound_name}

none_bound : (xs : List (List ℕ × Shape)) → xs ++ [] ≡ xs
none_bound [] = refl
none_bound (x ∷ xs) = ap (λ (ys : List (List ℕ × Shape)). x ∷ ys) (none_bound xs)

whole_front : (bs : List (ℕ × Code)) → take (length bs) bs ≡ bs
whole_front [] = refl
whole_front (b ∷ bs) = ap (λ (cs : List (ℕ × Code)). b ∷ cs) (whole_front bs)

pub bound_none : (s : Names) → IsBound s s [] []
bound_none s = record { width = refl; state = refl; next = refl; first = refl; bound = sym (none_bound (map bound_name s.bound.items)); front = whole_front s.bound.items }

named_more : (bs : List (ℕ × Code)) (b : ℕ × Code) → map bound_name (bs ++ b ∷ []) ≡ map bound_name bs ++ bound_name b ∷ []
named_more [] b = refl
named_more (c ∷ bs) b = ap (λ (xs : List (List ℕ × Shape)). bound_name c ∷ xs) (named_more bs b)

grouped : (xs ys zs : List (List ℕ × Shape)) → (xs ++ ys) ++ zs ≡ xs ++ (ys ++ zs)
grouped [] ys zs = refl
grouped (x ∷ xs) ys zs = ap (λ (us : List (List ℕ × Shape)). x ∷ us) (grouped xs ys zs)

last_bound : (xs : List ℕ) (ss : List Code) (n : ℕ) (a s : Code) → n < length xs → length xs ≡ length ss → a ≡ get_or ss n a → s ≡ a →
    bound_shapes (names_of (take n xs)) (map mean (take n ss)) ++ bound_name (get_or xs n 0, s) ∷ [] ≡ bound_shapes (names_of (take (suc n) xs)) (map mean (take (suc n) ss))
last_bound [] ss n a s h l e f = absurd (omega (arith, h))
last_bound (x ∷ xs) [] n a s h l e f = absurd (cc)
last_bound (x ∷ xs) (b ∷ ss) zero a s h l e f = ap (λ (c : Code). (number_name x, mean c) ∷ []) (f ∙ e)
last_bound (x ∷ xs) (b ∷ ss) (suc n) a s h l e f = ap (λ (us : List (List ℕ × Shape)). (number_name x, mean b) ∷ us) (last_bound xs ss n a s (omega (arith, h)) (omega (arith, l)) e f)

front_more : (ns : ℕ) (bs : List (ℕ × Code)) (b : ℕ × Code) (cs : List (ℕ × Code)) → take ns bs ≡ cs → length cs ≡ ns → take ns (bs ++ b ∷ []) ≡ cs
front_more zero bs b cs e l = e
front_more (suc n) [] b cs e l = absurd (let g : length cs ≡ 0 = sym (ap length e) in omega (arith, g, l))
front_more (suc n) (d ∷ bs) b cs e l =
    let g : length (take n bs) ≡ n = let k : suc (length (take n bs)) ≡ length cs = ap length e in omega (arith, k, l) in
    ap (λ (us : List (ℕ × Code)). d ∷ us) (front_more n bs b (take n bs) refl g) ∙ e

pub bound_more : (old mid new : Names) (xs : List ℕ) (ss : List Code) (n : ℕ) (a s : Code) → IsBound old mid (take n xs) (map mean (take n ss)) →
    n < length xs → length xs ≡ length ss → a ≡ get_or ss n a → s ≡ a → new.width ≡ mid.width → new.state ≡ mid.state → new.next ≡ mid.next → new.first ≡ mid.first →
    new.bound.items ≡ mid.bound.items ++ (get_or xs n 0, s) ∷ [] → IsBound old new (take (n + 1) xs) (map mean (take (n + 1) ss))
bound_more old mid new xs ss n a s h l m e f ew es en ef eb = record {
  width = ew ∙ h.width;
  state = es ∙ h.state;
  next = en ∙ h.next;
  first = ef ∙ h.first;
  bound =
      let one : suc n ≡ n + 1 = omega arith in
      ap (map bound_name) eb ∙ named_more mid.bound.items (get_or xs n 0, s)
      ∙ ap (λ (us : List (List ℕ × Shape)). us ++ bound_name (get_or xs n 0, s) ∷ []) h.bound
      ∙ grouped (map bound_name old.bound.items) (bound_shapes (names_of (take n xs)) (map mean (take n ss))) (bound_name (get_or xs n 0, s) ∷ [])
      ∙ ap (λ (us : List (List ℕ × Shape)). map bound_name old.bound.items ++ us) (last_bound xs ss n a s l m e f)
      ∙ ap (λ (k : ℕ). map bound_name old.bound.items ++ bound_shapes (names_of (take k xs)) (map mean (take k ss))) one;
  front = ap (take (length old.bound.items)) eb ∙ front_more (length old.bound.items) mid.bound.items (get_or xs n 0, s) old.bound.items h.front refl;
}

all_numbers : (xs : List ℕ) (n : ℕ) → length xs ≤ n → take n xs ≡ xs
all_numbers [] zero h = refl
all_numbers [] (suc n) h = refl
all_numbers (x ∷ xs) zero h = absurd (omega (arith, h))
all_numbers (x ∷ xs) (suc n) h = ap (λ (ys : List ℕ). x ∷ ys) (all_numbers xs n (omega (arith, h)))

all_codes : (xs : List Code) (n : ℕ) → length xs ≤ n → take n xs ≡ xs
all_codes [] zero h = refl
all_codes [] (suc n) h = refl
all_codes (x ∷ xs) zero h = absurd (omega (arith, h))
all_codes (x ∷ xs) (suc n) h = ap (λ (ys : List Code). x ∷ ys) (all_codes xs n (omega (arith, h)))

pub bound_whole : (old new : Names) (xs : List ℕ) (ss : List Code) (n : ℕ) → IsBound old new (take n xs) (map mean (take n ss)) → length xs ≤ n → length ss ≤ n → IsBound old new xs (map mean ss)
bound_whole old new xs ss n h l m =
    subst (λ (us : List Code). IsBound old new xs (map mean us)) (all_codes ss n m) (subst (λ (ys : List ℕ). IsBound old new ys (map mean (take n ss))) (all_numbers xs n l) h)
