-- Names numbered by how many are bound before them: more names have new numbers, and a name's is found at its place.
use Rattle.std.proofs.Common.{◌≡◌, ℕ, zero, suc, ◌+◌, ◌-◌, ◌<◌, ◌≤◌, get_or, map, replicate, length-take, Bool, true, false, not, ◌&&◌, List, [], ◌∷◌, ◌++◌, length, take, refl, sym, ◌∙◌, ap, ap₂, subst, Option, Some, None, if◌then◌else◌, arith}
use Rattle.std.specs.Prelude.{nat_eq}
use Rattle.std.proofs.lemmas.List.{append-nil, append_assoc}
use Rattle.std.proofs.lemmas.Map.Text.{is_eq-slice_cmp}
use Rattle.std.proofs.lemmas.Slice.Eq.{bytes_eq-Decides}
use Rattle.tla_meaning.specs.Scopes.{find_last, or_else, same_text}
use Rattle.tla_meaning.proofs.Laws.{find-append}
use Rattle.kernel_trees.proofs.Steps.{same_text_same}
use Rattle.kernel_reduction.specs.Reduction.{fresh, are_fresh, numbered, all_fresh, upward}
use Rattle.kernel_reduction.specs.inner.Settings.{counted, counted_from}
use Rattle.kernel_reduction.proofs.Listing.{take_more}

pub counted_snoc : (n : ℕ) (xs : List (List ℕ)) (x : List ℕ) →
    counted_from n (xs ++ x ∷ []) ≡ counted_from n xs ++ (x, n + length xs) ∷ []
counted_snoc n [] x = let e : n ≡ n + 0 = omega arith in ap (λ m. (x, m) ∷ []) e
counted_snoc n (y ∷ xs) x =
    let e : suc n + length xs ≡ n + suc (length xs) = omega arith in
    ap (λ l. (y, n) ∷ l) (counted_snoc (suc n) xs x ∙ ap (λ m. counted_from (suc n) xs ++ (x, m) ∷ []) e)

pub long_counted : (n : ℕ) (xs : List (List ℕ)) → length (counted_from n xs) ≡ length xs
long_counted n [] = refl
long_counted n (x ∷ xs) = ap suc (long_counted (suc n) xs)

pub long_snoc : {X : Type 0} (xs : List X) (x : X) → length (xs ++ x ∷ []) ≡ suc (length xs)
long_snoc [] x = refl
long_snoc (y ∷ xs) x = ap suc (long_snoc xs x)

pub more_counted : (xs : List (List ℕ)) (x : List ℕ) → counted (xs ++ x ∷ []) ≡ counted xs ++ (x, length xs) ∷ []
more_counted xs x =
    let e : 0 + length xs ≡ length xs = omega arith in
    counted_snoc 0 xs x ∙ ap (λ m. counted xs ++ (x, m) ∷ []) e

-- more names, from the number of those that are there
pub numbered_up : (xs ys : List (List ℕ)) → numbered ys (upward (length xs) (length ys)) (counted xs) ≡ counted (xs ++ ys)
numbered_up xs [] = sym (ap counted (append-nil xs))
numbered_up xs (y ∷ ys) =
    ap₂ (λ n ρ. numbered ys (upward n (length ys)) ρ) (sym (long_snoc xs y)) (sym (more_counted xs y))
    ∙ numbered_up (xs ++ y ∷ []) ys
    ∙ ap counted (append_assoc xs (y ∷ []) ys)

unequal : (m n : ℕ) → suc m ≤ n → nat_eq m n ≡ false
unequal m n h = grind (arith)

fresh_above : (m : ℕ) (xs : List (List ℕ)) (n : ℕ) → m + length xs ≤ n → fresh n (counted_from m xs) ≡ true
fresh_above m [] n h = refl
fresh_above m (x ∷ xs) n h =
    let one : suc m ≤ n = omega (arith, h) in
    let all : suc m + length xs ≤ n = omega (arith, h) in
    ap₂ (λ a b. not a && b) (unequal m n one) (fresh_above (suc m) xs n all)

-- a number that is no less than how many names are bound is new
pub new_number : (xs : List (List ℕ)) (n : ℕ) → length xs ≤ n → fresh n (counted xs) ≡ true
new_number xs n h = let l : 0 + length xs ≤ n = omega (arith, h) in fresh_above 0 xs n l

pub all_new : (xs ys : List (List ℕ)) → all_fresh ys (upward (length xs) (length ys)) (counted xs) ≡ true
all_new xs [] = refl
all_new xs (y ∷ ys) =
    let le : length xs ≤ length xs = omega arith in
    ap₂ (λ a b. a && b) (new_number xs (length xs) le)
    (ap₂ (λ n ρ. all_fresh ys (upward n (length ys)) ρ) (sym (long_snoc xs y)) (sym (more_counted xs y))
    ∙ all_new (xs ++ y ∷ []) ys)

pub two_new : (xs : List (List ℕ)) (n : ℕ) → length xs ≡ n → are_fresh (n ∷ suc n ∷ []) (counted xs) ≡ true
two_new xs n h =
    let a : length xs ≤ n = omega (arith, h) in
    let b : length xs ≤ suc n = omega (arith, h) in
    ap₂ (λ x y. x && (y && true)) (new_number xs n a) (new_number xs (suc n) b)

pub three_new : (xs : List (List ℕ)) (n : ℕ) → length xs ≡ n →
    are_fresh (n ∷ suc n ∷ suc (suc n) ∷ []) (counted xs) ≡ true
three_new xs n h =
    let a : length xs ≤ n = omega (arith, h) in
    let b : length xs ≤ suc n = omega (arith, h) in
    let c : length xs ≤ suc (suc n) = omega (arith, h) in
    ap₂ (λ x y. x && y) (new_number xs n a) (ap₂ (λ x y. x && (y && true)) (new_number xs (suc n) b) (new_number xs (suc (suc n)) c))

pub next_apart : (n : ℕ) → nat_eq n (suc n) ≡ false
next_apart n = let h : suc n ≤ suc n = omega arith in unequal n (suc n) h

pub after_next_apart : (n : ℕ) → nat_eq n (suc (suc n)) ≡ false
after_next_apart n = let h : suc n ≤ suc (suc n) = omega arith in unequal n (suc (suc n)) h

-- ---- a name is looked for from the first on, and the last that is found counts

pub found_here : (x y : List ℕ) (xs : List (List ℕ)) (n : ℕ) → n ≡ length xs → same_text x y ≡ true →
    find_last x (counted (xs ++ y ∷ [])) ≡ Some n
found_here x y xs n e h =
    ap (find_last x) (more_counted xs y)
    ∙ find-append x (counted xs) ((y, length xs) ∷ [])
    ∙ ap (λ b. or_else (or_else None (if b then Some (length xs) else None)) (find_last x (counted xs))) h
    ∙ ap Some (sym e)

pub found_before : (x y : List ℕ) (xs : List (List ℕ)) (o : Option ℕ) → find_last x (counted xs) ≡ o →
    same_text x y ≡ false → find_last x (counted (xs ++ y ∷ [])) ≡ o
found_before x y xs o q h =
    ap (find_last x) (more_counted xs y)
    ∙ find-append x (counted xs) ((y, length xs) ∷ [])
    ∙ ap (λ b. or_else (or_else None (if b then Some (length xs) else None)) (find_last x (counted xs))) h
    ∙ q

-- ---- numbers that are made one after the other

pub one_upward : (n k : ℕ) → k ≡ 0 → upward n k ≡ []
one_upward n k h = ap (upward n) h

pub upward_more : (first count made : ℕ) (ns : List ℕ) → made + 1 ≤ count →
    ns ++ upward (first + made) (count - made) ≡ upward first count →
    (ns ++ (first + made) ∷ []) ++ upward (first + (made + 1)) (count - (made + 1)) ≡ upward first count
upward_more first count made ns l h =
    let a : first + (made + 1) ≡ suc (first + made) = omega arith in
    let b : count - made ≡ suc (count - (made + 1)) = omega (arith, l) in
    append_assoc ns ((first + made) ∷ []) (upward (first + (made + 1)) (count - (made + 1)))
    ∙ ap (λ z. ns ++ (first + made) ∷ upward z (count - (made + 1))) a
    ∙ ap (λ z. ns ++ upward (first + made) z) (sym b)
    ∙ h

long_map : {X : Type 0} (f : X → List ℕ) (xs : List X) → length (map f xs) ≡ length xs
long_map f [] = refl
long_map f (x ∷ xs) = ap suc (long_map f xs)

map_snoc : {X : Type 0} (f : X → List ℕ) (xs : List X) (x : X) → map f (xs ++ x ∷ []) ≡ map f xs ++ f x ∷ []
map_snoc f [] x = refl
map_snoc f (y ∷ xs) x = ap (λ zs. f y ∷ zs) (map_snoc f xs x)

module _ {X : Type 0} (f : X → List ℕ) (x : List ℕ) (xs : List X) (i : ℕ) (y : X) (lt : i < length xs)
    (at : y ≡ get_or xs i y) where
  one_name : find_last x (counted (map f (take (i + 1) xs))) ≡ find_last x (counted (map f (take i xs) ++ f y ∷ []))
  one_name = ap (λ z. find_last x (counted z)) (ap (map f) (take_more xs i y lt at) ∙ map_snoc f (take i xs) y)

  pub search_found : same_text x (f y) ≡ true → find_last x (counted (map f (take (i + 1) xs))) ≡ Some i
  search_found h =
      let l : length (take i xs) ≡ i = omega (arith, length-take i xs, lt) in
      one_name ∙ found_here x (f y) (map f (take i xs)) i (sym (long_map f (take i xs) ∙ l)) h

  pub search_missed : (o : Option ℕ) → find_last x (counted (map f (take i xs))) ≡ o → same_text x (f y) ≡ false →
      find_last x (counted (map f (take (i + 1) xs))) ≡ o
  search_missed o q h = one_name ∙ found_before x (f y) (map f (take i xs)) o q h

-- ---- a name as often as it has numbers

pub once_more : {X : Type 0} (n : ℕ) (x : X) → replicate n x ++ x ∷ [] ≡ replicate (n + 1) x
once_more n x = let s : n + 1 ≡ suc n = omega arith in by n ∙ ap (λ k. replicate k x) (sym s)
  where
    by : (n : ℕ) → replicate n x ++ x ∷ [] ≡ replicate (suc n) x
    by zero = refl
    by (suc n) = ap (λ zs. x ∷ zs) (by n)

-- ---- texts

pub text_hit : (x y : List ℕ) → x ≡ y → same_text x y ≡ true
text_hit x y e = subst (λ z. same_text x z ≡ true) e (same_text_same x)

pub text_miss : (x y : List ℕ) → (x ≡ y → ⊥) → same_text x y ≡ false
text_miss x y n = by (same_text x y) refl
  where
    by : (b : Bool) → same_text x y ≡ b → same_text x y ≡ false
    by true h = absurd (n ((bytes_eq-Decides x y).0 (sym (is_eq-slice_cmp x y) ∙ h)))
    by false h = h
