-- Items of tuples and fields of records by their places.
use Rattle.std.proofs.Common.{◌≡◌, ℕ, zero, suc, ◌-◌, ◌<◌, ◌≤◌, Bool, true, false, List, [], ◌∷◌, map, drop, length, get_or, ℤ, pos, negsuc, ◌<ℤ◌, ◌≤ℤ◌, nat_abs, refl, sym, ◌∙◌, ap, subst, arith, IsTrue, if◌then◌else◌}
use Rattle.std.proofs.lemmas.Int.{ints}
use Rattle.tla_meaning.specs.Scopes.{same_text}
use Rattle.shape_bounds.specs.Kept.{kept}
use Rattle.kernel_trees.proofs.Steps.{same_text_same}
use Rattle.kernel_shapes.proofs.JoinRight.{text_is}
use Rattle.kernel_shapes.specs.declared.bounds.Shape.{Shape as Code}
use Rattle.kernel_shapes.specs.Codes.{mean}
use Rattle.kernel_shapes.specs.Rows.{number, applied_at}
use Rattle.kernel_shapes.specs.Shape.{Shape, Tup, Rec, Empty, count, Shapes, no_shapes, more_shapes, shapes, item, field}

item_zero : (as' : Shapes) → item 0 as' ≡ Empty
item_zero no_shapes = refl
item_zero (more_shapes a as') = refl

pub item_low : (as' : Shapes) (n : ℤ) → n <ℤ pos 1 → Empty ≡ applied_at (Tup as') (number n)
item_low as' (pos zero) h = sym (item_zero as')
item_low as' (pos (suc n)) h = absurd (omega (arith, ints, h))
item_low as' (negsuc n) h = refl

item_past : (xs : List Code) (n : ℕ) → length xs < n → item n (shapes (map mean xs)) ≡ Empty
item_past [] n h = refl
item_past (x ∷ xs) zero h = refl
item_past (x ∷ xs) (suc zero) h = absurd (omega (arith, h))
item_past (x ∷ xs) (suc (suc n)) h = item_past xs (suc n) (omega (arith, h))

pub item_high : (xs : List Code) (n : ℤ) → pos (length xs) <ℤ n → Empty ≡ applied_at (Tup (shapes (map mean xs))) (number n)
item_high xs (pos n) h = sym (item_past xs n (omega (arith, ints, h)))
item_high xs (negsuc n) h = refl

item_there : (xs : List Code) (k : ℕ) (x : Code) → k < length xs → mean (get_or xs k x) ≡ item (suc k) (shapes (map mean xs))
item_there [] k x h = absurd (omega (arith, h))
item_there (y ∷ ys) zero x h = refl
item_there (y ∷ ys) (suc k) x h = item_there ys k x (omega (arith, h))

pub item_taken : (xs : List Code) (n : ℤ) (m : ℕ) (x : Code) → m ≡ nat_abs n → pos 1 ≤ℤ n → n ≤ℤ pos (length xs) → x ≡ get_or xs (m - 1) x →
    mean x ≡ applied_at (Tup (shapes (map mean xs))) (number n)
item_taken xs (pos zero) m x q low high e = absurd (omega (arith, ints, low))
item_taken xs (pos (suc k)) m x q low high e =
    let less : m - 1 ≡ k = omega (arith, q) in
    ap mean (e ∙ ap (λ i. get_or xs i x) less) ∙ item_there xs k x (omega (arith, ints, high))
item_taken xs (negsuc k) m x q low high e = absurd (omega (arith, ints, low))

-- ---- fields

same_head : (x : List ℕ) (g : List ℕ × Code) (a : Shape) → x ≡ g.0 → mean g.1 ≡ (if same_text x g.0 then mean g.1 else a)
same_head x g a e = ap (λ (b : Bool). if b then mean g.1 else a) (sym (subst (λ (y : List ℕ). same_text x y ≡ true) e (same_text_same x)))

pub field_here : (x : List ℕ) (fs : List (List ℕ × Code)) (i : ℕ) (f : List ℕ × Code) → i < length fs → f ≡ get_or fs i f → x ≡ f.0 →
    mean f.1 ≡ field x (map (λ (g : List ℕ × Code). g.0) (drop i fs)) (shapes (map (λ (g : List ℕ × Code). mean g.1) (drop i fs)))
field_here x [] i f h e s = absurd (omega (arith, h))
field_here x (g ∷ fs) zero f h e s =
    ap (λ (y : List ℕ × Code). mean y.1) e ∙ same_head x g _ (s ∙ ap (λ (y : List ℕ × Code). y.0) e)
field_here x (g ∷ fs) (suc i) f h e s = field_here x fs i f (omega (arith, h)) e s

pub not_same : (b : Bool) → (IsTrue b → ⊥) → b ≡ false
not_same true h = absurd (h refl)
not_same false h = refl

pub field_more : (x : List ℕ) (fs : List (List ℕ × Code)) (i : ℕ) (f : List ℕ × Code) → i < length fs → f ≡ get_or fs i f → (x ≡ f.0 → ⊥) →
    field x (map (λ (g : List ℕ × Code). g.0) (drop i fs)) (shapes (map (λ (g : List ℕ × Code). mean g.1) (drop i fs)))
    ≡ field x (map (λ (g : List ℕ × Code). g.0) (drop (suc i) fs)) (shapes (map (λ (g : List ℕ × Code). mean g.1) (drop (suc i) fs)))
field_more x [] i f h e s = absurd (omega (arith, h))
field_more x (g ∷ fs) zero f h e s =
    let other : same_text x g.0 ≡ false = not_same (same_text x g.0) (λ t. s (text_is x g.0 t ∙ sym (ap (λ (y : List ℕ × Code). y.0) e))) in
    ap (λ (b : Bool). if b then mean g.1 else field x (map (λ (y : List ℕ × Code). y.0) fs) (shapes (map (λ (y : List ℕ × Code). mean y.1) fs))) other
field_more x (g ∷ fs) (suc i) f h e s = field_more x fs i f (omega (arith, h)) e s

pub field_none : (x : List ℕ) (fs : List (List ℕ × Code)) (i : ℕ) → length fs ≤ i →
    Empty ≡ field x (map (λ (g : List ℕ × Code). g.0) (drop i fs)) (shapes (map (λ (g : List ℕ × Code). mean g.1) (drop i fs)))
field_none x [] zero h = refl
field_none x [] (suc i) h = refl
field_none x (g ∷ fs) zero h = absurd (omega (arith, h))
field_none x (g ∷ fs) (suc i) h = field_none x fs i (omega (arith, h))

-- ---- how many there are

length_items : (xs : List Code) → count (Tup (shapes (map mean xs))) ≡ length xs
length_items [] = refl
length_items (x ∷ xs) = let h = length_items xs in omega (arith, h)

length_names : (fs : List (List ℕ × Code)) → length (map (λ (f : List ℕ × Code). f.0) fs) ≡ length fs
length_names [] = refl
length_names (f ∷ fs) = let h = length_names fs in omega (arith, h)

pub counted_items : (a : Code) (xs : List Code) (n : ℕ) → mean a ≡ Tup (shapes (map mean xs)) → n ≡ length xs → n < 18446744073709551616 → n ≡ kept (count (mean a))
counted_items a xs n e h l =
    let s = length_items xs in
    let p : n ≡ kept (count (Tup (shapes (map mean xs)))) = omega (arith, h, s, l) in p ∙ ap (λ x. kept (count x)) (sym e)

pub counted_fields : (a : Code) (fs : List (List ℕ × Code)) (as' : Shapes) (n : ℕ) → mean a ≡ Rec (map (λ (f : List ℕ × Code). f.0) fs) as' → n ≡ length fs → n < 18446744073709551616 → n ≡ kept (count (mean a))
counted_fields a fs as' n e h l =
    let s = length_names fs in
    let p : n ≡ kept (count (Rec (map (λ (f : List ℕ × Code). f.0) fs) as')) = omega (arith, h, s, l) in p ∙ ap (λ x. kept (count x)) (sym e)
