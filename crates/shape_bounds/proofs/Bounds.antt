-- The last of a number among bound names, and the shape of a declared name.
use Rattle.std.proofs.Common.{◌≡◌, ℕ, zero, suc, ◌<◌, ◌≤◌, Bool, true, false, List, [], ◌∷◌, map, take, length, get_or, Option, Some, None, slice_get, refl, sym, ◌∙◌, ap, subst, arith, if◌then◌else◌}
use Rattle.tla_meaning.specs.Scopes.{find_last, or_else, same_text}
use Rattle.kernel_trees.specs.Trees.{number_name}
use Rattle.kernel_trees.proofs.Steps.{same_text_same}
use Rattle.kernel_shapes.specs.declared.bounds.Shape.{Shape as Code}
use Rattle.kernel_shapes.specs.Codes.{mean}
use Rattle.kernel_shapes.specs.Shape.{Shape, Empty}
use Rattle.kernel_shapes.specs.Sized.{found}
use Rattle.kernel_shapes.proofs.JoinRight.{text_is}
use Rattle.shape_bounds.specs.Sizes.{bound_name, read_at}
use Rattle.shape_bounds.proofs.Places.{not_same}

abbrev first_of_name : ℕ → List ℕ → ℕ
first_of_name d [] = d
first_of_name d (n ∷ ns) = n

same_numbers : (m n : ℕ) → number_name m ≡ number_name n → m ≡ n
same_numbers m n e = ap (first_of_name 0) e

apart : (m n : ℕ) → (m ≡ n → ⊥) → same_text (number_name m) (number_name n) ≡ false
apart m n h = not_same (same_text (number_name m) (number_name n)) (λ t. h (same_numbers m n (text_is (number_name m) (number_name n) t)))

alike_names : (m n : ℕ) → m ≡ n → same_text (number_name m) (number_name n) ≡ true
alike_names m n e = subst (λ k. same_text (number_name m) (number_name k) ≡ true) e (same_text_same (number_name m))

pub bound_hit : (n : ℕ) (bs : List (ℕ × Code)) (i : ℕ) (b : ℕ × Code) → i < length bs → b ≡ get_or bs i b → n ≡ b.0 →
    find_last (number_name n) (map bound_name (take (suc i) bs)) ≡ Some (mean b.1)
bound_hit n [] i b h e s = absurd (omega (arith, h))
bound_hit n (y ∷ ys) zero b h e s =
    ap (λ (t : Bool). if t then Some (mean y.1) else None) (alike_names n y.0 (s ∙ ap (λ (z : ℕ × Code). z.0) e))
    ∙ ap (λ (z : ℕ × Code). Some (mean z.1)) (sym e)
bound_hit n (y ∷ ys) (suc i) b h e s =
    ap (λ (o : Option Shape). or_else o (if same_text (number_name n) (number_name y.0) then Some (mean y.1) else None)) (bound_hit n ys i b (omega (arith, h)) e s)

pub bound_miss : (n : ℕ) (bs : List (ℕ × Code)) (i : ℕ) (b : ℕ × Code) → i < length bs → b ≡ get_or bs i b → (n ≡ b.0 → ⊥) →
    find_last (number_name n) (map bound_name (take (suc i) bs)) ≡ find_last (number_name n) (map bound_name (take i bs))
bound_miss n [] i b h e s = absurd (omega (arith, h))
bound_miss n (y ∷ ys) zero b h e s =
    ap (λ (t : Bool). if t then Some (mean y.1) else None) (apart n y.0 (λ q. s (q ∙ ap (λ (z : ℕ × Code). z.0) (sym e))))
bound_miss n (y ∷ ys) (suc i) b h e s =
    ap (λ (o : Option Shape). or_else o (if same_text (number_name n) (number_name y.0) then Some (mean y.1) else None)) (bound_miss n ys i b (omega (arith, h)) e s)

pub past_end : (cs : List (Option Code)) (i : ℕ) → length cs ≤ i → Empty ≡ found (read_at (slice_get cs i))
past_end [] i h = refl
past_end (c ∷ cs) zero h = absurd (omega (arith, h))
past_end (c ∷ cs) (suc i) h = past_end cs i (omega (arith, h))

pub found_at : (cs : List (Option Code)) (i : ℕ) (o : Option Code) (a : Code) → i < length cs → o ≡ get_or cs i o → o ≡ Some a → mean a ≡ found (read_at (slice_get cs i))
found_at [] i o a h e s = absurd (omega (arith, h))
found_at (c ∷ cs) zero o a h e s = sym (ap (λ (x : Option Code). found (read_at (Some x))) (sym e ∙ s))
found_at (c ∷ cs) (suc i) o a h e s = found_at cs i o a (omega (arith, h)) e s

pub nothing_at : (cs : List (Option Code)) (i : ℕ) (o : Option Code) → i < length cs → o ≡ get_or cs i o → o ≡ None → Empty ≡ found (read_at (slice_get cs i))
nothing_at [] i o h e s = absurd (omega (arith, h))
nothing_at (c ∷ cs) zero o h e s = sym (ap (λ (x : Option Code). found (read_at (Some x))) (sym e ∙ s))
nothing_at (c ∷ cs) (suc i) o h e s = nothing_at cs i o (omega (arith, h)) e s
