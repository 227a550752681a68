-- What the constants have of a list, and nothing of the others, as lists of pairs.
use Rattle.std.proofs.Common.{◌≡◌, Bool, true, false, List, [], ◌∷◌, map, refl, ap}
use Rattle.std.specs.Prelude.{None, Some, Option, zip, if◌then◌else◌}
use Rattle.kernel_shapes.specs.declared.bounds.Shape.{Shape as Code}
use Rattle.kernel_shapes.specs.declared.bounds.Shape.TheVariants as code
use Rattle.step_branches.specs.Ways.{of_constants, shapes_of_constants}

abbrev pub one_if : {X : Type 0} → Bool × X → Option X
one_if p = if p.0 then Some p.1 else None

abbrev pub shape_of_pair : Bool × Code → Code
shape_of_pair p = if p.0 then p.1 else code.Empty

pub constants_zip : {X : Type 0} (bs : List Bool) (xs : List X) → map one_if (zip bs xs) ≡ of_constants bs xs
constants_zip [] xs = refl
constants_zip (b ∷ bs) [] = refl
constants_zip (true ∷ bs) (x ∷ xs) = ap (λ (ys : List (Option _)). Some x ∷ ys) (constants_zip bs xs)
constants_zip (false ∷ bs) (x ∷ xs) = ap (λ (ys : List (Option _)). None ∷ ys) (constants_zip bs xs)

pub shapes_zip : (bs : List Bool) (xs : List Code) → map shape_of_pair (zip bs xs) ≡ shapes_of_constants bs xs
shapes_zip [] xs = refl
shapes_zip (b ∷ bs) [] = refl
shapes_zip (true ∷ bs) (x ∷ xs) = ap (λ (ys : List Code). x ∷ ys) (shapes_zip bs xs)
shapes_zip (false ∷ bs) (x ∷ xs) = ap (λ (ys : List Code). code.Empty ∷ ys) (shapes_zip bs xs)
