-- Shapes of the levels of a system, and what a fault tells of them. Source: Konnov, Kukovec and Tran, "TLA+ Model
-- Checking Made Symbolic", OOPSLA 2019, on the static bounds of cells and arenas.
use Rattle.std.specs.Prelude.{ℕ, zero, suc, ◌≡◌, true, false, List, [], ◌∷◌, map, Option, Some, None, Result, Ok, Err, ⊤}
use Rattle.kernel_shapes.specs.Codes.{mean}
use Rattle.kernel_shapes.specs.declared.bounds.Shapes.{Shapes}
use Rattle.kernel_shapes.specs.Counts.{Count}
use Rattle.kernel_shapes.specs.Levels.{Parts, first_refusal, shapes_at}
use Rattle.kernel_shapes.specs.Shape.{Shape}
use Rattle.shape_bounds.specs.declared.shape_fault.ShapeFault.{ShapeFault}
use Rattle.shape_bounds.specs.declared.shape_fault.ShapeFault.TheVariants as fault
use Rattle.shape_bounds.specs.Kept.{capped}

-- those of so many levels from n on
abbrev pub levels_from : Parts → List Shape → ℕ → ℕ → List (List Shape)
levels_from p first n zero = []
levels_from p first n (suc m) = shapes_at p first n ∷ levels_from p first (suc n) m

-- the level, and the number that is past its limit
abbrev pub told : ShapeFault → Option (ℕ × Count)
told (fault.TooLarge n p m) = Some (n, record { place = p; of_sequence = false; number = m })
told (fault.TooLong n p m) = Some (n, record { place = p; of_sequence = true; number = m })
told (fault.Memory e) = None

-- of levels 0 to n from these first shapes: no number is past its limit, and these are the shapes, with their numbers of
-- members kept; or the first refusal is told
abbrev pub IsAnswer : Parts → List Count → List Shape → ℕ → Result Shapes ShapeFault → Type 0
IsAnswer p start first n (Ok r) =
    (first_refusal p start first 0 (suc n) ≡ None) × (map (map mean) r.levels ≡ map (map capped) (levels_from p first 0 (suc n)))
IsAnswer p start first n (Err (fault.Memory e)) = ⊤
IsAnswer p start first n (Err f) = first_refusal p start first 0 (suc n) ≡ told f
