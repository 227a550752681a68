-- Levels one behind another.
use Rattle.std.specs.Prelude.{ℕ, ◌+◌, ◌≡◌, ◌≤◌, List, map, Option, Some, option_map, Result, Ok, Err}
use Rattle.kernel_shapes.specs.Codes.{mean}
use Rattle.kernel_shapes.specs.declared.bounds.Shape.{Shape as Code}
use Rattle.kernel_shapes.specs.Counts.{Count, refused_at}
use Rattle.kernel_shapes.specs.Levels.{Parts, first_refusal, shapes_at, step_numbers_at}
use Rattle.kernel_shapes.specs.Shape.{Shape}
use Rattle.shape_bounds.specs.declared.levels.Level.{Level}
use Rattle.shape_bounds.specs.declared.limits.Excess.{Excess}
use Rattle.shape_bounds.specs.declared.shape_fault.ShapeFault.{ShapeFault}
use Rattle.shape_bounds.specs.declared.stages.Climb.{Climb}
use Rattle.shape_bounds.specs.Excesses.{rank_of}
use Rattle.shape_bounds.specs.inner.Stage.{IsOf}
use Rattle.shape_bounds.specs.Kept.{capped}
use Rattle.shape_bounds.specs.Stages.{IsAnswer, levels_from}

-- what is told of a level's excess
abbrev pub told_at : ℕ → Option Excess → Option (Option (ℕ × Count))
told_at n o = option_map (λ (e : Excess). Some (n, refused_at (rank_of e))) o

-- levels below n are made and none of them is refused; this is level n
pub record IsAt (p : Parts) (cs : List Count) (as' : List Shape) (n : ℕ) (rss : List (List Code)) (r : Level) : Type 0 where
  pub levels : map (map mean) rss ≡ map (map capped) (levels_from p as' 0 n)
  pub now : IsOf r (shapes_at p as' n) (step_numbers_at p cs as' n)
  pub before : (m : ℕ) → first_refusal p cs as' 0 (n + m) ≡ first_refusal p cs as' n m

-- all levels up to n are of these shapes, and have these numbers on the ways to them
abbrev pub IsStill : Parts → List Count → List Shape → ℕ → ℕ → Level → Type 0
IsStill p cs as' n k r = (m : ℕ) → n + m ≤ k → IsOf r (shapes_at p as' (n + m)) (step_numbers_at p cs as' (n + m))

-- the levels before one that is the last or behind which nothing changes; none of them is refused
pub record IsReached (p : Parts) (cs : List Count) (as' : List Shape) (k : ℕ) (c : Climb) : Type 0 where
  pub at : IsAt p cs as' c.number c.before.items c.last
  pub within : c.number ≤ k
  pub still : IsStill p cs as' c.number k c.last

abbrev pub IsClimb : Parts → List Count → List Shape → ℕ → Result Climb ShapeFault → Type 0
IsClimb p cs as' k (Ok c) = IsReached p cs as' k c
IsClimb p cs as' k (Err f) = IsAnswer p cs as' k (Err f)
