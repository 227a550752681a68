-- Names as a level begins with them, and what a level gives.
use Rattle.std.specs.Prelude.{ℕ, ◌≡◌, List, [], ◌++◌, map, Option, None, option_map}
use Rattle.kernel_shapes.specs.Codes.{mean}
use Rattle.kernel_shapes.specs.declared.bounds.Shape.{Shape as Code}
use Rattle.kernel_shapes.specs.Counts.{Count, first_rank}
use Rattle.kernel_shapes.specs.Levels.{Parts, at_state, constant_shapes, from_state, in_next, in_state, invariant_numbers, next_shapes, no_names, numbers_of, start_numbers, start_shapes, the_constants, typed_numbers}
use Rattle.kernel_shapes.specs.Shape.{Shape}
use Rattle.shape_bounds.specs.declared.levels.Level.{Level}
use Rattle.shape_bounds.specs.declared.limits.Excess.{Excess}
use Rattle.shape_bounds.specs.declared.names.Names.{Names}
use Rattle.shape_bounds.specs.Excesses.{rank_of}
use Rattle.shape_bounds.specs.inner.Walks.{some_shapes}
use Rattle.shape_bounds.specs.Kept.{capped}
use Rattle.shape_bounds.specs.Sizes.{Reads}

-- names of a width that have these shapes in a state and in the next one; no number has one, and nothing was found
pub record IsNamed (s : Names) (w : ℕ) (now next : List (Option Shape)) : Type 0 where
  pub width : s.width ≡ w
  pub state : some_shapes s.state.items ≡ now
  pub after : some_shapes s.next.items ≡ next
  pub bound : s.bound.items ≡ []
  pub first : s.first ≡ None

-- the first of these numbers
abbrev pub IsFirst : Option Excess → List Count → Type 0
IsFirst o cs = option_map rank_of o ≡ first_rank cs

-- a level of these shapes, and the numbers on the ways to it
pub record IsOf (r : Level) (as' : List Shape) (cs : List Count) : Type 0 where
  pub shapes : map capped as' ≡ map mean r.shapes
  pub finds : IsFirst r.first cs

-- the level of the constants, behind CInit
abbrev pub ConstantsAre : Parts → Level → Type 0
ConstantsAre p r = IsOf r (constant_shapes p) (numbers_of in_state p.constants (no_names p))

-- names before Init, where the assumption was looked at behind CInit
pub record IsBefore (p : Parts) (w : ℕ) (c : Level) (s : Names) : Type 0 where
  pub width : s.width ≡ w
  pub bound : s.bound.items ≡ []
  pub reads : ConstantsAre p c → Reads s (the_constants p)
  pub first : ConstantsAre p c → IsFirst s.first (typed_numbers p)

abbrev pub StartsAt : Parts → Level → Type 0
StartsAt p r = IsOf r (start_shapes p) (start_numbers p)

-- the level behind one of these shapes
abbrev pub StepsTo : Parts → List Code → Level → Type 0
StepsTo p ss r = (as' : List Shape) → map capped as' ≡ map mean ss → IsOf r (next_shapes p as') (numbers_of in_next p.next (from_state p.fixed as'))

-- what comes first of a level's numbers, with those of its invariants
abbrev pub IsFirstAt : Parts → Level → Option Excess → Type 0
IsFirstAt p r o = (as' : List Shape) (cs : List Count) → IsOf r as' cs → IsFirst o (cs ++ invariant_numbers p.invariants (at_state as'))
