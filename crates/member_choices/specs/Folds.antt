-- A step of a fold over the places of a sequence, of which the first ones count (the Apalache manual, on
-- ApaFoldSeqLeft; Specifying Systems, section 18.1, for sequences).
use Rattle.std.specs.Prelude.{◌≡◌, ℕ, ◌<◌, ◌≤◌, Bool, true, List, length, map, slice_get, if◌then◌else◌}
use Rattle.sat_formula.specs.declared.lit.Lit.{Lit}
use Rattle.sat_formula.specs.Formula.{Satisfies}
use Rattle.sat_formula.specs.Lit.{lit_value}
use Rattle.tla_values.specs.declared.value.Value.{Value}
use Rattle.tla_meaning.specs.declared.outcome.Outcome.{Outcome}
use Rattle.tla_meaning.specs.declared.outcome.Outcome.TheVariants.{Val}
use Rattle.tla_meaning.specs.Outcomes.{with_value}
use Rattle.tla_meaning.specs.Shapes.{sequence}
use Rattle.cell_arena.specs.declared.build.Build.{Build}
use Rattle.cell_arena.specs.declared.kinds.CellId.{CellId}
use Rattle.cell_arena.specs.declared.kinds.CellKind.{CellKind}
use Rattle.cell_arena.specs.Cells.{kind_at}
use Rattle.cell_arena.specs.Decode.{decode}
use Rattle.cell_merge.specs.Arrows.{pairs_of}
use Rattle.cell_merge.specs.Composites.{parts_of}
use Rattle.cell_merge.specs.Partial.{Yields}
use Rattle.cell_merge.specs.Sorts.{Sort, OfSort, sequence_of}
use Rattle.outcome_cells.specs.declared.cells.Cells.{Cells}
use Rattle.outcome_cells.specs.Shows.{AreCells, Shows}

-- the items of a sequence: what it gives at its numbers, in their order
abbrev pub items_in : Value → List Value
items_in v = map (λ q. q.1) (pairs_of v)

-- a sequence of some sort
pub record IsSequenceIn (ks : List CellKind) (s : CellId) : Type 0 where
  pub sort : Sort
  pub is : OfSort ks (sequence_of sort) s

-- a sequence with a place of this number, from 0
pub record HasPlaceIn (ks : List CellKind) (s : CellId) (i : ℕ) : Type 0 where
  pub sort : Sort
  pub is : OfSort ks (sequence_of sort) s
  pub within : i < length (parts_of (kind_at ks s))

-- the cell is the sequence of its items, and no item stands behind so many places
pub record HoldsItems (b : Build) (s : CellId) (n : ℕ) : Type 0 where
  pub places : n ≡ length (parts_of (kind_at b.arena.kinds s))
  pub items : (a : List Bool) → Satisfies a b.formula → decode b.arena a s ≡ sequence (items_in (decode b.arena a s))
  pub within : (a : List Bool) → Satisfies a b.formula → length (items_in (decode b.arena a s)) ≤ n

-- the cell is the item at the place, from 0, and the literal says that there is none; it has each sort of the items
pub record IsItemAt (old new : Build) (s : CellId) (i : ℕ) (r : CellId × Lit) : Type 0 where
  pub yields : Yields new r (λ a. slice_get (items_in (decode old.arena a s)) i)
  pub sort : (t : Sort) → OfSort old.arena.kinds (sequence_of t) s → OfSort new.arena.kinds t r.0

-- under each satisfying assignment, where the place is there the value so far goes on to what the step gives of it, and
-- else it stays; what the step's cells show is asked where it is evaluated alone. They have each sort that both have.
pub record IsStep (old new : Build) (there : Lit) (so_far step r : Cells) : Type 0 where
  pub cells : (s : Sort) → AreCells old s so_far → AreCells old s step → AreCells new s r
  pub shows : (a : List Bool) → Satisfies a new.formula → (o : Outcome) (f : Value → Outcome) →
      Shows old.arena a so_far o →
      ((v : Value) → o ≡ Val v → lit_value there a ≡ true → Shows old.arena a step (f v)) →
      Shows new.arena a r (if lit_value there a then with_value o f else o)
