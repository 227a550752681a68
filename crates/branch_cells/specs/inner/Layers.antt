-- Lists of branches that are made shorter by free bits.
use Rattle.std.specs.Prelude.{◌≡◌, ◌<◌, ◌+◌, ℕ, Bool, not, ◌&&◌, ◌||◌, nat_eq, List, length, map, All, Some, slice_get, slice_index_or, if◌then◌else◌}
use Rattle.sat_formula.specs.declared.lit.Lit.{Lit}
use Rattle.sat_formula.specs.Formula.{HasValue, Satisfies}
use Rattle.sat_formula.specs.Lit.{lit_value}
use Rattle.cell_arena.specs.declared.build.Build.{Build}
use Rattle.cell_arena.specs.declared.kinds.CellId.{CellId}
use Rattle.cell_arena.specs.Decode.{decode}
use Rattle.cell_arena.specs.Growth.{Decodes}
use Rattle.cell_merge.specs.Sorts.{Sort, OfSort}
use Rattle.kernel_trees.specs.Picks.{IsOneOf}
use Rattle.path_walks.specs.Paths.{GoesOn}
use Rattle.level_laws.specs.Branches.{Ending}
use Rattle.branch_cells.specs.declared.branch.BranchCells.{BranchCells}
use Rattle.branch_cells.specs.declared.branch.Ends.{Ends}
use Rattle.branch_cells.specs.Ends.{end_of, ends_at}
use Rattle.branch_cells.specs.Branches.{AreOfEither, IsSame}

-- the literal is not the negation of the first variable, which is true under each satisfying assignment
abbrev pub can_be : Lit → Bool
can_be l = not (nat_eq l.var 0 && l.neg)

-- some of the three literals is not that
abbrev pub can_end : Ends → Bool
can_end x = (can_be x.holds || can_be x.wrong) || can_be x.big

-- the cell has the value of the first where the literal is true, and else of the second; where both are one it is this
pub record IsCellOfEither (old new : Build) (l : Lit) (x y id : CellId) : Type 0 where
  pub value : Decodes new id (λ a. if lit_value l a then decode old.arena a x else decode old.arena a y)
  pub sort : (s : Sort) → OfSort old.arena.kinds s x → OfSort old.arena.kinds s y → OfSort new.arena.kinds s id
  pub kept : x ≡ y → id ≡ x

-- of the first i names
pub record AreCellsOfEither (old new : Build) (l : Lit) (xs ys : List CellId) (i : ℕ) (ids : List CellId) : Type 0 where
  pub count : length ids ≡ i
  pub each : (j : ℕ) (d : CellId) → j < i →
      IsCellOfEither old new l (slice_index_or xs j d) (slice_index_or ys j d) (slice_index_or ids j d)

-- the first where the literal is true, and else the second; a cell that both have for a name stays
pub record IsEither (new : Build) (l : Lit) (x y r : BranchCells) : Type 0 where
  pub ends : (k : Ending) → HasValue new.formula (end_of r.ends k)
      (λ a. if lit_value l a then ends_at x.ends k a else ends_at y.ends k a)
  pub next : AreOfEither new l x.next y.next r.next
  pub kept : (i : ℕ) (id : CellId) → slice_get x.next i ≡ Some id → slice_get y.next i ≡ Some id →
      slice_get r.next i ≡ Some id

-- what stands so many places behind, or what stands here
abbrev pub partner : List BranchCells → ℕ → ℕ → BranchCells → BranchCells
partner xs i half d = slice_index_or xs (i + half) (slice_index_or xs i d)

-- of the first i each is chosen, or its partner
pub record AreChosen (new : Build) (l : Lit) (parts : List BranchCells) (half i : ℕ)
    (out : List BranchCells) : Type 0 where
  pub count : length out ≡ i
  pub each : (j : ℕ) (d : BranchCells) → j < i →
      IsEither new l (slice_index_or parts j d) (partner parts j half d) (slice_index_or out j d)

-- each of the new is one of the old wherever an assignment satisfies the formula, and each of the old is one of the new
-- under some longer assignment; a cell that all have for a name stays
pub record Narrows (old new : Build) (parts out : List BranchCells) : Type 0 where
  pub sound : (a : List Bool) → Satisfies a new.formula → (r : BranchCells) → IsOneOf r out →
      (p : BranchCells) × (IsOneOf p parts × IsSame new.arena a r p)
  pub free : (a : List Bool) → length a ≡ old.formula.vars → Satisfies a old.formula → (p : BranchCells) →
      IsOneOf p parts → (r : BranchCells) × (IsOneOf r out × GoesOn new.formula a (λ b. IsSame new.arena b r p))
  pub kept : (i : ℕ) (id : CellId) → All (λ p. slice_get p.next i ≡ Some id) parts →
      All (λ r. slice_get r.next i ≡ Some id) out
