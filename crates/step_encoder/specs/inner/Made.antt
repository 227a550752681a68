-- What the parts of a level are made of.
use Rattle.std.specs.Prelude.{◌≡◌, ◌<◌, List, map}
use Rattle.sat_formula.specs.Formula.{WellFormed}
use Rattle.cell_arena.specs.declared.build.Build.{Build}
use Rattle.cell_arena.specs.declared.kinds.CellId.{CellId}
use Rattle.cell_arena.specs.Growth.{Grows}
use Rattle.kernel_trees.specs.declared.system.System.{System}
use Rattle.kernel_shapes.specs.declared.bounds.Shape.{Shape as Code}
use Rattle.kernel_shapes.specs.Codes.{mean}
use Rattle.kernel_shapes.specs.Levels.{constant_shapes}
use Rattle.kernel_shapes.specs.Systems.{system_parts}
use Rattle.shape_bounds.specs.Kept.{capped}
use Rattle.typed_cells.specs.inner.Defaulted.{AreDefaults}
use Rattle.branch_cells.specs.declared.branch.BranchCells.{BranchCells}
use Rattle.branch_cells.specs.declared.branch.Ends.{Ends}
use Rattle.branch_cells.specs.declared.way.Way.{Way}
use Rattle.branch_cells.specs.Along.{IsAlong}
use Rattle.branch_cells.specs.Branches.{AreOfEither, AreOfKinds, IsWhole}
use Rattle.branch_cells.specs.Ends.{AreAlso, AreBehind}
use Rattle.step_branches.specs.Ways.{IsConstantsWay, IsStartWay, IsStepWay}
use Rattle.encoder_laws.specs.declared.level.LevelCells.{LevelCells}
use Rattle.step_encoder.specs.inner.Asked.{AreKept, IsConditionOf, IsJudgedLevel, IsOver, names_of}

-- ---- the start

-- the paths of CInit; a name to which they give no value has the default of its type
pub record IsConstantsPart (old new : Build) (s : System) (r : BranchCells) : Type 0 where
  pub formed : WellFormed old.formula
  pub middle : Build
  pub formed_middle : WellFormed middle.formula
  pub others : List CellId
  pub way : Way
  pub before : Grows old middle
  pub kinds : AreOfKinds middle.arena.kinds (names_of s) others
  pub defaults : AreDefaults middle s.ker.names others
  pub is : IsConstantsWay s middle.arena.width others way
  pub along : IsAlong middle new way s.constants r
  pub grows : Grows middle new
  pub whole : IsWhole new (names_of s) r

-- Init begins at the constants, which have the shapes behind CInit
pub record IsWayOfStart (b : Build) (s : System) (constants : BranchCells) (way : Way) : Type 0 where
  pub codes : List Code
  pub shapes : map mean codes ≡ map capped (constant_shapes (system_parts b.arena.width s))
  pub is : IsStartWay s b.arena.width constants.next codes way

pub record CanGoOn (b : Build) (s : System) (constants : BranchCells) (way : Way) : Type 0 where
  pub over : IsOver b s
  pub whole : IsWhole b (names_of s) constants
  pub is : IsWayOfStart b s constants way

-- the assumption behind CInit, and behind both the paths of Init; where these are not reached the names have what they
-- have behind CInit
pub record IsStartPart (old new : Build) (s : System) (constants : BranchCells) (way : Way)
    (r : BranchCells) : Type 0 where
  pub formed : WellFormed old.formula
  pub assumed : Build
  pub truth : Ends
  pub before : Grows old assumed
  pub condition : IsConditionOf assumed way.env way.now way.next s.ker.assume truth
  pub from : Build
  pub formed_from : WellFormed from.formula
  pub known : Ends
  pub onto : Grows assumed from
  pub behind : AreBehind from.formula constants.ends truth known
  pub to : Build
  pub formed_to : WellFormed to.formula
  pub part : BranchCells
  pub along : IsAlong from to way s.start part
  pub grows : Grows from to
  pub whole : IsWhole to (names_of s) part
  pub chosen : Build
  pub formed_chosen : WellFormed chosen.formula
  pub cells : List CellId
  pub choosing : Grows to chosen
  pub choice : AreOfEither chosen known.holds part.next constants.next cells
  pub kinds : AreOfKinds chosen.arena.kinds (names_of s) cells
  pub after : Grows chosen new
  pub ends : AreBehind new.formula known part.ends r.ends
  pub next : r.next ≡ cells

pub record IsFirst (old new : Build) (s : System) (codes : List Code) (x : LevelCells) : Type 0 where
  pub middle : Build
  pub constants : BranchCells
  pub first : IsConstantsPart old middle s constants
  pub way : Way
  pub is : IsWayOfStart middle s constants way
  pub end : Build
  pub formed : WellFormed end.formula
  pub whole : BranchCells
  pub rest : IsStartPart middle end s constants way whole
  pub grows : Grows end new
  pub level : IsJudgedLevel new s codes whole x

-- ---- a step

pub record CanStep (b : Build) (s : System) (from : LevelCells) (codes : List Code) : Type 0 where
  pub over : IsOver b s
  pub cells : AreOfKinds b.arena.kinds (names_of s) from.cells
  pub run : from.run.var < b.formula.vars
  pub shapes : AreKept codes

-- the paths of Next behind a level, where its run literal is true
pub record IsStepPart (old new : Build) (s : System) (from : LevelCells) (codes : List Code)
    (r : BranchCells) : Type 0 where
  pub formed : WellFormed old.formula
  pub way : Way
  pub is : IsStepWay s old.arena.width from.cells codes way
  pub to : Build
  pub formed_to : WellFormed to.formula
  pub part : BranchCells
  pub along : IsAlong old to way s.next part
  pub grows : Grows old to
  pub whole : IsWhole to (names_of s) part
  pub after : Grows to new
  pub ends : AreAlso new.formula from.run part.ends r.ends
  pub next : r.next ≡ part.next

pub record IsNextLevel (old new : Build) (s : System) (from : LevelCells) (codes after : List Code)
    (x : LevelCells) : Type 0 where
  pub end : Build
  pub formed : WellFormed end.formula
  pub whole : BranchCells
  pub part : IsStepPart old end s from codes whole
  pub grows : Grows end new
  pub level : IsJudgedLevel new s after whole x
