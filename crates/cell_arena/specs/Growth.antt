-- How a build grows, and what is said of a new cell.
use Rattle.std.specs.Prelude.{◌≡◌, ◌<◌, ◌≤◌, ◌⊎◌, Bool, List, [], ◌∷◌, ◌++◌, length}
use Rattle.sat_formula.specs.Formula.{Satisfies, Grows as FormulaGrows}
use Rattle.tla_values.specs.declared.value.Value.{Value}
use Rattle.cell_arena.specs.declared.kinds.CellId.{CellId}
use Rattle.cell_arena.specs.declared.kinds.CellKind.{CellKind}
use Rattle.cell_arena.specs.declared.build.Build.{Build}
use Rattle.cell_arena.specs.Cells.{Cells, kind_at}
use Rattle.cell_arena.specs.Decode.{decode}

-- the old cells are the first of the new, and texts and width stay
pub record Prefix (old new : Cells) : Type 0 where
  pub kinds : (more : List CellKind) × (new.kinds ≡ old.kinds ++ more)
  pub texts : new.texts ≡ old.texts
  pub width : new.width ≡ old.width

-- the older cells keep their places, which tactics take as one fact
unfoldable pub Keeps : Cells → Cells → Type 0
Keeps old new = Prefix old new

-- what a build may become: the older cells stay, and each assignment that satisfies its formula
-- agrees on its variables with one that satisfies the new formula
pub record Grows (old new : Build) : Type 0 where
  pub formula : FormulaGrows old.formula new.formula
  pub longer : length old.arena.kinds ≤ length new.arena.kinds
  pub keeps : Keeps old.arena new.arena

-- the cell is there, and under each satisfying assignment it has the value
pub record Decodes (b : Build) (id : CellId) (meaning : List Bool → Value) : Type 0 where
  pub there : id.index < length b.arena.kinds
  pub value : (a : List Bool) → Satisfies a b.formula → decode b.arena a id ≡ meaning a

-- the cells are as they were, or there is one more, of this kind
abbrev pub IsOneMore : Cells → Cells → CellKind → Type 0
IsOneMore old new kind = (new ≡ old) ⊎ (new.kinds ≡ old.kinds ++ kind ∷ [])

-- the cell is there and of this kind, and nothing else has changed but that it may be a new one
pub record Adds (old new : Build) (kind : CellKind) (id : CellId) : Type 0 where
  pub there : id.index < length new.arena.kinds
  pub is : kind_at new.arena.kinds id ≡ kind
  pub rest : IsOneMore old.arena new.arena kind
  pub formula : new.formula ≡ old.formula
