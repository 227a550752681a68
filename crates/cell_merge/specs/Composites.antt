-- Records, tuples and sequences by their parts.
use Rattle.std.specs.Prelude.{◌≡◌, ◌<◌, List, [], All, map, length}
use Rattle.std.specs.List.{zip}
use Rattle.cell_arena.specs.declared.build.Build.{Build}
use Rattle.cell_arena.specs.declared.kinds.CellId.{CellId}
use Rattle.cell_arena.specs.declared.kinds.CellKind.{CellKind}
use Rattle.cell_arena.specs.declared.kinds.CellKind.TheVariants.{Rec, Tup, Seq}
use Rattle.cell_arena.specs.Cells.{kind_at}
use Rattle.cell_arena.specs.Decode.{decode, kind_value}
use Rattle.cell_arena.specs.Growth.{Adds, Decodes}

-- the parts of a record or a tuple in their order, and the places of a sequence, those past its length
-- too; of any other kind none
abbrev pub parts_of : CellKind → List CellId
parts_of (Rec fs) = map (λ f. f.1) fs
parts_of (Tup ps) = ps
parts_of (Seq w ps) = ps
parts_of k = []

-- a record or a tuple
abbrev pub IsComposite : CellKind → Type 0
IsComposite (Rec fs) = Unit {0}
IsComposite (Tup ps) = Unit {0}
IsComposite k = ⊥

-- the record or tuple with other parts
abbrev pub with_parts_of : CellKind → List CellId → CellKind
with_parts_of (Rec fs) ps = Rec (zip (map (λ f. f.0) fs) ps)
with_parts_of (Tup qs) ps = Tup ps
with_parts_of k ps = k

-- parts for a record or a tuple: as many as it has, each of which is there
pub record FitsParts (ks : List CellKind) (id : CellId) (ps : List CellId) : Type 0 where
  pub there : id.index < length ks
  pub composite : IsComposite (kind_at ks id)
  pub count : length ps ≡ length (parts_of (kind_at ks id))
  pub parts : All (λ p. p.index < length ks) ps

-- the new cell is the older record or tuple with other parts
pub record IsWithParts (old new : Build) (id : CellId) (ps : List CellId) (made : CellId) : Type 0 where
  pub cell : Adds old new (with_parts_of (kind_at old.arena.kinds id) ps) made
  pub value : Decodes new made (λ a. kind_value old.arena.texts a (decode old.arena a) (with_parts_of (kind_at old.arena.kinds id) ps))
