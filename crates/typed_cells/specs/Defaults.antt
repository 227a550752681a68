-- The default of a type, which a name has where nothing has assigned it: FALSE, 0, the empty text, the empty set, the
-- empty function, the empty sequence, and for a tuple or record the defaults of its parts. The types are those of the
-- Apalache manual, "Type System 1.2: Type annotations".
use Rattle.std.specs.Prelude.{◌≡◌, ℕ, Bool, false, List, [], ◌∷◌, map, Some, pos}
use Rattle.snowcat_rows.specs.declared.types.Ty.{Ty}
use Rattle.kernel_trees.specs.TypeKinds.{Kind, Truth, Number, Word, Set, Seq, Fun, Tup, Rec, Kinds, no_kinds}
use Rattle.kernel_trees.specs.TypeKinds.{more_kinds, Fields, no_fields, more_fields, kind_of}
use Rattle.tla_values.specs.Sequences.{sequence}
use Rattle.tla_values.specs.declared.value.Value.{Value}
use Rattle.tla_values.specs.declared.value.Value.TheVariants as value
use Rattle.tla_meaning.specs.Shapes.{record_of}
use Rattle.cell_arena.specs.declared.build.Build.{Build}
use Rattle.cell_arena.specs.declared.kinds.CellId.{CellId}
use Rattle.cell_arena.specs.Growth.{Decodes}

abbrev mutual
  pub default_value : Kind → Value
  default_value Truth = value.Bool false
  default_value Number = value.Int (pos 0)
  default_value (Word x) = value.Text []
  default_value (Set a) = value.Set []
  default_value (Seq a) = sequence []
  default_value (Fun a b) = value.Fun []
  default_value (Tup as') = sequence (default_items as')
  default_value (Rec fs) = record_of (map (λ f. f.0) (default_fields fs)) (map (λ f. f.1) (default_fields fs))

  pub default_items : Kinds → List Value
  default_items no_kinds = []
  default_items (more_kinds a as') = default_value a ∷ default_items as'

  pub default_fields : Fields → List (List ℕ × Value)
  default_fields no_fields = []
  default_fields (more_fields x a fs) = (x, default_value a) ∷ default_fields fs

-- under each satisfying assignment the cell is the default of the type, where this has a kind
abbrev pub IsDefault : Build → Ty → CellId → Type 0
IsDefault b t id = (k : Kind) → kind_of t ≡ Some k → Decodes b id (λ a. default_value k)
