-- Types of the nodes that a reduction makes.
use Rattle.std.specs.Prelude.{◌≡◌, ℕ, zero, suc, List, [], ◌∷◌, Option, Some, None, slice_get, pos, if◌then◌else◌}
use Rattle.tla_values.specs.Order.{Layer}
use Rattle.tla_values.specs.declared.value.Value.{Value}
use Rattle.tla_values.specs.declared.value.Value.TheOpen as value
use Rattle.tla_meaning.specs.Scopes.{same_text}
use Rattle.snowcat_rows.specs.declared.types.Ty.{Ty, out-Ty}
use Rattle.snowcat_rows.specs.declared.types.Ty.TheVariants as ty
use Rattle.snowcat_rows.specs.declared.types.Ty.TheOpen as layer
use Rattle.kernel_trees.specs.declared.kernel.Ker.{Ker}
use Rattle.kernel_trees.specs.declared.kernel.KerOp.{KerOp}
use Rattle.kernel_trees.specs.Sound.{literal_of}
use Rattle.kernel_reduction.specs.Rows.{Let, Level, Change, type_of, op_at}

abbrev pub pair_type : Ty → Ty → Ty
pair_type a b = ty.Tup (a ∷ b ∷ [])

-- a LET of type a that names something of type b
abbrev pub let_of : Ty → Ty → ℕ → ℕ → Let
let_of a b unread named = record { type = a; wholes = ty.Seq a; items = ty.Seq b; unread = unread; named = named }

-- ---- what stands at an index of a value of a type

-- of an item, by its number from 1
abbrev pub item_type : List Ty → ℕ → Option Ty
item_type ts zero = None
item_type ts (suc n) = slice_get ts n

-- of the first field of that name
abbrev pub field_type : List (List ℕ × Ty) → List ℕ → Option Ty
field_type [] x = None
field_type (f ∷ fs) x = if same_text x f.0 then Some f.1 else field_type fs x

-- of a tuple and a record at a literal alone
abbrev pub part_at : layer.Ty-F Ty → Layer Value → Option Ty
part_at (layer.Fun a b) v = Some b
part_at (layer.Seq a) v = Some a
part_at (layer.Tup ts) (value.Int (pos n)) = item_type ts n
part_at (layer.Rec fs r) (value.Text x) = field_type fs x
part_at a v = None

-- by the operator of the index
abbrev pub part_type : Ty → KerOp → Option Ty
part_type t o = part_at (out-Ty t) (literal_of o)

-- each index of a path leads to a part of what the one before it leads to
abbrev pub Leads : Ty → List Level → Type 0
Leads t [] = Unit {0}
Leads t (l ∷ ls) = (part_type t (op_at l.index) ≡ Some l.inner) × Leads l.inner ls

abbrev pub AllLead : Ty → List Change → Type 0
AllLead t [] = Unit {0}
AllLead t (d ∷ ds) = Leads t d.levels × AllLead t ds

-- ---- pairs of operands

-- of an operand and the indexes behind it
abbrev pub pairs_type : Ker → List Level → Ty
pairs_type k [] = type_of k
pairs_type k (l ∷ ls) = pair_type (type_of k) (pairs_type l.index ls)

-- each level has the type of the pairs that begin with its index
abbrev pub RestsTyped : List Level → Type 0
RestsTyped [] = Unit {0}
RestsTyped (l ∷ ls) = (l.rest ≡ pairs_type l.index ls) × RestsTyped ls
