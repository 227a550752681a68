-- In each record of what is built the names of the fields differ.
use Rattle.std.specs.Prelude.{ℕ, ◌≡◌, Bool, true, false, List, [], ◌∷◌, ◌++◌, zip}
use Rattle.tla_meaning.specs.declared.op.Op.{Op}
use Rattle.tla_meaning.specs.declared.op.Op.TheVariants as op
use Rattle.snowcat_rows.specs.declared.types.Ty.{Ty}
use Rattle.snowcat_rows.specs.Types.{Term, lookup}
use Rattle.snowcat_types.specs.declared.around.Around.{Around}
use Rattle.snowcat_types.specs.declared.forms.Operand.{Operand}
use Rattle.snowcat_types.specs.declared.forms.Row.{Row}
use Rattle.snowcat_types.specs.declared.trees.Gathering.{Gathering}
use Rattle.snowcat_types.specs.inner.Built.{means, scope_of}
use Rattle.snowcat_types.specs.inner.Gathered.{IsNamed, TypesNamed, EntriesNamed, PartsNamed, NotesNamed}

abbrev pub ScopeNamed : List (List ℕ × Ty) → Type 0
ScopeNamed [] = Unit {0}
ScopeNamed (x ∷ xs) = IsNamed x.1 × ScopeNamed xs

abbrev pub OperandsNamed : List Operand → Type 0
OperandsNamed [] = Unit {0}
OperandsNamed (o ∷ os) = (IsNamed o.of × ScopeNamed o.under) × OperandsNamed os

pub record RowNamed (r : Row) : Type 0 where
  pub operands : OperandsNamed r.operands
  pub result : IsNamed r.result

-- the operator's row has a record
abbrev pub has_fields : Op → Bool
has_fields (op.RecSet fs) = true
has_fields (op.Record fs) = true
has_fields o = false

pub record AroundNamed (a : Around) : Type 0 where
  pub notes : NotesNamed a.notes
  pub bound : ScopeNamed a.bound.items

pub record GatheringNamed (g : Gathering) : Type 0 where
  pub around : AroundNamed g.around
  pub types : TypesNamed g.types.items
  pub entries : EntriesNamed g.entries.items
  pub parts : PartsNamed g.parts.items

-- the fields tell of each name what the names with their types tell
abbrev pub Tells : List (List ℕ × Ty) → List (List ℕ) → List Ty → Type 0
Tells fs xs ts = (n : List ℕ) → lookup (scope_of fs) n ≡ lookup (zip xs (means ts)) n

-- and with one field more, behind those before
abbrev pub TellsBehind : List (List ℕ × Ty) → List ℕ → Term → List (List ℕ × Ty) → Type 0
TellsBehind fs x t gs = (n : List ℕ) → lookup (scope_of gs) n ≡ lookup (scope_of fs ++ (x, t) ∷ []) n
