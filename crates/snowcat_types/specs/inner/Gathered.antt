-- What is built of a job means.
use Rattle.std.specs.Prelude.{ℕ, ◌≡◌, true, List, [], ◌∷◌, map, Option, None, Some}
use Rattle.snowcat_rows.specs.declared.types.Ty.{Ty}
use Rattle.snowcat_rows.specs.FieldNames.{names_differ}
use Rattle.snowcat_rows.specs.Types.{mean, var}
use Rattle.snowcat_types.specs.declared.gathered.Requirement.{Requirement as BuiltRequirement}
use Rattle.snowcat_types.specs.declared.gathered.Requirement.TheVariants as built
use Rattle.snowcat_types.specs.declared.gathered.Entry.{Entry as BuiltEntry}
use Rattle.snowcat_types.specs.declared.gathered.Entry.TheVariants as built_entry
use Rattle.snowcat_types.specs.declared.gathered.System.{System as BuiltSystem}
use Rattle.snowcat_types.specs.declared.told.Told.{Told}
use Rattle.snowcat_types.specs.Requirements.{Requirement, Equal, FieldOf}
use Rattle.snowcat_types.specs.Systems.{Annotations, Entry, Asks, Waits, System}
use Rattle.snowcat_types.specs.inner.Built.{means, note_of}

abbrev pub requirement_of : BuiltRequirement → Requirement
requirement_of (built.Equal a b) = Equal (mean a) (mean b)
requirement_of (built.FieldOf t f u) = FieldOf (var t) f (var u)

abbrev pub requirements_of : List BuiltRequirement → List Requirement
requirements_of rs = map requirement_of rs

abbrev pub entry_of : BuiltEntry → Entry
entry_of (built_entry.Asks p rs) = Asks p (requirements_of rs)
entry_of (built_entry.Waits w) = Waits w

abbrev pub entries_of : List BuiltEntry → List Entry
entries_of es = map entry_of es

abbrev pub system_of_built : BuiltSystem → System
system_of_built s = record {
  count = s.count;
  declared = requirements_of s.declared;
  entries = entries_of s.entries;
  names = means s.names;
  parts = map means s.parts;
}

abbrev pub annotations_of : Told → Annotations
annotations_of t = record { declared = map (λ x. (mean x.0, x.1)) t.declared; noted = note_of t.notes }

-- ---- in each record the names of the fields differ

abbrev pub IsNamed : Ty → Type 0
IsNamed t = names_differ t ≡ true

abbrev pub RequirementNamed : BuiltRequirement → Type 0
RequirementNamed (built.Equal a b) = IsNamed a × IsNamed b
RequirementNamed (built.FieldOf t f u) = Unit {0}

abbrev pub AllNamedIn : List BuiltRequirement → Type 0
AllNamedIn [] = Unit {0}
AllNamedIn (r ∷ rs) = RequirementNamed r × AllNamedIn rs

abbrev pub EntryNamed : BuiltEntry → Type 0
EntryNamed (built_entry.Asks p rs) = AllNamedIn rs
EntryNamed (built_entry.Waits w) = Unit {0}

abbrev pub EntriesNamed : List BuiltEntry → Type 0
EntriesNamed [] = Unit {0}
EntriesNamed (e ∷ es) = EntryNamed e × EntriesNamed es

abbrev pub TypesNamed : List Ty → Type 0
TypesNamed [] = Unit {0}
TypesNamed (t ∷ ts) = IsNamed t × TypesNamed ts

abbrev pub PartsNamed : List (List Ty) → Type 0
PartsNamed [] = Unit {0}
PartsNamed (p ∷ ps) = TypesNamed p × PartsNamed ps

pub record SystemNamed (s : BuiltSystem) : Type 0 where
  pub declared : AllNamedIn s.declared
  pub entries : EntriesNamed s.entries
  pub names : TypesNamed s.names
  pub parts : PartsNamed s.parts

abbrev pub NoteNamed : Option Ty → Type 0
NoteNamed None = Unit {0}
NoteNamed (Some t) = IsNamed t

abbrev pub NotesNamed : List (List ℕ × Option Ty) → Type 0
NotesNamed [] = Unit {0}
NotesNamed (n ∷ ns) = NoteNamed n.1 × NotesNamed ns

abbrev pub DeclaredNamed : List (Ty × ℕ) → Type 0
DeclaredNamed [] = Unit {0}
DeclaredNamed (t ∷ ts) = IsNamed t.0 × DeclaredNamed ts

pub record ToldNamed (t : Told) : Type 0 where
  pub declared : DeclaredNamed t.declared
  pub notes : NotesNamed t.notes
