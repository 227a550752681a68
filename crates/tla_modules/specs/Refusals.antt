-- Why a root makes no flat module.
use Rattle.std.specs.Prelude.{◌≡◌, ◌≢◌, ◌⊎◌, ◌≤◌, ℕ, Bool, true, false, List, [], ◌∷◌, ◌++◌, length, Option, None, Some}
use Rattle.std.specs.Str.{IsUtf8}
use Rattle.tla_lexer.specs.Runs.{IsFault, IsTokenRun}
use Rattle.tla_lexer.specs.declared.token.Token.{Token}
use Rattle.tla_meaning.specs.declared.modules.Module.{Module}
use Rattle.tla_meaning.specs.declared.symbols.Misuse.{Misuse}
use Rattle.tla_meaning.specs.declared.symbols.Misuse.TheVariants as misuse
use Rattle.tla_meaning.specs.Flattening.{Modules, misuse_of}
use Rattle.tla_meaning.specs.ReadingOrder as order
use Rattle.tla_parser.specs.Refused.{IsRefusal}
use Rattle.tla_parser.specs.declared.fault.ParseFault.{ParseFault}
use Rattle.tla_parser.specs.declared.fault.ParseFault.TheVariants as parse
use Rattle.tla_modules.specs.declared.fault.ModuleFault.{ModuleFault}
use Rattle.tla_modules.specs.declared.fault.ModuleFault.TheVariants.{Missing, NameDiffers, Cycle, Unknown, Twice, Arity, TooMany, Lex, Parse, Read, TooLong, Memory}
use Rattle.tla_modules.specs.declared.fault.ModuleRefusal.{ModuleRefusal}
use Rattle.tla_modules.specs.Sources.{AreRead, AreWhole, IsHanded, IsSpelled, LeadTo, course_of_root, file_of, files_of, module_limit}
use Rattle.tool_outside.specs.Causes.{Holds, IsLong}
use Rattle.tool_outside.specs.Outside.{Folder, Rose}

-- a failed read is told only where the count of faults rose, and every other cause but want of memory leaves it
abbrev pub IsCounted : ℕ → ℕ → ModuleFault → Type 0
IsCounted old new (Read file) = Rose old new × (old ≤ new)
IsCounted old new (Memory e) = old ≤ new
IsCounted old new e = new ≡ old

-- ---- a module that is not read

-- no file has the name; one that is no text is no file's
abbrev pub IsMissing : Option Folder → List ℕ → Type 0
IsMissing held file = IsUtf8 file → Holds held file None

-- the bytes of the file of a module are not handed out
abbrev pub IsBarred : Option Folder → List ℕ → List ℕ → ModuleFault → Type 0
IsBarred held file x (Read f) = f ≡ file
IsBarred held file x (TooLong f) = (f ≡ file) × IsLong held file module_limit
IsBarred held file x (Missing y) = (y ≡ x) × IsMissing held file
IsBarred held file x e = ⊥

abbrev pub is_want : ParseFault → Bool
is_want (parse.Memory e) = true
is_want e = false

-- the tokens of the bytes are refused
pub record IsUnspelled (number : ℕ) (bytes : List ℕ) (fault : ParseFault) : Type 0 where
  pub tokens : List Token
  pub run : IsTokenRun number bytes tokens
  pub refused : IsRefusal fault tokens
  pub no_want : is_want fault ≡ false

-- the bytes of the file of this number spell no module of the name
abbrev pub IsMisspelled : ℕ → List ℕ → List ℕ → ModuleFault → Type 0
IsMisspelled number bytes x (Lex e) = IsFault number bytes e
IsMisspelled number bytes x (Parse e) = IsUnspelled number bytes e
IsMisspelled number bytes x (NameDiffers y z) = (y ≡ x) × (y ≢ z) × (m : Module) × IsSpelled number bytes m × (z ≡ m.name)
IsMisspelled number bytes x e = ⊥

-- the file is not handed out, or what was handed out spells no module of the name
abbrev pub IsUnread : Option Folder → ℕ → List ℕ → List ℕ → ModuleFault → Type 0
IsUnread held number file x e = IsBarred held file x e ⊎ ((bytes : List ℕ) × IsHanded held file bytes × IsMisspelled number bytes x e)

-- the file that was handed out and refused
abbrev pub handed : ModuleFault → List ℕ → List (List ℕ)
handed (Lex e) file = file ∷ []
handed (Parse e) file = file ∷ []
handed (NameDiffers y z) file = file ∷ []
handed e file = []

-- ---- modules that are read

-- what is wrong with the names of modules that were all read
abbrev pub AreMisused : Modules → List ℕ → Misuse → Type 0
AreMisused ms root m = AreWhole ms root × (misuse_of ms ≡ Some m)

-- ---- the refusal

-- why the modules of a root that were read make no flat module, where these files were read. Want of memory may come at
-- any time, and then any files are told.
abbrev pub IsCause : Option Folder → List ℕ → Modules → List (List ℕ) → ModuleFault → Type 0
IsCause held root ms files (Cycle xs) = (course_of_root ms root ≡ order.Cycle xs) × (files ≡ files_of root ms)
IsCause held root ms files TooMany = (course_of_root ms root ≡ order.TooMany) × (files ≡ files_of root ms)
IsCause held root ms files (Unknown x p) = AreMisused ms root (misuse.Unknown x p) × (files ≡ files_of root ms)
IsCause held root ms files (Twice x p q) = AreMisused ms root (misuse.Twice x p q) × (files ≡ files_of root ms)
IsCause held root ms files (Arity p m n) = AreMisused ms root (misuse.Arity p m n) × (files ≡ files_of root ms)
IsCause held root ms files (Memory e) = Unit {0}
IsCause held root ms files e =
    (x : List ℕ) × LeadTo ms root x × IsUnread held (length ms) (file_of root x) x e × (files ≡ files_of root ms ++ handed e (file_of root x))

-- modules are read one by one until there is a cause
pub record IsRefused (held : Option Folder) (root : List ℕ) (r : ModuleRefusal) : Type 0 where
  pub modules : Modules
  pub read : AreRead held root [] modules
  pub cause : IsCause held root modules r.files r.fault

-- what may come besides the one answer that the files tell
abbrev pub IsOutside : ModuleFault → Type 0
IsOutside (Read file) = Unit {0}
IsOutside (Memory e) = Unit {0}
IsOutside e = ⊥
