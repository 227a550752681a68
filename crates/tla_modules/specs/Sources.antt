-- The modules of a root, as they are read from files (Specifying Systems, sections 4.1 and 17.7).
use Rattle.std.specs.Prelude.{◌≡◌, ℕ, ◌-◌, List, [], ◌∷◌, ◌++◌, map, length, take, codes, Option, if◌then◌else◌}
use Rattle.std.specs.Str.{IsUtf8}
use Rattle.tla_lexer.specs.Runs.{IsTokenRun}
use Rattle.tla_lexer.specs.declared.token.Token.{Token}
use Rattle.tla_meaning.specs.declared.modules.Module.{Module}
use Rattle.tla_meaning.specs.Flattening.{Modules}
use Rattle.tla_meaning.specs.ReadingOrder.{Course, Next, Whole, course}
use Rattle.tla_meaning.specs.Scopes.{same_text}
use Rattle.tla_parser.specs.Grammar.{SpelledWithin, Spells}
use Rattle.tla_values.specs.FileNames.{module_name, without_folder}
use Rattle.tool_outside.specs.Causes.{HandedOut}
use Rattle.tool_outside.specs.Outside.{Folder}

-- how many bytes a file of a module may have
abbrev pub module_limit : ℕ
module_limit = 4194304

-- ---- the files of modules

-- the folder of a file, with the slash at its end
abbrev pub folder_of : List ℕ → List ℕ
folder_of file = take (length file - length (without_folder file)) file

-- the file of a module: that of the root, or the module's name with `.tla` in the root's folder
abbrev pub file_of : List ℕ → List ℕ → List ℕ
file_of root x = if same_text x (module_name root) then root else folder_of root ++ x ++ codes ".tla"

abbrev pub files_of : List ℕ → Modules → List (List ℕ)
files_of root ms = map (λ (x : List ℕ × Module). file_of root x.0) ms

-- these bytes were handed out for the file; a file's name is a text
pub record IsHanded (held : Option Folder) (file : List ℕ) (bytes : List ℕ) : Type 0 where
  pub text : IsUtf8 file
  pub handed : HandedOut held file module_limit bytes

-- the bytes of the file of this number are read as tokens, and these spell the module, with at most 400 levels
pub record IsSpelled (number : ℕ) (bytes : List ℕ) (m : Module) : Type 0 where
  pub tokens : List Token
  pub run : IsTokenRun number bytes tokens
  pub spells : Spells m tokens
  pub within : SpelledWithin 400 tokens

-- the file holds the module
pub record IsGiven (held : Option Folder) (number : ℕ) (file : List ℕ) (m : Module) : Type 0 where
  pub bytes : List ℕ
  pub handed : IsHanded held file bytes
  pub spelled : IsSpelled number bytes m

-- ---- the order of reading

-- where modules that were read of a root lead
abbrev pub course_of_root : Modules → List ℕ → Course
course_of_root ms root = course ms (module_name root)

-- the module that is to be read next
abbrev pub LeadTo : Modules → List ℕ → List ℕ → Type 0
LeadTo ms root x = (read : List (List ℕ)) × (course_of_root ms root ≡ Next x read)

-- none is
abbrev pub AreWhole : Modules → List ℕ → Type 0
AreWhole ms root = (read : List (List ℕ)) × (course_of_root ms root ≡ Whole read)

-- a module is read behind these: they lead to it, and its file holds it
pub record IsRead (held : Option Folder) (root : List ℕ) (before : Modules) (x : List ℕ × Module) : Type 0 where
  pub next : LeadTo before root x.0
  pub given : IsGiven held (length before) (file_of root x.0) x.1
  pub named : (x.1).name ≡ x.0

-- so each of these is, one by one
abbrev pub AreRead : Option Folder → List ℕ → Modules → Modules → Type 0
AreRead held root before [] = Unit {0}
AreRead held root before (x ∷ xs) = IsRead held root before x × AreRead held root (before ++ x ∷ []) xs
