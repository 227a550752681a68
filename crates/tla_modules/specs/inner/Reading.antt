-- What is read, step by step.
use Rattle.std.specs.Prelude.{◌≡◌, ◌⊎◌, ℕ, List, [], ◌∷◌, ◌++◌, length, Option, None, Some, Result, Ok, Err, alloc_error}
use Rattle.tla_meaning.specs.declared.modules.Module.{Module}
use Rattle.tla_meaning.specs.declared.symbols.Misuse.{Misuse}
use Rattle.tla_meaning.specs.declared.symbols.Misuse.TheVariants as misuse
use Rattle.tla_meaning.specs.Flattening.{Modules, misuse_of}
use Rattle.tla_modules.specs.declared.fault.ModuleFault.{ModuleFault}
use Rattle.tla_modules.specs.declared.fault.ModuleFault.TheVariants.{Unknown, Twice, Arity, Read, Memory}
use Rattle.tla_modules.specs.declared.fault.Stop.{Stop}
use Rattle.tla_modules.specs.Refusals.{IsBarred, IsCause, IsMisspelled, IsUnread, handed}
use Rattle.tla_modules.specs.Sources.{IsGiven, file_of, files_of}
use Rattle.tool_outside.specs.Outside.{Folder}

-- a cause, or want of memory
abbrev pub Told : (ModuleFault → Type 0) → ModuleFault → Type 0
Told P (Memory e) = Unit {0}
Told P e = P e

abbrev pub IsBarredHere : Option Folder → List ℕ → List ℕ → ModuleFault → Type 0
IsBarredHere held file x e = Told (IsBarred held file x) e

abbrev pub IsMisspelledHere : ℕ → List ℕ → List ℕ → ModuleFault → Type 0
IsMisspelledHere number bytes x e = Told (IsMisspelled number bytes x) e

abbrev pub IsUnreadHere : Option Folder → ℕ → List ℕ → List ℕ → ModuleFault → Type 0
IsUnreadHere held number file x e = Told (IsUnread held number file x) e

abbrev pub file_in : Option (List ℕ) → List (List ℕ)
file_in None = []
file_in (Some file) = file ∷ []

-- reading stops at this module
pub record IsStopAt (held : Option Folder) (number : ℕ) (file x : List ℕ) (stop : Stop) : Type 0 where
  pub unread : IsUnreadHere held number file x stop.fault
  pub file_so : file_in stop.file ≡ handed stop.fault file

-- reading stops behind these modules
abbrev pub IsStop : Option Folder → List ℕ → Modules → Stop → Type 0
IsStop held root ms stop = IsCause held root ms (files_of root ms ++ file_in stop.file) stop.fault

-- one module more is read, or reading stops there
abbrev pub ReadsOne : Option Folder → List ℕ → Modules → Modules → List ℕ → Result (Unit {0}) Stop → Type 0
ReadsOne held root old new x (Ok u) =
    (m : Module) × (new ≡ old ++ (x, m) ∷ []) × IsGiven held (length old) (file_of root x) m × (m.name ≡ x)
ReadsOne held root old new x (Err stop) = (new ≡ old) × IsStopAt held (length old) (file_of root x) x stop

-- the refusal of modules for a misuse
abbrev pub fault_of : Misuse → ModuleFault
fault_of (misuse.Unknown x p) = Unknown x p
fault_of (misuse.Twice x p q) = Twice x p q
fault_of (misuse.Arity p m n) = Arity p m n

-- why modules that were all read make no flat module
abbrev pub IsUnjoined : Modules → ModuleFault → Type 0
IsUnjoined ms e = ((m : Misuse) × (misuse_of ms ≡ Some m) × (e ≡ fault_of m)) ⊎ (e ≡ Memory alloc_error)

-- the same fault, or want of memory in its place
abbrev pub IsSameOrWant : ModuleFault → ModuleFault → Type 0
IsSameOrWant e f = (f ≡ e) ⊎ (f ≡ Memory alloc_error)

-- no failed read
abbrev pub IsCalm : ModuleFault → Type 0
IsCalm (Read file) = ⊥
IsCalm e = Unit {0}
