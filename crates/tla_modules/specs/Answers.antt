-- What the modules of a root make.
use Rattle.std.specs.Prelude.{◌≡◌, ℕ, List, [], Option, None, Some}
use Rattle.tla_meaning.specs.declared.modules.Flat.{Flat}
use Rattle.tla_meaning.specs.Flattening.{Modules, flat_of, misuse_of}
use Rattle.tla_modules.specs.Sources.{AreRead, AreWhole, file_of}
use Rattle.tla_values.specs.FileNames.{module_name}
use Rattle.tool_outside.specs.Outside.{Folder}

-- the flat module of the root in this file: its modules are all read, and each name in them is known
pub record IsFlatModule (held : Option Folder) (root : List ℕ) (f : Flat) : Type 0 where
  pub modules : Modules
  pub read : AreRead held root [] modules
  pub whole : AreWhole modules root
  pub known : misuse_of modules ≡ None
  pub flat : f ≡ flat_of (file_of root) modules (module_name root)

-- the files are told
abbrev pub IsTold : Option Folder → Type 0
IsTold held = (folder : Folder) × (held ≡ Some folder)
