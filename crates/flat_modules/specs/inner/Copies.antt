-- The modules of the code as the root has them, as the definition of the flat module has them.
use Rattle.std.specs.Prelude.{ℕ, List, ◌++◌, Option}
use Rattle.tla_meaning.specs.Flattening.{Meant, numbered, replaced}
use Rattle.tla_meaning.specs.Flattening as flat
use Rattle.tla_meaning.specs.Scopes.{find_last}
use Rattle.tla_meaning.specs.Symbols.{entry_of}
use Rattle.flat_modules.specs.declared.copies.Meaning.{Meaning}
use Rattle.flat_modules.specs.declared.copies.Meaning.TheVariants.{Root, Instance}
use Rattle.flat_modules.specs.declared.copies.ModuleCopy.{ModuleCopy}

-- what a declared name stands for
abbrev pub meant_of : Meaning → List ℕ → Option Meant
meant_of (Root ds) x = numbered x ds.now 0
meant_of (Instance es cs prefix) x = replaced (prefix.now ++ x) es.now (entry_of x es.now) (find_last x cs.now)

abbrev pub copy_of : ModuleCopy → flat.Copy
copy_of k = record { name = k.name.now; prefix = k.prefix.now; way = k.way.now; meant = meant_of k.meaning; root = k.root }
