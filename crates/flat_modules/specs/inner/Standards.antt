-- The standard modules of the code, as the definition has them.
use Rattle.std.specs.Prelude.{List, Option, Some, None}
use Rattle.tla_meaning.specs.declared.symbols.Entry.{Entry}
use Rattle.tla_meaning.specs.StandardModules.{apalache, finite_sets, integers, model_values, natural_numbers, sequences}
use Rattle.flat_modules.specs.declared.standards.Standard.{Standard}
use Rattle.flat_modules.specs.declared.standards.Standard.TheVariants.{Naturals, Integers, Sequences, FiniteSets, ModelValues, Apalache}

abbrev pub entries_of : Standard → List Entry
entries_of Naturals = natural_numbers
entries_of Integers = integers
entries_of Sequences = sequences
entries_of FiniteSets = finite_sets
entries_of ModelValues = model_values
entries_of Apalache = apalache

abbrev pub found : Option Standard → Option (List Entry)
found None = None
found (Some s) = Some (entries_of s)
