-- What an INSTANCE brings in, in one line for both.
use Rattle.std.proofs.Common.{◌≡◌, ℕ, Bool, List, Option, None, Some, refl}
use Rattle.tla_meaning.specs.declared.symbols.Entry.{Entry}
use Rattle.tla_meaning.specs.Flattening.{instance_entries}
use Rattle.flat_modules.specs.inner.Instances.{brought_names}

pub brought_all : (i : Option (List ℕ)) (local : Bool) (inside : List Entry) → brought_names i local inside ≡ instance_entries i local inside
brought_all None local inside = refl
brought_all (Some i) local inside = refl
