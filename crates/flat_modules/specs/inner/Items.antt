-- The items of the code, as the definition of the flat module has them.
use Rattle.tla_meaning.specs.Flattening as flat
use Rattle.flat_modules.specs.declared.items.Item.{Item}
use Rattle.flat_modules.specs.declared.items.Item.TheVariants.{Declares, Defines, Assumes}

abbrev pub item_of : Item → flat.Item
item_of (Declares d) = flat.Declares d
item_of (Defines d) = flat.Defines d
item_of (Assumes e) = flat.Assumes e
