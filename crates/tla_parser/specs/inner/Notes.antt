-- The kinds of bytes in notes, and a module with the aliases that they give.
use Rattle.std.specs.Prelude.{ℕ, Bool, List}
use Rattle.tla_meaning.specs.declared.modules.Module.{Module}
use Rattle.tla_lexer.specs.Classes.{is_blank}
use Rattle.tla_parser.specs.Aliases.{Alias, in_type}
use Rattle.tla_parser.specs.declared.aliases.Kind.{Kind}
use Rattle.tla_parser.specs.declared.aliases.Kind.TheVariants.{Blank, NameByte, TypeByte}
use Rattle.tla_values.specs.Names.{is_name_byte}

abbrev pub passes : Kind → ℕ → Bool
passes Blank b = is_blank b
passes NameByte b = is_name_byte b
passes TypeByte b = in_type b

abbrev pub noted : List Alias → Module → Module
noted xs m = record m { aliases = xs }
