-- What tokens spell. Source: Specifying Systems, chapters 15 and 17.
use Rattle.tla_lexer.specs.declared.token.Token.{Token}
use Rattle.tla_meaning.specs.declared.modules.Module.{Module}
use Rattle.std.specs.Prelude.{ℕ, true, List, ◌≡◌, ◌≤◌}
use Rattle.tla_parser.specs.Aliases.{aliases_of}
use Rattle.tla_parser.specs.Fields.{once_in}
use Rattle.tla_parser.specs.Modules.{module_tree}
use Rattle.tla_parser.specs.Spelling.{items}
use Rattle.tla_parser.specs.Rules.{IsModule}
use Rattle.tla_parser.specs.Written.{Parts, deepest, tokens_of}

-- The module of what is written, with the aliases that the notes give.
abbrev pub module_for : List Token → Parts → Module
module_for ts ps = record (module_tree (items ps)) { aliases = aliases_of ts }

-- The module is what the tokens spell: they are the tokens of a module that is written by the rules, and it is the
-- module of its tokens and expressions.
pub record Spells (m : Module) (ts : List Token) : Type 0 where
  pub written : Parts
  pub by_rules : IsModule written
  pub tokens_so : tokens_of written ≡ ts
  pub module_so : module_for ts written ≡ m
  -- no record names a field twice
  pub fields_so : once_in written ≡ true

-- some module is what the tokens spell
abbrev pub AreSpelled : List Token → Type 0
AreSpelled ts = (m : Module) × Spells m ts

-- no module at all is
abbrev pub NothingSpells : List Token → Type 0
NothingSpells ts = (m : Module) → Spells m ts → ⊥

-- some module is, and no expression of it has more than n levels
pub record SpelledWithin (n : ℕ) (ts : List Token) : Type 0 where
  pub source : Module
  pub spelled : Spells source ts
  pub levels_so : deepest spelled.written ≤ n
