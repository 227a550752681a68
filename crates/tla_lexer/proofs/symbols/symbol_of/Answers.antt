use Rattle.std.proofs.Common.{◌∙◌}
use Rattle.tla_lexer.specs.Symbols.{symbol_table, spellings}
use Rattle.tla_lexer.proofs.SymbolTable.{among_equal, among_longer}
use Rattle.tla_lexer.proofs.symbols.symbol_of.Goals as goal

pub returns-then-length-eq1 : goal.returns-then-length-eq1
unfolding symbol_table spellings
returns-then-length-eq1 c = c.look_up.ensures ∙ among_equal c.args.spelling.now 1 c.if-length-eq1.true

pub returns-then-length-eq2 : goal.returns-then-length-eq2
unfolding symbol_table spellings
returns-then-length-eq2 c = c.look_up-then-length-eq2.ensures ∙ among_equal c.args.spelling.now 2 c.if-length-eq2.true

pub returns-then-length-eq3 : goal.returns-then-length-eq3
unfolding symbol_table spellings
returns-then-length-eq3 c = c.look_up-then-length-eq3.ensures ∙ among_equal c.args.spelling.now 3 c.if-length-eq3.true

pub returns-else-length-eq3 : goal.returns-else-length-eq3
unfolding symbol_table spellings
returns-else-length-eq3 c =
    c.look_up-else-length-eq3.ensures ∙ among_longer c.args.spelling.now c.if-length-eq1.false c.if-length-eq2.false c.if-length-eq3.false
