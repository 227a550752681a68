use Rattle.tla_lexer.proofs.SymbolLemmas.{symbol_found, stray_found}
use Rattle.tla_lexer.proofs.longest.symbol.Goals as goal

pub returns-in_ok-piece-in-Some : goal.returns-in_ok-piece-in-Some
returns-in_ok-piece-in-Some c = symbol_found c.args.bytes.now _ _ _ c.requires.symbolic c.in-Some.ensures.found c.in_ok-piece-in-Some.ensures

pub returns-in-None : goal.returns-in-None
returns-in-None c = stray_found c.args.bytes.now c.requires.some c.requires.symbolic c.in-None.ensures.none
