use Rattle.tla_lexer.specs.Pieces.{is_other}
use Rattle.tla_lexer.proofs.Fronts.{StartsIn-some}
use Rattle.tla_lexer.proofs.Heads.{symbolic_other}
use Rattle.tla_lexer.proofs.SymbolLemmas.{short_other}
use Rattle.tla_lexer.proofs.longest.other.Goals as goal

pub symbol-requires : goal.symbol-requires
symbol-requires c =
    let bytes = c.args.bytes.now in
    record { some = StartsIn-some is_other bytes c.requires; symbolic = symbolic_other bytes c.requires; short = short_other bytes c.requires }
