use Rattle.std.proofs.Common.{◌≡◌, drop, map}
use Rattle.tla_lexer.specs.Symbols.{look_up}
use Rattle.tla_lexer.proofs.symbols.look_up.Given as goal

abbrev pub invariant-loop-row : goal.invariant-loop-row
invariant-loop-row l =
    look_up l.spelling (map (λ row. (row.0.now, row.1.now)) l.table) ≡ look_up l.spelling (map (λ row. (row.0.now, row.1.now)) (drop l.row-index l.table))
