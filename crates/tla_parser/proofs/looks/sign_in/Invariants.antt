use Rattle.std.proofs.Common.{◌≡◌, drop, map}
use Rattle.tla_parser.specs.Signs.{sign_in}
use Rattle.tla_parser.proofs.looks.sign_in.Given as goal

abbrev pub invariant-loop-row : goal.invariant-loop-row
invariant-loop-row l =
    sign_in (map (λ row. (row.0.now, row.1)) l.rows) l.spelling ≡ sign_in (map (λ row. (row.0.now, row.1)) (drop l.row-index l.rows)) l.spelling
