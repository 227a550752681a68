use Rattle.std.proofs.Common.{◌≡◌, ◌+◌, ◌≤◌, None, [], drop, length, take}
use Rattle.std.specs.Prelude.{IfSome, option_map}
use Rattle.snowcat_rows.specs.LiteralTypes.{last_of}
use Rattle.snowcat_rows.proofs.literals.last_of.Given as goal

abbrev pub invariant-loop-at : goal.invariant-loop-at
invariant-loop-at l =
    (last_of [] l.text None ≡ last_of (take l.at l.text) (drop l.at l.text) (option_map (λ i. (take i l.text, drop (i + 4) l.text)) l.found))
    × IfSome l.found (λ i. i + 4 ≤ length l.text)
