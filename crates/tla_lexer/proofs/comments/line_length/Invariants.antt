use Rattle.std.proofs.Common.{◌≡◌, take, true}
use Rattle.std.specs.Prelude.{not}
use Rattle.std.specs.List.{list_all}
use Rattle.tla_lexer.specs.Classes.{is_line_feed}
use Rattle.tla_lexer.proofs.comments.line_length.Given as goal

abbrev pub invariant-loop-i : goal.invariant-loop-i
invariant-loop-i l = list_all (λ b. not (is_line_feed b)) (take l.i l.bytes) ≡ true
