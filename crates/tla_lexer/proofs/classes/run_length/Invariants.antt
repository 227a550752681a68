use Rattle.std.proofs.Common.{◌≡◌, take, true}
use Rattle.std.specs.List.{list_all}
use Rattle.tla_lexer.specs.Classes.{is_in}
use Rattle.tla_lexer.proofs.classes.run_length.Given as goal

abbrev pub invariant-loop-i : goal.invariant-loop-i
invariant-loop-i l = list_all (is_in l.class) (take l.i l.bytes) ≡ true
