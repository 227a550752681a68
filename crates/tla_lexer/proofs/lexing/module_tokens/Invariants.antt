use Rattle.std.proofs.Common.{◌≡◌, ◌≤◌, ◌-◌, length, map, take}
use Rattle.tla_lexer.specs.Places.{line_behind, column_behind}
use Rattle.tla_lexer.proofs.RunLemmas.{Reached}
use Rattle.tla_lexer.proofs.lexing.module_tokens.Given as goal

abbrev pub invariant-loop-at : goal.invariant-loop-at
invariant-loop-at l = record {
  within : l.at ≤ length l.bytes;
  reached : Reached l.file l.bytes l.start l.at l.tokens.items (map (λ s. s.now) l.notes.items);
  line : l.position.line ≡ line_behind (take l.at l.bytes);
  column : l.position.column ≡ column_behind (take l.at l.bytes);
}

abbrev pub decreases-loop-at : goal.decreases-loop-at
decreases-loop-at l = length l.bytes - l.at
