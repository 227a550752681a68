use Rattle.std.proofs.Common.{◌≡◌, ◌<◌, ◌≤◌, ◌+◌, ◌*◌, take, fold, count_by}
use Rattle.tla_lexer.specs.Classes.{is_line_feed}
use Rattle.tla_lexer.specs.Places.{next_column}
use Rattle.tla_lexer.proofs.position.Position.behind.Given as goal

abbrev pub invariant-loop-byte : goal.invariant-loop-byte
invariant-loop-byte l = record {
  line : l.line ≡ l.fn.self.line + count_by is_line_feed (take l.byte-index l.bytes);
  column : l.column ≡ fold next_column l.fn.self.column (take l.byte-index l.bytes);
  few_lines : l.line ≤ l.fn.self.line + l.byte-index;
  few_columns : l.column ≤ l.fn.self.column + 8 * l.byte-index;
  some : 0 < l.column;
}
