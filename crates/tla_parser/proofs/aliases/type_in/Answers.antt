use Rattle.tla_parser.proofs.Notes.{type_none, type_other, type_some}
use Rattle.std.proofs.Common.{sym}
use Rattle.tla_parser.proofs.aliases.type_in.Goals as goal
use Rattle.tla_parser.proofs.aliases.type_in.Goals.{else-end-bytes-via-then-end-bytes+else-bytes-end-eq59, else-end-bytes-via-else-end-bytes}

pub returns-in_ok-text : goal.returns-in_ok-text
returns-in_ok-text c = type_some c.args.name.now c.args.bytes.now c.in_ok-name.name c.in_ok-text.field-0 c.run_length-end.result c.run_length-end.ensures c.if-end-bytes.true c.if-bytes-end-eq59.true c.in_ok-name.ensures c.in_ok-text.ensures

pub returns-else-end-bytes : goal.returns-else-end-bytes
returns-else-end-bytes c = elim c.else-end-bytes.branch [
  | else-end-bytes-via-then-end-bytes+else-bytes-end-eq59 w ↦ type_other c.args.name.now c.args.bytes.now c.run_length-end.result c.run_length-end.ensures w.if-end-bytes.true w.if-bytes-end-eq59.false
  | else-end-bytes-via-else-end-bytes w ↦ sym (type_none c.args.name.now c.args.bytes.now c.run_length-end.result c.run_length-end.ensures w.if-end-bytes.false)
]
