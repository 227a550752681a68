use Rattle.std.proofs.Common.{arith, get_or, refl, subst}
use Rattle.trace_text.specs.inner.LineParts.{HasNoLine}
use Rattle.trace_text.proofs.BlockLines.{bad_line, begins_more, line_shorter}
use Rattle.trace_text.proofs.blocks.read_lines.Goals as goal

pub returns-in-Err-NoValue-clause-lines : goal.returns-in-Err-NoValue-clause-lines
returns-in-Err-NoValue-clause-lines c =
    bad_line c.args.names.now c.args.bytes.now c.loop-i.rest.now c.loop-i.i _ c.loop-i.values c.index-names-i.result c.loop-i-test.true refl c.loop-i.invariant.begins
    (subst (HasNoLine (get_or c.args.names.now c.loop-i.i c.index-names-i.result).name c.loop-i.rest.now) c.in-Err-NoValue.field-0-is c.in-Err-NoValue.ensures)

pub loop-i-preserved : goal.loop-i-preserved
loop-i-preserved c = record {
  begins = begins_more c.args.names.now c.args.bytes.now c.loop-i.rest.now c.in-Ok.more.now c.loop-i.i c.loop-i.values _ c.index-names-i.result c.in-Ok.value
      c.loop-i-test.true c.loop-i.invariant.begins c.in-Ok.ensures c.in_ok-push-in-Ok.ensures;
  room = omega (arith, c.loop-i.invariant.room, line_shorter (get_or c.args.names.now c.loop-i.i c.index-names-i.result).name c.loop-i.rest.now c.in-Ok.value c.in-Ok.more.now c.in-Ok.ensures);
}
