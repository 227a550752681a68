use Rattle.std.proofs.Common.{◌∙◌, rules, sym}
use Rattle.snowcat_types.proofs.Turning.{passed_more}
use Rattle.snowcat_types.proofs.ordering.Turns.first.Goals as goal

pub cursor-preserved : goal.cursor-preserved
cursor-preserved c = record {
  same = c.cursor.invariant.same;
  passed =
      passed_more c.args.marks.now c.cursor.self.all.items c.cursor.self.passed c.index.result.now (search rules) c.index.ensures
      (sym c.is_marked.ensures ∙ c.if-is_marked.false) c.cursor.invariant.passed;
}
