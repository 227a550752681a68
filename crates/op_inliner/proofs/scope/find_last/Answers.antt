use Rattle.std.proofs.Common.{arith, ◌≡◌, ◌+◌, ◌-◌, ◌<◌, length, sym, ◌∙◌}
use Rattle.op_inliner.proofs.NameLemmas.{find_last-hit, find_last-miss}
use Rattle.op_inliner.specs.inner.Sums.{entry_of}
use Rattle.op_inliner.proofs.scope.find_last.Goals as goal

pub returns-then-same_name-clause-some : goal.returns-then-same_name-clause-some
returns-then-same_name-clause-some c =
    let up : c.loop-i.i ≡ (c.loop-i.i - 1) + 1 = omega arith in
    let lt : c.loop-i.i - 1 < length c.args.scope.now = omega arith in
    sym c.loop-i.invariant.1
    ∙ find_last-hit c.args.name.now entry_of c.args.scope.now (c.loop-i.i - 1) c.loop-i.i c.index-scope-i.result up lt c.index-scope-i.is (sym c.if-same_name.ensures)

pub loop-i-preserved : goal.loop-i-preserved
loop-i-preserved c =
    let up : c.loop-i.i ≡ (c.loop-i.i - 1) + 1 = omega arith in
    let lt : c.loop-i.i - 1 < length c.args.scope.now = omega arith in (
      omega arith,
      sym (find_last-miss c.args.name.now entry_of c.args.scope.now (c.loop-i.i - 1) c.loop-i.i c.index-scope-i.result up lt c.index-scope-i.is (sym c.if-same_name.ensures)) ∙ c.loop-i.invariant.1,
    )
