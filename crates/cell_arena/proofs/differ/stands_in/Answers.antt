use Rattle.cell_arena.proofs.Differing.{member-found, member-passed}
use Rattle.cell_arena.proofs.differ.stands_in.Goals as goal

pub returns-then-same_text : goal.returns-then-same_text
returns-then-same_text c =
    member-found c.args.text.now c.args.texts.now _ c.other-item.result _ c.loop-other-test.true c.other-item.is c.same_text.ensures c.loop-other.invariant c.if-same_text.true

pub loop-other-preserved : goal.loop-other-preserved
loop-other-preserved c =
    member-passed c.args.text.now c.args.texts.now _ c.other-item.result _ c.loop-other-test.true c.other-item.is c.same_text.ensures c.loop-other.invariant c.if-same_text.false
