use Rattle.std.proofs.Common.{arith, get_or}
use Rattle.std.proofs.lemmas.List.{get_or_default}
use Rattle.form_choices.proofs.Makings.{arrows-all, arrows-more, arrows-none, no_cell, no_edge}
use Rattle.form_choices.proofs.making.arrows.Goals as goal

pub loop-i-init : goal.loop-i-init
loop-i-init c = arrows-none c.args.edges.now c.args.cells.now _ c.new-out.ensures.items

pub loop-i-preserved : goal.loop-i-preserved
loop-i-preserved c =
    let lt = c.loop-i-test.true in
    let n = c.requires in
    arrows-more c.args.edges.now c.args.cells.now c.loop-i.i (get_or c.args.edges.now c.loop-i.i no_edge) (get_or c.args.cells.now c.loop-i.i no_cell) _ _ lt n
    (get_or_default c.args.edges.now c.loop-i.i _ _ lt) (get_or_default c.args.cells.now c.loop-i.i _ _ (omega arith)) c.loop-i.invariant c.in_ok-push.ensures.items

pub returns : goal.returns
returns c = arrows-all c.args.edges.now c.args.cells.now c.loop-i.i _ c.loop-i-test.false c.requires c.loop-i.invariant
