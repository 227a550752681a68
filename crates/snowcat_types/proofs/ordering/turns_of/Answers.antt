use Rattle.std.proofs.Common.{◌∙◌, ◌++◌, ◌∷◌, List, [], ap, map, subst, sym}
use Rattle.snowcat_types.specs.declared.ordering.Turn.{Turn}
use Rattle.snowcat_types.specs.inner.Awaited.{AreTurns}
use Rattle.snowcat_types.proofs.Leaving.{at_read}
use Rattle.snowcat_types.proofs.Turning.{turns_more, turns_none}
use Rattle.snowcat_types.proofs.ordering.turns_of.Goals as goal

pub loop-i-init : goal.loop-i-init
loop-i-init c =
    let P : List Turn → Type 0 = λ z. AreTurns (map (λ w. w.now) c.args.waits.now) 0 z in
    subst P (sym c.new-all.ensures.items) (turns_none (map (λ w. w.now) c.args.waits.now))

pub loop-i-preserved : goal.loop-i-preserved
loop-i-preserved c =
    turns_more (map (λ w. w.now) c.args.waits.now) c.loop-i.i c.loop-i.all.items c.push.new.self.items c.index-waits-i.result.now c.loop-i.invariant
    (at_read (λ w. w.now) c.args.waits.now c.loop-i.i c.index-waits-i.result c.loop-i-test.true c.index-waits-i.is)
    (c.in_ok-push.ensures.items ∙ ap (λ z. c.loop-i.all.items ++ z ∷ []) c.turn_of.ensures)
