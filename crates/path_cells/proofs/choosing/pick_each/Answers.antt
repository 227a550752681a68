use Rattle.std.proofs.Common.{refl}
use Rattle.cell_arena.proofs.Growing.{Grows-refl, Grows-trans}
use Rattle.path_cells.proofs.Chosen.{choices_none, choices_turn, choices_whole, none_of, set_here}
use Rattle.path_cells.proofs.FreeChoices.{picks_none}
use Rattle.path_cells.proofs.choosing.pick_each.Goals as goal

pub loop-i-init : goal.loop-i-init
loop-i-init c = record {
  grows = Grows-refl c.args.b.now;
  picks = rw (c.new-cells.ensures.items, c.new-lits.ensures.items) (picks_none c.args.b.now);
}

pub pick-requires : goal.pick-requires
pick-requires c =
    set_here c.args.b.now c.loop-i.b c.args.xs.now c.loop-i.i _ _ c.loop-i-test.true refl c.requires c.loop-i.invariant.grows

pub loop-i-preserved : goal.loop-i-preserved
loop-i-preserved c =
    let i = c.loop-i.invariant in
    let p = rw c.in-Some.is at c.in_ok-picked.ensures.picks in
    rw (c.in_ok-push.ensures.items, c.in_ok-push-2.ensures.items)
    (record {
      grows = Grows-trans _ _ _ i.grows c.in_ok-picked.ensures.grows;
      picks = choices_turn c.args.b.now c.loop-i.b c.args.xs.now c.loop-i.i _ _ c.loop-i-test.true refl c.requires i.grows _ _ _ _ c.in_ok-picked.ensures.grows i.picks p;
    })

pub returns-in_default-clause-none : goal.returns-in_default-clause-none
returns-in_default-clause-none c =
    λ _. choices_none c.args.b.now c.loop-i.b c.args.xs.now c.loop-i.i _ _ c.loop-i-test.true refl c.requires c.loop-i.invariant.grows
    (c.in_ok-picked.ensures.none.0 (none_of _ (λ x e. c.in_default.not-Some x e)))

pub returns-clause-picks : goal.returns-clause-picks
returns-clause-picks c =
    choices_whole c.args.b.now c.loop-i.b c.args.xs.now c.loop-i.i c.loop-i.cells.items c.loop-i.lits.items c.loop-i-test.false c.loop-i.invariant.picks
