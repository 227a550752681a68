use Rattle.std.proofs.Common.{[]}
use Rattle.cell_arena.proofs.Growing.{Grows-refl, Grows-trans}
use Rattle.typed_cells.proofs.DefaultCells.{defaults-all, defaults-none, defaults-turn, text-later}
use Rattle.step_encoder.proofs.names.default_cells.Goals as goal

pub loop-i-init : goal.loop-i-init
loop-i-init c = record {
  grows = Grows-refl _;
  text = c.requires;
  cells = defaults-none c.args.b.now c.args.types.now _ c.new-cells.ensures.items;
}

pub loop-i-preserved : goal.loop-i-preserved
loop-i-preserved c =
    let i = c.loop-i.invariant in
    record {
      grows = Grows-trans _ _ _ i.grows c.in_ok-id.ensures.grows;
      text = text-later _ _ [] i.text c.in_ok-id.ensures.grows;
      cells = defaults-turn _ _ c.args.types.now c.loop-i.i c.index-types-i.result _ _ _
          c.loop-i-test.true c.index-types-i.is i.cells c.in_ok-id.ensures.grows
          (record { cell = c.in_ok-id.ensures.cell; value = c.in_ok-id.ensures.value }) c.in_ok-push.ensures.items;
    }

pub returns-clause-cells : goal.returns-clause-cells
returns-clause-cells c = defaults-all _ _ _ _ c.loop-i-test.false c.loop-i.invariant.cells
