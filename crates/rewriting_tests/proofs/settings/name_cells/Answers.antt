use Rattle.cell_arena.proofs.Growing.{Grows-refl, Grows-trans}
use Rattle.rewriting_tests.proofs.TypedParts.{types-all, types-none, types-turn}
use Rattle.rewriting_tests.proofs.ValueCells.{kind-of-name}
use Rattle.rewriting_tests.proofs.settings.name_cells.Goals as goal

pub loop-i-init : goal.loop-i-init
loop-i-init c =
    record {
      grows = Grows-refl _;
      cells = types-none c.args.b.now.arena.kinds c.args.types.now _ c.new-cells.ensures.items;
    }

pub name_cell-requires : goal.name_cell-requires
name_cell-requires c = kind-of-name c.args.types.now c.loop-i.i _ c.requires c.loop-i-test.true c.index-types-i.is

pub loop-i-preserved : goal.loop-i-preserved
loop-i-preserved c =
    let i = c.loop-i.invariant in
    record {
      grows = Grows-trans _ _ _ i.grows c.in_ok-id.ensures.grows;
      cells = types-turn _ _ c.args.types.now c.loop-i.i c.index-types-i.result _ _ _
          c.loop-i-test.true c.index-types-i.is i.cells c.in_ok-id.ensures.grows c.in_ok-id.ensures.cell
          c.in_ok-push.ensures.items;
    }

pub returns-clause-cells : goal.returns-clause-cells
returns-clause-cells c = types-all _ _ _ _ c.loop-i-test.false c.loop-i.invariant.cells
