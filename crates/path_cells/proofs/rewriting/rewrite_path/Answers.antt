use Rattle.std.proofs.Common.{sym, subst, ap, ◌∙◌}
use Rattle.sat_formula.specs.declared.lit.Lit.{Lit}
use Rattle.cell_arena.proofs.Growing.{Grows-refl, Grows-trans}
use Rattle.path_walks.specs.Paths.{CanRewritePath, HasNextSorts, IsPathCells}
use Rattle.path_cells.specs.inner.Walking.{no_steps}
use Rattle.path_cells.proofs.Paths.{path_cells, path_go, path_sorts, path_turn}
use Rattle.path_cells.proofs.Turns.{walking_none}
use Rattle.path_cells.proofs.rewriting.rewrite_path.Goals as goal

pub loop-i-init : goal.loop-i-init
loop-i-init c = record {
  grows = Grows-refl c.args.b.now;
  walks = walking_none c.args.b.now c.args.env.now c.as_slice-steps.result.now c.in_ok-walk.walk
      (subst (CanRewritePath c.args.b.now c.args.env.now) (sym c.as_slice-steps.ensures) c.requires)
      (rw c.top-top.ensures.same at c.top-top.ensures.forced) (rw c.top-top.ensures.same at c.top-top.ensures.below) c.in_ok-walk.ensures.env
      (c.in_ok-walk.ensures.cells ∙ ap (λ (l : Lit). no_steps l c.args.env.now.next) c.top-top.ensures.same);
}

pub advance-requires : goal.advance-requires
advance-requires c =
    path_go c.args.b.now c.args.env.now c.as_slice-steps.result.now
    (subst (CanRewritePath c.args.b.now c.args.env.now) (sym c.as_slice-steps.ensures) c.requires)
    (rw c.top-top.ensures.same at c.top-top.ensures.forced) c.loop-i.b c.loop-i.i c.index-steps-i.result c.loop-i-test.true c.index-steps-i.is
    c.loop-i.walk c.loop-i.invariant.walks

pub loop-i-preserved : goal.loop-i-preserved
loop-i-preserved c = record {
  grows = Grows-trans c.args.b.now c.loop-i.b c.advance.new.b c.loop-i.invariant.grows c.in_ok-walk-2.ensures.grows;
  walks = path_turn c.args.b.now c.args.env.now c.as_slice-steps.result.now
      (subst (CanRewritePath c.args.b.now c.args.env.now) (sym c.as_slice-steps.ensures) c.requires)
      (rw c.top-top.ensures.same at c.top-top.ensures.forced) c.loop-i.b c.loop-i.i c.index-steps-i.result c.loop-i-test.true c.index-steps-i.is
      c.loop-i.walk c.loop-i.invariant.walks c.advance.new.b c.in_ok-walk-2.walk c.in_ok-walk-2.ensures.turn;
}

pub returns-clause-cells : goal.returns-clause-cells
returns-clause-cells c =
    subst (λ zs. IsPathCells c.args.b.now c.loop-i.b c.args.env.now zs c.loop-i.walk.cells) c.as_slice-steps.ensures
    (path_cells c.args.b.now c.loop-i.b c.args.env.now c.as_slice-steps.result.now c.loop-i.i c.loop-i.walk c.loop-i-test.false c.loop-i.invariant.walks)

pub returns-clause-sorts : goal.returns-clause-sorts
returns-clause-sorts c =
    subst (λ zs. HasNextSorts c.loop-i.b c.args.env.now zs c.loop-i.walk.cells) c.as_slice-steps.ensures
    (path_sorts c.args.b.now c.loop-i.b c.args.env.now c.as_slice-steps.result.now c.loop-i.i c.loop-i.walk c.loop-i.invariant.walks)
