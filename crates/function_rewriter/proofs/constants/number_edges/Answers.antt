use Rattle.std.proofs.Common.{ℕ, ◌+◌, pos, IsTrue, subst, sym, arith}
use Rattle.tla_values.specs.Integers.{fits_width}
use Rattle.cell_arena.proofs.Growing.{Grows-refl, Grows-trans}
use Rattle.function_rewriter.proofs.KnownValues.{constants-none, numbers-turn, fits-below, width-later}
use Rattle.function_rewriter.proofs.constants.number_edges.Goals as goal

pub number_cell-requires : goal.number_cell-requires
number_cell-requires c =
    let fits : ℕ → Type 0 = λ w. IsTrue (fits_width w (pos (c.loop-i.i + 1))) in
    subst fits (sym (width-later _ _ c.loop-i.invariant.grows)) (fits-below c.args.b.now.arena.width (c.loop-i.i + 1) c.args.count (omega arith) c.requires)

pub loop-i-init : goal.loop-i-init
loop-i-init c = record { grows = Grows-refl _; edges = constants-none _ _ _ c.new-edges.ensures.items }

pub loop-i-preserved : goal.loop-i-preserved
loop-i-preserved c =
    let i = c.loop-i.invariant in
    record {
      grows = Grows-trans _ _ _ i.grows c.in_ok-id.ensures.grows;
      edges = numbers-turn c.args.b.now _ _ _ _ c.top-top.result _ i.grows c.in_ok-id.ensures.grows c.top-top.ensures.below c.top-top.ensures.forced c.in_ok-push.ensures.items
          c.loop-i.i i.edges c.in_ok-id.ensures.number;
    }
