use Rattle.std.proofs.Common.{refl}
use Rattle.cell_arena.proofs.Growing.{Grows-formula, Grows-trans}
use Rattle.cell_merge.specs.Sorts.{truth}
use Rattle.outcome_cells.proofs.Later.{AreCells-behind, AreCells-below}
use Rattle.expr_rewriter.proofs.FormSides.{can_test, left_later, relate_shows, relate_sort, right_later}
use Rattle.expr_rewriter.proofs.relating.relate.Goals as goal

pub own-requires : goal.own-requires
own-requires c = can_test c.args.b.now c.args.e.now c.args.x c.args.y.now c.requires

pub behind_two-requires-clause-x_below : goal.behind_two-requires-clause-x_below
behind_two-requires-clause-x_below c =
    left_later c.args.b.now c.args.e.now c.args.x c.args.y.now c.requires c.own.new.b c.in_ok-test.ensures.grows

pub behind_two-requires-clause-y_below : goal.behind_two-requires-clause-y_below
behind_two-requires-clause-y_below c =
    right_later c.args.b.now c.args.e.now c.args.x c.args.y.now c.requires c.own.new.b c.in_ok-test.ensures.grows

pub behind_two-requires-clause-own_below : goal.behind_two-requires-clause-own_below
behind_two-requires-clause-own_below c = AreCells-below c.own.new.b truth c.in_ok-test.test
    c.in_ok-test.ensures.shows.cells

pub returns-in_err-r-clause-grows : goal.returns-in_err-r-clause-grows
returns-in_err-r-clause-grows c =
    Grows-trans c.args.b.now c.own.new.b _ c.in_ok-test.ensures.grows
    (Grows-formula c.own.new.b _ c.in_err-r.ensures.grows refl)

pub returns-clause-sort : goal.returns-clause-sort
returns-clause-sort c =
    relate_sort c.args.b.now c.args.e.now c.args.x c.args.y.now c.requires _ c.in_ok-r.r
    (AreCells-behind c.own.new.b _ truth c.in_ok-test.test c.in_ok-r.r
    (Grows-formula c.own.new.b _ c.in_ok-r.ensures.grows refl)
    c.in_ok-test.ensures.shows.cells c.in_ok-r.ensures.behind.cell c.in_ok-r.ensures.behind.below)

pub returns-clause-relates : goal.returns-clause-relates
returns-clause-relates c =
    relate_shows c.args.b.now c.args.e.now c.args.x c.args.y.now c.requires c.own.new.b _ c.in_ok-test.test c.in_ok-r.r
    (Grows-formula c.own.new.b _ c.in_ok-r.ensures.grows refl) refl c.in_ok-test.ensures.shows c.in_ok-r.ensures.behind

pub returns-clause-grows : goal.returns-clause-grows
returns-clause-grows c =
    Grows-trans c.args.b.now c.own.new.b _ c.in_ok-test.ensures.grows
    (Grows-formula c.own.new.b _ c.in_ok-r.ensures.grows refl)
