use Rattle.std.proofs.Common.{sym, ◌∙◌}
use Rattle.kernel_trees.specs.TypeKinds.{Kind}
use Rattle.typed_cells.specs.KindSorts.{sort_of}
use Rattle.expr_rewriter.proofs.LeafRows.{bound_rewrites, bound_sort, constant_rewrites, constant_sort}
use Rattle.expr_rewriter.proofs.LeafRows.{constant_texts_are}
use Rattle.expr_rewriter.proofs.LeafRows.{name_found, name_rewrites, name_sort, nocase_rewrites}
use Rattle.expr_rewriter.proofs.leaves.leaf.Goals as goal

pub constant-requires : goal.constant-requires
constant-requires c = constant_texts_are c.args.b.now c.args.e.now _ _ c.requires c.in-Const.is

pub returns-in_ok-cells-in-Const-clause-sort : goal.returns-in_ok-cells-in-Const-clause-sort
returns-in_ok-cells-in-Const-clause-sort c =
    constant_sort c.args.b.now _ c.args.e.now _ _ _ c.requires c.in-Const.is c.in_ok-cells-in-Const.ensures.cells

pub returns-in_ok-cells-in-Const-clause-rewrites : goal.returns-in_ok-cells-in-Const-clause-rewrites
returns-in_ok-cells-in-Const-clause-rewrites c =
    constant_rewrites c.args.b.now _ c.args.e.now _ _ _ c.in_ok-cells-in-Const.ensures.grows c.in-Const.is
    c.in_ok-cells-in-Const.ensures.shows

pub returns-in-Some-clause-sort : goal.returns-in-Some-clause-sort
returns-in-Some-clause-sort c =
    name_sort c.args.b.now c.args.e.now _ c.in-Name.i c.in-Name.primed _ _ c.requires c.in-Name.is
    (name_found c.args.now.now c.args.next.now c.args.bound.now c.in-Name.i c.in-Name.primed _ _ c.name_at.ensures
    c.in-Some.is) c.sure.ensures.cells

pub returns-in-Some-clause-rewrites : goal.returns-in-Some-clause-rewrites
returns-in-Some-clause-rewrites c =
    name_rewrites c.args.b.now c.args.e.now _ c.in-Name.i c.in-Name.primed _ _ c.in-Name.is
    (name_found c.args.now.now c.args.next.now c.args.bound.now c.in-Name.i c.in-Name.primed _ _ c.name_at.ensures
    c.in-Some.is) c.sure.ensures.shows

pub returns-in-Some-last_bound-clause-sort : goal.returns-in-Some-last_bound-clause-sort
returns-in-Some-last_bound-clause-sort c =
    bound_sort c.args.b.now c.args.e.now _ c.in-Bound.n _ _ c.requires c.in-Bound.is
    (sym c.last_bound.ensures ∙ c.in-Some-last_bound.is) c.sure-in-Bound.ensures.cells

pub returns-in-Some-last_bound-clause-rewrites : goal.returns-in-Some-last_bound-clause-rewrites
returns-in-Some-last_bound-clause-rewrites c =
    bound_rewrites c.args.b.now c.args.e.now _ c.in-Bound.n _ _ c.in-Bound.is
    (sym c.last_bound.ensures ∙ c.in-Some-last_bound.is) c.sure-in-Bound.ensures.shows

pub returns-in_ok-id-in-NoCase-clause-sort : goal.returns-in_ok-id-in-NoCase-clause-sort
returns-in_ok-id-in-NoCase-clause-sort c =
    λ (a : Kind) is. c.wrong_where.ensures.cells (sort_of a) (c.in_ok-id-in-NoCase.ensures.cell.sort a is)

pub returns-in_ok-id-in-NoCase-clause-rewrites : goal.returns-in_ok-id-in-NoCase-clause-rewrites
returns-in_ok-id-in-NoCase-clause-rewrites c =
    nocase_rewrites _ c.args.e.now _ _ _ _ c.in-NoCase.is c.in_ok-id-in-NoCase.ensures.cell.there
    c.top-top.ensures.below
    c.top-top.ensures.forced c.wrong_where.ensures.shows
