use Rattle.std.proofs.Common.{◌≡◌, ◌+◌, ◌∙◌, ap, get_or, subst, sym, take, Vec, Global}
use Rattle.form_cells.specs.inner.Listed.{GivesResults}
use Rattle.form_cells.proofs.BelongLemmas.{Edge, edge-is, edge_at, some_of}
use Rattle.cell_arena.proofs.Growing.{Grows-refl, Grows-trans, Satisfies-before}
use Rattle.form_cells.proofs.FunctionLemmas.{at-asked, gives-all, gives-none, gives-skip, gives-turn, no-arrows}
use Rattle.form_cells.proofs.functions.results_at.Goals.{in-Some+in_ok-push, in_default-2}
use Rattle.form_cells.proofs.functions.results_at.Goals as goal

pub at-requires : goal.at-requires
at-requires c = at-asked c.args.b.now c.args.f c.args.arguments.now c.requires c.loop-i.b c.loop-i.i (edge_at c.args.arguments.now c.loop-i.i) c.loop-i.invariant.grows c.loop-i-test.true
    (edge-is c.args.arguments.now c.loop-i.i c.loop-i-test.true)

pub loop-i-init : goal.loop-i-init
loop-i-init c = record { grows = Grows-refl _; gives = gives-none c.args.b.now c.args.f c.args.arguments.now c.requires _ c.new-results.ensures.items }

pub loop-i-preserved : goal.loop-i-preserved
loop-i-preserved c =
    let i = c.loop-i.invariant in
    let e : Edge = edge_at c.args.arguments.now c.loop-i.i in
    let is : e ≡ get_or c.args.arguments.now c.loop-i.i e = edge-is c.args.arguments.now c.loop-i.i c.loop-i-test.true in
    record {
      grows = Grows-trans _ _ _ i.grows c.in_ok-cell.ensures.grows;
      gives = elim c.match-branch-2.branch [
        | in-Some+in_ok-push w ↦ gives-turn c.args.b.now c.args.f c.args.arguments.now c.requires c.loop-i.b _ c.loop-i.i e (w.in-Some.cell, w.in-Some.field-0-1) _ _ i.grows c.in_ok-cell.ensures.grows
            c.loop-i-test.true is i.gives (some_of _ _ _ c.in_ok-cell.ensures.applies w.in-Some.is) (ap (λ (v : Vec Edge Global). v.items) w.results-is ∙ w.in_ok-push.ensures.items)
        | in_default-2 w ↦ subst (λ (v : Vec Edge Global). GivesResults c.args.b.now c.at.new.b c.args.f (take (c.loop-i.i + 1) c.args.arguments.now) v.items) (sym w.results-is)
            (gives-skip c.args.b.now c.args.f c.args.arguments.now c.requires c.loop-i.b _ c.loop-i.i e _ i.grows c.in_ok-cell.ensures.grows c.loop-i-test.true is i.gives
            (λ a s. no-arrows c.args.b.now c.args.f c.args.arguments.now c.requires c.loop-i.b c.loop-i.i e i.grows c.loop-i-test.true is
            (c.in_ok-cell.ensures.none.0 w.in_default-2.is) a (Satisfies-before _ _ a c.in_ok-cell.ensures.grows s)))
      ];
    }

pub returns-clause-gives : goal.returns-clause-gives
returns-clause-gives c = gives-all c.args.b.now c.args.f c.args.arguments.now c.requires _ _ _ c.loop-i-test.false c.loop-i.invariant.gives
