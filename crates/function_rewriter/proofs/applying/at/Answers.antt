use Rattle.std.proofs.Common.{refl, sym, ◌∙◌, ap, arith, length}
use Rattle.cell_arena.proofs.Growing.{Grows-trans, Grows-formula}
use Rattle.function_rewriter.proofs.ArrowPairs.{function-pairs}
use Rattle.function_rewriter.proofs.Applies.{applied, arrows-and-argument, arrows-count}
use Rattle.function_rewriter.proofs.applying.at.Goals as goal

pub find-requires-clause-arrows : goal.find-requires-clause-arrows
find-requires-clause-arrows c = arrows-and-argument c.args.b.now _ _ _ _ c.in-Fun.arrows _ c.requires c.kind.ensures.same c.in-Fun.is c.as_slice-list.ensures c.kind.ensures.held

pub choose_first-requires : goal.choose_first-requires
choose_first-requires c =
    let h = c.in_ok-hits.ensures.hits in
    let n = ap length c.as_slice-list.ensures in
    let same = arrows-count c.args.b.now.arena.kinds c.args.f _ c.in-Fun.arrows _ c.kind.ensures.same c.in-Fun.is c.as_slice-list.ensures in
    rw c.as_slice-found.ensures.value (record {
      function = record { from = c.requires.from; to = c.requires.to; is = c.requires.function };
      some = let m = h.count in omega arith;
      one_each = h.count ∙ same;
      named = h.named;
    })

pub returns-in_err-cell-clause-grows : goal.returns-in_err-cell-clause-grows
returns-in_err-cell-clause-grows c = Grows-trans _ _ _ (Grows-formula _ _ c.in_ok-hits.ensures.grows refl) c.in_err-cell.ensures.grows

pub returns-clause-grows : goal.returns-clause-grows
returns-clause-grows c = Grows-trans _ _ _ (Grows-formula _ _ c.in_ok-hits.ensures.grows refl) c.in_ok-cell.ensures.grows

pub returns-clause-applies : goal.returns-clause-applies
returns-clause-applies c =
    let b = c.args.b.now in
    let h = rw c.as_slice-list.ensures at c.in_ok-hits.ensures.hits in
    let o = rw c.as_slice-list.ensures at c.in_ok-hits.ensures.outside in
    applied b _ _ c.args.f c.args.x _ c.in-Fun.arrows _ _ (sym c.kind.ensures.same ∙ c.in-Fun.is) refl c.in_ok-cell.ensures.grows
    (λ a. function-pairs b.arena a _ c.args.f c.in-Fun.arrows (c.kind.ensures.decodes a) c.in-Fun.is) h o
    (record { from = c.requires.from; to = c.requires.to; is = c.requires.function }) (rw c.as_slice-found.ensures.value at c.in_ok-cell.ensures.chosen)
