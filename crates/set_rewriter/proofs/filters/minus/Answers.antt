use Rattle.std.proofs.Common.{refl}
use Rattle.cell_arena.proofs.Growing.{Grows-trans, Grows-formula}
use Rattle.set_rewriter.proofs.Marking.{marked-typed}
use Rattle.set_rewriter.proofs.filters.minus.Goals as goal

pub returns-in_err-id-clause-grows : goal.returns-in_err-id-clause-grows
returns-in_err-id-clause-grows c = Grows-trans _ _ _ (Grows-formula _ _ c.in_ok-keep.ensures.grows refl) c.in_err-id.ensures.grows

pub returns-clause-grows : goal.returns-clause-grows
returns-clause-grows c = Grows-trans _ _ _ (Grows-formula _ _ c.in_ok-keep.ensures.grows refl) c.in_ok-id.ensures.grows

pub returns-clause-made : goal.returns-clause-made
returns-clause-made c =
    marked-typed c.args.b.now _ c.filter.new.b c.args.x c.args.y _ _ c.in_ok-keep.keep.items refl c.requires c.in_ok-id.ensures.grows.formula c.in_ok-keep.ensures.tests
    (rw c.as_slice.ensures.value at c.in_ok-id.ensures.made)
