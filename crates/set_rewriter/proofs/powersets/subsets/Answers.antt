use Rattle.std.proofs.Common.{refl, sym, ap, ◌∙◌}
use Rattle.cell_arena.specs.Decode.{decode, kind_value}
use Rattle.cell_arena.proofs.Growing.{Grows-trans, Grows-formula}
use Rattle.cell_merge.proofs.Edges.{edges-sort}
use Rattle.set_rewriter.proofs.Powers.{powerset}
use Rattle.set_rewriter.proofs.powersets.subsets.Goals as goal

pub returns-in_err-id-clause-grows : goal.returns-in_err-id-clause-grows
returns-in_err-id-clause-grows c = Grows-trans _ _ _ (Grows-formula _ _ c.in_ok-edges.ensures.grows refl) c.in_err-id.ensures.grows

pub returns-clause-grows : goal.returns-clause-grows
returns-clause-grows c = Grows-trans _ _ _ (Grows-formula _ _ c.in_ok-edges.ensures.grows refl) c.in_ok-id.ensures.grows

pub returns-clause-powerset : goal.returns-clause-powerset
returns-clause-powerset c =
    let b = c.args.b.now in
    let joins = rw c.as_slice.ensures at c.in_ok-edges.ensures.joins in
    powerset b _ _ c.args.set _ c.in-Set.es _ refl c.in_ok-id.ensures.grows joins (rw c.as_slice-2.ensures.value at c.in_ok-id.ensures.powerset)
    (λ a. c.kind.ensures.decodes a ∙ ap (kind_value b.arena.texts a (decode b.arena a)) c.in-Set.is)
    (λ s k. edges-sort b.arena.kinds s c.args.set c.in-Set.es k (sym c.kind.ensures.same ∙ c.in-Set.is))
