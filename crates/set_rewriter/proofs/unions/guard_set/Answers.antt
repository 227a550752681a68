use Rattle.std.proofs.Common.{sym, ap, ◌∙◌}
use Rattle.cell_arena.specs.Decode.{decode, kind_value}
use Rattle.cell_merge.proofs.Edges.{edges-sort}
use Rattle.set_rewriter.proofs.Gathering.{guarded-set}
use Rattle.set_rewriter.proofs.unions.guard_set.Goals as goal

pub returns-clause-guards : goal.returns-clause-guards
returns-clause-guards c =
    let k = c.args.arena.now in
    guarded-set k _ c.args.l c.args.set c.in-Set.edges _ _ (rw c.as_slice.ensures at c.in_ok-guard_edges.ensures.guards)
    (λ a. c.kind.ensures.decodes a ∙ ap (kind_value k.texts a (decode k a)) c.in-Set.is) (λ s h. edges-sort k.kinds s c.args.set c.in-Set.edges h (sym c.kind.ensures.same ∙ c.in-Set.is))
