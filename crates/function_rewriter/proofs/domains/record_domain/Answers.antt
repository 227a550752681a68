use Rattle.function_rewriter.proofs.KnownValues.{constant-set, constants-older, names-set}
use Rattle.function_rewriter.proofs.domains.record_domain.Goals as goal

pub text_edges-requires : goal.text_edges-requires
text_edges-requires c = rw c.as_slice.ensures.value c.in_ok-indexes.ensures.within

pub set-requires-clause-older : goal.set-requires-clause-older
set-requires-clause-older c = constants-older _ _ _ _ _ c.in_ok-edges.ensures.edges c.from_vec.ensures

pub set-requires-clause-named : goal.set-requires-clause-named
set-requires-clause-named c = rw c.from_vec.ensures c.in_ok-edges.ensures.edges.named

pub returns-clause-names : goal.returns-clause-names
returns-clause-names c =
    names-set _ c.args.b.now.arena.texts _ _ _ c.in_ok-indexes.ensures
    (rw c.as_slice.ensures.value at (constant-set _ _ _ _ _ _ _ c.in_ok-edges.ensures.edges c.from_vec.ensures c.in_ok-id.ensures.grows c.in_ok-id.ensures.cell c.in_ok-id.ensures.value))
