use Rattle.std.proofs.Common.{refl}
use Rattle.cell_arena.proofs.Growing.{Grows-trans, Grows-formula}
use Rattle.function_rewriter.proofs.Updates.{updated, updated-named, updated-older}
use Rattle.function_rewriter.proofs.updating.update.Goals as goal

pub argument_tests-requires-clause-types : goal.argument_tests-requires-clause-types
argument_tests-requires-clause-types c = record { from = c.requires.from; to = c.requires.to; function = c.requires.function; argument = c.requires.argument }

pub update_arrows-requires : goal.update_arrows-requires
update_arrows-requires c =
    let m = c.in_ok-tests.ensures.matches in
    rw c.as_slice.ensures.value (record {
      types = record { from = c.requires.from; to = c.requires.to; function = c.requires.function; result = c.requires.result };
      one_each = m.count;
      named = m.named;
    })

pub fun-requires-clause-named : goal.fun-requires-clause-named
fun-requires-clause-named c =
    updated-named c.args.b.now _ _ c.args.f c.args.x c.args.v c.args.x _ _ _ c.requires refl c.in_ok-arrows.ensures.grows c.from_vec.ensures c.in_ok-tests.ensures.matches (rw c.as_slice.ensures.value at c.in_ok-arrows.ensures.updates)

pub fun-requires-clause-older : goal.fun-requires-clause-older
fun-requires-clause-older c =
    updated-older c.args.b.now _ _ c.args.f c.args.x c.args.v c.args.x _ _ _ c.requires refl c.in_ok-arrows.ensures.grows c.from_vec.ensures c.in_ok-tests.ensures.matches (rw c.as_slice.ensures.value at c.in_ok-arrows.ensures.updates)

pub returns-in_err-arrows-clause-grows : goal.returns-in_err-arrows-clause-grows
returns-in_err-arrows-clause-grows c = Grows-trans _ _ _ (Grows-formula _ _ c.in_ok-tests.ensures.grows refl) c.in_err-arrows.ensures.grows

pub returns-in_err-id-clause-grows : goal.returns-in_err-id-clause-grows
returns-in_err-id-clause-grows c = Grows-trans _ _ _ (Grows-trans _ _ _ (Grows-formula _ _ c.in_ok-tests.ensures.grows refl) c.in_ok-arrows.ensures.grows) c.in_err-id.ensures.grows

pub returns-clause-grows : goal.returns-clause-grows
returns-clause-grows c = Grows-trans _ _ _ (Grows-trans _ _ _ (Grows-formula _ _ c.in_ok-tests.ensures.grows refl) c.in_ok-arrows.ensures.grows) c.in_ok-id.ensures.grows

pub returns-clause-made : goal.returns-clause-made
returns-clause-made c =
    updated c.args.b.now _ _ c.args.f c.args.x c.args.v c.in_ok-id.id _ _ _ c.requires refl c.in_ok-arrows.ensures.grows c.from_vec.ensures c.in_ok-tests.ensures.matches (rw c.as_slice.ensures.value at c.in_ok-arrows.ensures.updates)
    _ c.in_ok-id.ensures.grows c.in_ok-id.ensures.cell c.in_ok-id.ensures.value
