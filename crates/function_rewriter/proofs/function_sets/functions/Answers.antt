use Rattle.std.proofs.Common.{refl}
use Rattle.cell_arena.proofs.Growing.{Grows-trans, Grows-formula}
use Rattle.function_rewriter.proofs.FunctionListings.{choices-fit, set-named, set-older, is-function-set}
use Rattle.function_rewriter.proofs.function_sets.functions.Goals as goal

pub function_edges-requires : goal.function_edges-requires
function_edges-requires c = choices-fit c.args.b.now _ c.args.from c.args.to _ _ c.requires refl c.in_ok-choices.ensures.lists c.as_slice.ensures.value

pub set-requires-clause-named : goal.set-requires-clause-named
set-requires-clause-named c =
    set-named c.args.b.now _ _ c.args.from c.args.to _ _ _ _ c.requires refl c.in_ok-choices.ensures.lists c.as_slice.ensures.value c.in_ok-edges.ensures.grows c.in_ok-edges.ensures.edges c.from_vec.ensures

pub set-requires-clause-older : goal.set-requires-clause-older
set-requires-clause-older c =
    set-older c.args.b.now _ _ c.args.from c.args.to _ _ _ _ c.requires refl c.in_ok-choices.ensures.lists c.as_slice.ensures.value c.in_ok-edges.ensures.grows c.in_ok-edges.ensures.edges c.from_vec.ensures

pub returns-in_err-edges-clause-grows : goal.returns-in_err-edges-clause-grows
returns-in_err-edges-clause-grows c = Grows-trans _ _ _ (Grows-formula _ _ c.in_ok-choices.ensures.grows refl) c.in_err-edges.ensures.grows

pub returns-in_err-id-clause-grows : goal.returns-in_err-id-clause-grows
returns-in_err-id-clause-grows c = Grows-trans _ _ _ (Grows-trans _ _ _ (Grows-formula _ _ c.in_ok-choices.ensures.grows refl) c.in_ok-edges.ensures.grows) c.in_err-id.ensures.grows

pub returns-clause-grows : goal.returns-clause-grows
returns-clause-grows c = Grows-trans _ _ _ (Grows-trans _ _ _ (Grows-formula _ _ c.in_ok-choices.ensures.grows refl) c.in_ok-edges.ensures.grows) c.in_ok-id.ensures.grows

pub returns-clause-set : goal.returns-clause-set
returns-clause-set c =
    is-function-set c.args.b.now _ _ c.args.from c.args.to _ _ _ _ c.requires refl c.in_ok-choices.ensures.lists c.as_slice.ensures.value c.in_ok-edges.ensures.grows c.in_ok-edges.ensures.edges c.from_vec.ensures
    _ _ c.in_ok-id.ensures.grows c.in_ok-id.ensures.cell c.in_ok-id.ensures.value
