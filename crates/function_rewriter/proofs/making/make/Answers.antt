use Rattle.function_rewriter.proofs.Makes.{made, made-named, made-older}
use Rattle.function_rewriter.proofs.making.make.Goals as goal

pub fun-requires-clause-named : goal.fun-requires-clause-named
fun-requires-clause-named c = made-named c.args.b.now c.args.set _ c.in-Set.es _ c.args.results.now _ _ c.kind.ensures.same c.in-Set.is c.as_slice.ensures c.in_ok-arrows.ensures c.from_vec.ensures _ c.kind.ensures.held

pub fun-requires-clause-older : goal.fun-requires-clause-older
fun-requires-clause-older c = made-older c.args.b.now c.args.set _ c.in-Set.es _ c.args.results.now _ _ c.kind.ensures.same c.in-Set.is c.as_slice.ensures c.in_ok-arrows.ensures c.from_vec.ensures c.requires.set c.requires.results

pub returns-clause-made : goal.returns-clause-made
returns-clause-made c =
    made c.args.b.now c.args.set _ c.in-Set.es _ c.args.results.now _ _ c.kind.ensures.same c.in-Set.is c.as_slice.ensures c.in_ok-arrows.ensures c.from_vec.ensures _ _ c.in_ok-id.ensures.grows c.in_ok-id.ensures.cell
    c.in_ok-id.ensures.value
