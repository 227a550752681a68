use Rattle.std.proofs.Common.{refl}
use Rattle.function_rewriter.proofs.Joins.{joined-named, joined-older, joined-made}
use Rattle.function_rewriter.proofs.joining.join.Goals as goal

pub fun-requires-clause-named : goal.fun-requires-clause-named
fun-requires-clause-named c =
    joined-named c.args.b.now c.args.f c.args.g _ _ c.in-Fun.es c.in-Fun-right.fs _ _ _ _ c.kind-left.ensures.same c.kind-right.ensures.same c.in-Fun.is c.in-Fun-right.is c.as_slice-front.ensures c.as_slice-rest.ensures
    c.in_ok-arrows.ensures c.from_vec.ensures _ _ c.kind-left.ensures.held c.kind-right.ensures.held

pub fun-requires-clause-older : goal.fun-requires-clause-older
fun-requires-clause-older c =
    joined-older c.args.b.now c.args.f c.args.g _ _ c.in-Fun.es c.in-Fun-right.fs _ _ _ _ c.kind-left.ensures.same c.kind-right.ensures.same c.in-Fun.is c.in-Fun-right.is c.as_slice-front.ensures c.as_slice-rest.ensures
    c.in_ok-arrows.ensures c.from_vec.ensures c.requires

pub returns-clause-made : goal.returns-clause-made
returns-clause-made c =
    joined-made c.args.b.now c.args.f c.args.g _ _ c.in-Fun.es c.in-Fun-right.fs _ _ _ _ c.kind-left.ensures.same c.kind-right.ensures.same c.in-Fun.is c.in-Fun-right.is c.as_slice-front.ensures c.as_slice-rest.ensures
    c.in_ok-arrows.ensures c.from_vec.ensures _ _ _ c.kind-left.ensures.decodes c.kind-right.ensures.decodes refl refl c.in_ok-id.ensures.grows c.in_ok-id.ensures.cell c.in_ok-id.ensures.value
