use Rattle.std.proofs.Common.{refl}
use Rattle.cell_arena.proofs.Growing.{Grows-trans, Grows-formula}
use Rattle.function_rewriter.proofs.ArrowPairs.{function-pairs}
use Rattle.function_rewriter.proofs.DomainSets.{arguments-joined, arguments-older, arguments-set}
use Rattle.function_rewriter.proofs.domains.function_domain.Goals as goal

pub joined_arguments-requires : goal.joined_arguments-requires
joined_arguments-requires c = arguments-joined c.args.b.now c.args.f _ c.in-Fun.arrows _ c.requires c.kind.ensures.same c.in-Fun.is c.as_slice.ensures _ c.kind.ensures.held

pub set-requires-clause-older : goal.set-requires-clause-older
set-requires-clause-older c = arguments-older c.args.b.now c.args.f _ c.in-Fun.arrows _ c.requires c.kind.ensures.same c.in-Fun.is c.as_slice.ensures _ _ _ c.in_ok-edges.ensures.joins c.from_vec.ensures

pub returns-in_err-id-clause-grows : goal.returns-in_err-id-clause-grows
returns-in_err-id-clause-grows c = Grows-trans _ _ _ (Grows-formula _ _ c.in_ok-edges.ensures.grows refl) c.in_err-id.ensures.grows

pub returns-clause-arguments : goal.returns-clause-arguments
returns-clause-arguments c =
    let b = c.args.b.now in
    arguments-set b c.args.f _ c.in-Fun.arrows _ c.requires c.kind.ensures.same c.in-Fun.is c.as_slice.ensures _ _ _ c.in_ok-edges.ensures.joins c.from_vec.ensures _ _ _ refl refl c.in_ok-id.ensures.grows
    c.in_ok-id.ensures.cell c.in_ok-id.ensures.value (λ a. function-pairs b.arena a _ c.args.f c.in-Fun.arrows (c.kind.ensures.decodes a) c.in-Fun.is)
