use Rattle.form_cells.proofs.FunctionLemmas.{are-arguments, domain-asked, domain-set, domain-typed, is-parted}
use Rattle.form_cells.proofs.functions.domain_and_results.Goals as goal

pub domain-requires : goal.domain-requires
domain-requires c = domain-asked c.args.b.now c.args.f c.args.s c.requires

pub same-requires : goal.same-requires
same-requires c =
    domain-typed c.args.b.now c.args.f c.args.s c.requires _ c.in_ok-arguments.arguments c.in_ok-arguments.ensures.grows c.in_ok-arguments.ensures.domain

pub members_of-requires : goal.members_of-requires
members_of-requires c =
    domain-set c.args.b.now c.args.f c.args.s c.requires _ c.in_ok-arguments.arguments c.in_ok-arguments.ensures.grows c.in_ok-arguments.ensures.domain
    _ c.in_ok-agrees.ensures.grows

pub results_at-requires : goal.results_at-requires
results_at-requires c =
    are-arguments c.args.b.now c.args.f c.args.s c.requires _ c.in_ok-arguments.arguments c.in_ok-arguments.ensures.grows c.in_ok-arguments.ensures.domain
    _ c.in_ok-agrees.ensures.grows c.as_slice.result.now (rw c.as_slice.ensures.value c.in_ok-edges.ensures)

pub returns-clause-parted : goal.returns-clause-parted
returns-clause-parted c =
    is-parted c.args.b.now c.args.f c.args.s c.requires _ c.in_ok-arguments.arguments c.in_ok-arguments.ensures.grows c.in_ok-arguments.ensures.domain
    _ c.in_ok-agrees.ensures.grows _ c.in_ok-agrees.agrees c.as_slice.result.now _ c.in_ok-results.ensures.grows c.in_ok-agrees.ensures.value
    (rw c.as_slice.ensures.value c.in_ok-edges.ensures) c.in_ok-results.ensures.gives
