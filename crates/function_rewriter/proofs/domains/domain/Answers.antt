use Rattle.std.proofs.Common.{refl}
use Rattle.function_rewriter.proofs.KnownValues.{domain-function, domain-names, domain-fits, domain-there, domain-other, is-function-domain, is-record-domain, is-tuple-domain}
use Rattle.function_rewriter.proofs.domains.domain.Goals as goal

pub kind-requires : goal.kind-requires
kind-requires c = domain-there c.args.b.now c.args.f _ refl c.requires

pub function_domain-requires : goal.function_domain-requires
function_domain-requires c = domain-function c.args.b.now c.args.f _ c.kind.ensures.same c.requires _ c.in-Fun.is

pub record_domain-requires : goal.record_domain-requires
record_domain-requires c = domain-names c.args.b.now c.args.f _ c.kind.ensures.same c.requires _ c.in-Rec.is

pub tuple_domain-requires : goal.tuple_domain-requires
tuple_domain-requires c = record { there = domain-there c.args.b.now c.args.f _ c.kind.ensures.same c.requires; fits = domain-fits c.args.b.now c.args.f _ c.kind.ensures.same c.requires _ c.in-Tup.is }

pub returns-in_ok-arguments-in-Fun-clause-domain : goal.returns-in_ok-arguments-in-Fun-clause-domain
returns-in_ok-arguments-in-Fun-clause-domain c = is-function-domain c.args.b.now _ c.args.f _ _ _ c.kind.ensures.same c.in-Fun.is c.in_ok-arguments-in-Fun.ensures.arguments

pub returns-in_ok-names-in-Rec-clause-domain : goal.returns-in_ok-names-in-Rec-clause-domain
returns-in_ok-names-in-Rec-clause-domain c = is-record-domain c.args.b.now _ c.args.f _ _ _ c.kind.ensures.same c.in-Rec.is c.kind.ensures.decodes c.in_ok-names-in-Rec.ensures.names

pub returns-in_ok-numbers-in-Tup-clause-domain : goal.returns-in_ok-numbers-in-Tup-clause-domain
returns-in_ok-numbers-in-Tup-clause-domain c = is-tuple-domain c.args.b.now _ c.args.f _ _ _ c.kind.ensures.same c.in-Tup.is c.kind.ensures.decodes c.in_ok-numbers-in-Tup.ensures.numbers

pub returns-in_default-clause-domain : goal.returns-in_default-clause-domain
returns-in_default-clause-domain c = absurd (domain-other c.args.b.now c.args.f _ c.kind.ensures.same c.requires (λ es e. c.in_default.not-Fun es e) (λ fs e. c.in_default.not-Rec fs e) (λ ps e. c.in_default.not-Tup ps e))
