use Rattle.std.proofs.Common.{◌≡◌, sym, subst, arith}
use Rattle.std.proofs.lemmas.Grind.{common_steps}
use Rattle.tla_values.specs.Sets.{arguments, Normal}
use Rattle.tla_values.specs.declared.value.Value.{Set}
use Rattle.tla_values.proofs.NormalLemmas.{normal_domain}
use Rattle.tla_values.proofs.functions.domain_of.Goals as goal

pub returns-clause-normal : goal.returns-clause-normal
returns-clause-normal c = λ h.
    let e : c.from_vec.result ≡ arguments c.args.function.now = grind (arith, common_steps) in
    subst (λ l. Normal (Set l)) (sym e) (normal_domain _ h)
