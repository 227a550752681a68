use Rattle.std.proofs.Common.{◌≡◌, sym, subst, arith}
use Rattle.std.proofs.lemmas.Grind.{common_steps}
use Rattle.tla_values.specs.Sets.{override_at, Normal}
use Rattle.tla_values.specs.declared.value.Value.{Fun}
use Rattle.tla_values.proofs.NormalLemmas.{normal_override}
use Rattle.tla_values.proofs.functions.override_at.Goals as goal

pub returns-clause-normal : goal.returns-clause-normal
returns-clause-normal c = λ h k.
    let e : c.from_vec.result ≡ override_at c.args.function.now c.args.argument.now c.args.value.now = grind (arith, common_steps) in
    subst (λ l. Normal (Fun l)) (sym e) (normal_override _ _ _ h k)
