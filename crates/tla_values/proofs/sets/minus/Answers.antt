use Rattle.std.proofs.Common.{◌≡◌, sym, ap, ◌∙◌, subst, IsTrue}
use Rattle.tla_values.specs.Sets.{increasing, minus, Normal}
use Rattle.tla_values.specs.declared.value.Value.{Set}
use Rattle.tla_values.proofs.NormalLemmas.{set_order, normal_filter}
use Rattle.tla_values.proofs.sets.minus.Goals as goal

pub others-requires : goal.others-requires
others-requires c = subst (λ l. IsTrue (increasing l)) (sym c.as_slice-2.ensures) (set_order _ c.requires.right)

pub returns-clause-normal : goal.returns-clause-normal
returns-clause-normal c =
    let e : c.from_vec.result ≡ minus c.args.a.now c.args.b.now =
    c.from_vec.ensures ∙ c.in_ok-members.ensures ∙ ap (λ l. minus l c.as_slice-2.result.now) c.as_slice.ensures
    ∙ ap (minus c.args.a.now) c.as_slice-2.ensures in
    subst (λ l. Normal (Set l)) (sym e) (normal_filter _ _ c.requires.left)
