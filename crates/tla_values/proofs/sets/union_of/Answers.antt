use Rattle.std.proofs.Common.{◌≡◌, ◌++◌, sym, ap, ◌∙◌, subst, arith}
use Rattle.std.specs.List.{All}
use Rattle.std.proofs.lemmas.Grind.{common_steps}
use Rattle.tla_values.specs.Sets.{Normal, set_of}
use Rattle.tla_values.specs.declared.value.Value.{Set}
use Rattle.tla_values.proofs.NormalLemmas.{set_order, normal_append}
use Rattle.tla_values.proofs.SetLaws.{union_by_append}
use Rattle.tla_values.proofs.sets.union_of.Goals as goal

pub returns-clause-set : goal.returns-clause-set
returns-clause-set c =
    let e : c.from_vec.result ≡ c.args.a.now ++ c.args.b.now = grind (arith, common_steps) in
    c.in_ok-union.ensures.set ∙ ap (λ l. Set (set_of l)) e ∙ ap (λ l. Set l) (union_by_append c.args.a.now c.args.b.now (set_order _ c.requires.right))

pub returns-clause-normal : goal.returns-clause-normal
returns-clause-normal c =
    let e : c.from_vec.result ≡ c.args.a.now ++ c.args.b.now = grind (arith, common_steps) in
    c.in_ok-union.ensures.normal (subst (λ l. All Normal l) (sym e) (normal_append _ _ c.requires.left c.requires.right))
