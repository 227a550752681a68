use Rattle.std.proofs.Common.{◌≡◌, sym, ap, ◌∙◌, subst, IsTrue, refl, arith}
use Rattle.std.proofs.lemmas.Grind.{common_steps}
use Rattle.tla_values.specs.Sets.{increasing, set_of, union_of, Normal}
use Rattle.tla_values.specs.declared.value.Value.{Set}
use Rattle.tla_values.proofs.SetLemmas.{union_of-snoc, union_of_none}
use Rattle.tla_values.proofs.SetLaws.{increasing_insert}
use Rattle.tla_values.proofs.SortLaws.{set_of_permutation}
use Rattle.tla_values.proofs.NormalLemmas.{normal_set_of}
use Rattle.tla_values.proofs.sets.set_of.Goals as goal

pub loop-v-init : goal.loop-v-init
loop-v-init c = (
  ap (union_of c.sort_by.new.self.items) c.new-members.ensures.items ∙ union_of_none c.sort_by.new.self.items,
  subst (λ l. IsTrue (increasing l)) (sym c.new-members.ensures.items) refl,
)

pub loop-v-preserved : goal.loop-v-preserved
loop-v-preserved c = (
  ap (union_of c.pop.new.self.items) c.in_ok-insert.ensures ∙ sym (union_of-snoc c.pop.new.self.items c.in-Some.v c.loop-v.members.items)
      ∙ ap (λ l. union_of l c.loop-v.members.items) (sym c.in-Some.ensures.items) ∙ c.loop-v.invariant.0,
  subst (λ l. IsTrue (increasing l)) (sym c.in_ok-insert.ensures) (increasing_insert c.in-Some.v c.loop-v.members.items c.loop-v.invariant.1),
)

pub returns-clause-set : goal.returns-clause-set
returns-clause-set c =
    let e : c.from_vec.result ≡ set_of c.sort_by.new.self.items = grind (arith, common_steps) in
    ap (λ l. Set l) (e ∙ sym (set_of_permutation c.into_vec-rest.result.items c.sort_by.new.self.items c.in_ok-sort_by.ensures.permutation)
    ∙ ap set_of c.into_vec-rest.ensures)

pub returns-clause-normal : goal.returns-clause-normal
returns-clause-normal c = λ all.
    let e : c.from_vec.result ≡ set_of c.sort_by.new.self.items = grind (arith, common_steps) in
    let f : c.from_vec.result ≡ set_of c.args.items =
    e ∙ sym (set_of_permutation c.into_vec-rest.result.items c.sort_by.new.self.items c.in_ok-sort_by.ensures.permutation)
    ∙ ap set_of c.into_vec-rest.ensures in
    subst (λ l. Normal (Set l)) (sym f) (normal_set_of _ all)
