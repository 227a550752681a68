use Rattle.std.proofs.Common.{◌≡◌, ◌∷◌, sym, ap, ◌∙◌, subst, arith, IsTrue}
use Rattle.std.proofs.lemmas.Grind.{common_steps}
use Rattle.tla_values.specs.Sets.{arguments, increasing, function_of, fun_of, Normal}
use Rattle.tla_values.specs.declared.value.Value.{Fun}
use Rattle.tla_values.proofs.SetLaws.{rising_to}
use Rattle.tla_values.proofs.FunLaws.{found_twice, one_more, rising_function}
use Rattle.tla_values.proofs.NormalLemmas.{normal_function}
use Rattle.tla_values.proofs.functions.fun_of.Goals as goal

pub find_argument-requires : goal.find_argument-requires
find_argument-requires c =
    let i = c.loop-argument.invariant in
    subst (λ l. IsTrue (increasing (arguments l))) (sym (c.as_slice.ensures.value ∙ i.2)) (rising_to _ (rising_function i.0))

pub returns-in-Ok-clause-function : goal.returns-in-Ok-clause-function
returns-in-Ok-clause-function c =
    let i = c.loop-argument.invariant in
    found_twice c.into_vec-rest.result.items c.loop-argument.rest.items c.pop.new.self.items i.0 c.loop-argument.function.items c.as_slice.result.now
    (c.in-Some.argument, c.in-Some.value) _ i.1 c.in-Some.ensures.items i.2 c.as_slice.ensures.value c.in-Ok.ensures.bound c.in-Ok.ensures.place
    ∙ ap fun_of c.into_vec-rest.ensures

pub loop-argument-preserved : goal.loop-argument-preserved
loop-argument-preserved c =
    let i = c.loop-argument.invariant in
    let next = one_more c.into_vec-rest.result.items c.loop-argument.rest.items c.pop.new.self.items i.0 c.loop-argument.function.items c.as_slice.result.now
    (c.in-Some.argument, c.in-Some.value) _ i.1 c.in-Some.ensures.items i.2 c.as_slice.ensures.value _ c.in-Err.ensures.bound c.in-Err.ensures.place c.in_ok-insert-in-Err.ensures.items i.3 in
    (((c.in-Some.argument, c.in-Some.value) ∷ i.0), next.0, next.1, next.2)

pub returns-clause-normal : goal.returns-clause-normal
returns-clause-normal c = λ all.
    let e : c.from_vec.result ≡ function_of c.args.pairs = grind (arith, common_steps) in
    subst (λ l. Normal (Fun l)) (sym e) (normal_function _ all)
