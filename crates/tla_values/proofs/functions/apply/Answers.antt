use Rattle.std.proofs.Common.{◌≡◌, is_some, sym, ap, ◌∙◌, subst, IsTrue, true, false, refl}
use Rattle.tla_values.specs.declared.value.Value.{Fun}
use Rattle.tla_values.specs.Sets.{increasing, arguments, apply, member, Normal}
use Rattle.tla_values.proofs.SetLaws.{rising_from}
use Rattle.tla_values.proofs.FunLaws.{apply_found, apply_split, apply_domain, all_at}
use Rattle.tla_values.proofs.NormalLemmas.{fun_order, fun_pairs}
use Rattle.tla_values.proofs.functions.apply.Goals as goal

pub find_argument-requires : goal.find_argument-requires
find_argument-requires c = subst (λ l. IsTrue (increasing (arguments l))) (sym c.as_slice-pairs.ensures) (fun_order _ c.requires)

pub returns-in-Ok-clause-value : goal.returns-in-Ok-clause-value
returns-in-Ok-clause-value c =
    let up = subst (λ l. IsTrue (increasing (arguments l))) (sym c.as_slice-pairs.ensures) (fun_order _ c.requires) in
    sym (apply_found c.args.argument.now c.as_slice-pairs.result.now c.in-Ok.place _ (rising_from _ up) c.in-Ok.ensures.bound c.in-Ok.ensures.place)
    ∙ ap (λ l. apply l c.args.argument.now) c.as_slice-pairs.ensures

pub returns-in-Ok-clause-domain : goal.returns-in-Ok-clause-domain
returns-in-Ok-clause-domain c =
    let up = subst (λ l. IsTrue (increasing (arguments l))) (sym c.as_slice-pairs.ensures) (fun_order _ c.requires) in
    let found = apply_found c.args.argument.now c.as_slice-pairs.result.now c.in-Ok.place c.index-pairs-place.result (rising_from _ up) c.in-Ok.ensures.bound c.in-Ok.ensures.place in
    let there : member c.args.argument.now (arguments c.args.function.now) ≡ true =
    ap (λ l. member c.args.argument.now (arguments l)) (sym c.as_slice-pairs.ensures)
    ∙ sym (apply_domain c.args.argument.now c.as_slice-pairs.result.now) ∙ ap is_some found in
    (λ e. there, λ e. refl)

pub returns-in-Ok-clause-normal : goal.returns-in-Ok-clause-normal
returns-in-Ok-clause-normal c =
    (all_at (λ p. Normal p.0 × Normal p.1) c.as_slice-pairs.result.now c.in-Ok.place _ (fun_pairs _ (subst (λ l. Normal (Fun l)) (sym c.as_slice-pairs.ensures) c.requires)) c.in-Ok.ensures.bound).1

pub returns-in-Err-clause-value : goal.returns-in-Err-clause-value
returns-in-Err-clause-value c =
    sym (apply_split c.args.argument.now c.as_slice-pairs.result.now _ c.in-Err.ensures.place) ∙ ap (λ l. apply l c.args.argument.now) c.as_slice-pairs.ensures

pub returns-in-Err-clause-domain : goal.returns-in-Err-clause-domain
returns-in-Err-clause-domain c =
    let none = apply_split c.args.argument.now c.as_slice-pairs.result.now _ c.in-Err.ensures.place in
    let gone : member c.args.argument.now (arguments c.args.function.now) ≡ false =
    ap (λ l. member c.args.argument.now (arguments l)) (sym c.as_slice-pairs.ensures)
    ∙ sym (apply_domain c.args.argument.now c.as_slice-pairs.result.now) ∙ ap is_some none in
    (λ e. gone ∙ e, λ h. sym gone ∙ h)
