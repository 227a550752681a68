use Rattle.std.proofs.Common.{◌∙◌, ap, sym}
use Rattle.tla_evaluator.proofs.Words.{Set, Val, all_set_items, err_from_is_err_and, set_of}
use Rattle.tla_evaluator.specs.inner.Results.{all_of}
use Rattle.std.proofs.Common.{option_map}
use Rattle.tla_evaluator.proofs.RowLemmas.{sets_give, sets_stop, union_all_is}
use Rattle.tla_evaluator.proofs.operators.Row.union_of_all.Goals as goal

pub returns : goal.returns
returns c =
    sets_give all_of (λ v. v.items) _ _ c.args.sets.now c.in_ok-all_members.field-0 c.in_ok-members.members _
    (ap (λ l. option_map all_of (all_set_items l)) (sym c.as_slice.ensures) ∙ c.in_ok-all_members.ensures) c.in_ok-members.ensures.ok_part
    (λ xss e. ap (λ l. Val (Set l)) (union_all_is xss ∙ ap set_of (e ∙ sym c.from_vec.ensures)) ∙ ap Val (sym c.in_ok-set_of.ensures.set))

pub returns-in_err-members : goal.returns-in_err-members
returns-in_err-members c =
    let p = err_from_is_err_and c.from_residual-in_err-members.result c.from_residual-in_err-members.ensures.1 in
    rw (p.1, p.2) (sets_stop all_of (λ v. v.items) _ _ c.args.sets.now c.in_ok-all_members.field-0 _
    (ap (λ l. option_map all_of (all_set_items l)) (sym c.as_slice.ensures) ∙ c.in_ok-all_members.ensures) c.in_err-members.ensures.value)
