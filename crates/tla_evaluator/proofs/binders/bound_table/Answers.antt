use Rattle.std.proofs.Common.{◌≡◌, ap, rules, sym}
use Rattle.tla_evaluator.proofs.Words.{Val, bound_table, err_from_is_err_and, kept, list_all, list_any, the_set, yes_no}
use Rattle.tla_evaluator.proofs.BinderLemmas.{truths_give, truths_stop}
use Rattle.tla_evaluator.proofs.binders.bound_table.Goals as goal

pub returns-in_err-truths-in-Exists : goal.returns-in_err-truths-in-Exists
returns-in_err-truths-in-Exists c =
    let p = err_from_is_err_and c.from_residual.result c.from_residual.ensures.1 in
    rw (p.1, p.2) (truths_stop c.args.place c.args.op.now c.args.choices.now c.args.values.items _ (λ bs. yes_no (list_any (λ b. b) bs)) _
    c.deref.ensures.value (ap (λ o. bound_table c.args.place o c.args.choices.now c.args.values.items) c.in-Exists.is) c.in_err-truths-in-Exists.ensures)

pub returns-in_ok-truths-in-Exists : goal.returns-in_ok-truths-in-Exists
returns-in_ok-truths-in-Exists c =
    let e : c.some_true.result ≡ list_any (λ b. b) c.in_ok-truths-in-Exists.field-0 = search rules in
    truths_give c.args.place c.args.op.now c.args.choices.now c.args.values.items _ (λ bs. yes_no (list_any (λ b. b) bs)) _ _
    c.deref.ensures.value (ap (λ o. bound_table c.args.place o c.args.choices.now c.args.values.items) c.in-Exists.is) c.in_ok-truths-in-Exists.ensures
    (ap yes_no (sym e))

pub returns-in_err-truths-in-Forall : goal.returns-in_err-truths-in-Forall
returns-in_err-truths-in-Forall c =
    let p = err_from_is_err_and c.from_residual-in_err-truths-in-Forall.result c.from_residual-in_err-truths-in-Forall.ensures.1 in
    rw (p.1, p.2) (truths_stop c.args.place c.args.op.now c.args.choices.now c.args.values.items _ (λ bs. yes_no (list_all (λ b. b) bs)) _
    c.deref-in-Forall.ensures.value (ap (λ o. bound_table c.args.place o c.args.choices.now c.args.values.items) c.in-Forall.is) c.in_err-truths-in-Forall.ensures)

pub returns-in_ok-truths-in-Forall : goal.returns-in_ok-truths-in-Forall
returns-in_ok-truths-in-Forall c =
    let e : c.all_true.result ≡ list_all (λ b. b) c.in_ok-truths-in-Forall.field-0 = search rules in
    truths_give c.args.place c.args.op.now c.args.choices.now c.args.values.items _ (λ bs. yes_no (list_all (λ b. b) bs)) _ _
    c.deref-in-Forall.ensures.value (ap (λ o. bound_table c.args.place o c.args.choices.now c.args.values.items) c.in-Forall.is) c.in_ok-truths-in-Forall.ensures
    (ap yes_no (sym e))

pub returns-in_err-passes-in-Filter : goal.returns-in_err-passes-in-Filter
returns-in_err-passes-in-Filter c =
    let p = err_from_is_err_and c.from_residual-in_err-passes-in-Filter.result c.from_residual-in_err-passes-in-Filter.ensures.1 in
    rw (p.1, p.2) (truths_stop c.args.place c.args.op.now c.args.choices.now c.args.values.items _ (λ bs. Val (the_set (kept c.args.choices.now bs))) _
    c.deref-in-Filter.ensures.value (ap (λ o. bound_table c.args.place o c.args.choices.now c.args.values.items) c.in-Filter.is) c.in_err-passes-in-Filter.ensures)
