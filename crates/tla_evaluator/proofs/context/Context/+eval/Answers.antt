use Rattle.std.proofs.Common.{◌≡◌, ℕ, ◌+◌, ◌≤◌, ◌∙◌, ◌++◌, ◌∷◌, [], List, ap, arith, drop, get_or, not, refl, subst, sym, Bor, Err}
use Rattle.std.specs.Prelude.{IfSome, option_map}
use Rattle.tla_evaluator.proofs.Words.{All, Expr, Fun, Normal, Outcome, Place, Val, Value, common_steps, err_from_is_err_and, fault_of, fold_over, folded, form_fault, form_faults, get_or_default, in_form, join_faults, joined, most, out-Expr, results, strict, updated, values, yes_no}
use Rattle.tla_evaluator.specs.inner.Nodes.{index_trees, membership_test, node_in, paths_in, update_in, updates_in}
use Rattle.tla_evaluator.specs.inner.Readings.{first_in, form_in, forms_in, outcomes_in, value_in, with_names}
use Rattle.tla_evaluator.proofs.BranchLemmas.{branch_gives_as, branch_goes, branch_stops, branch_taken, well_formed}
use Rattle.tla_evaluator.proofs.EvalSteps.{fault_done, join_next, values_done, values_next}
use Rattle.tla_evaluator.proofs.FormLoops.{forms_next, function_parts}
use Rattle.tla_evaluator.proofs.FormNodes.{form_is_node}
use Rattle.tla_evaluator.proofs.ListSteps.{first_normal, folded_next, further_no_deeper, index_fault_next, item_normal, members_normal, one_is_normal, one_normal, operands_normal, paths_next, reached_normal, results_normal, two_are_normal, updated_at, updated_next, updated_stops}
use Rattle.tla_evaluator.proofs.NodeLemmas.{node_is}
use Rattle.tla_evaluator.proofs.NormalBinds.{bound_are_normal}
use Rattle.tla_evaluator.proofs.StopLemmas.{conclusion_is, conclusion_stops, except_goes, form_gives_as, functions_go, functions_stop, given_normal, gives_all_as, gives_as, joins_form, joins_value, junction_stops, membership_goes, premise_fails, premise_stops, strict_goes, two_items}
use Rattle.tla_evaluator.proofs.TreeSizes.{most-drop, most-take}
use Rattle.tla_evaluator.proofs.context.Context.+eval.Goals as goal
use Rattle.tla_evaluator.proofs.context.Context.+eval.Goals.{implication-then-not-branch, implication-else-not-branch+in_ok-holds}

pub value-returns : goal.value-returns
value-returns t c =
    gives_as c.node.result
    (ap (λ xs. node_in c.args.self.now (out-Expr c.args.e.now).place (out-Expr c.args.e.now).op xs c.as_slice-args.result.now) c.as_slice-names.ensures
    ∙ ap (λ es. node_in c.args.self.now (out-Expr c.args.e.now).place (out-Expr c.args.e.now).op (out-Expr c.args.e.now).binds es) c.as_slice-args.ensures
    ∙ node_is c.args.self.now c.args.e.now)
    c.node.ensures

pub junction-returns-in_err-holds : goal.junction-returns-in_err-holds
junction-returns-in_err-holds t c =
    let p = err_from_is_err_and c.from_residual.result c.from_residual.ensures.1 in
    rw (p.1, p.2) (junction_stops (value_in c.args.self.now) c.args.trees.now _ c.args.decides c.args.place c.loop-e.e-index _ c.loop-e-test.true c.e-item.is c.in_err-holds.ensures.0 c.loop-e.invariant)

pub joined-loop-e-preserved : goal.joined-loop-e-preserved
joined-loop-e-preserved t c =
    let z = joins_value _ _ _ _ _ _ c.value-one.ensures c.in_ok-join.ensures in
    record {
      fault = join_next joined fault_of (λ o os. refl) (value_in c.args.self.now) _ _ _ _ _ _ c.loop-e-test.true c.e-item.is refl z.0 c.loop-e.invariant.fault;
      values = values_next (value_in c.args.self.now) _ _ _ _ _ _ c.loop-e-test.true c.e-item.is refl z.1 c.loop-e.invariant.values;
    }

pub strict-row_of-requires-clause-normal : goal.strict-row_of-requires-clause-normal
strict-row_of-requires-clause-normal t c = subst (All Normal) (sym c.into_vec.ensures) c.in_ok-operands.ensures.normal

pub binder-bodies-requires : goal.binder-bodies-requires
binder-bodies-requires t c =
    let some = members_normal _ _ _ _ c.as_slice.ensures c.as_slice-2.ensures.value c.in_ok-sets.ensures.normal
    (c.in_ok-choices_of.ensures ∙ ap (option_map (λ v. v.items)) c.in_ok-choices.ensures.ok_part) in
    (grind (arith, most-drop, common_steps), some)

pub bodies-loop-choice-preserved : goal.bodies-loop-choice-preserved
bodies-loop-choice-preserved t c =
    let body = λ (d : List Value). first_in (with_names c.args.self.now c.args.site.names.now d) c.args.site.place c.args.trees.now in
    let z = joins_value _ _ _ _ _ _ c.under-one.ensures c.in_ok-join.ensures in
    record {
      fault = join_next joined fault_of (λ o os. refl) body _ _ _ _ _ _ c.loop-choice-test.true c.choice-item.is (ap body c.as_slice.ensures) z.0 c.loop-choice.invariant.fault;
      values = values_next body _ _ _ _ _ _ c.loop-choice-test.true c.choice-item.is (ap body c.as_slice.ensures) z.1 c.loop-choice.invariant.values;
    }

pub indexes-joined-requires : goal.indexes-joined-requires
indexes-joined-requires t c =
    let small = c.loop-n.invariant.small in
    (grind (arith, most-take, small, common_steps), tt)

pub indexes-loop-n-preserved : goal.indexes-loop-n-preserved
indexes-loop-n-preserved t c =
    let r = c.args.self.now in
    let lt = c.loop-n-test.true in
    let n = (get_or c.args.counts.now c.loop-n.n-index 0) in
    let is : n ≡ get_or c.args.counts.now c.loop-n.n-index n = get_or_default c.args.counts.now c.loop-n.n-index 0 n lt in
    let back : c.after-rest.result.now ≡ drop 1 (drop n c.loop-n.rest.now) = c.after-rest.ensures ∙ ap (drop 1) c.after.ensures in
    record {
      fault = subst (λ b. join_faults c.join_faults-fault.result (joined (outcomes_in r (index_trees (drop (c.loop-n.n-index + 1) c.args.counts.now) b))) ≡ joined (outcomes_in r (index_trees c.args.counts.now c.args.trees.now))) (sym back)
          (index_fault_next r.width r.bound r.state r.next c.args.counts.now c.loop-n.n-index n c.loop-n.rest.now _ _ _ _ lt is
          (c.in_ok-part.ensures.fault ∙ ap (λ z. joined (outcomes_in r z)) c.front.ensures) c.join_faults-fault.ensures c.loop-n.invariant.fault);
      paths = subst (λ b. c.push.new.self.items ++ paths_in r (drop (c.loop-n.n-index + 1) c.args.counts.now) b ≡ paths_in r c.args.counts.now c.args.trees.now) (sym back)
          (paths_next r.width r.bound r.state r.next c.args.counts.now c.loop-n.n-index n c.loop-n.rest.now _ _ _ _ lt is
          (c.from_vec.ensures ∙ c.in_ok-part.ensures.values ∙ ap (λ z. values (outcomes_in r z)) c.front.ensures) c.in_ok-push.ensures.items c.loop-n.invariant.paths);
      small = λ f. further_no_deeper f 1 _ _ _ c.after-rest.ensures (further_no_deeper f n _ _ _ c.after.ensures (c.loop-n.invariant.small f));
    }

pub update-under-requires : goal.update-under-requires
update-under-requires t c =
    let old = reached_normal _ _ _ c.requires c.in-At.ensures in
    let some = one_is_normal _ _ _ c.as_slice.ensures.value (c.in_ok-olds-in-At.ensures.items ∙ ap (λ v. v ∷ []) c.in_ok-copy_value-in-At.ensures) old in
    (grind (arith, common_steps), some)

pub update-returns-in_ok-set_path-in-At : goal.update-returns-in_ok-set_path-in-At
update-returns-in_ok-set_path-in-At t c =
    let r = c.args.self.now in
    let old = reached_normal _ _ _ c.requires c.in-At.ensures in
    let some = one_is_normal _ _ _ refl refl old in
    let is : Val c.in_ok-new-in-At.new ≡ first_in (with_names r c.args.site.names.now (c.in-At.old.now ∷ [])) c.args.site.place c.args.sides.now =
    sym c.in_ok-new-in-At.ensures ∙ ap (λ vs. first_in (with_names r c.args.site.names.now vs) c.args.site.place c.args.sides.now) (c.as_slice.ensures.value ∙ (c.in_ok-olds-in-At.ensures.items ∙ ap (λ v. v ∷ []) c.in_ok-copy_value-in-At.ensures)) in
    let new = first_normal r.width _ r.state r.next (bound_are_normal _ _ _ _ _ c.is_readable.ensures.normal some) c.args.site.place c.args.sides.now c.in_ok-new-in-At.new is in (
      c.in_ok-set_path-in-At.ensures.normal c.requires new,
      λ us. ap (updated c.args.site.place us) c.in_ok-set_path-in-At.ensures.value
          ∙ updated_at c.args.site.place (update_in r c.args.site.place c.args.site.names.now c.args.path.now c.args.sides.now) us c.args.value c.in-At.old.now c.in_ok-new-in-At.new c.in-At.ensures is,
    )

pub operands-returns-clause-normal : goal.operands-returns-clause-normal
operands-returns-clause-normal t c =
    given_normal c.all_of.result _ _ c.all_of.ensures (operands_normal c.args.self.now.width c.args.self.now.bound c.args.self.now.state c.args.self.now.next c.is_readable.ensures.normal c.args.trees.now _ c.in_ok-all.ensures.values)

pub binder-operands-requires : goal.binder-operands-requires
binder-operands-requires t c = (grind (arith, most-take, common_steps), tt)

pub bodies-returns : goal.bodies-returns
bodies-returns t c =
    let body = λ (d : List Value). first_in (with_names c.args.self.now c.args.site.names.now d) c.args.site.place c.args.trees.now in
    gives_all_as c.all_of.result (fault_done body c.args.choices.now _ _ (omega (arith, c.loop-choice-test.false)) c.loop-choice.invariant.fault)
    (values_done body c.args.choices.now _ _ (omega (arith, c.loop-choice-test.false)) c.loop-choice.invariant.values) c.all_of.ensures

pub forms-loop-e-preserved : goal.forms-loop-e-preserved
forms-loop-e-preserved t c =
    let z = joins_form _ _ _ _ _ _ c.form-one.ensures c.in_ok-join.ensures in
    record {
      fault = join_next form_faults form_fault (λ o os. refl) (form_in c.args.self.now) _ _ _ _ _ _ c.loop-e-test.true c.e-item.is refl z.0 c.loop-e.invariant.fault;
      forms = λ none. forms_next (form_in c.args.self.now) _ _ _ _ _ c.loop-e-test.true c.e-item.is (z.1 none).1 (c.loop-e.invariant.forms (z.1 none).0);
    }

pub branch-loop-i-preserved : goal.branch-loop-i-preserved
branch-loop-i-preserved t c =
    branch_goes c.args.self.now c.args.place c.args.trees.now c.loop-i.i _ (omega (arith, c.loop-i-test.true)) c.index-trees-i.is c.loop-i.invariant
    (c.in_ok-holds.ensures ∙ ap yes_no c.if-holds.false)

pub branch-returns-in_err-holds-clause-branch : goal.branch-returns-in_err-holds-clause-branch
branch-returns-in_err-holds-clause-branch t c =
    let p = err_from_is_err_and c.from_residual.result c.from_residual.ensures.1 in
    rw (p.1, p.2) (branch_gives_as (Err _) (sym (well_formed c.args.self.now c.args.place c.args.op.now c.args.trees.now (sym c.is_malformed.ensures ∙ c.if-is_malformed.false)))
    (branch_stops c.args.self.now c.args.place c.args.trees.now c.loop-i.i _ (omega (arith, c.loop-i-test.true)) c.index-trees-i.is c.loop-i.invariant _ c.in_err-holds.ensures.1))

pub branch-returns-then-holds-clause-branch : goal.branch-returns-then-holds-clause-branch
branch-returns-then-holds-clause-branch t c =
    well_formed c.args.self.now c.args.place c.args.op.now c.args.trees.now (sym c.is_malformed.ensures ∙ c.if-is_malformed.false)
    ∙ branch_taken c.args.self.now c.args.place c.args.trees.now c.loop-i.i _ (omega (arith, c.loop-i-test.true)) c.index-trees-i.is c.loop-i.invariant _
    c.index-trees-i-then-holds.is (c.in_ok-holds.ensures ∙ ap yes_no c.if-holds.true)

pub form-returns : goal.form-returns
form-returns t c = form_gives_as c.form_of.result (form_is_node c.args.self.now c.args.e.now) c.form_of.ensures

pub fold-under-requires : goal.fold-under-requires
fold-under-requires t c =
    let some = two_are_normal _ _ _ _ c.as_slice.ensures.value (c.in_ok-pair.ensures.items ∙ ap (λ v. c.loop-item.so_far ∷ v ∷ []) c.in_ok-copy_value.ensures) c.loop-item.invariant.normal
    (item_normal _ _ _ c.loop-item.invariant.all c.loop-item-test.true c.loop-item-item.is) in
    (grind (arith, common_steps), some)

pub fold-loop-item-init : goal.fold-loop-item-init
fold-loop-item-init t c =
    let r = c.args.self.now in
    let p = c.args.site.place in
    let body : Value → Value → Outcome = λ a b. first_in (with_names r c.args.site.names.now (a ∷ b ∷ [])) p c.args.args.now in
    let found = subst (λ o. IfSome o (λ (n : Bor Value × Bor (List (Value × Value))). (q : Place) (f : Value → Value → Outcome) → fold_over q f c.as_slice-values.result.now ≡ folded f (results n.1.now) n.0.now))
    c.in_ok-start.ensures.ok_part c.value_and_items.ensures.some in
    let ok = subst (λ o. IfSome o (λ (n : Bor Value × Bor (List (Value × Value))). Normal n.0.now × Normal (Fun n.1.now))) c.in_ok-start.ensures.ok_part
    (c.value_and_items.ensures.normal (subst (All Normal) (sym c.as_slice-values.ensures) c.in_ok-operands.ensures.normal)) in
    record {
      same = ap (folded body (results c.as_slice-pairs.result.now)) c.in_ok-first.ensures
          ∙ ap (λ z. folded body (results z) c.in_ok-start.start.now) c.as_slice-pairs.ensures ∙ sym (found p body) ∙ ap (fold_over p body) c.as_slice-values.ensures
          ∙ strict_goes c.in_ok-operands.operands (outcomes_in r c.after.result.now) (fold_over p body) c.in_ok-operands.ensures.values
          ∙ ap (λ z. strict (outcomes_in r z) (fold_over p body)) c.after.ensures;
      normal = subst Normal (sym c.in_ok-first.ensures) ok.0;
      all = results_normal _ _ c.as_slice-pairs.ensures ok.1;
    }

pub fold-loop-item-preserved : goal.fold-loop-item-preserved
fold-loop-item-preserved t c =
    let r = c.args.self.now in
    let body : Value → Value → Outcome = λ a b. first_in (with_names r c.args.site.names.now (a ∷ b ∷ [])) c.args.site.place c.args.args.now in
    let is : Val c.in_ok-so_far.so_far ≡ body c.loop-item.so_far c.loop-item-item.result.1 =
    sym c.in_ok-so_far.ensures ∙ ap (λ vs. first_in (with_names r c.args.site.names.now vs) c.args.site.place c.args.args.now) (c.as_slice.ensures.value ∙ (c.in_ok-pair.ensures.items ∙ ap (λ v. c.loop-item.so_far ∷ v ∷ []) c.in_ok-copy_value.ensures)) in
    let some = two_are_normal _ _ _ _ refl refl c.loop-item.invariant.normal (item_normal _ _ _ c.loop-item.invariant.all c.loop-item-test.true c.loop-item-item.is) in
    record {
      same = folded_next body _ _ c.loop-item-item.result _ c.in_ok-so_far.so_far _ c.loop-item-test.true c.loop-item-item.is is c.loop-item.invariant.same;
      normal = first_normal r.width _ r.state r.next (bound_are_normal _ _ _ _ _ c.is_readable.ensures.normal some) c.args.site.place c.args.args.now c.in_ok-so_far.so_far is;
      all = c.loop-item.invariant.all;
    }

pub except-loop-n-init : goal.except-loop-n-init
except-loop-n-init t c =
    let r = c.args.self.now in
    let p = c.args.site.place in
    let found = except_goes r p c.args.counts.now c.args.site.names.now c.args.args.now c.after-trees.result.now c.function-item.result c.in-len1-up.len_at_least c.function-item.is c.after-trees.ensures
    c.value.result c.indexes.result c.value.ensures c.indexes.ensures (c.in_ok-start.start, c.in_ok-start.found) (sym c.in_ok-start.ensures) in
    record {
      same = ap (λ paths. updated p (updates_in r p c.args.site.names.now paths c.after-trees.result.now) c.in_ok-start.start) c.as_slice-paths.ensures ∙ found.1;
      normal = one_normal r.width r.bound r.state r.next c.is_readable.ensures.normal c.function-item.result c.in_ok-start.start (sym found.0);
      small = λ f. further_no_deeper f 1 (most f c.args.args.now) c.args.args.now _ c.after-trees.ensures (omega arith);
    }

pub except-update-requires : goal.except-update-requires
except-update-requires t c =
    let small : (f : Expr → ℕ) → most f c.after-sides.result.now ≤ most f c.args.args.now = λ f. further_no_deeper f _ _ _ _ c.after-sides.ensures (c.loop-n.invariant.small f) in
    (grind (arith, small, common_steps), c.loop-n.invariant.normal)

pub except-loop-n-preserved : goal.except-loop-n-preserved
except-loop-n-preserved t c =
    let r = c.args.self.now in
    record {
      same = updated_next r.width c.args.site.place c.args.site.names.now r.bound r.state r.next c.as_slice-paths.result.now c.loop-n.n-index c.loop-n-item.result c.loop-n.rest.now _ _ _ _ c.in_ok-result.result _
          c.loop-n-test.true c.loop-n-item.is c.as_slice.ensures c.after-sides.ensures c.after-rest.ensures c.in_ok-result.ensures.1 c.loop-n.invariant.same;
      normal = c.in_ok-result.ensures.0;
      small = λ f. further_no_deeper f 1 _ _ _ c.after-rest.ensures (further_no_deeper f _ _ _ _ c.after-sides.ensures (c.loop-n.invariant.small f));
    }

pub except-returns-in_err-result : goal.except-returns-in_err-result
except-returns-in_err-result t c =
    let r = c.args.self.now in
    let p = err_from_is_err_and c.from_residual-in_err-result.result c.from_residual-in_err-result.ensures.1 in
    rw (p.1, p.2) (updated_stops r.width c.args.site.place c.args.site.names.now r.bound r.state r.next c.as_slice-paths.result.now c.loop-n.n-index c.loop-n-item.result c.loop-n.rest.now _ _ _ _ _
    c.loop-n-test.true c.loop-n-item.is c.as_slice.ensures c.after-sides.ensures c.in_err-result.ensures c.loop-n.invariant.same)

pub implication-returns-in_err-guard : goal.implication-returns-in_err-guard
implication-returns-in_err-guard t c =
    let p = err_from_is_err_and c.from_residual.result c.from_residual.ensures.1 in
    rw (p.1, p.2) (premise_stops (value_in c.args.self.now) c.args.place c.args.trees.now _ _ (two_items _ _ _ c.in-len2.len_at_least c.in-len2.len_below c.left-item.is c.right-item.is) _ c.in_err-guard.ensures.0)

pub implication-returns : goal.implication-returns
implication-returns t c =
    let parts = two_items _ _ _ c.in-len2.len_at_least c.in-len2.len_below c.left-item.is c.right-item.is in
    elim c.if-not-branch.branch [
      | implication-then-not-branch w ↦ premise_fails (value_in c.args.self.now) c.args.place c.args.trees.now _ _ parts _ c.in_ok-guard.ensures w.if-not-branch.true ∙ ap (λ b. yes_no (not b)) (sym w.if-not-branch.true) ∙ ap yes_no (sym w.holds-is)
      | implication-else-not-branch+in_ok-holds w ↦
          conclusion_is (value_in c.args.self.now) c.args.place c.args.trees.now _ _ parts _ _ c.in_ok-guard.ensures w.if-not-branch.false w.in_ok-holds.ensures ∙ ap yes_no (sym w.holds-is)
    ]

pub implication-returns-in_err-holds : goal.implication-returns-in_err-holds
implication-returns-in_err-holds t c =
    let p = err_from_is_err_and c.from_residual-in_err-holds.result c.from_residual-in_err-holds.ensures.1 in
    rw (p.1, p.2) (conclusion_stops (value_in c.args.self.now) c.args.place c.args.trees.now _ _ (two_items _ _ _ c.in-len2.len_at_least c.in-len2.len_below c.left-item.is c.right-item.is) _ _ c.in_ok-guard.ensures c.if-not-branch.false c.in_err-holds.ensures.0)

pub function_set-returns-in_err-domain : goal.function_set-returns-in_err-domain
function_set-returns-in_err-domain t c =
    let p = err_from_is_err_and c.from_residual.result c.from_residual.ensures.1 in
    rw (p.1, p.2) (form_gives_as (Err _) (function_parts c.args.self.now.width c.args.self.now.bound c.args.self.now.state c.args.self.now.next c.args.place c.args.trees.now c.after.result.now c.set-item.result c.in-len1-up.len_at_least c.set-item.is c.after.ensures)
    (functions_stop c.args.place (outcomes_in c.args.self.now c.after.result.now) (form_in c.args.self.now c.set-item.result) c.value.result c.forms.result
    (value_in c.args.self.now c.set-item.result) (forms_in c.args.self.now c.after.result.now) c.value.ensures c.forms.ensures _ (sym c.in_err-domain.ensures)))

pub function_set-returns : goal.function_set-returns
function_set-returns t c =
    form_gives_as c.functions_from.result
    (functions_go c.args.place (outcomes_in c.args.self.now c.after.result.now) (form_in c.args.self.now c.set-item.result) c.value.result c.forms.result
    (value_in c.args.self.now c.set-item.result) (forms_in c.args.self.now c.after.result.now) c.value.ensures c.forms.ensures (c.in_ok-domain.domain, c.in_ok-domain.forms) (sym c.in_ok-domain.ensures)
    ∙ function_parts c.args.self.now.width c.args.self.now.bound c.args.self.now.state c.args.self.now.next c.args.place c.args.trees.now c.after.result.now c.set-item.result c.in-len1-up.len_at_least c.set-item.is c.after.ensures) c.functions_from.ensures

pub membership-returns : goal.membership-returns
membership-returns t c =
    let r = c.args.self.now in
    let test = membership_test c.args.op.now c.args.place in
    gives_as c.tested.result
    (membership_goes c.args.place test (value_in r c.right-item.result ∷ []) (form_in r c.left-item.result) (c.in_ok-v.v, c.in_ok-v.set) c.value.result c.form.result
    (value_in r c.left-item.result) (form_in r c.right-item.result) c.value.ensures c.form.ensures (sym c.in_ok-v.ensures)
    ∙ ap (λ es. in_form c.args.place test (outcomes_in r es) (forms_in r es)) (sym (two_items _ _ _ c.in-len2.len_at_least c.in-len2.len_below c.left-item.is c.right-item.is)))
    c.tested.ensures
