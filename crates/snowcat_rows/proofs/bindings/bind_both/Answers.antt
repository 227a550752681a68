use Rattle.std.proofs.Common.{ℕ, List, inr, ap, subst, rules, ◌∙◌, sym, Some}
use Rattle.snowcat_rows.specs.declared.bindings.Bound.TheVariants as bound
use Rattle.snowcat_rows.specs.Types.{Slot}
use Rattle.snowcat_rows.specs.Chains.{row_var, OccursSlot, to_row}
use Rattle.snowcat_rows.specs.inner.Rounds.{row_of}
use Rattle.snowcat_rows.specs.Codes.{has}
use Rattle.std.proofs.Common.{◌≡◌, true}
use Rattle.snowcat_rows.specs.FieldNames.{names}
use Rattle.snowcat_rows.specs.inner.Naming.{all_bound_named, bound_named, fields_named, record_named}
use Rattle.snowcat_rows.proofs.Distinct.{all_within, of_fields, passes_more, record_same}
use Rattle.snowcat_rows.proofs.Rows.{replaced_by, replaced_is, two_added}
use Rattle.snowcat_rows.proofs.bindings.bind_both.Goals as goal

pub returns-then-occurs_fields-2-clause-ok : goal.returns-then-occurs_fields-2-clause-ok
returns-then-occurs_fields-2-clause-ok c =
    let o = c.if-occurs_fields-2.ensures in
    let h = replaced_by c.args.bindings.now.items c.deref.result.now (bound.Row c.args.r c.from_vec.result (Some c.args.issued)) c.len-mark.result c.in_ok-replaced.replaced.items c.as_slice-2.result.now
    (c.deref.ensures.value ∙ c.in_ok-push.ensures.items) (search rules) c.in_ok-replaced.ensures.mean in
    let e = replaced_is c.args.left.items c.from_vec.result c.args.right.items c.as_slice-2.result.now c.in_ok-replaced.replaced.items c.as_slice-3.result.now c.args.r c.args.issued
    c.from_vec.ensures c.as_slice-2.ensures.value c.as_slice-3.ensures.value h in
    inr (o.0, let P : Slot → Type 0 = λ z. OccursSlot (row_var c.args.q) z in subst P (e o.0) o.1)

pub returns-clause-ok : goal.returns-clause-ok
returns-clause-ok c =
    let h = replaced_by c.args.bindings.now.items c.deref.result.now (bound.Row c.args.r c.from_vec.result (Some c.args.issued)) c.len-mark.result c.in_ok-replaced.replaced.items c.as_slice-2.result.now
    (c.deref.ensures.value ∙ c.in_ok-push.ensures.items) (search rules) c.in_ok-replaced.ensures.mean in
    let e = replaced_is c.args.left.items c.from_vec.result c.args.right.items c.as_slice-2.result.now c.in_ok-replaced.replaced.items c.as_slice-3.result.now c.args.r c.args.issued
    c.from_vec.ensures c.as_slice-2.ensures.value c.as_slice-3.ensures.value h in
    record {
      free_first = λ n o. c.if-occurs_fields.ensures n (let P : List (List ℕ × _) → Type 0 = λ l. OccursSlot (row_var c.args.r) (has l n) in subst P (sym c.as_slice.ensures.value) o);
      free_second = λ n o. c.if-occurs_fields-2.ensures n (let P : Slot → Type 0 = λ z. OccursSlot (row_var c.args.q) z in subst P (sym (e n)) o);
      added = two_added c.args.bindings.now.items c.push.new.self.items c.push-2.new.self.items _ _ _ _ c.in_ok-push.ensures.items c.in_ok-push-2.ensures.items
          (ap (λ l. to_row c.args.r (row_of (has l) (Some c.args.issued))) c.from_vec.ensures)
          (ap (λ l. to_row c.args.q (row_of (has l) (Some c.args.issued))) (c.from_vec-2.ensures ∙ sym c.as_slice-3.ensures.value) ∙ (λ i. to_row c.args.q (row_of (λ n. e n i) (Some c.args.issued))));
    }

pub returns-clause-named : goal.returns-clause-named
returns-clause-named c = λ a l r.
    let one : all_bound_named c.push.new.self.items ≡ true =
    passes_more bound_named c.args.bindings.now.items c.push.new.self.items (bound.Row c.args.r c.from_vec.result (Some c.args.issued)) c.in_ok-push.ensures.items a (ap record_named c.from_vec.ensures ∙ l) in
    let fields : fields_named c.in_ok-replaced.replaced.items ≡ true =
    c.in_ok-replaced.ensures.named (all_within bound_named c.deref.result.now _ _ (ap all_bound_named c.deref.ensures.value ∙ one))
    (ap fields_named c.as_slice-2.ensures.value ∙ of_fields c.args.right.items r) in
    passes_more bound_named c.push.new.self.items c.push-2.new.self.items (bound.Row c.args.q c.from_vec-2.result (Some c.args.issued)) c.in_ok-push-2.ensures.items one
    (ap record_named c.from_vec-2.ensures
    ∙ record_same c.args.right.items c.in_ok-replaced.replaced.items (c.in_ok-replaced.ensures.names ∙ ap names c.as_slice-2.ensures.value) r fields)
