use Rattle.std.proofs.Common.{◌≡◌, ℕ, List, Option, Some, None, ap, ◌∙◌, sym, refl, arith, take, ◌+◌, ◌<◌, length}
use Rattle.std.proofs.lemmas.Grind.{common_steps}
use Rattle.snowcat_rows.specs.declared.types.Ty.{Ty}
use Rattle.snowcat_rows.specs.Types.{fields, mean}
use Rattle.snowcat_rows.specs.Substitutions.{Sub, tail_row}
use Rattle.snowcat_rows.specs.Codes.{bindings_of, named, followed}
use Rattle.snowcat_rows.specs.inner.Lookups.{looked}
use Rattle.snowcat_rows.proofs.Means.{followed_same, followed_by, empty, mean-Rec}
use Rattle.snowcat_rows.specs.FieldNames.{names_differ}
use Rattle.snowcat_rows.specs.Codes.{has}
use Rattle.snowcat_rows.specs.inner.Naming.{fields_named, record_named}
use Rattle.snowcat_rows.proofs.Distinct.{front_passes, joined_named, of_fields}
use Rattle.snowcat_rows.proofs.Fields.{joined_take, joined_skip, joined_end, none_is, some_is}
use Rattle.snowcat_rows.proofs.replacement.follow.Goals as goal
use Rattle.snowcat_rows.proofs.replacement.follow.Goals.{then-is_none+in_ok-name-in-Some-row_bound+in_ok-item-in-Some-row_bound+in_ok-push-in-Some-row_bound, else-is_none}

same : (fs hs : List (List ℕ × Ty)) (s : Sub) (k t : Option ℕ) → hs ≡ fs → t ≡ k → tail_row s k ≡ empty k → fields (has hs) k ≡ followed (named fs) s t
same fs hs s k t e h w =
    ap (λ l. fields (has l) k) e ∙ sym (mean-Rec fs k) ∙ followed_same fs s k (empty k) w refl ∙ ap (followed (named fs) s) (sym h)

pub returns-in-None-clause-mean : goal.returns-in-None-clause-mean
returns-in-None-clause-mean c =
    same c.args.fields.items c.from_vec.result (looked (bindings_of c.args.bindings.now)) None c.args.tail c.from_vec.ensures c.in-None.is refl

pub returns-in-None-row_bound-clause-mean : goal.returns-in-None-row_bound-clause-mean
returns-in-None-row_bound-clause-mean c =
    same c.args.fields.items c.from_vec-in-None-row_bound.result (looked (bindings_of c.args.bindings.now)) (Some c.in-Some.q) c.args.tail
    c.from_vec-in-None-row_bound.ensures c.in-Some.is c.in-None-row_bound.ensures.mean

pub loop-g-preserved : goal.loop-g-preserved
loop-g-preserved c =
    let lt : c.loop-g.g-index < length c.in-Some-row_bound.rest.now = omega arith in
    elim c.if-is_none.branch [
      | then-is_none+in_ok-name-in-Some-row_bound+in_ok-item-in-Some-row_bound+in_ok-push-in-Some-row_bound w ↦ (
        joined_take c.args.fields.items c.in-Some-row_bound.rest.now c.loop-g.fields.items c.if-is_none.fields.items c.loop-g.g-index (c.loop-g.g-index + 1) c.g-item.result
            (w.in_ok-name-in-Some-row_bound.name, w.in_ok-item-in-Some-row_bound.item) lt c.g-item.is (omega arith)
            (ap (λ v. v.items) w.fields-is ∙ w.in_ok-push-in-Some-row_bound.ensures.items) w.in_ok-name-in-Some-row_bound.ensures (ap mean w.in_ok-item-in-Some-row_bound.ensures) c.loop-g.invariant.0,
        λ r h.
            let k = front_passes (λ f. names_differ f.1) c.in-Some-row_bound.rest.now c.loop-g.g-index c.g-item.result lt c.g-item.is h in
            joined_named c.loop-g.fields.items c.if-is_none.fields.items c.g-item.result (w.in_ok-name-in-Some-row_bound.name, w.in_ok-item-in-Some-row_bound.item)
            (ap (λ v. v.items) w.fields-is ∙ w.in_ok-push-in-Some-row_bound.ensures.items)
            (ap (λ l. has l c.g-item.result.0) (sym c.as_slice.ensures.value) ∙ none_is c.as_slice.result.now c.g-item.result.0 c.find.result c.find.ensures w.if-is_none.ensures)
            w.in_ok-name-in-Some-row_bound.ensures (ap names_differ w.in_ok-item-in-Some-row_bound.ensures) (c.loop-g.invariant.1 r k.0) k.1,
      )
      | else-is_none w ↦ (
        joined_skip c.args.fields.items c.in-Some-row_bound.rest.now c.loop-g.fields.items c.if-is_none.fields.items c.loop-g.g-index (c.loop-g.g-index + 1) c.g-item.result lt c.g-item.is (omega arith)
            (λ e. some_is c.as_slice.result.now c.g-item.result.0 c.find.result c.find.ensures w.if-is_none.ensures (ap (λ l. has l c.g-item.result.0) c.as_slice.ensures.value ∙ e))
            (ap (λ v. v.items) w.fields-is) c.loop-g.invariant.0,
        λ r h.
            let k = front_passes (λ f. names_differ f.1) c.in-Some-row_bound.rest.now c.loop-g.g-index c.g-item.result lt c.g-item.is h in
            ap (λ v. record_named v.items) w.fields-is ∙ c.loop-g.invariant.1 r k.0,
      )
    ]

pub returns-in-None-clause-named : goal.returns-in-None-clause-named
returns-in-None-clause-named c = λ a r. ap record_named c.from_vec.ensures ∙ r

pub returns-in-None-row_bound-clause-named : goal.returns-in-None-row_bound-clause-named
returns-in-None-row_bound-clause-named c = λ a r. ap record_named c.from_vec-in-None-row_bound.ensures ∙ r

pub returns-after-loop-g-clause-mean : goal.returns-after-loop-g-clause-mean
returns-after-loop-g-clause-mean c =
    sym (mean-Rec c.from_vec-in-Some-row_bound.result c.in-Some-row_bound.end)
    ∙ followed_by c.args.fields.items c.from_vec-in-Some-row_bound.result c.in-Some-row_bound.rest.now (looked (bindings_of c.args.bindings.now)) c.in-Some.q c.in-Some-row_bound.end
    c.in-Some-row_bound.ensures.mean
    (λ n. ap (λ l. has l n) c.from_vec-in-Some-row_bound.ensures ∙ joined_end c.args.fields.items c.in-Some-row_bound.rest.now c.loop-g.fields.items c.loop-g.g-index (omega arith) c.loop-g.invariant.0 n)
    ∙ ap (followed (named c.args.fields.items) (looked (bindings_of c.args.bindings.now))) (sym c.in-Some.is)

pub returns-after-loop-g-clause-named : goal.returns-after-loop-g-clause-named
returns-after-loop-g-clause-named c = λ a r.
    let e : take c.loop-g.g-index c.in-Some-row_bound.rest.now ≡ c.in-Some-row_bound.rest.now = grind (arith, common_steps) in
    ap record_named c.from_vec-in-Some-row_bound.ensures
    ∙ (c.loop-g.invariant.1 r (ap fields_named e ∙ of_fields c.in-Some-row_bound.rest.now (c.in-Some-row_bound.ensures.named a)))
