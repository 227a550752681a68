use Rattle.std.proofs.Common.{ℕ, List, inl, inr, subst}
use Rattle.snowcat_rows.specs.Chains.{row_var, OccursSlot}
use Rattle.snowcat_rows.specs.Codes.{has}
use Rattle.snowcat_rows.proofs.bindings.bind_row.Goals as goal
use Rattle.snowcat_rows.proofs.bindings.bind_row.Goals.{then-occurs_fields-via-then-occurs_fields, then-occurs_fields-via-else-occurs_fields+then-is_end}

pub returns-then-occurs_fields-clause-ok : goal.returns-then-occurs_fields-clause-ok
returns-then-occurs_fields-clause-ok c =
    elim c.then-occurs_fields.branch [
      | then-occurs_fields-via-then-occurs_fields w ↦
          (let o = w.if-occurs_fields.ensures in
          let P : List (List ℕ × _) → Type 0 = λ l. (n : List ℕ) × OccursSlot (row_var c.args.r) (has l n) in
          inl (subst P c.as_slice.ensures.value o))
      | then-occurs_fields-via-else-occurs_fields+then-is_end w ↦ inr w.if-is_end.ensures
    ]
