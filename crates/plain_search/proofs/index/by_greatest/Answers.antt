use Rattle.std.proofs.Common.{◌≡◌, ℕ, ◌+◌, ◌<◌, ◌≤◌, ◌∙◌, List, [], ap, sym, subst, length, set, get_or, arith, All}
use Rattle.std.specs.Prelude.{Contains}
use Rattle.std.proofs.lemmas.List.{get_or_default}
use Rattle.plain_search.specs.inner.Index.{IsGreatest}
use Rattle.plain_search.proofs.Indexed.{entered, not_entered, greatest_of}
use Rattle.plain_search.proofs.index.by_greatest.Goals as goal
use Rattle.plain_search.proofs.index.by_greatest.Goals.{then-variable-len+in_ok-push, else-variable-len}

pub loop-number-preserved : goal.loop-number-preserved
loop-number-preserved c =
    let lt : c.loop-number.number < length c.args.cnf.now.clauses = let test = c.loop-number-test.true in omega (arith, ap length c.clauses-clause-items.ensures) in
    let unique = greatest_of c.args.cnf.now.clauses c.clauses-clause-items.result.now c.loop-number.number c.greatest-variable.result c.clause-item.result
    c.clauses-clause-items.ensures lt c.clause-item.is c.greatest-variable.ensures in
    elim c.if-variable-len.branch [
      | then-variable-len+in_ok-push w ↦
          let small : c.greatest-variable.result < length c.loop-number.index.items = let test = w.if-variable-len.true in let len = c.len.ensures in omega arith in
          let more = entered c.args.cnf.now.clauses c.loop-number.index.items c.if-variable-len.index.items c.loop-number.number c.greatest-variable.result
          w.index_mut.result.now lt small
          (w.index_mut.ensures.value ∙ get_or_default c.loop-number.index.items c.greatest-variable.result w.index_mut.result.now [] small)
          (ap (λ v. v.items) w.index-is ∙ ap (set c.loop-number.index.items c.greatest-variable.result) w.in_ok-push.ensures.added) c.loop-number.invariant.within c.loop-number.invariant.each unique in
          record { size = more.0 ∙ c.loop-number.invariant.size; within = more.1; each = more.2 }
      | else-variable-len w ↦
          let large : length c.loop-number.index.items ≤ c.greatest-variable.result = let test = w.if-variable-len.false in let len = c.len.ensures in omega arith in
          let same : c.if-variable-len.index.items ≡ c.loop-number.index.items = ap (λ v. v.items) w.index-is in
          let each = not_entered c.args.cnf.now.clauses c.loop-number.index.items c.loop-number.number c.greatest-variable.result large c.loop-number.invariant.each unique in
          record {
            size = ap length same ∙ c.loop-number.invariant.size;
            within = subst (All (All (λ k. k < length c.args.cnf.now.clauses))) (sym same) c.loop-number.invariant.within;
            each = subst
                (λ (x : List (List ℕ)). (k v : ℕ) → k < c.loop-number.number + 1 → v < length x → IsGreatest (get_or c.args.cnf.now.clauses k []) v → Contains (get_or x v []) k)
                (sym same) each;
          }
    ]
