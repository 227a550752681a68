use Rattle.std.proofs.Common.{◌+◌, ◌-◌, ap, ◌∙◌, arith}
use Rattle.snowcat_rows.specs.Types.{mean}
use Rattle.snowcat_rows.specs.Substitutions.{apply}
use Rattle.snowcat_rows.specs.Chains.{solved}
use Rattle.snowcat_rows.specs.Codes.{variable, bindings_of}
use Rattle.snowcat_rows.specs.FieldNames.{names_differ}
use Rattle.snowcat_rows.specs.inner.Naming.{bound_named}
use Rattle.snowcat_rows.proofs.Distinct.{all_within}
use Rattle.snowcat_rows.proofs.Resolving.{one_further, one_slice, untouched}
use Rattle.snowcat_rows.proofs.replacement.put_all.Goals as goal
use Rattle.snowcat_rows.proofs.replacement.put_all.Goals.{then-occurs+in_ok-current-2, else-occurs}

pub loop-i-preserved : goal.loop-i-preserved
loop-i-preserved c =
    let lt = c.loop-i-test.true in
    let b = c.index-bindings-i.result in (
      one_further c.args.bindings.now c.loop-i.i (c.loop-i.i + 1) b (solved (bindings_of c.args.bindings.now) (mean c.args.t.now)) (mean c.loop-i.current) (mean c.if-occurs.current)
          lt c.index-bindings-i.is (omega arith)
          (elim c.if-occurs.branch [
            | then-occurs+in_ok-current-2 w ↦ ap mean w.current-is ∙ w.in_ok-current-2.ensures.mean ∙ ap (λ s. apply s (mean c.loop-i.current)) (one_slice c.args.bindings.now c.loop-i.i (c.loop-i.i + 1) b lt c.index-bindings-i.is (omega arith))
            | else-occurs w ↦ ap mean w.current-is ∙ untouched b (variable c.bound_by.result) (mean c.loop-i.current) c.bound_by.ensures w.if-occurs.ensures
          ])
          c.loop-i.invariant.0,
      λ a h. elim c.if-occurs.branch [
        | then-occurs+in_ok-current-2 w ↦ ap names_differ w.current-is ∙ w.in_ok-current-2.ensures.named (all_within bound_named c.args.bindings.now c.loop-i.i (c.loop-i.i + 1 - c.loop-i.i) a) (c.loop-i.invariant.1 a h)
        | else-occurs w ↦ ap names_differ w.current-is ∙ c.loop-i.invariant.1 a h
      ],
    )
