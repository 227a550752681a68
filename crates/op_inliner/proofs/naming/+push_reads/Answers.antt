use Rattle.std.proofs.Common.{◌∙◌, ap, Vec, Global, List, ℕ, ◌++◌, map, true}
use Rattle.op_inliner.specs.inner.Naming.{reads_of}
use Rattle.op_inliner.proofs.NamingSteps.{reads_done, reads_passed, reads_step, reads_taken}
use Rattle.op_inliner.specs.NamesBack.{opened}
use Rattle.op_inliner.proofs.naming.+push_reads.Goals.{push_children_reads-then-is_marked-inner+in_ok-push_reads, push_children_reads-else-is_marked-inner}
use Rattle.op_inliner.proofs.naming.+push_reads.Goals as goal

pub push_children_reads-loop-i-preserved : goal.push_children_reads-loop-i-preserved
push_children_reads-loop-i-preserved t c =
    reads_step c.args.inner c.args.marks.now c.args.trees.now c.loop-i.all.items c.args.all.now.items c.if-is_marked-inner.all.items c.loop-i.i c.index-trees-i.result c.loop-i-test.true c.index-trees-i.is c.loop-i.invariant
    (elim c.if-is_marked-inner.branch [
      | push_children_reads-then-is_marked-inner+in_ok-push_reads w ↦ reads_taken c.args.inner _ c.is_marked.result (opened c.index-trees-i.result) c.loop-i.all.items _ c.is_marked.ensures w.if-is_marked-inner.true (ap (λ (v : Vec (List ℕ) Global). v.items) w.all-is ∙ w.in_ok-push_reads.ensures)
      | push_children_reads-else-is_marked-inner w ↦ ap (λ (v : Vec (List ℕ) Global). v.items) w.all-is ∙ reads_passed c.args.inner _ c.is_marked.result (opened c.index-trees-i.result) c.loop-i.all.items c.is_marked.ensures w.if-is_marked-inner.false
    ])

pub push_reads-returns : goal.push_reads-returns
push_reads-returns t c =
    reads_done c.args.e.now c.as_slice-args.result.now c.as_slice-binds.result.now c.as_slice-marks.result.now c.args.all.now.items c.push_own_read.new.all.items c.push_children_reads.new.all.items
    c.as_slice.result.now c.push_without.new.all.items c.as_slice-args.ensures c.as_slice-binds.ensures (c.as_slice-marks.ensures.value ∙ c.in_ok-marked.ensures)
    c.in_ok-push_own_read.ensures c.in_ok-push_children_reads.ensures
    (c.as_slice.ensures.value ∙ c.in_ok-push_children_reads-2.ensures ∙ ap (λ (zs : List (List ℕ)). zs ++ reads_of true c.as_slice-marks.result.now (map opened c.as_slice-args.result.now)) c.new-inner.ensures.items)
    c.in_ok-push_without.ensures
