use Rattle.std.proofs.Common.{List, ℕ, take, sym, subst}
use Rattle.kernel_trees.specs.declared.kernel.Ker.{Ker}
use Rattle.kernel_trees.specs.Assignments.{reads_at}
use Rattle.assignment_finder.specs.inner.Open.{open_by}
use Rattle.assignment_finder.specs.inner.Reads.{IsFirst, sets_read}
use Rattle.assignment_finder.proofs.FirstReads.{sets_end}
use Rattle.assignment_finder.proofs.Listing.{take_more}
use Rattle.assignment_finder.proofs.reading.first_of_sets.Goals as goal

pub loop-set-preserved : goal.loop-set-preserved
loop-set-preserved c =
    let m = open_by c.args.free.now in
    subst (λ (ps : List (ℕ × Ker)). IsFirst (sets_read m ps) c.earlier-first.result)
    (sym (take_more c.args.sets.now c.loop-set.set-index c.loop-set-item.result c.loop-set-test.true c.loop-set-item.is))
    (sets_end m (take c.loop-set.set-index c.args.sets.now) c.loop-set-item.result c.earlier-first.result
    (c.earlier-first.ensures (sets_read m (take c.loop-set.set-index c.args.sets.now)) (reads_at m c.loop-set-item.result.1) c.loop-set.invariant c.first_read.ensures))
