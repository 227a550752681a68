use Rattle.std.proofs.Common.{List, ℕ, ap, refl, subst}
use Rattle.kernel_trees.specs.declared.kernel.Ker.{Ker}
use Rattle.kernel_trees.specs.declared.path.AssignedStep.TheVariants as mark
use Rattle.assignment_finder.specs.inner.Open.{open_by}
use Rattle.assignment_finder.specs.inner.Reads.{IsFirst, sets_read}
use Rattle.assignment_finder.proofs.Taking.{none_endless, refused_early, takes}
use Rattle.assignment_finder.proofs.marking.pick.Goals as goal

pub returns-in-Some : goal.returns-in-Some
returns-in-Some c =
    refused_early c.args.free.now (mark.Pick c.args.sets.now) c.first_of_sets.result
    (subst (λ (ps : List (ℕ × Ker)). IsFirst (sets_read (open_by c.args.free.now) ps) c.first_of_sets.result) c.as_slice.ensures c.first_of_sets.ensures)
    c.args.free.now c.in-Some.read c.in-Some.is (none_endless c.in-Some.read.place)

pub returns : goal.returns
returns c =
    takes c.args.free.now (mark.Pick c.args.sets.now) c.first_of_sets.result
    (subst (λ (ps : List (ℕ × Ker)). IsFirst (sets_read (open_by c.args.free.now) ps) c.first_of_sets.result) c.as_slice.ensures c.first_of_sets.ensures)
    c.args.free.now (mark.Pick c.in_ok-copy.copy) c.in_default.is (ap mark.Pick c.in_ok-copy.ensures) refl (λ m before may h. h)
