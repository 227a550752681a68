use Rattle.std.proofs.Common.{refl, ap}
use Rattle.kernel_trees.specs.declared.path.AssignedStep.TheVariants as mark
use Rattle.assignment_finder.specs.inner.Open.{open_by}
use Rattle.assignment_finder.proofs.Taking.{early_one, takes}
use Rattle.assignment_finder.proofs.marking.value.Goals as goal

pub returns : goal.returns
returns c =
    takes c.args.free.now (mark.Equals c.args.name c.args.k.now) c.first_read.result
    (early_one (open_by c.args.free.now) c.args.k.now (mark.Equals c.args.name c.args.k.now) c.first_read.result refl c.first_read.ensures)
    c.close.new.self (mark.Equals c.args.name c.in_ok-copy.copy) c.in_default.is (ap (mark.Equals c.args.name) c.in_ok-copy.ensures) refl
    (λ m before may h. c.close.ensures m before may h)
