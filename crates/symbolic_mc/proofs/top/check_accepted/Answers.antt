use Rattle.std.proofs.Common.{subst}
use Rattle.symbolic_mc.specs.Top.{IsAnswer}
use Rattle.symbolic_mc.specs.declared.top.Kept.{Kept}
use Rattle.symbolic_mc.specs.inner.Told.{answer_of, requests}
use Rattle.symbolic_mc.proofs.top.check_accepted.Goals as goal

pub returns-in-Saved-clause-answer : goal.returns-in-Saved-clause-answer
returns-in-Saved-clause-answer g c = λ again.
    subst (λ (kept : Kept). IsAnswer (requests c.args.request.now.file.now c.args.request.now.longest c.args.request.now.budget again)
    (g.F.Files.held c.args.files.now) (g.F.Files.held c.check_module.new.files) (g.F.Files.faults c.args.files.now)
    (g.F.Files.faults c.check_module.new.files) (answer_of kept c.args.accepted.job)) c.in-Saved.is (c.in_ok-verdict.ensures.answer again)

pub returns-in-Unsaved-clause-answer : goal.returns-in-Unsaved-clause-answer
returns-in-Unsaved-clause-answer g c = λ again.
    subst (λ (kept : Kept). IsAnswer (requests c.args.request.now.file.now c.args.request.now.longest c.args.request.now.budget again)
    (g.F.Files.held c.args.files.now) (g.F.Files.held c.check_module.new.files) (g.F.Files.faults c.args.files.now)
    (g.F.Files.faults c.check_module.new.files) (answer_of kept c.args.accepted.job)) c.in-Unsaved.is (c.in_ok-verdict.ensures.answer again)
