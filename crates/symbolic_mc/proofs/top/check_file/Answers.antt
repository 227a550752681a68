use Rattle.std.proofs.Common.{ℕ, List, Option, IfOk, subst}
use Rattle.tool_outside.specs.Outside.{Folder}
use Rattle.symbolic_mc.specs.Top.{IsAnswer, Touches}
use Rattle.symbolic_mc.specs.inner.Told.{requests}
use Rattle.symbolic_mc.proofs.Answered.{not_accepted}
use Rattle.symbolic_mc.proofs.Texts.{on_ok}
use Rattle.symbolic_mc.proofs.top.check_file.Goals as goal

pub returns-in-Ok-clause-answer : goal.returns-in-Ok-clause-answer
returns-in-Ok-clause-answer g c =
    subst (λ (held : Option Folder). IfOk c.check_accepted.result (λ answer. (again : Option (List ℕ)) →
    IsAnswer (requests c.args.request.now.file.now c.args.request.now.longest c.args.request.now.budget again)
    held (g.F.Files.held c.check_accepted.new.files) (g.F.Files.faults c.args.files.now) (g.F.Files.faults c.check_accepted.new.files) answer))
    c.in-Ok.ensures.keeps
    (subst (λ (count : ℕ). IfOk c.check_accepted.result (λ answer. (again : Option (List ℕ)) →
    IsAnswer (requests c.args.request.now.file.now c.args.request.now.longest c.args.request.now.budget again)
    (g.F.Files.held c.accept_file.new.files) (g.F.Files.held c.check_accepted.new.files) count (g.F.Files.faults c.check_accepted.new.files) answer))
    c.in-Ok.ensures.answer.1 c.check_accepted.ensures.answer)

pub returns-in-Ok-clause-files : goal.returns-in-Ok-clause-files
returns-in-Ok-clause-files g c = λ again.
    subst (λ (held : Option Folder). Touches (requests c.args.request.now.file.now c.args.request.now.longest c.args.request.now.budget again) held (g.F.Files.held c.check_accepted.new.files))
    c.in-Ok.ensures.keeps (c.check_accepted.ensures.files again)

pub returns-in-Err-clause-answer : goal.returns-in-Err-clause-answer
returns-in-Err-clause-answer g c =
    on_ok c.refused.result _ _ (λ answer is again.
    not_accepted c.args.request.now.file.now c.args.request.now.longest c.args.request.now.budget again (g.F.Files.held c.args.files.now) _ _ _ c.in-Err.ensures.keeps
    c.in-Err.refusal answer is.0 c.in-Err.ensures.answer is.1) c.refused.ensures
