use Rattle.std.proofs.Common.{◌∙◌, ap, refl, sym, inr, Err}
use Rattle.symbolic_mc.proofs.Answered.{fault_answer, for_request, found_answer, part_touches, saved_touches}
use Rattle.symbolic_mc.proofs.Commands.{may_be_asked}
use Rattle.symbolic_mc.proofs.top.check_module.Goals as goal

pub check_to-requires-clause-accepted : goal.check_to-requires-clause-accepted
check_to-requires-clause-accepted g c = c.requires.accepted.whole

pub check_to-requires-clause-ready : goal.check_to-requires-clause-ready
check_to-requires-clause-ready g c =
    c.accepted_systems_can_be_checked.ensures (g.F.Files.held c.args.files.now) _ c.args.accepted.now
    (may_be_asked c.args.request.now.file.now c.args.request.now.longest c.requires.askable) c.requires.accepted

pub returns-in-Ok-clause-answer : goal.returns-in-Ok-clause-answer
returns-in-Ok-clause-answer g c = λ again.
    found_answer c.args.request.now.file.now c.args.accepted.now c.args.request.now.longest c.args.request.now.budget again (g.F.Files.held c.args.files.now) _ _ _
    c.in_ok-found.found.verdict c.in_ok-found.found.certificate c.requires.accepted (for_request c.args.request.now.file.now c.args.request.now.longest c.args.accepted.now (g.F.Files.held c.args.files.now) (may_be_asked c.args.request.now.file.now c.args.request.now.longest c.requires.askable) c.requires.accepted _ _ _ c.in_ok-found.ensures) _ _
    (c.as_str.ensures.value ∙ c.in_ok-name.ensures) c.as_slice.ensures c.in-Ok.ensures.saved

pub returns-in-Ok-clause-files : goal.returns-in-Ok-clause-files
returns-in-Ok-clause-files g c = λ again.
    saved_touches c.args.request.now.file.now c.args.accepted.now c.args.request.now.longest c.args.request.now.budget again (g.F.Files.held c.args.files.now) _ (g.F.Files.faults c.args.files.now)
    (g.F.Files.faults c.args.files.now) c.in_ok-found.found.verdict c.in_ok-found.found.certificate c.requires.accepted (for_request c.args.request.now.file.now c.args.request.now.longest c.args.accepted.now (g.F.Files.held c.args.files.now) (may_be_asked c.args.request.now.file.now c.args.request.now.longest c.requires.askable) c.requires.accepted _ _ _ c.in_ok-found.ensures) _ _
    (c.as_str.ensures.value ∙ c.in_ok-name.ensures) c.as_slice.ensures c.in-Ok.ensures.saved

pub returns-clause-files : goal.returns-clause-files
returns-clause-files g c = λ again.
    part_touches c.args.request.now.file.now c.args.accepted.now c.args.request.now.longest c.args.request.now.budget again (g.F.Files.held c.args.files.now) _ (g.F.Files.faults c.args.files.now)
    (g.F.Files.faults c.args.files.now) c.in_ok-found.found.verdict c.in_ok-found.found.certificate c.requires.accepted (for_request c.args.request.now.file.now c.args.request.now.longest c.args.accepted.now (g.F.Files.held c.args.files.now) (may_be_asked c.args.request.now.file.now c.args.request.now.longest c.requires.askable) c.requires.accepted _ _ _ c.in_ok-found.ensures) _ _
    (c.as_str.ensures.value ∙ c.in_ok-name.ensures) c.as_slice.ensures c.in-Err-Memory.ensures.refused

pub returns-in-Err-Failed : goal.returns-in-Err-Failed
returns-in-Err-Failed g c = record {
  answer = λ again.
      fault_answer c.args.request.now.file.now c.args.accepted.now c.args.request.now.longest c.args.request.now.budget again (g.F.Files.held c.args.files.now) _ _ _
      c.in_ok-found.found.verdict c.in_ok-found.found.certificate c.requires.accepted (for_request c.args.request.now.file.now c.args.request.now.longest c.args.accepted.now (g.F.Files.held c.args.files.now) (may_be_asked c.args.request.now.file.now c.args.request.now.longest c.requires.askable) c.requires.accepted _ _ _ c.in_ok-found.ensures) _ _ _
      (c.as_str.ensures.value ∙ c.in_ok-name.ensures) (c.in_ok-fault.ensures ∙ c.as_bytes.ensures.value ∙ sym c.as_str.ensures.value) c.as_slice.ensures
      (c.in-Err-Failed.ensures.cause.failed (ap Err c.in-Err-Failed.field-0-is)) c.in-Err-Failed.ensures.refused;
  calm = inr (inr refl);
  files = λ again.
      part_touches c.args.request.now.file.now c.args.accepted.now c.args.request.now.longest c.args.request.now.budget again (g.F.Files.held c.args.files.now) _ (g.F.Files.faults c.args.files.now)
      (g.F.Files.faults c.args.files.now) c.in_ok-found.found.verdict c.in_ok-found.found.certificate c.requires.accepted (for_request c.args.request.now.file.now c.args.request.now.longest c.args.accepted.now (g.F.Files.held c.args.files.now) (may_be_asked c.args.request.now.file.now c.args.request.now.longest c.requires.askable) c.requires.accepted _ _ _ c.in_ok-found.ensures) _ _
      (c.as_str.ensures.value ∙ c.in_ok-name.ensures) c.as_slice.ensures c.in-Err-Failed.ensures.refused;
}
