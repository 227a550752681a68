use Rattle.front_end.proofs.Answering.{only_flat, unjoined_answer}
use Rattle.front_end.proofs.accepting.accept.Goals as goal

pub returns-in-Ok-clause-answer : goal.returns-in-Ok-clause-answer
returns-in-Ok-clause-answer g c =
    c.of_flat.ensures (g.F.Files.held c.args.files.now) _ _
    (only_flat (g.F.Files.held c.args.files.now) c.args.request.now.root c.as_string.result.now c.in-Ok.flat c.as_string.ensures
    c.in-Ok.ensures.answer (λ f told there. c.in-Ok.ensures.one f told there)) c.in-Ok.ensures.counted

pub returns-in-Err-clause-answer : goal.returns-in-Err-clause-answer
returns-in-Err-clause-answer g c =
    rw c.unjoined.ensures (unjoined_answer (g.F.Files.held c.args.files.now) _ _ c.args.request.now c.as_string.result.now c.in-Err.refusal
    c.as_string.ensures c.in-Err.ensures.answer c.in-Err.ensures.counted (λ f told there. c.in-Err.ensures.one f told there))
