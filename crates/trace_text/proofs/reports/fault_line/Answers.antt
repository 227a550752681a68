use Rattle.std.proofs.Common.{◌++◌, ◌∙◌, ap}
use Rattle.trace_text.proofs.Behind.{wrong_line}
use Rattle.trace_text.proofs.reports.fault_line.Goals as goal

pub returns-in_ok-outside-in-InvWrong : goal.returns-in_ok-outside-in-InvWrong
returns-in_ok-outside-in-InvWrong c =
    wrong_line _ _ _ _ _ _ _ _ c.in-InvWrong.is c.in_ok-append-in-InvWrong.ensures
    (c.in_ok-append-in-InvWrong-2.ensures ∙ ap (λ x. c.append-in-InvWrong.new.out.items ++ x) c.bytes-in-InvWrong.ensures) c.in_ok-outside-in-InvWrong.ensures
