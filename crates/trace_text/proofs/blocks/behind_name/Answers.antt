use Rattle.std.proofs.Common.{◌++◌, ap, ◌∙◌}
use Rattle.trace_text.proofs.BlockLines.{front_cases}
use Rattle.trace_text.proofs.blocks.behind_name.Goals as goal

pub returns : goal.returns
returns c =
    front_cases c.args.name.now c.args.bytes.now c.in_ok-after_mark.after_mark.now c.in_ok-after_name.after_name.now c.in_ok-after_mark.ensures
    (c.in_ok-after_name.ensures ∙ ap (λ x. x ++ c.in_ok-after_name.after_name.now) c.bytes.ensures) (λ r. r.now) c.behind-3.result c.behind-3.ensures
