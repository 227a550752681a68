use Rattle.std.proofs.Common.{◌++◌, ◌∙◌, ap, arith, length, sym}
use Rattle.std.proofs.lemmas.List.{append-nil}
use Rattle.std.specs.Prelude.{min}
use Rattle.trace_text.proofs.Lines.{lines_end}
use Rattle.trace_text.proofs.reports.block.Goals as goal

pub returns : goal.returns
returns c =
    let past = c.loop-i-test.false in
    let count = c.min-i-end.ensures ∙ ap (λ vs. min (length c.args.names.now) (length vs)) c.as_slice-values.ensures in
    sym (append-nil c.loop-i.out.items)
    ∙ ap (λ x. c.loop-i.out.items ++ x) (sym (lines_end c.args.names.now c.args.state.now.vals c.loop-i.i (omega (arith, past, count))))
    ∙ c.loop-i.invariant
