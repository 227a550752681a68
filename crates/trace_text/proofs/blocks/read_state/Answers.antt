use Rattle.std.proofs.Common.{◌+◌, ap, length, refl, subst, sym, ◌∙◌}
use Rattle.std.specs.Prelude.{◌==◌}
use Rattle.std.proofs.lemmas.Bool.{false≢true}
use Rattle.trace_text.specs.Blocks.{IsBadLine}
use Rattle.trace_text.proofs.BlockLines.{line_left}
use Rattle.trace_text.proofs.blocks.read_state.Goals as goal

pub returns-else-is_empty : goal.returns-else-is_empty
returns-else-is_empty c =
    subst (λ names. IsBadLine names c.args.bytes.now (length c.as_slice-names.result.now + 1)) c.as_slice-names.ensures
    (line_left c.as_slice-names.result.now c.args.bytes.now c.in_ok-vals.rest.now _ c.in_ok-vals.vals refl c.in_ok-vals.ensures.lines
    (λ e. false≢true (sym c.if-is_empty.false ∙ c.is_empty.ensures ∙ ap (λ rest. length rest == 0) e)))
