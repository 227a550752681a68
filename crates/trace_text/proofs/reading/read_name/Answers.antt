use Rattle.std.proofs.Common.{ap, sym, ◌∙◌, codes}
use Rattle.tla_values.proofs.TextLaw.{cancel}
use Rattle.tla_values.specs.declared.value.Value.{Text}
use Rattle.trace_text.proofs.Pieces.{field_name}
use Rattle.trace_text.proofs.ValueForms.{fits_text}
use Rattle.trace_text.proofs.reading.read_name.Goals as goal

pub returns-in_ok-name-in-Some-clause-reads : goal.returns-in_ok-name-in-Some-clause-reads
returns-in_ok-name-in-Some-clause-reads c = λ a r argument e.
    let name = field_name c.args.bytes.now _ _ a r c.run.ensures argument.1 e in (
      ap Text (c.from_vec.ensures ∙ c.in_ok-name-in-Some.ensures.items ∙ name.0) ∙ sym argument.0,
      cancel (codes " |-> ") c.in-Some.more.now r (sym c.in-Some.ensures ∙ name.1),
    )

pub returns-in_ok-name-in-Some-clause-fits : goal.returns-in_ok-name-in-Some-clause-fits
returns-in_ok-name-in-Some-clause-fits c = fits_text c.from_vec.result

pub returns-in-None-clause-reads : goal.returns-in-None-clause-reads
returns-in-None-clause-reads c = λ a r argument e.
    let name = field_name c.args.bytes.now _ _ a r c.run.ensures argument.1 e in
    c.in-None.ensures r name.1
