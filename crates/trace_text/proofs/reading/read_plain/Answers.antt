use Rattle.std.proofs.Common.{ap, ◌∙◌, subst}
use Rattle.std.proofs.lemmas.Result.{err_from_is_err_and}
use Rattle.tla_values.specs.declared.value.Value.{Text}
use Rattle.trace_text.specs.inner.Reading.{Gives}
use Rattle.trace_text.proofs.PlainValues.{truth_read, quote_read, number_read}
use Rattle.trace_text.proofs.ValueForms.{fits_bool, fits_text}
use Rattle.trace_text.proofs.reading.read_plain.Goals as goal

pub returns-in-Some-clause-reads : goal.returns-in-Some-clause-reads
returns-in-Some-clause-reads c = λ v r fits plain ends e.
    truth_read c.args.bytes.now v r fits plain e c.in-Some.truth c.in-Some.rest.now c.in-Some.ensures

pub returns-in-Some-clause-fits : goal.returns-in-Some-clause-fits
returns-in-Some-clause-fits c = fits_bool c.in-Some.truth

pub returns-in_err-out-clause-reads : goal.returns-in_err-out-clause-reads
returns-in_err-out-clause-reads c = λ v r fits plain ends e.
    let quoted = quote_read c.args.bytes.now v r fits plain e c.in-Some-behind.inner.now c.in-Some-behind.ensures in
    let p = err_from_is_err_and c.from_residual.result c.from_residual.ensures.1 in
    rw (p.1, p.2) (c.in_err-out.ensures.reads quoted.text r quoted.bytes)

pub returns-in-Some-behind-clause-reads : goal.returns-in-Some-behind-clause-reads
returns-in-Some-behind-clause-reads c = λ v r fits plain ends e.
    let quoted = quote_read c.args.bytes.now v r fits plain e c.in-Some-behind.inner.now c.in-Some-behind.ensures in
    let same = c.in_ok-out.ensures.reads quoted.text r quoted.bytes in
    (ap Text (c.from_vec.ensures ∙ same.0) ∙ quoted.is, same.1)

pub returns-in-Some-behind-clause-fits : goal.returns-in-Some-behind-clause-fits
returns-in-Some-behind-clause-fits c = fits_text c.from_vec.result

pub returns-clause-reads : goal.returns-clause-reads
returns-clause-reads c = λ v r fits plain ends e.
    let number = number_read c.args.bytes.now v r fits plain e c.in_default.ensures c.in_default-behind.ensures in
    subst (λ w. Gives c.number.result w r) number.is (c.number.ensures.reads number.number r number.fits ends number.text)
