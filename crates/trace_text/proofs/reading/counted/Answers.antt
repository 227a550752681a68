use Rattle.std.proofs.Common.{◌+◌, arith}
use Rattle.std.proofs.lemmas.Int.{ints}
use Rattle.trace_text.proofs.ValueForms.{fits_count}
use Rattle.trace_text.proofs.reading.counted.Goals as goal

pub returns-clause-fits : goal.returns-clause-fits
returns-clause-fits c = fits_count _ (c.args.place + 1) (omega (arith, ints)) (omega arith)
