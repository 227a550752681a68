use Rattle.snowcat_rows.specs.Types.{mean}
use Rattle.snowcat_rows.specs.Views.{known_by}
use Rattle.snowcat_rows.proofs.ReadingLaws.{one_reading, only_memory, reads_as}
use Rattle.snowcat_rows.proofs.reading.read_type.Goals as goal

pub returns-in-Ok-clause-only : goal.returns-in-Ok-clause-only
returns-in-Ok-clause-only c = λ t r.
    let k = known_by c.in_ok-known.known in
    one_reading c.args.aliases.now c.args.text.now (mean c.in-Ok.read.0) t
    (reads_as c.args.aliases.now c.args.text.now k (mean c.in-Ok.read.0) c.in-Ok.read.1 c.in_ok-known.ensures c.in-Ok.ensures.read) r

pub returns-clause-only : goal.returns-clause-only
returns-clause-only c = λ t r.
    only_memory c.args.aliases.now c.args.text.now (known_by c.in_ok-known.known) c.in-Err.fault t c.in_ok-known.ensures c.in-Err.ensures.read r
