use Rattle.std.proofs.Common.{rules}
use Rattle.snowcat_rows.specs.inner.Readers.{known_of}
use Rattle.snowcat_rows.proofs.Unknowns.{found_at, passed_at}
use Rattle.snowcat_rows.proofs.reading.unknown_within.Goals as goal

pub returns-then-begins_unknown : goal.returns-then-begins_unknown
returns-then-begins_unknown c =
    found_at (known_of c.args.known.now) c.args.bytes.now c.after.result.now c.loop-at.at (search rules) c.after.ensures c.loop-at.invariant c.from_vec.result (search rules) (search rules)

pub loop-at-preserved : goal.loop-at-preserved
loop-at-preserved c = passed_at (known_of c.args.known.now) c.args.bytes.now c.after.result.now c.loop-at.at (search rules) c.after.ensures c.loop-at.invariant (search rules)
