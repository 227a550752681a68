use Rattle.std.proofs.Common.{rules, List, subst}
use Rattle.std.specs.Prelude.{ℕ}
use Rattle.snowcat_rows.specs.Readings.{Counts}
use Rattle.snowcat_rows.specs.inner.Readers.{known_of}
use Rattle.snowcat_rows.proofs.ReadingLaws.{knows_next}
use Rattle.snowcat_rows.proofs.reading.known_aliases.Goals as goal

pub loop-i-preserved : goal.loop-i-preserved
loop-i-preserved c =
    let k = known_of c.loop-i.known.items in
    let j = known_of c.learn.new.known.items in
    let P : List ℕ × List ℕ → Type 0 = λ z. Counts k z j in
    (knows_next c.args.aliases.now c.loop-i.i c.index-aliases-i.result k j (search rules) c.loop-i.invariant.0 (subst P c.index-aliases-i.is c.in_ok-learn.ensures.counts), c.in_ok-learn.ensures.named)
