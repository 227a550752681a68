use Rattle.std.proofs.Common.{List, subst}
use Rattle.std.specs.Prelude.{ℕ}
use Rattle.snowcat_rows.specs.declared.building.Alias.{Alias}
use Rattle.snowcat_rows.specs.Readings.{IsFaultOf}
use Rattle.snowcat_rows.specs.inner.Readers.{known_of}
use Rattle.snowcat_rows.proofs.ReadingLaws.{counts_fault}
use Rattle.snowcat_rows.proofs.reading.learn.Goals as goal

pub returns-in_ok-unless_memory-in-Err-clause-counts : goal.returns-in_ok-unless_memory-in-Err-clause-counts
returns-in_ok-unless_memory-in-Err-clause-counts c =
    let P : List Alias → Type 0 = λ z. IsFaultOf (known_of z) c.bytes.result.now c.in-Err.fault in
    let Q : List ℕ → Type 0 = λ z. IsFaultOf (known_of c.args.known.now.items) z c.in-Err.fault in
    counts_fault (known_of c.args.known.now.items) c.args.alias.now c.in-Err.fault (subst Q c.bytes.ensures (subst P c.as_slice.ensures.value c.in-Err.ensures.read)) c.in_ok-unless_memory-in-Err.ensures
