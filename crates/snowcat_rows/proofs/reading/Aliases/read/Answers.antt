use Rattle.std.proofs.Common.{List, subst, sym}
use Rattle.std.specs.Prelude.{ℕ, ◌<◌, ◌^◌}
use Rattle.snowcat_rows.specs.declared.building.Alias.{Alias}
use Rattle.snowcat_rows.specs.declared.types.Ty.{Ty}
use Rattle.snowcat_rows.specs.Types.{mean}
use Rattle.snowcat_rows.specs.Said.{IsRegular}
use Rattle.snowcat_rows.specs.Readings.{IsReadBy}
use Rattle.snowcat_rows.specs.Views.{known_by}
use Rattle.snowcat_rows.specs.inner.Readers.{known_of}
use Rattle.snowcat_rows.proofs.Rereading.{whole_within}
use Rattle.snowcat_rows.proofs.reading.Aliases.read.Goals as goal

pub returns-in-Ok-clause-regular : goal.returns-in-Ok-clause-regular
returns-in-Ok-clause-regular c = λ aliases h.
    let w = c.in-Ok.whole in
    let P : List Alias → Type 0 = λ z. IsReadBy (known_of z) c.args.text.now (mean w.of) w.count in
    let R : Ty → Type 0 = λ z. IsRegular z in
    let S : ℕ → Type 0 = λ z. z < 2 ^ 32 in
    subst R (sym c.type_and_count.ensures.of) (record {
      names = c.in-Ok.ensures.named;
      numbers = whole_within aliases c.args.text.now (known_by c.args.self.now) (mean w.of) w.count h (subst P c.as_slice.ensures.value c.in-Ok.ensures.read) (subst S c.type_and_count.ensures.count c.type_and_count.ensures.small);
    })
