use Rattle.std.proofs.Common.{◌≡◌, drop, map}
use Rattle.snowcat_rows.specs.TypeTexts.{is_among}
use Rattle.kera_reducer.proofs.kinded.is_among.Given as goal

abbrev pub invariant-loop-field : goal.invariant-loop-field
invariant-loop-field l =
    is_among l.name (map (λ f. f.0) l.fields) ≡ is_among l.name (map (λ f. f.0) (drop l.field-index l.fields))
