use Rattle.std.proofs.Common.{◌≡◌, drop}
use Rattle.snowcat_rows.specs.TypeTexts.{is_among}
use Rattle.kera_reducer.proofs.wholes.is_among.Given as goal

abbrev pub invariant-loop-other : goal.invariant-loop-other
invariant-loop-other l = is_among l.text l.texts ≡ is_among l.text (drop l.other-index l.texts)
