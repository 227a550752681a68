use Rattle.std.proofs.Common.{◌≡◌, drop, map}
use Rattle.snowcat_rows.specs.TypeTexts.{are_distinct}
use Rattle.kera_reducer.proofs.kinded.are_distinct.Given as goal

abbrev pub invariant-loop-i : goal.invariant-loop-i
invariant-loop-i l = are_distinct (map (λ f. f.0) l.fields) ≡ are_distinct (map (λ f. f.0) (drop l.i l.fields))
