use Rattle.std.proofs.Common.{◌≡◌, drop}
use Rattle.std.specs.List.{list_all}
use Rattle.kernel_reduction.specs.SoundLaws.{has_kind}
use Rattle.kera_reducer.proofs.kinded.are_parts_kinded.Given as goal

abbrev pub invariant-loop-types : goal.invariant-loop-types
invariant-loop-types l = list_all (list_all has_kind) l.parts ≡ list_all (list_all has_kind) (drop l.types-index l.parts)
