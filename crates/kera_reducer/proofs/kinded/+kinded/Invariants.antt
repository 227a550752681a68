use Rattle.std.proofs.Common.{◌≡◌, drop}
use Rattle.std.specs.List.{list_all}
use Rattle.kernel_reduction.specs.SoundLaws.{has_kind}
use Rattle.kera_reducer.proofs.kinded.+kinded.Given as goal

abbrev pub invariant-have_kinds-loop-ty : goal.invariant-have_kinds-loop-ty
invariant-have_kinds-loop-ty l = list_all has_kind l.types ≡ list_all has_kind (drop l.ty-index l.types)

abbrev pub invariant-are_fields-loop-field : goal.invariant-are_fields-loop-field
invariant-are_fields-loop-field l =
    list_all (λ f. has_kind f.1) l.fields ≡ list_all (λ f. has_kind f.1) (drop l.field-index l.fields)
