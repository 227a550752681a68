-- Jobs that can be reduced: what the types of a job do not say of its trees, and what its typing does not say of the types.
-- Source: Specifying Systems, section 16.1, for the operands of operators; the Apalache manual, "Type System 1.2: Type
-- annotations".
use Rattle.std.specs.Prelude.{Bool, ◌&&◌, ◌==◌, map, length}
use Rattle.std.specs.List.{list_all}
use Rattle.tla_meaning.specs.declared.job.Job.{Job}
use Rattle.snowcat_rows.specs.declared.types.Typed.{Typed}
use Rattle.snowcat_types.specs.Systems.{parts_of}
use Rattle.kernel_trees.specs.Systems.{constants_first}
use Rattle.kernel_reduction.specs.SizeLaws.{is_apart}
use Rattle.kernel_reduction.specs.SoundLaws.{are_kinded, is_whole_job}

-- no right side of an EXCEPT goes on along its path
abbrev pub are_apart : Job → Bool
are_apart job = list_all is_apart (parts_of job)

-- each tree is whole, each type has a kind, each name has a type, no constant stands behind a variable, and EXCEPTs are
-- apart
abbrev pub is_well_formed : Job → Typed → Bool
is_well_formed job t =
    ((is_whole_job (length t.names) job && are_kinded t)
    && (length t.names == length job.names && constants_first (map (λ d. d.constant) job.names)))
    && are_apart job
