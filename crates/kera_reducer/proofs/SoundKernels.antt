-- A job's kernel is sound.
use Rattle.std.proofs.Common.{◌≡◌, Bool, true, ◌&&◌, List, [], ◌∷◌, map, length, refl, sym, ◌∙◌, ap, subst, arith}
use Rattle.std.specs.Prelude.{◌==◌, Contains, None}
use Rattle.std.specs.List.{list_all}
use Rattle.std.proofs.lemmas.List.{length-map}
use Rattle.tla_meaning.specs.declared.expr.Decl.{Decl}
use Rattle.tla_meaning.specs.declared.job.Job.{Job}
use Rattle.tla_meaning.specs.declared.place.Place.{Place}
use Rattle.tla_meaning.proofs.Views.{and_left, and_right, and_both}
use Rattle.snowcat_rows.specs.declared.types.Typed.{Typed}
use Rattle.snowcat_types.specs.Systems.{parts_of}
use Rattle.kernel_trees.specs.declared.system.KerJob.{KerJob}
use Rattle.kernel_trees.specs.Sound.{passes}
use Rattle.kernel_trees.specs.Systems.{constants_first, kinds_of_names, parts, sound_part}
use Rattle.snowcat_rows.specs.TypeTexts.{are_distinct}
use Rattle.kernel_reduction.specs.Infinite.{IsLeastIfAny, infinite_places}
use Rattle.kernel_reduction.specs.Kernels.{IsKernelOf, IsSoundKernel}
use Rattle.kernel_reduction.specs.Literals.{all_literals}
use Rattle.kernel_reduction.specs.SoundLaws.{are_kinded, is_whole_job, texts_among}
use Rattle.kernel_reduction.specs.WellFormed.{are_apart}
use Rattle.kera_reducer.proofs.KernelTexts.{job_texts_among, once_distinct}
use Rattle.kernel_reduction.proofs.SoundJobs.{parts_are_sound}

-- a place would stand at the front of the list
none_is : (ps : List Place) → ((p : Place) → Contains ps p → ⊥) → ps ≡ []
none_is [] h = refl
none_is (p ∷ ps) h = absurd (h p (0, omega arith, refl))

pub kernel_is_sound : (job : Job) (t : Typed) (k : KerJob) → IsKernelOf job t k → IsLeastIfAny job None →
    IsSoundKernel job t k
kernel_is_sound job t k h finite meets =
    let wide : Bool = is_whole_job (length t.names) job in
    let many : Bool = length t.names == length job.names in
    let behind : Bool = constants_first (map (λ (d : Decl). d.constant) job.names) in
    let formed = and_left ((wide && are_kinded t) && (many && behind)) (are_apart job) h.well_formed in
    let front = and_left (wide && are_kinded t) (many && behind) formed in
    let back = and_right (wide && are_kinded t) (many && behind) formed in
    let texts : list_all (texts_among k.texts) (parts_of job) ≡ true = subst
    (λ ts. list_all (texts_among ts) (parts_of job) ≡ true) (sym h.texts) (job_texts_among job) in
    let counts : (length k.names == length k.fixed) ≡ true =
    ap (λ z. length z == length k.fixed) h.names
    ∙ ap (λ z. length t.names == z) (ap length h.fixed ∙ length-map job.names (λ (d : Decl). d.constant))
    ∙ and_left many behind back in
    and_both
    ((length k.names == length k.fixed && constants_first k.fixed) && are_distinct k.texts)
    (passes (λ names. list_all (sound_part names k.texts) (parts k)) (kinds_of_names k))
    (and_both (length k.names == length k.fixed && constants_first k.fixed) (are_distinct k.texts)
    (and_both (length k.names == length k.fixed) (constants_first k.fixed) counts
    (ap constants_first h.fixed ∙ and_right many behind back))
    (ap are_distinct h.texts ∙ once_distinct (all_literals job)))
    (parts_are_sound job t k (and_left wide (are_kinded t) front) (none_is (infinite_places job) finite)
    (and_right wide (are_kinded t) front) meets texts h.names h.parts)
