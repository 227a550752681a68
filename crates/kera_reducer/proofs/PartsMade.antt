-- The parts of a job that are built of all their types.
use Rattle.std.proofs.Common.{◌≡◌, ℕ, ◌+◌, ◌-◌, ◌<◌, ◌≤◌, get_or, List, [], ◌∷◌, ◌++◌, map, length, length-drop, take, drop, sym, ◌∙◌, ap₂, subst, arith, Some, None}
use Rattle.tla_meaning.specs.declared.expr.Expr.{Expr}
use Rattle.tla_meaning.specs.declared.job.Job.{Job}
use Rattle.tla_meaning.specs.Executions.{in_cinit, in_init, in_next}
use Rattle.snowcat_types.specs.Systems.{parts_of}
use Rattle.snowcat_rows.specs.declared.types.Ty.{Ty}
use Rattle.snowcat_rows.specs.declared.types.Typed.{Typed}
use Rattle.kernel_trees.specs.declared.kernel.Ker.{Ker}
use Rattle.kernel_trees.specs.declared.system.KerJob.{KerJob}
use Rattle.kernel_trees.specs.Systems.{parts}
use Rattle.kernel_reduction.specs.Builds.{BuildsEach, none_left, one_more}
use Rattle.kernel_reduction.specs.BuildsTyped.{BuildsTyped}
use Rattle.kernel_reduction.specs.BuiltJobs.{IsBuilt}
use Rattle.kernel_reduction.specs.Kernels.{IsKernelOf}
use Rattle.kernel_reduction.specs.SoundLaws.{AllBuilt, positions}
use Rattle.kera_reducer.specs.inner.Parts.{ArePartsBuilt}
use Rattle.kernel_reduction.proofs.Listing.{take_all, take_more}
use Rattle.kernel_reduction.proofs.Places.{named_end}
use Rattle.kernel_reduction.proofs.TypedBuilt.{typed_is_built}

pub one_part_more : (es : List Expr) (tss : List (List Ty)) (ks : List Ker) (e : Expr) (ts : List Ty) (k : Ker) →
    ArePartsBuilt es tss ks → BuildsTyped None [] e ts k [] →
    ArePartsBuilt (es ++ e ∷ []) (tss ++ ts ∷ []) (ks ++ k ∷ [])
one_part_more [] [] [] e ts k h d = (d, tt)
one_part_more [] [] (j ∷ ks) e ts k h d = absurd h
one_part_more [] (us ∷ tss) ks e ts k h d = absurd h
one_part_more (c ∷ es) [] ks e ts k h d = absurd h
one_part_more (c ∷ es) (us ∷ tss) [] e ts k h d = absurd h
one_part_more (c ∷ es) (us ∷ tss) (j ∷ ks) e ts k h d = (h.0, one_part_more es tss ks e ts k h.1 d)

pub next_part : (vs : List (List ℕ × Expr)) (tss : List (List Ty)) (i : ℕ) (v : List ℕ × Expr) (ts : List Ty)
    (ks : List Ker) (k : Ker) → i < length vs → v ≡ get_or vs i v → i < length tss → ts ≡ get_or tss i ts →
    ArePartsBuilt (map (λ v. v.1) (take i vs)) (take i tss) ks → BuildsTyped None [] v.1 ts k [] →
    ArePartsBuilt (map (λ v. v.1) (take (i + 1) vs)) (take (i + 1) tss) (ks ++ k ∷ [])
next_part vs tss i v ts ks k lt at less there h d =
    subst (λ z. ArePartsBuilt (map (λ v. v.1) z) (take (i + 1) tss) (ks ++ k ∷ [])) (sym (take_more vs i v lt at))
    (subst (λ z. ArePartsBuilt (map (λ v. v.1) (take i vs ++ v ∷ [])) z (ks ++ k ∷ [])) (sym (take_more tss i ts less there))
    (subst (λ z. ArePartsBuilt z (take i tss ++ ts ∷ []) (ks ++ k ∷ [])) (sym (named_end (take i vs) v))
    (one_part_more (map (λ v. v.1) (take i vs)) (take i tss) ks v.1 ts k h d)))

pub all_parts : (vs : List (List ℕ × Expr)) (tss : List (List Ty)) (i : ℕ) (ks : List Ker) → length vs ≤ i →
    length tss ≤ i → ArePartsBuilt (map (λ v. v.1) (take i vs)) (take i tss) ks →
    ArePartsBuilt (map (λ v. v.1) vs) tss ks
all_parts vs tss i ks l m h =
    subst (λ z. ArePartsBuilt (map (λ v. v.1) z) tss ks) (take_all vs i l)
    (subst (λ z. ArePartsBuilt (map (λ v. v.1) (take i vs)) z ks) (take_all tss i m) h)

pub as_parts : (vs : List (List ℕ × Expr)) (tss : List (List Ty)) (ks : List Ker) →
    ArePartsBuilt (map (λ v. v.1) vs) tss ks → AllBuilt (map (λ e. None) vs) (map (λ v. v.1) vs) tss ks
as_parts [] [] [] h = tt
as_parts [] [] (k ∷ ks) h = absurd h
as_parts [] (ts ∷ tss) ks h = absurd h
as_parts (v ∷ vs) [] ks h = absurd h
as_parts (v ∷ vs) (ts ∷ tss) [] h = absurd h
as_parts (v ∷ vs) (ts ∷ tss) (k ∷ ks) h = (h.0, as_parts vs tss ks h.1)

values_built : (vs : List (List ℕ × Expr)) (tss : List (List Ty)) (ks : List Ker) →
    AllBuilt (map (λ e. None) vs) (map (λ v. v.1) vs) tss ks → BuildsEach None [] (map (λ v. v.1) vs) ks
values_built [] [] [] h = none_left None []
values_built [] [] (k ∷ ks) h = absurd h
values_built [] (ts ∷ tss) ks h = absurd h
values_built (v ∷ vs) [] ks h = absurd h
values_built (v ∷ vs) (ts ∷ tss) [] h = absurd h
values_built (v ∷ vs) (ts ∷ tss) (k ∷ ks) h =
    one_more None [] v.1 k (map (λ v. v.1) vs) ks (typed_is_built h.0) (values_built vs tss ks h.1)

parts_built : (job : Job) (k : KerJob) (tss : List (List Ty)) → AllBuilt (positions job) (parts_of job) tss (parts k) →
    IsBuilt job k
parts_built job k [] h = absurd h
parts_built job k (a ∷ []) h = absurd h.1
parts_built job k (a ∷ b ∷ []) h = absurd h.1.1
parts_built job k (a ∷ b ∷ c ∷ []) h = absurd h.1.1.1
parts_built job k (a ∷ b ∷ c ∷ d ∷ tss) h =
    record {
      cinit = typed_is_built h.0;
      assume = typed_is_built h.1.0;
      init = typed_is_built h.1.1.0;
      next = typed_is_built h.1.1.1.0;
      invs = values_built job.invs tss k.invs h.1.1.1.1;
    }

-- what is a kernel with types is built
pub kernel_built : (job : Job) (t : Typed) (k : KerJob) → IsKernelOf job t k → IsBuilt job k
kernel_built job t k h = parts_built job k t.parts h.parts

-- the parts of a job, each in its position
pub all_in_position : (job : Job) (a b c d : List Ty) (tss : List (List Ty)) (k : KerJob) →
    BuildsTyped (Some (in_cinit job)) [] job.cinit a k.cinit [] → BuildsTyped None [] job.assume b k.assume [] →
    BuildsTyped (Some (in_init job)) [] job.init c k.init [] → BuildsTyped (Some (in_next job)) [] job.next d k.next [] →
    ArePartsBuilt (map (λ v. v.1) job.invs) tss k.invs →
    AllBuilt (positions job) (parts_of job) (a ∷ b ∷ c ∷ d ∷ tss) (parts k)
all_in_position job a b c d tss k cinit assume init next invs =
    (cinit, (assume, (init, (next, as_parts job.invs tss k.invs invs))))

-- four items are the first ones of a list
pub four_first : {X : Type 0} (xs : List X) (a b c d : X) → 4 ≤ length xs → a ≡ get_or xs 0 a → b ≡ get_or xs 1 b →
    c ≡ get_or xs 2 c → d ≡ get_or xs 3 d → a ∷ b ∷ c ∷ d ∷ drop 4 xs ≡ xs
four_first [] a b c d l p q r s = absurd (omega (arith, l))
four_first (w ∷ []) a b c d l p q r s = absurd (omega (arith, l))
four_first (w ∷ x ∷ []) a b c d l p q r s = absurd (omega (arith, l))
four_first (w ∷ x ∷ y ∷ []) a b c d l p q r s = absurd (omega (arith, l))
four_first (w ∷ x ∷ y ∷ z ∷ xs) a b c d l p q r s =
    ap₂ (λ i j. i ∷ j ∷ c ∷ d ∷ xs) p q ∙ ap₂ (λ i j. w ∷ x ∷ i ∷ j ∷ xs) r s

-- all that is left behind some
pub rest_whole : {X : Type 0} (n : ℕ) (xs : List X) → take (length xs - n) (drop n xs) ≡ drop n xs
rest_whole n xs = let h = length-drop n xs in take_all (drop n xs) (length xs - n) (omega (arith, h))
