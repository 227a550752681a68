-- What the reduction makes of a typed job is sound, as a law. Source: the Apalache manual, "Type System 1.2: Type
-- annotations", and Konnov, Kukovec and Tran, "TLA+ Model Checking Made Symbolic", OOPSLA 2019, on the reduction to KerA+.
use Rattle.std.specs.Prelude.{◌≡◌, ℕ, Bool, false, not, ◌&&◌, IsTrue, List, [], ◌∷◌, map, length, Option, Some, None, is_some}
use Rattle.std.specs.List.{list_all, list_any}
use Rattle.tla_meaning.specs.declared.actions.Assignable.{Assignable}
use Rattle.tla_meaning.specs.declared.expr.Expr.{Expr}
use Rattle.tla_meaning.specs.declared.job.Job.{Job}
use Rattle.tla_meaning.specs.Executions.{in_cinit, in_init, in_next}
use Rattle.tla_meaning.specs.Scopes.{same_text}
use Rattle.snowcat_rows.specs.declared.types.Ty.{Ty}
use Rattle.snowcat_rows.specs.declared.types.Typed.{Typed}
use Rattle.snowcat_types.specs.Answers.{MeetsRows}
use Rattle.snowcat_types.specs.Systems.{parts_of}
use Rattle.kernel_trees.specs.declared.kernel.Ker.{Ker}
use Rattle.kernel_trees.specs.declared.system.KerJob.{KerJob}
use Rattle.kernel_trees.specs.Sound.{kind_at, passes, sound_tree}
use Rattle.kernel_trees.specs.Systems.{kinds_of_names, parts, sound_part, texts_within}
use Rattle.kernel_trees.specs.TypeKinds.{Kind, Truth, is_kind, kind_of}
use Rattle.kernel_reduction.specs.Infinite.{infinite_places}
use Rattle.kernel_reduction.specs.Origins.{has_node}
use Rattle.kernel_reduction.specs.Reduction.{Numbering}
use Rattle.kernel_reduction.specs.Whole.{is_whole}
use Rattle.kernel_reduction.specs.Builds.{Builds}
use Rattle.kernel_reduction.specs.BuildsTyped.{BuildsTyped}

-- what is built with types is built by the same rows
abbrev pub IsBuiltBeside : Option Assignable → Numbering → Expr → List Ty → Ker → List Ty → Type 0
IsBuiltBeside i ρ e ts k us = BuildsTyped i ρ e ts k us → Builds i ρ e k

-- ---- jobs

abbrev pub has_kind : Ty → Bool
has_kind t = is_some (kind_of t)

-- each type of a name has a kind, and so has each of a part
abbrev pub are_kinded : Typed → Bool
are_kinded t = list_all has_kind t.names && list_all (list_all has_kind) t.parts

abbrev pub is_whole_job : ℕ → Job → Bool
is_whole_job n job = list_all (is_whole n) (parts_of job)

-- the positions of the parts
abbrev pub positions : Job → List (Option Assignable)
positions job =
    Some (in_cinit job) ∷ None ∷ Some (in_init job) ∷ Some (in_next job) ∷ map (λ e. None) job.invs

-- each part is built in its position, of all types of the part
abbrev pub AllBuilt : List (Option Assignable) → List Expr → List (List Ty) → List Ker → Type 0
AllBuilt [] [] [] [] = Unit {0}
AllBuilt (i ∷ is) (e ∷ es) (ts ∷ tss) (k ∷ ks) = BuildsTyped i [] e ts k [] × AllBuilt is es tss ks
AllBuilt is es tss ks = ⊥

abbrev pub is_sound_truth : List Kind → Ker → Bool
is_sound_truth names p = is_kind Truth (kind_at p) && sound_tree names p [] false

-- ---- texts

abbrev pub is_foreign : List (List ℕ) → List ℕ → Bool
is_foreign texts x = not (list_any (same_text x) texts)

-- each text of a tree is one of these
abbrev pub texts_among : List (List ℕ) → Expr → Bool
texts_among texts e = not (has_node (λ q. false) (is_foreign texts) e)

-- where each text of the job is one of the kernel's, so is each text of a part of the kernel
abbrev pub TextsAreWithin : Job → Typed → KerJob → Type 0
TextsAreWithin job t k =
    IsTrue (list_all (texts_among k.texts) (parts_of job)) →
    AllBuilt (positions job) (parts_of job) t.parts (parts k) → IsTrue (list_all (texts_within k.texts) (parts k))

-- ---- the law

-- of a job whose trees are whole, with no infinite set outside a form position, and whose types have kinds and meet the
-- rows of the type table, each part's root that of truth values, where each of its texts is one of the kernel's: each
-- part of its kernel is sound over the kinds of the names
abbrev pub PartsAreSound : Job → Typed → KerJob → Type 0
PartsAreSound job t k =
    IsTrue (is_whole_job (length t.names) job) → infinite_places job ≡ [] → IsTrue (are_kinded t) → MeetsRows job t →
    IsTrue (list_all (texts_among k.texts) (parts_of job)) → k.names ≡ t.names →
    AllBuilt (positions job) (parts_of job) t.parts (parts k) →
    IsTrue (passes (λ names. list_all (sound_part names k.texts) (parts k)) (kinds_of_names k))
