-- A job's own parts for shapes: the numbers of its typed trees, along the paths of CInit, Init and Next. On a path a primed
-- name has the shape of its assignment there; so have a variable in Init and a constant in CInit. A node that stands on
-- no path has no shape and no number. Source: Konnov, Kukovec and Tran, "TLA+ Model Checking Made Symbolic", OOPSLA 2019,
-- on the static bounds of cells and arenas, and on assignments.
--
-- A path keeps the names that it picks to its end, and two of them may have one text. So a name that is picked has a
-- number there, which is how many names are bound around its binder and before it, and in a tree each name that is bound
-- around it has the shape of its number.
use Rattle.std.specs.Prelude.{ℕ, suc, ◌+◌, List, [], ◌∷◌, map, length}
use Rattle.tla_meaning.specs.declared.actions.Assignable.{Assignable}
use Rattle.tla_meaning.specs.declared.expr.Expr.{Expr}
use Rattle.tla_meaning.specs.declared.expr.Decl.{Decl}
use Rattle.tla_meaning.specs.declared.job.Job.{Job}
use Rattle.tla_meaning.specs.Executions.{in_cinit, in_init, in_next}
use Rattle.tla_meaning.specs.Scopes.{find_last}
use Rattle.snowcat_rows.specs.declared.types.Typed.{Typed}
use Rattle.kernel_trees.specs.Paths.{Marks, marks_below}
use Rattle.kernel_trees.specs.Trees.{number_name}
use Rattle.kernel_trees.specs.TypeKinds.{Kind, kind_of}
use Rattle.kernel_shapes.specs.Kernel.{kind_or_truth}
use Rattle.kernel_shapes.specs.Levels.{Step, Guard, Pick, Equals, Among, Path, Parts}
use Rattle.kernel_shapes.specs.Rows.{nth}
use Rattle.kernel_shapes.specs.Shape.{Shape}
use Rattle.kernel_shapes.specs.Sized.{Extent, Sizing, found, no_size}
use Rattle.kernel_shapes.specs.Trees.{tree_sized}
use Rattle.kernel_reduction.specs.JobPaths.{JobAssigned, Asks, Picks, Sets, SetsFrom, Stops, JobPath, TypedTree, job_marked, job_paths}

-- names from the number n on, each with the shape of its number
abbrev pub shapes_from : ℕ → List (List ℕ) → List (List ℕ × Shape) → List (List ℕ × Shape)
shapes_from n [] bs = []
shapes_from n (x ∷ xs) bs = (x, found (find_last (number_name n) bs)) ∷ shapes_from (suc n) xs bs

abbrev pub by_names : List (List ℕ) → Extent → Extent
by_names around g = record g { bound = shapes_from 0 around g.bound }

-- what is computed of a typed tree where numbers have shapes
abbrev pub typed_sized : ℕ → TypedTree → Sizing
typed_sized w t g = (tree_sized w t.tree).sizing t.kinds (by_names t.around g)

-- the sets from which names are picked, the first n of the pick left out
abbrev pub sized_sets : ℕ → ℕ → List (List ℕ × TypedTree) → List (List ℕ × Sizing)
sized_sets w n [] = []
sized_sets w n (x ∷ xs) = (number_name (n + length x.1.around), typed_sized w x.1) ∷ sized_sets w (suc n) xs

-- a CASE of which no guard is TRUE has no number
abbrev pub sized_job_step : ℕ → JobAssigned → Step
sized_job_step w (Asks t) = Guard (typed_sized w t)
sized_job_step w (Picks ps) = Pick (sized_sets w 0 ps)
sized_job_step w (Sets i t) = Equals i (typed_sized w t)
sized_job_step w (SetsFrom i t) = Among i (typed_sized w t)
sized_job_step w Stops = Guard (λ g. no_size)

abbrev pub sized_job_path : ℕ → Marks → JobPath → Path
sized_job_path w m x = map (sized_job_step w) (job_marked m [] x.steps)

abbrev pub sized_job_paths : ℕ → Marks → TypedTree → List Path
sized_job_paths w m t = map (sized_job_path w m) (job_paths m t)

-- ---- a job

-- the types of a part's nodes, by its place among CInit, the assumption, Init, Next and the invariants
abbrev pub part_kinds : Typed → ℕ → List Kind
part_kinds types n = map (λ t. kind_or_truth (kind_of t)) (nth [] n types.parts)

abbrev pub typed_part : Typed → ℕ → Expr → TypedTree
typed_part types n e = record { tree = e; kinds = part_kinds types n; around = [] }

abbrev pub sized_invariants : ℕ → Typed → ℕ → List Expr → List Sizing
sized_invariants w types n [] = []
sized_invariants w types n (e ∷ es) = typed_sized w (typed_part types n e) ∷ sized_invariants w types (suc n) es

-- by the job's own names
abbrev pub job_marks : Job → Assignable → Marks
job_marks job m = marks_below (length job.names) m

abbrev pub job_parts : ℕ → Job → Typed → Parts
job_parts w job types = record {
  fixed = map (λ (d : Decl). d.constant) job.names;
  constants = sized_job_paths w (job_marks job (in_cinit job)) (typed_part types 0 job.cinit);
  assume = typed_sized w (typed_part types 1 job.assume);
  start = sized_job_paths w (job_marks job (in_init job)) (typed_part types 2 job.init);
  next = sized_job_paths w (job_marks job (in_next job)) (typed_part types 3 job.next);
  invariants = sized_invariants w types 4 (map (λ e. e.1) job.invs);
}
