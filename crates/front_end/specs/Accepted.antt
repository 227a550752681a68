-- What is accepted of module texts and a request: begin here. The modules are read and joined (Specifying Systems, chapters
-- 4 and 17), the operators that are named are expanded, their trees have types (the Apalache manual, "Type System 1.2") and
-- become kernel trees, each path of CInit, Init and Next assigns what it must, and the shapes of values keep their limits
-- (Konnov, Kukovec and Tran, "TLA+ Model Checking Made Symbolic", OOPSLA 2019).
use Rattle.std.specs.Prelude.{◌≡◌, ◌≤◌, ℕ, IsTrue, List, [], ◌∷◌, length, Option, Some, None, Result, Ok}
use Rattle.assignment_finder.specs.Finding.{IsFound}
use Rattle.fault_places.specs.Places.{job_places_below}
use Rattle.front_end.specs.declared.request.Accepted.{Accepted}
use Rattle.front_end.specs.declared.request.Request.{Request}
use Rattle.kernel_reduction.specs.BuiltJobs.{IsBuilt}
use Rattle.kernel_reduction.specs.Kernels.{IsKernelOf, IsReduced}
use Rattle.kernel_shapes.specs.declared.bounds.Bounds.{Bounds}
use Rattle.kernel_shapes.specs.declared.bounds.Shapes.{Shapes}
use Rattle.kernel_shapes.specs.Levels.{refused_typed, start_numbers, start_shapes}
use Rattle.kernel_shapes.specs.Shape.{Shape}
use Rattle.kernel_shapes.specs.Systems.{system_parts}
use Rattle.kernel_shapes.specs.TypedStates.{typed_first}
use Rattle.kernel_trees.specs.ActionNames.{marks_of}
use Rattle.kernel_trees.specs.Paths.{paths}
use Rattle.kernel_trees.specs.Systems.{kinds_of_names, sound_job}
use Rattle.kernel_trees.specs.TypeKinds.{Kind}
use Rattle.kernel_trees.specs.declared.action_kind.ActionKind.{ActionKind}
use Rattle.kernel_trees.specs.declared.action_kind.ActionKind.TheVariants.{Constants, Start, Step}
use Rattle.kernel_trees.specs.declared.kernel.Ker.{Ker}
use Rattle.kernel_trees.specs.declared.path.Assigned.{Assigned}
use Rattle.kernel_trees.specs.declared.path.KerPath.{KerPath}
use Rattle.kernel_trees.specs.declared.system.KerJob.{KerJob}
use Rattle.kernel_trees.specs.declared.system.System.{System}
use Rattle.op_inliner.specs.Answers.{Answer, Gives, job_answer}
use Rattle.op_inliner.specs.Known.{are_known}
use Rattle.shape_bounds.specs.Stages.{IsAnswer}
use Rattle.shape_bounds.specs.declared.shape_fault.ShapeFault.{ShapeFault}
use Rattle.snowcat_rows.specs.declared.types.Typed.{Typed}
use Rattle.snowcat_types.specs.Answers.{IsTypedAs, is_typable}
use Rattle.tla_meaning.specs.declared.expr.Decl.{Decl}
use Rattle.tla_meaning.specs.declared.job.Job.{Job}
use Rattle.tla_meaning.specs.declared.modules.Flat.{Flat}
use Rattle.tla_modules.specs.Answers.{IsFlatModule, IsTold}
use Rattle.tool_outside.specs.Outside.{Folder}
use Rattle.transition_splitter.specs.Splitting.{most_paths}

-- ---- the modules, and the job of the operators

-- the modules of the root are read, at most 64 of at most 4,194,304 bytes and 400 levels each, none mentions itself, each
-- name in them is known and declared once, and this is their flat module; where the files are told it is the only one
pub record IsOnlyFlat (held : Option Folder) (root : List ℕ) (flat : Flat) : Type 0 where
  pub joined : IsFlatModule held root flat
  pub only : IsTold held → (other : Flat) → IsFlatModule held root other → other ≡ flat

-- what the operators of a request make
abbrev pub made : Request → Flat → Answer Job
made r flat = job_answer flat r.init r.next r.cinit r.invs

-- each use in the flat module is known; the operators are there, reach no refused form and have at most 1,000,000 nodes and
-- 400 levels each, once expanded, as the assumptions have; and they make this job
pub record MakesJob (r : Request) (flat : Flat) (job : Job) : Type 0 where
  pub known : IsTrue (are_known flat)
  pub gives : made r flat ≡ Gives job

-- ---- places

-- the file of each place of the job's trees and names is one of the job's files
abbrev pub IsInFiles : Job → Type 0
IsInFiles job = IsTrue (job_places_below (length job.files) job)

-- ---- types

-- each name in the job's trees is bound; each declared name is annotated, all annotations are types, and by them these are
-- the types of names and nodes
pub record IsTypedJob (job : Job) (t : Typed) : Type 0 where
  pub bound : IsTrue (is_typable job)
  pub types : IsTypedAs job t

-- ---- the kernel

-- no infinite set stands outside a form position, and these are the kernel trees
pub record IsReducedJob (job : Job) (t : Typed) (k : KerJob) : Type 0 where
  pub finite : IsReduced job (Ok k)
  pub kernel : IsKernelOf job t k
  pub built : IsBuilt job k
  pub sound : IsTrue (sound_job k)

-- ---- paths

-- the actions with their kinds, in the order in which they are asked
abbrev pub actions : KerJob → List (ActionKind × Ker)
actions k = (Constants, k.cinit) ∷ (Start, k.init) ∷ (Step, k.next) ∷ []

abbrev pub action_paths : List Decl → ActionKind × Ker → List KerPath
action_paths names a = paths (marks_of a.0 names) a.1

abbrev pub HasFewPaths : List Decl → ActionKind × Ker → Type 0
HasFewPaths names a = length (action_paths names a) ≤ most_paths

-- each path with its assignments: it reads no name before it assigns it, takes no member of an infinite set, and assigns
-- each name that it must
abbrev pub AreAssigned : ActionKind → List Decl → List KerPath → List Assigned → Type 0
AreAssigned kind names [] [] = Unit {0}
AreAssigned kind names (p ∷ ps) (a ∷ as') = IsFound kind names p (Ok a) × AreAssigned kind names ps as'
AreAssigned kind names [] (a ∷ as') = ⊥
AreAssigned kind names (p ∷ ps) [] = ⊥

-- the paths of an action of these names, at most 4,096, are these with their assignments
pub record HasPaths (names : List Decl) (a : ActionKind × Ker) (as' : List Assigned) : Type 0 where
  pub few : HasFewPaths names a
  pub assigned : AreAssigned a.0 names (action_paths names a) as'

pub record IsSystem (names : List Decl) (s : System) : Type 0 where
  pub constants : HasPaths names (Constants, s.ker.cinit) s.constants
  pub start : HasPaths names (Start, s.ker.init) s.start
  pub next : HasPaths names (Step, s.ker.next) s.next

-- ---- shapes

-- what is answered of levels 0 to the length
abbrev pub IsLevelsAnswer : System → ℕ → ℕ → Result Shapes ShapeFault → Type 0
IsLevelsAnswer s width n r =
    let p = system_parts width s in IsAnswer p (start_numbers p) (start_shapes p) n r

-- the shapes of the names at a typed state
abbrev pub typed_shapes_of : System → ℕ → Bounds → List Kind → List Shape
typed_shapes_of s width b ks = typed_first b.low b.high b.size (system_parts width s) ks

-- where there are bounds, no number is past its limit at a typed state and behind one step from it
abbrev pub KeepsTypedLimits : System → ℕ → Option Bounds → Type 0
KeepsTypedLimits s width None = Unit {0}
KeepsTypedLimits s width (Some b) =
    (ks : List Kind) → kinds_of_names s.ker ≡ Some ks → refused_typed (system_parts width s) (typed_shapes_of s width b ks) ≡ None

-- ---- what is accepted

-- what holds of its parts, whatever modules and request it comes from
pub record IsAccepted (a : Accepted) : Type 0 where
  pub placed : IsInFiles a.job
  pub typed : IsTypedJob a.job a.typed
  pub reduced : IsReducedJob a.job a.typed a.system.ker
  pub paths : IsSystem a.job.names a.system
  pub shapes : IsLevelsAnswer a.system a.width a.length (Ok a.shapes)
  pub typed_limits : KeepsTypedLimits a.system a.width a.bounds

-- it is that of the modules of the request's root and of its operators, for its length, width and bounds
pub record IsAcceptedFor (held : Option Folder) (r : Request) (a : Accepted) : Type 0 where
  pub flat : Flat
  pub joined : IsOnlyFlat held r.root flat
  pub makes : MakesJob r flat a.job
  pub whole : IsAccepted a
  pub same_length : a.length ≡ r.length
  pub same_width : a.width ≡ r.width
  pub same_bounds : a.bounds ≡ r.bounds
