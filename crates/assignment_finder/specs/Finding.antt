-- The assignments on a path, or the first thing that is wrong with it. Source: Konnov, Kukovec and Tran, "TLA+ Model
-- Checking Made Symbolic", OOPSLA 2019, on assignments.
use Rattle.std.specs.Prelude.{◌≡◌, ◌⊎◌, ◌++◌, ℕ, true, false, List, [], ◌∷◌, Result, Ok, Err, ⊤, Contains}
use Rattle.tla_meaning.specs.declared.expr.Decl.{Decl}
use Rattle.tla_meaning.specs.declared.place.Place.{Place}
use Rattle.tla_meaning.specs.Outcomes.{before as comes_before}
use Rattle.kernel_trees.specs.declared.path.Assigned.{Assigned}
use Rattle.kernel_trees.specs.declared.path.AssignedStep.{AssignedStep}
use Rattle.kernel_trees.specs.declared.path.AssignedStep.TheVariants as mark
use Rattle.kernel_trees.specs.declared.path.KerPath.{KerPath}
use Rattle.kernel_trees.specs.declared.action_kind.ActionKind.{ActionKind}
use Rattle.kernel_trees.specs.ActionNames.{marks_of}
use Rattle.kernel_trees.specs.Paths.{Marks}
use Rattle.kernel_trees.specs.Sound.{infinite_places}
use Rattle.kernel_trees.specs.Assignments.{IsMissing, assigned_by, lacks, marked, path_ended, reads_early}
use Rattle.assignment_finder.specs.declared.assign_fault.AssignFault.{AssignFault}
use Rattle.assignment_finder.specs.declared.assign_fault.AssignFault.TheVariants.{Unassigned, ReadEarly, Infinite, Memory}

-- ---- what is wrong with a step, where the names of `before` have been assigned

-- the name is read there before its assignment, and none is read so at an earlier place
pub record IsReadEarly (m : Marks) (before : List ℕ) (z : AssignedStep) (i : ℕ) (p : Place) : Type 0 where
  pub read : reads_early m before z i p ≡ true
  pub first : (j : ℕ) (q : Place) → reads_early m before z j q ≡ true → comes_before q p ≡ false

abbrev pub ReadsNothingEarly : Marks → List ℕ → AssignedStep → Type 0
ReadsNothingEarly m before z = (i : ℕ) (p : Place) → reads_early m before z i p ≡ false

-- the places of the infinite sets that the form of a membership is or has as parts
abbrev pub endless : AssignedStep → List Place
endless (mark.Among i e) = infinite_places e
endless (mark.Equals i e) = []
endless (mark.Guard k b) = []
endless (mark.Pick ps) = []

-- there is such a set there, and none at an earlier place
pub record IsEndless (z : AssignedStep) (p : Place) : Type 0 where
  pub there : Contains (endless z) p
  pub first : (q : Place) → Contains (endless z) q → comes_before q p ≡ false

-- of both the earlier place counts, and at one place the name
abbrev pub IsStepFault : Marks → List ℕ → AssignedStep → AssignFault → Type 0
IsStepFault m before z (ReadEarly i p) =
    IsReadEarly m before z i p × ((q : Place) → Contains (endless z) q → comes_before q p ≡ false)
IsStepFault m before z (Infinite p) =
    IsEndless z p × ((i : ℕ) (q : Place) → reads_early m before z i q ≡ true → comes_before p q ≡ true)
IsStepFault m before z (Unassigned i p) = ⊥
IsStepFault m before z (Memory e) = ⊥

abbrev pub IsFine : Marks → List ℕ → AssignedStep → Type 0
IsFine m before z = ReadsNothingEarly m before z × (endless z ≡ [])

-- ---- what is wrong with a path

-- with its first step that is not fine
abbrev pub IsFirstFault : Marks → List ℕ → List AssignedStep → AssignFault → Type 0
IsFirstFault m before [] f = ⊥
IsFirstFault m before (z ∷ zs) f =
    IsStepFault m before z f ⊎ (IsFine m before z × IsFirstFault m (assigned_by z ++ before) zs f)

abbrev pub AreFine : Marks → List ℕ → List AssignedStep → Type 0
AreFine m before [] = ⊤
AreFine m before (z ∷ zs) = IsFine m before z × AreFine m (assigned_by z ++ before) zs

-- or with its end: its last step is no operand that is never TRUE, and it lacks this name first
pub record IsOpenEnd (m : Marks) (path : KerPath) (zs : List AssignedStep) (i : ℕ) (p : Place) : Type 0 where
  pub fine : AreFine m [] zs
  pub running : path_ended path.steps ≡ false
  pub missing : IsMissing m zs i
  pub place : p ≡ path.place

abbrev pub IsPathFault : Marks → KerPath → List AssignedStep → AssignFault → Type 0
IsPathFault m path zs (Unassigned i p) = IsOpenEnd m path zs i p
IsPathFault m path zs (ReadEarly i p) = IsFirstFault m [] zs (ReadEarly i p)
IsPathFault m path zs (Infinite p) = IsFirstFault m [] zs (Infinite p)
IsPathFault m path zs (Memory e) = ⊤

-- ---- the answer

-- the path with its assignments: each is the first of its name, no name is read before, none is to be a member of a form
-- that is an infinite set or has one as a part, and none is lacking unless the path has ended
pub record IsAssigned (m : Marks) (path : KerPath) (a : Assigned) : Type 0 where
  pub is : a ≡ record { place = path.place; steps = marked m [] path.steps }
  pub fine : AreFine m [] a.steps
  pub whole : (path_ended path.steps ≡ true) ⊎ ((i : ℕ) → lacks m a.steps i ≡ false)

abbrev pub IsFound : ActionKind → List Decl → KerPath → Result Assigned AssignFault → Type 0
IsFound kind names path (Ok a) = IsAssigned (marks_of kind names) path a
IsFound kind names path (Err f) =
    let m = marks_of kind names in IsPathFault m path (marked m [] path.steps) f
