-- How a step of a path becomes one with its assignment, and where a walk along the path stands.
use Rattle.std.specs.Prelude.{◌≡◌, ◌++◌, true, false, ℕ, List, [], ◌∷◌, flat_map, Option, Some, None, Result, Ok, Err, ⊤}
use Rattle.kernel_trees.specs.declared.path.AssignedStep.{AssignedStep}
use Rattle.kernel_trees.specs.declared.path.AssignedStep.TheVariants as mark
use Rattle.kernel_trees.specs.declared.path.PathStep.{PathStep}
use Rattle.kernel_trees.specs.Paths.{Marks}
use Rattle.kernel_trees.specs.Assignments.{assigned_by, is_in, marked}
use Rattle.assignment_finder.specs.declared.assign_fault.AssignFault.{AssignFault}
use Rattle.assignment_finder.specs.declared.assign_fault.AssignFault.TheVariants.{Unassigned, ReadEarly, Infinite, Memory}
use Rattle.assignment_finder.specs.declared.marking.Assignment.{Assignment}
use Rattle.assignment_finder.specs.declared.marking.Assignment.TheVariants as lent
use Rattle.assignment_finder.specs.declared.open_names.OpenNames.{OpenNames}
use Rattle.assignment_finder.specs.declared.reading.Read.{Read}
use Rattle.tla_meaning.specs.declared.place.Place.{Place}
use Rattle.tla_meaning.specs.Outcomes.{before as comes_before}
use Rattle.assignment_finder.specs.Finding.{AreFine, IsFine, IsFirstFault, IsStepFault}
use Rattle.assignment_finder.specs.inner.Open.{IsOpen, MayAssign}

abbrev pub told : Assignment → Option (ℕ × AssignedStep)
told lent.Nothing = None
told (lent.Value i k) = Some (i, mark.Equals i k.now)
told (lent.Member i k) = Some (i, mark.Among i k.now)

-- ---- the earlier of two faults

-- what is read first, if anything, is read behind the place
abbrev pub IsLaterRead : Place → Option Read → Type 0
IsLaterRead p None = ⊤
IsLaterRead p (Some y) = comes_before p y.place ≡ true

-- the first infinite set, if there is one, is not before the place
abbrev pub IsNoEarlier : Place → Option Place → Type 0
IsNoEarlier p None = ⊤
IsNoEarlier p (Some q) = comes_before q p ≡ false

pub record IsEarlierRead (read : Option Read) (place : Option Place) (i : ℕ) (p : Place) : Type 0 where
  pub it : Read
  pub is : read ≡ Some it
  pub name : i ≡ it.name
  pub at : p ≡ it.place
  pub earlier : IsNoEarlier p place

abbrev pub IsEarlierFault : Option Read → Option Place → Option AssignFault → Type 0
IsEarlierFault read place None = (read ≡ None) × (place ≡ None)
IsEarlierFault read place (Some (ReadEarly i p)) = IsEarlierRead read place i p
IsEarlierFault read place (Some (Infinite p)) = (place ≡ Some p) × IsLaterRead p read
IsEarlierFault read place (Some (Unassigned i p)) = ⊥
IsEarlierFault read place (Some (Memory e)) = ⊥

-- ---- one step

-- the names that a step assigns may be assigned
abbrev pub AssignsMarked : Marks → AssignedStep → Type 0
AssignsMarked m (mark.Guard k b) = ⊤
AssignsMarked m (mark.Pick ps) = ⊤
AssignsMarked m (mark.Equals i e) = MayAssign m i
AssignsMarked m (mark.Among i e) = MayAssign m i

abbrev pub IsRefusal : Marks → List ℕ → AssignedStep → AssignFault → Type 0
IsRefusal m before z (ReadEarly i p) = IsStepFault m before z (ReadEarly i p)
IsRefusal m before z (Infinite p) = IsStepFault m before z (Infinite p)
IsRefusal m before z (Unassigned i p) = ⊥
IsRefusal m before z (Memory e) = ⊤

-- the step is fine, and open is then what it does not assign
pub record IsTaken (m : Marks) (before : List ℕ) (z : AssignedStep) (o : OpenNames) : Type 0 where
  pub fine : IsFine m before z
  pub left : IsOpen m (assigned_by z ++ before) o

abbrev pub TakesOrRefuses : Marks → List ℕ → AssignedStep → OpenNames → Result AssignedStep AssignFault → Type 0
TakesOrRefuses m before z o (Ok y) = (y ≡ z) × IsTaken m before z o
TakesOrRefuses m before z o (Err f) = IsRefusal m before z f

-- the step is taken, or what refuses it is told
abbrev pub IsStep : OpenNames → AssignedStep → OpenNames → Result AssignedStep AssignFault → Type 0
IsStep o z o' r = (m : Marks) (before : List ℕ) → IsOpen m before o → AssignsMarked m z → TakesOrRefuses m before z o' r

-- the step becomes this one, whatever follows
abbrev pub Becomes : Marks → List ℕ → PathStep → AssignedStep → Type 0
Becomes m before y z = (rest : List PathStep) → marked m before (y ∷ rest) ≡ z ∷ marked m (assigned_by z ++ before) rest

abbrev pub IsMarking : PathStep → OpenNames → OpenNames → Result AssignedStep AssignFault → Type 0
IsMarking y o o' r =
    (m : Marks) (before : List ℕ) → IsOpen m before o →
    (z : AssignedStep) × (Becomes m before y z × TakesOrRefuses m before z o' r)

-- ---- all steps

abbrev pub IsFirstRefusal : Marks → List ℕ → List AssignedStep → AssignFault → Type 0
IsFirstRefusal m before zs (ReadEarly i p) = IsFirstFault m before zs (ReadEarly i p)
IsFirstRefusal m before zs (Infinite p) = IsFirstFault m before zs (Infinite p)
IsFirstRefusal m before zs (Unassigned i p) = ⊥
IsFirstRefusal m before zs (Memory e) = ⊤

-- these steps became those, which are fine, and open is what they do not assign
pub record IsWalked (m : Marks) (ys : List PathStep) (zs : List AssignedStep) (o : OpenNames) : Type 0 where
  pub before : List ℕ
  pub goes_on : (rest : List PathStep) → marked m [] (ys ++ rest) ≡ zs ++ marked m before rest
  pub fine : (more : List AssignedStep) → AreFine m before more → AreFine m [] (zs ++ more)
  pub faulty : (more : List AssignedStep) (f : AssignFault) → IsFirstFault m before more f → IsFirstFault m [] (zs ++ more) f
  pub names : (i : ℕ) → is_in (flat_map assigned_by zs) i ≡ is_in before i
  pub left : IsOpen m before o
