-- Paths as they are handed on: what it means that one holds or meets a fault; its assignments, and what it reads. Source:
-- Konnov, Kukovec and Tran, "TLA+ Model Checking Made Symbolic", OOPSLA 2019, on assignments.
use Rattle.std.specs.Ordering.{is_eq}
use Rattle.std.specs.Prelude.{◌≡◌, ◌⊎◌, ◌↔◌, ℕ, Bool, true, false, not, ◌&&◌, IsTrue, List, [], ◌∷◌, take, flat_map, Option, Some, None, option_map, slice_get, nat_eq, nat_lt, if◌then◌else◌}
use Rattle.std.specs.List.{list_any, list_all}
use Rattle.tla_values.specs.Order.{Layer}
use Rattle.tla_values.specs.declared.value.Value.{Value, out-Value}
use Rattle.tla_values.specs.declared.value.Value.TheOpen as layer
use Rattle.tla_meaning.specs.declared.actions.Effect.{Effect}
use Rattle.tla_meaning.specs.declared.place.Place.{Place}
use Rattle.tla_meaning.specs.declared.job.State.{State}
use Rattle.tla_meaning.specs.declared.outcome.Fault.{Fault}
use Rattle.tla_meaning.specs.declared.outcome.Fault.TheVariants.{NoFault}
use Rattle.tla_meaning.specs.declared.outcome.Outcome.{Outcome}
use Rattle.tla_meaning.specs.declared.outcome.Outcome.TheVariants.{Val, Wrong, Big}
use Rattle.tla_meaning.specs.Outcomes.{fault_of, joined, values, place_cmp}
use Rattle.tla_meaning.specs.Shapes.{all_set_items}
use Rattle.tla_meaning.specs.declared.forms.SetForm.{SetForm}
use Rattle.tla_meaning.specs.Forms.{Formed, Made, Broken, form_fault, is_set_form, belongs}
use Rattle.tla_meaning.specs.Operators.{yes_no}
use Rattle.tla_meaning.specs.Numbers.{Width}
use Rattle.tla_meaning.specs.Scopes.{Scope}
use Rattle.kernel_trees.specs.declared.kernel.Ker.{Ker, out-Ker}
use Rattle.kernel_trees.specs.declared.kernel.Ker.TheFolds.{fold-Ker}
use Rattle.kernel_trees.specs.declared.kernel.KerOp.{KerOp}
use Rattle.kernel_trees.specs.declared.kernel.KerOp.TheVariants as ker
use Rattle.kernel_trees.specs.declared.path.PathStep.{PathStep}
use Rattle.kernel_trees.specs.declared.path.PathStep.TheVariants as path
use Rattle.kernel_trees.specs.declared.path.KerPath.{KerPath}
use Rattle.kernel_trees.specs.declared.path.AssignedStep.{AssignedStep}
use Rattle.kernel_trees.specs.declared.path.AssignedStep.TheVariants as mark
use Rattle.kernel_trees.specs.Trees.{ker_val, ker_form}
use Rattle.kernel_trees.specs.Paths.{Marks, sets, mentions, is_end}
use Rattle.kernel_trees.specs.Ways.{has_ended}
use Rattle.kernel_trees.specs.Picks.{IsOneOf, Picked, IsFault, WithFirst, IsJoin, set_outcomes, picking}

-- ---- paths without assignments

-- the path holds for these picks, one list of values for each pick on it
abbrev pub PathHolds : Width → State → State → List PathStep → List (List Value) → Scope → Type 0
PathHolds w s t [] vss sc = vss ≡ []
PathHolds w s t (path.Guard k b ∷ ys) vss sc = (ker_val w k sc s t ≡ yes_no b) × PathHolds w s t ys vss sc
PathHolds w s t (path.Pick ps ∷ ys) vss sc =
    WithFirst (λ vs rest. Picked (set_outcomes w s t ps sc) vs × PathHolds w s t ys rest (picking ps vs sc)) vss

-- the path meets the fault for these picks: the steps before it hold
abbrev pub PathMeets : Width → State → State → List PathStep → List (List Value) → Scope → Fault → Type 0
PathMeets w s t [] vss sc f = ⊥
PathMeets w s t (path.Guard k b ∷ ys) vss sc f =
    (fault_of (ker_val w k sc s t) ≡ f) ⊎ ((ker_val w k sc s t ≡ yes_no b) × PathMeets w s t ys vss sc f)
PathMeets w s t (path.Pick ps ∷ ys) vss sc f =
    (joined (set_outcomes w s t ps sc) ≡ f)
    ⊎ WithFirst (λ vs rest. Picked (set_outcomes w s t ps sc) vs × PathMeets w s t ys rest (picking ps vs sc) f) vss

-- guards give truth values and picks have sets, as far as the path leads; so it is in typed trees
abbrev pub is_truth : Layer Value → Bool
is_truth (layer.Bool b) = true
is_truth l = false

abbrev pub IsTruth : Outcome → Type 0
IsTruth (Val v) = IsTrue (is_truth (out-Value v))
IsTruth (Wrong p) = Unit {0}
IsTruth (Big p) = Unit {0}

abbrev pub is_there : {X : Type 0} → Option X → Bool
is_there None = false
is_there (Some x) = true

abbrev pub HasKinds : Width → State → State → List PathStep → Scope → Type 0
HasKinds w s t [] sc = Unit {0}
HasKinds w s t (path.Guard k b ∷ ys) sc =
    IsTruth (ker_val w k sc s t) × (ker_val w k sc s t ≡ yes_no b → HasKinds w s t ys sc)
HasKinds w s t (path.Pick ps ∷ ys) sc =
    (joined (set_outcomes w s t ps sc) ≡ NoFault → IsTrue (is_there (all_set_items (values (set_outcomes w s t ps sc)))))
    × ((vs : List Value) → Picked (set_outcomes w s t ps sc) vs → HasKinds w s t ys (picking ps vs sc))

abbrev pub AllHaveKinds : Width → State → State → List KerPath → Scope → Type 0
AllHaveKinds w s t [] sc = Unit {0}
AllHaveKinds w s t (x ∷ xs) sc = HasKinds w s t x.steps sc × AllHaveKinds w s t xs sc

-- an action holds where one of its paths does for some picks, and its fault is the join of those that its paths meet
pub record IsByKerPaths (w : Width) (s t : State) (xs : List KerPath) (sc : Scope) (e : Effect) : Type 0 where
  pub holds : (e.holds ≡ true) ↔ ((x : KerPath) × IsOneOf x xs × ((vss : List (List Value)) × PathHolds w s t x.steps vss sc))
  pub fault : IsJoin e.fault (λ f. (x : KerPath) × IsOneOf x xs × ((vss : List (List Value)) × PathMeets w s t x.steps vss sc f))

-- ---- assignments

abbrev pub is_in : List ℕ → ℕ → Bool
is_in xs i = list_any (λ j. nat_eq i j) xs

-- the name that is assigned: marked, and not assigned before
abbrev pub target : Marks → List ℕ → KerOp → Option ℕ
target m before (ker.Name i primed) = if m i primed && not (is_in before i) then Some i else None
target m before o = None

-- `x = e` and `x \in S` of such a name
abbrev pub assignment_of : Marks → List ℕ → KerOp → List Ker → Option (ℕ × AssignedStep)
assignment_of m before ker.Equal (x ∷ e ∷ []) = option_map (λ i. (i, mark.Equals i e)) (target m before (out-Ker x).op)
assignment_of m before ker.Member (x ∷ e ∷ []) = option_map (λ i. (i, mark.Among i e)) (target m before (out-Ker x).op)
assignment_of m before o ks = None

abbrev pub assignment : Marks → List ℕ → Ker → Option (ℕ × AssignedStep)
assignment m before k = assignment_of m before (out-Ker k).op (out-Ker k).args

-- a step that assigns, or else a guard, with what follows by the names that are assigned
abbrev pub step_by : Ker → List ℕ → (List ℕ → List AssignedStep) → Option (ℕ × AssignedStep) → List AssignedStep
step_by k before rest None = mark.Guard k true ∷ rest before
step_by k before rest (Some a) = a.1 ∷ rest (a.0 ∷ before)

-- the first of each name is its assignment
abbrev pub marked : Marks → List ℕ → List PathStep → List AssignedStep
marked m before [] = []
marked m before (path.Guard k false ∷ ys) = mark.Guard k false ∷ marked m before ys
marked m before (path.Guard k true ∷ ys) = step_by k before (λ names. marked m names ys) (assignment m before k)
marked m before (path.Pick ps ∷ ys) = mark.Pick ps ∷ marked m before ys

abbrev pub assigned_by : AssignedStep → List ℕ
assigned_by (mark.Guard k b) = []
assigned_by (mark.Pick ps) = []
assigned_by (mark.Equals i e) = i ∷ []
assigned_by (mark.Among i e) = i ∷ []

-- a name that is to be assigned, by marks of the declared names, and that the path does not assign
abbrev pub lacks : Marks → List AssignedStep → ℕ → Bool
lacks m zs i = m i true && not (is_in (flat_map assigned_by zs) i)

-- the first such name
abbrev pub IsMissing : Marks → List AssignedStep → ℕ → Type 0
IsMissing m zs i = (lacks m zs i ≡ true) × ((j : ℕ) → IsTrue (nat_lt j i) → lacks m zs j ≡ false)

-- a path that has ended needs no assignment; here an IF's guard FALSE counts as an end, and the reducer makes none
abbrev pub is_ended : PathStep → Bool
is_ended (path.Guard k true) = is_end (out-Ker k).op
is_ended (path.Guard k false) = false
is_ended (path.Pick ps) = false

abbrev pub path_ended : List PathStep → Bool
path_ended = has_ended is_ended

-- the marked names that are not assigned yet
abbrev pub open_names : Marks → List ℕ → Marks
open_names m before i primed = m i primed && not (is_in before i)

-- no step reads a marked name before its assignment
abbrev pub reads_late : Marks → List ℕ → List AssignedStep → Bool
reads_late m before [] = true
reads_late m before (mark.Guard k b ∷ ys) = not (mentions (open_names m before) k) && reads_late m before ys
reads_late m before (mark.Pick ps ∷ ys) =
    list_all (λ k. not (mentions (open_names m before) k)) (sets ps) && reads_late m before ys
reads_late m before (mark.Equals i e ∷ ys) = not (mentions (open_names m before) e) && reads_late m (i ∷ before) ys
reads_late m before (mark.Among i e ∷ ys) = not (mentions (open_names m before) e) && reads_late m (i ∷ before) ys

-- ---- what a tree reads, with the place

-- whether a node reads the name there, or a child does; a range passes over its bounds
abbrev pub reads_here : Marks → ℕ → Place → Place → KerOp → List Bool → Bool
reads_here m i p q (ker.Name j primed) ks = (m j primed && nat_eq i j) && is_eq (place_cmp p q)
reads_here m i p q (ker.Const v) ks = false
reads_here m i p q ker.NoCase ks = false
reads_here m i p q ker.Range ks = list_any (λ b. b) (take 2 ks)
reads_here m i p q o ks = list_any (λ b. b) ks

-- whether a tree reads the marked name of this number at this place
unfoldable pub reads_at : Marks → Ker → ℕ → Place → Bool
reads_at m k i p = fold-Ker Bool (λ x. reads_here m i p x.place x.op x.args) k

-- the trees that a step evaluates
abbrev pub read_by : AssignedStep → List Ker
read_by (mark.Guard k b) = k ∷ []
read_by (mark.Pick ps) = sets ps
read_by (mark.Equals i e) = e ∷ []
read_by (mark.Among i e) = e ∷ []

-- whether a step reads the name there before its assignment, where those of `before` are assigned
abbrev pub reads_early : Marks → List ℕ → AssignedStep → ℕ → Place → Bool
reads_early m before z i p = list_any (λ k. reads_at (open_names m before) k i p) (read_by z)

-- ---- paths with assignments

-- the name has this value in the next state
abbrev pub Has : State → ℕ → Value → Type 0
Has t i v = slice_get t.vals i ≡ Some v

-- the name has a member of the form in the next state
pub record HasMember (t : State) (i : ℕ) (o : Formed) : Type 0 where
  pub form : SetForm
  pub made : o ≡ Made form
  pub set : is_set_form form ≡ true
  pub value : Value
  pub has : Has t i value
  pub belongs : belongs form value ≡ true

-- a path with assignments: it gives each name that it assigns a value, that of the next state
abbrev pub AssignedHolds : Width → State → State → List AssignedStep → List (List Value) → Scope → Type 0
AssignedHolds w s t [] vss sc = vss ≡ []
AssignedHolds w s t (mark.Guard k b ∷ ys) vss sc = (ker_val w k sc s t ≡ yes_no b) × AssignedHolds w s t ys vss sc
AssignedHolds w s t (mark.Pick ps ∷ ys) vss sc =
    WithFirst (λ vs rest. Picked (set_outcomes w s t ps sc) vs × AssignedHolds w s t ys rest (picking ps vs sc)) vss
AssignedHolds w s t (mark.Equals i e ∷ ys) vss sc =
    ((v : Value) × ((ker_val w e sc s t ≡ Val v) × Has t i v)) × AssignedHolds w s t ys vss sc
AssignedHolds w s t (mark.Among i e ∷ ys) vss sc = HasMember t i (ker_form w e sc s t) × AssignedHolds w s t ys vss sc

abbrev pub AssignedMeets : Width → State → State → List AssignedStep → List (List Value) → Scope → Fault → Type 0
AssignedMeets w s t [] vss sc f = ⊥
AssignedMeets w s t (mark.Guard k b ∷ ys) vss sc f =
    (fault_of (ker_val w k sc s t) ≡ f) ⊎ ((ker_val w k sc s t ≡ yes_no b) × AssignedMeets w s t ys vss sc f)
AssignedMeets w s t (mark.Pick ps ∷ ys) vss sc f =
    (joined (set_outcomes w s t ps sc) ≡ f)
    ⊎ WithFirst (λ vs rest. Picked (set_outcomes w s t ps sc) vs × AssignedMeets w s t ys rest (picking ps vs sc) f) vss
AssignedMeets w s t (mark.Equals i e ∷ ys) vss sc f =
    (fault_of (ker_val w e sc s t) ≡ f)
    ⊎ (((v : Value) × ((ker_val w e sc s t ≡ Val v) × Has t i v)) × AssignedMeets w s t ys vss sc f)
AssignedMeets w s t (mark.Among i e ∷ ys) vss sc f =
    (form_fault (ker_form w e sc s t) ≡ f) ⊎ (HasMember t i (ker_form w e sc s t) × AssignedMeets w s t ys vss sc f)

-- each marked name has a value, and the value is that of the next state
abbrev pub ReadsNext : Marks → State → State → Type 0
ReadsNext m s t =
    (i : ℕ) (primed : Bool) → m i primed ≡ true →
    (v : Value) × ((slice_get (if primed then t else s).vals i ≡ Some v) × Has t i v)

-- the right side of each marked membership is a set or has a fault, as far as the path leads; so it is in typed trees
abbrev pub IsSetForm : Formed → Type 0
IsSetForm (Made f) = IsTrue (is_set_form f)
IsSetForm (Broken g) = IsFault g

abbrev pub HasSets : Width → State → State → List AssignedStep → Scope → Type 0
HasSets w s t [] sc = Unit {0}
HasSets w s t (mark.Guard k b ∷ ys) sc = ker_val w k sc s t ≡ yes_no b → HasSets w s t ys sc
HasSets w s t (mark.Pick ps ∷ ys) sc = (vs : List Value) → Picked (set_outcomes w s t ps sc) vs → HasSets w s t ys (picking ps vs sc)
HasSets w s t (mark.Equals i e ∷ ys) sc = (v : Value) × ((ker_val w e sc s t ≡ Val v) × Has t i v) → HasSets w s t ys sc
HasSets w s t (mark.Among i e ∷ ys) sc = IsSetForm (ker_form w e sc s t) × (HasMember t i (ker_form w e sc s t) → HasSets w s t ys sc)

-- the path meets the fault where these names have been assigned, those of `before` among them
abbrev pub MeetsWith : Width → State → State → List ℕ → List AssignedStep → List (List Value) → Scope → Fault → List ℕ → Type 0
MeetsWith w s t before [] vss sc f given = ⊥
MeetsWith w s t before (mark.Guard k b ∷ ys) vss sc f given =
    ((fault_of (ker_val w k sc s t) ≡ f) × (given ≡ before))
    ⊎ ((ker_val w k sc s t ≡ yes_no b) × MeetsWith w s t before ys vss sc f given)
MeetsWith w s t before (mark.Pick ps ∷ ys) vss sc f given =
    ((joined (set_outcomes w s t ps sc) ≡ f) × (given ≡ before))
    ⊎ WithFirst (λ vs rest. Picked (set_outcomes w s t ps sc) vs × MeetsWith w s t before ys rest (picking ps vs sc) f given) vss
MeetsWith w s t before (mark.Equals i e ∷ ys) vss sc f given =
    ((fault_of (ker_val w e sc s t) ≡ f) × (given ≡ before))
    ⊎ (((v : Value) × ((ker_val w e sc s t ≡ Val v) × Has t i v)) × MeetsWith w s t (i ∷ before) ys vss sc f given)
MeetsWith w s t before (mark.Among i e ∷ ys) vss sc f given =
    ((form_fault (ker_form w e sc s t) ≡ f) × (given ≡ before))
    ⊎ (HasMember t i (ker_form w e sc s t) × MeetsWith w s t (i ∷ before) ys vss sc f given)

-- two pairs of states agree on all names but the marked ones
abbrev pub SameBut : Marks → State → State → State → State → Type 0
SameBut m s t s' t' =
    (i : ℕ) (primed : Bool) → m i primed ≡ false →
    slice_get (if primed then t else s).vals i ≡ slice_get (if primed then t' else s').vals i

-- ---- an action by its paths with assignments

abbrev pub AssignedPath : Type 0
AssignedPath = List AssignedStep

abbrev pub assigned_of : Marks → KerPath → AssignedPath
assigned_of m x = marked m [] x.steps

abbrev pub AllHaveSets : Width → State → State → List AssignedPath → Scope → Type 0
AllHaveSets w s t [] sc = Unit {0}
AllHaveSets w s t (x ∷ xs) sc = HasSets w s t x sc × AllHaveSets w s t xs sc

pub record IsByAssigned (w : Width) (s t : State) (xs : List AssignedPath) (sc : Scope) (e : Effect) : Type 0 where
  pub holds : (e.holds ≡ true) ↔ ((x : AssignedPath) × IsOneOf x xs × ((vss : List (List Value)) × AssignedHolds w s t x vss sc))
  pub fault : IsJoin e.fault (λ f. (x : AssignedPath) × IsOneOf x xs × ((vss : List (List Value)) × AssignedMeets w s t x vss sc f))
