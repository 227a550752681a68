-- A system by what is computed of its trees, and its runs along paths.
use Rattle.std.specs.Prelude.{ℕ, ◌≡◌, Bool, true, false, not, ◌||◌, List, [], ◌∷◌, map, length, Some, get_or, slice_get}
use Rattle.tla_values.specs.declared.value.Value.{Value}
use Rattle.tla_meaning.specs.declared.job.State.{State}
use Rattle.tla_meaning.specs.Scopes.{Scope}
use Rattle.kernel_trees.specs.declared.kernel.Ker.{out-Ker}
use Rattle.kernel_trees.specs.declared.path.Assigned.{Assigned}
use Rattle.kernel_trees.specs.declared.path.AssignedStep.{AssignedStep}
use Rattle.kernel_trees.specs.declared.path.AssignedStep.TheVariants as mark
use Rattle.kernel_trees.specs.declared.system.System.{System}
use Rattle.kernel_trees.specs.Assignments.{AssignedHolds, lacks}
use Rattle.kernel_trees.specs.Paths.{Marks, is_end}
use Rattle.kernel_trees.specs.Picks.{IsOneOf}
use Rattle.kernel_trees.specs.Trees.{number_name}
use Rattle.kernel_trees.specs.Ways.{has_ended}
use Rattle.kernel_shapes.specs.Kernel.{ker_sized}
use Rattle.kernel_shapes.specs.Levels.{Step, Guard, Pick, Equals, Among, Path, Parts}

-- ---- the parts of a system

abbrev pub sized_step : ℕ → AssignedStep → Step
sized_step w (mark.Guard k b) = Guard (ker_sized w k)
sized_step w (mark.Pick ps) = Pick (map (λ p. (number_name p.0, ker_sized w p.1)) ps)
sized_step w (mark.Equals i e) = Equals i (ker_sized w e)
sized_step w (mark.Among i e) = Among i (ker_sized w e)

abbrev pub sized_path : ℕ → List AssignedStep → Path
sized_path w zs = map (sized_step w) zs

abbrev pub sized_paths : ℕ → List Assigned → List Path
sized_paths w xs = map (λ x. sized_path w x.steps) xs

abbrev pub system_parts : ℕ → System → Parts
system_parts w s = record {
  fixed = s.ker.fixed;
  constants = sized_paths w s.constants;
  assume = ker_sized w s.ker.assume;
  start = sized_paths w s.start;
  next = sized_paths w s.next;
  invariants = map (ker_sized w) s.ker.invs;
}

-- ---- runs

abbrev pub no_scope : Scope
no_scope = record { bound = []; named = [] }

-- the constants of a state are those of the one before, and it has as many names
abbrev pub ConstantsKept : List Bool → List Value → List Value → Type 0
ConstantsKept [] us vs = length us ≡ length vs
ConstantsKept (b ∷ bs) [] [] = Unit {0}
ConstantsKept (true ∷ bs) (u ∷ us) (v ∷ vs) = (u ≡ v) × ConstantsKept bs us vs
ConstantsKept (false ∷ bs) (u ∷ us) (v ∷ vs) = ConstantsKept bs us vs
ConstantsKept (b ∷ bs) [] (v ∷ vs) = ⊥
ConstantsKept (b ∷ bs) (u ∷ us) [] = ⊥

-- a state follows another where one of the paths holds for some picks
abbrev pub Follows : ℕ → List Assigned → State → State → Type 0
Follows w xs s t =
    (x : Assigned) × IsOneOf x xs × ((vss : List (List Value)) × AssignedHolds (Some w) s t x.steps vss no_scope)

abbrev pub IsStep : ℕ → System → State → State → Type 0
IsStep w sys s t = ConstantsKept sys.ker.fixed s.vals t.vals × Follows w sys.next s t

-- each variable is marked under a prime
abbrev pub MarksVariables : Marks → List Bool → Type 0
MarksVariables m fixed = (i : ℕ) → slice_get fixed i ≡ Some false → m i true ≡ true

-- so is each in the state itself, as in Init
abbrev pub MarksInInit : Marks → List Bool → Type 0
MarksInInit m fixed = (i : ℕ) (primed : Bool) → slice_get fixed i ≡ Some false → m i primed ≡ true

abbrev pub every_name : Marks
every_name i primed = true

abbrev pub the_constants_of : List Bool → Marks
the_constants_of fixed i primed = get_or fixed i false

-- ---- what paths assign

-- the constant FALSE and a CASE of which no guard is TRUE, where they are to be TRUE: no state has them so
abbrev pub is_assigned_end : AssignedStep → Bool
is_assigned_end (mark.Guard k true) = is_end (out-Ker k).op
is_assigned_end (mark.Guard k false) = false
is_assigned_end (mark.Pick ps) = false
is_assigned_end (mark.Equals i e) = false
is_assigned_end (mark.Among i e) = false

-- a path has ended where its last step is such a guard
abbrev pub assigned_ended : List AssignedStep → Bool
assigned_ended = has_ended is_assigned_end

-- a path assigns the name, if it is marked; one that has ended never holds, and needs no assignment
abbrev pub assigns : Marks → List AssignedStep → ℕ → Bool
assigns m zs i = assigned_ended zs || not (lacks m zs i)
