-- What the law of shapes says of a tree.
use Rattle.std.specs.Prelude.{ℕ, suc, ◌<◌, ◌≤◌, ◌≡◌, Bool, true, false, not, IsTrue, List, [], ◌∷◌, Some, is_some, length, ℤ}
use Rattle.std.specs.List.{AllByRecursion, list_all}
use Rattle.tla_values.specs.Sets.{Normal}
use Rattle.tla_values.specs.declared.value.Value.{Value}
use Rattle.tla_meaning.specs.declared.expr.Expr.{Expr}
use Rattle.tla_meaning.specs.declared.job.State.{State}
use Rattle.tla_meaning.specs.declared.outcome.Outcome.TheVariants.{Val}
use Rattle.tla_meaning.specs.declared.forms.SetForm.{SetForm}
use Rattle.tla_meaning.specs.Actions.{meaning, val}
use Rattle.tla_meaning.specs.Forms.{Made, belongs, is_set_form}
use Rattle.tla_meaning.specs.Expanded.{is_expanded}
use Rattle.tla_meaning.specs.Scopes.{Scope}
use Rattle.snowcat_rows.specs.Types.{mean}
use Rattle.snowcat_rows.specs.Values.{InBounds}
use Rattle.snowcat_rows.specs.declared.types.Ty.{Ty}
use Rattle.kernel_trees.specs.Picks.{IsOneOf}
use Rattle.kernel_trees.specs.TypeKinds.{Kind, kind_of}
use Rattle.kernel_trees.specs.declared.kernel.Ker.{Ker}
use Rattle.kernel_trees.specs.declared.path.Assigned.{Assigned}
use Rattle.kernel_trees.specs.declared.system.System.{System}
use Rattle.kernel_trees.specs.Assignments.{reads_late}
use Rattle.kernel_trees.specs.Paths.{Marks, mentions}
use Rattle.kernel_trees.specs.Sound.{Context, kind_at, sound, sound_assigned}
use Rattle.kernel_trees.specs.Trees.{ker_val}
use Rattle.kernel_shapes.specs.FiniteForms.{is_finite_form}
use Rattle.kernel_shapes.specs.Fits.{BoundFit, FitAll, Fits, StateFits}
use Rattle.kernel_shapes.specs.Levels.{shapes_at, start_shapes}
use Rattle.kernel_shapes.specs.Shape.{Shape, inside}
use Rattle.kernel_shapes.specs.Systems.{Follows, IsStep, MarksInInit, MarksVariables, assigns, every_name, system_parts, the_constants_of}
use Rattle.kernel_shapes.specs.Sized.{Extent}
use Rattle.kernel_shapes.specs.Counts.{Count, refusal, within_limits}
use Rattle.kernel_shapes.specs.Kernel.{ker_sized, ker_shape}
use Rattle.kernel_shapes.specs.TypedExtents.{OfTypes, without_shape}
use Rattle.kernel_shapes.specs.TypedStates.{OfKind, EachOfKind, shape_of_kind, typed_first}
use Rattle.kernel_shapes.specs.Trees.{tree_sized, shape_of_tree}

-- bound names, a state and a next state have values that fit the shapes of their names
pub record Ready (sc : Scope) (g : Extent) (s t : State) : Type 0 where
  pub bound : BoundFit sc.bound g.bound
  pub now : StateFits g.now s.vals
  pub next : StateFits g.next t.vals

-- the value that a tree with these types has under a width fits its shape, where it is sound: it reads only names that
-- have a shape, and what it joins is of one kind; a filter has one name, a power its literal exponent, a record
-- different fields; tuples and records are read by literals; operands are sequences, functions or records where they
-- are to be. (At a width of one bit the third power of -1 does not fit its shape.)
abbrev pub FitsItsShape : ℕ → Expr → List Kind → Scope → Extent → State → State → Value → Type 0
FitsItsShape w e ks sc g s t v =
    2 ≤ w → IsTrue (is_expanded e) → Ready sc g s t → IsTrue ((tree_sized w e).sizing ks g).sound →
    val (Some w) e sc s t ≡ Val v → Fits (shape_of_tree w e ks g) v

-- what is computed of a kernel tree is so, too
abbrev pub SizedFits : ℕ → Ker → Scope → Extent → State → State → Value → Type 0
SizedFits w k sc g s t v =
    2 ≤ w → Ready sc g s t → IsTrue (ker_sized w k g).sound → ker_val (Some w) k sc s t ≡ Val v →
    Fits (ker_shape w k g) v

-- a sound kernel tree has a shape of its type, and what is computed of it is sound, where the names that it reads have
-- shapes of their types
abbrev pub HasSoundShape : ℕ → List Kind → Ker → Context → Bool → Extent → Kind → Type 0
HasSoundShape w names k c b g a =
    IsTrue (sound names k c b) → OfTypes names c g → IsTrue (not (mentions (without_shape g) k)) → kind_at k ≡ Some a →
    OfKind a (ker_shape w k g) × IsTrue (ker_sized w k g).sound

-- so its value fits its shape
abbrev pub KernelFitsItsShape : ℕ → List Kind → Ker → Context → Bool → Scope → Extent → State → State → Value → Type 0
KernelFitsItsShape w names k c b sc g s t v =
    2 ≤ w → IsTrue (sound names k c b) → OfTypes names c g → IsTrue (not (mentions (without_shape g) k)) →
    Ready sc g s t → ker_val (Some w) k sc s t ≡ Val v → Fits (ker_shape w k g) v

-- ---- forms

-- all values that a tree reads are normal, and all that it names is bound
pub record IsNormal (sc : Scope) (s t : State) : Type 0 where
  pub bound : AllByRecursion (λ b. Normal b.1) sc.bound
  pub named : sc.named ≡ []
  pub now : AllByRecursion Normal s.vals
  pub next : AllByRecursion Normal t.vals

-- what belongs to a form in which no infinite set stands fits the shape of its members
abbrev pub FormFitsItsShape : ℕ → Expr → List Kind → Scope → Extent → State → State → SetForm → Value → Type 0
FormFitsItsShape w e ks sc g s t f v =
    2 ≤ w → IsTrue (is_expanded e) → IsTrue (is_finite_form e) → Ready sc g s t → IsNormal sc s t →
    IsTrue ((tree_sized w e).sizing ks g).sound → (meaning (Some w) e sc).form s t ≡ Made f → IsTrue (is_set_form f) →
    Normal v → IsTrue (belongs f v) → Fits (inside (shape_of_tree w e ks g)) v

-- ---- levels

-- a state fits shapes, and these are of the types of its names
abbrev pub FitsTyped : List Kind → List Shape → State → Type 0
FitsTyped names as' s = FitAll as' s.vals × EachOfKind names as'

-- the paths of a system are sound, read late and, if they have not ended, assign each marked name
pub record PathsAre (names : List Kind) (m : Marks) (xs : List Assigned) : Type 0 where
  pub sound : IsTrue (list_all (λ x. sound_assigned names [] x.steps) xs)
  pub late : IsTrue (list_all (λ x. reads_late m [] x.steps) xs)
  pub assign : (i : ℕ) → IsTrue (list_all (λ x. assigns m x.steps i) xs)

-- where a state fits shapes of the types, the state that is reached n steps later along paths of the step fits the
-- shapes of level n, which are of the types. The paths are sound and read no marked name before its assignment; each
-- variable is marked in the next state, and a path that has not ended assigns it. (Values are to be normal in all of
-- `run`, which goes on behind n: there any state of normal values may stand.)
abbrev pub LevelsFit : ℕ → System → List Kind → Marks → List Shape → (ℕ → State) → ℕ → Type 0
LevelsFit w sys names m first run n =
    2 ≤ w → length sys.ker.fixed ≡ length names → MarksVariables m sys.ker.fixed → PathsAre names m sys.next →
    FitsTyped names first (run 0) → ((i : ℕ) → AllByRecursion Normal (run i).vals) →
    ((i : ℕ) → i < n → IsStep w sys (run i) (run (suc i))) →
    FitsTyped names (shapes_at (system_parts w sys) first n) (run n)

-- the paths of CInit are sound, read no name that is not assigned before, and, if they have not ended, assign each
-- constant
pub record ConstantPathsAre (names : List Kind) (fixed : List Bool) (xs : List Assigned) : Type 0 where
  pub sound : IsTrue (list_all (λ x. sound_assigned names [] x.steps) xs)
  -- every name is marked here: CInit reads no variable, and a constant only behind its assignment. Whoever builds the
  -- system owes this, and that the assumption, whose numbers count beside those of CInit, reads no variable either.
  pub late : IsTrue (list_all (λ x. reads_late every_name [] x.steps) xs)
  pub assign : (i : ℕ) → IsTrue (list_all (λ x. assigns (the_constants_of fixed) x.steps i) xs)

-- a state with which paths of CInit and of Init hold fits the shapes of the start, which are of the types
abbrev pub StartFits : ℕ → System → List Kind → Marks → State → Type 0
StartFits w sys names m s =
    2 ≤ w → length sys.ker.fixed ≡ length names → length s.vals ≡ length names → MarksInInit m sys.ker.fixed →
    ConstantPathsAre names sys.ker.fixed sys.constants → PathsAre names m sys.start → AllByRecursion Normal s.vals →
    Follows w sys.constants s s → Follows w sys.start s s →
    FitsTyped names (start_shapes (system_parts w sys)) s

-- ---- typed states

-- a normal value of a type within bounds fits the shape of the type in these bounds
abbrev pub TypedFits : List (List ℕ) → ℤ → ℤ → ℕ → Ty → Kind → Value → Type 0
TypedFits literals low high size t k v =
    kind_of t ≡ Some k → Normal v → InBounds literals low high size v (mean t) → Fits (shape_of_kind low high size k) v

-- the variables of a state have values of their types within bounds, which have the kinds of the names
abbrev pub EachInBounds : List (List ℕ) → ℤ → ℤ → ℕ → List Bool → List Ty → List Kind → List Value → Type 0
EachInBounds literals low high size [] [] [] [] = Unit {0}
EachInBounds literals low high size (true ∷ bs) (t ∷ ts) (k ∷ ks) (v ∷ vs) =
    EachInBounds literals low high size bs ts ks vs
EachInBounds literals low high size (false ∷ bs) (t ∷ ts) (k ∷ ks) (v ∷ vs) =
    (kind_of t ≡ Some k) × InBounds literals low high size v (mean t) × EachInBounds literals low high size bs ts ks vs
EachInBounds literals low high size bs ts ks vs = ⊥

-- a state with which a path of CInit holds and whose variables have values of their types within bounds fits the shapes
-- of a typed state, which are of the types
abbrev pub TypedStateFits : ℕ → System → List Kind → List (List ℕ) → ℤ → ℤ → ℕ → List Ty → State → Type 0
TypedStateFits w sys names literals low high size ts s =
    2 ≤ w → length sys.ker.fixed ≡ length names → length s.vals ≡ length names →
    ConstantPathsAre names sys.ker.fixed sys.constants → AllByRecursion Normal s.vals → Follows w sys.constants s s →
    EachInBounds literals low high size sys.ker.fixed ts names s.vals →
    FitsTyped names (typed_first low high size (system_parts w sys) names) s

-- ---- refusals

-- the same numbers, in any order and any number of times, make the same refusal
abbrev pub SameRefusal : List Count → List Count → Type 0
SameRefusal cs ds =
    ((c : Count) → IsOneOf c cs → IsOneOf c ds) → ((c : Count) → IsOneOf c ds → IsOneOf c cs) → refusal cs ≡ refusal ds

-- numbers make a refusal where one of them is past its limit
abbrev pub Refuses : List Count → Type 0
Refuses cs = is_some (refusal cs) ≡ not (within_limits cs)
