-- The paths of an action. A path takes one operand of each disjunction and one branch of each IF that holds a name
-- which the action may assign, and makes one choice for each `\E`; a conjunction has all combinations. Source: Konnov,
-- Kukovec and Tran, "TLA+ Model Checking Made Symbolic", OOPSLA 2019, on symbolic transitions.
use Rattle.std.specs.Prelude.{ℕ, Bool, true, false, not, ◌&&◌, nat_lt, List, [], ◌∷◌, ◌++◌, map, zip, take, length, Option, Some, None, slice_get, if◌then◌else◌}
use Rattle.std.specs.List.{list_any, list_all}
use Rattle.tla_values.specs.Order.{Layer}
use Rattle.tla_values.specs.declared.value.Value.{Value, out-Value}
use Rattle.tla_values.specs.declared.value.Value.TheOpen as layer
use Rattle.tla_meaning.specs.declared.actions.Assignable.{Assignable}
use Rattle.tla_meaning.specs.declared.place.Place.{Place}
use Rattle.tla_meaning.specs.Actions.{counts}
use Rattle.kernel_trees.specs.declared.kernel.Ker.{Ker, roll-Ker, out-Ker}
use Rattle.kernel_trees.specs.declared.kernel.Ker.TheOpen.{Ker-F}
use Rattle.kernel_trees.specs.declared.kernel.Ker.TheFolds.{fold-Ker, map-Ker}
use Rattle.kernel_trees.specs.declared.kernel.KerOp.{KerOp}
use Rattle.kernel_trees.specs.declared.kernel.KerOp.TheVariants as ker
use Rattle.kernel_trees.specs.declared.path.PathStep.{PathStep}
use Rattle.kernel_trees.specs.declared.path.PathStep.TheVariants as path
use Rattle.kernel_trees.specs.declared.path.KerPath.{KerPath}
use Rattle.kernel_trees.specs.Trees.{recur}
use Rattle.kernel_trees.specs.Ways.{Way, all_of, branch, any_of, alone}

-- ---- marked names: those that an action may assign

-- by the number of a name, and by whether it is primed
abbrev pub Marks : Type 0
Marks = ℕ → Bool → Bool

-- the marks of the first n names alone
abbrev pub only_below : ℕ → Marks → Marks
only_below n m i primed = nat_lt i n && m i primed

-- what an action may assign of the first n names
abbrev pub marks_below : ℕ → Assignable → Marks
marks_below n m = only_below n (counts m)

-- of a node, by what holds of its children; a range passes over its bounds
abbrev pub mentions_at : Marks → KerOp → List Bool → Bool
mentions_at m (ker.Name i primed) ks = m i primed
mentions_at m (ker.Const v) ks = false
mentions_at m ker.NoCase ks = false
mentions_at m ker.Range ks = list_any (λ b. b) (take 2 ks)
mentions_at m o ks = list_any (λ b. b) ks

-- whether a tree holds a marked name
unfoldable pub mentions : Marks → Ker → Bool
mentions m = fold-Ker Bool (λ x. mentions_at m x.op x.args)

abbrev pub own_below : ℕ → KerOp → Bool
own_below n (ker.Name i primed) = nat_lt i n
own_below n o = true

-- whether each name of a tree is one of the first n
unfoldable pub names_below : ℕ → Ker → Bool
names_below n = fold-Ker Bool (λ x. own_below n x.op && list_all (λ b. b) x.args)

-- ---- steps

-- an operand that is TRUE, the guard of an IF at this place with the truth value that leads on, or the choice of an
-- `\E` at this place, of one value for each number from its set
pub data Step : Type 0 where
  Holds : Ker → Step
  Branch : Place → Ker → Bool → Step
  Choice : Place → List (ℕ × Ker) → Step

abbrev pub numbers : List (ℕ × Ker) → List ℕ
numbers ps = map (λ x. x.0) ps

abbrev pub sets : List (ℕ × Ker) → List Ker
sets ps = map (λ x. x.1) ps

abbrev pub is_false : Layer Value → Bool
is_false (layer.Bool b) = not b
is_false v = false

abbrev pub is_end : KerOp → Bool
is_end (ker.Const v) = is_false (out-Value v)
is_end ker.NoCase = true
is_end o = false

-- a path ends at the constant FALSE, and at a CASE of which no guard is TRUE
abbrev pub ends_at : Step → Bool
ends_at (Holds k) = is_end (out-Ker k).op
ends_at (Branch p k b) = false
ends_at (Choice p ps) = false

-- ---- paths

-- a tree with its paths
abbrev pub Parted : Type 0
Parted = Ker × List (Way Step)

abbrev pub place_of : Parted → Place
place_of k = (out-Ker k.0).place

abbrev pub any_mentions : Marks → List Parted → Bool
any_mentions m ks = list_any (λ k. mentions m k.0) ks

abbrev pub if_ways : Ker → Place → List Parted → List (Way Step)
if_ways self p (c ∷ a ∷ b ∷ []) =
    branch (Branch p c.0 true ∷ []) (place_of a) a.1 ++ branch (Branch p c.0 false ∷ []) (place_of b) b.1
if_ways self p ks = alone (Holds self)

abbrev pub choice_ways : Ker → Place → List (ℕ × Ker) → Option Parted → List (Way Step)
choice_ways self p ps None = alone (Holds self)
choice_ways self p ps (Some k) = map (λ y. record { taken = y.taken; steps = Choice p ps ∷ y.steps }) k.1

-- by the operator: a conjunction has all combinations; a disjunction or an IF that holds a marked name has the paths of
-- its branches; an `\E` has those of its body behind its choice; everything else is one operand
abbrev pub ways_of : Marks → KerOp → Ker → Place → List ℕ → List Parted → List (Way Step)
ways_of m ker.And self p xs ks = all_of ends_at (map (λ k. k.1) ks)
ways_of m ker.Or self p xs ks =
    if any_mentions m ks then any_of (map (λ k. (place_of k, k.1)) ks) else alone (Holds self)
ways_of m ker.If self p xs ks = if any_mentions m ks then if_ways self p ks else alone (Holds self)
ways_of m ker.Some self p xs ks =
    choice_ways self p (zip xs (map (λ k. k.0) (take (length xs) ks))) (slice_get ks (length xs))
ways_of m o self p xs ks = alone (Holds self)

abbrev pub tree_of : {X : Type 0} → Ker-F (Ker × X) → Ker
tree_of {X = X} x = roll-Ker (map-Ker (Ker × X) Ker (λ y. y.0) x)

-- the paths of an action, from left to right
abbrev pub ways : Marks → Ker → List (Way Step)
ways m = recur (λ x. ways_of m x.op (tree_of x) x.place x.binds x.args)

-- ---- paths as they are handed on: an IF's guard is an operand, or one that is to be FALSE

abbrev pub step_of : Step → PathStep
step_of (Holds k) = path.Guard k true
step_of (Branch p k b) = path.Guard k b
step_of (Choice p ps) = path.Pick ps

abbrev pub place_or : Place → Option Place → Place
place_or p None = p
place_or p (Some q) = q

-- at the root of the last branch that is taken, or of the action where none is
abbrev pub path_of : Ker → Way Step → KerPath
path_of k y = record { place = place_or (out-Ker k).place y.taken; steps = map step_of y.steps }

abbrev pub paths : Marks → Ker → List KerPath
paths m k = map (path_of k) (ways m k)
