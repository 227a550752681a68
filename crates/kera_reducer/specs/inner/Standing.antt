-- What the code of the reduction keeps: of a reducer on its way, and of the tree of a node that it makes.
use Rattle.std.specs.Prelude.{◌≡◌, ℕ, suc, Bool, true, false, nat_le, if◌then◌else◌, List, [], ◌∷◌, ◌++◌, map, length, Option, Some, None, pos}
use Rattle.tla_meaning.specs.declared.actions.Assignable.{Assignable}
use Rattle.tla_meaning.specs.declared.expr.Expr.{Expr, out-Expr}
use Rattle.tla_meaning.specs.declared.op.Op.{Op}
use Rattle.tla_meaning.specs.declared.op.Op.TheVariants as op
use Rattle.tla_values.specs.declared.value.Value.TheVariants as value
use Rattle.snowcat_rows.specs.declared.types.Ty.{Ty}
use Rattle.snowcat_rows.specs.declared.types.Ty.TheVariants as ty
use Rattle.tla_meaning.specs.declared.place.Place.{Place}
use Rattle.kernel_trees.specs.declared.kernel.Ker.{Ker}
use Rattle.kernel_trees.specs.declared.kernel.KerOp.{KerOp}
use Rattle.kernel_trees.specs.declared.kernel.KerOp.TheVariants as ker
use Rattle.kernel_trees.specs.Trees.{op_of}
use Rattle.kera_reducer.specs.declared.making.Made.{Made}
use Rattle.kera_reducer.specs.declared.naming.NamedPair.{NamedPair}
use Rattle.kera_reducer.specs.declared.reducer.Reducer.{Reducer}
use Rattle.kernel_reduction.specs.Builds.{has_arm, is_binder, is_same}
use Rattle.kernel_reduction.specs.BuildsTyped.{BuildsTyped, EachTyped, TypedNode, is_chosen}
use Rattle.kernel_reduction.specs.Making.{let_of, pair_type}
use Rattle.kernel_reduction.specs.Rows.{Let, bound, case_branches, guard_of, item, item_by_let, large_power, let_in, negation, nested_ifs, node, number, op_at, pair, place_of, power_body, small_power, split_case, tree, twice_negated, type_of}
use Rattle.kernel_reduction.specs.inner.Settings.{ChildrenBuilt, binds_behind, counted, passing}

-- the bound names
abbrev pub names_of : Reducer → List (List ℕ)
names_of r = map (λ t. t.now) r.names.items

-- ---- trees

abbrev pub TreeTyped : Option Assignable → List (List ℕ) → Expr → List Ty → Ker → List Ty → Type 0
TreeTyped i names e ts k us = BuildsTyped i (counted names) e ts k us

abbrev pub NodeTyped : Option Assignable → List (List ℕ) → Ty → Expr → List Ty → Ker → List Ty → Type 0
NodeTyped i names t e ts k us =
    TypedNode i (counted names) (out-Expr e).place t (out-Expr e).op (out-Expr e).args (out-Expr e).binds ts k us

-- the children of a node that passes this position on
abbrev pub AllChildren : Option Assignable → List (List ℕ) → Expr → List Ty → List Ker → List Ty → Type 0
AllChildren i names e ts ks us = ChildrenBuilt i names (out-Expr e).op (out-Expr e).args (out-Expr e).binds ts ks us

-- a tree is built by a reducer on its way from one standing to another; so are a node of this type, and children
abbrev pub Reduces : Option Assignable → Reducer → Reducer → Expr → Ker → Type 0
Reduces i old new e k = TreeTyped i (names_of old) e old.types.now k new.types.now

abbrev pub ReducesNode : Option Assignable → Reducer → Reducer → Ty → Expr → Ker → Type 0
ReducesNode i old new t e k = NodeTyped i (names_of old) t e old.types.now k new.types.now

abbrev pub ReducesChildren : Option Assignable → Reducer → Reducer → Expr → List Ker → Type 0
ReducesChildren i old new e ks = AllChildren i (names_of old) e old.types.now ks new.types.now

-- in each position, where the node is this bound name
abbrev pub IsBoundName : List ℕ → Expr → List (List ℕ) → Ty → Ker → Type 0
IsBoundName x e names t k =
    (out-Expr e).op ≡ op.Bound x → (i : Option Assignable) (ts : List Ty) → NodeTyped i names t e ts k ts

-- ---- nodes

-- the tree of a node from those of its children, where so many names are bound around it and so many by it, and it passes
-- this position on
abbrev pub Makes : Made → Option Assignable → Op → List Ker → Ker → Type 0
Makes m j o ks k =
    (i : Option Assignable) (names : List (List ℕ)) (es : List Expr) (xs : List (List ℕ)) (ts us : List Ty) →
    length names ≡ m.depth → length xs ≡ m.bound → passing i o es ≡ j → ChildrenBuilt j names o es xs ts ks us →
    TypedNode i (counted names) m.place m.ty.now o es xs ts k us

-- the same as a value
abbrev pub MakesValue : Made → Op → List Ker → Ker → Type 0
MakesValue m o ks k =
    (names : List (List ℕ)) (es : List Expr) (xs : List (List ℕ)) (ts us : List Ty) →
    length names ≡ m.depth → length xs ≡ m.bound → ChildrenBuilt None names o es xs ts ks us →
    TypedNode None (counted names) m.place m.ty.now o es xs ts k us

-- the same of one that binds nothing
abbrev pub MakesOf : Made → Op → List Ker → Ker → Type 0
MakesOf m o ks k =
    (names : List (List ℕ)) (es : List Expr) (xs : List (List ℕ)) (ts us : List Ty) → length names ≡ m.depth →
    EachTyped None (counted names) es ts ks us → TypedNode None (counted names) m.place m.ty.now o es xs ts k us

-- ---- operators

-- an operator of the kernel that takes the operands of this one, whatever their types are
pub record IsFixed (o : Op) (ko : KerOp) : Type 0 where
  pub stands : op_of ko ≡ o
  pub same : is_same ko ≡ true
  pub chosen : (t : Ty) (ks : List Ker) → is_chosen ko t ks ≡ true

-- one that takes these operands
pub record IsSame (m : Made) (o : Op) (ks : List Ker) (ko : KerOp) : Type 0 where
  pub stands : op_of ko ≡ o
  pub same : is_same ko ≡ true
  pub chosen : is_chosen ko m.ty.now ks ≡ true

-- an operator that is the negation of one of the kernel
abbrev pub is_negated : Op → KerOp → Bool
is_negated op.Ne ker.Equal = true
is_negated op.NotIn ker.Member = true
is_negated op.Ge ker.Less = true
is_negated o ko = false

-- a binder of the kernel that stands for this one
pub record IsBinderOf (o : Op) (ko : KerOp) : Type 0 where
  pub stands : op_of ko ≡ o
  pub binds : is_binder ko ≡ true
  pub behind : binds_behind o ≡ true

-- ---- operands that are named as a pair, under the second number of the node

abbrev pub pairs_of : Ker → Ker → Ty
pairs_of k l = pair_type (type_of k) (type_of l)

-- an item of pairs of this type that are named, as it stands for an operand
abbrev pub read_of : Made → ℕ → Ty → Ker → Ker
read_of m i t k = item (place_of k) (type_of k) i (bound (place_of k) t (suc m.depth))

pub record IsNamedPair (m : Made) (k l : Ker) (n : NamedPair) : Type 0 where
  pub pairs : n.pairs ≡ pairs_of k l
  pub operands : n.operands ≡ pair m.place (pairs_of k l) k l
  pub first : n.first ≡ read_of m 1 (pairs_of k l) k
  pub second : n.second ≡ read_of m 2 (pairs_of k l) l

-- ---- CASE

-- guards, each with its branch, and the branch of OTHER
abbrev pub flat : List (Ker × Ker) → Option Ker → List Ker
flat [] None = []
flat [] (Some k) = k ∷ []
flat (x ∷ xs) o = x.0 ∷ x.1 ∷ flat xs o

-- IFs around a tree
abbrev pub nested : Place → Ty → List (Ker × Ker) → Ker → Ker
nested p a [] k = k
nested p a (x ∷ xs) k = node p a ker.If (x.0 ∷ x.1 ∷ nested p a xs k ∷ [])

abbrev pub IsNestedIfs : Made → List Ker → Ker → Type 0
IsNestedIfs m ks k = (has_arm ks ≡ true) × (k ≡ nested_ifs m.place m.ty.now ks)

-- the branch of an arm that is split off, behind these guards
abbrev pub arm_node : Place → List Ker → Ker → Ker → Ker
arm_node p front g k =
    node (place_of k) ty.Bool ker.And (map (negation p ty.Bool) front ++ twice_negated p ty.Bool g ∷ k ∷ [])

-- the guards of arms, and the branches of these arms, whatever arms follow
abbrev pub AreBranches : Made → List (Ker × Ker) → List Ker → List Ker → Type 0
AreBranches m xs front ks =
    (ys : List (Ker × Ker)) (o : Option Ker) → ks ++ case_branches m.place ty.Bool front ys o
    ≡ case_branches m.place ty.Bool [] (xs ++ ys) o

abbrev pub IsSplitCase : Made → List Ker → Ker → Type 0
IsSplitCase m ks k =
    (xs : List (Ker × Ker)) × (o : Option Ker) × (flat xs o ≡ ks) × (k ≡ split_case m.place ty.Bool xs o)

-- ---- IF

-- an IF that is split into paths
abbrev pub IsBranching : Made → List Ker → Ker → Type 0
IsBranching m ks k =
    (g l r : Ker) × (ks ≡ g ∷ l ∷ r ∷ []) × (k ≡ node m.place ty.Bool ker.If (guard_of m.place ty.Bool g ∷ l ∷ r ∷ []))

-- ---- powers, items and fields

abbrev pub times : Place → Ty → Ker → Ker → Ker
times p a k l = node p a ker.Times (k ∷ l ∷ [])

-- `1 * y`
abbrev pub once_of : Made → Ker → Ker
once_of m k = times m.place m.ty.now (number m.place m.ty.now 1) k

abbrev pub less : Place → Ker → Ker → Ker
less p k l = node p ty.Bool ker.Less (k ∷ l ∷ [])

-- a value behind a test whose outcome does not count
abbrev pub choice : Place → Ty → Ker → Ker → Ker
choice p a t v = node p a ker.If (t ∷ v ∷ v ∷ [])

-- the LET of a node, which names something of this type
abbrev pub let_at : Made → Ty → Let
let_at m items = let_of m.ty.now items m.depth (suc m.depth)

abbrev pub small_body_of : Made → Ker → ℕ → Ker
small_body_of m k n =
    power_body m.place m.ty.now ty.Bool (bound (place_of k) (type_of k) (suc m.depth)) n

abbrev pub small_power_of : Made → Ker → ℕ → Ker
small_power_of m k n = small_power m.place (let_at m (type_of k)) ty.Bool k n

abbrev pub large_power_of : Made → Ker → Ker → ℕ → Ker
large_power_of m k l n = large_power m.place (let_at m (pairs_of k l)) (pairs_of k l) ty.Bool k l n

abbrev pub item_let_of : Made → Ker → Ker → ℕ → Ker
item_let_of m k i n = item_by_let m.place (let_at m (pairs_of k i)) (pairs_of k i) n k i

abbrev pub item_of : Made → Ker → Ker → ℕ → Ker
item_of m k i n = if nat_le n 7 then item m.place m.ty.now n k else item_let_of m k i n

-- the sequence so far, under the first number of a node, and one item more
abbrev pub longer_of : Made → Ty → Ker → Ker
longer_of m a e = node m.place (ty.Seq a) ker.Push (bound m.place (ty.Seq a) m.depth ∷ e ∷ [])

-- a LET of a node, of this type, which names something of the other
abbrev pub let_of_node : Made → Ty → Ty → Ker → Ker → Ker
let_of_node m a items d e = let_in m.place (let_of a items m.depth (suc m.depth)) d e

abbrev pub fold_of : Made → Ty → Ker → Ker → Ker → Ker
fold_of m a e n o = tree m.place (ty.Seq a) ker.FoldLeft (e ∷ n ∷ o ∷ []) (m.depth ∷ suc m.depth ∷ [])

-- the function from one argument to a value, under the third number of a node
abbrev pub function_of : Made → Ker → Ker → Ker
function_of m k v =
    tree m.place m.ty.now ker.FunOf (node m.place (ty.Set (type_of k)) ker.SetOf (k ∷ []) ∷ v ∷ [])
    (suc (suc m.depth) ∷ [])

abbrev pub same_truth_of : Made → Ker → Ker → Ker
same_truth_of m k l =
    node m.place ty.Bool ker.Equal (negation m.place ty.Bool k ∷ negation m.place ty.Bool l ∷ [])

abbrev pub IsItem : Made → Ker → Ker → Ker → Type 0
IsItem m k i r = (n : ℕ) × (op_at i ≡ ker.Const (value.Int (pos n))) × (r ≡ item_of m k i n)

abbrev pub IsField : Made → Ker → Ker → Ker → Type 0
IsField m k i r =
    (x : List ℕ) × (op_at i ≡ ker.Const (value.Text x)) × (r ≡ node m.place m.ty.now (ker.FieldOf x) (k ∷ []))
