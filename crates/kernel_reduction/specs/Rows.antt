-- The kernel trees for operators that the kernel lacks, and for CASE and the guard of IF where they are split into paths:
-- each by those of the operands. A node that is made stands at the place of the operator; one that only reads an operand
-- that is evaluated already stands at the operand's, and so does a branch that is joined with its guards.
use Rattle.std.specs.Prelude.{ℕ, zero, suc, Bool, true, false, not, ◌&&◌, ◌||◌, if◌then◌else◌, List, [], ◌∷◌, ◌++◌, map, flat_map, Option, Some, None, pos}
use Rattle.std.specs.List.{list_all}
use Rattle.tla_values.specs.Order.{Layer}
use Rattle.tla_values.specs.declared.value.Value.{Value, out-Value}
use Rattle.tla_values.specs.declared.value.Value.TheVariants as value
use Rattle.tla_values.specs.declared.value.Value.TheOpen as layer
use Rattle.tla_values.specs.Integers.{fits_width}
use Rattle.tla_meaning.specs.declared.place.Place.{Place}
use Rattle.snowcat_rows.specs.declared.types.Ty.{Ty}
use Rattle.kernel_trees.specs.declared.kernel.Ker.{Ker, out-Ker, roll-Ker}
use Rattle.kernel_trees.specs.declared.kernel.KerOp.{KerOp}
use Rattle.kernel_trees.specs.declared.kernel.KerOp.TheVariants as ker
use Rattle.kernel_trees.specs.Paths.{is_end}

-- ---- nodes

abbrev pub tree : Place → Ty → KerOp → List Ker → List ℕ → Ker
tree p a o ks xs = roll-Ker (record { place = p; ty = a; op = o; args = ks; binds = xs })

-- a node that binds nothing
abbrev pub node : Place → Ty → KerOp → List Ker → Ker
node p a o ks = tree p a o ks []

abbrev pub place_of : Ker → Place
place_of k = (out-Ker k).place

abbrev pub type_of : Ker → Ty
type_of k = (out-Ker k).ty

abbrev pub op_at : Ker → KerOp
op_at k = (out-Ker k).op

abbrev pub constant : Place → Ty → Value → Ker
constant p a v = node p a (ker.Const v) []

abbrev pub number : Place → Ty → ℕ → Ker
number p a n = constant p a (value.Int (pos n))

abbrev pub truth : Place → Ty → Bool → Ker
truth p a b = constant p a (value.Bool b)

abbrev pub bound : Place → Ty → ℕ → Ker
bound p a n = node p a (ker.Bound n) []

abbrev pub negation : Place → Ty → Ker → Ker
negation p a k = node p a ker.Not (k ∷ [])

abbrev pub item : Place → Ty → ℕ → Ker → Ker
item p a n k = node p a (ker.Item n) (k ∷ [])

abbrev pub pair : Place → Ty → Ker → Ker → Ker
pair p t k l = node p t ker.TupOf (k ∷ l ∷ [])

-- ---- literals

-- fits every width from 4 on, and so has no fault
abbrev pub is_plain_value : Layer Value → Bool
is_plain_value (layer.Bool b) = true
is_plain_value (layer.Int i) = fits_width 4 i
is_plain_value (layer.Text x) = true
is_plain_value l = false

abbrev pub is_plain_op : KerOp → Bool
is_plain_op (ker.Const v) = is_plain_value (out-Value v)
is_plain_op o = false

-- a truth value, a text, or an integer that has no fault at any width from 4 on
abbrev pub is_plain : Ker → Bool
is_plain k = is_plain_op (op_at k)

abbrev pub is_literal_op : KerOp → Bool
is_literal_op (ker.Const v) = true
is_literal_op o = false

abbrev pub is_literal : Ker → Bool
is_literal k = is_literal_op (op_at k)

-- ---- LET

-- what a LET is made of besides its two trees: the type of the whole, of sequences of it and of sequences of what is
-- named; a number that nothing reads, and that of what is named
pub record Let : Type 0 where
  pub type : Ty
  pub wholes : Ty
  pub items : Ty
  pub unread : ℕ
  pub named : ℕ

-- `LET y == d IN e`: a fold over one item, whose result is the one item of a sequence. So d is evaluated first, and
-- once.
abbrev pub let_in : Place → Let → Ker → Ker → Ker
let_in p l d e =
    let none : Ker = node p l.wholes ker.SeqOf [] in
    let body : Ker = node p l.wholes ker.Push (bound p l.wholes l.unread ∷ e ∷ []) in
    node p l.type ker.First
    (tree p l.wholes ker.FoldLeft (body ∷ none ∷ node p l.items ker.SeqOf (d ∷ []) ∷ []) (l.unread ∷ l.named ∷ []) ∷ [])

-- what is named, where that is the operand k
abbrev pub named_one : Let → Ker → Ker
named_one l k = bound (place_of k) (type_of k) l.named

-- the first and the second item of what is named, where that is a pair of type t and k is the item
abbrev pub named_first : Let → Ty → Ker → Ker
named_first l t k = item (place_of k) (type_of k) 1 (bound (place_of k) t l.named)

abbrev pub named_second : Let → Ty → Ker → Ker
named_second l t k = item (place_of k) (type_of k) 2 (bound (place_of k) t l.named)

-- ---- operators by others

-- `~(a /\ ~b)`: below a negation nothing is split into paths
abbrev pub implication : Place → Ty → Ker → Ker → Ker
implication p a k l = negation p a (node p a ker.And (k ∷ negation p a l ∷ []))

-- `LET y == <<a, b>> IN ~y[1] = ~y[2]`: both are truth values, and below a negation nothing is assigned
abbrev pub equivalence : Place → Let → Ty → Ker → Ker → Ker
equivalence p l t k m =
    let_in p l (pair p t k m)
    (node p l.type ker.Equal (negation p l.type (named_first l t k) ∷ negation p l.type (named_second l t m) ∷ []))

-- `LET y == <<a, b>> IN [z \in {y[1]} |-> y[2]]`; s is the type of the set
abbrev pub single : Place → Let → Ty → Ty → ℕ → Ker → Ker → Ker
single p l t s z k m =
    let_in p l (pair p t k m)
    (tree p l.type ker.FunOf (node p s ker.SetOf (named_first l t k ∷ []) ∷ named_second l t m ∷ []) (z ∷ []))

-- an item at a literal that may be Big: `LET y == <<t, i>> IN y[1][i]`
abbrev pub item_by_let : Place → Let → Ty → ℕ → Ker → Ker → Ker
item_by_let p l t i k m = let_in p l (pair p t k m) (item p l.type i (named_first l t k))

-- ---- powers

-- y n + 1 times
abbrev pub product : Place → Ty → Ker → ℕ → Ker
product p a y zero = y
product p a y (suc n) = node p a ker.Times (product p a y n ∷ y ∷ [])

-- z, behind a comparison of x with y whose outcome does not count: it only asks that both are numbers inside the width;
-- b is the type of truth values
abbrev pub tested : Place → Ty → Ty → Ker → Ker → Ker → Ker
tested p a b x y z = node p a ker.If (node p b ker.Less (x ∷ y ∷ []) ∷ z ∷ z ∷ [])

-- a power of y: of 0 only that y is a number is asked, of 1 also that it is inside the width; the product with 1 is
-- only compared, as it may have other bounds than y
abbrev pub power_body : Place → Ty → Ty → Ker → ℕ → Ker
power_body p a b y zero = tested p a b y y (number p a 1)
power_body p a b y (suc zero) = tested p a b (node p a ker.Times (number p a 1 ∷ y ∷ [])) y y
power_body p a b y (suc (suc n)) = product p a y (suc n)

-- `LET y == a IN ..`
abbrev pub small_power : Place → Let → Ty → Ker → ℕ → Ker
small_power p l b k n = let_in p l k (power_body p l.type b (named_one l k) n)

-- with an exponent that may be Big: `LET y == <<a, n>> IN ..`, in which y[1] stands for y
abbrev pub large_power : Place → Let → Ty → Ty → Ker → Ker → ℕ → Ker
large_power p l t b k m n = let_in p l (pair p t k m) (power_body p l.type b (named_first l t k) n)

-- ---- EXCEPT

-- an index of a path, with the number under which what stands at it is bound, and the type of that; and the type of the
-- pairs that begin with this index, or its own where it is the last
pub record Level : Type 0 where
  pub index : Ker
  pub number : ℕ
  pub inner : Ty
  pub rest : Ty

-- an update: the indexes of its path, and its right side, in which the last number stands for the old value
pub record Change : Type 0 where
  pub levels : List Level
  pub right : Ker

-- the function with a new value at the end of a path: an update in which the next index updates what stands at this one
abbrev pub changed_at : Place → Ty → Ker → List Level → Ker → Ker
changed_at p a f [] e = f
changed_at p a f (l ∷ []) e = tree p a ker.Update (f ∷ l.index ∷ e ∷ []) (l.number ∷ [])
changed_at p a f (l ∷ m ∷ ls) e =
    tree p a ker.Update (f ∷ l.index ∷ changed_at p l.inner (bound p l.inner l.number) (m ∷ ls) e ∷ []) (l.number ∷ [])

-- one update behind the other
abbrev pub changed : Place → Ty → Ker → List Change → Ker
changed p a f [] = f
changed p a f (u ∷ us) = changed p a (changed_at p a f u.levels u.right) us

abbrev pub all_levels : List Change → List Level
all_levels us = flat_map (λ u. u.levels) us

abbrev pub indexes : List Change → List Ker
indexes us = map (λ l. l.index) (all_levels us)

abbrev pub level_numbers : List Change → List ℕ
level_numbers us = map (λ l. l.number) (all_levels us)

-- no index but the first can have a fault
abbrev pub all_plain : List Ker → Bool
all_plain [] = true
all_plain (k ∷ ks) = list_all is_plain ks

-- an operand and all indexes behind it, in pairs: `<<f, <<i, j>>>>`; t is the type of the whole
abbrev pub pairs : Place → Ty → Ker → List Level → Ker
pairs p t k [] = k
pairs p t k (l ∷ ls) = pair p t k (pairs p l.rest l.index ls)

-- behind some operands of the pairs that are named; rs are the types of what follows them
abbrev pub behind : Place → Ker → List Ty → Ker
behind q y [] = y
behind q y (r ∷ rs) = behind q (item q r 2 y) rs

abbrev pub is_nil : {X : Type 0} → List X → Bool
is_nil [] = true
is_nil (x ∷ xs) = false

-- an operand of the pairs that are named: the first item of what is left, or all that is left where it is the last
abbrev pub operand_at : Let → Ty → List Ty → Bool → Ker → Ker
operand_at l t rs last k =
    let left : Ker = behind (place_of k) (bound (place_of k) t l.named) rs in
    if last then left else item (place_of k) (type_of k) 1 left

-- a literal stays what it is
abbrev pub index_at : Let → Ty → List Ty → Bool → Ker → Ker
index_at l t rs last k = if is_literal k then k else operand_at l t rs last k

-- the levels of a path, reading their indexes from the pairs; more says whether others follow behind the path
abbrev pub read_levels : Let → Ty → List Ty → Bool → List Level → List Level
read_levels l t rs more [] = []
read_levels l t rs more (x ∷ xs) =
    let here : List Ty = rs ++ x.rest ∷ [] in
    record x { index = index_at l t here (is_nil xs && not more) x.index } ∷ read_levels l t here more xs

abbrev pub read_changes : Let → Ty → List Ty → List Change → List Change
read_changes l t rs [] = []
read_changes l t rs (u ∷ us) =
    record u { levels = read_levels l t rs (not (is_nil us)) u.levels }
    ∷ read_changes l t (rs ++ map (λ x. x.rest) u.levels) us

-- all indexes are evaluated before any right side: `LET y == <<f, <<i, j>>>> IN [[y[1] EXCEPT ![y[2][1]] = a] EXCEPT
-- ![y[2][2]] = b]`; t is the type of the pairs
abbrev pub except_by_let : Place → Let → Ty → Ker → List Change → Ker
except_by_let p l t f us =
    let_in p l (pairs p t f (all_levels us)) (changed p l.type (operand_at l t [] false f) (read_changes l t [] us))

-- ---- CASE and IF

-- guards in order, each with its branch; one at the end is that of OTHER
abbrev pub nested_ifs : Place → Ty → List Ker → Ker
nested_ifs p a [] = node p a ker.NoCase []
nested_ifs p a (k ∷ []) = k
nested_ifs p a (g ∷ k ∷ ks) = node p a ker.If (g ∷ k ∷ nested_ifs p a ks ∷ [])

abbrev pub twice_negated : Place → Ty → Ker → Ker
twice_negated p a g = negation p a (negation p a g)

-- behind the guards that are FALSE: the arms, each at its branch with its own guard TRUE, and the branch of OTHER or
-- none
abbrev pub case_branches : Place → Ty → List Ker → List (Ker × Ker) → Option Ker → List Ker
case_branches p a front [] (Some o) = node (place_of o) a ker.And (map (negation p a) front ++ o ∷ []) ∷ []
case_branches p a front [] None = node p a ker.And (map (negation p a) front ++ node p a ker.NoCase [] ∷ []) ∷ []
case_branches p a front (x ∷ xs) o =
    node (place_of x.1) a ker.And (map (negation p a) front ++ twice_negated p a x.0 ∷ x.1 ∷ [])
    ∷ case_branches p a (front ++ x.0 ∷ []) xs o

-- a CASE that is split into paths
abbrev pub split_case : Place → Ty → List (Ker × Ker) → Option Ker → Ker
split_case p a xs o = node p a ker.Or (case_branches p a [] xs o)

-- the root of an equation or a membership, which could be taken for an assignment
abbrev pub may_assign : KerOp → Bool
may_assign ker.Equal = true
may_assign ker.Member = true
may_assign o = false

-- the guard of an IF that is split into paths is no assignment and no end of a path; b is the type of truth values
abbrev pub guard_of : Place → Ty → Ker → Ker
guard_of p b g = if may_assign (op_at g) || is_end (op_at g) then twice_negated p b g else g
