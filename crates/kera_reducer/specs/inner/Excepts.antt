-- The tree of an EXCEPT from those of its children, and what its making keeps.
use Rattle.std.specs.Prelude.{◌≡◌, ℕ, suc, Bool, true, false, not, ◌&&◌, nat_eq, if◌then◌else◌, List, [], ◌∷◌, ◌++◌, map, flat_map, length, take, drop, reverse, Option, Some, None, option_and_then, option_map, fold}
use Rattle.std.specs.List.{list_all}
use Rattle.kernel_trees.specs.declared.kernel.Ker.{Ker}
use Rattle.kernel_trees.specs.declared.kernel.KerOp.TheVariants as ker
use Rattle.tla_meaning.specs.declared.place.Place.{Place}
use Rattle.snowcat_rows.specs.declared.types.Ty.{Ty}
use Rattle.kera_reducer.specs.declared.excepts.Opened.{Opened}
use Rattle.kera_reducer.specs.declared.excepts.Begun.{Begun}
use Rattle.kera_reducer.specs.declared.excepts.Operands.{Operands}
use Rattle.kera_reducer.specs.declared.excepts.Pairs.{Pairs}
use Rattle.kera_reducer.specs.declared.excepts.Children.{Children}
use Rattle.kera_reducer.specs.declared.making.Made.{Made}
use Rattle.kernel_reduction.specs.Making.{pair_type, let_of, part_type, AllLead, pairs_type, RestsTyped}
use Rattle.kernel_reduction.specs.Rows.{tree, bound, pair, type_of, op_at, is_nil, Level, Change, changed, indexes, all_levels, all_plain, operand_at, index_at, except_by_let, let_in}

-- ---- an EXCEPT

-- of each update the indexes and then the right side
abbrev pub operands_of : List Change → List Ker
operands_of us = flat_map (λ u. map (λ l. l.index) u.levels ++ u.right ∷ []) us

-- so many numbers as there are levels, from one on
abbrev pub AreNumbered : ℕ → List Level → Type 0
AreNumbered n [] = Unit {0}
AreNumbered n (l ∷ ls) = (l.number ≡ n) × AreNumbered (suc n) ls

-- each path anew
abbrev pub AllNumbered : ℕ → List Change → Type 0
AllNumbered n [] = Unit {0}
AllNumbered n (u ∷ us) = AreNumbered n u.levels × AllNumbered n us

-- the function and the updates of an EXCEPT of this type with these numbers of indexes, where so many names are bound
-- around it: the levels of each path have the numbers behind two for a LET
pub record IsExcept (t : Ty) (cs : List ℕ) (n : ℕ) (ks : List Ker) (f : Ker) (us : List Change) : Type 0 where
  pub children : ks ≡ f ∷ operands_of us
  pub counts : map (λ u. length u.levels) us ≡ cs
  pub numbers : AllNumbered (suc (suc n)) us
  pub leads : AllLead t us
  pub rests : RestsTyped (all_levels us)

-- there are updates, and each has an index
abbrev pub are_paths : List ℕ → Bool
are_paths cs = not (is_nil cs) && list_all (λ c. not (nat_eq c 0)) cs

-- all indexes are evaluated before any right side, by a LET where one may have a fault
abbrev pub except_tree : Place → Ty → ℕ → Ker → List Change → Ker
except_tree p t n f us =
    if all_plain (indexes us) then changed p t f us
    else except_by_let p (let_of t (pairs_type f (all_levels us)) n (suc n)) (pairs_type f (all_levels us)) f us

-- the tree of an EXCEPT, of those of its children
pub record IsExceptOf (p : Place) (t : Ty) (cs : List ℕ) (n : ℕ) (ks : List Ker) (k : Ker) : Type 0 where
  pub function : Ker
  pub updates : List Change
  pub parts : IsExcept t cs n ks function updates
  pub counted : are_paths cs ≡ true
  pub whole : k ≡ except_tree p t n function updates

-- ---- operands in a row

-- the indexes of a path, and the right side
abbrev pub Path : Type 0
Path = List Ker × Ker

abbrev pub woven : List Path → List Ker
woven xs = flat_map (λ x. x.0 ++ x.1 ∷ []) xs

abbrev pub all_indexes : List Path → List Ker
all_indexes xs = flat_map (λ x. x.0) xs

-- so many of the first
abbrev pub IsTaken : ℕ → List Ker → List Ker → List Ker → Type 0
IsTaken n whole front rest = (whole ≡ front ++ rest) × (length front ≡ n)

-- from a stack, whose next tree is its last
abbrev pub IsPopped : ℕ → List Ker → List Ker → List Ker → Type 0
IsPopped n old front new = IsTaken n (reverse old) front (reverse new)

-- some trees, and behind them paths with so many indexes, whose indexes and right sides are these, and a rest
pub record IsSplit (cs : List ℕ) (ks fs is es rest : List Ker) : Type 0 where
  pub paths : List Path
  pub counts : map (λ x. length x.0) paths ≡ cs
  pub children : ks ≡ fs ++ (woven paths ++ rest)
  pub indexes : is ≡ all_indexes paths
  pub rights : es ≡ map (λ x. x.1) paths

-- all children of a node
abbrev pub AreChildren : List ℕ → List Ker → Children → Type 0
AreChildren cs ks c = IsSplit cs ks (c.operands.function ∷ []) c.operands.indexes.items c.rights.items []

-- paths with so many of these indexes, and with these right sides
abbrev pub paths_of : List ℕ → List Ker → List Ker → List Path
paths_of [] is es = []
paths_of (c ∷ cs) is [] = []
paths_of (c ∷ cs) is (e ∷ es) = (take c is, e) ∷ paths_of cs (drop c is) es

-- ---- updates

abbrev pub around : Place → Opened → Ker → Ker
around p o e = tree p o.ty ker.Update (o.function ∷ o.index ∷ e ∷ []) (o.number ∷ [])

abbrev pub closed : Place → List Opened → Ker → Ker
closed p [] e = e
closed p (o ∷ os) e = around p o (closed p os e)

-- what is begun before any index
abbrev pub start : Ty → ℕ → Ker → Begun
start t n f = record { outer = []; ty = t; function = f; number = n }

-- with an index more, where the type has something at it
abbrev pub begun : Place → Begun → Ker → Option Begun
begun p b k =
    option_map (λ t. record {
      outer = b.outer ++ record { ty = b.ty; function = b.function; index = k; number = b.number } ∷ [];
      ty = t;
      function = bound p t b.number;
      number = suc b.number;
    }) (part_type b.ty (op_at k))

abbrev pub begun_all : Place → Begun → List Ker → Option Begun
begun_all p b ks = fold (λ o k. option_and_then (λ c. begun p c k) o) (Some b) ks

abbrev pub changed_path : Place → Ty → ℕ → Ker → Path → Option Ker
changed_path p t n f x = option_map (λ b. closed p b.outer x.1) (begun_all p (start t n f) x.0)

abbrev pub changed_by : Place → Ty → ℕ → Ker → List Path → Option Ker
changed_by p t n f [] = Some f
changed_by p t n f (x ∷ xs) = option_and_then (λ g. changed_by p t n g xs) (changed_path p t n f x)

-- the levels of each path have the numbers behind two for a LET
abbrev pub first_level : Made → ℕ
first_level m = suc (suc m.depth)

abbrev pub IsBegun : Made → Ker → List Ker → Begun → Type 0
IsBegun m f ks b = begun_all m.place (start m.ty.now (first_level m) f) ks ≡ Some b

abbrev pub IsChangedAt : Made → Ker → Path → Ker → Type 0
IsChangedAt m f x k = changed_path m.place m.ty.now (first_level m) f x ≡ Some k

-- all updates, with these right sides
abbrev pub IsChanged : Made → List ℕ → Operands → List Ker → Ker → Type 0
IsChanged m cs o es k =
    changed_by m.place m.ty.now (first_level m) o.function (paths_of cs o.indexes.items es) ≡ Some k

-- ---- pairs

-- of an operand and what is behind it
abbrev pub pair_of : Place → Ker → Ker → Ker
pair_of p k l = pair p (pair_type (type_of k) (type_of l)) k l

abbrev pub paired : Place → Ker → List Ker → Ker
paired p k [] = k
paired p k (l ∷ ls) = pair_of p k (paired p l ls)

-- operands in pairs with what is behind them
abbrev pub onto : Place → List Ker → Ker → Ker
onto p [] l = l
onto p (k ∷ ks) l = pair_of p k (onto p ks l)

-- the type of an operand's pairs, with the type of what is behind it
abbrev pub rest_of : Ty → Option Ty → Ty
rest_of a (Some b) = pair_type a b
rest_of a None = a

-- the type of these
abbrev pub nested_type : Ker → List Ker → Ty
nested_type k [] = type_of k
nested_type k (l ∷ ls) = pair_type (type_of k) (nested_type l ls)

abbrev pub rest_types : List Ker → List Ty
rest_types [] = []
rest_types (k ∷ ks) = nested_type k ks ∷ rest_types ks

-- ---- reading from the pairs of type t that are named by n

abbrev pub read_operand : ℕ → Ty → List Ty → Bool → Ker → Ker
read_operand n t rs last k = operand_at (let_of t t n n) t rs last k

abbrev pub read_index : ℕ → Ty → List Ty → Bool → Ker → Ker
read_index n t rs last k = index_at (let_of t t n n) t rs last k

-- indexes; before are the types of the pairs that begin with those that come earlier, rs of those that begin with each
abbrev pub reads : ℕ → Ty → List Ty → List Ty → List Ker → List Ker
reads n t before [] ks = []
reads n t before (r ∷ rs) [] = []
reads n t before (r ∷ rs) (k ∷ ks) =
    read_index n t (before ++ r ∷ []) (is_nil ks) k ∷ reads n t (before ++ r ∷ []) rs ks

abbrev pub IsOperandRead : Pairs → List Ty → Bool → Ker → Ker → Type 0
IsOperandRead p rs last k r = r ≡ read_operand p.number p.ty rs last k

abbrev pub IsIndexRead : Pairs → List Ty → Bool → Ker → Ker → Type 0
IsIndexRead p rs last k r = r ≡ read_index p.number p.ty rs last k

abbrev pub AreIndexesRead : Pairs → List Ty → List Ker → List Ker → Type 0
AreIndexesRead p rs ks js = js ≡ reads p.number p.ty [] rs ks

-- the pairs of these operands, where so many names are bound around
pub record ArePairs (n : ℕ) (o : Operands) (p : Pairs) : Type 0 where
  pub type : p.ty ≡ nested_type o.function o.indexes.items
  pub rest_list : p.rests.items ≡ rest_types o.indexes.items
  pub named : p.number ≡ suc n

-- what stands for the operands where these pairs are named
pub record AreRead (p : Pairs) (o r : Operands) : Type 0 where
  pub operand : r.function ≡ read_operand p.number p.ty [] false o.function
  pub index_list : r.indexes.items ≡ reads p.number p.ty [] p.rests.items o.indexes.items

abbrev pub IsLetOfPairs : Made → Pairs → Ker → Ker → Ker → Type 0
IsLetOfPairs m p named body k = k ≡ let_in m.place (let_of m.ty.now p.ty m.depth (suc m.depth)) named body

-- all updates by a LET, of a function, indexes and right sides
abbrev pub IsByLet : Place → Ty → ℕ → List ℕ → Ker → List Ker → List Ker → Ker → Type 0
IsByLet p t n cs f is es k =
    let whole : Ty = nested_type f is in
    let read : List Ker = reads (suc n) whole [] (rest_types is) is in
    let g : Ker = read_operand (suc n) whole [] false f in
    (b : Ker) × ((changed_by p t (suc (suc n)) g (paths_of cs read es) ≡ Some b)
    × (k ≡ let_in p (let_of t whole n (suc n)) (paired p f is) b))

abbrev pub IsChangedByLet : Made → List ℕ → Operands → List Ker → Ker → Type 0
IsChangedByLet m cs o es k = IsByLet m.place m.ty.now m.depth cs o.function o.indexes.items es k

-- ---- the node

abbrev pub IsExceptMade : Made → List ℕ → List Ker → Ker → Type 0
IsExceptMade m cs ks k = IsExceptOf m.place m.ty.now cs m.depth ks k
