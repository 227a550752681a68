-- Shapes of typed trees: each operator's row, and the fold over the tree. Source: Konnov, Kukovec and Tran,
-- "TLA+ Model Checking Made Symbolic", OOPSLA 2019, on the static bounds of cells and arenas.
use Rattle.std.specs.Prelude.{ℕ, suc, ◌+◌, Bool, true, false, ◌&&◌, List, [], ◌∷◌, map, take, drop, length, Option, None, nat_abs, slice_get, option_and_then, if◌then◌else◌}
use Rattle.tla_meaning.specs.declared.expr.Expr.{Expr, roll-Expr, out-Expr}
use Rattle.tla_meaning.specs.declared.expr.Expr.TheOpen.{Expr-F}
use Rattle.tla_meaning.specs.declared.expr.Expr.TheFolds.{fold-Expr, map-Expr}
use Rattle.tla_meaning.specs.declared.op.Op.{Op}
use Rattle.tla_meaning.specs.declared.op.Op.TheVariants as op
use Rattle.tla_meaning.specs.declared.place.Place.{Place}
use Rattle.tla_meaning.specs.Scopes.{find_last, same_text}
use Rattle.tla_meaning.specs.Symbols.{same_place}
use Rattle.tla_meaning.specs.Meaning.{Role, Plain_role, role}
use Rattle.kernel_shapes.specs.Shape.{Shape}
use Rattle.kernel_trees.specs.TypeKinds as kind
use Rattle.kernel_trees.specs.TypeKinds.{Kind}
use Rattle.kernel_shapes.specs.Rows.{Literal, no_literal, number, text, Row, a_truth, a_number, a_sum, a_difference, a_product, a_negation, a_power, a_quotient, a_remainder, a_size, a_length, a_shorter, an_enumeration, a_range, a_union, a_part, a_big_union, the_records, the_tuples, the_truths, a_map, a_function, a_choice, an_application, a_field, a_head, the_arguments, the_places, the_names, a_merge, a_single, a_record, a_tuple, a_sequence, an_append, a_concatenation, nth}
use Rattle.kernel_shapes.specs.Sized.{Extent, Sizing, Seen, seen, index_of, Family, reads, plain, binder, membership, subset_set, function_set, product_set, infinite, noted, excepts, folds, sized}

abbrev pub domain_row : Kind → Row
domain_row (kind.Fun k l) = the_arguments
domain_row (kind.Rec fs) = the_names
domain_row k = the_places

abbrev pub tuple_row : Kind → Row
tuple_row (kind.Seq k) = a_sequence
tuple_row k = a_tuple

abbrev pub exponent : Literal → ℕ
exponent (number n) = nat_abs n
exponent l = 0

-- the row of an operator: `k` is the node's type, `ks` those of its children, `e` the second child where it is a
-- literal, and `ps` says which children are right sides that go on along the path of an EXCEPT
abbrev pub family_of : Op → Kind → List Kind → Literal → List Bool → Family
family_of (op.Bool b) k ks e ps = plain a_truth no_literal
family_of (op.Int n) k ks e ps = plain (a_number n) (number n)
family_of (op.Str x) k ks e ps = plain a_truth (text x)
family_of op.If k ks e ps = plain a_choice no_literal
family_of (op.Case other) k ks e ps = plain a_choice no_literal
family_of op.In k ks e ps = membership
family_of op.NotIn k ks e ps = membership
family_of op.SubsetEq k ks e ps = membership
family_of op.Add k ks e ps = plain a_sum no_literal
family_of op.Sub k ks e ps = plain a_difference no_literal
family_of op.Mul k ks e ps = plain a_product no_literal
family_of op.Neg k ks e ps = plain a_negation no_literal
family_of op.Div k ks e ps = plain a_quotient no_literal
family_of op.Mod k ks e ps = plain a_remainder no_literal
family_of op.Pow k ks e ps = plain (a_power (exponent e)) no_literal
family_of op.Range k ks e ps = plain a_range no_literal
family_of op.SetEnum k ks e ps = plain an_enumeration no_literal
family_of op.Cup k ks e ps = plain a_union no_literal
family_of op.Cap k ks e ps = plain a_part no_literal
family_of op.Minus k ks e ps = plain a_part no_literal
family_of op.Powerset k ks e ps = subset_set
family_of op.FunSet k ks e ps = function_set
family_of (op.RecSet xs) k ks e ps = product_set (the_records xs)
family_of op.Product k ks e ps = product_set the_tuples
family_of op.BigUnion k ks e ps = plain a_big_union no_literal
family_of op.BooleanSet k ks e ps = plain the_truths no_literal
family_of op.IntSet k ks e ps = infinite
family_of op.NatSet k ks e ps = infinite
family_of op.StringSet k ks e ps = infinite
family_of op.SeqSet k ks e ps = infinite
family_of op.Cardinality k ks e ps = plain a_size no_literal
family_of op.Apply k ks e ps = plain an_application no_literal
family_of (op.Except ns) k ks e ps = excepts ns (drop 1 ps)
family_of op.Domain k ks e ps = plain (domain_row (nth kind.Truth 0 ks)) no_literal
family_of op.Merge k ks e ps = plain a_merge no_literal
family_of op.Single k ks e ps = plain a_single no_literal
family_of (op.Record xs) k ks e ps = plain (a_record xs) no_literal
family_of (op.Field x) k ks e ps = plain (a_field x) no_literal
family_of op.Tuple k ks e ps = plain (tuple_row k) no_literal
family_of op.Len k ks e ps = plain a_length no_literal
family_of op.Append k ks e ps = plain an_append no_literal
family_of op.Concat k ks e ps = plain a_concatenation no_literal
family_of op.Head k ks e ps = plain a_head no_literal
family_of op.Tail k ks e ps = plain a_shorter no_literal
family_of op.SubSeq k ks e ps = plain a_shorter no_literal
family_of op.Fold k ks e ps = folds
family_of (op.Name i primed) k ks e ps = reads
family_of (op.Bound x) k ks e ps = reads
family_of (op.Noted x) k ks e ps = noted
family_of o k ks e ps = plain a_truth no_literal

-- the same for a node with n bound names
abbrev pub family_with : Op → ℕ → Kind → List Kind → Literal → List Bool → Family
family_with op.Exists n k ks e ps = binder n a_truth
family_with op.Forall n k ks e ps = binder n a_truth
family_with op.Filter n k ks e ps = binder n a_part
family_with op.MapTo n k ks e ps = binder n (a_map n)
family_with op.Lambda n k ks e ps = binder n (a_function n)
family_with o n k ks e ps = family_of o k ks e ps

-- ---- what a node reads

abbrev pub read_shape : Op → Extent → Option Shape
read_shape (op.Name i primed) g = option_and_then (λ o. o) (slice_get (if primed then g.next else g.now) i)
read_shape (op.Bound x) g = find_last x g.bound
read_shape o g = None

-- which children stand under the bound names
abbrev pub marks_of : Role → List Bool
marks_of (Plain_role ms) = ms
marks_of r = []

-- ---- right sides that go on along the path of an EXCEPT

abbrev pub is_bound_name : List ℕ → Op → Bool
is_bound_name x (op.Bound y) = same_text x y
is_bound_name x o = false

abbrev pub is_except : Op → Bool
is_except (op.Except ns) = true
is_except o = false

abbrev pub begins_with_name : List ℕ → List Expr → Bool
begins_with_name x [] = false
begins_with_name x (e ∷ es) = is_bound_name x (out-Expr e).op

-- whether a right side of an EXCEPT at p that binds these names is the rest of a path of several indexes: an EXCEPT at
-- the same place, of what the bound name stands for. No right side of an EXCEPT in a module is an EXCEPT at its place
-- whose function is the name that the outer one binds, and a kernel tree takes a path of several indexes apart in this
-- way.
abbrev pub is_part : Place → List (List ℕ) → Expr → Bool
is_part p (x ∷ []) e =
    is_except (out-Expr e).op && (same_place p (out-Expr e).place && begins_with_name x (out-Expr e).args)
is_part p xs e = false

-- ---- a tree with the types of its nodes in preorder

-- of how many nodes a tree is, and what is computed of it by their types
pub record SizedTree : Type 0 where
  pub size : ℕ
  pub sizing : List Kind → Sizing

abbrev pub tree_sizes : List SizedTree → ℕ
tree_sizes [] = 0
tree_sizes (a ∷ as') = a.size + tree_sizes as'

abbrev pub first_kind : List Kind → Kind
first_kind [] = kind.Truth
first_kind (k ∷ ks) = k

-- the children with their types, from the types that stand behind the node's own
abbrev pub sizings : List SizedTree → List Kind → List Sizing
sizings [] ks = []
sizings (a ∷ as') ks = a.sizing (take a.size ks) ∷ sizings as' (drop a.size ks)

abbrev pub kinds_of : List SizedTree → List Kind → List Kind
kinds_of [] ks = []
kinds_of (a ∷ as') ks = first_kind ks ∷ kinds_of as' (drop a.size ks)

-- a node by its type, the types of its children, which of them are parts, and what is computed of them
abbrev pub sized_node : ℕ → Place → Op → List (List ℕ) → List Bool → Kind → List Kind → List Sizing → Sizing
sized_node w p o xs ps k ks as' g =
    let v : Seen = seen (read_shape o) (marks_of (role o (length xs))) xs as' g in
    sized w p (family_with o (length xs) k ks (index_of v.here) ps) v

-- recursion in which a node sees its children's trees beside what came of them
abbrev pub with_trees : {X : Type 0} → (Expr-F (Expr × X) → X) → Expr → Expr × X
with_trees {X = X} f = fold-Expr (Expr × X) (λ x. (roll-Expr (map-Expr (Expr × X) Expr (λ y. y.0) x), f x))

unfoldable pub recur : {X : Type 0} → (Expr-F (Expr × X) → X) → Expr → X
recur f e = (with_trees f e).1

abbrev pub tree_node : ℕ → Expr-F (Expr × SizedTree) → SizedTree
tree_node w e =
    let as' : List SizedTree = map (λ y. y.1) e.args in
    let ps : List Bool = map (λ y. is_part e.place e.binds y.0) e.args in
    record {
      size = suc (tree_sizes as');
      sizing = λ ks.
          sized_node w e.place e.op e.binds ps (first_kind ks) (kinds_of as' (drop 1 ks)) (sizings as' (drop 1 ks));
    }

-- what is computed of a typed tree: `ks` are the types of its nodes in preorder
abbrev pub tree_sized : ℕ → Expr → SizedTree
tree_sized w = recur (tree_node w)

abbrev pub shape_of_tree : ℕ → Expr → List Kind → Extent → Shape
shape_of_tree w e ks g = ((tree_sized w e).sizing ks g).shape
