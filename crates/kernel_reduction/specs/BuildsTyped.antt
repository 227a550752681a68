-- The reduction, row by row, with the types that the nodes of the kernel tree carry: `Builds` over the types of a typed
-- expression, a node before its children. Source: Konnov, Kukovec and Tran, "TLA+ Model Checking Made Symbolic", OOPSLA
-- 2019, on the reduction to KerA+.
--
-- A tree is built where these types are still to be read, and those are left behind it. The root that stands for a node
-- carries the node's type; truth values and numbers that are made carry Bool and Int, pairs the types of their
-- operands, the sequences of a LET those of what they hold, and what stands at an index along the path of an EXCEPT the
-- type of that part. The numbers that are made are those of no name around; a name that an `\E` binds in an action
-- position has the number of names that have one around its binder and before it.
use Rattle.std.specs.Prelude.{◌≡◌, ℕ, suc, Bool, true, false, not, ◌&&◌, nat_eq, nat_le, List, [], ◌∷◌, ◌++◌, map, take, drop, length, Option, Some, None, ℤ, pos}
use Rattle.tla_values.specs.declared.value.Value.TheVariants as value
use Rattle.tla_meaning.specs.declared.actions.Assignable.{Assignable}
use Rattle.tla_meaning.specs.declared.expr.Expr.{Expr, out-Expr}
use Rattle.tla_meaning.specs.declared.op.Op.{Op}
use Rattle.tla_meaning.specs.declared.op.Op.TheVariants as op
use Rattle.tla_meaning.specs.declared.place.Place.{Place}
use Rattle.tla_meaning.specs.Scopes.{find_last}
use Rattle.snowcat_rows.specs.declared.types.Ty.{Ty, out-Ty}
use Rattle.snowcat_rows.specs.declared.types.Ty.TheVariants as ty
use Rattle.snowcat_rows.specs.declared.types.Ty.TheOpen as layer
use Rattle.kernel_trees.specs.declared.kernel.Ker.{Ker}
use Rattle.kernel_trees.specs.declared.kernel.KerOp.{KerOp}
use Rattle.kernel_trees.specs.declared.kernel.KerOp.TheVariants as ker
use Rattle.kernel_trees.specs.Trees.{op_of}
use Rattle.kernel_reduction.specs.Reduction.{Numbering, fresh, are_fresh, numbered, all_fresh, any_mentioned, upward}
use Rattle.kernel_reduction.specs.Builds.{is_same, is_binder, passes_on, has_arm}
use Rattle.kernel_reduction.specs.Making.{pair_type, let_of, AllLead, pairs_type, RestsTyped}
use Rattle.kernel_reduction.specs.Rows.{tree, node, op_at, type_of, truth, number, bound, negation, implication, equivalence, single, item_by_let, small_power, large_power, Level, Change, changed, all_levels, indexes, all_plain, except_by_let, nested_ifs, split_case, guard_of}

-- ---- which of several operators stands for an overloaded one

abbrev pub is_sequence : layer.Ty-F Ty → Bool
is_sequence (layer.Seq a) = true
is_sequence a = false

abbrev pub is_tuple : layer.Ty-F Ty → Bool
is_tuple (layer.Tup as') = true
is_tuple a = false

abbrev pub is_record : layer.Ty-F Ty → Bool
is_record (layer.Rec fs r) = true
is_record a = false

-- whether the first operand is neither a tuple nor a record
abbrev pub is_applied : List Ker → Bool
is_applied [] = true
is_applied (k ∷ ks) = not (is_tuple (out-Ty (type_of k))) && not (is_record (out-Ty (type_of k)))

-- by the node's own type and its operands: of a tuple, whether it is a sequence; an application of a tuple or of a record
-- has rows of its own
abbrev pub is_chosen : KerOp → Ty → List Ker → Bool
is_chosen ker.SeqOf t ks = is_sequence (out-Ty t)
is_chosen ker.TupOf t ks = not (is_sequence (out-Ty t))
is_chosen ker.At t ks = is_applied ks
is_chosen o t ks = true

mutual
  -- as a value, where no names are given, or in an action position where these may be assigned
  pub data BuildsTyped : Option Assignable → Numbering → Expr → List Ty → Ker → List Ty → Type 0 where
    at_node : (i : Option Assignable) (ρ : Numbering) (e : Expr) (t : Ty) (ts : List Ty) (k : Ker) (us : List Ty)
        → TypedNode i ρ (out-Expr e).place t (out-Expr e).op (out-Expr e).args (out-Expr e).binds ts k us
        → BuildsTyped i ρ e (t ∷ ts) k us

  -- several, in order
  pub data EachTyped : Option Assignable → Numbering → List Expr → List Ty → List Ker → List Ty → Type 0 where
    none_left : (i : Option Assignable) (ρ : Numbering) (ts : List Ty) → EachTyped i ρ [] ts [] ts
    one_more : (i : Option Assignable) (ρ : Numbering) (e : Expr) (k : Ker) (es : List Expr) (ks : List Ker)
        (ts us vs : List Ty)
        → BuildsTyped i ρ e ts k us → EachTyped i ρ es us ks vs → EachTyped i ρ (e ∷ es) ts (k ∷ ks) vs

  -- the arms of a CASE that is split: each guard with its branch, and the branch of OTHER or none
  pub data ArmsTyped : Assignable → Numbering → List Expr → List Ty → List (Ker × Ker) → Option Ker → List Ty → Type 0
    where
      no_arms : (m : Assignable) (ρ : Numbering) (ts : List Ty) → ArmsTyped m ρ [] ts [] None ts
      other_arm : (m : Assignable) (ρ : Numbering) (e : Expr) (k : Ker) (ts us : List Ty)
          → BuildsTyped (Some m) ρ e ts k us → ArmsTyped m ρ (e ∷ []) ts [] (Some k) us
      one_arm : (m : Assignable) (ρ : Numbering) (c e : Expr) (g k : Ker) (es : List Expr) (xs : List (Ker × Ker))
          (o : Option Ker) (ts us vs ws : List Ty)
          → BuildsTyped None ρ c ts g us → BuildsTyped (Some m) ρ e us k vs → ArmsTyped m ρ es vs xs o ws
          → ArmsTyped m ρ (c ∷ e ∷ es) ts ((g, k) ∷ xs) o ws

  -- so many indexes of a path, and then its right side, in which each number of the path stands for the name x, so that
  -- none is bound again, and the last one counts; ns are those so far
  pub data PathTyped : Numbering → List ℕ → List ℕ → ℕ → List Expr → List Ty → List Level → Ker → List Ty → Type 0 where
    right_side : (ρ : Numbering) (x ns : List ℕ) (e : Expr) (k : Ker) (ts us : List Ty)
        → all_fresh (map (λ n. x) ns) ns ρ ≡ true → BuildsTyped None (numbered (map (λ n. x) ns) ns ρ) e ts k us
        → PathTyped ρ x ns 0 (e ∷ []) ts [] k us
    one_level : (ρ : Numbering) (x ns : List ℕ) (n : ℕ) (e : Expr) (es : List Expr) (l : Level) (ls : List Level)
        (k : Ker) (ts us vs : List Ty)
        → BuildsTyped None ρ e ts l.index us → PathTyped ρ x (ns ++ l.number ∷ []) n es us ls k vs
        → PathTyped ρ x ns (suc n) (e ∷ es) ts (l ∷ ls) k vs

  -- the updates of an EXCEPT, by the numbers of their indexes
  pub data ChangesTyped :
      Numbering → List ℕ → List ℕ → List ℕ → List Expr → List Ty → List Change → List Ty → Type 0
    where
      no_changes : (ρ : Numbering) (x ns : List ℕ) (ts : List Ty) → ChangesTyped ρ x ns [] [] ts [] ts
      one_change : (ρ : Numbering) (x ns : List ℕ) (n : ℕ) (cs : List ℕ) (es : List Expr) (d : Change)
          (ds : List Change) (ts us vs : List Ty)
          → PathTyped ρ x ns (suc n) (take (suc (suc n)) es) ts d.levels d.right us
          → ChangesTyped ρ x ns cs (drop (suc (suc n)) es) us ds vs
          → ChangesTyped ρ x ns (suc n ∷ cs) es ts (d ∷ ds) vs

  -- a node, by its place, its type, its operator, its children and the names that it binds
  pub data TypedNode :
      Option Assignable → Numbering → Place → Ty → Op → List Expr → List (List ℕ) → List Ty → Ker → List Ty → Type 0
    where
      -- ---- literals and names
      boolean : (ρ : Numbering) (p : Place) (t : Ty) (b : Bool) (xs : List (List ℕ)) (ts : List Ty)
          → TypedNode None ρ p t (op.Bool b) [] xs ts (node p t (ker.Const (value.Bool b)) []) ts
      integer : (ρ : Numbering) (p : Place) (t : Ty) (i : ℤ) (xs : List (List ℕ)) (ts : List Ty)
          → TypedNode None ρ p t (op.Int i) [] xs ts (node p t (ker.Const (value.Int i)) []) ts
      text : (ρ : Numbering) (p : Place) (t : Ty) (s : List ℕ) (xs : List (List ℕ)) (ts : List Ty)
          → TypedNode None ρ p t (op.Str s) [] xs ts (node p t (ker.Const (value.Text s)) []) ts
      declared : (ρ : Numbering) (p : Place) (t : Ty) (i : ℕ) (primed : Bool) (xs : List (List ℕ)) (ts : List Ty)
          → TypedNode None ρ p t (op.Name i primed) [] xs ts (node p t (ker.Name i primed) []) ts
      bound_name : (ρ : Numbering) (p : Place) (t : Ty) (x : List ℕ) (n : ℕ) (xs : List (List ℕ)) (ts : List Ty)
          → find_last x ρ ≡ Some n
          → TypedNode None ρ p t (op.Bound x) [] xs ts (bound p t n) ts
      -- ---- the same operator
      same : (ρ : Numbering) (p : Place) (t : Ty) (o : Op) (ko : KerOp) (es : List Expr) (xs : List (List ℕ))
          (ks : List Ker) (ts us : List Ty)
          → op_of ko ≡ o → is_same ko ≡ true → is_chosen ko t ks ≡ true → EachTyped None ρ es ts ks us
          → TypedNode None ρ p t o es xs ts (node p t ko ks) us
      range : (ρ : Numbering) (p : Place) (t : Ty) (es : List Expr) (xs : List (List ℕ)) (k l : Ker) (ts us : List Ty)
          → EachTyped None ρ es ts (k ∷ l ∷ []) us
          → TypedNode None ρ p t op.Range es xs ts (node p t ker.Range (k ∷ l ∷ [])) us
      binder : (ρ : Numbering) (p : Place) (t : Ty) (o : Op) (ko : KerOp) (es : List Expr) (xs : List (List ℕ))
          (ks bs : List Ker) (ns : List ℕ) (ts us vs : List Ty)
          → op_of ko ≡ o → is_binder ko ≡ true → all_fresh xs ns ρ ≡ true
          → EachTyped None ρ (take (length xs) es) ts ks us
          → EachTyped None (numbered xs ns ρ) (drop (length xs) es) us bs vs
          → TypedNode None ρ p t o es xs ts (tree p t ko (ks ++ bs) ns) vs
      fold : (ρ : Numbering) (p : Place) (t : Ty) (es : List Expr) (xs : List (List ℕ)) (bs ks : List Ker) (ns : List ℕ)
          (ts us vs : List Ty)
          → all_fresh xs ns ρ ≡ true
          → EachTyped None (numbered xs ns ρ) (take 1 es) ts bs us → EachTyped None ρ (drop 1 es) us ks vs
          → TypedNode None ρ p t op.Fold es xs ts (tree p t ker.FoldLeft (bs ++ ks) ns) vs
      noted : (i : Option Assignable) (ρ : Numbering) (p : Place) (t : Ty) (x : List ℕ) (es : List Expr)
          (xs : List (List ℕ)) (k : Ker) (ts us : List Ty)
          → EachTyped i ρ es ts (k ∷ []) us
          → TypedNode i ρ p t (op.Noted x) es xs ts k us
      -- ---- operators by others
      assign : (ρ : Numbering) (p : Place) (t : Ty) (es : List Expr) (xs : List (List ℕ)) (ks : List Ker)
          (ts us : List Ty)
          → EachTyped None ρ es ts ks us
          → TypedNode None ρ p t op.Assign es xs ts (node p ty.Bool ker.Equal ks) us
      implies : (ρ : Numbering) (p : Place) (t : Ty) (es : List Expr) (xs : List (List ℕ)) (k l : Ker) (ts us : List Ty)
          → EachTyped None ρ es ts (k ∷ l ∷ []) us
          → TypedNode None ρ p t op.Implies es xs ts (implication p ty.Bool k l) us
      unequal : (ρ : Numbering) (p : Place) (t : Ty) (es : List Expr) (xs : List (List ℕ)) (ks : List Ker)
          (ts us : List Ty)
          → EachTyped None ρ es ts ks us
          → TypedNode None ρ p t op.Ne es xs ts (negation p ty.Bool (node p ty.Bool ker.Equal ks)) us
      no_member : (ρ : Numbering) (p : Place) (t : Ty) (es : List Expr) (xs : List (List ℕ)) (ks : List Ker)
          (ts us : List Ty)
          → EachTyped None ρ es ts ks us
          → TypedNode None ρ p t op.NotIn es xs ts (negation p ty.Bool (node p ty.Bool ker.Member ks)) us
      greater : (ρ : Numbering) (p : Place) (t : Ty) (es : List Expr) (xs : List (List ℕ)) (k l : Ker) (ts us : List Ty)
          → EachTyped None ρ es ts (k ∷ l ∷ []) us
          → TypedNode None ρ p t op.Gt es xs ts (node p ty.Bool ker.Less (l ∷ k ∷ [])) us
      at_most : (ρ : Numbering) (p : Place) (t : Ty) (es : List Expr) (xs : List (List ℕ)) (k l : Ker) (ts us : List Ty)
          → EachTyped None ρ es ts (k ∷ l ∷ []) us
          → TypedNode None ρ p t op.Le es xs ts (negation p ty.Bool (node p ty.Bool ker.Less (l ∷ k ∷ []))) us
      at_least : (ρ : Numbering) (p : Place) (t : Ty) (es : List Expr) (xs : List (List ℕ)) (ks : List Ker)
          (ts us : List Ty)
          → EachTyped None ρ es ts ks us
          → TypedNode None ρ p t op.Ge es xs ts (negation p ty.Bool (node p ty.Bool ker.Less ks)) us
      negative : (ρ : Numbering) (p : Place) (t : Ty) (es : List Expr) (xs : List (List ℕ)) (k : Ker) (ts us : List Ty)
          → EachTyped None ρ es ts (k ∷ []) us
          → TypedNode None ρ p t op.Neg es xs ts (node p ty.Int ker.Minus (number p ty.Int 0 ∷ k ∷ [])) us
      finite : (ρ : Numbering) (p : Place) (t : Ty) (es : List Expr) (xs : List (List ℕ)) (k : Ker) (n : ℕ)
          (ts us : List Ty)
          → fresh n ρ ≡ true → EachTyped None ρ es ts (k ∷ []) us
          → TypedNode None ρ p t op.IsFinite es xs ts
          (tree p ty.Bool ker.Every (k ∷ truth p ty.Bool true ∷ []) (n ∷ [])) us
      truth_values : (ρ : Numbering) (p : Place) (t : Ty) (xs : List (List ℕ)) (ts : List Ty)
          → TypedNode None ρ p t op.BooleanSet [] xs ts
          (node p t ker.SetOf (truth p ty.Bool false ∷ truth p ty.Bool true ∷ [])) ts
      equivalent : (ρ : Numbering) (p : Place) (t : Ty) (es : List Expr) (xs : List (List ℕ)) (u n : ℕ) (k m : Ker)
          (ts us : List Ty)
          → not (nat_eq u n) ≡ true → are_fresh (u ∷ n ∷ []) ρ ≡ true → EachTyped None ρ es ts (k ∷ m ∷ []) us
          → TypedNode None ρ p t op.Iff es xs ts
          (equivalence p (let_of ty.Bool (pair_type (type_of k) (type_of m)) u n) (pair_type (type_of k) (type_of m)) k m)
          us
      one_pair : (ρ : Numbering) (p : Place) (t : Ty) (es : List Expr) (xs : List (List ℕ)) (u n z : ℕ) (k m : Ker)
          (ts us : List Ty)
          → not (nat_eq u n) ≡ true → are_fresh (u ∷ n ∷ z ∷ []) ρ ≡ true →
          (nat_eq u z ≡ false) × (nat_eq n z ≡ false) → EachTyped None ρ es ts (k ∷ m ∷ []) us
          → TypedNode None ρ p t op.Single es xs ts
          (single p (let_of t (pair_type (type_of k) (type_of m)) u n) (pair_type (type_of k) (type_of m))
          (ty.Set (type_of k)) z k m) us
      -- ---- powers, and items and fields at a literal
      power : (ρ : Numbering) (p : Place) (t : Ty) (es : List Expr) (xs : List (List ℕ)) (u n : ℕ) (k m : Ker) (j : ℕ)
          (ts us : List Ty)
          → not (nat_eq u n) ≡ true → are_fresh (u ∷ n ∷ []) ρ ≡ true → op_at m ≡ ker.Const (value.Int (pos j)) → nat_le j 7 ≡ true →
          EachTyped None ρ es ts (k ∷ m ∷ []) us
          → TypedNode None ρ p t op.Pow es xs ts (small_power p (let_of t (type_of k) u n) ty.Bool k j) us
      high_power : (ρ : Numbering) (p : Place) (t : Ty) (es : List Expr) (xs : List (List ℕ)) (u n : ℕ) (k m : Ker)
          (j : ℕ) (ts us : List Ty)
          → not (nat_eq u n) ≡ true → are_fresh (u ∷ n ∷ []) ρ ≡ true → op_at m ≡ ker.Const (value.Int (pos j)) → nat_le j 7 ≡ false →
          EachTyped None ρ es ts (k ∷ m ∷ []) us
          → TypedNode None ρ p t op.Pow es xs ts
          (large_power p (let_of t (pair_type (type_of k) (type_of m)) u n) (pair_type (type_of k) (type_of m)) ty.Bool k m
          j) us
      field : (ρ : Numbering) (p : Place) (t : Ty) (es : List Expr) (xs : List (List ℕ)) (k m : Ker) (x : List ℕ)
          (ts us : List Ty)
          → is_record (out-Ty (type_of k)) ≡ true → op_at m ≡ ker.Const (value.Text x) →
          EachTyped None ρ es ts (k ∷ m ∷ []) us
          → TypedNode None ρ p t op.Apply es xs ts (node p t (ker.FieldOf x) (k ∷ [])) us
      low_item : (ρ : Numbering) (p : Place) (t : Ty) (es : List Expr) (xs : List (List ℕ)) (k m : Ker) (j : ℕ)
          (ts us : List Ty)
          → is_tuple (out-Ty (type_of k)) ≡ true → op_at m ≡ ker.Const (value.Int (pos j)) → nat_le j 7 ≡ true →
          EachTyped None ρ es ts (k ∷ m ∷ []) us
          → TypedNode None ρ p t op.Apply es xs ts (node p t (ker.Item j) (k ∷ [])) us
      high_item : (ρ : Numbering) (p : Place) (t : Ty) (es : List Expr) (xs : List (List ℕ)) (u n : ℕ) (k m : Ker) (j : ℕ)
          (ts us : List Ty)
          → not (nat_eq u n) ≡ true → are_fresh (u ∷ n ∷ []) ρ ≡ true → is_tuple (out-Ty (type_of k)) ≡ true →
          op_at m ≡ ker.Const (value.Int (pos j)) → nat_le j 7 ≡ false → EachTyped None ρ es ts (k ∷ m ∷ []) us
          → TypedNode None ρ p t op.Apply es xs ts
          (item_by_let p (let_of t (pair_type (type_of k) (type_of m)) u n) (pair_type (type_of k) (type_of m)) j k m) us
      -- ---- EXCEPT: without a LET where no index but the first can have a fault; each node has two numbers for a LET
      except : (ρ : Numbering) (p : Place) (t : Ty) (cs : List ℕ) (e : Expr) (es : List Expr) (x : List ℕ) (u n : ℕ)
          (f : Ker) (d : Change) (ds : List Change) (ts us vs : List Ty)
          → all_plain (indexes (d ∷ ds)) ≡ true → AllLead t (d ∷ ds)
          → BuildsTyped None ρ e ts f us → ChangesTyped ρ x (u ∷ n ∷ []) cs es us (d ∷ ds) vs
          → TypedNode None ρ p t (op.Except cs) (e ∷ es) (x ∷ []) ts (changed p t f (d ∷ ds)) vs
      except_let : (ρ : Numbering) (p : Place) (t : Ty) (cs : List ℕ) (e : Expr) (es : List Expr) (x : List ℕ)
          (u n : ℕ) (f : Ker) (ds : List Change) (ts us vs : List Ty)
          → all_plain (indexes ds) ≡ false → AllLead t ds → RestsTyped (all_levels ds)
          → BuildsTyped None ρ e ts f us → ChangesTyped ρ x (u ∷ n ∷ []) cs es us ds vs
          → TypedNode None ρ p t (op.Except cs) (e ∷ es) (x ∷ []) ts
          (except_by_let p (let_of t (pairs_type f (all_levels ds)) u n) (pairs_type f (all_levels ds)) f ds) vs
      -- ---- CASE as a value
      cases : (ρ : Numbering) (p : Place) (t : Ty) (other : Bool) (es : List Expr) (xs : List (List ℕ)) (ks : List Ker)
          (ts us : List Ty)
          → has_arm ks ≡ true → EachTyped None ρ es ts ks us
          → TypedNode None ρ p t (op.Case other) es xs ts (nested_ifs p t ks) us
      -- ---- action positions
      as_value : (m : Assignable) (ρ : Numbering) (p : Place) (t : Ty) (o : Op) (es : List Expr) (xs : List (List ℕ))
          (k : Ker) (ts us : List Ty)
          → passes_on m o es ≡ false → TypedNode None ρ p t o es xs ts k us
          → TypedNode (Some m) ρ p t o es xs ts k us
      conjunction : (m : Assignable) (ρ : Numbering) (p : Place) (t : Ty) (es : List Expr) (xs : List (List ℕ))
          (ks : List Ker) (ts us : List Ty)
          → EachTyped (Some m) ρ es ts ks us
          → TypedNode (Some m) ρ p t op.And es xs ts (node p ty.Bool ker.And ks) us
      disjunction : (m : Assignable) (ρ : Numbering) (p : Place) (t : Ty) (es : List Expr) (xs : List (List ℕ))
          (ks : List Ker) (ts us : List Ty)
          → EachTyped (Some m) ρ es ts ks us
          → TypedNode (Some m) ρ p t op.Or es xs ts (node p ty.Bool ker.Or ks) us
      choice : (m : Assignable) (ρ : Numbering) (p : Place) (t : Ty) (es : List Expr) (xs : List (List ℕ))
          (ks bs : List Ker) (ns : List ℕ) (ts us vs : List Ty)
          → all_fresh xs ns ρ ≡ true → ns ≡ upward (length ρ) (length xs)
          → EachTyped None ρ (take (length xs) es) ts ks us
          → EachTyped (Some m) (numbered xs ns ρ) (drop (length xs) es) us bs vs
          → TypedNode (Some m) ρ p t op.Exists es xs ts (tree p ty.Bool ker.Some (ks ++ bs) ns) vs
      branches : (m : Assignable) (ρ : Numbering) (p : Place) (t : Ty) (c : Expr) (es : List Expr) (xs : List (List ℕ))
          (g k l : Ker) (ts us vs : List Ty)
          → any_mentioned m (c ∷ es) ≡ true → BuildsTyped None ρ c ts g us → EachTyped (Some m) ρ es us (k ∷ l ∷ []) vs
          → TypedNode (Some m) ρ p t op.If (c ∷ es) xs ts (node p ty.Bool ker.If (guard_of p ty.Bool g ∷ k ∷ l ∷ [])) vs
      split_cases : (m : Assignable) (ρ : Numbering) (p : Place) (t : Ty) (other : Bool) (es : List Expr)
          (xs : List (List ℕ)) (ys : List (Ker × Ker)) (o : Option Ker) (ts us : List Ty)
          → any_mentioned m es ≡ true → ArmsTyped m ρ es ts ys o us
          → TypedNode (Some m) ρ p t (op.Case other) es xs ts (split_case p ty.Bool ys o) us
