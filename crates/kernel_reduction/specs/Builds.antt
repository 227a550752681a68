-- The reduction, row by row: an expression, where its bound names have these numbers, is built as a kernel tree.
-- Source: Konnov, Kukovec and Tran, "TLA+ Model Checking Made Symbolic", OOPSLA 2019, on the reduction to KerA+.
--
-- The types of the nodes are left open. The rows that take two children apart ask for two, a literal and a bound name
-- have none, a CASE has an arm and an EXCEPT an update, and an exponent is a literal: no row speaks of other nodes. Of
-- the operators, `Use`, `Param`, `Let`, `Prime`, `Unchanged`, `Boxed` and `Angled` are gone after expansion, and
-- `Outside` is refused before.
use Rattle.std.specs.Prelude.{◌≡◌, ℕ, suc, Bool, true, false, not, ◌&&◌, nat_eq, nat_le, List, [], ◌∷◌, ◌++◌, take, drop, length, Option, Some, None, ℤ, pos}
use Rattle.std.specs.List.{list_any}
use Rattle.tla_values.specs.declared.value.Value.TheVariants as value
use Rattle.tla_meaning.specs.declared.actions.Assignable.{Assignable}
use Rattle.tla_meaning.specs.declared.expr.Expr.{Expr, out-Expr}
use Rattle.tla_meaning.specs.declared.op.Op.{Op}
use Rattle.tla_meaning.specs.declared.op.Op.TheVariants as op
use Rattle.tla_meaning.specs.declared.place.Place.{Place}
use Rattle.tla_meaning.specs.Scopes.{find_last}
use Rattle.snowcat_rows.specs.declared.types.Ty.{Ty}
use Rattle.kernel_trees.specs.declared.kernel.Ker.{Ker}
use Rattle.kernel_trees.specs.declared.kernel.KerOp.{KerOp}
use Rattle.kernel_trees.specs.declared.kernel.KerOp.TheVariants as ker
use Rattle.kernel_trees.specs.Trees.{op_of}
use Rattle.kernel_reduction.specs.Reduction.{Numbering, are_fresh, numbered, all_fresh, any_mentioned}
use Rattle.kernel_reduction.specs.Rows.{tree, node, op_at, truth, number, bound, negation, Let, implication, equivalence, single, item_by_let, small_power, large_power, Level, Change, changed, indexes, level_numbers, all_plain, except_by_let, nested_ifs, split_case, guard_of}

-- an operator of the kernel that takes the children of the one for which it stands as they are
abbrev pub is_same : KerOp → Bool
is_same (ker.Const v) = false
is_same (ker.Name i primed) = false
is_same (ker.Bound n) = false
is_same ker.Filter = false
is_same ker.MapOver = false
is_same ker.Range = false
is_same ker.FunOf = false
is_same ker.Update = false
is_same (ker.Item i) = false
is_same ker.FoldLeft = false
is_same ker.Some = false
is_same ker.Every = false
is_same ker.NoCase = false
is_same o = true

-- an operator that binds numbers, each with its set, in its last child
abbrev pub is_binder : KerOp → Bool
is_binder ker.Filter = true
is_binder ker.MapOver = true
is_binder ker.FunOf = true
is_binder ker.Some = true
is_binder ker.Every = true
is_binder o = false

-- an operator some of whose children stand in an action position where its node does: all operands, the body of `\E`,
-- the branches of IF and CASE; of IF and CASE only where a child holds a name that may be assigned
abbrev pub passes_on : Assignable → Op → List Expr → Bool
passes_on m op.And es = true
passes_on m op.Or es = true
passes_on m op.Exists es = true
passes_on m (op.Noted x) es = true
passes_on m op.If es = any_mentioned m es
passes_on m (op.Case other) es = any_mentioned m es
passes_on m o es = false

-- not the branch of OTHER alone, nor nothing
abbrev pub has_arm : List Ker → Bool
has_arm (g ∷ k ∷ ks) = true
has_arm ks = false

-- the numbers of a LET differ
abbrev pub is_let : Let → Bool
is_let l = not (nat_eq l.unread l.named)

-- the number of what is named differs also from those of the paths of an EXCEPT, and no bound name has any of these
abbrev pub is_except_let : Let → List ℕ → Numbering → Bool
is_except_let l ns ρ = (is_let l && are_fresh (l.unread ∷ l.named ∷ ns) ρ) && not (list_any (nat_eq l.named) ns)

mutual
  -- as a value, where no names are given, or in an action position where these may be assigned
  pub data Builds : Option Assignable → Numbering → Expr → Ker → Type 0 where
    at_node : (i : Option Assignable) (ρ : Numbering) (e : Expr) (k : Ker)
        → BuildsNode i ρ (out-Expr e).place (out-Expr e).op (out-Expr e).args (out-Expr e).binds k
        → Builds i ρ e k

  -- several, in order
  pub data BuildsEach : Option Assignable → Numbering → List Expr → List Ker → Type 0 where
    none_left : (i : Option Assignable) (ρ : Numbering) → BuildsEach i ρ [] []
    one_more : (i : Option Assignable) (ρ : Numbering) (e : Expr) (k : Ker) (es : List Expr) (ks : List Ker)
        → Builds i ρ e k → BuildsEach i ρ es ks → BuildsEach i ρ (e ∷ es) (k ∷ ks)

  -- the arms of a CASE that is split: each guard with its branch, and the branch of OTHER or none
  pub data BuildsArms : Assignable → Numbering → List Expr → List (Ker × Ker) → Option Ker → Type 0 where
    no_arms : (m : Assignable) (ρ : Numbering) → BuildsArms m ρ [] [] None
    other_arm : (m : Assignable) (ρ : Numbering) (e : Expr) (k : Ker)
        → Builds (Some m) ρ e k → BuildsArms m ρ (e ∷ []) [] (Some k)
    one_arm : (m : Assignable) (ρ : Numbering) (c e : Expr) (g k : Ker) (es : List Expr) (xs : List (Ker × Ker))
        (o : Option Ker)
        → Builds None ρ c g → Builds (Some m) ρ e k → BuildsArms m ρ es xs o
        → BuildsArms m ρ (c ∷ e ∷ es) ((g, k) ∷ xs) o

  -- the indexes of a path, and then its right side, in which the last number stands for what the EXCEPT binds
  pub data BuildsPath : Numbering → List ℕ → ℕ → List Expr → List Level → Ker → Type 0 where
    last_level : (ρ : Numbering) (x : List ℕ) (e f : Expr) (l : Level) (k : Ker)
        → Builds None ρ e l.index → Builds None (numbered (x ∷ []) (l.number ∷ []) ρ) f k
        → BuildsPath ρ x 1 (e ∷ f ∷ []) (l ∷ []) k
    one_level : (ρ : Numbering) (x : List ℕ) (n : ℕ) (e : Expr) (es : List Expr) (l m : Level) (ls : List Level)
        (k : Ker)
        → Builds None ρ e l.index → BuildsPath ρ x n es (m ∷ ls) k
        → BuildsPath ρ x (suc n) (e ∷ es) (l ∷ m ∷ ls) k

  -- the updates of an EXCEPT, by the numbers of their indexes
  pub data BuildsChanges : Numbering → List ℕ → List ℕ → List Expr → List Change → Type 0 where
    no_changes : (ρ : Numbering) (x : List ℕ) → BuildsChanges ρ x [] [] []
    one_change : (ρ : Numbering) (x : List ℕ) (n : ℕ) (ns : List ℕ) (es : List Expr) (u : Change) (us : List Change)
        → BuildsPath ρ x n (take (suc n) es) u.levels u.right → BuildsChanges ρ x ns (drop (suc n) es) us
        → BuildsChanges ρ x (n ∷ ns) es (u ∷ us)

  -- a node, by its place, its operator, its children and the names that it binds
  pub data BuildsNode : Option Assignable → Numbering → Place → Op → List Expr → List (List ℕ) → Ker → Type 0 where
    -- ---- literals and names
    boolean : (ρ : Numbering) (p : Place) (b : Bool) (xs : List (List ℕ)) (a : Ty)
        → BuildsNode None ρ p (op.Bool b) [] xs (node p a (ker.Const (value.Bool b)) [])
    integer : (ρ : Numbering) (p : Place) (i : ℤ) (xs : List (List ℕ)) (a : Ty)
        → BuildsNode None ρ p (op.Int i) [] xs (node p a (ker.Const (value.Int i)) [])
    text : (ρ : Numbering) (p : Place) (s : List ℕ) (xs : List (List ℕ)) (a : Ty)
        → BuildsNode None ρ p (op.Str s) [] xs (node p a (ker.Const (value.Text s)) [])
    declared : (ρ : Numbering) (p : Place) (i : ℕ) (primed : Bool) (es : List Expr) (xs : List (List ℕ)) (a : Ty)
        → BuildsNode None ρ p (op.Name i primed) es xs (node p a (ker.Name i primed) [])
    bound_name : (ρ : Numbering) (p : Place) (x : List ℕ) (n : ℕ) (xs : List (List ℕ)) (a : Ty)
        → find_last x ρ ≡ Some n
        → BuildsNode None ρ p (op.Bound x) [] xs (bound p a n)
    -- ---- the same operator
    same : (ρ : Numbering) (p : Place) (o : Op) (ko : KerOp) (es : List Expr) (xs : List (List ℕ)) (a : Ty)
        (ks : List Ker)
        → op_of ko ≡ o → is_same ko ≡ true → BuildsEach None ρ es ks
        → BuildsNode None ρ p o es xs (node p a ko ks)
    range : (ρ : Numbering) (p : Place) (es : List Expr) (xs : List (List ℕ)) (a : Ty) (k l : Ker)
        → BuildsEach None ρ es (k ∷ l ∷ [])
        → BuildsNode None ρ p op.Range es xs (node p a ker.Range (k ∷ l ∷ []))
    binder : (ρ : Numbering) (p : Place) (o : Op) (ko : KerOp) (es : List Expr) (xs : List (List ℕ)) (a : Ty)
        (ks bs : List Ker) (ns : List ℕ)
        → op_of ko ≡ o → is_binder ko ≡ true → all_fresh xs ns ρ ≡ true
        → BuildsEach None ρ (take (length xs) es) ks → BuildsEach None (numbered xs ns ρ) (drop (length xs) es) bs
        → BuildsNode None ρ p o es xs (tree p a ko (ks ++ bs) ns)
    fold : (ρ : Numbering) (p : Place) (es : List Expr) (xs : List (List ℕ)) (a : Ty) (bs ks : List Ker) (ns : List ℕ)
        → all_fresh xs ns ρ ≡ true
        → BuildsEach None (numbered xs ns ρ) (take 1 es) bs → BuildsEach None ρ (drop 1 es) ks
        → BuildsNode None ρ p op.Fold es xs (tree p a ker.FoldLeft (bs ++ ks) ns)
    noted : (i : Option Assignable) (ρ : Numbering) (p : Place) (x : List ℕ) (es : List Expr) (xs : List (List ℕ))
        (k : Ker)
        → BuildsEach i ρ es (k ∷ [])
        → BuildsNode i ρ p (op.Noted x) es xs k
    -- ---- operators by others
    assign : (ρ : Numbering) (p : Place) (es : List Expr) (xs : List (List ℕ)) (a : Ty) (ks : List Ker)
        → BuildsEach None ρ es ks
        → BuildsNode None ρ p op.Assign es xs (node p a ker.Equal ks)
    implies : (ρ : Numbering) (p : Place) (es : List Expr) (xs : List (List ℕ)) (a : Ty) (k l : Ker)
        → BuildsEach None ρ es (k ∷ l ∷ [])
        → BuildsNode None ρ p op.Implies es xs (implication p a k l)
    unequal : (ρ : Numbering) (p : Place) (es : List Expr) (xs : List (List ℕ)) (a : Ty) (ks : List Ker)
        → BuildsEach None ρ es ks
        → BuildsNode None ρ p op.Ne es xs (negation p a (node p a ker.Equal ks))
    no_member : (ρ : Numbering) (p : Place) (es : List Expr) (xs : List (List ℕ)) (a : Ty) (ks : List Ker)
        → BuildsEach None ρ es ks
        → BuildsNode None ρ p op.NotIn es xs (negation p a (node p a ker.Member ks))
    greater : (ρ : Numbering) (p : Place) (es : List Expr) (xs : List (List ℕ)) (a : Ty) (k l : Ker)
        → BuildsEach None ρ es (k ∷ l ∷ [])
        → BuildsNode None ρ p op.Gt es xs (node p a ker.Less (l ∷ k ∷ []))
    at_most : (ρ : Numbering) (p : Place) (es : List Expr) (xs : List (List ℕ)) (a : Ty) (k l : Ker)
        → BuildsEach None ρ es (k ∷ l ∷ [])
        → BuildsNode None ρ p op.Le es xs (negation p a (node p a ker.Less (l ∷ k ∷ [])))
    at_least : (ρ : Numbering) (p : Place) (es : List Expr) (xs : List (List ℕ)) (a : Ty) (ks : List Ker)
        → BuildsEach None ρ es ks
        → BuildsNode None ρ p op.Ge es xs (negation p a (node p a ker.Less ks))
    negative : (ρ : Numbering) (p : Place) (es : List Expr) (xs : List (List ℕ)) (a : Ty) (ks : List Ker)
        → BuildsEach None ρ es ks
        → BuildsNode None ρ p op.Neg es xs (node p a ker.Minus (number p a 0 ∷ ks))
    finite : (ρ : Numbering) (p : Place) (es : List Expr) (xs : List (List ℕ)) (a : Ty) (k : Ker) (n : ℕ)
        → BuildsEach None ρ es (k ∷ [])
        → BuildsNode None ρ p op.IsFinite es xs (tree p a ker.Every (k ∷ truth p a true ∷ []) (n ∷ []))
    truth_values : (ρ : Numbering) (p : Place) (xs : List (List ℕ)) (a b : Ty)
        → BuildsNode None ρ p op.BooleanSet [] xs (node p a ker.SetOf (truth p b false ∷ truth p b true ∷ []))
    equivalent : (ρ : Numbering) (p : Place) (es : List Expr) (xs : List (List ℕ)) (l : Let) (t : Ty) (k m : Ker)
        → is_let l ≡ true → BuildsEach None ρ es (k ∷ m ∷ [])
        → BuildsNode None ρ p op.Iff es xs (equivalence p l t k m)
    one_pair : (ρ : Numbering) (p : Place) (es : List Expr) (xs : List (List ℕ)) (l : Let) (t s : Ty) (z : ℕ)
        (k m : Ker)
        → is_let l ≡ true → nat_eq l.named z ≡ false → BuildsEach None ρ es (k ∷ m ∷ [])
        → BuildsNode None ρ p op.Single es xs (single p l t s z k m)
    -- ---- powers, and items and fields at a literal
    power : (ρ : Numbering) (p : Place) (es : List Expr) (xs : List (List ℕ)) (l : Let) (b : Ty) (k m : Ker) (n : ℕ)
        → is_let l ≡ true → op_at m ≡ ker.Const (value.Int (pos n)) → nat_le n 7 ≡ true →
        BuildsEach None ρ es (k ∷ m ∷ [])
        → BuildsNode None ρ p op.Pow es xs (small_power p l b k n)
    high_power : (ρ : Numbering) (p : Place) (es : List Expr) (xs : List (List ℕ)) (l : Let) (t b : Ty) (k m : Ker)
        (n : ℕ)
        → is_let l ≡ true → op_at m ≡ ker.Const (value.Int (pos n)) → nat_le n 7 ≡ false →
        BuildsEach None ρ es (k ∷ m ∷ [])
        → BuildsNode None ρ p op.Pow es xs (large_power p l t b k m n)
    field : (ρ : Numbering) (p : Place) (es : List Expr) (xs : List (List ℕ)) (a : Ty) (k m : Ker) (x : List ℕ)
        → op_at m ≡ ker.Const (value.Text x) → BuildsEach None ρ es (k ∷ m ∷ [])
        → BuildsNode None ρ p op.Apply es xs (node p a (ker.FieldOf x) (k ∷ []))
    low_item : (ρ : Numbering) (p : Place) (es : List Expr) (xs : List (List ℕ)) (a : Ty) (k m : Ker) (n : ℕ)
        → op_at m ≡ ker.Const (value.Int (pos n)) → nat_le n 7 ≡ true → BuildsEach None ρ es (k ∷ m ∷ [])
        → BuildsNode None ρ p op.Apply es xs (node p a (ker.Item n) (k ∷ []))
    high_item : (ρ : Numbering) (p : Place) (es : List Expr) (xs : List (List ℕ)) (l : Let) (t : Ty) (k m : Ker) (n : ℕ)
        → is_let l ≡ true → op_at m ≡ ker.Const (value.Int (pos n)) → nat_le n 7 ≡ false →
        BuildsEach None ρ es (k ∷ m ∷ [])
        → BuildsNode None ρ p op.Apply es xs (item_by_let p l t n k m)
    -- ---- EXCEPT: without a LET where no index but the first can have a fault
    except : (ρ : Numbering) (p : Place) (cs : List ℕ) (e : Expr) (es : List Expr) (x : List ℕ) (a : Ty) (f : Ker)
        (u : Change) (us : List Change)
        → all_plain (indexes (u ∷ us)) ≡ true → are_fresh (level_numbers (u ∷ us)) ρ ≡ true
        → Builds None ρ e f → BuildsChanges ρ x cs es (u ∷ us)
        → BuildsNode None ρ p (op.Except cs) (e ∷ es) (x ∷ []) (changed p a f (u ∷ us))
    except_let : (ρ : Numbering) (p : Place) (cs : List ℕ) (e : Expr) (es : List Expr) (x : List ℕ) (l : Let) (t : Ty)
        (f : Ker) (us : List Change)
        → is_except_let l (level_numbers us) ρ ≡ true → all_plain (indexes us) ≡ false
        → Builds None ρ e f → BuildsChanges ρ x cs es us
        → BuildsNode None ρ p (op.Except cs) (e ∷ es) (x ∷ []) (except_by_let p l t f us)
    -- ---- CASE as a value
    cases : (ρ : Numbering) (p : Place) (other : Bool) (es : List Expr) (xs : List (List ℕ)) (a : Ty) (ks : List Ker)
        → has_arm ks ≡ true → BuildsEach None ρ es ks
        → BuildsNode None ρ p (op.Case other) es xs (nested_ifs p a ks)
    -- ---- action positions
    as_value : (m : Assignable) (ρ : Numbering) (p : Place) (o : Op) (es : List Expr) (xs : List (List ℕ)) (k : Ker)
        → passes_on m o es ≡ false → BuildsNode None ρ p o es xs k
        → BuildsNode (Some m) ρ p o es xs k
    conjunction : (m : Assignable) (ρ : Numbering) (p : Place) (es : List Expr) (xs : List (List ℕ)) (a : Ty)
        (ks : List Ker)
        → BuildsEach (Some m) ρ es ks
        → BuildsNode (Some m) ρ p op.And es xs (node p a ker.And ks)
    disjunction : (m : Assignable) (ρ : Numbering) (p : Place) (es : List Expr) (xs : List (List ℕ)) (a : Ty)
        (ks : List Ker)
        → BuildsEach (Some m) ρ es ks
        → BuildsNode (Some m) ρ p op.Or es xs (node p a ker.Or ks)
    choice : (m : Assignable) (ρ : Numbering) (p : Place) (es : List Expr) (xs : List (List ℕ)) (a : Ty)
        (ks bs : List Ker) (ns : List ℕ)
        → all_fresh xs ns ρ ≡ true
        → BuildsEach None ρ (take (length xs) es) ks → BuildsEach (Some m) (numbered xs ns ρ) (drop (length xs) es) bs
        → BuildsNode (Some m) ρ p op.Exists es xs (tree p a ker.Some (ks ++ bs) ns)
    branches : (m : Assignable) (ρ : Numbering) (p : Place) (c : Expr) (es : List Expr) (xs : List (List ℕ)) (a b : Ty)
        (g k l : Ker)
        → any_mentioned m (c ∷ es) ≡ true → Builds None ρ c g → BuildsEach (Some m) ρ es (k ∷ l ∷ [])
        → BuildsNode (Some m) ρ p op.If (c ∷ es) xs (node p a ker.If (guard_of p b g ∷ k ∷ l ∷ []))
    split_cases : (m : Assignable) (ρ : Numbering) (p : Place) (other : Bool) (es : List Expr) (xs : List (List ℕ))
        (a : Ty) (ys : List (Ker × Ker)) (o : Option Ker)
        → any_mentioned m es ≡ true → BuildsArms m ρ es ys o
        → BuildsNode (Some m) ρ p (op.Case other) es xs (split_case p a ys o)
