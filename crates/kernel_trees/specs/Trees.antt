-- Kernel trees, and what they mean: each stands for an expression of the language, and means what that means. Source:
-- Konnov, Kukovec and Tran, "TLA+ Model Checking Made Symbolic", OOPSLA 2019, on the language KerA+.
use Rattle.std.specs.Prelude.{ℕ, false, List, [], ◌∷◌, ◌++◌, map, take, pos}
use Rattle.tla_values.specs.Order.{Layer}
use Rattle.tla_values.specs.declared.value.Value.{Value, out-Value}
use Rattle.tla_values.specs.declared.value.Value.TheOpen as layer
use Rattle.tla_meaning.specs.declared.actions.Assignable.{Assignable}
use Rattle.tla_meaning.specs.declared.actions.Effect.{Effect}
use Rattle.tla_meaning.specs.declared.expr.Expr.{Expr, roll-Expr}
use Rattle.tla_meaning.specs.declared.op.Op.{Op}
use Rattle.tla_meaning.specs.declared.op.Op.TheVariants as op
use Rattle.tla_meaning.specs.declared.place.Place.{Place}
use Rattle.tla_meaning.specs.declared.job.State.{State}
use Rattle.tla_meaning.specs.declared.outcome.Outcome.{Outcome}
use Rattle.tla_meaning.specs.Numbers.{Width}
use Rattle.tla_meaning.specs.Forms.{Formed}
use Rattle.tla_meaning.specs.Scopes.{Scope}
use Rattle.tla_meaning.specs.Actions.{meaning, val}
use Rattle.kernel_trees.specs.declared.kernel.Ker.{Ker, roll-Ker}
use Rattle.kernel_trees.specs.declared.kernel.Ker.TheOpen.{Ker-F}
use Rattle.kernel_trees.specs.declared.kernel.Ker.TheFolds.{fold-Ker, map-Ker}
use Rattle.kernel_trees.specs.declared.kernel.KerOp.{KerOp}
use Rattle.kernel_trees.specs.declared.kernel.KerOp.TheVariants as ker

-- recursion in which a node sees its children's trees beside what came of them
abbrev pub with_trees : {X : Type 0} → (Ker-F (Ker × X) → X) → Ker → Ker × X
with_trees {X = X} f = fold-Ker (Ker × X) (λ x. (roll-Ker (map-Ker (Ker × X) Ker (λ y. y.0) x), f x))

unfoldable pub recur : {X : Type 0} → (Ker-F (Ker × X) → X) → Ker → X
recur f k = (with_trees f k).1

-- the name that a bound number stands for
abbrev pub number_name : ℕ → List ℕ
number_name n = n ∷ []

abbrev pub names_of : List ℕ → List (List ℕ)
names_of xs = map number_name xs

-- a constant is a truth value, an integer or a text; any other is Wrong, as a CASE without arms
abbrev pub constant : Layer Value → Op
constant (layer.Bool b) = op.Bool b
constant (layer.Int i) = op.Int i
constant (layer.Text a) = op.Str a
constant v = op.Case false

-- the operator for which one of the kernel stands
abbrev pub op_of : KerOp → Op
op_of (ker.Const v) = constant (out-Value v)
op_of (ker.Name i primed) = op.Name i primed
op_of (ker.Bound n) = op.Bound (number_name n)
op_of ker.And = op.And
op_of ker.Or = op.Or
op_of ker.Not = op.Not
op_of ker.If = op.If
op_of ker.Equal = op.Eq
op_of ker.Less = op.Lt
op_of ker.Plus = op.Add
op_of ker.Minus = op.Sub
op_of ker.Times = op.Mul
op_of ker.Quotient = op.Div
op_of ker.Remainder = op.Mod
op_of ker.SetOf = op.SetEnum
op_of ker.Member = op.In
op_of ker.Included = op.SubsetEq
op_of ker.Filter = op.Filter
op_of ker.MapOver = op.MapTo
op_of ker.Flatten = op.BigUnion
op_of ker.Union = op.Cup
op_of ker.Inter = op.Cap
op_of ker.Without = op.Minus
op_of ker.Range = op.Range
op_of ker.Subsets = op.Powerset
op_of ker.Functions = op.FunSet
op_of ker.Count = op.Cardinality
op_of ker.FunOf = op.Lambda
op_of ker.At = op.Apply
op_of ker.Update = op.Except (1 ∷ [])
op_of ker.Domain = op.Domain
op_of ker.Join = op.Merge
op_of ker.TupOf = op.Tuple
op_of (ker.Item i) = op.Apply
op_of (ker.RecOf names) = op.Record names
op_of (ker.FieldOf name) = op.Field name
op_of ker.SeqOf = op.Tuple
op_of ker.Length = op.Len
op_of ker.Push = op.Append
op_of ker.First = op.Head
op_of ker.Rest = op.Tail
op_of ker.Slice = op.SubSeq
op_of ker.Glue = op.Concat
op_of ker.FoldLeft = op.Fold
op_of ker.Some = op.Exists
op_of ker.Every = op.Forall
op_of ker.NoCase = op.Case false
op_of ker.IntForm = op.IntSet
op_of ker.NatForm = op.NatSet
op_of ker.TextForm = op.StringSet
op_of ker.SeqForm = op.SeqSet
op_of (ker.RecForm names) = op.RecSet names
op_of ker.TupForm = op.Product

abbrev pub literal : Place → ℕ → Expr
literal p i = roll-Expr (record { place = p; op = op.Int (pos i); args = []; binds = [] })

-- the operands: an item has its number as a literal, a range may carry its bounds, which are not read, and a constant and
-- no case have none, whatever stands below them
abbrev pub operands : KerOp → Place → List Expr → List Expr
operands (ker.Const v) p es = []
operands ker.NoCase p es = []
operands (ker.Item i) p es = es ++ literal p i ∷ []
operands ker.Range p es = take 2 es
operands o p es = es

abbrev pub expr_of : Ker-F Expr → Expr
expr_of x = roll-Expr (record {
  place = x.place;
  op = op_of x.op;
  args = operands x.op x.place x.args;
  binds = names_of x.binds;
})

-- the expression for which a tree stands
unfoldable pub as_expr : Ker → Expr
as_expr = fold-Ker Expr expr_of

-- what a tree gives
abbrev pub ker_val : Width → Ker → Scope → State → State → Outcome
ker_val w k sc s t = val w (as_expr k) sc s t

-- as the right side of a membership
abbrev pub ker_form : Width → Ker → Scope → State → State → Formed
ker_form w k sc s t = (meaning w (as_expr k) sc).form s t

-- in an action position
abbrev pub ker_effect : Width → Assignable → Ker → Scope → State → State → Effect
ker_effect w m k sc s t = (meaning w (as_expr k) sc).act m s t
