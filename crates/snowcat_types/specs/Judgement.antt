-- That a tree has types: the rules of a type system, one for each row of the table. Source: the Apalache manual,
-- "Type System 1.2".
use Rattle.std.specs.Prelude.{ℕ, ◌+◌, List, [], ◌∷◌, ◌++◌, map, length}
use Rattle.tla_meaning.specs.declared.expr.Expr.{Expr, out-Expr}
use Rattle.tla_meaning.specs.declared.expr.Expr.TheOpen.{Expr-F}
use Rattle.tla_meaning.specs.declared.expr.Expr.TheFolds.{fold-Expr}
use Rattle.snowcat_rows.specs.Types.{Term}
use Rattle.snowcat_rows.specs.Substitutions.{Sub}
use Rattle.snowcat_types.specs.declared.waiting.Wait.{Wait}
use Rattle.snowcat_types.specs.Rows.{Operand, Signature, Context, with_bound, row_of}
use Rattle.snowcat_types.specs.declared.kinds.Kind.{Kind}
use Rattle.snowcat_types.specs.Requirements.{MeetAll}
use Rattle.snowcat_types.specs.Waiting.{Sight, literal_of, choice, waiting}
use Rattle.snowcat_types.specs.Systems.{fields_asked}
use Rattle.snowcat_types.specs.Typings.{Each}

-- what the node above sees of a tree
abbrev pub sight_of : Expr → Sight
sight_of = fold-Expr Sight (λ x. record { place = x.place; literal = literal_of x.op x.args })

-- some choice of the waiting node is met
abbrev pub HasChoice : Sub → Wait → Type 0
HasChoice s w = (k : Kind) × MeetAll s (choice w k)

abbrev pub joined_types : List (List Term) → List Term
joined_types [] = []
joined_types (ts ∷ tss) = ts ++ joined_types tss

-- what the row of the root says of some types, which are numbered from v on
abbrev pub row_at_root : Context → Expr → ℕ → Sub → Signature
row_at_root c e v s =
    let x : Expr-F Expr = out-Expr e in (row_of c x.op x.binds (length x.args)).says (λ k. s.type_of (v + k))

abbrev pub waiting_at_root : Expr → ℕ → List Wait
waiting_at_root e v = let x : Expr-F Expr = out-Expr e in waiting x.place x.op v (map sight_of x.args)

mutual
  -- the nodes of the tree have these types, a node before its children: some types make a row of the node's
  -- operator, with a field and a choice where the operator has one, whose result is the node's type and whose
  -- operands' types are those of the children, each in the names that the node binds in it
  pub data HasTypes : Context → Expr → List Term → Type 0 where
    by_row : (c : Context) (e : Expr) (v : ℕ) (s : Sub) (tss : List (List Term))
        → HaveTypes c (out-Expr e).args (row_at_root c e v s).operands tss
        → MeetAll s (fields_asked (out-Expr e).op v)
        → Each (HasChoice s) (waiting_at_root e v)
        → HasTypes c e ((row_at_root c e v s).result ∷ joined_types tss)

  -- of several trees; the first of a tree's types is that of its operand, and beyond the operands it is any
  pub data HaveTypes : Context → List Expr → List Operand → List (List Term) → Type 0 where
    none_more : (c : Context) (os : List Operand) → HaveTypes c [] os []
    one_more : (c : Context) (e : Expr) (es : List Expr) (o : Operand) (os : List Operand)
        (ts : List Term) (tss : List (List Term))
        → HasTypes (with_bound o.under c) e (o.type ∷ ts) → HaveTypes c es os tss
        → HaveTypes c (e ∷ es) (o ∷ os) ((o.type ∷ ts) ∷ tss)
    another : (c : Context) (e : Expr) (es : List Expr) (ts : List Term) (tss : List (List Term))
        → HasTypes c e ts → HaveTypes c es [] tss → HaveTypes c (e ∷ es) [] (ts ∷ tss)
