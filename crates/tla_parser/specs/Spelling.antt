-- The tree of what is written. Source: Specifying Systems, chapters 15 and 16.
use Rattle.tla_meaning.specs.declared.expr.Expr.{Expr}
use Rattle.tla_parser.specs.declared.items.Item.{Item}
use Rattle.tla_parser.specs.declared.items.Item.TheVariants.{Piece, Tree}
use Rattle.std.specs.Prelude.{List, ◌∷◌, ◌++◌, []}
use Rattle.tla_parser.specs.Signs.{sign}
use Rattle.tla_parser.specs.Trees.{build, infix_node, prefix_node}
use Rattle.tla_parser.specs.Written.{Parts, Written, bin, class, closed, continues, exp, from, pre, start, tailed, tok, top}

abbrev mutual
  pub tree : Written → Expr
  tree (closed c ps) = build c (items ps)
  tree (tailed c ps w) = build c (items ps ++ (Tree (tree w) ∷ []))
  tree (pre p w) = prefix_node p (tree w)
  tree (bin a t b) = infix_node (continues (class a) (sign t)) t (tree a) (tree b)

  -- the tokens and the operands of a form, in their order
  pub items : Parts → List Item
  items start = []
  items top = []
  items (from w) = Tree (tree w) ∷ []
  items (tok ps t) = items ps ++ (Piece t ∷ [])
  items (exp ps w) = items ps ++ (Tree (tree w) ∷ [])
