-- Trees made of what was read, each construct behind its parts.
use Rattle.std.specs.Prelude.{nat_le, take, drop}
use Rattle.tla_lexer.specs.declared.token.Token.{Token}
use Rattle.tla_meaning.specs.declared.expr.Expr.{Expr}
use Rattle.tla_parser.specs.declared.items.Item.{Item}
use Rattle.tla_parser.specs.declared.items.Item.TheVariants.{Piece, Tree}
use Rattle.tla_parser.specs.declared.open.Code.{Code}
use Rattle.std.specs.Prelude.{ℕ, Bool, true, false, cond, List, Option, Some, None, length, reverse, ◌∷◌, []}
use Rattle.tla_parser.specs.Trees.{build, infix_node, prefix_node}
use Rattle.tla_parser.specs.declared.moves.Construct.{Construct}
use Rattle.tla_parser.specs.declared.open.Code.TheVariants.{Close, Infix, Part, Prefix}

-- the items are given from the last on

abbrev pub prefixed : Token → List Item → Option (List Item)
prefixed t [] = None
prefixed t (Piece u ∷ s) = None
prefixed t (Tree e ∷ s) = Some (Tree (prefix_node t e) ∷ s)

abbrev pub infixed_with : Token → Bool → Expr → List Item → Option (List Item)
infixed_with t j b [] = None
infixed_with t j b (Piece u ∷ s) = None
infixed_with t j b (Tree a ∷ s) = Some (Tree (infix_node j t a b) ∷ s)

abbrev pub infixed : Token → Bool → List Item → Option (List Item)
infixed t j [] = None
infixed t j (Piece u ∷ s) = None
infixed t j (Tree b ∷ s) = infixed_with t j b s

abbrev pub shut_form : Construct → ℕ → List Item → Option (List Item)
shut_form c n s = cond (nat_le n (length s)) (Some (Tree (build c (reverse (take n s))) ∷ drop n s)) None

abbrev pub made_one : Code → List Item → Option (List Item)
made_one (Part t) s = Some (Piece t ∷ s)
made_one (Prefix t) s = prefixed t s
made_one (Infix t j) s = infixed t j s
made_one (Close c n) s = shut_form c n s

abbrev pub made_on : Code → Option (List Item) → Option (List Item)
made_on x None = None
made_on x (Some s) = made_one x s

abbrev pub made : List Code → Option (List Item) → Option (List Item)
made [] o = o
made (x ∷ xs) o = made xs (made_on x o)

abbrev pub some_if : Bool → List Item → Option (List Item)
some_if true s = Some s
some_if false s = None
