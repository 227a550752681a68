-- What is written as an expression or as a module: operators with their operands, and forms, which are tokens and
-- operands. Source: Specifying Systems, chapter 15.
use Rattle.tla_lexer.specs.declared.token.Token.{Token as Tok}
use Rattle.std.specs.Prelude.{ℕ, Bool, true, false, cond, max, List, ◌+◌, ◌≤◌, ◌∷◌, ◌++◌, []}
use Rattle.tla_parser.specs.Forms.{FormPart, a_token, an_operand}
use Rattle.tla_parser.specs.Operators.{same_sign}
use Rattle.tla_parser.specs.Signs.{column, sign}
use Rattle.tla_parser.specs.declared.moves.Class.{Class}
use Rattle.tla_parser.specs.declared.moves.Class.TheVariants.{BareName, FoldName, Joined, Member, Other, PathName, Tuple, TupleMember}
use Rattle.tla_parser.specs.declared.moves.Construct.{Construct}
use Rattle.tla_parser.specs.declared.moves.Construct.TheVariants.{FoldUse, Instanced, NameUse, Parenthesis, TupleValue}
use Rattle.tla_parser.specs.declared.signs.Sign.{Sign}
use Rattle.tla_parser.specs.declared.signs.Sign.TheVariants.{Element, Times, Vee, Wedge}

mutual
  pub data Written : Type 0 where
    -- a form that ends in a token
    closed : Construct → Parts → Written
    -- a form that ends in an operand: an open expression or a junction list
    tailed : Construct → Parts → Written → Written
    pre : Tok → Written → Written
    bin : Written → Tok → Written → Written

  pub data Parts : Type 0 where
    start : Parts
    -- a module begins
    top : Parts
    -- a postfix form begins with its operand
    from : Written → Parts
    tok : Parts → Tok → Parts
    exp : Parts → Written → Parts

abbrev mutual
  pub tokens : Written → List Tok
  tokens (closed c ps) = tokens_of ps
  tokens (tailed c ps w) = tokens_of ps ++ tokens w
  tokens (pre p w) = p ∷ tokens w
  tokens (bin a t b) = tokens a ++ (t ∷ tokens b)

  pub tokens_of : Parts → List Tok
  tokens_of start = []
  tokens_of top = []
  tokens_of (from w) = tokens w
  tokens_of (tok ps t) = tokens_of ps ++ (t ∷ [])
  tokens_of (exp ps w) = tokens_of ps ++ tokens w

-- each token stands in column n or right of it
abbrev pub From : ℕ → List Tok → Type 0
From n [] = Unit {0}
From n (t ∷ ts) = (n ≤ column t) × From n ts

-- ---- what an operand is, as far as a form asks

-- what the operand is that a whole form makes
unfoldable pub class_of : Construct → Class
class_of NameUse = BareName
class_of FoldUse = FoldName
class_of Instanced = PathName
class_of TupleValue = Tuple
class_of _ = Other

-- what an infix operator makes of a left operand
abbrev pub member : Class → Class
member BareName = Member
member PathName = Other
member FoldName = Other
member Other = Other
member Member = Other
member (Joined s) = Other
member Tuple = TupleMember
member TupleMember = Other

unfoldable pub class_infix : Class → Sign → Class
class_infix c Element = member c
class_infix c Wedge = Joined Wedge
class_infix c Vee = Joined Vee
class_infix c Times = Joined Times
class_infix c _ = Other

-- a chain of this operator goes on with it
abbrev pub continues : Class → Sign → Bool
continues (Joined s) t = same_sign s t
continues Other t = false
continues BareName t = false
continues FoldName t = false
continues PathName t = false
continues Member t = false
continues Tuple t = false
continues TupleMember t = false

abbrev pub class : Written → Class
class (closed c ps) = class_of c
class (tailed c ps w) = Other
class (pre p w) = Other
class (bin a t b) = class_infix (class a) (sign t)

-- the parts as the templates see them
abbrev pub elements : Parts → List FormPart
elements start = []
elements top = []
elements (from w) = an_operand (class w) ∷ []
elements (tok ps t) = elements ps ++ (a_token (sign t) ∷ [])
elements (exp ps w) = elements ps ++ (an_operand (class w) ∷ [])

-- the parts are a module's, as far as they go
abbrev pub of_module : Parts → Bool
of_module start = false
of_module top = true
of_module (from w) = false
of_module (tok ps t) = of_module ps
of_module (exp ps w) = of_module ps

-- how many they are
abbrev pub parts : Parts → ℕ
parts start = 0
parts top = 0
parts (from w) = 1
parts (tok ps t) = parts ps + 1
parts (exp ps w) = parts ps + 1

-- ---- levels: a leaf is one level, and parentheses make none

unfoldable pub form_levels : Construct → ℕ → ℕ
form_levels Parenthesis n = n
form_levels Instanced n = n
form_levels _ n = n + 1

abbrev mutual
  pub levels : Written → ℕ
  levels (closed c ps) = form_levels c (deepest ps)
  levels (tailed c ps w) = max (deepest ps) (levels w) + 1
  levels (pre p w) = levels w + 1
  levels (bin a t b) = cond (continues (class a) (sign t)) (max (levels a) (levels b + 1)) (max (levels a) (levels b) + 1)

  pub deepest : Parts → ℕ
  deepest start = 0
  deepest top = 0
  deepest (from w) = levels w
  deepest (tok ps t) = deepest ps
  deepest (exp ps w) = max (deepest ps) (levels w)
