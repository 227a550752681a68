-- Expressions and modules token by token, by the parser's table, and what the parser reads of them.
use Rattle.tla_lexer.specs.declared.token.Token.{Token as Tok}
use Rattle.std.specs.Prelude.{ℕ, suc, Bool, true, false, List, ◌≡◌, ◌+◌, ◌<◌, ◌⊎◌, ◌∷◌, ◌++◌, []}
use Rattle.tla_parser.specs.Operators.{after, hi, is_prefix, lo, prefix_hi, prefix_lo, same}
use Rattle.tla_parser.specs.Rules.{Above}
use Rattle.tla_parser.specs.Signs.{column, sign}
use Rattle.tla_parser.specs.Written.{From, Parts, Written, bin, class, closed, continues, exp, from, of_module, parts, pre, start, tailed, tok, tokens, top}
use Rattle.tla_parser.specs.declared.moves.Class.{Class}
use Rattle.tla_parser.specs.declared.moves.Construct.{Construct}
use Rattle.tla_parser.specs.declared.moves.Construct.TheVariants.{Junction}
use Rattle.tla_parser.specs.declared.moves.Mark.{Mark}
use Rattle.tla_parser.specs.declared.moves.Mark.TheVariants.{AtTop, Bullets, Finished}
use Rattle.tla_parser.specs.declared.moves.Next.{Next}
use Rattle.tla_parser.specs.declared.moves.Next.TheVariants.{Fail, Last, Reads, Shut, Wants}
use Rattle.tla_parser.specs.declared.moves.Seen.{Seen}
use Rattle.tla_parser.specs.declared.open.Code.{Code}
use Rattle.tla_parser.specs.declared.open.Code.TheVariants.{Close, Infix, Part, Prefix}
use Rattle.tla_parser.specs.declared.signs.Role.TheVariants.{InfixRole, PostfixRole}
use Rattle.tla_parser.specs.inner.Moves.{Point, begin, behind_op, ends_as, filled, hungry, moved, off, reading}

abbrev pub look : Tok → Seen
look t = record { sign = sign t; column = column t }

unfoldable pub delta : Point → Tok → Next
delta p t = moved p (look t)

abbrev pub resumed : Next → Point
resumed (Reads m) = reading m
resumed (Wants m) = hungry m
resumed (Last m) = off
resumed (Shut c) = off
resumed Fail = off

abbrev pub idle : Next → Point
idle (Wants m) = hungry m
idle (Reads m) = off
idle (Last m) = off
idle (Shut c) = off
idle Fail = off

abbrev pub given : Next → Class → Point
given (Wants m) c = filled m c
given (Last m) c = filled m c
given (Reads m) c = off
given (Shut f) c = off
given Fail c = off

abbrev mutual
  pub point : Parts → Point
  point start = begin
  point top = reading AtTop
  point (from w) = behind_op (class w)
  point (tok ps t) = resumed (delta (point ps) t)
  point (exp ps w) = given (ahead ps) (class w)

  -- what comes behind the parts
  pub ahead : Parts → Next
  ahead start = Fail
  ahead top = Reads AtTop
  ahead (from w) = Fail
  ahead (tok ps t) = delta (point ps) t
  ahead (exp ps w) = Fail

abbrev pub is_last : Next → Bool
is_last (Last m) = true
is_last (Reads m) = false
is_last (Wants m) = false
is_last (Shut c) = false
is_last Fail = false

abbrev pub is_shut : Next → Bool
is_shut (Shut c) = true
is_shut (Reads m) = false
is_shut (Wants m) = false
is_shut (Last m) = false
is_shut Fail = false

unfoldable pub mark_column : Mark → ℕ
mark_column (Bullets s n) = n + 1
mark_column _ = 0

-- the least column of what stands in the last operand
abbrev pub inner : Next → ℕ
inner (Last m) = mark_column m
inner (Reads m) = 0
inner (Wants m) = mark_column m
inner (Shut c) = 0
inner Fail = 0

-- the form that the parts make, at its end or with an operand as its last
abbrev pub form_of : Next → Construct
form_of (Shut f) = f
form_of (Last m) = ends_as m
form_of (Reads m) = Junction
form_of (Wants m) = Junction
form_of Fail = Junction

-- what the rules say, by the table
abbrev pub TableEnds : Written → Tok → Type 0
TableEnds (closed c ps) t = Unit {0}
TableEnds (tailed c ps w) t = (column t < inner (ahead ps)) × (delta (given (ahead ps) (class w)) t ≡ Fail)
TableEnds (pre p w) t = (hi (sign t) < prefix_lo (sign p)) × TableEnds w t
TableEnds (bin a o b) t = ((hi (sign t) < lo (sign o)) ⊎ (same (sign o) (sign t) ≡ true)) × TableEnds b t

-- The token t of a form behind w goes on with no form in w.
abbrev pub TableLeaves : Written → Tok → Type 0
TableLeaves (closed c ps) t = Unit {0}
TableLeaves (tailed c ps w) t = (delta (given (ahead ps) (class w)) t ≡ Fail) × ((column t < inner (ahead ps)) ⊎ TableLeaves w t)
TableLeaves (pre p w) t = TableLeaves w t
TableLeaves (bin a o b) t = TableLeaves b t

-- t may stand behind the parts
abbrev pub TableFine : Parts → Tok → Type 0
TableFine start t = Unit {0}
TableFine top t = Unit {0}
TableFine (from w) t = (after (sign t) ≡ PostfixRole) × TableEnds w t
TableFine (tok ps u) t = Unit {0}
TableFine (exp ps w) t = (column t < inner (ahead ps)) ⊎ TableLeaves w t

abbrev mutual
  pub TableGood : Written → Type 0
  TableGood (closed c ps) = (is_shut (ahead ps) ≡ true) × (form_of (ahead ps) ≡ c) × TableParts ps
  TableGood (tailed c ps w) = (is_last (ahead ps) ≡ true) × (form_of (ahead ps) ≡ c) × TableParts ps × TableGood w × From (inner (ahead ps)) (tokens w)
  TableGood (pre p w) = (is_prefix (sign p) ≡ true) × TableGood w × Above (suc (prefix_hi (sign p))) w
  TableGood (bin a t b) = TableGood a × (after (sign t) ≡ InfixRole) × TableEnds a t × TableGood b × Above (suc (hi (sign t))) b

  pub TableParts : Parts → Type 0
  TableParts start = Unit {0}
  TableParts top = Unit {0}
  TableParts (from w) = TableGood w
  TableParts (tok ps t) = TableParts ps × TableFine ps t
  TableParts (exp ps w) = TableParts ps × TableGood w × From (inner (ahead ps)) (tokens w)

-- The parts are a whole module.
pub record IsTableModule (ps : Parts) : Type 0 where
  pub good : TableParts ps
  pub begins : of_module ps ≡ true
  pub ends : ahead ps ≡ Reads Finished

-- ---- what is read, each construct behind its parts

abbrev mutual
  pub post : Written → List Code
  post (closed c ps) = posts ps ++ (Close c (parts ps) ∷ [])
  post (tailed c ps w) = (posts ps ++ post w) ++ (Close c (parts ps + 1) ∷ [])
  post (pre p w) = post w ++ (Prefix p ∷ [])
  post (bin a t b) = (post a ++ post b) ++ (Infix t (continues (class a) (sign t)) ∷ [])

  pub posts : Parts → List Code
  posts start = []
  posts top = []
  posts (from w) = post w
  posts (tok ps t) = posts ps ++ (Part t ∷ [])
  posts (exp ps w) = posts ps ++ post w
