-- The forms of expressions, and of a module, as templates of tokens and operands. Source: Specifying Systems, sections
-- 15.1, 16.1 and 17.
use Rattle.std.specs.Prelude.{Bool, true, false, ◌≡◌, ◌⊎◌, List, [], ◌∷◌, ◌++◌}
use Rattle.tla_parser.specs.Operators.{same_sign}
use Rattle.tla_parser.specs.declared.signs.Sign.{Sign}
use Rattle.tla_parser.specs.declared.signs.Sign.TheVariants.{Number, Quotation, Word, FoldWord, TrueWord, FalseWord, BooleanWord, StringWord, At, LeftParen, RightParen, LeftBracket, RightBracket, LeftBrace, RightBrace, LeftAngle, RightAngle, Comma, Colon, Dot, Bang, Tick, Defines, Arrow, MapsTo, BracketSub, AngleSub, Equals, Element, Square, Wedge, Vee, ExistsSign, ForallSign, ChooseWord, IfWord, ThenWord, ElseWord, CaseWord, OtherWord, LetWord, InWord, LambdaWord, ExceptWord, FairWord, Underscore, Replaces, Dashes, EndSign, ModuleWord, ExtendsWord, VariableWord, ConstantWord, AssumeWord, TheoremWord, InstanceWord, WithWord, RecursiveWord, LocalWord}
use Rattle.tla_parser.specs.declared.moves.Construct.{Construct}
use Rattle.tla_parser.specs.declared.moves.Construct.TheVariants.{NumberLiteral, TextLiteral, TrueLiteral, FalseLiteral, Booleans, Strings, OldValue, NameUse, FoldUse, Parenthesis, Enumeration, Filter, Mapping, FunctionSet, Function, RecordValue, RecordSet, Exception, SquareAction, TupleValue, Fairness, Call, FoldCall, Application, FieldAccess, Primed, Instanced, Quantifier, Choice, Conditional, Cases, CasesOther, Local, Junction}
use Rattle.tla_parser.specs.declared.moves.Class.{Class}
use Rattle.tla_parser.specs.declared.moves.Class.TheVariants.{Other, BareName, FoldName, PathName, Member, Joined, Tuple, TupleMember}

-- a part of a form
pub data FormPart : Type 0 where
  a_token : Sign → FormPart
  an_operand : Class → FormPart

pub data Form : Type 0 where
  never : Form
  nothing : Form
  -- one part that passes the test
  one : (FormPart → Bool) → Form
  both : Form → Form → Form
  either_of : Form → Form → Form
  -- none or more
  many : Form → Form

-- pieces, each of which passes, one behind another
abbrev pub Pieces : (List FormPart → Type 0) → List (List FormPart) → List FormPart → Type 0
Pieces P [] xs = xs ≡ []
Pieces P (p ∷ ps) xs = (rest : List FormPart) × (xs ≡ p ++ rest) × P p × Pieces P ps rest

-- the parts are such a form
abbrev pub Matches : Form → List FormPart → Type 0
Matches never xs = ⊥
Matches nothing xs = xs ≡ []
Matches (one t) xs = (x : FormPart) × (xs ≡ x ∷ []) × (t x ≡ true)
Matches (both a b) xs = (ys : List FormPart) × (zs : List FormPart) × (xs ≡ ys ++ zs) × Matches a ys × Matches b zs
Matches (either_of a b) xs = Matches a xs ⊎ Matches b xs
Matches (many a) xs = (ps : List (List FormPart)) × Pieces (Matches a) ps xs

-- with the parts regrouped from the left
abbrev pub then_form : Form → Form → Form
then_form never b = never
then_form nothing b = b
then_form (one t) b = both (one t) b
then_form (both a c) b = both a (then_form c b)
then_form (either_of a c) b = both (either_of a c) b
then_form (many a) b = both (many a) b

abbrev pub is_token : Sign → FormPart → Bool
is_token s (a_token t) = same_sign t s
is_token s (an_operand c) = false

abbrev pub is_operand : FormPart → Bool
is_operand (a_token t) = false
is_operand (an_operand c) = true

abbrev pub is_bare : Class → Bool
is_bare BareName = true
is_bare PathName = false
is_bare FoldName = false
is_bare Other = false
is_bare Member = false
is_bare (Joined s) = false
is_bare Tuple = false
is_bare TupleMember = false

abbrev pub is_called : Class → Bool
is_called BareName = true
is_called PathName = true
is_called FoldName = false
is_called Other = false
is_called Member = false
is_called (Joined s) = false
is_called Tuple = false
is_called TupleMember = false

abbrev pub is_fold : Class → Bool
is_fold BareName = false
is_fold PathName = false
is_fold FoldName = true
is_fold Other = false
is_fold Member = false
is_fold (Joined s) = false
is_fold Tuple = false
is_fold TupleMember = false

abbrev pub is_member : Class → Bool
is_member BareName = false
is_member PathName = false
is_member FoldName = false
is_member Other = false
is_member Member = true
is_member (Joined s) = false
is_member Tuple = false
is_member TupleMember = false

-- a mapping may apply it: `x \in S` is a filter's, and `<<x>> \in S` would be
abbrev pub is_mapped : Class → Bool
is_mapped BareName = true
is_mapped PathName = true
is_mapped FoldName = true
is_mapped Other = true
is_mapped Member = false
is_mapped (Joined s) = true
is_mapped Tuple = true
is_mapped TupleMember = false

abbrev pub of_class : (Class → Bool) → FormPart → Bool
of_class p (a_token t) = false
of_class p (an_operand c) = p c

-- a token, any expression, a name, x \in S
abbrev pub tk : Sign → Form
tk s = one (is_token s)

abbrev pub expr : Form
expr = one is_operand

abbrev pub bare : Form
bare = one (of_class is_bare)

abbrev pub member_expr : Form
member_expr = one (of_class is_member)

abbrev pub other_expr : Form
other_expr = one (of_class is_mapped)

-- one behind another
abbrev pub run_of : List Form → Form
run_of [] = nothing
run_of (f ∷ []) = f
run_of (f ∷ g ∷ fs) = then_form f (run_of (g ∷ fs))

-- one of them
abbrev pub any_of : List Form → Form
any_of [] = never
any_of (f ∷ []) = f
any_of (f ∷ g ∷ fs) = either_of f (any_of (g ∷ fs))

-- f, or nothing
abbrev pub optional : Form → Form
optional f = either_of nothing f

-- f , f , ..
abbrev pub listed : Form → Form
listed f = then_form f (many (then_form (tk Comma) f))

abbrev pub names : Form
names = listed (tk Word)

-- x, y \in S
abbrev pub group : Form
group = run_of (names ∷ tk Element ∷ expr ∷ [])

abbrev pub groups : Form
groups = listed group

-- [i, j] or .a
abbrev pub update_step : Form
update_step = either_of (run_of (tk LeftBracket ∷ listed expr ∷ tk RightBracket ∷ [])) (run_of (tk Dot ∷ tk Word ∷ []))

abbrev pub update : Form
update = run_of (tk Bang ∷ update_step ∷ many update_step ∷ tk Equals ∷ expr ∷ [])

-- v of [A]_v
abbrev pub subscript : Form
subscript =
    either_of (tk Word) (either_of (run_of (tk LeftAngle ∷ tk RightAngle ∷ []))
    (either_of (run_of (tk LeftAngle ∷ listed expr ∷ tk RightAngle ∷ [])) (run_of (tk LeftParen ∷ expr ∷ tk RightParen ∷ []))))

abbrev pub arm : Form
arm = run_of (expr ∷ tk Arrow ∷ expr ∷ [])

abbrev pub arms : Form
arms = then_form arm (many (then_form (tk Square) arm))

-- a == e, f(x) == e, f[x \in S] == e
abbrev pub definition : Form
definition =
    any_of (run_of (tk Word ∷ tk Defines ∷ expr ∷ [])
    ∷ run_of (tk Word ∷ tk LeftParen ∷ names ∷ tk RightParen ∷ tk Defines ∷ expr ∷ [])
    ∷ run_of (tk Word ∷ tk LeftBracket ∷ groups ∷ tk RightBracket ∷ tk Defines ∷ expr ∷ [])
    ∷ [])

pub record Template : Type 0 where
  pub construct : Construct
  pub form : Form

abbrev pub is_written : Construct → List Form → Template
is_written c fs = record { construct = c; form = run_of fs }

-- the forms
unfoldable pub templates : List Template
templates =
    is_written NumberLiteral (tk Number ∷ [])
    ∷ is_written TextLiteral (tk Quotation ∷ [])
    ∷ is_written NameUse (tk Word ∷ [])
    ∷ is_written FoldUse (tk FoldWord ∷ [])
    ∷ is_written TrueLiteral (tk TrueWord ∷ [])
    ∷ is_written FalseLiteral (tk FalseWord ∷ [])
    ∷ is_written Booleans (tk BooleanWord ∷ [])
    ∷ is_written Strings (tk StringWord ∷ [])
    ∷ is_written OldValue (tk At ∷ [])
    ∷ is_written Parenthesis (tk LeftParen ∷ expr ∷ tk RightParen ∷ [])
    ∷ is_written Enumeration (tk LeftBrace ∷ tk RightBrace ∷ [])
    ∷ is_written Enumeration (tk LeftBrace ∷ listed expr ∷ tk RightBrace ∷ [])
    ∷ is_written Filter (tk LeftBrace ∷ member_expr ∷ tk Colon ∷ expr ∷ tk RightBrace ∷ [])
    ∷ is_written Mapping (tk LeftBrace ∷ other_expr ∷ tk Colon ∷ groups ∷ tk RightBrace ∷ [])
    ∷ is_written FunctionSet (tk LeftBracket ∷ expr ∷ tk Arrow ∷ expr ∷ tk RightBracket ∷ [])
    ∷ is_written Function (tk LeftBracket ∷ member_expr ∷ many (then_form (tk Comma) group) ∷ tk MapsTo ∷ expr ∷ tk RightBracket ∷ [])
    ∷ is_written Function (tk LeftBracket ∷ bare ∷ tk Comma ∷ groups ∷ tk MapsTo ∷ expr ∷ tk RightBracket ∷ [])
    ∷ is_written RecordValue (tk LeftBracket ∷ bare ∷ tk MapsTo ∷ expr ∷ many (run_of (tk Comma ∷ tk Word ∷ tk MapsTo ∷ expr ∷ [])) ∷ tk RightBracket ∷ [])
    ∷ is_written RecordSet (tk LeftBracket ∷ bare ∷ tk Colon ∷ expr ∷ many (run_of (tk Comma ∷ tk Word ∷ tk Colon ∷ expr ∷ [])) ∷ tk RightBracket ∷ [])
    ∷ is_written Exception (tk LeftBracket ∷ expr ∷ tk ExceptWord ∷ listed update ∷ tk RightBracket ∷ [])
    ∷ is_written SquareAction (tk LeftBracket ∷ expr ∷ tk BracketSub ∷ subscript ∷ [])
    ∷ is_written SquareAction (tk LeftAngle ∷ expr ∷ tk AngleSub ∷ subscript ∷ [])
    ∷ is_written TupleValue (tk LeftAngle ∷ tk RightAngle ∷ [])
    ∷ is_written TupleValue (tk LeftAngle ∷ listed expr ∷ tk RightAngle ∷ [])
    ∷ is_written Fairness (tk FairWord ∷ subscript ∷ tk LeftParen ∷ expr ∷ tk RightParen ∷ [])
    ∷ is_written Call (one (of_class is_called) ∷ tk LeftParen ∷ listed expr ∷ tk RightParen ∷ [])
    ∷ is_written FoldCall (one (of_class is_fold) ∷ tk LeftParen ∷ tk LambdaWord ∷ tk Word ∷ tk Comma ∷ tk Word ∷ tk Colon ∷ expr ∷ tk Comma ∷ expr ∷ tk Comma ∷ expr ∷ tk RightParen ∷ [])
    ∷ is_written FoldCall (one (of_class is_fold) ∷ tk LeftParen ∷ tk Word ∷ tk Comma ∷ expr ∷ tk Comma ∷ expr ∷ tk RightParen ∷ [])
    ∷ is_written Application (expr ∷ tk LeftBracket ∷ listed expr ∷ tk RightBracket ∷ [])
    ∷ is_written FieldAccess (expr ∷ tk Dot ∷ tk Word ∷ [])
    ∷ is_written Primed (expr ∷ tk Tick ∷ [])
    ∷ is_written Instanced (bare ∷ tk Bang ∷ tk Word ∷ [])
    ∷ is_written Quantifier (tk ExistsSign ∷ groups ∷ tk Colon ∷ expr ∷ [])
    ∷ is_written Quantifier (tk ExistsSign ∷ names ∷ tk Colon ∷ expr ∷ [])
    ∷ is_written Quantifier (tk ForallSign ∷ groups ∷ tk Colon ∷ expr ∷ [])
    ∷ is_written Quantifier (tk ForallSign ∷ names ∷ tk Colon ∷ expr ∷ [])
    ∷ is_written Choice (tk ChooseWord ∷ tk Word ∷ tk Element ∷ expr ∷ tk Colon ∷ expr ∷ [])
    ∷ is_written Choice (tk ChooseWord ∷ tk Word ∷ tk Colon ∷ expr ∷ [])
    ∷ is_written Conditional (tk IfWord ∷ expr ∷ tk ThenWord ∷ expr ∷ tk ElseWord ∷ expr ∷ [])
    ∷ is_written Cases (tk CaseWord ∷ arms ∷ [])
    ∷ is_written CasesOther (tk CaseWord ∷ arms ∷ tk Square ∷ tk OtherWord ∷ tk Arrow ∷ expr ∷ [])
    ∷ is_written Local (tk LetWord ∷ definition ∷ many definition ∷ tk InWord ∷ expr ∷ [])
    ∷ is_written Junction (tk Wedge ∷ expr ∷ many (run_of (tk Wedge ∷ expr ∷ [])) ∷ [])
    ∷ is_written Junction (tk Vee ∷ expr ∷ many (run_of (tk Vee ∷ expr ∷ [])) ∷ [])
    ∷ []

-- The parts are written as a form of this construct.
abbrev pub Spelled : List Template → Construct → List FormPart → Type 0
Spelled [] c xs = ⊥
Spelled (r ∷ rs) c xs = ((r.construct ≡ c) × Matches r.form xs) ⊎ Spelled rs c xs

-- ---- a module

-- INSTANCE M WITH x <- e, y <- f
abbrev pub instance_form : Form
instance_form =
    run_of (tk InstanceWord ∷ tk Word
    ∷ optional (run_of (tk WithWord ∷ listed (run_of (tk Word ∷ tk Replaces ∷ expr ∷ [])) ∷ [])) ∷ [])

-- f, or f(_, _)
abbrev pub recursive_name : Form
recursive_name =
    any_of (tk Word ∷ run_of (tk Word ∷ tk LeftParen ∷ listed (tk Underscore) ∷ tk RightParen ∷ []) ∷ [])

abbrev pub defining : Form
defining = any_of (definition ∷ run_of (tk Word ∷ tk Defines ∷ instance_form ∷ []) ∷ instance_form ∷ [])

abbrev pub unit_form : Form
unit_form =
    any_of (tk Dashes
    ∷ run_of (tk VariableWord ∷ names ∷ [])
    ∷ run_of (tk ConstantWord ∷ names ∷ [])
    ∷ run_of (tk RecursiveWord ∷ listed recursive_name ∷ [])
    ∷ run_of (tk AssumeWord ∷ expr ∷ [])
    ∷ run_of (tk AssumeWord ∷ bare ∷ tk Defines ∷ expr ∷ [])
    ∷ run_of (tk TheoremWord ∷ expr ∷ [])
    ∷ run_of (tk TheoremWord ∷ bare ∷ tk Defines ∷ expr ∷ [])
    ∷ defining
    ∷ run_of (tk LocalWord ∷ defining ∷ [])
    ∷ [])

unfoldable pub module_form : Form
module_form =
    run_of (tk Dashes ∷ tk ModuleWord ∷ tk Word ∷ tk Dashes ∷ optional (run_of (tk ExtendsWord ∷ names ∷ []))
    ∷ many unit_form ∷ tk EndSign ∷ [])
