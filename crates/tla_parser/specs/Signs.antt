-- What each token is to the grammar. Source: Specifying Systems, chapter 15, and tables 1 to 8.
use Rattle.std.specs.Prelude.{codes, bytes_eq}
use Rattle.tla_lexer.specs.declared.token.Token.{Token}
use Rattle.tla_lexer.specs.declared.token.TokenKind.{TokenKind}
use Rattle.tla_lexer.specs.declared.token.TokenKind.TheVariants.{Dashes as DashRun, End, Number as Digits, Name, Reserved, Quoted, ProofStep, Symbol}
use Rattle.std.specs.Prelude.{ℕ, cond, List, ◌∷◌, []}
use Rattle.tla_parser.specs.declared.signs.Sign.{Sign}
use Rattle.tla_parser.specs.declared.signs.Sign.TheVariants.{AngleSub, Arrow, Assigns, AssumeWord, At, AtLeast, AtMost, Bang, BooleanWord, BracketSub, Caret, CaseWord, ChooseWord, Circle, Colon, Comma, ConstantWord, Dash, Dashes, Defines, Diamond, Difference, Differs, DomainWord, Dot, Dots, DoubleArrow, Element, ElseWord, EnabledWord, EndSign, Equals, Equivalence, ExceptWord, ExistsSign, ExtendsWord, FairWord, FalseWord, FoldWord, ForallSign, Greater, IfWord, InWord, Included, InstanceWord, Intersection, LambdaWord, LeadsTo, LeftAngle, LeftBrace, LeftBracket, LeftParen, Less, LetWord, LocalWord, MapsTo, ModuleWord, NotElement, Number, OtherWord, Overrides, Pairs, Percent, Plus, ProofWord, Quotation, Quotient, RecursiveWord, Replaces, RightAngle, RightBrace, RightBracket, RightParen, Square, Star, Stray, StringWord, SubsetWord, ThenWord, TheoremWord, Tick, Tilde, Times, TrueWord, UnchangedWord, Underscore, UnionSign, UnionWord, VariableWord, Vee, Wedge, WithWord, Word}

-- A spelling and its sign.
abbrev pub Spelling : Type 0
Spelling = List ℕ × Sign

unfoldable pub symbol_signs : List Spelling
symbol_signs =
    (codes "(", LeftParen) ∷ (codes ")", RightParen) ∷ (codes ",", Comma) ∷ (codes "=", Equals) ∷ (codes "'", Tick)
    ∷ (codes "/\\", Wedge) ∷ (codes "\\/", Vee) ∷ (codes "==", Defines) ∷ (codes "\\in", Element) ∷ (codes ":", Colon)
    ∷ (codes "[", LeftBracket) ∷ (codes "]", RightBracket) ∷ (codes "{", LeftBrace) ∷ (codes "}", RightBrace)
    ∷ (codes "<<", LeftAngle) ∷ (codes ">>", RightAngle) ∷ (codes ".", Dot) ∷ (codes "!", Bang) ∷ (codes "@", At)
    ∷ (codes "_", Underscore) ∷ (codes "<-", Replaces) ∷ (codes "->", Arrow) ∷ (codes "|->", MapsTo)
    ∷ (codes "]_", BracketSub) ∷ (codes ">>_", AngleSub) ∷ (codes "=>", DoubleArrow) ∷ (codes "<=>", Equivalence)
    ∷ (codes "~>", LeadsTo) ∷ (codes "#", Differs) ∷ (codes "<", Less) ∷ (codes ">", Greater) ∷ (codes "<=", AtMost)
    ∷ (codes ">=", AtLeast) ∷ (codes "\\notin", NotElement) ∷ (codes "\\subseteq", Included) ∷ (codes ":=", Assigns)
    ∷ (codes "@@", Overrides) ∷ (codes ":>", Pairs) ∷ (codes "\\cup", UnionSign) ∷ (codes "\\cap", Intersection)
    ∷ (codes "\\", Difference) ∷ (codes "..", Dots) ∷ (codes "+", Plus) ∷ (codes "%", Percent) ∷ (codes "\\X", Times)
    ∷ (codes "-", Dash) ∷ (codes "*", Star) ∷ (codes "\\div", Quotient) ∷ (codes "\\o", Circle) ∷ (codes "^", Caret)
    ∷ (codes "~", Tilde) ∷ (codes "[]", Square) ∷ (codes "<>", Diamond) ∷ (codes "\\E", ExistsSign)
    ∷ (codes "\\A", ForallSign) ∷ []

unfoldable pub word_signs : List Spelling
word_signs =
    (codes "ASSUME", AssumeWord) ∷ (codes "ASSUMPTION", AssumeWord) ∷ (codes "AXIOM", AssumeWord)
    ∷ (codes "BOOLEAN", BooleanWord) ∷ (codes "BY", ProofWord) ∷ (codes "CASE", CaseWord) ∷ (codes "CHOOSE", ChooseWord)
    ∷ (codes "CONSTANT", ConstantWord) ∷ (codes "CONSTANTS", ConstantWord) ∷ (codes "COROLLARY", TheoremWord)
    ∷ (codes "DOMAIN", DomainWord) ∷ (codes "ELSE", ElseWord) ∷ (codes "ENABLED", EnabledWord)
    ∷ (codes "EXCEPT", ExceptWord) ∷ (codes "EXTENDS", ExtendsWord) ∷ (codes "FALSE", FalseWord) ∷ (codes "IF", IfWord)
    ∷ (codes "IN", InWord) ∷ (codes "INSTANCE", InstanceWord) ∷ (codes "LAMBDA", LambdaWord) ∷ (codes "LEMMA", TheoremWord)
    ∷ (codes "LET", LetWord) ∷ (codes "LOCAL", LocalWord) ∷ (codes "MODULE", ModuleWord) ∷ (codes "OBVIOUS", ProofWord)
    ∷ (codes "OMITTED", ProofWord) ∷ (codes "OTHER", OtherWord) ∷ (codes "PROOF", ProofWord)
    ∷ (codes "PROPOSITION", TheoremWord) ∷ (codes "QED", ProofWord) ∷ (codes "RECURSIVE", RecursiveWord)
    ∷ (codes "SF_", FairWord) ∷ (codes "STRING", StringWord) ∷ (codes "SUBSET", SubsetWord) ∷ (codes "THEN", ThenWord)
    ∷ (codes "THEOREM", TheoremWord) ∷ (codes "TRUE", TrueWord) ∷ (codes "UNCHANGED", UnchangedWord)
    ∷ (codes "UNION", UnionWord) ∷ (codes "VARIABLE", VariableWord) ∷ (codes "VARIABLES", VariableWord)
    ∷ (codes "WF_", FairWord) ∷ (codes "WITH", WithWord) ∷ []

-- the sign of the first row with this spelling
abbrev pub sign_in : List Spelling → List ℕ → Sign
sign_in [] spelling = Stray
sign_in (row ∷ others) spelling = cond (bytes_eq spelling row.0) row.1 (sign_in others spelling)

unfoldable pub fold_name : List ℕ
fold_name = codes "ApaFoldSeqLeft"

abbrev pub sign_of : TokenKind → Sign
sign_of DashRun = Dashes
sign_of End = EndSign
sign_of (Digits n) = Number
sign_of (Name t) = cond (bytes_eq t fold_name) FoldWord Word
sign_of (Reserved t) = sign_in word_signs t
sign_of (Quoted t) = Quotation
sign_of ProofStep = ProofWord
sign_of (Symbol t) = sign_in symbol_signs t

unfoldable pub sign : Token → Sign
sign t = sign_of t.kind

abbrev pub column : Token → ℕ
column t = t.place.col
