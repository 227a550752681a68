-- The operators, and the range of each. Source: Specifying Systems, section 15.2.1 and table 6.
use Rattle.std.specs.Prelude.{ℕ, Bool, true, false, ◌&&◌, ◌==◌}
use Rattle.tla_parser.specs.declared.signs.Role.{Role}
use Rattle.tla_parser.specs.declared.signs.Role.TheVariants.{InfixRole, NoRole, PostfixRole}
use Rattle.tla_parser.specs.declared.signs.Sign.{Sign}
use Rattle.tla_parser.specs.declared.signs.Sign.TheVariants.{AngleSub, Arrow, Assigns, AssumeWord, At, AtLeast, AtMost, Bang, BooleanWord, BracketSub, Caret, CaseWord, ChooseWord, Circle, Colon, Comma, ConstantWord, Dash, Dashes, Defines, Diamond, Difference, Differs, DomainWord, Dot, Dots, DoubleArrow, Element, ElseWord, EnabledWord, EndSign, Equals, Equivalence, ExceptWord, ExistsSign, ExtendsWord, FairWord, FalseWord, FoldWord, ForallSign, Greater, IfWord, InWord, Included, InstanceWord, Intersection, LambdaWord, LeadsTo, LeftAngle, LeftBrace, LeftBracket, LeftParen, Less, LetWord, LocalWord, MapsTo, ModuleWord, NotElement, Number, OtherWord, Overrides, Pairs, Percent, Plus, ProofWord, Quotation, Quotient, RecursiveWord, Replaces, RightAngle, RightBrace, RightBracket, RightParen, Square, Star, Stray, StringWord, SubsetWord, ThenWord, TheoremWord, Tick, Tilde, Times, TrueWord, UnchangedWord, Underscore, UnionSign, UnionWord, VariableWord, Vee, Wedge, WithWord, Word}

-- what a token is behind an operand
unfoldable pub after : Sign → Role
after DoubleArrow = InfixRole
after Equivalence = InfixRole
after LeadsTo = InfixRole
after Wedge = InfixRole
after Vee = InfixRole
after Equals = InfixRole
after Differs = InfixRole
after Less = InfixRole
after Greater = InfixRole
after AtMost = InfixRole
after AtLeast = InfixRole
after Element = InfixRole
after NotElement = InfixRole
after Included = InfixRole
after Assigns = InfixRole
after Overrides = InfixRole
after Pairs = InfixRole
after UnionSign = InfixRole
after Intersection = InfixRole
after Difference = InfixRole
after Dots = InfixRole
after Plus = InfixRole
after Percent = InfixRole
after Times = InfixRole
after Dash = InfixRole
after Star = InfixRole
after Quotient = InfixRole
after Circle = InfixRole
after Caret = InfixRole
after Tick = PostfixRole
after Dot = PostfixRole
after Bang = PostfixRole
after LeftBracket = PostfixRole
after LeftParen = PostfixRole
after _ = NoRole

unfoldable pub is_prefix : Sign → Bool
is_prefix Tilde = true
is_prefix UnchangedWord = true
is_prefix EnabledWord = true
is_prefix Square = true
is_prefix Diamond = true
is_prefix SubsetWord = true
is_prefix UnionWord = true
is_prefix DomainWord = true
is_prefix Dash = true
is_prefix _ = false

-- the least and the greatest precedence of an infix or postfix operator
unfoldable pub lo : Sign → ℕ
lo DoubleArrow = 1
lo Equivalence = 2
lo LeadsTo = 2
lo Wedge = 3
lo Vee = 3
lo Equals = 5
lo Differs = 5
lo Less = 5
lo Greater = 5
lo AtMost = 5
lo AtLeast = 5
lo Element = 5
lo NotElement = 5
lo Included = 5
lo Assigns = 5
lo Overrides = 6
lo Pairs = 7
lo UnionSign = 8
lo Intersection = 8
lo Difference = 8
lo Dots = 9
lo Plus = 10
lo Percent = 10
lo Times = 10
lo Dash = 11
lo Star = 13
lo Quotient = 13
lo Circle = 13
lo Caret = 14
lo Tick = 16
lo Dot = 16
lo Bang = 16
lo LeftBracket = 16
lo LeftParen = 16
lo _ = 0

unfoldable pub hi : Sign → ℕ
hi DoubleArrow = 1
hi Equivalence = 2
hi LeadsTo = 2
hi Wedge = 3
hi Vee = 3
hi Equals = 5
hi Differs = 5
hi Less = 5
hi Greater = 5
hi AtMost = 5
hi AtLeast = 5
hi Element = 5
hi NotElement = 5
hi Included = 5
hi Assigns = 5
hi Overrides = 6
hi Pairs = 7
hi UnionSign = 8
hi Intersection = 8
hi Difference = 8
hi Dots = 9
hi Plus = 10
hi Percent = 11
hi Times = 13
hi Dash = 11
hi Star = 13
hi Quotient = 13
hi Circle = 13
hi Caret = 14
hi Tick = 16
hi Dot = 16
hi Bang = 16
hi LeftBracket = 16
hi LeftParen = 16
hi _ = 0

-- the same of a prefix operator; `-` before its operand has another range than between two
unfoldable pub prefix_lo : Sign → ℕ
prefix_lo Tilde = 4
prefix_lo UnchangedWord = 4
prefix_lo EnabledWord = 4
prefix_lo Square = 4
prefix_lo Diamond = 4
prefix_lo SubsetWord = 8
prefix_lo UnionWord = 8
prefix_lo DomainWord = 9
prefix_lo Dash = 12
prefix_lo _ = 0

unfoldable pub prefix_hi : Sign → ℕ
prefix_hi Tilde = 4
prefix_hi UnchangedWord = 15
prefix_hi EnabledWord = 15
prefix_hi Square = 15
prefix_hi Diamond = 15
prefix_hi SubsetWord = 8
prefix_hi UnionWord = 8
prefix_hi DomainWord = 9
prefix_hi Dash = 12
prefix_hi _ = 0

-- a number for each sign, by which signs are compared
unfoldable pub number_of : Sign → ℕ
number_of Number = 0
number_of Quotation = 1
number_of Word = 2
number_of FoldWord = 3
number_of TrueWord = 4
number_of FalseWord = 5
number_of BooleanWord = 6
number_of StringWord = 7
number_of At = 8
number_of LeftParen = 9
number_of RightParen = 10
number_of LeftBracket = 11
number_of RightBracket = 12
number_of LeftBrace = 13
number_of RightBrace = 14
number_of LeftAngle = 15
number_of RightAngle = 16
number_of Comma = 17
number_of Colon = 18
number_of Dot = 19
number_of Bang = 20
number_of Tick = 21
number_of Underscore = 22
number_of Defines = 23
number_of Replaces = 24
number_of Arrow = 25
number_of MapsTo = 26
number_of BracketSub = 27
number_of AngleSub = 28
number_of Wedge = 29
number_of Vee = 30
number_of DoubleArrow = 31
number_of Equivalence = 32
number_of LeadsTo = 33
number_of Equals = 34
number_of Differs = 35
number_of Less = 36
number_of Greater = 37
number_of AtMost = 38
number_of AtLeast = 39
number_of Element = 40
number_of NotElement = 41
number_of Included = 42
number_of Assigns = 43
number_of Overrides = 44
number_of Pairs = 45
number_of UnionSign = 46
number_of Intersection = 47
number_of Difference = 48
number_of Dots = 49
number_of Plus = 50
number_of Percent = 51
number_of Times = 52
number_of Dash = 53
number_of Star = 54
number_of Quotient = 55
number_of Circle = 56
number_of Caret = 57
number_of Tilde = 58
number_of UnchangedWord = 59
number_of EnabledWord = 60
number_of Square = 61
number_of Diamond = 62
number_of SubsetWord = 63
number_of UnionWord = 64
number_of DomainWord = 65
number_of ExistsSign = 66
number_of ForallSign = 67
number_of ChooseWord = 68
number_of IfWord = 69
number_of ThenWord = 70
number_of ElseWord = 71
number_of CaseWord = 72
number_of OtherWord = 73
number_of LetWord = 74
number_of InWord = 75
number_of LambdaWord = 76
number_of ExceptWord = 77
number_of FairWord = 78
number_of Dashes = 79
number_of EndSign = 80
number_of ModuleWord = 81
number_of ExtendsWord = 82
number_of VariableWord = 83
number_of ConstantWord = 84
number_of AssumeWord = 85
number_of TheoremWord = 86
number_of InstanceWord = 87
number_of WithWord = 88
number_of RecursiveWord = 89
number_of LocalWord = 90
number_of ProofWord = 91
number_of Stray = 92

abbrev pub same_sign : Sign → Sign → Bool
same_sign a b = number_of a == number_of b

-- the operators whose chains need no parentheses; `\\X` makes one product of a chain
unfoldable pub is_associative : Sign → Bool
is_associative Wedge = true
is_associative Vee = true
is_associative Overrides = true
is_associative UnionSign = true
is_associative Intersection = true
is_associative Plus = true
is_associative Times = true
is_associative Dash = true
is_associative Star = true
is_associative Circle = true
is_associative _ = false

-- the same associative operator
unfoldable pub same : Sign → Sign → Bool
same a b = is_associative a && same_sign a b

-- the bullets of junction lists
unfoldable pub is_bullet : Sign → Bool
is_bullet Wedge = true
is_bullet Vee = true
is_bullet _ = false
