-- What may come in a form, token by token, told by where in a form one is: the parser's own table. That it is equal to
-- the templates of `specs/Forms` is proved in `proofs/FormLaw` and `proofs/ModuleLaw`.
use Rattle.std.specs.Prelude.{ℕ, Bool, true, false, cond, List, ◌∷◌, ◌&&◌, ◌==◌, []}
use Rattle.tla_parser.specs.Operators.{is_bullet, same_sign}
use Rattle.tla_parser.specs.declared.moves.Class.{Class}
use Rattle.tla_parser.specs.declared.moves.Class.TheVariants.{BareName, FoldName, Joined, Member, Other, PathName, Tuple, TupleMember}
use Rattle.tla_parser.specs.declared.moves.Construct.{Construct}
use Rattle.tla_parser.specs.declared.moves.Construct.TheVariants.{Application, Booleans, Call, Cases, CasesOther, Choice, Conditional, Enumeration, Exception, Fairness, FalseLiteral, FieldAccess, Filter, FoldCall, FoldUse, Function, FunctionSet, Instanced, Junction, Local, Mapping, NameUse, NumberLiteral, OldValue, Parenthesis, Primed, Quantifier, RecordSet, RecordValue, SquareAction, Strings, TextLiteral, TrueLiteral, TupleValue}
use Rattle.tla_parser.specs.declared.moves.Mark.{Mark}
use Rattle.tla_parser.specs.declared.moves.Mark.TheVariants.{ArgumentName, AtTop, BangName, BehindArgument, BehindArity, BehindBlank, BehindBoundName, BehindChosen, BehindDeclared, BehindExtended, BehindFoldFirst, BehindFoldOperator, BehindFoldSecond, BehindHeader, BehindInstance, BehindLocalArgument, BehindMapped, BehindOther, BehindParameter, BehindQuantified, BehindRecursive, BehindSetName, BehindStep, BehindSubstituted, BehindUnitArgument, BehindUnitParameter, BehindValueName, BetweenUnits, Bullets, ChoiceBody, ChosenName, DeclaredName, ExtendedName, FairOpens, FairSubscript, FieldName, Finished, FoldFirst, FoldOperator, FoldSecond, InArgumentSet, InArm, InAssumption, InBody, InBound, InBracket, InCall, InChoiceSet, InDefinition, InElse, InFair, InFairParen, InFairTuple, InFieldSet, InFieldValue, InFilter, InFoldBody, InFoldSequence, InFoldStart, InFunctionBody, InGuard, InIf, InIndex, InItems, InLocalSet, InMappedSet, InMoreFair, InMoreItems, InMoreSubscript, InMoreTuple, InNamedAssumption, InNamedStatement, InNextGuard, InOther, InParen, InPlainBody, InReplacement, InResultSet, InStatement, InSubscriptParen, InSubscriptTuple, InThen, InTuple, InUnitSet, InUpdateIndex, InUpdateValue, InstanceName, LocalArgument, LocalBody, LocalDefines, LocalHead, LocalName, LocalParameter, LocalUnit, MappedName, ModuleHead, ModuleName, ModuleNamed, NextBoundName, QuantifiedName, QuantifierBody, RecursiveBlank, RecursiveName, SetName, Subscript, Substituted, UnitArgument, UnitDefines, UnitHead, UnitParameter, UpdateBang, UpdateField, UpdatePath, ValueName}
use Rattle.tla_parser.specs.declared.moves.Next.{Next}
use Rattle.tla_parser.specs.declared.moves.Next.TheVariants.{Fail, Last, Reads, Shut, Wants}
use Rattle.tla_parser.specs.declared.moves.Seen.{Seen}
use Rattle.tla_parser.specs.declared.signs.Sign.{Sign}
use Rattle.tla_parser.specs.declared.signs.Sign.TheVariants.{AngleSub, Arrow, AssumeWord, At, Bang, BooleanWord, BracketSub, CaseWord, ChooseWord, Colon, Comma, ConstantWord, Dashes, Defines, Dot, Element, ElseWord, EndSign, Equals, ExceptWord, ExistsSign, ExtendsWord, FairWord, FalseWord, FoldWord, ForallSign, IfWord, InWord, InstanceWord, LambdaWord, LeftAngle, LeftBrace, LeftBracket, LeftParen, LetWord, LocalWord, MapsTo, ModuleWord, Number, OtherWord, Quotation, RecursiveWord, Replaces, RightAngle, RightBrace, RightBracket, RightParen, Square, StringWord, ThenWord, TheoremWord, Tick, TrueWord, Underscore, VariableWord, Vee, Wedge, WithWord, Word}

-- what one sign leads to
pub record Row : Type 0 where
  pub sign : Sign
  pub next : Next

abbrev pub on : Sign → Next → Row
on s n = record { sign = s; next = n }

abbrev pub found : Sign → List Row → Next
found s [] = Fail
found s (row ∷ others) = cond (same_sign s row.sign) row.next (found s others)

-- where an expression begins
unfoldable pub opens : Seen → Sign → Next
opens t Number = Shut NumberLiteral
opens t Quotation = Shut TextLiteral
opens t Word = Shut NameUse
opens t FoldWord = Shut FoldUse
opens t TrueWord = Shut TrueLiteral
opens t FalseWord = Shut FalseLiteral
opens t BooleanWord = Shut Booleans
opens t StringWord = Shut Strings
opens t At = Shut OldValue
opens t LeftParen = Wants InParen
opens t LeftBrace = Wants InItems
opens t LeftBracket = Wants InBracket
opens t LeftAngle = Wants InTuple
opens t FairWord = Reads FairSubscript
opens t ExistsSign = Reads QuantifiedName
opens t ForallSign = Reads QuantifiedName
opens t ChooseWord = Reads ChosenName
opens t IfWord = Wants InIf
opens t CaseWord = Wants InGuard
opens t LetWord = Reads LocalName
opens t Wedge = Last (Bullets Wedge t.column)
opens t Vee = Last (Bullets Vee t.column)
opens t _ = Fail

-- behind an operand that a postfix form begins with
abbrev pub calls : Class → Next
calls BareName = Wants InCall
calls PathName = Wants InCall
calls FoldName = Reads FoldOperator
calls Other = Fail
calls Member = Fail
calls (Joined s) = Fail
calls Tuple = Fail
calls TupleMember = Fail

abbrev pub of_name : Class → Next → Next
of_name BareName n = n
of_name PathName n = Fail
of_name FoldName n = Fail
of_name Other n = Fail
of_name Member n = Fail
of_name (Joined s) n = Fail
of_name Tuple n = Fail
of_name TupleMember n = Fail

unfoldable pub postfixes : Class → List Row
postfixes c =
    on Tick (Shut Primed) ∷ on LeftBracket (Wants InIndex) ∷ on Dot (Reads FieldName) ∷ on LeftParen (calls c)
    ∷ on Bang (of_name c (Reads BangName)) ∷ []

-- `:` behind the first operand in braces; a tuple before `\in` is a pattern, as a name is
abbrev pub braced : Class → Next
braced Member = Wants InFilter
braced BareName = Reads MappedName
braced PathName = Reads MappedName
braced FoldName = Reads MappedName
braced Other = Reads MappedName
braced (Joined s) = Reads MappedName
braced Tuple = Reads MappedName
braced TupleMember = Fail

-- `|->` behind the first operand in brackets
abbrev pub mapped : Class → Next
mapped Member = Wants InFunctionBody
mapped BareName = Wants InFieldValue
mapped PathName = Fail
mapped FoldName = Fail
mapped Other = Fail
mapped (Joined s) = Fail
mapped Tuple = Fail
mapped TupleMember = Fail

-- `,` behind the first operand in brackets
abbrev pub bracketed : Class → Next
bracketed Member = Reads ArgumentName
bracketed BareName = Reads ArgumentName
bracketed PathName = Fail
bracketed FoldName = Fail
bracketed Other = Fail
bracketed (Joined s) = Fail
bracketed Tuple = Fail
bracketed TupleMember = Fail

-- behind the first operand in braces
unfoldable pub in_braces : Class → List Row
in_braces c = on Comma (Wants InMoreItems) ∷ on RightBrace (Shut Enumeration) ∷ on Colon (braced c) ∷ []

-- behind the first operand in brackets
unfoldable pub in_brackets : Class → List Row
in_brackets c =
    on Arrow (Wants InResultSet) ∷ on MapsTo (mapped c) ∷ on Comma (bracketed c)
    ∷ on Colon (of_name c (Wants InFieldSet)) ∷ on ExceptWord (Reads UpdateBang) ∷ on BracketSub (Reads Subscript) ∷ []

-- the next bullet of a list: the same in the same column
abbrev pub next_bullet : Sign → ℕ → Seen → Next
next_bullet s n t = cond (is_bullet s && (same_sign s t.sign && (n == t.column))) (Last (Bullets t.sign t.column)) Fail

-- where a unit begins, or the module ends
unfoldable pub unit_rows : List Row
unit_rows =
    on Word (Reads UnitHead) ∷ on VariableWord (Reads DeclaredName) ∷ on ConstantWord (Reads DeclaredName)
    ∷ on AssumeWord (Wants InAssumption) ∷ on TheoremWord (Wants InStatement) ∷ on InstanceWord (Reads InstanceName)
    ∷ on RecursiveWord (Reads RecursiveName) ∷ on LocalWord (Reads LocalUnit) ∷ on Dashes (Reads BetweenUnits)
    ∷ on EndSign (Reads Finished) ∷ []

-- of a definition or an instance
unfoldable pub body_rows : Mark → Class → List Row
body_rows InUnitSet c = on Comma (Reads UnitArgument) ∷ on RightBracket (Reads UnitDefines) ∷ []
body_rows InBody c = unit_rows
body_rows InPlainBody c = unit_rows
body_rows InReplacement c = on Comma (Reads Substituted) ∷ unit_rows
body_rows _ c = []

-- in a fold, of an assumption or a theorem
unfoldable pub fold_rows : Mark → Class → List Row
fold_rows InFoldBody c = on Comma (Wants InFoldStart) ∷ []
fold_rows InFoldStart c = on Comma (Wants InFoldSequence) ∷ []
fold_rows InFoldSequence c = on RightParen (Shut FoldCall) ∷ []
fold_rows InAssumption c = on Defines (of_name c (Wants InNamedAssumption)) ∷ unit_rows
fold_rows InNamedAssumption c = unit_rows
fold_rows InStatement c = on Defines (of_name c (Wants InNamedStatement)) ∷ unit_rows
fold_rows InNamedStatement c = unit_rows
fold_rows m c = body_rows m c

-- in a subscript
unfoldable pub fair_rows : Mark → Class → List Row
fair_rows InSubscriptParen c = on RightParen (Shut SquareAction) ∷ []
fair_rows InFairTuple c = on Comma (Wants InMoreFair) ∷ on RightAngle (Reads FairOpens) ∷ []
fair_rows InMoreFair c = on Comma (Wants InMoreFair) ∷ on RightAngle (Reads FairOpens) ∷ []
fair_rows InFairParen c = on RightParen (Reads FairOpens) ∷ []
fair_rows InFair c = on RightParen (Shut Fairness) ∷ []
fair_rows m c = fold_rows m c

-- in a tuple
unfoldable pub tuple_rows : Mark → Class → List Row
tuple_rows InTuple c = on Comma (Wants InMoreTuple) ∷ on RightAngle (Shut TupleValue) ∷ on AngleSub (Reads Subscript) ∷ []
tuple_rows InMoreTuple c = on Comma (Wants InMoreTuple) ∷ on RightAngle (Shut TupleValue) ∷ []
tuple_rows InSubscriptTuple c = on Comma (Wants InMoreSubscript) ∷ on RightAngle (Shut SquareAction) ∷ []
tuple_rows InMoreSubscript c = on Comma (Wants InMoreSubscript) ∷ on RightAngle (Shut SquareAction) ∷ []
tuple_rows m c = fair_rows m c

-- of an update, in an application
unfoldable pub update_rows : Mark → Class → List Row
update_rows InUpdateIndex c = on Comma (Wants InUpdateIndex) ∷ on RightBracket (Reads BehindStep) ∷ []
update_rows InUpdateValue c = on Comma (Reads UpdateBang) ∷ on RightBracket (Shut Exception) ∷ []
update_rows InIndex c = on Comma (Wants InIndex) ∷ on RightBracket (Shut Application) ∷ []
update_rows InCall c = on Comma (Wants InCall) ∷ on RightParen (Shut Call) ∷ []
update_rows m c = tuple_rows m c

-- in brackets
unfoldable pub bracket_rows : Mark → Class → List Row
bracket_rows InBracket c = in_brackets c
bracket_rows InResultSet c = on RightBracket (Shut FunctionSet) ∷ []
bracket_rows InFunctionBody c = on RightBracket (Shut Function) ∷ []
bracket_rows InArgumentSet c = on Comma (Reads ArgumentName) ∷ on MapsTo (Wants InFunctionBody) ∷ []
bracket_rows InFieldValue c = on Comma (Reads ValueName) ∷ on RightBracket (Shut RecordValue) ∷ []
bracket_rows InFieldSet c = on Comma (Reads SetName) ∷ on RightBracket (Shut RecordSet) ∷ []
bracket_rows m c = update_rows m c

-- of a LET, in braces
unfoldable pub local_rows : Mark → Class → List Row
local_rows InDefinition c = on Word (Reads LocalHead) ∷ on InWord (Last LocalBody) ∷ []
local_rows InLocalSet c = on Comma (Reads LocalArgument) ∷ on RightBracket (Reads LocalDefines) ∷ []
local_rows InItems c = in_braces c
local_rows InMoreItems c = on Comma (Wants InMoreItems) ∷ on RightBrace (Shut Enumeration) ∷ []
local_rows InFilter c = on RightBrace (Shut Filter) ∷ []
local_rows InMappedSet c = on Comma (Reads MappedName) ∷ on RightBrace (Shut Mapping) ∷ []
local_rows m c = bracket_rows m c

-- behind an operand of a form: of one that begins with a word or a parenthesis
unfoldable pub rows : Mark → Class → List Row
rows InParen c = on RightParen (Shut Parenthesis) ∷ []
rows InIf c = on ThenWord (Wants InThen) ∷ []
rows InThen c = on ElseWord (Last InElse) ∷ []
rows InBound c = on Comma (Reads NextBoundName) ∷ on Colon (Last QuantifierBody) ∷ []
rows InChoiceSet c = on Colon (Last ChoiceBody) ∷ []
rows InGuard c = on Arrow (Last InArm) ∷ []
rows InArm c = on Square (Wants InNextGuard) ∷ []
rows InNextGuard c = on Arrow (Last InArm) ∷ []
rows m c = local_rows m c

unfoldable pub goes_on : Mark → Class → Seen → Next
goes_on (Bullets s n) c t = next_bullet s n t
goes_on m c t = found t.sign (rows m c)

-- recursive names
unfoldable pub recursive_heads : Mark → List Row
recursive_heads RecursiveName = on Word (Reads BehindRecursive) ∷ []
recursive_heads BehindRecursive = on Comma (Reads RecursiveName) ∷ on LeftParen (Reads RecursiveBlank) ∷ unit_rows
recursive_heads RecursiveBlank = on Underscore (Reads BehindBlank) ∷ []
recursive_heads BehindBlank = on Comma (Reads RecursiveBlank) ∷ on RightParen (Reads BehindArity) ∷ []
recursive_heads BehindArity = on Comma (Reads RecursiveName) ∷ unit_rows
recursive_heads _ = []

-- declared names, instances
unfoldable pub name_heads : Mark → List Row
name_heads DeclaredName = on Word (Reads BehindDeclared) ∷ []
name_heads BehindDeclared = on Comma (Reads DeclaredName) ∷ unit_rows
name_heads InstanceName = on Word (Reads BehindInstance) ∷ []
name_heads BehindInstance = on WithWord (Reads Substituted) ∷ unit_rows
name_heads Substituted = on Word (Reads BehindSubstituted) ∷ []
name_heads BehindSubstituted = on Replaces (Wants InReplacement) ∷ []
name_heads m = recursive_heads m

-- definitions of a module
unfoldable pub unit_heads : Mark → List Row
unit_heads UnitHead = on Defines (Wants InBody) ∷ on LeftParen (Reads UnitParameter) ∷ on LeftBracket (Reads UnitArgument) ∷ []
unit_heads UnitParameter = on Word (Reads BehindUnitParameter) ∷ []
unit_heads BehindUnitParameter = on Comma (Reads UnitParameter) ∷ on RightParen (Reads UnitDefines) ∷ []
unit_heads UnitArgument = on Word (Reads BehindUnitArgument) ∷ []
unit_heads BehindUnitArgument = on Comma (Reads UnitArgument) ∷ on Element (Wants InUnitSet) ∷ []
unit_heads UnitDefines = on Defines (Wants InPlainBody) ∷ []
unit_heads m = name_heads m

-- the header of a module, and what stands before its units
unfoldable pub module_heads : Mark → List Row
module_heads AtTop = on Dashes (Reads ModuleHead) ∷ []
module_heads ModuleHead = on ModuleWord (Reads ModuleName) ∷ []
module_heads ModuleName = on Word (Reads ModuleNamed) ∷ []
module_heads ModuleNamed = on Dashes (Reads BehindHeader) ∷ []
module_heads BehindHeader = on ExtendsWord (Reads ExtendedName) ∷ unit_rows
module_heads ExtendedName = on Word (Reads BehindExtended) ∷ []
module_heads BehindExtended = on Comma (Reads ExtendedName) ∷ unit_rows
module_heads BetweenUnits = unit_rows
module_heads LocalUnit = on Word (Reads UnitHead) ∷ on InstanceWord (Reads InstanceName) ∷ []
module_heads m = unit_heads m

-- definitions of a LET
unfoldable pub local_heads : Mark → List Row
local_heads LocalName = on Word (Reads LocalHead) ∷ []
local_heads LocalHead = on Defines (Wants InDefinition) ∷ on LeftParen (Reads LocalParameter) ∷ on LeftBracket (Reads LocalArgument) ∷ []
local_heads LocalParameter = on Word (Reads BehindParameter) ∷ []
local_heads BehindParameter = on Comma (Reads LocalParameter) ∷ on RightParen (Reads LocalDefines) ∷ []
local_heads LocalArgument = on Word (Reads BehindLocalArgument) ∷ []
local_heads BehindLocalArgument = on Comma (Reads LocalArgument) ∷ on Element (Wants InLocalSet) ∷ []
local_heads LocalDefines = on Defines (Wants InDefinition) ∷ []
local_heads m = module_heads m

-- subscripts, the operator of a fold
unfoldable pub subscript_heads : Mark → List Row
subscript_heads Subscript = on Word (Shut SquareAction) ∷ on LeftAngle (Wants InSubscriptTuple) ∷ on LeftParen (Wants InSubscriptParen) ∷ []
subscript_heads FairSubscript = on Word (Reads FairOpens) ∷ on LeftAngle (Wants InFairTuple) ∷ on LeftParen (Wants InFairParen) ∷ []
subscript_heads FairOpens = on LeftParen (Wants InFair) ∷ []
subscript_heads FoldOperator = on Word (Reads BehindFoldOperator) ∷ on LambdaWord (Reads FoldFirst) ∷ []
subscript_heads BehindFoldOperator = on Comma (Wants InFoldStart) ∷ []
subscript_heads FoldFirst = on Word (Reads BehindFoldFirst) ∷ []
subscript_heads BehindFoldFirst = on Comma (Reads FoldSecond) ∷ []
subscript_heads FoldSecond = on Word (Reads BehindFoldSecond) ∷ []
subscript_heads BehindFoldSecond = on Colon (Wants InFoldBody) ∷ []
subscript_heads m = local_heads m

-- the path of an update, names behind an operand
unfoldable pub update_heads : Mark → List Row
update_heads UpdateBang = on Bang (Reads UpdatePath) ∷ []
update_heads UpdatePath = on LeftBracket (Wants InUpdateIndex) ∷ on Dot (Reads UpdateField) ∷ []
update_heads UpdateField = on Word (Reads BehindStep) ∷ []
update_heads BehindStep = on LeftBracket (Wants InUpdateIndex) ∷ on Dot (Reads UpdateField) ∷ on Equals (Wants InUpdateValue) ∷ []
update_heads FieldName = on Word (Shut FieldAccess) ∷ []
update_heads BangName = on Word (Shut Instanced) ∷ []
update_heads BehindOther = on Arrow (Last InOther) ∷ []
update_heads m = subscript_heads m

-- names in braces and brackets
unfoldable pub listed_heads : Mark → List Row
listed_heads MappedName = on Word (Reads BehindMapped) ∷ []
listed_heads BehindMapped = on Comma (Reads MappedName) ∷ on Element (Wants InMappedSet) ∷ []
listed_heads ArgumentName = on Word (Reads BehindArgument) ∷ []
listed_heads BehindArgument = on Comma (Reads ArgumentName) ∷ on Element (Wants InArgumentSet) ∷ []
listed_heads ValueName = on Word (Reads BehindValueName) ∷ []
listed_heads BehindValueName = on MapsTo (Wants InFieldValue) ∷ []
listed_heads SetName = on Word (Reads BehindSetName) ∷ []
listed_heads BehindSetName = on Colon (Wants InFieldSet) ∷ []
listed_heads m = update_heads m

-- between the tokens of a form: names that are bound
unfoldable pub heads : Mark → List Row
heads QuantifiedName = on Word (Reads BehindQuantified) ∷ []
heads BehindQuantified = on Comma (Reads QuantifiedName) ∷ on Element (Wants InBound) ∷ on Colon (Last QuantifierBody) ∷ []
heads NextBoundName = on Word (Reads BehindBoundName) ∷ []
heads BehindBoundName = on Comma (Reads NextBoundName) ∷ on Element (Wants InBound) ∷ []
heads ChosenName = on Word (Reads BehindChosen) ∷ []
heads BehindChosen = on Element (Wants InChoiceSet) ∷ on Colon (Last ChoiceBody) ∷ []
heads m = listed_heads m

-- in the place of an operand
unfoldable pub insteads : Mark → List Row
insteads InItems = on RightBrace (Shut Enumeration) ∷ []
insteads InTuple = on RightAngle (Shut TupleValue) ∷ []
insteads InSubscriptTuple = on RightAngle (Shut SquareAction) ∷ []
insteads InFairTuple = on RightAngle (Reads FairOpens) ∷ []
insteads InNextGuard = on OtherWord (Reads BehindOther) ∷ []
insteads InBody = on InstanceWord (Reads InstanceName) ∷ []
insteads _ = []

-- what stands before a token of a form
pub data Point : Type 0 where
  begin : Point
  behind_op : Class → Point
  reading : Mark → Point
  -- where an operand may come too
  hungry : Mark → Point
  filled : Mark → Class → Point
  off : Point

unfoldable pub moved : Point → Seen → Next
moved begin t = opens t t.sign
moved (behind_op c) t = found t.sign (postfixes c)
moved (reading m) t = found t.sign (heads m)
moved (hungry m) t = found t.sign (insteads m)
moved (filled m c) t = goes_on m c t
moved off t = Fail

-- the form that ends in an operand here
unfoldable pub ends_as : Mark → Construct
ends_as InElse = Conditional
ends_as QuantifierBody = Quantifier
ends_as ChoiceBody = Choice
ends_as InArm = Cases
ends_as InOther = CasesOther
ends_as LocalBody = Local
ends_as _ = Junction

-- the marks of a module, outside its expressions
unfoldable pub in_units : Mark → Bool
in_units AtTop = true
in_units ModuleHead = true
in_units ModuleName = true
in_units ModuleNamed = true
in_units BehindHeader = true
in_units ExtendedName = true
in_units BehindExtended = true
in_units BetweenUnits = true
in_units DeclaredName = true
in_units BehindDeclared = true
in_units InAssumption = true
in_units InNamedAssumption = true
in_units InStatement = true
in_units InNamedStatement = true
in_units UnitHead = true
in_units UnitParameter = true
in_units BehindUnitParameter = true
in_units UnitArgument = true
in_units BehindUnitArgument = true
in_units InUnitSet = true
in_units UnitDefines = true
in_units InBody = true
in_units InPlainBody = true
in_units InstanceName = true
in_units BehindInstance = true
in_units Substituted = true
in_units BehindSubstituted = true
in_units InReplacement = true
in_units RecursiveName = true
in_units BehindRecursive = true
in_units RecursiveBlank = true
in_units BehindBlank = true
in_units BehindArity = true
in_units LocalUnit = true
in_units Finished = true
in_units _ = false

unfoldable pub is_finished : Mark → Bool
is_finished Finished = true
is_finished _ = false
