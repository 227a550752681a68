-- The table of forms is equal to the templates, from each place in a form: by computing, for every token.
use Rattle.std.proofs.Common.{Bool, true, false, cond, ◌&&◌, ◌≡◌, List, [], ◌∷◌, refl}
use Rattle.tla_parser.proofs.Templates.{behind_part, is_never}
use Rattle.tla_parser.specs.Operators.{is_bullet, number_of, same_sign}
use Rattle.tla_parser.specs.inner.Moves.{body_rows, bracket_rows, fair_rows, fold_rows, found, heads, in_braces, in_brackets, insteads, listed_heads, local_heads, local_rows, module_heads, name_heads, opens, postfixes, recursive_heads, rows, subscript_heads, tuple_rows, unit_heads, update_heads, update_rows}
use Rattle.tla_parser.specs.Forms.{FormPart, a_token, an_operand, Form, nothing, Template, templates}
use Rattle.tla_parser.specs.declared.signs.Sign.{Sign}
use Rattle.tla_parser.specs.declared.signs.Sign.TheVariants.{Number, Word, LeftParen, RightParen, LeftBracket, RightBracket, LeftBrace, LeftAngle, Comma, Colon, Dot, Bang, Defines, Arrow, MapsTo, BracketSub, Equals, Element, Square, ExistsSign, ChooseWord, IfWord, ThenWord, ElseWord, CaseWord, OtherWord, LetWord, InWord, LambdaWord, ExceptWord, FairWord, Wedge, Vee}
use Rattle.tla_parser.specs.declared.moves.Construct.{Construct}
use Rattle.tla_parser.specs.declared.moves.Class.{Class}
use Rattle.tla_parser.specs.declared.moves.Class.TheVariants.{BareName, FoldName, Joined, Member, Other, PathName, Tuple, TupleMember}
use Rattle.tla_parser.specs.declared.moves.Mark.{Mark}
use Rattle.tla_parser.specs.declared.moves.Mark.TheVariants.{ArgumentName, BangName, BehindArgument, BehindBoundName, BehindChosen, BehindFoldFirst, BehindFoldOperator, BehindFoldSecond, BehindLocalArgument, BehindMapped, BehindOther, BehindParameter, BehindQuantified, BehindSetName, BehindStep, BehindValueName, Bullets, ChoiceBody, ChosenName, FairOpens, FairSubscript, FieldName, FoldFirst, FoldOperator, FoldSecond, InArgumentSet, InArm, InBound, InBracket, InCall, InChoiceSet, InDefinition, InElse, InFair, InFairParen, InFairTuple, InFieldSet, InFieldValue, InFilter, InFoldBody, InFoldSequence, InFoldStart, InFunctionBody, InGuard, InIf, InIndex, InItems, InLocalSet, InMappedSet, InMoreFair, InMoreItems, InMoreSubscript, InMoreTuple, InNextGuard, InOther, InParen, InResultSet, InSubscriptParen, InSubscriptTuple, InThen, InTuple, InUpdateIndex, InUpdateValue, LocalArgument, LocalBody, LocalDefines, LocalHead, LocalName, LocalParameter, MappedName, NextBoundName, QuantifiedName, QuantifierBody, SetName, Subscript, UpdateBang, UpdateField, UpdatePath, ValueName}
use Rattle.tla_parser.specs.declared.moves.Next.{Next}
use Rattle.tla_parser.specs.declared.moves.Next.TheVariants.{Reads, Wants, Last, Shut, Fail}
use Rattle.tla_parser.specs.declared.moves.Seen.{Seen}

-- ---- what is left of the templates

abbrev pub keeps : Construct → Form → List Template → List Template
keeps c f rest = cond (is_never f) rest (record { construct = c; form = f } ∷ rest)

abbrev pub behind_all : FormPart → List Template → List Template
behind_all x [] = []
behind_all x (r ∷ rs) = keeps r.construct (behind_part x r.form) (behind_all x rs)

abbrev pub along : List FormPart → List Template → List Template
along [] rs = rs
along (x ∷ xs) rs = along xs (behind_all x rs)

-- where in a form one is, by parts that lead there
abbrev pub way : Mark → List FormPart
way InParen = a_token LeftParen ∷ []
way InItems = a_token LeftBrace ∷ []
way InBracket = a_token LeftBracket ∷ []
way InTuple = a_token LeftAngle ∷ []
way FairSubscript = a_token FairWord ∷ []
way QuantifiedName = a_token ExistsSign ∷ []
way ChosenName = a_token ChooseWord ∷ []
way InIf = a_token IfWord ∷ []
way InGuard = a_token CaseWord ∷ []
way LocalName = a_token LetWord ∷ []
way InIndex = an_operand Other ∷ a_token LeftBracket ∷ []
way FieldName = an_operand Other ∷ a_token Dot ∷ []
way InCall = an_operand BareName ∷ a_token LeftParen ∷ []
way FoldOperator = an_operand FoldName ∷ a_token LeftParen ∷ []
way BehindFoldOperator = an_operand FoldName ∷ a_token LeftParen ∷ a_token Word ∷ []
way BangName = an_operand BareName ∷ a_token Bang ∷ []
way InMoreItems = a_token LeftBrace ∷ an_operand Other ∷ a_token Comma ∷ []
way InFilter = a_token LeftBrace ∷ an_operand Member ∷ a_token Colon ∷ []
way MappedName = a_token LeftBrace ∷ an_operand Other ∷ a_token Colon ∷ []
way InResultSet = a_token LeftBracket ∷ an_operand Other ∷ a_token Arrow ∷ []
way InFunctionBody = a_token LeftBracket ∷ an_operand Member ∷ a_token MapsTo ∷ []
way InFieldValue = a_token LeftBracket ∷ an_operand BareName ∷ a_token MapsTo ∷ []
way ArgumentName = a_token LeftBracket ∷ an_operand Member ∷ a_token Comma ∷ []
way InFieldSet = a_token LeftBracket ∷ an_operand BareName ∷ a_token Colon ∷ []
way UpdateBang = a_token LeftBracket ∷ an_operand Other ∷ a_token ExceptWord ∷ []
way Subscript = a_token LeftBracket ∷ an_operand Other ∷ a_token BracketSub ∷ []
way InMoreTuple = a_token LeftAngle ∷ an_operand Other ∷ a_token Comma ∷ []
way FairOpens = a_token FairWord ∷ a_token Word ∷ []
way InFairTuple = a_token FairWord ∷ a_token LeftAngle ∷ []
way InFairParen = a_token FairWord ∷ a_token LeftParen ∷ []
way BehindQuantified = a_token ExistsSign ∷ a_token Word ∷ []
way BehindChosen = a_token ChooseWord ∷ a_token Word ∷ []
way InThen = a_token IfWord ∷ an_operand Other ∷ a_token ThenWord ∷ []
way InArm = a_token CaseWord ∷ an_operand Other ∷ a_token Arrow ∷ []
way LocalHead = a_token LetWord ∷ a_token Word ∷ []
way FoldFirst = an_operand FoldName ∷ a_token LeftParen ∷ a_token LambdaWord ∷ []
way InFoldStart = an_operand FoldName ∷ a_token LeftParen ∷ a_token Word ∷ a_token Comma ∷ []
way BehindMapped = a_token LeftBrace ∷ an_operand Other ∷ a_token Colon ∷ a_token Word ∷ []
way ValueName = a_token LeftBracket ∷ an_operand BareName ∷ a_token MapsTo ∷ an_operand Other ∷ a_token Comma ∷ []
way BehindArgument = a_token LeftBracket ∷ an_operand Member ∷ a_token Comma ∷ a_token Word ∷ []
way SetName = a_token LeftBracket ∷ an_operand BareName ∷ a_token Colon ∷ an_operand Other ∷ a_token Comma ∷ []
way UpdatePath = a_token LeftBracket ∷ an_operand Other ∷ a_token ExceptWord ∷ a_token Bang ∷ []
way InSubscriptTuple = a_token LeftBracket ∷ an_operand Other ∷ a_token BracketSub ∷ a_token LeftAngle ∷ []
way InSubscriptParen = a_token LeftBracket ∷ an_operand Other ∷ a_token BracketSub ∷ a_token LeftParen ∷ []
way InFair = a_token FairWord ∷ a_token Word ∷ a_token LeftParen ∷ []
way InMoreFair = a_token FairWord ∷ a_token LeftAngle ∷ an_operand Other ∷ a_token Comma ∷ []
way InBound = a_token ExistsSign ∷ a_token Word ∷ a_token Element ∷ []
way QuantifierBody = a_token ExistsSign ∷ a_token Word ∷ a_token Colon ∷ []
way InChoiceSet = a_token ChooseWord ∷ a_token Word ∷ a_token Element ∷ []
way ChoiceBody = a_token ChooseWord ∷ a_token Word ∷ a_token Colon ∷ []
way InElse = a_token IfWord ∷ an_operand Other ∷ a_token ThenWord ∷ an_operand Other ∷ a_token ElseWord ∷ []
way InNextGuard = a_token CaseWord ∷ an_operand Other ∷ a_token Arrow ∷ an_operand Other ∷ a_token Square ∷ []
way InDefinition = a_token LetWord ∷ a_token Word ∷ a_token Defines ∷ []
way LocalParameter = a_token LetWord ∷ a_token Word ∷ a_token LeftParen ∷ []
way LocalArgument = a_token LetWord ∷ a_token Word ∷ a_token LeftBracket ∷ []
way BehindFoldFirst = an_operand FoldName ∷ a_token LeftParen ∷ a_token LambdaWord ∷ a_token Word ∷ []
way InFoldSequence = an_operand FoldName ∷ a_token LeftParen ∷ a_token Word ∷ a_token Comma ∷ an_operand Other ∷ a_token Comma ∷ []
way InMappedSet = a_token LeftBrace ∷ an_operand Other ∷ a_token Colon ∷ a_token Word ∷ a_token Element ∷ []
way BehindValueName = a_token LeftBracket ∷ an_operand BareName ∷ a_token MapsTo ∷ an_operand Other ∷ a_token Comma ∷ a_token Word ∷ []
way InArgumentSet = a_token LeftBracket ∷ an_operand Member ∷ a_token Comma ∷ a_token Word ∷ a_token Element ∷ []
way BehindSetName = a_token LeftBracket ∷ an_operand BareName ∷ a_token Colon ∷ an_operand Other ∷ a_token Comma ∷ a_token Word ∷ []
way InUpdateIndex = a_token LeftBracket ∷ an_operand Other ∷ a_token ExceptWord ∷ a_token Bang ∷ a_token LeftBracket ∷ []
way UpdateField = a_token LeftBracket ∷ an_operand Other ∷ a_token ExceptWord ∷ a_token Bang ∷ a_token Dot ∷ []
way InMoreSubscript = a_token LeftBracket ∷ an_operand Other ∷ a_token BracketSub ∷ a_token LeftAngle ∷ an_operand Other ∷ a_token Comma ∷ []
way NextBoundName = a_token ExistsSign ∷ a_token Word ∷ a_token Element ∷ an_operand Other ∷ a_token Comma ∷ []
way BehindOther = a_token CaseWord ∷ an_operand Other ∷ a_token Arrow ∷ an_operand Other ∷ a_token Square ∷ a_token OtherWord ∷ []
way LocalBody = a_token LetWord ∷ a_token Word ∷ a_token Defines ∷ an_operand Other ∷ a_token InWord ∷ []
way BehindParameter = a_token LetWord ∷ a_token Word ∷ a_token LeftParen ∷ a_token Word ∷ []
way BehindLocalArgument = a_token LetWord ∷ a_token Word ∷ a_token LeftBracket ∷ a_token Word ∷ []
way FoldSecond = an_operand FoldName ∷ a_token LeftParen ∷ a_token LambdaWord ∷ a_token Word ∷ a_token Comma ∷ []
way BehindStep = a_token LeftBracket ∷ an_operand Other ∷ a_token ExceptWord ∷ a_token Bang ∷ a_token LeftBracket ∷ an_operand Other ∷ a_token RightBracket ∷ []
way BehindBoundName = a_token ExistsSign ∷ a_token Word ∷ a_token Element ∷ an_operand Other ∷ a_token Comma ∷ a_token Word ∷ []
way InOther = a_token CaseWord ∷ an_operand Other ∷ a_token Arrow ∷ an_operand Other ∷ a_token Square ∷ a_token OtherWord ∷ a_token Arrow ∷ []
way LocalDefines = a_token LetWord ∷ a_token Word ∷ a_token LeftParen ∷ a_token Word ∷ a_token RightParen ∷ []
way InLocalSet = a_token LetWord ∷ a_token Word ∷ a_token LeftBracket ∷ a_token Word ∷ a_token Element ∷ []
way BehindFoldSecond = an_operand FoldName ∷ a_token LeftParen ∷ a_token LambdaWord ∷ a_token Word ∷ a_token Comma ∷ a_token Word ∷ []
way InUpdateValue = a_token LeftBracket ∷ an_operand Other ∷ a_token ExceptWord ∷ a_token Bang ∷ a_token LeftBracket ∷ an_operand Other ∷ a_token RightBracket ∷ a_token Equals ∷ []
way InFoldBody = an_operand FoldName ∷ a_token LeftParen ∷ a_token LambdaWord ∷ a_token Word ∷ a_token Comma ∷ a_token Word ∷ a_token Colon ∷ []
way _ = []

unfoldable pub residue : Mark → List Template
residue InParen = along (way InParen) templates
residue InItems = along (way InItems) templates
residue InBracket = along (way InBracket) templates
residue InTuple = along (way InTuple) templates
residue FairSubscript = along (way FairSubscript) templates
residue QuantifiedName = along (way QuantifiedName) templates
residue ChosenName = along (way ChosenName) templates
residue InIf = along (way InIf) templates
residue InGuard = along (way InGuard) templates
residue LocalName = along (way LocalName) templates
residue InIndex = along (way InIndex) templates
residue FieldName = along (way FieldName) templates
residue InCall = along (way InCall) templates
residue FoldOperator = along (way FoldOperator) templates
residue BehindFoldOperator = along (way BehindFoldOperator) templates
residue BangName = along (way BangName) templates
residue InMoreItems = along (way InMoreItems) templates
residue InFilter = along (way InFilter) templates
residue MappedName = along (way MappedName) templates
residue InResultSet = along (way InResultSet) templates
residue InFunctionBody = along (way InFunctionBody) templates
residue InFieldValue = along (way InFieldValue) templates
residue ArgumentName = along (way ArgumentName) templates
residue InFieldSet = along (way InFieldSet) templates
residue UpdateBang = along (way UpdateBang) templates
residue Subscript = along (way Subscript) templates
residue InMoreTuple = along (way InMoreTuple) templates
residue FairOpens = along (way FairOpens) templates
residue InFairTuple = along (way InFairTuple) templates
residue InFairParen = along (way InFairParen) templates
residue BehindQuantified = along (way BehindQuantified) templates
residue BehindChosen = along (way BehindChosen) templates
residue InThen = along (way InThen) templates
residue InArm = along (way InArm) templates
residue LocalHead = along (way LocalHead) templates
residue FoldFirst = along (way FoldFirst) templates
residue InFoldStart = along (way InFoldStart) templates
residue BehindMapped = along (way BehindMapped) templates
residue ValueName = along (way ValueName) templates
residue BehindArgument = along (way BehindArgument) templates
residue SetName = along (way SetName) templates
residue UpdatePath = along (way UpdatePath) templates
residue InSubscriptTuple = along (way InSubscriptTuple) templates
residue InSubscriptParen = along (way InSubscriptParen) templates
residue InFair = along (way InFair) templates
residue InMoreFair = along (way InMoreFair) templates
residue InBound = along (way InBound) templates
residue QuantifierBody = along (way QuantifierBody) templates
residue InChoiceSet = along (way InChoiceSet) templates
residue ChoiceBody = along (way ChoiceBody) templates
residue InElse = along (way InElse) templates
residue InNextGuard = along (way InNextGuard) templates
residue InDefinition = along (way InDefinition) templates
residue LocalParameter = along (way LocalParameter) templates
residue LocalArgument = along (way LocalArgument) templates
residue BehindFoldFirst = along (way BehindFoldFirst) templates
residue InFoldSequence = along (way InFoldSequence) templates
residue InMappedSet = along (way InMappedSet) templates
residue BehindValueName = along (way BehindValueName) templates
residue InArgumentSet = along (way InArgumentSet) templates
residue BehindSetName = along (way BehindSetName) templates
residue InUpdateIndex = along (way InUpdateIndex) templates
residue UpdateField = along (way UpdateField) templates
residue InMoreSubscript = along (way InMoreSubscript) templates
residue NextBoundName = along (way NextBoundName) templates
residue BehindOther = along (way BehindOther) templates
residue LocalBody = along (way LocalBody) templates
residue BehindParameter = along (way BehindParameter) templates
residue BehindLocalArgument = along (way BehindLocalArgument) templates
residue FoldSecond = along (way FoldSecond) templates
residue BehindStep = along (way BehindStep) templates
residue BehindBoundName = along (way BehindBoundName) templates
residue InOther = along (way InOther) templates
residue LocalDefines = along (way LocalDefines) templates
residue InLocalSet = along (way InLocalSet) templates
residue BehindFoldSecond = along (way BehindFoldSecond) templates
residue InUpdateValue = along (way InUpdateValue) templates
residue InFoldBody = along (way InFoldBody) templates
residue _ = []

-- what is left of a list behind a bullet of it
unfoldable pub list_left : Sign → List Template
list_left Wedge = behind_all (a_token Wedge) templates
list_left Vee = behind_all (a_token Vee) templates
list_left _ = []

unfoldable pub bullets_left : Mark → List Template
bullets_left (Bullets s n) = list_left s
bullets_left _ = []

unfoldable pub is_reading : Mark → Bool
is_reading FairSubscript = true
is_reading QuantifiedName = true
is_reading ChosenName = true
is_reading LocalName = true
is_reading FieldName = true
is_reading BangName = true
is_reading MappedName = true
is_reading ArgumentName = true
is_reading UpdateBang = true
is_reading Subscript = true
is_reading FairOpens = true
is_reading BehindQuantified = true
is_reading BehindChosen = true
is_reading LocalHead = true
is_reading FoldOperator = true
is_reading BehindFoldOperator = true
is_reading FoldFirst = true
is_reading BehindMapped = true
is_reading ValueName = true
is_reading BehindArgument = true
is_reading SetName = true
is_reading UpdatePath = true
is_reading LocalParameter = true
is_reading LocalArgument = true
is_reading BehindFoldFirst = true
is_reading BehindValueName = true
is_reading BehindSetName = true
is_reading UpdateField = true
is_reading NextBoundName = true
is_reading BehindOther = true
is_reading BehindParameter = true
is_reading BehindLocalArgument = true
is_reading FoldSecond = true
is_reading BehindStep = true
is_reading BehindBoundName = true
is_reading LocalDefines = true
is_reading BehindFoldSecond = true
is_reading _ = false

unfoldable pub is_wanting : Mark → Bool
is_wanting InParen = true
is_wanting InItems = true
is_wanting InBracket = true
is_wanting InTuple = true
is_wanting InIf = true
is_wanting InGuard = true
is_wanting InIndex = true
is_wanting InCall = true
is_wanting InMoreItems = true
is_wanting InFilter = true
is_wanting InResultSet = true
is_wanting InFunctionBody = true
is_wanting InFieldValue = true
is_wanting InFieldSet = true
is_wanting InMoreTuple = true
is_wanting InFairTuple = true
is_wanting InFairParen = true
is_wanting InThen = true
is_wanting InFoldStart = true
is_wanting InSubscriptTuple = true
is_wanting InSubscriptParen = true
is_wanting InFair = true
is_wanting InMoreFair = true
is_wanting InBound = true
is_wanting InChoiceSet = true
is_wanting InNextGuard = true
is_wanting InDefinition = true
is_wanting InFoldSequence = true
is_wanting InMappedSet = true
is_wanting InArgumentSet = true
is_wanting InUpdateIndex = true
is_wanting InMoreSubscript = true
is_wanting InLocalSet = true
is_wanting InUpdateValue = true
is_wanting InFoldBody = true
is_wanting _ = false

unfoldable pub is_lasting : Mark → Bool
is_lasting InArm = true
is_lasting QuantifierBody = true
is_lasting ChoiceBody = true
is_lasting InElse = true
is_lasting LocalBody = true
is_lasting InOther = true
is_lasting _ = false

-- what is left behind a token of a form
abbrev pub left_of : Next → List Template
left_of (Reads m) = cond (is_reading m) (residue m) []
left_of (Wants m) = cond (is_wanting m) (residue m) []
left_of (Last m) = cond (is_lasting m) (residue m) (bullets_left m)
left_of (Shut c) = record { construct = c; form = nothing } ∷ []
left_of Fail = []

all_open : Bool
unfolding templates residue list_left bullets_left number_of opens postfixes rows local_rows bracket_rows update_rows tuple_rows fair_rows fold_rows body_rows in_braces in_brackets heads listed_heads update_heads subscript_heads local_heads module_heads unit_heads name_heads recursive_heads insteads is_reading is_wanting is_lasting
all_open = true

-- ---- the table is equal to the templates, mark by mark

pub begins : (t : Seen) (s : Sign) → behind_all (a_token s) templates ≡ left_of (opens t s)
unfolding all_open
begins t Number = refl
begins t _ = refl

postfix_law_BareName : (s : Sign) → behind_all (a_token s) (behind_all (an_operand BareName) templates) ≡ left_of (found s (postfixes BareName))
unfolding all_open
postfix_law_BareName Number = refl
postfix_law_BareName _ = refl

postfix_law_PathName : (s : Sign) → behind_all (a_token s) (behind_all (an_operand PathName) templates) ≡ left_of (found s (postfixes PathName))
unfolding all_open
postfix_law_PathName Number = refl
postfix_law_PathName _ = refl

postfix_law_FoldName : (s : Sign) → behind_all (a_token s) (behind_all (an_operand FoldName) templates) ≡ left_of (found s (postfixes FoldName))
unfolding all_open
postfix_law_FoldName Number = refl
postfix_law_FoldName _ = refl

postfix_law_Other : (s : Sign) → behind_all (a_token s) (behind_all (an_operand Other) templates) ≡ left_of (found s (postfixes Other))
unfolding all_open
postfix_law_Other Number = refl
postfix_law_Other _ = refl

postfix_law_Member : (s : Sign) → behind_all (a_token s) (behind_all (an_operand Member) templates) ≡ left_of (found s (postfixes Member))
unfolding all_open
postfix_law_Member Number = refl
postfix_law_Member _ = refl

postfix_law_Tuple : (s : Sign) → behind_all (a_token s) (behind_all (an_operand Tuple) templates) ≡ left_of (found s (postfixes Tuple))
unfolding all_open
postfix_law_Tuple Number = refl
postfix_law_Tuple _ = refl

postfix_law_TupleMember : (s : Sign) → behind_all (a_token s) (behind_all (an_operand TupleMember) templates) ≡ left_of (found s (postfixes TupleMember))
unfolding all_open
postfix_law_TupleMember Number = refl
postfix_law_TupleMember _ = refl

postfix_law_Joined : (s j : Sign) → behind_all (a_token s) (behind_all (an_operand (Joined j)) templates) ≡ left_of (found s (postfixes (Joined j)))
unfolding all_open
postfix_law_Joined Number j = refl
postfix_law_Joined _ j = refl

pub postfix_law : (s : Sign) (k : Class) → behind_all (a_token s) (behind_all (an_operand k) templates) ≡ left_of (found s (postfixes k))
postfix_law s BareName = postfix_law_BareName s
postfix_law s PathName = postfix_law_PathName s
postfix_law s FoldName = postfix_law_FoldName s
postfix_law s Other = postfix_law_Other s
postfix_law s Member = postfix_law_Member s
postfix_law s (Joined j) = postfix_law_Joined s j
postfix_law s Tuple = postfix_law_Tuple s
postfix_law s TupleMember = postfix_law_TupleMember s

pub heads_FairSubscript : (s : Sign) → behind_all (a_token s) (residue FairSubscript) ≡ left_of (found s (heads FairSubscript))
unfolding all_open
heads_FairSubscript Number = refl
heads_FairSubscript _ = refl

pub heads_QuantifiedName : (s : Sign) → behind_all (a_token s) (residue QuantifiedName) ≡ left_of (found s (heads QuantifiedName))
unfolding all_open
heads_QuantifiedName Number = refl
heads_QuantifiedName _ = refl

pub heads_ChosenName : (s : Sign) → behind_all (a_token s) (residue ChosenName) ≡ left_of (found s (heads ChosenName))
unfolding all_open
heads_ChosenName Number = refl
heads_ChosenName _ = refl

pub heads_LocalName : (s : Sign) → behind_all (a_token s) (residue LocalName) ≡ left_of (found s (heads LocalName))
unfolding all_open
heads_LocalName Number = refl
heads_LocalName _ = refl

pub heads_FieldName : (s : Sign) → behind_all (a_token s) (residue FieldName) ≡ left_of (found s (heads FieldName))
unfolding all_open
heads_FieldName Number = refl
heads_FieldName _ = refl

pub heads_BangName : (s : Sign) → behind_all (a_token s) (residue BangName) ≡ left_of (found s (heads BangName))
unfolding all_open
heads_BangName Number = refl
heads_BangName _ = refl

pub heads_MappedName : (s : Sign) → behind_all (a_token s) (residue MappedName) ≡ left_of (found s (heads MappedName))
unfolding all_open
heads_MappedName Number = refl
heads_MappedName _ = refl

pub heads_ArgumentName : (s : Sign) → behind_all (a_token s) (residue ArgumentName) ≡ left_of (found s (heads ArgumentName))
unfolding all_open
heads_ArgumentName Number = refl
heads_ArgumentName _ = refl

pub heads_UpdateBang : (s : Sign) → behind_all (a_token s) (residue UpdateBang) ≡ left_of (found s (heads UpdateBang))
unfolding all_open
heads_UpdateBang Number = refl
heads_UpdateBang _ = refl

pub heads_Subscript : (s : Sign) → behind_all (a_token s) (residue Subscript) ≡ left_of (found s (heads Subscript))
unfolding all_open
heads_Subscript Number = refl
heads_Subscript _ = refl

pub heads_FairOpens : (s : Sign) → behind_all (a_token s) (residue FairOpens) ≡ left_of (found s (heads FairOpens))
unfolding all_open
heads_FairOpens Number = refl
heads_FairOpens _ = refl

pub heads_BehindQuantified : (s : Sign) → behind_all (a_token s) (residue BehindQuantified) ≡ left_of (found s (heads BehindQuantified))
unfolding all_open
heads_BehindQuantified Number = refl
heads_BehindQuantified _ = refl

pub heads_BehindChosen : (s : Sign) → behind_all (a_token s) (residue BehindChosen) ≡ left_of (found s (heads BehindChosen))
unfolding all_open
heads_BehindChosen Number = refl
heads_BehindChosen _ = refl

pub heads_LocalHead : (s : Sign) → behind_all (a_token s) (residue LocalHead) ≡ left_of (found s (heads LocalHead))
unfolding all_open
heads_LocalHead Number = refl
heads_LocalHead _ = refl

pub heads_FoldOperator : (s : Sign) → behind_all (a_token s) (residue FoldOperator) ≡ left_of (found s (heads FoldOperator))
unfolding all_open
heads_FoldOperator Number = refl
heads_FoldOperator _ = refl

pub heads_BehindFoldOperator : (s : Sign) → behind_all (a_token s) (residue BehindFoldOperator) ≡ left_of (found s (heads BehindFoldOperator))
unfolding all_open
heads_BehindFoldOperator Number = refl
heads_BehindFoldOperator _ = refl

pub heads_FoldFirst : (s : Sign) → behind_all (a_token s) (residue FoldFirst) ≡ left_of (found s (heads FoldFirst))
unfolding all_open
heads_FoldFirst Number = refl
heads_FoldFirst _ = refl

pub heads_BehindMapped : (s : Sign) → behind_all (a_token s) (residue BehindMapped) ≡ left_of (found s (heads BehindMapped))
unfolding all_open
heads_BehindMapped Number = refl
heads_BehindMapped _ = refl

pub heads_ValueName : (s : Sign) → behind_all (a_token s) (residue ValueName) ≡ left_of (found s (heads ValueName))
unfolding all_open
heads_ValueName Number = refl
heads_ValueName _ = refl

pub heads_BehindArgument : (s : Sign) → behind_all (a_token s) (residue BehindArgument) ≡ left_of (found s (heads BehindArgument))
unfolding all_open
heads_BehindArgument Number = refl
heads_BehindArgument _ = refl

pub heads_SetName : (s : Sign) → behind_all (a_token s) (residue SetName) ≡ left_of (found s (heads SetName))
unfolding all_open
heads_SetName Number = refl
heads_SetName _ = refl

pub heads_UpdatePath : (s : Sign) → behind_all (a_token s) (residue UpdatePath) ≡ left_of (found s (heads UpdatePath))
unfolding all_open
heads_UpdatePath Number = refl
heads_UpdatePath _ = refl

pub heads_LocalParameter : (s : Sign) → behind_all (a_token s) (residue LocalParameter) ≡ left_of (found s (heads LocalParameter))
unfolding all_open
heads_LocalParameter Number = refl
heads_LocalParameter _ = refl

pub heads_LocalArgument : (s : Sign) → behind_all (a_token s) (residue LocalArgument) ≡ left_of (found s (heads LocalArgument))
unfolding all_open
heads_LocalArgument Number = refl
heads_LocalArgument _ = refl

pub heads_BehindFoldFirst : (s : Sign) → behind_all (a_token s) (residue BehindFoldFirst) ≡ left_of (found s (heads BehindFoldFirst))
unfolding all_open
heads_BehindFoldFirst Number = refl
heads_BehindFoldFirst _ = refl

pub heads_BehindValueName : (s : Sign) → behind_all (a_token s) (residue BehindValueName) ≡ left_of (found s (heads BehindValueName))
unfolding all_open
heads_BehindValueName Number = refl
heads_BehindValueName _ = refl

pub heads_BehindSetName : (s : Sign) → behind_all (a_token s) (residue BehindSetName) ≡ left_of (found s (heads BehindSetName))
unfolding all_open
heads_BehindSetName Number = refl
heads_BehindSetName _ = refl

pub heads_UpdateField : (s : Sign) → behind_all (a_token s) (residue UpdateField) ≡ left_of (found s (heads UpdateField))
unfolding all_open
heads_UpdateField Number = refl
heads_UpdateField _ = refl

pub heads_NextBoundName : (s : Sign) → behind_all (a_token s) (residue NextBoundName) ≡ left_of (found s (heads NextBoundName))
unfolding all_open
heads_NextBoundName Number = refl
heads_NextBoundName _ = refl

pub heads_BehindOther : (s : Sign) → behind_all (a_token s) (residue BehindOther) ≡ left_of (found s (heads BehindOther))
unfolding all_open
heads_BehindOther Number = refl
heads_BehindOther _ = refl

pub heads_BehindParameter : (s : Sign) → behind_all (a_token s) (residue BehindParameter) ≡ left_of (found s (heads BehindParameter))
unfolding all_open
heads_BehindParameter Number = refl
heads_BehindParameter _ = refl

pub heads_BehindLocalArgument : (s : Sign) → behind_all (a_token s) (residue BehindLocalArgument) ≡ left_of (found s (heads BehindLocalArgument))
unfolding all_open
heads_BehindLocalArgument Number = refl
heads_BehindLocalArgument _ = refl

pub heads_FoldSecond : (s : Sign) → behind_all (a_token s) (residue FoldSecond) ≡ left_of (found s (heads FoldSecond))
unfolding all_open
heads_FoldSecond Number = refl
heads_FoldSecond _ = refl

pub heads_BehindStep : (s : Sign) → behind_all (a_token s) (residue BehindStep) ≡ left_of (found s (heads BehindStep))
unfolding all_open
heads_BehindStep Number = refl
heads_BehindStep _ = refl

pub heads_BehindBoundName : (s : Sign) → behind_all (a_token s) (residue BehindBoundName) ≡ left_of (found s (heads BehindBoundName))
unfolding all_open
heads_BehindBoundName Number = refl
heads_BehindBoundName _ = refl

pub heads_LocalDefines : (s : Sign) → behind_all (a_token s) (residue LocalDefines) ≡ left_of (found s (heads LocalDefines))
unfolding all_open
heads_LocalDefines Number = refl
heads_LocalDefines _ = refl

pub heads_BehindFoldSecond : (s : Sign) → behind_all (a_token s) (residue BehindFoldSecond) ≡ left_of (found s (heads BehindFoldSecond))
unfolding all_open
heads_BehindFoldSecond Number = refl
heads_BehindFoldSecond _ = refl

-- ---- lists of bullets

pub bullet_token : (b s : Sign) → behind_all (a_token s) (list_left b) ≡ []
unfolding all_open
bullet_token Wedge s = refl
bullet_token Vee s = refl
bullet_token _ s = refl

wedge_on : (s : Sign) (k : Class) → behind_all (a_token s) (behind_all (an_operand k) (list_left Wedge)) ≡ cond (is_bullet Wedge && same_sign Wedge s) (list_left s) []
unfolding all_open is_bullet
wedge_on Number k = refl
wedge_on _ k = refl

vee_on : (s : Sign) (k : Class) → behind_all (a_token s) (behind_all (an_operand k) (list_left Vee)) ≡ cond (is_bullet Vee && same_sign Vee s) (list_left s) []
unfolding all_open is_bullet
vee_on Number k = refl
vee_on _ k = refl

-- behind an item stands the same bullet
pub bullet_on : (b s : Sign) (k : Class) → behind_all (a_token s) (behind_all (an_operand k) (list_left b)) ≡ cond (is_bullet b && same_sign b s) (list_left s) []
unfolding list_left is_bullet
bullet_on Wedge s k = wedge_on s k
bullet_on Vee s k = vee_on s k
bullet_on _ s k = refl
