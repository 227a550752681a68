-- Where forms can end, and that each form which has begun can be ended.
use Rattle.std.proofs.Common.{Bool, true, false, cond, ◌≡◌, List, [], ◌∷◌, refl}
use Rattle.tla_parser.proofs.TableLaw.{along, behind_all, bullets_left, is_lasting, is_reading, is_wanting, left_of, list_left, residue}
use Rattle.tla_parser.proofs.Templates.{can_end}
use Rattle.tla_parser.specs.Forms.{FormPart, Template, a_token, an_operand, templates}
use Rattle.tla_parser.specs.Operators.{is_bullet, number_of}
use Rattle.tla_parser.specs.declared.moves.Class.{Class}
use Rattle.tla_parser.specs.declared.moves.Class.TheVariants.{Joined, Other}
use Rattle.tla_parser.specs.declared.moves.Construct.{Construct}
use Rattle.tla_parser.specs.declared.moves.Construct.TheVariants.{Junction}
use Rattle.tla_parser.specs.declared.moves.Mark.{Mark}
use Rattle.tla_parser.specs.declared.moves.Mark.TheVariants.{ArgumentName, BangName, BehindArgument, BehindBoundName, BehindChosen, BehindFoldFirst, BehindFoldOperator, BehindFoldSecond, BehindLocalArgument, BehindMapped, BehindOther, BehindParameter, BehindQuantified, BehindSetName, BehindStep, BehindValueName, Bullets, ChoiceBody, ChosenName, FairOpens, FairSubscript, FieldName, FoldFirst, FoldOperator, FoldSecond, InArgumentSet, InArm, InBound, InBracket, InCall, InChoiceSet, InDefinition, InElse, InFair, InFairParen, InFairTuple, InFieldSet, InFieldValue, InFilter, InFoldBody, InFoldSequence, InFoldStart, InFunctionBody, InGuard, InIf, InIndex, InItems, InLocalSet, InMappedSet, InMoreFair, InMoreItems, InMoreSubscript, InMoreTuple, InNextGuard, InOther, InParen, InResultSet, InSubscriptParen, InSubscriptTuple, InThen, InTuple, InUpdateIndex, InUpdateValue, LocalArgument, LocalBody, LocalDefines, LocalHead, LocalName, LocalParameter, MappedName, NextBoundName, QuantifiedName, QuantifierBody, SetName, Subscript, UpdateBang, UpdateField, UpdatePath, ValueName}
use Rattle.tla_parser.specs.declared.moves.Next.TheVariants.{Wants}
use Rattle.tla_parser.specs.declared.signs.Sign.{Sign}
use Rattle.tla_parser.specs.declared.signs.Sign.TheVariants.{Arrow, Bang, Colon, Comma, Defines, Dot, Element, ElseWord, Equals, InWord, LeftParen, MapsTo, RightAngle, RightBrace, RightBracket, RightParen, ThenWord, Vee, Wedge, Word}
use Rattle.tla_parser.specs.inner.Moves.{ends_as}

-- the constructs that need no part more
abbrev pub ending : List Template → List Construct
ending [] = []
ending (r ∷ rs) = cond (can_end r.form) (r.construct ∷ ending rs) (ending rs)

all_open : Bool
unfolding templates residue list_left bullets_left number_of is_reading is_wanting is_lasting ends_as is_bullet
all_open = true

pub residue_ends : (m : Mark) → ending (residue m) ≡ []
unfolding all_open
residue_ends InIf = refl
residue_ends _ = refl

list_ends : (b : Sign) → ending (list_left b) ≡ []
unfolding all_open
list_ends Wedge = refl
list_ends Vee = refl
list_ends _ = refl

pub bullets_end : (m : Mark) → ending (bullets_left m) ≡ []
unfolding all_open
bullets_end (Bullets b n) = list_ends b
bullets_end _ = refl

pub item_ends : (b : Sign) (k : Class) → is_bullet b ≡ true → ending (behind_all (an_operand k) (list_left b)) ≡ Junction ∷ []
unfolding all_open
item_ends Wedge k h = refl
item_ends Vee k h = refl
item_ends _ k h = cc

pub last_ends : (m : Mark) (k : Class) → is_lasting m ≡ true → ending (behind_all (an_operand k) (residue m)) ≡ ends_as m ∷ []
unfolding all_open
last_ends InArm k h = refl
last_ends QuantifierBody k h = refl
last_ends ChoiceBody k h = refl
last_ends InElse k h = refl
last_ends LocalBody k h = refl
last_ends InOther k h = refl
last_ends _ k h = cc

wants_InItems : (k : Class) → ending (behind_all (an_operand k) (residue InItems)) ≡ []
unfolding all_open
wants_InItems (Joined s) = refl
wants_InItems _ = refl

wants_InBracket : (k : Class) → ending (behind_all (an_operand k) (residue InBracket)) ≡ []
unfolding all_open
wants_InBracket (Joined s) = refl
wants_InBracket _ = refl

-- no form ends where it goes on behind an operand
pub wants_end : (m : Mark) (k : Class) → ending (behind_all (an_operand k) (left_of (Wants m))) ≡ []
unfolding all_open
wants_end InParen k = refl
wants_end InItems k = wants_InItems k
wants_end InBracket k = wants_InBracket k
wants_end InTuple k = refl
wants_end InIf k = refl
wants_end InGuard k = refl
wants_end InIndex k = refl
wants_end InCall k = refl
wants_end InMoreItems k = refl
wants_end InFilter k = refl
wants_end InResultSet k = refl
wants_end InFunctionBody k = refl
wants_end InFieldValue k = refl
wants_end InFieldSet k = refl
wants_end InMoreTuple k = refl
wants_end InFairTuple k = refl
wants_end InFairParen k = refl
wants_end InThen k = refl
wants_end InFoldStart k = refl
wants_end InSubscriptTuple k = refl
wants_end InSubscriptParen k = refl
wants_end InFair k = refl
wants_end InMoreFair k = refl
wants_end InBound k = refl
wants_end InChoiceSet k = refl
wants_end InNextGuard k = refl
wants_end InDefinition k = refl
wants_end InFoldSequence k = refl
wants_end InMappedSet k = refl
wants_end InArgumentSet k = refl
wants_end InUpdateIndex k = refl
wants_end InMoreSubscript k = refl
wants_end InLocalSet k = refl
wants_end InUpdateValue k = refl
wants_end InFoldBody k = refl
wants_end _ k = refl

-- parts that end a form
abbrev pub finish : Mark → List FormPart
finish FairSubscript = a_token Word ∷ a_token LeftParen ∷ an_operand Other ∷ a_token RightParen ∷ []
finish QuantifiedName = a_token Word ∷ a_token Colon ∷ an_operand Other ∷ []
finish ChosenName = a_token Word ∷ a_token Colon ∷ an_operand Other ∷ []
finish LocalName = a_token Word ∷ a_token Defines ∷ an_operand Other ∷ a_token InWord ∷ an_operand Other ∷ []
finish FieldName = a_token Word ∷ []
finish BangName = a_token Word ∷ []
finish MappedName = a_token Word ∷ a_token Element ∷ an_operand Other ∷ a_token RightBrace ∷ []
finish ArgumentName = a_token Word ∷ a_token Element ∷ an_operand Other ∷ a_token MapsTo ∷ an_operand Other ∷ a_token RightBracket ∷ []
finish UpdateBang = a_token Bang ∷ a_token Dot ∷ a_token Word ∷ a_token Equals ∷ an_operand Other ∷ a_token RightBracket ∷ []
finish Subscript = a_token Word ∷ []
finish FairOpens = a_token LeftParen ∷ an_operand Other ∷ a_token RightParen ∷ []
finish BehindQuantified = a_token Colon ∷ an_operand Other ∷ []
finish BehindChosen = a_token Colon ∷ an_operand Other ∷ []
finish LocalHead = a_token Defines ∷ an_operand Other ∷ a_token InWord ∷ an_operand Other ∷ []
finish FoldOperator = a_token Word ∷ a_token Comma ∷ an_operand Other ∷ a_token Comma ∷ an_operand Other ∷ a_token RightParen ∷ []
finish BehindFoldOperator = a_token Comma ∷ an_operand Other ∷ a_token Comma ∷ an_operand Other ∷ a_token RightParen ∷ []
finish FoldFirst = a_token Word ∷ a_token Comma ∷ a_token Word ∷ a_token Colon ∷ an_operand Other ∷ a_token Comma ∷ an_operand Other ∷ a_token Comma ∷ an_operand Other ∷ a_token RightParen ∷ []
finish BehindMapped = a_token Element ∷ an_operand Other ∷ a_token RightBrace ∷ []
finish ValueName = a_token Word ∷ a_token MapsTo ∷ an_operand Other ∷ a_token RightBracket ∷ []
finish BehindArgument = a_token Element ∷ an_operand Other ∷ a_token MapsTo ∷ an_operand Other ∷ a_token RightBracket ∷ []
finish SetName = a_token Word ∷ a_token Colon ∷ an_operand Other ∷ a_token RightBracket ∷ []
finish UpdatePath = a_token Dot ∷ a_token Word ∷ a_token Equals ∷ an_operand Other ∷ a_token RightBracket ∷ []
finish LocalParameter = a_token Word ∷ a_token RightParen ∷ a_token Defines ∷ an_operand Other ∷ a_token InWord ∷ an_operand Other ∷ []
finish LocalArgument = a_token Word ∷ a_token Element ∷ an_operand Other ∷ a_token RightBracket ∷ a_token Defines ∷ an_operand Other ∷ a_token InWord ∷ an_operand Other ∷ []
finish BehindFoldFirst = a_token Comma ∷ a_token Word ∷ a_token Colon ∷ an_operand Other ∷ a_token Comma ∷ an_operand Other ∷ a_token Comma ∷ an_operand Other ∷ a_token RightParen ∷ []
finish BehindValueName = a_token MapsTo ∷ an_operand Other ∷ a_token RightBracket ∷ []
finish BehindSetName = a_token Colon ∷ an_operand Other ∷ a_token RightBracket ∷ []
finish UpdateField = a_token Word ∷ a_token Equals ∷ an_operand Other ∷ a_token RightBracket ∷ []
finish NextBoundName = a_token Word ∷ a_token Element ∷ an_operand Other ∷ a_token Colon ∷ an_operand Other ∷ []
finish BehindOther = a_token Arrow ∷ an_operand Other ∷ []
finish BehindParameter = a_token RightParen ∷ a_token Defines ∷ an_operand Other ∷ a_token InWord ∷ an_operand Other ∷ []
finish BehindLocalArgument = a_token Element ∷ an_operand Other ∷ a_token RightBracket ∷ a_token Defines ∷ an_operand Other ∷ a_token InWord ∷ an_operand Other ∷ []
finish FoldSecond = a_token Word ∷ a_token Colon ∷ an_operand Other ∷ a_token Comma ∷ an_operand Other ∷ a_token Comma ∷ an_operand Other ∷ a_token RightParen ∷ []
finish BehindStep = a_token Equals ∷ an_operand Other ∷ a_token RightBracket ∷ []
finish BehindBoundName = a_token Element ∷ an_operand Other ∷ a_token Colon ∷ an_operand Other ∷ []
finish LocalDefines = a_token Defines ∷ an_operand Other ∷ a_token InWord ∷ an_operand Other ∷ []
finish BehindFoldSecond = a_token Colon ∷ an_operand Other ∷ a_token Comma ∷ an_operand Other ∷ a_token Comma ∷ an_operand Other ∷ a_token RightParen ∷ []
finish InParen = an_operand Other ∷ a_token RightParen ∷ []
finish InItems = an_operand Other ∷ a_token RightBrace ∷ []
finish InBracket = an_operand Other ∷ a_token Arrow ∷ an_operand Other ∷ a_token RightBracket ∷ []
finish InTuple = an_operand Other ∷ a_token RightAngle ∷ []
finish InIf = an_operand Other ∷ a_token ThenWord ∷ an_operand Other ∷ a_token ElseWord ∷ an_operand Other ∷ []
finish InGuard = an_operand Other ∷ a_token Arrow ∷ an_operand Other ∷ []
finish InIndex = an_operand Other ∷ a_token RightBracket ∷ []
finish InCall = an_operand Other ∷ a_token RightParen ∷ []
finish InMoreItems = an_operand Other ∷ a_token RightBrace ∷ []
finish InFilter = an_operand Other ∷ a_token RightBrace ∷ []
finish InResultSet = an_operand Other ∷ a_token RightBracket ∷ []
finish InFunctionBody = an_operand Other ∷ a_token RightBracket ∷ []
finish InFieldValue = an_operand Other ∷ a_token RightBracket ∷ []
finish InFieldSet = an_operand Other ∷ a_token RightBracket ∷ []
finish InMoreTuple = an_operand Other ∷ a_token RightAngle ∷ []
finish InFairTuple = an_operand Other ∷ a_token RightAngle ∷ a_token LeftParen ∷ an_operand Other ∷ a_token RightParen ∷ []
finish InFairParen = an_operand Other ∷ a_token RightParen ∷ a_token LeftParen ∷ an_operand Other ∷ a_token RightParen ∷ []
finish InThen = an_operand Other ∷ a_token ElseWord ∷ an_operand Other ∷ []
finish InFoldStart = an_operand Other ∷ a_token Comma ∷ an_operand Other ∷ a_token RightParen ∷ []
finish InSubscriptTuple = an_operand Other ∷ a_token RightAngle ∷ []
finish InSubscriptParen = an_operand Other ∷ a_token RightParen ∷ []
finish InFair = an_operand Other ∷ a_token RightParen ∷ []
finish InMoreFair = an_operand Other ∷ a_token RightAngle ∷ a_token LeftParen ∷ an_operand Other ∷ a_token RightParen ∷ []
finish InBound = an_operand Other ∷ a_token Colon ∷ an_operand Other ∷ []
finish InChoiceSet = an_operand Other ∷ a_token Colon ∷ an_operand Other ∷ []
finish InNextGuard = an_operand Other ∷ a_token Arrow ∷ an_operand Other ∷ []
finish InDefinition = an_operand Other ∷ a_token InWord ∷ an_operand Other ∷ []
finish InFoldSequence = an_operand Other ∷ a_token RightParen ∷ []
finish InMappedSet = an_operand Other ∷ a_token RightBrace ∷ []
finish InArgumentSet = an_operand Other ∷ a_token MapsTo ∷ an_operand Other ∷ a_token RightBracket ∷ []
finish InUpdateIndex = an_operand Other ∷ a_token RightBracket ∷ a_token Equals ∷ an_operand Other ∷ a_token RightBracket ∷ []
finish InMoreSubscript = an_operand Other ∷ a_token RightAngle ∷ []
finish InLocalSet = an_operand Other ∷ a_token RightBracket ∷ a_token Defines ∷ an_operand Other ∷ a_token InWord ∷ an_operand Other ∷ []
finish InUpdateValue = an_operand Other ∷ a_token RightBracket ∷ []
finish InFoldBody = an_operand Other ∷ a_token Comma ∷ an_operand Other ∷ a_token Comma ∷ an_operand Other ∷ a_token RightParen ∷ []
finish InArm = an_operand Other ∷ []
finish QuantifierBody = an_operand Other ∷ []
finish ChoiceBody = an_operand Other ∷ []
finish InElse = an_operand Other ∷ []
finish LocalBody = an_operand Other ∷ []
finish InOther = an_operand Other ∷ []
finish _ = an_operand Other ∷ []

abbrev pub has_any : List Construct → Bool
has_any [] = false
has_any (c ∷ cs) = true

pub reads_finish : (m : Mark) → is_reading m ≡ true → has_any (ending (along (finish m) (residue m))) ≡ true
unfolding all_open
reads_finish FairSubscript h = refl
reads_finish QuantifiedName h = refl
reads_finish ChosenName h = refl
reads_finish LocalName h = refl
reads_finish FieldName h = refl
reads_finish BangName h = refl
reads_finish MappedName h = refl
reads_finish ArgumentName h = refl
reads_finish UpdateBang h = refl
reads_finish Subscript h = refl
reads_finish FairOpens h = refl
reads_finish BehindQuantified h = refl
reads_finish BehindChosen h = refl
reads_finish LocalHead h = refl
reads_finish FoldOperator h = refl
reads_finish BehindFoldOperator h = refl
reads_finish FoldFirst h = refl
reads_finish BehindMapped h = refl
reads_finish ValueName h = refl
reads_finish BehindArgument h = refl
reads_finish SetName h = refl
reads_finish UpdatePath h = refl
reads_finish LocalParameter h = refl
reads_finish LocalArgument h = refl
reads_finish BehindFoldFirst h = refl
reads_finish BehindValueName h = refl
reads_finish BehindSetName h = refl
reads_finish UpdateField h = refl
reads_finish NextBoundName h = refl
reads_finish BehindOther h = refl
reads_finish BehindParameter h = refl
reads_finish BehindLocalArgument h = refl
reads_finish FoldSecond h = refl
reads_finish BehindStep h = refl
reads_finish BehindBoundName h = refl
reads_finish LocalDefines h = refl
reads_finish BehindFoldSecond h = refl
reads_finish _ h = cc

pub wants_finish : (m : Mark) → is_wanting m ≡ true → has_any (ending (along (finish m) (residue m))) ≡ true
unfolding all_open
wants_finish InParen h = refl
wants_finish InItems h = refl
wants_finish InBracket h = refl
wants_finish InTuple h = refl
wants_finish InIf h = refl
wants_finish InGuard h = refl
wants_finish InIndex h = refl
wants_finish InCall h = refl
wants_finish InMoreItems h = refl
wants_finish InFilter h = refl
wants_finish InResultSet h = refl
wants_finish InFunctionBody h = refl
wants_finish InFieldValue h = refl
wants_finish InFieldSet h = refl
wants_finish InMoreTuple h = refl
wants_finish InFairTuple h = refl
wants_finish InFairParen h = refl
wants_finish InThen h = refl
wants_finish InFoldStart h = refl
wants_finish InSubscriptTuple h = refl
wants_finish InSubscriptParen h = refl
wants_finish InFair h = refl
wants_finish InMoreFair h = refl
wants_finish InBound h = refl
wants_finish InChoiceSet h = refl
wants_finish InNextGuard h = refl
wants_finish InDefinition h = refl
wants_finish InFoldSequence h = refl
wants_finish InMappedSet h = refl
wants_finish InArgumentSet h = refl
wants_finish InUpdateIndex h = refl
wants_finish InMoreSubscript h = refl
wants_finish InLocalSet h = refl
wants_finish InUpdateValue h = refl
wants_finish InFoldBody h = refl
wants_finish _ h = cc
