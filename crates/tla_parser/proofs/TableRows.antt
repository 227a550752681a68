-- The table of forms is equal to the templates, behind operands and in their place, and at every mark.
use Rattle.std.proofs.Common.{Bool, true, false, ◌≡◌, [], refl}
use Rattle.tla_parser.specs.Operators.{number_of}
use Rattle.tla_parser.specs.inner.Moves.{body_rows, bracket_rows, fair_rows, fold_rows, found, heads, in_braces, in_brackets, in_units, insteads, listed_heads, local_heads, local_rows, module_heads, name_heads, opens, postfixes, recursive_heads, rows, subscript_heads, tuple_rows, unit_heads, update_heads, update_rows}
use Rattle.tla_parser.specs.Forms.{a_token, an_operand, templates}
use Rattle.tla_parser.specs.declared.signs.Sign.{Sign}
use Rattle.tla_parser.specs.declared.signs.Sign.TheVariants.{Number}
use Rattle.tla_parser.specs.declared.moves.Class.{Class}
use Rattle.tla_parser.specs.declared.moves.Class.TheVariants.{BareName, FoldName, Joined, Member, Other, PathName, Tuple, TupleMember}
use Rattle.tla_parser.specs.declared.moves.Mark.{Mark}
use Rattle.tla_parser.specs.declared.moves.Mark.TheVariants.{ArgumentName, AtTop, BangName, BehindArgument, BehindArity, BehindBlank, BehindBoundName, BehindChosen, BehindDeclared, BehindExtended, BehindFoldFirst, BehindFoldOperator, BehindFoldSecond, BehindHeader, BehindInstance, BehindLocalArgument, BehindMapped, BehindOther, BehindParameter, BehindQuantified, BehindRecursive, BehindSetName, BehindStep, BehindSubstituted, BehindUnitArgument, BehindUnitParameter, BehindValueName, BetweenUnits, Bullets, ChoiceBody, ChosenName, DeclaredName, ExtendedName, FairOpens, FairSubscript, FieldName, Finished, FoldFirst, FoldOperator, FoldSecond, InArgumentSet, InArm, InAssumption, InBody, InBound, InBracket, InCall, InChoiceSet, InDefinition, InElse, InFair, InFairParen, InFairTuple, InFieldSet, InFieldValue, InFilter, InFoldBody, InFoldSequence, InFoldStart, InFunctionBody, InGuard, InIf, InIndex, InItems, InLocalSet, InMappedSet, InMoreFair, InMoreItems, InMoreSubscript, InMoreTuple, InNamedAssumption, InNamedStatement, InNextGuard, InOther, InParen, InPlainBody, InReplacement, InResultSet, InStatement, InSubscriptParen, InSubscriptTuple, InThen, InTuple, InUnitSet, InUpdateIndex, InUpdateValue, InstanceName, LocalArgument, LocalBody, LocalDefines, LocalHead, LocalName, LocalParameter, LocalUnit, MappedName, ModuleHead, ModuleName, ModuleNamed, NextBoundName, QuantifiedName, QuantifierBody, RecursiveBlank, RecursiveName, SetName, Subscript, Substituted, UnitArgument, UnitDefines, UnitHead, UnitParameter, UpdateBang, UpdateField, UpdatePath, ValueName}
use Rattle.tla_parser.specs.declared.moves.Next.TheVariants.{Reads, Wants, Last}
use Rattle.tla_parser.proofs.TableLaw.{behind_all, residue, is_reading, is_wanting, is_lasting, left_of, list_left, bullets_left, bullet_token, heads_FairSubscript, heads_QuantifiedName, heads_ChosenName, heads_LocalName, heads_FieldName, heads_BangName, heads_MappedName, heads_ArgumentName, heads_UpdateBang, heads_Subscript, heads_FairOpens, heads_BehindQuantified, heads_BehindChosen, heads_LocalHead, heads_FoldOperator, heads_BehindFoldOperator, heads_FoldFirst, heads_BehindMapped, heads_ValueName, heads_BehindArgument, heads_SetName, heads_UpdatePath, heads_LocalParameter, heads_LocalArgument, heads_BehindFoldFirst, heads_BehindValueName, heads_BehindSetName, heads_UpdateField, heads_NextBoundName, heads_BehindOther, heads_BehindParameter, heads_BehindLocalArgument, heads_FoldSecond, heads_BehindStep, heads_BehindBoundName, heads_LocalDefines, heads_BehindFoldSecond}

all_open : Bool
unfolding templates residue list_left bullets_left number_of opens postfixes rows local_rows bracket_rows update_rows tuple_rows fair_rows fold_rows body_rows in_braces in_brackets heads listed_heads update_heads subscript_heads local_heads module_heads unit_heads name_heads recursive_heads insteads is_reading is_wanting is_lasting
all_open = true

rows_InParen : (s : Sign) (k : Class) → behind_all (a_token s) (behind_all (an_operand k) (residue InParen)) ≡ left_of (found s (rows InParen k))
unfolding all_open
rows_InParen Number k = refl
rows_InParen _ k = refl

insteads_InParen : (s : Sign) → behind_all (a_token s) (residue InParen) ≡ left_of (found s (insteads InParen))
unfolding all_open
insteads_InParen Number = refl
insteads_InParen _ = refl

rows_InItems_BareName : (s : Sign) → behind_all (a_token s) (behind_all (an_operand BareName) (residue InItems)) ≡ left_of (found s (rows InItems BareName))
unfolding all_open
rows_InItems_BareName Number = refl
rows_InItems_BareName _ = refl

rows_InItems_PathName : (s : Sign) → behind_all (a_token s) (behind_all (an_operand PathName) (residue InItems)) ≡ left_of (found s (rows InItems PathName))
unfolding all_open
rows_InItems_PathName Number = refl
rows_InItems_PathName _ = refl

rows_InItems_FoldName : (s : Sign) → behind_all (a_token s) (behind_all (an_operand FoldName) (residue InItems)) ≡ left_of (found s (rows InItems FoldName))
unfolding all_open
rows_InItems_FoldName Number = refl
rows_InItems_FoldName _ = refl

rows_InItems_Other : (s : Sign) → behind_all (a_token s) (behind_all (an_operand Other) (residue InItems)) ≡ left_of (found s (rows InItems Other))
unfolding all_open
rows_InItems_Other Number = refl
rows_InItems_Other _ = refl

rows_InItems_Member : (s : Sign) → behind_all (a_token s) (behind_all (an_operand Member) (residue InItems)) ≡ left_of (found s (rows InItems Member))
unfolding all_open
rows_InItems_Member Number = refl
rows_InItems_Member _ = refl

rows_InItems_Tuple : (s : Sign) → behind_all (a_token s) (behind_all (an_operand Tuple) (residue InItems)) ≡ left_of (found s (rows InItems Tuple))
unfolding all_open
rows_InItems_Tuple Number = refl
rows_InItems_Tuple _ = refl

rows_InItems_TupleMember : (s : Sign) → behind_all (a_token s) (behind_all (an_operand TupleMember) (residue InItems)) ≡ left_of (found s (rows InItems TupleMember))
unfolding all_open
rows_InItems_TupleMember Number = refl
rows_InItems_TupleMember _ = refl

rows_InItems_Joined : (s j : Sign) → behind_all (a_token s) (behind_all (an_operand (Joined j)) (residue InItems)) ≡ left_of (found s (rows InItems (Joined j)))
unfolding all_open
rows_InItems_Joined Number j = refl
rows_InItems_Joined _ j = refl

rows_InItems : (s : Sign) (k : Class) → behind_all (a_token s) (behind_all (an_operand k) (residue InItems)) ≡ left_of (found s (rows InItems k))
rows_InItems s BareName = rows_InItems_BareName s
rows_InItems s PathName = rows_InItems_PathName s
rows_InItems s FoldName = rows_InItems_FoldName s
rows_InItems s Other = rows_InItems_Other s
rows_InItems s Member = rows_InItems_Member s
rows_InItems s (Joined j) = rows_InItems_Joined s j
rows_InItems s Tuple = rows_InItems_Tuple s
rows_InItems s TupleMember = rows_InItems_TupleMember s

insteads_InItems : (s : Sign) → behind_all (a_token s) (residue InItems) ≡ left_of (found s (insteads InItems))
unfolding all_open
insteads_InItems Number = refl
insteads_InItems _ = refl

rows_InBracket_BareName : (s : Sign) → behind_all (a_token s) (behind_all (an_operand BareName) (residue InBracket)) ≡ left_of (found s (rows InBracket BareName))
unfolding all_open
rows_InBracket_BareName Number = refl
rows_InBracket_BareName _ = refl

rows_InBracket_PathName : (s : Sign) → behind_all (a_token s) (behind_all (an_operand PathName) (residue InBracket)) ≡ left_of (found s (rows InBracket PathName))
unfolding all_open
rows_InBracket_PathName Number = refl
rows_InBracket_PathName _ = refl

rows_InBracket_FoldName : (s : Sign) → behind_all (a_token s) (behind_all (an_operand FoldName) (residue InBracket)) ≡ left_of (found s (rows InBracket FoldName))
unfolding all_open
rows_InBracket_FoldName Number = refl
rows_InBracket_FoldName _ = refl

rows_InBracket_Other : (s : Sign) → behind_all (a_token s) (behind_all (an_operand Other) (residue InBracket)) ≡ left_of (found s (rows InBracket Other))
unfolding all_open
rows_InBracket_Other Number = refl
rows_InBracket_Other _ = refl

rows_InBracket_Member : (s : Sign) → behind_all (a_token s) (behind_all (an_operand Member) (residue InBracket)) ≡ left_of (found s (rows InBracket Member))
unfolding all_open
rows_InBracket_Member Number = refl
rows_InBracket_Member _ = refl

rows_InBracket_Tuple : (s : Sign) → behind_all (a_token s) (behind_all (an_operand Tuple) (residue InBracket)) ≡ left_of (found s (rows InBracket Tuple))
unfolding all_open
rows_InBracket_Tuple Number = refl
rows_InBracket_Tuple _ = refl

rows_InBracket_TupleMember : (s : Sign) → behind_all (a_token s) (behind_all (an_operand TupleMember) (residue InBracket)) ≡ left_of (found s (rows InBracket TupleMember))
unfolding all_open
rows_InBracket_TupleMember Number = refl
rows_InBracket_TupleMember _ = refl

rows_InBracket_Joined : (s j : Sign) → behind_all (a_token s) (behind_all (an_operand (Joined j)) (residue InBracket)) ≡ left_of (found s (rows InBracket (Joined j)))
unfolding all_open
rows_InBracket_Joined Number j = refl
rows_InBracket_Joined _ j = refl

rows_InBracket : (s : Sign) (k : Class) → behind_all (a_token s) (behind_all (an_operand k) (residue InBracket)) ≡ left_of (found s (rows InBracket k))
rows_InBracket s BareName = rows_InBracket_BareName s
rows_InBracket s PathName = rows_InBracket_PathName s
rows_InBracket s FoldName = rows_InBracket_FoldName s
rows_InBracket s Other = rows_InBracket_Other s
rows_InBracket s Member = rows_InBracket_Member s
rows_InBracket s (Joined j) = rows_InBracket_Joined s j
rows_InBracket s Tuple = rows_InBracket_Tuple s
rows_InBracket s TupleMember = rows_InBracket_TupleMember s

insteads_InBracket : (s : Sign) → behind_all (a_token s) (residue InBracket) ≡ left_of (found s (insteads InBracket))
unfolding all_open
insteads_InBracket Number = refl
insteads_InBracket _ = refl

rows_InTuple : (s : Sign) (k : Class) → behind_all (a_token s) (behind_all (an_operand k) (residue InTuple)) ≡ left_of (found s (rows InTuple k))
unfolding all_open
rows_InTuple Number k = refl
rows_InTuple _ k = refl

insteads_InTuple : (s : Sign) → behind_all (a_token s) (residue InTuple) ≡ left_of (found s (insteads InTuple))
unfolding all_open
insteads_InTuple Number = refl
insteads_InTuple _ = refl

rows_InIf : (s : Sign) (k : Class) → behind_all (a_token s) (behind_all (an_operand k) (residue InIf)) ≡ left_of (found s (rows InIf k))
unfolding all_open
rows_InIf Number k = refl
rows_InIf _ k = refl

insteads_InIf : (s : Sign) → behind_all (a_token s) (residue InIf) ≡ left_of (found s (insteads InIf))
unfolding all_open
insteads_InIf Number = refl
insteads_InIf _ = refl

rows_InGuard : (s : Sign) (k : Class) → behind_all (a_token s) (behind_all (an_operand k) (residue InGuard)) ≡ left_of (found s (rows InGuard k))
unfolding all_open
rows_InGuard Number k = refl
rows_InGuard _ k = refl

insteads_InGuard : (s : Sign) → behind_all (a_token s) (residue InGuard) ≡ left_of (found s (insteads InGuard))
unfolding all_open
insteads_InGuard Number = refl
insteads_InGuard _ = refl

rows_InIndex : (s : Sign) (k : Class) → behind_all (a_token s) (behind_all (an_operand k) (residue InIndex)) ≡ left_of (found s (rows InIndex k))
unfolding all_open
rows_InIndex Number k = refl
rows_InIndex _ k = refl

insteads_InIndex : (s : Sign) → behind_all (a_token s) (residue InIndex) ≡ left_of (found s (insteads InIndex))
unfolding all_open
insteads_InIndex Number = refl
insteads_InIndex _ = refl

rows_InCall : (s : Sign) (k : Class) → behind_all (a_token s) (behind_all (an_operand k) (residue InCall)) ≡ left_of (found s (rows InCall k))
unfolding all_open
rows_InCall Number k = refl
rows_InCall _ k = refl

insteads_InCall : (s : Sign) → behind_all (a_token s) (residue InCall) ≡ left_of (found s (insteads InCall))
unfolding all_open
insteads_InCall Number = refl
insteads_InCall _ = refl

rows_InMoreItems : (s : Sign) (k : Class) → behind_all (a_token s) (behind_all (an_operand k) (residue InMoreItems)) ≡ left_of (found s (rows InMoreItems k))
unfolding all_open
rows_InMoreItems Number k = refl
rows_InMoreItems _ k = refl

insteads_InMoreItems : (s : Sign) → behind_all (a_token s) (residue InMoreItems) ≡ left_of (found s (insteads InMoreItems))
unfolding all_open
insteads_InMoreItems Number = refl
insteads_InMoreItems _ = refl

rows_InFilter : (s : Sign) (k : Class) → behind_all (a_token s) (behind_all (an_operand k) (residue InFilter)) ≡ left_of (found s (rows InFilter k))
unfolding all_open
rows_InFilter Number k = refl
rows_InFilter _ k = refl

insteads_InFilter : (s : Sign) → behind_all (a_token s) (residue InFilter) ≡ left_of (found s (insteads InFilter))
unfolding all_open
insteads_InFilter Number = refl
insteads_InFilter _ = refl

rows_InResultSet : (s : Sign) (k : Class) → behind_all (a_token s) (behind_all (an_operand k) (residue InResultSet)) ≡ left_of (found s (rows InResultSet k))
unfolding all_open
rows_InResultSet Number k = refl
rows_InResultSet _ k = refl

insteads_InResultSet : (s : Sign) → behind_all (a_token s) (residue InResultSet) ≡ left_of (found s (insteads InResultSet))
unfolding all_open
insteads_InResultSet Number = refl
insteads_InResultSet _ = refl

rows_InFunctionBody : (s : Sign) (k : Class) → behind_all (a_token s) (behind_all (an_operand k) (residue InFunctionBody)) ≡ left_of (found s (rows InFunctionBody k))
unfolding all_open
rows_InFunctionBody Number k = refl
rows_InFunctionBody _ k = refl

insteads_InFunctionBody : (s : Sign) → behind_all (a_token s) (residue InFunctionBody) ≡ left_of (found s (insteads InFunctionBody))
unfolding all_open
insteads_InFunctionBody Number = refl
insteads_InFunctionBody _ = refl

rows_InFieldValue : (s : Sign) (k : Class) → behind_all (a_token s) (behind_all (an_operand k) (residue InFieldValue)) ≡ left_of (found s (rows InFieldValue k))
unfolding all_open
rows_InFieldValue Number k = refl
rows_InFieldValue _ k = refl

insteads_InFieldValue : (s : Sign) → behind_all (a_token s) (residue InFieldValue) ≡ left_of (found s (insteads InFieldValue))
unfolding all_open
insteads_InFieldValue Number = refl
insteads_InFieldValue _ = refl

rows_InFieldSet : (s : Sign) (k : Class) → behind_all (a_token s) (behind_all (an_operand k) (residue InFieldSet)) ≡ left_of (found s (rows InFieldSet k))
unfolding all_open
rows_InFieldSet Number k = refl
rows_InFieldSet _ k = refl

insteads_InFieldSet : (s : Sign) → behind_all (a_token s) (residue InFieldSet) ≡ left_of (found s (insteads InFieldSet))
unfolding all_open
insteads_InFieldSet Number = refl
insteads_InFieldSet _ = refl

rows_InMoreTuple : (s : Sign) (k : Class) → behind_all (a_token s) (behind_all (an_operand k) (residue InMoreTuple)) ≡ left_of (found s (rows InMoreTuple k))
unfolding all_open
rows_InMoreTuple Number k = refl
rows_InMoreTuple _ k = refl

insteads_InMoreTuple : (s : Sign) → behind_all (a_token s) (residue InMoreTuple) ≡ left_of (found s (insteads InMoreTuple))
unfolding all_open
insteads_InMoreTuple Number = refl
insteads_InMoreTuple _ = refl

rows_InFairTuple : (s : Sign) (k : Class) → behind_all (a_token s) (behind_all (an_operand k) (residue InFairTuple)) ≡ left_of (found s (rows InFairTuple k))
unfolding all_open
rows_InFairTuple Number k = refl
rows_InFairTuple _ k = refl

insteads_InFairTuple : (s : Sign) → behind_all (a_token s) (residue InFairTuple) ≡ left_of (found s (insteads InFairTuple))
unfolding all_open
insteads_InFairTuple Number = refl
insteads_InFairTuple _ = refl

rows_InFairParen : (s : Sign) (k : Class) → behind_all (a_token s) (behind_all (an_operand k) (residue InFairParen)) ≡ left_of (found s (rows InFairParen k))
unfolding all_open
rows_InFairParen Number k = refl
rows_InFairParen _ k = refl

insteads_InFairParen : (s : Sign) → behind_all (a_token s) (residue InFairParen) ≡ left_of (found s (insteads InFairParen))
unfolding all_open
insteads_InFairParen Number = refl
insteads_InFairParen _ = refl

rows_InThen : (s : Sign) (k : Class) → behind_all (a_token s) (behind_all (an_operand k) (residue InThen)) ≡ left_of (found s (rows InThen k))
unfolding all_open
rows_InThen Number k = refl
rows_InThen _ k = refl

insteads_InThen : (s : Sign) → behind_all (a_token s) (residue InThen) ≡ left_of (found s (insteads InThen))
unfolding all_open
insteads_InThen Number = refl
insteads_InThen _ = refl

rows_InFoldStart : (s : Sign) (k : Class) → behind_all (a_token s) (behind_all (an_operand k) (residue InFoldStart)) ≡ left_of (found s (rows InFoldStart k))
unfolding all_open
rows_InFoldStart Number k = refl
rows_InFoldStart _ k = refl

insteads_InFoldStart : (s : Sign) → behind_all (a_token s) (residue InFoldStart) ≡ left_of (found s (insteads InFoldStart))
unfolding all_open
insteads_InFoldStart Number = refl
insteads_InFoldStart _ = refl

rows_InSubscriptTuple : (s : Sign) (k : Class) → behind_all (a_token s) (behind_all (an_operand k) (residue InSubscriptTuple)) ≡ left_of (found s (rows InSubscriptTuple k))
unfolding all_open
rows_InSubscriptTuple Number k = refl
rows_InSubscriptTuple _ k = refl

insteads_InSubscriptTuple : (s : Sign) → behind_all (a_token s) (residue InSubscriptTuple) ≡ left_of (found s (insteads InSubscriptTuple))
unfolding all_open
insteads_InSubscriptTuple Number = refl
insteads_InSubscriptTuple _ = refl

rows_InSubscriptParen : (s : Sign) (k : Class) → behind_all (a_token s) (behind_all (an_operand k) (residue InSubscriptParen)) ≡ left_of (found s (rows InSubscriptParen k))
unfolding all_open
rows_InSubscriptParen Number k = refl
rows_InSubscriptParen _ k = refl

insteads_InSubscriptParen : (s : Sign) → behind_all (a_token s) (residue InSubscriptParen) ≡ left_of (found s (insteads InSubscriptParen))
unfolding all_open
insteads_InSubscriptParen Number = refl
insteads_InSubscriptParen _ = refl

rows_InFair : (s : Sign) (k : Class) → behind_all (a_token s) (behind_all (an_operand k) (residue InFair)) ≡ left_of (found s (rows InFair k))
unfolding all_open
rows_InFair Number k = refl
rows_InFair _ k = refl

insteads_InFair : (s : Sign) → behind_all (a_token s) (residue InFair) ≡ left_of (found s (insteads InFair))
unfolding all_open
insteads_InFair Number = refl
insteads_InFair _ = refl

rows_InMoreFair : (s : Sign) (k : Class) → behind_all (a_token s) (behind_all (an_operand k) (residue InMoreFair)) ≡ left_of (found s (rows InMoreFair k))
unfolding all_open
rows_InMoreFair Number k = refl
rows_InMoreFair _ k = refl

insteads_InMoreFair : (s : Sign) → behind_all (a_token s) (residue InMoreFair) ≡ left_of (found s (insteads InMoreFair))
unfolding all_open
insteads_InMoreFair Number = refl
insteads_InMoreFair _ = refl

rows_InBound : (s : Sign) (k : Class) → behind_all (a_token s) (behind_all (an_operand k) (residue InBound)) ≡ left_of (found s (rows InBound k))
unfolding all_open
rows_InBound Number k = refl
rows_InBound _ k = refl

insteads_InBound : (s : Sign) → behind_all (a_token s) (residue InBound) ≡ left_of (found s (insteads InBound))
unfolding all_open
insteads_InBound Number = refl
insteads_InBound _ = refl

rows_InChoiceSet : (s : Sign) (k : Class) → behind_all (a_token s) (behind_all (an_operand k) (residue InChoiceSet)) ≡ left_of (found s (rows InChoiceSet k))
unfolding all_open
rows_InChoiceSet Number k = refl
rows_InChoiceSet _ k = refl

insteads_InChoiceSet : (s : Sign) → behind_all (a_token s) (residue InChoiceSet) ≡ left_of (found s (insteads InChoiceSet))
unfolding all_open
insteads_InChoiceSet Number = refl
insteads_InChoiceSet _ = refl

rows_InNextGuard : (s : Sign) (k : Class) → behind_all (a_token s) (behind_all (an_operand k) (residue InNextGuard)) ≡ left_of (found s (rows InNextGuard k))
unfolding all_open
rows_InNextGuard Number k = refl
rows_InNextGuard _ k = refl

insteads_InNextGuard : (s : Sign) → behind_all (a_token s) (residue InNextGuard) ≡ left_of (found s (insteads InNextGuard))
unfolding all_open
insteads_InNextGuard Number = refl
insteads_InNextGuard _ = refl

rows_InDefinition : (s : Sign) (k : Class) → behind_all (a_token s) (behind_all (an_operand k) (residue InDefinition)) ≡ left_of (found s (rows InDefinition k))
unfolding all_open
rows_InDefinition Number k = refl
rows_InDefinition _ k = refl

insteads_InDefinition : (s : Sign) → behind_all (a_token s) (residue InDefinition) ≡ left_of (found s (insteads InDefinition))
unfolding all_open
insteads_InDefinition Number = refl
insteads_InDefinition _ = refl

rows_InFoldSequence : (s : Sign) (k : Class) → behind_all (a_token s) (behind_all (an_operand k) (residue InFoldSequence)) ≡ left_of (found s (rows InFoldSequence k))
unfolding all_open
rows_InFoldSequence Number k = refl
rows_InFoldSequence _ k = refl

insteads_InFoldSequence : (s : Sign) → behind_all (a_token s) (residue InFoldSequence) ≡ left_of (found s (insteads InFoldSequence))
unfolding all_open
insteads_InFoldSequence Number = refl
insteads_InFoldSequence _ = refl

rows_InMappedSet : (s : Sign) (k : Class) → behind_all (a_token s) (behind_all (an_operand k) (residue InMappedSet)) ≡ left_of (found s (rows InMappedSet k))
unfolding all_open
rows_InMappedSet Number k = refl
rows_InMappedSet _ k = refl

insteads_InMappedSet : (s : Sign) → behind_all (a_token s) (residue InMappedSet) ≡ left_of (found s (insteads InMappedSet))
unfolding all_open
insteads_InMappedSet Number = refl
insteads_InMappedSet _ = refl

rows_InArgumentSet : (s : Sign) (k : Class) → behind_all (a_token s) (behind_all (an_operand k) (residue InArgumentSet)) ≡ left_of (found s (rows InArgumentSet k))
unfolding all_open
rows_InArgumentSet Number k = refl
rows_InArgumentSet _ k = refl

insteads_InArgumentSet : (s : Sign) → behind_all (a_token s) (residue InArgumentSet) ≡ left_of (found s (insteads InArgumentSet))
unfolding all_open
insteads_InArgumentSet Number = refl
insteads_InArgumentSet _ = refl

rows_InUpdateIndex : (s : Sign) (k : Class) → behind_all (a_token s) (behind_all (an_operand k) (residue InUpdateIndex)) ≡ left_of (found s (rows InUpdateIndex k))
unfolding all_open
rows_InUpdateIndex Number k = refl
rows_InUpdateIndex _ k = refl

insteads_InUpdateIndex : (s : Sign) → behind_all (a_token s) (residue InUpdateIndex) ≡ left_of (found s (insteads InUpdateIndex))
unfolding all_open
insteads_InUpdateIndex Number = refl
insteads_InUpdateIndex _ = refl

rows_InMoreSubscript : (s : Sign) (k : Class) → behind_all (a_token s) (behind_all (an_operand k) (residue InMoreSubscript)) ≡ left_of (found s (rows InMoreSubscript k))
unfolding all_open
rows_InMoreSubscript Number k = refl
rows_InMoreSubscript _ k = refl

insteads_InMoreSubscript : (s : Sign) → behind_all (a_token s) (residue InMoreSubscript) ≡ left_of (found s (insteads InMoreSubscript))
unfolding all_open
insteads_InMoreSubscript Number = refl
insteads_InMoreSubscript _ = refl

rows_InLocalSet : (s : Sign) (k : Class) → behind_all (a_token s) (behind_all (an_operand k) (residue InLocalSet)) ≡ left_of (found s (rows InLocalSet k))
unfolding all_open
rows_InLocalSet Number k = refl
rows_InLocalSet _ k = refl

insteads_InLocalSet : (s : Sign) → behind_all (a_token s) (residue InLocalSet) ≡ left_of (found s (insteads InLocalSet))
unfolding all_open
insteads_InLocalSet Number = refl
insteads_InLocalSet _ = refl

rows_InUpdateValue : (s : Sign) (k : Class) → behind_all (a_token s) (behind_all (an_operand k) (residue InUpdateValue)) ≡ left_of (found s (rows InUpdateValue k))
unfolding all_open
rows_InUpdateValue Number k = refl
rows_InUpdateValue _ k = refl

insteads_InUpdateValue : (s : Sign) → behind_all (a_token s) (residue InUpdateValue) ≡ left_of (found s (insteads InUpdateValue))
unfolding all_open
insteads_InUpdateValue Number = refl
insteads_InUpdateValue _ = refl

rows_InFoldBody : (s : Sign) (k : Class) → behind_all (a_token s) (behind_all (an_operand k) (residue InFoldBody)) ≡ left_of (found s (rows InFoldBody k))
unfolding all_open
rows_InFoldBody Number k = refl
rows_InFoldBody _ k = refl

insteads_InFoldBody : (s : Sign) → behind_all (a_token s) (residue InFoldBody) ≡ left_of (found s (insteads InFoldBody))
unfolding all_open
insteads_InFoldBody Number = refl
insteads_InFoldBody _ = refl

rows_InArm : (s : Sign) (k : Class) → behind_all (a_token s) (behind_all (an_operand k) (residue InArm)) ≡ left_of (found s (rows InArm k))
unfolding all_open
rows_InArm Number k = refl
rows_InArm _ k = refl

insteads_InArm : (s : Sign) → behind_all (a_token s) (residue InArm) ≡ left_of (found s (insteads InArm))
unfolding all_open
insteads_InArm Number = refl
insteads_InArm _ = refl

rows_QuantifierBody : (s : Sign) (k : Class) → behind_all (a_token s) (behind_all (an_operand k) (residue QuantifierBody)) ≡ left_of (found s (rows QuantifierBody k))
unfolding all_open
rows_QuantifierBody Number k = refl
rows_QuantifierBody _ k = refl

insteads_QuantifierBody : (s : Sign) → behind_all (a_token s) (residue QuantifierBody) ≡ left_of (found s (insteads QuantifierBody))
unfolding all_open
insteads_QuantifierBody Number = refl
insteads_QuantifierBody _ = refl

rows_ChoiceBody : (s : Sign) (k : Class) → behind_all (a_token s) (behind_all (an_operand k) (residue ChoiceBody)) ≡ left_of (found s (rows ChoiceBody k))
unfolding all_open
rows_ChoiceBody Number k = refl
rows_ChoiceBody _ k = refl

insteads_ChoiceBody : (s : Sign) → behind_all (a_token s) (residue ChoiceBody) ≡ left_of (found s (insteads ChoiceBody))
unfolding all_open
insteads_ChoiceBody Number = refl
insteads_ChoiceBody _ = refl

rows_InElse : (s : Sign) (k : Class) → behind_all (a_token s) (behind_all (an_operand k) (residue InElse)) ≡ left_of (found s (rows InElse k))
unfolding all_open
rows_InElse Number k = refl
rows_InElse _ k = refl

insteads_InElse : (s : Sign) → behind_all (a_token s) (residue InElse) ≡ left_of (found s (insteads InElse))
unfolding all_open
insteads_InElse Number = refl
insteads_InElse _ = refl

rows_LocalBody : (s : Sign) (k : Class) → behind_all (a_token s) (behind_all (an_operand k) (residue LocalBody)) ≡ left_of (found s (rows LocalBody k))
unfolding all_open
rows_LocalBody Number k = refl
rows_LocalBody _ k = refl

insteads_LocalBody : (s : Sign) → behind_all (a_token s) (residue LocalBody) ≡ left_of (found s (insteads LocalBody))
unfolding all_open
insteads_LocalBody Number = refl
insteads_LocalBody _ = refl

rows_InOther : (s : Sign) (k : Class) → behind_all (a_token s) (behind_all (an_operand k) (residue InOther)) ≡ left_of (found s (rows InOther k))
unfolding all_open
rows_InOther Number k = refl
rows_InOther _ k = refl

insteads_InOther : (s : Sign) → behind_all (a_token s) (residue InOther) ≡ left_of (found s (insteads InOther))
unfolding all_open
insteads_InOther Number = refl
insteads_InOther _ = refl

-- ---- at every mark

pub heads_law : (m : Mark) (s : Sign) → in_units m ≡ false → behind_all (a_token s) (left_of (Reads m)) ≡ left_of (found s (heads m))
unfolding is_reading heads listed_heads update_heads subscript_heads local_heads module_heads unit_heads name_heads recursive_heads in_units
heads_law FairSubscript s h = heads_FairSubscript s
heads_law QuantifiedName s h = heads_QuantifiedName s
heads_law ChosenName s h = heads_ChosenName s
heads_law LocalName s h = heads_LocalName s
heads_law FieldName s h = heads_FieldName s
heads_law BangName s h = heads_BangName s
heads_law MappedName s h = heads_MappedName s
heads_law ArgumentName s h = heads_ArgumentName s
heads_law UpdateBang s h = heads_UpdateBang s
heads_law Subscript s h = heads_Subscript s
heads_law FairOpens s h = heads_FairOpens s
heads_law BehindQuantified s h = heads_BehindQuantified s
heads_law BehindChosen s h = heads_BehindChosen s
heads_law LocalHead s h = heads_LocalHead s
heads_law FoldOperator s h = heads_FoldOperator s
heads_law BehindFoldOperator s h = heads_BehindFoldOperator s
heads_law FoldFirst s h = heads_FoldFirst s
heads_law BehindMapped s h = heads_BehindMapped s
heads_law ValueName s h = heads_ValueName s
heads_law BehindArgument s h = heads_BehindArgument s
heads_law SetName s h = heads_SetName s
heads_law UpdatePath s h = heads_UpdatePath s
heads_law LocalParameter s h = heads_LocalParameter s
heads_law LocalArgument s h = heads_LocalArgument s
heads_law BehindFoldFirst s h = heads_BehindFoldFirst s
heads_law BehindValueName s h = heads_BehindValueName s
heads_law BehindSetName s h = heads_BehindSetName s
heads_law UpdateField s h = heads_UpdateField s
heads_law NextBoundName s h = heads_NextBoundName s
heads_law BehindOther s h = heads_BehindOther s
heads_law BehindParameter s h = heads_BehindParameter s
heads_law BehindLocalArgument s h = heads_BehindLocalArgument s
heads_law FoldSecond s h = heads_FoldSecond s
heads_law BehindStep s h = heads_BehindStep s
heads_law BehindBoundName s h = heads_BehindBoundName s
heads_law LocalDefines s h = heads_LocalDefines s
heads_law BehindFoldSecond s h = heads_BehindFoldSecond s
heads_law AtTop s h = cc
heads_law BehindArity s h = cc
heads_law BehindBlank s h = cc
heads_law BehindDeclared s h = cc
heads_law BehindExtended s h = cc
heads_law BehindHeader s h = cc
heads_law BehindInstance s h = cc
heads_law BehindRecursive s h = cc
heads_law BehindSubstituted s h = cc
heads_law BehindUnitArgument s h = cc
heads_law BehindUnitParameter s h = cc
heads_law BetweenUnits s h = cc
heads_law DeclaredName s h = cc
heads_law ExtendedName s h = cc
heads_law Finished s h = cc
heads_law InAssumption s h = cc
heads_law InBody s h = cc
heads_law InNamedAssumption s h = cc
heads_law InNamedStatement s h = cc
heads_law InPlainBody s h = cc
heads_law InReplacement s h = cc
heads_law InStatement s h = cc
heads_law InUnitSet s h = cc
heads_law InstanceName s h = cc
heads_law LocalUnit s h = cc
heads_law ModuleHead s h = cc
heads_law ModuleName s h = cc
heads_law ModuleNamed s h = cc
heads_law RecursiveBlank s h = cc
heads_law RecursiveName s h = cc
heads_law Substituted s h = cc
heads_law UnitArgument s h = cc
heads_law UnitDefines s h = cc
heads_law UnitHead s h = cc
heads_law UnitParameter s h = cc
heads_law _ s h = refl

pub wants_law : (m : Mark) (s : Sign) → in_units m ≡ false → behind_all (a_token s) (left_of (Wants m)) ≡ left_of (found s (insteads m))
unfolding is_wanting insteads in_units
wants_law InParen s h = insteads_InParen s
wants_law InItems s h = insteads_InItems s
wants_law InBracket s h = insteads_InBracket s
wants_law InTuple s h = insteads_InTuple s
wants_law InIf s h = insteads_InIf s
wants_law InGuard s h = insteads_InGuard s
wants_law InIndex s h = insteads_InIndex s
wants_law InCall s h = insteads_InCall s
wants_law InMoreItems s h = insteads_InMoreItems s
wants_law InFilter s h = insteads_InFilter s
wants_law InResultSet s h = insteads_InResultSet s
wants_law InFunctionBody s h = insteads_InFunctionBody s
wants_law InFieldValue s h = insteads_InFieldValue s
wants_law InFieldSet s h = insteads_InFieldSet s
wants_law InMoreTuple s h = insteads_InMoreTuple s
wants_law InFairTuple s h = insteads_InFairTuple s
wants_law InFairParen s h = insteads_InFairParen s
wants_law InThen s h = insteads_InThen s
wants_law InFoldStart s h = insteads_InFoldStart s
wants_law InSubscriptTuple s h = insteads_InSubscriptTuple s
wants_law InSubscriptParen s h = insteads_InSubscriptParen s
wants_law InFair s h = insteads_InFair s
wants_law InMoreFair s h = insteads_InMoreFair s
wants_law InBound s h = insteads_InBound s
wants_law InChoiceSet s h = insteads_InChoiceSet s
wants_law InNextGuard s h = insteads_InNextGuard s
wants_law InDefinition s h = insteads_InDefinition s
wants_law InFoldSequence s h = insteads_InFoldSequence s
wants_law InMappedSet s h = insteads_InMappedSet s
wants_law InArgumentSet s h = insteads_InArgumentSet s
wants_law InUpdateIndex s h = insteads_InUpdateIndex s
wants_law InMoreSubscript s h = insteads_InMoreSubscript s
wants_law InLocalSet s h = insteads_InLocalSet s
wants_law InUpdateValue s h = insteads_InUpdateValue s
wants_law InFoldBody s h = insteads_InFoldBody s
wants_law InBody s h = cc
wants_law _ s h = refl

pub last_law : (m : Mark) (s : Sign) → behind_all (a_token s) (left_of (Last m)) ≡ []
unfolding is_lasting insteads bullets_left
last_law InArm s = insteads_InArm s
last_law QuantifierBody s = insteads_QuantifierBody s
last_law ChoiceBody s = insteads_ChoiceBody s
last_law InElse s = insteads_InElse s
last_law LocalBody s = insteads_LocalBody s
last_law InOther s = insteads_InOther s
last_law (Bullets b n) s = bullet_token b s
last_law _ s = refl

pub wanted_law : (m : Mark) (s : Sign) (k : Class) → in_units m ≡ false → is_wanting m ≡ true → behind_all (a_token s) (behind_all (an_operand k) (left_of (Wants m))) ≡ left_of (found s (rows m k))
unfolding is_wanting
wanted_law InParen s k h w = rows_InParen s k
wanted_law InItems s k h w = rows_InItems s k
wanted_law InBracket s k h w = rows_InBracket s k
wanted_law InTuple s k h w = rows_InTuple s k
wanted_law InIf s k h w = rows_InIf s k
wanted_law InGuard s k h w = rows_InGuard s k
wanted_law InIndex s k h w = rows_InIndex s k
wanted_law InCall s k h w = rows_InCall s k
wanted_law InMoreItems s k h w = rows_InMoreItems s k
wanted_law InFilter s k h w = rows_InFilter s k
wanted_law InResultSet s k h w = rows_InResultSet s k
wanted_law InFunctionBody s k h w = rows_InFunctionBody s k
wanted_law InFieldValue s k h w = rows_InFieldValue s k
wanted_law InFieldSet s k h w = rows_InFieldSet s k
wanted_law InMoreTuple s k h w = rows_InMoreTuple s k
wanted_law InFairTuple s k h w = rows_InFairTuple s k
wanted_law InFairParen s k h w = rows_InFairParen s k
wanted_law InThen s k h w = rows_InThen s k
wanted_law InFoldStart s k h w = rows_InFoldStart s k
wanted_law InSubscriptTuple s k h w = rows_InSubscriptTuple s k
wanted_law InSubscriptParen s k h w = rows_InSubscriptParen s k
wanted_law InFair s k h w = rows_InFair s k
wanted_law InMoreFair s k h w = rows_InMoreFair s k
wanted_law InBound s k h w = rows_InBound s k
wanted_law InChoiceSet s k h w = rows_InChoiceSet s k
wanted_law InNextGuard s k h w = rows_InNextGuard s k
wanted_law InDefinition s k h w = rows_InDefinition s k
wanted_law InFoldSequence s k h w = rows_InFoldSequence s k
wanted_law InMappedSet s k h w = rows_InMappedSet s k
wanted_law InArgumentSet s k h w = rows_InArgumentSet s k
wanted_law InUpdateIndex s k h w = rows_InUpdateIndex s k
wanted_law InMoreSubscript s k h w = rows_InMoreSubscript s k
wanted_law InLocalSet s k h w = rows_InLocalSet s k
wanted_law InUpdateValue s k h w = rows_InUpdateValue s k
wanted_law InFoldBody s k h w = rows_InFoldBody s k
wanted_law _ s k h w = cc

pub lasting_law : (m : Mark) (s : Sign) (k : Class) → is_lasting m ≡ true → behind_all (a_token s) (behind_all (an_operand k) (left_of (Last m))) ≡ left_of (found s (rows m k))
unfolding is_lasting
lasting_law InArm s k w = rows_InArm s k
lasting_law QuantifierBody s k w = rows_QuantifierBody s k
lasting_law ChoiceBody s k w = rows_ChoiceBody s k
lasting_law InElse s k w = rows_InElse s k
lasting_law LocalBody s k w = rows_LocalBody s k
lasting_law InOther s k w = rows_InOther s k
lasting_law _ s k w = cc

pub quiet_law : (m : Mark) (k : Class) → behind_all (an_operand k) (left_of (Reads m)) ≡ []
unfolding all_open is_reading
quiet_law FairSubscript k = refl
quiet_law QuantifiedName k = refl
quiet_law ChosenName k = refl
quiet_law LocalName k = refl
quiet_law FieldName k = refl
quiet_law BangName k = refl
quiet_law MappedName k = refl
quiet_law ArgumentName k = refl
quiet_law UpdateBang k = refl
quiet_law Subscript k = refl
quiet_law FairOpens k = refl
quiet_law BehindQuantified k = refl
quiet_law BehindChosen k = refl
quiet_law LocalHead k = refl
quiet_law FoldFirst k = refl
quiet_law BehindMapped k = refl
quiet_law ValueName k = refl
quiet_law BehindArgument k = refl
quiet_law SetName k = refl
quiet_law UpdatePath k = refl
quiet_law LocalParameter k = refl
quiet_law LocalArgument k = refl
quiet_law BehindFoldFirst k = refl
quiet_law BehindValueName k = refl
quiet_law BehindSetName k = refl
quiet_law UpdateField k = refl
quiet_law NextBoundName k = refl
quiet_law BehindOther k = refl
quiet_law BehindParameter k = refl
quiet_law BehindLocalArgument k = refl
quiet_law FoldSecond k = refl
quiet_law BehindStep k = refl
quiet_law BehindBoundName k = refl
quiet_law LocalDefines k = refl
quiet_law BehindFoldSecond k = refl
quiet_law _ k = refl
