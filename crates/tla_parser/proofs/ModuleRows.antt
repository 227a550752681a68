-- The table of a module's units is equal to the template of a module, from each place in it: by computing, for every
-- token.
use Rattle.std.proofs.Common.{Bool, true, false, ◌≡◌, List, [], ◌∷◌, refl}
use Rattle.tla_parser.proofs.Templates.{behind_part, can_end}
use Rattle.tla_parser.specs.Forms.{Form, FormPart, a_token, an_operand, module_form, never}
use Rattle.tla_parser.specs.Operators.{number_of}
use Rattle.tla_parser.specs.declared.moves.Class.{Class}
use Rattle.tla_parser.specs.declared.moves.Class.TheVariants.{BareName, FoldName, Joined, Member, Other, PathName, Tuple, TupleMember}
use Rattle.tla_parser.specs.declared.moves.Mark.{Mark}
use Rattle.tla_parser.specs.declared.moves.Mark.TheVariants.{AtTop, BehindArity, BehindBlank, BehindDeclared, BehindExtended, BehindHeader, BehindInstance, BehindRecursive, BehindSubstituted, BehindUnitArgument, BehindUnitParameter, BetweenUnits, DeclaredName, ExtendedName, Finished, InAssumption, InBody, InNamedAssumption, InNamedStatement, InPlainBody, InReplacement, InStatement, InUnitSet, InstanceName, LocalUnit, ModuleHead, ModuleName, ModuleNamed, RecursiveBlank, RecursiveName, Substituted, UnitArgument, UnitDefines, UnitHead, UnitParameter}
use Rattle.tla_parser.specs.declared.moves.Next.{Next}
use Rattle.tla_parser.specs.declared.moves.Next.TheVariants.{Fail, Last, Reads, Shut, Wants}
use Rattle.tla_parser.specs.declared.signs.Sign.{Sign}
use Rattle.tla_parser.specs.declared.signs.Sign.TheVariants.{AssumeWord, Dashes, Defines, Element, EndSign, ExtendsWord, InstanceWord, LeftBracket, LeftParen, LocalWord, ModuleWord, Number, RecursiveWord, Replaces, RightParen, TheoremWord, Underscore, VariableWord, WithWord, Word}
use Rattle.tla_parser.specs.inner.Moves.{body_rows, bracket_rows, fair_rows, fold_rows, found, heads, in_units, insteads, is_finished, listed_heads, local_heads, local_rows, module_heads, name_heads, recursive_heads, rows, subscript_heads, tuple_rows, unit_heads, unit_rows, update_heads, update_rows}

abbrev pub through : List FormPart → Form → Form
through [] f = f
through (x ∷ xs) f = through xs (behind_part x f)

-- what is left of a module where a token of it is to come, and where an operand is
unfoldable pub heading_left : Mark → Form
heading_left AtTop = through ([]) module_form
heading_left ModuleHead = through (a_token Dashes ∷ []) module_form
heading_left ModuleName = through (a_token Dashes ∷ a_token ModuleWord ∷ []) module_form
heading_left ModuleNamed = through (a_token Dashes ∷ a_token ModuleWord ∷ a_token Word ∷ []) module_form
heading_left BehindHeader = through (a_token Dashes ∷ a_token ModuleWord ∷ a_token Word ∷ a_token Dashes ∷ []) module_form
heading_left ExtendedName = through (a_token Dashes ∷ a_token ModuleWord ∷ a_token Word ∷ a_token Dashes ∷ a_token ExtendsWord ∷ []) module_form
heading_left BehindExtended = through (a_token Dashes ∷ a_token ModuleWord ∷ a_token Word ∷ a_token Dashes ∷ a_token ExtendsWord ∷ a_token Word ∷ []) module_form
heading_left BetweenUnits = through (a_token Dashes ∷ a_token ModuleWord ∷ a_token Word ∷ a_token Dashes ∷ a_token Dashes ∷ []) module_form
heading_left DeclaredName = through (a_token Dashes ∷ a_token ModuleWord ∷ a_token Word ∷ a_token Dashes ∷ a_token VariableWord ∷ []) module_form
heading_left BehindDeclared = through (a_token Dashes ∷ a_token ModuleWord ∷ a_token Word ∷ a_token Dashes ∷ a_token VariableWord ∷ a_token Word ∷ []) module_form
heading_left UnitHead = through (a_token Dashes ∷ a_token ModuleWord ∷ a_token Word ∷ a_token Dashes ∷ a_token Word ∷ []) module_form
heading_left UnitParameter = through (a_token Dashes ∷ a_token ModuleWord ∷ a_token Word ∷ a_token Dashes ∷ a_token Word ∷ a_token LeftParen ∷ []) module_form
heading_left BehindUnitParameter = through (a_token Dashes ∷ a_token ModuleWord ∷ a_token Word ∷ a_token Dashes ∷ a_token Word ∷ a_token LeftParen ∷ a_token Word ∷ []) module_form
heading_left UnitArgument = through (a_token Dashes ∷ a_token ModuleWord ∷ a_token Word ∷ a_token Dashes ∷ a_token Word ∷ a_token LeftBracket ∷ []) module_form
heading_left BehindUnitArgument = through (a_token Dashes ∷ a_token ModuleWord ∷ a_token Word ∷ a_token Dashes ∷ a_token Word ∷ a_token LeftBracket ∷ a_token Word ∷ []) module_form
heading_left UnitDefines = through (a_token Dashes ∷ a_token ModuleWord ∷ a_token Word ∷ a_token Dashes ∷ a_token Word ∷ a_token LeftParen ∷ a_token Word ∷ a_token RightParen ∷ []) module_form
heading_left InstanceName = through (a_token Dashes ∷ a_token ModuleWord ∷ a_token Word ∷ a_token Dashes ∷ a_token InstanceWord ∷ []) module_form
heading_left BehindInstance = through (a_token Dashes ∷ a_token ModuleWord ∷ a_token Word ∷ a_token Dashes ∷ a_token InstanceWord ∷ a_token Word ∷ []) module_form
heading_left Substituted = through (a_token Dashes ∷ a_token ModuleWord ∷ a_token Word ∷ a_token Dashes ∷ a_token InstanceWord ∷ a_token Word ∷ a_token WithWord ∷ []) module_form
heading_left BehindSubstituted = through (a_token Dashes ∷ a_token ModuleWord ∷ a_token Word ∷ a_token Dashes ∷ a_token InstanceWord ∷ a_token Word ∷ a_token WithWord ∷ a_token Word ∷ []) module_form
heading_left RecursiveName = through (a_token Dashes ∷ a_token ModuleWord ∷ a_token Word ∷ a_token Dashes ∷ a_token RecursiveWord ∷ []) module_form
heading_left BehindRecursive = through (a_token Dashes ∷ a_token ModuleWord ∷ a_token Word ∷ a_token Dashes ∷ a_token RecursiveWord ∷ a_token Word ∷ []) module_form
heading_left RecursiveBlank = through (a_token Dashes ∷ a_token ModuleWord ∷ a_token Word ∷ a_token Dashes ∷ a_token RecursiveWord ∷ a_token Word ∷ a_token LeftParen ∷ []) module_form
heading_left BehindBlank = through (a_token Dashes ∷ a_token ModuleWord ∷ a_token Word ∷ a_token Dashes ∷ a_token RecursiveWord ∷ a_token Word ∷ a_token LeftParen ∷ a_token Underscore ∷ []) module_form
heading_left BehindArity = through (a_token Dashes ∷ a_token ModuleWord ∷ a_token Word ∷ a_token Dashes ∷ a_token RecursiveWord ∷ a_token Word ∷ a_token LeftParen ∷ a_token Underscore ∷ a_token RightParen ∷ []) module_form
heading_left LocalUnit = through (a_token Dashes ∷ a_token ModuleWord ∷ a_token Word ∷ a_token Dashes ∷ a_token LocalWord ∷ []) module_form
heading_left Finished = through (a_token Dashes ∷ a_token ModuleWord ∷ a_token Word ∷ a_token Dashes ∷ a_token EndSign ∷ []) module_form
heading_left _ = never

unfoldable pub wanting_left : Mark → Form
wanting_left InAssumption = through (a_token Dashes ∷ a_token ModuleWord ∷ a_token Word ∷ a_token Dashes ∷ a_token AssumeWord ∷ []) module_form
wanting_left InNamedAssumption = through (a_token Dashes ∷ a_token ModuleWord ∷ a_token Word ∷ a_token Dashes ∷ a_token AssumeWord ∷ an_operand BareName ∷ a_token Defines ∷ []) module_form
wanting_left InStatement = through (a_token Dashes ∷ a_token ModuleWord ∷ a_token Word ∷ a_token Dashes ∷ a_token TheoremWord ∷ []) module_form
wanting_left InNamedStatement = through (a_token Dashes ∷ a_token ModuleWord ∷ a_token Word ∷ a_token Dashes ∷ a_token TheoremWord ∷ an_operand BareName ∷ a_token Defines ∷ []) module_form
wanting_left InBody = through (a_token Dashes ∷ a_token ModuleWord ∷ a_token Word ∷ a_token Dashes ∷ a_token Word ∷ a_token Defines ∷ []) module_form
wanting_left InPlainBody = through (a_token Dashes ∷ a_token ModuleWord ∷ a_token Word ∷ a_token Dashes ∷ a_token Word ∷ a_token LeftParen ∷ a_token Word ∷ a_token RightParen ∷ a_token Defines ∷ []) module_form
wanting_left InUnitSet = through (a_token Dashes ∷ a_token ModuleWord ∷ a_token Word ∷ a_token Dashes ∷ a_token Word ∷ a_token LeftBracket ∷ a_token Word ∷ a_token Element ∷ []) module_form
wanting_left InReplacement = through (a_token Dashes ∷ a_token ModuleWord ∷ a_token Word ∷ a_token Dashes ∷ a_token InstanceWord ∷ a_token Word ∷ a_token WithWord ∷ a_token Word ∷ a_token Replaces ∷ []) module_form
wanting_left _ = never

abbrev pub module_left : Next → Form
module_left (Reads m) = heading_left m
module_left (Wants m) = wanting_left m
module_left (Last m) = never
module_left (Shut c) = never
module_left Fail = never

all_open : Bool
unfolding module_form heading_left wanting_left number_of heads listed_heads update_heads subscript_heads local_heads module_heads unit_heads name_heads recursive_heads insteads rows local_rows bracket_rows update_rows tuple_rows fair_rows fold_rows body_rows unit_rows is_finished
all_open = true

heads_AtTop : (s : Sign) → behind_part (a_token s) (heading_left AtTop) ≡ module_left (found s (heads AtTop))
unfolding all_open
heads_AtTop Number = refl
heads_AtTop _ = refl

heads_ModuleHead : (s : Sign) → behind_part (a_token s) (heading_left ModuleHead) ≡ module_left (found s (heads ModuleHead))
unfolding all_open
heads_ModuleHead Number = refl
heads_ModuleHead _ = refl

heads_ModuleName : (s : Sign) → behind_part (a_token s) (heading_left ModuleName) ≡ module_left (found s (heads ModuleName))
unfolding all_open
heads_ModuleName Number = refl
heads_ModuleName _ = refl

heads_ModuleNamed : (s : Sign) → behind_part (a_token s) (heading_left ModuleNamed) ≡ module_left (found s (heads ModuleNamed))
unfolding all_open
heads_ModuleNamed Number = refl
heads_ModuleNamed _ = refl

heads_BehindHeader : (s : Sign) → behind_part (a_token s) (heading_left BehindHeader) ≡ module_left (found s (heads BehindHeader))
unfolding all_open
heads_BehindHeader Number = refl
heads_BehindHeader _ = refl

heads_ExtendedName : (s : Sign) → behind_part (a_token s) (heading_left ExtendedName) ≡ module_left (found s (heads ExtendedName))
unfolding all_open
heads_ExtendedName Number = refl
heads_ExtendedName _ = refl

heads_BehindExtended : (s : Sign) → behind_part (a_token s) (heading_left BehindExtended) ≡ module_left (found s (heads BehindExtended))
unfolding all_open
heads_BehindExtended Number = refl
heads_BehindExtended _ = refl

heads_BetweenUnits : (s : Sign) → behind_part (a_token s) (heading_left BetweenUnits) ≡ module_left (found s (heads BetweenUnits))
unfolding all_open
heads_BetweenUnits Number = refl
heads_BetweenUnits _ = refl

heads_DeclaredName : (s : Sign) → behind_part (a_token s) (heading_left DeclaredName) ≡ module_left (found s (heads DeclaredName))
unfolding all_open
heads_DeclaredName Number = refl
heads_DeclaredName _ = refl

heads_BehindDeclared : (s : Sign) → behind_part (a_token s) (heading_left BehindDeclared) ≡ module_left (found s (heads BehindDeclared))
unfolding all_open
heads_BehindDeclared Number = refl
heads_BehindDeclared _ = refl

heads_UnitHead : (s : Sign) → behind_part (a_token s) (heading_left UnitHead) ≡ module_left (found s (heads UnitHead))
unfolding all_open
heads_UnitHead Number = refl
heads_UnitHead _ = refl

heads_UnitParameter : (s : Sign) → behind_part (a_token s) (heading_left UnitParameter) ≡ module_left (found s (heads UnitParameter))
unfolding all_open
heads_UnitParameter Number = refl
heads_UnitParameter _ = refl

heads_BehindUnitParameter : (s : Sign) → behind_part (a_token s) (heading_left BehindUnitParameter) ≡ module_left (found s (heads BehindUnitParameter))
unfolding all_open
heads_BehindUnitParameter Number = refl
heads_BehindUnitParameter _ = refl

heads_UnitArgument : (s : Sign) → behind_part (a_token s) (heading_left UnitArgument) ≡ module_left (found s (heads UnitArgument))
unfolding all_open
heads_UnitArgument Number = refl
heads_UnitArgument _ = refl

heads_BehindUnitArgument : (s : Sign) → behind_part (a_token s) (heading_left BehindUnitArgument) ≡ module_left (found s (heads BehindUnitArgument))
unfolding all_open
heads_BehindUnitArgument Number = refl
heads_BehindUnitArgument _ = refl

heads_UnitDefines : (s : Sign) → behind_part (a_token s) (heading_left UnitDefines) ≡ module_left (found s (heads UnitDefines))
unfolding all_open
heads_UnitDefines Number = refl
heads_UnitDefines _ = refl

heads_InstanceName : (s : Sign) → behind_part (a_token s) (heading_left InstanceName) ≡ module_left (found s (heads InstanceName))
unfolding all_open
heads_InstanceName Number = refl
heads_InstanceName _ = refl

heads_BehindInstance : (s : Sign) → behind_part (a_token s) (heading_left BehindInstance) ≡ module_left (found s (heads BehindInstance))
unfolding all_open
heads_BehindInstance Number = refl
heads_BehindInstance _ = refl

heads_Substituted : (s : Sign) → behind_part (a_token s) (heading_left Substituted) ≡ module_left (found s (heads Substituted))
unfolding all_open
heads_Substituted Number = refl
heads_Substituted _ = refl

heads_BehindSubstituted : (s : Sign) → behind_part (a_token s) (heading_left BehindSubstituted) ≡ module_left (found s (heads BehindSubstituted))
unfolding all_open
heads_BehindSubstituted Number = refl
heads_BehindSubstituted _ = refl

heads_RecursiveName : (s : Sign) → behind_part (a_token s) (heading_left RecursiveName) ≡ module_left (found s (heads RecursiveName))
unfolding all_open
heads_RecursiveName Number = refl
heads_RecursiveName _ = refl

heads_BehindRecursive : (s : Sign) → behind_part (a_token s) (heading_left BehindRecursive) ≡ module_left (found s (heads BehindRecursive))
unfolding all_open
heads_BehindRecursive Number = refl
heads_BehindRecursive _ = refl

heads_RecursiveBlank : (s : Sign) → behind_part (a_token s) (heading_left RecursiveBlank) ≡ module_left (found s (heads RecursiveBlank))
unfolding all_open
heads_RecursiveBlank Number = refl
heads_RecursiveBlank _ = refl

heads_BehindBlank : (s : Sign) → behind_part (a_token s) (heading_left BehindBlank) ≡ module_left (found s (heads BehindBlank))
unfolding all_open
heads_BehindBlank Number = refl
heads_BehindBlank _ = refl

heads_BehindArity : (s : Sign) → behind_part (a_token s) (heading_left BehindArity) ≡ module_left (found s (heads BehindArity))
unfolding all_open
heads_BehindArity Number = refl
heads_BehindArity _ = refl

heads_LocalUnit : (s : Sign) → behind_part (a_token s) (heading_left LocalUnit) ≡ module_left (found s (heads LocalUnit))
unfolding all_open
heads_LocalUnit Number = refl
heads_LocalUnit _ = refl

heads_Finished : (s : Sign) → behind_part (a_token s) (heading_left Finished) ≡ module_left (found s (heads Finished))
unfolding all_open
heads_Finished Number = refl
heads_Finished _ = refl

insteads_InAssumption : (s : Sign) → behind_part (a_token s) (wanting_left InAssumption) ≡ module_left (found s (insteads InAssumption))
unfolding all_open
insteads_InAssumption Number = refl
insteads_InAssumption _ = refl

rows_InAssumption_BareName : (s : Sign) → behind_part (a_token s) (behind_part (an_operand BareName) (wanting_left InAssumption)) ≡ module_left (found s (rows InAssumption BareName))
unfolding all_open
rows_InAssumption_BareName Number = refl
rows_InAssumption_BareName _ = refl

rows_InAssumption_PathName : (s : Sign) → behind_part (a_token s) (behind_part (an_operand PathName) (wanting_left InAssumption)) ≡ module_left (found s (rows InAssumption PathName))
unfolding all_open
rows_InAssumption_PathName Number = refl
rows_InAssumption_PathName _ = refl

rows_InAssumption_FoldName : (s : Sign) → behind_part (a_token s) (behind_part (an_operand FoldName) (wanting_left InAssumption)) ≡ module_left (found s (rows InAssumption FoldName))
unfolding all_open
rows_InAssumption_FoldName Number = refl
rows_InAssumption_FoldName _ = refl

rows_InAssumption_Other : (s : Sign) → behind_part (a_token s) (behind_part (an_operand Other) (wanting_left InAssumption)) ≡ module_left (found s (rows InAssumption Other))
unfolding all_open
rows_InAssumption_Other Number = refl
rows_InAssumption_Other _ = refl

rows_InAssumption_Member : (s : Sign) → behind_part (a_token s) (behind_part (an_operand Member) (wanting_left InAssumption)) ≡ module_left (found s (rows InAssumption Member))
unfolding all_open
rows_InAssumption_Member Number = refl
rows_InAssumption_Member _ = refl

rows_InAssumption_Tuple : (s : Sign) → behind_part (a_token s) (behind_part (an_operand Tuple) (wanting_left InAssumption)) ≡ module_left (found s (rows InAssumption Tuple))
unfolding all_open
rows_InAssumption_Tuple Number = refl
rows_InAssumption_Tuple _ = refl

rows_InAssumption_TupleMember : (s : Sign) → behind_part (a_token s) (behind_part (an_operand TupleMember) (wanting_left InAssumption)) ≡ module_left (found s (rows InAssumption TupleMember))
unfolding all_open
rows_InAssumption_TupleMember Number = refl
rows_InAssumption_TupleMember _ = refl

rows_InAssumption_Joined : (s j : Sign) → behind_part (a_token s) (behind_part (an_operand (Joined j)) (wanting_left InAssumption)) ≡ module_left (found s (rows InAssumption (Joined j)))
unfolding all_open
rows_InAssumption_Joined Number j = refl
rows_InAssumption_Joined _ j = refl

rows_InAssumption : (s : Sign) (k : Class) → behind_part (a_token s) (behind_part (an_operand k) (wanting_left InAssumption)) ≡ module_left (found s (rows InAssumption k))
rows_InAssumption s BareName = rows_InAssumption_BareName s
rows_InAssumption s PathName = rows_InAssumption_PathName s
rows_InAssumption s FoldName = rows_InAssumption_FoldName s
rows_InAssumption s Other = rows_InAssumption_Other s
rows_InAssumption s Member = rows_InAssumption_Member s
rows_InAssumption s (Joined j) = rows_InAssumption_Joined s j
rows_InAssumption s Tuple = rows_InAssumption_Tuple s
rows_InAssumption s TupleMember = rows_InAssumption_TupleMember s

insteads_InNamedAssumption : (s : Sign) → behind_part (a_token s) (wanting_left InNamedAssumption) ≡ module_left (found s (insteads InNamedAssumption))
unfolding all_open
insteads_InNamedAssumption Number = refl
insteads_InNamedAssumption _ = refl

rows_InNamedAssumption : (s : Sign) (k : Class) → behind_part (a_token s) (behind_part (an_operand k) (wanting_left InNamedAssumption)) ≡ module_left (found s (rows InNamedAssumption k))
unfolding all_open
rows_InNamedAssumption Number k = refl
rows_InNamedAssumption _ k = refl

insteads_InStatement : (s : Sign) → behind_part (a_token s) (wanting_left InStatement) ≡ module_left (found s (insteads InStatement))
unfolding all_open
insteads_InStatement Number = refl
insteads_InStatement _ = refl

rows_InStatement_BareName : (s : Sign) → behind_part (a_token s) (behind_part (an_operand BareName) (wanting_left InStatement)) ≡ module_left (found s (rows InStatement BareName))
unfolding all_open
rows_InStatement_BareName Number = refl
rows_InStatement_BareName _ = refl

rows_InStatement_PathName : (s : Sign) → behind_part (a_token s) (behind_part (an_operand PathName) (wanting_left InStatement)) ≡ module_left (found s (rows InStatement PathName))
unfolding all_open
rows_InStatement_PathName Number = refl
rows_InStatement_PathName _ = refl

rows_InStatement_FoldName : (s : Sign) → behind_part (a_token s) (behind_part (an_operand FoldName) (wanting_left InStatement)) ≡ module_left (found s (rows InStatement FoldName))
unfolding all_open
rows_InStatement_FoldName Number = refl
rows_InStatement_FoldName _ = refl

rows_InStatement_Other : (s : Sign) → behind_part (a_token s) (behind_part (an_operand Other) (wanting_left InStatement)) ≡ module_left (found s (rows InStatement Other))
unfolding all_open
rows_InStatement_Other Number = refl
rows_InStatement_Other _ = refl

rows_InStatement_Member : (s : Sign) → behind_part (a_token s) (behind_part (an_operand Member) (wanting_left InStatement)) ≡ module_left (found s (rows InStatement Member))
unfolding all_open
rows_InStatement_Member Number = refl
rows_InStatement_Member _ = refl

rows_InStatement_Tuple : (s : Sign) → behind_part (a_token s) (behind_part (an_operand Tuple) (wanting_left InStatement)) ≡ module_left (found s (rows InStatement Tuple))
unfolding all_open
rows_InStatement_Tuple Number = refl
rows_InStatement_Tuple _ = refl

rows_InStatement_TupleMember : (s : Sign) → behind_part (a_token s) (behind_part (an_operand TupleMember) (wanting_left InStatement)) ≡ module_left (found s (rows InStatement TupleMember))
unfolding all_open
rows_InStatement_TupleMember Number = refl
rows_InStatement_TupleMember _ = refl

rows_InStatement_Joined : (s j : Sign) → behind_part (a_token s) (behind_part (an_operand (Joined j)) (wanting_left InStatement)) ≡ module_left (found s (rows InStatement (Joined j)))
unfolding all_open
rows_InStatement_Joined Number j = refl
rows_InStatement_Joined _ j = refl

rows_InStatement : (s : Sign) (k : Class) → behind_part (a_token s) (behind_part (an_operand k) (wanting_left InStatement)) ≡ module_left (found s (rows InStatement k))
rows_InStatement s BareName = rows_InStatement_BareName s
rows_InStatement s PathName = rows_InStatement_PathName s
rows_InStatement s FoldName = rows_InStatement_FoldName s
rows_InStatement s Other = rows_InStatement_Other s
rows_InStatement s Member = rows_InStatement_Member s
rows_InStatement s (Joined j) = rows_InStatement_Joined s j
rows_InStatement s Tuple = rows_InStatement_Tuple s
rows_InStatement s TupleMember = rows_InStatement_TupleMember s

insteads_InNamedStatement : (s : Sign) → behind_part (a_token s) (wanting_left InNamedStatement) ≡ module_left (found s (insteads InNamedStatement))
unfolding all_open
insteads_InNamedStatement Number = refl
insteads_InNamedStatement _ = refl

rows_InNamedStatement : (s : Sign) (k : Class) → behind_part (a_token s) (behind_part (an_operand k) (wanting_left InNamedStatement)) ≡ module_left (found s (rows InNamedStatement k))
unfolding all_open
rows_InNamedStatement Number k = refl
rows_InNamedStatement _ k = refl

insteads_InBody : (s : Sign) → behind_part (a_token s) (wanting_left InBody) ≡ module_left (found s (insteads InBody))
unfolding all_open
insteads_InBody Number = refl
insteads_InBody _ = refl

rows_InBody : (s : Sign) (k : Class) → behind_part (a_token s) (behind_part (an_operand k) (wanting_left InBody)) ≡ module_left (found s (rows InBody k))
unfolding all_open
rows_InBody Number k = refl
rows_InBody _ k = refl

insteads_InPlainBody : (s : Sign) → behind_part (a_token s) (wanting_left InPlainBody) ≡ module_left (found s (insteads InPlainBody))
unfolding all_open
insteads_InPlainBody Number = refl
insteads_InPlainBody _ = refl

rows_InPlainBody : (s : Sign) (k : Class) → behind_part (a_token s) (behind_part (an_operand k) (wanting_left InPlainBody)) ≡ module_left (found s (rows InPlainBody k))
unfolding all_open
rows_InPlainBody Number k = refl
rows_InPlainBody _ k = refl

insteads_InUnitSet : (s : Sign) → behind_part (a_token s) (wanting_left InUnitSet) ≡ module_left (found s (insteads InUnitSet))
unfolding all_open
insteads_InUnitSet Number = refl
insteads_InUnitSet _ = refl

rows_InUnitSet : (s : Sign) (k : Class) → behind_part (a_token s) (behind_part (an_operand k) (wanting_left InUnitSet)) ≡ module_left (found s (rows InUnitSet k))
unfolding all_open
rows_InUnitSet Number k = refl
rows_InUnitSet _ k = refl

insteads_InReplacement : (s : Sign) → behind_part (a_token s) (wanting_left InReplacement) ≡ module_left (found s (insteads InReplacement))
unfolding all_open
insteads_InReplacement Number = refl
insteads_InReplacement _ = refl

rows_InReplacement : (s : Sign) (k : Class) → behind_part (a_token s) (behind_part (an_operand k) (wanting_left InReplacement)) ≡ module_left (found s (rows InReplacement k))
unfolding all_open
rows_InReplacement Number k = refl
rows_InReplacement _ k = refl

pub units_heads : (m : Mark) (s : Sign) → in_units m ≡ true → behind_part (a_token s) (heading_left m) ≡ module_left (found s (heads m))
unfolding heading_left heads listed_heads update_heads subscript_heads local_heads module_heads unit_heads name_heads recursive_heads in_units
units_heads AtTop s h = heads_AtTop s
units_heads ModuleHead s h = heads_ModuleHead s
units_heads ModuleName s h = heads_ModuleName s
units_heads ModuleNamed s h = heads_ModuleNamed s
units_heads BehindHeader s h = heads_BehindHeader s
units_heads ExtendedName s h = heads_ExtendedName s
units_heads BehindExtended s h = heads_BehindExtended s
units_heads BetweenUnits s h = heads_BetweenUnits s
units_heads DeclaredName s h = heads_DeclaredName s
units_heads BehindDeclared s h = heads_BehindDeclared s
units_heads UnitHead s h = heads_UnitHead s
units_heads UnitParameter s h = heads_UnitParameter s
units_heads BehindUnitParameter s h = heads_BehindUnitParameter s
units_heads UnitArgument s h = heads_UnitArgument s
units_heads BehindUnitArgument s h = heads_BehindUnitArgument s
units_heads UnitDefines s h = heads_UnitDefines s
units_heads InstanceName s h = heads_InstanceName s
units_heads BehindInstance s h = heads_BehindInstance s
units_heads Substituted s h = heads_Substituted s
units_heads BehindSubstituted s h = heads_BehindSubstituted s
units_heads RecursiveName s h = heads_RecursiveName s
units_heads BehindRecursive s h = heads_BehindRecursive s
units_heads RecursiveBlank s h = heads_RecursiveBlank s
units_heads BehindBlank s h = heads_BehindBlank s
units_heads BehindArity s h = heads_BehindArity s
units_heads LocalUnit s h = heads_LocalUnit s
units_heads Finished s h = heads_Finished s
units_heads InAssumption s h = refl
units_heads InNamedAssumption s h = refl
units_heads InStatement s h = refl
units_heads InNamedStatement s h = refl
units_heads InBody s h = refl
units_heads InPlainBody s h = refl
units_heads InUnitSet s h = refl
units_heads InReplacement s h = refl
units_heads _ s h = cc

pub units_insteads : (m : Mark) (s : Sign) → in_units m ≡ true → behind_part (a_token s) (wanting_left m) ≡ module_left (found s (insteads m))
unfolding wanting_left insteads in_units
units_insteads InAssumption s h = insteads_InAssumption s
units_insteads InNamedAssumption s h = insteads_InNamedAssumption s
units_insteads InStatement s h = insteads_InStatement s
units_insteads InNamedStatement s h = insteads_InNamedStatement s
units_insteads InBody s h = insteads_InBody s
units_insteads InPlainBody s h = insteads_InPlainBody s
units_insteads InUnitSet s h = insteads_InUnitSet s
units_insteads InReplacement s h = insteads_InReplacement s
units_insteads AtTop s h = refl
units_insteads ModuleHead s h = refl
units_insteads ModuleName s h = refl
units_insteads ModuleNamed s h = refl
units_insteads BehindHeader s h = refl
units_insteads ExtendedName s h = refl
units_insteads BehindExtended s h = refl
units_insteads BetweenUnits s h = refl
units_insteads DeclaredName s h = refl
units_insteads BehindDeclared s h = refl
units_insteads UnitHead s h = refl
units_insteads UnitParameter s h = refl
units_insteads BehindUnitParameter s h = refl
units_insteads UnitArgument s h = refl
units_insteads BehindUnitArgument s h = refl
units_insteads UnitDefines s h = refl
units_insteads InstanceName s h = refl
units_insteads BehindInstance s h = refl
units_insteads Substituted s h = refl
units_insteads BehindSubstituted s h = refl
units_insteads RecursiveName s h = refl
units_insteads BehindRecursive s h = refl
units_insteads RecursiveBlank s h = refl
units_insteads BehindBlank s h = refl
units_insteads BehindArity s h = refl
units_insteads LocalUnit s h = refl
units_insteads Finished s h = refl
units_insteads _ s h = cc

pub units_rows : (m : Mark) (s : Sign) (k : Class) → in_units m ≡ true → behind_part (a_token s) (behind_part (an_operand k) (wanting_left m)) ≡ module_left (found s (rows m k))
unfolding wanting_left rows local_rows bracket_rows update_rows tuple_rows fair_rows fold_rows body_rows in_units
units_rows InAssumption s k h = rows_InAssumption s k
units_rows InNamedAssumption s k h = rows_InNamedAssumption s k
units_rows InStatement s k h = rows_InStatement s k
units_rows InNamedStatement s k h = rows_InNamedStatement s k
units_rows InBody s k h = rows_InBody s k
units_rows InPlainBody s k h = rows_InPlainBody s k
units_rows InUnitSet s k h = rows_InUnitSet s k
units_rows InReplacement s k h = rows_InReplacement s k
units_rows AtTop s k h = refl
units_rows ModuleHead s k h = refl
units_rows ModuleName s k h = refl
units_rows ModuleNamed s k h = refl
units_rows BehindHeader s k h = refl
units_rows ExtendedName s k h = refl
units_rows BehindExtended s k h = refl
units_rows BetweenUnits s k h = refl
units_rows DeclaredName s k h = refl
units_rows BehindDeclared s k h = refl
units_rows UnitHead s k h = refl
units_rows UnitParameter s k h = refl
units_rows BehindUnitParameter s k h = refl
units_rows UnitArgument s k h = refl
units_rows BehindUnitArgument s k h = refl
units_rows UnitDefines s k h = refl
units_rows InstanceName s k h = refl
units_rows BehindInstance s k h = refl
units_rows Substituted s k h = refl
units_rows BehindSubstituted s k h = refl
units_rows RecursiveName s k h = refl
units_rows BehindRecursive s k h = refl
units_rows RecursiveBlank s k h = refl
units_rows BehindBlank s k h = refl
units_rows BehindArity s k h = refl
units_rows LocalUnit s k h = refl
units_rows Finished s k h = refl
units_rows _ s k h = cc

-- no operand stands where a token is to come
pub units_quiet : (m : Mark) (k : Class) → behind_part (an_operand k) (heading_left m) ≡ never
unfolding all_open
units_quiet AtTop k = refl
units_quiet ModuleHead k = refl
units_quiet ModuleName k = refl
units_quiet ModuleNamed k = refl
units_quiet BehindHeader k = refl
units_quiet ExtendedName k = refl
units_quiet BehindExtended k = refl
units_quiet BetweenUnits k = refl
units_quiet DeclaredName k = refl
units_quiet BehindDeclared k = refl
units_quiet UnitHead k = refl
units_quiet UnitParameter k = refl
units_quiet BehindUnitParameter k = refl
units_quiet UnitArgument k = refl
units_quiet BehindUnitArgument k = refl
units_quiet UnitDefines k = refl
units_quiet InstanceName k = refl
units_quiet BehindInstance k = refl
units_quiet Substituted k = refl
units_quiet BehindSubstituted k = refl
units_quiet RecursiveName k = refl
units_quiet BehindRecursive k = refl
units_quiet RecursiveBlank k = refl
units_quiet BehindBlank k = refl
units_quiet BehindArity k = refl
units_quiet LocalUnit k = refl
units_quiet Finished k = refl
units_quiet _ k = refl

-- the module ends behind its end sign alone
pub heading_ends : (m : Mark) → can_end (heading_left m) ≡ is_finished m
unfolding all_open
heading_ends AtTop = refl
heading_ends _ = refl

pub wanting_ends : (m : Mark) → can_end (wanting_left m) ≡ false
unfolding all_open
wanting_ends InBody = refl
wanting_ends _ = refl

-- nor behind an operand
ends_InAssumption : (k : Class) → can_end (behind_part (an_operand k) (wanting_left InAssumption)) ≡ false
unfolding all_open
ends_InAssumption (Joined s) = refl
ends_InAssumption _ = refl

ends_InStatement : (k : Class) → can_end (behind_part (an_operand k) (wanting_left InStatement)) ≡ false
unfolding all_open
ends_InStatement (Joined s) = refl
ends_InStatement _ = refl

pub operand_ends : (m : Mark) (k : Class) → can_end (behind_part (an_operand k) (wanting_left m)) ≡ false
unfolding all_open
operand_ends InAssumption k = ends_InAssumption k
operand_ends InNamedAssumption k = refl
operand_ends InStatement k = ends_InStatement k
operand_ends InNamedStatement k = refl
operand_ends InBody k = refl
operand_ends InPlainBody k = refl
operand_ends InUnitSet k = refl
operand_ends InReplacement k = refl
operand_ends _ k = refl
