-- What the definitions say of small texts: their tokens as they are written, and the trees that they stand for.
use Rattle.std.proofs.Common.{codes}
use Rattle.tla_lexer.specs.declared.token.Token.{Token as Tok}
use Rattle.tla_lexer.specs.declared.token.TokenKind.{TokenKind}
use Rattle.tla_lexer.specs.declared.token.TokenKind.TheVariants.{Name, Reserved, Symbol}
use Rattle.std.proofs.Common.{ℕ, Bool, true, false, List, Option, Some, None, refl, ◌≡◌, ◌+◌, ◌∷◌, []}
use Rattle.tla_parser.proofs.Endings.{ending}
use Rattle.tla_parser.proofs.Machine.{parse_fn}
use Rattle.tla_parser.proofs.ModuleRows.{through}
use Rattle.tla_parser.proofs.TableLaw.{along}
use Rattle.tla_parser.proofs.Templates.{can_end}
use Rattle.tla_parser.specs.Forms.{FormPart, a_token, an_operand, module_form, templates}
use Rattle.tla_parser.specs.declared.moves.Class.TheVariants.{Member, Other, TupleMember}
use Rattle.tla_parser.specs.Operators.{after, hi, is_associative, is_bullet, is_prefix, lo, number_of, prefix_hi, prefix_lo, same}
use Rattle.tla_parser.specs.Signs.{fold_name, sign, symbol_signs, word_signs}
use Rattle.tla_parser.specs.declared.moves.Construct.{Construct}
use Rattle.tla_parser.specs.declared.moves.Construct.TheVariants.{CasesOther, Conditional, Filter, Junction, Mapping, Parenthesis, Quantifier}
use Rattle.tla_parser.specs.declared.signs.Sign.{Sign}
use Rattle.tla_parser.specs.declared.signs.Sign.TheVariants.{Arrow, CaseWord, Colon, Comma, Dashes, Defines, Element, EndSign, ExistsSign, ExtendsWord, InstanceWord, LeftBrace, LeftParen, LocalWord, ModuleWord, OtherWord, Plus, Replaces, RightBrace, RightParen, Square, VariableWord, Vee, Wedge, WithWord, Word}
use Rattle.tla_parser.specs.Written.{Written, bin, class_infix, class_of, closed, form_levels, levels, pre, tailed}
use Rattle.tla_parser.specs.inner.Derivations.{delta, mark_column}
use Rattle.tla_parser.specs.inner.Moves.{body_rows, bracket_rows, ends_as, fair_rows, fold_rows, goes_on, heads, in_braces, in_brackets, insteads, listed_heads, local_heads, local_rows, module_heads, moved, name_heads, opens, postfixes, recursive_heads, rows, subscript_heads, tuple_rows, unit_heads, unit_rows, update_heads, update_rows}

abbrev token_at : ℕ → TokenKind → Tok
token_at n k = record { kind = k; place = record { file = 0; line = 1; col = n }; notes = [] }

-- the tokens in one line, each in the column behind the one before
abbrev line_from : ℕ → List TokenKind → List Tok
line_from n [] = []
line_from n (k ∷ ks) = token_at n k ∷ line_from (n + 1) ks

abbrev a : TokenKind
a = Name (codes "a")

abbrev b : TokenKind
b = Name (codes "b")

-- what is at the root of what is read: a form, or an operator by its sign
pub data Root : Type 0 where
  of_form : Construct → Root
  of_sign : Sign → Root

abbrev root_of : Written → Root
root_of (closed c ps) = of_form c
root_of (tailed c ps w) = of_form c
root_of (pre p w) = of_sign (sign p)
root_of (bin x t y) = of_sign (sign t)

-- with its levels
abbrev root : Option Written → Option (Root × ℕ)
root None = None
root (Some w) = Some (root_of w, levels w)

abbrev word : List ℕ → TokenKind
word t = Reserved t

abbrev mark : List ℕ → TokenKind
mark t = Symbol t

all_open : Bool
unfolding sign symbol_signs word_signs fold_name after is_prefix lo hi prefix_lo prefix_hi same is_associative number_of is_bullet delta moved opens postfixes in_braces in_brackets unit_rows rows local_rows bracket_rows update_rows tuple_rows fair_rows fold_rows body_rows goes_on heads listed_heads update_heads subscript_heads local_heads module_heads unit_heads name_heads recursive_heads insteads ends_as class_of class_infix mark_column form_levels
all_open = true

-- a + b + a is a sum of a sum
sums : root (parse_fn (line_from 1 (a ∷ mark (codes "+") ∷ b ∷ mark (codes "+") ∷ a ∷ []))) ≡ Some (of_sign Plus, 3)
unfolding all_open
sums = refl

-- a /\ b /\ a is one conjunction, on one level above its operands
chains : root (parse_fn (line_from 1 (a ∷ mark (codes "/\\") ∷ b ∷ mark (codes "/\\") ∷ a ∷ []))) ≡ Some (of_sign Wedge, 2)
unfolding all_open
chains = refl

-- a /\ b \/ a is nothing
mixed : root (parse_fn (line_from 1 (a ∷ mark (codes "/\\") ∷ b ∷ mark (codes "\\/") ∷ a ∷ []))) ≡ None
unfolding all_open
mixed = refl

-- parentheses make no level
brackets : root (parse_fn (line_from 1 (mark (codes "(") ∷ mark (codes "(") ∷ a ∷ mark (codes ")") ∷ mark (codes ")") ∷ []))) ≡ Some (of_form Parenthesis, 1)
unfolding all_open
brackets = refl

-- IF a THEN b ELSE a + a, which takes the sum
choices : root (parse_fn (line_from 1 (word (codes "IF") ∷ a ∷ word (codes "THEN") ∷ b ∷ word (codes "ELSE") ∷ a ∷ mark (codes "+") ∷ a ∷ []))) ≡ Some (of_form Conditional, 3)
unfolding all_open
choices = refl

-- { a \in b : a } is a filter, { a : a \in b } a mapping
filters : root (parse_fn (line_from 1 (mark (codes "{") ∷ a ∷ mark (codes "\\in") ∷ b ∷ mark (codes ":") ∷ a ∷ mark (codes "}") ∷ []))) ≡ Some (of_form Filter, 3)
unfolding all_open
filters = refl

mappings : root (parse_fn (line_from 1 (mark (codes "{") ∷ a ∷ mark (codes ":") ∷ a ∷ mark (codes "\\in") ∷ b ∷ mark (codes "}") ∷ []))) ≡ Some (of_form Mapping, 2)
unfolding all_open
mappings = refl

-- two bullets in one column are a list; a token in their column is part of no item
lists : root (parse_fn (token_at 1 (mark (codes "/\\")) ∷ token_at 3 a ∷ token_at 1 (mark (codes "/\\")) ∷ token_at 3 b ∷ [])) ≡ Some (of_form Junction, 2)
unfolding all_open
lists = refl

columns : root (parse_fn (token_at 3 (mark (codes "/\\")) ∷ token_at 5 (mark (codes "(")) ∷ token_at 3 a ∷ token_at 6 (mark (codes ")")) ∷ [])) ≡ None
unfolding all_open
columns = refl

-- the other bullet in that column is an operator on the list that it ends
other_bullets : root (parse_fn (token_at 1 (mark (codes "/\\")) ∷ token_at 3 a ∷ token_at 1 (mark (codes "\\/")) ∷ token_at 3 b ∷ [])) ≡ Some (of_sign Vee, 3)
unfolding all_open
other_bullets = refl

-- ---- templates

-- the constructs that have the parts
forms_of : List FormPart → List Construct
forms_of xs = ending (along xs templates)

templates_open : Bool
unfolding templates number_of
templates_open = true

-- CASE p -> e [] OTHER -> e
other_cases : forms_of (a_token CaseWord ∷ an_operand Other ∷ a_token Arrow ∷ an_operand Other ∷ a_token Square ∷ a_token OtherWord ∷ a_token Arrow ∷ an_operand Other ∷ []) ≡ CasesOther ∷ []
unfolding forms_of templates_open
other_cases = refl

-- \E x, y \in S, z \in T : e
quantifiers : forms_of (a_token ExistsSign ∷ a_token Word ∷ a_token Comma ∷ a_token Word ∷ a_token Element ∷ an_operand Other ∷ a_token Comma ∷ a_token Word ∷ a_token Element ∷ an_operand Other ∷ a_token Colon ∷ an_operand Other ∷ []) ≡ Quantifier ∷ []
unfolding forms_of templates_open
quantifiers = refl

-- \E x, y \in S, z : e is none
unset : forms_of (a_token ExistsSign ∷ a_token Word ∷ a_token Element ∷ an_operand Other ∷ a_token Comma ∷ a_token Word ∷ a_token Colon ∷ an_operand Other ∷ []) ≡ []
unfolding forms_of templates_open
unset = refl

-- {x \in S : p} is a filter and no mapping
only_filters : forms_of (a_token LeftBrace ∷ an_operand Member ∷ a_token Colon ∷ an_operand Other ∷ a_token RightBrace ∷ []) ≡ Filter ∷ []
unfolding forms_of templates_open
only_filters = refl

-- {<<x>> \in S : x \in T} is none
tuple_pattern : forms_of (a_token LeftBrace ∷ an_operand TupleMember ∷ a_token Colon ∷ a_token Word ∷ a_token Element ∷ an_operand Other ∷ a_token RightBrace ∷ []) ≡ []
unfolding forms_of templates_open
tuple_pattern = refl

-- bullets of two kinds are no list
mixed_bullets : forms_of (a_token Wedge ∷ an_operand Other ∷ a_token Vee ∷ an_operand Other ∷ []) ≡ []
unfolding forms_of templates_open
mixed_bullets = refl

is_module : List FormPart → Bool
is_module xs = can_end (through xs module_form)

modules_open : Bool
unfolding module_form number_of
modules_open = true

-- ---- MODULE M ---- EXTENDS N VARIABLES x, y LOCAL f(a) == e I == INSTANCE M WITH c <- e ====
modules : is_module (a_token Dashes ∷ a_token ModuleWord ∷ a_token Word ∷ a_token Dashes ∷ a_token ExtendsWord ∷ a_token Word ∷ a_token VariableWord ∷ a_token Word ∷ a_token Comma ∷ a_token Word ∷ a_token LocalWord ∷ a_token Word ∷ a_token LeftParen ∷ a_token Word ∷ a_token RightParen ∷ a_token Defines ∷ an_operand Other ∷ a_token Word ∷ a_token Defines ∷ a_token InstanceWord ∷ a_token Word ∷ a_token WithWord ∷ a_token Word ∷ a_token Replaces ∷ an_operand Other ∷ a_token EndSign ∷ []) ≡ true
unfolding is_module modules_open
modules = refl

-- an instance behind parameters is none
no_parameters : is_module (a_token Dashes ∷ a_token ModuleWord ∷ a_token Word ∷ a_token Dashes ∷ a_token Word ∷ a_token LeftParen ∷ a_token Word ∷ a_token RightParen ∷ a_token Defines ∷ a_token InstanceWord ∷ a_token Word ∷ a_token EndSign ∷ []) ≡ false
unfolding is_module modules_open
no_parameters = refl
