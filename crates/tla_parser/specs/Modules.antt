-- Which module the tokens and the expressions of one stand for. Source: Specifying Systems, section 15.1 and chapter 17.
use Rattle.std.specs.Prelude.{fold, is_some}
use Rattle.tla_lexer.specs.declared.token.Token.{Token}
use Rattle.tla_meaning.specs.declared.expr.Expr.{Expr}
use Rattle.tla_meaning.specs.declared.expr.Def.{Def}
use Rattle.tla_meaning.specs.declared.modules.Module.{Module}
use Rattle.tla_meaning.specs.declared.modules.Unit.{Unit as ModuleUnit}
use Rattle.tla_meaning.specs.declared.modules.Unit.TheVariants.{Declare, Assume, Theorem, Define, Instance, Recursive}
use Rattle.tla_parser.specs.declared.items.Item.{Item}
use Rattle.tla_parser.specs.declared.items.Item.TheVariants.{Piece, Tree}
use Rattle.tla_parser.specs.declared.items.Head.{Head}
use Rattle.tla_parser.specs.declared.units.Units.{Units}
use Rattle.tla_parser.specs.declared.units.Section.{Section}
use Rattle.tla_parser.specs.declared.units.Section.TheVariants.{Outside, Naming, Extending, Declaring, Assuming, Stating, Defining, Instancing, Recurring}
use Rattle.std.specs.Prelude.{ℕ, Bool, true, false, cond, not, List, Option, Some, None, reverse, ◌+◌, ◌∷◌, ◌++◌, ◌&&◌, []}
use Rattle.tla_parser.specs.Signs.{sign}
use Rattle.tla_parser.specs.Trees.{head_body, head_params, head_set, head_token, name_of, no_head, nowhere}
use Rattle.tla_parser.specs.declared.signs.Sign.{Sign}
use Rattle.tla_parser.specs.declared.signs.Sign.TheVariants.{AssumeWord, Comma, ConstantWord, Dashes, Defines, EndSign, ExtendsWord, InstanceWord, LeftBracket, LocalWord, ModuleWord, RecursiveWord, RightBracket, TheoremWord, Underscore, VariableWord, WithWord, Word}

unfoldable pub no_units : Units
no_units = record { name = []; extends = []; units = []; section = Outside; expects = false; local = false; note = []; place = nowhere; decls = []; head = no_head; operand = None; instance = None; replaced = []; pairs = []; recursive = [] }

-- two notes, one behind the other
abbrev pub joined_notes : List ℕ → List ℕ → List ℕ
joined_notes [] n = n
joined_notes (b ∷ m) [] = b ∷ m
joined_notes (b ∷ m) (c ∷ n) = (b ∷ m) ++ (10 ∷ (c ∷ n))

-- ---- a unit that is whole

abbrev pub definition_of : Head → List ℕ → Expr → Def
definition_of h note e = record { name = h.name; place = h.place; params = head_params h; note = joined_notes note h.note; body = head_body h e }

abbrev pub of_operand : (Expr → ModuleUnit) → Option Expr → List ModuleUnit
of_operand f None = []
of_operand f (Some e) = f e ∷ []

abbrev pub instance_unit : Units → Option (List ℕ) → List ModuleUnit
instance_unit u None = []
instance_unit u (Some m) = Instance (cond u.head.named (Some u.head.name) None) m u.pairs u.local u.place ∷ []

unfoldable pub unit_of : Section → Units → List ModuleUnit
unit_of (Declaring c) u = Declare u.decls ∷ []
unit_of Assuming u = of_operand Assume u.operand
unit_of Stating u = of_operand Theorem u.operand
unit_of Defining u = of_operand (λ e. Define (definition_of u.head u.note e) u.local) u.operand
unit_of Instancing u = instance_unit u u.instance
unit_of Recurring u = Recursive u.recursive ∷ []
unit_of _ u = []

unfoldable pub is_outside : Section → Bool
is_outside Outside = true
is_outside _ = false

-- the unit that was read is among the units
abbrev pub flushed : Units → Units
flushed u =
    cond (is_outside u.section) u
    (record no_units { name = u.name; extends = u.extends; units = u.units ++ unit_of u.section (record u { name = []; extends = []; units = [] }) })

abbrev pub opened_section : Section → Token → Units → Units
opened_section s t u = record (flushed u) { section = s; expects = true; note = t.notes; place = t.place }

-- ---- names

abbrev pub declared_name : Bool → List ℕ → Token → Units → Units
declared_name c x t u =
    record u { decls = u.decls ++ (record { name = x; place = t.place; constant = c; note = joined_notes u.note t.notes } ∷ []); note = []; expects = false }

abbrev pub instance_word : Option (List ℕ) → List ℕ → Units → Units
instance_word None x u = record u { instance = Some x; expects = false }
instance_word (Some m) x u = record u { replaced = x; expects = false }

unfoldable pub listed_name : Section → List ℕ → Token → Units → Units
listed_name Extending x t u = record u { extends = u.extends ++ (x ∷ []); expects = false }
listed_name (Declaring c) x t u = declared_name c x t u
listed_name Recurring x t u = record u { recursive = u.recursive ++ ((x, 0) ∷ []); expects = false }
listed_name Instancing x t u = instance_word u.instance x u
listed_name _ x t u = u

-- a definition begins
abbrev pub begun_definition : Token → Units → Units
begun_definition t u = record (flushed u) { section = Defining; head = head_token Word t no_head }

abbrev pub head_on : Sign → Token → Units → Units
head_on s t u = record u { head = head_token s t u.head }

unfoldable pub is_defining : Section → Bool
is_defining Defining = true
is_defining _ = false

unfoldable pub is_naming : Section → Bool
is_naming Naming = true
is_naming _ = false

unfoldable pub is_listing : Section → Bool
is_listing Extending = true
is_listing (Declaring c) = true
is_listing Recurring = true
is_listing Instancing = true
is_listing _ = false

-- the head of a definition is read
abbrev pub in_head : Units → Bool
in_head u = is_defining u.section && not (is_some u.operand)

abbrev pub named_token : List ℕ → Token → Units → Units
named_token x t u =
    cond (in_head u) (head_on Word t u)
    (cond (is_naming u.section) (record u { name = x; section = Outside })
    (cond (is_listing u.section && u.expects) (listed_name u.section x t u) (begun_definition t u)))

abbrev pub word_token : Option (List ℕ) → Token → Units → Units
word_token None t u = u
word_token (Some x) t u = named_token x t u

abbrev pub bracket_token : Sign → Token → Units → Units
bracket_token s t u = cond (in_head u) (head_on s t u) u

abbrev pub instance_token : Token → Units → Units
instance_token t u =
    cond (in_head u) (record u { section = Instancing; expects = true; place = u.head.place })
    (record (flushed u) { section = Instancing; expects = true; place = t.place })

-- one more parameter of the last
abbrev pub blank_first : List (List ℕ × ℕ) → List (List ℕ × ℕ)
blank_first [] = []
blank_first (r ∷ rs) = (r.0, r.1 + 1) ∷ rs

abbrev pub with_blank : List (List ℕ × ℕ) → List (List ℕ × ℕ)
with_blank rs = reverse (blank_first (reverse rs))

-- ---- tokens and expressions

unfoldable pub unit_token : Sign → Token → Units → Units
unit_token ModuleWord t u = record u { section = Naming }
unit_token ExtendsWord t u = record u { section = Extending; expects = true }
unit_token Dashes t u = flushed u
unit_token EndSign t u = flushed u
unit_token VariableWord t u = opened_section (Declaring false) t u
unit_token ConstantWord t u = opened_section (Declaring true) t u
unit_token AssumeWord t u = opened_section Assuming t u
unit_token TheoremWord t u = opened_section Stating t u
unit_token RecursiveWord t u = opened_section Recurring t u
unit_token LocalWord t u = record (flushed u) { local = true; note = t.notes }
unit_token InstanceWord t u = instance_token t u
unit_token Comma t u = record u { expects = true }
unit_token WithWord t u = record u { expects = true }
unit_token Underscore t u = record u { recursive = with_blank u.recursive; expects = false }
unit_token Defines t u = cond (is_defining u.section) u (record u { operand = None })
unit_token LeftBracket t u = bracket_token LeftBracket t u
unit_token RightBracket t u = bracket_token RightBracket t u
unit_token Word t u = word_token (name_of t.kind) t u
unit_token _ t u = u

abbrev pub body_tree : Expr → Units → Units
body_tree e u = cond u.head.inside (record u { head = head_set e u.head }) (record u { operand = Some e })

unfoldable pub unit_tree : Section → Expr → Units → Units
unit_tree Defining e u = body_tree e u
unit_tree Assuming e u = record u { operand = Some e }
unit_tree Stating e u = record u { operand = Some e }
unit_tree Instancing e u = record u { pairs = u.pairs ++ ((u.replaced, e) ∷ []) }
unit_tree _ e u = u

abbrev pub unit_item : Units → Item → Units
unit_item u (Piece t) = unit_token (sign t) t u
unit_item u (Tree e) = unit_tree u.section e u

abbrev pub module_node : Units → Module
module_node u = record { name = u.name; extends = u.extends; units = u.units; aliases = [] }

abbrev pub module_tree : List Item → Module
module_tree its = module_node (fold unit_item no_units its)
