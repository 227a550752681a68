-- Which form a token shows with which nothing goes on, by reading on in other ways.
use Rattle.std.specs.Prelude.{Bool, not, ◌&&◌, ◌||◌, List, Option, Some, None, ◌∷◌, []}
use Rattle.tla_lexer.specs.declared.token.Token.{Token}
use Rattle.tla_meaning.specs.declared.place.Place.{Place}
use Rattle.tla_parser.specs.Refused.{Shows, Sticks, is_listed}
use Rattle.tla_parser.specs.Operators.{same_sign}
use Rattle.tla_parser.specs.Signs.{sign}
use Rattle.tla_parser.specs.declared.fault.Syntax.{Syntax}
use Rattle.tla_parser.specs.declared.fault.Syntax.TheVariants.{NestedModule, ParametrizedInstance, SymbolDefinition, Proof, OperatorParameter, TuplePattern}
use Rattle.tla_parser.specs.declared.signs.Sign.{Sign}
use Rattle.tla_parser.specs.declared.signs.Sign.TheVariants.{ConstantWord, InstanceWord, LeftAngle, LeftParen, ModuleWord, ProofWord, Underscore, Word}
use Rattle.tla_parser.specs.inner.Recognition.{advances, module_start}
use Rattle.tla_parser.specs.inner.Standings.{standing_of}

-- reading is not stuck behind the tokens
abbrev pub goes : List Token → Bool
goes ts = not (standing_of (advances module_start ts)).stuck

-- the form that a token with this sign may show
unfoldable pub family : Sign → Syntax
family ModuleWord = NestedModule
family InstanceWord = ParametrizedInstance
family ProofWord = Proof
family Underscore = OperatorParameter
family LeftParen = OperatorParameter
family LeftAngle = TuplePattern
family _ = SymbolDefinition

-- only names and commas stand behind the last CONSTANT; b tells this of what stands before
abbrev pub constants_from : Bool → List Token → Bool
constants_from b [] = b
constants_from b (t ∷ ts) = constants_from (same_sign (sign t) ConstantWord || (b && is_listed t)) ts

-- the last is a name; b tells this of the token before
abbrev pub name_from : Bool → List Token → Bool
name_from b [] = b
name_from b (t ∷ ts) = name_from (same_sign (sign t) Word) ts

-- the form is shown at this place, or not at all
abbrev pub Judges : Syntax → Option Place → List Token → Token → List Token → Type 0
Judges form None front t rest = (p : Place) → Shows form p front t rest → ⊥
Judges form (Some p) front t rest = Shows form p front t rest

-- this form is shown at this place, or none at all
abbrev pub IsSight : Option (Place × Syntax) → List Token → Token → List Token → Type 0
IsSight None front t rest = (form : Syntax) (p : Place) → Shows form p front t rest → ⊥
IsSight (Some x) front t rest = Shows x.1 x.0 front t rest

-- this form sticks there at the place, or none anywhere
abbrev pub IsFound : Option (Place × Syntax) → List Token → Type 0
IsFound None ts = (form : Syntax) (place : Place) → Sticks form place ts → ⊥
IsFound (Some x) ts = Sticks x.1 x.0 ts
