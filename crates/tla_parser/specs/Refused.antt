-- Why tokens are refused, and the forms of the language that are read nowhere. Source: Specifying Systems, sections 15.1,
-- 16.1 and 17.
use Rattle.std.specs.Prelude.{Bool, true, false, codes, map, List, ◌≡◌, ◌⊎◌, ◌∷◌, ◌++◌, ◌||◌, []}
use Rattle.std.specs.List.{list_all}
use Rattle.tla_lexer.specs.declared.token.Token.{Token}
use Rattle.tla_lexer.specs.declared.token.TokenKind.{TokenKind}
use Rattle.tla_lexer.specs.declared.token.TokenKind.TheVariants.{Name, Reserved, Symbol}
use Rattle.tla_meaning.specs.declared.place.Place.{Place}
use Rattle.tla_parser.specs.Beginnings.{Begins, FaultAt, Follows, last_of}
use Rattle.tla_parser.specs.Grammar.{AreSpelled, NothingSpells, SpelledWithin}
use Rattle.tla_parser.specs.Operators.{after, is_prefix, same_sign}
use Rattle.tla_parser.specs.Rules.{IsWritten}
use Rattle.tla_parser.specs.Signs.{sign}
use Rattle.tla_parser.specs.declared.fault.ParseFault.{ParseFault}
use Rattle.tla_parser.specs.declared.fault.ParseFault.TheVariants.{BadGrammar, Memory, NotSupported, TooDeep}
use Rattle.tla_parser.specs.declared.fault.Syntax.{Syntax}
use Rattle.tla_parser.specs.declared.fault.Syntax.TheVariants.{NestedModule, ParametrizedInstance, SymbolDefinition, Proof, OperatorParameter, TuplePattern}
use Rattle.tla_parser.specs.declared.signs.Role.TheVariants.{InfixRole}
use Rattle.tla_parser.specs.declared.signs.Sign.{Sign}
use Rattle.tla_parser.specs.declared.signs.Sign.TheVariants.{Comma, ChooseWord, ConstantWord, Dashes, Defines, ExistsSign, ForallSign, InstanceWord, LeftAngle, LeftParen, ModuleWord, ProofWord, RightParen, Underscore, Word}

-- the tokens begin some module
abbrev pub Goes : List Token → Type 0
Goes ts = (more : List Token) × IsWritten (ts ++ more)

-- ---- what could stand in the place of a token

-- a token of the kind at the place
abbrev pub at_place : Place → TokenKind → Token
at_place p k = record { kind = k; place = p; notes = [] }

-- in the place of t some module goes on with tokens of these kinds
abbrev pub Takes : List TokenKind → List Token → Token → Type 0
Takes ks front t = Goes (front ++ map (at_place t.place) ks)

-- VARIABLE
abbrev pub of_unit : List TokenKind
of_unit = Reserved (codes "VARIABLE") ∷ []

-- x \in
abbrev pub of_bound_name : List TokenKind
of_bound_name = Name (codes "x") ∷ Symbol (codes "\\in") ∷ []

-- ) ==
abbrev pub of_last_parameter : List TokenKind
of_last_parameter = Symbol (codes ")") ∷ Symbol (codes "==") ∷ []

-- x ) ==
abbrev pub of_parameter : List TokenKind
of_parameter = Name (codes "x") ∷ of_last_parameter

-- ( x ) ==
abbrev pub of_parameters : List TokenKind
of_parameters = Symbol (codes "(") ∷ of_parameter

-- x ==
abbrev pub of_definition : List TokenKind
of_definition = Name (codes "x") ∷ Symbol (codes "==") ∷ []

-- ---- what stands before it

-- a name that is bound may stand behind it
unfoldable pub before_names : Sign → Bool
before_names ExistsSign = true
before_names ForallSign = true
before_names ChooseWord = true
before_names Comma = true
before_names _ = false

abbrev pub is_listed : Token → Bool
is_listed t = same_sign (sign t) Word || same_sign (sign t) Comma

-- The tokens end in CONSTANT and a list of names.
pub record EndsInConstants (ts : List Token) : Type 0 where
  pub before : List Token
  pub word : Token
  pub names : List Token
  pub tokens_so : ts ≡ before ++ (word ∷ names)
  pub word_so : sign word ≡ ConstantWord
  pub names_so : list_all is_listed names ≡ true
  pub last_so : Follows (λ t. sign t ≡ Word) (last_of ts)

-- they end in `) ==`
abbrev pub EndsInParameters : List Token → Type 0
EndsInParameters ts =
    (before : List Token) × (u : Token) × (v : Token) × (ts ≡ before ++ (u ∷ v ∷ [])) × (sign u ≡ RightParen) × (sign v ≡ Defines)

-- ---- what stands behind it

-- a name and `==`
abbrev pub BeginsDefinition : List Token → Type 0
BeginsDefinition ts =
    (u : Token) × (v : Token) × (more : List Token) × (ts ≡ u ∷ v ∷ more) × (sign u ≡ Word) × (sign v ≡ Defines)

-- ---- the forms

-- The token t, which stands behind the front and before the rest, shows the form, whose place this is.
abbrev pub Shows : Syntax → Place → List Token → Token → List Token → Type 0
-- MODULE behind dashes that stand where a unit could begin
Shows NestedModule p front t rest =
    (sign t ≡ ModuleWord)
    × (before : List Token) × (u : Token) × (front ≡ before ++ (u ∷ [])) × (sign u ≡ Dashes) × (p ≡ u.place)
    × Takes of_unit before u
-- INSTANCE behind the `==` of a definition with parameters
Shows ParametrizedInstance p front t rest = (sign t ≡ InstanceWord) × (p ≡ t.place) × EndsInParameters front
-- a symbol and `a ==` where a name could be defined, or a name, a symbol and `b ==` where its parameters could stand
Shows SymbolDefinition p front t rest =
    (p ≡ t.place)
    × BeginsDefinition rest
    × (((after (sign t) ≡ InfixRole) × Takes of_parameters front t) ⊎ ((is_prefix (sign t) ≡ true) × Takes of_definition front t))
-- a word of proofs where a unit could begin
Shows Proof p front t rest = (sign t ≡ ProofWord) × (p ≡ t.place) × Takes of_unit front t
-- `_` where a parameter could stand, or behind a parameter or a constant and its parenthesis
Shows OperatorParameter p front t rest =
    ((sign t ≡ Underscore) × (p ≡ t.place) × Takes of_parameter front t)
    ⊎ ((sign t ≡ LeftParen)
    × ((u : Token) × (more : List Token) × (rest ≡ u ∷ more) × (sign u ≡ Underscore) × (p ≡ u.place))
    × (Takes of_last_parameter front t ⊎ EndsInConstants front))
-- `<<` behind `\E`, `\A`, CHOOSE or a comma, in the place of a name that is bound
Shows TuplePattern p front t rest =
    (sign t ≡ LeftAngle) × (p ≡ t.place) × Follows (λ u. before_names (sign u) ≡ true) (last_of front)
    × Takes of_bound_name front t

-- No module goes on with the token that shows the form, whose place this is, and some goes on with those before it.
pub record Sticks (form : Syntax) (place : Place) (ts : List Token) : Type 0 where
  pub front : List Token
  pub token : Token
  pub rest : List Token
  pub tokens_so : ts ≡ front ++ (token ∷ rest)
  pub goes : Goes front
  pub ends : Goes (front ++ (token ∷ [])) → ⊥
  pub shown : Shows form place front token rest

-- the units before each one that begins there are whole, the names of fields too
abbrev pub WholeBefore : List Token → Type 0
WholeBefore front =
    (f : List Token) (t : Token) (r : List Token) → front ≡ f ++ (t ∷ r) → Begins IsWritten f t → Begins AreSpelled f t

-- The form stands at the place: in the first unit that is not whole.
pub record Stands (form : Syntax) (place : Place) (ts : List Token) : Type 0 where
  pub sticks : Sticks form place ts
  pub first : WholeBefore sticks.front

abbrev pub NoneStands : List Token → Type 0
NoneStands ts = (form : Syntax) (place : Place) → Stands form place ts → ⊥

-- ---- the cause

-- why the tokens are refused
abbrev pub IsRefusal : ParseFault → List Token → Type 0
IsRefusal (BadGrammar place) ts = NothingSpells ts × FaultAt AreSpelled place ts × NoneStands ts
IsRefusal (NotSupported place form) ts = NothingSpells ts × Stands form place ts
IsRefusal (TooDeep place) ts = AreSpelled ts × (SpelledWithin 400 ts → ⊥) × FaultAt (SpelledWithin 400) place ts
IsRefusal (Memory e) ts = Unit {0}
