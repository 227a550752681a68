-- Where the units of a module begin, and which is the first that is not whole. Source: Specifying Systems, section 15.1.
use Rattle.std.specs.Prelude.{Bool, true, false, List, Option, Some, None, length, ◌≡◌, ◌≤◌, ◌⊎◌, ◌∷◌, ◌++◌, []}
use Rattle.tla_lexer.specs.declared.token.Token.{Token}
use Rattle.tla_lexer.specs.declared.token.TokenKind.TheVariants.{End}
use Rattle.tla_meaning.specs.declared.place.Place.{Place}
use Rattle.tla_parser.specs.Signs.{sign}
use Rattle.tla_parser.specs.declared.signs.Sign.{Sign}
use Rattle.tla_parser.specs.declared.signs.Sign.TheVariants.{AssumeWord, ConstantWord, Dashes, InstanceWord, LocalWord, RecursiveWord, TheoremWord, VariableWord, Word}

-- a unit begins with it
unfoldable pub begins_unit : Sign → Bool
begins_unit Word = true
begins_unit VariableWord = true
begins_unit ConstantWord = true
begins_unit AssumeWord = true
begins_unit TheoremWord = true
begins_unit InstanceWord = true
begins_unit RecursiveWord = true
begins_unit LocalWord = true
begins_unit Dashes = true
begins_unit _ = false

-- the end of a module in the place of a token
abbrev pub ended : Token → Token
ended t = record t { kind = End }

-- A header and whole units stand before t: with the end of a module in its place they are a module. P says which modules
-- count.
abbrev pub Whole : (List Token → Type 0) → List Token → Token → Type 0
Whole P front t = P (front ++ (ended t ∷ []))

-- a unit begins with t
abbrev pub Begins : (List Token → Type 0) → List Token → Token → Type 0
Begins P front t = (begins_unit (sign t) ≡ true) × Whole P front t

-- ---- tokens with what stands before them

-- none of the tokens passes
abbrev pub Nowhere : (List Token → Token → Type 0) → List Token → Type 0
Nowhere Q ts = (front : List Token) (t : Token) (rest : List Token) → ts ≡ front ++ (t ∷ rest) → Q front t → ⊥

-- the last that passes stands at the place
pub record LastAt (Q : List Token → Token → Type 0) (place : Place) (ts : List Token) : Type 0 where
  pub front : List Token
  pub token : Token
  pub rest : List Token
  pub tokens_so : ts ≡ front ++ (token ∷ rest)
  pub passes : Q front token
  pub place_so : place ≡ token.place
  pub last : (f : List Token) (t : Token) (r : List Token) → ts ≡ f ++ (t ∷ r) → Q f t → length f ≤ length front

abbrev pub IsFirst : Place → List Token → Type 0
IsFirst place [] = ⊥
IsFirst place (t ∷ ts) = place ≡ t.place

abbrev pub last_of : List Token → Option Token
last_of [] = None
last_of (t ∷ []) = Some t
last_of (t ∷ u ∷ ts) = last_of (u ∷ ts)

-- there is such a token, and it passes
abbrev pub Follows : (Token → Type 0) → Option Token → Type 0
Follows P None = ⊥
Follows P (Some u) = P u

-- ---- the place of a fault

-- a header stands there and no unit: with an end behind them the tokens are a module
abbrev pub NoneLeft : (List Token → Type 0) → List Token → Type 0
NoneLeft P ts = Follows (λ t. P (ts ++ (ended t ∷ []))) (last_of ts)

-- Where no unit begins: the last token where none is left, the token behind the header, or the first where no header stands.
abbrev pub HeaderFault : (List Token → Type 0) → Place → List Token → Type 0
HeaderFault P place ts =
    (NoneLeft P ts × Follows (λ t. place ≡ t.place) (last_of ts))
    ⊎ ((NoneLeft P ts → ⊥) × (LastAt (Whole P) place ts ⊎ (Nowhere (Whole P) ts × IsFirst place ts)))

-- The place of the first unit that is not whole: of the last one that begins, since what stands before it is whole.
abbrev pub FaultAt : (List Token → Type 0) → Place → List Token → Type 0
FaultAt P place ts = LastAt (Begins P) place ts ⊎ (Nowhere (Begins P) ts × HeaderFault P place ts)
