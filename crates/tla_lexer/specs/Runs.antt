-- The tokens of a file, and the first fault in it. Source: Specifying Systems, chapter 15.
use Rattle.std.specs.Prelude.{◌≡◌, ℕ, ◌-◌, ◌++◌, Bool, true, false, not, List, [], ◌∷◌, length, take, drop, MatchBool, flat_map}
use Rattle.std.specs.List.{join_with_byte, list_all}
use Rattle.tla_meaning.specs.declared.place.Place.{Place}
use Rattle.tla_lexer.specs.declared.fault.LexFault.{LexFault}
use Rattle.tla_lexer.specs.declared.fault.LexFault.TheVariants.{BadToken, OpenComment as NotClosed, BigLiteral, NoHeader, Memory}
use Rattle.tla_lexer.specs.declared.pieces.Piece.{Piece}
use Rattle.tla_lexer.specs.declared.pieces.Piece.TheVariants.{Blanks, LineComment, BlockComment, OpenComment, Lexeme, BigNumber, Bad}
use Rattle.tla_lexer.specs.declared.token.Token.{Token}
use Rattle.tla_lexer.specs.declared.token.TokenKind.{TokenKind}
use Rattle.tla_lexer.specs.declared.token.TokenKind.TheVariants.{Dashes, End, Number, Name, Reserved, Quoted, ProofStep, Symbol}
use Rattle.tla_lexer.specs.Header.{IsModuleIn, HasNoHeader}
use Rattle.tla_lexer.specs.Pieces.{IsLongest}
use Rattle.tla_lexer.specs.Places.{place_behind}

-- ---- runs of pieces

-- a piece as it stands in the text
pub record Laid : Type 0 where
  pub piece : Piece
  pub spelling : List ℕ

abbrev pub is_fault : Piece → Bool
is_fault OpenComment = true
is_fault BigNumber = true
is_fault Bad = true
is_fault Blanks = false
is_fault LineComment = false
is_fault BlockComment = false
is_fault (Lexeme kind) = false

abbrev pub is_end : TokenKind → Bool
is_end End = true
is_end Dashes = false
is_end (Number n) = false
is_end (Name t) = false
is_end (Reserved t) = false
is_end (Quoted t) = false
is_end ProofStep = false
is_end (Symbol t) = false

-- behind a fault and behind `====` nothing is read
abbrev pub is_last : Piece → Bool
is_last OpenComment = true
is_last BigNumber = true
is_last Bad = true
is_last Blanks = false
is_last LineComment = false
is_last BlockComment = false
is_last (Lexeme kind) = is_end kind

-- The pieces, one behind another, are the text, and each is the longest that stands at its place. They go on to the
-- text's end or to a piece behind which nothing is read.
abbrev pub IsRun : List ℕ → List Laid → Type 0
IsRun text [] = text ≡ []
IsRun text (x ∷ xs) =
    (rest : List ℕ) × ((text ≡ x.spelling ++ rest)
    × (IsLongest text x.piece x.spelling × MatchBool (is_last x.piece) (xs ≡ []) (IsRun rest xs)))

abbrev pub bytes_of : List Laid → List ℕ
bytes_of xs = flat_map (λ x. x.spelling) xs

-- ---- tokens

-- what the comments since the last token say, behind one more piece
abbrev pub notes_behind : List (List ℕ) → Piece → List ℕ → List (List ℕ)
notes_behind notes LineComment s = notes ++ drop 2 s ∷ []
notes_behind notes BlockComment s = notes ++ take (length s - 4) (drop 2 s) ∷ []
notes_behind notes (Lexeme kind) s = []
notes_behind notes Blanks s = notes
notes_behind notes OpenComment s = notes
notes_behind notes BigNumber s = notes
notes_behind notes Bad s = notes

-- the token of a piece, where it is one; its notes are joined by line feeds
abbrev pub token_of : Place → List (List ℕ) → Piece → List Token
token_of place notes (Lexeme kind) = record { kind = kind; place = place; notes = join_with_byte 10 notes } ∷ []
token_of place notes LineComment = []
token_of place notes BlockComment = []
token_of place notes Blanks = []
token_of place notes OpenComment = []
token_of place notes BigNumber = []
token_of place notes Bad = []

-- the tokens of pieces behind `before`, where these are the notes since the last token: the place of each counts all
-- bytes before it
abbrev pub tokens_of : ℕ → List ℕ → List (List ℕ) → List Laid → List Token
tokens_of file before notes [] = []
tokens_of file before notes (x ∷ xs) =
    token_of (place_behind file before) notes x.piece
    ++ tokens_of file (before ++ x.spelling) (notes_behind notes x.piece x.spelling) xs

-- ---- answers

-- The module in the file is a run of pieces without a fault, and these are its tokens.
pub record IsTokenRun (file : ℕ) (bytes : List ℕ) (tokens : List Token) : Type 0 where
  pub before : List ℕ
  pub text : List ℕ
  pub pieces : List Laid
  pub is_module : IsModuleIn bytes before text
  pub run : IsRun text pieces
  pub sound : list_all (λ x. not (is_fault x.piece)) pieces ≡ true
  pub tokens_are : tokens ≡ tokens_of file before [] pieces

-- The first fault in the module is this piece, at this place: the pieces before it are a run that goes on.
pub record IsFirstFault (file : ℕ) (bytes : List ℕ) (piece : Piece) (place : Place) : Type 0 where
  pub before : List ℕ
  pub text : List ℕ
  pub pieces : List Laid
  pub spelling : List ℕ
  pub is_module : IsModuleIn bytes before text
  pub run : IsRun text (pieces ++ record { piece = piece; spelling = spelling } ∷ [])
  pub place_is : place ≡ place_behind file (before ++ bytes_of pieces)

-- what is wrong with the file; want of memory is no fault of it
abbrev pub IsFault : ℕ → List ℕ → LexFault → Type 0
IsFault file bytes (BadToken place) = IsFirstFault file bytes Bad place
IsFault file bytes (NotClosed place) = IsFirstFault file bytes OpenComment place
IsFault file bytes (BigLiteral place) = IsFirstFault file bytes BigNumber place
IsFault file bytes (NoHeader f) = (f ≡ file) × HasNoHeader bytes
IsFault file bytes (Memory e) = ⊥

-- a call that meets this piece at a place is refused with this; want of memory may come besides
abbrev pub IsRefusal : Piece → Place → LexFault → Type 0
IsRefusal piece place (BadToken p) = (piece ≡ Bad) × (p ≡ place)
IsRefusal piece place (NotClosed p) = (piece ≡ OpenComment) × (p ≡ place)
IsRefusal piece place (BigLiteral p) = (piece ≡ BigNumber) × (p ≡ place)
IsRefusal piece place (NoHeader f) = ⊥
IsRefusal piece place (Memory e) = Unit {0}
