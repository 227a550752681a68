-- What a string of bytes is, as a whole: a blank, a comment, a token, or none of them. Source: Specifying Systems,
-- chapter 15: the lexemes of module TLAPlusGrammar, and comments.
use Rattle.std.specs.Prelude.{◌≡◌, ℕ, zero, suc, ◌+◌, ◌-◌, ◌*◌, ◌^◌, ◌<◌, ◌≤◌, ◌++◌, Bool, true, false, not, ◌&&◌, ◌||◌, Option, Some, None, List, [], ◌∷◌, length, take, drop, ◌==◌, nat_lt, nat_le, pos, codes, bytes_eq, if◌then◌else◌, unwrap_or, option_map, fold, ⊤}
use Rattle.std.specs.List.{list_all, list_any}
use Rattle.tla_values.specs.Names.{is_letter, is_name_byte, is_reserved, begins_fairness}
use Rattle.tla_lexer.specs.declared.pieces.Piece.{Piece}
use Rattle.tla_lexer.specs.declared.pieces.Piece.TheVariants.{Blanks, LineComment, BlockComment, OpenComment, Lexeme, BigNumber, Bad}
use Rattle.tla_lexer.specs.declared.classes.Class.{Class}
use Rattle.tla_lexer.specs.declared.classes.Class.TheVariants.{Dash, EqualSign}
use Rattle.tla_lexer.specs.declared.token.TokenKind.{TokenKind}
use Rattle.tla_lexer.specs.declared.token.TokenKind.TheVariants.{Dashes, End, Number, Name, Reserved, Quoted, ProofStep, Symbol}
use Rattle.tla_lexer.specs.Classes.{is_digit, is_line_feed, is_blank, is_dash, is_equal_sign, StartsIn}
use Rattle.tla_lexer.specs.Symbols.{symbol_of}

-- ---- symbols

abbrev pub symbol : List ℕ → Option Piece
symbol s = option_map (λ first. Lexeme (Symbol first)) (symbol_of s)

abbrev pub symbol_or_bad : List ℕ → Piece
symbol_or_bad s = unwrap_or (symbol s) Bad

-- a byte that is no symbol is bad alone
abbrev pub symbol_or_stray : List ℕ → Option Piece
symbol_or_stray s = if length s == 1 then Some (symbol_or_bad s) else symbol s

-- ---- words

-- the number that digits write
abbrev pub number_of : List ℕ → ℕ
number_of digits = fold (λ n d. 10 * n + (d - 48)) 0 digits

abbrev pub number : List ℕ → Piece
number digits = if nat_lt (number_of digits) (2 ^ 127) then Lexeme (Number (pos (number_of digits))) else BigNumber

-- letters, digits and `_`
abbrev pub word_piece : List ℕ → Piece
word_piece s =
    if list_all is_digit s then number s
    else (if list_any is_letter s then Lexeme (if is_reserved s then Reserved s else Name s)
    else symbol_or_bad s)

-- a run of letters, digits and `_`; one that begins with `WF_` or `SF_` has just these three bytes
abbrev pub word : List ℕ → Option Piece
word s = if list_all is_name_byte s && (not (begins_fairness s) || length s == 3) then Some (word_piece s) else None

-- ---- runs of one sign

-- the signs that stand in runs
abbrev pub IsSign : Class → Type 0
IsSign Dash = ⊤
IsSign EqualSign = ⊤
IsSign _ = ⊥

-- the token that four or more of one sign are
abbrev pub run_token : Class → TokenKind
run_token Dash = Dashes
run_token _ = End

-- fewer than four are a symbol or bad
abbrev pub signs : (ℕ → Bool) → TokenKind → List ℕ → Option Piece
signs is_sign many s =
    if list_all is_sign s then Some (if nat_le 4 (length s) then Lexeme many else symbol_or_bad s)
    else symbol_or_stray s

abbrev pub dashes : List ℕ → Option Piece
dashes s = signs is_dash Dashes s

abbrev pub equal_signs : List ℕ → Option Piece
equal_signs s = signs is_equal_sign End s

-- ---- texts

-- the byte that `"`, `\`, `t`, `n`, `f` or `r` behind a backslash stands for: itself, or a tab, a line feed, a form
-- feed, a carriage return
abbrev pub escaped : ℕ → Option ℕ
escaped c =
    if c == 34 then Some 34
    else (if c == 92 then Some 92
    else (if c == 116 then Some 9
    else (if c == 110 then Some 10
    else (if c == 102 then Some 12
    else (if c == 114 then Some 13
    else None)))))

-- a byte that stands for itself, where it is neither `"` (34) nor `\` (92)
abbrev pub is_plain : ℕ → Bool
is_plain b = nat_le 32 b && nat_le b 126

abbrev pub put : Option ℕ → Option (List ℕ) → Option (List ℕ)
put (Some b) (Some text) = Some (b ∷ text)
put (Some b) None = None
put None text = None

-- the text of the bytes behind the opening quote, where they end with the closing one
abbrev pub text_of : List ℕ → Option (List ℕ)
text_of [] = None
text_of (b ∷ []) = if b == 34 then Some [] else None
text_of (b ∷ c ∷ rest) =
    if b == 34 then None
    else (if b == 92 then put (escaped c) (text_of rest)
    else (if is_plain b then put (Some b) (text_of (c ∷ rest))
    else None))

-- a quote that opens no text is bad alone
abbrev pub quoted : List ℕ → Option Piece
quoted [] = Some Bad
quoted (b ∷ rest) = option_map (λ text. Lexeme (Quoted text)) (text_of (b ∷ rest))

-- ---- comments

-- How many comments are open behind these bytes, where n are open before them. Only `(*` (40, 42) and `*)` (42, 41)
-- count, and they nest; nothing stands behind the `*)` that closes the last.
abbrev pub open_behind : ℕ → List ℕ → Option ℕ
open_behind n [] = Some n
open_behind zero (b ∷ rest) = None
open_behind (suc n) (b ∷ []) = Some (suc n)
open_behind (suc n) (b ∷ c ∷ rest) =
    if b == 40 && c == 42 then open_behind (suc (suc n)) rest
    else (if b == 42 && c == 41 then open_behind n rest
    else open_behind (suc n) (c ∷ rest))

-- a comment in which as many are still open
abbrev pub block_comment : Option ℕ → Option Piece
block_comment None = None
block_comment (Some zero) = Some BlockComment
block_comment (Some (suc n)) = Some OpenComment

-- the bytes behind `(`
abbrev pub parenthesis : List ℕ → Option Piece
parenthesis [] = symbol_or_stray (codes "(")
parenthesis (b ∷ rest) = if b == 42 then block_comment (open_behind 1 rest) else symbol_or_stray (40 ∷ b ∷ rest)

-- ---- backslashes and proof steps

-- `o` and a digit, which would be an octal number
abbrev pub is_octal : List ℕ → Bool
is_octal s = bytes_eq (take 1 s) (codes "o") && list_all is_digit (drop 1 s) && length s == 2

-- whether that stands at the front
abbrev pub begins_octal : List ℕ → Bool
begins_octal [] = false
begins_octal (b ∷ []) = false
begins_octal (b ∷ c ∷ rest) = b == 111 && is_digit c

-- the bytes behind `\`: `*` (42) and a comment to the end of the line, a word of letters, or a symbol
abbrev pub backslash : List ℕ → Option Piece
backslash [] = symbol_or_stray (codes "\\")
backslash (b ∷ rest) =
    if b == 42 then (if list_any is_line_feed rest then None else Some LineComment)
    else (if list_all is_letter (b ∷ rest) then Some (symbol_or_bad (92 ∷ b ∷ rest))
    else (if is_octal (b ∷ rest) then Some Bad
    else symbol_or_stray (92 ∷ b ∷ rest)))

-- digits, or none, and `>`
abbrev pub ends_step : List ℕ → Bool
ends_step [] = false
ends_step (b ∷ rest) = if is_digit b then ends_step rest else (b == 62 && length rest == 0)

-- digits and `>`
abbrev pub is_step : List ℕ → Bool
is_step [] = false
is_step (b ∷ rest) = is_digit b && ends_step rest

-- the bytes behind `<`
abbrev pub less : List ℕ → Option Piece
less s = if is_step s then Some (Lexeme ProofStep) else symbol_or_stray (60 ∷ s)

-- ---- pieces

-- What these bytes are, whole. The first byte says what they can be: a letter, a digit or `_` begins a word, a blank
-- blanks, `"` (34) a text, `(` (40) a comment or a symbol, `\` (92) a comment, a word of letters or a symbol, `-` (45)
-- and `=` (61) a run of that sign or a symbol, `<` (60) a proof step or a symbol, and any other byte a symbol.
unfoldable pub piece_of : List ℕ → Option Piece
piece_of [] = None
piece_of (b ∷ rest) =
    if is_name_byte b then word (b ∷ rest)
    else (if is_blank b then (if list_all is_blank rest then Some Blanks else None)
    else (if b == 34 then quoted rest
    else (if b == 40 then parenthesis rest
    else (if b == 92 then backslash rest
    else (if b == 45 then dashes (b ∷ rest)
    else (if b == 61 then equal_signs (b ∷ rest)
    else (if b == 60 then less rest
    else symbol_or_stray (b ∷ rest))))))))

-- a byte that can begin nothing but a symbol
abbrev pub is_other : ℕ → Bool
is_other b =
    not (is_name_byte b) && not (is_blank b) && not (b == 34) && not (b == 40) && not (b == 92) && not (b == 45)
    && not (b == 61) && not (b == 60)

-- nothing but symbols and stray bytes stands at the text's beginning
abbrev pub IsSymbolic : List ℕ → Type 0
IsSymbolic text = (front rest : List ℕ) → text ≡ front ++ rest → 0 < length front → piece_of front ≡ symbol_or_stray front

-- these bytes of the text's beginning are a piece, and no longer beginning is one
pub record IsLongest (text : List ℕ) (piece : Piece) (spelling : List ℕ) : Type 0 where
  pub is_piece : piece_of spelling ≡ Some piece
  pub longest : (front rest : List ℕ) → text ≡ front ++ rest → length spelling < length front → piece_of front ≡ None

-- the longest piece that the text begins with has n bytes
pub record IsFound (text : List ℕ) (piece : Piece) (n : ℕ) : Type 0 where
  pub some : 0 < n
  pub within : n ≤ length text
  pub is_longest : IsLongest text piece (take n text)

-- the longest beginning that makes a proof step behind `<` has n bytes
pub record IsStepLength (text : List ℕ) (n : ℕ) : Type 0 where
  pub within : n ≤ length text
  pub passes : is_step (take n text) ≡ true
  pub longest : (front rest : List ℕ) → text ≡ front ++ rest → n < length front → is_step front ≡ false
  pub digit : StartsIn is_digit text

abbrev pub HasNoStep : List ℕ → Type 0
HasNoStep text = (front rest : List ℕ) → text ≡ front ++ rest → is_step front ≡ false

-- the word at the text's beginning has n bytes, and no longer beginning is a word
pub record IsWordLength (text : List ℕ) (n : ℕ) : Type 0 where
  pub some : 0 < n
  pub within : n ≤ length text
  pub bytes : list_all is_name_byte (take n text) ≡ true
  pub cut : (not (begins_fairness (take n text)) || length (take n text) == 3) ≡ true
  pub longest : (front rest : List ℕ) → text ≡ front ++ rest → n < length front → word front ≡ None
