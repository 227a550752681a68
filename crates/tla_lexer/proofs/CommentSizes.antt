-- A comment is longer than the marks that begin and end it.
use Rattle.std.proofs.Common.{◌≡◌, ℕ, zero, suc, ◌≤◌, Bool, true, false, cond, List, [], ◌∷◌, length, Option, Some, None, subst, arith}
use Rattle.std.specs.Prelude.{◌==◌, nat_le, nat_lt, ◌^◌, pos, option_map, unwrap_or, if◌then◌else◌}
use Rattle.std.specs.List.{list_all, list_any}
use Rattle.tla_values.specs.Names.{is_letter, is_name_byte, is_reserved}
use Rattle.tla_lexer.specs.declared.pieces.Piece.{Piece}
use Rattle.tla_lexer.specs.declared.pieces.Piece.TheVariants.{Blanks, LineComment, BlockComment, OpenComment, Lexeme, BigNumber, Bad}
use Rattle.tla_lexer.specs.declared.token.TokenKind.TheVariants.{Symbol, Number, Reserved, Name, Quoted, ProofStep, Dashes, End}
use Rattle.tla_lexer.specs.Classes.{is_digit, is_blank, is_dash, is_equal_sign, is_line_feed}
use Rattle.tla_lexer.specs.Pieces.{piece_of, symbol, symbol_or_bad, symbol_or_stray, number, number_of, word_piece, word, quoted, text_of, parenthesis, block_comment, open_behind, backslash, is_octal, dashes, equal_signs, less, is_step}
use Rattle.tla_lexer.specs.Symbols.{symbol_of}

-- n bytes are enough for what stands there
abbrev pub Room : ℕ → Piece → Type 0
Room n LineComment = 2 ≤ n
Room n BlockComment = 4 ≤ n
Room n Blanks = Unit {0}
Room n OpenComment = Unit {0}
Room n (Lexeme kind) = Unit {0}
Room n BigNumber = Unit {0}
Room n Bad = Unit {0}

abbrev RoomFor : ℕ → Option Piece → Type 0
RoomFor n None = Unit {0}
RoomFor n (Some piece) = Room n piece

either : (n : ℕ) (b : Bool) (x y : Option Piece) → RoomFor n x → RoomFor n y → RoomFor n (cond b x y)
either n true x y h k = h
either n false x y h k = k

either_piece : (n : ℕ) (b : Bool) (x y : Piece) → Room n x → Room n y → Room n (cond b x y)
either_piece n true x y h k = h
either_piece n false x y h k = k

symbol_room : (n : ℕ) (s : List ℕ) → RoomFor n (symbol s)
symbol_room n s = any (symbol_of s)
  where
    any : (o : Option (List ℕ)) → RoomFor n (option_map (λ first. Lexeme (Symbol first)) o)
    any None = tt
    any (Some y) = tt

bad_room : (n : ℕ) (s : List ℕ) → Room n (symbol_or_bad s)
bad_room n s = any (symbol_of s)
  where
    any : (o : Option (List ℕ)) → Room n (unwrap_or (option_map (λ first. Lexeme (Symbol first)) o) Bad)
    any None = tt
    any (Some y) = tt

stray_room : (n : ℕ) (s : List ℕ) → RoomFor n (symbol_or_stray s)
stray_room n s = either n (length s == 1) (Some (symbol_or_bad s)) (symbol s) (bad_room n s) (symbol_room n s)

word_room : (n : ℕ) (s : List ℕ) → RoomFor n (word s)
word_room n s =
    either n _ (Some (word_piece s)) None
    (either_piece n (list_all is_digit s) (number s) _
    (either_piece n (nat_lt (number_of s) (2 ^ 127)) (Lexeme (Number (pos (number_of s)))) BigNumber tt tt)
    (either_piece n (list_any is_letter s) (Lexeme (if is_reserved s then Reserved s else Name s)) (symbol_or_bad s) tt (bad_room n s)))
    tt

quoted_room : (n : ℕ) (s : List ℕ) → RoomFor n (quoted s)
quoted_room n [] = tt
quoted_room n (b ∷ s) = any (text_of (b ∷ s))
  where
    any : (o : Option (List ℕ)) → RoomFor n (option_map (λ text. Lexeme (Quoted text)) o)
    any None = tt
    any (Some y) = tt

signs_room : (n : ℕ) (s : List ℕ) (b c : Bool) (many : Piece) → Room n many → RoomFor n (if b then Some (if c then many else symbol_or_bad s) else symbol_or_stray s)
signs_room n s b c many h = either n b _ (symbol_or_stray s) (either_piece n c many (symbol_or_bad s) h (bad_room n s)) (stray_room n s)

parenthesis_room : (s : List ℕ) → RoomFor (suc (length s)) (parenthesis s)
parenthesis_room [] = stray_room 1 (40 ∷ [])
parenthesis_room (b ∷ s) =
    either (suc (length (b ∷ s))) (b == 42) (block_comment (open_behind 1 s)) (symbol_or_stray (40 ∷ b ∷ s)) (closed s) (stray_room (suc (length (b ∷ s))) (40 ∷ b ∷ s))
  where
    closed : (t : List ℕ) → RoomFor (suc (suc (length t))) (block_comment (open_behind 1 t))
    closed [] = tt
    closed (c ∷ []) = tt
    closed (c ∷ d ∷ t) = long (suc (suc (length (c ∷ d ∷ t)))) (omega arith) (open_behind 1 (c ∷ d ∷ t))
      where
        long : (n : ℕ) → 4 ≤ n → (o : Option ℕ) → RoomFor n (block_comment o)
        long n le None = tt
        long n le (Some zero) = le
        long n le (Some (suc m)) = tt

backslash_room : (s : List ℕ) → RoomFor (suc (length s)) (backslash s)
backslash_room [] = stray_room 1 (92 ∷ [])
backslash_room (b ∷ s) =
    let n = suc (length (b ∷ s)) in
    let whole = 92 ∷ b ∷ s in
    either n (b == 42) (if list_any is_line_feed s then None else Some LineComment) _
    (either n (list_any is_line_feed s) None (Some LineComment) tt (omega arith))
    (either n (list_all is_letter (b ∷ s)) (Some (symbol_or_bad whole)) _ (bad_room n whole)
    (either n (is_octal (b ∷ s)) (Some Bad) (symbol_or_stray whole) tt (stray_room n whole)))

piece_of_room : (s : List ℕ) → RoomFor (length s) (piece_of s)
unfolding piece_of
piece_of_room [] = tt
piece_of_room (b ∷ s) =
    let n = length (b ∷ s) in
    either n (is_name_byte b) (word (b ∷ s)) _ (word_room n (b ∷ s))
    (either n (is_blank b) (if list_all is_blank s then Some Blanks else None) _ (either n (list_all is_blank s) (Some Blanks) None tt tt)
    (either n (b == 34) (quoted s) _ (quoted_room n s)
    (either n (b == 40) (parenthesis s) _ (parenthesis_room s)
    (either n (b == 92) (backslash s) _ (backslash_room s)
    (either n (b == 45) (dashes (b ∷ s)) _ (signs_room n (b ∷ s) (list_all is_dash (b ∷ s)) (nat_le 4 n) (Lexeme Dashes) tt)
    (either n (b == 61) (equal_signs (b ∷ s)) _ (signs_room n (b ∷ s) (list_all is_equal_sign (b ∷ s)) (nat_le 4 n) (Lexeme End) tt)
    (either n (b == 60) (less s) (symbol_or_stray (b ∷ s))
    (either n (is_step s) (Some (Lexeme ProofStep)) (symbol_or_stray (60 ∷ s)) tt (stray_room n (60 ∷ s)))
    (stray_room n (b ∷ s)))))))))

pub has_room : (s : List ℕ) (piece : Piece) → piece_of s ≡ Some piece → Room (length s) piece
has_room s piece h = subst (RoomFor (length s)) h (piece_of_room s)
