-- How a text is read on: what stands at its beginning, and the tokens of what is behind.
use Rattle.std.proofs.Common.{◌≡◌, ℕ, ◌<◌, ◌≤◌, ◌+◌, inl, inr, Bool, true, false, List, [], ◌∷◌, ◌++◌, length, drop, Option, Some, None, cond, refl, sym, ◌∙◌, ap, subst, arith, codes, append_assoc, length-append}
use Rattle.std.specs.Prelude.{◌&&◌, ◌||◌, ◌==◌, not, MatchBool, if◌then◌else◌, bytes_eq, nat_le, nat_lt, fold, count_by}
use Rattle.std.specs.List.{join_with_byte, list_all, list_any}
use Rattle.std.proofs.lemmas.Bool.{and_left, and_right, and_parts, cond-false, cond-true, leb-true, lt-leb, ltb-true, or_cases}
use Rattle.std.proofs.lemmas.List.Sums.{fold-append, sum_by-append}
use Rattle.tla_values.specs.Names.{begins_fairness, is_letter, is_name, is_name_byte, is_reserved, is_word, reserved_words}
use Rattle.tla_meaning.specs.declared.place.Place.{Place}
use Rattle.tla_lexer.specs.Classes.{is_blank, is_dash, is_digit, is_equal_sign, is_line_feed}
use Rattle.tla_lexer.specs.Pieces.{IsLongest, backslash, piece_of, symbol_or_stray, word, word_piece}
use Rattle.tla_lexer.specs.Places.{column_behind, line_behind, next_column, place_behind}
use Rattle.tla_lexer.specs.Header.{IsModuleIn, begins_header}
use Rattle.tla_lexer.specs.Runs.{IsRun, IsTokenRun, Laid, is_fault, is_last, notes_behind, token_of, tokens_of}
use Rattle.tla_lexer.specs.Symbols.{spellings, symbol_of, symbol_table}
use Rattle.tla_lexer.specs.declared.pieces.Piece.{Piece}
use Rattle.tla_lexer.specs.declared.pieces.Piece.TheVariants.{Blanks, LineComment, Lexeme}
use Rattle.tla_lexer.specs.declared.token.Token.{Token}
use Rattle.tla_lexer.specs.declared.token.TokenKind.{TokenKind}
use Rattle.tla_lexer.specs.declared.token.TokenKind.TheVariants.{Dashes, End, Name, Reserved, Symbol}
use Rattle.tla_lexer.proofs.SymbolLemmas.{stray_none}

-- the text is read as these tokens, where these bytes stand before it and these comments since the last token
pub record Reads (file : ℕ) (before : List ℕ) (notes : List (List ℕ)) (text : List ℕ) (tokens : List Token) : Type 0 where
  pub pieces : List Laid
  pub run : IsRun text pieces
  pub sound : list_all (λ x. not (is_fault x.piece)) pieces ≡ true
  pub tokens_so : tokens ≡ tokens_of file before notes pieces

-- ---- one piece

-- a longer front of a text has the byte behind the shorter one
longer : (s front : List ℕ) (b : ℕ) (rest behind : List ℕ) → s ++ (b ∷ rest) ≡ front ++ behind → length s < length front
    → (more : List ℕ) × (front ≡ s ++ (b ∷ more))
longer [] [] b rest behind e lt = absurd (omega arith)
longer [] (c ∷ front) b rest behind e lt = let same : c ≡ b = cc in (front, ap (λ (x : ℕ). x ∷ front) same)
longer (a ∷ s) [] b rest behind e lt = absurd (omega arith)
longer (a ∷ s) (c ∷ front) b rest behind e lt =
    let same : c ≡ a = cc in
    let tail : s ++ (b ∷ rest) ≡ front ++ behind = cc in
    let next = longer s front b rest behind tail (omega arith) in
    (next.0, ap (λ (x : ℕ). x ∷ front) same ∙ ap (λ (x : List ℕ). a ∷ x) next.1)

-- with the next byte it is no piece, whatever follows
abbrev EndsBefore : List ℕ → ℕ → Type 0
EndsBefore s b = (more : List ℕ) → piece_of (s ++ (b ∷ more)) ≡ None

longest_here : (p : Piece) (s : List ℕ) (b : ℕ) (rest : List ℕ) → piece_of s ≡ Some p → EndsBefore s b → IsLongest (s ++ (b ∷ rest)) p s
longest_here p s b rest is ends = record {
  is_piece = is;
  longest = λ front behind whole lt. let more = longer s front b rest behind whole lt in ap piece_of more.1 ∙ ends more.0;
}

-- a piece behind which the text goes on
step : (file : ℕ) (before : List ℕ) (notes : List (List ℕ)) (p : Piece) (s : List ℕ) (b : ℕ) (rest : List ℕ) (ts : List Token) → piece_of s ≡ Some p → EndsBefore s b
    → is_last p ≡ false → not (is_fault p) ≡ true → Reads file (before ++ s) (notes_behind notes p s) (b ∷ rest) ts
    → Reads file before notes (s ++ (b ∷ rest)) (token_of (place_behind file before) notes p ++ ts)
step file before notes p s b rest ts is ends last fine reads = record {
  pieces = record { piece = p; spelling = s } ∷ reads.pieces;
  run = (b ∷ rest, (refl, (longest_here p s b rest is ends, goes_on (is_last p) last)));
  sound = ap (λ (x : Bool). x && list_all (λ y. not (is_fault y.piece)) reads.pieces) fine ∙ reads.sound;
  tokens_so = ap (λ (x : List Token). token_of (place_behind file before) notes p ++ x) reads.tokens_so;
}
  where
    goes_on : (x : Bool) → x ≡ false → MatchBool x (reads.pieces ≡ []) (IsRun (b ∷ rest) reads.pieces)
    goes_on true e = absurd cc
    goes_on false e = reads.run

-- ---- words

-- a byte that is no part of a word ends one
word_ends : (c : ℕ) (s : List ℕ) (b : ℕ) → is_name_byte c ≡ true → is_name_byte b ≡ false → EndsBefore (c ∷ s) b
unfolding piece_of
word_ends c s b starts stops = λ more.
    cond-true (is_name_byte c) (word (c ∷ (s ++ (b ∷ more)))) _ starts
    ∙ cond-false (list_all is_name_byte (c ∷ (s ++ (b ∷ more))) && (not (begins_fairness (c ∷ (s ++ (b ∷ more)))) || length (c ∷ (s ++ (b ∷ more))) == 3)) _ None
    (and_left (list_all is_name_byte (c ∷ (s ++ (b ∷ more)))) _ (fails (c ∷ s) more))
  where
    fails : (t more : List ℕ) → list_all is_name_byte (t ++ (b ∷ more)) ≡ false
    fails [] more = and_left (is_name_byte b) (list_all is_name_byte more) stops
    fails (x ∷ t) more = and_right (is_name_byte x) (list_all is_name_byte (t ++ (b ∷ more))) (fails t more)

-- a word of letters
word_is : (c : ℕ) (s : List ℕ) → list_all is_name_byte (c ∷ s) ≡ true → begins_fairness (c ∷ s) ≡ false → list_all is_digit (c ∷ s) ≡ false → list_any is_letter (c ∷ s) ≡ true
    → piece_of (c ∷ s) ≡ Some (Lexeme (if is_reserved (c ∷ s) then Reserved (c ∷ s) else Name (c ∷ s)))
unfolding piece_of
word_is c s bytes fair digits letters =
    let starts : is_name_byte c ≡ true = (and_parts (is_name_byte c) (list_all is_name_byte s) bytes).0 in
    let whole : (list_all is_name_byte (c ∷ s) && (not (begins_fairness (c ∷ s)) || length (c ∷ s) == 3)) ≡ true =
    ap (λ (x : Bool). x && (not (begins_fairness (c ∷ s)) || length (c ∷ s) == 3)) bytes ∙ ap (λ (x : Bool). not x || length (c ∷ s) == 3) fair in
    cond-true (is_name_byte c) (word (c ∷ s)) _ starts
    ∙ cond-true (list_all is_name_byte (c ∷ s) && (not (begins_fairness (c ∷ s)) || length (c ∷ s) == 3)) (Some (word_piece (c ∷ s))) None whole
    ∙ ap (λ (x : Piece). Some x) (cond-false (list_all is_digit (c ∷ s)) _ _ digits ∙ cond-true (list_any is_letter (c ∷ s)) _ _ letters)

name_there : (w : List ℕ) → list_all is_letter w ≡ true → is_name w ≡ true → piece_of w ≡ Some (Lexeme (Name w))
unfolding is_name
name_there [] letters is = absurd cc
name_there (c ∷ s) letters is =
    let parts = and_parts (is_word (c ∷ s) && not (begins_fairness (c ∷ s))) (not (is_reserved (c ∷ s))) is in
    let first = and_parts (is_word (c ∷ s)) (not (begins_fairness (c ∷ s))) parts.0 in
    let words = and_parts (list_all is_name_byte (c ∷ s)) (list_any is_letter (c ∷ s)) first.0 in
    word_is c s words.0 (off (begins_fairness (c ∷ s)) first.1) (and_left (is_digit c) (list_all is_digit s) (no_digit c (and_parts (is_letter c) (list_all is_letter s) letters).0)) words.1
    ∙ ap (λ (x : Bool). Some (Lexeme (if x then Reserved (c ∷ s) else Name (c ∷ s)))) (off (is_reserved (c ∷ s)) parts.1)
  where
    off : (x : Bool) → not x ≡ true → x ≡ false
    off true e = absurd cc
    off false e = refl

    above : (x : ℕ) → is_letter x ≡ true → 57 < x
    above x letter = elim (or_cases (nat_le 65 x && nat_le x 90) (nat_le 97 x && nat_le x 122) letter) [
      | inl first ↦ (let low : 65 ≤ x = leb-true 65 x (and_parts (nat_le 65 x) (nat_le x 90) first).0 in omega arith)
      | inr second ↦ (let low : 97 ≤ x = leb-true 97 x (and_parts (nat_le 97 x) (nat_le x 122) second).0 in omega arith)
    ]

    no_digit : (x : ℕ) → is_letter x ≡ true → is_digit x ≡ false
    no_digit x letter = and_right (nat_le 48 x) (nat_le x 57) (lt-leb x 57 (above x letter))

pub no_name : is_name [] ≡ true → ⊥
unfolding is_name
no_name e = absurd cc

letter_byte : (c : ℕ) → is_letter c ≡ true → is_name_byte c ≡ true
letter_byte c letter = ap (λ (x : Bool). (x || (nat_le 48 c && nat_le c 57)) || c == 95) letter

-- a name of letters
pub name_reads : (file : ℕ) (before : List ℕ) (notes : List (List ℕ)) (w : List ℕ) (b : ℕ) (rest : List ℕ) (ts : List Token) → list_all is_letter w ≡ true → is_name w ≡ true
    → is_name_byte b ≡ false → Reads file (before ++ w) [] (b ∷ rest) ts
    → Reads file before notes (w ++ (b ∷ rest)) (record { kind = Name w; place = place_behind file before; notes = join_with_byte 10 notes } ∷ ts)
name_reads file before notes [] b rest ts letters is stops reads = absurd (no_name is)
name_reads file before notes (c ∷ s) b rest ts letters is stops reads =
    step file before notes (Lexeme (Name (c ∷ s))) (c ∷ s) b rest ts (name_there (c ∷ s) letters is)
    (word_ends c s b (letter_byte c (and_parts (is_letter c) (list_all is_letter s) letters).0) stops) refl refl reads

-- a word that the language has
pub reserved_reads : (file : ℕ) (before : List ℕ) (notes : List (List ℕ)) (c : ℕ) (s : List ℕ) (b : ℕ) (rest : List ℕ) (ts : List Token) → list_all is_name_byte (c ∷ s) ≡ true
    → begins_fairness (c ∷ s) ≡ false → list_all is_digit (c ∷ s) ≡ false → list_any is_letter (c ∷ s) ≡ true → is_reserved (c ∷ s) ≡ true
    → is_name_byte b ≡ false → Reads file (before ++ (c ∷ s)) [] (b ∷ rest) ts
    → Reads file before notes ((c ∷ s) ++ (b ∷ rest)) (record { kind = Reserved (c ∷ s); place = place_behind file before; notes = join_with_byte 10 notes } ∷ ts)
reserved_reads file before notes c s b rest ts bytes fair digits letters reserved stops reads =
    let is : piece_of (c ∷ s) ≡ Some (Lexeme (Reserved (c ∷ s))) =
    word_is c s bytes fair digits letters ∙ ap (λ (x : Bool). Some (Lexeme (if x then Reserved (c ∷ s) else Name (c ∷ s)))) reserved in
    step file before notes (Lexeme (Reserved (c ∷ s))) (c ∷ s) b rest ts is (word_ends c s b (and_parts (is_name_byte c) (list_all is_name_byte s) bytes).0 stops) refl refl reads

-- ---- blanks

blanks_end : (c : ℕ) (s : List ℕ) (b : ℕ) → is_name_byte c ≡ false → is_blank c ≡ true → is_blank b ≡ false → EndsBefore (c ∷ s) b
unfolding piece_of
blanks_end c s b no_word starts stops = λ more.
    cond-false (is_name_byte c) (word (c ∷ (s ++ (b ∷ more)))) _ no_word
    ∙ cond-true (is_blank c) (if list_all is_blank (s ++ (b ∷ more)) then Some Blanks else None) _ starts
    ∙ cond-false (list_all is_blank (s ++ (b ∷ more))) (Some Blanks) None (fails s more)
  where
    fails : (t more : List ℕ) → list_all is_blank (t ++ (b ∷ more)) ≡ false
    fails [] more = and_left (is_blank b) (list_all is_blank more) stops
    fails (x ∷ t) more = and_right (is_blank x) (list_all is_blank (t ++ (b ∷ more))) (fails t more)

blanks_there : (c : ℕ) (s : List ℕ) → is_name_byte c ≡ false → list_all is_blank (c ∷ s) ≡ true → piece_of (c ∷ s) ≡ Some Blanks
unfolding piece_of
blanks_there c s no_word all =
    let parts = and_parts (is_blank c) (list_all is_blank s) all in
    cond-false (is_name_byte c) (word (c ∷ s)) _ no_word
    ∙ cond-true (is_blank c) (if list_all is_blank s then Some Blanks else None) _ parts.0
    ∙ cond-true (list_all is_blank s) (Some Blanks) None parts.1

pub blanks_read : (file : ℕ) (before : List ℕ) (notes : List (List ℕ)) (c : ℕ) (s : List ℕ) (b : ℕ) (rest : List ℕ) (ts : List Token) → is_name_byte c ≡ false
    → list_all is_blank (c ∷ s) ≡ true → is_blank b ≡ false → Reads file (before ++ (c ∷ s)) notes (b ∷ rest) ts → Reads file before notes ((c ∷ s) ++ (b ∷ rest)) ts
blanks_read file before notes c s b rest ts no_word all stops reads =
    step file before notes Blanks (c ∷ s) b rest ts (blanks_there c s no_word all)
    (blanks_end c s b no_word (and_parts (is_blank c) (list_all is_blank s) all).0 stops) refl refl reads

-- ---- symbols before a blank

-- the symbol ends before the byte
abbrev SymbolEnds : List ℕ → ℕ → Type 0
SymbolEnds s b = (more : List ℕ) → symbol_of (s ++ (b ∷ more)) ≡ None

comma_ends : EndsBefore (codes ",") 10
unfolding piece_of symbol_table spellings
comma_ends = λ more. stray_none (44 ∷ 10 ∷ more) (omega arith) refl

tick_ends : EndsBefore (codes "'") 32
unfolding piece_of symbol_table spellings
tick_ends = λ more. stray_none (39 ∷ 32 ∷ more) (omega arith) refl

equals_ends : EndsBefore (codes "=") 32
unfolding piece_of symbol_table spellings
equals_ends = λ more. stray_none (61 ∷ 32 ∷ more) (omega arith) refl

defines_ends : EndsBefore (codes "==") 32
unfolding piece_of symbol_table spellings
defines_ends = λ more. stray_none (61 ∷ 61 ∷ 32 ∷ more) (omega arith) refl

and_ends : EndsBefore (codes "/\\") 32
unfolding piece_of symbol_table spellings
and_ends = λ more. stray_none (47 ∷ 92 ∷ 32 ∷ more) (omega arith) refl

or_ends : EndsBefore (codes "\\/") 32
unfolding piece_of symbol_table spellings
or_ends = λ more. stray_none (92 ∷ 47 ∷ 32 ∷ more) (omega arith) refl

element_ends : EndsBefore (codes "\\in") 32
unfolding piece_of symbol_table spellings
element_ends = λ more. stray_none (92 ∷ 105 ∷ 110 ∷ 32 ∷ more) (omega arith) refl

symbol_reads : (file : ℕ) (before : List ℕ) (notes : List (List ℕ)) (s y : List ℕ) (b : ℕ) (rest : List ℕ) (ts : List Token) → piece_of s ≡ Some (Lexeme (Symbol y)) → EndsBefore s b
    → Reads file (before ++ s) [] (b ∷ rest) ts
    → Reads file before notes (s ++ (b ∷ rest)) (record { kind = Symbol y; place = place_behind file before; notes = join_with_byte 10 notes } ∷ ts)
symbol_reads file before notes s y b rest ts is ends reads = step file before notes (Lexeme (Symbol y)) s b rest ts is ends refl refl reads

module _ (file : ℕ) (before rest : List ℕ) (ts : List Token) where
  -- a symbol without notes, at its place
  abbrev sign_here : List ℕ → List Token
  sign_here y = record { kind = Symbol y; place = place_behind file before; notes = [] } ∷ ts

  pub comma_reads : Reads file (before ++ codes ",") [] (10 ∷ rest) ts → Reads file before [] (codes "," ++ (10 ∷ rest)) (sign_here (codes ","))
  unfolding piece_of symbol_table spellings
  comma_reads reads = symbol_reads file before [] (codes ",") (codes ",") 10 rest ts refl comma_ends reads

  pub tick_reads : Reads file (before ++ codes "'") [] (32 ∷ rest) ts → Reads file before [] (codes "'" ++ (32 ∷ rest)) (sign_here (codes "'"))
  unfolding piece_of symbol_table spellings
  tick_reads reads = symbol_reads file before [] (codes "'") (codes "'") 32 rest ts refl tick_ends reads

  pub equals_reads : Reads file (before ++ codes "=") [] (32 ∷ rest) ts → Reads file before [] (codes "=" ++ (32 ∷ rest)) (sign_here (codes "="))
  unfolding piece_of symbol_table spellings
  equals_reads reads = symbol_reads file before [] (codes "=") (codes "=") 32 rest ts refl equals_ends reads

  pub defines_reads : Reads file (before ++ codes "==") [] (32 ∷ rest) ts → Reads file before [] (codes "==" ++ (32 ∷ rest)) (sign_here (codes "=="))
  unfolding piece_of symbol_table spellings
  defines_reads reads = symbol_reads file before [] (codes "==") (codes "==") 32 rest ts refl defines_ends reads

  pub and_reads : Reads file (before ++ codes "/\\") [] (32 ∷ rest) ts → Reads file before [] (codes "/\\" ++ (32 ∷ rest)) (sign_here (codes "/\\"))
  unfolding piece_of symbol_table spellings
  and_reads reads = symbol_reads file before [] (codes "/\\") (codes "/\\") 32 rest ts refl and_ends reads

  pub or_reads : Reads file (before ++ codes "\\/") [] (32 ∷ rest) ts → Reads file before [] (codes "\\/" ++ (32 ∷ rest)) (sign_here (codes "\\/"))
  unfolding piece_of symbol_table spellings
  or_reads reads = symbol_reads file before [] (codes "\\/") (codes "\\/") 32 rest ts refl or_ends reads

  pub element_reads : Reads file (before ++ codes "\\in") [] (32 ∷ rest) ts → Reads file before [] (codes "\\in" ++ (32 ∷ rest)) (sign_here (codes "\\in"))
  unfolding piece_of symbol_table spellings
  element_reads reads = symbol_reads file before [] (codes "\\in") (codes "\\in") 32 rest ts refl element_ends reads

-- ---- an annotation, the header's dashes and the end

annotation_ends : EndsBefore (codes "\\* @type: Bool;") 10
unfolding piece_of
annotation_ends = λ more. refl

pub annotation_read : (file : ℕ) (before : List ℕ) (notes : List (List ℕ)) (rest : List ℕ) (ts : List Token)
    → Reads file (before ++ codes "\\* @type: Bool;") (notes ++ codes " @type: Bool;" ∷ []) (10 ∷ rest) ts
    → Reads file before notes (codes "\\* @type: Bool;" ++ (10 ∷ rest)) ts
unfolding piece_of
annotation_read file before notes rest ts reads = step file before notes LineComment (codes "\\* @type: Bool;") 10 rest ts refl annotation_ends refl refl reads

dashes_end : EndsBefore (codes "----") 32
unfolding piece_of symbol_table spellings
dashes_end = λ more. stray_none (45 ∷ 45 ∷ 45 ∷ 45 ∷ 32 ∷ more) (omega arith) refl

dashes_end_line : EndsBefore (codes "----") 10
unfolding piece_of symbol_table spellings
dashes_end_line = λ more. stray_none (45 ∷ 45 ∷ 45 ∷ 45 ∷ 10 ∷ more) (omega arith) refl

pub dashes_read : (file : ℕ) (before : List ℕ) (rest : List ℕ) (ts : List Token) → Reads file (before ++ codes "----") [] (32 ∷ rest) ts
    → Reads file before [] (codes "----" ++ (32 ∷ rest)) (record { kind = Dashes; place = place_behind file before; notes = [] } ∷ ts)
unfolding piece_of
dashes_read file before rest ts reads = step file before [] (Lexeme Dashes) (codes "----") 32 rest ts refl dashes_end refl refl reads

pub dashes_read_line : (file : ℕ) (before : List ℕ) (rest : List ℕ) (ts : List Token) → Reads file (before ++ codes "----") [] (10 ∷ rest) ts
    → Reads file before [] (codes "----" ++ (10 ∷ rest)) (record { kind = Dashes; place = place_behind file before; notes = [] } ∷ ts)
unfolding piece_of
dashes_read_line file before rest ts reads = step file before [] (Lexeme Dashes) (codes "----") 10 rest ts refl dashes_end_line refl refl reads

end_ends : EndsBefore (codes "====") 10
unfolding piece_of symbol_table spellings
end_ends = λ more. stray_none (61 ∷ 61 ∷ 61 ∷ 61 ∷ 10 ∷ more) (omega arith) refl

-- behind the end nothing is read
pub end_reads : (file : ℕ) (before : List ℕ) (rest : List ℕ)
    → Reads file before [] (codes "====" ++ (10 ∷ rest)) (record { kind = End; place = place_behind file before; notes = [] } ∷ [])
unfolding piece_of
end_reads file before rest = record {
  pieces = record { piece = Lexeme End; spelling = codes "====" } ∷ [];
  run = (10 ∷ rest, (refl, (longest_here (Lexeme End) (codes "====") 10 rest refl end_ends, refl)));
  sound = refl;
  tokens_so = refl;
}

-- ---- the whole

pub whole_read : (file : ℕ) (text : List ℕ) (ts : List Token) → begins_header text ≡ true → Reads file [] [] text ts → IsTokenRun file text ts
whole_read file text ts header reads = record {
  before = [];
  text = text;
  pieces = reads.pieces;
  is_module = record { whole = refl; begins = header; first = λ front rest e lt. absurd (omega arith) };
  run = reads.run;
  sound = reads.sound;
  tokens_are = reads.tokens_so;
}

-- the same before equal bytes
pub reads_behind : (file : ℕ) (a b : List ℕ) (notes : List (List ℕ)) (text : List ℕ) (ts : List Token) → a ≡ b → Reads file a notes text ts → Reads file b notes text ts
reads_behind file a b notes text ts same reads = subst (λ (x : List ℕ). Reads file x notes text ts) same reads

pub reads_text : (file : ℕ) (before : List ℕ) (notes : List (List ℕ)) (a b : List ℕ) (ts : List Token) → a ≡ b → Reads file before notes a ts → Reads file before notes b ts
reads_text file before notes a b ts same reads = subst (λ (x : List ℕ). Reads file before notes x ts) same reads

-- ---- places

-- a byte that takes one column
abbrev pub is_narrow : ℕ → Bool
is_narrow b = not (b == 10) && not (b == 9) && nat_lt b 128

narrow_column : (c b : ℕ) → is_narrow b ≡ true → next_column c b ≡ c + 1
narrow_column c b narrow =
    let parts = and_parts (not (b == 10) && not (b == 9)) (nat_lt b 128) narrow in
    let first = and_parts (not (b == 10)) (not (b == 9)) parts.0 in
    cond-false (b == 10) _ _ (off (b == 10) first.0) ∙ cond-false (b == 9) _ _ (off (b == 9) first.1)
    ∙ cond-false (nat_le 128 b && nat_le b 191) c (c + 1) (and_left (nat_le 128 b) (nat_le b 191) (lt-leb 128 b (ltb-true b 128 parts.1)))
  where
    off : (x : Bool) → not x ≡ true → x ≡ false
    off true e = absurd cc
    off false e = refl

narrow_columns : (c : ℕ) (w : List ℕ) → list_all is_narrow w ≡ true → fold next_column c w ≡ c + length w
narrow_columns c [] all = omega arith
narrow_columns c (b ∷ w) all =
    let parts = and_parts (is_narrow b) (list_all is_narrow w) all in
    ap (λ (n : ℕ). fold next_column n w) (narrow_column c b parts.0) ∙ narrow_columns (c + 1) w parts.1 ∙ omega arith

lines_more : (v w : List ℕ) → count_by is_line_feed (v ++ w) ≡ count_by is_line_feed v + count_by is_line_feed w
lines_more v w = sum_by-append (λ x. cond (is_line_feed x) 1 0) v w

narrow_lines : (w : List ℕ) → list_all is_narrow w ≡ true → count_by is_line_feed w ≡ 0
narrow_lines [] all = refl
narrow_lines (b ∷ w) all =
    let parts = and_parts (is_narrow b) (list_all is_narrow w) all in
    let none = and_parts (not (b == 10) && not (b == 9)) (nat_lt b 128) parts.0 in
    let here : count_by is_line_feed (b ∷ []) ≡ 0 = one (b == 10) (and_parts (not (b == 10)) (not (b == 9)) none.0).0 in
    omega (arith, lines_more (b ∷ []) w, here, narrow_lines w parts.1)
  where
    one : (x : Bool) → not x ≡ true → 0 + cond x 1 0 ≡ 0
    one true e = absurd cc
    one false e = refl

-- the place behind bytes that each take one column
pub place_on : (file : ℕ) (before w : List ℕ) → list_all is_narrow w ≡ true
    → place_behind file (before ++ w) ≡ record { file = file; line = line_behind before; col = column_behind before + length w }
place_on file before w narrow =
    let line : line_behind (before ++ w) ≡ line_behind before = omega (arith, lines_more before w, narrow_lines w narrow) in
    let col : column_behind (before ++ w) ≡ column_behind before + length w = fold-append next_column 1 before w ∙ narrow_columns (column_behind before) w narrow in
    ap (λ (n : ℕ). record { file = file; line = n; col = column_behind (before ++ w) }) line
    ∙ ap (λ (n : ℕ). record { file = file; line = line_behind before; col = n }) col

-- and behind a line feed and such bytes
pub place_line : (file : ℕ) (before w : List ℕ) → list_all is_narrow w ≡ true
    → place_behind file (before ++ (10 ∷ w)) ≡ record { file = file; line = line_behind before + 1; col = 1 + length w }
place_line file before w narrow =
    let fed = lines_more (10 ∷ []) w in
    let line : line_behind (before ++ (10 ∷ w)) ≡ line_behind before + 1 = omega (arith, lines_more before (10 ∷ w), fed, narrow_lines w narrow) in
    let col : column_behind (before ++ (10 ∷ w)) ≡ 1 + length w = fold-append next_column 1 before (10 ∷ w) ∙ narrow_columns 1 w narrow in
    ap (λ (n : ℕ). record { file = file; line = n; col = column_behind (before ++ (10 ∷ w)) }) line
    ∙ ap (λ (n : ℕ). record { file = file; line = line_behind before + 1; col = n }) col
