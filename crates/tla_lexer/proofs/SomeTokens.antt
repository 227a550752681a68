-- A module has at least one token: the dashes of its header.
use Rattle.std.proofs.Common.{◌≡◌, ℕ, ◌<◌, Bool, true, false, List, [], ◌∷◌, ◌++◌, length, Option, Some, None, Result, Ok, Err, refl, sym, ◌∙◌, ap, subst, arith}
use Rattle.std.specs.Prelude.{IfOk, ◌&&◌, ◌-◌, nat_le, not, if◌then◌else◌, option_map, unwrap_or, ◌==◌}
use Rattle.std.specs.List.{list_all}
use Rattle.std.proofs.lemmas.Bool.{and_parts, eqb-true, true≢false}
use Rattle.tla_lexer.specs.Classes.{is_dash}
use Rattle.tla_lexer.specs.Header.{IsModuleIn, begins_header, behind_run, says_module}
use Rattle.tla_lexer.specs.Pieces.{IsLongest, dashes, piece_of, symbol_or_bad}
use Rattle.tla_lexer.specs.Runs.{IsRun, IsTokenRun, Laid, is_fault, notes_behind, token_of, tokens_of}
use Rattle.tla_lexer.specs.Places.{place_behind}
use Rattle.tla_lexer.specs.Symbols.{symbol_of}
use Rattle.tla_lexer.specs.declared.pieces.Piece.{Piece}
use Rattle.tla_lexer.specs.declared.pieces.Piece.TheVariants.{Lexeme, Bad}
use Rattle.tla_lexer.specs.declared.fault.LexFault.{LexFault}
use Rattle.tla_lexer.specs.declared.token.Token.{Token}
use Rattle.tla_lexer.specs.declared.token.TokenKind.{TokenKind}
use Rattle.tla_lexer.specs.declared.token.TokenKind.TheVariants.{Dashes, Symbol}

abbrev IsLexeme : Piece → Type 0
IsLexeme p = (kind : TokenKind) × (p ≡ Lexeme kind)

bad_not : (p : Piece) → p ≡ Bad → not (is_fault p) ≡ true → ⊥
bad_not p e sound = absurd (true≢false (sym (ap (λ (x : Piece). not (is_fault x)) (sym e) ∙ sound)))

by_symbol : (o : Option (List ℕ)) (p : Piece) → p ≡ unwrap_or (option_map (λ first. Lexeme (Symbol first)) o) Bad → not (is_fault p) ≡ true → IsLexeme p
by_symbol None p e sound = absurd (bad_not p e sound)
by_symbol (Some first) p e sound = (Symbol first, e)

some_is : (a p : Piece) → Some a ≡ Some p → p ≡ a
some_is a p e = cc

-- a piece that begins with a dash, and is not bad, is a token
by_tests : (all many one : Bool) (o : Option (List ℕ)) (p : Piece)
    → (if all then Some (if many then Lexeme Dashes else unwrap_or (option_map (λ first. Lexeme (Symbol first)) o) Bad)
    else (if one then Some (unwrap_or (option_map (λ first. Lexeme (Symbol first)) o) Bad) else option_map (λ first. Lexeme (Symbol first)) o)) ≡ Some p
    → not (is_fault p) ≡ true → IsLexeme p
by_tests true true one o p e sound = (Dashes, cc)
by_tests true false one o p e sound = by_symbol o p (some_is _ _ e) sound
by_tests false many true o p e sound = by_symbol o p (some_is _ _ e) sound
by_tests false many false None p e sound = absurd cc
by_tests false many false (Some first) p e sound = (Symbol first, cc)

dashes_lexeme : (s : List ℕ) (p : Piece) → dashes s ≡ Some p → not (is_fault p) ≡ true → IsLexeme p
dashes_lexeme s p e sound = by_tests (list_all is_dash s) (nat_le 4 (length s)) (length s == 1) (symbol_of s) p e sound

piece_lexeme : (b : ℕ) (s : List ℕ) (p : Piece) → b ≡ 45 → piece_of (b ∷ s) ≡ Some p → not (is_fault p) ≡ true → IsLexeme p
unfolding piece_of
piece_lexeme b s p dash e sound = dashes_lexeme (45 ∷ s) p (subst (λ (x : ℕ). piece_of (x ∷ s) ≡ Some p) dash e) sound

-- a header begins with a dash
header_dash : (b : ℕ) (text : List ℕ) → begins_header (b ∷ text) ≡ true → b ≡ 45
header_dash b text h = eqb-true b 45 (by (is_dash b) refl)
  where
    counted : nat_le 4 (length (b ∷ text) - length (behind_run is_dash (b ∷ text))) ≡ true
    counted = (and_parts (nat_le 4 (length (b ∷ text) - length (behind_run is_dash (b ∷ text)))) _ h).0

    nothing : (n : ℕ) → nat_le 4 (n - n) ≡ false
    nothing n = let zero : n - n ≡ 0 = omega arith in ap (nat_le 4) zero

    by : (d : Bool) → is_dash b ≡ d → is_dash b ≡ true
    by true e = e
    by false e =
        let rest : behind_run is_dash (b ∷ text) ≡ b ∷ text = ap (λ (x : Bool). if x then behind_run is_dash text else b ∷ text) e in
        let none : nat_le 4 (length (b ∷ text) - length (b ∷ text)) ≡ true = sym (ap (λ (x : List ℕ). nat_le 4 (length (b ∷ text) - length x)) rest) ∙ counted in
        absurd (true≢false (sym none ∙ nothing (length (b ∷ text))))

-- the first piece of a header's text is a token
first_lexeme : (text : List ℕ) (x : Laid) (rest : List ℕ) → begins_header text ≡ true → text ≡ x.spelling ++ rest → piece_of x.spelling ≡ Some x.piece
    → not (is_fault x.piece) ≡ true → IsLexeme x.piece
unfolding piece_of
first_lexeme text x rest header whole is sound = by x.spelling whole is
  where
    by : (s : List ℕ) → text ≡ s ++ rest → piece_of s ≡ Some x.piece → IsLexeme x.piece
    by [] same piece = absurd cc
    by (b ∷ s) same piece = piece_lexeme b s x.piece (header_dash b (s ++ rest) (subst (λ (t : List ℕ). begins_header t ≡ true) same header)) piece sound

some_token : (file : ℕ) (before : List ℕ) (p : Piece) (notes : List (List ℕ)) (more : List Token) → IsLexeme p → 0 < length (token_of (place_behind file before) notes p ++ more)
some_token file before p notes more is =
    subst (λ (q : Piece). 0 < length (token_of (place_behind file before) notes q ++ more)) (sym is.1) (omega arith)

some_tokens : (file : ℕ) (bytes : List ℕ) (tokens : List Token) → IsTokenRun file bytes tokens → 0 < length tokens
some_tokens file bytes tokens found = by found.pieces found.run found.sound found.tokens_are
  where
    by : (pieces : List Laid) → IsRun found.text pieces → list_all (λ x. not (is_fault x.piece)) pieces ≡ true → tokens ≡ tokens_of file found.before [] pieces → 0 < length tokens
    by [] run sound same = absurd (true≢false (sym found.is_module.begins ∙ ap begins_header run))
    by (x ∷ xs) run sound same =
        let here = first_lexeme found.text x run.0 found.is_module.begins run.1.0 run.1.1.0.is_piece (and_parts (not (is_fault x.piece)) _ sound).0 in
        subst (λ (ts : List Token). 0 < length ts) (sym same) (some_token file found.before x.piece [] _ here)

pub some_found : (file : ℕ) (bytes : List ℕ) (r : Result (List Token) LexFault) → IfOk r (λ found. IsTokenRun file bytes found) → IfOk r (λ found. 0 < length found)
some_found file bytes (Ok tokens) run = some_tokens file bytes tokens run
some_found file bytes (Err e) run = tt
