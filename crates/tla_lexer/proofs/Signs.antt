-- Runs of `-` and of `=`.
use Rattle.std.proofs.Common.{◌≡◌, ℕ, ◌<◌, ◌≤◌, Bool, true, false, List, [], ◌∷◌, ◌++◌, length, take, drop, Option, Some, None, refl, sym, ◌∙◌, ap, subst, arith}
use Rattle.std.specs.Prelude.{◌==◌, nat_le, if◌then◌else◌}
use Rattle.std.specs.List.{list_all}
use Rattle.std.proofs.lemmas.Bool.{and_parts, cond-true, cond-false, cond_both, eq-eqb, eqb-true, le-leb, lt-leb, false≢true}
use Rattle.std.proofs.lemmas.List.{length-take-le, take-append-drop}
use Rattle.tla_lexer.specs.declared.pieces.Piece.{Piece}
use Rattle.tla_lexer.specs.declared.pieces.Piece.TheVariants.{Lexeme}
use Rattle.tla_lexer.specs.declared.token.TokenKind.{TokenKind}
use Rattle.tla_lexer.specs.declared.token.TokenKind.TheVariants.{Dashes, End}
use Rattle.tla_lexer.specs.declared.classes.Class.{Class}
use Rattle.tla_lexer.specs.declared.classes.Class.TheVariants.{WordByte, Letter, Digit, Dash, EqualSign, Blank}
use Rattle.tla_lexer.specs.Classes.{is_dash, is_equal_sign, is_in, StartsIn, BeginsWith}
use Rattle.tla_lexer.specs.Pieces.{symbol, symbol_or_bad, symbol_or_stray, run_token, signs, IsSign, IsFound, IsSymbolic}
use Rattle.tla_lexer.specs.Symbols.{spellings, symbol_table, symbol_of, NoSymbolPast}
use Rattle.tla_lexer.proofs.Fronts.{longer_fails}
use Rattle.tla_lexer.proofs.Heads.{ReadAs, found, reads_dashes, reads_equal_signs}
use Rattle.tla_lexer.proofs.SymbolLemmas.{stray_none, short_unless_backslash}

module _ (p : ℕ → Bool) (many : TokenKind) (text : List ℕ) (reads : ReadAs (signs p many) text) where
  -- one sign alone is read as symbols are
  symbolic_alone : BeginsWith p text 1 → IsSymbolic text
  symbolic_alone run front rest e some = reads front rest e some ∙ by_length (length front == 1) refl
    where
      by_length : (b : Bool) → (length front == 1) ≡ b → signs p many front ≡ symbol_or_stray front
      by_length true one =
          cond_both (list_all p front) (Some (if nat_le 4 (length front) then Lexeme many else symbol_or_bad front)) (symbol_or_stray front)
          (λ o. o ≡ symbol_or_stray front)
          (λ all.
          ap Some (cond-false (nat_le 4 (length front)) (Lexeme many) (symbol_or_bad front) (lt-leb 4 (length front) (omega (arith, eqb-true (length front) 1 one))))
          ∙ sym (cond-true (length front == 1) (Some (symbol_or_bad front)) (symbol front) one))
          (λ fails. refl)
      by_length false more =
          cond-false (list_all p front) _ _ (longer_fails p text front rest 1 run e (omega (arith, not_one (length front) more, some)))
        where
          not_one : (n : ℕ) → (n == 1) ≡ false → n ≡ 1 → ⊥
          not_one n h same = absurd (false≢true (sym h ∙ eq-eqb n 1 same))

  -- a run of more than one is the longest piece, where no symbol goes on behind two
  more_found : (n : ℕ) (piece : Piece) → ((a b c : ℕ) (t : List ℕ) → p a ≡ true → p b ≡ true → symbol_of (a ∷ b ∷ c ∷ t) ≡ None)
      → BeginsWith p text n → 1 < n → piece ≡ (if nat_le 4 n then Lexeme many else symbol_or_bad (take n text)) → IsFound text piece n
  more_found n piece none run more is =
      let size : length (take n text) ≡ n = length-take-le n text run.within in
      subst (λ (x : Piece). IsFound text x n) (sym is)
      (found (signs p many) text (if nat_le 4 n then Lexeme many else symbol_or_bad (take n text)) n reads (omega arith) run.within
      (cond-true (list_all p (take n text)) _ _ run.pass ∙ ap (λ m. Some (if nat_le 4 m then Lexeme many else symbol_or_bad (take n text))) size)
      (λ front rest e lt.
      cond-false (list_all p front) _ _ (longer_fails p text front rest n run e lt)
      ∙ stray_none front (omega arith) (behind_two (take n text) (drop n text) front rest (take-append-drop n text ∙ e) run.pass (omega arith) (omega arith))))
    where
      behind_two : (s behind front rest : List ℕ) → s ++ behind ≡ front ++ rest → list_all p s ≡ true → 1 < length s → length s < length front → symbol_of front ≡ None
      behind_two [] behind front rest e pass two lt = absurd (omega arith)
      behind_two (a ∷ []) behind front rest e pass two lt = absurd (omega arith)
      behind_two (a ∷ b ∷ s) behind [] rest e pass two lt = absurd (omega arith)
      behind_two (a ∷ b ∷ s) behind (x ∷ []) rest e pass two lt = absurd (omega arith)
      behind_two (a ∷ b ∷ s) behind (x ∷ y ∷ []) rest e pass two lt = absurd (omega arith)
      behind_two (a ∷ b ∷ s) behind (x ∷ y ∷ z ∷ front) rest e pass two lt =
          let first : a ≡ x = cc in
          let second : b ≡ y = cc in
          let parts = and_parts (p a) (list_all p (b ∷ s)) pass in
          none x y z front (ap p (sym first) ∙ parts.0) (ap p (sym second) ∙ (and_parts (p b) (list_all p s) parts.1).0)

no_symbol_dashes : (a b c : ℕ) (t : List ℕ) → is_dash a ≡ true → is_dash b ≡ true → symbol_of (a ∷ b ∷ c ∷ t) ≡ None
unfolding symbol_table spellings
no_symbol_dashes a b c t first second =
    ap (λ x. symbol_of (x ∷ b ∷ c ∷ t)) (eqb-true a 45 first) ∙ ap (λ x. symbol_of (45 ∷ x ∷ c ∷ t)) (eqb-true b 45 second)

no_symbol_equal_signs : (a b c : ℕ) (t : List ℕ) → is_equal_sign a ≡ true → is_equal_sign b ≡ true → symbol_of (a ∷ b ∷ c ∷ t) ≡ None
unfolding symbol_table spellings
no_symbol_equal_signs a b c t first second =
    ap (λ x. symbol_of (x ∷ b ∷ c ∷ t)) (eqb-true a 61 first) ∙ ap (λ x. symbol_of (61 ∷ x ∷ c ∷ t)) (eqb-true b 61 second)

-- what `symbol` asks of a sign alone, and that more of them are found as they are read
pub record SignFacts (p : ℕ → Bool) (many : TokenKind) (text : List ℕ) : Type 0 where
  pub short : NoSymbolPast text 3
  pub alone : BeginsWith p text 1 → IsSymbolic text
  pub more : (n : ℕ) (piece : Piece) → BeginsWith p text n → 1 < n
      → piece ≡ (if nat_le 4 n then Lexeme many else symbol_or_bad (take n text)) → IsFound text piece n

pub sign_facts : (sign : Class) (text : List ℕ) → IsSign sign → StartsIn (is_in sign) text → SignFacts (is_in sign) (run_token sign) text
sign_facts Dash text is starts = record {
  short = short_unless_backslash is_dash text (λ b h e. false≢true (sym (ap is_dash e) ∙ h)) starts;
  alone = symbolic_alone is_dash Dashes text (reads_dashes text starts);
  more = λ n piece run. more_found is_dash Dashes text (reads_dashes text starts) n piece no_symbol_dashes run;
}
sign_facts EqualSign text is starts = record {
  short = short_unless_backslash is_equal_sign text (λ b h e. false≢true (sym (ap is_equal_sign e) ∙ h)) starts;
  alone = symbolic_alone is_equal_sign End text (reads_equal_signs text starts);
  more = λ n piece run. more_found is_equal_sign End text (reads_equal_signs text starts) n piece no_symbol_equal_signs run;
}
sign_facts WordByte text is starts = absurd is
sign_facts Letter text is starts = absurd is
sign_facts Digit text is starts = absurd is
sign_facts Blank text is starts = absurd is

pub many_signs : (n : ℕ) (many few : Piece) → 4 ≤ n → many ≡ (if nat_le 4 n then many else few)
many_signs n many few h = sym (cond-true (nat_le 4 n) many few (le-leb 4 n h))

pub few_signs : (n : ℕ) (many few piece : Piece) → n < 4 → piece ≡ few → piece ≡ (if nat_le 4 n then many else few)
few_signs n many few piece h is = is ∙ sym (cond-false (nat_le 4 n) many few (lt-leb 4 n h))
