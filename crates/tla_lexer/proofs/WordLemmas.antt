-- Words.
use Rattle.std.proofs.Common.{◌≡◌, ℕ, zero, suc, ◌≤◌, true, false, List, [], ◌∷◌, length, take, Some, None, refl, sym, ◌∙◌, ap, arith, inl, inr, ⊎_elim, codes}
use Rattle.std.specs.Prelude.{◌⊎◌, ◌==◌, ◌&&◌, ◌||◌, not, bytes_eq, if◌then◌else◌}
use Rattle.std.specs.List.{list_all, list_any}
use Rattle.std.proofs.lemmas.Bool.{and_parts, and_left, and_right, and_from, or_left, or_right, or_from, or_cases, cond-true, cond-false, eq-eqb, ne_eqb, eqb-true, both_ways, cases_Bool, not-true, not_from_false, not_from_true, true_from_ne_false}
use Rattle.std.proofs.lemmas.List.{length-take-le, length-take, take-take, take_all, take-append-le}
use Rattle.std.proofs.lemmas.Slice.Eq.{bytes_eq-Decides}
use Rattle.tla_values.specs.Names.{is_letter, is_name_byte, reserved_words, is_reserved, is_word, begins_fairness, is_name}
use Rattle.tla_lexer.specs.declared.pieces.Piece.{Piece}
use Rattle.tla_lexer.specs.declared.pieces.Piece.TheVariants.{Lexeme}
use Rattle.tla_lexer.specs.declared.token.TokenKind.TheVariants.{Name, Reserved}
use Rattle.tla_lexer.specs.Classes.{is_digit, StartsIn, BeginsWith}
use Rattle.tla_lexer.specs.Pieces.{number, symbol_or_bad, word_piece, word, IsFound, IsWordLength}
use Rattle.tla_lexer.proofs.Fronts.{some_run, longer_fails}
use Rattle.tla_lexer.proofs.Heads.{found, reads_word}

pub word_found : (text : List ℕ) (n : ℕ) (piece : Piece) → StartsIn is_name_byte text → IsWordLength text n → piece ≡ word_piece (take n text) → IsFound text piece n
word_found text n piece starts is same =
    found word text piece n (reads_word text starts) is.some is.within
    (cond-true (list_all is_name_byte (take n text) && (not (begins_fairness (take n text)) || length (take n text) == 3)) (Some (word_piece (take n text))) None
    (and_from _ _ is.bytes is.cut) ∙ ap Some (sym same))
    is.longest

no_word : (s : List ℕ) → (list_all is_name_byte s && (not (begins_fairness s) || length s == 3)) ≡ false → word s ≡ None
no_word s h = cond-false (list_all is_name_byte s && (not (begins_fairness s) || length s == 3)) (Some (word_piece s)) None h

-- ---- a whole run

pub whole_run : (text : List ℕ) (n : ℕ) → StartsIn is_name_byte text → BeginsWith is_name_byte text n → begins_fairness (take n text) ≡ false → IsWordLength text n
whole_run text n starts run plain = record {
  some = some_run is_name_byte text n starts run;
  within = run.within;
  bytes = run.pass;
  cut = or_left (not (begins_fairness (take n text))) _ (not_from_false _ plain);
  longest = λ front rest e lt. no_word front (and_left (list_all is_name_byte front) _ (longer_fails is_name_byte text front rest n run e lt));
}

-- ---- a run that is cut

three : (s : List ℕ) → begins_fairness s ≡ true → (take 3 s ≡ codes "WF_") ⊎ (take 3 s ≡ codes "SF_")
three s h =
    ⊎_elim
    (λ weak. inl ((bytes_eq-Decides (take 3 s) (codes "WF_")).0 weak))
    (λ strong. inr ((bytes_eq-Decides (take 3 s) (codes "SF_")).0 strong))
    (or_cases (bytes_eq (take 3 s) (codes "WF_")) (bytes_eq (take 3 s) (codes "SF_")) h)

three_bytes : (s : List ℕ) → begins_fairness s ≡ true → length (take 3 s) ≡ 3
three_bytes s h = ⊎_elim (λ weak. ap length weak) (λ strong. ap length strong) (three s h)

by_first_three : (s t : List ℕ) → take 3 s ≡ take 3 t → begins_fairness s ≡ begins_fairness t
by_first_three s t e = ap (λ x. bytes_eq x (codes "WF_") || bytes_eq x (codes "SF_")) e

pub cut_run : (text : List ℕ) (n : ℕ) → BeginsWith is_name_byte text n → begins_fairness (take n text) ≡ true → IsWordLength text 3
cut_run text n run fair =
    let size = three_bytes (take n text) fair in
    let long : 3 ≤ n = omega (arith, length-take 3 (take n text), length-take-le n text run.within) in
    let room : 3 ≤ length text = omega (arith, run.within) in
    let same : take 3 (take n text) ≡ take 3 text = take-take 3 n text long in
    let parts : list_all is_name_byte (take 3 (take n text)) ≡ true = all_front (take n text) 3 run.pass in
    record {
      some = omega arith;
      within = room;
      bytes = ap (list_all is_name_byte) (sym same) ∙ parts;
      cut = or_right (not (begins_fairness (take 3 text))) _ (eq-eqb (length (take 3 text)) 3 (length-take-le 3 text room));
      longest = λ front rest e lt.
          let start : take 3 text ≡ take 3 front = ap (take 3) e ∙ take-append-le 3 front rest (omega arith) in
          let also : begins_fairness front ≡ true = by_first_three front (take n text) (sym start ∙ sym same) ∙ fair in
          no_word front (and_right (list_all is_name_byte front) _
          (or_from (not (begins_fairness front)) (length front == 3) (not_from_true _ also) (ne_eqb (length front) 3 (λ z. omega arith))));
    }
  where
    all_front : (s : List ℕ) (k : ℕ) → list_all is_name_byte s ≡ true → list_all is_name_byte (take k s) ≡ true
    all_front s zero all = refl
    all_front [] (suc k) all = refl
    all_front (b ∷ s) (suc k) all =
        let parts = and_parts (is_name_byte b) (list_all is_name_byte s) all in
        and_from (is_name_byte b) (list_all is_name_byte (take k s)) parts.0 (all_front s k parts.1)

-- ---- names and reserved words

lettered : (s : List ℕ) → list_all is_digit s ≡ false → list_any is_letter s ≡ true → word_piece s ≡ Lexeme (if is_reserved s then Reserved s else Name s)
lettered s digits letter = cond-false (list_all is_digit s) (number s) _ digits ∙ cond-true (list_any is_letter s) _ (symbol_or_bad s) letter

pub digits_piece : (s : List ℕ) → list_all is_digit s ≡ true → word_piece s ≡ number s
digits_piece s digits = cond-true (list_all is_digit s) (number s) _ digits

pub name_piece : (s text : List ℕ) → list_all is_digit s ≡ false → list_any is_letter s ≡ true → is_name s ≡ true → text ≡ s → Lexeme (Name text) ≡ word_piece s
unfolding is_name
name_piece s text digits letter name same =
    let parts = and_parts (is_word s && not (begins_fairness s)) (not (is_reserved s)) name in
    sym (lettered s digits letter ∙ ap Lexeme (cond-false (is_reserved s) (Reserved s) (Name s) (not-true (is_reserved s) parts.1) ∙ ap Name (sym same)))

-- a word that is cut is reserved
cut_reserved : (s : List ℕ) → begins_fairness s ≡ true → length s ≡ 3 → is_reserved s ≡ true
unfolding reserved_words
cut_reserved s fair size =
    let whole : take 3 s ≡ s = take_all 3 s (omega arith) in
    ⊎_elim (λ weak. ap is_reserved (sym whole ∙ weak)) (λ strong. ap is_reserved (sym whole ∙ strong)) (three s fair)

pub reserved_piece : (s text : List ℕ) → list_all is_name_byte s ≡ true → (not (begins_fairness s) || length s == 3) ≡ true → list_all is_digit s ≡ false → list_any is_letter s ≡ true
    → is_name s ≡ false → text ≡ s → Lexeme (Reserved text) ≡ word_piece s
unfolding is_name
reserved_piece s text bytes cut digits letter name same =
    sym (lettered s digits letter ∙ ap Lexeme (cond-true (is_reserved s) (Reserved s) (Name s) reserved ∙ ap Reserved (sym same)))
  where
    reserved : is_reserved s ≡ true
    reserved =
        ⊎_elim
        (λ fair.
        ⊎_elim
        (λ not_fair. absurd (both_ways (begins_fairness s) (not-true (begins_fairness s) not_fair) fair))
        (λ size. cut_reserved s fair (eqb-true (length s) 3 size))
        (or_cases (not (begins_fairness s)) (length s == 3) cut))
        (λ plain.
        true_from_ne_false (is_reserved s) (λ free.
        both_ways (is_name s) name
        (and_from (is_word s && not (begins_fairness s)) (not (is_reserved s))
        (and_from (is_word s) (not (begins_fairness s)) (and_from (list_all is_name_byte s) (list_any is_letter s) bytes letter) (not_from_false _ plain))
        (not_from_false _ free))))
        (cases_Bool (begins_fairness s))
