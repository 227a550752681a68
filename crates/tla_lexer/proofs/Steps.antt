-- Proof steps.
use Rattle.std.proofs.Common.{◌≡◌, ℕ, suc, ◌+◌, ◌<◌, true, false, List, [], ◌∷◌, ◌++◌, length, take, drop, get_or, Option, Some, None, add-one, refl, sym, ◌∙◌, ap, subst, arith}
use Rattle.std.specs.Prelude.{◌==◌, ◌&&◌}
use Rattle.std.specs.List.{list_all}
use Rattle.std.proofs.lemmas.Bool.{and_parts, and_left, and_right, and_from, cond-true, cond-false, ne_eqb, eqb-true, false≢true}
use Rattle.std.proofs.lemmas.List.{length-take-le, take-append-drop, drop_more, take_more}
use Rattle.tla_lexer.specs.declared.pieces.Piece.{Piece}
use Rattle.tla_lexer.specs.declared.pieces.Piece.TheVariants.{Lexeme}
use Rattle.tla_lexer.specs.declared.token.TokenKind.TheVariants.{ProofStep}
use Rattle.tla_lexer.specs.Classes.{is_digit, StopsAt, StartsIn, BeginsWith}
use Rattle.tla_lexer.specs.Pieces.{symbol_or_stray, less, ends_step, is_step, IsFound, IsSymbolic, IsStepLength, HasNoStep}
use Rattle.tla_lexer.specs.Symbols.{NoSymbolPast}
use Rattle.tla_lexer.proofs.Fronts.{StartsIn-front}
use Rattle.tla_lexer.proofs.Heads.{found, reads_less}
use Rattle.tla_lexer.proofs.SymbolLemmas.{stray_none, short_unless_backslash, no_symbol_with_digit}

-- ---- digits and `>`

ends : (run : List ℕ) → list_all is_digit run ≡ true → ends_step (run ++ 62 ∷ []) ≡ true
ends [] pass = refl
ends (d ∷ run) pass =
    let parts = and_parts (is_digit d) (list_all is_digit run) pass in
    cond-true (is_digit d) (ends_step (run ++ 62 ∷ [])) (d == 62 && length (run ++ 62 ∷ []) == 0) parts.0 ∙ ends run parts.1

ends_no_more : (run behind front rest : List ℕ) → list_all is_digit run ≡ true → run ++ 62 ∷ behind ≡ front ++ rest → suc (length run) < length front → ends_step front ≡ false
ends_no_more run behind [] rest pass e lt = absurd (omega arith)
ends_no_more [] behind (x ∷ []) rest pass e lt = absurd (omega arith)
ends_no_more [] behind (x ∷ y ∷ front) rest pass e lt = let same : 62 ≡ x = cc in ap (λ b. ends_step (b ∷ y ∷ front)) (sym same) ∙ ne_eqb (length (y ∷ front)) 0 (λ z. omega arith)
ends_no_more (d ∷ run) behind (x ∷ front) rest pass e lt =
    let parts = and_parts (is_digit d) (list_all is_digit run) pass in
    let same : d ≡ x = cc in
    let next : run ++ 62 ∷ behind ≡ front ++ rest = cc in
    cond-true (is_digit x) (ends_step front) (x == 62 && length front == 0) (ap is_digit (sym same) ∙ parts.0)
    ∙ ends_no_more run behind front rest parts.1 next (omega arith)

-- where no `>` stands behind the digits, none ends a step
ends_never : (run behind front rest : List ℕ) → list_all is_digit run ≡ true → StopsAt is_digit behind → StopsAt (λ b. b == 62) behind → run ++ behind ≡ front ++ rest → ends_step front ≡ false
ends_never run behind [] rest pass stops apart e = refl
ends_never [] [] (x ∷ front) rest pass stops apart e = cc
ends_never [] (b ∷ behind) (x ∷ front) rest pass stops apart e =
    let same : b ≡ x = cc in
    cond-false (is_digit x) (ends_step front) (x == 62 && length front == 0) (ap is_digit (sym same) ∙ stops)
    ∙ and_left (x == 62) (length front == 0) (ap (λ c. c == 62) (sym same) ∙ apart)
ends_never (d ∷ run) behind (x ∷ front) rest pass stops apart e =
    let parts = and_parts (is_digit d) (list_all is_digit run) pass in
    let same : d ≡ x = cc in
    let next : run ++ behind ≡ front ++ rest = cc in
    cond-true (is_digit x) (ends_step front) (x == 62 && length front == 0) (ap is_digit (sym same) ∙ parts.0)
    ∙ ends_never run behind front rest parts.1 stops apart next

-- ---- the length of a step

step_of : (run : List ℕ) → 0 < length run → list_all is_digit run ≡ true → is_step (run ++ 62 ∷ []) ≡ true
step_of [] some pass = absurd (omega arith)
step_of (d ∷ run) some pass =
    let parts = and_parts (is_digit d) (list_all is_digit run) pass in
    and_from (is_digit d) (ends_step (run ++ 62 ∷ [])) parts.0 (ends run parts.1)

step_no_more : (run behind front rest : List ℕ) → 0 < length run → list_all is_digit run ≡ true → run ++ 62 ∷ behind ≡ front ++ rest → suc (length run) < length front → is_step front ≡ false
step_no_more [] behind front rest some pass e lt = absurd (omega arith)
step_no_more (d ∷ run) behind [] rest some pass e lt = absurd (omega arith)
step_no_more (d ∷ run) behind (x ∷ front) rest some pass e lt =
    let next : run ++ 62 ∷ behind ≡ front ++ rest = cc in
    and_right (is_digit x) (ends_step front) (ends_no_more run behind front rest (and_parts (is_digit d) (list_all is_digit run) pass).1 next (omega arith))

starts_with_digit : (run behind : List ℕ) → 0 < length run → list_all is_digit run ≡ true → StartsIn is_digit (run ++ behind)
starts_with_digit [] behind some pass = absurd (omega arith)
starts_with_digit (d ∷ run) behind some pass = (and_parts (is_digit d) (list_all is_digit run) pass).0

pub step_found : (text : List ℕ) (n : ℕ) → BeginsWith is_digit text n → 0 < n → n < length text → get_or text n 0 ≡ 62 → IsStepLength text (n + 1)
step_found text n run some lt last =
    let size : length (take n text) ≡ n = length-take-le n text run.within in
    let behind : drop n text ≡ 62 ∷ drop (n + 1) text = drop_more text n 0 lt ∙ ap (λ b. b ∷ drop (n + 1) text) last in
    let whole : take n text ++ 62 ∷ drop (n + 1) text ≡ text = ap (λ t. take n text ++ t) (sym behind) ∙ take-append-drop n text in
    let one_more : take (n + 1) text ≡ take n text ++ 62 ∷ [] = take_more text n 0 lt ∙ ap (λ b. take n text ++ b ∷ []) last in
    record {
      within = omega arith;
      passes = ap is_step one_more ∙ step_of (take n text) (omega arith) run.pass;
      longest = λ front rest e long. step_no_more (take n text) (drop (n + 1) text) front rest (omega arith) run.pass (whole ∙ e) (omega arith);
      digit = subst (StartsIn is_digit) whole (starts_with_digit (take n text) (62 ∷ drop (n + 1) text) (omega arith) run.pass);
    }

-- no digit, or no `>` behind the digits
pub no_digit_no_step : (text : List ℕ) → BeginsWith is_digit text 0 → HasNoStep text
no_digit_no_step text run [] rest e = refl
no_digit_no_step [] run (x ∷ front) rest e = cc
no_digit_no_step (b ∷ text) run (x ∷ front) rest e =
    let same : b ≡ x = cc in
    and_left (is_digit x) (ends_step front) (ap is_digit (sym same) ∙ run.stops)

step_never : (run behind front rest : List ℕ) → list_all is_digit run ≡ true → StopsAt is_digit behind → StopsAt (λ b. b == 62) behind → run ++ behind ≡ front ++ rest → is_step front ≡ false
step_never run behind [] rest pass stops apart e = refl
step_never [] [] (x ∷ front) rest pass stops apart e = cc
step_never [] (b ∷ behind) (x ∷ front) rest pass stops apart e =
    let same : b ≡ x = cc in
    and_left (is_digit x) (ends_step front) (ap is_digit (sym same) ∙ stops)
step_never (d ∷ run) behind (x ∷ front) rest pass stops apart e =
    let next : run ++ behind ≡ front ++ rest = cc in
    and_right (is_digit x) (ends_step front) (ends_never run behind front rest (and_parts (is_digit d) (list_all is_digit run) pass).1 stops apart next)

pub no_end_no_step : (text : List ℕ) (n : ℕ) → BeginsWith is_digit text n → StopsAt (λ b. b == 62) (drop n text) → HasNoStep text
no_end_no_step text n run apart front rest e =
    step_never (take n text) (drop n text) front rest run.pass run.stops apart (take-append-drop n text ∙ e)

-- ---- as pieces

abbrev less_whole : List ℕ → Option Piece
less_whole s = less (drop 1 s)

less_step : (s : List ℕ) → is_step s ≡ true → less s ≡ Some (Lexeme ProofStep)
less_step s h = cond-true (is_step s) (Some (Lexeme ProofStep)) (symbol_or_stray (60 ∷ s)) h

less_other : (s : List ℕ) → is_step s ≡ false → less s ≡ symbol_or_stray (60 ∷ s)
less_other s h = cond-false (is_step s) (Some (Lexeme ProofStep)) (symbol_or_stray (60 ∷ s)) h

none_longer : (t front rest : List ℕ) → StartsIn is_digit t → t ≡ front ++ rest → 0 < length front → is_step front ≡ false → less front ≡ None
none_longer t [] rest digit e some no_step = absurd (omega arith)
none_longer t (d ∷ front) rest digit e some no_step =
    less_other (d ∷ front) no_step
    ∙ stray_none (60 ∷ d ∷ front) (omega arith) (no_symbol_with_digit d front (StartsIn-front is_digit t (d ∷ front) rest e some digit))

pub step_piece_found : (text : List ℕ) (n : ℕ) → StartsIn (λ b. b == 60) text → IsStepLength (drop 1 text) n → IsFound text (Lexeme ProofStep) (n + 1)
step_piece_found [] n starts is = absurd starts
step_piece_found (b ∷ text) n starts is =
    subst (λ (m : ℕ). IsFound (b ∷ text) (Lexeme ProofStep) m) (sym (add-one n))
    (found less_whole (b ∷ text) (Lexeme ProofStep) (suc n) (reads_less (b ∷ text) starts) (omega arith) (omega (arith, is.within))
    (less_step (take n text) is.passes) longer)
  where
    longer : (front rest : List ℕ) → b ∷ text ≡ front ++ rest → suc n < length front → less_whole front ≡ None
    longer [] rest e lt = absurd (omega arith)
    longer (x ∷ front) rest e lt =
        let next : text ≡ front ++ rest = cc in
        none_longer text front rest is.digit next (omega arith) (is.longest front rest next (omega arith))

pub symbolic_less : (text : List ℕ) → StartsIn (λ b. b == 60) text → HasNoStep (drop 1 text) → IsSymbolic text
symbolic_less text starts none [] rest e some = absurd (omega arith)
symbolic_less [] starts none (x ∷ front) rest e some = absurd starts
symbolic_less (b ∷ text) starts none (x ∷ front) rest e some =
    let next : text ≡ front ++ rest = cc in
    let same : b ≡ x = cc in
    let is_less : 60 ≡ x = sym (eqb-true b 60 starts) ∙ same in
    reads_less (b ∷ text) starts (x ∷ front) rest e some ∙ less_other front (none front rest next) ∙ ap (λ y. symbol_or_stray (y ∷ front)) is_less

pub short_less : (text : List ℕ) → StartsIn (λ b. b == 60) text → NoSymbolPast text 3
short_less text starts = short_unless_backslash (λ b. b == 60) text (λ b h e. false≢true (sym (ap (λ c. c == 60) e) ∙ h)) starts
