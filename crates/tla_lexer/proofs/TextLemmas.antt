-- Texts between quotes.
use Rattle.std.proofs.Common.{◌≡◌, ℕ, suc, ◌+◌, ◌<◌, ◌≤◌, List, [], ◌∷◌, ◌++◌, length, take, drop, Option, Some, None, refl, sym, ◌∙◌, ap, subst, arith, ⊎_elim}
use Rattle.std.specs.Prelude.{◌==◌, option_map}
use Rattle.std.proofs.lemmas.Bool.{cond-true, cond-false, cases_Bool, cases_lt}
use Rattle.std.proofs.lemmas.List.{append-nil, append_assoc, length-take-le, length-drop, take-append-drop, take-take}
use Rattle.tla_lexer.specs.declared.pieces.Piece.{Piece}
use Rattle.tla_lexer.specs.declared.pieces.Piece.TheVariants.{Lexeme, Bad}
use Rattle.tla_lexer.specs.declared.token.TokenKind.TheVariants.{Quoted}
use Rattle.tla_lexer.specs.Classes.{StartsIn}
use Rattle.tla_lexer.specs.Pieces.{escaped, is_plain, put, text_of, quoted, IsFound}
use Rattle.tla_lexer.specs.inner.Texts.{StandsFor}
use Rattle.tla_lexer.proofs.Fronts.{longer_front, front_is, read_on}
use Rattle.tla_lexer.proofs.Heads.{found, reads_quoted}
use Rattle.tla_lexer.proofs.SymbolLemmas.{none_unless}

-- ---- nothing goes on behind a text

put_some : (o : Option ℕ) (t : Option (List ℕ)) (v : List ℕ) → put o t ≡ Some v → (w : List ℕ) × (t ≡ Some w)
put_some None t v h = cc
put_some (Some b) None v h = cc
put_some (Some b) (Some w) v h = (w, refl)

put_none : (o : Option ℕ) (t : Option (List ℕ)) → t ≡ None → put o t ≡ None
put_none None t h = refl
put_none (Some b) t h = ap (put (Some b)) h

ends_text : (s v : List ℕ) → text_of s ≡ Some v → (c : ℕ) (more : List ℕ) → text_of (s ++ c ∷ more) ≡ None
ends_text [] v h c more = cc
ends_text (b ∷ []) v h c more =
    ⊎_elim
    (λ quote. cond-true (b == 34) None _ quote)
    (λ other. absurd (never (sym (cond-false (b == 34) (Some []) None other) ∙ h)))
    (cases_Bool (b == 34))
  where
    never : None ≡ Some v → ⊥
    never e = cc
ends_text (b ∷ d ∷ s) v h c more =
    ⊎_elim
    (λ quote. cond-true (b == 34) None _ quote)
    (λ other.
    cond-false (b == 34) None _ other
    ∙ ⊎_elim
    (λ slash.
    let e = sym (cond-true (b == 92) (put (escaped d) (text_of s)) _ slash) ∙ sym (cond-false (b == 34) None _ other) ∙ h in
    let w = put_some (escaped d) (text_of s) v e in
    cond-true (b == 92) (put (escaped d) (text_of (s ++ c ∷ more))) _ slash ∙ put_none (escaped d) _ (ends_text s w.0 w.1 c more))
    (λ apart.
    let e = sym (cond-false (b == 92) (put (escaped d) (text_of s)) _ apart) ∙ sym (cond-false (b == 34) None _ other) ∙ h in
    cond-false (b == 92) (put (escaped d) (text_of (s ++ c ∷ more))) _ apart
    ∙ ⊎_elim
    (λ plain.
    let w = put_some (Some b) (text_of (d ∷ s)) v (sym (cond-true (is_plain b) (put (Some b) (text_of (d ∷ s))) None plain) ∙ e) in
    cond-true (is_plain b) (put (Some b) (text_of (d ∷ s ++ c ∷ more))) None plain ∙ put_none (Some b) _ (ends_text (d ∷ s) w.0 w.1 c more))
    (λ strange. cond-false (is_plain b) (put (Some b) (text_of (d ∷ s ++ c ∷ more))) None strange)
    (cases_Bool (is_plain b)))
    (cases_Bool (b == 92)))
    (cases_Bool (b == 34))

-- ---- what was read so far

-- the first `at` bytes behind the quote stand for `out`, whatever follows them
pub record InText (rest out : List ℕ) (at : ℕ) : Type 0 where
  pub within : at ≤ length rest
  pub state : (front : List ℕ) → text_of (take at rest ++ front) ≡ option_map (λ t. out ++ t) (text_of front)

same_option : (o : Option (List ℕ)) → o ≡ option_map (λ t. [] ++ t) o
same_option None = refl
same_option (Some t) = refl

pub in_text_start : (rest : List ℕ) → InText rest [] 0
in_text_start rest = record { within = omega arith; state = λ front. same_option (text_of front) }

put_behind : (out : List ℕ) (b : ℕ) (o : Option (List ℕ)) → option_map (λ t. out ++ t) (put (Some b) o) ≡ option_map (λ t. (out ++ b ∷ []) ++ t) o
put_behind out b None = refl
put_behind out b (Some t) = ap Some (sym (append_assoc out (b ∷ []) t))

pub in_text_on : (rest out : List ℕ) (at byte n : ℕ) → InText rest out at → StandsFor (drop at rest) byte n → InText rest (out ++ byte ∷ []) (at + n)
in_text_on rest out at byte n so_far stands =
    let read = take n (drop at rest) in
    let whole : drop at rest ≡ read ++ drop n (drop at rest) = sym (take-append-drop n (drop at rest)) in
    let on = read_on rest read (drop n (drop at rest)) at n so_far.within whole (length-take-le n (drop at rest) stands.within) in
    record {
      within = omega (arith, stands.within, length-drop at rest, so_far.within);
      state = λ front.
          ap (λ t. text_of (t ++ front)) on.1 ∙ ap text_of (append_assoc (take at rest) read front) ∙ so_far.state (read ++ front)
          ∙ ap (option_map (λ t. out ++ t)) (stands.goes_on front) ∙ put_behind out byte (text_of front);
    }

-- ---- the two ends

abbrev quoted_whole : List ℕ → Option Piece
quoted_whole s = quoted (drop 1 s)

quoted_is : (s : List ℕ) → 0 < length s → quoted s ≡ option_map (λ text. Lexeme (Quoted text)) (text_of s)
quoted_is [] some = absurd (omega arith)
quoted_is (b ∷ s) some = refl

closed_text : (rest out : List ℕ) (at : ℕ) → InText rest out at → text_of (take at rest ++ 34 ∷ []) ≡ Some out
closed_text rest out at so_far = so_far.state (34 ∷ []) ∙ ap Some (append-nil out)

longer_text : (s v front : List ℕ) (c : ℕ) (more : List ℕ) → text_of s ≡ Some v → front ≡ s ++ c ∷ more → text_of front ≡ None
longer_text s v front c more h e = ap text_of e ∙ ends_text s v h c more

pub text_found : (text out behind : List ℕ) (at : ℕ) → StartsIn (λ b. b == 34) text → InText (drop 1 text) out at → drop at (drop 1 text) ≡ 34 ∷ behind → IsFound text (Lexeme (Quoted out)) (at + 2)
text_found [] out behind at starts so_far e = absurd starts
text_found (q ∷ rest) out behind at starts so_far e =
    let on = read_on rest (34 ∷ []) behind at 1 so_far.within e refl in
    let room : at + 1 ≤ length rest = omega (arith, ap length e, length-drop at rest, so_far.within) in
    let whole : text_of (take (at + 1) rest) ≡ Some out = ap text_of on.1 ∙ closed_text rest out at so_far in
    subst (λ (m : ℕ). IsFound (q ∷ rest) (Lexeme (Quoted out)) m) (omega arith)
    (found quoted_whole (q ∷ rest) (Lexeme (Quoted out)) (suc (at + 1)) (reads_quoted (q ∷ rest) starts) (omega arith) (omega arith)
    (quoted_is (take (at + 1) rest) (omega (arith, length-take-le (at + 1) rest room)) ∙ ap (option_map (λ t. Lexeme (Quoted t))) whole)
    (past room whole))
  where
    past : at + 1 ≤ length rest → text_of (take (at + 1) rest) ≡ Some out → (front more : List ℕ) → q ∷ rest ≡ front ++ more → suc (at + 1) < length front → quoted_whole front ≡ None
    past room whole [] more e lt = absurd (omega arith)
    past room whole (x ∷ front) more e lt =
        let next : rest ≡ front ++ more = cc in
        let parts = longer_front rest front more (at + 1) next (omega arith) in
        quoted_is front (omega arith)
        ∙ ap (option_map (λ t. Lexeme (Quoted t))) (nonempty (drop (at + 1) front) (omega (arith, length-drop (at + 1) front)) parts.0)
      where
        nonempty : (tail : List ℕ) → 0 < length tail → front ≡ take (at + 1) rest ++ tail → text_of front ≡ None
        nonempty [] some e = absurd (omega arith)
        nonempty (c ∷ tail) some e = longer_text (take (at + 1) rest) out front c tail whole e

pub text_fails : (text out : List ℕ) (at : ℕ) → StartsIn (λ b. b == 34) text → InText (drop 1 text) out at
    → ((front behind : List ℕ) → drop at (drop 1 text) ≡ front ++ behind → text_of front ≡ None) → IsFound text Bad 1
text_fails [] out at starts so_far fails = absurd starts
text_fails (q ∷ rest) out at starts so_far fails =
    found quoted_whole (q ∷ rest) Bad 1 (reads_quoted (q ∷ rest) starts) (omega arith) (omega arith) refl past
  where
    short : (front more : List ℕ) → rest ≡ front ++ more → length front ≤ at → text_of front ≡ None
    short front more e le =
        none_unless (text_of front) (λ v h.
        let parts = longer_front_of in
        never (sym (closed_text rest out at so_far) ∙ parts v h))
      where
        never : Some out ≡ None → ⊥
        never e = cc

        tail : List ℕ
        tail = drop (length front) (take at rest)

        split : take at rest ≡ front ++ tail
        split = sym (take-append-drop (length front) (take at rest)) ∙ ap (λ s. s ++ tail) (take-take (length front) at rest le ∙ sym (front_is rest front more (length front) e refl))

        behind_tail : (v : List ℕ) → text_of front ≡ Some v → (t : List ℕ) → text_of ((front ++ t) ++ 34 ∷ []) ≡ None
        behind_tail v h [] = ap (λ s. text_of (s ++ 34 ∷ [])) (append-nil front) ∙ ends_text front v h 34 []
        behind_tail v h (c ∷ t) = ap text_of (append_assoc front (c ∷ t) (34 ∷ [])) ∙ ends_text front v h c (t ++ 34 ∷ [])

        longer_front_of : (v : List ℕ) → text_of front ≡ Some v → text_of (take at rest ++ 34 ∷ []) ≡ None
        longer_front_of v h = ap (λ s. text_of (s ++ 34 ∷ [])) split ∙ behind_tail v h tail

    past : (front more : List ℕ) → q ∷ rest ≡ front ++ more → 1 < length front → quoted_whole front ≡ None
    past [] more e lt = absurd (omega arith)
    past (x ∷ front) more e lt =
        let next : rest ≡ front ++ more = cc in
        quoted_is front (omega arith)
        ∙ ap (option_map (λ t. Lexeme (Quoted t)))
        (⊎_elim
        (λ more_than.
        let parts = longer_front rest front more at next (omega (arith, more_than)) in
        ap text_of parts.0 ∙ so_far.state (drop at front) ∙ ap (option_map (λ t. out ++ t)) (fails (drop at front) more parts.1))
        (λ at_most. short front more next at_most)
        (cases_lt at (length front)))
