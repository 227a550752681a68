-- Words behind a backslash.
use Rattle.std.proofs.Common.{◌≡◌, ℕ, suc, ◌+◌, ◌<◌, true, false, cond, List, [], ◌∷◌, ◌++◌, length, take, drop, Option, Some, None, add-one, refl, sym, ◌∙◌, ap, subst, arith, codes}
use Rattle.std.specs.Prelude.{◌==◌, ◌&&◌, nat_le, bytes_eq}
use Rattle.std.specs.List.{list_all, list_any}
use Rattle.std.proofs.lemmas.Bool.{and_parts, and_left, and_right, and_from, or_from, cond-true, cond-false, eq-eqb, ne_eqb, eqb-true, leb-true, lt-leb, false≢true, false_from_ne_true}
use Rattle.std.proofs.lemmas.List.{length-take-le, take-append-drop}
use Rattle.std.proofs.lemmas.Slice.Eq.{bytes_eq-Decides}
use Rattle.tla_values.specs.Names.{is_letter}
use Rattle.tla_lexer.specs.declared.pieces.Piece.{Piece}
use Rattle.tla_lexer.specs.declared.pieces.Piece.TheVariants.{LineComment, Bad}
use Rattle.tla_lexer.specs.Classes.{is_digit, is_line_feed, StartsIn, BeginsWith}
use Rattle.tla_lexer.specs.Pieces.{symbol_or_bad, symbol_or_stray, backslash, is_octal, begins_octal, IsFound}
use Rattle.tla_lexer.proofs.Fronts.{longer_fails, StartsIn-front}
use Rattle.tla_lexer.proofs.Heads.{found, reads_backslash}
use Rattle.tla_lexer.proofs.SymbolLemmas.{stray_none, no_symbol_behind_backslash}

digit_apart : (d : ℕ) → is_digit d ≡ true → is_letter d ≡ false
digit_apart d h =
    let parts = and_parts (nat_le 48 d) (nat_le d 57) h in
    let small = leb-true d 57 parts.1 in
    or_from (nat_le 65 d && nat_le d 90) (nat_le 97 d && nat_le d 122)
    (and_left (nat_le 65 d) (nat_le d 90) (lt-leb 65 d (omega (arith, small))))
    (and_left (nat_le 97 d) (nat_le d 122) (lt-leb 97 d (omega (arith, small))))

-- a letter is neither `*` nor `/`
letter_apart : (n c : ℕ) → is_letter n ≡ false → is_letter c ≡ true → (c == n) ≡ false
letter_apart n c apart letter = false_from_ne_true (c == n) (λ same. false≢true (sym apart ∙ ap is_letter (sym (eqb-true c n same)) ∙ letter))

no_slash : (c : ℕ) (t : List ℕ) → is_letter c ≡ true → bytes_eq (c ∷ t) (codes "/") ≡ false
no_slash c t letter = false_from_ne_true (bytes_eq (c ∷ t) (codes "/")) (λ same. apart ((bytes_eq-Decides (c ∷ t) (codes "/")).0 same))
  where
    apart : (c ∷ t) ≡ codes "/" → ⊥
    apart e = let is : c ≡ 47 = cc in false≢true (sym (ap is_letter is) ∙ letter)

abbrev backslash_whole : List ℕ → Option Piece
backslash_whole s = backslash (drop 1 s)

-- ---- a word

word_whole : (c : ℕ) (t : List ℕ) → list_all is_letter (c ∷ t) ≡ true → backslash (c ∷ t) ≡ Some (symbol_or_bad (92 ∷ c ∷ t))
word_whole c t all =
    cond-false (c == 42) (cond (list_any is_line_feed t) None (Some LineComment)) _ (letter_apart 42 c refl (and_parts (is_letter c) (list_all is_letter t) all).0)
    ∙ cond-true (list_all is_letter (c ∷ t)) (Some (symbol_or_bad (92 ∷ c ∷ t))) _ all

word_past : (c : ℕ) (t : List ℕ) → is_letter c ≡ true → list_all is_letter (c ∷ t) ≡ false → is_octal (c ∷ t) ≡ false → backslash (c ∷ t) ≡ None
word_past c t letter fails octal =
    cond-false (c == 42) (cond (list_any is_line_feed t) None (Some LineComment)) _ (letter_apart 42 c refl letter)
    ∙ cond-false (list_all is_letter (c ∷ t)) (Some (symbol_or_bad (92 ∷ c ∷ t))) _ fails
    ∙ cond-false (is_octal (c ∷ t)) (Some Bad) (symbol_or_stray (92 ∷ c ∷ t)) octal
    ∙ stray_none (92 ∷ c ∷ t) (omega arith) (no_symbol_behind_backslash (c ∷ t) fails (no_slash c t letter))

-- no beginning of what stands behind the backslash is `o` and a digit
abbrev pub HasNoOctal : List ℕ → Type 0
HasNoOctal text = (front rest : List ℕ) → text ≡ front ++ rest → is_octal front ≡ false

pub word_found : (text : List ℕ) (n : ℕ) (piece : Piece) → StartsIn (λ b. b == 92) text → BeginsWith is_letter (drop 1 text) n → 0 < n → HasNoOctal (drop 1 text)
    → piece ≡ symbol_or_bad (take (n + 1) text) → IsFound text piece (n + 1)
word_found [] n piece starts run some octal is = absurd starts
word_found (b ∷ text) n piece starts run some octal is =
    subst (λ (m : ℕ). IsFound (b ∷ text) piece m) (sym (add-one n))
    (found backslash_whole (b ∷ text) piece (suc n) (reads_backslash (b ∷ text) starts) (omega arith) (omega (arith, run.within))
    (whole (take n text) (omega (arith, length-take-le n text run.within)) run.pass ∙ ap (λ x. Some (symbol_or_bad (x ∷ take n text))) (sym (eqb-true b 92 starts))
    ∙ ap Some (sym (is ∙ ap (λ m. symbol_or_bad (take m (b ∷ text))) (add-one n))))
    past)
  where
    whole : (s : List ℕ) → 0 < length s → list_all is_letter s ≡ true → backslash s ≡ Some (symbol_or_bad (92 ∷ s))
    whole [] some all = absurd (omega arith)
    whole (c ∷ s) some all = word_whole c s all

    letter : (front rest : List ℕ) → text ≡ front ++ rest → 0 < length front → StartsIn is_letter front
    letter front rest e some2 = StartsIn-front is_letter text front rest e some2 (first (take n text) (drop n text) text (take-append-drop n text) (omega (arith, length-take-le n text run.within)) run.pass)
      where
        first : (s behind t : List ℕ) → s ++ behind ≡ t → 0 < length s → list_all is_letter s ≡ true → StartsIn is_letter t
        first [] behind t e some all = absurd (omega arith)
        first (c ∷ s) behind t e some all = subst (StartsIn is_letter) e (and_parts (is_letter c) (list_all is_letter s) all).0

    past : (front rest : List ℕ) → b ∷ text ≡ front ++ rest → suc n < length front → backslash_whole front ≡ None
    past [] rest e lt = absurd (omega arith)
    past (x ∷ []) rest e lt = absurd (omega arith)
    past (x ∷ c ∷ front) rest e lt =
        let next : text ≡ (c ∷ front) ++ rest = cc in
        word_past c front (letter (c ∷ front) rest next (omega arith)) (longer_fails is_letter text (c ∷ front) rest n run next (omega arith)) (octal (c ∷ front) rest next)

-- ---- `\o` and a digit

octal_whole : (d : ℕ) → is_digit d ≡ true → backslash (111 ∷ d ∷ []) ≡ Some Bad
octal_whole d digit =
    cond-false (is_letter d && true) (Some (symbol_or_bad (92 ∷ 111 ∷ d ∷ []))) _ (and_left (is_letter d) true (digit_apart d digit))
    ∙ cond-true (is_octal (111 ∷ d ∷ [])) (Some Bad) (symbol_or_stray (92 ∷ 111 ∷ d ∷ [])) (and_from (is_digit d && true) true (and_from (is_digit d) true digit refl) refl)

octal_past : (d e : ℕ) (t : List ℕ) → is_digit d ≡ true → backslash (111 ∷ d ∷ e ∷ t) ≡ None
octal_past d e t digit =
    word_past 111 (d ∷ e ∷ t) refl (and_left (is_letter d) (list_all is_letter (e ∷ t)) (digit_apart d digit))
    (and_right (bytes_eq (111 ∷ []) (codes "o") && list_all is_digit (d ∷ e ∷ t)) (length (111 ∷ d ∷ e ∷ t) == 2) (ne_eqb (length (111 ∷ d ∷ e ∷ t)) 2 (λ z. omega arith)))

pub octal_found : (text : List ℕ) → StartsIn (λ b. b == 92) text → begins_octal (drop 1 text) ≡ true → IsFound text Bad 3
octal_found [] starts h = absurd starts
octal_found (a ∷ []) starts h = cc
octal_found (a ∷ b ∷ []) starts h = cc
octal_found (a ∷ b ∷ d ∷ t) starts h =
    let parts = and_parts (b == 111) (is_digit d) h in
    let second : b ≡ 111 = eqb-true b 111 parts.0 in
    found backslash_whole (a ∷ b ∷ d ∷ t) Bad 3 (reads_backslash (a ∷ b ∷ d ∷ t) starts) (omega arith) (omega arith)
    (ap (λ x. backslash (x ∷ d ∷ [])) second ∙ octal_whole d parts.1)
    (past second parts.1)
  where
    past : b ≡ 111 → is_digit d ≡ true → (front rest : List ℕ) → a ∷ b ∷ d ∷ t ≡ front ++ rest → 3 < length front → backslash_whole front ≡ None
    past second digit [] rest e lt = absurd (omega arith)
    past second digit (x ∷ []) rest e lt = absurd (omega arith)
    past second digit (x ∷ y ∷ []) rest e lt = absurd (omega arith)
    past second digit (x ∷ y ∷ z ∷ []) rest e lt = absurd (omega arith)
    past second digit (x ∷ y ∷ z ∷ w ∷ front) rest e lt =
        let is_o : b ≡ y = cc in
        let is_d : d ≡ z = cc in
        ap (λ u. backslash (u ∷ z ∷ w ∷ front)) (sym is_o ∙ second) ∙ octal_past z w front (ap is_digit (sym is_d) ∙ digit)

-- ---- where no octal number stands

pub no_octal : (text : List ℕ) → begins_octal text ≡ false → HasNoOctal text
no_octal text none [] rest e = refl
no_octal text none (x ∷ []) rest e = and_right (bytes_eq (x ∷ []) (codes "o") && true) false refl
no_octal [] none (x ∷ y ∷ front) rest e = cc
no_octal (b ∷ []) none (x ∷ y ∷ front) rest e = cc
no_octal (b ∷ c ∷ text) none (x ∷ y ∷ []) rest e =
    let first : b ≡ x = cc in
    let second : c ≡ y = cc in
    and_left (bytes_eq (x ∷ []) (codes "o") && (is_digit y && true)) true
    (false_from_ne_true (bytes_eq (x ∷ []) (codes "o") && (is_digit y && true)) (λ h.
    let parts = and_parts (bytes_eq (x ∷ []) (codes "o")) (is_digit y && true) h in
    let is_o : x ≡ 111 = head ((bytes_eq-Decides (x ∷ []) (codes "o")).0 parts.0) in
    false≢true (sym none ∙ and_from (b == 111) (is_digit c) (eq-eqb b 111 (first ∙ is_o)) (ap is_digit second ∙ (and_parts (is_digit y) true parts.1).0))))
  where
    head : (x ∷ []) ≡ codes "o" → x ≡ 111
    head h = cc
no_octal (b ∷ c ∷ text) none (x ∷ y ∷ z ∷ front) rest e =
    and_right (bytes_eq (x ∷ []) (codes "o") && list_all is_digit (y ∷ z ∷ front)) (length (x ∷ y ∷ z ∷ front) == 2) (ne_eqb (length (x ∷ y ∷ z ∷ front)) 2 (λ h. omega arith))
