-- Spellings of symbols, and the longest one as a piece.
use Rattle.std.proofs.Common.{◌≡◌, ℕ, ◌<◌, Bool, true, false, List, [], ◌∷◌, length, take, drop, Option, Some, None, refl, sym, ◌∙◌, ap, subst, arith, ⊎_elim, codes}
use Rattle.std.specs.Prelude.{◌==◌, ◌||◌, ◌&&◌, not, nat_lt, bytes_eq, option_map, unwrap_or, if◌then◌else◌}
use Rattle.std.specs.List.{list_all}
use Rattle.std.proofs.lemmas.Bool.{and_parts, cases_Bool, cond-true, cond-false, cond_both, both_ways, false≢true, eq-eqb, ne_eqb, ltb-true, or_from, not-true}
use Rattle.std.proofs.lemmas.List.{length-take-le, take-append-drop}
use Rattle.std.proofs.lemmas.Slice.Eq.{bytes_eq-Decides}
use Rattle.tla_values.specs.Names.{is_letter}
use Rattle.tla_lexer.specs.declared.pieces.Piece.{Piece}
use Rattle.tla_lexer.specs.declared.pieces.Piece.TheVariants.{Lexeme, Bad}
use Rattle.tla_lexer.specs.declared.token.TokenKind.TheVariants.{Symbol}
use Rattle.tla_lexer.specs.Classes.{is_digit, StartsIn}
use Rattle.tla_lexer.specs.Pieces.{symbol, symbol_or_bad, symbol_or_stray, is_other, IsFound, IsSymbolic}
use Rattle.tla_lexer.specs.Symbols.{spellings, symbol_table, look_up, symbol_of, IsLongestSymbol, NoSymbolPast}
use Rattle.tla_lexer.proofs.Fronts.{StartsIn-front}
use Rattle.tla_lexer.proofs.Heads.{found}

-- ---- the longest symbol is the longest piece

spelled_symbol : (s y : List ℕ) → symbol_of s ≡ Some y → symbol s ≡ Some (Lexeme (Symbol y))
spelled_symbol s y h = ap (option_map (λ first. Lexeme (Symbol first))) h

unspelled : (s : List ℕ) → symbol_of s ≡ None → symbol s ≡ None
unspelled s h = ap (option_map (λ first. Lexeme (Symbol first))) h

stray_some : (s y : List ℕ) → symbol_of s ≡ Some y → symbol_or_stray s ≡ Some (Lexeme (Symbol y))
stray_some s y h =
    let e = spelled_symbol s y h in
    cond_both (length s == 1) (Some (symbol_or_bad s)) (symbol s) (λ o. o ≡ Some (Lexeme (Symbol y)))
    (λ one. ap (λ o. Some (unwrap_or o Bad)) e) (λ more. e)

pub stray_none : (s : List ℕ) → 1 < length s → symbol_of s ≡ None → symbol_or_stray s ≡ None
stray_none s more h = cond-false (length s == 1) (Some (symbol_or_bad s)) (symbol s) (ne_eqb (length s) 1 (λ e. omega arith)) ∙ unspelled s h

stray_alone : (s : List ℕ) → length s ≡ 1 → symbol_of s ≡ None → symbol_or_stray s ≡ Some Bad
stray_alone s one h =
    cond-true (length s == 1) (Some (symbol_or_bad s)) (symbol s) (eq-eqb (length s) 1 one) ∙ ap (λ o. Some (unwrap_or o Bad)) (unspelled s h)

pub symbol_found : (text y : List ℕ) (n : ℕ) (piece : Piece) → IsSymbolic text → IsLongestSymbol text y n → piece ≡ Lexeme (Symbol y) → IsFound text piece n
symbol_found text y n piece symbolic is same =
    subst (λ (p : Piece). IsFound text p n) (sym same)
    (found symbol_or_stray text (Lexeme (Symbol y)) n symbolic is.some is.within (stray_some (take n text) y is.spelled)
    (λ front rest e lt. stray_none front (omega (arith, is.some)) (is.longest front rest e lt)))

pub stray_found : (text : List ℕ) → 0 < length text → IsSymbolic text → NoSymbolPast text 0 → IsFound text Bad 1
stray_found text some symbolic none =
    let one : length (take 1 text) ≡ 1 = length-take-le 1 text (omega arith) in
    found symbol_or_stray text Bad 1 symbolic (omega arith) (omega arith)
    (stray_alone (take 1 text) one (none (take 1 text) (drop 1 text) (sym (take-append-drop 1 text)) (omega arith)))
    (λ front rest e lt. stray_none front lt (none front rest e (omega arith)))

-- ---- the shapes of spellings

-- behind a backslash stand letters or `/`; any other spelling has at most three bytes
abbrev has_shape : List ℕ → Bool
has_shape [] = true
has_shape (b ∷ t) = if b == 92 then (list_all is_letter t || bytes_eq t (codes "/")) else nat_lt (length t) 3

table_shape : list_all (λ row. has_shape row.0) symbol_table ≡ true
unfolding symbol_table spellings
table_shape = refl

-- what each spelling in the table passes, each spelling that is looked up passes
look_up_passes : (q : List ℕ → Bool) (s y : List ℕ) (rows : List (List ℕ × List ℕ)) → list_all (λ row. q row.0) rows ≡ true → look_up s rows ≡ Some y → q s ≡ true
look_up_passes q s y [] all h = cc
look_up_passes q s y (row ∷ rows) all h =
    let parts = and_parts (q row.0) (list_all (λ r. q r.0) rows) all in
    ⊎_elim
    (λ same. ap q ((bytes_eq-Decides s row.0).0 same) ∙ parts.0)
    (λ other. look_up_passes q s y rows parts.1 (sym (cond-false (bytes_eq s row.0) (Some row.1) (look_up s rows) other) ∙ h))
    (cases_Bool (bytes_eq s row.0))

pub none_unless : {A : Type 0} (o : Option A) → ((y : A) → o ≡ Some y → ⊥) → o ≡ None
none_unless None f = refl
none_unless (Some y) f = absurd (f y refl)

no_long_symbol : (b : ℕ) (t : List ℕ) → (b ≡ 92 → ⊥) → 3 < length (b ∷ t) → symbol_of (b ∷ t) ≡ None
no_long_symbol b t apart long =
    none_unless (symbol_of (b ∷ t))
    (λ y h.
    let shape = look_up_passes has_shape (b ∷ t) y symbol_table table_shape h in
    let short = ltb-true (length t) 3 (sym (cond-false (b == 92) (list_all is_letter t || bytes_eq t (codes "/")) (nat_lt (length t) 3) (ne_eqb b 92 apart)) ∙ shape) in
    omega (arith, short))

pub no_symbol_behind_backslash : (t : List ℕ) → list_all is_letter t ≡ false → bytes_eq t (codes "/") ≡ false → symbol_of (92 ∷ t) ≡ None
no_symbol_behind_backslash t letters slash =
    none_unless (symbol_of (92 ∷ t))
    (λ y h. both_ways (list_all is_letter t || bytes_eq t (codes "/")) (or_from _ _ letters slash) (look_up_passes has_shape (92 ∷ t) y symbol_table table_shape h))

pub short_unless_backslash : (p : ℕ → Bool) (text : List ℕ) → ((b : ℕ) → p b ≡ true → b ≡ 92 → ⊥) → StartsIn p text → NoSymbolPast text 3
short_unless_backslash p text apart starts [] rest e long = absurd (omega arith)
short_unless_backslash p text apart starts (b ∷ front) rest e long = no_long_symbol b front (apart b (StartsIn-front p text (b ∷ front) rest e (omega arith) starts)) long

pub short_other : (text : List ℕ) → StartsIn is_other text → NoSymbolPast text 3
short_other text starts = short_unless_backslash is_other text (λ b h e. false≢true (sym (ap is_other e) ∙ h)) starts

-- behind `<` stands no digit
abbrev has_no_digit : List ℕ → Bool
has_no_digit [] = true
has_no_digit (b ∷ []) = true
has_no_digit (b ∷ c ∷ t) = not (b == 60 && is_digit c)

table_has_no_digit : list_all (λ row. has_no_digit row.0) symbol_table ≡ true
unfolding symbol_table spellings
table_has_no_digit = refl

pub no_symbol_with_digit : (c : ℕ) (t : List ℕ) → is_digit c ≡ true → symbol_of (60 ∷ c ∷ t) ≡ None
no_symbol_with_digit c t digit =
    none_unless (symbol_of (60 ∷ c ∷ t))
    (λ y h. both_ways (is_digit c) (not-true (is_digit c) (look_up_passes has_no_digit (60 ∷ c ∷ t) y symbol_table table_has_no_digit h)) digit)
