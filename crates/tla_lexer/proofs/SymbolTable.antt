-- The table of symbols, by the number of bytes.
use Rattle.std.proofs.Common.{◌≡◌, ℕ, Bool, true, false, List, [], ◌∷◌, length, Some, filter, refl, sym, ◌∙◌, ap, arith, ⊎_elim}
use Rattle.std.specs.Prelude.{◌==◌, ◌&&◌, not, nat_le, bytes_eq, if◌then◌else◌}
use Rattle.std.proofs.lemmas.Bool.{cond-true, cond-false, cases_Bool, eq-eqb, both_ways, and_parts, leb-true}
use Rattle.std.proofs.lemmas.Slice.Eq.{bytes_eq-Decides}
use Rattle.tla_lexer.specs.Symbols.{symbol_table, look_up, symbol_of}

-- a spelling is found among the rows that pass what it passes
kept : (q : List ℕ → Bool) (s : List ℕ) (rows : List (List ℕ × List ℕ)) → q s ≡ true → look_up s (filter (λ row. q row.0) rows) ≡ look_up s rows
kept q s [] pass = refl
kept q s (row ∷ rows) pass =
    ⊎_elim
    (λ in_rows. ap (look_up s) (cond-true (q row.0) (row ∷ filter (λ r. q r.0) rows) _ in_rows) ∙ ap (λ o. if bytes_eq s row.0 then Some row.1 else o) (kept q s rows pass))
    (λ out.
    ap (look_up s) (cond-false (q row.0) (row ∷ filter (λ r. q r.0) rows) _ out) ∙ kept q s rows pass
    ∙ sym (cond-false (bytes_eq s row.0) (Some row.1) (look_up s rows) (other out)))
    (cases_Bool (q row.0))
  where
    other : q row.0 ≡ false → bytes_eq s row.0 ≡ false
    other out =
        ⊎_elim (λ same. absurd (both_ways (q s) (ap q ((bytes_eq-Decides s row.0).0 same) ∙ out) pass)) (λ apart. apart) (cases_Bool (bytes_eq s row.0))

abbrev pub rows_of : ℕ → List (List ℕ × List ℕ)
rows_of n = filter (λ row. length row.0 == n) symbol_table

abbrev pub longer_rows : List (List ℕ × List ℕ)
longer_rows = filter (λ row. not (nat_le 1 (length row.0) && nat_le (length row.0) 3)) symbol_table

pub among_equal : (s : List ℕ) (n : ℕ) → length s ≡ n → look_up s (rows_of n) ≡ symbol_of s
among_equal s n size = kept (λ t. length t == n) s symbol_table (eq-eqb (length s) n size)

pub among_longer : (s : List ℕ) → (length s ≡ 1 → ⊥) → (length s ≡ 2 → ⊥) → (length s ≡ 3 → ⊥) → look_up s longer_rows ≡ symbol_of s
among_longer s one two three =
    kept (λ t. not (nat_le 1 (length t) && nat_le (length t) 3)) s symbol_table
    (⊎_elim (λ few. absurd (none few)) (λ many. ap not many) (cases_Bool (nat_le 1 (length s) && nat_le (length s) 3)))
  where
    none : (nat_le 1 (length s) && nat_le (length s) 3) ≡ true → ⊥
    none few =
        let parts = and_parts (nat_le 1 (length s)) (nat_le (length s) 3) few in
        let low = leb-true 1 (length s) parts.0 in
        let high = leb-true (length s) 3 parts.1 in
        omega (arith, low, high, one, two, three)
