-- One line alone is the first bad one.
use Rattle.std.proofs.Common.{◌≡◌, ℕ, zero, suc, ◌+◌, ◌<◌, ◌≤◌, ◌-◌, ◌⊎◌, inl, inr, List, [], ◌∷◌, ◌++◌, length, take, get_or, refl, ap, ◌∙◌, sym, subst, arith}
use Rattle.std.proofs.lemmas.Bool.{cases_lt}
use Rattle.std.proofs.lemmas.List.{take_more}
use Rattle.tla_values.specs.declared.value.Value.{Value}
use Rattle.tla_meaning.specs.declared.expr.Decl.{Decl}
use Rattle.trace_text.specs.Blocks.{BeginsWith, HasLines, IsBadLine, IsValue}
use Rattle.trace_text.specs.Reports.{value_line}
use Rattle.trace_text.proofs.BlockLines.{Each, each_first, each_rest, lines, lines_first}

-- the lines before the last
record Front (ds : List Decl) (whole : List ℕ) : Type 0 where
  values : List Value
  rest : List ℕ
  one_each : length values ≡ length ds
  each : Each values
  is : whole ≡ lines ds values ++ rest

each_both : (v : Value) (vs : List Value) → IsValue v → Each vs → Each (v ∷ vs)
each_both v vs first rest = λ k d lt. at k d lt
  where
    at : (k : ℕ) (d : Value) → k < length (v ∷ vs) → IsValue (get_or (v ∷ vs) k d)
    at zero d lt = first
    at (suc k) d lt = rest k d (omega arith)

front : (ds : List Decl) (last : Decl) (us : List Value) (r : List ℕ) → length us ≡ length (ds ++ last ∷ []) → Each us →
    Front ds (lines (ds ++ last ∷ []) us ++ r)
front [] last us r e h = record { values = []; rest = lines (last ∷ []) us ++ r; one_each = refl; each = λ k d lt. absurd (omega arith); is = refl }
front (d ∷ ds) last [] r e h = absurd (omega arith)
front (d ∷ ds) last (u ∷ us) r e h =
    let f = front ds last us r (omega arith) (each_rest u us h) in
    record {
      values = u ∷ f.values;
      rest = f.rest;
      one_each = omega (arith, f.one_each);
      each = each_both u f.values (each_first u us h) f.each;
      is = lines_first d (ds ++ last ∷ []) u us r ∙ ap (λ x. value_line (d.name, u) ++ x) f.is ∙ sym (lines_first d ds u f.values f.rest);
    }

one_fewer : (names : List Decl) (bytes : List ℕ) (n : ℕ) → HasLines names bytes (n + 1) → HasLines names bytes n
one_fewer [] bytes n has = absurd (omega (arith, has.within))
one_fewer (x ∷ xs) bytes n has =
    let names : List Decl = x ∷ xs in
    let last : Decl = get_or names n x in
    let begins : BeginsWith (take n names ++ last ∷ []) bytes has.values has.rest =
    subst (λ ds. BeginsWith ds bytes has.values has.rest) (take_more names n x (omega (arith, has.within))) has.begins in
    let f = front (take n names) last has.values.vals has.rest begins.state.one_each begins.state.values in
    record {
      within = omega (arith, has.within);
      values = record { vals = f.values };
      rest = f.rest;
      begins = record { state = record { one_each = f.one_each; values = f.each }; is = begins.is ∙ f.is };
    }

fewer : (names : List Decl) (bytes : List ℕ) (k m n : ℕ) → n ≡ m + k → HasLines names bytes n → HasLines names bytes m
fewer names bytes zero m n e has = let same : n ≡ m = omega arith in subst (HasLines names bytes) same has
fewer names bytes (suc k) m n e has =
    let same : n ≡ (m + k) + 1 = omega arith in
    fewer names bytes k m (m + k) refl (one_fewer names bytes (m + k) (subst (HasLines names bytes) same has))

not_before : (names : List Decl) (bytes : List ℕ) (m n : ℕ) → IsBadLine names bytes m → IsBadLine names bytes n → m < n → ⊥
not_before names bytes m n a b lt =
    let e : b.before ≡ m + (b.before - m) = omega (arith, a.counted, b.counted) in
    a.bad (fewer names bytes (b.before - m) m b.before e b.good)

pub one_bad_line : (names : List Decl) (bytes : List ℕ) (m n : ℕ) → IsBadLine names bytes m → IsBadLine names bytes n → m ≡ n
one_bad_line names bytes m n a b = by_order (cases_lt m n) (cases_lt n m)
  where
    by_order : (m < n) ⊎ (n ≤ m) → (n < m) ⊎ (m ≤ n) → m ≡ n
    by_order (inl lt) o = absurd (not_before names bytes m n a b lt)
    by_order (inr le) (inl lt) = absurd (not_before names bytes n m b a lt)
    by_order (inr le) (inr ge) = omega arith
