-- The steps of taking the text of a note apart.
use Rattle.std.proofs.Common.{◌≡◌, ℕ, zero, suc, ◌+◌, ◌<◌, ◌^◌, List, [], ◌∷◌, ◌++◌, length, take, get_or, refl, ap, sym, ◌∙◌, subst, arith, Option, Some, None, Result}
use Rattle.std.specs.Prelude.{MatchOption}
use Rattle.std.specs.Fmt.{decimal}
use Rattle.std.specs.Result.{result_ok}
use Rattle.std.specs.Str.{IsUtf8}
use Rattle.std.specs.Str.Parse.{ParsesUnsigned}
use Rattle.std.proofs.lemmas.Fmt.{parse-decimal, IsAscii-decimal}
use Rattle.std.proofs.lemmas.Str.{IsUtf8-from_ascii}
use Rattle.snowcat_types.specs.inner.Telling.{IsNumbered, IsUnbroken}
use Rattle.snowcat_types.proofs.OneReading.{decimal_unbroken, same_split}

unbroken_next : (xs : List ℕ) (i : ℕ) → i < length xs → IsUnbroken (take i xs) → (get_or xs i 0 ≡ 32 → ⊥) → IsUnbroken (take (suc i) xs)
unbroken_next [] i lt u n = absurd (omega (arith, lt))
unbroken_next (x ∷ xs) zero lt u n = (n, tt)
unbroken_next (x ∷ xs) (suc i) lt u n = (u.0, unbroken_next xs i (omega (arith, lt)) u.1 n)

pub unbroken_more : (xs : List ℕ) (i : ℕ) → i < length xs → IsUnbroken (take i xs) → (get_or xs i 0 ≡ 32 → ⊥) → IsUnbroken (take (i + 1) xs)
unbroken_more xs i lt u n =
    let up : suc i ≡ i + 1 = omega arith in
    subst (λ (j : ℕ). IsUnbroken (take j xs)) up (unbroken_next xs i lt u n)

broken : (xs ys : List ℕ) → IsUnbroken (xs ++ 32 ∷ ys) → ⊥
broken [] ys u = u.0 refl
broken (x ∷ xs) ys u = broken xs ys u.1

pub unbroken_none : (text : List ℕ) → IsUnbroken text → (n : ℕ) (t : List ℕ) → IsNumbered text n t → ⊥
unbroken_none text u n t h = broken (decimal n) t (subst IsUnbroken h.1 u)

pub undecimal_none : (text a b : List ℕ) (r : Option ℕ) → text ≡ a ++ 32 ∷ b → IsUnbroken a → r ≡ None →
    MatchOption r ((n : ℕ) → n < 2 ^ 64 → a ≡ decimal n → ⊥) (λ n. (n < 2 ^ 64) × (a ≡ decimal n)) → (n : ℕ) (t : List ℕ) → IsNumbered text n t → ⊥
undecimal_none text a b None e u is never n t h = never n h.0 (same_split a (decimal n) b t u (decimal_unbroken n h.0) (sym e ∙ h.1)).0
undecimal_none text a b (Some m) e u is h n t g = absurd (let f : Some m ≡ None = is in cc)

-- what a text is read as, where it is text
pub parsed : {E : Type 0} → (digits text : List ℕ) (n : ℕ) (r : Option ℕ) (p : Result ℕ E) → n < 2 ^ 64 → digits ≡ decimal n → text ≡ digits →
    r ≡ result_ok p →
    ParsesUnsigned 64 10 text p → r ≡ Some n
parsed digits text n r p lt e h g k = g ∙ ap result_ok (parse-decimal 64 n text p lt lt (h ∙ e) k)

pub decimal_text : (digits : List ℕ) (n : ℕ) → n < 2 ^ 64 → digits ≡ decimal n → IsUtf8 digits
decimal_text digits n lt e = subst IsUtf8 (sym e) (IsUtf8-from_ascii (decimal n) (IsAscii-decimal n lt))
