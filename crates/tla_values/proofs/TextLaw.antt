-- The text of a value can be read back in one way only.
use Rattle.std.proofs.Common.{◌≡◌, ℕ, suc, ◌-◌, ◌<◌, ◌^◌, Bool, true, false, not, ◌||◌, List, [], ◌∷◌, ◌++◌, flat_map, refl, ap, ◌∙◌, sym, subst, arith, append_assoc, IsTrue, ℤ, pos, negsuc}
use Rattle.std.specs.Prelude.{◌==◌, if◌then◌else◌, nat_lt, ⊤}
use Rattle.std.specs.List.{AllByRecursion, join_by}
use Rattle.std.specs.Fmt.{decimal, signed_decimal}
use Rattle.std.specs.Str.Parse.{AllDigits, IsNumeral, digits_value}
use Rattle.std.specs.Char.{digit_value}
use Rattle.std.proofs.lemmas.Bool.{false≢true}
use Rattle.std.proofs.lemmas.Bool.Decides.{nat_tests}
use Rattle.std.proofs.lemmas.Fmt.{decimal_is_IsNumeral_wide}
use Rattle.std.proofs.lemmas.Str.Parse.{digit_from_value}
use Rattle.tla_values.specs.Integers.{fits_width}
use Rattle.tla_values.specs.inner.Escapes.{decode, letter}
use Rattle.tla_values.specs.Show.{Ends, Shown, are_named, counts_from, escaped, function_text, is_digit, layer_text, pairs_text, record_text, tuple_text}
use Rattle.tla_values.specs.Order.{Layer, kind_of}
use Rattle.tla_values.specs.declared.value.Value.TheOpen as layer

-- ---- lists of bytes

pub head_is : (a b : ℕ) (x y : List ℕ) → a ∷ x ≡ b ∷ y → a ≡ b
head_is a b x y e = cc

pub tail_is : (a b : ℕ) (x y : List ℕ) → a ∷ x ≡ b ∷ y → x ≡ y
tail_is a b x y e = cc

nothing_is : (a : ℕ) (x : List ℕ) → [] ≡ a ∷ x → ⊥
nothing_is a x e = cc

pub cancel : (p x y : List ℕ) → p ++ x ≡ p ++ y → x ≡ y
cancel [] x y e = e
cancel (a ∷ p) x y e = cancel p x y (tail_is a a (p ++ x) (p ++ y) e)

-- ---- runs of bytes that pass a test, with a byte behind that does not

module _ (test : ℕ → Bool) where
  -- what stands behind does not go on
  abbrev pub Stops : List ℕ → Type 0
  Stops [] = ⊤
  Stops (b ∷ bs) = IsTrue (not (test b))

  clash : (b : ℕ) → test b ≡ true → IsTrue (not (test b)) → ⊥
  clash b passes stops = absurd (wrong (test b) passes stops)
    where
      wrong : (t : Bool) → t ≡ true → IsTrue (not t) → ⊥
      wrong true e h = cc
      wrong false e h = cc

  pub runs_apart : (xs ys r q : List ℕ) → AllByRecursion (λ b. test b ≡ true) xs → AllByRecursion (λ b. test b ≡ true) ys →
      Stops r → Stops q → xs ++ r ≡ ys ++ q → (xs ≡ ys) × (r ≡ q)
  runs_apart [] [] r q g h s t e = (refl, e)
  runs_apart [] (y ∷ ys) [] q g h s t e = absurd (nothing_is y (ys ++ q) e)
  runs_apart [] (y ∷ ys) (b ∷ r) q g h s t e =
      absurd (clash b (subst (λ x. test x ≡ true) (sym (head_is b y r (ys ++ q) e)) h.0) s)
  runs_apart (x ∷ xs) [] r [] g h s t e = absurd (nothing_is x (xs ++ r) (sym e))
  runs_apart (x ∷ xs) [] r (b ∷ q) g h s t e =
      absurd (clash b (subst (λ y. test y ≡ true) (head_is x b (xs ++ r) q e) g.0) t)
  runs_apart (x ∷ xs) (y ∷ ys) r q g h s t e =
      let first = head_is x y (xs ++ r) (ys ++ q) e in
      let rest = runs_apart xs ys r q g.1 h.1 s t (tail_is x y (xs ++ r) (ys ++ q) e) in
      (ap (λ b. b ∷ xs) first ∙ ap (λ l. y ∷ l) rest.0, rest.1)

-- ---- texts between quotes

same_byte : (b k : ℕ) → (b == k) ≡ true → b ≡ k
same_byte b k e = grind (arith, nat_tests)

by_byte : (t : Bool) (b k : ℕ) (there other rest : List ℕ) → (b == k) ≡ t → decode (there ++ rest) ≡ (k, rest) →
    (t ≡ false → decode (other ++ rest) ≡ (b, rest)) → decode ((if t then there else other) ++ rest) ≡ (b, rest)
by_byte true b k there other rest e h f = h ∙ ap (λ n. (n, rest)) (sym (same_byte b k e))
by_byte false b k there other rest e h f = f refl

plain_byte : (b : ℕ) (rest : List ℕ) → (b == 92) ≡ false → decode (b ∷ rest) ≡ (b, rest)
plain_byte b [] e = refl
plain_byte b (c ∷ rest) e = ap (λ t. if t then (letter c, rest) else (b, c ∷ rest)) e

pub decoded : (b : ℕ) (rest : List ℕ) → decode (escaped b ++ rest) ≡ (b, rest)
decoded b rest =
    by_byte (b == 34) b 34 _ _ rest refl refl (λ n.
    by_byte (b == 92) b 92 _ _ rest refl refl (λ other.
    by_byte (b == 9) b 9 _ _ rest refl refl (λ n.
    by_byte (b == 10) b 10 _ _ rest refl refl (λ n.
    by_byte (b == 12) b 12 _ _ rest refl refl (λ n.
    by_byte (b == 13) b 13 _ _ rest refl refl (λ n.
    plain_byte b rest other))))))

pub quote_decoded : (rest : List ℕ) → decode (34 ∷ rest) ≡ (34, rest)
quote_decoded rest = plain_byte 34 rest refl

pub no_quote : (c : ℕ) (rest r : List ℕ) → escaped c ++ rest ≡ 34 ∷ r → ⊥
no_quote c rest r e =
    let same = sym (decoded c rest) ∙ ap decode e ∙ quote_decoded r in
    let byte : c ≡ 34 = ap (λ (p : ℕ × List ℕ). p.0) same in
    back (subst (λ n. escaped n ++ rest ≡ 34 ∷ r) byte e)
  where
    back : escaped 34 ++ rest ≡ 34 ∷ r → ⊥
    back h = omega (arith, head_is 92 34 (34 ∷ rest) r h)

pub quoted_apart : (t u r q : List ℕ) → flat_map escaped t ++ 34 ∷ r ≡ flat_map escaped u ++ 34 ∷ q → (t ≡ u) × (r ≡ q)
quoted_apart [] [] r q e = (refl, tail_is 34 34 r q e)
quoted_apart [] (c ∷ u) r q e =
    absurd (no_quote c (flat_map escaped u ++ 34 ∷ q) r (sym (append_assoc (escaped c) (flat_map escaped u) (34 ∷ q)) ∙ sym e))
quoted_apart (b ∷ t) [] r q e =
    absurd (no_quote b (flat_map escaped t ++ 34 ∷ r) q (sym (append_assoc (escaped b) (flat_map escaped t) (34 ∷ r)) ∙ e))
quoted_apart (b ∷ t) (c ∷ u) r q e =
    let left : List ℕ = flat_map escaped t ++ 34 ∷ r in
    let right : List ℕ = flat_map escaped u ++ 34 ∷ q in
    let same : escaped b ++ left ≡ escaped c ++ right =
    sym (append_assoc (escaped b) (flat_map escaped t) (34 ∷ r)) ∙ e ∙ append_assoc (escaped c) (flat_map escaped u) (34 ∷ q) in
    let pair = sym (decoded b left) ∙ ap decode same ∙ decoded c right in
    let rest = quoted_apart t u r q (ap (λ (p : ℕ × List ℕ). p.1) pair) in
    (ap (λ n. n ∷ t) (ap (λ (p : ℕ × List ℕ). p.0) pair) ∙ ap (λ l. c ∷ l) rest.0, rest.1)

-- ---- lists of pieces with a separator between and a closing behind

module _ {X : Type 0} (f : X → List ℕ) (Good : X → Type 0) (s : ℕ) (ss : List ℕ) (c : ℕ) (cs : List ℕ) (differ : s ≡ c → ⊥)
    (goes_on : IsTrue (not (is_digit s))) (closes : IsTrue (not (is_digit c))) where
  -- a piece can be told from every other one
  abbrev pub Only : X → Type 0
  Only x = (y : X) (r q : List ℕ) → Good y → Ends r → Ends q → f x ++ r ≡ f y ++ q → (x ≡ y) × (r ≡ q)

  abbrev pub tail_text : List X → List ℕ → List ℕ
  tail_text xs r = flat_map (λ x. (s ∷ ss) ++ f x) xs ++ ((c ∷ cs) ++ r)

  tail_ends : (xs : List X) (r : List ℕ) → Ends (tail_text xs r)
  tail_ends [] r = closes
  tail_ends (x ∷ xs) r = goes_on

  tail_opened : (x : X) (xs : List X) (r : List ℕ) → tail_text (x ∷ xs) r ≡ (s ∷ ss) ++ (f x ++ tail_text xs r)
  tail_opened x xs r =
      append_assoc ((s ∷ ss) ++ f x) (flat_map (λ y. (s ∷ ss) ++ f y) xs) ((c ∷ cs) ++ r)
      ∙ append_assoc (s ∷ ss) (f x) (tail_text xs r)

  pub tails_apart : (xs ys : List X) (r q : List ℕ) → AllByRecursion Only xs → AllByRecursion Good ys →
      tail_text xs r ≡ tail_text ys q → (xs ≡ ys) × (r ≡ q)
  tails_apart [] [] r q g h e = (refl, cancel (c ∷ cs) r q e)
  tails_apart [] (y ∷ ys) r q g h e = absurd (differ (sym (head_is c s _ _ (e ∙ tail_opened y ys q))))
  tails_apart (x ∷ xs) [] r q g h e = absurd (differ (head_is s c _ _ (sym (tail_opened x xs r) ∙ e)))
  tails_apart (x ∷ xs) (y ∷ ys) r q g h e =
      let same = cancel (s ∷ ss) _ _ (sym (tail_opened x xs r) ∙ e ∙ tail_opened y ys q) in
      let first = g.0 y (tail_text xs r) (tail_text ys q) h.0 (tail_ends xs r) (tail_ends ys q) same in
      let rest = tails_apart xs ys r q g.1 h.1 first.1 in
      (ap (λ z. z ∷ xs) first.0 ∙ ap (λ zs. y ∷ zs) rest.0, rest.1)

  -- no piece begins with the closing
  abbrev pub NoClosing : X → Type 0
  NoClosing x = (r q : List ℕ) → f x ++ r ≡ c ∷ q → ⊥

  list_opened : (x : X) (xs : List X) (r : List ℕ) → join_by f (s ∷ ss) (x ∷ xs) ++ ((c ∷ cs) ++ r) ≡ f x ++ tail_text xs r
  list_opened x xs r = append_assoc (f x) (flat_map (λ y. (s ∷ ss) ++ f y) xs) ((c ∷ cs) ++ r)

  pub lists_apart : (xs ys : List X) (r q : List ℕ) → AllByRecursion Only xs → AllByRecursion Good ys →
      AllByRecursion NoClosing xs → AllByRecursion NoClosing ys →
      join_by f (s ∷ ss) xs ++ ((c ∷ cs) ++ r) ≡ join_by f (s ∷ ss) ys ++ ((c ∷ cs) ++ q) → (xs ≡ ys) × (r ≡ q)
  lists_apart [] [] r q g h m n e = (refl, cancel (c ∷ cs) r q e)
  lists_apart [] (y ∷ ys) r q g h m n e = absurd (n.0 (tail_text ys q) (cs ++ r) (sym (list_opened y ys q) ∙ sym e))
  lists_apart (x ∷ xs) [] r q g h m n e = absurd (m.0 (tail_text xs r) (cs ++ q) (sym (list_opened x xs r) ∙ e))
  lists_apart (x ∷ xs) (y ∷ ys) r q g h m n e =
      let first = g.0 y (tail_text xs r) (tail_text ys q) h.0 (tail_ends xs r) (tail_ends ys q) (sym (list_opened x xs r) ∙ e ∙ list_opened y ys q) in
      let rest = tails_apart xs ys r q g.1 h.1 first.1 in
      (ap (λ z. z ∷ xs) first.0 ∙ ap (λ zs. y ∷ zs) rest.0, rest.1)

-- ---- numbers

digit_passes : (b : ℕ) → digit_value b < 10 → is_digit b ≡ true
digit_passes b h = let within = digit_from_value b h in grind (arith, nat_tests)

pub are_digits : (ds : List ℕ) → AllDigits 10 ds → AllByRecursion (λ b. is_digit b ≡ true) ds
are_digits [] h = tt
are_digits (d ∷ ds) h = (digit_passes d h.0, are_digits ds h.1)

decimal_apart : (m n : ℕ) (r q : List ℕ) → m < 10 ^ 64 → n < 10 ^ 64 → Ends r → Ends q → decimal m ++ r ≡ decimal n ++ q → (m ≡ n) × (r ≡ q)
decimal_apart m n r q small less s t e =
    let first = decimal_is_IsNumeral_wide m small in
    let second = decimal_is_IsNumeral_wide n less in
    let same = runs_apart is_digit (decimal m) (decimal n) r q (are_digits (decimal m) first.0.1) (are_digits (decimal n) second.0.1) s t e in
    (sym first.1 ∙ ap (digits_value 10) same.0 ∙ second.1, same.1)

-- a number's text is not empty, and begins with a digit
number_first : (m : ℕ) (r : List ℕ) → m < 10 ^ 64 → (b : ℕ) (bs : List ℕ) → decimal m ++ r ≡ b ∷ bs → is_digit b ≡ true
number_first m r small b bs e = first_digit (decimal m) (decimal_is_IsNumeral_wide m small).0 e
  where
    first_digit : (ds : List ℕ) → IsNumeral 10 ds → ds ++ r ≡ b ∷ bs → is_digit b ≡ true
    first_digit [] h k = absurd (omega (arith, h.0))
    first_digit (d ∷ ds) h k = ap is_digit (sym (head_is d b (ds ++ r) bs k)) ∙ digit_passes d h.1.0

no_minus : (m : ℕ) (r bs : List ℕ) → m < 10 ^ 64 → decimal m ++ r ≡ 45 ∷ bs → ⊥
no_minus m r bs small e = false≢true (number_first m r small 45 bs e)

pub fits_small : (n : ℕ) → nat_lt n (2 ^ (128 - 1)) ≡ true → n < 10 ^ 63
fits_small n h = grind (arith, nat_tests)

pub signed_apart : (a b : ℤ) (r q : List ℕ) → IsTrue (fits_width 128 a) → IsTrue (fits_width 128 b) → Ends r → Ends q →
    signed_decimal a ++ r ≡ signed_decimal b ++ q → (a ≡ b) × (r ≡ q)
signed_apart (pos m) (pos n) r q g h s t e =
    let small = fits_small m g in
    let less = fits_small n h in
    let same = decimal_apart m n r q (omega arith) (omega arith) s t e in
    (ap pos same.0, same.1)
signed_apart (pos m) (negsuc n) r q g h s t e = absurd (let small = fits_small m g in no_minus m r (decimal (suc n) ++ q) (omega arith) e)
signed_apart (negsuc m) (pos n) r q g h s t e = absurd (let small = fits_small n h in no_minus n q (decimal (suc m) ++ r) (omega arith) (sym e))
signed_apart (negsuc m) (negsuc n) r q g h s t e =
    let small = fits_small m g in
    let less = fits_small n h in
    let same = decimal_apart (suc m) (suc n) r q (omega arith) (omega arith) s t (tail_is 45 45 _ _ e) in
    (ap (λ k. negsuc k) (down m n same.0), same.1)
  where
    down : (x y : ℕ) → suc x ≡ suc y → x ≡ y
    down x y k = omega arith

-- ---- the first byte

-- a number lies within 128 bits
abbrev pub int_fits : {X : Type 0} → Layer X → Bool
int_fits (layer.Int n) = fits_width 128 n
int_fits x = true

-- the kind of value whose text begins with this byte
abbrev pub kind_at : List ℕ → ℕ
kind_at [] = 9
kind_at (b ∷ bs) =
    if b == 84 || b == 70 then 0
    else (if is_digit b || b == 45 then 1
    else (if b == 34 then 2
    else (if b == 123 then 3
    else (if b == 60 || b == 91 || b == 40 then 4 else 9))))

number_kind : (b : ℕ) (bs : List ℕ) → is_digit b ≡ true → kind_at (b ∷ bs) ≡ 1
number_kind b bs h = pick (b == 84 || b == 70) (letters b h) ∙ ap (λ t. if t || b == 45 then 1 else (if b == 34 then 2 else (if b == 123 then 3 else (if b == 60 || b == 91 || b == 40 then 4 else 9)))) h
  where
    letters : (b : ℕ) → is_digit b ≡ true → (b == 84 || b == 70) ≡ false
    letters b h = grind (arith, nat_tests)

    rest : ℕ
    rest = if is_digit b || b == 45 then 1 else (if b == 34 then 2 else (if b == 123 then 3 else (if b == 60 || b == 91 || b == 40 then 4 else 9)))

    pick : (t : Bool) → t ≡ false → (if t then 0 else rest) ≡ rest
    pick true e = absurd (false≢true (sym e))
    pick false e = refl

numbers_kind : (n : ℕ) (r : List ℕ) → n < 10 ^ 64 → kind_at (decimal n ++ r) ≡ 1
numbers_kind n r small = of_digits (decimal n) (decimal_is_IsNumeral_wide n small).0
  where
    of_digits : (ds : List ℕ) → IsNumeral 10 ds → kind_at (ds ++ r) ≡ 1
    of_digits [] h = absurd (omega (arith, h.0))
    of_digits (d ∷ ds) h = number_kind d (ds ++ r) (digit_passes d h.1.0)

function_kind : (ps : List (Shown × Shown)) (r : List ℕ) → kind_at (function_text ps ++ r) ≡ 4
function_kind ps r = by_form (counts_from 1 ps) (are_named ps)
  where
    by_form : (a b : Bool) → kind_at ((if a then tuple_text ps else (if b then record_text ps else pairs_text ps)) ++ r) ≡ 4
    by_form true b = refl
    by_form false true = refl
    by_form false false = refl

pub kind_is : (x : Layer Shown) (r : List ℕ) → IsTrue (int_fits x) → kind_at (layer_text x ++ r) ≡ kind_of x
kind_is (layer.Bool true) r h = refl
kind_is (layer.Bool false) r h = refl
kind_is (layer.Int (pos n)) r h = let small = fits_small n h in numbers_kind n r (omega arith)
kind_is (layer.Int (negsuc n)) r h = refl
kind_is (layer.Text t) r h = refl
kind_is (layer.Set xs) r h = refl
kind_is (layer.Fun ps) r h = function_kind ps r
