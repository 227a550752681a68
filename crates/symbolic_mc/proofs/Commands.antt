-- A check and a recheck are asked for by different words, and what a check asks may be asked.
use Rattle.std.proofs.Common.{◌≡◌, ◌≤◌, ◌<◌, ℕ, Bool, true, false, List, [], ◌∷◌, Option, Some, None, ap, sym, ◌∙◌, subst, arith, refl}
use Rattle.std.specs.Prelude.{All, String, codes, option_map, string_bytes, unwrap_or, ◌&&◌, nat_le, nat_lt, length, if◌then◌else◌}
use Rattle.std.specs.Char.{is_ascii_digit}
use Rattle.std.specs.List.{list_all}
use Rattle.std.specs.Str.{IsUtf8, bytes_eq}
use Rattle.std.specs.Str.Parse.{digits_value}
use Rattle.std.specs.declared.alloc.Global.{Global}
use Rattle.std.proofs.lemmas.Bool.{leb-true, ltb-true}
use Rattle.std.proofs.lemmas.Str.{IsUtf8-from_ascii, IsUtf8-string_bytes}
use Rattle.std.proofs.lemmas.Str.Ascii.{IsAscii-from_all}
use Rattle.std.proofs.lemmas.List.Elements.{All-cons, All-nil}
use Rattle.tla_meaning.proofs.Views.{and_left, and_right}
use Rattle.front_end.specs.Requests.{IsRequest}
use Rattle.symbolic_mc.specs.Top.{asked_of}
use Rattle.symbolic_mc.specs.Words.{Request, command_of, length_of, number_of, request, request_of}
use Rattle.symbolic_mc.specs.inner.Told.{IsAskable}
use Rattle.symbolic_mc.proofs.Told.{AreApart}

pub words_apart : (words : List (String Global)) → AreApart (command_of words)
words_apart [] r cert check again = absurd cc
words_apart (a ∷ []) r cert check again = absurd cc
words_apart (a ∷ b ∷ []) r cert check again = absurd cc
words_apart (a ∷ b ∷ d ∷ words) r cert check again = absurd cc

-- ---- what a check asks

below : (bs : List ℕ) → list_all (λ b. nat_lt b 128) bs ≡ true → All (λ b. b < 128) bs
below [] h = All-nil (λ (b : ℕ). b < 128)
below (b ∷ bs) h =
    All-cons (λ (b : ℕ). b < 128) b bs (ltb-true b 128 (and_left (nat_lt b 128) (list_all (λ b. nat_lt b 128) bs) h))
    (below bs (and_right (nat_lt b 128) (list_all (λ b. nat_lt b 128) bs) h))

-- bytes below 128 are a text
short_text : (bs : List ℕ) → list_all (λ b. nat_lt b 128) bs ≡ true → IsUtf8 bs
short_text bs h = IsUtf8-from_ascii bs (IsAscii-from_all bs (below bs h))

pub may_be_asked : (file : List ℕ) (longest : ℕ) → IsAskable file longest → IsRequest (asked_of file longest)
may_be_asked file longest h = record {
  root = h.text;
  init = short_text (codes "Init") refl;
  next = short_text (codes "Next") refl;
  cinit = tt;
  wide = omega arith;
  narrow = omega arith;
  short = h.short;
  bounds = tt;
}

chosen : (b : Bool) (v n : ℕ) → (if b then Some v else None) ≡ Some n → (b ≡ true) × (v ≡ n)
chosen true v n e = (refl, ap (λ (o : Option ℕ). unwrap_or o v) e)
chosen false v n e = absurd (cc)

last_of : (a b : Bool) → (a && b) ≡ true → b ≡ true
last_of true b e = e
last_of false b e = absurd (cc)

at_most : (a b : ℕ) → nat_le a b ≡ true → a ≤ b
at_most a b e = leb-true a b e

short_number : (digits : List ℕ) (n : ℕ) → length_of digits ≡ Some n → n ≤ 1000
short_number digits n e =
    let c = chosen _ (digits_value 10 digits) n e in
    let le : digits_value 10 digits ≤ 1000 = at_most (digits_value 10 digits) 1000 (last_of _ _ c.0) in
    let same : digits_value 10 digits ≡ n = c.1 in
    omega (arith, le, same)

made_of : (file : List ℕ) (o : Option ℕ) (b : Option (Option ℕ)) (r : Request) → IsUtf8 file → ((n : ℕ) → o ≡ Some n → n ≤ 1000)
    → request file o b ≡ Some r → IsAskable r.0 r.1
made_of file None b r text short e = absurd (cc)
made_of file (Some n) None r text short e = absurd (cc)
made_of file (Some n) (Some budget) r text short e =
    let same : (file, n, budget) ≡ r = ap (λ (o : Option Request). unwrap_or o (file, n, budget)) e in
    let P : Request → Type 0 = λ z. IsAskable z.0 z.1 in
    subst P same (record { text = text; short = short n refl })

if_check : (b : Bool) (o : Option Request) (r : Request) → (if b then o else None) ≡ Some r → o ≡ Some r
if_check true o r e = e
if_check false o r e = absurd (cc)

pub asked_well : (words : List (String Global)) (r : Request) → request_of words ≡ Some r → IsAskable r.0 r.1
asked_well (command ∷ file ∷ longest ∷ []) r e =
    made_of (string_bytes file) (length_of (string_bytes longest)) (Some None) r (IsUtf8-string_bytes file) (short_number (string_bytes longest))
    (if_check _ _ r e)
asked_well (command ∷ file ∷ longest ∷ conflicts ∷ []) r e =
    made_of (string_bytes file) (length_of (string_bytes longest)) _ r (IsUtf8-string_bytes file) (short_number (string_bytes longest))
    (if_check _ _ r e)
asked_well [] r e = absurd (cc)
asked_well (a ∷ []) r e = absurd (cc)
asked_well (a ∷ b ∷ []) r e = absurd (cc)
asked_well (a ∷ b ∷ d ∷ f ∷ g ∷ words) r e = absurd (cc)
