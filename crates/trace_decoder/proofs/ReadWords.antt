-- Words read from their lowest bit on.
use Rattle.std.proofs.Common.{◌≡◌, ℕ, ◌+◌, ◌-◌, ◌*◌, ◌^◌, ◌<◌, ◌≤◌, Bool, true, false, List, [], length, take, get_or, refl, sym, ◌∙◌, ap, ap₂, arith}
use Rattle.std.proofs.Common.{ℤ, pos, ◌-ℤ◌, to_z, of_z, FitsSigned}
use Rattle.std.specs.Int.{w128}
use Rattle.std.specs.Prelude.{if◌then◌else◌}
use Rattle.std.proofs.Math.Nat.{pow-le-pow_right}
use Rattle.std.proofs.lemmas.List.{take_all, length_push}
use Rattle.std.proofs.lemmas.Int.{to_z-of_z, to_z_pos, ints}
use Rattle.sat_formula.specs.declared.lit.Lit.{Lit}
use Rattle.sat_formula.specs.Lit.{lit_value, values}
use Rattle.word_blaster.specs.Word.{bit, number, sign, taken, signed, word_value}
use Rattle.word_blaster.proofs.Bits.{double_pow}
use Rattle.word_blaster.proofs.Signs.{signed-is, sign-push}
use Rattle.word_blaster.proofs.Words.{number-values-lt, number-values-more, values-length, values-more}

-- the number of the first i bits, the place of the next one, and the last bit
abbrev pub AreRead : List Lit → List Bool → ℕ → ℕ → ℕ → Bool → Type 0
AreRead w a i sum place negative =
    (sum ≡ number (values (take i w) a)) × (place ≡ 2 ^ i) × (negative ≡ sign (values (take i w) a))

pub none-read : (w : List Lit) (a : List Bool) → AreRead w a 0 0 1 false
unfolding number
none-read w a = (refl, refl, refl)

pub added : (sum place new : ℕ) (b : Bool) → b ≡ true → new ≡ sum + place → new ≡ sum + bit b * place
added sum place new b t e = rw t (omega arith)

pub left-out : (sum place new : ℕ) (b : Bool) → b ≡ false → new ≡ sum → new ≡ sum + bit b * place
left-out sum place new b t e = rw t (omega arith)

pub more-read : (w : List Lit) (a : List Bool) (i sum place new : ℕ) (negative b : Bool) (d : Lit) → i < length w → AreRead w a i sum place negative →
    b ≡ lit_value (get_or w i d) a → new ≡ sum + bit b * place → AreRead w a (i + 1) new (place * 2) b
more-read w a i sum place new negative b d lt h e q = (
  q ∙ ap₂ (λ (x y : ℕ). x + y) h.0 (ap₂ (λ (x : Bool) (y : ℕ). bit x * y) e h.1) ∙ sym (number-values-more w d a i lt),
  ap (λ (n : ℕ). n * 2) h.1 ∙ (let p = double_pow i in omega arith),
  e ∙ sym (ap sign (values-more w d a i lt) ∙ sign-push (values (take i w) a) (lit_value (get_or w i d) a)),
)

pub few-bits : (i : ℕ) → i ≤ 64 → 2 ^ i ≤ 18446744073709551616
few-bits i h = pow-le-pow_right {n = 2} (omega arith) {i = i} {j = 64} h

-- what is read stays small
pub small-read : (w : List Lit) (a : List Bool) (i sum place : ℕ) (negative : Bool) → i ≤ length w → length w ≤ 64 → AreRead w a i sum place negative →
    (sum < 18446744073709551616) × (place ≤ 18446744073709551616)
small-read w a i sum place negative le few h =
    let p = few-bits i (omega arith) in
    let q = number-values-lt w a i le in
    (rw h.0 (omega arith), rw h.1 p)

pub all-read : (w : List Lit) (a : List Bool) (i sum place : ℕ) (negative : Bool) → length w ≤ i → i ≤ length w → AreRead w a i sum place negative →
    word_value w a ≡ pos sum -ℤ pos (bit negative * place)
unfolding taken
all-read w a i sum place negative ge le h =
    let whole : values (take i w) a ≡ values w a = ap (λ (v : List Lit). values v a) (take_all i w ge) in
    let long : length (values w a) ≡ i = values-length w a ∙ (omega arith) in
    let first : number (values w a) ≡ sum = sym (h.0 ∙ ap number whole) in
    let second : taken (values w a) ≡ bit negative * place =
    ap₂ (λ (s : Bool) (n : ℕ). bit s * 2 ^ n) (sym (h.2 ∙ ap sign whole)) long ∙ ap (λ (n : ℕ). bit negative * n) (sym h.1) in
    signed-is (values w a) ∙ ap₂ (λ (x y : ℕ). pos x -ℤ pos y) first second

-- two's complement: below the sign's place, and from it on
pub negative-number : (w : List Lit) (a : List Bool) (i sum place : ℕ) (negative : Bool) → length w ≤ i → i ≤ length w → length w ≤ 64 →
    AreRead w a i sum place negative → negative ≡ true → to_z w128 (of_z w128 (to_z w128 sum -ℤ to_z w128 place)) ≡ word_value w a
negative-number w a i sum place negative ge le few h t =
    let small = small-read w a i sum place negative le few h in
    let x : to_z w128 sum ≡ pos sum = to_z_pos w128 sum (omega (arith, small.0)) in
    let y : to_z w128 place ≡ pos place = to_z_pos w128 place (omega (arith, small.1)) in
    let z : bit negative * place ≡ place = rw t (omega arith) in
    to_z-of_z w128 (to_z w128 sum -ℤ to_z w128 place) (rw (x, y) (omega (arith, ints, small)))
    ∙ ap₂ (λ (u v : ℤ). u -ℤ v) x (y ∙ ap (λ (n : ℕ). pos n) (sym z)) ∙ sym (all-read w a i sum place negative ge le h)

pub other-number : (w : List Lit) (a : List Bool) (i sum place : ℕ) (negative : Bool) → length w ≤ i → i ≤ length w → length w ≤ 64 →
    AreRead w a i sum place negative → negative ≡ false → to_z w128 sum ≡ word_value w a
other-number w a i sum place negative ge le few h t =
    let small = small-read w a i sum place negative le few h in
    let x : to_z w128 sum ≡ pos sum = to_z_pos w128 sum (omega (arith, small.0)) in
    let z : pos sum ≡ pos sum -ℤ pos (bit negative * place) = rw t (omega (arith, ints)) in
    x ∙ z ∙ sym (all-read w a i sum place negative ge le h)
