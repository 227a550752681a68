-- Numbers that fit a width of 4 fit each wider one.
use Rattle.std.proofs.Common.{◌≡◌, ℕ, ◌-◌, ◌<◌, ◌≤◌, ◌^◌, true, pos, negsuc, ℤ, arith, refl, ap, Some, None, if◌then◌else◌}
use Rattle.std.specs.Prelude.{nat_le}
use Rattle.std.proofs.lemmas.Bool.{lt-ltb, ltb-true, leb-true}
use Rattle.std.proofs.Math.Pow.{pow_mono}
use Rattle.tla_values.specs.Integers.{fits_width}
use Rattle.tla_values.specs.declared.value.Value.TheVariants as value
use Rattle.tla_meaning.specs.declared.place.Place.{Place}
use Rattle.tla_meaning.specs.declared.outcome.Outcome.TheVariants.{Val, Big}
use Rattle.tla_meaning.specs.Numbers.{Width, in_width, number}
use Rattle.kernel_reduction.specs.Reduction.{is_wide}

half_of : (n : ℕ) → nat_le 4 n ≡ true → 8 ≤ 2 ^ (n - 1)
half_of n h = let k : 4 ≤ n = leb-true 4 n h in pow_mono {i = 3} {j = n - 1} (omega arith)

wider : (n m : ℕ) → nat_le 4 n ≡ true → m < 8 → m < 2 ^ (n - 1)
wider n m h l = let k : 8 ≤ 2 ^ (n - 1) = half_of n h in omega arith

pub fits_all : (w : Width) → is_wide w ≡ true → (i : ℤ) → fits_width 4 i ≡ true → in_width w i ≡ true
fits_all None h i f = refl
fits_all (Some n) h (pos m) f = lt-ltb m (2 ^ (n - 1)) (wider n m h (ltb-true m 8 f))
fits_all (Some n) h (negsuc m) f = lt-ltb m (2 ^ (n - 1)) (wider n m h (ltb-true m 8 f))

pub number_there : (w : Width) (p : Place) (i : ℤ) → in_width w i ≡ true → number w p i ≡ Val (value.Int i)
number_there w p i h = ap (λ b. if b then Val (value.Int i) else Big p) h
