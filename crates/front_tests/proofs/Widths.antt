-- Small integers are integers of every width.
use Rattle.std.proofs.Common.{◌≡◌, ◌≤◌, ◌<◌, ◌-◌, ◌^◌, ℕ, true, arith, lt-ltb, ltb-true, subst}
use Rattle.std.proofs.lemmas.Bool.{leb-true}
use Rattle.std.specs.Int.Signed.{le_z, lt_z}
use Rattle.std.specs.Prelude.{ℤ, pos, negsuc}
use Rattle.std.proofs.Math.Pow.{pow_mono}
use Rattle.tla_values.specs.Integers.{fits_width}

far : (w : ℕ) → 4 ≤ w → 8 ≤ 2 ^ (w - 1)
far w le = pow_mono {i = 3} {j = w - 1} (omega (arith, le))

fits_above : (w n : ℕ) → 4 ≤ w → n < 8 → fits_width w (pos n) ≡ true
fits_above w n le lt = let f : 8 ≤ 2 ^ (w - 1) = far w le in lt-ltb n (2 ^ (w - 1)) (omega (arith, f, lt))

fits_below : (w n : ℕ) → 4 ≤ w → n < 8 → fits_width w (negsuc n) ≡ true
fits_below w n le lt = let f : 8 ≤ 2 ^ (w - 1) = far w le in lt-ltb n (2 ^ (w - 1)) (omega (arith, f, lt))

few_below : (n : ℕ) → le_z (negsuc 7) (negsuc n) ≡ true → n < 8
few_below n h = let l : n ≤ 7 = leb-true n 7 h in omega (arith, l)

few_above : (n : ℕ) → lt_z (pos n) (pos 8) ≡ true → n < 8
few_above n h = ltb-true n 8 h

of_small : (w : ℕ) (z : ℤ) → lt_z z (pos 8) ≡ true → le_z (negsuc 7) z ≡ true → 4 ≤ w → fits_width w z ≡ true
of_small w (pos k) lt ge le = fits_above w k le (few_above k lt)
of_small w (negsuc k) lt ge le = fits_below w k le (few_below k ge)

pub small_fits : (w : ℕ) (n m : ℤ) → m ≡ n → lt_z m (pos 8) ≡ true → le_z (negsuc 7) m ≡ true → 4 ≤ w → fits_width w n ≡ true
small_fits w n m e lt ge le = subst (λ (z : ℤ). fits_width w z ≡ true) e (of_small w m lt ge le)
