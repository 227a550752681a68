-- The lengths of the sequences that the tests make.
use Rattle.std.proofs.Common.{◌≡◌, ℕ, zero, suc, ◌-◌, ◌^◌, ◌<◌, ◌≤◌, Bool, List, All, length, subst, arith}
use Rattle.sat_formula.specs.declared.lit.Lit.{Lit}
use Rattle.sat_formula.specs.Lit.{IsBelow}
use Rattle.word_blaster.specs.Word.{WordBelow, number, values}
use Rattle.word_blaster.proofs.Bits.{number_lt}
use Rattle.word_blaster.proofs.Words.{values-length}

few-values : (k : ℕ) → k ≤ 4 → 2 ^ k ≤ 16
few-values zero h = omega arith
few-values (suc zero) h = omega arith
few-values (suc (suc zero)) h = omega arith
few-values (suc (suc (suc zero))) h = omega arith
few-values (suc (suc (suc (suc zero)))) h = omega arith
few-values (suc (suc (suc (suc (suc k))))) h = absurd (omega arith)

within-bits : (bits : List Lit) (a : List Bool) → number (values bits a) < 2 ^ length bits
within-bits bits a = subst (λ i. number (values bits a) < 2 ^ i) (values-length bits a) (number_lt (values bits a))

-- four bits fit a word of 32
pub small-count : (bits : List Lit) (a : List Bool) → length bits ≤ 4 → number (values bits a) < 2 ^ 31
small-count bits a h = let m = within-bits bits a in let p = few-values (length bits) h in omega arith

-- a length is within its places
pub within-places : (bits : List Lit) (a : List Bool) (k n : ℕ) → k ≡ 2 ^ length bits → k - 1 ≤ n → number (values bits a) ≤ n
within-places bits a k n e le = let m = within-bits bits a in omega (arith, e, m)

pub word-below : (n : ℕ) (w : List Lit) → All (IsBelow n) w → WordBelow n w
unfolding WordBelow
word-below n w h = h
