-- What a fault says of a line.
use Rattle.std.specs.Prelude.{◌≡◌, ℕ, Result, MatchResult}
use Rattle.refutation_checker.specs.declared.faults.CertFault.{CertFault}
use Rattle.refutation_checker.specs.declared.faults.CertFault.TheVariants.{BadLine, Memory}

-- where the fault names a line, this holds of its number
abbrev pub AtLine : CertFault → (ℕ → Type 0) → Type 0
AtLine (BadLine n) P = P n
AtLine (Memory e) P = Unit {0}

-- this value, unless memory ran out
abbrev pub IsOkUnlessMemory : {T : Type 0} → Result T CertFault → T → Type 0
IsOkUnlessMemory r x = MatchResult r (λ y. y ≡ x) (λ e. AtLine e (λ n. ⊥))

-- this line, unless memory ran out
abbrev pub IsLineUnlessMemory : {T : Type 0} → Result T CertFault → ℕ → Type 0
IsLineUnlessMemory r n = MatchResult r (λ y. ⊥) (λ e. AtLine e (λ m. m ≡ n))
