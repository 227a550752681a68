-- What a check of a whole certificate answers.
use Rattle.std.specs.Prelude.{◌≡◌, ℕ, ◌+◌, ◌<◌, false, not, List, length, All, count_by}
use Rattle.std.specs.List.{HoldsAt}
use Rattle.refutation_checker.specs.declared.section.Section.{Section}
use Rattle.refutation_checker.specs.declared.answers.Recheck.{Recheck}
use Rattle.refutation_checker.specs.declared.answers.Recheck.TheVariants.{Accepted, BadLine, BadStep}
use Rattle.refutation_checker.specs.Follows.{EachFollows, FailsAt, IsUnsatisfiable}
use Rattle.refutation_checker.specs.Certificate.{IsCertificate, IsFirstBadLine}

-- each step of the section's log follows
abbrev pub StepsFollow : Section → Type 0
StepsFollow s = EachFollows s.formula.clauses s.log

-- the first step that does not follow has this number in its section's log
abbrev pub FailsWith : ℕ → Section → Type 0
FailsWith id s = FailsAt s.formula.clauses s.log id

-- in the section with this number, counted from 1, stands the first step of all that does not follow
abbrev pub FailsFirst : List Section → ℕ → ℕ → Type 0
FailsFirst sections number id =
    (k : ℕ) × ((k < length sections) × ((number ≡ k + 1) × (((j : ℕ) → j < k → HoldsAt StepsFollow sections j) × HoldsAt (FailsWith id) sections k)))

-- each step follows, and so many sections are refuted and open
abbrev pub FollowWith : List Section → ℕ → ℕ → Type 0
FollowWith sections refuted left =
    All StepsFollow sections × ((refuted ≡ count_by (λ s. not s.is_open) sections) × (left ≡ count_by (λ s. s.is_open) sections))

-- what is answered of sections that were read
abbrev pub IsVerdict : List Section → Recheck → Type 0
IsVerdict sections (Accepted refuted left) = FollowWith sections refuted left
IsVerdict sections (BadStep number id) = FailsFirst sections number id
IsVerdict sections (BadLine n) = ⊥

-- what is answered of bytes
abbrev pub IsRechecked : List ℕ → Recheck → Type 0
IsRechecked bytes (Accepted refuted left) = (sections : List Section) × (IsCertificate bytes sections × FollowWith sections refuted left)
IsRechecked bytes (BadStep number id) = (sections : List Section) × (IsCertificate bytes sections × FailsFirst sections number id)
IsRechecked bytes (BadLine n) = IsFirstBadLine bytes n

-- no assignment satisfies the formula of a section of this certificate that is not open
abbrev pub RefutesClosed : List ℕ → Type 0
RefutesClosed bytes = (sections : List Section) → IsCertificate bytes sections → All (λ s. s.is_open ≡ false → IsUnsatisfiable s.formula.clauses) sections

abbrev pub WhereAccepted : Recheck → Type 0 → Type 0
WhereAccepted (Accepted refuted left) P = P
WhereAccepted (BadStep number id) P = Unit {0}
WhereAccepted (BadLine n) P = Unit {0}
