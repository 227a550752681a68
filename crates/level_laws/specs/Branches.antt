-- What the literals and cells of a path say, or those of several paths that were merged, or those of the start.
-- Source: Konnov, Kukovec and Tran, "TLA+ Model Checking Made Symbolic", OOPSLA 2019, on symbolic transitions.
use Rattle.std.specs.Prelude.{◌≡◌, ◌⊎◌, Bool, true, if◌then◌else◌}
use Rattle.level_laws.specs.Constraints.{Assignment, Constraint, Extended, Grown, HasValue, Reads}

-- how a path ends: it holds, or it meets what has no value, or an integer outside the width
pub data Ending : Type 0 where
  Held MetWrong MetBig : Ending

-- from e, with t as the next state, there is such an end
abbrev pub Transition : Type 0 → Type 0 → Type 1
Transition E S = Ending → E → S → Type 0

-- the literal of each ending and the next state, as an assignment gives them
pub record BranchReading (S : Type 0) : Type 0 where
  pub ends : Ending → Assignment → Bool
  pub next : Assignment → S

-- Where a literal is true, the path ends so between the two states that are read; each t to which it holds is the
-- next state that some extension reads, with the literal true; and each t with which it ends so makes the literal
-- true under some extension, whatever next state that one reads.
pub record Branch {E S : Type 0} (old new : Constraint) (now : Assignment → E) (P : Transition E S)
    (x : BranchReading S) : Type 0 where
  pub grown : Grown old new
  pub ends_read : (k : Ending) → Reads new.vars (x.ends k)
  pub next_reads : Reads new.vars x.next
  pub sound : (k : Ending) (a : Assignment) → new.Sat a → x.ends k a ≡ true → P k (now a) (x.next a)
  pub reach : (a : Assignment) (t : S) → old.Sat a → P Held (now a) t →
      Extended old new a (λ b. (x.ends Held b ≡ true) × (x.next b ≡ t))
  pub find : (k : Ending) (a : Assignment) (t : S) → old.Sat a → P k (now a) t →
      Extended old new a (λ b. x.ends k b ≡ true)

-- ---- several paths

-- no path
abbrev pub never : (E S : Type 0) → Transition E S
never E S k e t = ⊥

-- one of the two
abbrev pub either : {E S : Type 0} → Transition E S → Transition E S → Transition E S
either P Q k e t = P k e t ⊎ Q k e t

-- what is read of the one or of the other, as the bit says
pub record IsMerged {S : Type 0} (f : Constraint) (free : Assignment → Bool) (x y r : BranchReading S) : Type 0 where
  pub ends : (k : Ending) → HasValue f (r.ends k) (λ a. if free a then x.ends k a else y.ends k a)
  pub next : HasValue f r.next (λ a. if free a then x.next a else y.next a)
