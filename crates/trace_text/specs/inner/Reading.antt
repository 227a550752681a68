-- What the readers of values tell each other.
use Rattle.std.specs.Prelude.{◌≡◌, ℕ, ◌≤◌, Bool, true, not, IsTrue, ⊤, List, [], ◌∷◌, ◌++◌, length, Result, IfOk, MatchResult}
use Rattle.std.specs.Borrow.{Bor}
use Rattle.std.specs.List.{list_all}
use Rattle.tla_values.specs.Names.{is_name_byte}
use Rattle.tla_values.specs.Show.{integers_fit, is_digit}
use Rattle.tla_values.specs.declared.value.Value.{Value}
use Rattle.trace_text.specs.declared.bytes.Class.{Class}
use Rattle.trace_text.specs.declared.bytes.Class.TheVariants.{Digit, NameByte}
use Rattle.trace_text.specs.declared.faults.Unread.{Unread}
use Rattle.trace_text.specs.declared.faults.Unread.TheVariants.{NoValue, Memory}

-- the integers in the value are those that a value of the program can hold
abbrev pub Fits : Value → Type 0
Fits v = IsTrue (integers_fit 128 v)

-- the refusal says nothing of the bytes
abbrev pub IsWant : Unread → Type 0
IsWant NoValue = ⊥
IsWant (Memory e) = ⊤

-- this is read, and these bytes are left behind it; or memory is wanting
abbrev pub Gives : {X : Type 0} → Result (X × Bor (List ℕ)) Unread → X → List ℕ → Type 0
Gives result x rest = MatchResult result (λ p. (p.0 ≡ x) × (p.1.now ≡ rest)) IsWant

-- what is read has this property
abbrev pub OfRead : {X : Type 0} → Result (X × Bor (List ℕ)) Unread → (X → Type 0) → Type 0
OfRead result P = IfOk result (λ p. P p.0)

-- no more bytes are left than there were
abbrev pub IsNoLonger : {X : Type 0} → Result (X × Bor (List ℕ)) Unread → List ℕ → Type 0
IsNoLonger result bytes = IfOk result (λ p. length p.1.now ≤ length bytes)

abbrev pub is_in : Class → ℕ → Bool
is_in Digit = is_digit
is_in NameByte = is_name_byte

-- the first byte, if there is one, does not pass the test
abbrev pub Stops : (ℕ → Bool) → List ℕ → Type 0
Stops test [] = ⊤
Stops test (b ∷ bs) = IsTrue (not (test b))

-- the bytes are a run that passes the test, and what stands behind it
pub record IsRun (test : ℕ → Bool) (bytes front rest : List ℕ) : Type 0 where
  pub is : bytes ≡ front ++ rest
  pub passes : list_all test front ≡ true
  pub stops : Stops test rest
