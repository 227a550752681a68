-- What two truth values and a value say of an outcome. Source: Konnov, Kukovec and Tran, "TLA+ Model Checking Made
-- Symbolic", OOPSLA 2019, section 5, for expressions as cells; Specifying Systems, section 16.1, for what has no value.
use Rattle.std.specs.Prelude.{◌≡◌, Bool, true, false}
use Rattle.tla_values.specs.declared.value.Value.{Value}
use Rattle.tla_meaning.specs.declared.outcome.Fault.{Fault}
use Rattle.tla_meaning.specs.declared.outcome.Fault.TheVariants.{NoFault, IsWrong, IsBig}
use Rattle.tla_meaning.specs.declared.outcome.Outcome.{Outcome}
use Rattle.tla_meaning.specs.declared.outcome.Outcome.TheVariants.{Val, Wrong, Big}

abbrev pub is_wrong : Outcome → Bool
is_wrong (Val v) = false
is_wrong (Wrong p) = true
is_wrong (Big p) = false

abbrev pub is_big : Outcome → Bool
is_big (Val v) = false
is_big (Wrong p) = false
is_big (Big p) = true

abbrev pub wrong_fault : Fault → Bool
wrong_fault NoFault = false
wrong_fault (IsWrong p) = true
wrong_fault (IsBig p) = false

abbrev pub big_fault : Fault → Bool
big_fault NoFault = false
big_fault (IsWrong p) = false
big_fault (IsBig p) = true

-- the first is whether it is Wrong, the second whether it is Big; else it is the value
pub record Shown (w b : Bool) (v : Value) (o : Outcome) : Type 0 where
  pub wrong : w ≡ is_wrong o
  pub big : b ≡ is_big o
  pub value : (x : Value) → o ≡ Val x → v ≡ x

-- the same of a fault
pub record ShownFault (w b : Bool) (f : Fault) : Type 0 where
  pub wrong : w ≡ wrong_fault f
  pub big : b ≡ big_fault f
