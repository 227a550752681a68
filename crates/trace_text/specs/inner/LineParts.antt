-- What the readers of lines tell each other.
use Rattle.std.specs.Prelude.{◌≡◌, ℕ, ⊤, List, ◌++◌, codes}
use Rattle.tla_values.specs.declared.value.Value.{Value}
use Rattle.tla_meaning.specs.declared.expr.Decl.{Decl}
use Rattle.trace_text.specs.Blocks.{BeginsWith, IsValue}
use Rattle.trace_text.specs.Reports.{value_line}
use Rattle.trace_text.specs.declared.faults.Unread.{Unread}
use Rattle.trace_text.specs.declared.faults.Unread.TheVariants.{NoValue, Memory}

-- what stands before the value
abbrev pub line_front : List ℕ → List ℕ
line_front name = codes "/\\ " ++ name ++ codes " = "

-- the line of this name with the value stands in front
pub record IsLine (name bytes : List ℕ) (v : Value) (rest : List ℕ) : Type 0 where
  pub value : IsValue v
  pub is : bytes ≡ value_line (name, v) ++ rest

-- no such line does, or memory is wanting
abbrev pub HasNoLine : List ℕ → List ℕ → Unread → Type 0
HasNoLine name bytes NoValue = (v : Value) (rest : List ℕ) → IsLine name bytes v rest → ⊥
HasNoLine name bytes (Memory e) = ⊤

-- each name's line with its value stands in front, and this is left
abbrev pub AreLines : List Decl → List ℕ → List Value → List ℕ → Type 0
AreLines names bytes values rest = BeginsWith names bytes (record { vals = values }) rest
