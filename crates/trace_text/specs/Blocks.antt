-- Which bytes are the block of a state, and which line is the first that is none of a block.
use Rattle.std.specs.Prelude.{◌≡◌, ℕ, ◌+◌, ◌≤◌, IsTrue, ⊤, List, ◌++◌, All, length, take}
use Rattle.tla_values.specs.Sets.{Normal}
use Rattle.tla_values.specs.Show.{integers_fit}
use Rattle.tla_values.specs.declared.value.Value.{Value}
use Rattle.tla_meaning.specs.declared.expr.Decl.{Decl}
use Rattle.tla_meaning.specs.declared.job.State.{State}
use Rattle.trace_text.specs.Reports.{block_text}
use Rattle.trace_text.specs.declared.faults.StateTextFault.{StateTextFault}
use Rattle.trace_text.specs.declared.faults.StateTextFault.TheVariants.{BadLine, Memory}

-- a normal value whose integers a value of the program can hold: they have 128 bits
pub record IsValue (v : Value) : Type 0 where
  pub normal : Normal v
  pub fits : IsTrue (integers_fit 128 v)

-- the state has such a value for each name
pub record IsStateOf (names : List Decl) (s : State) : Type 0 where
  pub one_each : length s.vals ≡ length names
  pub values : All IsValue s.vals

-- the bytes are the state's block
pub record IsBlock (names : List Decl) (bytes : List ℕ) (s : State) : Type 0 where
  pub state : IsStateOf names s
  pub is : bytes ≡ block_text names s

-- the bytes begin with the state's block, and this is left
pub record BeginsWith (names : List Decl) (bytes : List ℕ) (s : State) (rest : List ℕ) : Type 0 where
  pub state : IsStateOf names s
  pub is : bytes ≡ block_text names s ++ rest

-- the first n lines are those of the first n names with some values
pub record HasLines (names : List Decl) (bytes : List ℕ) (n : ℕ) : Type 0 where
  pub within : n ≤ length names
  pub values : State
  pub rest : List ℕ
  pub begins : BeginsWith (take n names) bytes values rest

-- Line n, counted from 1, is the first that is not the next name with a value's text: the lines before it are the
-- first names with values, with line n they are not, and the bytes are not the block of all names with nothing behind
-- it. So a line that is wanting or has no line feed is bad, and so is one behind the last name's.
pub record IsBadLine (names : List Decl) (bytes : List ℕ) (n : ℕ) : Type 0 where
  pub before : ℕ
  pub counted : n ≡ before + 1
  pub good : HasLines names bytes before
  pub bad : HasLines names bytes n → ⊥
  pub no_block : (s : State) → IsBlock names bytes s → ⊥

-- want of memory says nothing of the bytes; it is also the answer to a value with more than 1,000 brackets open at one
-- place, for which the stack would not do
abbrev pub IsFaultOf : List Decl → List ℕ → StateTextFault → Type 0
IsFaultOf names bytes (BadLine n) = IsBadLine names bytes n
IsFaultOf names bytes (Memory e) = ⊤
