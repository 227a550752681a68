-- What is printed of a verdict: one equation for each kind.
use Rattle.std.specs.Prelude.{ℕ, ◌+◌, List, [], ◌∷◌, ◌++◌, map, zip, flat_map, Option, Some, None, slice_get, unwrap_or, codes}
use Rattle.std.specs.Fmt.{decimal}
use Rattle.tla_values.specs.FileNames.{module_name}
use Rattle.tla_values.specs.Show.{text_of}
use Rattle.tla_values.specs.declared.value.Value.{Value}
use Rattle.tla_meaning.specs.declared.expr.Decl.{Decl}
use Rattle.tla_meaning.specs.declared.job.State.{State}
use Rattle.tla_meaning.specs.declared.place.Place.{Place}
use Rattle.trace_text.specs.declared.verdict.Fault.{Fault}
use Rattle.trace_text.specs.declared.verdict.Fault.TheVariants.{InvFalse, InvWrong, StartWrong, StepWrong}
use Rattle.trace_text.specs.declared.verdict.Part.{Part}
use Rattle.trace_text.specs.declared.verdict.Part.TheVariants.{Start, Assumption, Step, Inv}
use Rattle.trace_text.specs.declared.verdict.Trace.{Trace}
use Rattle.trace_text.specs.declared.verdict.Verdict.{Verdict}
use Rattle.trace_text.specs.declared.verdict.Verdict.TheVariants.{Clean, Inductive, Error, Overflow, Spent, NotInductive}
use Rattle.trace_text.specs.declared.verdict.Where.{Where}
use Rattle.trace_text.specs.declared.verdict.Where.TheVariants.{Level, Typed}

-- ---- places

abbrev pub file_name : List (List ℕ) → ℕ → List ℕ
file_name files n = unwrap_or (slice_get files n) []

-- `Module:line:column`
unfoldable pub place_text : List (List ℕ) → Place → List ℕ
place_text files p =
    module_name (file_name files p.file) ++ codes ":" ++ decimal p.line ++ codes ":" ++ decimal p.col

-- ---- states

-- a name with its value
unfoldable pub value_line : List ℕ × Value → List ℕ
value_line b = codes "/\\ " ++ b.0 ++ codes " = " ++ text_of b.1 ++ codes "\n"

abbrev pub names_of : List Decl → List (List ℕ)
names_of ds = map (λ d. d.name) ds

-- a state's block: a line for each name
abbrev pub block_text : List Decl → State → List ℕ
block_text ds s = flat_map value_line (zip (names_of ds) s.vals)

-- the states, numbered from i
abbrev pub states_text : List Decl → ℕ → List State → List ℕ
states_text ds i [] = []
states_text ds i (s ∷ ss) = codes "state " ++ decimal i ++ codes "\n" ++ block_text ds s ++ states_text ds (i + 1) ss

abbrev pub attempt_text : List Decl → Option State → List ℕ
attempt_text ds None = []
attempt_text ds (Some s) = codes "attempt\n" ++ block_text ds s

abbrev pub trace_text : List Decl → Trace → List ℕ
trace_text ds t = states_text ds 0 t.states ++ attempt_text ds t.attempt

-- ---- first lines

abbrev pub fault_text : List (List ℕ) → Fault → List ℕ
fault_text files (InvFalse name) = codes "invariant " ++ name ++ codes " is FALSE"
fault_text files (InvWrong name p) = codes "invariant " ++ name ++ codes " is outside an operator's domain at " ++ place_text files p
fault_text files (StartWrong p) = codes "start is outside an operator's domain at " ++ place_text files p
fault_text files (StepWrong p) = codes "step is outside an operator's domain at " ++ place_text files p

abbrev pub part_text : Part → List ℕ
part_text Start = codes "start"
part_text Assumption = codes "assumption"
part_text Step = codes "step"
part_text (Inv name) = codes "invariant " ++ name

abbrev pub where_text : Where → List ℕ
where_text (Level n) = codes "at level " ++ decimal n
where_text Typed = codes "from a typed state"

-- ---- the report

abbrev pub report_of : Verdict → List Decl → List (List ℕ) → List ℕ
report_of (Clean n) ds files = codes "no error to " ++ decimal n ++ codes "\n"
report_of Inductive ds files = codes "inductive\n"
report_of (Error n fault t) ds files =
    codes "error at level " ++ decimal n ++ codes ": " ++ fault_text files fault ++ codes "\n" ++ trace_text ds t
report_of (Overflow w part p t) ds files =
    codes "unknown: integer out of range " ++ where_text w ++ codes ": " ++ part_text part ++ codes " at "
    ++ place_text files p ++ codes "\n" ++ trace_text ds t
report_of (Spent n w) ds files =
    codes "unknown: conflict budget " ++ decimal n ++ codes " spent " ++ where_text w ++ codes "\n"
report_of (NotInductive fault t) ds files = codes "not inductive: " ++ fault_text files fault ++ codes "\n" ++ trace_text ds t
