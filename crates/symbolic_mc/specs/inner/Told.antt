-- How an answer comes about and how it is told: what is written of it, and the status.
use Rattle.std.specs.Prelude.{◌≡◌, ◌⊎◌, ◌≤◌, ℕ, List, Option, Some}
use Rattle.std.specs.Str.{IsUtf8}
use Rattle.std.specs.Io.KnownBytes.{Appends}
use Rattle.tool_outside.specs.Causes.{WritesPrefix}
use Rattle.tool_outside.specs.Outside.{Folder, Rose}
use Rattle.tool_outside.specs.declared.files.FileFail.{FileFail}
use Rattle.tool_outside.specs.declared.files.FileFail.TheVariants as fail
use Rattle.tla_meaning.specs.declared.job.Job.{Job}
use Rattle.symbolic_mc.specs.declared.answer.Answer.{Answer}
use Rattle.symbolic_mc.specs.declared.answer.Answer.TheVariants.{Checked, ReadFault, TooLong, WriteFault}
use Rattle.symbolic_mc.specs.Report.{status_of, report_of, memory_line}
use Rattle.symbolic_mc.specs.declared.top.Kept.{Kept}
use Rattle.symbolic_mc.specs.declared.top.Kept.TheVariants.{Saved, Unsaved}
use Rattle.symbolic_mc.specs.Words.{Command}

-- the command to check a file
abbrev pub requests : List ℕ → ℕ → Option ℕ → Option (List ℕ) → Command
requests file longest budget again = (Some (file, longest, budget), again)

-- the name of a file, and no more steps than may be asked
pub record IsAskable (file : List ℕ) (longest : ℕ) : Type 0 where
  pub text : IsUtf8 file
  pub short : longest ≤ 1000

-- the answer to what became of a check, where this is the job
abbrev pub answer_of : Kept → Job → Answer
answer_of (Saved verdict) job = Checked job.names job.files verdict
answer_of (Unsaved name) job = WriteFault name

-- the answer to a read that failed
abbrev pub IsReadFault : List ℕ → FileFail → Answer → Type 0
IsReadFault file fail.Failed answer = answer ≡ ReadFault file
IsReadFault file fail.TooLong answer = answer ≡ TooLong file
IsReadFault file (fail.Memory e) answer = ⊥

-- the count of the files' faults stayed, unless the answer is of a fault of theirs
abbrev pub IsCalm : ℕ → ℕ → Answer → Type 0
IsCalm before now answer = (now ≡ before) ⊎ (status_of answer ≡ 40) ⊎ (status_of answer ≡ 41)

-- the whole report with the answer's status; or a prefix where a write failed or memory ran out
abbrev pub IsTold : Answer → Option (List ℕ) → Option (List ℕ) → ℕ → ℕ → ℕ → Type 0
IsTold answer old new before now status =
    ((status ≡ status_of answer) × Appends old new (report_of answer) × (now ≡ before))
    ⊎ ((status ≡ 41) × Rose before now × WritesPrefix old new (report_of answer))
    ⊎ ((status ≡ 50) × (WritesPrefix old new (report_of answer) ⊎ WritesPrefix old new memory_line))
