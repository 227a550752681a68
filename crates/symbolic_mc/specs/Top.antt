-- What the top call answers.
use Rattle.std.specs.Prelude.{◌≡◌, ◌⊎◌, ℕ, ◌+◌, ◌≤◌, false, List, [], ◌∷◌, codes, length, Option, None, Some}
use Rattle.std.specs.Io.KnownBytes.{Appends}
use Rattle.refutation_checker.specs.declared.answers.Recheck.{Recheck}
use Rattle.refutation_checker.specs.declared.answers.Recheck.TheVariants.{Accepted}
use Rattle.refutation_checker.specs.declared.section.Section.{Section}
use Rattle.refutation_checker.specs.Certificate.{certificate_text}
use Rattle.refutation_checker.specs.Rechecking.{IsRechecked, RefutesClosed, WhereAccepted}
use Rattle.bounded_engine.specs.Answers.{IsChecked}
use Rattle.tla_meaning.specs.declared.job.Job.{Job}
use Rattle.tla_meaning.specs.declared.place.Place.{Place}
use Rattle.tla_meaning.specs.declared.questions.Query.{Query}
use Rattle.tla_meaning.specs.declared.questions.Query.TheVariants.{StepWrong, StepBig, InvNotTrue, InvBig, AssumeBig}
use Rattle.tla_meaning.specs.Questions.{IsFirst, NoneBelow}
use Rattle.tla_meaning.specs.Numbers.{Width}
use Rattle.tool_outside.specs.Causes.{Holds, IsLong, HandedOut, IsCut, WritesPrefix}
use Rattle.tool_outside.specs.Outside.{Folder, Changes, Rose, file_at}
use Rattle.front_end.specs.Accepted.{IsAcceptedFor}
use Rattle.front_end.specs.Refused.{IsRefusal, is_want}
use Rattle.front_end.specs.declared.fault.Refusal.{Refusal}
use Rattle.front_end.specs.declared.request.Accepted.{Accepted as Module}
use Rattle.front_end.specs.declared.request.Request.{Request}
use Rattle.trace_text.specs.Reports as reports
use Rattle.trace_text.specs.declared.verdict.Fault.{Fault}
use Rattle.trace_text.specs.declared.verdict.Part.{Part}
use Rattle.trace_text.specs.declared.verdict.Trace.{Trace}
use Rattle.trace_text.specs.declared.verdict.Verdict.{Verdict}
use Rattle.trace_text.specs.declared.verdict.Verdict.TheVariants.{Clean, Error, Overflow, Spent}
use Rattle.trace_text.specs.declared.verdict.Where.TheVariants.{Level}
use Rattle.symbolic_mc.specs.declared.answer.Answer.{Answer}
use Rattle.symbolic_mc.specs.declared.answer.Answer.TheVariants.{Usage, ReadFault, TooLong, Refused, WriteFault, Checked, NoCertificate, Rechecked}
use Rattle.symbolic_mc.specs.Naming.{certificate_name}
use Rattle.symbolic_mc.specs.Report.{recheck_report, report_of, status_of}
use Rattle.symbolic_mc.specs.Words.{Command}

-- the most bytes that a certificate may have: 256 MiB
abbrev pub certificate_limit : ℕ
certificate_limit = 268435456

-- ---- a module that was checked

-- what a check asks of a file: the operators Init, Next and Inv of its module, so many steps, and integers of 32 bits
abbrev pub asked_of : List ℕ → ℕ → Request
asked_of file longest = record {
  root = file;
  init = codes "Init";
  next = codes "Next";
  invs = codes "Inv" ∷ [];
  cinit = None;
  length = longest;
  width = 32;
  bounds = None;
}

-- the bits of an integer
abbrev pub width : Width
width = Some 32

-- the command names a file whose modules are accepted, and these are the verdict on their job and its certificate
pub record Checks (c : Command) (held : Option Folder) (verdict : Verdict) (sections : List Section) : Type 0 where
  pub file : List ℕ
  pub longest : ℕ
  pub budget : Option ℕ
  pub asked : c.0 ≡ Some (file, longest, budget)
  pub of : Module
  pub accepted : IsAcceptedFor held (asked_of file longest) of
  pub checked : IsChecked width of.job of.typed.names longest budget verdict sections

-- the certificate's file holds its text, and every other file is as before
abbrev pub Saves : List ℕ → List Section → Option Folder → Option Folder → Type 0
Saves file sections old new = Changes old new (certificate_name file) (λ before now. now ≡ Some (certificate_text sections))

-- it is as before, or holds a prefix of that text
abbrev pub SavesPart : List ℕ → List Section → Option Folder → Option Folder → Type 0
SavesPart file sections old new = Changes old new (certificate_name file) (IsCut (certificate_text sections))

-- ---- every answer

-- why an answer is given, by what the files held before and hold now, and by their counts of faults
pub data IsAnswer (c : Command) (old new : Option Folder) (before now : ℕ) : Answer → Type 0 where
  -- there is no command
  NoCommand : c.0 ≡ None → c.1 ≡ None → new ≡ old → IsAnswer c old new before now Usage
  -- the modules of the file are refused
  NotAccepted : (file : List ℕ) (longest : ℕ) (budget : Option ℕ) (r : Refusal) → c.0 ≡ Some (file, longest, budget)
      → IsRefusal old before now (asked_of file longest) r.files r.names r.fault → is_want r.fault ≡ false → new ≡ old
      → IsAnswer c old new before now (Refused r)
  -- the count rose while the certificate was written
  WriteFailed : (verdict : Verdict) (sections : List Section) (k : Checks c old verdict sections) → Rose before now
      → SavesPart k.file sections old new → IsAnswer c old new before now (WriteFault (certificate_name k.file))
  -- the verdict on the module, whose certificate was written
  Found : (verdict : Verdict) (sections : List Section) (k : Checks c old verdict sections)
      → Saves k.file sections old new → IsAnswer c old new before now (Checked k.of.job.names k.of.job.files verdict)
  -- the count rose in the read of the certificate
  ReadFailed : (cert : List ℕ) → c.1 ≡ Some cert → Rose before now → new ≡ old → IsAnswer c old new before now (ReadFault cert)
  -- the certificate is longer than it may be
  IsTooLong : (cert : List ℕ) → c.1 ≡ Some cert → IsLong old cert certificate_limit → new ≡ old
      → IsAnswer c old new before now (TooLong cert)
  -- the files hold no such certificate
  NoFile : (cert : List ℕ) → c.1 ≡ Some cert → Holds old cert None → new ≡ old
      → IsAnswer c old new before now NoCertificate
  -- what the checker answers to the certificate's bytes
  Reread : (cert bytes : List ℕ) (answer : Recheck) → c.1 ≡ Some cert
      → HandedOut old cert certificate_limit bytes → IsRechecked bytes answer → WhereAccepted answer (RefutesClosed bytes) → new ≡ old
      → IsAnswer c old new before now (Rechecked answer)

-- an answer with this status and its cause, whose report was written
pub record Tells (c : Command) (old new : Option Folder) (before now : ℕ) (was is : Option (List ℕ)) (status : ℕ) : Type 0 where
  pub answer : Answer
  pub cause : IsAnswer c old new before now answer
  pub status_is : status ≡ status_of answer
  pub written : Appends was is (report_of answer)

-- of whose report a prefix was written
pub record TellsPart (c : Command) (old new : Option Folder) (before now : ℕ) (was is : Option (List ℕ)) : Type 0 where
  pub answer : Answer
  pub cause : IsAnswer c old new before now answer
  pub written : WritesPrefix was is (report_of answer)

-- ---- the verdicts of a check

-- an error of the module that the command names: its report, by the job of its modules, and its certificate
pub record WritesError (c : Command) (old new : Option Folder) (was is : Option (List ℕ)) : Type 0 where
  pub level : ℕ
  pub fault : Fault
  pub trace : Trace
  pub sections : List Section
  pub checks : Checks c old (Error level fault trace) sections
  pub saved : Saves checks.file sections old new
  pub written : Appends was is (reports.report_of (Error level fault trace) checks.of.job.names checks.of.job.files)

-- no error of it up to a level
pub record WritesClean (c : Command) (old new : Option Folder) (was is : Option (List ℕ)) : Type 0 where
  pub level : ℕ
  pub sections : List Section
  pub checks : Checks c old (Clean level) sections
  pub saved : Saves checks.file sections old new
  pub written : Appends was is (reports.report_of (Clean level) checks.of.job.names checks.of.job.files)

-- an integer outside the width: no lower level errs, and what the report shows computes one
pub record WritesOverflow (c : Command) (old new : Option Folder) (was is : Option (List ℕ)) : Type 0 where
  pub level : ℕ
  pub part : Part
  pub place : Place
  pub trace : Trace
  pub sections : List Section
  pub checks : Checks c old (Overflow (Level level) part place trace) sections
  pub saved : Saves checks.file sections old new
  pub written : Appends was is (reports.report_of (Overflow (Level level) part place trace) checks.of.job.names checks.of.job.files)

-- the conflicts of the command were spent at a level
pub record WritesSpent (c : Command) (old new : Option Folder) (was is : Option (List ℕ)) : Type 0 where
  pub conflicts : ℕ
  pub level : ℕ
  pub sections : List Section
  pub checks : Checks c old (Spent conflicts (Level level)) sections
  pub saved : Saves checks.file sections old new
  pub written : Appends was is (reports.report_of (Spent conflicts (Level level)) checks.of.job.names checks.of.job.files)

-- a certificate that was accepted: no assignment satisfies the formula of a section that is not open
pub record WritesAccepted (c : Command) (old new : Option Folder) (was is : Option (List ℕ)) : Type 0 where
  pub cert : List ℕ
  pub asked : c.1 ≡ Some cert
  pub bytes : List ℕ
  pub handed : HandedOut old cert certificate_limit bytes
  pub refuted : ℕ
  pub left : ℕ
  pub rechecked : IsRechecked bytes (Accepted refuted left)
  pub unsatisfiable : RefutesClosed bytes
  pub files_stay : new ≡ old
  pub written : Appends was is (recheck_report (Accepted refuted left))

-- ---- files

-- no file changed; or the certificate of the module that the command names, which is as before or a prefix of one
abbrev pub Touches : Command → Option Folder → Option Folder → Type 0
Touches c old new =
    (new ≡ old) ⊎ ((verdict : Verdict) × (sections : List Section) × (k : Checks c old verdict sections) × SavesPart k.file sections old new)

-- ---- when which status comes

-- the command names a file whose modules, as the files are told, are accepted
pub record AsksForModule (c : Command) (held : Option Folder) : Type 0 where
  pub folder : Folder
  pub told : held ≡ Some folder
  pub file : List ℕ
  pub longest : ℕ
  pub budget : Option ℕ
  pub asked : c.0 ≡ Some (file, longest, budget)
  pub of : Module
  pub accepted : IsAcceptedFor held (asked_of file longest) of

-- the command asks for a certificate which the files, as they are told, do not hold too long
pub record AsksToRecheck (c : Command) (held : Option Folder) : Type 0 where
  pub folder : Folder
  pub told : held ≡ Some folder
  pub cert : List ℕ
  pub asked : c.1 ≡ Some cert
  pub short : (bytes : List ℕ) → file_at folder cert ≡ Some bytes → length bytes ≤ certificate_limit

-- the status of a question that holds
abbrev pub query_status : Query → ℕ
query_status StepWrong = 12
query_status StepBig = 20
query_status InvNotTrue = 12
query_status InvBig = 20
query_status AssumeBig = 20

-- the status is that of the first question that holds at a level up to the longest, over the levels in order and over the
-- questions of a level in theirs
pub record IsOfFirst (job : Job) (longest status : ℕ) : Type 0 where
  pub level : ℕ
  pub query : Query
  pub within : level ≤ longest
  pub first : IsFirst width job level query
  pub status_is : status ≡ query_status query

-- it is 0 where no question holds at these levels, and else that of the first; or a budget was given, and is spent
abbrev pub IsComplete : Job → ℕ → Option ℕ → ℕ → Type 0
IsComplete job longest budget status =
    ((status ≡ 0) × NoneBelow width job (longest + 1)) ⊎ IsOfFirst job longest status
    ⊎ ((status ≡ 21) × (budget ≡ None → ⊥))

-- a write failed, or memory ran out
abbrev pub IsCutStatus : ℕ → Type 0
IsCutStatus status = (status ≡ 41) ⊎ (status ≡ 50)

-- a verdict on a module
abbrev pub IsVerdictStatus : ℕ → Type 0
IsVerdictStatus status = (status ≡ 0) ⊎ (status ≡ 12) ⊎ (status ≡ 20) ⊎ (status ≡ 21)

abbrev pub IsStatus : ℕ → Type 0
IsStatus status = IsVerdictStatus status ⊎ (status ≡ 14) ⊎ (status ≡ 30) ⊎ (status ≡ 31) ⊎ (status ≡ 40) ⊎ IsCutStatus status
