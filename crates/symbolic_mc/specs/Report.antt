-- What is written of an answer, and the status that the program ends with.
use Rattle.std.specs.Prelude.{ℕ, List, ◌++◌, codes}
use Rattle.std.specs.Fmt.{decimal}
use Rattle.refutation_checker.specs.declared.answers.Recheck.{Recheck}
use Rattle.refutation_checker.specs.declared.answers.Recheck.TheVariants.{Accepted, BadLine, BadStep}
use Rattle.front_end.specs.Lines.{refusal_text}
use Rattle.front_end.specs.declared.fault.FrontFault.{FrontFault}
use Rattle.front_end.specs.declared.fault.FrontFault.TheVariants as front
use Rattle.tla_modules.specs.declared.fault.ModuleFault.TheVariants as modules
use Rattle.trace_text.specs.Reports as reports
use Rattle.trace_text.specs.declared.verdict.Verdict.{Verdict}
use Rattle.trace_text.specs.declared.verdict.Verdict.TheVariants.{Clean, Inductive, Error, Overflow, Spent, NotInductive}
use Rattle.symbolic_mc.specs.declared.answer.Answer.{Answer}
use Rattle.symbolic_mc.specs.declared.answer.Answer.TheVariants.{Usage, ReadFault, TooLong, Refused, WriteFault, Checked, NoCertificate, Rechecked}

-- ---- statuses

abbrev pub verdict_status : Verdict → ℕ
verdict_status (Clean n) = 0
verdict_status Inductive = 0
verdict_status (Error n fault trace) = 12
verdict_status (NotInductive fault trace) = 13
verdict_status (Overflow at part place trace) = 20
verdict_status (Spent conflicts at) = 21

abbrev pub recheck_status : Recheck → ℕ
recheck_status (Accepted refuted left) = 0
recheck_status (BadLine n) = 14
recheck_status (BadStep query step) = 14

-- a module that is not read, or is too long, is not refused
abbrev pub refusal_status : FrontFault → ℕ
refusal_status (front.Module (modules.Read file)) = 40
refusal_status (front.Module (modules.TooLong file)) = 40
refusal_status fault = 30

abbrev pub status_of : Answer → ℕ
status_of Usage = 31
status_of (ReadFault file) = 40
status_of (TooLong file) = 40
status_of (WriteFault file) = 41
status_of (Refused refusal) = refusal_status refusal.fault
status_of (Checked names files verdict) = verdict_status verdict
status_of NoCertificate = 14
status_of (Rechecked answer) = recheck_status answer

-- ---- reports

abbrev pub recheck_report : Recheck → List ℕ
recheck_report (Accepted refuted left) = codes "accepted: " ++ (decimal refuted ++ (codes " refuted, " ++ (decimal left ++ codes " open\n")))
recheck_report (BadLine n) = codes "certificate refused: line " ++ decimal n ++ codes "\n"
recheck_report (BadStep query step) = codes "certificate refused: query " ++ (decimal query ++ (codes " step " ++ (decimal step ++ codes "\n")))

-- all that is written for an answer
abbrev pub report_of : Answer → List ℕ
report_of Usage = codes "usage: symbolic_mc check|induct|audit|recheck|ring OPTIONS NAMES\n"
report_of (ReadFault file) = codes "read fault: " ++ file ++ codes "\n"
report_of (TooLong file) = codes "file is too long: " ++ file ++ codes "\n"
report_of (WriteFault file) = codes "write fault: " ++ file ++ codes "\n"
report_of (Refused refusal) = refusal_text refusal
report_of (Checked names files verdict) = reports.report_of verdict names files
report_of NoCertificate = codes "certificate refused: no file\n"
report_of (Rechecked answer) = recheck_report answer

-- what is written where memory runs out
abbrev pub memory_line : List ℕ
memory_line = codes "out of memory\n"
