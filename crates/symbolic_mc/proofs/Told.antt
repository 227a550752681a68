-- What the status says of the answer and of what was written.
use Rattle.std.proofs.Common.{◌≡◌, ℕ, ◌<◌, ◌≤◌, inl, inr, ◌⊎◌, false, List, length, Option, None, Some, Result, Ok, Err, refl, sym, ◌∙◌, ap, subst, arith}
use Rattle.std.specs.Prelude.{OnOk, OnErr, unwrap_or}
use Rattle.std.specs.Io.KnownBytes.{Appends}
use Rattle.refutation_checker.specs.declared.answers.Recheck.TheVariants.{Accepted, BadLine, BadStep}
use Rattle.refutation_checker.specs.declared.section.Section.{Section}
use Rattle.bounded_engine.specs.Verdicts.{IsVerdict, query_of_fault, query_of_part}
use Rattle.tool_outside.specs.Causes.{IsLong, WritesPrefix, Stayed}
use Rattle.tool_outside.specs.Outside.{Folder, Rose, file_at}
use Rattle.tool_outside.proofs.Prefixes.{all_of}
use Rattle.tla_meaning.specs.declared.expr.Decl.{Decl}
use Rattle.tla_meaning.specs.declared.job.Job.{Job}
use Rattle.front_end.proofs.Apart.{not_refused, one_accepted_job}
use Rattle.front_end.proofs.OneKernel.{same_numbers}
use Rattle.front_end.specs.Accepted.{IsAcceptedFor}
use Rattle.front_end.specs.Refused.{IsPassing, IsRefusal, is_want}
use Rattle.front_end.specs.declared.fault.FrontFault.{FrontFault}
use Rattle.front_end.specs.declared.fault.FrontFault.TheVariants as front
use Rattle.front_end.specs.declared.fault.Refusal.{Refusal}
use Rattle.front_end.specs.declared.request.Accepted.{Accepted as Module}
use Rattle.front_end.specs.declared.request.Request.{Request as Asked}
use Rattle.tla_modules.specs.Answers as joined
use Rattle.tla_modules.specs.declared.fault.ModuleFault.TheVariants as modules
use Rattle.trace_text.specs.declared.verdict.Fault.{Fault}
use Rattle.trace_text.specs.declared.verdict.Fault.TheVariants.{InvFalse, InvWrong, StartWrong, StepWrong}
use Rattle.trace_text.specs.declared.verdict.Part.{Part}
use Rattle.trace_text.specs.declared.verdict.Part.TheVariants as parts
use Rattle.trace_text.specs.declared.verdict.Verdict.{Verdict}
use Rattle.trace_text.specs.declared.verdict.Verdict.TheVariants.{Clean, Inductive, Error, Overflow, Spent, NotInductive}
use Rattle.trace_text.specs.declared.verdict.Where.TheVariants.{Level, Typed}
use Rattle.symbolic_mc.specs.declared.answer.Answer.{Answer}
use Rattle.symbolic_mc.specs.Report.{status_of, refusal_status, verdict_status, report_of, memory_line}
use Rattle.symbolic_mc.specs.Top.{IsAnswer, NoCommand, NotAccepted, WriteFailed, Found, ReadFailed, IsTooLong, NoFile, Reread, AsksForModule, AsksToRecheck, Checks, IsComplete, IsStatus, IsVerdictStatus, IsCutStatus, Tells, TellsPart, WritesError, WritesClean, WritesOverflow, WritesSpent, WritesAccepted, asked_of, certificate_limit, query_status, width}
use Rattle.symbolic_mc.specs.Words.{Command, Request}
use Rattle.std.proofs.lemmas.Bool.{true≢false}
use Rattle.symbolic_mc.specs.inner.Told.{IsCalm, IsTold}

-- a report, whole or in part
pub in_part : {T E : Type 0} (r : Result T E) (old new : Option (List ℕ)) (report : List ℕ) → OnOk r (Appends old new report) → OnErr r (WritesPrefix old new report)
    → WritesPrefix old new report
in_part (Ok x) old new report whole cut = all_of old new report whole
in_part (Err e) old new report whole cut = cut

-- ---- the statuses of the answers

found_status : (job : Job) (longest : ℕ) (budget : Option ℕ) (v : Verdict) → IsVerdict width job longest budget v → IsVerdictStatus (verdict_status v) × (verdict_status v ≤ 41)
found_status job longest budget (Clean n) is = (inl refl, omega arith)
found_status job longest budget (Error n fault trace) is = (inr (inl refl), omega arith)
found_status job longest budget (Overflow (Level n) part place trace) is = (inr (inr (inl refl)), omega arith)
found_status job longest budget (Overflow Typed part place trace) is = absurd is
found_status job longest budget (Spent n at) is = (inr (inr (inr refl)), omega arith)
found_status job longest budget Inductive is = absurd is
found_status job longest budget (NotInductive fault trace) is = absurd is

refusal_either : (fault : FrontFault) → (refusal_status fault ≡ 30) ⊎ (refusal_status fault ≡ 40)
refusal_either (front.Module (modules.Read file)) = inr refl
refusal_either (front.Module (modules.TooLong file)) = inr refl
refusal_either fault = inl refl

refusal_answer : (status : ℕ) → (status ≡ 30) ⊎ (status ≡ 40) → IsStatus status × (status ≤ 41)
refusal_answer status (inl refused) = (inr (inr (inl refused)), omega arith)
refusal_answer status (inr unread) = (inr (inr (inr (inr (inl unread)))), omega arith)

refusal_not : (fault : FrontFault) (status : ℕ) → refusal_status fault ≡ status → (status ≡ 30 → ⊥) → (status ≡ 40 → ⊥) → ⊥
refusal_not fault status is not_refused not_unread = elim (refusal_either fault) [
  | inl refused ↦ not_refused (sym is ∙ refused)
  | inr unread ↦ not_unread (sym is ∙ unread)
]

-- of an answer with its cause
pub answer_status : (c : Command) (old new : Option Folder) (before now : ℕ) (answer : Answer) → IsAnswer c old new before now answer
    → IsStatus (status_of answer) × (status_of answer ≤ 41)
answer_status c old new before now _ (NoCommand none again stay) = (inr (inr (inr (inl refl))), omega arith)
answer_status c old new before now _ (ReadFailed cert asked rose stay) = (inr (inr (inr (inr (inl refl)))), omega arith)
answer_status c old new before now _ (IsTooLong cert asked long stay) = (inr (inr (inr (inr (inl refl)))), omega arith)
answer_status c old new before now _ (NotAccepted file longest budget r asked refused want stay) = refusal_answer (refusal_status r.fault) (refusal_either r.fault)
answer_status c old new before now _ (WriteFailed verdict sections k rose saved) = (inr (inr (inr (inr (inr (inl refl))))), omega arith)
answer_status c old new before now _ (Found verdict sections k saved) =
    let of = found_status k.of.job k.longest k.budget verdict k.checked.verdict_is in
    (inl of.0, omega (arith, of.1))
answer_status c old new before now _ (NoFile cert asked none stay) = (inr (inl refl), omega arith)
answer_status c old new before now _ (Reread cert bytes (Accepted r o) asked handed is refutes stay) = (inl (inl refl), omega arith)
answer_status c old new before now _ (Reread cert bytes (BadLine n) asked handed is refutes stay) = (inr (inl refl), omega arith)
answer_status c old new before now _ (Reread cert bytes (BadStep q s) asked handed is refutes stay) = (inr (inl refl), omega arith)

-- a check and a recheck are asked for by different words
abbrev pub AreApart : Command → Type 0
AreApart c = (r : Request) (cert : List ℕ) → c.0 ≡ Some r → c.1 ≡ Some cert → ⊥

none_some : {X : Type 0} {x : X} → None ≡ Some x → ⊥
none_some e = cc

the_same : {X : Type 0} (a b : X) → Some a ≡ Some b → a ≡ b
the_same {X = X} a b e = ap (λ (o : Option X). unwrap_or o a) e

same_file : (c : Command) (file other : List ℕ) (n m : ℕ) (b d : Option ℕ) → c.0 ≡ Some (file, n, b) → c.0 ≡ Some (other, m, d) → file ≡ other
same_file c file other n m b d asked again = ap (λ (r : Request). r.0) (the_same (file, n, b) (other, m, d) (sym asked ∙ again))

-- ---- what the files are told to hold

too_long_not : (held : Option Folder) (folder : Folder) (file : List ℕ) (limit : ℕ) → held ≡ Some folder → ((bytes : List ℕ) → file_at folder file ≡ Some bytes → length bytes ≤ limit)
    → IsLong held file limit → ⊥
too_long_not held folder file limit told short long =
    let known : (bytes : List ℕ) × (file_at folder file ≡ Some bytes) × (limit < length bytes) = subst (λ (h : Option Folder). IsLong h file limit) told long in
    let fits = short known.0 known.1 in
    let longer = known.2 in
    omega arith

-- ---- an answer to modules that make a job, and of a certificate

-- a cause that may come besides the one answer is want of memory, or a read that failed
passing_not : (held : Option Folder) (before now : ℕ) (asked : Asked) (files : List (List ℕ)) (names : List Decl) (f : FrontFault)
    → IsRefusal held before now asked files names f → is_want f ≡ false → IsPassing f → Stayed before now → ⊥
passing_not held before now asked files names (front.Module (modules.Read file)) h want out stayed = let rose = h.0.counted.0 in omega arith
passing_not held before now asked files names (front.Module (modules.Memory e)) h want out stayed = absurd (let d = h.0.no_want in cc)
passing_not held before now asked files names (front.Module f) h want out stayed = out
passing_not held before now asked files names (front.Memory e) h want out stayed = true≢false want
passing_not held before now asked files names f h want out stayed = out

-- what the command asks of the file that it names
one_request : (c : Command) (file other : List ℕ) (n m : ℕ) (b d : Option ℕ) → c.0 ≡ Some (file, n, b) → c.0 ≡ Some (other, m, d)
    → asked_of other m ≡ asked_of file n
one_request c file other n m b d asked again = ap (λ (r : Request). asked_of r.0 r.1) (the_same (other, m, d) (file, n, b) (sym again ∙ asked))

is_told : (c : Command) (old : Option Folder) (form : AsksForModule c old) → joined.IsTold old
is_told c old form = (form.folder, form.told)

-- modules that are accepted are not refused
module _ (c : Command) (old : Option Folder) (form : AsksForModule c old) (file : List ℕ) (longest : ℕ) (budget : Option ℕ)
    (asked : c.0 ≡ Some (file, longest, budget)) where
  accepted_too : IsAcceptedFor old (asked_of file longest) form.of
  accepted_too = subst (λ (r : Asked). IsAcceptedFor old r form.of) (one_request c _ _ _ _ _ _ asked form.asked) form.accepted

  refused_not : (before now : ℕ) (r : Refusal) → IsRefusal old before now (asked_of file longest) r.files r.names r.fault → is_want r.fault ≡ false
      → Stayed before now → ⊥
  refused_not before now r refused want stayed =
      passing_not old before now (asked_of file longest) r.files r.names r.fault refused want
      (not_refused same_numbers old (asked_of file longest) (omega arith) form.of accepted_too before now r.files r.names r.fault (is_told c old form) refused) stayed

-- what a verdict's status says
complete_verdict : (job : Job) (longest : ℕ) (budget : Option ℕ) (v : Verdict) → IsVerdict width job longest budget v
    → IsComplete job longest budget (verdict_status v)
complete_verdict job longest budget (Clean n) is = inl (refl, is.questions)
complete_verdict job longest budget (Error n fault trace) is =
    inr (inl (record { level = n; query = query_of_fault fault; within = is.within; first = is.first; status_is = fault_query fault }))
  where
    fault_query : (fault : Fault) → 12 ≡ query_status (query_of_fault fault)
    fault_query (StartWrong p) = refl
    fault_query (StepWrong p) = refl
    fault_query (InvFalse name) = refl
    fault_query (InvWrong name p) = refl
complete_verdict job longest budget (Overflow (Level n) part place trace) is =
    inr (inl (record { level = n; query = query_of_part part; within = is.within; first = is.first; status_is = part_query part }))
  where
    part_query : (part : Part) → 20 ≡ query_status (query_of_part part)
    part_query parts.Start = refl
    part_query parts.Step = refl
    part_query (parts.Inv name) = refl
    part_query parts.Assumption = refl
complete_verdict job longest budget (Overflow Typed part place trace) is = absurd is
complete_verdict job longest budget (Spent n (Level m)) is = inr (inr (refl, λ none. none_some (sym none ∙ is.given)))
complete_verdict job longest budget (Spent n Typed) is = absurd is
complete_verdict job longest budget Inductive is = absurd is
complete_verdict job longest budget (NotInductive fault trace) is = absurd is

-- the job that was checked is the one that is asked for
module _ (c : Command) (old : Option Folder) (form : AsksForModule c old) (verdict : Verdict) (sections : List Section)
    (k : Checks c old verdict sections) where
  same_job : k.of.job ≡ form.of.job
  same_job =
      one_accepted_job old (asked_of k.file k.longest) k.of form.of (is_told c old form) k.accepted
      (accepted_too c old form k.file k.longest k.budget k.asked)

  checked_complete : IsComplete form.of.job form.longest form.budget (verdict_status verdict)
  checked_complete =
      subst (λ (job : Job). IsComplete job form.longest form.budget (verdict_status verdict)) same_job
      (subst (λ (r : Request). IsComplete k.of.job r.1 r.2 (verdict_status verdict))
      (the_same (k.file, k.longest, k.budget) (form.file, form.longest, form.budget) (sym k.asked ∙ form.asked))
      (complete_verdict k.of.job k.longest k.budget verdict k.checked.verdict_is))

form_answer : (c : Command) (old new : Option Folder) (before now : ℕ) (answer : Answer) → AreApart c → (form : AsksForModule c old) → Stayed before now
    → IsAnswer c old new before now answer → IsComplete form.of.job form.longest form.budget (status_of answer)
form_answer c old new before now _ apart form stayed (NoCommand none again stay) = absurd (none_some (sym none ∙ form.asked))
form_answer c old new before now _ apart form stayed (NotAccepted file longest budget r asked refused want stay) =
    absurd (refused_not c old form file longest budget asked before now r refused want stayed)
form_answer c old new before now _ apart form stayed (ReadFailed cert asked rose stay) = absurd (apart _ _ form.asked asked)
form_answer c old new before now _ apart form stayed (IsTooLong cert asked long stay) = absurd (apart _ _ form.asked asked)
form_answer c old new before now _ apart form stayed (WriteFailed verdict sections k rose saved) = absurd (omega arith)
form_answer c old new before now _ apart form stayed (Found verdict sections k saved) = checked_complete c old form verdict sections k
form_answer c old new before now _ apart form stayed (NoFile cert asked none stay) = absurd (apart _ _ form.asked asked)
form_answer c old new before now _ apart form stayed (Reread cert bytes answer asked handed is refutes stay) = absurd (apart _ _ form.asked asked)

cert_answer : (c : Command) (old new : Option Folder) (before now : ℕ) (answer : Answer) → AreApart c → AsksToRecheck c old → Stayed before now
    → IsAnswer c old new before now answer → (status_of answer ≡ 0) ⊎ (status_of answer ≡ 14)
cert_answer c old new before now _ apart form stayed (NoCommand none again stay) = absurd (none_some (sym again ∙ form.asked))
cert_answer c old new before now _ apart form stayed (NotAccepted file longest budget r asked refused want stay) = absurd (apart _ _ asked form.asked)
cert_answer c old new before now _ apart form stayed (ReadFailed cert asked rose stay) = absurd (omega arith)
cert_answer c old new before now _ apart form stayed (IsTooLong cert asked long stay) =
    let same : cert ≡ form.cert = the_same _ _ (sym asked ∙ form.asked) in
    absurd (too_long_not old form.folder cert certificate_limit form.told (λ bytes at.
    form.short bytes (ap (file_at form.folder) (sym same) ∙ at)) long)
cert_answer c old new before now _ apart form stayed (WriteFailed verdict sections k rose saved) = absurd (apart _ _ k.asked form.asked)
cert_answer c old new before now _ apart form stayed (Found verdict sections k saved) = absurd (apart _ _ k.asked form.asked)
cert_answer c old new before now _ apart form stayed (NoFile cert asked none stay) = inr refl
cert_answer c old new before now _ apart form stayed (Reread cert bytes (Accepted r o) asked handed is refutes stay) = inl refl
cert_answer c old new before now _ apart form stayed (Reread cert bytes (BadLine n) asked handed is refutes stay) = inr refl
cert_answer c old new before now _ apart form stayed (Reread cert bytes (BadStep q s) asked handed is refutes stay) = inr refl

usage_answer : (c : Command) (old new : Option Folder) (before now : ℕ) (answer : Answer) → c.0 ≡ None → c.1 ≡ None → IsAnswer c old new before now answer → status_of answer ≡ 31
usage_answer c old new before now _ none again (NoCommand check recheck stay) = refl
usage_answer c old new before now _ none again (NotAccepted file longest budget r asked refused want stay) = absurd (none_some (sym none ∙ asked))
usage_answer c old new before now _ none again (ReadFailed cert asked rose stay) = absurd (none_some (sym again ∙ asked))
usage_answer c old new before now _ none again (IsTooLong cert asked long stay) = absurd (none_some (sym again ∙ asked))
usage_answer c old new before now _ none again (WriteFailed verdict sections k rose saved) = absurd (none_some (sym none ∙ k.asked))
usage_answer c old new before now _ none again (Found verdict sections k saved) = absurd (none_some (sym none ∙ k.asked))
usage_answer c old new before now _ none again (NoFile cert asked other stay) = absurd (none_some (sym again ∙ asked))
usage_answer c old new before now _ none again (Reread cert bytes answer asked handed is refutes stay) = absurd (none_some (sym again ∙ asked))

-- ---- verdicts that were written

error_answer : (c : Command) (old new : Option Folder) (before now : ℕ) (was is : Option (List ℕ)) (answer : Answer) → status_of answer ≡ 12
    → Appends was is (report_of answer) → IsAnswer c old new before now answer → WritesError c old new was is
error_answer c old new before now was is _ coded added (NoCommand none again stay) = absurd (omega arith)
error_answer c old new before now was is _ coded added (ReadFailed cert asked rose stay) = absurd (omega arith)
error_answer c old new before now was is _ coded added (IsTooLong cert asked long stay) = absurd (omega arith)
error_answer c old new before now was is _ coded added (NotAccepted file longest budget r asked refused want stay) =
    absurd (refusal_not r.fault 12 coded (λ e. omega (e, arith)) (λ e. omega (e, arith)))
error_answer c old new before now was is _ coded added (WriteFailed verdict sections k rose saved) = absurd (omega arith)
error_answer c old new before now was is _ coded added (Found (Error n fault trace) sections k saved) =
    record { level = n; fault = fault; trace = trace; sections = sections; checks = k; saved = saved; written = added }
error_answer c old new before now was is _ coded added (Found (Clean n) sections k saved) = absurd (omega arith)
error_answer c old new before now was is _ coded added (Found (Spent n at) sections k saved) = absurd (omega arith)
error_answer c old new before now was is _ coded added (Found Inductive sections k saved) = absurd (omega arith)
error_answer c old new before now was is _ coded added (Found (Overflow w part place trace) sections k saved) = absurd (omega arith)
error_answer c old new before now was is _ coded added (Found (NotInductive fault trace) sections k saved) = absurd (omega arith)
error_answer c old new before now was is _ coded added (NoFile cert asked none stay) = absurd (omega arith)
error_answer c old new before now was is _ coded added (Reread cert bytes (Accepted r o) asked handed rechecked refutes stay) = absurd (omega arith)
error_answer c old new before now was is _ coded added (Reread cert bytes (BadLine n) asked handed rechecked refutes stay) = absurd (omega arith)
error_answer c old new before now was is _ coded added (Reread cert bytes (BadStep q s) asked handed rechecked refutes stay) = absurd (omega arith)

clean_answer : (c : Command) (old new : Option Folder) (before now : ℕ) (was is : Option (List ℕ)) (answer : Answer) → status_of answer ≡ 0
    → Appends was is (report_of answer) → IsAnswer c old new before now answer → WritesClean c old new was is ⊎ WritesAccepted c old new was is
clean_answer c old new before now was is _ coded added (NoCommand none again stay) = absurd (omega arith)
clean_answer c old new before now was is _ coded added (ReadFailed cert asked rose stay) = absurd (omega arith)
clean_answer c old new before now was is _ coded added (IsTooLong cert asked long stay) = absurd (omega arith)
clean_answer c old new before now was is _ coded added (NotAccepted file longest budget r asked refused want stay) =
    absurd (refusal_not r.fault 0 coded (λ e. omega (e, arith)) (λ e. omega (e, arith)))
clean_answer c old new before now was is _ coded added (WriteFailed verdict sections k rose saved) = absurd (omega arith)
clean_answer c old new before now was is _ coded added (Found (Clean n) sections k saved) =
    inl record { level = n; sections = sections; checks = k; saved = saved; written = added }
clean_answer c old new before now was is _ coded added (Found (Error n fault trace) sections k saved) = absurd (omega arith)
clean_answer c old new before now was is _ coded added (Found (Spent n at) sections k saved) = absurd (omega arith)
clean_answer c old new before now was is _ coded added (Found Inductive sections k saved) = absurd k.checked.verdict_is
clean_answer c old new before now was is _ coded added (Found (Overflow w part place trace) sections k saved) = absurd (omega arith)
clean_answer c old new before now was is _ coded added (Found (NotInductive fault trace) sections k saved) = absurd (omega arith)
clean_answer c old new before now was is _ coded added (NoFile cert asked none stay) = absurd (omega arith)
clean_answer c old new before now was is _ coded added (Reread cert bytes (Accepted r o) asked handed rechecked refutes stay) =
    inr record { cert = cert; asked = asked; bytes = bytes; handed = handed; refuted = r; left = o; rechecked = rechecked; unsatisfiable = refutes; files_stay = stay; written = added }
clean_answer c old new before now was is _ coded added (Reread cert bytes (BadLine n) asked handed rechecked refutes stay) = absurd (omega arith)
clean_answer c old new before now was is _ coded added (Reread cert bytes (BadStep q s) asked handed rechecked refutes stay) = absurd (omega arith)

spent_answer : (c : Command) (old new : Option Folder) (before now : ℕ) (was is : Option (List ℕ)) (answer : Answer) → status_of answer ≡ 21
    → Appends was is (report_of answer) → IsAnswer c old new before now answer → WritesSpent c old new was is
spent_answer c old new before now was is _ coded added (NoCommand none again stay) = absurd (omega arith)
spent_answer c old new before now was is _ coded added (ReadFailed cert asked rose stay) = absurd (omega arith)
spent_answer c old new before now was is _ coded added (IsTooLong cert asked long stay) = absurd (omega arith)
spent_answer c old new before now was is _ coded added (NotAccepted file longest budget r asked refused want stay) =
    absurd (refusal_not r.fault 21 coded (λ e. omega (e, arith)) (λ e. omega (e, arith)))
spent_answer c old new before now was is _ coded added (WriteFailed verdict sections k rose saved) = absurd (omega arith)
spent_answer c old new before now was is _ coded added (Found (Spent n (Level l)) sections k saved) =
    record { conflicts = n; level = l; sections = sections; checks = k; saved = saved; written = added }
spent_answer c old new before now was is _ coded added (Found (Spent n Typed) sections k saved) = absurd k.checked.verdict_is
spent_answer c old new before now was is _ coded added (Found (Clean n) sections k saved) = absurd (omega arith)
spent_answer c old new before now was is _ coded added (Found (Error n fault trace) sections k saved) = absurd (omega arith)
spent_answer c old new before now was is _ coded added (Found Inductive sections k saved) = absurd (omega arith)
spent_answer c old new before now was is _ coded added (Found (Overflow w part place trace) sections k saved) = absurd (omega arith)
spent_answer c old new before now was is _ coded added (Found (NotInductive fault trace) sections k saved) = absurd (omega arith)
spent_answer c old new before now was is _ coded added (NoFile cert asked none stay) = absurd (omega arith)
spent_answer c old new before now was is _ coded added (Reread cert bytes (Accepted r o) asked handed rechecked refutes stay) = absurd (omega arith)
spent_answer c old new before now was is _ coded added (Reread cert bytes (BadLine n) asked handed rechecked refutes stay) = absurd (omega arith)
spent_answer c old new before now was is _ coded added (Reread cert bytes (BadStep q s) asked handed rechecked refutes stay) = absurd (omega arith)

overflow_answer : (c : Command) (old new : Option Folder) (before now : ℕ) (was is : Option (List ℕ)) (answer : Answer) → status_of answer ≡ 20
    → Appends was is (report_of answer) → IsAnswer c old new before now answer → WritesOverflow c old new was is
overflow_answer c old new before now was is _ coded added (NoCommand none again stay) = absurd (omega arith)
overflow_answer c old new before now was is _ coded added (ReadFailed cert asked rose stay) = absurd (omega arith)
overflow_answer c old new before now was is _ coded added (IsTooLong cert asked long stay) = absurd (omega arith)
overflow_answer c old new before now was is _ coded added (NotAccepted file longest budget r asked refused want stay) =
    absurd (refusal_not r.fault 20 coded (λ e. omega (e, arith)) (λ e. omega (e, arith)))
overflow_answer c old new before now was is _ coded added (WriteFailed verdict sections k rose saved) = absurd (omega arith)
overflow_answer c old new before now was is _ coded added (Found (Overflow (Level l) part place trace) sections k saved) =
    record { level = l; part = part; place = place; trace = trace; sections = sections; checks = k; saved = saved; written = added }
overflow_answer c old new before now was is _ coded added (Found (Overflow Typed part place trace) sections k saved) = absurd k.checked.verdict_is
overflow_answer c old new before now was is _ coded added (Found (Clean n) sections k saved) = absurd (omega arith)
overflow_answer c old new before now was is _ coded added (Found (Error n fault trace) sections k saved) = absurd (omega arith)
overflow_answer c old new before now was is _ coded added (Found Inductive sections k saved) = absurd (omega arith)
overflow_answer c old new before now was is _ coded added (Found (Spent n at) sections k saved) = absurd (omega arith)
overflow_answer c old new before now was is _ coded added (Found (NotInductive fault trace) sections k saved) = absurd (omega arith)
overflow_answer c old new before now was is _ coded added (NoFile cert asked none stay) = absurd (omega arith)
overflow_answer c old new before now was is _ coded added (Reread cert bytes (Accepted r o) asked handed rechecked refutes stay) = absurd (omega arith)
overflow_answer c old new before now was is _ coded added (Reread cert bytes (BadLine n) asked handed rechecked refutes stay) = absurd (omega arith)
overflow_answer c old new before now was is _ coded added (Reread cert bytes (BadStep q s) asked handed rechecked refutes stay) = absurd (omega arith)

-- ---- what the status says

module _ (c : Command) (old new : Option Folder) (before now : ℕ) (was is : Option (List ℕ)) (sink_before sink_now result : ℕ) (answer : Answer) (cause : IsAnswer c old new before now answer) where
  tells : (result ≡ status_of answer) × Appends was is (report_of answer) × (sink_now ≡ sink_before) → Tells c old new before now was is result
  tells all = record { answer = answer; cause = cause; status_is = all.0; written = all.1 }

  tells_part : WritesPrefix was is (report_of answer) → TellsPart c old new before now was is
  tells_part part = record { answer = answer; cause = cause; written = part }

  pub told_whole : IsTold answer was is sink_before sink_now result → (IsCutStatus result → ⊥) → Tells c old new before now was is result
  told_whole (inl all) uncut = tells all
  told_whole (inr (inl cut)) uncut = absurd (uncut (inl cut.0))
  told_whole (inr (inr none)) uncut = absurd (uncut (inr none.0))

  pub told_unwritten : IsTold answer was is sink_before sink_now result → result ≡ 41
      → (Rose sink_before sink_now × TellsPart c old new before now was is) ⊎ Tells c old new before now was is result
  told_unwritten (inl all) coded = inr (tells all)
  told_unwritten (inr (inl cut)) coded = inl (cut.1, tells_part cut.2)
  told_unwritten (inr (inr none)) coded = absurd (let status = none.0 in omega arith)

  pub told_memory : IsTold answer was is sink_before sink_now result → result ≡ 50 → TellsPart c old new before now was is ⊎ WritesPrefix was is memory_line
  told_memory (inl all) coded = absurd (let small = (answer_status c old new before now answer cause).1 in let status = all.0 in omega arith)
  told_memory (inr (inl cut)) coded = absurd (let status = cut.0 in omega arith)
  told_memory (inr (inr (_, inl part))) coded = inl (tells_part part)
  told_memory (inr (inr (_, inr line))) coded = inr line

  pub told_status : IsTold answer was is sink_before sink_now result → IsStatus result
  told_status (inl all) = subst IsStatus (sym all.0) (answer_status c old new before now answer cause).0
  told_status (inr (inl cut)) = inr (inr (inr (inr (inr (inl cut.0)))))
  told_status (inr (inr none)) = inr (inr (inr (inr (inr (inr none.0)))))

  pub told_error : IsTold answer was is sink_before sink_now result → result ≡ 12 → WritesError c old new was is
  told_error (inl all) coded = error_answer c old new before now was is answer (sym all.0 ∙ coded) all.1 cause
  told_error (inr (inl cut)) coded = absurd (let status = cut.0 in omega arith)
  told_error (inr (inr none)) coded = absurd (let status = none.0 in omega arith)

  pub told_clean : IsTold answer was is sink_before sink_now result → result ≡ 0 → WritesClean c old new was is ⊎ WritesAccepted c old new was is
  told_clean (inl all) coded = clean_answer c old new before now was is answer (sym all.0 ∙ coded) all.1 cause
  told_clean (inr (inl cut)) coded = absurd (let status = cut.0 in omega arith)
  told_clean (inr (inr none)) coded = absurd (let status = none.0 in omega arith)

  pub told_spent : IsTold answer was is sink_before sink_now result → result ≡ 21 → WritesSpent c old new was is
  told_spent (inl all) coded = spent_answer c old new before now was is answer (sym all.0 ∙ coded) all.1 cause
  told_spent (inr (inl cut)) coded = absurd (let status = cut.0 in omega arith)
  told_spent (inr (inr none)) coded = absurd (let status = none.0 in omega arith)

  pub told_overflow : IsTold answer was is sink_before sink_now result → result ≡ 20 → WritesOverflow c old new was is
  told_overflow (inl all) coded = overflow_answer c old new before now was is answer (sym all.0 ∙ coded) all.1 cause
  told_overflow (inr (inl cut)) coded = absurd (let status = cut.0 in omega arith)
  told_overflow (inr (inr none)) coded = absurd (let status = none.0 in omega arith)

  pub told_usage : IsTold answer was is sink_before sink_now result → c.0 ≡ None → c.1 ≡ None → (result ≡ 31) ⊎ IsCutStatus result
  told_usage (inl all) none again = inl (all.0 ∙ usage_answer c old new before now answer none again cause)
  told_usage (inr (inl cut)) none again = inr (inl cut.0)
  told_usage (inr (inr spent)) none again = inr (inr spent.0)

  pub told_complete : AreApart c → IsTold answer was is sink_before sink_now result → (form : AsksForModule c old) → Stayed before now
      → Stayed sink_before sink_now → IsComplete form.of.job form.longest form.budget result ⊎ (result ≡ 50)
  told_complete apart (inl all) form stayed calm =
      inl (subst (λ (n : ℕ). IsComplete form.of.job form.longest form.budget n) (sym all.0)
      (form_answer c old new before now answer apart form stayed cause))
  told_complete apart (inr (inl cut)) form stayed calm = absurd (let rose = cut.1 in omega arith)
  told_complete apart (inr (inr none)) form stayed calm = inr none.0

  pub told_recheck : AreApart c → IsTold answer was is sink_before sink_now result → AsksToRecheck c old → Stayed before now → Stayed sink_before sink_now
      → (result ≡ 0) ⊎ (result ≡ 14) ⊎ (result ≡ 50)
  told_recheck apart (inl all) form stayed calm =
      elim (cert_answer c old new before now answer apart form stayed cause) [
        | inl zero ↦ inl (all.0 ∙ zero)
        | inr refused ↦ inr (inl (all.0 ∙ refused))
      ]
  told_recheck apart (inr (inl cut)) form stayed calm = absurd (let rose = cut.1 in omega arith)
  told_recheck apart (inr (inr none)) form stayed calm = inr (inr none.0)

  pub told_files_fault : IsTold answer was is sink_before sink_now result → IsCalm before now answer → before < now → (result ≡ 40) ⊎ IsCutStatus result
  told_files_fault (inl all) (inl stay) rose = absurd (omega arith)
  told_files_fault (inl all) (inr (inl read)) rose = inl (all.0 ∙ read)
  told_files_fault (inl all) (inr (inr write)) rose = inr (inl (all.0 ∙ write))
  told_files_fault (inr (inl cut)) calm rose = inr (inl cut.0)
  told_files_fault (inr (inr none)) calm rose = inr (inr none.0)
