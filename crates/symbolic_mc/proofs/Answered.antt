-- Why an answer is given.
use Rattle.std.proofs.Common.{◌≡◌, ◌⊎◌, ℕ, ◌≤◌, inl, inr, Bool, true, false, List, length, Option, Some, None, refl, sym, ◌∙◌, ap, subst, arith}
use Rattle.std.specs.Prelude.{IfSome}
use Rattle.bounded_engine.specs.Answers.{IsChecked}
use Rattle.tool_outside.specs.Causes.{Holds, HandedOut, IsCut, IsLong}
use Rattle.tool_outside.specs.Outside.{Folder, Changes, Rose, file_at}
use Rattle.tool_outside.specs.declared.files.FileFail.{FileFail}
use Rattle.tool_outside.specs.declared.files.FileFail.TheVariants as fail
use Rattle.tool_outside.proofs.Prefixes.{changes_as}
use Rattle.std.proofs.lemmas.Bool.{true≢false}
use Rattle.std.proofs.lemmas.List.{take_all}
use Rattle.refutation_checker.specs.declared.answers.Recheck.{Recheck}
use Rattle.refutation_checker.specs.declared.section.Section.{Section}
use Rattle.refutation_checker.specs.Certificate.{certificate_text}
use Rattle.refutation_checker.specs.Rechecking.{IsRechecked, RefutesClosed, WhereAccepted}
use Rattle.front_end.specs.Accepted.{IsAcceptedFor}
use Rattle.front_end.specs.Refused.{IsRefusal, is_want}
use Rattle.front_end.specs.Requests.{IsRequest}
use Rattle.front_end.specs.declared.fault.FrontFault.{FrontFault}
use Rattle.front_end.specs.declared.fault.FrontFault.TheVariants as front
use Rattle.front_end.specs.declared.fault.Refusal.{Refusal}
use Rattle.front_end.specs.declared.request.Accepted.{Accepted as Module}
use Rattle.front_end.specs.declared.request.Request.{Request}
use Rattle.tla_meaning.specs.declared.expr.Decl.{Decl}
use Rattle.trace_text.specs.declared.verdict.Verdict.{Verdict}
use Rattle.symbolic_mc.specs.declared.answer.Answer.{Answer}
use Rattle.symbolic_mc.specs.declared.answer.Answer.TheVariants.{Refused, WriteFault, Checked, NoCertificate, Rechecked}
use Rattle.symbolic_mc.specs.Naming.{certificate_name}
use Rattle.symbolic_mc.specs.Report.{refusal_status}
use Rattle.symbolic_mc.specs.Top.{Checks, IsAnswer, ReadFailed, IsTooLong, NotAccepted, WriteFailed, Found, NoFile, Reread, Saves, SavesPart, Touches, asked_of, certificate_limit, width}
use Rattle.tla_modules.specs.declared.fault.ModuleFault.TheVariants as modules
use Rattle.symbolic_mc.specs.Words.{Command}
use Rattle.symbolic_mc.specs.inner.Told.{IsCalm, IsReadFault, requests}

-- ---- the bytes that were handed out

holds_read : (held : Option Folder) (file : List ℕ) (read there : Option (List ℕ)) → read ≡ there
    → IfSome held (λ folder. read ≡ file_at folder file) → Holds held file there
holds_read None file read there same h = tt
holds_read (Some folder) file read there same h = sym h ∙ same

pub handed_out : (held : Option Folder) (file bytes : List ℕ) (limit : ℕ) (read : Option (List ℕ)) → read ≡ Some bytes
    → IfSome held (λ folder. read ≡ file_at folder file) → length bytes ≤ limit → HandedOut held file limit bytes
handed_out held file bytes limit read some h within = record { told = holds_read held file read (Some bytes) some h; within = within }

pub not_held : (held : Option Folder) (file : List ℕ) (read : Option (List ℕ)) → read ≡ None
    → IfSome held (λ folder. read ≡ file_at folder file) → Holds held file None
not_held held file read none h = holds_read held file read None none h

-- ---- a read that failed

pub failed_read : (c : Command) (cert : List ℕ) (old new : Option Folder) (before now : ℕ) (f : FileFail) (answer : Answer) → c.1 ≡ Some cert
    → (f ≡ fail.Failed → Rose before now) → (f ≡ fail.TooLong → IsLong old cert certificate_limit) → new ≡ old → IsReadFault cert f answer → IsAnswer c old new before now answer
failed_read c cert old new before now fail.Failed answer asked rose long same is =
    subst (IsAnswer c old new before now) (sym is) (ReadFailed cert asked (rose refl) same)
failed_read c cert old new before now fail.TooLong answer asked rose long same is =
    subst (IsAnswer c old new before now) (sym is) (IsTooLong cert asked (long refl) same)
failed_read c cert old new before now (fail.Memory e) answer asked rose long same is = absurd is

-- ---- a certificate

pub reread : (cert bytes seen : List ℕ) (old new : Option Folder) (before now : ℕ) (answer : Recheck) → HandedOut old cert certificate_limit bytes → seen ≡ bytes
    → IsRechecked seen answer → WhereAccepted answer (RefutesClosed seen) → new ≡ old → IsAnswer (None, Some cert) old new before now (Rechecked answer)
reread cert bytes seen old new before now answer handed same is refutes stay =
    Reread cert bytes answer refl handed (subst (λ (x : List ℕ). IsRechecked x answer) same is)
    (subst (λ (x : List ℕ). WhereAccepted answer (RefutesClosed x)) same refutes) stay

pub no_certificate : (cert : List ℕ) (old new : Option Folder) (before now : ℕ) → Holds old cert None → new ≡ old → IsAnswer (None, Some cert) old new before now NoCertificate
no_certificate cert old new before now none stay = NoFile cert refl none stay

-- ---- modules

module _ (file : List ℕ) (longest : ℕ) (budget : Option ℕ) (again : Option (List ℕ)) (old new : Option Folder) (before now : ℕ) (stay : new ≡ old) where
  pub not_accepted : (r : Refusal) (answer : Answer) → answer ≡ Refused r → IsRefusal old before now (asked_of file longest) r.files r.names r.fault
      → is_want r.fault ≡ false → IsAnswer (requests file longest budget again) old new before now answer
  not_accepted r answer is refused want =
      subst (IsAnswer (requests file longest budget again) old new before now) (sym is) (NotAccepted file longest budget r refl refused want stay)

-- the count of the files' faults rises with a failed read alone
refused_calm : (held : Option Folder) (before now : ℕ) (asked : Request) (files : List (List ℕ)) (names : List Decl) (f : FrontFault)
    → IsRefusal held before now asked files names f → is_want f ≡ false → (now ≡ before) ⊎ (refusal_status f ≡ 40)
refused_calm held before now asked files names (front.Module (modules.Read file)) h want = inr refl
refused_calm held before now asked files names (front.Module (modules.TooLong file)) h want = inr refl
refused_calm held before now asked files names (front.Module (modules.Missing x)) h want = inl h.0.counted
refused_calm held before now asked files names (front.Module (modules.NameDiffers x y)) h want = inl h.0.counted
refused_calm held before now asked files names (front.Module (modules.Cycle xs)) h want = inl h.0.counted
refused_calm held before now asked files names (front.Module modules.TooMany) h want = inl h.0.counted
refused_calm held before now asked files names (front.Module (modules.Unknown x p)) h want = inl h.0.counted
refused_calm held before now asked files names (front.Module (modules.Twice x p q)) h want = inl h.0.counted
refused_calm held before now asked files names (front.Module (modules.Arity p m n)) h want = inl h.0.counted
refused_calm held before now asked files names (front.Module (modules.Lex e)) h want = inl h.0.counted
refused_calm held before now asked files names (front.Module (modules.Parse e)) h want = inl h.0.counted
refused_calm held before now asked files names (front.Module (modules.Memory e)) h want = absurd (let d = h.0.no_want in cc)
refused_calm held before now asked files names (front.Inline f) h want = inl h.1.2
refused_calm held before now asked files names (front.«Type» f) h want = inl h.1.2
refused_calm held before now asked files names (front.Ker f) h want = inl h.1.2
refused_calm held before now asked files names (front.Split f) h want = inl h.1.2
refused_calm held before now asked files names (front.Assign f) h want = inl h.1.2
refused_calm held before now asked files names (front.Shape f) h want = inl h.1.2
refused_calm held before now asked files names (front.Memory e) h want = absurd (true≢false want)

pub calm_refusal : (held : Option Folder) (before now : ℕ) (asked : Request) (r : Refusal) (answer : Answer) → answer ≡ Refused r
    → IsRefusal held before now asked r.files r.names r.fault → is_want r.fault ≡ false → IsCalm before now answer
calm_refusal held before now asked r answer is h want =
    let P : Answer → Type 0 = λ a. IsCalm before now a in
    subst P (sym is) (either (refused_calm held before now asked r.files r.names r.fault h want))
  where
    either : (now ≡ before) ⊎ (refusal_status r.fault ≡ 40) → IsCalm before now (Refused r)
    either (inl e) = inl e
    either (inr e) = inr (inl e)

-- ---- a module that was checked

module _ (file : List ℕ) (of : Module) (longest : ℕ) (budget : Option ℕ) (again : Option (List ℕ)) (old new : Option Folder) (before now : ℕ) (verdict : Verdict) (sections : List Section)
    (accepted : IsAcceptedFor old (asked_of file longest) of) (checked : IsChecked width of.job of.typed.names longest budget verdict sections) where
  abbrev checks : Checks (requests file longest budget again) old verdict sections
  checks = record {
    file = file;
    longest = longest;
    budget = budget;
    asked = refl;
    of = of;
    accepted = accepted;
    checked = checked;
  }

  pub found_answer : (name : List ℕ) (seen : List Section) → name ≡ certificate_name file → seen ≡ sections
      → Changes old new name (λ _ is. is ≡ Some (certificate_text seen))
      → IsAnswer (requests file longest budget again) old new before now (Checked of.job.names of.job.files verdict)
  found_answer name seen name_is seen_is saved =
      let here : Saves file sections old new =
      subst (λ (x : List ℕ). Changes old new x (λ _ is. is ≡ Some (certificate_text sections))) name_is
      (subst (λ (x : List Section). Changes old new name (λ _ is. is ≡ Some (certificate_text x))) seen_is saved) in
      Found verdict sections checks here

  pub part_touches : (name : List ℕ) (seen : List Section) → name ≡ certificate_name file → seen ≡ sections → Changes old new name (IsCut (certificate_text seen))
      → Touches (requests file longest budget again) old new
  part_touches name seen name_is seen_is cut =
      let here : SavesPart file sections old new =
      subst (λ (x : List ℕ). Changes old new x (IsCut (certificate_text sections))) name_is
      (subst (λ (x : List Section). Changes old new name (IsCut (certificate_text x))) seen_is cut) in
      inr (verdict, sections, checks, here)

  pub saved_touches : (name : List ℕ) (seen : List Section) → name ≡ certificate_name file → seen ≡ sections → Changes old new name (λ _ is. is ≡ Some (certificate_text seen))
      → Touches (requests file longest budget again) old new
  saved_touches name seen name_is seen_is saved =
      part_touches name seen name_is seen_is (changes_as old new name _ _ saved (λ x y is.
      inr (length (certificate_text seen), is ∙ ap (λ (l : List ℕ). Some l) (sym (take_all (length (certificate_text seen)) (certificate_text seen) (omega arith))))))

  pub fault_answer : (name text : List ℕ) (seen : List Section) → name ≡ certificate_name file → text ≡ name → seen ≡ sections → Rose before now
      → Changes old new name (IsCut (certificate_text seen)) → IsAnswer (requests file longest budget again) old new before now (WriteFault text)
  fault_answer name text seen name_is text_is seen_is rose cut =
      let here : SavesPart file sections old new =
      subst (λ (x : List ℕ). Changes old new x (IsCut (certificate_text sections))) name_is
      (subst (λ (x : List Section). Changes old new name (IsCut (certificate_text x))) seen_is cut) in
      subst (λ (x : List ℕ). IsAnswer (requests file longest budget again) old new before now (WriteFault x)) (sym (text_is ∙ name_is))
      (WriteFailed verdict sections checks rose here)

-- ---- what a check of accepted modules asks, and what it says of the request

module _ (file : List ℕ) (longest : ℕ) (of : Module) (held : Option Folder) (asked : IsRequest (asked_of file longest)) (accepted : IsAcceptedFor held (asked_of file longest) of) where
  pub for_request : (budget : Option ℕ) (verdict : Verdict) (sections : List Section) → IsChecked (Some of.width) of.job of.typed.names of.length budget verdict sections
      → IsChecked width of.job of.typed.names longest budget verdict sections
  for_request budget verdict sections c =
      subst (λ (n : ℕ). IsChecked width of.job of.typed.names n budget verdict sections) accepted.same_length
      (subst (λ (n : ℕ). IsChecked (Some n) of.job of.typed.names of.length budget verdict sections) accepted.same_width c)
