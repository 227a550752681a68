use Rattle.std.proofs.Common.{ℕ, ◌≤◌, refl, ap, length, Err}
use Rattle.std.specs.Option.{option_map}
use Rattle.std.specs.Prelude.{Vec}
use Rattle.std.specs.declared.alloc.Global.{Global}
use Rattle.symbolic_mc.specs.Top.{certificate_limit}
use Rattle.symbolic_mc.proofs.Answered.{failed_read, handed_out, no_certificate, not_held, reread}
use Rattle.symbolic_mc.proofs.Texts.{on_ok, some_of}
use Rattle.symbolic_mc.proofs.top.recheck_file.Goals as goal

pub returns-in_ok-recheck-in-Ok-Some-clause-answer : goal.returns-in_ok-recheck-in-Ok-Some-clause-answer
returns-in_ok-recheck-in-Ok-Some-clause-answer g c =
    reread c.args.cert.now c.in-Ok-Some.bytes.items c.deref.result.now (g.F.Files.held c.args.files.now) _ _ _ c.in_ok-recheck-in-Ok-Some.field-0
    (handed_out (g.F.Files.held c.args.files.now) _ _ _ _ (ap (option_map (λ (b : Vec ℕ Global). b.items)) c.in-Ok-Some.field-0-is) c.in-Ok-Some.ensures.bytes
    (some_of c.in-Ok-Some.field-0 _ (λ (b : Vec ℕ Global). length b.items ≤ certificate_limit) c.in-Ok-Some.field-0-is c.in-Ok-Some.ensures.within))
    c.deref.ensures.value c.in_ok-recheck-in-Ok-Some.ensures.exact c.in_ok-recheck-in-Ok-Some.ensures.refuted c.in-Ok-Some.ensures.keeps

pub returns-in-Ok-None-clause-answer : goal.returns-in-Ok-None-clause-answer
returns-in-Ok-None-clause-answer g c =
    no_certificate c.args.cert.now (g.F.Files.held c.args.files.now) _ _ _
    (not_held (g.F.Files.held c.args.files.now) _ _ (ap (option_map (λ (b : Vec ℕ Global). b.items)) c.in-Ok-None.field-0-is) c.in-Ok-None.ensures.bytes)
    c.in-Ok-None.ensures.keeps

pub returns-in-Err-clause-answer : goal.returns-in-Err-clause-answer
returns-in-Err-clause-answer g c =
    on_ok c.read_fault.result _ _ (λ answer is.
    failed_read _ c.args.cert.now (g.F.Files.held c.args.files.now) _ _ _ c.in-Err.fail answer refl
    (λ e. c.in-Err.ensures.cause.failed (ap Err e)) (λ e. c.in-Err.ensures.too_long (ap Err e)) c.in-Err.ensures.keeps is) c.read_fault.ensures
