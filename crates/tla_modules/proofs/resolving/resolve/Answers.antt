use Rattle.std.proofs.Common.{[], MatchResult, sym, subst}
use Rattle.tla_modules.specs.Answers.{IsFlatModule}
use Rattle.tla_modules.specs.Refusals.{IsRefused}
use Rattle.tla_modules.specs.Sources.{AreRead, AreWhole}
use Rattle.tla_modules.specs.inner.Reading.{IsStop}
use Rattle.tla_modules.proofs.OneFlat.{no_refusal, one_answer}
use Rattle.tla_modules.proofs.Readings.{counted_same}
use Rattle.tla_modules.proofs.resolving.resolve.Goals as goal

pub returns-in-Ok-clause-one : goal.returns-in-Ok-clause-one
returns-in-Ok-clause-one g c = λ f told is.
    let H = g.F.Files.held c.args.files.now in
    one_answer c.joined.result told is
    (subst (λ r. MatchResult c.joined.result (IsFlatModule H r) (IsRefused H r)) c.as_bytes-root.ensures.value
    (c.joined.ensures.answer H
    (subst (λ l. AreRead H c.as_bytes-root.result.now [] l) (sym c.deref.ensures.value) c.in-Ok.ensures.read)
    (subst (λ l. AreWhole l c.as_bytes-root.result.now) (sym c.deref.ensures.value) c.in-Ok.ensures.ended)))

pub returns-clause-counted : goal.returns-clause-counted
returns-clause-counted g c = counted_same _ _ c.in-Err.stop.fault c.refusal.result.fault c.refusal.ensures.fault c.in-Err.ensures.counted

pub returns-clause-answer : goal.returns-clause-answer
returns-clause-answer g c =
    let H = g.F.Files.held c.args.files.now in
    subst (λ r. IsRefused H r c.refusal.result) c.as_bytes-root.ensures.value
    (c.refusal.ensures.refused H
    (subst (λ l. AreRead H c.as_bytes-root.result.now [] l) (sym c.deref-in-Err.ensures.value) c.in-Err.ensures.read)
    (subst (λ l. IsStop H c.as_bytes-root.result.now l c.in-Err.stop) (sym c.deref-in-Err.ensures.value) c.in-Err.ensures.ended))

pub returns-clause-one : goal.returns-clause-one
returns-clause-one g c = λ f told is.
    let H = g.F.Files.held c.args.files.now in
    no_refusal H c.args.root.now f c.refusal.result told is (subst (λ r. IsRefused H r c.refusal.result) c.as_bytes-root.ensures.value
    (c.refusal.ensures.refused H
    (subst (λ l. AreRead H c.as_bytes-root.result.now [] l) (sym c.deref-in-Err.ensures.value) c.in-Err.ensures.read)
    (subst (λ l. IsStop H c.as_bytes-root.result.now l c.in-Err.stop) (sym c.deref-in-Err.ensures.value) c.in-Err.ensures.ended)))
