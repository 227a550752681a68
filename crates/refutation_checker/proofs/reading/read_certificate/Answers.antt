use Rattle.std.proofs.Common.{◌≡◌}
use Rattle.std.proofs.lemmas.Result.{err_from_is_err_and}
use Rattle.std.proofs.lemmas.List.Elements.{All-push}
use Rattle.refutation_checker.specs.Certificate.{IsInGrammar, IsCertificate, IsFirstBadLine, first_line}
use Rattle.refutation_checker.specs.Faults.{AtLine}
use Rattle.refutation_checker.specs.inner.Sections.{StopsAtOnce, StopsInSection}
use Rattle.refutation_checker.proofs.Closed.{not_so}
use Rattle.refutation_checker.proofs.Stops.{AtLine-weaker}
use Rattle.refutation_checker.proofs.CertificateStops.{first_stops, section_stops, sections_push, sections_whole, printed_certificate, certificate_same, certificate_good, no_certificate, no_other_line}
use Rattle.refutation_checker.proofs.reading.read_certificate.Goals as goal

pub returns-in_err-fixed_line-clause-bad : goal.returns-in_err-fixed_line-clause-bad
returns-in_err-fixed_line-clause-bad c =
    let p = err_from_is_err_and c.from_residual.result c.from_residual.ensures.1 in
    let stop : AtLine c.in_err-fixed_line.field-0.0 (IsFirstBadLine c.args.bytes.now) = AtLine-weaker c.in_err-fixed_line.field-0.0 (StopsAtOnce (λ line. line ≡ first_line) (record { rest = c.args.bytes.now; taken = 0 })) (IsFirstBadLine c.args.bytes.now) (first_stops c.args.bytes.now) (rw c.new-lines.ensures at c.in_err-fixed_line.ensures) in
    rw (p.1, p.2) (stop)

pub returns-in_err-fixed_line-clause-printed : goal.returns-in_err-fixed_line-clause-printed
returns-in_err-fixed_line-clause-printed c =
    let p = err_from_is_err_and c.from_residual.result c.from_residual.ensures.1 in
    let stop : AtLine c.in_err-fixed_line.field-0.0 (IsFirstBadLine c.args.bytes.now) = AtLine-weaker c.in_err-fixed_line.field-0.0 (StopsAtOnce (λ line. line ≡ first_line) (record { rest = c.args.bytes.now; taken = 0 })) (IsFirstBadLine c.args.bytes.now) (first_stops c.args.bytes.now) (rw c.new-lines.ensures at c.in_err-fixed_line.ensures) in
    λ sections fit is. rw (p.1, p.2) (no_certificate c.args.bytes.now c.in_err-fixed_line.field-0.0 sections stop (printed_certificate c.args.bytes.now sections fit is))

pub returns-in_err-fixed_line-clause-only : goal.returns-in_err-fixed_line-clause-only
returns-in_err-fixed_line-clause-only c =
    let p = err_from_is_err_and c.from_residual.result c.from_residual.ensures.1 in
    let stop : AtLine c.in_err-fixed_line.field-0.0 (IsFirstBadLine c.args.bytes.now) = AtLine-weaker c.in_err-fixed_line.field-0.0 (StopsAtOnce (λ line. line ≡ first_line) (record { rest = c.args.bytes.now; taken = 0 })) (IsFirstBadLine c.args.bytes.now) (first_stops c.args.bytes.now) (rw c.new-lines.ensures at c.in_err-fixed_line.ensures) in
    λ sections q. rw (p.1, p.2) (no_certificate c.args.bytes.now c.in_err-fixed_line.field-0.0 sections stop q)

pub returns-in_err-fixed_line-clause-only_bad : goal.returns-in_err-fixed_line-clause-only_bad
returns-in_err-fixed_line-clause-only_bad c =
    let p = err_from_is_err_and c.from_residual.result c.from_residual.ensures.1 in
    let stop : AtLine c.in_err-fixed_line.field-0.0 (IsFirstBadLine c.args.bytes.now) = AtLine-weaker c.in_err-fixed_line.field-0.0 (StopsAtOnce (λ line. line ≡ first_line) (record { rest = c.args.bytes.now; taken = 0 })) (IsFirstBadLine c.args.bytes.now) (first_stops c.args.bytes.now) (rw c.new-lines.ensures at c.in_err-fixed_line.ensures) in
    λ n b. rw (p.1, p.2) (no_other_line c.args.bytes.now c.in_err-fixed_line.field-0.0 n stop b)

pub returns-in_err-s-clause-bad : goal.returns-in_err-s-clause-bad
returns-in_err-s-clause-bad c =
    let p = err_from_is_err_and c.from_residual-in_err-s.result c.from_residual-in_err-s.ensures.1 in
    let stop : AtLine c.in_err-s.field-0.0 (IsFirstBadLine c.args.bytes.now) = AtLine-weaker c.in_err-s.field-0.0 (StopsInSection c.sections.lines) (IsFirstBadLine c.args.bytes.now) (λ n stop. section_stops c.args.bytes.now c.sections.sections.items c.sections.lines n c.sections.invariant.fit c.sections.invariant.taken (not_so _ c.sections-test.true c.is_done.ensures.1) stop) c.in_err-s.ensures in
    rw (p.1, p.2) (stop)

pub returns-in_err-s-clause-printed : goal.returns-in_err-s-clause-printed
returns-in_err-s-clause-printed c =
    let p = err_from_is_err_and c.from_residual-in_err-s.result c.from_residual-in_err-s.ensures.1 in
    let stop : AtLine c.in_err-s.field-0.0 (IsFirstBadLine c.args.bytes.now) = AtLine-weaker c.in_err-s.field-0.0 (StopsInSection c.sections.lines) (IsFirstBadLine c.args.bytes.now) (λ n stop. section_stops c.args.bytes.now c.sections.sections.items c.sections.lines n c.sections.invariant.fit c.sections.invariant.taken (not_so _ c.sections-test.true c.is_done.ensures.1) stop) c.in_err-s.ensures in
    λ sections fit is. rw (p.1, p.2) (no_certificate c.args.bytes.now c.in_err-s.field-0.0 sections stop (printed_certificate c.args.bytes.now sections fit is))

pub returns-in_err-s-clause-only : goal.returns-in_err-s-clause-only
returns-in_err-s-clause-only c =
    let p = err_from_is_err_and c.from_residual-in_err-s.result c.from_residual-in_err-s.ensures.1 in
    let stop : AtLine c.in_err-s.field-0.0 (IsFirstBadLine c.args.bytes.now) = AtLine-weaker c.in_err-s.field-0.0 (StopsInSection c.sections.lines) (IsFirstBadLine c.args.bytes.now) (λ n stop. section_stops c.args.bytes.now c.sections.sections.items c.sections.lines n c.sections.invariant.fit c.sections.invariant.taken (not_so _ c.sections-test.true c.is_done.ensures.1) stop) c.in_err-s.ensures in
    λ sections q. rw (p.1, p.2) (no_certificate c.args.bytes.now c.in_err-s.field-0.0 sections stop q)

pub returns-in_err-s-clause-only_bad : goal.returns-in_err-s-clause-only_bad
returns-in_err-s-clause-only_bad c =
    let p = err_from_is_err_and c.from_residual-in_err-s.result c.from_residual-in_err-s.ensures.1 in
    let stop : AtLine c.in_err-s.field-0.0 (IsFirstBadLine c.args.bytes.now) = AtLine-weaker c.in_err-s.field-0.0 (StopsInSection c.sections.lines) (IsFirstBadLine c.args.bytes.now) (λ n stop. section_stops c.args.bytes.now c.sections.sections.items c.sections.lines n c.sections.invariant.fit c.sections.invariant.taken (not_so _ c.sections-test.true c.is_done.ensures.1) stop) c.in_err-s.ensures in
    λ n b. rw (p.1, p.2) (no_other_line c.args.bytes.now c.in_err-s.field-0.0 n stop b)

pub sections-preserved : goal.sections-preserved
sections-preserved c = rw c.in_ok-push.ensures.items (record {
  fit = All-push IsInGrammar c.sections.sections.items c.in_ok-s.s c.sections.invariant.fit c.in_ok-s.ensures.0;
  taken = sections_push c.args.bytes.now c.sections.lines c.section.new.lines c.sections.sections.items c.in_ok-s.s c.sections.invariant.taken c.in_ok-s.ensures.1;
})

pub returns-clause-printed : goal.returns-clause-printed
returns-clause-printed c =
    let whole : IsCertificate c.args.bytes.now c.sections.sections.items = sections_whole c.args.bytes.now c.sections.lines c.sections.sections.items c.sections.invariant.fit c.sections.invariant.taken (c.is_done.ensures.0 c.sections-test.false) in
    λ sections fit is. rw c.from_vec.ensures (certificate_same c.args.bytes.now c.sections.sections.items sections whole (printed_certificate c.args.bytes.now sections fit is))

pub returns-clause-only : goal.returns-clause-only
returns-clause-only c =
    let whole : IsCertificate c.args.bytes.now c.sections.sections.items = sections_whole c.args.bytes.now c.sections.lines c.sections.sections.items c.sections.invariant.fit c.sections.invariant.taken (c.is_done.ensures.0 c.sections-test.false) in
    λ sections q. rw c.from_vec.ensures (certificate_same c.args.bytes.now c.sections.sections.items sections whole q)

pub returns-clause-only_bad : goal.returns-clause-only_bad
returns-clause-only_bad c =
    let whole : IsCertificate c.args.bytes.now c.sections.sections.items = sections_whole c.args.bytes.now c.sections.lines c.sections.sections.items c.sections.invariant.fit c.sections.invariant.taken (c.is_done.ensures.0 c.sections-test.false) in
    λ n b. certificate_good c.args.bytes.now n c.sections.sections.items b whole
