use Rattle.std.proofs.Common.{All, length}
use Rattle.refutation_checker.specs.Certificate.{IsInGrammar, certificate_lines}
use Rattle.refutation_checker.specs.inner.Sections.{Takes}
use Rattle.refutation_checker.proofs.reading.read_certificate.Given as goal

abbrev pub invariant-sections : goal.invariant-sections
invariant-sections l = record {
  fit : All IsInGrammar l.sections.items;
  taken : Takes (record { rest = l.fn.bytes; taken = 0 }) l.lines (certificate_lines l.sections.items);
}

abbrev pub decreases-sections : goal.decreases-sections
decreases-sections l = length l.lines.rest
