use Rattle.std.proofs.Common.{◌≡◌, take, Some}
use Rattle.snowcat_rows.specs.inner.Machine.{scan, started}
use Rattle.snowcat_rows.specs.inner.Readers.{scan_of}
use Rattle.snowcat_rows.proofs.scanning.scan.Given as goal

abbrev pub invariant-loop-at : goal.invariant-loop-at
invariant-loop-at l = scan started (take l.at l.text) ≡ Some (scan_of l.scanner)
