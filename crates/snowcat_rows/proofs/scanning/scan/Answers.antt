use Rattle.std.proofs.Common.{rules, ◌≤◌, Some, length, ap, sym, ◌∙◌, take_all}
use Rattle.snowcat_rows.specs.inner.Machine.{scan, started}
use Rattle.snowcat_rows.specs.inner.Readers.{scan_of}
use Rattle.snowcat_rows.proofs.scanning.scan.Goals as goal
use Rattle.snowcat_rows.proofs.ScanSteps.{scan_more, bad_at, are_marks, bad_end}

pub returns-then-not-branch : goal.returns-then-not-branch
returns-then-not-branch c = bad_at c.args.text.now c.loop-at.at 0 (scan_of c.loop-at.scanner) (search rules) c.loop-at.invariant (search rules)

pub loop-at-preserved : goal.loop-at-preserved
loop-at-preserved c = scan_more c.args.text.now c.loop-at.at 0 (scan_of c.loop-at.scanner) (Some (scan_of c.next.new.self)) (search rules) c.loop-at.invariant (search rules)

pub returns-in-Some : goal.returns-in-Some
returns-in-Some c =
    let le : length c.args.text.now ≤ c.loop-at.at = search rules in
    are_marks c.args.text.now (scan_of c.loop-at.scanner) c.in-Some.marks.items (ap (λ z. scan started z) (sym (take_all c.loop-at.at c.args.text.now le)) ∙ c.loop-at.invariant) (search rules)

pub returns-in-None : goal.returns-in-None
returns-in-None c =
    let le : length c.args.text.now ≤ c.loop-at.at = search rules in
    bad_end c.args.text.now (scan_of c.loop-at.scanner) (ap (λ z. scan started z) (sym (take_all c.loop-at.at c.args.text.now le)) ∙ c.loop-at.invariant) (search rules)
