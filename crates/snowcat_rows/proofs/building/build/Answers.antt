use Rattle.std.proofs.Common.{rules, subst}
use Rattle.snowcat_rows.specs.declared.marks.Mark.{Mark}
use Rattle.snowcat_rows.specs.inner.Building.{unknown_mark}
use Rattle.snowcat_rows.specs.inner.Readers.{IsBuilt, Tells, known_of, site_of}
use Rattle.snowcat_rows.proofs.ReadingLaws.{build_more, build_stops}
use Rattle.snowcat_rows.specs.inner.Naming.{mark_named}
use Rattle.snowcat_rows.proofs.Naming.{all_at}
use Rattle.snowcat_rows.proofs.building.build.Goals as goal

pub step-requires-clause-mark : goal.step-requires-clause-mark
step-requires-clause-mark c = all_at mark_named c.args.marks.now c.loop-i.i c.index-marks-i.result c.index-marks-i.result (search rules) c.index-marks-i.is c.requires.marks

pub loop-i-preserved : goal.loop-i-preserved
loop-i-preserved c =
    let k = known_of c.args.known.now in
    let P : Mark → Type 0 = λ z. IsBuilt k z (site_of c.loop-i.builder) (site_of c.step.new.self) in
    (build_more k c.args.marks.now c.loop-i.i c.index-marks-i.result (site_of c.loop-i.builder) (site_of c.step.new.self) (search rules) c.loop-i.invariant.0 (subst P c.index-marks-i.is c.in-Ok.ensures.site), c.in-Ok.ensures.named)

pub returns-in-Err-clause-site : goal.returns-in-Err-clause-site
returns-in-Err-clause-site c =
    let k = known_of c.args.known.now in
    let P : Mark → Type 0 = λ z. Tells (unknown_mark k z) c.in-Err.fault in
    build_stops k c.args.marks.now c.loop-i.i c.index-marks-i.result (site_of c.loop-i.builder) c.in-Err.fault (search rules) c.loop-i.invariant.0 (subst P c.index-marks-i.is c.in-Err.ensures.site)
