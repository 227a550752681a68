use Rattle.std.proofs.Common.{List, subst, Result, Vec, Global}
use Rattle.std.specs.Prelude.{ℕ, MatchResult}
use Rattle.snowcat_rows.specs.declared.marks.Mark.{Mark}
use Rattle.snowcat_rows.specs.TypeTexts.{IsBadAt}
use Rattle.snowcat_rows.specs.Types.{mean}
use Rattle.snowcat_rows.specs.inner.Building.{unknown_in}
use Rattle.snowcat_rows.specs.inner.Readers.{AreBuilt, AreMarks, Tells, known_of, site_of}
use Rattle.snowcat_rows.proofs.ReadingLaws.{is_unknown, is_whole}
use Rattle.std.proofs.Common.{ap, ◌∙◌}
use Rattle.std.specs.List.{list_all}
use Rattle.snowcat_rows.specs.inner.Naming.{mark_named}
use Rattle.snowcat_rows.proofs.Naming.{are_marks_named}
use Rattle.snowcat_rows.proofs.reading.read_by.Goals as goal

pub build-requires-clause-marks : goal.build-requires-clause-marks
build-requires-clause-marks c =
    let P : Result (Vec Mark Global) ℕ → Type 0 = λ z. MatchResult z (λ ms. AreMarks c.args.text.now ms.items) (IsBadAt c.args.text.now) in
    ap (list_all mark_named) c.as_slice.ensures.value ∙ are_marks_named c.args.text.now c.in-Ok.marks.items (subst P c.in-Ok.is c.in_ok-at.ensures)

pub returns-in-Err-build-clause-read : goal.returns-in-Err-build-clause-read
returns-in-Err-build-clause-read c =
    let k = known_of c.args.known.now in
    let P : Result (Vec Mark Global) ℕ → Type 0 = λ z. MatchResult z (λ ms. AreMarks c.args.text.now ms.items) (IsBadAt c.args.text.now) in
    let T : List Mark → Type 0 = λ z. Tells (unknown_in k z) c.in-Err-build.fault in
    is_unknown k c.args.text.now c.in-Ok.marks.items c.in-Err-build.fault (subst P c.in-Ok.is c.in_ok-at.ensures) (subst T c.as_slice.ensures.value c.in-Err-build.ensures.site)

pub returns-clause-read : goal.returns-clause-read
returns-clause-read c =
    let k = known_of c.args.known.now in
    let w = c.in_ok-whole-in-Ok-build.whole in
    let P : Result (Vec Mark Global) ℕ → Type 0 = λ z. MatchResult z (λ ms. AreMarks c.args.text.now ms.items) (IsBadAt c.args.text.now) in
    let T : List Mark → Type 0 = λ z. AreBuilt k z (site_of c.in-Ok-build.builder) in
    is_whole k c.args.text.now c.in-Ok.marks.items (site_of c.in-Ok-build.builder) (mean w.of) w.count (subst P c.in-Ok.is c.in_ok-at.ensures) (subst T c.as_slice.ensures.value c.in-Ok-build.ensures.site) c.in_ok-whole-in-Ok-build.ensures.site
