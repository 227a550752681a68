use Rattle.refutation_checker.proofs.Closed.{none_here, none_closing, not_so}
use Rattle.refutation_checker.proofs.Literals.{hints_are_words}
use Rattle.refutation_checker.proofs.words.hints.Goals as goal

pub returns-in_default-hint : goal.returns-in_default-hint
returns-in_default-hint c =
    none_here hints_are_words c.words.hints.items c.args.text.now c.words.rest.now c.in-Some.word.now c.in-Some.more.now c.words.invariant.fit c.words.invariant.read c.in-Some.ensures (not_so _ c.if-is.false c.is.ensures.1) c.in_default-hint.ensures

pub returns : goal.returns
returns c =
    none_closing hints_are_words c.words.hints.items c.args.text.now c.words.rest.now c.words.invariant.fit c.words.invariant.read c.in_default.ensures (not_so _ c.if-is-2.false c.is-2.ensures.1)
