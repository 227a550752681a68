use Rattle.refutation_checker.proofs.Closed.{none_here, none_closing, not_so}
use Rattle.refutation_checker.proofs.Literals.{lits_are_words}
use Rattle.refutation_checker.proofs.words.lits.Goals as goal

pub returns-in_default-lit : goal.returns-in_default-lit
returns-in_default-lit c =
    none_here (lits_are_words c.args.vars c.requires) c.words.lits.items c.args.text.now c.words.rest.now c.in-Some.word.now c.in-Some.more.now c.words.invariant.fit c.words.invariant.read c.in-Some.ensures (not_so _ c.if-is.false c.is.ensures.1) c.in_default-lit.ensures

pub returns : goal.returns
returns c =
    none_closing (lits_are_words c.args.vars c.requires) c.words.lits.items c.args.text.now c.words.rest.now c.words.invariant.fit c.words.invariant.read c.in_default.ensures (not_so _ c.if-is-2.false c.is-2.ensures.1)
