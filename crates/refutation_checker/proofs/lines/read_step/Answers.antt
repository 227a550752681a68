use Rattle.std.proofs.Common.{Some}
use Rattle.std.specs.Prelude.{decimal, option_copied}
use Rattle.sat_formula.specs.Lit.{IsBelow}
use Rattle.refutation_checker.specs.Certificate.{lit_text, IsHint}
use Rattle.refutation_checker.specs.inner.Reading.{Closes, ClosesNone}
use Rattle.refutation_checker.proofs.LineTexts.{step_uncut, step_no_id, step_no_lits, step_ended, step_no_hints, step_unended, step_made}
use Rattle.refutation_checker.proofs.lines.read_step.Goals as goal

pub returns-in_default : goal.returns-in_default
returns-in_default c = step_uncut c.args.vars c.args.line.now c.in_default.ensures

pub returns-in_default-number : goal.returns-in_default-number
returns-in_default-number c = step_no_id c.args.vars c.args.line.now c.in-Some.id_word.now c.in-Some.words.now c.in-Some.ensures c.in_default-number.ensures

pub returns-in_default-2 : goal.returns-in_default-2
returns-in_default-2 c =
    let none : ClosesNone lit_text (IsBelow c.args.vars) c.in-Some.words.now = rw c.in_default-2.is at c.in_ok-lits.ensures in
    step_no_lits c.args.vars c.args.line.now c.in-Some.id_word.now c.in-Some.words.now c.in-Some.ensures none

pub returns-in_default-behind : goal.returns-in_default-behind
returns-in_default-behind c =
    let read : Closes lit_text (IsBelow c.args.vars) c.in-Some.words.now c.in-Some-2.lits.items (option_copied c.in-Some-2.behind) = rw c.in-Some-2.is at c.in_ok-lits.ensures in
    step_ended c.args.vars c.requires c.args.line.now c.in-Some.id_word.now c.in-Some.words.now c.in-Some-2.lits.items c.in-Some.ensures (rw c.in_default-behind.is at read)

pub returns-in_default-3 : goal.returns-in_default-3
returns-in_default-3 c =
    let read : Closes lit_text (IsBelow c.args.vars) c.in-Some.words.now c.in-Some-2.lits.items (option_copied c.in-Some-2.behind) = rw c.in-Some-2.is at c.in_ok-lits.ensures in
    let closes : Closes lit_text (IsBelow c.args.vars) c.in-Some.words.now c.in-Some-2.lits.items (Some c.in-Some-behind.hint_words.now) = rw c.in-Some-behind.is at read in
    let none : ClosesNone decimal IsHint c.in-Some-behind.hint_words.now = rw c.in_default-3.is at c.in_ok-hints.ensures in
    step_no_hints c.args.vars c.requires c.args.line.now c.in-Some.id_word.now c.in-Some.words.now c.in-Some-2.lits.items c.in-Some-behind.hint_words.now c.in-Some.ensures closes none

pub returns-in-Some-behind-2 : goal.returns-in-Some-behind-2
returns-in-Some-behind-2 c =
    let read : Closes lit_text (IsBelow c.args.vars) c.in-Some.words.now c.in-Some-2.lits.items (option_copied c.in-Some-2.behind) = rw c.in-Some-2.is at c.in_ok-lits.ensures in
    let closes : Closes lit_text (IsBelow c.args.vars) c.in-Some.words.now c.in-Some-2.lits.items (Some c.in-Some-behind.hint_words.now) = rw c.in-Some-behind.is at read in
    let hints : Closes decimal IsHint c.in-Some-behind.hint_words.now c.in-Some-3.hints.items (option_copied c.in-Some-3.behind) = rw c.in-Some-3.is at c.in_ok-hints.ensures in
    step_unended c.args.vars c.requires c.args.line.now c.in-Some.id_word.now c.in-Some.words.now c.in-Some-2.lits.items c.in-Some-behind.hint_words.now c.in-Some-3.hints.items c.in-Some-behind-2.field-0.now c.in-Some.ensures closes (rw c.in-Some-behind-2.is at hints)

pub returns-in-None : goal.returns-in-None
returns-in-None c =
    let read : Closes lit_text (IsBelow c.args.vars) c.in-Some.words.now c.in-Some-2.lits.items (option_copied c.in-Some-2.behind) = rw c.in-Some-2.is at c.in_ok-lits.ensures in
    let closes : Closes lit_text (IsBelow c.args.vars) c.in-Some.words.now c.in-Some-2.lits.items (Some c.in-Some-behind.hint_words.now) = rw c.in-Some-behind.is at read in
    let hints : Closes decimal IsHint c.in-Some-behind.hint_words.now c.in-Some-3.hints.items (option_copied c.in-Some-3.behind) = rw c.in-Some-3.is at c.in_ok-hints.ensures in
    rw (c.from_vec.ensures, c.from_vec-in-None.ensures) (step_made c.args.vars c.args.line.now c.in-Some.id_word.now c.in-Some.words.now c.in-Some-number.id c.in-Some-2.lits.items c.in-Some-behind.hint_words.now c.in-Some-3.hints.items c.in-Some.ensures c.in-Some-number.ensures closes (rw c.in-None.is at hints))
