use Rattle.std.proofs.Common.{refl}
use mir.Syntax.{w128}
use Rattle.std.proofs.lemmas.Int.{to_z-of_z}
use Rattle.cell_arena.proofs.Growing.{Grows-trans, Grows-formula}
use Rattle.sat_formula.proofs.Extension.{Grows-trans as formula-trans}
use Rattle.word_blaster.proofs.Words.{WordBelow-later}
use Rattle.set_rewriter.proofs.Numbers.{is-candidate}
use Rattle.set_rewriter.proofs.ranges.candidate.Goals as goal

pub word-requires-clause-named : goal.word-requires-clause-named
word-requires-clause-named c = WordBelow-later _ _ _ c.in_ok-word.ensures.exact.below c.in_ok-inside.ensures.grows.vars

pub returns-in_err-id-clause-grows : goal.returns-in_err-id-clause-grows
returns-in_err-id-clause-grows c =
    Grows-trans _ _ _ (Grows-formula _ _ (formula-trans _ _ _ c.in_ok-word.ensures.grows c.in_ok-inside.ensures.grows) refl) c.in_err-id.ensures.grows

pub returns-clause-candidate : goal.returns-clause-candidate
returns-clause-candidate c =
    is-candidate c.args.b.now _ _ _ c.args.x c.args.y _ _ _ _ _ _ _ (to_z-of_z w128 c.args.n c.ranges.n) c.in_ok-inside.ensures.grows c.in_ok-id.ensures.grows c.in_ok-word.ensures.exact (rw c.width-width.ensures.same c.requires.fits)
    c.in_ok-inside.ensures.value c.in_ok-id.ensures.cell c.in_ok-id.ensures.value
