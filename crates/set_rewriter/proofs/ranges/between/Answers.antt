use Rattle.sat_formula.proofs.Extension.{Satisfies-older}
use Rattle.cell_merge.proofs.Edges.{negated-value}
use Rattle.set_rewriter.proofs.Numbers.{cell-word, two-words, word-later, lies-value}
use Rattle.set_rewriter.proofs.ranges.between.Goals as goal

pub less-requires-clause-words : goal.less-requires-clause-words
less-requires-clause-words c = two-words _ _ _ _ c.requires.word (cell-word c.args.arena.now c.args.formula.now _ _ _ c.requires.over.fits c.kind.ensures.held c.in-Word.is)

pub less-requires-2-clause-words : goal.less-requires-2-clause-words
less-requires-2-clause-words c =
    let grows = c.in_ok-under.ensures.grows.vars in
    two-words _ _ _ _ (word-later _ _ _ _ (cell-word c.args.arena.now c.args.formula.now _ _ _ c.requires.over.fits c.kind-2.ensures.held c.in-Word-kind.is) grows) (word-later _ _ _ _ c.requires.word grows)

pub returns-clause-value : goal.returns-clause-value
returns-clause-value c = record {
  below = c.in_ok-inside.ensures.value.below;
  value = λ a s2.
      let s1 = Satisfies-older _ _ a c.in_ok-inside.ensures.grows s2 in
      let s0 = Satisfies-older _ _ a c.in_ok-over.ensures.grows s1 in
      lies-value c.args.arena.now a c.args.x c.args.y _ _ c.in-Word.v c.in-Word-kind.w c.args.word.now _ _ _ _ _ (c.kind.ensures.decodes a) (c.kind-2.ensures.decodes a) c.in-Word.is c.in-Word-kind.is
      (c.in_ok-inside.ensures.value.value a s2) (negated-value _ _ a c.negated.ensures) (negated-value _ _ a c.negated-2.ensures) (c.in_ok-under.ensures.value.value a s0) (c.in_ok-over.ensures.value.value a s1);
}
