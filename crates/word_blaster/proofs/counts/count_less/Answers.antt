use Rattle.std.proofs.Common.{List, ap, ap₂, ◌∙◌}
use Rattle.std.specs.Prelude.{nat_lt}
use Rattle.sat_formula.specs.declared.lit.Lit.{Lit}
use Rattle.sat_formula.proofs.Extension.{Satisfies-older}
use Rattle.word_blaster.specs.Word.{number, values}
use Rattle.word_blaster.proofs.CountLemmas.{padded_words}
use Rattle.word_blaster.proofs.counts.count_less.Goals as goal

pub number_below-requires : goal.number_below-requires
number_below-requires c = record {
  words = padded_words c.args.f.now c.args.x.now c.args.y.now _ _ _ _ c.requires.x_below c.requires.y_below c.in_ok-left.ensures c.in_ok-right.ensures c.as_slice.ensures.value c.as_slice-2.ensures.value;
}

pub returns-clause-value : goal.returns-clause-value
returns-clause-value c = record {
  below = c.in_ok-less.ensures.value.below;
  value = λ a s.
      let old = Satisfies-older _ _ a c.in_ok-less.ensures.grows s in
      c.in_ok-less.ensures.value.value a s
      ∙ ap₂ nat_lt (ap (λ (w : List Lit). number (values w a)) c.as_slice.ensures.value ∙ c.in_ok-left.ensures.value a old)
      (ap (λ (w : List Lit). number (values w a)) c.as_slice-2.ensures.value ∙ c.in_ok-right.ensures.value a old);
}
