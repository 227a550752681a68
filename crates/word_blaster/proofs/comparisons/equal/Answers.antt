use Rattle.std.proofs.Common.{List, subst, ap, arith, sym, ◌∙◌}
use Rattle.std.specs.Prelude.{◌==◌}
use Rattle.sat_formula.specs.declared.lit.Lit.{Lit}
use Rattle.word_blaster.specs.Word.{number, values}
use Rattle.std.specs.List.{list_all}
use Rattle.sat_formula.specs.Lit.{lit_value}
use Rattle.sat_formula.proofs.Extension.{Satisfies-older}
use Rattle.word_blaster.specs.Word.{WordBelow}
use Rattle.word_blaster.proofs.Words.{values-length}
use Rattle.word_blaster.proofs.Signs.{signed_same}
use Rattle.word_blaster.proofs.comparisons.equal.Goals as goal

pub and_all-requires : goal.and_all-requires
unfolding WordBelow
and_all-requires c = subst (λ (w : List Lit). WordBelow c.agreements.new.f.vars w) (sym c.as_slice.ensures.value) c.in_ok-agree.ensures.below

pub returns-clause-value : goal.returns-clause-value
returns-clause-value c = record {
  below = c.in_ok-same.ensures.value.below;
  value = λ a s1.
      let s0 = Satisfies-older _ _ a c.in_ok-same.ensures.grows s1 in
      let x = c.args.x.now in
      let y = c.args.y.now in
      c.in_ok-same.ensures.value.value a s1
      ∙ ap (λ (w : List Lit). list_all (λ l. lit_value l a) w) c.as_slice.ensures.value
      ∙ c.in_ok-agree.ensures.value a s0
      ∙ ap (λ (w : List Lit). number (values w a) == number (values c.lits-2.result.now a)) c.lits.ensures
      ∙ ap (λ (w : List Lit). number (values x a) == number (values w a)) c.lits-2.ensures
      ∙ signed_same (values x a) (values y a) (omega (arith, values-length x a)) (values-length x a ∙ c.requires.words.same ∙ sym (values-length y a));
}
