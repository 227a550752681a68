use Rattle.std.proofs.Common.{ap, sym, not, ◌∙◌}
use Rattle.tla_parser.proofs.ReadAhead.{one_more}
use Rattle.tla_parser.specs.inner.Recognition.{Status}
use Rattle.tla_parser.specs.inner.Standings.{standing_of}
use Rattle.tla_parser.proofs.ahead.stick.Goals as goal

pub returns-then-is_stuck-clause-stuck : goal.returns-then-is_stuck-clause-stuck
returns-then-is_stuck-clause-stuck c = (
  c.loop-i-test.true,
  ap (λ (st : Status). not (standing_of st).stuck) (sym c.loop-i.invariant.0) ∙ ap not c.loop-i.invariant.1,
  ap (λ (st : Status). not (standing_of st).stuck)
      (sym (one_more c.args.tokens.now c.loop-i.i c.index-tokens-i.result _ _ c.loop-i-test.true c.index-tokens-i.is c.loop-i.invariant.0 c.in_ok-mode.ensures))
      ∙ ap not (sym c.is_stuck.ensures ∙ c.if-is_stuck.true),
)

pub loop-i-preserved : goal.loop-i-preserved
loop-i-preserved c =
    (one_more c.args.tokens.now c.loop-i.i c.index-tokens-i.result _ _ c.loop-i-test.true c.index-tokens-i.is c.loop-i.invariant.0 c.in_ok-mode.ensures, sym c.is_stuck.ensures ∙ c.if-is_stuck.false)
