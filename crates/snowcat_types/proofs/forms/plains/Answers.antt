use Rattle.snowcat_types.proofs.FormSteps.{plain_more}
use Rattle.snowcat_types.proofs.NamedSteps.{operands_more, types_parts}
use Rattle.snowcat_types.proofs.forms.plains.Goals as goal

pub loop-of-preserved : goal.loop-of-preserved
loop-of-preserved c = record {
  same =
      plain_more c.loop-of.operands.items c.push.new.self.items c.plain.result c.loop-of.yielded c.in-Some.of c.in_ok-push.ensures.items
      c.loop-of.invariant.same c.plain.ensures.mean;
  named = λ h.
      let k = types_parts c.loop-of.yielded c.in-Some.of h in
      operands_more c.loop-of.operands.items c.push.new.self.items c.plain.result c.in_ok-push.ensures.items (c.loop-of.invariant.named k.0)
      (c.plain.ensures.named k.1);
}
