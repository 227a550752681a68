use Rattle.std.proofs.Common.{◌∙◌, ap, arith, subst, sym}
use Rattle.std.proofs.lemmas.Grind.{common_steps}
use Rattle.std.proofs.lemmas.Iterator.{YieldsList-from_zip}
use Rattle.std.proofs.lemmas.Iterator.Adapters.{YieldsList-from_vec}
use Rattle.std.proofs.lemmas.Iterator.Consumers.{YieldsList-at, YieldsList-end}
use Rattle.snowcat_types.specs.declared.gathered.Requirement.TheVariants.{Equal}
use Rattle.snowcat_types.proofs.NamedSteps.{PairsNamed, asked_more, pairs_named, pairs_parts}
use Rattle.snowcat_types.proofs.TreeSteps.{asked_next, asked_of, meets_pairs, same_pairs}
use Rattle.snowcat_types.proofs.trees.equals.Goals as goal

pub returns : goal.returns
returns c =
    let n = c.into_iter.ensures.len in
    let m = c.zip-operand-items.ensures.second.1 in
    let e = c.into_vec.ensures in
    let os =
    YieldsList-at c.zip-operand-items.ensures.first
    (YieldsList-from_vec c.args.operands (c.into_iter.ensures.rest ∙ e) (grind (arith, n, e, common_steps))) in
    let ts = YieldsList-from_vec c.args.types.items c.zip-operand-items.ensures.second.0 (grind (arith, m, common_steps)) in
    let all =
    sym (same_pairs c.loop-operand.yielded)
    ∙ (YieldsList-end (YieldsList-at c.into_iter-operand-iterator.ensures.into_iter_gives (YieldsList-from_zip os ts)) c.loop-operand.yielded
    c.loop-operand.operand-iterator c.loop-operand.yielded_by c.next.result c.next.new.self c.in-None.is c.next.ensures.steps).0 in
    record {
      asked = c.loop-operand.invariant.asked ∙ ap asked_of all ∙ meets_pairs c.args.operands c.args.types.items;
      named = λ h k. c.loop-operand.invariant.named (subst PairsNamed (sym all) (pairs_named c.args.operands c.args.types.items h k));
    }

pub loop-operand-preserved : goal.loop-operand-preserved
loop-operand-preserved c = record {
  asked =
      asked_next c.loop-operand.asked.items c.push.new.self.items c.loop-operand.yielded (c.in-Some.operand, c.in-Some.of) c.in_ok-push.ensures.items
      c.loop-operand.invariant.asked;
  named = λ h.
      let k = pairs_parts c.loop-operand.yielded (c.in-Some.operand, c.in-Some.of) h in
      asked_more c.loop-operand.asked.items c.push.new.self.items (Equal c.in-Some.operand.of c.in-Some.of) c.in_ok-push.ensures.items
      (c.loop-operand.invariant.named k.0) k.1;
}
