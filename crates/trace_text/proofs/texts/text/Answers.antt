use Rattle.std.proofs.Common.{arith, rules, subst, sym}
use Rattle.trace_text.proofs.QuotedBytes.{Left, left_all, left_more, left_none}
use Rattle.trace_text.proofs.texts.text.Goals as goal

pub text-init : goal.text-init
text-init c = record {
  reads = λ t r e. subst (λ x. Left x c.args.bytes.now t r) (search rules) (left_all c.args.bytes.now t r e);
  shorter = omega arith;
}

pub text-preserved : goal.text-preserved
text-preserved c = record {
  reads = λ t r e. subst (λ x. Left x c.in-Some.more.now t r) (sym c.in_ok-push.ensures.items)
      (left_more c.text.out.items c.text.rest.now t r c.in-Some.more.now c.in-Some.byte (c.text.invariant.reads t r e) c.in-Some.ensures.1.1 c.in-Some.ensures.0);
  shorter = omega (arith, c.in-Some.ensures.1.0, c.text.invariant.shorter);
}

pub returns-in-Some-behind-clause-reads : goal.returns-in-Some-behind-clause-reads
returns-in-Some-behind-clause-reads c = λ t r e. left_none c.text.out.items c.text.rest.now t r c.in-Some-behind.more.now (c.text.invariant.reads t r e) c.in-Some-behind.ensures
