use Rattle.std.proofs.Common.{subst, sym}
use Rattle.snowcat_rows.specs.Types.{mean}
use Rattle.snowcat_types.specs.inner.Gathered.{IsNamed}
use Rattle.snowcat_types.proofs.SayingSteps.{arguments_named, not_operator, plain_at, result_named}
use Rattle.snowcat_types.proofs.saying.part_of.Goals as goal

pub returns-then-number-gt0-clause-named : goal.returns-then-number-gt0-clause-named
returns-then-number-gt0-clause-named c = λ h. c.nth_of.ensures.named (arguments_named c.args.t c.in-Oper.ts c.in-Oper.b c.in-Oper.is h)

pub returns-else-number-gt0-clause-named : goal.returns-else-number-gt0-clause-named
returns-else-number-gt0-clause-named c = λ h. subst IsNamed (sym c.into_inner.ensures) (result_named c.args.t c.in-Oper.ts c.in-Oper.b c.in-Oper.is h)

pub returns-then-number-gt0-2 : goal.returns-then-number-gt0-2
returns-then-number-gt0-2 c =
    record {
      part = sym ((plain_at c.args.number (mean c.args.t) (not_operator c.args.t c.in_default.not-Oper)).1 c.if-number-gt0-2.true);
      named
          = λ h. tt;
    }

pub returns-else-number-gt0-2 : goal.returns-else-number-gt0-2
returns-else-number-gt0-2 c =
    record {
      part = sym ((plain_at c.args.number (mean c.args.t) (not_operator c.args.t c.in_default.not-Oper)).0 c.if-number-gt0-2.false);
      named
          = λ h. h;
    }
