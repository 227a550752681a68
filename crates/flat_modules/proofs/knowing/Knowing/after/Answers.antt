use Rattle.flat_modules.specs.inner.Copies.{copy_of}
use Rattle.flat_modules.proofs.KnowingLemmas.{assume_known, declare_known, define_known}
use Rattle.flat_modules.proofs.knowing.Knowing.after.Goals as goal

pub returns-in_ok-declare-in-Declare : goal.returns-in_ok-declare-in-Declare
returns-in_ok-declare-in-Declare c = λ inside other o s known.
    declare_known inside (copy_of c.args.copy.now) s c.args.unit.now known c.as_slice.result.now c.in-Declare.decls c.in-Declare.is c.as_slice.ensures c.in_ok-declare-in-Declare.ensures

pub returns-in_ok-assume-in-Assume : goal.returns-in_ok-assume-in-Assume
returns-in_ok-assume-in-Assume c = λ inside other o s known.
    assume_known inside (copy_of c.args.copy.now) s c.args.unit.now known c.in-Assume.e c.in-Assume.is c.in_ok-assume-in-Assume.ensures

pub returns-in_ok-define-in-Define : goal.returns-in_ok-define-in-Define
returns-in_ok-define-in-Define c = λ inside other o s known.
    define_known inside (copy_of c.args.copy.now) s c.args.unit.now known c.in-Define.d c.in-Define.local c.in-Define.is c.in_ok-define-in-Define.ensures
