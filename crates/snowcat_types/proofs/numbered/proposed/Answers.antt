use Rattle.snowcat_types.proofs.NumberSteps.{decimal_text, parsed}
use Rattle.snowcat_types.proofs.numbered.proposed.Goals as goal

pub returns-in-Ok : goal.returns-in-Ok
returns-in-Ok c = λ n lt e. parsed c.args.digits.now c.in-Ok.text.now n c.ok.result c.parse.result lt e c.in-Ok.ensures.cases.0
    c.ok.ensures.value c.parse.ensures.value.0

pub returns-in-Err : goal.returns-in-Err
returns-in-Err c = λ n lt e. absurd (c.in-Err.ensures.cases.0 (decimal_text c.args.digits.now n lt e))
