use Rattle.tla_lexer.proofs.OneAnswer.{answer_run, answer_fault}
use Rattle.tla_lexer.proofs.SomeTokens.{some_found}
use Rattle.tla_lexer.proofs.lexing.tokens.Goals as goal

pub returns-in-Some : goal.returns-in-Some
returns-in-Some c =
    let run = c.module_tokens.ensures.run in
    let fault = c.module_tokens.ensures.fault in
    record {
      run = run;
      some = some_found c.args.file c.args.bytes.now c.module_tokens.result run;
      fault = fault;
      one_run = answer_run c.args.file c.args.bytes.now c.module_tokens.result run fault;
      one_fault = answer_fault c.args.file c.args.bytes.now c.module_tokens.result run fault;
    }
