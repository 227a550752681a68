use Rattle.tla_lexer.proofs.OneAnswer.{tokens_same, fault_same, apart}
use Rattle.tla_lexer.proofs.lexing.one_answer.Goals as goal

pub returns : goal.returns
returns c = record { run = tokens_same; fault = fault_same; apart = apart }
