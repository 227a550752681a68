use Rattle.function_rewriter.proofs.Makes.{made-by}
use Rattle.function_rewriter.proofs.laws.functions_are_made.Goals as goal

pub returns : goal.returns
returns c = record { made = made-by }
