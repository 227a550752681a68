use Rattle.tla_lexer.proofs.Blanks.{blanks_found}
use Rattle.tla_lexer.proofs.longest.blanks.Goals as goal

pub returns : goal.returns
returns c = blanks_found c.args.bytes.now _ c.requires c.run_length-length.ensures
