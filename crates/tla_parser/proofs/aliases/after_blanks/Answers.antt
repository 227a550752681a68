use Rattle.std.proofs.Common.{sym, ◌∙◌}
use Rattle.std.proofs.lemmas.List.{take_rest}
use Rattle.tla_lexer.specs.Classes.{is_blank}
use Rattle.tla_parser.proofs.Notes.{past_is}
use Rattle.tla_parser.proofs.aliases.after_blanks.Goals as goal

pub returns : goal.returns
returns c = take_rest c.args.bytes.now c.run_length.result ∙ sym (past_is is_blank c.args.bytes.now c.run_length.result c.run_length.ensures)
