use Rattle.std.proofs.Common.{◌∙◌, ap}
use Rattle.std.proofs.lemmas.List.{take_rest}
use Rattle.tla_lexer.specs.Header.{says_module}
use Rattle.tla_lexer.proofs.HeaderLemmas.{says_behind}
use Rattle.tla_lexer.proofs.header.says_module.Goals as goal

pub returns : goal.returns
returns c = says_behind c.args.rest.now _ _ c.run_length.ensures (c.is_module_word.ensures ∙ ap says_module (take_rest c.args.rest.now c.run_length.result))
