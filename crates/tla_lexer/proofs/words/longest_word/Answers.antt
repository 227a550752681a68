use Rattle.tla_lexer.proofs.WordLemmas.{word_found}
use Rattle.tla_lexer.proofs.words.longest_word.Goals as goal

pub returns : goal.returns
returns c = word_found c.args.bytes.now _ _ c.requires c.word_length-length.ensures c.in_ok-piece.ensures
