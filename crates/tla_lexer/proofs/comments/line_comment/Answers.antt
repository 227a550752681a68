use Rattle.tla_lexer.proofs.CommentLemmas.{line_found}
use Rattle.tla_lexer.proofs.comments.line_comment.Goals as goal

pub returns : goal.returns
returns c = line_found c.args.bytes.now _ c.requires c.line_length-length.ensures
