use Rattle.std.proofs.Common.{length, ◌-◌, ◌<◌}
use Rattle.tla_lexer.proofs.CommentLemmas.{Knows}
use Rattle.tla_lexer.proofs.comments.block_comment.Given as goal

abbrev pub invariant-loop-at : goal.invariant-loop-at
invariant-loop-at l = record { knows : Knows l.bytes l.at l.depth; some : 0 < l.depth; few : l.depth < l.at }

abbrev pub decreases-loop-at : goal.decreases-loop-at
decreases-loop-at l = length l.bytes - l.at
