use Rattle.std.proofs.Common.{◌≤◌, ◌∙◌, ap, Some, length, arith, rules}
use Rattle.tla_lexer.specs.declared.pieces.Piece.TheVariants.{LineComment, BlockComment}
use Rattle.tla_lexer.proofs.CommentSizes.{has_room}
use Rattle.tla_lexer.proofs.lexing.take_in.Goals as goal
use Rattle.tla_lexer.proofs.lexing.take_in.Goals.{In-LineComment, In-BlockComment}

line_room : (c : In-LineComment) → 2 ≤ length c.args.spelling.now
line_room c = has_room c.args.spelling.now LineComment (c.requires ∙ ap Some c.in-LineComment.is)

block_room : (c : In-BlockComment) → 4 ≤ length c.args.spelling.now
block_room c = has_room c.args.spelling.now BlockComment (c.requires ∙ ap Some c.in-BlockComment.is)

pub slice_bounds-push-count : goal.slice_bounds-push-count
slice_bounds-push-count c = line_room (goal.at.slice_bounds-push-count c).In-LineComment

pub slice_bounds-push-start : goal.slice_bounds-push-start
slice_bounds-push-start c = let room = line_room (goal.at.slice_bounds-push-start c).In-LineComment in search rules

pub overflow_sub-spelling : goal.overflow_sub-spelling
overflow_sub-spelling c = let room = block_room (goal.at.overflow_sub-spelling c).In-BlockComment in omega arith

pub slice_bounds-push-count-in-BlockComment : goal.slice_bounds-push-count-in-BlockComment
slice_bounds-push-count-in-BlockComment c = let room = block_room (goal.at.slice_bounds-push-count-in-BlockComment c).In-BlockComment in omega arith

pub slice_bounds-push-start-in-BlockComment : goal.slice_bounds-push-start-in-BlockComment
slice_bounds-push-start-in-BlockComment c = let room = block_room (goal.at.slice_bounds-push-start-in-BlockComment c).In-BlockComment in search rules
