use Rattle.std.proofs.Common.{◌≡◌, ◌+◌, ◌-◌, sym, ◌∙◌, ap, subst, arith}
use Rattle.std.proofs.lemmas.List.{take_rest}
use Rattle.tla_lexer.specs.inner.Comments.{begins_with_pair}
use Rattle.tla_lexer.proofs.CommentLemmas.{Knows, knows_start, knows_opens, knows_closes, knows_neither, closed_found, open_found}
use Rattle.tla_lexer.proofs.comments.block_comment.Goals as goal

pub loop-at-init : goal.loop-at-init
loop-at-init c = record { knows = knows_start c.args.bytes.now c.requires; some = omega arith; few = omega arith }

pub loop-at-preserved-in-Opens : goal.loop-at-preserved-in-Opens
loop-at-preserved-in-Opens c =
    let bytes = c.args.bytes.now in
    let i = c.loop-at.invariant in
    let mark = ap (begins_with_pair 40 42) (sym (take_rest bytes c.loop-at.at)) ∙ c.in-Opens.ensures in
    record { knows = knows_opens bytes _ _ i.knows i.some mark; some = omega arith; few = omega (arith, i.few) }

pub returns-then-depth-eq0 : goal.returns-then-depth-eq0
returns-then-depth-eq0 c =
    let bytes = c.args.bytes.now in
    let i = c.loop-at.invariant in
    let mark = ap (begins_with_pair 42 41) (sym (take_rest bytes c.loop-at.at)) ∙ c.in-Closes.ensures in
    let none : c.loop-at.depth - 1 ≡ 0 = c.if-depth-eq0.true in
    closed_found bytes _ c.requires (subst (Knows bytes (c.loop-at.at + 2)) none (knows_closes bytes _ _ i.knows i.some mark))

pub loop-at-preserved-else-depth-eq0 : goal.loop-at-preserved-else-depth-eq0
loop-at-preserved-else-depth-eq0 c =
    let bytes = c.args.bytes.now in
    let i = c.loop-at.invariant in
    let mark = ap (begins_with_pair 42 41) (sym (take_rest bytes c.loop-at.at)) ∙ c.in-Closes.ensures in
    record { knows = knows_closes bytes _ _ i.knows i.some mark; some = omega arith; few = omega (arith, i.few) }

pub loop-at-preserved : goal.loop-at-preserved
loop-at-preserved c =
    let bytes = c.args.bytes.now in
    let i = c.loop-at.invariant in
    let rest = sym (take_rest bytes c.loop-at.at) in
    record {
      knows =
          knows_neither bytes _ _ i.knows i.some c.loop-at-test.true
          (ap (begins_with_pair 40 42) rest ∙ c.in-Neither.ensures.0) (ap (begins_with_pair 42 41) rest ∙ c.in-Neither.ensures.1);
      some = i.some;
      few = omega (arith, i.few);
    }

pub returns : goal.returns
returns c = open_found c.args.bytes.now _ _ c.requires c.loop-at.invariant.knows c.loop-at.invariant.some c.loop-at-test.false
