use Rattle.std.proofs.Common.{rules, pos}
use Rattle.word_blaster.specs.Word.{IsExact}
use Rattle.sequence_rewriter.proofs.Counted.{number-cell}
use Rattle.sequence_rewriter.proofs.domains.number_cell.Goals as goal

pub returns-clause-number : goal.returns-clause-number
returns-clause-number c =
    let exact : IsExact c.literal.new.f c.width-width.result c.in_ok-word.word c.in_ok-word.field-0-1 (λ a. pos c.args.n) = search (rules, c.in_ok-word.ensures.exact) in
    let r = c.in_ok-id.ensures in
    number-cell _ _ c.args.n _ _ _ _ c.width-width.ensures.same exact r.cell r.grows r.value
