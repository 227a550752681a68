use Rattle.std.proofs.Common.{arith, ◌-◌, ◌∙◌, ap, sym}
use Rattle.tla_meaning.specs.ReadingOrder.{is_among}
use Rattle.tla_meaning.specs.Scopes.{find_last}
use Rattle.flat_modules.proofs.Courses.{mention_inside}
use Rattle.flat_modules.proofs.gathering.Sources.+mention.Goals as goal

pub mention-returns-in-Some : goal.mention-returns-in-Some
mention-returns-in-Some t c =
    mention_inside (c.args.depth - 1) c.args.self.modules.now c.args.chain.now c.args.name.now c.args.read.items c.in-Some.source.now c.args.depth c.inside.result
    (omega arith) (sym c.is_among.ensures ∙ c.if-is_among.false)
    (ap (is_among c.args.name.now) (sym c.deref.ensures.value) ∙ sym c.is_among-2.ensures ∙ c.if-is_among-2.false)
    (λ e. c.if-len-eq-MOST_MODULES.false (omega (arith, c.args.read.ok.0)))
    (c.in-Some.ensures ∙ ap (λ x. find_last x c.args.self.modules.now) c.bytes.ensures)
    c.inside.ensures
