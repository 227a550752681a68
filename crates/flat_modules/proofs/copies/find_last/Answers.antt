use Rattle.std.proofs.Common.{arith, ◌≡◌, ◌+◌, ◌-◌, ◌<◌, length, sym, ap, ◌∙◌}
use Rattle.tla_meaning.specs.Scopes.{same_text}
use Rattle.flat_modules.proofs.Finding.{last_hit, last_miss}
use Rattle.flat_modules.proofs.copies.find_last.Goals as goal

pub returns-then-same_bytes : goal.returns-then-same_bytes
returns-then-same_bytes g c =
    let up : c.loop-i.i ≡ (c.loop-i.i - 1) + 1 = omega arith in
    let lt : c.loop-i.i - 1 < length c.args.items.now = omega arith in
    sym (last_hit c.args.name.now c.args.items.now (c.loop-i.i - 1) c.loop-i.i c.index-items-i.result up lt c.index-items-i.is
    (ap (same_text c.args.name.now) (sym c.bytes.ensures) ∙ sym c.same_bytes.ensures ∙ c.if-same_bytes.true))
    ∙ c.loop-i.invariant.1

pub loop-i-preserved : goal.loop-i-preserved
loop-i-preserved g c =
    let up : c.loop-i.i ≡ (c.loop-i.i - 1) + 1 = omega arith in
    let lt : c.loop-i.i - 1 < length c.args.items.now = omega arith in (
      omega arith,
      sym (last_miss c.args.name.now c.args.items.now (c.loop-i.i - 1) c.loop-i.i c.index-items-i.result up lt c.index-items-i.is
          (ap (same_text c.args.name.now) (sym c.bytes.ensures) ∙ sym c.same_bytes.ensures ∙ c.if-same_bytes.false))
          ∙ c.loop-i.invariant.1,
    )
