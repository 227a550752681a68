use Rattle.std.proofs.Common.{ℕ, ◌≡◌, ◌-◌, take, drop, ap, ◌∙◌, arith}
use Rattle.std.proofs.lemmas.List.{length-drop, take_all}
use Rattle.sequence_rewriter.specs.inner.Lengths.{places_of}
use Rattle.sequence_rewriter.proofs.Bits.{places-more}
use Rattle.sequence_rewriter.proofs.ends.places_from.Goals as goal

pub loop-p-init : goal.loop-p-init
loop-p-init c = let e : 0 ≡ c.args.from - c.args.from = omega arith in c.new-out.ensures.items ∙ ap (λ (n : ℕ). take n (drop c.args.from (places_of c.args.arena.now c.args.s))) e

pub loop-p-preserved : goal.loop-p-preserved
loop-p-preserved c =
    let n = c.part_count-p-end.ensures in
    places-more (places_of c.args.arena.now c.args.s) c.args.from c.loop-p.p _ _ _ c.loop-p.auto.p (omega arith) c.loop-p.invariant (c.part_at-place.ensures.part c.part_at-place.result) c.in_ok-push.ensures.items

pub returns : goal.returns
returns c =
    let n = c.part_count-p-end.ensures in
    let m = length-drop c.args.from (places_of c.args.arena.now c.args.s) in
    c.loop-p.invariant ∙ take_all (c.loop-p.p - c.args.from) (drop c.args.from (places_of c.args.arena.now c.args.s)) (omega arith)
