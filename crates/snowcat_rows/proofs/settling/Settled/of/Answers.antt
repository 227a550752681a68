use Rattle.std.proofs.Common.{◌≡◌, suc, ◌-◌, ◌<◌, length, vec_len, ap, ◌∙◌, sym, arith}
use Rattle.snowcat_rows.specs.Chains.{Variable, key}
use Rattle.snowcat_rows.specs.Codes.{binding, bindings_of}
use Rattle.snowcat_rows.specs.inner.Lookups.{looked}
use Rattle.snowcat_rows.specs.inner.Naming.{all_bound_named, bound_named}
use Rattle.snowcat_rows.specs.inner.Places.{entry}
use Rattle.snowcat_rows.specs.inner.Settling.{under}
use Rattle.snowcat_rows.proofs.Distinct.{passes_more}
use Rattle.snowcat_rows.proofs.Naming.{all_at}
use Rattle.snowcat_rows.proofs.Settles.{all_settled, place_more, settled_more}
use Rattle.snowcat_rows.proofs.settling.Settled.of.Goals as goal

pub loop-at-preserved : goal.loop-at-preserved
loop-at-preserved c =
    let bs = c.args.bindings.now in
    let b = c.index-bindings-at.result in
    let at = c.loop-at.at - 1 in
    let lt : at < length bs = omega (arith, c.loop-at-test.true, c.loop-at.auto.at) in
    let next : c.loop-at.at ≡ suc at = omega (arith, c.loop-at-test.true) in
    let made = c.loop-at.made.items in
    let whole : binding c.in_ok-whole.whole ≡ under (looked (bindings_of c.loop-at.made.items)) (binding b) =
    c.in_ok-whole.ensures.mean ∙ ap (λ l. under (looked (bindings_of l)) (binding b)) c.as_slice.ensures.value in
    let length_is = rw c.as_slice.ensures.value at c.as_slice.ensures.len in
    let count : vec_len c.loop-at.made ≡ length c.loop-at.made.items = omega (arith, length_is) in
    let others : (y : Variable) → (y ≡ key (binding b) → ⊥) → entry c.set.new.self y ≡ entry c.loop-at.places y = λ y n. c.set.ensures.others y (λ k. n (k ∙ c.bound_by.ensures)) in
    record {
      settled = settled_more bs made at c.loop-at.at b lt c.index-bindings-at.is next c.requires.chain c.loop-at.invariant.settled c.in_ok-whole.whole c.push.new.self.items whole c.in_ok-push.ensures.items;
      indexed =
          place_more bs made at c.loop-at.at b lt c.index-bindings-at.is next c.requires.chain c.loop-at.invariant.settled
          (entry c.loop-at.places) (entry c.set.new.self) c.in_ok-whole.whole c.push.new.self.items whole c.in_ok-push.ensures.items
          (ap (entry c.set.new.self) (sym c.bound_by.ensures) ∙ c.in_ok-set.ensures.own ∙ c.len-count.ensures ∙ count) others c.loop-at.invariant.indexed;
      named =
          passes_more bound_named made c.push.new.self.items c.in_ok-whole.whole c.in_ok-push.ensures.items c.loop-at.invariant.named
          (c.in_ok-whole.ensures.named (ap all_bound_named c.as_slice.ensures.value ∙ c.loop-at.invariant.named) (all_at bound_named bs at b b lt c.index-bindings-at.is c.requires.named));
    }

pub returns : goal.returns
returns c = all_settled c.args.bindings.now c.loop-at.made.items c.loop-at.at (omega (arith, c.loop-at-test.false)) c.requires.chain c.loop-at.invariant.settled
