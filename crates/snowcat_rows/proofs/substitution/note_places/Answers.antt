use Rattle.std.proofs.Common.{◌≡◌, ◌+◌, ◌∙◌, ap, sym, arith}
use Rattle.snowcat_rows.specs.Chains.{Variable, key}
use Rattle.snowcat_rows.specs.Codes.{binding}
use Rattle.snowcat_rows.specs.inner.Places.{entry}
use Rattle.snowcat_rows.proofs.Indexes.{indexed_front, indexed_kept, indexed_next}
use Rattle.snowcat_rows.proofs.substitution.note_places.Goals as goal

pub returns-in_err-set-clause-old : goal.returns-in_err-set-clause-old
returns-in_err-set-clause-old c =
    let b = c.index-bindings-i.result in
    let others : (y : Variable) → (y ≡ key (binding b) → ⊥) → entry c.set.new.self y ≡ entry c.loop-i.places y = λ y n. c.set.ensures.others y (λ k. n (k ∙ c.bound_by.ensures)) in
    indexed_front (entry c.set.new.self) 0 c.args.mark c.loop-i.i c.args.bindings.now (omega arith)
    (indexed_kept (entry c.loop-i.places) (entry c.set.new.self) 0 c.loop-i.i c.args.bindings.now b c.requires.chain c.loop-i-test.true c.index-bindings-i.is others c.loop-i.invariant)

pub loop-i-preserved : goal.loop-i-preserved
loop-i-preserved c =
    let b = c.index-bindings-i.result in
    let others : (y : Variable) → (y ≡ key (binding b) → ⊥) → entry c.set.new.self y ≡ entry c.loop-i.places y = λ y n. c.set.ensures.others y (λ k. n (k ∙ c.bound_by.ensures)) in
    indexed_next (entry c.loop-i.places) (entry c.set.new.self) c.loop-i.i (c.loop-i.i + 1) c.args.bindings.now b c.requires.chain c.loop-i-test.true c.index-bindings-i.is (omega arith)
    (ap (entry c.set.new.self) (sym c.bound_by.ensures) ∙ c.in_ok-set.ensures.own) others c.loop-i.invariant

pub returns-clause-old : goal.returns-clause-old
returns-clause-old c = indexed_front (entry c.loop-i.places) 0 c.args.mark c.loop-i.i c.args.bindings.now (omega arith) c.loop-i.invariant
