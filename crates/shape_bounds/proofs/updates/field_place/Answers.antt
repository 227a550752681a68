use Rattle.std.proofs.Common.{◌≡◌, ◌+◌, length, suc, ◌∙◌, sym, ap, drop, refl, arith, subst, ℕ}
use Rattle.tla_meaning.proofs.Views.{false≢true}
use Rattle.shape_bounds.specs.inner.Updated.{IsFieldAt}
use Rattle.shape_bounds.proofs.IndexJoins.{field_here, field_more, field_none}
use Rattle.shape_bounds.proofs.updates.field_place.Goals as goal

pub loop-i-init : goal.loop-i-init
loop-i-init c = λ p h. let e : p ≡ p + 0 = omega arith in subst (λ (n : ℕ). IsFieldAt c.args.name.now c.args.fields.now n) e h

pub loop-i-preserved : goal.loop-i-preserved
loop-i-preserved c = λ p h.
    let one : c.loop-i.i + 1 ≡ suc c.loop-i.i = omega arith in
    let e : suc p + c.loop-i.i ≡ p + (c.loop-i.i + 1) = omega arith in
    subst (λ (n : ℕ). IsFieldAt c.args.name.now c.args.fields.now n) e
    (c.loop-i.invariant (suc p)
    (field_more c.args.name.now c.args.fields.now c.loop-i.i c.index-fields-i.result c.loop-i-test.true c.index-fields-i.is (λ s. false≢true (c.if-same_text.ensures.1 (s ∙ ap (λ f. f.0) c.index-fields-i.is))) p
    (subst (λ (n : ℕ). IsFieldAt c.args.name.now (drop n c.args.fields.now) p) one h)))

pub returns-then-same_text : goal.returns-then-same_text
returns-then-same_text c =
    let e : 0 + c.loop-i.i ≡ c.loop-i.i = omega arith in
    subst (λ (n : ℕ). IsFieldAt c.args.name.now c.args.fields.now n) e
    (c.loop-i.invariant 0
    (field_here c.args.name.now c.args.fields.now c.loop-i.i c.index-fields-i.result c.loop-i-test.true c.index-fields-i.is (c.if-same_text.ensures.0 refl ∙ sym (ap (λ f. f.0) c.index-fields-i.is))))

pub returns : goal.returns
returns c =
    let e : 0 + c.loop-i.i ≡ length c.args.fields.now = omega arith in
    subst (λ (n : ℕ). IsFieldAt c.args.name.now c.args.fields.now n) e
    (c.loop-i.invariant 0 (field_none c.args.name.now c.args.fields.now c.loop-i.i (omega arith)))
