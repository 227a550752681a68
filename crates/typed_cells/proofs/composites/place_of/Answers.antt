use Rattle.std.proofs.Common.{◌≡◌, ◌∙◌, ◌+◌, ◌++◌, suc, sym, ap, take, drop, refl, arith}
use Rattle.typed_cells.specs.FieldOrder.{put_field}
use Rattle.typed_cells.proofs.OrderedFields.{put-behind, put-here, put-last}
use Rattle.typed_cells.proofs.composites.place_of.Goals as goal

pub loop-i-init : goal.loop-i-init
loop-i-init c = λ d. refl

pub returns-then-is_before : goal.returns-then-is_before
returns-then-is_before c = record {
  within = omega arith;
  put = λ d.
      c.loop-i.invariant d
      ∙ put-here c.args.name.now d c.args.fields.now c.loop-i.i c.index-fields-i.result c.loop-i-test.true
      (sym c.is_before.ensures ∙ c.if-is_before.true);
}

pub loop-i-preserved : goal.loop-i-preserved
loop-i-preserved c = λ d.
    let one : suc c.loop-i.i ≡ c.loop-i.i + 1 = omega arith in
    c.loop-i.invariant d
    ∙ put-behind c.args.name.now d c.args.fields.now c.loop-i.i c.index-fields-i.result c.loop-i-test.true
    (sym c.is_before.ensures ∙ c.if-is_before.false)
    ∙ ap (λ n. take n c.args.fields.now ++ put_field c.args.name.now d (drop n c.args.fields.now)) one

pub returns : goal.returns
returns c = record {
  within = omega arith;
  put = λ d. c.loop-i.invariant d ∙ put-last c.args.name.now d c.args.fields.now c.loop-i.i c.loop-i-test.false;
}
