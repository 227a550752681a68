use Rattle.std.proofs.Common.{◌≡◌, ◌∙◌, ◌+◌, ◌++◌, suc, sym, ap, take, drop, refl, arith}
use Rattle.kernel_shapes.specs.Rows.{put_field}
use Rattle.shape_bounds.specs.inner.Table.{fields_of}
use Rattle.shape_bounds.proofs.Fielded.{put_here, put_more, put_last}
use Rattle.shape_bounds.proofs.records.place_of.Goals as goal

pub loop-i-init : goal.loop-i-init
loop-i-init c = λ a. refl

pub returns-then-is_before : goal.returns-then-is_before
returns-then-is_before c = record {
  within = omega arith;
  put = λ a.
      c.loop-i.invariant a
      ∙ put_here c.args.name.now a c.args.fields.now c.loop-i.i c.index-fields-i.result c.loop-i-test.true (sym c.is_before.ensures ∙ c.if-is_before.true);
}

pub loop-i-preserved : goal.loop-i-preserved
loop-i-preserved c = λ a.
    let one : suc c.loop-i.i ≡ c.loop-i.i + 1 = omega arith in
    c.loop-i.invariant a
    ∙ put_more c.args.name.now a c.args.fields.now c.loop-i.i c.index-fields-i.result c.loop-i-test.true (sym c.is_before.ensures ∙ c.if-is_before.false)
    ∙ ap (λ n. take n (fields_of c.args.fields.now) ++ put_field c.args.name.now a (drop n (fields_of c.args.fields.now))) one

pub returns : goal.returns
returns c = record {
  within = omega arith;
  put = λ a. c.loop-i.invariant a ∙ put_last c.args.name.now a c.args.fields.now c.loop-i.i c.loop-i-test.false;
}
