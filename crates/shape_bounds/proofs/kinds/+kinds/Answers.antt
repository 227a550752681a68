use Rattle.std.proofs.Common.{◌∙◌, ap}
use Rattle.snowcat_rows.specs.declared.types.Ty.{Rec}
use Rattle.shape_bounds.proofs.KindTests.{bool_kind, fields_more, fun_kind, int_kind, kinds_more, named_kind, not_empty, rec_kind, same_kind, seq_kind, set_kind, str_kind, tup_kind}
use Rattle.shape_bounds.proofs.kinds.+kinds.Goals as goal

pub fields_have_kinds-loop-i-preserved : goal.fields_have_kinds-loop-i-preserved
fields_have_kinds-loop-i-preserved t c =
    fields_more c.args.fs.now c.loop-i.i c.index-fs-i.result c.loop-i.invariant c.loop-i-test.true c.index-fs-i.is (c.has_kind.ensures c.if-not-has_kind.false)

pub has_kind-returns-in-Bool : goal.has_kind-returns-in-Bool
has_kind-returns-in-Bool t c = λ h. bool_kind c.args.t.now c.in-Bool.is

pub has_kind-returns-in-Int : goal.has_kind-returns-in-Int
has_kind-returns-in-Int t c = λ h. int_kind c.args.t.now c.in-Int.is

pub has_kind-returns-in-Str : goal.has_kind-returns-in-Str
has_kind-returns-in-Str t c = λ h. str_kind c.args.t.now c.in-Str.is

pub has_kind-returns-in-Named : goal.has_kind-returns-in-Named
has_kind-returns-in-Named t c = λ h. named_kind c.args.t.now c.in-Named.x c.bytes.result.now c.in-Named.is c.bytes.ensures (not_empty c.is_empty.result _ c.is_empty.ensures h)

pub has_kind-returns-in-Set : goal.has_kind-returns-in-Set
has_kind-returns-in-Set t c = λ h. set_kind c.args.t.now c.in-Set.a c.in-Set.is (same_kind _ _ c.get.ensures (c.has_kind.ensures h))

pub has_kind-returns-in-Seq : goal.has_kind-returns-in-Seq
has_kind-returns-in-Seq t c = λ h. seq_kind c.args.t.now c.in-Seq.a c.in-Seq.is (same_kind _ _ c.get-in-Seq.ensures (c.has_kind-in-Seq.ensures h))

pub has_kind-returns-then-has_kind : goal.has_kind-returns-then-has_kind
has_kind-returns-then-has_kind t c = λ h. fun_kind c.args.t.now c.in-Fun.a c.in-Fun.b c.in-Fun.is (same_kind _ _ c.get-in-Fun.ensures (c.has_kind-in-Fun.ensures c.if-has_kind.true)) (same_kind _ _ c.get-then-has_kind.ensures (c.has_kind-then-has_kind.ensures h))

pub has_kind-returns-in-Tup : goal.has_kind-returns-in-Tup
has_kind-returns-in-Tup t c = λ h. tup_kind c.args.t.now c.in-Tup.ts c.as_slice.result.now c.in-Tup.is c.as_slice.ensures (c.have_kinds.ensures h)

pub has_kind-returns-then-has_distinct_names : goal.has_kind-returns-then-has_distinct_names
has_kind-returns-then-has_distinct_names t c = λ h. rec_kind c.args.t.now c.in-Rec.fs c.as_slice-then-has_distinct_names.result.now c.has_distinct_names.result (c.in-Rec.is ∙ ap (Rec c.in-Rec.fs) c.in-None.is) c.as_slice-then-has_distinct_names.ensures c.has_distinct_names.ensures c.if-has_distinct_names.true (c.fields_have_kinds.ensures h)

pub have_kinds-loop-i-preserved : goal.have_kinds-loop-i-preserved
have_kinds-loop-i-preserved t c =
    kinds_more c.args.ts.now c.loop-i.i c.index-ts-i.result c.loop-i.invariant c.loop-i-test.true c.index-ts-i.is (c.has_kind.ensures c.if-not-has_kind.false)
