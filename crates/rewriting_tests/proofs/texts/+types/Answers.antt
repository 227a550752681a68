use Rattle.std.proofs.Common.{subst}
use Rattle.typed_cells.proofs.DefaultCells.{record_type}
use Rattle.rewriting_tests.specs.inner.Among.{AreFieldsAmong, AreTypesAmong, IsTypeAmong}
use Rattle.rewriting_tests.proofs.TypesAmong.{among-bool, among-fun, among-int, among-named, among-rec, among-seq, among-set, among-str, among-tup, fields-all, fields-more, types-all, types-more}
use Rattle.rewriting_tests.proofs.texts.+types.Goals as goal

pub is_type_among-returns-in-Bool : goal.is_type_among-returns-in-Bool
is_type_among-returns-in-Bool t c = λ h. among-bool _ _ c.in-Bool.is

pub is_type_among-returns-in-Int : goal.is_type_among-returns-in-Int
is_type_among-returns-in-Int t c = λ h. among-int _ _ c.in-Int.is

pub is_type_among-returns-in-Str : goal.is_type_among-returns-in-Str
is_type_among-returns-in-Str t c = λ h. among-str _ _ c.in-Str.is

pub is_type_among-returns-in-Named : goal.is_type_among-returns-in-Named
is_type_among-returns-in-Named t c = λ h. among-named _ _ _ c.in-Named.is

pub is_type_among-returns-in-Set : goal.is_type_among-returns-in-Set
is_type_among-returns-in-Set t c = λ h.
    among-set _ _ _ c.in-Set.is (subst (IsTypeAmong _) c.get.ensures (c.is_type_among.ensures h))

pub is_type_among-returns-in-Seq : goal.is_type_among-returns-in-Seq
is_type_among-returns-in-Seq t c = λ h.
    among-seq _ _ _ c.in-Seq.is (subst (IsTypeAmong _) c.get-in-Seq.ensures (c.is_type_among-in-Seq.ensures h))

pub is_type_among-returns-then-is_type_among : goal.is_type_among-returns-then-is_type_among
is_type_among-returns-then-is_type_among t c = λ h.
    among-fun _ _ _ _ c.in-Fun.is
    (subst (IsTypeAmong _) c.get-in-Fun.ensures (c.is_type_among-in-Fun.ensures c.if-is_type_among.true))
    (subst (IsTypeAmong _) c.get-then-is_type_among.ensures (c.is_type_among-then-is_type_among.ensures h))

pub is_type_among-returns-in-Tup : goal.is_type_among-returns-in-Tup
is_type_among-returns-in-Tup t c = λ h.
    among-tup _ _ c.in-Tup.types _ c.in-Tup.is c.as_slice.ensures (c.are_types_among.ensures h)

pub is_type_among-returns-in-None : goal.is_type_among-returns-in-None
is_type_among-returns-in-None t c = λ h.
    among-rec _ _ c.in-Rec.fields _ (record_type _ _ _ c.in-Rec.is c.in-None.is) c.as_slice-list.ensures
    (c.are_fields_among.ensures h)

pub are_types_among-loop-i-init : goal.are_types_among-loop-i-init
are_types_among-loop-i-init t c = tt

pub are_types_among-loop-i-preserved : goal.are_types_among-loop-i-preserved
are_types_among-loop-i-preserved t c =
    types-more _ c.args.types.now c.loop-i.i _ c.loop-i-test.true c.index-types-i.is c.loop-i.invariant
    (c.is_type_among.ensures c.if-not-is_type_among.false)

pub are_types_among-returns : goal.are_types_among-returns
are_types_among-returns t c = λ h. types-all _ _ _ c.loop-i-test.false c.loop-i.invariant

pub are_fields_among-loop-i-init : goal.are_fields_among-loop-i-init
are_fields_among-loop-i-init t c = tt

pub are_fields_among-loop-i-preserved : goal.are_fields_among-loop-i-preserved
are_fields_among-loop-i-preserved t c =
    fields-more _ c.args.fields.now c.loop-i.i _ c.loop-i-test.true c.index-fields-i.is c.loop-i.invariant
    (c.is_text_among.ensures c.if-not-is_text_among.false) (c.is_type_among.ensures c.if-not-is_type_among.false)

pub are_fields_among-returns : goal.are_fields_among-returns
are_fields_among-returns t c = λ h. fields-all _ _ _ c.loop-i-test.false c.loop-i.invariant
