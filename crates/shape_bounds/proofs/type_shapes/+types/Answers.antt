use Rattle.std.proofs.Common.{◌∙◌, ap, ap₂, map, rules}
use Rattle.std.proofs.lemmas.Int.{to_z-of_z}
use mir.Syntax.{w128}
use mir.Val.{SFits}
use Rattle.snowcat_rows.specs.declared.types.Ty.{Rec as rec_ty}
use Rattle.kernel_shapes.specs.Codes.{mean}
use Rattle.kernel_shapes.specs.Shape.{Fun, Num, Seq, Set, Tup, shapes}
use Rattle.shape_bounds.proofs.Means.{mean-Atom, mean-Num, mean-Tup}
use Rattle.shape_bounds.proofs.TypeShapes.{field_more, field_whole, first_more, first_whole, of_bool, of_fun, of_int, of_named, of_rec, of_seq, of_set, of_str, of_tup}
use Rattle.shape_bounds.proofs.type_shapes.+types.Goals as goal

pub type_shapes-loop-i-preserved : goal.type_shapes-loop-i-preserved
type_shapes-loop-i-preserved t c =
    first_more c.args.bounds c.args.ts.now c.loop-i.i c.index-ts-i.result c.in_ok-shape.shape c.loop-i.shapes.items c.push.new.self.items c.loop-i.invariant c.loop-i-test.true c.index-ts-i.is
    c.in_ok-shape.ensures c.in_ok-push.ensures.items

pub type_shapes-returns : goal.type_shapes-returns
type_shapes-returns t c = first_whole c.args.bounds c.args.ts.now c.loop-i.i c.loop-i.shapes.items c.loop-i.invariant c.loop-i-test.false

pub field_shapes-loop-i-preserved : goal.field_shapes-loop-i-preserved
field_shapes-loop-i-preserved t c =
    field_more c.args.bounds c.args.fields.now c.loop-i.i c.index-fields-i.result c.in_ok-shape.shape c.loop-i.shapes.items c.push.new.self.items c.loop-i.invariant c.loop-i-test.true
    c.index-fields-i.is c.in_ok-shape.ensures c.in_ok-push.ensures.items

pub field_shapes-returns : goal.field_shapes-returns
field_shapes-returns t c = field_whole c.args.bounds c.args.fields.now c.loop-i.i c.loop-i.shapes.items c.loop-i.invariant c.loop-i-test.false

pub type_shape-returns-in-Bool : goal.type_shape-returns-in-Bool
type_shape-returns-in-Bool t c = of_bool c.args.bounds c.args.t.now _ c.in-Bool.is mean-Atom

pub type_shape-returns-in-Int : goal.type_shape-returns-in-Int
type_shape-returns-in-Int t c =
    let f : SFits w128 c.args.bounds.low = search rules in
    let g : SFits w128 c.args.bounds.high = search rules in
    of_int c.args.bounds c.args.t.now _ c.in-Int.is
    (mean-Num _ _ ∙ ap₂ Num (to_z-of_z w128 c.args.bounds.low f) (to_z-of_z w128 c.args.bounds.high g))

pub type_shape-returns-in-Str : goal.type_shape-returns-in-Str
type_shape-returns-in-Str t c = of_str c.args.bounds c.args.t.now _ c.in-Str.is mean-Atom

pub type_shape-returns-in-Named : goal.type_shape-returns-in-Named
type_shape-returns-in-Named t c = of_named c.args.bounds c.args.t.now _ _ c.in-Named.is mean-Atom

pub type_shape-returns-in_ok-shape-in-Set : goal.type_shape-returns-in_ok-shape-in-Set
type_shape-returns-in_ok-shape-in-Set t c =
    of_set c.args.bounds c.args.t.now c.in-Set.a c.get.result.now _ (mean c.in_ok-member-in-Set.member) c.in-Set.is c.get.ensures c.in_ok-member-in-Set.ensures
    (c.in_ok-shape-in-Set.ensures ∙ ap (λ n. Set n (mean c.in_ok-member-in-Set.member)) c.from-size.ensures)

pub type_shape-returns-in_ok-shape-in-Seq : goal.type_shape-returns-in_ok-shape-in-Seq
type_shape-returns-in_ok-shape-in-Seq t c =
    of_seq c.args.bounds c.args.t.now c.in-Seq.a c.get-in-Seq.result.now _ (mean c.in_ok-item-in-Seq.item) c.in-Seq.is c.get-in-Seq.ensures c.in_ok-item-in-Seq.ensures
    (c.in_ok-shape-in-Seq.ensures ∙ ap (λ n. Seq n (mean c.in_ok-item-in-Seq.item)) c.from-size.ensures)

pub type_shape-returns-in_ok-shape-in-Fun : goal.type_shape-returns-in_ok-shape-in-Fun
type_shape-returns-in_ok-shape-in-Fun t c =
    of_fun c.args.bounds c.args.t.now c.in-Fun.a c.in-Fun.b c.get-in-Fun.result.now c.get-in-Fun-2.result.now _ (mean c.in_ok-argument-in-Fun.argument) (mean c.in_ok-value-in-Fun.value) c.in-Fun.is
    c.get-in-Fun.ensures c.get-in-Fun-2.ensures c.in_ok-argument-in-Fun.ensures c.in_ok-value-in-Fun.ensures
    (c.in_ok-shape-in-Fun.ensures ∙ ap (λ n. Fun n (mean c.in_ok-argument-in-Fun.argument) (mean c.in_ok-value-in-Fun.value)) c.from-size.ensures)

pub type_shape-returns-in_ok-items-in-Tup : goal.type_shape-returns-in_ok-items-in-Tup
type_shape-returns-in_ok-items-in-Tup t c =
    of_tup c.args.bounds c.args.t.now c.in-Tup.ts c.as_slice.result.now _ (map mean c.in_ok-items-in-Tup.items.items) c.in-Tup.is c.as_slice.ensures c.in_ok-items-in-Tup.ensures
    (mean-Tup c.from_vec.result ∙ ap (λ xs. Tup (shapes (map mean xs))) c.from_vec.ensures)

pub type_shape-returns-in_ok-shape-in-None : goal.type_shape-returns-in_ok-shape-in-None
type_shape-returns-in_ok-shape-in-None t c =
    of_rec c.args.bounds c.args.t.now c.in-Rec.fields c.as_slice-in-None.result.now c.as_slice-in-None-2.result.now c.in_ok-names-in-None.names.items c.as_slice-in-None-3.result.now _
    (map mean c.in_ok-values-in-None.values.items) (map mean c.as_slice-in-None-4.result.now) (c.in-Rec.is ∙ ap (rec_ty c.in-Rec.fields) c.in-None.is) c.as_slice-in-None.ensures c.as_slice-in-None-2.ensures
    c.in_ok-values-in-None.ensures c.in_ok-names-in-None.ensures c.as_slice-in-None-3.ensures.value (ap (map mean) c.as_slice-in-None-4.ensures.value) (c.in_ok-shape-in-None.ensures 1)
