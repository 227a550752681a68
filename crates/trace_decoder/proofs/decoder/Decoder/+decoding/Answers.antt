use Rattle.std.proofs.Common.{arith, ◌∙◌, ◌≡◌, ◌++◌, ◌∷◌, [], List, Bool, false, sym, ap, ap₂, length, ◌<◌}
use Rattle.std.specs.Int.{w128}
use Rattle.std.proofs.lemmas.Int.{to_z-of_z}
use Rattle.word_blaster.specs.Word.{word_value}
use Rattle.trace_decoder.proofs.Reading.{above-read, above-under, counted, fun-older, item-more, item-number, passed, read-above, read-below, rec-older, seq-older, sequence-made, set-older, tup-older, tuple-made}
use Rattle.sat_formula.specs.declared.lit.Lit.{Lit}
use Rattle.sat_formula.specs.Lit.{lit_value}
use Rattle.cell_arena.specs.declared.kinds.CellId.{CellId}
use Rattle.tla_values.specs.declared.value.Value.{Value}
use Rattle.tla_values.specs.declared.value.Value.TheVariants as value
use Rattle.trace_decoder.specs.inner.Known.{IsThere, value_of}
use Rattle.trace_decoder.proofs.decoder.Decoder.+decoding.Goals as goal
use Rattle.trace_decoder.proofs.decoder.Decoder.+decoding.Goals.{members-then-is_true+in_ok-member+in_ok-push, members-else-is_true, pairs-then-is_true+in_ok-argument+in_ok-value+in_ok-push, pairs-else-is_true}

abbrev none-cell : CellId
none-cell = record { index = 0 }

abbrev none-edge : Lit × CellId
none-edge = (record { var = 0; neg = false }, none-cell)

abbrev none-arrow : Lit × CellId × CellId
none-arrow = (record { var = 0; neg = false }, none-cell, none-cell)

pub fields-value-requires : goal.fields-value-requires
fields-value-requires t c =
    let falls = read-above (λ f. f.1.index) c.args.fields.now c.loop-name.name-index c.loop-name-item.result c.loop-name-item.is c.loop-name-test.true in (
      omega (arith, falls),
      (
        read-below (λ f. f.1.index) (length c.args.self.now.build.now.arena.kinds) c.args.fields.now c.loop-name.name-index c.loop-name-item.result c.loop-name-item.is c.loop-name-test.true c.requires.there,
        c.loop-name.invariant.0,
      ),
    )

pub items-value-requires : goal.items-value-requires
items-value-requires t c =
    let lt : c.loop-i.i < length c.args.parts.now = omega arith in
    let falls = above-read (λ p. p.index) c.args.parts.now c.loop-i.i none-cell lt in
    (omega (arith, falls), (c.requires.there c.loop-i.i none-cell lt, c.loop-i.invariant.0))

pub items-loop-i-preserved : goal.items-loop-i-preserved
items-loop-i-preserved t c =
    let lt : c.loop-i.i < length c.args.parts.now = omega arith in (
      c.in_ok-value.ensures.known,
      item-more (value_of c.args.self.now) c.args.parts.now c.loop-i.i _ c.loop-i.pairs.items c.push.new.self.items _ _ lt
          c.loop-i.invariant.1 (item-number c.loop-i.i c.args.count c.loop-i-test.true (omega arith)) c.in_ok-value.ensures.value c.in_ok-push.ensures.items,
    )

pub members-value-requires : goal.members-value-requires
members-value-requires t c =
    let falls = above-read (λ e. e.1.index) c.args.edges.now c.loop-l.l-index none-edge c.loop-l-test.true in
    (omega (arith, falls), (c.requires.there c.loop-l.l-index none-edge c.loop-l-test.true, c.loop-l.invariant.0))

pub members-loop-l-preserved : goal.members-loop-l-preserved
members-loop-l-preserved t c =
    let p : Lit × CellId → Bool = λ e. lit_value e.0 c.args.self.now.assignment.now in
    let of : Lit × CellId → Value = λ e. value_of c.args.self.now e.1 in
    elim c.if-is_true.branch [
      | members-then-is_true+in_ok-member+in_ok-push w ↦ (
        rw w.known-is w.in_ok-member.ensures.known,
        counted p of c.args.edges.now c.loop-l.l-index none-edge c.loop-l-test.true c.loop-l.members.items c.loop-l.invariant.1
            c.if-is_true.members.items w.in_ok-member.member (sym c.is_true.ensures ∙ w.if-is_true.true) w.in_ok-member.ensures.value (rw w.members-is w.in_ok-push.ensures.items),
      )
      | members-else-is_true w ↦ (
        rw w.known-is c.loop-l.invariant.0,
        passed p of c.args.edges.now c.loop-l.l-index none-edge c.loop-l-test.true c.loop-l.members.items c.loop-l.invariant.1
            c.if-is_true.members.items (sym c.is_true.ensures ∙ w.if-is_true.false) (ap (λ v. v.items) w.members-is),
      )
    ]

pub new_value-members-requires : goal.new_value-members-requires
new_value-members-requires t c =
    let older = set-older c.args.id.index _ _ _ c.kind.ensures.held.older c.in-Set.is c.as_slice-in-Set.ensures in
    let falls = above-under (λ e. e.1.index) c.args.id.index _ older in
    let there = c.requires.there in
    (omega (arith, falls), (λ i d lt. let h = older i d lt in omega (arith, h, there), c.requires.known))

pub new_value-pairs-requires : goal.new_value-pairs-requires
new_value-pairs-requires t c =
    let older = fun-older c.args.id.index _ _ _ c.kind.ensures.held.older c.in-Fun.is c.as_slice-in-Fun.ensures in
    let left = above-under (λ e. e.1.index) c.args.id.index _ (λ i d lt. (older i d lt).0) in
    let right = above-under (λ e. e.2.index) c.args.id.index _ (λ i d lt. (older i d lt).1) in
    let there = c.requires.there in (
      omega (arith, left, right),
      (λ i d lt. (let h = (older i d lt).0 in omega (arith, h, there), let h = (older i d lt).1 in omega (arith, h, there)), c.requires.known),
    )

pub new_value-fields-requires : goal.new_value-fields-requires
new_value-fields-requires t c =
    let older = rec-older c.args.id.index _ _ _ c.kind.ensures.held.older c.in-Rec.is c.as_slice-in-Rec.ensures in
    let falls = above-under (λ f. f.1.index) c.args.id.index _ older in
    let there = c.requires.there in
    (omega (arith, falls), (λ i d lt. let h = older i d lt in omega (arith, h, there), c.requires.known))

pub new_value-items-requires : goal.new_value-items-requires
new_value-items-requires t c =
    let older = tup-older c.args.id.index _ _ _ c.kind.ensures.held.older c.in-Tup.is c.as_slice-in-Tup.ensures in
    let falls = above-under (λ p. p.index) c.args.id.index _ older in
    let there = c.requires.there in
    (omega (arith, falls), (omega (arith, ap length c.as_slice-in-Tup.ensures), (λ i d lt. let h = older i d lt in omega (arith, h, there), c.requires.known)))

pub new_value-items-requires-in-Seq : goal.new_value-items-requires-in-Seq
new_value-items-requires-in-Seq t c =
    let older = seq-older c.args.id.index _ _ _ _ c.kind.ensures.held.older c.in-Seq.is c.as_slice-in-Seq.ensures in
    let falls = above-under (λ p. p.index) c.args.id.index _ older in
    let there = c.requires.there in
    (omega (arith, falls), (omega (arith, ap length c.as_slice-in-Seq.ensures, c.present_places-count.ensures.few), (λ i d lt. let h = older i d lt in omega (arith, h, there), c.requires.known)))

pub new_value-returns-in_ok-pairs-in-Tup-clause-value : goal.new_value-returns-in_ok-pairs-in-Tup-clause-value
new_value-returns-in_ok-pairs-in-Tup-clause-value t c =
    ap value.Fun c.from_vec-in-Tup.ensures
    ∙ tuple-made c.args.self.now.build.now.arena.texts c.args.self.now.assignment.now (value_of c.args.self.now) (value_of c.args.self.now c.args.id) c.kind.result.now c.in-Tup.parts c.as_slice-in-Tup.result.now c.len.result
    c.in_ok-pairs-in-Tup.pairs.items (c.kind.ensures.decodes c.args.self.now.assignment.now) c.as_slice-in-Tup.ensures c.in_ok-pairs-in-Tup.ensures.values c.in-Tup.is c.len.ensures

pub new_value-returns-in_ok-pairs-in-Seq-clause-value : goal.new_value-returns-in_ok-pairs-in-Seq-clause-value
new_value-returns-in_ok-pairs-in-Seq-clause-value t c =
    ap value.Fun c.from_vec-in-Seq.ensures
    ∙ sequence-made c.args.self.now.build.now.arena.texts c.args.self.now.assignment.now (value_of c.args.self.now) (value_of c.args.self.now c.args.id) c.kind.result.now c.in-Seq.places c.as_slice-in-Seq.result.now c.present_places-count.result
    c.in_ok-pairs-in-Seq.pairs.items (c.kind.ensures.decodes c.args.self.now.assignment.now) c.as_slice-in-Seq.ensures c.in_ok-pairs-in-Seq.ensures.values
    c.in-Seq.count _ c.len-in-Seq.result c.in-Seq.is
    (
    to_z-of_z w128 c.number-in-Seq.result (record { sfits = c.number-in-Seq.type_inv })
    ∙ c.number-in-Seq.ensures ∙ ap (λ (w : List Lit). word_value w c.args.self.now.assignment.now) c.lits-in-Seq.ensures
    )
    c.len-in-Seq.ensures c.present_places-count.ensures.first

pub pairs-value-requires : goal.pairs-value-requires
pairs-value-requires t c =
    let falls = above-read (λ e. e.1.index) c.args.edges.now c.loop-literal.literal-index none-arrow c.loop-literal-test.true in
    (omega (arith, falls), ((c.requires.there c.loop-literal.literal-index none-arrow c.loop-literal-test.true).0, c.loop-literal.invariant.0))

pub pairs-value-requires-then-is_true : goal.pairs-value-requires-then-is_true
pairs-value-requires-then-is_true t c =
    let falls = above-read (λ e. e.2.index) c.args.edges.now c.loop-literal.literal-index none-arrow c.loop-literal-test.true in
    (omega (arith, falls), ((c.requires.there c.loop-literal.literal-index none-arrow c.loop-literal-test.true).1, c.in_ok-argument.ensures.known))

pub pairs-loop-literal-preserved : goal.pairs-loop-literal-preserved
pairs-loop-literal-preserved t c =
    let p : Lit × CellId × CellId → Bool = λ e. lit_value e.0 c.args.self.now.assignment.now in
    let of : Lit × CellId × CellId → Value × Value = λ e. (value_of c.args.self.now e.1, value_of c.args.self.now e.2) in
    elim c.if-is_true.branch [
      | pairs-then-is_true+in_ok-argument+in_ok-value+in_ok-push w ↦ (
        rw w.known-is w.in_ok-value.ensures.known,
        counted p of c.args.edges.now c.loop-literal.literal-index none-arrow c.loop-literal-test.true c.loop-literal.pairs.items c.loop-literal.invariant.1
            c.if-is_true.pairs.items (w.in_ok-argument.argument, w.in_ok-value.value) (sym c.is_true.ensures ∙ w.if-is_true.true)
            (ap₂ (λ (x y : Value). (x, y)) w.in_ok-argument.ensures.value w.in_ok-value.ensures.value) (rw w.pairs-is w.in_ok-push.ensures.items),
      )
      | pairs-else-is_true w ↦ (
        rw w.known-is c.loop-literal.invariant.0,
        passed p of c.args.edges.now c.loop-literal.literal-index none-arrow c.loop-literal-test.true c.loop-literal.pairs.items c.loop-literal.invariant.1
            c.if-is_true.pairs.items (sym c.is_true.ensures ∙ w.if-is_true.false) (ap (λ v. v.items) w.pairs-is),
      )
    ]
