use Rattle.std.proofs.Common.{◌≡◌, ◌+◌, ◌*◌, map, max, take}
use Rattle.cell_arena.specs.Decode.{field_pairs, present, present_pairs}
use Rattle.tla_values.specs.Sequences.{numbered}
use Rattle.trace_decoder.specs.inner.Known.{AreKnown, above, value_of}
use Rattle.trace_decoder.proofs.decoder.Decoder.+decoding.Given as goal

-- a cell refers to older ones, and the edges at hand are those of one cell
abbrev pub decreases-value : goal.decreases-value
decreases-value l = 3 * l.id.index + 3

abbrev pub decreases-new_value : goal.decreases-new_value
decreases-new_value l = 3 * l.id.index + 2

abbrev pub decreases-members : goal.decreases-members
decreases-members l = 3 * above (map (λ e. e.1.index) l.edges.now) + 1

abbrev pub decreases-pairs : goal.decreases-pairs
decreases-pairs l = 3 * max (above (map (λ e. e.1.index) l.edges.now)) (above (map (λ e. e.2.index) l.edges.now)) + 1

abbrev pub decreases-fields : goal.decreases-fields
decreases-fields l = 3 * above (map (λ f. f.1.index) l.fields.now) + 1

abbrev pub decreases-items : goal.decreases-items
decreases-items l = 3 * above (map (λ p. p.index) l.parts.now) + 1

abbrev pub invariant-members-loop-l : goal.invariant-members-loop-l
invariant-members-loop-l l =
    AreKnown l.self l.known × (l.members.items ≡ present l.self.assignment.now (value_of l.self) (take l.l-index l.edges))

abbrev pub invariant-pairs-loop-literal : goal.invariant-pairs-loop-literal
invariant-pairs-loop-literal l =
    AreKnown l.self l.known × (l.pairs.items ≡ present_pairs l.self.assignment.now (value_of l.self) (take l.literal-index l.edges))

abbrev pub invariant-fields-loop-name : goal.invariant-fields-loop-name
invariant-fields-loop-name l =
    AreKnown l.self l.known × (l.pairs.items ≡ field_pairs (value_of l.self) (take l.name-index l.fields))

abbrev pub invariant-items-loop-i : goal.invariant-items-loop-i
invariant-items-loop-i l =
    AreKnown l.self l.known × (l.pairs.items ≡ numbered 1 (take l.i (map (value_of l.self) l.parts)))
