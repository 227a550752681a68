use Rattle.std.proofs.Common.{length, ap, sym, ◌∙◌, arith}
use Rattle.sat_formula.proofs.Extension.{Satisfies-older}
use Rattle.cell_merge.proofs.Lengths.{length-named, place-reached}
use Rattle.form_cells.proofs.parts.has_place.Goals as goal

pub is_above-requires : goal.is_above-requires
is_above-requires c = record { x_below = rw c.as_slice-2.ensures.value (c.in_ok-bits.ensures.below _ (length-named _ _ _ _ _ _ c.requires.over c.kind.ensures.held c.in-Seq.is)) }

pub returns-clause-value : goal.returns-clause-value
returns-clause-value c = record {
  below = c.in_ok-above.ensures.value.below;
  value = λ a s.
      c.in_ok-above.ensures.value.value a s
      ∙ rw c.as_slice-2.ensures.value (place-reached c.args.arena.now _ a c.args.s _ _ _ c.args.place c.requires.over (Satisfies-older _ _ a c.in_ok-above.ensures.grows s) c.requires.sequence.is.0 (sym c.kind.ensures.same ∙ c.in-Seq.is)
      (λ n e le. c.in_ok-bits.ensures.value a n e (let m = ap length c.as_slice.ensures in omega arith)));
}
