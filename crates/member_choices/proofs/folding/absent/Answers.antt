use Rattle.cell_merge.proofs.Lengths.{length-named}
use Rattle.member_choices.proofs.Joined.{negated-lit}
use Rattle.std.proofs.Common.{ap}
use Rattle.sat_formula.specs.declared.lit.Lit.{Lit}
use Rattle.member_choices.proofs.Placing.{is-absent}
use Rattle.member_choices.proofs.folding.absent.Goals as goal

pub is_above-requires : goal.is_above-requires
is_above-requires c = record {
  x_below = rw c.as_slice-2.ensures.value
      (c.in_ok-bits.ensures.below c.args.f.now.vars
      (length-named _ _ _ _ _ c.in-Seq.places c.requires.over c.kind.ensures.held c.in-Seq.is));
}

pub returns-clause-absent : goal.returns-clause-absent
returns-clause-absent c =
    is-absent _ _ _ c.args.s c.args.place _ _ _ c.in-Seq.places _ _ _ c.requires.over c.requires.sequence
    c.in_ok-present.ensures.grows c.kind.ensures.same c.in-Seq.is
    c.as_slice.ensures c.in_ok-bits.ensures.value (rw c.as_slice-2.ensures.value at c.in_ok-present.ensures.value)
    (ap (λ (l : Lit). l.var) c.negated.ensures)
    (λ a. negated-lit _ _ a c.negated.ensures)
