use Rattle.std.proofs.Common.{◌∙◌, length, List, ap}
use Rattle.sat_formula.specs.declared.lit.Lit.{Lit}
use Rattle.outcome_cells.proofs.Truths.{bits-count}
use Rattle.member_choices.proofs.Parts.{keeps-members}
use Rattle.member_choices.proofs.sets.keep_members.Goals as goal

pub keep_choices-requires-clause-one_each : goal.keep_choices-requires-clause-one_each
keep_choices-requires-clause-one_each c =
    ap (λ (ls : List Lit). length ls) c.as_slice.ensures.value ∙ bits-count _ _ _ c.in_ok-bits.ensures
    ∙ c.requires.bodies.count

pub returns-clause-keeps : goal.returns-clause-keeps
returns-clause-keeps c =
    keeps-members _ _ _ c.args.cs.now c.args.bodies.now _ _ _ c.requires.bodies.count c.in_ok-edges.ensures.grows
    c.in_ok-faults.ensures.joins c.in_ok-bits.ensures
    (rw c.as_slice.ensures.value at c.in_ok-edges.ensures.keeps)
