use Rattle.std.proofs.Common.{[], refl, ap, ◌∙◌, arith, rules}
use Rattle.std.specs.Prelude.{flat_map}
use Rattle.refutation_checker.specs.Certificate.{section_text}
use Rattle.tool_outside.proofs.Prefixes.{after_error}
use Rattle.symbolic_mc.proofs.Saved.{cut_behind, cut_next, front_first, front_more, front_next, front_rest, saved_next}
use Rattle.symbolic_mc.proofs.saving.save.Goals as goal

pub returns-in_err-append-clause-refused : goal.returns-in_err-append-clause-refused
returns-in_err-append-clause-refused g c =
    after_error c.from_residual-in_err-append.result _
    (cut_next _ _ _ c.args.name.now [] _ _ (flat_map section_text c.args.sections.now) _ c.certificate_head.ensures refl c.in_ok-create.ensures.created c.in_err-append.ensures.refused)

pub loop-section-init : goal.loop-section-init
loop-section-init g c = record {
  saved = saved_next _ _ _ c.args.name.now [] _ _ _ c.certificate_head.ensures (front_first c.args.sections.now) c.in_ok-create.ensures.created c.in_ok-append.ensures.added;
  faults = search rules;
}

pub returns-in_err-text-clause-refused : goal.returns-in_err-text-clause-refused
returns-in_err-text-clause-refused g c =
    after_error c.from_residual-in_err-text.result _
    (cut_behind _ _ c.args.name.now _ _ _ (front_rest c.args.sections.now c.loop-section.section-index) c.loop-section.invariant.saved)

pub returns-in_err-append-2-clause-refused : goal.returns-in_err-append-2-clause-refused
returns-in_err-append-2-clause-refused g c =
    after_error c.from_residual-in_err-append-2.result _
    (cut_next _ _ _ c.args.name.now _ _ _ _ _ (c.deref.ensures.value ∙ c.in_ok-text.ensures ∙ ap section_text c.section-item.is)
    (front_next c.args.sections.now c.loop-section.section-index c.section-item.result (omega arith)) c.loop-section.invariant.saved c.in_err-append-2.ensures.refused)

pub loop-section-preserved : goal.loop-section-preserved
loop-section-preserved g c = record {
  saved = saved_next _ _ _ c.args.name.now _ _ _ _ (c.deref.ensures.value ∙ c.in_ok-text.ensures ∙ ap section_text c.section-item.is)
      (front_more c.args.sections.now c.loop-section.section-index c.section-item.result (omega arith)) c.loop-section.invariant.saved c.in_ok-append-2.ensures.added;
  faults = search rules;
}
