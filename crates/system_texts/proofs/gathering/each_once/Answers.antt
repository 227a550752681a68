use Rattle.std.proofs.Common.{◌∙◌, ◌+◌, ◌++◌, ◌∷◌, [], ap, map, sym, subst, take}
use Rattle.std.proofs.lemmas.Map.Text.{is_eq-slice_cmp}
use Rattle.cell_arena.specs.Cells.{AllDiffer}
use Rattle.system_texts.proofs.Once.{among_as, known_text, new_text}
use Rattle.system_texts.proofs.gathering.each_once.Goals.{then-branch+in_ok-copy_text+in_ok-push, else-branch}
use Rattle.system_texts.proofs.gathering.each_once.Goals as goal

pub loop-text-preserved : goal.loop-text-preserved
loop-text-preserved c = elim c.if-branch.branch [
  | then-branch+in_ok-copy_text+in_ok-push w ↦
      let all = new_text (λ k. k.now) (λ t. t.now) _ c.loop-text.seen.keys c.bytes.result c.args.texts.now c.loop-text.text-index c.text-item.result
      c.loop-text.once.items c.loop-text.invariant.keys c.loop-text.invariant.among
      (λ y. sym (is_eq-slice_cmp c.bytes.result.now y.now)) c.bytes.ensures c.loop-text-test.true c.text-item.is
      c.in_ok-insert.field-0 c.in_ok-insert.ensures.added w.if-branch.true c.insert.new.self.keys c.in_ok-insert.ensures.keys c.loop-text.invariant.differ in
      let once = ap (λ v. v.items) w.once-is ∙ w.in_ok-push.ensures.items ∙ ap (λ t. c.loop-text.once.items ++ t ∷ []) w.in_ok-copy_text.ensures in
      record {
        keys = all.0 ∙ sym once;
        differ = subst AllDiffer (sym once) all.1.0;
        among = among_as _ _ (map (λ t. t.now) (take (c.loop-text.text-index + 1) c.args.texts.now)) once all.1.1;
      }
  | else-branch w ↦
      let all = known_text (λ k. k.now) (λ t. t.now) _ c.loop-text.seen.keys c.bytes.result c.args.texts.now c.loop-text.text-index c.text-item.result
      c.loop-text.once.items c.loop-text.invariant.keys c.loop-text.invariant.among
      (λ y. sym (is_eq-slice_cmp c.bytes.result.now y.now)) c.bytes.ensures c.loop-text-test.true c.text-item.is
      c.in_ok-insert.field-0 c.in_ok-insert.ensures.added w.if-branch.false c.insert.new.self.keys c.in_ok-insert.ensures.keys in
      let once = ap (λ v. v.items) w.once-is in
      record {
        keys = all.0 ∙ sym once;
        differ = subst AllDiffer (sym once) c.loop-text.invariant.differ;
        among = among_as _ _ (map (λ t. t.now) (take (c.loop-text.text-index + 1) c.args.texts.now)) once all.1;
      }
]
