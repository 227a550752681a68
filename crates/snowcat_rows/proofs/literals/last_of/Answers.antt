use Rattle.std.proofs.Common.{◌∙◌, ◌+◌, ◌≤◌, Option, ap, arith, length, sym, subst, ℕ}
use Rattle.std.specs.Prelude.{IfSome, option_map}
use Rattle.snowcat_rows.proofs.LastOf.{found_before, found_here, is_whole, one_byte, parts_at}
use Rattle.snowcat_rows.proofs.literals.last_of.Goals as goal
use Rattle.snowcat_rows.proofs.literals.last_of.Goals.{then-begins_of, else-begins_of}

pub loop-at-preserved : goal.loop-at-preserved
loop-at-preserved c =
    let text = c.args.text.now in
    let at = c.loop-at.at in
    let before = option_map (parts_at text) c.loop-at.found in
    let lt = c.loop-at-test.true in
    let W : Option ℕ → Type 0 = λ o. IfSome o (λ i. i + 4 ≤ length text) in
    elim c.if-begins_of.branch [
      | then-begins_of w ↦ (
        c.loop-at.invariant.0 ∙ one_byte text at (at + 1) before (option_map (parts_at text) c.if-begins_of.found) lt (omega arith)
            (ap (option_map (parts_at text)) w.found-is ∙ found_here text c.after.result.now at before c.after.ensures (sym c.begins_of.ensures ∙ w.if-begins_of.true)),
        subst W (sym w.found-is) (is_whole text c.after.result.now at c.after.ensures (sym c.begins_of.ensures ∙ w.if-begins_of.true) lt),
      )
      | else-begins_of w ↦ (
        c.loop-at.invariant.0 ∙ one_byte text at (at + 1) before (option_map (parts_at text) c.if-begins_of.found) lt (omega arith)
            (ap (option_map (parts_at text)) w.found-is ∙ found_before text c.after.result.now at before c.after.ensures (sym c.begins_of.ensures ∙ w.if-begins_of.false)),
        subst W (sym w.found-is) c.loop-at.invariant.1,
      )
    ]
