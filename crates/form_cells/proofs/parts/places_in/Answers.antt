use Rattle.std.proofs.Common.{ℕ, ◌<◌, subst}
use Rattle.sat_formula.proofs.Extension.{Grows-refl, Grows-trans}
use Rattle.cell_merge.proofs.Names.{IsOver-later}
use Rattle.form_cells.proofs.PartLemmas.{places-none, places-turn}
use Rattle.form_cells.proofs.parts.places_in.Goals as goal

pub has_place-requires-clause-over : goal.has_place-requires-clause-over
has_place-requires-clause-over c = IsOver-later _ _ _ c.requires.over c.loop-i.invariant.grows

pub loop-i-init : goal.loop-i-init
loop-i-init c = record { grows = Grows-refl _; places = places-none c.args.arena.now _ c.args.s _ c.new-places.ensures.items }

pub loop-i-preserved : goal.loop-i-preserved
loop-i-preserved c =
    let i = c.loop-i.invariant in
    let g = c.in_ok-here.ensures.grows in
    record {
      grows = Grows-trans _ _ _ i.grows g;
      places = places-turn c.args.arena.now _ _ c.args.s c.loop-i.i _ _ c.in_ok-here.here c.part_at.result i.places g
          (subst (λ (n : ℕ). c.loop-i.i < n) c.part_count-i-end.ensures c.loop-i-test.true) c.in_ok-here.ensures.value (c.part_at.ensures.part _) c.in_ok-push.ensures.items;
    }
