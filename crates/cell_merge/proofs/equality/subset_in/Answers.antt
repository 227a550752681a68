use Rattle.std.proofs.Common.{List, map, ap, ◌∙◌}
use Rattle.std.specs.List.{list_all}
use Rattle.sat_formula.specs.declared.lit.Lit.{Lit}
use Rattle.sat_formula.specs.Lit.{lit_value, values}
use Rattle.sat_formula.proofs.Extension.{Satisfies-older}
use Rattle.cell_arena.specs.declared.kinds.CellId.{CellId}
use Rattle.cell_arena.specs.Cells.{kind_at}
use Rattle.cell_merge.specs.Edges.{edges_of}
use Rattle.cell_merge.specs.inner.Crosses.{each_holds}
use Rattle.cell_merge.proofs.Names.{IsOver-later}
use Rattle.cell_merge.proofs.Tested.{subset-typed, tests-along}
use Rattle.cell_merge.proofs.equality.subset_in.Goals as goal

pub implied-requires : goal.implied-requires
implied-requires c = record {
  lists = rw (c.as_slice.ensures.value, c.in_ok-edges.ensures, c.as_slice-2.ensures.value)
      (tests-along c.args.arena.now _ c.args.x c.args.y _ _ (IsOver-later _ _ _ c.requires.over c.in_ok-tests.ensures.grows) c.requires.types c.in_ok-tests.ensures.tests);
}

pub returns-clause-value : goal.returns-clause-value
returns-clause-value c = record {
  below = c.in_ok-all.ensures.value.below;
  value = λ a s2.
      let s1 = Satisfies-older _ _ a c.in_ok-all.ensures.grows s2 in
      let s0 = Satisfies-older _ _ a c.in_ok-holds.ensures.grows s1 in
      c.in_ok-all.ensures.value.value a s2 ∙ ap (λ (ls : List Lit). list_all (λ x. lit_value x a) ls) c.as_slice-3.ensures.value ∙ c.in_ok-holds.ensures.implied.values a s1
      ∙ ap (λ (ls : List Lit). each_holds (values ls a) (values c.as_slice-2.result.now a)) (c.as_slice.ensures.value ∙ c.in_ok-edges.ensures)
      ∙ ap (λ (ls : List Lit). each_holds (values (map (λ (e : Lit × CellId). e.0) (edges_of (kind_at c.args.arena.now.kinds c.args.x))) a) (values ls a)) c.as_slice-2.ensures.value
      ∙ subset-typed c.args.arena.now _ a c.args.x c.args.y _ c.requires.over.built c.requires.types s0 c.in_ok-tests.ensures.tests;
}
