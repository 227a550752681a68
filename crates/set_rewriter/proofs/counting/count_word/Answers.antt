use Rattle.std.proofs.Common.{refl, ap, pos, List, length, ◌∙◌}
use Rattle.sat_formula.proofs.Extension.{Satisfies-older}
use Rattle.tla_values.specs.declared.value.Value.{Value}
use Rattle.word_blaster.proofs.Exact.{IsExact-same}
use Rattle.cell_merge.proofs.Names.{IsOver-later}
use Rattle.set_rewriter.proofs.Gathering.{joined-set}
use Rattle.set_rewriter.proofs.counting.count_word.Goals as goal

pub count_edges-requires-clause-over : goal.count_edges-requires-clause-over
count_edges-requires-clause-over c = IsOver-later _ _ _ c.requires.over c.in_ok-distinct.ensures.grows

pub returns-clause-exact : goal.returns-clause-exact
returns-clause-exact c =
    IsExact-same _ _ _ _ _ _ _ refl c.in_ok-word.ensures.exact
    (λ a s2.
    let s1 = Satisfies-older _ _ a c.in_ok-word.ensures.grows s2 in
    let s0 = Satisfies-older _ _ a c.in_ok-bits.ensures.grows s1 in
    rw (c.as_slice-2.ensures.value) (ap (λ n. pos n) ((rw c.as_slice.ensures.value at c.in_ok-bits.ensures.counts).value a s1
    ∙ ap (λ (l : List Value). length l) (joined-set c.args.arena.now _ a c.args.edges.now _ c.in_ok-distinct.ensures.joins s0))))
