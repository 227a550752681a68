use Rattle.std.proofs.Common.{refl, sym, ◌∙◌}
use Rattle.cell_arena.proofs.Growing.{Grows-trans, Grows-formula}
use Rattle.cell_merge.proofs.Ends.{all-there, ends-choice}
use Rattle.cell_merge.proofs.choice.end_function.Goals as goal

pub fun-requires-clause-older : goal.fun-requires-clause-older
fun-requires-clause-older c =
    rw c.from_vec.ensures (all-there c.args.b.now _ _ _ _ _ _ _ _ c.requires.begins (sym c.kind.ensures.same ∙ c.in-Fun.is) (sym c.kind-2.ensures.same ∙ c.in-Fun-kind.is)
    (rw (c.behind.ensures, c.behind-2.ensures, c.as_slice.ensures, c.as_slice-2.ensures, c.as_slice-done.ensures.value) at c.in_ok-guard_both.ensures.guards))

pub returns-in_err-id-clause-grows : goal.returns-in_err-id-clause-grows
returns-in_err-id-clause-grows c = Grows-trans _ _ _ (Grows-formula _ _ c.in_ok-guard_both.ensures.grows refl) c.in_err-id.ensures.grows

pub returns-clause-ends : goal.returns-clause-ends
returns-clause-ends c =
    let r = c.in_ok-id.ensures in
    ends-choice c.args.b.now _ _ _ _ _ _ _ _ c.requires.begins (sym c.kind.ensures.same ∙ c.in-Fun.is) (sym c.kind-2.ensures.same ∙ c.in-Fun-kind.is)
    (rw (c.behind.ensures, c.behind-2.ensures, c.as_slice.ensures, c.as_slice-2.ensures, c.as_slice-done.ensures.value, ← c.from_vec.ensures) at c.in_ok-guard_both.ensures.guards)
    _ _ _ refl refl r.cell r.grows r.value
