use Rattle.std.proofs.Common.{refl}
use Rattle.cell_arena.proofs.Growing.{Grows-trans, Grows-formula}
use Rattle.cell_merge.specs.Sorts.{set_of as set_sort}
use Rattle.cell_merge.proofs.Chosen.{chosen-set, two-sets, lead-there}
use Rattle.cell_merge.proofs.choice.choose_set.Goals as goal

pub merge_edges-requires-clause-sets : goal.merge_edges-requires-clause-sets
merge_edges-requires-clause-sets c =
    let b = c.args.b.now in
    let t = c.requires.types in
    two-sets _ _ _ _ _ _ _ _ c.in-Set.es c.in-Set-kind.fs _ _ (record { fits = b.fits; built = b.built; ranges = b.ranges }) (record { sort = set_sort t.sort; left = t.left; right = t.right })
    c.kind.ensures.held c.kind-2.ensures.held c.kind.ensures.same c.kind-2.ensures.same c.in-Set.is c.in-Set-kind.is c.as_slice.ensures c.as_slice-2.ensures

pub set-requires-clause-older : goal.set-requires-clause-older
set-requires-clause-older c =
    let b = c.args.b.now in
    let u = c.requires.types in
    let t = two-sets _ _ _ _ _ _ _ _ c.in-Set.es c.in-Set-kind.fs _ _ (record { fits = b.fits; built = b.built; ranges = b.ranges }) (record { sort = set_sort u.sort; left = u.left; right = u.right })
    c.kind.ensures.held c.kind-2.ensures.held c.kind.ensures.same c.kind-2.ensures.same c.in-Set.is c.in-Set-kind.is c.as_slice.ensures c.as_slice-2.ensures in
    rw c.from_vec.ensures (lead-there _ t.sort _ (c.in_ok-edges.ensures.merges.sorts t.sort t.left t.right))

pub returns-in_err-id-clause-grows : goal.returns-in_err-id-clause-grows
returns-in_err-id-clause-grows c = Grows-trans _ _ _ (Grows-formula _ _ c.in_ok-edges.ensures.grows refl) c.in_err-id.ensures.grows

pub returns-clause-chosen : goal.returns-clause-chosen
returns-clause-chosen c =
    let r = c.in_ok-id.ensures in
    chosen-set c.args.b.now _ _ _ _ _ _ _ _ _ _ refl c.kind.ensures.decodes c.kind-2.ensures.decodes c.kind.ensures.same c.kind-2.ensures.same r.cell r.value r.grows
    _ _ _ c.in-Set.is c.in-Set-kind.is refl refl
    (rw (c.as_slice.ensures, c.as_slice-2.ensures, ← c.from_vec.ensures) at c.in_ok-edges.ensures.merges)
