use Rattle.std.proofs.Common.{refl, sym, ap, ◌∙◌}
use Rattle.tla_values.specs.Sets.{set_of}
use Rattle.cell_arena.specs.declared.kinds.CellKind.{CellKind}
use Rattle.cell_arena.specs.Decode.{decode, present}
use Rattle.cell_arena.proofs.Growing.{Grows-trans, Grows-formula}
use Rattle.cell_merge.proofs.Chosen.{lead-there}
use Rattle.cell_merge.specs.Edges.{edges_of}
use Rattle.set_rewriter.specs.Edges.{image_edges}
use Rattle.cell_merge.proofs.Unions.{edges-named}
use Rattle.set_rewriter.proofs.Made.{maps}
use Rattle.set_rewriter.proofs.Gathering.{images-sort, images-named, joined-set}
use Rattle.set_rewriter.proofs.unions.map.Goals as goal

pub join_alike-requires : goal.join_alike-requires
join_alike-requires c =
    let b = c.args.b.now in
    let r = c.requires.images in
    rw (c.as_slice-2.ensures.value, c.in_ok-imaged.ensures, c.as_slice.ensures) (record {
      edges = record {
        sort = r.sort;
        cells = images-sort b.arena.kinds r.sort c.in-Set.es c.args.images.now r.cells;
        named = images-named _ c.in-Set.es c.args.images.now (edges-named b.arena _ _ _ c.in-Set.es c.kind.ensures.held c.in-Set.is b.fits);
      };
    })

pub set-requires-clause-older : goal.set-requires-clause-older
set-requires-clause-older c =
    let r = c.requires.images in
    let j = rw (c.as_slice-2.ensures.value, c.in_ok-imaged.ensures, c.as_slice.ensures, ← c.from_vec.ensures) at c.in_ok-edges.ensures.joins in
    lead-there _ r.sort _ (j.sorts r.sort (images-sort _ r.sort c.in-Set.es c.args.images.now r.cells))

pub returns-in_err-id-clause-grows : goal.returns-in_err-id-clause-grows
returns-in_err-id-clause-grows c = Grows-trans _ _ _ (Grows-formula _ _ c.in_ok-edges.ensures.grows refl) c.in_err-id.ensures.grows

pub returns-clause-made : goal.returns-clause-made
returns-clause-made c =
    let b = c.args.b.now in
    let j = rw (c.as_slice-2.ensures.value, c.in_ok-imaged.ensures, c.as_slice.ensures, ← c.from_vec.ensures) at c.in_ok-edges.ensures.joins in
    maps b _ _ _ _ _ refl c.in_ok-id.ensures.grows c.in_ok-id.ensures.cell c.in_ok-id.ensures.value
    (λ a s. joined-set b.arena _ a (image_edges c.in-Set.es c.args.images.now) _ j s
    ∙ ap (λ (k : CellKind). set_of (present a (decode b.arena a) (image_edges (edges_of k) c.args.images.now))) (sym (sym c.kind.ensures.same ∙ c.in-Set.is)))
    c.args.images.now (λ s h. j.sorts s (images-sort b.arena.kinds s c.in-Set.es c.args.images.now h))
