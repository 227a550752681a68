use Rattle.std.proofs.Common.{Some, List, ℕ, [], ◌∷◌, subst, sym}
use Rattle.cell_arena.proofs.Growing.{Grows-trans}
use Rattle.tla_meaning.specs.declared.op.Op.TheVariants as op
use Rattle.typed_cells.specs.Known.{IsTextAmong}
use Rattle.function_rewriter.proofs.KnownValues.{texts-later}
use Rattle.function_operators.proofs.Shown.{row_shown}
use Rattle.function_operators.proofs.Rows.{row_apply}
use Rattle.function_operators.proofs.Found.{part_mapping}
use Rattle.function_operators.specs.declared.index.Index.TheVariants as index
use Rattle.function_operators.proofs.functions.at.Goals as goal

pub or_default-requires-clause-text : goal.or_default-requires-clause-text
or_default-requires-clause-text c =
    subst (λ (ts : List (List ℕ)). IsTextAmong ts [])
    (sym (texts-later c.args.b.now _ c.in_ok-found.ensures.grows)) c.requires.text

pub returns-clause-row : goal.returns-clause-row
returns-clause-row c =
    let b = c.args.b.now in
    row_shown b _ op.Apply (c.args.f ∷ c.args.x ∷ []) _ _
    (Grows-trans _ _ _ c.in_ok-found.ensures.grows c.in_ok-cells.ensures.grows)
    (c.in_ok-cells.ensures.shows _ c.in_ok-found.ensures.finds.gives)
    (λ a s p. row_apply (Some b.arena.width) p _ _
    (part_mapping b.arena a c.args.f (index.Cell c.args.x) _ _ b.built c.requires.index.is c.requires.index.at))
