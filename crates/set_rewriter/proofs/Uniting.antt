-- The members of several sets.
use Rattle.std.proofs.Common.{◌≡◌, Bool, ◌||◌, List, ◌++◌, ap, ◌∙◌, sym}
use Rattle.std.specs.List.{list_any}
use Rattle.std.proofs.lemmas.List.Folds.{list_any-append}
use Rattle.sat_formula.specs.declared.lit.Lit.{Lit}
use Rattle.sat_formula.specs.declared.cnf.Cnf.{Cnf}
use Rattle.sat_formula.specs.Formula.{Satisfies}
use Rattle.tla_values.specs.Sets.{set_of, elements, union_of}
use Rattle.tla_values.specs.declared.value.Value.{Value}
use Rattle.tla_values.proofs.Extensional.{union-set_of}
use Rattle.cell_arena.specs.declared.kinds.CellId.{CellId}
use Rattle.cell_arena.specs.declared.kinds.CellKind.TheVariants.{Set}
use Rattle.cell_arena.specs.Cells.{Cells}
use Rattle.cell_arena.specs.Decode.{decode, present, kind_value}
use Rattle.cell_merge.specs.declared.merging.Join.TheVariants.{Either}
use Rattle.cell_merge.specs.Edges.{Merges, any_edge}
use Rattle.cell_merge.proofs.Edges.{any-present, elements-cell}
use Rattle.set_rewriter.proofs.Made.{set-found}

pub united : (c : Cells) (f : Cnf) (a : List Bool) (x y : CellId) (es fs out : List (Lit × CellId)) → Merges c f Either es fs out → Satisfies a f
    → decode c a x ≡ kind_value c.texts a (decode c a) (Set es) → decode c a y ≡ kind_value c.texts a (decode c a) (Set fs)
    → set_of (present a (decode c a) out) ≡ union_of (elements (decode c a x)) (elements (decode c a y))
united c f a x y es fs out m s p q =
    let of : CellId → Value = decode c a in
    set-found a of out (present a of es ++ present a of fs)
    (λ t. m.members a s t ∙ sym (list_any-append t (present a of es) (present a of fs) ∙ ap (λ u. u || list_any t (present a of fs)) (any-present t a of es) ∙ ap (λ u. any_edge a of t es || u) (any-present t a of fs)))
    ∙ union-set_of (present a of es) (present a of fs)
    ∙ ap (λ l. union_of l (set_of (present a of fs))) (sym (elements-cell c a x es p)) ∙ ap (λ l. union_of (elements (of x)) l) (sym (elements-cell c a y fs q))
