use Rattle.std.proofs.Common.{◌≡◌, ◌<◌, ◌∙◌, ◌∷◌, List, [], ap, arith, length, subst, sym}
use Rattle.sat_formula.specs.declared.lit.Lit.{Lit}
use Rattle.sat_formula.specs.Lit.{lit_value}
use Rattle.branch_cells.specs.declared.branch.BranchCells.{BranchCells}
use Rattle.branch_cells.specs.inner.Layers.{Narrows}
use Rattle.branch_cells.proofs.Narrowing.{choice_of, choice_of_none, some_whole}
use Rattle.branch_cells.proofs.merging.choose.Goals as goal

pub returns-then-len-eq0-clause-choice : goal.returns-then-len-eq0-clause-choice
returns-then-len-eq0-clause-choice g c =
    let none : length c.in_ok-some.some.items ≡ 0 = let n = c.if-len-eq0.true in omega arith in
    choice_of_none c.args.b.now c.args.rest.now c.args.parts.now c.in_ok-some.some.items c.in_ok-part.part
    (λ a s. ap (λ (l : Lit). lit_value l a) (sym c.top.ensures.same) ∙ c.top.ensures.forced a s)
    c.in_ok-some.ensures none c.in_ok-part.ensures.1 c.in_ok-part.ensures.0

pub narrow-requires : goal.narrow-requires
narrow-requires g c =
    let some : 0 < length c.in_ok-some.some.items = let n = c.if-len-eq0.false in omega arith in
    (some_whole c.args.b.now g.names c.args.parts.now c.in_ok-some.some.items c.in_ok-some.ensures c.requires.0, some)

pub returns-clause-choice : goal.returns-clause-choice
returns-clause-choice g c =
    let r = c.in_ok-part-2.ensures in
    choice_of c.args.b.now _ g.names c.args.rest.now c.args.parts.now c.in_ok-part-2.part
    (λ a s. ap (λ (l : Lit). lit_value l a) (sym c.top.ensures.same) ∙ c.top.ensures.forced a s)
    c.requires.1 r.grows r.whole
    (subst (λ (xs : List BranchCells). Narrows c.args.b.now c.narrow.new.b xs (c.in_ok-part-2.part ∷ []))
    c.in_ok-some.ensures r.narrows)
