use Rattle.std.proofs.Common.{ap, arith, get_or}
use Rattle.std.proofs.lemmas.List.{get_or_default}
use Rattle.sat_formula.specs.declared.lit.Lit.{Lit}
use Rattle.sat_formula.proofs.Extension.{Grows-refl, Grows-trans}
use Rattle.cell_merge.proofs.Edges.{negated-value}
use Rattle.form_choices.proofs.Makings.{no_edge, no_lit, tell-all, tell-more, tell-none}
use Rattle.form_choices.proofs.making.implied.Goals as goal

pub or-requires-clause-x_below : goal.or-requires-clause-x_below
or-requires-clause-x_below c =
    let p = c.requires.edges c.loop-i.i no_edge c.loop-i-test.true in
    let q = c.loop-i.invariant.grows.vars in
    let v = ap (λ (l : Lit). l.var) c.negated.ensures in
    omega arith

pub or-requires-clause-y_below : goal.or-requires-clause-y_below
or-requires-clause-y_below c =
    let n = c.requires.one_each in
    let lt = c.loop-i-test.true in
    let p = c.requires.below c.loop-i.i no_lit (omega arith) in
    let q = c.loop-i.invariant.grows.vars in
    omega arith

pub loop-i-init : goal.loop-i-init
loop-i-init c = record { grows = Grows-refl _; told = tell-none c.args.formula.now c.args.edges.now c.args.lits.now _ c.new-out.ensures.items }

pub loop-i-preserved : goal.loop-i-preserved
loop-i-preserved c =
    let i = c.loop-i.invariant in
    let lt = c.loop-i-test.true in
    let n = c.requires.one_each in
    record {
      grows = Grows-trans _ _ _ i.grows c.in_ok-l.ensures.grows;
      told = tell-more c.loop-i.formula _ c.args.edges.now c.args.lits.now _ _ c.loop-i.i (get_or c.args.edges.now c.loop-i.i no_edge) (get_or c.args.lits.now c.loop-i.i no_lit) _ _ lt n
          i.told c.in_ok-l.ensures.grows (get_or_default c.args.edges.now c.loop-i.i _ _ lt) (get_or_default c.args.lits.now c.loop-i.i _ _ (omega arith))
          (λ a. negated-value _ _ a c.negated.ensures) c.in_ok-l.ensures.value c.in_ok-push.ensures.items;
    }

pub returns-clause-tell : goal.returns-clause-tell
returns-clause-tell c = tell-all _ c.args.edges.now c.args.lits.now _ c.loop-i.i c.loop-i-test.false c.requires.one_each c.loop-i.invariant.told
