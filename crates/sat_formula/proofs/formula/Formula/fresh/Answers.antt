use Rattle.std.proofs.Common.{[], All, refl, sym, arith}
use Rattle.std.proofs.lemmas.List.{append-nil}
use Rattle.std.proofs.lemmas.List.Elements.{All-nil}
use Rattle.sat_formula.specs.Lit.{IsBelow}
use Rattle.sat_formula.proofs.Extension.{Grows-same, Grows-fresh, EitherExtends-fresh}
use Rattle.sat_formula.proofs.Keeping.{IsKept-more}
use Rattle.sat_formula.proofs.formula.Formula.fresh.Goals as goal

pub invariant_of-self-2 : goal.invariant_of-self-2
invariant_of-self-2 c =
    IsKept-more _ _ c.self.inside.gates [] (let n = c.in_ok-push.ensures.len in omega arith) (sym (append-nil c.self.inside.clauses)) (All-nil (λ c. All (IsBelow _) c)) c.self.invariant

pub returns-in_err-push-clause-grows : goal.returns-in_err-push-clause-grows
returns-in_err-push-clause-grows c = rw (← c.self.view_is) (Grows-same _ _ (let e = c.in_err-push.ensures.len in cc))

pub returns-clause-grows : goal.returns-clause-grows
returns-clause-grows c = rw (← c.self.view_is) (Grows-fresh _ _ c.self.invariant.well_formed (c.in_ok-push.ensures.len) refl)

pub returns-clause-free : goal.returns-clause-free
returns-clause-free c = rw (← c.self.view_is) (EitherExtends-fresh _ _ c.self.invariant.well_formed refl)
