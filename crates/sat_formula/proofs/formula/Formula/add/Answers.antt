use Rattle.std.proofs.Common.{◌∷◌, [], List, All, vec_len, arith}
use Rattle.std.proofs.lemmas.List.Elements.{All-nil, All-cons}
use Rattle.sat_formula.specs.declared.lit.Lit.{Lit}
use Rattle.sat_formula.specs.Lit.{IsBelow}
use Rattle.sat_formula.proofs.Keeping.{IsKept-more}
use Rattle.sat_formula.proofs.formula.Formula.add.Goals as goal

pub invariant_of-self-2 : goal.invariant_of-self-2
invariant_of-self-2 c =
    let P = λ (k : List Lit). All (IsBelow (vec_len c.self.inside.marks)) k in
    let below : P c.from_vec.result = rw (c.from_vec.ensures, c.in_ok-lits.ensures.items) (rw (← c.self.view_is) at c.requires) in
    IsKept-more _ _ c.self.inside.gates (c.from_vec.result ∷ []) (omega arith) c.in_ok-push.ensures.ok (All-cons P c.from_vec.result [] below (All-nil P)) c.self.invariant
