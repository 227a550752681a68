use Rattle.std.proofs.Common.{◌++◌, ◌∷◌, [], List, take, ap, sym, ◌∙◌, arith, append_assoc, get_or}
use Rattle.sat_formula.specs.declared.lit.Lit.{Lit}
use Rattle.sat_formula.specs.declared.cnf.Cnf.{Cnf}
use Rattle.sat_formula.specs.Clause.{implications}
use Rattle.sat_formula.specs.Lit.{top_lit}
use Rattle.sat_formula.proofs.Conjunctions.{implications_more}
use Rattle.sat_formula.proofs.formula.Formula.imply_each.Goals as goal

pub loop-l-preserved : goal.loop-l-preserved
loop-l-preserved c = record {
  vars = ap (λ (f : Cnf). f.vars) c.in_ok-add.ensures.ok ∙ c.loop-l.invariant.vars;
  clauses =
      let i = c.loop-l.l-index in
      let w = c.args.lits.now in
      let out = c.args.out in
      let old = c.args.self.now.clauses in
      let all = implications out w in
      ap (λ (f : Cnf). f.clauses) c.in_ok-add.ensures.ok
      ∙ ap (λ (cs : List (List Lit)). cs ++ (c.negated.result ∷ get_or w i top_lit ∷ []) ∷ []) c.loop-l.invariant.clauses
      ∙ append_assoc old (take i all) ((c.negated.result ∷ get_or w i top_lit ∷ []) ∷ [])
      ∙ ap (λ (l : Lit). old ++ (take i all ++ (l ∷ get_or w i top_lit ∷ []) ∷ [])) c.negated.ensures
      ∙ sym (ap (λ (cs : List (List Lit)). old ++ cs) (implications_more out w i top_lit (omega arith)));
}
