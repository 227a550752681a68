use Rattle.std.proofs.Common.{◌≡◌, ◌+◌, ◌++◌, ◌∷◌, [], List, All, take, drop, map, ap, sym, refl, subst, ◌∙◌, arith, append_assoc}
use Rattle.std.proofs.lemmas.List.{take-append-drop, append-nil}
use Rattle.std.proofs.lemmas.List.Elements.{All-weaker}
use Rattle.sat_formula.specs.Lit.{IsBelow}
use Rattle.sat_formula.specs.Clause.{implications}
use Rattle.sat_formula.proofs.GateClauses.{negation}
use Rattle.sat_formula.specs.declared.lit.Lit.{Lit}
use Rattle.sat_formula.specs.declared.cnf.Cnf.{Cnf}
use Rattle.sat_formula.specs.Formula.{HasValue}
use Rattle.sat_formula.proofs.Conjunctions.{positive, all_true, all_clauses, all_extends, all_has_value, negations_below}
use Rattle.sat_formula.proofs.formula.Formula.define_all.Goals as goal

-- the clauses that stand once each implication does
implied : (f g h : Cnf) (out : Lit) (w : List Lit) (more : Lit → List (List Lit)) → out ≡ positive f.vars → g ≡ record f { vars = f.vars + 1 }
    → h.clauses ≡ g.clauses ++ more out → h.clauses ≡ f.clauses ++ more (positive f.vars)
implied f g h out w more o e s =
    s ∙ ap (λ (k : Cnf). k.clauses ++ more out) e ∙ ap (λ (l : Lit). f.clauses ++ more l) o

pub add-requires : goal.add-requires
add-requires c =
    let n : c.imply_each.new.self.vars ≡ c.args.self.now.vars + 1 = c.in_ok-imply_each.ensures.vars ∙ ap (λ (f : Cnf). f.vars) c.in_ok-out.ensures.longer in
    let o : c.in_ok-out.out.var ≡ c.args.self.now.vars = ap (λ (l : Lit). l.var) c.in_ok-out.ensures.lit in
    let later : All (IsBelow c.imply_each.new.self.vars) c.args.lits.now = All-weaker (IsBelow c.args.self.now.vars) (IsBelow c.imply_each.new.self.vars) (λ l b. omega arith) c.args.lits.now c.requires in
    let same : c.as_slice.result.now ≡ map negation c.args.lits.now ++ c.in_ok-out.out ∷ [] =
    c.as_slice.ensures.value ∙ c.in_ok-push.ensures.items ∙ ap (λ (w : List Lit). w ++ c.in_ok-out.out ∷ []) c.in_ok-last.ensures in
    subst (λ (w : List Lit). All (IsBelow c.imply_each.new.self.vars) w) (sym same) (negations_below c.imply_each.new.self.vars c.args.lits.now c.in_ok-out.out later (omega arith))

pub returns-in_err-imply_each-clause-grows : goal.returns-in_err-imply_each-clause-grows
returns-in_err-imply_each-clause-grows c =
    let e = c.in_err-imply_each.ensures.err in
    let w = c.args.lits.now in
    let f = c.args.self.now in
    let all = implications (positive f.vars) w in
    let last = (map negation w ++ positive f.vars ∷ []) ∷ [] in
    all_extends f c.imply_each.new.self w (take e.0 all) (drop e.0 all ++ last) c.vars.ensures.well_formed c.requires
    (c.in_err-imply_each.ensures.vars ∙ ap (λ (f : Cnf). f.vars) c.in_ok-out.ensures.longer)
    (implied f c.fresh.new.self c.imply_each.new.self c.in_ok-out.out w (λ l. take e.0 (implications l w)) c.in_ok-out.ensures.lit c.in_ok-out.ensures.longer e.1)
    (sym (append_assoc (take e.0 all) (drop e.0 all) last) ∙ ap (λ (cs : List (List Lit)). cs ++ last) (take-append-drop e.0 all))

pub returns-in_err-add-clause-grows : goal.returns-in_err-add-clause-grows
returns-in_err-add-clause-grows c =
    let w = c.args.lits.now in
    let f = c.args.self.now in
    let last = (map negation w ++ positive f.vars ∷ []) ∷ [] in
    let same = c.in_err-add.ensures.err in
    all_extends f c.add.new.self w (implications (positive f.vars) w) last c.vars.ensures.well_formed c.requires
    (ap (λ (f : Cnf). f.vars) same ∙ c.in_ok-imply_each.ensures.vars ∙ ap (λ (f : Cnf). f.vars) c.in_ok-out.ensures.longer)
    (ap (λ (f : Cnf). f.clauses) same ∙ implied f c.fresh.new.self c.imply_each.new.self c.in_ok-out.out w (λ l. implications l w) c.in_ok-out.ensures.lit c.in_ok-out.ensures.longer c.in_ok-imply_each.ensures.ok)
    refl

-- all the clauses
all_added : (f g h k : Cnf) (out : Lit) (w last : List Lit) → out ≡ positive f.vars → g ≡ record f { vars = f.vars + 1 }
    → h.clauses ≡ g.clauses ++ implications out w → k ≡ record h { clauses = h.clauses ++ last ∷ [] }
    → last ≡ map negation w ++ out ∷ [] → k.clauses ≡ f.clauses ++ all_clauses w f.vars
all_added f g h k out w last o e s t l =
    let first = implied f g h out w (λ l. implications l w) o e s in
    let end : last ≡ map negation w ++ positive f.vars ∷ [] = l ∙ ap (λ (x : Lit). map negation w ++ x ∷ []) o in
    ap (λ (x : Cnf). x.clauses) t ∙ ap (λ (cs : List (List Lit)). cs ++ last ∷ []) first
    ∙ append_assoc f.clauses (implications (positive f.vars) w) (last ∷ [])
    ∙ ap (λ (c : List Lit). f.clauses ++ (implications (positive f.vars) w ++ c ∷ [])) end

pub returns-clause-value : goal.returns-clause-value
returns-clause-value c =
    let w = c.args.lits.now in
    let f = c.args.self.now in
    let g = c.add.new.self in
    let same = c.in_ok-add.ensures.ok in
    let last : c.as_slice.result.now ≡ map negation w ++ c.in_ok-out.out ∷ [] =
    c.as_slice.ensures.value ∙ c.in_ok-push.ensures.items ∙ ap (λ (v : List Lit). v ++ c.in_ok-out.out ∷ []) c.in_ok-last.ensures in
    subst (λ (l : Lit). HasValue g l (λ a. all_true w a)) (sym c.in_ok-out.ensures.lit)
    (all_has_value f g w
    (ap (λ (f : Cnf). f.vars) same ∙ c.in_ok-imply_each.ensures.vars ∙ ap (λ (f : Cnf). f.vars) c.in_ok-out.ensures.longer)
    (all_added f c.fresh.new.self c.imply_each.new.self g c.in_ok-out.out w c.as_slice.result.now c.in_ok-out.ensures.lit c.in_ok-out.ensures.longer c.in_ok-imply_each.ensures.ok same last))

pub returns-clause-grows : goal.returns-clause-grows
returns-clause-grows c =
    let w = c.args.lits.now in
    let f = c.args.self.now in
    let g = c.add.new.self in
    let same = c.in_ok-add.ensures.ok in
    let last : c.as_slice.result.now ≡ map negation w ++ c.in_ok-out.out ∷ [] =
    c.as_slice.ensures.value ∙ c.in_ok-push.ensures.items ∙ ap (λ (v : List Lit). v ++ c.in_ok-out.out ∷ []) c.in_ok-last.ensures in
    all_extends f g w (all_clauses w f.vars) [] c.vars.ensures.well_formed c.requires
    (ap (λ (f : Cnf). f.vars) same ∙ c.in_ok-imply_each.ensures.vars ∙ ap (λ (f : Cnf). f.vars) c.in_ok-out.ensures.longer)
    (all_added f c.fresh.new.self c.imply_each.new.self g c.in_ok-out.out w c.as_slice.result.now c.in_ok-out.ensures.lit c.in_ok-out.ensures.longer c.in_ok-imply_each.ensures.ok same last)
    (append-nil (all_clauses w f.vars))
