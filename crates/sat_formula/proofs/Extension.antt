use Rattle.std.proofs.Common.{◌≡◌, ℕ, ◌+◌, ◌<◌, Bool, false, List, [], ◌∷◌, ◌++◌, length, IsTrue, All, get_or, refl, sym, ◌∙◌, ap, subst, arith, append_assoc, length-append}
use Rattle.std.proofs.lemmas.List.{get_or_append_left, append-nil, length_push, get_or-append-add}
use Rattle.std.proofs.lemmas.List.Elements.{All-nil, All-head, All-tail, All-append}
use Rattle.sat_formula.specs.declared.lit.Lit.{Lit}
use Rattle.sat_formula.specs.declared.cnf.Cnf.{Cnf}
use Rattle.sat_formula.specs.Lit.{lit_value, IsBelow}
use Rattle.sat_formula.specs.Clause.{clause_true, AllTrue, NamesBelow}
use Rattle.sat_formula.specs.Formula.{Extends, Grows, EitherExtends, HasValue, WellFormed, Satisfies}

-- a literal keeps its value under a longer assignment
pub lit_value-append : (l : Lit) (a b : List Bool) → l.var < length a → lit_value l (a ++ b) ≡ lit_value l a
lit_value-append l a b h = rw (get_or_append_left a b false l.var h)

pub clause_true-append : (c : List Lit) (a b : List Bool) → All (IsBelow (length a)) c → clause_true (a ++ b) c ≡ clause_true a c
clause_true-append [] a b h = refl
clause_true-append (l ∷ c) a b h =
    let p = lit_value-append l a b (All-head (IsBelow (length a)) l c h) in
    let q = clause_true-append c a b (All-tail (IsBelow (length a)) l c h) in
    rw (p, q)

pub AllTrue-append : (cs : List (List Lit)) (a b : List Bool) → NamesBelow (length a) cs → AllTrue a cs → AllTrue (a ++ b) cs
AllTrue-append cs a b within h = λ k d lt. rw (clause_true-append (get_or cs k d) a b (within k d lt)) (h k d lt)

pub AllTrue-older : (a : List Bool) (cs ds : List (List Lit)) → AllTrue a (cs ++ ds) → AllTrue a cs
AllTrue-older a cs ds h = λ k d lt.
    let e : get_or (cs ++ ds) k d ≡ get_or cs k d = get_or_append_left cs ds d k lt in
    rw e at (h k d (omega (arith, length-append cs ds)))

pub AllTrue-newer : (a : List Bool) (cs ds : List (List Lit)) → AllTrue a (cs ++ ds) → AllTrue a ds
AllTrue-newer a cs ds h = λ k d lt.
    let e : get_or (cs ++ ds) (length cs + k) d ≡ get_or ds k d = get_or-append-add cs ds k d in
    rw e at (h (length cs + k) d (omega (arith, length-append cs ds)))

pub Extends-refl : (f : Cnf) → Extends f f
unfolding Extends
Extends-refl f = record {
  clauses = ([], sym (append-nil f.clauses));
  law = λ a n h. ([], (rw (append-nil a) n, rw (append-nil a) h));
}

pub Extends-trans : (f g h : Cnf) → Extends f g → Extends g h → Extends f h
unfolding Extends
Extends-trans f g h p q = record {
  clauses = (p.clauses.0 ++ q.clauses.0, q.clauses.1 ∙ (rw p.clauses.1 (append_assoc f.clauses p.clauses.0 q.clauses.0)));
  law = λ a n sat.
      let s = p.law a n sat in
      let t = q.law (a ++ s.0) s.1.0 s.1.1 in
      (s.0 ++ t.0, (rw (← append_assoc) t.1.0, rw (← append_assoc) t.1.1));
}

-- one new variable, whose value the older assignment gives
pub Extends-define : (f : Cnf) (v : List Bool → Bool) (more : List (List Lit)) → WellFormed f
    → ((a : List Bool) → length a ≡ f.vars → AllTrue a f.clauses → AllTrue (a ++ v a ∷ []) more)
    → Extends f (record { vars = f.vars + 1; clauses = f.clauses ++ more })
unfolding Extends
Extends-define f v more wf h = record {
  clauses = (more, refl);
  law = λ a n sat.
      let within : NamesBelow (length a) f.clauses = rw n wf.within in (
        v a ∷ [],
        (
          length_push a (v a) ∙ ap (λ (k : ℕ). k + 1) n,
          All-append (λ c. IsTrue (clause_true (a ++ v a ∷ []) c)) f.clauses more (AllTrue-append f.clauses a (v a ∷ []) within sat) (h a n sat),
        ),
      );
}

pub Grows-refl : (f : Cnf) → Grows f f
Grows-refl f = record { vars = omega arith; extends = Extends-refl f }

pub Grows-trans : (f g h : Cnf) → Grows f g → Grows g h → Grows f h
Grows-trans f g h p q = record {
  vars = let a = p.vars in let b = q.vars in omega arith;
  extends = Extends-trans f g h p.extends q.extends;
}

pub Grows-same : (f g : Cnf) → f ≡ g → Grows f g
Grows-same f g e = subst (λ (x : Cnf). Grows f x) e (Grows-refl f)

-- what grew by one variable
pub Grows-by : (f g : Cnf) → g.vars ≡ f.vars + 1 → Extends f g → Grows f g
Grows-by f g n e = record { vars = omega arith; extends = e }

pub Cnf-same : (f g : Cnf) → f.vars ≡ g.vars → f.clauses ≡ g.clauses → f ≡ g
Cnf-same f g v e =
    let p : f ≡ record { vars = g.vars; clauses = f.clauses } = ap (λ (n : ℕ). record { vars = n; clauses = f.clauses }) v in
    let q : record { vars = g.vars; clauses = f.clauses } ≡ g = ap (λ (cs : List (List Lit)). record { vars = g.vars; clauses = cs }) e in
    p ∙ q

-- the same for any formula with these parts
pub Grows-define-to : (f g : Cnf) (v : List Bool → Bool) (more : List (List Lit)) → WellFormed f
    → ((a : List Bool) → length a ≡ f.vars → AllTrue a f.clauses → AllTrue (a ++ v a ∷ []) more)
    → g.vars ≡ f.vars + 1 → g.clauses ≡ f.clauses ++ more → Grows f g
Grows-define-to f g v more wf h n e =
    Grows-by f g n (subst (λ (x : Cnf). Extends f x) (Cnf-same (record { vars = f.vars + 1; clauses = f.clauses ++ more }) g (sym n) (sym e)) (Extends-define f v more wf h))

-- one new variable without a clause
pub Grows-fresh : (f g : Cnf) → WellFormed f → g.vars ≡ f.vars + 1 → g.clauses ≡ f.clauses → Grows f g
Grows-fresh f g wf v e =
    Grows-define-to f g (λ _. false) [] wf (λ a n h. All-nil (λ c. IsTrue (clause_true (a ++ false ∷ []) c))) v (e ∙ sym (append-nil f.clauses))

-- either value of the new variable will do
pub EitherExtends-fresh : (f g : Cnf) → WellFormed f → g.clauses ≡ f.clauses → EitherExtends f g
unfolding Satisfies
EitherExtends-fresh f g wf e = λ a v n sat.
    let within : NamesBelow (length a) f.clauses = rw n wf.within in
    rw e (AllTrue-append f.clauses a (v ∷ []) within sat)

-- what satisfies the longer formula satisfies the shorter
pub Satisfies-older : (f g : Cnf) (a : List Bool) → Grows f g → Satisfies a g → Satisfies a f
unfolding Extends Satisfies
Satisfies-older f g a e sat = AllTrue-older a f.clauses e.extends.clauses.0 (rw e.extends.clauses.1 at sat)

-- what a gate says stays true as the formula grows
pub HasValue-later : (f g : Cnf) (l : Lit) (gate : List Bool → Bool) → HasValue f l gate → Grows f g → HasValue g l gate
HasValue-later f g l gate h e = record {
  below = let p = h.below in let q = e.vars in omega arith;
  value = λ a sat. h.value a (Satisfies-older f g a e sat);
}

pub HasValue-same : (f : Cnf) (l : Lit) (p q : List Bool → Bool) → HasValue f l p → ((a : List Bool) → Satisfies a f → p a ≡ q a) → HasValue f l q
HasValue-same f l p q h e = record {
  below = h.below;
  value = λ a sat. h.value a sat ∙ e a sat;
}

pub ruleset gates = (Grows-refl, Grows-trans, Satisfies-older)
