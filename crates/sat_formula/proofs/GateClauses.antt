use Rattle.std.proofs.Common.{◌≡◌, ℕ, ◌+◌, ◌<◌, Bool, true, false, not, List, [], ◌∷◌, ◌++◌, length, take, IsTrue, get_or, refl, subst, arith, ◌||◌, ◌&&◌}
use Rattle.std.specs.Prelude.{if◌then◌else◌}
use Rattle.std.proofs.lemmas.List.{get_or_push}
use Rattle.std.proofs.lemmas.List.Elements.{All-nil, All-cons, All-take}
use Rattle.sat_formula.specs.declared.lit.Lit.{Lit}
use Rattle.sat_formula.specs.declared.cnf.Cnf.{Cnf}
use Rattle.sat_formula.specs.Lit.{lit_value}
use Rattle.sat_formula.specs.Clause.{clause_true, AllTrue}
use Rattle.sat_formula.specs.Formula.{Grows, HasValue, WellFormed, Satisfies}
use Rattle.sat_formula.proofs.Extension.{lit_value-append, Grows-define-to, AllTrue-newer}

abbrev pub negation : Lit → Lit
negation l = record { var = l.var; neg = not l.neg }

flipped : (n v : Bool) → (if not n then not v else v) ≡ not (if n then not v else v)
flipped true true = refl
flipped true false = refl
flipped false true = refl
flipped false false = refl

pub lit_value-negation : (l : Lit) (a : List Bool) → lit_value (negation l) a ≡ not (lit_value l a)
lit_value-negation l a = flipped l.neg (get_or a l.var false)

-- the clauses of a variable n that is true exactly where x and y are
abbrev pub and_clauses : Lit → Lit → ℕ → List (List Lit)
and_clauses x y n =
    (record { var = n; neg = true } ∷ x ∷ []) ∷ (record { var = n; neg = true } ∷ y ∷ []) ∷ (record { var = n; neg = false } ∷ negation x ∷ negation y ∷ []) ∷ []

and_left_true : (p q : Bool) → not (p && q) || (p || false) ≡ true
and_left_true true true = refl
and_left_true true false = refl
and_left_true false true = refl
and_left_true false false = refl

and_right_true : (p q : Bool) → not (p && q) || (q || false) ≡ true
and_right_true true true = refl
and_right_true true false = refl
and_right_true false true = refl
and_right_true false false = refl

and_both_true : (p q : Bool) → (p && q) || (not p || (not q || false)) ≡ true
and_both_true true true = refl
and_both_true true false = refl
and_both_true false true = refl
and_both_true false false = refl

and_forced : (o p q : Bool) → not o || (p || false) ≡ true → not o || (q || false) ≡ true → o || (not p || (not q || false)) ≡ true → o ≡ (p && q)
and_forced true true true e f g = refl
and_forced true true false e f g = cc
and_forced true false q e f g = cc
and_forced false true true e f g = cc
and_forced false true false e f g = refl
and_forced false false q e f g = refl

-- they hold at that value
pub and_clauses_hold : (x y : Lit) (a : List Bool) → x.var < length a → y.var < length a
    → AllTrue (a ++ (lit_value x a && lit_value y a) ∷ []) (and_clauses x y (length a))
and_clauses_hold x y a hx hy =
    let v : Bool = lit_value x a && lit_value y a in
    let b : List Bool = a ++ v ∷ [] in
    let P : List Lit → Type 0 = λ c. IsTrue (clause_true b c) in
    let o : get_or b (length a) false ≡ v = get_or_push a v false (length a) refl in
    let ex : lit_value x b ≡ lit_value x a = lit_value-append x a (v ∷ []) hx in
    let ey : lit_value y b ≡ lit_value y a = lit_value-append y a (v ∷ []) hy in
    let n : ℕ = length a in
    let c : clause_true b (record { var = n; neg = true } ∷ x ∷ []) ≡ true = rw (o, ex) (and_left_true (lit_value x a) (lit_value y a)) in
    let d : clause_true b (record { var = n; neg = true } ∷ y ∷ []) ≡ true = rw (o, ey) (and_right_true (lit_value x a) (lit_value y a)) in
    let e : clause_true b (record { var = n; neg = false } ∷ negation x ∷ negation y ∷ []) ≡ true =
    rw (o, lit_value-negation x b, lit_value-negation y b, ex, ey) (and_both_true (lit_value x a) (lit_value y a)) in
    All-cons P (record { var = n; neg = true } ∷ x ∷ []) ((record { var = n; neg = true } ∷ y ∷ []) ∷ (record { var = n; neg = false } ∷ negation x ∷ negation y ∷ []) ∷ []) c
    (All-cons P (record { var = n; neg = true } ∷ y ∷ []) ((record { var = n; neg = false } ∷ negation x ∷ negation y ∷ []) ∷ []) d
    (All-cons P (record { var = n; neg = false } ∷ negation x ∷ negation y ∷ []) [] e (All-nil P)))

-- they force that value
pub and_clauses_force : (x y : Lit) (n : ℕ) (a : List Bool) → AllTrue a (and_clauses x y n)
    → lit_value (record { var = n; neg = false }) a ≡ (lit_value x a && lit_value y a)
and_clauses_force x y n a h =
    and_forced (get_or a n false) (lit_value x a) (lit_value y a)
    (h 0 [] (omega arith)) (h 1 [] (omega arith))
    (rw (lit_value-negation x a, lit_value-negation y a) at (h 2 [] (omega arith)))

-- a formula with the new variable and the first k of its clauses
pub and_extends : (f g : Cnf) (x y : Lit) (k : ℕ) → WellFormed f → x.var < f.vars → y.var < f.vars
    → g.vars ≡ f.vars + 1 → g.clauses ≡ f.clauses ++ take k (and_clauses x y f.vars) → Grows f g
and_extends f g x y k wf hx hy n e =
    Grows-define-to f g (λ a. lit_value x a && lit_value y a) (take k (and_clauses x y f.vars)) wf
    (λ a m sat.
    let lx : x.var < length a = omega arith in
    let ly : y.var < length a = omega arith in
    let all : AllTrue (a ++ (lit_value x a && lit_value y a) ∷ []) (and_clauses x y f.vars) = subst (λ (n : ℕ). AllTrue (a ++ (lit_value x a && lit_value y a) ∷ []) (and_clauses x y n)) m (and_clauses_hold x y a lx ly) in
    All-take (λ c. IsTrue (clause_true (a ++ (lit_value x a && lit_value y a) ∷ []) c)) k (and_clauses x y f.vars) all)
    n e

pub and_has_value : (f g : Cnf) (x y : Lit) → g.vars ≡ f.vars + 1 → g.clauses ≡ f.clauses ++ and_clauses x y f.vars
    → HasValue g (record { var = f.vars; neg = false }) (λ a. lit_value x a && lit_value y a)
unfolding Satisfies
and_has_value f g x y n e = record {
  below = omega arith;
  value = λ a h. and_clauses_force x y f.vars a (AllTrue-newer a f.clauses (and_clauses x y f.vars) (rw e at h));
}

-- the clauses of a variable n that is y where c is true, and z elsewhere
abbrev pub mux_clauses : Lit → Lit → Lit → ℕ → List (List Lit)
mux_clauses c y z n =
    (negation c ∷ record { var = n; neg = true } ∷ y ∷ []) ∷ (negation c ∷ record { var = n; neg = false } ∷ negation y ∷ [])
    ∷ (c ∷ record { var = n; neg = true } ∷ z ∷ []) ∷ (c ∷ record { var = n; neg = false } ∷ negation z ∷ []) ∷ []

mux1 : (c y z : Bool) → not c || (not (if c then y else z) || (y || false)) ≡ true
mux1 true true true = refl
mux1 true true false = refl
mux1 true false true = refl
mux1 true false false = refl
mux1 false true true = refl
mux1 false true false = refl
mux1 false false true = refl
mux1 false false false = refl

mux2 : (c y z : Bool) → not c || ((if c then y else z) || (not y || false)) ≡ true
mux2 true true true = refl
mux2 true true false = refl
mux2 true false true = refl
mux2 true false false = refl
mux2 false true true = refl
mux2 false true false = refl
mux2 false false true = refl
mux2 false false false = refl

mux3 : (c y z : Bool) → c || (not (if c then y else z) || (z || false)) ≡ true
mux3 true true true = refl
mux3 true true false = refl
mux3 true false true = refl
mux3 true false false = refl
mux3 false true true = refl
mux3 false true false = refl
mux3 false false true = refl
mux3 false false false = refl

mux4 : (c y z : Bool) → c || ((if c then y else z) || (not z || false)) ≡ true
mux4 true true true = refl
mux4 true true false = refl
mux4 true false true = refl
mux4 true false false = refl
mux4 false true true = refl
mux4 false true false = refl
mux4 false false true = refl
mux4 false false false = refl

mux_forced : (c o y z : Bool) → not c || (not o || (y || false)) ≡ true → not c || (o || (not y || false)) ≡ true → c || (not o || (z || false)) ≡ true → c || (o || (not z || false)) ≡ true → o ≡ (if c then y else z)
mux_forced true true true true e f g h = refl
mux_forced true true true false e f g h = refl
mux_forced true true false true e f g h = cc
mux_forced true true false false e f g h = cc
mux_forced true false true true e f g h = cc
mux_forced true false true false e f g h = cc
mux_forced true false false true e f g h = refl
mux_forced true false false false e f g h = refl
mux_forced false true true true e f g h = refl
mux_forced false true true false e f g h = cc
mux_forced false true false true e f g h = refl
mux_forced false true false false e f g h = cc
mux_forced false false true true e f g h = cc
mux_forced false false true false e f g h = refl
mux_forced false false false true e f g h = cc
mux_forced false false false false e f g h = refl

pub mux_clauses_hold : (c y z : Lit) (a : List Bool) → c.var < length a → y.var < length a → z.var < length a
    → AllTrue (a ++ (if lit_value c a then lit_value y a else lit_value z a) ∷ []) (mux_clauses c y z (length a))
mux_clauses_hold c y z a hc hy hz =
    let v : Bool = if lit_value c a then lit_value y a else lit_value z a in
    let b : List Bool = a ++ v ∷ [] in
    let n : ℕ = length a in
    let P : List Lit → Type 0 = λ c. IsTrue (clause_true b c) in
    let o : get_or b (length a) false ≡ v = get_or_push a v false (length a) refl in
    let ec : lit_value c b ≡ lit_value c a = lit_value-append c a (v ∷ []) hc in
    let ey : lit_value y b ≡ lit_value y a = lit_value-append y a (v ∷ []) hy in
    let ez : lit_value z b ≡ lit_value z a = lit_value-append z a (v ∷ []) hz in
    let c1 : List Lit = negation c ∷ record { var = n; neg = true } ∷ y ∷ [] in
    let c2 : List Lit = negation c ∷ record { var = n; neg = false } ∷ negation y ∷ [] in
    let c3 : List Lit = c ∷ record { var = n; neg = true } ∷ z ∷ [] in
    let c4 : List Lit = c ∷ record { var = n; neg = false } ∷ negation z ∷ [] in
    let h1 : clause_true b c1 ≡ true = rw (lit_value-negation c b, o, ec, ey) (mux1 (lit_value c a) (lit_value y a) (lit_value z a)) in
    let h2 : clause_true b c2 ≡ true = rw (lit_value-negation c b, lit_value-negation y b, o, ec, ey) (mux2 (lit_value c a) (lit_value y a) (lit_value z a)) in
    let h3 : clause_true b c3 ≡ true = rw (o, ec, ez) (mux3 (lit_value c a) (lit_value y a) (lit_value z a)) in
    let h4 : clause_true b c4 ≡ true = rw (lit_value-negation z b, o, ec, ez) (mux4 (lit_value c a) (lit_value y a) (lit_value z a)) in
    All-cons P c1 (c2 ∷ c3 ∷ c4 ∷ []) h1 (All-cons P c2 (c3 ∷ c4 ∷ []) h2 (All-cons P c3 (c4 ∷ []) h3 (All-cons P c4 [] h4 (All-nil P))))

pub mux_clauses_force : (c y z : Lit) (n : ℕ) (a : List Bool) → AllTrue a (mux_clauses c y z n)
    → lit_value (record { var = n; neg = false }) a ≡ (if lit_value c a then lit_value y a else lit_value z a)
mux_clauses_force c y z n a h =
    mux_forced (lit_value c a) (get_or a n false) (lit_value y a) (lit_value z a)
    (rw (lit_value-negation c a) at (h 0 [] (omega arith)))
    (rw (lit_value-negation c a, lit_value-negation y a) at (h 1 [] (omega arith)))
    (h 2 [] (omega arith))
    (rw (lit_value-negation z a) at (h 3 [] (omega arith)))

pub mux_extends : (f g : Cnf) (c y z : Lit) (k : ℕ) → WellFormed f → c.var < f.vars → y.var < f.vars → z.var < f.vars
    → g.vars ≡ f.vars + 1 → g.clauses ≡ f.clauses ++ take k (mux_clauses c y z f.vars) → Grows f g
mux_extends f g c y z k wf hc hy hz n e =
    Grows-define-to f g (λ a. if lit_value c a then lit_value y a else lit_value z a) (take k (mux_clauses c y z f.vars)) wf
    (λ a m sat.
    let lc : c.var < length a = omega arith in
    let ly : y.var < length a = omega arith in
    let lz : z.var < length a = omega arith in
    let v : Bool = if lit_value c a then lit_value y a else lit_value z a in
    let all : AllTrue (a ++ v ∷ []) (mux_clauses c y z f.vars) = subst (λ (n : ℕ). AllTrue (a ++ v ∷ []) (mux_clauses c y z n)) m (mux_clauses_hold c y z a lc ly lz) in
    All-take (λ c. IsTrue (clause_true (a ++ v ∷ []) c)) k (mux_clauses c y z f.vars) all)
    n e

pub mux_has_value : (f g : Cnf) (c y z : Lit) → g.vars ≡ f.vars + 1 → g.clauses ≡ f.clauses ++ mux_clauses c y z f.vars
    → HasValue g (record { var = f.vars; neg = false }) (λ a. if lit_value c a then lit_value y a else lit_value z a)
unfolding Satisfies
mux_has_value f g c y z n e = record {
  below = omega arith;
  value = λ a h. mux_clauses_force c y z f.vars a (AllTrue-newer a f.clauses (mux_clauses c y z f.vars) (rw e at h));
}
