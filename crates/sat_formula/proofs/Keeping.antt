-- The gates that a formula keeps, as it grows.
use Rattle.std.proofs.Common.{◌≡◌, ◌≤◌, Bool, true, false, cond, ◌&&◌, List, [], ◌∷◌, ◌++◌, Option, None, Some, IfSome, HashMap, All, refl, ap, arith}
use Rattle.std.specs.Cmp.{first_so, second_so}
use Rattle.std.specs.Prelude.{nat_eq, if◌then◌else◌}
use Rattle.std.specs.List.{list_all}
use Rattle.std.specs.Cmp.Lexicographic.{pointwise}
use Rattle.std.specs.Bool.{beq}
use Rattle.std.specs.HashMap.{get}
use Rattle.std.proofs.lemmas.Bool.{eqb-true}
use Rattle.std.proofs.lemmas.List.Elements.{All-append, All-weaker}
use Rattle.sat_formula.specs.declared.lit.Lit.{Lit}
use Rattle.sat_formula.specs.declared.cnf.Cnf.{Cnf}
use Rattle.sat_formula.specs.declared.gate.Gate.{Gate}
use Rattle.sat_formula.specs.declared.gate.Gate.TheVariants.{And, AndAll, Mux}
use Rattle.sat_formula.specs.Lit.{lit_value, IsBelow}
use Rattle.sat_formula.specs.Clause.{NamesBelow}
use Rattle.sat_formula.specs.Formula.{HasValue, Satisfies}
use Rattle.sat_formula.specs.inner.Gates.{gate_value, same_gate, AreGates, IsKept}
use Rattle.sat_formula.proofs.Extension.{AllTrue-older, HasValue-same}

same_sign : (m n : Bool) → beq m n ≡ true → m ≡ n
same_sign true true e = refl
same_sign true false e = cc
same_sign false true e = cc
same_sign false false e = refl

same_lit : (x y : Lit) → (nat_eq x.var y.var && beq x.neg y.neg) ≡ true → x ≡ y
same_lit x y e =
    let v = eqb-true x.var y.var (first_so _ _ e) in
    let n = same_sign x.neg y.neg (second_so (nat_eq x.var y.var) _ e) in
    λ i. record { var = v i; neg = n i }

same_lits : (xs ys : List Lit) → pointwise (λ x y. nat_eq x.var y.var && beq x.neg y.neg) xs ys ≡ true → xs ≡ ys
same_lits [] [] e = refl
same_lits [] (y ∷ ys) e = cc
same_lits (x ∷ xs) [] e = cc
same_lits (x ∷ xs) (y ∷ ys) e =
    let p = same_lit x y (first_so _ _ e) in
    let q = same_lits xs ys (second_so (nat_eq x.var y.var && beq x.neg y.neg) _ e) in
    λ i. p i ∷ q i

-- equal gates have equal values
same_gate-value : (g h : Gate) (a : List Bool) → same_gate g h ≡ true → gate_value g a ≡ gate_value h a
same_gate-value (And x y) (And u v) a e =
    let p = same_lit x u (first_so _ _ e) in
    let q = same_lit y v (second_so (nat_eq x.var u.var && beq x.neg u.neg) _ e) in
    λ i. lit_value (p i) a && lit_value (q i) a
same_gate-value (And x y) (AndAll v) a e = cc
same_gate-value (And x y) (Mux u v w) a e = cc
same_gate-value (AndAll x) (And u v) a e = cc
same_gate-value (AndAll x) (AndAll u) a e = ap (λ (ls : List Lit). list_all (λ l. lit_value l a) ls) (same_lits x.items u.items e)
same_gate-value (AndAll x) (Mux u v w) a e = cc
same_gate-value (Mux x y z) (And u v) a e = cc
same_gate-value (Mux x y z) (AndAll u) a e = cc
same_gate-value (Mux x y z) (Mux u v w) a e =
    let p = same_lit x u (first_so _ _ e) in
    let r = second_so (nat_eq x.var u.var && beq x.neg u.neg) _ e in
    let q = same_lit y v (first_so _ _ r) in
    let s = same_lit z w (second_so (nat_eq y.var v.var && beq y.neg v.neg) _ r) in
    λ i. if lit_value (p i) a then lit_value (q i) a else lit_value (s i) a

some_later : {X : Type 0} (P Q : X → Type 0) (o : Option X) → ((x : X) → P x → Q x) → IfSome o P → IfSome o Q
some_later P Q None f h = tt
some_later P Q (Some x) f h = f x h

module _ {S : Type 0} where
  pub AreGates-none : (f : Cnf) (kept : HashMap Gate Lit S) → kept.entries ≡ [] → AreGates f kept
  unfolding AreGates
  AreGates-none f kept e = λ g. rw e tt

  -- the literal that is kept for a gate
  pub AreGates-at : (f : Cnf) (kept : HashMap Gate Lit S) (g : Gate) (o : Option Lit) → AreGates f kept → o ≡ get same_gate kept g
      → IfSome o (λ l. HasValue f l (gate_value g))
  unfolding AreGates
  AreGates-at f kept g o h e = rw e (h g)

  pub AreGates-same : (f : Cnf) (kept again : HashMap Gate Lit S) → again.entries ≡ kept.entries → AreGates f kept → AreGates f again
  unfolding AreGates
  AreGates-same f kept again e h = λ g. rw e (h g)

  -- one more gate
  pub AreGates-insert : (f : Cnf) (kept more : HashMap Gate Lit S) (g : Gate) (l : Lit) → HasValue f l (gate_value g)
      → ((q : Gate) → get same_gate more q ≡ cond (same_gate g q) (Some l) (get same_gate kept q)) → AreGates f kept → AreGates f more
  unfolding AreGates
  AreGates-insert f kept more g l v u h = λ q. rw (u q) (at q (same_gate g q) refl)
    where
      at : (q : Gate) (b : Bool) → same_gate g q ≡ b → IfSome (cond b (Some l) (get same_gate kept q)) (λ l. HasValue f l (gate_value q))
      at q true e = HasValue-same f l (gate_value g) (gate_value q) v (λ a _. same_gate-value g q a e)
      at q false e = h q

  -- what is kept stays so where the formula has more variables and clauses
  pub AreGates-more : (f g : Cnf) (kept : HashMap Gate Lit S) (more : List (List Lit)) → f.vars ≤ g.vars → g.clauses ≡ f.clauses ++ more
      → AreGates f kept → AreGates g kept
  unfolding AreGates Satisfies
  AreGates-more f g kept more n e h = λ q. some_later _ _ (get same_gate kept q)
      (λ l v. record {
        below = let b = v.below in omega arith;
        value = λ a sat. v.value a (AllTrue-older a f.clauses more (rw e at sat));
      })
      (h q)

  -- a formula that has more variables and clauses keeps its gates
  pub IsKept-more : (f g : Cnf) (kept : HashMap Gate Lit S) (more : List (List Lit)) → f.vars ≤ g.vars → g.clauses ≡ f.clauses ++ more
      → NamesBelow g.vars more → IsKept f kept → IsKept g kept
  IsKept-more f g kept more n e m h = record {
    well_formed = record {
      some = let s = h.well_formed.some in omega arith;
      forced = λ a sat. h.well_formed.forced a (AllTrue-older a f.clauses more (rw e at sat));
      within =
          let wider : NamesBelow g.vars f.clauses = λ k d lt. All-weaker (IsBelow f.vars) (IsBelow g.vars) (λ l b. omega arith) _ (h.well_formed.within k d lt) in
          rw e (All-append (λ c. All (IsBelow g.vars) c) f.clauses more wider m);
    };
    gates = AreGates-more f g kept more n e h.gates;
  }
