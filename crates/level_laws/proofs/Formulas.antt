-- Formulas of clauses: their growth, free bits, gates, and assignments of exactly as many truth values as there are variables.
use Rattle.std.proofs.Common.{◌≡◌, ℕ, zero, suc, ◌+◌, ◌<◌, Bool, false, List, [], ◌∷◌, ◌++◌, length, All, get_or, refl, sym, ◌∙◌, ap, subst, arith}
use Rattle.std.proofs.lemmas.List.{get_or_append_left, get_or-append-add}
use Rattle.std.proofs.lemmas.List.Elements.{All-head, All-tail}
use Rattle.sat_formula.specs.declared.lit.Lit.{Lit}
use Rattle.sat_formula.specs.declared.cnf.Cnf.{Cnf}
use Rattle.sat_formula.specs.Lit.{lit_value, IsBelow}
use Rattle.sat_formula.specs.Clause.{clause_true}
use Rattle.sat_formula.specs.Formula.{EitherExtends, Extends, Grows, HasValue as HasGate, Satisfies, WellFormed}
use Rattle.sat_formula.proofs.Extension.{Satisfies-older}
use Rattle.level_laws.specs.Constraints.{Agree, Allowed, Assignment, Extended, Grown, HasValue, IsFreeBit, Reads, bit, of_formula}

-- ---- the first n truth values

pub first_bits : ℕ → Assignment → Assignment
first_bits zero a = []
first_bits (suc n) [] = false ∷ first_bits n []
first_bits (suc n) (x ∷ a) = x ∷ first_bits n a

pub bits_length : (n : ℕ) (a : Assignment) → length (first_bits n a) ≡ n
unfolding first_bits
bits_length zero a = refl
bits_length (suc n) [] = let h = bits_length n [] in omega arith
bits_length (suc n) (x ∷ a) = let h = bits_length n a in omega arith

bits_same : (n : ℕ) (a : Assignment) (i : ℕ) → i < n → bit a i ≡ bit (first_bits n a) i
unfolding first_bits
bits_same zero a i lt = absurd (omega (arith, lt))
bits_same (suc n) [] zero lt = refl
bits_same (suc n) [] (suc i) lt = bits_same n [] i (omega (arith, lt))
bits_same (suc n) (x ∷ a) zero lt = refl
bits_same (suc n) (x ∷ a) (suc i) lt = bits_same n a i (omega (arith, lt))

pub bits_agree : (n : ℕ) (a : Assignment) → Agree n a (first_bits n a)
bits_agree n a i lt = bits_same n a i lt

-- ---- what depends on the variables alone

pub lit_reads : (n : ℕ) (l : Lit) → l.var < n → Reads n (lit_value l)
lit_reads n l lt a b p = rw (p l.var lt) refl

clause_reads : (n : ℕ) (c : List Lit) (a b : Assignment) → All (IsBelow n) c → Agree n a b → clause_true a c ≡ clause_true b c
clause_reads n [] a b h p = refl
clause_reads n (l ∷ c) a b h p =
    let q = lit_reads n l (All-head (IsBelow n) l c h) a b p in
    let r = clause_reads n c a b (All-tail (IsBelow n) l c h) p in
    rw (q, r)

-- whether an assignment satisfies a formula
pub satisfies_agree : (f : Cnf) (a b : Assignment) → WellFormed f → Agree f.vars a b → Satisfies a f → Satisfies b f
unfolding Satisfies
satisfies_agree f a b wf p h = λ k d lt. rw (← clause_reads f.vars (get_or f.clauses k d) a b (wf.within k d lt) p) (h k d lt)

-- ---- assignments of exactly so many values

pub record Exactly (f : Cnf) (P : Assignment → Type 0) : Type 0 where
  pub at : Assignment
  pub fills : length at ≡ f.vars
  pub satisfies : Satisfies at f
  pub so : P at

pub exactly : (f : Cnf) (P : Assignment → Type 0) → WellFormed f → Allowed (of_formula f) P →
    ((a b : Assignment) → P a → Agree f.vars a b → P b) → Exactly f P
exactly f P wf u keep =
    let ag = bits_agree f.vars u.at in
    record {
      at = first_bits f.vars u.at;
      fills = bits_length f.vars u.at;
      satisfies = satisfies_agree f u.at (first_bits f.vars u.at) wf ag u.satisfies;
      so = keep u.at (first_bits f.vars u.at) u.so ag;
    }

-- ---- growth

-- an assignment goes on where its first values go on as a list
pub extended_by : (old new : Cnf) (a : Assignment) (P : Assignment → Type 0) (more : List Bool) →
    Satisfies (first_bits old.vars a ++ more) new → P (first_bits old.vars a ++ more) → Extended (of_formula old) (of_formula new) a P
extended_by old new a P more s p =
    let first = first_bits old.vars a in
    record {
      to = first ++ more;
      agrees = λ i lt. bits_same old.vars a i lt ∙ sym (get_or_append_left first more false i (omega (arith, lt, bits_length old.vars a)));
      satisfies = s;
      so = p;
    }

-- a formula's growth is a constraint's
pub formula_grown : (old new : Cnf) → WellFormed old → Grows old new → Grown (of_formula old) (of_formula new)
unfolding Extends Satisfies
formula_grown old new wf g = record {
  vars = g.vars;
  stays = λ a s. Satisfies-older old new a g s;
  extends = λ a s.
      let u = g.extends.law (first_bits old.vars a) (bits_length old.vars a) (satisfies_agree old a (first_bits old.vars a) wf (bits_agree old.vars a) s) in
      extended_by old new a (λ b. Unit {0}) u.0 u.1.1 tt;
}

-- the literal of a new variable is a free bit
pub fresh_free : (old new : Cnf) (l : Lit) → WellFormed old → Grows old new → new.vars ≡ old.vars + 1 → EitherExtends old new →
    l ≡ record { var = old.vars; neg = false } → IsFreeBit (of_formula old) (of_formula new) (lit_value l)
fresh_free old new l wf g one free is = record {
  grown = formula_grown old new wf g;
  reads = lit_reads new.vars l (subst (λ (k : Lit). k.var < new.vars) (sym is) (omega (arith, one)));
  either = λ a s v.
      let first = first_bits old.vars a in
      extended_by old new a (λ b. lit_value l b ≡ v) (v ∷ []) (free first v (bits_length old.vars a) (satisfies_agree old a first wf (bits_agree old.vars a) s))
      (value first v (bits_length old.vars a));
}
  where
    value : (first : Assignment) (v : Bool) → length first ≡ old.vars → lit_value l (first ++ v ∷ []) ≡ v
    value first v e =
        ap (λ (k : Lit). lit_value k (first ++ v ∷ [])) is
        ∙ subst (λ (n : ℕ). get_or (first ++ v ∷ []) n false ≡ v) (omega (arith, e)) (get_or-append-add first (v ∷ []) 0 false)

-- what a gate says
pub gate_value : (f : Cnf) (l : Lit) (gate : List Bool → Bool) → HasGate f l gate → HasValue (of_formula f) (lit_value l) gate
gate_value f l gate h = record { reads = lit_reads f.vars l h.below; is = h.value }
