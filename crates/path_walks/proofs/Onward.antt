-- What was said under an assignment of an older formula is said under one that goes on from it.
use Rattle.std.proofs.Common.{◌≡◌, ℕ, zero, suc, ◌<◌, Bool, true, false, ◌&&◌, List, [], ◌∷◌, ◌++◌, map, length, All, refl, sym, ◌∙◌, ap, ap₂, subst, arith, append_assoc}
use Rattle.std.specs.Prelude.{Option, Some, None, option_and_then, slice_get, nat_eq, if◌then◌else◌}
use Rattle.std.proofs.lemmas.List.Elements.{All-head, All-tail}
use Rattle.sat_formula.specs.declared.cnf.Cnf.{Cnf}
use Rattle.sat_formula.specs.declared.lit.Lit.{Lit}
use Rattle.sat_formula.specs.Formula.{Extends, Satisfies, Grows as FormulaGrows}
use Rattle.sat_formula.specs.Lit.{IsBelow, lit_value}
use Rattle.sat_formula.proofs.Extension.{lit_value-append}
use Rattle.tla_values.specs.declared.value.Value.{Value}
use Rattle.tla_meaning.specs.declared.job.State.{State}
use Rattle.tla_meaning.specs.Scopes.{Scope, or_else}
use Rattle.cell_arena.specs.declared.build.Build.{Build}
use Rattle.cell_arena.specs.declared.kinds.CellId.{CellId}
use Rattle.cell_arena.specs.Decode.{decode}
use Rattle.cell_arena.specs.Growth.{Grows}
use Rattle.cell_arena.proofs.Growing.{decode-assigned, decode-before}
use Rattle.expr_rewriter.specs.declared.cell_env.CellEnv.{CellEnv}
use Rattle.expr_rewriter.specs.Environments.{AreThere, Fits, IsThere, bound_cell}
use Rattle.path_walks.specs.Paths.{GoesOn, picked}
use Rattle.path_walks.specs.inner.Walks.{all_true}

-- ---- assignments that go on

pub goes_on : (f g : Cnf) (a : List Bool) → FormulaGrows f g → length a ≡ f.vars → Satisfies a f → GoesOn g a (λ b. Unit {0})
unfolding Extends Satisfies
goes_on f g a e n s =
    let r = e.extends.law a n s in
    record { more = r.0; long = r.1.0; satisfies = r.1.1; holds = tt }

-- of an assignment that goes on further
pub go_further : (f g : Cnf) (a : List Bool) (P Q : List Bool → Type 0) → (r : GoesOn f a P) →
    GoesOn g (a ++ r.more) Q → GoesOn g a Q
go_further f g a P Q r q =
    let e : (a ++ r.more) ++ q.more ≡ a ++ (r.more ++ q.more) = append_assoc a r.more q.more in
    record {
      more = r.more ++ q.more;
      long = subst (λ (l : List Bool). length l ≡ g.vars) e q.long;
      satisfies = subst (λ l. Satisfies l g) e q.satisfies;
      holds = subst Q e q.holds;
    }

-- ---- cells and literals

-- what is older than both stays
pub record Onward (g : Build) (a : List Bool) (h : Build) (b : List Bool) : Type 0 where
  pub grows : Grows g h
  pub decodes : (id : CellId) → id.index < length g.arena.kinds → decode h.arena b id ≡ decode g.arena a id
  pub literals : (l : Lit) → l.var < g.formula.vars → lit_value l b ≡ lit_value l a

pub onward_longer : (g h : Build) (a more : List Bool) → Grows g h → length a ≡ g.formula.vars → Onward g a h (a ++ more)
onward_longer g h a more e n = record {
  grows = e;
  decodes = λ id lt. decode-before g h (a ++ more) id e lt ∙ decode-assigned g id a more n;
  literals = λ l lt. lit_value-append l a more (subst (λ k. l.var < k) (sym n) lt);
}

pub onward_same : (g h : Build) (a : List Bool) → Grows g h → Onward g a h a
onward_same g h a e = record {
  grows = e;
  decodes = λ id lt. decode-before g h a id e lt;
  literals = λ l lt. refl;
}

pub onward_trans : (g h i : Build) (a b c : List Bool) → Grows g i → Onward g a h b → Onward h b i c → Onward g a i c
onward_trans g h i a b c e p q = record {
  grows = e;
  decodes = λ id lt. q.decodes id (let m = p.grows.longer in omega arith) ∙ p.decodes id lt;
  literals = λ l lt. q.literals l (let m = p.grows.formula.vars in omega arith) ∙ p.literals l lt;
}

-- ---- several at once

module _ (g : Build) (a : List Bool) (h : Build) (b : List Bool) (o : Onward g a h b) where
  pub decode_onward : (ids : List CellId) → All (λ (id : CellId). id.index < length g.arena.kinds) ids →
      map (decode h.arena b) ids ≡ map (decode g.arena a) ids
  decode_onward [] t = refl
  decode_onward (id ∷ ids) t =
      ap₂ (λ (v : Value) (vs : List Value). v ∷ vs) (o.decodes id (All-head (λ (id : CellId). id.index < length g.arena.kinds) id ids t))
      (decode_onward ids (All-tail (λ (id : CellId). id.index < length g.arena.kinds) id ids t))

  pub picked_onward : (picks : List (List CellId)) → All (All (λ (id : CellId). id.index < length g.arena.kinds)) picks →
      picked h.arena b picks ≡ picked g.arena a picks
  picked_onward [] t = refl
  picked_onward (ids ∷ picks) t =
      ap₂ (λ (vs : List Value) (vss : List (List Value)). vs ∷ vss)
      (decode_onward ids (All-head (All (λ (id : CellId). id.index < length g.arena.kinds)) ids picks t))
      (picked_onward picks (All-tail (All (λ (id : CellId). id.index < length g.arena.kinds)) ids picks t))

  pub all_onward : (ls : List Lit) → All (IsBelow g.formula.vars) ls → all_true ls b ≡ all_true ls a
  all_onward [] t = refl
  all_onward (l ∷ ls) t =
      ap₂ (λ (p q : Bool). p && q) (o.literals l (All-head (IsBelow g.formula.vars) l ls t))
      (all_onward ls (All-tail (IsBelow g.formula.vars) l ls t))

  -- ---- environments

  some_one : (x y : CellId) → Some x ≡ Some y → x ≡ y
  some_one x y e = cc

  now_there : (ids : List CellId) (i : ℕ) (id : CellId) → All (λ (y : CellId). y.index < length g.arena.kinds) ids → slice_get ids i ≡ Some id →
      id.index < length g.arena.kinds
  now_there [] i id t e = absurd (cc)
  now_there (x ∷ xs) zero id t e =
      subst (λ (y : CellId). y.index < length g.arena.kinds) (some_one x id e) (All-head (λ (y : CellId). y.index < length g.arena.kinds) x xs t)
  now_there (x ∷ xs) (suc i) id t e = now_there xs i id (All-tail (λ (y : CellId). y.index < length g.arena.kinds) x xs t) e

  next_there : (os : List (Option CellId)) (i : ℕ) (id : CellId) → All (IsThere (length g.arena.kinds)) os →
      option_and_then (λ o. o) (slice_get os i) ≡ Some id → id.index < length g.arena.kinds
  next_there [] i id t e = absurd (cc)
  next_there (None ∷ os) zero id t e = absurd (cc)
  next_there (Some x ∷ os) zero id t e =
      subst (λ (y : CellId). y.index < length g.arena.kinds) (some_one x id e) (All-head (IsThere (length g.arena.kinds)) (Some x) os t)
  next_there (p ∷ os) (suc i) id t e = next_there os i id (All-tail (IsThere (length g.arena.kinds)) p os t) e

  bound_there : (es : List (ℕ × CellId)) (m : ℕ) (id : CellId) → All (λ (e : ℕ × CellId). e.1.index < length g.arena.kinds) es →
      bound_cell es m ≡ Some id → id.index < length g.arena.kinds
  bound_there [] m id t e = absurd (cc)
  bound_there (x ∷ xs) m id t e =
      by (bound_cell xs m) (nat_eq m x.0) e (λ q. bound_there xs m id (All-tail (λ (e : ℕ × CellId). e.1.index < length g.arena.kinds) x xs t) q)
    where
      by : (o : Option CellId) (c : Bool) → or_else o (if c then Some x.1 else None) ≡ Some id → (o ≡ Some id → id.index < length g.arena.kinds) →
          id.index < length g.arena.kinds
      by (Some y) c e k = k e
      by None true e k =
          subst (λ (y : CellId). y.index < length g.arena.kinds) (some_one x.1 id e) (All-head (λ (e : ℕ × CellId). e.1.index < length g.arena.kinds) x xs t)
      by None false e k = absurd (cc)

  pub fits_onward : (env : CellEnv) (sc : Scope) (s t : State) → AreThere (length g.arena.kinds) env → Fits g.arena a env sc s t →
      Fits h.arena b env sc s t
  fits_onward env sc s t there f = record {
    current = λ i id e. f.current i id e ∙ ap Some (sym (o.decodes id (now_there env.now i id there.current e)));
    following = λ i id e. f.following i id e ∙ ap Some (sym (o.decodes id (next_there env.next i id there.following e)));
    rest = f.rest;
    bound = λ n id e. f.bound n id e ∙ ap Some (sym (o.decodes id (bound_there env.bound n id there.bound e)));
  }
