-- The edges of a set that are kept.
use Rattle.std.proofs.Common.{◌≡◌, ℕ, zero, suc, ◌+◌, ◌<◌, Bool, true, false, cond, ◌&&◌, ◌||◌, List, [], ◌∷◌, ◌++◌, map, length, take, get_or, refl, ap, ◌∙◌, sym, arith}
use Rattle.std.specs.Prelude.{filter, if◌then◌else◌}
use Rattle.std.specs.List.{list_any}
use Rattle.std.proofs.lemmas.List.Elements.{All-push}
use Rattle.sat_formula.specs.declared.lit.Lit.{Lit}
use Rattle.sat_formula.specs.declared.cnf.Cnf.{Cnf}
use Rattle.sat_formula.specs.Lit.{lit_value, IsBelow}
use Rattle.sat_formula.specs.Formula.{Satisfies, Grows as FormulaGrows, HasValue}
use Rattle.sat_formula.proofs.Extension.{Satisfies-older}
use Rattle.tla_values.specs.declared.value.Value.{Value}
use Rattle.tla_values.specs.Sets.{set_of}
use Rattle.tla_values.proofs.Extensional.{filter-set_of}
use Rattle.cell_arena.specs.declared.kinds.CellId.{CellId}
use Rattle.cell_arena.specs.declared.kinds.CellKind.{CellKind}
use Rattle.cell_arena.specs.Decode.{present}
use Rattle.cell_merge.specs.Sorts.{Sort, OfSort}
use Rattle.cell_merge.specs.Edges.{any_edge, LeadTo, AreNamed}
use Rattle.cell_merge.proofs.Unions.{AreNamed-later, any-push}
use Rattle.set_rewriter.specs.Edges.{kept, KeepsBy}
use Rattle.set_rewriter.specs.inner.Steps.{KeepsEdges}

abbrev Edge : Type 0
Edge = Lit × CellId

any-kept-more : (a : List Bool) (of : CellId → Value) (p : Value → Bool) (es : List Edge) (ls : List Lit) (i : ℕ) (d : Edge) (k : Lit) → i < length es → i < length ls
    → list_any p (kept a of (take (i + 1) es) (take (i + 1) ls)) ≡ (list_any p (kept a of (take i es) (take i ls)) || ((lit_value (get_or es i d).0 a && lit_value (get_or ls i k) a) && p (of (get_or es i d).1)))
any-kept-more a of p [] ls i d k lt le = absurd (omega arith)
any-kept-more a of p (e ∷ es) [] i d k lt le = absurd (omega arith)
any-kept-more a of p (e ∷ es) (l ∷ ls) zero d k lt le = one (lit_value e.0 a && lit_value l a)
  where
    one : (t : Bool) → list_any p (if t then of e.1 ∷ [] else []) ≡ (t && p (of e.1))
    one true = last (p (of e.1))
      where
        last : (t : Bool) → (t || false) ≡ t
        last true = refl
        last false = refl
    one false = refl
any-kept-more a of p (e ∷ es) (l ∷ ls) (suc i) d k lt le =
    let n : suc i + 1 ≡ suc (i + 1) = omega arith in
    ap (λ (m : ℕ). list_any p (kept a of (take m (e ∷ es)) (take m (l ∷ ls)))) n
    ∙ split (lit_value e.0 a && lit_value l a) (any-kept-more a of p es ls i d k (omega arith) (omega arith))
  where
    grouped : (q r s : Bool) → (q || (r || s)) ≡ ((q || r) || s)
    grouped true r s = refl
    grouped false r s = refl

    split : (t : Bool)
        → list_any p (kept a of (take (i + 1) es) (take (i + 1) ls)) ≡ (list_any p (kept a of (take i es) (take i ls)) || ((lit_value (get_or es i d).0 a && lit_value (get_or ls i k) a) && p (of (get_or es i d).1)))
        → list_any p (if t then of e.1 ∷ kept a of (take (i + 1) es) (take (i + 1) ls) else kept a of (take (i + 1) es) (take (i + 1) ls))
        ≡ (list_any p (if t then of e.1 ∷ kept a of (take i es) (take i ls) else kept a of (take i es) (take i ls)) || ((lit_value (get_or es i d).0 a && lit_value (get_or ls i k) a) && p (of (get_or es i d).1)))
    split true h = ap (λ t. p (of e.1) || t) h ∙ grouped (p (of e.1)) _ _
    split false h = h

-- one more edge, which is there or not
module _ (f g : Cnf) (es : List Edge) (ls : List Lit) (i : ℕ) (d : Edge) (k both : Lit) (out after : List Edge) (lt : i < length es) (le : i < length ls)
    (keeps : KeepsEdges f es (take i es) (take i ls) out) (grows : FormulaGrows f g)
    (gate : HasValue g both (λ a. lit_value (get_or es i d).0 a && lit_value (get_or ls i k) a))
    (members : (a : List Bool) → Satisfies a g → (of : CellId → Value) (p : Value → Bool) → any_edge a of p after ≡ (any_edge a of p out || (lit_value both a && p (of (get_or es i d).1))))
    (named : AreNamed g.vars after) (sorts : (ks : List CellKind) (s : Sort) → LeadTo ks s out → OfSort ks s (get_or es i d).1 → LeadTo ks s after) where
  pub keeps-more : KeepsEdges g es (take (i + 1) es) (take (i + 1) ls) after
  keeps-more = record {
    named = named;
    sorts = λ ks s h. sorts ks s (keeps.sorts ks s h) (h i d lt);
    members = λ a s of p.
        members a s of p ∙ ap (λ t. t || (lit_value both a && p (of (get_or es i d).1))) (keeps.members a (Satisfies-older f g a grows s) of p)
        ∙ ap (λ t. list_any p (kept a of (take i es) (take i ls)) || (t && p (of (get_or es i d).1))) (gate.value a s)
        ∙ sym (any-kept-more a of p es ls i d k lt le);
  }

module _ (f g : Cnf) (es : List Edge) (ls : List Lit) (i : ℕ) (d : Edge) (k both : Lit) (out : List Edge) (lt : i < length es) (le : i < length ls)
    (keeps : KeepsEdges f es (take i es) (take i ls) out) (grows : FormulaGrows f g)
    (gate : HasValue g both (λ a. lit_value (get_or es i d).0 a && lit_value (get_or ls i k) a)) where
  -- an edge that is never there
  pub keeps-passed : ((a : List Bool) → Satisfies a g → lit_value both a ≡ false) → KeepsEdges g es (take (i + 1) es) (take (i + 1) ls) out
  keeps-passed off = keeps-more f g es ls i d k both out out lt le keeps grows gate
      (λ a s of p. none (any_edge a of p out) (lit_value both a) (p (of (get_or es i d).1)) (off a s))
      (AreNamed-later f.vars g.vars out keeps.named grows.vars) (λ ks s h one. h)
    where
      none : (t q r : Bool) → q ≡ false → t ≡ (t || (q && r))
      none t q r e = grind arith

  pub keeps-push : (after : List Edge) → after ≡ out ++ (both, (get_or es i d).1) ∷ [] → KeepsEdges g es (take (i + 1) es) (take (i + 1) ls) after
  keeps-push after pushed = keeps-more f g es ls i d k both out after lt le keeps grows gate
      (λ a s of p. ap (any_edge a of p) pushed ∙ any-push a of p out (both, (get_or es i d).1))
      (rw pushed (All-push (λ (e : Edge). IsBelow g.vars e.0) out (both, (get_or es i d).1) (AreNamed-later f.vars g.vars out keeps.named grows.vars) gate.below))
      (λ ks s h one. rw pushed (All-push (λ (e : Edge). OfSort ks s e.1) out (both, (get_or es i d).1) h one))

-- ---- what is kept by a test

kept-filter : (a : List Bool) (of : CellId → Value) (es : List Edge) (ls : List Lit) (test : Value → Bool) → length ls ≡ length es → KeepsBy a of es ls test → kept a of es ls ≡ filter test (present a of es)
unfolding KeepsBy
kept-filter a of [] ls test n h = refl
kept-filter a of (e ∷ es) [] test n h = absurd (omega arith)
kept-filter a of (e ∷ es) (k ∷ ls) test n h =
    split (lit_value e.0 a) refl (kept-filter a of es ls test (omega arith) (λ i d l lt on. h (suc i) d l (omega arith) on)) (λ on. h 0 e k (omega arith) on)
  where
    inner : (s t : Bool) → s ≡ t → kept a of es ls ≡ filter test (present a of es) → (if s then of e.1 ∷ kept a of es ls else kept a of es ls) ≡ cond t (of e.1 ∷ filter test (present a of es)) (filter test (present a of es))
    inner true true f g = ap (λ vs. of e.1 ∷ vs) g
    inner true false f g = absurd (cc)
    inner false true f g = absurd (cc)
    inner false false f g = g

    split : (t : Bool) → lit_value e.0 a ≡ t → kept a of es ls ≡ filter test (present a of es) → (lit_value e.0 a ≡ true → lit_value k a ≡ test (of e.1))
        → (if t && lit_value k a then of e.1 ∷ kept a of es ls else kept a of es ls) ≡ filter test (map (λ (e : Edge). of e.1) (cond t (e ∷ filter (λ e. lit_value e.0 a) es) (filter (λ e. lit_value e.0 a) es)))
    split true f g w = inner (lit_value k a) (test (of e.1)) (w f) g
    split false f g w = g

-- the set of what is kept is the set of the members that pass
pub kept-set : (a : List Bool) (of : CellId → Value) (es : List Edge) (ls : List Lit) (test : Value → Bool) → length ls ≡ length es → KeepsBy a of es ls test
    → set_of (kept a of es ls) ≡ filter test (set_of (present a of es))
kept-set a of es ls test n h = ap set_of (kept-filter a of es ls test n h) ∙ filter-set_of test (present a of es)
