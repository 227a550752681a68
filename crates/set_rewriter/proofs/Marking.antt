-- A literal for each edge, and the set that they give.
use Rattle.std.proofs.Common.{◌≡◌, ℕ, zero, suc, ◌<◌, Bool, not, List, [], ◌∷◌, map, length, get_or, All, refl, ap, ◌∙◌, sym, subst, arith}
use Rattle.std.specs.Prelude.{filter}
use Rattle.std.proofs.lemmas.List.Elements.{All-nil, All-cons, All-head, All-tail}
use Rattle.sat_formula.specs.declared.lit.Lit.{Lit}
use Rattle.sat_formula.specs.declared.cnf.Cnf.{Cnf}
use Rattle.sat_formula.specs.Lit.{lit_value, IsBelow}
use Rattle.sat_formula.specs.Formula.{Satisfies, Grows as FormulaGrows}
use Rattle.sat_formula.proofs.Extension.{Satisfies-older}
use Rattle.tla_values.specs.Sets.{set_of, elements}
use Rattle.tla_values.specs.declared.value.Value.{Value}
use Rattle.cell_arena.specs.declared.build.Build.{Build}
use Rattle.cell_arena.specs.declared.kinds.CellId.{CellId}
use Rattle.cell_arena.specs.declared.kinds.CellKind.TheVariants.{Set}
use Rattle.cell_arena.specs.Cells.{Cells, kind_at}
use Rattle.cell_arena.specs.Decode.{decode, kind_value}
use Rattle.tla_values.specs.declared.value.Value.TheVariants as value
use Rattle.cell_arena.proofs.Decoding.{decode-kind}
use Rattle.cell_arena.proofs.Growing.{Decodes-same}
use Rattle.cell_merge.specs.Sorts.{OfSort, SetsOfOneType, set_of as set_sort}
use Rattle.cell_merge.specs.Edges.{edges_of, TestsEach}
use Rattle.cell_merge.proofs.Edges.{negated-value, elements-cell, is-set}
use Rattle.set_rewriter.specs.Edges.{MakesSet, kept, KeepsBy}
use Rattle.set_rewriter.proofs.Keeping.{kept-set}

abbrev negate : List Lit → List Lit
negate ls = map (λ (l : Lit). record { var = l.var; neg = not l.neg }) ls

negate-long : (ls : List Lit) → length (negate ls) ≡ length ls
negate-long [] = refl
negate-long (l ∷ ls) = ap (λ (n : ℕ). suc n) (negate-long ls)

negate-at : (ls : List Lit) (i : ℕ) (d : Lit) (a : List Bool) → i < length ls → lit_value (get_or (negate ls) i d) a ≡ not (lit_value (get_or ls i d) a)
negate-at [] i d a lt = absurd (omega arith)
negate-at (l ∷ ls) zero d a lt = negated-value l _ a refl
negate-at (l ∷ ls) (suc i) d a lt = negate-at ls i d a (omega arith)

negate-below : (n : ℕ) (ls : List Lit) → All (IsBelow n) ls → All (IsBelow n) (negate ls)
negate-below n [] h = All-nil (IsBelow n)
negate-below n (l ∷ ls) h =
    All-cons (IsBelow n) (record { var = l.var; neg = not l.neg }) (negate ls) (All-head (IsBelow n) l ls h) (negate-below n ls (All-tail (IsBelow n) l ls h))

-- the negations of the answers
pub tests-negated : (c : Cells) (f : Cnf) (es : List (Lit × CellId)) (n : ℕ) (test : List Bool → Value → Bool) (ls : List Lit) → TestsEach c f es n test ls
    → TestsEach c f es n (λ a v. not (test a v)) (map (λ (l : Lit). record { var = l.var; neg = not l.neg }) ls)
tests-negated c f es n test ls h = record {
  named = negate-below f.vars ls h.named;
  count = negate-long ls ∙ h.count;
  values = λ a s i lt e l on.
      let k : i < length ls = rw h.count lt in
      negate-at ls i l a k ∙ ap not (h.values a s i lt e l on);
}

-- literals of all edges keep by the test
tests-keep : (c : Cells) (f : Cnf) (es : List (Lit × CellId)) (test : List Bool → Value → Bool) (ls : List Lit) (a : List Bool) → TestsEach c f es (length es) test ls → Satisfies a f
    → KeepsBy a (decode c a) es ls (test a)
unfolding KeepsBy
tests-keep c f es test ls a m s = λ i e l lt on. m.values a s i lt e l on

-- the set of the edges that are kept by these literals
pub marked : (b mid new : Build) (x id : CellId) (test : List Bool → Value → Bool) (es : List (Lit × CellId)) (marks : List Lit) → mid.arena ≡ b.arena → x.index < length b.arena.kinds
    → edges_of (kind_at b.arena.kinds x) ≡ es → kind_at b.arena.kinds x ≡ Set es → FormulaGrows mid.formula new.formula → TestsEach b.arena mid.formula es (length es) test marks
    → MakesSet mid new x x id (λ a. set_of (kept a (decode mid.arena a) (edges_of (kind_at mid.arena.kinds x)) marks))
    → MakesSet b new x x id (λ a. filter (test a) (elements (decode b.arena a x)))
marked b mid new x id test es marks same lt edges is grows m h = record {
  value = Decodes-same new id _ _ h.value
      (λ a s.
      let of : CellId → Value = decode b.arena a in
      ap (λ (c : Cells). value.Set (set_of (kept a (decode c a) (edges_of (kind_at c.kinds x)) marks))) same
      ∙ ap (λ (fs : List (Lit × CellId)). value.Set (set_of (kept a of fs marks))) edges
      ∙ ap (λ vs. value.Set vs) (kept-set a of es marks (test a) m.count (tests-keep b.arena mid.formula es test marks a m (Satisfies-older mid.formula new.formula a grows s))
      ∙ ap (filter (test a)) (sym (elements-cell b.arena a x es (decode-kind b.arena a x b.built lt ∙ ap (kind_value b.arena.texts a of) is)))));
  sort = λ s p q.
      let back : (c : Cells) → OfSort b.arena.kinds (set_sort s) x → c ≡ b.arena → OfSort c.kinds (set_sort s) x = λ c k e. subst (λ (c : Cells). OfSort c.kinds (set_sort s) x) (sym e) k in
      h.sort s (back mid.arena p same) (back mid.arena q same);
}

pub marked-typed : (b mid new : Build) (x y id : CellId) (test : List Bool → Value → Bool) (marks : List Lit) → mid.arena ≡ b.arena → SetsOfOneType b.arena.kinds x y → FormulaGrows mid.formula new.formula
    → TestsEach b.arena mid.formula (edges_of (kind_at b.arena.kinds x)) (length (edges_of (kind_at b.arena.kinds x))) test marks
    → MakesSet mid new x x id (λ a. set_of (kept a (decode mid.arena a) (edges_of (kind_at mid.arena.kinds x)) marks))
    → MakesSet b new x x id (λ a. filter (test a) (elements (decode b.arena a x)))
marked-typed b mid new x y id test marks same t grows m h =
    let f = is-set (OfSort b.arena.kinds t.sort) (kind_at b.arena.kinds x) t.left.1 in
    let es : edges_of (kind_at b.arena.kinds x) ≡ f.0 = ap edges_of f.1 in
    marked b mid new x id test f.0 marks same t.left.0 es f.1 grows (subst (λ (l : List (Lit × CellId)). TestsEach b.arena mid.formula l (length l) test marks) es m) h
