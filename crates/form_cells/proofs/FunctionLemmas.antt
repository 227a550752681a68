-- The domain of a function and its results, argument by argument.
use Rattle.std.proofs.Common.{◌≡◌, ℕ, ◌+◌, ◌<◌, ◌≤◌, Bool, true, false, not, ◌&&◌, ◌||◌, List, [], ◌∷◌, ◌++◌, map, length, take, get_or, All, refl, sym, ◌∙◌, ap, ap₂, subst, arith, if◌then◌else◌, Option, Some, None, is_some}
use Rattle.std.specs.List.{list_all}
use Rattle.std.specs.Prelude.{cond, filter}
use Rattle.std.proofs.lemmas.List.{take_all}
use Rattle.std.proofs.lemmas.List.Elements.{All-get_or, All-nil, All-push, All-head, All-tail}
use Rattle.std.proofs.lemmas.List.Folds.{list_all_at}
use Rattle.sat_formula.specs.declared.lit.Lit.{Lit}
use Rattle.sat_formula.specs.Lit.{IsBelow, lit_value}
use Rattle.sat_formula.specs.Formula.{HasValue, Satisfies}
use Rattle.sat_formula.proofs.Extension.{HasValue-later}
use Rattle.tla_values.specs.Order.{same_value}
use Rattle.tla_values.specs.Sets.{apply, arguments, elements, function_of, member, set_of, subset}
use Rattle.tla_values.specs.declared.value.Value.{Value}
use Rattle.tla_values.proofs.Extensional.{subset_itself}
use Rattle.tla_values.proofs.FunLaws.{apply_domain}
use Rattle.tla_values.proofs.Members.{elements-set}
use Rattle.tla_meaning.specs.Forms.{results, same_set}
use Rattle.cell_arena.specs.declared.build.Build.{Build}
use Rattle.cell_arena.specs.declared.kinds.CellId.{CellId}
use Rattle.cell_arena.specs.declared.kinds.CellKind.TheVariants.{Fun}
use Rattle.cell_arena.specs.Cells.{kind_at}
use Rattle.cell_arena.specs.Decode.{decode, kind_value, present, present_pairs}
use Rattle.cell_arena.specs.Growth.{Grows}
use Rattle.cell_arena.proofs.Decoding.{decode-kind}
use Rattle.cell_arena.proofs.Growing.{Grows-trans, Satisfies-before, decode-before}
use Rattle.cell_merge.specs.Arrows.{pairs_of}
use Rattle.cell_merge.specs.Edges.{LeadTo}
use Rattle.cell_merge.specs.Partial.{Tells}
use Rattle.cell_merge.specs.Sorts.{OfSort, OneType, Sort, function_of as function_sort, set_of as set_sort}
use Rattle.cell_merge.proofs.Edges.{all-present, is-set, same-sets-typed, sort-there}
use Rattle.cell_merge.proofs.Layering.{LeadTo-later}
use Rattle.cell_merge.proofs.SortLaws.{OfSort-later}
use Rattle.cell_merge.proofs.Unions.{AreNamed-later}
use Rattle.function_rewriter.specs.Arrows.{Applies, HasDomain, IsDomain, TakesArgument, of_function}
use Rattle.function_rewriter.proofs.Composites.{pairs-fun}
use Rattle.function_rewriter.proofs.PairLists.{apply_graph, arguments_graph, graph, graph_function}
use Rattle.form_cells.specs.inner.Listed.{AreArguments, FunctionAndSet, GivesResults, IsParted, IsSetCell, ListsMembers, gives}
use Rattle.form_cells.proofs.BelongLemmas.{Edge, present-push, present-skip, present-turn}
use Rattle.form_cells.proofs.CellValues.{function-value}

abbrev Pair : Type 0
Pair = Value × Value

-- ---- results as what is given at the arguments

or_else_itself : Value → Option Value → Value
or_else_itself v None = v
or_else_itself v (Some w) = w

abbrev rule : List Pair → Value → Value
rule qs v = or_else_itself v (apply qs v)

some-of : (v : Value) (o : Option Value) → is_some o ≡ true → o ≡ Some (or_else_itself v o)
unfolding or_else_itself
some-of v (Some w) e = refl
some-of v None e = absurd (cc)

all-within : (xs zs : List Value) (f h : Value → Bool) → ((v : Value) → member v zs ≡ true → f v ≡ h v) → list_all (λ v. member v zs) xs ≡ true → list_all f xs ≡ list_all h xs
all-within [] zs f h same within = refl
all-within (x ∷ xs) zs f h same within =
    ap₂ (λ a b. a && b) (same x (first (member x zs) (list_all (λ v. member v zs) xs) within)) (all-within xs zs f h same (rest (member x zs) (list_all (λ v. member v zs) xs) within))
  where
    first : (p q : Bool) → (p && q) ≡ true → p ≡ true
    first true q e = refl
    first false q e = absurd (cc)

    rest : (p q : Bool) → (p && q) ≡ true → q ≡ true
    rest true q e = e
    rest false q e = absurd (cc)

graph-results : (p : Value → Bool) (xs : List Value) (g : Value → Value) → list_all p (results (graph xs g)) ≡ list_all (λ v. p (g v)) xs
graph-results p [] g = refl
graph-results p (x ∷ xs) g = ap (λ t. p (g x) && t) (graph-results p xs g)

by-graph : (p : Value → Bool) (xs : List Value) (g : Value → Value) (ps : List Pair) → ps ≡ graph xs g →
    list_all (λ u. gives p (apply ps u)) (arguments ps) ≡ list_all p (results ps)
by-graph p xs g ps e = rw e (
    ap (list_all (λ u. gives p (apply (graph xs g) u))) (arguments_graph xs g)
    ∙ all-within xs xs (λ u. gives p (apply (graph xs g) u)) (λ v. p (g v)) (λ v m. ap (gives p) (apply_graph xs g v ∙ ap (λ (t : Bool). if t then Some (g v) else None) m)) (subset_itself xs)
    ∙ sym (graph-results p xs g))

pub results-given : (p : Value → Bool) (qs : List Pair) → list_all (λ u. gives p (apply (function_of qs) u)) (arguments (function_of qs)) ≡ list_all p (results (function_of qs))
results-given p qs =
    by-graph p (set_of (arguments qs)) (rule qs) (function_of qs) (graph_function qs (rule qs) (λ v m. some-of v (apply qs v) (apply_domain v qs ∙ m)))

-- ---- the results at the arguments

present-before : (b c : Build) (a : List Bool) (p : Value → Bool) (s : Sort) (es : List Edge) → Grows b c → LeadTo b.arena.kinds s es →
    present a (decode c.arena a) es ≡ present a (decode b.arena a) es
present-before b c a p s es g h = go es h
  where
    P : Edge → Type 0
    P e = OfSort b.arena.kinds s e.1

    go : (es : List Edge) → All (λ (e : Edge). OfSort b.arena.kinds s e.1) es → present a (decode c.arena a) es ≡ present a (decode b.arena a) es
    go [] h = refl
    go (e ∷ es) h =
        split (lit_value e.0 a) (decode-before b c a e.1 g (sort-there b.arena.kinds s e.1 (All-head (λ (e : Edge). OfSort b.arena.kinds s e.1) e es h)))
        (go es (All-tail (λ (e : Edge). OfSort b.arena.kinds s e.1) e es h))
      where
        split : (t : Bool) → decode c.arena a e.1 ≡ decode b.arena a e.1 → present a (decode c.arena a) es ≡ present a (decode b.arena a) es →
            map (λ (e : Edge). decode c.arena a e.1) (cond t (e ∷ filter (λ (e : Edge). lit_value e.0 a) es) (filter (λ (e : Edge). lit_value e.0 a) es))
            ≡ map (λ (e : Edge). decode b.arena a e.1) (cond t (e ∷ filter (λ (e : Edge). lit_value e.0 a) es) (filter (λ (e : Edge). lit_value e.0 a) es))
        split true x xs = ap₂ (λ v vs. v ∷ vs) x xs
        split false x xs = xs

module _ (b : Build) (f : CellId) (es : List Edge) (h : AreArguments b f es) where
  old-cell : (i : ℕ) (e : Edge) → i < length es → e ≡ get_or es i e → OfSort b.arena.kinds h.from e.1
  old-cell i e lt is = subst (λ (x : Edge). OfSort b.arena.kinds h.from x.1) (sym is) (All-get_or (λ (x : Edge). OfSort b.arena.kinds h.from x.1) es i e lt h.cells)

  pub at-asked : (c : Build) (i : ℕ) (e : Edge) → Grows b c → i < length es → e ≡ get_or es i e → TakesArgument c.arena.kinds f e.1
  at-asked c i e g lt is = record {
    from = h.from;
    to = h.to;
    function = OfSort-later b c (function_sort h.from h.to) f h.function g;
    argument = OfSort-later b c h.from e.1 (old-cell i e lt is) g;
  }

  -- an argument that is there is one of the function's
  inside : (a : List Bool) (i : ℕ) (e : Edge) → Satisfies a b.formula → i < length es → e ≡ get_or es i e → lit_value e.0 a ≡ true →
      member (decode b.arena a e.1) (arguments (pairs_of (decode b.arena a f))) ≡ true
  inside a i e s lt is on = by_test (member (decode b.arena a e.1) (arguments (pairs_of (decode b.arena a f)))) refl
    where
      by_test : (t : Bool) → member (decode b.arena a e.1) (arguments (pairs_of (decode b.arena a f))) ≡ t → t ≡ true
      by_test true k = refl
      by_test false k =
          let p : Value → Bool = λ u. member u (arguments (pairs_of (decode b.arena a f))) in
          let q : Edge → Bool = λ x. not (lit_value x.0 a) || p (decode b.arena a x.1) in
          let off : q e ≡ false = ap₂ (λ x y. not x || y) on k in
          let all : list_all q es ≡ true = sym (all-present p a (decode b.arena a) es) ∙ h.within a s in
          sym (list_all_at q es i e lt (ap q (sym is) ∙ off)) ∙ all

  pub gives-none : (out : List Edge) → out ≡ [] → GivesResults b b f (take 0 es) out
  gives-none out e = rw e (record {
    named = All-nil (λ (x : Edge). IsBelow b.formula.vars x.0);
    sorts = λ s t o. All-nil (λ (x : Edge). OfSort b.arena.kinds t x.1);
    values = λ a s p. none_first a p es;
  })
    where
      none_first : (a : List Bool) (p : Value → Bool) (es : List Edge) →
          true ≡ list_all (λ u. gives p (apply (pairs_of (decode b.arena a f)) u)) (present a (decode b.arena a) (take 0 es))
      none_first a p [] = refl
      none_first a p (e ∷ es) = refl

  -- an argument that is not there is passed over
  pub gives-skip : (c d : Build) (i : ℕ) (e : Edge) (out : List Edge) → Grows b c → Grows c d → i < length es → e ≡ get_or es i e → GivesResults b c f (take i es) out
      → ((a : List Bool) → Satisfies a d.formula → lit_value e.0 a ≡ false) → GivesResults b d f (take (i + 1) es) out
  gives-skip c d i e out bc cd lt is r off = record {
    named = AreNamed-later c.formula.vars d.formula.vars out r.named cd.formula.vars;
    sorts = λ s t o. LeadTo-later c d t out (r.sorts s t o) cd;
    values = λ a s p.
        ap (list_all p) (present-before c d a p h.to out cd (r.sorts h.from h.to h.function)) ∙ r.values a (Satisfies-before c d a cd s) p
        ∙ sym (present-skip a (decode b.arena a) (λ u. gives p (apply (pairs_of (decode b.arena a f)) u)) es i e lt is (off a s));
  }

  -- the function has no arrow, so no argument is there
  pub no-arrows : (c : Build) (i : ℕ) (e : Edge) → Grows b c → i < length es → e ≡ get_or es i e → kind_at c.arena.kinds f ≡ Fun []
      → (a : List Bool) → Satisfies a c.formula → lit_value e.0 a ≡ false
  no-arrows c i e g lt is none a s = by_test (lit_value e.0 a) refl
    where
      there : f.index < length b.arena.kinds
      there = sort-there b.arena.kinds (function_sort h.from h.to) f h.function

      empty : pairs_of (decode b.arena a f) ≡ []
      empty =
          ap pairs_of (sym (decode-before b c a f g there) ∙ decode-kind c.arena a f c.built (let n = there in let l = g.longer in omega arith)
          ∙ ap (kind_value c.arena.texts a (decode c.arena a)) none) ∙ pairs-fun []

      by_test : (t : Bool) → lit_value e.0 a ≡ t → t ≡ false
      by_test false k = refl
      by_test true k = sym (inside a i e (Satisfies-before b c a g s) lt is k) ∙ ap (λ ps. member (decode b.arena a e.1) (arguments ps)) empty

  pub gives-turn : (c d : Build) (i : ℕ) (e : Edge) (r : CellId × Lit) (out after : List Edge) → Grows b c → Grows c d → i < length es → e ≡ get_or es i e
      → GivesResults b c f (take i es) out → Applies c d f e.1 r → after ≡ out ++ (e.0, r.0) ∷ [] → GivesResults b d f (take (i + 1) es) after
  gives-turn c d i e r out after bc cd lt is given applied pushed = rw pushed (record {
    named = All-push (λ (x : Edge). IsBelow d.formula.vars x.0) out (e.0, r.0) (AreNamed-later c.formula.vars d.formula.vars out given.named cd.formula.vars)
        (let m = bc.formula.vars in let n = cd.formula.vars in
        let k : e.0.var < b.formula.vars = subst (λ (x : Edge). x.0.var < b.formula.vars) (sym is) (All-get_or (λ (x : Edge). IsBelow b.formula.vars x.0) es i e lt h.named) in omega arith);
    sorts = λ s t o.
        All-push (λ (x : Edge). OfSort d.arena.kinds t x.1) out (e.0, r.0) (LeadTo-later c d t out (given.sorts s t o) cd) (applied.sort s t (OfSort-later b c (function_sort s t) f o bc));
    values = λ a s p.
        let q : Value → Bool = λ u. gives p (apply (pairs_of (decode b.arena a f)) u) in
        present-push a (decode d.arena a) p out (e.0, r.0)
        ∙ ap₂ (λ x y. x && y) (ap (list_all p) (present-before c d a p h.to out cd (given.sorts h.from h.to h.function)) ∙ given.values a (Satisfies-before c d a cd s) p)
        (one_given a s p (lit_value e.0 a) refl)
        ∙ sym (present-turn a (decode b.arena a) q es i e lt is);
  })
    where
      told : (p : Value → Bool) (o : Option Value) (out : Bool) (v : Value) → is_some o ≡ true → Tells out v o → p v ≡ gives p o
      told p None out v some t = absurd (cc)
      told p (Some w) out v some t = ap p t.1

      one_given : (a : List Bool) → Satisfies a d.formula → (p : Value → Bool) (t : Bool) → lit_value e.0 a ≡ t →
          (not (lit_value e.0 a) || p (decode d.arena a r.0)) ≡ (not (lit_value e.0 a) || gives p (apply (pairs_of (decode b.arena a f)) (decode b.arena a e.1)))
      one_given a s p false k = rw k refl
      one_given a s p true k =
          let sc = Satisfies-before c d a cd s in
          let same_function : decode c.arena a f ≡ decode b.arena a f = decode-before b c a f bc (sort-there b.arena.kinds (function_sort h.from h.to) f h.function) in
          let same_argument : decode c.arena a e.1 ≡ decode b.arena a e.1 = decode-before b c a e.1 bc (sort-there b.arena.kinds h.from e.1 (old-cell i e lt is)) in
          let same : apply (pairs_of (decode c.arena a f)) (decode c.arena a e.1) ≡ apply (pairs_of (decode b.arena a f)) (decode b.arena a e.1) =
          ap₂ (λ u v. apply (pairs_of u) v) same_function same_argument in
          ap (λ x. not (lit_value e.0 a) || x)
          (told p (apply (pairs_of (decode b.arena a f)) (decode b.arena a e.1)) (lit_value r.1 a) (decode d.arena a r.0)
          (apply_domain (decode b.arena a e.1) (pairs_of (decode b.arena a f)) ∙ inside a i e (Satisfies-before b c a bc sc) lt is k)
          (subst (Tells (lit_value r.1 a) (decode d.arena a r.0)) same (applied.yields.tells a s)))

  pub gives-all : (c : Build) (i : ℕ) (out : List Edge) → length es ≤ i → GivesResults b c f (take i es) out → GivesResults b c f es out
  gives-all c i out le r = subst (λ l. GivesResults b c f l out) (take_all i es le) r

-- ---- the domain as a set

module _ (b : Build) (f s : CellId) (h : FunctionAndSet b.arena.kinds f s) where
  abbrev pairs : List Bool → List Pair
  pairs a = pairs_of (decode b.arena a f)

  function-there : f.index < length b.arena.kinds
  function-there = sort-there b.arena.kinds (function_sort h.from h.to) f h.function

  set-there : s.index < length b.arena.kinds
  set-there = sort-there b.arena.kinds (set_sort h.from) s h.domain

  pub domain-asked : HasDomain b f
  domain-asked = of_function h.from h.to h.function

  module _ (c : Build) (d : CellId) (bc : Grows b c) (domain : IsDomain b c f d) where
    pub domain-typed : OneType c.arena.kinds d s
    domain-typed = record { sort = set_sort h.from; left = domain.sort (function_sort h.from h.to) h.function; right = OfSort-later b c (set_sort h.from) s h.domain bc }

    module _ (e : Build) (ce : Grows c e) where
      be : Grows b e
      be = Grows-trans b c e bc ce

      pub domain-set : IsSetCell e.arena.kinds d
      domain-set = record { sort = h.from; is = OfSort-later c e (set_sort h.from) d (domain.sort (function_sort h.from h.to) h.function) ce }

      domain-members : (a : List Bool) → Satisfies a e.formula → elements (decode e.arena a d) ≡ arguments (pairs a)
      domain-members a sat =
          ap elements (decode-before c e a d ce domain.value.there ∙ domain.value.value a (Satisfies-before c e a ce sat)) ∙ elements-set (arguments (pairs a))

      same-pairs : (a : List Bool) → pairs_of (decode e.arena a f) ≡ pairs a
      same-pairs a = ap pairs_of (decode-before b e a f be function-there)

      pub are-arguments : (es : List Edge) → ListsMembers e d es → AreArguments e f es
      are-arguments es lists = record {
        from = h.from;
        to = h.to;
        function = OfSort-later b e (function_sort h.from h.to) f h.function be;
        cells = lists.sorts h.from (OfSort-later c e (set_sort h.from) d (domain.sort (function_sort h.from h.to) h.function) ce);
        named = lists.named;
        within = λ a sat.
            lists.values a sat (λ u. member u (arguments (pairs_of (decode e.arena a f))))
            ∙ ap₂ (λ ps us. list_all (λ u. member u (arguments ps)) us) (same-pairs a) (domain-members a sat)
            ∙ subset_itself (arguments (pairs a));
      }

      set-swap : (xs ys : List Value) → (subset xs ys && subset ys xs) ≡ same_set ys xs
      set-swap xs ys = swap (subset xs ys) (subset ys xs)
        where
          swap : (p q : Bool) → (p && q) ≡ (q && p)
          swap true true = refl
          swap true false = refl
          swap false true = refl
          swap false false = refl

      domain-agrees : (a : List Bool) → Satisfies a c.formula → same_value (decode c.arena a d) (decode c.arena a s) ≡ same_set (elements (decode b.arena a s)) (arguments (pairs a))
      domain-agrees a sat =
          let k = is-set (OfSort c.arena.kinds h.from) (kind_at c.arena.kinds d) (domain.sort (function_sort h.from h.to) h.function).1 in
          same-sets-typed c.arena a d s k.0 c.built k.1
          (record { sort = h.from; left = domain.sort (function_sort h.from h.to) h.function; right = OfSort-later b c (set_sort h.from) s h.domain bc })
          ∙ set-swap (elements (decode c.arena a d)) (elements (decode c.arena a s))
          ∙ ap₂ same_set (ap elements (decode-before b c a s bc set-there)) (ap elements (domain.value.value a sat) ∙ elements-set (arguments (pairs a)))

      pub is-parted : (g : Build) (agrees : Lit) (es out : List Edge) → Grows e g
          → HasValue e.formula agrees (λ a. same_value (decode c.arena a d) (decode c.arena a s)) → ListsMembers e d es → GivesResults e g f es out
          → IsParted b g f s (agrees, out)
      is-parted g agrees es out eg v lists given = record {
        agrees = let w = HasValue-later e.formula g.formula agrees _ v eg.formula in record {
          below = w.below;
          value = λ a sat. w.value a sat ∙ domain-agrees a (Satisfies-before c e a ce (Satisfies-before e g a eg sat));
        };
        results = record {
          lists = λ r. record {
            named = given.named;
            sorts = λ t o. given.sorts r t (OfSort-later b e (function_sort r t) f o be);
            values = λ a sat p.
                let se = Satisfies-before e g a eg sat in
                let k = function-value b.arena a b.built f h.from h.to h.function in
                given.values a sat p ∙ lists.values a se (λ u. gives p (apply (pairs_of (decode e.arena a f)) u))
                ∙ ap₂ (λ ps us. list_all (λ u. gives p (apply ps u)) us) (same-pairs a) (domain-members a se)
                ∙ (let qs : List Pair = present_pairs a (decode b.arena a) k.0 in
                let is : pairs a ≡ function_of qs = ap pairs_of k.1.1 ∙ pairs-fun (function_of qs) in
                subst (λ ps. list_all (λ u. gives p (apply ps u)) (arguments ps) ≡ list_all p (results ps)) (sym is) (results-given p qs));
          };
        };
      }
