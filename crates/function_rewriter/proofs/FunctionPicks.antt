-- A function by one pick for each argument.
use Rattle.std.proofs.Common.{◌≡◌, ℕ, ◌+◌, ◌<◌, ◌≤◌, Bool, true, false, not, ◌&&◌, ◌||◌, List, [], ◌∷◌, ◌++◌, length, take, get_or, All, Option, Some, None, is_some, refl, ap, ◌∙◌, sym, subst, arith, append_assoc, ◌⊎◌, inl, inr}
use Rattle.std.specs.Prelude.{if◌then◌else◌}
use Rattle.std.specs.List.{list_all}
use Rattle.std.proofs.lemmas.Bool.{or_cases}
use Rattle.std.proofs.lemmas.List.{append-nil, map-append, length-take, get_or-take}
use Rattle.std.proofs.lemmas.List.Folds.{list_all-append, list_any-append}
use Rattle.std.proofs.lemmas.List.Elements.{All-push, All-weaker, All-nil, All-head, All-tail}
use Rattle.sat_formula.specs.declared.lit.Lit.{Lit}
use Rattle.sat_formula.specs.declared.cnf.Cnf.{Cnf}
use Rattle.sat_formula.specs.Lit.{lit_value, IsBelow}
use Rattle.sat_formula.specs.Formula.{Satisfies, HasValue, Grows as FormulaGrows}
use Rattle.sat_formula.proofs.Extension.{lit_value-append, Satisfies-older}
use Rattle.tla_values.specs.Order.{same_value}
use Rattle.tla_values.specs.Sets.{apply, arguments, elements, function_of, member, set_of}
use Rattle.tla_values.specs.declared.value.Value.{Value}
use Rattle.tla_values.specs.declared.value.Value.TheVariants as value
use Rattle.tla_values.proofs.Members.{elements-set}
use Rattle.tla_values.proofs.Extensional.{same_itself, same_equal, member-set_of}
use Rattle.cell_arena.specs.declared.build.Build.{Build}
use Rattle.cell_arena.specs.declared.kinds.CellId.{CellId}
use Rattle.cell_arena.specs.declared.kinds.CellKind.{CellKind}
use Rattle.cell_arena.specs.declared.kinds.CellKind.TheVariants.{Set, Fun}
use Rattle.cell_arena.specs.Cells.{Cells, WellBuilt, kind_at}
use Rattle.cell_arena.specs.Decode.{decode, kind_value, present, present_pairs}
use Rattle.cell_arena.specs.Growth.{Grows, Decodes, Adds}
use Rattle.cell_arena.proofs.Decoding.{decode-kind, map-agree}
use Rattle.cell_arena.proofs.Growing.{Decodes-same, Grows-formula, Grows-trans, Satisfies-before, decode-before, decode-assigned, kind-before}
use Rattle.cell_merge.specs.Sorts.{Sort, OfSort, set_of as set_sort}
use Rattle.cell_merge.specs.Arrows.{LeadFrom, ArrowsNamed}
use Rattle.cell_merge.specs.Edges.{LeadTo, AreNamed, JoinsAll, OneSort, edges_of}
use Rattle.cell_merge.specs.Picks.{IsSetCell, PicksFrom, Reaches}
use Rattle.cell_merge.proofs.Chosen.{lead-there}
use Rattle.cell_merge.proofs.Edges.{elements-cell, edges-sort, is-set, sort-there}
use Rattle.cell_merge.proofs.Layering.{LeadTo-later, goes-on}
use Rattle.cell_merge.proofs.Present.{present-more, one}
use Rattle.cell_merge.proofs.SortLaws.{OfSort-later, sort-set, sort-function}
use Rattle.cell_merge.proofs.Unions.{AreNamed-later}
use Rattle.function_rewriter.specs.FunctionSets.{all_functions, AreSetCells, PicksFunction}
use Rattle.function_rewriter.specs.inner.Choices.{IsSameSet, Continues, PicksWhere, results, HasPicked, PicksArrows, PicksOver}
use Rattle.function_rewriter.proofs.PairLists.{graph, graph_function, function_graph, set-distinct}
use Rattle.tla_values.proofs.FunLaws.{apply_domain}
use Rattle.function_rewriter.proofs.Graphs.{choice-function, function-choice}
use Rattle.function_rewriter.proofs.ArrowPairs.{Arrow, one_pair, pairs-push, pairs-before, pairs-longer, LeadFrom-later, ArrowsNamed-later, arrows-there}
use Rattle.function_rewriter.proofs.DomainSets.{joined-set}

abbrev Edge : Type 0
Edge = Lit × CellId

abbrev Pair : Type 0
Pair = Value × Value

-- an older cell in a larger build, under a longer assignment
value-back : (old new : Build) (a more : List Bool) (id : CellId) → length a ≡ old.formula.vars → Grows old new → id.index < length old.arena.kinds → decode new.arena (a ++ more) id ≡ decode old.arena a id
value-back old new a more id n g lt = decode-before old new (a ++ more) id g lt ∙ decode-assigned old id a more n

and-parts : (p q : Bool) → (p && q) ≡ true → (p ≡ true) × (q ≡ true)
and-parts true q e = (refl, e)
and-parts false q e = absurd (cc)

and-both : (p q : Bool) → p ≡ true → q ≡ true → (p && q) ≡ true
and-both true q e f = f
and-both false q e f = absurd (cc)

-- ---- a pick where a literal is true

module _ (old mid new : Build) (l nl ok there : Lit) (set cell : CellId) (below : l.var < old.formula.vars) (picks : PicksFrom old mid set (cell, ok)) (before : Grows old mid) (same : new.arena ≡ mid.arena) (grows : FormulaGrows mid.formula new.formula)
    (negated : (a : List Bool) → lit_value nl a ≡ not (lit_value l a)) (gate : HasValue new.formula there (λ a. lit_value nl a || lit_value ok a)) where
  there-so : (a : List Bool) → Satisfies a new.formula → lit_value there a ≡ (not (lit_value l a) || lit_value ok a)
  there-so a s = gate.value a s ∙ ap (λ t. t || lit_value ok a) (negated a)

  old-sound : (a : List Bool) → Satisfies a new.formula → lit_value there a ≡ true → lit_value l a ≡ true → member (decode new.arena a cell) (elements (decode old.arena a set)) ≡ true
  old-sound a s on here =
      let so : lit_value ok a ≡ true = ap (λ t. not t || lit_value ok a) (sym here) ∙ sym (there-so a s) ∙ on in
      ap (λ (c : Cells). member (decode c a cell) (elements (decode old.arena a set))) same ∙ picks.sound a (Satisfies-older mid.formula new.formula a grows s) so

  old-complete : (a : List Bool) → length a ≡ old.formula.vars → Satisfies a old.formula → (v : Value) → member v (elements (decode old.arena a set)) ≡ true → Reaches new a there cell v
  old-complete a n s v m =
      let r = picks.complete a n s v m in
      let go = goes-on mid.formula new.formula (a ++ r.more) grows r.long r.satisfies in
      let d : List Bool = a ++ (r.more ++ go.0) in
      let e : (a ++ r.more) ++ go.0 ≡ d = append_assoc a r.more go.0 in
      let sat : Satisfies d new.formula = subst (λ x. Satisfies x new.formula) e go.1.1 in
      let okay : lit_value ok d ≡ true = ap (lit_value ok) (sym e) ∙ lit_value-append ok (a ++ r.more) go.0 (let p = picks.below in let q = r.long in omega arith) ∙ r.literal in
      record {
        more = r.more ++ go.0;
        long = subst (λ x. length x ≡ new.formula.vars) e go.1.0;
        satisfies = sat;
        literal = there-so d sat ∙ ap (λ t. not (lit_value l d) || t) okay ∙ last (not (lit_value l d));
        decodes = ap (λ (c : Cells). decode c d cell) same ∙ ap (λ x. decode mid.arena x cell) (sym e) ∙ decode-assigned mid cell (a ++ r.more) go.0 r.long ∙ r.decodes;
      }
    where
      last : (t : Bool) → (t || true) ≡ true
      last true = refl
      last false = refl

  old-idle : (a : List Bool) → length a ≡ old.formula.vars → Satisfies a old.formula → lit_value l a ≡ false → Continues new a there
  old-idle a n s off =
      let go1 = goes-on old.formula mid.formula a before.formula n s in
      let go2 = goes-on mid.formula new.formula (a ++ go1.0) grows go1.1.0 go1.1.1 in
      let d : List Bool = a ++ (go1.0 ++ go2.0) in
      let e : (a ++ go1.0) ++ go2.0 ≡ d = append_assoc a go1.0 go2.0 in
      let sat : Satisfies d new.formula = subst (λ x. Satisfies x new.formula) e go2.1.1 in
      let lit : lit_value l d ≡ false = lit_value-append l a (go1.0 ++ go2.0) (omega arith) ∙ off in
      record {
        more = go1.0 ++ go2.0;
        long = subst (λ x. length x ≡ new.formula.vars) e go2.1.0;
        satisfies = sat;
        literal = there-so d sat ∙ ap (λ t. not t || lit_value ok d) lit;
      }

  pub picks-where : PicksWhere old new l set (cell, there)
  picks-where = record {
    below = gate.below;
    sort = λ s h. subst (λ (c : Cells). OfSort c.kinds s cell) (sym same) (picks.sort s h);
    sound = old-sound;
    complete = old-complete;
    idle = old-idle;
  }

-- ---- an arrow for each edge

pub arrows-none : (b : Build) (set : CellId) (es : List Edge) (out : List Arrow) (tests : List Lit) → out ≡ [] → tests ≡ [] → PicksArrows b b (take 0 es) set out tests
arrows-none b set es out tests is none = rw (is, none) (record {
  named = All-nil (λ (e : Arrow). IsBelow b.formula.vars e.0);
  below = All-nil (IsBelow b.formula.vars);
  sorts = λ s t p q. All-nil (λ (e : Arrow). OfSort b.arena.kinds s e.1 × OfSort b.arena.kinds t e.2);
  from = λ a s on. refl;
  to = λ a s on v m. absurd (cc);
  complete = λ a n s g h. record { more = []; long = rw (append-nil a) n; satisfies = rw (append-nil a) s; passes = refl; pairs_are = refl };
})

lits-later : (m n : ℕ) (ls : List Lit) → All (IsBelow m) ls → m ≤ n → All (IsBelow n) ls
lits-later m n ls h le = All-weaker (IsBelow m) (IsBelow n) (λ l b. omega arith) ls h

lits-longer : (a more : List Bool) (ls : List Lit) → All (IsBelow (length a)) ls → list_all (λ l. lit_value l (a ++ more)) ls ≡ list_all (λ l. lit_value l a) ls
lits-longer a more [] h = refl
lits-longer a more (l ∷ ls) h =
    ap (λ t. t && list_all (λ l. lit_value l (a ++ more)) ls) (lit_value-append l a more (All-head (IsBelow (length a)) l ls h)) ∙ ap (λ t. lit_value l a && t) (lits-longer a more ls (All-tail (IsBelow (length a)) l ls h))

and-last : (t : Bool) → (t && true) ≡ t
and-last true = refl
and-last false = refl

all-push : (a : List Bool) (ls : List Lit) (l : Lit) → list_all (λ l. lit_value l a) (ls ++ l ∷ []) ≡ (list_all (λ l. lit_value l a) ls && lit_value l a)
all-push a ls l = list_all-append (λ l. lit_value l a) ls (l ∷ []) ∙ ap (λ t. list_all (λ l. lit_value l a) ls && t) (and-last (lit_value l a))

graph-append : (xs ys : List Value) (g : Value → Value) → graph (xs ++ ys) g ≡ graph xs g ++ graph ys g
graph-append xs ys g = map-append (λ x. (x, g x)) xs ys

arguments-push : (ps qs : List Pair) → arguments (ps ++ qs) ≡ arguments ps ++ arguments qs
arguments-push ps qs = map-append (λ (p : Pair). p.0) ps qs

module _ (old mid new : Build) (es : List Edge) (i : ℕ) (d : Edge) (set : CellId) (out : List Arrow) (tests : List Lit) (edges : OneSort old.arena.kinds old.formula.vars es) (fun : IsSetCell old set) (lt : i < length es)
    (before : Grows old mid) (grows : Grows mid new) (picks : PicksArrows old mid (take i es) set out tests) where
  abbrev edge : Edge
  edge = get_or es i d

  edge-there : edge.1.index < length old.arena.kinds
  edge-there = sort-there old.arena.kinds edges.sort edge.1 (edges.cells i d lt)

  edge-below : edge.0.var < old.formula.vars
  edge-below = edges.named i d lt

  fronts : (s : Sort) → LeadTo old.arena.kinds s es → LeadTo old.arena.kinds s (take i es)
  fronts s h = λ k e le. let n = length-take i es in subst (λ (y : Edge). OfSort old.arena.kinds s y.1) (sym (get_or-take i es k e (omega arith))) (h k e (omega arith))

  leads : LeadFrom mid.arena.kinds edges.sort fun.sort out
  leads = picks.sorts edges.sort fun.sort (fronts edges.sort edges.cells) fun.is

  -- one more member, where it is there
  more : (a : List Bool) → present a (decode old.arena a) (take (i + 1) es) ≡ present a (decode old.arena a) (take i es) ++ one (lit_value edge.0 a) (decode old.arena a edge.1)
  more a = present-more a (decode old.arena a) es i d lt

  -- what is asked of the members so far
  asked : (a : List Bool) (g : Value → Value) → ((v : Value) → member v (present a (decode old.arena a) (take (i + 1) es)) ≡ true → member (g v) (elements (decode old.arena a set)) ≡ true)
      → ((v : Value) → member v (present a (decode old.arena a) (take i es)) ≡ true → member (g v) (elements (decode old.arena a set)) ≡ true)
      × (lit_value edge.0 a ≡ true → member (g (decode old.arena a edge.1)) (elements (decode old.arena a set)) ≡ true)
  asked a g h = (
    λ v m. h v (ap (member v) (more a) ∙ list_any-append (same_value v) (present a (decode old.arena a) (take i es)) _ ∙ ap (λ b. b || member v (one (lit_value edge.0 a) (decode old.arena a edge.1))) m),
    λ on. h (decode old.arena a edge.1)
        (ap (member (decode old.arena a edge.1)) (more a) ∙ list_any-append (same_value (decode old.arena a edge.1)) (present a (decode old.arena a) (take i es)) _
        ∙ ap (λ b. member (decode old.arena a edge.1) (present a (decode old.arena a) (take i es)) || member (decode old.arena a edge.1) (one b (decode old.arena a edge.1))) on
        ∙ ap (λ b. member (decode old.arena a edge.1) (present a (decode old.arena a) (take i es)) || (b || false)) (same_itself (decode old.arena a edge.1)) ∙ last _),
  )
    where
      last : (t : Bool) → (t || true) ≡ true
      last true = refl
      last false = refl

  -- the pairs so far, in the larger build
  pairs-then : (a : List Bool) → present_pairs a (decode new.arena a) out ≡ present_pairs a (decode mid.arena a) out
  pairs-then a = pairs-before mid new a edges.sort fun.sort out grows leads

  module _ (nl : Lit) (after : List Lit) (pushed : after ≡ tests ++ nl ∷ []) (below : nl.var < new.formula.vars) (negated : (a : List Bool) → lit_value nl a ≡ not (lit_value edge.0 a)) (empty : (a : List Bool) → elements (decode old.arena a set) ≡ []) where
    -- an edge from which no arrow can lead
    pub arrows-absent : PicksArrows old new (take (i + 1) es) set out after
    arrows-absent = record {
      named = ArrowsNamed-later mid.formula.vars new.formula.vars out picks.named grows.formula.vars;
      below = rw pushed (All-push (IsBelow new.formula.vars) tests nl (lits-later mid.formula.vars new.formula.vars tests picks.below grows.formula.vars) below);
      sorts = λ s t p q. LeadFrom-later mid new s t out (picks.sorts s t (fronts' s p) q) grows;
      from = λ a s on.
          let parts = passed a on in
          ap arguments (pairs-then a) ∙ picks.from a (Satisfies-before mid new a grows s) parts.0
          ∙ sym (more a ∙ ap (λ t. present a (decode old.arena a) (take i es) ++ one t (decode old.arena a edge.1)) (off _ (sym (negated a) ∙ parts.1)) ∙ append-nil _);
      to = λ a s on v m. picks.to a (Satisfies-before mid new a grows s) (passed a on).0 v (ap (λ ps. member v (results ps)) (sym (pairs-then a)) ∙ m);
      complete = λ a n s g h.
          let ask = asked a g h in
          let gone : lit_value edge.0 a ≡ false = never _ (λ on. let m = ask.1 on in let e = ap (member (g (decode old.arena a edge.1))) (empty a) in cc) in
          let r = picks.complete a n s g ask.0 in
          let go = goes-on mid.formula new.formula (a ++ r.more) grows.formula r.long r.satisfies in
          let e : (a ++ r.more) ++ go.0 ≡ a ++ (r.more ++ go.0) = append_assoc a r.more go.0 in
          let still : lit_value edge.0 (a ++ (r.more ++ go.0)) ≡ false = lit_value-append edge.0 a (r.more ++ go.0) (let p = edge-below in omega arith) ∙ gone in
          record {
            more = r.more ++ go.0;
            long = subst (λ x. length x ≡ new.formula.vars) e go.1.0;
            satisfies = subst (λ x. Satisfies x new.formula) e go.1.1;
            passes = ap (list_all (λ l. lit_value l (a ++ (r.more ++ go.0)))) pushed ∙ all-push (a ++ (r.more ++ go.0)) tests nl
                ∙ and-both _ _ (ap (λ x. list_all (λ l. lit_value l x) tests) (sym e) ∙ lits-longer (a ++ r.more) go.0 tests (subst (λ m. All (IsBelow m) tests) (sym r.long) picks.below) ∙ r.passes)
                (negated (a ++ (r.more ++ go.0)) ∙ ap not still);
            pairs_are = pairs-then (a ++ (r.more ++ go.0)) ∙ ap (λ x. present_pairs x (decode mid.arena x) out) (sym e) ∙ pairs-longer mid (a ++ r.more) go.0 out r.long picks.named ∙ r.pairs_are
                ∙ ap (λ xs. graph xs g) (sym (more a ∙ ap (λ t. present a (decode old.arena a) (take i es) ++ one t (decode old.arena a edge.1)) gone ∙ append-nil _));
          };
    }
      where
        fronts' : (s : Sort) → LeadTo old.arena.kinds s (take (i + 1) es) → LeadTo old.arena.kinds s (take i es)
        fronts' s h = λ k e le.
            let n = length-take i es in let m = length-take (i + 1) es in
            subst (λ (y : Edge). OfSort old.arena.kinds s y.1) (get_or-take (i + 1) es k e (omega arith) ∙ sym (get_or-take i es k e (omega arith))) (h k e (omega arith))

        passed : (a : List Bool) → list_all (λ l. lit_value l a) after ≡ true → (list_all (λ l. lit_value l a) tests ≡ true) × (lit_value nl a ≡ true)
        passed a on = and-parts _ _ (sym (ap (list_all (λ l. lit_value l a)) pushed ∙ all-push a tests nl) ∙ on)

        off : (t : Bool) → not t ≡ true → t ≡ false
        off true e = absurd (cc)
        off false e = refl

        never : (t : Bool) → (t ≡ true → ⊥) → t ≡ false
        never true h = absurd (h refl)
        never false h = refl

  module _ (r : CellId) (t : Lit) (outs : List Arrow) (after : List Lit) (is : outs ≡ out ++ (edge.0, edge.1, r) ∷ []) (pushed : after ≡ tests ++ t ∷ []) (one_more : PicksWhere mid new edge.0 set (r, t)) where
    set-mid : IsSetCell mid set
    set-mid = record { sort = fun.sort; is = OfSort-later old mid (set_sort fun.sort) set fun.is before }

    set-there : set.index < length old.arena.kinds
    set-there = fun.is.0

    argument-now : (a : List Bool) → decode new.arena a edge.1 ≡ decode old.arena a edge.1
    argument-now a = decode-before old new a edge.1 (Grows-trans old mid new before grows) edge-there

    set-now : (a : List Bool) → decode mid.arena a set ≡ decode old.arena a set
    set-now a = decode-before old mid a set before set-there

    passed : (a : List Bool) → list_all (λ l. lit_value l a) after ≡ true → (list_all (λ l. lit_value l a) tests ≡ true) × (lit_value t a ≡ true)
    passed a on = and-parts _ _ (sym (ap (list_all (λ l. lit_value l a)) pushed ∙ all-push a tests t) ∙ on)

    pairs-now : (a : List Bool) → present_pairs a (decode new.arena a) outs ≡ present_pairs a (decode mid.arena a) out ++ one_pair (lit_value edge.0 a) (decode old.arena a edge.1, decode new.arena a r)
    pairs-now a =
        ap (present_pairs a (decode new.arena a)) is ∙ pairs-push a (decode new.arena a) out (edge.0, edge.1, r)
        ∙ ap (λ ps. ps ++ one_pair (lit_value edge.0 a) (decode new.arena a edge.1, decode new.arena a r)) (pairs-then a)
        ∙ ap (λ v. present_pairs a (decode mid.arena a) out ++ one_pair (lit_value edge.0 a) (v, decode new.arena a r)) (argument-now a)

    named-now : ArrowsNamed new.formula.vars outs
    named-now = rw is (All-push (λ (e : Arrow). IsBelow new.formula.vars e.0) out (edge.0, edge.1, r) (ArrowsNamed-later mid.formula.vars new.formula.vars out picks.named grows.formula.vars)
        (let p = edge-below in let q = before.formula.vars in let w = grows.formula.vars in omega arith))

    -- an arrow more
    pub arrows-push : PicksArrows old new (take (i + 1) es) set outs after
    arrows-push = record {
      named = named-now;
      below = rw pushed (All-push (IsBelow new.formula.vars) tests t (lits-later mid.formula.vars new.formula.vars tests picks.below grows.formula.vars) one_more.below);
      sorts = λ s u p q.
          let parts = fronts' s p in
          rw is (All-push (λ (e : Arrow). OfSort new.arena.kinds s e.1 × OfSort new.arena.kinds u e.2) out (edge.0, edge.1, r) (LeadFrom-later mid new s u out (picks.sorts s u parts.0 q) grows)
          (OfSort-later old new s edge.1 parts.1 (Grows-trans old mid new before grows), one_more.sort u (OfSort-later old mid (set_sort u) set q before)));
      from = λ a s on.
          let parts = passed a on in
          ap arguments (pairs-now a) ∙ arguments-push (present_pairs a (decode mid.arena a) out) _ ∙ ap (λ xs. xs ++ arguments (one_pair (lit_value edge.0 a) (decode old.arena a edge.1, decode new.arena a r))) (picks.from a (Satisfies-before mid new a grows s) parts.0)
          ∙ ap (λ xs. present a (decode old.arena a) (take i es) ++ xs) (first (lit_value edge.0 a) _ _) ∙ sym (more a);
      to = λ a s on v m.
          let parts = passed a on in
          let within : lit_value edge.0 a ≡ true → member (decode new.arena a r) (elements (decode mid.arena a set)) ≡ true = λ here. one_more.sound a s parts.1 here in
          go a v parts.0 s (lit_value edge.0 a) refl within
          (or_cases _ _ (sym (ap (λ ps. member v (results ps)) (pairs-now a) ∙ ap (member v) (map-append (λ (p : Pair). p.1) (present_pairs a (decode mid.arena a) out) _) ∙ list_any-append (same_value v) (results (present_pairs a (decode mid.arena a) out)) _) ∙ m));
      complete = λ a n s g h.
          let ask = asked a g h in
          let f = picks.complete a n s g ask.0 in
          let c : List Bool = a ++ f.more in
          split a n g f (lit_value edge.0 a) refl ask.1;
    }
      where
        fronts' : (s : Sort) → LeadTo old.arena.kinds s (take (i + 1) es) → LeadTo old.arena.kinds s (take i es) × OfSort old.arena.kinds s edge.1
        fronts' s h =
            let n = length-take i es in
            let m = length-take (i + 1) es in (
              λ k e le. subst (λ (y : Edge). OfSort old.arena.kinds s y.1) (get_or-take (i + 1) es k e (omega arith) ∙ sym (get_or-take i es k e (omega arith))) (h k e (omega arith)),
              subst (λ (y : Edge). OfSort old.arena.kinds s y.1) (get_or-take (i + 1) es i d (omega arith)) (h i d (omega arith)),
            )

        first : (t : Bool) (v w : Value) → arguments (one_pair t (v, w)) ≡ one t v
        first true v w = refl
        first false v w = refl

        go : (a : List Bool) (v : Value) → list_all (λ l. lit_value l a) tests ≡ true → Satisfies a new.formula → (t : Bool) → lit_value edge.0 a ≡ t
            → (lit_value edge.0 a ≡ true → member (decode new.arena a r) (elements (decode mid.arena a set)) ≡ true)
            → (member v (results (present_pairs a (decode mid.arena a) out)) ≡ true) ⊎ (member v (results (one_pair (lit_value edge.0 a) (decode old.arena a edge.1, decode new.arena a r))) ≡ true)
            → member v (elements (decode old.arena a set)) ≡ true
        go a v on s t e within (inl m) = picks.to a (Satisfies-before mid new a grows s) on v m
        go a v on s true e within (inr m) =
            let here : (same_value v (decode new.arena a r) || false) ≡ true = ap (λ b. member v (results (one_pair b (decode old.arena a edge.1, decode new.arena a r)))) (sym e) ∙ m in
            let same : v ≡ decode new.arena a r = same_equal v (decode new.arena a r) (alone _ here) in
            ap (λ u. member u (elements (decode old.arena a set))) same ∙ ap (λ u. member (decode new.arena a r) (elements u)) (sym (set-now a)) ∙ within e
          where
            alone : (b : Bool) → (b || false) ≡ true → b ≡ true
            alone true f = refl
            alone false f = f
        go a v on s false e within (inr m) = absurd (let here : false ≡ true = ap (λ b. member v (results (one_pair b (decode old.arena a edge.1, decode new.arena a r)))) (sym e) ∙ m in cc)

        -- the rest of an extension
        finish : (a : List Bool) → length a ≡ old.formula.vars → (g : Value → Value) → (f : HasPicked mid a out tests (graph (present a (decode old.arena a) (take i es)) g)) → (more2 : List Bool)
            → length ((a ++ f.more) ++ more2) ≡ new.formula.vars → Satisfies ((a ++ f.more) ++ more2) new.formula → lit_value t ((a ++ f.more) ++ more2) ≡ true
            → (lit_value edge.0 a ≡ true → decode new.arena ((a ++ f.more) ++ more2) r ≡ g (decode old.arena a edge.1))
            → HasPicked new a outs after (graph (present a (decode old.arena a) (take (i + 1) es)) g)
        finish a n g f more2 long sat on given =
            let c : List Bool = a ++ f.more in
            let x : List Bool = a ++ (f.more ++ more2) in
            let e : c ++ more2 ≡ x = append_assoc a f.more more2 in
            let lit : lit_value edge.0 x ≡ lit_value edge.0 a = lit_value-append edge.0 a (f.more ++ more2) (let p = edge-below in omega arith) in
            let arg : decode old.arena x edge.1 ≡ decode old.arena a edge.1 = decode-assigned old edge.1 a (f.more ++ more2) n in
            let fronts_are : present_pairs x (decode mid.arena x) out ≡ graph (present a (decode old.arena a) (take i es)) g =
            ap (λ y. present_pairs y (decode mid.arena y) out) (sym e) ∙ pairs-longer mid c more2 out f.long picks.named ∙ f.pairs_are in
            record {
              more = f.more ++ more2;
              long = subst (λ y. length y ≡ new.formula.vars) e long;
              satisfies = subst (λ y. Satisfies y new.formula) e sat;
              passes = ap (list_all (λ l. lit_value l x)) pushed ∙ all-push x tests t
                  ∙ and-both _ _ (ap (λ y. list_all (λ l. lit_value l y) tests) (sym e) ∙ lits-longer c more2 tests (subst (λ m. All (IsBelow m) tests) (sym f.long) picks.below) ∙ f.passes) (ap (lit_value t) (sym e) ∙ on);
              pairs_are = pairs-now x ∙ ap (λ ps. ps ++ one_pair (lit_value edge.0 x) (decode old.arena x edge.1, decode new.arena x r)) fronts_are
                  ∙ ap (λ b. graph (present a (decode old.arena a) (take i es)) g ++ one_pair b (decode old.arena x edge.1, decode new.arena x r)) lit
                  ∙ ap (λ v. graph (present a (decode old.arena a) (take i es)) g ++ one_pair (lit_value edge.0 a) (v, decode new.arena x r)) arg
                  ∙ ap (λ ps. graph (present a (decode old.arena a) (take i es)) g ++ ps) (last (lit_value edge.0 a) (λ h. ap (λ y. decode new.arena y r) (sym e) ∙ given h))
                  ∙ sym (graph-append (present a (decode old.arena a) (take i es)) (one (lit_value edge.0 a) (decode old.arena a edge.1)) g) ∙ ap (λ vs. graph vs g) (sym (more a));
            }
          where
            last : (b : Bool) → (b ≡ true → decode new.arena (a ++ (f.more ++ more2)) r ≡ g (decode old.arena a edge.1))
                → one_pair b (decode old.arena a edge.1, decode new.arena (a ++ (f.more ++ more2)) r) ≡ graph (one b (decode old.arena a edge.1)) g
            last true h = ap (λ (w : Value). (decode old.arena a edge.1, w) ∷ []) (h refl)
            last false h = refl

        split : (a : List Bool) → length a ≡ old.formula.vars → (g : Value → Value) → (f : HasPicked mid a out tests (graph (present a (decode old.arena a) (take i es)) g)) → (b : Bool) → lit_value edge.0 a ≡ b
            → (lit_value edge.0 a ≡ true → member (g (decode old.arena a edge.1)) (elements (decode old.arena a set)) ≡ true) → HasPicked new a outs after (graph (present a (decode old.arena a) (take (i + 1) es)) g)
        split a n g f true e ask =
            let c : List Bool = a ++ f.more in
            let back : decode mid.arena c set ≡ decode old.arena a set = value-back old mid a f.more set n before set-there in
            let q = one_more.complete c f.long f.satisfies (g (decode old.arena a edge.1)) (ap (λ u. member (g (decode old.arena a edge.1)) (elements u)) back ∙ ask e) in
            finish a n g f q.more q.long q.satisfies q.literal (λ h. q.decodes)
        split a n g f false e ask =
            let c : List Bool = a ++ f.more in
            let q = one_more.idle c f.long f.satisfies (lit_value-append edge.0 a f.more (let p = edge-below in omega arith) ∙ e) in
            finish a n g f q.more q.long q.satisfies q.literal (λ h. absurd (let k = sym h ∙ e in cc))

pub set-later : (b c : Build) (set : CellId) → IsSetCell b set → Grows b c → IsSetCell c set
set-later b c set h g = record { sort = h.sort; is = OfSort-later b c (set_sort h.sort) set h.is g }

-- a set cell without edges has no members, in an older build either
pub empty-set : (old mid : Build) (set : CellId) → IsSetCell old set → Grows old mid → kind_at mid.arena.kinds set ≡ Set [] → (a : List Bool) → elements (decode old.arena a set) ≡ []
empty-set old mid set h g e a =
    ap elements (decode-kind old.arena a set old.built h.is.0 ∙ ap (kind_value old.arena.texts a (decode old.arena a)) (sym (kind-before old mid set g h.is.0) ∙ e)) ∙ elements-set []

-- ---- sets whose alike members are joined

module _ (c : Cells) (built : WellBuilt c) (g : Cnf) (set : CellId) (raw out : List Edge) (s0 : Sort) (is0 : OfSort c.kinds (set_sort s0) set) (joins : JoinsAll c g (edges_of (kind_at c.kinds set)) (edges_of (kind_at c.kinds set)) raw) (given : out ≡ raw) where
  kind-is : (es : List Edge) × (kind_at c.kinds set ≡ Set es)
  kind-is = is-set (OfSort c.kinds s0) (kind_at c.kinds set) is0.1

  pub leads-in : (s : Sort) → OfSort c.kinds (set_sort s) set → LeadTo c.kinds s out
  leads-in s h = rw given (joins.sorts s (subst (λ (k : CellKind). LeadTo c.kinds s (edges_of k)) (sym kind-is.1) (edges-sort c.kinds s set kind-is.0 h kind-is.1)))

  pub named-in : AreNamed g.vars out
  named-in = rw given joins.named

  set-kind : (a : List Bool) → decode c a set ≡ kind_value c.texts a (decode c a) (Set kind-is.0)
  set-kind a = decode-kind c a set built is0.0 ∙ ap (kind_value c.texts a (decode c a)) kind-is.1

  -- the members of the set are those of the edges
  pub members-in : (a : List Bool) → Satisfies a g → set_of (present a (decode c a) out) ≡ elements (decode c a set)
  members-in a s =
      ap (λ (l : List Edge). set_of (present a (decode c a) l)) given ∙ joined-set c g a _ raw joins s
      ∙ ap (λ (k : CellKind). set_of (present a (decode c a) (edges_of k))) kind-is.1 ∙ sym (elements-cell c a set kind-is.0 (set-kind a))

  pub set-value : (a : List Bool) → decode c a set ≡ value.Set (elements (decode c a set))
  set-value a = set-kind a ∙ ap (λ vs. value.Set vs) (sym (elements-cell c a set kind-is.0 (set-kind a)))

module _ (old : Build) (g : Cnf) (set : CellId) (raw out : List Edge) (fun : IsSetCell old set) (joins : JoinsAll old.arena g (edges_of (kind_at old.arena.kinds set)) (edges_of (kind_at old.arena.kinds set)) raw) (given : out ≡ raw) where
  pub joined-leads : (s : Sort) → OfSort old.arena.kinds (set_sort s) set → LeadTo old.arena.kinds s out
  joined-leads s h = leads-in old.arena old.built g set raw out fun.sort fun.is joins given s h

  pub joined-older : All (λ e. e.1.index < length old.arena.kinds) out
  joined-older = lead-there old.arena.kinds fun.sort out (joined-leads fun.sort fun.is)

  pub joined-members : (a : List Bool) → Satisfies a g → set_of (present a (decode old.arena a) out) ≡ elements (decode old.arena a set)
  joined-members a s = members-in old.arena old.built g set raw out fun.sort fun.is joins given a s

  pub joined-one : OneSort old.arena.kinds g.vars out
  joined-one = record { sort = fun.sort; cells = joined-leads fun.sort fun.is; named = rw given joins.named }

-- the set that is made of them is the same
pub same-set : (old : Build) (mid new : Build) (g : Cnf) (set : CellId) (raw out : List Edge) (id : CellId) (fun : IsSetCell old set) → JoinsAll old.arena g (edges_of (kind_at old.arena.kinds set)) (edges_of (kind_at old.arena.kinds set)) raw → out ≡ raw
    → mid.arena ≡ old.arena → mid.formula ≡ g → Grows mid new → Adds mid new (Set out) id → Decodes new id (λ a. value.Set (set_of (present a (decode mid.arena a) out))) → IsSameSet old new set id
same-set old mid new g set raw out id fun joins given same over grows adds decodes = record {
  value = Decodes-same new id _ _ decodes
      (λ a s. ap (λ (c : Cells). value.Set (set_of (present a (decode c a) out))) same
      ∙ ap (λ vs. value.Set vs) (joined-members old g set raw out fun joins given a (subst (λ (h : Cnf). Satisfies a h) over (Satisfies-before mid new a grows s)))
      ∙ sym (set-value old.arena old.built g set raw out fun.sort fun.is joins given a));
  sort = λ s h. sort-set mid new out s id adds grows (subst (λ (c : Cells). LeadTo c.kinds s out) (sym same) (joined-leads old g set raw out fun joins given s h));
}

pub none-of : {X : Type 0} (o : Option X) → ((x : X) → o ≡ Some x → ⊥) → o ≡ None
none-of None h = refl
none-of (Some x) h = absurd (h x refl)

-- ---- a function of the arrows

abbrev value_or : Option Value → Value → Value
value_or None d = d
value_or (Some v) d = v

-- what is given at an argument is a result
result-member : (ps : List Pair) (v w : Value) → apply ps v ≡ Some w → member w (results ps) ≡ true
result-member [] v w e = absurd (cc)
result-member (p ∷ ps) v w e = go (same_value v p.0) e (result-member ps v w)
  where
    later : (b c : Bool) → c ≡ true → (b || c) ≡ true
    later true c f = refl
    later false c f = f

    go : (b : Bool) → (if b then Some p.1 else apply ps v) ≡ Some w → (apply ps v ≡ Some w → member w (results ps) ≡ true) → (same_value w p.1 || member w (results ps)) ≡ true
    go true f h = let k : p.1 ≡ w = cc in ap (λ u. same_value w u || member w (results ps)) k ∙ ap (λ b. b || member w (results ps)) (same_itself w)
    go false f h = later (same_value w p.1) _ (h f)

some-at : (o : Option Value) (d : Value) → is_some o ≡ true → o ≡ Some (value_or o d)
some-at None d e = absurd (cc)
some-at (Some v) d e = refl

-- pairs whose results are members make a function to these
pub pairs-function : (w : Value) (ps : List Pair) (xs ts : List Value) → arguments ps ≡ xs → ((v : Value) → member v (results ps) ≡ true → member v ts ≡ true) → w ≡ value.Fun (function_of ps)
    → member w (elements (all_functions (set_of xs) ts)) ≡ true
pairs-function w ps xs ts from to is =
    let g : Value → Value = λ v. value_or (apply ps v) w in
    let given : (v : Value) → member v (arguments ps) ≡ true → apply ps v ≡ Some (g v) = λ v m. some-at (apply ps v) w (apply_domain v ps ∙ m) in
    choice-function w (set_of xs) ts g
    (λ x m. to (g x) (result-member ps x (g x) (given x (ap (member x) from ∙ sym (member-set_of x xs) ∙ m))))
    (is ∙ ap (λ l. value.Fun l) (graph_function ps g given ∙ ap (λ l. graph (set_of l) g) from))

module _ (old mid new : Build) (es : List Edge) (set : CellId) (raw out : List Arrow) (tests : List Lit) (g : Cnf) (all : Lit) (id : CellId) (picks : PicksArrows old mid es set raw tests) (given : out ≡ raw) (before : Grows old mid)
    (gate : HasValue g all (λ a. list_all (λ l. lit_value l a) tests)) (first : FormulaGrows mid.formula g) (last : Build) (same : last.arena ≡ mid.arena) (over : last.formula ≡ g) (grows : Grows last new)
    (adds : Adds last new (Fun out) id) (decodes : Decodes new id (λ a. value.Fun (function_of (present_pairs a (decode last.arena a) out)))) where
  sat-mid : (a : List Bool) → Satisfies a new.formula → Satisfies a g
  sat-mid a s = subst (λ (h : Cnf). Satisfies a h) over (Satisfies-before last new a grows s)

  pairs-are' : (a : List Bool) → Satisfies a new.formula → decode new.arena a id ≡ value.Fun (function_of (present_pairs a (decode mid.arena a) raw))
  pairs-are' a s = decodes.value a s ∙ ap (λ (c : Cells). value.Fun (function_of (present_pairs a (decode c a) out))) same ∙ ap (λ (l : List Arrow). value.Fun (function_of (present_pairs a (decode mid.arena a) l))) given

  all-is : (a : List Bool) → Satisfies a new.formula → lit_value all a ≡ list_all (λ l. lit_value l a) tests
  all-is a s = gate.value a (sat-mid a s)

  below-now : all.var < new.formula.vars
  below-now = let p : all.var < last.formula.vars = subst (λ (h : Cnf). all.var < h.vars) (sym over) gate.below in let q = grows.formula.vars in omega arith

  over-complete : (a : List Bool) → length a ≡ old.formula.vars → Satisfies a old.formula → (v : Value) → member v (elements (all_functions (set_of (present a (decode old.arena a) es)) (elements (decode old.arena a set)))) ≡ true → Reaches new a all id v
  over-complete a n s v m =
      let xs : List Value = present a (decode old.arena a) es in
      let rule = function-choice v (set_of xs) (elements (decode old.arena a set)) (set-distinct xs) m in
      let p = picks.complete a n s rule.rule (λ x k. rule.within x (member-set_of x xs ∙ k)) in
      let go1 = goes-on mid.formula g (a ++ p.more) first p.long p.satisfies in
      let go2 = goes-on last.formula new.formula ((a ++ p.more) ++ go1.0) grows.formula (subst (λ (h : Cnf). length ((a ++ p.more) ++ go1.0) ≡ h.vars) (sym over) go1.1.0) (subst (λ (h : Cnf). Satisfies ((a ++ p.more) ++ go1.0) h) (sym over) go1.1.1) in
      let c : List Bool = a ++ p.more in
      let x : List Bool = a ++ (p.more ++ (go1.0 ++ go2.0)) in
      let y : List Bool = c ++ (go1.0 ++ go2.0) in
      let e1 : (c ++ go1.0) ++ go2.0 ≡ y = append_assoc c go1.0 go2.0 in
      let e2 : y ≡ x = append_assoc a p.more (go1.0 ++ go2.0) in
      let sat : Satisfies x new.formula = subst (λ z. Satisfies z new.formula) (e1 ∙ e2) go2.1.1 in
      record {
        more = p.more ++ (go1.0 ++ go2.0);
        long = subst (λ z. length z ≡ new.formula.vars) (e1 ∙ e2) go2.1.0;
        satisfies = sat;
        literal = all-is x sat ∙ ap (λ z. list_all (λ l. lit_value l z) tests) (sym e2) ∙ lits-longer c (go1.0 ++ go2.0) tests (subst (λ k. All (IsBelow k) tests) (sym p.long) picks.below) ∙ p.passes;
        decodes = pairs-are' x sat ∙ ap (λ z. value.Fun (function_of (present_pairs z (decode mid.arena z) raw))) (sym e2)
            ∙ ap (λ ps. value.Fun (function_of ps)) (pairs-longer mid c (go1.0 ++ go2.0) raw p.long picks.named ∙ p.pairs_are)
            ∙ ap (λ ps. value.Fun ps) (function_graph xs rule.rule) ∙ sym rule.is;
      }

  pub picks-over : PicksOver old new es set (id, all)
  picks-over = record {
    below = below-now;
    sort = λ s t p q. sort-function last new out s t id adds grows (subst (λ (c : Cells). LeadFrom c.kinds s t out) (sym same) (rw given (picks.sorts s t p q)));
    sound = λ a s on.
        let s0 = Satisfies-older mid.formula g a first (sat-mid a s) in
        let passes = sym (all-is a s) ∙ on in
        pairs-function (decode new.arena a id) (present_pairs a (decode mid.arena a) raw) (present a (decode old.arena a) es) (elements (decode old.arena a set)) (picks.from a s0 passes) (picks.to a s0 passes) (pairs-are' a s);
    complete = over-complete;
  }

-- ---- from the sets themselves

module _ (old mid far new : Build) (g : Cnf) (from to set : CellId) (raw out : List Edge) (r : CellId × Lit) (sets : AreSetCells old from to) (joins : JoinsAll old.arena g (edges_of (kind_at old.arena.kinds from)) (edges_of (kind_at old.arena.kinds from)) raw) (given : out ≡ raw)
    (same : mid.arena ≡ old.arena) (over : mid.formula ≡ g) (grows : FormulaGrows old.formula g) (is_set : IsSameSet mid far to set) (next : Grows mid far) (picks : PicksOver far new out set r) (last : Grows far new) where
  grown : Grows old far
  grown = Grows-trans old mid far (Grows-formula old mid (subst (λ (h : Cnf). FormulaGrows old.formula h) (sym over) grows) same) next

  leads-old : (s : Sort) → OfSort old.arena.kinds (set_sort s) from → LeadTo old.arena.kinds s out
  leads-old s h = joined-leads old g from raw out sets.domain joins given s h

  cells-then : (a : List Bool) → present a (decode far.arena a) out ≡ present a (decode old.arena a) out
  cells-then a = map-agree (λ (e : Edge). lit_value e.0 a) (λ (e : Edge). decode far.arena a e.1) (λ (e : Edge). decode old.arena a e.1) out
      (λ i d lt. decode-before old far a (get_or out i d).1 grown (sort-there old.arena.kinds sets.domain.sort _ (leads-old sets.domain.sort sets.domain.is i d lt)))

  -- the function set is the one that is picked over
  functions-are : (a : List Bool) → Satisfies a far.formula
      → all_functions (set_of (present a (decode far.arena a) out)) (elements (decode far.arena a set)) ≡ all_functions (elements (decode old.arena a from)) (elements (decode old.arena a to))
  functions-are a s =
      let s1 : Satisfies a g = subst (λ (h : Cnf). Satisfies a h) over (Satisfies-before mid far a next s) in
      ap (λ xs. all_functions (set_of xs) (elements (decode far.arena a set))) (cells-then a)
      ∙ ap (λ xs. all_functions xs (elements (decode far.arena a set))) (joined-members old g from raw out sets.domain joins given a s1)
      ∙ ap (λ v. all_functions (elements (decode old.arena a from)) (elements v)) (is_set.value.value a s ∙ ap (λ (c : Cells). decode c a to) same)

  pub picks-function : PicksFunction old new from to r
  picks-function = record {
    below = picks.below;
    sort = λ s t p q.
        picks.sort s t (LeadTo-later old far s out (leads-old s p) grown) (is_set.sort t (subst (λ (c : Cells). OfSort c.kinds (set_sort t) to) (sym same) q));
    sound = λ a s on.
        let s0 = Satisfies-before far new a last s in
        subst (λ v. member (decode new.arena a r.0) (elements v) ≡ true) (functions-are a s0) (picks.sound a s on);
    complete = λ a n s v m.
        let go = goes-on old.formula far.formula a grown.formula n s in
        let c : List Bool = a ++ go.0 in
        let back_from : decode old.arena c from ≡ decode old.arena a from = decode-assigned old from a go.0 n in
        let back_to : decode old.arena c to ≡ decode old.arena a to = decode-assigned old to a go.0 n in
        let there : member v (elements (all_functions (set_of (present c (decode far.arena c) out)) (elements (decode far.arena c set)))) ≡ true =
        ap (λ w. member v (elements w)) (functions-are c go.1.1 ∙ ap (λ w. all_functions (elements w) (elements (decode old.arena c to))) back_from ∙ ap (λ w. all_functions (elements (decode old.arena a from)) (elements w)) back_to) ∙ m in
        let q = picks.complete c go.1.0 go.1.1 v there in
        let e : c ++ q.more ≡ a ++ (go.0 ++ q.more) = append_assoc a go.0 q.more in
        record {
          more = go.0 ++ q.more;
          long = subst (λ x. length x ≡ new.formula.vars) e q.long;
          satisfies = subst (λ x. Satisfies x new.formula) e q.satisfies;
          literal = subst (λ x. lit_value r.1 x ≡ true) e q.literal;
          decodes = subst (λ x. decode new.arena x r.0 ≡ v) e q.decodes;
        };
  }

-- the arrows that are picked lead between cells that are there
pub picked-older : (old mid : Build) (es : List Edge) (set : CellId) (raw out : List Arrow) (tests : List Lit) → OneSort old.arena.kinds old.formula.vars es → IsSetCell old set → PicksArrows old mid es set raw tests → out ≡ raw
    → All (λ e. (e.1.index < length mid.arena.kinds) × (e.2.index < length mid.arena.kinds)) out
picked-older old mid es set raw out tests edges fun picks given = rw given (arrows-there mid.arena.kinds edges.sort fun.sort raw (picks.sorts edges.sort fun.sort edges.cells fun.is))

-- edges of a sort in a larger build
pub one-later : (b c : Build) (es : List Edge) → OneSort b.arena.kinds b.formula.vars es → Grows b c → OneSort c.arena.kinds c.formula.vars es
one-later b c es h g = record { sort = h.sort; cells = LeadTo-later b c h.sort es h.cells g; named = AreNamed-later b.formula.vars c.formula.vars es h.named g.formula.vars }

pub same-set-cell : (old mid far : Build) (to set : CellId) → IsSetCell old to → mid.arena ≡ old.arena → IsSameSet mid far to set → IsSetCell far set
same-set-cell old mid far to set h same is = record { sort = h.sort; is = is.sort h.sort (subst (λ (c : Cells). OfSort c.kinds (set_sort h.sort) to) (sym same) h.is) }
