-- New variables, and a subset by them.
use Rattle.std.proofs.Common.{◌≡◌, ℕ, zero, suc, ◌+◌, ◌<◌, Bool, true, false, cond, ◌&&◌, ◌||◌, List, [], ◌∷◌, ◌++◌, map, length, take, get_or, All, refl, ap, ◌∙◌, sym, subst, arith, append_assoc}
use Rattle.std.specs.Prelude.{filter, if◌then◌else◌}
use Rattle.std.proofs.lemmas.List.{append-nil, length_push, length-take-le, length-map, take_all, take_more, map-append, get_or_push}
use Rattle.std.proofs.lemmas.List.Elements.{All-nil, All-push, All-weaker}
use Rattle.sat_formula.specs.declared.lit.Lit.{Lit}
use Rattle.sat_formula.specs.declared.cnf.Cnf.{Cnf}
use Rattle.sat_formula.specs.Lit.{lit_value, IsBelow}
use Rattle.sat_formula.specs.Formula.{Satisfies, EitherExtends}
use Rattle.sat_formula.proofs.Extension.{lit_value-append}
use Rattle.tla_values.specs.Order.{same_value}
use Rattle.tla_values.specs.Sets.{set_of, elements, member}
use Rattle.tla_values.specs.declared.value.Value.{Value}
use Rattle.tla_values.specs.declared.value.Value.TheVariants as value
use Rattle.tla_values.proofs.Extensional.{set_of_rising, Rising}
use Rattle.cell_arena.specs.declared.build.Build.{Build}
use Rattle.cell_arena.specs.declared.kinds.CellId.{CellId}
use Rattle.cell_arena.specs.declared.kinds.CellKind.{CellKind}
use Rattle.cell_arena.specs.declared.kinds.CellKind.TheVariants.{Set}
use Rattle.cell_arena.specs.Cells.{Cells, kind_at}
use Rattle.cell_arena.specs.Decode.{decode, present, kind_value}
use Rattle.cell_arena.specs.Growth.{Grows}
use Rattle.cell_arena.proofs.Assigned.{values-append}
use Rattle.cell_arena.proofs.Growing.{decode-assigned}
use Rattle.cell_merge.specs.Sorts.{OfSort, set_of as set_sort}
use Rattle.cell_merge.proofs.Edges.{elements-cell}
use Rattle.cell_merge.proofs.Layering.{goes-on}
use Rattle.cell_merge.specs.Edges.{edges_of}
use Rattle.set_rewriter.specs.Edges.{MakesSet, kept, KeepsBy}
use Rattle.set_rewriter.specs.Subsets.{ReachesValue, PicksSubset, all_subsets}
use Rattle.set_rewriter.specs.inner.Steps.{AreFree, FreeBits}
use Rattle.set_rewriter.proofs.Keeping.{kept-set}
use Rattle.set_rewriter.proofs.Sublists.{some-filter, test-subset, subset-test}

abbrev Edge : Type 0
Edge = Lit × CellId

pub bits-none : (f : Cnf) → FreeBits f f 0 []
unfolding AreFree
bits-none f = record { named = All-nil (IsBelow f.vars); count = refl; free = λ a n s values m. none a n s values m }
  where
    none : (a : List Bool) → length a ≡ f.vars → Satisfies a f → (values : List Bool) → length values ≡ 0 → (length (a ++ values) ≡ f.vars) × (Satisfies (a ++ values) f × ([] ≡ values))
    none a n s [] e = rw (append-nil a) (n, (s, refl))
    none a n s (v ∷ values) e = absurd (omega arith)

free-more : (f g h : Cnf) (bits : List Lit) (bit : Lit) → AreFree f g bits → EitherExtends g h → bit ≡ record { var = g.vars; neg = false } → h.vars ≡ g.vars + 1 → All (IsBelow g.vars) bits → AreFree f h (bits ++ bit ∷ [])
unfolding AreFree
free-more f g h bits bit free one is more below a n s values m =
    let k : ℕ = length bits in
    let long : length values ≡ k + 1 = m ∙ length_push bits bit in
    let front : List Bool = take k values in
    let t : Bool = get_or values k false in
    let e : values ≡ front ++ t ∷ [] = sym (take_all (k + 1) values (omega arith)) ∙ take_more values k false (omega arith) in
    let l : length front ≡ k = length-take-le k values (omega arith) in
    let before = free a n s front l in
    let b : List Bool = a ++ front in
    let whole : b ++ t ∷ [] ≡ a ++ values = append_assoc a front (t ∷ []) ∙ ap (λ vs. a ++ vs) (sym e) in
    let named : All (IsBelow (length b)) bits = rw before.0 below in
    let olds : map (λ l. lit_value l (b ++ t ∷ [])) bits ≡ front = values-append bits b (t ∷ []) named ∙ before.1.1 in
    let newest : lit_value bit (b ++ t ∷ []) ≡ t = rw is (get_or_push b t false g.vars before.0) in
    let marks : map (λ l. lit_value l (b ++ t ∷ [])) (bits ++ bit ∷ []) ≡ values =
    map-append (λ l. lit_value l (b ++ t ∷ [])) bits (bit ∷ []) ∙ ap (λ vs. vs ++ lit_value bit (b ++ t ∷ []) ∷ []) olds ∙ ap (λ v. front ++ v ∷ []) newest ∙ sym e in
    let size : length (b ++ t ∷ []) ≡ h.vars = length_push b t ∙ ap (λ (j : ℕ). j + 1) before.0 ∙ sym more in (
      subst (λ c. length c ≡ h.vars) whole size,
      (
        subst (λ c. Satisfies c h) whole (one b t before.0 before.1.0),
        subst (λ c. map (λ l. lit_value l c) (bits ++ bit ∷ []) ≡ values) whole marks,
      ),
    )

pub bits-more : (f g h : Cnf) (i : ℕ) (bits after : List Lit) (bit : Lit) → FreeBits f g i bits → EitherExtends g h → bit ≡ record { var = g.vars; neg = false } → h.vars ≡ g.vars + 1
    → after ≡ bits ++ bit ∷ [] → FreeBits f h (i + 1) after
bits-more f g h i bits after bit b one is more pushed = rw pushed (record {
  named = All-push (IsBelow h.vars) bits bit (All-weaker (IsBelow g.vars) (IsBelow h.vars) (λ l p. omega arith) bits b.named) (let v = ap (λ (l : Lit). l.var) is in omega arith);
  count = length_push bits bit ∙ ap (λ (n : ℕ). n + 1) b.count;
  free = free-more f g h bits bit b.free one is more b.named;
})

nth-map : {A B : Type 0} (f : A → B) (xs : List A) (i : ℕ) (d : A) (e : B) → i < length xs → get_or (map f xs) i e ≡ f (get_or xs i d)
nth-map f [] i d e lt = absurd (omega arith)
nth-map f (x ∷ xs) zero d e lt = refl
nth-map f (x ∷ xs) (suc i) d e lt = nth-map f xs i d e (omega arith)

-- what is kept is within the set
kept-member : (a : List Bool) (of : CellId → Value) (es : List Edge) (keep : List Lit) (v : Value) → member v (kept a of es keep) ≡ true → member v (present a of es) ≡ true
kept-member a of [] keep v h = h
kept-member a of (e ∷ es) [] v h = absurd (cc)
kept-member a of (e ∷ es) (k ∷ keep) v h = split (lit_value e.0 a) (lit_value k a) (kept-member a of es keep v) h
  where
    later : (p q r : Bool) → (q ≡ true → r ≡ true) → (p || q) ≡ true → (p || r) ≡ true
    later true q r f g = refl
    later false q r f g = f g

    weaker : (p r : Bool) → r ≡ true → (p || r) ≡ true
    weaker true r g = refl
    weaker false r g = g

    split : (s t : Bool) → (member v (kept a of es keep) ≡ true → member v (present a of es) ≡ true)
        → member v (if s && t then of e.1 ∷ kept a of es keep else kept a of es keep) ≡ true
        → member v (map (λ (e : Edge). of e.1) (cond s (e ∷ filter (λ e. lit_value e.0 a) es) (filter (λ e. lit_value e.0 a) es))) ≡ true
    split true true f g = later (same_value v (of e.1)) _ _ f g
    split true false f g = weaker (same_value v (of e.1)) _ (f g)
    split false t f g = f g

module _ (old mid new : Build) (set id : CellId) (es : List Edge) (keep : List Lit) (same : mid.arena ≡ old.arena) (lt : set.index < length old.arena.kinds) (is : kind_at old.arena.kinds set ≡ Set es)
    (decodes : (a : List Bool) → decode old.arena a set ≡ kind_value old.arena.texts a (decode old.arena a) (Set es))
    (free : FreeBits old.formula mid.formula (length es) keep) (grows : Grows mid new)
    (made : MakesSet mid new set set id (λ a. set_of (kept a (decode mid.arena a) (edges_of (kind_at mid.arena.kinds set)) keep))) where
  -- what the filter gives, over the old cells
  kept-value : (a : List Bool) → Satisfies a new.formula → decode new.arena a id ≡ value.Set (set_of (kept a (decode old.arena a) es keep))
  kept-value a s = made.value.value a s
      ∙ ap (λ (c : Cells). value.Set (set_of (kept a (decode c a) (edges_of (kind_at c.kinds set)) keep))) same
      ∙ ap (λ (k : CellKind). value.Set (set_of (kept a (decode old.arena a) (edges_of k) keep))) is

  sound : (a : List Bool) → Satisfies a new.formula → member (decode new.arena a id) (elements (all_subsets (elements (decode old.arena a set)))) ≡ true
  sound a s =
      let of : CellId → Value = decode old.arena a in
      let some : List Value = kept a of es keep in
      test-subset (decode new.arena a id) (λ u. member u some) (elements (decode old.arena a set))
      (kept-value a s ∙ ap (λ (l : List Value). value.Set l) (some-filter some (present a of es) (λ v m. kept-member a of es keep v m)
      ∙ ap (filter (λ u. member u some)) (sym (elements-cell old.arena a set es (decodes a)))))

  reached : (a : List Bool) → length a ≡ old.formula.vars → Satisfies a old.formula → (test : Value → Bool) → ReachesValue new a id (value.Set (filter test (elements (decode old.arena a set))))
  unfolding AreFree KeepsBy
  reached a n s test =
      let wanted : Edge → Bool = λ e. test (decode old.arena a e.1) in
      let values : List Bool = map wanted es in
      let long : length values ≡ length keep = length-map es wanted ∙ sym free.count in
      let first = free.free a n s values long in
      let b : List Bool = a ++ values in
      let go = goes-on mid.formula new.formula b grows.formula first.0 first.1.0 in
      let c : List Bool = a ++ (values ++ go.0) in
      let e : b ++ go.0 ≡ c = append_assoc a values go.0 in
      let sat : Satisfies c new.formula = subst (λ x. Satisfies x new.formula) e go.1.1 in
      let of : CellId → Value = decode old.arena c in
      let marks : KeepsBy c of es keep test = λ i d k lt on.
      let bit : Lit = get_or keep i k in
      let short : i < length keep = rw free.count lt in
      let named : bit.var < length b = (let h = free.named i k short in let g = first.0 in omega arith) in
      ap (λ x. lit_value bit x) (sym e) ∙ lit_value-append bit b go.0 named
      ∙ sym (nth-map (λ l. lit_value l b) keep i k false short) ∙ ap (λ vs. get_or vs i false) first.1.1
      ∙ nth-map wanted es i d false lt ∙ ap test (sym (decode-assigned old (get_or es i d).1 a (values ++ go.0) n)) in
      record {
        more = values ++ go.0;
        long = subst (λ x. length x ≡ new.formula.vars) e go.1.0;
        satisfies = sat;
        decodes = kept-value c sat ∙ ap (λ vs. value.Set vs) (kept-set c of es keep test free.count marks)
            ∙ ap (λ vs. value.Set (filter test vs)) (sym (elements-cell old.arena c set es (decodes c)))
            ∙ ap (λ v. value.Set (filter test (elements v))) (decode-assigned old set a (values ++ go.0) n);
      }

  pub picks-subset : PicksSubset old new set id
  picks-subset = record {
    there = made.value.there;
    sort = λ s h. let k = subst (λ (c : Cells). OfSort c.kinds (set_sort s) set) (sym same) h in made.sort s k k;
    sound = sound;
    complete = λ a n s v e.
        let up : Rising (elements (decode old.arena a set)) = subst Rising (sym (elements-cell old.arena a set es (decodes a))) (set_of_rising (present a (decode old.arena a) es)) in
        let t = subset-test v (elements (decode old.arena a set)) up e in
        subst (ReachesValue new a id) (sym t.1) (reached a n s t.0);
  }
