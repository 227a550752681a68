-- The subsets of the first edges of a set.
use Rattle.std.proofs.Common.{◌≡◌, ℕ, ◌+◌, ◌-◌, ◌<◌, ◌≤◌, Bool, true, false, cond, ◌&&◌, ◌||◌, List, [], ◌∷◌, ◌++◌, map, length, take, get_or, All, refl, ap, ◌∙◌, sym, subst, arith, below_more, ◌⊎◌, inl, inr}
use Rattle.std.specs.Prelude.{filter}
use Rattle.std.proofs.lemmas.Bool.{cases_lt}
use Rattle.std.proofs.lemmas.List.{append-nil, length_push, get_or_push, get_or_append_left, get_or-append-add, get_or_default, length-append, length-map, take_all}
use Rattle.std.proofs.Math.ListN.{get_or-map}
use Rattle.std.proofs.lemmas.List.Folds.{list_any-append, list_any_at, Any-from_list_any}
use Rattle.std.proofs.lemmas.List.Elements.{All-nil, All-cons, All-push, All-append, All-weaker, All-map, All-head, filter-append}
use Rattle.sat_formula.specs.declared.lit.Lit.{Lit}
use Rattle.sat_formula.specs.Lit.{lit_value, IsBelow}
use Rattle.sat_formula.specs.Formula.{Satisfies}
use Rattle.tla_values.specs.Order.{same_value}
use Rattle.tla_values.specs.Sets.{set_of, elements, member, union_of}
use Rattle.tla_values.specs.declared.value.Value.{Value}
use Rattle.tla_values.specs.declared.value.Value.TheVariants as value
use Rattle.tla_values.proofs.Members.{elements-set}
use Rattle.tla_values.proofs.Extensional.{same_equal, same_itself, member-set_of, filter-set_of, union-set_of, set_of_rising}
use Rattle.cell_arena.specs.declared.build.Build.{Build}
use Rattle.cell_arena.specs.declared.kinds.CellId.{CellId}
use Rattle.cell_arena.specs.declared.kinds.CellKind.{CellKind}
use Rattle.cell_arena.specs.declared.kinds.CellKind.TheVariants.{Set}
use Rattle.cell_arena.specs.Cells.{Cells, kind_at}
use Rattle.cell_arena.specs.Decode.{decode, present, kind_value}
use Rattle.cell_arena.specs.Growth.{Grows, Decodes, Adds}
use Rattle.cell_arena.proofs.Growing.{Satisfies-before, Decodes-same, decode-before}
use Rattle.cell_merge.specs.Sorts.{Sort, OfSort, set_of as set_sort}
use Rattle.cell_merge.specs.Edges.{LeadTo, AreNamed, JoinsAll}
use Rattle.cell_merge.proofs.Edges.{sort-there, elements-cell, edges-sort}
use Rattle.cell_merge.proofs.SortLaws.{OfSort-later, sort-set}
use Rattle.cell_merge.proofs.Chosen.{lead-there}
use Rattle.cell_merge.proofs.Present.{present-append, present-one, present-more}
use Rattle.set_rewriter.specs.Subsets.{IsPowerset, all_subsets}
use Rattle.set_rewriter.specs.inner.Steps.{one, IsSetOfSubsets, IsSome, HasPart, SubsetCells, WithEdge, WithEach, SetsAndEdge, EdgesOfSort, PowersetOf}
use Rattle.set_rewriter.proofs.Gathering.{joined-set}
use Rattle.set_rewriter.proofs.Sublists.{some-filter, subsets-are}

abbrev Edge : Type 0
Edge = Lit × CellId

-- ---- sets and one value more

-- the same set with more items
set-more : (xs ys zs : List Value) → set_of xs ≡ set_of ys → set_of (xs ++ zs) ≡ set_of (ys ++ zs)
set-more xs ys zs e = union-set_of xs zs ∙ ap (λ (l : List Value). union_of l (set_of zs)) e ∙ sym (union-set_of ys zs)

set-of-value : (xs ys : List Value) → value.Set (set_of xs) ≡ value.Set (set_of ys) → set_of xs ≡ set_of ys
set-of-value xs ys e = sym (elements-set (set_of xs)) ∙ ap elements e ∙ elements-set (set_of ys)

pub with-edge : (b mid new : Build) (e : Edge) (cell id : CellId) (es out : List Edge) → mid.arena ≡ b.arena → Grows mid new → out ≡ es ++ e ∷ [] → Adds mid new (Set out) id
    → Decodes new id (λ a. value.Set (set_of (present a (decode mid.arena a) out)))
    → ((a : List Bool) → decode b.arena a cell ≡ kind_value b.arena.texts a (decode b.arena a) (Set es)) → ((s : Sort) → OfSort b.arena.kinds (set_sort s) cell → LeadTo b.arena.kinds s es)
    → WithEdge b new e cell id
with-edge b mid new e cell id es out same grows pushed adds decodes is sorts = record {
  sort = λ s h k.
      let both : LeadTo b.arena.kinds s out = rw pushed (All-push (λ (x : Edge). OfSort b.arena.kinds s x.1) es e (sorts s h) k) in
      sort-set mid new out s id adds grows (subst (λ (c : Cells). LeadTo c.kinds s out) (sym same) both);
  value = λ a s items h.
      let of : CellId → Value = decode b.arena a in
      let olds : set_of (present a of es) ≡ set_of items = set-of-value (present a of es) items (sym (is a) ∙ h) in
      decodes.value a s ∙ ap (λ (c : Cells). value.Set (set_of (present a (decode c a) out))) same
      ∙ ap (λ (l : List Edge). value.Set (set_of (present a of l))) pushed
      ∙ ap (λ (l : List Value). value.Set (set_of l)) (present-append a of es (e ∷ []) ∙ ap (λ (l : List Value). present a of es ++ l) (present-one a of e))
      ∙ ap (λ (l : List Value). value.Set l) (set-more (present a of es) items (one (lit_value e.0 a) (of e.1)) olds);
}

-- ---- each of the sets once more

pub each-more : (old mid new : Build) (e : Edge) (cells : List CellId) (i : ℕ) (d id : CellId) (out after : List CellId) (t : Sort) → i < length cells → All (OfSort old.arena.kinds (set_sort t)) cells → OfSort old.arena.kinds t e.1
    → Grows old mid → Grows mid new → WithEach old mid e cells i out → WithEdge mid new e (get_or cells i d) id → after ≡ out ++ id ∷ [] → WithEach old new e cells (i + 1) after
each-more old mid new e cells i d id out after t lt sets cell before grows h w pushed = record {
  count = ap length pushed ∙ length_push out id ∙ ap (λ (n : ℕ). n + 1) h.count;
  sorts = λ s p q.
      let Q : CellId → Type 0 = OfSort new.arena.kinds (set_sort s) in
      rw pushed (All-push Q out id (All-weaker (OfSort mid.arena.kinds (set_sort s)) Q (λ c k. OfSort-later mid new (set_sort s) c k grows) out (h.sorts s p q))
      (w.sort s (OfSort-later old mid (set_sort s) (get_or cells i d) (p i d lt) before) (OfSort-later old mid s e.1 q before)));
  values = λ a s.
      let s0 = Satisfies-before mid new a grows s in
      let v : Value = decode old.arena a e.1 in
      let F : ℕ → Type 0 = λ k. (d : CellId) (items : List Value) → decode old.arena a (get_or cells k d) ≡ value.Set (set_of items) → decode new.arena a (get_or (out ++ id ∷ []) k d) ≡ value.Set (set_of (items ++ one (lit_value e.0 a) v)) in
      let all : (k : ℕ) → k < i + 1 → F k = below_more F i
      (λ k l c items q.
      let short : k < length out = rw h.count l in
      let there : (get_or out k c).index < length mid.arena.kinds = sort-there mid.arena.kinds (set_sort t) (get_or out k c) (h.sorts t sets cell k c short) in
      ap (decode new.arena a) (get_or_append_left out (id ∷ []) c k short) ∙ decode-before mid new a (get_or out k c) grows there ∙ h.values a s0 k c l items q)
      (λ c items q.
      let same : get_or cells i c ≡ get_or cells i d = get_or_default cells i c d lt in
      let older : decode mid.arena a (get_or cells i d) ≡ value.Set (set_of items) =
      decode-before old mid a (get_or cells i d) before (sort-there old.arena.kinds (set_sort t) (get_or cells i d) (sets i d lt)) ∙ ap (decode old.arena a) (sym same) ∙ q in
      ap (decode new.arena a) (get_or_push out id c i h.count) ∙ w.value a s items older
      ∙ ap (λ (u : Value). value.Set (set_of (items ++ one (lit_value e.0 a) u))) (decode-before old mid a e.1 before (sort-there old.arena.kinds t e.1 cell))) in
      λ k c l items q. rw pushed (all k l c items q);
}

-- ---- the subsets of one edge more

member-left : (w : Value) (xs ys : List Value) → member w xs ≡ true → member w (xs ++ ys) ≡ true
member-left w xs ys e = list_any-append (same_value w) xs ys ∙ ap (λ t. t || member w ys) e

member-right : (w : Value) (xs ys : List Value) → member w ys ≡ true → member w (xs ++ ys) ≡ true
member-right w xs ys e = list_any-append (same_value w) xs ys ∙ ap (λ t. member w xs || t) e ∙ or_true (member w xs)
  where
    or_true : (t : Bool) → (t || true) ≡ true
    or_true true = refl
    or_true false = refl

member-parts : (w : Value) (xs ys zs : List Value) → ((u : Value) → member u xs ≡ true → member u zs ≡ true) → member w (xs ++ ys) ≡ true → member w (zs ++ ys) ≡ true
member-parts w xs ys zs h e = go (member w xs) refl (sym (list_any-append (same_value w) xs ys) ∙ e)
  where
    go : (t : Bool) → member w xs ≡ t → (member w xs || member w ys) ≡ true → member w (zs ++ ys) ≡ true
    go true f g = member-left w zs ys (h w f)
    go false f g = member-right w zs ys (sym (ap (λ t. t || member w ys) f) ∙ g)

filter-one : (test : Value → Bool) (l : Bool) (v : Value) → filter test (one l v) ≡ one (l && test v) v
filter-one test true v = split (test v)
  where
    split : (t : Bool) → cond t (v ∷ []) [] ≡ one t v
    split true = refl
    split false = refl
filter-one test false v = refl

module _ (old mid new : Build) (es : List Edge) (i : ℕ) (d : Edge) (cells more after : List CellId) (t : Sort) (lt : i < length es) (sets : LeadTo old.arena.kinds t es) (before : Grows old mid) (grows : Grows mid new)
    (h : SubsetCells old mid es i cells) (w : WithEach mid new (get_or es i d) cells (length cells) more) (pushed : after ≡ cells ++ more) where
  abbrev front : List Bool → List Value
  front a = present a (decode old.arena a) (take i es)

  abbrev last : List Bool → List Value
  last a = one (lit_value (get_or es i d).0 a) (decode old.arena a (get_or es i d).1)

  whole : (a : List Bool) → present a (decode old.arena a) (take (i + 1) es) ≡ front a ++ last a
  whole a = present-more a (decode old.arena a) es i d lt

  there : (k : ℕ) (c : CellId) → k < length cells → (get_or cells k c).index < length mid.arena.kinds
  there k c l = sort-there mid.arena.kinds (set_sort t) (get_or cells k c) (h.sorts t sets k c l)

  older : (a : List Bool) (k : ℕ) (c : CellId) → k < length cells → decode new.arena a (get_or after k c) ≡ decode mid.arena a (get_or cells k c)
  older a k c l = ap (λ (x : List CellId). decode new.arena a (get_or x k c)) pushed ∙ ap (decode new.arena a) (get_or_append_left cells more c k l) ∙ decode-before mid new a (get_or cells k c) grows (there k c l)

  newer : (a : List Bool) → Satisfies a new.formula → (k : ℕ) (c : CellId) → k < length cells → (items : List Value) → decode mid.arena a (get_or cells k c) ≡ value.Set (set_of items)
      → decode new.arena a (get_or after (length cells + k) c) ≡ value.Set (set_of (items ++ last a))
  newer a s k c l items q =
      ap (λ (x : List CellId). decode new.arena a (get_or x (length cells + k) c)) pushed ∙ ap (decode new.arena a) (get_or-append-add cells more k c) ∙ w.values a s k c l items q
      ∙ ap (λ (u : Value). value.Set (set_of (items ++ one (lit_value (get_or es i d).0 a) u))) (decode-before old mid a (get_or es i d).1 before (sort-there old.arena.kinds t (get_or es i d).1 (sets i d lt)))

  each : (a : List Bool) → Satisfies a new.formula → (k : ℕ) (c : CellId) → k < length after → IsSome (decode new.arena a (get_or after k c)) (present a (decode old.arena a) (take (i + 1) es))
  each a s k c l = rw (whole a) (go (cases_lt k (length cells)))
    where
      s0 : Satisfies a mid.formula
      s0 = Satisfies-before mid new a grows s

      size : length after ≡ length cells + length cells
      size = ap length pushed ∙ length-append cells more ∙ ap (λ (n : ℕ). length cells + n) w.count

      go : (k < length cells) ⊎ (length cells ≤ k) → IsSome (decode new.arena a (get_or after k c)) (front a ++ last a)
      go (inl m) =
          let p = h.each a s0 k c m in
          record { some = p.some; is = older a k c m ∙ p.is; within = λ u e. member-left u (front a) (last a) (p.within u e) }
      go (inr m) =
          let j : ℕ = k - length cells in
          let e : k ≡ length cells + j = omega arith in
          let jlt : j < length cells = omega (arith, size) in
          let p = h.each a s0 j c jlt in
          record {
            some = p.some ++ last a;
            is = ap (λ (n : ℕ). decode new.arena a (get_or after n c)) e ∙ newer a s j c jlt p.some p.is;
            within = λ u q. member-parts u p.some (last a) (front a) p.within q;
          }

  all : (a : List Bool) → Satisfies a new.formula → (test : Value → Bool) → HasPart new.arena a after (present a (decode old.arena a) (take (i + 1) es)) test
  all a s test = rw (whole a) (go (lit_value (get_or es i d).0 a) refl (test (decode old.arena a (get_or es i d).1)) refl)
    where
      v : Value
      v = decode old.arena a (get_or es i d).1

      p : HasPart mid.arena a cells (front a) test
      p = h.all a (Satisfies-before mid new a grows s) test

      size : length after ≡ length cells + length cells
      size = ap length pushed ∙ length-append cells more ∙ ap (λ (n : ℕ). length cells + n) w.count

      parts : filter test (front a ++ last a) ≡ filter test (front a) ++ one (lit_value (get_or es i d).0 a && test v) v
      parts = filter-append test (front a) (last a) ∙ ap (λ (l : List Value). filter test (front a) ++ l) (filter-one test (lit_value (get_or es i d).0 a) v)

      without : (lit_value (get_or es i d).0 a && test v) ≡ false → HasPart new.arena a after (front a ++ last a) test
      without off = record {
        index = p.index;
        within = let m = p.within in omega (arith, size);
        is = λ c. older a p.index c p.within ∙ p.is c
            ∙ ap (λ (l : List Value). value.Set (set_of l)) (sym (parts ∙ ap (λ t. filter test (front a) ++ one t v) off ∙ append-nil (filter test (front a))));
      }

      go : (l : Bool) → lit_value (get_or es i d).0 a ≡ l → (u : Bool) → test v ≡ u → HasPart new.arena a after (front a ++ last a) test
      go true e true f = record {
        index = length cells + p.index;
        within = let m = p.within in omega (arith, size);
        is = λ c. newer a s p.index c p.within (filter test (front a)) (p.is c)
            ∙ ap (λ (l : List Value). value.Set (set_of l)) (ap (λ t. filter test (front a) ++ one t v) e ∙ sym (parts ∙ ap (λ t. filter test (front a) ++ one (t && test v) v) e ∙ ap (λ t. filter test (front a) ++ one t v) f));
      }
      go true e false f = without (ap (λ t. t && test v) e ∙ f)
      go false e u f = without (ap (λ t. t && test v) e)

  pub subsets-more : SubsetCells old new es (i + 1) after
  subsets-more = record {
    sorts = λ s g.
        let Q : CellId → Type 0 = OfSort new.arena.kinds (set_sort s) in
        rw pushed (All-append Q cells more (All-weaker (OfSort mid.arena.kinds (set_sort s)) Q (λ c k. OfSort-later mid new (set_sort s) c k grows) cells (h.sorts s g))
        (w.sorts s (h.sorts s g) (OfSort-later old mid s (get_or es i d).1 (g i d lt) before)));
    each = each;
    all = all;
  }

-- ---- the set of them

always-there : (a : List Bool) (of : CellId → Value) (top : Lit) (cells : List CellId) → lit_value top a ≡ true → present a of (map (λ c. (top, c)) cells) ≡ map of cells
always-there a of top [] e = refl
always-there a of top (c ∷ cells) e =
    ap (λ t. map (λ (x : Edge). of x.1) (cond t ((top, c) ∷ filter (λ (x : Edge). lit_value x.0 a) (map (λ c. (top, c)) cells)) (filter (λ (x : Edge). lit_value x.0 a) (map (λ c. (top, c)) cells)))) e
    ∙ ap (λ (l : List Value). of c ∷ l) (always-there a of top cells e)

pub always-lead : (ks : List CellKind) (s : Sort) (top : Lit) (cells : List CellId) → All (OfSort ks s) cells → LeadTo ks s (map (λ c. (top, c)) cells)
always-lead ks s top cells h = All-map (λ (e : Edge). OfSort ks s e.1) (λ c. (top, c)) cells h

module _ (old mid new : Build) (id : CellId) (es out : List Edge) (cells : List CellId) (top : Lit) (grows : Grows mid new)
    (forced : (a : List Bool) → Satisfies a mid.formula → lit_value top a ≡ true) (h : SubsetCells old mid es (length es) cells)
    (always : out ≡ map (λ c. (top, c)) cells) (adds : Adds mid new (Set out) id) (decodes : Decodes new id (λ a. value.Set (set_of (present a (decode mid.arena a) out)))) where
  subset-values : (a : List Bool) → Satisfies a new.formula → decode new.arena a id ≡ value.Set (set_of (map (decode mid.arena a) cells))
  subset-values a s = decodes.value a s ∙ ap (λ (l : List Edge). value.Set (set_of (present a (decode mid.arena a) l))) always
      ∙ ap (λ (l : List Value). value.Set (set_of l)) (always-there a (decode mid.arena a) top cells (forced a (Satisfies-before mid new a grows s)))

  items-are : (a : List Bool) → set_of (present a (decode old.arena a) (take (length es) es)) ≡ set_of (present a (decode old.arena a) es)
  items-are a = ap (λ (l : List Edge). set_of (present a (decode old.arena a) l)) (take_all (length es) es (omega arith))

  powerset-here : (a : List Bool) → Satisfies a new.formula → IsSetOfSubsets (value.Set (set_of (map (decode mid.arena a) cells))) (set_of (present a (decode old.arena a) es))
  powerset-here a s =
      let of : CellId → Value = decode mid.arena a in
      let s0 : Satisfies a mid.formula = Satisfies-before mid new a grows s in
      let P : List Value = present a (decode old.arena a) (take (length es) es) in
      record {
        each = λ w e.
            let found = Any-from_list_any (same_value w) (map of cells) (sym (member-set_of w (map of cells)) ∙ ap (member w) (sym (elements-set (set_of (map of cells)))) ∙ e) in
            let k : ℕ = found.0 in
            let d : CellId = record { index = 0 } in
            let short : k < length cells = omega (arith, length-map cells of) in
            let p = h.each a s0 k d short in
            let here : w ≡ of (get_or cells k d) = same_equal w found.1 found.4 ∙ sym found.3 ∙ get_or_default (map of cells) k found.1 (of d) found.2 ∙ get_or-map of cells k d in (
              λ u. member u p.some,
              here ∙ p.is ∙ ap (λ (l : List Value). value.Set l) (some-filter p.some P p.within ∙ ap (filter (λ u. member u p.some)) (items-are a)),
            );
        all = λ test.
            let p = h.all a s0 test in
            let d : CellId = record { index = 0 } in
            let target : Value = value.Set (filter test (set_of (present a (decode old.arena a) es))) in
            let e : get_or (map of cells) p.index (of d) ≡ target =
            get_or-map of cells p.index d ∙ p.is d ∙ ap (λ (l : List Value). value.Set l) (filter-set_of test P ∙ ap (filter test) (items-are a)) in
            let short : p.index < length (map of cells) = (let m = p.within in omega (arith, length-map cells of)) in
            ap (member target) (elements-set (set_of (map of cells))) ∙ member-set_of target (map of cells)
            ∙ list_any_at (same_value target) (map of cells) p.index (of d) short (ap (same_value target) e ∙ same_itself target);
      }

  pub powerset-of : PowersetOf old new es id
  powerset-of = record {
    value = record {
      there = decodes.there;
      value = λ a s.
          let items : List Value = present a (decode old.arena a) es in
          subset-values a s ∙ subsets-are (map (decode mid.arena a) cells) (set_of items) (set_of_rising items) (powerset-here a s);
    };
    sort = λ s g. sort-set mid new out (set_sort s) id adds grows (rw always (always-lead mid.arena.kinds (set_sort s) top cells (h.sorts s g)));
  }

-- with one edge for alike members
pub powerset : (old mid new : Build) (set id : CellId) (es fs : List Edge) → mid.arena ≡ old.arena → Grows mid new → JoinsAll old.arena mid.formula es es fs → PowersetOf mid new fs id
    → ((a : List Bool) → decode old.arena a set ≡ kind_value old.arena.texts a (decode old.arena a) (Set es)) → ((s : Sort) → OfSort old.arena.kinds (set_sort s) set → LeadTo old.arena.kinds s es)
    → IsPowerset old new set id
powerset old mid new set id es fs same grows joins p is sorts = record {
  value = Decodes-same new id _ _ p.value
      (λ a s.
      ap (λ (c : Cells). all_subsets (set_of (present a (decode c a) fs))) same
      ∙ ap all_subsets (joined-set old.arena mid.formula a es fs joins (Satisfies-before mid new a grows s) ∙ sym (elements-cell old.arena a set es (is a))));
  sort = λ s h. p.sort s (subst (λ (c : Cells). LeadTo c.kinds s fs) (sym same) (joins.sorts s (sorts s h)));
}

-- ---- what the calls ask for

pub always-named : (n : ℕ) (top : Lit) (cells : List CellId) → top.var < n → AreNamed n (map (λ c. (top, c)) cells)
always-named n top cells lt = All-map (λ (e : Edge). IsBelow n e.0) (λ c. (top, c)) cells (λ i d short. lt)

pub one-set : (b c : Build) (cells : List CellId) (i : ℕ) (d : CellId) (e : Edge) → SetsAndEdge b cells e → i < length cells → Grows b c → SetsAndEdge c (get_or cells i d ∷ []) e
one-set b c cells i d e h lt g =
    let P : CellId → Type 0 = OfSort c.arena.kinds (set_sort h.sort) in
    record {
      sort = h.sort;
      sets = All-cons P (get_or cells i d) [] (OfSort-later b c (set_sort h.sort) (get_or cells i d) (h.sets i d lt) g) (All-nil P);
      cell = OfSort-later b c h.sort e.1 h.cell g;
      below = let v = g.formula.vars in let l = h.below in omega arith;
    }

pub sets-and-edge : (b c : Build) (es : List Edge) (i : ℕ) (d : Edge) (cells : List CellId) → EdgesOfSort b es → i < length es → Grows b c → SubsetCells b c es i cells → SetsAndEdge c cells (get_or es i d)
sets-and-edge b c es i d cells h lt g s =
    let r = h.edges in
    let below = r.named i d lt in
    record {
      sort = r.sort;
      sets = s.sorts r.sort r.cells;
      cell = OfSort-later b c r.sort (get_or es i d).1 (r.cells i d lt) g;
      below = let v = g.formula.vars in omega arith;
    }

-- the edges of a set, with one more
pub edges-and-edge : (b : Build) (cell : CellId) (e : Edge) (k : CellKind) (es out : List Edge) → SetsAndEdge b (cell ∷ []) e → k ≡ kind_at b.arena.kinds cell → k ≡ Set es → out ≡ es ++ e ∷ []
    → All (λ x. x.1.index < length b.arena.kinds) out
edges-and-edge b cell e k es out h same is pushed =
    let cells = edges-sort b.arena.kinds h.sort cell es (All-head (OfSort b.arena.kinds (set_sort h.sort)) cell [] h.sets) (sym same ∙ is) in
    rw pushed (lead-there b.arena.kinds h.sort (es ++ e ∷ []) (All-push (λ (x : Edge). OfSort b.arena.kinds h.sort x.1) es e cells h.cell))
