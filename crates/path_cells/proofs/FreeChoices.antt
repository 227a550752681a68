-- Free choices of members of several sets, one after the other.
use Rattle.std.proofs.Common.{◌≡◌, ℕ, ◌+◌, ◌<◌, Bool, true, false, ◌&&◌, List, [], ◌∷◌, ◌++◌, map, length, length-append, refl, sym, ◌∙◌, ap, ap₂, subst, arith}
use Rattle.std.proofs.lemmas.List.{append-nil}
use Rattle.std.proofs.lemmas.List.Elements.{All-append, All-cons, All-nil, All-weaker}
use Rattle.sat_formula.specs.declared.lit.Lit.{Lit}
use Rattle.sat_formula.specs.Formula.{Satisfies}
use Rattle.sat_formula.specs.Lit.{IsBelow, lit_value}
use Rattle.tla_values.specs.Sets.{elements}
use Rattle.tla_values.specs.declared.value.Value.{Value}
use Rattle.tla_values.specs.declared.value.Value.TheVariants as value
use Rattle.cell_arena.specs.declared.build.Build.{Build}
use Rattle.cell_arena.specs.declared.kinds.CellId.{CellId}
use Rattle.cell_arena.specs.declared.kinds.CellKind.TheVariants as kind
use Rattle.cell_arena.specs.Cells.{kind_at}
use Rattle.cell_arena.specs.Decode.{decode, kind_value}
use Rattle.cell_arena.specs.Growth.{Grows}
use Rattle.cell_arena.proofs.Decoding.{decode-kind}
use Rattle.cell_arena.proofs.Growing.{Satisfies-before}
use Rattle.cell_merge.specs.Picks.{IsSetCell, PicksFrom}
use Rattle.cell_merge.specs.Sorts.{OfSort, Sort, set_of}
use Rattle.cell_merge.proofs.Edges.{sort-there}
use Rattle.cell_merge.proofs.SortLaws.{OfSort-later}
use Rattle.kernel_trees.specs.Picks.{AreIn, IsOneOf}
use Rattle.typed_cells.specs.KindSorts.{OfSorts}
use Rattle.path_walks.specs.inner.Walks.{all_true}
use Rattle.path_walks.proofs.Onward.{all_onward, decode_onward, go_further, onward_longer, onward_same}
use Rattle.path_cells.specs.inner.Steps.{HasNoChoice, PicksEach}
use Rattle.path_cells.proofs.Shown.{member_one, one_member, true_false}

abbrev members_of : Build → List Bool → List CellId → List (List Value)
members_of b a xs = map (λ x. elements (decode b.arena a x)) xs

-- ---- no set

pub picks_none : (b : Build) → PicksEach b b [] [] []
picks_none b = record {
  below = All-nil (IsBelow b.formula.vars);
  there = All-nil (λ (id : CellId). id.index < length b.arena.kinds);
  count = refl;
  sorts = λ ss o. no_sorts ss o;
  sound = λ a p on. tt;
  each = λ a n p vs h.
      let e : a ++ [] ≡ a = append-nil a in
      record {
        more = [];
        long = subst (λ (l : List Bool). length l ≡ b.formula.vars) (sym e) n;
        satisfies = subst (λ l. Satisfies l b.formula) (sym e) p;
        holds = (refl, no_values vs h);
      };
}
  where
    no_values : (vs : List Value) → AreIn vs [] → [] ≡ vs
    no_values [] h = refl
    no_values (v ∷ vs) h = absurd h

    no_sorts : (ss : List Sort) → OfSorts b.arena.kinds (map set_of ss) [] → OfSorts b.arena.kinds ss []
    no_sorts [] o = tt
    no_sorts (s ∷ ss) o = absurd o

-- ---- one set more

all_more : (ls : List Lit) (l : Lit) (a : List Bool) → all_true (ls ++ l ∷ []) a ≡ (all_true ls a && lit_value l a)
all_more [] l a = by (lit_value l a)
  where
    by : (p : Bool) → (p && true) ≡ p
    by true = refl
    by false = refl
all_more (k ∷ ls) l a = ap (λ b. lit_value k a && b) (all_more ls l a) ∙ assoc (lit_value k a) (all_true ls a) (lit_value l a)
  where
    assoc : (p q r : Bool) → (p && (q && r)) ≡ ((p && q) && r)
    assoc true q r = refl
    assoc false q r = refl

map_more : {X Y : Type 0} (f : X → Y) (xs : List X) (x : X) → map f (xs ++ x ∷ []) ≡ map f xs ++ f x ∷ []
map_more f [] x = refl
map_more f (y ∷ ys) x = ap (λ l. f y ∷ l) (map_more f ys x)

are_more : (vs : List Value) (ms : List (List Value)) (v : Value) (m : List Value) → AreIn vs ms → IsOneOf v m → AreIn (vs ++ v ∷ []) (ms ++ m ∷ [])
are_more [] [] v m h k = (k, tt)
are_more [] (n ∷ ms) v m h k = absurd h
are_more (u ∷ vs) [] v m h k = absurd h
are_more (u ∷ vs) (n ∷ ms) v m h k = (h.0, are_more vs ms v m h.1 k)

pub record Last (us : List Value) (ms : List (List Value)) (m : List Value) : Type 0 where
  pub front : List Value
  pub own : Value
  pub is : us ≡ front ++ own ∷ []
  pub before : AreIn front ms
  pub here : IsOneOf own m

are_last : (us : List Value) (ms : List (List Value)) (m : List Value) → AreIn us (ms ++ m ∷ []) → Last us ms m
are_last [] [] m h = absurd h
are_last [] (n ∷ ms) m h = absurd h
are_last (u ∷ []) [] m h = record { front = []; own = u; is = refl; before = tt; here = h.0 }
are_last (u ∷ x ∷ us) [] m h = absurd h.1
are_last (u ∷ us) (n ∷ ms) m h =
    let r = are_last us ms m h.1 in
    record { front = u ∷ r.front; own = r.own; is = ap (λ l. u ∷ l) r.is; before = (h.0, r.before); here = r.here }

and_parts : (p q : Bool) → (p && q) ≡ true → (p ≡ true) × (q ≡ true)
and_parts true true e = (refl, refl)
and_parts true false e = absurd (true_false (sym e))
and_parts false q e = absurd (true_false (sym e))

module _ (b0 b d : Build) (xs : List CellId) (x : CellId) (ids : List CellId) (ls : List Lit) (r : CellId × Lit) (P : PicksEach b0 b xs ids ls)
    (gb : Grows b0 b) (gr : Grows b d) (set : IsSetCell b0 x) (R : PicksFrom b d x r) where
  set_there : x.index < length b0.arena.kinds
  set_there = sort-there b0.arena.kinds (set_of set.sort) x set.is

  set_same : (a : List Bool) → elements (decode b.arena a x) ≡ elements (decode b0.arena a x)
  set_same a = ap elements ((onward_same b0 b a gb).decodes x set_there)

  cell_there : r.0.index < length d.arena.kinds
  cell_there = sort-there d.arena.kinds set.sort r.0 (R.sort set.sort (OfSort-later b0 b (set_of set.sort) x set.is gb))

  more_sorts : (ss : List Sort) (ys : List CellId) (is : List CellId) →
      ((ts : List Sort) → OfSorts b0.arena.kinds (map set_of ts) ys → OfSorts b.arena.kinds ts is) →
      OfSorts b0.arena.kinds (map set_of ss) (ys ++ x ∷ []) → length is ≡ length ys → OfSorts d.arena.kinds ss (is ++ r.0 ∷ [])
  more_sorts [] [] is f o n = absurd o
  more_sorts [] (y ∷ ys) is f o n = absurd o
  more_sorts (s ∷ []) [] [] f o n = (R.sort s (OfSort-later b0 b (set_of s) x o.0 gb), tt)
  more_sorts (s ∷ u ∷ ss) [] is f o n = absurd o.1
  more_sorts (s ∷ ss) [] (i ∷ is) f o n = absurd (omega arith)
  more_sorts (s ∷ ss) (y ∷ ys) [] f o n = absurd (omega arith)
  more_sorts (s ∷ ss) (y ∷ ys) (i ∷ is) f o n =
      (OfSort-later b d s i (first o.1) gr, more_sorts ss ys is (λ ts q. (f (s ∷ ts) (o.0, q)).1) o.1 (omega arith))
    where
      front_sorts : (ts : List Sort) (zs : List CellId) → OfSorts b0.arena.kinds (map set_of ts) (zs ++ x ∷ []) → (us : List Sort) × OfSorts b0.arena.kinds (map set_of us) zs
      front_sorts [] [] o = absurd o
      front_sorts [] (z ∷ zs) o = absurd o
      front_sorts (t ∷ ts) [] o = ([], tt)
      front_sorts (t ∷ ts) (z ∷ zs) o = let q = front_sorts ts zs o.1 in (t ∷ q.0, (o.0, q.1))

      first : OfSorts b0.arena.kinds (map set_of ss) (ys ++ x ∷ []) → OfSort b.arena.kinds s i
      first q = let u = front_sorts ss ys q in (f (s ∷ u.0) (o.0, u.1)).0

  pub picks_more : PicksEach b0 d (xs ++ x ∷ []) (ids ++ r.0 ∷ []) (ls ++ r.1 ∷ [])
  picks_more = record {
    below = All-append (IsBelow d.formula.vars) ls (r.1 ∷ [])
        (All-weaker (IsBelow b.formula.vars) (IsBelow d.formula.vars) (λ l lt. let v = gr.formula.vars in omega arith) ls P.below)
        (All-cons (IsBelow d.formula.vars) r.1 [] R.below (All-nil (IsBelow d.formula.vars)));
    there = All-append (λ (id : CellId). id.index < length d.arena.kinds) ids (r.0 ∷ [])
        (All-weaker (λ (id : CellId). id.index < length b.arena.kinds) (λ (id : CellId). id.index < length d.arena.kinds)
        (λ id lt. let v = gr.longer in omega arith) ids P.there)
        (All-cons (λ (id : CellId). id.index < length d.arena.kinds) r.0 [] cell_there (All-nil (λ (id : CellId). id.index < length d.arena.kinds)));
    count = length-append ids (r.0 ∷ []) ∙ ap (λ (n : ℕ). n + 1) P.count ∙ sym (length-append xs (x ∷ []));
    sorts = λ ss o. more_sorts ss xs ids P.sorts o P.count;
    sound = λ a p on.
        let e = and_parts (all_true ls a) (lit_value r.1 a) (sym (all_more ls r.1 a) ∙ on) in
        let first = P.sound a (Satisfies-before b d a gr p) e.0 in
        let last = member_one (decode d.arena a r.0) (elements (decode b.arena a x)) (R.sound a p e.1) in
        subst (λ us. AreIn us (members_of b0 a (xs ++ x ∷ []))) (sym (map_more (decode d.arena a) ids r.0))
        (subst (AreIn (map (decode d.arena a) ids ++ decode d.arena a r.0 ∷ [])) (sym (map_more (λ y. elements (decode b0.arena a y)) xs x))
        (are_more (map (decode d.arena a) ids) (members_of b0 a xs) (decode d.arena a r.0) (elements (decode b0.arena a x))
        (subst (λ us. AreIn us (members_of b0 a xs)) (sym (decode_onward b a d a (onward_same b d a gr) ids P.there)) first)
        (subst (IsOneOf (decode d.arena a r.0)) (set_same a) last)));
    each = λ a n p vs h.
        let l = are_last vs (members_of b0 a xs) (elements (decode b0.arena a x))
        (subst (AreIn vs) (map_more (λ y. elements (decode b0.arena a y)) xs x) h) in
        let u = P.each a n p l.front l.before in
        let c = a ++ u.more in
        let same : elements (decode b.arena c x) ≡ elements (decode b0.arena a x) =
        ap elements ((onward_longer b0 b a u.more gb n).decodes x set_there) in
        let q = R.complete c u.long u.satisfies l.own (one_member l.own (elements (decode b.arena c x)) (subst (IsOneOf l.own) (sym same) l.here)) in
        let e = c ++ q.more in
        let o = onward_longer b d c q.more gr u.long in
        go_further b.formula d.formula a (λ c. (all_true ls c ≡ true) × (map (decode b.arena c) ids ≡ l.front))
        (λ c. (all_true (ls ++ r.1 ∷ []) c ≡ true) × (map (decode d.arena c) (ids ++ r.0 ∷ []) ≡ vs)) u
        (record {
          more = q.more;
          long = q.long;
          satisfies = q.satisfies;
          holds = (
            all_more ls r.1 e ∙ ap₂ (λ (p q : Bool). p && q) (all_onward b c d e o ls P.below ∙ u.holds.0) q.literal,
            map_more (decode d.arena e) ids r.0
                ∙ ap₂ (λ (us : List Value) (v : Value). us ++ v ∷ []) (decode_onward b c d e o ids P.there ∙ u.holds.1) q.decodes
                ∙ sym l.is,
          );
        });
  }

-- ---- an empty set

no_elements : (b : Build) (a : List Bool) (x : CellId) → x.index < length b.arena.kinds → kind_at b.arena.kinds x ≡ kind.Set [] →
    elements (decode b.arena a x) ≡ []
unfolding elements
no_elements b a x lt e =
    ap elements (decode-kind b.arena a x b.built lt ∙ ap (kind_value b.arena.texts a (decode b.arena a)) e) ∙ elements_set
  where
    elements_set : elements (value.Set []) ≡ []
    elements_set = simp (value.outs-Set)

none_in : (vs : List Value) (front : List (List Value)) (back : List (List Value)) → AreIn vs (front ++ [] ∷ back) → ⊥
none_in [] [] back h = h
none_in (v ∷ vs) [] back h = h.0
none_in [] (m ∷ ms) back h = h
none_in (v ∷ vs) (m ∷ ms) back h = none_in vs ms back h.1

map_append : {X Y : Type 0} (f : X → Y) (xs ys : List X) → map f (xs ++ ys) ≡ map f xs ++ map f ys
map_append f [] ys = refl
map_append f (x ∷ xs) ys = ap (λ l. f x ∷ l) (map_append f xs ys)

pub no_choice_at : (b0 b : Build) (front : List CellId) (x : CellId) (back : List CellId) → Grows b0 b → IsSetCell b0 x →
    kind_at b.arena.kinds x ≡ kind.Set [] → HasNoChoice b0 (front ++ x ∷ back)
no_choice_at b0 b front x back gb set e = λ a vs h.
    let lt = sort-there b0.arena.kinds (set_of set.sort) x set.is in
    let lt' : x.index < length b.arena.kinds = (let v = gb.longer in omega arith) in
    let none : elements (decode b0.arena a x) ≡ [] =
    ap elements (sym ((onward_same b0 b a gb).decodes x lt)) ∙ no_elements b a x lt' e in
    none_in vs (members_of b0 a front) (members_of b0 a back)
    (subst (λ m. AreIn vs (members_of b0 a front ++ m ∷ members_of b0 a back)) none
    (subst (AreIn vs) (map_append (λ y. elements (decode b0.arena a y)) front (x ∷ back)) h))
