-- The first of the nodes that wait, by an order of all nodes.
use Rattle.std.proofs.Common.{◌≡◌, ℕ, ◌+◌, ◌<◌, ◌≤◌, inl, inr, ◌⊎◌, Bool, true, false, List, [], ◌∷◌, ◌++◌, length, Ordering, refl, ap, sym, ◌∙◌, subst, arith}
use Rattle.std.specs.Prelude.{get_or, set}
use Rattle.std.specs.Cmp.{IsStrictWeakOrder, IsTotalOrder}
use Rattle.std.specs.Cmp.Lexicographic.{nat_list_cmp_total}
use Rattle.std.specs.List.{Contains}
use Rattle.std.specs.List.Sorted.{IsPermutation, IsSortedBy}
use Rattle.std.specs.Ordering.{is_lt, nat_cmp, ordering_reverse, ordering_then}
use Rattle.std.specs.declared.cmp.Ordering.TheVariants.{Less, Equal, Greater}
use Rattle.std.proofs.lemmas.Bool.{cases_lt, lt-ltb}
use Rattle.std.proofs.lemmas.Cmp.{nat_cmp_total, on_total, then_total}
use Rattle.std.proofs.lemmas.List.{get_or_read}
use Rattle.std.proofs.lemmas.List.Elements.{All-push, AllWithin-more, AllWithin-none, Contains-append_left, Contains-push}
use Rattle.std.proofs.lemmas.List.Sorted.{All-permutation, Contains-permutation, ranks_by, sorted_far}
use Rattle.tla_meaning.specs.Outcomes.{before, place_cmp, place_parts}
use Rattle.snowcat_types.specs.declared.ordering.Turn.{Turn}
use Rattle.snowcat_types.specs.declared.waiting.Wait.{Wait}
use Rattle.snowcat_types.specs.Waiting.{place_of}
use Rattle.snowcat_types.specs.inner.Awaited.{AreOrdered, ArePassed, AreTurns, At, IsLeast, IsTheirs, IsTurn, Stands, sooner, turn_of}
use Rattle.snowcat_types.proofs.Leaving.{at_below, at_same, stands_at, stands_marked, unmarked_off}

-- ---- the order

abbrev whole : Ordering → Ordering → Ordering → Ordering → Ordering
whole a b c n = ordering_then a (ordering_then b (ordering_then c n))

abbrev parts : Ordering → Ordering → Ordering → Ordering
parts a b c = ordering_then a (ordering_then b (ordering_then c Equal))

abbrev turn_cmp : Turn → Turn → Ordering
turn_cmp t u = whole (nat_cmp t.file u.file) (nat_cmp t.line u.line) (nat_cmp t.col u.col) (nat_cmp t.node u.node)

turns_total : IsTotalOrder turn_cmp
turns_total = then_total (on_total (λ t. t.file) nat_cmp_total)
    (then_total (on_total (λ t. t.line) nat_cmp_total) (then_total (on_total (λ t. t.col) nat_cmp_total) (on_total (λ t. t.node) nat_cmp_total)))

order : IsStrictWeakOrder sooner
order = ranks_by turns_total (λ t. t)

-- not sooner: it has no lesser place
not_before : (a b c n : Ordering) → is_lt (whole a b c n) ≡ false → is_lt (parts a b c) ≡ false
not_before Less b c n h = absurd (cc)
not_before Greater b c n h = refl
not_before Equal Less c n h = absurd (cc)
not_before Equal Greater c n h = refl
not_before Equal Equal Less n h = absurd (cc)
not_before Equal Equal Greater n h = refl
not_before Equal Equal Equal n h = refl

-- and where its number is less, it has a greater one
greater : (a b c n : Ordering) → n ≡ Less → is_lt (whole a b c n) ≡ false → parts a b c ≡ Greater
greater Less b c n e h = absurd (cc)
greater Greater b c n e h = refl
greater Equal Less c n e h = absurd (cc)
greater Equal Greater c n e h = refl
greater Equal Equal Less n e h = absurd (cc)
greater Equal Equal Greater n e h = refl
greater Equal Equal Equal n e h = absurd (let k : is_lt n ≡ true = ap is_lt e in cc)

lesser_number : (j i : ℕ) → j < i → nat_cmp j i ≡ Less
lesser_number j i lt = rw (lt-ltb j i lt) refl

not_sooner : (i j : ℕ) (u w : Wait) → sooner (turn_of j u) (turn_of i w) ≡ false → before (place_of u) (place_of w) ≡ false
not_sooner i j u w h = not_before (nat_cmp (place_of u).file (place_of w).file) (nat_cmp (place_of u).line (place_of w).line)
    (nat_cmp (place_of u).col (place_of w).col) (nat_cmp j i) h

earlier_later : (i j : ℕ) (u w : Wait) → j < i → sooner (turn_of j u) (turn_of i w) ≡ false → before (place_of w) (place_of u) ≡ true
earlier_later i j u w lt h =
    let g : place_cmp (place_of u) (place_of w) ≡ Greater = greater (nat_cmp (place_of u).file (place_of w).file)
    (nat_cmp (place_of u).line (place_of w).line) (nat_cmp (place_of u).col (place_of w).col) (nat_cmp j i) (lesser_number j i lt) h in
    let e : place_cmp (place_of w) (place_of u) ≡ ordering_reverse (place_cmp (place_of u) (place_of w)) =
    nat_list_cmp_total.antisymm (place_parts (place_of w)) (place_parts (place_of u)) in
    ap is_lt (e ∙ ap ordering_reverse g)

-- ---- turns

pub turns_none : (ws : List Wait) → AreTurns ws 0 []
turns_none ws = record { all = λ i w lt h. absurd (omega (arith, lt)); each = λ k d lt. absurd (omega (arith, lt)) }

pub turns_more : (ws : List Wait) (i : ℕ) (ts us : List Turn) (w : Wait) → AreTurns ws i ts → At ws i w → us ≡ ts ++ turn_of i w ∷ [] → AreTurns ws (i + 1) us
turns_more ws i ts us w a at e = let P : List Turn → Type 0 = λ z. AreTurns ws (i + 1) z in subst P (sym e) (record {
  all = λ j u lt h. one j u lt h (cases_lt j i);
  each = All-push (IsTurn ws) ts (turn_of i w) a.each (record { wait = w; at = at; is = refl });
})
  where
    one : (j : ℕ) (u : Wait) → j < i + 1 → At ws j u → (j < i) ⊎ (i ≤ j) → Contains (ts ++ turn_of i w ∷ []) (turn_of j u)
    one j u lt h (inl l) = Contains-append_left ts (turn_of i w ∷ []) (turn_of j u) (a.all j u l h)
    one j u lt h (inr le) =
        let k : i ≡ j = omega (arith, lt, le) in
        let P : ℕ → Type 0 = λ z. At ws z u → Contains (ts ++ turn_of i w ∷ []) (turn_of z u) in
        let Q : Wait → Type 0 = λ z. Contains (ts ++ turn_of i w ∷ []) (turn_of i z) in
        subst P k (λ g. subst Q (at_same ws i w u at g) (Contains-push ts (turn_of i w))) h

pub turns_sorted : (ws : List Wait) (n : ℕ) (ts us : List Turn) → n ≡ length ws → AreTurns ws n ts → IsPermutation ts us → IsSortedBy sooner us → AreOrdered ws us
turns_sorted ws n ts us e a p s = record {
  turns =
      let P : ℕ → Type 0 = λ z. AreTurns ws z us in
      subst P e (record {
        all = λ i w lt h. Contains-permutation ts us (turn_of i w) p (a.all i w lt h);
        each = All-permutation (IsTurn ws) ts us p a.each;
      });
  sorted = s;
}

-- ---- those that are passed

pub passed_none : (ms : List Bool) (ts : List Turn) → ArePassed ms ts 0
passed_none ms ts = record { unmarked = AllWithin-none (λ t. get_or ms t.node false ≡ false) ts 0 }

pub passed_more : (ms : List Bool) (ts : List Turn) (p : ℕ) (t : Turn) → p < length ts → t ≡ get_or ts p t → get_or ms t.node false ≡ false → ArePassed ms ts p → ArePassed ms ts (p + 1)
passed_more ms ts p t lt is e a = record {
  unmarked = AllWithin-more (λ u. get_or ms u.node false ≡ false) ts 0 p a.unmarked
      (λ d. let P : Turn → Type 0 = λ z. get_or ms z.node false ≡ false in subst P (get_or_read ts p t lt is d) e);
}

pub passed_off : (ms ns : List Bool) (ts : List Turn) (p i : ℕ) → ns ≡ set ms i false → ArePassed ms ts p → ArePassed ns ts p
passed_off ms ns ts p i e a = let P : List Bool → Type 0 = λ z. ArePassed z ts p in
    subst P (sym e) (record { unmarked = λ k d lo hi. unmarked_off ms i (get_or ts k d).node (a.unmarked k d lo hi) })

module _ (ms : List Bool) (ws : List Wait) (ts : List Turn) (p : ℕ) (o : AreOrdered ws ts) (a : ArePassed ms ts p) where
  -- a node that waits stands at the cursor or behind it
  not_passed : (j : ℕ) (u : Wait) (s : Stands ms ws j u) (c : Contains ts (turn_of j u)) → p ≤ c.0
  not_passed j u s c = elim (cases_lt c.0 p) [
    | inl lt ↦ absurd (let e : get_or ms (get_or ts c.0 (turn_of j u)).node false ≡ false = a.unmarked c.0 (turn_of j u) (omega arith) lt in
        let f : get_or ms j false ≡ false = sym (ap (λ z. get_or ms z.node false) c.2) ∙ e in
        let g : get_or ms j false ≡ true = stands_marked ms ws j u s in cc)
    | inr le ↦ le
  ]

  its_turn : (j : ℕ) (u : Wait) → Stands ms ws j u → Contains ts (turn_of j u)
  its_turn j u s = let h = stands_at ms ws j u s in o.turns.all j u (at_below ws j u h) h

  pub none_waits : length ts ≤ p → (j : ℕ) (u : Wait) → Stands ms ws j u → ⊥
  none_waits e j u s =
      let c = its_turn j u s in
      let le : p ≤ c.0 = not_passed j u s c in let lt : c.0 < length ts = c.1 in absurd (omega (arith, e, le, lt))

  module _ (i : ℕ) (w : Wait) (here : Stands ms ws i w) (t : IsTheirs ms ts p i) where
    turn_is : t.turn ≡ turn_of i w
    turn_is =
        let d : Turn = t.turn in
        let P : Turn → Type 0 = IsTurn ws in
        let one : IsTurn ws t.turn = subst P (sym t.at) (o.turns.each p t.turn t.below) in
        let Q : ℕ → Type 0 = λ z. At ws z one.wait in
        let same : one.wait ≡ w = at_same ws i one.wait w (subst Q t.node one.at) (stands_at ms ws i w here) in
        one.is ∙ (λ k. turn_of (t.node k) (same k))

    not_less : (j : ℕ) (u : Wait) → Stands ms ws j u → sooner (turn_of j u) (turn_of i w) ≡ false
    not_less j u s =
        let c = its_turn j u s in
        let far : sooner (get_or ts c.0 (turn_of j u)) (get_or ts p (turn_of j u)) ≡ false =
        sorted_far sooner order ts o.sorted p c.0 (turn_of j u) (not_passed j u s c) c.1 in
        let e : get_or ts p (turn_of j u) ≡ turn_of i w = sym (get_or_read ts p t.turn t.below t.at (turn_of j u)) ∙ turn_is in
        sym (λ k. sooner (c.2 k) (e k)) ∙ far

    pub least : IsLeast ms ws i w
    least = record {
      before_earlier = λ j u s lt. earlier_later i j u w lt (not_less j u s);
      not_behind = λ j u s lt. not_sooner i j u w (not_less j u s);
    }
