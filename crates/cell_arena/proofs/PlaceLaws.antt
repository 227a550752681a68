-- Where kinds stand in chains, with one kind more, and on the way along a chain.
use Rattle.std.proofs.Common.{◌≡◌, ◌≢◌, ◌∙◌, ◌⊎◌, ◌==◌, ◌+◌, ◌-◌, ◌%◌, ◌<◌, ◌≤◌, ℕ, zero, suc, Bool, true, false, cond, List, [], ◌∷◌, ◌++◌, map, length, take, set, get_or, refl, ap, sym, subst, inl, inr, arith, length-append, IsTrue, ◌↔◌}
use Rattle.std.proofs.lemmas.Bool.{cases_order, false≢true}
use Rattle.std.proofs.lemmas.Bool.Decides.{eqb_tells}
use Rattle.std.proofs.lemmas.List.{get_or_read, get_or-set_other, get_or-set_same, get_or-take, get_or_append_left, get_or-map, length-map, length-set, take-map, map-append, length-take-le, take-append-le}
use Rattle.std.proofs.Math.Seq.{get_or-append_seam, take-append_seam}
use Rattle.sat_formula.specs.declared.lit.Lit.{Lit}
use Rattle.cell_arena.specs.declared.chains.Chains.{Chains}
use Rattle.cell_arena.specs.declared.kinds.CellId.{CellId}
use Rattle.cell_arena.specs.declared.kinds.CellKind.{CellKind}
use Rattle.cell_arena.specs.declared.kinds.CellKind.TheVariants.{Bit}
use Rattle.cell_arena.specs.Cells.{kind_at}
use Rattle.cell_arena.specs.inner.Places.{AddsPlace, AreChains, IsIndex, IsNew, IsOfKind, chain_of, one_on, place_of}

-- ---- one number more

one_on_behind : (p : ℕ) (b c : Bool) (n : ℕ) → one_on (cond c (suc n) p) b ≡ cond c (suc (suc n)) (one_on p b)
one_on_behind p b true n = refl
one_on_behind p b false n = refl

place_more : (k : ℕ) (keys : List ℕ) (x : ℕ) → place_of k (keys ++ x ∷ []) ≡ cond (x == k) (suc (length keys)) (place_of k keys)
place_more k [] x = refl
place_more k (y ∷ ys) x = ap (λ p. one_on p (y == k)) (place_more k ys x) ∙ one_on_behind (place_of k ys) (y == k) (x == k) (length ys)

-- ---- where it stands

place_within : (k : ℕ) (keys : List ℕ) → place_of k keys ≤ length keys
place_within k [] = omega arith
place_within k (x ∷ xs) = step (place_of k xs) (x == k) (place_within k xs)
  where
    step : (p : ℕ) (b : Bool) → p ≤ length xs → one_on p b ≤ suc (length xs)
    step zero true h = omega arith
    step zero false h = omega arith
    step (suc p) b h = omega arith

same_number : (a b : ℕ) → (a == b) ≡ true → a ≡ b
same_number a b h = step (eqb_tells a b)
  where
    step : (((a == b) ≡ true) × (a ≡ b)) ⊎ (((a == b) ≡ false) × (a ≢ b)) → a ≡ b
    step (inl e) = e.1
    step (inr e) = absurd (false≢true (sym e.0 ∙ h))

place_has : (k : ℕ) (keys : List ℕ) (i : ℕ) → place_of k keys ≡ suc i → get_or keys i 0 ≡ k
place_has k [] i h = absurd (omega arith)
place_has k (x ∷ xs) i h = step (place_of k xs) (x == k) refl refl h (λ j e. place_has k xs j e)
  where
    step : (p : ℕ) (b : Bool) → place_of k xs ≡ p → (x == k) ≡ b → one_on p b ≡ suc i → ((j : ℕ) → place_of k xs ≡ suc j → get_or xs j 0 ≡ k) → get_or (x ∷ xs) i 0 ≡ k
    step zero true e f g h = let at : i ≡ 0 = omega arith in ap (λ j. get_or (x ∷ xs) j 0) at ∙ same_number x k f
    step zero false e f g h = absurd (omega arith)
    step (suc p) b e f g h = let at : i ≡ suc p = omega arith in ap (λ j. get_or (x ∷ xs) j 0) at ∙ h p e

same_is_true : (a b : ℕ) → a ≡ b → (a == b) ≡ true
same_is_true a b e = step (eqb_tells a b)
  where
    step : (((a == b) ≡ true) × (a ≡ b)) ⊎ (((a == b) ≡ false) × (a ≢ b)) → (a == b) ≡ true
    step (inl h) = h.0
    step (inr h) = absurd (h.1 e)

-- it stands nowhere from its last place on
place_last : (k : ℕ) (keys : List ℕ) (i : ℕ) → place_of k keys ≤ i → i < length keys → get_or keys i 0 ≡ k → ⊥
place_last k [] i le lt e = omega arith
place_last k (x ∷ xs) zero le lt e =
    step (place_of k xs) (omega arith)
  where
    step : (p : ℕ) → one_on p (x == k) ≤ 0 → ⊥
    step zero h = let one = ap (λ b. one_on 0 b) (same_is_true x k e) in omega arith
    step (suc p) h = omega arith
place_last k (x ∷ xs) (suc i) le lt e = place_last k xs i (step (place_of k xs) (x == k) le) (omega arith) e
  where
    step : (p : ℕ) (b : Bool) → one_on p b ≤ suc i → p ≤ i
    step zero b h = omega arith
    step (suc p) b h = omega arith

-- ---- chains with one kind more

numbers : (k j : ℕ) → ((k ≡ j) × ((j == k) ≡ true)) ⊎ ((k ≢ j) × ((j == k) ≡ false))
numbers k j = step (eqb_tells j k)
  where
    step : (((j == k) ≡ true) × (j ≡ k)) ⊎ (((j == k) ≡ false) × (j ≢ k)) → ((k ≡ j) × ((j == k) ≡ true)) ⊎ ((k ≢ j) × ((j == k) ≡ false))
    step (inl e) = inl (sym e.1, e.0)
    step (inr e) = inr (λ h. e.1 (sym h), e.0)

below_or_at : (i n m : ℕ) → m ≡ suc n → i < m → (i < n) ⊎ (i ≡ n)
below_or_at i n m e h = step (cases_order i n)
  where
    step : (i ≡ n) ⊎ ((i < n) ⊎ (n < i)) → (i < n) ⊎ (i ≡ n)
    step (inl same) = inr same
    step (inr (inl lt)) = inl lt
    step (inr (inr gt)) = absurd (omega arith)

module _ (keys heads links : List ℕ) (index : IsIndex keys heads links) (key : ℕ) (lt : key < length heads) where
  abbrev more : List ℕ
  more = keys ++ key ∷ []

  abbrev led : List ℕ
  led = links ++ get_or heads key 0 ∷ []

  head_more : (k : ℕ) → ((k ≡ key) × ((key == k) ≡ true)) ⊎ ((k ≢ key) × ((key == k) ≡ false)) → get_or (set heads key (suc (length keys))) k 0 ≡ place_of k more
  head_more k (inl s) =
      ap (λ j. get_or (set heads key (suc (length keys))) j 0) s.0 ∙ get_or-set_same heads key (suc (length keys)) 0 lt
      ∙ sym (place_more k keys key ∙ ap (λ b. cond b (suc (length keys)) (place_of k keys)) s.1)
  head_more k (inr s) =
      get_or-set_other heads key k (suc (length keys)) 0 s.0 ∙ index.heads_so k
      ∙ sym (place_more k keys key ∙ ap (λ b. cond b (suc (length keys)) (place_of k keys)) s.1)

  link_more : (i : ℕ) → (i < length keys) ⊎ (i ≡ length keys) → get_or led i 0 ≡ place_of (get_or more i 0) (take i more)
  link_more i (inl h) =
      get_or_append_left links (get_or heads key 0 ∷ []) 0 i (omega (arith, index.links_len)) ∙ index.links_so i h
      ∙ sym (ap (λ x. place_of x (take i more)) (get_or_append_left keys (key ∷ []) 0 i h) ∙ ap (place_of (get_or keys i 0)) (take-append-le i keys (key ∷ []) (omega arith)))
  link_more i (inr e) =
      ap (λ j. get_or led j 0) (e ∙ sym index.links_len) ∙ get_or-append_seam links (get_or heads key 0) [] 0 ∙ index.heads_so key
      ∙ sym (ap (λ j. place_of (get_or more j 0) (take j more)) e
      ∙ ap (λ x. place_of x (take (length keys) more)) (get_or-append_seam keys key [] 0) ∙ ap (place_of key) (take-append_seam keys (key ∷ [])))

  small_more : (i : ℕ) → (i < length keys) ⊎ (i ≡ length keys) → get_or more i 0 < length (set heads key (suc (length keys)))
  small_more i (inl h) = let size = length-set heads key (suc (length keys)) in omega (arith, get_or_append_left keys (key ∷ []) 0 i h, index.small i h)
  small_more i (inr e) =
      let size = length-set heads key (suc (length keys)) in
      let at : get_or more i 0 ≡ key = ap (λ j. get_or more j 0) e ∙ get_or-append_seam keys key [] 0 in
      omega arith

  index_more : IsIndex more (set heads key (suc (length keys))) led
  index_more =
      let size : length more ≡ suc (length keys) = omega (arith, length-append keys (key ∷ [])) in record {
        heads_so = λ k. head_more k (numbers k key);
        links_so = λ i h. link_more i (below_or_at i (length keys) (length more) size h);
        small = λ i h. small_more i (below_or_at i (length keys) (length more) size h);
        links_len = omega (arith, length-append keys (key ∷ []), length-append links (get_or heads key 0 ∷ []), index.links_len);
      }

pub chains_none : (c : Chains) → length c.heads.items ≡ 65536 → ((k : ℕ) → get_or c.heads.items k 0 ≡ 0) → c.links.items ≡ [] → AreChains [] c
chains_none c size zeros none = record {
  count = size;
  index = record { heads_so = λ k. zeros k; links_so = λ i h. absurd (omega arith); small = λ i h. absurd (omega arith); links_len = ap length none };
}

pub chains_more : (ks all : List CellKind) (k : CellKind) (old new : Chains) → AreChains ks old → chain_of k < 65536 → AddsPlace old new (chain_of k) → all ≡ ks ++ k ∷ [] → AreChains all new
chains_more ks all k old new are lt adds e =
    let keys = map chain_of ks in
    let place = chain_of k in
    let one = index_more keys old.heads.items old.links.items are.index place (omega (arith, are.count)) in
    let in_order : map chain_of all ≡ keys ++ place ∷ [] = ap (map chain_of) e ∙ map-append chain_of ks (k ∷ []) in
    let head : new.heads.items ≡ set old.heads.items place (suc (length keys)) = adds.heads ∙ ap (λ n. set old.heads.items place (suc n)) are.index.links_len in record {
      count = ap length adds.heads ∙ length-set old.heads.items place (suc (length old.links.items)) ∙ are.count;
      index =
          subst (λ b. IsIndex b new.heads.items new.links.items) (sym in_order)
          (subst (λ b. IsIndex (keys ++ place ∷ []) b new.links.items) (sym head)
          (subst (λ b. IsIndex (keys ++ place ∷ []) (set old.heads.items place (suc (length keys))) b) (sym adds.links) one));
    }

-- ---- along a chain

-- from a place of its chain on, back to the oldest: the kind stands nowhere from there on
pub record IsLeft (ks : List CellKind) (k : CellKind) (place : ℕ) : Type 0 where
  pub within : place ≤ length ks
  pub there : (i : ℕ) → place ≡ suc i → get_or (map chain_of ks) i 0 ≡ chain_of k
  pub none : (id : CellId) → place ≤ id.index → IsOfKind ks k id → ⊥

abbrev first : CellKind
first = Bit (record { var = 0; neg = false })

-- the chain of a cell
chain_at : (ks : List CellKind) (k : CellKind) (id : CellId) → IsOfKind ks k id → get_or (map chain_of ks) id.index 0 ≡ chain_of k
chain_at ks k id is = get_or-map chain_of ks id.index first 0 is.there ∙ ap chain_of is.is

pub left_begins : (ks : List CellKind) (k : CellKind) (c : Chains) (chain head : ℕ) → AreChains ks c → chain ≡ chain_of k → chain < 65536 → head ≡ get_or c.heads.items chain head → IsLeft ks k head
left_begins ks k c chain head are e lt is =
    let keys = map chain_of ks in
    let n : length keys ≡ length ks = length-map ks chain_of in
    let at : head ≡ place_of (chain_of k) keys =
    get_or_read c.heads.items chain head (omega (arith, are.count)) is 0 ∙ are.index.heads_so chain ∙ ap (λ x. place_of x keys) e in record {
      within = omega (arith, place_within (chain_of k) keys);
      there = λ i h. place_has (chain_of k) keys i (sym at ∙ h);
      none = λ id le here. let lt = here.there in place_last (chain_of k) keys id.index (omega arith) (omega arith) (chain_at ks k id here);
    }

-- on to the next older place, as the kind that stands here is another
pub left_goes : (ks : List CellKind) (k : CellKind) (c : Chains) (place index next : ℕ) → AreChains ks c → IsLeft ks k place → place ≡ suc index → next ≡ get_or c.links.items index next
    → (IsOfKind ks k (record { index = index }) → ⊥) → IsLeft ks k next × (next < place)
left_goes ks k c place index next are is up n miss =
    let keys = map chain_of ks in
    let size : length keys ≡ length ks = length-map ks chain_of in
    let lt : index < length keys = omega (arith, is.within) in
    let here : get_or keys index 0 ≡ chain_of k = is.there index up in
    let at : next ≡ place_of (chain_of k) (take index keys) =
    get_or_read c.links.items index next (omega (arith, are.index.links_len)) n 0 ∙ are.index.links_so index lt ∙ ap (λ x. place_of x (take index keys)) here in
    let front : length (take index keys) ≡ index = length-take-le index keys (omega arith) in
    let most : next ≤ index = omega (arith, place_within (chain_of k) (take index keys)) in (
      record {
        within = omega (arith, is.within);
        there = λ i h. sym (get_or-take index keys i 0 (omega arith)) ∙ place_has (chain_of k) (take index keys) i (sym at ∙ h);
        none = λ id le there. away id le there (cases_order id.index index);
      },
      omega arith,
    )
  where
    away : (id : CellId) → next ≤ id.index → IsOfKind ks k id → (id.index ≡ index) ⊎ ((id.index < index) ⊎ (index < id.index)) → ⊥
    away id le there (inl e) = miss (subst (λ i. IsOfKind ks k (record { index = i })) e there)
    away id le there (inr (inl b)) =
        let keys = map chain_of ks in
        let lt : index < length keys = omega (arith, is.within, length-map ks chain_of) in
        let front : length (take index keys) ≡ index = length-take-le index keys (omega arith) in
        let at : next ≡ place_of (chain_of k) (take index keys) =
        get_or_read c.links.items index next (omega (arith, are.index.links_len)) n 0 ∙ are.index.links_so index lt ∙ ap (λ x. place_of x (take index keys)) (is.there index up) in
        place_last (chain_of k) (take index keys) id.index (omega arith) (omega arith) (get_or-take index keys id.index 0 b ∙ chain_at ks k id there)
    away id le there (inr (inr b)) = is.none id (omega arith) there

-- the cell that stands here is another
pub other_kind : (ks : List CellKind) (k x : CellKind) (index : ℕ) (r : Bool) → x ≡ get_or ks index x → (IsTrue r ↔ (x ≡ k)) → r ≡ false → IsOfKind ks k (record { index = index }) → ⊥
other_kind ks k x index r is tells miss here = false≢true (sym miss ∙ tells.1 (get_or_read ks index x here.there is first ∙ here.is))
