-- Where keys stand in a list.
use Rattle.std.proofs.Common.{◌≡◌, ◌≢◌, ◌∙◌, ◌⊎◌, ◌==◌, ◌+◌, ◌-◌, ◌%◌, ◌<◌, ◌≤◌, ℕ, zero, suc, Bool, true, false, cond, List, [], ◌∷◌, ◌++◌, ◌||◌, map, filter, length, take, set, get_or, Option, Some, None, refl, ap, sym, subst, inl, inr, arith, length-append}
use Rattle.std.proofs.lemmas.Bool.{cases_order, false≢true}
use Rattle.std.proofs.lemmas.Bool.Decides.{eqb_tells}
use Rattle.std.proofs.lemmas.List.{get_or_read, get_or-set_other, get_or-set_same, get_or-take, get_or_append_left, get_or-map, length-map, length-set, take-map, map-append, length-take-le, take-append-le, take-take, take_all, take_more}
use Rattle.std.proofs.Math.Seq.{get_or-append_seam, take-append_seam}
use Rattle.std.proofs.lemmas.List.Folds.{list_any-append}
use Rattle.std.specs.List.{list_any}
use Rattle.std.specs.Prelude.{if◌then◌else◌}
use Rattle.tla_meaning.specs.declared.symbols.Entry.{Entry}
use Rattle.tla_meaning.specs.Scopes.{or_else, same_text}
use Rattle.tla_meaning.specs.Symbols.{entry_of}
use Rattle.flat_modules.proofs.Names.{same_is}
use Rattle.flat_modules.specs.inner.Places.{IsIndex, IsInBucket, buckets, key_of, keys_of, one_on, place_of}

-- ---- one key more

one_on_behind : (p : ℕ) (b c : Bool) (n : ℕ) → one_on (cond c (suc n) p) b ≡ cond c (suc (suc n)) (one_on p b)
one_on_behind p b true n = refl
one_on_behind p b false n = refl

pub place_more : (k : ℕ) (keys : List ℕ) (x : ℕ) → place_of k (keys ++ x ∷ []) ≡ cond (x == k) (suc (length keys)) (place_of k keys)
place_more k [] x = refl
place_more k (y ∷ ys) x = ap (λ p. one_on p (y == k)) (place_more k ys x) ∙ one_on_behind (place_of k ys) (y == k) (x == k) (length ys)

-- ---- where it stands

pub place_within : (k : ℕ) (keys : List ℕ) → place_of k keys ≤ length keys
place_within k [] = omega arith
place_within k (x ∷ xs) = step (place_of k xs) (x == k) (place_within k xs)
  where
    step : (p : ℕ) (b : Bool) → p ≤ length xs → one_on p b ≤ suc (length xs)
    step zero true h = omega arith
    step zero false h = omega arith
    step (suc p) b h = omega arith

same_number : (a b : ℕ) → (a == b) ≡ true → a ≡ b
same_number a b h = step (eqb_tells a b)
  where
    step : (((a == b) ≡ true) × (a ≡ b)) ⊎ (((a == b) ≡ false) × (a ≢ b)) → a ≡ b
    step (inl e) = e.1
    step (inr e) = absurd (false≢true (sym e.0 ∙ h))

other_number : (a b : ℕ) → (a == b) ≡ false → a ≡ b → ⊥
other_number a b h e = step (eqb_tells a b)
  where
    step : (((a == b) ≡ true) × (a ≡ b)) ⊎ (((a == b) ≡ false) × (a ≢ b)) → ⊥
    step (inl k) = false≢true (sym h ∙ k.0)
    step (inr k) = k.1 e

same_is_true : (a b : ℕ) → a ≡ b → (a == b) ≡ true
same_is_true a b e = step (eqb_tells a b)
  where
    step : (((a == b) ≡ true) × (a ≡ b)) ⊎ (((a == b) ≡ false) × (a ≢ b)) → (a == b) ≡ true
    step (inl h) = h.0
    step (inr h) = absurd (h.1 e)

other_is_false : (a b : ℕ) → a ≢ b → (a == b) ≡ false
other_is_false a b e = step (eqb_tells a b)
  where
    step : (((a == b) ≡ true) × (a ≡ b)) ⊎ (((a == b) ≡ false) × (a ≢ b)) → (a == b) ≡ false
    step (inl h) = absurd (e h.1)
    step (inr h) = h.0

pub place_has : (k : ℕ) (keys : List ℕ) (i : ℕ) → place_of k keys ≡ suc i → get_or keys i 0 ≡ k
place_has k [] i h = absurd (omega arith)
place_has k (x ∷ xs) i h = step (place_of k xs) (x == k) refl refl h (λ j e. place_has k xs j e)
  where
    step : (p : ℕ) (b : Bool) → place_of k xs ≡ p → (x == k) ≡ b → one_on p b ≡ suc i → ((j : ℕ) → place_of k xs ≡ suc j → get_or xs j 0 ≡ k) → get_or (x ∷ xs) i 0 ≡ k
    step zero true e f g h = let at : i ≡ 0 = omega arith in ap (λ j. get_or (x ∷ xs) j 0) at ∙ same_number x k f
    step zero false e f g h = absurd (omega arith)
    step (suc p) b e f g h = let at : i ≡ suc p = omega arith in ap (λ j. get_or (x ∷ xs) j 0) at ∙ h p e

-- ---- what is asked of those that have a key

not_so : (b : Bool) → (b ≡ true → ⊥) → b ≡ false
not_so true f = absurd (f refl)
not_so false f = refl

module _ {X A : Type 0} (key : X → ℕ) (k : ℕ) (f : List X → A) (g : X → A → A) where
  -- what those behind the last of its key make no difference to
  pub fold_at : ((x : X) (xs : List X) → f (x ∷ xs) ≡ g x (f xs)) → ((x : X) → (key x == k) ≡ false → g x (f []) ≡ f []) →
      (xs : List X) → f xs ≡ f (take (place_of k (map key xs)) xs)
  fold_at folds other [] = refl
  fold_at folds other (x ∷ xs) = step (place_of k (map key xs)) (key x == k) refl (fold_at folds other xs)
    where
      step : (p : ℕ) (b : Bool) → (key x == k) ≡ b → f xs ≡ f (take p xs) → f (x ∷ xs) ≡ f (take (one_on p b) (x ∷ xs))
      step zero true e h = folds x xs ∙ ap (g x) h ∙ sym (folds x [])
      step zero false e h = folds x xs ∙ ap (g x) h ∙ other x e
      step (suc p) b e h = folds x xs ∙ ap (g x) h ∙ sym (folds x (take (suc p) xs))

pub any_at : {X : Type 0} (key : X → ℕ) (k : ℕ) (t : X → Bool) → ((x : X) → t x ≡ true → key x ≡ k) → (xs : List X) →
    list_any t xs ≡ list_any t (take (place_of k (map key xs)) xs)
any_at key k t named = fold_at key k (list_any t) (λ x b. t x || b) (λ x xs. refl) (λ x e. ap (λ b. b || false) (not_so (t x) (λ s. other_number (key x) k e (named x s))))

pub filter_at : {X : Type 0} (key : X → ℕ) (k : ℕ) (t : X → Bool) → ((x : X) → t x ≡ true → key x ≡ k) → (xs : List X) →
    filter t xs ≡ filter t (take (place_of k (map key xs)) xs)
filter_at key k t named = fold_at key k (filter t) (λ x l. cond (t x) (x ∷ l) l) (λ x xs. refl) (λ x e. ap (λ b. cond b (x ∷ []) []) (not_so (t x) (λ s. other_number (key x) k e (named x s))))

pub bucket_at : (n k : ℕ) (keys : List ℕ) → place_of k keys ≡ place_of k (take (place_of (k % n) (buckets n keys)) keys)
bucket_at n k = fold_at (λ x. x % n) (k % n) (place_of k) (λ x p. one_on p (x == k)) (λ x xs. refl)
    (λ x e. ap (one_on 0) (not_so (x == k) (λ s. other_number (x % n) (k % n) e (ap (λ y. y % n) (same_number x k s)))))

abbrev here : List ℕ → Entry → Option Entry
here x e = if same_text x e.name then Some e else None

pub find_at : (x : List ℕ) (es : List Entry) → entry_of x es ≡ entry_of x (take (place_of (key_of x) (keys_of es)) es)
find_at x = fold_at (λ (e : Entry). key_of e.name) (key_of x) (entry_of x) (λ e o. or_else o (here x e)) (λ e es. refl)
    (λ e f. ap (λ b. cond b (Some e) None) (not_so (same_text x e.name) (λ s. other_number (key_of e.name) (key_of x) f (ap key_of (sym (same_is x e.name s))))))

-- ---- an index with one key more, and one less

numbers : (k j : ℕ) → ((k ≡ j) × ((j == k) ≡ true)) ⊎ ((k ≢ j) × ((j == k) ≡ false))
numbers k j = step (eqb_tells j k)
  where
    step : (((j == k) ≡ true) × (j ≡ k)) ⊎ (((j == k) ≡ false) × (j ≢ k)) → ((k ≡ j) × ((j == k) ≡ true)) ⊎ ((k ≢ j) × ((j == k) ≡ false))
    step (inl e) = inl (sym e.1, e.0)
    step (inr e) = inr (λ h. e.1 (sym h), e.0)

below_or_at : (i n m : ℕ) → m ≡ suc n → i < m → (i < n) ⊎ (i ≡ n)
below_or_at i n m e h = step (cases_order i n)
  where
    step : (i ≡ n) ⊎ ((i < n) ⊎ (n < i)) → (i < n) ⊎ (i ≡ n)
    step (inl same) = inr same
    step (inr (inl lt)) = inl lt
    step (inr (inr gt)) = absurd (omega arith)

module _ (keys heads links : List ℕ) (index : IsIndex keys heads links) (key : ℕ) where
  -- a key behind them
  module _ (lt : key < length heads) where
    abbrev more : List ℕ
    more = keys ++ key ∷ []

    abbrev led : List ℕ
    led = links ++ get_or heads key 0 ∷ []

    head_more : (k : ℕ) → ((k ≡ key) × ((key == k) ≡ true)) ⊎ ((k ≢ key) × ((key == k) ≡ false)) → get_or (set heads key (suc (length keys))) k 0 ≡ place_of k more
    head_more k (inl s) =
        ap (λ j. get_or (set heads key (suc (length keys))) j 0) s.0 ∙ get_or-set_same heads key (suc (length keys)) 0 lt
        ∙ sym (place_more k keys key ∙ ap (λ b. cond b (suc (length keys)) (place_of k keys)) s.1)
    head_more k (inr s) =
        get_or-set_other heads key k (suc (length keys)) 0 s.0 ∙ index.heads_so k
        ∙ sym (place_more k keys key ∙ ap (λ b. cond b (suc (length keys)) (place_of k keys)) s.1)

    link_more : (i : ℕ) → (i < length keys) ⊎ (i ≡ length keys) → get_or led i 0 ≡ place_of (get_or more i 0) (take i more)
    link_more i (inl h) =
        get_or_append_left links (get_or heads key 0 ∷ []) 0 i (omega (arith, index.links_len)) ∙ index.links_so i h
        ∙ sym (ap (λ x. place_of x (take i more)) (get_or_append_left keys (key ∷ []) 0 i h) ∙ ap (place_of (get_or keys i 0)) (take-append-le i keys (key ∷ []) (omega arith)))
    link_more i (inr e) =
        ap (λ j. get_or led j 0) (e ∙ sym index.links_len) ∙ get_or-append_seam links (get_or heads key 0) [] 0 ∙ index.heads_so key
        ∙ sym (ap (λ j. place_of (get_or more j 0) (take j more)) e
        ∙ ap (λ x. place_of x (take (length keys) more)) (get_or-append_seam keys key [] 0) ∙ ap (place_of key) (take-append_seam keys (key ∷ [])))

    small_more : (i : ℕ) → (i < length keys) ⊎ (i ≡ length keys) → get_or more i 0 < length (set heads key (suc (length keys)))
    small_more i (inl h) = let size = length-set heads key (suc (length keys)) in omega (arith, get_or_append_left keys (key ∷ []) 0 i h, index.small i h)
    small_more i (inr e) =
        let size = length-set heads key (suc (length keys)) in
        let at : get_or more i 0 ≡ key = ap (λ j. get_or more j 0) e ∙ get_or-append_seam keys key [] 0 in
        omega arith

    pub index_more : IsIndex more (set heads key (suc (length keys))) led
    index_more =
        let size : length more ≡ suc (length keys) = omega (arith, length-append keys (key ∷ [])) in record {
          heads_so = λ k. head_more k (numbers k key);
          links_so = λ i h. link_more i (below_or_at i (length keys) (length more) size h);
          small = λ i h. small_more i (below_or_at i (length keys) (length more) size h);
          links_len = omega (arith, length-append keys (key ∷ []), length-append links (get_or heads key 0 ∷ []), index.links_len);
        }

-- without the last key
module _ (keys heads links : List ℕ) (n before : ℕ) (index : IsIndex keys heads links) (size : length keys ≡ suc n) where
  abbrev last : ℕ
  last = get_or keys n 0

  all_keys : keys ≡ take n keys ++ last ∷ []
  all_keys = sym (take_all (n + 1) keys (omega arith)) ∙ take_more keys n 0 (omega arith)

  front_length : length (take n keys) ≡ n
  front_length = length-take-le n keys (omega arith)

  head_less : (k : ℕ) → before ≡ get_or links n 0 → ((k ≡ last) × ((last == k) ≡ true)) ⊎ ((k ≢ last) × ((last == k) ≡ false)) → get_or (set heads last before) k 0 ≡ place_of k (take n keys)
  head_less k b (inl s) =
      ap (λ j. get_or (set heads last before) j 0) s.0 ∙ get_or-set_same heads last before 0 (index.small n (omega arith)) ∙ b ∙ index.links_so n (omega arith)
      ∙ ap (λ j. place_of j (take n keys)) (sym s.0)
  head_less k b (inr s) =
      get_or-set_other heads last k before 0 s.0 ∙ index.heads_so k ∙ ap (place_of k) all_keys ∙ place_more k (take n keys) last
      ∙ ap (λ b. cond b (suc (length (take n keys))) (place_of k (take n keys))) s.1

  pub index_less : before ≡ get_or links n 0 → IsIndex (take n keys) (set heads last before) (take n links)
  index_less b = record {
    heads_so = λ k. head_less k b (numbers k last);
    links_so = λ i h. link i (omega (arith, front_length));
    small = λ i h. size_of i (omega (arith, front_length));
    links_len = length-take-le n links (omega (arith, index.links_len)) ∙ sym front_length;
  }
    where
      link : (i : ℕ) → i < n → get_or (take n links) i 0 ≡ place_of (get_or (take n keys) i 0) (take i (take n keys))
      link i h =
          get_or-take n links i 0 h ∙ index.links_so i (omega arith)
          ∙ sym (ap (λ x. place_of x (take i (take n keys))) (get_or-take n keys i 0 h) ∙ ap (place_of (get_or keys i 0)) (take-take i n keys (omega arith)))

      size_of : (i : ℕ) → i < n → get_or (take n keys) i 0 < length (set heads last before)
      size_of i h = omega (arith, get_or-take n keys i 0 h, index.small i (omega arith), length-set heads last before)

-- ---- keys in their buckets

module _ (keys heads links : List ℕ) (index : IsIndex (buckets (length heads) keys) heads links) where
  buckets_length : length (buckets (length heads) keys) ≡ length keys
  buckets_length = length-map keys (λ k. k % length heads)

  pub links_length : length links ≡ length keys
  links_length = index.links_len ∙ buckets_length

  -- there are buckets where there are keys
  pub some_buckets : {n : ℕ} → length keys ≡ suc n → 0 < length heads
  some_buckets {n} size = omega (arith, index.small n (omega (arith, buckets_length)))

  pub no_buckets : length heads ≡ 0 → keys ≡ []
  no_buckets none = empty keys refl
    where
      empty : (xs : List ℕ) → xs ≡ keys → xs ≡ []
      empty [] e = refl
      empty (x ∷ xs) e = let some = some_buckets {n = length xs} (ap length (sym e)) in absurd (omega arith)

  pub key_more : (key : ℕ) {more_keys more_heads led : List ℕ} → 0 < length heads → more_keys ≡ keys ++ key ∷ [] →
      more_heads ≡ set heads (key % length heads) (suc (length links)) → led ≡ links ++ get_or heads (key % length heads) 0 ∷ [] →
      IsIndex (buckets (length more_heads) more_keys) more_heads led × (length more_heads ≡ length heads)
  key_more key {more_keys} {more_heads} {led} some k h l =
      let bucket = key % length heads in
      let size : length more_heads ≡ length heads = ap length h ∙ length-set heads bucket (suc (length links)) in
      let one = index_more (buckets (length heads) keys) heads links index bucket (omega arith) in
      let in_order : buckets (length more_heads) more_keys ≡ buckets (length heads) keys ++ bucket ∷ [] =
      ap (λ n. buckets n more_keys) size ∙ ap (buckets (length heads)) k ∙ map-append (λ x. x % length heads) keys (key ∷ []) in
      let head : more_heads ≡ set heads bucket (suc (length (buckets (length heads) keys))) =
      h ∙ ap (λ n. set heads bucket (suc n)) index.links_len in (
        subst (λ b. IsIndex b more_heads led) (sym in_order)
            (subst (λ b. IsIndex (buckets (length heads) keys ++ bucket ∷ []) b led) (sym head)
            (subst (λ b. IsIndex (buckets (length heads) keys ++ bucket ∷ []) (set heads bucket (suc (length (buckets (length heads) keys)))) b) (sym l) one)),
        size,
      )

  pub key_less : (n key : ℕ) {front less_heads kept : List ℕ} → length keys ≡ suc n → key ≡ get_or keys n key → front ≡ take n keys →
      less_heads ≡ set heads (key % length heads) (get_or links n 0) → kept ≡ take n links → IsIndex (buckets (length less_heads) front) less_heads kept
  key_less n key {front} {less_heads} {kept} long is f h l =
      let all = buckets (length heads) keys in
      let size : length less_heads ≡ length heads = ap length h ∙ length-set heads (key % length heads) (get_or links n 0) in
      let one = index_less all heads links n (get_or links n 0) index (buckets_length ∙ long) refl in
      let in_order : buckets (length less_heads) front ≡ take n all =
      ap (λ m. buckets m front) size ∙ ap (buckets (length heads)) f ∙ sym (take-map (λ x. x % length heads) n keys) in
      let bucket : key % length heads ≡ get_or all n 0 = ap (λ x. x % length heads) (get_or_read keys n key (omega arith) is 0) ∙ sym (get_or-map (λ x. x % length heads) keys n 0 0 (omega arith)) in
      subst (λ b. IsIndex b less_heads kept) (sym in_order)
      (subst (λ b. IsIndex (take n all) b kept) (sym (h ∙ ap (λ b. set heads b (get_or links n 0)) bucket))
      (subst (λ b. IsIndex (take n all) (set heads (get_or all n 0) (get_or links n 0)) b) (sym l) one))

pub same_chains : (keys heads links : List ℕ) {more_heads led : List ℕ} → IsIndex (buckets (length heads) keys) heads links → more_heads ≡ heads → led ≡ links →
    IsIndex (buckets (length more_heads) keys) more_heads led
same_chains keys heads links {more_heads} {led} index h l =
    subst (λ b. IsIndex (buckets (length b) keys) b led) (sym h) (subst (λ b. IsIndex (buckets (length heads) keys) heads b) (sym l) index)

-- none yet
pub no_keys : (heads links : List ℕ) → ((k : ℕ) → get_or heads k 0 ≡ 0) → links ≡ [] → IsIndex [] heads links
no_keys heads links zeros none = record { heads_so = λ k. zeros k; links_so = λ i h. absurd (omega arith); small = λ i h. absurd (omega arith); links_len = ap length none }

-- ---- a walk from place to place

-- from a place, what is asked of those before it
pub record IsAt {X A : Type 0} (key : X → ℕ) (f : List X → A) (whole : A) (k : ℕ) (xs : List X) (place : ℕ) : Type 0 where
  pub within : place ≤ length xs
  pub same : f (take place xs) ≡ whole
  pub there : (i : ℕ) → place ≡ suc i → get_or (map key xs) i 0 ≡ k

module _ {X A : Type 0} (key : X → ℕ) (f : List X → A) (k : ℕ) (at : (xs : List X) → f xs ≡ f (take (place_of k (map key xs)) xs)) (xs : List X) where
  keys_length : length (map key xs) ≡ length xs
  keys_length = length-map xs key

  pub begins_at : {place : ℕ} {keys : List ℕ} → place ≡ place_of k keys → keys ≡ map key xs → IsAt key f (f xs) k xs place
  begins_at {place} {keys} p e =
      let is : place ≡ place_of k (map key xs) = p ∙ ap (place_of k) e in record {
        within = omega (arith, place_within k (map key xs), keys_length);
        same = ap (λ n. f (take n xs)) is ∙ sym (at xs);
        there = λ i h. place_has k (map key xs) i (sym is ∙ h);
      }

  -- on to the place before this one of the same key
  pub goes_on : {whole next_whole : A} (place next : ℕ) {keys : List ℕ} → 0 < place → IsAt key f whole k xs place → f (take (place - 1) xs) ≡ next_whole →
      next ≡ place_of (get_or keys (place - 1) 0) (take (place - 1) keys) → keys ≡ map key xs → IsAt key f next_whole k xs next × (next < place)
  goes_on {whole} {next_whole} place next {keys} some is miss n e =
      let j = place - 1 in
      let up : place ≡ suc j = omega arith in
      let here : get_or (map key xs) j 0 ≡ k = is.there j up in
      let front : take j (map key xs) ≡ map key (take j xs) = take-map key j xs in
      let at_next : next ≡ place_of k (map key (take j xs)) =
      n ∙ ap (λ l. place_of (get_or l j 0) (take j l)) e ∙ ap (λ y. place_of y (take j (map key xs))) here ∙ ap (place_of k) front in
      let most : next ≤ j = omega (arith, place_within k (map key (take j xs)), length-map (take j xs) key, length-take-le j xs (omega (arith, is.within))) in (
        record {
          within = omega (arith, is.within);
          same = ap f (sym (take-take next j xs most)) ∙ ap (λ m. f (take m (take j xs))) at_next ∙ sym (at (take j xs)) ∙ miss;
          there = λ i h.
              sym (get_or-take j (map key xs) i 0 (omega arith)) ∙ ap (λ l. get_or l i 0) front
              ∙ place_has k (map key (take j xs)) i (sym at_next ∙ h);
        },
        omega arith,
      )

-- ---- one of them

pub any_more : {X : Type 0} (t : X → Bool) (es : List X) (i : ℕ) (e : X) → i < length es → e ≡ get_or es i e → list_any t (take (i + 1) es) ≡ (list_any t (take i es) || t e)
any_more t es i e lt is =
    ap (list_any t) (take_more es i e lt ∙ ap (λ y. take i es ++ y ∷ []) (sym is)) ∙ list_any-append t (take i es) (e ∷ [])
    ∙ ap (λ b. list_any t (take i es) || b) (or_false (t e))
  where
    or_false : (b : Bool) → (b || false) ≡ b
    or_false true = refl
    or_false false = refl

pub any_miss : {X : Type 0} (t : X → Bool) (es : List X) (j : ℕ) (e : X) → j < length es → e ≡ get_or es j e → t e ≡ false → list_any t (take (j + 1) es) ≡ list_any t (take j es)
any_miss t es j e lt is miss = any_more t es j e lt is ∙ ap (λ b. list_any t (take j es) || b) miss ∙ nothing (list_any t (take j es))
  where
    nothing : (b : Bool) → (b || false) ≡ b
    nothing true = refl
    nothing false = refl

pub any_hit : {X : Type 0} (t : X → Bool) (es : List X) (j : ℕ) (e : X) → j < length es → e ≡ get_or es j e → t e ≡ true → list_any t (take (j + 1) es) ≡ true
any_hit t es j e lt is hit = any_more t es j e lt is ∙ ap (λ b. list_any t (take j es) || b) hit ∙ something (list_any t (take j es))
  where
    something : (b : Bool) → (b || true) ≡ true
    something true = refl
    something false = refl

-- the key at a place is this one, or another
key_at : (k : ℕ) (keys : List ℕ) (j : ℕ) → j < length keys → place_of k (take (j + 1) keys) ≡ cond (get_or keys j 0 == k) (suc j) (place_of k (take j keys))
key_at k keys j lt =
    ap (place_of k) (take_more keys j 0 lt) ∙ place_more k (take j keys) (get_or keys j 0)
    ∙ ap (λ n. cond (get_or keys j 0 == k) (suc n) (place_of k (take j keys))) (length-take-le j keys (omega arith))

pub key_hit : (k : ℕ) (keys : List ℕ) (j : ℕ) → j < length keys → get_or keys j 0 ≡ k → place_of k (take (j + 1) keys) ≡ suc j
key_hit k keys j lt e = key_at k keys j lt ∙ ap (λ b. cond b (suc j) (place_of k (take j keys))) (same_is_true (get_or keys j 0) k e)

pub key_miss : (k : ℕ) (keys : List ℕ) (j : ℕ) → j < length keys → get_or keys j 0 ≢ k → place_of k (take (j + 1) keys) ≡ place_of k (take j keys)
key_miss k keys j lt e = key_at k keys j lt ∙ ap (λ b. cond b (suc j) (place_of k (take j keys))) (other_is_false (get_or keys j 0) k e)

-- ---- from a bucket to a key

-- the places of a bucket, where keys also have another name
module _ (keys heads links : List ℕ) (index : IsIndex (buckets (length heads) keys) heads links) where
  abbrev n : ℕ
  n = length heads

  abbrev in_bucket : ℕ → ℕ
  in_bucket x = x % n

  pub head_begins : (key head : ℕ) {xs : List ℕ} → 0 < n → head ≡ get_or heads (key % n) head → xs ≡ keys →
      IsInBucket n key xs head × (place_of key (take head xs) ≡ place_of key keys)
  head_begins key head {xs} some is same =
      let at : head ≡ place_of (key % n) (buckets n keys) = get_or_read heads (key % n) head (omega arith) is 0 ∙ index.heads_so (key % n) in (
        subst (λ l. IsInBucket n key l head) (sym same)
            (record { within = omega (arith, place_within (key % n) (buckets n keys), length-map keys in_bucket); there = λ i h. place_has (key % n) (buckets n keys) i (sym at ∙ h) }),
        ap (λ l. place_of key (take head l)) same ∙ ap (λ i. place_of key (take i keys)) at ∙ sym (bucket_at n key keys),
      )

  -- the place before one of a bucket
  link_is : (j link : ℕ) → j < length keys → link ≡ get_or links j link → link ≡ place_of (get_or keys j 0 % n) (buckets n (take j keys))
  link_is j link lt is =
      get_or_read links j link (omega (arith, links_length keys heads links index)) is 0 ∙ index.links_so j (omega (arith, length-map keys in_bucket))
      ∙ ap (λ b. place_of b (take j (buckets n keys))) (get_or-map in_bucket keys j 0 0 lt) ∙ ap (place_of (get_or keys j 0 % n)) (take-map in_bucket j keys)

  pub link_begins : (j key link : ℕ) {xs : List ℕ} → j < length keys → key ≡ get_or keys j key → link ≡ get_or links j link → xs ≡ keys →
      IsInBucket n key xs link × (place_of key (take link xs) ≡ place_of (get_or keys j 0) (take j keys))
  link_begins j key link {xs} lt here is same =
      let key_is : key ≡ get_or keys j 0 = get_or_read keys j key lt here 0 in
      let at : link ≡ place_of (key % n) (buckets n (take j keys)) = link_is j link lt is ∙ ap (λ k. place_of (k % n) (buckets n (take j keys))) (sym key_is) in
      let most : link ≤ j = omega (arith, at, place_within (key % n) (buckets n (take j keys)), length-map (take j keys) in_bucket, length-take-le j keys (omega arith)) in (
        subst (λ l. IsInBucket n key l link) (sym same)
            (record {
              within = omega arith;
              there = λ i h.
                  sym (get_or-take j (buckets n keys) i 0 (omega arith)) ∙ ap (λ l. get_or l i 0) (take-map in_bucket j keys)
                  ∙ place_has (key % n) (buckets n (take j keys)) i (sym at ∙ h);
            }),
        ap (λ l. place_of key (take link l)) same ∙ ap (place_of key) (sym (take-take link j keys most)) ∙ ap (λ i. place_of key (take i (take j keys))) at
            ∙ sym (bucket_at n key (take j keys)) ∙ ap (λ k. place_of k (take j keys)) key_is,
      )

  pub seek_hit : (from key place : ℕ) → 0 < place → IsAt in_bucket (place_of key) (place_of key (take from keys)) (key % n) keys place →
      get_or keys (place - 1) 0 ≡ key → place ≡ place_of key (take from keys)
  seek_hit from key place some at same =
      let j = place - 1 in
      let up : place ≡ suc j = omega arith in
      let up_too : place ≡ j + 1 = omega arith in
      up ∙ sym (key_hit key keys j (omega (arith, at.within)) same) ∙ ap (λ i. place_of key (take i keys)) (sym up_too) ∙ at.same

  pub seek_next : (from key place next : ℕ) → 0 < place → IsAt in_bucket (place_of key) (place_of key (take from keys)) (key % n) keys place →
      get_or keys (place - 1) 0 ≢ key → next ≡ get_or links (place - 1) next →
      IsAt in_bucket (place_of key) (place_of key (take from keys)) (key % n) keys next × (next < place)
  seek_next from key place next some at other link =
      let j = place - 1 in
      let up : place ≡ j + 1 = omega arith in
      let lt : j < length keys = omega (arith, at.within) in
      let miss : place_of key (take j keys) ≡ place_of key (take from keys) =
      sym (key_miss key keys j lt other) ∙ ap (λ i. place_of key (take i keys)) (sym up) ∙ at.same in
      let at_next : next ≡ place_of (get_or (buckets n keys) j 0) (take j (buckets n keys)) =
      get_or_read links j next (omega (arith, links_length keys heads links index)) link 0 ∙ index.links_so j (omega (arith, length-map keys in_bucket)) in
      goes_on in_bucket (place_of key) (key % n) (bucket_at n key) keys place next some at miss at_next refl

-- ---- whether one of them passes a test

pub read_as : {X : Type 0} (xs : List X) (j : ℕ) {x e : X} → e ≡ x → x ≡ get_or xs j x → e ≡ get_or xs j e
read_as xs j {x} {e} same is = subst (λ y. y ≡ get_or xs j y) (sym same) is

module _ {X : Type 0} (key : X → ℕ) (k : ℕ) (t : X → Bool) (named : (x : X) → t x ≡ true → key x ≡ k) (xs : List X) where
  pub any_begins : {place : ℕ} {keys : List ℕ} → place ≡ place_of k keys → keys ≡ map key xs → IsAt key (list_any t) (list_any t xs) k xs place
  any_begins p e = begins_at key (list_any t) k (any_at key k t named) xs p e

  pub any_found : (place : ℕ) (x : X) {whole : Bool} → 0 < place → IsAt key (list_any t) whole k xs place → x ≡ get_or xs (place - 1) x → t x ≡ true → true ≡ whole
  any_found place x {whole} some at is hit =
      let j = place - 1 in
      let up : place ≡ j + 1 = omega arith in
      sym (any_hit t xs j x (omega (arith, at.within)) is hit) ∙ ap (λ n. list_any t (take n xs)) (sym up) ∙ at.same

  pub any_next : (place next : ℕ) (x : X) {whole : Bool} {keys : List ℕ} → 0 < place → IsAt key (list_any t) whole k xs place → x ≡ get_or xs (place - 1) x → t x ≡ false →
      next ≡ place_of (get_or keys (place - 1) 0) (take (place - 1) keys) → keys ≡ map key xs → IsAt key (list_any t) whole k xs next × (next < place)
  any_next place next x {whole} {keys} some at is miss n e =
      let j = place - 1 in
      let up : place ≡ j + 1 = omega arith in
      let same : list_any t (take j xs) ≡ whole = sym (any_miss t xs j x (omega (arith, at.within)) is miss) ∙ ap (λ n. list_any t (take n xs)) (sym up) ∙ at.same in
      goes_on key (list_any t) k (any_at key k t named) xs place next some at same n e
