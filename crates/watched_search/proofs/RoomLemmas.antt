-- There is room for what a literal comes to watch: each list has no clause twice, and each of its clauses names the literal.
use Rattle.std.proofs.Common.{◌≡◌, ◌≢◌, ℕ, suc, ◌+◌, ◌<◌, ◌≤◌, ◌⊎◌, inl, inr, List, [], ◌∷◌, ◌++◌, length, map, set, get_or, All, refl, sym, ◌∙◌, ap, subst, arith, length-set}
use Rattle.std.specs.Prelude.{Contains, AllPairs}
use Rattle.std.proofs.lemmas.Bool.{cases_eq, cases_lt}
use Rattle.std.proofs.lemmas.List.{get_or-map, get_or-set_same, get_or-set_other, get_or_append_left, get_or_push, length-map, length_push, map-set}
use Rattle.std.proofs.lemmas.List.Elements.{All-push, All-weaker, All-cons, All-contains, All-map, All-head, All-tail, All-set, All-nil, Contains-append_left, Contains-append_right, Contains-append_cases, Contains-get_or, Contains-push}
use Rattle.std.proofs.lemmas.List.Kept.{AllPairs-cons}
use Rattle.std.proofs.Math.ListN as math
use Rattle.std.proofs.Math.Seq.{map-set_same}
use Rattle.sat_formula.specs.declared.lit.Lit.{Lit}
use Rattle.watch_chains.specs.declared.link.Link.{Link}
use Rattle.watch_chains.specs.Watches.{list_at}
use Rattle.watched_search.specs.Codes.{code}
use Rattle.watched_search.specs.Searching.{clause_at}
use Rattle.watched_search.specs.inner.Keeping.{slot_of}
use Rattle.watched_search.specs.inner.Lists.{ListView, no_list, row_at, links_of, links_in, AreBlocked, IsRoomFor, HasRoom, IsRoomier, MakesRoom}

-- different numbers up to q, parted from q

pairs-tail : {X : Type 0} (R : X → X → Type 0) (x : X) (xs : List X) → AllPairs R (x ∷ xs) → AllPairs R xs
pairs-tail R x xs h = λ i j d ij jl. h (suc i) (suc j) d (omega arith) (omega arith)

pairs-head : {X : Type 0} (R : X → X → Type 0) (x : X) (xs : List X) → AllPairs R (x ∷ xs) → All (R x) xs
pairs-head R x xs h = λ k d lt. h 0 (suc k) d (omega arith) (omega arith)

record Parted (q : ℕ) (cs : List ℕ) : Type 0 where
  ds : List ℕ
  once : AllPairs (λ a b. a ≢ b) ds
  below : All (λ c. c < q) ds
  sub : (c : ℕ) → Contains ds c → Contains cs c
  rest : (length cs ≡ length ds) ⊎ ((length cs ≡ length ds + 1) × Contains cs q)

later : (c : ℕ) (cs : List ℕ) (n : ℕ) → Contains cs n → Contains (c ∷ cs) n
later c cs n h = Contains-append_right (c ∷ []) cs n h

here : (c : ℕ) (cs : List ℕ) → Contains (c ∷ cs) c
here c cs = Contains-append_left (c ∷ []) cs c (Contains-push [] c)

parted : (q : ℕ) (cs : List ℕ) → AllPairs (λ a b. a ≢ b) cs → All (λ c. c < q + 1) cs → Parted q cs
parted q [] once below = record { ds = []; once = once; below = All-nil (λ c. c < q); sub = λ c h. h; rest = inl refl }
parted q (c ∷ cs) once below =
    let apart = pairs-head (λ a b. a ≢ b) c cs once in
    let tail = All-tail (λ c. c < q + 1) c cs below in
    let top = All-head (λ c. c < q + 1) c cs below in
    elim (cases_eq c q) [
      | inl is ↦ record {
        ds = cs;
        once = pairs-tail (λ a b. a ≢ b) c cs once;
        below = λ k d lt.
            let le = tail k d lt in
            let ne = apart k d lt in
            elim (cases_lt (get_or cs k d) q) [ inl l ↦ l | inr ge ↦ absurd (ne (omega arith)) ];
        sub = λ n h. later c cs n h;
        rest = inr (omega arith, subst (λ (n : ℕ). Contains (c ∷ cs) n) is (here c cs));
      }
      | inr ne ↦
          (let r = parted q cs (pairs-tail (λ a b. a ≢ b) c cs once) tail in
          record {
            ds = c ∷ r.ds;
            once = AllPairs-cons (λ a b. a ≢ b) c r.ds (λ k d lt. All-contains (λ b. c ≢ b) cs (get_or r.ds k d) apart (r.sub (get_or r.ds k d) (Contains-get_or r.ds k d lt))) r.once;
            below = All-cons (λ c. c < q) c r.ds (omega arith) r.below;
            sub = λ n h. cons_sub c r.ds cs n r.sub h;
            rest = elim r.rest [ inl e ↦ inl (omega arith) | inr p ↦ (let e = p.0 in inr (omega arith, later c cs q p.1)) ];
          })
    ]
  where
    cons_sub : (c : ℕ) (ds cs : List ℕ) (n : ℕ) → ((m : ℕ) → Contains ds m → Contains cs m) → Contains (c ∷ ds) n → Contains (c ∷ cs) n
    cons_sub c ds cs n sub h = elim (Contains-append_cases (c ∷ []) ds n h) [
      | inl f ↦ Contains-append_left (c ∷ []) cs n f
      | inr r ↦ later c cs n (sub n r)
    ]

-- one clause more

room_more : (clauses : List (List Lit)) (c : List Lit) (l : Lit) (n more : ℕ) → IsRoomFor clauses l n → n ≤ more → (Contains c l → n < more) → IsRoomFor (clauses ++ c ∷ []) l more
room_more clauses c l n more room le less = λ cs once all.
    let q = length clauses in
    let size = length_push clauses c in
    let named = λ (m : ℕ) (has : Contains cs m). All-contains (λ c'. (c' < length (clauses ++ c ∷ [])) × Contains (clause_at (clauses ++ c ∷ []) c') l) cs m all has in
    let p = parted q cs once (λ k d lt. let b = (all k d lt).0 in omega arith) in
    let fits = room p.ds p.once (λ k d lt. (p.below k d lt, rw (get_or_append_left clauses (c ∷ []) [] (get_or p.ds k d) (p.below k d lt)) at (named (get_or p.ds k d) (p.sub (get_or p.ds k d) (Contains-get_or p.ds k d lt))).1)) in
    elim p.rest [
      | inl e ↦ omega arith
      | inr w ↦ (let e = w.0 in let lt = less (rw (get_or_push clauses c [] q refl) at (named q w.1).1) in omega arith)
    ]

pub HasRoom-add : (vars : ℕ) (clauses : List (List Lit)) (c : List Lit) (rows new : List ListView) → HasRoom vars clauses rows → IsRoomier rows new → MakesRoom rows new c
    → HasRoom vars (clauses ++ c ∷ []) new
HasRoom-add vars clauses c rows new h more makes = λ l lt.
    room_more clauses c l (row_at rows (code l)).room (row_at new (code l)).room (h l lt) (more.more (code l))
    (λ has. All-contains (λ l. (row_at rows (code l)).room < (row_at new (code l)).room) c l makes has)

pub HasRoom-more : (vars : ℕ) (clauses : List (List Lit)) (rows new : List ListView) → HasRoom vars clauses rows → IsRoomier rows new → HasRoom vars clauses new
HasRoom-more vars clauses rows new h more = λ l lt cs once all.
    let fits = h l lt cs once all in
    let le = more.more (code l) in
    omega arith

-- a list is changed, which has room as before

room_set : (rows : List ListView) (z y : ℕ) (r : ListView) → z < length rows → r.room ≡ (row_at rows z).room → (row_at (set rows z r) y).room ≡ (row_at rows y).room
room_set rows z y r lt e = elim (cases_eq y z) [
  | inl same ↦ ap (λ (n : ℕ). (row_at (set rows z r) n).room) same ∙ ap (λ (x : ListView). x.room) (get_or-set_same rows z r no_list lt) ∙ e ∙ ap (λ (n : ℕ). (row_at rows n).room) (sym same)
  | inr other ↦ ap (λ (x : ListView). x.room) (get_or-set_other rows z y r no_list other)
]

pub HasRoom-set : (vars : ℕ) (clauses : List (List Lit)) (rows : List ListView) (z : ℕ) (r : ListView) → z < length rows → r.room ≡ (row_at rows z).room → HasRoom vars clauses rows
    → HasRoom vars clauses (set rows z r)
HasRoom-set vars clauses rows z r lt e h = λ l below. rw (room_set rows z (code l) r lt e) (h l below)

pub links-at : (rows : List ListView) (z : ℕ) → list_at (links_in rows) z ≡ links_of (row_at rows z).watches
links-at rows z = math.get_or-map (λ (r : ListView). links_of r.watches) rows z no_list

pub links-set : (rows : List ListView) (z : ℕ) (r : ListView) → links_in (set rows z r) ≡ set (links_in rows) z (links_of r.watches)
links-set rows z r = map-set (λ (r : ListView). links_of r.watches) rows z r

-- a list is made roomier

pub IsRoomier-refl : (rows : List ListView) → IsRoomier rows rows
IsRoomier-refl rows = record { size = refl; same = refl; blocked = λ clauses h. h; more = λ z. omega arith }

pub IsRoomier-step : (rows new : List ListView) (z : ℕ) (r : ListView) → z < length new → r ≡ record (row_at new z) { room = (row_at new z).room + 1 } → IsRoomier rows new → IsRoomier rows (set new z r)
IsRoomier-step rows new z r lt is h =
    let watches : r.watches ≡ (row_at new z).watches = ap (λ (x : ListView). x.watches) is in
    let room : r.room ≡ (row_at new z).room + 1 = ap (λ (x : ListView). x.room) is in
    record {
      size = length-set new z r ∙ h.size;
      same = map-set_same (λ (r : ListView). links_of r.watches) new z r no_list (ap links_of watches) ∙ h.same;
      blocked = λ clauses old.
          let all = h.blocked clauses old in
          All-set (AreBlocked clauses) new z r (rw watches (all z no_list lt)) all;
      more = λ y. let le = h.more y in elim (cases_eq y z) [
        | inl same ↦ (let at : (row_at (set new z r) y).room ≡ r.room = ap (λ (n : ℕ). (row_at (set new z r) n).room) same ∙ ap (λ (x : ListView). x.room) (get_or-set_same new z r no_list lt) in
            let was : (row_at new y).room ≡ (row_at new z).room = ap (λ (n : ℕ). (row_at new n).room) same in
            omega arith)
        | inr other ↦ rw (get_or-set_other new z y r no_list other) le
      ];
    }

-- a clause that is not in a list yet can be put there

pairs-map : (list : List Link) → AllPairs (λ a b. a.clause ≢ b.clause) list → AllPairs (λ a b. a ≢ b) (map (λ (m : Link). m.clause) list)
pairs-map list h = λ i j d ij jl.
    let size : length (map (λ (m : Link). m.clause) list) ≡ length list = length-map list (λ (m : Link). m.clause) in
    rw (get_or-map (λ (m : Link). m.clause) list i (slot_of 0 0) d (omega arith), get_or-map (λ (m : Link). m.clause) list j (slot_of 0 0) d (omega arith))
    (h i j (slot_of 0 0) ij (omega arith))

pub spare : (clauses : List (List Lit)) (l : Lit) (n q : ℕ) (list : List Link) → IsRoomFor clauses l n → AllPairs (λ a b. a.clause ≢ b.clause) list
    → All (λ m. (m.clause < length clauses) × Contains (clause_at clauses m.clause) l) list → All (λ m. m.clause ≢ q) list → q < length clauses → Contains (clause_at clauses q) l → length list < n
spare clauses l n q list room once named apart lt has =
    let P : ℕ → Type 0 = λ c. (c < length clauses) × Contains (clause_at clauses c) l in
    let cs = map (λ (m : Link). m.clause) list in
    let size : length cs ≡ length list = length-map list (λ (m : Link). m.clause) in
    let fits = room (q ∷ cs)
    (AllPairs-cons (λ a b. a ≢ b) q cs (All-map (λ b. q ≢ b) (λ (m : Link). m.clause) list (λ k d within e. apart k d within (sym e))) (pairs-map list once))
    (All-cons (λ c. (c < length clauses) × Contains (clause_at clauses c) l) q cs (lt, has) (All-map (λ c. (c < length clauses) × Contains (clause_at clauses c) l) (λ (m : Link). m.clause) list named)) in
    omega arith

-- room for one more of each literal of a front of the clause

pub MakesRoom-step : (rows new : List ListView) (front : List Lit) (l : Lit) (z : ℕ) (r : ListView) → z < length new → z ≡ code l → r ≡ record (row_at new z) { room = (row_at new z).room + 1 }
    → IsRoomier rows new → MakesRoom rows new front → MakesRoom rows (set new z r) (front ++ l ∷ [])
MakesRoom-step rows new front l z r lt at is h makes =
    let step = IsRoomier-step new new z r lt is (IsRoomier-refl new) in
    let here : (row_at (set new z r) z).room ≡ (row_at new z).room + 1 = ap (λ (x : ListView). x.room) (get_or-set_same new z r no_list lt) ∙ ap (λ (x : ListView). x.room) is in
    let le = h.more z in
    let top : (row_at rows z).room < (row_at (set new z r) z).room = omega arith in
    All-push (λ m. (row_at rows (code m)).room < (row_at (set new z r) (code m)).room) front l
    (All-weaker (λ m. (row_at rows (code m)).room < (row_at new (code m)).room) (λ m. (row_at rows (code m)).room < (row_at (set new z r) (code m)).room)
    (λ m less. let more = step.more (code m) in omega arith) front makes)
    (subst (λ (n : ℕ). (row_at rows n).room < (row_at (set new z r) n).room) at top)
