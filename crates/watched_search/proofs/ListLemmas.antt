-- The lists of what each literal watches: what is read there, put there and taken out.
use Rattle.std.proofs.Common.{◌≡◌, ◌≢◌, ℕ, ◌+◌, ◌*◌, ◌/◌, ◌%◌, ◌<◌, ◌≤◌, inl, inr, List, [], ◌∷◌, ◌++◌, length, set, get_or, replicate, All, Some, refl, sym, ◌∙◌, ap, subst, arith, length-set}
use Rattle.std.specs.Prelude.{Contains}
use Rattle.std.specs.List.{swap_remove}
use Rattle.std.proofs.lemmas.Bool.{cases_lt}
use Rattle.std.proofs.lemmas.List.{get_or-map, get_or_append_left, get_or_push, get_or_default, get_or-replicate, get_or_past, length-map, length-replicate, length_push, map-append}
use Rattle.std.proofs.lemmas.List.Elements.{All-push, All-set, All-weaker, Contains-get_or}
use Rattle.std.proofs.Math.Seq.{map-set_same}
use Rattle.sat_formula.specs.declared.lit.Lit.{Lit}
use Rattle.watch_chains.specs.declared.link.Link.{Link}
use Rattle.watch_chains.specs.Chains.{place_of}
use Rattle.watch_chains.specs.Watches.{list_at}
use Rattle.watched_search.specs.declared.lists.Watch.{Watch}
use Rattle.watched_search.specs.Codes.{code, literal}
use Rattle.watched_search.specs.Searching.{clause_at}
use Rattle.watched_search.specs.inner.Keeping.{Watched, slot_of, other_of, watch_at, IsPaired}
use Rattle.watched_search.specs.inner.Lists.{ListView, no_list, row_at, link_of, links_of, links_in, IsBlocked, AreBlocked, HasRoom}
use Rattle.watched_search.specs.inner.Moving.{IsAt}
use Rattle.watched_search.proofs.CodeLemmas.{code-below}
use Rattle.watched_search.proofs.SpanLemmas.{literal-code}
use Rattle.watched_search.proofs.PairLemmas.{pair_of, linked_at, clause_apart}
use Rattle.watched_search.proofs.AddLemmas.{added_chains}
use Rattle.watched_search.proofs.MoveLemmas.{at_slot, left_chains}
use Rattle.watched_search.proofs.RoomLemmas.{links-at, links-set, HasRoom-set, spare}
use Rattle.watched_search.proofs.SwapLemmas.{All-swapped, map-swapped}

-- the list of a literal
pub rows_below : (rows : List ListView) (vars : ℕ) (l : Lit) → length (links_in rows) ≡ 2 * vars → l.var < vars → code l < length rows
rows_below rows vars l size below =
    let long : length (links_in rows) ≡ length rows = length-map rows (λ (r : ListView). links_of r.watches) in
    let lt = code-below l vars below in
    omega arith

pub row_is : (rows : List ListView) (z : ℕ) (l : Lit) (r : ListView) → z ≡ code l → code l < length rows → r ≡ get_or rows z r → r ≡ row_at rows (code l)
row_is rows z l r e lt at = at ∙ ap (λ (n : ℕ). get_or rows n r) e ∙ get_or_default rows (code l) r no_list lt

pub links_long : (rows : List ListView) (z : ℕ) → length (list_at (links_in rows) z) ≡ length (row_at rows z).watches
links_long rows z = ap length (links-at rows z) ∙ length-map (row_at rows z).watches (λ (w : Watch). link_of w)

module _ (rows : List ListView) (z i : ℕ) (k : Link) (w : Watch) (lt : i < length (list_at (links_in rows) z)) (at : get_or (list_at (links_in rows) z) i k ≡ k)
    (read : get_or (row_at rows z).watches i w ≡ w) where
  pub link_is : link_of w ≡ k
  link_is =
      let long = links_long rows z in
      sym (ap (λ (x : Watch). link_of x) read) ∙ sym (get_or-map (λ (x : Watch). link_of x) (row_at rows z).watches i w k (omega arith))
      ∙ ap (λ (xs : List Link). get_or xs i k) (sym (links-at rows z)) ∙ at

  pub place_is : place_of k ≡ w.link
  place_is =
      let c : w.link / 2 ≡ k.clause = ap (λ (x : Link). x.clause) link_is in
      let s : w.link % 2 ≡ k.slot = ap (λ (x : Link). x.slot) link_is in
      omega arith

  pub blocked_at : (clauses : List (List Lit)) → z < length rows → All (AreBlocked clauses) rows → IsBlocked clauses w
  blocked_at clauses within all =
      let long = links_long rows z in
      rw read at (all z no_list within i w (omega arith))

-- another literal is at hand
module _ (rows : List ListView) (z i : ℕ) (w new : Watch) (r : ListView) (within : z < length rows) (lt : i < length (row_at rows z).watches) (read : get_or (row_at rows z).watches i w ≡ w)
    (same : new.link ≡ w.link) (is : r ≡ record (row_at rows z) { watches = set (row_at rows z).watches i new }) where
  pub replaced_links : links_in (set rows z r) ≡ links_in rows
  replaced_links =
      let ws = (row_at rows z).watches in
      let link : link_of new ≡ link_of (get_or ws i w) = ap (λ (n : ℕ). record { clause = n / 2; slot = n % 2 }) same ∙ sym (ap (λ (x : Watch). link_of x) read) in
      map-set_same (λ (x : ListView). links_of x.watches) rows z r no_list
      (ap (λ (x : ListView). links_of x.watches) is ∙ map-set_same (λ (x : Watch). link_of x) ws i new w link)

  pub replaced_blocked : (clauses : List (List Lit)) → IsBlocked clauses new → All (AreBlocked clauses) rows → All (AreBlocked clauses) (set rows z r)
  replaced_blocked clauses h all =
      All-set (AreBlocked clauses) rows z r (rw is (All-set (IsBlocked clauses) (row_at rows z).watches i new h (all z no_list within))) all

  pub replaced_room : (vars : ℕ) (clauses : List (List Lit)) → HasRoom vars clauses rows → HasRoom vars clauses (set rows z r)
  replaced_room vars clauses h = HasRoom-set vars clauses rows z r within (ap (λ (x : ListView). x.room) is) h

pub IsBlocked-by : (clauses : List (List Lit)) (k : Link) (w : Watch) (b : Lit) → k.clause < length clauses → link_of w ≡ k → w.blocker ≡ code b → Contains (clause_at clauses k.clause) b → IsBlocked clauses w
IsBlocked-by clauses k w b lt e is has =
    let c : w.link / 2 ≡ k.clause = ap (λ (x : Link). x.clause) e in
    let it : literal w.blocker ≡ b = ap (λ (n : ℕ). literal n) is ∙ literal-code b in
    record { clause = omega arith; member = rw (c, it) has }

-- a watch is put to the end of a list
module _ (rows : List ListView) (z : ℕ) (w : Watch) (r : ListView) (within : z < length rows)
    (is : r ≡ record (row_at rows z) { watches = (row_at rows z).watches ++ w ∷ [] }) where
  pub put_links : links_in (set rows z r) ≡ linked_at (links_in rows) z (link_of w)
  put_links =
      let ws = (row_at rows z).watches in
      links-set rows z r ∙ ap (λ (xs : List Link). set (links_in rows) z xs)
      (ap (λ (x : ListView). links_of x.watches) is ∙ map-append (λ (x : Watch). link_of x) ws (w ∷ []) ∙ ap (λ (xs : List Link). xs ++ link_of w ∷ []) (sym (links-at rows z)))

  pub put_blocked : (clauses : List (List Lit)) → IsBlocked clauses w → All (AreBlocked clauses) rows → All (AreBlocked clauses) (set rows z r)
  put_blocked clauses h all = All-set (AreBlocked clauses) rows z r (rw is (All-push (IsBlocked clauses) (row_at rows z).watches w (all z no_list within) h)) all

  pub put_room : (vars : ℕ) (clauses : List (List Lit)) → HasRoom vars clauses rows → HasRoom vars clauses (set rows z r)
  put_room vars clauses h = HasRoom-set vars clauses rows z r within (ap (λ (x : ListView). x.room) is) h

-- a watch is taken out
module _ (rows : List ListView) (z i : ℕ) (w : Watch) (r : ListView) (within : z < length rows) (lt : i < length (row_at rows z).watches)
    (is : r ≡ record (row_at rows z) { watches = swap_remove (row_at rows z).watches i w }) where
  pub out_links : links_in (set rows z r) ≡ set (links_in rows) z (swap_remove (list_at (links_in rows) z) i (link_of w))
  out_links =
      links-set rows z r ∙ ap (λ (xs : List Link). set (links_in rows) z xs)
      (ap (λ (x : ListView). links_of x.watches) is ∙ map-swapped (row_at rows z).watches i w lt (λ (x : Watch). link_of x)
      ∙ ap (λ (xs : List Link). swap_remove xs i (link_of w)) (sym (links-at rows z)))

  pub out_blocked : (clauses : List (List Lit)) → All (AreBlocked clauses) rows → All (AreBlocked clauses) (set rows z r)
  out_blocked clauses all = All-set (AreBlocked clauses) rows z r (rw is (All-swapped (row_at rows z).watches i w lt (IsBlocked clauses) (all z no_list within))) all

  pub out_room : (vars : ℕ) (clauses : List (List Lit)) → HasRoom vars clauses rows → HasRoom vars clauses (set rows z r)
  out_room vars clauses h = HasRoom-set vars clauses rows z r within (ap (λ (x : ListView). x.room) is) h

-- the clauses of a literal's list name it
pub list_names : (w : Watched) (l : Lit) → IsPaired w → l.var < w.vars → All (λ m. (m.clause < length w.clauses) × Contains (clause_at w.clauses m.clause) l) (list_at w.chains (code l))
list_names w l h below = λ j d within.
    let m = get_or (list_at w.chains (code l)) j d in
    let st = h.stands m l below (Contains-get_or (list_at w.chains (code l)) j d within) in
    (st.0.clause, (pair_of w m l h st.0 st.1).2)

-- there is room for a link in the list of another literal of its clause
pub room_for_moved : (w : Watched) (rows : List ListView) (l v : Lit) (i : ℕ) (k : Link) → w.chains ≡ links_in rows → IsPaired w → HasRoom w.vars w.clauses rows → IsAt w l i k → v.var < w.vars → v ≢ l
    → Contains (clause_at w.clauses k.clause) v → ((m : Lit) → watch_at w.slots (other_of k) ≡ Some m → v ≢ m) → length (row_at rows (code v)).watches < (row_at rows (code v)).room
room_for_moved w rows l v i k e h room at bv other has apart =
    let st = at_slot w l i k h at in
    let list = list_at w.chains (code v) in
    let long : length list ≡ length (row_at rows (code v)).watches = ap (λ (xs : List (List Link)). length (list_at xs (code v))) e ∙ links_long rows (code v) in
    let fits = spare w.clauses v (row_at rows (code v)).room k.clause list (room v bv) (h.once v bv) (list_names w v h bv)
    (λ j d within. clause_apart w k (get_or list j d) l v h bv st.0 st.1 other apart (Contains-get_or list j d within)) st.0.clause has in
    omega arith

-- with one clause more

old_clause : (clauses : List (List Lit)) (c : List Lit) (n : ℕ) → n < length clauses → clause_at (clauses ++ c ∷ []) n ≡ clause_at clauses n
old_clause clauses c n lt = get_or_append_left clauses (c ∷ []) [] n lt

pub blocked_more : (clauses : List (List Lit)) (c : List Lit) (rows : List ListView) → All (AreBlocked clauses) rows → All (AreBlocked (clauses ++ c ∷ [])) rows
blocked_more clauses c rows h =
    let size = length_push clauses c in
    All-weaker (AreBlocked clauses) (AreBlocked (clauses ++ c ∷ [])) (λ r all. All-weaker (IsBlocked clauses) (IsBlocked (clauses ++ c ∷ [])) (λ w b.
    let lt = b.clause in
    record { clause = omega arith; member = rw (old_clause clauses c (w.link / 2) lt) b.member }) r.watches all) rows h

-- there is room for it in the list of each of its literals
pub room_for_new : (w : Watched) (rows : List ListView) (c : List Lit) (l : Lit) → IsPaired w → HasRoom w.vars (w.clauses ++ c ∷ []) rows → links_in rows ≡ w.chains → l.var < w.vars → Contains c l
    → length (row_at rows (code l)).watches < (row_at rows (code l)).room
room_for_new w rows c l h room e below has =
    let list = list_at w.chains (code l) in
    let size = length_push w.clauses c in
    let long : length list ≡ length (row_at rows (code l)).watches = sym (ap (λ (xs : List (List Link)). length (list_at xs (code l))) e) ∙ links_long rows (code l) in
    let named = list_names w l h below in
    let fits = spare (w.clauses ++ c ∷ []) l (row_at rows (code l)).room (length w.clauses) list (room l below) (h.once l below)
    (λ j d within. let p = named j d within in let lt = p.0 in (omega arith, rw (old_clause w.clauses c (get_or list j d).clause lt) p.1))
    (λ j d within same. let lt = (named j d within).0 in omega arith) (omega arith) (rw (get_or_push w.clauses c [] (length w.clauses) refl) has) in
    omega arith

-- a clause's two watches
pub first_link : (n : ℕ) → link_of (record { link = 2 * n; blocker = 0 }) ≡ slot_of n 0
first_link n = let a : (2 * n) / 2 ≡ n = omega arith in let b : (2 * n) % 2 ≡ 0 = omega arith in rw (a, b) refl

pub second_link : (n : ℕ) → link_of (record { link = 2 * n + 1; blocker = 0 }) ≡ slot_of n 1
second_link n = let a : (2 * n + 1) / 2 ≡ n = omega arith in let b : (2 * n + 1) % 2 ≡ 1 = omega arith in rw (a, b) refl

-- no clause and no watch

none_there : (n z : ℕ) → row_at (replicate n no_list) z ≡ no_list
none_there n z = elim (cases_lt z n) [
  | inl lt ↦ get_or-replicate n z no_list no_list lt
  | inr ge ↦ get_or_past (replicate n no_list) z no_list (let size = length-replicate n no_list in omega arith)
]

none_linked : (n z : ℕ) → list_at (links_in (replicate n no_list)) z ≡ []
none_linked n z = links-at (replicate n no_list) z ∙ ap (λ (r : ListView). links_of r.watches) (none_there n z)

pub IsPaired-none : (vars : ℕ) → IsPaired (record { vars = vars; clauses = []; slots = []; chains = links_in (replicate (2 * vars) no_list) })
IsPaired-none vars =
    let size = length-replicate (2 * vars) no_list in
    record {
      codes = length-map (replicate (2 * vars) no_list) (λ (r : ListView). links_of r.watches) ∙ size;
      slots = omega arith;
      names = λ k d lt. absurd (omega arith);
      pairs = λ c lt. absurd (omega arith);
      stands = λ k l below has. absurd (let bad : has.0 < 0 = rw (none_linked (2 * vars) (code l)) at has.1 in omega arith);
      linked = λ k l s is. absurd (let bad = s.clause in omega arith);
      once = λ l below. rw (none_linked (2 * vars) (code l)) (λ i j d ij jl. absurd (omega arith));
    }

pub blocked_none : (n : ℕ) → All (AreBlocked []) (replicate n no_list)
blocked_none n = λ k d lt.
    let size = length-replicate n no_list in
    rw (get_or-replicate n k no_list d (omega arith)) (λ j e bad. absurd (omega arith))

pub room_none : (vars : ℕ) (rows : List ListView) → HasRoom vars [] rows
room_none vars rows = λ l below cs once all. none_below cs (row_at rows (code l)).room (λ k d lt. (all k d lt).0)
  where
    none_below : (cs : List ℕ) (n : ℕ) → All (λ c. c < 0) cs → length cs ≤ n
    none_below [] n all = omega arith
    none_below (c ∷ cs) n all = absurd (let bad = all 0 0 (omega arith) in omega arith)

-- the lists once a watch went from one to another
pub record MovesRow (vars : ℕ) (clauses : List (List Lit)) (rows new : List ListView) (l v : Lit) (i : ℕ) (k : Link) (w : Watch) : Type 0 where
  pub links : links_in new ≡ linked_at (left_chains (links_in rows) l i k) (code v) k
  pub blocked : All (AreBlocked clauses) new
  pub room : HasRoom vars clauses rows → HasRoom vars clauses new
  pub place : w.link ≡ place_of k

pub moves_row : (vars : ℕ) (clauses : List (List Lit)) (rows : List ListView) (l v : Lit) (i : ℕ) (k : Link) (w : Watch) (a b : ℕ) (r s : ListView) → a ≡ code l → b ≡ code v → a < length rows → b < length rows
    → i < length (list_at (links_in rows) (code l)) → get_or (list_at (links_in rows) (code l)) i k ≡ k → get_or (row_at rows a).watches i w ≡ w
    → r ≡ record (row_at rows a) { watches = swap_remove (row_at rows a).watches i w } → s ≡ record (row_at (set rows a r) b) { watches = (row_at (set rows a r) b).watches ++ w ∷ [] }
    → All (AreBlocked clauses) rows → MovesRow vars clauses rows (set (set rows a r) b s) l v i k w
moves_row vars clauses rows l v i k w a b r s ea eb la lb within at read ir is all =
    let one = set rows a r in
    let chains = links_in rows in
    let long = length-set rows a r in
    let size = ap (λ (n : ℕ). length (list_at chains n)) (sym ea) ∙ links_long rows a in
    let lt : i < length (list_at chains a) = subst (λ (n : ℕ). i < length (list_at chains n)) (sym ea) within in
    let at' : get_or (list_at chains a) i k ≡ k = subst (λ (n : ℕ). get_or (list_at chains n) i k ≡ k) (sym ea) at in
    let inside : i < length (row_at rows a).watches = omega arith in
    let next : b < length one = omega arith in
    record {
      links = put_links one b w s next is ∙ ap (λ (xs : List (List Link)). linked_at xs b (link_of w)) (out_links rows a i w r la inside ir)
          ∙ ap (λ (n : ℕ). linked_at (set chains a (swap_remove (list_at chains a) i (link_of w))) n (link_of w)) eb
          ∙ ap (λ (n : ℕ). linked_at (set chains n (swap_remove (list_at chains n) i (link_of w))) (code v) (link_of w)) ea
          ∙ ap (λ (m : Link). linked_at (left_chains chains l i m) (code v) m) (link_is rows a i k w lt at' read);
      blocked = put_blocked one b w s next is clauses (blocked_at rows a i k w lt at' read clauses la all) (out_blocked rows a i w r la inside ir clauses all);
      room = λ h. put_room one b w s next is vars clauses (out_room rows a i w r la inside ir vars clauses h);
      place = sym (place_is rows a i k w lt at' read);
    }

-- the lists once a clause's two watches were put there
pub record PutsRows (vars : ℕ) (clauses : List (List Lit)) (rows new : List ListView) (n : ℕ) (a b : Lit) : Type 0 where
  pub links : links_in new ≡ added_chains (links_in rows) n a b
  pub blocked : All (AreBlocked clauses) new
  pub room : HasRoom vars clauses rows → HasRoom vars clauses new

pub puts_rows : (vars : ℕ) (clauses : List (List Lit)) (rows : List ListView) (n : ℕ) (a b : Lit) (v w : Watch) (y z : ℕ) (r s : ListView) → y ≡ code a → z ≡ code b → y < length rows → z < length rows
    → n < length clauses → Contains (clause_at clauses n) a → Contains (clause_at clauses n) b → v.link ≡ 2 * n → w.link ≡ 2 * n + 1 → v.blocker ≡ code b → w.blocker ≡ code a
    → r ≡ record (row_at rows y) { watches = (row_at rows y).watches ++ v ∷ [] } → s ≡ record (row_at (set rows y r) z) { watches = (row_at (set rows y r) z).watches ++ w ∷ [] }
    → All (AreBlocked clauses) rows → PutsRows vars clauses rows (set (set rows y r) z s) n a b
puts_rows vars clauses rows n a b v w y z r s ey ez ly lz lt ha hb lv lw bv bw ir is all =
    let one = set rows y r in
    let chains = links_in rows in
    let long = length-set rows y r in
    let next : z < length one = omega arith in
    let first : link_of v ≡ slot_of n 0 = ap (λ (m : ℕ). record { clause = m / 2; slot = m % 2 }) lv ∙ first_link n in
    let second : link_of w ≡ slot_of n 1 = ap (λ (m : ℕ). record { clause = m / 2; slot = m % 2 }) lw ∙ second_link n in
    record {
      links = put_links one z w s next is ∙ ap (λ (xs : List (List Link)). linked_at xs z (link_of w)) (put_links rows y v r ly ir)
          ∙ ap (λ (m : ℕ). linked_at (linked_at chains y (link_of v)) m (link_of w)) ez ∙ ap (λ (m : ℕ). linked_at (linked_at chains m (link_of v)) (code b) (link_of w)) ey
          ∙ ap (λ (k : Link). linked_at (linked_at chains (code a) k) (code b) (link_of w)) first ∙ ap (λ (k : Link). linked_at (linked_at chains (code a) (slot_of n 0)) (code b) k) second;
      blocked = put_blocked one z w s next is clauses (IsBlocked-by clauses (slot_of n 1) w a lt second bw ha)
          (put_blocked rows y v r ly ir clauses (IsBlocked-by clauses (slot_of n 0) v b lt first bv hb) all);
      room = λ h. put_room one z w s next is vars clauses (put_room rows y v r ly ir vars clauses h);
    }
