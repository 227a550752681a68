use Rattle.std.proofs.Common.{◌≡◌, ℕ, ◌+◌, ◌/◌, ◌<◌, ◌≤◌, inl, inr, Bool, true, false, List, [], ◌∷◌, ◌++◌, length, take, get_or, All, None, refl, sym, ◌∙◌, ap, subst, arith, append_assoc}
use Rattle.std.specs.Prelude.{Contains}
use Rattle.std.proofs.lemmas.Bool.{cases_lt}
use Rattle.std.proofs.lemmas.List.{append-nil, get_or-map, get_or-take, length-map, length-take, take_all, take_more}
use Rattle.std.proofs.lemmas.List.Elements.{All-contains, All-push, All-weaker, Contains-append_left}
use Rattle.sat_formula.specs.declared.lit.Lit.{Lit}
use Rattle.sat_formula.specs.Lit.{IsBelow}
use Rattle.watch_chains.specs.declared.link.Link.{Link}
use Rattle.watch_chains.specs.Watches.{list_at}
use Rattle.watched_search.specs.declared.entry.Entry.{Entry}
use Rattle.watched_search.specs.declared.lists.Watch.{Watch}
use Rattle.watched_search.specs.Codes.{code, literal}
use Rattle.watched_search.specs.Trail.{TrailView, lits_of}
use Rattle.watched_search.specs.Searching.{clause_at, HasTrue, IsForced, Forced}
use Rattle.watched_search.specs.inner.Keeping.{Watched, IsPaired}
use Rattle.watched_search.specs.inner.Lists.{link_of, links_of, IsBlocked}
use Rattle.watched_search.specs.inner.Moving.{IsAt, IsMoved}
use Rattle.watched_search.specs.inner.Tables.{Truths}
use Rattle.watched_search.specs.inner.Visiting.{IsDriven, IsFirstOpen, Advances, IsWalked}
use Rattle.watched_search.proofs.SpanLemmas.{code-literal}
use Rattle.watched_search.proofs.TrailLemmas.{lits-append}

-- forced entries behind forced ones

pub Forced-append : (clauses : List (List Lit)) (T : List Lit) (xs ys : List Entry) → Forced clauses T xs → Forced clauses (T ++ lits_of xs) ys → Forced clauses T (xs ++ ys)
Forced-append clauses T [] ys a b = rw (append-nil T) at b
Forced-append clauses T (x ∷ xs) ys a b =
    (a.0, Forced-append clauses (T ++ x.lit ∷ []) xs ys a.1 (rw (append_assoc T (x.lit ∷ []) (lits_of xs)) b))

pub IsDriven-refl : (clauses : List (List Lit)) (t : TrailView) → IsDriven clauses t t
IsDriven-refl clauses t = record { room = refl; more = []; entries = sym (append-nil t.entries); forced = tt }

pub IsDriven-trans : (clauses : List (List Lit)) (t u v : TrailView) → IsDriven clauses t u → IsDriven clauses u v → IsDriven clauses t v
IsDriven-trans clauses t u v a b = record {
  room = b.room ∙ a.room;
  more = a.more ++ b.more;
  entries = b.entries ∙ ap (λ (xs : List Entry). xs ++ b.more) a.entries ∙ append_assoc t.entries a.more b.more;
  forced = Forced-append clauses (lits_of t.entries) a.more b.more a.forced
      (subst (λ (T : List Lit). Forced clauses T b.more) (ap lits_of a.entries ∙ lits-append t.entries a.more) b.forced);
}

pub IsDriven-push : (clauses : List (List Lit)) (t : TrailView) (e : Entry) → IsForced clauses (lits_of t.entries) e → IsDriven clauses t (record t { entries = t.entries ++ e ∷ [] })
IsDriven-push clauses t e h = record { room = refl; more = e ∷ []; entries = refl; forced = (h, tt) }

-- what was true stays true
pub stays_true : (clauses : List (List Lit)) (t u : TrailView) (l : Lit) → IsDriven clauses t u → Contains (lits_of t.entries) l → Contains (lits_of u.entries) l
stays_true clauses t u l d has =
    rw (ap lits_of d.entries ∙ lits-append t.entries d.more) (Contains-append_left (lits_of t.entries) (lits_of d.more) l has)

pub HasTrue-later : (clauses : List (List Lit)) (t u : TrailView) (c : List Lit) → IsDriven clauses t u → HasTrue (lits_of t.entries) c → HasTrue (lits_of u.entries) c
HasTrue-later clauses t u c d h = (h.0, h.1, stays_true clauses t u h.0 d h.2)

pub Advances-refl : (w : Watched) (t : TrailView) → IsPaired w → Advances w w t t
Advances-refl w t h = record { vars = refl; clauses = refl; paired = h; driven = IsDriven-refl w.clauses t; kept = λ p h. h }

pub Advances-trans : (w x y : Watched) (t u v : TrailView) → Advances w x t u → Advances x y u v → Advances w y t v
Advances-trans w x y t u v a b = record {
  vars = b.vars ∙ a.vars;
  clauses = b.clauses ∙ a.clauses;
  paired = b.paired;
  driven = IsDriven-trans w.clauses t u v a.driven (subst (λ (cs : List (List Lit)). IsDriven cs u v) a.clauses b.driven);
  kept = λ p h. b.kept p (a.kept p h);
}

-- the walk along the list of l: the clauses of its first i links are true
pub record Walks (w0 w : Watched) (t0 t : TrailView) (l : Lit) (i : ℕ) : Type 0 where
  pub advances : Advances w0 w t0 t
  pub within : i ≤ length (list_at w.chains (code l))
  pub looked : All (λ k. HasTrue (lits_of t.entries) (clause_at w.clauses k.clause)) (take i (list_at w.chains (code l)))

later_looked : (w x : Watched) (t u : TrailView) (front : List Link) → Advances w x t u
    → All (λ k. HasTrue (lits_of t.entries) (clause_at w.clauses k.clause)) front → All (λ k. HasTrue (lits_of u.entries) (clause_at x.clauses k.clause)) front
later_looked w x t u front a h =
    rw a.clauses (All-weaker (λ k. HasTrue (lits_of t.entries) (clause_at w.clauses k.clause)) (λ k. HasTrue (lits_of u.entries) (clause_at w.clauses k.clause))
    (λ k p. HasTrue-later w.clauses t u (clause_at w.clauses k.clause) a.driven p) front h)

-- a watch ends a visit where the literal that it has at hand is true
ends_visit : (w : Watched) (t : TrailView) (x : Watch) (truths : List Bool) → IsPaired w → w.vars ≡ t.room → IsBlocked w.clauses x → Truths t.room truths (lits_of t.entries)
    → get_or truths x.blocker false ≡ true → HasTrue (lits_of t.entries) (clause_at w.clauses (link_of x).clause)
ends_visit w t x truths paired room blocked table marked =
    let b = literal x.blocker in
    let below : b.var < w.vars = All-contains (IsBelow w.vars) (clause_at w.clauses (x.link / 2)) b (paired.names (x.link / 2) [] blocked.clause) blocked.member in
    (b, blocked.member, (table.told b (rw (← room) below)).0 (rw (code-literal x.blocker) marked))

-- watches with a true literal at hand are passed over
pub Walks-skip : (w0 w : Watched) (t0 t : TrailView) (l : Lit) (from place : ℕ) (watches : List Watch) (truths : List Bool) → Walks w0 w t0 t l from → w0.vars ≡ t0.room
    → links_of watches ≡ list_at w.chains (code l) → All (IsBlocked w.clauses) watches → Truths t.room truths (lits_of t.entries) → IsFirstOpen watches truths from place → Walks w0 w t0 t l place
Walks-skip w0 w t0 t l from place watches truths h same links blocked table first =
    let list = list_at w.chains (code l) in
    let room : w.vars ≡ t.room = h.advances.vars ∙ same ∙ sym h.advances.driven.room in
    let long : length watches ≡ length list = sym (length-map watches (λ (x : Watch). link_of x)) ∙ ap length links in
    let within = first.within in
    let front = h.within in
    record {
      advances = h.advances;
      within = omega arith;
      looked = λ k d lt.
          let size = length-take place list in
          let before : k < place = omega arith in
          rw (get_or-take place list k d before) (elim (cases_lt k from) [
            | inl old ↦ rw (get_or-take from list k d old) at (h.looked k d (let part = length-take from list in omega arith))
            | inr new ↦
                (let x = get_or watches k no_watch in
                let link : link_of x ≡ get_or list k d = sym (get_or-map (λ (x : Watch). link_of x) watches k no_watch d (omega arith)) ∙ ap (λ (ks : List Link). get_or ks k d) links in
                rw (← link) (ends_visit w t x truths h.advances.paired room (blocked k no_watch (omega arith)) table (first.passed k no_watch new before)))
          ]);
    }
  where
    no_watch : Watch
    no_watch = record { link = 0; blocker = 0 }

-- where the walk has come to
pub walk_at : (w0 w : Watched) (t0 t : TrailView) (l : Lit) (from i : ℕ) (k : Link) (watches : List Watch) (d : Watch) → Walks w0 w t0 t l from → l.var < w0.vars
    → links_of watches ≡ list_at w.chains (code l) → i < length watches → k ≡ link_of (get_or watches i d) → IsAt w l i k
walk_at w0 w t0 t l from i k watches d h below links within is =
    let long = length-map watches (λ (x : Watch). link_of x) in
    let same = ap length links in
    record {
      below = rw h.advances.vars below;
      within = omega arith;
      link = ap (λ (ks : List Link). get_or ks i k) (sym links) ∙ get_or-map (λ (x : Watch). link_of x) watches i d k within ∙ sym is;
    }

-- the link stays
pub Walks-stay : (w0 w x : Watched) (t0 t u : TrailView) (l : Lit) (i : ℕ) (k : Link) → Walks w0 w t0 t l i → IsAt w l i k
    → Advances w x t u → x ≡ w → HasTrue (lits_of u.entries) (clause_at x.clauses k.clause) → Walks w0 x t0 u l (i + 1)
Walks-stay w0 w x t0 t u l i k h at a same true' =
    let list = list_at w.chains (code l) in
    let lists : list_at x.chains (code l) ≡ list = ap (λ (y : Watched). list_at y.chains (code l)) same in
    let more : take (i + 1) list ≡ take i list ++ k ∷ [] = take_more list i k at.within ∙ ap (λ (n : Link). take i list ++ n ∷ []) at.link in
    let le = at.within in
    record {
      advances = Advances-trans w0 w x t0 t u h.advances a;
      within = rw lists (omega arith);
      looked = rw (lists, more) (All-push (λ k. HasTrue (lits_of u.entries) (clause_at x.clauses k.clause)) (take i list) k (later_looked w x t u (take i list) a h.looked) true');
    }

-- the link leaves the list
pub Walks-move : (w0 w x : Watched) (t0 t u : TrailView) (l : Lit) (i : ℕ) (k : Link) → Walks w0 w t0 t l i → IsAt w l i k
    → Advances w x t u → (v : Lit) × IsMoved w x l i k v → Walks w0 x t0 u l i
Walks-move w0 w x t0 t u l i k h at a moved =
    let fewer = moved.1.fewer in
    let within = at.within in
    record {
      advances = Advances-trans w0 w x t0 t u h.advances a;
      within = omega arith;
      looked = rw moved.1.front (later_looked w x t u (take i (list_at w.chains (code l))) a h.looked);
    }

-- the walk is over
pub Walks-end : (w0 w : Watched) (t0 t : TrailView) (l : Lit) (i : ℕ) → Walks w0 w t0 t l i → length (list_at w.chains (code l)) ≤ i → IsWalked w t l None
Walks-end w0 w t0 t l i h past = rw (take_all i (list_at w.chains (code l)) past) at h.looked
