-- The steps in which the edges of two sets are made into those of one.
use Rattle.std.proofs.Common.{◌≡◌, ℕ, ◌+◌, ◌<◌, ◌≤◌, Bool, true, false, ◌&&◌, ◌||◌, List, [], ◌∷◌, ◌++◌, length, take, drop, get_or, refl, sym, ap, ◌∙◌, subst, arith}
use Rattle.std.specs.Prelude.{if◌then◌else◌}
use Rattle.std.proofs.lemmas.List.{drop_more}
use Rattle.std.proofs.lemmas.List.Folds.{list_any_more, list_any-append}
use Rattle.std.proofs.lemmas.List.Elements.{All-push, All-weaker, All-head, All-rest, All-nil, All-cons}
use Rattle.sat_formula.specs.declared.lit.Lit.{Lit}
use Rattle.sat_formula.specs.declared.cnf.Cnf.{Cnf}
use Rattle.sat_formula.specs.Lit.{lit_value, IsBelow}
use Rattle.sat_formula.specs.Formula.{Satisfies, Grows, HasValue}
use Rattle.sat_formula.proofs.Extension.{Satisfies-older}
use Rattle.tla_values.specs.declared.value.Value.{Value}
use Rattle.cell_arena.specs.declared.kinds.CellId.{CellId}
use Rattle.cell_arena.specs.declared.kinds.CellKind.{CellKind}
use Rattle.cell_arena.specs.declared.kinds.CellKind.TheVariants.{Set}
use Rattle.cell_arena.specs.Cells.{Cells, IsHeld, NamesBelow}
use Rattle.cell_arena.specs.Decode.{decode}
use Rattle.cell_merge.specs.declared.merging.Join.{Join}
use Rattle.cell_merge.specs.declared.merging.Join.TheVariants.{Either, Chosen}
use Rattle.cell_merge.specs.Sorts.{OfSort}
use Rattle.cell_merge.specs.Edges.{any_edge, LeadTo, AreNamed, joined, JoinsAll, Merges, OneSort, TwoSets}
use Rattle.cell_merge.specs.inner.Parts.{Parted, Joins, Joining}

abbrev Edge : Type 0
Edge = Lit × CellId

pub AreNamed-later : (m n : ℕ) (es : List Edge) → AreNamed m es → m ≤ n → AreNamed n es
AreNamed-later m n es h le = All-weaker (λ (e : Edge). IsBelow m e.0) (λ (e : Edge). IsBelow n e.0) (λ e b. omega arith) es h

-- the edges of a set cell
pub edges-named : (c : Cells) (m n : ℕ) (k : CellKind) (es : List Edge) → IsHeld m c.vars c.width k → k ≡ Set es → c.vars ≤ n → AreNamed n es
edges-named c m n k es held is le = let P : CellKind → Type 0 = NamesBelow c.vars in AreNamed-later c.vars n es (subst P is held.named) le

-- an edge at an index
pub named-at : (m n : ℕ) (es : List Edge) (i : ℕ) (d : Edge) → AreNamed m es → i < length es → m ≤ n → (get_or es i d).0.var < n
named-at m n es i d h lt le = let p = h i d lt in omega arith

pub any-push : (a : List Bool) (of : CellId → Value) (p : Value → Bool) (es : List Edge) (e : Edge) → any_edge a of p (es ++ e ∷ []) ≡ (any_edge a of p es || (lit_value e.0 a && p (of e.1)))
any-push a of p es e = list_any-append (λ (e : Edge). lit_value e.0 a && p (of e.1)) es (e ∷ []) ∙ ap (λ t. any_edge a of p es || t) (last (lit_value e.0 a && p (of e.1)))
  where
    last : (t : Bool) → (t || false) ≡ t
    last true = refl
    last false = refl

pub any-more : (a : List Bool) (of : CellId → Value) (p : Value → Bool) (es : List Edge) (i : ℕ) (d : Edge) → i < length es
    → any_edge a of p (take (i + 1) es) ≡ (any_edge a of p (take i es) || (lit_value (get_or es i d).0 a && p (of (get_or es i d).1)))
any-more a of p es i d lt = list_any_more (λ (e : Edge). lit_value e.0 a && p (of e.1)) es i d lt

-- ---- Boolean steps

or_assoc : (p q r : Bool) → ((p || q) || r) ≡ (p || (q || r))
or_assoc true q r = refl
or_assoc false q r = refl

found-test : (m o l q : Bool) → (((m && q) || o) || (l && q)) ≡ (((m || l) && q) || o)
found-test m o l q = grind arith

either-test : (o l n q r e f : Bool) → (o || ((n && q) || r)) ≡ (e || f) → ((o || ((l || n) && q)) || r) ≡ ((e || (l && q)) || f)
either-test o l n q r e f h = grind arith

chosen-test : (t o l n q r e f : Bool) → (o || (if t then false else ((n && q) || r))) ≡ (if t then e else f)
    → ((o || ((if t then l else n) && q)) || (if t then false else r)) ≡ (if t then (e || (l && q)) else f)
chosen-test true o l n q r e f h = grind arith
chosen-test false o l n q r e f h = grind arith

-- an edge of the first set, with what is gone of the second
join-test : (join : Join) (a : List Bool) (o l n q r e f : Bool) → (o || joined join a false ((n && q) || r)) ≡ joined join a e f
    → ((o || (joined join a l n && q)) || joined join a false r) ≡ joined join a (e || (l && q)) f
join-test Either a o l n q r e f h = either-test o l n q r e f h
join-test (Chosen c) a o l n q r e f h = chosen-test (lit_value c a) o l n q r e f h

-- an edge of what is left of the second set
rest-test : (join : Join) (a : List Bool) (o m n q r : Bool) (z : Bool) → m ≡ false → (o || joined join a false ((n && q) || r)) ≡ z → ((o || (joined join a m n && q)) || joined join a false r) ≡ z
rest-test Either a o m n q r z e h = grind arith
rest-test (Chosen c) a o m n q r z e h = chosen (lit_value c a) h
  where
    chosen : (t : Bool) → (o || (if t then false else ((n && q) || r))) ≡ z → ((o || ((if t then m else n) && q)) || (if t then false else r)) ≡ z
    chosen true h = grind arith
    chosen false h = grind arith

-- ---- one set in two parts

module _ (c : Cells) (f : Cnf) (cell : CellId) (es : List Edge) (i : ℕ) (e : Edge) (l : Lit) (others : List Edge) (lt : i < length es) (is : e ≡ get_or es i e)
    (parted : Parted c f cell (take i es) es l others) where
  more : (a : List Bool) (p : Value → Bool) → any_edge a (decode c a) p (take (i + 1) es) ≡ (any_edge a (decode c a) p (take i es) || (lit_value e.0 a && p (decode c a e.1)))
  more a p = any-more a (decode c a) p es i e lt ∙ ap (λ (x : Edge). any_edge a (decode c a) p (take i es) || (lit_value x.0 a && p (decode c a x.1))) (sym is)

  -- one more edge that is alike
  pub parted-found : (g : Cnf) (m : Lit) → Grows f g → HasValue g m (λ a. lit_value l a || lit_value e.0 a) → ((a : List Bool) → decode c a cell ≡ decode c a e.1)
      → Parted c g cell (take (i + 1) es) es m others
  parted-found g m grows gate same = record {
    below = gate.below;
    named = AreNamed-later f.vars g.vars others parted.named grows.vars;
    sorts = parted.sorts;
    members = λ a sat p.
        let of : CellId → Value = decode c a in
        more a p ∙ ap (λ t. t || (lit_value e.0 a && p (of e.1))) (parted.members a (Satisfies-older f g a grows sat) p)
        ∙ ap (λ (v : Value). ((lit_value l a && p (of cell)) || any_edge a of p others) || (lit_value e.0 a && p v)) (sym (same a))
        ∙ found-test (lit_value l a) (any_edge a of p others) (lit_value e.0 a) (p (of cell))
        ∙ ap (λ t. (t && p (of cell)) || any_edge a of p others) (sym (gate.value a sat));
  }

  -- one more edge that is another
  pub parted-other : (new : List Edge) → new ≡ others ++ e ∷ [] → e.0.var < f.vars → Parted c f cell (take (i + 1) es) es l new
  parted-other new pushed below = record {
    below = parted.below;
    named = rw pushed (All-push (λ (x : Edge). IsBelow f.vars x.0) others e parted.named below);
    sorts = λ s h.
        let here : OfSort c.kinds s e.1 = subst (λ (x : Edge). OfSort c.kinds s x.1) (sym is) (h i e lt) in
        rw pushed (All-push (λ (x : Edge). OfSort c.kinds s x.1) others e (parted.sorts s h) here);
    members = λ a sat p.
        let of : CellId → Value = decode c a in
        more a p ∙ ap (λ t. t || (lit_value e.0 a && p (of e.1))) (parted.members a sat p)
        ∙ or_assoc (lit_value l a && p (of cell)) (any_edge a of p others) (lit_value e.0 a && p (of e.1))
        ∙ sym (ap (λ (xs : List Edge). (lit_value l a && p (of cell)) || any_edge a of p xs) pushed ∙ ap (λ t. (lit_value l a && p (of cell)) || t) (any-push a of p others e));
  }

-- ---- two sets, an edge at a time

module _ (c : Cells) (f g h : Cnf) (join : Join) (es fs : List Edge) (i : ℕ) (e : Edge) (n : Lit) (out new rest others : List Edge) (lt : i < length es) (is : e ≡ get_or es i e)
    (joining : Joining c f join (take i es) es fs out rest) (parted : Parted c g e.1 rest rest n others)
    (joins : Joins c.kinds h join e.0 n e.1 out new) (first : Grows f g) (second : Grows g h) where
  pub joining-more : Joining c h join (take (i + 1) es) es fs new others
  joining-more = record {
    named = joins.named;
    rest_named = AreNamed-later g.vars h.vars others parted.named second.vars;
    sorts = λ s l r. joins.sorts s (joining.sorts s l r) (subst (λ (x : Edge). OfSort c.kinds s x.1) (sym is) (l i e lt));
    rest_sorts = λ s r. parted.sorts s (joining.rest_sorts s r);
    members = λ a sat p.
        let of : CellId → Value = decode c a in
        let two : Satisfies a g = Satisfies-older g h a second sat in
        let one : Satisfies a f = Satisfies-older f g a first two in
        let q : Bool = p (of e.1) in
        let before = subst (λ t. (any_edge a of p out || joined join a false t) ≡ joined join a (any_edge a of p (take i es)) (any_edge a of p fs)) (parted.members a two p) (joining.members a one p) in
        ap (λ t. t || joined join a false (any_edge a of p others)) (joins.members a sat of p)
        ∙ join-test join a (any_edge a of p out) (lit_value e.0 a) (lit_value n a) q (any_edge a of p others) (any_edge a of p (take i es)) (any_edge a of p fs) before
        ∙ ap (λ t. joined join a t (any_edge a of p fs)) (sym (any-more a of p es i e lt ∙ ap (λ (x : Edge). any_edge a of p (take i es) || (lit_value x.0 a && p (of x.1))) (sym is)));
  }

module _ (c : Cells) (f g : Cnf) (join : Join) (es fs left : List Edge) (i : ℕ) (e : Edge) (none : Lit) (out new : List Edge) (lt : i < length left) (is : e ≡ get_or left i e)
    (joining : Joining c f join es es fs out (drop i left))
    (joins : Joins c.kinds g join none e.0 e.1 out new) (grows : Grows f g) (off : (a : List Bool) → Satisfies a g → lit_value none a ≡ false) where
  here : drop i left ≡ e ∷ drop (i + 1) left
  here = drop_more left i e lt ∙ ap (λ (x : Edge). x ∷ drop (i + 1) left) (sym is)

  pub joining-rest : Joining c g join es es fs new (drop (i + 1) left)
  joining-rest = record {
    named = joins.named;
    rest_named = AreNamed-later f.vars g.vars (drop (i + 1) left) (All-rest (λ (x : Edge). IsBelow f.vars x.0) e (drop (i + 1) left) (drop i left) here joining.rest_named) grows.vars;
    sorts = λ s l r.
        let cells = subst (λ (xs : List Edge). LeadTo c.kinds s xs) here (joining.rest_sorts s r) in
        joins.sorts s (joining.sorts s l r) (All-head (λ (x : Edge). OfSort c.kinds s x.1) e (drop (i + 1) left) cells);
    rest_sorts = λ s r. All-rest (λ (x : Edge). OfSort c.kinds s x.1) e (drop (i + 1) left) (drop i left) here (joining.rest_sorts s r);
    members = λ a sat p.
        let of : CellId → Value = decode c a in
        let q : Bool = p (of e.1) in
        let before = subst (λ (xs : List Edge). (any_edge a of p out || joined join a false (any_edge a of p xs)) ≡ joined join a (any_edge a of p es) (any_edge a of p fs)) here
        (joining.members a (Satisfies-older f g a grows sat) p) in
        ap (λ t. t || joined join a false (any_edge a of p (drop (i + 1) left))) (joins.members a sat of p)
        ∙ rest-test join a (any_edge a of p out) (lit_value none a) (lit_value e.0 a) q (any_edge a of p (drop (i + 1) left)) (joined join a (any_edge a of p es) (any_edge a of p fs)) (off a sat) before;
  }

-- ---- one set with one edge for alike members

module _ (c : Cells) (f g h : Cnf) (es : List Edge) (i : ℕ) (e : Edge) (n : Lit) (out new others : List Edge) (lt : i < length es) (is : e ≡ get_or es i e)
    (joins : JoinsAll c f es (take i es) out) (parted : Parted c g e.1 out out n others) (one : Joins c.kinds h Either e.0 n e.1 others new) (first : Grows f g) (second : Grows g h) where
  pub alike-more : JoinsAll c h es (take (i + 1) es) new
  alike-more = record {
    named = one.named;
    sorts = λ s l. one.sorts s (parted.sorts s (joins.sorts s l)) (subst (λ (x : Edge). OfSort c.kinds s x.1) (sym is) (l i e lt));
    members = λ a sat p.
        let of : CellId → Value = decode c a in
        let two : Satisfies a g = Satisfies-older g h a second sat in
        let q : Bool = p (of e.1) in
        one.members a sat of p ∙ alike-test (any_edge a of p others) (lit_value e.0 a) (lit_value n a) q
        ∙ ap (λ t. t || (lit_value e.0 a && q)) (sym (parted.members a two p) ∙ joins.members a (Satisfies-older f g a first two) p)
        ∙ sym (any-more a of p es i e lt ∙ ap (λ (x : Edge). any_edge a of p (take i es) || (lit_value x.0 a && p (of x.1))) (sym is));
  }
    where
      alike-test : (o l m q : Bool) → (o || ((l || m) && q)) ≡ (((m && q) || o) || (l && q))
      alike-test o l m q = grind arith

pub joins-none : (c : Cells) (f : Cnf) (es : List Edge) → JoinsAll c f es [] []
joins-none c f es = record {
  named = All-nil (λ (x : Edge). IsBelow f.vars x.0);
  sorts = λ s l. All-nil (λ (x : Edge). OfSort c.kinds s x.1);
  members = λ a s p. refl;
}

-- none of the edges is ever there, as the one is not
pub joins-never : (c : Cells) (f : Cnf) (es out : List Edge) (i : ℕ) (e : Edge) (none : Lit) → out ≡ [] → JoinsAll c f es es out → i < length es → e ≡ get_or es i e → none.var < f.vars
    → ((a : List Bool) → Satisfies a f → lit_value none a ≡ false) → JoinsAll c f es es ((none, e.1) ∷ [])
joins-never c f es out i e none empty joins lt is below off = record {
  named = All-cons (λ (x : Edge). IsBelow f.vars x.0) (none, e.1) [] below (All-nil (λ (x : Edge). IsBelow f.vars x.0));
  sorts = λ s l.
      let here : OfSort c.kinds s e.1 = subst (λ (x : Edge). OfSort c.kinds s x.1) (sym is) (l i e lt) in
      All-cons (λ (x : Edge). OfSort c.kinds s x.1) (none, e.1) [] here (All-nil (λ (x : Edge). OfSort c.kinds s x.1));
  members = λ a s p.
      let of : CellId → Value = decode c a in
      ap (λ t. (t && p (of e.1)) || false) (off a s) ∙ sym (ap (any_edge a of p) empty) ∙ joins.members a s p;
}

-- two sets each of which was joined
module _ (c : Cells) (f g : Cnf) (es fs left right : List Edge) (one : JoinsAll c f es es left) (two : JoinsAll c g fs fs right) where
  pub sets-joined : (n : ℕ) → TwoSets c.kinds n es fs → f.vars ≤ g.vars → TwoSets c.kinds g.vars left right
  sets-joined n t le = record {
    sort = t.sort;
    left = one.sorts t.sort t.left;
    right = two.sorts t.sort t.right;
    left_named = AreNamed-later f.vars g.vars left one.named le;
    right_named = two.named;
  }

  pub merges-joined : (h : Cnf) (join : Join) (out : List Edge) → Merges c h join left right out → Grows f g → Grows g h → Merges c h join es fs out
  merges-joined h join out m first second = record {
    named = m.named;
    sorts = λ s l r. m.sorts s (one.sorts s l) (two.sorts s r);
    members = λ a sat p.
        let of : CellId → Value = decode c a in
        let s1 : Satisfies a g = Satisfies-older g h a second sat in
        m.members a sat p ∙ ap (λ t. joined join a t (any_edge a of p right)) (one.members a (Satisfies-older f g a first s1) p)
        ∙ ap (λ t. joined join a (any_edge a of p es) t) (two.members a s1 p);
  }

pub left-set : (ks : List CellKind) (n : ℕ) (es fs : List Edge) → TwoSets ks n es fs → OneSort ks n es
left-set ks n es fs t = record { sort = t.sort; cells = t.left; named = t.left_named }

pub right-set : (ks : List CellKind) (m n : ℕ) (es fs : List Edge) → TwoSets ks m es fs → m ≤ n → OneSort ks n fs
right-set ks m n es fs t le = record { sort = t.sort; cells = t.right; named = AreNamed-later m n fs t.right_named le }
