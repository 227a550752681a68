-- The steps of a pick.
use Rattle.std.proofs.Common.{◌≡◌, ℕ, ◌+◌, ◌*◌, ◌<◌, ◌≤◌, Bool, true, false, ◌&&◌, ◌||◌, List, [], ◌∷◌, ◌++◌, length, take, drop, get_or, All, refl, sym, ap, ◌∙◌, subst, arith, append_assoc, length-drop, ◌⊎◌, inl, inr}
use Rattle.std.specs.Prelude.{if◌then◌else◌}
use Rattle.std.specs.List.{list_any}
use Rattle.std.proofs.lemmas.Bool.{cases_lt, or_cases}
use Rattle.std.proofs.lemmas.List.{append-nil, take_all, take-append-drop, length_push, get_or_push, get_or_past, get_or-drop}
use Rattle.std.proofs.lemmas.List.Folds.{list_any_at, list_any-append, list_any_more}
use Rattle.std.proofs.lemmas.List.Elements.{All-push, All-weaker, All-head, All-tail, All-take, All-drop}
use Rattle.sat_formula.specs.declared.lit.Lit.{Lit}
use Rattle.sat_formula.specs.declared.cnf.Cnf.{Cnf}
use Rattle.sat_formula.specs.Lit.{lit_value, IsBelow}
use Rattle.sat_formula.specs.Formula.{Satisfies, Extends, Grows as FormulaGrows, EitherExtends}
use Rattle.sat_formula.proofs.Extension.{lit_value-append}
use Rattle.tla_values.specs.Order.{same_value}
use Rattle.tla_values.specs.declared.value.Value.{Value}
use Rattle.tla_values.proofs.Extensional.{same_itself, same_equal}
use Rattle.cell_arena.specs.declared.build.Build.{Build}
use Rattle.cell_arena.specs.declared.kinds.CellId.{CellId}
use Rattle.cell_arena.specs.declared.kinds.CellKind.TheVariants.{Set}
use Rattle.cell_arena.specs.Cells.{Cells}
use Rattle.cell_arena.specs.Decode.{decode, kind_value}
use Rattle.cell_arena.specs.Growth.{Grows}
use Rattle.cell_arena.proofs.Growing.{Decodes-later, Satisfies-before, decode-before, decode-assigned}
use Rattle.cell_merge.specs.Sorts.{Sort, OfSort, OneType, set_of as set_sort}
use Rattle.cell_merge.specs.Choices.{Chooses}
use Rattle.cell_merge.specs.Picks.{PicksFrom}
use Rattle.cell_merge.specs.Edges.{any_edge, LeadTo, AreNamed, JoinsAll}
use Rattle.cell_merge.specs.inner.Layers.{AreEdges, ChoosesEdge, ChoosesEach, GoesOn, Narrows}
use Rattle.cell_merge.proofs.Edges.{any-cell, sort-there}
use Rattle.cell_merge.proofs.SortLaws.{OfSort-later}
use Rattle.cell_merge.proofs.Unions.{AreNamed-later, any-push}

abbrev Edge : Type 0
Edge = Lit × CellId

pub Chooses-later : (old mid new : Build) (l : Lit) (x y id : CellId) → Chooses old mid l x y id → Grows mid new → Chooses old new l x y id
Chooses-later old mid new l x y id h g = record {
  value = Decodes-later mid new id _ h.value g;
  sort = λ s p q. OfSort-later mid new s id (h.sort s p q) g;
}

pub LeadTo-later : (b c : Build) (s : Sort) (es : List Edge) → LeadTo b.arena.kinds s es → Grows b c → LeadTo c.arena.kinds s es
LeadTo-later b c s es h g = All-weaker (λ (e : Edge). OfSort b.arena.kinds s e.1) (λ (e : Edge). OfSort c.arena.kinds s e.1) (λ e p. OfSort-later b c s e.1 p g) es h

-- older edges have the values that they had
pub any-before : (b c : Build) (a : List Bool) (p : Value → Bool) (s : Sort) (es : List Edge) → Grows b c → LeadTo b.arena.kinds s es → any_edge a (decode c.arena a) p es ≡ any_edge a (decode b.arena a) p es
any-before b c a p s [] g h = refl
any-before b c a p s (e ∷ es) g h =
    let P : Edge → Type 0 = λ e. OfSort b.arena.kinds s e.1 in
    let here = decode-before b c a e.1 g (sort-there b.arena.kinds s e.1 (All-head P e es h)) in
    let rest = any-before b c a p s es g (All-tail P e es h) in
    ap (λ (v : Value). (lit_value e.0 a && p v) || any_edge a (decode c.arena a) p es) here ∙ ap (λ t. (lit_value e.0 a && p (decode b.arena a e.1)) || t) rest

-- and under a longer assignment too
pub any-longer : (b : Build) (a more : List Bool) (p : Value → Bool) (es : List Edge) → length a ≡ b.formula.vars → AreNamed b.formula.vars es
    → any_edge (a ++ more) (decode b.arena (a ++ more)) p es ≡ any_edge a (decode b.arena a) p es
any-longer b a more p [] n h = refl
any-longer b a more p (e ∷ es) n h =
    let P : Edge → Type 0 = λ e. IsBelow b.formula.vars e.0 in
    let below : e.0.var < b.formula.vars = All-head P e es h in
    let lit = lit_value-append e.0 a more (omega arith) in
    let cell = decode-assigned b e.1 a more n in
    let rest = any-longer b a more p es n (All-tail P e es h) in
    ap (λ t. (t && p (decode b.arena (a ++ more) e.1)) || any_edge (a ++ more) (decode b.arena (a ++ more)) p es) lit
    ∙ ap (λ (v : Value). (lit_value e.0 a && p v) || any_edge (a ++ more) (decode b.arena (a ++ more)) p es) cell
    ∙ ap (λ t. (lit_value e.0 a && p (decode b.arena a e.1)) || t) rest

-- ---- the partner of an edge

module _ (es : List Edge) (i half : ℕ) (d : Edge) (lt : i < length es) where
  abbrev partner : Edge
  partner = get_or es (i + half) (get_or es i d)

  pub partner-all : (P : Edge → Type 0) → All P es → P partner
  partner-all P h = go (cases_lt (i + half) (length es))
    where
      go : (i + half < length es) ⊎ (length es ≤ i + half) → P partner
      go (inl k) = h (i + half) (get_or es i d) k
      go (inr k) = subst P (sym (get_or_past es (i + half) (get_or es i d) k)) (h i d lt)

  pub partner-any : (q : Edge → Bool) → q partner ≡ true → list_any q es ≡ true
  partner-any q h = go (cases_lt (i + half) (length es))
    where
      go : (i + half < length es) ⊎ (length es ≤ i + half) → list_any q es ≡ true
      go (inl k) = list_any_at q es (i + half) (get_or es i d) k h
      go (inr k) = list_any_at q es i d lt (ap q (sym (get_or_past es (i + half) (get_or es i d) k)) ∙ h)

  -- one more edge of those behind
  pub partner-more : (q : Edge → Bool) → list_any q (take (i + 1) (drop half es)) ≡ true → (list_any q (take i (drop half es)) || q partner) ≡ true
  partner-more q h = go (cases_lt (i + half) (length es))
    where
      or_first : (s t : Bool) → s ≡ true → (s || t) ≡ true
      or_first s t e = ap (λ u. u || t) e

      go : (i + half < length es) ⊎ (length es ≤ i + half) → (list_any q (take i (drop half es)) || q partner) ≡ true
      go (inl k) =
          let e : get_or (drop half es) i (get_or es i d) ≡ partner = get_or-drop half es i (get_or es i d) ∙ ap (λ (n : ℕ). get_or es n (get_or es i d)) (omega arith) in
          ap (λ (x : Edge). list_any q (take i (drop half es)) || q x) (sym e)
          ∙ sym (list_any_more q (drop half es) i (get_or es i d) (omega (arith, length-drop half es))) ∙ h
      go (inr k) =
          let short : length (drop half es) ≤ i = omega (arith, length-drop half es) in
          let same : take (i + 1) (drop half es) ≡ take i (drop half es) = take_all (i + 1) (drop half es) (omega arith) ∙ sym (take_all i (drop half es) short) in
          or_first _ _ (ap (list_any q) (sym same) ∙ h)

-- ---- one more chosen edge

or_right : (p q : Bool) → q ≡ true → (p || q) ≡ true
or_right true q e = refl
or_right false q e = e

or_left : (p q : Bool) → p ≡ true → (p || q) ≡ true
or_left p q e = ap (λ t. t || q) e

if-on : {X : Type 0} (t : Bool) (x y : X) → t ≡ true → (if t then x else y) ≡ x
if-on t x y e = ap (λ b. if b then x else y) e

if-off : {X : Type 0} (t : Bool) (x y : X) → t ≡ false → (if t then x else y) ≡ y
if-off t x y e = ap (λ b. if b then x else y) e

module _ (old mid new : Build) (l : Lit) (es : List Edge) (half i : ℕ) (d : Edge) (out after : List Edge) (y r : Edge) (lt : i < length es)
    (is : y ≡ get_or es (i + half) (get_or es i d)) (edges : AreEdges old es) (before : Grows old mid) (grows : Grows mid new)
    (each : ChoosesEach old mid l es half i out) (edge : ChoosesEdge mid new l (get_or es i d) y r) (pushed : after ≡ out ++ r ∷ []) where
  abbrev passes : List Bool → (Value → Bool) → Edge → Bool
  passes a p e = lit_value e.0 a && p (decode old.arena a e.1)

  abbrev IsOfSort : Edge → Type 0
  IsOfSort e = OfSort old.arena.kinds edges.sort e.1

  x-sort : IsOfSort (get_or es i d)
  x-sort = edges.cells i d lt

  y-sort : IsOfSort y
  y-sort = subst IsOfSort (sym is) (partner-all es i half d lt IsOfSort edges.cells)

  -- the new edge has the value of one of the two
  chosen-test : (a : List Bool) (p : Value → Bool) → Satisfies a new.formula
      → (lit_value r.0 a && p (decode new.arena a r.1)) ≡ (if lit_value l a then passes a p (get_or es i d) else passes a p y)
  chosen-test a p s =
      let vx = decode-before old mid a (get_or es i d).1 before (sort-there _ edges.sort _ x-sort) in
      let vy = decode-before old mid a y.1 before (sort-there _ edges.sort _ y-sort) in
      split (lit_value l a) (edge.literal a s) (edge.cell.value.value a s) vx vy
    where
      split : (t : Bool) → lit_value r.0 a ≡ (if t then lit_value (get_or es i d).0 a else lit_value y.0 a)
          → decode new.arena a r.1 ≡ (if t then decode mid.arena a (get_or es i d).1 else decode mid.arena a y.1)
          → decode mid.arena a (get_or es i d).1 ≡ decode old.arena a (get_or es i d).1 → decode mid.arena a y.1 ≡ decode old.arena a y.1
          → (lit_value r.0 a && p (decode new.arena a r.1)) ≡ (if t then passes a p (get_or es i d) else passes a p y)
      split true e f u v = ap (λ t. t && p (decode new.arena a r.1)) e ∙ ap (λ w. lit_value (get_or es i d).0 a && p w) (f ∙ u)
      split false e f u v = ap (λ t. t && p (decode new.arena a r.1)) e ∙ ap (λ w. lit_value y.0 a && p w) (f ∙ v)

  after-test : (a : List Bool) (p : Value → Bool) → Satisfies a new.formula
      → any_edge a (decode new.arena a) p after ≡ (any_edge a (decode mid.arena a) p out
      || (if lit_value l a then passes a p (get_or es i d) else passes a p y))
  after-test a p s =
      ap (any_edge a (decode new.arena a) p) pushed ∙ any-push a (decode new.arena a) p out r
      ∙ ap (λ t. t || (lit_value r.0 a && p (decode new.arena a r.1))) (any-before mid new a p edges.sort out grows (each.sorts edges.sort edges.cells))
      ∙ ap (λ t. any_edge a (decode mid.arena a) p out || t) (chosen-test a p s)

  more-test : (a : List Bool) (p : Value → Bool) → any_edge a (decode old.arena a) p (take (i + 1) es) ≡ (any_edge a (decode old.arena a) p (take i es) || (passes a p (get_or es i d)))
  more-test a p = list_any_more (passes a p) es i d lt

  sorted : (s : Sort) → LeadTo old.arena.kinds s es → LeadTo new.arena.kinds s after
  sorted s h =
      let Q : Edge → Type 0 = λ e. OfSort old.arena.kinds s e.1 in
      let one : Q (get_or es i d) = h i d lt in
      let two : Q y = subst Q (sym is) (partner-all es i half d lt Q h) in
      rw pushed (All-push (λ (e : Edge). OfSort new.arena.kinds s e.1) out r (LeadTo-later mid new s out (each.sorts s h) grows)
      (edge.cell.sort s (OfSort-later old mid s (get_or es i d).1 one before) (OfSort-later old mid s y.1 two before)))

  sound : (a : List Bool) → Satisfies a new.formula → (p : Value → Bool) → any_edge a (decode new.arena a) p after ≡ true → any_edge a (decode old.arena a) p es ≡ true
  sound a s p h =
      let s0 = Satisfies-before mid new a grows s in
      go (or_cases _ _ (sym (after-test a p s) ∙ h)) s0
    where
      pick-one : (t : Bool) → (if t then passes a p (get_or es i d) else passes a p y) ≡ true → any_edge a (decode old.arena a) p es ≡ true
      pick-one true e = list_any_at (passes a p) es i d lt e
      pick-one false e = partner-any es i half d lt (passes a p) (subst (λ (z : Edge). passes a p z ≡ true) is e)

      go : (any_edge a (decode mid.arena a) p out ≡ true) ⊎ ((if lit_value l a then passes a p (get_or es i d) else passes a p y) ≡ true)
          → Satisfies a mid.formula → any_edge a (decode old.arena a) p es ≡ true
      go (inl e) s0 = each.sound a s0 p e
      go (inr e) s0 = pick-one (lit_value l a) e

  first : (a : List Bool) → Satisfies a new.formula → lit_value l a ≡ true → (p : Value → Bool) → any_edge a (decode old.arena a) p (take (i + 1) es) ≡ true → any_edge a (decode new.arena a) p after ≡ true
  first a s on p h = after-test a p s ∙ go (or_cases _ _ (sym (more-test a p) ∙ h))
    where
      go : (any_edge a (decode old.arena a) p (take i es) ≡ true) ⊎ ((passes a p (get_or es i d)) ≡ true)
          → (any_edge a (decode mid.arena a) p out || (if lit_value l a then passes a p (get_or es i d) else passes a p y)) ≡ true
      go (inl e) = or_left _ _ (each.first a (Satisfies-before mid new a grows s) on p e)
      go (inr e) = or_right _ _ (if-on (lit_value l a) _ _ on ∙ e)

  second : (a : List Bool) → Satisfies a new.formula → lit_value l a ≡ false → (p : Value → Bool) → any_edge a (decode old.arena a) p (take (i + 1) (drop half es)) ≡ true → any_edge a (decode new.arena a) p after ≡ true
  second a s off p h =
      after-test a p s ∙ go (or_cases _ _ (partner-more es i half d lt (passes a p) h))
    where
      go : (any_edge a (decode old.arena a) p (take i (drop half es)) ≡ true)
          ⊎ (passes a p (get_or es (i + half) (get_or es i d)) ≡ true)
          → (any_edge a (decode mid.arena a) p out || (if lit_value l a then passes a p (get_or es i d) else passes a p y)) ≡ true
      go (inl e) = or_left _ _ (each.second a (Satisfies-before mid new a grows s) off p e)
      go (inr e) = or_right _ _ (if-off (lit_value l a) _ _ off ∙ subst (λ (z : Edge). passes a p z ≡ true) (sym is) e)

  pub each-more : ChoosesEach old new l es half (i + 1) after
  each-more = record {
    named = rw pushed (All-push (λ (e : Edge). IsBelow new.formula.vars e.0) out r (AreNamed-later mid.formula.vars new.formula.vars out each.named grows.formula.vars) edge.below);
    count = ap length pushed ∙ length_push out r ∙ ap (λ (n : ℕ). n + 1) each.count;
    sorts = sorted;
    sound = sound;
    first = first;
    second = second;
  }

-- ---- one layer, by a free bit

pub goes-on : (f g : Cnf) (a : List Bool) → FormulaGrows f g → length a ≡ f.vars → Satisfies a f → (more : List Bool) × ((length (a ++ more) ≡ g.vars) × Satisfies (a ++ more) g)
unfolding Extends Satisfies
goes-on f g a grows n s = grows.extends.law a n s

any-parts : (q : Edge → Bool) (k : ℕ) (es : List Edge) → list_any q es ≡ (list_any q (take k es) || list_any q (drop k es))
any-parts q k es = ap (list_any q) (sym (take-append-drop k es)) ∙ list_any-append q (take k es) (drop k es)

module _ (old mid new : Build) (bit : Lit) (es : List Edge) (half : ℕ) (out : List Edge) (same : mid.arena ≡ old.arena)
    (is : bit ≡ record { var = old.formula.vars; neg = false }) (one : mid.formula.vars ≡ old.formula.vars + 1) (free : EitherExtends old.formula mid.formula)
    (edges : AreEdges old es) (enough : length es ≤ 2 * half) (grows : Grows mid new) (each : ChoosesEach mid new bit es half half out) where
  old-any : (a : List Bool) (p : Value → Bool) (fs : List Edge) → any_edge a (decode mid.arena a) p fs ≡ any_edge a (decode old.arena a) p fs
  old-any a p fs = ap (λ (c : Cells). any_edge a (decode c a) p fs) same

  choose : (a : List Bool) → length a ≡ old.formula.vars → Satisfies a old.formula → (p : Value → Bool) → (t : Bool)
      → (t ≡ true → any_edge a (decode old.arena a) p (take half es) ≡ true) → (t ≡ false → any_edge a (decode old.arena a) p (drop half es) ≡ true)
      → GoesOn new a (λ c. any_edge c (decode new.arena c) p out)
  choose a n s p t on off =
      let a1 : List Bool = a ++ t ∷ [] in
      let n1 : length a1 ≡ mid.formula.vars = length_push a t ∙ ap (λ (k : ℕ). k + 1) n ∙ sym one in
      let go = goes-on mid.formula new.formula a1 grows.formula n1 (free a t n s) in
      let more : List Bool = t ∷ go.0 in
      let e : a1 ++ go.0 ≡ a ++ more = append_assoc a (t ∷ []) go.0 in
      let sat : Satisfies (a ++ more) new.formula = subst (λ b. Satisfies b new.formula) e go.1.1 in
      let first : Lit = record { var = old.formula.vars; neg = false } in
      let bit_is : lit_value bit (a ++ more) ≡ t =
      ap (λ (x : Lit). lit_value x (a ++ more)) is ∙ ap (lit_value first) (sym e) ∙ lit_value-append first a1 go.0 (omega arith) ∙ get_or_push a t false old.formula.vars n in
      let c : List Bool = a ++ more in
      let front = old-any c p (take half es) ∙ any-longer old a more p (take half es) n (All-take (λ (x : Edge). IsBelow old.formula.vars x.0) half es edges.named) in
      let back = old-any c p (drop half es) ∙ any-longer old a more p (drop half es) n (All-drop (λ (x : Edge). IsBelow old.formula.vars x.0) half es edges.named) in
      let whole : take half (drop half es) ≡ drop half es = take_all half (drop half es) (omega (arith, length-drop half es)) in
      record {
        more = more;
        long = subst (λ b. length b ≡ new.formula.vars) e go.1.0;
        satisfies = sat;
        passes = pick t bit_is (λ w. each.first c sat w p) (λ w. each.second c sat w p) (λ w. front ∙ on w) (λ w. ap (any_edge c (decode mid.arena c) p) whole ∙ back ∙ off w);
      }
    where
      pick : {A : Type 0} {B : Type 0} {C : Type 0} {b : Bool} (t : Bool) → b ≡ t → (b ≡ true → A → C) → (b ≡ false → B → C) → (t ≡ true → A) → (t ≡ false → B) → C
      pick true e f g u v = f e (u refl)
      pick false e f g u v = g e (v refl)

  complete : (a : List Bool) → length a ≡ old.formula.vars → Satisfies a old.formula → (p : Value → Bool) → any_edge a (decode old.arena a) p es ≡ true → GoesOn new a (λ c. any_edge c (decode new.arena c) p out)
  complete a n s p h =
      let parts = sym (any-parts (λ (e : Edge). lit_value e.0 a && p (decode old.arena a e.1)) half es) ∙ h in
      choose a n s p (any_edge a (decode old.arena a) p (take half es)) (λ e. e) (λ e. other _ _ e parts)
    where
      other : (q r : Bool) → q ≡ false → (q || r) ≡ true → r ≡ true
      other q r e f = sym (ap (λ t. t || r) e) ∙ f

  pub layer-narrows : Narrows old new es out
  layer-narrows = record {
    named = each.named;
    sorts = λ s h. each.sorts s (subst (λ (c : Cells). LeadTo c.kinds s es) (sym same) h);
    sound = λ a s p h. sym (old-any a p es) ∙ each.sound a s p h;
    complete = complete;
  }

-- ---- several layers

pub narrows-refl : (b : Build) (es : List Edge) → AreNamed b.formula.vars es → Narrows b b es es
narrows-refl b es h = record {
  named = h;
  sorts = λ s l. l;
  sound = λ a s p e. e;
  complete = λ a n s p e. record {
    more = [];
    long = ap length (append-nil a) ∙ n;
    satisfies = subst (λ c. Satisfies c b.formula) (sym (append-nil a)) s;
    passes = ap (λ c. any_edge c (decode b.arena c) p es) (append-nil a) ∙ e;
  };
}

pub narrows-more : (old mid new : Build) (es fs out : List Edge) → Grows mid new → Narrows old mid es fs → Narrows mid new fs out → Narrows old new es out
narrows-more old mid new es fs out grows p q = record {
  named = q.named;
  sorts = λ s h. q.sorts s (p.sorts s h);
  sound = λ a s t h. p.sound a (Satisfies-before mid new a grows s) t (q.sound a s t h);
  complete = λ a n s t h.
      let u = p.complete a n s t h in
      let v = q.complete (a ++ u.more) u.long u.satisfies t u.passes in
      let e = append_assoc a u.more v.more in
      record {
        more = u.more ++ v.more;
        long = subst (λ c. length c ≡ new.formula.vars) e v.long;
        satisfies = subst (λ c. Satisfies c new.formula) e v.satisfies;
        passes = subst (λ c. any_edge c (decode new.arena c) t out ≡ true) e v.passes;
      };
}

-- with one edge for alike members
pub narrows-joined : (old mid : Build) (es fs : List Edge) → mid.arena ≡ old.arena → FormulaGrows old.formula mid.formula → AreNamed old.formula.vars es → JoinsAll old.arena mid.formula es es fs
    → Narrows old mid es fs
narrows-joined old mid es fs same grows named j = record {
  named = j.named;
  sorts = λ s h. subst (λ (c : Cells). LeadTo c.kinds s fs) (sym same) (j.sorts s h);
  sound = λ a s p h. sym (j.members a s p) ∙ ap (λ (c : Cells). any_edge a (decode c a) p fs) (sym same) ∙ h;
  complete = λ a n s p h.
      let go = goes-on old.formula mid.formula a grows n s in
      let b : List Bool = a ++ go.0 in
      record {
        more = go.0;
        long = go.1.0;
        satisfies = go.1.1;
        passes = ap (λ (c : Cells). any_edge b (decode c b) p fs) same ∙ j.members b go.1.1 p ∙ any-longer old a go.0 p es n named ∙ h;
      };
}

pub edges-later : (old mid : Build) (es fs : List Edge) → AreEdges old es → Narrows old mid es fs → AreEdges mid fs
edges-later old mid es fs h n = record { sort = h.sort; cells = n.sorts h.sort h.cells; named = n.named }

pub single : (xs : List Edge) (d : Edge) → length xs ≡ 1 → xs ≡ get_or xs 0 d ∷ []
single [] d h = absurd (omega arith)
single (x ∷ []) d h = refl
single (x ∷ y ∷ xs) d h = absurd (omega arith)

-- ---- the one edge that is left

and_left : (p q : Bool) → ((p && q) || false) ≡ true → p ≡ true
and_left true q e = refl
and_left false q e = e

and_right : (p q : Bool) → ((p && q) || false) ≡ true → q ≡ true
and_right true true e = refl
and_right true false e = e
and_right false q e = absurd (cc)

pub picked : (old new : Build) (set : CellId) (es : List Edge) (e : Edge) → ((a : List Bool) → decode old.arena a set ≡ kind_value old.arena.texts a (decode old.arena a) (Set es))
    → Narrows old new es (e ∷ []) → ((s : Sort) → OfSort old.arena.kinds (set_sort s) set → LeadTo old.arena.kinds s es) → PicksFrom old new set (e.1, e.0)
picked old new set es e is n sorts = record {
  below = All-head (λ (x : Edge). IsBelow new.formula.vars x.0) e [] n.named;
  sort = λ s h. All-head (λ (x : Edge). OfSort new.arena.kinds s x.1) e [] (n.sorts s (sorts s h));
  sound = λ a s on.
      let v : Value = decode new.arena a e.1 in
      let here : any_edge a (decode new.arena a) (same_value v) (e ∷ []) ≡ true =
      ap (λ t. (t && same_value v v) || false) on ∙ ap (λ t. t || false) (same_itself v) in
      any-cell (same_value v) old.arena a set es (is a) ∙ n.sound a s (same_value v) here;
  complete = λ a k s v h.
      let g = n.complete a k s (same_value v) (sym (any-cell (same_value v) old.arena a set es (is a)) ∙ h) in
      record {
        more = g.more;
        long = g.long;
        satisfies = g.satisfies;
        literal = and_left _ _ g.passes;
        decodes = sym (same_equal _ _ (and_right (lit_value e.0 (a ++ g.more)) _ g.passes));
      };
}

-- ---- what the calls ask for

-- the partner of an edge has a variable of the build, and the sort
pub partner-named : (old : Build) (es : List Edge) (i half n : ℕ) (d y : Edge) → AreEdges old es → i < length es → y ≡ get_or es (i + half) (get_or es i d) → old.formula.vars ≤ n → y.0.var < n
partner-named old es i half n d y edges lt is le =
    let P : Edge → Type 0 = λ e. IsBelow old.formula.vars e.0 in
    let h : y.0.var < old.formula.vars = subst P (sym is) (partner-all es i half d lt P edges.named) in
    omega arith

pub partner-type : (old mid : Build) (es : List Edge) (i half : ℕ) (d y : Edge) → AreEdges old es → i < length es → y ≡ get_or es (i + half) (get_or es i d) → Grows old mid
    → OneType mid.arena.kinds (get_or es i d).1 y.1
partner-type old mid es i half d y edges lt is grows =
    let P : Edge → Type 0 = λ e. OfSort old.arena.kinds edges.sort e.1 in
    record {
      sort = edges.sort;
      left = OfSort-later old mid edges.sort (get_or es i d).1 (edges.cells i d lt) grows;
      right = OfSort-later old mid edges.sort y.1 (subst P (sym is) (partner-all es i half d lt P edges.cells)) grows;
    }
