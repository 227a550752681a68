-- Parts that are made fewer by free bits, down to one, which is a choice of all.
use Rattle.std.proofs.Common.{◌≡◌, ℕ, ◌+◌, ◌-◌, ◌*◌, ◌<◌, ◌≤◌, ◌⊎◌, inl, inr, Bool, true, false, ◌&&◌, ◌||◌, not, List, [], ◌∷◌, ◌++◌, length, get_or, All, refl, sym, ◌∙◌, ap, subst, arith, append_assoc, cond, true≢false}
use Rattle.std.specs.Prelude.{Some, filter, nat_eq, slice_get}
use Rattle.std.proofs.lemmas.Bool.{cases_lt, eqb-true}
use Rattle.std.proofs.lemmas.List.{append-nil, get_or_past, get_or_push, length_push}
use Rattle.std.proofs.lemmas.List.Elements.{All-filter, All-head}
use Rattle.sat_formula.specs.declared.cnf.Cnf.{Cnf}
use Rattle.sat_formula.specs.declared.lit.Lit.{Lit}
use Rattle.sat_formula.specs.Formula.{EitherExtends, Extends, Grows as FormulaGrows, Satisfies}
use Rattle.sat_formula.specs.Lit.{lit_value, top_lit}
use Rattle.sat_formula.proofs.Extension.{lit_value-append}
use Rattle.level_laws.specs.Branches.{Ending, Held, MetWrong, MetBig}
use Rattle.cell_arena.specs.declared.build.Build.{Build}
use Rattle.cell_arena.specs.declared.kinds.CellId.{CellId}
use Rattle.cell_arena.specs.Growth.{Grows}
use Rattle.cell_arena.proofs.Growing.{Grows-refl, Satisfies-before}
use Rattle.kernel_trees.specs.Picks.{IsOneOf}
use Rattle.kernel_trees.specs.TypeKinds.{Kind}
use Rattle.path_walks.specs.Paths.{GoesOn}
use Rattle.branch_cells.specs.declared.branch.BranchCells.{BranchCells}
use Rattle.branch_cells.specs.declared.branch.Ends.{Ends}
use Rattle.branch_cells.specs.Ends.{end_of, ends_at}
use Rattle.branch_cells.specs.Branches.{AreOfKinds, IsChoice, IsSame, IsWhole}
use Rattle.branch_cells.specs.inner.Layers.{AreChosen, IsEither, Narrows, can_be, can_end, partner}
use Rattle.branch_cells.proofs.Items.{StandsAt, all_one, kinds_count, one_at, stands_at}
use Rattle.branch_cells.proofs.SameParts.{either_first, either_second, same_itself, same_later, same_longer, same_trans, whole_later}

-- ---- growth

goes_on : (f g : Cnf) (a : List Bool) → FormulaGrows f g → length a ≡ f.vars → Satisfies a f →
    (more : List Bool) × ((length (a ++ more) ≡ g.vars) × Satisfies (a ++ more) g)
unfolding Extends Satisfies
goes_on f g a grows n s = grows.extends.law a n s

-- ---- the partner of a part

module _ (parts : List BranchCells) (i half : ℕ) (d : BranchCells) (lt : i < length parts) where
  pub partner_one : IsOneOf (partner parts i half d) parts
  partner_one = by (cases_lt (i + half) (length parts))
    where
      by : (i + half < length parts) ⊎ (length parts ≤ i + half) → IsOneOf (partner parts i half d) parts
      by (inl k) = one_at parts (i + half) (get_or parts i d) k
      by (inr k) =
          subst (λ (x : BranchCells). IsOneOf x parts) (sym (get_or_past parts (i + half) (get_or parts i d) k))
          (one_at parts i d lt)

  pub partner_all : (P : BranchCells → Type 0) → All P parts → P (partner parts i half d)
  partner_all P h = all_one P (partner parts i half d) parts h partner_one

-- ---- one layer, by a free bit

-- the assignment goes on with this value of the bit
record BitGoesOn (f : Cnf) (a : List Bool) (bit : Lit) (t : Bool) : Type 0 where
  more : List Bool
  long : length (a ++ more) ≡ f.vars
  satisfies : Satisfies (a ++ more) f
  is : lit_value bit (a ++ more) ≡ t

bit_goes_on : (old mid new : Cnf) (bit : Lit) (a : List Bool) (t : Bool) →
    bit ≡ record { var = old.vars; neg = false } →
    mid.vars ≡ old.vars + 1 → EitherExtends old mid → FormulaGrows mid new → length a ≡ old.vars → Satisfies a old →
    BitGoesOn new a bit t
bit_goes_on old mid new bit a t is one free grows n s =
    let a1 : List Bool = a ++ t ∷ [] in
    let n1 : length a1 ≡ mid.vars = length_push a t ∙ ap (λ (k : ℕ). k + 1) n ∙ sym one in
    let go = goes_on mid new a1 grows n1 (free a t n s) in
    let e : a1 ++ go.0 ≡ a ++ (t ∷ go.0) = append_assoc a (t ∷ []) go.0 in
    let first : Lit = record { var = old.vars; neg = false } in
    record {
      more = t ∷ go.0;
      long = subst (λ (b : List Bool). length b ≡ new.vars) e go.1.0;
      satisfies = subst (λ (b : List Bool). Satisfies b new) e go.1.1;
      is =
          ap (λ (x : Lit). lit_value x (a ++ (t ∷ go.0))) is ∙ ap (lit_value first) (sym e)
          ∙ lit_value-append first a1 go.0 (omega arith) ∙ get_or_push a t false old.vars n;
    }

module _ (old mid new : Build) (bit : Lit) (parts : List BranchCells) (half : ℕ) (out : List BranchCells)
    (is : bit ≡ record { var = old.formula.vars; neg = false }) (one : mid.formula.vars ≡ old.formula.vars + 1)
    (free : EitherExtends old.formula mid.formula) (within : half ≤ length parts) (enough : length parts ≤ 2 * half)
    (grows : Grows mid new)
    (chosen : AreChosen new bit parts half half out) where
  -- one of the new, by the bit
  layer_sound : (a : List Bool) → Satisfies a new.formula → (r : BranchCells) → IsOneOf r out →
      (p : BranchCells) × (IsOneOf p parts × IsSame new.arena a r p)
  layer_sound a s r h = by (lit_value bit a) refl
    where
      st : StandsAt r out
      st = stands_at r out h

      lt : st.place < half
      lt = let n = chosen.count in let w = st.within in omega (arith, n, w)

      here : IsEither new bit (get_or parts st.place r) (partner parts st.place half r) r
      here = subst (λ (z : BranchCells). IsEither new bit (get_or parts st.place r) (partner parts st.place half r) z)
          (st.is r) (chosen.each st.place r lt)

      by : (t : Bool) → lit_value bit a ≡ t → (p : BranchCells) × (IsOneOf p parts × IsSame new.arena a r p)
      by true e = (
        get_or parts st.place r,
        (
          one_at parts st.place r
              (omega (arith, lt)),
          either_first new bit _ _ r a here s e,
        ),
      )
      by false e = (
        partner parts st.place half r,
        (
          partner_one parts st.place half r
              (omega (arith, lt)),
          either_second new bit _ _ r a here s e,
        ),
      )

  layer_free : (a : List Bool) → length a ≡ old.formula.vars → Satisfies a old.formula → (p : BranchCells) →
      IsOneOf p parts →
      (r : BranchCells) × (IsOneOf r out × GoesOn new.formula a (λ b. IsSame new.arena b r p))
  layer_free a n s p h = by (cases_lt st.place half)
    where
      st : StandsAt p parts
      st = stands_at p parts h

      goes : (t : Bool) → BitGoesOn new.formula a bit t
      goes t = bit_goes_on old.formula mid.formula new.formula bit a t is one free grows.formula n s

      by : (st.place < half) ⊎ (half ≤ st.place) → (r : BranchCells) ×
          (IsOneOf r out × GoesOn new.formula a (λ b. IsSame new.arena b r p))
      by (inl lt) =
          let j : ℕ = st.place in
          let r : BranchCells = get_or out j p in
          let g = goes true in
          let e : IsEither new bit p (partner parts j half p) r =
          subst (λ (z : BranchCells). IsEither new bit z (partner parts j half p) r) (st.is p)
          (chosen.each j p lt) in (
            r,
            (
              one_at out j p (let c = chosen.count in omega (arith, c, lt)),
              record {
                more = g.more;
                long = g.long;
                satisfies = g.satisfies;
                holds = either_first new bit p _ r (a ++ g.more) e g.satisfies g.is;
              },
            ),
          )
      by (inr le) =
          let w = st.within in
          let j : ℕ = st.place - half in
          let lt : j < half = omega (arith, w, le) in
          let back : j + half ≡ st.place = omega (arith, le) in
          let r : BranchCells = get_or out j p in
          let g = goes false in
          let other : partner parts j half p ≡ p =
          ap (λ (k : ℕ). get_or parts k (get_or parts j p)) back ∙ st.is (get_or parts j p) in
          let e : IsEither new bit (get_or parts j p) p r =
          subst (λ (z : BranchCells). IsEither new bit (get_or parts j p) z r) other (chosen.each j p lt) in (
            r,
            (
              one_at out j p (let c = chosen.count in omega (arith, c, lt)),
              record {
                more = g.more;
                long = g.long;
                satisfies = g.satisfies;
                holds = either_second new bit _ p r (a ++ g.more) e g.satisfies g.is;
              },
            ),
          )

  pub layer_narrows : Narrows old new parts out
  layer_narrows = record {
    sound = layer_sound;
    free = layer_free;
    kept = λ i id h. λ j d lt.
        let c = chosen.count in
        let less : j < half = omega (arith, c, lt) in
        let in_parts : j < length parts = omega (arith, less) in
        (chosen.each j d less).kept i id (h j d in_parts)
        (partner_all parts j half d in_parts (λ p. slice_get p.next i ≡ Some id) h);
  }

-- ---- several layers

pub narrows_refl : (b : Build) (parts : List BranchCells) → Narrows b b parts parts
narrows_refl b parts = record {
  sound = λ a s r h. (r, (h, same_itself b.arena a r));
  free = λ a n s p h. (
    p,
    (
      h,
      record {
        more = [];
        long = ap length (append-nil a) ∙ n;
        satisfies = subst (λ (c : List Bool). Satisfies c b.formula) (sym (append-nil a)) s;
        holds = same_itself b.arena (a ++ []) p;
      },
    ),
  );
  kept = λ i id h. h;
}

module _ (old mid new : Build) (names : List Kind) (parts fs out : List BranchCells) (before : Grows old mid)
    (grows : Grows mid new)
    (whole : All (IsWhole old names) parts) (between : All (IsWhole mid names) fs) (p : Narrows old mid parts fs)
    (q : Narrows mid new fs out) where
  one_whole : (x : BranchCells) → IsOneOf x parts → IsWhole mid names x
  one_whole x h = whole_later old mid names x before (all_one (IsWhole old names) x parts whole h)

  more_sound : (a : List Bool) → Satisfies a new.formula → (r : BranchCells) → IsOneOf r out →
      (x : BranchCells) × (IsOneOf x parts × IsSame new.arena a r x)
  more_sound a s r h =
      let u = q.sound a s r h in
      let v = p.sound a (Satisfies-before mid new a grows s) u.0 u.1.0 in
      let same = same_later mid new names a u.0 v.0 grows (all_one (IsWhole mid names) u.0 fs between u.1.0)
      (one_whole v.0 v.1.0) v.1.1 in
      (v.0, (v.1.0, same_trans new.arena a r u.0 v.0 u.1.1 same))

  more_free : (a : List Bool) → length a ≡ old.formula.vars → Satisfies a old.formula → (x : BranchCells) →
      IsOneOf x parts →
      (r : BranchCells) × (IsOneOf r out × GoesOn new.formula a (λ b. IsSame new.arena b r x))
  more_free a n s x h =
      let u = p.free a n s x h in
      let go = u.1.1 in
      let v = q.free (a ++ go.more) go.long go.satisfies u.0 u.1.0 in
      let on = v.1.1 in
      let e : (a ++ go.more) ++ on.more ≡ a ++ (go.more ++ on.more) = append_assoc a go.more on.more in
      let f_whole = all_one (IsWhole mid names) u.0 fs between u.1.0 in
      let longer = same_longer mid names (a ++ go.more) on.more u.0 x go.long f_whole (one_whole x h) go.holds in
      let same = same_later mid new names ((a ++ go.more) ++ on.more) u.0 x grows f_whole (one_whole x h) longer in (
        v.0,
        (
          v.1.0,
          record {
            more = go.more ++ on.more;
            long = subst (λ (b : List Bool). length b ≡ new.formula.vars) e on.long;
            satisfies = subst (λ (b : List Bool). Satisfies b new.formula) e on.satisfies;
            holds = subst (λ (b : List Bool). IsSame new.arena b v.0 x) e (same_trans new.arena _ v.0 u.0 x on.holds same);
          },
        ),
      )

  pub narrows_more : Narrows old new parts out
  narrows_more = record { sound = more_sound; free = more_free; kept = λ i id h. q.kept i id (p.kept i id h) }

-- ---- parts that never end

-- the negation of the first variable
pub never_true : (f : Cnf) (l : Lit) (a : List Bool) → ((c : List Bool) → Satisfies c f → lit_value top_lit c ≡ true) →
    Satisfies a f →
    l ≡ record { var = 0; neg = true } → lit_value l a ≡ true → ⊥
never_true f l a forced s e h =
    true≢false (sym h ∙ ap (λ (x : Lit). lit_value x a) e ∙ ap not (forced a s))

pub bottom_is : (l : Lit) → can_be l ≡ false → l ≡ record { var = 0; neg = true }
bottom_is l e = by (nat_eq l.var 0) l.neg refl refl e
  where
    by : (p q : Bool) → nat_eq l.var 0 ≡ p → l.neg ≡ q → not (p && q) ≡ false → l ≡ record { var = 0; neg = true }
    by true true f g h = ap (λ (n : ℕ). record { var = n; neg = l.neg }) (eqb-true l.var 0 f) ∙ ap
        (λ (t : Bool). record { var = 0; neg = t }) g
    by true false f g h = absurd (true≢false h)
    by false q f g h = absurd (true≢false h)

held_can : (h w b : Bool) → h ≡ true → ((h || w) || b) ≡ true
held_can h w b e = ap (λ (t : Bool). (t || w) || b) e

wrong_can : (h w b : Bool) → w ≡ true → ((h || w) || b) ≡ true
wrong_can true w b e = refl
wrong_can false w b e = ap (λ (t : Bool). t || b) e

big_can : (h w b : Bool) → b ≡ true → ((h || w) || b) ≡ true
big_can true w b e = refl
big_can false true b e = refl
big_can false false b e = e

module _ (f : Cnf) (a : List Bool) (forced : (c : List Bool) → Satisfies c f → lit_value top_lit c ≡ true)
    (s : Satisfies a f) where
  true_can_be : (l : Lit) → lit_value l a ≡ true → can_be l ≡ true
  true_can_be l h = by (can_be l) refl
    where
      by : (t : Bool) → can_be l ≡ t → can_be l ≡ true
      by true e = e
      by false e = absurd (never_true f l a forced s (bottom_is l e) h)

  pub ends_can_end : (x : Ends) (k : Ending) → ends_at x k a ≡ true → can_end x ≡ true
  ends_can_end x Held h = held_can (can_be x.holds) (can_be x.wrong) (can_be x.big) (true_can_be x.holds h)
  ends_can_end x MetWrong h = wrong_can (can_be x.holds) (can_be x.wrong) (can_be x.big) (true_can_be x.wrong h)
  ends_can_end x MetBig h = big_can (can_be x.holds) (can_be x.wrong) (can_be x.big) (true_can_be x.big h)

filtered_one : (q : BranchCells → Bool) (p : BranchCells) (xs : List BranchCells) → IsOneOf p xs → q p ≡ true →
    IsOneOf p (filter q xs)
filtered_one q p [] h e = h
filtered_one q p (x ∷ xs) (inl same) e = here (q x) (ap q (sym same) ∙ e)
  where
    here : (b : Bool) → b ≡ true → IsOneOf p (cond b (x ∷ filter q xs) (filter q xs))
    here true f = inl same
    here false f = absurd (true≢false (sym f))
filtered_one q p (x ∷ xs) (inr h) e = there (q x) (filtered_one q p xs h e)
  where
    there : (b : Bool) → IsOneOf p (filter q xs) → IsOneOf p (cond b (x ∷ filter q xs) (filter q xs))
    there true h = inr h
    there false h = h

unfiltered_one : (q : BranchCells → Bool) (p : BranchCells) (xs : List BranchCells) → IsOneOf p (filter q xs) →
    IsOneOf p xs
unfiltered_one q p [] h = h
unfiltered_one q p (x ∷ xs) h = by (q x) (unfiltered_one q p xs) h
  where
    by : (b : Bool) → (IsOneOf p (filter q xs) → IsOneOf p xs) → IsOneOf p (cond b (x ∷ filter q xs) (filter q xs)) →
        IsOneOf p (x ∷ xs)
    by true more (inl e) = inl e
    by true more (inr g) = inr (more g)
    by false more g = inr (more g)

abbrev live : BranchCells → Bool
live p = can_end p.ends

-- ---- the one part that is left

module _ (old new : Build) (names : List Kind) (rest : List CellId) (parts : List BranchCells) (r : BranchCells)
    (forced : (c : List Bool) → Satisfies c old.formula → lit_value top_lit c ≡ true)
    (others : AreOfKinds old.arena.kinds names rest) (grows : Grows old new) (whole : IsWhole new names r) where
  pub choice_of : Narrows old new (filter live parts) (r ∷ []) → IsChoice old new rest parts r
  choice_of n = record {
    grows = grows;
    count = kinds_count new.arena.kinds names r.next whole.cells ∙ sym (kinds_count old.arena.kinds names rest others);
    sound = λ a s k e.
        let u = n.sound a s r (inl refl) in
        (u.0, (unfiltered_one live u.0 parts u.1.0, u.1.1));
    free = λ a l s p h k e.
        let u = n.free a l s p (filtered_one live p parts h (ends_can_end old.formula a forced s p.ends k e)) in
        only a p u.0 u.1.0 u.1.1;
    kept = λ i id e h.
        All-head (λ p. slice_get p.next i ≡ Some id) r []
        (n.kept i id (All-filter live (λ p. slice_get p.next i ≡ Some id) parts h));
  }
    where
      only : (a : List Bool) (p x : BranchCells) → IsOneOf x (r ∷ []) →
          GoesOn new.formula a (λ b. IsSame new.arena b x p) →
          GoesOn new.formula a (λ b. IsSame new.arena b r p)
      only a p x (inl e) g = subst (λ (z : BranchCells). GoesOn new.formula a (λ b. IsSame new.arena b z p)) e g
      only a p x (inr e) g = absurd e

-- no part ends
pub choice_of_none : (b : Build) (rest : List CellId) (parts some : List BranchCells) (r : BranchCells) →
    ((c : List Bool) → Satisfies c b.formula → lit_value top_lit c ≡ true) → some ≡ filter live parts →
    length some ≡ 0 →
    ((k : Ending) → end_of r.ends k ≡ record { var = 0; neg = true }) → r.next ≡ rest → IsChoice b b rest parts r
choice_of_none b rest parts some r forced are none never next = record {
  grows = Grows-refl b;
  count = ap length next;
  sound = λ a s k e. absurd (never_true b.formula (end_of r.ends k) a forced s (never k) e);
  free = λ a l s p h k e.
      absurd (subst (IsOneOf p) (sym are ∙ empty some none)
      (filtered_one live p parts h (ends_can_end b.formula a forced s p.ends k e)));
  kept = λ i id e h. ap (λ (ids : List CellId). slice_get ids i) next ∙ e;
}
  where
    empty : (xs : List BranchCells) → length xs ≡ 0 → xs ≡ []
    empty [] e = refl
    empty (x ∷ xs) e = absurd (omega (arith, e))

pub some_whole : (b : Build) (names : List Kind) (parts some : List BranchCells) → some ≡ filter live parts →
    All (IsWhole b names) parts →
    All (IsWhole b names) some
some_whole b names parts some e h = subst (All (IsWhole b names)) (sym e) (All-filter live (IsWhole b names) parts h)
