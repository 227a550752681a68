-- Two parts of which one is taken, name by name, and parts that are taken one behind another.
use Rattle.std.proofs.Common.{◌≡◌, ℕ, suc, ◌+◌, ◌<◌, ◌≤◌, Bool, true, false, List, [], ◌∷◌, ◌++◌, length, map, get_or, All, refl, sym, ◌∙◌, ap, subst, arith, Some}
use Rattle.std.specs.Prelude.{if◌then◌else◌, slice_get}
use Rattle.std.proofs.lemmas.List.{get_or_default, length_push}
use Rattle.std.proofs.lemmas.List.Elements.{All-push, All-weaker}
use Rattle.std.proofs.lemmas.Option.{get_or_from_slice_get, slice_get-get_or, slice_get_within}
use Rattle.sat_formula.specs.declared.cnf.Cnf.{Cnf}
use Rattle.sat_formula.specs.declared.lit.Lit.{Lit}
use Rattle.sat_formula.specs.Formula.{Grows as FormulaGrows, HasValue, Satisfies}
use Rattle.sat_formula.specs.Lit.{lit_value}
use Rattle.sat_formula.proofs.Extension.{HasValue-later}
use Rattle.tla_values.specs.declared.value.Value.{Value}
use Rattle.level_laws.specs.Branches.{Ending, Held, MetWrong, MetBig}
use Rattle.level_laws.proofs.Bits.{if_false, if_true}
use Rattle.cell_arena.specs.declared.build.Build.{Build}
use Rattle.cell_arena.specs.declared.kinds.CellId.{CellId}
use Rattle.cell_arena.specs.Decode.{decode}
use Rattle.cell_arena.specs.Growth.{Grows}
use Rattle.cell_arena.proofs.Growing.{Decodes-later, Grows-refl, Satisfies-before, decode-before}
use Rattle.cell_merge.specs.Choices.{Chooses}
use Rattle.cell_merge.specs.Sorts.{OneType}
use Rattle.cell_merge.proofs.Edges.{sort-there}
use Rattle.cell_merge.proofs.SortLaws.{OfSort-later}
use Rattle.kernel_trees.specs.TypeKinds.{Kind}
use Rattle.typed_cells.specs.KindSorts.{sort_of}
use Rattle.branch_cells.specs.declared.branch.BranchCells.{BranchCells}
use Rattle.branch_cells.specs.declared.branch.Ends.{Ends}
use Rattle.branch_cells.specs.Ends.{end_of, ends_at}
use Rattle.branch_cells.specs.Branches.{AreOfEither, AreOfKinds, IsWhole}
use Rattle.branch_cells.specs.inner.Layers.{AreCellsOfEither, AreChosen, IsCellOfEither, IsEither, partner}
use Rattle.branch_cells.proofs.Items.{at_more, decoded_later, kind_at, kinds_at, kinds_count, kinds_from}
use Rattle.branch_cells.proofs.Narrowing.{partner_all}
use Rattle.branch_cells.proofs.SameParts.{whole_later}

-- ---- literals

pub ends_either : (f g h : Cnf) (bit : Lit) (x y r : Ends) → FormulaGrows f g → FormulaGrows g h →
    HasValue f r.holds (λ a. if lit_value bit a then lit_value x.holds a else lit_value y.holds a) →
    HasValue g r.wrong (λ a. if lit_value bit a then lit_value x.wrong a else lit_value y.wrong a) →
    HasValue h r.big (λ a. if lit_value bit a then lit_value x.big a else lit_value y.big a) →
    (k : Ending) → HasValue h (end_of r k) (λ a. if lit_value bit a then ends_at x k a else ends_at y k a)
ends_either f g h bit x y r p q u v w Held = HasValue-later g h r.holds _ (HasValue-later f g r.holds _ u p) q
ends_either f g h bit x y r p q u v w MetWrong = HasValue-later g h r.wrong _ v q
ends_either f g h bit x y r p q u v w MetBig = w

-- ---- one name

pub same_cell : (b : Build) (l : Lit) (x y : CellId) → OneType b.arena.kinds x y → x ≡ y → IsCellOfEither b b l x y x
same_cell b l x y t e = record {
  value = record {
    there = sort-there b.arena.kinds t.sort x t.left;
    value = λ a s. by (lit_value l a) a;
  };
  sort = λ s p q. p;
  kept = λ k. refl;
}
  where
    by : (t : Bool) (a : List Bool) → decode b.arena a x ≡ (if t then decode b.arena a x else decode b.arena a y)
    by true a = refl
    by false a = ap (decode b.arena a) e

pub other_cell : (old new : Build) (l : Lit) (x y id : CellId) → (x ≡ y → ⊥) → Chooses old new l x y id →
    IsCellOfEither old new l x y id
other_cell old new l x y id differ c = record { value = c.value; sort = c.sort; kept = λ e. absurd (differ e) }

-- ---- all names

module _ (old : Build) (names : List Kind) (xs ys : List CellId) (first : AreOfKinds old.arena.kinds names xs)
    (second : AreOfKinds old.arena.kinds names ys) where
  pub same_counts : length ys ≡ length xs
  same_counts = kinds_count old.arena.kinds names ys second ∙ sym (kinds_count old.arena.kinds names xs first)

  pub one_type : (mid : Build) (i : ℕ) (d : CellId) → Grows old mid → i < length xs →
      OneType mid.arena.kinds (get_or xs i d) (get_or ys i d)
  one_type mid i d g lt =
      let n = kinds_count old.arena.kinds names xs first in
      let k = kind_at names i (omega (arith, lt, n)) in
      record {
        sort = sort_of k.kind;
        left = OfSort-later old mid (sort_of k.kind) (get_or xs i d)
            (kinds_at old.arena.kinds names xs i k.kind d first k.is) g;
        right = OfSort-later old mid (sort_of k.kind) (get_or ys i d)
            (kinds_at old.arena.kinds names ys i k.kind d second k.is) g;
      }

  cell_later : (mid new : Build) (l : Lit) (x y id : CellId) → Grows mid new → IsCellOfEither old mid l x y id →
      IsCellOfEither old new l x y id
  cell_later mid new l x y id g h = record {
    value = Decodes-later mid new id _ h.value g;
    sort = λ s p q. OfSort-later mid new s id (h.sort s p q) g;
    kept = h.kept;
  }

  cell_before : (mid new : Build) (l : Lit) (x y id : CellId) → Grows old mid → OneType old.arena.kinds x y →
      IsCellOfEither mid new l x y id →
      IsCellOfEither old new l x y id
  cell_before mid new l x y id g t h = record {
    value = record {
      there = h.value.there;
      value = λ a s. h.value.value a s ∙ by a (lit_value l a);
    };
    sort = λ s p q. h.sort s (OfSort-later old mid s x p g) (OfSort-later old mid s y q g);
    kept = h.kept;
  }
    where
      by : (a : List Bool) (t : Bool) → (if t then decode mid.arena a x else decode mid.arena a y) ≡
          (if t then decode old.arena a x else decode old.arena a y)
      by a true = decode-before old mid a x g (sort-there old.arena.kinds t.sort x t.left)
      by a false = decode-before old mid a y g (sort-there old.arena.kinds t.sort y t.right)

  pub cells_more : (mid new : Build) (l : Lit) (i : ℕ) (ids after : List CellId) (id d e : CellId) → i < length xs →
      Grows old mid → Grows mid new →
      AreCellsOfEither old mid l xs ys i ids → IsCellOfEither mid new l (get_or xs i d) (get_or ys i e) id →
      after ≡ ids ++ id ∷ [] →
      AreCellsOfEither old new l xs ys (i + 1) after
  cells_more mid new l i ids after id d e lt f g h c pushed =
      subst (AreCellsOfEither old new l xs ys (i + 1)) (sym pushed) (record {
        count = length_push ids id ∙ ap (λ (k : ℕ). k + 1) h.count;
        each = at_more (λ j b z. IsCellOfEither old new l (get_or xs j b) (get_or ys j b) z) ids id i h.count
            (λ j b less. cell_later mid new l (get_or xs j b) (get_or ys j b) (get_or ids j b) g (h.each j b less))
            (λ b. cell_before mid new l (get_or xs i b) (get_or ys i b) id f (one_type old i b (Grows-refl old) lt)
            (subst (λ (z : CellId). IsCellOfEither mid new l (get_or xs i b) z id)
            (get_or_default ys i e b (let n = same_counts in omega (arith, n, lt)))
            (subst (λ (z : CellId). IsCellOfEither mid new l z (get_or ys i e) id) (get_or_default xs i d b lt) c)));
      })

  pub cells_none : (l : Lit) → AreCellsOfEither old old l xs ys 0 []
  cells_none l = record { count = refl; each = λ j d lt. absurd (omega (arith, lt)) }

  -- the cells of the one part or of the other
  module _ (new : Build) (l : Lit) (ids : List CellId) (g : Grows old new)
      (h : AreCellsOfEither old new l xs ys (length xs) ids) where
    maps_same : (a : List Bool) (us vs : List CellId) → length us ≡ length vs →
        ((j : ℕ) (d : CellId) → j < length us → decode new.arena a (get_or us j d) ≡ decode new.arena a
        (get_or vs j d)) →
        map (decode new.arena a) us ≡ map (decode new.arena a) vs
    maps_same a [] [] n e = refl
    maps_same a [] (v ∷ vs) n e = absurd (omega (arith, n))
    maps_same a (u ∷ us) [] n e = absurd (omega (arith, n))
    maps_same a (u ∷ us) (v ∷ vs) n e =
        ap (λ (w : Value). w ∷ map (decode new.arena a) us) (e 0 u (omega arith))
        ∙ ap (λ ws. decode new.arena a v ∷ ws) (maps_same a us vs (omega (arith, n))
        (λ j d lt. e (suc j) d (omega (arith, lt))))

    taken : (a : List Bool) → Satisfies a new.formula → (t : Bool) → lit_value l a ≡ t →
        map (decode new.arena a) ids ≡ (if t then map (decode new.arena a) xs else map (decode new.arena a) ys)
    taken a s true e = maps_same a ids xs h.count (λ j d lt.
        let n = h.count in
        let less : j < length xs = omega (arith, lt, n) in
        let c = h.each j d less in
        let t = one_type old j d (Grows-refl old) less in
        c.value.value a s ∙ if_true (lit_value l a) (decode old.arena a (get_or xs j d))
        (decode old.arena a (get_or ys j d)) e
        ∙ sym (decode-before old new a (get_or xs j d) g (sort-there old.arena.kinds t.sort (get_or xs j d) t.left)))
    taken a s false e = maps_same a ids ys (h.count ∙ sym same_counts) (λ j d lt.
        let n = h.count in
        let less : j < length xs = omega (arith, lt, n) in
        let c = h.each j d less in
        let t = one_type old j d (Grows-refl old) less in
        c.value.value a s ∙ if_false (lit_value l a) (decode old.arena a (get_or xs j d))
        (decode old.arena a (get_or ys j d)) e
        ∙ sym (decode-before old new a (get_or ys j d) g (sort-there old.arena.kinds t.sort (get_or ys j d) t.right)))

    kept_at : (i : ℕ) (id : CellId) → slice_get xs i ≡ Some id → slice_get ys i ≡ Some id → slice_get ids i ≡ Some id
    kept_at i id e f =
        let lt = slice_get_within xs i id e in
        let n = h.count in
        let x : get_or xs i id ≡ id = get_or_from_slice_get xs i id id e in
        let y : get_or ys i id ≡ id = get_or_from_slice_get ys i id id f in
        slice_get-get_or ids i id (omega (arith, lt, n)) ∙ ap (λ (z : CellId). Some z)
        ((h.each i id lt).kept (x ∙ sym y) ∙ x)

    pub cells_of_kinds : AreOfKinds new.arena.kinds names ids
    cells_of_kinds =
        let n = kinds_count old.arena.kinds names xs first in
        kinds_from new.arena.kinds names ids (h.count ∙ n) (λ i a d e.
        let lt = slice_get_within names i a e in
        (h.each i d (omega (arith, lt, n))).sort (sort_of a) (kinds_at old.arena.kinds names xs i a d first e)
        (kinds_at old.arena.kinds names ys i a d second e))

    pub either_values : AreOfEither new l xs ys ids
    either_values a s = by (lit_value l a) refl
      where
        by : (t : Bool) → lit_value l a ≡ t →
            map (decode new.arena a) ids ≡ (if lit_value l a then map (decode new.arena a) xs else map
            (decode new.arena a) ys)
        by t e =
            taken a s t e ∙ sym (ap (λ (b : Bool). if b then map (decode new.arena a) xs else map
            (decode new.arena a) ys) e)

    pub either_of_cells : (x y r : Ends) → ((k : Ending) →
        HasValue new.formula (end_of r k) (λ a. if lit_value l a then ends_at x k a else ends_at y k a)) →
        IsEither new l (record { ends = x; next = xs }) (record { ends = y; next = ys })
        (record { ends = r; next = ids })
    either_of_cells x y r e = record { ends = e; next = either_values; kept = kept_at }

-- ---- one part

-- over the formula in which the literals are chosen, then with cells
module _ (mid new : Build) (names : List Kind) (l : Lit) (x y : BranchCells) (ends : Ends) (ids xs ys : List CellId)
    (first : AreOfKinds mid.arena.kinds names x.next) (second : AreOfKinds mid.arena.kinds names y.next)
    (ex : xs ≡ x.next) (ey : ys ≡ y.next)
    (e : (k : Ending) → HasValue mid.formula (end_of ends k)
    (λ a. if lit_value l a then ends_at x.ends k a else ends_at y.ends k a))
    (g : Grows mid new) (h : AreCellsOfEither mid new l xs ys (length xs) ids) where
  chosen_cells : AreCellsOfEither mid new l x.next y.next (length x.next) ids
  chosen_cells =
      subst (λ (us : List CellId). AreCellsOfEither mid new l us y.next (length us) ids) ex
      (subst (λ (vs : List CellId). AreCellsOfEither mid new l xs vs (length xs) ids) ey h)

  later : (k : Ending) → HasValue new.formula (end_of ends k)
      (λ a. if lit_value l a then ends_at x.ends k a else ends_at y.ends k a)
  later k = HasValue-later mid.formula new.formula (end_of ends k) _ (e k) g.formula

  pub part_either : IsEither new l x y (record { ends = ends; next = ids })
  part_either = either_of_cells mid names x.next y.next first second new l ids g chosen_cells x.ends y.ends ends later

  pub part_made : IsWhole new names (record { ends = ends; next = ids })
  part_made = record {
    below = λ k. (later k).below;
    cells = cells_of_kinds mid names x.next y.next first second new l ids g chosen_cells;
  }

-- ---- parts one behind another

either_later : (b c : Build) (names : List Kind) (l : Lit) (x y r : BranchCells) → Grows b c → IsWhole b names x →
    IsWhole b names y → IsWhole b names r →
    IsEither b l x y r → IsEither c l x y r
either_later b c names l x y r g p q w h = record {
  ends = λ k. HasValue-later b.formula c.formula (end_of r.ends k) _ (h.ends k) g.formula;
  next = λ a s.
      decoded_later b c a names r.next g w.cells ∙ h.next a (Satisfies-before b c a g s)
      ∙ by a (lit_value l a);
  kept = h.kept;
}
  where
    by : (a : List Bool) (t : Bool) → (if t then map (decode b.arena a) x.next else map (decode b.arena a) y.next)
        ≡ (if t then map (decode c.arena a) x.next else map (decode c.arena a) y.next)
    by a true = sym (decoded_later b c a names x.next g p.cells)
    by a false = sym (decoded_later b c a names y.next g q.cells)

pub wholes_later : (b c : Build) (names : List Kind) (xs : List BranchCells) → Grows b c → All (IsWhole b names) xs →
    All (IsWhole c names) xs
wholes_later b c names xs g h = All-weaker (IsWhole b names) (IsWhole c names) (λ x w. whole_later b c names x g w) xs h

pub chosen_none : (b : Build) (l : Lit) (parts : List BranchCells) (half : ℕ) → AreChosen b l parts half 0 []
chosen_none b l parts half = record { count = refl; each = λ j d lt. absurd (omega (arith, lt)) }

pub chosen_more : (old mid new : Build) (names : List Kind) (l : Lit) (parts : List BranchCells) (half i : ℕ)
    (out after : List BranchCells) (x y r : BranchCells) →
    half ≤ length parts → i < half → Grows old mid → Grows mid new → All (IsWhole old names) parts →
    All (IsWhole mid names) out →
    AreChosen mid l parts half i out → x ≡ get_or parts i x → ((d : BranchCells) → y ≡ partner parts i half d) →
    IsEither new l x y r → after ≡ out ++ r ∷ [] → AreChosen new l parts half (i + 1) after
chosen_more old mid new names l parts half i out after x y r le below f g whole outs h ex ey e pushed =
    subst (AreChosen new l parts half (i + 1)) (sym pushed) (record {
      count = length_push out r ∙ ap (λ (k : ℕ). k + 1) h.count;
      each = at_more (λ j d z. IsEither new l (get_or parts j d) (partner parts j half d) z) out r i h.count
          (λ j d less.
          let n = h.count in
          let in_parts : j < length parts = omega (arith, less, below, le) in
          let mids = wholes_later old mid names parts f whole in
          either_later mid new names l (get_or parts j d) (partner parts j half d) (get_or out j d) g
          (mids j d in_parts)
          (partner_all parts j half d in_parts (IsWhole mid names) mids) (outs j d (omega (arith, less, n)))
          (h.each j d less))
          (λ d.
          let lt : i < length parts = omega (arith, below, le) in
          subst (λ (z : BranchCells). IsEither new l (get_or parts i d) z r) (ey d)
          (subst (λ (z : BranchCells). IsEither new l z y r) (ex ∙ get_or_default parts i x d lt) e));
    })

pub wholes_more : (mid new : Build) (names : List Kind) (out after : List BranchCells) (r : BranchCells) →
    Grows mid new → All (IsWhole mid names) out →
    IsWhole new names r → after ≡ out ++ r ∷ [] → All (IsWhole new names) after
wholes_more mid new names out after r g h w pushed =
    subst (All (IsWhole new names)) (sym pushed) (All-push (IsWhole new names) out r
    (wholes_later mid new names out g h) w)

-- the parts that are looked at are whole
pub part_whole : (old mid : Build) (names : List Kind) (parts : List BranchCells) (i : ℕ) (x : BranchCells) →
    All (IsWhole old names) parts → Grows old mid →
    i < length parts → x ≡ get_or parts i x → IsWhole mid names x
part_whole old mid names parts i x h g lt e = subst (IsWhole mid names) (sym e)
    (whole_later old mid names (get_or parts i x) g (h i x lt))

pub partner_whole : (old mid : Build) (names : List Kind) (parts : List BranchCells) (i half : ℕ) (y : BranchCells) →
    All (IsWhole old names) parts → Grows old mid →
    i < length parts → y ≡ partner parts i half y → IsWhole mid names y
partner_whole old mid names parts i half y h g lt e =
    subst (IsWhole mid names) (sym e) (partner_all parts i half y lt (IsWhole mid names)
    (wholes_later old mid names parts g h))
