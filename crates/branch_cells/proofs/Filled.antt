-- Names that a path leaves out, one by one.
use Rattle.std.proofs.Common.{◌≡◌, ℕ, ◌+◌, ◌<◌, ◌≤◌, ◌⊎◌, inl, inr, Bool, true, false, not, ◌&&◌, List, [], ◌∷◌, ◌++◌, length, get_or, refl, sym, ◌∙◌, ap, subst, arith, Option, Some, None, true≢false, lt_of_lt_of_le}
use Rattle.std.specs.Prelude.{option_and_then, slice_get}
use Rattle.std.proofs.lemmas.Bool.{cases_lt}
use Rattle.std.proofs.lemmas.List.{get_or_default, length_push}
use Rattle.std.proofs.lemmas.Option.{get_or_from_slice_get, none-some, same_Some, slice_get-get_or, slice_get_past, slice_get_within}
use Rattle.sat_formula.specs.declared.lit.Lit.{Lit}
use Rattle.sat_formula.specs.Formula.{Satisfies}
use Rattle.sat_formula.specs.Lit.{lit_value, top_lit}
use Rattle.level_laws.specs.Branches.{Ending, Held, MetWrong, MetBig}
use Rattle.level_laws.proofs.Bits.{if_false, if_true}
use Rattle.cell_arena.specs.declared.build.Build.{Build}
use Rattle.cell_arena.specs.declared.kinds.CellId.{CellId}
use Rattle.cell_arena.specs.Decode.{decode}
use Rattle.cell_arena.specs.Growth.{Grows}
use Rattle.cell_arena.proofs.Growing.{Satisfies-before, decode-before}
use Rattle.cell_merge.specs.Choices.{Chooses}
use Rattle.cell_merge.specs.Sorts.{OneType, Sort}
use Rattle.cell_merge.proofs.Edges.{sort-there}
use Rattle.cell_merge.proofs.SortLaws.{OfSort-later}
use Rattle.kernel_trees.specs.TypeKinds.{Kind}
use Rattle.typed_cells.specs.KindSorts.{sort_of}
use Rattle.path_walks.specs.declared.answer.PathCells.{PathCells}
use Rattle.path_walks.specs.Paths.{AreBelow, item_at}
use Rattle.branch_cells.specs.declared.branch.BranchCells.{BranchCells}
use Rattle.branch_cells.specs.Ends.{end_of, ends_at}
use Rattle.branch_cells.specs.Branches.{AreOfKinds, HasWhole, IsFilled, IsWhole, ItemsOfKinds, ends_of}
use Rattle.branch_cells.specs.inner.Filling.{AreNamesFilled, IsNameFilled, ItemOfOneSort, ItemOfSort}
use Rattle.branch_cells.specs.inner.Layers.{can_be}
use Rattle.branch_cells.proofs.Narrowing.{bottom_is}
use Rattle.branch_cells.proofs.Items.{at_more, kind_at, kinds_at, kinds_count, kinds_from}

abbrev Item : Type 0
Item = Option (CellId × Lit)

one_item : (item : Item) (x y : CellId × Lit) → item ≡ Some x → item ≡ Some y → x ≡ y
one_item item x y e f = same_Some x y (sym e ∙ f)

-- ---- one name

pub blank_filled : (b : Build) (sure : Bool) (item : Item) (other : CellId) → item ≡ None →
    IsNameFilled b b sure item other other
blank_filled b sure item other e = record {
  blank = λ n. refl;
  given = λ a s y f l. absurd (none-some y (sym e ∙ f));
  rest = λ u a s y f l. absurd (none-some y (sym e ∙ f));
  sort = λ s h. subst (λ (o : Item). ItemOfSort b s o other) e h;
}

pub sure_filled : (b : Build) (sure : Bool) (item : Item) (other : CellId) (x : CellId × Lit) → item ≡ Some x →
    sure ≡ true →
    IsNameFilled b b sure item other x.0
sure_filled b sure item other x e on = record {
  blank = λ n. absurd (none-some x (sym n ∙ e));
  given = λ a s y f l. ap (λ (z : CellId × Lit). decode b.arena a z.0) (one_item item x y e f);
  rest = λ off a s y f l. absurd (true≢false (sym on ∙ off));
  sort = λ s h. (subst (λ (o : Item). ItemOfSort b s o other) e h).1.0;
}

-- the item and the other have one sort
pub item_type : (b : Build) (item : Item) (other : CellId) (x : CellId × Lit) → item ≡ Some x →
    ItemOfOneSort b item other →
    OneType b.arena.kinds x.0 other
item_type b item other x e h =
    let is = subst (λ (o : Item). ItemOfSort b h.sort o other) e h.is in
    record { sort = h.sort; left = is.1.0; right = is.0 }

pub item_below : (b : Build) (item : Item) (other : CellId) (x : CellId × Lit) → item ≡ Some x →
    ItemOfOneSort b item other →
    x.1.var < b.formula.vars
item_below b item other x e h = (subst (λ (o : Item). ItemOfSort b h.sort o other) e h.is).1.1

pub chosen_filled : (old new : Build) (sure : Bool) (item : Item) (other id : CellId) (x : CellId × Lit) →
    item ≡ Some x → Grows old new →
    ItemOfOneSort old item other → Chooses old new x.1 x.0 other id → IsNameFilled old new sure item other id
chosen_filled old new sure item other id x e g h c = record {
  blank = λ n. absurd (none-some x (sym n ∙ e));
  given = λ a s y f l.
      let same = one_item item x y e f in
      let on : lit_value x.1 a ≡ true = ap (λ (z : CellId × Lit). lit_value z.1 a) same ∙ l in
      c.value.value a s ∙ if_true (lit_value x.1 a) (decode old.arena a x.0) (decode old.arena a other) on
      ∙ sym (decode-before old new a x.0 g (sort-there old.arena.kinds h.sort x.0 is.1.0))
      ∙ ap (λ (z : CellId × Lit). decode new.arena a z.0) same;
  rest = λ u a s y f l.
      let off : lit_value x.1 a ≡ false = ap (λ (z : CellId × Lit). lit_value z.1 a) (one_item item x y e f) ∙ l in
      c.value.value a s ∙ if_false (lit_value x.1 a) (decode old.arena a x.0) (decode old.arena a other) off
      ∙ sym (decode-before old new a other g (sort-there old.arena.kinds h.sort other is.0));
  sort = λ s k. let of = subst (λ (o : Item). ItemOfSort old s o other) e k in c.sort s of.1.0 of.0;
}
  where
    is : ItemOfSort old h.sort (Some x) other
    is = subst (λ (o : Item). ItemOfSort old h.sort o other) e h.is

-- ---- as the build grows

item_sort_later : (b c : Build) (s : Sort) (item : Item) (other : CellId) → Grows b c → ItemOfSort b s item other →
    ItemOfSort c s item other
item_sort_later b c s None other g h = OfSort-later b c s other h g
item_sort_later b c s (Some y) other g h =
    let v = g.formula.vars in
    let lt = h.1.1 in
    (OfSort-later b c s other h.0 g, (OfSort-later b c s y.0 h.1.0 g, lt_of_lt_of_le lt v))

pub one_sort_later : (b c : Build) (item : Item) (other : CellId) → Grows b c → ItemOfOneSort b item other →
    ItemOfOneSort c item other
one_sort_later b c item other g h = record { sort = h.sort; is = item_sort_later b c h.sort item other g h.is }

-- the first name was filled before, and the build has grown since
filled_later : (old mid new : Build) (sure : Bool) (item : Item) (other id : CellId) → Grows old mid → Grows mid new →
    ItemOfOneSort old item other →
    IsNameFilled old mid sure item other id → IsNameFilled old new sure item other id
filled_later old mid new sure item other id f g h n = record {
  blank = n.blank;
  given = λ a s y e l.
      let is = subst (λ (o : Item). ItemOfSort mid h.sort o other) e
      (item_sort_later old mid h.sort item other f h.is) in
      here a ∙ n.given a (Satisfies-before mid new a g s) y e l ∙ sym
      (decode-before mid new a y.0 g (sort-there mid.arena.kinds h.sort y.0 is.1.0));
  rest = λ u a s y e l.
      let is = subst (λ (o : Item). ItemOfSort mid h.sort o other) e
      (item_sort_later old mid h.sort item other f h.is) in
      here a ∙ n.rest u a (Satisfies-before mid new a g s) y e l ∙ sym
      (decode-before mid new a other g (sort-there mid.arena.kinds h.sort other is.0));
  sort = λ s k. OfSort-later mid new s id (n.sort s k) g;
}
  where
    here : (a : List Bool) → decode new.arena a id ≡ decode mid.arena a id
    here a = decode-before mid new a id g (sort-there mid.arena.kinds h.sort id (n.sort h.sort h.is))

filled_before : (old mid new : Build) (sure : Bool) (item : Item) (other id : CellId) → Grows old mid →
    IsNameFilled mid new sure item other id → IsNameFilled old new sure item other id
filled_before old mid new sure item other id f n = record {
  blank = n.blank;
  given = n.given;
  rest = n.rest;
  sort = λ s k. n.sort s (item_sort_later old mid s item other f k);
}

-- an item by its place
pub item_read : (items : List Item) (i : ℕ) (d : Item) → i < length items → item_at items i ≡ get_or items i d
item_read items i d lt = ap (option_and_then (λ (o : Item). o)) (slice_get-get_or items i d lt)

-- the item and the other at a place, later
pub sorted_here : (b mid : Build) (items : List Item) (others : List CellId) (i : ℕ) (d : Item) (e : CellId) →
    length items ≡ length others →
    ((j : ℕ) (d : CellId) → j < length others → ItemOfOneSort b (item_at items j) (get_or others j d)) →
    i < length others → Grows b mid →
    ItemOfOneSort mid (get_or items i d) (get_or others i e)
sorted_here b mid items others i d e n types lt g =
    subst (λ (o : Item). ItemOfOneSort mid o (get_or others i e)) (item_read items i d (omega (arith, n, lt)))
    (one_sort_later b mid (item_at items i) (get_or others i e) g (types i e lt))

-- one name more
pub names_more : (old mid new : Build) (sure : Bool) (items : List Item) (others : List CellId) (i : ℕ)
    (ids after : List CellId) (id : CellId)
    (d : Item) (e : CellId) → length items ≡ length others →
    ((j : ℕ) (d : CellId) → j < length others → ItemOfOneSort old (item_at items j) (get_or others j d)) →
    i < length others → Grows old mid → Grows mid new → AreNamesFilled old mid sure items others i ids →
    IsNameFilled mid new sure (get_or items i d) (get_or others i e) id → after ≡ ids ++ id ∷ [] →
    AreNamesFilled old new sure items others (i + 1) after
names_more old mid new sure items others i ids after id d e n types lt f g h filled pushed =
    subst (AreNamesFilled old new sure items others (i + 1)) (sym pushed) (record {
      count = length_push ids id ∙ ap (λ (k : ℕ). k + 1) h.count;
      each = at_more (λ j c x. IsNameFilled old new sure (item_at items j) (get_or others j c) x) ids id i h.count
          (λ j c less. filled_later old mid new sure (item_at items j) (get_or others j c) (get_or ids j c) f g
          (types j c (omega (arith, lt, less))) (h.each j c less))
          (λ c. subst (λ (o : Item). IsNameFilled old new sure o (get_or others i c) id)
          (sym (item_read items i d (omega (arith, n, lt))))
          (subst (λ (x : CellId). IsNameFilled old new sure (get_or items i d) x id) (get_or_default others i e c lt)
          (filled_before old mid new sure (get_or items i d) (get_or others i e) id f filled)));
    })

pub names_none : (b : Build) (sure : Bool) (items : List Item) (others : List CellId) →
    AreNamesFilled b b sure items others 0 []
names_none b sure items others = record { count = refl; each = λ j d lt. absurd (omega (arith, lt)) }

-- both literals are the negation of the first variable
pub calm_is : (s : Bool) (w b : Lit) → s ≡ (not (can_be w) && not (can_be b)) → s ≡ true →
    (w ≡ record { var = 0; neg = true }) × (b ≡ record { var = 0; neg = true })
calm_is s w b e h = by (can_be w) (can_be b) refl refl (sym e ∙ h)
  where
    by : (p q : Bool) → can_be w ≡ p → can_be b ≡ q → (not (can_be w) && not (can_be b)) ≡ true →
        (w ≡ record { var = 0; neg = true }) × (b ≡ record { var = 0; neg = true })
    by false false f g k = (bottom_is w f, bottom_is b g)
    by true q f g k = absurd (true≢false (sym (sym (ap (λ (t : Bool). not t && not (can_be b)) f) ∙ k)))
    by false true f g k = absurd (true≢false (sym (sym (ap (λ (t : Bool). not t && not (can_be b)) f ∙ ap not g) ∙ k)))

-- ---- all of a path

module _ (b : Build) (names : List Kind) (x : PathCells) (others : List CellId) (below : AreBelow b x)
    (items : ItemsOfKinds b.arena.kinds names x.next) (of : AreOfKinds b.arena.kinds names others) where
  sort_here : (i : ℕ) (d : CellId) (a : Kind) → slice_get names i ≡ Some a → (o : Item) → item_at x.next i ≡ o →
      ItemOfSort b (sort_of a) o (get_or others i d)
  sort_here i d a e None f = kinds_at b.arena.kinds names others i a d of e
  sort_here i d a e (Some y) f = (
    kinds_at b.arena.kinds names others i a d of e,
    (items.sorts i a y e f, (below.items i y f).1),
  )

  pub items_typed : (i : ℕ) (d : CellId) → i < length others → ItemOfOneSort b (item_at x.next i) (get_or others i d)
  items_typed i d lt =
      let n = kinds_count b.arena.kinds names others of in
      let k = kind_at names i (omega (arith, lt, n)) in
      record { sort = sort_of k.kind; is = sort_here i d k.kind k.is (item_at x.next i) refl }

  pub items_count : length x.next ≡ length others
  items_count = items.count ∙ sym (kinds_count b.arena.kinds names others of)

  module _ (new : Build) (sure : Bool) (ids : List CellId) (g : Grows b new)
      (filled : AreNamesFilled b new sure x.next others (length others) ids)
      (calm : sure ≡ true → (x.wrong ≡ record { var = 0; neg = true }) × (x.big ≡ record { var = 0; neg = true }))
      (forced : (a : List Bool) → Satisfies a b.formula → lit_value top_lit a ≡ true)
      (whole : HasWhole b.formula x) where
    abbrev made : BranchCells
    made = record { ends = ends_of x; next = ids }

    -- at each name
    at_name : (i : ℕ) (d : CellId) → i < length others →
        IsNameFilled b new sure (item_at x.next i) (get_or others i d) (get_or ids i d)
    at_name i d lt = filled.each i d lt

    in_others : (i : ℕ) (id : CellId) → slice_get ids i ≡ Some id → i < length others
    in_others i id e = let lt = slice_get_within ids i id e in let n = filled.count in omega (arith, lt, n)

    blank_at : (i : ℕ) → item_at x.next i ≡ None → slice_get ids i ≡ slice_get others i
    blank_at i e = by (cases_lt i (length others))
      where
        by : (i < length others) ⊎ (length others ≤ i) → slice_get ids i ≡ slice_get others i
        by (inl lt) = by_item (slice_get others i) refl
          where
            by_item : (o : Option CellId) → slice_get others i ≡ o → slice_get ids i ≡ slice_get others i
            by_item None f = absurd (none-some (get_or others i (record { index = 0 }))
                (sym f ∙ slice_get-get_or others i (record { index = 0 }) lt))
            by_item (Some y) f =
                let n = filled.count in
                slice_get-get_or ids i y (omega (arith, lt, n))
                ∙ ap (λ z. Some z) ((at_name i y lt).blank e ∙ get_or_from_slice_get others i y y f) ∙ sym f
        by (inr le) = let n = filled.count in slice_get_past ids i (omega (arith, le, n)) ∙ sym
            (slice_get_past others i le)

    given_at : (a : List Bool) → Satisfies a new.formula → (i : ℕ) (y : CellId × Lit) (id : CellId) →
        item_at x.next i ≡ Some y →
        slice_get ids i ≡ Some id → lit_value y.1 a ≡ true → decode new.arena a id ≡ decode new.arena a y.0
    given_at a s i y id e f l =
        ap (decode new.arena a) (sym (get_or_from_slice_get ids i id id f)) ∙
        (at_name i id (in_others i id f)).given a s y e l

    -- where it holds, and is sure, each item's literal is true
    rest_at : (a : List Bool) → Satisfies a new.formula → (k : Ending) → ends_at (ends_of x) k a ≡ true →
        (i : ℕ) (y : CellId × Lit) (id other : CellId) →
        item_at x.next i ≡ Some y → slice_get ids i ≡ Some id → slice_get others i ≡ Some other →
        lit_value y.1 a ≡ false →
        decode new.arena a id ≡ decode new.arena a other
    rest_at a s k end i y id other e f o l = by sure refl
      where
        none : (t : Lit) → t ≡ record { var = 0; neg = true } → lit_value t a ≡ true → ⊥
        none t h on = true≢false (sym on ∙ ap (λ (z : Lit). lit_value z a) h ∙ ap not
            (forced a (Satisfies-before b new a g s)))

        never : (k : Ending) → ends_at (ends_of x) k a ≡ true → sure ≡ true → ⊥
        never Held on h = true≢false (sym (whole a (Satisfies-before b new a g s) on i y e) ∙ l)
        never MetWrong on h = none x.wrong (calm h).0 on
        never MetBig on h = none x.big (calm h).1 on

        by : (t : Bool) → sure ≡ t → decode new.arena a id ≡ decode new.arena a other
        by true h = absurd (never k end h)
        by false h =
            ap (decode new.arena a) (sym (get_or_from_slice_get ids i id id f)) ∙
            (at_name i id (in_others i id f)).rest h a s y e l
            ∙ ap (decode new.arena a) (get_or_from_slice_get others i other id o)

    pub path_filled : IsFilled b new others x made
    path_filled = record {
      grows = g;
      ends = refl;
      count = filled.count;
      blank = blank_at;
      given = λ a s k end i y id e f l. given_at a s i y id e f l;
      rest = rest_at;
    }

    below_at : (k : Ending) → (end_of (ends_of x) k).var < new.formula.vars
    below_at Held = lt_of_lt_of_le below.holds g.formula.vars
    below_at MetWrong = lt_of_lt_of_le below.wrong g.formula.vars
    below_at MetBig = lt_of_lt_of_le below.big g.formula.vars

    pub path_whole : IsWhole new names made
    path_whole = record {
      below = below_at;
      cells = kinds_from new.arena.kinds names ids (filled.count ∙ kinds_count b.arena.kinds names others of)
          (λ i a d e.
          let n = kinds_count b.arena.kinds names others of in
          let lt = slice_get_within names i a e in
          (at_name i d (omega (arith, lt, n))).sort (sort_of a) (sort_here i d a e (item_at x.next i) refl));
    }
