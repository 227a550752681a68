-- The cells of a choice as one cell.
use Rattle.std.proofs.Common.{◌≡◌, ℕ, ◌+◌, ◌<◌, Bool, true, false, nat_lt, List, [], ◌∷◌, ◌++◌, map, length, get_or}
use Rattle.std.proofs.Common.{refl, ap, ◌∙◌, sym, subst, arith}
use Rattle.std.proofs.lemmas.Bool.Decides.{Decides-ltb}
use Rattle.std.proofs.lemmas.List.{get_or_default, get_or_append_left, get_or_push, length_push}
use Rattle.std.proofs.lemmas.List.Elements.{All-push, All-weaker}
use Rattle.tla_values.specs.Sequences.{sequence as cell_sequence}
use Rattle.tla_values.specs.declared.value.Value.{Value}
use Rattle.tla_meaning.specs.Shapes.{sequence}
use Rattle.cell_arena.specs.declared.build.Build.{Build}
use Rattle.cell_arena.specs.declared.kinds.CellId.{CellId}
use Rattle.cell_arena.specs.Decode.{decode}
use Rattle.cell_arena.specs.Growth.{Decodes, Grows}
use Rattle.cell_arena.proofs.Growing.{Satisfies-before, decode-before}
use Rattle.cell_merge.specs.Sorts.{OfSort, Sort}
use Rattle.cell_merge.proofs.Edges.{sort-there}
use Rattle.cell_merge.proofs.SortLaws.{OfSort-later}
use Rattle.outcome_cells.proofs.OneText.{same-sequence}
use Rattle.typed_cells.specs.KindSorts.{OfSorts, tuple_sort}
use Rattle.typed_cells.proofs.PartSorts.{OfSorts-later, sorts-count, sorts-there}
use Rattle.member_choices.specs.declared.choice.Choice.{Choice}
use Rattle.member_choices.specs.Choices.{ChoicesOf}
use Rattle.member_choices.specs.inner.Tests.{AreThere, AreWholes, IsWhole, whole_sort, whole_value}

-- ---- choices as a build grows

pub ChoicesOf-later : (b c : Build) (ss : List Sort) (cs : List Choice) → Grows b c → ChoicesOf b.arena.kinds ss cs →
    ChoicesOf c.arena.kinds ss cs
ChoicesOf-later b c ss cs g h =
    All-weaker (λ (x : Choice). OfSorts b.arena.kinds ss x.cells) (λ (x : Choice). OfSorts c.arena.kinds ss x.cells)
    (λ x p. OfSorts-later b c ss x.cells p g) cs h

-- the values of older cells stay
pub values-later : (b c : Build) (a : List Bool) (ss : List Sort) (xs : List CellId) → Grows b c →
    OfSorts b.arena.kinds ss xs →
    map (decode c.arena a) xs ≡ map (decode b.arena a) xs
values-later b c a [] [] g h = refl
values-later b c a [] (x ∷ xs) g h = absurd h
values-later b c a (s ∷ ss) [] g h = absurd h
values-later b c a (s ∷ ss) (x ∷ xs) g h =
    ap (λ (v : Value). v ∷ map (decode c.arena a) xs) (decode-before b c a x g (sort-there b.arena.kinds s x h.0))
    ∙ ap (λ (vs : List Value). decode b.arena a x ∷ vs) (values-later b c a ss xs g h.1)

-- ---- one cell for several

pub whole-one : (b : Build) (alone : Bool) (xs : List CellId) (d : CellId) → AreThere b.arena.kinds xs → alone ≡ true →
    length xs ≡ 1 →
    IsWhole b b (whole_value alone) (whole_sort alone) xs (get_or xs 0 d)
whole-one b alone [] d h e n = absurd (omega arith)
whole-one b alone (x ∷ y ∷ xs) d h e n = absurd (omega arith)
whole-one b alone (x ∷ []) d h e n = record {
  there = sorts-there b.arena.kinds h.sorts (x ∷ []) h.are 0 d (omega arith);
  sort = λ ss k. rw e (one ss k);
  value = λ a s. rw e refl;
}
  where
    one : (ss : List Sort) → OfSorts b.arena.kinds ss (x ∷ []) → OfSort b.arena.kinds (whole_sort true ss) x
    one [] k = absurd k
    one (s ∷ []) k = k.0
    one (s ∷ t ∷ ss) k = absurd k.1

pub whole-several : (b c : Build) (alone : Bool) (xs parts : List CellId) (id : CellId) →
    (alone ≡ true → length xs ≡ 1 → ⊥) → parts ≡ xs →
    Decodes c id (λ a. cell_sequence (map (decode b.arena a) parts)) →
    ((ss : List Sort) → OfSorts b.arena.kinds ss parts → OfSort c.arena.kinds (tuple_sort ss) id) →
    IsWhole b c (whole_value alone) (whole_sort alone) xs id
whole-several b c alone xs parts id several is decodes sort = record {
  there = decodes.there;
  sort = λ ss k.
      subst (λ (s : Sort). OfSort c.arena.kinds s id)
      (sorts alone ss (λ e n. several e (sorts-count b.arena.kinds ss xs k ∙ n)))
      (sort ss (subst (OfSorts b.arena.kinds ss) (sym is) k));
  value = λ a s.
      decodes.value a s ∙ ap (λ (ys : List CellId). cell_sequence (map (decode b.arena a) ys)) is
      ∙ same-sequence (map (decode b.arena a) xs)
      ∙ values alone xs (decode b.arena a) several;
}
  where
    sorts : (alone : Bool) (ss : List Sort) → (alone ≡ true → length ss ≡ 1 → ⊥) → tuple_sort ss ≡ whole_sort alone ss
    sorts false ss h = refl
    sorts true [] h = refl
    sorts true (s ∷ []) h = absurd (h refl refl)
    sorts true (s ∷ t ∷ ss) h = refl

    values : (alone : Bool) (xs : List CellId) (of : CellId → Value) → (alone ≡ true → length xs ≡ 1 → ⊥) →
        sequence (map of xs) ≡ whole_value alone (map of xs)
    values false xs of h = refl
    values true [] of h = refl
    values true (x ∷ []) of h = absurd (h refl refl)
    values true (x ∷ y ∷ xs) of h = refl

-- ---- one cell for each choice

below-more : (P : ℕ → Type 0) (i : ℕ) → ((j : ℕ) → j < i → P j) → P i → (j : ℕ) → j < i + 1 → P j
below-more P i h last j lt = go (nat_lt j i) refl
  where
    go : (t : Bool) → nat_lt j i ≡ t → P j
    go true n = h j ((Decides-ltb j i).0 n)
    go false n =
        let k : j < i → ⊥ = λ l. let m : nat_lt j i ≡ true = (Decides-ltb j i).1 l in absurd (cc) in
        let e : i ≡ j = omega (arith, k) in
        subst P e last

module _ (make : List Value → Value) (made : List Sort → Sort) where
  pub whole-made : (b c : Build) (xs : List CellId) (id : CellId) →
      Decodes c id (λ a. make (map (decode b.arena a) xs)) →
      ((ss : List Sort) → OfSorts b.arena.kinds ss xs → OfSort c.arena.kinds (made ss) id) → IsWhole b c make made xs id
  whole-made b c xs id decodes sort = record { there = decodes.there; sort = sort; value = decodes.value }

  pub wholes-push : (old mid new : Build) (cs : List Choice) (i : ℕ) (d : Choice) (ids after : List CellId)
      (id : CellId) (some : List Sort) → i < length cs →
      ChoicesOf old.arena.kinds some cs → Grows old mid → Grows mid new → AreWholes old mid make made cs i ids →
      IsWhole mid new make made (get_or cs i d).cells id →
      after ≡ ids ++ id ∷ [] → AreWholes old new make made cs (i + 1) after
  wholes-push old mid new cs i d ids after id some lt are before grows h one pushed = rw pushed (record {
    count = length_push ids id ∙ ap (λ (n : ℕ). n + 1) h.count;
    sorts = λ ss k. All-push (OfSort new.arena.kinds (made ss)) ids id
        (All-weaker (OfSort mid.arena.kinds (made ss)) (OfSort new.arena.kinds (made ss))
        (λ x p. OfSort-later mid new (made ss) x p grows) ids (h.sorts ss k))
        (one.sort ss (OfSorts-later old mid ss (get_or cs i d).cells (k i d lt) before));
    values = λ a s j e x jlt.
        below-more (λ (j : ℕ). (e : Choice) (x : CellId) → decode new.arena a (get_or (ids ++ id ∷ []) j x) ≡ make
        (map (decode old.arena a) (get_or cs j e).cells)) i
        (λ j l e x.
        let n : j < length ids = let m = h.count in omega arith in
        ap (decode new.arena a) (get_or_append_left ids (id ∷ []) x j n)
        ∙ decode-before mid new a (get_or ids j x) grows
        (sort-there mid.arena.kinds (made some) (get_or ids j x) (h.sorts some are j x n))
        ∙ h.values a (Satisfies-before mid new a grows s) j e x l)
        (λ e x.
        let other : get_or cs i e ≡ get_or cs i d = get_or_default cs i e d lt in
        ap (decode new.arena a) (get_or_push ids id x i h.count) ∙ one.value a s
        ∙ ap make (values-later old mid a some (get_or cs i d).cells before (are i d lt))
        ∙ ap (λ (c : Choice). make (map (decode old.arena a) c.cells)) (sym other))
        j jlt e x;
  })
