-- Sets of what is made of choices, and the rows of the sets of tuples.
use Rattle.std.proofs.Common.{◌≡◌, ℕ, Bool, List, [], ◌∷◌, map, length, All, Option, Some, None, refl, ap, ◌∙◌, sym}
use Rattle.std.proofs.Common.{subst}
use Rattle.std.specs.Prelude.{option_and_then, option_map}
use Rattle.std.proofs.lemmas.List.{length-map}
use Rattle.std.proofs.lemmas.List.Elements.{All-head, All-tail}
use Rattle.tla_values.specs.Sets.{elements, set_of}
use Rattle.tla_values.specs.declared.value.Value.{Value, out-Value}
use Rattle.tla_values.specs.declared.value.Value.TheVariants as value
use Rattle.tla_values.proofs.Members.{elements-set}
use Rattle.tla_meaning.specs.declared.op.Op.{Op}
use Rattle.tla_meaning.specs.declared.op.Op.TheVariants as op
use Rattle.tla_meaning.specs.declared.outcome.Outcome.{Outcome}
use Rattle.tla_meaning.specs.declared.outcome.Outcome.TheVariants.{Val, Wrong}
use Rattle.tla_meaning.specs.declared.place.Place.{Place}
use Rattle.tla_meaning.specs.Numbers.{Width}
use Rattle.tla_meaning.specs.Operators.{on_all_sets, table}
use Rattle.tla_meaning.specs.Shapes.{all_set_items, choices, record_of, records, sequence, set_items, the_set, tuples}
use Rattle.cell_arena.specs.declared.build.Build.{Build}
use Rattle.cell_arena.specs.declared.kinds.CellId.{CellId}
use Rattle.cell_arena.specs.declared.kinds.CellKind.{CellKind}
use Rattle.cell_arena.specs.Cells.{kind_at}
use Rattle.cell_arena.specs.Decode.{decode, kind_value, present}
use Rattle.cell_arena.specs.Growth.{Grows}
use Rattle.cell_arena.proofs.Decoding.{decode-kind}
use Rattle.cell_arena.proofs.Growing.{Satisfies-before, decode-before}
use Rattle.cell_merge.specs.Picks.{IsSetCell}
use Rattle.cell_merge.specs.Sorts.{Sort, OfSort, set_of as set_sort}
use Rattle.cell_merge.proofs.Edges.{is-set}
use Rattle.outcome_cells.specs.declared.cells.Cells.{Cells}
use Rattle.outcome_cells.specs.Rows.{ShowsAt}
use Rattle.outcome_cells.specs.Shows.{AreCells, Shows}
use Rattle.typed_cells.specs.KindSorts.{OfSorts}
use Rattle.typed_cells.proofs.PartSorts.{OfSorts-later, sorts-count}
use Rattle.member_choices.specs.declared.choice.Choice.{Choice}
use Rattle.member_choices.specs.Binders.{MakesProduct}
use Rattle.member_choices.specs.Choices.{ChoicesBelow, ChoicesOf, ListsChoices}
use Rattle.member_choices.specs.inner.Tests.{AreImagesOf, AreWholes, ChoicesOfCount, ChoicesOver, CollectsCells}
use Rattle.member_choices.specs.inner.Tests.{MakesOfChoices}
use Rattle.member_choices.proofs.Moved.{choices-move, wholes-have}
use Rattle.member_choices.proofs.Testing.{choices-later as below-later}

-- ---- sets of one cell each

module _ (make : List Value → Value) (made : List Sort → Sort) (old mid : Build) (cs : List Choice)
    (ids items : List CellId) (ss : List Sort)
    (some : ChoicesOf old.arena.kinds ss cs) (before : Grows old mid)
    (are : AreWholes old mid make made cs (length cs) ids) (is : items ≡ ids) where
  pub wholes-over : ChoicesBelow old.formula.vars cs → AreImagesOf mid.arena.kinds mid.formula.vars cs items
  wholes-over below = rw is (record {
    below = below-later old.formula.vars mid.formula.vars cs below before.formula.vars;
    count = are.count;
    sort = made ss;
    cells = are.sorts ss some;
  })

  pub sets-make : (new : Build) (id : CellId) → Grows mid new → CollectsCells mid new cs items id →
      MakesOfChoices old new make made cs id
  sets-make new id grows set = record {
    value = λ a s vss choices.
        set.value a s vss make (choices-move old mid a ss before cs vss some choices)
        (rw is (wholes-have old mid a ss before make made cs ids some (Satisfies-before mid new a grows s) are));
    sort = λ ts h. set.sort (made ts) (rw is (are.sorts ts h));
  }

-- ---- the sets

-- sorts of the members of several sets
record Sorted (ks : List CellKind) (sets : List CellId) : Type 0 where
  pub sorts : List Sort
  pub are : OfSorts ks (map set_sort sorts) sets

sorted : (b : Build) (sets : List CellId) → All (IsSetCell b) sets → Sorted b.arena.kinds sets
sorted b [] h = record { sorts = []; are = tt }
sorted b (x ∷ xs) h =
    let p = All-head (IsSetCell b) x xs h in
    let r = sorted b xs (All-tail (IsSetCell b) x xs h) in
    record { sorts = p.sort ∷ r.sorts; are = (p.is, r.are) }

pub lists-over : (old mid : Build) (sets : List CellId) (cs : List Choice) → All (IsSetCell old) sets → Grows old mid →
    ListsChoices mid.arena mid.formula sets cs → ChoicesOver mid cs
lists-over old mid sets cs h g lists =
    let r = sorted old sets h in
    record {
      below = lists.below;
      some = record {
        sorts = r.sorts;
        are = lists.sorts r.sorts (OfSorts-later old mid (map set_sort r.sorts) sets r.are g);
      };
    }

pub lists-count : (old mid : Build) (n : ℕ) (sets : List CellId) (cs : List Choice) → All (IsSetCell old) sets →
    length sets ≡ n → Grows old mid →
    ListsChoices mid.arena mid.formula sets cs → ChoicesOfCount mid n cs
lists-count old mid n sets cs h e g lists =
    let r = sorted old sets h in record {
      below = lists.below;
      sorts = r.sorts;
      count = sym (length-map r.sorts set_sort) ∙ sym (sorts-count old.arena.kinds (map set_sort r.sorts) sets r.are)
          ∙ e;
      are = lists.sorts r.sorts (OfSorts-later old mid (map set_sort r.sorts) sets r.are g);
    }

-- the items of the values of set cells
items-of : (b : Build) (a : List Bool) (sets : List CellId) → All (IsSetCell b) sets →
    all_set_items (map (decode b.arena a) sets) ≡ Some (map (λ s. elements (decode b.arena a s)) sets)
items-of b a [] h = refl
items-of b a (x ∷ xs) h =
    let p = All-head (IsSetCell b) x xs h in
    let k = is-set (OfSort b.arena.kinds p.sort) (kind_at b.arena.kinds x) p.is.1 in
    let ys : List Value = set_of (present a (decode b.arena a) k.0) in
    let e : decode b.arena a x ≡ value.Set ys = decode-kind b.arena a x b.built p.is.0
    ∙ ap (kind_value b.arena.texts a (decode b.arena a)) k.1 in
    let one : set_items (out-Value (decode b.arena a x)) ≡ Some (elements (decode b.arena a x)) =
    ap (λ v. set_items (out-Value v)) e ∙ ap set_items (value.outs-Set ys)
    ∙ ap Some (sym (ap elements e ∙ elements-set ys)) in
    ap (λ (o : Option (List Value)). option_and_then
    (λ zs. option_map (λ zss. zs ∷ zss) (all_set_items (map (decode b.arena a) xs))) o) one
    ∙ ap (option_map (λ (zss : List (List Value)). elements (decode b.arena a x) ∷ zss))
    (items-of b a xs (All-tail (IsSetCell b) x xs h))

elements-later : (b c : Build) (a : List Bool) (sets : List CellId) → Grows b c → All (IsSetCell b) sets →
    map (λ s. elements (decode c.arena a s)) sets ≡ map (λ s. elements (decode b.arena a s)) sets
elements-later b c a [] g h = refl
elements-later b c a (x ∷ xs) g h =
    ap (λ v. elements v ∷ map (λ s. elements (decode c.arena a s)) xs)
    (decode-before b c a x g (All-head (IsSetCell b) x xs h).is.0)
    ∙ ap (λ (yss : List (List Value)). elements (decode b.arena a x) ∷ yss)
    (elements-later b c a xs g (All-tail (IsSetCell b) x xs h))

-- what an operator gives of several sets, by what it makes of a choice of a member of each
module _ (o : Op) (make : List Value → Value) (made : List Sort → Sort)
    (gives : (w : Width) (p : Place) (vs : List Value) (xss : List (List Value)) → all_set_items vs ≡ Some xss →
    table w p o vs ≡ Val (the_set (map make (choices xss)))) where
  pub product-row : (old mid new : Build) (sets : List CellId) (cs : List Choice) (id : CellId) (r : Cells) →
      All (IsSetCell old) sets → Grows old mid → Grows mid new →
      ListsChoices mid.arena mid.formula sets cs → MakesOfChoices mid new make made cs id →
      ShowsAt new r (λ a p. Val (decode new.arena a id)) →
      ((s : Sort) → OfSort new.arena.kinds s id → AreCells new s r) → MakesProduct old new o made sets r
  product-row old mid new sets cs id r are before grows lists makes shows cells = record {
    row = record {
      shows = λ a s p.
          let vss : List (List Value) = choices (map (λ s. elements (decode mid.arena a s)) sets) in
          let e : decode new.arena a id ≡ the_set
          (map make (choices (map (λ s. elements (decode old.arena a s)) sets))) =
          makes.value a s vss (lists.members a (Satisfies-before mid new a grows s))
          ∙ ap (λ (xss : List (List Value)). the_set (map make (choices xss)))
          (elements-later old mid a sets before are) in
          subst (Shows new.arena a r) (ap Val e ∙ sym (gives (Some new.arena.width) p _ _ (items-of old a sets are)))
          (shows.shows a s p);
    };
    cells = λ ss h. cells (set_sort (made ss))
        (makes.sort ss (lists.sorts ss (OfSorts-later old mid (map set_sort ss) sets h before)));
  }

on-sets : (p : Place) (f : List (List Value) → Outcome) (vs : List Value) (xss : List (List Value)) →
    all_set_items vs ≡ Some xss → on_all_sets p f vs ≡ f xss
on-sets p f vs xss e = ap (λ (o : Option (List (List Value))). elim o [ None ↦ Wrong p | Some xss ↦ f xss ]) e

pub product-gives : (w : Width) (p : Place) (vs : List Value) (xss : List (List Value)) → all_set_items vs ≡ Some xss →
    table w p op.Product vs ≡ Val (the_set (map sequence (choices xss)))
product-gives w p vs xss e = on-sets p (λ xss. Val (tuples xss)) vs xss e

pub records-gives : (names : List (List ℕ)) (w : Width) (p : Place) (vs : List Value) (xss : List (List Value)) →
    all_set_items vs ≡ Some xss →
    table w p (op.RecSet names) vs ≡ Val (the_set (map (record_of names) (choices xss)))
records-gives names w p vs xss e = on-sets p (λ xss. Val (records names xss)) vs xss e
