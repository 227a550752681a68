-- Parts of tuples and records by kinds: what the table of types says of an item, of a field and of what is updated is
-- what the calls ask of sorts.
use Rattle.std.proofs.Common.{◌≡◌, ℕ, zero, suc, ◌-◌, ◌<◌, ◌≤◌, Bool, true, false, List, [], ◌∷◌, map, length, get_or}
use Rattle.std.proofs.Common.{Bor, Some, refl, ap, ◌∙◌, sym, arith}
use Rattle.std.specs.Prelude.{if◌then◌else◌}
use Rattle.std.specs.Ordering.{is_eq}
use Rattle.std.specs.declared.cmp.Ordering.{Ordering}
use Rattle.std.specs.declared.cmp.Ordering.TheVariants.{Less, Equal, Greater}
use Rattle.tla_values.specs.Order.{text_cmp}
use Rattle.tla_values.specs.declared.text.Text.{Text}
use Rattle.tla_values.proofs.TotalLemmas.{texts_equal}
use Rattle.cell_arena.specs.declared.kinds.CellId.{CellId}
use Rattle.cell_arena.specs.declared.kinds.CellKind.{CellKind}
use Rattle.cell_merge.specs.Sorts.{OfSort}
use Rattle.function_rewriter.specs.Functions.{HasField, HasItem}
use Rattle.kernel_trees.specs.TypeKinds.{Kind, Tup, Rec, Kinds, no_kinds, more_kinds, Fields, no_fields, more_fields}
use Rattle.kernel_trees.specs.TypeKinds.{item_kind, field_kind}
use Rattle.typed_cells.specs.KindSorts.{sort_of, item_sorts, field_sorts, sort_at}
use Rattle.function_operators.specs.declared.index.Index.TheVariants as index
use Rattle.function_operators.specs.Parts.{HasPart}
use Rattle.function_operators.proofs.Found.{item_there}

-- ---- items

kind_one : (a b : Kind) → Some a ≡ Some b → a ≡ b
kind_one a b e = cc

-- an item of the kind stands at a number from 1 to that of the items, and has its sort
record IsItemPlace (as' : Kinds) (n : ℕ) (a : Kind) : Type 0 where
  from : 1 ≤ n
  to : n ≤ length (item_sorts as')
  sort : sort_of a ≡ sort_at (item_sorts as') (n - 1)

item_place : (as' : Kinds) (n : ℕ) (a : Kind) → item_kind as' n ≡ Some a → IsItemPlace as' n a
item_place no_kinds n a e = absurd (cc)
item_place (more_kinds b bs) zero a e = absurd (cc)
item_place (more_kinds b bs) (suc zero) a e =
    record { from = omega arith; to = omega arith; sort = ap sort_of (sym (kind_one b a e)) }
item_place (more_kinds b bs) (suc (suc n)) a e =
    let h = item_place bs (suc n) a e in
    let less : suc n - 1 ≡ n = omega arith in
    let more : suc (suc n) - 1 ≡ suc n = omega arith in
    record {
      from = omega arith;
      to = let m = h.to in omega arith;
      sort = h.sort ∙ (ap (sort_at (item_sorts bs)) less ∙ sym (ap (sort_at (sort_of b ∷ item_sorts bs)) more));
    }

pub item_part : (ks : List CellKind) (as' : Kinds) (n : ℕ) (a : Kind) → item_kind as' n ≡ Some a →
    HasPart ks (index.Number n) (sort_of (Tup as')) (sort_of a)
item_part ks as' n a e = let h = item_place as' n a e in (h.from, (h.to, h.sort))

pub kind_item : (ks : List CellKind) (t : CellId) (as' : Kinds) (n : ℕ) (a : Kind) → OfSort ks (sort_of (Tup as')) t →
    item_kind as' n ≡ Some a → HasItem ks t n
kind_item ks t as' n a h e = item_there ks t (index.Number n) n (sort_of (Tup as')) (sort_of a) refl h
    (item_part ks as' n a e)

-- ---- fields

is_equal : (o : Ordering) → is_eq o ≡ true → o ≡ Equal
is_equal Equal e = refl
is_equal Less e = absurd (cc)
is_equal Greater e = absurd (cc)

record IsFieldPlace (fs : Fields) (x : List ℕ) (a : Kind) : Type 0 where
  place : ℕ
  within : place < length (map (λ f. f.0) (field_sorts fs))
  named : get_or (map (λ f. f.0) (field_sorts fs)) place [] ≡ x
  sort : sort_of a ≡ sort_at (map (λ f. f.1) (field_sorts fs)) place

field_place : (fs : Fields) (x : List ℕ) (a : Kind) → field_kind fs x ≡ Some a → IsFieldPlace fs x a
field_place no_fields x a e = absurd (cc)
field_place (more_fields y b fs) x a e = by (is_eq (text_cmp x y)) refl e (field_place fs x a)
  where
    by : (t : Bool) → is_eq (text_cmp x y) ≡ t → (if t then Some b else field_kind fs x) ≡ Some a →
        (field_kind fs x ≡ Some a → IsFieldPlace fs x a) → IsFieldPlace (more_fields y b fs) x a
    by true is e rest = record {
      place = 0;
      within = omega arith;
      named = sym (texts_equal x y (is_equal (text_cmp x y) is));
      sort = ap sort_of (sym (kind_one b a e));
    }
    by false is e rest =
        let h = rest e in
        record { place = suc h.place; within = let m = h.within in omega arith; named = h.named; sort = h.sort }

pub field_part : (ks : List CellKind) (fs : Fields) (x : Bor Text) (a : Kind) → field_kind fs x.now ≡ Some a →
    HasPart ks (index.Name x) (sort_of (Rec fs)) (sort_of a)
field_part ks fs x a e = let h = field_place fs x.now a e in (h.place, (h.within, (h.named, h.sort)))

pub kind_field : (ks : List CellKind) (r : CellId) (fs : Fields) (x : List ℕ) (a : Kind) →
    OfSort ks (sort_of (Rec fs)) r →
    field_kind fs x ≡ Some a → HasField ks r x
kind_field ks r fs x a h e =
    let p = field_place fs x a e in
    record {
      names = map (λ f. f.0) (field_sorts fs);
      sorts = sort_at (map (λ f. f.1) (field_sorts fs));
      is = h;
      place = p.place;
      within = p.within;
      named = p.named;
    }
