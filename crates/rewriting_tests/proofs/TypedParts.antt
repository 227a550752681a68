-- Cells of several types, and what is made of them.
use Rattle.std.proofs.Common.{◌≡◌, ℕ, suc, ◌+◌, ◌<◌, ◌≤◌, Bool, true, false, List, [], ◌∷◌, ◌++◌, length, take, get_or}
use Rattle.std.proofs.Common.{All, map, Option, Some, None, option_map, option_and_then, refl, sym, ◌∙◌, ap, subst}
use Rattle.std.proofs.Common.{arith, if◌then◌else◌}
use Rattle.std.proofs.lemmas.List.{length-map, take_all, take_more}
use Rattle.std.proofs.lemmas.List.Elements.{All-cons, All-nil}
use Rattle.snowcat_rows.specs.TypeTexts.{are_distinct}
use Rattle.snowcat_rows.specs.declared.types.Ty.{Ty, Tup as tup_ty, Rec as rec_ty}
use Rattle.kernel_trees.specs.TypeKinds as kind
use Rattle.kernel_trees.specs.TypeKinds.{Kind, all_fields_there, all_there, fields, kind_of, kinds, record_kind}
use Rattle.kernel_trees.proofs.TypeLaws.{kind-Rec, kind-Tup}
use Rattle.cell_arena.specs.declared.build.Build.{Build}
use Rattle.cell_arena.specs.declared.kinds.CellId.{CellId}
use Rattle.cell_arena.specs.declared.kinds.CellKind.{CellKind}
use Rattle.cell_arena.specs.Growth.{Grows}
use Rattle.cell_merge.specs.Sorts.{OfSort, Sort}
use Rattle.cell_merge.proofs.SortLaws.{OfSort-later}
use Rattle.typed_cells.specs.FieldOrder.{in_order, put_field}
use Rattle.typed_cells.specs.KindSorts.{OfSorts, OfType, field_sorts, record_sort, sort_of, tuple_sort}
use Rattle.typed_cells.proofs.DefaultCells.{Kinded, Typed, fields_there, none_some, same_some}
use Rattle.typed_cells.proofs.PartSorts.{insert-sorts, kinds-sorts}
use Rattle.rewriting_tests.specs.OfTypes.{OfTypes}

by_form : (ks : List CellKind) (t : Ty) (id : CellId) (u : Ty) (o : Option Kind) → t ≡ u → kind_of u ≡ o →
    id.index < length ks → ((k : Kind) → o ≡ Some k → OfSort ks (sort_of k) id) → OfType ks t id
by_form ks t id u o e f there h = record { there = there; sort = λ k g. h k (sym (ap kind_of e ∙ f) ∙ g) }

-- ---- lists of types

pub types-there : (ks : List CellKind) (ts : List Ty) (xs : List CellId) → OfTypes ks ts xs →
    All (λ (x : CellId). x.index < length ks) xs
types-there ks [] [] h = All-nil (λ (x : CellId). x.index < length ks)
types-there ks [] (x ∷ xs) h = absurd (h)
types-there ks (t ∷ ts) [] h = absurd (h)
types-there ks (t ∷ ts) (x ∷ xs) h =
    All-cons (λ (y : CellId). y.index < length ks) x xs h.0.there (types-there ks ts xs h.1)

pub types-count : (ks : List CellKind) (ts : List Ty) (xs : List CellId) → OfTypes ks ts xs → length xs ≡ length ts
types-count ks [] [] h = refl
types-count ks [] (x ∷ xs) h = absurd (h)
types-count ks (t ∷ ts) [] h = absurd (h)
types-count ks (t ∷ ts) (x ∷ xs) h = ap suc (types-count ks ts xs h.1)

type-later : (b c : Build) (t : Ty) (x : CellId) → OfType b.arena.kinds t x → Grows b c → OfType c.arena.kinds t x
type-later b c t x h g =
    record {
      there = let p = h.there in let q = g.longer in omega arith;
      sort = λ k e. OfSort-later b c (sort_of k) x (h.sort k e) g;
    }

types-later : (b c : Build) (ts : List Ty) (xs : List CellId) → OfTypes b.arena.kinds ts xs → Grows b c →
    OfTypes c.arena.kinds ts xs
types-later b c [] [] h g = tt
types-later b c [] (x ∷ xs) h g = absurd (h)
types-later b c (t ∷ ts) [] h g = absurd (h)
types-later b c (t ∷ ts) (x ∷ xs) h g = (type-later b c t x h.0 g, types-later b c ts xs h.1 g)

types-push : (ks : List CellKind) (ts : List Ty) (xs : List CellId) (t : Ty) (x : CellId) → OfTypes ks ts xs →
    OfType ks t x → OfTypes ks (ts ++ t ∷ []) (xs ++ x ∷ [])
types-push ks [] [] t x h one = (one, tt)
types-push ks [] (y ∷ xs) t x h one = absurd (h)
types-push ks (u ∷ ts) [] t x h one = absurd (h)
types-push ks (u ∷ ts) (y ∷ xs) t x h one = (h.0, types-push ks ts xs t x h.1 one)

pub types-none : (ks : List CellKind) (ts : List Ty) (xs : List CellId) → xs ≡ [] → OfTypes ks (take 0 ts) xs
types-none ks ts xs e = rw e tt

pub types-turn : (b c : Build) (ts : List Ty) (i : ℕ) (t : Ty) (x : CellId) (xs after : List CellId) →
    i < length ts → t ≡ get_or ts i t → OfTypes b.arena.kinds (take i ts) xs → Grows b c →
    OfType c.arena.kinds t x → after ≡ xs ++ x ∷ [] → OfTypes c.arena.kinds (take (i + 1) ts) after
types-turn b c ts i t x xs after lt e h g one pushed =
    let all : OfTypes c.arena.kinds (take i ts ++ t ∷ []) (xs ++ x ∷ []) =
    types-push c.arena.kinds (take i ts) xs t x (types-later b c (take i ts) xs h g) one in
    subst (λ (us : List Ty). OfTypes c.arena.kinds us after)
    (ap (λ (u : Ty). take i ts ++ u ∷ []) e ∙ sym (take_more ts i t lt))
    (subst (OfTypes c.arena.kinds (take i ts ++ t ∷ [])) (sym pushed) all)

pub types-all : (ks : List CellKind) (ts : List Ty) (i : ℕ) (xs : List CellId) → length ts ≤ i →
    OfTypes ks (take i ts) xs → OfTypes ks ts xs
types-all ks ts i xs le h = subst (λ (us : List Ty). OfTypes ks us xs) (take_all i ts le) h

-- cells of types are of the sorts of their kinds
pub types-sorts : (ks : List CellKind) (ts : List Ty) (xs : List CellId) (as' : List Kind) → OfTypes ks ts xs →
    all_there (map kind_of ts) ≡ Some as' → OfSorts ks (map sort_of as') xs
types-sorts ks [] [] as' h e = subst (λ (bs : List Kind). OfSorts ks (map sort_of bs) []) (same_some [] as' e) tt
types-sorts ks [] (x ∷ xs) as' h e = absurd (h)
types-sorts ks (t ∷ ts) [] as' h e = absurd (h)
types-sorts ks (t ∷ ts) (x ∷ xs) as' h e =
    by (kind_of t) (all_there (map kind_of ts)) refl (λ js f. types-sorts ks ts xs js h.1 f) e
  where
    by : (o : Option Kind) (p : Option (List Kind)) → kind_of t ≡ o →
        ((js : List Kind) → p ≡ Some js → OfSorts ks (map sort_of js) xs) →
        option_and_then (λ k. option_map (λ js. k ∷ js) p) o ≡ Some as' → OfSorts ks (map sort_of as') (x ∷ xs)
    by (Some k) (Some js) f rest q =
        subst (λ (bs : List Kind). OfSorts ks (map sort_of bs) (x ∷ xs)) (same_some (k ∷ js) as' q)
        (h.0.sort k f, rest js refl)
    by (Some k) None f rest q = absurd (none_some as' q)
    by None p f rest q = absurd (none_some as' q)

pub of-tup : (ks ms : List CellKind) (t : Ty) (us vs : List Ty) (xs : List CellId) (id : CellId) → t ≡ tup_ty us →
    vs ≡ us → OfTypes ks vs xs → id.index < length ms →
    ((ss : List Sort) → OfSorts ks ss xs → OfSort ms (tuple_sort ss) id) → OfType ms t id
of-tup ks ms t us vs xs id e same all there made =
    by_form ms t id (tup_ty us) (option_map (λ as'. kind.Tup (kinds as')) (all_there (map kind_of us))) e
    (kind-Tup us) there
    (λ k g. by (all_there (map kind_of us)) refl k g)
  where
    by : (o : Option (List Kind)) → all_there (map kind_of us) ≡ o → (k : Kind) →
        option_map (λ as'. kind.Tup (kinds as')) o ≡ Some k → OfSort ms (sort_of k) id
    by None f k g = absurd (none_some k g)
    by (Some as') f k g =
        let parts : OfSorts ks (map sort_of as') xs =
        types-sorts ks vs xs as' all (ap (λ (ws : List Ty). all_there (map kind_of ws)) same ∙ f) in
        subst (λ (i : Kind). OfSort ms (sort_of i) id) (same_some (kind.Tup (kinds as')) k g)
        (subst (λ (ss : List Sort). OfSort ms (tuple_sort ss) id) (sym (kinds-sorts as'))
        (made (map sort_of as') parts))

-- ---- records

fields-ordered : (js : List Kinded) →
    field_sorts (fields js) ≡ in_order (map (λ (j : Kinded). j.0) js) (map sort_of (map (λ (j : Kinded). j.1) js))
fields-ordered [] = refl
fields-ordered (j ∷ js) = insert-sorts j.0 j.1 (fields js) ∙ ap (put_field j.0 (sort_of j.1)) (fields-ordered js)

module _ (ks ms : List CellKind) (t : Ty) (fs gs : List Typed) (names : List (List ℕ)) (xs : List CellId)
    (id : CellId) (is : t ≡ rec_ty fs None) (same : gs ≡ fs)
    (all : OfTypes ks (map (λ (g : Typed). g.1) gs) xs) (named : names ≡ map (λ (g : Typed). g.0) gs)
    (there : id.index < length ms)
    (made : (ss : List Sort) → OfSorts ks ss xs → OfSort ms (record_sort (in_order names ss)) id) where
  record_is : (js : List Kinded) → all_fields_there (map (λ (f : Typed). (f.0, kind_of f.1)) fs) ≡ Some js →
      OfSort ms (sort_of (kind.Rec (fields js))) id
  record_is js e =
      let p = fields_there fs js e in
      let parts : OfSorts ks (map sort_of (map (λ (j : Kinded). j.1) js)) xs =
      types-sorts ks (map (λ (g : Typed). g.1) gs) xs (map (λ (j : Kinded). j.1) js) all
      (ap (λ (hs : List Typed). all_there (map kind_of (map (λ (g : Typed). g.1) hs))) same ∙ p.1) in
      let order : names ≡ map (λ (j : Kinded). j.0) js = named ∙ ap (map (λ (g : Typed). g.0)) same ∙ p.0 in
      subst (λ (ss : List (List ℕ × Sort)). OfSort ms (record_sort ss) id) (sym (fields-ordered js))
      (subst (λ (ns : List (List ℕ)). OfSort ms
      (record_sort (in_order ns (map sort_of (map (λ (j : Kinded). j.1) js)))) id) order
      (made (map sort_of (map (λ (j : Kinded). j.1) js)) parts))

  pub of-rec : OfType ms t id
  of-rec =
      by_form ms t id (rec_ty fs None) (record_kind (map (λ (f : Typed). (f.0, kind_of f.1)) fs)) is (kind-Rec fs) there
      (λ k g. by (are_distinct (map (λ f. f.0) (map (λ (f : Typed). (f.0, kind_of f.1)) fs)))
      (all_fields_there (map (λ (f : Typed). (f.0, kind_of f.1)) fs)) refl k g)
    where
      by : (d : Bool) (o : Option (List Kinded)) →
          all_fields_there (map (λ (f : Typed). (f.0, kind_of f.1)) fs) ≡ o → (k : Kind) →
          (if d then option_map (λ js. kind.Rec (fields js)) o else None) ≡ Some k → OfSort ms (sort_of k) id
      by true (Some js) f k g =
          subst (λ (i : Kind). OfSort ms (sort_of i) id) (same_some (kind.Rec (fields js)) k g) (record_is js f)
      by true None f k g = absurd (none_some k g)
      by false o f k g = absurd (none_some k g)

pub field-counts : (ks : List CellKind) (fs : List Typed) (names : List (List ℕ)) (xs : List CellId) →
    OfTypes ks (map (λ (g : Typed). g.1) fs) xs → names ≡ map (λ (g : Typed). g.0) fs → length xs ≡ length names
field-counts ks fs names xs h e =
    types-count ks (map (λ (g : Typed). g.1) fs) xs h ∙ length-map fs (λ (g : Typed). g.1)
    ∙ sym (ap (λ (ns : List (List ℕ)). length ns) e ∙ length-map fs (λ (g : Typed). g.0))
