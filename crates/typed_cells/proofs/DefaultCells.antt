-- Cells of a type's sort, by the forms of types.
use Rattle.std.proofs.Common.{◌≡◌, ℕ, zero, suc, ◌+◌, ◌<◌, ◌≤◌, Bool, true, false, List, [], ◌∷◌, ◌++◌, length, map}
use Rattle.std.proofs.Common.{take, get_or, All, Option, Some, None, option_map, option_and_then, refl, sym, ◌∙◌, ap}
use Rattle.std.proofs.Common.{subst, arith, if◌then◌else◌, ◌⊎◌, ⊎_elim}
use Rattle.std.proofs.lemmas.List.{length-map, take_all, take_more}
use Rattle.std.proofs.lemmas.List.Elements.{All-cons, All-nil}
use Rattle.sat_formula.specs.declared.lit.Lit.{Lit}
use Rattle.snowcat_rows.specs.TypeTexts.{are_distinct}
use Rattle.snowcat_rows.specs.declared.types.Ty.{Ty, Bool as bool_ty, Int, Str, Named, Set as set_ty, Seq as seq_ty}
use Rattle.snowcat_rows.specs.declared.types.Ty.{Fun as fun_ty, Tup as tup_ty, Rec as rec_ty}
use Rattle.kernel_trees.specs.TypeKinds as kind
use Rattle.kernel_trees.specs.TypeKinds.{Kind, all_fields_there, all_there, fields, kind_of, kinds, record_kind}
use Rattle.kernel_trees.specs.TypeKinds.{word_kind}
use Rattle.kernel_trees.proofs.TypeLaws.{kind-Bool, kind-Fun, kind-Int, kind-Named, kind-Rec, kind-Seq, kind-Set}
use Rattle.kernel_trees.proofs.TypeLaws.{kind-Str, kind-Tup}
use Rattle.cell_arena.specs.declared.build.Build.{Build}
use Rattle.cell_arena.specs.declared.kinds.CellId.{CellId}
use Rattle.cell_arena.specs.declared.kinds.CellKind.{CellKind}
use Rattle.cell_arena.specs.declared.kinds.CellKind.TheVariants.{Fun}
use Rattle.cell_arena.specs.Growth.{Adds, Grows}
use Rattle.cell_arena.proofs.Growing.{Decodes-later}
use Rattle.cell_merge.specs.Edges.{OneSort}
use Rattle.cell_merge.specs.Sorts.{OfSort, Sort, function_of, name, number, sequence_of, set_of, truth}
use Rattle.cell_merge.proofs.Edges.{sort-there}
use Rattle.cell_merge.proofs.SortLaws.{OfSort-later, sort-function}
use Rattle.function_rewriter.proofs.KnownValues.{texts-later}
use Rattle.typed_cells.specs.FieldOrder.{in_order, put_field}
use Rattle.typed_cells.specs.KindSorts.{OfSorts, OfType, field_sorts, record_sort, sort_of, tuple_sort}
use Rattle.typed_cells.specs.Known.{IsSetOfEdges, IsTextAmong}
use Rattle.typed_cells.specs.Defaults.{default_value}
use Rattle.typed_cells.specs.inner.Defaulted.{AreDefaults, IsDefaultCell}
use Rattle.typed_cells.proofs.PartSorts.{insert-sorts, kinds-sorts}

pub same_some : {X : Type 0} (x y : X) → Some x ≡ Some y → x ≡ y
same_some x y e = cc

pub none_some : {X : Type 0} (x : X) → None ≡ Some x → ⊥
none_some x e = absurd (cc)

-- the build's texts stay
pub text-later : (b c : Build) (x : List ℕ) → IsTextAmong b.arena.texts x → Grows b c → IsTextAmong c.arena.texts x
text-later b c x h g = subst (λ (ts : List (List ℕ)). IsTextAmong ts x) (sym (texts-later b c g)) h

-- ---- a type by its form

module _ (ks : List CellKind) (t : Ty) (id : CellId) where
  by_form : (u : Ty) (o : Option Kind) → t ≡ u → kind_of u ≡ o → id.index < length ks →
      ((k : Kind) → o ≡ Some k → OfSort ks (sort_of k) id) → OfType ks t id
  by_form u o e f there h = record { there = there; sort = λ k g. h k (sym (ap kind_of e ∙ f) ∙ g) }

  -- a form with one kind
  by_kind : (u : Ty) (k : Kind) → t ≡ u → kind_of u ≡ Some k → OfSort ks (sort_of k) id → OfType ks t id
  by_kind u k e f h =
      by_form u (Some k) e f (sort-there ks (sort_of k) id h)
      (λ j g. subst (λ (i : Kind). OfSort ks (sort_of i) id) (same_some k j g) h)

  pub of-bool : t ≡ bool_ty → OfSort ks truth id → OfType ks t id
  of-bool e h = by_kind bool_ty kind.Truth e kind-Bool h

  pub of-int : t ≡ Int → OfSort ks number id → OfType ks t id
  of-int e h = by_kind Int kind.Number e kind-Int h

  of-str : t ≡ Str → OfSort ks name id → OfType ks t id
  of-str e h = by_kind Str (kind.Word []) e kind-Str h

  word_sort : (x : List ℕ) (k : Kind) → word_kind x ≡ Some k → OfSort ks name id → OfSort ks (sort_of k) id
  word_sort [] k e h = absurd (none_some k e)
  word_sort (c ∷ x) k e h = subst (λ (i : Kind). OfSort ks (sort_of i) id) (same_some (kind.Word (c ∷ x)) k e) h

  of-named : (x : List ℕ) → t ≡ Named x → OfSort ks name id → OfType ks t id
  of-named x e h = by_form (Named x) (word_kind x) e (kind-Named x) (sort-there ks name id h) (λ k g. word_sort x k g h)

  pub of-text : (t ≡ Str) ⊎ ((x : List ℕ) × (t ≡ Named x)) → OfSort ks name id → OfType ks t id
  of-text e h = ⊎_elim (λ is. of-str is h) (λ is. of-named is.0 is.1 h) e

  one_sort : (make : Kind → Kind) (o : Option Kind) (k : Kind) → ((j : Kind) → OfSort ks (sort_of (make j)) id) →
      option_map make o ≡ Some k → OfSort ks (sort_of k) id
  one_sort make (Some j) k h e = subst (λ (i : Kind). OfSort ks (sort_of i) id) (same_some (make j) k e) (h j)
  one_sort make None k h e = absurd (none_some k e)

  pub of-set : (u : Ty) → t ≡ set_ty u → ((s : Sort) → OfSort ks (set_of s) id) → OfType ks t id
  of-set u e h =
      by_form (set_ty u) (option_map kind.Set (kind_of u)) e (kind-Set u) (sort-there ks (set_of truth) id (h truth))
      (λ k g. one_sort kind.Set (kind_of u) k (λ j. h (sort_of j)) g)

  pub of-seq : (u : Ty) → t ≡ seq_ty u → ((s : Sort) → OfSort ks (sequence_of s) id) → OfType ks t id
  of-seq u e h =
      by_form (seq_ty u) (option_map kind.Seq (kind_of u)) e (kind-Seq u)
      (sort-there ks (sequence_of truth) id (h truth)) (λ k g. one_sort kind.Seq (kind_of u) k (λ j. h (sort_of j)) g)

  two_sorts : (o p : Option Kind) (k : Kind) → ((i j : Kind) → OfSort ks (function_of (sort_of i) (sort_of j)) id) →
      option_and_then (λ x. option_map (λ y. kind.Fun x y) p) o ≡ Some k → OfSort ks (sort_of k) id
  two_sorts (Some i) (Some j) k h e =
      subst (λ (l : Kind). OfSort ks (sort_of l) id) (same_some (kind.Fun i j) k e) (h i j)
  two_sorts (Some i) None k h e = absurd (none_some k e)
  two_sorts None p k h e = absurd (none_some k e)

  pub of-fun : (u v : Ty) → t ≡ fun_ty u v → ((r s : Sort) → OfSort ks (function_of r s) id) → OfType ks t id
  of-fun u v e h =
      by_form (fun_ty u v) (option_and_then (λ x. option_map (λ y. kind.Fun x y) (kind_of v)) (kind_of u)) e
      (kind-Fun u v) (sort-there ks (function_of truth truth) id (h truth truth))
      (λ k g. two_sorts (kind_of u) (kind_of v) k (λ i j. h (sort_of i) (sort_of j)) g)

-- ---- what has no members

pub no-edges : (ks : List CellKind) (n : ℕ) (es : List (Lit × CellId)) → es ≡ [] → OneSort ks n es
no-edges ks n es e =
    rw e (record {
      sort = truth;
      cells = All-nil (λ (f : Lit × CellId). OfSort ks truth f.1);
      named = All-nil (λ (f : Lit × CellId). f.0.var < n);
    })

pub empty-set : (b c : Build) (es : List (Lit × CellId)) (id : CellId) → es ≡ [] → IsSetOfEdges b c es id →
    (s : Sort) → OfSort c.arena.kinds (set_of s) id
empty-set b c es id e h = λ s. h.sort s (rw e (All-nil (λ (f : Lit × CellId). OfSort b.arena.kinds s f.1)))

pub empty-function : (b c : Build) (es : List (Lit × CellId × CellId)) (id : CellId) → es ≡ [] →
    Adds b c (Fun es) id → Grows b c → (r s : Sort) → OfSort c.arena.kinds (function_of r s) id
empty-function b c es id e adds grows = λ r s.
    sort-function b c es r s id adds grows
    (rw e (All-nil (λ (f : Lit × CellId × CellId). OfSort b.arena.kinds r f.1 × OfSort b.arena.kinds s f.2)))

pub empty-sequence : (ks ms : List CellKind) (xs : List CellId) (id : CellId) → xs ≡ [] →
    ((s : Sort) → All (OfSort ks s) xs → OfSort ms (sequence_of s) id) →
    (s : Sort) → OfSort ms (sequence_of s) id
empty-sequence ks ms xs id e h = λ s. h s (rw e (All-nil (OfSort ks s)))

-- ---- lists of types

pub defaults-there : (b : Build) (ts : List Ty) (xs : List CellId) → AreDefaults b ts xs →
    All (λ (x : CellId). x.index < length b.arena.kinds) xs
defaults-there b [] [] h = All-nil (λ (x : CellId). x.index < length b.arena.kinds)
defaults-there b [] (x ∷ xs) h = absurd (h)
defaults-there b (t ∷ ts) [] h = absurd (h)
defaults-there b (t ∷ ts) (x ∷ xs) h =
    All-cons (λ (y : CellId). y.index < length b.arena.kinds) x xs h.0.cell.there (defaults-there b ts xs h.1)

pub defaults-count : (b : Build) (ts : List Ty) (xs : List CellId) → AreDefaults b ts xs → length xs ≡ length ts
defaults-count b [] [] h = refl
defaults-count b [] (x ∷ xs) h = absurd (h)
defaults-count b (t ∷ ts) [] h = absurd (h)
defaults-count b (t ∷ ts) (x ∷ xs) h = ap suc (defaults-count b ts xs h.1)

default-later : (b c : Build) (t : Ty) (x : CellId) → IsDefaultCell b t x → Grows b c → IsDefaultCell c t x
default-later b c t x h g =
    record {
      cell = record {
        there = let p = h.cell.there in let q = g.longer in omega arith;
        sort = λ k e. OfSort-later b c (sort_of k) x (h.cell.sort k e) g;
      };
      value = λ k e. Decodes-later b c x (λ a. default_value k) (h.value k e) g;
    }

defaults-later : (b c : Build) (ts : List Ty) (xs : List CellId) → AreDefaults b ts xs → Grows b c → AreDefaults c ts xs
defaults-later b c [] [] h g = tt
defaults-later b c [] (x ∷ xs) h g = absurd (h)
defaults-later b c (t ∷ ts) [] h g = absurd (h)
defaults-later b c (t ∷ ts) (x ∷ xs) h g = (default-later b c t x h.0 g, defaults-later b c ts xs h.1 g)

defaults-push : (b : Build) (ts : List Ty) (xs : List CellId) (t : Ty) (x : CellId) → AreDefaults b ts xs →
    IsDefaultCell b t x → AreDefaults b (ts ++ t ∷ []) (xs ++ x ∷ [])
defaults-push b [] [] t x h one = (one, tt)
defaults-push b [] (y ∷ xs) t x h one = absurd (h)
defaults-push b (u ∷ ts) [] t x h one = absurd (h)
defaults-push b (u ∷ ts) (y ∷ xs) t x h one = (h.0, defaults-push b ts xs t x h.1 one)

pub defaults-none : (b : Build) (ts : List Ty) (xs : List CellId) → xs ≡ [] → AreDefaults b (take 0 ts) xs
defaults-none b ts xs e = rw e tt

pub defaults-turn : (b c : Build) (ts : List Ty) (i : ℕ) (t : Ty) (x : CellId) (xs after : List CellId) →
    i < length ts → t ≡ get_or ts i t → AreDefaults b (take i ts) xs → Grows b c → IsDefaultCell c t x →
    after ≡ xs ++ x ∷ [] → AreDefaults c (take (i + 1) ts) after
defaults-turn b c ts i t x xs after lt e h g one pushed =
    let all : AreDefaults c (take i ts ++ t ∷ []) (xs ++ x ∷ []) =
    defaults-push c (take i ts) xs t x (defaults-later b c (take i ts) xs h g) one in
    subst (λ (us : List Ty). AreDefaults c us after)
    (ap (λ (u : Ty). take i ts ++ u ∷ []) e ∙ sym (take_more ts i t lt))
    (subst (AreDefaults c (take i ts ++ t ∷ [])) (sym pushed) all)

pub defaults-all : (b : Build) (ts : List Ty) (i : ℕ) (xs : List CellId) → length ts ≤ i →
    AreDefaults b (take i ts) xs → AreDefaults b ts xs
defaults-all b ts i xs le h = subst (λ (us : List Ty). AreDefaults b us xs) (take_all i ts le) h

-- cells of types are of the sorts of their kinds
pub defaults-sorts : (b : Build) (ts : List Ty) (xs : List CellId) (as' : List Kind) → AreDefaults b ts xs →
    all_there (map kind_of ts) ≡ Some as' → OfSorts b.arena.kinds (map sort_of as') xs
defaults-sorts b [] [] as' h e =
    subst (λ (bs : List Kind). OfSorts b.arena.kinds (map sort_of bs) []) (same_some [] as' e) tt
defaults-sorts b [] (x ∷ xs) as' h e = absurd (h)
defaults-sorts b (t ∷ ts) [] as' h e = absurd (h)
defaults-sorts b (t ∷ ts) (x ∷ xs) as' h e =
    by (kind_of t) (all_there (map kind_of ts)) refl (λ js f. defaults-sorts b ts xs js h.1 f) e
  where
    by : (o : Option Kind) (p : Option (List Kind)) → kind_of t ≡ o →
        ((js : List Kind) → p ≡ Some js → OfSorts b.arena.kinds (map sort_of js) xs) →
        option_and_then (λ k. option_map (λ js. k ∷ js) p) o ≡ Some as' →
        OfSorts b.arena.kinds (map sort_of as') (x ∷ xs)
    by (Some k) (Some js) f rest q =
        subst (λ (bs : List Kind). OfSorts b.arena.kinds (map sort_of bs) (x ∷ xs)) (same_some (k ∷ js) as' q)
        (h.0.cell.sort k f, rest js refl)
    by (Some k) None f rest q = absurd (none_some as' q)
    by None p f rest q = absurd (none_some as' q)

pub of-tup : (b : Build) (ms : List CellKind) (t : Ty) (us vs : List Ty) (xs : List CellId) (id : CellId) →
    t ≡ tup_ty us → vs ≡ us → AreDefaults b vs xs → id.index < length ms →
    ((ss : List Sort) → OfSorts b.arena.kinds ss xs → OfSort ms (tuple_sort ss) id) → OfType ms t id
of-tup b ms t us vs xs id e same all there made =
    by_form ms t id (tup_ty us) (option_map (λ as'. kind.Tup (kinds as')) (all_there (map kind_of us))) e
    (kind-Tup us) there
    (λ k g. by (all_there (map kind_of us)) refl k g)
  where
    by : (o : Option (List Kind)) → all_there (map kind_of us) ≡ o → (k : Kind) →
        option_map (λ as'. kind.Tup (kinds as')) o ≡ Some k → OfSort ms (sort_of k) id
    by None f k g = absurd (none_some k g)
    by (Some as') f k g =
        let parts : OfSorts b.arena.kinds (map sort_of as') xs =
        defaults-sorts b vs xs as' all (ap (λ (ws : List Ty). all_there (map kind_of ws)) same ∙ f) in
        subst (λ (i : Kind). OfSort ms (sort_of i) id) (same_some (kind.Tup (kinds as')) k g)
        (subst (λ (ss : List Sort). OfSort ms (tuple_sort ss) id) (sym (kinds-sorts as'))
        (made (map sort_of as') parts))

-- ---- records

abbrev pub Typed : Type 0
Typed = List ℕ × Ty

abbrev pub Kinded : Type 0
Kinded = List ℕ × Kind

pub fields_there : (fs : List Typed) (js : List Kinded) →
    all_fields_there (map (λ (f : Typed). (f.0, kind_of f.1)) fs) ≡ Some js →
    (map (λ (f : Typed). f.0) fs ≡ map (λ (j : Kinded). j.0) js) ×
    (all_there (map kind_of (map (λ (f : Typed). f.1) fs)) ≡ Some (map (λ (j : Kinded). j.1) js))
fields_there [] js e =
    let none : [] ≡ js =
    same_some [] js e in
    (ap (map (λ (j : Kinded). j.0)) none, ap (λ (is : List Kinded). Some (map (λ (j : Kinded). j.1) is)) none)
fields_there (f ∷ fs) js e =
    by (kind_of f.1) (all_fields_there (map (λ (g : Typed). (g.0, kind_of g.1)) fs)) (λ is q. fields_there fs is q) e
  where
    rest : Option (List Kind)
    rest = all_there (map kind_of (map (λ (g : Typed). g.1) fs))

    by : (o : Option Kind) (p : Option (List Kinded)) →
        ((is : List Kinded) → p ≡ Some is →
        (map (λ (g : Typed). g.0) fs ≡ map (λ (j : Kinded). j.0) is) ×
        (rest ≡ Some (map (λ (j : Kinded). j.1) is))) →
        option_and_then (λ k. option_map (λ is. (f.0, k) ∷ is) p) o ≡ Some js →
        (f.0 ∷ map (λ (g : Typed). g.0) fs ≡ map (λ (j : Kinded). j.0) js) ×
        (option_and_then (λ k. option_map (λ is. k ∷ is) rest) o ≡ Some (map (λ (j : Kinded). j.1) js))
    by (Some k) (Some is) h q =
        let all : (f.0, k) ∷ is ≡ js = same_some ((f.0, k) ∷ is) js q in (
          ap (λ (xs : List (List ℕ)). f.0 ∷ xs) (h is refl).0 ∙ ap (map (λ (j : Kinded). j.0)) all,
          ap (option_map (λ (is : List Kind). k ∷ is)) (h is refl).1
              ∙ ap (λ (hs : List Kinded). Some (map (λ (j : Kinded). j.1) hs)) all,
        )
    by (Some k) None h q = absurd (none_some js q)
    by None p h q = absurd (none_some js q)

fields-ordered : (js : List Kinded) →
    field_sorts (fields js) ≡ in_order (map (λ (j : Kinded). j.0) js) (map sort_of (map (λ (j : Kinded). j.1) js))
fields-ordered [] = refl
fields-ordered (j ∷ js) = insert-sorts j.0 j.1 (fields js) ∙ ap (put_field j.0 (sort_of j.1)) (fields-ordered js)

module _ (b : Build) (ms : List CellKind) (t : Ty) (fs gs : List Typed) (names : List (List ℕ)) (xs : List CellId)
    (id : CellId) (is : t ≡ rec_ty fs None) (same : gs ≡ fs)
    (all : AreDefaults b (map (λ (g : Typed). g.1) gs) xs) (named : names ≡ map (λ (g : Typed). g.0) gs)
    (there : id.index < length ms)
    (made : (ss : List Sort) → OfSorts b.arena.kinds ss xs → OfSort ms (record_sort (in_order names ss)) id) where
  record_is : (js : List Kinded) → all_fields_there (map (λ (f : Typed). (f.0, kind_of f.1)) fs) ≡ Some js →
      OfSort ms (sort_of (kind.Rec (fields js))) id
  record_is js e =
      let p = fields_there fs js e in
      let parts : OfSorts b.arena.kinds (map sort_of (map (λ (j : Kinded). j.1) js)) xs =
      defaults-sorts b (map (λ (g : Typed). g.1) gs) xs (map (λ (j : Kinded). j.1) js) all
      (ap (λ (hs : List Typed). all_there (map kind_of (map (λ (g : Typed). g.1) hs))) same ∙ p.1) in
      let order : names ≡ map (λ (j : Kinded). j.0) js = named ∙ ap (map (λ (g : Typed). g.0)) same ∙ p.0 in
      subst (λ (ss : List (List ℕ × Sort)). OfSort ms (record_sort ss) id) (sym (fields-ordered js))
      (subst (λ (ns : List (List ℕ)). OfSort ms
      (record_sort (in_order ns (map sort_of (map (λ (j : Kinded). j.1) js)))) id) order
      (made (map sort_of (map (λ (j : Kinded). j.1) js)) parts))

  pub of-rec : OfType ms t id
  of-rec =
      by_form ms t id (rec_ty fs None) (record_kind (map (λ (f : Typed). (f.0, kind_of f.1)) fs)) is (kind-Rec fs) there
      (λ k g. by (are_distinct (map (λ f. f.0) (map (λ (f : Typed). (f.0, kind_of f.1)) fs)))
      (all_fields_there (map (λ (f : Typed). (f.0, kind_of f.1)) fs)) refl k g)
    where
      by : (d : Bool) (o : Option (List Kinded)) →
          all_fields_there (map (λ (f : Typed). (f.0, kind_of f.1)) fs) ≡ o → (k : Kind) →
          (if d then option_map (λ js. kind.Rec (fields js)) o else None) ≡ Some k → OfSort ms (sort_of k) id
      by true (Some js) f k g =
          subst (λ (i : Kind). OfSort ms (sort_of i) id) (same_some (kind.Rec (fields js)) k g) (record_is js f)
      by true None f k g = absurd (none_some k g)
      by false o f k g = absurd (none_some k g)

pub record_type : (t : Ty) (fs : List Typed) (rest : Option ℕ) → t ≡ rec_ty fs rest → rest ≡ None → t ≡ rec_ty fs None
record_type t fs rest e f = e ∙ ap (rec_ty fs) f

-- as many cells as names
pub field-counts : (b : Build) (fs : List Typed) (names : List (List ℕ)) (xs : List CellId) →
    AreDefaults b (map (λ (g : Typed). g.1) fs) xs → names ≡ map (λ (g : Typed). g.0) fs → length xs ≡ length names
field-counts b fs names xs h e =
    defaults-count b (map (λ (g : Typed). g.1) fs) xs h ∙ length-map fs (λ (g : Typed). g.1)
    ∙ sym (ap (λ (ns : List (List ℕ)). length ns) e ∙ length-map fs (λ (g : Typed). g.0))

-- the types of fields
pub field-type : (fs : List Typed) (i : ℕ) (f : Typed) → i < length fs → f ≡ get_or fs i f →
    f.1 ≡ get_or (map (λ (g : Typed). g.1) fs) i f.1
field-type [] i f lt e = absurd (omega arith)
field-type (g ∷ fs) zero f lt e = ap (λ (h : Typed). h.1) e
field-type (g ∷ fs) (suc i) f lt e = field-type fs i f (omega arith) e

pub field-count : (fs : List Typed) → length (map (λ (g : Typed). g.1) fs) ≡ length fs
field-count fs = length-map fs (λ (g : Typed). g.1)
