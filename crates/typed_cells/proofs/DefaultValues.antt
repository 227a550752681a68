-- The values of defaults, by the forms of types.
use Rattle.std.proofs.Common.{◌≡◌, ℕ, Bool, true, false, not, List, [], ◌∷◌, map, zip, Option, Some, None}
use Rattle.std.proofs.Common.{option_map, option_and_then, refl, sym, ◌∙◌, ap, ap₂, subst, if◌then◌else◌, ◌⊎◌, ⊎_elim}
use Rattle.std.proofs.Common.{arith, length, pos}
use Rattle.std.proofs.lemmas.Bool.Decides.{nat_tests}
use Rattle.std.proofs.lemmas.Nat.{pow_pos}
use Rattle.std.specs.Ordering.{is_lt}
use Rattle.sat_formula.specs.declared.lit.Lit.{Lit}
use Rattle.sat_formula.specs.Formula.{Satisfies}
use Rattle.snowcat_rows.specs.TypeTexts.{are_distinct}
use Rattle.snowcat_rows.specs.declared.types.Ty.{Ty, Bool as bool_ty, Int, Str, Named, Set as set_ty, Seq as seq_ty}
use Rattle.snowcat_rows.specs.declared.types.Ty.{Fun as fun_ty, Tup as tup_ty, Rec as rec_ty}
use Rattle.tla_values.specs.Integers.{fits_width}
use Rattle.tla_values.specs.Order.{text_cmp}
use Rattle.tla_values.specs.Sequences.{sequence}
use Rattle.tla_values.specs.Sets.{function_of, set_of}
use Rattle.tla_values.specs.declared.value.Value.{Value}
use Rattle.tla_values.specs.declared.value.Value.TheVariants as value
use Rattle.tla_meaning.specs.Shapes.{record_of}
use Rattle.kernel_trees.specs.TypeKinds as kind
use Rattle.kernel_trees.specs.TypeKinds.{Fields, Kind, all_fields_there, all_there, fields, insert_field, kind_of}
use Rattle.kernel_trees.specs.TypeKinds.{kinds, more_fields, no_fields, record_kind, word_kind}
use Rattle.kernel_trees.proofs.TypeLaws.{kind-Bool, kind-Fun, kind-Int, kind-Named, kind-Rec, kind-Seq, kind-Set}
use Rattle.kernel_trees.proofs.TypeLaws.{kind-Str, kind-Tup}
use Rattle.cell_arena.specs.declared.build.Build.{Build}
use Rattle.cell_arena.specs.declared.kinds.CellId.{CellId}
use Rattle.cell_arena.specs.Cells.{AllDiffer}
use Rattle.cell_arena.specs.Decode.{decode, field_pairs, present, present_pairs}
use Rattle.cell_arena.specs.Growth.{Decodes, Grows}
use Rattle.cell_arena.proofs.Growing.{Decodes-same, Satisfies-before}
use Rattle.typed_cells.specs.Defaults.{IsDefault, default_fields, default_items, default_value}
use Rattle.typed_cells.specs.FieldOrder.{in_order, put_field}
use Rattle.typed_cells.specs.Known.{IsNumber, IsSetOfEdges}
use Rattle.typed_cells.specs.inner.Defaulted.{AreDefaults}
use Rattle.typed_cells.proofs.DefaultCells.{Kinded, Typed, fields_there, none_some, same_some}
use Rattle.typed_cells.proofs.OrderedFields.{ordered-function}

-- ---- a type by its form

module _ (b : Build) (t : Ty) (id : CellId) where
  abbrev Is : Value → Type 0
  Is v = Decodes b id (λ a. v)

  abbrev Has : Kind → Type 0
  Has k = Is (default_value k)

  by_form : (u : Ty) (o : Option Kind) → t ≡ u → kind_of u ≡ o → ((k : Kind) → o ≡ Some k → Has k) → IsDefault b t id
  by_form u o e f h = λ k g. h k (sym (ap kind_of e ∙ f) ∙ g)

  by_kind : (u : Ty) (j : Kind) → t ≡ u → kind_of u ≡ Some j → Has j → IsDefault b t id
  by_kind u j e f h = by_form u (Some j) e f (λ k g. subst Has (same_some j k g) h)

  pub default-bool : t ≡ bool_ty → Is (value.Bool false) → IsDefault b t id
  default-bool e h = by_kind bool_ty kind.Truth e kind-Bool h

  pub default-int : t ≡ Int → Is (value.Int (pos 0)) → IsDefault b t id
  default-int e h = by_kind Int kind.Number e kind-Int h

  word_is : (x : List ℕ) (k : Kind) → word_kind x ≡ Some k → Is (value.Text []) → Has k
  word_is [] k e h = absurd (none_some k e)
  word_is (c ∷ x) k e h = subst Has (same_some (kind.Word (c ∷ x)) k e) h

  pub default-text : (t ≡ Str) ⊎ ((x : List ℕ) × (t ≡ Named x)) → Is (value.Text []) → IsDefault b t id
  default-text e h =
      ⊎_elim (λ is. by_kind Str (kind.Word []) is kind-Str h)
      (λ is. by_form (Named is.0) (word_kind is.0) is.1 (kind-Named is.0) (λ k g. word_is is.0 k g h)) e

  one_is : (make : Kind → Kind) (o : Option Kind) (k : Kind) → ((j : Kind) → Has (make j)) →
      option_map make o ≡ Some k → Has k
  one_is make (Some j) k h e = subst Has (same_some (make j) k e) (h j)
  one_is make None k h e = absurd (none_some k e)

  pub default-set : (u : Ty) → t ≡ set_ty u → Is (value.Set []) → IsDefault b t id
  default-set u e h =
      by_form (set_ty u) (option_map kind.Set (kind_of u)) e (kind-Set u)
      (λ k g. one_is kind.Set (kind_of u) k (λ j. h) g)

  pub default-seq : (u : Ty) → t ≡ seq_ty u → Is (sequence []) → IsDefault b t id
  default-seq u e h =
      by_form (seq_ty u) (option_map kind.Seq (kind_of u)) e (kind-Seq u)
      (λ k g. one_is kind.Seq (kind_of u) k (λ j. h) g)

  two_are : (o p : Option Kind) (k : Kind) → Is (value.Fun []) →
      option_and_then (λ x. option_map (λ y. kind.Fun x y) p) o ≡ Some k → Has k
  two_are (Some i) (Some j) k h e = subst Has (same_some (kind.Fun i j) k e) h
  two_are (Some i) None k h e = absurd (none_some k e)
  two_are None p k h e = absurd (none_some k e)

  pub default-fun : (u v : Ty) → t ≡ fun_ty u v → Is (value.Fun []) → IsDefault b t id
  default-fun u v e h =
      by_form (fun_ty u v) (option_and_then (λ x. option_map (λ y. kind.Fun x y) (kind_of v)) (kind_of u)) e
      (kind-Fun u v) (λ k g. two_are (kind_of u) (kind_of v) k h g)

-- ---- what has no parts

-- 0 fits each width
zero_fits : (w : ℕ) → fits_width w (pos 0) ≡ true
zero_fits w = grind (arith, nat_tests, pow_pos)

pub zero-cell : (b : Build) (r : CellId × Lit) → IsNumber b (pos 0) r → Decodes b r.0 (λ a. value.Int (pos 0))
zero-cell b r h = record {
  there = h.sort.0;
  value = λ a s. h.value a s (h.outside.value a s ∙ ap not (zero_fits b.arena.width));
}

pub text-of-none : (b : Build) (x : List ℕ) (id : CellId) → x ≡ [] → Decodes b id (λ a. value.Text x) →
    Decodes b id (λ a. value.Text [])
text-of-none b x id e h = Decodes-same b id _ _ h (λ a s. ap (λ (y : List ℕ). value.Text y) e)

pub set-of-none : (b c : Build) (es : List (Lit × CellId)) (id : CellId) → es ≡ [] → IsSetOfEdges b c es id →
    Decodes c id (λ a. value.Set [])
set-of-none b c es id e h =
    Decodes-same c id _ _ h.value (λ a s.
    ap (λ (fs : List (Lit × CellId)). value.Set (set_of (present a (decode b.arena a) fs))) e)

pub function-of-none : (b c : Build) (es : List (Lit × CellId × CellId)) (id : CellId) → es ≡ [] →
    Decodes c id (λ a. value.Fun (function_of (present_pairs a (decode b.arena a) es))) →
    Decodes c id (λ a. value.Fun [])
function-of-none b c es id e h =
    Decodes-same c id _ _ h (λ a s.
    ap (λ (fs : List (Lit × CellId × CellId)). value.Fun (function_of (present_pairs a (decode b.arena a) fs))) e)

pub sequence-of-none : (b c : Build) (xs : List CellId) (id : CellId) → xs ≡ [] →
    Decodes c id (λ a. sequence (map (decode b.arena a) xs)) → Decodes c id (λ a. sequence [])
sequence-of-none b c xs id e h =
    Decodes-same c id _ _ h (λ a s. ap (λ (ys : List CellId). sequence (map (decode b.arena a) ys)) e)

-- ---- tuples

-- cells that are defaults of types have the defaults of their kinds
parts_are : (b : Build) (ts : List Ty) (xs : List CellId) (as' : List Kind) → AreDefaults b ts xs →
    all_there (map kind_of ts) ≡ Some as' → (a : List Bool) → Satisfies a b.formula →
    map (decode b.arena a) xs ≡ map default_value as'
parts_are b [] [] as' h e a s = ap (map default_value) (same_some [] as' e)
parts_are b [] (x ∷ xs) as' h e a s = absurd (h)
parts_are b (t ∷ ts) [] as' h e a s = absurd (h)
parts_are b (t ∷ ts) (x ∷ xs) as' h e a s =
    by (kind_of t) (all_there (map kind_of ts)) refl (λ js f. parts_are b ts xs js h.1 f a s) e
  where
    by : (o : Option Kind) (p : Option (List Kind)) → kind_of t ≡ o →
        ((js : List Kind) → p ≡ Some js → map (decode b.arena a) xs ≡ map default_value js) →
        option_and_then (λ k. option_map (λ js. k ∷ js) p) o ≡ Some as' →
        map (decode b.arena a) (x ∷ xs) ≡ map default_value as'
    by (Some k) (Some js) f rest q =
        ap₂ (λ (v : Value) (vs : List Value). v ∷ vs) ((h.0.value k f).value a s) (rest js refl)
        ∙ ap (map default_value) (same_some (k ∷ js) as' q)
    by (Some k) None f rest q = absurd (none_some as' q)
    by None p f rest q = absurd (none_some as' q)

kinds_items : (as' : List Kind) → default_items (kinds as') ≡ map default_value as'
kinds_items [] = refl
kinds_items (k ∷ as') = ap (λ (vs : List Value). default_value k ∷ vs) (kinds_items as')

pub default-tup : (b c : Build) (t : Ty) (us vs : List Ty) (xs : List CellId) (id : CellId) → t ≡ tup_ty us →
    vs ≡ us → AreDefaults b vs xs → Grows b c → Decodes c id (λ a. sequence (map (decode b.arena a) xs)) →
    IsDefault c t id
default-tup b c t us vs xs id e same all grows made =
    by_form c t id (tup_ty us) (option_map (λ as'. kind.Tup (kinds as')) (all_there (map kind_of us))) e
    (kind-Tup us) (λ k g. by (all_there (map kind_of us)) refl k g)
  where
    by : (o : Option (List Kind)) → all_there (map kind_of us) ≡ o → (k : Kind) →
        option_map (λ as'. kind.Tup (kinds as')) o ≡ Some k → Decodes c id (λ a. default_value k)
    by None f k g = absurd (none_some k g)
    by (Some as') f k g =
        subst (λ (i : Kind). Decodes c id (λ a. default_value i)) (same_some (kind.Tup (kinds as')) k g)
        (Decodes-same c id _ _ made (λ a s.
        ap sequence (parts_are b vs xs as' all (ap (λ (ws : List Ty). all_there (map kind_of ws)) same ∙ f) a
        (Satisfies-before b c a grows s) ∙ sym (kinds_items as'))))

-- ---- records

abbrev Valued : Type 0
Valued = List ℕ × Value

insert_values : (x : List ℕ) (k : Kind) (fs : Fields) →
    default_fields (insert_field x k fs) ≡ put_field x (default_value k) (default_fields fs)
insert_values x k no_fields = refl
insert_values x k (more_fields y j fs) = by (is_lt (text_cmp x y)) (insert_field x k fs) (insert_values x k fs)
  where
    by : (t : Bool) (gs : Fields) → default_fields gs ≡ put_field x (default_value k) (default_fields fs) →
        default_fields (if t then more_fields x k (more_fields y j fs) else more_fields y j gs)
        ≡ (if t then (x, default_value k) ∷ (y, default_value j) ∷ default_fields fs
        else (y, default_value j) ∷ put_field x (default_value k) (default_fields fs))
    by true gs h = refl
    by false gs h = ap (λ (vs : List Valued). (y, default_value j) ∷ vs) h

fields_values : (js : List Kinded) →
    default_fields (fields js)
    ≡ in_order (map (λ (j : Kinded). j.0) js) (map default_value (map (λ (j : Kinded). j.1) js))
fields_values [] = refl
fields_values (j ∷ js) =
    insert_values j.0 j.1 (fields js) ∙ ap (put_field j.0 (default_value j.1)) (fields_values js)

-- the cells of fields in order have the values in order
module _ (of : CellId → Value) where
  abbrev Field : Type 0
  Field = List ℕ × CellId

  abbrev valued : List Field → List Valued
  valued fs = map (λ (f : Field). (f.0, of f.1)) fs

  put_valued : (x : List ℕ) (c : CellId) (fs : List Field) →
      valued (put_field x c fs) ≡ put_field x (of c) (valued fs)
  put_valued x c [] = refl
  put_valued x c (f ∷ fs) = by (is_lt (text_cmp x f.0)) (put_field x c fs) (put_valued x c fs)
    where
      by : (t : Bool) (gs : List Field) → valued gs ≡ put_field x (of c) (valued fs) →
          valued (if t then (x, c) ∷ f ∷ fs else f ∷ gs)
          ≡ (if t then (x, of c) ∷ (f.0, of f.1) ∷ valued fs else (f.0, of f.1) ∷ put_field x (of c) (valued fs))
      by true gs h = refl
      by false gs h = ap (λ (vs : List Valued). (f.0, of f.1) ∷ vs) h

  ordered_values : (xs : List (List ℕ)) (cs : List CellId) → valued (in_order xs cs) ≡ in_order xs (map of cs)
  ordered_values [] cs = refl
  ordered_values (x ∷ xs) [] = refl
  ordered_values (x ∷ xs) (c ∷ cs) =
      put_valued x c (in_order xs cs) ∙ ap (put_field x (of c)) (ordered_values xs cs)

abbrev pairs : List Valued → List (Value × Value)
pairs ps = map (λ (p : Valued). (value.Text p.0, p.1)) ps

zipped : (ps : List Valued) →
    zip (map (λ (x : List ℕ). value.Text x) (map (λ (p : Valued). p.0) ps)) (map (λ (p : Valued). p.1) ps) ≡ pairs ps
zipped [] = refl
zipped (p ∷ ps) = ap (λ (qs : List (Value × Value)). (value.Text p.0, p.1) ∷ qs) (zipped ps)

paired : (of : CellId → Value) (fs : List (List ℕ × CellId)) → field_pairs of fs ≡ pairs (valued of fs)
paired of [] = refl
paired of (f ∷ fs) = ap (λ (qs : List (Value × Value)). (value.Text f.0, of f.1) ∷ qs) (paired of fs)

-- the record of the values of cells is that of the fields in order
record_is : (of : CellId → Value) (xs : List (List ℕ)) (cs : List CellId) (js : List Kinded) →
    length cs ≡ length xs → AllDiffer xs → xs ≡ map (λ (j : Kinded). j.0) js →
    map of cs ≡ map default_value (map (λ (j : Kinded). j.1) js) →
    record_of xs (map of cs) ≡ default_value (kind.Rec (fields js))
record_is of xs cs js n d names values =
    let fs : List Valued = default_fields (fields js) in
    let order : valued of (in_order xs cs) ≡ fs =
    ordered_values of xs cs
    ∙ ap₂ (λ (ys : List (List ℕ)) (vs : List Value). in_order ys vs) names values
    ∙ sym (fields_values js) in
    sym (ap (λ ps. value.Fun ps) (ordered-function of xs cs n d))
    ∙ ap (λ (ps : List (Value × Value)). value.Fun (function_of ps)) (paired of (in_order xs cs) ∙ ap pairs order
    ∙ sym (zipped fs))

module _ (b c : Build) (t : Ty) (fs gs : List Typed) (names : List (List ℕ)) (xs : List CellId) (id : CellId)
    (is : t ≡ rec_ty fs None) (same : gs ≡ fs) (all : AreDefaults b (map (λ (g : Typed). g.1) gs) xs)
    (named : names ≡ map (λ (g : Typed). g.0) gs) (grows : Grows b c) where
  record_has : (js : List Kinded) → all_fields_there (map (λ (f : Typed). (f.0, kind_of f.1)) fs) ≡ Some js →
      length xs ≡ length names → AllDiffer names → (a : List Bool) → Satisfies a c.formula →
      record_of names (map (decode b.arena a) xs) ≡ default_value (kind.Rec (fields js))
  record_has js e n d a s =
      let p = fields_there fs js e in
      record_is (decode b.arena a) names xs js n d (named ∙ ap (map (λ (g : Typed). g.0)) same ∙ p.0)
      (parts_are b (map (λ (g : Typed). g.1) gs) xs (map (λ (j : Kinded). j.1) js) all
      (ap (λ (hs : List Typed). all_there (map kind_of (map (λ (g : Typed). g.1) hs))) same ∙ p.1) a
      (Satisfies-before b c a grows s))

  pub default-rec : length xs ≡ length names → AllDiffer names →
      Decodes c id (λ a. record_of names (map (decode b.arena a) xs)) → IsDefault c t id
  default-rec n d made =
      by_form c t id (rec_ty fs None) (record_kind (map (λ (f : Typed). (f.0, kind_of f.1)) fs)) is (kind-Rec fs)
      (λ k g. by (are_distinct (map (λ f. f.0) (map (λ (f : Typed). (f.0, kind_of f.1)) fs)))
      (all_fields_there (map (λ (f : Typed). (f.0, kind_of f.1)) fs)) refl k g)
    where
      by : (q : Bool) (o : Option (List Kinded)) →
          all_fields_there (map (λ (f : Typed). (f.0, kind_of f.1)) fs) ≡ o → (k : Kind) →
          (if q then option_map (λ js. kind.Rec (fields js)) o else None) ≡ Some k → Decodes c id (λ a. default_value k)
      by true (Some js) f k g =
          subst (λ (i : Kind). Decodes c id (λ a. default_value i)) (same_some (kind.Rec (fields js)) k g)
          (Decodes-same c id _ _ made (λ a s. record_has js f n d a s))
      by true None f k g = absurd (none_some k g)
      by false o f k g = absurd (none_some k g)
