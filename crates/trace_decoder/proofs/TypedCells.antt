-- A cell of a type's sort decodes to a value of the type.
use Rattle.std.proofs.Common.{◌≡◌, ℕ, zero, suc, ◌<◌, ◌≤◌, Bool, true, false, List, [], ◌∷◌, length, map, take, get_or, All, Option, Some, None, ℤ, pos, negsuc, refl, sym, ◌∙◌, ap, subst, arith, bytes_eq, if◌then◌else◌}
use Rattle.std.specs.Prelude.{filter, option_map, option_and_then, cond}
use Rattle.std.specs.List.{AllByRecursion}
use Rattle.std.specs.Ordering.{is_eq}
use Rattle.std.proofs.lemmas.List.Elements.{All-from_recursion, All-nil, All-take}
use Rattle.sat_formula.specs.declared.lit.Lit.{Lit}
use Rattle.sat_formula.specs.Lit.{lit_value}
use Rattle.word_blaster.specs.Word.{word_value}
use Rattle.tla_values.specs.Order.{same_value, text_cmp, value_cmp}
use Rattle.tla_values.specs.Sequences.{sequence}
use Rattle.tla_values.specs.Sets.{apply, function_of, set_of}
use Rattle.tla_values.specs.declared.value.Value.{Value}
use Rattle.tla_values.specs.declared.value.Value.TheVariants as value
use Rattle.tla_values.specs.declared.value.Value.TheOpen as layer
use Rattle.tla_values.proofs.FunLaws.{all_function}
use Rattle.tla_values.proofs.OrderLemmas.{by_kinds}
use Rattle.tla_values.proofs.SetLaws.{all_insert}
use Rattle.tla_meaning.proofs.Laws.{none≢some}
use Rattle.snowcat_rows.specs.TypeTexts.{are_distinct}
use Rattle.snowcat_rows.specs.Types.{Term, Slot, con, fields as field_term, EndHead, lookup, mean, mean_layer, row, some, none}
use Rattle.snowcat_rows.specs.Values.{OfField, OfItems, OfType, unlimited}
use Rattle.snowcat_rows.specs.declared.types.Ty.{Ty, roll-Ty}
use Rattle.snowcat_rows.specs.declared.types.Ty.TheOpen as ty
use Rattle.snowcat_rows.specs.declared.types.Ty.TheFolds.{fold-roll-Ty, ind-Ty, map-Ty}
use Rattle.cell_arena.specs.declared.kinds.CellId.{CellId}
use Rattle.cell_arena.specs.declared.kinds.CellKind.{CellKind}
use Rattle.cell_arena.specs.declared.kinds.CellKind.TheVariants as cell
use Rattle.cell_arena.specs.Cells.{Cells, WellBuilt, kind_at}
use Rattle.cell_arena.specs.Decode.{decode, field_pairs, first_places, kind_value, present, present_pairs}
use Rattle.cell_arena.proofs.Decoding.{decode-kind}
use Rattle.cell_merge.specs.Sorts.{ArePlaced, IsFunction, IsRecord, IsSequence, IsSet, IsTuple, OfSort}
use Rattle.cell_merge.proofs.Edges.{is-bit, is-word, is-text, is-set, is-function, is-sequence, is-record, is-tuple}
use Rattle.cell_merge.proofs.FunctionValues.{apply_function}
use Rattle.kernel_trees.specs.TypeKinds as kind
use Rattle.kernel_trees.specs.TypeKinds.{Kind, Kinds, Fields, all_fields_there, all_there, field_kind, fields, kind_layer, kind_of, kinds, more_fields, more_kinds, no_fields, no_kinds}
use Rattle.typed_cells.specs.KindSorts.{OfSorts, field_sorts, item_sorts, sort_at, sort_of}
use Rattle.trace_decoder.specs.Typed.{HaveTypes}
use Rattle.trace_decoder.proofs.RecordFields.{fields_found, found, once, one-test, some_is}

-- ---- what holds of each item of a list that is made

kept-all : {X Y : Type 0} (P : Y → Type 0) (Q : X → Type 0) (p : X → Bool) (f : X → Y) → ((x : X) → Q x → P (f x)) → (xs : List X) → All Q xs → AllByRecursion P (map f (filter p xs))
kept-all P Q p f h [] all = tt
kept-all P Q p f h (x ∷ xs) all = by (p x) (h x (all zero x (omega arith))) (kept-all P Q p f h xs (λ i d lt. all (suc i) d (omega arith)))
  where
    by : (b : Bool) → P (f x) → AllByRecursion P (map f (filter p xs)) → AllByRecursion P (map f (cond b (x ∷ filter p xs) (filter p xs)))
    by true here rest = (here, rest)
    by false here rest = rest

made-all : {X Y : Type 0} (P : Y → Type 0) (Q : X → Type 0) (f : X → Y) → ((x : X) → Q x → P (f x)) → (xs : List X) → All Q xs → AllByRecursion P (map f xs)
made-all P Q f h [] all = tt
made-all P Q f h (x ∷ xs) all = (h x (all zero x (omega arith)), made-all P Q f h xs (λ i d lt. all (suc i) d (omega arith)))

set-all : (P : Value → Type 0) (xs : List Value) → AllByRecursion P xs → AllByRecursion P (set_of xs)
set-all P [] h = tt
set-all P (x ∷ xs) h = all_insert P x (set_of xs) h.0 (set-all P xs h.1)

places-all : (P : Value → Type 0) (n : ℤ) (vs : List Value) → All P vs → All P (first_places n vs)
places-all P (pos n) vs h = All-take P n vs h
places-all P (negsuc n) vs h = All-nil P

same-texts : (x y : List ℕ) → same_value (value.Text x) (value.Text y) ≡ is_eq (text_cmp x y)
same-texts x y = ap is_eq (by_kinds (value.Text x) (value.Text y) (layer.Text x) (layer.Text y) (value.outs-Text x) (value.outs-Text y))

module _ (c : Cells) (built : WellBuilt c) (a : List Bool) where
  abbrev of : CellId → Value
  of = decode c a

  abbrev Of : Kind → CellId → Type 0
  Of k id = OfSort c.kinds (sort_of k) id

  abbrev Has : Term → CellId → Type 0
  Has t id = OfType unlimited t (of id)

  -- what is said of a type
  abbrev Said : Option Kind → Term → Type 0
  Said o t = (k : Kind) → o ≡ Some k → (id : CellId) → Of k id → Has t id

  abbrev Typed : Ty → Type 0
  Typed t = Said (kind_of t) (mean t)

  abbrev Item : Type 0
  Item = (t : Ty) × Typed t

  by-kind : (id : CellId) (k : CellKind) → id.index < length c.kinds → kind_at c.kinds id ≡ k → of id ≡ kind_value c.texts a of k
  by-kind id k lt e = decode-kind c a id built lt ∙ (let P : CellKind → Value = kind_value c.texts a of in ap P e)

  of-kind : (j k : Kind) (id : CellId) → Some j ≡ Some k → Of k id → Of j id
  of-kind j k id e h = subst (λ (i : Kind). Of i id) (sym (some_is e)) h

  -- ---- items and parts in a row

  placed-sorts : (ss : List Rattle.cell_merge.specs.Sorts.Sort) (ps : List CellId) → ArePlaced (length ss) (λ i. OfSort c.kinds (sort_at ss i)) ps → OfSorts c.kinds ss ps
  placed-sorts [] [] h = tt
  placed-sorts [] (p ∷ ps) h = absurd (omega (arith, h.0))
  placed-sorts (s ∷ ss) [] h = absurd (omega (arith, h.0))
  placed-sorts (s ∷ ss) (p ∷ ps) h = (h.1 zero p (omega arith), placed-sorts ss ps (omega (arith, h.0), λ i d lt. h.1 (suc i) d (omega arith)))

  no-items : (ps : List CellId) → OfSorts c.kinds [] ps → OfItems unlimited (con EndHead) (map of ps)
  no-items [] h = tt
  no-items (p ∷ ps) h = absurd h

  items-typed : (as' : List Item) (ks : List Kind) → all_there (map kind_of (map (λ (p : Item). p.0) as')) ≡ Some ks → (ps : List CellId) →
      OfSorts c.kinds (item_sorts (kinds ks)) ps → OfItems unlimited (row (map mean (map (λ (p : Item). p.0) as'))) (map of ps)
  items-typed [] ks e ps h = no-items ps (subst (λ (js : List Kind). OfSorts c.kinds (item_sorts (kinds js)) ps) (sym (some_is e)) h)
  items-typed (i ∷ as') ks e ps h =
      by (kind_of i.0) refl (all_there (map kind_of (map (λ (p : Item). p.0) as'))) refl e (λ js q qs g. items-typed as' js q qs g)
    where
      by : (o : Option Kind) → kind_of i.0 ≡ o → (r : Option (List Kind)) → all_there (map kind_of (map (λ (p : Item). p.0) as')) ≡ r →
          option_and_then (λ y. option_map (λ ys. y ∷ ys) r) o ≡ Some ks →
          ((js : List Kind) → all_there (map kind_of (map (λ (p : Item). p.0) as')) ≡ Some js → (qs : List CellId) → OfSorts c.kinds (item_sorts (kinds js)) qs →
          OfItems unlimited (row (map mean (map (λ (p : Item). p.0) as'))) (map of qs)) →
          OfItems unlimited (row (map mean (map (λ (p : Item). p.0) (i ∷ as')))) (map of ps)
      by None q r s k go = absurd (none≢some k)
      by (Some d) q None s k go = absurd (none≢some k)
      by (Some d) q (Some js) s k go = two ps (subst (λ (is : List Kind). OfSorts c.kinds (item_sorts (kinds is)) ps) (sym (some_is k)) h)
        where
          two : (ps : List CellId) → OfSorts c.kinds (item_sorts (kinds (d ∷ js))) ps → OfItems unlimited (row (map mean (map (λ (p : Item). p.0) (i ∷ as')))) (map of ps)
          two [] h = absurd h
          two (p ∷ ps) h = (i.1 d q p h.0, go js s ps h.1)

  -- ---- all types but records

  layer-typed : (y : ty.Ty-F Item) → ((fs : List (List ℕ × Item)) → y ≡ ty.Rec fs None → Said (kind_layer (map-Ty Ty (Option Kind) kind_of (map-Ty Item Ty (λ t. t.0) y))) (mean_layer (map-Ty Ty Term mean (map-Ty Item Ty (λ t. t.0) y)))) →
      Said (kind_layer (map-Ty Ty (Option Kind) kind_of (map-Ty Item Ty (λ t. t.0) y))) (mean_layer (map-Ty Ty Term mean (map-Ty Item Ty (λ t. t.0) y)))
  layer-typed ty.Bool r k e id h =
      let g = of-kind kind.Truth k id e h in let s = is-bit (kind_at c.kinds id) g.1 in (lit_value s.0 a, by-kind id (cell.Bit s.0) g.0 s.1)
  layer-typed ty.Int r k e id h =
      let g = of-kind kind.Number k id e h in let s = is-word (kind_at c.kinds id) g.1 in (word_value s.0 a, by-kind id (cell.Word s.0) g.0 s.1, tt)
  layer-typed ty.Str r k e id h =
      let g = of-kind (kind.Word []) k id e h in let s = is-text (kind_at c.kinds id) g.1 in (_, by-kind id (cell.Text s.0) g.0 s.1, tt)
  layer-typed (ty.Named []) r k e id h = absurd (none≢some e)
  layer-typed (ty.Named (x ∷ xs)) r k e id h =
      let g = of-kind (kind.Word (x ∷ xs)) k id e h in let s = is-text (kind_at c.kinds id) g.1 in (_, by-kind id (cell.Text s.0) g.0 s.1, tt)
  layer-typed (ty.Var i) r k e id h = absurd (none≢some e)
  layer-typed (ty.Set i) r k e id h = by (kind_of i.0) refl e
    where
      by : (o : Option Kind) → kind_of i.0 ≡ o → option_map kind.Set o ≡ Some k → Has (mean_layer (ty.Set (mean i.0))) id
      by None q f = absurd (none≢some f)
      by (Some d) q f =
          let g = of-kind (kind.Set d) k id f h in
          let s = is-set (Of d) (kind_at c.kinds id) g.1 in
          let all : All (λ (x : Lit × CellId). Of d x.1) s.0 = (let P : CellKind → Type 0 = IsSet (Of d) in subst P s.1 g.1) in (
            set_of (present a of s.0),
            by-kind id (cell.Set s.0) g.0 s.1,
            All-from_recursion (OfType unlimited (mean i.0)) (set_of (present a of s.0)) (set-all (OfType unlimited (mean i.0)) (present a of s.0)
                (kept-all (OfType unlimited (mean i.0)) (λ (x : Lit × CellId). Of d x.1) (λ x. lit_value x.0 a) (λ x. of x.1) (λ x m. i.1 d q x.1 m) s.0 all)),
            tt,
          )
  layer-typed (ty.Seq i) r k e id h = by (kind_of i.0) refl e
    where
      by : (o : Option Kind) → kind_of i.0 ≡ o → option_map kind.Seq o ≡ Some k → Has (mean_layer (ty.Seq (mean i.0))) id
      by None q f = absurd (none≢some f)
      by (Some d) q f =
          let g = of-kind (kind.Seq d) k id f h in
          let s = is-sequence (Of d) (kind_at c.kinds id) g.1 in
          let all : All (Of d) s.1 = (let P : CellKind → Type 0 = IsSequence (Of d) in subst P s.2 g.1) in (
            first_places (word_value s.0 a) (map of s.1),
            by-kind id (cell.Seq s.0 s.1) g.0 s.2,
            places-all (OfType unlimited (mean i.0)) (word_value s.0 a) (map of s.1)
                (All-from_recursion (OfType unlimited (mean i.0)) (map of s.1) (made-all (OfType unlimited (mean i.0)) (Of d) of (λ x m. i.1 d q x m) s.1 all)),
            tt,
          )
  layer-typed (ty.Fun i j) r k e id h = by (kind_of i.0) refl (kind_of j.0) refl e
    where
      by : (o : Option Kind) → kind_of i.0 ≡ o → (p : Option Kind) → kind_of j.0 ≡ p → option_and_then (λ x. option_map (λ y. kind.Fun x y) p) o ≡ Some k →
          Has (mean_layer (ty.Fun (mean i.0) (mean j.0))) id
      by None q p s f = absurd (none≢some f)
      by (Some d) q None s f = absurd (none≢some f)
      by (Some d) q (Some m) s f =
          let g = of-kind (kind.Fun d m) k id f h in
          let z = is-function (Of d) (Of m) (kind_at c.kinds id) g.1 in
          let Q : Lit × CellId × CellId → Type 0 = λ x. Of d x.1 × Of m x.2 in
          let all : All Q z.0 = (let P : CellKind → Type 0 = IsFunction (Of d) (Of m) in subst P z.1 g.1) in
          let pair : Lit × CellId × CellId → Value × Value = λ x. (of x.1, of x.2) in
          let first : Value × Value → Type 0 = λ p. OfType unlimited (mean i.0) p.0 in
          let second : Value × Value → Type 0 = λ p. OfType unlimited (mean j.0) p.1 in (
            function_of (present_pairs a of z.0),
            by-kind id (cell.Fun z.0) g.0 z.1,
            All-from_recursion first _ (all_function first (present_pairs a of z.0) (kept-all first Q (λ x. lit_value x.0 a) pair (λ x l. i.1 d q x.1 l.0) z.0 all)),
            All-from_recursion second _ (all_function second (present_pairs a of z.0) (kept-all second Q (λ x. lit_value x.0 a) pair (λ x l. j.1 m s x.2 l.1) z.0 all)),
            tt,
          )
  layer-typed (ty.Tup as') r k e id h = by (all_there (map kind_of (map (λ (p : Item). p.0) as'))) refl e
    where
      by : (o : Option (List Kind)) → all_there (map kind_of (map (λ (p : Item). p.0) as')) ≡ o → option_map (λ xs. kind.Tup (kinds xs)) o ≡ Some k →
          Has (mean_layer (ty.Tup (map mean (map (λ (p : Item). p.0) as')))) id
      by None q f = absurd (none≢some f)
      by (Some ks) q f =
          let g = of-kind (kind.Tup (kinds ks)) k id f h in
          let ss = item_sorts (kinds ks) in
          let s = is-tuple (length ss) (λ i. OfSort c.kinds (sort_at ss i)) (kind_at c.kinds id) g.1 in
          let placed : ArePlaced (length ss) (λ i. OfSort c.kinds (sort_at ss i)) s.0 =
          (let P : CellKind → Type 0 = IsTuple (length ss) (λ i. OfSort c.kinds (sort_at ss i)) in subst P s.1 g.1) in
          (map of s.0, by-kind id (cell.Tup s.0) g.0 s.1, items-typed as' ks q s.0 (placed-sorts ss s.0 placed))
  layer-typed (ty.Rec fs None) r k e id h = r fs refl k e id h
  layer-typed (ty.Rec fs (Some q)) r k e id h = absurd (none≢some e)
  layer-typed (ty.Oper as' b) r k e id h = absurd (none≢some e)

  -- ---- records

  abbrev Field : Type 0
  Field = List ℕ × Item

  abbrev named : List Field → List (List ℕ × Term)
  named fs = map (λ (f : List ℕ × Ty). (f.0, mean f.1)) (map (λ (f : Field). (f.0, f.1.0)) fs)

  abbrev kinded : List Field → List (List ℕ × Option Kind)
  kinded fs = map (λ (f : List ℕ × Ty). (f.0, kind_of f.1)) (map (λ (f : Field). (f.0, f.1.0)) fs)

  abbrev Part : Type 0
  Part = List ℕ × CellId

  -- of each field a part of its name and its kind's sort, in their order
  abbrev AreParts : Fields → List Part → Type 0
  AreParts no_fields rs = Unit {0}
  AreParts (more_fields x k gs) [] = ⊥
  AreParts (more_fields x k gs) (r ∷ rs) = (r.0 ≡ x) × Of k r.1 × AreParts gs rs

  head-same : (x y : List ℕ) (xs ys : List (List ℕ)) → x ∷ xs ≡ y ∷ ys → (x ≡ y) × (xs ≡ ys)
  head-same x y xs ys e = (cc, cc)

  are-parts : (gs : Fields) (rs : List Part) → map (λ (r : Part). r.0) rs ≡ map (λ f. f.0) (field_sorts gs) →
      OfSorts c.kinds (map (λ f. f.1) (field_sorts gs)) (map (λ (r : Part). r.1) rs) → AreParts gs rs
  are-parts no_fields rs e h = tt
  are-parts (more_fields x k gs) [] e h = absurd h
  are-parts (more_fields x k gs) (r ∷ rs) e h =
      let z = head-same r.0 x (map (λ (r : Part). r.0) rs) (map (λ f. f.0) (field_sorts gs)) e in
      (z.0, h.0, are-parts gs rs z.1 h.1)

  -- what stands at a name
  abbrev Stands : Option Kind → Option Value → Type 0
  Stands None o = o ≡ None
  Stands (Some k) o = (i : CellId) × (o ≡ Some (of i)) × Of k i

  stands : (gs : Fields) (rs : List Part) (x : List ℕ) → map (λ (r : Part). r.0) rs ≡ map (λ f. f.0) (field_sorts gs) → AreParts gs rs →
      Stands (field_kind gs x) (apply (field_pairs of rs) (value.Text x))
  stands no_fields [] x e h = refl
  stands no_fields (r ∷ rs) x e h = absurd (cc)
  stands (more_fields y k gs) [] x e h = absurd h
  stands (more_fields y k gs) (r ∷ rs) x e h =
      by (is_eq (text_cmp x y)) (same-texts x r.0 ∙ ap (λ (z : List ℕ). is_eq (text_cmp x z)) h.0)
      (stands gs rs x (head-same r.0 y (map (λ (r : Part). r.0) rs) (map (λ f. f.0) (field_sorts gs)) e).1 h.2)
    where
      by : (b : Bool) → same_value (value.Text x) (value.Text r.0) ≡ b → Stands (field_kind gs x) (apply (field_pairs of rs) (value.Text x)) →
          Stands (if b then Some k else field_kind gs x) (if same_value (value.Text x) (value.Text r.0) then Some (of r.1) else apply (field_pairs of rs) (value.Text x))
      by true q rest = (r.1, ap (λ (b : Bool). if b then Some (of r.1) else apply (field_pairs of rs) (value.Text x)) q, h.1)
      by false q rest =
          subst (λ (b : Bool). Stands (field_kind gs x) (if b then Some (of r.1) else apply (field_pairs of rs) (value.Text x))) (sym q) rest

  field-typed : (fs : List Field) (ks : List (List ℕ × Kind)) (x : List ℕ) (o : Option Value) → all_fields_there (kinded fs) ≡ Some ks → Stands (found ks x) o →
      OfField unlimited (lookup (named fs) x) o
  field-typed [] ks x o e h = subst (λ (js : List (List ℕ × Kind)). Stands (found js x) o) (sym (some_is e)) h
  field-typed (f ∷ fs) ks x o e h = by (kind_of f.1.0) refl (all_fields_there (kinded fs)) refl e (λ js q g. field-typed fs js x o q g)
    where
      by : (p : Option Kind) → kind_of f.1.0 ≡ p → (r : Option (List (List ℕ × Kind))) → all_fields_there (kinded fs) ≡ r →
          option_and_then (λ y. option_map (λ ys. (f.0, y) ∷ ys) r) p ≡ Some ks →
          ((js : List (List ℕ × Kind)) → all_fields_there (kinded fs) ≡ Some js → Stands (found js x) o → OfField unlimited (lookup (named fs) x) o) →
          OfField unlimited (if bytes_eq f.0 x then some (mean f.1.0) else lookup (named fs) x) o
      by None p r q s go = absurd (none≢some s)
      by (Some d) p None q s go = absurd (none≢some s)
      by (Some d) p (Some js) q s go =
          at (bytes_eq f.0 x) (one-test x f.0) (subst (λ (is : List (List ℕ × Kind)). Stands (found is x) o) (sym (some_is s)) h)
        where
          at : (b : Bool) → b ≡ is_eq (text_cmp x f.0) → Stands (if is_eq (text_cmp x f.0) then Some d else found js x) o →
              OfField unlimited (if b then some (mean f.1.0) else lookup (named fs) x) o
          at true z g =
              let w = subst (λ (b : Bool). Stands (if b then Some d else found js x) o) (sym z) g in
              (of w.0, w.1, f.1.1 d p w.0 w.2)
          at false z g = go js q (subst (λ (b : Bool). Stands (if b then Some d else found js x) o) (sym z) g)

  abbrev IsNamed : Value × Value → Type 0
  IsNamed p = (s : List ℕ) × (p.0 ≡ value.Text s)

  record-typed : (fs : List Field) → Said (kind_layer (map-Ty Ty (Option Kind) kind_of (map-Ty Item Ty (λ t. t.0) (ty.Rec fs None)))) (mean_layer (map-Ty Ty Term mean (map-Ty Item Ty (λ t. t.0) (ty.Rec fs None))))
  record-typed fs k e id h = by (are_distinct (map (λ f. f.0) (kinded fs))) refl (all_fields_there (kinded fs)) refl e
    where
      made : (ks : List (List ℕ × Kind)) → are_distinct (map (λ f. f.0) (kinded fs)) ≡ true → all_fields_there (kinded fs) ≡ Some ks → Of (kind.Rec (fields ks)) id →
          Has (field_term (lookup (named fs)) None) id
      made ks d q g =
          let gs = fields ks in
          let ns : List (List ℕ) = map (λ f. f.0) (field_sorts gs) in
          let ss = map (λ f. f.1) (field_sorts gs) in
          let P : CellKind → Type 0 = IsRecord ns (λ i. OfSort c.kinds (sort_at ss i)) in
          let s = is-record ns (λ i. OfSort c.kinds (sort_at ss i)) (kind_at c.kinds id) g.1 in
          let p = subst P s.1 g.1 in
          let rs : List Part = s.0 in
          let ps = function_of (field_pairs of rs) in
          let parts = are-parts gs rs p.0 (placed-sorts ss (map (λ (r : Part). r.1) rs) (many gs (map (λ (r : Part). r.1) rs) p.1)) in (
            ps,
            by-kind id (cell.Rec rs) g.0 s.1,
            All-from_recursion IsNamed ps (all_function IsNamed (field_pairs of rs) (made-all IsNamed (λ r. Unit {0}) (λ (r : Part). (value.Text r.0, of r.1)) (λ r u. (r.0, refl)) rs (λ i d lt. tt))),
            λ x. field-typed fs ks x (apply ps (value.Text x)) q
                (subst (λ (o : Option Value). Stands (found ks x) o) (sym (apply_function (field_pairs of rs) (value.Text x)))
                (subst (λ (o : Option Kind). Stands o (apply (field_pairs of rs) (value.Text x))) (fields_found ks (once (kinded fs) ks q d) x) (stands gs rs x p.0 parts))),
          )
        where
          many : (gs : Fields) (ps : List CellId) → ArePlaced (length (map (λ f. f.0) (field_sorts gs))) (λ i. OfSort c.kinds (sort_at (map (λ f. f.1) (field_sorts gs)) i)) ps →
              ArePlaced (length (map (λ f. f.1) (field_sorts gs))) (λ i. OfSort c.kinds (sort_at (map (λ f. f.1) (field_sorts gs)) i)) ps
          many gs ps g = subst (λ (n : ℕ). ArePlaced n (λ i. OfSort c.kinds (sort_at (map (λ f. f.1) (field_sorts gs)) i)) ps) (as-many gs) g
            where
              as-many : (gs : Fields) → length (map (λ f. f.0) (field_sorts gs)) ≡ length (map (λ f. f.1) (field_sorts gs))
              as-many no_fields = refl
              as-many (more_fields x k gs) = ap (λ (n : ℕ). suc n) (as-many gs)

      by : (b : Bool) → are_distinct (map (λ f. f.0) (kinded fs)) ≡ b → (o : Option (List (List ℕ × Kind))) → all_fields_there (kinded fs) ≡ o →
          (if b then option_map (λ xs. kind.Rec (fields xs)) o else None) ≡ Some k → Has (field_term (lookup (named fs)) None) id
      by false d o q f = absurd (none≢some f)
      by true d None q f = absurd (none≢some f)
      by true d (Some ks) q f = made ks d q (of-kind (kind.Rec (fields ks)) k id f h)

  kind-roll : (x : ty.Ty-F Ty) → kind_of (roll-Ty x) ≡ kind_layer (map-Ty Ty (Option Kind) kind_of x)
  unfolding kind_of
  kind-roll x = fold-roll-Ty (Option Kind) kind_layer x

  mean-roll : (x : ty.Ty-F Ty) → mean (roll-Ty x) ≡ mean_layer (map-Ty Ty Term mean x)
  unfolding mean
  mean-roll x = fold-roll-Ty Term mean_layer x

  pub typed : (t : Ty) → Typed t
  typed = ind-Ty Typed (λ x y is. subst (λ (z : ty.Ty-F Ty). Typed (roll-Ty z)) is (λ k e id h.
      let z : ty.Ty-F Ty = map-Ty Item Ty (λ t. t.0) y in
      subst (λ (u : Term). Has u id) (sym (mean-roll z))
      (layer-typed y (λ fs q. subst (λ (u : ty.Ty-F Item). Said (kind_layer (map-Ty Ty (Option Kind) kind_of (map-Ty Item Ty (λ t. t.0) u))) (mean_layer (map-Ty Ty Term mean (map-Ty Item Ty (λ t. t.0) u)))) (sym q) (record-typed fs))
      k (sym (kind-roll z) ∙ e) id h)))

  -- ---- several cells

  pub all-typed : (ts : List Ty) (ks : List Kind) (ids : List CellId) → all_there (map kind_of ts) ≡ Some ks → OfSorts c.kinds (map sort_of ks) ids → HaveTypes ts (map of ids)
  all-typed [] ks ids e h = none-typed ids (subst (λ (js : List Kind). OfSorts c.kinds (map sort_of js) ids) (sym (some_is e)) h)
    where
      none-typed : (ids : List CellId) → OfSorts c.kinds [] ids → HaveTypes [] (map of ids)
      none-typed [] h = tt
      none-typed (i ∷ ids) h = absurd h
  all-typed (t ∷ ts) ks ids e h = by (kind_of t) refl (all_there (map kind_of ts)) refl e (λ js q is g. all-typed ts js is q g)
    where
      by : (o : Option Kind) → kind_of t ≡ o → (r : Option (List Kind)) → all_there (map kind_of ts) ≡ r → option_and_then (λ y. option_map (λ ys. y ∷ ys) r) o ≡ Some ks →
          ((js : List Kind) → all_there (map kind_of ts) ≡ Some js → (is : List CellId) → OfSorts c.kinds (map sort_of js) is → HaveTypes ts (map of is)) → HaveTypes (t ∷ ts) (map of ids)
      by None q r s k go = absurd (none≢some k)
      by (Some d) q None s k go = absurd (none≢some k)
      by (Some d) q (Some js) s k go = two ids (subst (λ (is : List Kind). OfSorts c.kinds (map sort_of is) ids) (sym (some_is k)) h)
        where
          two : (ids : List CellId) → OfSorts c.kinds (map sort_of (d ∷ js)) ids → HaveTypes (t ∷ ts) (map of ids)
          two [] h = absurd h
          two (i ∷ ids) h = (typed t d q i h.0, go js s ids h.1)
