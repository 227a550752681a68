-- A form from its sets and parts: its sort, and what it shows.
use Rattle.std.proofs.Common.{◌≡◌, ℕ, suc, Bool, true, false, List, [], ◌∷◌, map, take, drop, zip, length, refl, sym}
use Rattle.std.proofs.Common.{◌∙◌, ap, subst, Some, if◌then◌else◌}
use Rattle.std.specs.Ordering.{is_lt}
use Rattle.tla_values.specs.Order.{text_cmp}
use Rattle.cell_arena.specs.declared.build.Build.{Build}
use Rattle.cell_merge.specs.Sorts.{Sort, name, number, sequence_of, set_of, function_of}
use Rattle.kernel_trees.specs.declared.kernel.Ker.{Ker}
use Rattle.kernel_trees.specs.declared.kernel.KerOp.{KerOp}
use Rattle.kernel_trees.specs.declared.kernel.KerOp.TheVariants as ker
use Rattle.kernel_trees.specs.Sound.{Context}
use Rattle.kernel_trees.specs.TypeKinds.{Kind, Fields, Number, Set, Tup, Word, no_fields, more_fields, fields}
use Rattle.kernel_trees.specs.TypeKinds.{insert_field, kinds}
use Rattle.kernel_trees.proofs.SoundRows.{BinderRow, Row, row_functions, row_ints, row_nats, row_records, row_sequences}
use Rattle.kernel_trees.proofs.SoundRows.{row_some, row_subsets, row_texts, row_tuples}
use Rattle.kernel_trees.proofs.SoundTrees.{Children, Node, node_name, node_bound, node_plain, node_bounded, node_binder}
use Rattle.kernel_trees.proofs.SoundTrees.{node_update, node_fold}
use Rattle.kernel_ranges.proofs.Opened.{is_plain}
use Rattle.outcome_cells.specs.declared.cells.Cells.{Cells}
use Rattle.typed_cells.specs.FieldOrder.{in_order, put_field}
use Rattle.typed_cells.specs.KindSorts.{field_sorts, record_sort, sort_of, tuple_sort}
use Rattle.form_cells.specs.declared.form.Form.{Form}
use Rattle.form_cells.specs.declared.form.Form.TheOpen as form
use Rattle.form_cells.specs.declared.form.FormCells.{FormCells}
use Rattle.form_cells.specs.FormSorts.{AreFormsOf, HasMembers, IsFormOf, functions, ints, more, nats, none, records}
use Rattle.form_cells.specs.FormSorts.{sequences, subsets, texts, tuples}
use Rattle.expr_rewriter.specs.Operating.{AreParts}
use Rattle.expr_rewriter.specs.inner.Forming.{AreFormParts, form_over, makes_form, set_count}
use Rattle.typed_cells.proofs.PartSorts.{kinds-sorts}

some_same : {X : Type 0} {x y : X} → Some x ≡ Some y → x ≡ y
some_same e = cc

-- ---- rows

pub record FormRow (names : List Kind) (c : Context) (o : KerOp) (a : Kind) (ks : List Ker) : Type 0 where
  pub kinds : List Kind
  pub row : Row o a kinds
  pub children : Children names o 0 c true ks kinds

binder_form : (o : KerOp) (a : Kind) (ms : List Kind) (d : Kind) → makes_form o ≡ true → BinderRow o a ms d → ⊥
binder_form o a ms d e (row_some ns) = cc
binder_form o a ms d e r = cc

pub form_row : (names : List Kind) (c : Context) (o : KerOp) (a : Kind) (xs : List ℕ) (ks : List Ker) →
    makes_form o ≡ true →
    Node names c true o a xs ks → FormRow names c o a ks
form_row names c o a xs ks e (node_name i primed b ys q) = absurd (cc)
form_row names c o a xs ks e (node_bound n b ys q) = absurd (cc)
form_row names c o a xs ks e (node_plain p b ys ls bs r h i) = record { kinds = bs; row = r; children = h }
form_row names c o a xs ks e (node_bounded ys x y l u p q r s) = absurd (cc)
form_row names c o a xs ks e (node_binder p b ys ls sets body ms d q n r t u) = absurd (binder_form o a ms d e r)
form_row names c o a xs ks e (node_update b x f i d j m p q r t) = absurd (cc)
form_row names c o a xs ks e (node_fold b x y d f q m p r t) = absurd (cc)

pub makes_plain : (o : KerOp) → makes_form o ≡ true → is_plain o ≡ true
makes_plain ker.IntForm e = refl
makes_plain ker.NatForm e = refl
makes_plain ker.TextForm e = refl
makes_plain ker.SeqForm e = refl
makes_plain ker.Subsets e = refl
makes_plain ker.Functions e = refl
makes_plain (ker.RecForm names) e = refl
makes_plain ker.TupForm e = refl
makes_plain o e = absurd (cc)

-- ---- the sorts of records

put_sort : (t : Bool) (x : List ℕ) (a : Kind) (y : List ℕ) (b : Kind) (fs gs : Fields) (ss : List (List ℕ × Sort)) →
    field_sorts gs ≡ ss →
    field_sorts (if t then more_fields x a (more_fields y b fs) else more_fields y b gs)
    ≡ (if t then (x, sort_of a) ∷ (y, sort_of b) ∷ field_sorts fs else (y, sort_of b) ∷ ss)
put_sort true x a y b fs gs ss h = refl
put_sort false x a y b fs gs ss h = ap (λ (l : List (List ℕ × Sort)). (y, sort_of b) ∷ l) h

insert_sort : (x : List ℕ) (a : Kind) (fs : Fields) → field_sorts (insert_field x a fs) ≡ put_field x (sort_of a)
    (field_sorts fs)
insert_sort x a no_fields = refl
insert_sort x a (more_fields y b fs) =
    put_sort (is_lt (text_cmp x y)) x a y b fs (insert_field x a fs) (put_field x (sort_of a) (field_sorts fs))
    (insert_sort x a fs)

pub fields_sorted : (xs : List (List ℕ)) (ms : List Kind) → field_sorts (fields (zip xs ms)) ≡ in_order xs
    (map sort_of ms)
fields_sorted [] ms = refl
fields_sorted (x ∷ xs) [] = refl
fields_sorted (x ∷ xs) (m ∷ ms) = insert_sort x m (fields (zip xs ms))
    ∙ ap (put_field x (sort_of m)) (fields_sorted xs ms)

-- ---- the sort of the form

abbrev pub forms_of : List FormCells → List Form
forms_of ys = map (λ y. y.form) ys

module _ (b : Build) (names : List Kind) (c : Context) where
  abbrev pub Members : Sort → form.Form-F Form → Type 0
  Members s x = HasMembers b.arena.kinds s x

  one_sort : (o : KerOp) (d : Kind) (ks : List Ker) (ys : List FormCells) (make : Form → form.Form-F Form) (s : Sort)
      (x : form.Form-F Form) →
      ((f : Form) → IsFormOf b.arena.kinds (sort_of d) f → Members s (make f)) →
      Children names o 0 c true ks (Set d ∷ []) → AreFormParts b ks ys →
      ((y : FormCells) → ys ≡ y ∷ [] → make y.form ≡ x) → Members s x
  one_sort o d [] ys make s x g h p q = absurd h
  one_sort o d (k ∷ []) [] make s x g h p q = absurd p
  one_sort o d (k ∷ []) (y ∷ []) make s x g h p q = subst (Members s) (q y refl) (g y.form (p.0 d h.0.0).form)
  one_sort o d (k ∷ []) (y ∷ z ∷ ys) make s x g h p q = absurd p.1
  one_sort o d (k ∷ l ∷ ks) ys make s x g h p q = absurd h.1

  sequence_sort : (d : Kind) (ks : List Ker) (xs : List Cells) (ys : List FormCells) (x : form.Form-F Form) →
      Children names ker.SeqForm 0 c true ks (Set d ∷ []) → AreFormParts b ks ys →
      form_over ker.SeqForm (map (λ x. x.cell) xs) (forms_of ys) ≡ Some x → Members (sequence_of (sort_of d)) x
  sequence_sort d ks xs ys x h p q =
      one_sort ker.SeqForm d ks ys form.Sequences (sequence_of (sort_of d)) x (λ f i. sequences (sort_of d) f i) h p
      (λ y e. some_same (sym (ap (λ l. form_over ker.SeqForm (map (λ x. x.cell) xs) (forms_of l)) e) ∙ q))

  subset_sort : (d : Kind) (ks : List Ker) (xs : List Cells) (ys : List FormCells) (x : form.Form-F Form) →
      Children names ker.Subsets 0 c true ks (Set d ∷ []) → AreFormParts b ks ys →
      form_over ker.Subsets (map (λ x. x.cell) xs) (forms_of ys) ≡ Some x → Members (set_of (sort_of d)) x
  subset_sort d ks xs ys x h p q =
      one_sort ker.Subsets d ks ys form.Subsets (set_of (sort_of d)) x (λ f i. subsets (sort_of d) f i) h p
      (λ y e. some_same (sym (ap (λ l. form_over ker.Subsets (map (λ x. x.cell) xs) (forms_of l)) e) ∙ q))

  function_sort : (d e : Kind) (ks : List Ker) (xs : List Cells) (ys : List FormCells) (x : form.Form-F Form) →
      Children names ker.Functions 0 c true ks (Set d ∷ Set e ∷ []) → AreParts b (take 1 ks) xs →
      AreFormParts b (drop 1 ks) ys →
      form_over ker.Functions (map (λ x. x.cell) xs) (forms_of ys) ≡ Some x →
      Members (function_of (sort_of d) (sort_of e)) x
  function_sort d e [] xs ys x h s p q = absurd h
  function_sort d e (k ∷ []) xs ys x h s p q = absurd h.1
  function_sort d e (k ∷ l ∷ []) [] ys x h s p q = absurd s
  function_sort d e (k ∷ l ∷ []) (u ∷ []) [] x h s p q = absurd p
  function_sort d e (k ∷ l ∷ []) (u ∷ []) (y ∷ []) x h s p q =
      subst (Members (function_of (sort_of d) (sort_of e))) (some_same q)
      (functions (sort_of d) (sort_of e) u.cell y.form (s.0 (Set d) h.0.0).sort (p.0 e h.1.0.0).form)
  function_sort d e (k ∷ l ∷ []) (u ∷ []) (y ∷ z ∷ ys) x h s p q = absurd p.1
  function_sort d e (k ∷ l ∷ []) (u ∷ v ∷ xs) ys x h s p q = absurd s.1
  function_sort d e (k ∷ l ∷ m ∷ ks) xs ys x h s p q = absurd h.1.1

  parts_sorts : (o : KerOp) (n : ℕ) (ms : List Kind) (ks : List Ker) (ys : List FormCells) →
      Children names o n c true ks (map Set ms) →
      AreFormParts b ks ys → AreFormsOf b.arena.kinds (map sort_of ms) (forms_of ys)
  parts_sorts o n [] [] [] h p = none
  parts_sorts o n [] [] (y ∷ ys) h p = absurd p
  parts_sorts o n [] (k ∷ ks) ys h p = absurd h
  parts_sorts o n (m ∷ ms) [] ys h p = absurd h
  parts_sorts o n (m ∷ ms) (k ∷ ks) [] h p = absurd p
  parts_sorts o n (m ∷ ms) (k ∷ ks) (y ∷ ys) h p =
      more (sort_of m) (map sort_of ms) y.form (forms_of ys) (p.0 m h.0.0).form (parts_sorts o (suc n) ms ks ys h.1 p.1)

  parts_count : (o : KerOp) (n : ℕ) (ms : List Kind) (ks : List Ker) (ys : List FormCells) →
      Children names o n c true ks (map Set ms) →
      AreFormParts b ks ys → length ms ≡ length (forms_of ys)
  parts_count o n [] [] [] h p = refl
  parts_count o n [] [] (y ∷ ys) h p = absurd p
  parts_count o n [] (k ∷ ks) ys h p = absurd h
  parts_count o n (m ∷ ms) [] ys h p = absurd h
  parts_count o n (m ∷ ms) (k ∷ ks) [] h p = absurd p
  parts_count o n (m ∷ ms) (k ∷ ks) (y ∷ ys) h p = ap suc (parts_count o (suc n) ms ks ys h.1 p.1)

  abbrev pub Sorted : Kind → form.Form-F Form → Type 0
  Sorted a x = (m : Kind) × (a ≡ Set m) × Members (sort_of m) x

  pub made_sort : (o : KerOp) (a : Kind) (bs : List Kind) (ks : List Ker) (xs : List Cells) (ys : List FormCells)
      (x : form.Form-F Form) → makes_form o ≡ true →
      Row o a bs → Children names o 0 c true ks bs → AreParts b (take (set_count o) ks) xs →
      AreFormParts b (drop (set_count o) ks) ys →
      form_over o (map (λ x. x.cell) xs) (forms_of ys) ≡ Some x → Sorted a x
  made_sort o a bs ks xs ys x e row_ints h s p q = (Number, refl, subst (Members number) (some_same q) ints)
  made_sort o a bs ks xs ys x e row_nats h s p q = (Number, refl, subst (Members number) (some_same q) nats)
  made_sort o a bs ks xs ys x e row_texts h s p q = (Word [], refl, subst (Members name) (some_same q) texts)
  made_sort o a bs ks xs ys x e (row_sequences d) h s p q = (_, refl, sequence_sort d ks xs ys x h p q)
  made_sort o a bs ks xs ys x e (row_subsets d) h s p q = (Set d, refl, subset_sort d ks xs ys x h p q)
  made_sort o a bs ks xs ys x e (row_functions d g) h s p q = (_, refl, function_sort d g ks xs ys x h s p q)
  made_sort o a bs ks xs ys x e (row_tuples ms) h s p q = (
    Tup (kinds ms),
    refl,
    subst (λ ss. Members (tuple_sort ss) x) (sym (kinds-sorts ms))
        (subst (Members (tuple_sort (map sort_of ms))) (some_same q)
        (tuples (map sort_of ms) (forms_of ys) (parts_sorts ker.TupForm 0 ms ks ys h p))),
  )
  made_sort o a bs ks xs ys x e (row_records ns ms l) h s p q = (
    _,
    refl,
    subst (λ fs. Members (record_sort fs) x) (sym (fields_sorted ns ms))
        (subst (Members (record_sort (in_order ns (map sort_of ms)))) (some_same q)
        (records ns (map sort_of ms) (forms_of ys) (l ∙ parts_count (ker.RecForm ns) 0 ms ks ys h p)
        (parts_sorts (ker.RecForm ns) 0 ms ks ys h p))),
  )
  made_sort o a bs ks xs ys x e r h s p q = absurd (cc)
