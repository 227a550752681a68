-- The names of fields in a type are among given texts, by the forms of types.
use Rattle.std.proofs.Common.{◌≡◌, ℕ, ◌+◌, ◌<◌, ◌≤◌, Bool, true, false, List, [], ◌∷◌, ◌++◌, IsTrue, All, map, length, take, get_or, Option, Some, None, option_map, option_and_then, refl, sym, ◌∙◌, ap, subst, if◌then◌else◌, arith}
use Rattle.std.proofs.lemmas.List.{take_all, take_more}
use Rattle.std.proofs.lemmas.List.Elements.{All-nil, All-cons, All-head, All-tail, All-append}
use Rattle.std.specs.Ordering.{is_lt}
use Rattle.tla_values.specs.Order.{text_cmp}
use Rattle.snowcat_rows.specs.TypeTexts.{are_distinct}
use Rattle.snowcat_rows.specs.declared.types.Ty.{Ty, Bool as bool_ty, Int as int_ty, Str as str_ty, Named as named_ty, Set as set_ty, Seq as seq_ty, Fun as fun_ty, Tup as tup_ty, Rec as rec_ty}
use Rattle.kernel_trees.specs.TypeKinds.{Kind, Truth, Number, Word, Set, Seq, Fun, Tup, Rec, Fields, no_fields, more_fields, all_fields_there, all_there, fields, insert_field, kind_of, kinds, record_kind, word_kind}
use Rattle.kernel_trees.proofs.TypeLaws.{kind-Bool, kind-Int, kind-Str, kind-Named, kind-Set, kind-Seq, kind-Fun, kind-Tup, kind-Rec}
use Rattle.typed_cells.specs.KindSorts.{all_field_names, item_names, names_within}
use Rattle.typed_cells.specs.Known.{IsTextAmong}
use Rattle.expr_rewriter.specs.Rewriting.{type_texts}
use Rattle.rewriting_tests.specs.inner.Among.{AreAmong, AreFieldsAmong, AreTypesAmong, IsTypeAmong}

same_some : {X : Type 0} (x y : X) → Some x ≡ Some y → x ≡ y
same_some x y e = cc

none_some : {X : Type 0} (x : X) → None ≡ Some x → ⊥
none_some x e = absurd (cc)

module _ (ts : List (List ℕ)) where
  abbrev Names : List (List ℕ) → Type 0
  Names xs = All (IsTextAmong ts) xs

  nil : Names []
  nil = All-nil (IsTextAmong ts)

  by_kind : (t u : Ty) (o : Option Kind) → t ≡ u → kind_of u ≡ o → Names (type_texts o) → IsTypeAmong ts t
  by_kind t u o e f h = subst (λ (p : Option Kind). Names (type_texts p)) (sym (ap kind_of e ∙ f)) h

  pub among-bool : (t : Ty) → t ≡ bool_ty → IsTypeAmong ts t
  among-bool t e = by_kind t bool_ty (Some Truth) e kind-Bool nil

  pub among-int : (t : Ty) → t ≡ int_ty → IsTypeAmong ts t
  among-int t e = by_kind t int_ty (Some Number) e kind-Int nil

  pub among-str : (t : Ty) → t ≡ str_ty → IsTypeAmong ts t
  among-str t e = by_kind t str_ty (Some (Word [])) e kind-Str nil

  word_case : (x : List ℕ) → Names (type_texts (word_kind x))
  word_case [] = nil
  word_case (c ∷ x) = nil

  pub among-named : (t : Ty) (x : List ℕ) → t ≡ named_ty x → IsTypeAmong ts t
  among-named t x e = by_kind t (named_ty x) (word_kind x) e (kind-Named x) (word_case x)

  set_case : (o : Option Kind) → Names (type_texts o) → Names (type_texts (option_map Set o))
  set_case None h = h
  set_case (Some k) h = h

  pub among-set : (t a : Ty) → t ≡ set_ty a → IsTypeAmong ts a → IsTypeAmong ts t
  among-set t a e h =
      by_kind t (set_ty a) (option_map Set (kind_of a)) e (kind-Set a) (set_case (kind_of a) h)

  seq_case : (o : Option Kind) → Names (type_texts o) → Names (type_texts (option_map Seq o))
  seq_case None h = h
  seq_case (Some k) h = h

  pub among-seq : (t a : Ty) → t ≡ seq_ty a → IsTypeAmong ts a → IsTypeAmong ts t
  among-seq t a e h =
      by_kind t (seq_ty a) (option_map Seq (kind_of a)) e (kind-Seq a) (seq_case (kind_of a) h)

  fun_case : (o p : Option Kind) → Names (type_texts o) → Names (type_texts p) →
      Names (type_texts (option_and_then (λ x. option_map (λ y. Fun x y) p) o))
  fun_case None p h g = nil
  fun_case (Some k) None h g = nil
  fun_case (Some k) (Some j) h g = All-append (IsTextAmong ts) (names_within k) (names_within j) h g

  pub among-fun : (t a b : Ty) → t ≡ fun_ty a b → IsTypeAmong ts a → IsTypeAmong ts b → IsTypeAmong ts t
  among-fun t a b e h g =
      by_kind t (fun_ty a b) (option_and_then (λ x. option_map (λ y. Fun x y) (kind_of b)) (kind_of a)) e
      (kind-Fun a b) (fun_case (kind_of a) (kind_of b) h g)

  item_case : (a : Ty) (ks : List Kind) (o : Option Kind) (p : Option (List Kind)) → Names (type_texts o) →
      ((js : List Kind) → p ≡ Some js → Names (item_names (kinds js))) →
      option_and_then (λ k. option_map (λ js. k ∷ js) p) o ≡ Some ks → Names (item_names (kinds ks))
  item_case a ks (Some k) (Some js) h rest e =
      subst (λ (bs : List Kind). Names (item_names (kinds bs))) (same_some (k ∷ js) ks e)
      (All-append (IsTextAmong ts) (names_within k) (item_names (kinds js)) h (rest js refl))
  item_case a ks (Some k) None h rest e = absurd (none_some ks e)
  item_case a ks None p h rest e = absurd (none_some ks e)

  items_case : (as' : List Ty) (ks : List Kind) → AreTypesAmong ts as' → all_there (map kind_of as') ≡ Some ks →
      Names (item_names (kinds ks))
  items_case [] ks h e =
      subst (λ (bs : List Kind). Names (item_names (kinds bs))) (same_some [] ks e) nil
  items_case (a ∷ as') ks h e =
      item_case a ks (kind_of a) (all_there (map kind_of as')) h.0 (λ js f. items_case as' js h.1 f) e

  tup_case : (o : Option (List Kind)) → ((ks : List Kind) → o ≡ Some ks → Names (item_names (kinds ks))) →
      Names (type_texts (option_map (λ xs. Tup (kinds xs)) o))
  tup_case None h = nil
  tup_case (Some ks) h = h ks refl

  pub among-tup : (t : Ty) (as' bs : List Ty) → t ≡ tup_ty as' → bs ≡ as' → AreTypesAmong ts bs → IsTypeAmong ts t
  among-tup t as' bs e same h =
      by_kind t (tup_ty as') (option_map (λ xs. Tup (kinds xs)) (all_there (map kind_of as'))) e (kind-Tup as')
      (tup_case (all_there (map kind_of as')) (λ ks f. items_case as' ks (subst (AreTypesAmong ts) same h) f))

  -- ---- records

  split_names : (xs ys : List (List ℕ)) → Names (xs ++ ys) → Names xs × Names ys
  split_names [] ys q = (nil, q)
  split_names (z ∷ xs) ys q =
      let r = split_names xs ys (All-tail (IsTextAmong ts) z (xs ++ ys) q) in
      (All-cons (IsTextAmong ts) z xs (All-head (IsTextAmong ts) z (xs ++ ys) q) r.0, r.1)

  parts_of : (y : List ℕ) (b : Kind) (fs : Fields) → Names (all_field_names (more_fields y b fs)) →
      Names (names_within b) × Names (all_field_names fs)
  parts_of y b fs g =
      split_names (names_within b) (all_field_names fs)
      (All-tail (IsTextAmong ts) y (names_within b ++ all_field_names fs) g)

  put_case : (x y : List ℕ) (a b : Kind) (fs : Fields) (t : Bool) → IsTextAmong ts x → Names (names_within a) →
      Names (all_field_names (more_fields y b fs)) → Names (all_field_names (insert_field x a fs)) →
      Names (all_field_names (if t then more_fields x a (more_fields y b fs) else more_fields y b (insert_field x a fs)))
  put_case x y a b fs true p h g behind =
      All-cons (IsTextAmong ts) x (names_within a ++ all_field_names (more_fields y b fs)) p
      (All-append (IsTextAmong ts) (names_within a) (all_field_names (more_fields y b fs)) h g)
  put_case x y a b fs false p h g behind =
      All-cons (IsTextAmong ts) y (names_within b ++ all_field_names (insert_field x a fs))
      (All-head (IsTextAmong ts) y (names_within b ++ all_field_names fs) g)
      (All-append (IsTextAmong ts) (names_within b) (all_field_names (insert_field x a fs)) (parts_of y b fs g).0 behind)

  put_names : (x : List ℕ) (a : Kind) (fs : Fields) → IsTextAmong ts x → Names (names_within a) →
      Names (all_field_names fs) → Names (all_field_names (insert_field x a fs))
  put_names x a no_fields p h g =
      All-cons (IsTextAmong ts) x (names_within a ++ []) p (All-append (IsTextAmong ts) (names_within a) [] h g)
  put_names x a (more_fields y b fs) p h g =
      put_case x y a b fs (is_lt (text_cmp x y)) p h g (put_names x a fs p h (parts_of y b fs g).1)

  abbrev Kinded : Type 0
  Kinded = List ℕ × Kind

  field_case : (x : List ℕ) (js : List Kinded) (o : Option Kind) (p : Option (List Kinded)) → IsTextAmong ts x →
      Names (type_texts o) → ((is : List Kinded) → p ≡ Some is → Names (all_field_names (fields is))) →
      option_and_then (λ k. option_map (λ is. (x, k) ∷ is) p) o ≡ Some js → Names (all_field_names (fields js))
  field_case x js (Some k) (Some is) q h rest e =
      subst (λ (bs : List Kinded). Names (all_field_names (fields bs))) (same_some ((x, k) ∷ is) js e)
      (put_names x k (fields is) q h (rest is refl))
  field_case x js (Some k) None q h rest e = absurd (none_some js e)
  field_case x js None p q h rest e = absurd (none_some js e)

  fields_case : (fs : List (List ℕ × Ty)) (js : List Kinded) → AreFieldsAmong ts fs →
      all_fields_there (map (λ (f : List ℕ × Ty). (f.0, kind_of f.1)) fs) ≡ Some js → Names (all_field_names (fields js))
  fields_case [] js h e =
      subst (λ (bs : List Kinded). Names (all_field_names (fields bs))) (same_some [] js e) nil
  fields_case (f ∷ fs) js h e =
      field_case f.0 js (kind_of f.1) (all_fields_there (map (λ (g : List ℕ × Ty). (g.0, kind_of g.1)) fs)) h.0.0 h.0.1
      (λ is g. fields_case fs is h.1 g) e

  rec_case : (d : Bool) (o : Option (List Kinded)) → ((js : List Kinded) → o ≡ Some js → Names (all_field_names (fields js))) →
      Names (type_texts (if d then option_map (λ xs. Rec (fields xs)) o else None))
  rec_case true None h = nil
  rec_case true (Some js) h = h js refl
  rec_case false o h = nil

  pub among-rec : (t : Ty) (fs gs : List (List ℕ × Ty)) → t ≡ rec_ty fs None → gs ≡ fs → AreFieldsAmong ts gs →
      IsTypeAmong ts t
  among-rec t fs gs e same h =
      by_kind t (rec_ty fs None) (record_kind (map (λ (f : List ℕ × Ty). (f.0, kind_of f.1)) fs)) e (kind-Rec fs)
      (rec_case (are_distinct (map (λ f. f.0) (map (λ (f : List ℕ × Ty). (f.0, kind_of f.1)) fs)))
      (all_fields_there (map (λ (f : List ℕ × Ty). (f.0, kind_of f.1)) fs))
      (λ js f. fields_case fs js (subst (AreFieldsAmong ts) same h) f))

  -- ---- lists, walked

  push_types : (as' : List Ty) (a : Ty) → AreTypesAmong ts as' → IsTypeAmong ts a → AreTypesAmong ts (as' ++ a ∷ [])
  push_types [] a h one = (one, tt)
  push_types (b ∷ as') a h one = (h.0, push_types as' a h.1 one)

  pub types-more : (as' : List Ty) (i : ℕ) (a : Ty) → i < length as' → a ≡ get_or as' i a → AreTypesAmong ts (take i as') →
      IsTypeAmong ts a → AreTypesAmong ts (take (i + 1) as')
  types-more as' i a lt e h one =
      subst (AreTypesAmong ts) (ap (λ z. take i as' ++ z ∷ []) e ∙ sym (take_more as' i a lt))
      (push_types (take i as') a h one)

  pub types-all : (as' : List Ty) (i : ℕ) → length as' ≤ i → AreTypesAmong ts (take i as') → AreTypesAmong ts as'
  types-all as' i le h = subst (AreTypesAmong ts) (take_all i as' le) h

  push_fields : (fs : List (List ℕ × Ty)) (f : List ℕ × Ty) → AreFieldsAmong ts fs → IsTextAmong ts f.0 →
      IsTypeAmong ts f.1 → AreFieldsAmong ts (fs ++ f ∷ [])
  push_fields [] f h p q = ((p, q), tt)
  push_fields (g ∷ fs) f h p q = (h.0, push_fields fs f h.1 p q)

  pub fields-more : (fs : List (List ℕ × Ty)) (i : ℕ) (f : List ℕ × Ty) → i < length fs → f ≡ get_or fs i f →
      AreFieldsAmong ts (take i fs) → IsTextAmong ts f.0 → IsTypeAmong ts f.1 → AreFieldsAmong ts (take (i + 1) fs)
  fields-more fs i f lt e h p q =
      subst (AreFieldsAmong ts) (ap (λ z. take i fs ++ z ∷ []) e ∙ sym (take_more fs i f lt))
      (push_fields (take i fs) f h p q)

  pub fields-all : (fs : List (List ℕ × Ty)) (i : ℕ) → length fs ≤ i → AreFieldsAmong ts (take i fs) → AreFieldsAmong ts fs
  fields-all fs i le h = subst (AreFieldsAmong ts) (take_all i fs le) h
