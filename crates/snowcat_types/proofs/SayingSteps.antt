-- The steps of reading the text of an annotation.
use Rattle.std.proofs.Common.{◌≡◌, ℕ, zero, suc, ◌-◌, ◌<◌, ◌≤◌, Bool, true, false, true≢false, List, [], ◌∷◌, length, get_or, map, refl, ap, sym, ◌∙◌, subst, arith, Option, Some, None}
use Rattle.std.specs.Prelude.{option_map, ◌&&◌, IfSome, MatchOption}
use Rattle.std.specs.Bool.{MatchBool}
use Rattle.std.specs.List.{list_all}
use Rattle.tla_meaning.specs.declared.expr.Decl.{Decl}
use Rattle.snowcat_rows.specs.declared.faults.TypeTextFault.{TypeTextFault}
use Rattle.snowcat_rows.specs.declared.types.Ty.{Ty, out-Ty, roll-Ty, roll-out-Ty, Oper}
use Rattle.snowcat_rows.specs.declared.types.Ty.TheVariants.{outs-Oper}
use Rattle.snowcat_rows.specs.declared.types.Ty.TheOpen as layer
use Rattle.snowcat_rows.specs.declared.types.Ty.TheFolds.{map-Ty}
use Rattle.snowcat_rows.specs.Types.{Term, con, app, mean, mean_layer, row, OperHead}
use Rattle.snowcat_rows.specs.FieldNames.{names_differ}
use Rattle.snowcat_rows.specs.Operators.{HasNoOperator}
use Rattle.snowcat_rows.specs.Readings.{Known, Knows, IsFaultOf, IsReadBy, WantsMemory}
use Rattle.tla_meaning.proofs.Views.{and_left, and_right}
use Rattle.snowcat_rows.proofs.Means.{mean_out}
use Rattle.snowcat_rows.proofs.Naming.{differ-Oper}
use Rattle.snowcat_rows.proofs.ReadingLaws.{fault_of_none, same_known}
use Rattle.snowcat_types.specs.Annotated.{Aliases, annotation_of, Binds, IsNameType, IsReadWith, OperatorAtRootAlone, Says, nth_of, part_of}
use Rattle.snowcat_types.specs.inner.Gathered.{IsNamed, NoteNamed}
use Rattle.snowcat_types.specs.inner.Telling.{IsNameRead, IsNumbered, IsRead, IsSaid}
use Rattle.snowcat_types.proofs.OneReading.{read_the_same, same_numbered, some_same}

-- ---- reading

pub not_read : (al : Aliases) (k : Known) (text : List ℕ) (f : TypeTextFault) → Knows [] al k → IsFaultOf k text f → (WantsMemory f → ⊥) →
    (t : Term) (n : ℕ) → IsReadWith al text t n → ⊥
not_read al k text f h g never t n (j, i, r) =
    let P : Known → Type 0 = λ z. IsReadBy z text t n in
    never (fault_of_none k text f t n g (subst P (same_known al [] j k i h) r))

-- ---- declared names

pub nameless : (al : Aliases) (d : Decl) → annotation_of d.note ≡ None → (t : Term × ℕ) → IsNameType al d t → ⊥
nameless al d e t h = let f : Some h.text ≡ None = sym h.written ∙ e in cc

pub name_unread : (al : Aliases) (d : Decl) (text : List ℕ) → annotation_of d.note ≡ Some text → ((t : Term) (n : ℕ) → IsReadWith al text t n → ⊥) →
    (t : Term × ℕ) → IsNameType al d t → ⊥
name_unread al d text e never t h =
    let P : List ℕ → Type 0 = λ z. IsReadWith al z t.0 t.1 in
    never t.0 t.1 (subst P (some_same h.text text (sym h.written ∙ e)) h.read_with)

pub name_operator : (al : Aliases) (d : Decl) (text : List ℕ) (u : Term) (m : ℕ) → annotation_of d.note ≡ Some text → IsReadWith al text u m →
    (HasNoOperator u → ⊥) → (t : Term × ℕ) → IsNameType al d t → ⊥
name_operator al d text u m e r never t h =
    let P : List ℕ → Type 0 = λ z. IsReadWith al z t.0 t.1 in
    let same = read_the_same al text t.0 u t.1 m (subst P (some_same h.text text (sym h.written ∙ e)) h.read_with) r in
    never (subst HasNoOperator same.0 h.no_operator)

pub is_name_type : (al : Aliases) (d : Decl) (text : List ℕ) (t : Term × ℕ) → annotation_of d.note ≡ Some text → IsReadWith al text t.0 t.1 →
    HasNoOperator t.0 → IsNameType al d t
is_name_type al d text t e r o = record { text = text; written = e; read_with = r; no_operator = o }

pub name_told : (al : Aliases) (d : Decl) (bytes text : List ℕ) (o : Option (Ty × ℕ)) (read : Ty × ℕ) (r : Option (Ty × ℕ)) → bytes ≡ d.note →
    annotation_of bytes ≡ Some text → IsRead al text o → o ≡ Some read →
    MatchOption r (HasNoOperator (mean read.0) → ⊥) (λ x. (x ≡ read) × HasNoOperator (mean read.0)) → IsNameRead al d r
name_told al d bytes text o read None b e h is never =
    let k : IsRead al text (Some read) = subst (λ (z : Option (Ty × ℕ)). IsRead al text z) is h in
    name_operator al d text (mean read.0) read.1 (ap annotation_of (sym b) ∙ e) k.0 never
name_told al d bytes text o read (Some x) b e h is both =
    let k : IsRead al text (Some read) = subst (λ (z : Option (Ty × ℕ)). IsRead al text z) is h in
    let P : Ty × ℕ → Type 0 = λ z. IsNameRead al d (Some z) in
    subst P (sym both.0) (is_name_type al d text (mean read.0, read.1) (ap annotation_of (sym b) ∙ e) k.0 both.1, k.1)

pub name_untold : (al : Aliases) (d : Decl) (bytes text : List ℕ) (o : Option (Ty × ℕ)) → bytes ≡ d.note →
    annotation_of bytes ≡ Some text → IsRead al text o → o ≡ None → (t : Term × ℕ) → IsNameType al d t → ⊥
name_untold al d bytes text o b e h is =
    let k : IsRead al text None = subst (λ (z : Option (Ty × ℕ)). IsRead al text z) is h in
    name_unread al d text (ap annotation_of (sym b) ∙ e) k

-- ---- notes

pub unnumbered : (al : Aliases) (text : List ℕ) → ((n : ℕ) (t : List ℕ) → IsNumbered text n t → ⊥) → (o : Option Term) → Says al text o → ⊥
unnumbered al text never o h = never h.number h.annotation (h.small, h.is_numbered)

module _ (al : Aliases) (text : List ℕ) (n : ℕ) (annotation : List ℕ) (is : IsNumbered text n annotation) where
  same_annotation : (o : Option Term) (h : Says al text o) → h.annotation ≡ annotation
  same_annotation o h = (same_numbered h.number n h.annotation annotation h.small is.0 (sym h.is_numbered ∙ is.1)).1

  pub note_unread : ((t : Term) (m : ℕ) → IsReadWith al annotation t m → ⊥) → (o : Option Term) → Says al text o → ⊥
  note_unread never o h =
      let P : List ℕ → Type 0 = λ z. IsReadWith al z h.type h.whole.0.0 in
      never h.type h.whole.0.0 (subst P (same_annotation o h) h.whole.0.1)

  pub note_operator : (u : Term) (m : ℕ) → IsReadWith al annotation u m → (OperatorAtRootAlone u → ⊥) → (o : Option Term) → Says al text o → ⊥
  note_operator u m r never o h =
      let P : List ℕ → Type 0 = λ z. IsReadWith al z h.type h.whole.0.0 in
      let same = read_the_same al annotation h.type u h.whole.0.0 m (subst P (same_annotation o h) h.whole.0.1) r in
      never (subst OperatorAtRootAlone same.0 h.whole.1)

  pub note_says : (u : Term) (m : ℕ) (o : Option Term) → IsReadWith al annotation u m → OperatorAtRootAlone u → Binds n u o → Says al text o
  note_says u m o r w b = record {
    number = n;
    annotation = annotation;
    small = is.0;
    is_numbered = is.1;
    type = u;
    whole = ((m, r), w);
    binds = b;
  }

pub split_is : {X : Type 0} → (f : X → List ℕ) (text : List ℕ) (r : Option (ℕ × X)) (x : ℕ × X) → r ≡ Some x →
    MatchOption r ((n : ℕ) (t : List ℕ) → IsNumbered text n t → ⊥) (λ y. IsNumbered text y.0 (f y.1)) → IsNumbered text x.0 (f x.1)
split_is {X} f text None x e h = absurd (let g : None ≡ Some x = e in cc)
split_is {X} f text (Some y) x e h =
    let same : y ≡ x = some_same y x e in
    subst (λ (z : ℕ × X). IsNumbered text z.0 (f z.1)) same h

pub said_is : (al : Aliases) (text annotation : List ℕ) (n : ℕ) (o : Option (Ty × ℕ)) (read : Ty × ℕ) (r : Option (Option Ty)) →
    IsNumbered text n annotation →
    IsRead al annotation o → o ≡ Some read →
    MatchOption r (OperatorAtRootAlone (mean read.0) → ⊥) (λ x. OperatorAtRootAlone (mean read.0) × Binds n (mean read.0) (option_map mean x)) →
    (IsNamed read.0 → IfSome r NoteNamed) → IsSaid al text r
said_is al text annotation n o read None i h is never m =
    let k : IsRead al annotation (Some read) = subst (λ (z : Option (Ty × ℕ)). IsRead al annotation z) is h in
    note_operator al text n annotation i (mean read.0) read.1 k.0 never
said_is al text annotation n o read (Some x) i h is both m =
    let k : IsRead al annotation (Some read) = subst (λ (z : Option (Ty × ℕ)). IsRead al annotation z) is h in
    (note_says al text n annotation i (mean read.0) read.1 (option_map mean x) k.0 both.0 both.1, m k.1)

pub unsaid : (al : Aliases) (text annotation : List ℕ) (n : ℕ) (o : Option (Ty × ℕ)) → IsNumbered text n annotation → IsRead al annotation o →
    o ≡ None →
    (b : Option Term) → Says al text b → ⊥
unsaid al text annotation n o i h is =
    let k : IsRead al annotation None = subst (λ (z : Option (Ty × ℕ)). IsRead al annotation z) is h in
    note_unread al text n annotation i k

-- ---- the parts of a definition's type

abbrev pub is_operator : Term → Bool
is_operator (app (con OperHead) (app r b)) = true
is_operator t = false

pub plain_whole : (t : Term) → is_operator t ≡ false → OperatorAtRootAlone t → HasNoOperator t
plain_whole (app (con OperHead) (app r b)) e h = absurd (true≢false e)
plain_whole t e h = h

pub whole_plain : (t : Term) → is_operator t ≡ false → HasNoOperator t → OperatorAtRootAlone t
whole_plain (app (con OperHead) (app r b)) e h = absurd (true≢false e)
whole_plain t e h = h

pub plain_result : (t : Term) → is_operator t ≡ false → part_of zero t ≡ Some t
plain_result (app (con OperHead) (app r b)) e = absurd (true≢false e)
plain_result t e = refl

pub plain_argument : (t : Term) (i : ℕ) → is_operator t ≡ false → part_of (suc i) t ≡ None
plain_argument (app (con OperHead) (app r b)) i e = absurd (true≢false e)
plain_argument t i e = refl

pub operator_result : (n : ℕ) (r b : Term) → n ≤ 0 → part_of n (app (con OperHead) (app r b)) ≡ Some b
operator_result zero r b h = refl
operator_result (suc n) r b h = absurd (omega (arith, h))

pub operator_argument : (n : ℕ) (r b : Term) → 0 < n → part_of n (app (con OperHead) (app r b)) ≡ nth_of r (n - 1)
operator_argument zero r b h = absurd (omega (arith, h))
operator_argument (suc n) r b h = let e : n ≡ suc n - 1 = omega arith in ap (nth_of r) e

pub plain_at : (n : ℕ) (t : Term) → is_operator t ≡ false → (n ≤ 0 → part_of n t ≡ Some t) × (0 < n → part_of n t ≡ None)
plain_at zero t e = ((λ h. plain_result t e), λ h. absurd (omega (arith, h)))
plain_at (suc n) t e = ((λ h. absurd (omega (arith, h))), λ h. plain_argument t n e)

item_at : (ts : List Ty) (i : ℕ) (t : Ty) → i < length ts → t ≡ get_or ts i t → Some (mean t) ≡ nth_of (row (map mean ts)) i
item_at [] i t lt e = absurd (omega (arith, lt))
item_at (x ∷ ts) zero t lt e = ap (λ z. Some (mean z)) e
item_at (x ∷ ts) (suc i) t lt e = item_at ts i t (omega (arith, lt)) e

nothing_at : (ts : List Ty) (i : ℕ) → length ts ≤ i → None ≡ nth_of (row (map mean ts)) i
nothing_at [] i le = refl
nothing_at (x ∷ ts) zero le = absurd (omega (arith, le))
nothing_at (x ∷ ts) (suc i) le = nothing_at ts i (omega (arith, le))

item_named : (ts : List Ty) (i : ℕ) (t : Ty) → i < length ts → t ≡ get_or ts i t → list_all names_differ ts ≡ true → IsNamed t
item_named [] i t lt e h = absurd (omega (arith, lt))
item_named (x ∷ ts) zero t lt e h = ap names_differ e ∙ and_left (names_differ x) (list_all names_differ ts) h
item_named (x ∷ ts) (suc i) t lt e h = item_named ts i t (omega (arith, lt)) e (and_right (names_differ x) (list_all names_differ ts) h)

-- a form that is no operator's
pub not_operator : (t : Ty) → ((ts : List Ty) (b : Ty) → t ≡ Oper ts b → ⊥) → is_operator (mean t) ≡ false
not_operator t never = ap is_operator (mean_out t) ∙ by_form (out-Ty t) refl
  where
    by_form : (o : layer.Ty-F Ty) → out-Ty t ≡ o → is_operator (mean_layer (map-Ty Ty Term mean o)) ≡ false
    by_form (layer.Oper ts b) e = absurd (never ts b (sym (roll-out-Ty t) ∙ ap roll-Ty (e ∙ sym (outs-Oper ts b)) ∙ roll-out-Ty (Oper ts b)))
    by_form o e = refl

pub whole_match : (b : Bool) (t : Term) → is_operator t ≡ false → MatchBool b (HasNoOperator t) (HasNoOperator t → ⊥) →
    MatchBool b (OperatorAtRootAlone t) (OperatorAtRootAlone t → ⊥)
whole_match true t e h = whole_plain t e h
whole_match false t e h = λ w. h (plain_whole t e w)

oper_differs : (t : Ty) (ts : List Ty) (b : Ty) → t ≡ Oper ts b → IsNamed t → (list_all names_differ ts && names_differ b) ≡ true
oper_differs t ts b e h = sym (differ-Oper ts b) ∙ ap names_differ (sym e) ∙ h

pub arguments_named : (t : Ty) (ts : List Ty) (b : Ty) → t ≡ Oper ts b → IsNamed t → list_all names_differ ts ≡ true
arguments_named t ts b e h = and_left (list_all names_differ ts) (names_differ b) (oper_differs t ts b e h)

pub result_named : (t : Ty) (ts : List Ty) (b : Ty) → t ≡ Oper ts b → IsNamed t → IsNamed b
result_named t ts b e h = and_right (list_all names_differ ts) (names_differ b) (oper_differs t ts b e h)

pub nth_item : (ts us : List Ty) (i : ℕ) (t : Ty) → us ≡ ts → i < length us → t ≡ get_or us i t → Some (mean t) ≡ nth_of (row (map mean ts)) i
nth_item ts us i t e lt h = item_at us i t lt h ∙ ap (λ z. nth_of (row (map mean z)) i) e

pub nth_none : (ts us : List Ty) (i : ℕ) → us ≡ ts → length us ≤ i → None ≡ nth_of (row (map mean ts)) i
nth_none ts us i e le = nothing_at us i le ∙ ap (λ z. nth_of (row (map mean z)) i) e
