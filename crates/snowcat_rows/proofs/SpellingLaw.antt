-- The text of a type is the layout of its spelling.
use Rattle.std.proofs.Common.{◌≡◌, ℕ, suc, List, [], ◌∷◌, ◌++◌, map, flat_map, length, refl, ap, sym, ◌∙◌, subst, codes, Option, Some, None, append_assoc, IsTrue, inl, inr, arith}
use Rattle.std.proofs.lemmas.Bool.Decides.{eqb_tells}
use Rattle.std.specs.Prelude.{option_map}
use Rattle.snowcat_rows.specs.Letters.{variable_text}
use Rattle.snowcat_rows.specs.declared.showing.Form.{Form}
use Rattle.snowcat_rows.specs.declared.showing.Form.TheVariants.{Operand, Function, Operator}
use Rattle.snowcat_rows.specs.declared.types.Ty.{Ty, out-Ty, roll-Ty, out-roll-Ty}
use Rattle.snowcat_rows.specs.declared.types.Ty.TheOpen as layer
use Rattle.snowcat_rows.specs.declared.types.Ty.TheFolds.{fold_out-Ty, ind-Ty, map-Ty}
use Rattle.snowcat_rows.specs.TypeTexts.{Syntax, Syntaxes, Fields, bool, int, str, named, variable, set, seq, function, tuple, record_of, constant, operator, end, more, last, also, pieces, is_formed, Fronts, KeepsFronts, Written, IsTypeText}
use Rattle.snowcat_rows.proofs.Layouts.{layout_written}
use Rattle.snowcat_rows.specs.Texts.{Shown, shown, type_text, form_of, text_layer, form_layer, operand_text, result_text, field_text, tail_text, text_field}
use Rattle.snowcat_rows.specs.Spellings.{Spelt, spelt, spelling, syntax_layer, left_of_arrow, right_of_arrow, both, others, other_fields, row_name, operator_of}
use Rattle.snowcat_rows.specs.inner.Layouts.{layout, more_layout, fields_layout, row_layout}

abbrev shown_opened : layer.Ty-F Ty → Shown
shown_opened o = let x = map-Ty Ty Shown shown o in record { text = text_layer x; form = form_layer x }

abbrev pub spelt_opened : layer.Ty-F Ty → Spelt
spelt_opened o = let x = map-Ty Ty Spelt spelt o in record { syntax_of = syntax_layer x; form = form_layer x }

shown_out : (t : Ty) → shown t ≡ shown_opened (out-Ty t)
unfolding shown
shown_out t = fold_out-Ty Shown (λ x. record { text = text_layer x; form = form_layer x }) t

pub spelt_out : (t : Ty) → spelt t ≡ spelt_opened (out-Ty t)
unfolding spelt
spelt_out t = fold_out-Ty Spelt (λ x. record { syntax_of = syntax_layer x; form = form_layer x }) t

-- what is claimed of a type
record Claim (t : Ty) : Type 0 where
  forms : (spelt t).form ≡ form_of t
  texts : (s : Syntax) → spelling t ≡ Some s → type_text t ≡ layout s

abbrev Such : Type 0
Such = (t : Ty) × Claim t

abbrev plain : Such → Ty
plain e = e.0

-- ---- options

pub got : {A B C : Type 0} (f : A → B → C) (a : Option A) (b : Option B) (c : C) → both f a b ≡ Some c → (x : A) × (y : B) × (a ≡ Some x) × (b ≡ Some y) × (f x y ≡ c)
got f (Some a) (Some b) c e = (a, b, refl, refl, cc)
got f (Some a) None c e = absurd (cc)
got f None (Some b) c e = absurd (cc)
got f None None c e = absurd (cc)

pub got_one : {A C : Type 0} (f : A → C) (a : Option A) (c : C) → option_map f a ≡ Some c → (x : A) × (a ≡ Some x) × (f x ≡ c)
got_one f (Some a) c e = (a, refl, cc)
got_one f None c e = absurd (cc)

-- ---- parts

left_is : (f g : Form) (x : List ℕ) (s : Syntax) → f ≡ g → x ≡ layout s → operand_text g x ≡ layout (left_of_arrow f s)
left_is f Operand x s e h = ap (operand_text Operand) h ∙ ap (λ z. layout (left_of_arrow z s)) (sym e)
left_is f Function x s e h = ap (operand_text Function) h ∙ ap (λ z. layout (left_of_arrow z s)) (sym e)
left_is f Operator x s e h = ap (operand_text Operator) h ∙ ap (λ z. layout (left_of_arrow z s)) (sym e)

right_is : (f g : Form) (x : List ℕ) (s : Syntax) → f ≡ g → x ≡ layout s → result_text g x ≡ layout (right_of_arrow f s)
right_is f Operand x s e h = ap (result_text Operand) h ∙ ap (λ z. layout (right_of_arrow z s)) (sym e)
right_is f Function x s e h = ap (result_text Function) h ∙ ap (λ z. layout (right_of_arrow z s)) (sym e)
right_is f Operator x s e h = ap (result_text Operator) h ∙ ap (λ z. layout (right_of_arrow z s)) (sym e)

abbrev texts_of : List Such → List (List ℕ)
texts_of ts = map (λ s. s.text) (map shown (map plain ts))

abbrev spelt_of : List Such → List Spelt
spelt_of ts = map spelt (map plain ts)

abbrev then_items : List (List ℕ) → List ℕ
then_items xs = flat_map (λ x. codes ", " ++ x) xs

others_are : (ts : List Such) (ss : Syntaxes) → others (spelt_of ts) ≡ Some ss → then_items (texts_of ts) ≡ more_layout ss
others_are [] ss e = ap more_layout (ended ss e)
  where
    ended : (ss : Syntaxes) → Some end ≡ Some ss → end ≡ ss
    ended ss e = cc
others_are (t ∷ ts) ss e =
    let g = got more (spelling t.0) (others (spelt_of ts)) ss e in
    ap (λ x. codes ", " ++ x ++ then_items (texts_of ts)) (t.1.texts g.0 g.2)
    ∙ ap (λ x. codes ", " ++ layout g.0 ++ x) (others_are ts g.1 g.3)
    ∙ ap more_layout g.4

abbrev Named : Type 0
Named = List ℕ × Such

abbrev plain_fields : List Named → List (List ℕ × Ty)
plain_fields fs = map (λ p. (p.0, plain p.1)) fs

abbrev shown_fields : List Named → List (List ℕ × Shown)
shown_fields fs = map (λ p. (p.0, shown p.1)) (plain_fields fs)

abbrev spelt_fields : List Named → List (List ℕ × Spelt)
spelt_fields fs = map (λ p. (p.0, spelt p.1)) (plain_fields fs)

abbrev then_fields : List (List ℕ × List ℕ) → List ℕ
then_fields fs = flat_map (λ f. codes ", " ++ field_text f) fs

field_is : (n x r : List ℕ) → codes ", " ++ (n ++ codes ": " ++ x) ++ r ≡ codes ", " ++ n ++ codes ": " ++ x ++ r
field_is n x r = ap (λ z. z ++ r) (sym (append_assoc (codes ", ") (n ++ codes ": ") x) ∙ ap (λ z. z ++ x) (sym (append_assoc (codes ", ") n (codes ": "))))

fields_are : (fs : List Named) (ss : Fields) → other_fields (spelt_fields fs) ≡ Some ss → then_fields (map text_field (shown_fields fs)) ≡ fields_layout ss
fields_are [] ss e = ap fields_layout (ended ss e)
  where
    ended : (ss : Fields) → Some last ≡ Some ss → last ≡ ss
    ended ss e = cc
fields_are (f ∷ fs) ss e =
    let g = got (also f.0) (spelling f.1.0) (other_fields (spelt_fields fs)) ss e in
    let rest = then_fields (map text_field (shown_fields fs)) in
    ap (λ x. codes ", " ++ (f.0 ++ codes ": " ++ x) ++ rest) (f.1.1.texts g.0 g.2)
    ∙ ap (λ x. codes ", " ++ (f.0 ++ codes ": " ++ layout g.0) ++ x) (fields_are fs g.1 g.3)
    ∙ field_is f.0 (layout g.0) (fields_layout g.1)
    ∙ ap fields_layout g.4

-- ---- a type by its layer

pub some_is : (a b : Syntax) → Some a ≡ Some b → a ≡ b
some_is a b e = cc

pub got_operator : (a : Option Syntax) (b : Option Syntaxes) (c : Option Syntax) (s : Syntax) → operator_of a b c ≡ Some s →
    (x : Syntax) × (y : Syntaxes) × (z : Syntax) × (a ≡ Some x) × (b ≡ Some y) × (c ≡ Some z) × (operator x y z ≡ s)
got_operator (Some x) b c s e = let g = got (λ xs u. operator x xs u) b c s e in (x, g.0, g.1, refl, g.2, g.3, g.4)
got_operator None b c s e = absurd (cc)

tail_is : (n : ℕ) (k : Option ℕ) → tail_text (suc n) k ≡ row_layout (row_name k)
tail_is n None = refl
tail_is n (Some r) = elim (eqb_tells (suc n) 0) [ inl k ↦ absurd (omega (arith, k.1)) | inr k ↦ rw k.0 refl ]

record_is : (n x ss k : List ℕ) → codes "{" ++ (n ++ codes ": " ++ x ++ ss) ++ k ++ codes "}" ≡ codes "{" ++ n ++ codes ": " ++ x ++ ss ++ k ++ codes "}"
record_is n x ss k =
    ap (λ z. z ++ k ++ codes "}")
    (sym (append_assoc (codes "{") (n ++ codes ": " ++ x) ss)
    ∙ ap (λ z. z ++ ss) (sym (append_assoc (codes "{") (n ++ codes ": ") x) ∙ ap (λ z. z ++ x) (sym (append_assoc (codes "{") n (codes ": ")))))

abbrev shown_at : layer.Ty-F Such → layer.Ty-F Shown
shown_at y = map-Ty Ty Shown shown (map-Ty Such Ty plain y)

abbrev spelt_at : layer.Ty-F Such → layer.Ty-F Spelt
spelt_at y = map-Ty Ty Spelt spelt (map-Ty Such Ty plain y)

forms_at : (y : layer.Ty-F Such) → form_layer (spelt_at y) ≡ form_layer (shown_at y)
forms_at layer.Bool = refl
forms_at layer.Int = refl
forms_at layer.Str = refl
forms_at (layer.Named x) = refl
forms_at (layer.Var n) = refl
forms_at (layer.Set a) = refl
forms_at (layer.Seq a) = refl
forms_at (layer.Fun a b) = refl
forms_at (layer.Tup ts) = refl
forms_at (layer.Rec fs k) = refl
forms_at (layer.Oper ts b) = refl

texts_at : (y : layer.Ty-F Such) (s : Syntax) → syntax_layer (spelt_at y) ≡ Some s → text_layer (shown_at y) ≡ layout s
texts_at layer.Bool s e = ap layout (some_is bool s e)
texts_at layer.Int s e = ap layout (some_is int s e)
texts_at layer.Str s e = ap layout (some_is str s e)
texts_at (layer.Named x) s e = ap layout (some_is (named x) s e)
texts_at (layer.Var n) s e = ap layout (some_is (variable (variable_text n)) s e)
texts_at (layer.Set a) s e =
    let g = got_one set (spelling a.0) s e in
    ap (λ x. codes "Set(" ++ x ++ codes ")") (a.1.texts g.0 g.1) ∙ ap layout g.2
texts_at (layer.Seq a) s e =
    let g = got_one seq (spelling a.0) s e in
    ap (λ x. codes "Seq(" ++ x ++ codes ")") (a.1.texts g.0 g.1) ∙ ap layout g.2
texts_at (layer.Fun a b) s e =
    let x = a.0 in
    let y = b.0 in
    let g = got (λ u v. function (left_of_arrow (spelt x).form u) (right_of_arrow (spelt y).form v)) (spelling x) (spelling y) s e in
    ap (λ z. z ++ codes " -> " ++ result_text (form_of y) (type_text y)) (left_is (spelt x).form (form_of x) (type_text x) g.0 a.1.forms (a.1.texts g.0 g.2))
    ∙ ap (λ z. layout (left_of_arrow (spelt x).form g.0) ++ codes " -> " ++ z) (right_is (spelt y).form (form_of y) (type_text y) g.1 b.1.forms (b.1.texts g.1 g.3))
    ∙ ap layout g.4
texts_at (layer.Tup []) s e = absurd (cc)
texts_at (layer.Tup (t ∷ ts)) s e =
    let g = got tuple (spelling t.0) (others (spelt_of ts)) s e in
    ap (λ x. codes "<<" ++ (x ++ then_items (texts_of ts)) ++ codes ">>") (t.1.texts g.0 g.2)
    ∙ ap (λ x. codes "<<" ++ (layout g.0 ++ x) ++ codes ">>") (others_are ts g.1 g.3)
    ∙ ap (λ x. x ++ codes ">>") (sym (append_assoc (codes "<<") (layout g.0) (more_layout g.1)))
    ∙ ap layout g.4
texts_at (layer.Rec [] k) s e = absurd (cc)
texts_at (layer.Rec (f ∷ fs) k) s e =
    let g = got (λ u us. record_of f.0 u us (row_name k)) (spelling f.1.0) (other_fields (spelt_fields fs)) s e in
    let tail = tail_text (suc (length (shown_fields fs))) k in
    let rest = then_fields (map text_field (shown_fields fs)) in
    ap (λ x. codes "{" ++ (f.0 ++ codes ": " ++ x ++ rest) ++ tail ++ codes "}") (f.1.1.texts g.0 g.2)
    ∙ ap (λ x. codes "{" ++ (f.0 ++ codes ": " ++ layout g.0 ++ x) ++ tail ++ codes "}") (fields_are fs g.1 g.3)
    ∙ ap (λ x. codes "{" ++ (f.0 ++ codes ": " ++ layout g.0 ++ fields_layout g.1) ++ x ++ codes "}") (tail_is (length (shown_fields fs)) k)
    ∙ record_is f.0 (layout g.0) (fields_layout g.1) (row_layout (row_name k))
    ∙ ap layout g.4
texts_at (layer.Oper [] b) s e =
    let g = got_one constant (spelling b.0) s e in
    ap (λ x. codes "() => " ++ x) (b.1.texts g.0 g.1) ∙ ap layout g.2
texts_at (layer.Oper (t ∷ ts) b) s e =
    let g = got_operator (spelling t.0) (others (spelt_of ts)) (spelling b.0) s e in
    ap (λ x. codes "(" ++ (x ++ then_items (texts_of ts)) ++ codes ") => " ++ type_text b.0) (t.1.texts g.0 g.3)
    ∙ ap (λ x. codes "(" ++ (layout g.0 ++ x) ++ codes ") => " ++ type_text b.0) (others_are ts g.1 g.4)
    ∙ ap (λ x. x ++ codes ") => " ++ type_text b.0) (sym (append_assoc (codes "(") (layout g.0) (more_layout g.1)))
    ∙ ap (λ x. codes "(" ++ layout g.0 ++ more_layout g.1 ++ codes ") => " ++ x) (b.1.texts g.2 g.5)
    ∙ ap layout g.6

all_claims : (t : Ty) → Claim t
all_claims = ind-Ty Claim (λ x y is.
    let o : out-Ty (roll-Ty x) ≡ map-Ty Such Ty plain y = out-roll-Ty x ∙ sym is in
    let here : spelt (roll-Ty x) ≡ spelt_opened (map-Ty Such Ty plain y) = spelt_out (roll-Ty x) ∙ ap spelt_opened o in
    let there : shown (roll-Ty x) ≡ shown_opened (map-Ty Such Ty plain y) = shown_out (roll-Ty x) ∙ ap shown_opened o in
    record {
      forms = ap (λ z. z.form) here ∙ forms_at y ∙ sym (ap (λ z. z.form) there);
      texts = λ s e. ap (λ z. z.text) there ∙ texts_at y s (sym (ap (λ z. z.syntax_of) here) ∙ e);
    })

-- the text of a type that has a spelling is written so
pub spelled : (t : Ty) (s : Syntax) → spelling t ≡ Some s → IsTrue (is_formed s) → (l : Fronts) → KeepsFronts l s → IsTypeText (type_text t) s
spelled t s e f l k = record {
  formed = f;
  written = let P : List ℕ → Type 0 = λ z. Written (pieces s) z in subst P (sym ((all_claims t).texts s e)) (layout_written s);
  fronts = (l, k);
}
