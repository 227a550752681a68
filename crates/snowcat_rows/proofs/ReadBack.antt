-- What is shown of a type is read back.
use Rattle.std.proofs.Common.{◌≡◌, ℕ, suc, true, inl, inr, List, [], ◌∷◌, ◌++◌, map, refl, ap, sym, ◌∙◌, subst, Option, Some, None, append_assoc}
use Rattle.std.specs.Prelude.{option_map, bytes_eq}
use Rattle.std.proofs.lemmas.Bool.{cases_Bool}
use Rattle.std.proofs.lemmas.List.{append-nil}
use Rattle.snowcat_rows.specs.declared.marks.Seen.{Seen}
use Rattle.snowcat_rows.specs.declared.marks.Seen.TheVariants as seen
use Rattle.snowcat_rows.specs.declared.showing.Form.{Form}
use Rattle.snowcat_rows.specs.declared.showing.Form.TheVariants.{Operand, Function, Operator}
use Rattle.snowcat_rows.specs.declared.types.Ty.{Ty, out-Ty, roll-Ty, out-roll-Ty}
use Rattle.snowcat_rows.specs.declared.types.Ty.TheOpen as layer
use Rattle.snowcat_rows.specs.declared.types.Ty.TheFolds.{ind-Ty, map-Ty}
use Rattle.snowcat_rows.specs.Letters.{variable_text}
use Rattle.snowcat_rows.specs.Types.{Term, var, con, app, fields, row, lookup, mean, mean_layer, SetHead, SeqHead, FunHead, TupHead, OperHead}
use Rattle.snowcat_rows.specs.TypeTexts.{Syntax, Syntaxes, Fields, bool, int, str, named, variable, alias, set, seq, function, tuple, record_of, constant, operator, parens, end, more, last, also, names_of, IsTypeText}
use Rattle.snowcat_rows.specs.Texts.{type_text}
use Rattle.snowcat_rows.specs.Spellings.{Spelt, spelt, spelling, syntax_layer, left_of_arrow, right_of_arrow, others, other_fields, row_name}
use Rattle.snowcat_rows.specs.Readings.{Known, find, number, noted, same_seen, own, zipped, read, read_all, read_fields, read_alias, read_row, unknown, unknown_all, unknown_fields, or_first, IsReadAs}
use Rattle.snowcat_rows.specs.Renamings.{renamed_slot}
use Rattle.snowcat_rows.specs.inner.Shown.{shown_type, shown_row, by_numbers}
use Rattle.snowcat_rows.proofs.Means.{mean_out}
use Rattle.snowcat_rows.proofs.Words.{itself, same_bytes}
use Rattle.snowcat_rows.proofs.SpellingLaw.{spelt_opened, spelt_out, got, got_one, got_operator, some_is}

-- ---- numbers stay

abbrev Begins : List Seen → List Seen → Type 0
Begins xs ys = (zs : List Seen) × (ys ≡ xs ++ zs)

further : (xs ys zs : List Seen) → Begins xs ys → Begins ys zs → Begins xs zs
further xs ys zs (a, e) (b, f) = (a ++ b, f ∙ ap (λ z. z ++ b) e ∙ append_assoc xs a b)

same : (xs : List Seen) → Begins xs xs
same xs = ([], sym (append-nil xs))

noted_begins : (v : Seen) (ns : List Seen) → Begins ns (noted v ns)
noted_begins v [] = (v ∷ [], refl)
noted_begins v (w ∷ ws) = elim (cases_Bool (same_seen w v)) [
  | inl e ↦ ([], (let q : noted v (w ∷ ws) ≡ w ∷ ws = rw e refl in q ∙ sym (append-nil (w ∷ ws))))
  | inr e ↦ let r = noted_begins v ws in (r.0, (let q : noted v (w ∷ ws) ≡ w ∷ noted v ws = rw e refl in q ∙ ap (λ z. w ∷ z) r.1))
]

alias_begins : (a : Option (Term × ℕ)) (ns : List Seen) → Begins ns (read_alias a ns).1
alias_begins None ns = same ns
alias_begins (Some a) ns = (own a.1, refl)

row_begins : (k : Option (List ℕ)) (ns : List Seen) → Begins ns (read_row k ns).1
row_begins None ns = same ns
row_begins (Some r) ns = noted_begins (seen.Row r) ns

mutual
  grows : (k : Known) (s : Syntax) (ns : List Seen) → Begins ns (read k s ns).1
  grows k bool ns = same ns
  grows k int ns = same ns
  grows k str ns = same ns
  grows k (named x) ns = same ns
  grows k (variable x) ns = noted_begins (seen.Type x) ns
  grows k (alias x) ns = alias_begins (find k x) ns
  grows k (set s) ns = grows k s ns
  grows k (seq s) ns = grows k s ns
  grows k (function s t) ns = let r = (read k s ns).1 in further ns r (read k t r).1 (grows k s ns) (grows k t r)
  grows k (tuple s ss) ns = let r = (read k s ns).1 in further ns r (read_all k ss r).1 (grows k s ns) (all_grow k ss r)
  grows k (record_of n s fs j) ns =
      let r = (read k s ns).1 in
      let q = (read_fields k fs r).1 in
      further ns q (read_row j q).1 (further ns r q (grows k s ns) (fields_grow k fs r)) (row_begins j q)
  grows k (constant t) ns = grows k t ns
  grows k (operator s ss t) ns =
      let r = (read k s ns).1 in
      let q = (read_all k ss r).1 in
      further ns q (read k t q).1 (further ns r q (grows k s ns) (all_grow k ss r)) (grows k t q)
  grows k (parens s) ns = grows k s ns

  all_grow : (k : Known) (ss : Syntaxes) (ns : List Seen) → Begins ns (read_all k ss ns).1
  all_grow k end ns = same ns
  all_grow k (more s ss) ns = let r = (read k s ns).1 in further ns r (read_all k ss r).1 (grows k s ns) (all_grow k ss r)

  fields_grow : (k : Known) (fs : Fields) (ns : List Seen) → Begins ns (read_fields k fs ns).1
  fields_grow k last ns = same ns
  fields_grow k (also n s fs) ns = let r = (read k s ns).1 in further ns r (read_fields k fs r).1 (grows k s ns) (fields_grow k fs r)

number_stays : (v : Seen) → same_seen v v ≡ true → (ns zs : List Seen) → number v (noted v ns ++ zs) ≡ number v ns
number_stays v h [] zs = rw h refl
number_stays v h (w ∷ ws) zs = elim (cases_Bool (same_seen w v)) [ inl e ↦ rw e (rw e refl) | inr e ↦ rw e (rw e (ap (λ z. suc z) (number_stays v h ws zs))) ]

number_is : (v : Seen) → same_seen v v ≡ true → (ns N : List Seen) → Begins (noted v ns) N → number v ns ≡ number v N
number_is v h ns N (zs, e) = sym (number_stays v h ns zs) ∙ ap (λ z. number v z) (sym e)

-- ---- what is claimed of a type

record Claim (t : Ty) : Type 0 where
  terms : (s : Syntax) → spelling t ≡ Some s → (k : Known) (ns N : List Seen) → Begins (read k s ns).1 N → (read k s ns).0 ≡ by_numbers N (mean t)
  plainly : (s : Syntax) → spelling t ≡ Some s → (k : Known) → unknown k s ≡ None

abbrev Such : Type 0
Such = (t : Ty) × Claim t

abbrev plain : Such → Ty
plain e = e.0

abbrev spelt_of : List Such → List Spelt
spelt_of ts = map spelt (map plain ts)

abbrev means_of : List Such → List Term
means_of ts = map mean (map plain ts)

no_unknown : (x y : Option (List ℕ)) → x ≡ None → y ≡ None → or_first x y ≡ None
no_unknown None y e f = f
no_unknown (Some x) y e f = absurd (cc)

rows_renamed : (N : List Seen) (ts : List Term) → row (map (λ t. by_numbers N t) ts) ≡ by_numbers N (row ts)
rows_renamed N [] = refl
rows_renamed N (t ∷ ts) = ap (λ z. app (by_numbers N t) z) (rows_renamed N ts)

ended_all : (ss : Syntaxes) → Some end ≡ Some ss → end ≡ ss
ended_all ss e = cc

ended_fields : (ss : Fields) → Some last ≡ Some ss → last ≡ ss
ended_fields ss e = cc

all_terms : (ts : List Such) (ss : Syntaxes) → others (spelt_of ts) ≡ Some ss → (k : Known) (ns N : List Seen) → Begins (read_all k ss ns).1 N →
    (read_all k ss ns).0 ≡ map (λ t. by_numbers N t) (means_of ts)
all_terms [] ss e k ns N b = ap (λ z. (read_all k z ns).0) (sym (ended_all ss e))
all_terms (t ∷ ts) ss e k ns N b =
    let g = got more (spelling t.0) (others (spelt_of ts)) ss e in
    let r = (read k g.0 ns).1 in
    let P : Syntaxes → Type 0 = λ z. Begins (read_all k z ns).1 N in
    let c = subst P (sym g.4) b in
    ap (λ z. (read_all k z ns).0) (sym g.4)
    ∙ ap (λ z. z ∷ (read_all k g.1 r).0) (t.1.terms g.0 g.2 k ns N (further r (read_all k g.1 r).1 N (all_grow k g.1 r) c))
    ∙ ap (λ z. by_numbers N (mean t.0) ∷ z) (all_terms ts g.1 g.3 k r N c)

all_plainly : (ts : List Such) (ss : Syntaxes) → others (spelt_of ts) ≡ Some ss → (k : Known) → unknown_all k ss ≡ None
all_plainly [] ss e k = ap (λ z. unknown_all k z) (sym (ended_all ss e))
all_plainly (t ∷ ts) ss e k =
    let g = got more (spelling t.0) (others (spelt_of ts)) ss e in
    ap (λ z. unknown_all k z) (sym g.4) ∙ no_unknown (unknown k g.0) (unknown_all k g.1) (t.1.plainly g.0 g.2 k) (all_plainly ts g.1 g.3 k)

abbrev Named : Type 0
Named = List ℕ × Such

abbrev plain_fields : List Named → List (List ℕ × Ty)
plain_fields fs = map (λ p. (p.0, plain p.1)) fs

abbrev spelt_fields : List Named → List (List ℕ × Spelt)
spelt_fields fs = map (λ p. (p.0, spelt p.1)) (plain_fields fs)

abbrev means_fields : List Named → List (List ℕ × Term)
means_fields fs = map (λ p. (p.0, mean p.1)) (plain_fields fs)

abbrev renamed_fields : List Seen → List (List ℕ × Term) → List (List ℕ × Term)
renamed_fields N fs = map (λ p. (p.0, by_numbers N p.1)) fs

zipped_terms : (fs : List Named) (ss : Fields) → other_fields (spelt_fields fs) ≡ Some ss → (k : Known) (ns N : List Seen) → Begins (read_fields k ss ns).1 N →
    zipped (names_of ss) (read_fields k ss ns).0 ≡ renamed_fields N (means_fields fs)
zipped_terms [] ss e k ns N b = ap (λ z. zipped (names_of z) (read_fields k z ns).0) (sym (ended_fields ss e))
zipped_terms (f ∷ fs) ss e k ns N b =
    let g = got (also f.0) (spelling f.1.0) (other_fields (spelt_fields fs)) ss e in
    let r = (read k g.0 ns).1 in
    let P : Fields → Type 0 = λ z. Begins (read_fields k z ns).1 N in
    let c = subst P (sym g.4) b in
    ap (λ z. zipped (names_of z) (read_fields k z ns).0) (sym g.4)
    ∙ ap (λ z. (f.0, z) ∷ zipped (names_of g.1) (read_fields k g.1 r).0) (f.1.1.terms g.0 g.2 k ns N (further r (read_fields k g.1 r).1 N (fields_grow k g.1 r) c))
    ∙ ap (λ z. (f.0, by_numbers N (mean f.1.0)) ∷ z) (zipped_terms fs g.1 g.3 k r N c)

fields_plainly : (fs : List Named) (ss : Fields) → other_fields (spelt_fields fs) ≡ Some ss → (k : Known) → unknown_fields k ss ≡ None
fields_plainly [] ss e k = ap (λ z. unknown_fields k z) (sym (ended_fields ss e))
fields_plainly (f ∷ fs) ss e k =
    let g = got (also f.0) (spelling f.1.0) (other_fields (spelt_fields fs)) ss e in
    ap (λ z. unknown_fields k z) (sym g.4) ∙ no_unknown (unknown k g.0) (unknown_fields k g.1) (f.1.1.plainly g.0 g.2 k) (fields_plainly fs g.1 g.3 k)

lookup_renamed : (N : List Seen) (fs : List (List ℕ × Term)) (x : List ℕ) →
    lookup (renamed_fields N fs) x ≡ renamed_slot (λ n. number (shown_type n) N) (λ n. number (shown_row n) N) (lookup fs x)
lookup_renamed N [] x = refl
lookup_renamed N (f ∷ fs) x = elim (cases_Bool (bytes_eq f.0 x)) [ inl h ↦ rw h refl | inr h ↦ rw h (lookup_renamed N fs x) ]

row_term : (k : Option ℕ) (ns N : List Seen) → Begins (read_row (row_name k) ns).1 N → (read_row (row_name k) ns).0 ≡ option_map (λ n. number (shown_row n) N) k
row_term None ns N b = refl
row_term (Some r) ns N b = ap (λ z. Some z) (number_is (shown_row r) (itself (variable_text r)) ns N b)

read_left : (f : Form) (s : Syntax) (k : Known) (ns : List Seen) → read k (left_of_arrow f s) ns ≡ read k s ns
read_left Operand s k ns = refl
read_left Function s k ns = refl
read_left Operator s k ns = refl

read_right : (f : Form) (s : Syntax) (k : Known) (ns : List Seen) → read k (right_of_arrow f s) ns ≡ read k s ns
read_right Operand s k ns = refl
read_right Function s k ns = refl
read_right Operator s k ns = refl

unknown_left : (f : Form) (s : Syntax) (k : Known) → unknown k (left_of_arrow f s) ≡ unknown k s
unknown_left Operand s k = refl
unknown_left Function s k = refl
unknown_left Operator s k = refl

unknown_right : (f : Form) (s : Syntax) (k : Known) → unknown k (right_of_arrow f s) ≡ unknown k s
unknown_right Operand s k = refl
unknown_right Function s k = refl
unknown_right Operator s k = refl

-- ---- a type by its layer

abbrev spelt_at : layer.Ty-F Such → layer.Ty-F Spelt
spelt_at y = map-Ty Ty Spelt spelt (map-Ty Such Ty plain y)

abbrev mean_at : layer.Ty-F Such → Term
mean_at y = mean_layer (map-Ty Ty Term mean (map-Ty Such Ty plain y))

abbrev Terms : Syntax → Term → Type 0
Terms s t = (k : Known) (ns N : List Seen) → Begins (read k s ns).1 N → (read k s ns).0 ≡ by_numbers N t

terms_are : (s v : Syntax) (t : Term) → s ≡ v → Terms s t → Terms v t
terms_are s v t e h = let P : Syntax → Type 0 = λ z. Terms z t in subst P e h

terms_at : (y : layer.Ty-F Such) (s : Syntax) → syntax_layer (spelt_at y) ≡ Some s → Terms s (mean_at y)
terms_at layer.Bool s e = terms_are bool s (mean_at layer.Bool) (some_is bool s e) (λ k ns N b. refl)
terms_at layer.Int s e = terms_are int s (mean_at layer.Int) (some_is int s e) (λ k ns N b. refl)
terms_at layer.Str s e = terms_are str s (mean_at layer.Str) (some_is str s e) (λ k ns N b. refl)
terms_at (layer.Named x) s e = terms_are (named x) s (mean_at (layer.Named x)) (some_is (named x) s e) (λ k ns N b. refl)
terms_at (layer.Var n) s e =
    terms_are (variable (variable_text n)) s (mean_at (layer.Var n)) (some_is (variable (variable_text n)) s e)
    (λ k ns N b. ap (λ z. var z) (number_is (shown_type n) (itself (variable_text n)) ns N b))
terms_at (layer.Set a) s e =
    let g = got_one set (spelling a.0) s e in
    terms_are (set g.0) s (mean_at (layer.Set a)) g.2 (λ k ns N b. ap (λ z. app (con SetHead) z) (a.1.terms g.0 g.1 k ns N b))
terms_at (layer.Seq a) s e =
    let g = got_one seq (spelling a.0) s e in
    terms_are (seq g.0) s (mean_at (layer.Seq a)) g.2 (λ k ns N b. ap (λ z. app (con SeqHead) z) (a.1.terms g.0 g.1 k ns N b))
terms_at (layer.Fun a c) s e =
    let x = a.0 in
    let y = c.0 in
    let p = (spelt x).form in
    let q = (spelt y).form in
    let g = got (λ u v. function (left_of_arrow p u) (right_of_arrow q v)) (spelling x) (spelling y) s e in
    terms_are (function (left_of_arrow p g.0) (right_of_arrow q g.1)) s (mean_at (layer.Fun a c)) g.4 (λ k ns N b.
    let l = read k (left_of_arrow p g.0) ns in
    let P : Term × List Seen → Type 0 = λ z. Begins z.1 N in
    let bl = further l.1 (read k (right_of_arrow q g.1) l.1).1 N (grows k (right_of_arrow q g.1) l.1) b in
    ap (λ z. app (con FunHead) (app z (read k (right_of_arrow q g.1) l.1).0)) (ap (λ z. z.0) (read_left p g.0 k ns) ∙ a.1.terms g.0 g.2 k ns N (subst P (read_left p g.0 k ns) bl))
    ∙ ap (λ z. app (con FunHead) (app (by_numbers N (mean x)) z)) (ap (λ z. z.0) (read_right q g.1 k l.1) ∙ c.1.terms g.1 g.3 k l.1 N (subst P (read_right q g.1 k l.1) b)))
terms_at (layer.Tup []) s e = absurd (cc)
terms_at (layer.Tup (t ∷ ts)) s e =
    let g = got tuple (spelling t.0) (others (spelt_of ts)) s e in
    terms_are (tuple g.0 g.1) s (mean_at (layer.Tup (t ∷ ts))) g.4 (λ k ns N b.
    let r = (read k g.0 ns).1 in
    ap (λ z. app (con TupHead) (app z (row (read_all k g.1 r).0))) (t.1.terms g.0 g.2 k ns N (further r (read_all k g.1 r).1 N (all_grow k g.1 r) b))
    ∙ ap (λ z. app (con TupHead) (app (by_numbers N (mean t.0)) z)) (ap row (all_terms ts g.1 g.3 k r N b) ∙ rows_renamed N (means_of ts)))
terms_at (layer.Rec [] j) s e = absurd (cc)
terms_at (layer.Rec (f ∷ fs) j) s e =
    let g = got (λ u us. record_of f.0 u us (row_name j)) (spelling f.1.0) (other_fields (spelt_fields fs)) s e in
    terms_are (record_of f.0 g.0 g.1 (row_name j)) s (mean_at (layer.Rec (f ∷ fs) j)) g.4 (λ k ns N b.
    let r = (read k g.0 ns).1 in
    let q = (read_fields k g.1 r).1 in
    let bq = further q (read_row (row_name j) q).1 N (row_begins (row_name j) q) b in
    let br = further r q N (fields_grow k g.1 r) bq in
    let all = means_fields (f ∷ fs) in
    ap (λ z. fields (lookup ((f.0, z) ∷ zipped (names_of g.1) (read_fields k g.1 r).0)) (read_row (row_name j) q).0) (f.1.1.terms g.0 g.2 k ns N br)
    ∙ ap (λ z. fields (lookup ((f.0, by_numbers N (mean f.1.0)) ∷ z)) (read_row (row_name j) q).0) (zipped_terms fs g.1 g.3 k r N bq)
    ∙ ap (λ z. fields (lookup (renamed_fields N all)) z) (row_term j q N b)
    ∙ (λ d. fields (λ x. lookup_renamed N all x d) (option_map (λ n. number (shown_row n) N) j)))
terms_at (layer.Oper [] c) s e =
    let g = got_one constant (spelling c.0) s e in
    terms_are (constant g.0) s (mean_at (layer.Oper [] c)) g.2 (λ k ns N b. ap (λ z. app (con OperHead) (app (row []) z)) (c.1.terms g.0 g.1 k ns N b))
terms_at (layer.Oper (t ∷ ts) c) s e =
    let g = got_operator (spelling t.0) (others (spelt_of ts)) (spelling c.0) s e in
    terms_are (operator g.0 g.1 g.2) s (mean_at (layer.Oper (t ∷ ts) c)) g.6 (λ k ns N b.
    let r = (read k g.0 ns).1 in
    let q = (read_all k g.1 r).1 in
    let bq = further q (read k g.2 q).1 N (grows k g.2 q) b in
    let br = further r q N (all_grow k g.1 r) bq in
    ap (λ z. app (con OperHead) (app (app z (row (read_all k g.1 r).0)) (read k g.2 q).0)) (t.1.terms g.0 g.3 k ns N br)
    ∙ ap (λ z. app (con OperHead) (app (app (by_numbers N (mean t.0)) z) (read k g.2 q).0)) (ap row (all_terms ts g.1 g.4 k r N bq) ∙ rows_renamed N (means_of ts))
    ∙ ap (λ z. app (con OperHead) (app (by_numbers N (row (means_of (t ∷ ts)))) z)) (c.1.terms g.2 g.5 k q N b))

plainly_are : (s v : Syntax) → s ≡ v → ((k : Known) → unknown k s ≡ None) → (k : Known) → unknown k v ≡ None
plainly_are s v e h k = ap (λ z. unknown k z) (sym e) ∙ h k

plainly_at : (y : layer.Ty-F Such) (s : Syntax) → syntax_layer (spelt_at y) ≡ Some s → (k : Known) → unknown k s ≡ None
plainly_at layer.Bool s e = plainly_are bool s (some_is bool s e) (λ k. refl)
plainly_at layer.Int s e = plainly_are int s (some_is int s e) (λ k. refl)
plainly_at layer.Str s e = plainly_are str s (some_is str s e) (λ k. refl)
plainly_at (layer.Named x) s e = plainly_are (named x) s (some_is (named x) s e) (λ k. refl)
plainly_at (layer.Var n) s e = plainly_are (variable (variable_text n)) s (some_is (variable (variable_text n)) s e) (λ k. refl)
plainly_at (layer.Set a) s e = let g = got_one set (spelling a.0) s e in plainly_are (set g.0) s g.2 (a.1.plainly g.0 g.1)
plainly_at (layer.Seq a) s e = let g = got_one seq (spelling a.0) s e in plainly_are (seq g.0) s g.2 (a.1.plainly g.0 g.1)
plainly_at (layer.Fun a c) s e =
    let x = a.0 in
    let y = c.0 in
    let p = (spelt x).form in
    let q = (spelt y).form in
    let g = got (λ u v. function (left_of_arrow p u) (right_of_arrow q v)) (spelling x) (spelling y) s e in
    plainly_are (function (left_of_arrow p g.0) (right_of_arrow q g.1)) s g.4 (λ k.
    no_unknown (unknown k (left_of_arrow p g.0)) (unknown k (right_of_arrow q g.1)) (unknown_left p g.0 k ∙ a.1.plainly g.0 g.2 k) (unknown_right q g.1 k ∙ c.1.plainly g.1 g.3 k))
plainly_at (layer.Tup []) s e = absurd (cc)
plainly_at (layer.Tup (t ∷ ts)) s e =
    let g = got tuple (spelling t.0) (others (spelt_of ts)) s e in
    plainly_are (tuple g.0 g.1) s g.4 (λ k. no_unknown (unknown k g.0) (unknown_all k g.1) (t.1.plainly g.0 g.2 k) (all_plainly ts g.1 g.3 k))
plainly_at (layer.Rec [] j) s e = absurd (cc)
plainly_at (layer.Rec (f ∷ fs) j) s e =
    let g = got (λ u us. record_of f.0 u us (row_name j)) (spelling f.1.0) (other_fields (spelt_fields fs)) s e in
    plainly_are (record_of f.0 g.0 g.1 (row_name j)) s g.4 (λ k. no_unknown (unknown k g.0) (unknown_fields k g.1) (f.1.1.plainly g.0 g.2 k) (fields_plainly fs g.1 g.3 k))
plainly_at (layer.Oper [] c) s e = let g = got_one constant (spelling c.0) s e in plainly_are (constant g.0) s g.2 (c.1.plainly g.0 g.1)
plainly_at (layer.Oper (t ∷ ts) c) s e =
    let g = got_operator (spelling t.0) (others (spelt_of ts)) (spelling c.0) s e in
    plainly_are (operator g.0 g.1 g.2) s g.6 (λ k.
    no_unknown (or_first (unknown k g.0) (unknown_all k g.1)) (unknown k g.2) (no_unknown (unknown k g.0) (unknown_all k g.1) (t.1.plainly g.0 g.3 k) (all_plainly ts g.1 g.4 k)) (c.1.plainly g.2 g.5 k))

all_claims : (t : Ty) → Claim t
all_claims = ind-Ty Claim (λ x y is.
    let o : out-Ty (roll-Ty x) ≡ map-Ty Such Ty plain y = out-roll-Ty x ∙ sym is in
    let here : spelt (roll-Ty x) ≡ spelt_opened (map-Ty Such Ty plain y) = spelt_out (roll-Ty x) ∙ ap spelt_opened o in
    let there : mean (roll-Ty x) ≡ mean_at y = mean_out (roll-Ty x) ∙ ap (λ z. mean_layer (map-Ty Ty Term mean z)) o in
    record {
      terms = λ s e k ns N b. terms_at y s (sym (ap (λ z. z.syntax_of) here) ∙ e) k ns N b ∙ sym (ap (λ z. by_numbers N z) there);
      plainly = λ s e. plainly_at y s (sym (ap (λ z. z.syntax_of) here) ∙ e);
    })

-- what a spelling of the type says is the type, each variable with its number in the text
pub read_terms : (t : Ty) (s : Syntax) → spelling t ≡ Some s → (read [] s []).0 ≡ by_numbers (read [] s []).1 (mean t)
read_terms t s e = (all_claims t).terms s e [] [] (read [] s []).1 (same (read [] s []).1)

pub read_back : (t : Ty) (s : Syntax) → spelling t ≡ Some s → IsTypeText (type_text t) s → IsReadAs [] (type_text t) (by_numbers (read [] s []).1 (mean t))
read_back t s e h = record { known = []; syntax_of = s; knows = refl; is_text = h; all_known = (all_claims t).plainly s e []; says = sym (read_terms t s e) }

-- ---- what looks the same is the same

pub same_is : (v w : Seen) → same_seen v w ≡ true → v ≡ w
same_is (seen.Type x) (seen.Type y) h = ap (λ z. seen.Type z) (same_bytes x y h)
same_is (seen.Row x) (seen.Row y) h = ap (λ z. seen.Row z) (same_bytes x y h)
same_is (seen.Type x) (seen.Row y) h = absurd (cc)
same_is (seen.Type x) seen.Own h = absurd (cc)
same_is (seen.Row x) (seen.Type y) h = absurd (cc)
same_is (seen.Row x) seen.Own h = absurd (cc)
same_is seen.Own w h = absurd (cc)
