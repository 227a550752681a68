-- What the pieces of a state spell: each state that is reached stands inside a type.
use Rattle.std.proofs.Common.{◌≡◌, ℕ, Bool, true, false, ◌&&◌, ◌⊎◌, List, [], ◌∷◌, ◌++◌, map, refl, ap, sym, ◌∙◌, subst, codes, Option, Some, None, IsTrue, append_assoc}
use Rattle.std.specs.Prelude.{◌||◌, not, bytes_eq}
use Rattle.std.proofs.lemmas.List.{append-nil}
use Rattle.snowcat_rows.specs.declared.marks.Frame.{Frame}
use Rattle.snowcat_rows.specs.declared.marks.Frame.TheVariants as frame
use Rattle.snowcat_rows.specs.TypeTexts.{Syntax, Syntaxes, Fields, record_of, end, more, last, also, pieces, more_pieces, field_pieces, row_pieces, is_formed, are_formed, fields_formed, is_operand, is_name, is_among, are_distinct, names_of, Fronts, KeepsFronts, AllKeep, FieldsKeep, RowAfter, is_row}
use Rattle.snowcat_rows.proofs.Words.{to_yes, join, both_true}
use Rattle.snowcat_rows.proofs.Runs.{turned, not_true, neither}

-- ---- parts that were read

abbrev pub Good : Fronts → Syntax → Type 0
Good l s = IsTrue (is_formed s) × KeepsFronts l s

abbrev pub AllGood : Fronts → List Syntax → Type 0
AllGood l [] = Unit {0}
AllGood l (s ∷ ss) = Good l s × AllGood l ss

abbrev pub Field : Type 0
Field = List ℕ × Syntax

abbrev pub GoodFields : Fronts → List Field → Type 0
GoodFields l [] = Unit {0}
GoodFields l (g ∷ gs) = IsTrue (is_name g.0) × Good l g.1 × GoodFields l gs

-- items with a comma behind each
abbrev pub items_left : List Syntax → List (List ℕ)
items_left [] = []
items_left (s ∷ ss) = pieces s ++ codes "," ∷ items_left ss

abbrev pub fields_left : List Field → List (List ℕ)
fields_left [] = []
fields_left (g ∷ gs) = g.0 ∷ codes ":" ∷ pieces g.1 ++ codes "," ∷ fields_left gs

abbrev pub names_left : List Field → List (List ℕ)
names_left gs = map (λ g. g.0) gs

abbrev pub some_items : List Syntax → Bool
some_items [] = false
some_items (s ∷ ss) = true

-- arguments: none, or several
abbrev pub Arguments : Type 0
Arguments = Option (List Syntax × Syntax)

abbrev pub arguments_left : Arguments → List (List ℕ)
arguments_left None = []
arguments_left (Some a) = items_left a.0 ++ pieces a.1

abbrev pub GoodArguments : Fronts → Arguments → Type 0
GoodArguments l None = Unit {0}
GoodArguments l (Some a) = AllGood l a.0 × Good l a.1

-- ---- what stands left of what is read, by the frames

abbrev pub FieldsLeft : Fronts → List (List ℕ) → List (List ℕ) → Type 0
FieldsLeft l ns ps =
    ((ns ≡ []) × (ps ≡ codes "{" ∷ []))
    ⊎ ((gs : List Field) × (n : List ℕ) × (s : Syntax) × GoodFields l gs × IsTrue (is_name n) × Good l s × (ns ≡ names_left gs ++ n ∷ [])
    × (ps ≡ codes "{" ∷ (fields_left gs ++ n ∷ codes ":" ∷ pieces s) ++ codes "," ∷ []))

-- the pieces of a frame
abbrev pub Inside : Fronts → Frame → List (List ℕ) → Type 0
Inside l frame.Set rs = rs ≡ codes "Set" ∷ codes "(" ∷ []
Inside l frame.Seq rs = rs ≡ codes "Seq" ∷ codes "(" ∷ []
Inside l (frame.Tuple b) rs = (ss : List Syntax) × AllGood l ss × (b ≡ some_items ss) × (rs ≡ codes "<<" ∷ items_left ss)
Inside l (frame.Paren b) rs = (ss : List Syntax) × AllGood l ss × (b ≡ some_items ss) × (rs ≡ codes "(" ∷ items_left ss)
Inside l (frame.Fields ns) rs = IsTrue (are_distinct ns) × FieldsLeft l ns rs
Inside l (frame.Field ns n) rs =
    (gs : List Field) × GoodFields l gs × (ns ≡ names_left gs) × IsTrue (is_name n) × IsTrue (are_distinct (ns ++ n ∷ [])) × (rs ≡ codes "{" ∷ fields_left gs ++ n ∷ codes ":" ∷ [])
Inside l frame.Function rs = (s : Syntax) × Good l s × IsTrue (is_operand s) × (rs ≡ pieces s ++ codes "->" ∷ [])
Inside l frame.Operator rs = (a : Arguments) × GoodArguments l a × (rs ≡ codes "(" ∷ arguments_left a ++ codes ")" ∷ codes "=>" ∷ [])

-- the frames stand so, the innermost first
abbrev pub Left : Fronts → List Frame → List (List ℕ) → Type 0
Left l [] ps = ps ≡ []
Left l (f ∷ fs) ps = (qs : List (List ℕ)) × (rs : List (List ℕ)) × Left l fs qs × Inside l f rs × (ps ≡ qs ++ rs)

-- ---- types made of what was read

abbrev pub first_item : List Syntax → Syntax → Syntax
first_item [] t = t
first_item (s ∷ ss) t = s

abbrev pub more_items : List Syntax → Syntax → Syntaxes
more_items [] t = more t end
more_items (s ∷ ss) t = more s (more_items ss t)

abbrev pub other_items : List Syntax → Syntax → Syntaxes
other_items [] t = end
other_items (s ∷ ss) t = more_items ss t

more_items_left : (ss : List Syntax) (t : Syntax) → more_pieces (more_items ss t) ≡ codes "," ∷ items_left ss ++ pieces t
more_items_left [] t = append-nil (codes "," ∷ pieces t)
more_items_left (s ∷ ss) t = ap (λ z. codes "," ∷ pieces s ++ z) (more_items_left ss t) ∙ ap (λ z. codes "," ∷ z) (sym (append_assoc (pieces s) (codes "," ∷ items_left ss) (pieces t)))

pub all_items_left : (ss : List Syntax) (t : Syntax) → pieces (first_item ss t) ++ more_pieces (other_items ss t) ≡ items_left ss ++ pieces t
all_items_left [] t = append-nil (pieces t)
all_items_left (s ∷ ss) t = ap (λ z. pieces s ++ z) (more_items_left ss t) ∙ sym (append_assoc (pieces s) (codes "," ∷ items_left ss) (pieces t))

more_good : (l : Fronts) (ss : List Syntax) (t : Syntax) → AllGood l ss → Good l t → IsTrue (are_formed (more_items ss t)) × AllKeep l (more_items ss t)
more_good l [] t g h = (join (is_formed t) true h.0 refl, (h.1, tt))
more_good l (s ∷ ss) t g h = let r = more_good l ss t g.1 h in (join (is_formed s) (are_formed (more_items ss t)) g.0.0 r.0, (g.0.1, r.1))

pub first_good : (l : Fronts) (ss : List Syntax) (t : Syntax) → AllGood l ss → Good l t → Good l (first_item ss t)
first_good l [] t g h = h
first_good l (s ∷ ss) t g h = g.0

pub other_good : (l : Fronts) (ss : List Syntax) (t : Syntax) → AllGood l ss → Good l t → IsTrue (are_formed (other_items ss t)) × AllKeep l (other_items ss t)
other_good l [] t g h = (refl, tt)
other_good l (s ∷ ss) t g h = more_good l ss t g.1 h

abbrev pub more_fields : List Field → List ℕ → Syntax → Fields
more_fields [] n t = also n t last
more_fields (g ∷ gs) n t = also g.0 g.1 (more_fields gs n t)

abbrev pub record_from : List Field → List ℕ → Syntax → Option (List ℕ) → Syntax
record_from [] n t k = record_of n t last k
record_from (g ∷ gs) n t k = record_of g.0 g.1 (more_fields gs n t) k

more_fields_left : (gs : List Field) (n : List ℕ) (t : Syntax) → field_pieces (more_fields gs n t) ≡ codes "," ∷ fields_left gs ++ n ∷ codes ":" ∷ pieces t
more_fields_left [] n t = append-nil (codes "," ∷ n ∷ codes ":" ∷ pieces t)
more_fields_left (g ∷ gs) n t =
    ap (λ z. codes "," ∷ g.0 ∷ codes ":" ∷ pieces g.1 ++ z) (more_fields_left gs n t)
    ∙ ap (λ z. codes "," ∷ g.0 ∷ codes ":" ∷ z) (sym (append_assoc (pieces g.1) (codes "," ∷ fields_left gs) (n ∷ codes ":" ∷ pieces t)))

pub record_left : (gs : List Field) (n : List ℕ) (t : Syntax) (k : Option (List ℕ)) →
    pieces (record_from gs n t k) ≡ codes "{" ∷ (fields_left gs ++ n ∷ codes ":" ∷ pieces t) ++ row_pieces k ++ codes "}" ∷ []
record_left [] n t k = ap (λ z. codes "{" ∷ n ∷ codes ":" ∷ z ++ row_pieces k ++ codes "}" ∷ []) (append-nil (pieces t))
record_left (g ∷ gs) n t k =
    ap (λ z. codes "{" ∷ g.0 ∷ codes ":" ∷ (pieces g.1 ++ z) ++ row_pieces k ++ codes "}" ∷ []) (more_fields_left gs n t)
    ∙ ap (λ z. codes "{" ∷ g.0 ∷ codes ":" ∷ z ++ row_pieces k ++ codes "}" ∷ []) (sym (append_assoc (pieces g.1) (codes "," ∷ fields_left gs) (n ∷ codes ":" ∷ pieces t)))

more_names : (gs : List Field) (n : List ℕ) (t : Syntax) → names_of (more_fields gs n t) ≡ names_left gs ++ n ∷ []
more_names [] n t = refl
more_names (g ∷ gs) n t = ap (λ z. g.0 ∷ z) (more_names gs n t)

more_fields_good : (l : Fronts) (gs : List Field) (n : List ℕ) (t : Syntax) → GoodFields l gs → IsTrue (is_name n) → Good l t → IsTrue (fields_formed (more_fields gs n t)) × FieldsKeep l (more_fields gs n t)
more_fields_good l [] n t g h i = (join (is_name n && is_formed t) true (join (is_name n) (is_formed t) h i.0) refl, (i.1, tt))
more_fields_good l (f ∷ gs) n t g h i =
    let r = more_fields_good l gs n t g.2 h i in
    (join (is_name f.0 && is_formed f.1) (fields_formed (more_fields gs n t)) (join (is_name f.0) (is_formed f.1) g.0 g.1.0) r.0, (g.1.1, r.1))

pub record_good : (l : Fronts) (gs : List Field) (n : List ℕ) (t : Syntax) (k : Option (List ℕ)) → GoodFields l gs → IsTrue (is_name n) → Good l t →
    IsTrue (are_distinct (names_left gs ++ n ∷ [])) → IsTrue (is_row k) → RowAfter l (names_left gs ++ n ∷ []) k → Good l (record_from gs n t k)
record_good l [] n t k g h i d r a = (
  join (is_name n && is_formed t && true && are_distinct (n ∷ [])) (is_row k)
      (join (is_name n && is_formed t && true) (are_distinct (n ∷ [])) (join (is_name n && is_formed t) true (join (is_name n) (is_formed t) h i.0) refl) d) r,
  (i.1, tt, a),
)
record_good l (f ∷ gs) n t k g h i d r a =
    let m = more_fields_good l gs n t g.2 h i in
    let fs = more_fields gs n t in
    let e = ap (λ z. f.0 ∷ z) (more_names gs n t) in
    let D : List (List ℕ) → Type 0 = λ z. IsTrue (are_distinct z) in
    let A : List (List ℕ) → Type 0 = λ z. RowAfter l z k in (
      join (is_name f.0 && is_formed f.1 && fields_formed fs && are_distinct (f.0 ∷ names_of fs)) (is_row k)
          (join (is_name f.0 && is_formed f.1 && fields_formed fs) (are_distinct (f.0 ∷ names_of fs))
          (join (is_name f.0 && is_formed f.1) (fields_formed fs) (join (is_name f.0) (is_formed f.1) g.0 g.1.0) m.0) (subst D (sym e) d)) r,
      (g.1.1, m.1, subst A (sym e) a),
    )

pub record_operand : (gs : List Field) (n : List ℕ) (t : Syntax) (k : Option (List ℕ)) → IsTrue (is_operand (record_from gs n t k))
record_operand [] n t k = refl
record_operand (g ∷ gs) n t k = refl

-- ---- lists that grow at their end

pub items_snoc : (ss : List Syntax) (t : Syntax) → items_left (ss ++ t ∷ []) ≡ (items_left ss ++ pieces t) ++ codes "," ∷ []
items_snoc [] t = refl
items_snoc (s ∷ ss) t =
    ap (λ z. pieces s ++ codes "," ∷ z) (items_snoc ss t)
    ∙ sym (append_assoc (pieces s) (codes "," ∷ items_left ss ++ pieces t) (codes "," ∷ []))
    ∙ ap (λ z. z ++ codes "," ∷ []) (sym (append_assoc (pieces s) (codes "," ∷ items_left ss) (pieces t)))

pub good_snoc : (l : Fronts) (ss : List Syntax) (t : Syntax) → AllGood l ss → Good l t → AllGood l (ss ++ t ∷ [])
good_snoc l [] t g h = (h, tt)
good_snoc l (s ∷ ss) t g h = (g.0, good_snoc l ss t g.1 h)

pub some_snoc : (ss : List Syntax) (t : Syntax) → true ≡ some_items (ss ++ t ∷ [])
some_snoc [] t = refl
some_snoc (s ∷ ss) t = refl

pub fields_snoc : (gs : List Field) (n : List ℕ) (t : Syntax) → fields_left (gs ++ (n, t) ∷ []) ≡ (fields_left gs ++ n ∷ codes ":" ∷ pieces t) ++ codes "," ∷ []
fields_snoc [] n t = refl
fields_snoc (g ∷ gs) n t =
    ap (λ z. g.0 ∷ codes ":" ∷ pieces g.1 ++ codes "," ∷ z) (fields_snoc gs n t)
    ∙ ap (λ z. g.0 ∷ codes ":" ∷ z) (sym (append_assoc (pieces g.1) (codes "," ∷ fields_left gs ++ n ∷ codes ":" ∷ pieces t) (codes "," ∷ []))
    ∙ ap (λ z. z ++ codes "," ∷ []) (sym (append_assoc (pieces g.1) (codes "," ∷ fields_left gs) (n ∷ codes ":" ∷ pieces t))))

pub good_fields_snoc : (l : Fronts) (gs : List Field) (n : List ℕ) (t : Syntax) → GoodFields l gs → IsTrue (is_name n) → Good l t → GoodFields l (gs ++ (n, t) ∷ [])
good_fields_snoc l [] n t g h i = (h, i, tt)
good_fields_snoc l (f ∷ gs) n t g h i = (g.0, g.1, good_fields_snoc l gs n t g.2 h i)

pub names_snoc : (gs : List Field) (n : List ℕ) (t : Syntax) → names_left (gs ++ (n, t) ∷ []) ≡ names_left gs ++ n ∷ []
names_snoc [] n t = refl
names_snoc (g ∷ gs) n t = ap (λ z. g.0 ∷ z) (names_snoc gs n t)

among_snoc : (m n : List ℕ) (ns : List (List ℕ)) → is_among m ns ≡ false → bytes_eq m n ≡ false → is_among m (ns ++ n ∷ []) ≡ false
among_snoc m n [] h k = rw k refl
among_snoc m n (x ∷ ns) h k = among_later (bytes_eq m x) (is_among m ns) (is_among m (ns ++ n ∷ [])) h (λ e. among_snoc m n ns e k)
  where
    among_later : (a b c : Bool) → (a || b) ≡ false → (b ≡ false → c ≡ false) → (a || c) ≡ false
    among_later true b c e f = absurd (cc)
    among_later false b c e f = f e

pub distinct_snoc : (n : List ℕ) (ns : List (List ℕ)) → IsTrue (are_distinct ns) → is_among n ns ≡ false → IsTrue (are_distinct (ns ++ n ∷ []))
distinct_snoc n [] d h = refl
distinct_snoc n (m ∷ ns) d h =
    let p = both_true (not (is_among m ns)) (are_distinct ns) d in
    let q = neither (bytes_eq n m) (is_among n ns) h in
    join (not (is_among m (ns ++ n ∷ []))) (are_distinct (ns ++ n ∷ []))
    (let e = among_snoc m n ns (not_true (is_among m ns) p.0) (turned n m q.0) in rw e refl)
    (distinct_snoc n ns (to_yes (are_distinct ns) p.1) q.1)
