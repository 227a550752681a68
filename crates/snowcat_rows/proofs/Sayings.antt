-- What a text says can be written, and each row variable of it stands after one list of names.
use Rattle.std.proofs.Common.{◌≡◌, ◌+◌, ◌<◌, length, arith, ℕ, zero, suc, Bool, true, false, ◌&&◌, inl, inr, List, [], ◌∷◌, ◌++◌, refl, ap, sym, ◌∙◌, subst, Option, Some, None, append_assoc, IsTrue}
use Rattle.std.specs.Prelude.{option_map, bytes_eq, ◌||◌, if◌then◌else◌}
use Rattle.std.proofs.lemmas.Bool.{cases_Bool}
use Rattle.std.proofs.lemmas.List.{append-nil, length-append}
use Rattle.snowcat_rows.specs.declared.marks.Seen.{Seen}
use Rattle.snowcat_rows.specs.declared.marks.Seen.TheVariants as seen
use Rattle.snowcat_rows.specs.Types.{Term, Slot, var, con, app, fields, none, some, row, lookup, BoolHead, IntHead, StrHead, NamedHead, SetHead, SeqHead, FunHead, TupHead, OperHead, EndHead}
use Rattle.snowcat_rows.specs.Substitutions.{Present, Sorted, SortedSlot, Fronts as Sides}
use Rattle.snowcat_rows.specs.TypeTexts.{Syntax, Syntaxes, Fields, bool, int, str, named, variable, alias, set, seq, function, tuple, record_of, constant, operator, parens, end, more, last, also, names_of, is_among, are_distinct, is_formed, are_formed, fields_formed, is_name, is_operand, is_row, Fronts, KeepsFronts, AllKeep, FieldsKeep, RowAfter, IsTypeText}
use Rattle.snowcat_rows.specs.Readings.{Known, find, number, noted, same_seen, own, moved, moved_slot, zipped, read, read_all, read_fields, read_alias, read_row, Counts, Knows, IsReadAs}
use Rattle.snowcat_rows.specs.Renamings.{renamed, renamed_slot}
use Rattle.snowcat_rows.specs.Spellable.{HasText, HaveTexts, FieldHasText}
use Rattle.snowcat_rows.specs.inner.Fronted.{Front, at, Fronted, FrontedSlot, AllFronted, IsFrontOf, AreFronts}
use Rattle.snowcat_rows.proofs.Words.{split, same_bytes, itself}
use Rattle.snowcat_rows.proofs.ReadBack.{same_is}

abbrev Begins : List Front → List Front → Type 0
Begins ps qs = (rs : List Front) × (qs ≡ ps ++ rs)

further : (ps qs rs : List Front) → Begins ps qs → Begins qs rs → Begins ps rs
further ps qs rs (a, e) (b, f) = (a ++ b, f ∙ ap (λ z. z ++ b) e ∙ append_assoc ps a b)

same : (ps : List Front) → Begins ps ps
same ps = ([], sym (append-nil ps))

-- ---- more variables are seen

at_front : (ps qs : List Front) (r : ℕ) → r < length ps → at (ps ++ qs) r ≡ at ps r
at_front [] qs r h = absurd (omega (arith, h))
at_front (p ∷ ps) qs zero h = refl
at_front (p ∷ ps) qs (suc r) h = at_front ps qs r (omega (arith, h))

at_behind : (ps qs : List Front) (r : ℕ) → at (ps ++ qs) (length ps + r) ≡ at qs r
at_behind [] qs r = let e : 0 + r ≡ r = omega arith in ap (λ z. at qs z) e
at_behind (p ∷ ps) qs r =
    let e : suc (length ps) + r ≡ suc (length ps + r) = omega arith in
    ap (λ z. at (p ∷ (ps ++ qs)) z) e ∙ at_behind ps qs r

mutual
  more_fronts : (ps qs : List Front) (t : Term) → Fronted ps t → Fronted (ps ++ qs) t
  more_fronts ps qs (var v) h = omega (arith, h, length-append ps qs)
  more_fronts ps qs (con c) h = tt
  more_fronts ps qs (app a b) h = (more_fronts ps qs a h.0, more_fronts ps qs b h.1)
  more_fronts ps qs (fields f k) h = (
    λ n. more_slot ps qs (f n) (h.0 n),
    λ r e. let q = h.1 r e in (
      omega (arith, q.0, length-append ps qs),
      λ n. let P : Front → Type 0 = λ z. Present (f n) (z n) in subst P (sym (at_front ps qs r q.0)) (q.1 n),
    ),
  )

  more_slot : (ps qs : List Front) (x : Slot) → FrontedSlot ps x → FrontedSlot (ps ++ qs) x
  more_slot ps qs none h = tt
  more_slot ps qs (some t) h = more_fronts ps qs t h

grown : (ps qs : List Front) (t : Term) → Begins ps qs → Fronted ps t → Fronted qs t
grown ps qs t (rs, e) h = let P : List Front → Type 0 = λ z. Fronted z t in subst P (sym e) (more_fronts ps rs t h)

all_grown : (ps qs : List Front) (ts : List Term) → Begins ps qs → AllFronted ps ts → AllFronted qs ts
all_grown ps qs [] b h = tt
all_grown ps qs (t ∷ ts) b h = (grown ps qs t b h.0, all_grown ps qs ts b h.1)

present_moved : (n : ℕ) (x : Slot) (b : Bool) → Present x b → Present (moved_slot n x) b
present_moved n none b h = h
present_moved n (some t) b h = h

some_is : (a b : ℕ) → Some a ≡ Some b → a ≡ b
some_is a b e = cc

mutual
  fronts_moved : (ps qs : List Front) (t : Term) → Fronted qs t → Fronted (ps ++ qs) (moved (length ps) t)
  fronts_moved ps qs (var v) h = omega (arith, h, length-append ps qs)
  fronts_moved ps qs (con c) h = tt
  fronts_moved ps qs (app a b) h = (fronts_moved ps qs a h.0, fronts_moved ps qs b h.1)
  fronts_moved ps qs (fields f None) h = (λ n. slot_moved ps qs (f n) (h.0 n), λ r e. absurd (cc))
  fronts_moved ps qs (fields f (Some q)) h =
      let k = h.1 q refl in (
        λ n. slot_moved ps qs (f n) (h.0 n),
        λ r e.
            let i : length ps + q ≡ r = some_is (length ps + q) r e in (
              omega (arith, k.0, length-append ps qs, i),
              λ n.
                  let P : ℕ → Type 0 = λ z. Present (moved_slot (length ps) (f n)) (at (ps ++ qs) z n) in
                  let Q : Front → Type 0 = λ z. Present (moved_slot (length ps) (f n)) (z n) in
                  subst P i (subst Q (sym (at_behind ps qs q)) (present_moved (length ps) (f n) (at qs q n) (k.1 n))),
            ),
      )

  slot_moved : (ps qs : List Front) (x : Slot) → FrontedSlot qs x → FrontedSlot (ps ++ qs) (moved_slot (length ps) x)
  slot_moved ps qs none h = tt
  slot_moved ps qs (some t) h = fronts_moved ps qs t h

rows_fronted : (ps : List Front) (ts : List Term) → AllFronted ps ts → Fronted ps (row ts)
rows_fronted ps [] h = tt
rows_fronted ps (t ∷ ts) h = (h.0, rows_fronted ps ts h.1)

-- ---- beside what was seen

many : (l : Fronts) (vs : List Seen) (ps : List Front) → AreFronts l vs ps → length vs ≡ length ps
many l [] [] h = refl
many l (v ∷ vs) (p ∷ ps) h = ap (λ n. suc n) (many l vs ps h.1)
many l [] (p ∷ ps) h = absurd (h)
many l (v ∷ vs) [] h = absurd (h)

both : (l : Fronts) (vs ws : List Seen) (ps qs : List Front) → AreFronts l vs ps → AreFronts l ws qs → AreFronts l (vs ++ ws) (ps ++ qs)
both l [] ws [] qs h k = k
both l (v ∷ vs) ws (p ∷ ps) qs h k = (h.0, both l vs ws ps qs h.1 k)
both l [] ws (p ∷ ps) qs h k = absurd (h)
both l (v ∷ vs) ws [] qs h k = absurd (h)

owned : (l : Fronts) (ps : List Front) → AreFronts l (own (length ps)) ps
owned l [] = tt
owned l (p ∷ ps) = (tt, owned l ps)

-- what a step leaves: more fronts, which are those of what is seen now, and with them this holds
record Grown (l : Fronts) (vs : List Seen) (ps : List Front) (P : List Front → Type 0) : Type 0 where
  fronts : List Front
  begins : Begins ps fronts
  beside : AreFronts l vs fronts
  holds : P fronts

-- a variable that is seen
abbrev IsNoted : Fronts → Seen → List Seen → List Front → Type 0
IsNoted l v vs ps = (number v vs < length ps) × IsFrontOf l v (at ps (number v vs))

front_is : (l : Fronts) (v w : Seen) (p : Front) → v ≡ w → IsFrontOf l v p → IsFrontOf l w p
front_is l v w p e h = let P : Seen → Type 0 = λ z. IsFrontOf l z p in subst P e h

noting : (l : Fronts) (v : Seen) (p : Front) → IsFrontOf l v p → (vs : List Seen) (ps : List Front) → AreFronts l vs ps → Grown l (noted v vs) ps (IsNoted l v vs)
noting l v p h [] [] k = record { fronts = p ∷ []; begins = (p ∷ [], refl); beside = (h, tt); holds = (omega arith, h) }
noting l v p h (w ∷ vs) (q ∷ ps) k = elim (cases_Bool (same_seen w v)) [
  | inl e ↦
      let g : noted v (w ∷ vs) ≡ w ∷ vs = rw e refl in
      let n : number v (w ∷ vs) ≡ 0 = rw e refl in
      let P : List Seen → Type 0 = λ z. AreFronts l z (q ∷ ps) in
      let Q : ℕ → Type 0 = λ z. (z < length (q ∷ ps)) × IsFrontOf l v (at (q ∷ ps) z) in
      record { fronts = q ∷ ps; begins = same (q ∷ ps); beside = subst P (sym g) k; holds = subst Q (sym n) (omega arith, front_is l w v q (same_is w v e) k.0) }
  | inr e ↦
      let r = noting l v p h vs ps k.1 in
      let g : noted v (w ∷ vs) ≡ w ∷ noted v vs = rw e refl in
      let n : number v (w ∷ vs) ≡ suc (number v vs) = rw e refl in
      let P : List Seen → Type 0 = λ z. AreFronts l z (q ∷ r.fronts) in
      let Q : ℕ → Type 0 = λ z. (z < length (q ∷ r.fronts)) × IsFrontOf l v (at (q ∷ r.fronts) z) in
      record {
        fronts = q ∷ r.fronts;
        begins = (r.begins.0, ap (λ z. q ∷ z) r.begins.1);
        beside = subst P (sym g) (k.0, r.beside);
        holds = subst Q (sym n) (omega (arith, r.holds.0), r.holds.1);
      }
]
noting l v p h [] (q ∷ ps) k = absurd (k)
noting l v p h (w ∷ vs) [] k = absurd (k)

-- ---- aliases

record Good (t : Term) (n : ℕ) : Type 0 where
  text : HasText t
  fronts : List Front
  count : length fronts ≡ n
  fronted : Fronted fronts t

abbrev AllGood : Known → Type 0
AllGood [] = Unit {0}
AllGood (a ∷ k) = Good a.1 a.2 × AllGood k

abbrev GoodFound : Option (Term × ℕ) → Type 0
GoodFound None = Unit {0}
GoodFound (Some a) = Good a.0 a.1

found_good : (k : Known) → AllGood k → (x : List ℕ) → GoodFound (find k x)
found_good [] g x = tt
found_good (a ∷ k) g x = elim (cases_Bool (bytes_eq a.0 x)) [ inl h ↦ rw h g.0 | inr h ↦ rw h (found_good k g.1 x) ]

mutual
  text_moved : (n : ℕ) (t : Term) → HasText t → HasText (moved n t)
  text_moved n (var v) h = tt
  text_moved n (con BoolHead) h = tt
  text_moved n (con IntHead) h = tt
  text_moved n (con StrHead) h = tt
  text_moved n (con (NamedHead x)) h = h
  text_moved n (app (con SetHead) a) h = text_moved n a h
  text_moved n (app (con SeqHead) a) h = text_moved n a h
  text_moved n (app (con FunHead) (app a b)) h = (text_moved n a h.0, text_moved n b h.1)
  text_moved n (app (con TupHead) (app a r)) h = (text_moved n a h.0, texts_moved n r h.1)
  text_moved n (app (con OperHead) (app r t)) h = (texts_moved n r h.0, text_moved n t h.1)
  text_moved n (fields f k) h =
      let t = moved n h.1.1 in
      (λ x. field_moved n x (f x) (h.0 x), (h.1.0, t, ap (λ z. moved_slot n z) h.1.2))
  text_moved n t h = absurd (h)

  texts_moved : (n : ℕ) (t : Term) → HaveTexts t → HaveTexts (moved n t)
  texts_moved n (app a r) h = (text_moved n a h.0, texts_moved n r h.1)
  texts_moved n (con EndHead) h = tt
  texts_moved n t h = absurd (h)

  field_moved : (n : ℕ) (x : List ℕ) (s : Slot) → FieldHasText x s → FieldHasText x (moved_slot n s)
  field_moved n x none h = tt
  field_moved n x (some t) h = (h.0, text_moved n t h.1)

alias_text : (a : Option (Term × ℕ)) (ns : List Seen) → GoodFound a → HasText (read_alias a ns).0
alias_text None ns g = tt
alias_text (Some a) ns g = text_moved (length ns) a.0 g.text

alias_fronts : (l : Fronts) (a : Option (Term × ℕ)) (ns : List Seen) (ps : List Front) → GoodFound a → AreFronts l ns ps →
    Grown l (read_alias a ns).1 ps (λ z. Fronted z (read_alias a ns).0)
alias_fronts l None ns ps g h = record { fronts = ps; begins = same ps; beside = h; holds = tt }
alias_fronts l (Some a) ns ps g h =
    let qs = g.fronts in
    let P : ℕ → Type 0 = λ n. AreFronts l (own n) qs in
    let Q : ℕ → Type 0 = λ n. Fronted (ps ++ qs) (moved n a.0) in
    record {
      fronts = ps ++ qs;
      begins = (qs, refl);
      beside = both l ns (own a.1) ps qs h (subst P g.count (owned l qs));
      holds = subst Q (sym (many l ns ps h)) (fronts_moved ps qs a.0 g.fronted);
    }

-- ---- what a formed syntax says has a text

abbrev AllText : List Term → Type 0
AllText [] = Unit {0}
AllText (t ∷ ts) = HasText t × AllText ts

row_texts : (ts : List Term) → AllText ts → HaveTexts (row ts)
row_texts [] h = tt
row_texts (t ∷ ts) h = (h.0, row_texts ts h.1)

abbrev AllNames : List (List ℕ) → Type 0
AllNames [] = Unit {0}
AllNames (x ∷ xs) = IsTrue (is_name x) × AllNames xs

names_formed : (fs : Fields) → IsTrue (fields_formed fs) → AllNames (names_of fs)
names_formed last h = tt
names_formed (also n s fs) h =
    let a = split (is_name n && is_formed s) (fields_formed fs) h in
    ((split (is_name n) (is_formed s) a.0).0, names_formed fs a.1)

zipped_text : (xs : List (List ℕ)) (ts : List Term) → AllNames xs → AllText ts → (n : List ℕ) → FieldHasText n (lookup (zipped xs ts) n)
zipped_text [] ts h k n = tt
zipped_text (x ∷ xs) [] h k n = tt
zipped_text (x ∷ xs) (t ∷ ts) h k n = elim (cases_Bool (bytes_eq x n)) [
  | inl e ↦ (let P : List ℕ → Type 0 = λ z. IsTrue (is_name z) in rw e (subst P (same_bytes x n e) h.0, k.0))
  | inr e ↦ rw e (zipped_text xs ts h.1 k.1 n)
]

first_field : (x : List ℕ) (xs : List (List ℕ)) (t : Term) (ts : List Term) → lookup (zipped (x ∷ xs) (t ∷ ts)) x ≡ some t
first_field x xs t ts = rw (itself x) refl

mutual
  text_said : (k : Known) → AllGood k → (s : Syntax) → IsTrue (is_formed s) → (ns : List Seen) → HasText (read k s ns).0
  text_said k g bool h ns = tt
  text_said k g int h ns = tt
  text_said k g str h ns = tt
  text_said k g (named x) h ns = h
  text_said k g (variable x) h ns = tt
  text_said k g (alias x) h ns = alias_text (find k x) ns (found_good k g x)
  text_said k g (set s) h ns = text_said k g s h ns
  text_said k g (seq s) h ns = text_said k g s h ns
  text_said k g (function s t) h ns =
      let a = split (is_operand s && is_formed s) (is_formed t) h in
      (text_said k g s (split (is_operand s) (is_formed s) a.0).1 ns, text_said k g t a.1 (read k s ns).1)
  text_said k g (tuple s ss) h ns =
      let a = split (is_formed s) (are_formed ss) h in
      let q = (read_all k ss (read k s ns).1).0 in
      (text_said k g s a.0 ns, row_texts q (texts_said k g ss a.1 (read k s ns).1))
  text_said k g (record_of n s fs t) h ns =
      let a = split (is_name n && is_formed s && fields_formed fs && are_distinct (n ∷ names_of fs)) (is_row t) h in
      let b = split (is_name n && is_formed s && fields_formed fs) (are_distinct (n ∷ names_of fs)) a.0 in
      let c = split (is_name n && is_formed s) (fields_formed fs) b.0 in
      let d = split (is_name n) (is_formed s) c.0 in
      let r = read k s ns in
      let q = (read_fields k fs r.1).0 in (
        zipped_text (n ∷ names_of fs) (r.0 ∷ q) (d.0, names_formed fs c.1) (text_said k g s d.1 ns, fields_said k g fs c.1 r.1),
        (n, r.0, first_field n (names_of fs) r.0 q),
      )
  text_said k g (constant t) h ns = (tt, text_said k g t h ns)
  text_said k g (operator s ss t) h ns =
      let a = split (is_formed s && are_formed ss) (is_formed t) h in
      let b = split (is_formed s) (are_formed ss) a.0 in
      let r = read k s ns in
      let q = read_all k ss r.1 in
      ((text_said k g s b.0 ns, row_texts q.0 (texts_said k g ss b.1 r.1)), text_said k g t a.1 q.1)
  text_said k g (parens s) h ns = text_said k g s h ns

  texts_said : (k : Known) → AllGood k → (ss : Syntaxes) → IsTrue (are_formed ss) → (ns : List Seen) → AllText (read_all k ss ns).0
  texts_said k g end h ns = tt
  texts_said k g (more s ss) h ns =
      let a = split (is_formed s) (are_formed ss) h in
      (text_said k g s a.0 ns, texts_said k g ss a.1 (read k s ns).1)

  fields_said : (k : Known) → AllGood k → (fs : Fields) → IsTrue (fields_formed fs) → (ns : List Seen) → AllText (read_fields k fs ns).0
  fields_said k g last h ns = tt
  fields_said k g (also n s fs) h ns =
      let a = split (is_name n && is_formed s) (fields_formed fs) h in
      (text_said k g s (split (is_name n) (is_formed s) a.0).1 ns, fields_said k g fs a.1 (read k s ns).1)

-- ---- what a syntax says that keeps fronts

slots_fronted : (ps : List Front) (xs : List (List ℕ)) (ts : List Term) → AllFronted ps ts → (n : List ℕ) → FrontedSlot ps (lookup (zipped xs ts) n)
slots_fronted ps [] ts h n = tt
slots_fronted ps (x ∷ xs) [] h n = tt
slots_fronted ps (x ∷ xs) (t ∷ ts) h n = elim (cases_Bool (bytes_eq x n)) [ inl e ↦ rw e h.0 | inr e ↦ rw e (slots_fronted ps xs ts h.1 n) ]

pub turned : (x y : List ℕ) → bytes_eq x y ≡ true → bytes_eq y x ≡ true
turned x y h = let e = same_bytes x y h in ap (λ z. bytes_eq z x) (sym e) ∙ itself x

pub turned_not : (x y : List ℕ) → bytes_eq x y ≡ false → bytes_eq y x ≡ false
turned_not x y h = elim (cases_Bool (bytes_eq y x)) [ inl e ↦ absurd (clash (turned y x e)) | inr e ↦ e ]
  where
    clash : bytes_eq x y ≡ true → ⊥
    clash e = cc

-- the record has just the names
present_at : (x n : List ℕ) (t : Term) (f : Slot) (b : Bool) → Present f b → Present (if bytes_eq x n then some t else f) (bytes_eq n x || b)
present_at x n t f b h = elim (cases_Bool (bytes_eq x n)) [
  | inl e ↦ rw e (rw (turned x n e) refl)
  | inr e ↦ rw e (rw (turned_not x n e) h)
]

absent : Present none false
absent e = cc

fields_present : (k : Known) (fs : Fields) (ns : List Seen) (n : List ℕ) → Present (lookup (zipped (names_of fs) (read_fields k fs ns).0) n) (is_among n (names_of fs))
fields_present k last ns n = absent
fields_present k (also x s fs) ns n =
    let r = read k s ns in
    present_at x n r.0 (lookup (zipped (names_of fs) (read_fields k fs r.1).0) n) (is_among n (names_of fs)) (fields_present k fs r.1 n)

-- the row variable behind a record
row_fronts : (l : Fronts) (f : List ℕ → Slot) (xs : List (List ℕ)) (t : Option (List ℕ)) (ns : List Seen) (ps : List Front) →
    ((n : List ℕ) → FrontedSlot ps (f n)) → ((n : List ℕ) → Present (f n) (is_among n xs)) → RowAfter l xs t → AreFronts l ns ps →
    Grown l (read_row t ns).1 ps (λ z. Fronted z (fields f (read_row t ns).0))
row_fronts l f xs None ns ps h p a b = record { fronts = ps; begins = same ps; beside = b; holds = (h, λ r e. absurd (cc)) }
row_fronts l f xs (Some x) ns ps h p a b =
    let g = noting l (seen.Row x) (l x) (λ n. refl) ns ps b in
    record {
      fronts = g.fronts;
      begins = g.begins;
      beside = g.beside;
      holds = (
        λ n. slot_grown ps g.fronts (f n) g.begins (h n),
        λ r e.
            let i : number (seen.Row x) ns ≡ r = some_is (number (seen.Row x) ns) r e in
            let P : ℕ → Type 0 = λ z. (z < length g.fronts) × ((n : List ℕ) → Present (f n) (at g.fronts z n)) in
            subst P i (g.holds.0, λ n. let Q : Bool → Type 0 = λ z. Present (f n) z in subst Q (sym (g.holds.1 n ∙ a n)) (p n)),
      );
    }
  where
    slot_grown : (ps qs : List Front) (x : Slot) → Begins ps qs → FrontedSlot ps x → FrontedSlot qs x
    slot_grown ps qs none b h = tt
    slot_grown ps qs (some t) b h = grown ps qs t b h

abbrev Leaves : Fronts → Term × List Seen → List Front → Type 0
Leaves l r ps = Grown l r.1 ps (λ z. Fronted z r.0)

abbrev AllLeft : Fronts → List Term × List Seen → List Front → Type 0
AllLeft l r ps = Grown l r.1 ps (λ z. AllFronted z r.0)

mutual
  fronts_said : (l : Fronts) (k : Known) → AllGood k → (s : Syntax) → KeepsFronts l s → (ns : List Seen) (ps : List Front) → AreFronts l ns ps → Leaves l (read k s ns) ps
  fronts_said l k g bool h ns ps b = record { fronts = ps; begins = same ps; beside = b; holds = tt }
  fronts_said l k g int h ns ps b = record { fronts = ps; begins = same ps; beside = b; holds = tt }
  fronts_said l k g str h ns ps b = record { fronts = ps; begins = same ps; beside = b; holds = tt }
  fronts_said l k g (named x) h ns ps b = record { fronts = ps; begins = same ps; beside = b; holds = tt }
  fronts_said l k g (variable x) h ns ps b =
      let r = noting l (seen.Type x) (λ n. false) tt ns ps b in
      record { fronts = r.fronts; begins = r.begins; beside = r.beside; holds = r.holds.0 }
  fronts_said l k g (alias x) h ns ps b = alias_fronts l (find k x) ns ps (found_good k g x) b
  fronts_said l k g (set s) h ns ps b =
      let r = fronts_said l k g s h ns ps b in
      record { fronts = r.fronts; begins = r.begins; beside = r.beside; holds = (tt, r.holds) }
  fronts_said l k g (seq s) h ns ps b =
      let r = fronts_said l k g s h ns ps b in
      record { fronts = r.fronts; begins = r.begins; beside = r.beside; holds = (tt, r.holds) }
  fronts_said l k g (function s t) h ns ps b =
      let m = read k s ns in
      let r = fronts_said l k g s h.0 ns ps b in
      let q = fronts_said l k g t h.1 m.1 r.fronts r.beside in
      record { fronts = q.fronts; begins = further ps r.fronts q.fronts r.begins q.begins; beside = q.beside; holds = (tt, (grown r.fronts q.fronts m.0 q.begins r.holds, q.holds)) }
  fronts_said l k g (tuple s ss) h ns ps b =
      let m = read k s ns in
      let r = fronts_said l k g s h.0 ns ps b in
      let q = all_said l k g ss h.1 m.1 r.fronts r.beside in
      record {
        fronts = q.fronts;
        begins = further ps r.fronts q.fronts r.begins q.begins;
        beside = q.beside;
        holds = (tt, (grown r.fronts q.fronts m.0 q.begins r.holds, rows_fronted q.fronts (read_all k ss m.1).0 q.holds));
      }
  fronts_said l k g (record_of x s fs t) h ns ps b =
      let m = read k s ns in
      let f = read_fields k fs m.1 in
      let r = fronts_said l k g s h.0 ns ps b in
      let q = fields_kept l k g fs h.1 m.1 r.fronts r.beside in
      let xs = x ∷ names_of fs in
      let ts = m.0 ∷ f.0 in
      let all : AllFronted q.fronts ts = (grown r.fronts q.fronts m.0 q.begins r.holds, q.holds) in
      let j = row_fronts l (lookup (zipped xs ts)) xs t f.1 q.fronts (slots_fronted q.fronts xs ts all)
      (λ n. present_at x n m.0 (lookup (zipped (names_of fs) f.0) n) (is_among n (names_of fs)) (fields_present k fs m.1 n)) h.2 q.beside in
      record { fronts = j.fronts; begins = further ps q.fronts j.fronts (further ps r.fronts q.fronts r.begins q.begins) j.begins; beside = j.beside; holds = j.holds }
  fronts_said l k g (constant t) h ns ps b =
      let r = fronts_said l k g t h ns ps b in
      record { fronts = r.fronts; begins = r.begins; beside = r.beside; holds = (tt, (tt, r.holds)) }
  fronts_said l k g (operator s ss t) h ns ps b =
      let m = read k s ns in
      let a = read_all k ss m.1 in
      let r = fronts_said l k g s h.0 ns ps b in
      let q = all_said l k g ss h.1 m.1 r.fronts r.beside in
      let j = fronts_said l k g t h.2 a.1 q.fronts q.beside in
      let both_grown = further r.fronts q.fronts j.fronts q.begins j.begins in
      record {
        fronts = j.fronts;
        begins = further ps r.fronts j.fronts r.begins both_grown;
        beside = j.beside;
        holds = (tt, ((grown r.fronts j.fronts m.0 both_grown r.holds, rows_fronted j.fronts a.0 (all_grown q.fronts j.fronts a.0 j.begins q.holds)), j.holds));
      }
  fronts_said l k g (parens s) h ns ps b = fronts_said l k g s h ns ps b

  all_said : (l : Fronts) (k : Known) → AllGood k → (ss : Syntaxes) → AllKeep l ss → (ns : List Seen) (ps : List Front) → AreFronts l ns ps → AllLeft l (read_all k ss ns) ps
  all_said l k g end h ns ps b = record { fronts = ps; begins = same ps; beside = b; holds = tt }
  all_said l k g (more s ss) h ns ps b =
      let m = read k s ns in
      let r = fronts_said l k g s h.0 ns ps b in
      let q = all_said l k g ss h.1 m.1 r.fronts r.beside in
      record { fronts = q.fronts; begins = further ps r.fronts q.fronts r.begins q.begins; beside = q.beside; holds = (grown r.fronts q.fronts m.0 q.begins r.holds, q.holds) }

  fields_kept : (l : Fronts) (k : Known) → AllGood k → (fs : Fields) → FieldsKeep l fs → (ns : List Seen) (ps : List Front) → AreFronts l ns ps → AllLeft l (read_fields k fs ns) ps
  fields_kept l k g last h ns ps b = record { fronts = ps; begins = same ps; beside = b; holds = tt }
  fields_kept l k g (also n s fs) h ns ps b =
      let m = read k s ns in
      let r = fronts_said l k g s h.0 ns ps b in
      let q = fields_kept l k g fs h.1 m.1 r.fronts r.beside in
      record { fronts = q.fronts; begins = further ps r.fronts q.fronts r.begins q.begins; beside = q.beside; holds = (grown r.fronts q.fronts m.0 q.begins r.holds, q.holds) }

-- ---- what a text says

said_good : (k : Known) → AllGood k → (text : List ℕ) (s : Syntax) → IsTypeText text s → Good (read k s []).0 (length (read k s []).1)
said_good k g text s h =
    let l = h.fronts.0 in
    let r = fronts_said l k g s h.fronts.1 [] [] tt in
    record { text = text_said k g s h.formed []; fronts = r.fronts; count = sym (many l (read k s []).1 r.fronts r.beside); fronted = r.holds }

good_append : (k j : Known) → AllGood k → AllGood j → AllGood (k ++ j)
good_append [] j g h = h
good_append (a ∷ k) j g h = (g.0, good_append k j g.1 h)

counts_good : (k : Known) (a : List ℕ × List ℕ) (j : Known) → Counts k a j → AllGood k → AllGood j
counts_good k a j (inl c) g =
    let P : Known → Type 0 = λ z. AllGood z in
    subst P (sym c.3) (good_append k _ g (said_good k g a.1 c.0 c.1, tt))
counts_good k a j (inr c) g = let P : Known → Type 0 = λ z. AllGood z in subst P (sym c.1) g

knows_good : (rest : List (List ℕ × List ℕ)) (k j : Known) → Knows k rest j → AllGood k → AllGood j
knows_good [] k j h g = let P : Known → Type 0 = λ z. AllGood z in subst P (sym h) g
knows_good (a ∷ rest) k j h g = knows_good rest h.0 j h.2 (counts_good k a h.0 h.1 g)

-- by the aliases that are known
pub known_said : (aliases : List (List ℕ × List ℕ)) (k : Known) → Knows [] aliases k → (text : List ℕ) (s : Syntax) → IsTypeText text s →
    (ps : List Front) × (length ps ≡ length (read k s []).1) × Fronted ps (read k s []).0
known_said aliases k h text s e = let g = said_good k (knows_good aliases [] k h tt) text s e in (g.fronts, g.count, g.fronted)

pub said_fronted : (text : List ℕ) (s : Syntax) → IsTypeText text s → (ps : List Front) × (length ps ≡ length (read [] s []).1) × Fronted ps (read [] s []).0
said_fronted text s h = let g = said_good [] tt text s h in (g.fronts, g.count, g.fronted)

-- ---- the type whose variables were renamed

mutual
  text_back : (f g : ℕ → ℕ) (t : Term) → HasText (renamed f g t) → HasText t
  text_back f g (var v) h = tt
  text_back f g (con BoolHead) h = tt
  text_back f g (con IntHead) h = tt
  text_back f g (con StrHead) h = tt
  text_back f g (con (NamedHead x)) h = h
  text_back f g (app (con SetHead) a) h = text_back f g a h
  text_back f g (app (con SeqHead) a) h = text_back f g a h
  text_back f g (app (con FunHead) (app a b)) h = (text_back f g a h.0, text_back f g b h.1)
  text_back f g (app (con TupHead) (app a r)) h = (text_back f g a h.0, texts_back f g r h.1)
  text_back f g (app (con OperHead) (app r t)) h = (texts_back f g r h.0, text_back f g t h.1)
  text_back f g (fields p k) h =
      (λ x. field_back f g x (p x) (h.0 x), (let n = h.1.0 in let s = some_back f g (p n) h.1.1 h.1.2 in (n, s.0, s.1)))
  text_back f g t h = absurd (h)

  texts_back : (f g : ℕ → ℕ) (t : Term) → HaveTexts (renamed f g t) → HaveTexts t
  texts_back f g (app a r) h = (text_back f g a h.0, texts_back f g r h.1)
  texts_back f g (con EndHead) h = tt
  texts_back f g t h = absurd (h)

  field_back : (f g : ℕ → ℕ) (x : List ℕ) (s : Slot) → FieldHasText x (renamed_slot f g s) → FieldHasText x s
  field_back f g x none h = tt
  field_back f g x (some t) h = (h.0, text_back f g t h.1)

  some_back : (f g : ℕ → ℕ) (s : Slot) (t : Term) → renamed_slot f g s ≡ some t → (u : Term) × (s ≡ some u)
  some_back f g none t e = absurd (cc)
  some_back f g (some u) t e = (u, refl)

present_back : (f g : ℕ → ℕ) (s : Slot) (b : Bool) → Present (renamed_slot f g s) b → Present s b
present_back f g none b h = h
present_back f g (some t) b h = h

mutual
  sorted_back : (f g : ℕ → ℕ) (ps : List Front) (t : Term) → Fronted ps (renamed f g t) → Sorted (λ r. at ps (g r)) t
  sorted_back f g ps (var v) h = tt
  sorted_back f g ps (con c) h = tt
  sorted_back f g ps (app a b) h = (sorted_back f g ps a h.0, sorted_back f g ps b h.1)
  sorted_back f g ps (fields p k) h = (
    λ n. slot_back f g ps (p n) (h.0 n),
    λ r e n.
        let i : option_map g k ≡ Some (g r) = ap (λ z. option_map g z) e in
        present_back f g (p n) (at ps (g r) n) ((h.1 (g r) i).1 n),
  )

  slot_back : (f g : ℕ → ℕ) (ps : List Front) (s : Slot) → FrontedSlot ps (renamed_slot f g s) → SortedSlot (λ r. at ps (g r)) s
  slot_back f g ps none h = tt
  slot_back f g ps (some t) h = sorted_back f g ps t h

-- the type that a text says, or that it says with its variables renamed
pub said_text : (aliases : List (List ℕ × List ℕ)) (text : List ℕ) (u t : Term) (f g : ℕ → ℕ) → IsReadAs aliases text u → u ≡ renamed f g t → HasText t
said_text aliases text u t f g h e =
    let k = knows_good aliases [] h.known h.knows tt in
    let P : Term → Type 0 = λ z. HasText z in
    text_back f g t (subst P (sym h.says ∙ e) (said_good h.known k text h.syntax_of h.is_text).text)

pub said_sorted : (aliases : List (List ℕ × List ℕ)) (text : List ℕ) (u t : Term) (f g : ℕ → ℕ) → IsReadAs aliases text u → u ≡ renamed f g t → (l : Sides) × Sorted l t
said_sorted aliases text u t f g h e =
    let k = knows_good aliases [] h.known h.knows tt in
    let r = said_good h.known k text h.syntax_of h.is_text in
    let P : Term → Type 0 = λ z. Fronted r.fronts z in
    ((λ q. at r.fronts (g q)), sorted_back f g r.fronts t (subst P (sym h.says ∙ e) r.fronted))
