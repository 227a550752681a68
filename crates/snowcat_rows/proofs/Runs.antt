-- The pieces of each type are read, and leave its marks.
use Rattle.std.proofs.Common.{◌≡◌, ℕ, Bool, true, false, ◌&&◌, inl, inr, List, [], ◌∷◌, ◌++◌, refl, ap, sym, ◌∙◌, codes, Option, Some, None, IsTrue, append_assoc}
use Rattle.std.specs.Prelude.{◌||◌, not, bytes_eq}
use Rattle.std.proofs.lemmas.Bool.{cases_Bool}
use Rattle.std.proofs.lemmas.Slice.Eq.{bytes_eq-Decides}
use Rattle.snowcat_rows.specs.declared.marks.Mark.{Mark}
use Rattle.snowcat_rows.specs.declared.marks.Mark.TheVariants as mark
use Rattle.snowcat_rows.specs.declared.marks.Frame.{Frame}
use Rattle.snowcat_rows.specs.declared.marks.Frame.TheVariants as frame
use Rattle.snowcat_rows.specs.declared.marks.Mode.{Mode}
use Rattle.snowcat_rows.specs.declared.marks.Mode.TheVariants as mode
use Rattle.snowcat_rows.specs.TypeTexts.{Syntax, Syntaxes, Fields, bool, int, str, named, variable, alias, set, seq, function, tuple, record_of, constant, operator, parens, end, more, last, also, pieces, more_pieces, field_pieces, row_pieces, is_formed, are_formed, fields_formed, is_operand, is_variable, is_name, is_among, are_distinct, names_of, Fronts, KeepsFronts, AllKeep, FieldsKeep, RowAfter, is_row}
use Rattle.snowcat_rows.specs.inner.Machine.{State, Rows, begun, ended, whole, behind, bind, onward, unwind, gather, some_names, can_name, can_end, row_fits, same_names, covers, name_word, on_comma, on_close, on_right, on_finish, at_mode}
use Rattle.snowcat_rows.specs.inner.Marks.{marked, more_marked, fields_marked}
use Rattle.snowcat_rows.specs.inner.Fronts.{Agrees}
use Rattle.snowcat_rows.proofs.Words.{to_yes, split, named_word, variable_word, named_sign, variable_sign, name_sign, both_true, is_yes, itself}

abbrev pub at : Mode → List Frame → Rows → List Mark → State
at m fs rs o = record { mode = m; frames = fs; rows = rs; marks = o }

-- behind an operand
abbrev Stands : Fronts → List Frame → List Mark → Option State → Type 0
Stands l fs o x = (b : Bool) × (rs : Rows) × Agrees l rs × (x ≡ Some (at (mode.Ended b) fs rs o))

-- behind a type
abbrev Reached : Fronts → List Frame → List Mark → Option State → Type 0
Reached l fs o x = (gs : List Frame) × (p : List Mark) × Stands l gs p x × (unwind gs p ≡ unwind fs o)

abbrev Runs : Bool → Fronts → List Frame → List Mark → Option State → Type 0
Runs true l fs o x = Stands l fs o x
Runs false l fs o x = Reached l fs o x

reached : (b : Bool) (l : Fronts) (fs : List Frame) (o : List Mark) (x : Option State) → Runs b l fs o x → Reached l fs o x
reached true l fs o x r = (fs, o, r, refl)
reached false l fs o x r = r

stands : (b : Bool) (l : Fronts) (fs : List Frame) (o : List Mark) (x : Option State) → IsTrue b → Runs b l fs o x → Stands l fs o x
stands true l fs o x h r = r
stands false l fs o x h r = absurd (cc)

pub onward_append : (ps qs : List (List ℕ)) (x : Option State) → onward x (ps ++ qs) ≡ onward (onward x ps) qs
onward_append [] qs x = refl
onward_append (p ∷ ps) qs x = onward_append ps qs (bind x p)

stands_at : (l : Fronts) (fs : List Frame) (o : List Mark) (x y : Option State) → y ≡ x → Stands l fs o x → Stands l fs o y
stands_at l fs o x y e (b, rs, a, h) = (b, rs, a, e ∙ h)

reached_at : (l : Fronts) (fs : List Frame) (o : List Mark) (x y : Option State) → y ≡ x → Reached l fs o x → Reached l fs o y
reached_at l fs o x y e (gs, p, s, u) = (gs, p, stands_at l gs p x y e s, u)

-- behind a type, a piece that closes
comes : (l : Fronts) (fs : List Frame) (o : List Mark) (x : Option State) → Reached l fs o x → (p : List ℕ) (F : List Frame → Rows → List Mark → Option State) →
    ((b : Bool) (gs : List Frame) (rs : Rows) (q : List Mark) → behind (at (mode.Ended b) gs rs q) p ≡ F (unwind gs q).0 rs (unwind gs q).1) →
    (rs : Rows) × Agrees l rs × (bind x p ≡ F (unwind fs o).0 rs (unwind fs o).1)
comes l fs o x (gs, q, (b, rs, a, e), u) p F f = (rs, a, ap (λ z. bind z p) e ∙ f b gs rs q ∙ ap (λ z. F z.0 rs z.1) u)

-- ---- items

abbrev has : Bool → Syntaxes → Bool
has b end = b
has b (more s ss) = has true ss

abbrev held : Bool → Syntaxes → List Mark → List Mark
held b end o = o
held b (more s ss) o = held true ss (marked s (o ++ gather b ∷ []))

has_true : (ss : Syntaxes) → has true ss ≡ true
has_true end = refl
has_true (more s ss) = has_true ss

held_true : (ss : Syntaxes) (o : List Mark) → held true ss o ++ mark.Join ∷ [] ≡ more_marked ss (o ++ mark.Join ∷ [])
held_true end o = refl
held_true (more s ss) o = held_true ss (marked s (o ++ mark.Join ∷ []))

held_false : (ss : Syntaxes) (o : List Mark) → held false ss o ++ gather (has false ss) ∷ [] ≡ more_marked ss (o ++ mark.One ∷ [])
held_false end o = refl
held_false (more s ss) o = ap (λ b. held true ss (marked s (o ++ mark.One ∷ [])) ++ gather b ∷ []) (has_true ss) ∙ held_true ss (marked s (o ++ mark.One ∷ []))

-- ---- fields

abbrev before : List (List ℕ) → List ℕ → Fields → List (List ℕ)
before ns n last = ns
before ns n (also m s gs) = before (ns ++ n ∷ []) m gs

abbrev final : List ℕ → Fields → List ℕ
final n last = n
final n (also m s gs) = final m gs

abbrev held_fields : Bool → Fields → List Mark → List Mark
held_fields b last o = o
held_fields b (also m s gs) o = held_fields true gs (marked s (o ++ gather b ∷ []))

abbrev has_fields : Bool → Fields → Bool
has_fields b last = b
has_fields b (also m s gs) = has_fields true gs

has_fields_true : (gs : Fields) → has_fields true gs ≡ true
has_fields_true last = refl
has_fields_true (also m s gs) = has_fields_true gs

fields_true : (gs : Fields) (o : List Mark) → held_fields true gs o ++ mark.Join ∷ [] ≡ fields_marked gs (o ++ mark.Join ∷ [])
fields_true last o = refl
fields_true (also m s gs) o = fields_true gs (marked s (o ++ mark.Join ∷ []))

fields_false : (gs : Fields) (o : List Mark) → held_fields false gs o ++ gather (has_fields false gs) ∷ [] ≡ fields_marked gs (o ++ mark.One ∷ [])
fields_false last o = refl
fields_false (also m s gs) o = ap (λ b. held_fields true gs (marked s (o ++ mark.One ∷ [])) ++ gather b ∷ []) (has_fields_true gs) ∙ fields_true gs (marked s (o ++ mark.One ∷ []))

some_append : (ns : List (List ℕ)) (n : List ℕ) → some_names (ns ++ n ∷ []) ≡ true
some_append [] n = refl
some_append (m ∷ ns) n = refl

some_before : (gs : Fields) (ns : List (List ℕ)) (n : List ℕ) (b : Bool) → some_names ns ≡ b → some_names (before ns n gs) ≡ has_fields b gs
some_before last ns n b e = e
some_before (also m s gs) ns n b e = some_before gs (ns ++ n ∷ []) m true (some_append ns n)

all_names : (gs : Fields) (ns : List (List ℕ)) (n : List ℕ) → before ns n gs ++ final n gs ∷ [] ≡ ns ++ n ∷ names_of gs
all_names last ns n = refl
all_names (also m s gs) ns n = all_names gs (ns ++ n ∷ []) m ∙ append_assoc ns (n ∷ []) (m ∷ names_of gs)

-- each name is new behind those before it
abbrev New : List (List ℕ) → List (List ℕ) → Type 0
New ns [] = Unit {0}
New ns (m ∷ ms) = (is_among m ns ≡ false) × New (ns ++ m ∷ []) ms

pub not_true : (a : Bool) → not a ≡ true → a ≡ false
not_true true e = absurd (cc)
not_true false e = refl

pub neither : (a b : Bool) → (a || b) ≡ false → (a ≡ false) × (b ≡ false)
neither true b e = absurd (cc)
neither false b e = (refl, e)

pub turned : (x y : List ℕ) → bytes_eq x y ≡ false → bytes_eq y x ≡ false
turned x y e = elim (cases_Bool (bytes_eq y x)) [ inl h ↦ absurd (clash h) | inr h ↦ h ]
  where
    clash : bytes_eq y x ≡ true → ⊥
    clash h = let k : bytes_eq x y ≡ true = (bytes_eq-Decides x y).1 (sym ((bytes_eq-Decides y x).0 h)) in cc

among_append : (y m : List ℕ) (ns : List (List ℕ)) → is_among y ns ≡ false → bytes_eq y m ≡ false → is_among y (ns ++ m ∷ []) ≡ false
among_append y m [] h k = rw k refl
among_append y m (n ∷ ns) h k = let p = neither (bytes_eq y n) (is_among y ns) h in rw p.0 (among_append y m ns p.1 k)

-- none of the names stands before
abbrev Clear : List (List ℕ) → List (List ℕ) → Type 0
Clear ns [] = Unit {0}
Clear ns (m ∷ ms) = (is_among m ns ≡ false) × Clear ns ms

clear_more : (ms ns : List (List ℕ)) (m : List ℕ) → Clear ns ms → is_among m ms ≡ false → Clear (ns ++ m ∷ []) ms
clear_more [] ns m c h = tt
clear_more (y ∷ ms) ns m c h = let p = neither (bytes_eq m y) (is_among m ms) h in (among_append y m ns c.0 (turned m y p.0), clear_more ms ns m c.1 p.1)

new_names : (ms ns : List (List ℕ)) → Clear ns ms → IsTrue (are_distinct ms) → New ns ms
new_names [] ns c d = tt
new_names (m ∷ ms) ns c d =
    let p = both_true (not (is_among m ms)) (are_distinct ms) d in
    (c.0, new_names ms (ns ++ m ∷ []) (clear_more ms ns m c.1 (not_true (is_among m ms) p.0)) (to_yes (are_distinct ms) p.1))

clear_none : (ms : List (List ℕ)) → Clear [] ms
clear_none [] = tt
clear_none (m ∷ ms) = (refl, clear_none ms)

-- ---- rows

pub agrees_append : (l : Fronts) (rs : Rows) (q : List ℕ × List (List ℕ)) → Agrees l rs → ((n : List ℕ) → l q.0 n ≡ is_among n q.1) → Agrees l (rs ++ q ∷ [])
agrees_append l [] q a h = (h, tt)
agrees_append l (r ∷ rs) q a h = (a.0, agrees_append l rs q a.1 h)

covers_all : (xs ys : List (List ℕ)) → ((n : List ℕ) → is_among n xs ≡ true → is_among n ys ≡ true) → covers xs ys ≡ true
covers_all [] ys h = refl
covers_all (x ∷ xs) ys h = rw (h x (rw (itself x) refl)) (covers_all xs ys (λ n k. h n (later (bytes_eq n x) (is_among n xs) k)))
  where
    later : (a b : Bool) → b ≡ true → (a || b) ≡ true
    later true b e = refl
    later false b e = e

same_all : (xs ys : List (List ℕ)) → ((n : List ℕ) → is_among n xs ≡ is_among n ys) → same_names xs ys ≡ true
same_all xs ys h = rw (covers_all xs ys (λ n k. sym (h n) ∙ k)) (covers_all ys xs (λ n k. h n ∙ k))

fits : (l : Fronts) (rs : Rows) (r : List ℕ) (ns : List (List ℕ)) → Agrees l rs → ((n : List ℕ) → l r n ≡ is_among n ns) → row_fits rs r ns ≡ true
fits l [] r ns a h = refl
fits l (q ∷ qs) r ns a h = elim (cases_Bool (bytes_eq q.0 r)) [
  | inl e ↦ rw e (rw (same_all q.1 ns (λ n. sym (a.0 n) ∙ ap (λ z. l z n) ((bytes_eq-Decides q.0 r).0 e) ∙ h n)) (fits l qs r ns a.1 h))
  | inr e ↦ rw e (fits l qs r ns a.1 h)
]

-- ---- types

-- a frame that lists types
record Lists (K : Bool → Frame) : Type 0 where
  commas : (b : Bool) (fs : List Frame) (rs : Rows) (o : List Mark) → on_comma (K b ∷ fs) rs o ≡ Some (at mode.Begins (K true ∷ fs) rs (o ++ gather b ∷ []))
  shut : (b : Bool) (fs : List Frame) (o : List Mark) → unwind (K b ∷ fs) o ≡ (K b ∷ fs, o)

tuples : Lists frame.Tuple
tuples = record { commas = λ b fs rs o. refl; shut = λ b fs o. refl }

parens_list : Lists frame.Paren
parens_list = record { commas = λ b fs rs o. refl; shut = λ b fs o. refl }

start : List Frame → Rows → List Mark → Option State
start fs rs o = Some (at mode.Begins fs rs o)

abbrev begins : List Frame → Rows → List Mark → Option State
begins fs rs o = Some (at mode.Begins fs rs o)

pub named_first : (n : List ℕ) (fs : List Frame) (rs : Rows) (o : List Mark) (ns : List (List ℕ)) → IsTrue (is_name n) → is_among n ns ≡ false →
    bind (bind (Some (at mode.Name (frame.Fields ns ∷ fs) rs o)) n) (codes ":") ≡ begins (frame.Field ns n ∷ fs) rs o
named_first n fs rs o ns h k =
    ap (λ z. bind (at_mode mode.Name z n (frame.Fields ns ∷ fs) rs o) (codes ":")) (name_sign n h)
    ∙ rw (is_yes (is_name n) h) (rw k (rw (is_yes (is_name n) h) (rw k refl)))

row_ends : (r : List ℕ) (fs : List Frame) (rs : Rows) (o : List Mark) (ns : List (List ℕ)) → IsTrue (is_variable r) → can_end rs ns r ≡ true →
    bind (bind (Some (at mode.Name (frame.Fields ns ∷ fs) rs o)) r) (codes "}")
    ≡ Some (at (mode.Ended false) fs (rs ++ (r, ns) ∷ []) (o ++ mark.Record ns (Some r) ∷ []))
row_ends r fs rs o ns h k =
    ap (λ z. bind (at_mode mode.Name z r (frame.Fields ns ∷ fs) rs o) (codes "}")) (variable_sign r h)
    ∙ ap (λ z. bind z (codes "}")) called ∙ rw k refl
  where
    or_true : (a b : Bool) → b ≡ true → (a || b) ≡ true
    or_true true b e = refl
    or_true false b e = e

    called : name_word r (frame.Fields ns ∷ fs) rs o ≡ Some (at (mode.Called r) (frame.Fields ns ∷ fs) rs o)
    called = rw (or_true (can_name ns r) (can_end rs ns r) k) refl

-- the arguments of an operator, behind `)`
arguments : (ss : Syntaxes) (fs : List Frame) (rs : Rows) (o : List Mark) →
    bind (on_close (frame.Paren (has false ss) ∷ fs) rs (held false ss o)) (codes "=>") ≡ begins (frame.Operator ∷ fs) rs (more_marked ss (o ++ mark.One ∷ []))
arguments end fs rs o = refl
arguments (more s ss) fs rs o =
    ap (λ b. bind (on_close (frame.Paren b ∷ fs) rs (held false (more s ss) o)) (codes "=>")) (has_true ss)
    ∙ ap (λ z. begins (frame.Operator ∷ fs) rs z) (held_true ss (marked s (o ++ mark.One ∷ [])))

-- what stands behind the fields of a record
record_end : (l : Fronts) (t : Option (List ℕ)) (n : List ℕ) (gs : Fields) → IsTrue (is_row t) → RowAfter l (n ∷ names_of gs) t →
    (fs : List Frame) (o : List Mark) (y : Option State) → Reached l (frame.Field (before [] n gs) (final n gs) ∷ fs) (held_fields false gs o) y →
    (rs : Rows) × Agrees l rs × (bind (onward y (row_pieces t)) (codes "}") ≡ Some (at (mode.Ended false) fs rs (fields_marked gs (o ++ mark.One ∷ []) ++ mark.Record (n ∷ names_of gs) t ∷ [])))
record_end l None n gs f k fs o y r =
    let c = comes l (frame.Field (before [] n gs) (final n gs) ∷ fs) (held_fields false gs o) y r (codes "}") on_finish (λ b gs rs q. refl) in (
      c.0,
      c.1,
      c.2 ∙ ap (λ b. Some (at (mode.Ended false) fs c.0 ((held_fields false gs o ++ gather b ∷ []) ++ mark.Record (before [] n gs ++ final n gs ∷ []) None ∷ []))) (some_before gs [] n false refl)
          ∙ ap (λ z. Some (at (mode.Ended false) fs c.0 (z ++ mark.Record (before [] n gs ++ final n gs ∷ []) None ∷ []))) (fields_false gs o)
          ∙ ap (λ z. Some (at (mode.Ended false) fs c.0 (fields_marked gs (o ++ mark.One ∷ []) ++ mark.Record z None ∷ []))) (all_names gs [] n),
    )
record_end l (Some w) n gs f k fs o y r =
    let c = comes l (frame.Field (before [] n gs) (final n gs) ∷ fs) (held_fields false gs o) y r (codes ",") on_comma (λ b gs rs q. refl) in
    let p = fields_marked gs (o ++ mark.One ∷ []) in
    let ns = n ∷ names_of gs in (
      c.0 ++ (w, ns) ∷ [],
      agrees_append l c.0 (w, ns) c.1 k,
      ap (λ z. bind (bind z w) (codes "}"))
          (c.2 ∙ ap (λ b. Some (at mode.Name (frame.Fields (before [] n gs ++ final n gs ∷ []) ∷ fs) c.0 (held_fields false gs o ++ gather b ∷ []))) (some_before gs [] n false refl)
          ∙ ap (λ z. Some (at mode.Name (frame.Fields (before [] n gs ++ final n gs ∷ []) ∷ fs) c.0 z)) (fields_false gs o)
          ∙ ap (λ z. Some (at mode.Name (frame.Fields z ∷ fs) c.0 p)) (all_names gs [] n))
          ∙ row_ends w fs c.0 p ns f (rw (is_yes (is_variable w) f) (fits l c.0 w ns c.1 k)),
    )

mutual
  pub runs : (l : Fronts) (s : Syntax) → IsTrue (is_formed s) → KeepsFronts l s → (fs : List Frame) (rs : Rows) → Agrees l rs → (o : List Mark) →
      Runs (is_operand s) l fs (marked s o) (onward (begins fs rs o) (pieces s))
  runs l bool f k fs rs a o = (false, rs, a, refl)
  runs l int f k fs rs a o = (false, rs, a, refl)
  runs l str f k fs rs a o = (false, rs, a, refl)
  runs l (named x) f k fs rs a o = (false, rs, a, ap (λ z. at_mode mode.Begins z x fs rs o) (named_sign x f) ∙ named_word x fs rs o f)
  runs l (variable x) f k fs rs a o = (false, rs, a, ap (λ z. at_mode mode.Begins z x fs rs o) (variable_sign x f) ∙ variable_word x fs rs o f)
  runs l (alias x) f k fs rs a o = (false, rs, a, rw (is_yes (is_name x) f) refl)
  runs l (set s) f k fs rs a o =
      let x = onward (begins (frame.Set ∷ fs) rs o) (pieces s) in
      let c = comes l (frame.Set ∷ fs) (marked s o) x (reached (is_operand s) l _ _ x (runs l s f k (frame.Set ∷ fs) rs a o)) (codes ")") on_close (λ b gs rs q. refl) in
      (false, c.0, c.1, onward_append (pieces s) (codes ")" ∷ []) _ ∙ c.2)
  runs l (seq s) f k fs rs a o =
      let x = onward (begins (frame.Seq ∷ fs) rs o) (pieces s) in
      let c = comes l (frame.Seq ∷ fs) (marked s o) x (reached (is_operand s) l _ _ x (runs l s f k (frame.Seq ∷ fs) rs a o)) (codes ")") on_close (λ b gs rs q. refl) in
      (false, c.0, c.1, onward_append (pieces s) (codes ")" ∷ []) _ ∙ c.2)
  runs l (function s t) f k fs rs a o =
      let h = split (is_operand s && is_formed s) (is_formed t) f in
      let g = split (is_operand s) (is_formed s) h.0 in
      let x = onward (begins fs rs o) (pieces s) in
      let z = stands (is_operand s) l fs (marked s o) x g.0 (runs l s g.1 k.0 fs rs a o) in
      let y = onward (begins (frame.Function ∷ fs) z.1 (marked s o)) (pieces t) in
      reached_at l fs (marked t (marked s o) ++ mark.Function ∷ []) y (onward (begins fs rs o) (pieces s ++ codes "->" ∷ pieces t))
      (onward_append (pieces s) (codes "->" ∷ pieces t) (begins fs rs o) ∙ ap (λ w. onward (bind w (codes "->")) (pieces t)) z.3)
      (reached (is_operand t) l (frame.Function ∷ fs) (marked t (marked s o)) y (runs l t h.1 k.1 (frame.Function ∷ fs) z.1 z.2 (marked s o)))
  runs l (tuple s ss) f k fs rs a o =
      let h = split (is_formed s) (are_formed ss) f in
      let x = onward (begins (frame.Tuple false ∷ fs) rs o) (pieces s) in
      let r = reached (is_operand s) l (frame.Tuple false ∷ fs) (marked s o) x (runs l s h.0 k.0 (frame.Tuple false ∷ fs) rs a o) in
      let q = items l ss frame.Tuple tuples h.1 k.1 false fs (marked s o) x r in
      let c = comes l (frame.Tuple (has false ss) ∷ fs) (held false ss (marked s o)) (onward x (more_pieces ss)) q (codes ">>") on_right (λ b gs rs q. refl) in (
        false,
        c.0,
        c.1,
        onward_append (pieces s ++ more_pieces ss) (codes ">>" ∷ []) (begins (frame.Tuple false ∷ fs) rs o)
            ∙ ap (λ z. bind z (codes ">>")) (onward_append (pieces s) (more_pieces ss) (begins (frame.Tuple false ∷ fs) rs o)) ∙ c.2
            ∙ ap (λ z. Some (at (mode.Ended false) fs c.0 (z ++ mark.Tuple ∷ []))) (held_false ss (marked s o)),
      )
  runs l (record_of n s gs t) f k fs rs a o =
      let h = split (is_name n && is_formed s && fields_formed gs && are_distinct (n ∷ names_of gs)) (is_row t) f in
      let h1 = split (is_name n && is_formed s && fields_formed gs) (are_distinct (n ∷ names_of gs)) h.0 in
      let h2 = split (is_name n && is_formed s) (fields_formed gs) h1.0 in
      let h3 = split (is_name n) (is_formed s) h2.0 in
      let i = begins (frame.Field [] n ∷ fs) rs o in
      let x = onward i (pieces s) in
      let r = reached (is_operand s) l (frame.Field [] n ∷ fs) (marked s o) x (runs l s h3.1 k.0 (frame.Field [] n ∷ fs) rs a o) in
      let y = onward x (field_pieces gs) in
      let q = fields l gs h2.1 k.1 [] n (new_names (n ∷ names_of gs) [] (clear_none (n ∷ names_of gs)) h1.1).1 false refl fs (marked s o) x r in
      let c = record_end l t n gs h.1 k.2 fs (marked s o) y q in (
        false,
        c.0,
        c.1,
        ap (λ z. onward z (pieces s ++ field_pieces gs ++ row_pieces t ++ codes "}" ∷ [])) (named_first n fs rs o [] h3.0 refl)
            ∙ onward_append (pieces s ++ field_pieces gs ++ row_pieces t) (codes "}" ∷ []) i
            ∙ ap (λ z. bind z (codes "}")) (onward_append (pieces s ++ field_pieces gs) (row_pieces t) i ∙ ap (λ z. onward z (row_pieces t)) (onward_append (pieces s) (field_pieces gs) i))
            ∙ c.2,
      )
  runs l (constant t) f k fs rs a o =
      reached (is_operand t) l (frame.Operator ∷ fs) _ _ (runs l t f k (frame.Operator ∷ fs) rs a (o ++ mark.Nothing ∷ []))
  runs l (operator s ss t) f k fs rs a o =
      let h = split (is_formed s && are_formed ss) (is_formed t) f in
      let g = split (is_formed s) (are_formed ss) h.0 in
      let i = begins (frame.Paren false ∷ fs) rs o in
      let x = onward i (pieces s) in
      let r = reached (is_operand s) l (frame.Paren false ∷ fs) (marked s o) x (runs l s g.0 k.0 (frame.Paren false ∷ fs) rs a o) in
      let q = items l ss frame.Paren parens_list g.1 k.1 false fs (marked s o) x r in
      let c = comes l (frame.Paren (has false ss) ∷ fs) (held false ss (marked s o)) (onward x (more_pieces ss)) q (codes ")") on_close (λ b gs rs q. refl) in
      let p = more_marked ss (marked s o ++ mark.One ∷ []) in
      let y = onward (begins (frame.Operator ∷ fs) c.0 p) (pieces t) in
      reached_at l fs (marked t p ++ mark.Operator ∷ []) y (onward i (pieces s ++ more_pieces ss ++ codes ")" ∷ codes "=>" ∷ pieces t))
      (onward_append (pieces s ++ more_pieces ss) (codes ")" ∷ codes "=>" ∷ pieces t) i
      ∙ ap (λ z. onward (bind (bind z (codes ")")) (codes "=>")) (pieces t)) (onward_append (pieces s) (more_pieces ss) i)
      ∙ ap (λ z. onward (bind z (codes "=>")) (pieces t)) c.2
      ∙ ap (λ z. onward z (pieces t)) (arguments ss fs c.0 (marked s o)))
      (reached (is_operand t) l (frame.Operator ∷ fs) (marked t p) y (runs l t h.1 k.2 (frame.Operator ∷ fs) c.0 c.1 p))
  runs l (parens s) f k fs rs a o =
      let x = onward (begins (frame.Paren false ∷ fs) rs o) (pieces s) in
      let c = comes l (frame.Paren false ∷ fs) (marked s o) x (reached (is_operand s) l _ _ x (runs l s f k (frame.Paren false ∷ fs) rs a o)) (codes ")") on_close (λ b gs rs q. refl) in
      (true, c.0, c.1, onward_append (pieces s) (codes ")" ∷ []) _ ∙ c.2)

  items : (l : Fronts) (ss : Syntaxes) (K : Bool → Frame) → Lists K → IsTrue (are_formed ss) → AllKeep l ss → (b : Bool) (fs : List Frame) (o : List Mark) (x : Option State) →
      Reached l (K b ∷ fs) o x → Reached l (K (has b ss) ∷ fs) (held b ss o) (onward x (more_pieces ss))
  items l end K is f k b fs o x r = r
  items l (more s ss) K is f k b fs o x r =
      let h = split (is_formed s) (are_formed ss) f in
      let c = comes l (K b ∷ fs) o x r (codes ",") on_comma (λ b gs rs q. refl) in
      let e = c.2 ∙ ap (λ z. on_comma z.0 c.0 z.1) (is.shut b fs o) ∙ is.commas b fs c.0 o in
      let p = o ++ gather b ∷ [] in
      let y = onward (begins (K true ∷ fs) c.0 p) (pieces s) in
      let q = reached (is_operand s) l (K true ∷ fs) (marked s p) y (runs l s h.0 k.0 (K true ∷ fs) c.0 c.1 p) in
      reached_at l (K (has true ss) ∷ fs) (held true ss (marked s p)) (onward y (more_pieces ss)) (onward x (more_pieces (more s ss)))
      (onward_append (pieces s) (more_pieces ss) (bind x (codes ",")) ∙ ap (λ z. onward (onward z (pieces s)) (more_pieces ss)) e)
      (items l ss K is h.1 k.1 true fs (marked s p) y q)

  fields : (l : Fronts) (gs : Fields) → IsTrue (fields_formed gs) → FieldsKeep l gs → (ns : List (List ℕ)) (n : List ℕ) → New (ns ++ n ∷ []) (names_of gs) →
      (b : Bool) → some_names ns ≡ b → (fs : List Frame) (o : List Mark) (x : Option State) → Reached l (frame.Field ns n ∷ fs) o x →
      Reached l (frame.Field (before ns n gs) (final n gs) ∷ fs) (held_fields b gs o) (onward x (field_pieces gs))
  fields l last f k ns n w b e fs o x r = r
  fields l (also m s gs) f k ns n w b e fs o x r =
      let h = split (is_name m && is_formed s) (fields_formed gs) f in
      let g = split (is_name m) (is_formed s) h.0 in
      let c = comes l (frame.Field ns n ∷ fs) o x r (codes ",") on_comma (λ b gs rs q. refl) in
      let p = o ++ gather b ∷ [] in
      let ms = ns ++ n ∷ [] in
      let i = begins (frame.Field ms m ∷ fs) c.0 p in
      let y = onward i (pieces s) in
      let q = reached (is_operand s) l (frame.Field ms m ∷ fs) (marked s p) y (runs l s g.1 k.0 (frame.Field ms m ∷ fs) c.0 c.1 p) in
      reached_at l (frame.Field (before ms m gs) (final m gs) ∷ fs) (held_fields true gs (marked s p)) (onward y (field_pieces gs)) (onward x (field_pieces (also m s gs)))
      (ap (λ z. onward (bind (bind z m) (codes ":")) (pieces s ++ field_pieces gs)) (c.2 ∙ ap (λ z. Some (at mode.Name (frame.Fields ms ∷ fs) c.0 (o ++ gather z ∷ []))) e)
      ∙ ap (λ z. onward z (pieces s ++ field_pieces gs)) (named_first m fs c.0 p ms g.0 w.0)
      ∙ onward_append (pieces s) (field_pieces gs) i)
      (fields l gs h.1 k.1 ms m w.1 true (some_append ns n) fs (marked s p) y q)

-- the pieces of a type are read, and its marks are left
pub type_read : (l : Fronts) (s : Syntax) → IsTrue (is_formed s) → KeepsFronts l s → (x : State) × (onward (Some begun) (pieces s) ≡ Some x) × (ended x ≡ Some (marked s []))
type_read l s f k =
    let (gs, p, (b, rs, a, e), u) = reached (is_operand s) l [] (marked s []) (onward (begins [] [] []) (pieces s)) (runs l s f k [] [] tt []) in
    (at (mode.Ended b) gs rs p, e, ap whole u)
