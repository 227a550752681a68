-- Each state that is reached stands inside a type.
use Rattle.std.proofs.Common.{◌≡◌, ℕ, Bool, true, false, ◌&&◌, inl, inr, List, [], ◌∷◌, ◌++◌, refl, ap, sym, ◌∙◌, subst, codes, Option, Some, None, IsTrue, append_assoc}
use Rattle.std.specs.Prelude.{◌||◌, not, bytes_eq, if◌then◌else◌}
use Rattle.std.proofs.lemmas.Bool.{cases_Bool}
use Rattle.std.proofs.lemmas.List.{append-nil}
use Rattle.snowcat_rows.specs.declared.marks.Mark.{Mark}
use Rattle.snowcat_rows.specs.declared.marks.Mark.TheVariants as mark
use Rattle.snowcat_rows.specs.declared.marks.Frame.{Frame}
use Rattle.snowcat_rows.specs.declared.marks.Frame.TheVariants as frame
use Rattle.snowcat_rows.specs.declared.marks.Mode.{Mode}
use Rattle.snowcat_rows.specs.declared.marks.Mode.TheVariants as mode
use Rattle.snowcat_rows.specs.declared.marks.Sign.{Sign}
use Rattle.snowcat_rows.specs.declared.marks.Sign.TheVariants as sign
use Rattle.snowcat_rows.specs.LiteralTypes.{is_type_name}
use Rattle.snowcat_rows.specs.TypeTexts.{Syntax, bool, int, str, named, variable, alias, set, seq, function, tuple, constant, operator, parens, pieces, is_formed, are_formed, is_operand, is_variable, is_name, is_among, are_distinct, Fronts, RowAfter}
use Rattle.snowcat_rows.specs.inner.Machine.{State, Rows, sign_of, behind_first, can_name, can_end, some_names, row_fits, unwind, word_mark, ended_word, begin_word, begin_close, at_begin, at_head, name_word, at_name, called_colon, called_end, at_called, at_closed, on_comma, on_close, on_right, on_finish, at_end, at_mode, bind, onward, begun, ended, whole}
use Rattle.snowcat_rows.specs.inner.Fronts.{Agrees}
use Rattle.snowcat_rows.proofs.Words.{to_yes, join, both_true, same_bytes, Signed, signed}
use Rattle.snowcat_rows.proofs.Runs.{not_true}
use Rattle.snowcat_rows.proofs.Endings.{Fit, onward_fit, begun_fit}
use Rattle.snowcat_rows.proofs.Lefts.{Good, items_left, fields_left, some_items, Arguments, arguments_left, GoodArguments, FieldsLeft, Inside, Left, first_item, other_items, all_items_left, first_good, other_good, record_from, record_left, record_good, record_operand, items_snoc, good_snoc, some_snoc, fields_snoc, good_fields_snoc, names_snoc, distinct_snoc}

-- ---- what a state says of the pieces before it

abbrev pub Heading : Fronts → List Frame → List (List ℕ) → Type 0
Heading l (frame.Set ∷ fs) ps = (qs : List (List ℕ)) × Left l fs qs × (ps ≡ qs ++ codes "Set" ∷ [])
Heading l (frame.Seq ∷ fs) ps = (qs : List (List ℕ)) × Left l fs qs × (ps ≡ qs ++ codes "Seq" ∷ [])
Heading l fs ps = ⊥

abbrev pub Single : Fronts → Bool → Syntax → Type 0
Single l true s = (t : Syntax) × (s ≡ parens t) × Good l t
Single l false s = Unit {0}

abbrev pub InMode : Fronts → Mode → List Frame → List (List ℕ) → Type 0
InMode l mode.Begins fs ps = Left l fs ps
InMode l mode.Headed fs ps = Heading l fs ps
InMode l mode.Name fs ps = Left l fs ps
InMode l (mode.Called n) fs ps = (qs : List (List ℕ)) × Left l fs qs × (ps ≡ qs ++ n ∷ [])
InMode l (mode.Ended b) fs ps = (qs : List (List ℕ)) × (s : Syntax) × Left l fs qs × Good l s × IsTrue (is_operand s) × Single l b s × (ps ≡ qs ++ pieces s)
InMode l mode.Closed fs ps = (qs : List (List ℕ)) × (a : Arguments) × Left l fs qs × GoodArguments l a × (ps ≡ qs ++ (codes "(" ∷ arguments_left a ++ codes ")" ∷ []))

-- where the state is there, and its row variables agree
abbrev pub Gives : Fronts → List (List ℕ) → Option State → Type 0
Gives l ps None = Unit {0}
Gives l ps (Some x) = Agrees l x.rows → InMode l x.mode x.frames ps

-- behind a type
abbrev Typed : Fronts → List Frame → List (List ℕ) → Type 0
Typed l fs ps = (qs : List (List ℕ)) × (s : Syntax) × Left l fs qs × Good l s × (ps ≡ qs ++ pieces s)

if_gives : (l : Fronts) (ps : List (List ℕ)) (b : Bool) (x : State) → (b ≡ true → Gives l ps (Some x)) → Gives l ps (if b then Some x else None)
if_gives l ps true x h = h refl
if_gives l ps false x h = tt

-- ---- equations

glue : {qs : List (List ℕ)} (qs0 ws vs : List (List ℕ)) {xs : List (List ℕ)} → qs ≡ qs0 ++ ws → ws ++ vs ≡ xs → qs ++ vs ≡ qs0 ++ xs
glue qs0 ws vs e h = ap (λ z. z ++ vs) e ∙ append_assoc qs0 ws vs ∙ ap (λ z. qs0 ++ z) h

glue_one : {ps : List (List ℕ)} (qs qs0 ws vs : List (List ℕ)) {xs : List (List ℕ)} (p : List ℕ) → ps ≡ qs ++ vs → qs ≡ qs0 ++ ws → (ws ++ vs) ++ p ∷ [] ≡ xs → ps ++ p ∷ [] ≡ qs0 ++ xs
glue_one qs qs0 ws vs p e f h = glue qs0 (ws ++ vs) (p ∷ []) (e ∙ glue qs0 ws vs f refl) h

-- ---- what stands right of arrows

typed_at : (l : Fronts) (fs : List Frame) (ps qs : List (List ℕ)) → qs ≡ ps → Typed l fs ps → Typed l fs qs
typed_at l fs ps qs e (xs, s, L, g, h) = (xs, s, L, g, e ∙ h)

unwound : (l : Fronts) (fs : List Frame) (o : List Mark) (qs : List (List ℕ)) (s : Syntax) → Left l fs qs → Good l s → Typed l (unwind fs o).0 (qs ++ pieces s)
unwound l [] o qs s L g = (qs, s, L, g, refl)
unwound l (frame.Function ∷ fs) o qs s (qs0, ws, L, (a, ga, oa, ew), e) g =
    typed_at l (unwind fs (o ++ mark.Function ∷ [])).0 (qs0 ++ pieces (function a s)) (qs ++ pieces s)
    (glue _ _ _ e (ap (λ z. z ++ pieces s) ew ∙ append_assoc (pieces a) (codes "->" ∷ []) (pieces s)))
    (unwound l fs (o ++ mark.Function ∷ []) qs0 (function a s) L
    (join (is_operand a && is_formed a) (is_formed s) (join (is_operand a) (is_formed a) oa ga.0) g.0, (ga.1, g.1)))
unwound l (frame.Operator ∷ fs) o qs s (qs0, ws, L, (None, ga, ew), e) g =
    typed_at l (unwind fs (o ++ mark.Operator ∷ [])).0 (qs0 ++ pieces (constant s)) (qs ++ pieces s)
    (glue _ _ _ e (ap (λ z. z ++ pieces s) ew))
    (unwound l fs (o ++ mark.Operator ∷ []) qs0 (constant s) L g)
unwound l (frame.Operator ∷ fs) o qs s (qs0, ws, L, (Some a, ga, ew), e) g =
    let f = first_item a.0 a.1 in
    let m = other_items a.0 a.1 in
    let gf = first_good l a.0 a.1 ga.0 ga.1 in
    let gm = other_good l a.0 a.1 ga.0 ga.1 in
    typed_at l (unwind fs (o ++ mark.Operator ∷ [])).0 (qs0 ++ pieces (operator f m s)) (qs ++ pieces s)
    (glue _ _ _ e (ap (λ z. z ++ pieces s) ew ∙ ap (λ z. codes "(" ∷ z) (append_assoc (items_left a.0 ++ pieces a.1) (codes ")" ∷ codes "=>" ∷ []) (pieces s))
    ∙ ap (λ z. codes "(" ∷ z ++ codes ")" ∷ codes "=>" ∷ pieces s) (sym (all_items_left a.0 a.1))))
    (unwound l fs (o ++ mark.Operator ∷ []) qs0 (operator f m s) L
    (join (is_formed f && are_formed m) (is_formed s) (join (is_formed f) (are_formed m) gf.0 gm.0) g.0, (gf.1, gm.1, g.1)))
unwound l (f ∷ fs) o qs s L g = (qs, s, L, g, refl)

-- ---- behind a type

comma_in : (l : Fronts) (fs : List Frame) (rs : Rows) (o : List Mark) (ps : List (List ℕ)) → (Agrees l rs → Typed l fs ps) → Gives l (ps ++ codes "," ∷ []) (on_comma fs rs o)
comma_in l (frame.Tuple b ∷ fs) rs o ps T = λ a.
    let (qs, s, (qs0, ws, L, (ss, g, eb, ew), e1), G, e) = T a in (
      qs0,
      codes "<<" ∷ items_left (ss ++ s ∷ []),
      L,
      (ss ++ s ∷ [], good_snoc l ss s g G, some_snoc ss s, refl),
      glue_one _ _ _ _ (codes ",") e e1 (ap (λ z. (z ++ pieces s) ++ codes "," ∷ []) ew ∙ ap (λ z. codes "<<" ∷ z) (sym (items_snoc ss s))),
    )
comma_in l (frame.Paren b ∷ fs) rs o ps T = λ a.
    let (qs, s, (qs0, ws, L, (ss, g, eb, ew), e1), G, e) = T a in (
      qs0,
      codes "(" ∷ items_left (ss ++ s ∷ []),
      L,
      (ss ++ s ∷ [], good_snoc l ss s g G, some_snoc ss s, refl),
      glue_one _ _ _ _ (codes ",") e e1 (ap (λ z. (z ++ pieces s) ++ codes "," ∷ []) ew ∙ ap (λ z. codes "(" ∷ z) (sym (items_snoc ss s))),
    )
comma_in l (frame.Field ns n ∷ fs) rs o ps T = λ a.
    let (qs, s, (qs0, ws, L, (gs, g, en, m, d, ew), e1), G, e) = T a in
    let xs = codes "{" ∷ (fields_left gs ++ n ∷ codes ":" ∷ pieces s) ++ codes "," ∷ [] in (
      qs0,
      xs,
      L,
      (d, inr (gs, n, s, g, m, G, ap (λ z. z ++ n ∷ []) en, refl)),
      glue_one _ _ _ _ (codes ",") e e1 (ap (λ z. (z ++ pieces s) ++ codes "," ∷ []) ew ∙ ap (λ z. codes "{" ∷ z ++ codes "," ∷ []) (append_assoc (fields_left gs) (n ∷ codes ":" ∷ []) (pieces s))),
    )
comma_in l fs rs o ps T = tt

-- no items are before a single one
single_in : (l : Fronts) (ss : List Syntax) → false ≡ some_items ss → (s : Syntax) → Good l s → (ps qs qs0 ws : List (List ℕ)) → ps ≡ qs ++ pieces s → qs ≡ qs0 ++ ws →
    ws ≡ codes "(" ∷ items_left ss → ps ++ codes ")" ∷ [] ≡ qs0 ++ pieces (parens s)
single_in l [] h s G ps qs qs0 ws e e1 ew = glue_one _ _ _ _ (codes ")") e e1 (ap (λ z. (z ++ pieces s) ++ codes ")" ∷ []) ew)
single_in l (t ∷ ss) h s G ps qs qs0 ws e e1 ew = absurd (cc)

close_in : (l : Fronts) (fs : List Frame) (rs : Rows) (o : List Mark) (ps : List (List ℕ)) → (Agrees l rs → Typed l fs ps) → Gives l (ps ++ codes ")" ∷ []) (on_close fs rs o)
close_in l (frame.Set ∷ fs) rs o ps T = λ a.
    let (qs, s, (qs0, ws, L, ew, e1), G, e) = T a in
    (qs0, set s, L, G, refl, tt, glue_one _ _ _ _ (codes ")") e e1 (ap (λ z. (z ++ pieces s) ++ codes ")" ∷ []) ew))
close_in l (frame.Seq ∷ fs) rs o ps T = λ a.
    let (qs, s, (qs0, ws, L, ew, e1), G, e) = T a in
    (qs0, seq s, L, G, refl, tt, glue_one _ _ _ _ (codes ")") e e1 (ap (λ z. (z ++ pieces s) ++ codes ")" ∷ []) ew))
close_in l (frame.Paren false ∷ fs) rs o ps T = λ a.
    let (qs, s, (qs0, ws, L, (ss, g, eb, ew), e1), G, e) = T a in
    (qs0, parens s, L, G, refl, (s, refl, G), single_in l ss eb s G ps qs qs0 ws e e1 ew)
close_in l (frame.Paren true ∷ fs) rs o ps T = λ a.
    let (qs, s, (qs0, ws, L, (ss, g, eb, ew), e1), G, e) = T a in
    (qs0, Some (ss, s), L, (g, G), glue_one _ _ _ _ (codes ")") e e1 (ap (λ z. (z ++ pieces s) ++ codes ")" ∷ []) ew))
close_in l fs rs o ps T = tt

right_in : (l : Fronts) (fs : List Frame) (rs : Rows) (o : List Mark) (ps : List (List ℕ)) → (Agrees l rs → Typed l fs ps) → Gives l (ps ++ codes ">>" ∷ []) (on_right fs rs o)
right_in l (frame.Tuple b ∷ fs) rs o ps T = λ a.
    let (qs, s, (qs0, ws, L, (ss, g, eb, ew), e1), G, e) = T a in
    let f = first_item ss s in
    let m = other_items ss s in
    let gf = first_good l ss s g G in
    let gm = other_good l ss s g G in (
      qs0,
      tuple f m,
      L,
      (join (is_formed f) (are_formed m) gf.0 gm.0, (gf.1, gm.1)),
      refl,
      tt,
      glue_one _ _ _ _ (codes ">>") e e1 (ap (λ z. (z ++ pieces s) ++ codes ">>" ∷ []) ew ∙ ap (λ z. codes "<<" ∷ z ++ codes ">>" ∷ []) (sym (all_items_left ss s))),
    )
right_in l fs rs o ps T = tt

finish_in : (l : Fronts) (fs : List Frame) (rs : Rows) (o : List Mark) (ps : List (List ℕ)) → (Agrees l rs → Typed l fs ps) → Gives l (ps ++ codes "}" ∷ []) (on_finish fs rs o)
finish_in l (frame.Field ns n ∷ fs) rs o ps T = λ a.
    let (qs, s, (qs0, ws, L, (gs, g, en, m, d, ew), e1), G, e) = T a in
    let D : List (List ℕ) → Type 0 = λ z. IsTrue (are_distinct (z ++ n ∷ [])) in
    let x = fields_left gs ++ n ∷ codes ":" ∷ pieces s in (
      qs0,
      record_from gs n s None,
      L,
      record_good l gs n s None g m G (subst D en d) refl tt,
      record_operand gs n s None,
      tt,
      glue_one _ _ _ _ (codes "}") e e1 (ap (λ z. (z ++ pieces s) ++ codes "}" ∷ []) ew ∙ ap (λ z. codes "{" ∷ z ++ codes "}" ∷ []) (append_assoc (fields_left gs) (n ∷ codes ":" ∷ []) (pieces s))
          ∙ ap (λ z. codes "{" ∷ z ++ codes "}" ∷ []) (sym (append-nil x)) ∙ sym (record_left gs n s None)),
    )
finish_in l fs rs o ps T = tt

typed_unwound : (l : Fronts) (b : Bool) (fs : List Frame) (rs : Rows) (o : List Mark) (ps : List (List ℕ)) → (Agrees l rs → InMode l (mode.Ended b) fs ps) → Agrees l rs → Typed l (unwind fs o).0 ps
typed_unwound l b fs rs o ps T a = let (qs, s, L, G, op, si, e) = T a in typed_at l (unwind fs o).0 (qs ++ pieces s) ps e (unwound l fs o qs s L G)

-- ---- the pieces by modes

-- a type of one word
word_good : (l : Fronts) (w : List ℕ) (m : Mark) → word_mark w ≡ Some m → (s : Syntax) × Good l s × IsTrue (is_operand s) × (pieces s ≡ w ∷ [])
word_good l w m e = elim (cases_Bool (bytes_eq w (codes "Bool"))) [
  | inl h ↦ (bool, (refl, tt), refl, ap (λ z. z ∷ []) (sym (same_bytes w (codes "Bool") h)))
  | inr h ↦ elim (cases_Bool (bytes_eq w (codes "Int"))) [
    | inl i ↦ (int, (refl, tt), refl, ap (λ z. z ∷ []) (sym (same_bytes w (codes "Int") i)))
    | inr i ↦ elim (cases_Bool (bytes_eq w (codes "Str"))) [
      | inl j ↦ (str, (refl, tt), refl, ap (λ z. z ∷ []) (sym (same_bytes w (codes "Str") j)))
      | inr j ↦ elim (cases_Bool (is_type_name w)) [
        | inl k ↦ (named w, (to_yes (is_type_name w) k, tt), refl, refl)
        | inr k ↦ elim (cases_Bool (is_variable w)) [
          | inl n ↦ (variable w, (to_yes (is_variable w) n, tt), refl, refl)
          | inr n ↦ absurd (nothing h i j k n)
        ]
      ]
    ]
  ]
]
  where
    nothing : bytes_eq w (codes "Bool") ≡ false → bytes_eq w (codes "Int") ≡ false → bytes_eq w (codes "Str") ≡ false → is_type_name w ≡ false → is_variable w ≡ false → ⊥
    nothing h i j k n = let q : word_mark w ≡ None = rw h (rw i (rw j (rw k (rw n refl)))) in cc

ended_in : (l : Fronts) (w : List ℕ) (m : Option Mark) → word_mark w ≡ m → (fs : List Frame) (rs : Rows) (o : List Mark) (ps : List (List ℕ)) → (Agrees l rs → Left l fs ps) →
    Gives l (ps ++ w ∷ []) (ended_word m fs rs o)
ended_in l w None h fs rs o ps L = tt
ended_in l w (Some m) h fs rs o ps L = λ a.
    let (s, G, op, e) = word_good l w m h in
    (ps, s, L a, G, op, tt, ap (λ z. ps ++ z) (sym e))

if_in : (l : Fronts) (ps : List (List ℕ)) (b : Bool) (x y : Option State) → (b ≡ true → Gives l ps x) → Gives l ps y → Gives l ps (if b then x else y)
if_in l ps true x y h k = h refl
if_in l ps false x y h k = k

word_in : (l : Fronts) (w : List ℕ) (fs : List Frame) (rs : Rows) (o : List Mark) (ps : List (List ℕ)) → (Agrees l rs → Left l fs ps) → Gives l (ps ++ w ∷ []) (begin_word w fs rs o)
word_in l w fs rs o ps L =
    if_in l (ps ++ w ∷ []) (bytes_eq w (codes "Set")) _ _ (λ e a. (ps, L a, ap (λ z. ps ++ z ∷ []) (same_bytes w (codes "Set") e)))
    (if_in l (ps ++ w ∷ []) (bytes_eq w (codes "Seq")) _ _ (λ e a. (ps, L a, ap (λ z. ps ++ z ∷ []) (same_bytes w (codes "Seq") e)))
    (ended_in l w (word_mark w) refl fs rs o ps L))

-- nothing is between the parentheses
none_in : (ss : List Syntax) → false ≡ some_items ss → (ps qs ws : List (List ℕ)) → ps ≡ qs ++ ws → ws ≡ codes "(" ∷ items_left ss → ps ++ codes ")" ∷ [] ≡ qs ++ (codes "(" ∷ codes ")" ∷ [])
none_in [] h ps qs ws e ew = glue qs ws (codes ")" ∷ []) e (ap (λ z. z ++ codes ")" ∷ []) ew)
none_in (s ∷ ss) h ps qs ws e ew = absurd (cc)

empty_in : (l : Fronts) (fs : List Frame) (rs : Rows) (o : List Mark) (ps : List (List ℕ)) → (Agrees l rs → Left l fs ps) → Gives l (ps ++ codes ")" ∷ []) (begin_close fs rs o)
empty_in l (frame.Paren false ∷ fs) rs o ps T = λ a.
    let (qs, ws, L, (ss, g, eb, ew), e) = T a in
    (qs, None, L, tt, none_in ss eb ps qs ws e ew)
empty_in l fs rs o ps T = tt

begin_in : (l : Fronts) (s : Sign) (p : List ℕ) → Signed p s → (fs : List Frame) (rs : Rows) (o : List Mark) (ps : List (List ℕ)) → (Agrees l rs → Left l fs ps) →
    Gives l (ps ++ p ∷ []) (at_begin s p fs rs o)
begin_in l sign.Word p h fs rs o ps L = word_in l p fs rs o ps L
begin_in l sign.Alias p h fs rs o ps L = if_gives l (ps ++ p ∷ []) (is_name (behind_first p)) _
    (λ e a. (ps, alias (behind_first p), L a, (to_yes (is_name (behind_first p)) e, tt), refl, tt, ap (λ z. ps ++ z ∷ []) h))
begin_in l sign.Open p h fs rs o ps L = λ a. (ps, codes "(" ∷ [], L a, ([], tt, refl, refl), ap (λ z. ps ++ z ∷ []) h)
begin_in l sign.Left p h fs rs o ps L = λ a. (ps, codes "<<" ∷ [], L a, ([], tt, refl, refl), ap (λ z. ps ++ z ∷ []) h)
begin_in l sign.Begin p h fs rs o ps L = λ a. (ps, codes "{" ∷ [], L a, (refl, inl (refl, refl)), ap (λ z. ps ++ z ∷ []) h)
begin_in l sign.Close p h fs rs o ps L =
    let P : List ℕ → Type 0 = λ z. Gives l (ps ++ z ∷ []) (begin_close fs rs o) in subst P (sym h) (empty_in l fs rs o ps L)
begin_in l s p h fs rs o ps L = tt

headed : (l : Fronts) (fs : List Frame) (ps : List (List ℕ)) → Heading l fs ps → Left l fs (ps ++ codes "(" ∷ [])
headed l [] ps h = absurd h
headed l (frame.Set ∷ fs) ps (qs, L, e) = (qs, codes "Set" ∷ codes "(" ∷ [], L, refl, glue qs (codes "Set" ∷ []) (codes "(" ∷ []) e refl)
headed l (frame.Seq ∷ fs) ps (qs, L, e) = (qs, codes "Seq" ∷ codes "(" ∷ [], L, refl, glue qs (codes "Seq" ∷ []) (codes "(" ∷ []) e refl)
headed l (f ∷ fs) ps h = absurd h

head_in : (l : Fronts) (s : Sign) (p : List ℕ) → Signed p s → (fs : List Frame) (rs : Rows) (o : List Mark) (ps : List (List ℕ)) → (Agrees l rs → Heading l fs ps) →
    Gives l (ps ++ p ∷ []) (at_head s fs rs o)
head_in l sign.Open p h fs rs o ps H = λ a. let P : List ℕ → Type 0 = λ z. Left l fs (ps ++ z ∷ []) in subst P (sym h) (headed l fs ps (H a))
head_in l s p h fs rs o ps H = tt

called_in : (l : Fronts) (w : List ℕ) (fs : List Frame) (rs : Rows) (o : List Mark) (ps : List (List ℕ)) → (Agrees l rs → Left l fs ps) → Gives l (ps ++ w ∷ []) (name_word w fs rs o)
called_in l w (frame.Fields ns ∷ fs) rs o ps L = if_gives l (ps ++ w ∷ []) (can_name ns w || can_end rs ns w) _ (λ e a. (ps, L a, refl))
called_in l w fs rs o ps L = tt

name_in : (l : Fronts) (s : Sign) (p : List ℕ) (fs : List Frame) (rs : Rows) (o : List Mark) (ps : List (List ℕ)) → (Agrees l rs → Left l fs ps) → Gives l (ps ++ p ∷ []) (at_name s p fs rs o)
name_in l sign.Word p fs rs o ps L = called_in l p fs rs o ps L
name_in l s p fs rs o ps L = tt

-- the name of a field, behind those before it
abbrev Called : Fronts → List Frame → List ℕ → List (List ℕ) → Type 0
Called l fs n ps = (qs : List (List ℕ)) × Left l fs qs × (ps ≡ qs ++ n ∷ [])

next_field : (l : Fronts) (ns : List (List ℕ)) (n : List ℕ) (ws : List (List ℕ)) → IsTrue (are_distinct ns) → FieldsLeft l ns ws → can_name ns n ≡ true →
    (xs : List (List ℕ)) × Inside l (frame.Field ns n) xs × ((ws ++ n ∷ []) ++ codes ":" ∷ [] ≡ xs)
next_field l ns n ws d (inl (en, ew)) c =
    let k = both_true (is_name n) (not (is_among n ns)) (to_yes (can_name ns n) c) in
    (codes "{" ∷ n ∷ codes ":" ∷ [], ([], tt, en, to_yes (is_name n) k.0, distinct_snoc n ns d (not_true (is_among n ns) k.1), refl), ap (λ z. (z ++ n ∷ []) ++ codes ":" ∷ []) ew)
next_field l ns n ws d (inr (gs, m, s, g, im, G, en, ew)) c =
    let k = both_true (is_name n) (not (is_among n ns)) (to_yes (can_name ns n) c) in
    let y = fields_left gs ++ m ∷ codes ":" ∷ pieces s in (
      codes "{" ∷ fields_left (gs ++ (m, s) ∷ []) ++ n ∷ codes ":" ∷ [],
      (gs ++ (m, s) ∷ [], good_fields_snoc l gs m s g im G, en ∙ sym (names_snoc gs m s), to_yes (is_name n) k.0, distinct_snoc n ns d (not_true (is_among n ns) k.1), refl),
      ap (λ z. (z ++ n ∷ []) ++ codes ":" ∷ []) ew ∙ append_assoc (codes "{" ∷ y ++ codes "," ∷ []) (n ∷ []) (codes ":" ∷ [])
          ∙ ap (λ z. codes "{" ∷ z ++ n ∷ codes ":" ∷ []) (sym (fields_snoc gs m s)),
    )

colon_in : (l : Fronts) (n : List ℕ) (fs : List Frame) (rs : Rows) (o : List Mark) (ps : List (List ℕ)) → (Agrees l rs → Called l fs n ps) → Gives l (ps ++ codes ":" ∷ []) (called_colon n fs rs o)
colon_in l n (frame.Fields ns ∷ fs) rs o ps T = if_gives l (ps ++ codes ":" ∷ []) (can_name ns n) _ (λ c a.
    let (qs, (qs0, ws, L, (d, F), e1), e) = T a in
    let (xs, I, h) = next_field l ns n ws d F c in
    (qs0, xs, L, I, glue_one qs qs0 ws (n ∷ []) (codes ":") e e1 h))
colon_in l n fs rs o ps T = tt

agrees_last : (l : Fronts) (rs : Rows) (q : List ℕ × List (List ℕ)) → Agrees l (rs ++ q ∷ []) → Agrees l rs × ((n : List ℕ) → l q.0 n ≡ is_among n q.1)
agrees_last l [] q a = (tt, a.0)
agrees_last l (r ∷ rs) q a = let k = agrees_last l rs q a.1 in ((a.0, k.0), k.1)

end_record : (l : Fronts) (rs : Rows) (ns : List (List ℕ)) (n : List ℕ) (ws : List (List ℕ)) → IsTrue (are_distinct ns) → FieldsLeft l ns ws → can_end rs ns n ≡ true →
    ((m : List ℕ) → l n m ≡ is_among m ns) → (s : Syntax) × Good l s × IsTrue (is_operand s) × ((ws ++ n ∷ []) ++ codes "}" ∷ [] ≡ pieces s)
end_record l rs ns n ws d (inl (en, ew)) c k = absurd (no_fields ns en c)
  where
    no_fields : (ns : List (List ℕ)) → ns ≡ [] → can_end rs ns n ≡ true → ⊥
    no_fields [] e c = absurd (cc)
    no_fields (m ∷ ns) e c = absurd (cc)
end_record l rs ns n ws d (inr (gs, m, s, g, im, G, en, ew)) c k =
    let h = both_true (some_names ns && is_variable n) (row_fits rs n ns) (to_yes (can_end rs ns n) c) in
    let v = (both_true (some_names ns) (is_variable n) (to_yes (some_names ns && is_variable n) h.0)).1 in
    let D : List (List ℕ) → Type 0 = λ z. IsTrue (are_distinct z) in
    let R : List (List ℕ) → Type 0 = λ z. RowAfter l z (Some n) in
    let y = fields_left gs ++ m ∷ codes ":" ∷ pieces s in (
      record_from gs m s (Some n),
      record_good l gs m s (Some n) g im G (subst D en d) (to_yes (is_variable n) v) (subst R en k),
      record_operand gs m s (Some n),
      ap (λ z. (z ++ n ∷ []) ++ codes "}" ∷ []) ew ∙ ap (λ z. codes "{" ∷ z ++ codes "}" ∷ []) (append_assoc y (codes "," ∷ []) (n ∷ [])) ∙ sym (record_left gs m s (Some n)),
    )

row_in : (l : Fronts) (n : List ℕ) (fs : List Frame) (rs : Rows) (o : List Mark) (ps : List (List ℕ)) → (Agrees l rs → Called l fs n ps) → Gives l (ps ++ codes "}" ∷ []) (called_end n fs rs o)
row_in l n (frame.Fields ns ∷ fs) rs o ps T = if_gives l (ps ++ codes "}" ∷ []) (can_end rs ns n) _ (λ c a.
    let k = agrees_last l rs (n, ns) a in
    let (qs, (qs0, ws, L, (d, F), e1), e) = T k.0 in
    let (s, G, op, h) = end_record l rs ns n ws d F c k.1 in
    (qs0, s, L, G, op, tt, glue_one qs qs0 ws (n ∷ []) (codes "}") e e1 h))
row_in l n fs rs o ps T = tt

behind_name_in : (l : Fronts) (s : Sign) (p : List ℕ) → Signed p s → (n : List ℕ) (fs : List Frame) (rs : Rows) (o : List Mark) (ps : List (List ℕ)) → (Agrees l rs → Called l fs n ps) →
    Gives l (ps ++ p ∷ []) (at_called s n fs rs o)
behind_name_in l sign.Colon p h n fs rs o ps T =
    let P : List ℕ → Type 0 = λ z. Gives l (ps ++ z ∷ []) (called_colon n fs rs o) in subst P (sym h) (colon_in l n fs rs o ps T)
behind_name_in l sign.Finish p h n fs rs o ps T =
    let P : List ℕ → Type 0 = λ z. Gives l (ps ++ z ∷ []) (called_end n fs rs o) in subst P (sym h) (row_in l n fs rs o ps T)
behind_name_in l s p h n fs rs o ps T = tt

closed_in : (l : Fronts) (s : Sign) (p : List ℕ) → Signed p s → (fs : List Frame) (rs : Rows) (o : List Mark) (ps : List (List ℕ)) → (Agrees l rs → InMode l mode.Closed fs ps) →
    Gives l (ps ++ p ∷ []) (at_closed s fs rs o)
closed_in l sign.Result p h fs rs o ps T = λ a.
    let (qs, b, L, g, e) = T a in
    let x = codes "(" ∷ arguments_left b in (
      qs,
      x ++ codes ")" ∷ codes "=>" ∷ [],
      L,
      (b, g, refl),
      ap (λ z. ps ++ z ∷ []) h ∙ glue qs (x ++ codes ")" ∷ []) (codes "=>" ∷ []) e (append_assoc x (codes ")" ∷ []) (codes "=>" ∷ [])),
    )
closed_in l s p h fs rs o ps T = tt

end_in : (l : Fronts) (b : Bool) (s : Sign) (p : List ℕ) → Signed p s → (fs : List Frame) (rs : Rows) (o : List Mark) (ps : List (List ℕ)) → (Agrees l rs → InMode l (mode.Ended b) fs ps) →
    Gives l (ps ++ p ∷ []) (at_end b s fs rs o)
end_in l b sign.Arrow p h fs rs o ps T = λ a.
    let (qs, s, L, G, op, si, e) = T a in
    (qs, pieces s ++ codes "->" ∷ [], L, (s, G, op, refl), ap (λ z. ps ++ z ∷ []) h ∙ glue qs (pieces s) (codes "->" ∷ []) e refl)
end_in l false sign.Result p h fs rs o ps T = tt
end_in l true sign.Result p h fs rs o ps T = λ a.
    let (qs, s, L, G, op, (t, es, gt), e) = T a in (
      qs,
      codes "(" ∷ pieces t ++ codes ")" ∷ codes "=>" ∷ [],
      L,
      (Some ([], t), (tt, gt), refl),
      ap (λ z. ps ++ z ∷ []) h ∙ glue qs (pieces s) (codes "=>" ∷ []) e
          (ap (λ z. pieces z ++ codes "=>" ∷ []) es ∙ ap (λ z. codes "(" ∷ z) (append_assoc (pieces t) (codes ")" ∷ []) (codes "=>" ∷ []))),
    )
end_in l b sign.Comma p h fs rs o ps T =
    let P : List ℕ → Type 0 = λ z. Gives l (ps ++ z ∷ []) (on_comma (unwind fs o).0 rs (unwind fs o).1) in
    subst P (sym h) (comma_in l (unwind fs o).0 rs (unwind fs o).1 ps (typed_unwound l b fs rs o ps T))
end_in l b sign.Close p h fs rs o ps T =
    let P : List ℕ → Type 0 = λ z. Gives l (ps ++ z ∷ []) (on_close (unwind fs o).0 rs (unwind fs o).1) in
    subst P (sym h) (close_in l (unwind fs o).0 rs (unwind fs o).1 ps (typed_unwound l b fs rs o ps T))
end_in l b sign.Right p h fs rs o ps T =
    let P : List ℕ → Type 0 = λ z. Gives l (ps ++ z ∷ []) (on_right (unwind fs o).0 rs (unwind fs o).1) in
    subst P (sym h) (right_in l (unwind fs o).0 rs (unwind fs o).1 ps (typed_unwound l b fs rs o ps T))
end_in l b sign.Finish p h fs rs o ps T =
    let P : List ℕ → Type 0 = λ z. Gives l (ps ++ z ∷ []) (on_finish (unwind fs o).0 rs (unwind fs o).1) in
    subst P (sym h) (finish_in l (unwind fs o).0 rs (unwind fs o).1 ps (typed_unwound l b fs rs o ps T))
end_in l b s p h fs rs o ps T = tt

mode_in : (l : Fronts) (m : Mode) (s : Sign) (p : List ℕ) → Signed p s → (fs : List Frame) (rs : Rows) (o : List Mark) (ps : List (List ℕ)) → (Agrees l rs → InMode l m fs ps) →
    Gives l (ps ++ p ∷ []) (at_mode m s p fs rs o)
mode_in l mode.Begins s p h fs rs o ps T = begin_in l s p h fs rs o ps T
mode_in l mode.Headed s p h fs rs o ps T = head_in l s p h fs rs o ps T
mode_in l mode.Name s p h fs rs o ps T = name_in l s p fs rs o ps T
mode_in l (mode.Called n) s p h fs rs o ps T = behind_name_in l s p h n fs rs o ps T
mode_in l (mode.Ended b) s p h fs rs o ps T = end_in l b s p h fs rs o ps T
mode_in l mode.Closed s p h fs rs o ps T = closed_in l s p h fs rs o ps T

bind_in : (l : Fronts) (x : Option State) (ps : List (List ℕ)) (p : List ℕ) → Gives l ps x → Gives l (ps ++ p ∷ []) (bind x p)
bind_in l None ps p g = tt
bind_in l (Some x) ps p g = mode_in l x.mode (sign_of p) p (signed p) x.frames x.rows x.marks ps g

onward_in : (l : Fronts) (qs : List (List ℕ)) (x : Option State) (ps : List (List ℕ)) → Gives l ps x → Gives l (ps ++ qs) (onward x qs)
onward_in l [] x ps g = let P : List (List ℕ) → Type 0 = λ z. Gives l z x in subst P (sym (append-nil ps)) g
onward_in l (q ∷ qs) x ps g = let P : List (List ℕ) → Type 0 = λ z. Gives l z (onward (bind x q) qs) in subst P (append_assoc ps (q ∷ []) qs) (onward_in l qs (bind x q) (ps ++ q ∷ []) (bind_in l x ps q g))

-- ---- the end of a text

ended_good : (l : Fronts) (m : Mode) (fs : List Frame) (rs : Rows) (o : List Mark) (ps : List (List ℕ)) (ms : List Mark) → InMode l m fs ps →
    ended (record { mode = m; frames = fs; rows = rs; marks = o }) ≡ Some ms → (s : Syntax) × Good l s × (pieces s ≡ ps)
ended_good l (mode.Ended b) fs rs o ps ms (qs, s, L, G, op, si, e) h =
    let (xs, t, M, H, f) = unwound l fs o qs s L G in
    (t, H, sym (none_left l (unwind fs o) xs ms M h (qs ++ pieces s) (pieces t) f) ∙ sym e)
  where
    none_left : (l : Fronts) (u : List Frame × List Mark) (xs : List (List ℕ)) (ms : List Mark) → Left l u.0 xs → whole u ≡ Some ms → (ps ts : List (List ℕ)) → ps ≡ xs ++ ts → ps ≡ ts
    none_left l ([], o) xs ms M h ps ts e = e ∙ ap (λ z. z ++ ts) M
    none_left l (f ∷ fs, o) xs ms M h ps ts e = absurd (cc)
ended_good l mode.Begins fs rs o ps ms i h = absurd (cc)
ended_good l mode.Headed fs rs o ps ms i h = absurd (cc)
ended_good l mode.Name fs rs o ps ms i h = absurd (cc)
ended_good l (mode.Called n) fs rs o ps ms i h = absurd (cc)
ended_good l mode.Closed fs rs o ps ms i h = absurd (cc)

-- pieces that are read whole are those of a type
pub pieces_good : (ps : List (List ℕ)) (x : State) (ms : List Mark) → onward (Some begun) ps ≡ Some x → ended x ≡ Some ms → (l : Fronts) × (s : Syntax) × Good l s × (pieces s ≡ ps)
pieces_good ps x ms e h =
    let F : Option State → Type 0 = λ z. Fit z in
    let (l, a) = (subst F e (onward_fit ps (Some begun) begun_fit)).0 in
    let P : Option State → Type 0 = λ z. Gives l ps z in
    let (s, G, k) = ended_good l x.mode x.frames x.rows x.marks ps ms (subst P e (onward_in l ps (Some begun) [] (λ b. refl)) a) h in
    (l, s, G, k)
