-- Each state that is reached can be led to the end of a type.
use Rattle.std.proofs.Common.{◌≡◌, ℕ, Bool, true, false, ◌&&◌, inl, inr, List, [], ◌∷◌, ◌++◌, refl, ap, sym, ◌∙◌, subst, codes, Option, Some, None, IsTrue}
use Rattle.std.specs.Prelude.{◌||◌, not, bytes_eq, if◌then◌else◌}
use Rattle.std.proofs.lemmas.Bool.{cases_Bool}
use Rattle.std.proofs.lemmas.Slice.Eq.{bytes_eq-Decides}
use Rattle.snowcat_rows.specs.declared.marks.Mark.{Mark}
use Rattle.snowcat_rows.specs.declared.marks.Mark.TheVariants as mark
use Rattle.snowcat_rows.specs.declared.marks.Frame.{Frame}
use Rattle.snowcat_rows.specs.declared.marks.Frame.TheVariants as frame
use Rattle.snowcat_rows.specs.declared.marks.Mode.{Mode}
use Rattle.snowcat_rows.specs.declared.marks.Mode.TheVariants as mode
use Rattle.snowcat_rows.specs.declared.marks.Sign.{Sign}
use Rattle.snowcat_rows.specs.declared.marks.Sign.TheVariants as sign
use Rattle.snowcat_rows.specs.TypeTexts.{is_variable, is_name, is_among, Fronts}
use Rattle.snowcat_rows.specs.inner.Machine.{State, Rows, sign_of, behind_first, can_name, can_end, some_names, row_fits, same_names, covers, unwind, word_mark, ended_word, begin_close, at_begin, at_head, name_word, at_name, called_colon, called_end, at_called, at_closed, on_comma, on_close, on_right, on_finish, at_end, at_mode, bind, onward, begun, ended, whole, gather}
use Rattle.snowcat_rows.specs.inner.Fronts.{Agrees}
use Rattle.snowcat_rows.proofs.Words.{to_yes, both_true, itself}
use Rattle.snowcat_rows.proofs.Runs.{at, agrees_append}

-- ---- what holds of each state

abbrev pub Consistent : Rows → Type 0
Consistent rs = (l : Fronts) × Agrees l rs

-- no names of fields are read below
abbrev pub Shut : List Frame → Type 0
Shut [] = Unit {0}
Shut (frame.Fields ns ∷ fs) = ⊥
Shut (f ∷ fs) = Shut fs

abbrev pub Naming : List Frame → Type 0
Naming (frame.Fields ns ∷ fs) = Shut fs
Naming fs = ⊥

abbrev pub Calling : List ℕ → Rows → List Frame → Type 0
Calling w rs (frame.Fields ns ∷ fs) = IsTrue (can_name ns w || can_end rs ns w) × Shut fs
Calling w rs fs = ⊥

abbrev pub Shaped : Mode → Rows → List Frame → Type 0
Shaped mode.Name rs fs = Naming fs
Shaped (mode.Called w) rs fs = Calling w rs fs
Shaped m rs fs = Shut fs

abbrev pub Fit : Option State → Type 0
Fit None = Unit {0}
Fit (Some x) = Consistent x.rows × Shaped x.mode x.rows x.frames

if_fit : (b : Bool) (x y : Option State) → (b ≡ true → Fit x) → Fit y → Fit (if b then x else y)
if_fit true x y h k = h refl
if_fit false x y h k = k

shut_unwound : (fs : List Frame) (o : List Mark) → Shut fs → Shut (unwind fs o).0
shut_unwound [] o h = tt
shut_unwound (frame.Function ∷ fs) o h = shut_unwound fs (o ++ mark.Function ∷ []) h
shut_unwound (frame.Operator ∷ fs) o h = shut_unwound fs (o ++ mark.Operator ∷ []) h
shut_unwound (f ∷ fs) o h = h

comma_fit : (fs : List Frame) (rs : Rows) (o : List Mark) → Consistent rs → Shut fs → Fit (on_comma fs rs o)
comma_fit (frame.Tuple b ∷ fs) rs o c h = (c, h)
comma_fit (frame.Paren b ∷ fs) rs o c h = (c, h)
comma_fit (frame.Field ns n ∷ fs) rs o c h = (c, h)
comma_fit fs rs o c h = tt

close_fit : (fs : List Frame) (rs : Rows) (o : List Mark) → Consistent rs → Shut fs → Fit (on_close fs rs o)
close_fit (frame.Set ∷ fs) rs o c h = (c, h)
close_fit (frame.Seq ∷ fs) rs o c h = (c, h)
close_fit (frame.Paren false ∷ fs) rs o c h = (c, h)
close_fit (frame.Paren true ∷ fs) rs o c h = (c, h)
close_fit fs rs o c h = tt

right_fit : (fs : List Frame) (rs : Rows) (o : List Mark) → Consistent rs → Shut fs → Fit (on_right fs rs o)
right_fit (frame.Tuple b ∷ fs) rs o c h = (c, h)
right_fit fs rs o c h = tt

finish_fit : (fs : List Frame) (rs : Rows) (o : List Mark) → Consistent rs → Shut fs → Fit (on_finish fs rs o)
finish_fit (frame.Field ns n ∷ fs) rs o c h = (c, h)
finish_fit fs rs o c h = tt

end_fit : (b : Bool) (s : Sign) (fs : List Frame) (rs : Rows) (o : List Mark) → Consistent rs → Shut fs → Fit (at_end b s fs rs o)
end_fit b sign.Arrow fs rs o c h = (c, h)
end_fit false sign.Result fs rs o c h = tt
end_fit true sign.Result fs rs o c h = (c, h)
end_fit b sign.Comma fs rs o c h = comma_fit (unwind fs o).0 rs (unwind fs o).1 c (shut_unwound fs o h)
end_fit b sign.Close fs rs o c h = close_fit (unwind fs o).0 rs (unwind fs o).1 c (shut_unwound fs o h)
end_fit b sign.Right fs rs o c h = right_fit (unwind fs o).0 rs (unwind fs o).1 c (shut_unwound fs o h)
end_fit b sign.Finish fs rs o c h = finish_fit (unwind fs o).0 rs (unwind fs o).1 c (shut_unwound fs o h)
end_fit b s fs rs o c h = tt

ended_fit : (m : Option Mark) (fs : List Frame) (rs : Rows) (o : List Mark) → Consistent rs → Shut fs → Fit (ended_word m fs rs o)
ended_fit None fs rs o c h = tt
ended_fit (Some m) fs rs o c h = (c, h)

empty_fit : (fs : List Frame) (rs : Rows) (o : List Mark) → Consistent rs → Shut fs → Fit (begin_close fs rs o)
empty_fit (frame.Paren false ∷ fs) rs o c h = (c, h)
empty_fit fs rs o c h = tt

begin_fit : (s : Sign) (w : List ℕ) (fs : List Frame) (rs : Rows) (o : List Mark) → Consistent rs → Shut fs → Fit (at_begin s w fs rs o)
begin_fit sign.Word w fs rs o c h =
    if_fit (bytes_eq w (codes "Set")) _ _ (λ e. (c, h)) (if_fit (bytes_eq w (codes "Seq")) _ _ (λ e. (c, h)) (ended_fit (word_mark w) fs rs o c h))
begin_fit sign.Alias w fs rs o c h = if_fit (is_name (behind_first w)) _ _ (λ e. (c, h)) tt
begin_fit sign.Open w fs rs o c h = (c, h)
begin_fit sign.Left w fs rs o c h = (c, h)
begin_fit sign.Begin w fs rs o c h = (c, h)
begin_fit sign.Close w fs rs o c h = empty_fit fs rs o c h
begin_fit s w fs rs o c h = tt

head_fit : (s : Sign) (fs : List Frame) (rs : Rows) (o : List Mark) → Consistent rs → Shut fs → Fit (at_head s fs rs o)
head_fit sign.Open fs rs o c h = (c, h)
head_fit s fs rs o c h = tt

word_fit : (w : List ℕ) (fs : List Frame) (rs : Rows) (o : List Mark) → Consistent rs → Naming fs → Fit (name_word w fs rs o)
word_fit w (frame.Fields ns ∷ fs) rs o c h = if_fit (can_name ns w || can_end rs ns w) _ _ (λ e. (c, (to_yes (can_name ns w || can_end rs ns w) e, h))) tt
word_fit w fs rs o c h = tt

name_fit : (s : Sign) (w : List ℕ) (fs : List Frame) (rs : Rows) (o : List Mark) → Consistent rs → Naming fs → Fit (at_name s w fs rs o)
name_fit sign.Word w fs rs o c h = word_fit w fs rs o c h
name_fit s w fs rs o c h = tt

-- ---- the fronts of row variables

abbrev with_row : Fronts → List ℕ → List (List ℕ) → Fronts
with_row l r ns q n = if bytes_eq r q then is_among n ns else l q n

covered : (xs ys : List (List ℕ)) (n : List ℕ) → covers xs ys ≡ true → is_among n xs ≡ true → is_among n ys ≡ true
covered [] ys n h k = absurd (cc)
covered (x ∷ xs) ys n h k =
    let p = both_true (is_among x ys) (covers xs ys) (to_yes (covers (x ∷ xs) ys) h) in
    elim (cases_Bool (bytes_eq n x)) [
      | inl e ↦ ap (λ z. is_among z ys) ((bytes_eq-Decides n x).0 e) ∙ p.0
      | inr e ↦ covered xs ys n p.1 (let q : is_among n (x ∷ xs) ≡ is_among n xs = rw e refl in sym q ∙ k)
    ]

same_test : (a b : Bool) → (a ≡ true → b ≡ true) → (b ≡ true → a ≡ true) → a ≡ b
same_test true b h k = sym (h refl)
same_test false true h k = k refl
same_test false false h k = refl

same_among : (xs ys : List (List ℕ)) (n : List ℕ) → same_names xs ys ≡ true → is_among n xs ≡ is_among n ys
same_among xs ys n h =
    let p = both_true (covers xs ys) (covers ys xs) (to_yes (same_names xs ys) h) in
    same_test (is_among n xs) (is_among n ys) (covered xs ys n p.0) (covered ys xs n p.1)

row_test : (q r : List ℕ) (a b : Bool) → bytes_eq r q ≡ true → (not (bytes_eq q r) || a) ≡ true → a ≡ true
row_test q r a b e h = let k : bytes_eq q r ≡ true = (bytes_eq-Decides q r).1 (sym ((bytes_eq-Decides r q).0 e)) in let p : (not (bytes_eq q r) || a) ≡ a = rw k refl in sym p ∙ h

with_agrees : (l : Fronts) (r : List ℕ) (ns : List (List ℕ)) (rs : Rows) → row_fits rs r ns ≡ true → Agrees l rs → Agrees (with_row l r ns) rs
with_agrees l r ns [] f a = tt
with_agrees l r ns (q ∷ qs) f a =
    let p = both_true (not (bytes_eq q.0 r) || same_names q.1 ns) (row_fits qs r ns) (to_yes (row_fits (q ∷ qs) r ns) f) in (
      λ n. elim (cases_Bool (bytes_eq r q.0)) [
        | inl e ↦ rw e (sym (same_among q.1 ns n (row_test q.0 r (same_names q.1 ns) true e p.0)))
        | inr e ↦ rw e (a.0 n)
      ],
      with_agrees l r ns qs p.1 a.1,
    )

consistent_more : (rs : Rows) (r : List ℕ) (ns : List (List ℕ)) → Consistent rs → row_fits rs r ns ≡ true → Consistent (rs ++ (r, ns) ∷ [])
consistent_more rs r ns (l, a) f =
    (with_row l r ns, agrees_append (with_row l r ns) rs (r, ns) (with_agrees l r ns rs f a) (λ n. rw (itself r) refl))

colon_fit : (n : List ℕ) (fs : List Frame) (rs : Rows) (o : List Mark) → Consistent rs → Calling n rs fs → Fit (called_colon n fs rs o)
colon_fit n (frame.Fields ns ∷ fs) rs o c h = if_fit (can_name ns n) _ _ (λ e. (c, h.1)) tt
colon_fit n fs rs o c h = tt

row_fit : (n : List ℕ) (fs : List Frame) (rs : Rows) (o : List Mark) → Consistent rs → Calling n rs fs → Fit (called_end n fs rs o)
row_fit n (frame.Fields ns ∷ fs) rs o c h = if_fit (can_end rs ns n) _ _
    (λ e. (consistent_more rs n ns c (both_true (some_names ns && is_variable n) (row_fits rs n ns) (to_yes (can_end rs ns n) e)).1, h.1)) tt
row_fit n fs rs o c h = tt

called_fit : (s : Sign) (n : List ℕ) (fs : List Frame) (rs : Rows) (o : List Mark) → Consistent rs → Calling n rs fs → Fit (at_called s n fs rs o)
called_fit sign.Colon n fs rs o c h = colon_fit n fs rs o c h
called_fit sign.Finish n fs rs o c h = row_fit n fs rs o c h
called_fit s n fs rs o c h = tt

closed_fit : (s : Sign) (fs : List Frame) (rs : Rows) (o : List Mark) → Consistent rs → Shut fs → Fit (at_closed s fs rs o)
closed_fit sign.Result fs rs o c h = (c, h)
closed_fit s fs rs o c h = tt

mode_fit : (m : Mode) (s : Sign) (w : List ℕ) (fs : List Frame) (rs : Rows) (o : List Mark) → Consistent rs → Shaped m rs fs → Fit (at_mode m s w fs rs o)
mode_fit mode.Begins s w fs rs o c h = begin_fit s w fs rs o c h
mode_fit mode.Headed s w fs rs o c h = head_fit s fs rs o c h
mode_fit mode.Name s w fs rs o c h = name_fit s w fs rs o c h
mode_fit (mode.Called n) s w fs rs o c h = called_fit s n fs rs o c h
mode_fit (mode.Ended b) s w fs rs o c h = end_fit b s fs rs o c h
mode_fit mode.Closed s w fs rs o c h = closed_fit s fs rs o c h

pub bind_fit : (x : Option State) (w : List ℕ) → Fit x → Fit (bind x w)
bind_fit None w f = tt
bind_fit (Some x) w f = mode_fit x.mode (sign_of w) w x.frames x.rows x.marks f.0 f.1

pub onward_fit : (ws : List (List ℕ)) (x : Option State) → Fit x → Fit (onward x ws)
onward_fit [] x f = f
onward_fit (w ∷ ws) x f = onward_fit ws (bind x w) (bind_fit x w f)

pub begun_fit : Fit (Some begun)
begun_fit = ((λ r n. false, tt), tt)

-- ---- the way to the end

abbrev pub closing : List Frame → List (List ℕ)
closing [] = []
closing (frame.Set ∷ fs) = codes ")" ∷ closing fs
closing (frame.Seq ∷ fs) = codes ")" ∷ closing fs
closing (frame.Tuple b ∷ fs) = codes ">>" ∷ closing fs
closing (frame.Paren b ∷ fs) = codes ")" ∷ codes "=>" ∷ codes "Int" ∷ closing fs
closing (frame.Fields ns ∷ fs) = []
closing (frame.Field ns n ∷ fs) = codes "}" ∷ closing fs
closing (frame.Function ∷ fs) = closing fs
closing (frame.Operator ∷ fs) = closing fs

abbrev pub Ends : Option State → Type 0
Ends None = ⊥
Ends (Some x) = (ms : List Mark) × (ended x ≡ Some ms)

pub ends_at : (x y : Option State) → y ≡ x → Ends x → Ends y
ends_at x y e h = let P : Option State → Type 0 = λ z. Ends z in subst P (sym e) h

pub closes : (fs : List Frame) → Shut fs → (b : Bool) (gs : List Frame) (rs : Rows) (o p : List Mark) → unwind gs p ≡ unwind fs o → Ends (onward (Some (at (mode.Ended b) gs rs p)) (closing fs))
closes [] h b gs rs o p e = (o, ap whole e)
closes (frame.Set ∷ fs) h b gs rs o p e =
    ends_at _ _ (ap (λ z. onward (on_close z.0 rs z.1) (closing fs)) e) (closes fs h false fs rs (o ++ mark.Set ∷ []) (o ++ mark.Set ∷ []) refl)
closes (frame.Seq ∷ fs) h b gs rs o p e =
    ends_at _ _ (ap (λ z. onward (on_close z.0 rs z.1) (closing fs)) e) (closes fs h false fs rs (o ++ mark.Seq ∷ []) (o ++ mark.Seq ∷ []) refl)
closes (frame.Tuple c ∷ fs) h b gs rs o p e =
    let q = (o ++ gather c ∷ []) ++ mark.Tuple ∷ [] in
    ends_at _ _ (ap (λ z. onward (on_right z.0 rs z.1) (closing fs)) e) (closes fs h false fs rs q q refl)
closes (frame.Paren false ∷ fs) h b gs rs o p e =
    let q = (o ++ mark.One ∷ []) ++ mark.Int ∷ [] in
    ends_at _ _ (ap (λ z. onward (on_close z.0 rs z.1) (codes "=>" ∷ codes "Int" ∷ closing fs)) e) (closes fs h false (frame.Operator ∷ fs) rs (q ++ mark.Operator ∷ []) q refl)
closes (frame.Paren true ∷ fs) h b gs rs o p e =
    let q = (o ++ mark.Join ∷ []) ++ mark.Int ∷ [] in
    ends_at _ _ (ap (λ z. onward (on_close z.0 rs z.1) (codes "=>" ∷ codes "Int" ∷ closing fs)) e) (closes fs h false (frame.Operator ∷ fs) rs (q ++ mark.Operator ∷ []) q refl)
closes (frame.Fields ns ∷ fs) h b gs rs o p e = absurd h
closes (frame.Field ns n ∷ fs) h b gs rs o p e =
    let q = (o ++ gather (some_names ns) ∷ []) ++ mark.Record (ns ++ n ∷ []) None ∷ [] in
    ends_at _ _ (ap (λ z. onward (on_finish z.0 rs z.1) (closing fs)) e) (closes fs h false fs rs q q refl)
closes (frame.Function ∷ fs) h b gs rs o p e = closes fs h b gs rs (o ++ mark.Function ∷ []) p e
closes (frame.Operator ∷ fs) h b gs rs o p e = closes fs h b gs rs (o ++ mark.Operator ∷ []) p e
