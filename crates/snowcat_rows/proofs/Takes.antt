-- Which symbols may come.
use Rattle.std.proofs.Common.{◌≡◌, ℕ, Bool, true, false, ◌&&◌, List, [], ◌∷◌, ◌++◌, reverse, refl, ap, sym, ◌∙◌, codes, Some, None}
use Rattle.std.specs.Prelude.{◌||◌, if◌then◌else◌}
use Rattle.std.specs.List.{list_any}
use Rattle.std.specs.Option.{is_some}
use Rattle.snowcat_rows.specs.declared.marks.Frame.{Frame}
use Rattle.snowcat_rows.specs.declared.marks.Frame.TheVariants as frame
use Rattle.snowcat_rows.specs.declared.marks.Mark.{Mark}
use Rattle.snowcat_rows.specs.declared.marks.Mark.TheVariants as mark
use Rattle.snowcat_rows.specs.declared.marks.Mode.{Mode}
use Rattle.snowcat_rows.specs.declared.marks.Mode.TheVariants as mode
use Rattle.snowcat_rows.specs.declared.marks.Sign.{Sign}
use Rattle.snowcat_rows.specs.declared.marks.Sign.TheVariants as sign
use Rattle.snowcat_rows.specs.declared.reader.Reader.{Reader}
use Rattle.snowcat_rows.specs.inner.Machine.{State, Rows, unwind, on_comma, on_close, on_right, on_finish, at_begin, at_called, at_end, at_mode, begin_close, called_colon, called_end, can_name, can_end, sign_of, accepts, is_front, symbols, viable, word_goes}
use Rattle.snowcat_rows.specs.inner.Readers.{state_of, closes_inner, top_of, begin_takes, called_takes, end_takes, mode_takes, takes, symbol_goes}

comma_takes : (fs : List Frame) (rs : Rows) (o : List Mark) → is_some (on_comma (unwind fs o).0 rs (unwind fs o).1) ≡ closes_inner sign.Comma fs
comma_takes [] rs o = refl
comma_takes (frame.Function ∷ fs) rs o = comma_takes fs rs (o ++ mark.Function ∷ [])
comma_takes (frame.Operator ∷ fs) rs o = comma_takes fs rs (o ++ mark.Operator ∷ [])
comma_takes (frame.Set ∷ fs) rs o = refl
comma_takes (frame.Seq ∷ fs) rs o = refl
comma_takes (frame.Tuple b ∷ fs) rs o = refl
comma_takes (frame.Paren b ∷ fs) rs o = refl
comma_takes (frame.Fields ns ∷ fs) rs o = refl
comma_takes (frame.Field ns n ∷ fs) rs o = refl

close_takes : (fs : List Frame) (rs : Rows) (o : List Mark) → is_some (on_close (unwind fs o).0 rs (unwind fs o).1) ≡ closes_inner sign.Close fs
close_takes [] rs o = refl
close_takes (frame.Function ∷ fs) rs o = close_takes fs rs (o ++ mark.Function ∷ [])
close_takes (frame.Operator ∷ fs) rs o = close_takes fs rs (o ++ mark.Operator ∷ [])
close_takes (frame.Set ∷ fs) rs o = refl
close_takes (frame.Seq ∷ fs) rs o = refl
close_takes (frame.Tuple b ∷ fs) rs o = refl
close_takes (frame.Paren false ∷ fs) rs o = refl
close_takes (frame.Paren true ∷ fs) rs o = refl
close_takes (frame.Fields ns ∷ fs) rs o = refl
close_takes (frame.Field ns n ∷ fs) rs o = refl

right_takes : (fs : List Frame) (rs : Rows) (o : List Mark) → is_some (on_right (unwind fs o).0 rs (unwind fs o).1) ≡ closes_inner sign.Right fs
right_takes [] rs o = refl
right_takes (frame.Function ∷ fs) rs o = right_takes fs rs (o ++ mark.Function ∷ [])
right_takes (frame.Operator ∷ fs) rs o = right_takes fs rs (o ++ mark.Operator ∷ [])
right_takes (frame.Set ∷ fs) rs o = refl
right_takes (frame.Seq ∷ fs) rs o = refl
right_takes (frame.Tuple b ∷ fs) rs o = refl
right_takes (frame.Paren b ∷ fs) rs o = refl
right_takes (frame.Fields ns ∷ fs) rs o = refl
right_takes (frame.Field ns n ∷ fs) rs o = refl

finish_takes : (fs : List Frame) (rs : Rows) (o : List Mark) → is_some (on_finish (unwind fs o).0 rs (unwind fs o).1) ≡ closes_inner sign.Finish fs
finish_takes [] rs o = refl
finish_takes (frame.Function ∷ fs) rs o = finish_takes fs rs (o ++ mark.Function ∷ [])
finish_takes (frame.Operator ∷ fs) rs o = finish_takes fs rs (o ++ mark.Operator ∷ [])
finish_takes (frame.Set ∷ fs) rs o = refl
finish_takes (frame.Seq ∷ fs) rs o = refl
finish_takes (frame.Tuple b ∷ fs) rs o = refl
finish_takes (frame.Paren b ∷ fs) rs o = refl
finish_takes (frame.Fields ns ∷ fs) rs o = refl
finish_takes (frame.Field ns n ∷ fs) rs o = refl

colon_closes : (fs : List Frame) → false ≡ closes_inner sign.Colon fs
colon_closes [] = refl
colon_closes (frame.Function ∷ fs) = colon_closes fs
colon_closes (frame.Operator ∷ fs) = colon_closes fs
colon_closes (frame.Set ∷ fs) = refl
colon_closes (frame.Seq ∷ fs) = refl
colon_closes (frame.Tuple b ∷ fs) = refl
colon_closes (frame.Paren b ∷ fs) = refl
colon_closes (frame.Fields ns ∷ fs) = refl
colon_closes (frame.Field ns n ∷ fs) = refl

-- the signs by which nothing closes
abbrev Opening : Sign → Type 0
Opening sign.Open = Unit {0}
Opening sign.Left = Unit {0}
Opening sign.Begin = Unit {0}
Opening s = ⊥

opening_closes : (s : Sign) → Opening s → (fs : List Frame) → false ≡ closes_inner s fs
opening_closes sign.Open h [] = refl
opening_closes sign.Open h (frame.Function ∷ fs) = opening_closes sign.Open h fs
opening_closes sign.Open h (frame.Operator ∷ fs) = opening_closes sign.Open h fs
opening_closes sign.Open h (f ∷ fs) = refl
opening_closes sign.Left h [] = refl
opening_closes sign.Left h (frame.Function ∷ fs) = opening_closes sign.Left h fs
opening_closes sign.Left h (frame.Operator ∷ fs) = opening_closes sign.Left h fs
opening_closes sign.Left h (f ∷ fs) = refl
opening_closes sign.Begin h [] = refl
opening_closes sign.Begin h (frame.Function ∷ fs) = opening_closes sign.Begin h fs
opening_closes sign.Begin h (frame.Operator ∷ fs) = opening_closes sign.Begin h fs
opening_closes sign.Begin h (f ∷ fs) = refl
opening_closes s h fs = absurd h

if_some : (b : Bool) (x : State) → is_some (if b then Some x else None) ≡ b
if_some true x = refl
if_some false x = refl

-- a symbol
abbrev pub Symbol : Sign → Type 0
Symbol sign.Word = ⊥
Symbol sign.Alias = ⊥
Symbol sign.Bad = ⊥
Symbol s = Unit {0}

close_begins : (fs : List Frame) (rs : Rows) (o : List Mark) → is_some (begin_close fs rs o) ≡ begin_takes (top_of fs) sign.Close
close_begins [] rs o = refl
close_begins (frame.Paren false ∷ fs) rs o = refl
close_begins (frame.Paren true ∷ fs) rs o = refl
close_begins (f ∷ fs) rs o = refl

begin_is : (s : Sign) → Symbol s → (w : List ℕ) (fs : List Frame) (rs : Rows) (o : List Mark) → is_some (at_begin s w fs rs o) ≡ begin_takes (top_of fs) s
begin_is sign.Word h w fs rs o = absurd h
begin_is sign.Alias h w fs rs o = absurd h
begin_is sign.Close h w fs rs o = close_begins fs rs o
begin_is s h w fs rs o = refl

colon_is : (n : List ℕ) (fs : List Frame) (rs : Rows) (o : List Mark) → is_some (called_colon n fs rs o) ≡ called_takes (top_of fs) rs sign.Colon n
colon_is n [] rs o = refl
colon_is n (frame.Fields ns ∷ fs) rs o = if_some (can_name ns n) (record { mode = mode.Begins; frames = frame.Field ns n ∷ fs; rows = rs; marks = o })
colon_is n (f ∷ fs) rs o = refl

row_is : (n : List ℕ) (fs : List Frame) (rs : Rows) (o : List Mark) → is_some (called_end n fs rs o) ≡ called_takes (top_of fs) rs sign.Finish n
row_is n [] rs o = refl
row_is n (frame.Fields ns ∷ fs) rs o = if_some (can_end rs ns n) (record { mode = mode.Ended false; frames = fs; rows = rs ++ (n, ns) ∷ []; marks = o ++ mark.Record ns (Some n) ∷ [] })
row_is n (f ∷ fs) rs o = refl

none_called : (s : Sign) (n : List ℕ) (fs : List Frame) (rs : Rows) (o : List Mark) → is_some (at_called s n fs rs o) ≡ called_takes (top_of fs) rs s n
none_called sign.Colon n fs rs o = colon_is n fs rs o
none_called sign.Finish n fs rs o = row_is n fs rs o
none_called s n [] rs o = refl
none_called s n (frame.Fields ns ∷ fs) rs o = refl
none_called s n (f ∷ fs) rs o = refl

end_is : (b : Bool) (s : Sign) → Symbol s → (fs : List Frame) (rs : Rows) (o : List Mark) → is_some (at_end b s fs rs o) ≡ end_takes fs b s
end_is b sign.Arrow h fs rs o = refl
end_is true sign.Result h fs rs o = refl
end_is false sign.Result h fs rs o = refl
end_is b sign.Comma h fs rs o = comma_takes fs rs o
end_is b sign.Close h fs rs o = close_takes fs rs o
end_is b sign.Right h fs rs o = right_takes fs rs o
end_is b sign.Finish h fs rs o = finish_takes fs rs o
end_is b sign.Colon h fs rs o = colon_closes fs
end_is b sign.Open h fs rs o = opening_closes sign.Open tt fs
end_is b sign.Left h fs rs o = opening_closes sign.Left tt fs
end_is b sign.Begin h fs rs o = opening_closes sign.Begin tt fs
end_is b s h fs rs o = absurd h

mode_is : (m : Mode) (s : Sign) → Symbol s → (w : List ℕ) (fs : List Frame) (rs : Rows) (o : List Mark) → is_some (at_mode m s w fs rs o) ≡ mode_takes m fs rs s
mode_is mode.Begins s h w fs rs o = begin_is s h w fs rs o
mode_is mode.Headed sign.Open h w fs rs o = refl
mode_is mode.Headed s h w fs rs o = refl
mode_is mode.Name sign.Word h w fs rs o = absurd h
mode_is mode.Name s h w fs rs o = refl
mode_is (mode.Called n) s h w fs rs o = none_called s n fs rs o
mode_is (mode.Ended b) s h w fs rs o = end_is b s h fs rs o
mode_is mode.Closed sign.Result h w fs rs o = refl
mode_is mode.Closed s h w fs rs o = refl

takes_is : (r : Reader) (s : Sign) → Symbol s → (w : List ℕ) → sign_of w ≡ s → accepts (state_of r) w ≡ takes r s
takes_is r s h w e =
    ap (λ z. is_some (at_mode r.mode z w (reverse r.frames.items) r.rows.items r.marks.items)) e ∙ mode_is r.mode s h w (reverse r.frames.items) r.rows.items r.marks.items

one_is : (r : Reader) (p : List ℕ) (s : Sign) → Symbol s → (w : List ℕ) → sign_of w ≡ s → (a b : Bool) → a ≡ b → (is_front p w && takes r s) || a ≡ (is_front p w && accepts (state_of r) w) || b
one_is r p s h w e a b i = ap (λ z. (is_front p w && z) || a) (sym (takes_is r s h w e)) ∙ ap (λ z. (is_front p w && accepts (state_of r) w) || z) i

symbol_is : (r : Reader) (p : List ℕ) → symbol_goes r p ≡ list_any (λ q. is_front p q && accepts (state_of r) q) symbols
symbol_is r p =
    one_is r p sign.Arrow tt (codes "->") refl _ _ (one_is r p sign.Result tt (codes "=>") refl _ _ (one_is r p sign.Comma tt (codes ",") refl _ _ (one_is r p sign.Colon tt (codes ":") refl _ _
    (one_is r p sign.Open tt (codes "(") refl _ _ (one_is r p sign.Close tt (codes ")") refl _ _ (one_is r p sign.Left tt (codes "<<") refl _ _ (one_is r p sign.Right tt (codes ">>") refl _ _
    (one_is r p sign.Begin tt (codes "{") refl _ _ (one_is r p sign.Finish tt (codes "}") refl false false refl)))))))))

pub viable_is : (r : Reader) (p : List ℕ) → viable (state_of r) p ≡ symbol_goes r p || word_goes r.mode p
viable_is r p = ap (λ z. z || word_goes r.mode p) (sym (symbol_is r p))
