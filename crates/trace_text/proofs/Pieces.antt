-- The pieces that are left while some are read.
use Rattle.std.proofs.Common.{◌≡◌, ℕ, ◌+◌, ◌<◌, true, false, List, [], ◌∷◌, ◌++◌, flat_map, length, refl, ap, ◌∙◌, sym, subst, arith, append_assoc, codes, length-append}
use Rattle.std.specs.Prelude.{◌==◌}
use Rattle.std.specs.List.{list_all}
use Rattle.std.proofs.lemmas.Bool.{false≢true}
use Rattle.std.proofs.lemmas.Bool.Decides.{nat_tests}
use Rattle.tla_values.specs.Names.{is_name_byte}
use Rattle.tla_values.specs.Order.{kind_of}
use Rattle.tla_values.specs.Show.{Ends, text_of}
use Rattle.tla_values.specs.declared.value.Value.{Value, out-Value, Fun}
use Rattle.tla_values.proofs.TextLaw.{cancel, head_is, kind_at}
use Rattle.trace_text.specs.declared.brackets.Bracket.{Bracket}
use Rattle.trace_text.specs.declared.brackets.Bracket.TheVariants.{Brace, Angle, Square, Round}
use Rattle.trace_text.specs.inner.Reading.{Fits, IsRun}
use Rattle.trace_text.specs.inner.Pieces.{ArePieces, IsPiece, IsPlain, argument_text, bytes_of, closing, made, opening, piece_text, pieces_text, separator, tail_text}
use Rattle.trace_text.proofs.Runs.{left_of, one_run}
use Rattle.trace_text.proofs.ValueForms.{fits_members, kind_here, no_kind, plain_kind}
use Rattle.trace_text.proofs.Forms.{HasForm, form_of, plain, bracketed}

-- ---- what stands behind a piece

unlike : (a b : ℕ) (x y : List ℕ) → (a == b) ≡ false → a ∷ x ≡ b ∷ y → ⊥
unlike a b x y apart e = let same = head_is a b x y e in grind (arith, nat_tests)

pub tail_ends : (k : Bracket) (ps : List (Value × Value)) (r : List ℕ) → Ends (tail_text k ps r)
tail_ends Brace [] r = refl
tail_ends Angle [] r = refl
tail_ends Square [] r = refl
tail_ends Round [] r = refl
tail_ends Brace (p ∷ ps) r = refl
tail_ends Angle (p ∷ ps) r = refl
tail_ends Square (p ∷ ps) r = refl
tail_ends Round (p ∷ ps) r = refl

-- a separator is not a closing
not_both : (k : Bracket) (x y : List ℕ) → separator k ++ x ≡ closing k ++ y → ⊥
not_both Brace x y e = unlike 44 125 _ _ refl e
not_both Angle x y e = unlike 44 62 _ _ refl e
not_both Square x y e = unlike 44 93 _ _ refl e
not_both Round x y e = unlike 32 41 _ _ refl e

no_square : (t x y : List ℕ) → list_all is_name_byte t ≡ true → t ++ (32 ∷ x) ≡ 93 ∷ y → ⊥
no_square [] x y h e = unlike 32 93 _ _ refl e
no_square (b ∷ t) x y h e =
    false≢true (ap is_name_byte (sym (head_is b 93 _ _ e)) ∙ left_of (is_name_byte b) (list_all is_name_byte t) h)

-- no piece begins with the closing
not_closed : (k : Bracket) (i : ℕ) (p : Value × Value) (x y : List ℕ) → IsPiece k i p → piece_text k p ++ x ≡ closing k ++ y → ⊥
not_closed Brace i p x y h e = no_kind p.1 x _ h.1 refl e
not_closed Angle i p x y h e = no_kind p.1 x _ h.1 refl e
not_closed Square i p x y h e =
    let opened : ((bytes_of p.0 ++ codes " |-> ") ++ text_of p.1) ++ x ≡ bytes_of p.0 ++ (codes " |-> " ++ (text_of p.1 ++ x)) = simp append_assoc in
    no_square (bytes_of p.0) _ y h.0.1 (sym opened ∙ e)
not_closed Round i p x y h e =
    let opened : ((text_of p.0 ++ codes " :> ") ++ text_of p.1) ++ x ≡ text_of p.0 ++ (codes " :> " ++ (text_of p.1 ++ x)) = simp append_assoc in
    no_kind p.0 _ _ h.0 refl (sym opened ∙ e)

-- ---- one piece after another

-- the pieces that are left of ps, with r behind them, where some are read and these bytes stand in front
pub record Left (k : Bracket) (done : List (Value × Value)) (rest : List ℕ) (ps : List (Value × Value)) (r : List ℕ) : Type 0 where
  pub piece : Value × Value
  pub later : List (Value × Value)
  pub is : ps ≡ done ++ piece ∷ later
  pub fits : IsPiece k (length done) piece
  pub later_fit : ArePieces k (length done + 1) later
  pub text : rest ≡ piece_text k piece ++ tail_text k later r

pub left_first : (k : Bracket) (bytes : List ℕ) (ps : List (Value × Value)) (r : List ℕ) → ((q : List ℕ) → bytes ≡ closing k ++ q → ⊥) →
    ArePieces k 0 ps → bytes ≡ pieces_text k ps r → Left k [] bytes ps r
left_first k bytes [] r goes_on fit e = absurd (goes_on r e)
left_first k bytes (p ∷ ps) r goes_on fit e = record { piece = p; later = ps; is = refl; fits = fit.0; later_fit = fit.1; text = e }

-- where the closing stands first there is no piece
pub left_none : (k : Bracket) (bytes : List ℕ) (ps : List (Value × Value)) (r rest : List ℕ) → bytes ≡ closing k ++ rest →
    ArePieces k 0 ps → bytes ≡ pieces_text k ps r → ([] ≡ ps) × (rest ≡ r)
left_none k bytes [] r rest closed fit e = (refl, cancel (closing k) rest r (sym closed ∙ e))
left_none k bytes (p ∷ ps) r rest closed fit e = absurd (not_closed k 0 p (tail_text k ps r) rest fit.0 (sym e ∙ closed))

tail_more : (k : Bracket) (p : Value × Value) (ps : List (Value × Value)) (r : List ℕ) →
    tail_text k (p ∷ ps) r ≡ separator k ++ (piece_text k p ++ tail_text k ps r)
tail_more k p ps r =
    append_assoc (separator k ++ piece_text k p) (flat_map (λ q. separator k ++ piece_text k q) ps) (closing k ++ r)
    ∙ append_assoc (separator k) (piece_text k p) (tail_text k ps r)

-- the same behind a piece that is read
pub record After (k : Bracket) (done : List (Value × Value)) (piece : Value × Value) (more : List ℕ) (ps : List (Value × Value)) (r : List ℕ) : Type 0 where
  pub later : List (Value × Value)
  pub is : ps ≡ done ++ piece ∷ later
  pub fit : ArePieces k (length done + 1) later
  pub text : more ≡ tail_text k later r

pub after : (k : Bracket) (done : List (Value × Value)) (rest : List ℕ) (ps : List (Value × Value)) (r : List ℕ) (l : Left k done rest ps r)
    (piece : Value × Value) (more : List ℕ) → (piece ≡ l.piece) × (more ≡ tail_text k l.later r) → After k done piece more ps r
after k done rest ps r l piece more read = record {
  later = l.later;
  is = l.is ∙ ap (λ p. done ++ p ∷ l.later) (sym read.0);
  fit = l.later_fit;
  text = read.1;
}

module _ (k : Bracket) (done : List (Value × Value)) (piece : Value × Value) (more : List ℕ) (ps : List (Value × Value)) (r : List ℕ)
    (a : After k done piece more ps r) where
  -- behind a separator there is one more
  pub left_next : (next : List ℕ) → more ≡ separator k ++ next → Left k (done ++ piece ∷ []) next ps r
  left_next next separated = by_later a.later a.is a.text a.fit
    where
      count : length (done ++ piece ∷ []) ≡ length done + 1
      count = length-append done (piece ∷ [])

      by_later : (qs : List (Value × Value)) → ps ≡ done ++ piece ∷ qs → more ≡ tail_text k qs r → ArePieces k (length done + 1) qs →
          Left k (done ++ piece ∷ []) next ps r
      by_later [] split e h = absurd (not_both k next r (sym separated ∙ e))
      by_later (q ∷ qs) split e h = record {
        piece = q;
        later = qs;
        is = split ∙ sym (append_assoc done (piece ∷ []) (q ∷ qs));
        fits = subst (λ i. IsPiece k i q) (sym count) h.0;
        later_fit = subst (λ i. ArePieces k (i + 1) qs) (sym count) h.1;
        text = cancel (separator k) _ _ (sym separated ∙ e ∙ tail_more k q qs r);
      }

  -- behind the closing there is none
  pub left_last : (end : List ℕ) → more ≡ closing k ++ end → (done ++ piece ∷ [] ≡ ps) × (end ≡ r)
  left_last end closed = by_later a.later a.is a.text
    where
      by_later : (qs : List (Value × Value)) → ps ≡ done ++ piece ∷ qs → more ≡ tail_text k qs r → (done ++ piece ∷ [] ≡ ps) × (end ≡ r)
      by_later [] split e = (sym split, cancel (closing k) end r (sym closed ∙ e))
      by_later (q ∷ qs) split e = absurd (not_both k _ end (sym (e ∙ tail_more k q qs r) ∙ closed))

  -- one of both is there
  pub left_open : ((q : List ℕ) → more ≡ separator k ++ q → ⊥) → ((q : List ℕ) → more ≡ closing k ++ q → ⊥) → ⊥
  left_open not_separated not_closed_here = by_later a.later a.text
    where
      by_later : (qs : List (Value × Value)) → more ≡ tail_text k qs r → ⊥
      by_later [] e = not_closed_here r e
      by_later (q ∷ qs) e = not_separated _ (e ∙ tail_more k q qs r)

-- ---- arguments

-- the name of a field
pub field_name : (bytes front rest : List ℕ) (a : Value) (r : List ℕ) → IsRun is_name_byte bytes front rest → list_all is_name_byte (bytes_of a) ≡ true →
    bytes ≡ argument_text Square a ++ r → (front ≡ bytes_of a) × (rest ≡ codes " |-> " ++ r)
field_name bytes front rest a r run all e =
    one_run is_name_byte bytes front rest (bytes_of a) (codes " |-> " ++ r) run all refl (e ∙ append_assoc (bytes_of a) (codes " |-> ") r)

-- ---- brackets

same_opening : (k j : Bracket) (x y : List ℕ) → opening k ++ x ≡ opening j ++ y → (k ≡ j) × (x ≡ y)
same_opening Brace Brace x y e = (refl, cancel (opening Brace) x y e)
same_opening Angle Angle x y e = (refl, cancel (opening Angle) x y e)
same_opening Square Square x y e = (refl, cancel (opening Square) x y e)
same_opening Round Round x y e = (refl, cancel (opening Round) x y e)
same_opening k j x y e = absurd (unlike _ _ _ _ refl e)

opening_kind : (k : Bracket) (x : List ℕ) → 2 < kind_at (opening k ++ x)
opening_kind Brace x = omega arith
opening_kind Angle x = omega arith
opening_kind Square x = omega arith
opening_kind Round x = omega arith

-- the pieces of a value whose text stands behind this opening
pub record Opened (k : Bracket) (inner : List ℕ) (v : Value) (r : List ℕ) : Type 0 where
  pub pieces : List (Value × Value)
  pub made_of : made k pieces ≡ v
  pub fit : ArePieces k 0 pieces
  pub text : inner ≡ pieces_text k pieces r

pub opened_value : (bytes : List ℕ) (k : Bracket) (inner : List ℕ) (v : Value) (r : List ℕ) → bytes ≡ opening k ++ inner → Fits v →
    bytes ≡ text_of v ++ r → Opened k inner v r
opened_value bytes k inner v r opens fits e = by_form (form_of v fits)
  where
    by_form : HasForm v → Opened k inner v r
    by_form (plain h) =
        let small = plain_kind v h in
        let large = opening_kind k inner in
        let same : kind_at (opening k ++ inner) ≡ kind_of (out-Value v) = ap kind_at (sym opens ∙ e) ∙ kind_here v r fits in
        absurd (omega arith)
    by_form (bracketed j ps is fit text) =
        let same = same_opening k j inner (pieces_text j ps r) (sym opens ∙ e ∙ text r) in
        record {
          pieces = ps;
          made_of = ap (λ b. made b ps) same.0 ∙ is;
          fit = subst (λ b. ArePieces b 0 ps) (sym same.0) fit;
          text = same.1 ∙ ap (λ b. pieces_text b ps r) (sym same.0);
        }

-- a value is plain where no bracket opens
pub plain_value : (bytes : List ℕ) (v : Value) (r : List ℕ) → ((k : Bracket) (q : List ℕ) → bytes ≡ opening k ++ q → ⊥) → Fits v →
    bytes ≡ text_of v ++ r → IsPlain v
plain_value bytes v r none fits e = by_form (form_of v fits)
  where
    by_form : HasForm v → IsPlain v
    by_form (plain h) = h
    by_form (bracketed j ps is fit text) = absurd (none j _ (e ∙ text r))

-- the value of pieces that fit
pub made_fits : (k : Bracket) (ps : List (Value × Value)) → Fits (Fun ps) → Fits (made k ps)
made_fits Brace ps fits = fits_members ps fits
made_fits Angle ps fits = fits
made_fits Square ps fits = fits
made_fits Round ps fits = fits
