-- The steps of a scan, as the code takes them.
use Rattle.std.proofs.Common.{◌≡◌, ℕ, suc, ◌<◌, inl, inr, List, [], ◌∷◌, length, take, get_or, refl, ap, sym, ◌∙◌, subst, Option, Some, None, arith}
use Rattle.std.specs.Prelude.{◌+◌}
use Rattle.std.proofs.Math.Seq.{take-suc}
use Rattle.snowcat_rows.specs.declared.marks.Mark.{Mark}
use Rattle.snowcat_rows.specs.TypeTexts.{Begins, IsBadAt}
use Rattle.snowcat_rows.specs.inner.Machine.{Scan, started, next_at, next, scan, finished}
use Rattle.snowcat_rows.specs.inner.Readers.{AreMarks}
use Rattle.snowcat_rows.proofs.Scans.{scan_append, sound, begins, stuck, unfinished, marks_are}

-- a byte more
pub scan_more : (text : List ℕ) (i : ℕ) (d : ℕ) (s : Scan) (t : Option Scan) → i < length text → scan started (take i text) ≡ Some s → t ≡ next_at s.state s.piece (get_or text i d) →
    scan started (take (i + 1) text) ≡ t
scan_more text i d s t lt e h =
    let one : suc i ≡ i + 1 = omega arith in
    ap (λ z. scan started (take z text)) (sym one) ∙ ap (λ z. scan started z) (take-suc text i d lt) ∙ scan_append (take i text) (get_or text i d ∷ []) started ∙ ap (λ z. next z (get_or text i d)) e ∙ sym h

-- no byte more
pub bad_at : (text : List ℕ) (i : ℕ) (d : ℕ) (s : Scan) → i < length text → scan started (take i text) ≡ Some s → None ≡ next_at s.state s.piece (get_or text i d) → IsBadAt text i
bad_at text i d s lt e h =
    let one : suc i ≡ i + 1 = omega arith in
    let P : List ℕ → Type 0 = λ z. Begins z in
    inl (lt, begins (take i text) s e, λ b. stuck (take i text) (get_or text i d) s e (sym h) (subst P (ap (λ z. take z text) (sym one) ∙ take-suc text i d lt) b))

-- the end
pub are_marks : (text : List ℕ) (s : Scan) (ms : List Mark) → scan started text ≡ Some s → finished s ≡ Some ms → AreMarks text ms
are_marks text s ms e h = let (t, i) = sound text s e ms h in (t, i, marks_are text s ms e h t i)

pub bad_end : (text : List ℕ) (s : Scan) → scan started text ≡ Some s → finished s ≡ None → IsBadAt text (length text)
bad_end text s e h = inr (refl, begins text s e, unfinished text s e h)
