-- A text and its bytes: what is read is a type's text, and each type's text is read.
use Rattle.std.proofs.Common.{◌≡◌, ℕ, Bool, true, false, ◌&&◌, ◌⊎◌, inl, inr, List, [], ◌∷◌, ◌++◌, refl, ap, sym, ◌∙◌, subst, Option, Some, None, IsTrue, append_assoc}
use Rattle.std.specs.Prelude.{if◌then◌else◌}
use Rattle.std.specs.List.{list_all}
use Rattle.std.proofs.lemmas.Bool.{cases_Bool}
use Rattle.std.proofs.lemmas.List.{append-nil}
use Rattle.snowcat_rows.specs.declared.marks.Mark.{Mark}
use Rattle.snowcat_rows.specs.TypeTexts.{Syntax, pieces, is_blank, Written, IsTypeText, Begins}
use Rattle.snowcat_rows.specs.inner.Machine.{State, begun, ended, at_mode, behind, bind, onward, viable, Scan, scanned, started, begin_piece, begin_behind, next_at, next, scan, ended_behind, finished_at, finished}
use Rattle.snowcat_rows.specs.inner.Marks.{marked}
use Rattle.snowcat_rows.proofs.Words.{to_yes, both_true}
use Rattle.snowcat_rows.proofs.Layouts.{written_append, written_one}
use Rattle.snowcat_rows.proofs.Runs.{onward_append, type_read}
use Rattle.snowcat_rows.proofs.Endings.{Fit, onward_fit, begun_fit, Ends}
use Rattle.snowcat_rows.proofs.Sound.{pieces_good}
use Rattle.snowcat_rows.proofs.Ways.{way_of, goes}
use Rattle.snowcat_rows.proofs.Prefixes.{fronts_viable, bad_none}
use Rattle.snowcat_rows.proofs.Stops.{Follows, stops, blank_sign}

-- ---- what is read is a type's text

-- the whole pieces of the text, and what was read of the last one
record Reads (text : List ℕ) (x : State) (w : List ℕ) : Type 0 where
  parts : List (List ℕ)
  front : List ℕ
  led : onward (Some begun) parts ≡ Some x
  laid : Written parts front
  joined : text ≡ front ++ w
  open_part : (w ≡ []) ⊎ (viable x w ≡ true)

abbrev ReadBy : List ℕ → Option Scan → Type 0
ReadBy text None = Unit {0}
ReadBy text (Some s) = Reads text s.state s.piece

written_blank : (ps : List (List ℕ)) (a : List ℕ) (b : ℕ) → is_blank b ≡ true → Written ps a → Written ps (a ++ b ∷ [])
written_blank ps a b h w = let P : List (List ℕ) → Type 0 = λ z. Written z (a ++ b ∷ []) in subst P (append-nil ps) (written_append ps [] a (b ∷ []) w (to_yes (is_blank b && true) (rw h refl)))

if_read : (text : List ℕ) (b : Bool) (x y : Option Scan) → (b ≡ true → ReadBy text x) → (b ≡ false → ReadBy text y) → ReadBy text (if b then x else y)
if_read text true x y h k = h refl
if_read text false x y h k = k refl

-- behind whole pieces
begin_reads : (text : List ℕ) (x : State) (ps : List (List ℕ)) → onward (Some begun) ps ≡ Some x → Written ps text → (b : ℕ) → ReadBy (text ++ b ∷ []) (begin_piece x b)
begin_reads text x ps e w b = if_read (text ++ b ∷ []) (is_blank b) (Some (scanned x [])) (if viable x (b ∷ []) then Some (scanned x (b ∷ [])) else None)
    (λ h. record { parts = ps; front = text ++ b ∷ []; led = e; laid = written_blank ps text b h w; joined = sym (append-nil (text ++ b ∷ [])); open_part = inl refl })
    (λ k. if_read (text ++ b ∷ []) (viable x (b ∷ [])) (Some (scanned x (b ∷ []))) None
    (λ h. record { parts = ps; front = text; led = e; laid = w; joined = refl; open_part = inr h })
    (λ h. tt))

-- a piece more
more_led : (ps : List (List ℕ)) (x : State) (w : List ℕ) → onward (Some begun) ps ≡ Some x → onward (Some begun) (ps ++ w ∷ []) ≡ behind x w
more_led ps x w e = onward_append ps (w ∷ []) (Some begun) ∙ ap (λ z. bind z w) e

behind_reads : (front : List ℕ) (x : State) (w : List ℕ) (ps : List (List ℕ)) → onward (Some begun) ps ≡ Some x → Written ps front → (y : Option State) → behind x w ≡ y → (b : ℕ) →
    ReadBy ((front ++ w) ++ b ∷ []) (begin_behind y b)
behind_reads front x w ps e l None h b = tt
behind_reads front x w ps e l (Some y) h b = begin_reads (front ++ w) y (ps ++ w ∷ []) (more_led ps x w e ∙ h) (written_append ps (w ∷ []) front w l (written_one w)) b

next_reads : (text : List ℕ) (x : State) (w : List ℕ) → Reads text x w → (b : ℕ) → ReadBy (text ++ b ∷ []) (next_at x w b)
next_reads text x [] r b =
    let P : List ℕ → Type 0 = λ z. ReadBy (z ++ b ∷ []) (begin_piece x b) in
    subst P (sym (r.joined ∙ append-nil r.front)) (begin_reads r.front x r.parts r.led r.laid b)
next_reads text x (c ∷ cs) r b =
    let w = c ∷ cs in
    if_read (text ++ b ∷ []) (viable x (w ++ b ∷ [])) (Some (scanned x (w ++ b ∷ []))) (begin_behind (behind x w) b)
    (λ h. record { parts = r.parts; front = r.front; led = r.led; laid = r.laid; joined = ap (λ z. z ++ b ∷ []) r.joined ∙ append_assoc r.front w (b ∷ []); open_part = inr h })
    (λ h. let P : List ℕ → Type 0 = λ z. ReadBy (z ++ b ∷ []) (begin_behind (behind x w) b) in subst P (sym r.joined) (behind_reads r.front x w r.parts r.led r.laid (behind x w) refl b))

step_reads : (text : List ℕ) (s : Option Scan) → ReadBy text s → (b : ℕ) → ReadBy (text ++ b ∷ []) (next s b)
step_reads text None r b = tt
step_reads text (Some s) r b = next_reads text s.state s.piece r b

scan_reads : (bs : List ℕ) (text : List ℕ) (s : Option Scan) → ReadBy text s → ReadBy (text ++ bs) (scan s bs)
scan_reads [] text s r = let P : List ℕ → Type 0 = λ z. ReadBy z s in subst P (sym (append-nil text)) r
scan_reads (b ∷ bs) text s r = let P : List ℕ → Type 0 = λ z. ReadBy z (scan (next s b) bs) in subst P (append_assoc text (b ∷ []) bs) (scan_reads bs (text ++ b ∷ []) (next s b) (step_reads text s r b))

start_reads : ReadBy [] started
start_reads = record { parts = []; front = []; led = refl; laid = refl; joined = refl; open_part = inl refl }

text_reads : (text : List ℕ) (s : Scan) → scan started text ≡ Some s → Reads text s.state s.piece
text_reads text s e = let P : Option Scan → Type 0 = λ z. ReadBy text z in subst P e (scan_reads text [] started start_reads)

-- pieces that are read whole spell a type
spelled : (text : List ℕ) (ps : List (List ℕ)) → Written ps text → (x : State) → onward (Some begun) ps ≡ Some x → (ms : List Mark) → ended x ≡ Some ms → (t : Syntax) × IsTypeText text t
spelled text ps w x e ms h =
    let (l, t, g, k) = pieces_good ps x ms e h in
    let P : List (List ℕ) → Type 0 = λ z. Written z text in
    (t, record { formed = g.0; written = subst P (sym k) w; fronts = (l, g.1) })

ended_spelled : (front w : List ℕ) (x : State) (ps : List (List ℕ)) → onward (Some begun) ps ≡ Some x → Written ps front → (y : Option State) → behind x w ≡ y → (ms : List Mark) →
    ended_behind y ≡ Some ms → (t : Syntax) × IsTypeText (front ++ w) t
ended_spelled front w x ps e l None h ms k = absurd (cc)
ended_spelled front w x ps e l (Some y) h ms k = spelled (front ++ w) (ps ++ w ∷ []) (written_append ps (w ∷ []) front w l (written_one w)) y (more_led ps x w e ∙ h) ms k

finished_spelled : (text : List ℕ) (x : State) (w : List ℕ) → Reads text x w → (ms : List Mark) → finished_at x w ≡ Some ms → (t : Syntax) × IsTypeText text t
finished_spelled text x [] r ms h = let P : List ℕ → Type 0 = λ z. (t : Syntax) × IsTypeText z t in subst P (sym (r.joined ∙ append-nil r.front)) (spelled r.front r.parts r.laid x r.led ms h)
finished_spelled text x (c ∷ cs) r ms h =
    let P : List ℕ → Type 0 = λ z. (t : Syntax) × IsTypeText z t in
    subst P (sym r.joined) (ended_spelled r.front (c ∷ cs) x r.parts r.led r.laid (behind x (c ∷ cs)) refl ms h)

-- a text that is read to its end is a type's
pub sound : (text : List ℕ) (s : Scan) → scan started text ≡ Some s → (ms : List Mark) → finished s ≡ Some ms → (t : Syntax) × IsTypeText text t
sound text s e ms h = finished_spelled text s.state s.piece (text_reads text s e) ms h

-- ---- what is read begins a type's text

abbrev joined_bytes : List (List ℕ) → List ℕ
joined_bytes [] = []
joined_bytes (p ∷ ps) = p ++ joined_bytes ps

written_joined : (ps : List (List ℕ)) → Written ps (joined_bytes ps)
written_joined [] = refl
written_joined (p ∷ ps) = ([], joined_bytes ps, refl, refl, written_joined ps)

ends_spelled : (text : List ℕ) (ps : List (List ℕ)) → Written ps text → (x : Option State) → onward (Some begun) ps ≡ x → Ends x → (t : Syntax) × IsTypeText text t
ends_spelled text ps w None e h = absurd h
ends_spelled text ps w (Some x) e h = spelled text ps w x e h.0 h.1

completes : (text : List ℕ) (ps : List (List ℕ)) → Written ps text → (x : State) → onward (Some begun) ps ≡ Some x → Begins text
completes text ps w x e =
    let P : Option State → Type 0 = λ z. Fit z in
    let (ws, h) = way_of (Some x) (subst P e (onward_fit ps (Some begun) begun_fit)) x refl in
    let r = ends_spelled (text ++ joined_bytes ws) (ps ++ ws) (written_append ps ws text (joined_bytes ws) w (written_joined ws)) (onward (Some x) ws) (onward_append ps ws (Some begun) ∙ ap (λ z. onward z ws) e) h in
    record { rest = joined_bytes ws; syntax_of = r.0; is_text = r.1 }

begins_at : (a b text : List ℕ) → a ++ b ≡ text → Begins text → Begins a
begins_at a b text e r =
    let P : List ℕ → Type 0 = λ z. IsTypeText (z ++ r.rest) r.syntax_of in
    let Q : List ℕ → Type 0 = λ z. IsTypeText z r.syntax_of in
    record { rest = b ++ r.rest; syntax_of = r.syntax_of; is_text = subst Q (append_assoc a b r.rest) (subst P (sym e) r.is_text) }

viable_completes : (text : List ℕ) (x : State) (w : List ℕ) → Reads text x w → viable x w ≡ true → Begins text
viable_completes text x w r v =
    let P : Option State → Type 0 = λ z. Fit z in
    let (rest, y, h) = goes x w (subst P r.led (onward_fit r.parts (Some begun) begun_fit)) v in
    let p = w ++ rest in
    begins_at text rest (r.front ++ p) (ap (λ z. z ++ rest) r.joined ∙ append_assoc r.front w rest)
    (completes (r.front ++ p) (r.parts ++ p ∷ []) (written_append r.parts (p ∷ []) r.front p r.laid (written_one p)) y (more_led r.parts x p r.led ∙ h))

reads_begins : (text : List ℕ) (x : State) (w : List ℕ) → Reads text x w → (w ≡ []) ⊎ (viable x w ≡ true) → Begins text
reads_begins text x w r (inl e) =
    let P : List ℕ → Type 0 = λ z. Begins z in
    subst P (sym (r.joined ∙ ap (λ z. r.front ++ z) e ∙ append-nil r.front)) (completes r.front r.parts r.laid x r.led)
reads_begins text x w r (inr v) = viable_completes text x w r v

pub begins : (text : List ℕ) (s : Scan) → scan started text ≡ Some s → Begins text
begins text s e = let r = text_reads text s e in reads_begins text s.state s.piece r r.open_part

-- ---- each type's text is read

abbrev first_of : List ℕ → ℕ
first_of [] = 0
first_of (c ∷ cs) = c

nothing_bad : (x : State) → behind x [] ≡ None
nothing_bad x = bad_none x.mode [] x.frames x.rows x.marks

blank_bad : (x : State) (c : ℕ) (cs : List ℕ) → is_blank c ≡ true → behind x (c ∷ cs) ≡ None
blank_bad x c cs h = ap (λ s. at_mode x.mode s (c ∷ cs) x.frames x.rows x.marks) (blank_sign c cs h) ∙ bad_none x.mode (c ∷ cs) x.frames x.rows x.marks

some_state : (x : Option State) (qs : List (List ℕ)) (z : State) → onward x qs ≡ Some z → (v : State) × (x ≡ Some v)
some_state (Some v) qs z e = (v, refl)
some_state None [] z e = absurd (cc)
some_state None (q ∷ qs) z e = some_state None qs z e

pub scan_append : (a b : List ℕ) (s : Option Scan) → scan s (a ++ b) ≡ scan (scan s a) b
scan_append [] b s = refl
scan_append (x ∷ a) b s = scan_append a b (next s x)

-- blanks before a piece
scan_blanks : (bs : List ℕ) (x : State) → IsTrue (list_all is_blank bs) → scan (Some (scanned x [])) bs ≡ Some (scanned x [])
scan_blanks [] x h = refl
scan_blanks (b ∷ bs) x h =
    let k = both_true (is_blank b) (list_all is_blank bs) h in
    ap (λ z. scan z bs) (let e : begin_piece x b ≡ Some (scanned x []) = rw k.0 refl in e) ∙ scan_blanks bs x (to_yes (list_all is_blank bs) k.1)

-- a piece that may come, behind its first bytes
scan_rest : (v : List ℕ) (x : State) (c : ℕ) (u : List ℕ) (y : State) → behind x (c ∷ u ++ v) ≡ Some y → scan (Some (scanned x (c ∷ u))) v ≡ Some (scanned x (c ∷ u ++ v))
scan_rest [] x c u y h = ap (λ z. Some (scanned x z)) (sym (append-nil (c ∷ u)))
scan_rest (b ∷ v) x c u y h =
    let e : c ∷ u ++ b ∷ v ≡ c ∷ (u ++ b ∷ []) ++ v = sym (append_assoc (c ∷ u) (b ∷ []) v) in
    let k = sym (ap (λ z. behind x z) e) ∙ h in
    ap (λ z. scan z v) (taken x c u b (fronts_viable x c (u ++ b ∷ []) v y k)) ∙ scan_rest v x c (u ++ b ∷ []) y k ∙ ap (λ z. Some (scanned x z)) (sym e)
  where
    taken : (x : State) (c : ℕ) (u : List ℕ) (b : ℕ) → viable x (c ∷ u ++ b ∷ []) ≡ true → next_at x (c ∷ u) b ≡ Some (scanned x (c ∷ u ++ b ∷ []))
    taken x c u b h = rw h refl

-- the first byte of a piece that may come is no blank
first_no_blank : (x : State) (c : ℕ) (cs : List ℕ) (y : State) → behind x (c ∷ cs) ≡ Some y → is_blank c ≡ false
first_no_blank x c cs y h = elim (cases_Bool (is_blank c)) [ inl e ↦ absurd (clash e) | inr e ↦ e ]
  where
    clash : is_blank c ≡ true → ⊥
    clash e = let k = blank_bad x c cs e in let d : None ≡ Some y = sym k ∙ h in cc

scan_piece : (x : State) (p : List ℕ) (y : State) → behind x p ≡ Some y → scan (Some (scanned x [])) p ≡ Some (scanned x p)
scan_piece x [] y h = refl
scan_piece x (c ∷ cs) y h = ap (λ z. scan z cs) (opened (first_no_blank x c cs y h) (fronts_viable x c [] cs y h)) ∙ scan_rest cs x c [] y h
  where
    opened : is_blank c ≡ false → viable x (c ∷ []) ≡ true → begin_piece x c ≡ Some (scanned x (c ∷ []))
    opened e f = rw e (rw f refl)

-- the state behind the last piece
abbrev Settles : State → List ℕ → State → Type 0
Settles x [] z = x ≡ z
Settles x (c ∷ cs) z = behind x (c ∷ cs) ≡ Some z

abbrev Settled : Option Scan → State → Type 0
Settled None z = ⊥
Settled (Some s) z = Settles s.state s.piece z

settled_at : (s t : Option Scan) (z : State) → t ≡ s → Settled s z → Settled t z
settled_at s t z e h = let P : Option Scan → Type 0 = λ k. Settled k z in subst P (sym e) h

-- which byte stands behind a piece
follows : (ps : List (List ℕ)) (y z : State) (b : ℕ) (bs : List ℕ) → onward (Some y) ps ≡ Some z → Written ps (b ∷ bs) → Follows (Some y) b
follows [] y z b bs e w = inl (both_true (is_blank b) (list_all is_blank bs) w).0
follows (p ∷ ps) y z b bs e ([], rest, h, k, w) = inr (of_piece p rest (some_state (behind y p) ps z e) k)
  where
    of_piece : (p rest : List ℕ) → (v : State) × (behind y p ≡ Some v) → b ∷ bs ≡ p ++ rest → (q : List ℕ) × (v : State) × (bind (Some y) (b ∷ q) ≡ Some v)
    of_piece [] rest (v, f) k = absurd (let d = nothing_bad y in let c : None ≡ Some v = sym d ∙ f in cc)
    of_piece (c ∷ cs) rest (v, f) k = (cs, v, ap (λ n. behind y (n ∷ cs)) (ap (λ l. first_of l) k) ∙ f)
follows (p ∷ ps) y z b bs e (x ∷ xs, rest, h, k, w) =
    inl (ap (λ n. is_blank n) (ap (λ l. first_of l) k) ∙ (both_true (is_blank x) (list_all is_blank xs) h).0)

-- a whole piece may stay open until the next byte
open_same : (x y : State) (p : List ℕ) (b : ℕ) (bs : List ℕ) → behind x p ≡ Some y → viable x (p ++ b ∷ []) ≡ false → scan (Some (scanned x p)) (b ∷ bs) ≡ scan (Some (scanned y [])) (b ∷ bs)
open_same x y [] b bs h v = absurd (let d = nothing_bad x in let c : None ≡ Some y = sym d ∙ h in cc)
open_same x y (c ∷ cs) b bs h v = ap (λ z. scan z bs) (left v)
  where
    left : viable x ((c ∷ cs) ++ b ∷ []) ≡ false → next_at x (c ∷ cs) b ≡ begin_piece y b
    left v = rw v (ap (λ z. begin_behind z b) h)

last_open : (x y : State) (p : List ℕ) → behind x p ≡ Some y → Settles x p y
last_open x y [] h = absurd (let d = nothing_bad x in let c : None ≡ Some y = sym d ∙ h in cc)
last_open x y (c ∷ cs) h = h

-- behind the last byte there are no pieces
none_left : (ps : List (List ℕ)) (y z : State) → onward (Some y) ps ≡ Some z → Written ps [] → y ≡ z
none_left [] y z e w = let f : Some y ≡ Some z = e in cc
none_left (p ∷ ps) y z e (bl, rest, h, k, w) = absurd (lost ps (empty_piece bl p rest k))
  where
    empty_piece : (bl p rest : List ℕ) → [] ≡ bl ++ p ++ rest → p ≡ []
    empty_piece [] [] rest k = refl
    empty_piece [] (c ∷ p) rest k = absurd (cc)
    empty_piece (c ∷ bl) p rest k = absurd (cc)

    none_on : (qs : List (List ℕ)) → onward None qs ≡ None
    none_on [] = refl
    none_on (q ∷ qs) = none_on qs

    lost : (qs : List (List ℕ)) → p ≡ [] → ⊥
    lost qs f = let d : None ≡ Some z = sym (none_on ps) ∙ ap (λ v. onward v ps) (sym (ap (λ v. behind y v) f ∙ nothing_bad y)) ∙ e in cc

open_scans : (ps : List (List ℕ)) (x y z : State) (p rest : List ℕ) → behind x p ≡ Some y → onward (Some y) ps ≡ Some z → Written ps rest →
    ((text : List ℕ) → Written ps text → Settled (scan (Some (scanned y [])) text) z) → Settled (scan (Some (scanned x p)) rest) z
open_scans ps x y z p [] f e w g = let P : State → Type 0 = λ v. Settles x p v in subst P (none_left ps y z e w) (last_open x y p f)
open_scans ps x y z p (b ∷ bs) f e w g = settled_at _ _ z (open_same x y p b bs f (stops x y p b f (follows ps y z b bs e w))) (g (b ∷ bs) w)

scans : (ps : List (List ℕ)) (x z : State) (text : List ℕ) → onward (Some x) ps ≡ Some z → Written ps text → Settled (scan (Some (scanned x [])) text) z
scans [] x z text e w = settled_at _ _ z (scan_blanks text x w) (let f : Some x ≡ Some z = e in cc)
scans (p ∷ ps) x z text e (bl, rest, h, k, w) =
    let (y, f) = some_state (behind x p) ps z e in
    let q = ap (λ v. onward v ps) (sym f) ∙ e in
    settled_at (scan (Some (scanned x p)) rest) _ z
    (ap (λ t. scan (Some (scanned x [])) t) k ∙ scan_append (bl ++ p) rest _ ∙ ap (λ s. scan s rest) (scan_append bl p _ ∙ ap (λ s. scan s p) (scan_blanks bl x h) ∙ scan_piece x p y f))
    (open_scans ps x y z p rest f q w (λ t. scans ps y z t q))

settled_finished : (s : Option Scan) (z : State) (ms : List Mark) → Settled s z → ended z ≡ Some ms → (v : Scan) × (s ≡ Some v) × (finished v ≡ Some ms)
settled_finished None z ms h e = absurd h
settled_finished (Some s) z ms h e = (s, refl, at_last s.state s.piece h)
  where
    at_last : (x : State) (w : List ℕ) → Settles x w z → finished_at x w ≡ Some ms
    at_last x [] h = ap ended h ∙ e
    at_last x (c ∷ cs) h = ap ended_behind h ∙ e

-- each type's text is read to its end, and its marks are left
pub complete : (text : List ℕ) (t : Syntax) → IsTypeText text t → (s : Scan) × (scan started text ≡ Some s) × (finished s ≡ Some (marked t []))
complete text t h =
    let (l, k) = h.fronts in
    let (z, e, f) = type_read l t h.formed k in
    settled_finished (scan started text) z (marked t []) (scans (pieces t) begun z text e h.written) f

-- ---- where a text is no type

none_scan : (bs : List ℕ) → scan None bs ≡ None
none_scan [] = refl
none_scan (b ∷ bs) = none_scan bs

-- a byte that is not read: no type's text begins so
pub stuck : (text : List ℕ) (b : ℕ) (s : Scan) → scan started text ≡ Some s → next (Some s) b ≡ None → Begins (text ++ b ∷ []) → ⊥
stuck text b s e h r =
    let (v, f, g) = complete ((text ++ b ∷ []) ++ r.rest) r.syntax_of r.is_text in
    let k = scan_append (text ++ b ∷ []) r.rest started ∙ ap (λ z. scan z r.rest) (scan_append text (b ∷ []) started ∙ ap (λ z. next z b) e ∙ h) ∙ none_scan r.rest in
    let d : None ≡ Some v = sym k ∙ f in cc

-- a text that is not read to its end is no type's
pub unfinished : (text : List ℕ) (s : Scan) → scan started text ≡ Some s → finished s ≡ None → (t : Syntax) → IsTypeText text t → ⊥
unfinished text s e h t i =
    let (v, f, g) = complete text t i in
    let q : Some s ≡ Some v = sym e ∙ f in
    let d : None ≡ Some (marked t []) = sym h ∙ ap (λ z. ended_of z) q ∙ g in cc
  where
    ended_of : Option Scan → Option (List Mark)
    ended_of None = None
    ended_of (Some v) = finished v

-- what was read of a type's text are its marks
pub marks_are : (text : List ℕ) (s : Scan) (ms : List Mark) → scan started text ≡ Some s → finished s ≡ Some ms → (t : Syntax) → IsTypeText text t → ms ≡ marked t []
marks_are text s ms e h t i =
    let (v, f, g) = complete text t i in
    let q : Some s ≡ Some v = sym e ∙ f in
    let d : Some ms ≡ Some (marked t []) = sym h ∙ ap (λ z. ended_of z) q ∙ g in cc
  where
    ended_of : Option Scan → Option (List Mark)
    ended_of None = None
    ended_of (Some v) = finished v
