-- What is kept of the tokens, one token later, and what it says at the end.
use Rattle.std.proofs.Common.{ℕ, Bool, true, false, cond, not, nat_le, drop, List, Option, Some, None, length, reverse, inl, inr, refl, sym, ap, subst, arith, ◌≡◌, ◌<◌, ◌∷◌, ◌++◌, ◌&&◌, ◌||◌, ◌∙◌, []}
use Rattle.tla_lexer.specs.declared.token.Token.{Token}
use Rattle.tla_meaning.specs.declared.place.Place.{Place}
use Rattle.tla_parser.proofs.Faults.{begins_at, begins_whole, broken_next, begins_within, header_tells, header_within, heading_kept, none_left, read, read_next, read_once, start_kept, whole_next, within_kept}
use Rattle.tla_parser.proofs.FieldLaw.{walked_append}
use Rattle.tla_parser.proofs.Growing.{Grows, Longer, advance_grows, behind_codes, grows_code, grows_self, never_stuck, unstuck_before}
use Rattle.tla_parser.proofs.Basics.{either}
use Rattle.tla_parser.proofs.Laws.{clash}
use Rattle.tla_parser.proofs.GoesOn.{stuck_ends}
use Rattle.tla_parser.proofs.Tracking.{Tells, fault_place, last_next, no_split}
use Rattle.tla_parser.specs.Beginnings.{FaultAt, Follows, Whole, begins_unit, last_of}
use Rattle.tla_parser.specs.Grammar.{AreSpelled, SpelledWithin}
use Rattle.tla_parser.specs.Signs.{sign}
use Rattle.tla_parser.specs.declared.fields.Fields.{Fields}
use Rattle.tla_parser.specs.declared.moves.Seen.{Seen}
use Rattle.tla_parser.specs.declared.open.Mode.{Mode}
use Rattle.tla_parser.specs.declared.open.Mode.TheVariants.{Have, Read, Stuck, Want}
use Rattle.tla_parser.specs.declared.open.Code.{Code}
use Rattle.tla_parser.specs.declared.parsing.Reading.{Reading}
use Rattle.tla_parser.specs.declared.places.Places.{Places}
use Rattle.tla_parser.specs.declared.places.Standing.{Standing}
use Rattle.tla_parser.specs.declared.recognizer.Recognizer.{Recognizer}
use Rattle.tla_parser.specs.declared.signs.Sign.{Sign}
use Rattle.tla_parser.specs.inner.Derivations.{look}
use Rattle.tla_parser.specs.inner.Recognition.{Status, advance, advances, code_read, finished, lost, module_start, running, stood}
use Rattle.tla_parser.specs.inner.Repeats.{AreFields, Walk, once_codes, walk_of, walk_start, walked}
use Rattle.tla_parser.specs.inner.Refusals.{HasRead, HasStart, IsEnd, IsLast, IsOnce, IsReading, IsStep, faulty, renewed}
use Rattle.tla_parser.specs.inner.Standings.{behind_header, heading, in_header, innermost, standing, standing_of, starts}

-- what is said with a token more, and whether a unit begins with it behind whole ones
pub record Moved (p q : Places) (before behind : Standing) (seen : Seen) (place : Place) (once : Bool) : Type 0 where
  pub start_so : q.start ≡ renewed ((starts seen.sign before behind && once) || (not p.begun && behind_header before)) place p.start
  pub within_so : q.within ≡ renewed (((starts seen.sign before behind && once) && nat_le behind.levels 400) || (not p.begun && behind_header before)) place p.within
  pub begun_so : q.begun ≡ (p.begun || (starts seen.sign before behind && once))
  pub whole_so : q.whole ≡ cond (starts seen.sign before behind) once p.whole
  pub last_so : q.last ≡ place

pub renewed_as : (a b h k : Bool) (place : Place) (o : Option Place) → a ≡ b → h ≡ k → renewed (a || h) place o ≡ renewed (b || k) place o
renewed_as a b h k place o e f = cc

last_read : (ts : List Token) (t : Token) (place : Place) → place ≡ t.place → IsLast (last_of (ts ++ (t ∷ []))) place
last_read ts t place q = subst (λ (o : Option Token). IsLast o place) (sym (last_next ts t)) q

no_start : (a : Bool) → (a && false) ≡ false
no_start true = refl
no_start false = refl

-- a token with which reading sticks begins no unit
stuck_begins : (s : Sign) (before : Standing) (st : Status) → (standing_of st).stuck ≡ true → starts s before (standing_of st) ≡ false
stuck_begins s before lost h = no_start (begins_unit s)
stuck_begins s before (running Stuck xs c m) h = no_start (begins_unit s)
stuck_begins s before (running (Have w) xs c m) h = absurd (cc)
stuck_begins s before (running Want xs c m) h = absurd (clash (innermost xs).stuck h (never_stuck xs))
stuck_begins s before (running Read xs c m) h = absurd (clash (innermost xs).stuck h (never_stuck xs))

-- what the two tests say of the tokens
pub record IsBegun (ts : List Token) (t : Token) (b once : Bool) : Type 0 where
  pub begins_so : b ≡ begins_at ts t
  pub once_so : b ≡ true → once ≡ read_once (ts ++ (t ∷ []))

begun_here : (ts : List Token) (t : Token) (before behind : Standing) (seen : Seen) (place : Place) (once : Bool) → IsStep ts t before behind seen place → IsOnce ts t behind once → IsBegun ts t (starts seen.sign before behind) once
begun_here ts t before behind seen place once s o = record {
  begins_so = starts_as seen.sign (sign t) before _ behind _ (ap (λ (x : Seen). x.sign) s.seen_so) s.before_so s.behind_so;
  once_so = λ b. o (elim (either behind.stuck) [
    | inl k ↦ absurd (clash (starts seen.sign before behind) b (ap (starts seen.sign before) s.behind_so ∙ stuck_begins seen.sign before (read (ts ++ (t ∷ []))) (ap (λ (x : Standing). x.stuck) (sym s.behind_so) ∙ k)))
    | inr k ↦ k
  ]);
}
  where
    starts_as : (a b : Sign) (u v x y : Standing) → a ≡ b → u ≡ v → x ≡ y → starts a u x ≡ starts b v y
    starts_as a b u v x y e f g = cc

-- where it begins, and so whether behind whole ones
begun_whole : (ts : List Token) (t : Token) (b once : Bool) → IsBegun ts t b once → (b && once) ≡ begins_whole ts t
begun_whole ts t true once i = rw (sym i.begins_so) (i.once_so refl)
begun_whole ts t false once i = rw (sym i.begins_so) refl

pub kept : (ts : List Token) (t : Token) (p q : Places) (before behind : Standing) (seen : Seen) (place : Place) (once : Bool) → IsStep ts t before behind seen place → IsOnce ts t behind once → HasRead ts p → Moved p q before behind seen place once → HasRead (ts ++ (t ∷ [])) q
kept ts t p q before behind seen place once s o h m =
    let i : IsBegun ts t (starts seen.sign before behind) once = begun_here ts t before behind seen place once s o in
    let b : (starts seen.sign before behind && once) ≡ begins_whole ts t = begun_whole ts t (starts seen.sign before behind) once i in
    record {
      last_so = last_read ts t q.last (m.last_so ∙ s.place_so);
      start_so = subst (λ (o : Option Place). HasStart AreSpelled (ts ++ (t ∷ [])) o q.begun) (sym (m.start_so ∙ start_as (starts seen.sign before behind && once) (begins_whole ts t) (behind_header before) _ place t.place p.begun p.start b (ap behind_header s.before_so) s.place_so))
          (subst (λ (g : Bool). HasStart AreSpelled (ts ++ (t ∷ [])) (renewed (begins_whole ts t || (not p.begun && behind_header (standing_of (read ts)))) t.place p.start) g) (sym (m.begun_so ∙ ap (λ (x : Bool). p.begun || x) b))
          (start_kept ts t p.start p.begun h.heading_so h.start_so));
      within_so = subst (λ (o : Option Place). HasStart (SpelledWithin 400) (ts ++ (t ∷ [])) o q.begun) (sym (m.within_so ∙ start_as ((starts seen.sign before behind && once) && nat_le behind.levels 400) (begins_within ts t) (behind_header before) _ place t.place p.begun p.within (within_as _ _ behind _ b s.behind_so) (ap behind_header s.before_so) s.place_so))
          (subst (λ (g : Bool). HasStart (SpelledWithin 400) (ts ++ (t ∷ [])) (renewed (begins_within ts t || (not p.begun && behind_header (standing_of (read ts)))) t.place p.within) g) (sym (m.begun_so ∙ ap (λ (x : Bool). p.begun || x) b))
          (within_kept ts t p.within p.begun h.heading_so h.within_so));
      heading_so = λ e. heading_kept ts t p.begun h.heading_so (sym (m.begun_so ∙ ap (λ (x : Bool). p.begun || x) b) ∙ e);
      whole_so = whole_next ts t (starts seen.sign before behind) q.whole i.begins_so
          (λ e. m.whole_so ∙ rw e (i.once_so e)) (λ e w. h.whole_so (sym (m.whole_so ∙ rw e refl) ∙ w));
      broken_so = broken_next ts t (starts seen.sign before behind) q.whole i.begins_so
          (λ e. m.whole_so ∙ rw e (i.once_so e)) (λ e w. h.broken_so (sym (m.whole_so ∙ rw e refl) ∙ w));
    }
  where
    start_as : (a b h k : Bool) (x y : Place) (g : Bool) (o : Option Place) → a ≡ b → h ≡ k → x ≡ y → renewed (a || (not g && h)) x o ≡ renewed (b || (not g && k)) y o
    start_as a b h k x y g o e f d = cc

    within_as : (a b : Bool) (x y : Standing) → a ≡ b → x ≡ y → (a && nat_le x.levels 400) ≡ (b && nat_le y.levels 400)
    within_as a b x y e f = cc

-- ---- at the end

header_first : heading module_start ≡ true
unfolding in_header
header_first = refl

pub start_empty : (p : Places) → p.start ≡ None → p.within ≡ None → p.begun ≡ false → p.whole ≡ true → HasRead [] p
start_empty p s w b o = record {
  last_so = tt;
  start_so = subst (λ (o : Option Place). HasStart AreSpelled [] o p.begun) (sym s) (refl, b);
  within_so = subst (λ (o : Option Place). HasStart (SpelledWithin 400) [] o p.begun) (sym w) (refl, b);
  heading_so = λ e. record { heading_so = header_first; once_so = refl };
  whole_so = λ e f t r q. absurd (no_split f r t q);
  broken_so = λ e. absurd (clash p.whole o e);
}

some_last : (ts : List Token) → 0 < length ts → Follows (λ u. u ≡ u) (last_of ts)
some_last [] h = absurd (nothing h)
  where
    nothing : 0 < 0 → ⊥
    nothing q = omega arith
some_last (t ∷ []) h = refl
some_last (t ∷ u ∷ ts) h = some_last (u ∷ ts) (omega arith)

last_is : (o : Option Token) (place : Place) → Follows (λ u. u ≡ u) o → IsLast o place → Follows (λ u. place ≡ u.place) o
last_is (Some u) place f b = b
last_is None place f b = absurd f

pub bad_at : (ts : List Token) (p : Places) (end : Standing) (place : Place) → 0 < length ts → IsEnd ts end → HasRead ts p → place ≡ faulty (not p.begun && behind_header end) p.last p.start → FaultAt AreSpelled place ts
bad_at ts p end place l e h q =
    fault_place AreSpelled ts p.start p.begun (behind_header end) p.last place (last_is (last_of ts) p.last (some_last ts l) h.last_so)
    (λ g. none_left AreSpelled ts ts (behind_header end) (λ t. subst (λ (b : Bool). Tells b (Whole AreSpelled ts t)) (ap behind_header (sym e)) (header_tells ts t (h.heading_so g))) refl (some_last ts l))
    h.start_so q

pub deep_at : (ts : List Token) (p : Places) (end : Standing) (place : Place) → 0 < length ts → IsEnd ts end → HasRead ts p → place ≡ faulty (not p.begun && behind_header end) p.last p.within → FaultAt (SpelledWithin 400) place ts
deep_at ts p end place l e h q =
    fault_place (SpelledWithin 400) ts p.within p.begun (behind_header end) p.last place (last_is (last_of ts) p.last (some_last ts l) h.last_so)
    (λ g. none_left (SpelledWithin 400) ts ts (behind_header end) (λ t. subst (λ (b : Bool). Tells b (Whole (SpelledWithin 400) ts t)) (ap behind_header (sym e)) (header_within ts t (h.heading_so g))) refl (some_last ts l))
    h.within_so q

-- ---- the reading with a stack

pub stood_standing : (mode : Mode) (r : Recognizer) → standing mode (reverse r.stack.items) ≡ standing_of (stood mode r)
stood_standing Read r = refl
stood_standing Want r = refl
stood_standing (Have w) r = refl
stood_standing Stuck r = refl

-- a token was read behind the tokens
pub step_read : (ts : List Token) (t : Token) (mode next : Mode) (old new : Recognizer) (before behind : Standing) (seen : Seen) → stood mode old ≡ advances module_start ts → stood next new ≡ advance t (stood mode old) → before ≡ standing mode (reverse old.stack.items) → behind ≡ standing next (reverse new.stack.items) → seen ≡ look t → IsStep ts t before behind seen t.place
step_read ts t mode next old new before behind seen e a b c s = record {
  before_so = b ∙ stood_standing mode old ∙ ap standing_of e;
  behind_so = c ∙ stood_standing next new ∙ ap standing_of (a ∙ ap (advance t) e ∙ sym (read_next ts t));
  seen_so = s;
  place_so = refl;
}

-- where a token was read, the fields of what was read
fields_next : (t : Token) (mode next : Mode) (old new : Recognizer) (f g : Fields) (n : ℕ) → stood next new ≡ advance t (stood mode old) → AreFields (stood mode old) f → n ≡ length old.code.items → walk_of g ≡ walked (drop n new.code.items) (walk_of f) → AreFields (stood next new) g
fields_next t mode next old new f g n e a q w = λ b.
    let d : (standing_of (stood mode old)).stuck ≡ false = unstuck_before t (stood mode old) (ap (λ (st : Status). (standing_of st).stuck) (sym e) ∙ b) in
    let c : code_read (stood mode old) ≡ old.code.items = code_stood mode old d in
    let k : code_read (stood next new) ≡ new.code.items = code_stood next new b in
    let l : Longer (code_read (stood mode old)) (code_read (stood next new)) = grows_code (stood next new) (code_read (stood mode old)) b (subst (Grows (code_read (stood mode old))) (sym e) (advance_grows t (stood mode old) (code_read (stood mode old)) (grows_self (stood mode old)))) in
    w ∙ rest_walked (code_read (stood mode old)) (code_read (stood next new)) l n new.code.items (walk_of f) (q ∙ ap length (sym c)) (sym k) (a d)
  where
    code_stood : (m : Mode) (r : Recognizer) → (standing_of (stood m r)).stuck ≡ false → code_read (stood m r) ≡ r.code.items
    code_stood Read r h = refl
    code_stood Want r h = refl
    code_stood (Have w) r h = refl
    code_stood Stuck r h = absurd (cc)

    rest_walked : (c d : List Code) (l : Longer c d) (n : ℕ) (items : List Code) (x : Walk) → n ≡ length c → items ≡ d → x ≡ walked c walk_start → walked (drop n items) x ≡ walked d walk_start
    rest_walked c d l n items x a b e =
        ap (λ (m : ℕ). walked (drop m items) x) a ∙ ap (λ (xs : List Code). walked (drop (length c) xs) x) b
        ∙ ap (λ (xs : List Code). walked xs x) (behind_codes c d l) ∙ ap (walked l.0) e
        ∙ sym (walked_append c l.0 walk_start) ∙ ap (λ (xs : List Code). walked xs walk_start) (sym l.1)

-- what the two say of a token that was read
pub record IsFollowed (t : Token) (mode next : Mode) (r s : Reading) (n : ℕ) : Type 0 where
  pub state_so : stood next s.recognizer ≡ advance t (stood mode r.recognizer)
  pub count_so : n ≡ length r.recognizer.code.items
  pub fields_so : walk_of s.fields ≡ walked (drop n s.recognizer.code.items) (walk_of r.fields)

pub fields_followed : (t : Token) (mode next : Mode) (r s : Reading) (n : ℕ) → IsFollowed t mode next r s n → AreFields (stood mode r.recognizer) r.fields → AreFields (stood next s.recognizer) s.fields
fields_followed t mode next r s n i a = fields_next t mode next r.recognizer s.recognizer r.fields s.fields n i.state_so a i.count_so i.fields_so

-- whether a field was named twice
pub once_followed : (ts : List Token) (t : Token) (mode next : Mode) (r s : Reading) (n : ℕ) (behind : Standing) → IsFollowed t mode next r s n → IsReading ts mode r → behind ≡ standing next (reverse s.recognizer.stack.items) → IsOnce ts t behind s.fields.once
once_followed ts t mode next r s n behind i k e = λ b.
    let a : stood next s.recognizer ≡ read (ts ++ (t ∷ [])) = i.state_so ∙ ap (advance t) k.status_so ∙ sym (read_next ts t) in
    let w : walk_of s.fields ≡ walked (code_read (stood next s.recognizer)) walk_start = fields_followed t mode next r s n i k.fields_so (ap (λ (x : Standing). x.stuck) (sym (e ∙ stood_standing next s.recognizer)) ∙ b) in
    ap (λ (x : Walk). x.0) w ∙ ap (λ (st : Status). once_codes (code_read st)) a

pub reading_next : (ts : List Token) (t : Token) (mode next : Mode) (r s : Reading) (n : ℕ) → IsFollowed t mode next r s n → IsReading ts mode r → HasRead (ts ++ (t ∷ [])) s.places → IsReading (ts ++ (t ∷ [])) next s
reading_next ts t mode next r s n i k h = record {
  status_so = i.state_so ∙ ap (advance t) k.status_so ∙ sym (read_next ts t);
  kept = h;
  fields_so = fields_followed t mode next r s n i k.fields_so;
}

-- whether a field of a whole module was named twice
pub whole_once : (ts : List Token) (mode : Mode) (r : Reading) → IsReading ts mode r → finished (read ts) ≡ true → r.fields.once ≡ read_once ts
whole_once ts mode r i f =
    ap (λ (x : Walk). x.0) (i.fields_so (ap (λ (st : Status). (standing_of st).stuck) i.status_so ∙ unstuck (read ts) f))
    ∙ ap (λ (st : Status). once_codes (code_read st)) i.status_so
  where
    unstuck : (st : Status) → finished st ≡ true → (standing_of st).stuck ≡ false
    unstuck st e = elim (either (standing_of st).stuck) [ inl k ↦ absurd (clash (finished st) e (stuck_ends st k [])) | inr k ↦ k ]
