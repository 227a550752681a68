-- Where the last unit begins, by the reading with a stack.
use Rattle.std.proofs.Common.{ℕ, Bool, true, false, not, List, Option, Some, None, inl, inr, refl, sym, ap, subst, append_assoc, nat_le, leb-true, leb-false, ◌≡◌, ◌⊎◌, ◌∷◌, ◌++◌, ◌&&◌, ◌||◌, ◌∙◌, []}
use Rattle.tla_lexer.specs.declared.token.Token.{Token}
use Rattle.tla_meaning.specs.declared.place.Place.{Place}
use Rattle.tla_parser.proofs.Basics.{and_both, either}
use Rattle.tla_parser.proofs.FieldLaw.{once_front}
use Rattle.tla_parser.proofs.Growing.{Grows, Longer, advances_grow, grows_code, grows_self, never_stuck}
use Rattle.tla_parser.proofs.Headers.{heading_ends, heading_goes, heading_levels, heading_once}
use Rattle.tla_parser.proofs.Laws.{clash}
use Rattle.tla_parser.proofs.Starts.{Based, advances_based, started, started_levels, started_once}
use Rattle.tla_parser.proofs.Top.{IsRead, module_reads, read_module, read_spells, spelled_once, too_deep, within_levels}
use Rattle.tla_parser.proofs.Tracking.{Tells, split_end, start_next}
use Rattle.tla_parser.specs.Beginnings.{Begins, Follows, NoneLeft, Whole, begins_unit, ended, last_of}
use Rattle.tla_parser.specs.Grammar.{AreSpelled, SpelledWithin, module_for}
use Rattle.tla_parser.specs.Refused.{WholeBefore}
use Rattle.tla_parser.specs.Rules.{IsWritten}
use Rattle.tla_parser.specs.Signs.{sign}
use Rattle.tla_parser.specs.inner.Moves.{in_units}
use Rattle.tla_parser.specs.declared.open.Mode.TheVariants.{Have, Read, Stuck, Want}
use Rattle.tla_parser.specs.inner.Recognition.{Status, advance, advances, code_read, finished, levels_read, lost, module_start, running}
use Rattle.tla_parser.specs.inner.Refusals.{HasStart, IsBroken, IsHeading, renewed}
use Rattle.tla_parser.specs.inner.Repeats.{once_codes}
use Rattle.tla_parser.specs.inner.Standings.{behind_header, heading, leads, standing_of, starts}

-- what is read of the tokens
abbrev pub read : List Token → Status
read ts = advances module_start ts

pub advances_append : (st : Status) (ts us : List Token) → advances st (ts ++ us) ≡ advances (advances st ts) us
advances_append st [] us = refl
advances_append st (t ∷ ts) us = advances_append (advance t st) ts us

pub read_next : (ts : List Token) (t : Token) → read (ts ++ (t ∷ [])) ≡ advance t (read ts)
read_next ts t = advances_append module_start ts (t ∷ [])

module_based : Based module_start
unfolding in_units
module_based = refl

pub read_based : (ts : List Token) → Based (read ts)
read_based ts = advances_based ts module_start module_based

-- ---- modules

pub written_tells : (ts : List Token) → Tells (finished (read ts)) (IsWritten ts)
written_tells ts = record {
  yes = λ e. let r : IsRead ts = read_module ts e in record { written = r.written; by_rules = r.by_rules; tokens_so = r.tokens_so };
  no = λ e w. clash (finished (read ts)) (module_reads ts w.written w.by_rules w.tokens_so) e;
}

-- no field of what is read is named twice
abbrev pub read_once : List Token → Bool
read_once ts = once_codes (code_read (read ts))

pub spelled_tells : (ts : List Token) → Tells (finished (read ts) && read_once ts) (AreSpelled ts)
spelled_tells ts = record {
  yes = λ e. let b : (finished (read ts) ≡ true) × (read_once ts ≡ true) = and_both (finished (read ts)) (read_once ts) e in
      let r : IsRead ts = read_module ts b.0 in (module_for ts r.written, read_spells ts (module_for ts r.written) r refl b.1);
  no = λ e w. let b : (finished (read ts) ≡ true) × (read_once ts ≡ true) = spelled_once ts w.0 w.1 in clash (finished (read ts) && read_once ts) (rw (b.0, b.1) refl) e;
}

within_tells : (ts : List Token) → Tells ((finished (read ts) && read_once ts) && nat_le (levels_read (read ts)) 400) (SpelledWithin 400 ts)
within_tells ts = record {
  yes = λ e. let b : ((finished (read ts) && read_once ts) ≡ true) × (nat_le (levels_read (read ts)) 400 ≡ true) = and_both (finished (read ts) && read_once ts) (nat_le (levels_read (read ts)) 400) e in
      let d : (finished (read ts) ≡ true) × (read_once ts ≡ true) = and_both (finished (read ts)) (read_once ts) b.0 in
      within_levels ts (read_module ts d.0) d.1 (leb-true (levels_read (read ts)) 400 b.1);
  no = λ e w. not_within e w (either (nat_le (levels_read (read ts)) 400)) (spelled_once ts w.source w.spelled);
}
  where
    not_within : ((finished (read ts) && read_once ts) && nat_le (levels_read (read ts)) 400) ≡ false → SpelledWithin 400 ts → (nat_le (levels_read (read ts)) 400 ≡ true) ⊎ (nat_le (levels_read (read ts)) 400 ≡ false) → (finished (read ts) ≡ true) × (read_once ts ≡ true) → ⊥
    not_within e w (inl l) f = clash ((finished (read ts) && read_once ts) && nat_le (levels_read (read ts)) 400) (rw (f.0, f.1, l) refl) e
    not_within e w (inr l) f = too_deep ts (leb-false (levels_read (read ts)) 400 l) w

-- ---- a token behind them

-- whether a unit begins with t, whether those before are whole, and whether they are within the levels
abbrev pub begins_at : List Token → Token → Bool
begins_at ts t = starts (sign t) (standing_of (read ts)) (standing_of (read (ts ++ (t ∷ []))))

abbrev pub begins_whole : List Token → Token → Bool
begins_whole ts t = begins_at ts t && read_once (ts ++ (t ∷ []))

abbrev pub begins_within : List Token → Token → Bool
begins_within ts t = begins_whole ts t && nat_le (standing_of (read (ts ++ (t ∷ [])))).levels 400

pub begins_is : (ts : List Token) (t : Token) → begins_unit (sign t) ≡ true → begins_at ts t ≡ finished (read (ts ++ (ended t ∷ [])))
begins_is ts t b =
    ap (λ (st : Status). starts (sign t) (standing_of (read ts)) (standing_of st)) (read_next ts t)
    ∙ started t (read ts) (read_based ts) b
    ∙ ap finished (sym (read_next ts (ended t)))

begins_levels : (ts : List Token) (t : Token) → begins_at ts t ≡ true → (standing_of (read (ts ++ (t ∷ [])))).levels ≡ levels_read (read (ts ++ (ended t ∷ [])))
begins_levels ts t e =
    ap (λ (st : Status). (standing_of st).levels) (read_next ts t)
    ∙ started_levels t (read ts) (read_based ts) (ap (λ (st : Status). starts (sign t) (standing_of (read ts)) (standing_of st)) (sym (read_next ts t)) ∙ e)
    ∙ ap levels_read (sym (read_next ts (ended t)))

pub begins_tells : (ts : List Token) (t : Token) → Tells (begins_at ts t) (Begins IsWritten ts t)
begins_tells ts t = record {
  yes = λ e. let b : begins_unit (sign t) ≡ true = (and_both (begins_unit (sign t)) _ e).0 in
      (b, (written_tells (ts ++ (ended t ∷ []))).yes (sym (begins_is ts t b) ∙ e));
  no = λ e w. (written_tells (ts ++ (ended t ∷ []))).no (sym (begins_is ts t w.0) ∙ e) w.1;
}

pub begins_so : (ts : List Token) (t : Token) → Begins IsWritten ts t → begins_at ts t ≡ true
begins_so ts t b = elim (either (begins_at ts t)) [ inl e ↦ e | inr e ↦ absurd ((begins_tells ts t).no e b) ]

-- both are so just where both others are, when the first decides
both_alike : (x y p q : Bool) → x ≡ y → (x ≡ true → p ≡ q) → (x && p) ≡ (y && q)
both_alike true y p q e f = rw (sym e, f refl) refl
both_alike false y p q e f = rw (sym e) refl

begins_once : (ts : List Token) (t : Token) → begins_at ts t ≡ true → read_once (ts ++ (t ∷ [])) ≡ read_once (ts ++ (ended t ∷ []))
begins_once ts t e =
    ap (λ (st : Status). once_codes (code_read st)) (read_next ts t)
    ∙ started_once t (read ts) (read_based ts) (ap (λ (st : Status). starts (sign t) (standing_of (read ts)) (standing_of st)) (sym (read_next ts t)) ∙ e)
    ∙ ap (λ (st : Status). once_codes (code_read st)) (sym (read_next ts (ended t)))

whole_is : (ts : List Token) (t : Token) → begins_unit (sign t) ≡ true → begins_whole ts t ≡ (finished (read (ts ++ (ended t ∷ []))) && read_once (ts ++ (ended t ∷ [])))
whole_is ts t b = both_alike (begins_at ts t) (finished (read (ts ++ (ended t ∷ [])))) (read_once (ts ++ (t ∷ []))) (read_once (ts ++ (ended t ∷ []))) (begins_is ts t b) (begins_once ts t)

pub whole_tells : (ts : List Token) (t : Token) → Tells (begins_whole ts t) (Begins AreSpelled ts t)
whole_tells ts t = record {
  yes = λ e. let b : begins_unit (sign t) ≡ true = (and_both (begins_unit (sign t)) _ (and_both (begins_at ts t) (read_once (ts ++ (t ∷ []))) e).0).0 in
      (b, (spelled_tells (ts ++ (ended t ∷ []))).yes (sym (whole_is ts t b) ∙ e));
  no = λ e w. (spelled_tells (ts ++ (ended t ∷ []))).no (sym (whole_is ts t w.0) ∙ e) w.1;
}

within_is : (ts : List Token) (t : Token) → begins_unit (sign t) ≡ true → begins_within ts t ≡ ((finished (read (ts ++ (ended t ∷ []))) && read_once (ts ++ (ended t ∷ []))) && nat_le (levels_read (read (ts ++ (ended t ∷ [])))) 400)
within_is ts t b = both_alike (begins_whole ts t) (finished (read (ts ++ (ended t ∷ []))) && read_once (ts ++ (ended t ∷ []))) (nat_le (standing_of (read (ts ++ (t ∷ [])))).levels 400) (nat_le (levels_read (read (ts ++ (ended t ∷ [])))) 400) (whole_is ts t b) (λ e. ap (λ (n : ℕ). nat_le n 400) (begins_levels ts t (and_both (begins_at ts t) (read_once (ts ++ (t ∷ []))) e).0))

pub within_begins_tells : (ts : List Token) (t : Token) → Tells (begins_within ts t) (Begins (SpelledWithin 400) ts t)
within_begins_tells ts t = record {
  yes = λ e. let w : begins_whole ts t ≡ true = (and_both (begins_whole ts t) (nat_le (standing_of (read (ts ++ (t ∷ [])))).levels 400) e).0 in
      let b : begins_unit (sign t) ≡ true = (and_both (begins_unit (sign t)) _ (and_both (begins_at ts t) (read_once (ts ++ (t ∷ []))) w).0).0 in
      (b, (within_tells (ts ++ (ended t ∷ []))).yes (sym (within_is ts t b) ∙ e));
  no = λ e w. (within_tells (ts ++ (ended t ∷ []))).no (sym (within_is ts t w.0) ∙ e) w.1;
}

-- behind the header
header_is : (ts : List Token) (t : Token) → heading (read ts) ≡ true → behind_header (standing_of (read ts)) ≡ finished (read (ts ++ (ended t ∷ [])))
header_is ts t h = heading_ends t (read ts) h ∙ ap finished (sym (read_next ts (ended t)))

-- a header names no field
once_next : (ts : List Token) (t : Token) → IsHeading ts → read_once (ts ++ (t ∷ [])) ≡ true
once_next ts t h = ap (λ (st : Status). once_codes (code_read st)) (read_next ts t) ∙ heading_once t (read ts) h.heading_so h.once_so

true_right : (a b : Bool) → b ≡ true → (a && b) ≡ a
true_right true b e = e
true_right false b e = refl

header_whole : (ts : List Token) (t : Token) → IsHeading ts → (finished (read (ts ++ (ended t ∷ []))) && read_once (ts ++ (ended t ∷ []))) ≡ behind_header (standing_of (read ts))
header_whole ts t h = true_right (finished (read (ts ++ (ended t ∷ [])))) (read_once (ts ++ (ended t ∷ []))) (once_next ts (ended t) h) ∙ sym (header_is ts t h.heading_so)

pub header_tells : (ts : List Token) (t : Token) → IsHeading ts → Tells (behind_header (standing_of (read ts))) (Whole AreSpelled ts t)
header_tells ts t h = subst (λ (b : Bool). Tells b (Whole AreSpelled ts t)) (header_whole ts t h) (spelled_tells (ts ++ (ended t ∷ [])))

no_levels : (ts : List Token) (t : Token) → IsHeading ts → levels_read (read (ts ++ (t ∷ []))) ≡ 0
no_levels ts t h = ap levels_read (read_next ts t) ∙ heading_levels t (read ts) h.heading_so

few : (b : Bool) (n : ℕ) → n ≡ 0 → (b && nat_le n 400) ≡ b
few true n e = rw e refl
few false n e = refl

pub header_within : (ts : List Token) (t : Token) → IsHeading ts → Tells (behind_header (standing_of (read ts))) (Whole (SpelledWithin 400) ts t)
header_within ts t h =
    subst (λ (b : Bool). Tells b (Whole (SpelledWithin 400) ts t))
    (few (finished (read (ts ++ (ended t ∷ []))) && read_once (ts ++ (ended t ∷ []))) (levels_read (read (ts ++ (ended t ∷ [])))) (no_levels ts (ended t) h) ∙ header_whole ts t h)
    (within_tells (ts ++ (ended t ∷ [])))

-- the first unit begins behind nothing that names a field, and within the levels
first_whole : (ts : List Token) (t : Token) → IsHeading ts → begins_whole ts t ≡ begins_at ts t
first_whole ts t h = true_right (begins_at ts t) (read_once (ts ++ (t ∷ []))) (once_next ts t h)

first_within : (ts : List Token) (t : Token) → IsHeading ts → begins_within ts t ≡ begins_whole ts t
first_within ts t h = elim (either (begins_whole ts t)) [
  | inl e ↦ few (begins_whole ts t) (standing_of (read (ts ++ (t ∷ [])))).levels (begins_levels ts t (and_both (begins_at ts t) (read_once (ts ++ (t ∷ []))) e).0 ∙ no_levels ts (ended t) h)
  | inr e ↦ none (begins_whole ts t) _ e
]
  where
    none : (b c : Bool) → b ≡ false → (b && c) ≡ b
    none true c e = cc
    none false c e = refl

-- ---- what is kept

pub start_kept : (ts : List Token) (t : Token) (o : Option Place) (g : Bool) → (g ≡ false → IsHeading ts) → HasStart AreSpelled ts o g → HasStart AreSpelled (ts ++ (t ∷ [])) (renewed (begins_whole ts t || (not g && behind_header (standing_of (read ts)))) t.place o) (g || begins_whole ts t)
start_kept ts t o g h s = start_next AreSpelled ts t o g (begins_whole ts t) (behind_header (standing_of (read ts))) (whole_tells ts t) (λ e. header_tells ts t (h e)) s

pub within_kept : (ts : List Token) (t : Token) (o : Option Place) (g : Bool) → (g ≡ false → IsHeading ts) → HasStart (SpelledWithin 400) ts o g → HasStart (SpelledWithin 400) (ts ++ (t ∷ [])) (renewed (begins_within ts t || (not g && behind_header (standing_of (read ts)))) t.place o) (g || begins_whole ts t)
within_kept ts t o g h s =
    subst (λ (b : Bool). HasStart (SpelledWithin 400) (ts ++ (t ∷ [])) (renewed (begins_within ts t || (not g && behind_header (standing_of (read ts)))) t.place o) b) (flags g h)
    (start_next (SpelledWithin 400) ts t o g (begins_within ts t) (behind_header (standing_of (read ts))) (within_begins_tells ts t) (λ e. header_within ts t (h e)) s)
  where
    flags : (x : Bool) → (x ≡ false → IsHeading ts) → (x || begins_within ts t) ≡ (x || begins_whole ts t)
    flags true k = refl
    flags false k = first_within ts t (k refl)

pub heading_kept : (ts : List Token) (t : Token) (g : Bool) → (g ≡ false → IsHeading ts) → (g || begins_whole ts t) ≡ false → IsHeading (ts ++ (t ∷ []))
heading_kept ts t true h e = absurd (cc)
heading_kept ts t false h e = record {
  heading_so = ap heading (read_next ts t) ∙ heading_goes t (read ts) (h refl).heading_so (ap (λ (st : Status). starts (sign t) (standing_of (read ts)) (standing_of st)) (sym (read_next ts t)) ∙ sym (first_whole ts t (h refl)) ∙ e);
  once_so = once_next ts t (h refl);
}

-- the units before a whole one are whole
begins_sooner : (ts us : List Token) (t u : Token) → read_once ((ts ++ (t ∷ us)) ++ (u ∷ [])) ≡ true → (standing_of (read ((ts ++ (t ∷ us)) ++ (u ∷ [])))).stuck ≡ false → read_once (ts ++ (t ∷ [])) ≡ true
begins_sooner ts us t u o n =
    let e : read ((ts ++ (t ∷ us)) ++ (u ∷ [])) ≡ advances (read (ts ++ (t ∷ []))) (us ++ (u ∷ [])) = ap read (sooner_split ts us t u) ∙ advances_append module_start (ts ++ (t ∷ [])) (us ++ (u ∷ [])) in
    let l : Longer (code_read (read (ts ++ (t ∷ [])))) (code_read (read ((ts ++ (t ∷ us)) ++ (u ∷ [])))) =
    grows_code (read ((ts ++ (t ∷ us)) ++ (u ∷ []))) (code_read (read (ts ++ (t ∷ [])))) n
    (subst (Grows (code_read (read (ts ++ (t ∷ []))))) (sym e) (advances_grow (us ++ (u ∷ [])) (read (ts ++ (t ∷ []))) (code_read (read (ts ++ (t ∷ [])))) (grows_self (read (ts ++ (t ∷ [])))))) in
    once_front (code_read (read (ts ++ (t ∷ [])))) l.0 (ap once_codes (sym l.1) ∙ o)
  where
    sooner_split : (xs ys : List Token) (x y : Token) → (xs ++ (x ∷ ys)) ++ (y ∷ []) ≡ (xs ++ (x ∷ [])) ++ (ys ++ (y ∷ []))
    sooner_split [] ys x y = refl
    sooner_split (z ∷ xs) ys x y = ap (λ (zs : List Token). z ∷ zs) (sooner_split xs ys x y)

pub begun_unstuck : (ts : List Token) (t : Token) → begins_at ts t ≡ true → (standing_of (read (ts ++ (t ∷ [])))).stuck ≡ false
begun_unstuck ts t b = by_state (read (ts ++ (t ∷ []))) (and_both (leads (sign t) (standing_of (read (ts ++ (t ∷ [])))).next) _ (and_both (begins_unit (sign t)) _ b).1).0
  where
    by_state : (st : Status) → leads (sign t) (standing_of st).next ≡ true → (standing_of st).stuck ≡ false
    by_state lost e = absurd (cc)
    by_state (running Stuck s c m) e = absurd (cc)
    by_state (running (Have w) s c m) e = absurd (cc)
    by_state (running Want s c m) e = never_stuck s
    by_state (running Read s c m) e = never_stuck s

pub whole_next : (ts : List Token) (t : Token) (b w : Bool) → b ≡ begins_at ts t → (b ≡ true → w ≡ read_once (ts ++ (t ∷ []))) → (b ≡ false → w ≡ true → WholeBefore ts) → w ≡ true → WholeBefore (ts ++ (t ∷ []))
whole_next ts t b w e o k q = λ f u r s i. elim (split_end ts f r t u s) [
  | inl h ↦ here f u h.front_so h.token_so i
  | inr h ↦ (elim (either b) [
    | inl d ↦ earlier f u h.rest h.tokens_so i d
    | inr d ↦ k d q f u h.rest h.tokens_so i
  ])
]
  where
    here : (f : List Token) (u : Token) → f ≡ ts → u ≡ t → Begins IsWritten f u → Begins AreSpelled f u
    here f u a c i =
        let d : begins_at ts t ≡ true = begins_so ts t (subst (λ (x : Token). Begins IsWritten ts x) c (subst (λ (xs : List Token). Begins IsWritten xs u) a i)) in
        subst (λ (x : Token). Begins AreSpelled f x) (sym c) (subst (λ (xs : List Token). Begins AreSpelled xs t) (sym a) ((whole_tells ts t).yes (rw (d, sym (o (e ∙ d)) ∙ q) refl)))

    earlier : (f : List Token) (u : Token) (rest : List Token) → ts ≡ f ++ (u ∷ rest) → Begins IsWritten f u → b ≡ true → Begins AreSpelled f u
    earlier f u rest a i d =
        let n : begins_at ts t ≡ true = sym e ∙ d in
        let x : read_once (f ++ (u ∷ [])) ≡ true = begins_sooner f rest u t (ap (λ (xs : List Token). read_once (xs ++ (t ∷ []))) (sym a) ∙ sym (o d) ∙ q) (ap (λ (xs : List Token). (standing_of (read (xs ++ (t ∷ [])))).stuck) (sym a) ∙ begun_unstuck ts t n) in
        (whole_tells f u).yes (rw (begins_so f u i, x) refl)

-- one that is not whole stays so
pub broken_next : (ts : List Token) (t : Token) (b w : Bool) → b ≡ begins_at ts t → (b ≡ true → w ≡ read_once (ts ++ (t ∷ []))) → (b ≡ false → w ≡ false → IsBroken ts) → w ≡ false → IsBroken (ts ++ (t ∷ []))
broken_next ts t b w e o k q = elim (either b) [
  | inl d ↦ record {
    front = ts;
    token = t;
    rest = [];
    tokens_so = refl;
    begins = (begins_tells ts t).yes (sym e ∙ d);
    broken = (whole_tells ts t).no (second_false (begins_at ts t) (read_once (ts ++ (t ∷ []))) (sym (o d) ∙ q));
  }
  | inr d ↦ later_broken (k d q)
]
  where
    second_false : (x y : Bool) → y ≡ false → (x && y) ≡ false
    second_false true y h = h
    second_false false y h = refl

    later_broken : IsBroken ts → IsBroken (ts ++ (t ∷ []))
    later_broken i = record {
      front = i.front;
      token = i.token;
      rest = i.rest ++ (t ∷ []);
      tokens_so = ap (λ (us : List Token). us ++ (t ∷ [])) i.tokens_so ∙ append_assoc i.front (i.token ∷ i.rest) (t ∷ []);
      begins = i.begins;
      broken = i.broken;
    }

-- ---- the end

pub none_left : (P : List Token → Type 0) (ts us : List Token) (h : Bool) → ((t : Token) → Tells h (P (us ++ (ended t ∷ [])))) → ts ≡ us → Follows (λ t. t ≡ t) (last_of ts) → Tells h (NoneLeft P ts)
none_left P ts us h k e f = subst (λ (x : List Token). Tells h (NoneLeft P x)) (sym e) (by_last (last_of us) (subst (λ (x : List Token). Follows (λ t. t ≡ t) (last_of x)) e f))
  where
    by_last : (o : Option Token) → Follows (λ t. t ≡ t) o → Tells h (Follows (λ t. P (us ++ (ended t ∷ []))) o)
    by_last (Some t) q = k t
    by_last None q = absurd q
