-- What is written by the rules is parsed, as itself.
use Rattle.tla_lexer.specs.declared.token.Token.{Token as Tok}
use Rattle.std.proofs.Math.Dec.{ltb, leb}
use Rattle.std.proofs.lemmas.Bool.{lt-leb}
use Rattle.std.proofs.Common.{ℕ, Bool, true, false, not, max, List, Some, inl, inr, refl, sym, ap, arith, append_assoc, append-nil, ltb-false, ltb-true, le-ltb, lt-ltb, le-leb, ◌≡◌, ◌<◌, ◌≤◌, ◌⊎◌, ◌∷◌, ◌++◌, ◌&&◌, ◌||◌, ◌∙◌, []}
use Rattle.tla_parser.proofs.Basics.{From-left, From-right, either, not_true, or_left, or_none, or_right}
use Rattle.tla_parser.proofs.Laws.{delta-off, hungry_fresh, hungry_prefix, lo_hi, op-goes_on, postfix_lo, postfix_prefix_lo, postfix_same, prefix_lo_hi, prefix_opens, same_is}
use Rattle.tla_parser.proofs.Machine.{Frame, State, accepts, act, answer, at_bin, at_form, at_pre, behind, enter, floor, fresh, have, heading, margin, module_of, parse_fn, parse_module, placed, pops, run, step, takes, want, whole}
use Rattle.tla_parser.proofs.Origins.{last_parts, shut_parts}
use Rattle.tla_parser.specs.Operators.{after, hi, is_prefix, lo, prefix_lo, same}
use Rattle.tla_parser.specs.Signs.{column, sign}
use Rattle.tla_parser.specs.declared.moves.Class.{Class}
use Rattle.tla_parser.specs.declared.moves.Construct.{Construct}
use Rattle.tla_parser.specs.declared.moves.Mark.TheVariants.{Finished}
use Rattle.tla_parser.specs.declared.moves.Next.{Next}
use Rattle.tla_parser.specs.declared.moves.Next.TheVariants.{Fail, Last, Reads, Shut, Wants}
use Rattle.tla_parser.specs.declared.signs.Role.TheVariants.{InfixRole, PostfixRole}
use Rattle.tla_parser.specs.Rules.{Above, AboveParts}
use Rattle.tla_parser.specs.Written.{From, Parts, Written, bin, class, closed, exp, from, of_module, pre, start, tailed, tok, tokens, tokens_of, top}
use Rattle.tla_parser.specs.inner.Derivations.{IsTableModule, TableEnds, TableFine, TableGood, TableLeaves, TableParts, ahead, delta, form_of, given, idle, inner, is_last, is_shut, point, resumed}
use Rattle.tla_parser.specs.inner.Moves.{Point, begin, behind_op, filled, hungry, is_finished, off, reading}
use Rattle.tla_parser.specs.inner.Recognition.{ended_module, is_fail, op}

-- the state behind w, whose right edge is still open
abbrev pub holding : Written → List Frame → State
holding (closed c ps) s = have (closed c ps) s
holding (tailed c ps w) s = holding w (at_form ps ∷ s)
holding (pre p w) s = holding w (at_pre p ∷ s)
holding (bin a t b) s = holding b (at_bin a t ∷ s)

pub and_false : (b : Bool) → (b && false) ≡ false
and_false true = refl
and_false false = refl

pub pops_left : (t : Tok) (m : ℕ) (b : Bool) → (column t) < m → pops t m b ≡ true
pops_left t m b h = or_left (ltb (column t) m) (not (op (after (sign t))) || b) (lt-ltb (column t) m h)

pub pops_form : (t : Tok) (m : ℕ) (b : Bool) → op (after (sign t)) ≡ false → pops t m b ≡ true
pops_form t m b h = or_right (ltb (column t) m) (not (op (after (sign t))) || b) (rw h refl)

pub pops_bound : (t : Tok) (m : ℕ) (b : Bool) → b ≡ true → pops t m b ≡ true
pops_bound t m b h = or_right (ltb (column t) m) (not (op (after (sign t))) || b) (or_right (not (op (after (sign t)))) b h)

pub pops_not : (t : Tok) (m : ℕ) (b : Bool) → m ≤ (column t) → op (after (sign t)) ≡ true → b ≡ false → pops t m b ≡ false
pops_not t m b h o e = or_none (ltb (column t) m) (not (op (after (sign t))) || b) (le-ltb (column t) m h) (or_none (not (op (after (sign t)))) b (rw o refl) e)

pub accepts_left : (ps : Parts) (w : Written) (t : Tok) (n : ℕ) → (column t) < n → accepts ps w t n ≡ false
accepts_left ps w t n h = rw (lt-leb n (column t) h) refl

pub accepts_fail : (ps : Parts) (w : Written) (t : Tok) (n : ℕ) → delta (given (ahead ps) (class w)) t ≡ Fail → accepts ps w t n ≡ false
accepts_fail ps w t n h = rw h (and_false (leb n (column t)))

pub pop_pre : (t : Tok) (w : Written) (p : Tok) (s : List Frame) → pops t (margin s) (ltb (hi (sign t)) (prefix_lo (sign p))) ≡ true → behind t w (at_pre p ∷ s) ≡ behind t (pre p w) s
pop_pre t w p s h = rw h refl

pub pop_bin : (t : Tok) (w a : Written) (o : Tok) (s : List Frame) → pops t (margin s) (ltb (hi (sign t)) (lo (sign o)) || same (sign o) (sign t)) ≡ true → behind t w (at_bin a o ∷ s) ≡ behind t (bin a o w) s
pop_bin t w a o s h = rw h refl

pub pop_form : (t : Tok) (w : Written) (c : Construct) (ps : Parts) (s : List Frame) → form_of (ahead ps) ≡ c → accepts ps w t (margin s) ≡ false → is_last (ahead ps) ≡ true → pops t (margin (at_form ps ∷ s)) false ≡ true → behind t w (at_form ps ∷ s) ≡ behind t (tailed c ps w) s
pop_form t w c ps s e a l p = rw (a, l, p) (ap (λ (x : Construct). behind t (tailed x ps w) s) e)

less_deeper : (n a b : ℕ) → n < b → n < max a b
less_deeper n a b h = omega arith

outer : (n a b : ℕ) → n < a → n < max a b
outer n a b h = omega arith

-- t stands left of what is open
pub forced : (t : Tok) (w : Written) (s : List Frame) → TableGood w → (column t) < margin s → step t (holding w s) ≡ behind t w s
forced t (closed c ps) s g h = refl
forced t (tailed c ps w) s g h =
    forced t w (at_form ps ∷ s) g.3 (less_deeper (column t) (inner (ahead ps)) (margin s) h)
    ∙ pop_form t w c ps s g.1 (accepts_left ps w t (margin s) h) g.0 (pops_left t (margin (at_form ps ∷ s)) false (less_deeper (column t) (inner (ahead ps)) (margin s) h))
forced t (pre p w) s g h = forced t w (at_pre p ∷ s) g.1 h ∙ pop_pre t w p s (pops_left t (margin s) (ltb (hi (sign t)) (prefix_lo (sign p))) h)
forced t (bin a o b) s g h = forced t b (at_bin a o ∷ s) g.3 h ∙ pop_bin t b a o s (pops_left t (margin s) (ltb (hi (sign t)) (lo (sign o)) || same (sign o) (sign t)) h)

-- t stands left of what is open, or is no operator
abbrev pub Passes : Tok → ℕ → Type 0
Passes t m = ((column t) < m) ⊎ (op (after (sign t)) ≡ false)

pops_passes : (t : Tok) (m : ℕ) (b : Bool) → Passes t m → pops t m b ≡ true
pops_passes t m b (inl h) = pops_left t m b h
pops_passes t m b (inr h) = pops_form t m b h

passes_deeper : (t : Tok) (a b : ℕ) → Passes t b → Passes t (max a b)
passes_deeper t a b (inl h) = inl (less_deeper (column t) a b h)
passes_deeper t a b (inr h) = inr h

pub left : (t : Tok) (w : Written) (s : List Frame) → TableGood w → TableLeaves w t → Passes t (margin s) → step t (holding w s) ≡ behind t w s
left t (closed c ps) s g l h = refl
left t (tailed c ps w) s g l h =
    elim l.1 [
      | inl d ↦ forced t w (at_form ps ∷ s) g.3 (outer (column t) (inner (ahead ps)) (margin s) d)
      | inr k ↦ left t w (at_form ps ∷ s) g.3 k (passes_deeper t (inner (ahead ps)) (margin s) h)
    ]
    ∙ pop_form t w c ps s g.1 (accepts_fail ps w t (margin s) l.0) g.0 (pops_passes t (margin (at_form ps ∷ s)) false (passes_deeper t (inner (ahead ps)) (margin s) h))
left t (pre p w) s g l h = left t w (at_pre p ∷ s) g.1 l h ∙ pop_pre t w p s (pops_passes t (margin s) (ltb (hi (sign t)) (prefix_lo (sign p))) h)
left t (bin a o b) s g l h = left t b (at_bin a o ∷ s) g.3 l h ∙ pop_bin t b a o s (pops_passes t (margin s) (ltb (hi (sign t)) (lo (sign o)) || same (sign o) (sign t)) h)

-- the operator t ends w by its range or its column
pub ended : (t : Tok) (w : Written) (s : List Frame) → TableGood w → TableEnds w t → step t (holding w s) ≡ behind t w s
ended t (closed c ps) s g e = refl
ended t (tailed c ps w) s g e =
    forced t w (at_form ps ∷ s) g.3 (outer (column t) (inner (ahead ps)) (margin s) e.0)
    ∙ pop_form t w c ps s g.1 (accepts_fail ps w t (margin s) e.1) g.0 (pops_left t (margin (at_form ps ∷ s)) false (outer (column t) (inner (ahead ps)) (margin s) e.0))
ended t (pre p w) s g e = ended t w (at_pre p ∷ s) g.1 e.1 ∙ pop_pre t w p s (pops_bound t (margin s) (ltb (hi (sign t)) (prefix_lo (sign p))) (lt-ltb (hi (sign t)) (prefix_lo (sign p)) e.0))
ended t (bin a o b) s g e = ended t b (at_bin a o ∷ s) g.3 e.1 ∙ pop_bin t b a o s (pops_bound t (margin s) (ltb (hi (sign t)) (lo (sign o)) || same (sign o) (sign t)) (takes e.0))
  where
    takes : (hi (sign t) < lo (sign o)) ⊎ (same (sign o) (sign t) ≡ true) → (ltb (hi (sign t)) (lo (sign o)) || same (sign o) (sign t)) ≡ true
    takes (inl h) = or_left (ltb (hi (sign t)) (lo (sign o))) (same (sign o) (sign t)) (lt-ltb (hi (sign t)) (lo (sign o)) h)
    takes (inr h) = or_right (ltb (hi (sign t)) (lo (sign o))) (same (sign o) (sign t)) h

inside : (t : Tok) (w : Written) (s : List Frame) → margin s ≤ (column t) → placed t w s ≡ act t (after (sign t)) w s
inside t w s m = rw (le-ltb (column t) (margin s) m) refl

-- no operator that is on top ends by t
abbrev pub Below : List Frame → Tok → Type 0
Below s t = (floor s ≤ lo (sign t)) ⊎ (after (sign t) ≡ PostfixRole)

given-op : (n : Next) (c : Class) (t : Tok) → op (after (sign t)) ≡ true → inner n ≤ column t → delta (given n c) t ≡ Fail
given-op (Wants m) c t o h = op-goes_on m c t o h
given-op (Last m) c t o h = op-goes_on m c t o h
given-op (Reads m) c t o h = delta-off t
given-op (Shut f) c t o h = delta-off t
given-op Fail c t o h = delta-off t

pub reaches : (t : Tok) (w : Written) (s : List Frame) → margin s ≤ (column t) → op (after (sign t)) ≡ true → Below s t → behind t w s ≡ act t (after (sign t)) w s
reaches t w [] m o b = inside t w [] m
reaches t w (at_pre p ∷ s) m o b = rw (pops_not t (margin s) (ltb (hi (sign t)) (prefix_lo (sign p))) m o (le-ltb (hi (sign t)) (prefix_lo (sign p)) (less b))) (inside t w (at_pre p ∷ s) m)
  where
    less : Below (at_pre p ∷ s) t → prefix_lo (sign p) ≤ hi (sign t)
    less (inl h) = omega (arith, lo_hi (sign t), prefix_lo_hi (sign p))
    less (inr h) = postfix_prefix_lo (sign p) (sign t) h
reaches t w (at_bin a u ∷ s) m o b = rw (pops_not t (margin s) (ltb (hi (sign t)) (lo (sign u)) || same (sign u) (sign t)) m o (or_none (ltb (hi (sign t)) (lo (sign u))) (same (sign u) (sign t)) (le-ltb (hi (sign t)) (lo (sign u)) (less b)) (differs b))) (inside t w (at_bin a u ∷ s) m)
  where
    less : Below (at_bin a u ∷ s) t → lo (sign u) ≤ hi (sign t)
    less (inl h) = omega (arith, lo_hi (sign t), lo_hi (sign u))
    less (inr h) = postfix_lo (sign u) (sign t) h

    differs : Below (at_bin a u ∷ s) t → same (sign u) (sign t) ≡ false
    differs (inl h) = not_true (same (sign u) (sign t)) (λ e. let k : hi (sign u) ≡ hi (sign t) = ap hi (same_is (sign u) (sign t) e) in omega (arith, lo_hi (sign t)))
    differs (inr h) = postfix_same (sign u) (sign t) h
reaches t w (at_form ps ∷ s) m o b =
    rw (accepts_fail ps w t (margin s) (given-op (ahead ps) (class w) t o (omega arith)), pops_not t (margin (at_form ps ∷ s)) false m o refl, and_false (is_last (ahead ps))) (inside t w (at_form ps ∷ s) m)

-- on the left edge of an operand that no operator holds anything may stand
mutual
  pub Above-zero : (w : Written) → Above 0 w
  Above-zero (closed c ps) = AboveParts-zero ps
  Above-zero (tailed c ps w) = AboveParts-zero ps
  Above-zero (pre p w) = tt
  Above-zero (bin a o b) = (omega arith, Above-zero a)

  pub AboveParts-zero : (ps : Parts) → AboveParts 0 ps
  AboveParts-zero start = tt
  AboveParts-zero top = tt
  AboveParts-zero (from w) = Above-zero w
  AboveParts-zero (tok ps t) = AboveParts-zero ps
  AboveParts-zero (exp ps w) = AboveParts-zero ps

-- READING THE PARTS OF A FORM
abbrev pub is_off : Point → Bool
is_off off = true
is_off begin = false
is_off (behind_op w) = false
is_off (reading m) = false
is_off (hungry m) = false
is_off (filled m w) = false

-- the parts are the front of a form
abbrev pub Alive : Parts → Type 0
Alive start = Unit {0}
Alive top = Unit {0}
Alive (from w) = Unit {0}
Alive (tok ps t) = is_fail (ahead (tok ps t)) ≡ false
Alive (exp ps w) = is_off (point (exp ps w)) ≡ false

-- the state behind the parts
abbrev pub standing : Parts → List Frame → State
standing start s = want s
standing top s = heading top s
standing (from w) s = holding w s
standing (tok ps t) s = enter (ahead (tok ps t)) (tok ps t) s
standing (exp ps w) s = holding w (at_form ps ∷ s)

off_fails : (p : Point) (t : Tok) → is_fail (delta p t) ≡ false → is_off p ≡ false
off_fails off t h = let e : delta off t ≡ Fail = delta-off t in absurd (clash (rw e at h))
  where
    clash : true ≡ false → ⊥
    clash q = cc
off_fails begin t h = refl
off_fails (behind_op w) t h = refl
off_fails (reading m) t h = refl
off_fails (hungry m) t h = refl
off_fails (filled m w) t h = refl

off_clash : (t : Tok) → is_fail (delta off t) ≡ false → ⊥
off_clash t h = let e : is_off off ≡ false = off_fails off t h in clash e
  where
    clash : true ≡ false → ⊥
    clash q = cc

resumed_alive : (n : Next) → is_off (resumed n) ≡ false → is_fail n ≡ false
resumed_alive (Reads m) h = refl
resumed_alive (Wants m) h = refl
resumed_alive (Last m) h = cc
resumed_alive (Shut f) h = cc
resumed_alive Fail h = cc

-- behind a token of a form a token of it
resumed_step : (n : Next) (ps : Parts) (t : Tok) (s : List Frame) → ahead ps ≡ n → point ps ≡ resumed n → is_fail (delta (resumed n) t) ≡ false → margin s ≤ (column t) → step t (enter n ps s) ≡ enter (ahead (tok ps t)) (tok ps t) s
resumed_step (Reads m) ps t s r q h c = rw (le-ltb (column t) (margin s) c) refl
resumed_step (Wants m) ps t s r q h c = rw (r, q, le-leb (margin s) (column t) c, h) refl
resumed_step (Last m) ps t s r q h c = absurd (off_clash t h)
resumed_step (Shut f) ps t s r q h c = absurd (off_clash t h)
resumed_step Fail ps t s r q h c = absurd (off_clash t h)

given_alive : (n : Next) (c : Class) → is_off (given n c) ≡ false → is_fail n ≡ false
given_alive (Wants m) c h = refl
given_alive (Last m) c h = refl
given_alive (Reads m) c h = cc
given_alive (Shut f) c h = cc
given_alive Fail c h = cc

given_wants : (n : Next) (c : Class) (ps : Parts) (s : List Frame) → is_off (given n c) ≡ false → enter n ps s ≡ want (at_form ps ∷ s)
given_wants (Wants m) c ps s h = refl
given_wants (Last m) c ps s h = refl
given_wants (Reads m) c ps s h = absurd (cc)
given_wants (Shut f) c ps s h = absurd (cc)
given_wants Fail c ps s h = absurd (cc)

pub alive_tok : (ps : Parts) (t : Tok) → Alive (tok ps t) → Alive ps
alive_tok start t h = tt
alive_tok top t h = tt
alive_tok (from w) t h = tt
alive_tok (tok ps u) t h = resumed_alive (ahead (tok ps u)) (off_fails (point (tok ps u)) t h)
alive_tok (exp ps w) t h = off_fails (point (exp ps w)) t h

pub alive_exp : (ps : Parts) (w : Written) (s : List Frame) → Alive (exp ps w) → Alive ps × (standing ps s ≡ want (at_form ps ∷ s))
alive_exp start w s h = absurd (cc)
alive_exp top w s h = absurd (cc)
alive_exp (from a) w s h = absurd (cc)
alive_exp (exp ps a) w s h = absurd (cc)
alive_exp (tok ps t) w s h = (given_alive (ahead (tok ps t)) (class w) h, given_wants (ahead (tok ps t)) (class w) (tok ps t) s h)

shut_has : (n : Next) (ps : Parts) (s : List Frame) → is_shut n ≡ true → (is_fail n ≡ false) × (enter n ps s ≡ have (closed (form_of n) ps) s)
shut_has (Shut f) ps s h = (refl, refl)
shut_has (Last m) ps s h = absurd (cc)
shut_has (Wants m) ps s h = absurd (cc)
shut_has (Reads m) ps s h = absurd (cc)
shut_has Fail ps s h = absurd (cc)

pub alive_shut : (ps : Parts) (s : List Frame) → is_shut (ahead ps) ≡ true → Alive ps × (standing ps s ≡ have (closed (form_of (ahead ps)) ps) s)
alive_shut start s h = absurd (cc)
alive_shut top s h = absurd (cc)
alive_shut (from w) s h = absurd (cc)
alive_shut (exp ps w) s h = absurd (cc)
alive_shut (tok ps t) s h = shut_has (ahead (tok ps t)) (tok ps t) s h

have_form : (c : Construct) (ps : Parts) (s : List Frame) → form_of (ahead ps) ≡ c → Alive ps × (standing ps s ≡ have (closed (form_of (ahead ps)) ps) s) → Alive ps × (standing ps s ≡ have (closed c ps) s)
have_form c ps s e h = (h.0, h.1 ∙ ap (λ (x : Construct). have (closed x ps) s) e)

last_wants : (n : Next) (ps : Parts) (s : List Frame) → is_last n ≡ true → (is_fail n ≡ false) × (enter n ps s ≡ want (at_form ps ∷ s))
last_wants (Last m) ps s h = (refl, refl)
last_wants (Wants m) ps s h = absurd (cc)
last_wants (Reads m) ps s h = absurd (cc)
last_wants (Shut f) ps s h = absurd (cc)
last_wants Fail ps s h = absurd (cc)

pub alive_last : (ps : Parts) (s : List Frame) → is_last (ahead ps) ≡ true → Alive ps × (standing ps s ≡ want (at_form ps ∷ s))
alive_last start s h = absurd (cc)
alive_last top s h = absurd (cc)
alive_last (from w) s h = absurd (cc)
alive_last (exp ps w) s h = absurd (cc)
alive_last (tok ps t) s h = last_wants (ahead (tok ps t)) (tok ps t) s h

-- a token of a form is read behind what stands before it
prefix_not : (t : Tok) → is_fail (delta begin t) ≡ false → is_prefix (sign t) ≡ false
prefix_not t h = not_true (is_prefix (sign t)) (λ e. let f : delta begin t ≡ Fail = prefix_opens t e in clash (rw f at h))
  where
    clash : true ≡ false → ⊥
    clash q = cc

accepts_true : (ps : Parts) (w : Written) (t : Tok) (s : List Frame) → is_fail (delta (given (ahead ps) (class w)) t) ≡ false → margin s ≤ (column t) → behind t w (at_form ps ∷ s) ≡ enter (delta (given (ahead ps) (class w)) t) (tok (exp ps w) t) s
accepts_true ps w t s h m = rw (le-leb (margin s) (column t) m, h) refl

passes : (ps : Parts) (w : Written) (t : Tok) (s : List Frame) → is_fail (delta (given (ahead ps) (class w)) t) ≡ false → (op (after (sign t)) ≡ true) ⊎ (op (after (sign t)) ≡ false) → ((column t) < inner (ahead ps)) ⊎ (inner (ahead ps) ≤ (column t)) → Passes t (margin (at_form ps ∷ s))
passes ps w t s h (inr o) c = inr o
passes ps w t s h (inl o) (inl c) = inl (outer (column t) (inner (ahead ps)) (margin s) c)
passes ps w t s h (inl o) (inr c) = let f : delta (given (ahead ps) (class w)) t ≡ Fail = given-op (ahead ps) (class w) t o c in absurd (clash (rw f at h))
  where
    clash : true ≡ false → ⊥
    clash q = cc

pub side : (m n : ℕ) → (m < n) ⊎ (n ≤ m)
side m n = elim (either (ltb m n)) [ inl h ↦ inl (ltb-true m n h) | inr h ↦ inr (ltb-false m n h) ]

takes_fail : (ps : Parts) (t : Tok) (n : ℕ) → delta (idle (ahead ps)) t ≡ Fail → takes ps t n ≡ false
takes_fail ps t n h = rw h (and_false (leb n (column t)))

idle_fresh : (n : Next) (t : Tok) → is_fail (delta begin t) ≡ false → delta (idle n) t ≡ Fail
idle_fresh (Wants m) t h = elim (hungry_fresh m t) [ inl e ↦ absurd (clash (rw e at h)) | inr e ↦ e ]
  where
    clash : true ≡ false → ⊥
    clash q = cc
idle_fresh (Reads m) t h = delta-off t
idle_fresh (Last m) t h = delta-off t
idle_fresh (Shut f) t h = delta-off t
idle_fresh Fail t h = delta-off t

idle_prefix : (n : Next) (t : Tok) → is_prefix (sign t) ≡ true → delta (idle n) t ≡ Fail
idle_prefix (Wants m) t h = hungry_prefix m t h
idle_prefix (Reads m) t h = delta-off t
idle_prefix (Last m) t h = delta-off t
idle_prefix (Shut f) t h = delta-off t
idle_prefix Fail t h = delta-off t

begins_fresh : (t : Tok) (s : List Frame) → is_fail (delta begin t) ≡ false → step t (want s) ≡ fresh t s
begins_fresh t [] h = refl
begins_fresh t (at_pre p ∷ s) h = refl
begins_fresh t (at_bin a o ∷ s) h = refl
begins_fresh t (at_form ps ∷ s) h = rw (takes_fail ps t (margin s) (idle_fresh (ahead ps) t h)) refl

begins_prefix : (t : Tok) (s : List Frame) → is_prefix (sign t) ≡ true → step t (want s) ≡ fresh t s
begins_prefix t [] h = refl
begins_prefix t (at_pre p ∷ s) h = refl
begins_prefix t (at_bin a o ∷ s) h = refl
begins_prefix t (at_form ps ∷ s) h = rw (takes_fail ps t (margin s) (idle_prefix (ahead ps) t h)) refl

token : (ps : Parts) (t : Tok) (s : List Frame) → TableParts ps → TableFine ps t → Alive (tok ps t) → margin s ≤ (column t) → step t (standing ps s) ≡ enter (ahead (tok ps t)) (tok ps t) s
token top t s g f h m = rw (le-ltb (column t) (margin s) m) refl
token start t s g f h m = begins_fresh t s h ∙ rw (le-ltb (column t) (margin s) m, prefix_not t h) refl
token (from w) t s g f h m =
    ended t w s g f.1 ∙ reaches t w s m (rw f.0 refl) (inr f.0) ∙ rw f.0 refl
token (tok ps u) t s g f h m =
    resumed_step (ahead (tok ps u)) (tok ps u) t s refl refl h m
token (exp ps w) t s g f h m =
    elim f [
      | inl c ↦ forced t w (at_form ps ∷ s) g.1 (outer (column t) (inner (ahead ps)) (margin s) c)
      | inr l ↦ left t w (at_form ps ∷ s) g.1 l (passes ps w t s h (either (op (after (sign t)))) (side (column t) (inner (ahead ps))))
    ]
    ∙ accepts_true ps w t s h m

pub From-max : (m n : ℕ) (ts : List Tok) → From m ts → From n ts → From (max m n) ts
From-max m n [] h g = tt
From-max m n (t ∷ ts) h g = (omega (arith, h.0, g.0), From-max m n ts h.1 g.1)

then_run : (rest : List Tok) (x y : State) → x ≡ y → run x rest ≡ run y rest
then_run rest x y e = ap (λ (st : State). run st rest) e

infixes : (t : Tok) (a : Written) (s : List Frame) → TableGood a → TableEnds a t → margin s ≤ (column t) → after (sign t) ≡ InfixRole → floor s ≤ lo (sign t) → step t (holding a s) ≡ want (at_bin a t ∷ s)
infixes t a s g e m c h = ended t a s g e ∙ reaches t a s m (rw c refl) (inl h) ∙ rw (c, le-leb (floor s) (lo (sign t)) h) refl

prefixes : (p : Tok) (s : List Frame) → is_prefix (sign p) ≡ true → margin s ≤ (column p) → step p (want s) ≡ want (at_pre p ∷ s)
prefixes p s h m = begins_prefix p s h ∙ rw (le-ltb (column p) (margin s) m, h) refl

-- where the parts begin to be read
abbrev pub origin : Parts → List Frame → State
origin start s = want s
origin top s = heading top s
origin (from w) s = want s
origin (tok ps t) s = origin ps s
origin (exp ps w) s = origin ps s

origin_form : (ps : Parts) (s : List Frame) → of_module ps ≡ false → origin ps s ≡ want s
origin_form start s h = refl
origin_form top s h = cc
origin_form (from w) s h = refl
origin_form (tok ps t) s h = origin_form ps s h
origin_form (exp ps w) s h = origin_form ps s h

-- The tokens of w, read where an operand is wanted, leave w with its right edge open.
mutual
  pub complete : (w : Written) (s : List Frame) (rest : List Tok) → TableGood w → Above (floor s) w → From (margin s) (tokens w) → run (want s) (tokens w ++ rest) ≡ run (holding w s) rest
  complete (closed c ps) s rest g a f =
      let h : Alive ps × (standing ps s ≡ have (closed c ps) s) = have_form c ps s g.1 (alive_shut ps s g.0) in
      then_run (tokens_of ps ++ rest) (want s) (origin ps s) (sym (origin_form ps s (shut_parts ps g.0)))
      ∙ complete_parts ps s rest g.2 h.0 a f ∙ then_run rest (standing ps s) (have (closed c ps) s) h.1
  complete (tailed c ps w) s rest g a f =
      let h : Alive ps × (standing ps s ≡ want (at_form ps ∷ s)) = alive_last ps s g.0 in
      let fw : From (margin s) (tokens w) = From-right (margin s) (tokens_of ps) (tokens w) f in
      ap (run (want s)) (append_assoc (tokens_of ps) (tokens w) rest)
      ∙ then_run (tokens_of ps ++ (tokens w ++ rest)) (want s) (origin ps s) (sym (origin_form ps s (last_parts ps g.0)))
      ∙ complete_parts ps s (tokens w ++ rest) g.2 h.0 a (From-left (margin s) (tokens_of ps) (tokens w) f)
      ∙ then_run (tokens w ++ rest) (standing ps s) (want (at_form ps ∷ s)) h.1
      ∙ complete w (at_form ps ∷ s) rest g.3 (Above-zero w) (From-max (inner (ahead ps)) (margin s) (tokens w) g.4 fw)
  complete (pre p w) s rest g a f =
      then_run (tokens w ++ rest) (step p (want s)) (want (at_pre p ∷ s)) (prefixes p s g.0 f.0)
      ∙ complete w (at_pre p ∷ s) rest g.1 g.2 f.1
  complete (bin x t y) s rest g a f =
      let fx : From (margin s) (tokens x) = From-left (margin s) (tokens x) (t ∷ tokens y) f in
      let fy : From (margin s) (t ∷ tokens y) = From-right (margin s) (tokens x) (t ∷ tokens y) f in
      ap (run (want s)) (append_assoc (tokens x) (t ∷ tokens y) rest)
      ∙ complete x s (t ∷ (tokens y ++ rest)) g.0 a.1 fx
      ∙ then_run (tokens y ++ rest) (step t (holding x s)) (want (at_bin x t ∷ s)) (infixes t x s g.0 g.2 fy.0 g.1 a.0)
      ∙ complete y (at_bin x t ∷ s) rest g.3 g.4 fy.1

  pub complete_parts : (ps : Parts) (s : List Frame) (rest : List Tok) → TableParts ps → Alive ps → AboveParts (floor s) ps → From (margin s) (tokens_of ps) → run (origin ps s) (tokens_of ps ++ rest) ≡ run (standing ps s) rest
  complete_parts start s rest g l a f = refl
  complete_parts top s rest g l a f = refl
  complete_parts (from w) s rest g l a f = complete w s rest g a f
  complete_parts (tok ps t) s rest g l a f =
      let ft : From (margin s) (t ∷ []) = From-right (margin s) (tokens_of ps) (t ∷ []) f in
      ap (run (origin ps s)) (append_assoc (tokens_of ps) (t ∷ []) rest)
      ∙ complete_parts ps s (t ∷ rest) g.0 (alive_tok ps t l) a (From-left (margin s) (tokens_of ps) (t ∷ []) f)
      ∙ then_run rest (step t (standing ps s)) (enter (ahead (tok ps t)) (tok ps t) s) (token ps t s g.0 g.1 l ft.0)
  complete_parts (exp ps w) s rest g l a f =
      let h : Alive ps × (standing ps s ≡ want (at_form ps ∷ s)) = alive_exp ps w s l in
      let fw : From (margin s) (tokens w) = From-right (margin s) (tokens_of ps) (tokens w) f in
      ap (run (origin ps s)) (append_assoc (tokens_of ps) (tokens w) rest)
      ∙ complete_parts ps s (tokens w ++ rest) g.0 h.0 a (From-left (margin s) (tokens_of ps) (tokens w) f)
      ∙ then_run (tokens w ++ rest) (standing ps s) (want (at_form ps ∷ s)) h.1
      ∙ complete w (at_form ps ∷ s) rest g.1 (Above-zero w) (From-max (inner (ahead ps)) (margin s) (tokens w) g.2 fw)

pub holding-whole : (w : Written) (s : List Frame) → TableGood w → answer (holding w s) ≡ whole w s
holding-whole (closed c ps) s g = refl
holding-whole (tailed c ps w) s g = holding-whole w (at_form ps ∷ s) g.3 ∙ rw g.0 (ap (λ (x : Construct). whole (tailed x ps w) s) g.1)
holding-whole (pre p w) s g = holding-whole w (at_pre p ∷ s) g.1
holding-whole (bin a t b) s g = holding-whole b (at_bin a t ∷ s) g.3

From-zero : (ts : List Tok) → From 0 ts
From-zero [] = tt
From-zero (t ∷ ts) = (omega arith, From-zero ts)

then_module : (ts : List Tok) (x y : State) → x ≡ y → module_of (run x ts) ≡ module_of (run y ts)
then_module ts x y e = ap (λ (st : State). module_of (run st ts)) e

ended_finished : (n : Next) → n ≡ Reads Finished → (is_fail n ≡ false) × (ended_module n ≡ true)
unfolding is_finished
ended_finished n h = rw h (refl, refl)

-- Each module that is written by the rules is what the parser gives on its tokens.
pub module_again : (ps : Parts) → IsTableModule ps → parse_module (tokens_of ps) ≡ Some ps
module_again ps i = whole_module ps i.good i.begins i.ends (ended_finished (ahead ps) i.ends)
  where
    alive : (qs : Parts) → is_fail (ahead qs) ≡ false → ahead qs ≡ Reads Finished → Alive qs × (standing qs [] ≡ heading qs [])
    alive start h e = absurd (cc)
    alive top h e = (tt, refl)
    alive (from w) h e = absurd (cc)
    alive (exp qs w) h e = absurd (cc)
    alive (tok qs t) h e = (h, rw e refl)

    begun : (qs : Parts) → of_module qs ≡ true → AboveParts 0 qs → origin qs [] ≡ heading top []
    begun start h a = cc
    begun top h a = refl
    begun (from w) h a = cc
    begun (tok qs t) h a = begun qs h a
    begun (exp qs w) h a = begun qs h a

    whole_module : (qs : Parts) → TableParts qs → of_module qs ≡ true → ahead qs ≡ Reads Finished → (is_fail (ahead qs) ≡ false) × (ended_module (ahead qs) ≡ true) → parse_module (tokens_of qs) ≡ Some qs
    whole_module qs g b e k =
        let l : Alive qs × (standing qs [] ≡ heading qs []) = alive qs k.0 e in
        ap (λ (ts : List Tok). module_of (run (heading top []) ts)) (sym (append-nil (tokens_of qs)))
        ∙ then_module (tokens_of qs ++ []) (heading top []) (origin qs []) (sym (begun qs b (AboveParts-zero qs)))
        ∙ ap module_of (complete_parts qs [] [] g l.0 (AboveParts-zero qs) (From-zero (tokens_of qs)))
        ∙ ap module_of l.1
        ∙ rw k.1 refl

-- Each tree that is written by the rules is what the parser gives on its tokens.
pub again : (w : Written) → TableGood w → parse_fn (tokens w) ≡ Some w
again w g =
    ap (λ (ts : List Tok). parse_fn ts) (sym (append-nil (tokens w)))
    ∙ ap answer (complete w [] [] g (Above-zero w) (From-zero (tokens w)))
    ∙ holding-whole w [] g
