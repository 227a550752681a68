-- What the parser gives is written by the rules, and its tokens are those that were read.
use Rattle.tla_lexer.specs.declared.token.Token.{Token as Tok}
use Rattle.std.proofs.Math.Dec.{ltb, leb}
use Rattle.std.proofs.Common.{ℕ, Bool, true, false, not, max, List, Some, None, inl, inr, refl, sym, ap, subst, arith, append_assoc, append-nil, ltb-false, ltb-true, le-leb, leb-true, ◌≡◌, ◌<◌, ◌≤◌, ◌⊎◌, ◌∷◌, ◌++◌, ◌&&◌, ◌||◌, ◌∙◌, []}
use Rattle.tla_parser.proofs.Basics.{From-append, From-less, and_both, either, or_cases}
use Rattle.tla_parser.proofs.Complete.{again, module_again, side}
use Rattle.tla_parser.proofs.Laws.{delta-off, is_failed}
use Rattle.tla_parser.proofs.Machine.{Frame, State, accepts, act, answer, at_bin, at_form, at_pre, behind, enter, floor, fresh, have, heading, margin, module_of, parse_fn, parse_module, placed, pops, run, step, stuck, takes, want, wanted, whole}
use Rattle.tla_parser.proofs.Origins.{finished_parts}
use Rattle.tla_parser.specs.Operators.{after, hi, is_prefix, lo, prefix_lo, same}
use Rattle.tla_parser.specs.Signs.{column, sign}
use Rattle.tla_parser.specs.declared.moves.Mark.{Mark}
use Rattle.tla_parser.specs.declared.moves.Mark.TheVariants.{Finished}
use Rattle.tla_parser.specs.declared.moves.Next.{Next}
use Rattle.tla_parser.specs.declared.moves.Next.TheVariants.{Fail, Last, Reads, Shut, Wants}
use Rattle.tla_parser.specs.declared.signs.Role.{Role}
use Rattle.tla_parser.specs.declared.signs.Role.TheVariants.{InfixRole, NoRole, PostfixRole}
use Rattle.tla_parser.specs.Rules.{Above, AboveParts}
use Rattle.tla_parser.specs.Written.{From, Parts, Written, bin, class, exp, from, pre, start, tailed, tok, tokens, tokens_of, top}
use Rattle.tla_parser.specs.inner.Derivations.{IsTableModule, TableEnds, TableFine, TableGood, TableLeaves, TableParts, ahead, delta, form_of, given, idle, inner, is_last}
use Rattle.tla_parser.specs.inner.Moves.{is_finished, off}
use Rattle.tla_parser.specs.inner.Recognition.{ended_module, is_fail, op}

abbrev pub ftokens : Frame → List Tok
ftokens (at_pre p) = p ∷ []
ftokens (at_bin a t) = tokens a ++ (t ∷ [])
ftokens (at_form ps) = tokens_of ps

abbrev pub flat : List Frame → List Tok
flat [] = []
flat (f ∷ s) = flat s ++ ftokens f

abbrev pub waits : Next → Bool
waits (Wants m) = true
waits (Last m) = true
waits (Reads m) = false
waits (Shut f) = false
waits Fail = false

abbrev pub OkFrame : Frame → ℕ → Type 0
OkFrame (at_pre p) n = is_prefix (sign p) ≡ true
OkFrame (at_bin a t) n = TableGood a × (after (sign t) ≡ InfixRole) × TableEnds a t × Above n a × (n ≤ lo (sign t))
OkFrame (at_form ps) n = TableParts ps × AboveParts n ps

abbrev pub OkStack : List Frame → Type 0
OkStack [] = Unit {0}
OkStack (f ∷ s) = OkFrame f (floor s) × From (margin s) (ftokens f) × OkStack s

abbrev pub Fits : Written → List Frame → Type 0
Fits w s = TableGood w × Above (floor s) w × From (margin s) (tokens w)

abbrev pub FitParts : Parts → List Frame → Type 0
FitParts ps s = TableParts ps × AboveParts (floor s) ps × From (margin s) (tokens_of ps)

abbrev pub Inv : State → List Tok → Type 0
Inv (want s) ts = OkStack s × (flat s ≡ ts)
Inv (have w s) ts = OkStack s × Fits w s × ((t : Tok) → TableEnds w t × TableLeaves w t) × (flat s ++ tokens w ≡ ts)
Inv (heading ps s) ts = OkStack s × FitParts ps s × ((t : Tok) → TableFine ps t) × (flat s ++ tokens_of ps ≡ ts)
Inv stuck ts = Unit {0}

fine_reads : (ps : Parts) (m : Mark) → ahead ps ≡ Reads m → (t : Tok) → TableFine ps t
fine_reads start m h t = tt
fine_reads top m h t = tt
fine_reads (tok ps u) m h t = tt
fine_reads (from w) m h t = absurd (cc)
fine_reads (exp ps w) m h t = absurd (cc)

enter-ok : (n : Next) (ps : Parts) (s : List Frame) (ts : List Tok) → ahead ps ≡ n → OkStack s → FitParts ps s → flat s ++ tokens_of ps ≡ ts → Inv (enter n ps s) ts
enter-ok (Reads m) ps s ts r k g e = (k, g, fine_reads ps m r, e)
enter-ok (Wants m) ps s ts r k g e = (((g.0, g.1), g.2, k), e)
enter-ok (Last m) ps s ts r k g e = (((g.0, g.1), g.2, k), e)
enter-ok (Shut f) ps s ts r k g e = (k, ((rw r refl, rw r refl, g.0), g.1, g.2), (λ t. (tt, tt)), e)
enter-ok Fail ps s ts r k g e = tt

-- t ends w, or stands left of what is open
abbrev pub Done : Written → ℕ → Tok → Type 0
Done w m t = ((column t) < m) ⊎ (TableLeaves w t × ((op (after (sign t)) ≡ false) ⊎ TableEnds w t))

ends_plainly : (w : Written) (m : ℕ) (t : Tok) → m ≤ (column t) → op (after (sign t)) ≡ true → Done w m t → TableEnds w t
ends_plainly w m t c o (inl h) = absurd (omega arith)
ends_plainly w m t c o (inr (l, inl h)) = absurd (cc)
ends_plainly w m t c o (inr (l, inr e)) = e

pops_cases : (t : Tok) (m : ℕ) (b : Bool) → pops t m b ≡ true → ((column t) < m) ⊎ ((op (after (sign t)) ≡ false) ⊎ (b ≡ true))
pops_cases t m b h = elim (or_cases (ltb (column t) m) (not (op (after (sign t))) || b) h) [
  | inl e ↦ inl (ltb-true (column t) m e)
  | inr e ↦ inr (elim (or_cases (not (op (after (sign t)))) b e) [ inl o ↦ inl (negated (op (after (sign t))) o) | inr x ↦ inr x ])
]
  where
    negated : (x : Bool) → not x ≡ true → x ≡ false
    negated true q = cc
    negated false q = refl

done_pre : (p : Tok) (w : Written) (m : ℕ) (t : Tok) → Done w m t → ((column t) < m) ⊎ ((op (after (sign t)) ≡ false) ⊎ (ltb (hi (sign t)) (prefix_lo (sign p)) ≡ true)) → Done (pre p w) m t
done_pre p w m t (inl d) c = inl d
done_pre p w m t (inr d) (inl c) = inl c
done_pre p w m t (inr d) (inr (inl o)) = inr (d.0, inl o)
done_pre p w m t (inr (l, inl o)) (inr (inr b)) = inr (l, inl o)
done_pre p w m t (inr (l, inr e)) (inr (inr b)) = inr (l, inr (ltb-true (hi (sign t)) (prefix_lo (sign p)) b, e))

done_bin : (a : Written) (u : Tok) (w : Written) (m : ℕ) (t : Tok) → Done w m t → ((column t) < m) ⊎ ((op (after (sign t)) ≡ false) ⊎ ((ltb (hi (sign t)) (lo (sign u)) || same (sign u) (sign t)) ≡ true)) → Done (bin a u w) m t
done_bin a u w m t (inl d) c = inl d
done_bin a u w m t (inr d) (inl c) = inl c
done_bin a u w m t (inr d) (inr (inl o)) = inr (d.0, inl o)
done_bin a u w m t (inr (l, inl o)) (inr (inr b)) = inr (l, inl o)
done_bin a u w m t (inr (l, inr e)) (inr (inr b)) = inr (l, inr (elim (or_cases (ltb (hi (sign t)) (lo (sign u))) (same (sign u) (sign t)) b) [ inl x ↦ inl (ltb-true (hi (sign t)) (lo (sign u)) x) | inr x ↦ inr x ], e))

inner_passes : (n m : ℕ) (w : Written) (t : Tok) → m ≤ (column t) → Done w (max n m) t → ((column t) < n) ⊎ TableLeaves w t
inner_passes n m w t c (inl h) = inl (omega arith)
inner_passes n m w t c (inr h) = inr h.0

refused : (x y : Bool) → x ≡ true → (x && not y) ≡ false → y ≡ true
refused true true h q = refl
refused true false h q = cc
refused false y h q = cc

done_form : (ps : Parts) (w : Written) (m : ℕ) (t : Tok) → Done w (max (inner (ahead ps)) m) t → accepts ps w t m ≡ false → pops t (max (inner (ahead ps)) m) false ≡ true → ((column t) < m) ⊎ (m ≤ (column t)) → Done (tailed (form_of (ahead ps)) ps w) m t
done_form ps w m t d a p (inl c) = inl c
done_form ps w m t d a p (inr c) =
    let f : delta (given (ahead ps) (class w)) t ≡ Fail = is_failed (delta (given (ahead ps) (class w)) t) (refused (leb m (column t)) (is_fail (delta (given (ahead ps) (class w)) t)) (le-leb m (column t) c) a) in
    inr ((f, inner_passes (inner (ahead ps)) m w t c d), ends_it f (pops_cases t (max (inner (ahead ps)) m) false p))
  where
    ends_it : delta (given (ahead ps) (class w)) t ≡ Fail → ((column t) < max (inner (ahead ps)) m) ⊎ ((op (after (sign t)) ≡ false) ⊎ (false ≡ true)) → (op (after (sign t)) ≡ false) ⊎ TableEnds (tailed (form_of (ahead ps)) ps w) t
    ends_it f (inl h) = inr (omega arith, f)
    ends_it f (inr (inl o)) = inl o
    ends_it f (inr (inr q)) = absurd (cc)

one_more : (n : ℕ) (xs : List Tok) (t : Tok) → From n xs → n ≤ (column t) → From n (xs ++ (t ∷ []))
one_more n xs t h m = From-append n xs (t ∷ []) h (m, tt)

flat_more : (s : List Frame) (xs : List Tok) (t : Tok) (ts : List Tok) → flat s ++ xs ≡ ts → flat s ++ (xs ++ (t ∷ [])) ≡ ts ++ (t ∷ [])
flat_more s xs t ts e = sym (append_assoc (flat s) xs (t ∷ [])) ∙ ap (λ (ys : List Tok). ys ++ (t ∷ [])) e

act-ok : (t : Tok) (a : Role) (w : Written) (s : List Frame) (ts : List Tok) → after (sign t) ≡ a → margin s ≤ (column t) → OkStack s → Fits w s → (op a ≡ true → TableEnds w t) → flat s ++ tokens w ≡ ts → Inv (act t a w s) (ts ++ (t ∷ []))
act-ok t InfixRole w s ts r m k g d e =
    elim (either (leb (floor s) (lo (sign t)))) [
      | inl h ↦ rw h (((g.0, r, d refl, g.1, leb-true (floor s) (lo (sign t)) h), one_more (margin s) (tokens w) t g.2 m, k), flat_more s (tokens w) t ts e)
      | inr h ↦ rw h tt
    ]
act-ok t PostfixRole w s ts r m k g d e =
    enter-ok (ahead (tok (from w) t)) (tok (from w) t) s (ts ++ (t ∷ [])) refl k ((g.0, (r, d refl)), g.1, one_more (margin s) (tokens w) t g.2 m) (flat_more s (tokens w) t ts e)
act-ok t NoRole w s ts r m k g d e = tt

placed-ok : (t : Tok) (w : Written) (s : List Frame) (ts : List Tok) → OkStack s → Fits w s → Done w (margin s) t → flat s ++ tokens w ≡ ts → Inv (placed t w s) (ts ++ (t ∷ []))
placed-ok t w s ts k g d e =
    elim (either (ltb (column t) (margin s))) [
      | inl h ↦ rw h tt
      | inr h ↦ rw h (act-ok t (after (sign t)) w s ts refl (ltb-false (column t) (margin s) h) k g (λ o. ends_plainly w (margin s) t (ltb-false (column t) (margin s) h) o d) e)
    ]

max_left : (a b : ℕ) → a ≤ max a b
max_left a b = omega arith

max_right : (a b : ℕ) → b ≤ max a b
max_right a b = omega arith

behind-ok : (t : Tok) (w : Written) (s : List Frame) (ts : List Tok) → OkStack s → Fits w s → Done w (margin s) t → flat s ++ tokens w ≡ ts → Inv (behind t w s) (ts ++ (t ∷ []))
behind-ok t w [] ts k g d e = placed-ok t w [] ts k g d e
behind-ok t w (at_pre p ∷ s) ts k g d e =
    elim (either (pops t (margin s) (ltb (hi (sign t)) (prefix_lo (sign p))))) [
      | inl h ↦ rw h (behind-ok t (pre p w) s ts k.2 ((k.0, g.0, g.1), tt, (k.1.0, g.2)) (done_pre p w (margin s) t d (pops_cases t (margin s) (ltb (hi (sign t)) (prefix_lo (sign p))) h)) (sym (append_assoc (flat s) (p ∷ []) (tokens w)) ∙ e))
      | inr h ↦ rw h (placed-ok t w (at_pre p ∷ s) ts k g d e)
    ]
behind-ok t w (at_bin a u ∷ s) ts k g d e =
    elim (either (pops t (margin s) (ltb (hi (sign t)) (lo (sign u)) || same (sign u) (sign t)))) [
      | inl h ↦ rw h (behind-ok t (bin a u w) s ts k.2
          ((k.0.0, k.0.1, k.0.2, g.0, g.1), (k.0.4, k.0.3), subst (From (margin s)) (append_assoc (tokens a) (u ∷ []) (tokens w)) (From-append (margin s) (tokens a ++ (u ∷ [])) (tokens w) k.1 g.2))
          (done_bin a u w (margin s) t d (pops_cases t (margin s) (ltb (hi (sign t)) (lo (sign u)) || same (sign u) (sign t)) h))
          (ap (λ (ys : List Tok). flat s ++ ys) (sym (append_assoc (tokens a) (u ∷ []) (tokens w))) ∙ sym (append_assoc (flat s) (tokens a ++ (u ∷ [])) (tokens w)) ∙ e))
      | inr h ↦ rw h (placed-ok t w (at_bin a u ∷ s) ts k g d e)
    ]
behind-ok t w (at_form ps ∷ s) ts k g d e =
    let below : From (margin s) (tokens w) = From-less (margin s) (max (inner (ahead ps)) (margin s)) (tokens w) (max_right (inner (ahead ps)) (margin s)) g.2 in
    let within : From (inner (ahead ps)) (tokens w) = From-less (inner (ahead ps)) (max (inner (ahead ps)) (margin s)) (tokens w) (max_left (inner (ahead ps)) (margin s)) g.2 in
    let both : From (margin s) (tokens_of ps ++ tokens w) = From-append (margin s) (tokens_of ps) (tokens w) k.1 below in
    let joined : flat s ++ (tokens_of ps ++ tokens w) ≡ ts = sym (append_assoc (flat s) (tokens_of ps) (tokens w)) ∙ e in
    elim (either (accepts ps w t (margin s))) [
      | inl h ↦ rw h (let c : margin s ≤ (column t) = leb-true (margin s) (column t) (and_both (leb (margin s) (column t)) (not (is_fail (delta (given (ahead ps) (class w)) t))) h).0 in
          enter-ok (delta (given (ahead ps) (class w)) t) (tok (exp ps w) t) s (ts ++ (t ∷ [])) refl k.2
          (((k.0.0, g.0, within), inner_passes (inner (ahead ps)) (margin s) w t c d), k.0.1, one_more (margin s) (tokens_of ps ++ tokens w) t both c)
          (flat_more s (tokens_of ps ++ tokens w) t ts joined))
      | inr h ↦ rw h (elim (either (is_last (ahead ps) && pops t (margin (at_form ps ∷ s)) false)) [
        | inl q ↦ rw q (let b : (is_last (ahead ps) ≡ true) × (pops t (margin (at_form ps ∷ s)) false ≡ true) = and_both (is_last (ahead ps)) (pops t (margin (at_form ps ∷ s)) false) q in
            behind-ok t (tailed (form_of (ahead ps)) ps w) s ts k.2 ((b.0, refl, k.0.0, g.0, within), k.0.1, both) (done_form ps w (margin s) t d h b.1 (side (column t) (margin s))) joined)
        | inr q ↦ rw q (placed-ok t w (at_form ps ∷ s) ts k g d e)
      ])
    ]

fresh-ok : (t : Tok) (s : List Frame) (ts : List Tok) → OkStack s → flat s ≡ ts → Inv (fresh t s) (ts ++ (t ∷ []))
fresh-ok t s ts k e =
    elim (either (ltb (column t) (margin s))) [
      | inl h ↦ rw h tt
      | inr h ↦ rw h (elim (either (is_prefix (sign t))) [
        | inl p ↦ rw p ((p, (ltb-false (column t) (margin s) h, tt), k), ap (λ (ys : List Tok). ys ++ (t ∷ [])) e)
        | inr p ↦ rw p (enter-ok (ahead (tok start t)) (tok start t) s (ts ++ (t ∷ [])) refl k ((tt, tt), tt, (ltb-false (column t) (margin s) h, tt)) (ap (λ (ys : List Tok). ys ++ (t ∷ [])) e))
      ])
    ]

idle_waits : (n : Next) (t : Tok) → is_fail (delta (idle n) t) ≡ false → waits n ≡ true
idle_waits (Wants m) t h = refl
idle_waits (Last m) t h = refl
idle_waits (Reads m) t h = let e : delta off t ≡ Fail = delta-off t in absurd (clash (rw e at h))
  where
    clash : true ≡ false → ⊥
    clash q = cc
idle_waits (Shut f) t h = let e : delta off t ≡ Fail = delta-off t in absurd (clash (rw e at h))
  where
    clash : true ≡ false → ⊥
    clash q = cc
idle_waits Fail t h = let e : delta off t ≡ Fail = delta-off t in absurd (clash (rw e at h))
  where
    clash : true ≡ false → ⊥
    clash q = cc

fine_waits : (ps : Parts) (t : Tok) → waits (ahead ps) ≡ true → TableFine ps t
fine_waits start t h = tt
fine_waits top t h = absurd (cc)
fine_waits (tok ps u) t h = tt
fine_waits (from w) t h = absurd (cc)
fine_waits (exp ps w) t h = absurd (cc)

not_not : (b : Bool) → not b ≡ true → b ≡ false
not_not true h = cc
not_not false h = refl

wanted-ok : (t : Tok) (s : List Frame) (ts : List Tok) → OkStack s → flat s ≡ ts → Inv (wanted t s) (ts ++ (t ∷ []))
wanted-ok t [] ts k e = fresh-ok t [] ts k e
wanted-ok t (at_pre p ∷ s) ts k e = fresh-ok t (at_pre p ∷ s) ts k e
wanted-ok t (at_bin a o ∷ s) ts k e = fresh-ok t (at_bin a o ∷ s) ts k e
wanted-ok t (at_form ps ∷ s) ts k e =
    elim (either (takes ps t (margin s))) [
      | inl h ↦ rw h (let b : (leb (margin s) (column t) ≡ true) × (not (is_fail (delta (idle (ahead ps)) t)) ≡ true) = and_both (leb (margin s) (column t)) (not (is_fail (delta (idle (ahead ps)) t))) h in
          enter-ok (ahead (tok ps t)) (tok ps t) s (ts ++ (t ∷ [])) refl k.2
          ((k.0.0, fine_waits ps t (idle_waits (ahead ps) t (not_not (is_fail (delta (idle (ahead ps)) t)) b.1))), k.0.1, one_more (margin s) (tokens_of ps) t k.1 (leb-true (margin s) (column t) b.0))
          (flat_more s (tokens_of ps) t ts e))
      | inr h ↦ rw h (fresh-ok t (at_form ps ∷ s) ts k e)
    ]

step-ok : (t : Tok) (st : State) (ts : List Tok) → Inv st ts → Inv (step t st) (ts ++ (t ∷ []))
step-ok t (want s) ts i = wanted-ok t s ts i.0 i.1
step-ok t (have w s) ts i = behind-ok t w s ts i.0 i.1 (inr ((i.2 t).1, inr (i.2 t).0)) i.3
step-ok t (heading ps s) ts i =
    elim (either (ltb (column t) (margin s))) [
      | inl h ↦ rw h tt
      | inr h ↦ rw h (enter-ok (ahead (tok ps t)) (tok ps t) s (ts ++ (t ∷ [])) refl i.0 ((i.1.0, i.2 t), i.1.1, one_more (margin s) (tokens_of ps) t i.1.2 (ltb-false (column t) (margin s) h)) (flat_more s (tokens_of ps) t ts i.3))
    ]
step-ok t stuck ts i = tt

pub run-ok : (st : State) (ts rest : List Tok) → Inv st ts → Inv (run st rest) (ts ++ rest)
run-ok st ts [] i = subst (Inv st) (sym (append-nil ts)) i
run-ok st ts (t ∷ rest) i = subst (Inv (run (step t st) rest)) (append_assoc ts (t ∷ []) rest) (run-ok (step t st) (ts ++ (t ∷ [])) rest (step-ok t st ts i))

pub some_is : (v w : Written) → Some v ≡ Some w → v ≡ w
some_is v w e = cc

whole-ok : (w : Written) (s : List Frame) (v : Written) → OkStack s → Fits w s → whole w s ≡ Some v → TableGood v × (tokens v ≡ flat s ++ tokens w)
whole-ok w [] v k g h =
    let e : w ≡ v = some_is w v h in
    (subst TableGood e g.0, ap tokens (sym e))
whole-ok w (at_pre p ∷ s) v k g h =
    let r : TableGood v × (tokens v ≡ flat s ++ tokens (pre p w)) = whole-ok (pre p w) s v k.2 ((k.0, g.0, g.1), tt, (k.1.0, g.2)) h in
    (r.0, r.1 ∙ sym (append_assoc (flat s) (p ∷ []) (tokens w)))
whole-ok w (at_bin a u ∷ s) v k g h =
    let r : TableGood v × (tokens v ≡ flat s ++ tokens (bin a u w)) = whole-ok (bin a u w) s v k.2 ((k.0.0, k.0.1, k.0.2, g.0, g.1), (k.0.4, k.0.3), subst (From (margin s)) (append_assoc (tokens a) (u ∷ []) (tokens w)) (From-append (margin s) (tokens a ++ (u ∷ [])) (tokens w) k.1 g.2)) h in
    (r.0, r.1 ∙ ap (λ (ys : List Tok). flat s ++ ys) (sym (append_assoc (tokens a) (u ∷ []) (tokens w))) ∙ sym (append_assoc (flat s) (tokens a ++ (u ∷ [])) (tokens w)))
whole-ok w (at_form ps ∷ s) v k g h =
    let below : From (margin s) (tokens w) = From-less (margin s) (max (inner (ahead ps)) (margin s)) (tokens w) (max_right (inner (ahead ps)) (margin s)) g.2 in
    let within : From (inner (ahead ps)) (tokens w) = From-less (inner (ahead ps)) (max (inner (ahead ps)) (margin s)) (tokens w) (max_left (inner (ahead ps)) (margin s)) g.2 in
    let both : From (margin s) (tokens_of ps ++ tokens w) = From-append (margin s) (tokens_of ps) (tokens w) k.1 below in
    elim (either (is_last (ahead ps))) [
      | inl o ↦ (let r : TableGood v × (tokens v ≡ flat s ++ tokens (tailed (form_of (ahead ps)) ps w)) = whole-ok (tailed (form_of (ahead ps)) ps w) s v k.2 ((o, refl, k.0.0, g.0, within), k.0.1, both) (rw o at h) in
          (r.0, r.1 ∙ sym (append_assoc (flat s) (tokens_of ps) (tokens w))))
      | inr o ↦ absurd (none_is v (rw o at h))
    ]
  where
    none_is : (u : Written) → None ≡ Some u → ⊥
    none_is u e = cc

answer-ok : (st : State) (ts : List Tok) (v : Written) → Inv st ts → answer st ≡ Some v → TableGood v × (tokens v ≡ ts)
answer-ok (have w s) ts v i h =
    let r : TableGood v × (tokens v ≡ flat s ++ tokens w) = whole-ok w s v i.0 i.1 h in
    (r.0, r.1 ∙ i.3)
answer-ok (want s) ts v i h = absurd (cc)
answer-ok (heading ps s) ts v i h = absurd (cc)
answer-ok stuck ts v i h = absurd (cc)

-- What the parser gives is written by the rules, with just the tokens.
pub found : (ts : List Tok) (v : Written) → parse_fn ts ≡ Some v → TableGood v × (tokens v ≡ ts)
found ts v h = answer-ok (run (want []) ts) ts v (run-ok (want []) [] ts (tt, refl)) h

-- the tokens fix the derivation
pub one_written : (v w : Written) → TableGood v → TableGood w → tokens v ≡ tokens w → v ≡ w
one_written v w g h e = some_is v w (sym (again v g) ∙ ap parse_fn e ∙ again w h)

ended_is : (n : Next) → ended_module n ≡ true → n ≡ Reads Finished
unfolding is_finished
ended_is (Reads Finished) h = refl
ended_is (Reads _) h = cc
ended_is (Wants m) h = cc
ended_is (Last m) h = cc
ended_is (Shut f) h = cc
ended_is Fail h = cc

module_ok : (st : State) (ts : List Tok) (ps : Parts) → Inv st ts → module_of st ≡ Some ps → IsTableModule ps × (tokens_of ps ≡ ts)
module_ok (heading qs []) ts ps i h =
    elim (either (ended_module (ahead qs))) [
      | inl e ↦ (let q : qs ≡ ps = same_parts (rw e at h) in
          subst (λ (x : Parts). IsTableModule x × (tokens_of x ≡ ts)) q
          (record { good = i.1.0; begins = finished_parts qs (ended_is (ahead qs) e); ends = ended_is (ahead qs) e }, i.3))
      | inr e ↦ absurd (none_is ps (rw e at h))
    ]
  where
    none_is : (u : Parts) → None ≡ Some u → ⊥
    none_is u e = cc

    same_parts : {x y : Parts} → Some x ≡ Some y → x ≡ y
    same_parts e = cc
module_ok (heading qs (f ∷ s)) ts ps i h = absurd (cc)
module_ok (have w s) ts ps i h = absurd (cc)
module_ok (want s) ts ps i h = absurd (cc)
module_ok stuck ts ps i h = absurd (cc)

-- What the parser gives is a module that is written by the rules, with just the tokens.
pub module_found : (ts : List Tok) (ps : Parts) → parse_module ts ≡ Some ps → IsTableModule ps × (tokens_of ps ≡ ts)
module_found ts ps h = module_ok (run (heading top []) ts) ts ps (run-ok (heading top []) [] ts (tt, (tt, tt, tt), (λ t. tt), refl)) h

-- the tokens fix the module's derivation
pub one_module : (ps qs : Parts) → IsTableModule ps → IsTableModule qs → tokens_of ps ≡ tokens_of qs → ps ≡ qs
one_module ps qs g h e = some_parts ps qs (sym (module_again ps g) ∙ ap parse_module e ∙ module_again qs h)
  where
    some_parts : (x y : Parts) → Some x ≡ Some y → x ≡ y
    some_parts x y q = cc
