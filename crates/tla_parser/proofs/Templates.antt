-- What is left of a form behind its first part.
use Rattle.std.proofs.Common.{Bool, true, false, cond, ◌≡◌, ◌⊎◌, inl, inr, List, [], ◌∷◌, ◌++◌, ◌&&◌, ◌||◌, refl, sym, ap, subst, ◌∙◌, append_assoc}
use Rattle.tla_parser.proofs.Basics.{and_both, either, or_cases, or_left, or_right}
use Rattle.tla_parser.specs.Forms.{FormPart, Form, never, nothing, one, both, either_of, many, Pieces, Matches, then_form}

abbrev pub can_end : Form → Bool
can_end never = false
can_end nothing = true
can_end (one t) = false
can_end (both a b) = can_end a && can_end b
can_end (either_of a b) = can_end a || can_end b
can_end (many a) = true

abbrev pub is_never : Form → Bool
is_never never = true
is_never nothing = false
is_never (one t) = false
is_never (both a b) = false
is_never (either_of a b) = false
is_never (many a) = false

abbrev pub or_form : Form → Form → Form
or_form a b = cond (is_never a) b (cond (is_never b) a (either_of a b))

-- what is left behind the part x
abbrev pub behind_part : FormPart → Form → Form
behind_part x never = never
behind_part x nothing = never
behind_part x (one t) = cond (t x) nothing never
behind_part x (both a b) = or_form (then_form (behind_part x a) b) (cond (can_end a) (behind_part x b) never)
behind_part x (either_of a b) = or_form (behind_part x a) (behind_part x b)
behind_part x (many a) = then_form (behind_part x a) (many a)

-- ---- laws

then_matches : (a b : Form) (xs : List FormPart) → Matches (then_form a b) xs → Matches (both a b) xs
then_matches never b xs h = absurd h
then_matches nothing b xs h = ([], xs, refl, refl, h)
then_matches (one t) b xs h = h
then_matches (both a c) b xs h =
    let r : Matches (both c b) h.1 = then_matches c b h.1 h.4 in
    (h.0 ++ r.0, r.1, h.2 ∙ ap (λ (zs : List FormPart). h.0 ++ zs) r.2 ∙ sym (append_assoc h.0 r.0 r.1), (h.0, r.0, refl, h.3, r.3), r.4)
then_matches (either_of a c) b xs h = h
then_matches (many a) b xs h = h

matches_then : (a b : Form) (xs : List FormPart) → Matches (both a b) xs → Matches (then_form a b) xs
matches_then never b xs h = absurd h.3
matches_then nothing b xs h = subst (Matches b) (sym (h.2 ∙ ap (λ (ys : List FormPart). ys ++ h.1) h.3)) h.4
matches_then (one t) b xs h = h
matches_then (both a c) b xs h =
    let p : Matches (both a c) h.0 = h.3 in
    (p.0, p.1 ++ h.1, h.2 ∙ ap (λ (ys : List FormPart). ys ++ h.1) p.2 ∙ append_assoc p.0 p.1 h.1, p.3, matches_then c b (p.1 ++ h.1) (p.1, h.1, refl, p.4, h.4))
matches_then (either_of a c) b xs h = h
matches_then (many a) b xs h = h

pub never_not : (a : Form) (xs : List FormPart) → is_never a ≡ true → Matches a xs → ⊥
never_not never xs h m = m
never_not nothing xs h m = absurd (cc)
never_not (one t) xs h m = absurd (cc)
never_not (both a b) xs h m = absurd (cc)
never_not (either_of a b) xs h m = absurd (cc)
never_not (many a) xs h m = absurd (cc)

or_matches : (a b : Form) (xs : List FormPart) → Matches (or_form a b) xs → Matches a xs ⊎ Matches b xs
or_matches a b xs h =
    elim (either (is_never a)) [
      | inl e ↦ inr (rw e at h)
      | inr e ↦ elim (either (is_never b)) [ inl k ↦ inl (rw (e, k) at h) | inr k ↦ rw (e, k) at h ]
    ]

matches_or : (a b : Form) (xs : List FormPart) → Matches a xs ⊎ Matches b xs → Matches (or_form a b) xs
matches_or a b xs h =
    elim (either (is_never a)) [
      | inl e ↦ rw e (of_second e h)
      | inr e ↦ elim (either (is_never b)) [ inl k ↦ rw (e, k) (of_first k h) | inr k ↦ rw (e, k) h ]
    ]
  where
    of_second : is_never a ≡ true → Matches a xs ⊎ Matches b xs → Matches b xs
    of_second e (inl m) = absurd (never_not a xs e m)
    of_second e (inr m) = m

    of_first : is_never b ≡ true → Matches a xs ⊎ Matches b xs → Matches a xs
    of_first k (inl m) = m
    of_first k (inr m) = absurd (never_not b xs k m)

pub can_matches : (a : Form) → can_end a ≡ true → Matches a []
can_matches never h = absurd (cc)
can_matches nothing h = refl
can_matches (one t) h = absurd (cc)
can_matches (both a b) h = let k : (can_end a ≡ true) × (can_end b ≡ true) = and_both (can_end a) (can_end b) h in ([], [], refl, can_matches a k.0, can_matches b k.1)
can_matches (either_of a b) h = elim (or_cases (can_end a) (can_end b) h) [ inl k ↦ inl (can_matches a k) | inr k ↦ inr (can_matches b k) ]
can_matches (many a) h = ([], refl)

no_front : (ys zs : List FormPart) → [] ≡ ys ++ zs → (ys ≡ []) × (zs ≡ [])
no_front [] zs e = (refl, sym e)
no_front (y ∷ ys) zs e = absurd (cc)

pub matches_can : (a : Form) → Matches a [] → can_end a ≡ true
matches_can never h = absurd h
matches_can nothing h = refl
matches_can (one t) h = let q : [] ≡ h.0 ∷ [] = h.1 in absurd (cc)
matches_can (both a b) h =
    let k : (h.0 ≡ []) × (h.1 ≡ []) = no_front h.0 h.1 h.2 in
    both_true (matches_can a (subst (Matches a) k.0 h.3)) (matches_can b (subst (Matches b) k.1 h.4))
  where
    both_true : {x y : Bool} → x ≡ true → y ≡ true → (x && y) ≡ true
    both_true e f = rw (e, f) refl
matches_can (either_of a b) (inl h) = or_left (can_end a) (can_end b) (matches_can a h)
matches_can (either_of a b) (inr h) = or_right (can_end a) (can_end b) (matches_can b h)
matches_can (many a) h = refl

pub part_matches : (x : FormPart) (r : Form) (xs : List FormPart) → Matches (behind_part x r) xs → Matches r (x ∷ xs)
part_matches x never xs h = absurd h
part_matches x nothing xs h = absurd h
part_matches x (one t) xs h = elim (either (t x)) [ inl e ↦ (x, ap (λ (ys : List FormPart). x ∷ ys) (only_end (rw e at h)), e) | inr e ↦ absurd (ends (rw e at h)) ]
  where
    only_end : Matches nothing xs → xs ≡ []
    only_end m = m

    ends : Matches never xs → ⊥
    ends m = m
part_matches x (both a b) xs h =
    elim (or_matches (then_form (behind_part x a) b) (cond (can_end a) (behind_part x b) never) xs h) [
      | inl m ↦ (let k : Matches (both (behind_part x a) b) xs = then_matches (behind_part x a) b xs m in
          (x ∷ k.0, k.1, ap (λ (ys : List FormPart). x ∷ ys) k.2, part_matches x a k.0 k.3, k.4))
      | inr m ↦ elim (either (can_end a)) [
        | inl e ↦ (let k : Matches (behind_part x b) xs = rw e at m in ([], x ∷ xs, refl, can_matches a e, part_matches x b xs k))
        | inr e ↦ absurd (ends (rw e at m))
      ]
    ]
  where
    ends : Matches never xs → ⊥
    ends k = k
part_matches x (either_of a b) xs h =
    elim (or_matches (behind_part x a) (behind_part x b) xs h) [ inl m ↦ inl (part_matches x a xs m) | inr m ↦ inr (part_matches x b xs m) ]
part_matches x (many a) xs h =
    let k : Matches (both (behind_part x a) (many a)) xs = then_matches (behind_part x a) (many a) xs h in
    ((x ∷ k.0) ∷ k.4.0, (k.1, ap (λ (ys : List FormPart). x ∷ ys) k.2, part_matches x a k.0 k.3, k.4.1))

same_head : (x y : FormPart) (xs ys : List FormPart) → x ∷ xs ≡ y ∷ ys → (x ≡ y) × (xs ≡ ys)
same_head x y xs ys e = (cc, cc)

many_part : (x : FormPart) (a : Form) → ((ys : List FormPart) → Matches a (x ∷ ys) → Matches (behind_part x a) ys) → (ps : List (List FormPart)) (xs : List FormPart) → Pieces (Matches a) ps (x ∷ xs) → Matches (both (behind_part x a) (many a)) xs
many_part x a f [] xs h = let q : x ∷ xs ≡ [] = h in absurd (cc)
many_part x a f ([] ∷ ps) xs h = many_part x a f ps xs (subst (Pieces (Matches a) ps) (sym h.1) h.3)
many_part x a f ((y ∷ p) ∷ ps) xs h =
    let k : (x ≡ y) × (xs ≡ p ++ h.0) = same_head x y xs (p ++ h.0) h.1 in
    (p, h.0, k.1, f p (subst (λ (z : FormPart). Matches a (z ∷ p)) (sym k.0) h.2), (ps, h.3))

pub matches_part : (x : FormPart) (r : Form) (xs : List FormPart) → Matches r (x ∷ xs) → Matches (behind_part x r) xs
matches_part x never xs h = h
matches_part x nothing xs h = let q : x ∷ xs ≡ [] = h in absurd (cc)
matches_part x (one t) xs h =
    let k : (x ≡ h.0) × (xs ≡ []) = same_head x h.0 xs [] h.1 in
    rw (ap t k.0 ∙ h.2) k.1
matches_part x (both a b) xs h = by_front h.0 h.1 h.2 h.3 h.4 (λ (ys : List FormPart). matches_part x a ys) (λ (m : Matches b (x ∷ xs)). matches_part x b xs m)
  where
    by_front : (ys zs : List FormPart) → x ∷ xs ≡ ys ++ zs → Matches a ys → Matches b zs → ((vs : List FormPart) → Matches a (x ∷ vs) → Matches (behind_part x a) vs) → (Matches b (x ∷ xs) → Matches (behind_part x b) xs) → Matches (behind_part x (both a b)) xs
    by_front [] zs e p q f g =
        matches_or (then_form (behind_part x a) b) (cond (can_end a) (behind_part x b) never) xs (inr (rw (matches_can a p) (g (subst (Matches b) (sym e) q))))
    by_front (y ∷ ys) zs e p q f g =
        let k : (x ≡ y) × (xs ≡ ys ++ zs) = same_head x y xs (ys ++ zs) e in
        matches_or (then_form (behind_part x a) b) (cond (can_end a) (behind_part x b) never) xs
        (inl (matches_then (behind_part x a) b xs (ys, zs, k.1, f ys (subst (λ (z : FormPart). Matches a (z ∷ ys)) (sym k.0) p), q)))
matches_part x (either_of a b) xs (inl h) = matches_or (behind_part x a) (behind_part x b) xs (inl (matches_part x a xs h))
matches_part x (either_of a b) xs (inr h) = matches_or (behind_part x a) (behind_part x b) xs (inr (matches_part x b xs h))
matches_part x (many a) xs h = matches_then (behind_part x a) (many a) xs (many_part x a (λ (ys : List FormPart). matches_part x a ys) h.0 xs h.1)
