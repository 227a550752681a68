-- The last place that passes, one token later.
use Rattle.std.proofs.Common.{Bool, true, false, not, List, Option, Some, None, length, inl, inr, refl, sym, ap, subst, arith, append_assoc, ◌≡◌, ◌≤◌, ◌⊎◌, ◌∷◌, ◌++◌, ◌&&◌, ◌||◌, ◌∙◌, []}
use Rattle.tla_lexer.specs.declared.token.Token.{Token}
use Rattle.tla_meaning.specs.declared.place.Place.{Place}
use Rattle.tla_parser.specs.Beginnings.{Begins, FaultAt, Follows, IsFirst, LastAt, NoneLeft, Nowhere, Whole, last_of}
use Rattle.tla_parser.specs.inner.Refusals.{HasStart, faulty, renewed}

-- the test tells whether it is so
pub record Tells (b : Bool) (A : Type 0) : Type 0 where
  pub yes : b ≡ true → A
  pub no : b ≡ false → A → ⊥

-- ---- tokens with one more behind

pub record Earlier (ts f : List Token) (u : Token) (r : List Token) (t : Token) : Type 0 where
  pub rest : List Token
  pub rest_so : r ≡ rest ++ (t ∷ [])
  pub tokens_so : ts ≡ f ++ (u ∷ rest)

pub record Here (ts f : List Token) (u : Token) (r : List Token) (t : Token) : Type 0 where
  pub front_so : f ≡ ts
  pub token_so : u ≡ t
  pub rest_so : r ≡ []

one_more : (x y : Token) (xs ys : List Token) → x ∷ xs ≡ y ∷ ys → (x ≡ y) × (xs ≡ ys)
one_more x y xs ys e = (one x y xs ys e, more x y xs ys e)
  where
    one : (a b : Token) (ks ls : List Token) → a ∷ ks ≡ b ∷ ls → a ≡ b
    one a b ks ls q = cc

    more : (a b : Token) (ks ls : List Token) → a ∷ ks ≡ b ∷ ls → ks ≡ ls
    more a b ks ls q = cc

pub no_split : (f r : List Token) (u : Token) → [] ≡ f ++ (u ∷ r) → ⊥
no_split [] r u e = cc
no_split (x ∷ f) r u e = cc

pub split_end : (ts f r : List Token) (t u : Token) → ts ++ (t ∷ []) ≡ f ++ (u ∷ r) → Here ts f u r t ⊎ Earlier ts f u r t
split_end [] [] r t u e =
    let k : (t ≡ u) × ([] ≡ r) = one_more t u [] r e in
    inl (record { front_so = refl; token_so = sym k.0; rest_so = sym k.1 })
split_end [] (x ∷ f) r t u e = absurd (no_split f r u (one_more t x [] (f ++ (u ∷ r)) e).1)
split_end (y ∷ ts) [] r t u e =
    let k : (y ≡ u) × (ts ++ (t ∷ []) ≡ r) = one_more y u (ts ++ (t ∷ [])) r e in
    inr (record { rest = ts; rest_so = sym k.1; tokens_so = ap (λ (x : Token). x ∷ ts) k.0 })
split_end (y ∷ ts) (x ∷ f) r t u e =
    let k : (y ≡ x) × (ts ++ (t ∷ []) ≡ f ++ (u ∷ r)) = one_more y x (ts ++ (t ∷ [])) (f ++ (u ∷ r)) e in
    elim (split_end ts f r t u k.1) [
      | inl h ↦ inl (record { front_so = cons_as x y f ts (sym k.0) h.front_so; token_so = h.token_so; rest_so = h.rest_so })
      | inr h ↦ inr (record { rest = h.rest; rest_so = h.rest_so; tokens_so = cons_as y x ts (f ++ (u ∷ h.rest)) k.0 h.tokens_so })
    ]
  where
    cons_as : (a b : Token) (xs ys : List Token) → a ≡ b → xs ≡ ys → a ∷ xs ≡ b ∷ ys
    cons_as a b xs ys p q = cc

pub last_next : (ts : List Token) (t : Token) → last_of (ts ++ (t ∷ [])) ≡ Some t
last_next [] t = refl
last_next (u ∷ []) t = refl
last_next (u ∷ v ∷ ts) t = last_next (v ∷ ts) t

front_length : (ts f r : List Token) (u : Token) → ts ≡ f ++ (u ∷ r) → length f ≤ length ts
front_length ts [] r u e = omega arith
front_length [] (x ∷ f) r u e = absurd (no_split (x ∷ f) r u e)
front_length (y ∷ ts) (x ∷ f) r u e =
    let h : length f ≤ length ts = front_length ts f r u (one_more y x ts (f ++ (u ∷ r)) e).1 in
    omega arith

-- ---- the last one that passes

pub last_here : (Q : List Token → Token → Type 0) (ts : List Token) (t : Token) → Q ts t → LastAt Q t.place (ts ++ (t ∷ []))
last_here Q ts t q = record {
  front = ts;
  token = t;
  rest = [];
  tokens_so = refl;
  passes = q;
  place_so = refl;
  last = λ f u r e p. elim (split_end ts f r t u e) [
    | inl h ↦ ap_length h.front_so
    | inr h ↦ front_length ts f h.rest u h.tokens_so
  ];
}
  where
    ap_length : {f : List Token} → f ≡ ts → length f ≤ length ts
    ap_length e = omega (arith, ap length e)

pub last_kept : (Q : List Token → Token → Type 0) (place : Place) (ts : List Token) (t : Token) → (Q ts t → ⊥) → LastAt Q place ts → LastAt Q place (ts ++ (t ∷ []))
last_kept Q place ts t n l = record {
  front = l.front;
  token = l.token;
  rest = l.rest ++ (t ∷ []);
  tokens_so = ap (λ (us : List Token). us ++ (t ∷ [])) l.tokens_so ∙ append_assoc l.front (l.token ∷ l.rest) (t ∷ []);
  passes = l.passes;
  place_so = l.place_so;
  last = λ f u r e p. elim (split_end ts f r t u e) [
    | inl h ↦ absurd (n (subst (λ (x : Token). Q ts x) h.token_so (subst (λ (x : List Token). Q x u) h.front_so p)))
    | inr h ↦ l.last f u h.rest h.tokens_so p
  ];
}

pub nowhere_kept : (Q : List Token → Token → Type 0) (ts : List Token) (t : Token) → (Q ts t → ⊥) → Nowhere Q ts → Nowhere Q (ts ++ (t ∷ []))
nowhere_kept Q ts t n w = λ f u r e p. elim (split_end ts f r t u e) [
  | inl h ↦ n (subst (λ (x : Token). Q ts x) h.token_so (subst (λ (x : List Token). Q x u) h.front_so p))
  | inr h ↦ w f u h.rest h.tokens_so p
]

pub nowhere_empty : (Q : List Token → Token → Type 0) → Nowhere Q []
nowhere_empty Q = λ f u r e p. no_split f r u e

first_kept : (place : Place) (ts : List Token) (t : Token) → IsFirst place ts → IsFirst place (ts ++ (t ∷ []))
first_kept place [] t h = absurd h
first_kept place (u ∷ ts) t h = h

-- ---- where the last unit began, one token later

pub start_next : (P : List Token → Type 0) (ts : List Token) (t : Token) (o : Option Place) (g b h : Bool) → Tells b (Begins P ts t) → (g ≡ false → Tells h (Whole P ts t)) → HasStart P ts o g → HasStart P (ts ++ (t ∷ [])) (renewed (b || (not g && h)) t.place o) (g || b)
start_next P ts t o true true h w k s = last_here (Begins P) ts t (w.yes refl)
start_next P ts t o false true h w k s = last_here (Begins P) ts t (w.yes refl)
start_next P ts t None true false h w k s = absurd (cc)
start_next P ts t (Some p) true false h w k s = last_kept (Begins P) p ts t (w.no refl) s
start_next P ts t None false false h w k s =
    subst (λ (us : List Token). HasStart P (us ++ (t ∷ [])) (renewed (h) t.place None) false) (sym s.0)
    (first_token h (subst (λ (us : List Token). Tells h (Whole P us t)) s.0 (k refl)) (subst (λ (us : List Token). Tells false (Begins P us t)) s.0 w))
  where
    first_token : (x : Bool) → Tells x (Whole P [] t) → Tells false (Begins P [] t) → HasStart P ([] ++ (t ∷ [])) (renewed x t.place None) false
    first_token true y z = (nowhere_kept (Begins P) [] t (z.no refl) (nowhere_empty (Begins P)), inl (last_here (Whole P) [] t (y.yes refl)))
    first_token false y z = (nowhere_kept (Begins P) [] t (z.no refl) (nowhere_empty (Begins P)), inr (nowhere_kept (Whole P) [] t (y.no refl) (nowhere_empty (Whole P)), refl))
start_next P ts t (Some p) false false true w k s = (nowhere_kept (Begins P) ts t (w.no refl) s.0, inl (last_here (Whole P) ts t ((k refl).yes refl)))
start_next P ts t (Some p) false false false w k s = (nowhere_kept (Begins P) ts t (w.no refl) s.0, kept_header s.1)
  where
    kept_header : LastAt (Whole P) p ts ⊎ (Nowhere (Whole P) ts × IsFirst p ts) → LastAt (Whole P) p (ts ++ (t ∷ [])) ⊎ (Nowhere (Whole P) (ts ++ (t ∷ [])) × IsFirst p (ts ++ (t ∷ [])))
    kept_header (inl l) = inl (last_kept (Whole P) p ts t ((k refl).no refl) l)
    kept_header (inr n) = inr (nowhere_kept (Whole P) ts t ((k refl).no refl) n.0, first_kept p ts t n.1)

-- ---- the place of the fault, where all tokens were read

pub fault_place : (P : List Token → Type 0) (ts : List Token) (o : Option Place) (g h : Bool) (last place : Place) → Follows (λ t. last ≡ t.place) (last_of ts) → (g ≡ false → Tells h (NoneLeft P ts)) → HasStart P ts o g → place ≡ faulty (not g && h) last o → FaultAt P place ts
fault_place P ts (Some p) true h last place f k s e = inl (subst (λ (x : Place). LastAt (Begins P) x ts) (sym e) s)
fault_place P ts None true h last place f k s e = absurd (cc)
fault_place P ts None false h last place f k s e = absurd (subst (λ (us : List Token). Follows (λ t. last ≡ t.place) (last_of us)) s.0 f)
fault_place P ts (Some p) false true last place f k s e = inr (s.0, inl ((k refl).yes refl, subst (λ (x : Place). Follows (λ t. x ≡ t.place) (last_of ts)) (sym e) f))
fault_place P ts (Some p) false false last place f k s e = inr (s.0, inr ((k refl).no refl, subst (λ (x : Place). LastAt (Whole P) x ts ⊎ (Nowhere (Whole P) ts × IsFirst x ts)) (sym e) s.1))
