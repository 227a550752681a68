use Rattle.std.proofs.Common.{◌≡◌, ℕ, ◌+◌, ◌<◌, ◌⊎◌, inl, inr, true, false, List, [], ◌∷◌, ◌++◌, length, drop, take, map, Option, Some, None, get_or, refl, sym, ◌∙◌, ap, subst, arith, append_assoc}
use Rattle.std.specs.Prelude.{Contains, is_some, IfSome}
use Rattle.std.proofs.lemmas.List.{append-nil, map-append, get_or_append_left, length_push, take_more, drop_more, take-append-drop}
use Rattle.std.proofs.lemmas.List.Elements.{All-nil, All-cons, All-contains, All-push, Contains-append_left, Contains-append_right, Contains-push, Contains-append_cases}
use Rattle.sat_formula.specs.declared.lit.Lit.{Lit}
use Rattle.refutation_checker.specs.Follows.{negation}
use Rattle.refutation_checker.specs.Follows.{HasNoOpposites}
use Rattle.refutation_checker.proofs.TrailLemmas.{Lit-same, Contains-nil, Contains-cons_cases, not_not}
use Rattle.watched_search.specs.declared.entry.Entry.{Entry}
use Rattle.watched_search.specs.Trail.{lits_of, IsFree}
use Rattle.watched_search.specs.Searching.{IsOpen, IsForcedBy, Forced}
use Rattle.watched_search.proofs.TrailLemmas.{not_itself}
use Rattle.cdcl_solver.specs.inner.Chain.{Quiet, Why, IsNext, Chain, decided, decisions, reason_of, reasons, AreReasonsBelow}

pub negation-negation : (l : Lit) → negation (negation l) ≡ l
negation-negation l = Lit-same (negation (negation l)) l refl (not_not l.neg)

pub no_own_negation : (l : Lit) → l ≡ negation l → ⊥
no_own_negation l e = not_itself l.neg (ap (λ (x : Lit). x.neg) e)

-- an entry comes last
pub Chain-push : (known : List (List Lit)) (T : List Lit) (es : List Entry) (e : Entry) → Chain known T es → IsNext known (T ++ lits_of es) e → Chain known T (es ++ e ∷ [])
Chain-push known T [] e c n = (rw (append-nil T) at n, tt)
Chain-push known T (x ∷ es) e c n = (c.0, Chain-push known (T ++ x.lit ∷ []) es e c.1 (rw append_assoc n))

-- a chain behind a chain
pub Chain-append : (known : List (List Lit)) (T : List Lit) (xs ys : List Entry) → Chain known T xs → Chain known (T ++ lits_of xs) ys → Chain known T (xs ++ ys)
Chain-append known T [] ys c d = rw (append-nil T) at d
Chain-append known T (x ∷ xs) ys c d = (c.0, Chain-append known (T ++ x.lit ∷ []) xs ys c.1 (rw append_assoc d))

-- forced entries are a chain
pub Forced-chain : (known : List (List Lit)) (T : List Lit) (es : List Entry) → Forced known T es → Chain known T es
Forced-chain known T [] f = tt
Forced-chain known T (e ∷ es) f =
    let unit = f.0.2.1 in
    (record { free = (unit.not_true, unit.not_false); why = rw f.0.1 f.0.2 }, Forced-chain known (T ++ e.lit ∷ []) es f.1)

-- what came first stays a chain
pub Chain-front : (known : List (List Lit)) (T : List Lit) (xs ys : List Entry) → Chain known T (xs ++ ys) → Chain known T xs
Chain-front known T [] ys c = tt
Chain-front known T (x ∷ xs) ys c = (c.0, Chain-front known (T ++ x.lit ∷ []) xs ys c.1)

pub Chain-at : (known : List (List Lit)) (T : List Lit) (xs : List Entry) (e : Entry) (ys : List Entry) → Chain known T (xs ++ e ∷ ys) → IsNext known (T ++ lits_of xs) e
Chain-at known T [] e ys c = rw (append-nil T) c.0
Chain-at known T (x ∷ xs) e ys c = rw append_assoc at (Chain-at known (T ++ x.lit ∷ []) xs e ys c.1)

-- no entry's variable had a value before
pub Chain-apart : (known : List (List Lit)) (T : List Lit) (es : List Entry) → Chain known T es → (l : Lit) → Contains (lits_of es) l → IsFree T l
Chain-apart known T [] c l h = absurd (Contains-nil l h)
Chain-apart known T (e ∷ es) c l h = elim (Contains-cons_cases e.lit (lits_of es) l h) [
  | inl same ↦ subst (λ (m : Lit). IsFree T m) same c.0.free
  | inr rest ↦
      (let f = Chain-apart known (T ++ e.lit ∷ []) es c.1 l rest in
      (λ t. f.0 (Contains-append_left T (e.lit ∷ []) l t), λ t. f.1 (Contains-append_left T (e.lit ∷ []) (negation l) t)))
]

-- no entry's literal comes again, nor its negation
pub Chain-later : (known : List (List Lit)) (T : List Lit) (l : Lit) (es : List Entry) → Chain known (T ++ l ∷ []) es → (Contains (lits_of es) l → ⊥) × (Contains (lits_of es) (negation l) → ⊥)
Chain-later known T l es c = (
  λ h. (Chain-apart known (T ++ l ∷ []) es c l h).0 (Contains-push T l),
  λ h. (Chain-apart known (T ++ l ∷ []) es c (negation l) h).1 (rw (negation-negation l) (Contains-push T l)),
)

pub Chain-consistent : (known : List (List Lit)) (T : List Lit) (es : List Entry) → Chain known T es → HasNoOpposites (lits_of es)
Chain-consistent known T [] c l h g = Contains-nil l h
Chain-consistent known T (e ∷ es) c l h g =
    let later = Chain-later known T e.lit es c.1 in
    elim (Contains-cons_cases e.lit (lits_of es) l h) [
      | inl same ↦ elim (Contains-cons_cases e.lit (lits_of es) (negation l) g) [
        | inl other ↦ no_own_negation l (sym same ∙ other)
        | inr rest ↦ later.1 (rw (← same) at rest)
      ]
      | inr rest ↦ elim (Contains-cons_cases e.lit (lits_of es) (negation l) g) [
        | inl other ↦ later.1 (rw (other, negation-negation l) rest)
        | inr rest' ↦ Chain-consistent known (T ++ e.lit ∷ []) es c.1 l rest rest'
      ]
    ]

pub decisions-append : (xs ys : List Entry) → decisions (xs ++ ys) ≡ decisions xs ++ decisions ys
decisions-append [] ys = refl
decisions-append (x ∷ xs) ys = ap (λ (r : List Lit). decided x.lit x.reason ++ r) (decisions-append xs ys) ∙ sym (append_assoc (decided x.lit x.reason) (decisions xs) (decisions ys))

pub reasons-append : (xs ys : List Entry) → reasons (xs ++ ys) ≡ reasons xs ++ reasons ys
reasons-append [] ys = refl
reasons-append (x ∷ xs) ys = ap (λ (r : List ℕ). reason_of x.reason ++ r) (reasons-append xs ys) ∙ sym (append_assoc (reason_of x.reason) (reasons xs) (reasons ys))

decided_itself : (l : Lit) (r : Option ℕ) (m : Lit) → Contains (decided l r) m → l ≡ m
decided_itself l None m h = elim (Contains-cons_cases l [] m h) [ inl e ↦ e | inr none ↦ absurd (Contains-nil m none) ]
decided_itself l (Some k) m h = absurd (Contains-nil m h)

pub decisions-within : (es : List Entry) (l : Lit) → Contains (decisions es) l → Contains (lits_of es) l
decisions-within [] l h = h
decisions-within (e ∷ es) l h = elim (Contains-append_cases (decided e.lit e.reason) (decisions es) l h) [
  | inl own ↦ subst (λ (m : Lit). Contains (e.lit ∷ lits_of es) m) (decided_itself e.lit e.reason l own) (Contains-append_left (e.lit ∷ []) (lits_of es) e.lit (Contains-push [] e.lit))
  | inr rest ↦ Contains-append_right (e.lit ∷ []) (lits_of es) l (decisions-within es l rest)
]

IsForced-more : (known : List (List Lit)) (D : List Lit) (T : List Lit) (l : Lit) (c : ℕ) → IsForcedBy known T l c → IsForcedBy (known ++ D ∷ []) T l c
IsForced-more known D T l c f =
    let lt : c < length known = f.0 in
    let size = length_push known D in
    (omega arith, rw (get_or_append_left known (D ∷ []) [] c lt) f.1)

pub Why-more : (known : List (List Lit)) (D T : List Lit) (l : Lit) (r : Option ℕ) → Why known T l r → (r ≡ None → Quiet T D) → Why (known ++ D ∷ []) T l r
Why-more known D T l None w q = All-push (Quiet T) known D w (q refl)
Why-more known D T l (Some h) w q = IsForced-more known D T l h w

-- one more entry
pub decisions-next : (es : List Entry) (i : ℕ) (d : Entry) → i < length es → decisions (take (i + 1) es) ≡ decisions (take i es) ++ decided (get_or es i d).lit (get_or es i d).reason
decisions-next es i d lt =
    ap decisions (take_more es i d lt) ∙ decisions-append (take i es) (get_or es i d ∷ [])
    ∙ ap (λ (r : List Lit). decisions (take i es) ++ r) (append-nil (decided (get_or es i d).lit (get_or es i d).reason))

pub reasons-next : (es : List Entry) (i : ℕ) (d : Entry) → i < length es → reasons (take (i + 1) es) ≡ reasons (take i es) ++ reason_of (get_or es i d).reason
reasons-next es i d lt =
    ap reasons (take_more es i d lt) ∙ reasons-append (take i es) (get_or es i d ∷ [])
    ∙ ap (λ (r : List ℕ). reasons (take i es) ++ r) (append-nil (reason_of (get_or es i d).reason))

pub split_at : (es : List Entry) (i : ℕ) (d : Entry) → i < length es → es ≡ take i es ++ get_or es i d ∷ drop (i + 1) es
split_at es i d lt = sym (take-append-drop i es) ∙ ap (λ (r : List Entry). take i es ++ r) (drop_more es i d lt)

decided_none : (l : Lit) (r : Option ℕ) → is_some r ≡ false → decided l r ≡ l ∷ []
decided_none l None e = refl
decided_none l (Some h) e = cc

decided_some : (l : Lit) (r : Option ℕ) → is_some r ≡ true → decided l r ≡ []
decided_some l None e = cc
decided_some l (Some h) e = refl

pub negated-next : (es : List Entry) (i : ℕ) (d : Entry) → i < length es → is_some (get_or es i d).reason ≡ false
    → map negation (decisions (take i es)) ++ negation (get_or es i d).lit ∷ [] ≡ map negation (decisions (take (i + 1) es))
negated-next es i d lt none =
    let next : decisions (take (i + 1) es) ≡ decisions (take i es) ++ (get_or es i d).lit ∷ [] = decisions-next es i d lt ∙ ap (λ (r : List Lit). decisions (take i es) ++ r) (decided_none _ _ none) in
    rw next (sym (map-append negation (decisions (take i es)) ((get_or es i d).lit ∷ [])))

pub negated-same : (es : List Entry) (i : ℕ) (d : Entry) → i < length es → is_some (get_or es i d).reason ≡ true
    → map negation (decisions (take i es)) ≡ map negation (decisions (take (i + 1) es))
negated-same es i d lt some =
    let next : decisions (take (i + 1) es) ≡ decisions (take i es) ++ [] = decisions-next es i d lt ∙ ap (λ (r : List Lit). decisions (take i es) ++ r) (decided_some _ _ some) in
    rw (next, append-nil (decisions (take i es))) refl

pub reasons-some : (es : List Entry) (i : ℕ) (d : Entry) (h : ℕ) → i < length es → (get_or es i d).reason ≡ Some h
    → reasons (take i es) ++ (h + 1) ∷ [] ≡ reasons (take (i + 1) es)
reasons-some es i d h lt e = sym (reasons-next es i d lt ∙ ap (λ (r : Option ℕ). reasons (take i es) ++ reason_of r) e)

pub reasons-none : (es : List Entry) (i : ℕ) (d : Entry) → i < length es → (get_or es i d).reason ≡ None
    → reasons (take i es) ≡ reasons (take (i + 1) es)
reasons-none es i d lt e = sym (reasons-next es i d lt ∙ ap (λ (r : Option ℕ). reasons (take i es) ++ reason_of r) e ∙ append-nil (reasons (take i es)))

-- a clause that is open says nothing, where no literal is true beside its negation
pub open_quiet : (T c : List Lit) → HasNoOpposites T → IsOpen T c → Quiet T c
open_quiet T c apart (inl h) = (
  λ f. apart h.0 h.2 (All-contains (λ l. Contains T (negation l)) c h.0 f h.1),
  λ u unit. elim (All-contains (λ l. (l ≡ u) ⊎ Contains T (negation l)) c h.0 unit.others h.1) [
    | inl same ↦ unit.not_true (subst (λ (m : Lit). Contains T m) same h.2)
    | inr f ↦ apart h.0 h.2 f
  ],
)
open_quiet T c apart (inr h) = (
  λ f. h.5.1 (All-contains (λ l. Contains T (negation l)) c h.0 f h.2),
  λ u unit. elim (All-contains (λ l. (l ≡ u) ⊎ Contains T (negation l)) c h.0 unit.others h.2) [
    | inr f ↦ h.5.1 f
    | inl a ↦ elim (All-contains (λ l. (l ≡ u) ⊎ Contains T (negation l)) c h.1 unit.others h.3) [
      | inr g ↦ h.6.1 g
      | inl b ↦ h.4 (a ∙ sym b)
    ]
  ],
)

-- the reasons are numbers of clauses
reason_below : (known : List (List Lit)) (T : List Lit) (l : Lit) (r : Option ℕ) → Why known T l r → IfSome r (λ c. c < length known)
reason_below known T l None w = tt
reason_below known T l (Some c) w = w.0

pub reasons_below : (known : List (List Lit)) (T : List Lit) (es : List Entry) → Chain known T es → AreReasonsBelow (length known) es
reasons_below known T [] c = All-nil (λ e. IfSome e.reason (λ c. c < length known))
reasons_below known T (e ∷ es) c =
    All-cons (λ e. IfSome e.reason (λ c. c < length known)) e es (reason_below known T e.lit e.reason c.0.why) (reasons_below known (T ++ e.lit ∷ []) es c.1)
