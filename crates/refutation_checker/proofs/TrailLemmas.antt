use Rattle.std.proofs.Common.{◌≡◌, ℕ, ◌+◌, ◌<◌, ◌≤◌, ◌↔◌, ◌⊎◌, inl, inr, Bool, true, false, not, List, [], ◌∷◌, ◌++◌, length, drop, Option, Some, None, get_or, refl, sym, ◌∙◌, ap, subst, arith}
use Rattle.std.specs.Prelude.{Contains}
use Rattle.std.specs.Bool.{beq}
use Rattle.std.proofs.lemmas.Bool.{cases_eq}
use Rattle.std.proofs.lemmas.List.{drop_more, drop_all}
use Rattle.std.proofs.lemmas.List.Elements.{Contains-append_left, Contains-push, Contains-push_cases, Contains-append_cases}
use Rattle.sat_formula.specs.declared.lit.Lit.{Lit}
use Rattle.refutation_checker.specs.Follows.{negation}
use Rattle.refutation_checker.specs.Marks.{MarksView, mark_of, Updates, AreMarks, TellsValue}

pub Lit-same : (m l : Lit) → m.var ≡ l.var → m.neg ≡ l.neg → m ≡ l
Lit-same m l v e =
    let p : m ≡ record { var = l.var; neg = m.neg } = ap (λ (n : ℕ). record { var = n; neg = m.neg }) v in
    let q : record { var = l.var; neg = m.neg } ≡ l = ap (λ (b : Bool). record { var = l.var; neg = b }) e in
    p ∙ q

pub Contains-nil : (m : Lit) → Contains [] m → ⊥
Contains-nil m h = let p : h.0 < 0 = h.1 in absurd (omega arith)

pub one : (x y : Lit) → Contains (x ∷ []) y → x ≡ y
one x y h = let lt : h.0 < 1 = h.1 in let z : h.0 ≡ 0 = omega arith in rw z at h.2

pub Contains-cons_cases : (x : Lit) (xs : List Lit) (y : Lit) → Contains (x ∷ xs) y → (x ≡ y) ⊎ Contains xs y
Contains-cons_cases x xs y h = elim (Contains-append_cases (x ∷ []) xs y h) [ inl p ↦ inl (one x y p) | inr q ↦ inr q ]

abbrev pub told : Option Bool → Bool → Option Bool
told None n = None
told (Some true) n = Some (not n)
told (Some false) n = Some n

some≢none : (b : Bool) (A : Type 0) → None ≡ Some b → A
some≢none b A e = cc

-- the mark of a literal's variable tells its value
tells : (m : Option Bool) (lits : List Lit) (v : ℕ) (n : Bool)
    → ((m ≡ Some (not n)) ↔ Contains lits (record { var = v; neg = n }))
    → ((m ≡ Some (not (not n))) ↔ Contains lits (record { var = v; neg = not n }))
    → TellsValue lits (record { var = v; neg = n }) (told m n)
tells None lits v n p q = (λ h. some≢none (not n) ⊥ (p.1 h), λ h. some≢none (not (not n)) ⊥ (q.1 h))
tells (Some true) lits v true p q = (λ h. let e : Some true ≡ Some false = p.1 h in cc, q.0 refl)
tells (Some true) lits v false p q = (p.0 refl, λ h. let e : Some true ≡ Some false = q.1 h in cc)
tells (Some false) lits v true p q = (p.0 refl, λ h. let e : Some false ≡ Some true = q.1 h in cc)
tells (Some false) lits v false p q = (λ h. let e : Some false ≡ Some true = p.1 h in cc, q.0 refl)

pub TellsValue-read : (marks : MarksView) (lits : List Lit) (l : Lit) (m : Option Bool) → AreMarks marks lits → mark_of marks l.var ≡ m → TellsValue lits l (told m l.neg)
TellsValue-read marks lits l m h e = subst (λ (o : Option Bool). TellsValue lits l (told o l.neg)) e (tells (mark_of marks l.var) lits l.var l.neg (h l) (h (negation l)))

flip : (a b : Bool) → (a ≡ b → ⊥) → a ≡ not b
flip true true h = absurd (h refl)
flip true false h = refl
flip false true h = refl
flip false false h = absurd (h refl)

pub not_not : (b : Bool) → not (not b) ≡ b
not_not true = refl
not_not false = refl

not_same : (a b : Bool) → not a ≡ not b → a ≡ b
not_same true true e = refl
not_same true false e = cc
not_same false true e = cc
not_same false false e = refl

cases_bool_eq : (a b : Bool) → (a ≡ b) ⊎ (a ≡ b → ⊥)
cases_bool_eq true true = inl refl
cases_bool_eq true false = inr (λ e. cc)
cases_bool_eq false true = inr (λ e. cc)
cases_bool_eq false false = inl refl

some_same : (a b : Bool) → Some a ≡ Some b → a ≡ b
some_same a b e = cc

pub Marks-push : (old new : MarksView) (lits : List Lit) (l : Lit) → AreMarks old lits → Updates old l.var (Some (not l.neg)) new
    → (Contains lits (negation l) → ⊥) → AreMarks new (lits ++ l ∷ [])
Marks-push old new lits l h up free = λ m. elim (cases_eq m.var l.var) [
  | inl v ↦
      (let here : mark_of new m.var ≡ Some (not l.neg) = rw v up.here in
      elim (cases_bool_eq m.neg l.neg) [
        | inl e ↦ (λ _. rw (Lit-same m l v e) (Contains-push lits l), λ _. here ∙ ap (λ (b : Bool). Some (not b)) (sym e))
        | inr ne ↦ (
          λ is. absurd (ne (sym (not_same _ _ (some_same _ _ (sym here ∙ is))))),
          λ has. elim (Contains-push_cases lits l m has) [
            | inl was ↦ absurd (free (rw (sym (Lit-same m (negation l) v (flip m.neg l.neg ne))) was))
            | inr same ↦ absurd (ne (ap (λ (x : Lit). x.neg) (sym same)))
          ],
        )
      ])
  | inr apart ↦ (
    λ is. Contains-append_left lits (l ∷ []) m ((h m).0 (sym (up.others m.var apart) ∙ is)),
    λ has. up.others m.var apart ∙ elim (Contains-push_cases lits l m has) [
      | inl was ↦ (h m).1 was
      | inr same ↦ absurd (apart (ap (λ (x : Lit). x.var) (sym same)))
    ],
  )
]

-- marks with the same values
pub Marks-same : (old new : MarksView) (lits : List Lit) → AreMarks old lits → ((v : ℕ) → mark_of new v ≡ mark_of old v) → AreMarks new lits
Marks-same old new lits h same = λ m. (λ is. (h m).0 (sym (same m.var) ∙ is), λ has. same m.var ∙ (h m).1 has)

-- no marks
pub Marks-empty : (marks : MarksView) → ((v : ℕ) → mark_of marks v ≡ None) → AreMarks marks []
Marks-empty marks none = λ m. (λ is. some≢none (not m.neg) _ (sym (none m.var) ∙ is), λ has. absurd (Contains-nil m has))

-- while the marks of the literals from i on are taken back
abbrev pub Left : MarksView → List Lit → ℕ → Type 0
Left marks lits i = (m : Lit) → mark_of marks m.var ≡ Some (not m.neg) → Contains (drop i lits) m

pub Left-all : (marks : MarksView) (lits : List Lit) → AreMarks marks lits → Left marks lits 0
Left-all marks lits h = λ m e. (h m).0 e

pub Left-more : (old new : MarksView) (lits : List Lit) (i : ℕ) (d : Lit) → i < length lits → Updates old (get_or lits i d).var None new
    → Left old lits i → Left new lits (i + 1)
Left-more old new lits i d lt up h = λ m e. elim (cases_eq m.var (get_or lits i d).var) [
  | inl v ↦ some≢none (not m.neg) _ (sym (rw v up.here) ∙ e)
  | inr apart ↦
      (let has : Contains (drop i lits) m = h m (sym (up.others m.var apart) ∙ e) in
      elim (Contains-cons_cases (get_or lits i d) (drop (i + 1) lits) m (rw (drop_more lits i d lt) at has)) [
        | inl same ↦ absurd (apart (ap (λ (x : Lit). x.var) (sym same)))
        | inr rest ↦ rest
      ])
]

pub Marks-none : (marks : MarksView) (lits : List Lit) (n : ℕ) → length lits ≤ n → Left marks lits n → AreMarks marks []
Marks-none marks lits n le h = λ m. (λ e. rw (drop_all n lits le) at (h m e), λ has. absurd (Contains-nil m has))

pub differs_told : (b n : Bool) → told (Some b) n ≡ Some (not (beq b n))
differs_told true true = refl
differs_told true false = refl
differs_told false true = refl
differs_told false false = refl
