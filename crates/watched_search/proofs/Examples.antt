-- Examples of open clauses, of propagation, of what watches, and of what is held over levels.
use Rattle.std.proofs.Common.{◌≡◌, ℕ, ◌<◌, ◌⊎◌, inl, inr, true, false, List, [], ◌∷◌, Some, None, refl, sym, ◌∙◌, ap, subst, arith}
use Rattle.std.specs.Prelude.{Contains}
use Rattle.std.proofs.lemmas.Bool.{cases_lt}
use Rattle.std.proofs.lemmas.List.Elements.{All-nil, All-cons}
use Rattle.sat_formula.specs.declared.lit.Lit.{Lit}
use Rattle.refutation_checker.specs.Follows.{negation, IsUnit}
use Rattle.refutation_checker.proofs.TrailLemmas.{Contains-nil, Contains-cons_cases}
use Rattle.watch_chains.specs.declared.link.Link.{Link}
use Rattle.watched_search.specs.declared.entry.Entry.{Entry}
use Rattle.watched_search.specs.Trail.{IsFree}
use Rattle.watched_search.specs.Searching.{SearchView, IsOpen, Propagates, lit_at}
use Rattle.watched_search.specs.Watching.{Stands}
use Rattle.watched_search.specs.inner.Keeping.{Held, Rooted}

abbrev a : Lit
a = record { var = 1; neg = false }

abbrev b : Lit
b = record { var = 2; neg = false }

abbrev not_a : Lit
not_a = record { var = 1; neg = true }

first_of_two : (x y : Lit) → Contains (x ∷ y ∷ []) x
first_of_two x y = (0, omega arith, refl)

second_of_two : (x y : Lit) → Contains (x ∷ y ∷ []) y
second_of_two x y = (1, omega arith, refl)

free : (x : Lit) → IsFree [] x
free x = (Contains-nil x, Contains-nil (negation x))

vars_differ : a ≡ b → ⊥
vars_differ e = let bad : ◌≡◌ {A = ℕ} 1 2 = ap (λ (x : Lit). x.var) e in omega arith

signs_differ : a ≡ not_a → ⊥
signs_differ e = let bad : false ≡ true = ap (λ (x : Lit). x.neg) e in cc

-- ---- open clauses

two_free : IsOpen [] (a ∷ b ∷ [])
two_free = inr (a, b, first_of_two a b, second_of_two a b, vars_differ, free a, free b)

-- a literal beside its negation
opposites : IsOpen [] (a ∷ not_a ∷ [])
opposites = inr (a, not_a, first_of_two a not_a, second_of_two a not_a, signs_differ, free a, free not_a)

all_one : (x y : Lit) → Contains (x ∷ x ∷ []) y → x ≡ y
all_one x y h = elim (Contains-cons_cases x (x ∷ []) y h) [
  | inl e ↦ e
  | inr later ↦ elim (Contains-cons_cases x [] y later) [ inl e ↦ e | inr none ↦ absurd (Contains-nil y none) ]
]

-- one literal that is named twice counts once
named_twice : IsOpen [] (a ∷ a ∷ []) → ⊥
named_twice h = elim h [
  | inl t ↦ Contains-nil t.0 t.2
  | inr two ↦ two.4 (sym (all_one a two.0 two.2) ∙ all_one a two.1 two.3)
]

empty : IsOpen [] [] → ⊥
empty h = elim h [ inl t ↦ Contains-nil t.0 t.1 | inr two ↦ Contains-nil two.0 two.2 ]

-- ---- propagation

abbrev state : List (List Lit) → List Entry → SearchView
state clauses entries = record { vars = 3; clauses = clauses; entries = entries; chains = [] }

only : (x y : Lit) → Contains (x ∷ []) y → x ≡ y
only x y h = elim (Contains-cons_cases x [] y h) [ inl e ↦ e | inr none ↦ absurd (Contains-nil y none) ]

-- a is true, and the clause of its negation and b forces b
b_is_forced : IsUnit (a ∷ []) (not_a ∷ b ∷ []) b
b_is_forced = record {
  member = second_of_two not_a b;
  not_true = λ h. vars_differ (only a b h);
  not_false = λ h. let bad : ◌≡◌ {A = ℕ} 1 2 = ap (λ (x : Lit). x.var) (only a (negation b) h) in omega arith;
  others = All-cons (λ l. (l ≡ b) ⊎ Contains (a ∷ []) (negation l)) not_a (b ∷ []) (inr (0, omega arith, refl))
      (All-cons (λ l. (l ≡ b) ⊎ Contains (a ∷ []) (negation l)) b [] (inl refl) (All-nil (λ l. (l ≡ b) ⊎ Contains (a ∷ []) (negation l))));
}

abbrev implied : List (List Lit)
implied = (not_a ∷ b ∷ []) ∷ []

one_step : Propagates (state implied (record { lit = a; reason = None } ∷ [])) (state implied (record { lit = a; reason = None } ∷ record { lit = b; reason = Some 0 } ∷ [])) None
one_step = record {
  same = refl;
  each = (record { lit = b; reason = Some 0 } ∷ [], refl, ((0, refl, (omega arith, b_is_forced)), tt));
  answer = All-cons (IsOpen (a ∷ b ∷ [])) (not_a ∷ b ∷ []) [] (inl (b, second_of_two not_a b, second_of_two a b)) (All-nil (IsOpen (a ∷ b ∷ [])));
}

b_alone : (x : Lit) → Contains (not_a ∷ b ∷ []) x → IsFree (a ∷ []) x → b ≡ x
b_alone x has free' = elim (Contains-cons_cases not_a (b ∷ []) x has) [
  | inl e ↦ absurd (free'.1 (rw (← e) (0, omega arith, refl)))
  | inr later ↦ only b x later
]

-- what is forced may not be left out
nothing_is_done : Propagates (state implied (record { lit = a; reason = None } ∷ [])) (state implied (record { lit = a; reason = None } ∷ [])) None → ⊥
nothing_is_done h = elim (h.answer 0 [] (omega arith)) [
  | inl t ↦ elim (Contains-cons_cases not_a (b ∷ []) t.0 t.1) [
    | inl e ↦ signs_differ (only a t.0 t.2 ∙ sym e)
    | inr later ↦ vars_differ (only a t.0 t.2 ∙ sym (only b t.0 later))
  ]
  | inr two ↦ two.4 (sym (b_alone two.0 two.2 two.5) ∙ b_alone two.1 two.3 two.6)
]

-- ---- what watches

abbrev here : ℕ → Link
here s = record { clause = 0; slot = s }

-- clause 0 stands in the chains of a and b, whose codes are 2 and 4
abbrev chains : List (List Link)
chains = [] ∷ [] ∷ (here 0 ∷ []) ∷ [] ∷ (here 1 ∷ []) ∷ [] ∷ []

stands_at_a : Stands chains a 0
stands_at_a = (here 0, refl, (0, omega arith, refl))

stands_at_b : Stands chains b 0
stands_at_b = (here 1, refl, (0, omega arith, refl))

stands_at_no_other : Stands chains not_a 0 → ⊥
stands_at_no_other h = let lt : h.2.0 < 0 = h.2.1 in omega arith

-- ---- what is held

-- a became false where one level begins, and b true where the next one does: this does not outlast it
true_later : Held (not_a ∷ b ∷ []) (0 ∷ 1 ∷ []) 1 (a ∷ b ∷ []) a → ⊥
true_later h =
    let p = h 0 (omega arith) refl in
    elim (cases_lt p.0 1) [
      | inl before ↦
          (let z : p.0 ≡ 0 = omega arith in
          let has : Contains (a ∷ b ∷ []) not_a = subst (λ (j : ℕ). Contains (a ∷ b ∷ []) (lit_at (not_a ∷ b ∷ []) j)) z p.2 in
          elim (Contains-cons_cases a (b ∷ []) not_a has) [ inl e ↦ signs_differ e | inr later ↦ let bad : ◌≡◌ {A = ℕ} 2 1 = ap (λ (x : Lit). x.var) (only b not_a later) in omega arith ])
      | inr behind ↦ let bad = p.3 1 (1, omega arith, refl) behind in omega arith
    ]

-- in one level it does
true_in_one_level : Held (not_a ∷ b ∷ []) (0 ∷ []) 1 (a ∷ b ∷ []) a
true_in_one_level = λ k lt e. (1, omega arith, second_of_two a b, λ s has le. let within : has.0 < 1 = has.1 in let z : has.0 ≡ 0 = omega arith in let zero : 0 ≡ s = rw z at has.2 in omega arith)

-- behind the start of a level nothing is rooted
not_rooted : Rooted (a ∷ []) (0 ∷ []) (a ∷ []) → ⊥
not_rooted p = let bad = p.3 0 (0, omega arith, refl) in omega arith
