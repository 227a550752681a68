-- Literals that go by a test of the choices that are there.
use Rattle.std.proofs.Common.{◌≡◌, ℕ, zero, suc, ◌+◌, ◌<◌, ◌≤◌, Bool, true, false, not, ◌&&◌, ◌||◌, List, [], ◌∷◌, ◌++◌}
use Rattle.std.proofs.Common.{map, length, take, get_or, All, refl, ap, ◌∙◌, sym, arith}
use Rattle.std.specs.List.{list_any, list_all}
use Rattle.std.proofs.lemmas.List.Folds.{list_any-append, list_any_more}
use Rattle.std.proofs.lemmas.List.Elements.{All-push, All-weaker}
use Rattle.sat_formula.specs.declared.lit.Lit.{Lit}
use Rattle.sat_formula.specs.declared.cnf.Cnf.{Cnf}
use Rattle.sat_formula.specs.Lit.{lit_value, IsBelow}
use Rattle.sat_formula.specs.Formula.{HasValue, Grows}
use Rattle.sat_formula.proofs.Extension.{Satisfies-older}
use Rattle.tla_values.specs.declared.value.Value.{Value}
use Rattle.cell_arena.specs.declared.kinds.CellId.{CellId}
use Rattle.member_choices.specs.declared.choice.Choice.{Choice}
use Rattle.member_choices.specs.Choices.{ChoicesBelow, any_choice}
use Rattle.member_choices.specs.inner.Tests.{Guards, TestsChoices}

pub lits-later : (m n : ℕ) (ls : List Lit) → All (IsBelow m) ls → m ≤ n → All (IsBelow n) ls
lits-later m n ls h le = All-weaker (IsBelow m) (IsBelow n) (λ l p. omega arith) ls h

pub choices-later : (m n : ℕ) (cs : List Choice) → ChoicesBelow m cs → m ≤ n → ChoicesBelow n cs
choices-later m n cs h le =
    All-weaker (λ (c : Choice). IsBelow m c.there) (λ (c : Choice). IsBelow n c.there) (λ c p. omega arith) cs h

or_last : (t : Bool) → (t || false) ≡ t
or_last true = refl
or_last false = refl

module _ (a : List Bool) (of : CellId → Value) where
  pub any-more : (p : List Value → Bool) (cs : List Choice) (i : ℕ) (d : Choice) → i < length cs →
      any_choice a of p (take (i + 1) cs) ≡
      (any_choice a of p (take i cs) || (lit_value (get_or cs i d).there a && p (map of (get_or cs i d).cells)))
  any-more p cs i d lt = list_any_more (λ (c : Choice). lit_value c.there a && p (map of c.cells)) cs i d lt

  pub any-push : (p : List Value → Bool) (cs : List Choice) (c : Choice) →
      any_choice a of p (cs ++ c ∷ []) ≡ (any_choice a of p cs || (lit_value c.there a && p (map of c.cells)))
  any-push p cs c =
      list_any-append (λ (c : Choice). lit_value c.there a && p (map of c.cells)) cs (c ∷ [])
      ∙ ap (λ t. any_choice a of p cs || t) (or_last (lit_value c.there a && p (map of c.cells)))

  -- tests that agree at each choice that is there
  pub any-agree : (p q : List Value → Bool) (cs : List Choice) →
      ((i : ℕ) (d : Choice) → i < length cs → lit_value (get_or cs i d).there a ≡ true →
      p (map of (get_or cs i d).cells) ≡ q (map of (get_or cs i d).cells)) → any_choice a of p cs ≡ any_choice a of q cs
  any-agree p q [] h = refl
  any-agree p q (c ∷ cs) h =
      ap (λ t. t || any_choice a of p cs) (here (lit_value c.there a) refl)
      ∙ ap (λ t. (lit_value c.there a && q (map of c.cells)) || t)
      (any-agree p q cs (λ i d lt on. h (suc i) d (omega arith) on))
    where
      here : (t : Bool) → lit_value c.there a ≡ t → (t && p (map of c.cells)) ≡ (t && q (map of c.cells))
      here true e = h zero c (omega arith) e
      here false e = refl

  -- a test that none passes
  pub any-none : (p : List Value → Bool) (cs : List Choice) →
      ((i : ℕ) (d : Choice) → i < length cs → lit_value (get_or cs i d).there a ≡ true →
      p (map of (get_or cs i d).cells) ≡ false) → any_choice a of p cs ≡ false
  any-none p cs h = any-agree p (λ vs. false) cs h ∙ never cs
    where
      never : (cs : List Choice) → any_choice a of (λ vs. false) cs ≡ false
      never [] = refl
      never (c ∷ cs) = ap (λ t. t || any_choice a of (λ vs. false) cs) (off (lit_value c.there a)) ∙ never cs
        where
          off : (t : Bool) → (t && false) ≡ false
          off true = refl
          off false = refl

  pub none-at : (p : List Value → Bool) (cs : List Choice) → any_choice a of p cs ≡ false → (i : ℕ) (d : Choice) →
      i < length cs → lit_value (get_or cs i d).there a ≡ true → p (map of (get_or cs i d).cells) ≡ false
  none-at p [] e i d lt on = absurd (omega arith)
  none-at p (c ∷ cs) e zero d lt on = first (lit_value c.there a) (p (map of c.cells)) (any_choice a of p cs) on e
    where
      first : (l t r : Bool) → l ≡ true → ((l && t) || r) ≡ false → t ≡ false
      first true t r h e = grind arith
      first false t r h e = absurd (cc)
  none-at p (c ∷ cs) e (suc i) d lt on =
      none-at p cs (rest (lit_value c.there a && p (map of c.cells)) (any_choice a of p cs) e) i d (omega arith) on
    where
      rest : (t r : Bool) → (t || r) ≡ false → r ≡ false
      rest true r e = absurd (cc)
      rest false r e = e

-- what holds of no item is no item's
pub all-unless : {X : Type 0} (p : X → Bool) (xs : List X) → list_any (λ x. not (p x)) xs ≡ false → list_all p xs ≡ true
all-unless p [] e = refl
all-unless p (x ∷ xs) e = by (p x) e (all-unless p xs)
  where
    by : (t : Bool) → (not t || list_any (λ x. not (p x)) xs) ≡ false →
        (list_any (λ x. not (p x)) xs ≡ false → list_all p xs ≡ true) → (t && list_all p xs) ≡ true
    by true e h = h e
    by false e h = absurd (cc)

pub not-any : {X : Type 0} (p : X → Bool) (xs : List X) → not (list_any (λ x. not (p x)) xs) ≡ list_all p xs
not-any p [] = refl
not-any p (x ∷ xs) = by (p x) (not-any p xs)
  where
    by : (t : Bool) → not (list_any (λ x. not (p x)) xs) ≡ list_all p xs →
        not (not t || list_any (λ x. not (p x)) xs) ≡ (t && list_all p xs)
    by true h = h
    by false h = refl

-- ---- the loop

pub guards-push : (f g : Cnf) (cs : List Choice) (ls out after : List Lit) (i : ℕ) (d : Choice) (e both : Lit) →
    i < length cs → Grows f g → Guards f cs (take i cs) ls out →
    HasValue g both (λ a. lit_value (get_or cs i d).there a && lit_value (get_or ls i e) a) → after ≡ out ++ both ∷ [] →
    Guards g cs (take (i + 1) cs) ls after
unfolding TestsChoices
guards-push f g cs ls out after i d e both lt grows old gate pushed = record {
  named = rw pushed (All-push (IsBelow g.vars) out both (lits-later f.vars g.vars out old.named grows.vars) gate.below);
  any = λ a s of t h.
      ap (list_any (λ l. lit_value l a)) pushed ∙ list_any-append (λ l. lit_value l a) out (both ∷ [])
      ∙ ap (λ b. b || (lit_value both a || false)) (old.any a (Satisfies-older f g a grows s) of t h)
      ∙ ap (λ b. any_choice a of t (take i cs) || b) (or_last (lit_value both a) ∙ gate.value a s
      ∙ here (lit_value (get_or cs i d).there a) (lit_value (get_or ls i e) a) (t (map of (get_or cs i d).cells))
      (h i d e lt))
      ∙ sym (any-more a of t cs i d lt);
}
  where
    here : (l x y : Bool) → (l ≡ true → x ≡ y) → (l && x) ≡ (l && y)
    here true x y k = k refl
    here false x y k = refl
