use Rattle.std.proofs.Common.{◌≡◌, ◌<◌, ◌∙◌, ◌⊎◌, ℕ, Bool, true, false, List, [], ◌∷◌, inl, inr, sym, subst, ap, arith, rules}
use Rattle.std.specs.Prelude.{Contains, ◌||◌}
use Rattle.std.specs.List.{list_any}
use Rattle.std.proofs.lemmas.Bool.{false≢true}
use Rattle.watch_chains.specs.declared.link.Link.{Link}
use Rattle.watch_chains.specs.contracts.link.LinkPartialEq.TheImpl.{ghosts}
use Rattle.watch_chains.specs.Watches.{list_at}
use Rattle.std.proofs.lemmas.List.Elements.{Contains-append_cases}
use Rattle.base_tests.proofs.chains.is_free.Goals as goal
use borrow.Author.Count.{below_more}

none_in : (l : Link) → Contains [] l → ⊥
none_in l h = let p : h.0 < 0 = h.1 in absurd (omega arith)

first_or_later : (x : Link) (xs : List Link) (l : Link) → Contains (x ∷ xs) l → (x ≡ l) ⊎ Contains xs l
first_or_later x xs l h = elim (Contains-append_cases (x ∷ []) xs l h) [
  | inl p ↦ inl (let lt : p.0 < 1 = p.1 in let z : p.0 ≡ 0 = omega arith in rw z at p.2)
  | inr q ↦ inr q
]

or_true : (b : Bool) → b || true ≡ true
or_true true = search rules
or_true false = search rules

-- a test that a member passes is passed by some member
any_of : (test : Link → Bool) (xs : List Link) (l : Link) → test l ≡ true → Contains xs l → list_any test xs ≡ true
any_of test [] l passes has = absurd (none_in l has)
any_of test (x ∷ xs) l passes has = elim (first_or_later x xs l has) [
  | inl e ↦ ap (λ (y : Link). test y || list_any test xs) e ∙ ap (λ (b : Bool). b || list_any test xs) passes
  | inr more ↦ ap (λ (b : Bool). test x || b) (any_of test xs l passes more) ∙ or_true (test x)
]

same_link : (l : Link) → ghosts.eq l l ≡ true
same_link l = search rules

pub loop-code-preserved : goal.loop-code-preserved
loop-code-preserved c =
    let list : c.as_slice.result.now ≡ list_at c.args.chains.now.lists c.loop-code.code = c.as_slice.ensures.value ∙ c.in_ok-contents.ensures in
    below_more (λ (k : ℕ). Contains (list_at c.args.chains.now.lists k) c.args.l → ⊥) c.loop-code.code c.loop-code.invariant
    (λ has. false≢true (c.if-contains.ensures.value
    ∙ any_of (λ (y : Link). ghosts.eq y c.args.l) c.as_slice.result.now c.args.l (same_link c.args.l) (subst (λ (xs : List Link). Contains xs c.args.l) (sym list) has)))

pub returns : goal.returns
returns c = λ _ code lt. c.loop-code.invariant code (omega arith)
