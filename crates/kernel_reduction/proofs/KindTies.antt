-- Numbers whose kinds are those of the types of the names that they stand for.
use Rattle.std.proofs.Common.{◌≡◌, ℕ, suc, Bool, true, false, not, List, [], ◌∷◌, ◌++◌, zip, refl, sym, ◌∙◌, ap, subst, Some, None, length, arith, if◌then◌else◌}
use Rattle.std.specs.Prelude.{nat_eq}
use Rattle.std.proofs.lemmas.Bool.{eqb-true}
use Rattle.std.proofs.lemmas.List.{append-nil, append_assoc}
use Rattle.tla_meaning.specs.Scopes.{find_last, or_else, same_text}
use Rattle.tla_meaning.proofs.Laws.{find-append, none≢some}
use Rattle.tla_meaning.proofs.Views.{and_left, and_right, and_both, false≢true}
use Rattle.snowcat_rows.specs.Types.{Term}
use Rattle.snowcat_types.specs.Rows.{Scope, typed_names}
use Rattle.kernel_trees.specs.TypeKinds.{Kind}
use Rattle.kernel_trees.specs.Sound.{Context, kind_in}
use Rattle.kernel_trees.proofs.Reading.{nat_same}
use Rattle.kernel_trees.proofs.SoundWider.{kind_append}
use Rattle.kernel_reduction.specs.Reduction.{Numbering, fresh, numbered, all_fresh}
use Rattle.kernel_reduction.proofs.Tying.{not_true, some_same}
use Rattle.kernel_reduction.proofs.KindsOf.{Of, AreOf, no_more, and_of}

-- a name with a number has a type, and the number its kind
pub record Named (bs : Scope) (c : Context) (x : List ℕ) (n : ℕ) : Type 0 where
  pub type : Term
  pub kind : Kind
  pub found : find_last x bs ≡ Some type
  pub of : Of type kind
  pub there : kind_in c n ≡ Some kind

-- each name has, and a number that no name has is not bound
pub record Ties (ρ : Numbering) (bs : Scope) (c : Context) : Type 0 where
  pub bound : (x : List ℕ) (n : ℕ) → find_last x ρ ≡ Some n → Named bs c x n
  pub new : (n : ℕ) → fresh n ρ ≡ true → kind_in c n ≡ None

pub apart_turned : (m n : ℕ) → nat_eq m n ≡ false → nat_eq n m ≡ false
apart_turned m n h = by (nat_eq n m) refl
  where
    by : (b : Bool) → nat_eq n m ≡ b → b ≡ false
    by false q = refl
    by true q =
        absurd (false≢true (sym h ∙ ap (λ k. nat_eq m k) (eqb-true n m q) ∙ nat_same m))

pub fresh_front : (m : ℕ) (ρ : Numbering) (x : List ℕ) (n : ℕ) → fresh m (ρ ++ (x, n) ∷ []) ≡ true →
    (fresh m ρ ≡ true) × (nat_eq n m ≡ false)
fresh_front m [] x n h = (refl, not_true (nat_eq n m) (and_left (not (nat_eq n m)) true h))
fresh_front m (e ∷ ρ) x n h =
    let r = fresh_front m ρ x n (and_right (not (nat_eq e.1 m)) (fresh m (ρ ++ (x, n) ∷ [])) h) in
    (and_both (not (nat_eq e.1 m)) (fresh m ρ) (and_left (not (nat_eq e.1 m)) (fresh m (ρ ++ (x, n) ∷ [])) h) r.0, r.1)

module _ (ρ : Numbering) (bs : Scope) (c : Context) (r : Ties ρ bs c) (n : ℕ) (h : fresh n ρ ≡ true) (x : List ℕ)
    (y : Term) (a : Kind) (g : Of y a) where
  new_bs : Scope
  new_bs = bs ++ (x, y) ∷ []

  new_c : Context
  new_c = c ++ (n, a) ∷ []

  named_by : (z : List ℕ) (m : ℕ) (d : Bool) → same_text z x ≡ d →
      or_else (or_else None (if d then Some n else None)) (find_last z ρ) ≡ Some m → Named (bs ++ (x, y) ∷ []) (c ++ (n, a) ∷ []) z m
  named_by z m true e q = record {
    type = y;
    kind = a;
    found =
        find-append z bs ((x, y) ∷ []) ∙ ap (λ d. or_else (or_else None (if d then Some y else None)) (find_last z bs)) e;
    of = g;
    there =
        kind_append c ((n, a) ∷ []) m
        ∙ (λ i. or_else (or_else None (if nat_eq (sym (some_same q) i) n then Some a else None)) (kind_in c m))
        ∙ ap (λ d. or_else (or_else None (if d then Some a else None)) (kind_in c m)) (nat_same n);
  }
  named_by z m false e q =
      let old = r.bound z m q in record {
        type = old.type;
        kind = old.kind;
        found =
            find-append z bs ((x, y) ∷ [])
            ∙ ap (λ d. or_else (or_else None (if d then Some y else None)) (find_last z bs)) e ∙ old.found;
        of = old.of;
        there = kind_append c ((n, a) ∷ []) m ∙ by old.kind (nat_eq m n) refl old.there;
      }
    where
      by : (o : Kind) (d : Bool) → nat_eq m n ≡ d → kind_in c m ≡ Some o →
          or_else (or_else None (if d then Some a else None)) (kind_in c m) ≡ Some o
      by o false w k = k
      by o true w k = absurd (none≢some (sym (r.new n h) ∙ ap (kind_in c) (sym (eqb-true m n w)) ∙ k))

  pub tie_one : Ties (ρ ++ (x, n) ∷ []) (bs ++ (x, y) ∷ []) (c ++ (n, a) ∷ [])
  tie_one = record {
    bound = λ z m q. named_by z m (same_text z x) refl (sym (find-append z ρ ((x, n) ∷ [])) ∙ q);
    new = λ m q.
        let f = fresh_front m ρ x n q in
        kind_append c ((n, a) ∷ []) m
        ∙ ap (λ d. or_else (or_else None (if d then Some a else None)) (kind_in c m)) (apart_turned n m f.1)
        ∙ r.new m f.0;
  }

pub tie_nil : (ρ : Numbering) (bs : Scope) (c : Context) → Ties ρ bs c → Ties ρ (bs ++ []) c
tie_nil ρ bs c r = subst (λ z. Ties ρ z c) (sym (append-nil bs)) r

-- under the names of a binder
pub tie_all : (xs : List (List ℕ)) (ns : List ℕ) (ys : List Term) (as' : List Kind) (ρ : Numbering) (bs : Scope)
    (c : Context) → all_fresh xs ns ρ ≡ true → length xs ≡ length ys → AreOf ys as' → Ties ρ bs c →
    Ties (numbered xs ns ρ) (bs ++ typed_names xs ys) (c ++ zip ns as')
tie_all [] [] _ _ ρ bs c h l no_more r =
    subst (λ z. Ties ρ (bs ++ []) z) (sym (append-nil c)) (tie_nil ρ bs c r)
tie_all [] [] _ _ ρ bs c h l (and_of y a ys as' g k) r = absurd (none_long (length ys) l)
  where
    none_long : (n : ℕ) → 0 ≡ suc n → ⊥
    none_long n e = omega (arith, e)
tie_all [] (n ∷ ns) _ _ ρ bs c h l k r = absurd (false≢true h)
tie_all (x ∷ xs) [] _ _ ρ bs c h l k r = absurd (false≢true h)
tie_all (x ∷ xs) (n ∷ ns) _ _ ρ bs c h l no_more r = absurd (some_long (length xs) l)
  where
    some_long : (n : ℕ) → suc n ≡ 0 → ⊥
    some_long n e = omega (arith, e)
tie_all (x ∷ xs) (n ∷ ns) _ _ ρ bs c h l (and_of y a ys as' g k) r =
    let f : fresh n ρ ≡ true = and_left (fresh n ρ) (all_fresh xs ns (ρ ++ (x, n) ∷ [])) h in
    let q : all_fresh xs ns (ρ ++ (x, n) ∷ []) ≡ true = and_right (fresh n ρ) (all_fresh xs ns (ρ ++ (x, n) ∷ [])) h in
    subst (λ z. Ties (numbered xs ns (ρ ++ (x, n) ∷ [])) (bs ++ (x, y) ∷ typed_names xs ys) z)
    (append_assoc c ((n, a) ∷ []) (zip ns as'))
    (subst (λ z. Ties (numbered xs ns (ρ ++ (x, n) ∷ [])) z ((c ++ (n, a) ∷ []) ++ zip ns as'))
    (append_assoc bs ((x, y) ∷ []) (typed_names xs ys))
    (tie_all xs ns ys as' (ρ ++ (x, n) ∷ []) (bs ++ (x, y) ∷ []) (c ++ (n, a) ∷ []) q (less (length xs) (length ys) l) k
    (tie_one ρ bs c r n f x y a g)))
  where
    less : (m n : ℕ) → suc m ≡ suc n → m ≡ n
    less m n e = omega (arith, e)
