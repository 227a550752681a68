-- The numbers of a path of an EXCEPT, which all stand for one name.
use Rattle.std.proofs.Common.{◌≡◌, ℕ, Bool, true, false, not, ◌||◌, List, [], ◌∷◌, ◌++◌, map, refl, sym, ◌∙◌, ap, subst, Option, Some, None, if◌then◌else◌}
use Rattle.std.specs.Prelude.{nat_eq}
use Rattle.std.specs.List.{list_any}
use Rattle.std.proofs.lemmas.List.{append-nil, append_assoc}
use Rattle.std.proofs.lemmas.List.Folds.{list_all-append, list_any-append}
use Rattle.tla_meaning.specs.declared.expr.Expr.{Expr}
use Rattle.tla_meaning.specs.Scopes.{find_last, or_else, same_text}
use Rattle.tla_meaning.proofs.Laws.{find-append}
use Rattle.tla_meaning.proofs.Views.{and_left, and_right, and_both, false≢true}
use Rattle.snowcat_rows.specs.declared.types.Ty.{Ty}
use Rattle.kernel_trees.specs.declared.kernel.Ker.{Ker}
use Rattle.kernel_trees.specs.Scoped.{differ}
use Rattle.kernel_reduction.specs.Reduction.{Numbering, fresh, are_fresh, numbered, all_fresh}
use Rattle.kernel_reduction.specs.Rows.{Level, Change, all_levels, level_numbers}
use Rattle.kernel_reduction.specs.BuildsTyped.{PathTyped, right_side, one_level, ChangesTyped, no_changes, one_change}
use Rattle.kernel_reduction.proofs.KindTies.{fresh_front}
use Rattle.kernel_reduction.proofs.ScopedMade.{all_differ}
use Rattle.kernel_reduction.proofs.Shadowed.{Shadows, fresh_back}
use Rattle.kernel_reduction.proofs.Tying.{not_true}

-- ---- many numbers of one name

-- the numbers are new, where the name has all of them
abbrev pub AreNew : List ℕ → List ℕ → Numbering → Type 0
AreNew x ns ρ = all_fresh (map (λ n. x) ns) ns ρ ≡ true

-- names under all of them
abbrev pub under : List ℕ → List ℕ → Numbering → Numbering
under x ns ρ = numbered (map (λ n. x) ns) ns ρ

pub under_more : (x ns : List ℕ) (m : ℕ) (ρ : Numbering) → under x (ns ++ m ∷ []) ρ ≡ under x ns ρ ++ (x, m) ∷ []
under_more x [] m ρ = refl
under_more x (n ∷ ns) m ρ = under_more x ns m (ρ ++ (x, n) ∷ [])

find_same : (z x : List ℕ) (n m : ℕ) (ρ : Numbering) →
    find_last z ((ρ ++ (x, n) ∷ []) ++ (x, m) ∷ []) ≡ find_last z (ρ ++ (x, m) ∷ [])
find_same z x n m ρ =
    find-append z (ρ ++ (x, n) ∷ []) ((x, m) ∷ []) ∙ by (same_text z x) refl ∙ sym (find-append z ρ ((x, m) ∷ []))
  where
    entry : Bool → ℕ → Option ℕ
    entry d k = or_else None (if d then Some k else None)

    by : (d : Bool) → same_text z x ≡ d →
        or_else (or_else None (if d then Some m else None)) (find_last z (ρ ++ (x, n) ∷ []))
        ≡ or_else (or_else None (if d then Some m else None)) (find_last z ρ)
    by true e = refl
    by false e =
        find-append z ρ ((x, n) ∷ [])
        ∙ ap (λ d. or_else (or_else None (if d then Some n else None)) (find_last z ρ)) e

-- the last one counts
pub shadows : (x ns : List ℕ) (m : ℕ) (ρ : Numbering) → Shadows (under x (ns ++ m ∷ []) ρ) (ρ ++ (x, m) ∷ [])
shadows x [] m ρ = record { same = λ z. refl; new = λ n h. h }
shadows x (n ∷ ns) m ρ =
    let r = shadows x ns m (ρ ++ (x, n) ∷ []) in record {
      same = λ z. r.same z ∙ find_same z x n m ρ;
      new = λ k h.
          let f = fresh_front k (ρ ++ (x, n) ∷ []) x m (r.new k h) in
          fresh_back k ρ x m (fresh_front k ρ x n f.0).0 f.1;
    }

still_fresh : (ns : List ℕ) (ρ : Numbering) (x : List ℕ) (n : ℕ) → are_fresh ns (ρ ++ (x, n) ∷ []) ≡ true →
    are_fresh ns ρ ≡ true
still_fresh [] ρ x n h = refl
still_fresh (m ∷ ns) ρ x n h =
    let σ : Numbering = ρ ++ (x, n) ∷ [] in
    and_both (fresh m ρ) (are_fresh ns ρ) (fresh_front m ρ x n (and_left (fresh m σ) (are_fresh ns σ) h)).0
    (still_fresh ns ρ x n (and_right (fresh m σ) (are_fresh ns σ) h))

pub new_fresh : (x ns : List ℕ) (ρ : Numbering) → AreNew x ns ρ → are_fresh ns ρ ≡ true
new_fresh x [] ρ h = refl
new_fresh x (n ∷ ns) ρ h =
    let σ : Numbering = ρ ++ (x, n) ∷ [] in
    let rest : Bool = all_fresh (map (λ n. x) ns) ns σ in
    and_both (fresh n ρ) (are_fresh ns ρ) (and_left (fresh n ρ) rest h)
    (still_fresh ns ρ x n (new_fresh x ns σ (and_right (fresh n ρ) rest h)))

-- the first of them, and the others under these
pub new_front : (x ns ms : List ℕ) (ρ : Numbering) → AreNew x (ns ++ ms) ρ → AreNew x ns ρ
new_front x [] ms ρ h = refl
new_front x (n ∷ ns) ms ρ h =
    let σ : Numbering = ρ ++ (x, n) ∷ [] in
    let rest : Bool = all_fresh (map (λ n. x) (ns ++ ms)) (ns ++ ms) σ in
    and_both (fresh n ρ) (all_fresh (map (λ n. x) ns) ns σ) (and_left (fresh n ρ) rest h)
    (new_front x ns ms σ (and_right (fresh n ρ) rest h))

pub new_behind : (x ns ms : List ℕ) (ρ : Numbering) → AreNew x (ns ++ ms) ρ → AreNew x ms (under x ns ρ)
new_behind x [] ms ρ h = h
new_behind x (n ∷ ns) ms ρ h =
    let σ : Numbering = ρ ++ (x, n) ∷ [] in
    let rest : Bool = all_fresh (map (λ n. x) (ns ++ ms)) (ns ++ ms) σ in
    new_behind x ns ms σ (and_right (fresh n ρ) rest h)

-- ---- the numbers of paths

abbrev pub numbers_of : List Level → List ℕ
numbers_of ls = map (λ l. l.number) ls

pub path_new : {ρ : Numbering} {x ns : List ℕ} {n : ℕ} {es : List Expr} {ts : List Ty} {ls : List Level} {k : Ker}
    {us : List Ty} → PathTyped ρ x ns n es ts ls k us → AreNew x (ns ++ numbers_of ls) ρ
path_new (right_side ρ x ns e k ts us f d) = subst (λ z. AreNew x z ρ) (sym (append-nil ns)) f
path_new (one_level ρ x ns n e es l ls k ts us vs d1 d2) =
    subst (λ z. AreNew x z ρ) (append_assoc ns (l.number ∷ []) (numbers_of ls)) (path_new d2)

pub path_fresh : {ρ : Numbering} {x ns : List ℕ} {n : ℕ} {es : List Expr} {ts : List Ty} {ls : List Level} {k : Ker}
    {us : List Ty} → PathTyped ρ x ns n es ts ls k us → are_fresh (numbers_of ls) ρ ≡ true
path_fresh {ρ = ρ} {x = x} {ns = ns} {ls = ls} d =
    and_right (are_fresh ns ρ) (are_fresh (numbers_of ls) ρ)
    (sym (list_all-append (λ n. fresh n ρ) ns (numbers_of ls)) ∙ new_fresh x (ns ++ numbers_of ls) ρ (path_new d))

-- the two numbers of the node, of which the second one differs from those of the path
pub path_apart : {ρ : Numbering} {x : List ℕ} {u m n : ℕ} {es : List Expr} {ts : List Ty} {ls : List Level} {k : Ker}
    {us : List Ty} → PathTyped ρ x (u ∷ m ∷ []) n es ts ls k us →
    (nat_eq u m ≡ false) × (list_any (nat_eq m) (numbers_of ls) ≡ false)
path_apart {ρ = ρ} {x = x} {u = u} {m = m} {ls = ls} d =
    let ns : List ℕ = numbers_of ls in
    let h : differ (u ∷ m ∷ ns) ≡ true = all_differ (map (λ n. x) (u ∷ m ∷ ns)) (u ∷ m ∷ ns) ρ (path_new d) in
    let front : Bool = list_any (nat_eq u) (m ∷ ns) in
    let rest : Bool = list_any (nat_eq m) ns in
    let f = not_true front (and_left (not front) (differ (m ∷ ns)) h) in
    let g = and_right (not front) (differ (m ∷ ns)) h in
    (first (nat_eq u m) (list_any (nat_eq u) ns) f, not_true rest (and_left (not rest) (differ ns) g))
  where
    first : (a b : Bool) → (a || b) ≡ false → a ≡ false
    first true b h = absurd (false≢true (sym h))
    first false b h = refl

more_numbers : (ls ms : List Level) → numbers_of (ls ++ ms) ≡ numbers_of ls ++ numbers_of ms
more_numbers [] ms = refl
more_numbers (l ∷ ls) ms = ap (λ z. l.number ∷ z) (more_numbers ls ms)

pub changes_fresh : {ρ : Numbering} {x ns : List ℕ} {cs : List ℕ} {es : List Expr} {ts : List Ty} {ds : List Change}
    {us : List Ty} → ChangesTyped ρ x ns cs es ts ds us → are_fresh (level_numbers ds) ρ ≡ true
changes_fresh (no_changes ρ x ns ts) = refl
changes_fresh (one_change ρ x ns n cs es d ds ts us vs h g) =
    ap (λ z. are_fresh z ρ) (more_numbers d.levels (all_levels ds))
    ∙ list_all-append (λ n. fresh n ρ) (numbers_of d.levels) (level_numbers ds)
    ∙ and_both (are_fresh (numbers_of d.levels) ρ) (are_fresh (level_numbers ds) ρ) (path_fresh h) (changes_fresh g)

pub changes_apart : {ρ : Numbering} {x : List ℕ} {u m : ℕ} {cs : List ℕ} {es : List Expr} {ts : List Ty}
    {ds : List Change} {us : List Ty} → ChangesTyped ρ x (u ∷ m ∷ []) cs es ts ds us →
    list_any (nat_eq m) (level_numbers ds) ≡ false
changes_apart (no_changes _ _ _ ts) = refl
changes_apart {m = m} (one_change _ _ _ n cs es d ds ts us vs h g) =
    ap (list_any (nat_eq m)) (more_numbers d.levels (all_levels ds))
    ∙ list_any-append (nat_eq m) (numbers_of d.levels) (level_numbers ds)
    ∙ (λ i. (path_apart h).1 i || changes_apart g i)

-- the two numbers of a node with an update
pub record TwoNew (u m : ℕ) (ρ : Numbering) : Type 0 where
  pub apart : nat_eq u m ≡ false
  pub unread : fresh u ρ ≡ true
  pub named : fresh m ρ ≡ true

pub two_new : {ρ : Numbering} {x : List ℕ} {u m : ℕ} {cs : List ℕ} {es : List Expr} {ts : List Ty} {d : Change}
    {ds : List Change} {us : List Ty} → ChangesTyped ρ x (u ∷ m ∷ []) cs es ts (d ∷ ds) us → TwoNew u m ρ
two_new {ρ = ρ} {x = x} {u = u} {m = m} (one_change _ _ _ n cs es d ds ts us vs h g) =
    let ms : List ℕ = numbers_of d.levels in
    let f = new_fresh x (u ∷ m ∷ ms) ρ (path_new h) in record {
      apart = (path_apart h).0;
      unread = and_left (fresh u ρ) (are_fresh (m ∷ ms) ρ) f;
      named = and_left (fresh m ρ) (are_fresh ms ρ) (and_right (fresh u ρ) (are_fresh (m ∷ ms) ρ) f);
    }
