-- An EXCEPT whose children are built each in its setting is built by its row.
use Rattle.std.proofs.Common.{◌≡◌, ℕ, zero, suc, ◌+◌, ◌-◌, ◌<◌, Bool, true, false, not, ◌&&◌, true≢false, List, [], ◌∷◌, ◌++◌, map, length, take, drop, refl, sym, ◌∙◌, ap, ap₂, subst, Option, None, if◌then◌else◌, length-append, arith}
use Rattle.std.specs.Prelude.{nat_eq, nat_lt, replicate}
use Rattle.std.specs.List.{list_all}
use Rattle.std.proofs.lemmas.List.{append-nil}
use Rattle.std.proofs.Math.Seq.{take-append_seam, drop-append_seam}
use Rattle.tla_meaning.specs.declared.actions.Assignable.{Assignable}
use Rattle.tla_meaning.specs.declared.expr.Expr.{Expr}
use Rattle.tla_meaning.specs.declared.op.Op.TheVariants as op
use Rattle.tla_meaning.specs.declared.place.Place.{Place}
use Rattle.snowcat_rows.specs.declared.types.Ty.{Ty}
use Rattle.kernel_trees.specs.declared.kernel.Ker.{Ker}
use Rattle.kernel_reduction.specs.Reduction.{Numbering, all_fresh, numbered, upward}
use Rattle.kernel_reduction.specs.Rows.{Level, Change, all_plain, changed, except_by_let, indexes, all_levels}
use Rattle.kernel_reduction.specs.Making.{let_of, pairs_type, AllLead, RestsTyped}
use Rattle.kernel_reduction.specs.BuildsTyped.{BuildsTyped, PathTyped, right_side, one_level, ChangesTyped, no_changes, one_change, TypedNode, except, except_let}
use Rattle.kernel_reduction.specs.inner.Settings.{AreBuilt, ChildrenBuilt, counted, numbers_at, positions, scopes}
use Rattle.kera_reducer.specs.inner.Excepts.{operands_of, AreNumbered, AllNumbered, IsExceptOf, are_paths, except_tree}
use Rattle.kera_reducer.proofs.Children.{parted}
use Rattle.kernel_reduction.proofs.Counting.{all_new, numbered_up}

-- ---- numbers of a path

upward_snoc : (n k m : ℕ) → m ≡ n + k → upward n (suc k) ≡ upward n k ++ m ∷ []
upward_snoc n zero m h = let e : n ≡ m = omega (arith, h) in ap (λ z. z ∷ []) e
upward_snoc n (suc k) m h = let e : m ≡ suc n + k = omega (arith, h) in ap (λ z. n ∷ z) (upward_snoc (suc n) k m e)

same_names : (x : List ℕ) (n k : ℕ) → map (λ m. x) (upward n k) ≡ replicate k x
same_names x n zero = refl
same_names x n (suc k) = ap (λ z. x ∷ z) (same_names x (suc n) k)

so_many : (x : List ℕ) (k : ℕ) → length (replicate k x) ≡ k
so_many x zero = refl
so_many x (suc k) = ap suc (so_many x k)

-- ---- numbers of children

in_path : (c : ℕ) (cs : List ℕ) (j : ℕ) → j < c → numbers_at (c ∷ cs) j ≡ 0
in_path c cs j h =
    let e : nat_lt j c ≡ true = grind (arith) in
    ap (λ b. if b then 0 else if nat_eq j c then suc (suc c) else numbers_at cs (j - suc c)) e

at_right : (c : ℕ) (cs : List ℕ) → numbers_at (c ∷ cs) c ≡ suc (suc c)
at_right c cs =
    let e : nat_lt c c ≡ false = grind (arith) in
    let d : nat_eq c c ≡ true = grind (arith) in
    ap₂ (λ a b. if a then 0 else if b then suc (suc c) else numbers_at cs (c - suc c)) e d

behind_path : (c : ℕ) (cs : List ℕ) (j : ℕ) → numbers_at (c ∷ cs) (suc c + j) ≡ numbers_at cs j
behind_path c cs j =
    let e : nat_lt (suc c + j) c ≡ false = grind (arith) in
    let d : nat_eq (suc c + j) c ≡ false = grind (arith) in
    let r : (suc c + j) - suc c ≡ j = omega arith in
    ap₂ (λ a b. if a then 0 else if b then suc (suc c) else numbers_at cs ((suc c + j) - suc c)) e d
    ∙ ap (numbers_at cs) r

and_left : (a b : Bool) → (a && b) ≡ true → a ≡ true
and_left true b h = refl
and_left false b h = absurd (true≢false (sym h))

and_right : (a b : Bool) → (a && b) ≡ true → b ≡ true
and_right true b h = h
and_right false b h = absurd (true≢false (sym h))

change_of : (ρ : Numbering) (x ns : List ℕ) (c : ℕ) (cs : List ℕ) (es : List Expr) (d : Change) (ds : List Change)
    (ts us vs : List Ty) → not (nat_eq c 0) ≡ true →
    PathTyped ρ x ns c (take (suc c) es) ts d.levels d.right us → ChangesTyped ρ x ns cs (drop (suc c) es) us ds vs →
    ChangesTyped ρ x ns (c ∷ cs) es ts (d ∷ ds) vs
change_of ρ x ns zero cs es d ds ts us vs z p h = absurd (true≢false (sym z))
change_of ρ x ns (suc n) cs es d ds ts us vs z p h = one_change ρ x ns n cs es d ds ts us vs p h

module _ (names : List (List ℕ)) (x : List ℕ) where
  -- the name with all numbers of a path
  path_names : (k : ℕ) (ns : List ℕ) → ns ≡ upward (length names) k →
      (all_fresh (map (λ n. x) ns) ns (counted names) ≡ true)
      × (numbered (map (λ n. x) ns) ns (counted names) ≡ counted (names ++ replicate k x))
  path_names k ns h =
      let list : map (λ n. x) ns ≡ replicate k x = ap (map (λ n. x)) h ∙ same_names x (length names) k in
      let numbers : ns ≡ upward (length names) (length (replicate k x)) =
      h ∙ ap (upward (length names)) (sym (so_many x k)) in (
        ap₂ (λ xs ms. all_fresh xs ms (counted names)) list numbers ∙ all_new names (replicate k x),
        ap₂ (λ xs ms. numbered xs ms (counted names)) list numbers ∙ numbered_up names (replicate k x),
      )

  module _ (f : ℕ → Option Assignable) (at_value : (m : ℕ) → f m ≡ None) (g : ℕ → List (List ℕ)) where
    value_here : (n : ℕ) (here : List (List ℕ)) (e : Expr) (ts : List Ty) (k : Ker) (us : List Ty) → g n ≡ here →
        BuildsTyped (f n) (counted (g n)) e ts k us → BuildsTyped None (counted here) e ts k us
    value_here n here e ts k us q d =
        subst (λ z. BuildsTyped z (counted here) e ts k us) (at_value n)
        (subst (λ z. BuildsTyped (f n) (counted z) e ts k us) q d)

    -- the rest of a path, behind so many indexes
    path_built : (i m : ℕ) (ns : List ℕ) → ns ≡ upward (length names) (suc (suc i)) → (ls : List Level) →
        AreNumbered (length names + suc (suc i)) ls → ((j : ℕ) → j < length ls → g (m + j) ≡ names) →
        g (m + length ls) ≡ names ++ replicate (suc (suc (i + length ls))) x → (es : List Expr) (ts : List Ty)
        (k : Ker) (us : List Ty) → AreBuilt f g m es ts (map (λ l. l.index) ls ++ k ∷ []) us →
        PathTyped (counted names) x ns (length ls) es ts ls k us
    path_built i m ns h [] a q r [] ts k us b = absurd b
    path_built i m ns h [] a q r (e ∷ d ∷ es) ts k us b = absurd b.2
    path_built i m ns h [] a q r (e ∷ []) ts k us b =
        let here : g m ≡ names ++ replicate (suc (suc i)) x =
        let p : m ≡ m + 0 = omega arith in
        let z : i + 0 ≡ i = omega arith in
        ap g p ∙ r ∙ ap (λ n. names ++ replicate (suc (suc n)) x) z in
        let all = path_names (suc (suc i)) ns h in
        right_side (counted names) x ns e k ts us all.0
        (subst (λ z. BuildsTyped None z e ts k us) (sym all.1)
        (subst (λ z. BuildsTyped None (counted (names ++ replicate (suc (suc i)) x)) e ts k z) b.2
        (value_here m (names ++ replicate (suc (suc i)) x) e ts k b.0 here b.1)))
    path_built i m ns h (l ∷ ls) a q r [] ts k us b = absurd b
    path_built i m ns h (l ∷ ls) a q r (e ∷ es) ts k us b =
        let first : g m ≡ names =
        let p : m ≡ m + 0 = omega arith in
        let lt : 0 < length (l ∷ ls) = omega arith in ap g p ∙ q 0 lt in
        let next : length names + suc (suc (suc i)) ≡ suc (length names + suc (suc i)) = omega arith in
        one_level (counted names) x ns (length ls) e es l ls k ts b.0 us
        (value_here m names e ts l.index b.0 first b.1)
        (path_built (suc i) (suc m) (ns ++ l.number ∷ [])
        (ap (λ z. z ++ l.number ∷ []) h ∙ sym (upward_snoc (length names) (suc (suc i)) l.number a.0)) ls
        (subst (λ z. AreNumbered z ls) (sym next) a.1)
        (λ j lt. let p : suc m + j ≡ m + suc j = omega arith in
        let within : suc j < length (l ∷ ls) = omega (arith, lt) in ap g p ∙ q (suc j) within)
        (let p : suc m + length ls ≡ m + length (l ∷ ls) = omega arith in
        let z : i + length (l ∷ ls) ≡ suc i + length ls = omega arith in
        ap g p ∙ r ∙ ap (λ n. names ++ replicate (suc (suc n)) x) z) es b.0 k us b.2)

    parts_of_levels : (d : Change) → length (map (λ l. l.index) d.levels ++ d.right ∷ []) ≡ suc (length d.levels)
    parts_of_levels d = length-append (map (λ l. l.index) d.levels) (d.right ∷ []) ∙ by d.levels
      where
        by : (ls : List Level) → length (map (λ l. l.index) ls) + 1 ≡ suc (length ls)
        by [] = refl
        by (l ∷ ls) = let e = by ls in omega (arith, e)

    -- all updates, behind so many children
    changes_built : (m : ℕ) (ds : List Change) →
        list_all (λ c. not (nat_eq c 0)) (map (λ d. length d.levels) ds) ≡ true →
        AllNumbered (suc (suc (length names))) ds →
        ((j : ℕ) → g (m + j) ≡ names ++ replicate (numbers_at (map (λ d. length d.levels) ds) j) x) → (es : List Expr)
        (ts us : List Ty) → AreBuilt f g m es ts (operands_of ds) us →
        ChangesTyped (counted names) x (upward (length names) 2) (map (λ d. length d.levels) ds) es ts ds us
    changes_built m [] z a q [] ts us b =
        subst (λ vs. ChangesTyped (counted names) x (upward (length names) 2) [] [] ts [] vs) b
        (no_changes (counted names) x (upward (length names) 2) ts)
    changes_built m [] z a q (e ∷ es) ts us b = absurd b
    changes_built m (d ∷ ds) z a q es ts us b =
        let c : ℕ = length d.levels in
        let cs : List ℕ = map (λ d. length d.levels) ds in
        let own : List Ker = map (λ l. l.index) d.levels ++ d.right ∷ [] in
        let both = parted f g (suc c) m es ts (own ++ operands_of ds) us b in
        let front : take (suc c) (own ++ operands_of ds) ≡ own =
        ap (λ n. take n (own ++ operands_of ds)) (sym (parts_of_levels d)) ∙ take-append_seam own (operands_of ds) in
        let back : drop (suc c) (own ++ operands_of ds) ≡ operands_of ds =
        ap (λ n. drop n (own ++ operands_of ds)) (sym (parts_of_levels d)) ∙ drop-append_seam own (operands_of ds) in
        let base : length names + 2 ≡ suc (suc (length names)) = omega arith in
        change_of (counted names) x (upward (length names) 2) c cs es d ds ts both.0 us (and_left _ _ z)
        (path_built 0 m (upward (length names) 2) refl d.levels (subst (λ n. AreNumbered n d.levels) (sym base) a.0)
        (λ j lt. q j ∙ ap (λ n. names ++ replicate n x) (in_path c cs j lt) ∙ append-nil names)
        (let n : suc (suc c) ≡ suc (suc (0 + c)) = omega arith in
        q c ∙ ap (λ n. names ++ replicate n x) (at_right c cs ∙ n))
        (take (suc c) es) ts d.right both.0 (subst (λ ks. AreBuilt f g m (take (suc c) es) ts ks both.0) front both.1))
        (changes_built (m + suc c) ds (and_right _ _ z) a.1
        (λ j. let p : (m + suc c) + j ≡ m + (suc c + j) = omega arith in
        ap g p ∙ q (suc c + j) ∙ ap (λ n. names ++ replicate n x) (behind_path c cs j))
        (drop (suc c) es) both.0 us
        (subst (λ ks. AreBuilt f g (m + suc c) (drop (suc c) es) both.0 ks us) back both.2))

-- ---- the node

some_change : (cs : List ℕ) (ds : List Change) → map (λ d. length d.levels) ds ≡ cs → are_paths cs ≡ true →
    (d : Change) × (es : List Change) × (ds ≡ d ∷ es)
some_change cs [] e h = absurd (true≢false (sym (ap are_paths e ∙ h)))
some_change cs (d ∷ ds) e h = (d, ds, refl)

tree_typed : (ρ : Numbering) (p : Place) (t : Ty) (cs : List ℕ) (e : Expr) (es : List Expr) (x : List ℕ) (n : ℕ)
    (f : Ker) (ds : List Change) (ts us vs : List Ty) → map (λ d. length d.levels) ds ≡ cs → are_paths cs ≡ true →
    AllLead t ds → RestsTyped (all_levels ds) → BuildsTyped None ρ e ts f us →
    ChangesTyped ρ x (n ∷ suc n ∷ []) cs es us ds vs →
    TypedNode None ρ p t (op.Except cs) (e ∷ es) (x ∷ []) ts (except_tree p t n f ds) vs
tree_typed ρ p t cs e es x n f ds ts us vs m z l r b c = by (all_plain (indexes ds)) refl
  where
    w : Ty
    w = pairs_type f (all_levels ds)

    by : (v : Bool) → all_plain (indexes ds) ≡ v →
        TypedNode None ρ p t (op.Except cs) (e ∷ es) (x ∷ []) ts
        (if v then changed p t f ds else except_by_let p (let_of t w n (suc n)) w f ds) vs
    by true q =
        let some = some_change cs ds m z in
        subst (λ k. TypedNode None ρ p t (op.Except cs) (e ∷ es) (x ∷ []) ts (changed p t f k) vs) (sym some.2)
        (except ρ p t cs e es x n (suc n) f some.0 some.1 ts us vs (ap (λ z. all_plain (indexes z)) (sym some.2) ∙ q)
        (subst (AllLead t) some.2 l) b (subst (λ z. ChangesTyped ρ x (n ∷ suc n ∷ []) cs es us z vs) some.2 c))
    by false q = except_let ρ p t cs e es x n (suc n) f ds ts us vs q l r b c

pub except_built : (p : Place) (t : Ty) (cs : List ℕ) (names : List (List ℕ)) (es : List Expr) (x : List ℕ)
    (ts : List Ty) (ks : List Ker) (k : Ker) (us : List Ty) → IsExceptOf p t cs (length names) ks k →
    ChildrenBuilt None names (op.Except cs) es (x ∷ []) ts ks us →
    TypedNode None (counted names) p t (op.Except cs) es (x ∷ []) ts k us
except_built p t cs names es x ts ks k us s b =
    by es (subst (λ z. ChildrenBuilt None names (op.Except cs) es (x ∷ []) ts z us) s.parts.children b)
  where
    at : ℕ → List (List ℕ)
    at = scopes names (op.Except cs) (x ∷ [])

    numbers : (j : ℕ) →
        at (1 + j) ≡ names ++ replicate (numbers_at (map (λ d. length d.levels) s.updates) j) x
    numbers j =
        let q : 1 + j ≡ suc j = omega arith in
        ap at q ∙ ap (λ z. names ++ replicate (numbers_at z j) x) (sym s.parts.counts)

    by : (es : List Expr) →
        ChildrenBuilt None names (op.Except cs) es (x ∷ []) ts (s.function ∷ operands_of s.updates) us →
        TypedNode None (counted names) p t (op.Except cs) es (x ∷ []) ts k us
    by [] h = absurd h
    by (e ∷ es) h =
        subst (λ z. TypedNode None (counted names) p t (op.Except cs) (e ∷ es) (x ∷ []) ts z us) (sym s.whole)
        (tree_typed (counted names) p t cs e es x (length names) s.function s.updates ts h.0 us s.parts.counts s.counted
        s.parts.leads s.parts.rests
        (subst (λ z. BuildsTyped None (counted z) e ts s.function h.0) (append-nil names) h.1)
        (subst (λ z. ChangesTyped (counted names) x (upward (length names) 2) z es h.0 s.updates us) s.parts.counts
        (changes_built names x (positions None (op.Except cs) (e ∷ es) (x ∷ [])) (λ m. refl) at 1 s.updates
        (ap (list_all (λ c. not (nat_eq c 0))) s.parts.counts ∙ and_right _ _ s.counted) s.parts.numbers numbers es h.0
        us h.2)))

-- where the node binds one name
pub except_made : (p : Place) (t : Ty) (cs : List ℕ) (n b : ℕ) (ks : List Ker) (k : Ker) → b ≡ 1 →
    IsExceptOf p t cs n ks k → (names : List (List ℕ)) (es : List Expr) (xs : List (List ℕ)) (ts us : List Ty) →
    length names ≡ n → length xs ≡ b → ChildrenBuilt None names (op.Except cs) es xs ts ks us →
    TypedNode None (counted names) p t (op.Except cs) es xs ts k us
except_made p t cs n b ks k one s names es [] ts us d l c = absurd (let e = l ∙ one in omega (arith, e))
except_made p t cs n b ks k one s names es (x ∷ []) ts us d l c =
    except_built p t cs names es x ts ks k us (subst (λ (z : ℕ). IsExceptOf p t cs z ks k) (sym d) s) c
except_made p t cs n b ks k one s names es (x ∷ y ∷ xs) ts us d l c =
    absurd (let e = l ∙ one in omega (arith, e))
