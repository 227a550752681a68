-- Paths of an EXCEPT whose levels are of the kinds that the choices of their indexes say.
use Rattle.std.proofs.Common.{◌≡◌, ℕ, zero, suc, ◌+◌, Bool, true, false, ◌||◌, List, [], ◌∷◌, ◌++◌, map, take, drop, length, refl, sym, ◌∙◌, ap, subst, Some, None}
use Rattle.std.specs.Prelude.{nat_eq}
use Rattle.std.specs.List.{list_any}
use Rattle.std.proofs.lemmas.List.Folds.{list_all-append}
use Rattle.tla_meaning.specs.declared.expr.Expr.{Expr}
use Rattle.tla_meaning.proofs.Views.{and_left, and_right, false≢true}
use Rattle.snowcat_rows.specs.Types.{Term}
use Rattle.snowcat_rows.specs.Substitutions.{Sub}
use Rattle.snowcat_rows.specs.declared.types.Ty.{Ty}
use Rattle.snowcat_types.specs.declared.waiting.Sight.{Sight}
use Rattle.snowcat_types.specs.declared.waiting.Wait.{Wait}
use Rattle.snowcat_types.specs.declared.waiting.Wait.TheVariants as wait
use Rattle.snowcat_types.specs.Rows.{Scope, Operand, index_types, index_number, reached_after, reached_number, typed_names, plain as plain_operand}
use Rattle.snowcat_types.specs.Typings.{Each}
use Rattle.snowcat_types.specs.Waiting.{waiting_indexes}
use Rattle.kernel_trees.specs.declared.kernel.Ker.{Ker}
use Rattle.kernel_trees.specs.TypeKinds.{Kind, kind_of}
use Rattle.kernel_trees.specs.Sound.{Context, kind_in, literal_of, updated_kind}
use Rattle.kernel_reduction.specs.Making.{pairs_type, RestsTyped}
use Rattle.kernel_reduction.specs.Reduction.{Numbering, fresh, are_fresh}
use Rattle.kernel_reduction.specs.Rows.{Let, Level, Change, all_levels, type_of, op_at}
use Rattle.kernel_reduction.specs.BuildsTyped.{PathTyped, one_level, ChangesTyped, no_changes, one_change}
use Rattle.kernel_reduction.proofs.KindTies.{Ties, tie_one}
use Rattle.kernel_reduction.proofs.KindsOf.{Of}
use Rattle.kernel_reduction.proofs.PathNumbers.{AreNew, under, shadows, new_fresh, numbers_of, path_apart}
use Rattle.kernel_reduction.proofs.RowsDone.{pair_kind}
use Rattle.kernel_reduction.proofs.Shadowed.{Shadows}
use Rattle.kernel_reduction.proofs.SoundChanges.{nested_kind}
use Rattle.kernel_reduction.proofs.SoundExcepts.{PathOf, ChangesOf, all_kinds, RestTypes, Apart, AllApart, AllRests}
use Rattle.kernel_reduction.proofs.SoundMade.{Is}

-- ---- names and numbers

tie_shadowed : (σ τ : Numbering) (bs : Scope) (c : Context) → Shadows σ τ → Ties τ bs c → Ties σ bs c
tie_shadowed σ τ bs c h r = record {
  bound = λ x n q. r.bound x n (sym (h.same x) ∙ q);
  new = λ n q. r.new n (h.new n q);
}

pub last_fresh : (x ns : List ℕ) (n : ℕ) (ρ : Numbering) → AreNew x (ns ++ n ∷ []) ρ → fresh n ρ ≡ true
last_fresh x ns n ρ h =
    and_left (fresh n ρ) true
    (and_right (are_fresh ns ρ) (are_fresh (n ∷ []) ρ)
    (sym (list_all-append (λ n. fresh n ρ) ns (n ∷ [])) ∙ new_fresh x (ns ++ n ∷ []) ρ h))

-- under all numbers of a path, of which the last one has the kind of what the name stands for
pub tie_path : (x ns : List ℕ) (n : ℕ) (ρ : Numbering) (bs : Scope) (c : Context) (y : Term) (a : Kind) →
    AreNew x (ns ++ n ∷ []) ρ → Of y a → Ties ρ bs c →
    Ties (under x (ns ++ n ∷ []) ρ) (bs ++ (x, y) ∷ []) (c ++ (n, a) ∷ [])
tie_path x ns n ρ bs c y a f h r =
    tie_shadowed (under x (ns ++ n ∷ []) ρ) (ρ ++ (x, n) ∷ []) (bs ++ (x, y) ∷ []) (c ++ (n, a) ∷ [])
    (shadows x ns n ρ) (tie_one ρ bs c r n (last_fresh x ns n ρ f) x y a h)

-- ---- what waits along a path

-- the right side, of this type, in which the name stands for what was there
abbrev pub right_operand : List ℕ → Term → Operand
right_operand x y = record { type = y; under = typed_names (x ∷ []) (y ∷ []) }

-- the type of the right side, where so many indexes are to come behind what has the number w
abbrev pub Ends : Sub → ℕ → ℕ → ℕ → ℕ → Term → Type 0
Ends s v w i zero y = y ≡ s.type_of w
Ends s v w i (suc n) y = y ≡ reached_after (λ k. s.type_of (v + k)) i (suc n)

pub next_ends : (s : Sub) (v w i n : ℕ) (y : Term) → Ends s v w i (suc n) y →
    Ends s v (v + reached_number i) (i + 1) n y
next_ends s v w i zero y h = h
next_ends s v w i (suc n) y h = h

pub indexes_long : (a : ℕ → Term) (i n : ℕ) (o : Operand) →
    length (map plain_operand (index_types a i n) ++ o ∷ []) ≡ suc n
indexes_long a i zero o = refl
indexes_long a i (suc n) o = ap suc (indexes_long a (i + 1) n o)

pub each_left : (P : Wait → Type 0) (ws us : List Wait) → Each P (ws ++ us) → Each P ws
each_left P [] us h = tt
each_left P (w ∷ ws) us h = (h.0, each_left P ws us h.1)

pub each_right : (P : Wait → Type 0) (ws us : List Wait) → Each P (ws ++ us) → Each P us
each_right P [] us h = h
each_right P (w ∷ ws) us h = each_right P ws us h.1

-- the right side is not looked at
pub indexes_taken : (v w i n : ℕ) (ks : List Sight) →
    waiting_indexes v w i n (take (suc n) ks) ≡ waiting_indexes v w i n ks
indexes_taken v w i zero ks = refl
indexes_taken v w i (suc n) [] = refl
indexes_taken v w i (suc n) (k ∷ ks) =
    ap (λ z. wait.Apply k.place w (v + index_number i) (v + reached_number i) k.literal ∷ z)
    (indexes_taken v (v + reached_number i) (i + 1) n ks)

pub take_map : {X Y : Type 0} (f : X → Y) (n : ℕ) (xs : List X) → map f (take n xs) ≡ take n (map f xs)
take_map f zero xs = refl
take_map f (suc n) [] = refl
take_map f (suc n) (x ∷ xs) = ap (λ z. f x ∷ z) (take_map f n xs)

pub drop_map : {X Y : Type 0} (f : X → Y) (n : ℕ) (xs : List X) → map f (drop n xs) ≡ drop n (map f xs)
drop_map f zero xs = refl
drop_map f (suc n) [] = refl
drop_map f (suc n) (x ∷ xs) = drop_map f n xs

module _ (names : List Kind) where
  -- ---- the rest of a path, behind a level of number n that leads to a value of kind a

  abbrev pub PathRest : Context → ℕ → Kind → List Level → List Kind → Ker → Type 0
  PathRest c n a [] [] e = Is names (c ++ (n, a) ∷ []) a e
  PathRest c n a (l ∷ ls) (j ∷ js) e =
      (d : Kind) × Is names c j l.index × (updated_kind a j (literal_of (op_at l.index)) ≡ Some d) ×
      (kind_in c l.number ≡ None) × (kind_of l.inner ≡ Some d) × PathRest c l.number d ls js e
  PathRest c n a ls js e = ⊥

  path_of : (c : Context) (n : ℕ) (a : Kind) (l : Level) (ls : List Level) (js : List Kind) (e : Ker) →
      PathRest c n a (l ∷ ls) js e → PathOf names c a (l ∷ ls) js e
  path_of c n a l ls [] e h = absurd h
  path_of c n a l [] (j ∷ []) e h = (h.0, h.1, h.2, h.3, h.5)
  path_of c n a l [] (j ∷ i ∷ js) e h = absurd h.5
  path_of c n a l (m ∷ ls) (j ∷ js) e h =
      (h.0, h.1, h.2, h.3, h.4, path_of c l.number h.0 m ls js e h.5)

  pub path_is : (c : Context) (n : ℕ) (a : Kind) (js : List Kind) {ρ : Numbering} {x ms : List ℕ} {j : ℕ}
      {es : List Expr} {ts : List Ty} {ls : List Level} {k : Ker} {us : List Ty} →
      PathTyped ρ x ms (suc j) es ts ls k us → PathRest c n a ls js k → PathOf names c a ls js k
  path_is c n a js (one_level _ _ _ _ _ _ l ls k _ _ _ _ _) h = path_of c n a l ls js k h

  -- ---- types of pairs

  abbrev pub IndexKinds : List Level → List Kind → Type 0
  IndexKinds [] [] = Unit {0}
  IndexKinds (l ∷ ls) (j ∷ js) = (kind_of (type_of l.index) ≡ Some j) × IndexKinds ls js
  IndexKinds ls js = ⊥

  path_kinds : (c : Context) (a : Kind) (ls : List Level) (js : List Kind) (e : Ker) → PathOf names c a ls js e →
      IndexKinds ls js
  path_kinds c a [] js e h = absurd h
  path_kinds c a (l ∷ []) [] e h = absurd h
  path_kinds c a (l ∷ []) (j ∷ []) e h = (h.1.0, tt)
  path_kinds c a (l ∷ []) (j ∷ i ∷ js) e h = absurd h
  path_kinds c a (l ∷ m ∷ ls) [] e h = absurd h
  path_kinds c a (l ∷ m ∷ ls) (j ∷ js) e h = (h.1.0, path_kinds c h.0 (m ∷ ls) js e h.5)

  kinds_plus : (ls ms : List Level) (js is : List Kind) → IndexKinds ls js → IndexKinds ms is →
      IndexKinds (ls ++ ms) (js ++ is)
  kinds_plus [] ms [] is h g = g
  kinds_plus [] ms (j ∷ js) is h g = absurd h
  kinds_plus (l ∷ ls) ms [] is h g = absurd h
  kinds_plus (l ∷ ls) ms (j ∷ js) is h g = (h.0, kinds_plus ls ms js is h.1 g)

  pub changes_kinds : (c : Context) (a : Kind) (ds : List Change) (jss : List (List Kind)) →
      ChangesOf names c a ds jss → IndexKinds (all_levels ds) (all_kinds jss)
  changes_kinds c a [] [] h = tt
  changes_kinds c a [] (js ∷ jss) h = absurd h
  changes_kinds c a (d ∷ ds) [] h = absurd h
  changes_kinds c a (d ∷ ds) (js ∷ jss) h =
      kinds_plus d.levels (all_levels ds) js (all_kinds jss) (path_kinds c a d.levels js d.right h.0)
      (changes_kinds c a ds jss h.1)

  pub pairs_kind : (k : Ker) (ls : List Level) (a : Kind) (js : List Kind) → kind_of (type_of k) ≡ Some a →
      IndexKinds ls js → kind_of (pairs_type k ls) ≡ Some (nested_kind (a ∷ js))
  pairs_kind k [] a [] q h = q
  pairs_kind k [] a (j ∷ js) q h = absurd h
  pairs_kind k (l ∷ ls) a [] q h = absurd h
  pairs_kind k (l ∷ ls) a (j ∷ js) q h =
      pair_kind (type_of k) (pairs_type l.index ls) a (nested_kind (j ∷ js)) q (pairs_kind l.index ls j js h.0 h.1)

  rest_types : (ls ms : List Level) (js later : List Kind) → IndexKinds ls js → IndexKinds ms later →
      RestsTyped (ls ++ ms) → RestTypes names ls js later
  rest_types [] ms [] later h g r = tt
  rest_types [] ms (j ∷ js) later h g r = absurd h
  rest_types (l ∷ ls) ms [] later h g r = absurd h
  rest_types (l ∷ ls) ms (j ∷ js) later h g r = (
    ap kind_of r.0 ∙ pairs_kind l.index (ls ++ ms) j (js ++ later) h.0 (kinds_plus ls ms js later h.1 g),
    rest_types ls ms js later h.1 g r.1,
  )

  rests_behind : (ls ms : List Level) → RestsTyped (ls ++ ms) → RestsTyped ms
  rests_behind [] ms h = h
  rests_behind (l ∷ ls) ms h = rests_behind ls ms h.1

  pub all_rests : (l : Let) (t : Ty) (c : Context) (a : Kind) (ds : List Change) (jss : List (List Kind)) →
      ChangesOf names c a ds jss → RestsTyped (all_levels ds) → AllRests names l t c ds jss
  all_rests l t c a [] [] h r = tt
  all_rests l t c a [] (js ∷ jss) h r = absurd h
  all_rests l t c a (d ∷ ds) [] h r = absurd h
  all_rests l t c a (d ∷ ds) (js ∷ jss) h r = (
    rest_types d.levels (all_levels ds) js (all_kinds jss) (path_kinds c a d.levels js d.right h.0)
        (changes_kinds c a ds jss h.1) r,
    all_rests l t c a ds jss h.1 (rests_behind d.levels (all_levels ds) r),
  )

  -- ---- the number of what is named

  apart_levels : (n : ℕ) (ls : List Level) → list_any (nat_eq n) (numbers_of ls) ≡ false → Apart names n ls
  apart_levels n [] h = tt
  apart_levels n (l ∷ ls) h =
      let r = none_of (nat_eq n l.number) (list_any (nat_eq n) (numbers_of ls)) h in (r.0, apart_levels n ls r.1)
    where
      none_of : (a b : Bool) → (a || b) ≡ false → (a ≡ false) × (b ≡ false)
      none_of true b h = absurd (false≢true (sym h))
      none_of false b h = (refl, h)

  pub all_apart : {ρ : Numbering} {x : List ℕ} {u n : ℕ} {cs : List ℕ} {es : List Expr} {ts : List Ty}
      {ds : List Change} {us : List Ty} (l : Let) (t : Ty) (c : Context) → l.named ≡ n →
      ChangesTyped ρ x (u ∷ n ∷ []) cs es ts ds us → AllApart names l t c ds
  all_apart l t c q (no_changes _ _ _ ts) = tt
  all_apart l t c q (one_change _ _ _ j cs es d ds ts us vs d1 d2) = (
    subst (λ z. Apart names z d.levels) (sym q) (apart_levels _ d.levels (path_apart d1).1),
    all_apart l t c q d2,
  )
