-- An EXCEPT, as its rows make it, is sound: what stands along a path, and what is read from the pairs that are named.
use Rattle.std.proofs.Common.{◌≡◌, ℕ, Bool, true, false, not, ◌&&◌, true≢false, List, [], ◌∷◌, ◌++◌, map, refl, sym, ◌∙◌, ap, subst, Option, Some, None, if◌then◌else◌}
use Rattle.std.specs.Prelude.{nat_eq}
use Rattle.std.proofs.lemmas.Bool.{eqb-true}
use Rattle.std.proofs.lemmas.List.{append-nil, append_assoc}
use Rattle.tla_values.specs.declared.value.Value.TheOpen as layer
use Rattle.tla_meaning.specs.declared.place.Place.{Place}
use Rattle.tla_meaning.specs.Scopes.{or_else}
use Rattle.tla_meaning.proofs.Laws.{none≢some}
use Rattle.snowcat_rows.specs.declared.types.Ty.{Ty}
use Rattle.kernel_trees.specs.declared.kernel.Ker.{Ker, out-roll-Ker}
use Rattle.kernel_trees.specs.declared.kernel.Ker.TheOpen.{Ker-F}
use Rattle.kernel_trees.specs.declared.kernel.KerOp.{KerOp}
use Rattle.kernel_trees.specs.declared.kernel.KerOp.TheVariants as ker
use Rattle.kernel_trees.specs.TypeKinds.{Kind, Seq, kind_of}
use Rattle.kernel_trees.specs.Sound.{Context, kind_in, literal_of, updated_kind}
use Rattle.kernel_trees.proofs.SoundWider.{Agree, agree_more, kind_append}
use Rattle.kernel_reduction.specs.Rows.{tree, bound, item, pairs, place_of, type_of, op_at, is_literal, is_literal_op, is_nil, Let, Level, Change, changed, all_levels, behind, operand_at, index_at, read_levels, read_changes, except_by_let}
use Rattle.kernel_reduction.proofs.SoundMade.{Is, widened, IsLetOf, let_context, let_is, named_there}
use Rattle.kernel_reduction.proofs.SoundChanges.{PathIs, ChangesAre, changed_is, nested_kind, IndexesAre, pairs_are, RestsAre, operand_is}

-- ---- wider contexts

-- a number of which the first context says nothing
agree_new : (c d : Context) (n : ℕ) (a : Kind) → kind_in c n ≡ None → Agree c d → Agree c (d ++ (n, a) ∷ [])
agree_new c d n a h g m b e = kind_append d ((n, a) ∷ []) m ∙ by (nat_eq m n) refl
  where
    by : (x : Bool) → nat_eq m n ≡ x → or_else (or_else None (if x then Some a else None)) (kind_in d m) ≡ Some b
    by true q = absurd (none≢some (sym h ∙ ap (kind_in c) (sym (eqb-true m n q)) ∙ e))
    by false q = g m b e

-- of all paths
abbrev pub all_kinds : List (List Kind) → List Kind
all_kinds [] = []
all_kinds (js ∷ jss) = js ++ all_kinds jss

module _ (names : List Kind) where
  -- a path as it is built, of a value of kind a: each index has its kind in one context, and leads to a kind; the number
  -- of none of them is bound there
  abbrev pub PathOf : Context → Kind → List Level → List Kind → Ker → Type 0
  PathOf c a (l ∷ []) (j ∷ []) e =
      (d : Kind) × Is names c j l.index × (updated_kind a j (literal_of (op_at l.index)) ≡ Some d) ×
      (kind_in c l.number ≡ None)
      × Is names (c ++ (l.number, d) ∷ []) d e
  PathOf c a (l ∷ m ∷ ls) (j ∷ js) e =
      (d : Kind) × Is names c j l.index × (updated_kind a j (literal_of (op_at l.index)) ≡ Some d) ×
      (kind_in c l.number ≡ None)
      × (kind_of l.inner ≡ Some d) × PathOf c d (m ∷ ls) js e
  PathOf c a ls js e = ⊥

  abbrev pub ChangesOf : Context → Kind → List Change → List (List Kind) → Type 0
  ChangesOf c a [] [] = Unit {0}
  ChangesOf c a (u ∷ us) (js ∷ jss) = PathOf c a u.levels js u.right × ChangesOf c a us jss
  ChangesOf c a us jss = ⊥

  -- ---- without a LET

  path_plain : (c d : Context) (a : Kind) (ls : List Level) (js : List Kind) (e : Ker) → Agree c d →
      PathOf c a ls js e → PathIs names d a ls e
  path_plain c d a [] js e g h = absurd h
  path_plain c d a (l ∷ []) [] e g h = absurd h
  path_plain c d a (l ∷ []) (j ∷ []) e g h = (
    j,
    h.0,
    widened names c d j l.index g h.1,
    h.2,
    widened names (c ++ (l.number, h.0) ∷ []) (d ++ (l.number, h.0) ∷ []) h.0 e
        (agree_more c d ((l.number, h.0) ∷ []) g) h.4,
  )
  path_plain c d a (l ∷ []) (j ∷ i ∷ js) e g h = absurd h
  path_plain c d a (l ∷ m ∷ ls) [] e g h = absurd h
  path_plain c d a (l ∷ m ∷ ls) (j ∷ js) e g h = (
    j,
    h.0,
    widened names c d j l.index g h.1,
    h.2,
    h.4,
    path_plain c (d ++ (l.number, h.0) ∷ []) h.0 (m ∷ ls) js e (agree_new c d l.number h.0 h.3 g) h.5,
  )

  changes_plain : (c : Context) (a : Kind) (us : List Change) (jss : List (List Kind)) → ChangesOf c a us jss →
      ChangesAre names c a us
  changes_plain c a [] jss h = tt
  changes_plain c a (u ∷ us) [] h = absurd h
  changes_plain c a (u ∷ us) (js ∷ jss) h =
      (path_plain c c a u.levels js u.right (λ n b e. e) h.0, changes_plain c a us jss h.1)

  pub except_is : (c : Context) (p : Place) (t : Ty) (f : Ker) (us : List Change) (a : Kind) (jss : List (List Kind)) →
      kind_of t ≡ Some a → Is names c a f →
      ChangesOf c a us jss → Is names c a (changed p t f us)
  except_is c p t f us a jss q h g = changed_is names c p t f us a q h (changes_plain c a us jss g)

  -- ---- with a LET: an index is read, or is the literal that it was

  no_literal : (o : KerOp) → is_literal_op o ≡ false → literal_of o ≡ layer.Bool false
  no_literal (ker.Const v) h = absurd (true≢false h)
  no_literal o h = refl

  root_of : (q : Place) (a : Ty) (o : KerOp) (ks : List Ker) → literal_of (op_at (tree q a o ks [])) ≡ literal_of o
  root_of q a o ks =
      ap (λ (x : Ker-F Ker). literal_of x.op)
      (out-roll-Ker (record { place = q; ty = a; op = o; args = ks; binds = [] }))

  behind_root : (q : Place) (y : Ker) (rs : List Ty) → literal_of (op_at y) ≡ layer.Bool false →
      literal_of (op_at (behind q y rs)) ≡ layer.Bool false
  behind_root q y [] h = h
  behind_root q y (r ∷ rs) h = behind_root q (item q r 2 y) rs (root_of q r (ker.Item 2) (y ∷ []))

  operand_root : (l : Let) (t : Ty) (rs : List Ty) (last : Bool) (k : Ker) →
      literal_of (op_at (operand_at l t rs last k)) ≡ layer.Bool false
  operand_root l t rs true k =
      behind_root (place_of k) (bound (place_of k) t l.named) rs (root_of (place_of k) t (ker.Bound l.named) [])
  operand_root l t rs false k =
      root_of (place_of k) (type_of k) (ker.Item 1) (behind (place_of k) (bound (place_of k) t l.named) rs ∷ [])

  index_is : (c d : Context) (l : Let) (t : Ty) (rs : List Ty) (last : Bool) (k : Ker) (bs : List Kind) (j : Kind)
      (as' : List Kind) → Agree c d → Is names c j k →
      kind_of t ≡ Some (nested_kind (bs ++ j ∷ as')) → kind_in d l.named ≡ Some (nested_kind (bs ++ j ∷ as')) →
      RestsAre names rs bs (j ∷ as') → is_nil as' ≡ last →
      Is names d j (index_at l t rs last k) × (literal_of (op_at (index_at l t rs last k)) ≡ literal_of (op_at k))
  index_is c d l t rs last k bs j as' g h q n r z = by (is_literal k) refl
    where
      by : (b : Bool) → is_literal k ≡ b →
          let i : Ker =
          if b then k else operand_at l t rs last k in Is names d j i × (literal_of (op_at i) ≡ literal_of (op_at k))
      by true y = (widened names c d j k g h, refl)
      by false y = (
        operand_is names d l t rs last k bs j as' q n r z h.0,
        operand_root l t rs last k
            ∙ sym (no_literal (op_at k) y),
      )

  -- types of what follows each of some operands but the last
  abbrev pub RestsMore : List Ty → List Kind → List Kind → Type 0
  RestsMore [] (b ∷ []) as' = Unit {0}
  RestsMore (r ∷ rs) (b ∷ bs) as' = (kind_of r ≡ Some (nested_kind (bs ++ as'))) × RestsMore rs bs as'
  RestsMore rs bs as' = ⊥

  rests_are : (rs : List Ty) (bs as' : List Kind) (r : Ty) → kind_of r ≡ Some (nested_kind as') → RestsMore rs bs as' →
      RestsAre names (rs ++ r ∷ []) bs as'
  rests_are [] [] as' r q h = absurd h
  rests_are [] (b ∷ []) as' r q h = (q, tt)
  rests_are [] (b ∷ x ∷ bs) as' r q h = absurd h
  rests_are (s ∷ rs) [] as' r q h = absurd h
  rests_are (s ∷ rs) (b ∷ bs) as' r q h = (h.0, rests_are rs bs as' r q h.1)

  rests_more : (rs : List Ty) (bs : List Kind) (j : Kind) (as' : List Kind) (r : Ty) →
      kind_of r ≡ Some (nested_kind (j ∷ as')) → RestsMore rs bs (j ∷ as') →
      RestsMore (rs ++ r ∷ []) (bs ++ j ∷ []) as'
  rests_more [] [] j as' r q h = absurd h
  rests_more [] (b ∷ []) j as' r q h = (q, tt)
  rests_more [] (b ∷ x ∷ bs) j as' r q h = absurd h
  rests_more (s ∷ rs) [] j as' r q h = absurd h
  rests_more (s ∷ rs) (b ∷ bs) j as' r q h =
      (h.0 ∙ ap (λ z. Some (nested_kind z)) (sym (append_assoc bs (j ∷ []) as')), rests_more rs bs j as' r q h.1)

  both_nil : {X : Type 0} (xs ys : List X) → is_nil (xs ++ ys) ≡ (is_nil xs && is_nil ys)
  both_nil [] ys = refl
  both_nil (x ∷ xs) ys = refl

  abbrev pub RestTypes : List Level → List Kind → List Kind → Type 0
  RestTypes [] [] later = Unit {0}
  RestTypes (x ∷ xs) (j ∷ js) later = (kind_of x.rest ≡ Some (nested_kind (j ∷ js ++ later))) × RestTypes xs js later
  RestTypes xs js later = ⊥

  abbrev pub Apart : ℕ → List Level → Type 0
  Apart n [] = Unit {0}
  Apart n (x ∷ xs) = (nat_eq n x.number ≡ false) × Apart n xs

  still_there : (d : Context) (m n : ℕ) (a : Kind) (o : Option Kind) → nat_eq m n ≡ false → kind_in d m ≡ o →
      kind_in (d ++ (n, a) ∷ []) m ≡ o
  still_there d m n a o q h =
      kind_append d ((n, a) ∷ []) m ∙ ap (λ b. or_else (or_else None (if b then Some a else None)) (kind_in d m)) q ∙ h

  module _ (l : Let) (t : Ty) (c : Context) where
    path_read : (d : Context) (a : Kind) (rs : List Ty) (bs : List Kind) (more : Bool) (ls : List Level)
        (js later : List Kind) (e : Ker) → Agree c d →
        PathOf c a ls js e → kind_of t ≡ Some (nested_kind (bs ++ (js ++ later))) →
        kind_in d l.named ≡ Some (nested_kind (bs ++ (js ++ later))) →
        RestsMore rs bs (js ++ later) → RestTypes ls js later → Apart l.named ls → is_nil later ≡ not more →
        PathIs names d a (read_levels l t rs more ls) e
    path_read d a rs bs more [] js later e g h q n r u v z = absurd h
    path_read d a rs bs more (x ∷ []) [] later e g h q n r u v z = absurd h
    path_read d a rs bs more (x ∷ []) (j ∷ i ∷ js) later e g h q n r u v z = absurd h
    path_read d a rs bs more (x ∷ []) (j ∷ []) later e g h q n r u v z =
        let y = index_is c d l t (rs ++ x.rest ∷ []) (not more) x.index bs j later g h.1 q n
        (rests_are rs bs (j ∷ later) x.rest u.0 r) z in (
          j,
          h.0,
          y.0,
          ap (updated_kind a j) y.1 ∙ h.2,
          widened names (c ++ (x.number, h.0) ∷ []) (d ++ (x.number, h.0) ∷ []) h.0 e
              (agree_more c d ((x.number, h.0) ∷ []) g) h.4,
        )
    path_read d a rs bs more (x ∷ w ∷ ls) [] later e g h q n r u v z = absurd h
    path_read d a rs bs more (x ∷ w ∷ ls) (j ∷ js) later e g h q n r u v z =
        let y = index_is c d l t (rs ++ x.rest ∷ []) false x.index bs j (js ++ later) g h.1 q n
        (rests_are rs bs (j ∷ js ++ later) x.rest u.0 r) (some js h.5) in
        let moved : nested_kind (bs ++ j ∷ (js ++ later)) ≡ nested_kind ((bs ++ j ∷ []) ++ (js ++ later)) =
        ap nested_kind (sym (append_assoc bs (j ∷ []) (js ++ later))) in (
          j,
          h.0,
          y.0,
          ap (updated_kind a j) y.1 ∙ h.2,
          h.4,
          path_read (d ++ (x.number, h.0) ∷ []) h.0 (rs ++ x.rest ∷ []) (bs ++ j ∷ []) more (w ∷ ls) js later e
              (agree_new c d x.number h.0 h.3 g) h.5
              (q ∙ ap Some moved) (still_there d l.named x.number h.0 _ v.0 n ∙ ap Some moved)
              (rests_more rs bs j (js ++ later) x.rest u.0 r) u.1 v.1 z,
        )
      where
        some : (js : List Kind) → PathOf c h.0 (w ∷ ls) js e → is_nil (js ++ later) ≡ false
        some [] k = absurd (none_at ls k)
          where
            none_at : (ls : List Level) → PathOf c h.0 (w ∷ ls) [] e → ⊥
            none_at [] k = k
            none_at (y ∷ ls) k = k
        some (i ∷ js) k = refl

    abbrev pub AllApart : List Change → Type 0
    AllApart [] = Unit {0}
    AllApart (u ∷ us) = Apart l.named u.levels × AllApart us

    abbrev pub AllRests : List Change → List (List Kind) → Type 0
    AllRests [] [] = Unit {0}
    AllRests (u ∷ us) (js ∷ jss) = RestTypes u.levels js (all_kinds jss) × AllRests us jss
    AllRests us jss = ⊥

    more_all : (rs : List Ty) (bs : List Kind) (ls : List Level) (js later : List Kind) → RestTypes ls js later →
        RestsMore rs bs (js ++ later) →
        RestsMore (rs ++ map (λ x. x.rest) ls) (bs ++ js) later
    more_all rs bs [] [] later h r =
        subst (λ z. RestsMore z (bs ++ []) later) (sym (append-nil rs))
        (subst (λ z. RestsMore rs z later) (sym (append-nil bs)) r)
    more_all rs bs [] (j ∷ js) later h r = absurd h
    more_all rs bs (x ∷ xs) [] later h r = absurd h
    more_all rs bs (x ∷ xs) (j ∷ js) later h r =
        subst (λ z. RestsMore z (bs ++ j ∷ js) later) (append_assoc rs (x.rest ∷ []) (map (λ x. x.rest) xs))
        (subst (λ z. RestsMore ((rs ++ x.rest ∷ []) ++ map (λ x. x.rest) xs) z later) (append_assoc bs (j ∷ []) js)
        (more_all (rs ++ x.rest ∷ []) (bs ++ j ∷ []) xs js later h.1 (rests_more rs bs j (js ++ later) x.rest h.0 r)))

    path_some : (a : Kind) (ls : List Level) (js : List Kind) (e : Ker) → PathOf c a ls js e → is_nil js ≡ false
    path_some a [] js e h = absurd h
    path_some a (x ∷ []) [] e h = absurd h
    path_some a (x ∷ []) (j ∷ js) e h = refl
    path_some a (x ∷ y ∷ ls) [] e h = absurd h
    path_some a (x ∷ y ∷ ls) (j ∷ js) e h = refl

    kinds_nil : (a : Kind) (us : List Change) (jss : List (List Kind)) → ChangesOf c a us jss →
        is_nil (all_kinds jss) ≡ is_nil us
    kinds_nil a [] [] h = refl
    kinds_nil a [] (js ∷ jss) h = absurd h
    kinds_nil a (u ∷ us) [] h = absurd h
    kinds_nil a (u ∷ us) (js ∷ jss) h =
        both_nil js (all_kinds jss) ∙ ap (λ b. b && is_nil (all_kinds jss)) (path_some a u.levels js u.right h.0)

    not_twice : (b : Bool) → not (not b) ≡ b
    not_twice true = refl
    not_twice false = refl

    changes_read : (d : Context) (a : Kind) (rs : List Ty) (bs : List Kind) (us : List Change)
        (jss : List (List Kind)) → Agree c d → ChangesOf c a us jss →
        kind_of t ≡ Some (nested_kind (bs ++ all_kinds jss)) →
        kind_in d l.named ≡ Some (nested_kind (bs ++ all_kinds jss)) →
        RestsMore rs bs (all_kinds jss) → AllRests us jss → AllApart us → ChangesAre names d a (read_changes l t rs us)
    changes_read d a rs bs [] jss g h q n r u v = tt
    changes_read d a rs bs (x ∷ us) [] g h q n r u v = absurd h
    changes_read d a rs bs (x ∷ us) (js ∷ jss) g h q n r u v =
        let moved : nested_kind (bs ++ (js ++ all_kinds jss)) ≡ nested_kind ((bs ++ js) ++ all_kinds jss) =
        ap nested_kind (sym (append_assoc bs js (all_kinds jss))) in (
          path_read d a rs bs (not (is_nil us)) x.levels js (all_kinds jss) x.right g h.0 q n r u.0 v.0
              (kinds_nil a us jss h.1 ∙ sym (not_twice (is_nil us))),
          changes_read d a (rs ++ map (λ x. x.rest) x.levels) (bs ++ js) us jss g h.1 (q ∙ ap Some moved)
              (n ∙ ap Some moved) (more_all rs bs x.levels js (all_kinds jss) u.0 r) u.1 v.1,
        )

  -- the indexes of all paths
  indexes_are : (c : Context) (a : Kind) (ls : List Level) (js later : List Kind) (e : Ker) (more : List Level) →
      PathOf c a ls js e → RestTypes ls js later →
      IndexesAre names c more later → IndexesAre names c (ls ++ more) (js ++ later)
  indexes_are c a [] js later e more h u i = absurd h
  indexes_are c a (x ∷ []) [] later e more h u i = absurd h
  indexes_are c a (x ∷ []) (j ∷ []) later e more h u i = (h.1, u.0, i)
  indexes_are c a (x ∷ []) (j ∷ k ∷ js) later e more h u i = absurd h
  indexes_are c a (x ∷ y ∷ ls) [] later e more h u i = absurd h
  indexes_are c a (x ∷ y ∷ ls) (j ∷ js) later e more h u i =
      (h.1, u.0, indexes_are c h.0 (y ∷ ls) js later e more h.5 u.1 i)

  all_indexes_are : (l : Let) (t : Ty) (c : Context) (a : Kind) (us : List Change) (jss : List (List Kind)) →
      ChangesOf c a us jss → AllRests l t c us jss →
      IndexesAre names c (all_levels us) (all_kinds jss)
  all_indexes_are l t c a [] [] h u = tt
  all_indexes_are l t c a [] (js ∷ jss) h u = absurd h
  all_indexes_are l t c a (x ∷ us) [] h u = absurd h
  all_indexes_are l t c a (x ∷ us) (js ∷ jss) h u =
      indexes_are c a x.levels js (all_kinds jss) x.right (all_levels us) h.0 u.0
      (all_indexes_are l t c a us jss h.1 u.1)

  pub except_by_let_is : (c : Context) (p : Place) (l : Let) (t : Ty) (f : Ker) (us : List Change) (a : Kind)
      (jss : List (List Kind)) →
      IsLetOf names l a (nested_kind (a ∷ all_kinds jss)) → kind_of t ≡ Some (nested_kind (a ∷ all_kinds jss)) →
      kind_in c l.unread ≡ None → kind_in c l.named ≡ None → is_nil us ≡ false → Is names c a f →
      ChangesOf c a us jss → AllRests l t c us jss → AllApart l t c us →
      Is names c a (except_by_let p l t f us)
  except_by_let_is c p l t f us a jss q r m n z h g u v =
      let whole : Kind = nested_kind (a ∷ all_kinds jss) in
      let d : Context = let_context names c l a whole in
      let wider : Agree c d = subst (Agree c) (append_assoc c ((l.unread, Seq a) ∷ []) ((l.named, whole) ∷ []))
      (agree_new c (c ++ (l.unread, Seq a) ∷ []) l.named whole n (agree_new c c l.unread (Seq a) m (λ n b e. e))) in
      let_is names c p l (pairs p t f (all_levels us))
      (changed p l.type (operand_at l t [] false f) (read_changes l t [] us)) a whole q
      (pairs_are names c p t f (all_levels us) a (all_kinds jss) r h (all_indexes_are l t c a us jss g u))
      (changed_is names d p l.type (operand_at l t [] false f) (read_changes l t [] us) a q.type
      (operand_is names d l t [] false f [] a (all_kinds jss) r (named_there names c l a whole) tt
      (kinds_nil l t c a us jss g ∙ z) h.0)
      (changes_read l t c d a [] (a ∷ []) us jss wider g r (named_there names c l a whole) tt u v))
