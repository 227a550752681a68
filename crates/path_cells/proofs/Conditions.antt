-- What is asked of a path is asked of its first step, and of the rest behind it.
use Rattle.std.proofs.Common.{◌≡◌, ℕ, Bool, true, false, not, ◌&&◌, IsTrue, List, [], ◌∷◌, ◌++◌, zip, All, refl, sym, ◌∙◌, ap, append_assoc, subst}
use Rattle.std.specs.Prelude.{Option, Some, None, flat_map, nat_eq, slice_get}
use Rattle.std.specs.List.{list_all}
use Rattle.std.proofs.lemmas.Bool.{eqb-true}
use Rattle.std.proofs.lemmas.List.Elements.{All-cons, All-head, All-nil, All-tail}
use Rattle.tla_meaning.specs.Scopes.{or_else}
use Rattle.cell_arena.specs.declared.build.Build.{Build}
use Rattle.cell_arena.specs.declared.kinds.CellId.{CellId}
use Rattle.cell_arena.specs.declared.kinds.CellKind.{CellKind}
use Rattle.cell_merge.specs.Sorts.{OfSort}
use Rattle.kernel_trees.specs.declared.kernel.Ker.{Ker}
use Rattle.kernel_trees.specs.declared.path.AssignedStep.{AssignedStep}
use Rattle.kernel_trees.specs.declared.path.AssignedStep.TheVariants as mark
use Rattle.kernel_trees.specs.Assignments.{assigned_by, open_names, read_by, reads_late}
use Rattle.kernel_trees.specs.Paths.{Marks, mentions, numbers, sets}
use Rattle.kernel_trees.specs.Sound.{Context, is_finite, kind_at, passes, picked_kinds, sound, sound_assigned, sound_guard, sound_pick}
use Rattle.kernel_trees.specs.TypeKinds.{Kind, Set, Truth, is_kind}
use Rattle.kernel_trees.proofs.TypeLaws.{same_is}
use Rattle.typed_cells.specs.KindSorts.{HasSort, sort_of}
use Rattle.typed_cells.specs.Known.{IsTextAmong}
use Rattle.expr_rewriter.specs.declared.cell_env.CellEnv.{CellEnv}
use Rattle.expr_rewriter.specs.Environments.{HoldsEnv, is_name, name_cell, next_cell}
use Rattle.expr_rewriter.specs.Rewriting.{CanRewrite, texts_in}
use Rattle.expr_rewriter.specs.inner.Parts.{CanRewriteAll}
use Rattle.path_walks.specs.Paths.{CanRewritePath, HoldsCells, blank, each_once, is_blank, path_texts}
use Rattle.path_cells.specs.inner.Steps.{CanGuard, CanPick, CanTakeMember}
use Rattle.path_cells.proofs.Wider.{and_first, and_second, mentions_wider}

true_false : true ≡ false → ⊥
true_false e = cc

and_both : (p q : Bool) → p ≡ true → q ≡ true → (p && q) ≡ true
and_both true q e h = h
and_both false q e h = absurd (true_false (sym e))

-- ---- the parts of what is sound

pub guard_sound : (names : List Kind) (c : Context) (k : Ker) (b : Bool) (zs : List AssignedStep) → IsTrue (sound_assigned names c (mark.Guard k b ∷ zs)) →
    IsTrue (sound_guard names c k)
guard_sound names c k b zs h = and_first (sound_guard names c k) (sound_assigned names c zs) h

is_kind_some : (a : Kind) (o : Option Kind) → is_kind a o ≡ true → o ≡ Some a
is_kind_some a None e = absurd (true_false (sym e))
is_kind_some a (Some b) e = ap Some (sym (same_is a b e))

-- the kind of a name
pub record NameKind (names : List Kind) (i : ℕ) (P : Kind → Type 0) : Type 0 where
  pub kind : Kind
  pub is : slice_get names i ≡ Some kind
  pub so : P kind

name_kind : (names : List Kind) (i : ℕ) (test : Kind → Bool) → passes test (slice_get names i) ≡ true → NameKind names i (λ a. test a ≡ true)
name_kind names i test e = by (slice_get names i) refl e
  where
    by : (o : Option Kind) → slice_get names i ≡ o → passes test o ≡ true → NameKind names i (λ a. test a ≡ true)
    by None q e = absurd (true_false (sym e))
    by (Some a) q e = record { kind = a; is = q; so = e }

pub equals_kind : (names : List Kind) (c : Context) (i : ℕ) (e : Ker) (zs : List AssignedStep) → IsTrue (sound_assigned names c (mark.Equals i e ∷ zs)) →
    NameKind names i (λ a. kind_at e ≡ Some a)
equals_kind names c i e zs h =
    let p = and_first (passes (λ a. is_kind a (kind_at e)) (slice_get names i)) (sound names e c false)
    (and_first (passes (λ a. is_kind a (kind_at e)) (slice_get names i) && sound names e c false) (sound_assigned names c zs) h) in
    let r = name_kind names i (λ a. is_kind a (kind_at e)) p in
    record { kind = r.kind; is = r.is; so = is_kind_some r.kind (kind_at e) r.so }

pub among_kind : (names : List Kind) (c : Context) (i : ℕ) (e : Ker) (zs : List AssignedStep) → IsTrue (sound_assigned names c (mark.Among i e ∷ zs)) →
    NameKind names i (λ a. kind_at e ≡ Some (Set a))
among_kind names c i e zs h =
    let front = passes (λ a. is_kind (Set a) (kind_at e)) (slice_get names i) && is_finite e in
    let p = and_first (passes (λ a. is_kind (Set a) (kind_at e)) (slice_get names i)) (is_finite e)
    (and_first front (sound names e c true) (and_first (front && sound names e c true) (sound_assigned names c zs) h)) in
    let r = name_kind names i (λ a. is_kind (Set a) (kind_at e)) p in
    record { kind = r.kind; is = r.is; so = is_kind_some (Set r.kind) (kind_at e) r.so }

-- what is behind a step is sound in some context
pub record Behind (names : List Kind) (zs : List AssignedStep) : Type 0 where
  pub context : Context
  pub sound : IsTrue (sound_assigned names context zs)

pick_rest : (names : List Kind) (c : Context) (ps : List (ℕ × Ker)) (zs : List AssignedStep) (o : Option (List Kind)) →
    passes (λ ms. sound_assigned names (c ++ zip (numbers ps) ms) zs) o ≡ true → Behind names zs
pick_rest names c ps zs None e = absurd (true_false (sym e))
pick_rest names c ps zs (Some ms) e = record { context = c ++ zip (numbers ps) ms; sound = e }

pub step_behind : (names : List Kind) (c : Context) (z : AssignedStep) (zs : List AssignedStep) → IsTrue (sound_assigned names c (z ∷ zs)) → Behind names zs
step_behind names c (mark.Guard k b) zs h = record { context = c; sound = and_second (sound_guard names c k) (sound_assigned names c zs) h }
step_behind names c (mark.Pick ps) zs h =
    pick_rest names c ps zs (picked_kinds ps) (and_second (sound_pick names c ps) (passes (λ ms. sound_assigned names (c ++ zip (numbers ps) ms) zs) (picked_kinds ps)) h)
step_behind names c (mark.Equals i e) zs h =
    record {
      context = c;
      sound = and_second (passes (λ a. is_kind a (kind_at e)) (slice_get names i) && sound names e c false) (sound_assigned names c zs) h;
    }
step_behind names c (mark.Among i e) zs h =
    record {
      context = c;
      sound = and_second ((passes (λ a. is_kind (Set a) (kind_at e)) (slice_get names i) && is_finite e) && sound names e c true) (sound_assigned names c zs) h;
    }

pub sound_behind : (names : List Kind) (c : Context) (front back : List AssignedStep) → IsTrue (sound_assigned names c (front ++ back)) → Behind names back
sound_behind names c [] back h = record { context = c; sound = h }
sound_behind names c (z ∷ zs) back h =
    let r = step_behind names c z (zs ++ back) h in
    sound_behind names r.context zs back r.sound

-- ---- one step

sound_one : (names : List Kind) (c : Context) (z : AssignedStep) (zs : List AssignedStep) → IsTrue (sound_assigned names c (z ∷ zs)) →
    IsTrue (sound_assigned names c (z ∷ []))
sound_one names c (mark.Guard k b) zs h = and_both (sound_guard names c k) true (and_first (sound_guard names c k) (sound_assigned names c zs) h) refl
sound_one names c (mark.Pick ps) zs h =
    and_both (sound_pick names c ps) (passes (λ ms. true) (picked_kinds ps))
    (and_first (sound_pick names c ps) (passes (λ ms. sound_assigned names (c ++ zip (numbers ps) ms) zs) (picked_kinds ps)) h)
    (by (picked_kinds ps) (and_second (sound_pick names c ps) (passes (λ ms. sound_assigned names (c ++ zip (numbers ps) ms) zs) (picked_kinds ps)) h))
  where
    by : (o : Option (List Kind)) → passes (λ ms. sound_assigned names (c ++ zip (numbers ps) ms) zs) o ≡ true → passes (λ ms. true) o ≡ true
    by None e = absurd (true_false (sym e))
    by (Some ms) e = refl
sound_one names c (mark.Equals i e) zs h =
    let p = passes (λ a. is_kind a (kind_at e)) (slice_get names i) && sound names e c false in
    and_both p true (and_first p (sound_assigned names c zs) h) refl
sound_one names c (mark.Among i e) zs h =
    let p = (passes (λ a. is_kind (Set a) (kind_at e)) (slice_get names i) && is_finite e) && sound names e c true in
    and_both p true (and_first p (sound_assigned names c zs) h) refl

known_one : (m : Marks) (z : AssignedStep) (zs : List AssignedStep) → reads_late m [] (z ∷ zs) ≡ true → reads_late m [] (z ∷ []) ≡ true
known_one m (mark.Guard k b) zs h = and_both (not (mentions (open_names m []) k)) true (and_first (not (mentions (open_names m []) k)) (reads_late m [] zs) h) refl
known_one m (mark.Pick ps) zs h =
    let p = list_all (λ k. not (mentions (open_names m []) k)) (sets ps) in
    and_both p true (and_first p (reads_late m [] zs) h) refl
known_one m (mark.Equals i k) zs h =
    and_both (not (mentions (open_names m []) k)) true (and_first (not (mentions (open_names m []) k)) (reads_late m (i ∷ []) zs) h) refl
known_one m (mark.Among i k) zs h =
    and_both (not (mentions (open_names m []) k)) true (and_first (not (mentions (open_names m []) k)) (reads_late m (i ∷ []) zs) h) refl

once_one : (z : AssignedStep) → each_once (flat_map assigned_by (z ∷ [])) ≡ true
once_one (mark.Guard k b) = refl
once_one (mark.Pick ps) = refl
once_one (mark.Equals i e) = refl
once_one (mark.Among i e) = refl

-- ---- texts

module _ {X : Type 0} (P : X → Type 0) where
  pub all_left : (xs ys : List X) → All P (xs ++ ys) → All P xs
  all_left [] ys h = All-nil P
  all_left (x ∷ xs) ys h = All-cons P x xs (All-head P x (xs ++ ys) h) (all_left xs ys (All-tail P x (xs ++ ys) h))

  pub all_right : (xs ys : List X) → All P (xs ++ ys) → All P ys
  all_right [] ys h = h
  all_right (x ∷ xs) ys h = all_right xs ys (All-tail P x (xs ++ ys) h)

flat_append : {X Y : Type 0} (f : X → List Y) (xs ys : List X) → flat_map f (xs ++ ys) ≡ flat_map f xs ++ flat_map f ys
flat_append f [] ys = refl
flat_append f (x ∷ xs) ys = ap (λ l. f x ++ l) (flat_append f xs ys) ∙ sym (append_assoc (f x) (flat_map f xs) (flat_map f ys))

nil_end : {X : Type 0} (xs : List X) → xs ++ [] ≡ xs
nil_end [] = refl
nil_end (x ∷ xs) = ap (λ l. x ∷ l) (nil_end xs)

texts_more : (z : AssignedStep) (zs : List AssignedStep) → path_texts (z ∷ zs) ≡ flat_map texts_in (read_by z) ++ path_texts zs
texts_more z zs = flat_append texts_in (read_by z) (flat_map read_by zs)

module _ (P : List ℕ → Type 0) where
  pub texts_one : (z : AssignedStep) (zs : List AssignedStep) → All P ([] ∷ path_texts (z ∷ zs)) → All P ([] ∷ flat_map texts_in (read_by z))
  texts_one z zs h =
      All-cons P [] (flat_map texts_in (read_by z)) (All-head P [] (path_texts (z ∷ zs)) h)
      (all_left P (flat_map texts_in (read_by z)) (path_texts zs) (subst (All P) (texts_more z zs) (All-tail P [] (path_texts (z ∷ zs)) h)))

  pub texts_rest : (z : AssignedStep) (zs : List AssignedStep) → All P ([] ∷ path_texts (z ∷ zs)) → All P ([] ∷ path_texts zs)
  texts_rest z zs h =
      All-cons P [] (path_texts zs) (All-head P [] (path_texts (z ∷ zs)) h)
      (all_right P (flat_map texts_in (read_by z)) (path_texts zs) (subst (All P) (texts_more z zs) (All-tail P [] (path_texts (z ∷ zs)) h)))

  pub texts_tree : (k : Ker) → All P ([] ∷ flat_map texts_in (k ∷ [])) → All P ([] ∷ texts_in k)
  texts_tree k h = subst (λ l. All P ([] ∷ l)) (nil_end (texts_in k)) h

pub can_one : (b : Build) (env : CellEnv) (z : AssignedStep) (zs : List AssignedStep) → CanRewritePath b env (z ∷ zs) → CanRewritePath b env (z ∷ [])
can_one b env z zs c = record {
  names = c.names;
  context = c.context;
  sound = sound_one c.names c.context z zs c.sound;
  once = once_one z;
  cells = c.cells;
  known = known_one (blank env) z zs c.known;
  texts = subst (λ l. All (IsTextAmong b.arena.texts) ([] ∷ l)) (sym (texts_more z [] ∙ nil_end (flat_map texts_in (read_by z))))
      (texts_one (IsTextAmong b.arena.texts) z zs c.texts);
}

-- ---- the environment of a tree

blank_some : (o : Option CellId) → is_blank o ≡ false → (id : CellId) × (o ≡ Some id)
blank_some None e = absurd (true_false e)
blank_some (Some id) e = (id, refl)

is_open : (env : CellEnv) (i : ℕ) (primed : Bool) → blank env i primed ≡ true → (j : ℕ) (p : Bool) → is_name i primed j p ≡ true →
    open_names (blank env) [] j p ≡ true
is_open env i true e j true h =
    let q : i ≡ j = eqb-true i j (and_first (nat_eq i j) true h) in
    subst (λ k. (blank env k true && true) ≡ true) q (and_both (blank env i true) true e refl)
is_open env i true e j false h = absurd (true_false (sym (and_second (nat_eq i j) false h)))
is_open env i false e j true h = absurd (true_false (sym h))
is_open env i false e j false h =
    let q : i ≡ j = eqb-true i j h in
    subst (λ k. (blank env k false && true) ≡ true) q (and_both (blank env i false) true e refl)

module _ (ks : List CellKind) (names : List Kind) (c : Context) (env : CellEnv) (h : HoldsCells ks names c env) where
  cell_sort : (i : ℕ) (primed : Bool) (a : Kind) (id : CellId) → slice_get names i ≡ Some a → name_cell env i primed ≡ Some id → OfSort ks (sort_of a) id
  cell_sort i true a id n e = h.following i a id n e
  cell_sort i false a id n e = by (slice_get env.now i) refl e
    where
      by : (o : Option CellId) → slice_get env.now i ≡ o → or_else o (next_cell env i) ≡ Some id → OfSort ks (sort_of a) id
      by None q e = h.following i a id n e
      by (Some x) q e = h.current i a id n (q ∙ e)

  pub holds_env : (k : Ker) → not (mentions (open_names (blank env) []) k) ≡ true → HoldsEnv ks names c k env
  holds_env k late = record {
    there = h.there;
    named = λ i primed a m n. by i primed a m n (blank env i primed) refl;
    numbered = h.numbered;
  }
    where
      not_both : (p : Bool) → not p ≡ true → p ≡ true → ⊥
      not_both true e f = true_false (sym e)
      not_both false e f = true_false (sym f)

      has : (i : ℕ) (primed : Bool) (a : Kind) → slice_get names i ≡ Some a → (o : Option CellId) → name_cell env i primed ≡ o → is_blank o ≡ false →
          HasSort ks (sort_of a) o
      has i primed a n None q e = absurd (true_false e)
      has i primed a n (Some id) q e = cell_sort i primed a id n q

      by : (i : ℕ) (primed : Bool) (a : Kind) → IsTrue (mentions (is_name i primed) k) → slice_get names i ≡ Some a → (b : Bool) → blank env i primed ≡ b →
          HasSort ks (sort_of a) (name_cell env i primed)
      by i primed a m n true e =
          absurd (not_both (mentions (open_names (blank env) []) k) late
          (mentions_wider (is_name i primed) (open_names (blank env) []) (is_open env i primed e) k m))
      by i primed a m n false e = has i primed a n (name_cell env i primed) refl e

-- ---- what is asked of each kind of step

pub can_guard : (b : Build) (env : CellEnv) (k : Ker) (w : Bool) → CanRewritePath b env (mark.Guard k w ∷ []) → CanGuard b k env
can_guard b env k w c =
    let g = guard_sound c.names c.context k w [] c.sound in
    record {
      can = record {
        names = c.names;
        context = c.context;
        sound = and_second (is_kind Truth (kind_at k)) (sound c.names k c.context false) g;
        holds = holds_env b.arena.kinds c.names c.context env c.cells k (and_first (not (mentions (open_names (blank env) []) k)) true c.known);
        texts = texts_tree (IsTextAmong b.arena.texts) k (texts_one (IsTextAmong b.arena.texts) (mark.Guard k w) [] c.texts);
      };
      kind = is_kind_some Truth (kind_at k) (and_first (is_kind Truth (kind_at k)) (sound c.names k c.context false) g);
    }

pub can_equals : (b : Build) (env : CellEnv) (i : ℕ) (e : Ker) → CanRewritePath b env (mark.Equals i e ∷ []) → CanRewrite b e env
can_equals b env i e c = record {
  names = c.names;
  context = c.context;
  sound = and_second (passes (λ a. is_kind a (kind_at e)) (slice_get c.names i)) (sound c.names e c.context false)
      (and_first (passes (λ a. is_kind a (kind_at e)) (slice_get c.names i) && sound c.names e c.context false) true c.sound);
  holds = holds_env b.arena.kinds c.names c.context env c.cells e (and_first (not (mentions (open_names (blank env) []) e)) true c.known);
  texts = texts_tree (IsTextAmong b.arena.texts) e (texts_one (IsTextAmong b.arena.texts) (mark.Equals i e) [] c.texts);
}

pub can_among : (b : Build) (env : CellEnv) (i : ℕ) (e : Ker) → CanRewritePath b env (mark.Among i e ∷ []) → CanTakeMember b e env
can_among b env i e c =
    let kind = passes (λ a. is_kind (Set a) (kind_at e)) (slice_get c.names i) in
    let s = and_first ((kind && is_finite e) && sound c.names e c.context true) true c.sound in
    let r = among_kind c.names c.context i e [] c.sound in
    record {
      can = record {
        names = c.names;
        context = c.context;
        sound = and_second (kind && is_finite e) (sound c.names e c.context true) s;
        holds = holds_env b.arena.kinds c.names c.context env c.cells e (and_first (not (mentions (open_names (blank env) []) e)) true c.known);
        texts = texts_tree (IsTextAmong b.arena.texts) e (texts_one (IsTextAmong b.arena.texts) (mark.Among i e) [] c.texts);
      };
      member = r.kind;
      is = r.so;
      finite = and_second kind (is_finite e) (and_first (kind && is_finite e) (sound c.names e c.context true) s);
    }

can_sets : (b : Build) (env : CellEnv) (names : List Kind) (c : Context) (h : HoldsCells b.arena.kinds names c env) (ps : List (ℕ × Ker)) →
    list_all (λ (p : ℕ × Ker). sound names p.1 c false) ps ≡ true → list_all (λ k. not (mentions (open_names (blank env) []) k)) (sets ps) ≡ true →
    All (IsTextAmong b.arena.texts) ([] ∷ flat_map texts_in (sets ps)) → CanRewriteAll b env (sets ps)
can_sets b env names c h [] s l t = tt
can_sets b env names c h (p ∷ ps) s l t =
    let first = not (mentions (open_names (blank env) []) p.1) in
    let rest = list_all (λ k. not (mentions (open_names (blank env) []) k)) (sets ps) in
    let none = All-head (IsTextAmong b.arena.texts) [] (flat_map texts_in (sets (p ∷ ps))) t in
    let all = All-tail (IsTextAmong b.arena.texts) [] (flat_map texts_in (sets (p ∷ ps))) t in (
      record {
        names = names;
        context = c;
        sound = and_first (sound names p.1 c false) (list_all (λ (p : ℕ × Ker). sound names p.1 c false) ps) s;
        holds = holds_env b.arena.kinds names c env h p.1 (and_first first rest l);
        texts = All-cons (IsTextAmong b.arena.texts) [] (texts_in p.1) none
            (all_left (IsTextAmong b.arena.texts) (texts_in p.1) (flat_map texts_in (sets ps)) all);
      },
      can_sets b env names c h ps (and_second (sound names p.1 c false) (list_all (λ (p : ℕ × Ker). sound names p.1 c false) ps) s) (and_second first rest l)
          (All-cons (IsTextAmong b.arena.texts) [] (flat_map texts_in (sets ps)) none
          (all_right (IsTextAmong b.arena.texts) (texts_in p.1) (flat_map texts_in (sets ps)) all)),
    )

pub can_pick : (b : Build) (env : CellEnv) (ps : List (ℕ × Ker)) → CanRewritePath b env (mark.Pick ps ∷ []) → CanPick b ps env
can_pick b env ps c =
    let rest = passes (λ ms. sound_assigned c.names (c.context ++ zip (numbers ps) ms) []) (picked_kinds ps) in
    let m = members_of (picked_kinds ps) refl (and_second (sound_pick c.names c.context ps) rest c.sound) in
    record {
      there = c.cells.there;
      can = can_sets b env c.names c.context c.cells ps (and_first (sound_pick c.names c.context ps) rest c.sound)
          (and_first (list_all (λ k. not (mentions (open_names (blank env) []) k)) (sets ps)) true c.known)
          (texts_one (IsTextAmong b.arena.texts) (mark.Pick ps) [] c.texts);
      members = m.0;
      are = m.1;
    }
  where
    members_of : (o : Option (List Kind)) → picked_kinds ps ≡ o → passes (λ ms. sound_assigned c.names (c.context ++ zip (numbers ps) ms) []) o ≡ true →
        (ms : List Kind) × (picked_kinds ps ≡ Some ms)
    members_of None q e = absurd (true_false (sym e))
    members_of (Some ms) q e = (ms, q)
