-- The tree of a case is sound, and can be rewritten where its names have cells.
use Rattle.std.proofs.Common.{◌≡◌, ℕ, zero, suc, ◌+◌, ◌<◌, ◌≤◌, Bool, true, false, ◌&&◌, ◌||◌, List, [], ◌∷◌, ◌++◌, IsTrue, map, length, get_or, slice_get, Option, Some, None, option_and_then, refl, sym, ◌∙◌, ap, subst, ap₂, arith, All}
use Rattle.std.specs.List.{list_all}
use Rattle.std.proofs.lemmas.List.Elements.{All-cons, All-nil}
use Rattle.tla_meaning.proofs.Views.{and_left, and_right}
use Rattle.snowcat_rows.specs.TypeTexts.{are_distinct}
use Rattle.cell_arena.specs.declared.build.Build.{Build}
use Rattle.kernel_trees.specs.declared.kernel.Ker.{Ker, out-Ker}
use Rattle.kernel_trees.specs.declared.kernel.KerOp.TheVariants as ker
use Rattle.kernel_trees.specs.declared.system.KerJob.{KerJob}
use Rattle.kernel_trees.specs.Scoped.{scoped}
use Rattle.kernel_trees.specs.Sound.{bound_in, kind_at, children, passes, plain, sound, sound_at, sound_tree}
use Rattle.kernel_trees.specs.Systems.{kinds_of_names, constants_first, parts, sound_job, sound_part, texts_within}
use Rattle.kernel_trees.specs.TypeKinds.{Kind, Truth, is_kind, kind_of}
use Rattle.kernel_trees.proofs.SoundNodes.{sound_out, with_asked}
use Rattle.cell_arena.specs.declared.kinds.CellId.{CellId}
use Rattle.cell_arena.specs.declared.kinds.CellKind.{CellKind}
use Rattle.cell_merge.specs.Sorts.{OfSort}
use Rattle.cell_merge.proofs.SortLaws.{OfSort-later}
use Rattle.snowcat_rows.specs.declared.types.Ty.{Ty}
use Rattle.kernel_trees.specs.TypeKinds.{all_there}
use Rattle.tla_meaning.specs.Scopes.{or_else}
use Rattle.typed_cells.specs.KindSorts.{HasSort, OfSorts, OfType, sort_of}
use Rattle.typed_cells.specs.Known.{IsTextAmong}
use Rattle.rewriting_tests.specs.OfTypes.{OfTypes}
use Rattle.rewriting_tests.proofs.TypedParts.{types-sorts}
use Rattle.cell_arena.specs.Growth.{Grows}
use Rattle.expr_rewriter.specs.declared.cell_env.CellEnv.{CellEnv}
use Rattle.expr_rewriter.specs.Environments.{HoldsEnv, IsThere, name_cell, next_cell}
use Rattle.expr_rewriter.specs.Rewriting.{CanRewrite, texts_in}
use Rattle.function_rewriter.proofs.KnownValues.{texts-later}
use Rattle.rewriting_tests.specs.Cases.{HasCells, HaveKinds, IsSoundIn}
use Rattle.rewriting_tests.specs.inner.Among.{AreAmong}
use Rattle.rewriting_tests.proofs.ValueCells.{type-later}

some-same : {X : Type 0} (x y : X) → Some x ≡ Some y → x ≡ y
some-same x y e = cc

none-some : {X : Type 0} (x : X) → None ≡ Some x → ⊥
none-some x e = absurd (cc)

passed : {X : Type 0} (test : X → Bool) (o : Option X) → IsTrue (passes test o) → (x : X) × ((o ≡ Some x) × IsTrue (test x))
passed test None h = absurd (cc)
passed test (Some x) h = (x, (refl, h))

first-sound : (names : List Kind) (texts : List (List ℕ)) (js : List Ker) (j : Ker) → 1 ≤ length js → j ≡ get_or js 0 j →
    IsTrue (list_all (sound_part names texts) js) → IsTrue (sound names j [] false)
first-sound names texts [] j le e h = absurd (omega (arith, le))
first-sound names texts (x ∷ js) j le e h =
    let part : IsTrue (sound_part names texts x) = and_left (sound_part names texts x) (list_all (sound_part names texts) js) h in
    let tree : IsTrue (sound_tree names x [] false) =
    and_right (is_kind Truth (kind_at x)) (sound_tree names x [] false)
    (and_left (is_kind Truth (kind_at x) && sound_tree names x [] false) (texts_within texts x) part) in
    subst (λ y. IsTrue (sound names y [] false)) (sym e) (and_left (sound names x [] false) (scoped x (bound_in [])) tree)

first-child : (names : List Kind) (ks : List Ker) (a : Kind) (x : Ker) → 1 ≤ length ks → x ≡ get_or ks 0 x →
    IsTrue (plain ker.Equal a [] false (with_asked names ks)) → IsTrue (sound names x [] false)
first-child names [] a x le e h = absurd (omega (arith, le))
first-child names (k ∷ ks) a x le e h =
    let all : IsTrue (children ker.Equal 0 [] false (with_asked names (k ∷ ks))) = and_right _ _ h in
    subst (λ y. IsTrue (sound names y [] false)) (sym e)
    (and_left (sound names k [] false) (children ker.Equal 1 [] false (with_asked names ks)) all)

-- the first child of an equality
equal-child : (names : List Kind) (k x : Ker) → (out-Ker k).op ≡ ker.Equal → 2 ≤ length (out-Ker k).args → x ≡ get_or (out-Ker k).args 0 x →
    IsTrue (sound names k [] false) → IsTrue (sound names x [] false)
equal-child names k x o le e h =
    let z = passed (λ a. sound_at names (out-Ker k).op a (out-Ker k).binds (with_asked names (out-Ker k).args) [] false) (kind_at k)
    (sym (sound_out names k [] false) ∙ h) in
    let p : IsTrue (sound_at names ker.Equal z.0 (out-Ker k).binds (with_asked names (out-Ker k).args) [] false) =
    subst (λ q. IsTrue (sound_at names q z.0 (out-Ker k).binds (with_asked names (out-Ker k).args) [] false)) o z.1.1 in
    first-child names (out-Ker k).args z.0 x (omega (arith, le)) e p

invariants-of : (names : List Kind) (job : KerJob) → IsTrue (list_all (sound_part names job.texts) (parts job)) →
    IsTrue (list_all (sound_part names job.texts) job.invs)
invariants-of names job h =
    let p = sound_part names job.texts in
    let r1 = and_right (p job.cinit) _ h in
    let r2 = and_right (p job.assume) _ r1 in
    let r3 = and_right (p job.init) _ r2 in
    and_right (p job.next) _ r3

pub operand-sound : (job : KerJob) (j x : Ker) → IsTrue (sound_job job) → 1 ≤ length job.invs → j ≡ get_or job.invs 0 j →
    (out-Ker j).op ≡ ker.Equal → 2 ≤ length (out-Ker j).args → x ≡ get_or (out-Ker j).args 0 x → IsSoundIn job x
operand-sound job j x h le e o two f =
    let p = passed (λ names. list_all (sound_part names job.texts) (parts job)) (kinds_of_names job) (and_right _ _ h) in
    record {
      names = p.0;
      kinds = p.1.0;
      sound = equal-child p.0 j x o two f (first-sound p.0 job.texts job.invs j le e (invariants-of p.0 job p.1.1));
    }

-- ---- the cells of the names

sort-of-name : (ks : List CellKind) (as' : List Kind) (ids : List CellId) (i : ℕ) (a : Kind) → OfSorts ks (map sort_of as') ids →
    slice_get as' i ≡ Some a → (id : CellId) × ((slice_get ids i ≡ Some id) × OfSort ks (sort_of a) id)
sort-of-name ks [] ids i a h e = absurd (cc)
sort-of-name ks (b ∷ as') [] i a h e = absurd (h)
sort-of-name ks (b ∷ as') (x ∷ ids) zero a h e = (x, (refl, subst (λ k. OfSort ks (sort_of k) x) (some-same b a e) h.0))
sort-of-name ks (b ∷ as') (x ∷ ids) (suc i) a h e = sort-of-name ks as' ids i a h.1 e

mapped : (ids : List CellId) (i : ℕ) (id : CellId) → slice_get ids i ≡ Some id → slice_get (map Some ids) i ≡ Some (Some id)
mapped [] i id e = absurd (cc)
mapped (x ∷ ids) zero id e = ap (λ o. Some o) e
mapped (x ∷ ids) (suc i) id e = mapped ids i id e

all-there : (ks : List CellKind) (ts : List Ty) (ids : List CellId) → OfTypes ks ts ids → All (λ id. id.index < length ks) ids
all-there ks [] [] h = All-nil _
all-there ks [] (x ∷ ids) h = absurd (h)
all-there ks (t ∷ ts) [] h = absurd (h)
all-there ks (t ∷ ts) (x ∷ ids) h = All-cons (λ id. id.index < length ks) x ids h.0.there (all-there ks ts ids h.1)

all-next : (ks : List CellKind) (ts : List Ty) (ids : List CellId) → OfTypes ks ts ids → All (IsThere (length ks)) (map Some ids)
all-next ks [] [] h = All-nil _
all-next ks [] (x ∷ ids) h = absurd (h)
all-next ks (t ∷ ts) [] h = absurd (h)
all-next ks (t ∷ ts) (x ∷ ids) h = All-cons (IsThere (length ks)) (Some x) (map Some ids) h.0.there (all-next ks ts ids h.1)

named-cell : (ks : List CellKind) (ts : List Ty) (names : List Kind) (env : CellEnv) → all_there (map kind_of ts) ≡ Some names →
    HasCells ks ts env → (i : ℕ) (primed : Bool) (a : Kind) → slice_get names i ≡ Some a → HasSort ks (sort_of a) (name_cell env i primed)
named-cell ks ts names env e h i true a g =
    let z = sort-of-name ks names h.following i a (types-sorts ks ts h.following names h.later e) g in
    let q : next_cell env i ≡ Some z.0 =
    ap (λ l. option_and_then (λ o. o) (slice_get l i)) h.next ∙ ap (λ o. option_and_then (λ o. o) o) (mapped h.following i z.0 z.1.0) in
    subst (HasSort ks (sort_of a)) (sym q) z.1.1
named-cell ks ts names env e h i false a g =
    let z = sort-of-name ks names env.now i a (types-sorts ks ts env.now names h.current e) g in
    subst (HasSort ks (sort_of a)) (sym (ap (λ o. or_else o (next_cell env i)) z.1.0)) z.1.1

holds : (ks : List CellKind) (ts : List Ty) (names : List Kind) (k : Ker) (env : CellEnv) → all_there (map kind_of ts) ≡ Some names →
    HasCells ks ts env → HoldsEnv ks names [] k env
holds ks ts names k env e h = record {
  there = record {
    current = all-there ks ts env.now h.current;
    following = subst (All (IsThere (length ks))) (sym h.next) (all-next ks ts h.following h.later);
    bound = subst (All (λ e. e.1.index < length ks)) (sym h.bound) (All-nil _);
  };
  named = λ i primed a m g. named-cell ks ts names env e h i primed a g;
  numbered = λ n a g. absurd (none-some a g);
}

pub can-rewrite : (b : Build) (job : KerJob) (k : Ker) (env : CellEnv) → IsSoundIn job k → HasCells b.arena.kinds job.names env →
    AreAmong b.arena.texts ([] ∷ texts_in k) → CanRewrite b k env
can-rewrite b job k env s h t = record {
  names = s.names;
  context = [];
  sound = s.sound;
  holds = holds b.arena.kinds job.names s.names k env s.kinds h;
  texts = t;
}

pub have-kinds : (job : KerJob) (k : Ker) (ts : List Ty) → IsSoundIn job k → ts ≡ job.names → HaveKinds ts
have-kinds job k ts s e = record { names = s.names; kinds = ap (λ us. all_there (map kind_of us)) e ∙ s.kinds }

pub texts-among-later : (b c : Build) (xs : List (List ℕ)) → AreAmong b.arena.texts xs → Grows b c → AreAmong c.arena.texts xs
texts-among-later b c xs h g = subst (λ ts. AreAmong ts xs) (sym (texts-later b c g)) h

pub with-empty : (ts us : List (List ℕ)) (x : List ℕ) (k : Ker) → us ≡ ts → x ≡ [] → IsTextAmong ts x → AreAmong ts (texts_in k) →
    AreAmong us ([] ∷ texts_in k)
with-empty ts us x k same e p h =
    subst (λ vs. AreAmong vs ([] ∷ texts_in k)) (sym same)
    (All-cons (IsTextAmong ts) [] (texts_in k) (subst (IsTextAmong ts) e p) h)

pub operand-sound-of : (job : KerJob) (j x : Ker) (js ks : List Ker) → IsTrue (sound_job job) → js ≡ job.invs → 1 ≤ length js → j ≡ get_or js 0 j →
    (out-Ker j).op ≡ ker.Equal → ks ≡ (out-Ker j).args → 2 ≤ length ks → x ≡ get_or ks 0 x → IsSoundIn job x
operand-sound-of job j x js ks h a le e o b two f =
    operand-sound job j x h (subst (λ l. 1 ≤ length l) a le) (subst (λ l. j ≡ get_or l 0 j) a e) o
    (subst (λ l. 2 ≤ length l) b two) (subst (λ l. x ≡ get_or l 0 x) b f)

types-later : (b c : Build) (ts : List Ty) (xs : List CellId) → OfTypes b.arena.kinds ts xs → Grows b c →
    OfTypes c.arena.kinds ts xs
types-later b c [] [] h g = tt
types-later b c [] (x ∷ xs) h g = absurd (h)
types-later b c (t ∷ ts) [] h g = absurd (h)
types-later b c (t ∷ ts) (x ∷ xs) h g = (type-later b c t x h.0 g, types-later b c ts xs h.1 g)

pub has-cells : (b c : Build) (ts : List Ty) (now later : List CellId) (seen : List CellId) (env : CellEnv) → Grows b c →
    OfTypes b.arena.kinds ts now → OfTypes c.arena.kinds ts later → env.now ≡ now → env.next ≡ map Some seen → seen ≡ later →
    env.bound ≡ [] → HasCells c.arena.kinds ts env
has-cells b c ts now later seen env g h l e n s o = record {
  following = later;
  current = subst (OfTypes c.arena.kinds ts) (sym e) (types-later b c ts now h g);
  later = l;
  next = n ∙ ap (map Some) s;
  bound = o;
}
