-- Environments that have cells of the right sorts: for a child, under more bound numbers, and as a build grows; names that
-- are read.
use Rattle.std.proofs.Common.{◌≡◌, ℕ, ◌<◌, Bool, true, false, IsTrue, List, [], ◌∷◌, ◌++◌, map, zip, length, All, refl, sym, ◌∙◌, ap, subst, arith, ◌+◌, Option, Some, None}
use Rattle.std.specs.Prelude.{nat_eq, slice_get, if◌then◌else◌}
use Rattle.std.proofs.lemmas.List.Elements.{All-append, All-cons, All-nil, All-weaker}
use Rattle.tla_meaning.specs.declared.job.State.{State}
use Rattle.tla_meaning.specs.declared.outcome.Outcome.TheVariants.{Val}
use Rattle.tla_meaning.specs.declared.place.Place.{Place}
use Rattle.tla_meaning.specs.Meaning.{read}
use Rattle.tla_meaning.specs.Scopes.{Scope, find_last, or_else, value_found}
use Rattle.cell_arena.specs.declared.build.Build.{Build}
use Rattle.cell_arena.specs.declared.kinds.CellId.{CellId}
use Rattle.cell_arena.specs.declared.kinds.CellKind.{CellKind}
use Rattle.cell_arena.specs.Cells.{Cells as Arena}
use Rattle.cell_arena.specs.Decode.{decode}
use Rattle.cell_arena.specs.Growth.{Grows}
use Rattle.cell_merge.specs.Sorts.{OfSort}
use Rattle.cell_merge.proofs.Edges.{sort-there}
use Rattle.cell_merge.proofs.SortLaws.{OfSort-later}
use Rattle.kernel_trees.specs.declared.kernel.Ker.{Ker}
use Rattle.kernel_trees.specs.Paths.{mentions}
use Rattle.kernel_trees.specs.Sound.{Context, kind_in}
use Rattle.kernel_trees.specs.Trees.{number_name}
use Rattle.kernel_trees.specs.TypeKinds.{Kind}
use Rattle.typed_cells.specs.KindSorts.{HasSort, OfSorts, sort_of}
use Rattle.expr_rewriter.specs.declared.cell_env.CellEnv.{CellEnv}
use Rattle.expr_rewriter.specs.Environments.{Fits, HoldsEnv, IsThere, bound_cell, is_name, name_cell, next_cell}
use Rattle.expr_rewriter.specs.inner.Settings.{with_bound}
use Rattle.expr_rewriter.proofs.Fitting.{bound_append}

-- ---- names that are read

pub name_reads : (c : Arena) (a : List Bool) (env : CellEnv) (sc : Scope) (s t : State) (i : ℕ) (primed : Bool) (id : CellId) (p : Place) →
    Fits c a env sc s t → name_cell env i primed ≡ Some id → read p i (if primed then t else s) ≡ Val (decode c a id)
name_reads c a env sc s t i true id p f e = ap (value_found p) (f.following i id e)
name_reads c a env sc s t i false id p f e = ap (value_found p) (by (slice_get env.now i) refl e)
  where
    by : (o : Option CellId) → slice_get env.now i ≡ o → or_else o (next_cell env i) ≡ Some id → slice_get s.vals i ≡ Some (decode c a id)
    by None q e = f.rest i q ∙ f.following i id e
    by (Some x) q e = f.current i id (q ∙ e)

pub number_reads : (c : Arena) (a : List Bool) (env : CellEnv) (sc : Scope) (s t : State) (n : ℕ) (id : CellId) (p : Place) →
    Fits c a env sc s t → bound_cell env.bound n ≡ Some id → value_found p (find_last (number_name n) sc.bound) ≡ Val (decode c a id)
number_reads c a env sc s t n id p f e = ap (value_found p) (f.bound n id e)

-- ---- a child, and a tree that reads no more

pub HoldsEnv-child : (ks : List CellKind) (names : List Kind) (c : Context) (k l : Ker) (env : CellEnv) →
    ((i : ℕ) (primed : Bool) → IsTrue (mentions (is_name i primed) l) → IsTrue (mentions (is_name i primed) k)) →
    HoldsEnv ks names c k env → HoldsEnv ks names c l env
HoldsEnv-child ks names c k l env m h = record {
  there = h.there;
  named = λ i primed a q e. h.named i primed a (m i primed q) e;
  numbered = h.numbered;
}

-- ---- more bound numbers

kind_append : (c d : Context) (n : ℕ) → kind_in (c ++ d) n ≡ or_else (kind_in d n) (kind_in c n)
kind_append [] d n = none (kind_in d n)
  where
    none : (o : Option Kind) → o ≡ or_else o None
    none None = refl
    none (Some x) = refl
kind_append (e ∷ c) d n =
    ap (λ (o : Option Kind). or_else o (if nat_eq n e.0 then Some e.1 else None)) (kind_append c d n)
    ∙ assoc (kind_in d n) (kind_in c n) (if nat_eq n e.0 then Some e.1 else None)
  where
    assoc : (x y z : Option Kind) → or_else (or_else x y) z ≡ or_else x (or_else y z)
    assoc None y z = refl
    assoc (Some x) y z = refl

-- the cell of a number and its kind: both are there, and the cell is of the sort, or neither is
abbrev pub Paired : List CellKind → Option Kind → Option CellId → Type 0
Paired ks None None = Unit {0}
Paired ks None (Some id) = ⊥
Paired ks (Some a) o = HasSort ks (sort_of a) o

paired_or : (ks : List CellKind) (o : Option Kind) (q : Option CellId) (b : Bool) (a : Kind) (id : CellId) → Paired ks o q → OfSort ks (sort_of a) id →
    Paired ks (or_else o (if b then Some a else None)) (or_else q (if b then Some id else None))
paired_or ks None None true a id h k = k
paired_or ks None None false a id h k = tt
paired_or ks None (Some x) b a id h k = absurd h
paired_or ks (Some d) None b a id h k = absurd h
paired_or ks (Some d) (Some x) b a id h k = h

pub paired : (ks : List CellKind) (xs : List ℕ) (ms : List Kind) (ids : List CellId) (n : ℕ) → length xs ≡ length ms →
    OfSorts ks (map sort_of ms) ids → Paired ks (kind_in (zip xs ms) n) (bound_cell (zip xs ids) n)
paired ks [] ms ids n h k = tt
paired ks (x ∷ xs) [] ids n h k = absurd (cc)
paired ks (x ∷ xs) (m ∷ ms) [] n h k = absurd k
paired ks (x ∷ xs) (m ∷ ms) (id ∷ ids) n h k =
    paired_or ks (kind_in (zip xs ms) n) (bound_cell (zip xs ids) n) (nat_eq n x) m id (paired ks xs ms ids n (omega arith) k.1) k.0

has_last : (ks : List CellKind) (o q : Option Kind) (u v : Option CellId) (a : Kind) → Paired ks o u →
    (q ≡ Some a → HasSort ks (sort_of a) v) → or_else o q ≡ Some a → HasSort ks (sort_of a) (or_else u v)
has_last ks None q None v a h k e = k e
has_last ks None q (Some id) v a h k e = absurd h
has_last ks (Some d) q None v a h k e = absurd h
has_last ks (Some d) q (Some id) v a h k e = subst (λ x. OfSort ks (sort_of x) id) (some_one d a e) h
  where
    some_one : (x y : Kind) → Some x ≡ Some y → x ≡ y
    some_one x y e = cc

zip_there : (ks : List CellKind) (n : ℕ) (xs : List ℕ) (ms : List Kind) (ids : List CellId) → n ≡ length ks → length xs ≡ length ms →
    OfSorts ks (map sort_of ms) ids → All (λ (e : ℕ × CellId). e.1.index < n) (zip xs ids)
zip_there ks n [] ms ids q h k = All-nil (λ (e : ℕ × CellId). e.1.index < n)
zip_there ks n (x ∷ xs) [] ids q h k = absurd (cc)
zip_there ks n (x ∷ xs) (m ∷ ms) [] q h k = absurd k
zip_there ks n (x ∷ xs) (m ∷ ms) (id ∷ ids) q h k =
    All-cons (λ (e : ℕ × CellId). e.1.index < n) (x, id) (zip xs ids)
    (let lt = sort-there ks (sort_of m) id k.0 in omega arith)
    (zip_there ks n xs ms ids q (omega arith) k.1)

-- the body of a node, in the context of its numbers
pub HoldsEnv-bound : (ks : List CellKind) (names : List Kind) (c : Context) (k : Ker) (env : CellEnv) (xs : List ℕ) (ms : List Kind) (ids : List CellId) →
    length xs ≡ length ms → OfSorts ks (map sort_of ms) ids → HoldsEnv ks names c k env → HoldsEnv ks names (c ++ zip xs ms) k (with_bound env xs ids)
HoldsEnv-bound ks names c k env xs ms ids h o e = record {
  there = record {
    current = e.there.current;
    following = e.there.following;
    bound = All-append (λ (e : ℕ × CellId). e.1.index < length ks) env.bound (zip xs ids) e.there.bound (zip_there ks (length ks) xs ms ids refl h o);
  };
  named = e.named;
  numbered = λ n a q.
      subst (HasSort ks (sort_of a)) (sym (bound_append env.bound (zip xs ids) n))
      (has_last ks (kind_in (zip xs ms) n) (kind_in c n) (bound_cell (zip xs ids) n) (bound_cell env.bound n) a (paired ks xs ms ids n h o)
      (e.numbered n a) (sym (kind_append c (zip xs ms) n) ∙ q));
}

-- ---- growth

HasSort-later : (b c : Build) (a : Kind) (o : Option CellId) → Grows b c → HasSort b.arena.kinds (sort_of a) o → HasSort c.arena.kinds (sort_of a) o
HasSort-later b c a None g h = h
HasSort-later b c a (Some id) g h = OfSort-later b c (sort_of a) id h g

there-later : (m n : ℕ) (o : Option CellId) → m < n + 1 → IsThere m o → IsThere n o
there-later m n None h k = k
there-later m n (Some id) h k = omega arith

pub HoldsEnv-later : (b c : Build) (names : List Kind) (d : Context) (k : Ker) (env : CellEnv) → Grows b c → HoldsEnv b.arena.kinds names d k env →
    HoldsEnv c.arena.kinds names d k env
HoldsEnv-later b c names d k env g h = record {
  there = record {
    current = All-weaker (λ (id : CellId). id.index < length b.arena.kinds) (λ (id : CellId). id.index < length c.arena.kinds)
        (λ id lt. let n = g.longer in omega arith) env.now h.there.current;
    following = All-weaker (IsThere (length b.arena.kinds)) (IsThere (length c.arena.kinds))
        (λ o t. let n = g.longer in there-later (length b.arena.kinds) (length c.arena.kinds) o (omega arith) t) env.next h.there.following;
    bound = All-weaker (λ (e : ℕ × CellId). e.1.index < length b.arena.kinds) (λ (e : ℕ × CellId). e.1.index < length c.arena.kinds)
        (λ e lt. let n = g.longer in omega arith) env.bound h.there.bound;
  };
  named = λ i primed a q e. HasSort-later b c a (name_cell env i primed) g (h.named i primed a q e);
  numbered = λ n a q. HasSort-later b c a (bound_cell env.bound n) g (h.numbered n a q);
}
