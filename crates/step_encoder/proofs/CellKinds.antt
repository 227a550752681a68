-- Cells of the kinds of names.
use Rattle.std.proofs.Common.{◌≡◌, ℕ, zero, suc, ◌<◌, List, [], ◌∷◌, map, length, refl, ◌∙◌, ap, subst, arith}
use Rattle.std.specs.Prelude.{All, Option, Some, slice_get}
use Rattle.std.proofs.lemmas.List.Elements.{All-cons, All-nil}
use Rattle.snowcat_rows.specs.declared.types.Ty.{Ty}
use Rattle.kernel_trees.specs.TypeKinds.{Kind, all_there, kind_of}
use Rattle.cell_arena.specs.declared.build.Build.{Build}
use Rattle.cell_arena.specs.declared.kinds.CellId.{CellId}
use Rattle.cell_arena.specs.declared.kinds.CellKind.{CellKind}
use Rattle.cell_arena.specs.Growth.{Grows}
use Rattle.cell_merge.specs.Sorts.{OfSort}
use Rattle.cell_merge.proofs.Edges.{sort-there}
use Rattle.cell_merge.proofs.SortLaws.{OfSort-later}
use Rattle.typed_cells.specs.KindSorts.{OfSorts, sort_of}
use Rattle.typed_cells.specs.inner.Defaulted.{AreDefaults}
use Rattle.typed_cells.proofs.DefaultCells.{defaults-sorts}
use Rattle.expr_rewriter.specs.declared.cell_env.CellEnv.{CellEnv}
use Rattle.branch_cells.specs.Branches.{AreOfKinds}

abbrev cell_env : List CellId → List (Option CellId) → List (ℕ × CellId) → CellEnv
cell_env a b c = record { now = a; next = b; bound = c }

pub env_is : (env : CellEnv) (a : List CellId) (b : List (Option CellId)) (c : List (ℕ × CellId)) → env.now ≡ a →
    env.next ≡ b → env.bound ≡ c → env ≡ record { now = a; next = b; bound = c }
env_is env a b c e f g =
    ap (λ (x : List CellId). cell_env x env.next env.bound) e
    ∙ (ap (λ (y : List (Option CellId)). cell_env a y env.bound) f ∙ ap (λ (z : List (ℕ × CellId)). cell_env a b z) g)

module _ (ks : List CellKind) where
  pub kinds_there : (names : List Kind) (ids : List CellId) → AreOfKinds ks names ids →
      All (λ id. id.index < length ks) ids
  kinds_there [] [] h = All-nil (λ (id : CellId). id.index < length ks)
  kinds_there [] (id ∷ ids) h = absurd h
  kinds_there (a ∷ as') [] h = absurd h
  kinds_there (a ∷ as') (id ∷ ids) h = All-cons (λ (y : CellId). y.index < length ks) id ids
      (sort-there ks (sort_of a) id h.0) (kinds_there as' ids h.1)

  pub kinds_count : (names : List Kind) (ids : List CellId) → AreOfKinds ks names ids → length ids ≡ length names
  kinds_count [] [] h = refl
  kinds_count [] (id ∷ ids) h = absurd h
  kinds_count (a ∷ as') [] h = absurd h
  kinds_count (a ∷ as') (id ∷ ids) h = ap suc (kinds_count as' ids h.1)

  pub kinds_at : (names : List Kind) (ids : List CellId) (i : ℕ) (a : Kind) (id : CellId) → AreOfKinds ks names ids →
      slice_get names i ≡ Some a → slice_get ids i ≡ Some id →
      OfSort ks (sort_of a) id
  kinds_at [] ids i a id h e f = absurd (none i e)
    where
      none : (i : ℕ) → slice_get [] i ≡ Some a → ⊥
      none zero e = cc
      none (suc i) e = cc
  kinds_at (b ∷ bs) [] i a id h e f = absurd h
  kinds_at (b ∷ bs) (x ∷ xs) zero a id h e f = subst (λ (c : Kind). OfSort ks (sort_of c) id) (same e)
      (subst (OfSort ks (sort_of b)) (same f) h.0)
    where
      same : {X : Type 0} {y z : X} → Some y ≡ Some z → y ≡ z
      same q = cc
  kinds_at (b ∷ bs) (x ∷ xs) (suc i) a id h e f = kinds_at bs xs i a id h.1 e f

  -- there is a cell for each name
  pub kinds_some : (names : List Kind) (ids : List CellId) (i : ℕ) → AreOfKinds ks names ids → i < length names →
      (id : CellId) × (slice_get ids i ≡ Some id)
  kinds_some [] ids i h lt = absurd (omega arith)
  kinds_some (b ∷ bs) [] i h lt = absurd h
  kinds_some (b ∷ bs) (x ∷ xs) zero h lt = (x, refl)
  kinds_some (b ∷ bs) (x ∷ xs) (suc i) h lt = kinds_some bs xs i h.1 (less i (length bs) lt)
    where
      less : (i n : ℕ) → suc i < suc n → i < n
      less i n q = omega (arith, q)

  pub kinds_of_sorts : (names : List Kind) (ids : List CellId) → OfSorts ks (map sort_of names) ids →
      AreOfKinds ks names ids
  kinds_of_sorts [] [] h = tt
  kinds_of_sorts [] (id ∷ ids) h = absurd h
  kinds_of_sorts (a ∷ as') [] h = absurd h
  kinds_of_sorts (a ∷ as') (id ∷ ids) h = (h.0, kinds_of_sorts as' ids h.1)

pub kinds_of_defaults : (b : Build) (ts : List Ty) (names : List Kind) (ids : List CellId) → AreDefaults b ts ids →
    all_there (map kind_of ts) ≡ Some names → AreOfKinds b.arena.kinds names ids
kinds_of_defaults b ts names ids h e = kinds_of_sorts b.arena.kinds names ids (defaults-sorts b ts ids names h e)

pub kinds_later : (b c : Build) (names : List Kind) (ids : List CellId) → Grows b c →
    AreOfKinds b.arena.kinds names ids → AreOfKinds c.arena.kinds names ids
kinds_later b c [] [] g h = tt
kinds_later b c [] (id ∷ ids) g h = absurd h
kinds_later b c (a ∷ as') [] g h = absurd h
kinds_later b c (a ∷ as') (id ∷ ids) g h = (OfSort-later b c (sort_of a) id h.0 g, kinds_later b c as' ids g h.1)
