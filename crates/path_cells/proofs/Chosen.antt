-- The sets of a pick, and the choices of their members, one after the other.
use Rattle.std.proofs.Common.{◌≡◌, ℕ, zero, suc, ◌+◌, ◌<◌, ◌≤◌, List, [], ◌∷◌, ◌++◌, map, take, drop, length, get_or, All, refl, sym, ◌∙◌, ap, subst, arith}
use Rattle.std.specs.Prelude.{Option, Some, None}
use Rattle.std.proofs.lemmas.List.{length-map}
use Rattle.sat_formula.specs.declared.lit.Lit.{Lit}
use Rattle.cell_arena.specs.declared.build.Build.{Build}
use Rattle.cell_arena.specs.declared.kinds.CellId.{CellId}
use Rattle.cell_arena.specs.declared.kinds.CellKind.TheVariants as kind
use Rattle.cell_arena.specs.Cells.{kind_at}
use Rattle.cell_arena.specs.Growth.{Grows}
use Rattle.cell_merge.specs.Picks.{IsSetCell, PicksFrom}
use Rattle.cell_merge.specs.Sorts.{set_of}
use Rattle.cell_merge.proofs.SortLaws.{OfSort-later}
use Rattle.kernel_trees.specs.declared.kernel.Ker.{Ker}
use Rattle.kernel_trees.specs.Paths.{sets}
use Rattle.outcome_cells.specs.declared.cells.Cells.{Cells}
use Rattle.expr_rewriter.specs.declared.cell_env.CellEnv.{CellEnv}
use Rattle.expr_rewriter.specs.Rewriting.{CanRewrite, HasTreeSort, Rewrites}
use Rattle.expr_rewriter.specs.inner.Parts.{AreTrees, CanRewriteAll}
use Rattle.expr_rewriter.proofs.Steps.{can_at, trees_turn}
use Rattle.path_cells.specs.inner.Steps.{HasNoChoice, PicksEach}
use Rattle.path_cells.proofs.FreeChoices.{no_choice_at, picks_more}
use Rattle.path_cells.proofs.Turns.{drop_one, take_drop, take_one}

pub get_map : {X Y : Type 0} (f : X → Y) (xs : List X) (i : ℕ) (d : X) → get_or (map f xs) i (f d) ≡ f (get_or xs i d)
get_map f [] i d = refl
get_map f (x ∷ xs) zero d = refl
get_map f (x ∷ xs) (suc i) d = get_map f xs i d

pub take_past : {X : Type 0} (xs : List X) (n : ℕ) → length xs ≤ n → take n xs ≡ xs
take_past [] zero lt = refl
take_past [] (suc n) lt = refl
take_past (x ∷ xs) zero lt = absurd (omega arith)
take_past (x ∷ xs) (suc n) lt = ap (λ l. x ∷ l) (take_past xs n (omega arith))

module _ (b0 b : Build) (env : CellEnv) (ps : List (ℕ × Ker)) (i : ℕ) (p : ℕ × Ker) (lt : i < length ps) (is : p ≡ get_or ps i p)
    (can : CanRewriteAll b0 env (sets ps)) (g : Grows b0 b) where
  place : p.1 ≡ get_or (sets ps) i p.1
  place = ap (λ (x : ℕ × Ker). x.1) is ∙ sym (get_map (λ (x : ℕ × Ker). x.1) ps i p)

  within : i < length (sets ps)
  within = let e = length-map ps (λ (x : ℕ × Ker). x.1) in omega arith

  all : CanRewriteAll b0 env (take (length (sets ps)) (sets ps))
  all = subst (CanRewriteAll b0 env) (sym (take_past (sets ps) (length (sets ps)) (omega arith))) can

  pub sets_can : CanRewrite b p.1 env
  sets_can = can_at b0 b env env (sets ps) (length (sets ps)) i p.1 within (omega arith) place all g refl

  pub sets_turn : (d : Build) (xs : List Cells) (x : Cells) → Grows b d → AreTrees b env (take i (sets ps)) xs → HasTreeSort d p.1 x →
      Rewrites d p.1 env x → AreTrees d env (take (i + 1) (sets ps)) (xs ++ x ∷ [])
  sets_turn d xs x h t s r =
      trees_turn b0 b d env env (sets ps) xs (length (sets ps)) i p.1 x within (omega arith) place all g h refl t (record { sort = s; rewrites = r })

pub sets_whole : (b : Build) (env : CellEnv) (ps : List (ℕ × Ker)) (n : ℕ) (xs : List Cells) → length ps ≤ n → AreTrees b env (take n (sets ps)) xs →
    AreTrees b env (sets ps) xs
sets_whole b env ps n xs lt t =
    let e = length-map ps (λ (x : ℕ × Ker). x.1) in
    subst (λ l. AreTrees b env l xs) (take_past (sets ps) n (omega arith)) t

-- ---- choices

pub none_of : {X : Type 0} (o : Option X) → ((x : X) → o ≡ Some x → ⊥) → o ≡ None
none_of None h = refl
none_of (Some x) h = absurd (h x refl)

module _ (b0 b : Build) (xs : List Cells) (i : ℕ) (d : Cells) (x : CellId) (lt : i < length xs) (is : x ≡ (get_or xs i d).cell)
    (all : All (λ (x : Cells). IsSetCell b0 x.cell) xs) (g : Grows b0 b) where
  abbrev cells : List CellId
  cells = map (λ (x : Cells). x.cell) xs

  set_old : IsSetCell b0 x
  set_old = subst (IsSetCell b0) (sym is) (all i d lt)

  pub set_here : IsSetCell b x
  set_here = let s = set_old in record { sort = s.sort; is = OfSort-later b0 b (set_of s.sort) x s.is g }

  short : i < length cells
  short = let e = length-map xs (λ (x : Cells). x.cell) in omega arith

  here : get_or cells i d.cell ≡ x
  here = get_map (λ (x : Cells). x.cell) xs i d ∙ sym is

  pub choices_turn : (c : Build) (ids : List CellId) (ls : List Lit) (r : CellId × Lit) → Grows b c → PicksEach b0 b (take i cells) ids ls → PicksFrom b c x r →
      PicksEach b0 c (take (i + 1) cells) (ids ++ r.0 ∷ []) (ls ++ r.1 ∷ [])
  choices_turn c ids ls r h p q =
      subst (λ l. PicksEach b0 c l (ids ++ r.0 ∷ []) (ls ++ r.1 ∷ []))
      (sym (take_one cells i d.cell short ∙ ap (λ y. take i cells ++ y ∷ []) here))
      (picks_more b0 b c (take i cells) x ids ls r p g h set_old q)

  pub choices_none : kind_at b.arena.kinds x ≡ kind.Set [] → HasNoChoice b0 cells
  choices_none e =
      subst (HasNoChoice b0) (sym (whole)) (no_choice_at b0 b (take i cells) x (drop (i + 1) cells) g set_old e)
    where
      whole : cells ≡ take i cells ++ x ∷ drop (i + 1) cells
      whole = sym (take_drop cells i) ∙ ap (λ l. take i cells ++ l) (drop_one cells i d.cell short ∙ ap (λ y. y ∷ drop (i + 1) cells) here)

pub choices_whole : (b0 b : Build) (xs : List Cells) (n : ℕ) (ids : List CellId) (ls : List Lit) → length xs ≤ n →
    PicksEach b0 b (take n (map (λ (x : Cells). x.cell) xs)) ids ls → PicksEach b0 b (map (λ (x : Cells). x.cell) xs) ids ls
choices_whole b0 b xs n ids ls lt p =
    let cells : List CellId = map (λ (x : Cells). x.cell) xs in
    let e = length-map xs (λ (x : Cells). x.cell) in
    subst (λ l. PicksEach b0 b l ids ls) (take_past cells n (omega arith)) p
