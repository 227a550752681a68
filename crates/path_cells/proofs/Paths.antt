-- The loop over the steps of a path.
use Rattle.std.proofs.Common.{◌≡◌, ◌⊎◌, inl, inr, ℕ, ◌+◌, ◌<◌, ◌≤◌, Bool, true, false, List, [], ◌∷◌, ◌++◌, take, drop, length, get_or, sym, ◌∙◌, ap, ap₂, subst, arith}
use Rattle.std.specs.List.{list_any}
use Rattle.sat_formula.specs.declared.cnf.Cnf.{Cnf}
use Rattle.sat_formula.specs.Formula.{Satisfies}
use Rattle.sat_formula.specs.Lit.{lit_value, top_lit}
use Rattle.cell_arena.specs.declared.build.Build.{Build}
use Rattle.cell_arena.specs.Growth.{Grows}
use Rattle.kernel_trees.specs.declared.path.AssignedStep.{AssignedStep}
use Rattle.expr_rewriter.specs.declared.cell_env.CellEnv.{CellEnv}
use Rattle.path_walks.specs.declared.answer.PathCells.{PathCells}
use Rattle.path_walks.specs.declared.answer.StepCells.{StepCells}
use Rattle.path_walks.specs.Paths.{AreBelow, CanRewritePath, HasNextSorts, IsPathCells}
use Rattle.path_walks.specs.inner.Walks.{AddsLiterals, env_past, items_past}
use Rattle.path_cells.specs.declared.walk.Walk.{Walk}
use Rattle.path_cells.specs.inner.Steps.{IsStepCells, is_never}
use Rattle.path_cells.specs.inner.Walking.{Adds, CanAdd, CanGoOn, IsPast, IsWalking, Turn, takes}
use Rattle.path_cells.proofs.Chosen.{take_past}
use Rattle.path_cells.proofs.Shown.{true_false}
use Rattle.path_cells.proofs.Turns.{can_go_on, drop_one, take_drop, take_one, walking_turn}

-- ---- a step with its cells

-- the literals of a path are those of the same path with other items
pub same_literals : (f : Cnf) (m : StepCells) (x y z : PathCells) → AddsLiterals f m x y → z.holds ≡ y.holds → z.wrong ≡ y.wrong → z.big ≡ y.big →
    AddsLiterals f m x z
same_literals f m x y z h p q r = record {
  holds = record { below = subst (λ l. l.var < f.vars) (sym p) h.holds.below; value = λ a s. ap (λ l. lit_value l a) p ∙ h.holds.value a s };
  wrong = record { below = subst (λ l. l.var < f.vars) (sym q) h.wrong.below; value = λ a s. ap (λ l. lit_value l a) q ∙ h.wrong.value a s };
  big = record { below = subst (λ l. l.var < f.vars) (sym r) h.big.below; value = λ a s. ap (λ l. lit_value l a) r ∙ h.big.value a s };
}

pub past_adds : (f : Cnf) (z : AssignedStep) (m : StepCells) (u w v : Walk) → list_any is_never m.choices ≡ false → AddsLiterals f m u.cells w.cells →
    w.cells.next ≡ u.cells.next → w.env ≡ u.env → IsPast z m.cells w v → Adds f z m u v
past_adds f z m u w v calm lits next env past =
    let holds : v.cells.holds ≡ w.cells.holds = ap (λ (x : PathCells). x.holds) past.cells in
    takes calm
    (same_literals f m u.cells w.cells v.cells lits holds (ap (λ (x : PathCells). x.wrong) past.cells) (ap (λ (x : PathCells). x.big) past.cells))
    (past.env ∙ ap (env_past z m.cells) env)
    (ap (λ (x : PathCells). x.next) past.cells ∙ ap₂ (λ l xs. items_past z m.cells l xs) (sym holds) next)

-- ---- what is asked of a step

pub can_take : (b : Build) (u : Walk) (z : AssignedStep) → CanGoOn b u z → is_never u.cells.holds ≡ false → CanRewritePath b u.env (z ∷ [])
can_take b u z c e = by c.can
  where
    by : (is_never u.cells.holds ≡ true) ⊎ CanRewritePath b u.env (z ∷ []) → CanRewritePath b u.env (z ∷ [])
    by (inl q) = absurd (true_false (sym q ∙ e))
    by (inr p) = p

pub can_add : (g i : Build) (u : Walk) (z : AssignedStep) (m : StepCells) → AreBelow g u.cells → Grows g i → IsStepCells g i u.env z m →
    CanAdd i.formula.vars u m
can_add g i u z m b gr s = record {
  path = record {
    holds = let lt = b.holds in let v = gr.formula.vars in omega arith;
    wrong = let lt = b.wrong in let v = gr.formula.vars in omega arith;
    big = let lt = b.big in let v = gr.formula.vars in omega arith;
  };
  step = record { faults = s.step.faults_below; choices = s.step.choices_below };
}

-- ---- the loop

module _ (old : Build) (start : CellEnv) (steps : List AssignedStep) (can : CanRewritePath old start steps)
    (forced : (a : List Bool) → Satisfies a old.formula → lit_value top_lit a ≡ true) where
  module _ (g : Build) (i : ℕ) (z : AssignedStep) (lt : i < length steps) (is : z ≡ get_or steps i z) (u : Walk)
      (W : IsWalking old g start (take i steps) (drop i steps) u) where
    here : drop i steps ≡ z ∷ drop (i + 1) steps
    here = drop_one steps i z lt ∙ ap (λ y. y ∷ drop (i + 1) steps) (sym is)

    whole : steps ≡ take i steps ++ z ∷ drop (i + 1) steps
    whole = sym (take_drop steps i) ∙ ap (λ l. take i steps ++ l) here

    can_here : CanRewritePath old start (take i steps ++ z ∷ drop (i + 1) steps)
    can_here = subst (CanRewritePath old start) whole can

    walks : IsWalking old g start (take i steps) (z ∷ drop (i + 1) steps) u
    walks = subst (λ l. IsWalking old g start (take i steps) l u) here W

    pub path_go : CanGoOn g u z
    path_go = can_go_on old g g start (take i steps) z (drop (i + 1) steps) u u can_here forced walks

    pub path_turn : (h : Build) (v : Walk) → Turn g h z u v → IsWalking old h start (take (i + 1) steps) (drop (i + 1) steps) v
    path_turn h v t =
        let e : take (i + 1) steps ≡ take i steps ++ z ∷ [] = take_one steps i z lt ∙ ap (λ y. take i steps ++ y ∷ []) (sym is) in
        subst (λ l. IsWalking old h start l (drop (i + 1) steps) v) (sym e)
        (walking_turn old g h start (take i steps) z (drop (i + 1) steps) u v can_here forced walks t)

pub path_cells : (old g : Build) (start : CellEnv) (steps : List AssignedStep) (i : ℕ) (u : Walk) → length steps ≤ i →
    IsWalking old g start (take i steps) (drop i steps) u → IsPathCells old g start steps u.cells
path_cells old g start steps i u le W = subst (λ l. IsPathCells old g start l u.cells) (take_past steps i le) W.walk.cells

pub path_sorts : (old g : Build) (start : CellEnv) (steps : List AssignedStep) (i : ℕ) (u : Walk) →
    IsWalking old g start (take i steps) (drop i steps) u → HasNextSorts g start steps u.cells
path_sorts old g start steps i u W = subst (λ l. HasNextSorts g start l u.cells) (take_drop steps i) W.sorts
