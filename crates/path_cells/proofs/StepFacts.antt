-- Guards and values: what their cells say of the step.
use Rattle.std.proofs.Common.{◌≡◌, ℕ, ◌<◌, Bool, true, false, ◌&&◌, List, [], ◌∷◌, ◌++◌, length, refl, sym, ◌∙◌, ap, subst}
use Rattle.std.specs.Prelude.{Some, if◌then◌else◌}
use Rattle.std.specs.List.{list_all}
use Rattle.std.proofs.lemmas.List.Elements.{All-cons, All-head, All-nil}
use Rattle.sat_formula.specs.declared.lit.Lit.{Lit}
use Rattle.sat_formula.specs.Formula.{Satisfies}
use Rattle.sat_formula.specs.Lit.{IsBelow, lit_value}
use Rattle.tla_values.specs.declared.value.Value.TheVariants as value
use Rattle.tla_meaning.specs.declared.job.State.{State}
use Rattle.tla_meaning.specs.declared.outcome.Outcome.TheVariants.{Val}
use Rattle.tla_meaning.specs.Numbers.{Width}
use Rattle.tla_meaning.specs.Operators.{yes_no}
use Rattle.tla_meaning.specs.Scopes.{Scope}
use Rattle.cell_arena.specs.declared.build.Build.{Build}
use Rattle.cell_arena.specs.declared.kinds.CellId.{CellId}
use Rattle.cell_arena.specs.Decode.{decode}
use Rattle.cell_arena.specs.Growth.{Grows}
use Rattle.cell_merge.specs.Sorts.{OfSort}
use Rattle.cell_merge.proofs.Edges.{sort-there}
use Rattle.kernel_trees.specs.declared.kernel.Ker.{Ker}
use Rattle.kernel_trees.specs.declared.path.AssignedStep.{AssignedStep}
use Rattle.kernel_trees.specs.declared.path.AssignedStep.TheVariants as mark
use Rattle.kernel_trees.specs.Assignments.{Has}
use Rattle.kernel_trees.specs.Sound.{kind_at}
use Rattle.kernel_trees.specs.Trees.{ker_val}
use Rattle.kernel_trees.specs.TypeKinds.{Kind}
use Rattle.kernel_ranges.specs.Ranges.{is_within}
use Rattle.outcome_cells.specs.declared.cells.Cells.{Cells}
use Rattle.outcome_cells.specs.declared.cells.Faults.{Faults}
use Rattle.outcome_cells.specs.Shows.{FaultsBelow, Shows, faults_of}
use Rattle.typed_cells.specs.KindSorts.{sort_of}
use Rattle.expr_rewriter.specs.declared.cell_env.CellEnv.{CellEnv}
use Rattle.expr_rewriter.specs.Environments.{AreThere, Fits}
use Rattle.expr_rewriter.specs.inner.Parts.{IsTree}
use Rattle.path_walks.specs.inner.Walks.{IsStep}
use Rattle.path_walks.proofs.Onward.{fits_onward, goes_on, onward_longer}
use Rattle.path_cells.specs.inner.Steps.{IsStepCells, negation}
use Rattle.path_cells.proofs.Shown.{bool_one, fault_shown, tree_shown, true_false, true_wanted, truth_is, value_is, wanted_true}

and_true : (p : Bool) → (p && true) ≡ true → p ≡ true
and_true true e = refl
and_true false e = absurd (true_false (sym e))

and_one : (p : Bool) → p ≡ true → (p && true) ≡ true
and_one true e = refl
and_one false e = absurd (true_false (sym e))

-- the same faults, literals and cells
pub same_step : (g h : Build) (env : CellEnv) (z : AssignedStep) (f f' : Faults) (ls ls' : List Lit) (ids ids' : List CellId) → f ≡ f' → ls ≡ ls' → ids ≡ ids' →
    IsStepCells g h env z (record { faults = f'; choices = ls'; cells = ids' }) → IsStepCells g h env z (record { faults = f; choices = ls; cells = ids })
same_step g h env z f f' ls ls' ids ids' p q r s =
    subst (λ (f : Faults). IsStepCells g h env z (record { faults = f; choices = ls; cells = ids })) (sym p)
    (subst (λ (ls : List Lit). IsStepCells g h env z (record { faults = f'; choices = ls; cells = ids })) (sym q)
    (subst (λ (ids : List CellId). IsStepCells g h env z (record { faults = f'; choices = ls'; cells = ids })) (sym r) s))

module _ (g h : Build) (env : CellEnv) (k : Ker) (x : Cells) (gr : Grows g h) (tree : IsTree h k env x)
    (there : AreThere (length g.arena.kinds) env) (a₀ : Kind) (kind : kind_at k ≡ Some a₀) where
  abbrev w : Width
  w = Some g.arena.width

  below : FaultsBelow h.formula.vars (faults_of x)
  below = let s = tree.sort a₀ kind in record { wrong = s.wrong; big = s.big }

  shown_at : (a : List Bool) → Satisfies a h.formula → (sc : Scope) (s t : State) → Fits h.arena a env sc s t →
      list_all (λ k. is_within w k sc s t) (k ∷ []) ≡ true → Shows h.arena a x (ker_val w k sc s t)
  shown_at a p sc s t f i = tree_shown g h env k x gr tree a p sc s t f (and_true (is_within w k sc s t) i)

  -- ---- a guard

  module _ (c : Bool) (l : Lit) (lt : l.var < h.formula.vars) (bit : (a : List Bool) → decode h.arena a x.cell ≡ value.Bool (lit_value l a)) where
    abbrev literal : Lit
    literal = if c then l else negation l

    literal_below : literal.var < h.formula.vars
    literal_below = by c
      where
        by : (c : Bool) → (if c then l else negation l).var < h.formula.vars
        by true = lt
        by false = lt

    guard_step : IsStep w g h env (mark.Guard k c) (record { faults = faults_of x; choices = literal ∷ []; cells = [] })
    guard_step = record {
      faults_below = below;
      choices_below = All-cons (IsBelow h.formula.vars) literal [] literal_below (All-nil (IsBelow h.formula.vars));
      there = All-nil (λ (id : CellId). id.index < length h.arena.kinds);
      shows = λ a p sc s t f i.
          fault_shown (lit_value x.wrong a) (lit_value x.big a) (decode h.arena a x.cell) (ker_val w k sc s t) (shown_at a p sc s t f i).shown;
      sound = λ a p on nw nb sc s t f i gives.
          let v = value_is (lit_value x.wrong a) (lit_value x.big a) (decode h.arena a x.cell) (ker_val w k sc s t) (shown_at a p sc s t f i).shown nw nb in
          v ∙ ap Val (bit a) ∙ ap yes_no (wanted_true c l a (and_true (lit_value literal a) on));
      reach = λ a n p sc s t f i normal vs takes.
          let q = goes_on g.formula h.formula a gr.formula n p in
          let b = a ++ q.more in
          let fb = fits_onward g a h b (onward_longer g h a q.more gr n) env sc s t there f in
          let v = (shown_at b q.satisfies sc s t fb i).shown.value (value.Bool c) takes in
          record {
            more = q.more;
            long = q.long;
            satisfies = q.satisfies;
            holds = (and_one (lit_value literal b) (true_wanted c l b (bool_one (lit_value l b) c (sym (bit b) ∙ v))), (refl, tt));
          };
      kind = λ a p sc s t f i.
          truth_is (ker_val w k sc s t) (lit_value l a) (λ y e. sym (bit a) ∙ (shown_at a p sc s t f i).shown.value y e);
    }

    pub guard_cells : IsStepCells g h env (mark.Guard k c) (record { faults = faults_of x; choices = literal ∷ []; cells = [] })
    guard_cells = record { step = guard_step; gives = record { one = λ e. tt; sorts = λ e. tt } }

  -- ---- a value

  module _ (i : ℕ) where
    cell_there : x.cell.index < length h.arena.kinds
    cell_there = sort-there h.arena.kinds (sort_of a₀) x.cell (tree.sort a₀ kind).sort

    equals_step : IsStep w g h env (mark.Equals i k) (record { faults = faults_of x; choices = []; cells = x.cell ∷ [] })
    equals_step = record {
      faults_below = below;
      choices_below = All-nil (IsBelow h.formula.vars);
      there = All-cons (λ (id : CellId). id.index < length h.arena.kinds) x.cell [] cell_there (All-nil (λ (id : CellId). id.index < length h.arena.kinds));
      shows = λ a p sc s t f j.
          fault_shown (lit_value x.wrong a) (lit_value x.big a) (decode h.arena a x.cell) (ker_val w k sc s t) (shown_at a p sc s t f j).shown;
      sound = λ a p on nw nb sc s t f j gives. (
        decode h.arena a x.cell,
        (
          value_is (lit_value x.wrong a) (lit_value x.big a) (decode h.arena a x.cell) (ker_val w k sc s t) (shown_at a p sc s t f j).shown nw nb,
          All-head (λ id. Has t i (decode h.arena a id)) x.cell [] gives,
        ),
      );
      reach = λ a n p sc s t f j normal vs takes.
          let q = goes_on g.formula h.formula a gr.formula n p in
          let b = a ++ q.more in
          let fb = fits_onward g a h b (onward_longer g h a q.more gr n) env sc s t there f in
          let v = (shown_at b q.satisfies sc s t fb j).shown.value takes.0 takes.1.0 in
          record {
            more = q.more;
            long = q.long;
            satisfies = q.satisfies;
            holds = (
              refl,
              (
                refl,
                All-cons (λ id. Has t i (decode h.arena b id)) x.cell [] (subst (Has t i) (sym v) takes.1.1)
                    (All-nil (λ id. Has t i (decode h.arena b id))),
              ),
            );
          };
      kind = λ a p sc s t f j. tt;
    }

    pub equals_cells : IsStepCells g h env (mark.Equals i k) (record { faults = faults_of x; choices = []; cells = x.cell ∷ [] })
    equals_cells = record {
      step = equals_step;
      gives = record {
        one = λ e. refl;
        sorts = λ e a r. All-cons (OfSort h.arena.kinds (sort_of a)) x.cell [] (tree.sort a r).sort (All-nil (OfSort h.arena.kinds (sort_of a)));
      };
    }
