-- Levels of an encoder as the build grows, and one level more.
use Rattle.std.proofs.Common.{◌≡◌, ◌⊎◌, inl, inr, ℕ, zero, suc, ◌<◌, List, [], ◌∷◌, ◌++◌, take, length, Some, refl}
use Rattle.std.proofs.Common.{sym, ◌∙◌, ap, ap₂, subst, le_of_lt}
use Rattle.std.specs.Prelude.{slice_get}
use Rattle.sat_formula.specs.Lit.{lit_value}
use Rattle.tla_meaning.specs.declared.job.Job.{Job}
use Rattle.tla_meaning.specs.declared.job.State.{State}
use Rattle.tla_meaning.specs.Numbers.{Width}
use Rattle.cell_arena.specs.declared.build.Build.{Build}
use Rattle.cell_arena.specs.Growth.{Grows}
use Rattle.kernel_trees.specs.declared.system.System.{System}
use Rattle.level_laws.specs.Constraints.{Assignment, of_formula}
use Rattle.step_laws.specs.Encoded.{IsEncoded}
use Rattle.step_laws.proofs.Encoded.{encoded_later}
use Rattle.encoder_laws.specs.declared.level.LevelCells.{LevelCells}
use Rattle.encoder_laws.specs.Levels.{IsLevelOf, kept_at, start_along, step_along}
use Rattle.encoder_laws.proofs.Cells.{AllThere, AreThere, IsLater, later_grown, past_at, past_same, state_same}
use Rattle.encoder_laws.proofs.Places.{place_of, take_front}

-- ---- all levels

-- each of the levels says what it is to say over the build
abbrev pub AreLevels : Width → Job → System → Build → List LevelCells → Type 0
AreLevels w job s b levels =
    (n : ℕ) (x : LevelCells) → slice_get levels n ≡ Some x → IsLevelOf w job s b.formula n (kept_at b.arena levels n x)

-- the cells of each are there
abbrev pub HasLevelCells : Build → List LevelCells → Type 0
HasLevelCells b levels = (n : ℕ) (x : LevelCells) → slice_get levels n ≡ Some x → AreThere b x.cells

pub there_before : (b c : Build) (g : Grows b c) (n : ℕ) (levels : List LevelCells) → HasLevelCells b levels →
    AllThere b c g (take n levels)
there_before b c g zero levels h = tt
there_before b c g (suc n) [] h = tt
there_before b c g (suc n) (x ∷ xs) h = (h zero x refl, there_before b c g n xs (λ m y e. h (suc m) y e))

-- ---- growth

module _ (w : Width) (job : Job) (s : System) (b c : Build) (later : IsLater b c) where
  -- what is read of a level stays, for all assignments
  pub kept_same : (levels longer : List LevelCells) (n : ℕ) (x : LevelCells) → take n longer ≡ take n levels →
      AllThere b c later.grows (take n levels) → AreThere b x.cells →
      kept_at b.arena levels n x ≡ kept_at c.arena longer n x
  kept_same levels longer n x e past now =
      ap₂ (λ (p : Assignment → List State) (q : Assignment → State). record {
        run = record { on = lit_value x.run; past = p; now = q };
        wrong = lit_value x.step_wrong;
        big = lit_value x.step_big;
        not_true = lit_value x.not_true;
        inv_big = lit_value x.inv_big;
      }) (past_same b c later.grows (take n levels) past ∙ ap (past_at c.arena) (sym e))
      (state_same b c later.grows x.cells now)

  pub level_grows : (levels longer : List LevelCells) (n : ℕ) (x : LevelCells) → take n longer ≡ take n levels →
      AllThere b c later.grows (take n levels) → AreThere b x.cells →
      IsLevelOf w job s b.formula n (kept_at b.arena levels n x) →
      IsLevelOf w job s c.formula n (kept_at c.arena longer n x)
  level_grows levels longer n x e past now l = record {
    encoded =
        subst (IsEncoded w job (start_along w job s) (step_along w job s) (of_formula c.formula) n)
        (kept_same levels longer n x e past now)
        (encoded_later w job (start_along w job s) (step_along w job s) (of_formula b.formula) (of_formula c.formula) n
        (kept_at b.arena levels n x) l.encoded
        (later_grown b c later));
    starts = l.starts;
    steps = l.steps;
    truths = l.truths;
  }

  -- those so far, and one more
  pub levels_grow : (levels : List LevelCells) (y : LevelCells) → HasLevelCells b levels → AreLevels w job s b levels →
      IsLevelOf w job s c.formula (length levels) (kept_at c.arena (levels ++ y ∷ []) (length levels) y) →
      AreLevels w job s c (levels ++ y ∷ [])
  levels_grow levels y cells all one n x e = by (place_of levels y n x e)
    where
      by : ((n < length levels) × (slice_get levels n ≡ Some x)) ⊎ ((n ≡ length levels) × (y ≡ x)) →
          IsLevelOf w job s c.formula n (kept_at c.arena (levels ++ y ∷ []) n x)
      by (inl h) =
          level_grows levels (levels ++ y ∷ []) n x (take_front levels y n (le_of_lt h.0))
          (there_before b c later.grows n levels cells) (cells n x h.1) (all n x h.1)
      by (inr h) =
          subst (λ (z : LevelCells). IsLevelOf w job s c.formula n (kept_at c.arena (levels ++ y ∷ []) n z)) h.1
          (subst (λ (m : ℕ). IsLevelOf w job s c.formula m (kept_at c.arena (levels ++ y ∷ []) m y)) (sym h.0) one)
