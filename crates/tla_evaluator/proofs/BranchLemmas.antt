-- The branch that an IF or a CASE takes: what it gives, and how a loop over the guards finds it.
use Rattle.std.proofs.Common.{◌≡◌, ℕ, suc, ◌+◌, ◌*◌, ◌<◌, Bool, true, false, List, [], ◌∷◌, drop, get_or, length, Bor, Result, Err, refl, ap, ap₂, ◌∙◌, sym, subst, arith, drop-cons, if◌then◌else◌}
use Rattle.tla_evaluator.proofs.Words.{Assignable, Expr, Layer, Op, Outcome, Place, Value, by_truth, case_chosen, case_effect, choose, get_or_default, guard, guarded, if_chosen, if_effect, out-Value, outs-Bool, yes_no}
use Rattle.tla_values.specs.declared.value.Value.TheOpen as layer
use Rattle.tla_meaning.specs.declared.op.Op.TheVariants as op
use Rattle.tla_meaning.specs.declared.outcome.Outcome.TheVariants as outcome
use Rattle.tla_evaluator.specs.declared.answers.Stop.{Stop}
use Rattle.tla_evaluator.specs.Trees.{first_form_at}
use Rattle.tla_evaluator.specs.inner.Branches.{Branch, GivesBranch, Taken, WrongAt, branch_effect, branch_form, branch_in, branch_value, by_guard, by_value, case_branch, first_tree, is_malformed}
use Rattle.tla_evaluator.specs.inner.Effects.{first_effect_in}
use Rattle.tla_evaluator.specs.inner.Readings.{Reading, effect_in, effects_in, first_in, outcomes_in, value_in}

-- ---- what it gives

module _ (r : Reading) (p : Place) where
  pub first_value : (es : List Expr) → branch_value r (first_tree p es) ≡ first_in r p es
  first_value [] = refl
  first_value (e ∷ es) = refl

  pub first_form : (es : List Expr) → branch_form r (first_tree p es) ≡ first_form_at r.width p es r.bound r.state r.next
  first_form [] = refl
  first_form (e ∷ es) = refl

  pub first_acts : (m : Assignable) (es : List Expr) → branch_effect r m (first_tree p es) ≡ first_effect_in r m p es
  first_acts m [] = refl
  first_acts m (e ∷ es) = refl

  guarded_value : (o : Outcome) (a b : Branch) → branch_value r (by_guard p o a b) ≡ choose p o (branch_value r a) (branch_value r b)
  guarded_value (outcome.Val v) a b = by (out-Value v)
    where
      by : (l : Layer Value) → branch_value r (by_value p l a b) ≡ by_truth p l (branch_value r a) (branch_value r b)
      by (layer.Bool true) = refl
      by (layer.Bool false) = refl
      by l = refl
  guarded_value (outcome.Wrong q) a b = refl
  guarded_value (outcome.Big q) a b = refl

  pub case_value : (es : List Expr) → branch_value r (case_branch r p es) ≡ case_chosen p (outcomes_in r es)
  case_value [] = refl
  case_value (e ∷ []) = refl
  case_value (c ∷ a ∷ es) = guarded_value (value_in r c) (Taken a) (case_branch r p es) ∙ ap (choose p (value_in r c) (value_in r a)) (case_value es)

  pub if_value : (es : List Expr) → branch_value r (branch_in r p op.If es) ≡ if_chosen p (outcomes_in r es)
  if_value [] = refl
  if_value (a ∷ []) = refl
  if_value (a ∷ b ∷ []) = refl
  if_value (c ∷ a ∷ b ∷ []) = case_value (c ∷ a ∷ b ∷ [])
  if_value (a ∷ b ∷ c ∷ d ∷ es) = refl

  module _ (m : Assignable) where
    guarded_effect : (o : Outcome) (a b : Branch) → branch_effect r m (by_guard p o a b) ≡ guarded p o (branch_effect r m a) (branch_effect r m b)
    guarded_effect (outcome.Val v) a b = by (out-Value v)
      where
        by : (l : Layer Value) → branch_effect r m (by_value p l a b) ≡ guard p l (branch_effect r m a) (branch_effect r m b)
        by (layer.Bool true) = refl
        by (layer.Bool false) = refl
        by l = refl
    guarded_effect (outcome.Wrong q) a b = refl
    guarded_effect (outcome.Big q) a b = refl

    pub effect_by_case : (es : List Expr) → branch_effect r m (case_branch r p es) ≡ case_effect p (outcomes_in r es) (effects_in r m es)
    effect_by_case [] = refl
    effect_by_case (e ∷ []) = refl
    effect_by_case (c ∷ a ∷ es) =
        guarded_effect (value_in r c) (Taken a) (case_branch r p es) ∙ ap (guarded p (value_in r c) (effect_in r m a)) (effect_by_case es)

    pub effect_by_if : (es : List Expr) → branch_effect r m (branch_in r p op.If es) ≡ if_effect p (outcomes_in r es) (effects_in r m es)
    effect_by_if [] = refl
    effect_by_if (a ∷ []) = refl
    effect_by_if (a ∷ b ∷ []) = refl
    effect_by_if (c ∷ a ∷ b ∷ []) = effect_by_case (c ∷ a ∷ b ∷ [])
    effect_by_if (a ∷ b ∷ c ∷ d ∷ es) = refl

-- ---- the loop over the guards

by_truth_value : (p : Place) (d : Bool) (a b : Branch) → by_guard p (yes_no d) a b ≡ (if d then a else b)
by_truth_value p d a b = ap (λ l. by_value p l a b) (outs-Bool d) ∙ by d
  where
    by : (d : Bool) → by_value p (layer.Bool d) a b ≡ (if d then a else b)
    by true = refl
    by false = refl

module _ (r : Reading) (p : Place) (es : List Expr) (i : ℕ) (c : Expr) (lt : 2 * i + 1 < length es) (is : c ≡ get_or es (2 * i) c)
    (old : case_branch r p (drop (2 * i) es) ≡ case_branch r p es) where
  here : (a : Expr) → a ≡ get_or es (2 * i + 1) a → by_guard p (value_in r c) (Taken a) (case_branch r p (drop (2 * (i + 1)) es)) ≡ case_branch r p es
  here a at =
      let next : suc (2 * i) ≡ 2 * i + 1 = omega arith in
      let more : suc (2 * i + 1) ≡ 2 * (i + 1) = omega arith in
      ap₂ (λ x n. by_guard p (value_in r c) (Taken x) (case_branch r p (drop n es))) at (sym more)
      ∙ ap (λ x. by_guard p (value_in r x) (Taken (get_or es (2 * i + 1) a)) (case_branch r p (drop (suc (2 * i + 1)) es))) is
      ∙ ap (λ l. case_branch r p (get_or es (2 * i) c ∷ l)) (sym (ap (λ n. drop n es) next ∙ drop-cons es (2 * i + 1) a lt))
      ∙ ap (case_branch r p) (sym (drop-cons es (2 * i) c (omega (arith, lt)))) ∙ old

  pub branch_taken : (a : Expr) → a ≡ get_or es (2 * i + 1) a → value_in r c ≡ yes_no true → case_branch r p es ≡ Taken a
  branch_taken a at h =
      let rest : Branch = case_branch r p (drop (2 * (i + 1)) es) in
      sym (here a at) ∙ ap (λ o. by_guard p o (Taken a) rest) h ∙ by_truth_value p true (Taken a) rest

  pub branch_goes : value_in r c ≡ yes_no false → case_branch r p (drop (2 * (i + 1)) es) ≡ case_branch r p es
  branch_goes h =
      let a : Expr = get_or es (2 * i + 1) c in
      let rest : Branch = case_branch r p (drop (2 * (i + 1)) es) in
      sym (ap (λ o. by_guard p o (Taken a) rest) h ∙ by_truth_value p false (Taken a) rest) ∙ here a (get_or_default es (2 * i + 1) c a lt)

  pub branch_stops : (s : Stop) → ((a b : Branch) → GivesBranch (by_guard p (value_in r c) a b) (Err s)) → GivesBranch (case_branch r p es) (Err s)
  branch_stops s h =
      let a : Expr = get_or es (2 * i + 1) c in
      let rest : Branch = case_branch r p (drop (2 * (i + 1)) es) in
      subst (λ b. GivesBranch b (Err s)) (here a (get_or_default es (2 * i + 1) c a lt)) (h (Taken a) rest)

pub branch_gives_as : (a : Result (Bor Expr) Stop) {b c : Branch} → b ≡ c → GivesBranch b a → GivesBranch c a
branch_gives_as a e h = subst (λ b. GivesBranch b a) e h

pub well_formed : (r : Reading) (p : Place) (o : Op) (es : List Expr) → is_malformed o es ≡ false → branch_in r p o es ≡ case_branch r p es
well_formed r p o es h = ap (λ (b : Bool). if b then WrongAt p else case_branch r p es) h
