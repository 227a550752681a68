-- The walk over a path: no step, one step more.
use Rattle.std.proofs.Common.{◌≡◌, ◌⊎◌, inl, inr, ℕ, ◌<◌, Bool, true, false, not, ◌&&◌, ◌||◌, List, ◌++◌, length, All, refl, sym, ◌∙◌, ap, subst}
use Rattle.std.specs.Prelude.{Some}
use Rattle.sat_formula.specs.declared.lit.Lit.{Lit}
use Rattle.tla_values.specs.declared.value.Value.{Value}
use Rattle.tla_meaning.specs.declared.job.State.{State}
use Rattle.tla_meaning.specs.declared.outcome.Fault.TheVariants.{NoFault}
use Rattle.tla_meaning.specs.Outcomes.{fault_of}
use Rattle.tla_meaning.specs.Forms.{form_fault}
use Rattle.tla_meaning.specs.Numbers.{Width}
use Rattle.tla_meaning.specs.Scopes.{Scope}
use Rattle.cell_arena.specs.declared.build.Build.{Build}
use Rattle.cell_arena.specs.declared.kinds.CellId.{CellId}
use Rattle.cell_arena.specs.Growth.{Grows}
use Rattle.cell_arena.proofs.Growing.{Satisfies-before}
use Rattle.kernel_trees.specs.declared.path.AssignedStep.{AssignedStep}
use Rattle.kernel_trees.specs.declared.path.AssignedStep.TheVariants as mark
use Rattle.kernel_trees.specs.Assignments.{AssignedHolds, Has}
use Rattle.expr_rewriter.specs.declared.cell_env.CellEnv.{CellEnv}
use Rattle.path_walks.specs.Steps.{Takes, assigns, step_fault}
use Rattle.path_walks.specs.Paths.{Given, Items, SaysHolds, item_at, picked}
use Rattle.path_walks.proofs.Onward.{Onward, go_further, goes_on, onward_longer, onward_same, picked_onward}

-- ---- tests

pub all_four : (p q r u : Bool) → p ≡ true → q ≡ true → r ≡ false → u ≡ false → (p && (q && (not r && not u))) ≡ true
all_four true true false false a b c d = refl
all_four true true false true a b c d = absurd (cc)
all_four true true true u a b c d = absurd (cc)
all_four true false r u a b c d = absurd (cc)
all_four false q r u a b c d = absurd (cc)

pub record Four (p q r u : Bool) : Type 0 where
  pub first : p ≡ true
  pub second : q ≡ true
  pub third : r ≡ false
  pub fourth : u ≡ false

pub four_all : (p q r u : Bool) → (p && (q && (not r && not u))) ≡ true → Four p q r u
four_all true true false false e = record { first = refl; second = refl; third = refl; fourth = refl }
four_all true true false true e = absurd (cc)
four_all true true true u e = absurd (cc)
four_all true false r u e = absurd (cc)
four_all false q r u e = absurd (cc)

pub or_cases : (p q : Bool) → (p || q) ≡ true → (p ≡ true) ⊎ (q ≡ true)
or_cases true q e = inl refl
or_cases false q e = inr e

pub or_left : (p q : Bool) → p ≡ true → (p || q) ≡ true
or_left true q e = refl
or_left false q e = absurd (cc)

pub or_second : (p q : Bool) → q ≡ true → (p || q) ≡ true
or_second true q e = refl
or_second false q e = e

pub and_first : (p q : Bool) → (p && q) ≡ true → p ≡ true
and_first true q e = refl
and_first false q e = absurd (cc)

pub and_second : (p q : Bool) → (p && q) ≡ true → q ≡ true
and_second true q e = e
and_second false q e = absurd (cc)

pub and_both : (p q : Bool) → p ≡ true → q ≡ true → (p && q) ≡ true
and_both true q e h = h
and_both false q e h = absurd (cc)

pub true_false : true ≡ false → ⊥
true_false e = cc

-- ---- a step that holds has no fault

pub takes_calm : (w : Width) (s t : State) (z : AssignedStep) (vs : List Value) (sc : Scope) → Takes w s t z vs sc → step_fault w s t z sc ≡ NoFault
takes_calm w s t (mark.Guard k b) vs sc h = ap fault_of h
takes_calm w s t (mark.Pick ps) vs sc h = h.sound
takes_calm w s t (mark.Equals i e) vs sc h = ap fault_of h.1.0
takes_calm w s t (mark.Among i e) vs sc h = ap form_fault h.made

-- ---- what older steps say stays

module _ (old g i : Build) (start : CellEnv) (items₀ items₁ : Items) (zs : List AssignedStep) (picks : List (List CellId)) (grows : Grows g i)
    (there : All (All (λ (id : CellId). id.index < length g.arena.kinds)) picks)
    (same : (j : ℕ) → assigns zs j ≡ true → item_at items₁ j ≡ item_at items₀ j)
    (cells : (j : ℕ) (y : CellId × Lit) → assigns zs j ≡ true → item_at items₀ j ≡ Some y →
    (y.0.index < length g.arena.kinds) × (y.1.var < g.formula.vars)) where
  pub given_older : (a : List Bool) (t : State) → Given i.arena a zs items₁ t → Given g.arena a zs items₀ t
  given_older a t h = λ j y e q o.
      subst (Has t j) ((onward_same g i a grows).decodes y.0 (cells j y e q).0) (h j y e (same j e ∙ q) o)

  pub given_onward : (a b : List Bool) (t : State) → Onward g a i b → Given g.arena a zs items₀ t → Given i.arena b zs items₁ t
  given_onward a b t o h = λ j y e q l.
      let p = sym (same j e) ∙ q in
      let c = cells j y e p in
      subst (Has t j) (sym (o.decodes y.0 c.0)) (h j y e p (sym (o.literals y.1 c.1) ∙ l))

  pub says_later : (on : List Bool → Bool) → ((b d : List Bool) → Onward g b i d → on d ≡ on b) →
      SaysHolds old g start items₀ zs picks on → SaysHolds old i start items₁ zs picks on
  says_later on reads x = record {
    sound = λ a p o sc s t st h.
        subst (λ vss. AssignedHolds (Some old.arena.width) s t zs vss sc) (sym (picked_onward g a i a (onward_same g i a grows) picks there))
        (x.sound a (Satisfies-before g i a grows p) o sc s t st (given_older a t h));
    reach = λ a n p sc s t st normal vss h.
        let r = x.reach a n p sc s t st normal vss h in
        let b = a ++ r.more in
        let q = goes_on g.formula i.formula b grows.formula r.long r.satisfies in
        let o = onward_longer g i b q.more grows r.long in
        go_further g.formula i.formula a
        (λ b. (on b ≡ true) × ((picked g.arena b picks ≡ vss) × Given g.arena b zs items₀ t))
        (λ b. (on b ≡ true) × ((picked i.arena b picks ≡ vss) × Given i.arena b zs items₁ t)) r
        (record {
          more = q.more;
          long = q.long;
          satisfies = q.satisfies;
          holds = (reads b (b ++ q.more) o ∙ r.holds.0, (picked_onward g b i (b ++ q.more) o picks there ∙ r.holds.1.0, given_onward b (b ++ q.more) t o r.holds.1.1));
        });
  }
