-- One path over cells, over a later build in which its next states are whole, is a branch.
use Rattle.std.proofs.Common.{◌≡◌, ℕ, ◌<◌, Bool, true, List, length, refl, sym, ◌∙◌, ap, subst, lt_of_lt_of_le}
use Rattle.std.specs.Prelude.{Some, slice_get}
use Rattle.sat_formula.specs.Formula.{Satisfies}
use Rattle.sat_formula.specs.Lit.{lit_value}
use Rattle.tla_values.specs.declared.value.Value.{Value}
use Rattle.tla_meaning.specs.declared.job.State.{State}
use Rattle.tla_meaning.specs.declared.outcome.Fault.{Fault}
use Rattle.tla_meaning.specs.declared.outcome.Fault.TheVariants.{NoFault, IsWrong, IsBig}
use Rattle.tla_meaning.specs.Executions.{no_scope}
use Rattle.tla_meaning.specs.Numbers.{Width}
use Rattle.tla_meaning.proofs.Views.{false≢true}
use Rattle.cell_arena.specs.declared.build.Build.{Build}
use Rattle.cell_arena.specs.Growth.{Grows}
use Rattle.cell_arena.proofs.Growing.{Satisfies-before}
use Rattle.kernel_trees.specs.Assignments.{AssignedMeets, AssignedPath}
use Rattle.outcome_cells.specs.Shown.{big_fault, wrong_fault}
use Rattle.expr_rewriter.specs.declared.cell_env.CellEnv.{CellEnv}
use Rattle.path_walks.specs.declared.answer.PathCells.{PathCells}
use Rattle.path_walks.specs.Paths.{AllNormal, Given, GoesOn, IsPathCells, Stands, picked}
use Rattle.path_walks.specs.Steps.{assigns}
use Rattle.branch_cells.specs.Branches.{ends_of}
use Rattle.branch_cells.specs.Ends.{ends_at}
use Rattle.level_laws.specs.Constraints.{Agree, Assignment, Reads}
use Rattle.level_laws.specs.Branches.{BranchReading, Ending, Held, MetWrong, MetBig, Transition}
use Rattle.level_laws.proofs.Formulas.{lit_reads}
use Rattle.level_laws.proofs.Growing.{reads_back}
use Rattle.step_laws.specs.PathEnds.{PathEnds}
use Rattle.step_branches.proofs.Decoding.{decode_reads}
use Rattle.step_branches.proofs.Leads.{Leads, agree_front, goes_as, goes_more}

-- ---- faults

wrong_at : (w : Width) (s t : State) (zs : AssignedPath) (vss : List (List Value)) (f : Fault) → wrong_fault f ≡ true →
    AssignedMeets w s t zs vss no_scope f → PathEnds w zs MetWrong s t
wrong_at w s t zs vss NoFault e m = absurd (false≢true e)
wrong_at w s t zs vss (IsWrong p) e m = (p, (vss, m))
wrong_at w s t zs vss (IsBig p) e m = absurd (false≢true e)

big_at : (w : Width) (s t : State) (zs : AssignedPath) (vss : List (List Value)) (f : Fault) → big_fault f ≡ true →
    AssignedMeets w s t zs vss no_scope f → PathEnds w zs MetBig s t
big_at w s t zs vss NoFault e m = absurd (false≢true e)
big_at w s t zs vss (IsWrong p) e m = absurd (false≢true e)
big_at w s t zs vss (IsBig p) e m = (p, (vss, m))

-- ---- a path

-- before it E is decoded, `current` is the state in which it reads names, and `part` is what of the next state counts
module _ {E S : Type 0} (Legal : E → State → Type 0) (current : E → State → State) (part : State → S) (w : Width) where
  -- from e there is a next state that counts, with this part, to which the path ends so
  abbrev pub PathGoes : AssignedPath → Transition E S
  PathGoes zs k e s = (t : State) × (Legal e t × (PathEnds w zs k (current e t) t × (part t ≡ s)))

module _ {E S : Type 0} (Legal : E → State → Type 0) (current : E → State → State) (part : State → S)
    (old middle : Build)
    (env : CellEnv) (zs : AssignedPath) (x : PathCells) (cells : IsPathCells old middle env zs x)
    (on : Assignment → Bool)
    (now : Assignment → E) (on_reads : Reads old.formula.vars on) (now_reads : Reads old.formula.vars now)
    (stands : (a : Assignment) → Satisfies a old.formula → on a ≡ true → (t : State) → Legal (now a) t →
    Stands old env zs a no_scope (current (now a) t) t) (normal : (e : E) (t : State) → Legal e t → AllNormal t) where
  abbrev w : Width
  w = Some old.arena.width

  abbrev ends : Ending → Assignment → Bool
  ends = ends_at (ends_of x)

  -- ---- what satisfies is real

  end_sound : (k : Ending) (a : Assignment) → Satisfies a middle.formula → Satisfies a old.formula → on a ≡ true →
      ends k a ≡ true →
      (t : State) → Legal (now a) t → Given middle.arena a zs x.next t → PathEnds w zs k (current (now a) t) t
  end_sound Held a s so o e t l g =
      (picked middle.arena a cells.picks, cells.holds.sound a s e no_scope (current (now a) t) t (stands a so o t l) g)
  end_sound MetWrong a s so o e t l g =
      let m = cells.wrong.sound a s e no_scope (current (now a) t) t (stands a so o t l) g in
      wrong_at w (current (now a) t) t zs (picked middle.arena a cells.picks) m.fault m.is_so m.meets
  end_sound MetBig a s so o e t l g =
      let m = cells.big.sound a s e no_scope (current (now a) t) t (stands a so o t l) g in
      big_at w (current (now a) t) t zs (picked middle.arena a cells.picks) m.fault m.is_so m.meets

  -- ---- what is real is decoded

  abbrev Reached : Assignment → State → Assignment → Type 0
  Reached a t b = Agree old.formula.vars a b × ((lit_value x.holds b ≡ true) × Given middle.arena b zs x.next t)

  held_on : (a : Assignment) (t : State) → length a ≡ old.formula.vars → Satisfies a old.formula → on a ≡ true →
      Legal (now a) t →
      PathEnds w zs Held (current (now a) t) t → GoesOn middle.formula a (Reached a t)
  held_on a t n s o l m =
      let r = cells.holds.reach a n s no_scope (current (now a) t) t (stands a s o t l) (normal (now a) t l) m.0 m.1 in
      record {
        more = r.more;
        long = r.long;
        satisfies = r.satisfies;
        holds = (agree_front old.formula.vars a r.more n, (r.holds.0, r.holds.1.1));
      }

  found_on : (k : Ending) (a : Assignment) (t : State) → length a ≡ old.formula.vars → Satisfies a old.formula →
      on a ≡ true →
      Legal (now a) t → PathEnds w zs k (current (now a) t) t → GoesOn middle.formula a (λ b. ends k b ≡ true)
  found_on Held a t n s o l m =
      goes_as middle.formula a (Reached a t) (λ b. ends Held b ≡ true) (held_on a t n s o l m) (λ b z. z.1.0)
  found_on MetWrong a t n s o l m =
      cells.wrong.find a n s no_scope (current (now a) t) t (stands a s o t l) (normal (now a) t l) m.1.0
      (record { fault = IsWrong m.0; is_so = refl; meets = m.1.1 })
  found_on MetBig a t n s o l m =
      cells.big.find a n s no_scope (current (now a) t) t (stands a s o t l) (normal (now a) t l) m.1.0
      (record { fault = IsBig m.0; is_so = refl; meets = m.1.1 })

  pub path_ends_read : (k : Ending) → Reads middle.formula.vars (ends k)
  path_ends_read Held = lit_reads middle.formula.vars x.holds cells.below.holds
  path_ends_read MetWrong = lit_reads middle.formula.vars x.wrong cells.below.wrong
  path_ends_read MetBig = lit_reads middle.formula.vars x.big cells.below.big

  -- ---- whole next states

  -- where the path ends at all, the next states count and have the values that it gives; and of two that count,
  -- between which the
  -- path holds, what counts is known by what the path assigns
  module _ (before : Grows old middle) (new : Build) (gr : Grows middle new) (next : Assignment → State)
      (legal : (k : Ending) (a : Assignment) → Satisfies a new.formula → on a ≡ true → ends k a ≡ true →
      Legal (now a) (next a))
      (given : (k : Ending) (a : Assignment) → Satisfies a new.formula → on a ≡ true → ends k a ≡ true →
      Given middle.arena a zs x.next (next a))
      (known : (e : E) (t t' : State) → Legal e t → Legal e t' → PathEnds w zs Held (current e t) t →
      ((i : ℕ) → assigns zs i ≡ true → slice_get t.vals i ≡ slice_get t'.vals i) → part t ≡ part t') where
    abbrev reading : BranchReading S
    reading = record { ends = ends; next = λ a. part (next a) }

    -- where the path holds, what is read of the next state is that of t
    same_part : (b c : Assignment) (t : State) → Agree middle.formula.vars b c → Satisfies c new.formula → on c ≡ true →
        lit_value x.holds c ≡ true → Legal (now c) t → Given middle.arena b zs x.next t → part (next c) ≡ part t
    same_part b c t ag s o e l gt =
        let sm = Satisfies-before middle new c gr s in
        let so = Satisfies-before old middle c before sm in
        let lc = legal Held c s o e in
        let gc = given Held c s o e in
        known (now c) (next c) t lc l (end_sound Held c sm so o e (next c) lc gc)
        (λ i assigned.
        let y = cells.whole c sm e i assigned in
        let below = cells.below.items i y.0 y.1.0 in
        let lit : lit_value y.0.1 b ≡ true = lit_reads middle.formula.vars y.0.1 below.1 b c ag ∙ y.1.1 in
        gc i y.0 assigned y.1.0 y.1.1 ∙
        (ap Some (sym (decode_reads middle y.0.0 b c ag)) ∙ sym (gt i y.0 assigned y.1.0 lit)))

    pub path_leads : Leads old.formula new.formula on now (PathGoes Legal current part w zs) reading
    path_leads = record {
      sound = λ k a s o e.
          let sm = Satisfies-before middle new a gr s in
          let l = legal k a s o e in (
            next a,
            (
              l,
              (
                end_sound k a sm (Satisfies-before old middle a before sm) o e (next a) l (given k a s o e),
                refl,
              ),
            ),
          );
      reach = λ a s n sa o m.
          goes_more middle.formula new.formula a (Reached a m.0) (λ b. (ends Held b ≡ true) × (part (next b) ≡ s))
          gr.formula
          (held_on a m.0 n sa o m.1.0 m.1.1.0)
          (λ b c z ag sc.
          let e : ends Held c ≡ true = reads_back middle.formula.vars (ends Held) true b c (path_ends_read Held) ag
          z.1.0 in
          let more : Agree old.formula.vars a c = λ i lt. z.0 i lt ∙ ag i (older i lt) in
          let oc = reads_back old.formula.vars on true a c on_reads more o in
          let l : Legal (now c) m.0 = subst (λ (d : E). Legal d m.0) (now_reads a c more) m.1.0 in
          (e, same_part b c m.0 ag sc oc e l z.1.1 ∙ m.1.1.1));
      find = λ k a s n sa o m.
          goes_more middle.formula new.formula a (λ b. ends k b ≡ true) (λ b. ends k b ≡ true) gr.formula
          (found_on k a m.0 n sa o m.1.0 m.1.1.0)
          (λ b c e ag sc. reads_back middle.formula.vars (ends k) true b c (path_ends_read k) ag e);
    }
      where
        older : (i : ℕ) → i < old.formula.vars → i < middle.formula.vars
        older i lt = lt_of_lt_of_le lt before.formula.vars
