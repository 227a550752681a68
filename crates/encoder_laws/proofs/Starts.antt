-- The start put together: CInit, behind it the assumption, and behind both Init.
use Rattle.std.proofs.Common.{◌≡◌, ◌↔◌, Bool, true, List, take, refl, sym, ◌∙◌}
use Rattle.tla_values.specs.declared.value.Value.{Value}
use Rattle.tla_meaning.specs.declared.job.Job.{Job}
use Rattle.tla_meaning.specs.declared.job.State.{State}
use Rattle.tla_meaning.specs.Actions.{val}
use Rattle.tla_meaning.specs.Executions.{IsState, IsYes, constants, no_scope}
use Rattle.tla_meaning.specs.Numbers.{Width}
use Rattle.kernel_trees.specs.Assignments.{AssignedPath}
use Rattle.level_laws.specs.Constraints.{Allowed, Assignment, Constraint, Grown, HasValue, IsTrueWhere, Reads, under}
use Rattle.level_laws.specs.Branches.{Branch, BranchReading, Ending, Held}
use Rattle.level_laws.specs.Chains.{then_goes, then_literals}
use Rattle.level_laws.proofs.Bits.{both_true, first_true, second_true}
use Rattle.level_laws.proofs.Branches.{branch_still}
use Rattle.level_laws.proofs.Chains.{branch_then}
use Rattle.level_laws.proofs.Growing.{grown_refl, grown_trans, grown_under, reads_back, reads_more}
use Rattle.step_laws.specs.Outcomes.{outcome_ends}
use Rattle.step_laws.specs.PathEnds.{SomeEnds}
use Rattle.step_laws.specs.Transitions.{AssumeGoes, ConstantsGo, HasConstants, InitGoes, StartGoes}
use Rattle.encoder_laws.proofs.Literals.{branch_twice, then_again, then_reads, then_same}

-- The formulas f, g, h and i follow one another: CInit is encoded from f to g, at h the assumption and that both hold,
-- from h to i Init, and at j the whole.
pub record StartParts (w : Width) (job : Job) (xs ys : List AssignedPath) (f g h i j : Constraint)
    (cs : Assignment → List Value) (cinit assume both whole : Ending → Assignment → Bool)
    (y : BranchReading State) : Type 0 where
  pub some : Allowed f (λ a. Unit {0})
  pub constants : Branch f g (λ a. tt) (ConstantsGo w job xs) (record { ends = cinit; next = cs })
  pub later : Grown g h
  pub reads : (k : Ending) → Reads h.vars (assume k)
  -- where CInit holds, the literals are those of the assumption at each state with these constants
  pub assumed : (a : Assignment) → h.Sat a → cinit Held a ≡ true → (t : State) → HasConstants job (cs a) t →
      (k : Ending) → (assume k a ≡ true) ↔ outcome_ends (val w job.assume no_scope t t) k
  pub first : (k : Ending) → HasValue h (both k) (λ a. then_literals (λ l. cinit l a) (λ l. assume l a) k)
  pub onward : Grown h i
  pub init : Branch (under h (both Held)) (under i (both Held)) cs (InitGoes w job ys) y
  -- the states of Init have these constants, whether it holds or not
  pub over : (a : Assignment) → i.Sat a → HasConstants job (cs a) (y.next a)
  pub last : Grown i j
  pub all : (k : Ending) → HasValue j (whole k) (λ a. then_literals (λ l. both l a) (λ l. y.ends l a) k)

module _ (w : Width) (job : Job) (xs ys : List AssignedPath) (f g h i j : Constraint) (cs : Assignment → List Value)
    (cinit assume both whole : Ending → Assignment → Bool) (y : BranchReading State)
    (p : StartParts w job xs ys f g h i j cs cinit assume both whole y) where
  abbrev held : Assignment → Bool
  held = cinit Held

  abbrev true_there : Assignment → Bool
  true_there = assume Held

  held_reads : Reads h.vars held
  held_reads = reads_more g.vars h.vars held p.later.vars (p.constants.ends_read Held)

  -- ---- the assumption

  abbrev Assumes : Ending → List Value → Type 0
  Assumes k ds = (t : State) × (HasConstants job ds t × outcome_ends (val w job.assume no_scope t t) k)

  some_state : (a : Assignment) → h.Sat a → held a ≡ true → (t : State) × HasConstants job (cs a) t
  some_state a s o = let m = p.constants.sound Held a (p.later.stays a s) o in (m.0, m.1.0)

  assume_true : (k : Ending) → IsTrueWhere (under h held) (assume k) (λ a. Assumes k (cs a))
  assume_true k = record {
    reads = p.reads k;
    exact = λ a s. (
      λ q. let t = some_state a s.0 s.1 in (t.0, (t.1, (p.assumed a s.0 s.1 t.0 t.1 k).0 q)),
      λ q. (p.assumed a s.0 s.1 q.0 q.1.0 k).1 q.1.1,
    );
  }

  assume_branch : Branch (under g held) (under h held) cs (AssumeGoes w job) (record { ends = assume; next = cs })
  assume_branch =
      branch_still (under g held) (under h held) cs Assumes assume p.constants.next_reads
      (grown_under g h held (p.constants.ends_read Held) p.later) assume_true

  -- ---- Init behind it

  both_at : (e : Constraint) → Grown h e → (a : Assignment) → e.Sat a →
      (both Held a ≡ true) ↔ ((held a ≡ true) × (true_there a ≡ true))
  both_at e gr a s = (
    λ q.
        let z = sym ((p.first Held).is a (gr.stays a s)) ∙ q in
        (first_true (held a) (true_there a) z, second_true (held a) (true_there a) z),
    λ q. (p.first Held).is a (gr.stays a s) ∙ both_true (held a) (true_there a) q.0 q.1,
  )

  init_branch : Branch (under (under h held) true_there) (under (under i held) true_there) cs (InitGoes w job ys) y
  init_branch =
      branch_twice h i held true_there (both Held) cs (InitGoes w job ys) y (both_at h (grown_refl h))
      (both_at i p.onward) p.init

  abbrev behind : BranchReading State
  behind = record { ends = λ k a. then_literals (λ l. assume l a) (λ l. y.ends l a) k; next = y.next }

  behind_value : (k : Ending) → HasValue (under i held) (behind.ends k)
      (λ a. then_literals (λ l. assume l a) (λ l. y.ends l a) k)
  behind_value k = record {
    reads =
        then_reads i.vars assume y.ends k (λ l. reads_more h.vars i.vars (assume l) p.onward.vars (p.reads l))
        p.init.ends_read;
    is = λ a s. refl;
  }

  assume_init : Branch (under g held) (under i held) cs
      (then_goes (AssumeGoes w job) (InitGoes w job ys) (HasConstants job)) behind
  assume_init =
      branch_then (under g held) (under h held) (under i held) (under i held) cs (AssumeGoes w job) (InitGoes w job ys)
      (HasConstants job) (record { ends = assume; next = cs }) y behind assume_branch
      (grown_under h i held held_reads p.onward) init_branch (grown_refl (under i held))
      behind_value (λ a. refl) (λ a s. p.over a s.0)

  -- ---- the whole

  whole_value : (k : Ending) → HasValue j (whole k) (λ a. then_literals (λ l. cinit l a) (λ l. behind.ends l a) k)
  whole_value k = record { reads = (p.all k).reads; is = is }
    where
      is : (a : Assignment) → j.Sat a → whole k a ≡ then_literals (λ l. cinit l a) (λ l. behind.ends l a) k
      is a s =
          let at_h : h.Sat a = p.onward.stays a (p.last.stays a s) in
          (p.all k).is a s
          ∙ (then_same (λ l. both l a) (λ l. then_literals (λ m. cinit m a) (λ m. assume m a) l)
          (λ l. y.ends l a) (λ l. y.ends l a) k
          (λ l. (p.first l).is a at_h) (λ l. refl)
          ∙ then_again (λ l. cinit l a) (λ l. assume l a) (λ l. y.ends l a) k)

  pub start_branch : Branch f j (λ a. tt) (StartGoes w job xs ys) (record { ends = whole; next = y.next })
  start_branch =
      branch_then f g i j (λ a. tt) (ConstantsGo w job xs)
      (then_goes (AssumeGoes w job) (InitGoes w job ys) (HasConstants job)) (HasConstants job)
      (record { ends = cinit; next = cs }) behind (record { ends = whole; next = y.next })
      p.constants (grown_trans g h i p.later p.onward) assume_init p.last whole_value (λ a. refl)
      (λ a s. p.over a (p.last.stays a s))

  -- ---- where CInit holds and the assumption is TRUE

  -- an assignment that gives these constants, with the literal true
  pub record IsKnownAt (t : State) : Type 0 where
    pub at : Assignment
    pub satisfies : h.Sat at
    pub true_there : both Held at ≡ true
    pub same : take (constants job) t.vals ≡ cs at

  pub known_at : (t : State) → IsState job t → SomeEnds w xs Held t t → IsYes (val w job.assume no_scope t t) →
      IsKnownAt t
  known_at t st m good =
      let ds : List Value = take (constants job) t.vals in
      let u = p.constants.reach p.some.at ds p.some.satisfies (t, ((st, refl), m)) in
      let v = p.later.extends u.to u.satisfies in
      let e : cs v.to ≡ ds = reads_back g.vars cs ds u.to v.to p.constants.next_reads v.agrees u.so.1 in
      let o : held v.to ≡ true = reads_back g.vars held true u.to v.to (p.constants.ends_read Held) v.agrees u.so.0 in
      let q : true_there v.to ≡ true = (p.assumed v.to v.satisfies o t (st, sym e) Held).1 good in
      let there = (both_at h (grown_refl h) v.to v.satisfies).1 (o, q) in
      record { at = v.to; satisfies = v.satisfies; true_there = there; same = sym e }
