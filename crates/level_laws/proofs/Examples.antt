-- The records can be met, and rows computed: states are truth values, the first may be any, and a step that begins at TRUE also
-- meets something Wrong.
use Rattle.std.proofs.Common.{◌≡◌, ℕ, zero, suc, Bool, true, false, [], ◌∷◌, refl, arith}
use Rattle.level_laws.specs.Constraints.{Assignment, Agree, Constraint, Extended, Grown, Reads, bit}
use Rattle.level_laws.specs.Branches.{Ending, Held, MetWrong, MetBig, Transition, BranchReading, Branch}
use Rattle.level_laws.specs.Chains.{then_literals}
use Rattle.level_laws.specs.Levels.{AtStart, Behind, Run, Level, Question, Start}
use Rattle.level_laws.proofs.Growing.{grown_refl}
use Rattle.level_laws.proofs.Branches.{branch_under}
use Rattle.level_laws.proofs.Levels.{first_level, level_start, level_step, next_level, question_step, step_question}

abbrev any : Start Bool
any Held e t = Unit {0}
any MetWrong e t = ⊥
any MetBig e t = ⊥

abbrev step : Transition Bool Bool
step Held s t = Unit {0}
step MetWrong s t = s ≡ true
step MetBig s t = ⊥

never : false ≡ true → ⊥
never e = cc

-- ---- what is computed

two_steps : Run any step 2 (true ∷ false ∷ []) true
two_steps = ((tt, tt), tt)

too_many : Run any step 1 (true ∷ false ∷ []) true → ⊥
too_many r = r.0

too_few : Run any step 1 [] true → ⊥
too_few r = r

-- a step's fault behind one state, which is TRUE
a_fault : Behind (Run any step 0) (λ s t. step MetWrong s t) (true ∷ []) false
a_fault = (tt, refl)

no_fault : Behind (Run any step 0) (λ s t. step MetWrong s t) (false ∷ []) false → ⊥
no_fault r = never r.1

no_state : Behind (Run any step 0) (λ (s t : Bool). step MetWrong s t) [] false → ⊥
no_state r = r

a_start : AtStart {S = Bool} (λ (t : Bool). t ≡ true) [] true
a_start = refl

not_a_start : AtStart {S = Bool} (λ (t : Bool). t ≡ true) (true ∷ []) true → ⊥
not_a_start r = r

-- the second part's fault counts only where the first part holds
abbrev first_fails : Ending → Bool
first_fails Held = false
first_fails MetWrong = false
first_fails MetBig = false

abbrev second_errs : Ending → Bool
second_errs Held = false
second_errs MetWrong = true
second_errs MetBig = false

hidden_fault : then_literals first_fails second_errs MetWrong ≡ false
hidden_fault = refl

seen_fault : then_literals (λ k. true) second_errs MetWrong ≡ true
seen_fault = refl

-- ---- levels

abbrev free : ℕ → Constraint
free n = record { vars = n; Sat = λ a. Unit {0} }

grows : (n : ℕ) → Grown (free n) (free (suc n))
grows n = record {
  vars = omega arith;
  stays = λ a s. s;
  extends = λ a s. record { to = a; agrees = λ i lt. refl; satisfies = s; so = tt };
}

abbrev begun : BranchReading Bool
begun = record { ends = λ k a. elim k [ Held ↦ true | MetWrong ↦ false | MetBig ↦ false ]; next = λ a. bit a 0 }

begins : Branch (free 0) (free 1) (λ a. tt) any begun
begins = record {
  grown = grows 0;
  ends_read = reads;
  next_reads = λ a b p. p 0 (omega arith);
  sound = sound;
  reach = λ a t s p. record { to = t ∷ []; agrees = λ i lt. absurd (omega (arith, lt)); satisfies = tt; so = (refl, refl) };
  find = find;
}
  where
    reads : (k : Ending) → Reads 1 (begun.ends k)
    reads Held a b p = refl
    reads MetWrong a b p = refl
    reads MetBig a b p = refl

    sound : (k : Ending) (a : Assignment) → Unit {0} → begun.ends k a ≡ true → any k tt (bit a 0)
    sound Held a s e = tt
    sound MetWrong a s e = never e
    sound MetBig a s e = never e

    find : (k : Ending) (a : Assignment) (t : Bool) → Unit {0} → any k tt t → Extended (free 0) (free 1) a (λ b. begun.ends k b ≡ true)
    find Held a t s p = record { to = a; agrees = λ i lt. refl; satisfies = tt; so = refl }
    find MetWrong a t s p = absurd p
    find MetBig a t s p = absurd p

-- the second state is the second bit, and a step from TRUE has a fault
abbrev goes : BranchReading Bool
goes = record { ends = λ k a. elim k [ Held ↦ true | MetWrong ↦ bit a 0 | MetBig ↦ false ]; next = λ a. bit a 1 }

agrees_first : (a : Assignment) (t : Bool) → Agree 1 a (bit a 0 ∷ t ∷ [])
agrees_first a t zero lt = refl
agrees_first a t (suc i) lt = absurd (omega (arith, lt))

steps : Branch (free 1) (free 2) (λ a. bit a 0) step goes
steps = record {
  grown = grows 1;
  ends_read = reads;
  next_reads = λ a b p. p 1 (omega arith);
  sound = sound;
  reach = λ a t s p. record { to = bit a 0 ∷ t ∷ []; agrees = agrees_first a t; satisfies = tt; so = (refl, refl) };
  find = find;
}
  where
    reads : (k : Ending) → Reads 2 (goes.ends k)
    reads Held a b p = refl
    reads MetWrong a b p = p 0 (omega arith)
    reads MetBig a b p = refl

    sound : (k : Ending) (a : Assignment) → Unit {0} → goes.ends k a ≡ true → step k (bit a 0) (bit a 1)
    sound Held a s e = tt
    sound MetWrong a s e = e
    sound MetBig a s e = never e

    find : (k : Ending) (a : Assignment) (t : Bool) → Unit {0} → step k (bit a 0) t → Extended (free 1) (free 2) a (λ b. goes.ends k b ≡ true)
    find Held a t s p = record { to = a; agrees = λ i lt. refl; satisfies = tt; so = refl }
    find MetWrong a t s p = record { to = a; agrees = λ i lt. refl; satisfies = tt; so = p }
    find MetBig a t s p = absurd p

zeroth : Level (free 1) (first_level begun) (Run any step 0)
zeroth = level_start (free 0) (free 1) any step begun (record { at = []; satisfies = tt; so = tt }) begins

abbrev on : Assignment → Bool
on a = true

steps_under : Branch (record { vars = 1; Sat = λ a. Unit {0} × (on a ≡ true) }) (record { vars = 2; Sat = λ a. Unit {0} × (on a ≡ true) }) (λ a. bit a 0) step goes
steps_under = branch_under (free 1) (free 2) on (λ a. bit a 0) step goes (λ a b p. refl) steps

first : Level (free 2) (next_level (first_level begun) goes on) (Run any step 1)
first =
    level_step (free 1) (free 2) (free 2) (first_level begun) goes any step 0 on zeroth (grows 1) steps_under (grown_refl (free 2))
    (record { reads = λ a b p. refl; is = λ a s. refl })

-- the step's fault is met from TRUE
fault : Question (free 2) (step_question (first_level begun) goes (λ a. bit a 0)) (Behind (Run any step 0) (λ s t. step MetWrong s t))
fault =
    question_step (free 1) (free 2) (free 2) (first_level begun) goes (Run any step 0) step zeroth (grows 1) steps_under (grown_refl (free 2)) MetWrong (λ a. bit a 0)
    (record { reads = λ a b p. p 0 (omega arith); is = λ a s. refl })
