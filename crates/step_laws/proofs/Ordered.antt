-- Executions from the newest state are executions in their order.
use Rattle.std.proofs.Common.{◌≡◌, ◌↔◌, ℕ, zero, suc, ◌+◌, List, [], ◌∷◌, ◌++◌, length, reverse, Some, refl, sym, ◌∙◌, ap, subst, arith, append_assoc}
use Rattle.std.proofs.lemmas.List.{length-reverse, reverse-append, reverse-reverse}
use Rattle.tla_meaning.specs.declared.job.Job.{Job}
use Rattle.tla_meaning.specs.declared.job.State.{State}
use Rattle.tla_meaning.specs.declared.outcome.Outcome.{Outcome}
use Rattle.tla_meaning.specs.Executions.{AreSteps, invariant, last_of}
use Rattle.tla_meaning.specs.Numbers.{Width}
use Rattle.level_laws.specs.Levels.{Behind}
use Rattle.step_laws.specs.Origins.{IsExecutionFrom, Origin, Reached}
use Rattle.step_laws.specs.Rows.{EndsWith, InvariantShows, NextIs, StartRow, StateRow, StepRow, StepShows}

some_same : {X : Type 0} {x y : X} → Some x ≡ Some y → x ≡ y
some_same e = cc

reverse_more : {X : Type 0} (x : X) (xs ys : List X) → reverse (x ∷ xs) ++ ys ≡ reverse xs ++ x ∷ ys
reverse_more x xs ys = ap (λ (zs : List _). zs ++ ys) (reverse-append (x ∷ []) xs) ∙ append_assoc (reverse xs) (x ∷ []) ys

last_one : {X : Type 0} (xs : List X) (x : X) → last_of (xs ++ x ∷ []) ≡ Some x
last_one [] x = refl
last_one (y ∷ []) x = refl
last_one (y ∷ z ∷ xs) x = last_one (z ∷ xs) x

module _ (w : Width) (job : Job) (o : Origin) where
  reached_length : (n : ℕ) (ss : List State) (s : State) → Reached w job o n ss s → length ss ≡ n
  reached_length zero [] s r = refl
  reached_length (suc n) (u ∷ ss) s r = let h = reached_length n ss u r.0 in omega arith
  reached_length zero (u ∷ ss) s r = absurd r
  reached_length (suc n) [] s r = absurd r

  forward : (n : ℕ) (ss : List State) (s : State) (ts : List State) → Reached w job o n ss s → AreSteps w job s ts → IsExecutionFrom w job o (reverse ss ++ s ∷ ts)
  forward zero [] s ts r h = (r, h)
  forward (suc n) (u ∷ ss) s ts r h =
      subst (IsExecutionFrom w job o) (sym (reverse_more u ss (s ∷ ts))) (forward n ss u (s ∷ ts) r.0 (r.1, h))
  forward zero (u ∷ ss) s ts r h = absurd r
  forward (suc n) [] s ts r h = absurd r

  pub ends_with : (n : ℕ) (ss : List State) (s : State) (Q : State → Type 0) → Reached w job o n ss s → Q s → EndsWith w job o n (reverse (s ∷ ss)) Q
  ends_with n ss s Q r q =
      let e : reverse (s ∷ ss) ≡ reverse ss ++ s ∷ [] = reverse-append (s ∷ []) ss in
      record {
        execution = subst (IsExecutionFrom w job o) (sym e) (forward n ss s [] r tt);
        steps = length-reverse (s ∷ ss) ∙ (let h = reached_length n ss s r in omega arith);
        last = s;
        ends = ap last_of e ∙ last_one (reverse ss) s;
        so = q;
      }

  -- states from the newest one
  pub record Turned (n : ℕ) (states : List State) (Q : State → Type 0) : Type 0 where
    pub past : List State
    pub now : State
    pub same : states ≡ reverse (now ∷ past)
    pub reached : Reached w job o n past now
    pub so : Q now

  onward : (n : ℕ) (ss : List State) (u : State) (xs : List State) (l : State) (Q : State → Type 0) → Reached w job o n ss u → AreSteps w job u xs → last_of (u ∷ xs) ≡ Some l → Q l →
      Turned (n + length xs) (reverse ss ++ u ∷ xs) Q
  onward n ss u [] l Q r h e q = record {
    past = ss;
    now = u;
    same = sym (reverse-append (u ∷ []) ss);
    reached = subst (λ (k : ℕ). Reached w job o k ss u) (omega arith) r;
    so = subst Q (sym (some_same e)) q;
  }
  onward n ss u (v ∷ xs) l Q r h e q =
      let z = onward (suc n) (u ∷ ss) v xs l Q (r, h.0) h.1 e q in
      record {
        past = z.past;
        now = z.now;
        same = sym (reverse_more u ss (v ∷ xs)) ∙ z.same;
        reached = subst (λ (k : ℕ). Reached w job o k z.past z.now) (count (length xs)) z.reached;
        so = z.so;
      }
    where
      count : (k : ℕ) → suc n + k ≡ n + suc k
      count k = omega arith

  pub turned : (n : ℕ) (states : List State) (Q : State → Type 0) → EndsWith w job o n states Q → Turned n states Q
  turned n [] Q e = absurd e.execution
  turned n (u ∷ xs) Q e =
      let z = onward 0 [] u xs e.last Q e.execution.0 e.execution.1 e.ends e.so in
      record {
        past = z.past;
        now = z.now;
        same = z.same;
        reached = subst (λ (k : ℕ). Reached w job o k z.past z.now) (let h = e.steps in omega arith) z.reached;
        so = z.so;
      }

  -- ---- rows

  turn : (ss : List State) (states : List State) → reverse states ≡ ss → states ≡ reverse ss
  turn ss states e = sym (reverse-reverse states) ∙ ap reverse e

  behind_ends : (n : ℕ) (Q : State → State → Type 0) (ss states : List State) (t : State) → reverse states ≡ ss → Behind (Reached w job o n) Q ss t →
      EndsWith w job o n states (λ s. Q s t)
  behind_ends n Q [] states t e r = absurd r
  behind_ends n Q (s ∷ ss) states t e r =
      subst (λ (xs : List State). EndsWith w job o n xs (λ s. Q s t)) (sym (turn (s ∷ ss) states e)) (ends_with n ss s (λ s. Q s t) r.0 r.1)

  ends_behind : (n : ℕ) (Q : State → State → Type 0) (states : List State) (t : State) → EndsWith w job o n states (λ s. Q s t) →
      Behind (Reached w job o n) Q (reverse states) t
  ends_behind n Q states t e =
      let z = turned n states (λ s. Q s t) e in
      subst (λ (xs : List State). Behind (Reached w job o n) Q xs t) (sym (ap reverse z.same ∙ reverse-reverse (z.now ∷ z.past))) (z.reached, z.so)

  -- the row of a step's question, in both orders
  pub step_rows : (Is : Outcome → Type 0) (n : ℕ) (states : List State) (t : State) → StepRow Is w job o n (reverse states) t ↔ StepShows Is w job o (suc n) states t
  step_rows Is n states t = (behind_ends n (NextIs Is w job) (reverse states) states t refl, ends_behind n (NextIs Is w job) states t)

  pub state_rows : (Is : Outcome → Type 0) (n : ℕ) (states : List State) (t : State) → StateRow Is w job o n (reverse states) t ↔ InvariantShows Is w job o n states
  state_rows Is n states t =
      (behind_ends n (λ s t. Is (invariant w job s)) (reverse states) states t refl, ends_behind n (λ s t. Is (invariant w job s)) states t)

  pub start_rows : (Is : Outcome → Type 0) (states : List State) (t : State) → StartRow Is o (reverse states) t ↔ StepShows Is w job o zero states t
  start_rows Is states t = (to (reverse states) refl, from)
    where
      to : (ss : List State) → reverse states ≡ ss → StartRow Is o ss t → StepShows Is w job o zero states t
      to [] e r = (turn [] states e, r)
      to (s ∷ ss) e r = absurd r

      from : StepShows Is w job o zero states t → StartRow Is o (reverse states) t
      from r = subst (λ (xs : List State). StartRow Is o (reverse xs) t) (sym r.0) r.1
