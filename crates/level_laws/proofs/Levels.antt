-- Levels, one step further, and the questions that are asked of them; what is refuted; what growth keeps.
use Rattle.std.proofs.Common.{◌↔◌, reverse, ap, ◌≡◌, ℕ, suc, Bool, true, false, List, [], ◌∷◌, refl, sym, ◌∙◌, ap₂, subst, if◌then◌else◌}
use Rattle.std.proofs.lemmas.List.{reverse-reverse}
use Rattle.level_laws.specs.Constraints.{Assignment, Constraint, Agree, Allowed, Extended, Grown, HasValue, IsTrueWhere, Reads, under}
use Rattle.level_laws.specs.Branches.{Ending, Held, Transition, BranchReading, Branch}
use Rattle.level_laws.specs.Levels.{Start, Run, LevelReading, Level, QuestionReading, Question, AtStart, Behind}
use Rattle.level_laws.proofs.Bits.{both_true, first_true, second_true}
use Rattle.level_laws.proofs.Growing.{agree_less, agree_more, allowed_more, grown_trans, reads_back, reads_more}

-- ---- growth

pub level_later : {S : Type 0} (f g : Constraint) (x : LevelReading S) (R : List S → S → Type 0) → Level f x R → Grown f g → Level g x R
level_later f g x R l gr = record {
  on_reads = reads_more f.vars g.vars x.on gr.vars l.on_reads;
  past_reads = reads_more f.vars g.vars x.past gr.vars l.past_reads;
  now_reads = reads_more f.vars g.vars x.now gr.vars l.now_reads;
  sound = λ a s e. l.sound a (gr.stays a s) e;
  reach = λ ss t r.
      allowed_more f g (λ a. (x.on a ≡ true) × ((x.past a ≡ ss) × (x.now a ≡ t))) (λ a. (x.on a ≡ true) × ((x.past a ≡ ss) × (x.now a ≡ t))) gr (l.reach ss t r)
      (λ b c u ag. (
        reads_back f.vars x.on true b c l.on_reads ag u.0,
        (reads_back f.vars x.past ss b c l.past_reads ag u.1.0, reads_back f.vars x.now t b c l.now_reads ag u.1.1),
      ));
}

pub question_later : {S T : Type 0} (f g : Constraint) (x : QuestionReading S T) (R : List S → T → Type 0) → Question f x R → Grown f g → Question g x R
question_later f g x R q gr = record {
  asks_reads = reads_more f.vars g.vars x.asks gr.vars q.asks_reads;
  states_read = reads_more f.vars g.vars x.states gr.vars q.states_read;
  attempt_reads = reads_more f.vars g.vars x.attempt gr.vars q.attempt_reads;
  sound = λ a s e. q.sound a (gr.stays a s) e;
  find = λ ss t r.
      allowed_more f g (λ a. (x.asks a ≡ true) × (x.states a ≡ ss)) (λ a. (x.asks a ≡ true) × (x.states a ≡ ss)) gr (q.find ss t r)
      (λ b c u ag. (reads_back f.vars x.asks true b c q.asks_reads ag u.0, reads_back f.vars x.states ss b c q.states_read ag u.1));
}

-- ---- what they say may be said otherwise

pub level_same : {S : Type 0} (f : Constraint) (x : LevelReading S) (R R' : List S → S → Type 0) →
    ((ss : List S) (s : S) → R ss s → R' ss s) → ((ss : List S) (s : S) → R' ss s → R ss s) → Level f x R → Level f x R'
level_same f x R R' to from l = record {
  on_reads = l.on_reads;
  past_reads = l.past_reads;
  now_reads = l.now_reads;
  sound = λ a s e. to (x.past a) (x.now a) (l.sound a s e);
  reach = λ ss s r. l.reach ss s (from ss s r);
}

pub question_same : {S T : Type 0} (f : Constraint) (x : QuestionReading S T) (R R' : List S → T → Type 0) →
    ((ss : List S) (t : T) → R ss t → R' ss t) → ((ss : List S) (t : T) → R' ss t → R ss t) → Question f x R → Question f x R'
question_same f x R R' to from q = record {
  asks_reads = q.asks_reads;
  states_read = q.states_read;
  attempt_reads = q.attempt_reads;
  sound = λ a s e. to (x.states a) (x.attempt a) (q.sound a s e);
  find = λ ss t r. q.find ss t (from ss t r);
}

-- ---- level 0

abbrev pub first_level : {S : Type 0} → BranchReading S → LevelReading S
first_level x = record { on = x.ends Held; past = λ a. []; now = x.next }

-- a branch from nothing over a formula that something satisfies
pub level_start : {S : Type 0} (f g : Constraint) (I : Start S) (P : Transition S S) (x : BranchReading S) →
    Allowed f (λ a. Unit {0}) → Branch f g (λ a. tt) I x → Level g (first_level x) (Run I P 0)
level_start {S = S} f g I P x some b = record {
  on_reads = b.ends_read Held;
  past_reads = λ a c ag. refl;
  now_reads = b.next_reads;
  sound = λ a s e. b.sound Held a s e;
  reach = reach;
}
  where
    reach : (ss : List S) (s : S) → Run I P 0 ss s → Allowed g (λ a. (x.ends Held a ≡ true) × (([] ≡ ss) × (x.next a ≡ s)))
    reach [] s r =
        let u = b.reach some.at s some.satisfies r in
        record { at = u.to; satisfies = u.satisfies; so = (u.so.0, (refl, u.so.1)) }
    reach (z ∷ ss) s r = absurd r

abbrev pub start_question : {S T : Type 0} → Ending → BranchReading T → QuestionReading S T
start_question k x = record { asks = x.ends k; states = λ a. []; attempt = x.next }

-- its faults: a start that has one has no state
pub question_start : {S T : Type 0} (f g : Constraint) (I : Start T) (x : BranchReading T) (k : Ending) →
    Allowed f (λ a. Unit {0}) → Branch f g (λ a. tt) I x → Question g (start_question {S = S} k x) (AtStart (λ t. I k tt t))
question_start {S = S} {T = T} f g I x k some b = record {
  asks_reads = b.ends_read k;
  states_read = λ a c ag. refl;
  attempt_reads = b.next_reads;
  sound = λ a s e. b.sound k a s e;
  find = find;
}
  where
    find : (ss : List S) (t : T) → AtStart (λ t. I k tt t) ss t → Allowed g (λ a. (x.ends k a ≡ true) × ([] ≡ ss))
    find [] t r = let u = b.find k some.at t some.satisfies r in record { at = u.to; satisfies = u.satisfies; so = (u.so, refl) }
    find (s ∷ ss) t r = absurd r

-- ---- one step further, from a branch that is known only where the run literal is true

-- the literals that the step makes of the run's and the branch's
abbrev pub IsAlso : {S : Type 0} → Constraint → (Assignment → Bool) → LevelReading S → BranchReading S → Ending → Type 0
IsAlso f r x y k = HasValue f r (λ a. if x.on a then y.ends k a else false)

abbrev pub next_level : {S : Type 0} → LevelReading S → BranchReading S → (Assignment → Bool) → LevelReading S
next_level x y on = record { on = on; past = λ a. x.now a ∷ x.past a; now = y.next }

abbrev pub step_question : {S : Type 0} → LevelReading S → BranchReading S → (Assignment → Bool) → QuestionReading S S
step_question x y asks = record { asks = asks; states = λ a. x.now a ∷ x.past a; attempt = y.next }

module _ {S : Type 0} (f g h : Constraint) (x : LevelReading S) (y : BranchReading S) (R : List S → S → Type 0) (P : Transition S S)
    (l : Level f x R) (fg : Grown f g) (b : Branch (under f x.on) (under g x.on) x.now P y) (gh : Grown g h) where
  up : Grown f h
  up = grown_trans f g h fg gh

  states_read : Reads h.vars (λ a. x.now a ∷ x.past a)
  states_read a c ag =
      let older = agree_less f.vars h.vars a c up.vars ag in
      ap₂ (λ (s : S) (ss : List S). s ∷ ss) (l.now_reads a c older) (l.past_reads a c older)

  -- what is read where both literals are true
  both : (k : Ending) (q : Assignment → Bool) → IsAlso h q x y k → (a : Assignment) → h.Sat a → q a ≡ true →
      R (x.past a) (x.now a) × P k (x.now a) (y.next a)
  both k q also a s e =
      let e' = sym (also.is a s) ∙ e in
      let o = first_true (x.on a) (y.ends k a) e' in
      let sg = gh.stays a s in
      (l.sound a (fg.stays a sg) o, b.sound k a (sg, o) (second_true (x.on a) (y.ends k a) e'))

  -- an extension that reads these states, with an end of the branch
  goes : (k : Ending) (q : Assignment → Bool) (Q : Assignment → Type 0) → IsAlso h q x y k → (ss : List S) (s : S) → R ss s →
      ((c : Assignment) → (under f x.on).Sat c → x.now c ≡ s → Extended (under f x.on) (under g x.on) c (λ d. (y.ends k d ≡ true) × Q d)) →
      Allowed h (λ a. (q a ≡ true) × (((x.now a ∷ x.past a) ≡ (s ∷ ss)) × ((d : Assignment) × (Agree g.vars d a × Q d))))
  goes k q Q also ss s r go =
      let u = l.reach ss s r in
      let v = go u.at (u.satisfies, u.so.0) u.so.1.1 in
      let w = gh.extends v.to v.satisfies.0 in
      let ag : Agree f.vars u.at w.to = agree_more f.vars g.vars u.at v.to w.to fg.vars v.agrees w.agrees in
      record {
        at = w.to;
        satisfies = w.satisfies;
        so = (
          also.is w.to w.satisfies
              ∙ both_true (x.on w.to) (y.ends k w.to) (reads_back f.vars x.on true u.at w.to l.on_reads ag u.so.0)
              (reads_back g.vars (y.ends k) true v.to w.to (b.ends_read k) w.agrees v.so.0),
          (
            ap₂ (λ (s : S) (ss : List S). s ∷ ss) (reads_back f.vars x.now s u.at w.to l.now_reads ag u.so.1.1)
                (reads_back f.vars x.past ss u.at w.to l.past_reads ag u.so.1.0),
            (v.to, (w.agrees, v.so.1)),
          ),
        );
      }

  -- a fault of the step, or that it holds: the runs so far and the branch's ending
  pub question_step : (k : Ending) (q : Assignment → Bool) → IsAlso h q x y k → Question h (step_question x y q) (Behind R (λ s t. P k s t))
  question_step k q also = record {
    asks_reads = also.reads;
    states_read = states_read;
    attempt_reads = reads_more g.vars h.vars y.next gh.vars b.next_reads;
    sound = both k q also;
    find = find;
  }
    where
      find : (ss : List S) (t : S) → Behind R (λ s t. P k s t) ss t → Allowed h (λ a. (q a ≡ true) × ((x.now a ∷ x.past a) ≡ ss))
      find [] t r = absurd r
      find (s ∷ ss) t r =
          let u = goes k q (λ d. Unit {0}) also ss s r.0
          (λ c sc e.
          let v = b.find k c t sc (subst (λ (z : S). P k z t) (sym e) r.1) in
          record { to = v.to; agrees = v.agrees; satisfies = v.satisfies; so = (v.so, tt) }) in
          record { at = u.at; satisfies = u.satisfies; so = (u.so.0, u.so.1.0) }

-- the next level: n + 1 steps
pub level_step : {S : Type 0} (f g h : Constraint) (x : LevelReading S) (y : BranchReading S) (I : Start S) (P : Transition S S) (n : ℕ) (on : Assignment → Bool) →
    Level f x (Run I P n) → Grown f g → Branch (under f x.on) (under g x.on) x.now P y → Grown g h → IsAlso h on x y Held →
    Level h (next_level x y on) (Run I P (suc n))
level_step {S = S} f g h x y I P n on l fg b gh also = record {
  on_reads = also.reads;
  past_reads = states_read f g h x y (Run I P n) P l fg b gh;
  now_reads = reads_more g.vars h.vars y.next gh.vars b.next_reads;
  sound = λ a s e. both f g h x y (Run I P n) P l fg b gh Held on also a s e;
  reach = reach;
}
  where
    reach : (ss : List S) (t : S) → Run I P (suc n) ss t → Allowed h (λ a. (on a ≡ true) × (((x.now a ∷ x.past a) ≡ ss) × (y.next a ≡ t)))
    reach [] t r = absurd r
    reach (s ∷ ss) t r =
        let u = goes f g h x y (Run I P n) P l fg b gh Held on (λ d. y.next d ≡ t) also ss s r.0
        (λ c sc e. b.reach c t sc (subst (λ (z : S). P Held z t) (sym e) r.1)) in
        let d = u.so.1.1 in
        record { at = u.at; satisfies = u.satisfies; so = (u.so.0, (u.so.1.0, reads_back g.vars y.next t d.0 u.at b.next_reads d.1.0 d.1.1)) }

-- ---- a question of the last state

-- the attempt is of no account here
abbrev pub state_question : {S T : Type 0} → LevelReading S → (Assignment → T) → (Assignment → Bool) → QuestionReading S T
state_question x attempt asks = record { asks = asks; states = λ a. x.now a ∷ x.past a; attempt = attempt }

-- the run literal is true, and this holds of the last state
abbrev pub OnState : {S : Type 0} → LevelReading S → (S → Type 0) → Assignment → Type 0
OnState x Q a = (x.on a ≡ true) × Q (x.now a)

pub question_state : {S T : Type 0} (f h : Constraint) (x : LevelReading S) (attempt : Assignment → T) (R : List S → S → Type 0) (Q : S → Type 0) (q : Assignment → Bool) →
    Level f x R → Reads h.vars attempt → Grown f h → IsTrueWhere h q (OnState x Q) → Question h (state_question x attempt q) (Behind R (λ s t. Q s))
question_state {S = S} {T = T} f h x attempt R Q q l reads up exact = record {
  asks_reads = exact.reads;
  states_read = λ a c ag.
      let older = agree_less f.vars h.vars a c up.vars ag in
      ap₂ (λ (s : S) (ss : List S). s ∷ ss) (l.now_reads a c older) (l.past_reads a c older);
  attempt_reads = reads;
  sound = λ a s e. let o = (exact.exact a s).0 e in (l.sound a (up.stays a s) o.0, o.1);
  find = find;
}
  where
    find : (ss : List S) (t : T) → Behind R (λ s t. Q s) ss t → Allowed h (λ a. (q a ≡ true) × ((x.now a ∷ x.past a) ≡ ss))
    find [] t r = absurd r
    find (s ∷ ss) t r =
        let u = l.reach ss s r.0 in
        let w = up.extends u.at u.satisfies in
        let e : x.now w.to ≡ s = reads_back f.vars x.now s u.at w.to l.now_reads w.agrees u.so.1.1 in
        let o : x.on w.to ≡ true = reads_back f.vars x.on true u.at w.to l.on_reads w.agrees u.so.0 in
        record {
          at = w.to;
          satisfies = w.satisfies;
          so = (
            (exact.exact w.to w.satisfies).1 (o, subst Q (sym e) r.1),
            ap₂ (λ (s : S) (ss : List S). s ∷ ss) e (reads_back f.vars x.past ss u.at w.to l.past_reads w.agrees u.so.1.0),
          );
        }

-- of a literal that is exact where the run literal is true
pub also_true : {S : Type 0} (g h : Constraint) (x : LevelReading S) (Q : S → Type 0) (bad q : Assignment → Bool) →
    IsTrueWhere (under g x.on) bad (λ a. Q (x.now a)) → Grown g h → HasValue h q (λ a. if x.on a then bad a else false) → IsTrueWhere h q (OnState x Q)
also_true g h x Q bad q def gh also = record {
  reads = also.reads;
  exact = λ a s. (
    λ e.
        let e' = sym (also.is a s) ∙ e in
        let o = first_true (x.on a) (bad a) e' in
        (o, (def.exact a (gh.stays a s, o)).0 (second_true (x.on a) (bad a) e')),
    λ m. also.is a s ∙ both_true (x.on a) (bad a) m.0 ((def.exact a (gh.stays a s, m.0)).1 m.1),
  );
}

-- ---- the states in their order

abbrev pub turned : {S T : Type 0} → QuestionReading S T → QuestionReading S T
turned x = record { asks = x.asks; states = λ a. reverse (x.states a); attempt = x.attempt }

pub question_turned : {S T : Type 0} (f : Constraint) (x : QuestionReading S T) (R R' : List S → T → Type 0) →
    ((ss : List S) (t : T) → R (reverse ss) t ↔ R' ss t) → Question f x R → Question f (turned x) R'
question_turned {S = S} {T = T} f x R R' rows q = record {
  asks_reads = q.asks_reads;
  states_read = λ a b ag. ap reverse (q.states_read a b ag);
  attempt_reads = q.attempt_reads;
  sound = λ a s e.
      (rows (reverse (x.states a)) (x.attempt a)).0
      (subst (λ (ss : List S). R ss (x.attempt a)) (sym (reverse-reverse (x.states a))) (q.sound a s e));
  find = λ ss t r.
      let u = q.find (reverse ss) t ((rows ss t).1 r) in
      record { at = u.at; satisfies = u.satisfies; so = (u.so.0, ap reverse u.so.1 ∙ reverse-reverse ss) };
}

pub behind_same : {S T : Type 0} {R R' : List S → S → Type 0} {Q Q' : S → T → Type 0} →
    ((ss : List S) (s : S) → R ss s → R' ss s) → ((ss : List S) (s : S) (t : T) → R ss s → Q s t → Q' s t) →
    (ss : List S) (t : T) → Behind R Q ss t → Behind R' Q' ss t
behind_same to as' [] t r = absurd r
behind_same to as' (s ∷ ss) t r = (to ss s r.0, as' ss s t r.0 r.1)

pub at_start_same : {S T : Type 0} {Q Q' : T → Type 0} → ((t : T) → Q t → Q' t) → (ss : List S) (t : T) → AtStart Q ss t → AtStart Q' ss t
at_start_same to [] t r = to t r
at_start_same to (s ∷ ss) t r = absurd r

-- ---- answers

-- what is refuted does not hold
pub question_refuted : {S T : Type 0} (f : Constraint) (x : QuestionReading S T) (R : List S → T → Type 0) →
    Question f x R → ((a : Assignment) → f.Sat a → x.asks a ≡ true → ⊥) → (ss : List S) (t : T) → R ss t → ⊥
question_refuted f x R q none ss t r = let u = q.find ss t r in none u.at u.satisfies u.so.0

-- states that meet the question are read with one attempt with which they do
pub question_attempt : {S T : Type 0} (f : Constraint) (x : QuestionReading S T) (R : List S → T → Type 0) →
    Question f x R → (ss : List S) (t : T) → R ss t → Allowed f (λ a. (x.asks a ≡ true) × ((x.states a ≡ ss) × R ss (x.attempt a)))
question_attempt {S = S} f x R q ss t r =
    let u = q.find ss t r in
    record {
      at = u.at;
      satisfies = u.satisfies;
      so = (u.so.0, (u.so.1, subst (λ (ss : List S). R ss (x.attempt u.at)) u.so.1 (q.sound u.at u.satisfies u.so.0)));
    }
