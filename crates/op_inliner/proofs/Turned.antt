-- An expression with its primes at the variables and its UNCHANGED as equations means the same.
use Rattle.std.proofs.Common.{◌≡◌, ℕ, zero, suc, Bool, true, false, ◌&&◌, ◌||◌, IsTrue, List, [], ◌∷◌, map, length, slice_get, refl, ap, ap₂, ◌∙◌, sym, subst, None, if◌then◌else◌}
use Rattle.std.specs.List.{list_all}
use Rattle.tla_values.specs.declared.value.Value.TheVariants as value
use Rattle.tla_meaning.specs.declared.actions.Assignable.{Assignable}
use Rattle.tla_meaning.specs.declared.actions.Assignable.TheVariants.{Every, Primed, Constants, Variables, PrimedVariables}
use Rattle.tla_meaning.specs.declared.actions.Effect.{Effect}
use Rattle.tla_meaning.specs.declared.expr.Expr.{Expr, roll-Expr}
use Rattle.tla_meaning.specs.declared.expr.Expr.TheOpen.{Expr-F}
use Rattle.tla_meaning.specs.declared.expr.Expr.TheFolds.{map-Expr, ind-Expr}
use Rattle.tla_meaning.specs.declared.job.State.{State}
use Rattle.tla_meaning.specs.declared.op.Op.{Op}
use Rattle.tla_meaning.specs.declared.op.Op.TheVariants as op
use Rattle.tla_meaning.specs.declared.outcome.Outcome.{Outcome}
use Rattle.tla_meaning.specs.declared.outcome.Outcome.TheVariants.{Val, Wrong, Big}
use Rattle.tla_meaning.specs.declared.place.Place.{Place}
use Rattle.tla_meaning.specs.Numbers.{Width}
use Rattle.tla_meaning.specs.Operators.{table, yes_no}
use Rattle.tla_meaning.specs.Outcomes.{strict}
use Rattle.tla_meaning.specs.Scopes.{Scope, Denotation, bind, find_last, absent, value_found}
use Rattle.tla_meaning.specs.Meaning.{Meaning, denotations, outcomes, Role, Named, Held, Lets, Plain_role, role, view, outer, inner, conjoined, disjoined, changed, plain, kept_value}
use Rattle.tla_meaning.specs.Actions.{meaning, denotation_of, effects, effects_and, effects_or, effect_of, any_mentions, counts, under_prime}
use Rattle.tla_meaning.specs.Substitution.{Test, each}
use Rattle.op_inliner.specs.Primes.{Turned, variable_at, name_at, inner_node, turned_trees, kept_trees, tree_of, equation, kept_of, tuple_of, turned, done, plain_op}
use Rattle.op_inliner.specs.declared.parts.PartKind.{PartKind}
use Rattle.op_inliner.specs.declared.parts.PartKind.TheVariants as kind
use Rattle.tla_meaning.proofs.MeaningLemmas.{meaning-roll}
use Rattle.tla_meaning.proofs.Views.{and_left, and_right, false≢true}
use Rattle.tla_meaning.proofs.Laws.{each-roll}
use Rattle.op_inliner.proofs.Rolls.{turned-roll}
use Rattle.op_inliner.proofs.Seen.{Seen, seen, all_seen, node_seen}

-- ---- what is read under primes

-- the state that is read under this many primes
abbrev pub after : ℕ → State → State → State
after zero s t = s
after (suc n) s t = t

-- what counts as assigned there
abbrev pub under_primes : ℕ → Assignable → Assignable
under_primes zero m = m
under_primes (suc n) m = under_prime m

under_twice : (m : Assignable) → under_prime (under_prime m) ≡ under_prime m
under_twice Every = refl
under_twice Primed = refl
under_twice (Constants n) = refl
under_twice (Variables n) = refl
under_twice (PrimedVariables n) = refl

primed_at : (n : ℕ) (m : Assignable) → under_prime (under_primes n m) ≡ under_primes (suc n) m
primed_at zero m = refl
primed_at (suc n) m = under_twice m

-- under a prime a name counts as a primed one
counts_under : (m : Assignable) (i : ℕ) (b : Bool) → counts (under_prime m) i b ≡ counts m i true
counts_under Every i b = refl
counts_under Primed i b = refl
counts_under (Constants n) i b = refl
counts_under (Variables n) i b = refl
counts_under (PrimedVariables n) i b = refl

-- a prime makes no difference to whether a constant counts
abbrev pub Steady : (ℕ → Bool) → Assignable → Type 0
Steady c m = (i : ℕ) → c i ≡ true → counts m i true ≡ counts m i false

-- the constants are the same in both states
abbrev pub AgreeOn : (ℕ → Bool) → State → State → Type 0
AgreeOn c s t = (i : ℕ) → c i ≡ true → slice_get s.vals i ≡ slice_get t.vals i

abbrev pub finished : Test
finished o xs = done o

-- a truth value or a fault
pub data Truth : Outcome → Type 0 where
  is-truth : (b : Bool) → Truth (yes_no b)
  is-wrong : (p : Place) → Truth (Wrong p)
  is-big : (p : Place) → Truth (Big p)

abbrev by_outcome : Outcome → Bool → Seen
by_outcome o b = record { value = o; form = plain o; act = effect_of o; mentions = b }

-- ---- small facts

or_false : (b : Bool) → (b || false) ≡ b
or_false true = refl
or_false false = refl

or_last : (b c d : Bool) → ((b || ((c || d) || false)) || false) ≡ ((b || c) || d)
or_last true c d = refl
or_last false true d = refl
or_last false false true = refl
or_last false false false = refl

or_two : (b c : Bool) → ((b || (c || false)) || false) ≡ (b || c)
or_two true c = refl
or_two false true = refl
or_two false false = refl

truth_step : (p : Place) (v : Outcome) → Truth v → (w : Width) → strict (v ∷ []) (table w p op.Not) ≡ changed p v
truth_step p v (is-truth b) w = by_value b
  where
    by_value : (b : Bool) → strict (yes_no b ∷ []) (table w p op.Not) ≡ changed p (yes_no b)
    by_value true = simp (value.outs-Bool)
    by_value false = simp (value.outs-Bool)
truth_step p v (is-wrong q) w = refl
truth_step p v (is-big q) w = refl

-- the value of `v' = v` doesn't depend on its place
eq_kept : (w : Width) (p q : Place) (a b : Outcome) → strict (b ∷ a ∷ []) (table w q op.Eq) ≡ kept_value p a b
eq_kept w p q (Val x) (Val y) = refl
eq_kept w p q (Val x) (Wrong r) = refl
eq_kept w p q (Val x) (Big r) = refl
eq_kept w p q (Wrong l) (Val y) = refl
eq_kept w p q (Wrong l) (Wrong r) = refl
eq_kept w p q (Wrong l) (Big r) = refl
eq_kept w p q (Big l) (Val y) = refl
eq_kept w p q (Big l) (Wrong r) = refl
eq_kept w p q (Big l) (Big r) = refl

kept_truth : (p : Place) (a b : Outcome) → Truth (kept_value p a b)
kept_truth p (Val x) (Val y) = is-truth _
kept_truth p (Val x) (Wrong r) = is-wrong r
kept_truth p (Val x) (Big r) = is-big r
kept_truth p (Wrong l) (Val y) = is-wrong l
kept_truth p (Wrong l) (Wrong r) = is-wrong _
kept_truth p (Wrong l) (Big r) = is-wrong l
kept_truth p (Big l) (Val y) = is-big l
kept_truth p (Big l) (Wrong r) = is-wrong r
kept_truth p (Big l) (Big r) = is-big _

pub data Truths : List Outcome → Type 0 where
  no-more : Truths []
  one-more : {o : Outcome} {os : List Outcome} → Truth o → Truths os → Truths (o ∷ os)

conjoined_truth : (p : Place) (os : List Outcome) → Truths os → Truth (conjoined p os)
conjoined_truth p _ no-more = is-truth true
conjoined_truth p _ (one-more {os = os} (is-truth true) h) = subst Truth (simp (value.outs-Bool)) (conjoined_truth p os h)
conjoined_truth p _ (one-more (is-truth false) h) = subst Truth (simp (value.outs-Bool)) (is-truth false)
conjoined_truth p _ (one-more (is-wrong q) h) = is-wrong q
conjoined_truth p _ (one-more (is-big q) h) = is-big q

conjoined_anywhere : (p q : Place) (os : List Outcome) → Truths os → conjoined q os ≡ conjoined p os
conjoined_anywhere p q _ no-more = refl
conjoined_anywhere p q _ (one-more {os = os} (is-truth true) h) = simp (value.outs-Bool) (conjoined_anywhere p q os h)
conjoined_anywhere p q _ (one-more (is-truth false) h) = simp (value.outs-Bool)
conjoined_anywhere p q _ (one-more (is-wrong r) h) = refl
conjoined_anywhere p q _ (one-more (is-big r) h) = refl

effects_conjoined : (p : Place) (os : List Outcome) → Truths os → effects_and (map effect_of os) ≡ effect_of (conjoined p os)
effects_conjoined p _ no-more = simp (value.outs-Bool)
effects_conjoined p _ (one-more {os = os} (is-truth true) h) = simp (value.outs-Bool) (effects_conjoined p os h)
effects_conjoined p _ (one-more (is-truth false) h) = simp (value.outs-Bool)
effects_conjoined p _ (one-more (is-wrong r) h) = refl
effects_conjoined p _ (one-more (is-big r) h) = refl

-- a node is finished where it and its children are
node_finished : (p : Place) (o : Op) (es : List Expr) (xs : List (List ℕ)) →
    IsTrue (each finished (roll-Expr (record { place = p; op = o; args = es; binds = xs }))) → IsTrue (done o && list_all (λ b. b) (map (each finished) es))
node_finished p o es xs h = sym (each-roll finished (record { place = p; op = o; args = es; binds = xs })) ∙ h

op_finished : (p : Place) (o : Op) (es : List Expr) (xs : List (List ℕ)) →
    IsTrue (each finished (roll-Expr (record { place = p; op = o; args = es; binds = xs }))) → IsTrue (done o)
op_finished p o es xs h = and_left (done o) (list_all (λ b. b) (map (each finished) es)) (node_finished p o es xs h)

args_finished : (p : Place) (o : Op) (es : List Expr) (xs : List (List ℕ)) →
    IsTrue (each finished (roll-Expr (record { place = p; op = o; args = es; binds = xs }))) → IsTrue (list_all (λ b. b) (map (each finished) es))
args_finished p o es xs h = and_right (done o) (list_all (λ b. b) (map (each finished) es)) (node_finished p o es xs h)

-- what is looked up stands for no whole
abbrev Lone : Role → Type 0
Lone (Named x) = ⊥
Lone (Lets ds) = ⊥
Lone (Held x) = Unit {0}
Lone (Plain_role ms) = Unit {0}

lone_role : (o : Op) (n : ℕ) → IsTrue (plain_op o) → Lone (role o n)
lone_role (op.Use x) n h = absurd (false≢true h)
lone_role (op.Param x) n h = absurd (false≢true h)
lone_role (op.Let ds) n h = absurd (false≢true h)
lone_role o n h = tt

-- what a node means in a scope, by its children's meanings
abbrev node_of : Width → Place → Op → List (List ℕ) → List Meaning → Scope → Denotation
node_of w p o xs ks a = denotation_of w p o (length xs) (view p (role o (length xs)) xs ks a)

rolled : (w : Width) (s t : State) (m : Assignable) (p : Place) (o : Op) (es : List Expr) (xs : List (List ℕ)) (a : Scope) →
    seen s t m (meaning w (roll-Expr (record { place = p; op = o; args = es; binds = xs })) a) ≡ seen s t m (node_of w p o xs (map (meaning w) es) a)
rolled w s t m p o es xs a = ap (λ (k : Meaning). seen s t m (k a)) (meaning-roll w (record { place = p; op = o; args = es; binds = xs }))

-- `A \/ UNCHANGED v` and `A /\ ~(UNCHANGED v)`
abbrev or_seen : Place → Seen → Seen → Seen
or_seen p x y = record {
  value = disjoined p (x.value ∷ y.value ∷ []);
  form = plain (disjoined p (x.value ∷ y.value ∷ []));
  act = if x.mentions || (y.mentions || false) then effects_or (x.act ∷ y.act ∷ []) else effect_of (disjoined p (x.value ∷ y.value ∷ []));
  mentions = (x.mentions || (y.mentions || false)) || false;
}

abbrev not_seen : Width → Place → Seen → Seen
not_seen w p y = by_outcome (strict (y.value ∷ []) (table w p op.Not)) ((y.mentions || false) || false)

abbrev and_seen : Place → Seen → Seen → Seen
and_seen p x y = record {
  value = conjoined p (x.value ∷ y.value ∷ []);
  form = plain (conjoined p (x.value ∷ y.value ∷ []));
  act = effects_and (x.act ∷ y.act ∷ []);
  mentions = (x.mentions || (y.mentions || false)) || false;
}

abbrev eq_seen : Width → Place → Seen → Seen → Seen
eq_seen w p x y = by_outcome (strict (x.value ∷ y.value ∷ []) (table w p op.Eq)) ((x.mentions || (y.mentions || false)) || false)

or_three : (b c d : Bool) → (b || ((c || d) || false)) ≡ ((b || c) || d)
or_three true c d = refl
or_three false true d = refl
or_three false false true = refl
or_three false false false = refl

or_four : (b c d : Bool) → ((b || ((((c || d) || false) || false) || false)) || false) ≡ ((b || c) || d)
or_four true c d = refl
or_four false true d = refl
or_four false false true = refl
or_four false false false = refl

or_swap : (a b c d : Bool) → ((a || b) || (c || d)) ≡ ((a || c) || (b || d))
or_swap true b c d = refl
or_swap false true true d = refl
or_swap false true false d = refl
or_swap false false c d = refl

or_pad : (b : Bool) → b ≡ ((b || false) || false)
or_pad true = refl
or_pad false = refl

inner_none : (m : Assignable) (p : Place) (ks : List Meaning) (a : Scope) → any_mentions m (inner p [] ks a) ≡ false
inner_none m p [] a = refl
inner_none m p (k ∷ ks) a = inner_none m p ks a

first_finished : (q : Place) (e f : Expr) → IsTrue (each finished (inner_node q op.Eq (e ∷ f ∷ []))) → IsTrue (each finished e)
first_finished q e f h = and_left (each finished e) (each finished f && true) (args_finished q op.Eq (e ∷ f ∷ []) [] h)

second_finished : (q : Place) (e f : Expr) → IsTrue (each finished (inner_node q op.Eq (e ∷ f ∷ []))) → IsTrue (each finished f)
second_finished q e f h =
    and_left (each finished f) true (and_right (each finished e) (each finished f && true) (args_finished q op.Eq (e ∷ f ∷ []) [] h))

-- ---- the law, between two states that agree on the constants

module _ (w : Width) (part : PartKind) (c : ℕ → Bool) (s t : State) (m : Assignable) (steady : Steady c m) (agree : AgreeOn c s t) where
  -- what is seen of UNCHANGED under this many primes
  abbrev kept_seen : ℕ → Denotation → Seen
  kept_seen n b = by_outcome (b.unchanged (after n s t) t) (b.mentions (under_primes (suc n) m) || b.mentions (under_primes n m))

  abbrev TreeLaw : Expr → Type 0
  TreeLaw e =
      (n : ℕ) (a : Scope) → IsTrue (each finished ((turned part c e).tree n)) →
      seen s t m (meaning w ((turned part c e).tree n) a) ≡ seen (after n s t) t (under_primes n m) (meaning w e a)

  abbrev KeptLaw : Expr → Type 0
  KeptLaw e =
      (q : Place) (n : ℕ) (a : Scope) → IsTrue (each finished ((turned part c e).kept q n)) →
      (seen s t m (meaning w ((turned part c e).kept q n) a) ≡ kept_seen n (meaning w e a))
      × Truth ((meaning w e a).unchanged (after n s t) t)

  -- UNCHANGED of what is no tuple says that the value stays
  abbrev PlainLaw : Expr → Type 0
  PlainLaw e =
      (n : ℕ) (a : Scope) → IsTrue (each finished ((turned part c e).tree n)) → (turned part c e).is_tuple ≡ false → (p : Place) (u v : State) →
      (meaning w e a).unchanged u v ≡ kept_value p ((meaning w e a).value u v) ((meaning w e a).value v v)

  abbrev Laws : Expr → Type 0
  Laws e = TreeLaw e × KeptLaw e × PlainLaw e

  abbrev Child : Type 0
  Child = (e : Expr) × Laws e

  abbrev exprs : List Child → List Expr
  exprs ys = map (λ y. y.0) ys

  abbrev turns : List Child → List Turned
  turns ys = map (turned part c) (exprs ys)

  outer_seen : (p : Place) (ms : List Bool) (ys : List Child) (n : ℕ) (a : Scope) →
      IsTrue (list_all (λ b. b) (map (each finished) (turned_trees (turns ys) n))) →
      all_seen s t m (outer p ms (map (meaning w) (turned_trees (turns ys) n)) a)
      ≡ all_seen (after n s t) t (under_primes n m) (outer p ms (map (meaning w) (exprs ys)) a)
  outer_seen p ms [] n a h = refl
  outer_seen p [] (y ∷ ys) n a h =
      let e : Expr = (turned part c y.0).tree n in
      let all : Bool = list_all (λ b. b) (map (each finished) (turned_trees (turns ys) n)) in
      ap₂ (λ (x : Seen) (xs : List Seen). x ∷ xs) (y.1.0 n a (and_left (each finished e) all h))
      (outer_seen p [] ys n a (and_right (each finished e) all h))
  outer_seen p (true ∷ ms) (y ∷ ys) n a h =
      let e : Expr = (turned part c y.0).tree n in
      let all : Bool = list_all (λ b. b) (map (each finished) (turned_trees (turns ys) n)) in
      ap (λ (xs : List Seen). seen s t m (absent p) ∷ xs)
      (outer_seen p ms ys n a (and_right (each finished e) all h))
  outer_seen p (false ∷ ms) (y ∷ ys) n a h =
      let e : Expr = (turned part c y.0).tree n in
      let all : Bool = list_all (λ b. b) (map (each finished) (turned_trees (turns ys) n)) in
      ap₂ (λ (x : Seen) (xs : List Seen). x ∷ xs) (y.1.0 n a (and_left (each finished e) all h))
      (outer_seen p ms ys n a (and_right (each finished e) all h))

  inner_seen : (p : Place) (ms : List Bool) (ys : List Child) (n : ℕ) (a : Scope) →
      IsTrue (list_all (λ b. b) (map (each finished) (turned_trees (turns ys) n))) →
      all_seen s t m (inner p ms (map (meaning w) (turned_trees (turns ys) n)) a)
      ≡ all_seen (after n s t) t (under_primes n m) (inner p ms (map (meaning w) (exprs ys)) a)
  inner_seen p ms [] n a h = refl
  inner_seen p [] (y ∷ ys) n a h =
      let e : Expr = (turned part c y.0).tree n in
      let all : Bool = list_all (λ b. b) (map (each finished) (turned_trees (turns ys) n)) in
      ap (λ (xs : List Seen). seen s t m (absent p) ∷ xs)
      (inner_seen p [] ys n a (and_right (each finished e) all h))
  inner_seen p (true ∷ ms) (y ∷ ys) n a h =
      let e : Expr = (turned part c y.0).tree n in
      let all : Bool = list_all (λ b. b) (map (each finished) (turned_trees (turns ys) n)) in
      ap₂ (λ (x : Seen) (xs : List Seen). x ∷ xs) (y.1.0 n a (and_left (each finished e) all h))
      (inner_seen p ms ys n a (and_right (each finished e) all h))
  inner_seen p (false ∷ ms) (y ∷ ys) n a h =
      let e : Expr = (turned part c y.0).tree n in
      let all : Bool = list_all (λ b. b) (map (each finished) (turned_trees (turns ys) n)) in
      ap (λ (xs : List Seen). seen s t m (absent p) ∷ xs)
      (inner_seen p ms ys n a (and_right (each finished e) all h))

  -- a node with an operator of its own
  plain_node : (p : Place) (o : Op) (xs : List (List ℕ)) (ys : List Child) (n : ℕ) (a : Scope) →
      IsTrue (plain_op o) → IsTrue (list_all (λ b. b) (map (each finished) (turned_trees (turns ys) n))) → (q : Role) → Lone q →
      seen s t m (denotation_of w p o (length xs) (view p q xs (map (meaning w) (turned_trees (turns ys) n)) a))
      ≡ seen (after n s t) t (under_primes n m) (denotation_of w p o (length xs) (view p q xs (map (meaning w) (exprs ys)) a))
  plain_node p o xs ys n a h k (Named x) l = absurd l
  plain_node p o xs ys n a h k (Lets ds) l = absurd l
  plain_node p o xs ys n a h k (Held x) l =
      node_seen w p o (length xs) _ _ (λ vs. []) (λ vs. []) (find_last x a.bound) (find_last x a.bound) s t (after n s t) t m (under_primes n m) h
      (senses_seen ys k) (λ vs. refl) refl
    where
      senses_seen : (ys : List Child) → IsTrue (list_all (λ b. b) (map (each finished) (turned_trees (turns ys) n))) →
          all_seen s t m (denotations (map (meaning w) (turned_trees (turns ys) n)) a)
          ≡ all_seen (after n s t) t (under_primes n m) (denotations (map (meaning w) (exprs ys)) a)
      senses_seen [] k = refl
      senses_seen (y ∷ ys) k =
          let e : Expr = (turned part c y.0).tree n in
          let all : Bool = list_all (λ b. b) (map (each finished) (turned_trees (turns ys) n)) in
          ap₂ (λ (x : Seen) (xs : List Seen). x ∷ xs) (y.1.0 n a (and_left (each finished e) all k)) (senses_seen ys (and_right (each finished e) all k))
  plain_node p o xs ys n a h k (Plain_role ms) l =
      node_seen w p o (length xs) _ _
      (λ vs. inner p ms (map (meaning w) (turned_trees (turns ys) n)) (bind xs vs a))
      (λ vs. inner p ms (map (meaning w) (exprs ys)) (bind xs vs a))
      None None s t (after n s t) t m (under_primes n m) h
      (outer_seen p ms ys n a k) (λ vs. inner_seen p ms ys n (bind xs vs a) k) refl

  -- a name under primes
  constant_node : (p : Place) (i : ℕ) (b : Bool) (xs : List (List ℕ)) (ks ls : List Meaning) (n : ℕ) (a : Scope) → c i ≡ true →
      seen s t m (node_of w p (op.Name i false) xs ks a) ≡ seen (after n s t) t (under_primes n m) (node_of w p (op.Name i b) xs ls a)
  constant_node p i false xs ks ls zero a e = refl
  constant_node p i true xs ks ls zero a e = λ j. by_outcome (value_found p (agree i e j)) (sym (steady i e) j)
  constant_node p i b xs ks ls (suc n) a e = λ j. by_outcome (outcome b j) ((sym (steady i e) ∙ sym (counts_under m i b)) j)
    where
      outcome : (b : Bool) → value_found p (slice_get s.vals i) ≡ (node_of w p (op.Name i b) xs ls a).value t t
      outcome true = ap (value_found p) (agree i e)
      outcome false = ap (value_found p) (agree i e)

  variable_node : (p : Place) (i : ℕ) (b : Bool) (xs : List (List ℕ)) (ks ls : List Meaning) (n : ℕ) (a : Scope) → (kind : PartKind) →
      IsTrue (done (variable_at kind i (if b then suc n else n))) →
      seen s t m (node_of w p (variable_at kind i (if b then suc n else n)) xs ks a) ≡ seen (after n s t) t (under_primes n m) (node_of w p (op.Name i b) xs ls a)
  variable_node p i false xs ks ls zero a kind.Constants h = absurd (false≢true h)
  variable_node p i true xs ks ls zero a kind.Constants h = absurd (false≢true h)
  variable_node p i false xs ks ls (suc n) a kind.Constants h = absurd (false≢true h)
  variable_node p i true xs ks ls (suc n) a kind.Constants h = absurd (false≢true h)
  variable_node p i false xs ks ls zero a kind.Start h = refl
  variable_node p i true xs ks ls zero a kind.Start h = absurd (false≢true h)
  variable_node p i false xs ks ls (suc n) a kind.Start h = absurd (false≢true h)
  variable_node p i true xs ks ls (suc n) a kind.Start h = absurd (false≢true h)
  variable_node p i false xs ks ls zero a kind.Inv h = refl
  variable_node p i true xs ks ls zero a kind.Inv h = absurd (false≢true h)
  variable_node p i false xs ks ls (suc n) a kind.Inv h = absurd (false≢true h)
  variable_node p i true xs ks ls (suc n) a kind.Inv h = absurd (false≢true h)
  variable_node p i false xs ks ls zero a kind.Step h = refl
  variable_node p i true xs ks ls zero a kind.Step h = refl
  variable_node p i false xs ks ls (suc zero) a kind.Step h = λ j. by_outcome (value_found p (slice_get t.vals i)) (sym (counts_under m i false) j)
  variable_node p i false xs ks ls (suc (suc n)) a kind.Step h = absurd (false≢true h)
  variable_node p i true xs ks ls (suc n) a kind.Step h = absurd (false≢true h)

  name_node : (p : Place) (i : ℕ) (b : Bool) (xs : List (List ℕ)) (ks ls : List Meaning) (n : ℕ) (a : Scope) →
      (k : Bool) → c i ≡ k → IsTrue (done (if k then op.Name i false else variable_at part i (if b then suc n else n))) →
      seen s t m (node_of w p (if k then op.Name i false else variable_at part i (if b then suc n else n)) xs ks a)
      ≡ seen (after n s t) t (under_primes n m) (node_of w p (op.Name i b) xs ls a)
  name_node p i b xs ks ls n a true e h = constant_node p i b xs ks ls n a e
  name_node p i b xs ks ls n a false e h = variable_node p i b xs ks ls n a part h

  boxed_node : (p : Place) (xs : List (List ℕ)) (y z : Child) (n : ℕ) (a : Scope) →
      IsTrue (each finished ((turned part c y.0).tree n)) → IsTrue (each finished ((turned part c z.0).kept p n)) →
      seen s t m (meaning w (inner_node p op.Or ((turned part c y.0).tree n ∷ (turned part c z.0).kept p n ∷ [])) a)
      ≡ seen (after n s t) t (under_primes n m) (node_of w p op.Boxed xs (meaning w y.0 ∷ meaning w z.0 ∷ []) a)
  boxed_node p xs y z n a h k =
      rolled w s t m p op.Or ((turned part c y.0).tree n ∷ (turned part c z.0).kept p n ∷ []) [] a
      ∙ ap₂ (or_seen p) (y.1.0 n a h) ((z.1.1 p n a k).0)
      ∙ (λ i. record {
        value = disjoined p (A.value ∷ V ∷ []);
        form = plain (disjoined p (A.value ∷ V ∷ []));
        act = if or_three A.mentions (B.mentions (under_primes (suc n) m)) (B.mentions (under_primes n m)) i
            then effects_or (A.act ∷ effect_of V ∷ []) else effect_of (disjoined p (A.value ∷ V ∷ []));
        mentions = or_last A.mentions (B.mentions (under_primes (suc n) m)) (B.mentions (under_primes n m)) i;
      })
      ∙ (λ i. record {
        value = disjoined p (A.value ∷ V ∷ []);
        form = plain (disjoined p (A.value ∷ V ∷ []));
        act = if (A.mentions || B.mentions (sym (primed_at n m) i)) || B.mentions (under_primes n m)
            then effects_or (A.act ∷ effect_of V ∷ []) else effect_of (disjoined p (A.value ∷ V ∷ []));
        mentions = (A.mentions || B.mentions (sym (primed_at n m) i)) || B.mentions (under_primes n m);
      })
    where
      A : Seen
      A = seen (after n s t) t (under_primes n m) (meaning w y.0 a)

      B : Denotation
      B = meaning w z.0 a

      V : Outcome
      V = B.unchanged (after n s t) t

  angled_node : (p : Place) (xs : List (List ℕ)) (y z : Child) (n : ℕ) (a : Scope) →
      IsTrue (each finished ((turned part c y.0).tree n)) → IsTrue (each finished ((turned part c z.0).kept p n)) →
      seen s t m (meaning w (inner_node p op.And ((turned part c y.0).tree n ∷ inner_node p op.Not ((turned part c z.0).kept p n ∷ []) ∷ [])) a)
      ≡ seen (after n s t) t (under_primes n m) (node_of w p op.Angled xs (meaning w y.0 ∷ meaning w z.0 ∷ []) a)
  angled_node p xs y z n a h k =
      rolled w s t m p op.And ((turned part c y.0).tree n ∷ inner_node p op.Not ((turned part c z.0).kept p n ∷ []) ∷ []) [] a
      ∙ ap₂ (and_seen p) (y.1.0 n a h) (rolled w s t m p op.Not ((turned part c z.0).kept p n ∷ []) [] a ∙ ap (not_seen w p) ((z.1.1 p n a k).0))
      ∙ (λ i. record {
        value = conjoined p (A.value ∷ truth_step p V (z.1.1 p n a k).1 w i ∷ []);
        form = plain (conjoined p (A.value ∷ truth_step p V (z.1.1 p n a k).1 w i ∷ []));
        act = effects_and (A.act ∷ effect_of (truth_step p V (z.1.1 p n a k).1 w i) ∷ []);
        mentions = or_four A.mentions (B.mentions (under_primes (suc n) m)) (B.mentions (under_primes n m)) i;
      })
      ∙ (λ i. record {
        value = conjoined p (A.value ∷ changed p V ∷ []);
        form = plain (conjoined p (A.value ∷ changed p V ∷ []));
        act = effects_and (A.act ∷ effect_of (changed p V) ∷ []);
        mentions = (A.mentions || B.mentions (sym (primed_at n m) i)) || B.mentions (under_primes n m);
      })
    where
      A : Seen
      A = seen (after n s t) t (under_primes n m) (meaning w y.0 a)

      B : Denotation
      B = meaning w z.0 a

      V : Outcome
      V = B.unchanged (after n s t) t

  -- UNCHANGED, by what is kept of its operand
  unchanged_node : (p : Place) (xs : List (List ℕ)) (k : Meaning) (n : ℕ) (a : Scope) →
      kept_seen n (k a) ≡ seen (after n s t) t (under_primes n m) (node_of w p op.Unchanged xs (k ∷ []) a)
  unchanged_node p xs k n a = λ i. by_outcome ((k a).unchanged (after n s t) t)
      ((k a).mentions (sym (primed_at n m) i) || (k a).mentions (under_primes n m))

  prime_node : (p : Place) (xs : List (List ℕ)) (k : Meaning) (n : ℕ) (a : Scope) →
      seen t t (under_primes (suc n) m) (k a) ≡ seen (after n s t) t (under_primes n m) (node_of w p op.Prime xs (k ∷ []) a)
  prime_node p xs k n a = λ i. seen t t (sym (primed_at n m) i) (k a)

  -- the tree of a node
  tree_node : (p : Place) (o : Op) (xs : List (List ℕ)) (ys : List Child) (n : ℕ) (a : Scope) →
      IsTrue (each finished (tree_of part c p o xs (turns ys) n)) →
      seen s t m (meaning w (tree_of part c p o xs (turns ys) n) a)
      ≡ seen (after n s t) t (under_primes n m) (node_of w p o xs (map (meaning w) (exprs ys)) a)
  tree_node p op.Prime xs (y ∷ []) n a h = y.1.0 (suc n) a h ∙ prime_node p xs (meaning w y.0) n a
  tree_node p op.Prime xs [] n a h = absurd (false≢true (op_finished p op.Prime [] xs h))
  tree_node p op.Prime xs (y ∷ z ∷ ys) n a h =
      absurd (false≢true (op_finished p op.Prime (turned_trees (turns (y ∷ z ∷ ys)) n) xs h))
  tree_node p op.Unchanged xs (y ∷ []) n a h = (y.1.1 p n a h).0 ∙ unchanged_node p xs (meaning w y.0) n a
  tree_node p op.Unchanged xs [] n a h = absurd (false≢true (op_finished p op.Unchanged [] xs h))
  tree_node p op.Unchanged xs (y ∷ z ∷ ys) n a h =
      absurd (false≢true (op_finished p op.Unchanged (turned_trees (turns (y ∷ z ∷ ys)) n) xs h))
  tree_node p op.Boxed xs (y ∷ z ∷ []) n a h =
      let e : Expr = (turned part c y.0).tree n in
      let f : Expr = (turned part c z.0).kept p n in
      let k : IsTrue (each finished e && (each finished f && true)) = args_finished p op.Or (e ∷ f ∷ []) [] h in
      boxed_node p xs y z n a (and_left (each finished e) (each finished f && true) k)
      (and_left (each finished f) true (and_right (each finished e) (each finished f && true) k))
  tree_node p op.Boxed xs [] n a h = absurd (false≢true (op_finished p op.Boxed [] xs h))
  tree_node p op.Boxed xs (y ∷ []) n a h =
      absurd (false≢true (op_finished p op.Boxed (turned_trees (turns (y ∷ [])) n) xs h))
  tree_node p op.Boxed xs (y ∷ z ∷ v ∷ ys) n a h =
      absurd (false≢true (op_finished p op.Boxed (turned_trees (turns (y ∷ z ∷ v ∷ ys)) n) xs h))
  tree_node p op.Angled xs (y ∷ z ∷ []) n a h =
      let e : Expr = (turned part c y.0).tree n in
      let f : Expr = (turned part c z.0).kept p n in
      let l : Expr = inner_node p op.Not (f ∷ []) in
      let k : IsTrue (each finished e && (each finished l && true)) = args_finished p op.And (e ∷ l ∷ []) [] h in
      angled_node p xs y z n a (and_left (each finished e) (each finished l && true) k)
      (and_left (each finished f) true (args_finished p op.Not (f ∷ []) [] (and_left (each finished l) true (and_right (each finished e) (each finished l && true) k))))
  tree_node p op.Angled xs [] n a h = absurd (false≢true (op_finished p op.Angled [] xs h))
  tree_node p op.Angled xs (y ∷ []) n a h =
      absurd (false≢true (op_finished p op.Angled (turned_trees (turns (y ∷ [])) n) xs h))
  tree_node p op.Angled xs (y ∷ z ∷ v ∷ ys) n a h =
      absurd (false≢true (op_finished p op.Angled (turned_trees (turns (y ∷ z ∷ v ∷ ys)) n) xs h))
  tree_node p (op.Name i b) xs ys n a h =
      let es : List Expr = turned_trees (turns ys) n in
      let o : Op = name_at part c i b n in
      rolled w s t m p o es xs a
      ∙ name_node p i b xs (map (meaning w) es) (map (meaning w) (exprs ys)) n a (c i) refl (op_finished p o es xs h)
  tree_node p o xs ys n a h =
      let es : List Expr = turned_trees (turns ys) n in
      rolled w s t m p o es xs a
      ∙ plain_node p o xs ys n a (op_finished p o es xs h) (args_finished p o es xs h) (role o (length xs))
      (lone_role o (length xs) (op_finished p o es xs h))

  -- ---- UNCHANGED of a node

  abbrev items : Place → List Child → Scope → List Denotation
  items p ys a = outer p [] (map (meaning w) (exprs ys)) a

  abbrev kept_items : Place → List Child → ℕ → Scope → List Denotation
  kept_items q ys n a = outer q [] (map (meaning w) (kept_trees (turns ys) q n)) a

  -- what is kept of the items of a tuple
  record ItemsKept (p q : Place) (ys : List Child) (n : ℕ) (a : Scope) : Type 0 where
    values : outcomes (kept_items q ys n a) s t ≡ map (λ b. b.unchanged (after n s t) t) (items p ys a)
    effects : effects m (kept_items q ys n a) s t ≡ map effect_of (map (λ b. b.unchanged (after n s t) t) (items p ys a))
    mentions : any_mentions m (kept_items q ys n a)
        ≡ (any_mentions (under_primes (suc n) m) (items p ys a) || any_mentions (under_primes n m) (items p ys a))
    truths : Truths (map (λ b. b.unchanged (after n s t) t) (items p ys a))

  items_kept : (p q : Place) (ys : List Child) (n : ℕ) (a : Scope) →
      IsTrue (list_all (λ b. b) (map (each finished) (kept_trees (turns ys) q n))) → ItemsKept p q ys n a
  items_kept p q [] n a h = record { values = refl; effects = refl; mentions = refl; truths = no-more }
  items_kept p q (y ∷ ys) n a h =
      let e : Expr = (turned part c y.0).kept q n in
      let all : Bool = list_all (λ b. b) (map (each finished) (kept_trees (turns ys) q n)) in
      let k = y.1.1 q n a (and_left (each finished e) all h) in
      let r : ItemsKept p q ys n a = items_kept p q ys n a (and_right (each finished e) all h) in
      record {
        values = ap₂ (λ (o : Outcome) (os : List Outcome). o ∷ os) (ap (λ (x : Seen). x.value) k.0) r.values;
        effects = ap₂ (λ (e : Effect) (es : List Effect). e ∷ es) (ap (λ (x : Seen). x.act) k.0) r.effects;
        mentions = ap₂ (λ b d. b || d) (ap (λ (x : Seen). x.mentions) k.0) r.mentions
            ∙ or_swap ((meaning w y.0 a).mentions (under_primes (suc n) m)) ((meaning w y.0 a).mentions (under_primes n m))
            (any_mentions (under_primes (suc n) m) (items p ys a)) (any_mentions (under_primes n m) (items p ys a));
        truths = one-more k.1 r.truths;
      }

  tuple_node : (p q : Place) (xs : List (List ℕ)) (ys : List Child) (n : ℕ) (a : Scope) →
      ItemsKept p q ys n a →
      seen s t m (meaning w (inner_node q op.And (kept_trees (turns ys) q n)) a) ≡ kept_seen n (node_of w p op.Tuple xs (map (meaning w) (exprs ys)) a)
  tuple_node p q xs ys n a r =
      rolled w s t m q op.And (kept_trees (turns ys) q n) [] a
      ∙ (λ i. record { value = value_path i; form = plain (value_path i); act = act_path i; mentions = mentions_path i })
    where
      ks : List Meaning
      ks = map (meaning w) (exprs ys)

      ls : List Meaning
      ls = map (meaning w) (kept_trees (turns ys) q n)

      os : List Outcome
      os = map (λ b. b.unchanged (after n s t) t) (items p ys a)

      value_path : conjoined q (outcomes (kept_items q ys n a) s t) ≡ conjoined p os
      value_path = ap (conjoined q) r.values ∙ conjoined_anywhere p q os r.truths

      act_path : effects_and (effects m (kept_items q ys n a) s t) ≡ effect_of (conjoined p os)
      act_path = ap effects_and r.effects ∙ effects_conjoined p os r.truths

      mentions_path :
          (any_mentions m (kept_items q ys n a) || any_mentions m (inner q [] ls (bind [] [] a)))
          ≡ ((any_mentions (under_primes (suc n) m) (items p ys a) || any_mentions (under_primes (suc n) m) (inner p [] ks (bind xs [] a)))
          || (any_mentions (under_primes n m) (items p ys a) || any_mentions (under_primes n m) (inner p [] ks (bind xs [] a))))
      mentions_path =
          ap₂ (λ b d. b || d) r.mentions (inner_none m q ls (bind [] [] a))
          ∙ or_false _
          ∙ ap₂ (λ b d. b || d)
          (sym (ap (λ d. any_mentions (under_primes (suc n) m) (items p ys a) || d) (inner_none (under_primes (suc n) m) p ks (bind xs [] a)) ∙ or_false _))
          (sym (ap (λ d. any_mentions (under_primes n m) (items p ys a) || d) (inner_none (under_primes n m) p ks (bind xs [] a)) ∙ or_false _))

  -- what is kept of a node, and that it is a truth value or a fault
  abbrev KeptNode : Place → Op → List (List ℕ) → List Child → Place → ℕ → Scope → Type 0
  KeptNode p o xs ys q n a =
      (seen s t m (meaning w (kept_of part c p o xs (turns ys) q n) a) ≡ kept_seen n (node_of w p o xs (map (meaning w) (exprs ys)) a))
      × Truth ((node_of w p o xs (map (meaning w) (exprs ys)) a).unchanged (after n s t) t)

  -- a node whose UNCHANGED is an equation
  equation_node : (p : Place) (o : Op) (xs : List (List ℕ)) (ys : List Child) (q : Place) (n : ℕ) (a : Scope) →
      IsTrue (each finished (equation part c p o xs (turns ys) q n)) →
      (seen s t m (meaning w (equation part c p o xs (turns ys) q n) a)
      ≡ (let b = node_of w p o xs (map (meaning w) (exprs ys)) a in
      by_outcome (kept_value p (b.value (after n s t) t) (b.value t t)) (b.mentions (under_primes (suc n) m) || b.mentions (under_primes n m))))
  equation_node p o xs ys q n a h =
      let e : Expr = tree_of part c p o xs (turns ys) (suc n) in
      let f : Expr = tree_of part c p o xs (turns ys) n in
      let b : Denotation = node_of w p o xs (map (meaning w) (exprs ys)) a in
      rolled w s t m q op.Eq (e ∷ f ∷ []) [] a
      ∙ ap₂ (eq_seen w q) (tree_node p o xs ys (suc n) a (first_finished q e f h)) (tree_node p o xs ys n a (second_finished q e f h))
      ∙ (λ i. by_outcome (eq_kept w p q (b.value (after n s t) t) (b.value t t) i)
      (or_two (b.mentions (under_primes (suc n) m)) (b.mentions (under_primes n m)) i))

  -- notes around what is no tuple
  noted_node : (p : Place) (x : List ℕ) (xs : List (List ℕ)) (y : Child) (q : Place) (n : ℕ) (a : Scope) (tuple : Bool) →
      (turned part c y.0).is_tuple ≡ tuple →
      IsTrue (each finished (if tuple then (turned part c y.0).kept q n else equation part c p (op.Noted x) xs (turned part c y.0 ∷ []) q n)) →
      (seen s t m (meaning w (if tuple then (turned part c y.0).kept q n else equation part c p (op.Noted x) xs (turned part c y.0 ∷ []) q n) a)
      ≡ kept_seen n (node_of w p (op.Noted x) xs (meaning w y.0 ∷ []) a))
      × Truth ((node_of w p (op.Noted x) xs (meaning w y.0 ∷ []) a).unchanged (after n s t) t)
  noted_node p x xs y q n a true e h =
      let k = y.1.1 q n a h in
      let b : Denotation = meaning w y.0 a in (
        k.0 ∙ (λ i. by_outcome (b.unchanged (after n s t) t) (or_pad (b.mentions (under_primes (suc n) m)) i || or_pad (b.mentions (under_primes n m)) i)),
        k.1,
      )
  noted_node p x xs y q n a false e h =
      let f : Expr = (turned part c y.0).tree n in
      let b : Denotation = meaning w y.0 a in
      let done_below = args_finished p (op.Noted x) (f ∷ []) xs
      (second_finished q (tree_of part c p (op.Noted x) xs (turned part c y.0 ∷ []) (suc n)) (tree_of part c p (op.Noted x) xs (turned part c y.0 ∷ []) n) h) in
      let law = y.1.2 n a (and_left (each finished f) true done_below) e p (after n s t) t in (
        equation_node p (op.Noted x) xs (y ∷ []) q n a h
            ∙ (λ i. by_outcome (sym law i) ((node_of w p (op.Noted x) xs (meaning w y.0 ∷ []) a).mentions (under_primes (suc n) m)
            || (node_of w p (op.Noted x) xs (meaning w y.0 ∷ []) a).mentions (under_primes n m))),
        subst Truth (sym law) (kept_truth p (b.value (after n s t) t) (b.value t t)),
      )

  -- a node that is no tuple
  plain_kept : (p : Place) (o : Op) (xs : List (List ℕ)) (ys : List Child) (n : ℕ) (a : Scope) →
      IsTrue (each finished (tree_of part c p o xs (turns ys) n)) → tuple_of o (turns ys) ≡ false → (q : Place) (u v : State) →
      (node_of w p o xs (map (meaning w) (exprs ys)) a).unchanged u v
      ≡ kept_value q ((node_of w p o xs (map (meaning w) (exprs ys)) a).value u v) ((node_of w p o xs (map (meaning w) (exprs ys)) a).value v v)
  plain_kept p op.Tuple xs ys n a h k q u v = absurd (false≢true (sym k))
  plain_kept p (op.Noted x) xs [] n a h k q u v = absurd (false≢true (sym k))
  plain_kept p (op.Noted x) xs (y ∷ []) n a h k q u v =
      y.1.2 n a (and_left (each finished ((turned part c y.0).tree n)) true (args_finished p (op.Noted x) ((turned part c y.0).tree n ∷ []) xs h)) k q u v
  plain_kept p (op.Noted x) xs (y ∷ z ∷ ys) n a h k q u v = absurd (false≢true (sym k))
  plain_kept p op.Prime xs [] n a h k q u v = absurd (false≢true (op_finished p op.Prime [] xs h))
  plain_kept p op.Prime xs (y ∷ []) n a h k q u v = y.1.2 (suc n) a h k q v v
  plain_kept p op.Prime xs (y ∷ z ∷ ys) n a h k q u v =
      absurd (false≢true (op_finished p op.Prime (turned_trees (turns (y ∷ z ∷ ys)) n) xs h))
  plain_kept p (op.Use x) xs ys n a h k q u v = absurd (false≢true (op_finished p (op.Use x) (turned_trees (turns ys) n) xs h))
  plain_kept p (op.Param x) xs ys n a h k q u v = absurd (false≢true (op_finished p (op.Param x) (turned_trees (turns ys) n) xs h))
  plain_kept p (op.Let ds) xs ys n a h k q u v = absurd (false≢true (op_finished p (op.Let ds) (turned_trees (turns ys) n) xs h))
  plain_kept p o xs ys n a h k q u v =
      let b : Denotation = node_of w p o xs (map (meaning w) (exprs ys)) a in eq_kept None q p (b.value u v) (b.value v v)

  kept_node : (p : Place) (o : Op) (xs : List (List ℕ)) (ys : List Child) (q : Place) (n : ℕ) (a : Scope) →
      IsTrue (each finished (kept_of part c p o xs (turns ys) q n)) → KeptNode p o xs ys q n a
  kept_node p op.Tuple xs ys q n a h =
      let r : ItemsKept p q ys n a = items_kept p q ys n a (args_finished q op.And (kept_trees (turns ys) q n) [] h) in
      (tuple_node p q xs ys n a r, conjoined_truth p (map (λ b. b.unchanged (after n s t) t) (items p ys a)) r.truths)
  kept_node p (op.Noted x) xs (y ∷ []) q n a h = noted_node p x xs y q n a (turned part c y.0).is_tuple refl h
  kept_node p (op.Noted x) xs [] q n a h = absurd (false≢true (op_finished q op.Unchanged [] [] h))
  kept_node p (op.Noted x) xs (y ∷ z ∷ ys) q n a h = absurd (false≢true (op_finished q op.Unchanged [] [] h))
  kept_node p op.Prime xs (y ∷ []) q n a h =
      let k = y.1.1 q (suc n) a h in
      let b : Denotation = meaning w y.0 a in (
        k.0 ∙ (λ i. by_outcome (b.unchanged t t) (b.mentions (sym (primed_at (suc n) m) i) || b.mentions (sym (primed_at n m) i))),
        k.1,
      )
  kept_node p op.Prime xs [] q n a h = absurd (false≢true (op_finished q op.Unchanged [] [] h))
  kept_node p op.Prime xs (y ∷ z ∷ ys) q n a h = absurd (false≢true (op_finished q op.Unchanged [] [] h))
  kept_node p (op.Use x) xs ys q n a h =
      absurd (false≢true (op_finished p (op.Use x) (turned_trees (turns ys) (suc n)) xs (first_finished q _ _ h)))
  kept_node p (op.Param x) xs ys q n a h =
      absurd (false≢true (op_finished p (op.Param x) (turned_trees (turns ys) (suc n)) xs (first_finished q _ _ h)))
  kept_node p (op.Let ds) xs ys q n a h =
      absurd (false≢true (op_finished p (op.Let ds) (turned_trees (turns ys) (suc n)) xs (first_finished q _ _ h)))
  kept_node p o xs ys q n a h =
      let b : Denotation = node_of w p o xs (map (meaning w) (exprs ys)) a in
      (equation_node p o xs ys q n a h, kept_truth p (b.value (after n s t) t) (b.value t t))

  -- ---- the law

  turning : (e : Expr) → Laws e
  turning = ind-Expr Laws (λ x y is.
      subst (λ (z : Expr-F Expr). Laws (roll-Expr z)) is (
      let z : Expr-F Expr = map-Expr Child Expr (λ e. e.0) y in (
        λ n a h.
            let i = ap (λ (k : Turned). k.tree n) (turned-roll part c z) in
            ap (λ e. seen s t m (meaning w e a)) i
            ∙ tree_node z.place z.op z.binds y.args n a (subst (λ e. IsTrue (each finished e)) i h)
            ∙ sym (ap (λ (k : Meaning). seen (after n s t) t (under_primes n m) (k a)) (meaning-roll w z)),
        λ q n a h.
            let i = ap (λ (k : Turned). k.kept q n) (turned-roll part c z) in
            let r = kept_node z.place z.op z.binds y.args q n a (subst (λ e. IsTrue (each finished e)) i h) in
            let j = meaning-roll w z in (
              ap (λ e. seen s t m (meaning w e a)) i ∙ r.0 ∙ sym (ap (λ (k : Meaning). kept_seen n (k a)) j),
              subst (λ (k : Meaning). Truth ((k a).unchanged (after n s t) t)) (sym j) r.1,
            ),
        λ n a h e p u v.
            let i = turned-roll part c z in
            subst (λ (k : Meaning). (k a).unchanged u v ≡ kept_value p ((k a).value u v) ((k a).value v v)) (sym (meaning-roll w z))
            (plain_kept z.place z.op z.binds y.args n a (subst (λ (k : Turned). IsTrue (each finished (k.tree n))) i h) (sym (ap (λ (k : Turned). k.is_tuple) i) ∙ e) p u v),
      )))

  -- a finished tree means what the expression means
  pub turned_means : (e : Expr) (a : Scope) → IsTrue (each finished ((turned part c e).tree 0)) →
      seen s t m (meaning w ((turned part c e).tree 0) a) ≡ seen s t m (meaning w e a)
  turned_means e a h = (turning e).0 0 a h
