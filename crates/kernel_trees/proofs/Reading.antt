-- A fault on a marked path depends on the next state only by the names that were assigned before it.
use Rattle.std.proofs.Common.{◌≡◌, inl, inr, ℕ, zero, suc, Bool, true, false, true≢false, not, arith, ◌&&◌, ◌||◌, IsTrue, List, [], ◌∷◌, map, refl, sym, ◌∙◌, ap, ap₂, subst}
use Rattle.std.specs.List.{list_all}
use Rattle.std.specs.Prelude.{nat_eq}
use Rattle.tla_values.specs.declared.value.Value.{Value}
use Rattle.tla_meaning.specs.declared.job.State.{State}
use Rattle.tla_meaning.specs.declared.outcome.Fault.{Fault}
use Rattle.tla_meaning.specs.declared.outcome.Outcome.{Outcome}
use Rattle.tla_meaning.specs.Outcomes.{fault_of, joined}
use Rattle.tla_meaning.specs.Forms.{form_fault}
use Rattle.tla_meaning.specs.Numbers.{Width}
use Rattle.kernel_trees.specs.Paths.{Marks, mentions, sets}
use Rattle.tla_meaning.specs.Scopes.{Scope}
use Rattle.tla_meaning.proofs.Views.{and_left, and_right, false≢true}
use Rattle.kernel_trees.specs.declared.kernel.Ker.{Ker, roll-Ker}
use Rattle.kernel_trees.specs.declared.path.AssignedStep.{AssignedStep}
use Rattle.kernel_trees.specs.Trees.{ker_val, ker_form}
use Rattle.kernel_trees.specs.Picks.{Picked, set_outcomes, picking}
use Rattle.kernel_trees.specs.Assignments.{is_in, open_names, reads_late, Has, HasMember, AssignedMeets, MeetsWith, SameBut, reads_at, reads_here}
use Rattle.kernel_trees.proofs.States.{same_value_at, same_form_at}
use Rattle.kernel_trees.specs.declared.path.AssignedStep.TheVariants as mark
use Rattle.kernel_trees.specs.declared.kernel.Ker.TheOpen.{Ker-F}
use Rattle.kernel_trees.specs.declared.kernel.Ker.TheFolds.{fold-roll-Ker}
use Rattle.tla_meaning.specs.declared.place.Place.{Place}

abbrev Picks : Type 0
Picks = List (List Value)

-- every name of the first list is in the second
abbrev Grows : List ℕ → List ℕ → Type 0
Grows a b = (i : ℕ) → is_in a i ≡ true → is_in b i ≡ true

or_true : (a b : Bool) → b ≡ true → (a || b) ≡ true
or_true true b h = refl
or_true false b h = h

pub nat_same : (i : ℕ) → nat_eq i i ≡ true
nat_same zero = refl
nat_same (suc n) = grind (arith)

in_front : (i : ℕ) (xs : List ℕ) → is_in (i ∷ xs) i ≡ true
in_front i xs = ap (λ b. b || is_in xs i) (nat_same i)

not_true : (b : Bool) → IsTrue (not b) → b ≡ false
not_true true h = absurd (false≢true h)
not_true false h = refl

closed_name : (a b c : Bool) → (b ≡ true → c ≡ true) → (a && not b) ≡ false → (a && not c) ≡ false
closed_name true true c h q = ap not (h refl)
closed_name true false c h q = absurd (true≢false q)
closed_name false b c h q = refl

given_closed : (a b : Bool) → b ≡ true → (a && not b) ≡ false
given_closed true true h = refl
given_closed true false h = absurd (false≢true h)
given_closed false b h = refl

-- ---- what a tree reads, node by node

pub reads-roll : (m : Marks) (x : Ker-F Ker) (i : ℕ) (p : Place) →
    reads_at m (roll-Ker x) i p ≡ reads_here m i p x.place x.op (map (λ k. reads_at m k i p) x.args)
unfolding reads_at
reads-roll m x i p = fold-roll-Ker Bool (λ x. reads_here m i p x.place x.op x.args) x

module _ (w : Width) (m : Marks) (s t s' t' : State) where
  -- the names assigned before are among the given ones
  grows : (before : List ℕ) (zs : List AssignedStep) (vss : Picks) (sc : Scope) (f : Fault) (given : List ℕ) →
      MeetsWith w s t before zs vss sc f given → Grows before given
  grows before [] vss sc f given h = absurd h
  grows before (mark.Guard k b ∷ zs) vss sc f given (inl h) = λ i q. subst (λ l. is_in l i ≡ true) (sym h.1) q
  grows before (mark.Guard k b ∷ zs) vss sc f given (inr h) = grows before zs vss sc f given h.1
  grows before (mark.Pick ps ∷ zs) vss sc f given (inl h) = λ i q. subst (λ l. is_in l i ≡ true) (sym h.1) q
  grows before (mark.Pick ps ∷ zs) [] sc f given (inr h) = absurd h
  grows before (mark.Pick ps ∷ zs) (vs ∷ vss) sc f given (inr h) = grows before zs vss (picking ps vs sc) f given h.1
  grows before (mark.Equals j e ∷ zs) vss sc f given (inl h) = λ i q. subst (λ l. is_in l i ≡ true) (sym h.1) q
  grows before (mark.Equals j e ∷ zs) vss sc f given (inr h) = λ i q. grows (j ∷ before) zs vss sc f given h.1 i (or_true (nat_eq i j) (is_in before i) q)
  grows before (mark.Among j e ∷ zs) vss sc f given (inl h) = λ i q. subst (λ l. is_in l i ≡ true) (sym h.1) q
  grows before (mark.Among j e ∷ zs) vss sc f given (inr h) = λ i q. grows (j ∷ before) zs vss sc f given h.1 i (or_true (nat_eq i j) (is_in before i) q)

  -- agreement on the given names is agreement on those before
  fewer : (before given : List ℕ) → Grows before given → SameBut (open_names m given) s t s' t' → SameBut (open_names m before) s t s' t'
  fewer before given g r i primed q = r i primed (closed_name (m i primed) (is_in before i) (is_in given i) (g i) q)

  has_same : (i : ℕ) (given : List ℕ) (v : Value) → is_in given i ≡ true → SameBut (open_names m given) s t s' t' → Has t i v → Has t' i v
  has_same i given v q r h = sym (r i true (given_closed (m i true) (is_in given i) q)) ∙ h

  sets_same : (before : List ℕ) (ks : List Ker) (sc : Scope) → SameBut (open_names m before) s t s' t' → IsTrue (list_all (λ k. not (mentions (open_names m before) k)) ks) →
      map (λ k. ker_val w k sc s t) ks ≡ map (λ k. ker_val w k sc s' t') ks
  sets_same before [] sc r h = refl
  sets_same before (k ∷ ks) sc r h =
      let a : Bool = not (mentions (open_names m before) k) in
      let b : Bool = list_all (λ k. not (mentions (open_names m before) k)) ks in
      ap₂ (λ (o : Outcome) (os : List Outcome). o ∷ os)
      (same_value_at w (open_names m before) s t s' t' r k (not_true (mentions (open_names m before) k) (and_left a b h)) sc)
      (sets_same before ks sc r (and_right a b h))

  -- THE LAW: what a path reads before its first fault was assigned on it
  pub same_fault : (before : List ℕ) (zs : List AssignedStep) (vss : Picks) (sc : Scope) (f : Fault) (given : List ℕ) → IsTrue (reads_late m before zs) →
      SameBut (open_names m given) s t s' t' → MeetsWith w s t before zs vss sc f given → MeetsWith w s' t' before zs vss sc f given
  same_fault before [] vss sc f given l r h = h
  same_fault before (mark.Guard k b ∷ zs) vss sc f given l r h =
      by h (same_value_at w (open_names m before) s t s' t' (fewer before given (grows before (mark.Guard k b ∷ zs) vss sc f given h) r) k
      (not_true (mentions (open_names m before) k) (and_left (not (mentions (open_names m before) k)) (reads_late m before zs) l)) sc)
      (same_fault before zs vss sc f given (and_right (not (mentions (open_names m before) k)) (reads_late m before zs) l) r)
    where
      by : MeetsWith w s t before (mark.Guard k b ∷ zs) vss sc f given → ker_val w k sc s t ≡ ker_val w k sc s' t' →
          (MeetsWith w s t before zs vss sc f given → MeetsWith w s' t' before zs vss sc f given) → MeetsWith w s' t' before (mark.Guard k b ∷ zs) vss sc f given
      by (inl h) e g = inl (sym (ap fault_of e) ∙ h.0, h.1)
      by (inr h) e g = inr (sym e ∙ h.0, g h.1)
  same_fault before (mark.Pick ps ∷ zs) vss sc f given l r h =
      by vss h (sets_same before (sets ps) sc (fewer before given (grows before (mark.Pick ps ∷ zs) vss sc f given h) r)
      (and_left (list_all (λ k. not (mentions (open_names m before) k)) (sets ps)) (reads_late m before zs) l))
      (λ rest b. same_fault before zs rest b f given (and_right (list_all (λ k. not (mentions (open_names m before) k)) (sets ps)) (reads_late m before zs) l) r)
    where
      by : (vss : Picks) → MeetsWith w s t before (mark.Pick ps ∷ zs) vss sc f given → set_outcomes w s t ps sc ≡ set_outcomes w s' t' ps sc →
          ((vss : Picks) (b : Scope) → MeetsWith w s t before zs vss b f given → MeetsWith w s' t' before zs vss b f given) →
          MeetsWith w s' t' before (mark.Pick ps ∷ zs) vss sc f given
      by vss (inl h) e g = inl (sym (ap joined e) ∙ h.0, h.1)
      by [] (inr h) e g = absurd h
      by (vs ∷ vss) (inr h) e g = inr (subst (λ os. Picked os vs) e h.0, g vss (picking ps vs sc) h.1)
  same_fault before (mark.Equals i e ∷ zs) vss sc f given l r h =
      by h (same_value_at w (open_names m before) s t s' t' (fewer before given (grows before (mark.Equals i e ∷ zs) vss sc f given h) r) e
      (not_true (mentions (open_names m before) e) (and_left (not (mentions (open_names m before) e)) (reads_late m (i ∷ before) zs) l)) sc)
      (same_fault (i ∷ before) zs vss sc f given (and_right (not (mentions (open_names m before) e)) (reads_late m (i ∷ before) zs) l) r)
    where
      by : MeetsWith w s t before (mark.Equals i e ∷ zs) vss sc f given → ker_val w e sc s t ≡ ker_val w e sc s' t' →
          (MeetsWith w s t (i ∷ before) zs vss sc f given → MeetsWith w s' t' (i ∷ before) zs vss sc f given) → MeetsWith w s' t' before (mark.Equals i e ∷ zs) vss sc f given
      by (inl h) q g = inl (sym (ap fault_of q) ∙ h.0, h.1)
      by (inr h) q g =
          inr ((h.0.0, (sym q ∙ h.0.1.0, has_same i given h.0.0 (grows (i ∷ before) zs vss sc f given h.1 i (in_front i before)) r h.0.1.1)), g h.1)
  same_fault before (mark.Among i e ∷ zs) vss sc f given l r h =
      by h (same_form_at w (open_names m before) s t s' t' (fewer before given (grows before (mark.Among i e ∷ zs) vss sc f given h) r) e
      (not_true (mentions (open_names m before) e) (and_left (not (mentions (open_names m before) e)) (reads_late m (i ∷ before) zs) l)) sc)
      (same_fault (i ∷ before) zs vss sc f given (and_right (not (mentions (open_names m before) e)) (reads_late m (i ∷ before) zs) l) r)
    where
      by : MeetsWith w s t before (mark.Among i e ∷ zs) vss sc f given → ker_form w e sc s t ≡ ker_form w e sc s' t' →
          (MeetsWith w s t (i ∷ before) zs vss sc f given → MeetsWith w s' t' (i ∷ before) zs vss sc f given) → MeetsWith w s' t' before (mark.Among i e ∷ zs) vss sc f given
      by (inl h) q g = inl (sym (ap form_fault q) ∙ h.0, h.1)
      by (inr h) q g = inr (member q (grows (i ∷ before) zs vss sc f given h.1 i (in_front i before)) h.0, g h.1)
        where
          member : ker_form w e sc s t ≡ ker_form w e sc s' t' → is_in given i ≡ true → HasMember t i (ker_form w e sc s t) → HasMember t' i (ker_form w e sc s' t')
          member q n x = record { form = x.form; made = sym q ∙ x.made; set = x.set; value = x.value; has = has_same i given x.value n r x.has; belongs = x.belongs }

-- a fault that is met is met with some names assigned
pub met_with : (w : Width) (s t : State) (before : List ℕ) (zs : List AssignedStep) (vss : Picks) (sc : Scope) (f : Fault) →
    AssignedMeets w s t zs vss sc f → (given : List ℕ) × MeetsWith w s t before zs vss sc f given
met_with w s t before [] vss sc f h = absurd h
met_with w s t before (mark.Guard k b ∷ zs) vss sc f (inl h) = (before, inl (h, refl))
met_with w s t before (mark.Guard k b ∷ zs) vss sc f (inr h) = let r = met_with w s t before zs vss sc f h.1 in (r.0, inr (h.0, r.1))
met_with w s t before (mark.Pick ps ∷ zs) vss sc f (inl h) = (before, inl (h, refl))
met_with w s t before (mark.Pick ps ∷ zs) [] sc f (inr h) = absurd h
met_with w s t before (mark.Pick ps ∷ zs) (vs ∷ vss) sc f (inr h) =
    let r = met_with w s t before zs vss (picking ps vs sc) f h.1 in (r.0, inr (h.0, r.1))
met_with w s t before (mark.Equals i e ∷ zs) vss sc f (inl h) = (before, inl (h, refl))
met_with w s t before (mark.Equals i e ∷ zs) vss sc f (inr h) = let r = met_with w s t (i ∷ before) zs vss sc f h.1 in (r.0, inr (h.0, r.1))
met_with w s t before (mark.Among i e ∷ zs) vss sc f (inl h) = (before, inl (h, refl))
met_with w s t before (mark.Among i e ∷ zs) vss sc f (inr h) = let r = met_with w s t (i ∷ before) zs vss sc f h.1 in (r.0, inr (h.0, r.1))

pub with_met : (w : Width) (s t : State) (before : List ℕ) (zs : List AssignedStep) (vss : Picks) (sc : Scope) (f : Fault) (given : List ℕ) →
    MeetsWith w s t before zs vss sc f given → AssignedMeets w s t zs vss sc f
with_met w s t before [] vss sc f given h = absurd h
with_met w s t before (mark.Guard k b ∷ zs) vss sc f given (inl h) = inl h.0
with_met w s t before (mark.Guard k b ∷ zs) vss sc f given (inr h) = inr (h.0, with_met w s t before zs vss sc f given h.1)
with_met w s t before (mark.Pick ps ∷ zs) vss sc f given (inl h) = inl h.0
with_met w s t before (mark.Pick ps ∷ zs) [] sc f given (inr h) = absurd h
with_met w s t before (mark.Pick ps ∷ zs) (vs ∷ vss) sc f given (inr h) = inr (h.0, with_met w s t before zs vss (picking ps vs sc) f given h.1)
with_met w s t before (mark.Equals i e ∷ zs) vss sc f given (inl h) = inl h.0
with_met w s t before (mark.Equals i e ∷ zs) vss sc f given (inr h) = inr (h.0, with_met w s t (i ∷ before) zs vss sc f given h.1)
with_met w s t before (mark.Among i e ∷ zs) vss sc f given (inl h) = inl h.0
with_met w s t before (mark.Among i e ∷ zs) vss sc f given (inr h) = inr (h.0, with_met w s t (i ∷ before) zs vss sc f given h.1)
