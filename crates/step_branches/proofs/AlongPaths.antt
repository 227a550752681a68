-- The paths of an action, one of them chosen: a branch, whatever the action, and each path has its kinds.
use Rattle.std.proofs.Common.{◌≡◌, inl, inr, ℕ, ◌<◌, Bool, true, List, [], ◌∷◌, length, take, Option, Some, None}
use Rattle.std.proofs.Common.{refl, sym, ◌∙◌, subst}
use Rattle.std.specs.Prelude.{slice_get}
use Rattle.std.specs.List.{AllByRecursion}
use Rattle.std.proofs.lemmas.List.Elements.{All-from_recursion}
use Rattle.std.proofs.lemmas.Option.{slice_get_within}
use Rattle.sat_formula.specs.Formula.{Satisfies, WellFormed}
use Rattle.tla_meaning.specs.declared.job.Job.{Job}
use Rattle.tla_meaning.specs.declared.job.State.{State}
use Rattle.tla_meaning.specs.Executions.{IsState, no_scope}
use Rattle.tla_meaning.proofs.Laws.{none≢some}
use Rattle.cell_arena.specs.declared.build.Build.{Build}
use Rattle.cell_arena.specs.declared.kinds.CellId.{CellId}
use Rattle.cell_arena.specs.Growth.{Grows}
use Rattle.kernel_trees.specs.declared.path.Assigned.{Assigned}
use Rattle.kernel_trees.specs.Assignments.{AssignedPath, ReadsNext}
use Rattle.kernel_trees.specs.Paths.{Marks}
use Rattle.kernel_trees.specs.Picks.{IsOneOf}
use Rattle.kernel_trees.proofs.Assigning.{Kinds}
use Rattle.kernel_trees.proofs.Picking.{map_one}
use Rattle.branch_cells.specs.declared.branch.BranchCells.{BranchCells}
use Rattle.branch_cells.specs.declared.way.Way.{Way}
use Rattle.branch_cells.specs.Along.{ArePartsBetween, IsAlong, IsPartBetween}
use Rattle.branch_cells.specs.Ends.{EndsBelow}
use Rattle.level_laws.specs.Constraints.{Assignment, of_formula, under}
use Rattle.level_laws.specs.Branches.{Branch, Transition}
use Rattle.level_laws.proofs.Formulas.{bits_agree, bits_length, first_bits, satisfies_agree}
use Rattle.level_laws.proofs.Growing.{reads_back}
use Rattle.step_laws.specs.Systems.{steps_of}
use Rattle.step_laws.proofs.Steps.{HaveKinds}
use Rattle.step_branches.proofs.Choosing.{AreLed, IsLed, SomeGoes, choice_leads, ends_read, next_read, reading_of}
use Rattle.step_branches.proofs.Leads.{Leads, branch_of}
use Rattle.step_branches.proofs.Fitting.{item_there, state_is}
use Rattle.step_branches.proofs.Parts.{Scene, cells_stay, free_cell, part_kinds, part_led}
use Rattle.step_branches.specs.Readings.{state_at, values_at}
use Rattle.step_branches.proofs.PathLeads.{PathGoes}

-- the next state is one of the job, and the first n names have the values of the other cells
abbrev pub StaysSo : Job → Build → Build → List CellId → BranchCells → ℕ → Assignment → Type 0
StaysSo job old new others r n a =
    IsState job (state_at new.arena r.next a) ×
    (take n (values_at new.arena r.next a) ≡ take n (values_at old.arena others a))

past : (xs ys : List CellId) → length xs ≡ length ys → (i : ℕ) → slice_get ys i ≡ None → slice_get xs i ≡ slice_get ys i
past xs ys e i q = by (slice_get xs i) refl
  where
    by : (o : Option CellId) → slice_get xs i ≡ o → slice_get xs i ≡ slice_get ys i
    by None k = k ∙ sym q
    by (Some x) k =
        let z = item_there ys i (subst (λ (n : ℕ). i < n) e (slice_get_within xs i x k)) in
        absurd (none≢some (sym q ∙ z.1))

module _ {E S : Type 0} (job : Job) (old : Build) (way : Way) (xs : List Assigned) (on : Assignment → Bool)
    (now : Assignment → E)
    (Legal : E → State → Type 0) (current : E → State → State) (part : State → S)
    (sc : Scene job old way xs on now Legal current part) where
  abbrev Goes : AssignedPath → Transition E S
  Goes = PathGoes Legal current part (Some old.arena.width)

  -- ---- one part for each path

  abbrev Led : Build → Assigned → BranchCells → Type 0
  Led middle x p = IsLed part old middle on now (Goes x.steps) p

  one_led : (middle : Build) (x : Assigned) → IsOneOf x xs → (p : BranchCells) → IsPartBetween old middle way x p →
      Led middle x p
  one_led middle x one p b = part_led job old way xs on now Legal current part sc x one p b.from b.to b.before b.part
      middle b.after

  -- one more in front
  more_led : (middle : Build) (y : Assigned) (ys : List Assigned) (q : BranchCells) (qs : List BranchCells) →
      Led middle y q →
      AreLed part old middle on now Goes ys qs → AreLed part old middle on now Goes (y ∷ ys) (q ∷ qs)
  more_led middle y ys q qs first rest = record { each = each; back = back }
    where
      each : (x : Assigned) → IsOneOf x (y ∷ ys) → (p : BranchCells) × (IsOneOf p (q ∷ qs) × Led middle x p)
      each x (inl e) = (q, (inl refl, subst (λ (z : Assigned). Led middle z q) (sym e) first))
      each x (inr o) = let z = rest.each x o in (z.0, (inr z.1.0, z.1.1))

      back : (p : BranchCells) → IsOneOf p (q ∷ qs) → (x : Assigned) × (IsOneOf x (y ∷ ys) × Led middle x p)
      back p (inl e) = (y, (inl refl, subst (λ (z : BranchCells). Led middle y z) (sym e) first))
      back p (inr o) = let z = rest.back p o in (z.0, (inr z.1.0, z.1.1))

  all_led : (middle : Build) (ys : List Assigned) (ps : List BranchCells) →
      ((x : Assigned) → IsOneOf x ys → IsOneOf x xs) →
      ArePartsBetween old middle way ys ps → AreLed part old middle on now Goes ys ps
  all_led middle [] [] inside h = record { each = λ x o. absurd o; back = λ p o. absurd o }
  all_led middle [] (p ∷ ps) inside h = absurd h
  all_led middle (y ∷ ys) [] inside h = absurd h
  all_led middle (y ∷ ys) (q ∷ qs) inside h =
      more_led middle y ys q qs (one_led middle y (inside y (inl refl)) q h.0)
      (all_led middle ys qs (λ x o. inside x (inr o)) h.1)

  -- each has the other cell for a name that is not to be assigned
  all_free : (middle : Build) (ys : List Assigned) (ps : List BranchCells) →
      ((x : Assigned) → IsOneOf x ys → IsOneOf x xs) →
      ArePartsBetween old middle way ys ps → (i : ℕ) → i < sc.free → (id : CellId) → slice_get way.others i ≡ Some id →
      AllByRecursion (λ p. slice_get p.next i ≡ Some id) ps
  all_free middle [] [] inside h i lt id e = tt
  all_free middle [] (p ∷ ps) inside h i lt id e = absurd h
  all_free middle (y ∷ ys) [] inside h i lt id e = absurd h
  all_free middle (y ∷ ys) (q ∷ qs) inside h i lt id e = (
    free_cell job old way xs on now Legal current part sc y (inside y (inl refl)) q h.0.from h.0.to h.0.before
        h.0.part i lt ∙ e,
    all_free middle ys qs (λ x o. inside x (inr o)) h.1 i lt id e,
  )

  -- ---- all of them

  module _ (new : Build) (r : BranchCells) (along : IsAlong old new way xs r) where
    pub along_leads : Leads old.formula new.formula on now (SomeGoes Goes xs) (reading_of part new.arena r)
    along_leads =
        choice_leads part old along.middle new on now Goes xs along.parts way.others r along.choice
        (all_led along.middle xs along.parts (λ x o. o) along.are)

    pub along_branch : WellFormed old.formula → Grows old new → EndsBelow new.formula.vars r.ends →
        Branch (under (of_formula old.formula) on) (under (of_formula new.formula) on) now (SomeGoes Goes xs)
        (reading_of part new.arena r)
    along_branch wf g below =
        branch_of on now old.formula new.formula (SomeGoes Goes xs) (reading_of part new.arena r) wf g.formula
        sc.reads_on sc.reads
        (ends_read new.formula.vars r below) (next_read part new r) along_leads

    -- ---- under every assignment

    pub along_stays : Grows old new → (a : Assignment) → StaysSo job old new way.others r sc.free a
    along_stays g a = (
      state_is job new r.next a (along.choice.count ∙ sc.many),
      cells_stay old new g sc.free r.next way.others along.choice.count sc.others free a,
    )
      where
        free : (i : ℕ) → i < sc.free → slice_get r.next i ≡ slice_get way.others i
        free i lt = by (slice_get way.others i) refl
          where
            by : (o : Option CellId) → slice_get way.others i ≡ o → slice_get r.next i ≡ slice_get way.others i
            by (Some id) q =
                along.choice.kept i id q
                (All-from_recursion (λ (p : BranchCells). slice_get p.next i ≡ Some id) along.parts
                (all_free along.middle xs along.parts (λ x o. o) along.are i lt id q)) ∙ sym q
            by None q = past r.next way.others along.choice.count i q

    -- ---- kinds

    part_of : (middle : Build) (ys : List Assigned) (ps : List BranchCells) → ArePartsBetween old middle way ys ps →
        (x : Assigned) → IsOneOf x ys →
        (p : BranchCells) × IsPartBetween old middle way x p
    part_of middle [] [] h x o = absurd o
    part_of middle [] (p ∷ ps) h x o = absurd h
    part_of middle (y ∷ ys) [] h x o = absurd h
    part_of middle (y ∷ ys) (q ∷ qs) h x (inl e) =
        (q, subst (λ (z : Assigned). IsPartBetween old middle way z q) (sym e) h.0)
    part_of middle (y ∷ ys) (q ∷ qs) h x (inr o) = part_of middle ys qs h.1 x o

    pub along_kinds : WellFormed old.formula → (a : Assignment) → Satisfies a old.formula → on a ≡ true →
        (t : State) → Legal (now a) t →
        (m : Marks) (q : ReadsNext m (current (now a) t) t) →
        HaveKinds (Some old.arena.width) m (current (now a) t) t q (steps_of xs)
    along_kinds wf a s o t l m q y one =
        subst (λ (zs : AssignedPath). Kinds (Some old.arena.width) m (current (now a) t) t q zs no_scope) (sym z.2)
        of_path
      where
        z : (x : Assigned) × IsOneOf x xs × (y ≡ x.steps)
        z = map_one (λ (x : Assigned). x.steps) y xs one

        b : (p : BranchCells) × IsPartBetween old along.middle way z.0 p
        b = part_of along.middle xs along.parts along.are z.0 z.1

        c : Assignment
        c = first_bits old.formula.vars a

        e : now c ≡ now a
        e = sym (sc.reads a c (bits_agree old.formula.vars a))

        at_first : (d : E) → now c ≡ d → Legal d t → (q : ReadsNext m (current d t) t) →
            Kinds (Some old.arena.width) m (current d t) t q z.0.steps no_scope
        at_first d f l' =
            subst (λ (d : E). (q : ReadsNext m (current d t) t) →
            Kinds (Some old.arena.width) m (current d t) t q z.0.steps no_scope) f
            (part_kinds job old way xs on now Legal current part sc z.0 z.1 b.0 b.1.from b.1.to b.1.before b.1.part c
            (bits_length old.formula.vars a)
            (satisfies_agree old.formula a c wf (bits_agree old.formula.vars a) s)
            (reads_back old.formula.vars on true a c sc.reads_on (bits_agree old.formula.vars a) o) t
            (subst (λ (d : E). Legal d t) (sym f) l') m)

        of_path : Kinds (Some old.arena.width) m (current (now a) t) t q z.0.steps no_scope
        of_path = at_first (now a) e l q
