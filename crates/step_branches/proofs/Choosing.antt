-- One of several paths, chosen freely, is a branch to where any of them leads.
use Rattle.std.proofs.Common.{◌≡◌, ◌<◌, ℕ, Bool, true, List, length, All, refl, sym, ◌∙◌, ap, subst}
use Rattle.std.proofs.lemmas.List.Elements.{All-head, All-tail}
use Rattle.std.specs.Prelude.{[], ◌∷◌, ◌++◌}
use Rattle.sat_formula.specs.Formula.{Satisfies}
use Rattle.tla_values.specs.declared.value.Value.{Value}
use Rattle.tla_meaning.specs.declared.job.State.{State}
use Rattle.cell_arena.specs.declared.build.Build.{Build}
use Rattle.cell_arena.specs.declared.kinds.CellId.{CellId}
use Rattle.cell_arena.specs.Cells.{Cells as Arena}
use Rattle.cell_arena.specs.Decode.{decode}
use Rattle.cell_arena.specs.Growth.{Grows}
use Rattle.cell_arena.proofs.Growing.{Satisfies-before, decode-before}
use Rattle.kernel_trees.specs.declared.path.Assigned.{Assigned}
use Rattle.kernel_trees.specs.Assignments.{AssignedPath}
use Rattle.kernel_trees.specs.Picks.{IsOneOf}
use Rattle.path_walks.specs.Paths.{GoesOn}
use Rattle.branch_cells.specs.declared.branch.BranchCells.{BranchCells}
use Rattle.branch_cells.specs.Branches.{IsChoice, IsSame}
use Rattle.branch_cells.specs.Ends.{EndsBelow, end_of, ends_at}
use Rattle.level_laws.specs.Constraints.{Agree, Assignment, Reads}
use Rattle.level_laws.specs.Branches.{BranchReading, Ending, Held, Transition}
use Rattle.level_laws.proofs.Formulas.{lit_reads}
use Rattle.step_branches.specs.Readings.{state_at, values_at}
use Rattle.step_branches.proofs.Fitting.{values_read}
use Rattle.step_branches.proofs.Leads.{Leads, agree_front, goes_again}

-- ---- cells of an older build

abbrev pub AllThere : Build → List CellId → Type 0
AllThere b ids = All (λ id. id.index < length b.arena.kinds) ids

pub values_later : (b c : Build) (ids : List CellId) (a : Assignment) → Grows b c → AllThere b ids →
    values_at c.arena ids a ≡ values_at b.arena ids a
values_later b c [] a g h = refl
values_later b c (id ∷ ids) a g h =
    let p : decode c.arena a id ≡ decode b.arena a id =
    decode-before b c a id g (All-head (λ i. i.index < length b.arena.kinds) id ids h) in
    let q = values_later b c ids a g (All-tail (λ i. i.index < length b.arena.kinds) id ids h) in
    ap (λ (v : Value). v ∷ values_at c.arena ids a) p ∙ ap (λ (vs : List Value). decode b.arena a id ∷ vs) q

pub state_later : (b c : Build) (ids : List CellId) (a : Assignment) → Grows b c → AllThere b ids →
    state_at c.arena ids a ≡ state_at b.arena ids a
state_later b c ids a g h = ap (λ (vs : List Value). record { vals = vs }) (values_later b c ids a g h)

pub ends_read : (n : ℕ) (x : BranchCells) → EndsBelow n x.ends → (k : Ending) → Reads n (ends_at x.ends k)
ends_read n x h k = lit_reads n (end_of x.ends k) (h k)

-- ---- parts

module _ {S : Type 0} (part : State → S) where
  -- what is read of a branch, where `part` is what counts of its next state
  abbrev pub reading_of : Arena → BranchCells → BranchReading S
  reading_of c x = record { ends = ends_at x.ends; next = λ a. part (state_at c x.next a) }

  pub next_read : (b : Build) (x : BranchCells) → Reads b.formula.vars (λ a. part (state_at b.arena x.next a))
  next_read b x a c ag = ap (λ (vs : List Value). part (record { vals = vs })) (values_read b x.next a c ag)

-- a part leads so, and its literals and cells are there
pub record IsLed {E S : Type 0} (part : State → S) (old middle : Build) (on : Assignment → Bool) (now : Assignment → E)
    (P : Transition E S) (p : BranchCells) : Type 0 where
  pub leads : Leads old.formula middle.formula on now P (reading_of part middle.arena p)
  pub there : AllThere middle p.next
  pub below : EndsBelow middle.formula.vars p.ends

-- there is one for each path, and a path for each
pub record AreLed {E S : Type 0} (part : State → S) (old middle : Build) (on : Assignment → Bool) (now : Assignment → E)
    (P : AssignedPath → Transition E S) (xs : List Assigned) (ps : List BranchCells) : Type 0 where
  pub each : (x : Assigned) → IsOneOf x xs →
      (p : BranchCells) × (IsOneOf p ps × IsLed part old middle on now (P x.steps) p)
  pub back : (p : BranchCells) → IsOneOf p ps →
      (x : Assigned) × (IsOneOf x xs × IsLed part old middle on now (P x.steps) p)

-- along one of the paths
abbrev pub SomeGoes : {E S : Type 0} → (AssignedPath → Transition E S) → List Assigned → Transition E S
SomeGoes P xs k e s = (x : Assigned) × (IsOneOf x xs × P x.steps k e s)

-- ---- the choice

module _ {E S : Type 0} (part : State → S) (old middle new : Build) (on : Assignment → Bool) (now : Assignment → E)
    (P : AssignedPath → Transition E S) (xs : List Assigned) (ps : List BranchCells) (rest : List CellId)
    (r : BranchCells)
    (choice : IsChoice middle new rest ps r) (led : AreLed part old middle on now P xs ps) where
  -- where r is p, it leads to what p does
  next_same : (p : BranchCells) (a : Assignment) → AllThere middle p.next → IsSame new.arena a r p →
      part (state_at new.arena r.next a) ≡ part (state_at middle.arena p.next a)
  next_same p a there same =
      ap (λ (vs : List Value). part (record { vals = vs }))
      (same.next ∙ values_later middle new p.next a choice.grows there)

  -- it is p under an assignment that goes on from one under which p ends
  taken : (p : BranchCells) → IsOneOf p ps → (k : Ending) (b : Assignment) → length b ≡ middle.formula.vars →
      Satisfies b middle.formula →
      ends_at p.ends k b ≡ true → GoesOn new.formula b (λ c. Agree middle.formula.vars b c × IsSame new.arena c r p)
  taken p one k b n s e =
      let u = choice.free b n s p one k e in
      record {
        more = u.more;
        long = u.long;
        satisfies = u.satisfies;
        holds = (agree_front middle.formula.vars b u.more n, u.holds);
      }

  end_back : (p : BranchCells) → EndsBelow middle.formula.vars p.ends → (k : Ending) (b c : Assignment) →
      Agree middle.formula.vars b c →
      IsSame new.arena c r p → ends_at p.ends k b ≡ true → ends_at r.ends k c ≡ true
  end_back p below k b c ag same e = same.ends k ∙ (sym (ends_read middle.formula.vars p below k b c ag) ∙ e)

  pub choice_leads : Leads old.formula new.formula on now (SomeGoes P xs) (reading_of part new.arena r)
  choice_leads = record {
    sound = λ k a s o e.
        let z = choice.sound a s k e in
        let x = led.back z.0 z.1.0 in
        let q = x.1.1 in
        let m = q.leads.sound k a (Satisfies-before middle new a choice.grows s) o (sym (z.1.1.ends k) ∙ e) in
        (x.0, (x.1.0, subst (P x.0.steps k (now a)) (sym (next_same z.0 a q.there z.1.1)) m));
    reach = λ a t n s o m.
        let p = led.each m.0 m.1.0 in
        let q = p.1.1 in
        goes_again middle.formula new.formula a
        (λ b. (ends_at p.0.ends Held b ≡ true) × (part (state_at middle.arena p.0.next b) ≡ t))
        (λ c. (ends_at r.ends Held c ≡ true) × (part (state_at new.arena r.next c) ≡ t))
        (q.leads.reach a t n s o m.1.1)
        (λ b nb sb u.
        goes_on_as b (λ c. Agree middle.formula.vars b c × IsSame new.arena c r p.0)
        (λ c. (ends_at r.ends Held c ≡ true) × (part (state_at new.arena r.next c) ≡ t))
        (taken p.0 p.1.0 Held b nb sb u.0)
        (λ c z. (
          end_back p.0 q.below Held b c z.0 z.1 u.0,
          next_same p.0 c q.there z.1 ∙ (sym (next_read part middle p.0 b c z.0) ∙ u.1),
        )));
    find = λ k a t n s o m.
        let p = led.each m.0 m.1.0 in
        let q = p.1.1 in
        goes_again middle.formula new.formula a (λ b. ends_at p.0.ends k b ≡ true) (λ c. ends_at r.ends k c ≡ true)
        (q.leads.find k a t n s o m.1.1)
        (λ b nb sb e.
        goes_on_as b (λ c. Agree middle.formula.vars b c × IsSame new.arena c r p.0) (λ c. ends_at r.ends k c ≡ true)
        (taken p.0 p.1.0 k b nb sb e) (λ c z. end_back p.0 q.below k b c z.0 z.1 e));
  }
    where
      goes_on_as : (b : Assignment) (A B : Assignment → Type 0) → GoesOn new.formula b A →
          ((c : Assignment) → A c → B c) → GoesOn new.formula b B
      goes_on_as b A B u to = record {
        more = u.more;
        long = u.long;
        satisfies = u.satisfies;
        holds =
            to (b ++ u.more) u.holds;
      }
