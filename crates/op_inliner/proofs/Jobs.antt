-- What counts as assigned in a job, and its states, are such as the law of expansion asks for.
use Rattle.std.proofs.Common.{◌≡◌, ℕ, zero, suc, ◌<◌, Bool, true, false, not, cond, arith, List, [], ◌∷◌, ◌++◌, filter, length, take, nat_le, slice_get, refl, ap, ap₂, ◌∙◌, sym, Option}
use Rattle.std.proofs.lemmas.Bool.{leb-true, ltb-true}
use Rattle.std.proofs.lemmas.List.{append-nil}
use Rattle.std.proofs.lemmas.List.Elements.{filter-append}
use Rattle.tla_meaning.specs.declared.expr.Decl.{Decl}
use Rattle.tla_meaning.specs.declared.job.Job.{Job}
use Rattle.tla_meaning.specs.declared.job.State.{State}
use Rattle.tla_meaning.specs.declared.modules.Flat.{Flat}
use Rattle.tla_meaning.specs.Actions.{outcome_of}
use Rattle.tla_meaning.specs.Definitions.{defined_as}
use Rattle.tla_meaning.specs.Executions.{Keeps, constants, in_cinit, in_init, in_next, next}
use Rattle.tla_meaning.specs.Jobs.{IsJob, in_state_order, names_of}
use Rattle.tla_meaning.specs.Numbers.{Width}
use Rattle.op_inliner.specs.Expansion.{first_place}
use Rattle.op_inliner.specs.Means.{AgreeOnConstants, IsJobOf, IsSteady}

-- ---- the order of a job's names

constant_only : (ds : List Decl) → filter (λ d. d.constant) (filter (λ d. d.constant) ds) ≡ filter (λ d. d.constant) ds
constant_only [] = refl
constant_only (d ∷ ds) = by_kind d.constant refl (constant_only ds)
  where
    by_kind : (b : Bool) → d.constant ≡ b → filter (λ d. d.constant) (filter (λ d. d.constant) ds) ≡ filter (λ d. d.constant) ds →
        filter (λ d. d.constant) (cond b (d ∷ filter (λ d. d.constant) ds) (filter (λ d. d.constant) ds)) ≡ cond b (d ∷ filter (λ d. d.constant) ds) (filter (λ d. d.constant) ds)
    by_kind true e r =
        ap (λ b. cond b (d ∷ filter (λ d. d.constant) (filter (λ d. d.constant) ds)) (filter (λ d. d.constant) (filter (λ d. d.constant) ds))) e
        ∙ ap (λ (xs : List Decl). d ∷ xs) r
    by_kind false e r = r

no_constant : (ds : List Decl) → filter (λ d. d.constant) (filter (λ d. not d.constant) ds) ≡ []
no_constant [] = refl
no_constant (d ∷ ds) = by_kind d.constant refl (no_constant ds)
  where
    by_kind : (b : Bool) → d.constant ≡ b → filter (λ d. d.constant) (filter (λ d. not d.constant) ds) ≡ [] →
        filter (λ d. d.constant) (cond (not b) (d ∷ filter (λ d. not d.constant) ds) (filter (λ d. not d.constant) ds)) ≡ []
    by_kind true e r = r
    by_kind false e r =
        ap (λ b. cond b (d ∷ filter (λ d. d.constant) (filter (λ d. not d.constant) ds)) (filter (λ d. d.constant) (filter (λ d. not d.constant) ds))) e ∙ r

no_variable : (ds : List Decl) → filter (λ d. not d.constant) (filter (λ d. d.constant) ds) ≡ []
no_variable [] = refl
no_variable (d ∷ ds) = by_kind d.constant refl (no_variable ds)
  where
    by_kind : (b : Bool) → d.constant ≡ b → filter (λ d. not d.constant) (filter (λ d. d.constant) ds) ≡ [] →
        filter (λ d. not d.constant) (cond b (d ∷ filter (λ d. d.constant) ds) (filter (λ d. d.constant) ds)) ≡ []
    by_kind true e r =
        ap (λ b. cond (not b) (d ∷ filter (λ d. not d.constant) (filter (λ d. d.constant) ds)) (filter (λ d. not d.constant) (filter (λ d. d.constant) ds))) e ∙ r
    by_kind false e r = r

variable_only : (ds : List Decl) → filter (λ d. not d.constant) (filter (λ d. not d.constant) ds) ≡ filter (λ d. not d.constant) ds
variable_only [] = refl
variable_only (d ∷ ds) = by_kind d.constant refl (variable_only ds)
  where
    by_kind : (b : Bool) → d.constant ≡ b → filter (λ d. not d.constant) (filter (λ d. not d.constant) ds) ≡ filter (λ d. not d.constant) ds →
        filter (λ d. not d.constant) (cond (not b) (d ∷ filter (λ d. not d.constant) ds) (filter (λ d. not d.constant) ds))
        ≡ cond (not b) (d ∷ filter (λ d. not d.constant) ds) (filter (λ d. not d.constant) ds)
    by_kind true e r = r
    by_kind false e r =
        ap (λ b. cond (not b) (d ∷ filter (λ d. not d.constant) (filter (λ d. not d.constant) ds)) (filter (λ d. not d.constant) (filter (λ d. not d.constant) ds))) e
        ∙ ap (λ (xs : List Decl). d ∷ xs) r

constants_ordered : (ds : List Decl) → filter (λ d. d.constant) (in_state_order ds) ≡ filter (λ d. d.constant) ds
constants_ordered ds =
    filter-append (λ d. d.constant) (filter (λ d. d.constant) ds) (filter (λ d. not d.constant) ds)
    ∙ ap₂ (λ (xs ys : List Decl). xs ++ ys) (constant_only ds) (no_constant ds)
    ∙ append-nil (filter (λ d. d.constant) ds)

variables_ordered : (ds : List Decl) → filter (λ d. not d.constant) (in_state_order ds) ≡ filter (λ d. not d.constant) ds
variables_ordered ds =
    filter-append (λ d. not d.constant) (filter (λ d. d.constant) ds) (filter (λ d. not d.constant) ds)
    ∙ ap₂ (λ (xs ys : List Decl). xs ++ ys) (no_variable ds) (variable_only ds)

pub names_ordered : (flat : Flat) (job : Job) → job.names ≡ names_of flat → IsJob job
names_ordered flat job e = record {
  names = e ∙ sym (ap in_state_order e ∙ ap₂ (λ (xs ys : List Decl). xs ++ ys) (constants_ordered flat.decls) (variables_ordered flat.decls));
}

-- the constants of a job are those of the flat module
same_constants : (flat : Flat) (job : Job) → job.names ≡ names_of flat → constants job ≡ length (filter (λ (d : Decl). d.constant) flat.decls)
same_constants flat job e = ap (λ (ds : List Decl). length (filter (λ d. d.constant) ds)) e ∙ ap length (constants_ordered flat.decls)

-- ---- what counts as assigned

not_le : (c i : ℕ) → i < c → nat_le c i ≡ false
not_le c i h = at (nat_le c i) refl
  where
    at : (b : Bool) → nat_le c i ≡ b → b ≡ false
    at true e = let k = leb-true c i e in absurd (omega (arith, k, h))
    at false e = refl

pub in_next_steady : (flat : Flat) (job : Job) → job.names ≡ names_of flat → IsSteady flat (in_next job)
in_next_steady flat job same i h =
    not_le (constants job) i (let e = same_constants flat job same in let k = ltb-true i (length (filter (λ (d : Decl). d.constant) flat.decls)) h in omega (arith, k, e))

pub in_init_steady : (flat : Flat) (job : Job) → IsSteady flat (in_init job)
in_init_steady flat job i h = refl

pub in_cinit_steady : (flat : Flat) (job : Job) → IsSteady flat (in_cinit job)
in_cinit_steady flat job i h = refl

-- ---- states

get_taken : {X : Type 0} (n i : ℕ) (xs : List X) → i < n → slice_get xs i ≡ slice_get (take n xs) i
get_taken zero i xs h = absurd (omega (arith, h))
get_taken (suc n) i [] h = refl
get_taken (suc n) zero (x ∷ xs) h = refl
get_taken (suc n) (suc i) (x ∷ xs) h = get_taken n i xs (omega (arith, h))

-- states that keep the constants agree on them
pub keeps_agree : (flat : Flat) (job : Job) → job.names ≡ names_of flat → (s t : State) → Keeps job s t → AgreeOnConstants flat s t
keeps_agree flat job same s t k i h =
    let e = same_constants flat job same in
    let l = ltb-true i (length (filter (λ (d : Decl). d.constant) flat.decls)) h in
    get_taken (constants job) i s.vals (omega (arith, l, e))
    ∙ ap (λ vs. slice_get vs i) k
    ∙ sym (get_taken (constants job) i t.vals (omega (arith, l, e)))

-- Next of a job has the outcomes of its definition
pub next_means : (flat : Flat) (init step : List ℕ) (cinit : Option (List ℕ)) (invs : List (List ℕ)) (job : Job) → IsJobOf flat init step cinit invs job →
    (w : Width) (s t : State) → Keeps job s t → next w job s t ≡ outcome_of ((defined_as w flat first_place step).act (in_next job) s t)
next_means flat init step cinit invs job is w s t k =
    ap outcome_of ((is.next_is.1 w (in_next job) s t (in_next_steady flat job is.same_names) (keeps_agree flat job is.same_names s t k)).act)
