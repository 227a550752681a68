-- CInit and the assumption of a job that is answered hold no declared name but constants.
use Rattle.std.proofs.Common.{◌≡◌, ℕ, Bool, true, false, not, cond, List, [], ◌∷◌, ◌++◌, filter, length, nat_lt, refl, ap, ap₂, ◌∙◌, subst, Option, Some, None, if◌then◌else◌}
use Rattle.std.proofs.lemmas.List.{append-nil}
use Rattle.std.proofs.lemmas.List.Elements.{filter-append}
use Rattle.tla_meaning.specs.declared.expr.Decl.{Decl}
use Rattle.tla_meaning.specs.declared.expr.Expr.{Expr}
use Rattle.tla_meaning.specs.declared.job.Job.{Job}
use Rattle.tla_meaning.specs.declared.modules.Flat.{Flat}
use Rattle.tla_meaning.specs.declared.op.Form.{Form}
use Rattle.tla_meaning.specs.declared.op.Op.TheVariants as op
use Rattle.tla_meaning.specs.declared.place.Place.{Place}
use Rattle.tla_meaning.specs.Executions.{constants}
use Rattle.tla_meaning.specs.Jobs.{names_of}
use Rattle.tla_meaning.specs.Scopes.{find_last}
use Rattle.op_inliner.specs.declared.parts.InlineFault.TheVariants.{NoOperator, TooDeep, TooLarge}
use Rattle.op_inliner.specs.declared.parts.PartKind.TheVariants.{Constants, Start, Step}
use Rattle.op_inliner.specs.Answers.{Answer, Gives, Refuses, assume_answer, checked, cinit_answer, depth, expand_answer, forms, invs_answer, job_answer, size, then_with, up_to, without_forms}
use Rattle.op_inliner.specs.Expansion.{assumptions_expanded, expansion}
use Rattle.op_inliner.specs.Known.{arities_of, wants}
use Rattle.kernel_reduction.specs.JobPaths.{has_name, outside}
use Rattle.kernel_reduction.proofs.JobTrees.{has_name-roll}
use Rattle.accepted_systems.proofs.ConstantNames.{constant_names, constants_inside}

-- ---- the constants of a job are those of the module

kept : (ds : List Decl) → filter (λ d. d.constant) (filter (λ d. d.constant) ds) ≡ filter (λ d. d.constant) ds
kept [] = refl
kept (d ∷ ds) = by d.constant refl (kept ds)
  where
    by : (b : Bool) → d.constant ≡ b →
        filter (λ d. d.constant) (filter (λ d. d.constant) ds) ≡ filter (λ d. d.constant) ds →
        filter (λ d. d.constant) (cond b (d ∷ filter (λ d. d.constant) ds) (filter (λ d. d.constant) ds))
        ≡ cond b (d ∷ filter (λ d. d.constant) ds) (filter (λ d. d.constant) ds)
    by true e r =
        ap (λ b. cond b (d ∷ filter (λ d. d.constant) (filter (λ d. d.constant) ds))
        (filter (λ d. d.constant) (filter (λ d. d.constant) ds))) e
        ∙ ap (λ (xs : List Decl). d ∷ xs) r
    by false e r = r

gone : (ds : List Decl) → filter (λ d. d.constant) (filter (λ d. not d.constant) ds) ≡ []
gone [] = refl
gone (d ∷ ds) = by d.constant refl (gone ds)
  where
    by : (b : Bool) → d.constant ≡ b → filter (λ d. d.constant) (filter (λ d. not d.constant) ds) ≡ [] →
        filter (λ d. d.constant) (cond (not b) (d ∷ filter (λ d. not d.constant) ds)
        (filter (λ d. not d.constant) ds)) ≡ []
    by true e r = r
    by false e r =
        ap (λ b. cond b (d ∷ filter (λ d. d.constant) (filter (λ d. not d.constant) ds))
        (filter (λ d. d.constant) (filter (λ d. not d.constant) ds))) e ∙ r

counted : (flat : Flat) → length (filter (λ (d : Decl). d.constant) (names_of flat)) ≡ constant_names flat
counted flat =
    ap length (
    filter-append (λ d. d.constant) (filter (λ d. d.constant) flat.decls) (filter (λ d. not d.constant) flat.decls)
    ∙ ap₂ (λ (xs ys : List Decl). xs ++ ys) (kept flat.decls) (gone flat.decls)
    ∙ append-nil (filter (λ d. d.constant) flat.decls))

-- ---- answers that give something

given : {X : Type 0} (x y : X) → Gives x ≡ Gives y → x ≡ y
given {X = X} x y e = ap (λ (a : Answer X). elim a [ Gives z ↦ z | Refuses r ↦ x ]) e

went_on : {X Y : Type 0} (a : Answer X) (f : X → Answer Y) (y : Y) → then_with a f ≡ Gives y →
    (x : X) × (a ≡ Gives x) × (f x ≡ Gives y)
went_on (Gives x) f y r = (x, refl, r)
went_on (Refuses g) f y r = absurd (cc)

by_forms : (e f : Expr) (fs : List (Form × Place)) → without_forms e fs ≡ Gives f → e ≡ f
by_forms e f [] h = given e f h
by_forms e f (g ∷ fs) h = absurd (cc)

by_limits : (x : List ℕ) (e f : Expr) (b c : Bool) →
    (if b then Refuses (TooLarge x (up_to 1000000000000 (size e))) else
    (if c then Refuses (TooDeep x) else without_forms e (forms e))) ≡ Gives f → e ≡ f
by_limits x e f true c h = absurd (cc)
by_limits x e f false true h = absurd (cc)
by_limits x e f false false h = by_forms e f (forms e) h

-- what is answered is the tree itself
checked_is : (x : List ℕ) (e f : Expr) → checked x e ≡ Gives f → e ≡ f
checked_is x e f h = by_limits x e f (nat_lt 1000000 (size e)) (nat_lt 400 (depth e)) h

by_name : (x : List ℕ) (e f : Expr) (b : Bool) → (if b then checked x e else Refuses (NoOperator x)) ≡ Gives f → e ≡ f
by_name x e f true h = checked_is x e f h
by_name x e f false h = absurd (cc)

-- ---- a job

module _ (flat : Flat) where
  abbrev pub HasConstants : Expr → Type 0
  HasConstants e = has_name (outside (constant_names flat)) e ≡ false

  cinit_has : (cinit : Option (List ℕ)) (e : Expr) → cinit_answer flat cinit ≡ Gives e → HasConstants e
  cinit_has None e r =
      subst HasConstants (given _ e r)
      (has_name-roll (outside (constant_names flat)) (record { place = _; op = op.Bool true; args = []; binds = [] }))
  cinit_has (Some x) e r =
      subst HasConstants (by_name x (expansion Constants flat x) e (wants 0 (find_last x (arities_of flat.defs []))) r)
      (constants_inside flat _)

  assume_has : (e : Expr) → assume_answer flat ≡ Gives e → HasConstants e
  assume_has e r = subst HasConstants (checked_is _ (assumptions_expanded flat) e r) (constants_inside flat _)

-- its CInit and its assumption hold no name past the constants
pub record AreConstant (job : Job) : Type 0 where
  pub cinit : has_name (outside (constants job)) job.cinit ≡ false
  pub assume : has_name (outside (constants job)) job.assume ≡ false

pub answered_constant : (flat : Flat) (init next : List ℕ) (cinit : Option (List ℕ)) (invs : List (List ℕ))
    (job : Job) →
    job_answer flat init next cinit invs ≡ Gives job → AreConstant job
answered_constant flat init next cinit invs job r =
    let c = went_on (cinit_answer flat cinit) _ job r in
    let a = went_on (assume_answer flat) _ job c.2 in
    let i = went_on (expand_answer flat init Start) _ job a.2 in
    let n = went_on (expand_answer flat next Step) _ job i.2 in
    let v = went_on (invs_answer flat invs) _ job n.2 in
    subst AreConstant (given _ job v.2) (record {
      cinit = ap (λ (n : ℕ). has_name (outside n) c.0) (counted flat) ∙ cinit_has flat cinit c.0 c.1;
      assume = ap (λ (n : ℕ). has_name (outside n) a.0) (counted flat) ∙ assume_has flat a.0 a.1;
    })
