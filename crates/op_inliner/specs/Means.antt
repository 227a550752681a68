-- What an expanded tree means: what its definition means in the flat module (Specifying Systems, section 17.1).
use Rattle.std.specs.Prelude.{◌≡◌, ℕ, true, false, IsTrue, List, [], ◌∷◌, Option, Some, None, slice_get, ⊤}
use Rattle.tla_meaning.specs.declared.actions.Assignable.{Assignable}
use Rattle.tla_meaning.specs.declared.expr.Expr.{Expr}
use Rattle.tla_meaning.specs.declared.job.Job.{Job}
use Rattle.tla_meaning.specs.declared.job.State.{State}
use Rattle.tla_meaning.specs.declared.modules.Flat.{Flat}
use Rattle.tla_meaning.specs.declared.op.Op.TheVariants as op
use Rattle.tla_meaning.specs.Actions.{counts, meaning}
use Rattle.tla_meaning.specs.Definitions.{defined_as, scope_of_module}
use Rattle.tla_meaning.specs.Executions.{no_scope}
use Rattle.tla_meaning.specs.Jobs.{names_of}
use Rattle.tla_meaning.specs.Numbers.{Width}
use Rattle.tla_meaning.specs.Scopes.{Denotation}
use Rattle.op_inliner.specs.Answers.{forms}
use Rattle.op_inliner.specs.Expanded.{is_expanded}
use Rattle.op_inliner.specs.Expansion.{assumed, at_first, first_place, is_constant}
use Rattle.op_inliner.specs.Places.{PlacesOf}

-- a prime makes no difference to whether a constant counts as assigned
abbrev pub IsSteady : Flat → Assignable → Type 0
IsSteady flat m = (i : ℕ) → is_constant flat i ≡ true → counts m i true ≡ counts m i false

-- the constants have the same values in both states
abbrev pub AgreeOnConstants : Flat → State → State → Type 0
AgreeOnConstants flat s t = (i : ℕ) → is_constant flat i ≡ true → slice_get s.vals i ≡ slice_get t.vals i

-- two denotations in a state with a next state, where these names count as assigned
pub record Alike (m : Assignable) (s t : State) (a b : Denotation) : Type 0 where
  pub value : a.value s t ≡ b.value s t
  pub form : a.form s t ≡ b.form s t
  pub act : a.act m s t ≡ b.act m s t
  pub mentions : a.mentions m ≡ b.mentions m

-- at each width, in each state and next state with the same constants, the tree is alike what is denoted
abbrev pub Denotes : Flat → (Width → Denotation) → Expr → Type 0
Denotes flat b e =
    (w : Width) (m : Assignable) (s t : State) → IsSteady flat m → AgreeOnConstants flat s t → Alike m s t (meaning w e no_scope) (b w)

-- the tree means what the name means in the module
abbrev pub Means : Flat → List ℕ → Expr → Type 0
Means flat x = Denotes flat (λ w. defined_as w flat first_place x)

-- and what the assumptions mean in it
abbrev pub MeansAssumed : Flat → Expr → Type 0
MeansAssumed flat = Denotes flat (λ w. meaning w (assumed flat) (scope_of_module w flat))

-- an expanded tree of the module: nothing is defined in it, it reaches no form that is refused, and its places are the
-- module's
pub record IsTreeOf (flat : Flat) (e : Expr) : Type 0 where
  pub expanded : IsTrue (is_expanded e)
  pub plain : forms e ≡ []
  pub places : PlacesOf flat e

-- each invariant has its name
abbrev pub AreInvariants : Flat → List (List ℕ) → List (List ℕ × Expr) → Type 0
AreInvariants flat [] [] = ⊤
AreInvariants flat [] (v ∷ vs) = ⊥
AreInvariants flat (x ∷ xs) [] = ⊥
AreInvariants flat (x ∷ xs) (v ∷ vs) = (v.0 ≡ x) × IsTreeOf flat v.1 × Means flat x v.1 × AreInvariants flat xs vs

-- CInit is TRUE where none is named
abbrev pub IsCInit : Flat → Option (List ℕ) → Expr → Type 0
IsCInit flat None e = e ≡ at_first (op.Bool true) []
IsCInit flat (Some x) e = IsTreeOf flat e × Means flat x e

-- the job of these names of the module
pub record IsJobOf (flat : Flat) (init next : List ℕ) (cinit : Option (List ℕ)) (invs : List (List ℕ)) (job : Job) : Type 0 where
  pub same_files : job.files ≡ flat.files
  pub same_names : job.names ≡ names_of flat
  pub same_aliases : job.aliases ≡ flat.aliases
  pub cinit_is : IsCInit flat cinit job.cinit
  pub assume_is : IsTreeOf flat job.assume × MeansAssumed flat job.assume
  pub init_is : IsTreeOf flat job.init × Means flat init job.init
  pub next_is : IsTreeOf flat job.next × Means flat next job.next
  pub invs_are : AreInvariants flat invs job.invs
