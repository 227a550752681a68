-- A finished tree means what its definition means in the module.
use Rattle.std.proofs.Common.{◌≡◌, IsTrue, List, [], ℕ, refl, ap, ◌∙◌, sym}
use Rattle.tla_meaning.specs.declared.actions.Assignable.{Assignable}
use Rattle.tla_meaning.specs.declared.expr.Expr.{Expr}
use Rattle.tla_meaning.specs.declared.job.State.{State}
use Rattle.tla_meaning.specs.declared.modules.Flat.{Flat}
use Rattle.tla_meaning.specs.declared.op.Op.{Op}
use Rattle.tla_meaning.specs.declared.op.Op.TheVariants as op
use Rattle.tla_meaning.specs.Actions.{meaning}
use Rattle.tla_meaning.specs.Executions.{no_scope}
use Rattle.tla_meaning.specs.Definitions.{scope_of_module}
use Rattle.tla_meaning.specs.Numbers.{Width}
use Rattle.tla_meaning.specs.Scopes.{Denotation}
use Rattle.tla_meaning.specs.Substitution.{each}
use Rattle.op_inliner.specs.declared.parts.PartKind.{PartKind}
use Rattle.op_inliner.specs.Expansion.{assumed, assumptions_expanded, expansion, finish, first_place, is_constant}
use Rattle.op_inliner.specs.Inlining.{names_of_module, rename_held, written, written_of}
use Rattle.op_inliner.specs.Means.{Alike, Denotes, Means, MeansAssumed}
use Rattle.op_inliner.specs.Primes.{done, turned}
use Rattle.op_inliner.proofs.Backs.{each_back}
use Rattle.op_inliner.proofs.GivenBack.{names_back_mean}
use Rattle.op_inliner.proofs.Inlined.{keeps, reads_module, written_means}
use Rattle.op_inliner.proofs.Seen.{Seen, seen}
use Rattle.op_inliner.proofs.Turned.{finished, turned_means}

alike : (m : Assignable) (s t : State) (a b : Denotation) → seen s t m a ≡ seen s t m b → Alike m s t a b
alike m s t a b e = record {
  value = ap (λ (x : Seen). x.value) e;
  form = ap (λ (x : Seen). x.form) e;
  act = ap (λ (x : Seen). x.act) e;
  mentions = ap (λ (x : Seen). x.mentions) e;
}

held_done : (y : List ℕ) (o : Op) → done (rename_held y o) ≡ done o
held_done y (op.Bound x) = refl
held_done y o = refl

finish_means : (part : PartKind) (flat : Flat) (e : Expr) (b : Width → Denotation) → ((w : Width) → meaning w e no_scope ≡ b w) →
    IsTrue (each finished (finish part flat e)) → Denotes flat b (finish part flat e)
finish_means part flat e b same clear = λ w m s t steady agree.
    alike m s t (meaning w (finish part flat e) no_scope) (b w)
    (ap (seen s t m) (names_back_mean w ((turned part (is_constant flat) e).tree 0) no_scope)
    ∙ turned_means w part (is_constant flat) s t m steady agree e no_scope
    (sym (each_back finished (λ y o xs ys. held_done y o) ((turned part (is_constant flat) e).tree 0) (λ x. x) []) ∙ clear)
    ∙ ap (seen s t m) (same w))

pub expansion_means : (part : PartKind) (flat : Flat) (x : List ℕ) → IsTrue (each finished (expansion part flat x)) → Means flat x (expansion part flat x)
expansion_means part flat x done = finish_means part flat (written_of flat first_place x) _ (λ w. written_means w flat first_place x) done

pub assumptions_mean : (flat : Flat) → IsTrue (each finished (assumptions_expanded flat)) → MeansAssumed flat (assumptions_expanded flat)
assumptions_mean flat done =
    finish_means _ flat (written (assumed flat) (names_of_module flat) 0) _
    (λ w. keeps w (assumed flat) 0 no_scope (names_of_module flat) (scope_of_module w flat) (reads_module w flat)) done
