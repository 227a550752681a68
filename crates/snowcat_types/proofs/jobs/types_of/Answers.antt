use Rattle.std.proofs.Common.{◌≡◌, List, Ok, ap, map, subst, sym, ◌∙◌}
use Rattle.snowcat_rows.specs.declared.substitution.Subst.{Subst}
use Rattle.snowcat_rows.specs.declared.types.Typed.{Typed}
use Rattle.snowcat_rows.specs.Closing.{closing}
use Rattle.snowcat_rows.specs.Substitutions.{Sub, apply, then_sub}
use Rattle.snowcat_rows.specs.Types.{Term}
use Rattle.snowcat_rows.specs.Views.{settled_by, stands_for}
use Rattle.snowcat_types.specs.Systems.{System}
use Rattle.snowcat_types.specs.Typings.{IsTyping}
use Rattle.snowcat_types.specs.inner.Built.{means}
use Rattle.snowcat_types.specs.inner.Gathered.{system_of_built}
use Rattle.snowcat_types.specs.inner.Runs.{IsOutcome, IsTypedBy}
use Rattle.snowcat_types.proofs.Naming.{parts_differ, types_differ}
use Rattle.snowcat_types.proofs.jobs.types_of.Goals as goal

-- what is settled is what stands for the unknown types
typed : (system : System) (s : Subst) (z : Sub) (t : Typed) → IsTypedBy system s → z ≡ stands_for s → means t.names ≡ map (apply (then_sub closing z)) system.names →
    map means t.parts ≡ map (map (apply (then_sub closing z))) system.parts → IsOutcome system (Ok t)
typed system s z t h e n p =
    let P : Sub → Type 0 = λ y. IsTyping system (map (apply (then_sub closing y)) system.names) (map (map (apply (then_sub closing y))) system.parts) h.0 in
    let Q : List Term → Type 0 = λ y. IsTyping system y (map (map (apply (then_sub closing z))) system.parts) h.0 in
    let R : List (List Term) → Type 0 = λ y. IsTyping system (means t.names) y h.0 in
    (h.0, subst R (sym p) (subst Q (sym n) (subst P (sym e) h.1)))

pub returns-clause-outcome : goal.returns-clause-outcome
returns-clause-outcome c =
    let z = settled_by c.in_ok-settled.settled in
    let system = c.args.system.now in
    typed (system_of_built system) c.in_ok-subst.subst z (record { names = c.in_ok-names.names; parts = c.in_ok-parts.parts }) c.in_ok-subst.ensures.typed c.in_ok-settled.ensures
    (c.in_ok-names.ensures.mean ∙ ap (λ l. map (apply (then_sub closing z)) (means l)) c.as_slice.ensures)
    (c.in_ok-parts.ensures.mean ∙ ap (λ l. map (map (apply (then_sub closing z))) (map means l)) c.as_slice-2.ensures)

pub returns-clause-names : goal.returns-clause-names
returns-clause-names c =
    (types_differ c.in_ok-names.names c.in_ok-names.ensures.named, parts_differ c.in_ok-parts.parts c.in_ok-parts.ensures.named)
