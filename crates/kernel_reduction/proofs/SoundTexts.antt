-- Each text of a job's kernel is one of the job's.
use Rattle.std.proofs.Common.{◌≡◌, ℕ, Bool, true, false, not, ◌&&◌, ◌||◌, List, [], ◌∷◌, map, refl, sym, ◌∙◌, Option}
use Rattle.std.specs.List.{list_all, list_any}
use Rattle.tla_values.specs.Order.{Layer}
use Rattle.tla_values.specs.declared.value.Value.{Value, out-Value}
use Rattle.tla_values.specs.declared.value.Value.TheOpen as layer
use Rattle.tla_meaning.specs.declared.actions.Assignable.{Assignable}
use Rattle.tla_meaning.specs.declared.expr.Expr.{Expr}
use Rattle.tla_meaning.specs.declared.job.Job.{Job}
use Rattle.tla_meaning.specs.Scopes.{same_text}
use Rattle.tla_meaning.proofs.Views.{and_left, and_right, and_both, false≢true}
use Rattle.snowcat_rows.specs.declared.types.Ty.{Ty}
use Rattle.snowcat_rows.specs.declared.types.Typed.{Typed}
use Rattle.snowcat_types.specs.Systems.{parts_of}
use Rattle.kernel_trees.specs.declared.kernel.Ker.{Ker, roll-Ker}
use Rattle.kernel_trees.specs.declared.kernel.Ker.TheOpen.{Ker-F}
use Rattle.kernel_trees.specs.declared.kernel.Ker.TheFolds.{fold-roll-Ker}
use Rattle.kernel_trees.specs.declared.kernel.KerOp.{KerOp}
use Rattle.kernel_trees.specs.declared.kernel.KerOp.TheVariants as ker
use Rattle.kernel_trees.specs.declared.system.KerJob.{KerJob}
use Rattle.kernel_trees.specs.Sound.{literal_of}
use Rattle.kernel_trees.specs.Systems.{one_of, parts, texts_within}
use Rattle.kernel_trees.proofs.Trees.{Each, by_nodes}
use Rattle.kernel_reduction.specs.Origins.{is_text_constant, is_text_value, kernel_has_node}
use Rattle.kernel_reduction.specs.SoundLaws.{AllBuilt, TextsAreWithin, is_foreign, positions, texts_among}
use Rattle.kernel_reduction.proofs.NodesKept.{free_kept}
use Rattle.kernel_reduction.proofs.RowNodes.{node-roll}
use Rattle.kernel_reduction.proofs.Tying.{not_true}
use Rattle.kernel_reduction.proofs.TypedBuilt.{typed_is_built}

module _ (texts : List (List ℕ)) where
  within-roll : (x : Ker-F Ker) →
      texts_within texts (roll-Ker x) ≡ (one_of texts (literal_of x.op) && list_all (λ b. b) (map (texts_within texts) x.args))
  unfolding texts_within
  within-roll x = fold-roll-Ker Bool (λ x. one_of texts (literal_of x.op) && list_all (λ b. b) x.args) x

  abbrev has : Ker → Bool
  has k = kernel_has_node (λ q. false) (is_foreign texts) k

  or_both : (a b : Bool) → (a || b) ≡ false → (a ≡ false) × (b ≡ false)
  or_both true b h = absurd (false≢true (sym h))
  or_both false b h = (refl, h)

  not_false : (b : Bool) → not b ≡ false → b ≡ true
  not_false true h = refl
  not_false false h = absurd (false≢true (sym h))

  of_value : (v : Layer Value) → is_text_value (is_foreign texts) v ≡ false → one_of texts v ≡ true
  of_value (layer.Text x) h = not_false (list_any (same_text x) texts) h
  of_value v h = refl

  of_op : (o : KerOp) → is_text_constant (is_foreign texts) o ≡ false → one_of texts (literal_of o) ≡ true
  of_op (ker.Const v) h = of_value (out-Value v) h
  of_op o h = refl

  abbrev Within : Ker → Type 0
  Within k = has k ≡ false → texts_within texts k ≡ true

  each_within : (ks : List Ker) → Each Within ks → list_any (λ b. b) (map has ks) ≡ false →
      list_all (λ b. b) (map (texts_within texts) ks) ≡ true
  each_within [] w h = refl
  each_within (k ∷ ks) w h =
      let r = or_both (has k) (list_any (λ b. b) (map has ks)) h in
      and_both (texts_within texts k) (list_all (λ b. b) (map (texts_within texts) ks)) (w.0 r.0) (each_within ks w.1 r.1)

  tree_within : (k : Ker) → Within k
  tree_within = by_nodes Within (λ x w h.
      let r =
      or_both (is_text_constant (is_foreign texts) x.op) (list_any (λ b. b) (map has x.args))
      (sym (node-roll (λ q. false) (is_foreign texts) x) ∙ h) in
      within-roll x
      ∙ and_both (one_of texts (literal_of x.op)) (list_all (λ b. b) (map (texts_within texts) x.args)) (of_op x.op r.0)
      (each_within x.args w r.1))

  all_within : (is : List (Option Assignable)) (es : List Expr) (tss : List (List Ty)) (ks : List Ker) →
      AllBuilt is es tss ks → list_all (texts_among texts) es ≡ true → list_all (texts_within texts) ks ≡ true
  all_within [] [] [] [] b h = refl
  all_within (i ∷ is) (e ∷ es) (ts ∷ tss) (k ∷ ks) b h =
      and_both (texts_within texts k) (list_all (texts_within texts) ks)
      (tree_within k
      (free_kept (λ q. false) (is_foreign texts) (typed_is_built b.0)
      (not_true _ (and_left (texts_among texts e) (list_all (texts_among texts) es) h))))
      (all_within is es tss ks b.1 (and_right (texts_among texts e) (list_all (texts_among texts) es) h))
  all_within is es tss ks b h = absurd (b)

pub texts_are_within : (job : Job) (t : Typed) (k : KerJob) → TextsAreWithin job t k
texts_are_within job t k h b = all_within k.texts (positions job) (parts_of job) t.parts (parts k) b h
