-- What a sound kernel has: no number is bound again in its actions, their names are its own, and constants stand first.
use Rattle.std.proofs.Common.{◌≡◌, ℕ, suc, Bool, false, ◌&&◌, IsTrue, List, [], ◌∷◌, map, length, Option, Some, None, refl, sym, ◌∙◌, ap, subst}
use Rattle.std.specs.Prelude.{◌==◌, option_and_then, option_map}
use Rattle.std.specs.List.{list_all}
use Rattle.tla_meaning.proofs.Laws.{none≢some}
use Rattle.tla_meaning.proofs.Views.{and_left, and_right, false≢true}
use Rattle.snowcat_rows.specs.declared.types.Ty.{Ty}
use Rattle.snowcat_rows.specs.TypeTexts.{are_distinct}
use Rattle.kernel_trees.specs.declared.kernel.Ker.{Ker}
use Rattle.kernel_trees.specs.declared.system.KerJob.{KerJob}
use Rattle.kernel_trees.specs.Laws.{IsWithin}
use Rattle.kernel_trees.specs.Scoped.{scoped}
use Rattle.kernel_trees.specs.Sound.{bound_in, kind_at, passes, sound, sound_tree}
use Rattle.kernel_trees.specs.Systems.{constants_first, kinds_of_names, parts, sound_job, sound_part, texts_within}
use Rattle.kernel_trees.specs.TypeKinds.{Kind, Truth, all_there, is_kind, kind_of}
use Rattle.kernel_trees.proofs.SoundNames.{sound_below}
use Rattle.step_laws.proofs.Steps.{AreScoped}

as_many : (ts : List Ty) (ks : List Kind) → all_there (map kind_of ts) ≡ Some ks → length ks ≡ length ts
as_many [] ks e = ap length (sym (same e))
  where
    same : Some [] ≡ Some ks → [] ≡ ks
    same q = cc
as_many (t ∷ ts) ks e = by (kind_of t) (all_there (map kind_of ts)) refl e (λ js q. as_many ts js q)
  where
    by : (o : Option Kind) (r : Option (List Kind)) → all_there (map kind_of ts) ≡ r → option_and_then (λ x. option_map (λ xs. x ∷ xs) r) o ≡ Some ks →
        ((js : List Kind) → all_there (map kind_of ts) ≡ Some js → length js ≡ length ts) → length ks ≡ suc (length ts)
    by None r q k go = absurd (none≢some k)
    by (Some a) None q k go = absurd (none≢some k)
    by (Some a) (Some js) q k go = ap length (sym (same k)) ∙ ap suc (go js q)
      where
        same : Some (a ∷ js) ≡ Some ks → a ∷ js ≡ ks
        same z = cc

part_within : (names : List Kind) (texts : List (List ℕ)) (p : Ker) → IsTrue (sound_part names texts p) → IsWithin (length names) p (bound_in [])
part_within names texts p h =
    let typed : Bool = is_kind Truth (kind_at p) in
    let tree : Bool = sound_tree names p [] false in
    let t = and_right typed tree (and_left (typed && tree) (texts_within texts p) h) in
    let own : Bool = sound names p [] false in
    (and_right own (scoped p (bound_in [])) t, sound_below names p [] false (and_left own (scoped p (bound_in [])) t))

abbrev parts_sound : KerJob → List Kind → Bool
parts_sound k names = list_all (sound_part names k.texts) (parts k)

pub sound_scoped : (k : KerJob) (n : ℕ) → length k.names ≡ n → IsTrue (sound_job k) → AreScoped n k
sound_scoped k n many h = by (kinds_of_names k) refl (and_right ((length k.names == length k.fixed && constants_first k.fixed) && are_distinct k.texts) (passes (parts_sound k) (kinds_of_names k)) h)
  where
    by : (o : Option (List Kind)) → kinds_of_names k ≡ o → IsTrue (passes (parts_sound k) o) → AreScoped n k
    by None e p = absurd (false≢true p)
    by (Some names) e p =
        let is : length names ≡ n = as_many k.names names e ∙ many in
        let whole : Ker → Bool = sound_part names k.texts in
        let one = and_right (whole k.cinit) (list_all whole (k.assume ∷ k.init ∷ k.next ∷ k.invs)) p in
        let two = and_right (whole k.assume) (list_all whole (k.init ∷ k.next ∷ k.invs)) one in
        let three = and_right (whole k.init) (list_all whole (k.next ∷ k.invs)) two in
        record {
          cinit = subst (λ (m : ℕ). IsWithin m k.cinit (bound_in [])) is
              (part_within names k.texts k.cinit (and_left (whole k.cinit) (list_all whole (k.assume ∷ k.init ∷ k.next ∷ k.invs)) p));
          init = subst (λ (m : ℕ). IsWithin m k.init (bound_in [])) is (part_within names k.texts k.init (and_left (whole k.init) (list_all whole (k.next ∷ k.invs)) two));
          next = subst (λ (m : ℕ). IsWithin m k.next (bound_in [])) is (part_within names k.texts k.next (and_left (whole k.next) (list_all whole k.invs) three));
        }

pub sound_first : (k : KerJob) → IsTrue (sound_job k) → IsTrue (constants_first k.fixed)
sound_first k h =
    and_right (length k.names == length k.fixed) (constants_first k.fixed)
    (and_left (length k.names == length k.fixed && constants_first k.fixed) (are_distinct k.texts)
    (and_left ((length k.names == length k.fixed && constants_first k.fixed) && are_distinct k.texts)
    (passes (λ names. list_all (sound_part names k.texts) (parts k)) (kinds_of_names k)) h))
