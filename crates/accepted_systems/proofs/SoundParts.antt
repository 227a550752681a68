-- What a sound kernel says of its parts.
use Rattle.std.proofs.Common.{◌≡◌, Bool, ◌&&◌, IsTrue, List, ◌∷◌, length, Option, Some, None, refl}
use Rattle.std.specs.Prelude.{◌==◌}
use Rattle.std.specs.List.{list_all}
use Rattle.snowcat_rows.specs.TypeTexts.{are_distinct}
use Rattle.tla_meaning.proofs.Views.{and_left, and_right, false≢true}
use Rattle.kernel_trees.specs.declared.kernel.Ker.{Ker}
use Rattle.kernel_trees.specs.declared.system.KerJob.{KerJob}
use Rattle.kernel_trees.specs.Sound.{passes}
use Rattle.kernel_trees.specs.Systems.{constants_first, kinds_of_names, parts, sound_job, sound_part}
use Rattle.kernel_trees.specs.TypeKinds.{Kind}

pub record SoundParts (k : KerJob) : Type 0 where
  pub names : List Kind
  pub kinds : kinds_of_names k ≡ Some names
  pub first : IsTrue (constants_first k.fixed)
  pub cinit : IsTrue (sound_part names k.texts k.cinit)
  pub init : IsTrue (sound_part names k.texts k.init)
  pub next : IsTrue (sound_part names k.texts k.next)

module _ (k : KerJob) (h : IsTrue (sound_job k)) where
  abbrev Head : Bool
  Head = (length k.names == length k.fixed && constants_first k.fixed) && are_distinct k.texts

  abbrev each_sound : List Kind → Bool
  each_sound names = list_all (sound_part names k.texts) (parts k)

  its_parts : (o : Option (List Kind)) → kinds_of_names k ≡ o → IsTrue (passes each_sound o) → SoundParts k
  its_parts None e p = absurd (false≢true p)
  its_parts (Some names) e p =
      let whole : Ker → Bool = sound_part names k.texts in
      let one = and_right (whole k.cinit) (list_all whole (k.assume ∷ k.init ∷ k.next ∷ k.invs)) p in
      let two = and_right (whole k.assume) (list_all whole (k.init ∷ k.next ∷ k.invs)) one in
      let three = and_right (whole k.init) (list_all whole (k.next ∷ k.invs)) two in
      record {
        names = names;
        kinds = e;
        first = and_right (length k.names == length k.fixed) (constants_first k.fixed)
            (and_left (length k.names == length k.fixed && constants_first k.fixed) (are_distinct k.texts)
            (and_left Head (passes each_sound (kinds_of_names k)) h));
        cinit = and_left (whole k.cinit) (list_all whole (k.assume ∷ k.init ∷ k.next ∷ k.invs)) p;
        init = and_left (whole k.init) (list_all whole (k.next ∷ k.invs)) two;
        next = and_left (whole k.next) (list_all whole k.invs) three;
      }

  pub sound_parts : SoundParts k
  sound_parts = its_parts (kinds_of_names k) refl (and_right Head (passes each_sound (kinds_of_names k)) h)
