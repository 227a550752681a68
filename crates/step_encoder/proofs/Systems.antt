-- What is known of a system that can be encoded, whatever job stands behind it.
use Rattle.std.proofs.Common.{◌≡◌, ℕ, suc, Bool, false, ◌&&◌, IsTrue, List, [], ◌∷◌, ◌++◌, map}
use Rattle.std.proofs.Common.{length, Option, Some, None, refl, sym, ◌∙◌, ap, subst, arith}
use Rattle.std.specs.Prelude.{◌==◌, All, option_and_then, option_map, unwrap_or}
use Rattle.std.specs.List.{list_all}
use Rattle.std.proofs.lemmas.List.Elements.{All-cons, All-nil}
use Rattle.std.proofs.lemmas.List.Folds.{list_all-append}
use Rattle.tla_meaning.proofs.Laws.{none≢some}
use Rattle.tla_meaning.proofs.Views.{and_left, and_right}
use Rattle.snowcat_rows.specs.declared.types.Ty.{Ty}
use Rattle.snowcat_rows.specs.TypeTexts.{are_distinct}
use Rattle.kernel_trees.specs.declared.kernel.Ker.{Ker}
use Rattle.kernel_trees.specs.declared.path.Assigned.{Assigned}
use Rattle.kernel_trees.specs.declared.system.System.{System}
use Rattle.kernel_trees.specs.Scoped.{scoped}
use Rattle.kernel_trees.specs.Sound.{bound_in, kind_at, passes, sound, sound_assigned, sound_tree}
use Rattle.kernel_trees.specs.Systems.{assigns_once, constants_first, kinds_of_names, parts, sound_job, sound_part}
use Rattle.kernel_trees.specs.Systems.{sound_paths, texts_on, texts_within}
use Rattle.kernel_trees.specs.TypeKinds.{Kind, Truth, all_there, is_kind, kind_of}
use Rattle.kernel_trees.proofs.SoundRows.{found}
use Rattle.shape_bounds.specs.BoundedTrees.{each_node}
use Rattle.path_bounds.specs.BoundedPaths.{nodes_on}
use Rattle.system_texts.specs.SystemTexts.{HasSystemTexts, HasTreeTexts, is_textual}
use Rattle.step_laws.specs.Encodable.{CanEncode}
use Rattle.step_laws.proofs.Sound.{sound_first}
use Rattle.step_encoder.specs.inner.Asked.{names_of}

as_many : (ts : List Ty) (ks : List Kind) → all_there (map kind_of ts) ≡ Some ks → length ks ≡ length ts
as_many [] ks e = ap length (sym (same e))
  where
    same : Some [] ≡ Some ks → [] ≡ ks
    same q = cc
as_many (t ∷ ts) ks e = by (kind_of t) (all_there (map kind_of ts)) refl e (λ js q. as_many ts js q)
  where
    by : (o : Option Kind) (r : Option (List Kind)) → all_there (map kind_of ts) ≡ r →
        option_and_then (λ x. option_map (λ xs. x ∷ xs) r) o ≡ Some ks →
        ((js : List Kind) → all_there (map kind_of ts) ≡ Some js → length js ≡ length ts) → length ks ≡ suc (length ts)
    by None r q k go = absurd (none≢some k)
    by (Some a) None q k go = absurd (none≢some k)
    by (Some a) (Some js) q k go = ap length (sym (same k)) ∙ ap suc (go js q)
      where
        same : Some (a ∷ js) ≡ Some ks → a ∷ js ≡ ks
        same z = cc

eqb_same : (m n : ℕ) → IsTrue (m == n) → m ≡ n
eqb_same m n h = grind (arith, h)

-- a truth value that is sound
pub record IsSoundTruth (names : List Kind) (k : Ker) : Type 0 where
  pub truth : kind_at k ≡ Some Truth
  pub sound : IsTrue (sound names k [] false)

part_sound : (names : List Kind) (texts : List (List ℕ)) (p : Ker) → IsTrue (sound_part names texts p) →
    IsSoundTruth names p
part_sound names texts p h =
    let typed : Bool = is_kind Truth (kind_at p) in
    let tree : Bool = sound_tree names p [] false in
    let both = and_left (typed && tree) (texts_within texts p) h in
    record {
      truth = found Truth (kind_at p) (and_left typed tree both);
      sound = and_left (sound names p [] false) (scoped p (bound_in [])) (and_right typed tree both);
    }

all_sound : (names : List Kind) (texts : List (List ℕ)) (ps : List Ker) →
    IsTrue (list_all (sound_part names texts) ps) → All (IsSoundTruth names) ps
all_sound names texts [] h = All-nil (IsSoundTruth names)
all_sound names texts (p ∷ ps) h =
    let rest : Bool = list_all (sound_part names texts) ps in
    All-cons (IsSoundTruth names) p ps (part_sound names texts p (and_left (sound_part names texts p) rest h))
    (all_sound names texts ps (and_right (sound_part names texts p) rest h))

abbrev pub all_once : List Assigned → Bool
all_once xs = list_all (λ x. assigns_once x.steps) xs

paths_once : (names : List Kind) (texts : List (List ℕ)) (xs : List Assigned) → IsTrue (sound_paths names texts xs) →
    IsTrue (all_once xs)
paths_once names texts [] h = refl
paths_once names texts (x ∷ xs) h =
    let own : Bool = sound_assigned names [] x.steps && assigns_once x.steps in
    let whole : Bool = own && texts_on texts x.steps in
    ap (λ (b : Bool). b && all_once xs) (and_right (sound_assigned names [] x.steps) (assigns_once x.steps)
    (and_left own (texts_on texts x.steps) (and_left whole (sound_paths names texts xs) h)))
    ∙ paths_once names texts xs (and_right whole (sound_paths names texts xs) h)

-- what is known
pub record Known (s : System) : Type 0 where
  pub kinds : kinds_of_names s.ker ≡ Some (names_of s)
  pub filled : length s.ker.fixed ≡ length (names_of s)
  pub first : IsTrue (constants_first s.ker.fixed)
  pub assume : IsSoundTruth (names_of s) s.ker.assume
  pub invs : All (IsSoundTruth (names_of s)) s.ker.invs
  pub constants : IsTrue (all_once s.constants)
  pub start : IsTrue (all_once s.start)
  pub next : IsTrue (all_once s.next)

pub same_names : (s : System) (c : CanEncode s) → names_of s ≡ c.names
unfolding names_of
same_names s c = ap (λ (o : Option (List Kind)). unwrap_or o []) c.kinds

passed : {X : Type 0} (f : X → Bool) (o : Option X) (x : X) → o ≡ Some x → IsTrue (passes f o) → IsTrue (f x)
passed f o x e h = subst (λ (p : Option _). IsTrue (passes f p)) e h

pub known : (s : System) → CanEncode s → Known s
known s c =
    let names : List Kind = names_of s in
    let kinds : kinds_of_names s.ker ≡ Some names = c.kinds ∙ ap Some (sym (same_names s c)) in
    let all_paths : List Kind → Bool = λ ks. sound_paths ks s.ker.texts s.constants &&
    (sound_paths ks s.ker.texts s.start && sound_paths ks s.ker.texts s.next) in
    let job : IsTrue (sound_job s.ker) = and_left (sound_job s.ker) (passes all_paths (kinds_of_names s.ker)) c.sound in
    let paths = passed all_paths (kinds_of_names s.ker) names kinds
    (and_right (sound_job s.ker) (passes all_paths (kinds_of_names s.ker)) c.sound) in
    let first : Bool = sound_paths names s.ker.texts s.constants in
    let second : Bool = sound_paths names s.ker.texts s.start in
    let third : Bool = sound_paths names s.ker.texts s.next in
    let rest = and_right first (second && third) paths in
    let whole : List Kind → Bool = λ ks. list_all (sound_part ks s.ker.texts) (parts s.ker) in
    let front : Bool = length s.ker.names == length s.ker.fixed && constants_first s.ker.fixed in
    let heads : Bool = front && are_distinct s.ker.texts in
    let trees = passed whole (kinds_of_names s.ker) names kinds (and_right heads
    (passes whole (kinds_of_names s.ker)) job) in
    let one : Ker → Bool = sound_part names s.ker.texts in
    let k = s.ker in
    let behind = and_right (one k.cinit) (list_all one (k.assume ∷ k.init ∷ k.next ∷ k.invs)) trees in
    let two = and_right (one k.assume) (list_all one (k.init ∷ k.next ∷ k.invs)) behind in
    let three = and_right (one k.init) (list_all one (k.next ∷ k.invs)) two in
    record {
      kinds = kinds;
      filled =
          sym (eqb_same (length k.names) (length k.fixed) (and_left (length k.names == length k.fixed)
          (constants_first k.fixed)
          (and_left front (are_distinct k.texts) (and_left heads (passes whole (kinds_of_names k)) job))))
          ∙ sym (as_many k.names names kinds);
      first = sound_first k job;
      assume = part_sound names k.texts k.assume (and_left (one k.assume)
          (list_all one (k.init ∷ k.next ∷ k.invs)) behind);
      invs = all_sound names k.texts k.invs (and_right (one k.next) (list_all one k.invs) three);
      constants = paths_once names k.texts s.constants (and_left first (second && third) paths);
      start = paths_once names k.texts s.start (and_left second third rest);
      next = paths_once names k.texts s.next (and_right second third rest);
    }

-- ---- texts

abbrev pub all_nodes : List (List ℕ) → List Assigned → Bool
all_nodes texts xs = list_all (λ x. nodes_on (is_textual texts) x.steps) xs

module _ (texts : List (List ℕ)) (s : System) (h : HasSystemTexts texts s) where
  abbrev test : Assigned → Bool
  test x = nodes_on (is_textual texts) x.steps

  rest : IsTrue (list_all test s.constants && (list_all test s.start && list_all test s.next))
  rest =
      sym (list_all-append test s.constants (s.start ++ s.next) ∙ ap (λ (b : Bool). list_all test s.constants && b)
      (list_all-append test s.start s.next)) ∙ h.paths

  pub texts_of_constants : IsTrue (all_nodes texts s.constants)
  texts_of_constants = and_left (list_all test s.constants) (list_all test s.start && list_all test s.next) rest

  pub texts_of_start : IsTrue (all_nodes texts s.start)
  texts_of_start = and_left (list_all test s.start) (list_all test s.next)
      (and_right (list_all test s.constants) (list_all test s.start && list_all test s.next) rest)

  pub texts_of_next : IsTrue (all_nodes texts s.next)
  texts_of_next = and_right (list_all test s.start) (list_all test s.next)
      (and_right (list_all test s.constants) (list_all test s.start && list_all test s.next) rest)

  pub texts_of_assume : HasTreeTexts texts s.ker.assume
  texts_of_assume = record {
    empty = h.empty;
    nodes = and_left (each_node (is_textual texts) s.ker.assume) (list_all (each_node (is_textual texts)) s.ker.invs)
        h.trees;
  }

  each : (ks : List Ker) → IsTrue (list_all (each_node (is_textual texts)) ks) → All (HasTreeTexts texts) ks
  each [] t = All-nil (HasTreeTexts texts)
  each (k ∷ ks) t =
      let more : Bool = list_all (each_node (is_textual texts)) ks in
      All-cons (HasTreeTexts texts) k ks (record {
        empty = h.empty;
        nodes =
            and_left (each_node (is_textual texts) k) more t;
      }) (each ks
      (and_right (each_node (is_textual texts) k) more t))

  pub texts_of_invs : All (HasTreeTexts texts) s.ker.invs
  texts_of_invs = each s.ker.invs (and_right (each_node (is_textual texts) s.ker.assume)
      (list_all (each_node (is_textual texts)) s.ker.invs) h.trees)
