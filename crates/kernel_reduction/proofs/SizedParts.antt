-- The parts of a job's kernel are built of the job's, with fitting types.
use Rattle.std.proofs.Common.{◌≡◌, ℕ, zero, suc, Bool, true, false, not, ◌&&◌, IsTrue, List, [], ◌∷◌, map, length, Option, Some, None, refl, sym, ◌∙◌, ap, subst}
use Rattle.std.specs.Prelude.{drop, nat_lt}
use Rattle.std.specs.List.{list_all}
use Rattle.tla_meaning.specs.declared.actions.Assignable.{Assignable}
use Rattle.tla_meaning.specs.declared.expr.Expr.{Expr}
use Rattle.tla_meaning.specs.declared.job.Job.{Job}
use Rattle.tla_meaning.proofs.Views.{and_left, and_right, false≢true}
use Rattle.snowcat_rows.specs.Types.{mean}
use Rattle.snowcat_rows.specs.declared.types.Ty.{Ty}
use Rattle.snowcat_rows.specs.declared.types.Typed.{Typed}
use Rattle.snowcat_types.specs.Answers.{AllHaveTypes}
use Rattle.snowcat_types.specs.Rows.{Context}
use Rattle.kernel_trees.specs.declared.kernel.Ker.{Ker}
use Rattle.kernel_trees.specs.Paths.{Marks}
use Rattle.kernel_trees.specs.Scoped.{scoped}
use Rattle.kernel_trees.specs.Sound.{bound_in, kind_at, sound, sound_tree}
use Rattle.kernel_trees.specs.Systems.{sound_part, texts_within}
use Rattle.kernel_trees.specs.TypeKinds.{Kind, Truth, is_kind}
use Rattle.kernel_trees.proofs.SoundNames.{sound_below}
use Rattle.kernel_trees.proofs.SoundRows.{found}
use Rattle.kernel_shapes.specs.Rows.{nth}
use Rattle.kernel_shapes.proofs.PathLaw.{Within, quiet}
use Rattle.kernel_reduction.specs.Builds.{Builds}
use Rattle.kernel_reduction.specs.Fitting.{Fitting, the_kind}
use Rattle.kernel_reduction.specs.JobParts.{part_kinds}
use Rattle.kernel_reduction.specs.JobPaths.{has_name, outside}
use Rattle.kernel_reduction.specs.SizeLaws.{is_apart}
use Rattle.kernel_reduction.specs.SoundLaws.{AllBuilt, has_kind}
use Rattle.kernel_reduction.proofs.Filled.{no_marks, none_mentioned}
use Rattle.kernel_reduction.proofs.KernelNames.{ker_has, mentions_has}
use Rattle.kernel_reduction.proofs.KindsAgreed.{rows_levelled}
use Rattle.kernel_reduction.proofs.Levelled.{Levelled}
use Rattle.kernel_reduction.proofs.NamesKept.{names_kept}

-- ---- the names of a part

within : (n : ℕ) → Within n (λ i primed. not (nat_lt i n)) no_marks
within n i primed l q = absurd (false≢true (sym (ap not l) ∙ q))

pub no_kernel_outside : (names : List Kind) (k : Ker) → sound names k [] false ≡ true → ker_has (outside (length names)) k ≡ false
no_kernel_outside names k s =
    let n : ℕ = length names in
    sym (mentions_has (λ i primed. not (nat_lt i n)) k)
    ∙ quiet n (λ i primed. not (nat_lt i n)) no_marks (within n) k (sound_below names k [] false s) (none_mentioned k)

-- ---- a part, by its number

pub record PartFits (names : List Kind) (t : Typed) (n : ℕ) (i : Option Assignable) (e : Expr) (k : Ker) : Type 0 where
  pub built : Builds i [] e k
  pub fits : Fitting built (part_kinds t n)
  pub levels : Levelled built
  pub apart : is_apart e ≡ true
  pub truth : kind_at k ≡ Some Truth
  pub scoped : sound_tree names k [] false ≡ true
  pub sound : sound names k [] false ≡ true

pub no_name_outside : {names : List Kind} {t : Typed} {n : ℕ} {i : Option Assignable} {e : Expr} {k : Ker} → PartFits names t n i e k → has_name (outside (length names)) e ≡ false
no_name_outside {names = names} {k = k} f = names_kept (outside (length names)) f.built ∙ no_kernel_outside names k f.sound

abbrev pub AllFit : List Kind → Typed → ℕ → List (Option Assignable) → List Expr → List Ker → Type 0
AllFit names t n [] [] [] = Unit {0}
AllFit names t n (i ∷ is) (e ∷ es) (k ∷ ks) = PartFits names t n i e k × AllFit names t (suc n) is es ks
AllFit names t n is es ks = ⊥

nth_there : {X : Type 0} (d : X) (n : ℕ) (xs : List X) (y : X) (ys : List X) → drop n xs ≡ y ∷ ys → (nth d n xs ≡ y) × (drop (suc n) xs ≡ ys)
nth_there {X = X} d n [] y ys h = absurd (no_cons n h)
  where
    no_nil : {x : X} {xs : List X} → [] ≡ x ∷ xs → ⊥
    no_nil q = cc

    no_cons : (n : ℕ) → drop n [] ≡ y ∷ ys → ⊥
    no_cons zero q = no_nil q
    no_cons (suc n) q = no_nil q
nth_there {X = X} d zero (x ∷ xs) y ys h = (first h, rest h)
  where
    first : {a b : X} {as' bs : List X} → a ∷ as' ≡ b ∷ bs → a ≡ b
    first q = cc

    rest : {a b : X} {as' bs : List X} → a ∷ as' ≡ b ∷ bs → as' ≡ bs
    rest q = cc
nth_there d (suc n) (x ∷ xs) y ys h = nth_there d n xs y ys h

module _ (names : List Kind) (texts : List (List ℕ)) (t : Typed) (g : Context) where
  part_fits : (n : ℕ) (i : Option Assignable) (e : Expr) (ts : List Ty) (k : Ker) → map the_kind ts ≡ part_kinds t n →
      (b : Builds i [] e k) × (Fitting b (map the_kind ts) × Levelled b) → is_apart e ≡ true → sound_part names texts k ≡ true → PartFits names t n i e k
  part_fits n i e ts k q b a s =
      let truth : Bool = is_kind Truth (kind_at k) in
      let tree : Bool = sound_tree names k [] false in
      let one : (truth && tree) ≡ true = and_left (truth && tree) (texts_within texts k) s in record {
        built = b.0;
        fits = subst (Fitting b.0) q b.1.0;
        levels = b.1.1;
        apart = a;
        truth = found Truth (kind_at k) (and_left truth tree one);
        scoped = and_right truth tree one;
        sound = and_left (sound names k [] false) (scoped k (bound_in [])) (and_right truth tree one);
      }

  pub all_fit : (n : ℕ) (is : List (Option Assignable)) (es : List Expr) (tss : List (List Ty)) (ks : List Ker) → drop n t.parts ≡ tss → AllBuilt is es tss ks →
      AllHaveTypes g es (map (map mean) tss) → list_all (list_all has_kind) tss ≡ true → list_all is_apart es ≡ true → list_all (sound_part names texts) ks ≡ true →
      AllFit names t n is es ks
  all_fit n [] [] [] [] q b h kinds a s = tt
  all_fit n (i ∷ is) (e ∷ es) (ts ∷ tss) (k ∷ ks) q b h kinds a s =
      let rest : Bool = list_all (list_all has_kind) tss in
      let z = nth_there [] n t.parts ts tss q in (
        part_fits n i e ts k (ap (map the_kind) (sym z.0)) (rows_levelled i [] e ts k [] b.0 g h.0 (and_left (list_all has_kind ts) rest kinds))
            (and_left (is_apart e) (list_all is_apart es) a) (and_left (sound_part names texts k) (list_all (sound_part names texts) ks) s),
        all_fit (suc n) is es tss ks z.1 b.1 h.1 (and_right (list_all has_kind ts) rest kinds)
            (and_right (is_apart e) (list_all is_apart es) a) (and_right (sound_part names texts k) (list_all (sound_part names texts) ks) s),
      )
  all_fit n is es tss ks q b h kinds a s = absurd b
