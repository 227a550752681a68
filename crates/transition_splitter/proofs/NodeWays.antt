-- The paths of a tree and whether it holds a marked name, by its operator.
use Rattle.std.proofs.Common.{◌≡◌, ℕ, Bool, true, false, ◌||◌, List, [], ◌∷◌, map, refl, sym, ◌∙◌, ap, subst}
use Rattle.std.proofs.Common.{if◌then◌else◌}
use Rattle.std.specs.List.{list_any}
use Rattle.std.proofs.lemmas.Simd.{map-map}
use Rattle.tla_values.specs.declared.value.Value.{Value}
use Rattle.tla_meaning.specs.declared.place.Place.{Place}
use Rattle.kernel_trees.specs.declared.kernel.Ker.{Ker, out-Ker, roll-out-Ker}
use Rattle.kernel_trees.specs.declared.kernel.KerOp.{KerOp}
use Rattle.kernel_trees.specs.declared.kernel.KerOp.TheVariants as ker
use Rattle.kernel_trees.specs.Paths.{Marks, Parted, Holds, any_mentions, ends_at, if_ways, mentions, mentions_at}
use Rattle.kernel_trees.specs.Paths.{place_of, ways, ways_of}
use Rattle.kernel_trees.specs.Ways.{all_of, alone, any_of}
use Rattle.kernel_trees.proofs.LawOfPaths.{ways-roll}
use Rattle.kernel_trees.proofs.Trees.{mentions-roll}
use Rattle.transition_splitter.specs.inner.Routes.{rooted, some_ways, with_ways}

-- ---- lists

any_map : {X Y : Type 0} (p : Y → Bool) (f : X → Y) (xs : List X) → list_any p (map f xs) ≡ list_any (λ x. p (f x)) xs
any_map p f [] = refl
any_map p f (x ∷ xs) = ap (λ b. p (f x) || b) (any_map p f xs)

-- ---- paths

pub ways_out : (m : Marks) (k : Ker) →
    ways m k ≡ ways_of m (out-Ker k).op k (out-Ker k).place (out-Ker k).binds (with_ways m (out-Ker k).args)
ways_out m k =
    subst (λ (t : Ker). ways m t ≡ ways_of m (out-Ker k).op t (out-Ker k).place (out-Ker k).binds
    (with_ways m (out-Ker k).args))
    (roll-out-Ker k)
    (ways-roll m (out-Ker k))

node : (m : Marks) (k : Ker) (o : KerOp) → (out-Ker k).op ≡ o →
    ways m k ≡ ways_of m o k (out-Ker k).place (out-Ker k).binds (with_ways m (out-Ker k).args)
node m k o h = ways_out m k ∙ ap (λ (o : KerOp). ways_of m o k (out-Ker k).place (out-Ker k).binds
    (with_ways m (out-Ker k).args)) h

-- `ks` are the operands
module _ (m : Marks) (k : Ker) (ks : List Ker) (e : ks ≡ (out-Ker k).args) where
  holds_one : (b : Bool) → list_any (mentions m) ks ≡ b → any_mentions m (with_ways m (out-Ker k).args) ≡ b
  holds_one b t =
      any_map (λ (x : Parted). mentions m x.0) (λ k. (k, ways m k)) (out-Ker k).args
      ∙ sym (ap (list_any (mentions m)) e)
      ∙ t

  pub ways_and : (out-Ker k).op ≡ ker.And → all_of ends_at (map (ways m) ks) ≡ ways m k
  ways_and h =
      ap (λ (ks : List Ker). all_of ends_at (map (ways m) ks)) e
      ∙ sym (node m k ker.And h ∙ ap (all_of ends_at) (map-map (λ (x : Parted). x.1) (λ k. (k, ways m k))
      (out-Ker k).args))

  pub ways_or : (out-Ker k).op ≡ ker.Or → list_any (mentions m) ks ≡ true → any_of (map (rooted m) ks) ≡ ways m k
  ways_or h t =
      ap (λ (ks : List Ker). any_of (map (rooted m) ks)) e
      ∙ sym (
      node m k ker.Or h
      ∙ ap (λ b. if b then any_of (map (λ (x : Parted). (place_of x, x.1)) (with_ways m (out-Ker k).args)) else alone
      (Holds k)) (holds_one true t)
      ∙ ap any_of (map-map (λ (x : Parted). (place_of x, x.1)) (λ k. (k, ways m k)) (out-Ker k).args)
      )

  pub ways_plain_or : (out-Ker k).op ≡ ker.Or → list_any (mentions m) ks ≡ false → alone (Holds k) ≡ ways m k
  ways_plain_or h t =
      sym (
      node m k ker.Or h
      ∙ ap (λ b. if b then any_of (map (λ (x : Parted). (place_of x, x.1)) (with_ways m (out-Ker k).args)) else alone
      (Holds k)) (holds_one false t)
      )

  pub ways_if : (out-Ker k).op ≡ ker.If → list_any (mentions m) ks ≡ true →
      if_ways k (out-Ker k).place (with_ways m (out-Ker k).args) ≡ ways m k
  ways_if h t =
      sym (
      node m k ker.If h
      ∙ ap (λ b. if b then if_ways k (out-Ker k).place (with_ways m (out-Ker k).args) else alone (Holds k))
      (holds_one true t)
      )

  pub ways_plain_if : (out-Ker k).op ≡ ker.If → list_any (mentions m) ks ≡ false → alone (Holds k) ≡ ways m k
  ways_plain_if h t =
      sym (
      node m k ker.If h
      ∙ ap (λ b. if b then if_ways k (out-Ker k).place (with_ways m (out-Ker k).args) else alone (Holds k))
      (holds_one false t)
      )

pub ways_some : (m : Marks) (k : Ker) → (out-Ker k).op ≡ ker.Some → some_ways m k ≡ ways m k
ways_some m k h = sym (node m k ker.Some h)

-- no operator whose operands are taken apart
pub record IsPlain (o : KerOp) : Type 0 where
  pub no_and : o ≡ ker.And → ⊥
  pub no_or : o ≡ ker.Or → ⊥
  pub no_if : o ≡ ker.If → ⊥
  pub no_some : o ≡ ker.Some → ⊥

plain_at : (m : Marks) (o : KerOp) (k : Ker) (p : Place) (xs : List ℕ) (ks : List Parted) → IsPlain o →
    ways_of m o k p xs ks ≡ alone (Holds k)
plain_at m ker.And k p xs ks h = absurd (h.no_and refl)
plain_at m ker.Or k p xs ks h = absurd (h.no_or refl)
plain_at m ker.If k p xs ks h = absurd (h.no_if refl)
plain_at m ker.Some k p xs ks h = absurd (h.no_some refl)
plain_at m o k p xs ks h = refl

pub ways_plain : (m : Marks) (k : Ker) → IsPlain (out-Ker k).op → alone (Holds k) ≡ ways m k
ways_plain m k h = sym (ways_out m k ∙ plain_at m (out-Ker k).op k (out-Ker k).place (out-Ker k).binds
    (with_ways m (out-Ker k).args) h)

-- ---- marked names

pub mentions_out : (m : Marks) (k : Ker) →
    mentions m k ≡ mentions_at m (out-Ker k).op (map (mentions m) (out-Ker k).args)
mentions_out m k =
    subst (λ (t : Ker). mentions m t ≡ mentions_at m (out-Ker k).op (map (mentions m) (out-Ker k).args))
    (roll-out-Ker k)
    (mentions-roll m (out-Ker k))

pub mentions_by : (m : Marks) (k : Ker) (o : KerOp) → (out-Ker k).op ≡ o →
    mentions m k ≡ mentions_at m o (map (mentions m) (out-Ker k).args)
mentions_by m k o h = mentions_out m k ∙ ap (λ (o : KerOp). mentions_at m o (map (mentions m) (out-Ker k).args)) h

-- no name, and no operator of which some operands are not read
pub record IsRead (o : KerOp) : Type 0 where
  pub no_name : (i : ℕ) (primed : Bool) → o ≡ ker.Name i primed → ⊥
  pub no_const : (v : Value) → o ≡ ker.Const v → ⊥
  pub no_case : o ≡ ker.NoCase → ⊥
  pub no_range : o ≡ ker.Range → ⊥

read_at : (m : Marks) (o : KerOp) (bs : List Bool) → IsRead o → mentions_at m o bs ≡ list_any (λ b. b) bs
read_at m (ker.Name i primed) bs h = absurd (h.no_name i primed refl)
read_at m (ker.Const v) bs h = absurd (h.no_const v refl)
read_at m ker.NoCase bs h = absurd (h.no_case refl)
read_at m ker.Range bs h = absurd (h.no_range refl)
read_at m o bs h = refl

pub mentions_read : (m : Marks) (k : Ker) → IsRead (out-Ker k).op →
    list_any (mentions m) (out-Ker k).args ≡ mentions m k
mentions_read m k h =
    sym (any_map (λ b. b) (mentions m) (out-Ker k).args)
    ∙ sym (read_at m (out-Ker k).op (map (mentions m) (out-Ker k).args) h)
    ∙ sym (mentions_out m k)
