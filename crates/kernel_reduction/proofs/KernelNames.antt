-- Which declared names a kernel tree holds: those that count and those that it reads are told by one fold.
use Rattle.std.proofs.Common.{◌≡◌, ℕ, Bool, false, ◌&&◌, List, map, take, refl, sym, ◌∙◌, ap}
use Rattle.std.specs.Prelude.{nat_eq}
use Rattle.std.specs.List.{list_any}
use Rattle.std.specs.Ordering.{is_eq}
use Rattle.tla_values.specs.declared.value.Value.{Value}
use Rattle.tla_meaning.specs.Outcomes.{place_cmp}
use Rattle.tla_meaning.specs.declared.place.Place.{Place}
use Rattle.kernel_trees.specs.declared.kernel.Ker.{Ker, roll-Ker, out-Ker, roll-out-Ker}
use Rattle.kernel_trees.specs.declared.kernel.Ker.TheOpen.{Ker-F}
use Rattle.kernel_trees.specs.declared.kernel.Ker.TheFolds.{fold-Ker, fold-roll-Ker}
use Rattle.kernel_trees.specs.declared.kernel.KerOp.{KerOp}
use Rattle.kernel_trees.specs.declared.kernel.KerOp.TheVariants as ker
use Rattle.kernel_trees.specs.Paths.{Marks, mentions, mentions_at}
use Rattle.kernel_trees.specs.Assignments.{reads_at, reads_here}

abbrev pub ker_has_at : (ℕ → Bool → Place → Bool) → Place → KerOp → List Bool → Bool
ker_has_at test p (ker.Name i primed) bs = test i primed p
ker_has_at test p (ker.Const v) bs = false
ker_has_at test p ker.NoCase bs = false
ker_has_at test p ker.Range bs = list_any (λ b. b) (take 2 bs)
ker_has_at test p o bs = list_any (λ b. b) bs

-- whether a kernel tree holds a declared name that passes: by its number, whether it is primed, and where it stands
unfoldable pub ker_has : (ℕ → Bool → Place → Bool) → Ker → Bool
ker_has test = fold-Ker Bool (λ x. ker_has_at test x.place x.op x.args)

pub has-roll : (test : ℕ → Bool → Place → Bool) (x : Ker-F Ker) →
    ker_has test (roll-Ker x) ≡ ker_has_at test x.place x.op (map (ker_has test) x.args)
unfolding ker_has
has-roll test x = fold-roll-Ker Bool (λ x. ker_has_at test x.place x.op x.args) x

-- a constant holds none
pub no_names_in_constant : (test : ℕ → Bool → Place → Bool) (k : Ker) (v : Value) → (out-Ker k).op ≡ ker.Const v → ker_has test k ≡ false
no_names_in_constant test k v h =
    ap (ker_has test) (sym (roll-out-Ker k))
    ∙ has-roll test (out-Ker k)
    ∙ ap (λ o. ker_has_at test (out-Ker k).place o (map (ker_has test) (out-Ker k).args)) h

-- ---- the tests of the definitions

pub mentions_has : (m : Marks) (k : Ker) → mentions m k ≡ ker_has (λ i primed p. m i primed) k
unfolding mentions ker_has
mentions_has m k = λ i. fold-Ker Bool (λ x. same x.place x.op x.args i) k
  where
    same : (p : Place) (o : KerOp) (bs : List Bool) → mentions_at m o bs ≡ ker_has_at (λ i primed p. m i primed) p o bs
    same p (ker.Name i primed) bs = refl
    same p (ker.Const v) bs = refl
    same p ker.NoCase bs = refl
    same p ker.Range bs = refl
    same p o bs = refl

-- reads the name of this number there
abbrev pub is_read : Marks → ℕ → Place → ℕ → Bool → Place → Bool
is_read m i p j primed q = (m j primed && nat_eq i j) && is_eq (place_cmp p q)

pub reads_has : (m : Marks) (k : Ker) (i : ℕ) (p : Place) → reads_at m k i p ≡ ker_has (is_read m i p) k
unfolding reads_at ker_has
reads_has m k i p = λ z. fold-Ker Bool (λ x. same x.place x.op x.args z) k
  where
    same : (q : Place) (o : KerOp) (bs : List Bool) → reads_here m i p q o bs ≡ ker_has_at (is_read m i p) q o bs
    same q (ker.Name j primed) bs = refl
    same q (ker.Const v) bs = refl
    same q ker.NoCase bs = refl
    same q ker.Range bs = refl
    same q o bs = refl
