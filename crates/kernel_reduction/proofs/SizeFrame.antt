-- What is built keeps shape, literal and refusal: the frame, and nodes of the same operator.
use Rattle.std.proofs.Common.{◌≡◌, ℕ, Bool, true, false, List, [], ◌∷◌, map, None, refl, sym, ◌∙◌, ap, ap₂}
use Rattle.tla_meaning.specs.declared.place.Place.{Place}
use Rattle.tla_meaning.proofs.Views.{and_left, and_right, false≢true}
use Rattle.snowcat_rows.specs.declared.types.Ty.{Ty}
use Rattle.kernel_trees.specs.declared.kernel.Ker.{Ker}
use Rattle.kernel_trees.specs.declared.kernel.Ker.TheOpen.{Ker-F}
use Rattle.kernel_trees.specs.declared.kernel.KerOp.{KerOp}
use Rattle.kernel_trees.specs.declared.kernel.KerOp.TheVariants as ker
use Rattle.kernel_trees.specs.Trees.{op_of}
use Rattle.kernel_trees.specs.TypeKinds as kind
use Rattle.kernel_trees.specs.TypeKinds.{Kind, kind_of}
use Rattle.kernel_shapes.specs.Rows.{Literal, no_literal, Row, nth}
use Rattle.kernel_shapes.specs.Sized.{Extent, Sizing, Seen, Family, reads, plain, binder, membership, subset_set, function_set, product_set, infinite, noted, excepts, folds, seen, outside, all_sound, family_sound, index_of, row_joins, shapes_of}
use Rattle.kernel_shapes.specs.Trees.{family_with, domain_row, tuple_row, read_shape, is_except}
use Rattle.kernel_shapes.specs.Kernel.{ker_sized}
use Rattle.kernel_shapes.proofs.KernelNodes.{ker_parts, first_kinds, node_sizing, ker_sized-roll}
use Rattle.kernel_reduction.specs.Reduction.{Numbering}
use Rattle.kernel_reduction.specs.SizeLaws.{TiedShapes}
use Rattle.kernel_reduction.specs.Builds.{is_same}
use Rattle.kernel_reduction.specs.Fitting.{the_kind}
use Rattle.kernel_reduction.specs.Rows.{node}
use Rattle.kernel_reduction.proofs.Gists.{Gist, gist_at, node_gist}
use Rattle.kernel_reduction.proofs.GistNodes.{Gists, gist_outside, node_at, ker_gist, ker_gists, operand_gists, ker_node, whole}

-- ---- what is kept

abbrev pub IsSound : ℕ → Ker → Extent → Type 0
IsSound w k h = (ker_sized w k h).sound ≡ true

abbrev pub AllSound : ℕ → List Ker → Extent → Type 0
AllSound w [] h = Unit {0}
AllSound w (k ∷ ks) h = IsSound w k h × AllSound w ks h

-- where the kernel tree is sound
abbrev pub KeepsGist : ℕ → Numbering → (Extent → Gist) → Ker → Type 0
KeepsGist w ρ z k = (g h : Extent) → TiedShapes ρ g h → IsSound w k h → z g ≡ ker_gist w k h

abbrev pub KeepsGists : ℕ → Numbering → Gists → List Ker → Type 0
KeepsGists w ρ [] [] = Unit {0}
KeepsGists w ρ (z ∷ zs) (k ∷ ks) = KeepsGist w ρ z k × KeepsGists w ρ zs ks
KeepsGists w ρ [] (k ∷ ks) = ⊥
KeepsGists w ρ (z ∷ zs) [] = ⊥

abbrev pub all_here : Gists → Extent → List Gist
all_here zs g = gist_outside [] zs g

abbrev pub kers_here : ℕ → List Ker → Extent → List Gist
kers_here w ks h = all_here (ker_gists w ks) h

pub same_here : (w : ℕ) (ρ : Numbering) (zs : Gists) (ks : List Ker) → KeepsGists w ρ zs ks → (g h : Extent) → TiedShapes ρ g h → AllSound w ks h →
    all_here zs g ≡ kers_here w ks h
same_here w ρ [] [] k g h t s = refl
same_here w ρ (z ∷ zs) (l ∷ ks) k g h t s = ap₂ (λ (a : Gist) (as' : List Gist). a ∷ as') (k.0 g h t s.0) (same_here w ρ zs ks k.1 g h t s.1)
same_here w ρ [] (l ∷ ks) k g h t s = absurd k
same_here w ρ (z ∷ zs) [] k g h t s = absurd k

-- ---- nodes that read their children where they stand

-- of what stands there alone
abbrev pub of_here : ℕ → Place → Family → List Gist → Gist
of_here w p f as' = node_gist w p f (record { here = as'; under = λ bs. []; name = None })

abbrev pub second : List Gist → Literal
second as' = (gist_at 1 as').literal

-- an operator of the kernel that takes its children as they are
same_node : (w : ℕ) (p : Place) (ko : KerOp) → is_same ko ≡ true → (xs : List (List ℕ)) (ps : List Bool) (k : Kind) (js : List Kind) (zs : Gists) (g : Extent) →
    node_at w p (op_of ko) xs ps k js zs g ≡ of_here w p (family_with (op_of ko) 0 k js no_literal ps) (all_here zs g)
same_node w p (ker.Const v) f xs ps k js zs g = absurd (false≢true f)
same_node w p (ker.Name i primed) f xs ps k js zs g = absurd (false≢true f)
same_node w p (ker.Bound n) f xs ps k js zs g = absurd (false≢true f)
same_node w p ker.Filter f xs ps k js zs g = absurd (false≢true f)
same_node w p ker.MapOver f xs ps k js zs g = absurd (false≢true f)
same_node w p ker.Range f xs ps k js zs g = absurd (false≢true f)
same_node w p ker.FunOf f xs ps k js zs g = absurd (false≢true f)
same_node w p ker.Update f xs ps k js zs g = absurd (false≢true f)
same_node w p (ker.Item i) f xs ps k js zs g = absurd (false≢true f)
same_node w p ker.FoldLeft f xs ps k js zs g = absurd (false≢true f)
same_node w p ker.Some f xs ps k js zs g = absurd (false≢true f)
same_node w p ker.Every f xs ps k js zs g = absurd (false≢true f)
same_node w p ker.NoCase f xs ps k js zs g = absurd (false≢true f)
same_node w p ko f xs ps k js zs g = refl

same_operands : (w : ℕ) (ko : KerOp) → is_same ko ≡ true → (zs : Gists) → operand_gists w ko zs ≡ zs
same_operands w (ker.Const v) f zs = absurd (false≢true f)
same_operands w (ker.Item i) f zs = absurd (false≢true f)
same_operands w ker.Range f zs = absurd (false≢true f)
same_operands w ker.NoCase f zs = absurd (false≢true f)
same_operands w ko f zs = refl

no_except : (ko : KerOp) → is_same ko ≡ true → is_except (op_of ko) ≡ false
no_except (ker.Const v) f = absurd (false≢true f)
no_except ker.Update f = absurd (false≢true f)
no_except ko f = refl

abbrev pub opened : Place → Ty → KerOp → List Ker → Ker-F Ker
opened p a ko ks = record { place = p; ty = a; op = ko; args = ks; binds = [] }

-- a kernel node that takes its children as they are
pub made : (w : ℕ) (p : Place) (a : Ty) (ko : KerOp) (ks : List Ker) (h : Extent) → is_same ko ≡ true →
    ker_gist w (node p a ko ks) h ≡ of_here w p (family_with (op_of ko) 0 (the_kind a) (first_kinds (opened p a ko ks)) no_literal (ker_parts (opened p a ko ks))) (kers_here w ks h)
made w p a ko ks h f =
    ker_node w (opened p a ko ks) h (whole (op_of ko) (ker_parts (opened p a ko ks)) (no_except ko f))
    ∙ ap (λ (zs : Gists). node_at w p (op_of ko) [] (ker_parts (opened p a ko ks)) (the_kind a) (first_kinds (opened p a ko ks)) zs h) (same_operands w ko f (ker_gists w ks))
    ∙ same_node w p ko f [] (ker_parts (opened p a ko ks)) (the_kind a) (first_kinds (opened p a ko ks)) (ker_gists w ks) h

-- what the table reads of types: whether a tuple is a sequence, and of what a domain is
abbrev pub SameRow : KerOp → Kind → Kind → List Kind → List Kind → Type 0
SameRow ker.TupOf a b js ks = tuple_row a ≡ tuple_row b
SameRow ker.SeqOf a b js ks = tuple_row a ≡ tuple_row b
SameRow ker.Domain a b js ks = domain_row (nth kind.Truth 0 js) ≡ domain_row (nth kind.Truth 0 ks)
SameRow ko a b js ks = Unit {0}

same_family : (ko : KerOp) → is_same ko ≡ true → (a b : Kind) (js ks : List Kind) (ps qs : List Bool) → SameRow ko a b js ks →
    family_with (op_of ko) 0 a js no_literal ps ≡ family_with (op_of ko) 0 b ks no_literal qs
same_family ker.TupOf f a b js ks ps qs r = ap (λ (x : Row). plain x no_literal) r
same_family ker.SeqOf f a b js ks ps qs r = ap (λ (x : Row). plain x no_literal) r
same_family ker.Domain f a b js ks ps qs r = ap (λ (x : Row). plain x no_literal) r
same_family (ker.Const v) f a b js ks ps qs r = absurd (false≢true f)
same_family ker.Update f a b js ks ps qs r = absurd (false≢true f)
same_family ko f a b js ks ps qs r = refl

-- ---- soundness of children

pub outside_sound : (w : ℕ) (ks : List Ker) (h : Extent) → all_sound (outside [] (map (ker_sized w) ks) h) ≡ true → AllSound w ks h
outside_sound w [] h s = tt
outside_sound w (k ∷ ks) h s = (
  and_left (ker_sized w k h).sound (all_sound (outside [] (map (ker_sized w) ks) h)) s,
  outside_sound w ks h (and_right (ker_sized w k h).sound (all_sound (outside [] (map (ker_sized w) ks) h)) s),
)

-- families whose children are all walked where the node stands
abbrev pub IsSimple : Family → Type 0
IsSimple reads = ⊥
IsSimple (binder n r) = ⊥
IsSimple (excepts ns ps) = ⊥
IsSimple folds = ⊥
IsSimple f = Unit {0}

simple_sound : (f : Family) (v : Seen) → IsSimple f → family_sound f v ≡ true → all_sound v.here ≡ true
simple_sound reads v i s = absurd i
simple_sound (binder n r) v i s = absurd i
simple_sound (excepts ns ps) v i s = absurd i
simple_sound folds v i s = absurd i
simple_sound (plain r l) v i s = and_left (all_sound v.here) (row_joins r (index_of v.here) (shapes_of v.here)) s
simple_sound (product_set r) v i s = and_left (all_sound v.here) (row_joins r no_literal (shapes_of v.here)) s
simple_sound membership v i s = s
simple_sound subset_set v i s = s
simple_sound function_set v i s = s
simple_sound infinite v i s = s
simple_sound noted v i s = s

same_simple : (ko : KerOp) → is_same ko ≡ true → (k : Kind) (js : List Kind) (l : Literal) (ps : List Bool) → IsSimple (family_with (op_of ko) 0 k js l ps)
same_simple (ker.Const v) f k js l ps = absurd (false≢true f)
same_simple (ker.Name i primed) f k js l ps = absurd (false≢true f)
same_simple (ker.Bound n) f k js l ps = absurd (false≢true f)
same_simple ker.Filter f k js l ps = absurd (false≢true f)
same_simple ker.MapOver f k js l ps = absurd (false≢true f)
same_simple ker.FunOf f k js l ps = absurd (false≢true f)
same_simple ker.Update f k js l ps = absurd (false≢true f)
same_simple ker.FoldLeft f k js l ps = absurd (false≢true f)
same_simple ker.Some f k js l ps = absurd (false≢true f)
same_simple ker.Every f k js l ps = absurd (false≢true f)
same_simple ko f k js l ps = tt

same_sizing : (w : ℕ) (p : Place) (a : Ty) (ko : KerOp) (ks : List Ker) (h : Extent) → is_same ko ≡ true → (node_sizing w (opened p a ko ks) h).sound ≡ true →
    all_sound (outside [] (map (ker_sized w) ks) h) ≡ true
same_sizing w p a (ker.Const v) ks h f s = absurd (false≢true f)
same_sizing w p a (ker.Name i primed) ks h f s = absurd (false≢true f)
same_sizing w p a (ker.Bound n) ks h f s = absurd (false≢true f)
same_sizing w p a ker.Filter ks h f s = absurd (false≢true f)
same_sizing w p a ker.MapOver ks h f s = absurd (false≢true f)
same_sizing w p a ker.Range ks h f s = absurd (false≢true f)
same_sizing w p a ker.FunOf ks h f s = absurd (false≢true f)
same_sizing w p a ker.Update ks h f s = absurd (false≢true f)
same_sizing w p a (ker.Item i) ks h f s = absurd (false≢true f)
same_sizing w p a ker.FoldLeft ks h f s = absurd (false≢true f)
same_sizing w p a ker.Some ks h f s = absurd (false≢true f)
same_sizing w p a ker.Every ks h f s = absurd (false≢true f)
same_sizing w p a ker.NoCase ks h f s = absurd (false≢true f)
same_sizing w p a ko ks h f s =
    let l : Literal = index_of (outside [] (map (ker_sized w) ks) h) in
    simple_sound (family_with (op_of ko) 0 (the_kind a) (first_kinds (opened p a ko ks)) l (ker_parts (opened p a ko ks)))
    (seen (read_shape (op_of ko)) [] [] (map (ker_sized w) ks) h) (same_simple ko f (the_kind a) (first_kinds (opened p a ko ks)) l (ker_parts (opened p a ko ks))) s

pub children_sound : (w : ℕ) (p : Place) (a : Ty) (ko : KerOp) (ks : List Ker) (h : Extent) → is_same ko ≡ true → IsSound w (node p a ko ks) h → AllSound w ks h
children_sound w p a ko ks h f s =
    outside_sound w ks h (same_sizing w p a ko ks h f (sym (ap (λ (z : Sizing). (z h).sound) (ker_sized-roll w (opened p a ko ks))) ∙ s))

pub keeps_same : (w : ℕ) (ρ : Numbering) (p : Place) (a : Ty) (ko : KerOp) (xs : List (List ℕ)) (ps : List Bool) (k : Kind) (js : List Kind) (zs : Gists) (ks : List Ker) →
    is_same ko ≡ true → SameRow ko k (the_kind a) js (first_kinds (opened p a ko ks)) → KeepsGists w ρ zs ks →
    KeepsGist w ρ (node_at w p (op_of ko) xs ps k js zs) (node p a ko ks)
keeps_same w ρ p a ko xs ps k js zs ks f r b g h t s =
    same_node w p ko f xs ps k js zs g
    ∙ ap₂ (of_here w p) (same_family ko f k (the_kind a) js (first_kinds (opened p a ko ks)) ps (ker_parts (opened p a ko ks)) r)
    (same_here w ρ zs ks b g h t (children_sound w p a ko ks h f s))
    ∙ sym (made w p a ko ks h f)
