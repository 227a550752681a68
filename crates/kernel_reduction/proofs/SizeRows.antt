-- Rows of the reduction that keep shape, literal and refusal: literals, names, and operators by others without a LET.
use Rattle.std.proofs.Common.{◌≡◌, ℕ, ◌≤◌, Bool, true, false, List, [], ◌∷◌, map, Option, Some, None, option_and_then, ℤ, pos, refl, sym, ◌∙◌, ap, ap₂, if◌then◌else◌}
use Rattle.std.specs.Prelude.{slice_get}
use Rattle.tla_values.specs.declared.value.Value.TheVariants as value
use Rattle.tla_meaning.specs.declared.op.Op.TheVariants as op
use Rattle.tla_meaning.specs.declared.place.Place.{Place}
use Rattle.tla_meaning.specs.Scopes.{find_last}
use Rattle.tla_meaning.proofs.Views.{and_left, and_right, false≢true}
use Rattle.snowcat_rows.specs.declared.types.Ty.{Ty}
use Rattle.kernel_trees.specs.declared.kernel.Ker.{Ker}
use Rattle.kernel_trees.specs.declared.kernel.KerOp.TheVariants as ker
use Rattle.kernel_trees.specs.TypeKinds.{Kind}
use Rattle.kernel_shapes.specs.Shape.{Shape, Empty, join, join_all, alike, alike_all, interval}
use Rattle.kernel_shapes.specs.Rows.{no_literal, branches_of, row_shape, a_negation, a_difference, an_enumeration, a_choice}
use Rattle.kernel_shapes.specs.Counts.{Rank, either_rank}
use Rattle.kernel_shapes.specs.Sized.{Extent, Sizing, walked, as_form, found, all_sound, plain}
use Rattle.kernel_shapes.specs.Kernel.{ker_sized}
use Rattle.kernel_shapes.proofs.Refusals.{either_same}
use Rattle.kernel_shapes.proofs.KernelNodes.{ker_sized-roll}
use Rattle.kernel_reduction.specs.Reduction.{Numbering}
use Rattle.kernel_reduction.specs.Fitting.{the_kind}
use Rattle.kernel_reduction.specs.Rows.{node, bound, number, truth, negation, implication, nested_ifs}
use Rattle.kernel_reduction.specs.Builds.{has_arm}
use Rattle.kernel_reduction.proofs.Joins.{join_empty, own_join, zero_minus}
use Rattle.kernel_reduction.proofs.Ranks.{below_left, either_none, same_sum, nothing, one, both}
use Rattle.kernel_reduction.proofs.Gists.{Gist, bare_shapes, gist_at, node_gist, ranks, own}
use Rattle.kernel_reduction.proofs.GistNodes.{Gists, node_at, ker_gist, ker_node, whole}
use Rattle.kernel_reduction.proofs.SizeFrame.{KeepsGist, KeepsGists, IsSound, AllSound, kers_here, same_here, of_here, opened, made, children_sound}
use Rattle.kernel_reduction.proofs.SizeLeaves.{atom, walked_rank, truth_gist, integer_gist, text_gist, bound_gist}

-- a name of this shape
abbrev of_name : Place → Option Shape → Gist
of_name p o = record { shape = found o; literal = no_literal; rank = λ q. either_rank (own p (found o)) None }

pub not_gist : (w : ℕ) (p : Place) (a : Ty) (k : Ker) (h : Extent) → ker_gist w (negation p a k) h ≡ atom (walked_rank w k h)
not_gist w p a k h = made w p a ker.Not (k ∷ []) h refl ∙ ap atom (either_none (walked_rank w k h))

module _ (w : ℕ) (ρ : Numbering) (p : Place) (xs : List (List ℕ)) (ps : List Bool) (k : Kind) (js : List Kind) where
  pub sizes_boolean : (a : Ty) (b : Bool) → KeepsGist w ρ (node_at w p (op.Bool b) xs ps k js []) (node p a (ker.Const (value.Bool b)) [])
  sizes_boolean a b g h t s = sym (truth_gist w p a b h)

  pub sizes_integer : (a : Ty) (i : ℤ) → KeepsGist w ρ (node_at w p (op.Int i) xs ps k js []) (node p a (ker.Const (value.Int i)) [])
  sizes_integer a i g h t s = sym (integer_gist w p a i h)

  pub sizes_text : (a : Ty) (x : List ℕ) → KeepsGist w ρ (node_at w p (op.Str x) xs ps k js []) (node p a (ker.Const (value.Text x)) [])
  sizes_text a x g h t s = sym (text_gist w p a x h)

  pub sizes_declared : (a : Ty) (i : ℕ) (primed : Bool) (zs : Gists) → KeepsGist w ρ (node_at w p (op.Name i primed) xs ps k js zs) (node p a (ker.Name i primed) [])
  sizes_declared a i primed zs g h t s =
      by primed
      ∙ sym (ker_node w (opened p a (ker.Name i primed) []) h (whole (op.Name i primed) [] refl))
    where
      by : (primed : Bool) → of_name p (option_and_then (λ o. o) (slice_get (if primed then g.next else g.now) i)) ≡ of_name p (option_and_then (λ o. o) (slice_get (if primed then h.next else h.now) i))
      by true = ap (λ (l : List (Option Shape)). of_name p (option_and_then (λ o. o) (slice_get l i))) t.next
      by false = ap (λ (l : List (Option Shape)). of_name p (option_and_then (λ o. o) (slice_get l i))) t.now

  pub sizes_bound : (a : Ty) (x : List ℕ) (n : ℕ) → find_last x ρ ≡ Some n → KeepsGist w ρ (node_at w p (op.Bound x) xs ps k js []) (bound p a n)
  sizes_bound a x n f g h t s = ap (of_name p) (t.bound x n f) ∙ sym (bound_gist w p a n h)

  module _ (zs : Gists) where
    pub sizes_noted : (x : List ℕ) (l : Ker) → KeepsGists w ρ zs (l ∷ []) → KeepsGist w ρ (node_at w p (op.Noted x) xs ps k js zs) l
    sizes_noted x l b = by zs b
      where
        by : (zs : Gists) → KeepsGists w ρ zs (l ∷ []) → KeepsGist w ρ (node_at w p (op.Noted x) xs ps k js zs) l
        by [] b = absurd b
        by (z ∷ []) b = b.0
        by (z ∷ y ∷ zs) b = absurd b.1

    module _ (ks : List Ker) (b : KeepsGists w ρ zs ks) (a : Ty) where
      pub sizes_assign : KeepsGist w ρ (node_at w p op.Assign xs ps k js zs) (node p a ker.Equal ks)
      sizes_assign g h t s =
          ap (λ (l : List Gist). atom (ranks walked l)) (same_here w ρ zs ks b g h t (children_sound w p a ker.Equal ks h refl s))
          ∙ sym (made w p a ker.Equal ks h refl)

      pub sizes_unequal : KeepsGist w ρ (node_at w p op.Ne xs ps k js zs) (negation p a (node p a ker.Equal ks))
      sizes_unequal g h t s =
          let inner = children_sound w p a ker.Not (node p a ker.Equal ks ∷ []) h refl s in
          ap (λ (l : List Gist). atom (ranks walked l)) (same_here w ρ zs ks b g h t (children_sound w p a ker.Equal ks h refl inner.0))
          ∙ sym (not_gist w p a (node p a ker.Equal ks) h ∙ ap (λ (x : Gist). atom (x.rank walked)) (made w p a ker.Equal ks h refl))

      pub sizes_no_member : KeepsGist w ρ (node_at w p op.NotIn xs ps k js zs) (negation p a (node p a ker.Member ks))
      sizes_no_member g h t s =
          let inner = children_sound w p a ker.Not (node p a ker.Member ks ∷ []) h refl s in
          ap (λ (l : List Gist). atom (either_rank ((gist_at 0 l).rank walked) ((gist_at 1 l).rank as_form))) (same_here w ρ zs ks b g h t (children_sound w p a ker.Member ks h refl inner.0))
          ∙ sym (not_gist w p a (node p a ker.Member ks) h ∙ ap (λ (x : Gist). atom (x.rank walked)) (made w p a ker.Member ks h refl))

      pub sizes_at_least : KeepsGist w ρ (node_at w p op.Ge xs ps k js zs) (negation p a (node p a ker.Less ks))
      sizes_at_least g h t s =
          let inner = children_sound w p a ker.Not (node p a ker.Less ks ∷ []) h refl s in
          ap (λ (l : List Gist). atom (ranks walked l)) (same_here w ρ zs ks b g h t (children_sound w p a ker.Less ks h refl inner.0))
          ∙ sym (not_gist w p a (node p a ker.Less ks) h ∙ ap (λ (x : Gist). atom (x.rank walked)) (made w p a ker.Less ks h refl))

    module _ (x y : Ker) (b : KeepsGists w ρ zs (x ∷ y ∷ [])) (a : Ty) where
      in_turn : (h : Extent) → either_rank (walked_rank w y h) (either_rank (walked_rank w x h) None) ≡ either_rank (walked_rank w x h) (either_rank (walked_rank w y h) None)
      in_turn h = same_sum (walked_rank w x h ∷ walked_rank w y h ∷ []) (both (one 1) (both (one 0) nothing)) (both (one 0) (both (one 1) nothing)) refl refl

      turned : (h : Extent) → ker_gist w (node p a ker.Less (y ∷ x ∷ [])) h ≡ atom (either_rank (walked_rank w x h) (either_rank (walked_rank w y h) None))
      turned h = made w p a ker.Less (y ∷ x ∷ []) h refl ∙ ap atom (in_turn h)

      pub sizes_greater : KeepsGist w ρ (node_at w p op.Gt xs ps k js zs) (node p a ker.Less (y ∷ x ∷ []))
      sizes_greater g h t s =
          let s' = children_sound w p a ker.Less (y ∷ x ∷ []) h refl s in
          ap (λ (l : List Gist). atom (ranks walked l)) (same_here w ρ zs (x ∷ y ∷ []) b g h t (s'.1.0, (s'.0, tt))) ∙ sym (turned h)

      pub sizes_at_most : KeepsGist w ρ (node_at w p op.Le xs ps k js zs) (negation p a (node p a ker.Less (y ∷ x ∷ [])))
      sizes_at_most g h t s =
          let s' = children_sound w p a ker.Less (y ∷ x ∷ []) h refl (children_sound w p a ker.Not (node p a ker.Less (y ∷ x ∷ []) ∷ []) h refl s).0 in
          ap (λ (l : List Gist). atom (ranks walked l)) (same_here w ρ zs (x ∷ y ∷ []) b g h t (s'.1.0, (s'.0, tt)))
          ∙ sym (not_gist w p a (node p a ker.Less (y ∷ x ∷ [])) h ∙ ap (λ (z : Gist). atom (z.rank walked)) (turned h))

      pub sizes_implies : KeepsGist w ρ (node_at w p op.Implies xs ps k js zs) (implication p a x y)
      sizes_implies g h t s =
          let and_sound = (children_sound w p a ker.Not (node p a ker.And (x ∷ negation p a y ∷ []) ∷ []) h refl s).0 in
          let parts = children_sound w p a ker.And (x ∷ negation p a y ∷ []) h refl and_sound in
          let s' : AllSound w (x ∷ y ∷ []) h = (parts.0, ((children_sound w p a ker.Not (y ∷ []) h refl parts.1.0).0, tt)) in
          ap (λ (l : List Gist). atom (ranks walked l)) (same_here w ρ zs (x ∷ y ∷ []) b g h t s')
          ∙ sym (not_gist w p a (node p a ker.And (x ∷ negation p a y ∷ [])) h
          ∙ ap (λ (z : Gist). atom (z.rank walked)) (made w p a ker.And (x ∷ negation p a y ∷ []) h refl)
          ∙ ap (λ (z : Gist). atom (either_rank (walked_rank w x h) (either_rank (z.rank walked) None))) (not_gist w p a y h))

-- ---- negative numbers, the set of truth values

module _ (w : ℕ) (wide : 2 ≤ w) (ρ : Numbering) (p : Place) (xs : List (List ℕ)) (ps : List Bool) (k : Kind) (js : List Kind) where
  abbrev differs : Shape → Option Rank → Gist
  differs a r = record { shape = a; literal = no_literal; rank = λ q. either_rank (own p a) r }

  abbrev negated : List Gist → Gist
  negated l = node_gist w p (plain a_negation no_literal) (record { here = l; under = λ bs. []; name = None })

  taken_off : (z : Gist) (l : List Gist) → node_gist w p (plain a_difference no_literal) (record { here = z ∷ l; under = λ bs. []; name = None })
      ≡ differs (row_shape w a_difference no_literal (z.shape ∷ map (λ b. b.shape) l)) (either_rank (z.rank walked) (ranks walked l))
  taken_off z l = ap (λ (as' : List Shape). differs (row_shape w a_difference no_literal (z.shape ∷ as')) (either_rank (z.rank walked) (ranks walked l))) (bare_shapes l)

  same_negation : (l : List Gist) → differs (row_shape w a_difference no_literal (interval w (pos 0) (pos 0) ∷ map (λ b. b.shape) l)) (ranks walked l) ≡ differs (row_shape w a_negation no_literal (map (λ b. b.shape) l)) (ranks walked l)
  same_negation [] = refl
  same_negation (b ∷ l) = ap (λ (a : Shape). differs a (ranks walked (b ∷ l))) (zero_minus w wide b.shape)

  of_negation : (l : List Gist) → negated l ≡ differs (row_shape w a_negation no_literal (map (λ b. b.shape) l)) (ranks walked l)
  of_negation l = ap (λ (as' : List Shape). differs (row_shape w a_negation no_literal as') (ranks walked l)) (bare_shapes l)

  pub sizes_negative : (zs : Gists) (ks : List Ker) → KeepsGists w ρ zs ks → (a : Ty) → KeepsGist w ρ (node_at w p op.Neg xs ps k js zs) (node p a ker.Minus (number p a 0 ∷ ks))
  sizes_negative zs ks b a g h t s =
      let s' = children_sound w p a ker.Minus (number p a 0 ∷ ks) h refl s in
      ap negated (same_here w ρ zs ks b g h t s'.1)
      ∙ of_negation (kers_here w ks h)
      ∙ sym (made w p a ker.Minus (number p a 0 ∷ ks) h refl
      ∙ ap (λ (z : Gist). of_here w p (plain a_difference no_literal) (z ∷ kers_here w ks h)) (integer_gist w p a (pos 0) h)
      ∙ taken_off (node_at w p (op.Int (pos 0)) [] [] (the_kind a) [] [] h) (kers_here w ks h)
      ∙ same_negation (kers_here w ks h))

  pub sizes_truth_values : (a b : Ty) → KeepsGist w ρ (node_at w p op.BooleanSet xs ps k js []) (node p a ker.SetOf (truth p b false ∷ truth p b true ∷ []))
  sizes_truth_values a b g h t s =
      sym (made w p a ker.SetOf (truth p b false ∷ truth p b true ∷ []) h refl
      ∙ ap₂ (λ (x y : Gist). of_here w p (plain an_enumeration no_literal) (x ∷ y ∷ [])) (truth_gist w p b false h) (truth_gist w p b true h))

-- ---- CASE by nested IFs

-- the join of the branches, with a number at p
abbrev chosen : Place → List Gist → Gist
chosen p l =
    let a : Shape = join_all (branches_of (map (λ b. b.shape) l)) in
    record { shape = a; literal = no_literal; rank = λ q. either_rank (own p a) (ranks walked l) }

of_choice : (w : ℕ) (p : Place) (l : List Gist) → of_here w p (plain a_choice no_literal) l ≡ chosen p l
of_choice w p l =
    ap (λ (as' : List Shape). differs_at (join_all (branches_of as'))) (bare_shapes l)
  where
    differs_at : Shape → Gist
    differs_at a = record { shape = a; literal = no_literal; rank = λ q. either_rank (own p a) (ranks walked l) }

module _ (w : ℕ) (p : Place) (a : Ty) (h : Extent) where
  -- what is nested, by its own number and those within
  record Nested (ks : List Ker) : Type 0 where
    shape : (ker_gist w (nested_ifs p a ks) h).shape ≡ join_all (branches_of (map (λ b. b.shape) (kers_here w ks h)))
    rank : either_rank (own p (ker_gist w (nested_ifs p a ks) h).shape) (walked_rank w (nested_ifs p a ks) h)
        ≡ either_rank (own p (join_all (branches_of (map (λ b. b.shape) (kers_here w ks h))))) (ranks walked (kers_here w ks h))

  nest : Ker → Ker → List Ker → Ker
  nest g k ks = node p a ker.If (g ∷ k ∷ nested_ifs p a ks ∷ [])

  -- an IF over what is nested
  if_gist : (g k : Ker) (ks : List Ker) → Nested ks → alike (ker_gist w k h).shape (ker_gist w (nested_ifs p a ks) h).shape ≡ true →
      ker_gist w (node p a ker.If (g ∷ k ∷ nested_ifs p a ks ∷ [])) h ≡ chosen p (kers_here w (g ∷ k ∷ ks) h)
  if_gist g k ks n e =
      let N : Ker = nested_ifs p a ks in
      let K : Shape = (ker_gist w k h).shape in
      let S : Shape = join_all (branches_of (map (λ b. b.shape) (kers_here w ks h))) in
      made w p a ker.If (g ∷ k ∷ N ∷ []) h refl
      ∙ of_choice w p (kers_here w (g ∷ k ∷ N ∷ []) h)
      ∙ (λ i. record {
        shape = (ap (join K) (join_empty (ker_gist w N h).shape ∙ n.shape)) i;
        literal = no_literal;
        rank = λ q. (
            ap (λ (b : Shape). either_rank (own p (join K b)) (ranks walked (kers_here w (g ∷ k ∷ N ∷ []) h))) (join_empty (ker_gist w N h).shape ∙ n.shape)
            ∙ by (own p (join K S)) (own p S) (walked_rank w g h) (walked_rank w k h) (walked_rank w N h) (ranks walked (kers_here w ks h))
            (own_join p K S (ap (alike K) (sym n.shape) ∙ e)) (ap (λ (b : Shape). either_rank (own p b) (walked_rank w N h)) (sym n.shape) ∙ n.rank)) i;
      })
    where
      by : (o o' g k n r : Option Rank) → either_rank o' o ≡ o → either_rank o' n ≡ either_rank o' r →
          either_rank o (either_rank g (either_rank k (either_rank n None))) ≡ either_rank o (either_rank g (either_rank k r))
      by o o' g k n r e f =
          ap (λ (x : Option Rank). either_rank x (either_rank g (either_rank k (either_rank n None)))) (sym e)
          ∙ same_sum (o ∷ o' ∷ g ∷ k ∷ n ∷ []) (both (both (one 1) (one 0)) (both (one 2) (both (one 3) (both (one 4) nothing)))) (both (one 0) (both (one 2) (both (one 3) (both (one 1) (one 4))))) refl refl
          ∙ ap (λ (x : Option Rank). either_rank o (either_rank g (either_rank k x))) f
          ∙ same_sum (o ∷ o' ∷ g ∷ k ∷ r ∷ []) (both (one 0) (both (one 2) (both (one 3) (both (one 1) (one 4))))) (both (both (one 1) (one 0)) (both (one 2) (both (one 3) (one 4)))) refl refl
          ∙ ap (λ (x : Option Rank). either_rank x (either_rank g (either_rank k r))) e

  -- the branches of an IF over what is nested are of one kind
  if_alike : (g k n : Ker) → IsSound w (node p a ker.If (g ∷ k ∷ n ∷ [])) h → alike (ker_gist w k h).shape (ker_gist w n h).shape ≡ true
  if_alike g k n s =
      let q = sym (ap (λ (z : Sizing). (z h).sound) (ker_sized-roll w (opened p a ker.If (g ∷ k ∷ n ∷ [])))) ∙ s in
      let K : Shape = (ker_gist w k h).shape in
      let N : Shape = (ker_gist w n h).shape in
      ap (alike K) (sym (join_empty N))
      ∙ and_left (alike K (join N Empty)) (alike_all (N ∷ []))
      (and_right (all_sound (ker_sized w g h ∷ ker_sized w k h ∷ ker_sized w n h ∷ [])) (alike_all (K ∷ N ∷ [])) q)

  nested : (ks : List Ker) → IsSound w (nested_ifs p a ks) h → Nested ks × AllSound w ks h
  nested [] s =
      let e : ker_gist w (node p a ker.NoCase []) h ≡ chosen p [] = ker_node w (opened p a ker.NoCase []) h (whole (op.Case false) [] refl) in
      (record { shape = ap (λ (b : Gist). b.shape) e; rank = ap (λ (b : Gist). either_rank (own p b.shape) (b.rank walked)) e }, tt)
  nested (k ∷ []) s = (
    record {
      shape = sym (join_empty (ker_gist w k h).shape);
      rank = ap₂ (λ (b : Shape) (r : Option Rank). either_rank (own p b) r) (sym (join_empty (ker_gist w k h).shape)) (sym (either_none (walked_rank w k h)));
    },
    (s, tt),
  )
  nested (g ∷ k ∷ ks) s =
      let parts = children_sound w p a ker.If (g ∷ k ∷ nested_ifs p a ks ∷ []) h refl s in
      let rest = nested ks parts.1.1.0 in
      let e = if_gist g k ks rest.0 (if_alike g k (nested_ifs p a ks) s) in
      let S : Shape = join_all (branches_of (map (λ b. b.shape) (kers_here w (g ∷ k ∷ ks) h))) in (
        record {
          shape = ap (λ (b : Gist). b.shape) e;
          rank = ap (λ (b : Gist). either_rank (own p b.shape) (b.rank walked)) e ∙ below_left (own p S) (own p S) (ranks walked (kers_here w (g ∷ k ∷ ks) h)) (either_same (own p S));
        },
        (parts.0, (parts.1.0, rest.1)),
      )

pub sizes_cases : (w : ℕ) (ρ : Numbering) (p : Place) (other : Bool) (xs : List (List ℕ)) (ps : List Bool) (k : Kind) (js : List Kind) (zs : Gists) (ks : List Ker) (a : Ty) →
    has_arm ks ≡ true → KeepsGists w ρ zs ks → KeepsGist w ρ (node_at w p (op.Case other) xs ps k js zs) (nested_ifs p a ks)
sizes_cases w ρ p other xs ps k js zs [] a f b g h t s = absurd (false≢true f)
sizes_cases w ρ p other xs ps k js zs (l ∷ []) a f b g h t s = absurd (false≢true f)
sizes_cases w ρ p other xs ps k js zs (l ∷ m ∷ ks) a f b g h t s =
    let all = nested w p a h (l ∷ m ∷ ks) s in
    let parts = children_sound w p a ker.If (l ∷ m ∷ nested_ifs p a ks ∷ []) h refl s in
    let rest = nested w p a h ks parts.1.1.0 in
    ap (of_here w p (plain a_choice no_literal)) (same_here w ρ zs (l ∷ m ∷ ks) b g h t all.1)
    ∙ of_choice w p (kers_here w (l ∷ m ∷ ks) h)
    ∙ sym (if_gist w p a h l m ks rest.0 (if_alike w p a h l m (nested_ifs p a ks) s))
