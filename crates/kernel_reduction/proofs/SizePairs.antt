-- Rows by a LET keep shape, literal and refusal: Iff, a function of one pair, powers, items and fields at a literal.
use Rattle.std.proofs.Common.{◌≡◌, ℕ, zero, suc, ◌≤◌, ◌*ℤ◌, Bool, true, false, List, [], ◌∷◌, ◌++◌, map, length, Option, Some, None, pos, refl, sym, ◌∙◌, ap, ap₂, subst, arith}
use Rattle.std.specs.Prelude.{nat_eq}
use Rattle.tla_values.specs.Order.{Layer}
use Rattle.tla_values.specs.declared.value.Value.{Value, out-Value}
use Rattle.tla_values.specs.declared.value.Value.TheVariants as value
use Rattle.tla_values.specs.declared.value.Value.TheOpen as layer
use Rattle.tla_meaning.specs.declared.op.Op.TheVariants as op
use Rattle.tla_meaning.specs.declared.place.Place.{Place}
use Rattle.tla_meaning.specs.Scopes.{find_last}
use Rattle.tla_meaning.specs.Meaning.{role}
use Rattle.tla_meaning.proofs.Views.{and_left}
use Rattle.snowcat_rows.specs.declared.types.Ty.{Ty}
use Rattle.kernel_trees.specs.declared.kernel.Ker.{Ker, roll-Ker, out-Ker, roll-out-Ker}
use Rattle.kernel_trees.specs.declared.kernel.Ker.TheOpen.{Ker-F}
use Rattle.kernel_trees.specs.declared.kernel.KerOp.{KerOp}
use Rattle.kernel_trees.specs.declared.kernel.KerOp.TheVariants as ker
use Rattle.kernel_trees.specs.Trees.{constant, op_of, names_of, number_name}
use Rattle.kernel_trees.specs.TypeKinds.{Kind}
use Rattle.kernel_shapes.specs.Shape.{Shape, Atom, Set, Fun, Seq, Tup, Empty, shapes, inside, join, over_both}
use Rattle.kernel_shapes.specs.Rows.{Literal, no_literal, number, text, a_function, an_application, a_single, applied_at, power_shape}
use Rattle.kernel_shapes.specs.Counts.{Count, Rank, either_rank, first_rank}
use Rattle.kernel_shapes.specs.Sized.{Extent, Sized, Sizing, Seen, walked, Family, reads, plain, infinite, noted, seen, family_shape, has_number, own_count, within, index_of, bind_shapes, sized}
use Rattle.kernel_shapes.specs.Trees.{family_with, read_shape, marks_of, sized_node}
use Rattle.kernel_shapes.specs.Kernel.{ker_sized}
use Rattle.kernel_shapes.proofs.KernelNodes.{ker_parts, first_kinds, node_sizing, operand_sizings, ker_sized-roll}
use Rattle.kernel_shapes.proofs.Refusals.{either_same, rank_append}
use Rattle.kernel_reduction.specs.Reduction.{Numbering}
use Rattle.kernel_reduction.specs.SizeLaws.{TiedShapes}
use Rattle.kernel_reduction.specs.Builds.{is_let}
use Rattle.kernel_reduction.specs.Fitting.{the_kind, IsTupleType, LetTypes}
use Rattle.kernel_reduction.specs.Rows.{node, bound, item, negation, pair, Let, let_in, place_of, type_of, op_at, number as number_of, named_one, named_first, named_second, equivalence, single, item_by_let, product, tested, power_body, small_power, large_power}
use Rattle.kernel_reduction.proofs.Joins.{join_empty, join_self, small_interval, own_over}
use Rattle.kernel_reduction.proofs.Ranks.{either_none, below_left, same_sum, nothing, one, both}
use Rattle.kernel_reduction.proofs.Gists.{Gist, gist_at, ranks, own}
use Rattle.kernel_reduction.proofs.GistNodes.{Gists, node_at, ker_gist, ker_gists, ker_node, whole, literal_gist}
use Rattle.kernel_reduction.proofs.ShapeTies.{found_old, found_named}
use Rattle.kernel_reduction.proofs.SizeFrame.{KeepsGist, KeepsGists, IsSound, AllSound, same_here, of_here, opened, made, children_sound}
use Rattle.kernel_reduction.proofs.SizeLeaves.{atom, integer_gist, walked_rank}
use Rattle.kernel_reduction.proofs.SizeRows.{not_gist}
use Rattle.kernel_reduction.proofs.SizeBinders.{binding, shaped, binder_here, of_binder}
use Rattle.kernel_reduction.proofs.SizeLets.{pair_gist, item_gist, read_gist, let_extent, let_gist, let_sound}

-- ---- a kernel node's own number is one of its numbers

-- no annotation, which has none
abbrev NoNote : Family → Type 0
NoNote noted = ⊥
NoNote f = Unit {0}

counted : (w : ℕ) (p : Place) (f : Family) (v : Seen) → has_number f walked ≡ true →
    either_rank (own p (family_shape w f v)) (first_rank (own_count (has_number f walked) p (family_shape w f v) ++ within f v walked))
    ≡ first_rank (own_count (has_number f walked) p (family_shape w f v) ++ within f v walked)
counted w p f v e =
    let a : Shape = family_shape w f v in
    let cs : List Count = within f v walked in
    subst (λ (b : Bool). either_rank (own p a) (first_rank (own_count b p a ++ cs)) ≡ first_rank (own_count b p a ++ cs)) (sym e)
    (ap (either_rank (own p a)) (rank_append (own_count true p a) cs)
    ∙ below_left (own p a) (own p a) (first_rank cs) (either_same (own p a))
    ∙ sym (rank_append (own_count true p a) cs))

own_within : (w : ℕ) (p : Place) (f : Family) (v : Seen) → NoNote f →
    either_rank (own p (family_shape w f v)) (first_rank (own_count (has_number f walked) p (family_shape w f v) ++ within f v walked))
    ≡ first_rank (own_count (has_number f walked) p (family_shape w f v) ++ within f v walked)
own_within w p infinite v n = refl
own_within w p noted v n = absurd n
own_within w p reads v n = counted w p reads v refl
own_within w p f v n = counted w p f v refl

no_note_constant : (y : Layer Value) (n : ℕ) (k : Kind) (js : List Kind) (l : Literal) (ps : List Bool) → NoNote (family_with (constant y) n k js l ps)
no_note_constant (layer.Bool b) n k js l ps = tt
no_note_constant (layer.Int i) n k js l ps = tt
no_note_constant (layer.Text x) n k js l ps = tt
no_note_constant y n k js l ps = tt

no_note : (ko : KerOp) (n : ℕ) (k : Kind) (js : List Kind) (l : Literal) (ps : List Bool) → NoNote (family_with (op_of ko) n k js l ps)
no_note (ker.Const v) n k js l ps = no_note_constant (out-Value v) n k js l ps
no_note ker.And n k js l ps = tt
no_note ko n k js l ps = tt

own_node : (w : ℕ) (x : Ker-F Ker) (h : Extent) → (v : Seen) (f : Family) → NoNote f → node_sizing w x h ≡ sized w x.place f v →
    either_rank (own x.place (node_sizing w x h).shape) (first_rank ((node_sizing w x h).counts walked)) ≡ first_rank ((node_sizing w x h).counts walked)
own_node w x h v f n e = subst (λ (z : Sized). either_rank (own x.place z.shape) (first_rank (z.counts walked)) ≡ first_rank (z.counts walked)) (sym e) (own_within w x.place f v n)

own_at : (w : ℕ) (x : Ker-F Ker) (h : Extent) → either_rank (own x.place (ker_gist w (roll-Ker x) h).shape) (walked_rank w (roll-Ker x) h) ≡ walked_rank w (roll-Ker x) h
own_at w x h =
    let zs : List Sizing = operand_sizings w x.op x.place (map (ker_sized w) x.args) in
    let v : Seen = seen (read_shape (op_of x.op)) (marks_of (role (op_of x.op) (length (names_of x.binds)))) (names_of x.binds) zs h in
    let l : Literal = index_of v.here in
    let f : Family = family_with (op_of x.op) (length (names_of x.binds)) (the_kind x.ty) (first_kinds x) l (ker_parts x) in
    subst (λ (z : Sizing). either_rank (own x.place (z h).shape) (first_rank ((z h).counts walked)) ≡ first_rank ((z h).counts walked)) (sym (ker_sized-roll w x))
    (own_node w x h v f (no_note x.op (length (names_of x.binds)) (the_kind x.ty) (first_kinds x) l (ker_parts x)) refl)

pub own_here : (w : ℕ) (k : Ker) (h : Extent) → either_rank (own (place_of k) (ker_gist w k h).shape) (walked_rank w k h) ≡ walked_rank w k h
own_here w k h =
    subst (λ (z : Ker). either_rank (own (place_of k) (ker_gist w z h).shape) (walked_rank w z h) ≡ walked_rank w z h) (roll-out-Ker k) (own_at w (out-Ker k) h)

-- ---- sums in which each number of an operand is counted again

-- what two operands are read for again adds nothing
again_two : (a k b m : Option Rank) → either_rank a k ≡ k → either_rank b m ≡ m →
    either_rank (either_rank k (either_rank m None)) (either_rank a b) ≡ either_rank k (either_rank m None)
again_two a k b m e f =
    (λ i. either_rank (either_rank (sym e i) (either_rank (sym f i) None)) (either_rank a b))
    ∙ same_sum (a ∷ k ∷ b ∷ m ∷ [])
    (both (both (both (one 0) (one 1)) (both (both (one 2) (one 3)) nothing)) (both (one 0) (one 2)))
    (both (both (one 0) (one 1)) (both (both (one 2) (one 3)) nothing)) refl refl
    ∙ (λ i. either_rank (e i) (either_rank (f i) None))

again_one : (o a k : Option Rank) → either_rank a k ≡ k → either_rank o (either_rank (either_rank k None) (either_rank o a)) ≡ either_rank o (either_rank k None)
again_one o a k e =
    (λ i. either_rank o (either_rank (either_rank (sym e i) None) (either_rank o a)))
    ∙ same_sum (o ∷ a ∷ k ∷ []) (both (one 0) (both (both (both (one 1) (one 2)) nothing) (both (one 0) (one 1)))) (both (one 0) (both (both (one 1) (one 2)) nothing)) refl refl
    ∙ (λ i. either_rank o (either_rank (e i) None))

-- ---- what a LET names, where that is a pair

module _ (w : ℕ) (p : Place) (l : Let) (t : Ty) (k m : Ker) (h : Extent) where
  abbrev of_pair : Shape
  of_pair = Tup (shapes ((ker_gist w k h).shape ∷ (ker_gist w m h).shape ∷ []))

  abbrev in_pair : Extent
  in_pair = let_extent l of_pair h

  pub first_gist_of : (h' : Extent) → find_last (number_name l.named) h'.bound ≡ Some of_pair → ker_gist w (named_first l t k) h' ≡ shaped (place_of k) (ker_gist w k h).shape None
  first_gist_of h' e = item_gist w (place_of k) (type_of k) 1 (bound (place_of k) t l.named) h'
      ∙ ap (λ (b : Gist). shaped (place_of k) (applied_at b.shape (number (pos 1))) (either_rank (b.rank walked) None)) (read_gist w (place_of k) t l.named h' of_pair e)

  pub second_gist_of : (h' : Extent) → find_last (number_name l.named) h'.bound ≡ Some of_pair → ker_gist w (named_second l t m) h' ≡ shaped (place_of m) (ker_gist w m h).shape None
  second_gist_of h' e = item_gist w (place_of m) (type_of m) 2 (bound (place_of m) t l.named) h'
      ∙ ap (λ (b : Gist). shaped (place_of m) (applied_at b.shape (number (pos 2))) (either_rank (b.rank walked) None)) (read_gist w (place_of m) t l.named h' of_pair e)

module _ (w : ℕ) (ρ : Numbering) (p : Place) (xs : List (List ℕ)) (ps : List Bool) (kd : Kind) (js : List Kind) (zs : Gists) (k m : Ker)
    (b : KeepsGists w ρ zs (k ∷ m ∷ [])) (l : Let) (f : is_let l ≡ true) (y : LetTypes l) (t : Ty) (u : IsTupleType t) where
  abbrev whole_pair : Ker
  whole_pair = pair p t k m

  -- a LET over the pair, by what its body is
  pair_let : (e : Ker) (h : Extent) (z : Gist) → ker_gist w e (in_pair w p l t k m h) ≡ z →
      ker_gist w (let_in p l whole_pair e) h ≡ shaped p z.shape (either_rank (either_rank (walked_rank w k h) (either_rank (walked_rank w m h) None)) (z.rank walked))
  pair_let e h z q =
      let_gist w p l f y.wholes y.items whole_pair e h
      ∙ ap (λ (a : Gist). shaped p (ker_gist w e (let_extent l a.shape h)).shape (either_rank (a.rank walked) ((ker_gist w e (let_extent l a.shape h)).rank walked))) (pair_gist w p t k m h u)
      ∙ ap (λ (a : Gist). shaped p a.shape (either_rank (either_rank (walked_rank w k h) (either_rank (walked_rank w m h) None)) (a.rank walked))) q

  pair_sound : (e : Ker) (h : Extent) → IsSound w (let_in p l whole_pair e) h → AllSound w (k ∷ m ∷ []) h
  pair_sound e h s = children_sound w p t ker.TupOf (k ∷ m ∷ []) h refl (let_sound w p l f y.wholes y.items whole_pair e h s).0

  named_here : (h : Extent) → find_last (number_name l.named) (in_pair w p l t k m h).bound ≡ Some (of_pair w p l t k m h)
  named_here h = found_named l.unread l.named (Seq 0 Empty) (of_pair w p l t k m h) h

  absorbed : (h : Extent) → either_rank (either_rank (walked_rank w k h) (either_rank (walked_rank w m h) None)) (either_rank (own (place_of k) (ker_gist w k h).shape) (own (place_of m) (ker_gist w m h).shape))
      ≡ either_rank (walked_rank w k h) (either_rank (walked_rank w m h) None)
  absorbed h = again_two (own (place_of k) (ker_gist w k h).shape) (walked_rank w k h) (own (place_of m) (ker_gist w m h).shape) (walked_rank w m h) (own_here w k h) (own_here w m h)

  pub sizes_equivalent : KeepsGist w ρ (node_at w p op.Iff xs ps kd js zs) (equivalence p l t k m)
  sizes_equivalent g h s q =
      let h' : Extent = in_pair w p l t k m h in
      let e : Ker = node p l.type ker.Equal (negation p l.type (named_first l t k) ∷ negation p l.type (named_second l t m) ∷ []) in
      ap (λ (as' : List Gist). atom (ranks walked as')) (same_here w ρ zs (k ∷ m ∷ []) b g h s (pair_sound e h q))
      ∙ sym (pair_let e h (atom (either_rank (own (place_of k) (ker_gist w k h).shape) (own (place_of m) (ker_gist w m h).shape)))
      (made w p l.type ker.Equal (negation p l.type (named_first l t k) ∷ negation p l.type (named_second l t m) ∷ []) h' refl
      ∙ ap₂ (λ (x y : Gist). atom (either_rank (x.rank walked) (either_rank (y.rank walked) None)))
      (not_gist w p l.type (named_first l t k) h' ∙ ap (λ (z : Gist). atom (z.rank walked)) (first_gist_of w p l t k m h h' (named_here h)))
      (not_gist w p l.type (named_second l t m) h' ∙ ap (λ (z : Gist). atom (z.rank walked)) (second_gist_of w p l t k m h h' (named_here h)))
      ∙ ap atom (same_sum (own (place_of k) (ker_gist w k h).shape ∷ own (place_of m) (ker_gist w m h).shape ∷ [])
      (both (both (one 0) nothing) (both (both (one 1) nothing) nothing)) (both (one 0) (one 1)) refl refl))
      ∙ ap atom (absorbed h))

  -- under one more number
  named_under : (z : ℕ) (a : Shape) (h : Extent) → nat_eq l.named z ≡ false → find_last (number_name l.named) (bind_shapes (names_of (z ∷ [])) (a ∷ []) (in_pair w p l t k m h)).bound ≡ Some (of_pair w p l t k m h)
  named_under z a h q = found_old l.named z a (in_pair w p l t k m h).bound q ∙ named_here h

  pub sizes_single : (c : Ty) (z : ℕ) → nat_eq l.named z ≡ false → KeepsGist w ρ (node_at w p op.Single xs ps kd js zs) (single p l t c z k m)
  sizes_single c z n g h s q =
      let h' : Extent = in_pair w p l t k m h in
      let K : Gist = ker_gist w k h in
      let M : Gist = ker_gist w m h in
      let one_set : Ker = node p c ker.SetOf (named_first l t k ∷ []) in
      let second : Ker = named_second l t m in
      let x : Ker-F Ker = binding p l.type ker.FunOf (one_set ∷ second ∷ []) (z ∷ []) in
      let set_gist : ker_gist w one_set h' ≡ shaped p (Set 1 K.shape) (own (place_of k) K.shape) =
      made w p c ker.SetOf (named_first l t k ∷ []) h' refl
      ∙ ap (λ (a : Gist). shaped p (Set 1 (join a.shape Empty)) (either_rank (a.rank walked) None)) (first_gist_of w p l t k m h h' (named_here h))
      ∙ (λ i. shaped p (Set 1 (join_empty K.shape i)) ((either_none (either_rank (own (place_of k) K.shape) None) ∙ either_none (own (place_of k) K.shape)) i)) in
      let fun_gist : ker_gist w (roll-Ker x) h' ≡ shaped p (Fun 1 K.shape M.shape) (either_rank (own (place_of k) K.shape) (own (place_of m) M.shape)) =
      ker_node w x h' (whole op.Lambda (ker_parts x) refl)
      ∙ binder_here w p 1 (a_function 1) (names_of (z ∷ [])) (ker_gists w (one_set ∷ second ∷ [])) h'
      ∙ ap (λ (a : Gist). of_binder w p (a_function 1) (a ∷ []) (ker_gist w second (bind_shapes (names_of (z ∷ [])) (inside a.shape ∷ []) h'))) set_gist
      ∙ ap (of_binder w p (a_function 1) (shaped p (Set 1 K.shape) (own (place_of k) K.shape) ∷ [])) (second_gist_of w p l t k m h (bind_shapes (names_of (z ∷ [])) (K.shape ∷ []) h') (named_under z K.shape h n))
      ∙ ap (shaped p (Fun 1 K.shape M.shape)) (same_sum (own (place_of k) K.shape ∷ own (place_of m) M.shape ∷ [])
      (both (both (both nothing (one 0)) nothing) (both (one 1) nothing)) (both (one 0) (one 1)) refl refl) in
      ap (λ (as' : List Gist). of_here w p (plain a_single no_literal) as') (same_here w ρ zs (k ∷ m ∷ []) b g h s (pair_sound (roll-Ker x) h q))
      ∙ sym (pair_let (roll-Ker x) h (shaped p (Fun 1 K.shape M.shape) (either_rank (own (place_of k) K.shape) (own (place_of m) M.shape))) fun_gist
      ∙ ap (shaped p (Fun 1 K.shape M.shape)) (absorbed h))

-- ---- literals

-- a constant, by its value
at_constant : (w : ℕ) (x : Ker-F Ker) (v : Value) (y : Layer Value) (h : Extent) → x.op ≡ ker.Const v → out-Value v ≡ y →
    ker_gist w (roll-Ker x) h ≡ node_at w x.place (constant y) (names_of x.binds) [] (the_kind x.ty) [] [] h
at_constant w x v y h e q =
    ap (λ (o : KerOp). ker_gist w (roll-Ker (record { place = x.place; ty = x.ty; op = o; args = x.args; binds = x.binds })) h) e
    ∙ ker_node w (record { place = x.place; ty = x.ty; op = ker.Const v; args = x.args; binds = x.binds }) h (λ r. tt)
    ∙ ap (λ (o : Layer Value). node_at w x.place (constant o) (names_of x.binds) [] (the_kind x.ty) [] [] h) q

pub number_at : (w : ℕ) (m : Ker) (n : ℕ) (h : Extent) → op_at m ≡ ker.Const (value.Int (pos n)) → ker_gist w m h ≡ literal_gist w n
number_at w m n h e = ap (λ (z : Ker). ker_gist w z h) (sym (roll-out-Ker m)) ∙ at_constant w (out-Ker m) (value.Int (pos n)) (layer.Int (pos n)) h e (value.outs-Int (pos n))

pub text_at : (w : ℕ) (m : Ker) (x : List ℕ) (h : Extent) → op_at m ≡ ker.Const (value.Text x) → ker_gist w m h ≡ record { shape = Atom; literal = text x; rank = λ q. None }
text_at w m x h e = ap (λ (z : Ker). ker_gist w z h) (sym (roll-out-Ker m)) ∙ at_constant w (out-Ker m) (value.Text x) (layer.Text x) h e (value.outs-Text x)

constant_sound : (w : ℕ) (x : Ker-F Ker) (v : Value) (y : Layer Value) (h : Extent) → x.op ≡ ker.Const v → out-Value v ≡ y →
    ((xs : List (List ℕ)) (k : Kind) → (sized_node w x.place (constant y) xs [] k [] [] h).sound ≡ true) → IsSound w (roll-Ker x) h
constant_sound w x v y h e q s =
    ap (λ (o : KerOp). (ker_sized w (roll-Ker (record { place = x.place; ty = x.ty; op = o; args = x.args; binds = x.binds })) h).sound) e
    ∙ ap (λ (z : Sizing). (z h).sound) (ker_sized-roll w (record { place = x.place; ty = x.ty; op = ker.Const v; args = x.args; binds = x.binds }))
    ∙ ap (λ (o : Layer Value). (sized_node w x.place (constant o) (names_of x.binds) [] (the_kind x.ty) [] [] h).sound) q
    ∙ s (names_of x.binds) (the_kind x.ty)

number_sound : (w : ℕ) (m : Ker) (n : ℕ) (h : Extent) → op_at m ≡ ker.Const (value.Int (pos n)) → IsSound w m h
number_sound w m n h e = ap (λ (z : Ker). (ker_sized w z h).sound) (sym (roll-out-Ker m)) ∙ constant_sound w (out-Ker m) (value.Int (pos n)) (layer.Int (pos n)) h e (value.outs-Int (pos n)) (λ xs k. refl)

text_sound : (w : ℕ) (m : Ker) (x : List ℕ) (h : Extent) → op_at m ≡ ker.Const (value.Text x) → IsSound w m h
text_sound w m x h e = ap (λ (z : Ker). (ker_sized w z h).sound) (sym (roll-out-Ker m)) ∙ constant_sound w (out-Ker m) (value.Text x) (layer.Text x) h e (value.outs-Text x) (λ xs k. refl)

pub item_sound : (w : ℕ) (p : Place) (a : Ty) (n : ℕ) (y : Ker) (h : Extent) → IsSound w (item p a n y) h → IsSound w y h
item_sound w p a n y h q =
    let x : Ker-F Ker = opened p a (ker.Item n) (y ∷ []) in
    and_left (ker_sized w y h).sound _ (and_left _ _ (sym (ap (λ (z : Sizing). (z h).sound) (ker_sized-roll w x)) ∙ q))

-- ---- items and fields

module _ (w : ℕ) (ρ : Numbering) (p : Place) (xs : List (List ℕ)) (ps : List Bool) (kd : Kind) (js : List Kind) (zs : Gists) (k m : Ker)
    (b : KeepsGists w ρ zs (k ∷ m ∷ [])) where
  -- at a literal, of what the operand is
  applied : (h : Extent) (z : Gist) → ker_gist w m h ≡ z →
      of_here w p (plain an_application no_literal) (ker_gist w k h ∷ ker_gist w m h ∷ []) ≡ shaped p (applied_at (ker_gist w k h).shape z.literal) (either_rank (walked_rank w k h) (either_rank (z.rank walked) None))
  applied h z e = ap (λ (a : Gist). shaped p (applied_at (ker_gist w k h).shape a.literal) (either_rank (walked_rank w k h) (either_rank (a.rank walked) None))) e

  pub sizes_field : (a : Ty) (x : List ℕ) → op_at m ≡ ker.Const (value.Text x) → KeepsGist w ρ (node_at w p op.Apply xs ps kd js zs) (node p a (ker.FieldOf x) (k ∷ []))
  sizes_field a x e g h s q =
      let q' = children_sound w p a (ker.FieldOf x) (k ∷ []) h refl q in
      ap (of_here w p (plain an_application no_literal)) (same_here w ρ zs (k ∷ m ∷ []) b g h s (q'.0, (text_sound w m x h e, tt)))
      ∙ applied h (record { shape = Atom; literal = text x; rank = λ q. None }) (text_at w m x h e)
      ∙ sym (made w p a (ker.FieldOf x) (k ∷ []) h refl)

  pub sizes_low_item : (a : Ty) (n : ℕ) → op_at m ≡ ker.Const (value.Int (pos n)) → KeepsGist w ρ (node_at w p op.Apply xs ps kd js zs) (item p a n k)
  sizes_low_item a n e g h s q =
      ap (of_here w p (plain an_application no_literal)) (same_here w ρ zs (k ∷ m ∷ []) b g h s (item_sound w p a n k h q, (number_sound w m n h e, tt)))
      ∙ applied h (literal_gist w n) (number_at w m n h e)
      ∙ sym (item_gist w p a n k h)

  pub sizes_high_item : (l : Let) (t : Ty) (n : ℕ) → is_let l ≡ true → LetTypes l → IsTupleType t → op_at m ≡ ker.Const (value.Int (pos n)) →
      KeepsGist w ρ (node_at w p op.Apply xs ps kd js zs) (item_by_let p l t n k m)
  sizes_high_item l t n f y u e g h s q =
      let h' : Extent = in_pair w p l t k m h in
      let K : Gist = ker_gist w k h in
      let body : Ker = item p l.type n (named_first l t k) in
      ap (of_here w p (plain an_application no_literal)) (same_here w ρ zs (k ∷ m ∷ []) b g h s (pair_sound w ρ p xs ps kd js zs k m b l f y t u body h q))
      ∙ applied h (literal_gist w n) (number_at w m n h e)
      ∙ sym (pair_let w ρ p xs ps kd js zs k m b l f y t u body h (shaped p (applied_at K.shape (number (pos n))) (own (place_of k) K.shape))
      (item_gist w p l.type n (named_first l t k) h'
      ∙ ap (λ (a : Gist). shaped p (applied_at a.shape (number (pos n))) (either_rank (a.rank walked) None)) (first_gist_of w p l t k m h h' (named_here w ρ p xs ps kd js zs k m b l f y t u h))
      ∙ ap (shaped p (applied_at K.shape (number (pos n)))) (either_none (either_rank (own (place_of k) K.shape) None) ∙ either_none (own (place_of k) K.shape)))
      ∙ ap (λ (a : Gist). shaped p (applied_at K.shape (number (pos n))) (either_rank (either_rank (walked_rank w k h) (either_rank (a.rank walked) None)) (either_rank (own p (applied_at K.shape (number (pos n)))) (own (place_of k) K.shape)))) (number_at w m n h e)
      ∙ (λ i. record {
        shape = applied_at K.shape (number (pos n));
        literal = no_literal;
        rank = λ q. again_one (own p (applied_at K.shape (number (pos n)))) (own (place_of k) K.shape) (walked_rank w k h) (own_here w k h) i;
      }))

-- ---- powers

module _ (w : ℕ) (wide : 2 ≤ w) (p : Place) (a b : Ty) (y : Ker) (h : Extent) (o : Option Rank) (K : Shape) (is : (ker_gist w y h).shape ≡ K) (has : walked_rank w y h ≡ o) where
  -- a product of n + 1 times y
  product_shape : (n : ℕ) → (ker_gist w (product p a y n) h).shape ≡ power_shape w (suc n) K
  product_shape zero = is
  product_shape (suc n) =
      ap (λ (z : Gist). z.shape) (made w p a ker.Times (product p a y n ∷ y ∷ []) h refl)
      ∙ ap₂ (over_both w (λ x y. x *ℤ y)) (product_shape n) is

  product_rank : (n : ℕ) → walked_rank w (product p a y n) h ≡ o
  product_rank zero = has
  product_rank (suc n) =
      ap (λ (z : Gist). z.rank walked) (made w p a ker.Times (product p a y n ∷ y ∷ []) h refl)
      ∙ ap (λ (r : Option Rank). either_rank r (either_rank (walked_rank w (product p a y n) h) (either_rank (walked_rank w y h) None))) (own_over w (λ x y. x *ℤ y) p (ker_gist w (product p a y n) h).shape (ker_gist w y h).shape)
      ∙ ap₂ (λ (x y : Option Rank). either_rank x (either_rank y None)) (product_rank n) has
      ∙ same_sum (o ∷ []) (both (one 0) (both (one 0) nothing)) (one 0) refl refl

  -- an IF of two branches alike, under a test of x and y
  test_gist : (x z : Ker) → ker_gist w (tested p a b x y z) h
      ≡ shaped p (join (ker_gist w z h).shape (join (ker_gist w z h).shape Empty)) (either_rank (either_rank (walked_rank w x h) (either_rank o None)) (either_rank (walked_rank w z h) (either_rank (walked_rank w z h) None)))
  test_gist x z =
      made w p a ker.If (node p b ker.Less (x ∷ y ∷ []) ∷ z ∷ z ∷ []) h refl
      ∙ ap (λ (t : Gist). shaped p (join (ker_gist w z h).shape (join (ker_gist w z h).shape Empty)) (either_rank (t.rank walked) (either_rank (walked_rank w z h) (either_rank (walked_rank w z h) None))))
      (made w p b ker.Less (x ∷ y ∷ []) h refl ∙ ap (λ (r : Option Rank). atom (either_rank (walked_rank w x h) (either_rank r None))) has)

  twice : (s : Shape) → join s (join s Empty) ≡ s
  twice s = ap (join s) (join_empty s) ∙ join_self s

  pub body_shape : (n : ℕ) → (ker_gist w (power_body p a b y n) h).shape ≡ power_shape w n K
  body_shape zero =
      ap (λ (z : Gist). z.shape) (test_gist y (number_of p a 1)) ∙ twice (ker_gist w (number_of p a 1) h).shape
      ∙ ap (λ (z : Gist). z.shape) (integer_gist w p a (pos 1) h) ∙ small_interval w wide 1 (omega arith)
  body_shape (suc zero) = ap (λ (z : Gist). z.shape) (test_gist (node p a ker.Times (number_of p a 1 ∷ y ∷ [])) y) ∙ twice (ker_gist w y h).shape ∙ is
  body_shape (suc (suc n)) = product_shape (suc n)

  pub body_rank : (n : ℕ) → either_rank (own p (power_shape w n K)) (walked_rank w (power_body p a b y n) h) ≡ either_rank (own p (power_shape w n K)) o
  body_rank zero =
      ap (λ (z : Gist). z.rank walked) (test_gist y (number_of p a 1))
      ∙ ap₂ (λ (s : Shape) (z : Gist). either_rank (own p s) (either_rank (either_rank (walked_rank w y h) (either_rank o None)) (either_rank (z.rank walked) (either_rank (z.rank walked) None))))
      (twice (ker_gist w (number_of p a 1) h).shape ∙ ap (λ (z : Gist). z.shape) (integer_gist w p a (pos 1) h)) (integer_gist w p a (pos 1) h)
      ∙ ap (λ (r : Option Rank). either_rank (either_rank r (either_rank o None)) None) has
      ∙ same_sum (o ∷ []) (both (both (one 0) (both (one 0) nothing)) nothing) (one 0) refl refl
  body_rank (suc zero) =
      ap (λ (z : Gist). either_rank (own p K) (z.rank walked)) (test_gist (node p a ker.Times (number_of p a 1 ∷ y ∷ [])) y)
      ∙ ap₂ (λ (s : Shape) (r : Option Rank). either_rank (own p K) (either_rank (own p s) (either_rank (either_rank r (either_rank o None)) (either_rank (walked_rank w y h) (either_rank (walked_rank w y h) None)))))
      (twice (ker_gist w y h).shape ∙ is) once
      ∙ ap (λ (r : Option Rank). either_rank (own p K) (either_rank (own p K) (either_rank (either_rank o (either_rank o None)) (either_rank r (either_rank r None))))) has
      ∙ same_sum (own p K ∷ o ∷ []) (both (one 0) (both (one 0) (both (both (one 1) (both (one 1) nothing)) (both (one 1) (both (one 1) nothing))))) (both (one 0) (one 1)) refl refl
    where
      once : walked_rank w (node p a ker.Times (number_of p a 1 ∷ y ∷ [])) h ≡ o
      once =
          ap (λ (z : Gist). z.rank walked) (made w p a ker.Times (number_of p a 1 ∷ y ∷ []) h refl)
          ∙ ap (λ (r : Option Rank). either_rank r (either_rank (walked_rank w (number_of p a 1) h) (either_rank (walked_rank w y h) None))) (own_over w (λ x y. x *ℤ y) p (ker_gist w (number_of p a 1) h).shape (ker_gist w y h).shape)
          ∙ ap₂ (λ (z : Gist) (r : Option Rank). either_rank (z.rank walked) (either_rank r None)) (integer_gist w p a (pos 1) h) has
          ∙ either_none o
  body_rank (suc (suc n)) = ap (either_rank (own p (power_shape w (suc (suc n)) K))) (product_rank (suc n))

-- a power by a LET whose body reads an operand with this shape, where the number of the operand adds nothing
power_let : (p : Place) (s : Shape) (d e o k : Option Rank) → either_rank (own p s) e ≡ either_rank (own p s) o → either_rank o d ≡ d →
    shaped p s (either_rank d e) ≡ shaped p s d
power_let p s d e o k f g = λ i. record { shape = s; literal = no_literal; rank = λ q. by i }
  where
    by : either_rank (own p s) (either_rank d e) ≡ either_rank (own p s) d
    by =
        same_sum (own p s ∷ d ∷ e ∷ []) (both (one 0) (both (one 1) (one 2))) (both (both (one 0) (one 2)) (one 1)) refl refl
        ∙ ap (λ (r : Option Rank). either_rank r d) f
        ∙ same_sum (own p s ∷ d ∷ o ∷ []) (both (both (one 0) (one 2)) (one 1)) (both (one 0) (both (one 2) (one 1))) refl refl
        ∙ ap (either_rank (own p s)) g

module _ (w : ℕ) (wide : 2 ≤ w) (ρ : Numbering) (p : Place) (xs : List (List ℕ)) (ps : List Bool) (kd : Kind) (js : List Kind) (zs : Gists) (k m : Ker)
    (b : KeepsGists w ρ zs (k ∷ m ∷ [])) (l : Let) (f : is_let l ≡ true) (y : LetTypes l) (n : ℕ) (e : op_at m ≡ ker.Const (value.Int (pos n))) where
  -- the job's power
  powered : (h : Extent) → of_here w p (family_with op.Pow 0 kd js (ker_gist w m h).literal []) (ker_gist w k h ∷ ker_gist w m h ∷ []) ≡ shaped p (power_shape w n (ker_gist w k h).shape) (walked_rank w k h)
  powered h =
      ap (λ (a : Gist). of_here w p (family_with op.Pow 0 kd js a.literal []) (ker_gist w k h ∷ a ∷ [])) (number_at w m n h e)
      ∙ ap (shaped p (power_shape w n (ker_gist w k h).shape)) (either_none (walked_rank w k h))

  job_power : (g h : Extent) → TiedShapes ρ g h → IsSound w k h → node_at w p op.Pow xs ps kd js zs g ≡ shaped p (power_shape w n (ker_gist w k h).shape) (walked_rank w k h)
  job_power g h t s =
      ap (λ (as' : List Gist). of_here w p (family_with op.Pow 0 kd js (gist_at 1 as').literal []) as') (same_here w ρ zs (k ∷ m ∷ []) b g h t (s, (number_sound w m n h e, tt)))
      ∙ powered h

  pub sizes_power : (c : Ty) → KeepsGist w ρ (node_at w p op.Pow xs ps kd js zs) (small_power p l c k n)
  sizes_power c g h t q =
      let K : Gist = ker_gist w k h in
      let h' : Extent = let_extent l K.shape h in
      let z : Ker = named_one l k in
      let body : Ker = power_body p l.type c z n in
      let named : ker_gist w z h' ≡ shaped (place_of k) K.shape None = read_gist w (place_of k) (type_of k) l.named h' K.shape (found_named l.unread l.named (Seq 0 Empty) K.shape h) in
      let o : Option Rank = either_rank (own (place_of k) K.shape) None in
      let s = body_shape w wide p l.type c z h' o K.shape (ap (λ (a : Gist). a.shape) named) (ap (λ (a : Gist). a.rank walked) named) n in
      let r = body_rank w wide p l.type c z h' o K.shape (ap (λ (a : Gist). a.shape) named) (ap (λ (a : Gist). a.rank walked) named) n in
      job_power g h t (let_sound w p l f y.wholes y.items k body h q).0
      ∙ sym (let_gist w p l f y.wholes y.items k body h
      ∙ ap (λ (a : Shape). shaped p a (either_rank (walked_rank w k h) (walked_rank w body h'))) s
      ∙ power_let p (power_shape w n K.shape) (walked_rank w k h) (walked_rank w body h') o None r
      (ap (λ (x : Option Rank). either_rank x (walked_rank w k h)) (either_none (own (place_of k) K.shape)) ∙ own_here w k h))

  pub sizes_high_power : (t : Ty) (c : Ty) → IsTupleType t → KeepsGist w ρ (node_at w p op.Pow xs ps kd js zs) (large_power p l t c k m n)
  sizes_high_power t c u g h s q =
      let K : Gist = ker_gist w k h in
      let h' : Extent = in_pair w p l t k m h in
      let z : Ker = named_first l t k in
      let body : Ker = power_body p l.type c z n in
      let named : ker_gist w z h' ≡ shaped (place_of k) K.shape None = first_gist_of w p l t k m h h' (named_here w ρ p xs ps kd js zs k m b l f y t u h) in
      let o : Option Rank = either_rank (own (place_of k) K.shape) None in
      let a = body_shape w wide p l.type c z h' o K.shape (ap (λ (a : Gist). a.shape) named) (ap (λ (a : Gist). a.rank walked) named) n in
      let r = body_rank w wide p l.type c z h' o K.shape (ap (λ (a : Gist). a.shape) named) (ap (λ (a : Gist). a.rank walked) named) n in
      job_power g h s (pair_sound w ρ p xs ps kd js zs k m b l f y t u body h q).0
      ∙ sym (pair_let w ρ p xs ps kd js zs k m b l f y t u body h (ker_gist w body h') refl
      ∙ ap (λ (x : Shape). shaped p x (either_rank (either_rank (walked_rank w k h) (either_rank (walked_rank w m h) None)) (walked_rank w body h'))) a
      ∙ ap (λ (x : Gist). shaped p (power_shape w n K.shape) (either_rank (either_rank (walked_rank w k h) (either_rank (x.rank walked) None)) (walked_rank w body h'))) (number_at w m n h e)
      ∙ ap (λ (x : Option Rank). shaped p (power_shape w n K.shape) (either_rank x (walked_rank w body h'))) (either_none (walked_rank w k h))
      ∙ power_let p (power_shape w n K.shape) (walked_rank w k h) (walked_rank w body h') o None r
      (ap (λ (x : Option Rank). either_rank x (walked_rank w k h)) (either_none (own (place_of k) K.shape)) ∙ own_here w k h))
