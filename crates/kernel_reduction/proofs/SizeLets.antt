-- The gist of a LET, and of what reads what it names.
use Rattle.std.proofs.Common.{◌≡◌, ℕ, Bool, true, false, ◌&&◌, List, [], ◌∷◌, ◌++◌, map, Option, Some, None, pos, refl, sym, ◌∙◌, ap, ap₂, subst}
use Rattle.std.specs.Prelude.{nat_eq}
use Rattle.std.proofs.lemmas.List.{append_assoc}
use Rattle.tla_meaning.specs.declared.op.Op.TheVariants as op
use Rattle.tla_meaning.specs.declared.place.Place.{Place}
use Rattle.tla_meaning.specs.Scopes.{find_last}
use Rattle.tla_meaning.proofs.Views.{and_left, and_right}
use Rattle.snowcat_rows.specs.declared.types.Ty.{Ty}
use Rattle.kernel_trees.specs.declared.kernel.Ker.{Ker, roll-Ker}
use Rattle.kernel_trees.specs.declared.kernel.Ker.TheOpen.{Ker-F}
use Rattle.kernel_trees.specs.declared.kernel.KerOp.TheVariants as ker
use Rattle.kernel_trees.specs.Trees.{names_of, number_name}
use Rattle.kernel_shapes.specs.Shape.{Shape, Tup, Seq, Empty, shapes, count, inside, join}
use Rattle.kernel_shapes.specs.Rows.{no_literal, number, Row, a_sequence, applied_at}
use Rattle.kernel_shapes.specs.Counts.{either_rank}
use Rattle.kernel_shapes.specs.Sized.{Extent, Sized, Sizing, Seen, walked, found, plain, folds, seen, step, all_sound, is_sequence, steps_sound, bind_shapes, family_sound}
use Rattle.kernel_shapes.specs.Trees.{family_with}
use Rattle.kernel_shapes.specs.Kernel.{ker_sized}
use Rattle.kernel_shapes.proofs.KernelNodes.{ker_parts, first_kinds, ker_sized-roll}
use Rattle.kernel_reduction.specs.Builds.{is_let}
use Rattle.kernel_reduction.specs.Fitting.{the_kind, IsSequenceType, IsTupleType}
use Rattle.kernel_reduction.specs.Rows.{node, bound, item, pair, Let, let_in}
use Rattle.kernel_reduction.proofs.Joins.{join_empty}
use Rattle.kernel_reduction.proofs.Ranks.{same_sum, nothing, one, both}
use Rattle.kernel_reduction.proofs.Tying.{not_true}
use Rattle.kernel_reduction.proofs.Gists.{Gist, ranks}
use Rattle.kernel_reduction.proofs.GistNodes.{ker_gist, ker_gists, ker_node, whole}
use Rattle.kernel_reduction.proofs.ShapeTies.{found_new, found_old}
use Rattle.kernel_reduction.proofs.SizeFrame.{IsSound, AllSound, kers_here, of_here, opened, made, children_sound, outside_sound}
use Rattle.kernel_reduction.proofs.SizeLeaves.{bound_gist, walked_rank}
use Rattle.kernel_reduction.proofs.SizeBinders.{binding, shaped, of_fold, fold_is}

-- ---- sequences and pairs

pub sequence_gist : (w : ℕ) (p : Place) (a : Ty) (ks : List Ker) (h : Extent) → IsSequenceType a →
    ker_gist w (node p a ker.SeqOf ks) h ≡ of_here w p (plain a_sequence no_literal) (kers_here w ks h)
sequence_gist w p a ks h e = made w p a ker.SeqOf ks h refl ∙ ap (λ (r : Row). of_here w p (plain r no_literal) (kers_here w ks h)) e

pub pair_gist : (w : ℕ) (p : Place) (t : Ty) (k l : Ker) (h : Extent) → IsTupleType t →
    ker_gist w (pair p t k l) h ≡ shaped p (Tup (shapes ((ker_gist w k h).shape ∷ (ker_gist w l h).shape ∷ []))) (either_rank (walked_rank w k h) (either_rank (walked_rank w l h) None))
pair_gist w p t k l h e = made w p t ker.TupOf (k ∷ l ∷ []) h refl ∙ ap (λ (r : Row). of_here w p (plain r no_literal) (kers_here w (k ∷ l ∷ []) h)) e

pub item_gist : (w : ℕ) (p : Place) (a : Ty) (n : ℕ) (y : Ker) (h : Extent) →
    ker_gist w (item p a n y) h ≡ shaped p (applied_at (ker_gist w y h).shape (number (pos n))) (either_rank (walked_rank w y h) None)
item_gist w p a n y h = ker_node w (opened p a (ker.Item n) (y ∷ [])) h (whole op.Apply (ker_parts (opened p a (ker.Item n) (y ∷ []))) refl)

-- a bound number that is found
pub read_gist : (w : ℕ) (p : Place) (a : Ty) (n : ℕ) (h : Extent) (b : Shape) → find_last (number_name n) h.bound ≡ Some b →
    ker_gist w (bound p a n) h ≡ shaped p b None
read_gist w p a n h b e = bound_gist w p a n h ∙ ap (λ (o : Option Shape). shaped p (found o) None) e

-- ---- a LET

abbrev pub let_extent : Let → Shape → Extent → Extent
let_extent l a h = bind_shapes (names_of (l.unread ∷ l.named ∷ [])) (Seq 0 Empty ∷ a ∷ []) h

apart : (l : Let) → is_let l ≡ true → nat_eq l.unread l.named ≡ false
apart l h = not_true (nat_eq l.unread l.named) h

found_unread : (l : Let) (a : Shape) (h : Extent) → is_let l ≡ true → find_last (number_name l.unread) (let_extent l a h).bound ≡ Some (Seq 0 Empty)
found_unread l a h f =
    ap (find_last (number_name l.unread)) (sym (append_assoc h.bound ((number_name l.unread, Seq 0 Empty) ∷ []) ((number_name l.named, a) ∷ [])))
    ∙ found_old l.unread l.named a (h.bound ++ (number_name l.unread, Seq 0 Empty) ∷ []) (apart l f)
    ∙ found_new l.unread (Seq 0 Empty) h.bound

module _ (w : ℕ) (p : Place) (l : Let) (f : is_let l ≡ true) (whole_type : IsSequenceType l.wholes) (item_type : IsSequenceType l.items) (d e : Ker) (h : Extent) where
  abbrev D : Gist
  D = ker_gist w d h

  abbrev inner : Extent
  inner = let_extent l D.shape h

  abbrev E : Gist
  E = ker_gist w e inner

  abbrev body : Ker
  body = node p l.wholes ker.Push (bound p l.wholes l.unread ∷ e ∷ [])

  abbrev start : Ker
  start = node p l.wholes ker.SeqOf []

  abbrev over : Ker
  over = node p l.items ker.SeqOf (d ∷ [])

  abbrev fold : Ker-F Ker
  fold = binding p l.wholes ker.FoldLeft (body ∷ start ∷ over ∷ []) (l.unread ∷ l.named ∷ [])

  start_gist : ker_gist w start h ≡ shaped p (Seq 0 Empty) None
  start_gist = sequence_gist w p l.wholes [] h whole_type

  over_gist : ker_gist w over h ≡ shaped p (Seq 1 D.shape) (either_rank (D.rank walked) None)
  over_gist = sequence_gist w p l.items (d ∷ []) h item_type ∙ ap (λ (a : Shape). shaped p (Seq 1 a) (either_rank (D.rank walked) None)) (join_empty D.shape)

  body_gist : ker_gist w body inner ≡ shaped p (Seq 1 E.shape) (either_rank (E.rank walked) None)
  body_gist =
      made w p l.wholes ker.Push (bound p l.wholes l.unread ∷ e ∷ []) inner refl
      ∙ ap (λ (b : Gist). of_here w p (family_with op.Append 0 (the_kind l.wholes) (first_kinds (opened p l.wholes ker.Push (bound p l.wholes l.unread ∷ e ∷ []))) no_literal []) (b ∷ E ∷ []))
      (read_gist w p l.wholes l.unread inner (Seq 0 Empty) (found_unread l D.shape h f))

  fold_gist : ker_gist w (roll-Ker fold) h
      ≡ shaped p (Seq 1 E.shape) (either_rank (either_rank (D.rank walked) None) (either_rank (E.rank walked) None))
  fold_gist =
      ker_node w fold h (whole op.Fold (ker_parts fold) refl)
      ∙ fold_is w p (names_of (l.unread ∷ l.named ∷ [])) (ker_gist w body) (ker_gists w (start ∷ over ∷ [])) h
      ∙ ap₂ (λ (b c : Gist). of_fold w p b c (ranks walked (b ∷ c ∷ [])) (λ a. ker_gist w body (bind_shapes (names_of (l.unread ∷ l.named ∷ [])) (a ∷ inside c.shape ∷ []) h))) start_gist over_gist
      ∙ ap (λ (b : Gist). shaped p (join (Seq 0 Empty) b.shape) (either_rank (either_rank (either_rank (D.rank walked) None) None) (either_rank (b.rank walked) None))) body_gist
      ∙ ap (shaped p (Seq 1 E.shape)) (same_sum (D.rank walked ∷ E.rank walked ∷ [])
      (both (both (both (one 0) nothing) nothing) (both (both (one 1) nothing) nothing))
      (both (both (one 0) nothing) (both (one 1) nothing)) refl refl)

  pub let_gist : ker_gist w (let_in p l d e) h ≡ shaped p E.shape (either_rank (D.rank walked) (E.rank walked))
  let_gist =
      made w p l.type ker.First (roll-Ker fold ∷ []) h refl
      ∙ ap (λ (b : Gist). of_here w p (family_with op.Head 0 (the_kind l.type) (first_kinds (opened p l.type ker.First (roll-Ker fold ∷ []))) no_literal []) (b ∷ [])) fold_gist
      ∙ ap (shaped p E.shape) (same_sum (D.rank walked ∷ E.rank walked ∷ [])
      (both (both (both (one 0) nothing) (both (one 1) nothing)) nothing) (both (one 0) (one 1)) refl refl)

  -- what is sound in it
  pub let_sound : IsSound w (let_in p l d e) h → IsSound w d h × IsSound w e inner
  let_sound s =
      let v : Seen = seen (λ g. None) (true ∷ []) (names_of fold.binds) (map (ker_sized w) fold.args) h in
      let q : family_sound folds v ≡ true = sym (ap (λ (z : Sizing). (z h).sound) (ker_sized-roll w fold)) ∙ (children_sound w p l.type ker.First (roll-Ker fold ∷ []) h refl s).0 in
      let seq : Bool = is_sequence (ker_sized w over h).shape in
      let steps : Bool = steps_sound (count (ker_sized w over h).shape) v (ker_sized w start h).shape in
      let all : AllSound w (start ∷ over ∷ []) h = outside_sound w (start ∷ over ∷ []) h (and_left (all_sound (drop_one v.here)) (seq && steps) q) in
      let turn : steps_sound 1 v (Seq 0 Empty) ≡ true =
      subst (λ (b : Gist). steps_sound (count b.shape) v (Seq 0 Empty) ≡ true) over_gist
      (subst (λ (b : Gist). steps_sound (count (ker_sized w over h).shape) v b.shape ≡ true) start_gist (and_right seq steps (and_right (all_sound (drop_one v.here)) (seq && steps) q))) in
      let first : IsSound w body (bind_shapes (names_of fold.binds) (Seq 0 Empty ∷ inside (ker_sized w over h).shape ∷ []) h) = and_left (step v (Seq 0 Empty)).sound _ turn in
      let here : IsSound w body inner = subst (λ (b : Gist). IsSound w body (bind_shapes (names_of fold.binds) (Seq 0 Empty ∷ inside b.shape ∷ []) h)) over_gist first in
      ((children_sound w p l.items ker.SeqOf (d ∷ []) h refl all.1.0).0, (children_sound w p l.wholes ker.Push (bound p l.wholes l.unread ∷ e ∷ []) inner refl here).1.0)
    where
      drop_one : List Sized → List Sized
      drop_one [] = []
      drop_one (a ∷ as') = as'
