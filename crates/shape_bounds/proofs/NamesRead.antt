-- Names as they are read, up to numbers past the greatest that is kept; nodes by their operator and children.
use Rattle.std.proofs.Common.{◌≡◌, ℕ, zero, suc, Bool, true, false, List, [], ◌∷◌, map, Option, Some, None, option_map, option_and_then, slice_get, refl, sym, ◌∙◌, ap, ap₂, if◌then◌else◌}
use Rattle.tla_meaning.specs.Scopes.{find_last, or_else, same_text}
use Rattle.kernel_trees.specs.declared.kernel.Ker.{Ker, out-Ker, roll-Ker, roll-out-Ker}
use Rattle.kernel_trees.specs.declared.kernel.KerOp.{KerOp}
use Rattle.kernel_trees.specs.declared.kernel.KerOp.TheVariants as ker
use Rattle.kernel_trees.specs.Trees.{number_name}
use Rattle.kernel_shapes.specs.declared.bounds.Shape.{Shape as Code}
use Rattle.kernel_shapes.specs.Codes.{mean}
use Rattle.kernel_shapes.specs.Counts.{count_at}
use Rattle.kernel_shapes.specs.Kernel.{ker_sized}
use Rattle.kernel_shapes.specs.Shape.{Shape}
use Rattle.kernel_shapes.specs.Sized.{Extent, Position, found}
use Rattle.shape_bounds.specs.declared.names.Names.{Names}
use Rattle.shape_bounds.specs.Kept.{capped}
use Rattle.shape_bounds.specs.Sizes.{IsCounted, Reads, Sizes, bound_name, kept_name, named_at, read_at}
use Rattle.shape_bounds.proofs.Composing.{finds_none, finds_same}
use Rattle.shape_bounds.proofs.Excesses.{finds_node}
use Rattle.shape_bounds.proofs.NodeShapes.{made, name_shape, name_counts, bound_shape, bound_counts}

-- a node by its operator and its children
pub rebuilt : (k : Ker) (o : KerOp) (ks : List Ker) → (out-Ker k).op ≡ o → (out-Ker k).args ≡ ks →
    k ≡ made (out-Ker k).place (out-Ker k).ty o ks (out-Ker k).binds
rebuilt k o ks e f =
    sym (roll-out-Ker k)
    ∙ ap₂ (λ (q : KerOp) (js : List Ker). roll-Ker (record { place = (out-Ker k).place; ty = (out-Ker k).ty; op = q; args = js; binds = (out-Ker k).binds })) e f

pub rebuilt_whole : (k : Ker) (o : KerOp) (ks : List Ker) (xs : List ℕ) → (out-Ker k).op ≡ o → (out-Ker k).args ≡ ks → (out-Ker k).binds ≡ xs →
    k ≡ made (out-Ker k).place (out-Ker k).ty o ks xs
rebuilt_whole k o ks xs e f h = rebuilt k o ks e f ∙ ap (made (out-Ker k).place (out-Ker k).ty o ks) h

list_absurd : {X : Type 0} (x : X) (xs : List X) → [] ≡ x ∷ xs → ⊥
list_absurd x xs e = absurd (cc)

same_head : {X : Type 0} (x y : X) (xs ys : List X) → x ∷ xs ≡ y ∷ ys → x ≡ y
same_head x y xs ys e = cc

same_tail : {X : Type 0} (x y : X) (xs ys : List X) → x ∷ xs ≡ y ∷ ys → xs ≡ ys
same_tail x y xs ys e = cc

found_kept : (o : Option Shape) → capped (found o) ≡ found (option_map capped o)
found_kept None = refl
found_kept (Some a) = refl

declared_kept : (gs : List (Option Shape)) (cs : List (Option Code)) (i : ℕ) → map (option_map capped) gs ≡ map (option_map mean) cs →
    capped (found (option_and_then (λ o. o) (slice_get gs i))) ≡ found (read_at (slice_get cs i))
declared_kept [] [] i e = refl
declared_kept [] (c ∷ cs) i e = absurd (list_absurd _ _ e)
declared_kept (o ∷ gs) [] i e = absurd (list_absurd _ _ (sym e))
declared_kept (o ∷ gs) (c ∷ cs) zero e = found_kept o ∙ ap found (same_head _ _ _ _ e)
declared_kept (o ∷ gs) (c ∷ cs) (suc i) e = declared_kept gs cs i (same_tail _ _ _ _ e)

last_kept : (x : List ℕ) (bs : List (List ℕ × Shape)) → option_map capped (find_last x bs) ≡ find_last x (map kept_name bs)
last_kept x [] = refl
last_kept x (b ∷ bs) = both (find_last x bs) (find_last x (map kept_name bs)) (same_text x b.0) (last_kept x bs)
  where
    both : (o p : Option Shape) (t : Bool) → option_map capped o ≡ p → option_map capped (or_else o (if t then Some b.1 else None)) ≡ or_else p (if t then Some (capped b.1) else None)
    both None p true e = ap (λ (q : Option Shape). or_else q (Some (capped b.1))) e
    both None p false e = ap (λ (q : Option Shape). or_else q None) e
    both (Some a) p t e = ap (λ (q : Option Shape). or_else q (if t then Some (capped b.1) else None)) e

module _ (old new : Names) (k : Ker) (r : Code) where
  -- a declared name
  pub name_sized : (i : ℕ) (primed : Bool) → (out-Ker k).op ≡ ker.Name i primed → mean r ≡ found (named_at old i primed) →
      IsCounted old new (count_at (out-Ker k).place (mean r)) → (q : Position) → Sizes old new (ker_sized old.width k) q r
  name_sized i primed e h c q =
      let at : (g : Extent) → Reads old g → capped (found (option_and_then (λ o. o) (slice_get (if primed then g.next else g.now) i))) ≡ mean r = λ g l. name_read primed g l ∙ sym h in
      record {
        same = c.same;
        shape = λ g l. ap (λ j. capped (ker_sized old.width j g).shape) (rebuilt k _ _ e refl) ∙ ap capped (name_shape old.width _ _ _ g i primed _) ∙ at g l;
        finds = λ g l.
            finds_same old new _ _ (sym (ap (λ j. (ker_sized old.width j g).counts q) (rebuilt k _ _ e refl) ∙ name_counts old.width _ _ _ g i primed _ q))
            (finds_node old old new (out-Ker k).place _ r [] (finds_none old) c.finds (at g l));
      }
    where
      name_read : (b : Bool) (g : Extent) → Reads old g → capped (found (option_and_then (λ o. o) (slice_get (if b then g.next else g.now) i))) ≡ found (named_at old i b)
      name_read true g l = declared_kept g.next old.next.items i l.next
      name_read false g l = declared_kept g.now old.state.items i l.now

  -- what is bound under a number
  pub bound_sized : (n : ℕ) → (out-Ker k).op ≡ ker.Bound n → mean r ≡ found (find_last (number_name n) (map bound_name old.bound.items)) →
      IsCounted old new (count_at (out-Ker k).place (mean r)) → (q : Position) → Sizes old new (ker_sized old.width k) q r
  bound_sized n e h c q =
      let at : (g : Extent) → Reads old g → capped (found (find_last (number_name n) g.bound)) ≡ mean r = λ g l.
      found_kept (find_last (number_name n) g.bound) ∙ ap found (last_kept (number_name n) g.bound ∙ ap (find_last (number_name n)) l.bound) ∙ sym h in
      record {
        same = c.same;
        shape = λ g l. ap (λ j. capped (ker_sized old.width j g).shape) (rebuilt k _ _ e refl) ∙ ap capped (bound_shape old.width _ _ _ g n _) ∙ at g l;
        finds = λ g l.
            finds_same old new _ _ (sym (ap (λ j. (ker_sized old.width j g).counts q) (rebuilt k _ _ e refl) ∙ bound_counts old.width _ _ _ g n _ q))
            (finds_node old old new (out-Ker k).place _ r [] (finds_none old) c.finds (at g l));
      }
