-- Extents that are tied by numbers stay so where more names are bound with new numbers, and where the kernel binds numbers
-- that no name has.
use Rattle.std.proofs.Common.{◌≡◌, ℕ, Bool, true, false, not, List, [], ◌∷◌, ◌++◌, sym, ◌∙◌, ap, subst, Option, Some, None, if◌then◌else◌}
use Rattle.std.specs.Prelude.{nat_eq}
use Rattle.std.proofs.lemmas.List.{append-nil, append_assoc}
use Rattle.tla_meaning.specs.Scopes.{find_last, or_else, same_text}
use Rattle.tla_meaning.proofs.Laws.{find-append, none≢some}
use Rattle.tla_meaning.proofs.Views.{and_left, and_right, false≢true}
use Rattle.kernel_trees.specs.Trees.{number_name, names_of}
use Rattle.kernel_trees.proofs.Steps.{same_text_same}
use Rattle.kernel_shapes.specs.Shape.{Shape, Atom}
use Rattle.kernel_shapes.specs.Sized.{Extent, bound_shapes, bind_shapes}
use Rattle.kernel_reduction.specs.Reduction.{Numbering, fresh, are_fresh, numbered, all_fresh}
use Rattle.kernel_reduction.specs.SizeLaws.{TiedBound, TiedShapes}
use Rattle.kernel_reduction.proofs.Tying.{names_apart, not_true, some_same}

abbrev Bound : Type 0
Bound = List (List ℕ × Shape)

pub found_fresh : (ρ : Numbering) (x : List ℕ) (n k : ℕ) → fresh n ρ ≡ true → find_last x ρ ≡ Some k → same_text (number_name k) (number_name n) ≡ false
found_fresh [] x n k h q = absurd (none≢some q)
found_fresh (e ∷ ρ) x n k h q =
    by (find_last x ρ) (same_text x e.0) q (found_fresh ρ x n k (and_right (not (nat_eq e.1 n)) (fresh n ρ) h))
  where
    by : (o : Option ℕ) (b : Bool) → or_else o (if b then Some e.1 else None) ≡ Some k → (o ≡ Some k → same_text (number_name k) (number_name n) ≡ false) →
        same_text (number_name k) (number_name n) ≡ false
    by (Some j) b q rec = rec q
    by None true q rec =
        subst (λ j. same_text (number_name j) (number_name n) ≡ false) (some_same q)
        (names_apart e.1 n (not_true (nat_eq e.1 n) (and_left (not (nat_eq e.1 n)) (fresh n ρ) h)))
    by None false q rec = absurd (none≢some q)

-- the last of several is found
pub found_new : (n : ℕ) (v : Shape) (bs : Bound) → find_last (number_name n) (bs ++ (number_name n, v) ∷ []) ≡ Some v
found_new n v bs =
    find-append (number_name n) bs ((number_name n, v) ∷ [])
    ∙ ap (λ c. or_else (or_else None (if c then Some v else None)) (find_last (number_name n) bs)) (same_text_same (number_name n))

-- one of another number is passed over
pub found_old : (n m : ℕ) (v : Shape) (bs : Bound) → nat_eq n m ≡ false → find_last (number_name n) (bs ++ (number_name m, v) ∷ []) ≡ find_last (number_name n) bs
found_old n m v bs h =
    find-append (number_name n) bs ((number_name m, v) ∷ [])
    ∙ ap (λ c. or_else (or_else None (if c then Some v else None)) (find_last (number_name n) bs)) (names_apart n m h)

module _ (ρ : Numbering) (as' bs : Bound) (r : TiedBound ρ as' bs) (n : ℕ) (h : fresh n ρ ≡ true) (v : Shape) where
  old_number : (z : List ℕ) (k : ℕ) → find_last z ρ ≡ Some k → find_last (number_name k) (bs ++ (number_name n, v) ∷ []) ≡ find_last (number_name k) bs
  old_number z k q =
      find-append (number_name k) bs ((number_name n, v) ∷ [])
      ∙ ap (λ c. or_else (or_else None (if c then Some v else None)) (find_last (number_name k) bs)) (found_fresh ρ z n k h q)

  tied_by : (z : List ℕ) (k : ℕ) (c : Bool) → or_else (or_else None (if c then Some n else None)) (find_last z ρ) ≡ Some k →
      or_else (or_else None (if c then Some v else None)) (find_last z as') ≡ find_last (number_name k) (bs ++ (number_name n, v) ∷ [])
  tied_by z k true q = sym (found_new n v bs) ∙ ap (λ m. find_last (number_name m) (bs ++ (number_name n, v) ∷ [])) (some_same q)
  tied_by z k false q = r z k q ∙ sym (old_number z k q)

  tied_one : (x : List ℕ) → TiedBound (ρ ++ (x, n) ∷ []) (as' ++ (x, v) ∷ []) (bs ++ (number_name n, v) ∷ [])
  tied_one x z k q = find-append z as' ((x, v) ∷ []) ∙ tied_by z k (same_text z x) (sym (find-append z ρ ((x, n) ∷ [])) ∙ q)

  -- a number that no name has
  tied_unread : TiedBound ρ as' (bs ++ (number_name n, v) ∷ [])
  tied_unread z k q = r z k q ∙ sym (old_number z k q)

-- with one more in front of the rest
in_front : (ρ : Numbering) (as' bs cs ds : Bound) (x y : List ℕ × Shape) → TiedBound ρ ((as' ++ x ∷ []) ++ cs) ((bs ++ y ∷ []) ++ ds) → TiedBound ρ (as' ++ x ∷ cs) (bs ++ y ∷ ds)
in_front ρ as' bs cs ds x y r =
    subst (λ (l : Bound). TiedBound ρ l (bs ++ y ∷ ds)) (append_assoc as' (x ∷ []) cs)
    (subst (λ (l : Bound). TiedBound ρ ((as' ++ x ∷ []) ++ cs) l) (append_assoc bs (y ∷ []) ds) r)

pub bound_under : (xs : List (List ℕ)) (ns : List ℕ) (vs : List Shape) (ρ : Numbering) (as' bs : Bound) → all_fresh xs ns ρ ≡ true → TiedBound ρ as' bs →
    TiedBound (numbered xs ns ρ) (as' ++ bound_shapes xs vs) (bs ++ bound_shapes (names_of ns) vs)
bound_under [] [] vs ρ as' bs h r = subst (λ (l : Bound). TiedBound ρ l (bs ++ [])) (sym (append-nil as')) (subst (TiedBound ρ as') (sym (append-nil bs)) r)
bound_under [] (n ∷ ns) vs ρ as' bs h r = absurd (false≢true h)
bound_under (x ∷ xs) [] vs ρ as' bs h r = absurd (false≢true h)
bound_under (x ∷ xs) (n ∷ ns) [] ρ as' bs h r =
    in_front (numbered xs ns (ρ ++ (x, n) ∷ [])) as' bs (bound_shapes xs []) (bound_shapes (names_of ns) []) (x, Atom) (number_name n, Atom)
    (bound_under xs ns [] (ρ ++ (x, n) ∷ []) (as' ++ (x, Atom) ∷ []) (bs ++ (number_name n, Atom) ∷ []) (and_right (fresh n ρ) (all_fresh xs ns (ρ ++ (x, n) ∷ [])) h)
    (tied_one ρ as' bs r n (and_left (fresh n ρ) (all_fresh xs ns (ρ ++ (x, n) ∷ [])) h) Atom x))
bound_under (x ∷ xs) (n ∷ ns) (v ∷ vs) ρ as' bs h r =
    in_front (numbered xs ns (ρ ++ (x, n) ∷ [])) as' bs (bound_shapes xs vs) (bound_shapes (names_of ns) vs) (x, v) (number_name n, v)
    (bound_under xs ns vs (ρ ++ (x, n) ∷ []) (as' ++ (x, v) ∷ []) (bs ++ (number_name n, v) ∷ []) (and_right (fresh n ρ) (all_fresh xs ns (ρ ++ (x, n) ∷ [])) h)
    (tied_one ρ as' bs r n (and_left (fresh n ρ) (all_fresh xs ns (ρ ++ (x, n) ∷ [])) h) v x))

-- numbers that no name has
pub bound_over : (ns : List ℕ) (vs : List Shape) (ρ : Numbering) (as' bs : Bound) → are_fresh ns ρ ≡ true → TiedBound ρ as' bs →
    TiedBound ρ as' (bs ++ bound_shapes (names_of ns) vs)
bound_over [] vs ρ as' bs h r = subst (TiedBound ρ as') (sym (append-nil bs)) r
bound_over (n ∷ ns) [] ρ as' bs h r =
    subst (TiedBound ρ as') (append_assoc bs ((number_name n, Atom) ∷ []) (bound_shapes (names_of ns) []))
    (bound_over ns [] ρ as' (bs ++ (number_name n, Atom) ∷ []) (and_right (fresh n ρ) (are_fresh ns ρ) h) (tied_unread ρ as' bs r n (and_left (fresh n ρ) (are_fresh ns ρ) h) Atom))
bound_over (n ∷ ns) (v ∷ vs) ρ as' bs h r =
    subst (TiedBound ρ as') (append_assoc bs ((number_name n, v) ∷ []) (bound_shapes (names_of ns) vs))
    (bound_over ns vs ρ as' (bs ++ (number_name n, v) ∷ []) (and_right (fresh n ρ) (are_fresh ns ρ) h) (tied_unread ρ as' bs r n (and_left (fresh n ρ) (are_fresh ns ρ) h) v))

pub tied_under : (xs : List (List ℕ)) (ns : List ℕ) (vs : List Shape) (ρ : Numbering) (g h : Extent) → all_fresh xs ns ρ ≡ true → TiedShapes ρ g h →
    TiedShapes (numbered xs ns ρ) (bind_shapes xs vs g) (bind_shapes (names_of ns) vs h)
tied_under xs ns vs ρ g h f r = record { now = r.now; next = r.next; bound = bound_under xs ns vs ρ g.bound h.bound f r.bound }

pub tied_over : (ns : List ℕ) (vs : List Shape) (ρ : Numbering) (g h : Extent) → are_fresh ns ρ ≡ true → TiedShapes ρ g h →
    TiedShapes ρ g (bind_shapes (names_of ns) vs h)
tied_over ns vs ρ g h f r = record { now = r.now; next = r.next; bound = bound_over ns vs ρ g.bound h.bound f r.bound }

-- what a LET names is found, also under one more number
pub found_named : (m n : ℕ) (u v : Shape) (h : Extent) → find_last (number_name n) (bind_shapes (names_of (m ∷ n ∷ [])) (u ∷ v ∷ []) h).bound ≡ Some v
found_named m n u v h =
    ap (find_last (number_name n)) (sym (append_assoc h.bound ((number_name m, u) ∷ []) ((number_name n, v) ∷ [])))
    ∙ found_new n v (h.bound ++ (number_name m, u) ∷ [])
