-- EXCEPT keeps shape, literal and refusal.
use Rattle.std.proofs.Common.{◌≡◌, ℕ, zero, suc, Bool, true, false, ◌&&◌, List, [], ◌∷◌, map, take, drop, Option, None, refl, sym, ◌∙◌, ap, ap₂, subst, arith}
use Rattle.tla_meaning.specs.declared.expr.Expr.{Expr}
use Rattle.tla_meaning.specs.declared.expr.Expr.TheOpen.{Expr-F}
use Rattle.std.specs.List.{list_all}
use Rattle.std.specs.Prelude.{nat_eq, ◌++◌}
use Rattle.tla_meaning.specs.declared.op.Op.TheVariants as op
use Rattle.tla_meaning.specs.declared.place.Place.{Place}
use Rattle.tla_meaning.specs.Symbols.{same_place}
use Rattle.tla_meaning.proofs.Views.{and_left, and_right}
use Rattle.snowcat_rows.specs.declared.types.Ty.{Ty}
use Rattle.kernel_trees.specs.declared.kernel.Ker.{Ker}
use Rattle.kernel_trees.specs.declared.kernel.KerOp.TheVariants as ker
use Rattle.kernel_trees.specs.Trees.{as_expr, names_of, number_name}
use Rattle.kernel_trees.specs.TypeKinds.{Kind}
use Rattle.kernel_trees.proofs.Steps.{same_text_same}
use Rattle.kernel_shapes.specs.Shape.{Shape}
use Rattle.kernel_shapes.specs.Rows.{no_literal, applied_at, joined_at, shape_at}
use Rattle.kernel_shapes.specs.Counts.{Rank, either_rank}
use Rattle.kernel_shapes.specs.Sized.{Extent, walked, bind_shapes}
use Rattle.kernel_shapes.specs.Trees.{begins_with_name, is_bound_name, is_except, is_part}
use Rattle.kernel_reduction.specs.Reduction.{Numbering, numbered, are_fresh, fresh}
use Rattle.kernel_reduction.specs.SizeLaws.{TiedShapes}
use Rattle.kernel_reduction.specs.Rows.{Level, Change, tree, bound, all_levels, level_numbers, changed_at, changed}
use Rattle.kernel_reduction.proofs.JoinsAlong.{joined_twice, own_joined}
use Rattle.kernel_reduction.proofs.PartRoots.{as_out, numbers_of}
use Rattle.kernel_reduction.proofs.Ranks.{either_none, same_sum, one, both}
use Rattle.kernel_reduction.proofs.Gists.{Gist, own, ranks}
use Rattle.kernel_reduction.proofs.GistNodes.{Gists, node_at, ker_gist}
use Rattle.kernel_reduction.proofs.ShapeTies.{found_new, tied_over, tied_under}
use Rattle.kernel_reduction.proofs.SizeFrame.{KeepsGist, IsSound, all_here}
use Rattle.kernel_reduction.proofs.SizeLeaves.{walked_rank}
use Rattle.kernel_reduction.proofs.SizeLets.{read_gist}
use Rattle.kernel_reduction.proofs.SizeBinders.{first_gist, shaped}
use Rattle.kernel_reduction.proofs.SizePaths.{beyond_rank, except_is, literals, path_at, right_at, update_beyond, update_gist, update_inner, update_sound, updated_shape, updates_rank}

-- the indexes of a path and its right side, which is no part of the path
abbrev pub PathKept : ℕ → Place → Numbering → List ℕ → List Level → ℕ → Gists → Ker → Type 0
PathKept w p ρ x (l ∷ []) (suc zero) (z ∷ r ∷ []) k =
    KeepsGist w ρ z l.index × (KeepsGist w (numbered (x ∷ []) (l.number ∷ []) ρ) r k × (is_part p (number_name l.number ∷ []) (as_expr k) ≡ false))
PathKept w p ρ x (l ∷ m ∷ ls) (suc n) (z ∷ zs) k = KeepsGist w ρ z l.index × PathKept w p ρ x (m ∷ ls) n zs k
PathKept w p ρ x ls n zs k = ⊥

abbrev pub ChangesKept : ℕ → Place → Numbering → List ℕ → List ℕ → Gists → List Change → Type 0
ChangesKept w p ρ x [] zs [] = Unit {0}
ChangesKept w p ρ x (n ∷ ns) zs (u ∷ us) = PathKept w p ρ x u.levels n (take (suc n) zs) u.right × ChangesKept w p ρ x ns (drop (suc n) zs) us
ChangesKept w p ρ x [] zs (u ∷ us) = ⊥
ChangesKept w p ρ x (n ∷ ns) zs [] = ⊥

-- ---- an update along a path is a part of the one around it

place_same : (p : Place) → same_place p p ≡ true
place_same p = by (same p.file) (same p.line) (same p.col)
  where
    same : (n : ℕ) → nat_eq n n ≡ true
    same n = grind arith

    by : {a b c : Bool} → a ≡ true → b ≡ true → c ≡ true → (a && b && c) ≡ true
    by h g k = (λ i. h i && g i && k i)

goes_along : (p : Place) (a : Ty) (n : ℕ) (i e : Ker) (m : ℕ) → is_part p (number_name n ∷ []) (as_expr (tree p a ker.Update (bound p a n ∷ i ∷ e ∷ []) (m ∷ []))) ≡ true
goes_along p a n i e m =
    ap (λ (z : Expr-F Expr). is_except z.op && (same_place p z.place && begins_with_name (number_name n) z.args)) (as_out (record { place = p; ty = a; op = ker.Update; args = bound p a n ∷ i ∷ e ∷ []; binds = m ∷ [] }))
    ∙ ap₂ (λ (b c : Bool). b && c) (place_same p) (ap (λ (z : Expr-F Expr). is_bound_name (number_name n) z.op) (as_out (record { place = p; ty = a; op = ker.Bound n; args = []; binds = [] })) ∙ same_text_same (number_name n))

along : (p : Place) (a : Ty) (n : ℕ) (m : Level) (ls : List Level) (e : Ker) → is_part p (number_name n ∷ []) (as_expr (changed_at p a (bound p a n) (m ∷ ls) e)) ≡ true
along p a n m [] e = goes_along p a n m.index e m.number
along p a n m (k ∷ ls) e = goes_along p a n m.index (changed_at p m.inner (bound p m.inner m.number) (k ∷ ls) e) m.number

-- ---- what is kept of a path, at extents of the kernel

-- the gists of the indexes of a path, and its right side by the extent
abbrev pub Step : Type 0
Step = List Gist × (Extent → Gist)

abbrev pub right_of : List ℕ → Extent → Step → Shape → Gist
right_of x g s a = s.1 (bind_shapes (x ∷ []) (shape_at a (literals s.0) ∷ []) g)

abbrev pub joined_by : List ℕ → Extent → Step → Shape → Shape
joined_by x g s a = joined_at (literals s.0) (right_of x g s a).shape a

abbrev pub steps_shape : List ℕ → Extent → List Step → Shape → Shape
steps_shape x g [] a = a
steps_shape x g (s ∷ ss) a = steps_shape x g ss (joined_by x g s a)

abbrev pub steps_rank : List ℕ → Extent → List Step → Shape → Option Rank
steps_rank x g [] a = None
steps_rank x g (s ∷ ss) a = either_rank (ranks walked s.0) (either_rank ((right_of x g s a).rank walked) (steps_rank x g ss (joined_by x g s a)))

abbrev pub IndexAt : ℕ → (Extent → Type 0) → Gist → Ker → Type 0
IndexAt w At i k = (h : Extent) → At h → IsSound w k h → i ≡ ker_gist w k h

abbrev pub RightAt : ℕ → (Extent → Type 0) → List ℕ → Extent → ℕ → (Extent → Gist) → Ker → Type 0
RightAt w At x g n r k = (b : Shape) (h : Extent) → At h → IsSound w k (bind_shapes (names_of (n ∷ [])) (b ∷ []) h) →
    r (bind_shapes (x ∷ []) (b ∷ []) g) ≡ ker_gist w k (bind_shapes (names_of (n ∷ [])) (b ∷ []) h)

abbrev pub PathAt : ℕ → Place → (Extent → Type 0) → List ℕ → Extent → List Level → List Gist → (Extent → Gist) → Ker → Type 0
PathAt w p At x g (l ∷ []) (i ∷ []) r k = IndexAt w At i l.index × (RightAt w At x g l.number r k × (is_part p (number_name l.number ∷ []) (as_expr k) ≡ false))
PathAt w p At x g (l ∷ m ∷ ls) (i ∷ is) r k = IndexAt w At i l.index × PathAt w p At x g (m ∷ ls) is r k
PathAt w p At x g ls is r k = ⊥

abbrev pub StepsAt : ℕ → Place → (Extent → Type 0) → List ℕ → Extent → List Step → List Change → Type 0
StepsAt w p At x g [] [] = Unit {0}
StepsAt w p At x g (s ∷ ss) (u ∷ us) = PathAt w p At x g u.levels s.0 s.1 u.right × StepsAt w p At x g ss us
StepsAt w p At x g [] (u ∷ us) = ⊥
StepsAt w p At x g (s ∷ ss) [] = ⊥

-- ---- a path

-- an update along a path, by what is kept of the path
record AtPath (w : ℕ) (p : Place) (x : List ℕ) (a : Ty) (f : Ker) (ls : List Level) (s : Step) (e : Ker) (g h : Extent) : Type 0 where
  sound : IsSound w f h
  whole : ker_gist w (changed_at p a f ls e) h ≡
      shaped p (joined_by x g s (ker_gist w f h).shape) (either_rank (walked_rank w f h) (either_rank (ranks walked s.0) ((right_of x g s (ker_gist w f h).shape).rank walked)))
  beyond : beyond_rank w (changed_at p a f ls e) h ≡ either_rank (ranks walked s.0) ((right_of x g s (ker_gist w f h).shape).rank walked)

-- the numbers of all levels behind the first update
pub good_levels : (good : ℕ → Bool) (u : Change) (us : List Change) → list_all good (level_numbers (u ∷ us)) ≡ true → (list_all good (numbers_of u.levels) ≡ true) × (list_all good (level_numbers us) ≡ true)
good_levels good u us h = by u.levels h
  where
    by : (ls : List Level) → list_all good (map (λ l. l.number) (ls ++ all_levels us)) ≡ true → (list_all good (numbers_of ls) ≡ true) × (list_all good (level_numbers us) ≡ true)
    by [] h = (refl, h)
    by (l ∷ ls) h =
        let rest = by ls (and_right (good l.number) (list_all good (map (λ l. l.number) (ls ++ all_levels us))) h) in
        (all_true (good l.number) (list_all good (numbers_of ls)) (and_left (good l.number) (list_all good (map (λ l. l.number) (ls ++ all_levels us))) h) rest.0, rest.1)
      where
        all_true : (a b : Bool) → a ≡ true → b ≡ true → (a && b) ≡ true
        all_true true b h g = g
        all_true false b h g = h

pub record AllAt (w : ℕ) (p : Place) (x : List ℕ) (k f : Ker) (ss : List Step) (g h : Extent) : Type 0 where
  pub sound : IsSound w f h
  pub rank : Option Rank
  pub whole : ker_gist w k h ≡ shaped p (steps_shape x g ss (ker_gist w f h).shape) rank
  pub same : either_rank (own p (ker_gist w f h).shape) rank ≡ either_rank (own p (ker_gist w f h).shape) (either_rank (walked_rank w f h) (steps_rank x g ss (ker_gist w f h).shape))
  pub number : own p (steps_shape x g ss (ker_gist w f h).shape) ≡ own p (ker_gist w f h).shape

-- a path leaves the number of what it goes through
kept_number : (w : ℕ) (p : Place) (At : Extent → Type 0) (x : List ℕ) (g : Extent) (ls : List Level) (is : List Gist) (r : Extent → Gist) (e : Ker) → PathAt w p At x g ls is r e → (new a : Shape) →
    own p (joined_at (literals is) new a) ≡ own p a
kept_number w p At x g (l ∷ []) (i ∷ []) r e c new a = own_joined p i.literal [] new a
kept_number w p At x g (l ∷ m ∷ ls) (i ∷ is) r e c new a = own_joined p i.literal (literals is) new a
kept_number w p At x g ls is r e c new a = absurd c

-- at extents in which more numbers of a kind may be bound
module _ (w : ℕ) (p : Place) (x : List ℕ) (g : Extent) (good : ℕ → Bool) (At : Extent → Type 0) (more : (n : ℕ) → good n ≡ true → (b : Shape) (h : Extent) → At h → At (bind_shapes (names_of (n ∷ [])) (b ∷ []) h)) where
  path_kept : (ls : List Level) (is : List Gist) (r : Extent → Gist) (e : Ker) → PathAt w p At x g ls is r e → list_all good (numbers_of ls) ≡ true → (a : Ty) (f : Ker) (h : Extent) → At h →
      IsSound w (changed_at p a f ls e) h → AtPath w p x a f ls (is, r) e g h
  path_kept (l ∷ []) (z ∷ []) r e c fr a f h t s =
      let q = update_sound w p a f l.index e l.number h s in
      let I : z ≡ ker_gist w l.index h = c.0 h t q.1.0 in
      let A : Shape = (ker_gist w f h).shape in
      let b : Shape = applied_at A (ker_gist w l.index h).literal in
      let R : r (bind_shapes (x ∷ []) (b ∷ []) g) ≡ ker_gist w e (update_inner w p a f l.index e l.number h) = c.1.0 b h t q.1.1 in
      let E : Gist = ker_gist w e (update_inner w p a f l.index e l.number h) in
      record {
        sound = q.0;
        whole =
            update_gist w p a f l.index e l.number h false c.1.1
            ∙ (λ i. shaped p (joined_at ((sym I i).literal ∷ []) E.shape A) (either_rank (walked_rank w f h) (either_rank (sym (either_none ((sym I i).rank walked)) i) (E.rank walked))))
            ∙ (λ i. shaped p (joined_at (z.literal ∷ []) (back I A R i).shape A) (either_rank (walked_rank w f h) (either_rank (either_rank (z.rank walked) None) ((back I A R i).rank walked))));
        beyond =
            update_beyond w p a f l.index e l.number h false c.1.1
            ∙ (λ i. either_rank (sym (either_none ((sym I i).rank walked)) i) (E.rank walked))
            ∙ (λ i. either_rank (either_rank (z.rank walked) None) ((back I A R i).rank walked));
      }
    where
      back : {i : Gist} {y : Gist} → z ≡ i → (A : Shape) → r (bind_shapes (x ∷ []) (applied_at A i.literal ∷ []) g) ≡ y → y ≡ r (bind_shapes (x ∷ []) (applied_at A z.literal ∷ []) g)
      back I A R = sym R ∙ ap (λ (b : Gist). r (bind_shapes (x ∷ []) (applied_at A b.literal ∷ []) g)) (sym I)
  path_kept (l ∷ m ∷ ls) (z ∷ is) r e c fr a f h t s =
      let e' : Ker = changed_at p l.inner (bound p l.inner l.number) (m ∷ ls) e in
      let q = update_sound w p a f l.index e' l.number h s in
      let h' : Extent = update_inner w p a f l.index e' l.number h in
      let I : z ≡ ker_gist w l.index h = c.0 h t q.1.0 in
      let A : Shape = (ker_gist w f h).shape in
      let b : Shape = applied_at A (ker_gist w l.index h).literal in
      let new : good l.number ≡ true = and_left (good l.number) (list_all good (numbers_of (m ∷ ls))) fr in
      let inner = path_kept (m ∷ ls) is r e c.1 (and_right (good l.number) (list_all good (numbers_of (m ∷ ls))) fr) l.inner (bound p l.inner l.number) h' (more l.number new b h t) q.1.1 in
      let B : (ker_gist w (bound p l.inner l.number) h').shape ≡ b = ap (λ (y : Gist). y.shape) (read_gist w p l.inner l.number h' b (found_new l.number b h.bound)) in
      let C : b ≡ applied_at A z.literal = ap (λ (y : Gist). applied_at A y.literal) (sym I) in
      let D : (ker_gist w (bound p l.inner l.number) h').shape ≡ applied_at A z.literal = B ∙ C in
      let X : Shape → Option Rank = λ v. either_rank (ranks walked is) ((right_of x g (is, r) v).rank walked) in
      let V : Shape = applied_at A z.literal in
      let rank_of : either_rank (walked_rank w l.index h) (beyond_rank w e' h') ≡ either_rank (either_rank (z.rank walked) (ranks walked is)) ((right_of x g (is, r) V).rank walked) =
      ap₂ (λ (y : Gist) (o : Option Rank). either_rank (y.rank walked) o) (sym I) (inner.beyond ∙ ap X D)
      ∙ same_sum (z.rank walked ∷ ranks walked is ∷ (right_of x g (is, r) V).rank walked ∷ [])
      (both (one 0) (both (one 1) (one 2))) (both (both (one 0) (one 1)) (one 2)) refl refl in
      record {
        sound = q.0;
        whole =
            update_gist w p a f l.index e' l.number h true (along p l.inner l.number m ls e)
            ∙ (λ i. shaped p (joined_at ((sym I i).literal ∷ []) ((ap (λ (y : Gist). y.shape) inner.whole ∙ ap (joined_by x g (is, r)) D) i) A) (either_rank (walked_rank w f h) (rank_of i)))
            ∙ ap (λ (v : Shape). shaped p v (either_rank (walked_rank w f h) (either_rank (either_rank (z.rank walked) (ranks walked is)) ((right_of x g (is, r) V).rank walked))))
            (joined_twice z.literal (literals is) (right_of x g (is, r) V).shape A);
        beyond = update_beyond w p a f l.index e' l.number h true (along p l.inner l.number m ls e) ∙ rank_of;
      }
  path_kept ls is r e c fr a f h t s = absurd c

  pub all_kept : (u : Change) (us : List Change) (ss : List Step) → StepsAt w p At x g ss (u ∷ us) → list_all good (level_numbers (u ∷ us)) ≡ true → (a : Ty) (f : Ker) (h : Extent) → At h →
      IsSound w (changed p a f (u ∷ us)) h → AllAt w p x (changed p a f (u ∷ us)) f ss g h
  all_kept u [] (y ∷ []) c fr a f h t s =
      let r = path_kept u.levels y.0 y.1 u.right c.0 (good_levels good u [] fr).0 a f h t s in
      let A : Shape = (ker_gist w f h).shape in
      record {
        sound = r.sound;
        rank = either_rank (walked_rank w f h) (either_rank (ranks walked y.0) ((right_of x g y A).rank walked));
        whole = r.whole;
        same = ap (λ (o : Option Rank). either_rank (own p A) (either_rank (walked_rank w f h) (either_rank (ranks walked y.0) o))) (sym (either_none ((right_of x g y A).rank walked)));
        number = kept_number w p At x g u.levels y.0 y.1 u.right c.0 (right_of x g y A).shape A;
      }
  all_kept u [] (y ∷ y' ∷ ss) c fr a f h t s = absurd c.1
  all_kept u us [] c fr a f h t s = absurd c
  all_kept u (v ∷ vs) (y ∷ ss) c fr a f h t s =
      let f1 : Ker = changed_at p a f u.levels u.right in
      let new = good_levels good u (v ∷ vs) fr in
      let later = all_kept v vs ss c.1 new.1 a f1 h t s in
      let r = path_kept u.levels y.0 y.1 u.right c.0 new.0 a f h t later.sound in
      let A : Shape = (ker_gist w f h).shape in
      let R : Gist = right_of x g y A in
      let J : Shape = joined_by x g y A in
      let is : (ker_gist w f1 h).shape ≡ J = ap (λ (z : Gist). z.shape) r.whole in
      let own_is : own p J ≡ own p A = kept_number w p At x g u.levels y.0 y.1 u.right c.0 R.shape A in
      let same_own : own p (ker_gist w f1 h).shape ≡ own p A = ap (own p) is ∙ own_is in
      let idx : Option Rank = ranks walked y.0 in
      let rec : Option Rank = steps_rank x g ss J in
      record {
        sound = r.sound;
        rank = later.rank;
        whole = later.whole ∙ ap (λ (z : Shape). shaped p (steps_shape x g ss z) later.rank) is;
        same =
            ap (λ (o : Option Rank). either_rank o later.rank) (sym same_own)
            ∙ later.same
            ∙ ap (λ (z : Gist). either_rank (own p z.shape) (either_rank (z.rank walked) (steps_rank x g ss z.shape))) r.whole
            ∙ ap (λ (o : Option Rank). either_rank o (either_rank (either_rank o (either_rank (walked_rank w f h) (either_rank idx (R.rank walked)))) rec)) own_is
            ∙ same_sum (own p A ∷ walked_rank w f h ∷ idx ∷ R.rank walked ∷ rec ∷ [])
            (both (one 0) (both (both (one 0) (both (one 1) (both (one 2) (one 3)))) (one 4)))
            (both (one 0) (both (one 1) (both (one 2) (both (one 3) (one 4))))) refl refl;
        number = ap (λ (z : Shape). own p (steps_shape x g ss z)) (sym is) ∙ later.number ∙ same_own;
      }

-- ---- the steps of an EXCEPT of the job

abbrev pub steps_of : List ℕ → Gists → Extent → List Step
steps_of [] zs g = []
steps_of (n ∷ ns) zs g = (all_here (take n zs) g, first_gist (drop n zs)) ∷ steps_of ns (drop (suc n) zs) g

shape_of_steps : (x : List ℕ) (cs : List ℕ) (zs : Gists) (g : Extent) (a : Shape) → updated_shape x cs zs g a ≡ steps_shape x g (steps_of cs zs g) a
shape_of_steps x [] zs g a = refl
shape_of_steps x (n ∷ ns) zs g a = shape_of_steps x ns (drop (suc n) zs) g _

rank_of_steps : (x : List ℕ) (cs : List ℕ) (zs : Gists) (g : Extent) (a : Shape) → updates_rank x cs zs g a ≡ steps_rank x g (steps_of cs zs g) a
rank_of_steps x [] zs g a = refl
rank_of_steps x (n ∷ ns) zs g a =
    let r : Gist = right_at x n zs g (shape_at a (path_at n zs g)) in
    ap (λ (o : Option Rank). either_rank (ranks walked (all_here (take n zs) g)) (either_rank (r.rank walked) o)) (rank_of_steps x ns (drop (suc n) zs) g (joined_at (path_at n zs g) r.shape a))

take_less : (n : ℕ) (zs : Gists) → take n (take (suc n) zs) ≡ take n zs
take_less zero zs = refl
take_less (suc n) [] = refl
take_less (suc n) (z ∷ zs) = ap (λ (l : Gists). z ∷ l) (take_less n zs)

first_behind : (n : ℕ) (zs : Gists) (g : Extent) → first_gist (drop n (take (suc n) zs)) g ≡ first_gist (drop n zs) g
first_behind zero [] g = refl
first_behind zero (z ∷ zs) g = refl
first_behind (suc n) [] g = refl
first_behind (suc n) (z ∷ zs) g = first_behind n zs g

-- what is kept at tied extents is kept at extents that are
module _ (w : ℕ) (ρ : Numbering) (p : Place) (x : List ℕ) (g : Extent) (At : Extent → Type 0) (tied : (h : Extent) → At h → TiedShapes ρ g h) where
  path_at_tied : (ls : List Level) (n : ℕ) (zs : Gists) (e : Ker) → PathKept w p ρ x ls n zs e → are_fresh (numbers_of ls) ρ ≡ true → PathAt w p At x g ls (all_here (take n zs) g) (first_gist (drop n zs)) e
  path_at_tied (l ∷ []) (suc zero) (z ∷ r ∷ []) e c fr = (
    (λ h t s. c.0 g h (tied h t) s),
    (
      (λ b h t s. c.1.0 (bind_shapes (x ∷ []) (b ∷ []) g) (bind_shapes (names_of (l.number ∷ [])) (b ∷ []) h)
          (tied_under (x ∷ []) (l.number ∷ []) (b ∷ []) ρ g h (one_true (fresh l.number ρ) (and_left (fresh l.number ρ) true fr)) (tied h t)) s),
      c.1.1,
    ),
  )
    where
      one_true : (b : Bool) → b ≡ true → (b && true) ≡ true
      one_true true h = refl
      one_true false h = h
  path_at_tied (l ∷ m ∷ ls) (suc n) (z ∷ zs) e c fr = ((λ h t s. c.0 g h (tied h t) s), path_at_tied (m ∷ ls) n zs e c.1 (and_right (fresh l.number ρ) (are_fresh (numbers_of (m ∷ ls)) ρ) fr))
  path_at_tied ls n zs e c fr = absurd c

  pub steps_at_tied : (us : List Change) (cs : List ℕ) (zs : Gists) → ChangesKept w p ρ x cs zs us → are_fresh (level_numbers us) ρ ≡ true → StepsAt w p At x g (steps_of cs zs g) us
  steps_at_tied [] [] zs c fr = tt
  steps_at_tied [] (n ∷ ns) zs c fr = absurd c
  steps_at_tied (u ∷ us) [] zs c fr = absurd c
  steps_at_tied (u ∷ us) (n ∷ ns) zs c fr =
      let new = good_levels (λ n. fresh n ρ) u us fr in (
        subst (λ (l : Gists). PathAt w p At x g u.levels (all_here l g) (first_gist (drop n zs)) u.right) (take_less n zs)
            (subst (λ (r : Extent → Gist). PathAt w p At x g u.levels (all_here (take n (take (suc n) zs)) g) r u.right) (λ i. λ v. first_behind n zs v i)
            (path_at_tied u.levels n (take (suc n) zs) u.right c.0 new.0)),
        steps_at_tied us ns (drop (suc n) zs) c.1 new.1,
      )

one_fresh : (b : Bool) → b ≡ true → (b && true) ≡ true
one_fresh true h = refl
one_fresh false h = h

-- the job's EXCEPT
pub job_except : (w : ℕ) (p : Place) (cs : List ℕ) (x : List ℕ) (ps : List Bool) (kd : Kind) (js : List Kind) (z : Extent → Gist) (zs : Gists) (g : Extent) (F : Gist) → z g ≡ F →
    node_at w p (op.Except cs) (x ∷ []) ps kd js (z ∷ zs) g ≡ shaped p (steps_shape x g (steps_of cs zs g) F.shape) (either_rank (F.rank walked) (steps_rank x g (steps_of cs zs g) F.shape))
job_except w p cs x ps kd js z zs g F e =
    except_is w p cs x ps kd js z zs g
    ∙ ap (λ (y : Gist). shaped p (updated_shape x cs zs g y.shape) (either_rank (y.rank walked) (updates_rank x cs zs g y.shape))) e
    ∙ ap₂ (λ (a : Shape) (r : Option Rank). shaped p a (either_rank (F.rank walked) r)) (shape_of_steps x cs zs g F.shape) (rank_of_steps x cs zs g F.shape)

module _ (w : ℕ) (ρ : Numbering) (p : Place) (cs : List ℕ) (x : List ℕ) (ps : List Bool) (kd : Kind) (js : List Kind) (z : Extent → Gist) (zs : Gists) (f : Ker) (b : KeepsGist w ρ z f) where
  pub sizes_except : (a : Ty) (u : Change) (us : List Change) → are_fresh (level_numbers (u ∷ us)) ρ ≡ true → ChangesKept w p ρ x cs zs (u ∷ us) →
      KeepsGist w ρ (node_at w p (op.Except cs) (x ∷ []) ps kd js (z ∷ zs)) (changed p a f (u ∷ us))
  sizes_except a u us fr c g h t s =
      let ss : List Step = steps_of cs zs g in
      let r = all_kept w p x g (λ n. fresh n ρ) (TiedShapes ρ g) (λ n q b h t. tied_over (n ∷ []) (b ∷ []) ρ g h (one_fresh (fresh n ρ) q) t) u us ss
      (steps_at_tied w ρ p x g (TiedShapes ρ g) (λ h t. t) (u ∷ us) cs zs c fr) fr a f h t s in
      let A : Shape = (ker_gist w f h).shape in
      let Z : Option Rank = either_rank (walked_rank w f h) (steps_rank x g ss A) in
      job_except w p cs x ps kd js z zs g (ker_gist w f h) (b g h t r.sound)
      ∙ (λ i. record {
        shape = steps_shape x g ss A;
        literal = no_literal;
        rank = λ q. (ap (λ (o : Option Rank). either_rank o Z) r.number ∙ sym r.same ∙ ap (λ (o : Option Rank). either_rank o r.rank) (sym r.number)) i;
      })
      ∙ sym r.whole
