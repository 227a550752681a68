-- EXCEPT by a LET, in which all indexes are evaluated first, keeps shape, literal and refusal.
use Rattle.std.proofs.Common.{◌≡◌, ℕ, Bool, true, false, not, ◌&&◌, ◌||◌, List, [], ◌∷◌, ◌++◌, map, Option, Some, None, pos, refl, sym, ◌∙◌, ap, ap₂, subst, if◌then◌else◌}
use Rattle.std.specs.List.{list_all, list_any}
use Rattle.std.specs.Prelude.{nat_eq}
use Rattle.std.proofs.lemmas.List.{append_assoc}
use Rattle.tla_meaning.specs.declared.op.Op.TheVariants as op
use Rattle.tla_meaning.specs.declared.place.Place.{Place}
use Rattle.tla_meaning.specs.Scopes.{find_last}
use Rattle.tla_meaning.proofs.Views.{and_left, and_right, false≢true}
use Rattle.snowcat_rows.specs.declared.types.Ty.{Ty}
use Rattle.kernel_trees.specs.declared.kernel.Ker.{Ker, roll-Ker, out-Ker, roll-out-Ker}
use Rattle.kernel_trees.specs.declared.kernel.Ker.TheOpen.{Ker-F}
use Rattle.kernel_trees.specs.declared.kernel.KerOp.{KerOp}
use Rattle.kernel_trees.specs.declared.kernel.KerOp.TheVariants as ker
use Rattle.kernel_trees.specs.Trees.{names_of, number_name, op_of}
use Rattle.kernel_trees.specs.TypeKinds.{Kind}
use Rattle.kernel_shapes.specs.Shape.{Shape, Seq, Tup, Empty, shapes}
use Rattle.kernel_shapes.specs.Rows.{Literal, no_literal, number, applied_at, joined_at, shape_at as shape_at_path}
use Rattle.kernel_shapes.specs.Counts.{Rank, either_rank}
use Rattle.kernel_shapes.specs.Sized.{Extent, Sizing, walked, bind_shapes, family_literal}
use Rattle.kernel_shapes.specs.Trees.{family_with}
use Rattle.kernel_shapes.proofs.KernelNodes.{ker_sized-roll}
use Rattle.kernel_reduction.specs.Reduction.{Numbering, fresh, are_fresh}
use Rattle.kernel_reduction.specs.SizeLaws.{TiedShapes}
use Rattle.kernel_reduction.specs.Builds.{is_let, is_except_let}
use Rattle.kernel_reduction.specs.Fitting.{LetTypes, PairTypes}
use Rattle.kernel_reduction.specs.Rows.{pairs, item, bound, behind, operand_at, read_levels, read_changes, is_nil, is_literal, is_literal_op, place_of, type_of, Let, Level, Change, all_levels, all_plain, indexes, level_numbers, changed, except_by_let}
use Rattle.kernel_reduction.proofs.Ranks.{either_none, same_sum, nothing, one, both}
use Rattle.kernel_reduction.proofs.Tying.{not_true}
use Rattle.kernel_reduction.proofs.Gists.{Gist, own, ranks}
use Rattle.kernel_reduction.proofs.GistNodes.{Gists, node_at, ker_gist}
use Rattle.kernel_reduction.proofs.ShapeTies.{found_named, found_old, tied_over}
use Rattle.kernel_reduction.proofs.PartRoots.{numbers_of}
use Rattle.kernel_reduction.proofs.SizeFrame.{KeepsGist, IsSound, AllSound, children_sound, kers_here}
use Rattle.kernel_reduction.proofs.SizeLeaves.{walked_rank}
use Rattle.kernel_reduction.proofs.SizeLets.{item_gist, let_extent, let_gist, let_sound, pair_gist, read_gist}
use Rattle.kernel_reduction.proofs.SizePairs.{own_here}
use Rattle.kernel_reduction.proofs.SizeBinders.{shaped}
use Rattle.kernel_reduction.proofs.SizePaths.{literals}
use Rattle.kernel_reduction.proofs.SizeExcepts.{ChangesKept, Step, StepsAt, PathAt, IndexAt, all_kept, job_except, joined_by, right_of, steps_at_tied, steps_of, steps_rank, steps_shape}

-- ---- pairs

abbrev nested : List Shape → Shape
nested [] = Empty
nested (a ∷ []) = a
nested (a ∷ b ∷ as') = Tup (shapes (a ∷ nested (b ∷ as') ∷ []))

abbrev index_trees : List Level → List Ker
index_trees ls = map (λ l. l.index) ls

abbrev shapes_at : ℕ → List Ker → Extent → List Shape
shapes_at w ks h = map (λ a. a.shape) (kers_here w ks h)

pairs_shape : (w : ℕ) (p : Place) (t : Ty) (k : Ker) (ls : List Level) (h : Extent) → PairTypes t ls → (ker_gist w (pairs p t k ls) h).shape ≡ nested (shapes_at w (k ∷ index_trees ls) h)
pairs_shape w p t k [] h y = refl
pairs_shape w p t k (l ∷ ls) h y =
    ap (λ (a : Gist). a.shape) (pair_gist w p t k (pairs p l.rest l.index ls) h y.0)
    ∙ ap (λ (b : Shape). Tup (shapes ((ker_gist w k h).shape ∷ b ∷ []))) (pairs_shape w p l.rest l.index ls h y.1)

pairs_rank : (w : ℕ) (p : Place) (t : Ty) (k : Ker) (ls : List Level) (h : Extent) → PairTypes t ls → walked_rank w (pairs p t k ls) h ≡ ranks walked (kers_here w (k ∷ index_trees ls) h)
pairs_rank w p t k [] h y = sym (either_none (walked_rank w k h))
pairs_rank w p t k (l ∷ ls) h y =
    ap (λ (a : Gist). a.rank walked) (pair_gist w p t k (pairs p l.rest l.index ls) h y.0)
    ∙ ap (either_rank (walked_rank w k h)) (either_none (walked_rank w (pairs p l.rest l.index ls) h) ∙ pairs_rank w p l.rest l.index ls h y.1)

pairs_sound : (w : ℕ) (p : Place) (t : Ty) (k : Ker) (ls : List Level) (h : Extent) → IsSound w (pairs p t k ls) h → AllSound w (k ∷ index_trees ls) h
pairs_sound w p t k [] h s = (s, tt)
pairs_sound w p t k (l ∷ ls) h s =
    let q = children_sound w p t ker.TupOf (k ∷ pairs p l.rest l.index ls ∷ []) h refl s in
    (q.0, pairs_sound w p l.rest l.index ls h q.1.0)

-- ---- operands read from what is named

abbrev tail : List Shape → List Shape
tail [] = []
tail (a ∷ as') = as'

abbrev left_behind : List Ty → List Shape → List Shape
left_behind [] as' = as'
left_behind (r ∷ rs) as' = left_behind rs (tail as')

left_more : (rs : List Ty) (r : Ty) (as' : List Shape) → left_behind (rs ++ r ∷ []) as' ≡ tail (left_behind rs as')
left_more [] r as' = refl
left_more (q ∷ rs) r as' = left_more rs r (tail as')

left_none : (rs : List Ty) → left_behind rs [] ≡ []
left_none [] = refl
left_none (r ∷ rs) = left_none rs

some_none : {a : Shape} {as' : List Shape} → [] ≡ a ∷ as' → ⊥
some_none h = subst is_empty h tt
  where
    is_empty : List Shape → Type 0
    is_empty [] = Unit {0}
    is_empty (b ∷ bs) = ⊥

behind_gist : (w : ℕ) (q : Place) (h : Extent) (rs : List Ty) (y : Ker) (as' : List Shape) (a : Shape) (bs : List Shape) → ker_gist w y h ≡ shaped q (nested as') None → left_behind rs as' ≡ a ∷ bs →
    ker_gist w (behind q y rs) h ≡ shaped q (nested (a ∷ bs)) None
behind_gist w q h [] y as' a bs e f = e ∙ ap (λ (l : List Shape). shaped q (nested l) None) f
behind_gist w q h (r ∷ rs) y [] a bs e f = absurd (some_none (sym (left_none rs) ∙ f))
behind_gist w q h (r ∷ rs) y (c ∷ []) a bs e f = absurd (some_none (sym (left_none rs) ∙ f))
behind_gist w q h (r ∷ rs) y (c ∷ d ∷ as') a bs e f =
    behind_gist w q h rs (item q r 2 y) (d ∷ as') a bs
    (item_gist w q r 2 y h ∙ ap (λ (z : Gist). shaped q (applied_at z.shape (number (pos 2))) (either_rank (z.rank walked) None)) e) f

operand_gist : (w : ℕ) (l : Let) (t : Ty) (rs : List Ty) (last : Bool) (k : Ker) (h : Extent) (as' : List Shape) (a : Shape) (bs : List Shape) → find_last (number_name l.named) h.bound ≡ Some (nested as') →
    left_behind rs as' ≡ a ∷ bs → last ≡ is_nil bs → ker_gist w (operand_at l t rs last k) h ≡ shaped (place_of k) a None
operand_gist w l t rs true k h as' a [] e f g = behind_gist w (place_of k) h rs (bound (place_of k) t l.named) as' a [] (read_gist w (place_of k) t l.named h (nested as') e) f
operand_gist w l t rs true k h as' a (b ∷ bs) e f g = absurd (false≢true (sym g))
operand_gist w l t rs false k h as' a [] e f g = absurd (false≢true g)
operand_gist w l t rs false k h as' a (b ∷ bs) e f g =
    item_gist w (place_of k) (type_of k) 1 (behind (place_of k) (bound (place_of k) t l.named) rs) h
    ∙ ap (λ (z : Gist). shaped (place_of k) (applied_at z.shape (number (pos 1))) (either_rank (z.rank walked) None))
    (behind_gist w (place_of k) h rs (bound (place_of k) t l.named) as' a (b ∷ bs) (read_gist w (place_of k) t l.named h (nested as') e) f)

-- ---- what is read of an index

-- what is no constant is no literal
no_literal_of : (ko : KerOp) (n : ℕ) (k : Kind) (js : List Kind) (l : Literal) (ps : List Bool) → is_literal_op ko ≡ false → (v : _) → family_literal (family_with (op_of ko) n k js l ps) v ≡ no_literal
no_literal_of (ker.Const c) n k js l ps h v = absurd (false≢true (sym h))
no_literal_of ker.And n k js l ps h v = refl
no_literal_of ko n k js l ps h v = refl

literal_at : (w : ℕ) (x : Ker-F Ker) (h : Extent) → is_literal_op x.op ≡ false → (ker_gist w (roll-Ker x) h).literal ≡ no_literal
literal_at w x h q = ap (λ (z : Sizing). (z h).literal) (ker_sized-roll w x) ∙ no_literal_of x.op _ _ _ _ _ q _

literal_none : (w : ℕ) (k : Ker) (h : Extent) → is_literal k ≡ false → (ker_gist w k h).literal ≡ no_literal
literal_none w k h q = ap (λ (z : Ker). (ker_gist w z h).literal) (sym (roll-out-Ker k)) ∙ literal_at w (out-Ker k) h q

abbrev read_one : Bool → Ker → Gist → Gist
read_one b k i = if b then i else shaped (place_of k) i.shape None

abbrev read_all : List Level → List Gist → List Gist
read_all [] is = is
read_all (l ∷ ls) [] = []
read_all (l ∷ ls) (i ∷ is) = read_one (is_literal l.index) l.index i ∷ read_all ls is

abbrev read_steps : List Change → List Step → List Step
read_steps [] ss = ss
read_steps (u ∷ us) [] = []
read_steps (u ∷ us) (s ∷ ss) = (read_all u.levels s.0, s.1) ∷ read_steps us ss

-- ---- what reading adds

module _ (w : ℕ) (h : Extent) where
  abbrev IsHere : List Level → List Gist → Type 0
  IsHere [] [] = Unit {0}
  IsHere (l ∷ ls) (i ∷ is) = (i ≡ ker_gist w l.index h) × IsHere ls is
  IsHere [] (i ∷ is) = ⊥
  IsHere (l ∷ ls) [] = ⊥

  read_literal : (b : Bool) (k : Ker) (i : Gist) → is_literal k ≡ b → i ≡ ker_gist w k h → (read_one b k i).literal ≡ i.literal
  read_literal true k i q e = refl
  read_literal false k i q e = sym (ap (λ (y : Gist). y.literal) e ∙ literal_none w k h q)

  all_literals : (ls : List Level) (is : List Gist) → IsHere ls is → literals (read_all ls is) ≡ literals is
  all_literals [] is e = refl
  all_literals (l ∷ ls) (i ∷ is) e = ap₂ (λ (a : Literal) (as' : List Literal). a ∷ as') (read_literal (is_literal l.index) l.index i refl e.0) (all_literals ls is e.1)
  all_literals (l ∷ ls) [] e = absurd e

  read_rank : (b : Bool) (k : Ker) (i : Gist) → i ≡ ker_gist w k h → either_rank (i.rank walked) ((read_one b k i).rank walked) ≡ i.rank walked
  read_rank true k i e = same_sum (i.rank walked ∷ []) (both (one 0) (one 0)) (one 0) refl refl
  read_rank false k i e =
      same_sum (i.rank walked ∷ own (place_of k) i.shape ∷ []) (both (one 0) (both (one 1) nothing)) (both (one 1) (one 0)) refl refl
      ∙ ap (λ (y : Gist). either_rank (own (place_of k) y.shape) (y.rank walked)) e ∙ own_here w k h ∙ ap (λ (y : Gist). y.rank walked) (sym e)

  all_ranks : (ls : List Level) (is : List Gist) → IsHere ls is → either_rank (ranks walked is) (ranks walked (read_all ls is)) ≡ ranks walked is
  all_ranks [] [] e = refl
  all_ranks [] (i ∷ is) e = absurd e
  all_ranks (l ∷ ls) [] e = absurd e
  all_ranks (l ∷ ls) (i ∷ is) e =
      same_sum (i.rank walked ∷ ranks walked is ∷ (read_one (is_literal l.index) l.index i).rank walked ∷ ranks walked (read_all ls is) ∷ [])
      (both (both (one 0) (one 1)) (both (one 2) (one 3))) (both (both (one 0) (one 2)) (both (one 1) (one 3))) refl refl
      ∙ ap₂ either_rank (read_rank (is_literal l.index) l.index i e.0) (all_ranks ls is e.1)

  here_ranks : (ls : List Level) (is : List Gist) → IsHere ls is → ranks walked (kers_here w (index_trees ls) h) ≡ ranks walked is
  here_ranks [] [] e = refl
  here_ranks [] (i ∷ is) e = absurd e
  here_ranks (l ∷ ls) [] e = absurd e
  here_ranks (l ∷ ls) (i ∷ is) e = ap₂ (λ (a : Gist) (r : Option Rank). either_rank (a.rank walked) r) (sym e.0) (here_ranks ls is e.1)

  more_ranks : (ls ms : List Level) → ranks walked (kers_here w (index_trees (ls ++ ms)) h) ≡ either_rank (ranks walked (kers_here w (index_trees ls) h)) (ranks walked (kers_here w (index_trees ms) h))
  more_ranks [] ms = refl
  more_ranks (l ∷ ls) ms =
      ap (either_rank (walked_rank w l.index h)) (more_ranks ls ms)
      ∙ same_sum (walked_rank w l.index h ∷ ranks walked (kers_here w (index_trees ls) h) ∷ ranks walked (kers_here w (index_trees ms) h) ∷ [])
      (both (one 0) (both (one 1) (one 2))) (both (both (one 0) (one 1)) (one 2)) refl refl

  abbrev StepsHere : List Change → List Step → Type 0
  StepsHere [] [] = Unit {0}
  StepsHere (u ∷ us) (s ∷ ss) = IsHere u.levels s.0 × StepsHere us ss
  StepsHere [] (s ∷ ss) = ⊥
  StepsHere (u ∷ us) [] = ⊥

  -- a step by other literals
  abbrev joined_along : List ℕ → Extent → List Literal → Step → Shape → Shape
  joined_along x g l s a = joined_at l (s.1 (bind_shapes (x ∷ []) (shape_at_path a l ∷ []) g)).shape a

  same_shape : (x : List ℕ) (g : Extent) (us : List Change) (ss : List Step) → StepsHere us ss → (a : Shape) → steps_shape x g (read_steps us ss) a ≡ steps_shape x g ss a
  same_shape x g [] ss e a = refl
  same_shape x g (u ∷ us) [] e a = absurd e
  same_shape x g (u ∷ us) (s ∷ ss) e a =
      ap (λ (l : List Literal). steps_shape x g (read_steps us ss) (joined_along x g l s a)) (all_literals u.levels s.0 e.0) ∙ same_shape x g us ss e.1 (joined_by x g s a)

  same_ranks : (x : List ℕ) (g : Extent) (us : List Change) (ss : List Step) → StepsHere us ss → (a : Shape) →
      either_rank (ranks walked (kers_here w (index_trees (all_levels us)) h)) (steps_rank x g (read_steps us ss) a) ≡ steps_rank x g ss a
  same_ranks x g [] [] e a = refl
  same_ranks x g [] (s ∷ ss) e a = absurd e
  same_ranks x g (u ∷ us) [] e a = absurd e
  same_ranks x g (u ∷ us) (s ∷ ss) e a =
      let K : Option Rank = ranks walked (kers_here w (index_trees (all_levels us)) h) in
      let V : Shape = joined_by x g s a in
      let U : Option Rank = steps_rank x g (read_steps us ss) V in
      let R : Option Rank = (right_of x g s a).rank walked in
      let I : Option Rank = ranks walked (read_all u.levels s.0) in
      ap (λ (o : Option Rank). either_rank o (steps_rank x g (read_steps (u ∷ us) (s ∷ ss)) a)) (more_ranks u.levels (all_levels us) ∙ ap (λ (o : Option Rank). either_rank o K) (here_ranks u.levels s.0 e.0))
      ∙ ap (λ (l : List Literal). either_rank (either_rank (ranks walked s.0) K) (either_rank I (either_rank ((s.1 (bind_shapes (x ∷ []) (shape_at_path a l ∷ []) g)).rank walked) (steps_rank x g (read_steps us ss) (joined_along x g l s a))))) (all_literals u.levels s.0 e.0)
      ∙ same_sum (ranks walked s.0 ∷ K ∷ I ∷ R ∷ U ∷ []) (both (both (one 0) (one 1)) (both (one 2) (both (one 3) (one 4)))) (both (both (one 0) (one 2)) (both (one 3) (both (one 1) (one 4)))) refl refl
      ∙ ap₂ (λ (o q : Option Rank). either_rank o (either_rank R q)) (all_ranks u.levels s.0 e.0) (same_ranks x g us ss e.1 V)

  -- where the indexes are sound
  path_here : (p : Place) (At : Extent → Type 0) (x : List ℕ) (g : Extent) (ls : List Level) (is : List Gist) (r : Extent → Gist) (k : Ker) → PathAt w p At x g ls is r k → At h → AllSound w (index_trees ls) h → IsHere ls is
  path_here p At x g (l ∷ []) (i ∷ []) r k c t s = (c.0 h t s.0, tt)
  path_here p At x g (l ∷ m ∷ ls) (i ∷ is) r k c t s = (c.0 h t s.0, path_here p At x g (m ∷ ls) is r k c.1 t s.1)
  path_here p At x g ls is r k c t s = absurd c

  sound_apart : (ls ms : List Level) → AllSound w (index_trees (ls ++ ms)) h → AllSound w (index_trees ls) h × AllSound w (index_trees ms) h
  sound_apart [] ms s = (tt, s)
  sound_apart (l ∷ ls) ms s = let r = sound_apart ls ms s.1 in ((s.0, r.0), r.1)

  steps_here : (p : Place) (At : Extent → Type 0) (x : List ℕ) (g : Extent) (us : List Change) (ss : List Step) → StepsAt w p At x g ss us → At h → AllSound w (index_trees (all_levels us)) h → StepsHere us ss
  steps_here p At x g [] [] c t s = tt
  steps_here p At x g [] (y ∷ ss) c t s = absurd c
  steps_here p At x g (u ∷ us) [] c t s = absurd c
  steps_here p At x g (u ∷ us) (y ∷ ss) c t s =
      let r = sound_apart u.levels (all_levels us) s in
      (path_here p At x g u.levels y.0 y.1 u.right c.0 t r.0, steps_here p At x g us ss c.1 t r.1)

-- ---- the levels as they are read

abbrev step_shapes : List Step → List Shape
step_shapes [] = []
step_shapes (s ∷ ss) = map (λ a. a.shape) s.0 ++ step_shapes ss

here_shapes : (w : ℕ) (h : Extent) (ls ms : List Level) (is : List Gist) (later : List Shape) → IsHere w h ls is → shapes_at w (index_trees ms) h ≡ later → shapes_at w (index_trees (ls ++ ms)) h ≡ map (λ a. a.shape) is ++ later
here_shapes w h [] ms [] later e q = q
here_shapes w h [] ms (i ∷ is) later e q = absurd e
here_shapes w h (l ∷ ls) ms [] later e q = absurd e
here_shapes w h (l ∷ ls) ms (i ∷ is) later e q = ap₂ (λ (a : Gist) (as' : List Shape). a.shape ∷ as') (sym e.0) (here_shapes w h ls ms is later e.1 q)

all_shapes : (w : ℕ) (h : Extent) (us : List Change) (ss : List Step) → StepsHere w h us ss → shapes_at w (index_trees (all_levels us)) h ≡ step_shapes ss
all_shapes w h [] [] e = refl
all_shapes w h [] (s ∷ ss) e = absurd e
all_shapes w h (u ∷ us) [] e = absurd e
all_shapes w h (u ∷ us) (s ∷ ss) e = here_shapes w h u.levels (all_levels us) s.0 (step_shapes ss) e.0 (all_shapes w h us ss e.1)

path_some : (w : ℕ) (p : Place) (At : Extent → Type 0) (x : List ℕ) (g : Extent) (ls : List Level) (is : List Gist) (r : Extent → Gist) (k : Ker) → PathAt w p At x g ls is r k → (later : List Shape) →
    is_nil (map (λ (a : Gist). a.shape) is ++ later) ≡ false
path_some w p At x g (l ∷ []) (i ∷ []) r k c later = refl
path_some w p At x g (l ∷ m ∷ ls) (i ∷ is) r k c later = refl
path_some w p At x g ls is r k c later = absurd c

steps_nil : (w : ℕ) (p : Place) (At : Extent → Type 0) (x : List ℕ) (g : Extent) (us : List Change) (ss : List Step) → StepsAt w p At x g ss us → is_nil (step_shapes ss) ≡ is_nil us
steps_nil w p At x g [] [] c = refl
steps_nil w p At x g [] (s ∷ ss) c = absurd c
steps_nil w p At x g (u ∷ us) [] c = absurd c
steps_nil w p At x g (u ∷ us) (s ∷ ss) c = path_some w p At x g u.levels s.0 s.1 u.right c.0 (step_shapes ss)

module _ (w : ℕ) (p : Place) (x : List ℕ) (g : Extent) (l : Let) (t : Ty) (all : List Shape) (At : Extent → Type 0) (named : (h : Extent) → At h → find_last (number_name l.named) h.bound ≡ Some (nested all)) where
  one_read : (b : Bool) (k : Ker) (i : Gist) (rs : List Ty) (last : Bool) (later : List Shape) → IndexAt w At i k → left_behind rs all ≡ i.shape ∷ later → last ≡ is_nil later →
      IndexAt w At (read_one b k i) (if b then k else operand_at l t rs last k)
  one_read true k i rs last later c e q h m s = c h m s
  one_read false k i rs last later c e q h m s = sym (operand_gist w l t rs last k h all i.shape later (named h m) e q)

  read_path : (ls : List Level) (is : List Gist) (r : Extent → Gist) (k : Ker) (rs : List Ty) (more : Bool) (prev : Shape) (later : List Shape) → PathAt w p At x g ls is r k →
      left_behind rs all ≡ prev ∷ (map (λ a. a.shape) is ++ later) → not more ≡ is_nil later → PathAt w p At x g (read_levels l t rs more ls) (read_all ls is) r k
  read_path (y ∷ []) (i ∷ []) r k rs more prev later c e q =
      (one_read (is_literal y.index) y.index i (rs ++ y.rest ∷ []) (not more) later c.0 (left_more rs y.rest all ∙ ap tail e) q, c.1)
  read_path (y ∷ z ∷ ls) (i ∷ is) r k rs more prev later c e q = (
    one_read (is_literal y.index) y.index i (rs ++ y.rest ∷ []) false (map (λ a. a.shape) is ++ later) c.0 (left_more rs y.rest all ∙ ap tail e) (sym (path_some w p At x g (z ∷ ls) is r k c.1 later)),
    read_path (z ∷ ls) is r k (rs ++ y.rest ∷ []) more i.shape later c.1 (left_more rs y.rest all ∙ ap tail e) q,
  )
  read_path ls is r k rs more prev later c e q = absurd c

  rests : (ls : List Level) (is : List Gist) (r : Extent → Gist) (k : Ker) (rs : List Ty) (prev : Shape) (later : List Shape) → PathAt w p At x g ls is r k →
      left_behind rs all ≡ prev ∷ (map (λ a. a.shape) is ++ later) → (b : Shape) × (left_behind (rs ++ map (λ y. y.rest) ls) all ≡ b ∷ later)
  rests (y ∷ []) (i ∷ []) r k rs prev later c e = (i.shape, left_more rs y.rest all ∙ ap tail e)
  rests (y ∷ z ∷ ls) (i ∷ is) r k rs prev later c e =
      let q = rests (z ∷ ls) is r k (rs ++ y.rest ∷ []) i.shape later c.1 (left_more rs y.rest all ∙ ap tail e) in
      (q.0, ap (λ (l : List Ty). left_behind l all) (sym (append_assoc rs (y.rest ∷ []) (map (λ y. y.rest) (z ∷ ls)))) ∙ q.1)
  rests ls is r k rs prev later c e = absurd c

  read_steps_at : (us : List Change) (ss : List Step) (rs : List Ty) (prev : Shape) → StepsAt w p At x g ss us → left_behind rs all ≡ prev ∷ step_shapes ss →
      StepsAt w p At x g (read_steps us ss) (read_changes l t rs us)
  read_steps_at [] [] rs prev c e = tt
  read_steps_at [] (s ∷ ss) rs prev c e = absurd c
  read_steps_at (u ∷ us) [] rs prev c e = absurd c
  read_steps_at (u ∷ us) (s ∷ ss) rs prev c e =
      let q = rests u.levels s.0 s.1 u.right rs prev (step_shapes ss) c.0 e in (
        read_path u.levels s.0 s.1 u.right rs (not (is_nil us)) prev (step_shapes ss) c.0 e (twice_not (is_nil us) ∙ sym (steps_nil w p At x g us ss c.1)),
        read_steps_at us ss (rs ++ map (λ y. y.rest) u.levels) q.0 c.1 q.1,
      )
    where
      twice_not : (b : Bool) → not (not b) ≡ b
      twice_not true = refl
      twice_not false = refl

-- ---- the numbers of the levels

read_numbers : (l : Let) (t : Ty) (rs : List Ty) (more : Bool) (ls : List Level) → numbers_of (read_levels l t rs more ls) ≡ numbers_of ls
read_numbers l t rs more [] = refl
read_numbers l t rs more (y ∷ ls) = ap (λ (ns : List ℕ). y.number ∷ ns) (read_numbers l t (rs ++ y.rest ∷ []) more ls)

numbers_apart : (ls ms : List Level) → numbers_of (ls ++ ms) ≡ numbers_of ls ++ numbers_of ms
numbers_apart [] ms = refl
numbers_apart (l ∷ ls) ms = ap (λ (ns : List ℕ). l.number ∷ ns) (numbers_apart ls ms)

all_numbers : (l : Let) (t : Ty) (rs : List Ty) (us : List Change) → level_numbers (read_changes l t rs us) ≡ level_numbers us
all_numbers l t rs [] = refl
all_numbers l t rs (u ∷ us) =
    let ls : List Level = read_levels l t rs (not (is_nil us)) u.levels in
    let ts : List Ty = rs ++ map (λ y. y.rest) u.levels in
    numbers_apart ls (all_levels (read_changes l t ts us))
    ∙ ap₂ (λ (ms ns : List ℕ). ms ++ ns) (read_numbers l t rs (not (is_nil us)) u.levels) (all_numbers l t ts us)
    ∙ sym (numbers_apart u.levels (all_levels us))

all_good : (m : ℕ) (ρ : Numbering) (ns : List ℕ) → are_fresh ns ρ ≡ true → not (list_any (nat_eq m) ns) ≡ true → list_all (λ n. fresh n ρ && not (nat_eq m n)) ns ≡ true
all_good m ρ [] h q = refl
all_good m ρ (n ∷ ns) h q = by (nat_eq m n) (and_left (fresh n ρ) (are_fresh ns ρ) h) q (all_good m ρ ns (and_right (fresh n ρ) (are_fresh ns ρ) h))
  where
    by : (b : Bool) → fresh n ρ ≡ true → not (b || list_any (nat_eq m) ns) ≡ true → (not (list_any (nat_eq m) ns) ≡ true → list_all (λ n. fresh n ρ && not (nat_eq m n)) ns ≡ true) →
        ((fresh n ρ && not b) && list_all (λ n. fresh n ρ && not (nat_eq m n)) ns) ≡ true
    by true f q r = absurd (false≢true q)
    by false f q r = (λ i. (f i && true) && r q i)

one_true : (b : Bool) → b ≡ true → (b && true) ≡ true
one_true true h = refl
one_true false h = h

two_true : (a b : Bool) → a ≡ true → b ≡ true → (a && (b && true)) ≡ true
two_true true true h g = refl
two_true false b h g = h
two_true true false h g = g

let_rank : (a f k y o u v : Option Rank) → either_rank a y ≡ either_rank a (either_rank (either_rank o None) u) → either_rank o f ≡ f → either_rank k u ≡ v →
    either_rank a (either_rank f v) ≡ either_rank a (either_rank (either_rank f k) (either_rank a y))
let_rank a f k y o u v e q r =
    ap₂ (λ (x z : Option Rank). either_rank a (either_rank x z)) (sym q) (sym r)
    ∙ same_sum (a ∷ f ∷ k ∷ o ∷ u ∷ []) (both (one 0) (both (both (one 3) (one 1)) (both (one 2) (one 4)))) (both (both (both (one 3) (one 1)) (one 2)) (both (one 0) (both (both (one 3) nothing) (one 4)))) refl refl
    ∙ ap₂ (λ (x z : Option Rank). either_rank (either_rank x k) z) q (sym e)
    ∙ same_sum (a ∷ f ∷ k ∷ y ∷ []) (both (both (one 1) (one 2)) (both (one 0) (one 3))) (both (one 0) (both (both (one 1) (one 2)) (both (one 0) (one 3)))) refl refl

-- ---- extents below the LET

abbrev At : Numbering → Extent → Let → List Shape → Extent → Type 0
At ρ g l all h = TiedShapes ρ g h × (find_last (number_name l.named) h.bound ≡ Some (nested all))

more_at : (ρ : Numbering) (g : Extent) (l : Let) (all : List Shape) (n : ℕ) → (fresh n ρ && not (nat_eq l.named n)) ≡ true → (b : Shape) (h : Extent) → At ρ g l all h → At ρ g l all (bind_shapes (names_of (n ∷ [])) (b ∷ []) h)
more_at ρ g l all n q b h m = (
  tied_over (n ∷ []) (b ∷ []) ρ g h (one_true (fresh n ρ) (and_left (fresh n ρ) (not (nat_eq l.named n)) q)) m.0,
  found_old l.named n b h.bound (not_true (nat_eq l.named n) (and_right (fresh n ρ) (not (nat_eq l.named n)) q)) ∙ m.1,
)

-- ---- the row

module _ (w : ℕ) (ρ : Numbering) (p : Place) (cs : List ℕ) (x : List ℕ) (ps : List Bool) (kd : Kind) (js : List Kind) (z : Extent → Gist) (zs : Gists) (f : Ker) (b : KeepsGist w ρ z f) where
  pub sizes_except_let : (l : Let) (t : Ty) (us : List Change) → LetTypes l → PairTypes t (all_levels us) → is_except_let l (level_numbers us) ρ ≡ true → all_plain (indexes us) ≡ false →
      ChangesKept w p ρ x cs zs us → KeepsGist w ρ (node_at w p (op.Except cs) (x ∷ []) ps kd js (z ∷ zs)) (except_by_let p l t f us)
  sizes_except_let l t [] y pt q pl c g h tie s = absurd (false≢true (sym pl))
  sizes_except_let l t (u ∷ us) y pt q pl c g h tie s =
      let ns : List ℕ = level_numbers (u ∷ us) in
      let part = and_left (is_let l && are_fresh (l.unread ∷ l.named ∷ ns) ρ) (not (list_any (nat_eq l.named) ns)) q in
      let isl : is_let l ≡ true = and_left (is_let l) (are_fresh (l.unread ∷ l.named ∷ ns) ρ) part in
      let new = and_right (is_let l) (are_fresh (l.unread ∷ l.named ∷ ns) ρ) part in
      let rest = and_right (fresh l.unread ρ) (are_fresh (l.named ∷ ns) ρ) new in
      let fr : are_fresh ns ρ ≡ true = and_right (fresh l.named ρ) (are_fresh ns ρ) rest in
      let two : are_fresh (l.unread ∷ l.named ∷ []) ρ ≡ true = two_true (fresh l.unread ρ) (fresh l.named ρ) (and_left (fresh l.unread ρ) (are_fresh (l.named ∷ ns) ρ) new) (and_left (fresh l.named ρ) (are_fresh ns ρ) rest) in
      let good : ℕ → Bool = λ n. fresh n ρ && not (nat_eq l.named n) in
      let goods : list_all good ns ≡ true = all_good l.named ρ ns fr (and_right (is_let l && are_fresh (l.unread ∷ l.named ∷ ns) ρ) (not (list_any (nat_eq l.named) ns)) q) in
      let d : Ker = pairs p t f (all_levels (u ∷ us)) in
      let f' : Ker = operand_at l t [] false f in
      let body : Ker = changed p l.type f' (read_changes l t [] (u ∷ us)) in
      let sounds = let_sound w p l isl y.wholes y.items d body h s in
      let all_sound = pairs_sound w p t f (all_levels (u ∷ us)) h sounds.0 in
      let A : Shape = (ker_gist w f h).shape in
      let ss : List Step = steps_of cs zs g in
      let here = steps_here w h p (TiedShapes ρ g) x g (u ∷ us) ss (steps_at_tied w ρ p x g (TiedShapes ρ g) (λ h m. m) (u ∷ us) cs zs c fr) tie all_sound.1 in
      let all : List Shape = A ∷ step_shapes ss in
      let d_shape : (ker_gist w d h).shape ≡ nested all = pairs_shape w p t f (all_levels (u ∷ us)) h pt ∙ ap (λ (as' : List Shape). nested (A ∷ as')) (all_shapes w h (u ∷ us) ss here) in
      let h' : Extent = let_extent l (ker_gist w d h).shape h in
      let start : At ρ g l all h' = (
        tied_over (l.unread ∷ l.named ∷ []) (Seq 0 Empty ∷ (ker_gist w d h).shape ∷ []) ρ g h two tie,
        found_named l.unread l.named (Seq 0 Empty) (ker_gist w d h).shape h ∙ ap Some d_shape,
      ) in
      let at1 = steps_at_tied w ρ p x g (At ρ g l all) (λ h m. m.0) (u ∷ us) cs zs c fr in
      let at2 = read_steps_at w p x g l t all (At ρ g l all) (λ h m. m.1) (u ∷ us) ss [] A at1 refl in
      let r = all_kept w p x g good (At ρ g l all) (more_at ρ g l all) (record u { levels = read_levels l t [] (not (is_nil us)) u.levels }) (read_changes l t (map (λ y. y.rest) u.levels) us)
      (read_steps (u ∷ us) ss) at2 (ap (list_all good) (all_numbers l t [] (u ∷ us)) ∙ goods) l.type f' h' start sounds.1 in
      let f_gist : ker_gist w f' h' ≡ shaped (place_of f) A None = operand_gist w l t [] false f h' all A (step_shapes ss) start.1 refl (sym (steps_nil w p (At ρ g l all) x g (u ∷ us) ss at1)) in
      let S : Shape = steps_shape x g ss A in
      let U' : Option Rank = steps_rank x g (read_steps (u ∷ us) ss) A in
      let K : Option Rank = ranks walked (kers_here w (index_trees (all_levels (u ∷ us))) h) in
      let shape_is : (a : Shape) → a ≡ A → steps_shape x g (read_steps (u ∷ us) ss) a ≡ S = λ a e. ap (steps_shape x g (read_steps (u ∷ us) ss)) e ∙ same_shape w h x g (u ∷ us) ss here A in
      let A' : (ker_gist w f' h').shape ≡ A = ap (λ (v : Gist). v.shape) f_gist in
      let number : own p S ≡ own p A = ap (own p) (sym (shape_is (ker_gist w f' h').shape A')) ∙ r.number ∙ ap (own p) A' in
      let same : either_rank (own p A) r.rank ≡ either_rank (own p A) (either_rank (either_rank (own (place_of f) A) None) U') =
      ap (λ (v : Shape). either_rank (own p v) r.rank) (sym A') ∙ r.same
      ∙ ap (λ (v : Gist). either_rank (own p v.shape) (either_rank (v.rank walked) (steps_rank x g (read_steps (u ∷ us) ss) v.shape))) f_gist in
      job_except w p cs x ps kd js z zs g (ker_gist w f h) (b g h tie all_sound.0)
      ∙ (λ i. record {
        shape = S;
        literal = no_literal;
        rank = λ q. (ap (λ (o : Option Rank). either_rank o (either_rank (walked_rank w f h) (steps_rank x g ss A))) number
            ∙ let_rank (own p A) (walked_rank w f h) K r.rank (own (place_of f) A) U' (steps_rank x g ss A) same (own_here w f h) (same_ranks w h x g (u ∷ us) ss here A)
            ∙ ap (λ (o : Option Rank). either_rank o (either_rank (either_rank (walked_rank w f h) K) (either_rank o r.rank))) (sym number)) i;
      })
      ∙ ap (λ (o : Option Rank). shaped p S (either_rank o (either_rank (own p S) r.rank))) (sym (pairs_rank w p t f (all_levels (u ∷ us)) h pt))
      ∙ ap (λ (v : Gist). shaped p v.shape (either_rank (walked_rank w d h) (v.rank walked))) (sym (r.whole ∙ ap (λ (v : Shape). shaped p v r.rank) (shape_is (ker_gist w f' h').shape A')))
      ∙ sym (let_gist w p l isl y.wholes y.items d body h)
