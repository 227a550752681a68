-- One tree more, one body more; a node from its children, where these have cells.
use Rattle.std.proofs.Common.{◌≡◌, ℕ, zero, suc, ◌<◌, ◌≤◌, ◌+◌, Bool, false, IsTrue, List, [], ◌∷◌, ◌++◌, take, zip, length, get_or, append_assoc, refl, sym, ◌∙◌, ap, subst, arith, Some}
use Rattle.sat_formula.specs.Formula.{Satisfies}
use Rattle.tla_meaning.specs.declared.job.State.{State}
use Rattle.tla_meaning.specs.Scopes.{Scope}
use Rattle.cell_arena.specs.declared.build.Build.{Build}
use Rattle.cell_arena.specs.declared.kinds.CellId.{CellId}
use Rattle.cell_arena.specs.Growth.{Grows}
use Rattle.cell_arena.proofs.Growing.{Satisfies-before}
use Rattle.kernel_trees.specs.declared.kernel.Ker.{Ker, out-Ker}
use Rattle.kernel_trees.specs.Trees.{ker_val}
use Rattle.kernel_trees.proofs.SoundTrees.{sound_step}
use Rattle.kernel_ranges.specs.Ranges.{is_within}
use Rattle.outcome_cells.specs.declared.cells.Cells.{Cells}
use Rattle.outcome_cells.specs.Shows.{Shows}
use Rattle.outcome_cells.proofs.Later.{AreCells-later, cells-there, width-later}
use Rattle.typed_cells.specs.KindSorts.{sort_of}
use Rattle.expr_rewriter.specs.declared.cell_env.CellEnv.{CellEnv}
use Rattle.expr_rewriter.specs.declared.settings.Setting.TheVariants.{Level}
use Rattle.expr_rewriter.specs.Environments.{AreThere, Fits}
use Rattle.expr_rewriter.specs.Operating.{AreParts, operands}
use Rattle.expr_rewriter.specs.Rewriting.{CanRewrite, HasTreeSort}
use Rattle.expr_rewriter.specs.inner.Parts.{AreTrees, CanJoin, CanRewriteAll, IsTree, Joins, PartsShow}
use Rattle.expr_rewriter.specs.inner.Settings.{setting_of}
use Rattle.expr_rewriter.proofs.Fitting.{Fits-before, Rewrites-later}
use Rattle.expr_rewriter.proofs.Opening.{can-later}

-- ---- lists

zip_next : (ns : List ℕ) (cs : List CellId) (i d : ℕ) (u : CellId) → length ns ≡ length cs → i < length ns →
    zip (take (suc i) ns) (take (suc i) cs) ≡ zip (take i ns) (take i cs) ++ (get_or ns i d, get_or cs i u) ∷ []
zip_next [] cs i d u h lt = absurd (omega arith)
zip_next (n ∷ ns) [] i d u h lt = absurd (cc)
zip_next (n ∷ ns) (c ∷ cs) zero d u h lt = refl
zip_next (n ∷ ns) (c ∷ cs) (suc i) d u h lt = ap (λ (l : List (ℕ × CellId)). (n, c) ∷ l) (zip_next ns cs i d u (omega arith) (omega arith))

zip_turn : (ns : List ℕ) (cs : List CellId) (i d : ℕ) (u : CellId) → length ns ≡ length cs → i < length ns →
    zip (take (i + 1) ns) (take (i + 1) cs) ≡ zip (take i ns) (take i cs) ++ (get_or ns i d, get_or cs i u) ∷ []
zip_turn ns cs i d u h lt = ap (λ (k : ℕ). zip (take k ns) (take k cs)) one ∙ zip_next ns cs i d u h lt
  where
    one : i + 1 ≡ suc i
    one = omega arith

pub zip_push : (made start : List (ℕ × CellId)) (ns : List ℕ) (cs : List CellId) (i d : ℕ) (u : CellId) → made ≡ start ++ zip (take i ns) (take i cs) →
    length ns ≡ length cs → i < length ns →
    made ++ (get_or ns i d, get_or cs i u) ∷ [] ≡ start ++ zip (take (i + 1) ns) (take (i + 1) cs)
zip_push made start ns cs i d u e h lt =
    ap (λ (l : List (ℕ × CellId)). l ++ (get_or ns i d, get_or cs i u) ∷ []) e
    ∙ append_assoc start (zip (take i ns) (take i cs)) ((get_or ns i d, get_or cs i u) ∷ [])
    ∙ ap (λ (l : List (ℕ × CellId)). start ++ l) (sym (zip_turn ns cs i d u h lt))

-- ---- growth

pub tree_there : (b0 b : Build) (k : Ker) (env : CellEnv) (x : Cells) → CanRewrite b0 k env → HasTreeSort b k x → x.cell.index < length b.arena.kinds
tree_there b0 b k env x c h =
    let z = sound_step c.names k c.context false c.sound in
    cells-there b (sort_of z.0) x (h z.0 z.1)

pub env_there : (b0 b : Build) (k : Ker) (env : CellEnv) → CanRewrite b0 k env → Grows b0 b → AreThere (length b.arena.kinds) env
env_there b0 b k env c g = (can-later b0 b k env g c).holds.there

pub sort_later : (b d : Build) (k : Ker) (x : Cells) → Grows b d → HasTreeSort b k x → HasTreeSort d k x
sort_later b d k x g h = λ a e. AreCells-later b d (sort_of a) x g (h a e)

pub tree_later : (b0 b d : Build) (k : Ker) (env : CellEnv) (x : Cells) → CanRewrite b0 k env → Grows b0 b → Grows b d → IsTree b k env x → IsTree d k env x
tree_later b0 b d k env x c g h t = record {
  sort = sort_later b d k x h t.sort;
  rewrites = Rewrites-later b d k env x h (env_there b0 b k env c g) (tree_there b0 b k env x c t.sort) t.rewrites;
}

pub trees_later : (b0 b d : Build) (env : CellEnv) (ks : List Ker) (xs : List Cells) → CanRewriteAll b0 env ks → Grows b0 b → Grows b d →
    AreTrees b env ks xs → AreTrees d env ks xs
trees_later b0 b d env [] [] c g h t = tt
trees_later b0 b d env [] (x ∷ xs) c g h t = absurd t
trees_later b0 b d env (k ∷ ks) [] c g h t = absurd t
trees_later b0 b d env (k ∷ ks) (x ∷ xs) c g h t = (tree_later b0 b d k env x c.0 g h t.0, trees_later b0 b d env ks xs c.1 g h t.1)

-- ---- several trees

can_front : (b : Build) (env : CellEnv) (ks : List Ker) (n i : ℕ) → i ≤ n → CanRewriteAll b env (take n ks) → CanRewriteAll b env (take i ks)
can_front b env ks n zero lt c = tt
can_front b env [] n (suc i) lt c = tt
can_front b env (k ∷ ks) zero (suc i) lt c = absurd (omega arith)
can_front b env (k ∷ ks) (suc n) (suc i) lt c = (c.0, can_front b env ks n i (omega arith) c.1)

can_here : (b : Build) (env : CellEnv) (ks : List Ker) (n i : ℕ) (d : Ker) → i < n → n ≤ length ks → CanRewriteAll b env (take n ks) → CanRewrite b (get_or ks i d) env
can_here b env [] n i d lt le c = absurd (omega arith)
can_here b env (k ∷ ks) zero i d lt le c = absurd (omega arith)
can_here b env (k ∷ ks) (suc n) zero d lt le c = c.0
can_here b env (k ∷ ks) (suc n) (suc i) d lt le c = can_here b env ks n i d (omega arith) (omega arith) c.1

pub can_at : (b0 b : Build) (env env' : CellEnv) (ks : List Ker) (n i : ℕ) (k : Ker) → i < n → n ≤ length ks → k ≡ get_or ks i k →
    CanRewriteAll b0 env (take n ks) → Grows b0 b → env' ≡ env → CanRewrite b k env'
can_at b0 b env env' ks n i k lt le e c g q =
    subst (CanRewrite b k) (sym q)
    (can-later b0 b k env g (subst (λ j. CanRewrite b0 j env) (sym e) (can_here b0 env ks n i k lt le c)))

push_tree : (b : Build) (env : CellEnv) (ks : List Ker) (xs : List Cells) (i : ℕ) (d : Ker) (x : Cells) → i < length ks →
    AreTrees b env (take i ks) xs → IsTree b (get_or ks i d) env x → AreTrees b env (take (suc i) ks) (xs ++ x ∷ [])
push_tree b env [] xs i d x lt t h = absurd (omega arith)
push_tree b env (k ∷ ks) [] zero d x lt t h = (h, tt)
push_tree b env (k ∷ ks) (y ∷ xs) zero d x lt t h = absurd t
push_tree b env (k ∷ ks) [] (suc i) d x lt t h = absurd t
push_tree b env (k ∷ ks) (y ∷ xs) (suc i) d x lt t h = (t.0, push_tree b env ks xs i d x (omega arith) t.1 h)

-- one more
pub trees_turn : (b0 b d : Build) (env env' : CellEnv) (ks : List Ker) (xs : List Cells) (n i : ℕ) (k : Ker) (x : Cells) → i < n → n ≤ length ks →
    k ≡ get_or ks i k → CanRewriteAll b0 env (take n ks) → Grows b0 b → Grows b d → env' ≡ env → AreTrees b env (take i ks) xs → IsTree d k env' x →
    AreTrees d env (take (i + 1) ks) (xs ++ x ∷ [])
trees_turn b0 b d env env' ks xs n i k x lt le e c g h q t u =
    subst (λ (m : ℕ). AreTrees d env (take m ks) (xs ++ x ∷ [])) one
    (push_tree d env ks xs i k x (omega arith)
    (trees_later b0 b d env (take i ks) xs (can_front b0 env ks n i (omega arith) c) g h t)
    (subst (λ j. IsTree d j env x) e (subst (λ v. IsTree d k v x) q u)))
  where
    one : suc i ≡ i + 1
    one = omega arith

-- the operands by another list
pub operands_can : (b : Build) (k : Ker) (env : CellEnv) (n : ℕ) (ks : List Ker) → ks ≡ (out-Ker k).args → take n (out-Ker k).args ≡ operands k →
    CanRewriteAll b env (operands k) → CanRewriteAll b env (take n ks)
operands_can b k env n ks p q c = subst (CanRewriteAll b env) (sym (ap (take n) p ∙ q)) c

pub operands_are : (b : Build) (k : Ker) (env : CellEnv) (n : ℕ) (ks : List Ker) (xs ys : List Cells) → ks ≡ (out-Ker k).args →
    take n (out-Ker k).args ≡ operands k → ys ≡ xs → AreTrees b env (take n ks) xs → AreTrees b env (operands k) ys
operands_are b k env n ks xs ys p q r t = subst (AreTrees b env (operands k)) (sym r) (subst (λ l. AreTrees b env l xs) (ap (take n) p ∙ q) t)

-- ---- a node whose children stand in its setting

pub are_parts : (b : Build) (env : CellEnv) (ks : List Ker) (xs : List Cells) → AreTrees b env ks xs → AreParts b ks xs
are_parts b env [] [] t = tt
are_parts b env [] (x ∷ xs) t = absurd t
are_parts b env (k ∷ ks) [] t = absurd t
are_parts b env (k ∷ ks) (x ∷ xs) t = (t.0.sort, are_parts b env ks xs t.1)

pub can_join : (b d : Build) (k : Ker) (env : CellEnv) (xs : List Cells) → CanRewrite b k env → setting_of (out-Ker k).op ≡ Level → Grows b d →
    AreTrees d env (operands k) xs → CanJoin d k xs
can_join b d k env xs c e g t = record {
  names = c.names;
  context = c.context;
  sound = c.sound;
  level = e;
  texts = (can-later b d k env g c).texts;
  parts = are_parts d env (operands k) xs t;
}

pub trees_show : (b : Build) (a : List Bool) (env : CellEnv) (sc : Scope) (s t : State) (ks : List Ker) (xs : List Cells) → Satisfies a b.formula →
    Fits b.arena a env sc s t → AreTrees b env ks xs → PartsShow b.arena a sc s t ks xs
trees_show b a env sc s t [] [] m f h = tt
trees_show b a env sc s t [] (x ∷ xs) m f h = absurd h
trees_show b a env sc s t (k ∷ ks) [] m f h = absurd h
trees_show b a env sc s t (k ∷ ks) (x ∷ xs) m f h =
    (λ w. h.0.rewrites.shows a m sc s t f w, trees_show b a env sc s t ks xs m f h.1)

pub joined_tree : (b0 b d : Build) (k : Ker) (env : CellEnv) (xs : List Cells) (r : Cells) → CanRewrite b0 k env → Grows b0 b → Grows b d →
    AreTrees b env (operands k) xs → HasTreeSort d k r → Joins b d k xs r → IsTree d k env r
joined_tree b0 b d k env xs r c g h t o j = record {
  sort = o;
  rewrites = record {
    shows = λ a m sc s t' f w.
        let e : d.arena.width ≡ b.arena.width = width-later b d h in
        let sat = Satisfies-before b d a h m in
        subst (λ n. Shows d.arena a r (ker_val (Some n) k sc s t')) (sym e)
        (j.shows a m sc s t' (subst (λ n. IsTrue (is_within (Some n) k sc s t')) e w)
        (trees_show b a env sc s t' (operands k) xs sat (Fits-before b d a env sc s t' h (env_there b0 b k env c g) f) t));
  };
}
