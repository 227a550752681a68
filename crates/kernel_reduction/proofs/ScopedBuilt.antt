-- What is built with types binds no number again.
use Rattle.std.proofs.Common.{◌≡◌, ℕ, zero, suc, Bool, true, false, not, ◌&&◌, ◌||◌, List, [], ◌∷◌, ◌++◌, map, replicate, drop, length, refl, sym, ◌∙◌, ap, subst, Option}
use Rattle.std.specs.Prelude.{nat_eq}
use Rattle.std.specs.List.{list_all}
use Rattle.tla_values.specs.declared.value.Value.TheVariants as value
use Rattle.tla_meaning.specs.declared.actions.Assignable.{Assignable}
use Rattle.tla_meaning.specs.declared.expr.Expr.{Expr}
use Rattle.tla_meaning.specs.declared.op.Op.{Op}
use Rattle.tla_meaning.specs.declared.op.Op.TheVariants as op
use Rattle.tla_meaning.specs.declared.place.Place.{Place}
use Rattle.tla_meaning.specs.FreeNames.{marks, with_names}
use Rattle.tla_meaning.specs.Meaning.{role}
use Rattle.tla_meaning.specs.Scopes.{same_text}
use Rattle.tla_meaning.proofs.Views.{and_left, and_right, false≢true}
use Rattle.snowcat_rows.specs.declared.types.Ty.{Ty}
use Rattle.snowcat_rows.specs.declared.types.Ty.TheVariants as ty
use Rattle.snowcat_types.specs.TypeForms.{bool_type}
use Rattle.kernel_trees.specs.declared.kernel.Ker.{Ker}
use Rattle.kernel_trees.specs.declared.kernel.KerOp.{KerOp}
use Rattle.kernel_trees.specs.declared.kernel.KerOp.TheVariants as ker
use Rattle.kernel_trees.specs.Scoped.{Names, reads_in}
use Rattle.kernel_trees.specs.Trees.{number_name, names_of, op_of}
use Rattle.kernel_reduction.specs.Reduction.{Numbering, fresh, are_fresh, all_fresh}
use Rattle.kernel_reduction.specs.Infinite.{form_child}
use Rattle.kernel_reduction.specs.Whole.{nowhere, operand_count}
use Rattle.kernel_reduction.specs.Builds.{is_same, is_binder}
use Rattle.kernel_reduction.specs.BuildsTyped as typed
use Rattle.kernel_reduction.specs.BuildsTyped.{BuildsTyped, EachTyped, ArmsTyped, PathTyped, ChangesTyped, TypedNode}
use Rattle.kernel_reduction.specs.Making.{let_of, pairs_type}
use Rattle.kernel_reduction.specs.Rows.{tree, node, number, truth, pair, Let, single, named_first, named_second, is_plain, Level, Change, all_levels, indexes, all_plain, is_nil, read_levels, read_changes}
use Rattle.kernel_reduction.proofs.Tying.{not_true, names_apart}
use Rattle.kernel_reduction.proofs.KindTies.{apart_turned}
use Rattle.kernel_reduction.proofs.BuiltParts.{Fine, AllFine, NodeFine, fine_at, fine_take}
use Rattle.kernel_reduction.proofs.Lengths.{more_than, take_long, drop_long, sets_long, joined_long, fresh_long, none_long, some_long}
use Rattle.kernel_reduction.proofs.BuiltParts.{less}
use Rattle.kernel_reduction.proofs.NodeRows.{over_is}
use Rattle.kernel_reduction.proofs.ScopedMade.{In, AllIn, node_in, constant_in, bound_in, binder_in, fold_in, negation_in, implication_in, NewLet, inside, named_in, let_is_in, pair_in, item_in, or_true, first_in, second_in, equivalence_in, item_by_let_in, small_power_in, large_power_in, nested_in, guard_in, ArmsIn, split_in, Covers, cover_all, all_outside, all_differ}
use Rattle.kernel_reduction.proofs.PathNumbers.{under, new_front, new_behind, numbers_of, path_new, two_new}
use Rattle.kernel_reduction.proofs.ScopedExcepts.{one_in, PathIn, ChangesIn, changed_in, IndexesIn, indexes_plus, LiteralsIn, Readable, read_readable, indexes_of, plain_readable, first_plain, later_plain, PathCovers, covers_plain, covers_let, covers_more, covers_path, except_by_let_in}
use Rattle.kernel_reduction.proofs.LiteralScoped.{literal_scoped}

-- ---- rows that bind a number

finite_in : (p : Place) (k : Ker) (n : ℕ) (B : Names) → B (number_name n) ≡ false → In B k →
    In B (tree p ty.Bool ker.Every (k ∷ truth p ty.Bool true ∷ []) (n ∷ []))
finite_in p k n B u h =
    binder_in p ty.Bool ker.Every (k ∷ []) (truth p ty.Bool true) (n ∷ []) B refl refl refl (ap (λ z. not z && true) u) refl
    (h, tt) (constant_in p ty.Bool (value.Bool true) (with_names (names_of (n ∷ [])) B))

right_true : (a b : Bool) → b ≡ true → (a || b) ≡ true
right_true true b h = refl
right_true false b h = h

single_in : (p : Place) (l : Let) (t s : Ty) (z : ℕ) (k m : Ker) (B : Names) → NewLet l B → nat_eq l.unread z ≡ false →
    nat_eq l.named z ≡ false → B (number_name z) ≡ false → In B k → In B m → In B (single p l t s z k m)
single_in p l t s z k m B w u n f h g =
    let_is_in p l (pair p t k m) _ B w (pair_in p t k m B h g)
    (binder_in p l.type ker.FunOf (node p s ker.SetOf (named_first l t k ∷ []) ∷ []) (named_second l t m) (z ∷ []) (inside l B)
    refl refl refl
    (λ i. not ((names_apart z l.unread (apart_turned l.unread z u) i || (names_apart z l.named (apart_turned l.named z n) i || false)) || f i) && true)
    refl (node_in p s ker.SetOf (named_first l t k ∷ []) (inside l B) refl refl (first_in l t k (inside l B) (named_in l B), tt), tt)
    (second_in l t m (with_names (names_of (z ∷ [])) (inside l B))
    (right_true (same_text (number_name l.named) (number_name z) || false) (inside l B (number_name l.named)) (named_in l B))))

new_let : (A D : Ty) (u n : ℕ) (ρ : Numbering) (B : Names) → not (nat_eq u n) ≡ true → fresh u ρ ≡ true → fresh n ρ ≡ true →
    Covers ρ B → NewLet (let_of A D u n) B
new_let A D u n ρ B a f g c = record { apart = not_true (nat_eq u n) a; unread = c.new u f; named = c.new n g }

first_fresh : (u : ℕ) (ns : List ℕ) (ρ : Numbering) → are_fresh (u ∷ ns) ρ ≡ true → fresh u ρ ≡ true
first_fresh u ns ρ h = and_left (fresh u ρ) (are_fresh ns ρ) h

rest_fresh : (u : ℕ) (ns : List ℕ) (ρ : Numbering) → are_fresh (u ∷ ns) ρ ≡ true → are_fresh ns ρ ≡ true
rest_fresh u ns ρ h = and_right (fresh u ρ) (are_fresh ns ρ) h

-- ---- the same operator, binders

same_marks : (ko : KerOp) → is_same ko ≡ true → marks (role (op_of ko) 0) ≡ []
same_marks (ker.Const v) h = absurd (false≢true h)
same_marks ker.Filter h = absurd (false≢true h)
same_marks ker.MapOver h = absurd (false≢true h)
same_marks ker.FunOf h = absurd (false≢true h)
same_marks ker.Update h = absurd (false≢true h)
same_marks ker.FoldLeft h = absurd (false≢true h)
same_marks ker.Some h = absurd (false≢true h)
same_marks ker.Every h = absurd (false≢true h)
same_marks o h = refl

same_reads : (ko : KerOp) (B : Names) → is_same ko ≡ true → reads_in B ko ≡ true
same_reads (ker.Bound n) B h = absurd (false≢true h)
same_reads o B h = refl

binder_marks : (ko : KerOp) (n : ℕ) → is_binder ko ≡ true → marks (role (op_of ko) n) ≡ replicate n false ++ true ∷ []
binder_marks ker.Filter n h = refl
binder_marks ker.MapOver n h = refl
binder_marks ker.FunOf n h = refl
binder_marks ker.Some n h = refl
binder_marks ker.Every n h = refl
binder_marks o n h = absurd (false≢true h)

binder_reads : (ko : KerOp) (B : Names) → is_binder ko ≡ true → reads_in B ko ≡ true
binder_reads (ker.Bound n) B h = absurd (false≢true h)
binder_reads o B h = refl

long_names : (ns : List ℕ) → length (names_of ns) ≡ length ns
long_names [] = refl
long_names (n ∷ ns) = ap suc (long_names ns)

alone : (bs : List Ker) (C : Names) → length bs ≡ 1 → AllIn C bs → (e : Ker) × (bs ≡ e ∷ []) × In C e
alone [] C l h = absurd (none_long 0 l)
alone (e ∷ []) C l h = (e, refl, h.0)
alone (e ∷ k ∷ ks) C l h = absurd (some_long (length ks) (less (suc (length ks)) 0 l))

binder_scoped : (p : Place) (t : Ty) (ko : KerOp) (ks bs : List Ker) (xs : List (List ℕ)) (ns : List ℕ) (ρ : Numbering)
    (B : Names) → is_binder ko ≡ true → all_fresh xs ns ρ ≡ true → Covers ρ B → length ks ≡ length xs → length bs ≡ 1 →
    AllIn B ks → AllIn (with_names (names_of ns) B) bs → In B (tree p t ko (ks ++ bs) ns)
binder_scoped p t ko ks bs xs ns ρ B i f c l o h g =
    let e = alone bs (with_names (names_of ns) B) o g in
    subst (λ z. In B (tree p t ko (ks ++ z) ns)) (sym e.1)
    (binder_in p t ko ks e.0 ns B (binder_marks ko (length (names_of ns)) i) (binder_reads ko B i) (all_differ xs ns ρ f)
    (all_outside xs ns ρ ρ B f (λ m q. q) c) (long_names ns ∙ fresh_long xs ns ρ f ∙ sym l) h e.2)

fold_scoped : (p : Place) (t : Ty) (ks bs : List Ker) (xs : List (List ℕ)) (ns : List ℕ) (ρ : Numbering) (B : Names) →
    all_fresh xs ns ρ ≡ true → Covers ρ B → length bs ≡ 1 → AllIn B ks → AllIn (with_names (names_of ns) B) bs →
    In B (tree p t ker.FoldLeft (bs ++ ks) ns)
fold_scoped p t ks bs xs ns ρ B f c o h g =
    let e = alone bs (with_names (names_of ns) B) o g in
    subst (λ z. In B (tree p t ker.FoldLeft (z ++ ks) ns)) (sym e.1)
    (fold_in p t e.0 ks ns B (all_differ xs ns ρ f) (all_outside xs ns ρ ρ B f (λ m q. q) c) h e.2)

over_count : (ko : KerOp) (o : Op) (xs : List (List ℕ)) (n : ℕ) → is_binder ko ≡ true → op_of ko ≡ o →
    more_than (length xs) 1 ≡ operand_count o xs n
over_count ko o xs n i e =
    sym (ap (λ z. more_than z 1) (sets_long (λ k. bool_type) 0 (length xs)))
    ∙ sym (joined_long _ _)
    ∙ sym (ap (λ z. length z.operands) (over_is nowhere ko xs n (λ k. bool_type) i))
    ∙ ap (λ z. operand_count z xs n) e

each_long : {i : Option Assignable} {ρ : Numbering} {es : List Expr} {ts : List Ty} {ks : List Ker} {us : List Ty} →
    EachTyped i ρ es ts ks us → length ks ≡ length es
each_long (typed.none_left i ρ ts) = refl
each_long (typed.one_more i ρ e k es ks ts us vs d ds) = ap suc (each_long ds)

-- ---- paths of an EXCEPT

path_literals : {ρ : Numbering} {x ns : List ℕ} {n : ℕ} {es : List Expr} {ts : List Ty} {ls : List Level} {k : Ker}
    {us : List Ty} → PathTyped ρ x ns n es ts ls k us → LiteralsIn ls
path_literals (typed.right_side ρ x ns e k ts us f d) = tt
path_literals (typed.one_level ρ x ns n e es l ls k ts us vs d1 d2) = (λ h C. literal_scoped d1 h C, path_literals d2)

-- a path has a level
tail_plain : {ρ : Numbering} {x ns : List ℕ} {n : ℕ} {es : List Expr} {ts : List Ty} {ls : List Level} {k : Ker}
    {us : List Ty} → PathTyped ρ x ns (suc n) es ts ls k us → (ms : List Level) →
    all_plain (indexes_of (ls ++ ms)) ≡ true →
    (all_plain (indexes_of ls) ≡ true) × (list_all is_plain (indexes_of ms) ≡ true)
tail_plain (typed.one_level ρ x ns n e es l ls k ts us vs d1 d2) ms h = first_plain l ls ms h

next_new : {ρ : Numbering} {x : List ℕ} {n : ℕ} {es : List Expr} {ts : List Ty} {ls : List Level} {k : Ker}
    {us : List Ty} (ns : List ℕ) (m : ℕ) → PathTyped ρ x (ns ++ m ∷ []) n es ts ls k us → fresh m (under x ns ρ) ≡ true
next_new {ρ = ρ} {x = x} {ls = ls} ns m d =
    and_left (fresh m (under x ns ρ)) true
    (new_behind x ns (m ∷ []) ρ (new_front x (ns ++ m ∷ []) (numbers_of ls) ρ (path_new d)))

module _ (m : ℕ) where
  fine_dropped : (f : ℕ → Bool) (k n : ℕ) (es : List Expr) → AllFine m f n es → (j : ℕ) × AllFine m f j (drop k es)
  fine_dropped f zero n es h = (n, h)
  fine_dropped f (suc k) n [] h = (n, tt)
  fine_dropped f (suc k) n (e ∷ es) h = fine_dropped f k (suc n) es h.1

  mutual
    pub tree_scoped : {i : Option Assignable} {ρ : Numbering} {e : Expr} {ts : List Ty} {k : Ker} {us : List Ty} →
        BuildsTyped i ρ e ts k us → (B : Names) → Covers ρ B → (b : Bool) → Fine m b e → In B k
    tree_scoped (typed.at_node i ρ e t ts k us d) B c b f = node_scoped d B c b (fine_at m b e f)

    each_scoped : {i : Option Assignable} {ρ : Numbering} {es : List Expr} {ts : List Ty} {ks : List Ker} {us : List Ty} →
        EachTyped i ρ es ts ks us → (B : Names) → Covers ρ B → (f : ℕ → Bool) (n : ℕ) → AllFine m f n es → AllIn B ks
    each_scoped (typed.none_left i ρ ts) B c f n h = tt
    each_scoped (typed.one_more i ρ e k es ks ts us vs d ds) B c f n h =
        (tree_scoped d B c (f n) h.0, each_scoped ds B c f (suc n) h.1)

    arms_scoped : {a : Assignable} {ρ : Numbering} {es : List Expr} {ts : List Ty} {xs : List (Ker × Ker)}
        {o : Option Ker} {us : List Ty} → ArmsTyped a ρ es ts xs o us → (B : Names) → Covers ρ B → (f : ℕ → Bool) (n : ℕ) →
        AllFine m f n es → ArmsIn B xs o
    arms_scoped (typed.no_arms a ρ ts) B c f n h = tt
    arms_scoped (typed.other_arm a ρ e k ts us d) B c f n h = tree_scoped d B c (f n) h.0
    arms_scoped (typed.one_arm a ρ h e g k es xs o ts us vs ws d1 d2 d3) B c f n q =
        (tree_scoped d1 B c (f n) q.0, tree_scoped d2 B c (f (suc n)) q.1.0, arms_scoped d3 B c f (suc (suc n)) q.1.1)

    -- behind some levels, of which n is the last one's number; the levels of qs are those of ls with other indexes
    path_scoped : {ρ : Numbering} {x ms : List ℕ} {j : ℕ} {es : List Expr} {ts : List Ty} {ls : List Level} {k : Ker}
        {us : List Ty} → PathTyped ρ x ms j es ts ls k us → (qs : List Level) (y : List ℕ) → Readable y ls qs →
        (ns : List ℕ) (n : ℕ) → ms ≡ ns ++ n ∷ [] → (C : Names) → C y ≡ true → C (number_name n) ≡ true →
        PathCovers ρ (under x ms ρ) C → (f : ℕ → Bool) (i : ℕ) → AllFine m f i es → PathIn C qs k
    path_scoped (typed.right_side ρ x ms e k ts us f d) (q ∷ qs) y r ns n w C a b c g i h = absurd r
    path_scoped (typed.right_side ρ x ms e k ts us f d) [] y r ns n w C a b c g i h =
        tree_scoped d C
        (subst (λ z. Covers (under x z ρ) C) (sym w)
        (covers_path x ns n ρ C b (subst (λ z. PathCovers ρ (under x z ρ) C) w c))) (g i) h.0
    path_scoped (typed.one_level ρ x ms j e es l ls k ts us vs d1 d2) [] y r ns n w C a b c g i h = absurd r
    path_scoped (typed.one_level ρ x ms j e es l ls k ts us vs d1 d2) (q ∷ qs) y r ns n w C a b c g i h =
        let z : ℕ = l.number in
        let D : Names = with_names (names_of (z ∷ [])) C in
        let u =
        path_scoped d2 qs y r.2 ms z refl D (or_true (same_text y (number_name z) || false) (C y) a) (one_in z C)
        (covers_more x ms z ρ C c) g (suc i) h.1 in (
          r.1 C a,
          subst (λ v. C (number_name v) ≡ false) r.0 (c.new z (next_new ms z d2)),
          subst (λ v. PathIn (with_names (names_of (v ∷ [])) C) qs k) r.0 u,
        )

    path_indexes : {ρ : Numbering} {x ms : List ℕ} {j : ℕ} {es : List Expr} {ts : List Ty} {ls : List Level}
        {k : Ker} {us : List Ty} → PathTyped ρ x ms j es ts ls k us → (B : Names) → Covers ρ B → (f : ℕ → Bool)
        (i : ℕ) → AllFine m f i es → IndexesIn B ls
    path_indexes (typed.right_side ρ x ms e k ts us w d) B c f i h = tt
    path_indexes (typed.one_level ρ x ms j e es l ls k ts us vs d1 d2) B c f i h =
        (tree_scoped d1 B c (f i) h.0, path_indexes d2 B c f (suc i) h.1)

    -- where no index but the first can have a fault
    plain_scoped : {ρ : Numbering} {x ms : List ℕ} {j : ℕ} {es : List Expr} {ts : List Ty} {ls : List Level}
        {k : Ker} {us : List Ty} → PathTyped ρ x ms (suc j) es ts ls k us → all_plain (indexes_of ls) ≡ true →
        (B : Names) → Covers ρ B → PathCovers ρ (under x ms ρ) B → (f : ℕ → Bool) (i : ℕ) → AllFine m f i es →
        PathIn B ls k
    plain_scoped (typed.one_level ρ x ms j e es l ls k ts us vs d1 d2) p B c a f i h =
        let z : ℕ = l.number in
        let D : Names = with_names (names_of (z ∷ [])) B in (
          tree_scoped d1 B c (f i) h.0,
          a.new z (next_new ms z d2),
          path_scoped d2 ls (number_name z) (plain_readable (number_name z) ls p (path_literals d2)) ms z refl D
              (one_in z B) (one_in z B) (covers_more x ms z ρ B a) f (suc i) h.1,
        )

    plain_changes : {ρ : Numbering} {x : List ℕ} {u n : ℕ} {cs : List ℕ} {es : List Expr} {ts : List Ty}
        {ds : List Change} {us : List Ty} → ChangesTyped ρ x (u ∷ n ∷ []) cs es ts ds us →
        list_all is_plain (indexes ds) ≡ true → (B : Names) → Covers ρ B → (f : ℕ → Bool) (i : ℕ) → AllFine m f i es →
        ChangesIn B ds
    plain_changes (typed.no_changes _ _ _ ts) p B c f i h = tt
    plain_changes {ρ = ρ} {x = x} {u = u} {n = n} (typed.one_change _ _ _ j cs es d ds ts us vs d1 d2) p B c f i h =
        let q = later_plain d.levels (all_levels ds) p in
        let g = fine_dropped f (suc (suc j)) i es h in (
          plain_scoped d1 q.0 B c (covers_plain x u n ρ B c) f i (fine_take m f (suc (suc j)) i es h),
          plain_changes d2 q.1 B c f g.0 g.1,
        )

    first_changes : {ρ : Numbering} {x : List ℕ} {u n : ℕ} {cs : List ℕ} {es : List Expr} {ts : List Ty}
        {ds : List Change} {us : List Ty} → ChangesTyped ρ x (u ∷ n ∷ []) cs es ts ds us →
        all_plain (indexes ds) ≡ true → (B : Names) → Covers ρ B → (f : ℕ → Bool) (i : ℕ) → AllFine m f i es →
        ChangesIn B ds
    first_changes (typed.no_changes _ _ _ ts) p B c f i h = tt
    first_changes {ρ = ρ} {x = x} {u = u} {n = n} (typed.one_change _ _ _ j cs es d ds ts us vs d1 d2) p B c f i h =
        let q = tail_plain d1 (all_levels ds) p in
        let g = fine_dropped f (suc (suc j)) i es h in (
          plain_scoped d1 q.0 B c (covers_plain x u n ρ B c) f i (fine_take m f (suc (suc j)) i es h),
          plain_changes d2 q.1 B c f g.0 g.1,
        )

    -- where all indexes are read from the pairs of a LET
    read_scoped : {ρ : Numbering} {x : List ℕ} {u n : ℕ} {cs : List ℕ} {es : List Expr} {ts : List Ty}
        {ds : List Change} {us : List Ty} → ChangesTyped ρ x (u ∷ n ∷ []) cs es ts ds us → (A T : Ty)
        (rs : List Ty) (B : Names) → Covers ρ B → (f : ℕ → Bool) (i : ℕ) → AllFine m f i es →
        ChangesIn (inside (let_of A T u n) B) (read_changes (let_of A T u n) T rs ds)
    read_scoped (typed.no_changes _ _ _ ts) A T rs B c f i h = tt
    read_scoped {ρ = ρ} {x = x} {u = u} {n = n} (typed.one_change _ _ _ j cs es d ds ts us vs d1 d2) A T rs B c f i h =
        let l : Let = let_of A T u n in
        let more : Bool = not (is_nil ds) in
        let g = fine_dropped f (suc (suc j)) i es h in (
          path_scoped d1 (read_levels l T rs more d.levels) (number_name n)
              (read_readable l T rs more d.levels (path_literals d1)) (u ∷ []) n refl (inside l B) (named_in l B)
              (named_in l B)
              (covers_let x u n ρ B (new_front x (u ∷ n ∷ []) (numbers_of d.levels) ρ (path_new d1)) c) f i
              (fine_take m f (suc (suc j)) i es h),
          read_scoped d2 A T (rs ++ map (λ x. x.rest) d.levels) B c f g.0 g.1,
        )

    changes_indexes : {ρ : Numbering} {x ms : List ℕ} {cs : List ℕ} {es : List Expr} {ts : List Ty}
        {ds : List Change} {us : List Ty} → ChangesTyped ρ x ms cs es ts ds us → (B : Names) → Covers ρ B →
        (f : ℕ → Bool) (i : ℕ) → AllFine m f i es → IndexesIn B (all_levels ds)
    changes_indexes (typed.no_changes ρ x ms ts) B c f i h = tt
    changes_indexes (typed.one_change ρ x ms j cs es d ds ts us vs d1 d2) B c f i h =
        let g = fine_dropped f (suc (suc j)) i es h in
        indexes_plus B d.levels (all_levels ds) (path_indexes d1 B c f i (fine_take m f (suc (suc j)) i es h))
        (changes_indexes d2 B c f g.0 g.1)

    node_scoped : {i : Option Assignable} {ρ : Numbering} {p : Place} {t : Ty} {o : Op} {es : List Expr}
        {xs : List (List ℕ)} {ts : List Ty} {k : Ker} {us : List Ty} → TypedNode i ρ p t o es xs ts k us →
        (B : Names) → Covers ρ B → (b : Bool) → NodeFine m b o xs es → In B k
    node_scoped (typed.boolean ρ p t v xs ts) B c b f = constant_in p t (value.Bool v) B
    node_scoped (typed.integer ρ p t v xs ts) B c b f = constant_in p t (value.Int v) B
    node_scoped (typed.text ρ p t v xs ts) B c b f = constant_in p t (value.Text v) B
    node_scoped (typed.declared ρ p t i primed xs ts) B c b f = node_in p t (ker.Name i primed) [] B refl refl tt
    node_scoped (typed.bound_name ρ p t x n xs ts e) B c b f = bound_in p t n B (c.bound x n e)
    node_scoped (typed.same ρ p t o ko es xs ks ts us e i ch d) B c b f =
        node_in p t ko ks B (same_marks ko i) (same_reads ko B i) (each_scoped d B c (λ n. form_child o n b) 0 f.below)
    node_scoped (typed.range ρ p t es xs k l ts us d) B c b f =
        node_in p t ker.Range (k ∷ l ∷ []) B refl refl (each_scoped d B c (λ n. form_child op.Range n b) 0 f.below)
    node_scoped (typed.binder ρ p t o ko es xs ks bs ns ts us vs e i fr d1 d2) B c b f =
        let q = fine_dropped (λ n. form_child o n b) (length xs) 0 es f.below in
        let l = over_count ko o xs (length es) i e ∙ f.count in
        binder_scoped p t ko ks bs xs ns ρ B i fr c (each_long d1 ∙ sym (take_long (length xs) 1 es l))
        (each_long d2 ∙ sym (drop_long (length xs) 1 es l))
        (each_scoped d1 B c (λ n. form_child o n b) 0 (fine_take m (λ n. form_child o n b) (length xs) 0 es f.below))
        (each_scoped d2 (with_names (names_of ns) B) (cover_all xs ns ρ B fr c) (λ n. form_child o n b) q.0 q.1)
    node_scoped (typed.fold ρ p t es xs bs ks ns ts us vs fr d1 d2) B c b f =
        let g : ℕ → Bool = λ n. form_child op.Fold n b in
        let q = fine_dropped g 1 0 es f.below in
        fold_scoped p t ks bs xs ns ρ B fr c (each_long d1 ∙ sym (take_long 1 2 es f.count))
        (each_scoped d2 B c g q.0 q.1)
        (each_scoped d1 (with_names (names_of ns) B) (cover_all xs ns ρ B fr c) g 0 (fine_take m g 1 0 es f.below))
    node_scoped (typed.noted i ρ p t x es xs k ts us d) B c b f =
        (each_scoped d B c (λ n. form_child (op.Noted x) n b) 0 f.below).0
    node_scoped (typed.assign ρ p t es xs ks ts us d) B c b f =
        node_in p ty.Bool ker.Equal ks B refl refl (each_scoped d B c (λ n. form_child op.Assign n b) 0 f.below)
    node_scoped (typed.implies ρ p t es xs k l ts us d) B c b f =
        let h = each_scoped d B c (λ n. form_child op.Implies n b) 0 f.below in implication_in p ty.Bool k l B h.0 h.1.0
    node_scoped (typed.unequal ρ p t es xs ks ts us d) B c b f =
        negation_in p ty.Bool (node p ty.Bool ker.Equal ks) B
        (node_in p ty.Bool ker.Equal ks B refl refl (each_scoped d B c (λ n. form_child op.Ne n b) 0 f.below))
    node_scoped (typed.no_member ρ p t es xs ks ts us d) B c b f =
        negation_in p ty.Bool (node p ty.Bool ker.Member ks) B
        (node_in p ty.Bool ker.Member ks B refl refl (each_scoped d B c (λ n. form_child op.NotIn n b) 0 f.below))
    node_scoped (typed.greater ρ p t es xs k l ts us d) B c b f =
        let h = each_scoped d B c (λ n. form_child op.Gt n b) 0 f.below in
        node_in p ty.Bool ker.Less (l ∷ k ∷ []) B refl refl (h.1.0, (h.0, tt))
    node_scoped (typed.at_most ρ p t es xs k l ts us d) B c b f =
        let h = each_scoped d B c (λ n. form_child op.Le n b) 0 f.below in
        negation_in p ty.Bool (node p ty.Bool ker.Less (l ∷ k ∷ [])) B
        (node_in p ty.Bool ker.Less (l ∷ k ∷ []) B refl refl (h.1.0, (h.0, tt)))
    node_scoped (typed.at_least ρ p t es xs ks ts us d) B c b f =
        negation_in p ty.Bool (node p ty.Bool ker.Less ks) B
        (node_in p ty.Bool ker.Less ks B refl refl (each_scoped d B c (λ n. form_child op.Ge n b) 0 f.below))
    node_scoped (typed.negative ρ p t es xs k ts us d) B c b f =
        node_in p ty.Int ker.Minus (number p ty.Int 0 ∷ k ∷ []) B refl refl
        (constant_in p ty.Int _ B, each_scoped d B c (λ n. form_child op.Neg n b) 0 f.below)
    node_scoped (typed.finite ρ p t es xs k n ts us fr d) B c b f =
        finite_in p k n B (c.new n fr) (each_scoped d B c (λ n. form_child op.IsFinite n b) 0 f.below).0
    node_scoped (typed.truth_values ρ p t xs ts) B c b f =
        node_in p t ker.SetOf (truth p ty.Bool false ∷ truth p ty.Bool true ∷ []) B refl refl
        (constant_in p ty.Bool (value.Bool false) B, (constant_in p ty.Bool (value.Bool true) B, tt))
    node_scoped (typed.equivalent ρ p t es xs u n k l ts us a fr d) B c b f =
        let h = each_scoped d B c (λ n. form_child op.Iff n b) 0 f.below in
        equivalence_in p _ _ k l B
        (new_let _ _ u n ρ B a (first_fresh u (n ∷ []) ρ fr) (first_fresh n [] ρ (rest_fresh u (n ∷ []) ρ fr)) c) h.0 h.1.0
    node_scoped (typed.one_pair ρ p t es xs u n z k l ts us a fr y d) B c b f =
        let h = each_scoped d B c (λ n. form_child op.Single n b) 0 f.below in
        let g = rest_fresh u (n ∷ z ∷ []) ρ fr in
        single_in p _ _ _ z k l B (new_let _ _ u n ρ B a (first_fresh u (n ∷ z ∷ []) ρ fr) (first_fresh n (z ∷ []) ρ g) c)
        y.0 y.1 (c.new z (first_fresh z [] ρ (rest_fresh n (z ∷ []) ρ g))) h.0 h.1.0
    node_scoped (typed.power ρ p t es xs u n k l j ts us a fr e le d) B c b f =
        let h = each_scoped d B c (λ n. form_child op.Pow n b) 0 f.below in
        small_power_in p _ _ k j B
        (new_let _ _ u n ρ B a (first_fresh u (n ∷ []) ρ fr) (first_fresh n [] ρ (rest_fresh u (n ∷ []) ρ fr)) c) h.0
    node_scoped (typed.high_power ρ p t es xs u n k l j ts us a fr e le d) B c b f =
        let h = each_scoped d B c (λ n. form_child op.Pow n b) 0 f.below in
        large_power_in p _ _ _ k l j B
        (new_let _ _ u n ρ B a (first_fresh u (n ∷ []) ρ fr) (first_fresh n [] ρ (rest_fresh u (n ∷ []) ρ fr)) c) h.0 h.1.0
    node_scoped (typed.field ρ p t es xs k l x ts us r e d) B c b f =
        let h = each_scoped d B c (λ n. form_child op.Apply n b) 0 f.below in
        node_in p t (ker.FieldOf x) (k ∷ []) B refl refl (h.0, tt)
    node_scoped (typed.low_item ρ p t es xs k l j ts us r e le d) B c b f =
        let h = each_scoped d B c (λ n. form_child op.Apply n b) 0 f.below in item_in p t j k B h.0
    node_scoped (typed.high_item ρ p t es xs u n k l j ts us a fr r e le d) B c b f =
        let h = each_scoped d B c (λ n. form_child op.Apply n b) 0 f.below in
        item_by_let_in p _ _ j k l B
        (new_let _ _ u n ρ B a (first_fresh u (n ∷ []) ρ fr) (first_fresh n [] ρ (rest_fresh u (n ∷ []) ρ fr)) c) h.0 h.1.0
    node_scoped (typed.except ρ p t cs e es x u n g d ds ts us vs pl le d1 d2) B c b f =
        let h : ℕ → Bool = λ n. form_child (op.Except cs) n b in
        changed_in p t g (d ∷ ds) B (tree_scoped d1 B c (h 0) f.below.0) (first_changes d2 pl B c h 1 f.below.1)
    node_scoped (typed.except_let ρ p t cs e es x u n g [] ts us vs pl le re d1 d2) B c b f =
        absurd (false≢true (sym pl))
    node_scoped (typed.except_let ρ p t cs e es x u n g (d ∷ ds) ts us vs pl le re d1 d2) B c b f =
        let h : ℕ → Bool = λ n. form_child (op.Except cs) n b in
        let a : Ty = pairs_type g (all_levels (d ∷ ds)) in
        let w = two_new d2 in
        except_by_let_in p (let_of t a u n) a g (d ∷ ds) B
        (new_let t a u n ρ B (ap not w.apart) w.unread w.named c) (tree_scoped d1 B c (h 0) f.below.0)
        (changes_indexes d2 B c h 1 f.below.1) (read_scoped d2 t a [] B c h 1 f.below.1)
    node_scoped (typed.cases ρ p t other es xs ks ts us h d) B c b f =
        nested_in p t ks B (each_scoped d B c (λ n. form_child (op.Case other) n b) 0 f.below)
    node_scoped (typed.as_value a ρ p t o es xs k ts us e d) B c b f = node_scoped d B c b f
    node_scoped (typed.conjunction a ρ p t es xs ks ts us d) B c b f =
        node_in p ty.Bool ker.And ks B refl refl (each_scoped d B c (λ n. form_child op.And n b) 0 f.below)
    node_scoped (typed.disjunction a ρ p t es xs ks ts us d) B c b f =
        node_in p ty.Bool ker.Or ks B refl refl (each_scoped d B c (λ n. form_child op.Or n b) 0 f.below)
    node_scoped (typed.choice a ρ p t es xs ks bs ns ts us vs fr u d1 d2) B c b f =
        let g : ℕ → Bool = λ n. form_child op.Exists n b in
        let q = fine_dropped g (length xs) 0 es f.below in
        let l = over_count ker.Some op.Exists xs (length es) refl refl ∙ f.count in
        binder_scoped p ty.Bool ker.Some ks bs xs ns ρ B refl fr c (each_long d1 ∙ sym (take_long (length xs) 1 es l))
        (each_long d2 ∙ sym (drop_long (length xs) 1 es l))
        (each_scoped d1 B c g 0 (fine_take m g (length xs) 0 es f.below))
        (each_scoped d2 (with_names (names_of ns) B) (cover_all xs ns ρ B fr c) g q.0 q.1)
    node_scoped (typed.branches a ρ p t e es xs g k l ts us vs me d1 d2) B c b f =
        let h = each_scoped d2 B c (λ n. form_child op.If n b) 1 f.below.1 in
        node_in p ty.Bool ker.If _ B refl refl
        (guard_in p ty.Bool g B (tree_scoped d1 B c (form_child op.If 0 b) f.below.0), h)
    node_scoped (typed.split_cases a ρ p t other es xs ys o ts us me d) B c b f =
        split_in p ty.Bool ys o B (arms_scoped d B c (λ n. form_child (op.Case other) n b) 0 f.below)
