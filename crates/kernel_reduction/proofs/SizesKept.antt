-- What is built keeps shape, literal and refusal: one induction over the rows.
use Rattle.std.proofs.Common.{◌≡◌, ℕ, zero, suc, ◌≤◌, Bool, true, false, ◌||◌, List, [], ◌∷◌, ◌++◌, map, take, drop, length, refl, sym, ◌∙◌, ap, subst, Option, Some, None}
use Rattle.std.specs.List.{list_any}
use Rattle.tla_meaning.specs.declared.actions.Assignable.{Assignable}
use Rattle.tla_meaning.specs.declared.expr.Expr.{Expr, out-Expr, roll-out-Expr}
use Rattle.tla_meaning.specs.declared.expr.Expr.TheFolds.{fold-roll-Expr}
use Rattle.tla_meaning.specs.declared.expr.Expr.TheOpen.{Expr-F}
use Rattle.tla_meaning.specs.declared.op.Op.{Op}
use Rattle.tla_meaning.specs.declared.op.Op.TheVariants as op
use Rattle.tla_meaning.specs.declared.place.Place.{Place}
use Rattle.tla_meaning.proofs.Laws.{none≢some}
use Rattle.tla_meaning.proofs.Views.{and_left, and_right, false≢true}
use Rattle.snowcat_rows.specs.declared.types.Ty.{Ty}
use Rattle.kernel_trees.specs.declared.kernel.Ker.{Ker}
use Rattle.kernel_trees.specs.declared.kernel.KerOp.{KerOp}
use Rattle.kernel_trees.specs.declared.kernel.KerOp.TheVariants as ker
use Rattle.kernel_trees.specs.TypeKinds.{Kind}
use Rattle.kernel_shapes.specs.Sized.{Extent}
use Rattle.kernel_shapes.specs.Trees.{first_kind, is_part, is_except}
use Rattle.kernel_shapes.proofs.KernelNodes.{first_kinds}
use Rattle.kernel_shapes.proofs.TreeLemmas.{parts_of}
use Rattle.kernel_reduction.specs.JobPaths.{nodes}
use Rattle.kernel_reduction.specs.Reduction.{Numbering, are_fresh, fresh, numbered, mentioned, mentioned_at, any_mentioned}
use Rattle.kernel_reduction.specs.SizeLaws.{is_apart, KeepsPartSizes, KeepsSizes, KeepsTypedSizes}
use Rattle.kernel_reduction.specs.Laws.{IsSilent}
use Rattle.kernel_reduction.specs.Builds as rows
use Rattle.kernel_reduction.specs.Builds.{Builds, BuildsEach, BuildsNode, BuildsPath, BuildsChanges}
use Rattle.kernel_reduction.specs.Fitting.{the_kind, SameTable, Fitting, FittingEach, FittingPath, FittingChanges, FittingNode, behind}
use Rattle.kernel_reduction.specs.Rows.{node, tree, Level, Change, level_numbers}
use Rattle.kernel_reduction.proofs.Apart.{AllApart, NoneGoOn, apart_drop, apart_take, children_apart, no_parts, none_drop, none_take, rights_apart}
use Rattle.kernel_reduction.proofs.KindsAgreed.{rows_fit}
use Rattle.kernel_reduction.proofs.Gists.{Gist, NoParts}
use Rattle.kernel_reduction.proofs.GistNodes.{Gists, job_gist, job_gists, job_kinds, job_node, node_at}
use Rattle.kernel_reduction.proofs.SizeFrame.{KeepsGist, KeepsGists, SameRow, keeps_same, opened}
use Rattle.kernel_reduction.proofs.SizeRows.{sizes_boolean, sizes_integer, sizes_text, sizes_declared, sizes_bound, sizes_noted, sizes_assign, sizes_unequal, sizes_no_member, sizes_at_least, sizes_greater, sizes_at_most, sizes_implies, sizes_negative, sizes_truth_values, sizes_cases}
use Rattle.kernel_reduction.proofs.SizeBinders.{sizes_binder, sizes_fold}
use Rattle.kernel_reduction.proofs.SizePairs.{sizes_equivalent, sizes_single, sizes_field, sizes_low_item, sizes_high_item, sizes_power, sizes_high_power}
use Rattle.kernel_reduction.proofs.SizeRest.{sizes_range, sizes_finite}
use Rattle.kernel_reduction.proofs.SizeExcepts.{PathKept, ChangesKept, sizes_except}
use Rattle.kernel_reduction.proofs.SizeExceptLets.{sizes_except_let}
use Rattle.kernel_reduction.proofs.PartRoots.{right_apart, let_fresh, levels_fresh, numbers_of}

-- ---- in an action position, of trees that hold no name that may be assigned

abbrev SilentEach : Option Assignable → List Expr → Type 0
SilentEach None es = Unit {0}
SilentEach (Some m) es = any_mentioned m es ≡ false

abbrev SilentNode : Option Assignable → Op → List Expr → Type 0
SilentNode None o es = Unit {0}
SilentNode (Some m) o es = mentioned_at m o (map (mentioned m) es) ≡ false

pub mentioned_out : (m : Assignable) (e : Expr) → mentioned m e ≡ mentioned_at m (out-Expr e).op (map (mentioned m) (out-Expr e).args)
unfolding mentioned
mentioned_out m e = ap (mentioned m) (sym (roll-out-Expr e)) ∙ fold-roll-Expr Bool (λ x. mentioned_at m x.op x.args) (out-Expr e)

pub any_map : (m : Assignable) (es : List Expr) → list_any (λ b. b) (map (mentioned m) es) ≡ any_mentioned m es
any_map m [] = refl
any_map m (e ∷ es) = ap (λ b. mentioned m e || b) (any_map m es)

or_left_false : (a b : Bool) → (a || b) ≡ false → a ≡ false
or_left_false true b h = h
or_left_false false b h = refl

or_right_false : (a b : Bool) → (a || b) ≡ false → b ≡ false
or_right_false true b h = absurd (false≢true (sym h))
or_right_false false b h = h

silent_drop : (m : Assignable) (n : ℕ) (es : List Expr) → any_mentioned m es ≡ false → any_mentioned m (drop n es) ≡ false
silent_drop m zero es h = h
silent_drop m (suc n) [] h = h
silent_drop m (suc n) (e ∷ es) h = silent_drop m n es (or_right_false (mentioned m e) (any_mentioned m es) h)

silent_out : (i : Option Assignable) (e : Expr) → IsSilent i e → SilentNode i (out-Expr e).op (out-Expr e).args
silent_out None e h = tt
silent_out (Some m) e h = sym (mentioned_out m e) ∙ h

silent_noted : (i : Option Assignable) (x : List ℕ) (es : List Expr) → SilentNode i (op.Noted x) es → SilentEach i es
silent_noted None x es h = tt
silent_noted (Some m) x es h = sym (any_map m es) ∙ h

silent_first : (i : Option Assignable) (e : Expr) (es : List Expr) → SilentEach i (e ∷ es) → IsSilent i e
silent_first None e es h = tt
silent_first (Some m) e es h = or_left_false (mentioned m e) (any_mentioned m es) h

silent_rest : (i : Option Assignable) (e : Expr) (es : List Expr) → SilentEach i (e ∷ es) → SilentEach i es
silent_rest None e es h = tt
silent_rest (Some m) e es h = or_right_false (mentioned m e) (any_mentioned m es) h

loud : {X : Type 0} (m : Assignable) (es : List Expr) → any_mentioned m es ≡ true → list_any (λ b. b) (map (mentioned m) es) ≡ false → X
loud m es h g = absurd (false≢true (sym g ∙ any_map m es ∙ h))

-- ---- parts of lists of children

front_gists : (w n : ℕ) (es : List Expr) (ks : List Kind) → take n (job_gists w es ks) ≡ job_gists w (take n es) ks
front_gists w zero es ks = refl
front_gists w (suc n) [] ks = refl
front_gists w (suc n) (e ∷ es) ks = ap (λ (l : Gists). job_gist w e (take (nodes e) ks) ∷ l) (front_gists w n es (drop (nodes e) ks))

rest_gists : (w n : ℕ) (es : List Expr) (ks : List Kind) → drop n (job_gists w es ks) ≡ job_gists w (drop n es) (behind n es ks)
rest_gists w zero es ks = refl
rest_gists w (suc n) [] ks = refl
rest_gists w (suc n) (e ∷ es) ks = rest_gists w n es (drop (nodes e) ks)

front_kept : (w : ℕ) (ρ : Numbering) (n : ℕ) (es : List Expr) (ks : List Kind) (kers : List Ker) → KeepsGists w ρ (job_gists w (take n es) ks) kers → KeepsGists w ρ (take n (job_gists w es ks)) kers
front_kept w ρ n es ks kers b = subst (λ (l : Gists). KeepsGists w ρ l kers) (sym (front_gists w n es ks)) b

rest_kept : (w : ℕ) (ρ : Numbering) (n : ℕ) (es : List Expr) (ks : List Kind) (kers : List Ker) → KeepsGists w ρ (job_gists w (drop n es) (behind n es ks)) kers → KeepsGists w ρ (drop n (job_gists w es ks)) kers
rest_kept w ρ n es ks kers b = subst (λ (l : Gists). KeepsGists w ρ l kers) (sym (rest_gists w n es ks)) b

-- ---- what the table reads of types

same_row : {i : Option Assignable} {ρ : Numbering} {es : List Expr} {kers : List Ker} (ko : KerOp) (p : Place) (a : Ty) (ks : List Kind) → BuildsEach i ρ es kers → SameTable ko a kers ks →
    SameRow ko (first_kind ks) (the_kind a) (job_kinds es (drop 1 ks)) (first_kinds (opened p a ko kers))
same_row ker.TupOf p a ks b h = h
same_row ker.SeqOf p a ks b h = h
same_row ker.Domain p a ks (rows.none_left _ _) h = refl
same_row ker.Domain p a ks (rows.one_more _ _ _ _ _ _ _ _) h = h
same_row ko p a ks b h = tt

drop_parts : (p : Place) (xs : List (List ℕ)) (es : List Expr) → NoParts (map (λ e. is_part p xs e) (drop 1 es)) → NoParts (drop 1 (map (λ e. is_part p xs e) es))
drop_parts p xs [] h = tt
drop_parts p xs (e ∷ es) h = h

module _ (w : ℕ) (wide : 2 ≤ w) where
  mutual
    pub sizes : (i : Option Assignable) (ρ : Numbering) (e : Expr) (k : Ker) (b : Builds i ρ e k) → IsSilent i e → (ks : List Kind) → Fitting b ks → is_apart e ≡ true →
        KeepsGist w ρ (job_gist w e ks) k
    sizes i ρ e k (rows.at_node _ _ _ _ b) q ks f a g h t s =
        let x : Expr-F Expr = out-Expr e in
        ap (λ (z : Expr). job_gist w z ks g) (sym (roll-out-Expr e))
        ∙ job_node w x ks g (λ r. drop_parts x.place x.binds x.args (no_parts x.place x.binds (drop 1 x.args) (rights_apart e a r)))
        ∙ sizes_node i ρ x.place x.op x.args x.binds k b (silent_out i e q) ks f (children_apart e a) (rights_apart e a) (parts_of x) g h t s

    pub sizes_each : (i : Option Assignable) (ρ : Numbering) (es : List Expr) (kers : List Ker) (b : BuildsEach i ρ es kers) → SilentEach i es → (ks : List Kind) → FittingEach b ks → AllApart es →
        KeepsGists w ρ (job_gists w es ks) kers
    sizes_each i ρ es kers (rows.none_left _ _) q ks f a = tt
    sizes_each i ρ es kers (rows.one_more _ _ e k fs ls b bs) q ks f a =
        (sizes i ρ e k b (silent_first i e fs q) (take (nodes e) ks) f.0 a.0, sizes_each i ρ fs ls bs (silent_rest i e fs q) (drop (nodes e) ks) f.1 a.1)

    sizes_node : (i : Option Assignable) (ρ : Numbering) (p : Place) (o : Op) (es : List Expr) (xs : List (List ℕ)) (k : Ker) (b : BuildsNode i ρ p o es xs k) → SilentNode i o es →
        (ks : List Kind) → FittingNode b ks → AllApart es → (is_except o ≡ true → NoneGoOn p xs (drop 1 es)) → (ps : List Bool) →
        KeepsGist w ρ (node_at w p o xs ps (first_kind ks) (job_kinds es (drop 1 ks)) (job_gists w es (drop 1 ks))) k
    sizes_node i ρ p o es xs k (rows.boolean _ _ b _ a) q ks f u v ps = sizes_boolean w ρ p xs ps (first_kind ks) [] a b
    sizes_node i ρ p o es xs k (rows.integer _ _ x _ a) q ks f u v ps = sizes_integer w ρ p xs ps (first_kind ks) [] a x
    sizes_node i ρ p o es xs k (rows.text _ _ x _ a) q ks f u v ps = sizes_text w ρ p xs ps (first_kind ks) [] a x
    sizes_node i ρ p o es xs k (rows.declared _ _ n primed _ _ a) q ks f u v ps = sizes_declared w ρ p xs ps (first_kind ks) (job_kinds es (drop 1 ks)) a n primed (job_gists w es (drop 1 ks))
    sizes_node i ρ p o es xs k (rows.bound_name _ _ x n _ a e) q ks f u v ps = sizes_bound w ρ p xs ps (first_kind ks) [] a x n e
    sizes_node i ρ p o es xs k (rows.same _ _ _ ko _ _ a kers e d b) q ks f u v ps =
        subst (λ (z : Op). KeepsGist w ρ (node_at w p z xs ps (first_kind ks) (job_kinds es (drop 1 ks)) (job_gists w es (drop 1 ks))) (node p a ko kers)) e
        (keeps_same w ρ p a ko xs ps (first_kind ks) (job_kinds es (drop 1 ks)) (job_gists w es (drop 1 ks)) kers d (same_row ko p a ks b f.0) (sizes_each None ρ es kers b tt (drop 1 ks) f.1 u))
    sizes_node i ρ p o es xs k (rows.range _ _ _ _ a x y b) q ks f u v ps =
        sizes_range w ρ p xs ps (first_kind ks) (job_kinds es (drop 1 ks)) (job_gists w es (drop 1 ks)) a x y (sizes_each None ρ es (x ∷ y ∷ []) b tt (drop 1 ks) f u)
    sizes_node i ρ p o es xs k (rows.binder _ _ _ ko _ _ a kers bs ns e d r b c) q ks f u v ps =
        subst (λ (z : Op). KeepsGist w ρ (node_at w p z xs ps (first_kind ks) (job_kinds es (drop 1 ks)) (job_gists w es (drop 1 ks))) (tree p a ko (kers ++ bs) ns)) e
        (sizes_binder w ρ p xs (job_gists w es (drop 1 ks)) kers bs ns r
        (front_kept w ρ (length xs) es (drop 1 ks) kers (sizes_each None ρ (take (length xs) es) kers b tt (drop 1 ks) f.0 (apart_take (length xs) es u)))
        (rest_kept w (numbered xs ns ρ) (length xs) es (drop 1 ks) bs (sizes_each None (numbered xs ns ρ) (drop (length xs) es) bs c tt (behind (length xs) es (drop 1 ks)) f.1 (apart_drop (length xs) es u)))
        ps (first_kind ks) (job_kinds es (drop 1 ks)) a ko d)
    sizes_node i ρ p o es xs k (rows.fold _ _ _ _ a bs kers ns r b c) q ks f u v ps =
        sizes_fold w ρ p xs ps (first_kind ks) (job_kinds es (drop 1 ks)) (job_gists w es (drop 1 ks)) kers bs ns a r
        (front_kept w (numbered xs ns ρ) 1 es (drop 1 ks) bs (sizes_each None (numbered xs ns ρ) (take 1 es) bs b tt (drop 1 ks) f.0 (apart_take 1 es u)))
        (rest_kept w ρ 1 es (drop 1 ks) kers (sizes_each None ρ (drop 1 es) kers c tt (behind 1 es (drop 1 ks)) f.1 (apart_drop 1 es u)))
    sizes_node i ρ p o es xs k (rows.noted _ _ _ x _ _ _ b) q ks f u v ps =
        sizes_noted w ρ p xs ps (first_kind ks) (job_kinds es (drop 1 ks)) (job_gists w es (drop 1 ks)) x k (sizes_each i ρ es (k ∷ []) b (silent_noted i x es q) (drop 1 ks) f u)
    sizes_node i ρ p o es xs k (rows.assign _ _ _ _ a kers b) q ks f u v ps =
        sizes_assign w ρ p xs ps (first_kind ks) (job_kinds es (drop 1 ks)) (job_gists w es (drop 1 ks)) kers (sizes_each None ρ es kers b tt (drop 1 ks) f u) a
    sizes_node i ρ p o es xs k (rows.implies _ _ _ _ a x y b) q ks f u v ps =
        sizes_implies w ρ p xs ps (first_kind ks) (job_kinds es (drop 1 ks)) (job_gists w es (drop 1 ks)) x y (sizes_each None ρ es (x ∷ y ∷ []) b tt (drop 1 ks) f u) a
    sizes_node i ρ p o es xs k (rows.unequal _ _ _ _ a kers b) q ks f u v ps =
        sizes_unequal w ρ p xs ps (first_kind ks) (job_kinds es (drop 1 ks)) (job_gists w es (drop 1 ks)) kers (sizes_each None ρ es kers b tt (drop 1 ks) f u) a
    sizes_node i ρ p o es xs k (rows.no_member _ _ _ _ a kers b) q ks f u v ps =
        sizes_no_member w ρ p xs ps (first_kind ks) (job_kinds es (drop 1 ks)) (job_gists w es (drop 1 ks)) kers (sizes_each None ρ es kers b tt (drop 1 ks) f u) a
    sizes_node i ρ p o es xs k (rows.greater _ _ _ _ a x y b) q ks f u v ps =
        sizes_greater w ρ p xs ps (first_kind ks) (job_kinds es (drop 1 ks)) (job_gists w es (drop 1 ks)) x y (sizes_each None ρ es (x ∷ y ∷ []) b tt (drop 1 ks) f u) a
    sizes_node i ρ p o es xs k (rows.at_most _ _ _ _ a x y b) q ks f u v ps =
        sizes_at_most w ρ p xs ps (first_kind ks) (job_kinds es (drop 1 ks)) (job_gists w es (drop 1 ks)) x y (sizes_each None ρ es (x ∷ y ∷ []) b tt (drop 1 ks) f u) a
    sizes_node i ρ p o es xs k (rows.at_least _ _ _ _ a kers b) q ks f u v ps =
        sizes_at_least w ρ p xs ps (first_kind ks) (job_kinds es (drop 1 ks)) (job_gists w es (drop 1 ks)) kers (sizes_each None ρ es kers b tt (drop 1 ks) f u) a
    sizes_node i ρ p o es xs k (rows.negative _ _ _ _ a kers b) q ks f u v ps =
        sizes_negative w wide ρ p xs ps (first_kind ks) (job_kinds es (drop 1 ks)) (job_gists w es (drop 1 ks)) kers (sizes_each None ρ es kers b tt (drop 1 ks) f u) a
    sizes_node i ρ p o es xs k (rows.finite _ _ _ _ a x n b) q ks f u v ps =
        sizes_finite w ρ p xs ps (first_kind ks) (job_kinds es (drop 1 ks)) (job_gists w es (drop 1 ks)) a x n (sizes_each None ρ es (x ∷ []) b tt (drop 1 ks) f u)
    sizes_node i ρ p o es xs k (rows.truth_values _ _ _ a d) q ks f u v ps = sizes_truth_values w wide ρ p xs ps (first_kind ks) [] a d
    sizes_node i ρ p o es xs k (rows.equivalent _ _ _ _ l t x y e b) q ks f u v ps =
        sizes_equivalent w ρ p xs ps (first_kind ks) (job_kinds es (drop 1 ks)) (job_gists w es (drop 1 ks)) x y (sizes_each None ρ es (x ∷ y ∷ []) b tt (drop 1 ks) f.1.1 u) l e f.0 t f.1.0
    sizes_node i ρ p o es xs k (rows.one_pair _ _ _ _ l t d z x y e r b) q ks f u v ps =
        sizes_single w ρ p xs ps (first_kind ks) (job_kinds es (drop 1 ks)) (job_gists w es (drop 1 ks)) x y (sizes_each None ρ es (x ∷ y ∷ []) b tt (drop 1 ks) f.1.1 u) l e f.0 t f.1.0 d z r
    sizes_node i ρ p o es xs k (rows.power _ _ _ _ l d x y n e r r' b) q ks f u v ps =
        sizes_power w wide ρ p xs ps (first_kind ks) (job_kinds es (drop 1 ks)) (job_gists w es (drop 1 ks)) x y (sizes_each None ρ es (x ∷ y ∷ []) b tt (drop 1 ks) f.1 u) l e f.0 n r d
    sizes_node i ρ p o es xs k (rows.high_power _ _ _ _ l t d x y n e r r' b) q ks f u v ps =
        sizes_high_power w wide ρ p xs ps (first_kind ks) (job_kinds es (drop 1 ks)) (job_gists w es (drop 1 ks)) x y (sizes_each None ρ es (x ∷ y ∷ []) b tt (drop 1 ks) f.1.1 u) l e f.0 n r t d f.1.0
    sizes_node i ρ p o es xs k (rows.field _ _ _ _ a x y z e b) q ks f u v ps =
        sizes_field w ρ p xs ps (first_kind ks) (job_kinds es (drop 1 ks)) (job_gists w es (drop 1 ks)) x y (sizes_each None ρ es (x ∷ y ∷ []) b tt (drop 1 ks) f u) a z e
    sizes_node i ρ p o es xs k (rows.low_item _ _ _ _ a x y n e r b) q ks f u v ps =
        sizes_low_item w ρ p xs ps (first_kind ks) (job_kinds es (drop 1 ks)) (job_gists w es (drop 1 ks)) x y (sizes_each None ρ es (x ∷ y ∷ []) b tt (drop 1 ks) f u) a n e
    sizes_node i ρ p o es xs k (rows.high_item _ _ _ _ l t x y n e r r' b) q ks f u v ps =
        sizes_high_item w ρ p xs ps (first_kind ks) (job_kinds es (drop 1 ks)) (job_gists w es (drop 1 ks)) x y (sizes_each None ρ es (x ∷ y ∷ []) b tt (drop 1 ks) f.1.1 u) l t n e f.0 f.1.0 r
    sizes_node i ρ p o es xs k (rows.except _ _ cs e fs x a d c us r fr b bs) q ks f u v ps =
        sizes_except w ρ p cs x ps (first_kind ks) (job_kinds es (drop 1 ks)) (job_gist w e (take (nodes e) (drop 1 ks))) (job_gists w fs (drop (nodes e) (drop 1 ks))) d
        (sizes None ρ e d b tt (take (nodes e) (drop 1 ks)) f.0 u.0) a c us fr
        (sizes_changes p ρ x cs fs (c ∷ us) bs (drop (nodes e) (drop 1 ks)) f.1 u.1 (v refl) fr)
    sizes_node i ρ p o es xs k (rows.except_let _ _ cs e fs x l t d us r pl b bs) q ks f u v ps =
        let fr : are_fresh (level_numbers us) ρ ≡ true = let_fresh l (level_numbers us) ρ r in
        sizes_except_let w ρ p cs x ps (first_kind ks) (job_kinds es (drop 1 ks)) (job_gist w e (take (nodes e) (drop 1 ks))) (job_gists w fs (drop (nodes e) (drop 1 ks))) d
        (sizes None ρ e d b tt (take (nodes e) (drop 1 ks)) f.1.1.0 u.0) l t us f.0 f.1.0 r pl
        (sizes_changes p ρ x cs fs us bs (drop (nodes e) (drop 1 ks)) f.1.1.1 u.1 (v refl) fr)
    sizes_node i ρ p o es xs k (rows.cases _ _ other _ _ a kers e b) q ks f u v ps =
        sizes_cases w ρ p other xs ps (first_kind ks) (job_kinds es (drop 1 ks)) (job_gists w es (drop 1 ks)) kers a e (sizes_each None ρ es kers b tt (drop 1 ks) f u)
    sizes_node i ρ p o es xs k (rows.as_value m _ _ _ _ _ _ e b) q ks f u v ps = sizes_node None ρ p o es xs k b tt ks f u v ps
    sizes_node i ρ p o es xs k (rows.conjunction m _ _ _ _ a kers b) q ks f u v ps =
        keeps_same w ρ p a ker.And xs ps (first_kind ks) (job_kinds es (drop 1 ks)) (job_gists w es (drop 1 ks)) kers refl tt (sizes_each (Some m) ρ es kers b (sym (any_map m es) ∙ q) (drop 1 ks) f u)
    sizes_node i ρ p o es xs k (rows.disjunction m _ _ _ _ a kers b) q ks f u v ps =
        keeps_same w ρ p a ker.Or xs ps (first_kind ks) (job_kinds es (drop 1 ks)) (job_gists w es (drop 1 ks)) kers refl tt (sizes_each (Some m) ρ es kers b (sym (any_map m es) ∙ q) (drop 1 ks) f u)
    sizes_node i ρ p o es xs k (rows.choice m _ _ _ _ a kers bs ns r b c) q ks f u v ps =
        sizes_binder w ρ p xs (job_gists w es (drop 1 ks)) kers bs ns r
        (front_kept w ρ (length xs) es (drop 1 ks) kers (sizes_each None ρ (take (length xs) es) kers b tt (drop 1 ks) f.0 (apart_take (length xs) es u)))
        (rest_kept w (numbered xs ns ρ) (length xs) es (drop 1 ks) bs (sizes_each (Some m) (numbered xs ns ρ) (drop (length xs) es) bs c (silent_drop m (length xs) es (sym (any_map m es) ∙ q)) (behind (length xs) es (drop 1 ks)) f.1 (apart_drop (length xs) es u)))
        ps (first_kind ks) (job_kinds es (drop 1 ks)) a ker.Some refl
    sizes_node i ρ p o es xs k (rows.branches m _ _ c cs _ a d g x y r b e) q ks f u v ps = loud m (c ∷ cs) r q
    sizes_node i ρ p o es xs k (rows.split_cases m _ _ other _ _ a ys z r b) q ks f u v ps = loud m es r q

    sizes_path : (p : Place) (ρ : Numbering) (x : List ℕ) (n : ℕ) (es : List Expr) (ls : List Level) (k : Ker) (b : BuildsPath ρ x n es ls k) → (ks : List Kind) → FittingPath b ks →
        AllApart es → NoneGoOn p (x ∷ []) es → are_fresh (numbers_of ls) ρ ≡ true → PathKept w p ρ x ls n (job_gists w es ks) k
    sizes_path p ρ x n es ls k (rows.last_level _ _ e d l _ b c) ks f u v r = (
      sizes None ρ e l.index b tt (take (nodes e) ks) f.0 u.0,
      (
        sizes None (numbered (x ∷ []) (l.number ∷ []) ρ) d k c tt (take (nodes d) (drop (nodes e) ks)) f.1 u.1.0,
        right_apart ρ x l.number d k p c (and_left (fresh l.number ρ) true r) v.1.0,
      ),
    )
    sizes_path p ρ x n es ls k (rows.one_level _ _ m e fs l y ys _ b c) ks f u v r = (
      sizes None ρ e l.index b tt (take (nodes e) ks) f.0 u.0,
      sizes_path p ρ x m fs (y ∷ ys) k c (drop (nodes e) ks) f.1 u.1 v.1 (and_right (fresh l.number ρ) (are_fresh (numbers_of (y ∷ ys)) ρ) r),
    )

    sizes_changes : (p : Place) (ρ : Numbering) (x : List ℕ) (ns : List ℕ) (es : List Expr) (us : List Change) (b : BuildsChanges ρ x ns es us) → (ks : List Kind) → FittingChanges b ks →
        AllApart es → NoneGoOn p (x ∷ []) es → are_fresh (level_numbers us) ρ ≡ true → ChangesKept w p ρ x ns (job_gists w es ks) us
    sizes_changes p ρ x ns es us (rows.no_changes _ _) ks f u v r = tt
    sizes_changes p ρ x ns es us (rows.one_change _ _ n ms _ c cs b d) ks f u v r =
        let fr = levels_fresh c cs ρ r in (
          subst (λ (l : Gists). PathKept w p ρ x c.levels n l c.right) (sym (front_gists w (suc n) es ks))
              (sizes_path p ρ x n (take (suc n) es) c.levels c.right b ks f.0 (apart_take (suc n) es u) (none_take p (x ∷ []) (suc n) es v) fr.0),
          subst (λ (l : Gists). ChangesKept w p ρ x ms l cs) (sym (rest_gists w (suc n) es ks))
              (sizes_changes p ρ x ms (drop (suc n) es) cs d (behind (suc n) es ks) f.1 (apart_drop (suc n) es u) (none_drop p (x ∷ []) (suc n) es v) fr.1),
        )

pub each_keeps_sizes : (w : ℕ) (i : Option Assignable) (ρ : Numbering) (e : Expr) (k : Ker) (ks : List Kind) (g h : Extent) → KeepsSizes w i ρ e k ks g h
each_keeps_sizes w i ρ e k ks g h wide q a b f t s =
    let r = sizes w wide i ρ e k b q ks f a g h t s in
    record { shape = ap (λ (y : Gist). y.shape) r; first = λ q. ap (λ (y : Gist). y.rank q) r }

pub each_part_keeps_sizes : (w : ℕ) (e : Expr) (k : Ker) (ks : List Kind) (g : Extent) → KeepsPartSizes w e k ks g
each_part_keeps_sizes w e k ks g wide a b f s =
    each_keeps_sizes w None [] e k ks g g wide tt a b f
    (record { now = refl; next = refl; bound = λ x n q. absurd (none≢some q) }) s

pub typed_keeps_sizes : (w : ℕ) (i : Option Assignable) (ρ : Numbering) (e : Expr) (k : Ker) (ts : List Ty) (g h : Extent) →
    KeepsTypedSizes w i ρ e k ts g h
typed_keeps_sizes w i ρ e k ts g h wide q a d has c types t s =
    let b = rows_fit i ρ e ts k [] d c types has in each_keeps_sizes w i ρ e k (map the_kind ts) g h wide q a b.0 b.1 t s
