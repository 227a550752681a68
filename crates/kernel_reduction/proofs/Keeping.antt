-- What is built keeps value and form: one induction over the rows.
use Rattle.std.proofs.Common.{◌≡◌, ℕ, Bool, true, false, ◌||◌, List, [], ◌∷◌, ◌++◌, map, take, drop, length, refl, sym, ◌∙◌, ap, subst, Option, Some, None, zero, suc}
use Rattle.std.specs.List.{list_any}
use Rattle.tla_meaning.specs.declared.actions.Assignable.{Assignable}
use Rattle.tla_meaning.specs.declared.expr.Expr.{Expr, out-Expr, roll-out-Expr}
use Rattle.tla_meaning.specs.declared.expr.Expr.TheFolds.{fold-roll-Expr}
use Rattle.tla_meaning.specs.declared.op.Op.{Op}
use Rattle.tla_meaning.specs.declared.op.Op.TheVariants as op
use Rattle.tla_meaning.specs.declared.place.Place.{Place}
use Rattle.tla_meaning.specs.Numbers.{Width}
use Rattle.tla_meaning.proofs.Views.{false≢true}
use Rattle.kernel_trees.specs.declared.kernel.Ker.{Ker}
use Rattle.kernel_trees.specs.declared.kernel.KerOp.TheVariants as ker
use Rattle.kernel_reduction.specs.Reduction.{Numbering, Keeps, is_wide, mentioned, mentioned_at, any_mentioned}
use Rattle.kernel_reduction.specs.Rows.{node, tree, Level, Change}
use Rattle.kernel_reduction.specs.Builds as rows
use Rattle.kernel_reduction.specs.Builds.{Builds, BuildsEach, BuildsNode, BuildsPath, BuildsChanges}
use Rattle.kernel_reduction.proofs.Frame.{KeepsNode, KeepsEach, keeps_opened}
use Rattle.kernel_reduction.proofs.Same.{keeps_same}
use Rattle.kernel_reduction.proofs.Binding.{keeps_boolean, keeps_integer, keeps_text, keeps_declared, keeps_bound, keeps_range, keeps_binder, keeps_fold}
use Rattle.kernel_reduction.proofs.Pairs.{keeps_equivalence, keeps_single, keeps_low_item, keeps_high_item, keeps_field}
use Rattle.kernel_reduction.proofs.PowerRows.{keeps_power, keeps_high_power}
use Rattle.kernel_reduction.proofs.ExceptRows.{KeepsPath, KeepsChanges, last_kept, level_kept, none_kept, change_kept, keeps_except, keeps_except_let}
use Rattle.kernel_reduction.proofs.Negations.{keeps_assign, keeps_unequal, keeps_no_member, keeps_greater, keeps_at_most, keeps_at_least, keeps_implies, keeps_negative, keeps_finite, keeps_truth_values, keeps_cases, keeps_noted}

-- ---- in an action position, of trees that hold no name that may be assigned

abbrev pub Silent : Option Assignable → Expr → Type 0
Silent None e = Unit {0}
Silent (Some m) e = mentioned m e ≡ false

abbrev pub SilentEach : Option Assignable → List Expr → Type 0
SilentEach None es = Unit {0}
SilentEach (Some m) es = any_mentioned m es ≡ false

abbrev pub SilentNode : Option Assignable → Op → List Expr → Type 0
SilentNode None o es = Unit {0}
SilentNode (Some m) o es = mentioned_at m o (map (mentioned m) es) ≡ false

pub mentioned-out : (m : Assignable) (e : Expr) →
    mentioned m e ≡ mentioned_at m (out-Expr e).op (map (mentioned m) (out-Expr e).args)
unfolding mentioned
mentioned-out m e = ap (mentioned m) (sym (roll-out-Expr e))
    ∙ fold-roll-Expr Bool (λ x. mentioned_at m x.op x.args) (out-Expr e)

any_map : (m : Assignable) (es : List Expr) → list_any (λ b. b) (map (mentioned m) es) ≡ any_mentioned m es
any_map m [] = refl
any_map m (e ∷ es) = ap (λ b. mentioned m e || b) (any_map m es)

or_left_false : (a b : Bool) → (a || b) ≡ false → a ≡ false
or_left_false true b h = h
or_left_false false b h = refl

or_right_false : (a b : Bool) → (a || b) ≡ false → b ≡ false
or_right_false true b h = absurd (false≢true (sym h))
or_right_false false b h = h

silent_drop : (m : Assignable) (n : ℕ) (es : List Expr) → any_mentioned m es ≡ false →
    any_mentioned m (drop n es) ≡ false
silent_drop m zero es h = h
silent_drop m (suc n) [] h = h
silent_drop m (suc n) (e ∷ es) h = silent_drop m n es (or_right_false (mentioned m e) (any_mentioned m es) h)

silent_out : (i : Option Assignable) (e : Expr) → Silent i e → SilentNode i (out-Expr e).op (out-Expr e).args
silent_out None e h = tt
silent_out (Some m) e h = sym (mentioned-out m e) ∙ h

silent_noted : (i : Option Assignable) (x : List ℕ) (es : List Expr) → SilentNode i (op.Noted x) es → SilentEach i es
silent_noted None x es h = tt
silent_noted (Some m) x es h = sym (any_map m es) ∙ h

silent_first : (i : Option Assignable) (e : Expr) (es : List Expr) → SilentEach i (e ∷ es) → Silent i e
silent_first None e es h = tt
silent_first (Some m) e es h = or_left_false (mentioned m e) (any_mentioned m es) h

silent_rest : (i : Option Assignable) (e : Expr) (es : List Expr) → SilentEach i (e ∷ es) → SilentEach i es
silent_rest None e es h = tt
silent_rest (Some m) e es h = or_right_false (mentioned m e) (any_mentioned m es) h

loud : {X : Type 0} (m : Assignable) (es : List Expr) → any_mentioned m es ≡ true →
    list_any (λ b. b) (map (mentioned m) es) ≡ false → X
loud m es h g = absurd (false≢true (sym g ∙ any_map m es ∙ h))

module _ (w : Width) (wide : is_wide w ≡ true) where
  mutual
    pub keeps : (i : Option Assignable) (ρ : Numbering) (e : Expr) (k : Ker) → Builds i ρ e k → Silent i e →
        Keeps w ρ e k
    keeps i ρ e k (rows.at_node _ _ _ _ b) q = keeps_opened w ρ e k (keeps_node i ρ _ _ _ _ k b (silent_out i e q))

    pub keeps_each : (i : Option Assignable) (ρ : Numbering) (es : List Expr) (ks : List Ker) → BuildsEach i ρ es ks →
        SilentEach i es → KeepsEach w ρ es ks
    keeps_each i ρ [] [] (rows.none_left _ _) q = tt
    keeps_each i ρ (e ∷ es) (k ∷ ks) (rows.one_more _ _ _ _ _ _ b bs) q =
        (keeps i ρ e k b (silent_first i e es q), keeps_each i ρ es ks bs (silent_rest i e es q))

    keeps_node : (i : Option Assignable) (ρ : Numbering) (p : Place) (o : Op) (es : List Expr) (xs : List (List ℕ))
        (k : Ker) →
        BuildsNode i ρ p o es xs k → SilentNode i o es → KeepsNode w ρ p o es xs k
    keeps_node i ρ p o es xs k (rows.boolean _ _ b _ a) q = keeps_boolean w ρ p [] xs a b
    keeps_node i ρ p o es xs k (rows.integer _ _ x _ a) q = keeps_integer w ρ p [] xs a x
    keeps_node i ρ p o es xs k (rows.text _ _ x _ a) q = keeps_text w ρ p [] xs a x
    keeps_node i ρ p o es xs k (rows.declared _ _ n primed _ _ a) q = keeps_declared w ρ p es xs a n primed
    keeps_node i ρ p o es xs k (rows.bound_name _ _ x n _ a f) q = keeps_bound w ρ p [] xs a x n f
    keeps_node i ρ p o es xs k (rows.same _ _ _ ko _ _ a ks f g b) q =
        subst (λ z. KeepsNode w ρ p z es xs (node p a ko ks)) f
        (keeps_same w ρ p es xs ks (keeps_each None ρ es ks b tt) a ko g)
    keeps_node i ρ p o es xs k (rows.range _ _ _ _ a x y b) q =
        keeps_range w ρ p es xs a x y (keeps_each None ρ es (x ∷ y ∷ []) b tt)
    keeps_node i ρ p o es xs k (rows.binder _ _ _ ko _ _ a ks bs ns f g h b c) q =
        subst (λ z. KeepsNode w ρ p z es xs (tree p a ko (ks ++ bs) ns)) f
        (keeps_binder w ρ p es xs ks bs ns h (keeps_each None ρ (take (length xs) es) ks b tt)
        (keeps_each None _ (drop (length xs) es) bs c tt) a ko g)
    keeps_node i ρ p o es xs k (rows.fold _ _ _ _ a bs ks ns h b c) q =
        keeps_fold w ρ p es xs ks bs ns h a (keeps_each None _ (take 1 es) bs b tt)
        (keeps_each None ρ (drop 1 es) ks c tt)
    keeps_node i ρ p o es xs k (rows.noted _ _ _ x _ _ _ b) q =
        keeps_noted w ρ p es xs x k (keeps_each i ρ es (k ∷ []) b (silent_noted i x es q))
    keeps_node i ρ p o es xs k (rows.assign _ _ _ _ a ks b) q =
        keeps_assign w ρ p es xs a ks (keeps_each None ρ es ks b tt)
    keeps_node i ρ p o es xs k (rows.implies _ _ _ _ a x y b) q =
        keeps_implies w ρ p es xs a x y (keeps_each None ρ es (x ∷ y ∷ []) b tt)
    keeps_node i ρ p o es xs k (rows.unequal _ _ _ _ a ks b) q =
        keeps_unequal w ρ p es xs a ks (keeps_each None ρ es ks b tt)
    keeps_node i ρ p o es xs k (rows.no_member _ _ _ _ a ks b) q =
        keeps_no_member w ρ p es xs a ks (keeps_each None ρ es ks b tt)
    keeps_node i ρ p o es xs k (rows.greater _ _ _ _ a x y b) q =
        keeps_greater w ρ p es xs a x y (keeps_each None ρ es (x ∷ y ∷ []) b tt)
    keeps_node i ρ p o es xs k (rows.at_most _ _ _ _ a x y b) q =
        keeps_at_most w ρ p es xs a x y (keeps_each None ρ es (x ∷ y ∷ []) b tt)
    keeps_node i ρ p o es xs k (rows.at_least _ _ _ _ a ks b) q =
        keeps_at_least w ρ p es xs a ks (keeps_each None ρ es ks b tt)
    keeps_node i ρ p o es xs k (rows.negative _ _ _ _ a ks b) q =
        keeps_negative w ρ p es xs a wide ks (keeps_each None ρ es ks b tt)
    keeps_node i ρ p o es xs k (rows.finite _ _ _ _ a x n b) q =
        keeps_finite w ρ p es xs a x n (keeps_each None ρ es (x ∷ []) b tt)
    keeps_node i ρ p o es xs k (rows.truth_values _ _ _ a d) q = keeps_truth_values w ρ p [] xs a d
    keeps_node i ρ p o es xs k (rows.equivalent _ _ _ _ l t x y f b) q =
        keeps_equivalence w wide ρ p es xs x y (keeps_each None ρ es (x ∷ y ∷ []) b tt) l t f
    keeps_node i ρ p o es xs k (rows.one_pair _ _ _ _ l t d z x y f g b) q =
        keeps_single w wide ρ p es xs x y (keeps_each None ρ es (x ∷ y ∷ []) b tt) l t d z f g
    keeps_node i ρ p o es xs k (rows.power _ _ _ _ l d x y n f g h b) q =
        keeps_power w wide ρ p es xs x y (keeps_each None ρ es (x ∷ y ∷ []) b tt) l f n g d h
    keeps_node i ρ p o es xs k (rows.high_power _ _ _ _ l t d x y n f g h b) q =
        keeps_high_power w wide ρ p es xs x y (keeps_each None ρ es (x ∷ y ∷ []) b tt) l f n g t d
    keeps_node i ρ p o es xs k (rows.field _ _ _ _ a x y z f b) q =
        keeps_field w wide ρ p es xs x y (keeps_each None ρ es (x ∷ y ∷ []) b tt) a z f
    keeps_node i ρ p o es xs k (rows.low_item _ _ _ _ a x y n f g b) q =
        keeps_low_item w wide ρ p es xs x y (keeps_each None ρ es (x ∷ y ∷ []) b tt) a n f g
    keeps_node i ρ p o es xs k (rows.high_item _ _ _ _ l t x y n f g h b) q =
        keeps_high_item w wide ρ p es xs x y (keeps_each None ρ es (x ∷ y ∷ []) b tt) l t n f g
    keeps_node i ρ p o es xs k (rows.except _ _ cs e fs x a f u us g h b c) q =
        keeps_except w wide ρ x p cs e fs f (keeps None ρ e f b tt) a u us g h (keeps_changes ρ x cs fs (u ∷ us) c)
    keeps_node i ρ p o es xs k (rows.except_let _ _ cs e fs x l t f us g h b c) q =
        keeps_except_let w wide ρ x p cs e fs f (keeps None ρ e f b tt) us l t g h (keeps_changes ρ x cs fs us c)
    keeps_node i ρ p o es xs k (rows.cases _ _ other _ _ a ks f b) q =
        keeps_cases w ρ p es xs a other ks f (keeps_each None ρ es ks b tt)
    keeps_node i ρ p o es xs k (rows.as_value m _ _ _ _ _ _ f b) q = keeps_node None ρ p o es xs k b tt
    keeps_node i ρ p o es xs k (rows.conjunction m _ _ _ _ a ks b) q =
        keeps_same w ρ p es xs ks (keeps_each (Some m) ρ es ks b (sym (any_map m es) ∙ q)) a ker.And refl
    keeps_node i ρ p o es xs k (rows.disjunction m _ _ _ _ a ks b) q =
        keeps_same w ρ p es xs ks (keeps_each (Some m) ρ es ks b (sym (any_map m es) ∙ q)) a ker.Or refl
    keeps_node i ρ p o es xs k (rows.choice m _ _ _ _ a ks bs ns h b c) q =
        keeps_binder w ρ p es xs ks bs ns h (keeps_each None ρ (take (length xs) es) ks b tt)
        (keeps_each (Some m) _ (drop (length xs) es) bs c
        (silent_drop m (length xs) es (sym (any_map m es) ∙ q))) a ker.Some refl
    keeps_node i ρ p o es xs k (rows.branches m _ _ c cs _ a d g x y f b e) q = loud m (c ∷ cs) f q
    keeps_node i ρ p o es xs k (rows.split_cases m _ _ other _ _ a ys u f b) q = loud m es f q

    keeps_path : (ρ : Numbering) (x : List ℕ) (n : ℕ) (es : List Expr) (ls : List Level) (k : Ker) →
        BuildsPath ρ x n es ls k → KeepsPath w ρ x n es ls k
    keeps_path ρ x n es ls k (rows.last_level _ _ e f l _ b c) =
        last_kept ρ x e f l k (keeps None ρ e l.index b tt) (keeps None _ f k c tt)
    keeps_path ρ x n es ls k (rows.one_level _ _ m e fs l y ys _ b c) =
        level_kept ρ x m e fs l y ys k (keeps None ρ e l.index b tt) (keeps_path ρ x m fs (y ∷ ys) k c)

    keeps_changes : (ρ : Numbering) (x : List ℕ) (ns : List ℕ) (es : List Expr) (us : List Change) →
        BuildsChanges ρ x ns es us → KeepsChanges w ρ x ns es us
    keeps_changes ρ x ns es us (rows.no_changes _ _) = none_kept ρ x
    keeps_changes ρ x ns es us (rows.one_change _ _ n ms _ u vs b c) =
        change_kept ρ x n ms es u vs (keeps_path ρ x n (take (suc n) es) u.levels u.right b)
        (keeps_changes ρ x ms (drop (suc n) es) vs c)
