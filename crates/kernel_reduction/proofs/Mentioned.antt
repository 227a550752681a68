-- A tree that is built holds a name that counts exactly where its meaning says so.
use Rattle.std.proofs.Common.{◌≡◌, ℕ, Bool, true, false, ◌&&◌, ◌||◌, IsTrue, List, [], ◌∷◌, map, length, refl, sym, ◌∙◌, ap, ap₂, subst}
use Rattle.std.specs.List.{list_any, list_all}
use Rattle.tla_meaning.specs.declared.actions.Assignable.{Assignable}
use Rattle.tla_meaning.specs.declared.expr.Expr.{Expr, roll-Expr}
use Rattle.tla_meaning.specs.declared.expr.Expr.TheOpen.{Expr-F}
use Rattle.tla_meaning.specs.declared.expr.Expr.TheFolds.{fold-Expr, fold-roll-Expr}
use Rattle.tla_meaning.specs.declared.op.Op.{Op}
use Rattle.tla_meaning.specs.declared.op.Op.TheVariants as op
use Rattle.tla_meaning.specs.declared.place.Place.{Place}
use Rattle.tla_meaning.specs.Actions.{any_mentions, counts, meaning, node}
use Rattle.tla_meaning.specs.Expanded.{is_expanded_op}
use Rattle.tla_meaning.specs.FreeNames.{marks}
use Rattle.tla_meaning.specs.Meaning.{Meaning, denotations, role, outer, inner}
use Rattle.tla_meaning.specs.Numbers.{Width}
use Rattle.tla_meaning.specs.Scopes.{Denotation, Scope, bind}
use Rattle.tla_meaning.proofs.MeaningLemmas.{denotation-roll}
use Rattle.tla_meaning.proofs.Views.{and_left, and_right, false≢true}
use Rattle.kernel_reduction.specs.Reduction.{mentioned, mentioned_at}
use Rattle.kernel_reduction.specs.JobPaths.{has_name, has_name_at, tree_mentions}
use Rattle.kernel_reduction.proofs.JobTrees.{Each, by_nodes}

pub mentioned-roll : (m : Assignable) (x : Expr-F Expr) → mentioned m (roll-Expr x) ≡ mentioned_at m x.op (map (mentioned m) x.args)
unfolding mentioned
mentioned-roll m x = fold-roll-Expr Bool (λ x. mentioned_at m x.op x.args) x

-- an expanded tree, whatever stands below a declared name, where nothing is read
abbrev pub readable_at : Op → List Bool → Bool
readable_at (op.Name i primed) bs = true
readable_at o bs = is_expanded_op o && list_all (λ b. b) bs

unfoldable pub is_readable : Expr → Bool
is_readable = fold-Expr Bool (λ x. readable_at x.op x.args)

pub readable-roll : (x : Expr-F Expr) → is_readable (roll-Expr x) ≡ readable_at x.op (map is_readable x.args)
unfolding is_readable
readable-roll x = fold-roll-Expr Bool (λ x. readable_at x.op x.args) x

-- the names that may be assigned are those that count
pub mentioned_is : (m : Assignable) (e : Expr) → mentioned m e ≡ tree_mentions (counts m) e
unfolding mentioned has_name
mentioned_is m e = λ i. fold-Expr Bool (λ x. same x.place x.op x.args i) e
  where
    same : (p : Place) (o : Op) (bs : List Bool) → mentioned_at m o bs ≡ has_name_at (λ i primed p. counts m i primed) p o bs
    same p (op.Name i primed) bs = refl
    same p o bs = refl

-- ---- by the meaning

-- meanings that hold such a name, or do not, in every scope
abbrev Told : Assignable → List Meaning → List Bool → Type 0
Told m [] [] = Unit {0}
Told m [] (b ∷ bs) = ⊥
Told m (k ∷ ks) [] = ⊥
Told m (k ∷ ks) (b ∷ bs) = ((sc : Scope) → (k sc).mentions m ≡ b) × Told m ks bs

or_move : (b c d : Bool) → ((b || c) || d) ≡ (b || (c || d))
or_move true c d = refl
or_move false c d = refl

or_front : (b c d : Bool) → (c || (b || d)) ≡ (b || (c || d))
or_front true true d = refl
or_front true false d = refl
or_front false c d = refl

any_told : (m : Assignable) (p : Place) (ms : List Bool) (ks : List Meaning) (bs : List Bool) (a b : Scope) → Told m ks bs →
    (any_mentions m (outer p ms ks a) || any_mentions m (inner p ms ks b)) ≡ list_any (λ b. b) bs
any_told m p ms [] [] a b h = refl
any_told m p ms [] (c ∷ bs) a b h = absurd h
any_told m p ms (k ∷ ks) [] a b h = absurd h
any_told m p [] (k ∷ ks) (c ∷ bs) a b h =
    or_move ((k a).mentions m) (any_mentions m (outer p [] ks a)) (any_mentions m (inner p [] ks b))
    ∙ ap₂ (λ (x y : Bool). x || y) (h.0 a) (any_told m p [] ks bs a b h.1)
any_told m p (true ∷ ms) (k ∷ ks) (c ∷ bs) a b h =
    or_front ((k b).mentions m) (any_mentions m (outer p ms ks a)) (any_mentions m (inner p ms ks b))
    ∙ ap₂ (λ (x y : Bool). x || y) (h.0 b) (any_told m p ms ks bs a b h.1)
any_told m p (false ∷ ms) (k ∷ ks) (c ∷ bs) a b h =
    or_move ((k a).mentions m) (any_mentions m (outer p ms ks a)) (any_mentions m (inner p ms ks b))
    ∙ ap₂ (λ (x y : Bool). x || y) (h.0 a) (any_told m p ms ks bs a b h.1)

any_held : (m : Assignable) (ks : List Meaning) (bs : List Bool) (a : Scope) → Told m ks bs →
    (any_mentions m (denotations ks a) || false) ≡ list_any (λ b. b) bs
any_held m [] [] a h = refl
any_held m [] (c ∷ bs) a h = absurd h
any_held m (k ∷ ks) [] a h = absurd h
any_held m (k ∷ ks) (c ∷ bs) a h =
    or_move ((k a).mentions m) (any_mentions m (denotations ks a)) false
    ∙ ap₂ (λ (x y : Bool). x || y) (h.0 a) (any_held m ks bs a h.1)

abbrev at_node : Width → Assignable → Place → Op → List (List ℕ) → List Meaning → Scope → Bool
at_node w m p o xs ks sc = (node w (record { place = p; op = o; args = ks; binds = xs }) sc).mentions m

node_holds : (w : Width) (m : Assignable) (p : Place) (o : Op) (xs : List (List ℕ)) (ks : List Meaning) (bs cs : List Bool) (sc : Scope) →
    IsTrue (readable_at o cs) → (IsTrue (list_all (λ b. b) cs) → Told m ks bs) → at_node w m p o xs ks sc ≡ mentioned_at m o bs
node_holds w m p (op.Name i primed) xs ks bs cs sc h t = refl
node_holds w m p (op.Bound x) xs ks bs cs sc h t = any_held m ks bs sc (t h)
node_holds w m p (op.Use x) xs ks bs cs sc h t = absurd (false≢true h)
node_holds w m p (op.Param x) xs ks bs cs sc h t = absurd (false≢true h)
node_holds w m p (op.Let ds) xs ks bs cs sc h t = absurd (false≢true h)
node_holds w m p op.Prime xs ks bs cs sc h t = absurd (false≢true h)
node_holds w m p op.Unchanged xs ks bs cs sc h t = absurd (false≢true h)
node_holds w m p op.Boxed xs ks bs cs sc h t = absurd (false≢true h)
node_holds w m p op.Angled xs ks bs cs sc h t = absurd (false≢true h)
node_holds w m p o xs ks bs cs sc h t = any_told m p (marks (role o (length xs))) ks bs sc (bind xs [] sc) (t h)

abbrev Holds : Assignable → Width → Expr → Type 0
Holds m w e = IsTrue (is_readable e) → (sc : Scope) → (meaning w e sc).mentions m ≡ mentioned m e

told_all : (w : Width) (m : Assignable) (es : List Expr) → Each (Holds m w) es → IsTrue (list_all (λ b. b) (map is_readable es)) →
    Told m (map (meaning w) es) (map (mentioned m) es)
told_all w m [] h q = tt
told_all w m (e ∷ es) h q =
    let rest : Bool = list_all (λ b. b) (map is_readable es) in
    (h.0 (and_left (is_readable e) rest q), told_all w m es h.1 (and_right (is_readable e) rest q))

pub mentions_is : (w : Width) (m : Assignable) (e : Expr) → IsTrue (is_readable e) → (sc : Scope) → (meaning w e sc).mentions m ≡ mentioned m e
mentions_is w m = by_nodes (Holds m w) (λ x h q sc.
    ap (λ (a : Denotation). a.mentions m) (denotation-roll w x sc)
    ∙ node_holds w m x.place x.op x.binds (map (meaning w) x.args) (map (mentioned m) x.args) (map is_readable x.args) sc
    (subst IsTrue (readable-roll x) q) (told_all w m x.args h)
    ∙ sym (mentioned-roll m x))
