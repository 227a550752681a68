-- A right side of an EXCEPT that does not go on along the path is built as none that does.
use Rattle.std.proofs.Common.{◌≡◌, ℕ, Bool, true, false, not, ◌&&◌, List, [], ◌∷◌, ◌++◌, map, refl, sym, ◌∙◌, ap, ap₂, Option, Some, None, if◌then◌else◌}
use Rattle.std.specs.List.{list_any}
use Rattle.std.specs.Prelude.{nat_eq}
use Rattle.tla_values.specs.Order.{Layer}
use Rattle.tla_values.specs.declared.value.Value.{Value, out-Value}
use Rattle.tla_values.specs.declared.value.Value.TheOpen as layer
use Rattle.tla_meaning.specs.declared.actions.Assignable.{Assignable}
use Rattle.tla_meaning.specs.declared.expr.Expr.{Expr, out-Expr, out-roll-Expr, roll-out-Expr}
use Rattle.tla_meaning.specs.declared.expr.Expr.TheOpen.{Expr-F}
use Rattle.tla_meaning.specs.declared.op.Op.{Op}
use Rattle.tla_meaning.specs.declared.place.Place.{Place}
use Rattle.tla_meaning.specs.Scopes.{find_last, or_else, same_text}
use Rattle.tla_meaning.specs.Symbols.{same_place}
use Rattle.tla_meaning.proofs.Laws.{find-append}
use Rattle.tla_meaning.proofs.Views.{and_left, and_right, false≢true}
use Rattle.snowcat_rows.specs.declared.types.Ty.{Ty}
use Rattle.kernel_trees.specs.declared.kernel.Ker.{Ker, roll-Ker}
use Rattle.kernel_trees.specs.declared.kernel.Ker.TheOpen.{Ker-F}
use Rattle.kernel_trees.specs.declared.kernel.KerOp.{KerOp}
use Rattle.kernel_trees.specs.declared.kernel.KerOp.TheVariants as ker
use Rattle.kernel_trees.specs.Trees.{as_expr, constant, names_of, number_name, op_of, operands}
use Rattle.kernel_trees.proofs.Steps.{same_text_same}
use Rattle.kernel_trees.proofs.Trees.{as_expr-roll}
use Rattle.kernel_shapes.specs.Trees.{begins_with_name, is_bound_name, is_except, is_part}
use Rattle.kernel_shapes.proofs.JoinRight.{text_is}
use Rattle.kernel_reduction.specs.JobPaths.{below_notes, below_of}
use Rattle.kernel_reduction.specs.Reduction.{Numbering, are_fresh, fresh, numbered}
use Rattle.kernel_reduction.specs.SizeLaws.{begins_below, goes_on}
use Rattle.kernel_reduction.specs.Builds.{Builds, BuildsEach, BuildsNode, BuildsPath, BuildsChanges, at_node, none_left, one_more, last_level, one_level, one_change, bound_name, same, binder, noted, except, cases, as_value, has_arm, is_same, is_binder, is_let, is_except_let}
use Rattle.kernel_reduction.specs.Rows.{Let, Level, Change, all_levels, level_numbers, tree, bound, changed_at, changed, nested_ifs, is_nil}
use Rattle.kernel_reduction.proofs.JobTrees.{below-roll}
use Rattle.kernel_reduction.proofs.ShapeTies.{found_fresh}

abbrev pub numbers_of : List Level → List ℕ
numbers_of ls = map (λ l. l.number) ls

-- the numbers of a LET are new, and so are those of the levels below it
pub let_fresh : (l : Let) (ns : List ℕ) (ρ : Numbering) → is_except_let l ns ρ ≡ true → are_fresh ns ρ ≡ true
let_fresh l ns ρ h =
    let new : are_fresh (l.unread ∷ l.named ∷ ns) ρ ≡ true = and_right (is_let l) (are_fresh (l.unread ∷ l.named ∷ ns) ρ) (and_left (is_let l && are_fresh (l.unread ∷ l.named ∷ ns) ρ) (not (list_any (nat_eq l.named) ns)) h) in
    and_right (fresh l.named ρ) (are_fresh ns ρ) (and_right (fresh l.unread ρ) (are_fresh (l.named ∷ ns) ρ) new)

-- the numbers of an update's levels and of those behind it
pub levels_fresh : (u : Change) (us : List Change) (ρ : Numbering) → are_fresh (level_numbers (u ∷ us)) ρ ≡ true → (are_fresh (numbers_of u.levels) ρ ≡ true) × (are_fresh (level_numbers us) ρ ≡ true)
levels_fresh u us ρ h = by u.levels h
  where
    by : (ls : List Level) → are_fresh (map (λ l. l.number) (ls ++ all_levels us)) ρ ≡ true → (are_fresh (numbers_of ls) ρ ≡ true) × (are_fresh (level_numbers us) ρ ≡ true)
    by [] h = (refl, h)
    by (l ∷ ls) h =
        let rest = by ls (and_right (fresh l.number ρ) (are_fresh (map (λ l. l.number) (ls ++ all_levels us)) ρ) h) in
        (all_true (fresh l.number ρ) (are_fresh (numbers_of ls) ρ) (and_left (fresh l.number ρ) (are_fresh (map (λ l. l.number) (ls ++ all_levels us)) ρ) h) rest.0, rest.1)
      where
        all_true : (a b : Bool) → a ≡ true → b ≡ true → (a && b) ≡ true
        all_true true true h g = refl
        all_true false b h g = h
        all_true true false h g = g

-- ---- roots

pub as_out : (x : Ker-F Ker) → out-Expr (as_expr (roll-Ker x)) ≡ record { place = x.place; op = op_of x.op; args = operands x.op x.place (map as_expr x.args); binds = names_of x.binds }
as_out x = ap out-Expr (as_expr-roll x) ∙ out-roll-Expr _

root_op : (p : Place) (a : Ty) (ko : KerOp) (ks : List Ker) (xs : List ℕ) → (out-Expr (as_expr (tree p a ko ks xs))).op ≡ op_of ko
root_op p a ko ks xs = ap (λ (x : Expr-F Expr). x.op) (as_out (record { place = p; ty = a; op = ko; args = ks; binds = xs }))

-- neither a bound name nor an update
abbrev is_neither : KerOp → Bool
is_neither (ker.Bound n) = false
is_neither ker.Update = false
is_neither ko = true

never_bound : (x : List ℕ) (l : Layer Value) → is_bound_name x (constant l) ≡ false
never_bound x (layer.Bool b) = refl
never_bound x l = refl

never_update : (l : Layer Value) → is_except (constant l) ≡ false
never_update (layer.Bool b) = refl
never_update l = refl

no_bound : (x : List ℕ) (ko : KerOp) → is_neither ko ≡ true → is_bound_name x (op_of ko) ≡ false
no_bound x (ker.Bound n) h = absurd (false≢true h)
no_bound x (ker.Const v) h = never_bound x (out-Value v)
no_bound x ko h = refl

no_update : (ko : KerOp) → is_neither ko ≡ true → is_except (op_of ko) ≡ false
no_update ker.Update h = absurd (false≢true h)
no_update (ker.Const v) h = never_update (out-Value v)
no_update ko h = refl

same_neither : (ko : KerOp) → is_same ko ≡ true → is_neither ko ≡ true
same_neither (ker.Bound n) h = h
same_neither ker.Update h = h
same_neither ko h = refl

binder_neither : (ko : KerOp) → is_binder ko ≡ true → is_neither ko ≡ true
binder_neither (ker.Bound n) h = h
binder_neither ker.Update h = h
binder_neither ko h = refl

bound_never : {X : Type 0} (x : List ℕ) (p : Place) (a : Ty) (ko : KerOp) (ks : List Ker) (xs : List ℕ) → is_neither ko ≡ true → is_bound_name x (out-Expr (as_expr (tree p a ko ks xs))).op ≡ true → X
bound_never x p a ko ks xs h q = absurd (false≢true (sym (ap (is_bound_name x) (root_op p a ko ks xs) ∙ no_bound x ko h) ∙ q))

part_never : {X : Type 0} (q : Place) (x : List ℕ) (p : Place) (a : Ty) (ko : KerOp) (ks : List Ker) (xs : List ℕ) → is_neither ko ≡ true → is_part q (x ∷ []) (as_expr (tree p a ko ks xs)) ≡ true → X
part_never q x p a ko ks xs h r =
    absurd (false≢true (sym (ap is_except (root_op p a ko ks xs) ∙ no_update ko h) ∙ and_left (is_except (out-Expr (as_expr (tree p a ko ks xs))).op) _ r))

update_bound : {X : Type 0} (x : List ℕ) (p : Place) (a : Ty) (ks : List Ker) (xs : List ℕ) → is_bound_name x (out-Expr (as_expr (tree p a ker.Update ks xs))).op ≡ true → X
update_bound x p a ks xs q = absurd (false≢true (sym (ap (is_bound_name x) (root_op p a ker.Update ks xs)) ∙ q))

-- an update that is a part stands at its place, and of the name
update_part : (q : Place) (x : List ℕ) (p : Place) (a : Ty) (f : Ker) (ks : List Ker) (xs : List ℕ) → is_part q (x ∷ []) (as_expr (tree p a ker.Update (f ∷ ks) xs)) ≡ true →
    (same_place q p ≡ true) × (is_bound_name x (out-Expr (as_expr f)).op ≡ true)
update_part q x p a f ks xs h =
    let y : Ker-F Ker = record { place = p; ty = a; op = ker.Update; args = f ∷ ks; binds = xs } in
    let r : (same_place q p && is_bound_name x (out-Expr (as_expr f)).op) ≡ true =
    sym (ap (λ (z : Expr-F Expr). is_except z.op && (same_place q z.place && begins_with_name x z.args)) (as_out y)) ∙ h in
    (and_left (same_place q p) (is_bound_name x (out-Expr (as_expr f)).op) r, and_right (same_place q p) (is_bound_name x (out-Expr (as_expr f)).op) r)

levels_there : {ρ : Numbering} {x : List ℕ} {n : ℕ} {es : List Expr} {ls : List Level} {k : Ker} → BuildsPath ρ x n es ls k → is_nil ls ≡ false
levels_there (last_level ρ x e f l k b c) = refl
levels_there (one_level ρ x n e es l m ls k b c) = refl

changed_part : (q : Place) (x : List ℕ) (p : Place) (a : Ty) (f : Ker) (ls : List Level) (e : Ker) → is_nil ls ≡ false → is_part q (x ∷ []) (as_expr (changed_at p a f ls e)) ≡ true →
    (same_place q p ≡ true) × (is_bound_name x (out-Expr (as_expr f)).op ≡ true)
changed_part q x p a f [] e h r = absurd (false≢true (sym h))
changed_part q x p a f (l ∷ []) e h r = update_part q x p a f (l.index ∷ e ∷ []) (l.number ∷ []) r
changed_part q x p a f (l ∷ m ∷ ls) e h r = update_part q x p a f (l.index ∷ changed_at p l.inner (bound p l.inner l.number) (m ∷ ls) e ∷ []) (l.number ∷ []) r

changed_bound : {X : Type 0} (x : List ℕ) (p : Place) (a : Ty) (f : Ker) (ls : List Level) (e : Ker) → is_nil ls ≡ false → is_bound_name x (out-Expr (as_expr (changed_at p a f ls e))).op ≡ true → X
changed_bound x p a f [] e h r = absurd (false≢true (sym h))
changed_bound x p a f (l ∷ []) e h r = update_bound x p a (f ∷ l.index ∷ e ∷ []) (l.number ∷ []) r
changed_bound x p a f (l ∷ m ∷ ls) e h r = update_bound x p a (f ∷ l.index ∷ changed_at p l.inner (bound p l.inner l.number) (m ∷ ls) e ∷ []) (l.number ∷ []) r

all_part : {ρ : Numbering} {y : List ℕ} {ns : List ℕ} {es : List Expr} {u : Change} {us : List Change} (q : Place) (x : List ℕ) (p : Place) (a : Ty) (f : Ker) → BuildsChanges ρ y ns es (u ∷ us) →
    is_part q (x ∷ []) (as_expr (changed p a f (u ∷ us))) ≡ true → (same_place q p ≡ true) × (is_bound_name x (out-Expr (as_expr f)).op ≡ true)
all_part q x p a f (one_change ρ y n ns es u [] b c) r = changed_part q x p a f u.levels u.right (levels_there b) r
all_part q x p a f (one_change ρ y n ns es u (v ∷ vs) b c) r =
    changed_bound x p a f u.levels u.right (levels_there b) (all_part q x p a (changed_at p a f u.levels u.right) c r).1

all_bound : {X : Type 0} {ρ : Numbering} {y : List ℕ} {ns : List ℕ} {es : List Expr} {u : Change} {us : List Change} (x : List ℕ) (p : Place) (a : Ty) (f : Ker) → BuildsChanges ρ y ns es (u ∷ us) →
    is_bound_name x (out-Expr (as_expr (changed p a f (u ∷ us)))).op ≡ true → X
all_bound x p a f (one_change ρ y n ns es u [] b c) r = changed_bound x p a f u.levels u.right (levels_there b) r
all_bound x p a f (one_change ρ y n ns es u (v ∷ vs) b c) r = all_bound x p a (changed_at p a f u.levels u.right) c r

-- ---- below annotations

-- of a number one name alone
abbrev Only : Numbering → List ℕ → ℕ → Type 0
Only ρ x n = (y : List ℕ) (m : ℕ) → find_last y ρ ≡ Some m → same_text (number_name n) (number_name m) ≡ true → same_text x y ≡ true

below_is : (e : Expr) → below_notes e ≡ below_of (out-Expr e).op e (map below_notes (out-Expr e).args)
below_is e =
    ap below_notes (sym (roll-out-Expr e)) ∙ below-roll (out-Expr e) ∙ ap (λ (y : Expr). below_of (out-Expr e).op y (map below_notes (out-Expr e).args)) (roll-out-Expr e)

two_ifs : {X : Type 0} {ρ : Numbering} {i : Option Assignable} {es : List Expr} {ks : List Ker} (x : List ℕ) (p : Place) (a : Ty) → has_arm ks ≡ true → BuildsEach i ρ es ks →
    is_bound_name x (out-Expr (as_expr (nested_ifs p a ks))).op ≡ true → X
two_ifs x p a h (none_left i ρ) r = absurd (false≢true h)
two_ifs x p a h (one_more i ρ e k es ks b (none_left _ _)) r = absurd (false≢true h)
two_ifs x p a h (one_more i ρ e k es ks b (one_more _ _ f l fs ls c g)) r = bound_never x _ _ ker.If _ _ refl r

no_ifs : {X : Type 0} {ρ : Numbering} {i : Option Assignable} {es : List Expr} {ks : List Ker} (q : Place) (x : List ℕ) (p : Place) (a : Ty) → has_arm ks ≡ true → BuildsEach i ρ es ks →
    is_part q (x ∷ []) (as_expr (nested_ifs p a ks)) ≡ true → X
no_ifs q x p a h (none_left i ρ) r = absurd (false≢true h)
no_ifs q x p a h (one_more i ρ e k es ks b (none_left _ _)) r = absurd (false≢true h)
no_ifs q x p a h (one_more i ρ e k es ks b (one_more _ _ f l fs ls c g)) r = part_never q x _ _ ker.If _ _ refl r

mutual
  bound_root : {i : Option Assignable} {ρ : Numbering} {e : Expr} {k : Ker} (x : List ℕ) (n : ℕ) → Only ρ x n → Builds i ρ e k →
      is_bound_name (number_name n) (out-Expr (as_expr k)).op ≡ true → is_bound_name x (out-Expr (below_notes e)).op ≡ true
  bound_root x n o (at_node i ρ e k b) r = ap (λ (y : Expr). is_bound_name x (out-Expr y).op) (below_is e) ∙ bound_node x n o e refl b r

  bound_node : {i : Option Assignable} {ρ : Numbering} {p : Place} {o : Op} {es : List Expr} {xs : List (List ℕ)} {k : Ker} (x : List ℕ) (n : ℕ) → Only ρ x n → (self : Expr) → (out-Expr self).op ≡ o →
      BuildsNode i ρ p o es xs k → is_bound_name (number_name n) (out-Expr (as_expr k)).op ≡ true → is_bound_name x (out-Expr (below_of o self (map below_notes es))).op ≡ true
  bound_node x n o self e (bound_name ρ p y m xs a f) r =
      ap (is_bound_name x) e ∙ o y m f (sym (ap (is_bound_name (number_name n)) (root_op p a (ker.Bound m) [] [])) ∙ r)
  bound_node x n o self e (noted i ρ p y es xs k (one_more _ _ f _ fs _ b _)) r = bound_root x n o b r
  bound_node x n o self e (as_value m ρ p q es xs k f b) r = bound_node x n o self e b r
  bound_node x n o self e (same ρ p q ko es xs a ks f g b) r = bound_never (number_name n) p a ko ks [] (same_neither ko g) r
  bound_node x n o self e (binder ρ p q ko es xs a ks bs ns f g h b c) r = bound_never (number_name n) p a ko (ks ++ bs) ns (binder_neither ko g) r
  bound_node x n o self e (except ρ p cs d es y a f u us g h b c) r = all_bound (number_name n) p a f c r
  bound_node x n o self e (cases ρ p other es xs a ks f b) r = two_ifs (number_name n) p a f b r
  bound_node x n o self e b r = bound_never (number_name n) _ _ _ _ _ refl r

mutual
  part_root : {i : Option Assignable} {ρ : Numbering} {e : Expr} {k : Ker} (q : Place) (x : List ℕ) (n : ℕ) → Only ρ x n → Builds i ρ e k →
      is_part q (number_name n ∷ []) (as_expr k) ≡ true → goes_on q (x ∷ []) e ≡ true
  part_root q x n o (at_node i ρ e k b) r =
      ap (λ (y : Expr). is_except (out-Expr y).op && (same_place q (out-Expr y).place && begins_below x (out-Expr y).args)) (below_is e) ∙ part_node q x n o e refl b r

  part_node : {i : Option Assignable} {ρ : Numbering} {p : Place} {o : Op} {es : List Expr} {xs : List (List ℕ)} {k : Ker} (q : Place) (x : List ℕ) (n : ℕ) → Only ρ x n → (self : Expr) →
      out-Expr self ≡ record { place = p; op = o; args = es; binds = xs } → BuildsNode i ρ p o es xs k → is_part q (number_name n ∷ []) (as_expr k) ≡ true →
      (is_except (out-Expr (below_of o self (map below_notes es))).op && (same_place q (out-Expr (below_of o self (map below_notes es))).place && begins_below x (out-Expr (below_of o self (map below_notes es))).args)) ≡ true
  part_node q x n o self e (except ρ p cs d es y a f u us g h b c) r =
      let here = all_part q (number_name n) p a f c r in
      ap (λ (z : Expr-F Expr). is_except z.op && (same_place q z.place && begins_below x z.args)) e
      ∙ ap₂ (λ (s t : Bool). s && t) here.0 (bound_root x n o b here.1)
  part_node q x n o self e (noted i ρ p y es xs k (one_more _ _ f _ fs _ b _)) r = part_root q x n o b r
  part_node q x n o self e (as_value m ρ p z es xs k f b) r = part_node q x n o self e b r
  part_node q x n o self e (same ρ p z ko es xs a ks f g b) r = part_never q (number_name n) p a ko ks [] (same_neither ko g) r
  part_node q x n o self e (binder ρ p z ko es xs a ks bs ns f g h b c) r = part_never q (number_name n) p a ko (ks ++ bs) ns (binder_neither ko g) r
  part_node q x n o self e (cases ρ p other es xs a ks f b) r = no_ifs q (number_name n) p a f b r
  part_node q x n o self e (bound_name ρ p y m xs a f) r = absurd (false≢true (sym (ap is_except (root_op p a (ker.Bound m) [] [])) ∙ and_left (is_except (out-Expr (as_expr (bound p a m))).op) _ r))
  part_node q x n o self e b r = part_never q (number_name n) _ _ _ _ _ refl r

only_new : (ρ : Numbering) (x : List ℕ) (n : ℕ) → fresh n ρ ≡ true → Only (ρ ++ (x, n) ∷ []) x n
only_new ρ x n h y m f t = by (same_text y x) refl (sym (find-append y ρ ((x, n) ∷ [])) ∙ f)
  where
    by : (b : Bool) → same_text y x ≡ b → or_else (or_else None (if b then Some n else None)) (find_last y ρ) ≡ Some m → same_text x y ≡ true
    by true e g = ap (same_text x) (text_is y x e) ∙ same_text_same x
    by false e g = absurd (false≢true (sym (found_fresh ρ y n m h g) ∙ ap (λ (z : List ℕ). same_text z (number_name n)) (sym (text_is (number_name n) (number_name m) t)) ∙ same_text_same (number_name n)))

pub right_apart : (ρ : Numbering) (x : List ℕ) (n : ℕ) (f : Expr) (k : Ker) (p : Place) → Builds None (numbered (x ∷ []) (n ∷ []) ρ) f k → fresh n ρ ≡ true → goes_on p (x ∷ []) f ≡ false →
    is_part p (number_name n ∷ []) (as_expr k) ≡ false
right_apart ρ x n f k p b h g = by (is_part p (number_name n ∷ []) (as_expr k)) refl
  where
    by : (c : Bool) → is_part p (number_name n ∷ []) (as_expr k) ≡ c → c ≡ false
    by true e = absurd (false≢true (sym g ∙ part_root p x n (only_new ρ x n h) b e))
    by false e = refl
