-- In a tree that binds no number again, no operand of a conjunction reads what a path of another one chooses.
use Rattle.std.proofs.Common.{◌≡◌, ℕ, zero, suc, Bool, true, false, not, ◌&&◌, ◌||◌, IsTrue, List, [], ◌∷◌, ◌++◌, map, zip, take, replicate, length, refl, sym, ◌∙◌, ap, subst, Option, Some, None, option_map, if◌then◌else◌}
use Rattle.std.specs.List.{list_any, list_all, slice_get}
use Rattle.std.proofs.lemmas.Option.{slice_get-map}
use Rattle.tla_values.specs.Order.{Layer, text_cmp}
use Rattle.tla_values.proofs.TotalLemmas.{texts_equal}
use Rattle.tla_values.specs.declared.value.Value.{Value, out-Value}
use Rattle.tla_meaning.specs.declared.expr.Expr.{Expr, roll-Expr}
use Rattle.tla_meaning.specs.declared.expr.Expr.TheOpen.{Expr-F}
use Rattle.tla_meaning.specs.declared.expr.Expr.TheFolds.{fold-roll-Expr, map-Expr, ind-Expr}
use Rattle.tla_meaning.specs.declared.place.Place.{Place}
use Rattle.kernel_trees.specs.Paths.{Marks, Step, Branch, Choice, numbers, if_ways, choice_ways, any_mentions, ways_of, ways, ends_at, Holds}
use Rattle.tla_meaning.specs.Scopes.{same_text}
use Rattle.tla_meaning.specs.Meaning.{Role, Named, Held, Lets, Plain_role, role}
use Rattle.tla_meaning.specs.FreeNames.{role_reads, marks, with_names, closed_all, closed_layer, closed}
use Rattle.tla_meaning.proofs.Laws.{none≢some, equal_of}
use Rattle.tla_meaning.proofs.Views.{and_left, and_right, and_both, false≢true}
use Rattle.kernel_trees.specs.declared.kernel.Ker.{Ker, roll-Ker, out-Ker}
use Rattle.kernel_trees.specs.declared.kernel.Ker.TheOpen.{Ker-F}
use Rattle.kernel_trees.specs.declared.kernel.Ker.TheFolds.{fold-roll-Ker}
use Rattle.kernel_trees.specs.declared.kernel.KerOp.{KerOp}
use Rattle.kernel_trees.specs.Trees.{number_name, names_of, op_of, operands, constant, literal, as_expr}
use Rattle.kernel_trees.specs.Scoped.{Names, reads_in, outside, scoped_at, scoped, differ}
use Rattle.kernel_trees.specs.Ways.{Way, has_ended, one_after, after, after_each, all_of, branch, any_of, alone}
use Rattle.kernel_trees.specs.inner.Separate.{chosen, chosen_at, but, no_names, unread, separate_all, separate_at, separate}
use Rattle.kernel_trees.proofs.Trees.{Each, by_nodes, as_expr-roll}
use Rattle.kernel_trees.proofs.LawOfPaths.{ways-roll, separate-roll, rooted}
use Rattle.tla_values.specs.declared.value.Value.TheOpen as layer
use Rattle.kernel_trees.specs.declared.kernel.KerOp.TheVariants as ker

-- ---- the names that a tree reads are bound

abbrev Scopes : Type 0
Scopes = Names → Bool

pub scoped-roll : (x : Ker-F Ker) (B : Names) →
    scoped (roll-Ker x) B
    ≡ ((reads_in B x.op && differ x.binds) && (outside B x.binds && closed_all (marks (role (op_of x.op) (length (names_of x.binds)))) (names_of x.binds) (map scoped x.args) B))
unfolding scoped
scoped-roll x B = ap (λ (f : Scopes). f B) (fold-roll-Ker Scopes (λ x B. scoped_at B x) x)

closed-roll : (x : Expr-F Expr) (B : Names) →
    closed no_names (roll-Expr x) B
    ≡ (role_reads no_names B (role x.op (length x.binds)) && closed_all (marks (role x.op (length x.binds))) x.binds (map (closed no_names) x.args) B)
closed-roll x B = ap (λ (f : Scopes). f B) (fold-roll-Expr Scopes (closed_layer no_names) x)

constant_reads : (B : Names) (l : Layer Value) (n : ℕ) → role_reads no_names B (role (constant l) n) ≡ true
constant_reads B (layer.Bool b) n = refl
constant_reads B (layer.Int i) n = refl
constant_reads B (layer.Text a) n = refl
constant_reads B (layer.Set xs) n = refl
constant_reads B (layer.Fun ps) n = refl

reads_same : (B : Names) (o : KerOp) (n : ℕ) → role_reads no_names B (role (op_of o) n) ≡ reads_in B o
reads_same B (ker.Const v) n = constant_reads B (out-Value v) n
reads_same B o n = refl

abbrev Closed : Ker → Type 0
Closed k = (B : Names) → IsTrue (scoped k B) → IsTrue (closed no_names (as_expr k) B)

all_closed : (ms : List Bool) (xs : List (List ℕ)) (ks : List Ker) (B : Names) → Each Closed ks → IsTrue (closed_all ms xs (map scoped ks) B) →
    IsTrue (closed_all ms xs (map (closed no_names) (map as_expr ks)) B)
all_closed ms xs [] B h q = refl
all_closed [] xs (k ∷ ks) B h q =
    let a : Bool = scoped k B in
    let b : Bool = closed_all [] xs (map scoped ks) B in
    and_both (closed no_names (as_expr k) B) (closed_all [] xs (map (closed no_names) (map as_expr ks)) B) (h.0 B (and_left a b q)) (all_closed [] xs ks B h.1 (and_right a b q))
all_closed (true ∷ ms) xs (k ∷ ks) B h q =
    let C : Names = with_names xs B in
    let a : Bool = scoped k C in
    let b : Bool = closed_all ms xs (map scoped ks) B in
    and_both (closed no_names (as_expr k) C) (closed_all ms xs (map (closed no_names) (map as_expr ks)) B) (h.0 C (and_left a b q)) (all_closed ms xs ks B h.1 (and_right a b q))
all_closed (false ∷ ms) xs (k ∷ ks) B h q =
    let a : Bool = scoped k B in
    let b : Bool = closed_all ms xs (map scoped ks) B in
    and_both (closed no_names (as_expr k) B) (closed_all ms xs (map (closed no_names) (map as_expr ks)) B) (h.0 B (and_left a b q)) (all_closed ms xs ks B h.1 (and_right a b q))

no_children : (ms : List Bool) (xs : List (List ℕ)) (B : Names) → IsTrue (closed_all ms xs [] B)
no_children ms xs B = refl

with_literal : (p : Place) (i : ℕ) (xs : List (List ℕ)) (es : List Expr) (B : Names) → IsTrue (closed_all [] xs (map (closed no_names) es) B) →
    IsTrue (closed_all [] xs (map (closed no_names) (es ++ literal p i ∷ [])) B)
with_literal p i xs [] B h = ap (λ b. b && true) (closed-roll _ B)
with_literal p i xs (e ∷ es) B h =
    let a : Bool = closed no_names e B in
    let b : Bool = closed_all [] xs (map (closed no_names) es) B in
    and_both a (closed_all [] xs (map (closed no_names) (es ++ literal p i ∷ [])) B) (and_left a b h) (with_literal p i xs es B (and_right a b h))

first_ones : (n : ℕ) (xs : List (List ℕ)) (es : List Expr) (B : Names) → IsTrue (closed_all [] xs (map (closed no_names) es) B) →
    IsTrue (closed_all [] xs (map (closed no_names) (take n es)) B)
first_ones zero xs es B h = refl
first_ones (suc n) xs [] B h = refl
first_ones (suc n) xs (e ∷ es) B h =
    let a : Bool = closed no_names e B in
    let b : Bool = closed_all [] xs (map (closed no_names) es) B in
    and_both a (closed_all [] xs (map (closed no_names) (take n es)) B) (and_left a b h) (first_ones n xs es B (and_right a b h))

operands_closed : (o : KerOp) (p : Place) (n : ℕ) (xs : List (List ℕ)) (es : List Expr) (B : Names) →
    IsTrue (closed_all (marks (role (op_of o) n)) xs (map (closed no_names) es) B) → IsTrue (closed_all (marks (role (op_of o) n)) xs (map (closed no_names) (operands o p es)) B)
operands_closed (ker.Const v) p n xs es B h = no_children (marks (role (constant (out-Value v)) n)) xs B
operands_closed ker.NoCase p n xs es B h = refl
operands_closed (ker.Item i) p n xs es B h = with_literal p i xs es B h
operands_closed ker.Range p n xs es B h = first_ones 2 xs es B h
operands_closed o p n xs es B h = h

pub scoped_closed : (k : Ker) → Closed k
scoped_closed = by_nodes Closed (λ x h B q.
    let n : ℕ = length (names_of x.binds) in
    let ms : List Bool = marks (role (op_of x.op) n) in
    let a : Bool = reads_in B x.op && differ x.binds in
    let b : Bool = outside B x.binds in
    let c : Bool = closed_all ms (names_of x.binds) (map scoped x.args) B in
    let z : IsTrue (a && (b && c)) = sym (scoped-roll x B) ∙ q in
    let d : Bool = closed_all ms (names_of x.binds) (map (closed no_names) (operands x.op x.place (map as_expr x.args))) B in
    ap (λ (e : Expr). closed no_names e B) (as_expr-roll x)
    ∙ closed-roll _ B
    ∙ and_both (role_reads no_names B (role (op_of x.op) n)) d (reads_same B x.op n ∙ and_left (reads_in B x.op) (differ x.binds) (and_left a (b && c) z))
    (operands_closed x.op x.place n (names_of x.binds) (map as_expr x.args) B (all_closed ms (names_of x.binds) x.args B h (and_right b c (and_right a (b && c) z)))))

-- ---- more names bound

abbrev Below : Names → Names → Type 0
Below B C = (x : List ℕ) → IsTrue (B x) → IsTrue (C x)

or_below : (a b c : Bool) → (IsTrue b → IsTrue c) → IsTrue (a || b) → IsTrue (a || c)
or_below true b c h q = refl
or_below false b c h q = h q

with_below : (xs : List (List ℕ)) (B C : Names) → Below B C → Below (with_names xs B) (with_names xs C)
with_below xs B C h x q = or_below (list_any (same_text x) xs) (B x) (C x) (h x) q

abbrev Wider : Expr → Type 0
Wider e = (B C : Names) → Below B C → IsTrue (closed no_names e B) → IsTrue (closed no_names e C)

wider_all : (ms : List Bool) (xs : List (List ℕ)) (ys : List ((e : Expr) × Wider e)) (B C : Names) → Below B C →
    IsTrue (closed_all ms xs (map (closed no_names) (map (λ y. y.0) ys)) B) → IsTrue (closed_all ms xs (map (closed no_names) (map (λ y. y.0) ys)) C)
wider_all ms xs [] B C h q = refl
wider_all [] xs (y ∷ ys) B C h q =
    let a : Bool = closed no_names y.0 B in
    let b : Bool = closed_all [] xs (map (closed no_names) (map (λ y. y.0) ys)) B in
    and_both (closed no_names y.0 C) (closed_all [] xs (map (closed no_names) (map (λ y. y.0) ys)) C) (y.1 B C h (and_left a b q)) (wider_all [] xs ys B C h (and_right a b q))
wider_all (true ∷ ms) xs (y ∷ ys) B C h q =
    let a : Bool = closed no_names y.0 (with_names xs B) in
    let b : Bool = closed_all ms xs (map (closed no_names) (map (λ y. y.0) ys)) B in
    and_both (closed no_names y.0 (with_names xs C)) (closed_all ms xs (map (closed no_names) (map (λ y. y.0) ys)) C)
    (y.1 (with_names xs B) (with_names xs C) (with_below xs B C h) (and_left a b q)) (wider_all ms xs ys B C h (and_right a b q))
wider_all (false ∷ ms) xs (y ∷ ys) B C h q =
    let a : Bool = closed no_names y.0 B in
    let b : Bool = closed_all ms xs (map (closed no_names) (map (λ y. y.0) ys)) B in
    and_both (closed no_names y.0 C) (closed_all ms xs (map (closed no_names) (map (λ y. y.0) ys)) C) (y.1 B C h (and_left a b q)) (wider_all ms xs ys B C h (and_right a b q))

role_wider : (o : Role) (B C : Names) → Below B C → IsTrue (role_reads no_names B o) → IsTrue (role_reads no_names C o)
role_wider (Named x) B C h q = q
role_wider (Held x) B C h q = h x q
role_wider (Lets ds) B C h q = refl
role_wider (Plain_role ms) B C h q = refl

wider : (e : Expr) → Wider e
wider = ind-Expr Wider (λ x y is. subst (λ (z : Expr-F Expr). Wider (roll-Expr z)) is (λ B C h q.
    let z : Expr-F Expr = map-Expr ((e : Expr) × Wider e) Expr (λ e. e.0) y in
    let o : Role = role z.op (length z.binds) in
    let a : Bool = role_reads no_names B o in
    let b : Bool = closed_all (marks o) z.binds (map (closed no_names) z.args) B in
    let k : IsTrue (a && b) = sym (closed-roll z B) ∙ q in
    closed-roll z C
    ∙ and_both (role_reads no_names C o) (closed_all (marks o) z.binds (map (closed no_names) z.args) C)
    (role_wider o B C h (and_left a b k)) (wider_all (marks o) z.binds y.args B C h (and_right a b k))))

-- ---- what paths choose was not bound

abbrev Apart : Names → Way Step → Type 0
Apart B y = IsTrue (outside B (chosen y.steps))

abbrev is_out : Names → ℕ → Bool
is_out B n = not (B (number_name n))

all_both : {X : Type 0} (f : X → Bool) (xs ys : List X) → IsTrue (list_all f xs) → IsTrue (list_all f ys) → IsTrue (list_all f (xs ++ ys))
all_both f [] ys h g = g
all_both f (x ∷ xs) ys h g = and_both (f x) (list_all f (xs ++ ys)) (and_left (f x) (list_all f xs) h) (all_both f xs ys (and_right (f x) (list_all f xs) h) g)

chosen_both : (xs ys : List Step) → chosen (xs ++ ys) ≡ chosen xs ++ chosen ys
chosen_both [] ys = refl
chosen_both (x ∷ xs) ys = ap (λ l. chosen_at x ++ l) (chosen_both xs ys) ∙ sym (append_three (chosen_at x) (chosen xs) (chosen ys))
  where
    append_three : (a b c : List ℕ) → (a ++ b) ++ c ≡ a ++ (b ++ c)
    append_three [] b c = refl
    append_three (z ∷ a) b c = ap (λ l. z ∷ l) (append_three a b c)

each_both : {X : Type 0} (P : X → Type 0) (xs ys : List X) → Each P xs → Each P ys → Each P (xs ++ ys)
each_both P [] ys h g = g
each_both P (x ∷ xs) ys h g = (h.0, each_both P xs ys h.1 g)

each_map : {X Y : Type 0} (P : Y → Type 0) (f : X → Y) (xs : List X) → Each (λ x. P (f x)) xs → Each P (map f xs)
each_map P f [] h = tt
each_map P f (x ∷ xs) h = (h.0, each_map P f xs h.1)

one_apart : (B : Names) (a : Way Step) (bs : List (Way Step)) → Apart B a → Each (Apart B) bs → Each (Apart B) (map (one_after a) bs)
one_apart B a [] h g = tt
one_apart B a (b ∷ bs) h g =
    (subst (λ l. IsTrue (outside B l)) (sym (chosen_both a.steps b.steps)) (all_both (is_out B) (chosen a.steps) (chosen b.steps) h g.0), one_apart B a bs h g.1)

after_apart : (B : Names) (a : Way Step) (bs : List (Way Step)) (c : Bool) → Apart B a → Each (Apart B) bs → Each (Apart B) (if c then a ∷ [] else map (one_after a) bs)
after_apart B a bs true h g = (h, tt)
after_apart B a bs false h g = one_apart B a bs h g

each_after_apart : (B : Names) (as' bs : List (Way Step)) → Each (Apart B) as' → Each (Apart B) bs → Each (Apart B) (after_each ends_at as' bs)
each_after_apart B [] bs h g = tt
each_after_apart B (a ∷ as') bs h g =
    each_both (Apart B) (after ends_at a bs) (after_each ends_at as' bs) (after_apart B a bs (has_ended ends_at a.steps) h.0 g) (each_after_apart B as' bs h.1 g)

abbrev with_ways : Marks → List Ker → List (Ker × List (Way Step))
with_ways m ks = map (λ k. (k, ways m k)) ks

abbrev ChoosesNew : Marks → Ker → Type 0
ChoosesNew m k = (B : Names) → IsTrue (scoped k B) → Each (Apart B) (ways m k)

-- children that all stand in the node's scope
abbrev AllScoped : Names → List Ker → Type 0
AllScoped B ks = IsTrue (closed_all [] [] (map scoped ks) B)

pub plain_scoped : (xs : List (List ℕ)) (ks : List Ker) (B : Names) → IsTrue (closed_all [] xs (map scoped ks) B) → Each (λ k. IsTrue (scoped k B)) ks
plain_scoped xs [] B h = tt
plain_scoped xs (k ∷ ks) B h =
    (and_left (scoped k B) (closed_all [] xs (map scoped ks) B) h, plain_scoped xs ks B (and_right (scoped k B) (closed_all [] xs (map scoped ks) B) h))

pub body_scoped : (n : ℕ) (xs : List (List ℕ)) (ks : List Ker) (k : Ker) (B : Names) → IsTrue (closed_all (replicate n false ++ true ∷ []) xs (map scoped ks) B) →
    slice_get ks n ≡ Some k → IsTrue (scoped k (with_names xs B))
body_scoped n xs [] k B h q = absurd (none≢some q)
body_scoped zero xs (x ∷ ks) k B h q = subst (λ y. IsTrue (scoped y (with_names xs B))) (some_same q) (and_left (scoped x (with_names xs B)) (closed_all [] xs (map scoped ks) B) h)
  where
    some_same : {X : Type 0} {x y : X} → Some x ≡ Some y → x ≡ y
    some_same q = cc
body_scoped (suc n) xs (x ∷ ks) k B h q = body_scoped n xs ks k B (and_right (scoped x B) (closed_all (replicate n false ++ true ∷ []) xs (map scoped ks) B) h) q

all_new : (m : Marks) (B : Names) (ks : List Ker) → Each (ChoosesNew m) ks → Each (λ k. IsTrue (scoped k B)) ks → Each (Apart B) (all_of ends_at (map (λ k. k.1) (with_ways m ks)))
all_new m B [] h g = (refl, tt)
all_new m B (k ∷ ks) h g = each_after_apart B (ways m k) (all_of ends_at (map (λ k. k.1) (with_ways m ks))) (h.0 B g.0) (all_new m B ks h.1 g.1)

branch_new : (B : Names) (front : List Step) (k : Ker) (ys : List (Way Step)) → chosen front ≡ [] → Each (Apart B) ys → Each (Apart B) (branch front (out-Ker k).place ys)
branch_new B front k [] q h = tt
branch_new B front k (y ∷ ys) q h =
    (subst (λ l. IsTrue (outside B l)) (sym (chosen_both front y.steps ∙ ap (λ l. l ++ chosen y.steps) q)) h.0, branch_new B front k ys q h.1)

any_new : (m : Marks) (B : Names) (ks : List Ker) → Each (ChoosesNew m) ks → Each (λ k. IsTrue (scoped k B)) ks → Each (Apart B) (any_of (rooted (with_ways m ks)))
any_new m B [] h g = tt
any_new m B (k ∷ ks) h g =
    each_both (Apart B) (branch [] (out-Ker k).place (ways m k)) (any_of (rooted (with_ways m ks))) (branch_new B [] k (ways m k) refl (h.0 B g.0)) (any_new m B ks h.1 g.1)

if_new : (m : Marks) (B : Names) (self : Ker) (p : Place) (ks : List Ker) → Each (ChoosesNew m) ks → Each (λ k. IsTrue (scoped k B)) ks → Each (Apart B) (if_ways self p (with_ways m ks))
if_new m B self p [] h g = (refl, tt)
if_new m B self p (c ∷ []) h g = (refl, tt)
if_new m B self p (c ∷ a ∷ []) h g = (refl, tt)
if_new m B self p (c ∷ a ∷ b ∷ []) h g =
    each_both (Apart B) (branch (Branch p c true ∷ []) (out-Ker a).place (ways m a)) (branch (Branch p c false ∷ []) (out-Ker b).place (ways m b))
    (branch_new B (Branch p c true ∷ []) a (ways m a) refl (h.1.0 B g.1.0)) (branch_new B (Branch p c false ∷ []) b (ways m b) refl (h.1.1.0 B g.1.1.0))
if_new m B self p (c ∷ a ∷ b ∷ d ∷ ks) h g = (refl, tt)

either_new : (B : Names) (self : Ker) (ys : List (Way Step)) (c : Bool) → Each (Apart B) ys → Each (Apart B) (if c then ys else alone (Holds self))
either_new B self ys true h = h
either_new B self ys false h = (refl, tt)

-- what is outside of more names is outside of fewer
fewer_names : (xs : List (List ℕ)) (B : Names) (ns : List ℕ) → IsTrue (outside (with_names xs B) ns) → IsTrue (outside B ns)
fewer_names xs B [] h = refl
fewer_names xs B (n ∷ ns) h =
    and_both (is_out B n) (outside B ns) (by (list_any (same_text (number_name n)) xs) (B (number_name n)) (and_left (is_out (with_names xs B) n) (outside (with_names xs B) ns) h))
    (fewer_names xs B ns (and_right (is_out (with_names xs B) n) (outside (with_names xs B) ns) h))
  where
    by : (a b : Bool) → IsTrue (not (a || b)) → IsTrue (not b)
    by true b h = absurd (false≢true h)
    by false b h = h

zip_outside : (B : Names) (ns : List ℕ) (ks : List Ker) → IsTrue (outside B ns) → IsTrue (outside B (numbers (zip ns ks)))
zip_outside B [] ks h = refl
zip_outside B (n ∷ ns) [] h = refl
zip_outside B (n ∷ ns) (k ∷ ks) h = and_both (is_out B n) (outside B (numbers (zip ns ks))) (and_left (is_out B n) (outside B ns) h) (zip_outside B ns ks (and_right (is_out B n) (outside B ns) h))

choice_new : (B : Names) (xs : List (List ℕ)) (ps : List (ℕ × Ker)) (p : Place) (ys : List (Way Step)) → IsTrue (outside B (numbers ps)) → Each (Apart (with_names xs B)) ys →
    Each (Apart B) (map (λ y. record { taken = y.taken; steps = Choice p ps ∷ y.steps }) ys)
choice_new B xs ps p [] h g = tt
choice_new B xs ps p (y ∷ ys) h g =
    (all_both (is_out B) (numbers ps) (chosen y.steps) h (fewer_names xs B (chosen y.steps) g.0), choice_new B xs ps p ys h g.1)

child_new : (m : Marks) (ks : List Ker) (n : ℕ) (k : Ker) → Each (ChoosesNew m) ks → slice_get ks n ≡ Some k → ChoosesNew m k
child_new m [] n k h q = absurd (none≢some q)
child_new m (x ∷ ks) zero k h q = subst (ChoosesNew m) (some_same q) h.0
  where
    some_same : {X : Type 0} {x y : X} → Some x ≡ Some y → x ≡ y
    some_same q = cc
child_new m (x ∷ ks) (suc n) k h q = child_new m ks n k h.1 q

length_names : (xs : List ℕ) → length (names_of xs) ≡ length xs
length_names [] = refl
length_names (x ∷ xs) = ap suc (length_names xs)

some_new : (m : Marks) (B : Names) (self : Ker) (p : Place) (xs : List ℕ) (ps : List (ℕ × Ker)) (ks : List Ker) (o : Option Ker) → slice_get ks (length xs) ≡ o →
    Each (ChoosesNew m) ks → IsTrue (outside B (numbers ps)) → IsTrue (closed_all (replicate (length xs) false ++ true ∷ []) (names_of xs) (map scoped ks) B) →
    Each (Apart B) (choice_ways self p ps (option_map (λ k. (k, ways m k)) o))
some_new m B self p xs ps ks None q h n g = (refl, tt)
some_new m B self p xs ps ks (Some k) q h n g =
    choice_new B (names_of xs) ps p (ways m k) n (child_new m ks (length xs) k h q (with_names (names_of xs) B) (body_scoped (length xs) (names_of xs) ks k B g q))

node_new : (m : Marks) (B : Names) (self : Ker) (p : Place) (o : KerOp) (xs : List ℕ) (ks : List Ker) → Each (ChoosesNew m) ks → IsTrue (outside B xs) →
    IsTrue (closed_all (marks (role (op_of o) (length xs))) (names_of xs) (map scoped ks) B) → Each (Apart B) (ways_of m o self p xs (with_ways m ks))
node_new m B self p ker.And xs ks h n g = all_new m B ks h (plain_scoped (names_of xs) ks B g)
node_new m B self p ker.Or xs ks h n g = either_new B self (any_of (rooted (with_ways m ks))) (any_mentions m (with_ways m ks)) (any_new m B ks h (plain_scoped (names_of xs) ks B g))
node_new m B self p ker.If xs ks h n g =
    either_new B self (if_ways self p (with_ways m ks)) (any_mentions m (with_ways m ks)) (if_new m B self p ks h (plain_scoped (names_of xs) ks B g))
node_new m B self p ker.Some xs ks h n g =
    let ps : List (ℕ × Ker) = zip xs (map (λ k. k.0) (take (length xs) (with_ways m ks))) in
    subst (λ o. Each (Apart B) (choice_ways self p ps o)) (sym (slice_get-map (λ k. (k, ways m k)) ks (length xs)))
    (some_new m B self p xs ps ks (slice_get ks (length xs)) refl h (zip_outside B xs (map (λ k. k.0) (take (length xs) (with_ways m ks))) n) g)
node_new m B self p o xs ks h n g = (refl, tt)

-- ---- the parts of being scoped

module _ (x : Ker-F Ker) (B : Names) (h : IsTrue (scoped (roll-Ker x) B)) where
  scoped_parts : IsTrue ((reads_in B x.op && differ x.binds) && (outside B x.binds && closed_all (marks (role (op_of x.op) (length (names_of x.binds)))) (names_of x.binds) (map scoped x.args) B))
  scoped_parts = sym (scoped-roll x B) ∙ h

  new_part : IsTrue (outside B x.binds)
  new_part =
      let c : Bool = closed_all (marks (role (op_of x.op) (length (names_of x.binds)))) (names_of x.binds) (map scoped x.args) B in
      and_left (outside B x.binds) c (and_right (reads_in B x.op && differ x.binds) (outside B x.binds && c) scoped_parts)

  pub children_part : IsTrue (closed_all (marks (role (op_of x.op) (length x.binds))) (names_of x.binds) (map scoped x.args) B)
  children_part =
      let c : Bool = closed_all (marks (role (op_of x.op) (length (names_of x.binds)))) (names_of x.binds) (map scoped x.args) B in
      subst (λ n. IsTrue (closed_all (marks (role (op_of x.op) n)) (names_of x.binds) (map scoped x.args) B)) (length_names x.binds)
      (and_right (outside B x.binds) c (and_right (reads_in B x.op && differ x.binds) (outside B x.binds && c) scoped_parts))

pub chooses_new : (m : Marks) (k : Ker) → ChoosesNew m k
chooses_new m = by_nodes (ChoosesNew m) (λ x h B q.
    subst (Each (Apart B)) (sym (ways-roll m x)) (node_new m B (roll-Ker x) x.place x.op x.binds x.args h (new_part x B q) (children_part x B q)))

-- ---- so no operand reads them

but_at : (x : List ℕ) (B : Names) (xs : List ℕ) → IsTrue (B x) → IsTrue (outside B xs) → list_any (same_text x) (names_of xs) ≡ false
but_at x B [] h q = refl
but_at x B (n ∷ ns) h q =
    by (same_text x (number_name n)) refl (and_left (is_out B n) (outside B ns) q) (but_at x B ns h (and_right (is_out B n) (outside B ns) q))
  where
    not_true : (b : Bool) → IsTrue b → IsTrue (not b) → ⊥
    not_true true h k = false≢true k
    not_true false h k = false≢true h

    by : (c : Bool) → same_text x (number_name n) ≡ c → IsTrue (not (B (number_name n))) → list_any (same_text x) (names_of ns) ≡ false →
        (c || list_any (same_text x) (names_of ns)) ≡ false
    by true e k r = absurd (not_true (B (number_name n)) (subst (λ z. IsTrue (B z)) (texts_equal x (number_name n) (equal_of (text_cmp x (number_name n)) e)) h) k)
    by false e k r = r

below_but : (B : Names) (xs : List ℕ) → IsTrue (outside B xs) → Below B (but xs)
below_but B xs q x h = ap (λ b. not (b || false)) (but_at x B xs h q)

unread_by : (B : Names) (y : Way Step) (ks : List Ker) → Apart B y → Each (λ k. IsTrue (scoped k B)) ks → IsTrue (unread ks y)
unread_by B y [] h g = refl
unread_by B y (k ∷ ks) h g =
    and_both (closed no_names (as_expr k) (but (chosen y.steps))) (unread ks y)
    (wider (as_expr k) B (but (chosen y.steps)) (below_but B (chosen y.steps) h) (scoped_closed k B g.0)) (unread_by B y ks h g.1)

all_unread : (B : Names) (ys : List (Way Step)) (ks : List Ker) → Each (Apart B) ys → Each (λ k. IsTrue (scoped k B)) ks → IsTrue (list_all (unread ks) ys)
all_unread B [] ks h g = refl
all_unread B (y ∷ ys) ks h g = and_both (unread ks y) (list_all (unread ks) ys) (unread_by B y ks h.0 g) (all_unread B ys ks h.1 g)

trees_of : (m : Marks) (ks : List Ker) → map (λ (k : Ker × List (Way Step)). k.0) (with_ways m ks) ≡ ks
trees_of m [] = refl
trees_of m (k ∷ ks) = ap (λ l. k ∷ l) (trees_of m ks)

all_separate : (m : Marks) (B : Names) (ks : List Ker) → Each (λ k. IsTrue (scoped k B)) ks → IsTrue (separate_all (with_ways m ks))
all_separate m B [] h = refl
all_separate m B (k ∷ ks) h =
    and_both (list_all (unread (map (λ k. k.0) (with_ways m ks))) (ways m k)) (separate_all (with_ways m ks))
    (subst (λ l. IsTrue (list_all (unread l) (ways m k))) (sym (trees_of m ks)) (all_unread B (ways m k) ks (chooses_new m k B h.0) h.1))
    (all_separate m B ks h.1)

abbrev Separate : Marks → Ker → Type 0
Separate m k = (B : Names) → IsTrue (scoped k B) → IsTrue (separate m k)

plain_separate : (m : Marks) (B : Names) (ks : List Ker) → Each (Separate m) ks → Each (λ k. IsTrue (scoped k B)) ks → IsTrue (list_all (λ b. b) (map (separate m) ks))
plain_separate m B [] h g = refl
plain_separate m B (k ∷ ks) h g = and_both (separate m k) (list_all (λ b. b) (map (separate m) ks)) (h.0 B g.0) (plain_separate m B ks h.1 g.1)

-- under marks, each child is scoped by some names
marked_separate : (m : Marks) (ms : List Bool) (xs : List (List ℕ)) (B : Names) (ks : List Ker) → Each (Separate m) ks → IsTrue (closed_all ms xs (map scoped ks) B) →
    IsTrue (list_all (λ b. b) (map (separate m) ks))
marked_separate m ms xs B [] h g = refl
marked_separate m [] xs B (k ∷ ks) h g =
    let a : Bool = scoped k B in
    let b : Bool = closed_all [] xs (map scoped ks) B in
    and_both (separate m k) (list_all (λ b. b) (map (separate m) ks)) (h.0 B (and_left a b g)) (marked_separate m [] xs B ks h.1 (and_right a b g))
marked_separate m (true ∷ ms) xs B (k ∷ ks) h g =
    let a : Bool = scoped k (with_names xs B) in
    let b : Bool = closed_all ms xs (map scoped ks) B in
    and_both (separate m k) (list_all (λ b. b) (map (separate m) ks)) (h.0 (with_names xs B) (and_left a b g)) (marked_separate m ms xs B ks h.1 (and_right a b g))
marked_separate m (false ∷ ms) xs B (k ∷ ks) h g =
    let a : Bool = scoped k B in
    let b : Bool = closed_all ms xs (map scoped ks) B in
    and_both (separate m k) (list_all (λ b. b) (map (separate m) ks)) (h.0 B (and_left a b g)) (marked_separate m ms xs B ks h.1 (and_right a b g))

node_separate : (m : Marks) (B : Names) (o : KerOp) (xs : List ℕ) (ks : List Ker) → Each (Separate m) ks →
    IsTrue (closed_all (marks (role (op_of o) (length xs))) (names_of xs) (map scoped ks) B) → IsTrue (separate_at m o xs (with_ways m ks) (map (separate m) ks))
node_separate m B ker.And xs ks h g =
    and_both (separate_all (with_ways m ks)) (list_all (λ b. b) (map (separate m) ks))
    (all_separate m B ks (plain_scoped (names_of xs) ks B g)) (plain_separate m B ks h (plain_scoped (names_of xs) ks B g))
node_separate m B ker.Or xs ks h g = plain_separate m B ks h (plain_scoped (names_of xs) ks B g)
node_separate m B ker.If xs ks h g = plain_separate m B ks h (plain_scoped (names_of xs) ks B g)
node_separate m B ker.Some xs ks h g = marked_separate m (replicate (length xs) false ++ true ∷ []) (names_of xs) B ks h g
node_separate m B o xs ks h g = refl

-- a tree that binds no number again has separate operands
pub scoped_separate : (m : Marks) (k : Ker) → Separate m k
scoped_separate m = by_nodes (Separate m) (λ x h B q.
    separate-roll m x ∙ node_separate m B x.op x.binds x.args h (children_part x B q))
