-- In the expanded tree no defined name is left.
use Rattle.std.proofs.Common.{◌≡◌, ℕ, suc, ◌==◌, Bool, true, false, ◌&&◌, arith, IsTrue, List, [], ◌∷◌, ◌++◌, map, zip, take, drop, length, refl, ap, ◌∙◌, sym, subst, Option, Some, None, if◌then◌else◌}
use Rattle.std.specs.List.{list_all}
use Rattle.std.proofs.lemmas.Bool.{eqb-true}
use Rattle.tla_meaning.specs.declared.expr.Def.{Def}
use Rattle.tla_meaning.specs.declared.expr.Expr.{Expr, roll-Expr}
use Rattle.tla_meaning.specs.declared.expr.Expr.TheOpen.{Expr-F}
use Rattle.tla_meaning.specs.declared.expr.Expr.TheFolds.{fold-Expr, fold-roll-Expr, map-Expr, ind-Expr}
use Rattle.tla_meaning.specs.declared.modules.Flat.{Flat}
use Rattle.tla_meaning.specs.declared.op.Op.{Op}
use Rattle.tla_meaning.specs.declared.op.Op.TheVariants as op
use Rattle.tla_meaning.specs.declared.place.Place.{Place}
use Rattle.tla_meaning.specs.Scopes.{find_last, or_else, same_text}
use Rattle.op_inliner.specs.Known.{Arities, arities_of, wants, shaped, Uses, all_use, with_params, lets_use, node_uses, uses_known, definitions_known, are_known}
use Rattle.tla_meaning.specs.Folds.{with_lambdas}
use Rattle.op_inliner.specs.Annotations.{body_of}
use Rattle.op_inliner.proofs.Notes.{body_uses}
use Rattle.op_inliner.proofs.Rolls.{uses-roll}
use Rattle.op_inliner.specs.Expansion.{assumed, conjunction_of, first_place}
use Rattle.op_inliner.specs.Inlining.{Tree, Names, Writing, called, children, define_name, let_names, names_of_module, new_name, no_names, pass_names, rename_held, tree_at, trees, with_names, write, written, written_of, bind_names, level_names}
use Rattle.tla_meaning.specs.Meaning.{Role, Named, Held, Lets, Plain_role, role}
use Rattle.op_inliner.proofs.Inlined.{written-roll}
use Rattle.tla_meaning.proofs.Views.{and_left, and_right, and_both, false≢true}

-- no name is used, and the operators that stand for other trees have their operands
abbrev pub tidy_op : Op → ℕ → Bool
tidy_op (op.Use x) n = false
tidy_op (op.Param x) n = false
tidy_op (op.Let ds) n = false
tidy_op o n = shaped o n

abbrev pub tidy : Expr → Bool
tidy = fold-Expr Bool (λ x. tidy_op x.op (length x.args) && list_all (λ b. b) x.args)

pub length_map : {X : Type 0} {Y : Type 0} (f : X → Y) (xs : List X) → length (map f xs) ≡ length xs
length_map f [] = refl
length_map f (x ∷ xs) = ap suc (length_map f xs)

pub tidy-roll : (x : Expr-F Expr) → tidy (roll-Expr x) ≡ (tidy_op x.op (length x.args) && list_all (λ b. b) (map tidy x.args))
tidy-roll x =
    fold-roll-Expr Bool (λ x. tidy_op x.op (length x.args) && list_all (λ b. b) x.args) x
    ∙ ap (λ n. tidy_op x.op n && list_all (λ b. b) (map tidy x.args)) (length_map tidy x.args)

-- a tree is tidy at every level
abbrev Tidy : Tree → Type 0
Tidy t = (n : ℕ) → IsTrue (tidy (t n))

abbrev AllTidy : List Tree → Type 0
AllTidy [] = Unit {0}
AllTidy (t ∷ ts) = Tidy t × AllTidy ts

-- of so many tidy trees it makes a tidy one
abbrev Makes : (List Tree → Tree) → ℕ → Type 0
Makes f k = (ts : List Tree) → length ts ≡ k → AllTidy ts → Tidy (f ts)

abbrev AllMake : List (List ℕ × (List Tree → Tree)) → Arities → Type 0
AllMake [] [] = Unit {0}
AllMake [] (a ∷ as') = ⊥
AllMake (f ∷ fs) [] = ⊥
AllMake (f ∷ fs) (a ∷ as') = (f.0 ≡ a.0) × Makes f.1 a.1 × AllMake fs as'

abbrev OneMakes : Option (List Tree → Tree) → Option ℕ → Type 0
OneMakes None None = Unit {0}
OneMakes None (Some k) = ⊥
OneMakes (Some f) None = ⊥
OneMakes (Some f) (Some k) = Makes f k

one_makes : (f : List Tree → Tree) (k : ℕ) (c : Bool) (o : Option (List Tree → Tree)) (q : Option ℕ) → OneMakes o q → Makes f k →
    OneMakes (or_else o (if c then Some f else None)) (or_else q (if c then Some k else None))
one_makes f k true None None h m = m
one_makes f k false None None h m = tt
one_makes f k c None (Some e) h m = absurd h
one_makes f k c (Some g) None h m = absurd h
one_makes f k c (Some g) (Some e) h m = h

pub found : (z : List ℕ) (fs : List (List ℕ × (List Tree → Tree))) (as' : Arities) → AllMake fs as' → OneMakes (find_last z fs) (find_last z as')
found z [] [] h = tt
found z [] (a ∷ as') h = absurd h
found z (f ∷ fs) [] h = absurd h
found z (f ∷ fs) (a ∷ as') h =
    subst (λ (y : List ℕ). OneMakes (or_else (find_last z fs) (if same_text z f.0 then Some f.1 else None)) (or_else (find_last z as') (if same_text z y then Some a.1 else None))) h.0
    (one_makes f.1 a.1 (same_text z f.0) (find_last z fs) (find_last z as') (found z fs as' h.2) h.1)

make_more : (fs gs : List (List ℕ × (List Tree → Tree))) (as' bs : Arities) → AllMake fs as' → AllMake gs bs → AllMake (fs ++ gs) (as' ++ bs)
make_more [] gs [] bs h k = k
make_more [] gs (a ∷ as') bs h k = absurd h
make_more (f ∷ fs) gs [] bs h k = absurd h
make_more (f ∷ fs) gs (a ∷ as') bs h k = (h.0, h.1, make_more fs gs as' bs h.2 k)

passed : (xs : List (List ℕ)) (ts : List Tree) → length ts ≡ length xs → AllTidy ts → AllMake (zip xs (map (λ t. λ _. t) ts)) (map (λ x. (x, 0)) xs)
passed [] ts e h = tt
passed (x ∷ xs) [] e h = absurd (cc)
passed (x ∷ xs) (t ∷ ts) e h = (refl, λ us l k. h.0, passed xs ts (let k = e in omega (arith, k)) h.1)

pub call_tidy : (p : Place) (f : Option (List Tree → Tree)) (o : Option ℕ) → OneMakes f o → (ts : List Tree) → IsTrue (wants (length ts) o) → AllTidy ts →
    Tidy (called p f ts)
call_tidy p None None m ts h k n = absurd (false≢true h)
call_tidy p None (Some j) m ts h k n = absurd m
call_tidy p (Some f) None m ts h k n = absurd m
call_tidy p (Some f) (Some j) m ts h k n = m ts (sym (eqb-true j (length ts) h)) k n

abbrev Leaves : Expr → Type 0
Leaves e = (ns : Names) (as' : Arities) → AllMake ns.named as' → IsTrue (uses_known e as') → Tidy (written e ns)

abbrev Child : Type 0
Child = (e : Expr) × Leaves e

abbrev exprs : List Child → List Expr
exprs ys = map (λ y. y.0) ys

trees_tidy : (ys : List Child) (ns : Names) (as' : Arities) → AllMake ns.named as' → IsTrue (all_use (map uses_known (exprs ys)) as') →
    AllTidy (trees (map written (exprs ys)) ns)
trees_tidy [] ns as' m h = tt
trees_tidy (y ∷ ys) ns as' m h =
    let all : Bool = all_use (map uses_known (exprs ys)) as' in
    (y.1 ns as' m (and_left (uses_known y.0 as') all h), trees_tidy ys ns as' m (and_right (uses_known y.0 as') all h))

length_trees : (ys : List Child) (ns : Names) → length (trees (map written (exprs ys)) ns) ≡ length (map uses_known (exprs ys))
length_trees [] ns = refl
length_trees (y ∷ ys) ns = ap suc (length_trees ys ns)

length_children : (ms : List Bool) (ys : List Child) (ns us : Names) (n : ℕ) → length (children ms (map written (exprs ys)) ns us n) ≡ length (map uses_known (exprs ys))
length_children ms [] ns us n = refl
length_children [] (y ∷ ys) ns us n = ap suc (length_children [] ys ns us n)
length_children (true ∷ ms) (y ∷ ys) ns us n = ap suc (length_children ms ys ns us n)
length_children (false ∷ ms) (y ∷ ys) ns us n = ap suc (length_children ms ys ns us n)

children_tidy : (ms : List Bool) (ys : List Child) (ns us : Names) (as' : Arities) → AllMake ns.named as' → AllMake us.named as' →
    IsTrue (all_use (map uses_known (exprs ys)) as') → (n : ℕ) → IsTrue (list_all (λ b. b) (map tidy (children ms (map written (exprs ys)) ns us n)))
children_tidy ms [] ns us as' m l h n = refl
children_tidy [] (y ∷ ys) ns us as' m l h n =
    let all : Bool = all_use (map uses_known (exprs ys)) as' in
    and_both (tidy (written y.0 ns n)) (list_all (λ b. b) (map tidy (children [] (map written (exprs ys)) ns us n)))
    (y.1 ns as' m (and_left (uses_known y.0 as') all h) n) (children_tidy [] ys ns us as' m l (and_right (uses_known y.0 as') all h) n)
children_tidy (true ∷ ms) (y ∷ ys) ns us as' m l h n =
    let all : Bool = all_use (map uses_known (exprs ys)) as' in
    and_both (tidy (written y.0 us (suc n))) (list_all (λ b. b) (map tidy (children ms (map written (exprs ys)) ns us n)))
    (y.1 us as' l (and_left (uses_known y.0 as') all h) (suc n)) (children_tidy ms ys ns us as' m l (and_right (uses_known y.0 as') all h) n)
children_tidy (false ∷ ms) (y ∷ ys) ns us as' m l h n =
    let all : Bool = all_use (map uses_known (exprs ys)) as' in
    and_both (tidy (written y.0 ns n)) (list_all (λ b. b) (map tidy (children ms (map written (exprs ys)) ns us n)))
    (y.1 ns as' m (and_left (uses_known y.0 as') all h) n) (children_tidy ms ys ns us as' m l (and_right (uses_known y.0 as') all h) n)

define_makes : (ns : Names) (as' : Arities) → AllMake ns.named as' → (x : List ℕ) (f : List Tree → Tree) (k : ℕ) → Makes f k →
    AllMake (define_name x f ns).named (as' ++ (x, k) ∷ [])
define_makes ns as' m x f k h = make_more ns.named ((x, f) ∷ []) as' ((x, k) ∷ []) m (refl, h, tt)

pass_makes : (ns : Names) (as' : Arities) → AllMake ns.named as' → (xs : List (List ℕ)) (ts : List Tree) → length ts ≡ length xs → AllTidy ts →
    AllMake (pass_names xs ts ns).named (with_params xs as')
pass_makes ns as' m xs ts e h = make_more ns.named (zip xs (map (λ t. λ _. t) ts)) as' (map (λ x. (x, 0)) xs) m (passed xs ts e h)

-- the tree of a LET is that of its last child
lets_tidy : (p : Place) (ds : List (List ℕ × ℕ)) (xs : List (List ℕ)) (ys : List Child) (ns : Names) (as' : Arities) → AllMake ns.named as' →
    IsTrue (lets_use ds xs (map uses_known (exprs ys)) as') →
    Tidy (tree_at p (length ds) (trees (map written (exprs ys)) (let_names ds xs (map written (exprs ys)) ns)))
lets_tidy p [] xs [] ns as' m h n = absurd (false≢true h)
lets_tidy p [] xs (y ∷ ys) ns as' m h n = y.1 ns as' m h n
lets_tidy p (d ∷ ds) xs [] ns as' m h n = absurd (false≢true h)
lets_tidy p (d ∷ ds) xs (y ∷ ys) ns as' m h n =
    let ps : List (List ℕ) = take d.1 xs in
    let f : List Tree → Tree = λ ts. written y.0 (pass_names ps ts ns) in
    let a : Bool = length ps == d.1 in
    let b : Bool = uses_known y.0 (with_params ps as') in
    let c : Bool = lets_use ds (drop d.1 xs) (map uses_known (exprs ys)) (as' ++ (d.0, d.1) ∷ []) in
    lets_tidy p ds (drop d.1 xs) ys (define_name d.0 f ns) (as' ++ (d.0, d.1) ∷ [])
    (define_makes ns as' m d.0 f d.1 (λ ts e k. y.1 (pass_names ps ts ns) (with_params ps as')
    (pass_makes ns as' m ps ts (e ∙ sym (eqb-true (length ps) d.1 (and_left a b (and_left (a && b) c h)))) k) (and_right a b (and_left (a && b) c h))))
    (and_right (a && b) c h) n

plain_tidy : (o : Op) (n k : ℕ) (ms : List Bool) → role o k ≡ Plain_role ms → IsTrue (shaped o n) → IsTrue (tidy_op o n)
plain_tidy (op.Use x) n k ms e h = absurd (cc)
plain_tidy (op.Param x) n k ms e h = absurd (cc)
plain_tidy (op.Let ds) n k ms e h = absurd (cc)
plain_tidy o n k ms e h = h

pub held_tidy : (y : List ℕ) (o : Op) (n k : ℕ) (z : List ℕ) → role o k ≡ Held z → IsTrue (tidy_op (rename_held y o) n)
held_tidy y (op.Bound x) n k z e = refl
held_tidy y o n k z e = absurd (cc)

node_tidy : (p : Place) (o : Op) (xs : List (List ℕ)) (ys : List Child) (q : Role) → role o (length xs) ≡ q → (ns : Names) (as' : Arities) → AllMake ns.named as' →
    IsTrue (node_uses (record { place = p; op = o; args = map uses_known (exprs ys); binds = xs }) q as') →
    Tidy (write (record { place = p; op = o; args = map written (exprs ys); binds = xs }) q ns)
node_tidy p o xs ys (Named z) e ns as' m h n =
    let a : Bool = wants (length (map uses_known (exprs ys))) (find_last z as') in
    let b : Bool = all_use (map uses_known (exprs ys)) as' in
    call_tidy p (find_last z ns.named) (find_last z as') (found z ns.named as' m) (trees (map written (exprs ys)) ns)
    (subst (λ k. IsTrue (wants k (find_last z as'))) (sym (length_trees ys ns)) (and_left a b h)) (trees_tidy ys ns as' m (and_right a b h)) n
node_tidy p o xs ys (Held z) e ns as' m h n =
    let es : List Expr = children [] (map written (exprs ys)) ns ns n in
    let y : List ℕ = new_name (find_last z ns.bound) in
    tidy-roll (record { place = p; op = rename_held y o; args = es; binds = xs })
    ∙ and_both (tidy_op (rename_held y o) (length es)) (list_all (λ b. b) (map tidy es)) (held_tidy y o (length es) (length xs) z e) (children_tidy [] ys ns ns as' m m h n)
node_tidy p o xs ys (Lets ds) e ns as' m h n = lets_tidy p ds xs ys ns as' m h n
node_tidy p o xs ys (Plain_role ms) e ns as' m h n =
    let us : Names = bind_names n xs ns in
    let es : List Expr = children ms (map written (exprs ys)) ns us n in
    let a : Bool = shaped o (length (map uses_known (exprs ys))) in
    let b : Bool = all_use (map uses_known (exprs ys)) as' in
    tidy-roll (record { place = p; op = o; args = es; binds = level_names n xs })
    ∙ and_both (tidy_op o (length es)) (list_all (λ b. b) (map tidy es))
    (plain_tidy o (length es) (length xs) ms e (subst (λ k. IsTrue (shaped o k)) (sym (length_children ms ys ns us n)) (and_left a b h)))
    (children_tidy ms ys ns us as' m m (and_right a b h) n)

-- what is written out where each use names what is known is tidy
pub leaves : (e : Expr) → Leaves e
leaves = ind-Expr Leaves (λ x y is.
    subst (λ (z : Expr-F Expr). Leaves (roll-Expr z)) is (λ ns as' m h n.
    let z : Expr-F Expr = map-Expr Child Expr (λ e. e.0) y in
    ap (λ (k : Writing). tidy (k ns n)) (written-roll z)
    ∙ node_tidy z.place z.op z.binds y.args (role z.op (length z.binds)) refl ns as' m (subst (λ (k : Uses). IsTrue (k as')) (uses-roll z) h) n))

-- ---- the definitions of a flat module

pub definitions_make : (ds : List Def) (ns : Names) (as' : Arities) → AllMake ns.named as' → IsTrue (definitions_known ds as') →
    AllMake (with_names ds ns).named (arities_of ds as')
definitions_make [] ns as' m h = m
definitions_make (d ∷ ds) ns as' m h =
    let f : List Tree → Tree = λ ts. written (body_of d) (pass_names d.params ts ns) in
    let a : Bool = uses_known (with_lambdas d.body) (with_params d.params as') in
    let b : Bool = definitions_known ds (as' ++ (d.name, length d.params) ∷ []) in
    definitions_make ds (define_name d.name f ns) (as' ++ (d.name, length d.params) ∷ [])
    (define_makes ns as' m d.name f (length d.params) (λ ts e k. leaves (body_of d) (pass_names d.params ts ns) (with_params d.params as')
    (pass_makes ns as' m d.params ts e k) (ap (λ (u : Uses). u (with_params d.params as')) (body_uses d) ∙ and_left a b h))) (and_right a b h)

pub module_makes : (flat : Flat) → IsTrue (definitions_known flat.defs []) → AllMake (names_of_module flat).named (arities_of flat.defs [])
module_makes flat h = definitions_make flat.defs no_names [] tt h

-- what is written of a name without parameters
pub name_tidy : (flat : Flat) (x : List ℕ) → IsTrue (definitions_known flat.defs []) → IsTrue (wants 0 (find_last x (arities_of flat.defs []))) →
    IsTrue (tidy (written_of flat first_place x))
name_tidy flat x h k =
    call_tidy first_place (find_last x (names_of_module flat).named) (find_last x (arities_of flat.defs []))
    (found x (names_of_module flat).named (arities_of flat.defs []) (module_makes flat h)) [] k tt 0

-- and of the assumptions
all_used : (es : List Expr) (as' : Arities) → IsTrue (list_all (λ e. uses_known (with_lambdas e) as') es) → IsTrue (all_use (map uses_known (map with_lambdas es)) as')
all_used [] as' h = refl
all_used (e ∷ es) as' h =
    let a : Bool = uses_known (with_lambdas e) as' in
    let b : Bool = list_all (λ e. uses_known (with_lambdas e) as') es in
    and_both a (all_use (map uses_known (map with_lambdas es)) as') (and_left a b h) (all_used es as' (and_right a b h))

conjunction_used : (es : List Expr) (as' : Arities) → IsTrue (all_use (map uses_known es) as') → IsTrue (uses_known (conjunction_of es) as')
conjunction_used [] as' h = ap (λ (u : Uses). u as') (uses-roll (record { place = first_place; op = op.Bool true; args = []; binds = [] }))
conjunction_used (e ∷ []) as' h = and_left (uses_known e as') true h
conjunction_used (e ∷ f ∷ es) as' h =
    ap (λ (u : Uses). u as') (uses-roll (record { place = first_place; op = op.And; args = e ∷ f ∷ es; binds = [] })) ∙ h

pub assumed_used : (flat : Flat) → IsTrue (are_known flat) → IsTrue (uses_known (assumed flat) (arities_of flat.defs []))
assumed_used flat h =
    conjunction_used (map with_lambdas flat.assumes) (arities_of flat.defs []) (all_used flat.assumes (arities_of flat.defs [])
    (and_right (definitions_known flat.defs []) (list_all (λ e. uses_known (with_lambdas e) (arities_of flat.defs [])) flat.assumes) h))

pub assumed_tidy : (flat : Flat) → IsTrue (are_known flat) → IsTrue (tidy (written (assumed flat) (names_of_module flat) 0))
assumed_tidy flat h =
    let as' : Arities = arities_of flat.defs [] in
    let a : Bool = definitions_known flat.defs [] in
    let b : Bool = list_all (λ e. uses_known (with_lambdas e) as') flat.assumes in
    leaves (assumed flat) (names_of_module flat) as' (module_makes flat (and_left a b h)) (assumed_used flat h) 0
