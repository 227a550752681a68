-- The count of a name is the size of its expanded tree.
use Rattle.std.proofs.Common.{◌≡◌, ℕ, zero, suc, Bool, true, false, List, [], ◌∷◌, ◌++◌, map, zip, take, drop, length, refl, ap, ap₂, ◌∙◌, sym, subst, Option, Some, None, if◌then◌else◌}
use Rattle.tla_meaning.specs.declared.expr.Def.{Def}
use Rattle.tla_meaning.specs.declared.expr.Expr.{Expr, roll-Expr}
use Rattle.tla_meaning.specs.declared.expr.Expr.TheOpen.{Expr-F}
use Rattle.tla_meaning.specs.declared.expr.Expr.TheFolds.{fold-roll-Expr, map-Expr, ind-Expr}
use Rattle.tla_meaning.specs.declared.modules.Flat.{Flat}
use Rattle.tla_meaning.specs.declared.op.Op.{Op}
use Rattle.tla_meaning.specs.declared.op.Op.TheVariants as op
use Rattle.tla_meaning.specs.declared.place.Place.{Place}
use Rattle.tla_meaning.specs.Meaning.{Role, Named, Held, Lets, Plain_role, role}
use Rattle.tla_meaning.specs.Scopes.{find_last, or_else, same_text}
use Rattle.op_inliner.specs.declared.parts.PartKind.{PartKind}
use Rattle.op_inliner.specs.Annotations.{body_of}
use Rattle.op_inliner.specs.Answers.{size}
use Rattle.op_inliner.specs.Expansion.{assumed, assumptions_expanded, expansion, finish, first_place, is_constant}
use Rattle.op_inliner.specs.Inlining.{Tree, Names, Writing, bind_names, called, children, define_name, let_names, level_names, lost, names_of_module, new_name, no_names, pass_names, rename_held, tree_at, trees, with_names, write, written, written_of}
use Rattle.op_inliner.specs.Primes.{turned}
use Rattle.op_inliner.specs.inner.Counting.{Count, Counting, Counts, assumed_count, called_count, count_at, count_node, count_of, counted, counts_at, counts_of, define_count, definitions_count, let_counts, no_count, node_count, pass_counts}
use Rattle.op_inliner.proofs.Backs.{size_back}
use Rattle.op_inliner.proofs.Inlined.{written-roll}
use Rattle.op_inliner.proofs.Sizes.{counts-roll, sized, tree_counts}

held_count : (y : List ℕ) (o : Op) (cs : List Count) → node_count (rename_held y o) cs ≡ node_count o cs
held_count y (op.Bound x) cs = refl
held_count y o cs = refl

-- ---- definitions

pub counted-roll : (x : Expr-F Expr) → counted (roll-Expr x) ≡ count_node (map-Expr Expr Counting counted x) (role x.op (length x.binds))
unfolding counted
counted-roll x = fold-roll-Expr Counting (λ x. count_node x (role x.op (length x.binds))) x

abbrev Has : Tree → Count → Type 0
Has t c = (n : ℕ) → tree_counts (t n) ≡ c

abbrev AllHave : List Tree → List Count → Type 0
AllHave [] [] = Unit {0}
AllHave [] (c ∷ cs) = ⊥
AllHave (t ∷ ts) [] = ⊥
AllHave (t ∷ ts) (c ∷ cs) = Has t c × AllHave ts cs

abbrev Gives : (List Tree → Tree) → (List Count → Count) → Type 0
Gives f d = (ts : List Tree) (cs : List Count) → AllHave ts cs → Has (f ts) (d cs)

abbrev AllGive : List (List ℕ × (List Tree → Tree)) → Counts → Type 0
AllGive [] [] = Unit {0}
AllGive [] (d ∷ ds) = ⊥
AllGive (f ∷ fs) [] = ⊥
AllGive (f ∷ fs) (d ∷ ds) = (f.0 ≡ d.0) × Gives f.1 d.1 × AllGive fs ds

abbrev OneGives : Option (List Tree → Tree) → Option (List Count → Count) → Type 0
OneGives None None = Unit {0}
OneGives None (Some d) = ⊥
OneGives (Some f) None = ⊥
OneGives (Some f) (Some d) = Gives f d

one_gives : (f : List Tree → Tree) (d : List Count → Count) (c : Bool) (o : Option (List Tree → Tree)) (q : Option (List Count → Count)) → OneGives o q → Gives f d →
    OneGives (or_else o (if c then Some f else None)) (or_else q (if c then Some d else None))
one_gives f d true None None h m = m
one_gives f d false None None h m = tt
one_gives f d c None (Some e) h m = absurd h
one_gives f d c (Some g) None h m = absurd h
one_gives f d c (Some g) (Some e) h m = h

found : (z : List ℕ) (fs : List (List ℕ × (List Tree → Tree))) (ds : Counts) → AllGive fs ds → OneGives (find_last z fs) (find_last z ds)
found z [] [] h = tt
found z [] (d ∷ ds) h = absurd h
found z (f ∷ fs) [] h = absurd h
found z (f ∷ fs) (d ∷ ds) h =
    subst (λ (y : List ℕ). OneGives (or_else (find_last z fs) (if same_text z f.0 then Some f.1 else None)) (or_else (find_last z ds) (if same_text z y then Some d.1 else None))) h.0
    (one_gives f.1 d.1 (same_text z f.0) (find_last z fs) (find_last z ds) (found z fs ds h.2) h.1)

give_more : (fs gs : List (List ℕ × (List Tree → Tree))) (ds es : Counts) → AllGive fs ds → AllGive gs es → AllGive (fs ++ gs) (ds ++ es)
give_more [] gs [] es h k = k
give_more [] gs (d ∷ ds) es h k = absurd h
give_more (f ∷ fs) gs [] es h k = absurd h
give_more (f ∷ fs) gs (d ∷ ds) es h k = (h.0, h.1, give_more fs gs ds es h.2 k)

passed : (xs : List (List ℕ)) (ts : List Tree) (cs : List Count) → AllHave ts cs → AllGive (zip xs (map (λ t. λ _. t) ts)) (zip xs (map (λ c. λ _. c) cs))
passed [] ts cs h = tt
passed (x ∷ xs) [] [] h = tt
passed (x ∷ xs) [] (c ∷ cs) h = absurd h
passed (x ∷ xs) (t ∷ ts) [] h = absurd h
passed (x ∷ xs) (t ∷ ts) (c ∷ cs) h = (refl, λ us ds k. h.0, passed xs ts cs h.1)

define_gives : (ns : Names) (ds : Counts) → AllGive ns.named ds → (x : List ℕ) (f : List Tree → Tree) (d : List Count → Count) → Gives f d →
    AllGive (define_name x f ns).named (define_count x d ds)
define_gives ns ds m x f d h = give_more ns.named ((x, f) ∷ []) ds ((x, d) ∷ []) m (refl, h, tt)

pass_gives : (ns : Names) (ds : Counts) → AllGive ns.named ds → (xs : List (List ℕ)) (ts : List Tree) (cs : List Count) → AllHave ts cs →
    AllGive (pass_names xs ts ns).named (pass_counts xs cs ds)
pass_gives ns ds m xs ts cs h = give_more ns.named (zip xs (map (λ t. λ _. t) ts)) ds (zip xs (map (λ c. λ _. c) cs)) m (passed xs ts cs h)

lost_count : (p : Place) → tree_counts (lost p) ≡ no_count
lost_count p = counts-roll (record { place = p; op = op.Use []; args = []; binds = [] })

call_count : (p : Place) (f : Option (List Tree → Tree)) (d : Option (List Count → Count)) → OneGives f d → (ts : List Tree) (cs : List Count) → AllHave ts cs →
    Has (called p f ts) (called_count d cs)
call_count p None None h ts cs k n = lost_count p
call_count p None (Some d) h ts cs k n = absurd h
call_count p (Some f) None h ts cs k n = absurd h
call_count p (Some f) (Some d) h ts cs k n = h ts cs k n

abbrev Keeps : Expr → Type 0
Keeps e = (ns : Names) (ds : Counts) → AllGive ns.named ds → Has (written e ns) (counted e ds)

abbrev Part_of : Type 0
Part_of = (e : Expr) × Keeps e

abbrev parts : List Part_of → List Expr
parts ys = map (λ y. y.0) ys

all_have : (ys : List Part_of) (ns : Names) (ds : Counts) → AllGive ns.named ds → AllHave (trees (map written (parts ys)) ns) (counts_at (map counted (parts ys)) ds)
all_have [] ns ds m = tt
all_have (y ∷ ys) ns ds m = (y.1 ns ds m, all_have ys ns ds m)

children_count : (ms : List Bool) (ys : List Part_of) (ns us : Names) (ds : Counts) → AllGive ns.named ds → AllGive us.named ds → (n : ℕ) →
    map tree_counts (children ms (map written (parts ys)) ns us n) ≡ counts_at (map counted (parts ys)) ds
children_count ms [] ns us ds m l n = refl
children_count [] (y ∷ ys) ns us ds m l n = ap₂ (λ (k : Count) (ks : List Count). k ∷ ks) (y.1 ns ds m n) (children_count [] ys ns us ds m l n)
children_count (true ∷ ms) (y ∷ ys) ns us ds m l n = ap₂ (λ (k : Count) (ks : List Count). k ∷ ks) (y.1 us ds l (suc n)) (children_count ms ys ns us ds m l n)
children_count (false ∷ ms) (y ∷ ys) ns us ds m l n = ap₂ (λ (k : Count) (ks : List Count). k ∷ ks) (y.1 ns ds m n) (children_count ms ys ns us ds m l n)

at_count : (p : Place) (i : ℕ) (ts : List Tree) (cs : List Count) → AllHave ts cs → Has (tree_at p i ts) (count_at i cs)
at_count p i [] [] h n = lost_count p
at_count p i [] (c ∷ cs) h n = absurd h
at_count p i (t ∷ ts) [] h n = absurd h
at_count p zero (t ∷ ts) (c ∷ cs) h n = h.0 n
at_count p (suc i) (t ∷ ts) (c ∷ cs) h n = at_count p i ts cs h.1 n

lets_give : (ls : List (List ℕ × ℕ)) (xs : List (List ℕ)) (ys : List Part_of) (ns : Names) (ds : Counts) → AllGive ns.named ds →
    AllGive (let_names ls xs (map written (parts ys)) ns).named (let_counts ls xs (map counted (parts ys)) ds)
lets_give [] xs ys ns ds m = m
lets_give (l ∷ ls) xs [] ns ds m = m
lets_give (l ∷ ls) xs (y ∷ ys) ns ds m =
    let ps : List (List ℕ) = take l.1 xs in
    let f : List Tree → Tree = λ ts. written y.0 (pass_names ps ts ns) in
    let d : List Count → Count = λ cs. counted y.0 (pass_counts ps cs ds) in
    lets_give ls (drop l.1 xs) ys (define_name l.0 f ns) (define_count l.0 d ds)
    (define_gives ns ds m l.0 f d (λ ts cs h. y.1 (pass_names ps ts ns) (pass_counts ps cs ds) (pass_gives ns ds m ps ts cs h)))

node_keeps : (p : Place) (o : Op) (xs : List (List ℕ)) (ys : List Part_of) (q : Role) (ns : Names) (ds : Counts) → AllGive ns.named ds →
    Has (write (record { place = p; op = o; args = map written (parts ys); binds = xs }) q ns) (count_node (record { place = p; op = o; args = map counted (parts ys); binds = xs }) q ds)
node_keeps p o xs ys (Named z) ns ds m n =
    call_count p (find_last z ns.named) (find_last z ds) (found z ns.named ds m) (trees (map written (parts ys)) ns) (counts_at (map counted (parts ys)) ds) (all_have ys ns ds m) n
node_keeps p o xs ys (Held z) ns ds m n =
    let es : List Expr = children [] (map written (parts ys)) ns ns n in
    let y : List ℕ = new_name (find_last z ns.bound) in
    counts-roll (record { place = p; op = rename_held y o; args = es; binds = xs })
    ∙ ap (node_count (rename_held y o)) (children_count [] ys ns ns ds m m n) ∙ held_count y o (counts_at (map counted (parts ys)) ds)
node_keeps p o xs ys (Lets ls) ns ds m n =
    let us : Names = let_names ls xs (map written (parts ys)) ns in
    let es : Counts = let_counts ls xs (map counted (parts ys)) ds in
    at_count p (length ls) (trees (map written (parts ys)) us) (counts_at (map counted (parts ys)) es) (all_have ys us es (lets_give ls xs ys ns ds m)) n
node_keeps p o xs ys (Plain_role ms) ns ds m n =
    let es : List Expr = children ms (map written (parts ys)) ns (bind_names n xs ns) n in
    counts-roll (record { place = p; op = o; args = es; binds = level_names n xs }) ∙ ap (node_count o) (children_count ms ys ns (bind_names n xs ns) ds m m n)

keeps_count : (e : Expr) → Keeps e
keeps_count = ind-Expr Keeps (λ x y is.
    subst (λ (z : Expr-F Expr). Keeps (roll-Expr z)) is (λ ns ds m n.
    let z : Expr-F Expr = map-Expr Part_of Expr (λ e. e.0) y in
    ap (λ (k : Writing). tree_counts (k ns n)) (written-roll z)
    ∙ node_keeps z.place z.op z.binds y.args (role z.op (length z.binds)) ns ds m n
    ∙ sym (ap (λ (k : Counting). k ds) (counted-roll z))))

definitions_give : (ls : List Def) (ns : Names) (ds : Counts) → AllGive ns.named ds → AllGive (with_names ls ns).named (definitions_count ls ds)
definitions_give [] ns ds m = m
definitions_give (l ∷ ls) ns ds m =
    let f : List Tree → Tree = λ ts. written (body_of l) (pass_names l.params ts ns) in
    let d : List Count → Count = λ cs. counted (body_of l) (pass_counts l.params cs ds) in
    definitions_give ls (define_name l.name f ns) (define_count l.name d ds)
    (define_gives ns ds m l.name f d (λ ts cs h.
    keeps_count (body_of l) (pass_names l.params ts ns) (pass_counts l.params cs ds) (pass_gives ns ds m l.params ts cs h)))

module_gives : (flat : Flat) → AllGive (names_of_module flat).named (counts_of flat)
module_gives flat = definitions_give flat.defs no_names [] tt

finish_size : (part : PartKind) (flat : Flat) (e : Expr) → size (finish part flat e) ≡ (tree_counts e).tree
finish_size part flat e =
    size_back ((turned part (is_constant flat) e).tree 0) (λ x. x) [] ∙ (sized part (is_constant flat) e).tree 0

-- in each part a name's tree has as many nodes as the name counts
pub count_is_size : (part : PartKind) (flat : Flat) (x : List ℕ) → size (expansion part flat x) ≡ count_of flat x
count_is_size part flat x =
    finish_size part flat (written_of flat first_place x)
    ∙ ap (λ (c : Count). c.tree) (call_count first_place (find_last x (names_of_module flat).named) (find_last x (counts_of flat))
    (found x (names_of_module flat).named (counts_of flat) (module_gives flat)) [] [] tt 0)

pub assumed_is_size : (flat : Flat) → size (assumptions_expanded flat) ≡ assumed_count flat
assumed_is_size flat =
    finish_size _ flat (written (assumed flat) (names_of_module flat) 0)
    ∙ ap (λ (c : Count). c.tree) (keeps_count (assumed flat) (names_of_module flat) (counts_of flat) (module_gives flat) 0)
