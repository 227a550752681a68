-- Each place of an expanded tree is one of the module's, or the first place.
use Rattle.std.proofs.Common.{◌≡◌, ℕ, zero, suc, Bool, true, false, ◌&&◌, ◌||◌, IsTrue, List, [], ◌∷◌, ◌++◌, map, zip, take, drop, length, refl, ap, ◌∙◌, sym, subst, Option, Some, None, if◌then◌else◌}
use Rattle.std.proofs.lemmas.List.Folds.{list_all-append}
use Rattle.std.specs.List.{list_all}
use Rattle.std.specs.Ordering.{is_eq}
use Rattle.tla_meaning.specs.declared.expr.Def.{Def}
use Rattle.tla_meaning.specs.declared.expr.Expr.{Expr, out-Expr, roll-Expr, roll-out-Expr}
use Rattle.tla_meaning.specs.declared.expr.Expr.TheOpen.{Expr-F}
use Rattle.tla_meaning.specs.declared.expr.Expr.TheFolds.{fold-roll-Expr, map-Expr, ind-Expr}
use Rattle.tla_meaning.specs.declared.modules.Flat.{Flat}
use Rattle.tla_meaning.specs.declared.op.Op.{Op}
use Rattle.tla_meaning.specs.declared.op.Op.TheVariants as op
use Rattle.tla_meaning.specs.declared.place.Place.{Place}
use Rattle.tla_meaning.specs.Folds.{lambda_at, with_lambdas}
use Rattle.tla_meaning.specs.Meaning.{Role, Named, Held, Lets, Plain_role, role}
use Rattle.tla_meaning.specs.Outcomes.{place_cmp, place_parts}
use Rattle.tla_meaning.specs.Renamings.{Renaming}
use Rattle.tla_meaning.specs.Scopes.{find_last, or_else, same_text}
use Rattle.op_inliner.specs.declared.parts.PartKind.{PartKind}
use Rattle.op_inliner.specs.declared.parts.PartKind.TheVariants.{Constants}
use Rattle.op_inliner.specs.Annotations.{annotation_of, body_noted, body_of, noted, noted_use, numbered, parameter, parameters_noted}
use Rattle.op_inliner.specs.Expansion.{assumed, assumptions_expanded, conjunction_of, expansion, finish, first_place, is_constant}
use Rattle.op_inliner.specs.Inlining.{Names, Tree, Writing, bind_names, called, children, define_name, let_names, lost, names_of_module, no_names, pass_names, tree_at, trees, with_names, write, written, written_of}
use Rattle.op_inliner.specs.NamesBack.{Open, backs, new_names, open_node, opened, renamed_to}
use Rattle.op_inliner.specs.Places.{PlacesOf, definition_places, is_place_of, joined, places, places_of, tree_places}
use Rattle.op_inliner.specs.Primes.{Turned, equation, inner_node, kept_of, kept_trees, tree_of, turned, turned_trees}
use Rattle.tla_meaning.proofs.MeaningLemmas.{with_lambdas-roll}
use Rattle.tla_meaning.proofs.Views.{and_left, and_right, and_both}
use Rattle.op_inliner.proofs.GivenBack.{opened-roll, text_self}
use Rattle.op_inliner.proofs.Inlined.{written-roll}
use Rattle.op_inliner.proofs.Notes.{parameters-roll}
use Rattle.op_inliner.proofs.Rolls.{turned-roll}

places-roll : (x : Expr-F Expr) → places (roll-Expr x) ≡ x.place ∷ joined (map places x.args)
unfolding places
places-roll x = fold-roll-Expr (List Place) (λ x. x.place ∷ joined x.args) x

module _ (P : Place → Bool) where
  abbrev Placed : Expr → Type 0
  Placed e = IsTrue (list_all P (places e))

  abbrev AllPlaced : List Expr → Type 0
  AllPlaced [] = Unit {0}
  AllPlaced (e ∷ es) = Placed e × AllPlaced es

  all_placed : (es : List Expr) → IsTrue (list_all P (joined (map places es))) → AllPlaced es
  all_placed [] h = tt
  all_placed (e ∷ es) h =
      let k = sym (list_all-append P (places e) (joined (map places es))) ∙ h in (
        and_left (list_all P (places e)) (list_all P (joined (map places es))) k,
        all_placed es (and_right (list_all P (places e)) (list_all P (joined (map places es))) k),
      )

  placed_all : (es : List Expr) → AllPlaced es → IsTrue (list_all P (joined (map places es)))
  placed_all [] h = refl
  placed_all (e ∷ es) h =
      list_all-append P (places e) (joined (map places es))
      ∙ and_both (list_all P (places e)) (list_all P (joined (map places es))) h.0 (placed_all es h.1)

  -- a node is placed where it and its children are
  rolled : (x : Expr-F Expr) → IsTrue (P x.place) → AllPlaced x.args → Placed (roll-Expr x)
  rolled x h k = ap (list_all P) (places-roll x) ∙ and_both (P x.place) (list_all P (joined (map places x.args))) h (placed_all x.args k)

  own_place : (x : Expr-F Expr) → Placed (roll-Expr x) → IsTrue (P x.place)
  own_place x h = and_left (P x.place) (list_all P (joined (map places x.args))) (sym (ap (list_all P) (places-roll x)) ∙ h)

  parts_placed : (x : Expr-F Expr) → Placed (roll-Expr x) → AllPlaced x.args
  parts_placed x h =
      all_placed x.args (and_right (P x.place) (list_all P (joined (map places x.args))) (sym (ap (list_all P) (places-roll x)) ∙ h))

  append_placed : (es fs : List Expr) → AllPlaced es → AllPlaced fs → AllPlaced (es ++ fs)
  append_placed [] fs h k = k
  append_placed (e ∷ es) fs h k = (h.0, append_placed es fs h.1 k)

  -- ---- LAMBDAs and notes

  leaf_placed : (p : Place) (o : Op) → IsTrue (P p) → Placed (inner_node p o [])
  leaf_placed p o h = rolled (record { place = p; op = o; args = []; binds = [] }) h tt

  lambda_placed : (p : Place) (o : Op) (xs : List (List ℕ)) (es : List Expr) → IsTrue (P p) → AllPlaced es → Placed (lambda_at p o xs es)
  lambda_placed p op.Fold [] [] h k = rolled (record { place = p; op = op.Fold; args = []; binds = [] }) h k
  lambda_placed p op.Fold [] (e ∷ es) h k =
      let x : Expr-F Expr = out-Expr e in
      let l : Placed (roll-Expr x) = subst Placed (sym (roll-out-Expr e)) k.0 in
      let q : IsTrue (P x.place) = own_place x l in
      rolled _ h (rolled _ q (append_placed x.args _ (parts_placed x l) (leaf_placed x.place _ q, (leaf_placed x.place _ q, tt))), k.1)
  lambda_placed p op.Fold (x ∷ xs) es h k = rolled (record { place = p; op = op.Fold; args = es; binds = x ∷ xs }) h k
  lambda_placed p o xs es h k = rolled (record { place = p; op = o; args = es; binds = xs }) h k

  -- a map of trees keeps places
  abbrev Keeps : (Expr → Expr) → Expr → Type 0
  Keeps f e = Placed e → Placed (f e)

  abbrev Kept : (Expr → Expr) → Type 0
  Kept f = (e : Expr) × Keeps f e

  abbrev exprs : (f : Expr → Expr) → List (Kept f) → List Expr
  exprs f ys = map (λ y. y.0) ys

  all_kept : (f : Expr → Expr) (ys : List (Kept f)) → AllPlaced (exprs f ys) → AllPlaced (map f (exprs f ys))
  all_kept f [] h = tt
  all_kept f (y ∷ ys) h = (y.1 h.0, all_kept f ys h.1)

  lambdas_placed : (e : Expr) → Keeps with_lambdas e
  lambdas_placed = ind-Expr (Keeps with_lambdas) (λ x y is.
      subst (λ (z : Expr-F Expr). Keeps with_lambdas (roll-Expr z)) is (λ h.
      let z : Expr-F Expr = map-Expr (Kept with_lambdas) Expr (λ e. e.0) y in
      subst Placed (sym (with_lambdas-roll z))
      (lambda_placed z.place z.op z.binds (map with_lambdas z.args) (own_place z h) (all_kept with_lambdas y.args (parts_placed z h)))))

  noted_placed : (p : Place) (t : List ℕ) (e : Expr) → IsTrue (P p) → Placed e → Placed (noted p t e)
  noted_placed p t e h k = rolled (record { place = p; op = op.Noted t; args = e ∷ []; binds = [] }) h (k, tt)

  use_placed : (p : Place) (t : List ℕ) (o : Option ℕ) (e : Expr) → IsTrue (P p) → Placed e → Placed (noted_use p t o e)
  use_placed p t None e h k = k
  use_placed p t (Some i) e h k = noted_placed p (numbered (suc i) t) e h k

  parameters_placed : (p : Place) (params : List (List ℕ)) (t : List ℕ) → IsTrue (P p) → (e : Expr) → Keeps (parameters_noted p params t) e
  parameters_placed p params t g = ind-Expr (Keeps (parameters_noted p params t)) (λ x y is.
      subst (λ (z : Expr-F Expr). Keeps (parameters_noted p params t) (roll-Expr z)) is (λ h.
      let z : Expr-F Expr = map-Expr (Kept (parameters_noted p params t)) Expr (λ e. e.0) y in
      let noted_z : Expr-F Expr = map-Expr Expr Expr (parameters_noted p params t) z in
      subst Placed (sym (parameters-roll p params t z))
      (use_placed p t (parameter params z.op) (roll-Expr noted_z) g
      (rolled noted_z (own_place z h) (all_kept (parameters_noted p params t) y.args (parts_placed z h))))))

  body_placed : (d : Def) → IsTrue (P d.place) → Placed d.body → Placed (body_of d)
  body_placed d h k = by_note (annotation_of d.note)
    where
      by_note : (o : Option (List ℕ)) → Placed (body_noted o d (with_lambdas d.body))
      by_note None = lambdas_placed d.body k
      by_note (Some t) =
          noted_placed d.place (numbered 0 t) (parameters_noted d.place d.params t (with_lambdas d.body)) h
          (parameters_placed d.place d.params t h (with_lambdas d.body) (lambdas_placed d.body k))

  -- ---- definitions written out

  abbrev PlacedTree : Tree → Type 0
  PlacedTree t = (n : ℕ) → Placed (t n)

  abbrev PlacedTrees : List Tree → Type 0
  PlacedTrees [] = Unit {0}
  PlacedTrees (t ∷ ts) = PlacedTree t × PlacedTrees ts

  abbrev Makes : (List Tree → Tree) → Type 0
  Makes f = (ts : List Tree) → PlacedTrees ts → PlacedTree (f ts)

  abbrev AllMake : List (List ℕ × (List Tree → Tree)) → Type 0
  AllMake [] = Unit {0}
  AllMake (f ∷ fs) = Makes f.1 × AllMake fs

  abbrev OneMakes : Option (List Tree → Tree) → Type 0
  OneMakes None = Unit {0}
  OneMakes (Some f) = Makes f

  one_makes : (f : List Tree → Tree) (c : Bool) (o : Option (List Tree → Tree)) → OneMakes o → Makes f → OneMakes (or_else o (if c then Some f else None))
  one_makes f true None h m = m
  one_makes f false None h m = tt
  one_makes f c (Some g) h m = h

  found : (z : List ℕ) (fs : List (List ℕ × (List Tree → Tree))) → AllMake fs → OneMakes (find_last z fs)
  found z [] h = tt
  found z (f ∷ fs) h = one_makes f.1 (same_text z f.0) (find_last z fs) (found z fs h.1) h.0

  make_more : (fs gs : List (List ℕ × (List Tree → Tree))) → AllMake fs → AllMake gs → AllMake (fs ++ gs)
  make_more [] gs h k = k
  make_more (f ∷ fs) gs h k = (h.0, make_more fs gs h.1 k)

  passed : (xs : List (List ℕ)) (ts : List Tree) → PlacedTrees ts → AllMake (zip xs (map (λ t. λ _. t) ts))
  passed [] ts h = tt
  passed (x ∷ xs) [] h = tt
  passed (x ∷ xs) (t ∷ ts) h = (λ us k. h.0, passed xs ts h.1)

  lost_placed : (p : Place) → IsTrue (P p) → Placed (lost p)
  lost_placed p h = leaf_placed p (op.Use []) h

  call_placed : (p : Place) (f : Option (List Tree → Tree)) → IsTrue (P p) → OneMakes f → (ts : List Tree) → PlacedTrees ts → PlacedTree (called p f ts)
  call_placed p None g m ts k n = lost_placed p g
  call_placed p (Some f) g m ts k n = m ts k n

  abbrev Writes : Expr → Type 0
  Writes e = Placed e → (ns : Names) → AllMake ns.named → PlacedTree (written e ns)

  abbrev Wrote : Type 0
  Wrote = (e : Expr) × Writes e

  abbrev sources : List Wrote → List Expr
  sources ys = map (λ y. y.0) ys

  trees_placed : (ys : List Wrote) → AllPlaced (sources ys) → (ns : Names) → AllMake ns.named → PlacedTrees (trees (map written (sources ys)) ns)
  trees_placed [] h ns m = tt
  trees_placed (y ∷ ys) h ns m = (y.1 h.0 ns m, trees_placed ys h.1 ns m)

  children_placed : (ms : List Bool) (ys : List Wrote) → AllPlaced (sources ys) → (ns us : Names) → AllMake ns.named → AllMake us.named → (n : ℕ) →
      AllPlaced (children ms (map written (sources ys)) ns us n)
  children_placed ms [] h ns us m l n = tt
  children_placed [] (y ∷ ys) h ns us m l n = (y.1 h.0 ns m n, children_placed [] ys h.1 ns us m l n)
  children_placed (true ∷ ms) (y ∷ ys) h ns us m l n = (y.1 h.0 us l (suc n), children_placed ms ys h.1 ns us m l n)
  children_placed (false ∷ ms) (y ∷ ys) h ns us m l n = (y.1 h.0 ns m n, children_placed ms ys h.1 ns us m l n)

  tree_at_placed : (p : Place) (i : ℕ) (ts : List Tree) → IsTrue (P p) → PlacedTrees ts → PlacedTree (tree_at p i ts)
  tree_at_placed p i [] g h n = lost_placed p g
  tree_at_placed p zero (t ∷ ts) g h n = h.0 n
  tree_at_placed p (suc i) (t ∷ ts) g h n = tree_at_placed p i ts g h.1 n

  lets_make : (ls : List (List ℕ × ℕ)) (xs : List (List ℕ)) (ys : List Wrote) → AllPlaced (sources ys) → (ns : Names) → AllMake ns.named →
      AllMake (let_names ls xs (map written (sources ys)) ns).named
  lets_make [] xs ys h ns m = m
  lets_make (l ∷ ls) xs [] h ns m = m
  lets_make (l ∷ ls) xs (y ∷ ys) h ns m =
      let ps : List (List ℕ) = take l.1 xs in
      let f : List Tree → Tree = λ ts. written y.0 (pass_names ps ts ns) in
      lets_make ls (drop l.1 xs) ys h.1 (define_name l.0 f ns)
      (make_more ns.named ((l.0, f) ∷ []) m (λ ts k. y.1 h.0 (pass_names ps ts ns) (make_more ns.named _ m (passed ps ts k)), tt))

  node_writes : (p : Place) (o : Op) (xs : List (List ℕ)) (ys : List Wrote) → IsTrue (P p) → AllPlaced (sources ys) → (q : Role) (ns : Names) → AllMake ns.named →
      PlacedTree (write (record { place = p; op = o; args = map written (sources ys); binds = xs }) q ns)
  node_writes p o xs ys g h (Named z) ns m n =
      call_placed p (find_last z ns.named) g (found z ns.named m) (trees (map written (sources ys)) ns) (trees_placed ys h ns m) n
  node_writes p o xs ys g h (Held z) ns m n = rolled _ g (children_placed [] ys h ns ns m m n)
  node_writes p o xs ys g h (Lets ls) ns m n =
      let us : Names = let_names ls xs (map written (sources ys)) ns in
      tree_at_placed p (length ls) (trees (map written (sources ys)) us) g (trees_placed ys h us (lets_make ls xs ys h ns m)) n
  node_writes p o xs ys g h (Plain_role ms) ns m n = rolled _ g (children_placed ms ys h ns (bind_names n xs ns) m m n)

  written_placed : (e : Expr) → Writes e
  written_placed = ind-Expr Writes (λ x y is.
      subst (λ (z : Expr-F Expr). Writes (roll-Expr z)) is (λ h ns m n.
      let z : Expr-F Expr = map-Expr Wrote Expr (λ e. e.0) y in
      subst (λ (k : Writing). Placed (k ns n)) (sym (written-roll z))
      (node_writes z.place z.op z.binds y.args (own_place z h) (parts_placed z h) (role z.op (length z.binds)) ns m n)))

  definitions_make : (ds : List Def) → IsTrue (list_all P (definition_places ds)) → (ns : Names) → AllMake ns.named → AllMake (with_names ds ns).named
  definitions_make [] h ns m = m
  definitions_make (d ∷ ds) h ns m =
      let a : Bool = P d.place in
      let b : Bool = list_all P (places d.body) in
      let c : Bool = list_all P (definition_places ds) in
      let k : IsTrue (b && c) = sym (list_all-append P (places d.body) (definition_places ds)) ∙ and_right a (list_all P (places d.body ++ definition_places ds)) h in
      let f : List Tree → Tree = λ ts. written (body_of d) (pass_names d.params ts ns) in
      definitions_make ds (and_right b c k) (define_name d.name f ns)
      (make_more ns.named ((d.name, f) ∷ []) m (
        λ ts l. written_placed (body_of d) (body_placed d (and_left a (list_all P (places d.body ++ definition_places ds)) h) (and_left b c k))
            (pass_names d.params ts ns) (make_more ns.named _ m (passed d.params ts l)),
        tt,
      ))

  -- ---- names given back

  abbrev Backs : Expr → Type 0
  Backs e = Placed e → (f : Renaming) (u : List (List ℕ)) → Placed ((opened e).back f u)

  abbrev Backed : Type 0
  Backed = (e : Expr) × Backs e

  abbrev backed : List Backed → List Expr
  backed ys = map (λ y. y.0) ys

  backs_placed : (ms : List Bool) (ys : List Backed) → AllPlaced (backed ys) → (f : Renaming) (u : List (List ℕ)) (g : Renaming) (v : List (List ℕ)) →
      AllPlaced (backs ms (map opened (backed ys)) f u g v)
  backs_placed ms [] h f u g v = tt
  backs_placed [] (y ∷ ys) h f u g v = (y.1 h.0 f u, backs_placed [] ys h.1 f u g v)
  backs_placed (true ∷ ms) (y ∷ ys) h f u g v = (y.1 h.0 g v, backs_placed ms ys h.1 f u g v)
  backs_placed (false ∷ ms) (y ∷ ys) h f u g v = (y.1 h.0 f u, backs_placed ms ys h.1 f u g v)

  node_backs : (p : Place) (o : Op) (xs : List (List ℕ)) (ys : List Backed) → IsTrue (P p) → AllPlaced (backed ys) → (q : Role) (f : Renaming) (u : List (List ℕ)) →
      Placed ((open_node (record { place = p; op = o; args = map opened (backed ys); binds = xs }) q).back f u)
  node_backs p o xs ys g h (Named z) f u = rolled _ g (backs_placed [] ys h f u f u)
  node_backs p o xs ys g h (Held z) f u = rolled _ g (backs_placed [] ys h f u f u)
  node_backs p o xs ys g h (Lets ls) f u = rolled _ g (backs_placed [] ys h f u f u)
  node_backs p o xs ys g h (Plain_role ms) f u =
      let zs : List (List ℕ) = new_names ms xs (map opened (backed ys)) f u in
      rolled _ g (backs_placed ms ys h f u (renamed_to xs zs f) (u ++ zs))

  back_placed : (e : Expr) → Backs e
  back_placed = ind-Expr Backs (λ x y is.
      subst (λ (z : Expr-F Expr). Backs (roll-Expr z)) is (λ h f u.
      let z : Expr-F Expr = map-Expr Backed Expr (λ e. e.0) y in
      subst (λ (k : Open). Placed (k.back f u)) (sym (opened-roll z))
      (node_backs z.place z.op z.binds y.args (own_place z h) (parts_placed z h) (role z.op (length z.binds)) f u)))

  -- ---- primes and UNCHANGED

  module _ (part : PartKind) (c : ℕ → Bool) where
    record Turns (e : Expr) : Type 0 where
      tree : Placed e → (n : ℕ) → Placed ((turned part c e).tree n)
      kept : Placed e → (q : Place) → IsTrue (P q) → (n : ℕ) → Placed ((turned part c e).kept q n)

    abbrev Turn : Type 0
    Turn = (e : Expr) × Turns e

    abbrev turn_exprs : List Turn → List Expr
    turn_exprs ys = map (λ y. y.0) ys

    abbrev made : List Turn → List Turned
    made ys = map (turned part c) (turn_exprs ys)

    trees_turn : (ys : List Turn) → AllPlaced (turn_exprs ys) → (n : ℕ) → AllPlaced (turned_trees (made ys) n)
    trees_turn [] h n = tt
    trees_turn (y ∷ ys) h n = (y.1.tree h.0 n, trees_turn ys h.1 n)

    kept_turn : (ys : List Turn) → AllPlaced (turn_exprs ys) → (q : Place) → IsTrue (P q) → (n : ℕ) → AllPlaced (kept_trees (made ys) q n)
    kept_turn [] h q g n = tt
    kept_turn (y ∷ ys) h q g n = (y.1.kept h.0 q g n, kept_turn ys h.1 q g n)

    tree_turn : (p : Place) (o : Op) (xs : List (List ℕ)) (ys : List Turn) → IsTrue (P p) → AllPlaced (turn_exprs ys) → (n : ℕ) → Placed (tree_of part c p o xs (made ys) n)
    tree_turn p op.Prime xs [] g h n = rolled _ g tt
    tree_turn p op.Prime xs (y ∷ []) g h n = y.1.tree h.0 (suc n)
    tree_turn p op.Prime xs (y ∷ z ∷ ys) g h n = rolled _ g (trees_turn (y ∷ z ∷ ys) h n)
    tree_turn p op.Unchanged xs [] g h n = rolled _ g tt
    tree_turn p op.Unchanged xs (y ∷ []) g h n = y.1.kept h.0 p g n
    tree_turn p op.Unchanged xs (y ∷ z ∷ ys) g h n = rolled _ g (trees_turn (y ∷ z ∷ ys) h n)
    tree_turn p op.Boxed xs [] g h n = rolled _ g tt
    tree_turn p op.Boxed xs (y ∷ []) g h n = rolled _ g (trees_turn (y ∷ []) h n)
    tree_turn p op.Boxed xs (y ∷ z ∷ []) g h n = rolled _ g (y.1.tree h.0 n, (z.1.kept h.1.0 p g n, tt))
    tree_turn p op.Boxed xs (y ∷ z ∷ v ∷ ys) g h n = rolled _ g (trees_turn (y ∷ z ∷ v ∷ ys) h n)
    tree_turn p op.Angled xs [] g h n = rolled _ g tt
    tree_turn p op.Angled xs (y ∷ []) g h n = rolled _ g (trees_turn (y ∷ []) h n)
    tree_turn p op.Angled xs (y ∷ z ∷ []) g h n = rolled _ g (y.1.tree h.0 n, (rolled _ g (z.1.kept h.1.0 p g n, tt), tt))
    tree_turn p op.Angled xs (y ∷ z ∷ v ∷ ys) g h n = rolled _ g (trees_turn (y ∷ z ∷ v ∷ ys) h n)
    tree_turn p (op.Name i b) xs ys g h n = rolled _ g (trees_turn ys h n)
    tree_turn p o xs ys g h n = rolled _ g (trees_turn ys h n)

    equation_turn : (p : Place) (o : Op) (xs : List (List ℕ)) (ys : List Turn) → IsTrue (P p) → AllPlaced (turn_exprs ys) → (q : Place) → IsTrue (P q) → (n : ℕ) →
        Placed (equation part c p o xs (made ys) q n)
    equation_turn p o xs ys g h q k n = rolled _ k (tree_turn p o xs ys g h (suc n), (tree_turn p o xs ys g h n, tt))

    kept_node_turn : (p : Place) (o : Op) (xs : List (List ℕ)) (ys : List Turn) → IsTrue (P p) → AllPlaced (turn_exprs ys) → (q : Place) → IsTrue (P q) → (n : ℕ) →
        Placed (kept_of part c p o xs (made ys) q n)
    kept_node_turn p op.Tuple xs ys g h q k n = rolled _ k (kept_turn ys h q k n)
    kept_node_turn p (op.Noted x) xs [] g h q k n = leaf_placed q op.Unchanged k
    kept_node_turn p (op.Noted x) xs (y ∷ []) g h q k n = noted_turn (turned part c y.0).is_tuple
      where
        noted_turn : (b : Bool) → Placed (if b then (turned part c y.0).kept q n else equation part c p (op.Noted x) xs (turned part c y.0 ∷ []) q n)
        noted_turn true = y.1.kept h.0 q k n
        noted_turn false = equation_turn p (op.Noted x) xs (y ∷ []) g h q k n
    kept_node_turn p (op.Noted x) xs (y ∷ z ∷ ys) g h q k n = leaf_placed q op.Unchanged k
    kept_node_turn p op.Prime xs [] g h q k n = leaf_placed q op.Unchanged k
    kept_node_turn p op.Prime xs (y ∷ []) g h q k n = y.1.kept h.0 q k (suc n)
    kept_node_turn p op.Prime xs (y ∷ z ∷ ys) g h q k n = leaf_placed q op.Unchanged k
    kept_node_turn p o xs ys g h q k n = equation_turn p o xs ys g h q k n

    turns : (e : Expr) → Turns e
    turns = ind-Expr Turns (λ x y is.
        subst (λ (z : Expr-F Expr). Turns (roll-Expr z)) is (
        let z : Expr-F Expr = map-Expr Turn Expr (λ e. e.0) y in
        record {
          tree = λ h n. subst (λ (t : Turned). Placed (t.tree n)) (sym (turned-roll part c z))
              (tree_turn z.place z.op z.binds y.args (own_place z h) (parts_placed z h) n);
          kept = λ h q g n. subst (λ (t : Turned). Placed (t.kept q n)) (sym (turned-roll part c z))
              (kept_node_turn z.place z.op z.binds y.args (own_place z h) (parts_placed z h) q g n);
        }))

  -- ---- whole trees

  finish_placed : (part : PartKind) (flat : Flat) (e : Expr) → Placed e → Placed (finish part flat e)
  finish_placed part flat e h = back_placed ((turned part (is_constant flat) e).tree 0) ((turns part (is_constant flat) e).tree h 0) (λ x. x) []

  conjunction_placed : IsTrue (P first_place) → (es : List Expr) → AllPlaced es → Placed (conjunction_of es)
  conjunction_placed g [] h = rolled _ g tt
  conjunction_placed g (e ∷ []) h = h.0
  conjunction_placed g (e ∷ f ∷ es) h = rolled _ g h

  lambdas_all : (es : List Expr) → IsTrue (list_all P (tree_places es)) → AllPlaced (map with_lambdas es)
  lambdas_all [] h = tt
  lambdas_all (e ∷ es) h =
      let k = sym (list_all-append P (places e) (tree_places es)) ∙ h in (
        lambdas_placed e (and_left (list_all P (places e)) (list_all P (tree_places es)) k),
        lambdas_all es (and_right (list_all P (places e)) (list_all P (tree_places es)) k),
      )

  module _ (flat : Flat) (g : IsTrue (P first_place)) (h : IsTrue (list_all P (places_of flat))) where
    module_makes : AllMake (names_of_module flat).named
    module_makes =
        definitions_make flat.defs
        (and_left (list_all P (definition_places flat.defs)) (list_all P (tree_places flat.assumes)) (sym (list_all-append P (definition_places flat.defs) (tree_places flat.assumes)) ∙ h))
        no_names tt

    expansion_placed : (part : PartKind) (x : List ℕ) → Placed (expansion part flat x)
    expansion_placed part x =
        finish_placed part flat (written_of flat first_place x)
        (call_placed first_place (find_last x (names_of_module flat).named) g (found x (names_of_module flat).named module_makes) [] tt 0)

    assumptions_placed : Placed (assumptions_expanded flat)
    assumptions_placed =
        finish_placed Constants flat (written (assumed flat) (names_of_module flat) 0)
        (written_placed (assumed flat) (conjunction_placed g (map with_lambdas flat.assumes) (lambdas_all flat.assumes
        (and_right (list_all P (definition_places flat.defs)) (list_all P (tree_places flat.assumes)) (sym (list_all-append P (definition_places flat.defs) (tree_places flat.assumes)) ∙ h))))
        (names_of_module flat) module_makes 0)

-- ---- the places themselves

same_place : (p : Place) → IsTrue (is_eq (place_cmp p p))
same_place p = ap is_eq (text_self (place_parts p))

abbrev Among : List Place → List Place → Type 0
Among ps qs = IsTrue (list_all (is_place_of qs) ps)

-- a place of a part is one of the whole
is_either : (b c : Bool) → IsTrue c → IsTrue (b || c)
is_either true c h = refl
is_either false c h = h

among_more : (q : Place) (ps qs : List Place) → Among ps qs → Among ps (q ∷ qs)
among_more q [] qs h = refl
among_more q (p ∷ ps) qs h =
    and_both (is_place_of (q ∷ qs) p) (list_all (is_place_of (q ∷ qs)) ps)
    (is_either (is_eq (place_cmp p q)) (is_place_of qs p) (and_left (is_place_of qs p) (list_all (is_place_of qs) ps) h))
    (among_more q ps qs (and_right (is_place_of qs p) (list_all (is_place_of qs) ps) h))

among_itself : (ps : List Place) → Among ps ps
among_itself [] = refl
among_itself (p ∷ ps) =
    and_both (is_place_of (p ∷ ps) p) (list_all (is_place_of (p ∷ ps)) ps)
    (ap (λ b. b || is_place_of ps p) (same_place p)) (among_more p ps ps (among_itself ps))

first_is_there : (ps : List Place) → IsTrue (is_place_of (first_place ∷ ps) first_place)
first_is_there ps = ap (λ b. b || is_place_of ps first_place) (same_place first_place)

pub expansion_places : (part : PartKind) (flat : Flat) (x : List ℕ) → PlacesOf flat (expansion part flat x)
expansion_places part flat x =
    expansion_placed (is_place_of (first_place ∷ places_of flat)) flat (first_is_there (places_of flat))
    (among_more first_place (places_of flat) (places_of flat) (among_itself (places_of flat))) part x

pub assumptions_places : (flat : Flat) → PlacesOf flat (assumptions_expanded flat)
assumptions_places flat =
    assumptions_placed (is_place_of (first_place ∷ places_of flat)) flat (first_is_there (places_of flat))
    (among_more first_place (places_of flat) (places_of flat) (among_itself (places_of flat)))
