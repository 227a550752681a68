-- What is built of a spot, by its node.
use Rattle.std.proofs.Common.{◌≡◌, ◌≤◌, ◌<◌, ◌⊎◌, inl, inr, ℕ, zero, suc, ◌+◌, ◌-◌, Bool, true, false, List, [], ◌∷◌, ◌++◌, get_or, length, map, take, Result, Err, arith, refl, ap, ap₂, ◌∙◌, sym, subst, if◌then◌else◌}
use Rattle.std.proofs.lemmas.List.{take_more}
use Rattle.tla_meaning.specs.declared.expr.Expr.{Expr, out-Expr, roll-Expr}
use Rattle.tla_meaning.specs.declared.op.Op.{Op}
use Rattle.tla_meaning.specs.declared.op.Op.TheVariants as op
use Rattle.tla_meaning.specs.declared.place.Place.{Place}
use Rattle.tla_meaning.specs.Meaning.{role}
use Rattle.tla_meaning.specs.Scopes.{find_last}
use Rattle.op_inliner.specs.declared.frames.Frame.{Frame}
use Rattle.op_inliner.specs.declared.spots.Spot.{Spot}
use Rattle.op_inliner.specs.declared.trees.Node.{Node}
use Rattle.op_inliner.specs.declared.trees.Part.{Part}
use Rattle.op_inliner.specs.declared.trees.Stop.{Stop}
use Rattle.op_inliner.specs.declared.trees.Stop.TheVariants as stop
use Rattle.op_inliner.specs.Answers.{depth, greatest}
use Rattle.op_inliner.specs.Inlining.{Names, Writing, bind_names, children, level_names, new_name, written}
use Rattle.op_inliner.specs.Primes.{Turned, equation, inner_node, kept_of, kept_trees, stays, tree_of, tuple_of, turned, turned_node, turned_trees}
use Rattle.op_inliner.specs.inner.Building.{Builds, BuildsAll, IsChild, IsNode, IsOpened, binds_at, child_trees, equation_of, first, is_plain, kept_children, marks_in, op_at, seen, spot_of, turned_at}
use Rattle.op_inliner.specs.inner.Frames.{names_at}
use Rattle.op_inliner.specs.inner.Spots.{IsBelow, IsRoot, Sight, aside, is_noted, seen_under, stands_aside}
use Rattle.op_inliner.proofs.CheckSteps.{depth-roll, depth_out, greatest_first, greatest_rest}
use Rattle.op_inliner.proofs.FrameLemmas.{grown_names}
use Rattle.op_inliner.proofs.Rolls.{turned-roll}
use Rattle.op_inliner.proofs.SpotLemmas.{node_written, seen_node, sight_stays}

-- ---- no level is left

pub deep_any : (k : ℕ) (e : Expr) → k ≡ 0 → k < depth e
deep_any k e h = let d = depth_out e in omega (arith, h, d)

pub fails : (k m : ℕ) (a t : Expr) (s : Stop) → Builds k a (Err s) → (k < depth a → m < depth t) → Builds m t (Err s)
fails k m a t stop.Deep h f = f h
fails k m a t (stop.Memory e) h f = tt

pub all_fail : (k m : ℕ) (ts : List Expr) (t : Expr) (s : Stop) → BuildsAll k ts (Err s) → (k < greatest (map depth ts) → m < depth t) → Builds m t (Err s)
all_fail k m ts t stop.Deep h f = f h
all_fail k m ts t (stop.Memory e) h f = tt

pub one_fails : (k : ℕ) (a : Expr) (ts : List Expr) (s : Stop) → Builds k a (Err s) → depth a ≤ greatest (map depth ts) → BuildsAll k ts (Err s)
one_fails k a ts stop.Deep h l = omega (arith, h, l)
one_fails k a ts (stop.Memory e) h l = tt

pub single_fails : (k : ℕ) (p : Place) (o : Op) (a : Expr) (s : Stop) → 0 < k → Builds (k - 1) a (Err s) → Builds k (inner_node p o (a ∷ [])) (Err s)
single_fails k p o a s h b =
    let t : Expr = inner_node p o (a ∷ []) in
    let d = depth-roll (record { place = p; op = o; args = a ∷ []; binds = [] }) in
    let g = greatest_first (depth a) [] in
    fails (k - 1) k a t s b (λ l. omega (arith, h, d, g, l))

pub first_fails : (k : ℕ) (p : Place) (o : Op) (a b : Expr) (s : Stop) → 0 < k → Builds (k - 1) a (Err s) → Builds k (inner_node p o (a ∷ b ∷ [])) (Err s)
first_fails k p o a b s h c =
    let t : Expr = inner_node p o (a ∷ b ∷ []) in
    let d = depth-roll (record { place = p; op = o; args = a ∷ b ∷ []; binds = [] }) in
    let g = greatest_first (depth a) (depth b ∷ []) in
    fails (k - 1) k a t s c (λ l. omega (arith, h, d, g, l))

pub second_fails : (k : ℕ) (p : Place) (o : Op) (a b : Expr) (s : Stop) → 0 < k → Builds (k - 1) b (Err s) → Builds k (inner_node p o (a ∷ b ∷ [])) (Err s)
second_fails k p o a b s h c =
    let t : Expr = inner_node p o (a ∷ b ∷ []) in
    let d = depth-roll (record { place = p; op = o; args = a ∷ b ∷ []; binds = [] }) in
    let f = greatest_first (depth b) [] in
    let g = greatest_rest (depth a) (depth b ∷ []) in
    fails (k - 1) k b t s c (λ l. omega (arith, h, d, f, g, l))

pub children_fail : (k : ℕ) (p : Place) (o : Op) (es : List Expr) (xs : List (List ℕ)) (s : Stop) → 0 < k → BuildsAll (k - 1) es (Err s) →
    Builds k (roll-Expr (record { place = p; op = o; args = es; binds = xs })) (Err s)
children_fail k p o es xs s h c =
    let d = depth-roll (record { place = p; op = o; args = es; binds = xs }) in
    all_fail (k - 1) k es (roll-Expr (record { place = p; op = o; args = es; binds = xs })) s c (λ l. omega (arith, h, d, l))

-- ---- children one by one

abbrev child_written : Bool → Expr → Names → Names → ℕ → Expr
child_written b e here under l = if b then written e under (suc l) else written e here l

abbrev child_turned : Part → Bool → Expr → Names → Names → ℕ → Turned
child_turned p b e here under l = turned p.kind (first p.constants) (child_written b e here under l)

at_more : (p : Part) (ms : List Bool) (es : List Expr) (e : Expr) (here under : Names) (l : ℕ) →
    turned_at p ms (es ++ e ∷ []) here under l ≡ turned_at p ms es here under l ++ child_turned p (get_or ms (length es) false) e here under l ∷ []
at_more p [] [] e here under l = refl
at_more p (true ∷ ms) [] e here under l = refl
at_more p (false ∷ ms) [] e here under l = refl
at_more p [] (d ∷ es) e here under l = ap (λ (ks : List Turned). turned p.kind (first p.constants) (written d here l) ∷ ks) (at_more p [] es e here under l)
at_more p (true ∷ ms) (d ∷ es) e here under l = ap (λ (ks : List Turned). turned p.kind (first p.constants) (written d under (suc l)) ∷ ks) (at_more p ms es e here under l)
at_more p (false ∷ ms) (d ∷ es) e here under l = ap (λ (ks : List Turned). turned p.kind (first p.constants) (written d here l) ∷ ks) (at_more p ms es e here under l)

pub map_more : {X Y : Type 0} (f : X → Y) (xs : List X) (x : X) → map f (xs ++ x ∷ []) ≡ map f xs ++ f x ∷ []
map_more f [] x = refl
map_more f (y ∷ xs) x = ap (λ zs. f y ∷ zs) (map_more f xs x)

pub length_taken : {A : Type 0} (xs : List A) (i : ℕ) → i < length xs → length (take i xs) ≡ i
length_taken xs zero h = refl
length_taken [] (suc i) h = absurd (omega (arith, h))
length_taken (x ∷ xs) (suc i) h = ap suc (length_taken xs i (omega (arith, h)))

taken_at : (p : Part) (ms : List Bool) (es : List Expr) (i : ℕ) (e : Expr) (here under : Names) (l : ℕ) → i < length es → e ≡ get_or es i e →
    turned_at p ms (take (i + 1) es) here under l ≡ turned_at p ms (take i es) here under l ++ child_turned p (get_or ms i false) e here under l ∷ []
taken_at p ms es i e here under l h q =
    ap (λ (ds : List Expr). turned_at p ms ds here under l) (take_more es i e h ∙ ap (λ (d : Expr). take i es ++ d ∷ []) (sym q))
    ∙ at_more p ms (take i es) e here under l
    ∙ ap (λ (j : ℕ). turned_at p ms (take i es) here under l ++ child_turned p (get_or ms j false) e here under l ∷ []) (length_taken es i h)

deep_at : (p : Part) (f : Turned → Expr) (ms : List Bool) (es : List Expr) (i : ℕ) (e : Expr) (here under : Names) (l : ℕ) → i < length es → e ≡ get_or es i e →
    depth (f (child_turned p (get_or ms i false) e here under l)) ≤ greatest (map depth (map f (turned_at p ms es here under l)))
deep_at p f ms [] i e here under l h q = absurd (omega (arith, h))
deep_at p f [] (d ∷ es) zero e here under l h q =
    subst (λ (x : Expr). depth (f (child_turned p false x here under l)) ≤ greatest (map depth (map f (turned_at p [] (d ∷ es) here under l)))) (sym q)
    (greatest_first (depth (f (child_turned p false d here under l))) (map depth (map f (turned_at p [] es here under l))))
deep_at p f (true ∷ ms) (d ∷ es) zero e here under l h q =
    subst (λ (x : Expr). depth (f (child_turned p true x here under l)) ≤ greatest (map depth (map f (turned_at p (true ∷ ms) (d ∷ es) here under l)))) (sym q)
    (greatest_first (depth (f (child_turned p true d here under l))) (map depth (map f (turned_at p ms es here under l))))
deep_at p f (false ∷ ms) (d ∷ es) zero e here under l h q =
    subst (λ (x : Expr). depth (f (child_turned p false x here under l)) ≤ greatest (map depth (map f (turned_at p (false ∷ ms) (d ∷ es) here under l)))) (sym q)
    (greatest_first (depth (f (child_turned p false d here under l))) (map depth (map f (turned_at p ms es here under l))))
deep_at p f [] (d ∷ es) (suc i) e here under l h q =
    let a = deep_at p f [] es i e here under l (omega (arith, h)) q in
    let b = greatest_rest (depth (f (child_turned p false d here under l))) (map depth (map f (turned_at p [] es here under l))) in omega (arith, a, b)
deep_at p f (true ∷ ms) (d ∷ es) (suc i) e here under l h q =
    let a = deep_at p f ms es i e here under l (omega (arith, h)) q in
    let b = greatest_rest (depth (f (child_turned p true d here under l))) (map depth (map f (turned_at p ms es here under l))) in omega (arith, a, b)
deep_at p f (false ∷ ms) (d ∷ es) (suc i) e here under l h q =
    let a = deep_at p f ms es i e here under l (omega (arith, h)) q in
    let b = greatest_rest (depth (f (child_turned p false d here under l))) (map depth (map f (turned_at p ms es here under l))) in omega (arith, a, b)

-- what the spot of a child becomes
child_seen_by : (p : Part) (fs : List Frame) (n : Node) (r : Spot) (e : Expr) (b : Bool) → IsNode fs n → IsChild (if b then n.inner else n.outer) e r →
    seen p fs r ≡ seen_under n.outer.primes (child_turned p b e (names_at fs n.outer.scope) (names_at fs n.inner.scope) n.outer.level)
child_seen_by p fs n r e true h c =
    (λ i. seen_under (c.primes i) (turned p.kind (first p.constants) (written (c.tree i) (names_at fs (c.scope i)) (c.level i))))
    ∙ (λ i. seen_under (h.primes i) (turned p.kind (first p.constants) (written e (names_at fs n.inner.scope) (h.level i))))
child_seen_by p fs n r e false h c =
    (λ i. seen_under (c.primes i) (turned p.kind (first p.constants) (written (c.tree i) (names_at fs (c.scope i)) (c.level i))))

module _ (p : Part) (fs now : List Frame) (n : Node) (r : Spot) (e : Expr) (es : List Expr) (i : ℕ) (here : i < length es) (is : e ≡ get_or es i e)
    (are : es ≡ (out-Expr n.outer.e.now).args) (same : now ≡ fs) (node : IsNode fs n) (child : IsChild (spot_of n i) e r) where
  abbrev made : Expr
  made = (child_turned p (get_or n.marks.items i false) e (names_at fs n.outer.scope) (names_at fs n.inner.scope) n.outer.level).tree n.outer.primes

  made_is : (seen p now r).tree ≡ made
  made_is = ap (λ (gs : List Frame). (seen p gs r).tree) same ∙ ap (λ (v : Sight). v.tree) (child_seen_by p fs n r e (get_or n.marks.items i false) node child)

  pub children_step : (all : List Expr) (t : Expr) → all ≡ turned_trees (turned_at p n.marks.items (take i (out-Expr n.outer.e.now).args) (names_at fs n.outer.scope) (names_at fs n.inner.scope) n.outer.level) n.outer.primes →
      t ≡ (seen p now r).tree →
      all ++ t ∷ [] ≡ turned_trees (turned_at p n.marks.items (take (i + 1) (out-Expr n.outer.e.now).args) (names_at fs n.outer.scope) (names_at fs n.inner.scope) n.outer.level) n.outer.primes
  children_step all t a b =
      ap₂ (λ (us : List Expr) (u : Expr). us ++ u ∷ [])
      (a ∙ ap (λ (ds : List Expr). turned_trees (turned_at p n.marks.items (take i ds) (names_at fs n.outer.scope) (names_at fs n.inner.scope) n.outer.level) n.outer.primes) (sym are)) (b ∙ made_is)
      ∙ sym (map_more (λ (k : Turned). k.tree n.outer.primes) (turned_at p n.marks.items (take i es) (names_at fs n.outer.scope) (names_at fs n.inner.scope) n.outer.level)
      (child_turned p (get_or n.marks.items i false) e (names_at fs n.outer.scope) (names_at fs n.inner.scope) n.outer.level))
      ∙ ap (λ (ks : List Turned). turned_trees ks n.outer.primes) (sym (taken_at p n.marks.items es i e (names_at fs n.outer.scope) (names_at fs n.inner.scope) n.outer.level here is))
      ∙ ap (λ (ds : List Expr). turned_trees (turned_at p n.marks.items (take (i + 1) ds) (names_at fs n.outer.scope) (names_at fs n.inner.scope) n.outer.level) n.outer.primes) are

  pub child_fails : (k : ℕ) (s : Stop) → Builds k (seen p now r).tree (Err s) → BuildsAll k (child_trees p fs n) (Err s)
  child_fails k s h =
      one_fails k made (child_trees p fs n) s (subst (λ (t : Expr). Builds k t (Err s)) made_is h)
      (subst (λ (ds : List Expr). depth made ≤ greatest (map depth (turned_trees (turned_at p n.marks.items ds (names_at fs n.outer.scope) (names_at fs n.inner.scope) n.outer.level) n.outer.primes))) are
      (deep_at p (λ (k : Turned). k.tree n.outer.primes) n.marks.items es i e (names_at fs n.outer.scope) (names_at fs n.inner.scope) n.outer.level here is))

module _ (p : Part) (fs now : List Frame) (s r : Spot) (q : Place) (e : Expr) (es : List Expr) (i : ℕ) (here : i < length es) (is : e ≡ get_or es i e)
    (are : es ≡ (out-Expr s.e.now).args) (same : now ≡ fs) (child : IsChild s e r) where
  abbrev item : Expr
  item = (child_turned p false e (names_at fs s.scope) (names_at fs s.scope) s.level).kept q s.primes

  item_is : (seen p now r).kept q ≡ item
  item_is =
      ap (λ (gs : List Frame). (seen p gs r).kept q) same
      ∙ (λ i. (turned p.kind (first p.constants) (written (child.tree i) (names_at fs (child.scope i)) (child.level i))).kept q (child.primes i))

  pub items_step : (all : List Expr) (t : Expr) → all ≡ kept_trees (turned_at p [] (take i (out-Expr s.e.now).args) (names_at fs s.scope) (names_at fs s.scope) s.level) q s.primes →
      t ≡ (seen p now r).kept q →
      all ++ t ∷ [] ≡ kept_trees (turned_at p [] (take (i + 1) (out-Expr s.e.now).args) (names_at fs s.scope) (names_at fs s.scope) s.level) q s.primes
  items_step all t a b =
      ap₂ (λ (us : List Expr) (u : Expr). us ++ u ∷ [])
      (a ∙ ap (λ (ds : List Expr). kept_trees (turned_at p [] (take i ds) (names_at fs s.scope) (names_at fs s.scope) s.level) q s.primes) (sym are)) (b ∙ item_is)
      ∙ sym (map_more (λ (k : Turned). k.kept q s.primes) (turned_at p [] (take i es) (names_at fs s.scope) (names_at fs s.scope) s.level)
      (child_turned p false e (names_at fs s.scope) (names_at fs s.scope) s.level))
      ∙ ap (λ (ks : List Turned). kept_trees ks q s.primes) (sym (taken_at p [] es i e (names_at fs s.scope) (names_at fs s.scope) s.level here is))
      ∙ ap (λ (ds : List Expr). kept_trees (turned_at p [] (take (i + 1) ds) (names_at fs s.scope) (names_at fs s.scope) s.level) q s.primes) are

  pub item_fails : (k : ℕ) (x : Stop) → Builds k ((seen p now r).kept q) (Err x) → BuildsAll k (kept_children p fs s q) (Err x)
  item_fails k x h =
      one_fails k item (kept_children p fs s q) x (subst (λ (t : Expr). Builds k t (Err x)) item_is h)
      (subst (λ (ds : List Expr). depth item ≤ greatest (map depth (kept_trees (turned_at p [] ds (names_at fs s.scope) (names_at fs s.scope) s.level) q s.primes))) are
      (deep_at p (λ (k : Turned). k.kept q s.primes) [] es i e (names_at fs s.scope) (names_at fs s.scope) s.level here is))

-- ---- what a node becomes

no_marks : (ks : List Writing) (a b c : Names) (l : ℕ) → children [] ks a b l ≡ children [] ks a c l
no_marks [] a b c l = refl
no_marks (k ∷ ks) a b c l = ap (λ (es : List Expr). k a l ∷ es) (no_marks ks a b c l)

-- the node that is written out of one that does not stand aside
abbrev laid : Place → Op → List Expr → List (List ℕ) → Names → ℕ → Expr
laid q o es xs ns l = roll-Expr (record { place = q; op = o; args = es; binds = xs })

plain_seen : (p : Part) (q : Place) (o : Op) (es : List Expr) (xs : List (List ℕ)) (ns : Names) (l n : ℕ) → stands_aside o es ≡ false → is_plain o es ≡ true →
    (turned p.kind (first p.constants) (node_written q o es xs ns l)).tree n
    ≡ roll-Expr (record { place = q; op = op_at p ns n o; args = turned_trees (turned_at p (marks_in (role o (length xs))) es ns (bind_names l xs ns) l) n; binds = binds_at l o xs })
plain_seen p q (op.Use x) es xs ns l n a b = absurd (cc)
plain_seen p q (op.Param x) es xs ns l n a b = absurd (cc)
plain_seen p q (op.Let ds) es xs ns l n a b = absurd (cc)
plain_seen p q op.Prime (k ∷ []) xs ns l n a b = absurd (cc)
plain_seen p q op.Prime [] xs ns l n a b = ap (λ (t : Turned). t.tree n) (turned-roll p.kind (first p.constants) _)
plain_seen p q op.Prime (k ∷ m ∷ es) xs ns l n a b = ap (λ (t : Turned). t.tree n) (turned-roll p.kind (first p.constants) _)
plain_seen p q op.Unchanged (k ∷ []) xs ns l n a b = absurd (cc)
plain_seen p q op.Unchanged [] xs ns l n a b = ap (λ (t : Turned). t.tree n) (turned-roll p.kind (first p.constants) _)
plain_seen p q op.Unchanged (k ∷ m ∷ es) xs ns l n a b = ap (λ (t : Turned). t.tree n) (turned-roll p.kind (first p.constants) _)
plain_seen p q op.Boxed (k ∷ m ∷ []) xs ns l n a b = absurd (cc)
plain_seen p q op.Boxed [] xs ns l n a b = ap (λ (t : Turned). t.tree n) (turned-roll p.kind (first p.constants) _)
plain_seen p q op.Boxed (k ∷ []) xs ns l n a b = ap (λ (t : Turned). t.tree n) (turned-roll p.kind (first p.constants) _)
plain_seen p q op.Boxed (k ∷ m ∷ d ∷ es) xs ns l n a b = ap (λ (t : Turned). t.tree n) (turned-roll p.kind (first p.constants) _)
plain_seen p q op.Angled (k ∷ m ∷ []) xs ns l n a b = absurd (cc)
plain_seen p q op.Angled [] xs ns l n a b = ap (λ (t : Turned). t.tree n) (turned-roll p.kind (first p.constants) _)
plain_seen p q op.Angled (k ∷ []) xs ns l n a b = ap (λ (t : Turned). t.tree n) (turned-roll p.kind (first p.constants) _)
plain_seen p q op.Angled (k ∷ m ∷ d ∷ es) xs ns l n a b = ap (λ (t : Turned). t.tree n) (turned-roll p.kind (first p.constants) _)
plain_seen p q (op.Bound z) es xs ns l n a b =
    ap (λ (t : Turned). t.tree n) (turned-roll p.kind (first p.constants) _)
    ∙ ap (λ (ds : List Expr). roll-Expr (record { place = q; op = op.Bound (new_name (find_last z ns.bound)); args = turned_trees (map (turned p.kind (first p.constants)) ds) n; binds = xs }))
    (no_marks (map written es) ns ns (bind_names l xs ns) l)
plain_seen p q o es xs ns l n a b = ap (λ (t : Turned). t.tree n) (turned-roll p.kind (first p.constants) _)

-- ---- at the root

-- what a spot's tree and its UNCHANGED become, by its node
node_of : (p : Part) (fs : List Frame) (s : Spot) → seen p fs s ≡ seen_under s.primes (turned p.kind (first p.constants)
    (node_written (out-Expr s.e.now).place (out-Expr s.e.now).op (out-Expr s.e.now).args (out-Expr s.e.now).binds (names_at fs s.scope) s.level))
node_of p fs s = seen_node fs s (out-Expr s.e.now).op (out-Expr s.e.now).args refl refl p.kind (first p.constants)

child_tree : (p : Part) (fs : List Frame) (s r : Spot) (e : Expr) → IsChild s e r →
    seen p fs r ≡ seen_under s.primes (turned p.kind (first p.constants) (written e (names_at fs s.scope) s.level))
child_tree p fs s r e c = λ i. seen_under (c.primes i) (turned p.kind (first p.constants) (written (c.tree i) (names_at fs (c.scope i)) (c.level i)))

pub unchanged_seen : (p : Part) (fs : List Frame) (s r : Spot) (v : Expr) (es : List Expr) → (out-Expr s.e.now).op ≡ op.Unchanged → es ≡ (out-Expr s.e.now).args → es ≡ v ∷ [] → IsChild s v r →
    (seen p fs s).tree ≡ (seen p fs r).kept (out-Expr s.e.now).place
unchanged_seen p fs s r v es o a b c =
    ap (λ (k : Sight). k.tree) (seen_node fs s op.Unchanged (v ∷ []) o (sym a ∙ b) p.kind (first p.constants))
    ∙ ap (λ (t : Turned). t.tree s.primes) (turned-roll p.kind (first p.constants) _)
    ∙ sym (ap (λ (k : Sight). k.kept (out-Expr s.e.now).place) (child_tree p fs s r v c))

pub boxed_seen : (p : Part) (fs : List Frame) (s r t : Spot) (a v : Expr) (es : List Expr) → (out-Expr s.e.now).op ≡ op.Boxed → es ≡ (out-Expr s.e.now).args → es ≡ a ∷ v ∷ [] → IsChild s a r → IsChild s v t →
    (seen p fs s).tree ≡ inner_node (out-Expr s.e.now).place op.Or ((seen p fs r).tree ∷ (seen p fs t).kept (out-Expr s.e.now).place ∷ [])
boxed_seen p fs s r t a v es o is b c d =
    let q : Place = (out-Expr s.e.now).place in
    ap (λ (k : Sight). k.tree) (seen_node fs s op.Boxed (a ∷ v ∷ []) o (sym is ∙ b) p.kind (first p.constants))
    ∙ ap (λ (t : Turned). t.tree s.primes) (turned-roll p.kind (first p.constants) _)
    ∙ ap₂ (λ (k m : Sight). inner_node q op.Or (k.tree ∷ m.kept q ∷ [])) (sym (child_tree p fs s r a c)) (sym (child_tree p fs s t v d))

pub angled_seen : (p : Part) (fs : List Frame) (s r t : Spot) (a v : Expr) (es : List Expr) → (out-Expr s.e.now).op ≡ op.Angled → es ≡ (out-Expr s.e.now).args → es ≡ a ∷ v ∷ [] → IsChild s a r → IsChild s v t →
    (seen p fs s).tree ≡ inner_node (out-Expr s.e.now).place op.And ((seen p fs r).tree ∷ inner_node (out-Expr s.e.now).place op.Not ((seen p fs t).kept (out-Expr s.e.now).place ∷ []) ∷ [])
angled_seen p fs s r t a v es o is b c d =
    let q : Place = (out-Expr s.e.now).place in
    ap (λ (k : Sight). k.tree) (seen_node fs s op.Angled (a ∷ v ∷ []) o (sym is ∙ b) p.kind (first p.constants))
    ∙ ap (λ (t : Turned). t.tree s.primes) (turned-roll p.kind (first p.constants) _)
    ∙ ap₂ (λ (k m : Sight). inner_node q op.And (k.tree ∷ inner_node q op.Not (m.kept q ∷ []) ∷ [])) (sym (child_tree p fs s r a c)) (sym (child_tree p fs s t v d))

-- ---- a node that is no other tree's

opened_children : (p : Part) (fs now : List Frame) (s : Spot) (n : Node) → s.scope ≤ length fs → IsOpened fs now s n →
    child_trees p now n ≡ turned_trees (turned_at p (marks_in (role (out-Expr s.e.now).op (length (out-Expr s.e.now).binds))) (out-Expr s.e.now).args (names_at fs s.scope)
    (bind_names s.level (out-Expr s.e.now).binds (names_at fs s.scope)) s.level) s.primes
opened_children p fs now s n w o =
    ap (λ (r : Spot). turned_trees (turned_at p n.marks.items (out-Expr r.e.now).args (names_at now r.scope) (names_at now n.inner.scope) r.level) r.primes) o.outer
    ∙ (λ i. turned_trees (turned_at p (o.marks i) (out-Expr s.e.now).args (grown_names fs now s.scope o.grown w i) (o.names i) s.level) s.primes)

pub node_seen : (p : Part) (fs now : List Frame) (s : Spot) (n : Node) → s.scope ≤ length fs → aside s ≡ false → is_plain (out-Expr s.e.now).op (out-Expr s.e.now).args ≡ true → IsOpened fs now s n →
    (seen p fs s).tree ≡ roll-Expr (record {
      place = (out-Expr s.e.now).place;
      op = op_at p (names_at fs s.scope) s.primes (out-Expr s.e.now).op;
      args = child_trees p now n;
      binds = binds_at s.level (out-Expr s.e.now).op (out-Expr s.e.now).binds;
    })
node_seen p fs now s n w a b o =
    ap (λ (k : Sight). k.tree) (node_of p fs s)
    ∙ plain_seen p (out-Expr s.e.now).place (out-Expr s.e.now).op (out-Expr s.e.now).args (out-Expr s.e.now).binds (names_at fs s.scope) s.level s.primes a b
    ∙ ap (λ (es : List Expr). roll-Expr (record {
      place = (out-Expr s.e.now).place;
      op = op_at p (names_at fs s.scope) s.primes (out-Expr s.e.now).op;
      args = es;
      binds = binds_at s.level (out-Expr s.e.now).op (out-Expr s.e.now).binds;
    })) (sym (opened_children p fs now s n w o))

-- ---- under UNCHANGED

abbrev is_prime_of_one : Op → List Turned → Bool
is_prime_of_one op.Prime (k ∷ []) = true
is_prime_of_one o ks = false

abbrev single_of : List Turned → Bool
single_of (k ∷ []) = true
single_of ks = false

-- what is kept of a node that is no tuple, where it stands for itself
no_tuple : (p : Part) (q c : Place) (o : Op) (ks : List Turned) (xs : List (List ℕ)) (n : ℕ) → is_prime_of_one o ks ≡ false → tuple_of o ks ≡ false →
    kept_of p.kind (first p.constants) q o xs ks c n
    ≡ inner_node c op.Eq (tree_of p.kind (first p.constants) q o xs ks (suc n) ∷ tree_of p.kind (first p.constants) q o xs ks n ∷ [])
no_tuple p q c op.Tuple ks xs n a h = absurd (cc)
no_tuple p q c (op.Noted x) [] xs n a h = absurd (cc)
no_tuple p q c (op.Noted x) (k ∷ []) xs n a h = ap (λ (b : Bool). if b then k.kept c n else equation p.kind (first p.constants) q (op.Noted x) xs (k ∷ []) c n) h
no_tuple p q c (op.Noted x) (k ∷ m ∷ ks) xs n a h = absurd (cc)
no_tuple p q c op.Prime [] xs n a h = absurd (cc)
no_tuple p q c op.Prime (k ∷ []) xs n a h = absurd (cc)
no_tuple p q c op.Prime (k ∷ m ∷ ks) xs n a h = absurd (cc)
no_tuple p q c o ks xs n a h = refl

abbrev equal_at : Place → Turned → ℕ → Expr
equal_at c t n = inner_node c op.Eq (t.tree (suc n) ∷ t.tree n ∷ [])

-- the same of a tree
module _ (p : Part) (q c : Place) (xs : List (List ℕ)) (n : ℕ) where
  abbrev one : Op → List Expr → Turned
  one o es = turned p.kind (first p.constants) (roll-Expr (record { place = q; op = o; args = es; binds = xs }))

  by_node : (o : Op) (es : List Expr) → is_prime_of_one o (map (turned p.kind (first p.constants)) es) ≡ false → (one o es).is_tuple ≡ false →
      (one o es).kept c n ≡ equal_at c (one o es) n
  by_node o es a h =
      let e = turned-roll p.kind (first p.constants) (record { place = q; op = o; args = es; binds = xs }) in
      ap (λ (t : Turned). t.kept c n) e
      ∙ no_tuple p q c o (map (turned p.kind (first p.constants)) es) xs n a (sym (ap (λ (t : Turned). t.is_tuple) e) ∙ h)
      ∙ ap (λ (t : Turned). equal_at c t n) (sym e)

one_prime : (p : Part) (o : Op) (ks : List Writing) (a b : Names) (ms : List Bool) (l : ℕ) (es : List Expr) → ks ≡ map written es → stands_aside o es ≡ false →
    is_prime_of_one o (map (turned p.kind (first p.constants)) (children [] ks a b l)) ≡ false
one_prime p op.Prime ks a b ms l [] e h = ap (λ (ks : List Writing). is_prime_of_one op.Prime (map (turned p.kind (first p.constants)) (children [] ks a b l))) e
one_prime p op.Prime ks a b ms l (k ∷ []) e h = absurd (cc)
one_prime p op.Prime ks a b ms l (k ∷ m ∷ es) e h = ap (λ (ks : List Writing). is_prime_of_one op.Prime (map (turned p.kind (first p.constants)) (children [] ks a b l))) e
one_prime p o ks a b ms l es e h = refl

-- and of what is written of an expression
written_kept : (p : Part) (q c : Place) (o : Op) (es : List Expr) (xs : List (List ℕ)) (ns : Names) (l n : ℕ) → stands_aside o es ≡ false →
    (turned p.kind (first p.constants) (node_written q o es xs ns l)).is_tuple ≡ false →
    (turned p.kind (first p.constants) (node_written q o es xs ns l)).kept c n ≡ equal_at c (turned p.kind (first p.constants) (node_written q o es xs ns l)) n
written_kept p q c (op.Use x) es xs ns l n a h = absurd (cc)
written_kept p q c (op.Param x) es xs ns l n a h = absurd (cc)
written_kept p q c (op.Let ds) es xs ns l n a h = absurd (cc)
written_kept p q c op.Prime es xs ns l n a h =
    by_node p q c (level_names l xs) n op.Prime (children [] (map written es) ns (bind_names l xs ns) l) (one_prime p op.Prime (map written es) ns (bind_names l xs ns) [] l es refl a) h
written_kept p q c (op.Bound z) es xs ns l n a h = by_node p q c xs n (op.Bound (new_name (find_last z ns.bound))) (children [] (map written es) ns ns l) refl h
written_kept p q c o es xs ns l n a h = by_node p q c (level_names l xs) n o (children (marks_in (role o (length xs))) (map written es) ns (bind_names l xs ns) l) refl h

pub equation_seen : (p : Part) (fs : List Frame) (s : Spot) (c : Place) → aside s ≡ false → (seen p fs s).is_tuple ≡ false → (seen p fs s).kept c ≡ equation_of p fs s c
equation_seen p fs s c a h =
    let x = out-Expr s.e.now in
    ap (λ (k : Sight). k.kept c) (node_of p fs s)
    ∙ written_kept p (out-Expr s.e.now).place c (out-Expr s.e.now).op (out-Expr s.e.now).args (out-Expr s.e.now).binds (names_at fs s.scope) s.level s.primes a
    (sym (ap (λ (k : Sight). k.is_tuple) (node_of p fs s)) ∙ h)
    ∙ sym (ap₂ (λ (k m : Sight). inner_node c op.Eq (k.tree ∷ m.tree ∷ [])) (node_of p fs (record s { primes = suc s.primes })) (node_of p fs s))

-- ---- tuples

pub tuple_seen : (p : Part) (fs : List Frame) (s : Spot) → (out-Expr s.e.now).op ≡ op.Tuple → (seen p fs s).is_tuple ≡ true
tuple_seen p fs s o =
    ap (λ (k : Sight). k.is_tuple) (seen_node fs s op.Tuple (out-Expr s.e.now).args o refl p.kind (first p.constants))
    ∙ ap (λ (t : Turned). t.is_tuple) (turned-roll p.kind (first p.constants) _)

pub tuple_kept : (p : Part) (fs : List Frame) (s : Spot) (c : Place) → (out-Expr s.e.now).op ≡ op.Tuple → (seen p fs s).kept c ≡ inner_node c op.And (kept_children p fs s c)
tuple_kept p fs s c o =
    ap (λ (k : Sight). k.kept c) (seen_node fs s op.Tuple (out-Expr s.e.now).args o refl p.kind (first p.constants))
    ∙ ap (λ (t : Turned). t.kept c s.primes) (turned-roll p.kind (first p.constants) _)
    ∙ ap (λ (ds : List Expr). inner_node c op.And (kept_trees (map (turned p.kind (first p.constants)) ds) c s.primes))
    (no_marks (map written (out-Expr s.e.now).args) (names_at fs s.scope) (bind_names s.level (out-Expr s.e.now).binds (names_at fs s.scope)) (names_at fs s.scope) s.level)

-- a note or a prime without its operand
abbrev lacks : Op → Type 0
lacks o = ((x : List ℕ) × (o ≡ op.Noted x)) ⊎ (o ≡ op.Prime)

record Lacking (p : Part) (c : Place) (n : ℕ) (t : Turned) : Type 0 where
  is_tuple : t.is_tuple ≡ true
  kept : t.kept c n ≡ stays c

lacking_node : (p : Part) (q c : Place) (o : Op) (ks : List Turned) (xs : List (List ℕ)) (n : ℕ) → lacks o → single_of ks ≡ false →
    Lacking p c n (turned_node p.kind (first p.constants) (record { place = q; op = o; args = ks; binds = xs }))
lacking_node p q c (op.Noted x) [] xs n o h = record { is_tuple = refl; kept = refl }
lacking_node p q c (op.Noted x) (k ∷ []) xs n o h = absurd (cc)
lacking_node p q c (op.Noted x) (k ∷ m ∷ ks) xs n o h = record { is_tuple = refl; kept = refl }
lacking_node p q c op.Prime [] xs n o h = record { is_tuple = refl; kept = refl }
lacking_node p q c op.Prime (k ∷ []) xs n o h = absurd (cc)
lacking_node p q c op.Prime (k ∷ m ∷ ks) xs n o h = record { is_tuple = refl; kept = refl }
lacking_node p q c o ks xs n (inl e) h = absurd (let k = e.1 in cc)
lacking_node p q c o ks xs n (inr e) h = absurd (cc)

none_single : (p : Part) (o : Op) (es : List Expr) (a b : Names) (l : ℕ) → lacks o → stands_aside o es ≡ false → is_noted o es ≡ false →
    single_of (map (turned p.kind (first p.constants)) (children [] (map written es) a b l)) ≡ false
none_single p o [] a b l h d e = refl
none_single p o (k ∷ []) a b l (inl h) d e = absurd (let f = sym (ap (λ (o : Op). is_noted o (k ∷ [])) h.1) ∙ e in cc)
none_single p o (k ∷ []) a b l (inr h) d e = absurd (let f = sym (ap (λ (o : Op). stands_aside o (k ∷ [])) h) ∙ d in cc)
none_single p o (k ∷ m ∷ es) a b l h d e = refl

lacking_written : (p : Part) (q c : Place) (o : Op) (es : List Expr) (xs : List (List ℕ)) (ns : Names) (l n : ℕ) → lacks o → stands_aside o es ≡ false → is_noted o es ≡ false →
    Lacking p c n (turned p.kind (first p.constants) (node_written q o es xs ns l))
lacking_written p q c (op.Noted x) es xs ns l n h d e =
    subst (Lacking p c n) (sym (turned-roll p.kind (first p.constants) _))
    (lacking_node p q c (op.Noted x) (map (turned p.kind (first p.constants)) (children [] (map written es) ns (bind_names l xs ns) l)) (level_names l xs) n h (none_single p (op.Noted x) es ns (bind_names l xs ns) l h d e))
lacking_written p q c op.Prime es xs ns l n h d e =
    subst (Lacking p c n) (sym (turned-roll p.kind (first p.constants) _))
    (lacking_node p q c op.Prime (map (turned p.kind (first p.constants)) (children [] (map written es) ns (bind_names l xs ns) l)) (level_names l xs) n h (none_single p op.Prime es ns (bind_names l xs ns) l h d e))
lacking_written p q c o es xs ns l n (inl h) d e = absurd (let k = h.1 in cc)
lacking_written p q c o es xs ns l n (inr h) d e = absurd (cc)

pub lacking_seen : (p : Part) (fs : List Frame) (s : Spot) (c : Place) → lacks (out-Expr s.e.now).op → aside s ≡ false → is_noted (out-Expr s.e.now).op (out-Expr s.e.now).args ≡ false →
    ((seen p fs s).is_tuple ≡ true) × ((seen p fs s).kept c ≡ stays c)
lacking_seen p fs s c h d e =
    let k = lacking_written p (out-Expr s.e.now).place c (out-Expr s.e.now).op (out-Expr s.e.now).args (out-Expr s.e.now).binds (names_at fs s.scope) s.level s.primes h d e in
    (ap (λ (k : Sight). k.is_tuple) (node_of p fs s) ∙ k.is_tuple, ap (λ (k : Sight). k.kept c) (node_of p fs s) ∙ k.kept)

-- any other node is none
plain_written : (p : Part) (q : Place) (o : Op) (es : List Expr) (xs : List (List ℕ)) (ns : Names) (l : ℕ) → stands_aside o es ≡ false → (o ≡ op.Tuple → ⊥) → ((x : List ℕ) → o ≡ op.Noted x → ⊥) → (o ≡ op.Prime → ⊥) →
    (turned p.kind (first p.constants) (node_written q o es xs ns l)).is_tuple ≡ false
plain_written p q (op.Use x) es xs ns l a b d e = absurd (cc)
plain_written p q (op.Param x) es xs ns l a b d e = absurd (cc)
plain_written p q (op.Let ds) es xs ns l a b d e = absurd (cc)
plain_written p q op.Tuple es xs ns l a b d e = absurd (b refl)
plain_written p q (op.Noted x) es xs ns l a b d e = absurd (d x refl)
plain_written p q op.Prime es xs ns l a b d e = absurd (e refl)
plain_written p q o es xs ns l a b d e = ap (λ (t : Turned). t.is_tuple) (turned-roll p.kind (first p.constants) _)

pub plain_tuple : (p : Part) (fs : List Frame) (s : Spot) → aside s ≡ false → ((out-Expr s.e.now).op ≡ op.Tuple → ⊥) → ((x : List ℕ) → (out-Expr s.e.now).op ≡ op.Noted x → ⊥) → ((out-Expr s.e.now).op ≡ op.Prime → ⊥) →
    (seen p fs s).is_tuple ≡ false
plain_tuple p fs s a b d e =
    ap (λ (k : Sight). k.is_tuple) (node_of p fs s)
    ∙ plain_written p (out-Expr s.e.now).place (out-Expr s.e.now).op (out-Expr s.e.now).args (out-Expr s.e.now).binds (names_at fs s.scope) s.level a b d e

-- ---- from a spot to its root, and below its notes

module _ (p : Part) (old now new : List Frame) (s t b : Spot) (c : Place) (root : IsRoot old now s t) (below : IsBelow now new t b) where
  at_root : seen p now t ≡ seen p old s
  at_root = λ i. root.leads.same i p.kind (first p.constants)

  below_kept : (seen p new b).is_tuple ≡ true → (seen p old s).kept c ≡ (seen p new b).kept c
  below_kept h =
      let e : (seen p now t).is_tuple ≡ true = sym (below.under.tuple p.kind (first p.constants)) ∙ h in
      ap (λ (k : Sight). k.kept c) (sym at_root) ∙ (λ i. sym (below.under.kept p.kind (first p.constants) e) i c)

  pub kept_by_tuple : (out-Expr b.e.now).op ≡ op.Tuple → (seen p old s).kept c ≡ inner_node c op.And (kept_children p new b c)
  kept_by_tuple o = below_kept (tuple_seen p new b o) ∙ tuple_kept p new b c o

  pub kept_lacking : lacks (out-Expr b.e.now).op → (seen p old s).kept c ≡ stays c
  kept_lacking o =
      let k = lacking_seen p new b c o below.under.stays below.plain in
      below_kept k.0 ∙ k.1

  pub kept_equation : t.scope ≤ length now → ((out-Expr b.e.now).op ≡ op.Tuple → ⊥) → ((x : List ℕ) → (out-Expr b.e.now).op ≡ op.Noted x → ⊥) → ((out-Expr b.e.now).op ≡ op.Prime → ⊥) →
      (seen p old s).kept c ≡ equation_of p new t c
  kept_equation w f g h =
      let e : seen p new t ≡ seen p now t = λ i. sight_stays now new t below.under.reaches.grown w i p.kind (first p.constants) in
      ap (λ (k : Sight). k.kept c) (sym at_root ∙ sym e)
      ∙ equation_seen p new t c root.stays (ap (λ (k : Sight). k.is_tuple) e ∙ sym (below.under.tuple p.kind (first p.constants)) ∙ plain_tuple p new b below.under.stays f g h)

-- ---- the same tree

pub same_tree : (k : ℕ) (t u : Expr) (s : Stop) → t ≡ u → Builds k t (Err s) → Builds k u (Err s)
same_tree k t u s e h = subst (λ (v : Expr). Builds k v (Err s)) e h

pub same_built : (k : ℕ) (t u : Expr) (r : Result Expr Stop) → t ≡ u → Builds k t r → Builds k u r
same_built k t u r e h = subst (λ (v : Expr). Builds k v r) e h

pub root_tree : (p : Part) (old new : List Frame) (s r : Spot) → IsRoot old new s r → (seen p new r).tree ≡ (seen p old s).tree
root_tree p old new s r h = λ i. (h.leads.same i p.kind (first p.constants)).tree

-- ---- over the same frames

pub moved_tree : (p : Part) (fs gs : List Frame) (s : Spot) (k : ℕ) (r : Result Expr Stop) → gs ≡ fs → Builds k (seen p gs s).tree r → Builds k (seen p fs s).tree r
moved_tree p fs gs s k r e h = subst (λ (hs : List Frame). Builds k (seen p hs s).tree r) e h

pub moved_kept : (p : Part) (fs gs : List Frame) (s : Spot) (q : Place) (k : ℕ) (r : Result Expr Stop) → gs ≡ fs → Builds k ((seen p gs s).kept q) r → Builds k ((seen p fs s).kept q) r
moved_kept p fs gs s q k r e h = subst (λ (hs : List Frame). Builds k ((seen p hs s).kept q) r) e h

pub next_fails : (p : Part) (fs : List Frame) (s : Spot) (q : Place) (n k : ℕ) (x : Stop) → 0 < k → n ≡ suc s.primes → Builds (k - 1) (seen p fs (record s { primes = n })).tree (Err x) →
    Builds k (equation_of p fs s q) (Err x)
next_fails p fs s q n k x h e b =
    first_fails k q op.Eq (seen p fs (record s { primes = suc s.primes })).tree (seen p fs s).tree x h (subst (λ (m : ℕ). Builds (k - 1) (seen p fs (record s { primes = m })).tree (Err x)) e b)

pub now_fails : (p : Part) (fs : List Frame) (s : Spot) (q : Place) (k : ℕ) (x : Stop) → 0 < k → Builds (k - 1) (seen p fs s).tree (Err x) → Builds k (equation_of p fs s q) (Err x)
now_fails p fs s q k x h b = second_fails k q op.Eq (seen p fs (record s { primes = suc s.primes })).tree (seen p fs s).tree x h b

pub moved_changed : (p : Part) (fs gs : List Frame) (s : Spot) (q : Place) (k : ℕ) (r : Result Expr Stop) → gs ≡ fs →
    Builds k (inner_node q op.Not ((seen p gs s).kept q ∷ [])) r → Builds k (inner_node q op.Not ((seen p fs s).kept q ∷ [])) r
moved_changed p fs gs s q k r e h = subst (λ (hs : List Frame). Builds k (inner_node q op.Not ((seen p hs s).kept q ∷ [])) r) e h

pub node_made : (q : Place) (o u : Op) (es fs : List Expr) (xs ys : List (List ℕ)) (t : Expr) → o ≡ u → es ≡ fs → xs ≡ ys → t ≡ roll-Expr (record { place = q; op = u; args = fs; binds = ys }) →
    roll-Expr (record { place = q; op = o; args = es; binds = xs }) ≡ t
node_made q o u es fs xs ys t a b c d = (λ i. roll-Expr (record { place = q; op = a i; args = b i; binds = c i })) ∙ sym d
