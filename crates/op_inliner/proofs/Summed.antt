-- The sums of a module tell what its names count.
use Rattle.std.proofs.Common.{◌≡◌, ◌≤◌, ℕ, zero, suc, ◌+◌, ◌*◌, ◌==◌, ◌&&◌, Bool, true, false, IsTrue, List, [], ◌∷◌, ◌++◌, map, zip, length, take, drop, arith, refl, ap, ◌∙◌, sym, subst, Option, Some, None, if◌then◌else◌}
use Rattle.std.proofs.lemmas.Bool.{eqb-true}
use Rattle.std.proofs.lemmas.List.{append-nil, append_assoc}
use Rattle.std.specs.List.{list_all}
use Rattle.tla_meaning.specs.declared.expr.Def.{Def}
use Rattle.tla_meaning.specs.declared.expr.Expr.{Expr, roll-Expr}
use Rattle.tla_meaning.specs.declared.expr.Expr.TheOpen.{Expr-F}
use Rattle.tla_meaning.specs.declared.expr.Expr.TheFolds.{fold-roll-Expr, map-Expr, ind-Expr}
use Rattle.tla_meaning.specs.declared.modules.Flat.{Flat}
use Rattle.tla_meaning.specs.declared.op.Op.{Op}
use Rattle.tla_meaning.specs.declared.op.Op.TheVariants as op
use Rattle.tla_meaning.specs.declared.place.Place.{Place}
use Rattle.tla_meaning.specs.Folds.{with_lambdas}
use Rattle.tla_meaning.specs.Meaning.{Role, Named, Held, Lets, Plain_role, role}
use Rattle.tla_meaning.specs.Scopes.{find_last, or_else, same_text}
use Rattle.op_inliner.specs.declared.sums.Sum.{Sum}
use Rattle.op_inliner.specs.declared.sums.Counted.{Counted}
use Rattle.op_inliner.specs.declared.parts.PartKind.{PartKind}
use Rattle.op_inliner.specs.Annotations.{body_of}
use Rattle.op_inliner.specs.Answers.{size, up_to}
use Rattle.op_inliner.specs.Expansion.{assumed, assumptions_expanded, expansion}
use Rattle.op_inliner.specs.Known.{Arities, Uses, all_use, are_known, arities_of, definitions_known, lets_use, node_uses, shaped, uses_known, wants, with_params}
use Rattle.op_inliner.specs.inner.Counting.{counts_of, Count, Counting, Counts, no_count, called_count, count_at, count_node, counted, counts_at, define_count, definitions_count, kept_count, let_counts, node_count, operand_plain, pass_counts, plain_count, sum_kept, sum_trees, tree_count}
use Rattle.op_inliner.specs.inner.Sums.{products, sum_at, counted_at, cut_sum_of, plain_number, add_sums, one_more, all_given, flat_sums, flat_counts, total_trees, total_kept, tree_sum, twice, kept_sum, operand_sum, plain_sum, node_sums, Scope, Summing, sums_at, no_sums, called_sums, zeros, unknown, unknown_count, parameters, behind_all, defined_sums, let_sums, sums_of_child, sum_node, summed, definitions_sums, nodes_of, limit}
use Rattle.tla_meaning.proofs.Views.{and_left, and_right, false≢true}
use Rattle.op_inliner.proofs.Counted.{assumed_is_size, count_is_size, counted-roll}
use Rattle.op_inliner.proofs.NoNames.{assumed_used}
use Rattle.op_inliner.proofs.Notes.{body_uses}
use Rattle.op_inliner.proofs.Rolls.{uses-roll}
use Rattle.op_inliner.proofs.Same.{AllSame, Same, same_add, same_cut, same_one, sum_add, sum_given, sum_same}

pub summed-roll : (x : Expr-F Expr) → summed (roll-Expr x) ≡ sum_node (map-Expr Expr Summing summed x) (role x.op (length x.binds))
unfolding summed
summed-roll x = fold-roll-Expr Summing (λ x. sum_node x (role x.op (length x.binds))) x

-- counts that are the same up to the limit
pub record Agree (c d : Count) : Type 0 where
  pub tree : Same c.tree d.tree
  pub kept : Same c.kept d.kept
  pub plain : Same c.plain d.plain

pub data AllTell (xs : List ℕ) : List Counted → List Count → Type 0 where
  nothing : AllTell xs [] []
  further : {c : Counted} {cs : List Counted} {d : Count} {ds : List Count} → Agree (counted_at xs c) d → AllTell xs cs ds → AllTell xs (c ∷ cs) (d ∷ ds)

-- ---- nodes

more_agrees : (xs : List ℕ) (s : Sum) (n : ℕ) → Same (sum_at xs s) n → Same (sum_at xs (one_more s)) (suc n)
more_agrees xs s n h =
    same_add (cut_sum_of s.base 1) (s.base + 1) (products s.factors xs) (products s.factors xs) (same_cut (s.base + 1)) refl
    ∙ same_one ((s.base + 1) + products s.factors xs) (1 + sum_at xs s) (omega arith)
    ∙ same_add 1 1 (sum_at xs s) n refl h
    ∙ same_one (1 + n) (suc n) (omega arith)

add_agrees : (xs : List ℕ) (s t : Sum) (m n : ℕ) → Same (sum_at xs s) m → Same (sum_at xs t) n → Same (sum_at xs (add_sums s t)) (m + n)
add_agrees xs s t m n h k = sum_add xs s t ∙ same_add (sum_at xs s) m (sum_at xs t) n h k

twice_agrees : (xs : List ℕ) (s : Sum) (n : ℕ) → Same (sum_at xs s) n → Same (sum_at xs (twice s)) (2 * n)
twice_agrees xs s n h = add_agrees xs s s n n h h ∙ same_one (n + n) (2 * n) (omega arith)

number_agrees : (xs : List ℕ) (n : ℕ) → Same (sum_at xs (plain_number n)) n
number_agrees xs n = same_one (n + 0) n (omega arith)

trees_agree : (xs : List ℕ) {cs : List Counted} {ds : List Count} → AllTell xs cs ds → Same (sum_at xs (total_trees cs)) (sum_trees ds)
trees_agree xs nothing = refl
trees_agree xs (further {c} {cs} {d} {ds} h k) = add_agrees xs c.tree (total_trees cs) d.tree (sum_trees ds) h.tree (trees_agree xs k)

kept_agree : (xs : List ℕ) {cs : List Counted} {ds : List Count} → AllTell xs cs ds → Same (sum_at xs (total_kept cs)) (sum_kept ds)
kept_agree xs nothing = refl
kept_agree xs (further {c} {cs} {d} {ds} h k) = add_agrees xs c.kept (total_kept cs) d.kept (sum_kept ds) h.kept (kept_agree xs k)

all_agree : (xs : List ℕ) {cs : List Counted} {ds : List Count} → AllTell xs cs ds → Same (sum_at xs (one_more (total_trees cs))) (suc (sum_trees ds))
all_agree xs {cs = cs} {ds = ds} h = more_agrees xs (total_trees cs) (sum_trees ds) (trees_agree xs h)

tree_agrees : (xs : List ℕ) (o : Op) {cs : List Counted} {ds : List Count} → AllTell xs cs ds → Same (sum_at xs (tree_sum o cs)) (tree_count o ds)
tree_agrees xs op.Prime nothing = all_agree xs nothing
tree_agrees xs op.Prime (further h nothing) = h.tree
tree_agrees xs op.Prime (further h (further k l)) = all_agree xs (further h (further k l))
tree_agrees xs op.Unchanged nothing = all_agree xs nothing
tree_agrees xs op.Unchanged (further h nothing) = h.kept
tree_agrees xs op.Unchanged (further h (further k l)) = all_agree xs (further h (further k l))
tree_agrees xs op.Boxed nothing = all_agree xs nothing
tree_agrees xs op.Boxed (further h nothing) = all_agree xs (further h nothing)
tree_agrees xs op.Boxed (further {c = a} {d = b} h (further {c = c} {d = d} k nothing)) =
    more_agrees xs (add_sums a.tree c.kept) (b.tree + d.kept) (add_agrees xs a.tree c.kept b.tree d.kept h.tree k.kept)
tree_agrees xs op.Boxed (further h (further k (further l r))) = all_agree xs (further h (further k (further l r)))
tree_agrees xs op.Angled nothing = all_agree xs nothing
tree_agrees xs op.Angled (further h nothing) = all_agree xs (further h nothing)
tree_agrees xs op.Angled (further {c = a} {d = b} h (further {c = c} {d = d} k nothing)) =
    more_agrees xs (add_sums a.tree (one_more c.kept)) (b.tree + suc d.kept)
    (add_agrees xs a.tree (one_more c.kept) b.tree (suc d.kept) h.tree (more_agrees xs c.kept d.kept k.kept))
tree_agrees xs op.Angled (further h (further k (further l r))) = all_agree xs (further h (further k (further l r)))
tree_agrees xs o h = all_agree xs h

kept_agrees : (xs : List ℕ) (o : Op) {cs : List Counted} {ds : List Count} → AllTell xs cs ds → Same (sum_at xs (kept_sum o cs)) (kept_count o ds)
kept_agrees xs op.Tuple {cs = cs} {ds = ds} h = more_agrees xs (total_kept cs) (sum_kept ds) (kept_agree xs h)
kept_agrees xs (op.Noted x) nothing = number_agrees xs 1
kept_agrees xs (op.Noted x) (further {c = c} {d = d} h nothing) =
    add_agrees xs c.kept (twice c.plain) d.kept (2 * d.plain) h.kept (twice_agrees xs c.plain d.plain h.plain)
kept_agrees xs (op.Noted x) (further h (further k l)) = number_agrees xs 1
kept_agrees xs op.Prime nothing = number_agrees xs 1
kept_agrees xs op.Prime (further h nothing) = h.kept
kept_agrees xs op.Prime (further h (further k l)) = number_agrees xs 1
kept_agrees xs o {cs = cs} {ds = ds} h =
    more_agrees xs (twice (tree_sum o cs)) (2 * tree_count o ds) (twice_agrees xs (tree_sum o cs) (tree_count o ds) (tree_agrees xs o h))

operand_agrees : (xs : List ℕ) {cs : List Counted} {ds : List Count} → AllTell xs cs ds → Same (sum_at xs (operand_sum cs)) (operand_plain ds)
operand_agrees xs nothing = number_agrees xs 0
operand_agrees xs (further h nothing) = h.plain
operand_agrees xs (further h (further k l)) = number_agrees xs 0

plain_agrees : (xs : List ℕ) (o : Op) {cs : List Counted} {ds : List Count} → AllTell xs cs ds → Same (sum_at xs (plain_sum o cs)) (plain_count o ds)
plain_agrees xs op.Tuple h = number_agrees xs 0
plain_agrees xs (op.Noted x) h = operand_agrees xs h
plain_agrees xs op.Prime h = operand_agrees xs h
plain_agrees xs o h = number_agrees xs 1

node_agrees : (xs : List ℕ) (o : Op) {cs : List Counted} {ds : List Count} → AllTell xs cs ds → Agree (counted_at xs (node_sums o cs)) (node_count o ds)
node_agrees xs o h = record { tree = tree_agrees xs o h; kept = kept_agrees xs o h; plain = plain_agrees xs o h }

-- ---- names

-- a name's sums tell what it counts of so many arguments
pub record Rel (xs : List ℕ) (e : ℕ × Counted) (f : List Count → Count) (k : ℕ) : Type 0 where
  pub fits : e.0 ≤ length xs
  pub tells : (ys : List ℕ) (ds : List Count) → length ds ≡ k → AllSame ys (flat_counts ds) → Agree (counted_at (take e.0 xs ++ ys) e.1) (f ds)

pub data AllRel (xs : List ℕ) : Scope → Counts → Arities → Type 0 where
  none : AllRel xs [] [] []
  more : (x : List ℕ) {e : ℕ × Counted} {sc : Scope} {f : List Count → Count} {ns : Counts} {k : ℕ} {as' : Arities} →
      Rel xs e f k → AllRel xs sc ns as' → AllRel xs ((x, e) ∷ sc) ((x, f) ∷ ns) ((x, k) ∷ as')

data OneRel (xs : List ℕ) : Option (ℕ × Counted) → Option (List Count → Count) → Option ℕ → Type 0 where
  missing : OneRel xs None None None
  there : {e : ℕ × Counted} {f : List Count → Count} {k : ℕ} → Rel xs e f k → OneRel xs (Some e) (Some f) (Some k)

one_rel : (xs : List ℕ) {e : ℕ × Counted} {f : List Count → Count} {k : ℕ} {o : Option (ℕ × Counted)} {p : Option (List Count → Count)} {q : Option ℕ} →
    Rel xs e f k → OneRel xs o p q → (b : Bool) →
    OneRel xs (or_else o (if b then Some e else None)) (or_else p (if b then Some f else None)) (or_else q (if b then Some k else None))
one_rel xs r missing true = there r
one_rel xs r missing false = missing
one_rel xs r (there h) b = there h

found : (xs : List ℕ) (z : List ℕ) {sc : Scope} {ns : Counts} {as' : Arities} → AllRel xs sc ns as' → OneRel xs (find_last z sc) (find_last z ns) (find_last z as')
found xs z none = missing
found xs z (more x r h) = one_rel xs r (found xs z h) (same_text z x)

rel_append : (xs : List ℕ) {sc td : Scope} {ns ms : Counts} {as' bs : Arities} → AllRel xs sc ns as' → AllRel xs td ms bs → AllRel xs (sc ++ td) (ns ++ ms) (as' ++ bs)
rel_append xs none k = k
rel_append xs (more x r h) k = more x r (rel_append xs h k)

-- where more numbers are known

take_front : (m : ℕ) (xs ys : List ℕ) → m ≤ length xs → take m (xs ++ ys) ≡ take m xs
take_front zero xs ys h = refl
take_front (suc m) [] ys h = absurd (omega (arith, h))
take_front (suc m) (x ∷ xs) ys h = ap (λ zs. x ∷ zs) (take_front m xs ys (omega (arith, h)))

length_append : (xs ys : List ℕ) → length (xs ++ ys) ≡ length xs + length ys
length_append [] ys = omega arith
length_append (x ∷ xs) ys = let i = length_append xs ys in omega (arith, i)

rel_further : (xs us : List ℕ) {e : ℕ × Counted} {f : List Count → Count} {k : ℕ} → Rel xs e f k → Rel (xs ++ us) e f k
rel_further xs us {e = e} {f = f} r = record {
  fits = let i = length_append xs us in let j = r.fits in omega (arith, i, j);
  tells = λ ys ds l h. subst (λ zs. Agree (counted_at (zs ++ ys) e.1) (f ds)) (sym (take_front e.0 xs us r.fits)) (r.tells ys ds l h);
}

all_further : (xs us : List ℕ) {sc : Scope} {ns : Counts} {as' : Arities} → AllRel xs sc ns as' → AllRel (xs ++ us) sc ns as'
all_further xs us none = none
all_further xs us (more x r h) = more x (rel_further xs us r) (all_further xs us h)

-- ---- parameters

products_zeros : (zs : List ℕ) (us xs ys : List ℕ) → length us ≡ length xs → products us xs ≡ 0 → products (us ++ zs) (xs ++ ys) ≡ products zs ys
products_zeros zs [] [] ys l e = refl
products_zeros zs [] (x ∷ xs) ys l e = absurd (omega (arith, l))
products_zeros zs (u ∷ us) [] ys l e = absurd (omega (arith, l))
products_zeros zs (u ∷ us) (x ∷ xs) ys l e =
    let i = products_zeros zs us xs ys (omega (arith, l)) (omega (arith, e)) in omega (arith, i, e)

zeros_nothing : (n : ℕ) (xs : List ℕ) → products (zeros n) xs ≡ 0
zeros_nothing zero xs = refl
zeros_nothing (suc n) [] = refl
zeros_nothing (suc n) (x ∷ xs) = let i = zeros_nothing n xs in omega (arith, i)

length_zeros : (n : ℕ) → length (zeros n) ≡ n
length_zeros zero = refl
length_zeros (suc n) = let i = length_zeros n in omega (arith, i)

-- the unknown of a number is the item at its place
unknown_is : (xs : List ℕ) (y : ℕ) (ys : List ℕ) (n : ℕ) → length xs ≡ n → sum_at (xs ++ y ∷ ys) (unknown n) ≡ y
unknown_is xs y ys n l =
    let i = products_zeros (1 ∷ []) (zeros n) xs (y ∷ ys) (length_zeros n ∙ sym l) (zeros_nothing n xs) in omega (arith, i)

three_of : (xs : List ℕ) (d : Count) (ys : List ℕ) (n : ℕ) → length xs ≡ n → Agree (counted_at (xs ++ d.tree ∷ d.kept ∷ d.plain ∷ ys) (unknown_count n)) d
three_of xs d ys n l = record {
  tree = same_one _ d.tree (unknown_is xs d.tree (d.kept ∷ d.plain ∷ ys) n l);
  kept = same_one _ d.kept (ap (λ zs. sum_at zs (unknown (1 + n))) (sym (append_assoc xs (d.tree ∷ []) (d.kept ∷ d.plain ∷ ys)))
      ∙ unknown_is (xs ++ d.tree ∷ []) d.kept (d.plain ∷ ys) (1 + n) (let i = length_append xs (d.tree ∷ []) in omega (arith, i, l)));
  plain = same_one _ d.plain (ap (λ zs. sum_at zs (unknown (2 + n))) (sym (append_assoc xs (d.tree ∷ d.kept ∷ []) (d.plain ∷ ys)))
      ∙ unknown_is (xs ++ d.tree ∷ d.kept ∷ []) d.plain ys (2 + n) (let i = length_append xs (d.tree ∷ d.kept ∷ []) in omega (arith, i, l)));
}

take_whole : (xs ys : List ℕ) (n : ℕ) → length xs ≡ n → take n (xs ++ ys) ≡ xs
take_whole [] ys n l = subst (λ k. take k ys ≡ []) l refl
take_whole (x ∷ xs) ys n l = subst (λ k. take k (x ∷ (xs ++ ys)) ≡ x ∷ xs) l (ap (λ zs. x ∷ zs) (take_whole xs ys (length xs) refl))

parameter_rel : (xs : List ℕ) (d : Count) (us : List ℕ) (n : ℕ) → length xs ≡ n → Rel (xs ++ d.tree ∷ d.kept ∷ d.plain ∷ us) (3 + n, unknown_count n) (λ _. d) 0
parameter_rel xs d us n l = record {
  fits = let i = length_append xs (d.tree ∷ d.kept ∷ d.plain ∷ us) in omega (arith, i, l);
  tells = λ ys ds k h.
      let front : List ℕ = xs ++ d.tree ∷ d.kept ∷ d.plain ∷ [] in
      let i = length_append xs (d.tree ∷ d.kept ∷ d.plain ∷ []) in
      let whole = ap (take (3 + n)) (sym (append_assoc xs (d.tree ∷ d.kept ∷ d.plain ∷ []) us)) ∙ take_whole front us (3 + n) (omega (arith, i, l)) in
      subst (λ zs. Agree (counted_at (zs ++ ys) (unknown_count n)) d) (sym whole)
      (subst (λ zs. Agree (counted_at zs (unknown_count n)) d) (sym (append_assoc xs (d.tree ∷ d.kept ∷ d.plain ∷ []) ys)) (three_of xs d ys n l));
}

parameters_rel : (ps : List (List ℕ)) (xs : List ℕ) (n : ℕ) → length xs ≡ n → (ds : List Count) → length ds ≡ length ps →
    AllRel (xs ++ flat_counts ds) (parameters ps n) (zip ps (map (λ c. λ _. c) ds)) (map (λ x. (x, 0)) ps)
parameters_rel [] xs n l ds k = none
parameters_rel (p ∷ ps) xs n l [] k = absurd (omega (arith, k))
parameters_rel (p ∷ ps) xs n l (d ∷ ds) k =
    let front : List ℕ = xs ++ d.tree ∷ d.kept ∷ d.plain ∷ [] in
    let i = length_append xs (d.tree ∷ d.kept ∷ d.plain ∷ []) in
    more p (parameter_rel xs d (flat_counts ds) n l)
    (subst (λ zs. AllRel zs (parameters ps (3 + n)) (zip ps (map (λ c. λ _. c) ds)) (map (λ x. (x, 0)) ps)) (append_assoc xs (d.tree ∷ d.kept ∷ d.plain ∷ []) (flat_counts ds))
    (parameters_rel ps front (3 + n) (omega (arith, i, l)) ds (omega (arith, k))))

behind_is : (ps : List (List ℕ)) (n : ℕ) → behind_all ps n ≡ n + 3 * length ps
behind_is [] n = omega arith
behind_is (p ∷ ps) n = let i = behind_is ps (3 + n) in omega (arith, i)

length_flat : (ds : List Count) → length (flat_counts ds) ≡ 3 * length ds
length_flat [] = omega arith
length_flat (d ∷ ds) = let i = length_flat ds in omega (arith, i)

-- ---- definitions and uses

same_themselves : (xs : List ℕ) → AllSame xs xs
same_themselves [] = tt
same_themselves (x ∷ xs) = (refl, same_themselves xs)

same_behind : (xs ys zs : List ℕ) → AllSame ys zs → AllSame (xs ++ ys) (xs ++ zs)
same_behind [] ys zs h = h
same_behind (x ∷ xs) ys zs h = (refl, same_behind xs ys zs h)

agree_same : (ys zs : List ℕ) (c : Counted) (d : Count) → AllSame ys zs → Agree (counted_at zs c) d → Agree (counted_at ys c) d
agree_same ys zs c d h a = record {
  tree = sum_same ys zs c.tree h ∙ a.tree;
  kept = sum_same ys zs c.kept h ∙ a.kept;
  plain = sum_same ys zs c.plain h ∙ a.plain;
}

abbrev Tells : Expr → Type 0
Tells e = (n : ℕ) (xs : List ℕ) → length xs ≡ n → (sc : Scope) (ns : Counts) (as' : Arities) → AllRel xs sc ns as' → IsTrue (uses_known e as') →
    Agree (counted_at xs (summed e n sc)) (counted e ns)

definition_rel : (e : Expr) → Tells e → (ps : List (List ℕ)) (n : ℕ) (xs : List ℕ) → length xs ≡ n → (sc : Scope) (ns : Counts) (as' : Arities) → AllRel xs sc ns as' →
    IsTrue (uses_known e (with_params ps as')) →
    Rel xs (n, summed e (behind_all ps n) (sc ++ parameters ps n)) (λ cs. counted e (pass_counts ps cs ns)) (length ps)
definition_rel e t ps n xs l sc ns as' r h = record {
  fits = omega (arith, l);
  tells = λ ys ds k s.
      let body : Counted = summed e (behind_all ps n) (sc ++ parameters ps n) in
      let i = length_append xs (flat_counts ds) in
      let j = length_flat ds in
      let b = behind_is ps n in
      let d : Count = counted e (pass_counts ps ds ns) in
      let whole : take n xs ≡ xs = ap (take n) (sym (append-nil xs)) ∙ take_whole xs [] n l in
      subst (λ zs. Agree (counted_at (zs ++ ys) body) d) (sym whole)
      (agree_same (xs ++ ys) (xs ++ flat_counts ds) body d (same_behind xs ys (flat_counts ds) s)
      (t (behind_all ps n) (xs ++ flat_counts ds) (omega (arith, i, j, b, k, l)) (sc ++ parameters ps n) (pass_counts ps ds ns) (with_params ps as')
      (rel_append (xs ++ flat_counts ds) (all_further xs (flat_counts ds) r) (parameters_rel ps xs n l ds k)) h));
}

flat_same : (xs : List ℕ) {cs : List Counted} {ds : List Count} → AllTell xs cs ds → AllSame (map (sum_at xs) (flat_sums cs)) (flat_counts ds)
flat_same xs nothing = tt
flat_same xs (further h k) = (h.tree, (h.kept, (h.plain, flat_same xs k)))

call_agrees : (xs : List ℕ) {e : ℕ × Counted} {f : List Count → Count} {k : ℕ} → Rel xs e f k → {cs : List Counted} {ds : List Count} → AllTell xs cs ds → length ds ≡ k →
    Agree (counted_at xs (all_given e.0 (flat_sums cs) e.1)) (f ds)
call_agrees xs {e = e} {f = f} r {cs = cs} {ds = ds} h l =
    let ys : List ℕ = map (sum_at xs) (flat_sums cs) in
    let a : Agree (counted_at (take e.0 xs ++ ys) e.1) (f ds) = r.tells ys ds l (flat_same xs h) in
    record {
      tree = sum_given e.0 xs (flat_sums cs) e.1.tree r.fits ∙ a.tree;
      kept = sum_given e.0 xs (flat_sums cs) e.1.kept r.fits ∙ a.kept;
      plain = sum_given e.0 xs (flat_sums cs) e.1.plain r.fits ∙ a.plain;
    }

no_agree : (xs : List ℕ) → Agree (counted_at xs no_sums) no_count
no_agree xs = record { tree = number_agrees xs 1; kept = number_agrees xs 3; plain = number_agrees xs 1 }

use_agrees : (xs : List ℕ) {o : Option (ℕ × Counted)} {p : Option (List Count → Count)} {q : Option ℕ} → OneRel xs o p q →
    {cs : List Counted} {ds : List Count} → AllTell xs cs ds → IsTrue (wants (length ds) q) → Agree (counted_at xs (called_sums o cs)) (called_count p ds)
use_agrees xs missing h w = absurd (false≢true w)
use_agrees xs (there {k = k} r) {ds = ds} h w = call_agrees xs r h (sym (eqb-true k (length ds) w))

-- ---- the law

abbrev Teller : Type 0
Teller = (e : Expr) × Tells e

abbrev exprs : List Teller → List Expr
exprs ys = map (λ y. y.0) ys

all_tell : (ys : List Teller) (n : ℕ) (xs : List ℕ) → length xs ≡ n → (sc : Scope) (ns : Counts) (as' : Arities) → AllRel xs sc ns as' →
    IsTrue (all_use (map uses_known (exprs ys)) as') → AllTell xs (sums_at (map summed (exprs ys)) n sc) (counts_at (map counted (exprs ys)) ns)
all_tell [] n xs l sc ns as' r h = nothing
all_tell (y ∷ ys) n xs l sc ns as' r h =
    let all : Bool = all_use (map uses_known (exprs ys)) as' in
    further (y.1 n xs l sc ns as' r (and_left (uses_known y.0 as') all h)) (all_tell ys n xs l sc ns as' r (and_right (uses_known y.0 as') all h))

length_counts : (ys : List Teller) (ns : Counts) → length (counts_at (map counted (exprs ys)) ns) ≡ length (map uses_known (exprs ys))
length_counts [] ns = refl
length_counts (y ∷ ys) ns = ap suc (length_counts ys ns)

lets_agree : (ls : List (List ℕ × ℕ)) (bs : List (List ℕ)) (ys : List Teller) (n : ℕ) (xs : List ℕ) → length xs ≡ n → (sc : Scope) (ns : Counts) (as' : Arities) → AllRel xs sc ns as' →
    IsTrue (lets_use ls bs (map uses_known (exprs ys)) as') →
    Agree (counted_at xs (sums_of_child (length ls) (map summed (exprs ys)) n (let_sums ls bs (map summed (exprs ys)) n sc)))
    (count_at (length ls) (counts_at (map counted (exprs ys)) (let_counts ls bs (map counted (exprs ys)) ns)))
lets_agree [] bs [] n xs l sc ns as' r h = absurd (false≢true h)
lets_agree [] bs (y ∷ ys) n xs l sc ns as' r h = y.1 n xs l sc ns as' r h
lets_agree (d ∷ ls) bs [] n xs l sc ns as' r h = absurd (false≢true h)
lets_agree (d ∷ ls) bs (y ∷ ys) n xs l sc ns as' r h =
    let ps : List (List ℕ) = take d.1 bs in
    let a : Bool = length ps == d.1 in
    let b : Bool = uses_known y.0 (with_params ps as') in
    let c : Bool = lets_use ls (drop d.1 bs) (map uses_known (exprs ys)) (as' ++ (d.0, d.1) ∷ []) in
    let same : length ps ≡ d.1 = eqb-true (length ps) d.1 (and_left a b (and_left (a && b) c h)) in
    let rel = definition_rel y.0 y.1 ps n xs l sc ns as' r (and_right a b (and_left (a && b) c h)) in
    lets_agree ls (drop d.1 bs) ys n xs l (defined_sums d.0 ps (summed y.0) n sc) (define_count d.0 (λ cs. counted y.0 (pass_counts ps cs ns)) ns) (as' ++ (d.0, d.1) ∷ [])
    (rel_append xs r (more d.0 (subst (Rel xs (n, summed y.0 (behind_all ps n) (sc ++ parameters ps n)) (λ cs. counted y.0 (pass_counts ps cs ns))) same rel) none))
    (and_right (a && b) c h)

node_tells : (p : Place) (o : Op) (bs : List (List ℕ)) (ys : List Teller) (q : Role) (n : ℕ) (xs : List ℕ) → length xs ≡ n → (sc : Scope) (ns : Counts) (as' : Arities) → AllRel xs sc ns as' →
    IsTrue (node_uses (record { place = p; op = o; args = map uses_known (exprs ys); binds = bs }) q as') →
    Agree (counted_at xs (sum_node (record { place = p; op = o; args = map summed (exprs ys); binds = bs }) q n sc))
    (count_node (record { place = p; op = o; args = map counted (exprs ys); binds = bs }) q ns)
node_tells p o bs ys (Named z) n xs l sc ns as' r h =
    let a : Bool = wants (length (map uses_known (exprs ys))) (find_last z as') in
    let b : Bool = all_use (map uses_known (exprs ys)) as' in
    use_agrees xs (found xs z r) (all_tell ys n xs l sc ns as' r (and_right a b h))
    (subst (λ k. IsTrue (wants k (find_last z as'))) (sym (length_counts ys ns)) (and_left a b h))
node_tells p o bs ys (Held z) n xs l sc ns as' r h = node_agrees xs o (all_tell ys n xs l sc ns as' r h)
node_tells p o bs ys (Lets ls) n xs l sc ns as' r h = lets_agree ls bs ys n xs l sc ns as' r h
node_tells p o bs ys (Plain_role ms) n xs l sc ns as' r h =
    node_agrees xs o (all_tell ys n xs l sc ns as' r (and_right (shaped o (length (map uses_known (exprs ys)))) (all_use (map uses_known (exprs ys)) as') h))

tells : (e : Expr) → Tells e
tells = ind-Expr Tells (λ x y is.
    subst (λ (z : Expr-F Expr). Tells (roll-Expr z)) is (λ n xs l sc ns as' r h.
    let z : Expr-F Expr = map-Expr Teller Expr (λ e. e.0) y in
    let k : IsTrue (node_uses (map-Expr Expr Uses uses_known z) (role z.op (length z.binds)) as') = subst (λ (u : Uses). IsTrue (u as')) (uses-roll z) h in
    subst (λ (u : Counting). Agree (counted_at xs (summed (roll-Expr z) n sc)) (u ns)) (sym (counted-roll z))
    (subst (λ (u : Summing). Agree (counted_at xs (u n sc)) (count_node (map-Expr Expr Counting counted z) (role z.op (length z.binds)) ns)) (sym (summed-roll z))
    (node_tells z.place z.op z.binds y.args (role z.op (length z.binds)) n xs l sc ns as' r k))))

definitions_rel : (ds : List Def) (sc : Scope) (ns : Counts) (as' : Arities) → AllRel [] sc ns as' → IsTrue (definitions_known ds as') →
    AllRel [] (definitions_sums ds sc) (definitions_count ds ns) (arities_of ds as')
definitions_rel [] sc ns as' r h = r
definitions_rel (d ∷ ds) sc ns as' r h =
    let a : Bool = uses_known (with_lambdas d.body) (with_params d.params as') in
    let b : Bool = definitions_known ds (as' ++ (d.name, length d.params) ∷ []) in
    let known : IsTrue (uses_known (body_of d) (with_params d.params as')) = ap (λ (u : Uses). u (with_params d.params as')) (body_uses d) ∙ and_left a b h in
    definitions_rel ds (defined_sums d.name d.params (summed (body_of d)) 0 sc) (define_count d.name (λ cs. counted (body_of d) (pass_counts d.params cs ns)) ns)
    (as' ++ (d.name, length d.params) ∷ [])
    (rel_append [] r (more d.name (definition_rel (body_of d) (tells (body_of d)) d.params 0 [] refl sc ns as' r known) none))
    (and_right a b h)

-- ---- the nodes of an expanded tree

no_unknowns : (s : Sum) → sum_at [] s ≡ s.base
no_unknowns s = by_factors s.factors
  where
    by_factors : (us : List ℕ) → s.base + products us [] ≡ s.base
    by_factors [] = omega arith
    by_factors (u ∷ us) = omega arith

-- what is counted of an operator without parameters is how many nodes its tree has, in each part
pub nodes_are : (part : PartKind) (flat : Flat) (x : List ℕ) → IsTrue (definitions_known flat.defs []) → IsTrue (wants 0 (find_last x (arities_of flat.defs []))) →
    nodes_of x (definitions_sums flat.defs []) ≡ up_to limit (size (expansion part flat x))
nodes_are part flat x h k =
    let a = use_agrees [] (found [] x (definitions_rel flat.defs [] [] [] none h)) nothing k in
    ap (up_to limit) (sym (no_unknowns (called_sums (find_last x (definitions_sums flat.defs [])) []).tree))
    ∙ a.tree
    ∙ ap (up_to limit) (sym (count_is_size part flat x))

-- and so of the assumptions
pub assumed_nodes_are : (flat : Flat) → IsTrue (are_known flat) →
    up_to limit (summed (assumed flat) 0 (definitions_sums flat.defs [])).tree.base ≡ up_to limit (size (assumptions_expanded flat))
assumed_nodes_are flat h =
    let a : Bool = definitions_known flat.defs [] in
    let b : Bool = list_all (λ e. uses_known (with_lambdas e) (arities_of flat.defs [])) flat.assumes in
    let c = tells (assumed flat) 0 [] refl (definitions_sums flat.defs []) (counts_of flat) (arities_of flat.defs [])
    (definitions_rel flat.defs [] [] [] none (and_left a b h)) (assumed_used flat h) in
    ap (up_to limit) (sym (no_unknowns (summed (assumed flat) 0 (definitions_sums flat.defs [])).tree))
    ∙ c.tree
    ∙ ap (up_to limit) (sym (assumed_is_size flat))
