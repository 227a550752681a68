-- The items of one cell compared with those of another, one item more.
use Rattle.std.proofs.Common.{◌≡◌, ℕ, ◌+◌, ◌<◌, ◌≤◌, Bool, true, false, ◌&&◌, List, [], ◌∷◌, ◌++◌, map, length, take, get_or, All, refl, ap, ◌∙◌, sym, subst, arith}
use Rattle.std.proofs.lemmas.List.{length-map, get_or-map, map_more, take_more, take_all, length-take-le, length_push}
use Rattle.std.proofs.lemmas.List.Elements.{All-nil, All-map}
use Rattle.sat_formula.specs.declared.lit.Lit.{Lit}
use Rattle.sat_formula.specs.declared.cnf.Cnf.{Cnf}
use Rattle.sat_formula.specs.Lit.{lit_value, values, IsBelow}
use Rattle.sat_formula.specs.Formula.{Satisfies, Grows as FormulaGrows}
use Rattle.sat_formula.proofs.Extension.{Satisfies-older}
use Rattle.tla_values.specs.Order.{same_value}
use Rattle.tla_values.specs.Sets.{member}
use Rattle.tla_values.specs.declared.value.Value.{Value}
use Rattle.tla_values.specs.declared.value.Value.TheVariants as value
use Rattle.cell_arena.specs.declared.kinds.CellId.{CellId}
use Rattle.cell_arena.specs.declared.kinds.CellKind.{CellKind}
use Rattle.cell_arena.specs.Cells.{Cells, WellBuilt, kind_at}
use Rattle.cell_arena.specs.Decode.{decode}
use Rattle.cell_merge.specs.inner.Crosses.{any_both, each_holds, crossed, AreAlong, Covers}
use Rattle.cell_merge.specs.inner.Items.{ItemsOfOneType, heads_of, item_at, items, kept, Agree, TellStanding, IsRow, ComparesItems}
use Rattle.cell_merge.proofs.Tested.{named-push, named-later}
use Rattle.cell_merge.proofs.Kept.{agree-push, agree-none, any-kept, more, crossed-agree, kept-push, mutual-kept}
use Rattle.cell_merge.proofs.Along.{values-more, values-push, values-long}
use Rattle.cell_merge.proofs.Standing.{length-items, item-at, same-standing}

abbrev none-value : Value
none-value = value.Bool false

never-both : (b : Bool) → b ≡ false → b ≡ true → ⊥
never-both b e f = cc

-- ---- a row

pub row-none : (c : Cells) (f : Cnf) (v : List Bool → Value) (k : CellKind) (theirs row : List Lit) → row ≡ [] → IsRow c f v k theirs 0 row
row-none c f v k theirs row is = rw is (record { named = All-nil (IsBelow f.vars); count = refl; flags = λ a s. tt })

module _ (c : Cells) (f g : Cnf) (v : List Bool → Value) (k : CellKind) (theirs : List Lit) (j : ℕ) (m l : Lit) (before after : List Lit) (lt : j < length theirs) (le : j < length (heads_of k))
    (old : IsRow c f v k theirs j before) (grows : FormulaGrows f g) (is : m ≡ get_or theirs j m) (below : l.var < g.vars) (pushed : after ≡ before ++ l ∷ []) where
  pub row-more : ((a : List Bool) → Satisfies a g → lit_value m a ≡ true → lit_value l a ≡ same_value (v a) (item_at (decode c a) k j)) → IsRow c g v k theirs (j + 1) after
  row-more same = record {
    named = named-push f.vars g.vars before after l old.named grows.vars below pushed;
    count = ap length pushed ∙ length_push before l ∙ ap (λ (n : ℕ). n + 1) old.count;
    flags = λ a s.
        let of : CellId → Value = decode c a in
        let lx : j < length (items of k) = let q = length-items of k in omega arith in
        let d : Value = none-value in
        let one : map (same_value (v a)) (take (j + 1) (items of k)) ≡ map (same_value (v a)) (take j (items of k)) ++ same_value (v a) (item_at of k j) ∷ [] =
        map_more (same_value (v a)) (items of k) j d lx ∙ ap (λ u. map (same_value (v a)) (take j (items of k)) ++ same_value (v a) u ∷ []) (item-at of k j d le) in
        let all : Agree (values (take j theirs) a ++ lit_value m a ∷ []) (values before a ++ lit_value l a ∷ []) (map (same_value (v a)) (take j (items of k)) ++ same_value (v a) (item_at of k j) ∷ []) =
        agree-push (values (take j theirs) a) (values before a) (map (same_value (v a)) (take j (items of k))) (lit_value m a) (lit_value l a) (same_value (v a) (item_at of k j))
        (old.flags a (Satisfies-older f g a grows s)) (same a s) in
        subst (λ bs. Agree bs (values after a) (map (same_value (v a)) (take (j + 1) (items of k)))) (sym (values-more theirs a j m lt ∙ ap (λ x. values (take j theirs) a ++ lit_value x a ∷ []) (sym is)))
        (subst (λ bs. Agree (values (take j theirs) a ++ lit_value m a ∷ []) bs (map (same_value (v a)) (take (j + 1) (items of k)))) (sym (ap (λ ls. values ls a) pushed ∙ values-push before a l))
        (subst (λ bs. Agree (values (take j theirs) a ++ lit_value m a ∷ []) (values before a ++ lit_value l a ∷ []) bs) (sym one) all));
  }

  pub row-off : ((a : List Bool) → Satisfies a g → lit_value m a ≡ false) → IsRow c g v k theirs (j + 1) after
  row-off off = row-more (λ a s on. absurd (never-both _ (off a s) on))

pub row-all : (c : Cells) (f : Cnf) (v : List Bool → Value) (k : CellKind) (theirs row : List Lit) (j : ℕ) → IsRow c f v k theirs j row → j ≡ length theirs → IsRow c f v k theirs (length theirs) row
row-all c f v k theirs row j h e = subst (λ (n : ℕ). IsRow c f v k theirs n row) e h

-- a row is as long as what it is compared with
pub row-along : (c : Cells) (f : Cnf) (v : List Bool → Value) (k : CellKind) (theirs row : List Lit) → IsRow c f v k theirs (length theirs) row → All (IsBelow f.vars) theirs → AreAlong f.vars theirs row
row-along c f v k theirs row h named = record { left = named; right = h.named; same = sym h.count }

-- ---- all items

pub compares-none : (c : Cells) (f : Cnf) (k m : CellKind) (ours theirs found covered : List Lit) (none : Lit) → none.var < f.vars → ((a : List Bool) → Satisfies a f → lit_value none a ≡ false) → length theirs ≡ length (heads_of m)
    → found ≡ [] → covered ≡ map (λ l. none) theirs → ComparesItems c f k m ours theirs 0 found covered
compares-none c f k m ours theirs found covered none below off long is list = record {
  found_named = rw is (All-nil (IsBelow f.vars));
  found_count = ap length is;
  covered_named = rw list (All-map (IsBelow f.vars) (λ l. none) theirs (λ i d lt. below));
  covered_count = ap length list ∙ length-map theirs (λ l. none);
  each_found = λ a s. rw is tt;
  each_covered = λ a s.
      let of : CellId → Value = decode c a in
      let n : length (values covered a) ≡ length (values theirs a) = length-map covered (λ l. lit_value l a) ∙ ap length list ∙ length-map theirs (λ l. none) ∙ sym (length-map theirs (λ l. lit_value l a)) in
      let q : length (items of m) ≡ length (values theirs a) = length-items of m ∙ sym long ∙ sym (length-map theirs (λ l. lit_value l a)) in
      agree-none (values theirs a) (values covered a) (items of m) n q (λ i lt.
      let li : i < length covered = let w = length-map covered (λ l. lit_value l a) in omega arith in
      let lt2 : i < length theirs = let w = ap length list in let u = length-map theirs (λ l. none) in omega arith in
      get_or-map (λ l. lit_value l a) covered i none false li ∙ ap (λ ls. lit_value (get_or ls i none) a) list ∙ ap (λ l. lit_value l a) (get_or-map (λ l. none) theirs i none none lt2) ∙ off a s);
}

-- the kept values with one more
kept-next : (of : CellId → Value) (k : CellKind) (ours : List Lit) (a : List Bool) (i : ℕ) (l : Lit) → i < length ours → i < length (heads_of k) → l ≡ get_or ours i l
    → kept (values (take (i + 1) ours) a) (take (i + 1) (items of k)) ≡ more (lit_value l a) (kept (values (take i ours) a) (take i (items of k))) (item_at of k i)
kept-next of k ours a i l lt le is =
    let lx : i < length (items of k) = let q = length-items of k in omega arith in
    let d : Value = none-value in
    ap (λ bs. kept bs (take (i + 1) (items of k))) (values-more ours a i l lt ∙ ap (λ x. values (take i ours) a ++ lit_value x a ∷ []) (sym is))
    ∙ ap (kept (values (take i ours) a ++ lit_value l a ∷ [])) (take_more (items of k) i d lx ∙ ap (λ v. take i (items of k) ++ v ∷ []) (item-at of k i d le))
    ∙ kept-push (values (take i ours) a) (take i (items of k)) (lit_value l a) (item_at of k i) (values-long ours a i (omega arith) ∙ sym (length-take-le i (items of k) (omega arith)))

module _ (c : Cells) (f g : Cnf) (k m : CellKind) (ours theirs : List Lit) (i : ℕ) (l one : Lit) (found covered after : List Lit) (lt : i < length ours) (le : i < length (heads_of k))
    (old : ComparesItems c f k m ours theirs i found covered) (grows : FormulaGrows f g) (is : l ≡ get_or ours i l) (below : one.var < g.vars) (pushed : after ≡ found ++ one ∷ []) where
  found-next : ((a : List Bool) → Satisfies a g → lit_value l a ≡ true → lit_value one a ≡ member (item_at (decode c a) k i) (kept (values theirs a) (items (decode c a) m))) → (a : List Bool) → Satisfies a g
      → Agree (values (take (i + 1) ours) a) (values after a) (map (λ v. member v (kept (values theirs a) (items (decode c a) m))) (take (i + 1) (items (decode c a) k)))
  found-next same a s =
      let of : CellId → Value = decode c a in
      let lx : i < length (items of k) = let q = length-items of k in omega arith in
      let d : Value = none-value in
      let p : Value → Bool = λ v. member v (kept (values theirs a) (items of m)) in
      let next : map p (take (i + 1) (items of k)) ≡ map p (take i (items of k)) ++ p (item_at of k i) ∷ [] = map_more p (items of k) i d lx ∙ ap (λ u. map p (take i (items of k)) ++ p u ∷ []) (item-at of k i d le) in
      subst (λ bs. Agree bs (values after a) (map p (take (i + 1) (items of k)))) (sym (values-more ours a i l lt ∙ ap (λ x. values (take i ours) a ++ lit_value x a ∷ []) (sym is)))
      (subst (λ bs. Agree (values (take i ours) a ++ lit_value l a ∷ []) bs (map p (take (i + 1) (items of k)))) (sym (ap (λ ls. values ls a) pushed ∙ values-push found a one))
      (subst (λ bs. Agree (values (take i ours) a ++ lit_value l a ∷ []) (values found a ++ lit_value one a ∷ []) bs) (sym next)
      (agree-push (values (take i ours) a) (values found a) (map p (take i (items of k))) (lit_value l a) (lit_value one a) (p (item_at of k i)) (old.each_found a (Satisfies-older f g a grows s)) (same a s))))

  pub compares-off : ((a : List Bool) → Satisfies a g → lit_value l a ≡ false) → ComparesItems c g k m ours theirs (i + 1) after covered
  compares-off off = record {
    found_named = named-push f.vars g.vars found after one old.found_named grows.vars below pushed;
    found_count = ap length pushed ∙ length_push found one ∙ ap (λ (n : ℕ). n + 1) old.found_count;
    covered_named = named-later f.vars g.vars covered old.covered_named grows.vars;
    covered_count = old.covered_count;
    each_found = found-next (λ a s on. absurd (never-both _ (off a s) on));
    each_covered = λ a s.
        let of : CellId → Value = decode c a in
        let same : kept (values (take (i + 1) ours) a) (take (i + 1) (items of k)) ≡ kept (values (take i ours) a) (take i (items of k)) =
        kept-next of k ours a i l lt le is ∙ ap (λ b. more b (kept (values (take i ours) a) (take i (items of k))) (item_at of k i)) (off a s) in
        subst (λ zs. Agree (values theirs a) (values covered a) (map (λ v. member v zs) (items of m))) (sym same) (old.each_covered a (Satisfies-older f g a grows s));
  }

  pub compares-more : (h : Cnf) (row next : List Lit) → FormulaGrows f h → FormulaGrows h g → IsRow c h (λ a. item_at (decode c a) k i) m theirs (length theirs) row → length theirs ≡ length (heads_of m)
      → ((a : List Bool) → Satisfies a g → lit_value one a ≡ any_both (values theirs a) (values row a)) → Covers g l row covered next → ComparesItems c g k m ours theirs (i + 1) after next
  compares-more h row next fh hg is-row long meets covers =
      let flags = λ (a : List Bool) (s : Satisfies a g).
      let of : CellId → Value = decode c a in
      let q : length (items of m) ≤ length theirs = let w = length-items of m in omega arith in
      let all : Agree (values theirs a) (values row a) (map (same_value (item_at of k i)) (items of m)) =
      subst (λ (ls : List Lit). Agree (values ls a) (values row a) (map (same_value (item_at of k i)) (items of m))) (take_all (length theirs) theirs (omega arith))
      (subst (λ us. Agree (values (take (length theirs) theirs) a) (values row a) (map (same_value (item_at of k i)) us)) (take_all (length theirs) (items of m) q) (is-row.flags a (Satisfies-older h g a hg s))) in
      all in
      record {
        found_named = named-push f.vars g.vars found after one old.found_named grows.vars below pushed;
        found_count = ap length pushed ∙ length_push found one ∙ ap (λ (n : ℕ). n + 1) old.found_count;
        covered_named = covers.named;
        covered_count = covers.count ∙ old.covered_count;
        each_found = found-next (λ a s on. meets a s ∙ any-kept (item_at (decode c a) k i) (values theirs a) (values row a) (items (decode c a) m) (flags a s));
        each_covered = λ a s.
            let of : CellId → Value = decode c a in
            let zs : List Value = kept (values (take i ours) a) (take i (items of k)) in
            let n : length (values row a) ≡ length (values theirs a) = length-map row (λ l. lit_value l a) ∙ is-row.count ∙ sym (length-map theirs (λ l. lit_value l a)) in
            subst (λ bs. Agree (values theirs a) bs (map (λ v. member v (kept (values (take (i + 1) ours) a) (take (i + 1) (items of k)))) (items of m))) (sym (covers.values a s))
            (subst (λ us. Agree (values theirs a) (crossed (lit_value l a) (values covered a) (values row a)) (map (λ v. member v us) (items of m))) (sym (kept-next of k ours a i l lt le is))
            (crossed-agree (item_at of k i) (lit_value l a) zs (values theirs a) (values covered a) (values row a) (items of m) (old.each_covered a (Satisfies-older f g a grows s)) (λ on. flags a s) n));
      }

pub compares-all : (c : Cells) (f : Cnf) (k m : CellKind) (ours theirs xs ys found covered : List Lit) (i : ℕ) → ComparesItems c f k m ours theirs i found covered → ours ≡ xs → theirs ≡ ys → i ≡ length (heads_of k)
    → ComparesItems c f k m xs ys (length (heads_of k)) found covered
compares-all c f k m ours theirs xs ys found covered i h left right e =
    subst (λ (n : ℕ). ComparesItems c f k m xs ys n found covered) e (subst (λ ls. ComparesItems c f k m ls ys i found covered) left (subst (λ ls. ComparesItems c f k m ours ls i found covered) right h))

pub items-compared : (c : Cells) (f : Cnf) (a : List Bool) (x y : CellId) (ours theirs found covered : List Lit) → WellBuilt c → ItemsOfOneType c.kinds x y → Satisfies a f
    → TellStanding c f (kind_at c.kinds x) (length (heads_of (kind_at c.kinds x))) ours → TellStanding c f (kind_at c.kinds y) (length (heads_of (kind_at c.kinds y))) theirs
    → ComparesItems c f (kind_at c.kinds x) (kind_at c.kinds y) ours theirs (length (heads_of (kind_at c.kinds x))) found covered
    → (each_holds (values ours a) (values found a) && each_holds (values theirs a) (values covered a)) ≡ same_value (decode c a x) (decode c a y)
items-compared c f a x y ours theirs found covered built t s left right h =
    let of : CellId → Value = decode c a in
    let k : CellKind = kind_at c.kinds x in
    let m : CellKind = kind_at c.kinds y in
    let n : ℕ = length (heads_of k) in
    let lo : take n ours ≡ ours = take_all n ours (let w = left.count in omega arith) in
    let lx : take n (items of k) ≡ items of k = take_all n (items of k) (let w = length-items of k in omega arith) in
    mutual-kept (values ours a) (values theirs a) (values found a) (values covered a) (items of k) (items of m)
    (subst (λ ls. Agree (values ls a) (values found a) (map (λ v. member v (kept (values theirs a) (items of m))) (items of k))) lo
    (subst (λ us. Agree (values (take n ours) a) (values found a) (map (λ v. member v (kept (values theirs a) (items of m))) us)) lx (h.each_found a s)))
    (subst (λ ls. Agree (values theirs a) (values covered a) (map (λ v. member v (kept (values ls a) (items of k))) (items of m))) lo
    (subst (λ us. Agree (values theirs a) (values covered a) (map (λ v. member v (kept (values (take n ours) a) us)) (items of m))) lx (h.each_covered a s)))
    ∙ same-standing c a x y (values ours a) (values theirs a) built t (left.flags a s) (right.flags a s)
