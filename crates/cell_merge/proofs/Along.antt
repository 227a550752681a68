-- Lists of literals, one place more.
use Rattle.std.proofs.Common.{◌≡◌, ℕ, zero, suc, ◌+◌, ◌<◌, ◌≤◌, Bool, true, false, not, ◌&&◌, ◌||◌, List, [], ◌∷◌, ◌++◌, length, take, get_or, All, refl, ap, ◌∙◌, sym, subst, arith, Some}
use Rattle.std.specs.List.{list_all}
use Rattle.std.proofs.lemmas.List.{length-map, map_more, take_more, take_all, length-take-le, length_push}
use Rattle.std.proofs.lemmas.List.Elements.{All-nil, All-push, All-pop}
use Rattle.std.proofs.lemmas.List.Folds.{list_all-append}
use Rattle.sat_formula.specs.declared.lit.Lit.{Lit}
use Rattle.sat_formula.specs.declared.cnf.Cnf.{Cnf}
use Rattle.sat_formula.specs.Lit.{lit_value, values, IsBelow}
use Rattle.sat_formula.specs.Formula.{Grows, HasValue}
use Rattle.sat_formula.proofs.Extension.{Satisfies-older}
use Rattle.cell_merge.specs.inner.Crosses.{any_both, each_holds, crossed, Covers, AreImplied, AreBoth}
use Rattle.cell_merge.proofs.Tested.{named-push}

last : (p : Bool) → (p && true) ≡ p
last true = refl
last false = refl

-- the values of a list with one literal more
pub values-more : (ls : List Lit) (a : List Bool) (i : ℕ) (d : Lit) → i < length ls → values (take (i + 1) ls) a ≡ values (take i ls) a ++ lit_value (get_or ls i d) a ∷ []
values-more ls a i d lt = map_more (λ l. lit_value l a) ls i d lt

pub values-push : (ls : List Lit) (a : List Bool) (l : Lit) → values (ls ++ l ∷ []) a ≡ values ls a ++ lit_value l a ∷ []
values-push [] a l = refl
values-push (m ∷ ls) a l = ap (λ bs. lit_value m a ∷ bs) (values-push ls a l)

pub values-long : (ls : List Lit) (a : List Bool) (i : ℕ) → i ≤ length ls → length (values (take i ls) a) ≡ i
values-long ls a i le = length-map (take i ls) (λ l. lit_value l a) ∙ length-take-le i ls le

both-push : (ps qs : List Bool) (p q : Bool) → length ps ≡ length qs → any_both (ps ++ p ∷ []) (qs ++ q ∷ []) ≡ (any_both ps qs || (p && q))
both-push [] [] p q n = end (p && q)
  where
    end : (t : Bool) → (t || false) ≡ t
    end true = refl
    end false = refl
both-push [] (y ∷ qs) p q n = absurd (omega arith)
both-push (x ∷ ps) [] p q n = absurd (omega arith)
both-push (x ∷ ps) (y ∷ qs) p q n = ap (λ t. (x && y) || t) (both-push ps qs p q (omega arith)) ∙ assoc (x && y) (any_both ps qs) (p && q)
  where
    assoc : (p q r : Bool) → (p || (q || r)) ≡ ((p || q) || r)
    assoc true q r = refl
    assoc false q r = refl

pub both-more : (xs ys : List Lit) (a : List Bool) (i : ℕ) (d e : Lit) → i < length xs → i < length ys
    → any_both (values (take (i + 1) xs) a) (values (take (i + 1) ys) a) ≡ (any_both (values (take i xs) a) (values (take i ys) a) || (lit_value (get_or xs i d) a && lit_value (get_or ys i e) a))
both-more xs ys a i d e p q =
    ap (λ bs. any_both bs (values (take (i + 1) ys) a)) (values-more xs a i d p) ∙ ap (any_both (values (take i xs) a ++ lit_value (get_or xs i d) a ∷ [])) (values-more ys a i e q)
    ∙ both-push (values (take i xs) a) (values (take i ys) a) (lit_value (get_or xs i d) a) (lit_value (get_or ys i e) a) (values-long xs a i (omega arith) ∙ sym (values-long ys a i (omega arith)))

-- ---- what is covered

crossed-push : (l : Bool) (cs rs : List Bool) (c r : Bool) → length cs ≡ length rs → crossed l (cs ++ c ∷ []) (rs ++ r ∷ []) ≡ crossed l cs rs ++ (c || (l && r)) ∷ []
crossed-push l [] [] c r n = refl
crossed-push l [] (y ∷ rs) c r n = absurd (omega arith)
crossed-push l (x ∷ cs) [] c r n = absurd (omega arith)
crossed-push l (x ∷ cs) (y ∷ rs) c r n = ap (λ bs. (x || (l && y)) ∷ bs) (crossed-push l cs rs c r (omega arith))

pub covers-none : (f : Cnf) (l : Lit) (new : List Lit) → new ≡ [] → Covers f l [] [] new
covers-none f l new is = rw is (record { named = All-nil (IsBelow f.vars); count = refl; values = λ a s. refl })

pub covers-more : (f g h : Cnf) (l : Lit) (row covered before after : List Lit) (i : ℕ) (r c both one : Lit) → i < length row → i < length covered → Covers f l (take i row) (take i covered) before → Grows f g → Grows g h
    → r ≡ get_or row i r → c ≡ get_or covered i c → HasValue g both (λ a. lit_value l a && lit_value r a) → HasValue h one (λ a. lit_value c a || lit_value both a) → after ≡ before ++ one ∷ []
    → Covers h l (take (i + 1) row) (take (i + 1) covered) after
covers-more f g h l row covered before after i r c both one p q old fg gh ri ci v w pushed = record {
  named = named-push f.vars h.vars before after one old.named (let m = fg.vars in let n = gh.vars in omega arith) w.below pushed;
  count = ap length pushed ∙ length_push before one ∙ ap (λ (n : ℕ). n + 1) (old.count ∙ length-take-le i covered (omega arith)) ∙ sym (length-take-le (i + 1) covered (omega arith));
  values = λ a s.
      let s1 = Satisfies-older g h a gh s in
      let s0 = Satisfies-older f g a fg s1 in
      ap (λ ls. values ls a) pushed ∙ values-push before a one ∙ ap (λ bs. bs ++ lit_value one a ∷ []) (old.values a s0)
      ∙ ap (λ b. crossed (lit_value l a) (values (take i covered) a) (values (take i row) a) ++ b ∷ [])
      (w.value a s ∙ ap (λ t. lit_value c a || t) (v.value a s1) ∙ ap (λ x. lit_value x a || (lit_value l a && lit_value r a)) ci ∙ ap (λ x. lit_value (get_or covered i c) a || (lit_value l a && lit_value x a)) ri)
      ∙ sym (ap (λ bs. crossed (lit_value l a) bs (values (take (i + 1) row) a)) (values-more covered a i c q)
      ∙ ap (crossed (lit_value l a) (values (take i covered) a ++ lit_value (get_or covered i c) a ∷ [])) (values-more row a i r p)
      ∙ crossed-push (lit_value l a) (values (take i covered) a) (values (take i row) a) (lit_value (get_or covered i c) a) (lit_value (get_or row i r) a)
      (values-long covered a i (omega arith) ∙ sym (values-long row a i (omega arith))));
}

pub covers-all : (f : Cnf) (l : Lit) (row covered new : List Lit) (i : ℕ) → Covers f l (take i row) (take i covered) new → length row ≤ i → length covered ≤ i → Covers f l row covered new
covers-all f l row covered new i h p q = rw (take_all i row p, take_all i covered q) at h

-- ---- tests with their literals

holds-push : (ps qs : List Bool) (p q : Bool) → length ps ≡ length qs → each_holds (ps ++ p ∷ []) (qs ++ q ∷ []) ≡ (each_holds ps qs && (not p || q))
holds-push [] [] p q n = last (not p || q)
holds-push [] (y ∷ qs) p q n = absurd (omega arith)
holds-push (x ∷ ps) [] p q n = absurd (omega arith)
holds-push (x ∷ ps) (y ∷ qs) p q n = ap (λ t. (not x || y) && t) (holds-push ps qs p q (omega arith)) ∙ assoc (not x || y) (each_holds ps qs) (not p || q)
  where
    assoc : (p q r : Bool) → (p && (q && r)) ≡ ((p && q) && r)
    assoc true q r = refl
    assoc false q r = refl

all-push : (ls : List Lit) (a : List Bool) (l : Lit) → list_all (λ x. lit_value x a) (ls ++ l ∷ []) ≡ (list_all (λ x. lit_value x a) ls && lit_value l a)
all-push ls a l = list_all-append (λ x. lit_value x a) ls (l ∷ []) ∙ ap (λ t. list_all (λ x. lit_value x a) ls && t) (last (lit_value l a))

pub implied-none : (f : Cnf) (new : List Lit) → new ≡ [] → AreImplied f [] [] new
implied-none f new is = rw is (record { named = All-nil (IsBelow f.vars); values = λ a s. refl })

pub implied-more : (f g : Cnf) (xs tests before after : List Lit) (i : ℕ) (x m t one : Lit) → i < length xs → i < length tests → AreImplied f (take i xs) (take i tests) before → Grows f g
    → x ≡ get_or xs i x → t ≡ get_or tests i t → ((a : List Bool) → lit_value m a ≡ not (lit_value x a)) → HasValue g one (λ a. lit_value m a || lit_value t a) → after ≡ before ++ one ∷ []
    → AreImplied g (take (i + 1) xs) (take (i + 1) tests) after
implied-more f g xs tests before after i x m t one p q old grows xi ti turned v pushed = record {
  named = named-push f.vars g.vars before after one old.named grows.vars v.below pushed;
  values = λ a s.
      ap (list_all (λ x. lit_value x a)) pushed ∙ all-push before a one
      ∙ ap (λ b. b && lit_value one a) (old.values a (Satisfies-older f g a grows s))
      ∙ ap (λ b. each_holds (values (take i xs) a) (values (take i tests) a) && b)
      (v.value a s ∙ ap (λ b. b || lit_value t a) (turned a) ∙ ap (λ y. not (lit_value y a) || lit_value t a) xi ∙ ap (λ y. not (lit_value (get_or xs i x) a) || lit_value y a) ti)
      ∙ sym (ap (λ bs. each_holds bs (values (take (i + 1) tests) a)) (values-more xs a i x p)
      ∙ ap (each_holds (values (take i xs) a ++ lit_value (get_or xs i x) a ∷ [])) (values-more tests a i t q)
      ∙ holds-push (values (take i xs) a) (values (take i tests) a) (lit_value (get_or xs i x) a) (lit_value (get_or tests i t) a) (values-long xs a i (omega arith) ∙ sym (values-long tests a i (omega arith))));
}

pub implied-all : (f : Cnf) (xs tests new : List Lit) (i : ℕ) → AreImplied f (take i xs) (take i tests) new → length xs ≤ i → length tests ≤ i → AreImplied f xs tests new
implied-all f xs tests new i h p q = rw (take_all i xs p, take_all i tests q) at h

-- ---- two lists as one

pub both-none : (xs new : List Lit) → new ≡ xs → AreBoth xs [] new
both-none xs new is = rw is (record { named = λ n p q. p; values = λ a. sym (last (list_all (λ l. lit_value l a) xs)) })

pub both-one : (xs ys before after : List Lit) (i : ℕ) (y : Lit) → i < length ys → AreBoth xs (take i ys) before → y ≡ get_or ys i y → after ≡ before ++ y ∷ [] → AreBoth xs (take (i + 1) ys) after
both-one xs ys before after i y lt h is pushed = record {
  named = λ n p q. rw pushed (All-push (IsBelow n) before y (h.named n p (front n q)) (end n q));
  values = λ a.
      ap (list_all (λ l. lit_value l a)) pushed ∙ all-push before a y ∙ ap (λ t. t && lit_value y a) (h.values a)
      ∙ assoc (list_all (λ l. lit_value l a) xs) (list_all (λ l. lit_value l a) (take i ys)) (lit_value y a)
      ∙ ap (λ t. list_all (λ l. lit_value l a) xs && t) (sym (all-push (take i ys) a y) ∙ ap (λ x. list_all (λ l. lit_value l a) (take i ys ++ x ∷ [])) is
      ∙ sym (ap (list_all (λ l. lit_value l a)) (take_more ys i y lt)));
}
  where
    assoc : (p q r : Bool) → ((p && q) && r) ≡ (p && (q && r))
    assoc true q r = refl
    assoc false q r = refl

    front : (n : ℕ) → All (IsBelow n) (take (i + 1) ys) → All (IsBelow n) (take i ys)
    front n q = (All-pop (IsBelow n) (take (i + 1) ys) (take i ys) (Some (get_or ys i y)) (take_more ys i y lt) q).0

    end : (n : ℕ) → All (IsBelow n) (take (i + 1) ys) → IsBelow n y
    end n q = subst (IsBelow n) (sym is) (All-pop (IsBelow n) (take (i + 1) ys) (take i ys) (Some (get_or ys i y)) (take_more ys i y lt) q).1

-- one that the first list has
pub both-same : (xs ys new : List Lit) (i : ℕ) (y : Lit) → i < length ys → AreBoth xs (take i ys) new → y ≡ get_or ys i y → ((a : List Bool) → list_all (λ l. lit_value l a) xs ≡ true → lit_value y a ≡ true)
    → AreBoth xs (take (i + 1) ys) new
both-same xs ys new i y lt h is has = record {
  named = λ n p q. h.named n p (All-pop (IsBelow n) (take (i + 1) ys) (take i ys) (Some (get_or ys i y)) (take_more ys i y lt) q).0;
  values = λ a.
      h.values a ∙ step (list_all (λ l. lit_value l a) xs) (list_all (λ l. lit_value l a) (take i ys)) (lit_value y a) (has a)
      ∙ ap (λ t. list_all (λ l. lit_value l a) xs && t) (sym (all-push (take i ys) a y) ∙ ap (λ x. list_all (λ l. lit_value l a) (take i ys ++ x ∷ [])) is
      ∙ sym (ap (list_all (λ l. lit_value l a)) (take_more ys i y lt)));
}
  where
    step : (p q r : Bool) → (p ≡ true → r ≡ true) → (p && q) ≡ (p && (q && r))
    step true q r h = sym (ap (λ t. q && t) (h refl) ∙ end q)
      where
        end : (p : Bool) → (p && true) ≡ p
        end true = refl
        end false = refl
    step false q r h = refl

pub both-all : (xs ys new : List Lit) (i : ℕ) → AreBoth xs (take i ys) new → length ys ≤ i → AreBoth xs ys new
both-all xs ys new i h le = rw (take_all i ys le) at h

-- a literal that stands among others is true where they are
pub all-at : (ls : List Lit) (a : List Bool) (i : ℕ) (l : Lit) → i < length ls → l ≡ get_or ls i l → list_all (λ x. lit_value x a) ls ≡ true → lit_value l a ≡ true
all-at [] a i l lt is h = absurd (omega arith)
all-at (m ∷ ls) a zero l lt is h = ap (λ x. lit_value x a) is ∙ first (lit_value m a) (list_all (λ x. lit_value x a) ls) h
  where
    first : (p q : Bool) → (p && q) ≡ true → p ≡ true
    first true q e = refl
    first false q e = absurd (cc)
all-at (m ∷ ls) a (suc i) l lt is h = all-at ls a i l (omega arith) is (rest (lit_value m a) (list_all (λ x. lit_value x a) ls) h)
  where
    rest : (p q : Bool) → (p && q) ≡ true → q ≡ true
    rest true q e = e
    rest false q e = absurd (cc)
