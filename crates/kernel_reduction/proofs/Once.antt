-- Each text once, in order of first occurrence.
use Rattle.std.proofs.Common.{◌≡◌, ℕ, ◌+◌, ◌<◌, length, take, get_or, Bool, true, false, not, ◌||◌, List, [], ◌∷◌, ◌++◌, map, flat_map, append_assoc, refl, sym, ◌∙◌, ap, subst, true≢false}
use Rattle.std.specs.Prelude.{filter, if◌then◌else◌}
use Rattle.std.specs.List.{list_any}
use Rattle.std.proofs.lemmas.List.{append-nil}
use Rattle.std.proofs.lemmas.List.Elements.{filter-append}
use Rattle.std.proofs.lemmas.Map.Text.{is_eq-slice_cmp}
use Rattle.std.proofs.lemmas.Slice.Eq.{bytes_eq-Decides}
use Rattle.tla_meaning.specs.Scopes.{same_text}
use Rattle.tla_meaning.specs.declared.expr.Expr.{Expr, out-Expr, roll-Expr, roll-out-Expr}
use Rattle.tla_meaning.specs.declared.expr.Expr.TheOpen.{Expr-F}
use Rattle.tla_meaning.specs.declared.expr.Expr.TheFolds.{fold-roll-Expr}
use Rattle.kernel_reduction.specs.Literals.{each_once, literal_here, literals_in}
use Rattle.kernel_reduction.proofs.Listing.{take_more}

pub same_is : (x y : List ℕ) → same_text x y ≡ true → x ≡ y
same_is x y e = (bytes_eq-Decides x y).0 (sym (is_eq-slice_cmp x y) ∙ e)

pub same_itself : (x y : List ℕ) → x ≡ y → same_text x y ≡ true
same_itself x y e = is_eq-slice_cmp x y ∙ (bytes_eq-Decides x y).1 e

turned : (x y : List ℕ) → same_text x y ≡ false → same_text y x ≡ false
turned x y e = by (same_text y x) refl
  where
    by : (b : Bool) → same_text y x ≡ b → same_text y x ≡ false
    by true f = absurd (true≢false (sym (same_itself x y (sym (same_is y x f))) ∙ e))
    by false f = f

-- texts that are not y
unfoldable pub others : List ℕ → List (List ℕ) → List (List ℕ)
others y es = filter (λ z. not (same_text y z)) es

-- another text is among them if it was before
module _ (x y : List ℕ) (e : same_text x y ≡ false) where
  among_step : (z : List ℕ) (es : List (List ℕ)) (b : Bool) → same_text y z ≡ b →
      list_any (same_text x) (others y es) ≡ list_any (same_text x) es →
      list_any (same_text x) (if not b then z ∷ others y es else others y es) ≡ list_any (same_text x) (z ∷ es)
  among_step z es true f h = h ∙ ap (λ b. b || list_any (same_text x) es) (sym e ∙ ap (same_text x) (same_is y z f))
  among_step z es false f h = ap (λ b. same_text x z || b) h

  pub among_others : (es : List (List ℕ)) → list_any (same_text x) (others y es) ≡ list_any (same_text x) es
  unfolding others
  among_others [] = refl
  among_others (z ∷ es) = among_step z es (same_text y z) refl (among_others es)

-- a text more
abbrev pub added : List (List ℕ) → List ℕ → List (List ℕ)
added es x = if list_any (same_text x) es then es else es ++ x ∷ []

-- behind y, a text more of the others
module _ (x y : List ℕ) (es : List (List ℕ)) where
  left_out : (c : Bool) → same_text y x ≡ c → filter (λ z. not (same_text y z)) (x ∷ []) ≡ (if not c then x ∷ [] else [])
  left_out c e = ap (λ c. if not c then x ∷ [] else []) e

  other_end : (b : Bool) → filter (λ z. not (same_text y z)) (if b then es else es ++ x ∷ [])
      ≡ (if b then filter (λ z. not (same_text y z)) es else filter (λ z. not (same_text y z)) es ++ filter (λ z. not (same_text y z)) (x ∷ []))
  other_end true = refl
  other_end false = filter-append (λ z. not (same_text y z)) es (x ∷ [])

  nothing_more : (b : Bool) (fs gs : List (List ℕ)) → gs ≡ [] → (if b then fs else fs ++ gs) ≡ fs
  nothing_more true fs gs e = refl
  nothing_more false fs gs e = ap (λ gs. fs ++ gs) e ∙ append-nil fs

  into : (b : Bool) (fs : List (List ℕ)) → y ∷ (if b then fs else fs ++ x ∷ []) ≡ (if b then y ∷ fs else (y ∷ fs) ++ x ∷ [])
  into true fs = refl
  into false fs = refl

  added_others : (c : Bool) → same_text x y ≡ c → y ∷ others y (added es x) ≡ added (y ∷ others y es) x
  unfolding others
  added_others true e =
      ap (λ fs. y ∷ fs) (other_end (list_any (same_text x) es)
      ∙ nothing_more (list_any (same_text x) es) (others y es) (others y (x ∷ [])) (left_out true (same_itself y x (sym (same_is x y e)))))
      ∙ ap (λ c. if c || list_any (same_text x) (others y es) then y ∷ others y es else (y ∷ others y es) ++ x ∷ []) (sym e)
  added_others false e =
      ap (λ fs. y ∷ fs) (other_end (list_any (same_text x) es)
      ∙ ap (λ gs. if list_any (same_text x) es then others y es else others y es ++ gs) (left_out false (turned x y e)))
      ∙ into (list_any (same_text x) es) (others y es)
      ∙ ap (λ b. if b then y ∷ others y es else (y ∷ others y es) ++ x ∷ []) (sym (among_others x y e es))
      ∙ ap (λ c. if c || list_any (same_text x) (others y es) then y ∷ others y es else (y ∷ others y es) ++ x ∷ []) (sym e)

pub once_more : (xs : List (List ℕ)) (x : List ℕ) → each_once (xs ++ x ∷ []) ≡ added (each_once xs) x
unfolding others
once_more [] x = refl
once_more (y ∷ xs) x = ap (λ es. y ∷ others y es) (once_more xs x) ∙ added_others x y (each_once xs) (same_text x y) refl

-- ---- the literals of a tree

pub literals-roll : (x : Expr-F Expr) → literals_in (roll-Expr x) ≡ literal_here x.op ++ flat_map (λ ts. ts) (map literals_in x.args)
unfolding literals_in
literals-roll x = fold-roll-Expr (List (List ℕ)) (λ x. literal_here x.op ++ flat_map (λ ts. ts) x.args) x

flat_of_map : (es : List Expr) → flat_map (λ (ts : List (List ℕ)). ts) (map literals_in es) ≡ flat_map literals_in es
flat_of_map [] = refl
flat_of_map (e ∷ es) = ap (λ ts. literals_in e ++ ts) (flat_of_map es)

literals_out : (e : Expr) → literals_in e ≡ literal_here (out-Expr e).op ++ flat_map literals_in (out-Expr e).args
literals_out e =
    subst (λ (t : Expr). literals_in t ≡ literal_here (out-Expr e).op ++ flat_map literals_in (out-Expr e).args) (roll-out-Expr e)
    (literals-roll (out-Expr e) ∙ ap (λ ts. literal_here (out-Expr e).op ++ ts) (flat_of_map (out-Expr e).args))

pub of_node : (e : Expr) (es : List Expr) (a b c : List (List ℕ)) → es ≡ (out-Expr e).args → b ≡ a ++ literal_here (out-Expr e).op →
    c ≡ b ++ flat_map literals_in es → c ≡ a ++ literals_in e
of_node e es a b c h f g =
    g ∙ ap (λ b. b ++ flat_map literals_in es) f
    ∙ append_assoc a (literal_here (out-Expr e).op) (flat_map literals_in es)
    ∙ ap (λ ts. a ++ ts) (ap (λ es. literal_here (out-Expr e).op ++ flat_map literals_in es) h ∙ sym (literals_out e))

-- ---- a step along the texts: `f` and `g` read what is kept and what is walked

module _ {R S : Type 0} (f : R → List ℕ) (g : S → List ℕ) where
  among_keys : (x : List ℕ) (test : R → Bool) (ks : List R) → ((y : R) → test y ≡ same_text x (f y)) →
      list_any test ks ≡ list_any (same_text x) (map f ks)
  among_keys x test [] h = refl
  among_keys x test (k ∷ ks) h =
      ap (λ b. b || list_any test ks) (h k) ∙ ap (λ b. same_text x (f k) || b) (among_keys x test ks h)

  map_end : (ss : List S) (s : S) → map g (ss ++ s ∷ []) ≡ map g ss ++ g s ∷ []
  map_end [] s = refl
  map_end (a ∷ ss) s = ap (λ xs. g a ∷ xs) (map_end ss s)

  keys_end : (ks : List R) (k : R) → map f (ks ++ k ∷ []) ≡ map f ks ++ f k ∷ []
  keys_end [] k = refl
  keys_end (a ∷ ks) k = ap (λ xs. f a ∷ xs) (keys_end ks k)

  -- what is kept after the i-th text, which was among the texts or not
  module _ (test : R → Bool) (ks : List R) (k : R) (ss : List S) (i : ℕ) (s : S) (once : List (List ℕ))
      (is : map f ks ≡ once) (so_far : once ≡ each_once (map g (take i ss))) (same : (y : R) → test y ≡ same_text (f k) (f y)) (read : f k ≡ g s)
      (lt : i < length ss) (at : s ≡ get_or ss i s) where
    among : (b : Bool) → list_any test ks ≡ b → list_any (same_text (g s)) once ≡ b
    among b e = ap (list_any (same_text (g s))) (sym is) ∙ sym (among_keys (g s) test ks (λ y. same y ∙ ap (λ x. same_text x (f y)) read)) ∙ e

    whole : (b : Bool) → list_any test ks ≡ b → (if b then once else once ++ g s ∷ []) ≡ each_once (map g (take (i + 1) ss))
    whole b e =
        ap (λ b. if b then once else once ++ g s ∷ []) (sym (among b e))
        ∙ ap (λ es. added es (g s)) so_far
        ∙ sym (once_more (map g (take i ss)) (g s))
        ∙ ap each_once (sym (map_end (take i ss) s) ∙ ap (map g) (sym (take_more ss i s lt at)))

    pub known_text : (r : Bool) → r ≡ not (list_any test ks) → r ≡ false → (ks' : List R) → ks' ≡ (if list_any test ks then ks else ks ++ k ∷ []) →
        (map f ks' ≡ once) × (once ≡ each_once (map g (take (i + 1) ss)))
    known_text r e h ks' keys = by (list_any test ks) refl (sym e ∙ h)
      where
        by : (b : Bool) → list_any test ks ≡ b → not b ≡ false → (map f ks' ≡ once) × (once ≡ each_once (map g (take (i + 1) ss)))
        by true a n = (ap (map f) (keys ∙ ap (λ b. if b then ks else ks ++ k ∷ []) a) ∙ is, whole true a)
        by false a n = absurd (true≢false n)

    pub new_text : (r : Bool) → r ≡ not (list_any test ks) → r ≡ true → (ks' : List R) → ks' ≡ (if list_any test ks then ks else ks ++ k ∷ []) →
        (map f ks' ≡ once ++ g s ∷ []) × (once ++ g s ∷ [] ≡ each_once (map g (take (i + 1) ss)))
    new_text r e h ks' keys = by (list_any test ks) refl (sym e ∙ h)
      where
        by : (b : Bool) → list_any test ks ≡ b → not b ≡ true → (map f ks' ≡ once ++ g s ∷ []) × (once ++ g s ∷ [] ≡ each_once (map g (take (i + 1) ss)))
        by false a n = (
          ap (map f) (keys ∙ ap (λ b. if b then ks else ks ++ k ∷ []) a) ∙ keys_end ks k ∙ ap (λ xs. xs ++ f k ∷ []) is
              ∙ ap (λ x. once ++ x ∷ []) read,
          whole false a,
        )
        by true a n = absurd (true≢false (sym n))
