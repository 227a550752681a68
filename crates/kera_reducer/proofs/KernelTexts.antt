-- The text literals of a job: no text twice, and each text of its trees is one of them.
use Rattle.std.proofs.Common.{◌≡◌, ℕ, Bool, true, false, not, ◌&&◌, ◌||◌, List, [], ◌∷◌, ◌++◌, map, flat_map, refl, sym, ◌∙◌, ap, subst}
use Rattle.std.specs.Prelude.{if◌then◌else◌, bytes_eq}
use Rattle.std.specs.List.{list_all, list_any}
use Rattle.std.proofs.lemmas.Map.Text.{is_eq-slice_cmp}
use Rattle.tla_meaning.specs.declared.expr.Expr.{Expr}
use Rattle.tla_meaning.specs.declared.job.Job.{Job}
use Rattle.tla_meaning.specs.declared.op.Op.{Op}
use Rattle.tla_meaning.specs.declared.op.Op.TheVariants as op
use Rattle.tla_meaning.specs.Scopes.{same_text}
use Rattle.tla_meaning.proofs.Views.{and_both, false≢true}
use Rattle.snowcat_rows.specs.TypeTexts.{are_distinct, is_among}
use Rattle.snowcat_types.specs.Systems.{parts_of}
use Rattle.kernel_reduction.specs.Literals.{each_once, literal_here, literals_in, literals_of}
use Rattle.kernel_reduction.specs.Origins.{has_node, is_text_op}
use Rattle.kernel_reduction.specs.SoundLaws.{is_foreign, texts_among}
use Rattle.kernel_reduction.proofs.JobTrees.{Each, by_nodes}
use Rattle.kernel_reduction.proofs.NodesKept.{node-roll}
use Rattle.kernel_reduction.proofs.Once.{among_others, literals-roll, others, same_itself}

-- ---- no text twice

not_here : (x : List ℕ) (es : List (List ℕ)) → is_among x (others x es) ≡ false
unfolding others
not_here x [] = refl
not_here x (z ∷ es) = by (not_here x es) (same_text x z) refl
  where
    by : is_among x (others x es) ≡ false → (b : Bool) → same_text x z ≡ b →
        is_among x (if not b then z ∷ others x es else others x es) ≡ false
    by h true e = h
    by h false e = ap (λ b. b || is_among x (others x es)) (sym (is_eq-slice_cmp x z) ∙ e) ∙ h

among_fewer : (x y : List ℕ) (es : List (List ℕ)) → is_among x es ≡ false → is_among x (others y es) ≡ false
unfolding others
among_fewer x y [] h = refl
among_fewer x y (z ∷ es) h = by (among_fewer x y es) (same_text y z) (bytes_eq x z) refl h
  where
    by : (is_among x es ≡ false → is_among x (others y es) ≡ false) → (b c : Bool) → bytes_eq x z ≡ c →
        (c || is_among x es) ≡ false → is_among x (if not b then z ∷ others y es else others y es) ≡ false
    by r true false e g = r g
    by r false false e g = ap (λ b. b || is_among x (others y es)) e ∙ r g
    by r b true e g = absurd (false≢true (sym g))

distinct_fewer : (y : List ℕ) (es : List (List ℕ)) → are_distinct es ≡ true → are_distinct (others y es) ≡ true
unfolding others
distinct_fewer y [] h = refl
distinct_fewer y (z ∷ es) h = by (distinct_fewer y es) (same_text y z) (is_among z es) refl h
  where
    by : (are_distinct es ≡ true → are_distinct (others y es) ≡ true) → (b c : Bool) → is_among z es ≡ c →
        (not c && are_distinct es) ≡ true → are_distinct (if not b then z ∷ others y es else others y es) ≡ true
    by r true false e g = r g
    by r false false e g =
        and_both (not (is_among z (others y es))) (are_distinct (others y es)) (ap not (among_fewer z y es e)) (r g)
    by r b true e g = absurd (false≢true g)

pub once_distinct : (xs : List (List ℕ)) → are_distinct (each_once xs) ≡ true
unfolding others
once_distinct [] = refl
once_distinct (x ∷ xs) =
    and_both (not (is_among x (others x (each_once xs)))) (are_distinct (others x (each_once xs)))
    (ap not (not_here x (each_once xs))) (distinct_fewer x (each_once xs) (once_distinct xs))

-- ---- each text of a tree is one of its literals

any_append : (f : List ℕ → Bool) (xs ys : List (List ℕ)) → list_any f (xs ++ ys) ≡ (list_any f xs || list_any f ys)
any_append f [] ys = refl
any_append f (x ∷ xs) ys = by (any_append f xs ys) (f x)
  where
    by : list_any f (xs ++ ys) ≡ (list_any f xs || list_any f ys) → (b : Bool) →
        (b || list_any f (xs ++ ys)) ≡ ((b || list_any f xs) || list_any f ys)
    by h true = refl
    by h false = h

module _ (T : List ℕ → Bool) where
  abbrev has : Expr → Bool
  has e = has_node (λ q. false) T e

  abbrev Listed : Expr → Type 0
  Listed e = has e ≡ list_any T (literals_in e)

  here : (o : Op) → is_text_op T o ≡ list_any T (literal_here o)
  here (op.Str x) = by (T x)
    where
      by : (b : Bool) → b ≡ (b || false)
      by true = refl
      by false = refl
  here o = refl

  below : (es : List Expr) → Each Listed es →
      list_any (λ b. b) (map has es) ≡ list_any T (flat_map (λ ts. ts) (map literals_in es))
  below [] h = refl
  below (e ∷ es) h =
      ap (λ b. b || list_any (λ b. b) (map has es)) h.0
      ∙ ap (λ b. list_any T (literals_in e) || b) (below es h.1)
      ∙ sym (any_append T (literals_in e) (flat_map (λ ts. ts) (map literals_in es)))

  listed : (e : Expr) → Listed e
  listed = by_nodes Listed (λ x h.
      node-roll (λ q. false) T x
      ∙ ap (λ b. b || list_any (λ b. b) (map has x.args)) (here x.op)
      ∙ ap (λ b. list_any T (literal_here x.op) || b) (below x.args h)
      ∙ sym (any_append T (literal_here x.op) (flat_map (λ ts. ts) (map literals_in x.args)))
      ∙ ap (list_any T) (sym (literals-roll x)))

-- ---- each text is one of those that are kept once

kept_once : (x : List ℕ) (xs : List (List ℕ)) → list_any (same_text x) (each_once xs) ≡ list_any (same_text x) xs
unfolding others
kept_once x [] = refl
kept_once x (y ∷ xs) = by (kept_once x xs) (same_text x y) refl
  where
    by : list_any (same_text x) (each_once xs) ≡ list_any (same_text x) xs → (b : Bool) → same_text x y ≡ b →
        (b || list_any (same_text x) (others y (each_once xs))) ≡ (b || list_any (same_text x) xs)
    by h true e = refl
    by h false e = among_others x y e (each_once xs) ∙ h

itself : (x : List ℕ) (xs : List (List ℕ)) → list_any (same_text x) (x ∷ xs) ≡ true
itself x xs = ap (λ b. b || list_any (same_text x) xs) (same_itself x x refl)

-- the first texts are all among all of them
none_foreign : (before xs behind : List (List ℕ)) →
    list_any (is_foreign (each_once (before ++ (xs ++ behind)))) xs ≡ false
none_foreign before [] behind = refl
none_foreign before (x ∷ xs) behind =
    ap (λ b. not b || list_any (is_foreign (each_once (before ++ (x ∷ xs ++ behind)))) xs)
    (kept_once x (before ++ (x ∷ xs ++ behind)) ∙ within before)
    ∙ subst (λ zs. list_any (is_foreign (each_once zs)) xs ≡ false) (one_more before) (none_foreign (before ++ x ∷ []) xs behind)
  where
    within : (us : List (List ℕ)) → list_any (same_text x) (us ++ (x ∷ xs ++ behind)) ≡ true
    within [] = itself x (xs ++ behind)
    within (u ∷ us) = or_true (same_text x u) (within us)
      where
        or_true : (b : Bool) {c : Bool} → c ≡ true → (b || c) ≡ true
        or_true true e = refl
        or_true false e = e

    one_more : (us : List (List ℕ)) → (us ++ x ∷ []) ++ (xs ++ behind) ≡ us ++ (x ∷ xs ++ behind)
    one_more [] = refl
    one_more (u ∷ us) = ap (λ zs. u ∷ zs) (one_more us)

each_among : (before : List (List ℕ)) (es : List Expr) (texts : List (List ℕ)) →
    texts ≡ each_once (before ++ flat_map literals_in es) → list_all (texts_among texts) es ≡ true
each_among before [] texts h = refl
each_among before (e ∷ es) texts h =
    and_both (texts_among texts e) (list_all (texts_among texts) es)
    (ap not (listed (is_foreign texts) e
    ∙ subst (λ ts. list_any (is_foreign ts) (literals_in e) ≡ false) (sym h)
    (none_foreign before (literals_in e) (flat_map literals_in es))))
    (each_among (before ++ literals_in e) es texts (h ∙ ap each_once (one_more before)))
  where
    one_more : (us : List (List ℕ)) →
        us ++ (literals_in e ++ flat_map literals_in es) ≡ (us ++ literals_in e) ++ flat_map literals_in es
    one_more [] = refl
    one_more (u ∷ us) = ap (λ zs. u ∷ zs) (one_more us)

pub job_texts_among : (job : Job) → list_all (texts_among (literals_of job)) (parts_of job) ≡ true
job_texts_among job = each_among [] (parts_of job) (literals_of job) refl
