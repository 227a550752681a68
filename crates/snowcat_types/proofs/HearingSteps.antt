-- The steps of hearing the notes in the trees of a job.
use Rattle.std.proofs.Common.{◌≡◌, ℕ, zero, suc, ◌+◌, ◌<◌, ◌≤◌, false, ◌⊎◌, inl, inr, List, [], ◌∷◌, ◌++◌, append_assoc, length, get_or, take, drop, map, refl, ap, sym, ◌∙◌, subst, arith, Option, Some, None}
use Rattle.std.specs.Prelude.{option_map, Contains}
use Rattle.std.specs.List.{insert}
use Rattle.std.specs.Cmp.Lexicographic.{slice_cmp}
use Rattle.std.specs.Ordering.{is_eq, nat_cmp}
use Rattle.std.specs.declared.cmp.Ordering.{Ordering}
use Rattle.std.specs.declared.cmp.Ordering.TheVariants.{Equal}
use Rattle.std.proofs.lemmas.List.{map-append, take-append-drop, take_all, take_more}
use Rattle.std.proofs.lemmas.List.Elements.{Contains-get_or, Contains-append_cases, Contains-append_left, Contains-append_right, Contains-push, Contains-push_cases}
use Rattle.std.proofs.lemmas.Map.Text.{is_eq-slice_cmp}
use Rattle.std.proofs.lemmas.Slice.Eq.{bytes_eq-Decides}
use Rattle.tla_meaning.specs.Outcomes.{before}
use Rattle.tla_meaning.specs.declared.expr.Decl.{Decl}
use Rattle.tla_meaning.specs.declared.expr.Expr.{Expr, out-Expr}
use Rattle.tla_meaning.specs.declared.expr.Expr.TheFolds.{fold_out-Expr}
use Rattle.tla_meaning.specs.declared.job.Job.{Job}
use Rattle.tla_meaning.specs.declared.op.Op.{Op}
use Rattle.tla_meaning.specs.declared.op.Op.TheVariants as op
use Rattle.tla_meaning.specs.declared.place.Place.{Place}
use Rattle.snowcat_rows.specs.declared.types.Ty.{Ty}
use Rattle.snowcat_rows.specs.Types.{Term, mean}
use Rattle.snowcat_rows.specs.Readings.{Known, Knows}
use Rattle.snowcat_types.specs.Annotated.{Aliases, Says, all_notes, joined_notes, notes_in, own_note}
use Rattle.snowcat_types.specs.Systems.{parts_of}
use Rattle.snowcat_types.specs.declared.hearing.Heard.{Heard}
use Rattle.snowcat_types.specs.inner.Gathered.{NoteNamed, NotesNamed}
use Rattle.snowcat_types.specs.inner.Telling.{AreHeard, HearsBesides, IsBad, IsBadName, IsLeastOf, IsSaid, IsSettled, Learns, Notes, earlier, texts}
use Rattle.snowcat_types.proofs.Leasts.{least_late, least_new, least_same}
use Rattle.snowcat_types.proofs.Unread.{first_stands}

-- ---- what stands in a list

pub stands_cases : {X : Type 0} → (x y : X) (xs : List X) → Contains (x ∷ xs) y → (x ≡ y) ⊎ Contains xs y
stands_cases x y xs (zero, lt, e) = inl e
stands_cases x y xs (suc k, lt, e) = inr (k, omega (arith, lt), e)

pub stands_first : {X : Type 0} → (x : X) (xs : List X) → Contains (x ∷ xs) x
stands_first x xs = (0, omega arith, refl)

pub stands_later : {X : Type 0} → (x y : X) (xs : List X) → Contains xs y → Contains (x ∷ xs) y
stands_later x y xs (k, lt, e) = (suc k, omega (arith, lt), e)

-- an entry of a text that stands
pub entry_of : {X : Type 0} → (xs : List (List ℕ × X)) (x : List ℕ) → Contains (texts xs) x → (n : List ℕ × X) × Contains xs n × (n.0 ≡ x)
entry_of [] x (k, lt, e) = absurd (omega (arith, lt))
entry_of (n ∷ xs) x h =
    elim (stands_cases n.0 x (texts xs) h) [
      | inl e ↦ (n, stands_first n xs, e)
      | inr i ↦ let r = entry_of xs x i in (r.0, stands_later n r.0 xs r.1, r.2)
    ]

module _ {X : Type 0} (xs : List X) (i : ℕ) (n : X) where
  split : xs ≡ take i xs ++ drop i xs
  split = sym (take-append-drop i xs)

  inserted_cases : (m : X) → Contains (insert xs i n) m → Contains xs m ⊎ (n ≡ m)
  inserted_cases m h =
      let P : List X → Type 0 = λ z. Contains z m in
      elim (Contains-append_cases (take i xs) (n ∷ drop i xs) m h) [
        | inl a ↦ inl (subst P (sym split) (Contains-append_left (take i xs) (drop i xs) m a))
        | inr b ↦ elim (stands_cases n m (drop i xs) b) [
          | inl e ↦ inr e
          | inr d ↦ inl (subst P (sym split) (Contains-append_right (take i xs) (drop i xs) m d))
        ]
      ]

  inserted_old : (m : X) → Contains xs m → Contains (insert xs i n) m
  inserted_old m h =
      let P : List X → Type 0 = λ z. Contains z m in
      elim (Contains-append_cases (take i xs) (drop i xs) m (subst P split h)) [
        | inl a ↦ Contains-append_left (take i xs) (n ∷ drop i xs) m a
        | inr b ↦ Contains-append_right (take i xs) (n ∷ drop i xs) m (stands_later n m (drop i xs) b)
      ]

  inserted_new : Contains (insert xs i n) n
  inserted_new = Contains-append_right (take i xs) (n ∷ drop i xs) n (stands_first n (drop i xs))

named_split : (xs ys : List (List ℕ × Option Ty)) → NotesNamed (xs ++ ys) → NotesNamed xs × NotesNamed ys
named_split [] ys h = (tt, h)
named_split (x ∷ xs) ys h = let r = named_split xs ys h.1 in ((h.0, r.0), r.1)

named_joined : (xs ys : List (List ℕ × Option Ty)) → NotesNamed xs → NotesNamed ys → NotesNamed (xs ++ ys)
named_joined [] ys g h = h
named_joined (x ∷ xs) ys g h = (g.0, named_joined xs ys g.1 h)

named_inserted : (xs : List (List ℕ × Option Ty)) (i : ℕ) (n : List ℕ × Option Ty) → NotesNamed xs → NoteNamed n.1 → NotesNamed (insert xs i n)
named_inserted xs i n h g =
    let r = named_split (take i xs) (drop i xs) (subst NotesNamed (sym (take-append-drop i xs)) h) in
    named_joined (take i xs) (n ∷ drop i xs) r.0 (g, r.1)

-- ---- one note more

some_no_none : {X : Type 0} → (x : X) → Some x ≡ None → ⊥
some_no_none x e = cc

module _ (al : Aliases) (ds : List Decl) (ns : Notes) (x : List ℕ) (p : Place) where
  text_further : (y : List ℕ) → Contains (texts ns) y → Contains (texts (ns ++ (x, p) ∷ [])) y
  text_further y h =
      let P : List (List ℕ) → Type 0 = λ z. Contains z y in
      subst P (sym (map-append (λ n. n.0) ns ((x, p) ∷ []))) (Contains-append_left (texts ns) (x ∷ []) y h)

  text_new : Contains (texts (ns ++ (x, p) ∷ [])) x
  text_new =
      let P : List (List ℕ) → Type 0 = λ z. Contains z x in
      subst P (sym (map-append (λ n. n.0) ns ((x, p) ∷ []))) (Contains-push (texts ns) x)

  text_cases : (y : List ℕ) → Contains (texts (ns ++ (x, p) ∷ [])) y → Contains (texts ns) y ⊎ (x ≡ y)
  text_cases y h =
      let P : List (List ℕ) → Type 0 = λ z. Contains z y in
      Contains-push_cases (texts ns) x y (subst P (map-append (λ n. n.0) ns ((x, p) ∷ [])) h)

  bad_further : (q : Place) → IsBad al ds ns q → IsBad al ds (ns ++ (x, p) ∷ []) q
  bad_further q (inl h) = inl h
  bad_further q (inr (y, i, never)) = inr (y, Contains-append_left ns ((x, p) ∷ []) (y, q) i, never)

  bad_cases : (q : Place) → IsBad al ds (ns ++ (x, p) ∷ []) q → IsBad al ds ns q ⊎ (q ≡ p)
  bad_cases q (inl h) = inl (inl h)
  bad_cases q (inr (y, i, never)) =
      elim (Contains-push_cases ns (x, p) (y, q) i) [
        | inl j ↦ inl (inr (y, j, never))
        | inr e ↦ inr (ap (λ z. z.1) (sym e))
      ]

  -- what says something is not bad
  bad_before : (o : Option Term) → Says al x o → (q : Place) → IsBad al ds (ns ++ (x, p) ∷ []) q → IsBad al ds ns q
  bad_before o s q (inl h) = inl h
  bad_before o s q (inr (y, i, never)) =
      elim (Contains-push_cases ns (x, p) (y, q) i) [
        | inl j ↦ inr (y, j, never)
        | inr e ↦ absurd (let P : List ℕ → Type 0 = λ z. Says al z o in never o (subst P (ap (λ z. z.0) e) s))
      ]

  pub hear_known : (known : List (List ℕ × Option Ty)) (w : Option Place) → AreHeard al ds ns known w → Contains (texts known) x →
      AreHeard al ds (ns ++ (x, p) ∷ []) known w
  hear_known known w h i =
      let n = entry_of known x i in
      let P : List ℕ → Type 0 = λ z. Says al z (option_map mean n.0.1) in
      let s : Says al x (option_map mean n.0.1) = subst P n.2 (h.say n.0 n.1).0 in
      record {
        say = λ m j. ((h.say m j).0, text_further m.0 (h.say m j).1);
        met = λ e y j. elim (text_cases y j) [
          | inl k ↦ h.met e y k
          | inr same ↦ let Q : List ℕ → Type 0 = λ z. Contains (texts known) z in subst Q same i
        ];
        least = least_same (IsBad al ds ns) (IsBad al ds (ns ++ (x, p) ∷ [])) w h.least bad_further (bad_before (option_map mean n.0.1) s);
        named = h.named;
      }

  pub hear_late : (known : List (List ℕ × Option Ty)) (w : Option Place) (q : Place) → AreHeard al ds ns known w → w ≡ Some q → before p q ≡ false →
      AreHeard al ds (ns ++ (x, p) ∷ []) known w
  hear_late known w q h e late = record {
    say = λ m j. ((h.say m j).0, text_further m.0 (h.say m j).1);
    met = λ n. absurd (some_no_none q (sym e ∙ n));
    least = least_late (IsBad al ds ns) (IsBad al ds (ns ++ (x, p) ∷ [])) w q p e h.least late bad_further bad_cases;
    named = h.named;
  }

  pub hear_bad : (known : List (List ℕ × Option Ty)) (w : Option Place) → AreHeard al ds ns known w → ((o : Option Term) → Says al x o → ⊥) →
      AreHeard al ds (ns ++ (x, p) ∷ []) known (Some (earlier w p))
  hear_bad known w h never = record {
    say = λ m j. ((h.say m j).0, text_further m.0 (h.say m j).1);
    met = λ n. absurd (some_no_none (earlier w p) n);
    least = least_new (IsBad al ds ns) (IsBad al ds (ns ++ (x, p) ∷ [])) w p h.least (inr (x, Contains-push ns (x, p), never)) bad_further bad_cases;
    named = h.named;
  }

  pub hear_learned : (known : List (List ℕ × Option Ty)) (w : Option Place) (i : ℕ) (o : Option Ty) → AreHeard al ds ns known w →
      Says al x (option_map mean o) → NoteNamed o → AreHeard al ds (ns ++ (x, p) ∷ []) (insert known i (x, o)) w
  hear_learned known w i o h s k = record {
    say = λ m j. elim (inserted_cases known i (x, o) m j) [
      | inl old ↦ ((h.say m old).0, text_further m.0 (h.say m old).1)
      | inr same ↦
          let P : List ℕ × Option Ty → Type 0 = λ z. Says al z.0 (option_map mean z.1) × Contains (texts (ns ++ (x, p) ∷ [])) z.0 in
          subst P same (s, text_new)
    ];
    met = λ e y j. elim (text_cases y j) [
      | inl old ↦
          let n = entry_of known y (h.met e y old) in
          let P : List ℕ → Type 0 = λ z. Contains (texts (insert known i (x, o))) z in
          subst P n.2 (first_stands (insert known i (x, o)) n.0 (inserted_old known i (x, o) n.0 n.1))
      | inr same ↦
          let P : List ℕ → Type 0 = λ z. Contains (texts (insert known i (x, o))) z in
          subst P same (first_stands (insert known i (x, o)) (x, o) (inserted_new known i (x, o)))
    ];
    least = least_same (IsBad al ds ns) (IsBad al ds (ns ++ (x, p) ∷ [])) w h.least bad_further (bad_before (option_map mean o) s);
    named = named_inserted known i (x, o) h.named k;
  }

-- ---- the state

nothing_more : (xs : Notes) → xs ++ [] ≡ xs
nothing_more [] = refl
nothing_more (x ∷ xs) = ap (λ z. x ∷ z) (nothing_more xs)

pub settled : (k : Known) (h : Heard) (x : List ℕ) (p : Place) → IsSettled h x p → HearsBesides k h ((x, p) ∷ []) h
settled k h x p (inl i) = record { hears = λ al ds ns knows a. hear_known al ds ns x p h.known.items h.worst a i }
settled k h x p (inr (q, e, late)) = record { hears = λ al ds ns knows a. hear_late al ds ns x p h.known.items h.worst q a e late }

hears_nothing : (k : Known) (h : Heard) → HearsBesides k h [] h
hears_nothing k h = record {
  hears = λ al ds ns knows a.
      let P : Notes → Type 0 = λ z. AreHeard al ds z h.known.items h.worst in
      subst P (sym (nothing_more ns)) a;
}

hears_on : (k : Known) (a b c : Heard) (ms ns : Notes) → HearsBesides k a ms b → HearsBesides k b ns c → HearsBesides k a (ms ++ ns) c
hears_on k a b c ms ns f g = record {
  hears = λ al ds ls knows h.
      let P : Notes → Type 0 = λ z. AreHeard al ds z c.known.items c.worst in
      subst P (append_assoc ls ms ns) (g.hears al ds (ls ++ ms) knows (f.hears al ds ls knows h));
}

-- ---- trees

pub tree_notes : (e : Expr) → notes_in e ≡ own_note (out-Expr e).op (out-Expr e).place ++ all_notes (out-Expr e).args
unfolding notes_in
tree_notes e = fold_out-Expr Notes (λ x. own_note x.op x.place ++ joined_notes x.args) e

joined_append : (xs ys : List Notes) → joined_notes (xs ++ ys) ≡ joined_notes xs ++ joined_notes ys
joined_append [] ys = refl
joined_append (x ∷ xs) ys = ap (λ z. x ++ z) (joined_append xs ys) ∙ sym (append_assoc x (joined_notes xs) (joined_notes ys))

notes_pushed : (es : List Expr) (e : Expr) → all_notes (es ++ e ∷ []) ≡ all_notes es ++ notes_in e
notes_pushed es e =
    ap joined_notes (map-append notes_in es (e ∷ [])) ∙ joined_append (map notes_in es) (notes_in e ∷ [])
    ∙ ap (λ z. all_notes es ++ z) (nothing_more (notes_in e))

module _ (k : Known) (a b c : Heard) where
  pub tree_heard : (e : Expr) (es : List Expr) → es ≡ (out-Expr e).args → HearsBesides k a (own_note (out-Expr e).op (out-Expr e).place) b →
      HearsBesides k b (all_notes es) c → HearsBesides k a (notes_in e) c
  tree_heard e es q f g =
      let P : Notes → Type 0 = λ z. HearsBesides k a z c in
      let Q : List Expr → Type 0 = λ z. HearsBesides k b (all_notes z) c in
      subst P (sym (tree_notes e)) (hears_on k a b c (own_note (out-Expr e).op (out-Expr e).place) (all_notes (out-Expr e).args) f (subst Q q g))

  pub trees_heard : (es : List Expr) (i : ℕ) (e : Expr) → i < length es → e ≡ get_or es i e → HearsBesides k a (all_notes (take i es)) b →
      HearsBesides k b (notes_in e) c → HearsBesides k a (all_notes (take (i + 1) es)) c
  trees_heard es i e lt q f g =
      let P : Notes → Type 0 = λ z. HearsBesides k a z c in
      let more : take (i + 1) es ≡ take i es ++ e ∷ [] = take_more es i e lt ∙ ap (λ z. take i es ++ z ∷ []) (sym q) in
      subst P (sym (ap all_notes more ∙ notes_pushed (take i es) e)) (hears_on k a b c (all_notes (take i es)) (notes_in e) f g)

  pub invariants_heard : (xs : List (List ℕ × Expr)) (i : ℕ) (x : List ℕ × Expr) → i < length xs → x ≡ get_or xs i x →
      HearsBesides k a (all_notes (map (λ v. v.1) (take i xs))) b → HearsBesides k b (notes_in x.1) c →
      HearsBesides k a (all_notes (map (λ v. v.1) (take (i + 1) xs))) c
  invariants_heard xs i x lt q f g =
      let P : Notes → Type 0 = λ z. HearsBesides k a z c in
      let more : take (i + 1) xs ≡ take i xs ++ x ∷ [] = take_more xs i x lt ∙ ap (λ z. take i xs ++ z ∷ []) (sym q) in
      let apart : map (λ v. v.1) (take (i + 1) xs) ≡ map (λ v. v.1) (take i xs) ++ x.1 ∷ [] =
      ap (map (λ v. v.1)) more ∙ map-append (λ v. v.1) (take i xs) (x ∷ []) in
      subst P (sym (ap all_notes apart ∙ notes_pushed (map (λ v. v.1) (take i xs)) x.1))
      (hears_on k a b c (all_notes (map (λ v. v.1) (take i xs))) (notes_in x.1) f g)

module _ (k : Known) (a b : Heard) where
  pub trees_done : (es : List Expr) (i : ℕ) → length es ≤ i → HearsBesides k a (all_notes (take i es)) b → HearsBesides k a (all_notes es) b
  trees_done es i le f = let P : List Expr → Type 0 = λ z. HearsBesides k a (all_notes z) b in subst P (take_all i es le) f

  pub invariants_done : (xs : List (List ℕ × Expr)) (i : ℕ) → length xs ≤ i → HearsBesides k a (all_notes (map (λ v. v.1) (take i xs))) b →
      HearsBesides k a (all_notes (map (λ v. v.1) xs)) b
  invariants_done xs i le f =
      let P : List (List ℕ × Expr) → Type 0 = λ z. HearsBesides k a (all_notes (map (λ v. v.1) z)) b in
      subst P (take_all i xs le) f

  pub node_heard : (o : Op) (x : List ℕ) (p : Place) → o ≡ op.Noted x → HearsBesides k a ((x, p) ∷ []) b → HearsBesides k a (own_note o p) b
  node_heard o x p e f = let P : Op → Type 0 = λ z. HearsBesides k a (own_note z p) b in subst P (sym e) f

no_note : (o : Op) (p : Place) → ((x : List ℕ) → o ≡ op.Noted x → ⊥) → own_note o p ≡ []
no_note (op.Noted x) p never = absurd (never x refl)
no_note o p never = refl

pub node_passed : (k : Known) (h : Heard) (o : Op) (p : Place) → ((x : List ℕ) → o ≡ op.Noted x → ⊥) → HearsBesides k h (own_note o p) h
node_passed k h o p never =
    let P : Notes → Type 0 = λ z. HearsBesides k h z h in
    subst P (sym (no_note o p never)) (hears_nothing k h)

pub job_heard : (k : Known) (a b c d e f : Heard) (job : Job) → HearsBesides k a (notes_in job.cinit) b → HearsBesides k b (notes_in job.assume) c →
    HearsBesides k c (notes_in job.init) d → HearsBesides k d (notes_in job.next) e → (xs : List (List ℕ × Expr)) → xs ≡ job.invs →
    HearsBesides k e (all_notes (map (λ v. v.1) xs)) f → HearsBesides k a (all_notes (parts_of job)) f
job_heard k a b c d e f job p q r s xs is t =
    let invs = all_notes (map (λ v. v.1) job.invs) in
    let next = notes_in job.next ++ invs in
    let init = notes_in job.init ++ next in
    hears_on k a b f (notes_in job.cinit) (notes_in job.assume ++ init) p
    (hears_on k b c f (notes_in job.assume) init q
    (hears_on k c d f (notes_in job.init) next r
    (hears_on k d e f (notes_in job.next) invs s
    (subst (λ (z : List (List ℕ × Expr)). HearsBesides k e (all_notes (map (λ v. v.1) z)) f) is t))))

-- ---- one text

pub found : (known : List (List ℕ × Option Ty)) (m : ℕ) (n : List ℕ × Option Ty) (x a b : List ℕ) (o : Ordering) → m < length known →
    n ≡ get_or known m n → a ≡ x →
    b ≡ n.0 → o ≡ slice_cmp nat_cmp a b → o ≡ Equal → (m ≤ length known) × Contains (texts known) x
found known m n x a b o lt is e f g h =
    let same : a ≡ b = (bytes_eq-Decides a b).0 (sym (is_eq-slice_cmp a b) ∙ ap is_eq (sym g ∙ h)) in
    let P : List ℕ × Option Ty → Type 0 = λ z. Contains known z in
    let Q : List ℕ → Type 0 = λ z. Contains (texts known) z in
    (omega (arith, lt), subst Q (sym f ∙ sym same ∙ e) (first_stands known n (subst P (sym is) (Contains-get_or known m n lt))))

pub hear_more : (k : Known) (h g : Heard) (x y z : List ℕ) (p : Place) (o : Option (Option Ty)) (b : Option Ty) →
    ((al : Aliases) → Knows [] al k → IsSaid al z o) → z ≡ x → o ≡ Some b → y ≡ x → Learns h (y, b) g → HearsBesides k h ((x, p) ∷ []) g
hear_more k h g x y z p o b says e is f (i, le, more, kept) = record {
  hears = λ al ds ns knows a.
      let P : Option (Option Ty) → Type 0 = λ w. IsSaid al z w in
      let Q : List ℕ → Type 0 = λ w. IsSaid al w (Some b) in
      let s : IsSaid al x (Some b) = subst Q e (subst P is (says al knows)) in
      let R : List (List ℕ × Option Ty) → Type 0 = λ w. AreHeard al ds (ns ++ (x, p) ∷ []) w g.worst in
      let S : Option Place → Type 0 = λ w. AreHeard al ds (ns ++ (x, p) ∷ []) (insert h.known.items i (y, b)) w in
      let T : List ℕ → Type 0 = λ w. AreHeard al ds (ns ++ (x, p) ∷ []) (insert h.known.items i (w, b)) h.worst in
      subst R (sym more) (subst S (sym kept) (subst T (sym f) (hear_learned al ds ns x p h.known.items h.worst i b a s.0 s.1)));
}

pub hear_none : (k : Known) (h g : Heard) (x z : List ℕ) (p q : Place) (o : Option (Option Ty)) →
    ((al : Aliases) → Knows [] al k → IsSaid al z o) → z ≡ x →
    o ≡ None → q ≡ earlier h.worst p → g.known.items ≡ h.known.items → g.worst ≡ Some q → HearsBesides k h ((x, p) ∷ []) g
hear_none k h g x z p q o says e is f same new = record {
  hears = λ al ds ns knows a.
      let P : Option (Option Ty) → Type 0 = λ w. IsSaid al z w in
      let Q : List ℕ → Type 0 = λ w. IsSaid al w None in
      let R : Option Place → Type 0 = λ w. AreHeard al ds (ns ++ (x, p) ∷ []) h.known.items w in
      let S : List (List ℕ × Option Ty) → Type 0 = λ w. AreHeard al ds (ns ++ (x, p) ∷ []) w g.worst in
      subst S (sym same) (subst R (sym (new ∙ ap (λ w. Some w) f))
      (hear_bad al ds ns x p h.known.items h.worst a (subst Q e (subst P is (says al knows)))));
}

-- ---- the beginning

none_bad : (al : Aliases) (ds : List Decl) (p : Place) → IsBad al ds [] p → IsBadName al ds p
none_bad al ds p (inl h) = h
none_bad al ds p (inr (x, i, never)) = absurd (let lt = i.1 in omega (arith, lt))

pub nothing_heard : (al : Aliases) (ds : List Decl) (known : List (List ℕ × Option Ty)) (w v : Option Place) → known ≡ [] → v ≡ w →
    IsLeastOf (IsBadName al ds) w →
    AreHeard al ds [] known v
nothing_heard al ds known w v e f h =
    let P : List (List ℕ × Option Ty) → Type 0 = λ z. AreHeard al ds [] z v in
    let Q : Option Place → Type 0 = λ z. AreHeard al ds [] [] z in
    subst P (sym e) (subst Q (sym f) (record {
      say = λ n i. absurd (let lt = i.1 in omega (arith, lt));
      met = λ n x i. i;
      least = least_same (IsBadName al ds) (IsBad al ds []) w h (λ p b. inl b) (none_bad al ds);
      named = tt;
    }))
