-- The places of infinite sets in a tree, by its operator, and the least of some places.
use Rattle.std.proofs.Common.{◌≡◌, inl, inr, ℕ, suc, ◌+◌, ◌<◌, Bool, List, [], ◌∷◌, ◌++◌, map, length, take, get_or, ◌≤◌, not, ◌&&◌, refl, sym, ◌∙◌, ap, subst, append_assoc, length-take, false, true, Option, Some, None, arith}
use Rattle.std.specs.Prelude.{Contains, slice_index_or, if◌then◌else◌}
use Rattle.std.proofs.lemmas.List.{append-nil}
use Rattle.std.proofs.lemmas.List.Elements.{Contains-append_cases, Contains-append_left, Contains-append_right}
use Rattle.tla_meaning.specs.declared.place.Place.{Place}
use Rattle.tla_meaning.specs.declared.expr.Expr.{Expr, out-Expr, roll-Expr, roll-out-Expr}
use Rattle.tla_meaning.specs.declared.expr.Expr.TheOpen.{Expr-F}
use Rattle.tla_meaning.specs.declared.expr.Expr.TheFolds.{fold-roll-Expr}
use Rattle.tla_meaning.specs.declared.job.Job.{Job}
use Rattle.tla_meaning.specs.declared.op.Op.{Op}
use Rattle.kernel_reduction.specs.Infinite.{form_child, infinite_below, infinite_here, infinite_in, infinite_node, infinite_places, all_infinite, is_infinite, IsLeastIfAny}
use Rattle.kernel_reduction.specs.inner.Least.{IsLeast}
use Rattle.snowcat_types.specs.inner.Telling.{earlier}
use Rattle.snowcat_types.proofs.Leasts.{least_new}
use Rattle.kernel_reduction.proofs.Listing.{take_all, take_more}

-- ---- a tree by its operator

pub places-roll : (x : Expr-F Expr) (b : Bool) → infinite_in (roll-Expr x) b ≡ infinite_here x.op x.place b ++ infinite_below x.op 0 b (map infinite_in x.args)
unfolding infinite_in
places-roll x b = ap (λ (f : Bool → List Place). f b) (fold-roll-Expr (Bool → List Place) infinite_node x)

pub places_out : (e : Expr) (b : Bool) →
    infinite_in e b ≡ infinite_here (out-Expr e).op (out-Expr e).place b ++ infinite_below (out-Expr e).op 0 b (map infinite_in (out-Expr e).args)
places_out e b =
    subst (λ (t : Expr). infinite_in t b ≡ infinite_here (out-Expr e).op (out-Expr e).place b ++ infinite_below (out-Expr e).op 0 b (map infinite_in (out-Expr e).args))
    (roll-out-Expr e) (places-roll (out-Expr e) b)

below_end : (o : Op) (b : Bool) (n : ℕ) (ks : List (Bool → List Place)) (k : Bool → List Place) →
    infinite_below o n b (ks ++ k ∷ []) ≡ infinite_below o n b ks ++ k (form_child o (n + length ks) b)
below_end o b n [] k =
    let e : n ≡ n + 0 = omega arith in
    append-nil (k (form_child o n b)) ∙ ap (λ i. k (form_child o i b)) e
below_end o b n (h ∷ ks) k =
    let e : suc n + length ks ≡ n + suc (length ks) = omega arith in
    ap (λ ps. h (form_child o n b) ++ ps) (below_end o b (suc n) ks k ∙ ap (λ i. infinite_below o (suc n) b ks ++ k (form_child o i b)) e)
    ∙ sym (append_assoc (h (form_child o n b)) (infinite_below o (suc n) b ks) (k (form_child o (n + suc (length ks)) b)))

-- those of a node and of its first children
abbrev pub so_far : Expr → Bool → List Expr → List Place
so_far e b es = infinite_here (out-Expr e).op (out-Expr e).place b ++ infinite_below (out-Expr e).op 0 b (map infinite_in es)

pub so_far_all : (e : Expr) (b : Bool) (es : List Expr) → es ≡ (out-Expr e).args → so_far e b es ≡ infinite_in e b
so_far_all e b es h = ap (so_far e b) h ∙ sym (places_out e b)

-- ---- the least of some places

in_one : (p q : Place) → Contains (p ∷ []) q → q ≡ p
in_one p q h = let lt : h.0 < 1 = h.1 in let z : h.0 ≡ 0 = omega (arith, lt) in sym (ap (λ n. slice_index_or (p ∷ []) n q) (sym z) ∙ h.2)

one_in : (p : Place) → Contains (p ∷ []) p
one_in p = (0, omega arith, refl)

pub none_in : (q : Place) → Contains [] q → ⊥
none_in q h = let lt : h.0 < 0 = h.1 in absurd (omega (arith, lt))

pub least_more : (ps : List Place) (w : Option Place) (p : Place) → IsLeast ps w → IsLeast (ps ++ p ∷ []) (Some (earlier w p))
least_more ps w p h =
    least_new (Contains ps) (Contains (ps ++ p ∷ [])) w p h (Contains-append_right ps (p ∷ []) p (one_in p))
    (λ q. Contains-append_left ps (p ∷ []) q)
    (λ q k. elim (Contains-append_cases ps (p ∷ []) q k) [ inl a ↦ inl a | inr a ↦ inr (in_one p q a) ])

pub least_same : (ps qs : List Place) (w : Option Place) → ps ≡ qs → IsLeast ps w → IsLeast qs w
least_same ps qs w e h = subst (λ (ps : List Place). IsLeast ps w) e h

pub here_none : (ps : List Place) (o : Op) (p : Place) (b : Bool) (w : Option Place) → (is_infinite o && not b) ≡ false → IsLeast ps w →
    IsLeast (ps ++ infinite_here o p b) w
here_none ps o p b w e h =
    least_same ps (ps ++ infinite_here o p b) w (sym (append-nil ps) ∙ ap (λ c. ps ++ (if c then p ∷ [] else [])) (sym e)) h

pub here_one : (ps : List Place) (o : Op) (p : Place) (b : Bool) (w : Option Place) → (is_infinite o && not b) ≡ true → IsLeast ps w →
    IsLeast (ps ++ infinite_here o p b) (Some (earlier w p))
here_one ps o p b w e h =
    least_same (ps ++ p ∷ []) (ps ++ infinite_here o p b) (Some (earlier w p)) (ap (λ c. ps ++ (if c then p ∷ [] else [])) (sym e))
    (least_more ps w p h)

pub init : (ps : List Place) (e : Expr) (b : Bool) (w : Option Place) →
    IsLeast (ps ++ infinite_here (out-Expr e).op (out-Expr e).place b) w → IsLeast (ps ++ so_far e b []) w
init ps e b w h =
    least_same (ps ++ infinite_here (out-Expr e).op (out-Expr e).place b) (ps ++ so_far e b []) w
    (ap (λ qs. ps ++ qs) (sym (append-nil (infinite_here (out-Expr e).op (out-Expr e).place b)))) h

length_map : (es : List Expr) → length (map infinite_in es) ≡ length es
length_map [] = refl
length_map (e ∷ es) = ap suc (length_map es)

map_end : (es : List Expr) (e : Expr) → map infinite_in (es ++ e ∷ []) ≡ map infinite_in es ++ infinite_in e ∷ []
map_end [] e = refl
map_end (a ∷ es) e = ap (λ ks. infinite_in a ∷ ks) (map_end es e)

so_far_end : (e : Expr) (b : Bool) (es : List Expr) (a : Expr) →
    so_far e b (es ++ a ∷ []) ≡ so_far e b es ++ infinite_in a (form_child (out-Expr e).op (length es) b)
so_far_end e b es a =
    let o = (out-Expr e).op in
    let here = infinite_here o (out-Expr e).place b in
    ap (λ ks. here ++ infinite_below o 0 b ks) (map_end es a)
    ∙ ap (λ qs. here ++ qs) (below_end o b 0 (map infinite_in es) (infinite_in a)
    ∙ ap (λ i. infinite_below o 0 b (map infinite_in es) ++ infinite_in a (form_child o i b)) (let l = length_map es in omega (arith, l)))
    ∙ sym (append_assoc here (infinite_below o 0 b (map infinite_in es)) (infinite_in a (form_child o (length es) b)))

pub step : (ps : List Place) (e : Expr) (b c : Bool) (es : List Expr) (i : ℕ) (a : Expr) (w : Option Place) → i < length es → a ≡ get_or es i a →
    c ≡ form_child (out-Expr e).op i b →
    IsLeast ((ps ++ so_far e b (take i es)) ++ infinite_in a c) w → IsLeast (ps ++ so_far e b (take (i + 1) es)) w
step ps e b c es i a w lt g f h =
    let l : length (take i es) ≡ i = omega (arith, length-take i es, lt) in
    least_same ((ps ++ so_far e b (take i es)) ++ infinite_in a c) (ps ++ so_far e b (take (i + 1) es)) w
    (append_assoc ps (so_far e b (take i es)) (infinite_in a c)
    ∙ ap (λ qs. ps ++ qs)
    (ap (λ c. so_far e b (take i es) ++ infinite_in a c) (f ∙ ap (λ i. form_child (out-Expr e).op i b) (sym l))
    ∙ sym (so_far_end e b (take i es) a)
    ∙ ap (so_far e b) (sym (take_more es i a lt g))))
    h

pub all : (ps : List Place) (e : Expr) (b : Bool) (es : List Expr) (i : ℕ) (w : Option Place) → es ≡ (out-Expr e).args → length es ≤ i →
    IsLeast (ps ++ so_far e b (take i es)) w → IsLeast (ps ++ infinite_in e b) w
all ps e b es i w h le k =
    least_same (ps ++ so_far e b (take i es)) (ps ++ infinite_in e b) w
    (ap (λ qs. ps ++ qs) (ap (so_far e b) (take_all es i le) ∙ so_far_all e b es h)) k

-- ---- trees in order

all_end : (es : List Expr) (e : Expr) → all_infinite (es ++ e ∷ []) ≡ all_infinite es ++ infinite_in e false
all_end [] e = append-nil (infinite_in e false)
all_end (a ∷ es) e = ap (λ qs. infinite_in a false ++ qs) (all_end es e) ∙ sym (append_assoc (infinite_in a false) (all_infinite es) (infinite_in e false))

pub named_end : (vs : List (List ℕ × Expr)) (v : List ℕ × Expr) → map (λ v. v.1) (vs ++ v ∷ []) ≡ map (λ v. v.1) vs ++ v.1 ∷ []
named_end [] v = refl
named_end (a ∷ vs) v = ap (λ (es : List Expr). a.1 ∷ es) (named_end vs v)

pub named_more : (ps : List Place) (vs : List (List ℕ × Expr)) (i : ℕ) (v : List ℕ × Expr) (w : Option Place) → i < length vs → v ≡ get_or vs i v →
    IsLeast ((ps ++ all_infinite (map (λ v. v.1) (take i vs))) ++ infinite_in v.1 false) w →
    IsLeast (ps ++ all_infinite (map (λ v. v.1) (take (i + 1) vs))) w
named_more ps vs i v w lt g h =
    least_same ((ps ++ all_infinite (map (λ v. v.1) (take i vs))) ++ infinite_in v.1 false) (ps ++ all_infinite (map (λ v. v.1) (take (i + 1) vs))) w
    (append_assoc ps (all_infinite (map (λ v. v.1) (take i vs))) (infinite_in v.1 false)
    ∙ ap (λ qs. ps ++ qs)
    (sym (all_end (map (λ v. v.1) (take i vs)) v.1)
    ∙ ap all_infinite (sym (named_end (take i vs) v) ∙ ap (map (λ v. v.1)) (sym (take_more vs i v lt g)))))
    h

pub named_all : (ps : List Place) (vs : List (List ℕ × Expr)) (i : ℕ) (w : Option Place) → length vs ≤ i →
    IsLeast (ps ++ all_infinite (map (λ v. v.1) (take i vs))) w → IsLeast (ps ++ all_infinite (map (λ v. v.1) vs)) w
named_all ps vs i w le h =
    least_same (ps ++ all_infinite (map (λ v. v.1) (take i vs))) (ps ++ all_infinite (map (λ v. v.1) vs)) w
    (ap (λ (vs : List (List ℕ × Expr)). ps ++ all_infinite (map (λ v. v.1) vs)) (take_all vs i le)) h

is_told : (job : Job) (w : Option Place) → IsLeast (infinite_places job) w → IsLeastIfAny job w
is_told job None h = h
is_told job (Some p) h = record { there = h.0; least = h.1 }

five : (a b c d r : List Place) → ((((([] ++ a) ++ b) ++ c) ++ d) ++ r) ≡ a ++ (b ++ (c ++ (d ++ r)))
five a b c d r = append_assoc ((a ++ b) ++ c) d r ∙ append_assoc (a ++ b) c (d ++ r) ∙ append_assoc a b (c ++ (d ++ r))

pub of_job : (job : Job) (vs : List (List ℕ × Expr)) (w : Option Place) → vs ≡ job.invs →
    IsLeast ((((([] ++ infinite_in job.cinit false) ++ infinite_in job.assume false) ++ infinite_in job.init false)
    ++ infinite_in job.next false) ++ all_infinite (map (λ v. v.1) vs)) w → IsLeastIfAny job w
of_job job vs w e h =
    let a : List Place = infinite_in job.cinit false in
    let b : List Place = infinite_in job.assume false in
    let c : List Place = infinite_in job.init false in
    let d : List Place = infinite_in job.next false in
    let r : List Place = all_infinite (map (λ v. v.1) vs) in
    is_told job w (least_same (((((([] ++ a) ++ b) ++ c) ++ d) ++ r)) (infinite_places job) w
    (five a b c d r
    ∙ ap (λ (vs : List (List ℕ × Expr)). a ++ (b ++ (c ++ (d ++ all_infinite (map (λ v. v.1) vs))))) e) h)
