-- Frames that grow, and what stands at a frame.
use Rattle.std.proofs.Common.{◌≡◌, ◌≤◌, ◌<◌, ℕ, zero, suc, ◌+◌, ◌-◌, Bool, true, false, List, [], ◌∷◌, ◌++◌, fold, get_or, length, map, min, take, drop, zip, Bor, Some, None, if◌then◌else◌, arith, refl, ap, ap₂, ◌∙◌, sym}
use Rattle.std.proofs.lemmas.Grind.{fold-append}
use Rattle.std.proofs.lemmas.List.{append-nil, append_assoc, drop-drop, drop_all, drop_min, drop_more, length-drop, take-append-drop, take_min}
use Rattle.tla_meaning.specs.declared.expr.Def.{Def}
use Rattle.tla_meaning.specs.declared.expr.Expr.{Expr}
use Rattle.tla_meaning.specs.Scopes.{find_last, or_else, same_text}
use Rattle.tla_meaning.proofs.Laws.{find-append}
use Rattle.op_inliner.proofs.GivenBack.{same_is}
use Rattle.op_inliner.specs.declared.frames.Frame.{Frame}
use Rattle.op_inliner.specs.declared.frames.Stands.{Stands}
use Rattle.op_inliner.specs.declared.frames.Stands.TheVariants as stands
use Rattle.op_inliner.specs.Annotations.{body_of}
use Rattle.op_inliner.specs.Inlining.{Names, Tree, bind_names, define_name, let_names, level_name, level_names, no_names, pass_names, trees, with_names, written}
use Rattle.op_inliner.specs.inner.Bodies.{bodies_of}
use Rattle.op_inliner.specs.inner.Frames.{Grown, Opens, all_names, closed, deeper, names_at, names_in, one_frame, with_frame, with_one}

-- ---- lists of names

length_more : {A : Type 0} (xs : List A) (x : A) → length (xs ++ x ∷ []) ≡ suc (length xs)
length_more [] x = refl
length_more (y ∷ xs) x = ap suc (length_more xs x)

get_front : {A : Type 0} (xs ys : List A) (i : ℕ) (d : A) → i < length xs → get_or (xs ++ ys) i d ≡ get_or xs i d
get_front [] ys i d h = absurd (omega (arith, h))
get_front (x ∷ xs) ys zero d h = refl
get_front (x ∷ xs) ys (suc i) d h = get_front xs ys i d (omega (arith, h))

get_last : {A : Type 0} (xs : List A) (x d : A) (i : ℕ) → i ≡ length xs → get_or (xs ++ x ∷ []) i d ≡ x
get_last [] x d i e = ap (λ k. get_or (x ∷ []) k d) e
get_last (y ∷ xs) x d zero e = absurd (omega (arith, e))
get_last (y ∷ xs) x d (suc i) e = get_last xs x d i (omega (arith, e))

abbrev on : List Names → List Frame → List Names
on es fs = fold one_frame es fs

length_on : (fs : List Frame) (es : List Names) → length (on es fs) ≡ length fs + length es
length_on [] es = omega arith
length_on (f ∷ fs) es = let k = length_on fs (one_frame es f) in let l = length_more es (with_frame es f) in omega (arith, k, l)

on_front : (fs : List Frame) (es : List Names) (i : ℕ) → i < length es → names_in (on es fs) i ≡ names_in es i
on_front [] es i h = refl
on_front (f ∷ fs) es i h =
    let l = length_more es (with_frame es f) in
    on_front fs (one_frame es f) i (omega (arith, h, l)) ∙ get_front es (with_frame es f ∷ []) i no_names h

length_all : (fs : List Frame) → length (all_names fs) ≡ suc (length fs)
unfolding all_names
length_all fs = let k = length_on fs (no_names ∷ []) in omega (arith, k)

all_more : (fs gs : List Frame) → all_names (fs ++ gs) ≡ on (all_names fs) gs
unfolding all_names
all_more fs gs = fold-append one_frame (no_names ∷ []) fs gs

-- a scope keeps its names when frames are added
pub names_stay : (fs gs : List Frame) (s : ℕ) → s ≤ length fs → names_at (fs ++ gs) s ≡ names_at fs s
names_stay fs gs s h =
    let k = length_all fs in
    ap (λ es. names_in es s) (all_more fs gs) ∙ on_front gs (all_names fs) s (omega (arith, h, k))

pub names_zero : (fs : List Frame) → names_at fs 0 ≡ no_names
unfolding all_names
names_zero fs = names_stay [] fs 0 (omega arith)

-- ---- growing

pub grown_same : (fs : List Frame) → Grown fs fs
grown_same fs = record { rest = []; is = sym (append-nil fs) }

pub grown_more : (fs gs hs : List Frame) → Grown fs gs → Grown gs hs → Grown fs hs
grown_more fs gs hs g h = record { rest = g.rest ++ h.rest; is = h.is ∙ ap (λ xs. xs ++ h.rest) g.is ∙ append_assoc fs g.rest h.rest }

pub grown_names : (fs gs : List Frame) (s : ℕ) → Grown fs gs → s ≤ length fs → names_at gs s ≡ names_at fs s
grown_names fs gs s g h = ap (λ xs. names_at xs s) g.is ∙ names_stay fs g.rest s h

length_two : {A : Type 0} (xs ys : List A) → length (xs ++ ys) ≡ length xs + length ys
length_two [] ys = omega arith
length_two (x ∷ xs) ys = let k = length_two xs ys in omega (arith, k)

pub grown_length : (fs gs : List Frame) → Grown fs gs → length fs ≤ length gs
grown_length fs gs g = let k = length_two fs g.rest in let l = ap length g.is in omega (arith, k, l)

take_front : {A : Type 0} (xs ys : List A) → take (length xs) (xs ++ ys) ≡ xs
take_front [] ys = refl
take_front (x ∷ xs) ys = ap (λ zs. x ∷ zs) (take_front xs ys)

pub grown_cut : (fs gs : List Frame) (n : ℕ) → Grown fs gs → n ≡ length fs → take n gs ≡ fs
grown_cut fs gs n g e = ap₂ (λ k xs. take k xs) e g.is ∙ take_front fs g.rest

-- ---- one frame more

names_last : (fs : List Frame) (f : Frame) (s : ℕ) → s ≡ suc (length fs) →
    names_at (fs ++ f ∷ []) s ≡ with_one f.name.now f.stands (names_at fs (length fs - f.skipped)) (names_at fs (length fs - deeper f.stands))
names_last fs f s e =
    let k = length_all fs in
    let n : length (all_names fs) - 1 ≡ length fs = omega (arith, k) in
    ap (λ es. names_in es s) (all_more fs (f ∷ []))
    ∙ get_last (all_names fs) (with_frame (all_names fs) f) no_names s (omega (arith, e, k))
    ∙ ap (λ n. with_one f.name.now f.stands (names_at fs (n - f.skipped)) (names_at fs (n - deeper f.stands))) n

pub one_opens : (fs gs : List Frame) (f : Frame) (s n : ℕ) (ns : Names) → gs ≡ fs ++ f ∷ [] → n ≡ length fs → s ≡ length gs →
    with_one f.name.now f.stands (names_at fs (n - f.skipped)) (names_at fs (n - deeper f.stands)) ≡ ns → Opens fs gs s ns
one_opens fs gs f s n ns e l m h =
    let k = length_more fs f in
    let j = ap length e in
    record {
      grown = record { rest = f ∷ []; is = e };
      within = omega (arith, m);
      names = ap (λ xs. names_at xs s) e ∙ names_last fs f s (omega (arith, m, k, j))
          ∙ ap (λ n. with_one f.name.now f.stands (names_at fs (n - f.skipped)) (names_at fs (n - deeper f.stands))) (sym l) ∙ h;
    }

-- the scope of which a frame was told the distance
pub back_again : (n s : ℕ) → s ≤ n → n - (n - s) ≡ s
back_again n s h = omega (arith, h)

-- ---- a frame that stands there

frame_at : (fs : List Frame) (es : List Names) (i : ℕ) (f : Frame) → i < length fs → f ≡ get_or fs i f →
    names_in (on es fs) (i + length es) ≡ with_frame (on es (take i fs)) f
frame_at [] es i f h e = absurd (omega (arith, h))
frame_at (g ∷ fs) es zero f h e =
    let l = length_more es (with_frame es g) in
    on_front fs (one_frame es g) (0 + length es) (omega (arith, l))
    ∙ get_last es (with_frame es g) no_names (0 + length es) (omega arith)
    ∙ ap (with_frame es) (sym e)
frame_at (g ∷ fs) es (suc i) f h e =
    let l = length_more es (with_frame es g) in
    let m : suc i + length es ≡ i + length (one_frame es g) = omega (arith, l) in
    ap (names_in (on (one_frame es g) fs)) m ∙ frame_at fs (one_frame es g) i f (omega (arith, h)) e

-- the names at a frame that stands there
pub names_of_frame : (fs : List Frame) (i : ℕ) (f : Frame) → i < length fs → f ≡ get_or fs i f →
    names_at fs (suc i) ≡ with_one f.name.now f.stands (names_at fs (i - f.skipped)) (names_at fs (i - deeper f.stands))
unfolding all_names
names_of_frame fs i f h e =
    let gs : List Frame = take i fs in
    let k = length_all gs in
    let t : length gs ≡ i = omega (arith, h, length_taken fs i) in
    let n : length (all_names gs) - 1 ≡ i = omega (arith, k, t) in
    let m : suc i ≡ i + 1 = omega arith in
    ap (λ s. names_at fs s) m
    ∙ frame_at fs (no_names ∷ []) i f h e
    ∙ ap (λ n. with_one f.name.now f.stands (names_at gs (n - f.skipped)) (names_at gs (n - deeper f.stands))) n
    ∙ ap₂ (λ (a b : Names). with_one f.name.now f.stands a b) (stay (i - f.skipped) (omega (arith, t))) (stay (i - deeper f.stands) (omega (arith, t)))
  where
    length_taken : {A : Type 0} (xs : List A) (i : ℕ) → i ≤ length xs → length (take i xs) ≡ i
    length_taken xs zero h = refl
    length_taken [] (suc i) h = absurd (omega (arith, h))
    length_taken (x ∷ xs) (suc i) h = ap suc (length_taken xs i (omega (arith, h)))

    stay : (s : ℕ) → s ≤ length (take i fs) → names_at (take i fs) s ≡ names_at fs s
    stay s l = sym (names_stay (take i fs) (drop i fs) s l) ∙ ap (λ xs. names_at xs s) (take-append-drop i fs)

-- ---- frames that are added one by one

-- what is added so far leads to these names by what is left
pub record Opening (before now : List Frame) (s : ℕ) (left : Names → Names) (goal : Names) : Type 0 where
  pub grown : Grown before now
  pub within : s ≤ length now
  pub leads : left (names_at now s) ≡ goal

pub opening_begun : (fs : List Frame) (s : ℕ) (left : Names → Names) → s ≤ length fs → Opening fs fs s left (left (names_at fs s))
opening_begun fs s left h = record { grown = grown_same fs; within = h; leads = refl }

pub opening_step : (before now new : List Frame) (s t : ℕ) (left more : Names → Names) (goal ms : Names) → Opening before now s left goal →
    Opens now new t ms → left (names_at now s) ≡ more ms → Opening before new t more goal
opening_step before now new s t left more goal ms o p e = record {
  grown = grown_more before now new o.grown p.grown;
  within = p.within;
  leads = ap more p.names ∙ sym e ∙ o.leads;
}

pub opening_done : (before now : List Frame) (s : ℕ) (left : Names → Names) (goal : Names) → Opening before now s left goal →
    left (names_at now s) ≡ names_at now s → Opens before now s goal
opening_done before now s left goal o e = record { grown = o.grown; within = o.within; names = sym e ∙ o.leads }

pub bind_none : (n : ℕ) (ns : Names) → bind_names n [] ns ≡ ns
bind_none n ns = λ i. record { bound = append-nil ns.bound i; named = ns.named }

pub bind_more : (n : ℕ) (x : List ℕ) (xs : List (List ℕ)) (ns : Names) → bind_names n (x ∷ xs) ns ≡ bind_names n xs (bind_names n (x ∷ []) ns)
bind_more n x xs ns = λ i. record { bound = sym (append_assoc ns.bound ((x, level_name n x) ∷ []) (zip xs (level_names n xs))) i; named = ns.named }

pub pass_none : (ts : List Tree) (ns : Names) → pass_names [] ts ns ≡ ns
pass_none ts ns = λ i. record { bound = ns.bound; named = append-nil ns.named i }

pub pass_nothing : (xs : List (List ℕ)) (ns : Names) → pass_names xs [] ns ≡ ns
pass_nothing [] ns = pass_none [] ns
pass_nothing (x ∷ xs) ns = λ i. record { bound = ns.bound; named = append-nil ns.named i }

pub closed_argument : (e : Expr) (ns : Names) → closed [] e ns ≡ (λ _. written e ns)
closed_argument e ns = λ i as'. written e (pass_none as' ns i)

pub pass_more : (x : List ℕ) (xs : List (List ℕ)) (t : Tree) (ts : List Tree) (ns : Names) →
    pass_names (x ∷ xs) (t ∷ ts) ns ≡ pass_names xs ts (define_name x (λ _. t) ns)
pass_more x xs t ts ns = λ i. record { bound = ns.bound; named = sym (append_assoc ns.named ((x, λ _. t) ∷ []) (zip xs (map (λ a. λ _. a) ts))) i }

pub let_none : (ds : List (List ℕ × ℕ)) (xs : List (List ℕ)) (ns : Names) → let_names ds xs [] ns ≡ ns
let_none [] xs ns = refl
let_none (d ∷ ds) xs ns = refl

-- ---- steps of the loops

pub pass_step : (ps : List (List ℕ)) (es : List Expr) (i here s t : ℕ) (before now new : List Frame) (p : List ℕ) (e : Expr) (goal : Names) →
    i < length ps → i < length es → p ≡ get_or ps i p → e ≡ get_or es i e → here ≤ length before →
    Opening before now s (pass_names (drop i ps) (trees (map written (drop i es)) (names_at before here))) goal →
    Opens now new t (define_name p (closed [] e (names_at now here)) (names_at now s)) →
    Opening before new t (pass_names (drop (i + 1) ps) (trees (map written (drop (i + 1) es)) (names_at before here))) goal
pass_step ps es i here s t before now new p e goal h k pe ee w o q =
    let hs : Names = names_at before here in
    let ns : Names = names_at now s in
    let qs : List (List ℕ) = drop (i + 1) ps in
    let ts : List Tree = trees (map written (drop (i + 1) es)) hs in
    opening_step before now new s t (pass_names (drop i ps) (trees (map written (drop i es)) hs)) (pass_names qs ts) goal
    (define_name p (closed [] e (names_at now here)) ns) o q
    (ap₂ (λ (xs : List (List ℕ)) (fs : List Expr). pass_names xs (trees (map written fs) hs) ns)
    (drop_more ps i p h ∙ ap (λ (x : List ℕ). x ∷ qs) (sym pe)) (drop_more es i e k ∙ ap (λ (x : Expr). x ∷ drop (i + 1) es) (sym ee))
    ∙ pass_more p qs (written e hs) ts ns
    ∙ ap (λ (d : List Tree → Tree). pass_names qs ts (define_name p d ns)) (sym (closed_argument e hs) ∙ ap (closed [] e) (sym (grown_names before now here o.grown w))))

pub pass_end : (ps : List (List ℕ)) (es : List Expr) (i here s : ℕ) (before now : List Frame) (goal : Names) → length es ≤ i →
    Opening before now s (pass_names (drop i ps) (trees (map written (drop i es)) (names_at before here))) goal → Opens before now s goal
pass_end ps es i here s before now goal h o =
    opening_done before now s _ goal o
    (ap (λ (fs : List Expr). pass_names (drop i ps) (trees (map written fs) (names_at before here)) (names_at now s)) (drop_all i es h) ∙ pass_nothing (drop i ps) (names_at now s))

pub let_step : (ds : List (List ℕ × ℕ)) (xs : List (List ℕ)) (es : List Expr) (i first k s t : ℕ) (before now new : List Frame) (d : List ℕ × ℕ) (e : Expr) (ps : List (List ℕ)) (goal : Names) →
    i < length ds → i < length es → d ≡ get_or ds i d → e ≡ get_or es i e → k ≡ min d.1 (length xs - first) → ps ≡ take ((first + k) - first) (drop first xs) →
    Opening before now s (let_names (drop i ds) (drop first xs) (map written (drop i es))) goal →
    Opens now new t (define_name d.0 (closed ps e (names_at now s)) (names_at now s)) →
    Opening before new t (let_names (drop (i + 1) ds) (drop (first + k) xs) (map written (drop (i + 1) es))) goal
let_step ds xs es i first k s t before now new d e ps goal h j de ee km pe o q =
    let ns : Names = names_at now s in
    let ys : List (List ℕ) = drop first xs in
    let m : (first + k) - first ≡ k = omega arith in
    let l : min d.1 (length ys) ≡ k = ap (min d.1) (length-drop first xs) ∙ sym km in
    let p : ps ≡ take d.1 ys = pe ∙ ap (λ n. take n ys) (m ∙ sym l) ∙ take_min d.1 ys in
    let r : drop (first + k) xs ≡ drop d.1 ys = sym (drop-drop k first xs) ∙ ap (λ n. drop n ys) (sym l) ∙ drop_min d.1 ys in
    opening_step before now new s t (let_names (drop i ds) ys (map written (drop i es))) (let_names (drop (i + 1) ds) (drop (first + k) xs) (map written (drop (i + 1) es))) goal
    (define_name d.0 (closed ps e ns) ns) o q
    (ap₂ (λ (cs : List (List ℕ × ℕ)) (fs : List Expr). let_names cs ys (map written fs) ns)
    (drop_more ds i d h ∙ ap (λ (x : List ℕ × ℕ). x ∷ drop (i + 1) ds) (sym de)) (drop_more es i e j ∙ ap (λ (x : Expr). x ∷ drop (i + 1) es) (sym ee))
    ∙ ap₂ (λ (zs qs : List (List ℕ)). let_names (drop (i + 1) ds) zs (map written (drop (i + 1) es)) (define_name d.0 (closed qs e ns) ns)) (sym r) (sym p))

pub let_end : (ds : List (List ℕ × ℕ)) (xs : List (List ℕ)) (es : List Expr) (i first s : ℕ) (before now : List Frame) (goal : Names) → length es ≤ i →
    Opening before now s (let_names (drop i ds) (drop first xs) (map written (drop i es))) goal → Opens before now s goal
let_end ds xs es i first s before now goal h o =
    opening_done before now s _ goal o
    (ap (λ (fs : List Expr). let_names (drop i ds) (drop first xs) (map written fs) (names_at now s)) (drop_all i es h) ∙ let_none (drop i ds) (drop first xs) (names_at now s))

body_at : (ds : List Def) (i : ℕ) (d : Def) (b : Expr) → i < length ds → d ≡ get_or ds i d → b ≡ get_or (map body_of ds) i b → b ≡ body_of d
body_at [] i d b h e f = absurd (omega (arith, h))
body_at (d ∷ ds) zero e b h p q = q ∙ ap body_of (sym p)
body_at (d ∷ ds) (suc i) e b h p q = body_at ds i e b (omega (arith, h)) p q

pub defs_step : (ds : List Def) (bs : List Expr) (i s t : ℕ) (before now new : List Frame) (d : Def) (b : Expr) (ps : List (List ℕ)) (goal : Names) → bs ≡ bodies_of ds → i < length ds →
    d ≡ get_or ds i d → b ≡ get_or bs i b → ps ≡ d.params → Opening before now s (with_names (drop i ds)) goal →
    Opens now new t (define_name d.name (closed ps b (names_at now s)) (names_at now s)) → Opening before new t (with_names (drop (i + 1) ds)) goal
defs_step ds bs i s t before now new d b ps goal e h de be pe o q =
    let ns : Names = names_at now s in
    opening_step before now new s t (with_names (drop i ds)) (with_names (drop (i + 1) ds)) goal (define_name d.name (closed ps b ns) ns) o q
    (ap (λ (cs : List Def). with_names cs ns) (drop_more ds i d h ∙ ap (λ (x : Def). x ∷ drop (i + 1) ds) (sym de))
    ∙ ap₂ (λ (xs : List (List ℕ)) (f : Expr). with_names (drop (i + 1) ds) (define_name d.name (closed xs f ns) ns)) (sym pe)
    (sym (body_at ds i d b h de (be ∙ ap (λ (es : List Expr). get_or es i b) e))))

pub defs_begun : (ds : List Def) (fs : List Frame) → Opening fs fs 0 (with_names ds) (with_names ds no_names)
defs_begun ds fs = record { grown = grown_same fs; within = omega arith; leads = ap (with_names ds) (names_zero fs) }

-- ---- looking names up

pub last_hit : {X : Type 0} (z x : List ℕ) (d : X) (es : List (List ℕ × X)) → same_text z x ≡ true → find_last z (es ++ (x, d) ∷ []) ≡ Some d
last_hit z x d es h = find-append z es ((x, d) ∷ []) ∙ ap (λ (b : Bool). or_else (if b then Some d else None) (find_last z es)) h

pub last_miss : {X : Type 0} (z x : List ℕ) (d : X) (es : List (List ℕ × X)) → same_text z x ≡ false → find_last z (es ++ (x, d) ∷ []) ≡ find_last z es
last_miss z x d es h = find-append z es ((x, d) ∷ []) ∙ ap (λ (b : Bool). or_else (if b then Some d else None) (find_last z es)) h

module _ (fs : List Frame) (s : ℕ) (f : Frame) (z : List ℕ) (more : 0 < s) (within : s ≤ length fs) (at : f ≡ get_or fs (s - 1) f) where
  abbrev before_it : Names
  before_it = names_at fs ((s - 1) - f.skipped)

  here : names_at fs s ≡ with_one f.name.now f.stands before_it (names_at fs ((s - 1) - deeper f.stands))
  here =
      let up : s ≡ suc (s - 1) = omega (arith, more) in
      ap (names_at fs) up ∙ names_of_frame fs (s - 1) f (omega (arith, more, within)) at

  standing : (st : Stands) → f.stands ≡ st → names_at fs s ≡ with_one f.name.now st before_it (names_at fs ((s - 1) - deeper st))
  standing st e = here ∙ ap (λ (st : Stands). with_one f.name.now st before_it (names_at fs ((s - 1) - deeper st))) e

  pub tree_hit : (ps : Bor (List (List ℕ))) (e : Bor Expr) (k : ℕ) → f.stands ≡ stands.Tree ps e k → same_text z f.name.now ≡ true →
      find_last z (names_at fs s).named ≡ Some (closed ps.now e.now (names_at fs ((s - 1) - k)))
  tree_hit ps e k h t = ap (λ (ns : Names). find_last z ns.named) (standing (stands.Tree ps e k) h) ∙ last_hit z f.name.now (closed ps.now e.now (names_at fs ((s - 1) - k))) before_it.named t

  pub tree_miss : (ps : Bor (List (List ℕ))) (e : Bor Expr) (k : ℕ) → f.stands ≡ stands.Tree ps e k → same_text z f.name.now ≡ false →
      find_last z (names_at fs s).named ≡ find_last z (names_at fs ((s - 1) - f.skipped)).named
  tree_miss ps e k h t = ap (λ (ns : Names). find_last z ns.named) (standing (stands.Tree ps e k) h) ∙ last_miss z f.name.now (closed ps.now e.now (names_at fs ((s - 1) - k))) before_it.named t

  no_tree : (st : Stands) → f.stands ≡ st → ((ps : Bor (List (List ℕ))) (e : Bor Expr) (k : ℕ) → st ≡ stands.Tree ps e k → ⊥) →
      find_last z (names_at fs s).named ≡ find_last z (names_at fs ((s - 1) - f.skipped)).named
  no_tree (stands.Bound n) h t = ap (λ (ns : Names). find_last z ns.named) (standing (stands.Bound n) h)
  no_tree (stands.Tree ps e k) h t = absurd (t ps e k refl)

  pub tree_passed : ((ps : Bor (List (List ℕ))) (e : Bor Expr) (k : ℕ) → f.stands ≡ stands.Tree ps e k → ⊥) →
      find_last z (names_at fs s).named ≡ find_last z (names_at fs ((s - 1) - f.skipped)).named
  tree_passed t = no_tree f.stands refl t

  pub level_hit : (n : ℕ) → f.stands ≡ stands.Bound n → same_text z f.name.now ≡ true → find_last z (names_at fs s).bound ≡ Some (level_name n z)
  level_hit n h t =
      ap (λ (ns : Names). find_last z ns.bound) (standing (stands.Bound n) h) ∙ last_hit z f.name.now (level_name n f.name.now) before_it.bound t
      ∙ ap (λ x. Some (level_name n x)) (sym (same_is z f.name.now t))

  pub level_miss : (n : ℕ) → f.stands ≡ stands.Bound n → same_text z f.name.now ≡ false →
      find_last z (names_at fs s).bound ≡ find_last z (names_at fs ((s - 1) - f.skipped)).bound
  level_miss n h t = ap (λ (ns : Names). find_last z ns.bound) (standing (stands.Bound n) h) ∙ last_miss z f.name.now (level_name n f.name.now) before_it.bound t

  no_level : (st : Stands) → f.stands ≡ st → ((n : ℕ) → st ≡ stands.Bound n → ⊥) →
      find_last z (names_at fs s).bound ≡ find_last z (names_at fs ((s - 1) - f.skipped)).bound
  no_level (stands.Bound n) h t = absurd (t n refl)
  no_level (stands.Tree ps e k) h t = ap (λ (ns : Names). find_last z ns.bound) (standing (stands.Tree ps e k) h)

  pub level_passed : ((n : ℕ) → f.stands ≡ stands.Bound n → ⊥) → find_last z (names_at fs s).bound ≡ find_last z (names_at fs ((s - 1) - f.skipped)).bound
  level_passed t = no_level f.stands refl t
