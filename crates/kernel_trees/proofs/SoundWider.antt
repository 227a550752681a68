-- A tree that is sound in a context is sound in one that says the same of the numbers which that binds.
use Rattle.std.proofs.Common.{◌≡◌, ℕ, zero, suc, Bool, true, false, not, ◌&&◌, ◌||◌, List, [], ◌∷◌, ◌++◌, zip, take, drop, length, refl, sym, ◌∙◌, ap, Option, Some, None, option_and_then, if◌then◌else◌}
use Rattle.std.specs.Prelude.{nat_eq}
use Rattle.std.specs.List.{list_all}
use Rattle.tla_meaning.specs.Scopes.{or_else}
use Rattle.tla_meaning.proofs.Views.{and_left, and_right, and_both, false≢true}
use Rattle.kernel_trees.specs.declared.kernel.Ker.{Ker, out-Ker}
use Rattle.kernel_trees.specs.declared.kernel.KerOp.{KerOp}
use Rattle.kernel_trees.specs.declared.kernel.KerOp.TheVariants as ker
use Rattle.kernel_trees.specs.TypeKinds.{Kind, Number, is_kind, members, kind_of}
use Rattle.kernel_trees.specs.Sound.{kind_at, Context, kind_in, passes, binder_row, row, is_infinite, form_child, Part, kinds_at, children, plain, binder_body, binder, literal_of, updated_kind, update, item_of, fold_left, is_number, is_bound, sound_at, sound}
use Rattle.kernel_trees.proofs.SoundNodes.{with_asked, sound-roll}
use Rattle.kernel_trees.proofs.Trees.{Each, by_nodes}

-- the second says of each number what the first does
abbrev pub Agree : Context → Context → Type 0
Agree c d = (n : ℕ) (a : Kind) → kind_in c n ≡ Some a → kind_in d n ≡ Some a

or_none : {X : Type 0} (o : Option X) → or_else o None ≡ o
or_none None = refl
or_none (Some x) = refl

or_assoc : {X : Type 0} (a b c : Option X) → or_else (or_else a b) c ≡ or_else a (or_else b c)
or_assoc None b c = refl
or_assoc (Some x) b c = refl

pub kind_append : (c z : Context) (n : ℕ) → kind_in (c ++ z) n ≡ or_else (kind_in z n) (kind_in c n)
kind_append [] z n = sym (or_none (kind_in z n))
kind_append (e ∷ c) z n =
    ap (λ o. or_else o (if nat_eq n e.0 then Some e.1 else None)) (kind_append c z n)
    ∙ or_assoc (kind_in z n) (kind_in c n) (if nat_eq n e.0 then Some e.1 else None)

or_agree : {X : Type 0} (z c d : Option X) (a : X) → (c ≡ Some a → d ≡ Some a) → or_else z c ≡ Some a → or_else z d ≡ Some a
or_agree None c d a h e = h e
or_agree (Some x) c d a h e = e

pub agree_more : (c d z : Context) → Agree c d → Agree (c ++ z) (d ++ z)
agree_more c d z h n a e =
    kind_append d z n ∙ or_agree (kind_in z n) (kind_in c n) (kind_in d n) a (h n a) (sym (kind_append c z n) ∙ e)

-- ---- tests

pub and_mono : (a b x y : Bool) → (a ≡ true → x ≡ true) → (b ≡ true → y ≡ true) → (a && b) ≡ true → (x && y) ≡ true
and_mono a b x y f g h = and_both x y (f (and_left a b h)) (g (and_right a b h))

pub passes_mono : {X : Type 0} (f g : X → Bool) (o : Option X) → ((x : X) → f x ≡ true → g x ≡ true) → passes f o ≡ true → passes g o ≡ true
passes_mono f g None m h = h
passes_mono f g (Some x) m h = m x h

-- a part asks the same in such a context
abbrev Mono : Part → Type 0
Mono p = (c d : Context) (b : Bool) → Agree c d → p.1 c b ≡ true → p.1 d b ≡ true

children_mono : (o : KerOp) (n : ℕ) (b : Bool) (ps : List Part) → Each Mono ps → (c d : Context) → Agree c d → children o n c b ps ≡ true → children o n d b ps ≡ true
children_mono o n b [] m c d g h = refl
children_mono o n b (p ∷ ps) m c d g h =
    and_mono (p.1 c (form_child o n b)) (children o (suc n) c b ps) (p.1 d (form_child o n b)) (children o (suc n) d b ps)
    (m.0 c d (form_child o n b) g) (children_mono o (suc n) b ps m.1 c d g) h

all_mono : (ps : List Part) → Each Mono ps → (c d : Context) → Agree c d → list_all (λ (p : Part). p.1 c false) ps ≡ true → list_all (λ (p : Part). p.1 d false) ps ≡ true
all_mono [] m c d g h = refl
all_mono (p ∷ ps) m c d g h =
    and_mono (p.1 c false) (list_all (λ (p : Part). p.1 c false) ps) (p.1 d false) (list_all (λ (p : Part). p.1 d false) ps)
    (m.0 c d false g) (all_mono ps m.1 c d g) h

each_take : (n : ℕ) (ps : List Part) → Each Mono ps → Each Mono (take n ps)
each_take zero ps m = tt
each_take (suc n) [] m = tt
each_take (suc n) (p ∷ ps) m = (m.0, each_take n ps m.1)

each_drop : (n : ℕ) (ps : List Part) → Each Mono ps → Each Mono (drop n ps)
each_drop zero ps m = m
each_drop (suc n) [] m = tt
each_drop (suc n) (p ∷ ps) m = each_drop n ps m.1

plain_mono : (o : KerOp) (a : Kind) (b : Bool) (ps : List Part) → Each Mono ps → (c d : Context) → Agree c d → plain o a c b ps ≡ true → plain o a d b ps ≡ true
plain_mono o a b ps m c d g h =
    let e : Bool = passes (row o a) (kinds_at ps) && (not (is_infinite o) || b) in
    and_mono e (children o 0 c b ps) e (children o 0 d b ps) (λ x. x) (children_mono o 0 b ps m c d g) h

body_mono : (o : KerOp) (a : Kind) (xs : List ℕ) (ps : List Part) (ms : List Kind) → Each Mono ps → (c d : Context) → Agree c d →
    binder_body o a xs c ps ms ≡ true → binder_body o a xs d ps ms ≡ true
body_mono o a xs [] ms m c d g h = h
body_mono o a xs (p ∷ q ∷ ps) ms m c d g h = h
body_mono o a xs (p ∷ []) ms m c d g h =
    let e : Bool = passes (binder_row o a ms) (kind_at p.0) in
    and_mono e (p.1 (c ++ zip xs ms) false) e (p.1 (d ++ zip xs ms) false) (λ x. x) (m.0 (c ++ zip xs ms) (d ++ zip xs ms) false (agree_more c d (zip xs ms) g)) h

binder_mono : (o : KerOp) (a : Kind) (xs : List ℕ) (ps : List Part) → Each Mono ps → (c d : Context) → Agree c d →
    binder o a xs c ps ≡ true → binder o a xs d ps ≡ true
binder_mono o a xs ps m c d g h =
    let front : List Part = take (length xs) ps in
    let rest : List Part = drop (length xs) ps in
    let kinds : Option (List Kind) = option_and_then members (kinds_at front) in
    and_mono (list_all (λ (p : Part). p.1 c false) front) (passes (binder_body o a xs c rest) kinds)
    (list_all (λ (p : Part). p.1 d false) front) (passes (binder_body o a xs d rest) kinds)
    (all_mono front (each_take (length xs) ps m) c d g)
    (passes_mono (binder_body o a xs c rest) (binder_body o a xs d rest) kinds (λ ms. body_mono o a xs rest ms (each_drop (length xs) ps m) c d g)) h

update_mono : (a : Kind) (xs : List ℕ) (ps : List Part) → Each Mono ps → (c d : Context) → Agree c d → update a xs c ps ≡ true → update a xs d ps ≡ true
update_mono a (x ∷ []) (f ∷ i ∷ e ∷ []) m c d g h =
    let j : Bool = is_kind a (kind_at f.0) in
    let old : Option Kind = option_and_then (λ k. updated_kind a k (literal_of (out-Ker i.0).op)) (kind_at i.0) in
    let new : Context → Kind → Bool = λ z b. is_kind b (kind_at e.0) && e.1 (z ++ (x, b) ∷ []) false in
    and_mono (j && (f.1 c false && i.1 c false)) (passes (new c) old) (j && (f.1 d false && i.1 d false)) (passes (new d) old)
    (and_mono j (f.1 c false && i.1 c false) j (f.1 d false && i.1 d false) (λ y. y)
    (and_mono (f.1 c false) (i.1 c false) (f.1 d false) (i.1 d false) (m.0 c d false g) (m.1.0 c d false g)))
    (passes_mono (new c) (new d) old (λ b. and_mono (is_kind b (kind_at e.0)) (e.1 (c ++ (x, b) ∷ []) false) (is_kind b (kind_at e.0)) (e.1 (d ++ (x, b) ∷ []) false)
    (λ y. y) (m.1.1.0 (c ++ (x, b) ∷ []) (d ++ (x, b) ∷ []) false (agree_more c d ((x, b) ∷ []) g)))) h
update_mono a xs ps m c d g h = absurd (false≢true h)

fold_mono : (a : Kind) (xs : List ℕ) (ps : List Part) → Each Mono ps → (c d : Context) → Agree c d → fold_left a xs c ps ≡ true → fold_left a xs d ps ≡ true
fold_mono a (x ∷ y ∷ []) (e ∷ f ∷ q ∷ []) m c d g h =
    let j : Bool = is_kind a (kind_at e.0) && is_kind a (kind_at f.0) in
    let items : Option Kind = option_and_then item_of (kind_at q.0) in
    let body : Context → Kind → Bool = λ z b. e.1 (z ++ (x, a) ∷ (y, b) ∷ []) false in
    and_mono (j && (f.1 c false && q.1 c false)) (passes (body c) items) (j && (f.1 d false && q.1 d false)) (passes (body d) items)
    (and_mono j (f.1 c false && q.1 c false) j (f.1 d false && q.1 d false) (λ y. y)
    (and_mono (f.1 c false) (q.1 c false) (f.1 d false) (q.1 d false) (m.1.0 c d false g) (m.1.1.0 c d false g)))
    (passes_mono (body c) (body d) items (λ b. m.0 (c ++ (x, a) ∷ (y, b) ∷ []) (d ++ (x, a) ∷ (y, b) ∷ []) false (agree_more c d ((x, a) ∷ (y, b) ∷ []) g))) h
fold_mono a xs ps m c d g h = absurd (false≢true h)

bound_mono : (p : Part) → Mono p → (c d : Context) → Agree c d → is_bound c p ≡ true → is_bound d p ≡ true
bound_mono p m c d g h =
    let e : Bool = is_kind Number (kind_at p.0) && is_number (literal_of (out-Ker p.0).op) in
    and_mono e (p.1 c false) e (p.1 d false) (λ x. x) (m c d false g) h

found_mono : (a : Kind) (o q : Option Kind) → ((b : Kind) → o ≡ Some b → q ≡ Some b) → is_kind a o ≡ true → is_kind a q ≡ true
found_mono a None q m h = absurd (false≢true h)
found_mono a (Some b) q m h = ap (is_kind a) (m b refl) ∙ h

at_mono : (names : List Kind) (o : KerOp) (a : Kind) (xs : List ℕ) (b : Bool) (ps : List Part) → Each Mono ps → (c d : Context) → Agree c d →
    sound_at names o a xs ps c b ≡ true → sound_at names o a xs ps d b ≡ true
at_mono names (ker.Name i primed) a xs b [] m c d g h = h
at_mono names (ker.Bound n) a xs b [] m c d g h = found_mono a (kind_in c n) (kind_in d n) (g n) h
at_mono names ker.Some a xs b ps m c d g h = binder_mono ker.Some a xs ps m c d g h
at_mono names ker.Every a xs b ps m c d g h = binder_mono ker.Every a xs ps m c d g h
at_mono names ker.Filter a xs b ps m c d g h = binder_mono ker.Filter a xs ps m c d g h
at_mono names ker.MapOver a xs b ps m c d g h = binder_mono ker.MapOver a xs ps m c d g h
at_mono names ker.FunOf a xs b ps m c d g h = binder_mono ker.FunOf a xs ps m c d g h
at_mono names ker.Update a xs b ps m c d g h = update_mono a xs ps m c d g h
at_mono names ker.FoldLeft a xs b ps m c d g h = fold_mono a xs ps m c d g h
at_mono names ker.Range a xs b (x ∷ y ∷ l ∷ u ∷ []) m c d g h =
    and_mono (is_bound c l && is_bound c u) (plain ker.Range a c b (x ∷ y ∷ [])) (is_bound d l && is_bound d u) (plain ker.Range a d b (x ∷ y ∷ []))
    (and_mono (is_bound c l) (is_bound c u) (is_bound d l) (is_bound d u) (bound_mono l m.1.1.0 c d g) (bound_mono u m.1.1.1.0 c d g))
    (plain_mono ker.Range a b (x ∷ y ∷ []) (m.0, (m.1.0, tt)) c d g) h
at_mono names o a xs b ps m c d g h = plain_mono o a b ps m c d g h

module _ (names : List Kind) where
  abbrev Wider : Ker → Type 0
  Wider k = (c d : Context) (b : Bool) → Agree c d → sound names k c b ≡ true → sound names k d b ≡ true

  parts_mono : (ks : List Ker) → Each Wider ks → Each Mono (with_asked names ks)
  parts_mono [] h = tt
  parts_mono (k ∷ ks) h = (h.0, parts_mono ks h.1)

  pub sound_wider : (k : Ker) → Wider k
  sound_wider = by_nodes Wider (λ x w c d b g h.
      sound-roll names x d b
      ∙ passes_mono (λ a. sound_at names x.op a x.binds (with_asked names x.args) c b) (λ a. sound_at names x.op a x.binds (with_asked names x.args) d b) (kind_of x.ty)
      (λ a. at_mono names x.op a x.binds b (with_asked names x.args) (parts_mono x.args w) c d g) (sym (sound-roll names x c b) ∙ h))
