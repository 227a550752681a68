-- A tree that is sound where it stands in no form position is sound in one; and nodes that bind nothing, or numbers that
-- stand for members, are sound in either.
use Rattle.std.proofs.Common.{◌≡◌, ℕ, zero, suc, Bool, true, false, not, ◌&&◌, ◌||◌, List, [], ◌∷◌, ◌++◌, zip, take, drop, length, refl, sym, ◌∙◌, ap, subst, Some, arith}
use Rattle.std.specs.Prelude.{option_map, option_and_then}
use Rattle.std.specs.List.{list_all}
use Rattle.tla_meaning.specs.declared.place.Place.{Place}
use Rattle.tla_meaning.proofs.Views.{and_both}
use Rattle.snowcat_rows.specs.declared.types.Ty.{Ty}
use Rattle.kernel_trees.specs.declared.kernel.Ker.{Ker, out-roll-Ker}
use Rattle.kernel_trees.specs.declared.kernel.Ker.TheOpen.{Ker-F}
use Rattle.kernel_trees.specs.declared.kernel.KerOp.{KerOp}
use Rattle.kernel_trees.specs.declared.kernel.KerOp.TheVariants as ker
use Rattle.kernel_trees.specs.TypeKinds.{Kind, members, kind_of}
use Rattle.kernel_trees.specs.Sound.{kind_at, Context, passes, binder_row, row, is_infinite, form_child, Part, kinds_at, children, plain, binder_body, binder, is_bound, sound_at, sound}
use Rattle.kernel_trees.proofs.SoundNodes.{with_asked, sound-roll}
use Rattle.kernel_trees.proofs.SoundTrees.{Child}
use Rattle.kernel_trees.proofs.SoundWider.{and_mono, passes_mono}
use Rattle.kernel_trees.proofs.Trees.{Each, by_nodes}
use Rattle.kernel_reduction.specs.Rows.{tree}

-- ---- in a form position

form_up : (o : KerOp) (n : ℕ) → form_child o n false ≡ true → form_child o n true ≡ true
form_up ker.Member zero h = h
form_up ker.Member (suc zero) h = h
form_up ker.Member (suc (suc n)) h = h
form_up ker.Included zero h = h
form_up ker.Included (suc zero) h = h
form_up ker.Included (suc (suc n)) h = h
form_up ker.Subsets n h = refl
form_up ker.Functions zero h = h
form_up ker.Functions (suc zero) h = refl
form_up ker.Functions (suc (suc n)) h = h
form_up (ker.RecForm names) n h = refl
form_up ker.TupForm n h = refl
form_up o n h = h

-- what is asked in no form position holds in one
abbrev Up : Part → Type 0
Up p = (c : Context) → p.1 c false ≡ true → p.1 c true ≡ true

part_up : (p : Part) → Up p → (c : Context) (a b : Bool) → (a ≡ true → b ≡ true) → p.1 c a ≡ true → p.1 c b ≡ true
part_up p u c true b h g = subst (λ z. p.1 c z ≡ true) (sym (h refl)) g
part_up p u c false true h g = u c g
part_up p u c false false h g = g

children_up : (o : KerOp) (n : ℕ) (c : Context) (ps : List Part) → Each Up ps → children o n c false ps ≡ true →
    children o n c true ps ≡ true
children_up o n c [] u h = refl
children_up o n c (p ∷ ps) u h =
    and_mono (p.1 c (form_child o n false)) (children o (suc n) c false ps) (p.1 c (form_child o n true))
    (children o (suc n) c true ps) (part_up p u.0 c (form_child o n false) (form_child o n true) (form_up o n))
    (children_up o (suc n) c ps u.1) h

or_up : (a : Bool) → (a || false) ≡ true → (a || true) ≡ true
or_up true h = refl
or_up false h = refl

plain_up : (o : KerOp) (a : Kind) (c : Context) (ps : List Part) → Each Up ps → plain o a c false ps ≡ true →
    plain o a c true ps ≡ true
plain_up o a c ps u h =
    and_mono (passes (row o a) (kinds_at ps) && (not (is_infinite o) || false)) (children o 0 c false ps)
    (passes (row o a) (kinds_at ps) && (not (is_infinite o) || true)) (children o 0 c true ps)
    (and_mono (passes (row o a) (kinds_at ps)) (not (is_infinite o) || false) (passes (row o a) (kinds_at ps))
    (not (is_infinite o) || true) (λ x. x) (or_up (not (is_infinite o)))) (children_up o 0 c ps u) h

at_up : (names : List Kind) (o : KerOp) (a : Kind) (xs : List ℕ) (ps : List Part) → Each Up ps → (c : Context) →
    sound_at names o a xs ps c false ≡ true → sound_at names o a xs ps c true ≡ true
at_up names (ker.Name i primed) a xs [] u c h = h
at_up names (ker.Name i primed) a xs (p ∷ ps) u c h = plain_up (ker.Name i primed) a c (p ∷ ps) u h
at_up names (ker.Bound n) a xs [] u c h = h
at_up names (ker.Bound n) a xs (p ∷ ps) u c h = plain_up (ker.Bound n) a c (p ∷ ps) u h
at_up names ker.Some a xs ps u c h = h
at_up names ker.Every a xs ps u c h = h
at_up names ker.Filter a xs ps u c h = h
at_up names ker.MapOver a xs ps u c h = h
at_up names ker.FunOf a xs ps u c h = h
at_up names ker.Update a xs ps u c h = h
at_up names ker.FoldLeft a xs ps u c h = h
at_up names ker.Range a xs (x ∷ y ∷ l ∷ m ∷ []) u c h =
    and_mono (is_bound c l && is_bound c m) (plain ker.Range a c false (x ∷ y ∷ [])) (is_bound c l && is_bound c m)
    (plain ker.Range a c true (x ∷ y ∷ [])) (λ z. z) (plain_up ker.Range a c (x ∷ y ∷ []) (u.0, (u.1.0, tt))) h
at_up names o a xs ps u c h = plain_up o a c ps u h

module _ (names : List Kind) where
  abbrev Higher : Ker → Type 0
  Higher k = (c : Context) → sound names k c false ≡ true → sound names k c true ≡ true

  parts_up : (ks : List Ker) → Each Higher ks → Each Up (with_asked names ks)
  parts_up [] h = tt
  parts_up (k ∷ ks) h = (h.0, parts_up ks h.1)

  sound_up : (k : Ker) → Higher k
  sound_up = by_nodes Higher (λ x w c h.
      sound-roll names x c true
      ∙ passes_mono (λ a. sound_at names x.op a x.binds (with_asked names x.args) c false)
      (λ a. sound_at names x.op a x.binds (with_asked names x.args) c true) (kind_of x.ty)
      (λ a. at_up names x.op a x.binds (with_asked names x.args) (parts_up x.args w) c)
      (sym (sound-roll names x c false) ∙ h))

  pub anywhere : (c : Context) (b : Bool) (a : Kind) (k : Ker) → Child names c false a k → Child names c b a k
  anywhere c true a k h = (h.0, sound_up k c h.1)
  anywhere c false a k h = h

  -- ---- nodes

  pub made_at : (c : Context) (b : Bool) (p : Place) (t : Ty) (o : KerOp) (ks : List Ker) (xs : List ℕ) (a : Kind) →
      kind_of t ≡ Some a → sound_at names o a xs (with_asked names ks) c b ≡ true → Child names c b a (tree p t o ks xs)
  made_at c b p t o ks xs a q h = (
    ap (λ (x : Ker-F Ker). kind_of x.ty) (out-roll-Ker (record { place = p; ty = t; op = o; args = ks; binds = xs }))
        ∙ q,
    sound-roll names (record { place = p; ty = t; op = o; args = ks; binds = xs }) c b
        ∙ ap (passes (λ a. sound_at names o a xs (with_asked names ks) c b)) q ∙ h,
  )

  -- children from number n on, each in its position
  abbrev pub AllAt : (ℕ → Bool) → ℕ → Context → List Kind → List Ker → Type 0
  AllAt f n c [] [] = Unit {0}
  AllAt f n c [] (k ∷ ks) = ⊥
  AllAt f n c (a ∷ as') [] = ⊥
  AllAt f n c (a ∷ as') (k ∷ ks) = Child names c (f n) a k × AllAt f (suc n) c as' ks

  pub kinds_are : (f : ℕ → Bool) (n : ℕ) (c : Context) (as' : List Kind) (ks : List Ker) → AllAt f n c as' ks →
      kinds_at (with_asked names ks) ≡ Some as'
  kinds_are f n c [] [] h = refl
  kinds_are f n c [] (k ∷ ks) h = absurd h
  kinds_are f n c (a ∷ as') [] h = absurd h
  kinds_are f n c (a ∷ as') (k ∷ ks) h =
      ap (option_and_then (λ x. option_map (λ xs. x ∷ xs) (kinds_at (with_asked names ks)))) h.0.0
      ∙ ap (option_map (λ xs. a ∷ xs)) (kinds_are f (suc n) c as' ks h.1)

  children_are : (o : KerOp) (b : Bool) (n : ℕ) (c : Context) (as' : List Kind) (ks : List Ker) →
      AllAt (λ n. form_child o n b) n c as' ks → children o n c b (with_asked names ks) ≡ true
  children_are o b n c [] [] h = refl
  children_are o b n c [] (k ∷ ks) h = absurd h
  children_are o b n c (a ∷ as') [] h = absurd h
  children_are o b n c (a ∷ as') (k ∷ ks) h =
      and_both (sound names k c (form_child o n b)) (children o (suc n) c b (with_asked names ks)) h.0.1
      (children_are o b (suc n) c as' ks h.1)

  pub plain_at : (c : Context) (b : Bool) (p : Place) (t : Ty) (o : KerOp) (as' : List Kind) (ks : List Ker)
      (xs : List ℕ) (a : Kind) →
      sound_at names o a xs (with_asked names ks) c b ≡ plain o a c b (with_asked names ks) →
      (not (is_infinite o) || b) ≡ true → kind_of t ≡ Some a → row o a as' ≡ true →
      AllAt (λ n. form_child o n b) 0 c as' ks → Child names c b a (tree p t o ks xs)
  plain_at c b p t o as' ks xs a s i q r h =
      made_at c b p t o ks xs a q
      (s
      ∙ and_both (passes (row o a) (kinds_at (with_asked names ks)) && (not (is_infinite o) || b))
      (children o 0 c b (with_asked names ks))
      (and_both (passes (row o a) (kinds_at (with_asked names ks))) (not (is_infinite o) || b)
      (ap (passes (row o a)) (kinds_are (λ n. form_child o n b) 0 c as' ks h) ∙ r) i)
      (children_are o b 0 c as' ks h))

  -- ---- binders

  all_sound : (n : ℕ) (c : Context) (as' : List Kind) (ks : List Ker) → AllAt (λ n. false) n c as' ks →
      list_all (λ (p : Part). p.1 c false) (with_asked names ks) ≡ true
  all_sound n c [] [] h = refl
  all_sound n c [] (k ∷ ks) h = absurd h
  all_sound n c (a ∷ as') [] h = absurd h
  all_sound n c (a ∷ as') (k ∷ ks) h =
      and_both (sound names k c false) (list_all (λ (p : Part). p.1 c false) (with_asked names ks)) h.0.1
      (all_sound (suc n) c as' ks h.1)

  front_of : (ks : List Ker) (e : Ker) (ns : List ℕ) → length ns ≡ length ks →
      (take (length ns) (with_asked names (ks ++ e ∷ [])) ≡ with_asked names ks)
      × (drop (length ns) (with_asked names (ks ++ e ∷ [])) ≡ with_asked names (e ∷ []))
  front_of [] e [] h = (refl, refl)
  front_of [] e (n ∷ ns) h = absurd (some_long (length ns) h)
    where
      some_long : (n : ℕ) → suc n ≡ 0 → ⊥
      some_long n e = omega (arith, e)
  front_of (k ∷ ks) e [] h = absurd (none_long (length ks) h)
    where
      none_long : (n : ℕ) → 0 ≡ suc n → ⊥
      none_long n e = omega (arith, e)
  front_of (k ∷ ks) e (n ∷ ns) h =
      let r = front_of ks e ns (less (length ns) (length ks) h) in
      (ap (λ z. (k, sound names k) ∷ z) r.0, r.1)
    where
      less : (m n : ℕ) → suc m ≡ suc n → m ≡ n
      less m n e = omega (arith, e)

  -- the sets, whose members have these kinds, and the body
  pub binder_at : (c : Context) (p : Place) (t : Ty) (o : KerOp) (as' ms : List Kind) (ks : List Ker) (e : Ker)
      (ns : List ℕ) (a d : Kind) →
      ((ps : List Part) → sound_at names o a ns ps c false ≡ binder o a ns c ps) →
      kind_of t ≡ Some a → length ns ≡ length ks → members as' ≡ Some ms → binder_row o a ms d ≡ true →
      AllAt (λ n. false) 0 c as' ks → Child names (c ++ zip ns ms) false d e →
      Child names c false a (tree p t o (ks ++ e ∷ []) ns)
  binder_at c p t o as' ms ks e ns a d s q l m r h g =
      let f = front_of ks e ns l in
      let B : List Part → List Part → Bool = λ x y.
      list_all (λ (k : Part). k.1 c false) x && passes (binder_body o a ns c y) (option_and_then members (kinds_at x)) in
      made_at c false p t o (ks ++ e ∷ []) ns a q
      (s (with_asked names (ks ++ e ∷ []))
      ∙ (λ i. B (f.0 i) (f.1 i))
      ∙ and_both (list_all (λ (k : Part). k.1 c false) (with_asked names ks))
      (passes (binder_body o a ns c (with_asked names (e ∷ [])))
      (option_and_then members (kinds_at (with_asked names ks))))
      (all_sound 0 c as' ks h)
      (ap (λ z. passes (binder_body o a ns c (with_asked names (e ∷ []))) (option_and_then members z))
      (kinds_are (λ n. false) 0 c as' ks h)
      ∙ ap (passes (binder_body o a ns c (with_asked names (e ∷ [])))) m
      ∙ and_both (passes (binder_row o a ms) (kind_at e)) (sound names e (c ++ zip ns ms) false)
      (ap (passes (binder_row o a ms)) g.0 ∙ r) g.1))
