-- What levels begin with and what they give.
use Rattle.std.proofs.Common.{◌≡◌, ℕ, zero, suc, ◌+◌, ◌<◌, ◌≤◌, Bool, true, false, List, [], ◌∷◌, ◌++◌, map, take, length, get_or, Option, Some, None, option_map, refl, sym, ◌∙◌, ap, ap₂, subst, arith, if◌then◌else◌}
use Rattle.kernel_trees.specs.declared.kernel.Ker.{Ker}
use Rattle.kernel_trees.specs.declared.path.Assigned.{Assigned}
use Rattle.kernel_trees.specs.declared.system.System.{System}
use Rattle.kernel_shapes.specs.declared.bounds.Shape.{Shape as Code}
use Rattle.kernel_shapes.specs.Codes.{mean}
use Rattle.kernel_shapes.specs.Counts.{Count, Rank, either_rank, first_rank}
use Rattle.kernel_shapes.specs.Kernel.{ker_sized}
use Rattle.kernel_shapes.specs.Levels.{Parts, Path, after_paths, at_state, constant_shapes, from_state, in_next, in_state, invariant_numbers, kept_constants, no_names, numbers_of, the_constants, typed_numbers}
use Rattle.kernel_shapes.specs.Shape.{Shape}
use Rattle.kernel_shapes.specs.Sized.{Extent, Sizing, counts_of, walked}
use Rattle.kernel_shapes.specs.Systems.{sized_paths, system_parts}
use Rattle.kernel_shapes.proofs.Refusals.{rank_append}
use Rattle.shape_bounds.specs.declared.levels.Level.{Level}
use Rattle.shape_bounds.specs.declared.limits.Excess.{Excess}
use Rattle.shape_bounds.specs.declared.names.Names.{Names}
use Rattle.shape_bounds.specs.Excesses.{rank_of}
use Rattle.shape_bounds.specs.Extents.{given_shape, given_shapes}
use Rattle.shape_bounds.specs.inner.Stage.{ConstantsAre, IsBefore, IsFirst, IsFirstAt, IsNamed, StartsAt, StepsTo}
use Rattle.shape_bounds.specs.inner.Turns.{IsLevel}
use Rattle.shape_bounds.specs.inner.Walks.{some_shapes}
use Rattle.shape_bounds.specs.Kept.{capped}
use Rattle.shape_bounds.specs.Sizes.{Reads, Sizes, SizesEach, all_at, bound_name, kept_name}
use Rattle.shape_bounds.proofs.Composing.{reads_same}
use Rattle.shape_bounds.proofs.Ending.{all_taken, mapped_end, mapped_next}

-- ---- lists of names

abbrev pub some_mean : Code → Option Shape
some_mean s = Some (mean s)

pub some_more : (ss : List Code) (n : ℕ) (x s : Code) (got new : List (Option Code)) → some_shapes got ≡ map some_mean (take n ss) → n < length ss → x ≡ get_or ss n x → s ≡ x →
    new ≡ got ++ Some s ∷ [] → some_shapes new ≡ map some_mean (take (n + 1) ss)
some_more ss n x s got new h l e m f =
    let one : suc n ≡ n + 1 = omega arith in
    ap some_shapes f ∙ mapped_end (option_map mean) got (Some s) ∙ ap₂ (λ (as' : List (Option Shape)) (y : Code). as' ++ some_mean y ∷ []) h m ∙ mapped_next some_mean ss n x l e ∙ ap (λ (i : ℕ). map some_mean (take i ss)) one

pub some_whole : (ss : List Code) (n : ℕ) (got : List (Option Code)) → some_shapes got ≡ map some_mean (take n ss) → length ss ≤ n → some_shapes got ≡ map (λ a. Some a) (map mean ss)
some_whole ss n got h l = h ∙ ap (map some_mean) (all_taken ss n l) ∙ by ss
  where
    by : (xs : List Code) → map some_mean xs ≡ map (λ a. Some a) (map mean xs)
    by [] = refl
    by (x ∷ xs) = ap (λ (as' : List (Option Shape)). some_mean x ∷ as') (by xs)

-- names of which some have none
abbrev pub given_mean : Code → Option Shape
given_mean s = given_shape (mean s)

pub given_more : (ss : List Code) (n : ℕ) (x : Code) (o : Option Code) (got new : List (Option Code)) → some_shapes got ≡ map given_mean (take n ss) → n < length ss → x ≡ get_or ss n x →
    option_map mean o ≡ given_mean x → new ≡ got ++ o ∷ [] → some_shapes new ≡ map given_mean (take (n + 1) ss)
given_more ss n x o got new h l e m f =
    let one : suc n ≡ n + 1 = omega arith in
    ap some_shapes f ∙ mapped_end (option_map mean) got o ∙ ap₂ (λ (as' : List (Option Shape)) (a : Option Shape). as' ++ a ∷ []) h m ∙ mapped_next given_mean ss n x l e ∙ ap (λ (i : ℕ). map given_mean (take i ss)) one

pub given_whole : (ss : List Code) (n : ℕ) (got : List (Option Code)) → some_shapes got ≡ map given_mean (take n ss) → length ss ≤ n → some_shapes got ≡ given_shapes ss
given_whole ss n got h l = h ∙ ap (map given_mean) (all_taken ss n l) ∙ by ss
  where
    by : (xs : List Code) → map given_mean xs ≡ given_shapes xs
    by [] = refl
    by (x ∷ xs) = ap (λ (as' : List (Option Shape)). given_mean x ∷ as') (by xs)

abbrev pub constant_shape : Bool → Shape → Option Shape
constant_shape b a = if b then Some a else None

kept_at : (bs : List Bool) (ss : List Code) (n : ℕ) (x : Code) → n < length bs → length bs ≡ length ss → x ≡ get_or ss n x →
    kept_constants (take n bs) (map mean (take n ss)) ++ constant_shape (get_or bs n false) (mean x) ∷ [] ≡ kept_constants (take (suc n) bs) (map mean (take (suc n) ss))
kept_at [] ss n x h l e = absurd (omega (arith, h))
kept_at (b ∷ bs) [] n x h l e = absurd (omega (arith, l))
kept_at (true ∷ bs) (s ∷ ss) zero x h l e = ap (λ (y : Code). Some (mean y) ∷ []) e
kept_at (false ∷ bs) (s ∷ ss) zero x h l e = refl
kept_at (true ∷ bs) (s ∷ ss) (suc n) x h l e = ap (λ (as' : List (Option Shape)). Some (mean s) ∷ as') (kept_at bs ss n x (omega (arith, h)) (omega (arith, l)) e)
kept_at (false ∷ bs) (s ∷ ss) (suc n) x h l e = ap (λ (as' : List (Option Shape)). None ∷ as') (kept_at bs ss n x (omega (arith, h)) (omega (arith, l)) e)

pub kept_more : (bs : List Bool) (ss : List Code) (n : ℕ) (x : Code) (o : Option Code) (got new : List (Option Code)) → some_shapes got ≡ kept_constants (take n bs) (map mean (take n ss)) →
    n < length bs → length bs ≡ length ss → x ≡ get_or ss n x → option_map mean o ≡ constant_shape (get_or bs n false) (mean x) → new ≡ got ++ o ∷ [] →
    some_shapes new ≡ kept_constants (take (n + 1) bs) (map mean (take (n + 1) ss))
kept_more bs ss n x o got new h l m e p f =
    let one : suc n ≡ n + 1 = omega arith in
    ap some_shapes f ∙ mapped_end (option_map mean) got o ∙ ap₂ (λ (as' : List (Option Shape)) (a : Option Shape). as' ++ a ∷ []) h p ∙ kept_at bs ss n x l m e
    ∙ ap (λ (i : ℕ). kept_constants (take i bs) (map mean (take i ss))) one

pub kept_whole : (bs : List Bool) (ss : List Code) (n : ℕ) (got : List (Option Code)) → some_shapes got ≡ kept_constants (take n bs) (map mean (take n ss)) → length bs ≤ n → length bs ≡ length ss →
    some_shapes got ≡ kept_constants bs (map mean ss)
kept_whole bs ss n got h l m =
    h ∙ ap₂ (λ (cs : List Bool) (us : List Code). kept_constants cs (map mean us)) (all_taken bs n l) (all_taken ss n (omega (arith, l, m)))

abbrev pub nothing : Bool → Option Shape
nothing b = None

nothing_at : (bs : List Bool) (n : ℕ) → n < length bs → map nothing (take n bs) ++ None ∷ [] ≡ map nothing (take (suc n) bs)
nothing_at [] n h = absurd (omega (arith, h))
nothing_at (b ∷ bs) zero h = refl
nothing_at (b ∷ bs) (suc n) h = ap (λ (as' : List (Option Shape)). None ∷ as') (nothing_at bs n (omega (arith, h)))

pub nothing_next : (bs : List Bool) (n : ℕ) (got new : List (Option Code)) → some_shapes got ≡ map nothing (take n bs) → n < length bs → new ≡ got ++ None ∷ [] →
    some_shapes new ≡ map nothing (take (n + 1) bs)
nothing_next bs n got new h l f =
    let one : suc n ≡ n + 1 = omega arith in
    ap some_shapes f ∙ mapped_end (option_map mean) got None ∙ ap (λ (as' : List (Option Shape)). as' ++ None ∷ []) h ∙ nothing_at bs n l ∙ ap (λ (i : ℕ). map nothing (take i bs)) one

pub nothing_whole : (bs : List Bool) (n : ℕ) (got : List (Option Code)) → some_shapes got ≡ map nothing (take n bs) → length bs ≤ n → some_shapes got ≡ map nothing bs
nothing_whole bs n got h l = h ∙ ap (map nothing) (all_taken bs n l)

-- ---- extents

some_kept : (as' : List Shape) (bs : List Shape) → map capped as' ≡ bs → map (option_map capped) (map (λ a. Some a) as') ≡ map (λ a. Some a) bs
some_kept as' bs e = by as' ∙ ap (map (λ a. Some a)) e
  where
    by : (cs : List Shape) → map (option_map capped) (map (λ a. Some a) cs) ≡ map (λ a. Some a) (map capped cs)
    by [] = refl
    by (c ∷ cs) = ap (λ (os : List (Option Shape)). Some (capped c) ∷ os) (by cs)

constants_kept : (bs : List Bool) (as' : List Shape) (cs : List Shape) → map capped as' ≡ cs → map (option_map capped) (kept_constants bs as') ≡ kept_constants bs cs
constants_kept bs as' cs e = by bs as' ∙ ap (kept_constants bs) e
  where
    by : (ds : List Bool) (xs : List Shape) → map (option_map capped) (kept_constants ds xs) ≡ kept_constants ds (map capped xs)
    by [] xs = refl
    by (d ∷ ds) [] = refl
    by (true ∷ ds) (x ∷ xs) = ap (λ (os : List (Option Shape)). Some (capped x) ∷ os) (by ds xs)
    by (false ∷ ds) (x ∷ xs) = ap (λ (os : List (Option Shape)). None ∷ os) (by ds xs)

nothing_kept : (bs : List Bool) → map (option_map capped) (map (λ (b : Bool). None) bs) ≡ map (λ (b : Bool). None) bs
nothing_kept [] = refl
nothing_kept (b ∷ bs) = ap (λ (os : List (Option Shape)). None ∷ os) (nothing_kept bs)

pub named_reads : (s : Names) (w : ℕ) (now next : List (Option Shape)) (g : Extent) → IsNamed s w now next → g.bound ≡ [] → map (option_map capped) g.now ≡ now →
    map (option_map capped) g.next ≡ next → Reads s g
named_reads s w now next g h b e f = record {
  now = e ∙ sym h.state;
  next = f ∙ sym h.after;
  bound = ap (map kept_name) b ∙ sym (ap (map bound_name) h.bound);
}

-- ---- levels

level_first : (s : Names) (cs : List Count) (r : Level) → s.first ≡ None → option_map rank_of r.first ≡ either_rank (option_map rank_of s.first) (first_rank cs) → IsFirst r.first cs
level_first s cs r e h = h ∙ ap (λ (o : Option Excess). either_rank (option_map rank_of o) (first_rank cs)) e

pub next_is : (s : Names) (w : ℕ) (sys : System) (bs : List Bool) (ss : List Code) (xs : List Assigned) (r : Level) → bs ≡ sys.ker.fixed → xs ≡ sys.next →
    IsNamed s w (map (λ a. Some a) (map mean ss)) (kept_constants bs (map mean ss)) →
    IsLevel s (after_paths in_next (sized_paths s.width xs)) (numbers_of in_next (sized_paths s.width xs)) r → StepsTo (system_parts w sys) ss r
next_is s w sys bs ss xs r e f h l = λ as' m.
    let ps : sized_paths s.width xs ≡ sized_paths w sys.next = ap₂ sized_paths h.width f in
    let k : IsLevel s (after_paths in_next (sized_paths w sys.next)) (numbers_of in_next (sized_paths w sys.next)) r =
    subst (λ (qs : List Path). IsLevel s (after_paths in_next qs) (numbers_of in_next qs) r) ps l in
    let g : Extent = from_state sys.ker.fixed as' in
    let reads : Reads s g =
    named_reads s w _ _ g h refl (some_kept as' (map mean ss) m) (constants_kept sys.ker.fixed as' (map mean ss) m ∙ ap (λ (cs : List Bool). kept_constants cs (map mean ss)) (sym e)) in
    record {
      shapes = k.shapes g reads;
      finds = level_first s (numbers_of in_next (sized_paths w sys.next) g) r h.first (k.finds g reads);
    }

invariants_same : (w : ℕ) (ks : List Ker) (g : Extent) → counts_of walked (all_at (map (ker_sized w) ks) g) ≡ invariant_numbers (map (ker_sized w) ks) g
invariants_same w [] g = refl
invariants_same w (k ∷ ks) g = ap (λ (cs : List Count). (ker_sized w k g).counts walked ++ cs) (invariants_same w ks g)

whole : (ks : List Ker) → take (length ks) ks ≡ ks
whole [] = refl
whole (k ∷ ks) = ap (λ (js : List Ker). k ∷ js) (whole ks)

pub first_is : (s t u : Names) (w : ℕ) (sys : System) (ss : List Code) (ks : List Ker) (rs : List Code) (r : Level) → ss ≡ r.shapes → ks ≡ sys.ker.invs →
    IsNamed s w (map (λ a. Some a) (map mean ss)) (map (λ a. Some a) (map mean ss)) → t.width ≡ s.width → t.state ≡ s.state → t.next ≡ s.next → t.bound ≡ s.bound → t.first ≡ r.first →
    SizesEach t u (map (ker_sized t.width) (take (length ks) ks)) walked rs → IsFirstAt (system_parts w sys) r u.first
first_is s t u w sys ss ks rs r e f h tw ts tn tb tf z = λ as' cs o.
    let g : Extent = at_state as' in
    let m : map capped as' ≡ map mean ss = o.shapes ∙ ap (map mean) (sym e) in
    let reads : Reads s g = named_reads s w _ _ g h refl (some_kept as' (map mean ss) m) (some_kept as' (map mean ss) m) in
    let again : Reads t g = record {
      now = reads.now ∙ ap (λ v. map (option_map mean) v.items) (sym ts);
      next = reads.next ∙ ap (λ v. map (option_map mean) v.items) (sym tn);
      bound = reads.bound ∙ ap (λ v. map bound_name v.items) (sym tb);
    } in
    z.finds g again
    ∙ ap₂ (λ (a b : Option Rank). either_rank a b) (ap (option_map rank_of) tf ∙ o.finds)
    (ap first_rank (ap (λ (zs : List Sizing). counts_of walked (all_at zs g)) (ap₂ (λ (d : ℕ) (js : List Ker). map (ker_sized d) js) (tw ∙ h.width) (whole ks ∙ f))
    ∙ invariants_same w sys.ker.invs g))
    ∙ sym (rank_append cs (invariant_numbers (map (ker_sized w) sys.ker.invs) g))

-- ---- the start

pub constants_are : (s : Names) (w : ℕ) (sys : System) (bs : List Bool) (xs : List Assigned) (r : Level) → bs ≡ sys.ker.fixed → xs ≡ sys.constants →
    IsNamed s w (map (λ b. None) bs) (map (λ b. None) bs) → IsLevel s (after_paths in_state (sized_paths s.width xs)) (numbers_of in_state (sized_paths s.width xs)) r →
    ConstantsAre (system_parts w sys) r
constants_are s w sys bs xs r e f h l =
    let ps : sized_paths s.width xs ≡ sized_paths w sys.constants = ap₂ sized_paths h.width f in
    let k : IsLevel s (after_paths in_state (sized_paths w sys.constants)) (numbers_of in_state (sized_paths w sys.constants)) r =
    subst (λ (qs : List Path). IsLevel s (after_paths in_state qs) (numbers_of in_state qs) r) ps l in
    let g : Extent = no_names (system_parts w sys) in
    let same : map (option_map capped) (map (λ (b : Bool). None) sys.ker.fixed) ≡ map (λ b. None) bs = nothing_kept sys.ker.fixed ∙ ap (map (λ (b : Bool). None)) (sym e) in
    let reads : Reads s g = named_reads s w _ _ g h refl same same in
    record {
      shapes = k.shapes g reads;
      finds = level_first s (numbers_of in_state (sized_paths w sys.constants) g) r h.first (k.finds g reads);
    }

pub before_is : (s t u : Names) (w : ℕ) (sys : System) (bs : List Bool) (ss : List Code) (a : Code) (c : Level) → bs ≡ sys.ker.fixed → ss ≡ c.shapes →
    IsNamed s w (kept_constants bs (map mean ss)) (kept_constants bs (map mean ss)) → t.width ≡ s.width → t.state ≡ s.state → t.next ≡ s.next → t.bound ≡ s.bound → t.first ≡ c.first →
    Sizes t u (ker_sized t.width sys.ker.assume) walked a → IsBefore (system_parts w sys) w c u
before_is s t u w sys bs ss a c e d h tw ts tn tb tf z =
    let p : Parts = system_parts w sys in
    let g : Extent = the_constants p in
    let tw' : t.width ≡ w = tw ∙ h.width in
    let y : Sizes t u (ker_sized w sys.ker.assume) walked a = subst (λ (v : ℕ). Sizes t u (ker_sized v sys.ker.assume) walked a) tw' z in
    let again : ConstantsAre p c → Reads t g = λ o.
    let same : map (option_map capped) (kept_constants sys.ker.fixed (constant_shapes p)) ≡ kept_constants bs (map mean ss) =
    constants_kept sys.ker.fixed (constant_shapes p) (map mean c.shapes) o.shapes ∙ ap₂ (λ (ds : List Bool) (us : List Code). kept_constants ds (map mean us)) (sym e) (sym d) in
    let reads : Reads s g = named_reads s w _ _ g h refl same same in
    record {
      now = reads.now ∙ ap (λ v. map (option_map mean) v.items) (sym ts);
      next = reads.next ∙ ap (λ v. map (option_map mean) v.items) (sym tn);
      bound = reads.bound ∙ ap (λ v. map bound_name v.items) (sym tb);
    } in
    let cs : List Count = numbers_of in_state (sized_paths w sys.constants) (no_names p) in
    let as' : List Count = (ker_sized w sys.ker.assume g).counts walked in
    record {
      width = y.same.width ∙ tw';
      bound = y.same.bound ∙ ap (λ v. v.items) tb ∙ h.bound;
      reads = λ o. reads_same t u g y.same (again o);
      first = λ o. y.finds g (again o) ∙ ap (λ (q : Option Rank). either_rank q (first_rank as')) (ap (option_map rank_of) tf ∙ o.finds) ∙ sym (rank_append cs as');
    }

pub start_is : (u : Names) (w : ℕ) (sys : System) (xs : List Assigned) (c r : Level) → xs ≡ sys.start → ConstantsAre (system_parts w sys) c → IsBefore (system_parts w sys) w c u →
    IsLevel u (after_paths in_state (sized_paths u.width xs)) (numbers_of in_state (sized_paths u.width xs)) r → StartsAt (system_parts w sys) r
start_is u w sys xs c r f o h l =
    let p : Parts = system_parts w sys in
    let g : Extent = the_constants p in
    let ps : sized_paths u.width xs ≡ sized_paths w sys.start = ap₂ sized_paths h.width f in
    let k : IsLevel u (after_paths in_state (sized_paths w sys.start)) (numbers_of in_state (sized_paths w sys.start)) r =
    subst (λ (qs : List Path). IsLevel u (after_paths in_state qs) (numbers_of in_state qs) r) ps l in
    let ss : List Count = numbers_of in_state (sized_paths w sys.start) g in
    record {
      shapes = k.shapes g (h.reads o);
      finds = k.finds g (h.reads o) ∙ ap (λ (q : Option Rank). either_rank q (first_rank ss)) (h.first o) ∙ sym (rank_append (typed_numbers p) ss);
    }
