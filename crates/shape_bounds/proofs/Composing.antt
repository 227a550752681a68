-- Walks over trees, one behind another.
use Rattle.std.proofs.Common.{◌≡◌, List, [], ◌∷◌, ◌++◌, map, Option, Some, None, option_map, refl, sym, ◌∙◌, ap, ap₂}
use Rattle.kernel_shapes.specs.declared.bounds.Shape.{Shape as Code}
use Rattle.kernel_shapes.specs.Codes.{mean}
use Rattle.kernel_shapes.specs.Counts.{Count, Rank, either_rank, first_rank}
use Rattle.kernel_shapes.specs.Shape.{Shape}
use Rattle.kernel_shapes.specs.Sized.{Extent, Position, Sized, Sizing, counts_of, shapes_of}
use Rattle.kernel_shapes.proofs.Refusals.{either_comm, either_assoc, rank_append}
use Rattle.shape_bounds.specs.declared.names.Names.{Names}
use Rattle.shape_bounds.specs.Excesses.{rank_of}
use Rattle.shape_bounds.specs.Kept.{capped}
use Rattle.shape_bounds.specs.Sizes.{Finds, IsCounted, Reads, SameNames, Sizes, SizesEach, all_at}

pub same_self : (s : Names) → SameNames s s
same_self s = record { width = refl; state = refl; next = refl; bound = refl }

pub same_more : (a b c : Names) → SameNames a b → SameNames b c → SameNames a c
same_more a b c h k = record {
  width = k.width ∙ h.width;
  state = k.state ∙ h.state;
  next = k.next ∙ h.next;
  bound = k.bound ∙ h.bound;
}

-- names that are the same are read as the same
pub reads_same : (a b : Names) (g : Extent) → SameNames a b → Reads a g → Reads b g
reads_same a b g h r = record {
  now = r.now ∙ sym (ap (λ v. map (option_map mean) v.items) h.state);
  next = r.next ∙ sym (ap (λ v. map (option_map mean) v.items) h.next);
  bound = r.bound ∙ sym (ap (map Rattle.shape_bounds.specs.Sizes.bound_name) h.bound);
}

either_none : (a : Option Rank) → either_rank a None ≡ a
either_none None = refl
either_none (Some a) = refl

pub finds_none : (s : Names) → Finds s s []
finds_none s = sym (either_none (option_map rank_of s.first))

-- numbers of one walk and then of another
pub finds_more : (a b c : Names) (cs ds : List Count) → Finds a b cs → Finds b c ds → Finds a c (cs ++ ds)
finds_more a b c cs ds h k =
    k
    ∙ ap (λ (r : Option Rank). either_rank r (first_rank ds)) h
    ∙ either_assoc (option_map rank_of a.first) (first_rank cs) (first_rank ds)
    ∙ ap (either_rank (option_map rank_of a.first)) (sym (rank_append cs ds))

pub finds_same : (a b : Names) (cs ds : List Count) → cs ≡ ds → Finds a b cs → Finds a b ds
finds_same a b cs ds e h = h ∙ ap (λ (es : List Count). either_rank (option_map rank_of a.first) (first_rank es)) e

-- the order does not matter
pub finds_turned : (a b : Names) (cs ds : List Count) → Finds a b (cs ++ ds) → Finds a b (ds ++ cs)
finds_turned a b cs ds h =
    h ∙ ap (either_rank (option_map rank_of a.first)) (rank_append cs ds ∙ either_comm (first_rank cs) (first_rank ds) ∙ sym (rank_append ds cs))

-- a node whose own number is counted behind those within it
pub finds_own : (a b c : Names) (own cs : List Count) → Finds a b cs → Finds b c own → Finds a c (own ++ cs)
finds_own a b c own cs h k = finds_turned a c cs own (finds_more a b c cs own h k)

-- ---- lists of trees

pub each_none : (s : Names) (q : Position) → SizesEach s s [] q []
each_none s q = record { same = same_self s; shapes = λ g r. refl; finds = λ g r. finds_none s }

counts_end : (q : Position) (as' : List Sized) (b : Sized) → counts_of q (as' ++ b ∷ []) ≡ counts_of q as' ++ b.counts q
counts_end q [] b = nothing_more (b.counts q)
  where
    nothing_more : (cs : List Count) → cs ++ [] ≡ cs
    nothing_more [] = refl
    nothing_more (c ∷ cs) = ap (λ (ds : List Count). c ∷ ds) (nothing_more cs)
counts_end q (a ∷ as') b = ap (λ (cs : List Count). a.counts q ++ cs) (counts_end q as' b) ∙ sym (grouped (a.counts q) (counts_of q as') (b.counts q))
  where
    grouped : (xs ys zs : List Count) → (xs ++ ys) ++ zs ≡ xs ++ (ys ++ zs)
    grouped [] ys zs = refl
    grouped (x ∷ xs) ys zs = ap (λ (ds : List Count). x ∷ ds) (grouped xs ys zs)

at_end : (zs : List Sizing) (z : Sizing) (g : Extent) → all_at (zs ++ z ∷ []) g ≡ all_at zs g ++ z g ∷ []
at_end [] z g = refl
at_end (y ∷ zs) z g = ap (λ (as' : List Sized). y g ∷ as') (at_end zs z g)

kept_end : (as' : List Sized) (b : Sized) → map capped (shapes_of (as' ++ b ∷ [])) ≡ map capped (shapes_of as') ++ capped b.shape ∷ []
kept_end [] b = refl
kept_end (a ∷ as') b = ap (λ (cs : List Shape). capped a.shape ∷ cs) (kept_end as' b)

means_end : (rs : List Code) (r : Code) → map mean (rs ++ r ∷ []) ≡ map mean rs ++ mean r ∷ []
means_end [] r = refl
means_end (x ∷ rs) r = ap (λ (as' : List Shape). mean x ∷ as') (means_end rs r)

-- one tree more
pub each_more : (a b c : Names) (zs : List Sizing) (z : Sizing) (q : Position) (rs new : List Code) (r : Code) → SizesEach a b zs q rs → Sizes b c z q r →
    new ≡ rs ++ r ∷ [] → SizesEach a c (zs ++ z ∷ []) q new
each_more a b c zs z q rs new r h k e = record {
  same = same_more a b c h.same k.same;
  shapes = λ g l.
      ap (λ (as' : List Sized). map capped (shapes_of as')) (at_end zs z g) ∙ kept_end (all_at zs g) (z g)
      ∙ ap₂ (λ (as' : List Shape) (x : Shape). as' ++ x ∷ []) (h.shapes g l) (k.shape g (reads_same a b g h.same l))
      ∙ sym (ap (map mean) e ∙ means_end rs r);
  finds = λ g l.
      finds_same a c _ _ (sym (ap (counts_of q) (at_end zs z g) ∙ counts_end q (all_at zs g) (z g)))
      (finds_more a b c (counts_of q (all_at zs g)) ((z g).counts q) (h.finds g l) (k.finds g (reads_same a b g h.same l)));
}
