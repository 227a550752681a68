-- The forms of trees in which no infinite set stands.
use Rattle.std.proofs.Common.{◌≡◌, ℕ, Bool, true, false, ◌&&◌, IsTrue, List, [], ◌∷◌, ◌++◌, map, Option, Some, None, refl, sym, ◌∙◌, ap, ap₂, subst, if◌then◌else◌}
use Rattle.std.specs.Prelude.{flat_map}
use Rattle.tla_values.specs.declared.value.Value.{Value}
use Rattle.tla_meaning.specs.declared.forms.SetForm.{SetForm}
use Rattle.tla_meaning.specs.declared.forms.SetForm.TheVariants as set
use Rattle.tla_meaning.specs.declared.job.State.{State}
use Rattle.tla_meaning.specs.declared.outcome.Fault.{Fault}
use Rattle.tla_meaning.specs.declared.outcome.Fault.TheVariants.{IsBig, IsWrong, NoFault}
use Rattle.tla_meaning.specs.declared.outcome.Outcome.{Outcome}
use Rattle.tla_meaning.specs.declared.outcome.Outcome.TheVariants.{Big, Val, Wrong}
use Rattle.tla_meaning.specs.declared.place.Place.{Place}
use Rattle.tla_meaning.specs.Forms.{Broken, Formed, Made, all_set_forms, fault_or_form, form_faults, is_set_form, made}
use Rattle.tla_meaning.specs.Meaning.{form_of_all, form_of_one, functions_from, plain}
use Rattle.tla_meaning.specs.Numbers.{Width}
use Rattle.tla_meaning.specs.Scopes.{Scope}
use Rattle.kernel_trees.specs.declared.kernel.Ker.{Ker, roll-Ker}
use Rattle.kernel_trees.specs.declared.kernel.KerOp.{KerOp}
use Rattle.kernel_trees.specs.declared.kernel.KerOp.TheVariants as ker
use Rattle.kernel_trees.specs.Sound.{infinite_at, infinite_places, is_nil}
use Rattle.kernel_trees.specs.Trees.{ker_form}
use Rattle.snowcat_rows.specs.declared.types.Ty.{Ty}
use Rattle.kernel_trees.proofs.Operators.{form_functions, form_plain, form_records, form_subsets, form_tuples, set_forms}
use Rattle.kernel_trees.proofs.SoundNodes.{infinite-roll}
use Rattle.kernel_trees.proofs.Trees.{Each, by_nodes}
use Rattle.form_choices.specs.FiniteForms.{is_finite}
use Rattle.form_choices.proofs.FiniteLaws.{all_finite, finite-functions, finite-plain, finite-records, finite-subsets, finite-tuples}

made-not : (g : Fault) (f : SetForm) → Broken g ≡ Made f → ⊥
made-not g f e = cc

made-one : (f g : SetForm) → Made f ≡ Made g → f ≡ g
made-one f g e = cc

-- ---- what is made of forms

one-made : (p : Place) (make : SetForm → SetForm) (fs : List Formed) (f : SetForm) → form_of_one p make fs ≡ Made f → (g : SetForm) × ((fs ≡ Made g ∷ []) × (f ≡ make g))
one-made p make [] f e = absurd (made-not _ f e)
one-made p make (Made g ∷ []) f e = test (is_set_form g) e
  where
    test : (b : Bool) → (if b then Made (make g) else Broken (IsWrong p)) ≡ Made f → (h : SetForm) × ((Made g ∷ [] ≡ Made h ∷ []) × (f ≡ make h))
    test true k = (g, (refl, sym (made-one (make g) f k)))
    test false k = absurd (made-not _ f k)
one-made p make (Broken g ∷ []) f e = absurd (made-not g f e)
one-made p make (d ∷ x ∷ fs) f e = absurd (made-not _ f e)

all-made : (p : Place) (make : List SetForm → SetForm) (fs : List Formed) (f : SetForm) → form_of_all p make fs ≡ Made f → f ≡ make (made fs)
all-made p make fs f e = by (form_faults fs) (all_set_forms (made fs)) e
  where
    by : (g : Fault) (b : Bool) → fault_or_form g (if b then Made (make (made fs)) else Broken (IsWrong p)) ≡ Made f → f ≡ make (made fs)
    by NoFault true k = sym (made-one (make (made fs)) f k)
    by NoFault false k = absurd (made-not _ f k)
    by (IsWrong x) b k = absurd (made-not _ f k)
    by (IsBig x) b k = absurd (made-not _ f k)

-- a form of functions from its form of results
record FromResults (fs : List Formed) (f : SetForm) : Type 0 where
  items : List Value
  results : SetForm
  alone : fs ≡ Made results ∷ []
  is : f ≡ set.Functions items results

from-results : (p : Place) (g : Fault) (o : Option (List Value)) (fs : List Formed) (f : SetForm) → fault_or_form g (functions_from p o fs) ≡ Made f → FromResults fs f
from-results p NoFault None fs f e = absurd (made-not _ f e)
from-results p NoFault (Some xs) fs f e = let r = one-made p (set.Functions xs) fs f e in record { items = xs; results = r.0; alone = r.1.0; is = r.1.1 }
from-results p (IsWrong x) o fs f e = absurd (made-not _ f e)
from-results p (IsBig x) o fs f e = absurd (made-not _ f e)

-- ---- trees

abbrev FiniteForm : Ker → Type 0
FiniteForm k = (w : Width) (sc : Scope) (s t : State) (f : SetForm) → IsTrue (is_nil (infinite_places k)) → ker_form w k sc s t ≡ Made f → is_finite f ≡ true

nil-both : (ps qs : List Place) → IsTrue (is_nil (ps ++ qs)) → IsTrue (is_nil ps) × IsTrue (is_nil qs)
nil-both [] qs h = (refl, h)
nil-both (p ∷ ps) qs h = absurd (cc)

abbrev places : List Ker → List Place
places ks = flat_map (λ (ps : List Place). ps) (map infinite_places ks)

one-finite : (w : Width) (sc : Scope) (s t : State) (ks : List Ker) (g : SetForm) → Each FiniteForm ks → IsTrue (is_nil (places ks)) → set_forms w s t ks sc ≡ Made g ∷ [] → is_finite g ≡ true
one-finite w sc s t [] g h n e = absurd (cc)
one-finite w sc s t (k ∷ []) g h n e = h.0 w sc s t g (nil-both (infinite_places k) [] n).0 (head-one _ _ e)
  where
    head-one : (x y : Formed) → (x ∷ []) ≡ (y ∷ []) → x ≡ y
    head-one x y q = cc
one-finite w sc s t (k ∷ l ∷ ks) g h n e = absurd (cc)

all-are : (w : Width) (sc : Scope) (s t : State) (ks : List Ker) → Each FiniteForm ks → IsTrue (is_nil (places ks)) → all_finite (made (set_forms w s t ks sc)) ≡ true
all-are w sc s t [] h n = refl
all-are w sc s t (k ∷ ks) h n =
    let both = nil-both (infinite_places k) (places ks) n in
    by (ker_form w k sc s t) refl (λ f e. h.0 w sc s t f both.0 e) (all-are w sc s t ks h.1 both.1)
  where
    by : (d : Formed) → ker_form w k sc s t ≡ d → ((f : SetForm) → d ≡ Made f → is_finite f ≡ true) → all_finite (made (set_forms w s t ks sc)) ≡ true → all_finite (made (d ∷ set_forms w s t ks sc)) ≡ true
    by (Made f) e one rest = ap₂ (λ a b. a && b) (one f refl) rest
    by (Broken g) e one rest = rest

plain-finite : (o : Outcome) (f : SetForm) → plain o ≡ Made f → is_finite f ≡ true
plain-finite (Val v) f e = ap is_finite (sym (made-one (set.Plain v) f e)) ∙ finite-plain v
plain-finite (Wrong p) f e = absurd (made-not _ f e)
plain-finite (Big p) f e = absurd (made-not _ f e)

module _ (w : Width) (sc : Scope) (s t : State) where
  node-finite : (p : Place) (a : Ty) (o : KerOp) (ks : List Ker) (xs : List ℕ) (f : SetForm) → Each FiniteForm ks → IsTrue (is_nil (infinite_at o p (map infinite_places ks)))
      → ker_form w (roll-Ker (record { place = p; ty = a; op = o; args = ks; binds = xs })) sc s t ≡ Made f → is_finite f ≡ true
  node-finite p a ker.IntForm ks xs f h n e = absurd (cc)
  node-finite p a ker.NatForm ks xs f h n e = absurd (cc)
  node-finite p a ker.TextForm ks xs f h n e = absurd (cc)
  node-finite p a ker.SeqForm ks xs f h n e = absurd (cc)
  node-finite p a ker.Subsets ks xs f h n e =
      let r = one-made p set.Subsets (set_forms w s t ks sc) f (sym (form_subsets w s t p a ks xs sc) ∙ e) in
      ap is_finite r.1.1 ∙ finite-subsets r.0 ∙ one-finite w sc s t ks r.0 h n r.1.0
  node-finite p a ker.Functions [] xs f h n e = absurd (made-not _ f (sym (form_functions w s t p a [] xs sc) ∙ e))
  node-finite p a ker.Functions (k ∷ ks) xs f h n e =
      let r = from-results p _ _ (set_forms w s t ks sc) f (sym (form_functions w s t p a (k ∷ ks) xs sc) ∙ e) in
      ap is_finite r.is ∙ finite-functions r.items r.results ∙ one-finite w sc s t ks r.results h.1 n r.alone
  node-finite p a (ker.RecForm names) ks xs f h n e =
      ap is_finite (all-made p (set.Records names) (set_forms w s t ks sc) f (sym (form_records w s t p a names ks xs sc) ∙ e))
      ∙ finite-records names (made (set_forms w s t ks sc)) ∙ all-are w sc s t ks h n
  node-finite p a ker.TupForm ks xs f h n e =
      ap is_finite (all-made p set.Tuples (set_forms w s t ks sc) f (sym (form_tuples w s t p a ks xs sc) ∙ e))
      ∙ finite-tuples (made (set_forms w s t ks sc)) ∙ all-are w sc s t ks h n
  node-finite p a o ks xs f h n e = plain-finite _ f (sym (form_plain w s t p a o ks xs sc refl) ∙ e)

-- a form of a tree in which no infinite set stands is finite
pub tree-finite : (k : Ker) → FiniteForm k
tree-finite = by_nodes FiniteForm (λ x h w sc s t f n e.
    node-finite w sc s t x.place x.ty x.op x.args x.binds f h (subst (λ (ps : List Place). IsTrue (is_nil ps)) (infinite-roll x) n) e)
