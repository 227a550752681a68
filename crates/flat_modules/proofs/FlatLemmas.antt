-- Items of a flat module, one by one.
use Rattle.std.proofs.Common.{IfOk, Result, Ok, Err, subst, ℕ, ◌≡◌, ◌∙◌, List, [], ◌∷◌, ◌++◌, map, refl, ap, sym}
use Rattle.std.proofs.lemmas.List.{map-append}
use Rattle.tla_meaning.specs.Flattening.{Modules, assumptions, declarations, declared_names, definitions, known, root_copy}
use Rattle.tla_meaning.specs.declared.expr.Decl.{Decl}
use Rattle.tla_meaning.specs.Flattening as flat
use Rattle.flat_modules.specs.declared.flattening.FlatItems.{FlatItems}
use Rattle.flat_modules.specs.declared.items.Item.{Item}
use Rattle.flat_modules.specs.inner.Flat.{Adds, IsFlatItems, IsSplit}
use Rattle.flat_modules.specs.inner.Items.{item_of}

declarations_more : (is : List flat.Item) (i : flat.Item) → declarations (is ++ i ∷ []) ≡ declarations is ++ declarations (i ∷ [])
declarations_more [] i = refl
declarations_more (flat.Declares d ∷ is) i = ap (λ l. d ∷ l) (declarations_more is i)
declarations_more (flat.Defines d ∷ is) i = declarations_more is i
declarations_more (flat.Assumes e ∷ is) i = declarations_more is i

definitions_more : (is : List flat.Item) (i : flat.Item) → definitions (is ++ i ∷ []) ≡ definitions is ++ definitions (i ∷ [])
definitions_more [] i = refl
definitions_more (flat.Declares d ∷ is) i = definitions_more is i
definitions_more (flat.Defines d ∷ is) i = ap (λ l. d ∷ l) (definitions_more is i)
definitions_more (flat.Assumes e ∷ is) i = definitions_more is i

assumptions_more : (is : List flat.Item) (i : flat.Item) → assumptions (is ++ i ∷ []) ≡ assumptions is ++ assumptions (i ∷ [])
assumptions_more [] i = refl
assumptions_more (flat.Declares d ∷ is) i = assumptions_more is i
assumptions_more (flat.Defines d ∷ is) i = assumptions_more is i
assumptions_more (flat.Assumes e ∷ is) i = ap (λ l. e ∷ l) (assumptions_more is i)

pub split_step : {old new : FlatItems} (is : List Item) (i : Item) → IsSplit old (map item_of is) → Adds old new (item_of i) →
    IsSplit new (map item_of (is ++ i ∷ []))
split_step {old} {new} is i s a =
    let more = sym (map-append item_of is (i ∷ [])) in
    let js = map item_of is in
    let j = item_of i in
    record {
      decls = a.decls ∙ ap (λ l. l ++ declarations (j ∷ [])) s.decls ∙ sym (declarations_more js j) ∙ ap declarations more;
      defs = a.defs ∙ ap (λ l. l ++ definitions (j ∷ [])) s.defs ∙ sym (definitions_more js j) ∙ ap definitions more;
      assumes = a.assumes ∙ ap (λ l. l ++ assumptions (j ∷ [])) s.assumes ∙ sym (assumptions_more js j) ∙ ap assumptions more;
    }

pub flat_split : {E : Type 0} (r : Result FlatItems E) (ms : Modules) (x : List ℕ) (ds : List Decl) (is : List flat.Item) → IfOk r (λ f. IsSplit f is) →
    is ≡ (known ms (root_copy x ds)).items → ds ≡ declared_names ms x → IfOk r (λ f. IsFlatItems f ms x)
flat_split (Err e) ms x ds is h i d = tt
flat_split (Ok f) ms x ds is h i d =
    subst (λ l. IsSplit f (known ms (root_copy x l)).items) d (subst (IsSplit f) i h)
