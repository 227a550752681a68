-- How a type is formed tells how its variable is.
use Rattle.std.proofs.Common.{◌≡◌, ℕ, List, Option, ap, refl, sym, ◌∙◌}
use Rattle.snowcat_rows.specs.declared.types.Ty.TheFolds.{map-Ty}
use Rattle.snowcat_rows.specs.declared.types.Ty.TheOpen as layer
use Rattle.snowcat_rows.specs.declared.types.Ty.TheVariants.{rolls-Var}
use Rattle.snowcat_rows.specs.declared.types.Ty.{out-Ty, roll-Ty, roll-out-Ty}
use Rattle.snowcat_rows.specs.declared.types.Ty.{Ty, Bool, Int, Str, Named, Var, Set, Seq, Fun, Tup, Rec, Oper}
use Rattle.snowcat_rows.specs.Types.{Term, mean, mean_layer, var}
use Rattle.snowcat_rows.specs.Substitutions.{Sub, apply}
use Rattle.snowcat_rows.specs.Roots.{IsRoot}
use Rattle.snowcat_rows.proofs.Means.{mean_out, mean-Bool, mean-Int, mean-Str, mean-Named, mean-Var, mean-Set, mean-Seq, mean-Fun, mean-Tup, mean-Rec, mean-Oper}
use Rattle.snowcat_types.specs.declared.kinds.Kind.TheVariants.{NotFormed, Function, Sequence, Tuple, Record, Other}
use Rattle.snowcat_types.specs.Requirements.{kind}
use Rattle.snowcat_types.proofs.Joining.{kind_kept}

-- what is no variable is formed
formed_from : (o : layer.Ty-F Ty) (t : Ty) → roll-Ty o ≡ t → ((v : ℕ) → t ≡ Var v → ⊥) → kind (mean_layer (map-Ty Ty Term mean o)) ≡ NotFormed → ⊥
formed_from (layer.Var v) t e n h = n v (sym e ∙ rolls-Var v)
formed_from layer.Bool t e n h = absurd (cc)
formed_from layer.Int t e n h = absurd (cc)
formed_from layer.Str t e n h = absurd (cc)
formed_from (layer.Named x) t e n h = absurd (cc)
formed_from (layer.Set a) t e n h = absurd (cc)
formed_from (layer.Seq a) t e n h = absurd (cc)
formed_from (layer.Fun a b) t e n h = absurd (cc)
formed_from (layer.Tup ts) t e n h = absurd (cc)
formed_from (layer.Rec fs k) t e n h = absurd (cc)
formed_from (layer.Oper ts b) t e n h = absurd (cc)

formed : (t : Ty) → ((v : ℕ) → t ≡ Var v → ⊥) → kind (mean t) ≡ NotFormed → ⊥
formed t n h = formed_from (out-Ty t) t (roll-out-Ty t) n (ap kind (sym (mean_out t)) ∙ h)

module _ (s : Sub) (t : Term) (r : Ty) (h : IsRoot s t (mean r)) where
  below : (u : Term) → mean r ≡ u → kind (apply s u) ≡ kind (apply s t)
  below u e = ap (λ z. kind (apply s z)) (sym e) ∙ ap kind h.equal

  pub of_Var : (v : ℕ) → r ≡ Var v → NotFormed ≡ kind (apply s t)
  of_Var v e = ap kind (sym (h.last v (ap mean e ∙ mean-Var v))) ∙ below _ (ap mean e ∙ mean-Var v)

  pub of_Fun : (a b : Ty) → r ≡ Fun a b → Function ≡ kind (apply s t)
  of_Fun a b e = below _ (ap mean e ∙ mean-Fun a b)

  pub of_Seq : (a : Ty) → r ≡ Seq a → Sequence ≡ kind (apply s t)
  of_Seq a e = below _ (ap mean e ∙ mean-Seq a)

  pub of_Tup : (ts : List Ty) → r ≡ Tup ts → Tuple ≡ kind (apply s t)
  of_Tup ts e = below _ (ap mean e ∙ mean-Tup ts)

  pub of_Rec : (fs : List (List ℕ × Ty)) (k : Option ℕ) → r ≡ Rec fs k → Record ≡ kind (apply s t)
  of_Rec fs k e = below _ (ap mean e ∙ mean-Rec fs k)

  pub of_Bool : r ≡ Bool → Other ≡ kind (apply s t)
  of_Bool e = below _ (ap mean e ∙ mean-Bool)

  pub of_Int : r ≡ Int → Other ≡ kind (apply s t)
  of_Int e = below _ (ap mean e ∙ mean-Int)

  pub of_Str : r ≡ Str → Other ≡ kind (apply s t)
  of_Str e = below _ (ap mean e ∙ mean-Str)

  pub of_Named : (x : List ℕ) → r ≡ Named x → Other ≡ kind (apply s t)
  of_Named x e = below _ (ap mean e ∙ mean-Named x)

  pub of_Set : (a : Ty) → r ≡ Set a → Other ≡ kind (apply s t)
  of_Set a e = below _ (ap mean e ∙ mean-Set a)

  pub of_Oper : (ts : List Ty) (b : Ty) → r ≡ Oper ts b → Other ≡ kind (apply s t)
  of_Oper ts b e = below _ (ap mean e ∙ mean-Oper ts b)

  pub leads_to : (v : ℕ) → r ≡ Var v → apply s t ≡ var v
  leads_to v e = sym h.equal ∙ ap (apply s) (ap mean e ∙ mean-Var v) ∙ h.last v (ap mean e ∙ mean-Var v)

  pub formed_at : ((v : ℕ) → r ≡ Var v → ⊥) → kind (apply s t) ≡ NotFormed → ⊥
  formed_at n e = formed r n (sym (kind_kept s (mean r) (formed r n)) ∙ below (mean r) refl ∙ e)
