-- At the start nothing is asked, and what is asked of the declared names is met.
use Rattle.std.proofs.Common.{◌≡◌, ℕ, List, [], refl, sym, subst, arith}
use Rattle.std.specs.Prelude.{Result, Ok, Err}
use Rattle.tla_meaning.specs.declared.place.Place.{Place}
use Rattle.snowcat_rows.specs.declared.substitution.Subst.{Subst}
use Rattle.snowcat_rows.specs.declared.substitution.UnifyFault.{UnifyFault}
use Rattle.snowcat_rows.specs.declared.substitution.UnifyFault.TheVariants.{Clash}
use Rattle.snowcat_rows.specs.declared.types.Ty.{Ty}
use Rattle.snowcat_rows.specs.Types.{Term, mean}
use Rattle.snowcat_rows.specs.Substitutions.{Sub, Fits, Fronts, Lifted, same_sub}
use Rattle.snowcat_rows.specs.Chains.{Binding, sub_of}
use Rattle.snowcat_rows.specs.Sorting.{AllSorted}
use Rattle.snowcat_rows.specs.Views.{issued_of, kept_by}
use Rattle.snowcat_types.specs.Requirements.{Requirement, MeetAll}
use Rattle.snowcat_types.specs.Systems.{Asks, Entry, System}
use Rattle.snowcat_types.specs.Typings.{nothing_yet}
use Rattle.snowcat_types.specs.declared.gathered.Requirement.{Requirement as BuiltRequirement}
use Rattle.snowcat_types.specs.declared.gathered.System.{System as BuiltSystem}
use Rattle.snowcat_types.specs.inner.Gathered.{requirements_of, system_of_built}
use Rattle.snowcat_types.specs.inner.Solved.{AreOf, Fails, IsSolved, IsTried, Solved}
use Rattle.snowcat_types.specs.inner.Runs.{HasVisited, IsFitting}
use Rattle.snowcat_types.proofs.Faulting.{failed}
use Rattle.snowcat_types.proofs.Fitted.{are_none}
use Rattle.snowcat_types.proofs.Visiting.{first_of_them}

lifted : (n : ℕ) (l : Fronts) (u : Sub) → Fits n l u → Lifted n n l u same_sub
lifted n l u f = record {
  to = u;
  agree = record { types = λ v lt. refl; rows = λ v lt. refl };
  fits = f;
  extends = record { rest = u; types = λ v lt. refl; rows = λ v lt. refl };
}

pub nothing_solved : (n : ℕ) (l : Fronts) (s : Subst) → issued_of s ≡ n → kept_by s ≡ [] → IsSolved n l [] s
nothing_solved n l s issued kept =
    let P : ℕ → Type 0 = λ z. Solved n z l l [] same_sub in
    let Q : List Binding → Type 0 = λ z. Solved n (issued_of s) l l [] (sub_of z) in
    let R : List Binding → Type 0 = λ z. AllSorted l z in
    record {
      fronts = l;
      same = λ v lt x. refl;
      solved = subst Q (sym kept) (subst P (sym issued) (record { more = omega arith; solves = tt; general = λ u f h. lifted n l u f }));
      sorted = subst R (sym kept) tt;
    }

pub has_started : (system : System) (s : Subst) → (f : IsFitting system) → IsSolved system.count f.fronts system.declared s → HasVisited system [] [] s
has_started system s f g = record {
  fitting = f;
  done = system.declared;
  visited = nothing_yet;
  are = f.declared;
  solved = g;
  inside = tt;
}

-- what can be met does not fail
pub never_fails : (n : ℕ) (e : Entry) (qs : List Requirement) (x y : Term) → (u : Sub) × MeetAll u qs → Fails n [] e qs x y → ⊥
never_fails n e qs x y (u, h) f = f.refuses.none u (first_of_them u [] f.first f.rest qs f.asks f.split h)

-- what is asked of the declared names stands at no place
nowhere : Place
nowhere = record { file = 0; line = 0; col = 0 }

module _ (system : BuiltSystem) (s t : Subst) (f : IsFitting (system_of_built system)) (issued : issued_of s ≡ system.count) (kept : kept_by s ≡ []) where
  abbrev pub Tried : List BuiltRequirement → Result (Unit {0}) UnifyFault → Type 0
  Tried qs r = (n : ℕ) (l : Fronts) (rs : List Requirement) (p : Place) → IsSolved n l rs s → AreOf n l rs → AreOf n l (requirements_of qs)
      → IsTried n l rs (Asks p (requirements_of qs)) (requirements_of qs) t r

  told : (qs : List BuiltRequirement) (r : Result (Unit {0}) UnifyFault) → qs ≡ system.declared → Tried qs r
      → IsTried system.count f.fronts [] (Asks nowhere (requirements_of system.declared)) (requirements_of system.declared) t r
  told qs r e tried =
      let P : List BuiltRequirement → Type 0 = λ z. Tried z r in
      subst P e tried system.count f.fronts [] nowhere (nothing_solved system.count f.fronts s issued kept) (are_none system.count f.fronts) f.declared

  pub started_so : (qs : List BuiltRequirement) → qs ≡ system.declared → Tried qs (Ok tt) → HasVisited (system_of_built system) [] [] t
  started_so qs e tried = has_started (system_of_built system) t f (told qs (Ok tt) e tried)

  pub never_refused : (qs : List BuiltRequirement) (fault : UnifyFault) (x y : Ty) → qs ≡ system.declared → fault ≡ Clash x y → Tried qs (Err fault) → ⊥
  never_refused qs fault x y e is tried =
      let all : List Requirement = requirements_of system.declared in
      never_fails system.count (Asks nowhere all) all (mean x) (mean y) f.possible
      (failed system.count f.fronts [] (Asks nowhere all) all t fault x y is (told qs (Err fault) e tried))
