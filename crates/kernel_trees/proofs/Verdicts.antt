-- What the law of paths says of TRUE, Wrong and Big; and the law for paths with assignments.
use Rattle.std.proofs.Common.{◌≡◌, ◌⊎◌, inl, inr, ◌↔◌, List, [], ◌∷◌, map, refl, sym, ◌∙◌, subst}
use Rattle.tla_meaning.specs.declared.place.Place.{Place}
use Rattle.tla_meaning.specs.declared.job.State.{State}
use Rattle.tla_meaning.specs.declared.outcome.Fault.{Fault}
use Rattle.tla_meaning.specs.declared.outcome.Fault.TheVariants.{NoFault, IsWrong, IsBig}
use Rattle.tla_meaning.specs.Outcomes.{join_faults}
use Rattle.tla_meaning.specs.Numbers.{Width}
use Rattle.kernel_trees.specs.Paths.{Marks, paths}
use Rattle.tla_meaning.specs.Scopes.{Scope}
use Rattle.kernel_trees.specs.declared.kernel.Ker.{Ker}
use Rattle.kernel_trees.specs.declared.path.KerPath.{KerPath}
use Rattle.kernel_trees.specs.Picks.{IsOneOf, IsFault, IsJoin}
use Rattle.kernel_trees.specs.Assignments.{IsByKerPaths, AssignedHolds, AssignedMeets, ReadsNext, HasSets, AssignedPath, assigned_of, AllHaveSets, IsByAssigned}
use Rattle.kernel_trees.proofs.Picking.{one_map, map_one}
use Rattle.kernel_trees.proofs.Assigning.{marked_holds, marked_meets, marked_met}
use Rattle.tla_meaning.specs.declared.actions.Effect.{Effect}

-- ---- a join is Wrong, Big or none

abbrev pub IsSomeWrong : Fault → Type 0
IsSomeWrong (IsWrong p) = Unit {0}
IsSomeWrong NoFault = ⊥
IsSomeWrong (IsBig p) = ⊥

abbrev pub IsSomeBig : Fault → Type 0
IsSomeBig (IsBig p) = Unit {0}
IsSomeBig NoFault = ⊥
IsSomeBig (IsWrong p) = ⊥

abbrev pub Some_met : (Fault → Type 0) → (Fault → Type 0) → Type 0
Some_met M K = (f : Fault) × (M f × K f)

both_wrong : (p : Place) (f : Fault) → IsSomeWrong (join_faults (IsWrong p) f)
both_wrong p NoFault = tt
both_wrong p (IsWrong q) = tt
both_wrong p (IsBig q) = tt

both_not_none : (f g : Fault) → IsFault f → join_faults f g ≡ NoFault → ⊥
both_not_none NoFault g n e = n
both_not_none (IsWrong p) NoFault n e = cc
both_not_none (IsWrong p) (IsWrong q) n e = cc
both_not_none (IsWrong p) (IsBig q) n e = cc
both_not_none (IsBig p) NoFault n e = cc
both_not_none (IsBig p) (IsWrong q) n e = cc
both_not_none (IsBig p) (IsBig q) n e = cc

wrong_met : {M : Fault → Type 0} (f : Fault) → IsSomeWrong f → (f ≡ NoFault) ⊎ M f → Some_met M IsSomeWrong
wrong_met f n (inl e) = absurd (subst IsSomeWrong e n)
wrong_met f n (inr m) = (f, (m, n))

met_wrong : {M : Fault → Type 0} (f g : Fault) → ((g : Fault) → IsFault g → M g → join_faults g f ≡ f) → M g → IsSomeWrong g → IsSomeWrong f
met_wrong f NoFault h m n = absurd n
met_wrong f (IsWrong p) h m n = subst IsSomeWrong (h (IsWrong p) tt m) (both_wrong p f)
met_wrong f (IsBig p) h m n = absurd n

-- Wrong exactly where a fault that is Wrong is met
pub wrong_exactly : {M : Fault → Type 0} (f : Fault) → IsJoin f M → IsSomeWrong f ↔ Some_met M IsSomeWrong
wrong_exactly f j = (λ n. wrong_met f n j.is_met, λ m. met_wrong f m.0 j.counts m.1.0 m.1.1)

-- none exactly where none is met
pub none_exactly : {M : Fault → Type 0} (f : Fault) → IsJoin f M → (f ≡ NoFault) ↔ (Some_met M IsFault → ⊥)
none_exactly {M = M} f j = (
  λ e m. both_not_none m.0 f m.1.1 (j.counts m.0 m.1.1 m.1.0 ∙ e),
  λ h. by f h j.is_met,
)
  where
    by : (f : Fault) → (Some_met M IsFault → ⊥) → (f ≡ NoFault) ⊎ M f → f ≡ NoFault
    by f h (inl e) = e
    by NoFault h (inr m) = refl
    by (IsWrong p) h (inr m) = absurd (h (IsWrong p, (m, tt)))
    by (IsBig p) h (inr m) = absurd (h (IsBig p, (m, tt)))

-- Big exactly where one that is Big is met and none that is Wrong
pub big_exactly : {M : Fault → Type 0} (f : Fault) → IsJoin f M → IsSomeBig f ↔ (Some_met M IsSomeBig × (Some_met M IsSomeWrong → ⊥))
big_exactly {M = M} f j = (λ n. (big_met f n j.is_met, λ m. not_both f n ((wrong_exactly f j).1 m)), λ m. met_big f j m.0 m.1)
  where
    not_both : (f : Fault) → IsSomeBig f → IsSomeWrong f → ⊥
    not_both NoFault n k = n
    not_both (IsWrong p) n k = n
    not_both (IsBig p) n k = k

    big_met : (f : Fault) → IsSomeBig f → (f ≡ NoFault) ⊎ M f → Some_met M IsSomeBig
    big_met f n (inl e) = absurd (subst IsSomeBig e n)
    big_met f n (inr m) = (f, (m, n))

    big_fault : (f : Fault) → IsSomeBig f → IsFault f
    big_fault NoFault n = n
    big_fault (IsWrong p) n = tt
    big_fault (IsBig p) n = tt

    met_big : (f : Fault) → IsJoin f M → Some_met M IsSomeBig → (Some_met M IsSomeWrong → ⊥) → IsSomeBig f
    met_big NoFault j m h = absurd ((none_exactly NoFault j).0 refl (m.0, (m.1.0, big_fault m.0 m.1.1)))
    met_big (IsWrong p) j m h = absurd (h ((wrong_exactly (IsWrong p) j).0 tt))
    met_big (IsBig p) j m h = tt

-- ---- the law of paths with assignments

sets_of : (w : Width) (m : Marks) (s t : State) (xs : List KerPath) (x : KerPath) (sc : Scope) → AllHaveSets w s t (map (assigned_of m) xs) sc →
    IsOneOf x xs → HasSets w s t (assigned_of m x) sc
sets_of w m s t [] x sc c h = absurd h
sets_of w m s t (z ∷ zs) x sc c (inl e) = subst (λ (y : KerPath). HasSets w s t (assigned_of m y) sc) (sym e) c.0
sets_of w m s t (z ∷ zs) x sc c (inr e) = sets_of w m s t zs x sc c.1 e

-- the join speaks of real faults, so both directions may ask for one
join_real : {f : Fault} {M N : Fault → Type 0} → ((g : Fault) → IsFault g → M g → N g) → ((g : Fault) → IsFault g → N g → M g) → IsJoin f M → IsJoin f N
join_real {f = f} {M = M} {N = N} h k j = record { counts = λ g n m. j.counts g n (k g n m); is_met = by f h j.is_met }
  where
    by : (f : Fault) → ((g : Fault) → IsFault g → M g → N g) → (f ≡ NoFault) ⊎ M f → (f ≡ NoFault) ⊎ N f
    by f h (inl e) = inl e
    by NoFault h (inr m) = inl refl
    by (IsWrong p) h (inr m) = inr (h (IsWrong p) tt m)
    by (IsBig p) h (inr m) = inr (h (IsBig p) tt m)

-- the law of paths, for paths with their assignments
pub by_assigned : (w : Width) (m : Marks) (k : Ker) (sc : Scope) (s t : State) (e : Effect) → IsByKerPaths w s t (paths m k) sc e → ReadsNext m s t →
    AllHaveSets w s t (map (assigned_of m) (paths m k)) sc → IsByAssigned w s t (map (assigned_of m) (paths m k)) sc e
by_assigned w m k sc s t e x r d =
    record {
      holds = (
        λ e. let y = x.holds.0 e in
            (assigned_of m y.0, one_map (assigned_of m) y.0 (paths m k) y.1, (y.2.0, (marked_holds w m s t r [] y.0.steps y.2.0 sc).0 y.2.1)),
        λ y. let z = map_one (assigned_of m) y.0 (paths m k) y.1 in
            x.holds.1 (z.0, z.1, (y.2.0, (marked_holds w m s t r [] z.0.steps y.2.0 sc).1 (subst (λ (u : AssignedPath). AssignedHolds w s t u y.2.0 sc) z.2 y.2.1))),
      );
      fault = join_real
          (λ g n y. (
            assigned_of m y.0,
            one_map (assigned_of m) y.0 (paths m k) y.1,
            (y.2.0, marked_meets w m s t r [] y.0.steps y.2.0 sc g n (sets_of w m s t (paths m k) y.0 sc d y.1) y.2.1),
          ))
          (λ g n y. let z = map_one (assigned_of m) y.0 (paths m k) y.1 in
          (z.0, z.1, (y.2.0, marked_met w m s t r [] z.0.steps y.2.0 sc g n (subst (λ (u : AssignedPath). AssignedMeets w s t u y.2.0 sc g) z.2 y.2.1))))
          x.fault;
    }
