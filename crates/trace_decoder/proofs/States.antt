-- The values of several cells.
use Rattle.std.proofs.Common.{◌≡◌, ℕ, zero, suc, ◌<◌, ◌≤◌, Bool, List, [], ◌∷◌, ◌++◌, All, get_or, length, map, take, drop, sym, refl, ◌∙◌, ap, ap₂, subst, arith}
use Rattle.std.proofs.lemmas.List.{length-map, length-take-le, take-append-drop}
use Rattle.tla_values.specs.Sets.{Normal}
use Rattle.tla_values.specs.declared.value.Value.{Value}
use Rattle.tla_meaning.specs.Executions.{IsState}
use Rattle.tla_meaning.specs.declared.job.Job.{Job}
use Rattle.tla_meaning.specs.declared.job.State.{State}
use Rattle.cell_arena.specs.declared.build.Build.{Build}
use Rattle.cell_arena.specs.declared.kinds.CellId.{CellId}
use Rattle.cell_arena.specs.Cells.{Cells}
use Rattle.cell_arena.specs.Decode.{decode}
use Rattle.cell_arena.specs.Growth.{Grows}
use Rattle.cell_arena.proofs.Growing.{decode-assigned, decode-before}
use Rattle.cell_merge.proofs.Normals.{decoded-normal}

all-made : {X Y : Type 0} (P : Y → Type 0) (f : X → Y) → ((x : X) → P (f x)) → (xs : List X) → All P (map f xs)
all-made P f h [] i d lt = absurd (omega arith)
all-made P f h (x ∷ xs) zero d lt = h x
all-made P f h (x ∷ xs) (suc i) d lt = all-made P f h xs i d (omega arith)

pub decoded-state : (job : Job) (s : State) (c : Cells) (a : List Bool) (ids : List CellId) → s.vals ≡ map (decode c a) ids → length ids ≡ length job.names →
    IsState job s
decoded-state job s c a ids e n = record {
  fills = ap length e ∙ length-map ids (decode c a) ∙ n;
  normal = rw e (all-made Normal (decode c a) (decoded-normal c a) ids);
}

map-same : {X Y : Type 0} (f g : X → Y) (xs : List X) → All (λ x. f x ≡ g x) xs → map f xs ≡ map g xs
map-same f g [] h = refl
map-same f g (x ∷ xs) h = ap₂ (λ y ys. y ∷ ys) (h zero x (omega arith)) (map-same f g xs (λ i d lt. h (suc i) d (omega arith)))

-- by the variables of the formula alone
pub by-variables : (b : Build) (id : CellId) (a : List Bool) → b.formula.vars ≤ length a → decode b.arena a id ≡ decode b.arena (take b.formula.vars a) id
by-variables b id a le =
    let n = b.formula.vars in
    ap (λ (l : List Bool). decode b.arena l id) (sym (take-append-drop n a)) ∙ decode-assigned b id (take n a) (drop n a) (length-take-le n a le)

pub state-stays : (old new : Build) (ids : List CellId) (a more : List Bool) → Grows old new → All (λ id. id.index < length old.arena.kinds) ids →
    old.formula.vars ≤ length a → old.formula.vars ≤ length more → take old.formula.vars more ≡ take old.formula.vars a →
    map (decode new.arena more) ids ≡ map (decode old.arena a) ids
state-stays old new ids a more g there le more-le e =
    map-same (decode new.arena more) (decode old.arena a) ids (λ i d lt. one (get_or ids i d) (there i d lt))
  where
    one : (id : CellId) → id.index < length old.arena.kinds → decode new.arena more id ≡ decode old.arena a id
    one id lt =
        decode-before old new more id g lt ∙ by-variables old id more more-le ∙ ap (λ (l : List Bool). decode old.arena l id) e ∙ sym (by-variables old id a le)
