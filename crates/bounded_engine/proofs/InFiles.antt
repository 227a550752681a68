-- The places of a verdict are in the files of its job, as those of the job's trees are.
use Rattle.std.proofs.Common.{◌≡◌, ◌<◌, ℕ, List, [], ◌∷◌, length, arith, subst}
use Rattle.std.proofs.lemmas.List.Elements.{All-cons}
use Rattle.fault_places.proofs.Placed.{each_placed, next_placed, start_placed}
use Rattle.fault_places.specs.Places.{IsPlaced}
use Rattle.front_end.specs.Accepted.{IsInFiles}
use Rattle.tla_meaning.specs.Numbers.{Width}
use Rattle.tla_meaning.specs.declared.job.Job.{Job}
use Rattle.tla_meaning.specs.declared.place.Place.{Place}
use Rattle.trace_text.specs.declared.verdict.Fault.{Fault}
use Rattle.trace_text.specs.declared.verdict.Fault.TheVariants.{InvFalse, InvWrong, StartWrong, StepWrong}
use Rattle.trace_text.specs.declared.verdict.Part.{Part}
use Rattle.trace_text.specs.declared.verdict.Part.TheVariants as part
use Rattle.trace_text.specs.declared.verdict.Trace.{Trace}
use Rattle.bounded_engine.specs.Verdicts.{AreInFiles, ShowsBig, ShowsFault, places_of_fault}

pub no_places : (job : Job) → AreInFiles job []
no_places job = λ i d lt. absurd (omega arith)

one_place : (job : Job) (p : Place) → p.file < length job.files → AreInFiles job (p ∷ [])
one_place job p lt = All-cons (λ q. q.file < length job.files) p [] lt (no_places job)

module _ (w : Width) (job : Job) (placed : IsInFiles job) where
  pub fault_in_files : (n : ℕ) (fault : Fault) (t : Trace) → ShowsFault w job n fault t → AreInFiles job (places_of_fault fault)
  fault_in_files n (StartWrong p) t h =
      one_place job p (subst (IsPlaced (length job.files)) h.gives (start_placed (length job.files) w job h.attempt placed))
  fault_in_files n (StepWrong p) t h =
      one_place job p (subst (IsPlaced (length job.files)) h.gives (next_placed (length job.files) w job h.last h.attempt placed))
  fault_in_files n (InvFalse name) t h = no_places job
  fault_in_files n (InvWrong name p) t h =
      let f = h.first in
      one_place job p (subst (IsPlaced (length job.files)) f.gives
      (each_placed (length job.files) w job f.before f.behind name f.broken h.last h.last placed f.invariants))

  pub big_in_files : (n : ℕ) (of : Part) (p : Place) (t : Trace) → ShowsBig w job n of p t → AreInFiles job (p ∷ [])
  big_in_files n part.Start p t h =
      one_place job p (subst (IsPlaced (length job.files)) h.gives (start_placed (length job.files) w job h.attempt placed))
  big_in_files n part.Step p t h =
      one_place job p (subst (IsPlaced (length job.files)) h.gives (next_placed (length job.files) w job h.last h.attempt placed))
  big_in_files n (part.Inv name) p t h =
      let f = h.first in
      one_place job p (subst (IsPlaced (length job.files)) f.gives
      (each_placed (length job.files) w job f.before f.behind name f.broken h.last h.last placed f.invariants))
  big_in_files n part.Assumption p t h = absurd h
