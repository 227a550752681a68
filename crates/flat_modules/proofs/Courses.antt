-- Where mentions lead.
use Rattle.std.proofs.Common.{◌≡◌, ◌∙◌, ◌==◌, Bool, false, cond, ℕ, suc, List, [], ◌∷◌, ◌++◌, length, Option, Some, None, Result, Ok, Err, IfOk, ⊎_elim, ap, sym}
use Rattle.std.proofs.lemmas.Bool.Decides.{eqb_tells}
use Rattle.std.specs.declared.alloc.AllocError.{AllocError}
use Rattle.tla_meaning.specs.declared.modules.Module.{Module}
use Rattle.tla_meaning.specs.Flattening.{Modules, mentioned_files}
use Rattle.tla_meaning.specs.ReadingOrder.{from_name, is_among, mention, one_by_one}
use Rattle.tla_meaning.specs.ReadingOrder as order
use Rattle.tla_meaning.specs.Scopes.{find_last}
use Rattle.flat_modules.specs.Courses.{course_of}
use Rattle.flat_modules.specs.declared.course.Course.{Course}

other_number : (a b : ℕ) → (a ≡ b → ⊥) → (a == b) ≡ false
other_number a b f = ⊎_elim (λ h. absurd (f h.1)) (λ h. h.0) (eqb_tells a b)

module _ (n : ℕ) (ms : Modules) (chain : List (List ℕ)) (x : List ℕ) (read : List (List ℕ)) (m : Module) where
  abbrev behind_it : order.Course
  behind_it = one_by_one (mention n ms (chain ++ x ∷ [])) (mentioned_files m) (read ++ x ∷ [])

  found_so : (a b c : Bool) (o : Option Module) → a ≡ false → b ≡ false → c ≡ false → Some m ≡ o →
      behind_it ≡ cond a (order.Cycle (from_name x chain ++ x ∷ [])) (cond b (order.Whole read) (cond c order.TooMany
      (elim o [ None ↦ order.Next x read | Some m ↦ one_by_one (mention n ms (chain ++ x ∷ [])) (mentioned_files m) (read ++ x ∷ []) ])))
  found_so a b c o p q r s =
      let found : Option Module → order.Course = λ o. elim o [ None ↦ order.Next x read | Some m ↦ one_by_one (mention n ms (chain ++ x ∷ [])) (mentioned_files m) (read ++ x ∷ []) ] in
      ap found s ∙ ap (λ z. cond z order.TooMany (found o)) (sym r) ∙ ap (λ z. cond z (order.Whole read) (cond c order.TooMany (found o))) (sym q)
      ∙ ap (λ z. cond z (order.Cycle (from_name x chain ++ x ∷ [])) (cond b (order.Whole read) (cond c order.TooMany (found o)))) (sym p)

  pub mention_inside : (d : ℕ) (r : Result Course AllocError) → d ≡ suc n → is_among x chain ≡ false → is_among x read ≡ false → (length read ≡ 64 → ⊥) → Some m ≡ find_last x ms →
      IfOk r (λ c. course_of c ≡ behind_it) → IfOk r (λ c. course_of c ≡ mention d ms chain x read)
  mention_inside d (Ok c) up p q e s h = h ∙ found_so (is_among x chain) (is_among x read) (length read == 64) (find_last x ms) p q (other_number (length read) 64 e) s ∙ ap (λ k. mention k ms chain x read) (sym up)
  mention_inside d (Err e) up p q f s h = tt
