-- Modules that are read one by one, and where reading stops.
use Rattle.std.proofs.Common.{◌≡◌, ◌∙◌, ◌≤◌, arith, length-append, ℕ, List, [], ◌∷◌, ◌++◌, length, Option, Result, Ok, Err, MatchResult, refl, ap, sym, subst, append_assoc, append-nil, inl, inr}
use Rattle.std.specs.Prelude.{◌⊎◌}
use Rattle.tla_meaning.specs.declared.modules.Module.{Module}
use Rattle.tla_meaning.specs.Flattening.{Modules}
use Rattle.tla_modules.specs.declared.fault.ModuleFault.{ModuleFault}
use Rattle.tla_modules.specs.declared.fault.ModuleFault.TheVariants.{Missing, NameDiffers, Cycle, Unknown, Twice, Arity, TooMany, Lex, Parse, Read, TooLong, Memory}
use Rattle.tla_modules.specs.declared.fault.Stop.{Stop}
use Rattle.flat_modules.specs.Courses.{course_of as told_course}
use Rattle.flat_modules.specs.declared.course.Course.{Course}
use Rattle.flat_modules.specs.declared.course.Course.TheVariants as told
use Rattle.std.specs.Result.{IsErrAnd}
use Rattle.tla_meaning.specs.ReadingOrder.{course}
use Rattle.tla_values.specs.FileNames.{module_name}
use Rattle.tla_modules.proofs.Order.{Named, few_before, named_next}
use Rattle.tla_modules.specs.Refusals.{IsCause, IsCounted, handed}
use Rattle.tla_modules.specs.Sources.{AreRead, IsGiven, IsRead, LeadTo, file_of, files_of}
use Rattle.tla_modules.specs.inner.Reading.{IsSameOrWant, IsStop, IsStopAt, IsUnreadHere, file_in}
use Rattle.tool_outside.specs.Outside.{Folder}

pub given_at : {held : Option Folder} {m n : ℕ} {f g : List ℕ} {x : Module} → IsGiven held m f x → m ≡ n → f ≡ g → IsGiven held n g x
given_at {held} {m} {n} {f} {g} {x} h e k = subst (λ l. IsGiven held n l x) k (subst (λ i. IsGiven held i f x) e h)

pub read_more : {held : Option Folder} {root : List ℕ} (before xs : Modules) (x : List ℕ × Module) → AreRead held root before xs → IsRead held root (before ++ xs) x →
    AreRead held root before (xs ++ x ∷ [])
read_more {held} {root} before [] x h k = (subst (λ l. IsRead held root l x) (append-nil before) k, tt)
read_more {held} {root} before (y ∷ ys) x h k =
    (h.0, read_more (before ++ y ∷ []) ys x h.1 (subst (λ l. IsRead held root l x) (sym (append_assoc before (y ∷ []) ys)) k))

-- ---- where reading stops

no_sum : {P : Type 0} {B : List ℕ → Type 0} → ⊥ ⊎ ((b : List ℕ) × B b × ⊥) → P
no_sum (inl h) = absurd h
no_sum (inr h) = absurd h.2

module _ (held : Option Folder) (root : List ℕ) (ms : Modules) (x : List ℕ) (lead : LeadTo ms root x) where
  cause_here : (fs : List (List ℕ)) (e : ModuleFault) → fs ≡ handed e (file_of root x) → IsUnreadHere held (length ms) (file_of root x) x e → IsCause held root ms (files_of root ms ++ fs) e
  cause_here fs (Missing y) k h = (x, lead, h, ap (λ l. files_of root ms ++ l) k)
  cause_here fs (NameDiffers y z) k h = (x, lead, h, ap (λ l. files_of root ms ++ l) k)
  cause_here fs (Lex e) k h = (x, lead, h, ap (λ l. files_of root ms ++ l) k)
  cause_here fs (Parse e) k h = (x, lead, h, ap (λ l. files_of root ms ++ l) k)
  cause_here fs (Read f) k h = (x, lead, h, ap (λ l. files_of root ms ++ l) k)
  cause_here fs (TooLong f) k h = (x, lead, h, ap (λ l. files_of root ms ++ l) k)
  cause_here fs (Memory e) k h = tt
  cause_here fs (Cycle xs) k h = no_sum h
  cause_here fs (Unknown y p) k h = no_sum h
  cause_here fs (Twice y p q) k h = no_sum h
  cause_here fs (Arity p m n) k h = no_sum h
  cause_here fs TooMany k h = no_sum h

  pub stop_here : (stop : Stop) → IsStopAt held (length ms) (file_of root x) x stop → IsStop held root ms stop
  stop_here stop h = cause_here (file_in stop.file) stop.fault h.file_so h.unread

pub lead_next : {c : Course} {ms : Modules} (old : Modules) {n : List ℕ} (root : List ℕ) {x : List ℕ} {read : List (List ℕ)} → told_course c ≡ course ms n → c ≡ told.Next x read → ms ≡ old → n ≡ module_name root → LeadTo old root x
lead_next {c} {ms} old {n} root {x} {read} h k same name =
    (read, ap (λ l. course l (module_name root)) (sym same) ∙ ap (course ms) (sym name) ∙ sym h ∙ ap told_course k)

pub err_is : {X E : Type 0} (r : Result X E) (e : E) (P : X → Type 0) (Q : E → Type 0) → IsErrAnd r (λ d. d ≡ e) → Q e → MatchResult r P Q
err_is (Ok x) e P Q h q = absurd h
err_is (Err d) e P Q h q = subst Q (sym h) q

pub stopped : {H K : Option Folder} (root x : List ℕ) (old new : Modules) (stop : Stop) → K ≡ H → LeadTo old root x → (new ≡ old) × IsStopAt K (length old) (file_of root x) x stop → IsStop H root new stop
stopped {H} {K} root x old new stop same lead h =
    subst (λ l. IsStop H root l stop) (sym h.0)
    (stop_here H root old x lead stop (subst (λ k. IsStopAt k (length old) (file_of root x) x stop) same h.1))

pub one_more : {H K : Option Folder} (root x : List ℕ) (old new : Modules) → K ≡ H → LeadTo old root x → AreRead H root [] old →
    ((m : Module) × (new ≡ old ++ (x, m) ∷ []) × IsGiven K (length old) (file_of root x) m × (m.name ≡ x)) → AreRead H root [] new
one_more {H} {K} root x old new same lead read h =
    subst (λ l. AreRead H root [] l) (sym h.1)
    (read_more [] old (x, h.0) read
    (record { next = lead; given = subst (λ k. IsGiven k (length old) (file_of root x) h.0) same h.2; named = h.3 }))

-- ---- what is counted

rises : (old new : ℕ) (e : ModuleFault) → IsCounted old new e → old ≤ new
rises old new (Read f) h = h.1
rises old new (Memory e) h = h
rises old new (Missing y) h = omega arith
rises old new (NameDiffers y z) h = omega arith
rises old new (Cycle xs) h = omega arith
rises old new (Unknown y p) h = omega arith
rises old new (Twice y p q) h = omega arith
rises old new (Arity p m n) h = omega arith
rises old new TooMany h = omega arith
rises old new (Lex e) h = omega arith
rises old new (Parse e) h = omega arith
rises old new (TooLong f) h = omega arith

pub counted_same : (old new : ℕ) (e f : ModuleFault) → IsSameOrWant e f → IsCounted old new e → IsCounted old new f
counted_same old new e f (inl same) h = subst (IsCounted old new) (sym same) h
counted_same old new e f (inr want) h = subst (IsCounted old new) (sym want) (rises old new e h)

-- ---- how many modules are read

at_most_64 : (held : Option Folder) (root : List ℕ) (before xs : Modules) → AreRead held root before xs → Named before (course before (module_name root)) → length before ≤ 64 → length (before ++ xs) ≤ 64
at_most_64 held root before [] h named few = omega (arith, ap length (append-nil before))
at_most_64 held root before (x ∷ xs) h named few =
    let lt = few_before before (module_name root) x.0 h.0.next.0 named h.0.next.1 in
    let rest = at_most_64 held root (before ++ x ∷ []) xs h.1 (named_next before x (module_name root) h.0.next.0 named h.0.next.1) (omega (arith, length-append before (x ∷ []))) in
    omega (arith, ap length (append_assoc before (x ∷ []) xs))

pub few_read : (held : Option Folder) (root : List ℕ) (ms : Modules) → AreRead held root [] ms → length ms ≤ 64
few_read held root ms h = at_most_64 held root [] ms h refl (omega arith)
