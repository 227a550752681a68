-- Runs of bytes that pass a test.
use Rattle.std.proofs.Common.{◌≡◌, ℕ, ◌<◌, ◌≤◌, Bool, true, false, not, ◌&&◌, List, [], ◌∷◌, ◌++◌, length, take, drop, get_or, refl, ap, ◌∙◌, sym, subst, drop-cons}
use Rattle.std.specs.List.{AllByRecursion, list_all}
use Rattle.std.proofs.lemmas.List.{drop_all}
use Rattle.tla_values.proofs.TextLaw.{runs_apart}
use Rattle.trace_text.specs.inner.Reading.{IsRun, Stops}

module _ (test : ℕ → Bool) (bytes front rest : List ℕ) (i : ℕ) (passes : list_all test (take i bytes) ≡ true)
    (is : bytes ≡ front ++ rest) (front_is : front ≡ take i bytes) (rest_is : rest ≡ drop i bytes) where
  -- a byte that does not pass ends it
  pub run_stops : i < length bytes → test (get_or bytes i 0) ≡ false → IsRun test bytes front rest
  run_stops lt fails = record {
    is = is;
    passes = ap (list_all test) front_is ∙ passes;
    stops = subst (Stops test) (sym (rest_is ∙ drop-cons bytes i 0 lt)) (ap not fails);
  }

  -- and so does the end
  pub run_ends : length bytes ≤ i → IsRun test bytes front rest
  run_ends le = record {
    is = is;
    passes = ap (list_all test) front_is ∙ passes;
    stops = subst (Stops test) (sym (rest_is ∙ drop_all i bytes le)) tt;
  }

pub left_of : (a b : Bool) → (a && b) ≡ true → a ≡ true
left_of true b h = refl
left_of false b h = h

pub right_of : (a b : Bool) → (a && b) ≡ true → b ≡ true
right_of true b h = h
right_of false b h = cc

pub each : (test : ℕ → Bool) (xs : List ℕ) → list_all test xs ≡ true → AllByRecursion (λ b. test b ≡ true) xs
each test [] h = tt
each test (x ∷ xs) h = (left_of (test x) (list_all test xs) h, each test xs (right_of (test x) (list_all test xs) h))

-- there is one such run
pub one_run : (test : ℕ → Bool) (bytes front rest ds r : List ℕ) → IsRun test bytes front rest → list_all test ds ≡ true → Stops test r →
    bytes ≡ ds ++ r → (front ≡ ds) × (rest ≡ r)
one_run test bytes front rest ds r run all stops e =
    runs_apart test front ds rest r (each test front run.passes) (each test ds all) run.stops stops (sym run.is ∙ e)
