-- What a call that writes says, in other words.
use Rattle.std.proofs.Common.{◌≡◌, ◌∙◌, ℕ, List, Result, Ok, Err}
use Rattle.std.specs.Prelude.{OnOk}

pub as_told : {T E : Type 0} (r : Result T E) (new made text : List ℕ) → OnOk r (new ≡ made) → made ≡ text
    → OnOk r (new ≡ text)
as_told (Ok x) new made text e f = e ∙ f
as_told (Err x) new made text e f = tt
