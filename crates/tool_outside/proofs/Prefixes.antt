-- Bytes that are written or saved in several pieces.
use Rattle.std.proofs.Common.{◌≡◌, inl, inr, ℕ, ◌+◌, ◌-◌, ◌≤◌, min, length, List, ◌++◌, take, drop, Option, None, Some, Result, Ok, Err, OnErr, refl, sym, ap, subst, ◌∙◌, arith}
use Rattle.std.specs.Io.KnownBytes.{Appends}
use Rattle.std.proofs.KnownBytes.{Appends-trans, Appends-nil}
use Rattle.std.proofs.Math.Seq.{take-add}
use Rattle.std.proofs.lemmas.List.{take-take, take_min, length-take, take_all}
use Rattle.tool_outside.specs.Causes.{IsCut, WritesPrefix}
use Rattle.tool_outside.specs.Outside.{Folder, bytes_or_none, Changes, AddsPrefix}

-- a fact that holds is a fact of each error, as at the exit of a `?`
pub after_error : {T E : Type 0} (result : Result T E) (P : Type 0) → P → OnErr result P
after_error (Ok x) P p = tt
after_error (Err e) P p = p

-- the piece from `at` to `end`
pub whole : (bytes : List ℕ) (at end : ℕ) → at ≤ end → take at bytes ++ take (end - at) (drop at bytes) ≡ take end bytes
whole bytes at end le =
    let sum : at + (end - at) ≡ end = omega arith in
    sym (take-add at (end - at) bytes) ∙ ap (λ (n : ℕ). take n bytes) sum

-- a prefix of a piece of at most `size` bytes
pub part : (bytes : List ℕ) (at size count : ℕ) → (n : ℕ) × (take at bytes ++ take count (take size (drop at bytes)) ≡ take n bytes)
part bytes at size count =
    let rest = take size (drop at bytes) in
    let some = min count (length rest) in
    let short : some ≤ size = omega (arith, length-take size (drop at bytes)) in
    let same : take count rest ≡ take some (drop at bytes) = sym (take_min count rest) ∙ take-take some size (drop at bytes) short in
    (at + some, ap (λ (l : List ℕ). take at bytes ++ l) same ∙ sym (take-add at some bytes))

-- nothing was written so far
pub nothing_written : (a : Option (List ℕ)) (report : List ℕ) → WritesPrefix a a report
nothing_written a report = (0, Appends-nil a)

-- what was written whole
pub all_of : (a b : Option (List ℕ)) (report : List ℕ) → Appends a b report → WritesPrefix a b report
all_of a b report added = (length report, subst (Appends a b) (sym (take_all (length report) report (omega arith))) added)

-- the next piece was written whole
pub goes_on : (a b c : Option (List ℕ)) (bytes : List ℕ) (at end : ℕ) → at ≤ end → Appends a b (take at bytes) → Appends b c (take (end - at) (drop at bytes)) → Appends a c (take end bytes)
goes_on a b c bytes at end le before piece = subst (Appends a c) (whole bytes at end le) (Appends-trans a b c _ _ before piece)

-- of the next piece a prefix was written
pub cut_short : (a b c : Option (List ℕ)) (bytes : List ℕ) (at size : ℕ) → Appends a b (take at bytes) → WritesPrefix b c (take size (drop at bytes)) → WritesPrefix a c bytes
cut_short a b c bytes at size before piece =
    let to = part bytes at size piece.0 in
    (to.0, subst (Appends a c) to.1 (Appends-trans a b c _ _ before piece.1))

-- two changes of one file
pub changes_then : (a b c : Option Folder) (name : List ℕ) (P Q R : Option (List ℕ) → Option (List ℕ) → Type 0) → Changes a b name P → Changes b c name Q
    → ((x y z : Option (List ℕ)) → P x y → Q y z → R x z) → Changes a c name R
changes_then None b c name P Q R first second join = tt
changes_then (Some x) None c name P Q R first second join = absurd first
changes_then (Some x) (Some y) None name P Q R first second join = absurd second
changes_then (Some x) (Some y) (Some z) name P Q R first second join = record {
  this = join _ _ _ first.this second.this;
  others = λ other apart. second.others other apart ∙ first.others other apart;
}

-- a change said more weakly
pub changes_as : (a b : Option Folder) (name : List ℕ) (P Q : Option (List ℕ) → Option (List ℕ) → Type 0) → Changes a b name P → ((x y : Option (List ℕ)) → P x y → Q x y) → Changes a b name Q
changes_as None b name P Q change weaker = tt
changes_as (Some x) None name P Q change weaker = absurd change
changes_as (Some x) (Some y) name P Q change weaker = record { this = weaker _ _ change.this; others = change.others }

-- a line was added whole to the file
pub file_goes_on : (a b c : Option Folder) (name bytes : List ℕ) (at end : ℕ) → at ≤ end → Changes a b name (λ _ new. new ≡ Some (take at bytes))
    → Changes b c name (λ old new. new ≡ Some (bytes_or_none old ++ take (end - at) (drop at bytes))) → Changes a c name (λ _ new. new ≡ Some (take end bytes))
file_goes_on a b c name bytes at end le first second = changes_then a b c name _ _ _ first second (λ x y z was is.
    is ∙ ap (λ (o : Option (List ℕ)). Some (bytes_or_none o ++ take (end - at) (drop at bytes))) was ∙ ap (λ (l : List ℕ). Some l) (whole bytes at end le))

-- of a line a prefix was added to the file
pub file_cut_short : (a b c : Option Folder) (name bytes : List ℕ) (at size : ℕ) → Changes a b name (λ _ new. new ≡ Some (take at bytes))
    → Changes b c name (AddsPrefix (take size (drop at bytes))) → Changes a c name (IsCut bytes)
file_cut_short a b c name bytes at size first second = changes_then a b c name _ _ _ first second (λ x y z was is.
    elim is [
      | inl same ↦ inr (at, same ∙ was)
      | inr added ↦
          let to = part bytes at size added.0 in
          inr (to.0, added.1 ∙ ap (λ (o : Option (List ℕ)). Some (bytes_or_none o ++ take added.0 (take size (drop at bytes)))) was ∙ ap (λ (l : List ℕ). Some l) to.1)
    ])

-- a file that was saved whole
pub saved_whole : (a b c : Option Folder) (name bytes saved : List ℕ) → b ≡ a → saved ≡ bytes → Changes b c name (λ _ new. new ≡ Some saved) → Changes a c name (IsCut bytes)
saved_whole a b c name bytes saved same is change =
    let all : saved ≡ take (length bytes) bytes = is ∙ sym (take_all (length bytes) bytes (omega arith)) in
    subst (λ (old : Option Folder). Changes old c name (IsCut bytes)) same (changes_as b c name _ _ change (λ x y new. inr (length bytes, new ∙ ap (λ (l : List ℕ). Some l) all)))

-- nothing was saved so far
pub nothing_saved : (a b : Option Folder) (name bytes : List ℕ) → b ≡ a → Changes a b name (IsCut bytes)
nothing_saved a b name bytes same = subst (λ (new : Option Folder). Changes a new name (IsCut bytes)) (sym same) (unchanged a)
  where
    unchanged : (held : Option Folder) → Changes held held name (IsCut bytes)
    unchanged None = tt
    unchanged (Some folder) = record { this = inl refl; others = λ other apart. refl }
