use Rattle.std.proofs.lemmas.Int.{to_z-of_z}
use Rattle.std.specs.Ordering.{int_eq}
use Rattle.std.proofs.Common.{◌≡◌, pos, rules, sym, ap}
use Rattle.tla_values.specs.Show.{is_at, shown}
use Rattle.tla_values.proofs.ShowLemmas.{shown-bool, shown-int, shown-text, shown-set, shown-fun}
use Rattle.tla_values.proofs.printing.is_number.Goals as goal

pub returns-in-Int : goal.returns-in-Int
returns-in-Int c =
    let e : int_eq c.in-Int.z (pos c.args.n) ≡ is_at c.args.n (shown c.args.v.now).number = ap (λ s. is_at c.args.n s.number) (sym (shown-int _ _ c.in-Int.is)) in
    search (rules, to_z-of_z)

pub returns-in-Bool : goal.returns-in-Bool
returns-in-Bool c = ap (λ s. is_at c.args.n s.number) (sym (shown-bool _ _ c.in-Bool.is))

pub returns-in-Text : goal.returns-in-Text
returns-in-Text c = ap (λ s. is_at c.args.n s.number) (sym (shown-text _ _ c.in-Text.is))

pub returns-in-Set : goal.returns-in-Set
returns-in-Set c = ap (λ s. is_at c.args.n s.number) (sym (shown-set _ _ c.in-Set.is))

pub returns-in-Fun : goal.returns-in-Fun
returns-in-Fun c = ap (λ s. is_at c.args.n s.number) (sym (shown-fun _ _ c.in-Fun.is))
