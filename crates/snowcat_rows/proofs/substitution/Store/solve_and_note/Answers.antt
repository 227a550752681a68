use Rattle.std.proofs.Common.{◌≡◌, length, rules, sym, subst}
use Rattle.snowcat_rows.specs.declared.places.Places.{Places}
use Rattle.snowcat_rows.specs.inner.Places.{Indexed}
use Rattle.snowcat_rows.proofs.Stores.{still_indexed}
use Rattle.snowcat_rows.proofs.substitution.Store.solve_and_note.Goals as goal

pub returns-in_err-solve-clause-kept : goal.returns-in_err-solve-clause-kept
returns-in_err-solve-clause-kept c =
    let P : Places → Type 0 = λ z. Indexed z c.args.self.now.bindings.items in
    (c.in_err-solve.ensures.further.0, subst P (sym c.in_err-solve.ensures.further.1) c.requires.sound.1.1.0)

pub note_places-requires-clause-indexed : goal.note_places-requires-clause-indexed
note_places-requires-clause-indexed c =
    let mark : c.len-mark.result ≡ length c.args.self.now.bindings.items = search rules in
    still_indexed c.args.self.now.places c.solve.new.self.places c.args.self.now.bindings.items c.solve.new.self.bindings.items c.as_slice.result.now c.len-mark.result
    c.requires.sound.1.1.0 c.in_ok-solve.ensures.further.1 c.in_ok-solve.ensures.further.0 c.as_slice.ensures.value mark
