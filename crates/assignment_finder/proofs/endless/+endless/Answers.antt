use Rattle.std.proofs.Common.{◌∙◌, ◌++◌, List, ap, sym, append_assoc, flat_map, drop, ◌∷◌}
use Rattle.std.proofs.lemmas.List.{append-nil}
use Rattle.tla_meaning.specs.declared.place.Place.{Place}
use Rattle.kernel_trees.specs.Sound.{infinite_places}
use Rattle.assignment_finder.proofs.FormPlaces.{of_functions, of_int, of_nat, of_plain, of_records, of_sequences, of_subsets, of_text, of_tuples}
use Rattle.assignment_finder.proofs.endless.+endless.Goals as goal

pub push_endless-returns-in_ok-push-in-IntForm : goal.push_endless-returns-in_ok-push-in-IntForm
push_endless-returns-in_ok-push-in-IntForm t c =
    c.in_ok-push-in-IntForm.ensures.items ∙ ap (λ (ps : List Place). c.args.out.now.items ++ ps) (sym (of_int c.args.k.now c.in-IntForm.is))

pub push_endless-returns-in_ok-push-in-NatForm : goal.push_endless-returns-in_ok-push-in-NatForm
push_endless-returns-in_ok-push-in-NatForm t c =
    c.in_ok-push-in-NatForm.ensures.items ∙ ap (λ (ps : List Place). c.args.out.now.items ++ ps) (sym (of_nat c.args.k.now c.in-NatForm.is))

pub push_endless-returns-in_ok-push-in-TextForm : goal.push_endless-returns-in_ok-push-in-TextForm
push_endless-returns-in_ok-push-in-TextForm t c =
    c.in_ok-push-in-TextForm.ensures.items ∙ ap (λ (ps : List Place). c.args.out.now.items ++ ps) (sym (of_text c.args.k.now c.in-TextForm.is))

pub push_endless-returns-in_ok-push_all-in-SeqForm : goal.push_endless-returns-in_ok-push_all-in-SeqForm
push_endless-returns-in_ok-push_all-in-SeqForm t c =
    c.in_ok-push_all-in-SeqForm.ensures
    ∙ ap (λ (ps : List Place). ps ++ flat_map infinite_places (drop 0 c.as_slice.result.now)) c.in_ok-push-in-SeqForm.ensures.items
    ∙ append_assoc c.args.out.now.items (_ ∷ _) (flat_map infinite_places (drop 0 c.as_slice.result.now))
    ∙ ap (λ (ps : List Place). c.args.out.now.items ++ ps) (sym (of_sequences c.args.k.now c.as_slice.result.now c.as_slice.ensures c.in-SeqForm.is))

pub push_endless-returns-in_ok-push_all-in-Subsets : goal.push_endless-returns-in_ok-push_all-in-Subsets
push_endless-returns-in_ok-push_all-in-Subsets t c =
    c.in_ok-push_all-in-Subsets.ensures
    ∙ ap (λ (ps : List Place). c.args.out.now.items ++ ps) (sym (of_subsets c.args.k.now c.as_slice-in-Subsets.result.now c.as_slice-in-Subsets.ensures c.in-Subsets.is))

pub push_endless-returns-in_ok-push_all-in-Functions : goal.push_endless-returns-in_ok-push_all-in-Functions
push_endless-returns-in_ok-push_all-in-Functions t c =
    c.in_ok-push_all-in-Functions.ensures
    ∙ ap (λ (ps : List Place). c.args.out.now.items ++ ps) (sym (of_functions c.args.k.now c.as_slice-in-Functions.result.now c.as_slice-in-Functions.ensures c.in-Functions.is))

pub push_endless-returns-in_ok-push_all-in-RecForm : goal.push_endless-returns-in_ok-push_all-in-RecForm
push_endless-returns-in_ok-push_all-in-RecForm t c =
    c.in_ok-push_all-in-RecForm.ensures
    ∙ ap (λ (ps : List Place). c.args.out.now.items ++ ps) (sym (of_records c.args.k.now c.as_slice-in-RecForm.result.now c.as_slice-in-RecForm.ensures _ c.in-RecForm.is))

pub push_endless-returns-in_ok-push_all-in-TupForm : goal.push_endless-returns-in_ok-push_all-in-TupForm
push_endless-returns-in_ok-push_all-in-TupForm t c =
    c.in_ok-push_all-in-TupForm.ensures
    ∙ ap (λ (ps : List Place). c.args.out.now.items ++ ps) (sym (of_tuples c.args.k.now c.as_slice-in-TupForm.result.now c.as_slice-in-TupForm.ensures c.in-TupForm.is))

pub push_endless-returns-in_default : goal.push_endless-returns-in_default
push_endless-returns-in_default t c =
    sym (append-nil c.args.out.now.items)
    ∙ ap (λ (ps : List Place). c.args.out.now.items ++ ps) (sym (of_plain c.args.k.now (record {
      no_int = c.in_default.not-IntForm;
      no_nat = c.in_default.not-NatForm;
      no_text = c.in_default.not-TextForm;
      no_sequences = c.in_default.not-SeqForm;
      no_subsets = c.in_default.not-Subsets;
      no_functions = c.in_default.not-Functions;
      no_records = c.in_default.not-RecForm;
      no_tuples = c.in_default.not-TupForm;
    })))
