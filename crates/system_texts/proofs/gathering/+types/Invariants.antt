use Rattle.std.proofs.Common.{◌≡◌, ◌++◌, ◌∷◌, map, flat_map, take}
use Rattle.system_texts.specs.inner.Gathered.{field_names}
use Rattle.system_texts.proofs.gathering.+types.Given as goal

abbrev pub invariant-push_types-loop-ty : goal.invariant-push_types-loop-ty
invariant-push_types-loop-ty l =
    map (λ t. t.now) l.out.items ≡ map (λ t. t.now) l.fn.out.items ++ flat_map field_names (take l.ty-index l.types)

abbrev pub invariant-push_fields-loop-field : goal.invariant-push_fields-loop-field
invariant-push_fields-loop-field l =
    map (λ t. t.now) l.out.items ≡ map (λ t. t.now) l.fn.out.items ++ flat_map (λ f. f.0 ∷ field_names f.1) (take l.field-index l.fields)
