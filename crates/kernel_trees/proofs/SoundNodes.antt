-- What soundness asks of a node.
use Rattle.std.proofs.Common.{◌≡◌, Bool, List, map, sym, ◌∙◌, ap}
use Rattle.tla_meaning.specs.declared.place.Place.{Place}
use Rattle.kernel_trees.specs.declared.kernel.Ker.{Ker, roll-Ker, out-Ker, roll-out-Ker}
use Rattle.kernel_trees.specs.declared.kernel.Ker.TheOpen.{Ker-F}
use Rattle.kernel_trees.specs.declared.kernel.Ker.TheFolds.{fold-roll-Ker}
use Rattle.kernel_trees.specs.TypeKinds.{Kind, kind_of}
use Rattle.kernel_trees.specs.Sound.{Context, Asked, Part, passes, sound_at, sound, infinite_places, infinite_at}
use Rattle.kernel_trees.proofs.Trees.{recur-roll}

abbrev pub with_asked : List Kind → List Ker → List Part
with_asked names ks = map (λ k. (k, sound names k)) ks

abbrev pub sound_node : List Kind → Ker-F Ker → Asked
sound_node names x c b = passes (λ a. sound_at names x.op a x.binds (with_asked names x.args) c b) (kind_of x.ty)

pub sound-roll : (names : List Kind) (x : Ker-F Ker) (c : Context) (b : Bool) → sound names (roll-Ker x) c b ≡ sound_node names x c b
sound-roll names x c b =
    ap (λ (f : Asked). f c b)
    (recur-roll (λ x c b. passes (λ a. sound_at names x.op a x.binds x.args c b) (kind_of x.ty)) x)

pub sound_out : (names : List Kind) (k : Ker) (c : Context) (b : Bool) → sound names k c b ≡ sound_node names (out-Ker k) c b
sound_out names k c b = ap (λ k. sound names k c b) (sym (roll-out-Ker k)) ∙ sound-roll names (out-Ker k) c b

pub infinite-roll : (x : Ker-F Ker) → infinite_places (roll-Ker x) ≡ infinite_at x.op x.place (map infinite_places x.args)
unfolding infinite_places
infinite-roll x = fold-roll-Ker (List Place) (λ x. infinite_at x.op x.place x.args) x
