-- A tree holds a marked name exactly where its meaning says so.
use Rattle.std.proofs.Common.{◌≡◌, ℕ, zero, suc, Bool, true, false, ◌||◌, List, [], ◌∷◌, ◌++◌, map, take, length, refl, sym, ◌∙◌, ap, ap₂}
use Rattle.std.specs.List.{list_any}
use Rattle.tla_values.specs.Order.{Layer}
use Rattle.tla_values.specs.declared.value.Value.{Value, out-Value}
use Rattle.tla_meaning.specs.declared.expr.Expr.{Expr}
use Rattle.tla_meaning.specs.declared.place.Place.{Place}
use Rattle.tla_meaning.specs.Numbers.{Width}
use Rattle.kernel_trees.specs.Paths.{mentions, mentions_at}
use Rattle.tla_meaning.specs.Scopes.{Scope, Denotation, bind}
use Rattle.tla_meaning.specs.Meaning.{Meaning, denotations, role, outer, inner}
use Rattle.tla_meaning.specs.Actions.{meaning, node, any_mentions, counts}
use Rattle.tla_meaning.specs.FreeNames.{marks}
use Rattle.tla_meaning.proofs.MeaningLemmas.{denotation-roll}
use Rattle.kernel_trees.specs.declared.kernel.Ker.{Ker}
use Rattle.kernel_trees.specs.declared.kernel.KerOp.{KerOp}
use Rattle.kernel_trees.specs.Trees.{as_expr, op_of, operands, constant, names_of, literal}
use Rattle.kernel_trees.proofs.Trees.{Each, by_nodes, ker-roll, mentions-roll}
use Rattle.tla_values.specs.declared.value.Value.TheOpen as layer
use Rattle.kernel_trees.specs.declared.kernel.KerOp.TheVariants as ker
use Rattle.tla_meaning.specs.declared.actions.Assignable.{Assignable}

-- meanings that hold a marked name, or do not, in every scope
abbrev pub Told : Assignable → List Meaning → List Bool → Type 0
Told m [] [] = Unit {0}
Told m [] (b ∷ bs) = ⊥
Told m (k ∷ ks) [] = ⊥
Told m (k ∷ ks) (b ∷ bs) = ((sc : Scope) → (k sc).mentions m ≡ b) × Told m ks bs

or_move : (b c d : Bool) → ((b || c) || d) ≡ (b || (c || d))
or_move true c d = refl
or_move false c d = refl

or_front : (b c d : Bool) → (c || (b || d)) ≡ (b || (c || d))
or_front true true d = refl
or_front true false d = refl
or_front false c d = refl

any_told : (m : Assignable) (p : Place) (ms : List Bool) (ks : List Meaning) (bs : List Bool) (a b : Scope) → Told m ks bs →
    (any_mentions m (outer p ms ks a) || any_mentions m (inner p ms ks b)) ≡ list_any (λ b. b) bs
any_told m p ms [] [] a b h = refl
any_told m p ms [] (c ∷ bs) a b h = absurd h
any_told m p ms (k ∷ ks) [] a b h = absurd h
any_told m p [] (k ∷ ks) (c ∷ bs) a b h =
    or_move ((k a).mentions m) (any_mentions m (outer p [] ks a)) (any_mentions m (inner p [] ks b))
    ∙ ap₂ (λ (x y : Bool). x || y) (h.0 a) (any_told m p [] ks bs a b h.1)
any_told m p (true ∷ ms) (k ∷ ks) (c ∷ bs) a b h =
    or_front ((k b).mentions m) (any_mentions m (outer p ms ks a)) (any_mentions m (inner p ms ks b))
    ∙ ap₂ (λ (x y : Bool). x || y) (h.0 b) (any_told m p ms ks bs a b h.1)
any_told m p (false ∷ ms) (k ∷ ks) (c ∷ bs) a b h =
    or_move ((k a).mentions m) (any_mentions m (outer p ms ks a)) (any_mentions m (inner p ms ks b))
    ∙ ap₂ (λ (x y : Bool). x || y) (h.0 a) (any_told m p ms ks bs a b h.1)

any_senses : (m : Assignable) (ks : List Meaning) (bs : List Bool) (a : Scope) → Told m ks bs →
    (any_mentions m (denotations ks a) || false) ≡ list_any (λ b. b) bs
any_senses m [] [] a h = refl
any_senses m [] (c ∷ bs) a h = absurd h
any_senses m (k ∷ ks) [] a h = absurd h
any_senses m (k ∷ ks) (c ∷ bs) a h =
    or_move ((k a).mentions m) (any_mentions m (denotations ks a)) false
    ∙ ap₂ (λ (x y : Bool). x || y) (h.0 a) (any_senses m ks bs a h.1)

told_take : (m : Assignable) (n : ℕ) (ks : List Meaning) (bs : List Bool) → Told m ks bs → Told m (take n ks) (take n bs)
told_take m zero ks bs h = tt
told_take m (suc n) [] [] h = tt
told_take m (suc n) [] (b ∷ bs) h = absurd h
told_take m (suc n) (k ∷ ks) [] h = absurd h
told_take m (suc n) (k ∷ ks) (b ∷ bs) h = (h.0, told_take m n ks bs h.1)

take_map : {X Y : Type 0} (f : X → Y) (n : ℕ) (xs : List X) → map f (take n xs) ≡ take n (map f xs)
take_map f zero xs = refl
take_map f (suc n) [] = refl
take_map f (suc n) (x ∷ xs) = ap (λ l. f x ∷ l) (take_map f n xs)

any_take : (n : ℕ) (bs : List Bool) → list_any (λ b. b) (take n bs) ≡ list_any (λ b. b) (take n bs)
any_take n bs = refl

-- with one more that holds no name
told_more : (w : Width) (m : Assignable) (p : Place) (i : ℕ) (es : List Expr) (bs : List Bool) → Told m (map (meaning w) es) bs →
    Told m (map (meaning w) (es ++ literal p i ∷ [])) (bs ++ false ∷ [])
told_more w m p i [] [] h = (λ sc. ap (λ (a : Denotation). a.mentions m) (denotation-roll w _ sc), tt)
told_more w m p i [] (b ∷ bs) h = absurd h
told_more w m p i (e ∷ es) [] h = absurd h
told_more w m p i (e ∷ es) (b ∷ bs) h = (h.0, told_more w m p i es bs h.1)

any_more : (bs : List Bool) → list_any (λ b. b) (bs ++ false ∷ []) ≡ list_any (λ b. b) bs
any_more [] = refl
any_more (b ∷ bs) = ap (λ (x : Bool). b || x) (any_more bs)

abbrev at_node : Width → Assignable → Place → KerOp → List ℕ → List Meaning → Scope → Bool
at_node w m p o xs ks sc =
    (node w (record { place = p; op = op_of o; args = ks; binds = names_of xs }) sc).mentions m

constant_holds : (w : Width) (m : Assignable) (p : Place) (v : Layer Value) (xs : List (List ℕ)) (sc : Scope) →
    (node w (record { place = p; op = constant v; args = []; binds = xs }) sc).mentions m ≡ false
constant_holds w m p (layer.Bool b) xs sc = refl
constant_holds w m p (layer.Int i) xs sc = refl
constant_holds w m p (layer.Text a) xs sc = refl
constant_holds w m p (layer.Set vs) xs sc = refl
constant_holds w m p (layer.Fun ps) xs sc = refl

or_last : (b : Bool) → (b || false) ≡ b
or_last true = refl
or_last false = refl

node_holds : (w : Width) (m : Assignable) (p : Place) (o : KerOp) (xs : List ℕ) (es : List Expr) (bs : List Bool) (sc : Scope) →
    Told m (map (meaning w) es) bs →
    at_node w m p o xs (map (meaning w) (operands o p es)) sc ≡ mentions_at (counts m) o bs
node_holds w m p (ker.Const v) xs es bs sc h = constant_holds w m p (out-Value v) (names_of xs) sc
node_holds w m p (ker.Name i primed) xs es bs sc h = refl
node_holds w m p ker.NoCase xs es bs sc h = refl
node_holds w m p (ker.Bound n) xs es bs sc h = any_senses m (map (meaning w) es) bs sc h
node_holds w m p (ker.Item i) xs es bs sc h =
    any_told m p [] (map (meaning w) (es ++ literal p i ∷ [])) (bs ++ false ∷ []) sc (bind (names_of xs) [] sc) (told_more w m p i es bs h)
    ∙ any_more bs
node_holds w m p ker.Range xs es bs sc h =
    ap (λ ks. at_node w m p ker.Range xs ks sc) (take_map (meaning w) 2 es)
    ∙ any_told m p [] (take 2 (map (meaning w) es)) (take 2 bs) sc (bind (names_of xs) [] sc) (told_take m 2 (map (meaning w) es) bs h)
node_holds w m p o xs es bs sc h =
    any_told m p (marks (role (op_of o) (length (names_of xs)))) (map (meaning w) es) bs sc (bind (names_of xs) [] sc) h

told_all : (w : Width) (m : Assignable) (ks : List Ker) → Each (λ k. (sc : Scope) → (meaning w (as_expr k) sc).mentions m ≡ mentions (counts m) k) ks →
    Told m (map (meaning w) (map as_expr ks)) (map (mentions (counts m)) ks)
told_all w m [] h = tt
told_all w m (k ∷ ks) h = (h.0, told_all w m ks h.1)

pub holds_is : (w : Width) (m : Assignable) (k : Ker) (sc : Scope) → (meaning w (as_expr k) sc).mentions m ≡ mentions (counts m) k
holds_is w m = by_nodes (λ k. (sc : Scope) → (meaning w (as_expr k) sc).mentions m ≡ mentions (counts m) k) (λ x h sc.
    ap (λ (k : Meaning). (k sc).mentions m) (ker-roll w x)
    ∙ node_holds w m x.place x.op x.binds (map as_expr x.args) (map (mentions (counts m)) x.args) sc (told_all w m x.args h)
    ∙ sym (mentions-roll (counts m) x))
