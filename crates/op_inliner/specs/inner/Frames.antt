-- What the names of a list of frames stand for.
use Rattle.std.specs.Prelude.{◌≡◌, ◌≤◌, ℕ, ◌-◌, List, [], ◌∷◌, ◌++◌, fold, get_or, length, Option, Some, None}
use Rattle.tla_meaning.specs.declared.expr.Expr.{Expr}
use Rattle.op_inliner.specs.declared.frames.Closure.{Closure}
use Rattle.op_inliner.specs.declared.frames.Frame.{Frame}
use Rattle.op_inliner.specs.declared.frames.Stands.{Stands}
use Rattle.op_inliner.specs.declared.frames.Stands.TheVariants as stands
use Rattle.op_inliner.specs.Inlining.{Names, Tree, define_name, level_name, no_names, pass_names, written}

-- an expression with parameters, over these names
abbrev pub closed : List (List ℕ) → Expr → Names → List Tree → Tree
closed xs e ns = λ as'. written e (pass_names xs as' ns)

-- the names with one more; those of a definition's own scope are ds
abbrev pub with_one : List ℕ → Stands → Names → Names → Names
with_one x (stands.Bound n) ns ds = record ns { bound = ns.bound ++ (x, level_name n x) ∷ [] }
with_one x (stands.Tree ps e k) ns ds = define_name x (closed ps.now e.now ds) ns

abbrev pub deeper : Stands → ℕ
deeper (stands.Bound n) = 0
deeper (stands.Tree ps e k) = k

abbrev pub names_in : List Names → ℕ → Names
names_in es i = get_or es i no_names

abbrev pub with_frame : List Names → Frame → Names
with_frame es f =
    let n : ℕ = length es - 1 in
    with_one f.name.now f.stands (names_in es (n - f.skipped)) (names_in es (n - deeper f.stands))

abbrev pub one_frame : List Names → Frame → List Names
one_frame es f = es ++ with_frame es f ∷ []

-- the names with none of the frames, with the first, with the first two ..
unfoldable pub all_names : List Frame → List Names
all_names fs = fold one_frame (no_names ∷ []) fs

-- the names of the scope of this number
abbrev pub names_at : List Frame → ℕ → Names
names_at fs s = names_in (all_names fs) s

-- frames with more behind them
pub record Grown (old new : List Frame) : Type 0 where
  pub rest : List Frame
  pub is : new ≡ old ++ rest

-- more frames, with a scope that has these names
pub record Opens (old new : List Frame) (s : ℕ) (ns : Names) : Type 0 where
  pub grown : Grown old new
  pub within : s ≤ length new
  pub names : names_at new s ≡ ns

abbrev pub closure_of : List Frame → Closure → List Tree → Tree
closure_of fs c = closed c.params.now c.body.now (names_at fs c.scope)

-- what was found of a name, in a scope that is there
pub record IsFound (fs : List Frame) (o : Option (List Tree → Tree)) (c : Closure) : Type 0 where
  pub within : c.scope ≤ length fs
  pub is : o ≡ Some (closure_of fs c)

-- the new name of a bound name, where its level was found
abbrev pub levelled : List ℕ → Option ℕ → Option (List ℕ)
levelled x None = None
levelled x (Some n) = Some (level_name n x)
