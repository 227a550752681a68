-- Where keys stand in a list, and how their places are kept.
use Rattle.std.specs.Prelude.{◌≡◌, ◌==◌, ◌+◌, ◌*◌, ◌%◌, ◌<◌, ◌≤◌, ℕ, zero, suc, Bool, List, [], ◌∷◌, ◌++◌, fold, get_or, length, map, set, take, if◌then◌else◌}
use Rattle.tla_meaning.specs.declared.expr.Expr.{out-Expr}
use Rattle.tla_meaning.specs.declared.place.Place.{Place}
use Rattle.tla_meaning.specs.declared.symbols.Entry.{Entry}
use Rattle.tla_meaning.specs.Flattening.{declared_origins}
use Rattle.tla_meaning.specs.Symbols.{is_declaration}
use Rattle.flat_modules.specs.declared.index.Chains.{Chains}
use Rattle.flat_modules.specs.declared.items.Item.{Item}
use Rattle.flat_modules.specs.declared.items.Item.TheVariants.{Declares, Defines, Assumes}

-- behind the last place of a key, counted from 1, or what stands here where it has none
abbrev pub one_on : ℕ → Bool → ℕ
one_on zero b = if b then 1 else 0
one_on (suc p) b = suc (suc p)

-- the last place of a key, from 1; 0 where it has none
abbrev pub place_of : ℕ → List ℕ → ℕ
place_of k [] = 0
place_of k (x ∷ xs) = one_on (place_of k xs) (x == k)

-- ---- chains of places

-- heads has the last place of each key, and links, at a place, the last place before of the key that stands there
pub record IsIndex (keys heads links : List ℕ) : Type 0 where
  pub heads_so : (k : ℕ) → get_or heads k 0 ≡ place_of k keys
  pub links_so : (i : ℕ) → i < length keys → get_or links i 0 ≡ place_of (get_or keys i 0) (take i keys)
  pub small : (i : ℕ) → i < length keys → get_or keys i 0 < length heads
  pub links_len : length links ≡ length keys

-- the buckets of keys, of which there are so many
abbrev pub buckets : ℕ → List ℕ → List ℕ
buckets n keys = map (λ k. k % n) keys

abbrev pub AreChains : List ℕ → Chains → Type 0
AreChains keys c = IsIndex (buckets (length c.heads.items) keys) c.heads.items c.links.items

-- from a place of a key's bucket, or from none
pub record IsInBucket (n key : ℕ) (keys : List ℕ) (from : ℕ) : Type 0 where
  pub within : from ≤ length keys
  pub there : (i : ℕ) → from ≡ suc i → get_or (buckets n keys) i 0 ≡ key % n

pub record AddsKey (old new : Chains) (key : ℕ) : Type 0 where
  pub heads : new.heads.items ≡ set old.heads.items (key % length old.heads.items) (suc (length old.links.items))
  pub links : new.links.items ≡ old.links.items ++ get_or old.heads.items (key % length old.heads.items) 0 ∷ []

pub record DropsKey (old new : Chains) (last key : ℕ) : Type 0 where
  pub heads : new.heads.items ≡ set old.heads.items (key % length old.heads.items) (get_or old.links.items last 0)
  pub links : new.links.items ≡ take last old.links.items

pub record SameChains (old new : Chains) : Type 0 where
  pub heads : new.heads.items ≡ old.heads.items
  pub links : new.links.items ≡ old.links.items

-- ---- keys of names and items

-- the key of a name
unfoldable pub key_of : List ℕ → ℕ
key_of name = fold (λ h b. (h * 31 + b) % 4294967296) 0 name

abbrev pub keys_of : List Entry → List ℕ
keys_of es = map (λ (e : Entry). key_of e.name) es

abbrev pub place_key : Place → ℕ
place_key p = (p.file * 31 + p.line) * 31 + p.col

abbrev pub item_key : Item → ℕ
item_key (Declares d) = key_of d.name
item_key (Defines d) = key_of d.name
item_key (Assumes e) = place_key (out-Expr e).place

abbrev pub item_keys : List Item → List ℕ
item_keys is = map item_key is

-- what stands beside a name
pub record IsKeyed (e : Entry) (key : ℕ) (exported declared : Bool) : Type 0 where
  pub key_so : key ≡ key_of e.name
  pub exported_so : exported ≡ e.exported
  pub declared_so : declared ≡ is_declaration e.kind

-- the keys of names in scope, and the origins of the declared ones
pub record IsScope (keys origins : List ℕ) (es : List Entry) : Type 0 where
  pub names : keys ≡ keys_of es
  pub declared : origins ≡ declared_origins es
