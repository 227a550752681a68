-- Where the kinds of cells stand, and the chains by which they are found.
use Rattle.std.specs.Prelude.{◌≡◌, ◌==◌, ◌%◌, ◌<◌, ◌++◌, ◌∷◌, [], ℕ, zero, suc, Bool, List, get_or, length, map, set, take, if◌then◌else◌}
use Rattle.cell_arena.specs.Cells.{kind_at}
use Rattle.cell_arena.specs.declared.chains.Chains.{Chains}
use Rattle.cell_arena.specs.declared.kinds.CellId.{CellId}
use Rattle.cell_arena.specs.declared.kinds.CellKind.{CellKind}
use Rattle.cell_arena.specs.inner.KindNumbers.{kind_number}

-- the cell is one of these, and of this kind
pub record IsOfKind (ks : List CellKind) (k : CellKind) (id : CellId) : Type 0 where
  pub there : id.index < length ks
  pub is : kind_at ks id ≡ k

-- no cell is of this kind
pub record IsNew (ks : List CellKind) (k : CellKind) : Type 0 where
  pub none : (id : CellId) → IsOfKind ks k id → ⊥

-- behind the last place of a number, counted from 1, or what stands here where it has none
abbrev pub one_on : ℕ → Bool → ℕ
one_on zero b = if b then 1 else 0
one_on (suc p) b = suc (suc p)

-- the last place of a number, from 1; 0 where it has none
abbrev pub place_of : ℕ → List ℕ → ℕ
place_of n [] = 0
place_of n (x ∷ xs) = one_on (place_of n xs) (x == n)

-- heads has the last place of each number, and links, at a place, the last place before of the number that stands there
pub record IsIndex (numbers heads links : List ℕ) : Type 0 where
  pub heads_so : (n : ℕ) → get_or heads n 0 ≡ place_of n numbers
  pub links_so : (i : ℕ) → i < length numbers → get_or links i 0 ≡ place_of (get_or numbers i 0) (take i numbers)
  pub small : (i : ℕ) → i < length numbers → get_or numbers i 0 < length heads
  pub links_len : length links ≡ length numbers

-- the chain in which a kind stands
abbrev pub chain_of : CellKind → ℕ
chain_of k = kind_number k % 65536

-- each kind stands in exactly its chain, and each link leads to the next older kind of the chain
pub record AreChains (ks : List CellKind) (c : Chains) : Type 0 where
  pub count : length c.heads.items ≡ 65536
  pub index : IsIndex (map chain_of ks) c.heads.items c.links.items

-- one place more in a chain
pub record AddsPlace (old new : Chains) (chain : ℕ) : Type 0 where
  pub heads : new.heads.items ≡ set old.heads.items chain (suc (length old.links.items))
  pub links : new.links.items ≡ old.links.items ++ get_or old.heads.items chain 0 ∷ []

pub record SameChains (old new : Chains) : Type 0 where
  pub heads : new.heads.items ≡ old.heads.items
  pub links : new.links.items ≡ old.links.items
