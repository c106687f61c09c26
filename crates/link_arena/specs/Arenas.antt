-- What an arena is seen as, and what holds of it.
use Rattle.slab.specs.Slab.{Slab, slab_len}
use Rattle.std.specs.Global.{Global}
use Rattle.std.specs.Prelude.{Bool, List, None, Option, Some, Vec, [], if◌then◌else◌, map, slice_index_or, true, vec_capacity, vec_len, ℕ, ◌+◌, ◌==◌, ◌∷◌, ◌≡◌, ◌≤◌}
use Rattle.str_base.specs.declared.names.KeyId.{KeyId}
use Rattle.str_base.specs.declared.names.Kind.{Kind}
use Rattle.str_base.specs.declared.names.Ts.{Ts}
use Rattle.str_base.specs.declared.names.TxId.{TxId}
use Rattle.str_base.specs.declared.names.Version.{Version}
use Rattle.str_base.specs.Versions.{of_tx, tx_before}
use Rattle.link_arena.specs.declared.heads.Head.{Head}
use Rattle.link_arena.specs.declared.nodes.Node.{Node}
use Rattle.link_arena.specs.declared.nodes.Side.{Side}
use Rattle.link_arena.specs.declared.nodes.Side.TheVariants.{ByKey, ByTx}
use Rattle.link_arena.specs.declared.nodes.Slot.{Slot}
use Rattle.link_arena.specs.HeadLists.{key_below, key_names}
use Rattle.link_arena.specs.OneSide.{OnSide, is_named}
use Rattle.link_arena.specs.Rows.{Once, first_or, is_in, put_before, taken}
use Rattle.link_arena.specs.Sides.{row_of, version_of}

-- the version or nothing in each slot from 0 on, the keys in order, each with its slots in order, the same of transactions, and how many versions are taken without memory
pub record ArenaView : Type 0 where
  pub versions : List (Option Version)
  pub by_key : List (KeyId × List ℕ)
  pub by_tx : List (TxId × List ℕ)
  pub spare : ℕ

-- the list with a name, of lists in order of name
abbrev pub list_of : {N : Type 0} → (N → N → Bool) → N → List (N × List ℕ) → List ℕ
list_of below k [] = []
list_of below k (p ∷ ps) = if below p.0 k then list_of below k ps else if below k p.0 then [] else p.1

-- the version of a slot
abbrev pub at : ArenaView → ℕ → Option Version
at a u = slice_index_or a.versions u None

-- the slots of a key
abbrev pub key_list : ArenaView → KeyId → List ℕ
key_list a k = list_of key_below k a.by_key

-- the slots of a transaction
abbrev pub tx_list : ArenaView → TxId → List ℕ
tx_list a t = list_of tx_before t a.by_tx

-- the lists between the ends of heads
abbrev pub rows_of : {N : Type 0} → Side → Slab Node → List (Head N) → List (N × List ℕ)
rows_of side nodes heads = map (λ h. (h.name, row_of side nodes (Some h.ends))) heads

-- the arena with these nodes, ends of lists and room
abbrev pub view_of : Slab Node → List (Head KeyId) → List (Head TxId) → ℕ → ArenaView
view_of nodes keys txs spare = record { versions = map version_of nodes.slots; by_key = rows_of ByKey nodes keys; by_tx = rows_of ByTx nodes txs; spare = spare }

-- the lists of both kinds hold each slot, and there is the room that is told
pub record IsArena (nodes : Slab Node) (keys : Vec (Head KeyId) Global) (txs : Vec (Head TxId) Global) (spare : ℕ) : Type 0 where
  pub by_key : OnSide key_below key_names ByKey nodes keys.items None
  pub by_tx : OnSide tx_before of_tx ByTx nodes txs.items None
  pub nodes_room : slab_len nodes + spare ≤ nodes.capacity
  pub keys_room : vec_len keys + spare ≤ vec_capacity keys
  pub txs_room : vec_len txs + spare ≤ vec_capacity txs

-- each of these names is above
abbrev pub Above : {N : Type 0} → (N → N → Bool) → N → List (N × List ℕ) → Type 0
Above below k [] = Unit {0}
Above below k (p ∷ ps) = (below k p.0 ≡ true) × Above below k ps

-- the names of lists rise
abbrev pub Rises : {N : Type 0} → (N → N → Bool) → List (N × List ℕ) → Type 0
Rises below [] = Unit {0}
Rises below (p ∷ ps) = Above below p.0 ps × Rises below ps

-- keys and transactions rise, and each slot that has a version stands in the list of its key and in the list of its transaction, in each once, and in no other
pub record AreLists (a : ArenaView) : Type 0 where
  pub in_key : (k : KeyId) (u : ℕ) → is_in u (key_list a k) ≡ is_named key_names k (at a u)
  pub in_tx : (t : TxId) (u : ℕ) → is_in u (tx_list a t) ≡ is_named of_tx t (at a u)
  pub once_in_key : (k : KeyId) → Once (key_list a k)
  pub keys_rise : Rises key_below a.by_key
  pub txs_rise : Rises tx_before a.by_tx
  pub once_in_tx : (t : TxId) → Once (tx_list a t)

-- the number of a slot
abbrev pub number_of : Option Slot → Option ℕ
number_of None = None
number_of (Some s) = Some s.0

-- the slot after one in a list, and the slot before it
abbrev pub next_of : ℕ → List ℕ → Option ℕ
next_of s [] = None
next_of s (u ∷ us) = if s == u then first_or None us else next_of s us

abbrev pub prev_of : ℕ → Option ℕ → List ℕ → Option ℕ
prev_of s b [] = None
prev_of s b (u ∷ us) = if s == u then b else prev_of s (Some u) us

-- a list, with the slot put into it before the one that is named if it is the list of its name
abbrev pub entered : Bool → Option ℕ → ℕ → List ℕ → List ℕ
entered named next s ss = if named then put_before next s ss else ss

-- a list, with the slot moved in it before the one that is named if it is the list of its name
abbrev pub moved : Bool → Option ℕ → ℕ → List ℕ → List ℕ
moved named next s ss = if named then put_before next s (taken s ss) else ss

-- in the list of its key the slot has moved before the one that is named, or to the end; the lists of all other keys are as they were
abbrev pub MovesInKey : ArenaView → ArenaView → ℕ → Option ℕ → Type 0
MovesInKey old new s next = (v : Version) → at old s ≡ Some v → (k : KeyId) → key_list new k ≡ moved (key_names k v) next s (key_list old k)

-- a version with another timestamp and kind
abbrev pub dated : Ts → Kind → Option Version → Option Version
dated ts kind None = None
dated ts kind (Some v) = Some (record v { ts = ts; kind = kind })
