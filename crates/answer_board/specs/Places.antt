-- The places of a board, one for each transaction of a scene, and which entries may be held.
use Rattle.answer_board.specs.Entries.{answer_at}
use Rattle.answer_board.specs.declared.entries.Entry.{Entry}
use Rattle.answer_board.specs.declared.entries.Entry.TheVariants.{Did, Gave}
use Rattle.std.specs.Prelude.{Bool, List, None, Option, Some, [], cond, false, is_none, length, map, nat_le, true, ℕ, ⊤, ◌&&◌, ◌++◌, ◌∷◌, ◌≡◌}
use Rattle.str_scene.specs.declared.names.TxPlace.{TxPlace}
use Rattle.str_scene.specs.Scenes.{Scene, nth}

-- how many transactions each session has
abbrev pub places_of : Scene → List ℕ
places_of scene = map (λ s. length s.txs) scene.sessions

-- the session has a transaction with this number, from 1
abbrev pub has_index : Option ℕ → ℕ → Bool
has_index None i = false
has_index (Some n) i = nat_le 1 i && nat_le i n

-- the place is of one of the transactions
abbrev pub has_place : List ℕ → TxPlace → Bool
has_place places p = has_index (nth places p.session.0) p.index

-- an answer's place is one of the places, and no answer of the list stands at it
abbrev pub MayFollow : List ℕ → List Entry → Entry → Type 0
MayFollow places list (Did d) = ⊤
MayFollow places list (Gave a) = (has_place places a.place ≡ true) × (answer_at a.place list ≡ None)

-- each of the entries may follow the list and those before it
abbrev pub MayAllFollow : List ℕ → List Entry → List Entry → Type 0
MayAllFollow places list [] = ⊤
MayAllFollow places list (e ∷ es) = MayFollow places list e × MayAllFollow places (list ++ e ∷ []) es

-- entries that are shown: how many places each session has, and the entries
pub record Listed : Type 0 where
  pub places : List ℕ
  pub items : List Entry

-- there is such a place, and no answer stands at it
abbrev pub is_free : Listed → TxPlace → Bool
is_free l p = has_place l.places p && is_none (answer_at p l.items)

-- one more entry
abbrev pub extended : Listed → Entry → Listed
extended l e = record l { items = l.items ++ e ∷ [] }

-- one more entry; an answer only where its place is free
abbrev pub with_entry : Listed → Entry → Listed
with_entry l (Did d) = extended l (Did d)
with_entry l (Gave a) = cond (is_free l a.place) (extended l (Gave a)) l
