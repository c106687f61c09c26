-- What a bank scene is: an opening, and then transfers and statements.
use Rattle.std.specs.List.{list_all, list_any}
use Rattle.std.specs.Prelude.{Bool, List, Some, [], false, length, map, neg_ℤ, negsuc, not, nat_lt, pos, true, ℕ, ℤ, ◌&&◌, ◌<◌, ◌==◌, ◌^◌, ◌∷◌, ◌≡◌, ◌≢◌, ◌≤◌, ◌⊎◌}
use Rattle.str_base.specs.declared.names.KeyId.{KeyId}
use Rattle.str_base.specs.Versions.{same_key}
use Rattle.str_scene.specs.declared.names.Op.{Op}
use Rattle.str_scene.specs.declared.names.Op.TheVariants.{Abort, Add, Del, Get, Need, Put, Puts}
use Rattle.str_scene.specs.declared.names.TxPlace.{TxPlace}
use Rattle.str_scene.specs.Scenes.{Scene, Session, nth, script_at}

-- ---- the opening

-- the first transaction of the first session
abbrev pub opening_place : TxPlace
opening_place = record { session = record { 0 = 1 }; index = 1 }

-- what an account may be opened with: from 0 to 2^31 - 1
abbrev pub is_amount : ℤ → Bool
is_amount (pos n) = nat_lt n (2 ^ 31)
is_amount (negsuc n) = false

-- the operation opens an account: it puts an amount
abbrev pub opens : Op → Bool
opens (Put k n) = is_amount n
opens (Get k) = false
opens (Puts k t) = false
opens (Add k n) = false
opens (Del k) = false
opens (Need k n) = false
opens Abort = false

-- the account that it opens
abbrev pub account : Op → KeyId
account (Put k n) = k
account _ = record { 0 = 0 }

-- what it opens the account with
abbrev pub amount : Op → ℤ
amount (Put k n) = n
amount _ = pos 0

-- the key is one of these
abbrev pub is_among : List KeyId → KeyId → Bool
is_among keys k = list_any (λ a. same_key a k) keys

-- no key stands twice
abbrev pub are_distinct : List KeyId → Bool
are_distinct [] = true
are_distinct (k ∷ ks) = not (is_among ks k) && are_distinct ks

-- an opening puts amounts alone, on distinct accounts, and on one at least
abbrev pub is_opening : List Op → Bool
is_opening ops = not (length ops == 0) && (list_all opens ops && are_distinct (map account ops))

-- ---- transfers and statements

-- a transfer: of an amount from 1 to 2^31 - 1, from an account that needs to have it to another one
pub record IsTransfer (accounts : List KeyId) (script : List Op) : Type 0 where
  pub payer : KeyId
  pub payee : KeyId
  pub paid : ℕ
  pub by_account : is_among accounts payer ≡ true
  pub to_account : is_among accounts payee ≡ true
  pub apart : same_key payer payee ≡ false
  pub least : 1 ≤ paid
  pub most : paid < 2 ^ 31
  pub operations : script ≡ Need payer (pos paid) ∷ Add payer (neg_ℤ (pos paid)) ∷ Add payee (pos paid) ∷ []

-- a statement: one get of each account, in order of the opening
abbrev pub IsStatement : List KeyId → List Op → Type 0
IsStatement accounts script = script ≡ map (λ k. Get k) accounts

-- the operation gets the key
abbrev pub is_get : KeyId → Op → Bool
is_get k (Get l) = same_key l k
is_get k (Put l n) = false
is_get k (Puts l t) = false
is_get k (Add l n) = false
is_get k (Del l) = false
is_get k (Need l n) = false
is_get k Abort = false

-- the operations get these keys, one after the other
abbrev pub are_gets : List KeyId → List Op → Bool
are_gets [] ops = length ops == 0
are_gets (k ∷ ks) [] = false
are_gets (k ∷ ks) (op ∷ ops) = is_get k op && are_gets ks ops

-- one or the other
abbrev pub Fits : List KeyId → List Op → Type 0
Fits accounts script = IsTransfer accounts script ⊎ IsStatement accounts script

-- ---- the scene

-- the script at a place of the scene
abbrev pub HasScript : Scene → TxPlace → List Op → Type 0
HasScript scene place script = (s : Session) × (nth scene.sessions place.session.0 ≡ Some s) × (nth s.txs place.index ≡ Some script)

-- the scene of a bank with these accounts: the first transaction of the first session opens them with these amounts, and every other
-- one is a transfer or a statement
pub record IsBank (scene : Scene) (accounts : List KeyId) (amounts : List ℤ) : Type 0 where
  pub opening : is_opening (script_at scene opening_place) ≡ true
  pub opened : accounts ≡ map account (script_at scene opening_place)
  pub deposits : amounts ≡ map amount (script_at scene opening_place)
  pub others : (place : TxPlace) (script : List Op) → HasScript scene place script → place ≢ opening_place → Fits accounts script
