-- When a scene is no bank's, and which transaction says so.
use Rattle.std.specs.Prelude.{List, Some, false, if◌then◌else◌, map, slice_get, true, ℕ, ℤ, ⊤, ◌+◌, ◌<◌, ◌==◌, ◌≡◌, ◌≢◌, ◌≤◌, ◌⊎◌}
use Rattle.bank_book.specs.declared.books.BookFault.{BookFault}
use Rattle.bank_book.specs.declared.books.BookFault.TheVariants.{Memory, Not}
use Rattle.bank_book.specs.BankScenes.{Fits, HasScript, IsBank, account, is_opening, opening_place}
use Rattle.str_base.specs.declared.names.KeyId.{KeyId}
use Rattle.str_scene.specs.declared.names.Op.{Op}
use Rattle.str_scene.specs.declared.names.TxPlace.{TxPlace}
use Rattle.str_scene.specs.Scenes.{Scene, nth, script_at}

-- by session, then by index
abbrev pub ComesBefore : TxPlace → TxPlace → Type 0
ComesBefore p q = (p.session.0 < q.session.0) ⊎ ((p.session.0 ≡ q.session.0) × (p.index < q.index))

-- the transaction at the place is the first after the opening that is neither a transfer nor a statement
pub record IsFirstUnfit (scene : Scene) (accounts : List KeyId) (place : TxPlace) : Type 0 where
  pub script : List Op
  pub there : HasScript scene place script
  pub after : place ≢ opening_place
  pub unfit : Fits accounts script → ⊥
  pub first : (p : TxPlace) (other : List Op) → HasScript scene p other → ComesBefore p place → p ≢ opening_place → Fits accounts other

-- the place that says that the scene is no bank's: that of the opening, where there is none, else that of the first that does not fit
pub data IsNotBankAt (scene : Scene) (place : TxPlace) : Type 0 where
  no_opening : is_opening (script_at scene opening_place) ≡ false → place ≡ opening_place → IsNotBankAt scene place
  unfit : is_opening (script_at scene opening_place) ≡ true → IsFirstUnfit scene (map account (script_at scene opening_place)) place → IsNotBankAt scene place

-- the scene is no bank's
abbrev pub IsNoBank : Scene → Type 0
IsNoBank scene = (accounts : List KeyId) (amounts : List ℤ) → IsBank scene accounts amounts → ⊥

-- why there is no book: the scene is no bank's, or there was not enough memory
abbrev pub IsReason : Scene → BookFault → Type 0
IsReason scene (Not place) = IsNoBank scene × IsNotBankAt scene place
IsReason scene Memory = ⊤

-- ---- one after the other

-- every transaction after the opening is a transfer or a statement
abbrev pub AllFit : Scene → List KeyId → Type 0
AllFit scene accounts = (place : TxPlace) (script : List Op) → HasScript scene place script → place ≢ opening_place → Fits accounts script

-- how many scripts of the session with this index, from 0, are the opening
abbrev pub skipped : ℕ → ℕ
skipped a = if a == 0 then 1 else 0

-- every script after the skipped ones is
abbrev pub AllFitIn : List KeyId → List (List Op) → ℕ → Type 0
AllFitIn accounts txs skipped = (i : ℕ) (script : List Op) → skipped ≤ i → slice_get txs i ≡ Some script → Fits accounts script

-- the script with this index, counted from 1, is the first after the skipped ones that is not
pub record IsFirstIn (accounts : List KeyId) (txs : List (List Op)) (skipped index : ℕ) : Type 0 where
  pub script : List Op
  pub there : nth txs index ≡ Some script
  pub after : skipped < index
  pub unfit : Fits accounts script → ⊥
  pub first : (i : ℕ) (other : List Op) → skipped ≤ i → i + 1 < index → slice_get txs i ≡ Some other → Fits accounts other
