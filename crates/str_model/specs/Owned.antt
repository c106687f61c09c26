-- Words of the laws: a node's view in a state, and an own transaction of a view.
use Rattle.std.specs.List.{list_any}
use Rattle.std.specs.Prelude.{Bool, List, None, Option, Some, [], slice_get, ℕ, ◌<◌, ◌∷◌, ◌≡◌, ◌≤◌}
use Rattle.str_base.specs.declared.names.KeyId.{KeyId}
use Rattle.str_base.specs.declared.names.PartId.{PartId}
use Rattle.str_base.specs.declared.names.TxId.{TxId}
use Rattle.str_base.specs.declared.names.Write.{Write}
use Rattle.str_base.specs.Versions.{same_key}
use Rattle.str_model.specs.declared.messages.Body.{Body}
use Rattle.str_model.specs.declared.messages.Body.TheVariants.{Prepare, Replicate}
use Rattle.str_scene.specs.declared.names.Event.{Event}
use Rattle.str_model.specs.Runs.{World, run}
use Rattle.str_scene.specs.SceneLimits.{IsScene}
use Rattle.str_scene.specs.Scenes.{Scene}
use Rattle.str_model.specs.Views.{Committed, Own, Phase, ReadWait, Remote, Reply, View, lc_of}

-- the n-th node, counted from 0, has this view after the events
abbrev pub IsView : Scene → List Event → ℕ → View → Type 0
IsView scene events n v = slice_get (run scene events).nodes n ≡ Some v

-- the i-th own transaction of a view, counted from 0, is x
abbrev pub Owns : View → ℕ → Own → Type 0
Owns v i x = slice_get v.own i ≡ Some x

-- what holds of each node's view after every list of events of every scene
abbrev pub Always : (Scene → List Event → ℕ → View → Type 0) → Type 0
Always P = (scene : Scene) → IsScene scene → (events : List Event) (n : ℕ) (v : View) → IsView scene events n v → P scene events n v

-- what holds of each state after every list of events of every scene
abbrev pub OfEachState : (Scene → World → Type 0) → Type 0
OfEachState P = (scene : Scene) → IsScene scene → (events : List Event) → P scene (run scene events)

-- RS is below LC, LC at most FC, and all are at most the floor
pub record IsTimed (floor : ℕ) (x : Own) : Type 0 where
  pub rs : x.snap.rs ≤ floor
  pub lc : (lc : ℕ) → lc_of x.phase ≡ Some lc → (x.snap.rs < lc) × (lc ≤ floor)
  pub fc : (l : Option ℕ) (fc : ℕ) → x.phase ≡ Committed l (Some fc) → (lc : ℕ) × (l ≡ Some lc) × (lc ≤ fc) × (fc ≤ floor)
  pub without_fc : (l : Option ℕ) → x.phase ≡ Committed l None → l ≡ None

-- times at a node: the floor is at least each of them, and RS does not fall along the list
pub record AreTimed (v : View) : Type 0 where
  pub each : (i : ℕ) (x : Own) → Owns v i x → IsTimed v.floor x
  pub rising : (i j : ℕ) (x y : Own) → i ≤ j → Owns v i x → Owns v j y → x.snap.rs ≤ y.snap.rs

-- the body asks this partition for this transaction
abbrev pub Asks : TxId → PartId → Body → Type 0
Asks tx p (Prepare t q rs lc ws) = (t ≡ tx) × (q ≡ p)
Asks tx p (Replicate t q rs lc ws) = (t ≡ tx) × (q ≡ p)
Asks tx p _ = ⊥

-- the transaction waits for a value of the key
abbrev pub WaitsFor : Phase → KeyId → Type 0
WaitsFor (ReadWait k) l = k ≡ l
WaitsFor (Remote k) l = k ≡ l
WaitsFor (Reply k v by fc) l = k ≡ l
WaitsFor _ l = ⊥

-- one of the writes is of this key
abbrev pub wrote_key : KeyId → List Write → Bool
wrote_key k ws = list_any (λ w. same_key w.key k) ws

-- an optional timestamp as a list
abbrev pub or_nothing : Option ℕ → List ℕ
or_nothing None = []
or_nothing (Some t) = t ∷ []

-- the final timestamps that a phase keeps
abbrev pub final_times : Phase → List ℕ
final_times (Committed lc fc) = or_nothing fc
final_times (Reply k v by fc) = fc ∷ []
final_times _ = []
