-- True causes: each abort names what really made it.
use Rattle.std.specs.Prelude.{List, None, Option, Some, [], slice_get, true, ℕ, ℤ, ◌++◌, ◌+◌, ◌<◌, ◌≡◌, ◌≢◌, ◌⊎◌}
use Rattle.str_base.specs.declared.names.Cause.{Cause}
use Rattle.str_base.specs.declared.names.Cause.TheVariants.{Conflict, Late, Lost, Wish}
use Rattle.str_base.specs.declared.names.KeyId.{KeyId}
use Rattle.str_base.specs.declared.names.Kind.TheVariants.{Final, Local as LocalKind, Pre}
use Rattle.str_base.specs.declared.names.NodeId.{NodeId}
use Rattle.str_scene.specs.declared.names.Op.{Op}
use Rattle.str_scene.specs.declared.names.Op.TheVariants.{Abort, Need}
use Rattle.str_base.specs.declared.names.TxId.{TxId}
use Rattle.str_base.specs.declared.names.Value.{Value}
use Rattle.str_base.specs.declared.names.Version.{Version}
use Rattle.str_base.specs.declared.names.Write.{Write}
use Rattle.str_model.specs.declared.messages.Body.{Body}
use Rattle.str_model.specs.declared.messages.Body.TheVariants.{Refuse, Replicate}
use Rattle.str_model.specs.declared.messages.Input.TheVariants.{Client, Deliver}
use Rattle.str_model.specs.declared.messages.Message.{Message}
use Rattle.str_model.specs.Runs.{World}
use Rattle.str_scene.specs.Scenes.{Scene, is_master, nth, part_of}
use Rattle.str_model.specs.Scripts.{known, own_op}
use Rattle.si_laws.specs.Standing.{Begun, DependsOn, IsAborted, IsCommitted, IsOpen, Wrote}
use Rattle.str_model.specs.Traces.{Happening, MomentAt}
use Rattle.str_base.specs.Values.{is_below}
use Rattle.str_model.specs.Views.{Aborted, Active, CertWait, Closing, Doing, Own, View}

-- between two moments of event j the transaction t aborts: it stood like x at the first one, d
pub record AbortsAt (tr : List Happening) (j : ℕ) (t : TxId) (d : Doing) (x : Own) (cause : Cause) : Type 0 where
  pub moment : ℕ
  pub next : Doing
  pub gone : Own
  pub lc : Option ℕ
  pub before : MomentAt tr j moment t.node d
  pub after : MomentAt tr j (moment + 1) t.node next
  pub stood : nth d.view.own t.seq ≡ Some x
  pub was_open : IsOpen x
  pub stands : nth next.view.own t.seq ≡ Some gone
  pub aborted : gone.phase ≡ Aborted lc cause

-- the event delivered this message
abbrev pub Delivered : List Happening → ℕ → Message → Type 0
Delivered tr j m = (h : Happening) × (slice_get tr j ≡ Some h) × (h.input ≡ Some (Deliver m))

-- the event is a client step of the transaction's session
abbrev pub IsStepOf : List Happening → ℕ → Own → Type 0
IsStepOf tr j x = (h : Happening) × (t : ℕ) × (slice_get tr j ≡ Some h) × (h.input ≡ Some (Client x.place.session t))

-- the transaction's next operation
abbrev pub next_op : Scene → TxId → Own → Option Op
next_op scene t x = own_op (record { scene = scene; node = t.node }) x

-- it is to be certified: a step of its session finds its script at its end and has writes, or it waits for certification
pub data AsksToCommit (scene : Scene) (tr : List Happening) (j : ℕ) (t : TxId) (x : Own) : Type 0 where
  at_end : IsStepOf tr j x → x.phase ≡ Active → next_op scene t x ≡ None → x.writes ≢ [] → AsksToCommit scene tr j t x
  waiting : x.phase ≡ CertWait → AsksToCommit scene tr j t x

-- a version of the key by the transaction
abbrev pub HasVersion : View → TxId → KeyId → Version → Type 0
HasVersion v u k q = (i : ℕ) × (slice_get v.versions i ≡ Some q) × (q.tx ≡ u) × (q.key ≡ k)

-- found at home: at the moment at which it was to be certified the other's version stood there, Pre or above its snapshot
abbrev pub FoundAtHome : Scene → List Happening → ℕ → TxId → Doing → Own → TxId → KeyId → Type 0
FoundAtHome scene tr j t d x u k =
    AsksToCommit scene tr j t x × ((q : Version) × HasVersion d.view u k q × ((q.kind ≡ Pre) ⊎ (x.snap.rs < q.ts.0)))

-- the body is a Replicate of u with the key
abbrev pub Brings : Body → TxId → KeyId → Type 0
Brings (Replicate t p rs lc ws) u k = (t ≡ u) × (i : ℕ) × (w : Write) × (slice_get ws i ≡ Some w) × (w.key ≡ k)
Brings _ u k = ⊥

-- evicted: a Replicate of the other with the key came while the own Local version of the key stood there
abbrev pub Evicted : List Happening → ℕ → Doing → TxId → TxId → KeyId → Type 0
Evicted tr j d t u k =
    (m : Message) × (q : Version) × Delivered tr j m × Brings m.body u k × HasVersion d.view t k q × (q.kind ≡ LocalKind)

-- a reason to refuse: undecided and of another origin, or final above the snapshot
abbrev pub IsReason : TxId → Own → Version → Type 0
IsReason t x q = ((q.kind ≢ Final) × (q.tx.node ≢ t.node)) ⊎ ((q.kind ≡ Final) × (x.snap.rs < q.ts.0))

-- between two moments of event j node n sends the message, from d on
pub record SendsAt (tr : List Happening) (j : ℕ) (n : NodeId) (d : Doing) (m : Message) : Type 0 where
  pub moment : ℕ
  pub next : Doing
  pub new : List Message
  pub place : ℕ
  pub before : MomentAt tr j moment n d
  pub after : MomentAt tr j (moment + 1) n next
  pub sent : next.sent ≡ d.sent ++ new
  pub is_new : slice_get new place ≡ Some m

-- refused by the master: it sent a Refuse while the other's version stood there and was a reason
pub record RefusedBy (scene : Scene) (tr : List Happening) (j : ℕ) (t : TxId) (x : Own) (u : TxId) (k : KeyId) (n : NodeId) : Type 0 where
  pub master : is_master scene n (part_of scene k) ≡ true
  pub elsewhere : n ≢ t.node
  pub message : Message
  pub came : Delivered tr j message
  pub sender : message.sender ≡ n
  pub body : message.body ≡ Refuse t (part_of scene k) u k
  pub sending : ℕ
  pub earlier : sending < j
  pub there : Doing
  pub sends : SendsAt tr sending n there message
  pub version : Version
  pub stood : HasVersion there.view u k version
  pub reason : IsReason t x version

-- both wrote the key
abbrev pub BothWrote : World → Own → TxId → KeyId → Type 0
BothWrote w x u k = Wrote x k × (y : Own) × Begun w u y × Wrote y k

-- a conflict with another transaction: both wrote the key, and it was found at home, evicted or refused by the master
abbrev pub TrueConflict : Scene → World → List Happening → ℕ → TxId → Doing → Own → TxId → KeyId → NodeId → Type 0
TrueConflict scene w tr j t d x u k n =
    (u ≢ t) × BothWrote w x u k
    × ((((n ≡ t.node) × FoundAtHome scene tr j t d x u k) ⊎ ((n ≡ t.node) × Evicted tr j d t u k)) ⊎ RefusedBy scene tr j t x u k n)

-- at this moment the transaction depended on u, which stood like y
abbrev pub DependedOn : Doing → TxId → Own → TxId → Own → Type 0
DependedOn d t x u y = DependsOn t.node x u × (nth d.view.own u.seq ≡ Some y)

-- a need that the values of the transaction do not meet
abbrev pub HasUnmet : Scene → TxId → Own → Type 0
HasUnmet scene t x =
    (k : KeyId) × (n : ℤ) × (v : Value)
    × (next_op scene t x ≡ Some (Need k n)) × (known x k ≡ Some v) × (is_below v n ≡ true)

-- a wish: a step of its session finds an abort next, or its script stands at a need that is not met and no dependency is left
abbrev pub TrueWish : Scene → List Happening → ℕ → TxId → Own → Type 0
TrueWish scene tr j t x =
    (IsStepOf tr j x × (x.phase ≡ Active) × (next_op scene t x ≡ Some Abort))
    ⊎ ((x.phase ≡ Closing true) × (x.snap.deps ≡ []) × HasUnmet scene t x)

-- the cause is what really happened
abbrev pub IsTrue : Scene → World → List Happening → ℕ → TxId → Doing → Own → Cause → Type 0
IsTrue scene w tr j t d x (Conflict u k n) = TrueConflict scene w tr j t d x u k n
IsTrue scene w tr j t d x (Lost u) = (y : Own) × DependedOn d t x u y × IsAborted y
IsTrue scene w tr j t d x (Late u fc) = (y : Own) × DependedOn d t x u y × IsCommitted y fc.0 × (x.snap.rs < fc.0)
IsTrue scene w tr j t d x Wish = TrueWish scene tr j t x

-- each abort of a run has the cause that its answer names
abbrev pub TrueCause : Scene → World → List Happening → Type 0
TrueCause scene w tr =
    (j : ℕ) (t : TxId) (d : Doing) (x : Own) (cause : Cause) → AbortsAt tr j t d x cause → IsTrue scene w tr j t d x cause
