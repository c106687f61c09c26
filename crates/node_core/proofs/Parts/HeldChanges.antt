-- The changes of what a node holds for others: what is placed, refused, parked, answered and decided.
use Rattle.std.proofs.Common.{Bool, List, MatchOption, None, Option, Some, [], ap, append_assoc, arith, false, if◌then◌else◌, length, length-append, map, not, option_map, refl, remove, slice_set, subst, sym, true, ℕ, ◌&&◌, ◌++◌, ◌+◌, ◌-◌, ◌<◌, ◌∙◌, ◌∷◌, ◌≡◌, ◌≤◌}
use Rattle.node_parts.specs.declared.held.Held.{Held}
use Rattle.node_parts.specs.Holding.{HasRoom, view_of}
use Rattle.node_parts.specs.Letters.{Sends}
use Rattle.node_parts.specs.Owning.{OwnState}
use Rattle.node_parts.specs.Sending.{Outgoing}
use Rattle.node_core.proofs.Parts.OwnChanges.{out_then}
use Rattle.node_core.proofs.Parts.PartChanges.{did_parts, same_out, sends_out, stand_still, state_of, work_own, work_then}
use Rattle.node_core.proofs.Parts.Showing.{Stored, lists_apart, of_cache}
use Rattle.node_core.specs.Working.{Did, Fits, IsWork, Ruled, WorkState}
use Rattle.partition_map.specs.declared.rows.Asked.{Asked}
use Rattle.replica_apply.proofs.FromFacts.{cache_other}
use Rattle.replica_apply.specs.Changes.{Rests, with_parts}
use Rattle.replica_store.specs.StoreLists.{DonePairs, ParkedList, StaysHere as StoreStays, StoreList}
use Rattle.cache_partition.specs.CacheLists.{StaysHere as CacheStays}
use Rattle.str_base.specs.declared.names.KeyId.{KeyId}
use Rattle.str_base.specs.declared.names.PartId.{PartId}
use Rattle.str_base.specs.declared.names.TxId.{TxId}
use Rattle.str_base.specs.declared.names.Value.{Value}
use Rattle.str_base.specs.Versions.{insert_all, same_node, stamp}
use Rattle.str_model.specs.Acts.{abort_came, accepted, acked, commit_came, copies, pre_version, refused, replied, taken, waits, with_waiters}
use Rattle.str_model.specs.declared.messages.Arrived.{Arrived}
use Rattle.str_model.specs.declared.messages.Body.TheVariants.{Ack, ReadReply, Refuse}
use Rattle.str_model.specs.declared.messages.Message.{Message}
use Rattle.str_model.specs.declared.messages.Waiter.{Waiter}
use Rattle.str_model.specs.declared.names.KeyMark.{KeyMark}
use Rattle.std.specs.List.{list_any}
use Rattle.str_model.specs.Proposals.{is_done, is_pair}
use Rattle.str_model.specs.Steps.{decides, drop_held}
use Rattle.str_model.specs.Views.{Doing, Own, View, letter}
use Rattle.str_scene.specs.Scenes.{Here, hosts, replicas}
use Rattle.version_chain.specs.ChainLists.{merged}

module _ (here : Here) (h : Held) (o : OwnState) (out : Outgoing) (left room : ℕ) where
  -- ---- what arrives

  pub accept_did : (s : StoreList) (mid to : Outgoing) (rest : ℕ) (a : Arrived) (ts : ℕ)
      → merged h.cache.versions s.versions ≡ insert_all (map (pre_version a ts) a.writes) (merged h.cache.versions h.store.versions)
      → Sends (letter here a.tx.node (Ack a.tx a.part (stamp ts)) ∷ []) out mid → Sends (copies here a (replicas here.scene a.part)) mid to → rest + length a.writes ≡ left → left ≤ room
      → let g : Held = record h { store = s } in Did (accepted here a ts (state_of here h o out left room).doing) (state_of here h o out left room) (state_of here g o to rest room)
  unfolding accepted
  accept_did s mid to rest a ts v k l n b =
      let g : Held = record h { store = s } in
      did_parts here h g o o out to left rest room (accepted here a ts (state_of here h o out left room).doing) (out_then out mid to (sends_out _ out mid k) (sends_out _ mid to l))
      (record {
        versions = v;
        marks = refl;
        floor = refl;
        own = refl;
        waiters = refl;
        done = refl;
        sent = l.sent ∙ (ap (λ (ms : List Message). ms ++ copies here a (replicas here.scene a.part)) k.sent
            ∙ append_assoc out.sent (letter here a.tx.node (Ack a.tx a.part (stamp ts)) ∷ []) (copies here a (replicas here.scene a.part)));
        released = l.released ∙ k.released;
        added = omega (arith, n, b);
      })

  pub accept_room : (a : Arrived) (ts : ℕ) → left ≤ room → Fits (state_of here h o out left room) (accepted here a ts (state_of here h o out left room).doing)
      → (length a.writes ≤ left) × (1 + length (copies here a (replicas here.scene a.part)) ≤ out.space)
  unfolding accepted
  accept_room a ts b f =
      let r = f.room in let s = f.space in
      let l = length-append out.sent (letter here a.tx.node (Ack a.tx a.part (stamp ts)) ∷ copies here a (replicas here.scene a.part)) in
      (omega (arith, r, b), omega (arith, s, l))

  pub take_did : (s : StoreList) (to : Outgoing) (rest : ℕ) (a : Arrived) (ts : ℕ)
      → merged h.cache.versions s.versions ≡ insert_all (map (pre_version a ts) a.writes) (merged h.cache.versions h.store.versions)
      → Sends (letter here a.tx.node (Ack a.tx a.part (stamp ts)) ∷ []) out to → rest + length a.writes ≡ left → left ≤ room
      → let g : Held = record h { store = s } in Did (taken here a ts (state_of here h o out left room).doing) (state_of here h o out left room) (state_of here g o to rest room)
  unfolding taken
  take_did s to rest a ts v k n b =
      let g : Held = record h { store = s } in
      did_parts here h g o o out to left rest room (taken here a ts (state_of here h o out left room).doing) (sends_out _ out to k)
      (record { versions = v; marks = refl; floor = refl; own = refl; waiters = refl; done = refl; sent = k.sent; released = k.released; added = omega (arith, n, b) })

  pub take_room : (a : Arrived) (ts : ℕ) → left ≤ room → Fits (state_of here h o out left room) (taken here a ts (state_of here h o out left room).doing) → (length a.writes ≤ left) × (0 < out.space)
  unfolding taken
  take_room a ts b f =
      let r = f.room in let s = f.space in let l = length-append out.sent (letter here a.tx.node (Ack a.tx a.part (stamp ts)) ∷ []) in (omega (arith, r, b), omega (arith, s, l))

  pub refuse_did : (n : DonePairs) (to : Outgoing) (rest : ℕ) (a : Arrived) (by : TxId) (k : KeyId) → n.pairs ≡ h.done.pairs ++ (a.tx, a.part) ∷ []
      → Sends (letter here a.tx.node (Refuse a.tx a.part by k) ∷ []) out to → rest + 1 ≡ left → left ≤ room
      → let g : Held = record h { done = n } in Did (refused here a by k (state_of here h o out left room).doing) (state_of here h o out left room) (state_of here g o to rest room)
  unfolding refused
  refuse_did n to rest a by k e s l b =
      let g : Held = record h { done = n } in
      did_parts here h g o o out to left rest room (refused here a by k (state_of here h o out left room).doing) (sends_out _ out to s)
      (record { versions = refl; marks = refl; floor = refl; own = refl; waiters = refl; done = e; sent = s.sent; released = s.released; added = omega (arith, l, b) })

  pub refuse_room : (a : Arrived) (by : TxId) (k : KeyId) → left ≤ room → Fits (state_of here h o out left room) (refused here a by k (state_of here h o out left room).doing) → (1 ≤ left) × (0 < out.space)
  unfolding refused
  refuse_room a by k b f =
      let r = f.room in let s = f.space in let l = length-append out.sent (letter here a.tx.node (Refuse a.tx a.part by k) ∷ []) in (omega (arith, r, b), omega (arith, s, l))

  -- ---- those who wait

  pub wait_did : (n : ParkedList) (rest : ℕ) (r : Waiter) → n.waiters ≡ h.parked.waiters ++ r ∷ [] → rest + 1 ≡ left → left ≤ room
      → let g : Held = record h { parked = n } in Did (waits r (state_of here h o out left room).doing) (state_of here h o out left room) (state_of here g o out rest room)
  unfolding waits
  wait_did n rest r e l b =
      let g : Held = record h { parked = n } in
      did_parts here h g o o out out left rest room (waits r (state_of here h o out left room).doing) (same_out out)
      (record { versions = refl; marks = refl; floor = refl; own = refl; waiters = e; done = refl; sent = refl; released = refl; added = omega (arith, l, b) })

  pub wait_room : (r : Waiter) → left ≤ room → Fits (state_of here h o out left room) (waits r (state_of here h o out left room).doing) → 1 ≤ left
  unfolding waits
  wait_room r b f = let k = f.room in omega (arith, k, b)

  pub unwait_did : (n : ParkedList) (j : ℕ) → n.waiters ≡ remove h.parked.waiters j
      → let g : Held = record h { parked = n } in Did (with_waiters (remove h.parked.waiters j) (state_of here h o out left room).doing) (state_of here h o out left room) (state_of here g o out left room)
  unwait_did n j e =
      let g : Held = record h { parked = n } in
      did_parts here h g o o out out left left room (with_waiters (remove h.parked.waiters j) (state_of here h o out left room).doing) (same_out out)
      (record { versions = refl; marks = refl; floor = refl; own = refl; waiters = e; done = refl; sent = refl; released = refl; added = refl })

  pub reply_did : (to : Outgoing) (tx : TxId) (k : KeyId) (a : Value) (by : Option TxId) (fc : ℕ) → Sends (letter here tx.node (ReadReply tx k a by (stamp fc)) ∷ []) out to
      → Did (replied here tx k a by fc (state_of here h o out left room).doing) (state_of here h o out left room) (state_of here h o to left room)
  unfolding replied
  reply_did to tx k a by fc s =
      did_parts here h h o o out to left left room (replied here tx k a by fc (state_of here h o out left room).doing) (sends_out _ out to s)
      (record { versions = refl; marks = refl; floor = refl; own = refl; waiters = refl; done = refl; sent = s.sent; released = s.released; added = refl })

  pub reply_space : (tx : TxId) (k : KeyId) (a : Value) (by : Option TxId) (fc : ℕ) → Fits (state_of here h o out left room) (replied here tx k a by fc (state_of here h o out left room).doing) → 0 < out.space
  unfolding replied
  reply_space tx k a by fc f = let s = f.space in let l = length-append out.sent (letter here tx.node (ReadReply tx k a by (stamp fc)) ∷ []) in omega (arith, s, l)

  -- ---- decisions that come

  pub commit_came_did : Stored here (view_of h o.all) h.store h.cache → (s : StoreList) (ms : List ℕ) (n : DonePairs) (rest : ℕ) (tx : TxId) (p : PartId) (fc : ℕ) (given : List KeyMark) → hosts here.scene here.node p ≡ true
      → ((d : Doing) (r : Rests tx p d.view h.store.versions) → d.view.marks ≡ h.marks → d.view.done ≡ h.done.pairs
      → (commit_came tx p fc given d).view ≡ with_parts d.view (merged r.cache s.versions) ms d.view.waiters n.pairs)
      → rest + 1 ≡ left → left ≤ room
      → let g : Held = record h { store = s; marks = ms; done = n } in
      Did (commit_came tx p fc given (state_of here h o out left room).doing) (state_of here h o out left room) (state_of here g o out rest room)
  unfolding commit_came
  commit_came_did stored s ms n rest tx p fc given hs f l b =
      let d = (state_of here h o out left room).doing in
      let r : Rests tx p d.view h.store.versions = record {
        cache = h.cache.versions;
        versions = refl;
        ordered = stored.is_cache.0;
        apart = lists_apart here (view_of h o.all) h.store h.cache stored;
        other = cache_other here tx p hs h.cache.versions (λ u j. (of_cache here (view_of h o.all) h.store h.cache stored u j).1);
      } in
      let e = f d r refl refl in
      record {
        done = λ z. record { view = sym e z; sent = out.sent; released = out.released; added = (let q : room - rest ≡ (room - left) + 1 = omega (arith, l, b) in q z) };
        stays = record { here = refl; room = refl; space = omega arith; earlier = refl; answered = refl };
      }

  pub abort_came_did : Stored here (view_of h o.all) h.store h.cache → (s : StoreList) (w : ParkedList) (n : DonePairs) (rest : ℕ) (tx : TxId) (p : PartId) → hosts here.scene here.node p ≡ true
      → ((d : Doing) (r : Rests tx p d.view h.store.versions) → d.view.done ≡ h.done.pairs → d.view.waiters ≡ h.parked.waiters
      → (abort_came tx p (drop_held tx p d.view.waiters) d).view ≡ with_parts d.view (merged r.cache s.versions) d.view.marks w.waiters n.pairs)
      → rest + 1 ≡ left → left ≤ room
      → let g : Held = record h { store = s; parked = w; done = n } in
      Did (abort_came tx p (drop_held tx p h.parked.waiters) (state_of here h o out left room).doing) (state_of here h o out left room) (state_of here g o out rest room)
  unfolding abort_came
  abort_came_did stored s w n rest tx p hs f l b =
      let d = (state_of here h o out left room).doing in
      let r : Rests tx p d.view h.store.versions = record {
        cache = h.cache.versions;
        versions = refl;
        ordered = stored.is_cache.0;
        apart = lists_apart here (view_of h o.all) h.store h.cache stored;
        other = cache_other here tx p hs h.cache.versions (λ u j. (of_cache here (view_of h o.all) h.store h.cache stored u j).1);
      } in
      let e = f d r refl refl in
      record {
        done = λ z. record { view = sym e z; sent = out.sent; released = out.released; added = (let q : room - rest ≡ (room - left) + 1 = omega (arith, l, b) in q z) };
        stays = record { here = refl; room = refl; space = omega arith; earlier = refl; answered = refl };
      }

  -- there is room for one more decided pair
  pub commit_came_left : (tx : TxId) (p : PartId) (fc : ℕ) (given : List KeyMark) → left ≤ room → Fits (state_of here h o out left room) (commit_came tx p fc given (state_of here h o out left room).doing) → 1 ≤ left
  unfolding commit_came
  commit_came_left tx p fc given b f = let r = f.room in omega (arith, r, b)

  pub abort_came_left : (tx : TxId) (p : PartId) (ws : List Waiter) → left ≤ room → Fits (state_of here h o out left room) (abort_came tx p ws (state_of here h o out left room).doing) → 1 ≤ left
  unfolding abort_came
  abort_came_left tx p ws b f = let r = f.room in omega (arith, r, b)

-- a rule that is not idle was done, or is idle and nothing was
pub ruled_done : (b : Bool) (d : Doing) (moves : Bool) (old new : WorkState) → b ≡ true → moves ≡ true → Did d old new → Ruled (if b then Some d else None) moves old new
ruled_done true d moves old new e m s = (m, s)
ruled_done false d moves old new e m s = absurd (cc e)

pub ruled_idle : (b : Bool) (d : Doing) (moves : Bool) (old new : WorkState) → b ≡ false → moves ≡ false → new ≡ old → Ruled (if b then Some d else None) moves old new
ruled_idle false d moves old new e m s = (m, s)
ruled_idle true d moves old new e m s = absurd (cc e)

-- the answer of a participant
pub ack_ruled : (here : Here) (h : Held) (o p : OwnState) (out : Outgoing) (left room i : ℕ) (x : Own) (moves : Bool) (ps : Option (List Asked))
    → MatchOption ps ((moves ≡ false) × (p ≡ o)) (λ qs. (moves ≡ true) × (p ≡ record o { all = slice_set o.all i (record x { parts = qs }) }))
    → Ruled (option_map (λ qs. acked i qs x (state_of here h o out left room).doing) ps) moves (state_of here h o out left room) (state_of here h p out left room)
unfolding acked
ack_ruled here h o p out left room i x moves None m = (m.0, ap (λ (q : OwnState). state_of here h q out left room) m.1)
ack_ruled here h o p out left room i x moves (Some qs) m = (
  m.0,
  did_parts here h h o p out out left left room (acked i qs x (state_of here h o out left room).doing) (same_out out)
      (record { versions = refl; marks = refl; floor = refl; own = ap (λ (q : OwnState). q.all) m.1; waiters = refl; done = refl; sent = refl; released = refl; added = refl }),
)

pub ack_works : (here : Here) (h : Held) (o p : OwnState) (left room i : ℕ) (x : Own) (moves : Bool) (ps : Option (List Asked)) → IsWork here h o left room
    → MatchOption ps ((moves ≡ false) × (p ≡ o)) (λ qs. (moves ≡ true) × (p ≡ record o { all = slice_set o.all i (record x { parts = qs }) })) → IsWork here h p left room
ack_works here h o p left room i x moves None w m = subst (λ (q : OwnState). IsWork here h q left room) (sym m.1) w
ack_works here h o p left room i x moves (Some qs) w m = work_own here h o p left room i (record x { parts = qs }) w m.1

-- ---- whether a decision counts here

second_stops : (a b c : Bool) → b ≡ true → (a && (not b && not c)) ≡ false
second_stops true true c e = refl
second_stops false b c e = refl
second_stops true false c e = absurd (cc e)

third_stops : (a b c : Bool) → c ≡ true → (a && (not b && not c)) ≡ false
third_stops true true c e = refl
third_stops false b c e = refl
third_stops true false c e = ap not e

pub decides_own : (here : Here) (tx : TxId) (p : PartId) (v : View) → same_node tx.node here.node ≡ true → decides here tx p v ≡ false
decides_own here tx p v e = second_stops (hosts here.scene here.node p) (same_node tx.node here.node) (is_done v tx p) e

pub decides_done : (here : Here) (tx : TxId) (p : PartId) (v : View) → is_done v tx p ≡ true → decides here tx p v ≡ false
decides_done here tx p v e = third_stops (hosts here.scene here.node p) (same_node tx.node here.node) (is_done v tx p) e

pub decides_away : (here : Here) (tx : TxId) (p : PartId) (v : View) → hosts here.scene here.node p ≡ false → decides here tx p v ≡ false
decides_away here tx p v e = ap (λ b. b && (not (same_node tx.node here.node) && not (is_done v tx p))) e

pub decides_here : (here : Here) (tx : TxId) (p : PartId) (v : View) → hosts here.scene here.node p ≡ true → same_node tx.node here.node ≡ false → is_done v tx p ≡ false → decides here tx p v ≡ true
decides_here here tx p v a b c =
    ap (λ z. z && (not (same_node tx.node here.node) && not (is_done v tx p))) a ∙ (ap (λ z. not z && not (is_done v tx p)) b ∙ ap not c)

-- ---- what the type of a work keeps of what it holds

-- other stores where they were, and room for so many more
pub work_held : (here : Here) (h g : Held) (o : OwnState) (left rest room : ℕ) → IsWork here h o left room → StoreStays h.store g.store → CacheStays h.cache g.cache → HasRoom rest g → rest ≤ left → IsWork here g o rest room
work_held here h g o left rest room w s c r l = work_then here h g o o left rest room w (stand_still here h g s c w.stands) refl refl (omega arith) r l

-- the store has given room to what was placed
pub work_placed : (here : Here) (h : Held) (o : OwnState) (left rest room n : ℕ) (s : StoreList) → IsWork here h o left room → StoreStays h.store s → h.store.spare ≤ s.spare + n → rest + n ≡ left
    → let g : Held = record h { store = s } in IsWork here g o rest room
work_placed here h o left rest room n s w k e l =
    let r = w.has_room in
    work_held here h (record h { store = s }) o left rest room w k (refl, refl)
    (record {
      store = (let a = r.store in omega (arith, a, e, l));
      cache = (let a = r.cache in omega (arith, a, l));
      done = (let a = r.done in omega (arith, a, l));
      parked = (let a = r.parked in omega (arith, a, l));
    })
    (omega (arith, l))

-- a commit or an abort that changed nothing
pub held_commit : (h : Held) (s : StoreList) (ms : List ℕ) (n : DonePairs) → s ≡ h.store → ms ≡ h.marks → n ≡ h.done → let g : Held = record h { store = s; marks = ms; done = n } in g ≡ h
held_commit h s ms n a b c = λ z. record h { store = a z; marks = b z; done = c z }

pub held_abort : (h : Held) (s : StoreList) (w : ParkedList) (n : DonePairs) → s ≡ h.store → w ≡ h.parked → n ≡ h.done → let g : Held = record h { store = s; parked = w; done = n } in g ≡ h
held_abort h s w n a b c = λ z. record h { store = a z; parked = b z; done = c z }

-- a pair that was taken was not there
pub is_new : (was taken : Bool) → taken ≡ not was → taken ≡ true → was ≡ false
is_new false taken e t = refl
is_new true taken e t = absurd (cc (e, t))

-- there is room for a decision that comes for the first time
module _ (here : Here) (h : Held) (o : OwnState) (out : Outgoing) (left room : ℕ) (tx : TxId) (p : PartId) (hs : hosts here.scene here.node p ≡ true) (other : same_node tx.node here.node ≡ false) (new : list_any (is_pair tx p) h.done.pairs ≡ false) where
  pub commit_came_room : (fc : ℕ) (given : List KeyMark) → left ≤ room
      → (decides here tx p (view_of h o.all) ≡ true → Fits (state_of here h o out left room) (commit_came tx p fc given (state_of here h o out left room).doing)) → 1 ≤ left
  commit_came_room fc given b f = commit_came_left here h o out left room tx p fc given b (f (decides_here here tx p (view_of h o.all) hs other new))

  pub abort_came_room : left ≤ room
      → (decides here tx p (view_of h o.all) ≡ true → Fits (state_of here h o out left room) (abort_came tx p (drop_held tx p h.parked.waiters) (state_of here h o out left room).doing)) → 1 ≤ left
  abort_came_room b f = abort_came_left here h o out left room tx p (drop_held tx p h.parked.waiters) b (f (decides_here here tx p (view_of h o.all) hs other new))
