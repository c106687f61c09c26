-- A work by its parts: what a change of the parts does to it.
use Rattle.std.proofs.Common.{Bool, List, Some, [], ap, arith, false, if◌then◌else◌, length, length-append, length-set, not, refl, replicate, slice_get, slice_set, subst, suc, sym, true, zero, ℕ, ◌++◌, ◌+◌, ◌-◌, ◌<◌, ◌∙◌, ◌∷◌, ◌≡◌, ◌≤◌}
use Rattle.cache_partition.specs.CacheLists.{IsCache, StaysHere as CacheStays}
use Rattle.replica_store.specs.StoreLists.{IsStore, StaysHere as StoreStays}
use Rattle.node_parts.specs.declared.held.Held.{Held}
use Rattle.node_parts.specs.Holding.{HasRoom, StandsAt, view_of}
use Rattle.node_parts.specs.Letters.{Sends}
use Rattle.node_parts.proofs.Owning.ScriptsHere.{own_here}
use Rattle.node_parts.specs.NodeScripts.{scripts_of}
use Rattle.node_parts.specs.Owning.{OwnState, open_from}
use Rattle.node_parts.specs.Sending.{Outgoing}
use Rattle.node_core.proofs.Parts.Showing.{Stored}
use Rattle.node_core.specs.Working.{Did, Fits, IsNode, IsWork, WorkState}
use Rattle.str_base.specs.declared.names.KeyId.{KeyId}
use Rattle.str_base.specs.declared.names.NodeId.{NodeId}
use Rattle.str_base.specs.declared.names.PartId.{PartId}
use Rattle.str_base.specs.declared.names.Ts.{Ts}
use Rattle.str_base.proofs.Lists.{get_pushed}
use Rattle.str_base.specs.declared.names.TxId.{TxId}
use Rattle.str_base.specs.Versions.{raised, stamp}
use Rattle.str_model.proofs.OwnFacts.FewOwn.{is_open, open_few, own_few}
use Rattle.str_model.proofs.ViewFacts.NodeKept.{node_opening}
use Rattle.str_model.proofs.ViewFacts.QuietTurns.{open_does}
use Rattle.str_model.specs.Acts.{ask_letters, asked, begun, fresh, in_phase, marked, requested, with_asked}
use Rattle.str_model.specs.declared.messages.Body.TheVariants.{ReadReq}
use Rattle.str_model.specs.declared.messages.Message.{Message}
use Rattle.str_model.specs.NodeFacts.{MomentFacts, NodeFacts, how_many, one_if}
use Rattle.str_model.specs.Owned.{Owns}
use Rattle.str_model.specs.Runs.{opening_view}
use Rattle.str_model.specs.Scripts.{at_own}
use Rattle.str_model.specs.Strange.{has_node}
use Rattle.str_model.specs.Views.{Doing, Global, Own, Remote, View, is_decided, letter, name_of, put}
use Rattle.str_scene.specs.declared.names.TxPlace.{TxPlace}
use Rattle.str_scene.specs.SceneLimits.{IsScene}
use Rattle.str_scene.specs.Scenes.{Here, nth, replicas}
use Rattle.version_chain.specs.ChainLists.{IsOrdered, is_among, merged}

-- the value of a work
abbrev pub state_of : Here → Held → OwnState → Outgoing → ℕ → ℕ → WorkState
state_of here h o out left room =
    record {
      here = here;
      doing = record { view = view_of h o.all; sent = out.sent; released = out.released; added = room - left };
      room = room;
      space = out.space + (length out.sent + length out.released);
      earlier = out.earlier;
      answered = out.answered;
    }

-- what goes out is as it was
pub record SameOut (old new : Outgoing) : Type 0 where
  pub earlier : new.earlier ≡ old.earlier
  pub answered : new.answered ≡ old.answered
  pub space : old.space + (length old.sent + length old.released) ≤ new.space + (length new.sent + length new.released)

pub same_out : (out : Outgoing) → SameOut out out
same_out out = record { earlier = refl; answered = refl; space = omega arith }

-- messages were sent
pub sends_out : (ms : List Message) (old new : Outgoing) → Sends ms old new → SameOut old new
sends_out ms old new s =
    record {
      earlier = s.earlier;
      answered = s.answered;
      space = (let a = ap length s.sent in let b = length-append old.sent ms in let c = ap length s.released in let d = s.space in omega (arith, a, b, c, d));
    }

-- what is done is told by its parts
pub record Parts (h : Held) (o : OwnState) (out : Outgoing) (more : ℕ) (d : Doing) : Type 0 where
  pub versions : merged h.cache.versions h.store.versions ≡ d.view.versions
  pub marks : h.marks ≡ d.view.marks
  pub floor : h.floor.0 ≡ d.view.floor
  pub own : o.all ≡ d.view.own
  pub waiters : h.parked.waiters ≡ d.view.waiters
  pub done : h.done.pairs ≡ d.view.done
  pub sent : out.sent ≡ d.sent
  pub released : out.released ≡ d.released
  pub added : more ≡ d.added

pub did_parts : (here : Here) (h g : Held) (o p : OwnState) (out to : Outgoing) (left rest room : ℕ) (d : Doing) → SameOut out to → Parts g p to (room - rest) d
    → Did d (state_of here h o out left room) (state_of here g p to rest room)
did_parts here h g o p out to left rest room d s e =
    record {
      done = λ z. record {
        view = record { versions = e.versions z; marks = e.marks z; floor = e.floor z; own = e.own z; waiters = e.waiters z; done = e.done z };
        sent = e.sent z;
        released = e.released z;
        added = e.added z;
      };
      stays = record { here = refl; room = refl; space = s.space; earlier = s.earlier; answered = s.answered };
    }

-- what is done with an own transaction that is undecided
pub did_open : (i : ℕ) (f : Own → Doing → Doing) (old new : WorkState) (x : Own) → Owns old.doing.view i x → is_decided x.phase ≡ false → Did (f x old.doing) old new → Did (at_own i f old.doing) old new
did_open i f old new x own op s = record { done = s.done ∙ sym (open_does i f old.doing x own op); stays = s.stays }

pub fits_open : (i : ℕ) (f : Own → Doing → Doing) (w : WorkState) (x : Own) → Owns w.doing.view i x → is_decided x.phase ≡ false → Fits w (at_own i f w.doing) → Fits w (f x w.doing)
fits_open i f w x own op h = subst (Fits w) (open_does i f w.doing x own op) h

-- ---- a transaction begins

-- so many places as are undecided
pub open_count : (n : ℕ) (xs : List Own) → length (open_from n xs) ≡ how_many is_open xs
open_count n [] = refl
open_count n (x ∷ xs) = by_test (is_decided x.phase) (open_count (n + 1) xs)
  where
    by_test : (b : Bool) → length (open_from (n + 1) xs) ≡ how_many is_open xs → length (if b then open_from (n + 1) xs else n ∷ open_from (n + 1) xs) ≡ one_if (not b) + how_many is_open xs
    by_test true r = omega (arith, r)
    by_test false r = omega (arith, r)

many_more : (test : Own → Bool) (xs : List Own) (x : Own) → how_many test (xs ++ x ∷ []) ≡ how_many test xs + one_if (test x)
many_more test [] x = omega arith
many_more test (y ∷ xs) x = let r = many_more test xs x in omega (arith, r)

text_within : {X : Type 0} (xs : List X) (k : ℕ) (x : X) → nth xs k ≡ Some x → k < length xs + 1
text_within xs zero x e = omega arith
text_within [] (suc k) x e = absurd (cc e)
text_within (y ∷ xs) (suc zero) x e = omega arith
text_within (y ∷ xs) (suc (suc k)) x e = let r = text_within xs (suc k) x e in omega (arith, r)

-- one more may begin: there are few before, and fewer than the node has scripts, few of them undecided, and its session is one of the scene
pub record MayCome (here : Here) (own : List Own) (place : TxPlace) : Type 0 where
  pub few : length own < 1024
  pub scripts : length own < scripts_of here.node here.scene.sessions
  pub undecided : length (open_from 0 own) < 16
  pub session : place.session.0 < length here.scene.sessions + 1

pub may_come : (here : Here) (d : Doing) (place : TxPlace) (rs : ℕ) → IsScene here.scene → has_node here here.node ≡ true → MomentFacts here (begun place rs d).view → MayCome here d.view.own place
unfolding begun
may_come here d place rs ok exists h =
    let own = d.view.own in
    let x = fresh place rs in
    let p = h.order.placed (length own) x (get_pushed own x) in
    record {
      few = (let a = own_few here ok exists (own ++ x ∷ []) h.order in let b = length-append own (x ∷ []) in omega (arith, a, b));
      scripts = (let a = own_here here exists (own ++ x ∷ []) h.order in let b = length-append own (x ∷ []) in omega (arith, a, b));
      undecided = (let a = open_few here ok exists (own ++ x ∷ []) h.order in let b = many_more is_open own x in let c = open_count 0 own in omega (arith, a, b, c));
      session = text_within here.scene.sessions place.session.0 p.text p.session;
    }

pub begin_did : (here : Here) (h : Held) (o p : OwnState) (out : Outgoing) (left rest room : ℕ) (place : TxPlace) (rs : Ts) → p.all ≡ o.all ++ fresh place rs.0 ∷ [] → rest + 1 ≡ left → left ≤ room
    → let g : Held = record h { floor = rs } in Did (begun place rs.0 (state_of here h o out left room).doing) (state_of here h o out left room) (state_of here g p out rest room)
unfolding begun
begin_did here h o p out left rest room place rs e l m =
    did_parts here h (record h { floor = rs }) o p out out left rest room (begun place rs.0 (state_of here h o out left room).doing) (same_out out)
    (record { versions = refl; marks = refl; floor = refl; own = e; waiters = refl; done = refl; sent = refl; released = refl; added = omega (arith, l, m) })

pub begin_left : (here : Here) (h : Held) (o : OwnState) (out : Outgoing) (left room : ℕ) (place : TxPlace) (rs : Ts) → left ≤ room
    → Fits (state_of here h o out left room) (begun place rs.0 (state_of here h o out left room).doing) → 1 ≤ left
unfolding begun
begin_left here h o out left room place rs m f = let r = f.room in omega (arith, r, m)

-- ---- what the type of a work keeps

-- a store and a cache that stay where they are
pub stand_still : (here : Here) (h g : Held) → StoreStays h.store g.store → CacheStays h.cache g.cache → StandsAt here h → StandsAt here g
stand_still here h g s c e =
    record {
      store_here = s.0 ∙ e.store_here;
      cache_here = c.0 ∙ e.cache_here;
      store_hosts = λ p. ap (λ ps. is_among ps p) s.1 ∙ e.store_hosts p;
      cache_hosts = λ p. ap (λ ps. is_among ps p) c.1 ∙ e.cache_hosts p;
    }

pub work_then : (here : Here) (h g : Held) (o p : OwnState) (left rest room : ℕ) → IsWork here h o left room → StandsAt here g → p.node ≡ o.node → p.sessions ≡ o.sessions
    → length o.all + o.spare ≤ length p.all + p.spare → HasRoom rest g → rest ≤ left → IsWork here g p rest room
work_then here h g o p left rest room w s n k l r m =
    record {
      limits = w.limits;
      exists = w.exists;
      stands = s;
      own_node = n ∙ w.own_node;
      sessions = k ∙ w.sessions;
      own_room = (let a = w.own_room in omega (arith, a, l));
      has_room = r;
      within = (let a = w.within in omega (arith, a, m));
    }

-- an own transaction is another now
pub work_own : (here : Here) (h : Held) (o p : OwnState) (left room i : ℕ) (y : Own) → IsWork here h o left room → p ≡ record o { all = slice_set o.all i y } → IsWork here h p left room
work_own here h o p left room i y w e =
    work_then here h h o p left left room w w.stands (ap (λ (q : OwnState). q.node) e) (ap (λ (q : OwnState). q.sessions) e)
    (let a = ap (λ (q : OwnState). length q.all) e in let b = ap (λ (q : OwnState). q.spare) e in let c = length-set o.all i y in omega (arith, a, b, c)) w.has_room (omega arith)

-- ---- own transactions

pub put_did : (here : Here) (h : Held) (o p : OwnState) (out : Outgoing) (left room i : ℕ) (f : Own → Own) (x : Own) → slice_get o.all i ≡ Some x → is_decided x.phase ≡ false
    → p.all ≡ slice_set o.all i (f x) → Did (at_own i (λ z. put i (f z)) (state_of here h o out left room).doing) (state_of here h o out left room) (state_of here h p out left room)
put_did here h o p out left room i f x own op e =
    let w = state_of here h o out left room in
    did_open i (λ z. put i (f z)) w (state_of here h p out left room) x own op
    (did_parts here h h o p out out left left room (put i (f x) w.doing) (same_out out)
    (record { versions = refl; marks = refl; floor = refl; own = e; waiters = refl; done = refl; sent = refl; released = refl; added = refl }))

pub mark_did : (here : Here) (h : Held) (o : OwnState) (out : Outgoing) (left room : ℕ) (ms : List ℕ) (k : KeyId) (rs : ℕ) → ms ≡ raised h.marks k rs
    → let g : Held = record h { marks = ms } in Did (marked k rs (state_of here h o out left room).doing) (state_of here h o out left room) (state_of here g o out left room)
unfolding marked
mark_did here h o out left room ms k rs e =
    did_parts here h (record h { marks = ms }) o o out out left left room (marked k rs (state_of here h o out left room).doing) (same_out out)
    (record { versions = refl; marks = e; floor = refl; own = refl; waiters = refl; done = refl; sent = refl; released = refl; added = refl })

pub request_did : (here : Here) (h : Held) (o p : OwnState) (out to : Outgoing) (left room i : ℕ) (k : KeyId) (m : NodeId) (x : Own) → slice_get o.all i ≡ Some x → is_decided x.phase ≡ false
    → Sends (letter here m (ReadReq (name_of here i) k (stamp x.snap.rs)) ∷ []) out to → p.all ≡ slice_set o.all i (in_phase (Remote k) x)
    → Did (at_own i (requested here i k m) (state_of here h o out left room).doing) (state_of here h o out left room) (state_of here h p to left room)
unfolding requested
request_did here h o p out to left room i k m x own op s e =
    let w = state_of here h o out left room in
    did_open i (requested here i k m) w (state_of here h p to left room) x own op
    (did_parts here h h o p out to left left room (requested here i k m x w.doing) (sends_out _ out to s)
    (record { versions = refl; marks = refl; floor = refl; own = e; waiters = refl; done = refl; sent = s.sent; released = s.released; added = refl }))

pub request_space : (here : Here) (h : Held) (o : OwnState) (out : Outgoing) (left room i : ℕ) (k : KeyId) (m : NodeId) (x : Own) → slice_get o.all i ≡ Some x → is_decided x.phase ≡ false
    → Fits (state_of here h o out left room) (at_own i (requested here i k m) (state_of here h o out left room).doing) → 0 < out.space
unfolding requested
request_space here h o out left room i k m x own op f =
    let w = state_of here h o out left room in
    let g = (fits_open i (requested here i k m) w x own op f).space in
    let l = length-append out.sent (letter here m (ReadReq (name_of here i) k (stamp x.snap.rs)) ∷ []) in omega (arith, g, l)

pub ask_did : (here : Here) (h : Held) (o p : OwnState) (out to : Outgoing) (left room i lc : ℕ) (q : PartId) (x : Own) → slice_get o.all i ≡ Some x → is_decided x.phase ≡ false
    → Sends (ask_letters here i lc x q (replicas here.scene q)) out to → p.all ≡ slice_set o.all i (record x { parts = with_asked q x.parts; phase = Global lc })
    → Did (at_own i (asked here i lc q) (state_of here h o out left room).doing) (state_of here h o out left room) (state_of here h p to left room)
unfolding asked
ask_did here h o p out to left room i lc q x own op s e =
    let w = state_of here h o out left room in
    did_open i (asked here i lc q) w (state_of here h p to left room) x own op
    (did_parts here h h o p out to left left room (asked here i lc q x w.doing) (sends_out _ out to s)
    (record { versions = refl; marks = refl; floor = refl; own = e; waiters = refl; done = refl; sent = s.sent; released = s.released; added = refl }))

pub ask_space : (here : Here) (h : Held) (o : OwnState) (out : Outgoing) (left room i lc : ℕ) (q : PartId) (x : Own) → slice_get o.all i ≡ Some x → is_decided x.phase ≡ false
    → Fits (state_of here h o out left room) (at_own i (asked here i lc q) (state_of here h o out left room).doing) → length (ask_letters here i lc x q (replicas here.scene q)) ≤ out.space
unfolding asked
ask_space here h o out left room i lc q x own op f =
    let w = state_of here h o out left room in
    let g = (fits_open i (asked here i lc q) w x own op f).space in
    let l = length-append out.sent (ask_letters here i lc x q (replicas here.scene q)) in omega (arith, g, l)

-- the stores of a work show its view
pub stored_of : (here : Here) (h : Held) (o : OwnState) (left room : ℕ) → IsWork here h o left room → MomentFacts here (view_of h o.all) → IsStore h.store × IsCache h.cache → Stored here (view_of h o.all) h.store h.cache
stored_of here h o left room w f k = record { limits = w.limits; exists = w.exists; facts = f; versions = refl; stand = w.stands; is_store = k.0; is_cache = k.1 }

-- the name of an own transaction
pub own_name : (here : Here) (o : OwnState) (i : ℕ) (t u : TxId) → t ≡ u → u ≡ record { node = o.node; seq = i + 1 } → o.node ≡ here.node → t ≡ name_of here i
own_name here o i t u p q n = p ∙ (q ∙ (λ z. record { node = n z; seq = i + 1 }))

-- an own transaction is another now, and the stores are others where they were
pub work_stores : (here : Here) (h g : Held) (o p : OwnState) (left rest room i : ℕ) (y : Own) → IsWork here h o left room → p ≡ record o { all = slice_set o.all i y } → StoreStays h.store g.store → CacheStays h.cache g.cache
    → HasRoom rest g → rest ≤ left → IsWork here g p rest room
work_stores here h g o p left rest room i y w e s c r l =
    let v = work_own here h o p left room i y w e in
    work_then here h g p p left rest room v (stand_still here h g s c w.stands) refl refl (omega arith) r l

-- ---- the beginning

pub view_new : (here : Here) (h : Held) (o : OwnState) → (h.store.versions ≡ []) × (h.cache.versions ≡ []) → h.marks ≡ replicate (length here.scene.keys.names) 0 → h.floor.0 ≡ 0
    → (h.done.pairs ≡ []) × (h.parked.waiters ≡ []) → o.all ≡ [] → view_of h o.all ≡ opening_view here.scene
view_new here h o v m f l a = λ z. record { versions = merged (v.1 z) (v.0 z); marks = m z; floor = f z; own = a z; waiters = l.1 z; done = l.0 z }

pub node_new : (here : Here) (v : View) → IsScene here.scene → has_node here here.node ≡ true → v ≡ opening_view here.scene → IsNode here v
node_new here v ok e q =
    record { limits = ok; exists = e; facts = subst (NodeFacts here) (sym q) (node_opening here); ordered = subst (λ (u : View). IsOrdered u.versions) (sym q) tt }
