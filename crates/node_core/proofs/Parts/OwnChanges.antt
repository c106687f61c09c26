-- The changes of an own transaction that touch what a node holds or sends: its certification, its abort and its commit.
use Rattle.std.proofs.Common.{Bool, List, None, Some, [], ap, arith, false, if◌then◌else◌, length, length-append, map, max, refl, slice_get, slice_set, sym, true, ℕ, ◌+◌, ◌<◌, ◌∙◌, ◌∷◌, ◌≡◌, ◌≤◌}
use Rattle.std.proofs.lemmas.List.{length-map}
use Rattle.cache_partition.specs.CacheLists.{CacheList}
use Rattle.dependency_set.specs.Snapshots.{Snap}
use Rattle.node_parts.specs.declared.held.Held.{Held}
use Rattle.node_parts.specs.Letters.{Sends}
use Rattle.node_parts.specs.Owning.{OwnState}
use Rattle.node_parts.specs.Sending.{Outgoing}
use Rattle.node_core.proofs.Parts.PartChanges.{SameOut, did_open, did_parts, fits_open, same_out, sends_out, state_of}
use Rattle.node_core.specs.Working.{Did, Fits}
use Rattle.partition_map.specs.declared.rows.Asked.{Asked}
use Rattle.replica_store.specs.StoreLists.{StoreList}
use Rattle.str_base.specs.declared.names.Cause.{Cause}
use Rattle.str_base.specs.declared.names.NodeId.{NodeId}
use Rattle.str_base.specs.declared.names.PartId.{PartId}
use Rattle.str_base.specs.declared.names.Ts.{Ts}
use Rattle.str_base.specs.declared.names.TxId.{TxId}
use Rattle.str_base.specs.Versions.{insert_all, of_tx, stamp, without}
use Rattle.str_model.proofs.Room.PartCosts.{release-length}
use Rattle.str_model.specs.Acts.{abort_letters, aborted, answer_of, ask_letters, asked_ones, certified, closed, commit_letters, committed, decided_as, decided_versions, local_version}
use Rattle.str_model.specs.declared.messages.Answer.{Answer}
use Rattle.str_model.specs.declared.messages.Message.{Message}
use Rattle.str_model.specs.declared.messages.Outcome.{Outcome}
use Rattle.str_model.specs.declared.messages.Outcome.TheVariants.{Aborted as Aborts, Committed as Commits}
use Rattle.str_model.specs.Scripts.{at_own}
use Rattle.str_model.specs.Views.{Aborted, Committed, Local, Own, View, is_decided, lc_of, name_of, release}
use Rattle.str_scene.specs.Scenes.{Here, leads, others, participants}
use Rattle.version_chain.specs.ChainLists.{merged}

-- an answer was released
pub record Releases (a : Answer) (old new : Outgoing) : Type 0 where
  pub released : new.released ≡ release a old.released
  pub earlier : new.earlier ≡ old.earlier
  pub answered : new.answered ≡ old.answered
  pub sent : new.sent ≡ old.sent
  pub space : old.space ≤ new.space + 1

pub releases_out : (a : Answer) (old new : Outgoing) → Releases a old new → SameOut old new
releases_out a old new s =
    record {
      earlier = s.earlier;
      answered = s.answered;
      space = (let p = ap length s.released in let q = release-length a old.released in let r = ap length s.sent in let t = s.space in omega (arith, p, q, r, t));
    }

pub release_is : (a b : Answer) (old new : Outgoing) → a ≡ b → new.released ≡ release a old.released → (new.earlier ≡ old.earlier) × (new.answered ≡ old.answered) × (new.sent ≡ old.sent) → old.space ≤ new.space + 1
    → Releases b old new
release_is a b old new e r s l = record { released = r ∙ ap (λ (z : Answer). release z old.released) e; earlier = s.0; answered = s.1; sent = s.2; space = l }

-- the answer of an own transaction, by its name
pub answer_is : (here : Here) (o : OwnState) (i : ℕ) (x : Own) (result : Outcome) (a : Answer) → o.node ≡ here.node → (let t : TxId = record { node = o.node; seq = i + 1 } in a ≡ record { tx = t; place = x.place; rs = stamp x.snap.rs; outcome = result })
    → a ≡ answer_of here i x result
answer_is here o i x result a n e = e ∙ (λ z. record { tx = record { node = n z; seq = i + 1 }; place = x.place; rs = stamp x.snap.rs; outcome = result })

pub out_then : (a b c : Outgoing) → SameOut a b → SameOut b c → SameOut a c
out_then a b c s t =
    record { earlier = t.earlier ∙ s.earlier; answered = t.answered ∙ s.answered; space = (let p = s.space in let q = t.space in omega (arith, p, q)) }

pub abort_count : (here : Here) (i : ℕ) (parts : List Asked) → length (abort_letters here i parts) ≡ length (asked_ones parts)
abort_count here i parts = length-map (asked_ones parts) _

pub commit_count : (here : Here) (i : ℕ) (x : Own) (fc : ℕ) (v : View) → length (commit_letters here i x fc v) ≡ length x.parts
commit_count here i x fc v = length-map x.parts _

-- the stores are others now
abbrev pub with_stores : Held → StoreList → CacheList → Held
with_stores h s k = record h { store = s; cache = k }

module _ (here : Here) (h : Held) (o p : OwnState) (out : Outgoing) (left room i : ℕ) (x : Own) (own : slice_get o.all i ≡ Some x) (op : is_decided x.phase ≡ false) where
  -- ---- an abort

  pub abort_did : (s : StoreList) (k : CacheList) (mid to : Outgoing) (cause : Cause) → merged k.versions s.versions ≡ without (of_tx (name_of here i)) (merged h.cache.versions h.store.versions)
      → Sends (abort_letters here i x.parts) out mid → Releases (answer_of here i x (Aborts cause)) mid to → p.all ≡ slice_set o.all i (decided_as (Aborted (lc_of x.phase) cause) x)
      → Did (at_own i (aborted here i cause) (state_of here h o out left room).doing) (state_of here h o out left room) (state_of here (with_stores h s k) p to left room)
  unfolding aborted
  abort_did s k mid to cause v l r e =
      let w = state_of here h o out left room in
      did_open i (aborted here i cause) w (state_of here (with_stores h s k) p to left room) x own op
      (did_parts here h (with_stores h s k) o p out to left left room (aborted here i cause x w.doing) (out_then out mid to (sends_out _ out mid l) (releases_out _ mid to r))
      (record { versions = v; marks = refl; floor = refl; own = e; waiters = refl; done = refl; sent = r.sent ∙ l.sent; released = r.released ∙ ap (λ (as' : List Answer). release (answer_of here i x (Aborts cause)) as') l.released; added = refl }))

  pub abort_space : (cause : Cause) → Fits (state_of here h o out left room) (at_own i (aborted here i cause) (state_of here h o out left room).doing) → length (asked_ones x.parts) + 1 ≤ out.space
  unfolding aborted
  abort_space cause f =
      let w = state_of here h o out left room in
      let g = (fits_open i (aborted here i cause) w x own op f).space in
      let l = length-append out.sent (abort_letters here i x.parts) in
      let m = abort_count here i x.parts in
      let r = release-length (answer_of here i x (Aborts cause)) out.released in
      omega (arith, g, l, m, r)

  -- ---- a commit

  pub commit_did : (s : StoreList) (k : CacheList) (floor : Ts) (mid to : Outgoing) (lc fc : ℕ) → lc_of x.phase ≡ Some lc
      → merged k.versions s.versions ≡ decided_versions here (name_of here i) fc (merged h.cache.versions h.store.versions) → floor.0 ≡ max h.floor.0 fc
      → Sends (commit_letters here i x fc (state_of here h o out left room).doing.view) out mid → Releases (answer_of here i x (Commits (Some (stamp fc)) x.gets)) mid to
      → p.all ≡ slice_set o.all i (decided_as (Committed (lc_of x.phase) (Some fc)) x)
      → let g : Held = record h { store = s; cache = k; floor = floor } in
      Did (at_own i (committed here i lc fc) (state_of here h o out left room).doing) (state_of here h o out left room) (state_of here g p to left room)
  unfolding committed
  commit_did s k floor mid to lc fc c v m l r e =
      let w = state_of here h o out left room in
      let g : Held = record h { store = s; cache = k; floor = floor } in
      did_open i (committed here i lc fc) w (state_of here g p to left room) x own op
      (did_parts here h g o p out to left left room (committed here i lc fc x w.doing) (out_then out mid to (sends_out _ out mid l) (releases_out _ mid to r))
      (record {
        versions = v;
        marks = refl;
        floor = m;
        own = e ∙ ap (λ n. slice_set o.all i (decided_as (Committed n (Some fc)) x)) c;
        waiters = refl;
        done = refl;
        sent = r.sent ∙ l.sent;
        released = r.released ∙ ap (λ (as' : List Answer). release (answer_of here i x (Commits (Some (stamp fc)) x.gets)) as') l.released;
        added = refl;
      }))

  pub commit_space : (lc fc : ℕ) → Fits (state_of here h o out left room) (at_own i (committed here i lc fc) (state_of here h o out left room).doing) → length x.parts + 1 ≤ out.space
  unfolding committed
  commit_space lc fc f =
      let w = state_of here h o out left room in
      let g = (fits_open i (committed here i lc fc) w x own op f).space in
      let l = length-append out.sent (commit_letters here i x fc w.doing.view) in
      let m = commit_count here i x fc w.doing.view in
      let r = release-length (answer_of here i x (Commits (Some (stamp fc)) x.gets)) out.released in
      omega (arith, g, l, m, r)

  -- ---- a commit of nothing

  pub close_did : (to : Outgoing) → lc_of x.phase ≡ None → Releases (answer_of here i x (Commits None x.gets)) out to → p.all ≡ slice_set o.all i (decided_as (Committed (lc_of x.phase) None) x)
      → Did (at_own i (closed here i) (state_of here h o out left room).doing) (state_of here h o out left room) (state_of here h p to left room)
  unfolding closed
  close_did to c r e =
      let w = state_of here h o out left room in
      did_open i (closed here i) w (state_of here h p to left room) x own op
      (did_parts here h h o p out to left left room (closed here i x w.doing) (releases_out _ out to r)
      (record { versions = refl; marks = refl; floor = refl; own = e ∙ ap (λ n. slice_set o.all i (decided_as (Committed n None) x)) c; waiters = refl; done = refl; sent = r.sent; released = r.released; added = refl }))

  pub close_space : Fits (state_of here h o out left room) (at_own i (closed here i) (state_of here h o out left room).doing) → 0 < out.space
  unfolding closed
  close_space f =
      let w = state_of here h o out left room in
      let g = (fits_open i (closed here i) w x own op f).space in
      let r = release-length (answer_of here i x (Commits None x.gets)) out.released in
      omega (arith, g, r)

  -- ---- a certification

  pub certify_did : (s : StoreList) (k : CacheList) (floor : Ts) (rest lc : ℕ) (snap : Snap)
      → merged k.versions s.versions ≡ insert_all (map (local_version here i lc) x.writes) (merged h.cache.versions h.store.versions) → floor.0 ≡ max h.floor.0 lc
      → p.all ≡ slice_set o.all i (record x { snap = snap; parts = participants here.scene here.node x.writes; phase = Local lc }) → rest + length x.writes ≡ left → left ≤ room
      → let g : Held = record h { store = s; cache = k; floor = floor } in
      Did (at_own i (certified here i lc snap) (state_of here h o out left room).doing) (state_of here h o out left room) (state_of here g p out rest room)
  unfolding certified
  certify_did s k floor rest lc snap v m e l b =
      let w = state_of here h o out left room in
      let g : Held = record h { store = s; cache = k; floor = floor } in
      did_open i (certified here i lc snap) w (state_of here g p out rest room) x own op
      (did_parts here h g o p out out left rest room (certified here i lc snap x w.doing) (same_out out)
      (record { versions = v; marks = refl; floor = m; own = e; waiters = refl; done = refl; sent = refl; released = refl; added = omega (arith, l, b) }))

  pub certify_left : (lc : ℕ) (snap : Snap) → left ≤ room → Fits (state_of here h o out left room) (at_own i (certified here i lc snap) (state_of here h o out left room).doing) → length x.writes ≤ left
  unfolding certified
  certify_left lc snap b f =
      let w = state_of here h o out left room in
      let g = (fits_open i (certified here i lc snap) w x own op f).room in omega (arith, g, b)

-- as many letters ask for another transaction
by_length : (b : Bool) (xs : List NodeId) (f g : NodeId → Message) (u v : Message) → length (if b then map f xs else u ∷ []) ≡ length (if b then map g xs else v ∷ [])
by_length true xs f g u v = length-map xs f ∙ sym (length-map xs g)
by_length false xs f g u v = refl

pub letters_same : (here : Here) (i j lc : ℕ) (x y : Own) (p : PartId) (rs : List NodeId) → length (ask_letters here i lc x p rs) ≡ length (ask_letters here j lc y p rs)
letters_same here i j lc x y p rs = by_length (leads here.node rs) (others here.node rs) _ _ _ _
