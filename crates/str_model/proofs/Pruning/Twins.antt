-- Two steps that stand alike: one over a full list of versions, one over a pruned one. Each single change keeps that.
use Rattle.std.proofs.Common.{List, None, Option, Some, [], ap, filter, map, max, refl, slice_set, subst, ℕ, ◌++◌, ◌∙◌, ◌∷◌, ◌≡◌}
use Rattle.partition_map.specs.declared.rows.Asked.{Asked}
use Rattle.dependency_set.specs.Snapshots.{Snap}
use Rattle.str_base.specs.declared.names.Cause.{Cause}
use Rattle.str_base.specs.declared.names.KeyId.{KeyId}
use Rattle.str_base.specs.declared.names.NodeId.{NodeId}
use Rattle.str_base.specs.declared.names.PartId.{PartId}
use Rattle.str_base.specs.declared.names.Ts.{Ts}
use Rattle.str_base.specs.declared.names.TxId.{TxId}
use Rattle.str_base.specs.declared.names.Value.{Value}
use Rattle.str_base.specs.declared.names.Version.{Version}
use Rattle.str_base.specs.Versions.{finalise, insert_all, of_pair, of_tx, settled, stamp, without}
use Rattle.str_model.specs.declared.names.KeyMark.{KeyMark}
use Rattle.str_model.specs.declared.messages.Arrived.{Arrived}
use Rattle.str_model.specs.declared.messages.Body.TheVariants.{ReadReply, Refuse}
use Rattle.str_model.specs.declared.messages.Message.{Message}
use Rattle.str_model.specs.declared.messages.Waiter.{Waiter}
use Rattle.str_scene.specs.declared.names.TxPlace.{TxPlace}
use Rattle.str_scene.specs.Scenes.{Here, hosts}
use Rattle.str_model.specs.Acts
use Rattle.str_model.specs.Acts.{abort_came, aborted, accepted, acked, asked, begun, certified, closed, commit_came, committed, marked, refused, replied, requested, taken, waits, with_waiters}
use Rattle.str_model.specs.Pruning.{pruned, pruned_versions}
use Rattle.str_model.specs.Views.{Doing, Own, View, letter, name_of, put, release, send}
use Rattle.str_model.proofs.Pruning.PruneOrder.{InOrder, Kernel, PassesOpen, kernel_all, order_filter}
use Rattle.str_model.proofs.Pruning.PruneTurns.{kernel_filter, kernel_finalise, kernel_without}
use Rattle.std.proofs.lemmas.Bool.{and_parts}

-- two messages are one, or a reply or a refusal of one transaction that has its decision
pub data Alike (Dec : TxId → Type 0) : Message → Message → Type 0 where
  a_same : (m n : Message) → m ≡ n → Alike Dec m n
  a_reply : (from to : NodeId) (tx : TxId) (k : KeyId) (v v' : Value) (by by' : Option TxId) (fc fc' : Ts) → Dec tx
      → Alike Dec (record { sender = from; receiver = to; body = ReadReply tx k v by fc }) (record { sender = from; receiver = to; body = ReadReply tx k v' by' fc' })
  a_refuse : (from to : NodeId) (tx : TxId) (p : PartId) (by by' : TxId) (k : KeyId) → Dec tx
      → Alike Dec (record { sender = from; receiver = to; body = Refuse tx p by k }) (record { sender = from; receiver = to; body = Refuse tx p by' k })

abbrev pub AllAlike : (TxId → Type 0) → List Message → List Message → Type 0
AllAlike Dec [] [] = Unit {0}
AllAlike Dec [] (y ∷ ys) = ⊥
AllAlike Dec (x ∷ xs) [] = ⊥
AllAlike Dec (x ∷ xs) (y ∷ ys) = Alike Dec x y × AllAlike Dec xs ys

pub alike_self : (Dec : TxId → Type 0) (xs : List Message) → AllAlike Dec xs xs
alike_self Dec [] = tt
alike_self Dec (x ∷ xs) = (a_same x x refl, alike_self Dec xs)

pub alike_append : (Dec : TxId → Type 0) (xs ys us vs : List Message) → AllAlike Dec xs ys → AllAlike Dec us vs → AllAlike Dec (xs ++ us) (ys ++ vs)
alike_append Dec [] [] us vs a b = b
alike_append Dec [] (y ∷ ys) us vs a b = absurd a
alike_append Dec (x ∷ xs) [] us vs a b = absurd a
alike_append Dec (x ∷ xs) (y ∷ ys) us vs a b = (a.0, alike_append Dec xs ys us vs a.1 b)

-- the views come to the same when they are pruned, the messages are alike, and the answers are the same
pub record Twin (g : ℕ) (Dec : TxId → Type 0) (d e : Doing) : Type 0 where
  pub view : pruned g d.view ≡ pruned g e.view
  pub sent : AllAlike Dec d.sent e.sent
  pub released : d.released ≡ e.released

module _ (g : ℕ) (Dec : TxId → Type 0) where
  -- a view with another list of versions
  with_versions : List Version → View → View
  with_versions vs v = record v { versions = vs }

  -- the lists of twins
  pub kernel_of : (d e : Doing) → Twin g Dec d e → Kernel g d.view.versions e.view.versions
  kernel_of d e t = ap (λ (v : View). v.versions) t.view

  more_sent : (d e : Doing) (ms : List Message) → Twin g Dec d e → AllAlike Dec (d.sent ++ ms) (e.sent ++ ms)
  more_sent d e ms t = alike_append Dec d.sent e.sent ms ms t.sent (alike_self Dec ms)

  -- ---- changes that see no versions

  pub twin_put : (i : ℕ) (x : Own) (d e : Doing) → Twin g Dec d e → Twin g Dec (put i x d) (put i x e)
  twin_put i x d e t = record { view = ap (λ (v : View). record v { own = slice_set v.own i x }) t.view; sent = t.sent; released = t.released }

  pub twin_marked : (k : KeyId) (rs : ℕ) (d e : Doing) → Twin g Dec d e → Twin g Dec (marked k rs d) (marked k rs e)
  unfolding marked
  twin_marked k rs d e t =
      record { view = ap (λ (v : View). record v { marks = Rattle.str_base.specs.Versions.raised v.marks k rs }) t.view; sent = t.sent; released = t.released }

  pub twin_begun : (place : TxPlace) (rs : ℕ) (d e : Doing) → Twin g Dec d e → Twin g Dec (begun place rs d) (begun place rs e)
  unfolding begun
  twin_begun place rs d e t =
      record { view = ap (λ (v : View). record v { floor = rs; own = v.own ++ Acts.fresh place rs ∷ [] }) t.view; sent = t.sent; released = t.released }

  pub twin_send : (ms : List Message) (d e : Doing) → Twin g Dec d e → Twin g Dec (send ms d) (send ms e)
  twin_send ms d e t = record { view = t.view; sent = more_sent d e ms t; released = t.released }

  pub twin_requested : (here : Here) (i : ℕ) (k : KeyId) (to : NodeId) (x : Own) (d e : Doing) → Twin g Dec d e → Twin g Dec (requested here i k to x d) (requested here i k to x e)
  unfolding requested
  twin_requested here i k to x d e t = twin_send _ (put i _ d) (put i _ e) (twin_put i _ d e t)

  pub twin_acked : (i : ℕ) (parts : List Asked) (x : Own) (d e : Doing) → Twin g Dec d e → Twin g Dec (acked i parts x d) (acked i parts x e)
  unfolding acked
  twin_acked i parts x d e t = twin_put i _ d e t

  pub twin_asked : (here : Here) (i lc : ℕ) (p : PartId) (x : Own) (d e : Doing) → Twin g Dec d e → Twin g Dec (asked here i lc p x d) (asked here i lc p x e)
  unfolding asked
  twin_asked here i lc p x d e t = twin_send _ (put i _ d) (put i _ e) (twin_put i _ d e t)

  pub twin_closed : (here : Here) (i : ℕ) (x : Own) (d e : Doing) → Twin g Dec d e → Twin g Dec (closed here i x d) (closed here i x e)
  unfolding closed
  twin_closed here i x d e t =
      record {
        view = ap (λ (v : View). record v { own = slice_set v.own i (Acts.decided_as (Rattle.str_model.specs.Views.Committed None None) x) }) t.view;
        sent = t.sent;
        released = ap (release (Acts.answer_of here i x (Rattle.str_model.specs.declared.messages.Outcome.TheVariants.Committed None x.gets))) t.released;
      }

  pub twin_waits : (w : Waiter) (d e : Doing) → Twin g Dec d e → Twin g Dec (waits w d) (waits w e)
  unfolding waits
  twin_waits w d e t = record { view = ap (λ (v : View). record v { waiters = v.waiters ++ w ∷ [] }) t.view; sent = t.sent; released = t.released }

  pub twin_waiters : (ws : List Waiter) (d e : Doing) → Twin g Dec d e → Twin g Dec (with_waiters ws d) (with_waiters ws e)
  twin_waiters ws d e t = record { view = ap (λ (v : View). record v { waiters = ws }) t.view; sent = t.sent; released = t.released }

  pub twin_replied : (here : Here) (tx : TxId) (k : KeyId) (v v' : Value) (by by' : Option TxId) (fc fc' : ℕ) (d e : Doing) → Dec tx → Twin g Dec d e
      → Twin g Dec (replied here tx k v by fc d) (replied here tx k v' by' fc' e)
  unfolding replied
  twin_replied here tx k v v' by by' fc fc' d e c t =
      record {
        view = t.view;
        sent = alike_append Dec d.sent e.sent _ _ t.sent (a_reply here.node tx.node tx k v v' by by' (stamp fc) (stamp fc') c, tt);
        released = t.released;
      }

  pub twin_refused : (here : Here) (a : Arrived) (by by' : TxId) (k : KeyId) (d e : Doing) → Dec a.tx → Twin g Dec d e → Twin g Dec (refused here a by k d) (refused here a by' k e)
  unfolding refused
  twin_refused here a by by' k d e c t =
      record {
        view = ap (λ (v : View). Acts.with_done a.tx a.part v) t.view;
        sent = alike_append Dec d.sent e.sent _ _ t.sent (a_refuse here.node a.tx.node a.tx a.part by by' k c, tt);
        released = t.released;
      }

  -- ---- changes of the versions

  -- twins with other lists that come to the same
  lists : (F : List Version → View → View) (d e : View) (xs ys : List Version) → ((us vs : List Version) (v : View) → pruned_versions g us ≡ pruned_versions g vs → pruned g (F us v) ≡ pruned g (F vs v))
      → Kernel g xs ys → ((zs : List Version) → pruned g (F zs d) ≡ pruned g (F zs e)) → pruned g (F xs d) ≡ pruned g (F ys e)
  lists F d e xs ys h k same = h xs ys d k ∙ same ys

  pub twin_aborted : (here : Here) (i : ℕ) (cause : Cause) (x : Own) (d e : Doing) → PassesOpen (of_tx (name_of here i)) d.view.versions → PassesOpen (of_tx (name_of here i)) e.view.versions
      → Twin g Dec d e → Twin g Dec (aborted here i cause x d) (aborted here i cause x e)
  unfolding aborted
  twin_aborted here i cause x d e h k t =
      let vs = kernel_without g (of_tx (name_of here i)) d.view.versions e.view.versions h k (kernel_of d e t) in
      record {
        view = (λ j. record (t.view j) { versions = vs j; own = slice_set (t.view j).own i (Acts.decided_as (Rattle.str_model.specs.Views.Aborted (Rattle.str_model.specs.Views.lc_of x.phase) cause) x) });
        sent = more_sent d e (Acts.abort_letters here i x.parts) t;
        released = ap (release (Acts.answer_of here i x (Rattle.str_model.specs.declared.messages.Outcome.TheVariants.Aborted cause))) t.released;
      }

  pub twin_certified : (here : Here) (i lc : ℕ) (snap : Snap) (x : Own) (d e : Doing) → InOrder d.view.versions → InOrder e.view.versions → Twin g Dec d e → Twin g Dec (certified here i lc snap x d) (certified here i lc snap x e)
  unfolding certified
  twin_certified here i lc snap x d e o p t =
      let vs = kernel_all g (map (Acts.local_version here i lc) x.writes) d.view.versions e.view.versions o p (kernel_of d e t) in
      record {
        view = (λ j. record (t.view j) {
          versions = vs j;
          floor = max (t.view j).floor lc;
          own = slice_set (t.view j).own i (record x { snap = snap; parts = Rattle.str_scene.specs.Scenes.participants here.scene here.node x.writes; phase = Rattle.str_model.specs.Views.Local lc });
        });
        sent = t.sent;
        released = t.released;
      }

  hosted_open : (here : Here) (tx : TxId) (vs : List Version) → PassesOpen (of_tx tx) vs → PassesOpen (Acts.is_hosted_of here tx) vs
  hosted_open here tx vs h v i e = h v i (and_parts (of_tx tx v) (hosts here.scene here.node v.part) e).0

  pub twin_committed : (here : Here) (i lc fc : ℕ) (x : Own) (d e : Doing) → InOrder d.view.versions → InOrder e.view.versions → PassesOpen (of_tx (name_of here i)) d.view.versions → PassesOpen (of_tx (name_of here i)) e.view.versions
      → Twin g Dec d e → Twin g Dec (committed here i lc fc x d) (committed here i lc fc x e)
  unfolding committed
  twin_committed here i lc fc x d e o p h k t =
      let tx = name_of here i in
      let kernel = kernel_of d e t in
      let new = kernel_filter g (Acts.is_hosted_of here tx) d.view.versions e.view.versions (hosted_open here tx d.view.versions h) (hosted_open here tx e.view.versions k) kernel in
      let rest = kernel_without g (of_tx tx) d.view.versions e.view.versions h k kernel in
      let vs =
      subst (λ (zs : List Version). Kernel g (Acts.decided_versions here tx fc d.view.versions) (insert_all (map (settled fc) zs) (without (of_tx tx) e.view.versions))) new
      (kernel_all g (map (settled fc) (filter (Acts.is_hosted_of here tx) d.view.versions)) (without (of_tx tx) d.view.versions) (without (of_tx tx) e.view.versions)
      (order_filter (λ v. Rattle.std.specs.Prelude.not (of_tx tx v)) d.view.versions o) (order_filter (λ v. Rattle.std.specs.Prelude.not (of_tx tx v)) e.view.versions p) rest) in
      let marks : d.view.marks ≡ e.view.marks = ap (λ (v : View). v.marks) t.view in
      let letters : Acts.commit_letters here i x fc d.view ≡ Acts.commit_letters here i x fc e.view =
      (λ j. Acts.commit_letters here i x fc (record (d.view) { marks = marks j })) in
      record {
        view = (λ j. record (t.view j) {
          versions = vs j;
          floor = max (t.view j).floor fc;
          own = slice_set (t.view j).own i (Acts.decided_as (Rattle.str_model.specs.Views.Committed (Some lc) (Some fc)) x);
        });
        sent = alike_append Dec d.sent e.sent _ _ t.sent (subst (λ (ms : List Message). AllAlike Dec (Acts.commit_letters here i x fc d.view) ms) letters (alike_self Dec (Acts.commit_letters here i x fc d.view)));
        released = ap (release (Acts.answer_of here i x (Rattle.str_model.specs.declared.messages.Outcome.TheVariants.Committed (Some (stamp fc)) x.gets))) t.released;
      }

  twin_placed : (a : Arrived) (ts : ℕ) (d e : Doing) → InOrder d.view.versions → InOrder e.view.versions → Twin g Dec d e → Twin g Dec (Acts.placed a ts d) (Acts.placed a ts e)
  twin_placed a ts d e o p t =
      let vs = kernel_all g (map (Acts.pre_version a ts) a.writes) d.view.versions e.view.versions o p (kernel_of d e t) in
      record { view = (λ j. record (t.view j) { versions = vs j }); sent = t.sent; released = t.released }

  pub twin_accepted : (here : Here) (a : Arrived) (ts : ℕ) (d e : Doing) → InOrder d.view.versions → InOrder e.view.versions → Twin g Dec d e → Twin g Dec (accepted here a ts d) (accepted here a ts e)
  unfolding accepted
  twin_accepted here a ts d e o p t = twin_send _ (Acts.placed a ts d) (Acts.placed a ts e) (twin_placed a ts d e o p t)

  pub twin_taken : (here : Here) (a : Arrived) (ts : ℕ) (d e : Doing) → InOrder d.view.versions → InOrder e.view.versions → Twin g Dec d e → Twin g Dec (taken here a ts d) (taken here a ts e)
  unfolding taken
  twin_taken here a ts d e o p t = twin_send _ (Acts.placed a ts d) (Acts.placed a ts e) (twin_placed a ts d e o p t)

  pub twin_commit_came : (tx : TxId) (p : PartId) (fc : ℕ) (ms : List KeyMark) (d e : Doing) → InOrder d.view.versions → InOrder e.view.versions → PassesOpen (of_pair tx p) d.view.versions → PassesOpen (of_pair tx p) e.view.versions
      → Twin g Dec d e → Twin g Dec (commit_came tx p fc ms d) (commit_came tx p fc ms e)
  unfolding commit_came
  twin_commit_came tx p fc ms d e o q h k t =
      let vs = kernel_finalise g (of_pair tx p) fc d.view.versions e.view.versions o q h k (kernel_of d e t) in
      record {
        view = (λ j. record (t.view j) { versions = vs j; marks = Acts.raise_all ms (t.view j).marks; done = (t.view j).done ++ (tx, p) ∷ [] });
        sent = t.sent;
        released = t.released;
      }

  pub twin_abort_came : (tx : TxId) (p : PartId) (ws : List Waiter) (d e : Doing) → PassesOpen (of_pair tx p) d.view.versions → PassesOpen (of_pair tx p) e.view.versions
      → Twin g Dec d e → Twin g Dec (abort_came tx p ws d) (abort_came tx p ws e)
  unfolding abort_came
  twin_abort_came tx p ws d e h k t =
      let vs = kernel_without g (of_pair tx p) d.view.versions e.view.versions h k (kernel_of d e t) in
      record { view = (λ j. record (t.view j) { versions = vs j; done = (t.view j).done ++ (tx, p) ∷ []; waiters = ws }); sent = t.sent; released = t.released }
