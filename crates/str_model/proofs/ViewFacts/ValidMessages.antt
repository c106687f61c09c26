-- What a message that is not strange names: each exists, and its times are below the limit.
use Rattle.std.proofs.Common.{List, [], ltb-true, map, subst, true, ◌&&◌, ◌<◌, ◌∷◌, ◌≡◌}
use Rattle.std.specs.List.{list_all}
use Rattle.str_base.specs.declared.names.KeyId.{KeyId}
use Rattle.str_base.specs.declared.names.NodeId.{NodeId}
use Rattle.str_base.specs.declared.names.PartId.{PartId}
use Rattle.str_base.specs.declared.names.Ts.{Ts}
use Rattle.str_base.specs.declared.names.TxId.{TxId}
use Rattle.str_base.specs.declared.names.Write.{Write}
use Rattle.str_model.specs.declared.names.KeyMark.{KeyMark}
use Rattle.str_model.specs.declared.messages.Body.{Body}
use Rattle.str_model.specs.declared.messages.Body.TheVariants.{Abort, Ack, Commit, Prepare, ReadReply, ReadReq, Refuse as Refusal, Replicate}
use Rattle.str_model.specs.declared.messages.Input.{Input}
use Rattle.str_model.specs.declared.messages.Message.{Message}
use Rattle.str_base.specs.Versions.{same_node, same_part}
use Rattle.str_model.specs.NodeFacts.{AreDistinct}
use Rattle.str_model.specs.Proposals.{ts_limit}
use Rattle.str_scene.specs.Scenes.{Here, part_of}
use Rattle.str_model.specs.Strange.{below_limit, distinct_keys, has_key, has_named, has_named_writes, has_node, has_part, has_value, has_values, has_writer, is_valid, keys_in, some_keys_in}
use Rattle.str_model.proofs.Principle.SingleChanges.{Comes}
use Rattle.str_model.proofs.ViewFacts.TimesBelow.{BodyBelow}
use Rattle.str_base.proofs.Tests.{and_true_left, and_true_right}
use Rattle.str_base.proofs.Members.{all_in, map_in}
use Rattle.str_base.specs.Members.{In}

pub valid_named : (here : Here) (m : Message) → is_valid here m ≡ true → has_named here m.body ≡ true
valid_named here m e = and_true_right (has_node here m.sender) (has_named here m.body) (and_true_right (same_node m.receiver here.node) (has_node here m.sender && has_named here m.body) e)

-- what has come names what exists
pub came_named : (here : Here) (input : Input) (from : NodeId) (b : Body) → Comes here input from b → has_named here b ≡ true
came_named here input from b c = subst (λ z. has_named here z ≡ true) c.3 (valid_named here c.0 c.4)

-- ---- what a Prepare and a Replicate name

pub record NamedWrites (here : Here) (tx : TxId) (p : PartId) (rs lc : Ts) (ws : List Write) : Type 0 where
  pub node : has_node here tx.node ≡ true
  pub part : has_part here p ≡ true
  pub rs_below : rs.0 < ts_limit
  pub lc_below : lc.0 < ts_limit
  pub once : AreDistinct ws
  pub keys : (w : Write) → In w ws → (has_key here w.key ≡ true) × (same_part (part_of here.scene w.key) p ≡ true)
  pub values : (w : Write) → In w ws → has_value here w.value ≡ true

some_in : (here : Here) (p : PartId) (ks : List KeyId) → some_keys_in here p ks ≡ true → keys_in here p ks ≡ true
some_in here p [] e = absurd (cc e)
some_in here p (k ∷ ks) e = e

pub below_of : (t : Ts) → below_limit t ≡ true → t.0 < ts_limit
below_of t e = ltb-true t.0 ts_limit e

pub named_writes : (here : Here) (tx : TxId) (p : PartId) (rs lc : Ts) (ws : List Write) → has_named_writes here tx p rs lc ws ≡ true → NamedWrites here tx p rs lc ws
named_writes here tx p rs lc ws e =
    let a = and_true_right (has_node here tx.node) (has_part here p && (below_limit rs && (below_limit lc && (some_keys_in here p (map (λ w. w.key) ws) && has_values here ws)))) e in
    let b = and_true_right (has_part here p) (below_limit rs && (below_limit lc && (some_keys_in here p (map (λ w. w.key) ws) && has_values here ws))) a in
    let c = and_true_right (below_limit rs) (below_limit lc && (some_keys_in here p (map (λ w. w.key) ws) && has_values here ws)) b in
    let d = and_true_right (below_limit lc) (some_keys_in here p (map (λ w. w.key) ws) && has_values here ws) c in
    let f : keys_in here p (map (λ (w : Write). w.key) ws) ≡ true = some_in here p (map (λ (w : Write). w.key) ws) (and_true_left (some_keys_in here p (map (λ (w : Write). w.key) ws)) (has_values here ws) d) in
    let g = and_true_right (distinct_keys (map (λ (w : Write). w.key) ws)) (list_all (λ k. has_key here k && same_part (part_of here.scene k) p) (map (λ (w : Write). w.key) ws)) f in
    record {
      node = and_true_left (has_node here tx.node) _ e;
      part = and_true_left (has_part here p) _ a;
      rs_below = below_of rs (and_true_left (below_limit rs) _ b);
      lc_below = below_of lc (and_true_left (below_limit lc) _ c);
      once = and_true_left (distinct_keys (map (λ (w : Write). w.key) ws)) (list_all (λ k. has_key here k && same_part (part_of here.scene k) p) (map (λ (w : Write). w.key) ws)) f;
      keys = λ w h. (let q = all_in (λ k. has_key here k && same_part (part_of here.scene k) p) (map (λ (w : Write). w.key) ws) w.key g (map_in (λ (w : Write). w.key) ws w h) in
          (and_true_left (has_key here w.key) (same_part (part_of here.scene w.key) p) q, and_true_right (has_key here w.key) (same_part (part_of here.scene w.key) p) q));
      values = λ w h. all_in (λ (w : Write). has_value here w.value) ws w (and_true_right (some_keys_in here p (map (λ (w : Write). w.key) ws)) (has_values here ws) d) h;
    }

-- ---- times

marks_below : (here : Here) (p : PartId) (ms : List KeyMark) → (keys_in here p (map (λ m. m.key) ms) && list_all (λ m. below_limit m.mark) ms) ≡ true → (m : KeyMark) → In m ms → m.mark.0 < ts_limit
marks_below here p ms e m h =
    below_of m.mark (all_in (λ (m : KeyMark). below_limit m.mark) ms m (and_true_right (keys_in here p (map (λ (m : KeyMark). m.key) ms)) (list_all (λ m. below_limit m.mark) ms) e) h)

pub named_below : (here : Here) (b : Body) → has_named here b ≡ true → BodyBelow ts_limit b
named_below here (ReadReq tx k rs) e = below_of rs (and_true_right (has_key here k) (below_limit rs) (and_true_right (has_node here tx.node) (has_key here k && below_limit rs) e))
named_below here (ReadReply tx k v by fc) e =
    below_of fc (and_true_right (has_writer here by) (below_limit fc) (and_true_right (has_value here v) (has_writer here by && below_limit fc)
    (and_true_right (has_key here k) (has_value here v && (has_writer here by && below_limit fc)) (and_true_right (has_node here tx.node) (has_key here k && (has_value here v && (has_writer here by && below_limit fc))) e))))
named_below here (Prepare tx p rs lc ws) e = let n = named_writes here tx p rs lc ws e in (n.rs_below, n.lc_below)
named_below here (Refusal tx p by k) e = tt
named_below here (Replicate tx p rs lc ws) e = let n = named_writes here tx p rs lc ws e in (n.rs_below, n.lc_below)
named_below here (Ack tx p ts) e = below_of ts (and_true_right (has_part here p) (below_limit ts) (and_true_right (has_node here tx.node) (has_part here p && below_limit ts) e))
named_below here (Commit tx p fc ms) e =
    let a = and_true_right (has_node here tx.node) (has_part here p && (below_limit fc && (keys_in here p (map (λ m. m.key) ms) && list_all (λ m. below_limit m.mark) ms))) e in
    let b = and_true_right (has_part here p) (below_limit fc && (keys_in here p (map (λ m. m.key) ms) && list_all (λ m. below_limit m.mark) ms)) a in
    (below_of fc (and_true_left (below_limit fc) _ b), marks_below here p ms (and_true_right (below_limit fc) (keys_in here p (map (λ m. m.key) ms) && list_all (λ m. below_limit m.mark) ms) b))
named_below here (Abort tx p) e = tt
