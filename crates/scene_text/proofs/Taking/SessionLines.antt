-- The lines of a scene's sessions are taken.
use Rattle.std.proofs.Common.{List, Some, [], ap, append-nil, append_assoc, arith, cond, length, length-append, nat_lt, refl, subst, sym, true, ℕ, ◌++◌, ◌+◌, ◌<◌, ◌∙◌, ◌∷◌, ◌≡◌, ◌≤◌}
use Rattle.str_scene.proofs.Filling.{add_tx_length}
use Rattle.std.proofs.lemmas.Bool.{and_from, lt-ltb}
use Rattle.std.proofs.lemmas.Bool.Decides.{Decides-eqb}
use Rattle.std.proofs.lemmas.Grind.{flat_map-append}
use Rattle.std.proofs.lemmas.List.Sums.{sum_by-append}
use Rattle.std.proofs.lemmas.Option.{same_Some}
use Rattle.std.specs.Prelude.{flat_map}
use Rattle.str_scene.proofs.Allowing.{up_to_holds}
use Rattle.scene_text.proofs.Taking.TableNumbers.{parts}
use Rattle.scene_text.proofs.Taking.HeadLines.{mk}
use Rattle.scene_text.proofs.Taking.StatesKept.{GoodScript, GoodSession, count_at, tx_count}
use Rattle.scene_text.proofs.Taking.TransactionLines.{TableGood, body, ops_taken}
use Rattle.scene_text.proofs.Taking.TransactionEnds.{count_at-add_tx, script_ops, session_ops}
use Rattle.scene_text.proofs.Taking.LinesTaken.{taken}
use Rattle.scene_text.specs.LineOrder.{Place, section_follows, tx_follows}
use Rattle.scene_text.specs.LineOrder.Place.{AfterOp, AfterSession, AfterTx}
use Rattle.scene_text.specs.SceneLines.{one_session_lines, script_lines}
use Rattle.scene_text.specs.Taking.{Limits, State, Taken, closed, goes_on, settle, settled, take_line, take_lines}
use Rattle.scene_text.specs.Taking.Taken.{Now, Refused}
use Rattle.scene_text.specs.declared.lines.Line.{Line}
use Rattle.scene_text.specs.declared.lines.Line.TheVariants.{Session as LSession, Tx as LTx}
use Rattle.str_base.specs.Versions.{same_node}
use Rattle.str_base.specs.declared.names.NodeId.{NodeId}
use Rattle.str_scene.specs.Lists.{Each}
use Rattle.str_scene.specs.Drafts.{add_tx, with_session, with_tx}
use Rattle.str_scene.specs.SceneLimits.{counted, key_of, text_of}
use Rattle.str_scene.specs.Scenes.{Scene, Session}
use Rattle.str_scene.specs.declared.names.Op.{Op}

-- by what the first line comes to
append_from : (limits : Limits) (ls ms : List Line) → ((t : State) → take_lines limits t (ls ++ ms) ≡ goes_on (λ x. take_lines limits x ms) (take_lines limits t ls)) → (o : Taken) →
    goes_on (λ t. take_lines limits t (ls ++ ms)) o ≡ goes_on (λ t. take_lines limits t ms) (goes_on (λ t. take_lines limits t ls) o)
append_from limits ls ms f (Now t) = f t
append_from limits ls ms f (Refused why) = refl

-- lines and then other lines
pub taken-append : (limits : Limits) (ls ms : List Line) (s : State) → take_lines limits s (ls ++ ms) ≡ goes_on (λ t. take_lines limits t ms) (take_lines limits s ls)
taken-append limits [] ms s = refl
taken-append limits (l ∷ ls) ms s = append_from limits ls ms (λ t. taken-append limits ls ms t) (take_line limits s l)

-- where the first lines lead, the others go on
pub taken_on : (limits : Limits) (ls ms : List Line) (s t : State) → take_lines limits s ls ≡ Now t → take_lines limits s (ls ++ ms) ≡ take_lines limits t ms
taken_on limits ls ms s t e = taken-append limits ls ms s ∙ ap (goes_on (λ x. take_lines limits x ms)) e

-- the draft with the open transaction is this scene, and a session or the schedule may follow
pub record Open (s : State) (d : Scene) : Type 0 where
  pub order : (next : Place) → section_follows next s.place ≡ Some next
  pub settled_ : settled s ≡ d

-- besides, a transaction may follow
pub record OpenTx (s : State) (d : Scene) : Type 0 where
  pub open_ : Open s d
  pub order : tx_follows s.place ≡ Some AfterTx

-- the draft has the nodes of the scene
settle_nodes : (ops : List Op) (d : Scene) → (settle ops d).nodes ≡ d.nodes
settle_nodes [] d = refl
settle_nodes (o ∷ ops) d = refl

-- as many sessions
settle_sessions : (ops : List Op) (d : Scene) → length (settle ops d).sessions ≡ length d.sessions
settle_sessions [] d = refl
settle_sessions (o ∷ ops) d = add_tx_length (o ∷ ops) d.sessions

-- as many at each node
settle_at : (n : NodeId) (ops : List Op) (d : Scene) → count_at n (settle ops d).sessions ≡ count_at n d.sessions
settle_at n [] d = refl
settle_at n (o ∷ ops) d = count_at-add_tx n (o ∷ ops) d.sessions

-- lines lead to a state with this scene
pub record Leads (limits : Limits) (s : State) (ls : List Line) (d : Scene) : Type 0 where
  pub end : State
  pub taken : take_lines limits s ls ≡ Now end
  pub open_ : Open end d

-- in which a transaction may follow
pub record LeadsTx (limits : Limits) (s : State) (ls : List Line) (d : Scene) : Type 0 where
  pub end : State
  pub taken : take_lines limits s ls ≡ Now end
  pub open_ : OpenTx end d

-- a transaction with an operation becomes one of the scene
settle_some : (ops : List Op) (d : Scene) → 1 ≤ length ops → settle ops d ≡ with_tx ops d
settle_some [] d l = absurd (omega arith)
settle_some (o ∷ ops) d l = refl

-- the lines of a transaction are taken
tx_taken : (limits : Limits) (scene : Scene) (ops : List Op) (m k m' k' : ℕ) (ss : List Session) (s : State) → TableGood scene →
    GoodScript limits scene.version scene.keys ops → tx_count ss < limits.txs → counted m (flat_map key_of ops) ≡ Some m' → counted k (flat_map text_of ops) ≡ Some k' →
    OpenTx s (body scene m k ss) → LeadsTx limits s (script_lines scene.keys ops) (body scene m' k' (add_tx ops ss))
tx_taken limits scene ops m k m' k' ss s t good room c x o =
    let first : take_line limits s LTx ≡ Now (mk AfterTx (body scene m k ss) []) =
    taken limits s LTx AfterTx o.order refl (subst (λ d. nat_lt (tx_count d.sessions) limits.txs ≡ true) (sym o.open_.settled_) (lt-ltb _ _ room))
    ∙ ap (λ d. Now (closed AfterTx d)) o.open_.settled_ in
    let rest = ops_taken limits scene AfterTx ops m k ss [] m' k' t good.2 refl (omega (arith, good.1)) c x in
    record {
      end = mk AfterOp (body scene m' k' ss) ops;
      taken = ap (goes_on (λ z. take_lines limits z _)) first ∙ (rest.taken ∙ ap (λ p. Now (mk p (body scene m' k' ss) ops)) (rest.at_op good.0));
      open_ = record { open_ = record { order = λ next. refl; settled_ = settle_some ops (body scene m' k' ss) good.0 }; order = refl };
    }

-- a session at the end gets the transaction
add_tx-last : (ops : List Op) (done : List Session) (s : Session) → add_tx ops (done ++ s ∷ []) ≡ done ++ (record s { txs = s.txs ++ ops ∷ [] }) ∷ []
add_tx-last ops [] s = refl
add_tx-last ops (x ∷ []) s = refl
add_tx-last ops (x ∷ y ∷ done) s = ap (λ xs. x ∷ xs) (add_tx-last ops (y ∷ done) s)

-- a session of these transactions
abbrev session_of : NodeId → List (List Op) → Session
session_of n txs = record { node = n; txs = txs }

-- the transactions with another session at the end
tx_count-last : (done : List Session) (s : Session) → tx_count (done ++ s ∷ []) ≡ tx_count done + length s.txs
tx_count-last done s = omega (arith, sum_by-append (λ x. length x.txs) done (s ∷ []))

-- the transactions of a session are taken
txs_taken : (limits : Limits) (scene : Scene) (n : NodeId) (txs past : List (List Op)) (m k m' k' : ℕ) (done : List Session) (s : State) → TableGood scene →
    Each (GoodScript limits scene.version scene.keys) txs → tx_count done + length past + length txs ≤ limits.txs →
    counted m (flat_map key_of (script_ops txs)) ≡ Some m' → counted k (flat_map text_of (script_ops txs)) ≡ Some k' →
    OpenTx s (body scene m k (done ++ session_of n past ∷ [])) →
    LeadsTx limits s (flat_map (script_lines scene.keys) txs) (body scene m' k' (done ++ session_of n (past ++ txs) ∷ []))
txs_taken limits scene n [] past m k m' k' done s t good room c x o = record {
  end = s;
  taken = refl;
  open_ = subst (λ d. OpenTx s d)
      (ap (λ z. body scene z k (done ++ session_of n past ∷ [])) (same_Some _ _ c) ∙ (ap (λ z. body scene m' z (done ++ session_of n past ∷ [])) (same_Some _ _ x)
      ∙ ap (λ z. body scene m' k' (done ++ session_of n z ∷ [])) (sym (append-nil past)))) o;
}
txs_taken limits scene n (ops ∷ txs) past m k m' k' done s t good room c x o =
    let p = parts m m' (flat_map key_of ops) (flat_map key_of (script_ops txs)) (ap (counted m) (sym (flat_map-append key_of ops (script_ops txs))) ∙ c) in
    let q = parts k k' (flat_map text_of ops) (flat_map text_of (script_ops txs)) (ap (counted k) (sym (flat_map-append text_of ops (script_ops txs))) ∙ x) in
    let first = tx_taken limits scene ops m k p.middle q.middle (done ++ session_of n past ∷ []) s t good.0
    (omega (arith, room, tx_count-last done (session_of n past))) p.first q.first o in
    let next : OpenTx first.end (body scene p.middle q.middle (done ++ session_of n (past ++ ops ∷ []) ∷ [])) =
    subst (λ z. OpenTx first.end (body scene p.middle q.middle z)) (add_tx-last ops done (session_of n past)) first.open_ in
    let rest = txs_taken limits scene n txs (past ++ ops ∷ []) p.middle q.middle m' k' done first.end t good.1
    (omega (arith, room, length-append past (ops ∷ []))) p.second q.second next in
    record {
      end = rest.end;
      taken = taken_on limits (script_lines scene.keys ops) (flat_map (script_lines scene.keys) txs) s first.end first.taken ∙ rest.taken;
      open_ = subst (λ z. OpenTx rest.end (body scene m' k' (done ++ session_of n z ∷ []))) (append_assoc past (ops ∷ []) txs) rest.open_;
    }

-- there is room for the next session at its node
room_at : (n : NodeId) (s : Session) (done ss : List Session) (most : ℕ) → s.node ≡ n → count_at n (done ++ s ∷ ss) ≤ most → count_at n done < most
room_at n s done ss most e few =
    let f : Session → ℕ = λ x. cond (same_node x.node n) 1 0 in
    let self : same_node s.node n ≡ true = (Decides-eqb s.node.0 n.0).1 (ap (λ z. z.0) e) in
    let one : f s ≡ 1 = ap (λ b. cond b 1 0) self in
    omega (arith, few, one, sum_by-append f done (s ∷ ss), sum_by-append f (s ∷ []) ss)

-- the lines of sessions are taken
pub sessions_taken : (limits : Limits) (scene : Scene) (ss : List Session) (m k m' k' : ℕ) (done : List Session) (s : State) → TableGood scene →
    Each (GoodSession limits scene.version scene.nodes scene.keys) ss → length done + length ss ≤ limits.sessions →
    ((n : NodeId) → count_at n (done ++ ss) ≤ limits.at_node) → tx_count done + tx_count ss ≤ limits.txs →
    counted m (flat_map key_of (session_ops ss)) ≡ Some m' → counted k (flat_map text_of (session_ops ss)) ≡ Some k' →
    Open s (body scene m k done) → Leads limits s (flat_map (one_session_lines scene.keys) ss) (body scene m' k' (done ++ ss))
sessions_taken limits scene [] m k m' k' done s t good few at_node most c x o = record {
  end = s;
  taken = refl;
  open_ = subst (λ d. Open s d)
      (ap (λ z. body scene z k done) (same_Some _ _ c) ∙ (ap (λ z. body scene m' z done) (same_Some _ _ x) ∙ ap (λ z. body scene m' k' z) (sym (append-nil done)))) o;
}
sessions_taken limits scene (y ∷ ss) m k m' k' done s t good few at_node most c x o =
    let more = sum_by-append (λ z. length z.txs) (y ∷ []) ss in
    let p = parts m m' (flat_map key_of (script_ops y.txs)) (flat_map key_of (session_ops ss)) (ap (counted m) (sym (flat_map-append key_of (script_ops y.txs) (session_ops ss))) ∙ c) in
    let q = parts k k' (flat_map text_of (script_ops y.txs)) (flat_map text_of (session_ops ss)) (ap (counted k) (sym (flat_map-append text_of (script_ops y.txs) (session_ops ss))) ∙ x) in
    let nodes : s.draft.nodes ≡ scene.nodes = sym (settle_nodes s.ops s.draft) ∙ ap (λ d. d.nodes) o.settled_ in
    let count : length s.draft.sessions ≡ length done = sym (settle_sessions s.ops s.draft) ∙ ap (λ d. length d.sessions) o.settled_ in
    let here : count_at y.node s.draft.sessions ≡ count_at y.node done = sym (settle_at y.node s.ops s.draft) ∙ ap (λ d. count_at y.node d.sessions) o.settled_ in
    let free : count_at y.node done < limits.at_node = room_at y.node y done ss limits.at_node refl (at_node y.node) in
    let b : State = mk AfterSession (body scene m k (done ++ session_of y.node [] ∷ [])) [] in
    let begun : take_line limits s (LSession y.node) ≡ Now b =
    taken limits s (LSession y.node) AfterSession (o.order AfterSession) (up_to_holds s.draft.nodes y.node.0 (good.0.0.0, omega (arith, good.0.0.1, nodes)))
    (and_from _ _ (lt-ltb (length s.draft.sessions) limits.sessions (omega (arith, few, count))) (lt-ltb (count_at y.node s.draft.sessions) limits.at_node (omega (arith, free, here))))
    ∙ ap (λ d. Now (closed AfterSession (with_session y.node d))) o.settled_ in
    let txs = txs_taken limits scene y.node y.txs [] m k p.middle q.middle done b t good.0.1 (omega (arith, most, more)) p.first q.first
    (record { open_ = record { order = λ next. refl; settled_ = refl }; order = refl }) in
    let rest = sessions_taken limits scene ss p.middle q.middle m' k' (done ++ y ∷ []) txs.end t good.1 (omega (arith, few, length-append done (y ∷ [])))
    (λ n. subst (λ z. count_at n z ≤ limits.at_node) (sym (append_assoc done (y ∷ []) ss)) (at_node n))
    (omega (arith, most, more, tx_count-last done y)) p.second q.second txs.open_.open_ in
    record {
      end = rest.end;
      taken =
          taken_on limits (one_session_lines scene.keys y) (flat_map (one_session_lines scene.keys) ss) s txs.end
          (ap (goes_on (λ z. take_lines limits z (flat_map (script_lines scene.keys) y.txs))) begun ∙ txs.taken)
          ∙ rest.taken;
      open_ = subst (λ z. Open rest.end (body scene m' k' z)) (append_assoc done (y ∷ []) ss) rest.open_;
    }
