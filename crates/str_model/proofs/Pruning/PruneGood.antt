-- What a step over a pruned list needs of its view, and that each single change keeps it.
use Rattle.std.proofs.Common.{List, Some, [], ap, append-nil, eq-eqb, eqb-true, false, filter, inl, inr, map, not, refl, slice_get, slice_set, sym, true, ℕ, ◌&&◌, ◌++◌, ◌==◌, ◌∙◌, ◌∷◌, ◌≡◌, ◌⊎◌}
use Rattle.std.specs.List.{list_any}
use Rattle.std.proofs.lemmas.List.Folds.{list_any-append}
use Rattle.str_base.specs.declared.names.PartId.{PartId}
use Rattle.str_base.specs.declared.names.TxId.{TxId}
use Rattle.str_base.specs.declared.names.Version.{Version}
use Rattle.str_base.specs.Versions.{is_undecided, of_pair, of_tx, same_node, same_part, same_tx, settled, without}
use Rattle.str_scene.specs.Scenes.{Here, hosts}
use Rattle.str_model.specs.Acts
use Rattle.str_model.specs.Acts.{abort_came, aborted, accepted, acked, asked, begun, certified, closed, commit_came, committed, marked, refused, replied, requested, taken, waits}
use Rattle.str_model.specs.declared.messages.Input.{Input}
use Rattle.str_model.specs.Proposals.{is_done, is_pair, proposed}
use Rattle.str_model.specs.Views.{Doing, Own, View, is_decided, name_of}
use Rattle.str_model.proofs.Principle.SingleChanges.{Act, Where, act_abort, act_abort_came, act_accept, act_ack, act_ask, act_begin, act_certify, act_close, act_commit, act_commit_came, act_mark, act_put, act_refuse, act_reply, act_request, act_take, act_unwait, act_wait}
use Rattle.str_model.proofs.Changes.OwnChanges.{OwnStep, own_step, rests, starts_one, turns_one}
use Rattle.std.proofs.lemmas.Bool.{and_from, and_parts, cases_eq, not-true, or_left, or_right}
use Rattle.str_base.proofs.Lists.{get_push, get_set, get_set_other}
use Rattle.str_base.proofs.Members.{in_filter, in_insert_all, in_map, in_without}
use Rattle.str_base.proofs.SameNames.{same_tx-is}
use Rattle.str_base.specs.Members.{In}
use Rattle.str_model.proofs.Changes.PairWords.{becomes-open}

-- the version's transaction is one of another node whose pair is done, or an own one that has its decision
pub data Finished (here : Here) (v : View) (q : Version) : Type 0 where
  f_done : same_node q.tx.node here.node ≡ false → is_done v q.tx q.part ≡ true → Finished here v q
  f_own : (i : ℕ) (x : Own) → q.tx ≡ name_of here i → slice_get v.own i ≡ Some x → is_decided x.phase ≡ true → Finished here v q

abbrev pub Finals : Here → View → Type 0
Finals here v = (q : Version) → In q v.versions → is_undecided q.kind ≡ false → Finished here v q

-- ---- what stays

-- the done list grows at its end
abbrev Grows : List (TxId × PartId) → List (TxId × PartId) → Type 0
Grows xs ys = (more : List (TxId × PartId)) × (ys ≡ xs ++ more)

done_act : (here : Here) (input : Input) (w : Where) (d e : Doing) → Act here input w d e → Grows d.view.done e.view.done
unfolding begun marked aborted committed closed certified asked acked requested accepted taken refused waits replied commit_came abort_came
done_act here input w d e (act_refuse a u k d' h m) = ((a.tx, a.part) ∷ [], refl)
done_act here input w d e (act_commit_came from tx p fc ms d' c h) = ((tx, p) ∷ [], refl)
done_act here input w d e (act_abort_came from tx p d' c h) = ((tx, p) ∷ [], refl)
done_act here input w d e (act_begin place rs d' r h) = ([], sym (append-nil d'.view.done))
done_act here input w d e (act_mark k t d' rd) = ([], sym (append-nil d'.view.done))
done_act here input w d e (act_put i x y d' own g) = ([], sym (append-nil d'.view.done))
done_act here input w d e (act_request i k m x d' own g) = ([], sym (append-nil d'.view.done))
done_act here input w d e (act_certify i lc snap x d' own f n c) = ([], sym (append-nil d'.view.done))
done_act here input w d e (act_ask i lc p x d' own f l g) = ([], sym (append-nil d'.view.done))
done_act here input w d e (act_ack i lc from tx p ts parts x d' own c q g) = ([], sym (append-nil d'.view.done))
done_act here input w d e (act_abort i cause x d' own f y) = ([], sym (append-nil d'.view.done))
done_act here input w d e (act_commit i lc fc x d' own l n le f g) = ([], sym (append-nil d'.view.done))
done_act here input w d e (act_close i x d' own p n) = ([], sym (append-nil d'.view.done))
done_act here input w d e (act_accept a ts d' h m) = ([], sym (append-nil d'.view.done))
done_act here input w d e (act_take from a d' c l) = ([], sym (append-nil d'.view.done))
done_act here input w d e (act_wait r d' h) = ([], sym (append-nil d'.view.done))
done_act here input w d e (act_unwait kept rest r d' h) = ([], sym (append-nil d'.view.done))
done_act here input w d e (act_reply tx k rs v u fc d' h) = ([], sym (append-nil d'.view.done))

-- a decided own transaction stays
stays_decided : (d e : View) → OwnStep d e → (i : ℕ) (x : Own) → slice_get d.own i ≡ Some x → is_decided x.phase ≡ true → slice_get e.own i ≡ Some x
stays_decided d e (rests o f) i x q z = ap (λ (xs : List Own). slice_get xs i) o ∙ q
stays_decided d e (starts_one place rs up o f) i x q z = ap (λ (xs : List Own). slice_get xs i) o ∙ get_push d.own i (Acts.fresh place rs) x q
stays_decided d e (turns_one j y y' is o b) i x q z = ap (λ (xs : List Own). slice_get xs i) o ∙ by_place (cases_eq i j)
  where
    by_place : (i ≡ j) ⊎ ((i ≡ j) → ⊥) → slice_get (slice_set d.own j y') i ≡ Some x
    by_place (inl k) =
        let both : Some x ≡ Some y = sym q ∙ (ap (λ (n : ℕ). slice_get d.own n) k ∙ is) in
        let same : x ≡ y = cc both in
        absurd (cc (z, ap (λ (u : Own). is_decided u.phase) same, becomes-open d d.floor e.floor y y' b))
    by_place (inr k) = get_set_other d.own j i y' k ∙ q

finished_stays : (here : Here) (input : Input) (w : Where) (d e : Doing) → Act here input w d e → (q : Version) → Finished here d.view q → Finished here e.view q
finished_stays here input w d e a q (f_done n h) =
    let g = done_act here input w d e a in
    f_done n (ap (list_any (is_pair q.tx q.part)) g.1 ∙ (list_any-append (is_pair q.tx q.part) d.view.done g.0 ∙ or_left (is_done d.view q.tx q.part) (list_any (is_pair q.tx q.part) g.0) h))
finished_stays here input w d e a q (f_own i x n at z) = f_own i x n (stays_decided d.view e.view (own_step here input w d e a) i x at z) z

-- ---- each change

last_done : (xs : List (TxId × PartId)) (tx : TxId) (p : PartId) (t : TxId) (r : PartId) → t ≡ tx → r.0 ≡ p.0 → list_any (is_pair t r) (xs ++ (tx, p) ∷ []) ≡ true
last_done xs tx p t r e f =
    let node : tx.node.0 ≡ t.node.0 = ap (λ (z : TxId). z.node.0) (sym e) in
    let seq : tx.seq ≡ t.seq = ap (λ (z : TxId). z.seq) (sym e) in
    let one : is_pair t r (tx, p) ≡ true = and_from (same_tx tx t) (same_part p r) (and_from (same_node tx.node t.node) (tx.seq == t.seq) (eq-eqb tx.node.0 t.node.0 node) (eq-eqb tx.seq t.seq seq)) (eq-eqb p.0 r.0 (sym f)) in
    list_any-append (is_pair t r) xs ((tx, p) ∷ []) ∙ or_right (list_any (is_pair t r) xs) (list_any (is_pair t r) ((tx, p) ∷ [])) (or_left (is_pair t r (tx, p)) false one)

finals_by : (here : Here) (input : Input) (w : Where) (d e : Doing) → Act here input w d e → (q : Version) → In q e.view.versions → is_undecided q.kind ≡ false → Finals here d.view → (Finished here d.view q → Finished here e.view q) → Finished here e.view q
unfolding begun marked aborted committed closed certified asked acked requested accepted taken refused waits replied commit_came abort_came
finals_by here input w d e (act_begin place rs d' r z) q m k h s = s (h q m k)
finals_by here input w d e (act_mark l t d' rd) q m k h s = s (h q m k)
finals_by here input w d e (act_put i x y d' own g) q m k h s = s (h q m k)
finals_by here input w d e (act_request i l n x d' own g) q m k h s = s (h q m k)
finals_by here input w d e (act_certify i lc snap x d' own f n c) q m k h s =
    elim (in_insert_all (map (Acts.local_version here i lc) x.writes) d'.view.versions q m) [
      | inl j ↦ (let r = in_map (Acts.local_version here i lc) x.writes q j in absurd (cc (ap (λ (z : Version). is_undecided z.kind) r.2, k)))
      | inr j ↦ s (h q j k)
    ]
finals_by here input w d e (act_ask i lc p x d' own f l g) q m k h s = s (h q m k)
finals_by here input w d e (act_ack i lc from tx p ts parts x d' own c l g) q m k h s = s (h q m k)
finals_by here input w d e (act_abort i cause x d' own f y) q m k h s = s (h q (in_without (of_tx (name_of here i)) d'.view.versions q m) k)
finals_by here input w d e (act_commit i lc fc x d' own l n le f g) q m k h s =
    elim (in_insert_all (map (settled fc) (filter (Acts.is_hosted_of here (name_of here i)) d'.view.versions)) (without (of_tx (name_of here i)) d'.view.versions) q m) [
      | inl j ↦ (let r = in_map (settled fc) (filter (Acts.is_hosted_of here (name_of here i)) d'.view.versions) q j in
          let u = in_filter (Acts.is_hosted_of here (name_of here i)) d'.view.versions r.0 r.1 in
          let t = same_tx-is r.0.tx (name_of here i) (and_parts (of_tx (name_of here i) r.0) (hosts here.scene here.node r.0.part) u.1).0 in
          f_own i _ (ap (λ (z : Version). z.tx) (sym r.2) ∙ t) (get_set d'.view.own i x _ own.0) refl)
      | inr j ↦ s (h q (in_without (of_tx (name_of here i)) d'.view.versions q j) k)
    ]
finals_by here input w d e (act_close i x d' own p n) q m k h s = s (h q m k)
finals_by here input w d e (act_accept a ts d' c n) q m k h s =
    elim (in_insert_all (map (Acts.pre_version a ts) a.writes) d'.view.versions q m) [
      | inl j ↦ (let r = in_map (Acts.pre_version a ts) a.writes q j in absurd (cc (ap (λ (z : Version). is_undecided z.kind) r.2, k)))
      | inr j ↦ s (h q j k)
    ]
finals_by here input w d e (act_refuse a u l d' c n) q m k h s = s (h q m k)
finals_by here input w d e (act_take from a d' c l) q m k h s =
    elim (in_insert_all (map (Acts.pre_version a (proposed d'.view a)) a.writes) d'.view.versions q m) [
      | inl j ↦ (let r = in_map (Acts.pre_version a (proposed d'.view a)) a.writes q j in absurd (cc (ap (λ (z : Version). is_undecided z.kind) r.2, k)))
      | inr j ↦ s (h q j k)
    ]
finals_by here input w d e (act_wait r d' c) q m k h s = s (h q m k)
finals_by here input w d e (act_unwait kept rest r d' c) q m k h s = s (h q m k)
finals_by here input w d e (act_reply tx l rs v u fc d' c) q m k h s = s (h q m k)
finals_by here input w d e (act_commit_came from tx p fc ms d' c g) q m k h s =
    elim (in_insert_all (map (settled fc.0) (filter (of_pair tx p) d'.view.versions)) (without (of_pair tx p) d'.view.versions) q m) [
      | inl j ↦ (let r = in_map (settled fc.0) (filter (of_pair tx p) d'.view.versions) q j in
          let u = and_parts (same_tx r.0.tx tx) (same_part r.0.part p) (in_filter (of_pair tx p) d'.view.versions r.0 r.1).1 in
          let t : q.tx ≡ tx = ap (λ (z : Version). z.tx) (sym r.2) ∙ same_tx-is r.0.tx tx u.0 in
          let part : q.part.0 ≡ p.0 = ap (λ (z : Version). z.part.0) (sym r.2) ∙ eqb-true r.0.part.0 p.0 u.1 in
          let f = not-true (same_node tx.node here.node) (and_parts (not (same_node tx.node here.node)) (not (is_done d'.view tx p)) (and_parts (hosts here.scene here.node p) (not (same_node tx.node here.node) && not (is_done d'.view tx p)) g).1).0 in
          f_done (ap (λ (z : TxId). same_node z.node here.node) t ∙ f) (last_done d'.view.done tx p q.tx q.part t part))
      | inr j ↦ s (h q (in_without (of_pair tx p) d'.view.versions q j) k)
    ]
finals_by here input w d e (act_abort_came from tx p d' c g) q m k h s = s (h q (in_without (of_pair tx p) d'.view.versions q m) k)

pub finals-act : (here : Here) (input : Input) (w : Where) (d e : Doing) → Act here input w d e → Finals here d.view → Finals here e.view
finals-act here input w d e a h q m k = finals_by here input w d e a q m k h (finished_stays here input w d e a q)
