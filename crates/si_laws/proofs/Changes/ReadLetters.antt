-- What messages of reads and of commits a single change sends, and that marks only rise.
use Rattle.partition_map.specs.declared.rows.Asked.{Asked}
use Rattle.str_model.proofs.ViewFacts.MarksRise.{Rises, raise_all-rises, raised-rises, rises_self}
use Rattle.str_model.proofs.Principle.SingleChanges.{Act, Serves, Where, act_abort, act_abort_came, act_accept, act_ack, act_ask, act_begin, act_certify, act_close, act_commit, act_commit_came, act_mark, act_put, act_refuse, act_reply, act_request, act_take, act_unwait, act_wait}
use Rattle.str_model.proofs.Changes.SnapshotsGain.{if_elim}
use Rattle.std.proofs.Common.{Bool, List, Option, [], ap, false, filter, inl, inr, map, refl, sym, true, ℕ, ◌++◌, ◌∙◌, ◌∷◌, ◌≡◌, ◌⊎◌}
use Rattle.str_base.specs.declared.names.KeyId.{KeyId}
use Rattle.str_base.specs.declared.names.NodeId.{NodeId}
use Rattle.str_base.specs.declared.names.PartId.{PartId}
use Rattle.str_base.specs.declared.names.TxId.{TxId}
use Rattle.str_base.specs.declared.names.Value.{Value}
use Rattle.str_base.specs.declared.names.Write.{Write}
use Rattle.str_base.specs.Versions.{stamp}
use Rattle.str_model.specs.Acts.{abort_came, aborted, accepted, acked, asked, begun, certified, closed, commit_came, committed, in_phase, marked, refused, replied, requested, taken, waits}
use Rattle.str_model.specs.Acts
use Rattle.str_model.specs.declared.messages.Body.{Body}
use Rattle.str_model.specs.declared.messages.Body.TheVariants.{Abort, Ack, Commit, Prepare, ReadReply, ReadReq, Refuse as Refusal, Replicate}
use Rattle.str_model.specs.declared.messages.Input.{Input}
use Rattle.str_model.specs.declared.messages.Message.{Message}
use Rattle.str_model.specs.Gates.{CommitAt, gate_of}
use Rattle.str_model.specs.Owned.{Owns}
use Rattle.str_model.specs.Proposals.{proposed}
use Rattle.str_model.specs.Turns.{Away, read_turn}
use Rattle.str_model.specs.Views.{Doing, Own, is_decided, letter, name_of}
use Rattle.str_scene.specs.Scenes.{Here, first_or, in_part, leads, others, replicas}
use Rattle.str_base.proofs.Members.{in_append, in_map}
use Rattle.str_base.specs.Members.{In}

-- neither a read nor a reply nor a commit
abbrev pub is_other : Body → Bool
is_other (ReadReq tx k rs) = false
is_other (ReadReply tx k v by fc) = false
is_other (Commit tx p fc ms) = false
is_other _ = true

-- a message that has just been sent
pub data ReadLetter (here : Here) (input : Input) (d e : Doing) (m : Message) : Type 0 where
  rl_request : (i : ℕ) (k : KeyId) (x : Own) → Owns d.view i x → (m.sender ≡ here.node) × (read_turn here d.view x.snap k ≡ Away m.receiver) → m.body ≡ ReadReq (name_of here i) k (stamp x.snap.rs) → ReadLetter here input d e m
  rl_reply : (tx : TxId) (k : KeyId) (rs : ℕ) (v : Value) (by : Option TxId) (fc : ℕ) → Serves here input d tx k rs v by fc → m.sender ≡ here.node → m.body ≡ ReadReply tx k v by (stamp fc)
      → e.view ≡ d.view → ReadLetter here input d e m
  rl_commit : (i lc fc : ℕ) (x : Own) (a : Asked) → Owns d.view i x → (is_decided x.phase ≡ false) × (gate_of here d.view lc x ≡ CommitAt fc) → In a x.parts → m.receiver ≡ a.node
      → m.body ≡ Commit (name_of here i) a.part (stamp fc) (Acts.marks_in here d.view a.part x.writes) → ReadLetter here input d e m
  rl_other : is_other m.body ≡ true → ReadLetter here input d e m

module _ (here : Here) (input : Input) (w : Where) where
  others_only : (d e : Doing) (ms : List Message) (m : Message) → ((l : Message) → In l ms → is_other l.body ≡ true) → In m (d.sent ++ ms) → In m d.sent ⊎ ReadLetter here input d e m
  others_only d e ms m f h = elim (in_append d.sent ms m h) [ inl j ↦ inl j | inr j ↦ inr (rl_other (f m j)) ]

  one_other : (l : Message) → is_other l.body ≡ true → (m : Message) → In m (l ∷ []) → is_other m.body ≡ true
  one_other l q m (inl e) = ap (λ (z : Message). is_other z.body) (sym e) ∙ q
  one_other l q m (inr z) = absurd z

  all_other : {A : Type 0} (f : A → Message) (xs : List A) → ((x : A) → is_other (f x).body ≡ true) → (m : Message) → In m (map f xs) → is_other m.body ≡ true
  all_other f xs g m h = let r = in_map f xs m h in ap (λ (z : Message). is_other z.body) (sym r.2) ∙ g r.0

  asks_other : (i lc : ℕ) (x : Own) (p : PartId) (rs : List NodeId) (m : Message) → In m (Acts.ask_letters here i lc x p rs) → is_other m.body ≡ true
  asks_other i lc x p rs m =
      let ws : List Write = filter (in_part here.scene p) x.writes in
      if_elim (λ ms. In m ms → is_other m.body ≡ true) (leads here.node rs) (map (λ (n : NodeId). letter here n (Replicate (name_of here i) p (stamp x.snap.rs) (stamp lc) ws)) (others here.node rs))
      (letter here (first_or here.node rs) (Prepare (name_of here i) p (stamp x.snap.rs) (stamp lc) ws) ∷ [])
      (λ e. all_other (λ (n : NodeId). letter here n (Replicate (name_of here i) p (stamp x.snap.rs) (stamp lc) ws)) (others here.node rs) (λ n. refl) m)
      (λ e. one_other (letter here (first_or here.node rs) (Prepare (name_of here i) p (stamp x.snap.rs) (stamp lc) ws)) refl m)

  pub letters_act : (d e : Doing) → Act here input w d e → (m : Message) → In m e.sent → In m d.sent ⊎ ReadLetter here input d e m
  unfolding begun marked aborted committed closed certified asked acked requested accepted taken refused waits replied commit_came abort_came
  letters_act d e (act_begin place rs d' r g) m h = inl h
  letters_act d e (act_mark k t d' rd) m h = inl h
  letters_act d e (act_put i x y d' own g) m h = inl h
  letters_act d e (act_request i k n x d' own g) m h = elim (in_append d'.sent (letter here n (ReadReq (name_of here i) k (stamp x.snap.rs)) ∷ []) m h) [
    | inl j ↦ inl j
    | inr j ↦ (elim j [ inl z ↦ inr (rl_request i k x own.0 (ap (λ (y : Message). y.sender) (sym z), g.away ∙ ap (λ (y : Message). Away y.receiver) z) (ap (λ (y : Message). y.body) (sym z))) | inr z ↦ absurd z ])
  ]
  letters_act d e (act_certify i lc snap x d' own f n q) m h = inl h
  letters_act d e (act_ask i lc p x d' own f l g) m h = others_only d' e (Acts.ask_letters here i lc x p (replicas here.scene p)) m (asks_other i lc x p (replicas here.scene p)) h
  letters_act d e (act_ack i lc from tx p ts parts x d' own c q g) m h = inl h
  letters_act d e (act_abort i cause x d' own f y) m h =
      others_only d' e (Acts.abort_letters here i x.parts) m (all_other (λ (a : Asked). letter here a.node (Abort (name_of here i) a.part)) (Acts.asked_ones x.parts) (λ a. refl)) h
  letters_act d e (act_commit i lc fc x d' own l n le f g) m h = elim (in_append d'.sent (Acts.commit_letters here i x fc d'.view) m h) [
    | inl j ↦ inl j
    | inr j ↦ (let r = in_map (λ (a : Asked). letter here a.node (Commit (name_of here i) a.part (stamp fc) (Acts.marks_in here d'.view a.part x.writes))) x.parts m j in
        inr (rl_commit i lc fc x r.0 own.0 (f, g) r.1 (ap (λ (z : Message). z.receiver) (sym r.2)) (ap (λ (z : Message). z.body) (sym r.2))))
  ]
  letters_act d e (act_close i x d' own p n) m h = inl h
  letters_act d e (act_accept a ts d' g t) m h =
      others_only d' e (letter here a.tx.node (Ack a.tx a.part (stamp ts)) ∷ Acts.copies here a (replicas here.scene a.part)) m
      (λ l j. elim j [
        | inl z ↦ one_other (letter here a.tx.node (Ack a.tx a.part (stamp ts))) refl l (inl z)
        | inr z ↦ all_other (λ (n : NodeId). letter here n (Replicate a.tx a.part a.rs a.lc a.writes)) (others a.tx.node (others here.node (replicas here.scene a.part))) (λ n. refl) l z
      ]) h
  letters_act d e (act_refuse a u k d' g q) m h = others_only d' e (letter here a.tx.node (Refusal a.tx a.part u k) ∷ []) m (one_other (letter here a.tx.node (Refusal a.tx a.part u k)) refl) h
  letters_act d e (act_take from a d' c t) m h =
      others_only d' e (letter here a.tx.node (Ack a.tx a.part (stamp (proposed d'.view a))) ∷ []) m (one_other (letter here a.tx.node (Ack a.tx a.part (stamp (proposed d'.view a)))) refl) h
  letters_act d e (act_wait r d' g) m h = inl h
  letters_act d e (act_unwait kept rest r d' g) m h = inl h
  letters_act d e (act_reply tx k rs v u fc d' g) m h = elim (in_append d'.sent (letter here tx.node (ReadReply tx k v u (stamp fc)) ∷ []) m h) [
    | inl j ↦ inl j
    | inr j ↦ (elim j [ inl z ↦ inr (rl_reply tx k rs v u fc g (ap (λ (y : Message). y.sender) (sym z)) (ap (λ (y : Message). y.body) (sym z)) refl) | inr z ↦ absurd z ])
  ]
  letters_act d e (act_commit_came from tx p fc ms d' c g) m h = inl h
  letters_act d e (act_abort_came from tx p d' c g) m h = inl h

  pub marks_act : (d e : Doing) → Act here input w d e → Rises d.view.marks e.view.marks
  unfolding begun marked aborted committed closed certified asked acked requested accepted taken refused waits replied commit_came abort_came
  marks_act d e (act_begin place rs d' r g) = rises_self d'.view.marks
  marks_act d e (act_mark k t d' rd) = raised-rises d'.view.marks k t
  marks_act d e (act_put i x y d' own g) = rises_self d'.view.marks
  marks_act d e (act_request i k n x d' own g) = rises_self d'.view.marks
  marks_act d e (act_certify i lc snap x d' own f n q) = rises_self d'.view.marks
  marks_act d e (act_ask i lc p x d' own f l g) = rises_self d'.view.marks
  marks_act d e (act_ack i lc from tx p ts parts x d' own c q g) = rises_self d'.view.marks
  marks_act d e (act_abort i cause x d' own f y) = rises_self d'.view.marks
  marks_act d e (act_commit i lc fc x d' own l n le f g) = rises_self d'.view.marks
  marks_act d e (act_close i x d' own p n) = rises_self d'.view.marks
  marks_act d e (act_accept a ts d' g t) = rises_self d'.view.marks
  marks_act d e (act_refuse a u k d' g q) = rises_self d'.view.marks
  marks_act d e (act_take from a d' c t) = rises_self d'.view.marks
  marks_act d e (act_wait r d' g) = rises_self d'.view.marks
  marks_act d e (act_unwait kept rest r d' g) = rises_self d'.view.marks
  marks_act d e (act_reply tx k rs v u fc d' g) = rises_self d'.view.marks
  marks_act d e (act_commit_came from tx p fc ms d' c g) = raise_all-rises ms d'.view.marks
  marks_act d e (act_abort_came from tx p d' c g) = rises_self d'.view.marks
