-- Pairs of a transaction and a partition, and words of single changes that laws of one view share.
use Rattle.std.proofs.Common.{Bool, List, Some, [], ap, eq-eqb, eqb-true, false, if◌then◌else◌, inl, inr, map, not, refl, slice_get, subst, sym, true, ℕ, ◌&&◌, ◌==◌, ◌||◌, ◌∙◌, ◌∷◌, ◌≡◌, ◌≢◌, ◌⊎◌}
use Rattle.std.specs.List.{list_any}
use Rattle.str_base.specs.declared.names.PartId.{PartId}
use Rattle.str_base.specs.declared.names.Ts.{Ts}
use Rattle.str_base.specs.declared.names.TxId.{TxId}
use Rattle.str_base.specs.declared.names.Version.{Version}
use Rattle.str_base.specs.declared.names.Write.{Write}
use Rattle.str_model.specs.declared.messages.Arrived.{Arrived}
use Rattle.str_model.specs.declared.messages.Body.{Body}
use Rattle.str_model.specs.declared.messages.Input.{Input}
use Rattle.str_model.specs.declared.messages.Waiter.{Waiter}
use Rattle.str_model.specs.declared.messages.Waiter.TheVariants.{Held}
use Rattle.str_model.specs.Acts.{is_hosted_of}
use Rattle.str_model.specs.Proposals.{holds_pair, is_done, is_pair}
use Rattle.str_scene.specs.Scenes.{Here, Scene, hosts, others, participants, replicas, unasked, written_parts}
use Rattle.str_model.specs.Steps.{decides, drop_held}
use Rattle.str_model.specs.Strange.{has_named, has_named_writes, has_node}
use Rattle.str_base.specs.Versions.{of_pair, of_tx, same_node, same_part, same_tx, without}
use Rattle.str_model.specs.Views.{Doing, Own, View, is_decided}
use Rattle.str_model.proofs.Principle.SingleChanges.{Arrives, a_prepare, a_read}
use Rattle.str_model.proofs.Changes.VersionChanges.{WaitStep, w_fewer, w_more}
use Rattle.str_model.proofs.Principle.EvictionsClear.{none_of}
use Rattle.str_model.proofs.Changes.OwnChanges.{Becomes, OwnStep, aborts, certifies, closes, commits, goes_on, rests, starts_one, turns_one}
use Rattle.str_model.specs.Owned.{Owns}
use Rattle.partition_map.specs.declared.rows.Asked.{Asked}
use Rattle.str_base.specs.declared.names.NodeId.{NodeId}
use Rattle.str_model.specs.Strange
use Rattle.str_base.proofs.Members.{in_append, in_flat_map, in_map}
use Rattle.str_base.proofs.SameNames.{same_part-is, same_tx-is}
use Rattle.str_base.proofs.Tests.{and_true_left, and_true_right}
use Rattle.str_base.proofs.Lists.{get_push, get_set_other}
use Rattle.str_base.specs.Members.{In}

-- a member passes the test
abbrev pub Has : {A : Type 0} → (A → Bool) → List A → Type 0
Has {A = A} p xs = (x : A) × In x xs × (p x ≡ true)

pub any_has : {A : Type 0} (p : A → Bool) (xs : List A) → list_any p xs ≡ true → Has p xs
any_has p [] e = absurd (cc e)
any_has {A = A} p (y ∷ xs) e = by_test (p y) refl (any_has p xs) e
  where
    by_test : (b : Bool) → p y ≡ b → (list_any p xs ≡ true → Has p xs) → (b || list_any p xs) ≡ true → Has p (y ∷ xs)
    by_test true q rec k = (y, inl refl, q)
    by_test false q rec k = let r = rec k in (r.0, inr r.1, r.2)

-- the transactions and partitions are one
pub record SamePair (t u : TxId) (p q : PartId) : Type 0 where
  pub node : t.node.0 ≡ u.node.0
  pub seq : t.seq ≡ u.seq
  pub part : p.0 ≡ q.0

pub pair_same : (t u : TxId) (p q : PartId) → (same_tx t u && same_part p q) ≡ true → SamePair t u p q
pair_same t u p q e =
    let both = and_true_left (same_tx t u) (same_part p q) e in
    record {
      node = eqb-true t.node.0 u.node.0 (and_true_left (same_node t.node u.node) (t.seq == u.seq) both);
      seq = eqb-true t.seq u.seq (and_true_right (same_node t.node u.node) (t.seq == u.seq) both);
      part = eqb-true p.0 q.0 (and_true_right (same_tx t u) (same_part p q) e);
    }

pub same_pair : (t u : TxId) (p q : PartId) → SamePair t u p q → (same_tx t u && same_part p q) ≡ true
same_pair t u p q s =
    let a : (t.node.0 == u.node.0) ≡ true = eq-eqb t.node.0 u.node.0 s.node in
    let b : (t.seq == u.seq) ≡ true = eq-eqb t.seq u.seq s.seq in
    let c : (p.0 == q.0) ≡ true = eq-eqb p.0 q.0 s.part in
    rw (a, b, c) refl

-- two pairs that are both x's
pub joined_pair : (x t u : TxId) (r p q : PartId) → (same_tx x t && same_part r p) ≡ true → (same_tx x u && same_part r q) ≡ true → (same_tx u t && same_part q p) ≡ true
joined_pair x t u r p q e f =
    let a = pair_same x t r p e in
    let b = pair_same x u r q f in
    same_pair u t q p (record { node = sym b.node ∙ a.node; seq = sym b.seq ∙ a.seq; part = sym b.part ∙ a.part })

pub keep_without : (test : Version → Bool) (vs : List Version) (x : Version) → In x vs → test x ≡ false → In x (without test vs)
keep_without test [] x h e = absurd h
keep_without test (y ∷ vs) x (inl q) e = rw (ap test q ∙ e) (inl q)
keep_without test (y ∷ vs) x (inr h) e = by_test (test y) (keep_without test vs x h e)
  where
    by_test : (b : Bool) → In x (without test vs) → In x (if not b then y ∷ without test vs else without test vs)
    by_test true k = k
    by_test false k = inr k

pub keep_held : (t : TxId) (q : PartId) (ws : List Waiter) (x : Waiter) → In x ws → In x (drop_held t q ws) ⊎ (holds_pair t q x ≡ true)
keep_held t q [] x h = absurd h
keep_held t q (y ∷ ws) x h = by_test (keep_held t q ws x) (holds_pair t q y) refl h
  where
    by_test : (In x ws → In x (drop_held t q ws) ⊎ (holds_pair t q x ≡ true)) → (b : Bool) → holds_pair t q y ≡ b → In x (y ∷ ws)
        → In x (if b then ws else y ∷ drop_held t q ws) ⊎ (holds_pair t q x ≡ true)
    by_test rec true e (inl k) = inr (ap (holds_pair t q) (sym k) ∙ e)
    by_test rec true e (inr k) = inl k
    by_test rec false e (inl k) = inl (inl k)
    by_test rec false e (inr k) = elim (rec k) [ inl j ↦ inl (inr j) | inr j ↦ inr j ]

abbrev pub SomeWrites : View → Type 0
SomeWrites v = (a : Arrived) → In (Held a) v.waiters → (w : Write) × In w a.writes

pub no_false : (a b c d f : Bool) → (a && (b && (c && (d && (false && f))))) ≡ true → ⊥
no_false true true true true f e = absurd (cc e)
no_false true true true false f e = absurd (cc e)
no_false true true false d f e = absurd (cc e)
no_false true false c d f e = absurd (cc e)
no_false false b c d f e = absurd (cc e)

pub valid_some : (here : Here) (tx : TxId) (p : PartId) (rs lc : Ts) (ws : List Write) → has_named_writes here tx p rs lc ws ≡ true → (w : Write) × In w ws
valid_some here tx p rs lc [] e = absurd (no_false (Strange.has_node here tx.node) (Strange.has_part here p) (Strange.below_limit rs) (Strange.below_limit lc) (Strange.has_values here []) e)
valid_some here tx p rs lc (w ∷ ws) e = (w, inl refl)

pub some_step : (here : Here) (input : Input) (d e : Doing) → WaitStep here input d e → SomeWrites d.view → SomeWrites e.view
some_step here input d e (w_fewer f) h a k = h a (f (Held a) k)
some_step here input d e (w_more w c q) h a k = elim (in_append d.view.waiters (w ∷ []) (Held a) (subst (In (Held a)) q k)) [
  | inl j ↦ h a j
  | inr j ↦ (elim j [ inl g ↦ arrived w c g | inr z ↦ absurd z ])
]
  where
    arrived : (w : Waiter) → Arrives here input d w → w ≡ Held a → (w : Write) × In w a.writes
    arrived w (a_read from tx k rs c) g = absurd (cc g)
    arrived w (a_prepare from b c u z m) g =
        let same : b ≡ a = cc g in
        let named : has_named here c.0.body ≡ true = and_true_right (Strange.has_node here c.0.sender) (has_named here c.0.body) (and_true_right (same_node c.0.receiver here.node) (Strange.has_node here c.0.sender && has_named here c.0.body) c.4) in
        subst (λ (m : Arrived). (w : Write) × In w m.writes) same (valid_some here b.tx b.part b.rs b.lc b.writes (subst (λ (m : Body). has_named here m ≡ true) c.3 named))

-- a decision that comes is for another node's transaction, and not in the done list
pub decides_far : (here : Here) (tx : TxId) (p : PartId) (v : View) → decides here tx p v ≡ true → (tx.node.0 ≢ here.node.0) × (is_done v tx p ≡ false)
decides_far here tx p v e = (λ q. other q (same_node tx.node here.node) refl r.0, r.1)
  where
    nots : (a b c : Bool) → (a && (not b && not c)) ≡ true → (b ≡ false) × (c ≡ false)
    nots true false false q = (refl, refl)
    nots true true c q = absurd (cc q)
    nots true false true q = absurd (cc q)
    nots false b c q = absurd (cc q)

    r : (same_node tx.node here.node ≡ false) × (is_done v tx p ≡ false)
    r = nots (hosts here.scene here.node p) (same_node tx.node here.node) (is_done v tx p) e

    other : tx.node.0 ≡ here.node.0 → (b : Bool) → same_node tx.node here.node ≡ b → b ≡ false → ⊥
    other q b s n = let t : same_node tx.node here.node ≡ true = eq-eqb tx.node.0 here.node.0 q in cc (sym s ∙ t, n)

pub self_pair : (tx : TxId) (p : PartId) → is_pair tx p (tx, p) ≡ true
self_pair tx p =
    let a : (tx.node.0 == tx.node.0) ≡ true = eq-eqb tx.node.0 tx.node.0 refl in
    let b : (tx.seq == tx.seq) ≡ true = eq-eqb tx.seq tx.seq refl in
    let c : (p.0 == p.0) ≡ true = eq-eqb p.0 p.0 refl in
    rw (a, b, c) refl

-- the pair of the version that is decided
pub pair-is : (tx : TxId) (p : PartId) (u : Version) → of_pair tx p u ≡ true → (u.tx ≡ tx) × (u.part ≡ p)
pair-is tx p u e = (same_tx-is u.tx tx (and_true_left (same_tx u.tx tx) (same_part u.part p) e), same_part-is u.part p (and_true_right (same_tx u.tx tx) (same_part u.part p) e))

-- one that is decided now was not in the done list
pub not_done : (v : View) (tx : TxId) (p : PartId) (u : Version) → is_done v tx p ≡ false → of_pair tx p u ≡ true → In (u.tx, u.part) v.done → ⊥
not_done v tx p u n e m =
    let s = pair-is tx p u e in
    let f = none_of (is_pair tx p) v.done (u.tx, u.part) n m in
    let t : is_pair tx p (u.tx, u.part) ≡ true = ap (λ z. is_pair tx p (z, u.part)) s.0 ∙ (ap (λ z. is_pair tx p (tx, z)) s.1 ∙ self_pair tx p) in
    cc (sym t ∙ f)

pub hosted_name : (here : Here) (tx : TxId) (u : Version) → is_hosted_of here tx u ≡ true → u.tx ≡ tx
hosted_name here tx u e = same_tx-is u.tx tx (and_true_left (of_tx tx u) (hosts here.scene here.node u.part) e)

pub becomes-open : (v : View) (f g : ℕ) (x y : Own) → Becomes v f g x y → is_decided x.phase ≡ false
becomes-open v f g x y (goes_on r e) = r.was_open
becomes-open v f g x y (certifies lc o n p q s l e) = o
becomes-open v f g x y (commits lc fc o l le q e) = o
becomes-open v f g x y (closes o n q e) = o
becomes-open v f g x y (aborts cause o q e) = o

pub decided-step : (i : ℕ) (x : Own) (d e : View) → is_decided x.phase ≡ true → OwnStep d e → Owns d i x → Owns e i x
decided-step i x d e dec (rests o f) h = rw o h
decided-step i x d e dec (starts_one place rs le o f) h = rw o (get_push d.own i _ x h)
decided-step i x d e dec (turns_one n x' y' own o b) h = rw o (get_set_other d.own n i y' other ∙ h)
  where
    other : i ≢ n
    other q =
        let k : Some x ≡ Some x' = sym h ∙ (ap (λ m. slice_get d.own m) q ∙ own) in
        let same : x ≡ x' = cc k in
        cc (ap (λ z. is_decided z.phase) same, dec, becomes-open d d.floor e.floor x' y' b)

pub unasked_none : (scene : Scene) (n : NodeId) (ws : List Write) (a : Asked) (ts : Ts) → In a (participants scene n ws) → a.ack ≡ Some ts → ⊥
unasked_none scene n ws a ts h e =
    let r = in_flat_map (λ (p : PartId). map (unasked p) (others n (replicas scene p))) (written_parts scene ws) a h in
    let m = in_map (unasked r.0) (others n (replicas scene r.0)) a r.2 in cc (ap (λ (z : Asked). z.ack) m.2, e)
