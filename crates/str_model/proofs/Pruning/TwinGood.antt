-- What two steps that stand alike need holds at every change; so a step over a pruned view is a step over the full one.
use Rattle.std.proofs.Common.{Bool, List, Some, [], ap, false, if◌then◌else◌, inl, inr, refl, slice_get, subst, sym, true, ℕ, ◌++◌, ◌+◌, ◌∙◌, ◌∷◌, ◌≡◌, ◌≤◌, ◌⊎◌, arith, eqb-true, eq-eqb}
use Rattle.str_base.specs.declared.names.PartId.{PartId}
use Rattle.str_base.specs.declared.names.TxId.{TxId}
use Rattle.str_base.specs.declared.names.Version.{Version}
use Rattle.str_base.specs.Versions.{is_undecided, of_tx, same_node, same_part, same_tx}
use Rattle.str_scene.specs.Scenes.{Here}
use Rattle.str_model.specs.Acts.{abort_came, aborted, accepted, acked, asked, begun, certified, closed, commit_came, committed, marked, refused, replied, requested, taken, waits}
use Rattle.str_model.specs.declared.messages.Body.{Body}
use Rattle.str_model.specs.declared.messages.Body.TheVariants.{Prepare, ReadReq}
use Rattle.str_model.specs.declared.messages.Input.{Input}
use Rattle.str_model.specs.declared.messages.Input.TheVariants.{Client, Deliver}
use Rattle.str_model.specs.declared.messages.Message.{Message}
use Rattle.str_model.specs.declared.messages.Waiter.{Waiter}
use Rattle.str_model.specs.declared.messages.Waiter.TheVariants.{Held}
use Rattle.str_model.specs.Proposals.{holds_pair, is_done}
use Rattle.str_model.specs.Pruning.{pruned}
use Rattle.str_model.specs.Steps.{drop_held, step}
use Rattle.str_model.specs.Views.{Doing, Own, View, is_decided, name_of}
use Rattle.str_model.proofs.Principle.SingleChanges.{Act, Arrives, IsHere, Where, a_prepare, a_read, act_abort, act_abort_came, act_accept, act_ack, act_ask, act_begin, act_certify, act_close, act_commit, act_commit_came, act_mark, act_put, act_refuse, act_reply, act_request, act_take, act_unwait, act_wait, it_comes, it_waits, left_waiting}
use Rattle.str_model.proofs.Pruning.PruneKept.{Above, above-act, order-act}
use Rattle.str_model.proofs.Pruning.PruneGood.{Finals, Finished, f_done, f_own, finals-act}
use Rattle.str_model.proofs.Pruning.PruneLists.{pruned_again}
use Rattle.str_model.proofs.Pruning.PruneOrder.{InOrder, PassesOpen, in_pruned, order_pruned}
use Rattle.str_model.proofs.Pruning.TwinRules.{BothTo, IsOpen, IsReady}
use Rattle.str_model.proofs.Pruning.TwinStep.{BodyFar, InputFar, twin_step}
use Rattle.str_model.proofs.Pruning.TwinTurns.{Far}
use Rattle.std.proofs.lemmas.Bool.{and_parts, true_from_ne_false}
use Rattle.str_base.proofs.Members.{in_append, in_left, in_right}
use Rattle.str_base.specs.Members.{In}
use Rattle.str_base.proofs.SameNames.{same_tx-is}

-- a read request or a Prepare is of a transaction that has its decision, or its snapshot is at or above the mark
abbrev pub BodyHigh : ℕ → (TxId → Type 0) → Body → Type 0
BodyHigh g Dec (ReadReq tx k rs) = Dec tx ⊎ (g ≤ rs.0)
BodyHigh g Dec (Prepare tx p rs lc ws) = Dec tx ⊎ (g ≤ rs.0)
BodyHigh g Dec _ = Unit {0}

abbrev pub InputHigh : ℕ → (TxId → Type 0) → Input → Type 0
InputHigh g Dec (Client s t) = Unit {0}
InputHigh g Dec (Deliver m) = BodyHigh g Dec m.body

-- what a step needs
pub record Good (g : ℕ) (Dec : TxId → Type 0) (here : Here) (v : View) : Type 0 where
  pub above : Above g v
  pub finals : Finals here v
  pub order : InOrder v.versions
  pub far : (w : Waiter) → In w v.waiters → Far g Dec w

module _ (g : ℕ) (Dec : TxId → Type 0) (here : Here) (input : Input) (high : InputHigh g Dec input) where
  abbrev AllFar : List Waiter → Type 0
  AllFar ws = (w : Waiter) → In w ws → Far g Dec w

  without_one : (kept rest : List Waiter) (r : Waiter) → AllFar (kept ++ r ∷ rest) → AllFar (kept ++ rest)
  without_one kept rest r h w i = elim (in_append kept rest w i) [ inl j ↦ h w (in_left kept (r ∷ rest) w j) | inr j ↦ h w (in_right kept (r ∷ rest) w (inr j)) ]

  far_drop : (tx : TxId) (p : PartId) (ws : List Waiter) → AllFar ws → AllFar (drop_held tx p ws)
  far_drop tx p [] h = h
  far_drop tx p (x ∷ xs) h = by_pair (holds_pair tx p x) (far_drop tx p xs (λ w i. h w (inr i)))
    where
      by_pair : (b : Bool) → AllFar (drop_held tx p xs) → AllFar (if b then xs else x ∷ drop_held tx p xs)
      by_pair true r w i = h w (inr i)
      by_pair false r w (inl q) = h w (inl q)
      by_pair false r w (inr i) = r w i

  high_of : (m : Message) → input ≡ Deliver m → BodyHigh g Dec m.body
  high_of m q = subst (λ (j : Input). InputHigh g Dec j) q high

  arrives_far : (d : Doing) (r : Waiter) → Arrives here input d r → Far g Dec r
  arrives_far d r (a_read from tx k rs c) = subst (λ (b : Body). BodyHigh g Dec b) c.3 (high_of c.0 c.1)
  arrives_far d r (a_prepare from a c u z m) = subst (λ (b : Body). BodyHigh g Dec b) c.3 (high_of c.0 c.1)

  left_far : (a : Rattle.str_model.specs.declared.messages.Arrived.Arrived) (d : Doing) (h : IsHere here input d a) → AllFar d.view.waiters → AllFar (left_waiting h)
  left_far a d (it_comes from c u z m) f = f
  left_far a d (it_waits kept rest q) f = without_one kept rest (Held a) (subst AllFar q f)

  far-act : (w : Where) (d e : Doing) → Act here input w d e → AllFar d.view.waiters → AllFar e.view.waiters
  unfolding begun marked aborted committed closed certified asked acked requested accepted taken refused waits replied commit_came abort_came
  far-act w d e (act_begin place rs d' r z) f = f
  far-act w d e (act_mark l t d' rd) f = f
  far-act w d e (act_put i x y d' own k) f = f
  far-act w d e (act_request i l n x d' own k) f = f
  far-act w d e (act_certify i lc snap x d' own o n c) f = f
  far-act w d e (act_ask i lc p x d' own o l k) f = f
  far-act w d e (act_ack i lc from tx p ts parts x d' own c l k) f = f
  far-act w d e (act_abort i cause x d' own o y) f = f
  far-act w d e (act_commit i lc fc x d' own l n le o k) f = f
  far-act w d e (act_close i x d' own p n) f = f
  far-act w d e (act_accept a ts d' h n) f = left_far a d' h f
  far-act w d e (act_refuse a u l d' h n) f = left_far a d' h f
  far-act w d e (act_take from a d' c l) f = f
  far-act w d e (act_wait r d' c) f =
      λ x i. elim (in_append d'.view.waiters (r ∷ []) x i) [ inl j ↦ f x j | inr j ↦ (elim j [ inl q ↦ subst (Far g Dec) q (arrives_far d' r c) | inr z ↦ absurd z ]) ]
  far-act w d e (act_unwait kept rest r d' c) f = without_one kept rest r (subst AllFar c.waiters f)
  far-act w d e (act_reply tx l rs v u fc d' c) f = f
  far-act w d e (act_commit_came from tx p fc ms d' c k) f = f
  far-act w d e (act_abort_came from tx p d' c k) f = far_drop tx p d'.view.waiters f

  good-act : (w : Where) (d e : Doing) → Act here input w d e → Good g Dec here d.view → Good g Dec here e.view
  good-act w d e a h =
      record { above = above-act g here input w d e a h.above; finals = finals-act here input w d e a h.finals; order = order-act here input w d e a h.order; far = far-act w d e a h.far }

  -- ---- what a turn needs

  own_open : (v : View) → Good g Dec here v → (i : ℕ) (x : Own) → slice_get v.own i ≡ Some x → is_decided x.phase ≡ false → PassesOpen (of_tx (name_of here i)) v.versions
  own_open v a i x q o z m e = true_from_ne_false (is_undecided z.kind) (λ k. never (a.finals z m k))
    where
      t : z.tx ≡ name_of here i
      t = same_tx-is z.tx (name_of here i) e

      never : Finished here v z → ⊥
      never (f_done n h) = cc (n, ap (λ (u : TxId). same_node u.node here.node) t ∙ eq-eqb here.node.0 here.node.0 refl)
      never (f_own j y n at k) =
          let s : i + 1 ≡ j + 1 = ap (λ (u : TxId). u.seq) (sym t ∙ n) in
          let p : i ≡ j = omega (arith, s) in
          let both : Some x ≡ Some y = sym q ∙ (ap (λ (m : ℕ). slice_get v.own m) p ∙ at) in
          let same : x ≡ y = cc both in cc (o, k, ap (λ (u : Own). is_decided u.phase) same)

  good_ready : (d : Doing) → Good g Dec here d.view → IsReady g Dec here d
  good_ready d a i x q o = record { fit = record { opens = own_open d.view a i x q o; order = a.order }; above = a.above.open_ i x q o }

  good_open : (d : Doing) → Good g Dec here d.view → IsOpen g Dec here d
  good_open d a tx p f h z m e = true_from_ne_false (is_undecided z.kind) (λ k. never (a.finals z m k))
    where
      r : (same_tx z.tx tx ≡ true) × (same_part z.part p ≡ true)
      r = and_parts (same_tx z.tx tx) (same_part z.part p) e

      t : z.tx ≡ tx
      t = same_tx-is z.tx tx r.0

      part : z.part ≡ p
      part = let n = eqb-true z.part.0 p.0 r.1 in (λ j. record { 0 = n j })

      never : Finished here d.view z → ⊥
      never (f_done n k) = let same : is_done d.view z.tx z.part ≡ is_done d.view tx p = (λ j. is_done d.view (t j) (part j)) in cc (h, k, same)
      never (f_own i y n at k) = cc (f, ap (λ (u : TxId). same_node u.node here.node) (sym t ∙ n), eq-eqb here.node.0 here.node.0 refl)

  body_high : (b : Body) → BodyHigh g Dec b → BodyFar g Dec here b
  body_high (ReadReq tx k rs) h = λ z. h
  body_high (Prepare tx p rs lc ws) h = λ z. h
  body_high _ h = tt

  input_high : (j : Input) → InputHigh g Dec j → InputFar g Dec here j
  input_high (Client s t) h = tt
  input_high (Deliver m) h = body_high m.body h

  -- views that come to the same when they are pruned step alike: both are idle, or their views come to the same again, with the same
  -- answers, and messages that differ only where the transaction has its decision
  pub good_step : (v w : View) → Good g Dec here v → Good g Dec here w → pruned g v ≡ pruned g w → BothTo g Dec here (step here input v) (step here input w)
  good_step v w a b same =
      twin_step g Dec here input (λ d. Good g Dec here d.view) good-act good_ready (λ d h. h.order) (λ d h. h.far) good_open v w (input_high input high) a b same

  finished_pruned : (v : View) (q : Version) → Finished here v q → Finished here (pruned g v) q
  finished_pruned v q (f_done n h) = f_done n h
  finished_pruned v q (f_own i x n at z) = f_own i x n at z

  pub good_pruned : (v : View) → Good g Dec here v → Good g Dec here (pruned g v)
  good_pruned v a =
      record {
        above = record { floor = a.above.floor; open_ = a.above.open_ };
        finals = λ q m k. finished_pruned v q (a.finals q (in_pruned g v.versions q m) k);
        order = order_pruned g v.versions a.order;
        far = a.far;
      }

  -- a step over the pruned view is a step over the view
  pub step_pruned : (v : View) → Good g Dec here v → BothTo g Dec here (step here input v) (step here input (pruned g v))
  step_pruned v a =
      let again : pruned g (pruned g v) ≡ pruned g v = (λ j. record v { versions = pruned_again g g v.versions (omega arith) j }) in
      good_step v (pruned g v) a (good_pruned v a) (sym again)
