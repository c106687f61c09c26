-- Every timestamp of a run is below 2 ^ 62 and the number of proposals.
use Rattle.partition_map.specs.declared.rows.Asked.{Asked}
use Rattle.dependency_set.specs.declared.names.Dep.{Dep}
use Rattle.str_model.proofs.ViewFacts.ChangesBelow.{rise, view_act}
use Rattle.si_laws.proofs.Times.LettersBelow.{AllBelow, sent_act}
use Rattle.str_model.proofs.ViewFacts.TimesBelow.{BodyBelow, OwnBelow, ViewBelow, WaiterBelow, body_higher, view_higher}
use Rattle.si_laws.proofs.Times.ProposalsCounted.{acks_append, acks_in, certified_in, rise_act}
use Rattle.str_model.proofs.Principle.SingleChanges.{Act, Where}
use Rattle.str_model.proofs.Principle.Everywhere.{IsSeen, Sent, Stage, at_place, during, everywhere, stage_of}
use Rattle.si_laws.specs.Numbers.{ack_times, all_times, body_times, own_times, proposals, view_times, waiter_times}
use Rattle.str_model.specs.Owned.{final_times, or_nothing}
use Rattle.std.proofs.Common.{List, None, Option, Some, [], ap, arith, flat_map, inl, inr, length, map, refl, replicate, slice_get, subst, suc, sym, zero, ℕ, ◌++◌, ◌+◌, ◌<◌, ◌^◌, ◌∙◌, ◌∷◌, ◌≡◌, ◌≤◌}
use Rattle.std.specs.List.{sum_by}
use Rattle.str_base.specs.declared.names.Ts.{Ts}
use Rattle.str_base.specs.declared.names.Version.{Version}
use Rattle.str_model.specs.Clients.{reading_limit}
use Rattle.str_model.specs.declared.messages.Body.{Body}
use Rattle.str_model.specs.declared.messages.Body.TheVariants.{Abort, Ack, Commit, Prepare, ReadReply, ReadReq, Refuse, Replicate}
use Rattle.str_model.specs.declared.messages.Input.{Input}
use Rattle.str_model.specs.declared.messages.Input.TheVariants.{Deliver}
use Rattle.str_model.specs.declared.messages.Message.{Message}
use Rattle.str_model.specs.declared.messages.Waiter.{Waiter}
use Rattle.str_model.specs.declared.messages.Waiter.TheVariants.{Held, Read}
use Rattle.str_model.specs.declared.names.KeyMark.{KeyMark}
use Rattle.str_model.specs.Runs.{opening, opening_view, run}
use Rattle.str_model.specs.Views.{Doing, Own, View, lc_of}
use Rattle.str_scene.specs.declared.names.Event.{Event}
use Rattle.str_scene.specs.Scenes.{Scene}
use Rattle.str_base.proofs.Lists.{get_set, get_set_other, got_replicate, got_set, sum_by-set_got}
use Rattle.str_base.proofs.Members.{at_in, in_append, in_at, in_flat_map, in_left, in_map, in_right}
use Rattle.str_base.specs.Members.{In}

-- how many proposals were made
abbrev pub proposed_in : Stage → ℕ
proposed_in s = sum_by (λ (v : View). certified_in v.own) s.nodes + acks_in s.sent

pub record StageBelow (b : ℕ) (s : Stage) : Type 0 where
  pub nodes : (n : ℕ) (v : View) → slice_get s.nodes n ≡ Some v → ViewBelow b v
  pub sent : AllBelow b s.sent

abbrev bound_of : Stage → ℕ
bound_of s = 2 ^ 62 + proposed_in s

abbrev pub Bounded_ : Stage → Type 0
Bounded_ s = StageBelow (bound_of s) s

bounded_keeps : (scene : Scene) (s : Stage) (i : ℕ) (v : View) (input : Input) (w : Where) (d e : Doing) → slice_get s.nodes i ≡ Some v → IsSeen s input → Bounded_ s
    → Act (at_place scene i) input w d e → Bounded_ (during s i d) → Bounded_ (during s i e)
bounded_keeps scene s i v input w d e is seen hs a h =
    let p = sum_by-set_got (λ (u : View). certified_in u.own) s.nodes i v d.view is in
    let q = sum_by-set_got (λ (u : View). certified_in u.own) s.nodes i v e.view is in
    let r = acks_append s.sent d.sent in
    let t = acks_append s.sent e.sent in
    let u = rise_act (at_place scene i) input w d e a in
    by_bounds (bound_of (during s i d)) (bound_of (during s i e)) (omega arith) (omega (arith, p, q, r, t, u)) h
  where
    by_bounds : (b c : ℕ) → reading_limit < b → b + rise (at_place scene i) input w d e a ≤ c → StageBelow b (during s i d) → StageBelow c (during s i e)
    by_bounds b c big more h =
        let le : b ≤ c = omega (arith, more) in
        let comes : (m : Message) → input ≡ Deliver m → BodyBelow b m.body = λ m q. (let g : Sent s m = subst (IsSeen s) q seen in h.sent m (in_left s.sent d.sent m (in_at s.sent g.0 m g.1))) in
        let there : ViewBelow b d.view = h.nodes i d.view (get_set s.nodes i v d.view is) in
        let new : AllBelow c e.sent = sent_act (at_place scene i) input w b big (λ m q v. comes m q) c le d e a more there (λ m k. h.sent m (in_right s.sent d.sent m k)) in
        record {
          nodes = λ n u g. elim (got_set s.nodes i n e.view u g) [
            | inl q ↦ subst (ViewBelow c) (sym q.1) (view_act (at_place scene i) input w b big (λ m q v. comes m q) c le d e a more there)
            | inr q ↦ view_higher b c u le (h.nodes n u (get_set_other s.nodes i n d.view q.0 ∙ q.1))
          ];
          sent = λ m k. elim (in_append s.sent e.sent m k) [ inl j ↦ body_higher b c m.body le (h.sent m (in_left s.sent d.sent m j)) | inr j ↦ new m j ];
        }

view_opening : (scene : Scene) (b : ℕ) → 0 < b → ViewBelow b (opening_view scene)
view_opening scene b some = record { floor = some; marks = λ t k. zeros (length scene.keys.names) t k; versions = λ q k. absurd k; own = λ x k. absurd k; waiters = λ r k. absurd k }
  where
    zeros : (n t : ℕ) → In t (replicate n 0) → t < b
    zeros zero t k = absurd k
    zeros (suc n) t (inl e) = omega (arith, e, some)
    zeros (suc n) t (inr k) = zeros n t k

pub bounded_ : (scene : Scene) (es : List Event) → Bounded_ (stage_of (run scene es))
bounded_ scene es =
    everywhere scene Bounded_ (bounded_keeps scene) (record {
      nodes = λ n v g. subst (ViewBelow (bound_of (stage_of (opening scene)))) (sym (got_replicate scene.nodes n (opening_view scene) v g)) (view_opening scene (bound_of (stage_of (opening scene))) (omega arith));
      sent = λ m k. absurd k;
    }) es

-- ---- the times of a state

nothing_below : (b : ℕ) (o : Option ℕ) → ((t : ℕ) → o ≡ Some t → t < b) → (t : ℕ) → In t (or_nothing o) → t < b
nothing_below b None f t h = absurd h
nothing_below b (Some u) f t (inl e) = f t (ap Some e)
nothing_below b (Some u) f t (inr h) = absurd h

acks_below : (b : ℕ) (a : Asked) → ((ts : Ts) → a.ack ≡ Some ts → ts.0 < b) → (t : ℕ) → In t (ack_times a) → t < b
acks_below b a f t h = by_ack a.ack refl h
  where
    by_ack : (o : Option Ts) → a.ack ≡ o → In t (elim o [ None ↦ [] | Some u ↦ u.0 ∷ [] ]) → t < b
    by_ack None e k = absurd k
    by_ack (Some u) e (inl q) = let g = f u e in omega (arith, g, q)
    by_ack (Some u) e (inr k) = absurd k

own_time : (b : ℕ) (x : Own) → OwnBelow b x → (t : ℕ) → In t (own_times x) → t < b
own_time b x h t (inl e) = let g = h.rs in omega (arith, g, e)
own_time b x h t (inr (inl e)) = let g = h.ffc in omega (arith, g, e)
own_time b x h t (inr (inr k)) =
    let ds : List ℕ = map (λ (d : Dep). d.rs.0) x.snap.deps in
    let lcs : List ℕ = or_nothing (lc_of x.phase) in
    elim (in_append (ds ++ lcs ++ final_times x.phase) (flat_map ack_times x.parts) t k) [
      | inr z ↦ (let r = in_flat_map ack_times x.parts t z in acks_below b r.0 (λ ts q. h.acks r.0 ts r.1 q) t r.2)
      | inl z ↦ (elim (in_append (ds ++ lcs) (final_times x.phase) t z) [
        | inr i ↦ h.finals t i
        | inl i ↦ (elim (in_append ds lcs t i) [
          | inl j ↦ (let r = in_map (λ (d : Dep). d.rs.0) x.snap.deps t j in let g = h.deps r.0 r.1 in omega (arith, g, r.2))
          | inr j ↦ nothing_below b (lc_of x.phase) h.lc t j
        ])
      ])
    ]

waiter_time : (b : ℕ) (r : Waiter) → WaiterBelow b r → (t : ℕ) → In t (waiter_times r) → t < b
waiter_time b (Read tx k rs) h t (inl e) = omega (arith, h, e)
waiter_time b (Read tx k rs) h t (inr z) = absurd z
waiter_time b (Held a) h t (inl e) = omega (arith, h.0, e)
waiter_time b (Held a) h t (inr (inl e)) = omega (arith, h.1, e)
waiter_time b (Held a) h t (inr (inr z)) = absurd z

view_time : (b : ℕ) (v : View) → ViewBelow b v → (t : ℕ) → In t (view_times v) → t < b
view_time b v h t (inl e) = let g = h.floor in omega (arith, g, e)
view_time b v h t (inr k) =
    let vs : List ℕ = map (λ (q : Version). q.ts.0) v.versions in
    elim (in_append (v.marks ++ vs ++ flat_map own_times v.own) (flat_map waiter_times v.waiters) t k) [
      | inr z ↦ (let r = in_flat_map waiter_times v.waiters t z in waiter_time b r.0 (h.waiters r.0 r.1) t r.2)
      | inl z ↦ (elim (in_append (v.marks ++ vs) (flat_map own_times v.own) t z) [
        | inr i ↦ (let r = in_flat_map own_times v.own t i in own_time b r.0 (h.own r.0 r.1) t r.2)
        | inl i ↦ (elim (in_append v.marks vs t i) [
          | inl j ↦ h.marks t j
          | inr j ↦ (let r = in_map (λ (q : Version). q.ts.0) v.versions t j in let g = h.versions r.0 r.1 in omega (arith, g, r.2))
        ])
      ])
    ]

one_time : (b u t : ℕ) → u < b → In t (u ∷ []) → t < b
one_time b u t less (inl e) = omega (arith, less, e)
one_time b u t less (inr z) = absurd z

two_times : (b u v t : ℕ) → u < b → v < b → In t (u ∷ v ∷ []) → t < b
two_times b u v t p q (inl e) = omega (arith, p, e)
two_times b u v t p q (inr k) = one_time b v t q k

body_time : (b : ℕ) (m : Body) → BodyBelow b m → (t : ℕ) → In t (body_times m) → t < b
body_time b (ReadReq tx k rs) h t j = one_time b rs.0 t h j
body_time b (ReadReply tx k v by fc) h t j = one_time b fc.0 t h j
body_time b (Prepare tx p rs lc ws) h t j = two_times b rs.0 lc.0 t h.0 h.1 j
body_time b (Refuse tx p by k) h t j = absurd j
body_time b (Replicate tx p rs lc ws) h t j = two_times b rs.0 lc.0 t h.0 h.1 j
body_time b (Ack tx p ts) h t j = one_time b ts.0 t h j
body_time b (Commit tx p fc ms) h t (inl e) = omega (arith, h.0, e)
body_time b (Commit tx p fc ms) h t (inr j) = let r = in_map (λ (m : KeyMark). m.mark.0) ms t j in let g = h.1 r.0 r.1 in omega (arith, g, r.2)
body_time b (Abort tx p) h t j = absurd j

pub times_below : (scene : Scene) (es : List Event) (t : ℕ) → In t (all_times (run scene es)) → t < 2 ^ 62 + proposals (run scene es)
times_below scene es t h = by_bound (2 ^ 62 + proposals (run scene es)) (bounded_ scene es)
  where
    by_bound : (b : ℕ) → StageBelow b (stage_of (run scene es)) → t < b
    by_bound b k = elim (in_append (flat_map view_times (run scene es).nodes) (flat_map (λ (m : Message). body_times m.body) (run scene es).sent) t h) [
      | inl j ↦ (let r = in_flat_map view_times (run scene es).nodes t j in let n = at_in (run scene es).nodes r.0 r.1 in view_time b r.0 (k.nodes n.0 r.0 n.1) t r.2)
      | inr j ↦ (let r = in_flat_map (λ (m : Message). body_times m.body) (run scene es).sent t j in body_time b r.0.body (k.sent r.0 r.1) t r.2)
    ]
