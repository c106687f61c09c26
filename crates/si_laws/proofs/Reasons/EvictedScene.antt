-- A scene in which a Replicate evicts a transaction while a later one of its node has written the same key: the one true cause is the writer of the Replicate.
use Rattle.std.proofs.Common.{List, None, Option, Some, [], ap, false, inl, inr, map, pos, refl, slice_get, sym, ℕ, ◌∙◌, ◌∷◌, ◌≡◌, ◌⊎◌}
use Rattle.std.specs.Prelude.{codes}
use Rattle.str_base.specs.declared.names.KeyId.{KeyId}
use Rattle.str_base.specs.declared.names.Kind.{Kind}
use Rattle.str_base.specs.declared.names.Kind.TheVariants.{Local as LocalKind}
use Rattle.str_base.specs.declared.names.NodeId.{NodeId}
use Rattle.str_base.specs.declared.names.TxId.{TxId}
use Rattle.str_base.specs.declared.names.Version.{Version}
use Rattle.str_scene.specs.Scenes.{Scene, nth}
use Rattle.str_model.specs.declared.messages.Body.{Body}
use Rattle.str_model.specs.declared.messages.Body.TheVariants.{Abort, Ack, Commit, Prepare, ReadReply, ReadReq, Refuse, Replicate}
use Rattle.str_model.specs.declared.messages.Input.{Input}
use Rattle.str_model.specs.declared.messages.Input.TheVariants.{Deliver}
use Rattle.str_model.specs.Moments.{moments_of}
use Rattle.str_model.specs.Runs.{World}
use Rattle.str_model.specs.Traces.{Happening, MomentAt, trace}
use Rattle.str_model.specs.Views.{CertWait, Doing, Global, Own, Phase}
use Rattle.str_model.proofs.Worked.Words.{add, c, d, everything, key, node, put, session, words}
use Rattle.si_laws.specs.TrueCause.{AsksToCommit, Brings, Evicted, FoundAtHome, TrueConflict, at_end, waiting}

-- node 1 is the key's master and node 2 its slave
unfoldable evicted : Scene
unfolding words
evicted =
    record {
      version = 1;
      nodes = 2;
      parts = (node 1 ∷ node 2 ∷ []) ∷ [];
      keys = record { names = key (codes "a") 1 ∷ []; texts = [] };
      sessions =
          session 1 ((put 0 (pos 1) ∷ []) ∷ []) ∷
          session 2 ((put 0 (pos 2) ∷ []) ∷ []) ∷
          session 2 ((add 0 (pos 10) ∷ []) ∷ []) ∷ [];
      schedule = c 2 10 ∷ c 2 0 ∷ c 2 0 ∷ c 3 0 ∷ c 3 0 ∷ c 3 0 ∷ c 1 20 ∷ c 1 0 ∷ c 1 0 ∷ d 2 ∷ [];
      drain = false;
    }

-- the moments of the tenth event
abbrev last_moments : Option Happening → List Doing
last_moments None = []
last_moments (Some h) = h.moments

abbrev moments : List Doing
moments = last_moments (slice_get (trace evicted evicted.schedule) 9)

-- what stands of a version
abbrev stand_of : Version → TxId × ℕ × Kind
stand_of q = (q.tx, q.ts.0, q.kind)

abbrev versions_of : Option Doing → List (TxId × ℕ × Kind)
versions_of None = []
versions_of (Some e) = map stand_of e.view.versions

abbrev own_of : Option Own → List (ℕ × Phase)
own_of None = []
own_of (Some x) = (x.snap.rs, x.phase) ∷ []

abbrev first_phase : List (ℕ × Phase) → Phase
first_phase [] = CertWait
first_phase (q ∷ qs) = q.1

abbrev owns_of : Option Doing → ℕ → List (ℕ × Phase)
owns_of None s = []
owns_of (Some e) s = own_of (nth e.view.own s)

abbrev tx : ℕ → ℕ → TxId
tx n s = record { node = record { 0 = n }; seq = s }

-- whose Replicate the event delivered
abbrev writer_of_body : Body → Option TxId
writer_of_body (Replicate t p rs lc ws) = Some t
writer_of_body _ = None

abbrev writer_of_input : Option Input → Option TxId
writer_of_input (Some (Deliver m)) = writer_of_body m.body
writer_of_input _ = None

abbrev writer_of : Option Happening → Option TxId
writer_of None = None
writer_of (Some h) = writer_of_input h.input

-- both have Local versions of the key at the first moment, above the snapshot of the first one, which waits for its participants
stood : versions_of (slice_get moments 0) ≡ (tx 2 1, 11, LocalKind) ∷ (tx 2 2, 12, LocalKind) ∷ []
unfolding everything evicted moments_of
stood = refl

was : owns_of (slice_get moments 0) 1 ≡ (10, Global 11) ∷ []
unfolding everything evicted moments_of
was = refl

came : writer_of (slice_get (trace evicted evicted.schedule) 9) ≡ Some (tx 1 1)
unfolding everything evicted moments_of
came = refl

-- one that was certified and aborts by a conflict at its own node was evicted by the one that is named
certified_evicted : (scene : Scene) (w : World) (tr : List Happening) (j : ℕ) (t : TxId) (e : Doing) (x : Own) (u : TxId) (k : KeyId) (n : NodeId) (lc : ℕ) → x.phase ≡ Global lc → n ≡ t.node
    → TrueConflict scene w tr j t e x u k n → Evicted tr j e t u k
certified_evicted scene w tr j t e x u k n lc p home c = elim c.2 [ inl a ↦ by_home a | inr r ↦ absurd (r.elsewhere home) ]
  where
    never : AsksToCommit scene tr j t x → ⊥
    never (at_end st q f g) = cc (p, q)
    never (waiting q) = cc (p, q)

    by_home : ((n ≡ t.node) × FoundAtHome scene tr j t e x u k) ⊎ ((n ≡ t.node) × Evicted tr j e t u k) → Evicted tr j e t u k
    by_home (inl a) = absurd (never a.1.0)
    by_home (inr b) = b.1

-- so no other conflict is true than that with the writer of the Replicate: neither with the later writer nor with the transaction itself
by_the_replicate : (w : World) (e : Doing) (x : Own) (u : TxId) (k : KeyId) (n : NodeId) → MomentAt (trace evicted evicted.schedule) 9 0 n e → nth e.view.own 1 ≡ Some x → n ≡ (tx 2 1).node
    → TrueConflict evicted w (trace evicted evicted.schedule) 9 (tx 2 1) e x u k n → u ≡ tx 1 1
by_the_replicate w e x u k n a own home c = by_body v.0.body refl v.3
  where
    at : slice_get moments 0 ≡ Some e
    at = ap (λ o. slice_get (last_moments o) 0) a.1 ∙ a.3

    stands : own_of (Some x) ≡ (10, Global 11) ∷ []
    stands = sym (ap own_of own) ∙ (ap (λ o. owns_of o 1) (sym at) ∙ was)

    phase : x.phase ≡ Global 11
    phase = ap first_phase stands

    v : Evicted (trace evicted evicted.schedule) 9 e (tx 2 1) u k
    v = certified_evicted evicted w (trace evicted evicted.schedule) 9 (tx 2 1) e x u k n 11 phase home c

    writer : writer_of_body v.0.body ≡ Some (tx 1 1)
    writer = ap writer_of_input (sym v.2.2) ∙ (ap writer_of (sym v.2.1) ∙ came)

    by_body : (b : Body) → v.0.body ≡ b → Brings b u k → u ≡ tx 1 1
    by_body (Replicate t p rs lc ws) q z = let same : Some t ≡ Some (tx 1 1) = ap writer_of_body (sym q) ∙ writer in let is : t ≡ tx 1 1 = cc same in sym z.0 ∙ is
    by_body (ReadReq t l rs) q z = absurd z
    by_body (ReadReply t l a by fc) q z = absurd z
    by_body (Prepare t p rs lc ws) q z = absurd z
    by_body (Refuse t p by l) q z = absurd z
    by_body (Ack t p ts) q z = absurd z
    by_body (Commit t p fc ms) q z = absurd z
    by_body (Abort t p) q z = absurd z
