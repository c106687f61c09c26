-- A transaction at its origin: what it committed stands there, as long as no old version is taken out.
use Rattle.std.proofs.Common.{List, Some, ap, eq-eqb, filter, inl, inr, map, refl, slice_get, slice_set, subst, subst₂, sym, true, false, ℕ, ◌+◌, ◌∙◌, ◌∷◌, ◌≡◌, ◌⊎◌}
use Rattle.str_base.proofs.Lists.{get_set, got_push, got_set}
use Rattle.str_base.proofs.Members.{filter_in, in_all_new, map_in}
use Rattle.str_base.specs.declared.names.Version.{Version}
use Rattle.str_base.specs.declared.names.Write.{Write}
use Rattle.str_base.specs.Members.{In}
use Rattle.str_base.specs.Versions.{of_tx, settled, without}
use Rattle.str_model.proofs.Changes.OwnTurns.{DecidesOne, OwnChange, o_aborts, o_acks, o_asks, o_begins, o_certifies, o_closes, o_commits, o_puts, o_rests, own_change, own_stays}
use Rattle.str_model.proofs.Principle.SingleChanges.{Act, Where}
use Rattle.str_model.specs.Acts.{decided_as, decided_versions, fresh, is_hosted_of, local_version, with_asked}
use Rattle.str_model.specs.declared.messages.Input.{Input}
use Rattle.str_model.specs.NodeFacts.{AllHaveFinals, AtHome, HasFinals, OwnGood, final_version}
use Rattle.str_model.specs.Owned.{Owns}
use Rattle.str_model.specs.Views.{Committed, Doing, Global, Local, Own, View, is_decided, lc_of, name_of}
use Rattle.str_scene.specs.Scenes.{Here, hosts_key, participants}

module _ (here : Here) (d e : View) (stays : (i : ℕ) (v : Version) → v.tx ≡ name_of here i → In v d.versions → In v e.versions ⊎ DecidesOne d e i) where
  -- one that rests keeps its versions
  rests_finals : (i : ℕ) (x : Own) → Owns d i x → HasFinals here d.versions i x → HasFinals here e.versions i x
  rests_finals i x own g l fc q w h k = elim (stays i (final_version here i fc w) refl (g l fc q w h k)) [
    | inl m ↦ m
    | inr z ↦ (let both : Some z.old ≡ Some x = sym z.was ∙ own in let same : z.old ≡ x = cc both in absurd (cc (ap (λ (u : Own). is_decided u.phase) same, z.open_, ap is_decided q)))
  ]

  -- one that is undecided has none
  open_finals : (i : ℕ) (y : Own) → is_decided y.phase ≡ false → HasFinals here e.versions i y
  open_finals i y f l fc q w h k = absurd (cc (ap is_decided q, f))

  -- one that commits has them now
  committed_finals : (i lc fc : ℕ) (x : Own) → is_decided x.phase ≡ false → lc_of x.phase ≡ Some lc → e.versions ≡ decided_versions here (name_of here i) fc d.versions → OwnGood here d.versions i x
      → HasFinals here e.versions i (decided_as (Committed (Some lc) (Some fc)) x)
  committed_finals i lc fc x f l q g k fc' z w h u =
      let is : fc ≡ fc' = cc z in
      subst (λ (n : ℕ). In (final_version here i n w) e.versions) is (subst (λ (vs : List Version). In (final_version here i fc w) vs) (sym q) settled_in)
    where
      hosted : is_hosted_of here (name_of here i) (local_version here i lc w) ≡ true
      hosted = rw (eq-eqb here.node.0 here.node.0 refl, eq-eqb (i + 1) (i + 1) refl) u

      settled_in : In (final_version here i fc w) (decided_versions here (name_of here i) fc d.versions)
      settled_in =
          in_all_new (map (settled fc) (filter (is_hosted_of here (name_of here i)) d.versions)) (without (of_tx (name_of here i)) d.versions) (final_version here i fc w)
          (map_in (settled fc) (filter (is_hosted_of here (name_of here i)) d.versions) (local_version here i lc w)
          (filter_in (is_hosted_of here (name_of here i)) d.versions (local_version here i lc w) (g.locals f lc l w h) hosted))

  -- one stands anew, and all others as they were
  one_anew : (i : ℕ) (x y : Own) → Owns d i x → e.own ≡ slice_set d.own i y → HasFinals here e.versions i y → AllHaveFinals here d → AllHaveFinals here e
  one_anew i x y own q good h j z k = elim (got_set d.own i j y z (subst (λ (xs : List Own). slice_get xs j ≡ Some z) q k)) [
    | inl p ↦ subst₂ (λ (n : ℕ) (u : Own). HasFinals here e.versions n u) (sym p.0) (sym p.1) good
    | inr p ↦ rests_finals j z p.1 (h j z p.1)
  ]

  finals_change : (input : Input) → OwnChange here input d e → AtHome here d → AllHaveFinals here d → AllHaveFinals here e
  finals_change input (o_rests q) home h = λ j z k. let was : Owns d j z = subst (λ (xs : List Own). slice_get xs j ≡ Some z) q k in rests_finals j z was (h j z was)
  finals_change input (o_begins place rs q) home h = λ j z k. elim (got_push d.own j (fresh place rs) z (subst (λ (xs : List Own). slice_get xs j ≡ Some z) q k)) [
    | inl p ↦ subst (HasFinals here e.versions j) (sym p.1) (open_finals j (fresh place rs) refl)
    | inr was ↦ rests_finals j z was (h j z was)
  ]
  finals_change input (o_puts i x y own g q) home h = one_anew i x y own q (open_finals i y g.goes.is_open) h
  finals_change input (o_certifies i lc snap x own f n r q s) home h =
      let y : Own = record x { snap = snap; parts = participants here.scene here.node x.writes; phase = Local lc } in one_anew i x y own q (open_finals i y refl) h
  finals_change input (o_asks i lc p x own f l q) home h = let y : Own = record x { parts = with_asked p x.parts; phase = Global lc } in one_anew i x y own q (open_finals i y refl) h
  finals_change input (o_acks i lc from tx p ts parts x own c g a q) home h = let y : Own = record x { parts = parts } in one_anew i x y own q (open_finals i y (ap is_decided g)) h
  finals_change input (o_aborts i cause x own f q) home h = one_anew i x _ own q (λ l fc z w k u. absurd (cc z)) h
  finals_change input (o_commits i lc fc x own f l gate q s) home h = one_anew i x _ own q (committed_finals i lc fc x f l s (home i x own)) h
  finals_change input (o_closes i x own p q) home h = one_anew i x _ own q (λ l fc z w k u. absurd (cc z)) h

pub finals-step : (here : Here) (input : Input) (w : Where) (d e : Doing) → Act here input w d e → AtHome here d.view → AllHaveFinals here d.view → AllHaveFinals here e.view
finals-step here input w d e a home h =
    finals_change here d.view e.view (λ i v q k. own_stays here input w i v q d e a k) input (own_change here input w d e a) home h
