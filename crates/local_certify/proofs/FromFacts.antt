-- A certification may be called by a node that keeps the facts of its view: its keys have marks, and its times have room.
use Rattle.std.proofs.Common.{List, Some, arith, length, ltb-true, slice_get, subst, sym, true, ℕ, ◌<◌, ◌≡◌}
use Rattle.std.proofs.lemmas.List.{length-map}
use Rattle.str_base.specs.declared.names.PartId.{PartId}
use Rattle.str_base.specs.declared.names.Version.{Version}
use Rattle.str_base.specs.declared.names.Write.{Write}
use Rattle.local_certify.specs.Causes.{AllBelow}
use Rattle.partition_map.specs.Maps.{HasKey}
use Rattle.str_model.specs.NodeFacts.{MomentFacts, times_end}
use Rattle.str_model.specs.Owned.{Owns}
use Rattle.str_model.specs.Strange.{has_node}
use Rattle.str_model.specs.Views.{Own, View}
use Rattle.str_scene.specs.SceneLimits.{IsScene}
use Rattle.str_scene.specs.Scenes.{Here, map_of}
use Rattle.str_model.proofs.ViewFacts.TimesBelow.{mark_below}
use Rattle.str_model.proofs.OwnFacts.FewOwn.{times_low}
use Rattle.str_model.proofs.ViewFacts.NodeUses.{have_marks}
use Rattle.str_model.proofs.ViewFacts.VersionsKept.{write_key}
use Rattle.snapshot_read.proofs.FromFacts.{each-of}
use Rattle.version_chain.specs.ChainLists.{merged}
use Rattle.str_base.proofs.Members.{in_all_new, in_all_old, in_at}
use Rattle.str_base.specs.Members.{In}

module _ (here : Here) (ok : IsScene here.scene) (exists : has_node here here.node ≡ true) (v : View) (h : MomentFacts here v) (i : ℕ) (x : Own) (own : Owns v i x) where
  -- each written key is one of the map
  pub keys_there : (k : ℕ) (w : Write) → slice_get x.writes k ≡ Some w → HasKey (map_of here.scene) w.key
  keys_there k w e =
      let t = ltb-true w.key.0 (length here.scene.keys.names) (write_key here ok x (h.scripts i x own) w (in_at x.writes k w e)) in
      omega (arith, t, length-map here.scene.keys.names (λ (n : List ℕ × PartId). n.1))

  -- and has a mark
  pub keys_marked : (k : ℕ) (w : Write) → slice_get x.writes k ≡ Some w → w.key.0 < length v.marks
  keys_marked k w e = have_marks here v h w.key (write_key here ok x (h.scripts i x own) w (in_at x.writes k w e))

  -- every time is below the end of time
  pub times_room : (store cache : List Version) → v.versions ≡ merged cache store → AllBelow x.snap.rs v.marks store cache
  times_room store cache e =
      let t = times_low here ok exists v h in
      record {
        snap = (let r = (h.below.own x (in_at v.own i x own)).rs in omega (arith, r, t));
        marked = λ k l. (let m = mark_below (times_end v) v.marks k (let f = h.below.floor in omega (arith, f)) h.below.marks in omega (arith, m, t));
        stored = each-of store (λ u k. let b = h.below.versions u (subst (λ vs. In u vs) (sym e) (in_all_old cache store u k)) in omega (arith, b, t));
        cached = each-of cache (λ u k. let b = h.below.versions u (subst (λ vs. In u vs) (sym e) (in_all_new cache store u k)) in omega (arith, b, t));
      }
