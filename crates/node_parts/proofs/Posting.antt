-- Letters are sent one after the other, and a partition is asked at its master or at its slaves.
use Rattle.std.proofs.Common.{List, [], ap, arith, false, filter, if◌then◌else◌, length, not, refl, sym, true, Bool, ◌++◌, ◌+◌, ◌∙◌, ◌∷◌, ◌≡◌, ◌≤◌, ℕ}
use Rattle.std.proofs.lemmas.List.{length-map}
use Rattle.node_parts.specs.Sending.{Outgoing}
use Rattle.partition_map.specs.Maps.{first_or, leads, others}
use Rattle.str_base.proofs.Lists.{length-filter-le}
use Rattle.str_base.specs.declared.names.NodeId.{NodeId}
use Rattle.str_base.specs.declared.names.PartId.{PartId}
use Rattle.str_base.specs.declared.names.Write.{Write}
use Rattle.str_base.specs.Versions.{same_node, stamp}
use Rattle.str_model.specs.Acts.{ask_letters, copies}
use Rattle.str_model.specs.declared.messages.Arrived.{Arrived}
use Rattle.str_model.specs.declared.messages.Message.{Message}
use Rattle.str_model.specs.Views.{Active, Own, name_of}
use Rattle.str_scene.specs.Scenes.{Here, in_part}

-- of all the messages of a call these are left to send
pub record SendsRest (rest all : List Message) (old now : Outgoing) : Type 0 where
  pub sent : now.sent ++ rest ≡ old.sent ++ all
  pub earlier : now.earlier ≡ old.earlier
  pub answered : now.answered ≡ old.answered
  pub released : now.released ≡ old.released
  pub space : old.space + length rest ≤ now.space + length all

-- ---- a partition is asked

-- the node that is told to be a row's master leads it
pub leads_row : (rows : List NodeId) (n m : NodeId) (b : Bool) → ((k : NodeId) → m ≡ first_or k rows) → same_node m n ≡ b → leads n rows ≡ b
leads_row [] n m b f e =
    let clash : 0 ≡ 1 = ap (λ (k : NodeId). k.0) (sym (f (record { 0 = 0 })) ∙ f (record { 0 = 1 })) in
    absurd (omega (arith, clash))
leads_row (r ∷ rows) n m b f e = ap (λ (k : NodeId). same_node k n) (sym (f n)) ∙ e

-- a transaction whose writes are these
abbrev writer : List Write → Own
writer ws =
    record { place = record { session = record { 0 = 0 }; index = 0 }; snap = record { rs = 0; ffc = 0; deps = [] }; next = 0; writes = ws; reads = []; gets = []; parts = []; phase = Active }

module _ (here : Here) (ws : List Write) (p : PartId) (lc n : ℕ) (rows : List NodeId) (room : (i : ℕ) (x : Own) → x.writes ≡ ws → length (ask_letters here i lc x p rows) ≤ n) where
  -- there is space for the copies
  pub copies_room : leads here.node rows ≡ true → (a : Arrived) → length (copies here a rows) ≤ n
  copies_room e a =
      let all = rw e at (room 0 (writer ws) refl) in
      let some : length (copies here a rows) ≡ length (others a.tx.node (others here.node rows)) = length-map (others a.tx.node (others here.node rows)) _ in
      let fits : length (others here.node rows) ≤ n = rw length-map at all in
      omega (arith, some, fits, length-filter-le (λ r. not (same_node r a.tx.node)) (others here.node rows))

  -- there is space for a Prepare
  pub prepare_room : leads here.node rows ≡ false → 1 ≤ n
  prepare_room e = rw e at (room 0 (writer ws) refl)

-- the others of the others
others_twice : (n : NodeId) (rows : List NodeId) → others n (others n rows) ≡ others n rows
others_twice n [] = refl
others_twice n (r ∷ rows) = by_test (same_node r n) refl (others_twice n rows)
  where
    by_test : (b : Bool) → same_node r n ≡ b → others n (others n rows) ≡ others n rows
        → others n (if not b then r ∷ others n rows else others n rows) ≡ (if not b then r ∷ others n rows else others n rows)
    by_test true e h = h
    by_test false e h = rw e (ap (λ rs. r ∷ rs) h)

-- the copies that the origin sends to the slaves of its own partition
pub ask_copies : (here : Here) (i : ℕ) (lc : ℕ) (x : Own) (p : PartId) (rows : List NodeId) → leads here.node rows ≡ true
    → copies here (record { tx = name_of here i; part = p; rs = stamp x.snap.rs; lc = stamp lc; writes = filter (in_part here.scene p) x.writes }) rows ≡ ask_letters here i lc x p rows
ask_copies here i lc x p rows e = rw (e, others_twice here.node rows) refl
