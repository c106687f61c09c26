-- What an own transaction counts for, by its phase, and what each change of it leaves.
use Rattle.std.proofs.Common.{Bool, List, None, Option, Some, [], ap, arith, drop, eq-eqb, eqb-true, false, filter, flat_map, if◌then◌else◌, inl, inr, length, map, nat_lt, refl, slice_get, subst, suc, sym, true, zero, ℕ, ◌*◌, ◌++◌, ◌+◌, ◌-◌, ◌<◌, ◌==◌, ◌||◌, ◌∙◌, ◌∷◌, ◌≡◌, ◌≢◌, ◌≤◌}
use Rattle.std.proofs.lemmas.List.Sums.{sum_by-append, sum_by-cons}
use Rattle.std.proofs.lemmas.Option.{slice_get_within}
use Rattle.std.specs.List.{list_any, sum_by}
use Rattle.partition_map.specs.declared.rows.Asked.{Asked}
use Rattle.si_laws.proofs.Times.NoRepeats.{map_length}
use Rattle.si_laws.proofs.Stages.ParticipantSeats.{flat_map_in}
use Rattle.spsi_laws.proofs.Work.LeftHome.{Together}
use Rattle.spsi_laws.proofs.Work.LeftSums.{sum_at_least, sum_filter_less, sum_map_each}
use Rattle.str_base.specs.Values.{is_below}
use Rattle.str_base.specs.declared.names.KeyId.{KeyId}
use Rattle.str_base.specs.declared.names.NodeId.{NodeId}
use Rattle.str_base.specs.declared.names.PartId.{PartId}
use Rattle.str_base.specs.declared.names.TxId.{TxId}
use Rattle.str_base.specs.declared.names.Value.{Value}
use Rattle.str_base.specs.declared.names.Value.TheVariants.{Absent}
use Rattle.str_base.specs.declared.names.Version.{Version}
use Rattle.str_base.specs.declared.names.Write.{Write}
use Rattle.str_base.specs.Versions.{same_key, same_part}
use Rattle.dependency_set.specs.Snapshots.{Snap}
use Rattle.str_model.proofs.Changes.SnapshotsGain.{if_elim}
use Rattle.str_model.specs.Acts.{asked_ones, fresh, with_asked}
use Rattle.str_model.specs.Scripts.{finish, finish_next, noted, own_op}
use Rattle.str_model.specs.Views.{Aborted, Active, CertWait, Closing, Committed, Global, Local, Own, Phase, ReadWait, Remote, Reply, is_certified, is_decided, lc_of}
use Rattle.str_model.specs.Work.{close_left, may_write, ops_left, own_left, part_left, script_participants, share, wait_left}
use Rattle.str_scene.specs.declared.names.Op.{Op}
use Rattle.str_scene.specs.declared.names.Op.TheVariants.{Abort as Stop, Add, Del, Get, Need, Put, Puts}
use Rattle.str_scene.specs.declared.names.TxPlace.{TxPlace}
use Rattle.str_scene.specs.Scenes.{Here, all_parts, in_part, others, participants, replicas, script_at, unasked, written_parts}
use Rattle.str_model.specs.Owned.{wrote_key}
use Rattle.str_model.proofs.OwnFacts.ScriptsCovered.{ScriptGood, WritesKey}
use Rattle.str_model.proofs.Changes.PairWords.{any_has}
use Rattle.str_model.proofs.OwnFacts.AtHome.{OwnGood, seats}
use Rattle.str_model.proofs.ListCounts.{how_many, many_append, one_if}
use Rattle.std.proofs.lemmas.List.Concat.{length-flat_map}
use Rattle.str_base.proofs.Members.{any_in, in_at, in_flat_map, in_map, map_in}
use Rattle.str_base.proofs.Lists.{length-filter-le}
use Rattle.str_base.specs.Members.{In}

-- what an own transaction counts for
unfoldable pub left_of : Here → Own → ℕ
left_of here x = own_left here.scene here.node x

-- 3 for each participant of the script at a place
pub named_left : Here → TxPlace → ℕ
named_left here place = 3 * length (script_participants here.scene here.node (script_at here.scene place))

-- the operations that are not finished
unfoldable pub rest_of : Here → Own → ℕ
rest_of here x = length (script_at here.scene x.place) - x.next

module _ (here : Here) where
  abbrev by_phase : ℕ → Phase → ℕ → List Asked → ℕ
  by_phase r p n parts =
      if is_decided p
      then 0
      else 3 * ops_left p r + (wait_left p + (close_left p + (if is_certified p then sum_by part_left parts else n)))

  left_by_phase : (x : Own) (p : Phase) → x.phase ≡ p → left_of here x ≡ by_phase (rest_of here x) p (named_left here x.place) x.parts
  unfolding left_of rest_of named_left
  left_by_phase x p e = ap (λ q. by_phase (length (script_at here.scene x.place) - x.next) q (3 * length (script_participants here.scene here.node (script_at here.scene x.place))) x.parts) e

  pub left_active : (x : Own) → x.phase ≡ Active → left_of here x ≡ 3 * rest_of here x + (1 + named_left here x.place)
  left_active x e = let q = left_by_phase x Active e in omega (arith, q)

  pub left_wait : (x : Own) (k : KeyId) → x.phase ≡ ReadWait k → left_of here x ≡ 3 * (rest_of here x - 1) + (3 + named_left here x.place)
  left_wait x k e = let q = left_by_phase x (ReadWait k) e in omega (arith, q)

  pub left_remote : (x : Own) (k : KeyId) → x.phase ≡ Remote k → left_of here x ≡ 3 * (rest_of here x - 1) + (1 + named_left here x.place)
  left_remote x k e = let q = left_by_phase x (Remote k) e in omega (arith, q)

  pub left_reply : (x : Own) (k : KeyId) (v : Value) (by : Option TxId) (fc : ℕ) → x.phase ≡ Reply k v by fc → left_of here x ≡ 3 * (rest_of here x - 1) + (1 + named_left here x.place)
  left_reply x k v by fc e = let q = left_by_phase x (Reply k v by fc) e in omega (arith, q)

  pub left_closing : (x : Own) (b : Bool) → x.phase ≡ Closing b → left_of here x ≡ 3 * (rest_of here x - 1) + named_left here x.place
  left_closing x b e = let q = left_by_phase x (Closing b) e in omega (arith, q)

  pub left_gate : (x : Own) → x.phase ≡ CertWait → left_of here x ≡ named_left here x.place
  left_gate x e = let q = left_by_phase x CertWait e in omega (arith, q)

  pub left_local : (x : Own) (lc : ℕ) → x.phase ≡ Local lc → left_of here x ≡ sum_by part_left x.parts
  left_local x lc e = let q = left_by_phase x (Local lc) e in omega (arith, q)

  pub left_global : (x : Own) (lc : ℕ) → x.phase ≡ Global lc → left_of here x ≡ sum_by part_left x.parts
  left_global x lc e = let q = left_by_phase x (Global lc) e in omega (arith, q)

  pub left_aborted : (x : Own) (lc : Option ℕ) (c : Rattle.str_base.specs.declared.names.Cause.Cause) → x.phase ≡ Aborted lc c → left_of here x ≡ 0
  left_aborted x lc c e = left_by_phase x (Aborted lc c) e

  pub left_committed : (x : Own) (lc fc : Option ℕ) → x.phase ≡ Committed lc fc → left_of here x ≡ 0
  left_committed x lc fc e = left_by_phase x (Committed lc fc) e

  -- one that was certified and is undecided
  pub left_certified : (x : Own) (lc : ℕ) → lc_of x.phase ≡ Some lc → is_decided x.phase ≡ false → left_of here x ≡ sum_by part_left x.parts
  left_certified x lc l f = by (x.phase) refl l f
    where
      by : (p : Phase) → x.phase ≡ p → lc_of p ≡ Some lc → is_decided p ≡ false → left_of here x ≡ sum_by part_left x.parts
      by (Local c) e l f = left_local x c e
      by (Global c) e l f = left_global x c e
      by (Committed a b) e l f = absurd (cc f)
      by (Aborted a b) e l f = absurd (cc f)
      by _ e l f = absurd (cc l)

  -- ---- parts stay, reads and snapshots count for nothing

  pub left_snap : (x : Own) (s : Snap) → left_of here (record x { snap = s }) ≡ left_of here x
  unfolding left_of
  left_snap x s = refl

  pub left_noted : (k : KeyId) (v : Value) (by : Option TxId) (s : Snap) (x : Own) → left_of here (noted k v by s x) ≡ left_of here x
  unfolding left_of
  left_noted k v by s x = refl

  -- ---- an operation is finished

  finished : (x y : Own) → y.phase ≡ Active → y.next ≡ x.next + 1 → y.place ≡ x.place → left_of here y ≤ 3 * (rest_of here x - 1) + (1 + named_left here x.place)
  unfolding rest_of
  finished x y p n q =
      let a = left_active y p in
      let b : length (script_at here.scene y.place) ≡ length (script_at here.scene x.place) = ap (λ t. length (script_at here.scene t)) q in
      let c : named_left here y.place ≡ named_left here x.place = ap (named_left here) q in
      sums _ _ _ _ _ _ _ a b c n
    where
      sums : (l ly lx ny nx py px : ℕ) → l ≡ 3 * (ly - ny) + (1 + py) → ly ≡ lx → py ≡ px → ny ≡ nx + 1 → l ≤ 3 * ((lx - nx) - 1) + (1 + px)
      sums l ly lx ny nx py px a b c d = omega (arith, a, b, c, d)

  closing_ : (x : Own) → left_of here (record x { phase = Closing true }) ≤ 3 * (rest_of here x - 1) + (1 + named_left here x.place)
  unfolding rest_of
  closing_ x = let q = left_closing (record x { phase = Closing true }) true refl in omega (arith, q)

  pub finish_left : (op : Op) (v : Value) (x : Own) → (op ≡ Stop → ⊥) → left_of here (finish op v x) ≤ 3 * (rest_of here x - 1) + (1 + named_left here x.place)
  finish_left (Get k) v x n = finished x (finish (Get k) v x) refl refl refl
  finish_left (Put k m) v x n = finished x (finish (Put k m) v x) refl refl refl
  finish_left (Puts k t) v x n = finished x (finish (Puts k t) v x) refl refl refl
  finish_left (Add k m) v x n = finished x (finish (Add k m) v x) refl refl refl
  finish_left (Del k) v x n = finished x (finish (Del k) v x) refl refl refl
  finish_left (Need k m) v x n =
      if_elim (λ y. left_of here y ≤ 3 * (rest_of here x - 1) + (1 + named_left here x.place)) (is_below v m) (record x { phase = Closing true }) (record x { next = x.next + 1; phase = Active })
      (λ t. closing_ x) (λ t. finished x (record x { next = x.next + 1; phase = Active }) refl refl refl)
  finish_left Stop v x n = absurd (n refl)

  -- where it counts for as much as a read that waits, it counts for no more than before
  pub finish_next_left : (o : Option Op) (v : Value) (x : Own) → 3 * (rest_of here x - 1) + (1 + named_left here x.place) ≤ left_of here x → left_of here (finish_next o v x) ≤ left_of here x
  finish_next_left None v x h = omega arith
  finish_next_left (Some op) v x h = by_op op (λ n. finish_left op v x n)
    where
      by_op : (op : Op) → ((op ≡ Stop → ⊥) → left_of here (finish op v x) ≤ 3 * (rest_of here x - 1) + (1 + named_left here x.place)) → left_of here (finish op v x) ≤ left_of here x
      by_op Stop f = omega arith
      by_op (Get k) f = let r = f (λ q. cc q) in omega (arith, r, h)
      by_op (Put k m) f = let r = f (λ q. cc q) in omega (arith, r, h)
      by_op (Puts k t) f = let r = f (λ q. cc q) in omega (arith, r, h)
      by_op (Add k m) f = let r = f (λ q. cc q) in omega (arith, r, h)
      by_op (Del k) f = let r = f (λ q. cc q) in omega (arith, r, h)
      by_op (Need k m) f = let r = f (λ q. cc q) in omega (arith, r, h)

  -- there is a next operation
  pub rest_some : (x : Own) (op : Op) → own_op here x ≡ Some op → 1 ≤ rest_of here x
  unfolding rest_of
  rest_some x op e = let q = slice_get_within (script_at here.scene x.place) x.next op e in omega (arith, q)

  -- ---- a new transaction

  pub left_fresh : (place : TxPlace) (rs : ℕ) (n : NodeId) (ops : List Op) → n ≡ here.node → script_at here.scene place ≡ ops → left_of here (fresh place rs) + 1 ≡ share here.scene n ops
  unfolding named_left rest_of
  left_fresh place rs n ops m s =
      let a = left_active (fresh place rs) refl in
      let b : length (script_at here.scene place) ≡ length ops = ap (λ (zs : List Op). length zs) s in
      let c : length (script_participants here.scene here.node (script_at here.scene place)) ≡ length (script_participants here.scene n ops) =
      ap (λ zs. length (script_participants here.scene here.node zs)) s ∙ ap (λ k. length (script_participants here.scene k ops)) (sym m) in
      omega (arith, a, b, c)

  -- ---- participants

  -- who is asked was counted
  pub few_asked : (vs : List Version) (i : ℕ) (x : Own) → OwnGood here vs i x → is_decided x.phase ≡ false → length (asked_ones x.parts) ≤ left_of here x
  few_asked vs i x g f = by_lc (lc_of x.phase) refl
    where
      by_lc : (o : Option ℕ) → lc_of x.phase ≡ o → length (asked_ones x.parts) ≤ left_of here x
      by_lc None e = let z : length (asked_ones x.parts) ≡ 0 = ap (λ ps. length (asked_ones ps)) (g.none e) in omega (arith, z)
      by_lc (Some lc) e =
          let a = left_certified x lc e f in
          let b = sum_at_least part_left x.parts (λ (z : Asked). one_at_least z.asked) in
          let c = length-filter-le (λ (z : Asked). z.asked) x.parts in
          omega (arith, a, b, c)
        where
          one_at_least : (b : Bool) → 1 ≤ (if b then 1 else 3)
          one_at_least true = omega arith
          one_at_least false = omega arith

  pub few_parts_left : (x : Own) (lc : ℕ) → lc_of x.phase ≡ Some lc → is_decided x.phase ≡ false → length x.parts ≤ left_of here x
  few_parts_left x lc e f =
      let a = left_certified x lc e f in
      let b = sum_at_least part_left x.parts (λ (z : Asked). one_at_least z.asked) in
      omega (arith, a, b)
    where
      one_at_least : (b : Bool) → 1 ≤ (if b then 1 else 3)
      one_at_least true = omega arith
      one_at_least false = omega arith

  -- new participants count for 3 each
  new_parts : (xs : List PartId) (n : NodeId) → sum_by part_left (flat_map (λ (p : PartId). map (unasked p) (others n (replicas here.scene p))) xs) ≡ 3 * length (flat_map (λ (p : PartId). map (unasked p) (others n (replicas here.scene p))) xs)
  new_parts [] n = omega arith
  new_parts (p ∷ xs) n =
      let r = new_parts xs n in
      let bl : List Asked = map (unasked p) (others n (replicas here.scene p)) in
      let rs : List Asked = flat_map (λ (p : PartId). map (unasked p) (others n (replicas here.scene p))) xs in
      let a = sum_by-append part_left bl rs in
      let b = sum_map_each part_left (unasked p) 3 (others n (replicas here.scene p)) (λ z. refl) in
      let c : length bl ≡ length (others n (replicas here.scene p)) = map_length (unasked p) (others n (replicas here.scene p)) in
      let d = Rattle.std.proofs.Common.length-append bl rs in
      omega (arith, r, a, b, c, d)

  writes_in : (op : Op) (k : KeyId) → WritesKey op k → In (record { key = k; value = Absent }) (may_write op)
  writes_in (Get l) k h = absurd h
  writes_in (Put l n) k h = inl (ap (λ (z : KeyId). record { key = z; value = Absent }) h)
  writes_in (Puts l t) k h = inl (ap (λ (z : KeyId). record { key = z; value = Absent }) h)
  writes_in (Add l n) k h = inl (ap (λ (z : KeyId). record { key = z; value = Absent }) h)
  writes_in (Del l) k h = inl (ap (λ (z : KeyId). record { key = z; value = Absent }) h)
  writes_in (Need l n) k h = absurd h
  writes_in Stop k h = absurd h

  -- what is written is named by the script
  pub fewer_parts : (x : Own) → ScriptGood here x → length (participants here.scene here.node x.writes) ≤ length (script_participants here.scene here.node (script_at here.scene x.place))
  fewer_parts x g =
      let f = λ (p : PartId). map (unasked p) (others here.node (replicas here.scene p)) in
      let ops : List Op = script_at here.scene x.place in
      let a = length-flat_map f (written_parts here.scene x.writes) in
      let b = length-flat_map f (written_parts here.scene (flat_map may_write ops)) in
      let c = sum_filter_less (λ p. length (f p)) (λ (p : PartId). list_any (in_part here.scene p) x.writes) (λ (p : PartId). list_any (in_part here.scene p) (flat_map may_write ops)) (all_parts here.scene) named in
      omega (arith, a, b, c)
    where
      named : (p : PartId) → list_any (in_part here.scene p) x.writes ≡ true → list_any (in_part here.scene p) (flat_map may_write (script_at here.scene x.place)) ≡ true
      named p e =
          let r = any_has (in_part here.scene p) x.writes e in
          let t : wrote_key r.0.key x.writes ≡ true = any_in (λ (w : Write). same_key w.key r.0.key) x.writes r.0 r.1 (eq-eqb r.0.key.0 r.0.key.0 refl) in
          let o = g.inside r.0.key t in
          let m : In (record { key = r.0.key; value = Absent }) (flat_map may_write (script_at here.scene x.place)) =
          flat_map_in may_write (script_at here.scene x.place) o.1 (record { key = r.0.key; value = Absent }) (in_at (script_at here.scene x.place) o.0 o.1 o.2) (writes_in o.1 r.0.key o.3) in
          any_in (in_part here.scene p) (flat_map may_write (script_at here.scene x.place)) (record { key = r.0.key; value = Absent }) m r.2

  pub certified_left : (x : Own) (lc : ℕ) (s : Snap) → ScriptGood here x
      → left_of here (record x { snap = s; parts = participants here.scene here.node x.writes; phase = Local lc }) ≤ named_left here x.place
  unfolding named_left
  certified_left x lc s g =
      let a = left_local (record x { snap = s; parts = participants here.scene here.node x.writes; phase = Local lc }) lc refl in
      let b = new_parts (written_parts here.scene x.writes) here.node in
      let c = fewer_parts x g in
      omega (arith, a, b, c)

  -- ---- asking

  -- how many of a partition
  abbrev of_part : PartId → List Asked → ℕ
  of_part p parts = how_many (λ (s : PartId × NodeId). same_part s.0 p) (seats parts)

  block : (p : PartId) (ns : List NodeId) → of_part p (map (unasked p) ns) ≡ length ns
  block p [] = refl
  block p (n ∷ ns) =
      let r = block p ns in
      let e : one_if (p.0 == p.0) ≡ 1 = ap one_if (eq-eqb p.0 p.0 refl) in
      omega (arith, r, e)

  seats_append : (xs ys : List Asked) → seats (xs ++ ys) ≡ seats xs ++ seats ys
  seats_append [] ys = refl
  seats_append (x ∷ xs) ys = ap (λ zs. (x.part, x.node) ∷ zs) (seats_append xs ys)

  block_within : (p : PartId) (ps : List PartId) (n : NodeId) → In p ps
      → length (others n (replicas here.scene p)) ≤ of_part p (flat_map (λ (q : PartId). map (unasked q) (others n (replicas here.scene q))) ps)
  block_within p [] n h = absurd h
  block_within p (q ∷ ps) n h =
      let bl : List Asked = map (unasked q) (others n (replicas here.scene q)) in
      let rs : List Asked = flat_map (λ (q : PartId). map (unasked q) (others n (replicas here.scene q))) ps in
      let a : of_part p (bl ++ rs) ≡ of_part p bl + of_part p rs =
      ap (how_many (λ (s : PartId × NodeId). same_part s.0 p)) (seats_append bl rs) ∙ many_append (λ (s : PartId × NodeId). same_part s.0 p) (seats bl) (seats rs) in
      elim h [
        | inl e ↦ (let b : of_part p bl ≡ length (others n (replicas here.scene p)) =
            ap (λ (z : PartId). of_part p (map (unasked z) (others n (replicas here.scene z)))) e ∙ block p (others n (replicas here.scene p)) in omega (arith, a, b))
        | inr k ↦ (let r = block_within p ps n k in omega (arith, a, r))
      ]

  -- the partition of a participant is one of those written
  part_written : (ps : List PartId) (n : NodeId) (a : Asked) → In a (flat_map (λ (q : PartId). map (unasked q) (others n (replicas here.scene q))) ps) → In a.part ps
  part_written ps n a h =
      let r = in_flat_map (λ (q : PartId). map (unasked q) (others n (replicas here.scene q))) ps a h in
      let m = in_map (unasked r.0) (others n (replicas here.scene r.0)) a r.2 in
      subst (λ (z : PartId). In z ps) (ap (λ (z : Asked). z.part) m.2) r.1

  -- each of a partition that was not asked counts for 2 less
  asked_less : (p : PartId) (parts : List Asked) → ((a : Asked) → In a parts → same_part a.part p ≡ true → a.asked ≡ false)
      → sum_by part_left (with_asked p parts) + 2 * of_part p parts ≡ sum_by part_left parts
  asked_less p [] h = omega arith
  asked_less p (a ∷ parts) h =
      let r = asked_less p parts (λ b k. h b (inr k)) in
      let s = sum_by-cons part_left (record a { asked = a.asked || same_part a.part p }) (with_asked p parts) in
      let t = sum_by-cons part_left a parts in
      let u = one_less a.asked (same_part a.part p) (λ e. h a (inl refl) e) in
      omega (arith, r, s, t, u)
    where
      one_less : (b c : Bool) → (c ≡ true → b ≡ false) → (if b || c then 1 else 3) + 2 * one_if c ≡ (if b then 1 else 3)
      one_less true true f = absurd (cc (f refl))
      one_less true false f = omega arith
      one_less false true f = omega arith
      one_less false false f = omega arith

  -- asking a partition takes 2 for each of its participants
  pub ask_left : (vs : List Version) (i lc : ℕ) (x : Own) (a : Asked) → OwnGood here vs i x → Together x.parts → lc_of x.phase ≡ Some lc → In a x.parts → a.asked ≡ false
      → sum_by part_left (with_asked a.part x.parts) + 2 * length (others here.node (replicas here.scene a.part)) ≤ sum_by part_left x.parts
  ask_left vs i lc x a g t l m n =
      let s = g.seats_are lc l in
      let k : In (a.part, a.node) (seats (participants here.scene here.node x.writes)) =
      subst (λ (zs : List (PartId × NodeId)). In (a.part, a.node) zs) s (map_in {A = Asked} {B = PartId × NodeId} (λ (b : Asked). (b.part, b.node)) x.parts a m) in
      let r = in_map {A = Asked} {B = PartId × NodeId} (λ (b : Asked). (b.part, b.node)) (participants here.scene here.node x.writes) (a.part, a.node) k in
      let w : In a.part (written_parts here.scene x.writes) =
      subst (λ (z : PartId). In z (written_parts here.scene x.writes)) (ap (λ (z : PartId × NodeId). z.0) r.2) (part_written (written_parts here.scene x.writes) here.node r.0 r.1) in
      let b = block_within a.part (written_parts here.scene x.writes) here.node w in
      let c : of_part a.part x.parts ≡ how_many (λ (z : PartId × NodeId). same_part z.0 a.part) (seats (participants here.scene here.node x.writes)) =
      ap (how_many (λ (z : PartId × NodeId). same_part z.0 a.part)) s in
      let d = asked_less a.part x.parts (λ z h e. t z a h m (eqb-true z.part.0 a.part.0 e) ∙ n) in
      omega (arith, b, c, d)
