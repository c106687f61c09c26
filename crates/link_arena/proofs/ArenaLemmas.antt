-- What an arena is seen as, under each change of its nodes.
use Rattle.slab.specs.Slab.{Slab, Updates, get, slab_len}
use Rattle.std.proofs.Common.{IsNone, IsSome, vec_capacity, vec_len, ◌+◌, ◌≤◌, Bool, List, None, Option, Some, Vec, [], ap, arith, false, if◌then◌else◌, length, not, refl, subst, suc, sym, true, zero, ℕ, ◌&&◌, ◌||◌, ◌==◌, ◌∙◌, ◌∷◌, ◌≡◌, ◌≢◌}
use Rattle.std.proofs.Math.Bool.{and-false, and-true}
use Rattle.std.proofs.Math.ListN.{get_or-map}
use Rattle.std.proofs.lemmas.Bool.{and_from}
use Rattle.std.proofs.lemmas.Bool.Decides.{nat_tests}
use Rattle.std.specs.Global.{Global}
use Rattle.str_base.proofs.Tests.{eqb_self}
use Rattle.str_base.specs.declared.names.KeyId.{KeyId}
use Rattle.str_base.specs.declared.names.Kind.{Kind}
use Rattle.str_base.specs.declared.names.Ts.{Ts}
use Rattle.str_base.specs.declared.names.TxId.{TxId}
use Rattle.str_base.specs.declared.names.Version.{Version}
use Rattle.str_base.specs.Versions.{of_tx, tx_before}
use Rattle.link_arena.specs.Arenas.{Above, Rises, ArenaView, AreLists, IsArena, at, dated, key_list, list_of, next_of, prev_of, rows_of, tx_list, view_of}
use Rattle.link_arena.specs.declared.heads.Head.{Head}
use Rattle.link_arena.specs.declared.nodes.Ends.{Ends}
use Rattle.link_arena.specs.declared.nodes.Node.{Node}
use Rattle.link_arena.specs.declared.nodes.Side.{Side}
use Rattle.link_arena.specs.declared.nodes.Side.TheVariants.{ByKey, ByTx}
use Rattle.link_arena.specs.HeadLists.{AllAbove, IsRising, HasOneName, key_below, key_names, lookup}
use Rattle.link_arena.specs.OneSide.{OnSide, is_named, row_at}
use Rattle.link_arena.specs.Rows.{Back, Forth, Once, first_or, is_at, is_in, walk}
use Rattle.link_arena.specs.Sides.{SameOutside, SameSide, after_at, after_of, before_of, link_of, row_of, version_at, version_of}
use Rattle.link_arena.proofs.RowLemmas.{forth_once}
use Rattle.link_arena.proofs.SideLemmas.{named_in, side_kept}

-- no list between no ends
no_walk : (f : ℕ → Option ℕ) (n : ℕ) → walk f n None ≡ []
no_walk f zero = refl
no_walk f (suc n) = refl

-- the list with a name is the row between the ends of its head
pub list_is : {N : Type 0} (below : N → N → Bool) (side : Side) (nodes : Slab Node) (heads : List (Head N)) (k : N) → list_of below k (rows_of side nodes heads) ≡ row_at below side nodes heads k
list_is below side nodes [] k = sym (no_walk (after_at side nodes) (length nodes.slots))
list_is below side nodes (h ∷ hs) k = by_tests (below h.name k) (below k h.name) (list_is below side nodes hs k)
  where
    by_tests : (a b : Bool) → list_of below k (rows_of side nodes hs) ≡ row_at below side nodes hs k
        → (if a then list_of below k (rows_of side nodes hs) else if b then [] else row_of side nodes (Some h.ends)) ≡ row_of side nodes (if a then lookup below k hs else if b then None else Some h.ends)
    by_tests true b e = e
    by_tests false true e = sym (no_walk (after_at side nodes) (length nodes.slots))
    by_tests false false e = refl

-- the version of a slot is that of its node
pub at_is : (nodes : Slab Node) (keys : List (Head KeyId)) (txs : List (Head TxId)) (spare u : ℕ) → at (view_of nodes keys txs spare) u ≡ version_at nodes u
at_is nodes keys txs spare u = get_or-map version_of nodes.slots u None

-- the version of each slot after a change of one
pub updated : (old new : Slab Node) (slot : ℕ) (o : Option Node) → Updates old new slot o → (u : ℕ) → version_at new u ≡ (if u == slot then version_of o else version_at old u)
updated old new slot o up u = by_test (u == slot) refl
  where
    by_test : (b : Bool) → (u == slot) ≡ b → version_at new u ≡ (if b then version_of o else version_at old u)
    by_test true e = let q : u ≡ slot = grind (arith, nat_tests) in ap (λ w. version_at new w) q ∙ ap version_of up.changed
    by_test false e = let q : u ≢ slot = grind (arith, nat_tests) in ap version_of (up.others u q)

-- a fact of one name and of the others, as one equation
pub told : {N : Type 0} (names : N → Version → Bool) → HasOneName names → (v : Version) (name : N) → names name v ≡ true → (now more was : N → List ℕ)
    → now name ≡ more name → ((o : N) → o ≢ name → now o ≡ was o) → (k : N) → now k ≡ (if names k v then more k else was k)
told names one v name named now more was here others k = by_test (names k v) refl
  where
    by_test : (b : Bool) → names k v ≡ b → now k ≡ (if b then more k else was k)
    by_test true e = subst (λ m. now m ≡ more m) (one name k v named e) here
    by_test false e = others k (λ q. let r = subst (λ m. names m v ≡ false) q e in absurd (cc))

module _ {N : Type 0} (below : N → N → Bool) (names : N → Version → Bool) (side : Side) (old new : Slab Node) (heads : List (Head N)) where
  -- what a change of the nodes leaves
  abbrev pub Left : Option ℕ → Type 0
  Left out = OnSide below names side new heads out × ((k : N) → row_at below side new heads k ≡ row_at below side old heads k)

  -- the same node in a slot
  same_there : (u : ℕ) → get new u ≡ get old u → SameOutside side old new u
  same_there u e = record { after = ap (λ o. after_of side o) e; before = ap (λ o. before_of side o) e }

  -- a version is put into a slot that had none
  pub side_fresh : (slot : ℕ) (node : Node) → OnSide below names side old heads None → get old slot ≡ None → Updates old new slot (Some node) → Left (Some slot)
  side_fresh slot node on vacant up =
      side_kept below names side old new heads None (Some slot) on (λ k u h. same_there u (up.others u (apart k u h))) (λ k u. by_test k u (u == slot) refl)
    where
      apart : (k : N) (u : ℕ) → is_in u (row_at below side old heads k) ≡ true → u ≢ slot
      apart k u h e =
          let n = named_in below names side old heads None on k u h in
          let m = subst (λ w. is_named names k (version_at old w) ≡ true) e n in
          let f = ap (λ o. is_named names k (version_of o)) vacant in absurd (cc)

      by_test : (k : N) (u : ℕ) (b : Bool) → (u == slot) ≡ b → (is_named names k (version_at old u) && true) ≡ (is_named names k (version_at new u) && not b)
      by_test k u true e =
          let q : u ≡ slot = grind (arith, nat_tests) in
          ap (λ w. is_named names k (version_at old w) && true) q ∙ ap (λ o. is_named names k (version_of o) && true) vacant ∙ sym (and-false (is_named names k (version_at new u)))
      by_test k u false e = let q : u ≢ slot = grind (arith, nat_tests) in ap (λ o. is_named names k (version_of o) && true) (sym (up.others u q))

  -- the links of the other side change
  pub side_beside : (out : Option ℕ) → OnSide below names side old heads out → SameSide side old new → Left out
  side_beside out on same =
      side_kept below names side old new heads out out on (λ k u h. record { after = same.after u; before = same.before u })
      (λ k u. ap (λ o. is_named names k o && not (is_at out u)) (sym (same.version u)))

  -- a slot that is out of all lists is emptied
  pub side_emptied : (slot : ℕ) → OnSide below names side old heads (Some slot) → Updates old new slot None → Left None
  side_emptied slot on up =
      side_kept below names side old new heads (Some slot) None on (λ k u h. same_there u (up.others u (apart k u h))) (λ k u. by_test k u (u == slot) refl)
    where
      apart : (k : N) (u : ℕ) → is_in u (row_at below side old heads k) ≡ true → u ≢ slot
      apart k u h e =
          let q : (u == slot) ≡ true = grind (arith, nat_tests) in
          let m = sym (on.member k u) ∙ h in
          let f = ap (λ t. is_named names k (version_at old u) && not t) q ∙ and-false (is_named names k (version_at old u)) in absurd (cc)

      by_test : (k : N) (u : ℕ) (b : Bool) → (u == slot) ≡ b → (is_named names k (version_at old u) && not b) ≡ (is_named names k (version_at new u) && true)
      by_test k u true e =
          let q : u ≡ slot = grind (arith, nat_tests) in
          and-false (is_named names k (version_at old u)) ∙ sym (ap (λ w. is_named names k (version_at new w) && true) q ∙ ap (λ o. is_named names k (version_of o) && true) up.changed)
      by_test k u false e = let q : u ≢ slot = grind (arith, nat_tests) in ap (λ o. is_named names k (version_of o) && true) (sym (up.others u q))

  -- a version changes, and keeps its name
  pub side_changed : (slot : ℕ) (was now : Node) → OnSide below names side old heads None → get old slot ≡ Some was → Updates old new slot (Some now)
      → link_of side now ≡ link_of side was → ((k : N) → names k now.version ≡ names k was.version) → Left None
  side_changed slot was now on here up links named =
      side_kept below names side old new heads None None on (λ k u h. by_slot u (u == slot) refl) (λ k u. by_test k u (u == slot) refl)
    where
      by_slot : (u : ℕ) (b : Bool) → (u == slot) ≡ b → SameOutside side old new u
      by_slot u true e =
          let q : u ≡ slot = grind (arith, nat_tests) in
          subst (λ w. SameOutside side old new w) (sym q)
          (record {
            after = ap (λ o. after_of side o) up.changed ∙ ap (λ l. l.after) links ∙ sym (ap (λ o. after_of side o) here);
            before = ap (λ o. before_of side o) up.changed ∙ ap (λ l. l.before) links ∙ sym (ap (λ o. before_of side o) here);
          })
      by_slot u false e = let q : u ≢ slot = grind (arith, nat_tests) in same_there u (up.others u q)

      by_test : (k : N) (u : ℕ) (b : Bool) → (u == slot) ≡ b → (is_named names k (version_at old u) && true) ≡ (is_named names k (version_at new u) && true)
      by_test k u true e =
          let q : u ≡ slot = grind (arith, nat_tests) in
          ap (λ t. t && true)
          (ap (λ w. is_named names k (version_at old w)) q ∙ ap (λ o. is_named names k (version_of o)) here ∙ sym (named k) ∙ sym (ap (λ o. is_named names k (version_of o)) up.changed)
          ∙ sym (ap (λ w. is_named names k (version_at new w)) q))
      by_test k u false e = let q : u ≢ slot = grind (arith, nat_tests) in ap (λ o. is_named names k (version_of o) && true) (sym (up.others u q))

-- the names rise
rows_above : {N : Type 0} (below : N → N → Bool) (side : Side) (nodes : Slab Node) (k : N) (heads : List (Head N)) → AllAbove below k heads → Above below k (rows_of side nodes heads)
rows_above below side nodes k [] p = tt
rows_above below side nodes k (h ∷ hs) p = (p.0, rows_above below side nodes k hs p.1)

rows_rise : {N : Type 0} (below : N → N → Bool) (side : Side) (nodes : Slab Node) (heads : List (Head N)) → IsRising below heads → Rises below (rows_of side nodes heads)
rows_rise below side nodes [] p = tt
rows_rise below side nodes (h ∷ hs) p = (rows_above below side nodes h.name hs p.0, rows_rise below side nodes hs p.1)

-- each slot stands once in the list of its key, and once in the list of its transaction
pub are_lists : (nodes : Slab Node) (keys : Vec (Head KeyId) Global) (txs : Vec (Head TxId) Global) (spare : ℕ) → IsArena nodes keys txs spare → AreLists (view_of nodes keys.items txs.items spare)
are_lists nodes keys txs spare a = record {
  in_key = λ k u. ap (λ ss. is_in u ss) (list_is key_below ByKey nodes keys.items k) ∙ a.by_key.member k u ∙ and-true (is_named key_names k (version_at nodes u))
      ∙ ap (λ o. is_named key_names k o) (sym (at_is nodes keys.items txs.items spare u));
  in_tx = λ t u. ap (λ ss. is_in u ss) (list_is tx_before ByTx nodes txs.items t) ∙ a.by_tx.member t u ∙ and-true (is_named of_tx t (version_at nodes u))
      ∙ ap (λ o. is_named of_tx t o) (sym (at_is nodes keys.items txs.items spare u));
  keys_rise = rows_rise key_below ByKey nodes keys.items a.by_key.rise;
  txs_rise = rows_rise tx_before ByTx nodes txs.items a.by_tx.rise;
  once_in_key = λ k. subst (λ ss. Once ss) (sym (list_is key_below ByKey nodes keys.items k)) (forth_once (after_at ByKey nodes) (row_at key_below ByKey nodes keys.items k) (a.by_key.row k).forth);
  once_in_tx = λ t. subst (λ ss. Once ss) (sym (list_is tx_before ByTx nodes txs.items t)) (forth_once (after_at ByTx nodes) (row_at tx_before ByTx nodes txs.items t) (a.by_tx.row t).forth);
}

-- a version has the name of its key, and that of its transaction
pub has_key : (v : Version) → key_names v.key v ≡ true
has_key v = eqb_self v.key.0

pub has_tx : (v : Version) → of_tx v.tx v ≡ true
has_tx v = and_from (v.tx.node.0 == v.tx.node.0) (v.tx.seq == v.tx.seq) (eqb_self v.tx.node.0) (eqb_self v.tx.seq)

-- neighbours in a list are what the links say
pub next_is : (f : ℕ → Option ℕ) (ss : List ℕ) (s : ℕ) → Forth f ss None → is_in s ss ≡ true → f s ≡ next_of s ss
next_is f [] s p h = absurd (cc)
next_is f (u ∷ us) s p h = by_test (s == u) refl h (λ k. next_is f us s p.1 k)
  where
    by_test : (b : Bool) → (s == u) ≡ b → (b || is_in s us) ≡ true → (is_in s us ≡ true → f s ≡ next_of s us) → f s ≡ (if b then first_or None us else next_of s us)
    by_test true e h rec = let q : s ≡ u = grind (arith, nat_tests) in ap f q ∙ p.0
    by_test false e h rec = rec h

pub prev_is : (f : ℕ → Option ℕ) (b : Option ℕ) (ss : List ℕ) (s : ℕ) → Back f b ss → is_in s ss ≡ true → f s ≡ prev_of s b ss
prev_is f b [] s p h = absurd (cc)
prev_is f b (u ∷ us) s p h = by_test (s == u) refl h (λ k. prev_is f (Some u) us s p.1 k)
  where
    by_test : (t : Bool) → (s == u) ≡ t → (t || is_in s us) ≡ true → (is_in s us ≡ true → f s ≡ prev_of s (Some u) us) → f s ≡ (if t then b else prev_of s (Some u) us)
    by_test true e h rec = let q : s ≡ u = grind (arith, nat_tests) in ap f q ∙ p.0
    by_test false e h rec = rec h

-- what is seen of an arena whose fields are these
module _ (nodes : Slab Node) (keys : List (Head KeyId)) (txs : List (Head TxId)) (spare : ℕ) (a : ArenaView) (e : view_of nodes keys txs spare ≡ a) where
  pub at_seen : (u : ℕ) → version_at nodes u ≡ at a u
  at_seen u = sym (at_is nodes keys txs spare u) ∙ ap (λ v. at v u) e

  pub key_seen : (k : KeyId) → row_at key_below ByKey nodes keys k ≡ key_list a k
  key_seen k = sym (list_is key_below ByKey nodes keys k) ∙ ap (λ v. key_list v k) e

  pub tx_seen : (t : TxId) → row_at tx_before ByTx nodes txs t ≡ tx_list a t
  tx_seen t = sym (list_is tx_before ByTx nodes txs t) ∙ ap (λ v. tx_list v t) e

-- other room for nodes is no other list
side_grown : {N : Type 0} (below : N → N → Bool) (names : N → Version → Bool) (side : Side) (nodes : Slab Node) (heads : List (Head N)) (out : Option ℕ) (cap : ℕ)
    → OnSide below names side nodes heads out → OnSide below names side (record nodes { capacity = cap }) heads out
side_grown below names side nodes heads out cap on = record { rise = on.rise; row = on.row; member = on.member }

pub arena_grown : (old new : Slab Node) (keys more_keys : Vec (Head KeyId) Global) (txs more_txs : Vec (Head TxId) Global) (spare more : ℕ) → IsArena old keys txs spare
    → new ≡ record old { capacity = new.capacity } → more_keys.items ≡ keys.items → more_txs.items ≡ txs.items
    → slab_len old + more ≤ new.capacity → vec_len more_keys + more ≤ vec_capacity more_keys → vec_len more_txs + more ≤ vec_capacity more_txs → IsArena new more_keys more_txs more
arena_grown old new keys more_keys txs more_txs spare more a kept same_keys same_txs p q r =
    let k : OnSide key_below key_names ByKey new keys.items None
    = subst (λ n. OnSide key_below key_names ByKey n keys.items None) (sym kept) (side_grown key_below key_names ByKey old keys.items None new.capacity a.by_key) in
    let t : OnSide tx_before of_tx ByTx new txs.items None
    = subst (λ n. OnSide tx_before of_tx ByTx n txs.items None) (sym kept) (side_grown tx_before of_tx ByTx old txs.items None new.capacity a.by_tx) in
    let l : slab_len new ≡ slab_len old = ap (λ (n : Slab Node). slab_len n) kept in
    record {
      by_key = subst (λ hs. OnSide key_below key_names ByKey new hs None) (sym same_keys) k;
      by_tx = subst (λ hs. OnSide tx_before of_tx ByTx new hs None) (sym same_txs) t;
      nodes_room = omega (arith, l, p);
      keys_room = q;
      txs_room = r;
    }

-- a version with another timestamp and kind
pub dated_at : (old : ℕ → Option Version) (u slot : ℕ) (ts : Ts) (kind : Kind) (v : Version) → old slot ≡ Some v
    → (if u == slot then Some (record v { ts = ts; kind = kind }) else old u) ≡ (if u == slot then dated ts kind (old u) else old u)
dated_at old u slot ts kind v here = by_test (u == slot) refl
  where
    by_test : (b : Bool) → (u == slot) ≡ b → (if b then Some (record v { ts = ts; kind = kind }) else old u) ≡ (if b then dated ts kind (old u) else old u)
    by_test true e = let q : u ≡ slot = grind (arith, nat_tests) in sym (ap (λ w. dated ts kind (old w)) q ∙ ap (λ o. dated ts kind o) here)
    by_test false e = refl

-- a head that was forgotten leaves room for itself
pub room_again : (o : Option Ends) (before between after : ℕ) → (IsNone o → between + 1 ≡ before) → (IsSome o → after ≡ between) → between ≤ before → after ≤ between + 1 → after ≤ before
room_again None before between after p q r s = let e = p refl in omega (arith, e)
room_again (Some a) before between after p q r s = let e = q refl in omega (arith, e)
