use Rattle.std.proofs.Common.{List, None, Option, Some, ap, arith, subst, sym, true, vec_len, ℕ, ◌∙◌, ◌≡◌}
use Rattle.str_base.specs.declared.names.KeyId.{KeyId}
use Rattle.str_base.specs.declared.names.Version.{Version}
use Rattle.str_base.specs.Versions.{of_tx, tx_before}
use Rattle.link_arena.specs.Arenas.{at, key_list, number_of}
use Rattle.link_arena.specs.declared.nodes.Node.{Node}
use Rattle.link_arena.specs.declared.nodes.Side.TheVariants.{ByKey, ByTx}
use Rattle.link_arena.specs.HeadLists.{key_below, key_names, lookup}
use Rattle.link_arena.specs.OneSide.{row_at}
use Rattle.link_arena.specs.Rows.{IsPlace, put_before, taken}
use Rattle.link_arena.specs.Sides.{version_of}
use Rattle.link_arena.specs.NameOrders.{key_one}
use Rattle.link_arena.proofs.ArenaLemmas.{are_lists, at_is, at_seen, has_key, key_seen, list_is, room_again, side_beside, told, tx_seen}
use Rattle.link_arena.proofs.arena.Arena.relink.Goals as goal

pub enter-requires-clause-place : goal.enter-requires-clause-place
enter-requires-clause-place c =
    let s = c.args.slot.0 in
    let v = c.read.result.version in
    let h : at c.args.self.now s ≡ Some v = sym (at_seen c.self.inside.nodes c.self.inside.keys.items c.self.inside.txs.items c.self.inside.spare c.args.self.now c.self.view_is s) ∙ ap (λ (o : Option Node). version_of o) c.read.ensures in
    let p = c.requires.place v h in
    let q = subst (λ (ss : List ℕ). IsPlace (number_of c.args.before) ss) (sym (c.leave.ensures.row ∙ ap (λ (ss : List ℕ). taken s ss) (key_seen c.self.inside.nodes c.self.inside.keys.items c.self.inside.txs.items c.self.inside.spare c.args.self.now c.self.view_is v.key))) p in
    subst (λ (t : Option ℕ). IsPlace t (row_at key_below ByKey c.leave.new.nodes c.leave.new.heads.items v.key)) (sym c.number-next.ensures) q

pub invariant_of-self : goal.invariant_of-self
invariant_of-self c =
    let i = c.self.invariant in
    let t = side_beside tx_before of_tx ByTx c.self.inside.nodes c.leave.new.nodes c.self.inside.txs.items None i.by_tx c.leave.ensures.beside in
    let l = room_again (lookup key_below c.read.result.version.key c.leave.new.heads.items) (vec_len c.self.inside.keys) (vec_len c.leave.new.heads) (vec_len c.enter.new.heads)
    c.leave.ensures.gone c.enter.ensures.known c.leave.ensures.heads_len c.enter.ensures.heads_len in
    record {
      by_key = c.enter.ensures.side;
      by_tx = (side_beside tx_before of_tx ByTx c.leave.new.nodes c.enter.new.nodes c.self.inside.txs.items None t.0 c.enter.ensures.beside).0;
      nodes_room = omega arith;
      keys_room = omega arith;
      txs_room = omega arith;
    }

pub returns-clause-at : goal.returns-clause-at
returns-clause-at c u =
    at_is c.enter.new.nodes c.enter.new.heads.items c.self.inside.txs.items c.self.inside.spare u ∙ c.enter.ensures.version u ∙ c.leave.ensures.version u ∙ at_seen c.self.inside.nodes c.self.inside.keys.items c.self.inside.txs.items c.self.inside.spare c.args.self.now c.self.view_is u

pub returns-clause-key_list : goal.returns-clause-key_list
returns-clause-key_list c v h =
    let s = c.args.slot.0 in
    let next = number_of c.args.before in
    let r = c.read.result.version in
    let e : at c.args.self.now s ≡ Some r = sym (at_seen c.self.inside.nodes c.self.inside.keys.items c.self.inside.txs.items c.self.inside.spare c.args.self.now c.self.view_is s) ∙ ap (λ (o : Option Node). version_of o) c.read.ensures in
    let same : r ≡ v = cc in
    let now = λ (k : KeyId). list_is key_below ByKey c.enter.new.nodes c.enter.new.heads.items k in
    let was = λ (k : KeyId). key_seen c.self.inside.nodes c.self.inside.keys.items c.self.inside.txs.items c.self.inside.spare c.args.self.now c.self.view_is k in
    told key_names key_one v r.key (subst (λ (w : Version). key_names r.key w ≡ true) same (has_key r)) _
    (λ k. put_before next s (taken s (key_list c.args.self.now k))) (λ k. key_list c.args.self.now k)
    (now r.key ∙ c.enter.ensures.row ∙ ap (λ (t : Option ℕ). put_before t s (row_at key_below ByKey c.leave.new.nodes c.leave.new.heads.items r.key)) c.number-next.ensures
    ∙ ap (λ (ss : List ℕ). put_before next s ss) (c.leave.ensures.row ∙ ap (λ (ss : List ℕ). taken s ss) (was r.key)))
    (λ o n. now o ∙ c.enter.ensures.others o n ∙ c.leave.ensures.others o n ∙ was o)

pub returns-clause-tx_list : goal.returns-clause-tx_list
returns-clause-tx_list c k =
    let t = side_beside tx_before of_tx ByTx c.self.inside.nodes c.leave.new.nodes c.self.inside.txs.items None c.self.invariant.by_tx c.leave.ensures.beside in
    let u = side_beside tx_before of_tx ByTx c.leave.new.nodes c.enter.new.nodes c.self.inside.txs.items None t.0 c.enter.ensures.beside in
    list_is tx_before ByTx c.enter.new.nodes c.self.inside.txs.items k ∙ u.1 k ∙ t.1 k ∙ tx_seen c.self.inside.nodes c.self.inside.keys.items c.self.inside.txs.items c.self.inside.spare c.args.self.now c.self.view_is k

pub returns-clause-lists : goal.returns-clause-lists
returns-clause-lists c = are_lists c.enter.new.nodes c.enter.new.heads c.self.inside.txs c.self.inside.spare (invariant_of-self c)
