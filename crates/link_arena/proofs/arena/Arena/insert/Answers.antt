use Rattle.std.proofs.Common.{List, None, Option, Some, ap, arith, if◌then◌else◌, subst, sym, ℕ, ◌-◌, ◌==◌, ◌∙◌}
use Rattle.str_base.specs.declared.names.KeyId.{KeyId}
use Rattle.str_base.specs.declared.names.TxId.{TxId}
use Rattle.str_base.specs.declared.names.Version.{Version}
use Rattle.str_base.specs.Versions.{of_tx, tx_before}
use Rattle.link_arena.specs.Arenas.{ArenaView, at, key_list, number_of, tx_list}
use Rattle.link_arena.specs.declared.nodes.Side.TheVariants.{ByKey, ByTx}
use Rattle.link_arena.specs.HeadLists.{key_below, key_names}
use Rattle.link_arena.specs.OneSide.{row_at}
use Rattle.link_arena.specs.Rows.{IsPlace, put_before}
use Rattle.link_arena.specs.NameOrders.{key_one, tx_one}
use Rattle.link_arena.proofs.ArenaLemmas.{are_lists, at_is, has_key, has_tx, list_is, side_beside, side_fresh, told, updated}
use Rattle.link_arena.proofs.arena.Arena.insert.Goals as goal

pub enter-requires-clause-side : goal.enter-requires-clause-side
enter-requires-clause-side c =
    let s = c.insert_reserved-slot in
    (side_fresh key_below key_names ByKey c.self.inside.nodes s.new.self c.self.inside.keys.items s.result _ c.self.invariant.by_key s.ensures.was_vacant s.ensures.updates).0

pub enter-requires-clause-place : goal.enter-requires-clause-place
enter-requires-clause-place c =
    let s = c.insert_reserved-slot in
    let f = side_fresh key_below key_names ByKey c.self.inside.nodes s.new.self c.self.inside.keys.items s.result _ c.self.invariant.by_key s.ensures.was_vacant s.ensures.updates in
    let k = c.args.version.key in
    let p = subst (λ (v : ArenaView). IsPlace (number_of c.args.before) (key_list v k)) (sym c.self.view_is) c.requires.place in
    let q = subst (λ (ss : List ℕ). IsPlace (number_of c.args.before) ss) (list_is key_below ByKey c.self.inside.nodes c.self.inside.keys.items k ∙ sym (f.1 k)) p in
    subst (λ (t : Option ℕ). IsPlace t (row_at key_below ByKey s.new.self c.self.inside.keys.items k)) (sym c.number.ensures) q

pub enter-requires-2-clause-side : goal.enter-requires-2-clause-side
enter-requires-2-clause-side c =
    let s = c.insert_reserved-slot in
    let f = side_fresh tx_before of_tx ByTx c.self.inside.nodes s.new.self c.self.inside.txs.items s.result _ c.self.invariant.by_tx s.ensures.was_vacant s.ensures.updates in
    (side_beside tx_before of_tx ByTx s.new.self c.enter.new.nodes c.self.inside.txs.items (Some s.result) f.0 c.enter.ensures.beside).0

pub invariant_of-self : goal.invariant_of-self
invariant_of-self c =
    let r = ap (λ (v : ArenaView). v.spare) c.self.view_is in
    record {
      by_key = (side_beside key_below key_names ByKey c.enter.new.nodes c.enter-2.new.nodes c.enter.new.heads.items None c.enter.ensures.side c.enter-2.ensures.beside).0;
      by_tx = c.enter-2.ensures.side;
      nodes_room = omega (arith, r);
      keys_room = omega (arith, r);
      txs_room = omega (arith, r);
    }

pub returns-clause-at : goal.returns-clause-at
returns-clause-at c u =
    let s = c.insert_reserved-slot in
    at_is c.enter-2.new.nodes c.enter.new.heads.items c.enter-2.new.heads.items (c.self.inside.spare - 1) u ∙ c.enter-2.ensures.version u ∙ c.enter.ensures.version u ∙ updated c.self.inside.nodes s.new.self s.result _ s.ensures.updates u
    ∙ ap (λ (o : Option Version). if u == s.result then Some c.args.version else o)
    (sym (at_is c.self.inside.nodes c.self.inside.keys.items c.self.inside.txs.items c.self.inside.spare u) ∙ ap (λ (v : ArenaView). at v u) c.self.view_is)

pub returns-clause-key_list : goal.returns-clause-key_list
returns-clause-key_list c =
    let s = c.insert_reserved-slot in
    let next = number_of c.args.before in
    let f = side_fresh key_below key_names ByKey c.self.inside.nodes s.new.self c.self.inside.keys.items s.result _ c.self.invariant.by_key s.ensures.was_vacant s.ensures.updates in
    let g = side_beside key_below key_names ByKey c.enter.new.nodes c.enter-2.new.nodes c.enter.new.heads.items None c.enter.ensures.side c.enter-2.ensures.beside in
    let now = λ (k : KeyId). list_is key_below ByKey c.enter-2.new.nodes c.enter.new.heads.items k ∙ g.1 k in
    let was = λ (k : KeyId). f.1 k ∙ sym (list_is key_below ByKey c.self.inside.nodes c.self.inside.keys.items k) ∙ ap (λ (v : ArenaView). key_list v k) c.self.view_is in
    let name = c.args.version.key in
    told key_names key_one c.args.version name (has_key c.args.version)
    _ (λ k. put_before next s.result (key_list c.args.self.now k)) (λ k. key_list c.args.self.now k)
    (now name ∙ c.enter.ensures.row ∙ ap (λ (t : Option ℕ). put_before t s.result (row_at key_below ByKey s.new.self c.self.inside.keys.items name)) c.number.ensures ∙ ap (λ (ss : List ℕ). put_before next s.result ss) (was name))
    (λ o n. now o ∙ c.enter.ensures.others o n ∙ was o)

pub returns-clause-tx_list : goal.returns-clause-tx_list
returns-clause-tx_list c =
    let s = c.insert_reserved-slot in
    let f = side_fresh tx_before of_tx ByTx c.self.inside.nodes s.new.self c.self.inside.txs.items s.result _ c.self.invariant.by_tx s.ensures.was_vacant s.ensures.updates in
    let g = side_beside tx_before of_tx ByTx s.new.self c.enter.new.nodes c.self.inside.txs.items (Some s.result) f.0 c.enter.ensures.beside in
    let now = λ (t : TxId). list_is tx_before ByTx c.enter-2.new.nodes c.enter-2.new.heads.items t in
    let was = λ (t : TxId). g.1 t ∙ f.1 t ∙ sym (list_is tx_before ByTx c.self.inside.nodes c.self.inside.txs.items t) ∙ ap (λ (v : ArenaView). tx_list v t) c.self.view_is in
    let name = c.args.version.tx in
    told of_tx tx_one c.args.version name (has_tx c.args.version)
    _ (λ t. put_before None s.result (tx_list c.args.self.now t)) (λ t. tx_list c.args.self.now t)
    (now name ∙ c.enter-2.ensures.row ∙ ap (λ (ss : List ℕ). put_before None s.result ss) (was name))
    (λ o n. now o ∙ c.enter-2.ensures.others o n ∙ was o)

pub returns-clause-lists : goal.returns-clause-lists
returns-clause-lists c = are_lists c.enter-2.new.nodes c.enter.new.heads c.enter-2.new.heads (c.self.inside.spare - 1) (invariant_of-self c)
