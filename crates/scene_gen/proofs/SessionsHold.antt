-- The sessions: each stands at a node, and each transaction of it is a script; there are few.
use Rattle.std.proofs.Common.{List, [], arith, length, map, refl, ℕ, ◌*◌, ◌∷◌, ◌≡◌}
use Rattle.std.proofs.lemmas.List.{length-map}
use Rattle.std.proofs.lemmas.List.Sums.{sum_by-cons}
use Rattle.std.specs.List.{sum_by}
use Rattle.scene_gen.proofs.DrawnScripts.{IsDrawnSession}
use Rattle.scene_gen.proofs.Eaches.{each_both, map_each}
use Rattle.scene_gen.proofs.NamedKeys.{IsThere}
use Rattle.scene_gen.specs.Building.{HasNumber, IsDrawn}
use Rattle.scene_gen.specs.Made.{MadeSession, key_of, numbered, session_in}
use Rattle.scene_gen.specs.declared.draws.MadeOp.{MadeOp}
use Rattle.scene_gen.specs.declared.draws.MadeOp.TheVariants.{Add, Get, Put}
use Rattle.str_base.specs.declared.names.PartId.{PartId}
use Rattle.str_scene.proofs.Each.{each_at}
use Rattle.str_scene.specs.Lists.{Each}
use Rattle.str_scene.specs.SceneLimits.{IsOp, IsScript, IsSession}
use Rattle.str_scene.specs.Scenes.{KeyTable, Scene, Session}

-- a table of keys without byte strings
abbrev pub tabled : List (List ℕ × PartId) → KeyTable
tabled names = record { names = names; texts = [] }

-- the keys of a transaction are there
abbrev pub AreThere : List (List ℕ × PartId) → List MadeOp → Type 0
AreThere table ops = Each (IsThere table) (map key_of ops)

-- an operation by the number of its key
op_holds : (table : List (List ℕ × PartId)) (op : MadeOp) → HasNumber op → IsThere table (key_of op) → IsOp 1 (tabled table) (numbered table op)
op_holds table (Get k) h l = l
op_holds table (Put k n) h l = (l, h)
op_holds table (Add k n) h l = (l, h)

-- operations
ops_hold : (table : List (List ℕ × PartId)) (ops : List MadeOp) → Each HasNumber ops → AreThere table ops → Each (IsOp 1 (tabled table)) (map (numbered table) ops)
ops_hold table [] h l = tt
ops_hold table (op ∷ ops) h l = (op_holds table op h.0 l.0, ops_hold table ops h.1 l.1)

-- a transaction
pub script_holds : (table : List (List ℕ × PartId)) (ops : List MadeOp) → IsDrawn ops → AreThere table ops → IsScript 1 (tabled table) (map (numbered table) ops)
script_holds table ops h l =
    let long = length-map ops (numbered table) in
    record {
      some = omega (arith, long, h.some);
      few = omega (arith, long, h.few);
      ops = λ i op e. each_at (IsOp 1 (tabled table)) (map (numbered table) ops) i op (ops_hold table ops h.numbers l) e;
    }

-- a session
pub session_holds : (d : Scene) (s : MadeSession) → d.version ≡ 1 → d.nodes ≡ 3 → d.keys ≡ tabled d.keys.names → IsDrawnSession s
    → Each (AreThere d.keys.names) s.drawn → IsSession d (session_in d.keys.names s)
session_holds d s v n k h l =
    let table = d.keys.names in
    let scripts : Each (λ ops. IsScript 1 (tabled table) (map (numbered table) ops)) s.drawn =
    each_both IsDrawn (AreThere table) (λ ops. IsScript 1 (tabled table) (map (numbered table) ops)) (script_holds table) s.drawn h.scripts l in
    record {
      node = (h.node.0, rw n h.node.1);
      scripts = λ j ops e. rw (v, k) (each_at (IsScript 1 (tabled table)) (map (map (numbered table)) s.drawn) j ops (map_each (IsScript 1 (tabled table)) (map (numbered table)) s.drawn scripts) e);
    }

-- how many transactions they have
pub sessions_count : (table : List (List ℕ × PartId)) (ss : List MadeSession) → Each IsDrawnSession ss → sum_by (λ s. length s.txs) (map (session_in table) ss) ≡ length ss * 25
sessions_count table [] h = refl
sessions_count table (s ∷ ss) h =
    let more = sum_by-cons (λ (t : Session). length t.txs) (session_in table s) (map (session_in table) ss) in
    let rest = sessions_count table ss h.1 in
    let mine = length-map s.drawn (map (numbered table)) in
    omega (arith, more, rest, mine, h.0.long)
