-- The text of a scene, part by part.
use Rattle.std.proofs.Common.{Bool, List, [], ap, append_assoc, arith, codes, decimal, false, length, map, refl, suc, sym, true, ℕ, ◌++◌, ◌+◌, ◌∙◌, ◌∷◌, ◌≡◌}
use Rattle.std.proofs.lemmas.Grind.{flat_map-append}
use Rattle.std.proofs.lemmas.List.{append-nil}
use Rattle.std.proofs.lemmas.List.Folds.{flat_map-map}
use Rattle.std.specs.Prelude.{flat_map}
use Rattle.scene_text.specs.Writing.{end_text, event_text, head_text, session_text, tx_text}
use Rattle.str_base.specs.declared.names.NodeId.{NodeId}
use Rattle.str_scene.specs.Scenes.{KeyTable, Scene, Session}
use Rattle.str_scene.specs.Spelling.{drain_lines, ended, event_spelled, head_lines, op_spelled, part_lines, part_spelled, session_lines, spelling, tail_lines, tx_lines}
use Rattle.str_scene.specs.declared.names.Op.{Op}

-- lists of lists of lists
pub flat_map-flat_map : {X Y Z : Type 0} (g : Y → List Z) (f : X → List Y) (xs : List X) → flat_map g (flat_map f xs) ≡ flat_map (λ x. flat_map g (f x)) xs
flat_map-flat_map g f [] = refl
flat_map-flat_map g f (x ∷ xs) = flat_map-append g (f x) (flat_map f xs) ∙ ap (λ ys. flat_map g (f x) ++ ys) (flat_map-flat_map g f xs)

-- by functions that agree
flat_map-same : {X Y : Type 0} (f g : X → List Y) → ((x : X) → f x ≡ g x) → (xs : List X) → flat_map f xs ≡ flat_map g xs
flat_map-same f g h [] = refl
flat_map-same f g h (x ∷ xs) = λ i. h x i ++ flat_map-same f g h xs i

-- a transaction
tx_written : (keys : KeyTable) (ops : List Op) → flat_map ended (tx_lines keys ops) ≡ tx_text keys ops
tx_written keys ops = ap (λ bs. codes "tx\n" ++ bs) (flat_map-map ended (op_spelled keys) ops)

-- a session
session_written : (keys : KeyTable) (s : Session) → flat_map ended (session_lines keys s) ≡ session_text keys s
session_written keys s =
    ap (λ bs. ended (codes "session " ++ decimal s.node.0) ++ bs)
    (flat_map-flat_map ended (tx_lines keys) s.txs ∙ flat_map-same (λ ops. flat_map ended (tx_lines keys ops)) (tx_text keys) (tx_written keys) s.txs)

-- all sessions
sessions_written : (keys : KeyTable) (ss : List Session) → flat_map ended (flat_map (session_lines keys) ss) ≡ flat_map (session_text keys) ss
sessions_written keys ss =
    flat_map-flat_map ended (session_lines keys) ss ∙ flat_map-same (λ s. flat_map ended (session_lines keys s)) (session_text keys) (session_written keys) ss

-- the end
end_written : (drain : Bool) → flat_map ended (drain_lines drain ++ codes "end" ∷ []) ≡ end_text drain
end_written true = refl
end_written false = refl

-- the schedule and the end
tail_written : (scene : Scene) → flat_map ended (tail_lines scene) ≡ codes "schedule\n" ++ (flat_map event_text scene.schedule ++ end_text scene.drain)
tail_written scene =
    ap (λ bs. codes "schedule\n" ++ bs)
    (flat_map-append ended (map event_spelled scene.schedule) (drain_lines scene.drain ++ codes "end" ∷ [])
    ∙ (λ i. flat_map-map ended event_spelled scene.schedule i ++ end_written scene.drain i))

-- the version, the nodes and the partitions
head_written : (scene : Scene) → flat_map ended (head_lines scene) ≡ head_text scene.version scene.nodes ++ flat_map ended (part_lines 1 scene.parts)
head_written scene =
    let v = decimal scene.version in
    let n = decimal scene.nodes in
    let rest = flat_map ended (part_lines 1 scene.parts) in
    let feed : List ℕ = 10 ∷ [] in
    ap (λ bs. codes "str " ++ bs)
    (append_assoc v feed (codes "nodes " ++ ((n ++ feed) ++ rest))
    ∙ (ap (λ bs. v ++ (codes "\nnodes " ++ bs)) (append_assoc n feed rest)
    ∙ (sym (append_assoc v (codes "\nnodes ") (n ++ (feed ++ rest)))
    ∙ (sym (append_assoc (v ++ codes "\nnodes ") n (feed ++ rest)) ∙ sym (append_assoc ((v ++ codes "\nnodes ") ++ n) feed rest)))))

-- the whole text
pub scene_written : (scene : Scene) → spelling scene ≡ head_text scene.version scene.nodes ++ (flat_map ended (part_lines 1 scene.parts) ++ (flat_map (session_text scene.keys) scene.sessions
    ++ (codes "schedule\n" ++ (flat_map event_text scene.schedule ++ end_text scene.drain))))
unfolding spelling
scene_written scene =
    flat_map-append ended (head_lines scene) (flat_map (session_lines scene.keys) scene.sessions ++ tail_lines scene)
    ∙ (λ i. head_written scene i ++ flat_map-append ended (flat_map (session_lines scene.keys) scene.sessions) (tail_lines scene) i)
    ∙ (λ i. (head_text scene.version scene.nodes ++ flat_map ended (part_lines 1 scene.parts)) ++ (sessions_written scene.keys scene.sessions i ++ tail_written scene i))
    ∙ append_assoc (head_text scene.version scene.nodes) (flat_map ended (part_lines 1 scene.parts)) _

-- one partition more
part_lines-push : (p : ℕ) (rows : List (List NodeId)) (row : List NodeId) → part_lines p (rows ++ row ∷ []) ≡ part_lines p rows ++ part_spelled (p + length rows) row ∷ []
part_lines-push p [] row = let e : p + 0 ≡ p = omega arith in ap (λ n. part_spelled n row ∷ []) (sym e)
part_lines-push p (r ∷ rows) row =
    let e : p + 1 + length rows ≡ p + suc (length rows) = omega arith in
    ap (λ ls. part_spelled p r ∷ ls) (part_lines-push (p + 1) rows row ∙ ap (λ n. part_lines (p + 1) rows ++ part_spelled n row ∷ []) e)

-- one more of a text of partitions
pub parts_more : (rows taken more : List (List NodeId)) (row : List NodeId) (n : ℕ) (a b c : List ℕ) → more ≡ taken ++ row ∷ [] → n ≡ length taken + 1 →
    b ≡ a ++ flat_map ended (part_lines 1 taken) → c ≡ b ++ ended (part_spelled n row) → c ≡ a ++ flat_map ended (part_lines 1 more)
parts_more rows taken more row n a b c more_is n_is b_is c_is =
    let number : n ≡ 1 + length taken = omega arith in
    let text : flat_map ended (part_lines 1 more) ≡ flat_map ended (part_lines 1 taken) ++ ended (part_spelled n row) =
    ap (λ xs. flat_map ended (part_lines 1 xs)) more_is
    ∙ (ap (flat_map ended) (part_lines-push 1 taken row ∙ ap (λ m. part_lines 1 taken ++ part_spelled m row ∷ []) (sym number))
    ∙ (flat_map-append ended (part_lines 1 taken) (part_spelled n row ∷ [])
    ∙ ap (λ xs. flat_map ended (part_lines 1 taken) ++ xs) (append-nil (ended (part_spelled n row))))) in
    c_is ∙ (ap (λ xs. xs ++ ended (part_spelled n row)) b_is ∙ (append_assoc a (flat_map ended (part_lines 1 taken)) (ended (part_spelled n row)) ∙ ap (λ xs. a ++ xs) (sym text)))
