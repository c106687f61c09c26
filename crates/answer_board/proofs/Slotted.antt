-- The slots of places tell where answers stand.
use Rattle.std.proofs.Math.Bool.{and-false}
use Rattle.answer_board.specs.Entries.{answer_at, answer_in}
use Rattle.str_scene.proofs.SamePlaces.{same_place-is}
use Rattle.str_scene.specs.Places.{same_place}
use Rattle.answer_board.specs.Places.{Listed, MayAllFollow, extended, has_index, has_place, is_free, places_of}
use Rattle.answer_board.specs.Slots.{IsListing, Tells, empty_rows, filled, set_nth, slot_at}
use Rattle.answer_board.specs.declared.entries.Entry.{Entry}
use Rattle.answer_board.specs.declared.entries.Entry.TheVariants.{Did, Gave}
use Rattle.answer_board.proofs.Answering.{answer_did, answer_gave, answer_grows, answer_nowhere, follow_snoc, same_place_self}
use Rattle.std.proofs.Common.{Bool, List, None, Option, Some, [], ap, arith, cond, false, length, map, refl, replicate, slice_get, slice_set, subst, suc, sym, true, zero, ℕ, ◌&&◌, ◌++◌, ◌==◌, ◌∙◌, ◌∷◌, ◌≡◌, ◌≢◌, eq-eqb}
use Rattle.std.specs.Prelude.{is_none}
use Rattle.std.proofs.lemmas.Bool.{and_from}
use Rattle.std.proofs.Math.ListN.{length-set}
use Rattle.str_base.proofs.Lists.{get_push, get_pushed, get_set, get_set_other, slice_get_none}
use Rattle.str_model.specs.declared.messages.Answer.{Answer}
use Rattle.str_model.specs.declared.names.Done.{Done}
use Rattle.str_scene.specs.Scenes.{Scene, Session, nth, or_none}
use Rattle.str_scene.specs.declared.names.TxPlace.{TxPlace}
use native.Mathlib.Decide.{ℕ_discrete}

-- what contracts see of a listing
abbrev pub listed : List (List (Option ℕ)) → List Entry → Listed
listed rows items = record { places = map length rows; items = items }

-- ---- the i-th, counted from 1

pub nth_set : {X : Type 0} (xs : List X) (i : ℕ) (x y : X) → nth xs i ≡ Some x → nth (set_nth xs i y) i ≡ Some y
nth_set xs zero x y e = absurd (cc e)
nth_set xs (suc i) x y e = get_set xs i x y e

pub nth_set_other : {X : Type 0} (xs : List X) (i j : ℕ) (y : X) → j ≢ i → nth (set_nth xs i y) j ≡ nth xs j
nth_set_other xs zero j y n = refl
nth_set_other xs (suc i) zero y n = refl
nth_set_other xs (suc i) (suc j) y n = get_set_other xs i j y (λ q. n (ap suc q))

pub length-set_nth : {X : Type 0} (xs : List X) (i : ℕ) (y : X) → length (set_nth xs i y) ≡ length xs
length-set_nth xs zero y = refl
length-set_nth xs (suc i) y = length-set xs i y

map_set : (rows : List (List (Option ℕ))) (i : ℕ) (row new : List (Option ℕ)) → slice_get rows i ≡ Some row → length new ≡ length row → map length (slice_set rows i new) ≡ map length rows
map_set [] i row new e l = refl
map_set (r ∷ rows) zero row new e l = let q : r ≡ row = cc e in ap (λ (n : ℕ). n ∷ map length rows) (l ∙ ap length (sym q))
map_set (r ∷ rows) (suc i) row new e l = ap (λ (ns : List ℕ). length r ∷ ns) (map_set rows i row new e l)

map_set_nth : (rows : List (List (Option ℕ))) (i : ℕ) (row new : List (Option ℕ)) → nth rows i ≡ Some row → length new ≡ length row → map length (set_nth rows i new) ≡ map length rows
map_set_nth rows zero row new e l = refl
map_set_nth rows (suc i) row new e l = map_set rows i row new e l

-- ---- a slot of a row

no_slot : {A : Type 0} (i : ℕ) (v : Option ℕ) → nth (or_none None) i ≡ Some v → A
no_slot zero v e = absurd (cc e)
no_slot (suc i) v e = absurd (cc e)

-- the row of a slot
pub row_there : (o : Option (List (Option ℕ))) (i : ℕ) (v : Option ℕ) → nth (or_none o) i ≡ Some v → o ≡ Some (or_none o)
row_there None i v e = no_slot i v e
row_there (Some row) i v e = refl

-- ---- a slot that is filled

pub filled_here : (rows : List (List (Option ℕ))) (p : TxPlace) (k : ℕ) (v : Option ℕ) → slot_at rows p ≡ Some v → slot_at (filled rows p k) p ≡ Some (Some k)
filled_here rows p k v e =
    let row = or_none (nth rows p.session.0) in
    let there = row_there (nth rows p.session.0) p.index v e in
    let new = set_nth row p.index (Some k) in
    ap (λ (o : Option (List (Option ℕ))). nth (or_none o) p.index) (nth_set rows p.session.0 row new there) ∙ nth_set row p.index v (Some k) e

filled_session : (rows : List (List (Option ℕ))) (p q : TxPlace) (k : ℕ) → q.session.0 ≢ p.session.0 → slot_at (filled rows p k) q ≡ slot_at rows q
filled_session rows p q k n =
    ap (λ (o : Option (List (Option ℕ))). nth (or_none o) q.index) (nth_set_other rows p.session.0 q.session.0 (set_nth (or_none (nth rows p.session.0)) p.index (Some k)) n)

filled_index : (rows : List (List (Option ℕ))) (p q : TxPlace) (k : ℕ) (v : Option ℕ) → slot_at rows p ≡ Some v → q.session.0 ≡ p.session.0 → q.index ≢ p.index → slot_at (filled rows p k) q ≡ slot_at rows q
filled_index rows p q k v e s n =
    let row = or_none (nth rows p.session.0) in
    let there = row_there (nth rows p.session.0) p.index v e in
    let new = set_nth row p.index (Some k) in
    ap (λ (i : ℕ). nth (or_none (nth (filled rows p k) i)) q.index) s
    ∙ (ap (λ (o : Option (List (Option ℕ))). nth (or_none o) q.index) (nth_set rows p.session.0 row new there)
    ∙ (nth_set_other row p.index q.index (Some k) n
    ∙ ap (λ (i : ℕ). nth (or_none (nth rows i)) q.index) (sym s)))

filled_apart : (rows : List (List (Option ℕ))) (p q : TxPlace) (k : ℕ) (v : Option ℕ) → slot_at rows p ≡ Some v → Dec (q.session.0 ≡ p.session.0) → Dec (q.index ≡ p.index) → same_place p q ≡ false → slot_at (filled rows p k) q ≡ slot_at rows q
filled_apart rows p q k v e (no s) d f = filled_session rows p q k s
filled_apart rows p q k v e (yes s) (no i) f = filled_index rows p q k v e s i
filled_apart rows p q k v e (yes s) (yes i) f =
    let one = and_from (p.session.0 == q.session.0) (p.index == q.index) (eq-eqb p.session.0 q.session.0 (sym s)) (eq-eqb p.index q.index (sym i)) in absurd (cc (f, one))

pub filled_other : (rows : List (List (Option ℕ))) (p q : TxPlace) (k : ℕ) (v : Option ℕ) → slot_at rows p ≡ Some v → same_place p q ≡ false → slot_at (filled rows p k) q ≡ slot_at rows q
filled_other rows p q k v e f = filled_apart rows p q k v e (ℕ_discrete q.session.0 p.session.0) (ℕ_discrete q.index p.index) f

pub filled_places : (rows : List (List (Option ℕ))) (p : TxPlace) (k : ℕ) (v : Option ℕ) → slot_at rows p ≡ Some v → map length (filled rows p k) ≡ map length rows
filled_places rows p k v e =
    let row = or_none (nth rows p.session.0) in
    map_set_nth rows p.session.0 row (set_nth row p.index (Some k)) (row_there (nth rows p.session.0) p.index v e) (length-set_nth row p.index (Some k))

-- ---- what a slot tells

tells_did : (items : List Entry) (p : TxPlace) (slot : Option ℕ) (d : Done) → Tells items p slot → Tells (items ++ Did d ∷ []) p slot
tells_did items p None d t = answer_did p items d ∙ t
tells_did items p (Some k) d t = (t.0, get_push items k (Did d) (Gave t.0) t.1, answer_grows p items (items ++ Did d ∷ []) t.0 (Did d ∷ [], refl) t.2)

tells_other : (items : List Entry) (p : TxPlace) (slot : Option ℕ) (a : Answer) → same_place a.place p ≡ false → Tells items p slot → Tells (items ++ Gave a ∷ []) p slot
tells_other items p None a f t = answer_gave p items a t ∙ ap (λ (b : Bool). cond b (Some a) None) f
tells_other items p (Some k) a f t = (t.0, get_push items k (Gave a) (Gave t.0) t.1, answer_grows p items (items ++ Gave a ∷ []) t.0 (Gave a ∷ [], refl) t.2)

tells_here : (items : List Entry) (a : Answer) → answer_at a.place items ≡ None → Tells (items ++ Gave a ∷ []) a.place (Some (length items))
tells_here items a none = (a, get_pushed items (Gave a), answer_gave a.place items a none ∙ ap (λ (b : Bool). cond b (Some a) None) (same_place_self a.place))

-- ---- which places there are

index_there : (row : List (Option ℕ)) (i : ℕ) (v : Option ℕ) → nth row i ≡ Some v → has_index (Some (length row)) i ≡ true
index_there row zero v e = absurd (cc e)
index_there [] (suc i) v e = absurd (cc e)
index_there (x ∷ row) (suc zero) v e = grind arith
index_there (x ∷ row) (suc (suc i)) v e = let h = index_there row (suc i) v e in grind (arith, h)

slice_get-map_length : (rows : List (List (Option ℕ))) (i : ℕ) (row : List (Option ℕ)) → slice_get rows i ≡ Some row → slice_get (map length rows) i ≡ Some (length row)
slice_get-map_length [] i row e = absurd (cc e)
slice_get-map_length (r ∷ rows) zero row e = let q : r ≡ row = cc e in ap (λ (z : List (Option ℕ)). Some (length z)) q
slice_get-map_length (r ∷ rows) (suc i) row e = slice_get-map_length rows i row e

nth-map_length : (rows : List (List (Option ℕ))) (i : ℕ) (row : List (Option ℕ)) → nth rows i ≡ Some row → nth (map length rows) i ≡ Some (length row)
nth-map_length rows zero row e = absurd (cc e)
nth-map_length rows (suc i) row e = slice_get-map_length rows i row e

-- where there is a slot, there is a place
pub slot_place : (rows : List (List (Option ℕ))) (p : TxPlace) (v : Option ℕ) → slot_at rows p ≡ Some v → has_place (map length rows) p ≡ true
slot_place rows p v e =
    let row = or_none (nth rows p.session.0) in
    ap (λ (o : Option ℕ). has_index o p.index) (nth-map_length rows p.session.0 row (row_there (nth rows p.session.0) p.index v e)) ∙ index_there row p.index v e

index_missing : (row : List (Option ℕ)) (i : ℕ) → nth row i ≡ None → has_index (Some (length row)) i ≡ false
index_missing row zero e = refl
index_missing row (suc i) e = let h = slice_get_none row i e in grind (arith, h)

slice_get-map_none : (rows : List (List (Option ℕ))) (i : ℕ) → slice_get rows i ≡ None → slice_get (map length rows) i ≡ None
slice_get-map_none [] i e = refl
slice_get-map_none (r ∷ rows) zero e = absurd (cc e)
slice_get-map_none (r ∷ rows) (suc i) e = slice_get-map_none rows i e

nth-map_none : (rows : List (List (Option ℕ))) (i : ℕ) → nth rows i ≡ None → nth (map length rows) i ≡ None
nth-map_none rows zero e = refl
nth-map_none rows (suc i) e = slice_get-map_none rows i e

missing : (rows : List (List (Option ℕ))) (s i : ℕ) (o : Option (List (Option ℕ))) → nth rows s ≡ o → nth (or_none o) i ≡ None → has_index (nth (map length rows) s) i ≡ false
missing rows s i None e f = ap (λ (n : Option ℕ). has_index n i) (nth-map_none rows s e)
missing rows s i (Some row) e f = ap (λ (n : Option ℕ). has_index n i) (nth-map_length rows s row e) ∙ index_missing row i f

-- where there is none, there is no place
pub slot_missing : (rows : List (List (Option ℕ))) (p : TxPlace) → slot_at rows p ≡ None → has_place (map length rows) p ≡ false
slot_missing rows p e = missing rows p.session.0 p.index (nth rows p.session.0) refl e

-- ---- listings

pub listing_did : (rows : List (List (Option ℕ))) (items : List Entry) (d : Done) → IsListing rows items → IsListing rows (items ++ Did d ∷ [])
listing_did rows items d h = record {
  tells = λ p slot e. tells_did items p slot d (h.tells p slot e);
  placed = follow_snoc (map length rows) [] items (Did d) h.placed tt;
}

filled_tells : (rows : List (List (Option ℕ))) (items : List Entry) (a : Answer) → IsListing rows items → slot_at rows a.place ≡ Some None
    → (q : TxPlace) (slot : Option ℕ) (t : Bool) → same_place a.place q ≡ t → slot_at (filled rows a.place (length items)) q ≡ Some slot → Tells (items ++ Gave a ∷ []) q slot
filled_tells rows items a h free q slot true s e =
    let one : a.place ≡ q = same_place-is a.place q s in
    let here = filled_here rows a.place (length items) None free in
    let e' : slot_at (filled rows a.place (length items)) a.place ≡ Some slot = ap (λ (z : TxPlace). slot_at (filled rows a.place (length items)) z) one ∙ e in
    let is : Some (length items) ≡ slot = cc (here, e') in
    subst (λ (z : TxPlace). Tells (items ++ Gave a ∷ []) z slot) one (subst (λ (o : Option ℕ). Tells (items ++ Gave a ∷ []) a.place o) is (tells_here items a (h.tells a.place None free)))
filled_tells rows items a h free q slot false s e =
    tells_other items q slot a s (h.tells q slot (sym (filled_other rows a.place q (length items) None free s) ∙ e))

pub listing_gave : (rows : List (List (Option ℕ))) (items : List Entry) (a : Answer) → IsListing rows items → slot_at rows a.place ≡ Some None → IsListing (filled rows a.place (length items)) (items ++ Gave a ∷ [])
listing_gave rows items a h free = record {
  tells = λ q slot e. filled_tells rows items a h free q slot (same_place a.place q) refl e;
  placed = subst (λ (n : List ℕ). MayAllFollow n [] (items ++ Gave a ∷ [])) (sym (filled_places rows a.place (length items) None free)) (follow_snoc (map length rows) [] items (Gave a) h.placed (slot_place rows a.place None free, h.tells a.place None free));
}

-- ---- no entry

empty_slot : (ss : List Session) (s i : ℕ) (v : Option ℕ) → nth (or_none (nth (map (λ (x : Session). replicate (length x.txs) None) ss) s)) i ≡ Some v → v ≡ None
empty_slot ss zero i v e = no_slot i v e
empty_slot [] (suc s) i v e = no_slot i v e
empty_slot (x ∷ ss) (suc zero) i v e = in_row (length x.txs) i e
  where
    in_row : (n i : ℕ) → nth (replicate n None) i ≡ Some v → v ≡ None
    in_row n zero e = absurd (cc e)
    in_row zero (suc i) e = absurd (cc e)
    in_row (suc n) (suc zero) e = sym (cc e)
    in_row (suc n) (suc (suc i)) e = in_row n (suc i) e
empty_slot (x ∷ ss) (suc (suc s)) i v e = empty_slot ss (suc s) i v e

length-replicate : (n : ℕ) → length (replicate n (let v : Option ℕ = None in v)) ≡ n
length-replicate zero = refl
length-replicate (suc n) = ap suc (length-replicate n)

rows_lengths : (ss : List Session) → map length (map (λ (x : Session). replicate (length x.txs) (let v : Option ℕ = None in v)) ss) ≡ map (λ (x : Session). length x.txs) ss
rows_lengths [] = refl
rows_lengths (x ∷ ss) = let h = rows_lengths ss in let l = length-replicate (length x.txs) in cc (h, l)

pub empty_places : (scene : Scene) → map length (empty_rows scene) ≡ places_of scene
empty_places scene = rows_lengths scene.sessions

pub empty_listing : (scene : Scene) → IsListing (empty_rows scene) []
empty_listing scene = record {
  tells = λ p slot e. subst (λ (o : Option ℕ). Tells [] p o) (sym (empty_slot scene.sessions p.session.0 p.index slot e)) refl;
  placed = tt;
}

-- ---- finding

found_slot : (rows : List (List (Option ℕ))) (items : List Entry) (p : TxPlace) (k : ℕ) → IsListing rows items → slot_at rows p ≡ Some (Some k) → answer_in (slice_get items k) ≡ answer_at p items
found_slot rows items p k h e = let t = h.tells p (Some k) e in ap answer_in t.1 ∙ sym t.2

pub finds_at : (rows : List (List (Option ℕ))) (items : List Entry) (p : TxPlace) (o : Option (Option ℕ)) (k : ℕ) → IsListing rows items → o ≡ slot_at rows p → o ≡ Some (Some k) → answer_in (slice_get items k) ≡ answer_at p items
finds_at rows items p o k h e s = found_slot rows items p k h (sym e ∙ s)

pub finds_empty : (rows : List (List (Option ℕ))) (items : List Entry) (p : TxPlace) (o : Option (Option ℕ)) → IsListing rows items → o ≡ slot_at rows p → o ≡ Some None → None ≡ answer_at p items
finds_empty rows items p o h e s = sym (h.tells p None (sym e ∙ s))

pub finds_nowhere : (rows : List (List (Option ℕ))) (items : List Entry) (p : TxPlace) (o : Option (Option ℕ)) → IsListing rows items → o ≡ slot_at rows p → o ≡ None → None ≡ answer_at p items
finds_nowhere rows items p o h e s = sym (answer_nowhere (map length rows) p [] items h.placed (slot_missing rows p (sym e ∙ s)))

-- ---- putting

-- an event was put, or there was no memory
pub listing_pushed : (b : Bool) (rows : List (List (Option ℕ))) (old new : List Entry) (d : Done) → new ≡ cond b (old ++ Did d ∷ []) old → IsListing rows old → IsListing rows new
listing_pushed true rows old new d e h = subst (λ (l : List Entry). IsListing rows l) (sym e) (listing_did rows old d h)
listing_pushed false rows old new d e h = subst (λ (l : List Entry). IsListing rows l) (sym e) h

-- an answer was put
pub listing_put : (rows new : List (List (Option ℕ))) (items more : List Entry) (a : Answer) (k : ℕ) → IsListing rows items → slot_at rows a.place ≡ Some None → new ≡ filled rows a.place k → k ≡ length items → more ≡ items ++ Gave a ∷ []
    → IsListing new more
listing_put rows new items more a k h free r n i =
    subst (λ (z : List (List (Option ℕ))). IsListing z more) (sym (r ∙ ap (λ (j : ℕ). filled rows a.place j) n))
    (subst (λ (z : List Entry). IsListing (filled rows a.place (length items)) z) (sym i) (listing_gave rows items a h free))

pub listed_put : (rows new : List (List (Option ℕ))) (items more : List Entry) (a : Answer) (k : ℕ) → slot_at rows a.place ≡ Some None → new ≡ filled rows a.place k → more ≡ items ++ Gave a ∷ []
    → is_free (listed rows items) a.place ≡ true → listed new more ≡ cond (is_free (listed rows items) a.place) (extended (listed rows items) (Gave a)) (listed rows items)
listed_put rows new items more a k free r i t =
    let places : map length new ≡ map length rows = ap (λ (z : List (List (Option ℕ))). map length z) r ∙ filled_places rows a.place k None free in
    let one : listed new more ≡ extended (listed rows items) (Gave a) = λ j. record { places = places j; items = i j } in
    one ∙ ap (λ (b : Bool). cond b (extended (listed rows items) (Gave a)) (listed rows items)) (sym t)

-- ---- free places

and_false_left : (a b : Bool) → a ≡ false → (a && b) ≡ false
and_false_left true b e = absurd (cc e)
and_false_left false b e = refl

pub slot_free : (rows : List (List (Option ℕ))) (items : List Entry) (p : TxPlace) → IsListing rows items → slot_at rows p ≡ Some None → is_free (listed rows items) p ≡ true
slot_free rows items p h e = and_from (has_place (map length rows) p) (is_none (answer_at p items)) (slot_place rows p None e) (ap (λ (o : Option Answer). is_none o) (h.tells p None e))

pub slot_taken : (rows : List (List (Option ℕ))) (items : List Entry) (p : TxPlace) (k : ℕ) → IsListing rows items → slot_at rows p ≡ Some (Some k) → is_free (listed rows items) p ≡ false
slot_taken rows items p k h e = let t = h.tells p (Some k) e in ap (λ b. has_place (map length rows) p && b) (ap (λ (o : Option Answer). is_none o) t.2) ∙ and-false (has_place (map length rows) p)

pub slot_nowhere : (rows : List (List (Option ℕ))) (items : List Entry) (p : TxPlace) → slot_at rows p ≡ None → is_free (listed rows items) p ≡ false
slot_nowhere rows items p e = and_false_left (has_place (map length rows) p) (is_none (answer_at p items)) (slot_missing rows p e)

-- the place of a slot is free where the slot is empty
pub slot_open : (rows : List (List (Option ℕ))) (items : List Entry) (p : TxPlace) (o : Option ℕ) → IsListing rows items → slot_at rows p ≡ Some o → is_none o ≡ is_free (listed rows items) p
slot_open rows items p None h e = sym (slot_free rows items p h e)
slot_open rows items p (Some k) h e = sym (slot_taken rows items p k h e)

free_by : (rows : List (List (Option ℕ))) (items : List Entry) (p : TxPlace) (o : Option (Option ℕ)) → IsListing rows items → slot_at rows p ≡ o → is_free (listed rows items) p ≡ true → slot_at rows p ≡ Some None
free_by rows items p None h e t = let f = slot_nowhere rows items p e in absurd (cc (f, t))
free_by rows items p (Some None) h e t = e
free_by rows items p (Some (Some k)) h e t = let f = slot_taken rows items p k h e in absurd (cc (f, t))

-- a free place has an empty slot
pub free_slot : (rows : List (List (Option ℕ))) (items : List Entry) (p : TxPlace) → IsListing rows items → is_free (listed rows items) p ≡ true → slot_at rows p ≡ Some None
free_slot rows items p h t = free_by rows items p (slot_at rows p) h refl t
