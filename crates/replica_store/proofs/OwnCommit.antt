-- The commit of an own transaction in the store is its commit in one partition after the other.
use Rattle.std.proofs.Common.{Bool, List, [], ap, false, filter, inl, inr, map, not, refl, subst, sym, true, ℕ, ◌&&◌, ◌∙◌, ◌∷◌, ◌≡◌, ◌||◌}
use Rattle.std.specs.List.{list_any}
use Rattle.str_base.specs.declared.names.PartId.{PartId}
use Rattle.str_base.specs.declared.names.TxId.{TxId}
use Rattle.str_base.specs.declared.names.Version.{Version}
use Rattle.str_base.specs.Versions.{finalise, insert_all, of_pair, of_tx, same_part, settled, without}
use Rattle.str_model.specs.Acts.{decided_versions, is_hosted_of}
use Rattle.str_scene.specs.Scenes.{Here, hosts}
use Rattle.str_model.proofs.Changes.PairWords.{keep_without}
use Rattle.version_chain.specs.ChainLists.{IsOrdered}
use Rattle.version_chain.proofs.Keeping.{ordered_finalise}
use Rattle.version_chain.proofs.Telling.{ordered_tells}
use Rattle.std.proofs.lemmas.Bool.{not-true}
use Rattle.str_base.proofs.Members.{filter_in, in_all_new, in_all_old, in_filter, in_insert_all, in_map, map_in}
use Rattle.str_base.specs.Members.{In}

-- ---- members after a commit

-- it was decided now, or it stays
pub data Settled (test : Version → Bool) (fc : ℕ) (vs : List Version) (u : Version) : Type 0 where
  s_new : (q : Version) → In q vs → test q ≡ true → settled fc q ≡ u → Settled test fc vs u
  s_old : In u vs → test u ≡ false → Settled test fc vs u

pub finalise-in : (test : Version → Bool) (fc : ℕ) (vs : List Version) (u : Version) → In u (finalise test fc vs) → Settled test fc vs u
finalise-in test fc vs u h =
    elim (in_insert_all (map (settled fc) (filter test vs)) (without test vs) u h) [
      | inl j ↦ (let r = in_map (settled fc) (filter test vs) u j in let f = in_filter test vs r.0 r.1 in s_new r.0 f.0 f.1 r.2)
      | inr j ↦ (let f = in_filter (λ v. not (test v)) vs u j in s_old f.0 (not-true (test u) f.1))
    ]

pub in-finalise : (test : Version → Bool) (fc : ℕ) (vs : List Version) (u : Version) → Settled test fc vs u → In u (finalise test fc vs)
in-finalise test fc vs u (s_new q h t e) =
    subst (λ z. In z (finalise test fc vs)) e (in_all_new (map (settled fc) (filter test vs)) (without test vs) (settled fc q) (map_in (settled fc) (filter test vs) q (filter_in test vs q h t)))
in-finalise test fc vs u (s_old h f) = in_all_old (map (settled fc) (filter test vs)) (without test vs) u (keep_without test vs u h f)

-- ---- one partition after the other

-- the commit of the transaction in each of these partitions
abbrev pub finalise_each : TxId → ℕ → List PartId → List Version → List Version
finalise_each tx fc [] vs = vs
finalise_each tx fc (p ∷ ps) vs = finalise_each tx fc ps (finalise (of_pair tx p) fc vs)

-- the version is of the transaction in one of these partitions
abbrev pub of_parts : TxId → List PartId → Version → Bool
of_parts tx ps v = of_tx tx v && list_any (λ p. same_part v.part p) ps

each-ordered : (tx : TxId) (fc : ℕ) (ps : List PartId) (vs : List Version) → IsOrdered vs → IsOrdered (finalise_each tx fc ps vs)
each-ordered tx fc [] vs o = o
each-ordered tx fc (p ∷ ps) vs o = each-ordered tx fc ps (finalise (of_pair tx p) fc vs) (ordered_finalise (of_pair tx p) fc vs o)

or_no : (a b c : Bool) → (a && b) ≡ false → (a && c) ≡ false → (a && (b || c)) ≡ false
or_no true b c e f = rw (e, f) refl
or_no false b c e f = refl

or_left : (a b c : Bool) → (a && (b || c)) ≡ false → (a && b) ≡ false
or_left true true c e = absurd (cc e)
or_left true false c e = refl
or_left false b c e = refl

or_right : (a b c : Bool) → (a && (b || c)) ≡ false → (a && c) ≡ false
or_right true true c e = absurd (cc e)
or_right true false c e = e
or_right false b c e = refl

-- all at once
each-once : (tx : TxId) (fc : ℕ) (ps : List PartId) (vs : List Version) → IsOrdered vs → finalise_each tx fc ps vs ≡ finalise (of_parts tx ps) fc vs
each-once tx fc [] vs o =
    ordered_tells vs (finalise (of_parts tx []) fc vs) o (ordered_finalise (of_parts tx []) fc vs o)
    (λ u h. in-finalise (of_parts tx []) fc vs u (s_old h (none (of_tx tx u)))) (λ u h. back u (finalise-in (of_parts tx []) fc vs u h))
  where
    none : (a : Bool) → (a && false) ≡ false
    none true = refl
    none false = refl

    back : (u : Version) → Settled (of_parts tx []) fc vs u → In u vs
    back u (s_new q h t e) = absurd (cc (none (of_tx tx q), t))
    back u (s_old h f) = h
each-once tx fc (p ∷ ps) vs o =
    each-once tx fc ps (finalise (of_pair tx p) fc vs) (ordered_finalise (of_pair tx p) fc vs o)
    ∙ ordered_tells (finalise (of_parts tx ps) fc (finalise (of_pair tx p) fc vs)) (finalise (of_parts tx (p ∷ ps)) fc vs)
    (ordered_finalise (of_parts tx ps) fc (finalise (of_pair tx p) fc vs) (ordered_finalise (of_pair tx p) fc vs o)) (ordered_finalise (of_parts tx (p ∷ ps)) fc vs o)
    (λ u h. in-finalise (of_parts tx (p ∷ ps)) fc vs u (there u (finalise-in (of_parts tx ps) fc (finalise (of_pair tx p) fc vs) u h)))
    (λ u h. in-finalise (of_parts tx ps) fc (finalise (of_pair tx p) fc vs) u (here_ u (finalise-in (of_parts tx (p ∷ ps)) fc vs u h)))
  where
    first-of : (q : Version) → of_pair tx p q ≡ true → of_parts tx (p ∷ ps) q ≡ true
    first-of q t = yes (of_tx tx q) (same_part q.part p) (list_any (λ z. same_part q.part z) ps) t
      where
        yes : (a b c : Bool) → (a && b) ≡ true → (a && (b || c)) ≡ true
        yes true true c e = refl
        yes true false c e = absurd (cc e)
        yes false b c e = absurd cc

    rest-of : (q : Version) → of_parts tx ps q ≡ true → of_parts tx (p ∷ ps) q ≡ true
    rest-of q t = yes (of_tx tx q) (same_part q.part p) (list_any (λ z. same_part q.part z) ps) t
      where
        yes : (a b c : Bool) → (a && c) ≡ true → (a && (b || c)) ≡ true
        yes true true c e = refl
        yes true false c e = e
        yes false b c e = absurd cc

    there : (u : Version) → Settled (of_parts tx ps) fc (finalise (of_pair tx p) fc vs) u → Settled (of_parts tx (p ∷ ps)) fc vs u
    there u (s_new q h t e) = by_first (finalise-in (of_pair tx p) fc vs q h)
      where
        by_first : Settled (of_pair tx p) fc vs q → Settled (of_parts tx (p ∷ ps)) fc vs u
        by_first (s_new r k s f) = s_new r k (first-of r s) (ap (settled fc) f ∙ e)
        by_first (s_old k s) = s_new q k (rest-of q t) e
    there u (s_old h f) = by_first (finalise-in (of_pair tx p) fc vs u h)
      where
        by_first : Settled (of_pair tx p) fc vs u → Settled (of_parts tx (p ∷ ps)) fc vs u
        by_first (s_new r k s g) = s_new r k (first-of r s) g
        by_first (s_old k s) = s_old k (or_no (of_tx tx u) (same_part u.part p) (list_any (λ z. same_part u.part z) ps) s f)

    here_ : (u : Version) → Settled (of_parts tx (p ∷ ps)) fc vs u → Settled (of_parts tx ps) fc (finalise (of_pair tx p) fc vs) u
    here_ u (s_old h f) =
        s_old (in-finalise (of_pair tx p) fc vs u (s_old h (or_left (of_tx tx u) (same_part u.part p) (list_any (λ z. same_part u.part z) ps) f)))
        (or_right (of_tx tx u) (same_part u.part p) (list_any (λ z. same_part u.part z) ps) f)
    here_ u (s_new q h t e) = by_first (of_pair tx p q) refl (of_parts tx ps q) refl
      where
        by_first : (a : Bool) → of_pair tx p q ≡ a → (b : Bool) → of_parts tx ps q ≡ b → Settled (of_parts tx ps) fc (finalise (of_pair tx p) fc vs) u
        by_first true s true r = s_new (settled fc q) (in-finalise (of_pair tx p) fc vs (settled fc q) (s_new q h s refl)) r e
        by_first true s false r = s_old (in-finalise (of_pair tx p) fc vs u (s_new q h s e)) (subst (λ z. of_parts tx ps z ≡ false) e r)
        by_first false s true r = s_new q (in-finalise (of_pair tx p) fc vs q (s_old h s)) r e
        by_first false s false r = absurd (cc (t, or_no (of_tx tx q) (same_part q.part p) (list_any (λ z. same_part q.part z) ps) s r))

-- ---- the commit of an own transaction

-- where its versions of the store lie in these partitions, all of which the node has
pub decided_each : (here : Here) (tx : TxId) (fc : ℕ) (ps : List PartId) (store : List Version) → IsOrdered store
    → ((u : Version) → In u store → of_tx tx u ≡ true → list_any (λ p. same_part u.part p) ps ≡ true) → ((u : Version) → In u store → hosts here.scene here.node u.part ≡ true)
    → decided_versions here tx fc store ≡ finalise_each tx fc ps store
decided_each here tx fc ps store o f g =
    ap (λ vs. insert_all (map (settled fc) vs) (without (of_tx tx) store)) (alike (is_hosted_of here tx) (of_tx tx) store (λ u h. and_true (of_tx tx u) (hosts here.scene here.node u.part) (g u h)))
    ∙ (ordered_tells (finalise (of_tx tx) fc store) (finalise (of_parts tx ps) fc store) (ordered_finalise (of_tx tx) fc store o) (ordered_finalise (of_parts tx ps) fc store o)
    (λ u h. in-finalise (of_parts tx ps) fc store u (to u (finalise-in (of_tx tx) fc store u h))) (λ u h. in-finalise (of_tx tx) fc store u (from u (finalise-in (of_parts tx ps) fc store u h)))
    ∙ sym (each-once tx fc ps store o))
  where
    and_true : (a b : Bool) → b ≡ true → (a && b) ≡ a
    and_true true b e = e
    and_true false b e = refl

    alike : (p q : Version → Bool) (vs : List Version) → ((u : Version) → In u vs → p u ≡ q u) → filter p vs ≡ filter q vs
    alike p q [] h = refl
    alike p q (v ∷ vs) h = rw (h v (inl refl), alike p q vs (λ u k. h u (inr k))) refl

    same : (u : Version) → In u store → of_parts tx ps u ≡ of_tx tx u
    same u h = by_tx (of_tx tx u) refl
      where
        by_tx : (a : Bool) → of_tx tx u ≡ a → (a && list_any (λ p. same_part u.part p) ps) ≡ a
        by_tx true e = f u h e
        by_tx false e = refl

    to : (u : Version) → Settled (of_tx tx) fc store u → Settled (of_parts tx ps) fc store u
    to u (s_new q h t e) = s_new q h (same q h ∙ t) e
    to u (s_old h t) = s_old h (same u h ∙ t)

    from : (u : Version) → Settled (of_parts tx ps) fc store u → Settled (of_tx tx) fc store u
    from u (s_new q h t e) = s_new q h (sym (same q h) ∙ t) e
    from u (s_old h t) = s_old h (sym (same u h) ∙ t)
