-- Lines that are taken are in their order.
use Rattle.std.proofs.Common.{Bool, List, None, Option, Some, [], ap, cond, false, refl, subst, sym, true, ℕ, ◌++◌, ◌==◌, ◌∙◌, ◌∷◌, ◌≡◌}
use Rattle.std.proofs.lemmas.Option.{none-some, same_Some}
use Rattle.scene_text.proofs.Taking.HeadLines.{mk}
use Rattle.scene_text.proofs.Taking.LinesTaken.{goes_on_from, is_taken}
use Rattle.scene_text.specs.LineOrder.{Place, end_follows, entry_follows, follows, lead, nodes_follow, op_follows, part_follows, place_after, section_follows, tx_follows, version_follows, version_of}
use Rattle.scene_text.specs.LineOrder.Place.{AfterDrain, AfterNodes, AfterOp, AfterPart, AfterSession, AfterTx, AfterVersion, AtStart, InSchedule}
use Rattle.scene_text.specs.Taking.{Limits, State, after, at_start, settle, take_line, take_lines}
use Rattle.scene_text.specs.Taking.Taken.{Now}
use Rattle.scene_text.specs.declared.lines.Line.{Line}
use Rattle.scene_text.specs.declared.lines.Line.TheVariants.{Abort as LAbort, Add as LAdd, Client as LClient, Del as LDel, Deliver as LDeliver, Drain as LDrain, End as LEnd, Get as LGet, Need as LNeed, Nodes as LNodes, Part as LPart, Put as LPut, Puts as LPuts, Schedule as LSchedule, Session as LSession, Tx as LTx, Version as LVersion}
use Rattle.str_scene.specs.Scenes.{Scene}
use Rattle.str_scene.specs.declared.names.Op.{Op}

-- a line stands before this place
abbrev pub began : Place → Bool
began AtStart = false
began _ = true

op_began : (place next : Place) → op_follows place ≡ Some next → began next ≡ true
op_began AfterTx next e = ap began (sym (same_Some _ _ e))
op_began AfterOp next e = ap began (sym (same_Some _ _ e))
op_began _ next e = absurd (none-some _ e)

puts_began : (two : Bool) (place next : Place) → cond two (op_follows place) None ≡ Some next → began next ≡ true
puts_began true place next e = op_began place next e
puts_began false place next e = absurd (none-some _ e)

tx_began : (place next : Place) → tx_follows place ≡ Some next → began next ≡ true
tx_began AfterSession next e = ap began (sym (same_Some _ _ e))
tx_began AfterOp next e = ap began (sym (same_Some _ _ e))
tx_began _ next e = absurd (none-some _ e)

section_began : (m place next : Place) → began m ≡ true → section_follows m place ≡ Some next → began next ≡ true
section_began m AfterPart next b e = ap began (sym (same_Some _ _ e)) ∙ b
section_began m AfterSession next b e = ap began (sym (same_Some _ _ e)) ∙ b
section_began m AfterOp next b e = ap began (sym (same_Some _ _ e)) ∙ b
section_began m _ next b e = absurd (none-some _ e)

part_began : (place next : Place) → part_follows place ≡ Some next → began next ≡ true
part_began AfterNodes next e = ap began (sym (same_Some _ _ e))
part_began AfterPart next e = ap began (sym (same_Some _ _ e))
part_began _ next e = absurd (none-some _ e)

entry_began : (m place next : Place) → began m ≡ true → entry_follows m place ≡ Some next → began next ≡ true
entry_began m InSchedule next b e = ap began (sym (same_Some _ _ e)) ∙ b
entry_began m _ next b e = absurd (none-some _ e)

end_began : (place next : Place) → end_follows place ≡ Some next → began next ≡ true
end_began InSchedule next e = ap began (sym (same_Some _ _ e))
end_began AfterDrain next e = ap began (sym (same_Some _ _ e))
end_began _ next e = absurd (none-some _ e)

nodes_began : (place next : Place) → nodes_follow place ≡ Some next → began next ≡ true
nodes_began AfterVersion next e = ap began (sym (same_Some _ _ e))
nodes_began _ next e = absurd (none-some _ e)

pub no_version : (place next : Place) → version_follows place ≡ Some next → began place ≡ true → ⊥
no_version AtStart next e b = absurd (cc)
no_version _ next e b = absurd (none-some _ e)

-- the draft keeps its version
pub settle_version : (ops : List Op) (d : Scene) → (settle ops d).version ≡ d.version
settle_version [] d = refl
settle_version (o ∷ ops) d = refl

-- after the first line the version stays
pub goes : (place : Place) (d : Scene) (ops : List Op) (l : Line) (next : Place) → follows d.version place l ≡ Some next → began place ≡ true →
    ((after next (mk place d ops) l).draft.version ≡ d.version) × (began next ≡ true)
goes place d ops (LVersion v) next e b = absurd (no_version place next e b)
goes place d ops (LNodes n) next e b = (refl, nodes_began place next e)
goes place d ops (LPart p row) next e b = (refl, part_began place next e)
goes place d ops (LSession n) next e b = (settle_version ops d, section_began AfterSession place next refl e)
goes place d ops LTx next e b = (settle_version ops d, tx_began place next e)
goes place d ops (LGet name p) next e b = (refl, op_began place next e)
goes place d ops (LPut name p n) next e b = (refl, op_began place next e)
goes place d ops (LPuts name p bytes) next e b = (refl, puts_began (d.version == 2) place next e)
goes place d ops (LAdd name p n) next e b = (refl, op_began place next e)
goes place d ops (LDel name p) next e b = (refl, op_began place next e)
goes place d ops (LNeed name p n) next e b = (refl, op_began place next e)
goes place d ops LAbort next e b = (refl, op_began place next e)
goes place d ops LSchedule next e b = (settle_version ops d, section_began InSchedule place next refl e)
goes place d ops (LClient s t) next e b = (refl, entry_began InSchedule place next refl e)
goes place d ops (LDeliver i) next e b = (refl, entry_began InSchedule place next refl e)
goes place d ops LDrain next e b = (refl, entry_began AfterDrain place next refl e)
goes place d ops LEnd next e b = (refl, end_began place next e)

-- where lines lead
pub record LeadsTo (version : ℕ) (place : Place) (ls : List Line) (t : State) : Type 0 where
  pub version_is : t.draft.version ≡ version
  pub place_is : lead version (Some place) ls ≡ Some t.place

-- the state after a line has the next place
pub after_place : (next : Place) (s : State) (l : Line) → (after next s l).place ≡ next
after_place next s (LVersion v) = refl
after_place next s (LNodes n) = refl
after_place next s (LPart p row) = refl
after_place next s (LSession n) = refl
after_place next s LTx = refl
after_place next s (LGet name p) = refl
after_place next s (LPut name p n) = refl
after_place next s (LPuts name p bytes) = refl
after_place next s (LAdd name p n) = refl
after_place next s (LDel name p) = refl
after_place next s (LNeed name p n) = refl
after_place next s LAbort = refl
after_place next s LSchedule = refl
after_place next s (LClient c t) = refl
after_place next s (LDeliver i) = refl
after_place next s LDrain = refl
after_place next s LEnd = refl

-- after the first line
pub lead_on : (limits : Limits) (ls : List Line) (s t : State) (version : ℕ) → s.draft.version ≡ version → began s.place ≡ true → take_lines limits s ls ≡ Now t →
    LeadsTo version s.place ls t
lead_on limits [] s t version v b e =
    let same : s ≡ t = cc in
    record { version_is = ap (λ x. x.draft.version) (sym same) ∙ v; place_is = ap (λ x. Some x.place) same }
lead_on limits (l ∷ ls) s t version v b e =
    let r = goes_on_from (λ x. take_lines limits x ls) (take_line limits s l) t e in
    let m : State = r.0 in
    let k = is_taken limits s l m r.1 in
    let g = goes s.place s.draft s.ops l k.next k.order b in
    let version_m : m.draft.version ≡ version = ap (λ x. x.draft.version) (sym k.state) ∙ (g.0 ∙ v) in
    let place_m : m.place ≡ k.next = ap (λ x. x.place) (sym k.state) ∙ after_place k.next s l in
    let order : follows version s.place l ≡ Some m.place = ap (λ n. follows n s.place l) (sym v) ∙ (k.order ∙ ap Some (sym place_m)) in
    let rest = lead_on limits ls m t version version_m (ap began place_m ∙ g.1) r.2 in
    record { version_is = rest.version_is; place_is = ap (λ o. lead version o ls) order ∙ rest.place_is }

-- the first line is the version's
first_version : (limits : Limits) (l : Line) (t : State) → take_line limits at_start l ≡ Now t → (v : ℕ) × (l ≡ LVersion v) × (t.draft.version ≡ v) × (t.place ≡ AfterVersion)
first_version limits (LVersion v) t e =
    let same : mk AfterVersion (record { version = v; nodes = 0; parts = []; keys = record { names = []; texts = [] }; sessions = []; schedule = []; drain = false }) [] ≡ t = cc in
    (v, refl, ap (λ x. x.draft.version) (sym same), ap (λ x. x.place) (sym same))
first_version limits _ t e = absurd (cc)

-- lines that are taken are in their order, of the draft's version
taken_leads : (limits : Limits) (l : Line) (ls : List Line) (t : State) → take_lines limits at_start (l ∷ ls) ≡ Now t → LeadsTo (version_of (l ∷ ls)) AtStart (l ∷ ls) t
taken_leads limits l ls t e =
    let r = goes_on_from (λ x. take_lines limits x ls) (take_line limits at_start l) t e in
    let m : State = r.0 in
    let f = first_version limits l m r.1 in
    let rest = lead_on limits ls m t f.0 f.2 (ap began f.3) r.2 in
    let place_is : lead f.0 (Some AfterVersion) ls ≡ Some t.place = ap (λ p. lead f.0 (Some p) ls) (sym f.3) ∙ rest.place_is in
    subst (λ x. LeadsTo (version_of (x ∷ ls)) AtStart (x ∷ ls) t) (sym f.1) (record { version_is = rest.version_is; place_is = place_is })

-- from a place by lines and then one more
pub lead-append : (version : ℕ) (ls : List Line) (l : Line) (o : Option Place) → lead version o (ls ++ l ∷ []) ≡ lead version (lead version o ls) (l ∷ [])
lead-append version [] l None = refl
lead-append version [] l (Some p) = refl
lead-append version (k ∷ ls) l None = refl
lead-append version (k ∷ ls) l (Some p) = lead-append version ls l (follows version p k)

-- where one line leads
lead_one : (version : ℕ) (o : Option Place) → lead version o [] ≡ o
lead_one version None = refl
lead_one version (Some p) = refl

-- the line at the start
first_place : (l : Line) → follows (version_of (l ∷ [])) AtStart l ≡ follows 0 AtStart l
first_place (LVersion v) = refl
first_place _ = refl

-- after lines that are taken, one more leads where it may stand
pub place_next : (limits : Limits) (ls : List Line) (l : Line) (t : State) → take_lines limits at_start ls ≡ Now t → place_after (ls ++ l ∷ []) ≡ follows t.draft.version t.place l
place_next limits [] l t e =
    let same : at_start ≡ t = cc in
    lead_one (version_of (l ∷ [])) (follows (version_of (l ∷ [])) AtStart l) ∙ (first_place l ∙ ap (λ x. follows x.draft.version x.place l) same)
place_next limits (k ∷ ls) l t e =
    let r = taken_leads limits k ls t e in
    let v : ℕ = version_of (k ∷ ls) in
    version_stays k ls l
    ∙ (lead-append v (k ∷ ls) l (Some AtStart)
    ∙ (ap (λ o. lead v o (l ∷ [])) r.place_is
    ∙ (lead_one v (follows v t.place l) ∙ ap (λ n. follows n t.place l) (sym r.version_is))))
  where
    version_stays : (k : Line) (ls : List Line) (l : Line) → place_after (k ∷ ls ++ l ∷ []) ≡ lead (version_of (k ∷ ls)) (Some AtStart) (k ∷ ls ++ l ∷ [])
    version_stays (LVersion v) ls l = refl
    version_stays _ ls l = refl
