-- What the closing of a drained cluster tells.
use Rattle.answer_board.specs.Entries.{answers_of, dones_of}
use Rattle.answer_board.specs.declared.entries.Entry.{Entry}
use Rattle.cluster_run.specs.Clusters.{IsRun}
use Rattle.cluster_run.specs.Printing.{counted}
use Rattle.cluster_run.specs.declared.lines.Counts.{Counts}
use Rattle.door.proofs.Entries.{answers_entries, dones_entries, run_counts}
use Rattle.door.proofs.PlacesFilledOnce.{run_stands}
use Rattle.door.specs.Acting.{AllStand}
use Rattle.door.specs.Closings.{IsClosing}
use Rattle.door.specs.Following.{run_entries}
use Rattle.spsi_laws.specs.Laws.Ends.{Ended}
use Rattle.std.proofs.Common.{List, ap, not, subst, sym, ◌∙◌, ◌≡◌}
use Rattle.std.specs.List.{count_by}
use Rattle.str_model.specs.Lines.{Counts as Numbers, counts, is_commit}
use Rattle.str_model.specs.Runs.{World}
use Rattle.str_model.specs.declared.messages.Answer.{Answer}
use Rattle.str_model.specs.declared.names.Done.{Done}
use Rattle.str_scene.specs.SceneLimits.{IsScene}
use Rattle.str_scene.specs.Scenes.{Scene}

-- the journal, the answers and the numbers of a cluster at its end are those of the list of its entries
pub closing_is : (scene : Scene) (w : World) (journal : List Done) (answers : List Answer) (numbers : Counts) (list : List Entry) → IsScene scene → IsRun scene w → Ended scene w
    → journal ≡ w.journal → answers ≡ w.answers → counted numbers ≡ counts scene w → list ≡ run_entries w → IsClosing journal answers numbers list
closing_is scene w journal answers numbers list ok r ended j a n l =
    let all = run_counts scene w r in
    record {
      entered = ap dones_of l ∙ (dones_entries w.journal w.answers ∙ sym j);
      released = ap answers_of l ∙ (answers_entries w.journal w.answers all ∙ sym a);
      stand = subst (λ (es : List Entry). AllStand es answers) (sym l) (subst (λ (rs : List Answer). AllStand (run_entries w) rs) (sym a) (run_stands scene w ok r all));
      commits = ap (λ (k : Numbers). k.commits) n ∙ ap (count_by (λ (x : Answer). is_commit x.outcome)) (sym a);
      aborts = ap (λ (k : Numbers). k.aborts) n ∙ ap (count_by (λ (x : Answer). not (is_commit x.outcome))) (sym a);
      held = ap (λ (k : Numbers). k.held) n ∙ ended.closed.held;
      unbegun = ap (λ (k : Numbers). k.unbegun) n ∙ ended.closed.unbegun;
    }
