-- What a view that shows the store becomes by a commit and by an abort.
use Rattle.std.proofs.Common.{List, [], ap, sym, ℕ, ◌++◌, ◌∙◌, ◌∷◌, ◌≡◌}
use Rattle.replica_apply.specs.Changes.{Rests, with_parts}
use Rattle.replica_store.proofs.MergedChanges.{finalise_in_store, none_out, without_merged}
use Rattle.str_base.specs.declared.names.PartId.{PartId}
use Rattle.str_base.specs.declared.names.TxId.{TxId}
use Rattle.str_base.specs.declared.names.Version.{Version}
use Rattle.str_base.specs.Versions.{finalise, of_pair, without}
use Rattle.str_model.specs.declared.messages.Waiter.{Waiter}
use Rattle.str_model.specs.declared.names.KeyMark.{KeyMark}
use Rattle.str_model.specs.Acts.{abort_came, commit_came, raise_all}
use Rattle.str_model.specs.Steps.{drop_held}
use Rattle.str_model.specs.Views.{Doing}
use Rattle.version_chain.specs.ChainLists.{IsOrdered, merged}

module _ (tx : TxId) (part : PartId) (d : Doing) (vs : List Version) (r : Rests tx part d.view vs) (o : IsOrdered vs) (done new_done : List (TxId × PartId))
    (e : d.view.done ≡ done) (n : new_done ≡ done ++ (tx, part) ∷ []) where
  -- the pairs
  pairs_so : d.view.done ++ (tx, part) ∷ [] ≡ new_done
  pairs_so = ap (λ ds. ds ++ (tx, part) ∷ []) e ∙ sym n

  -- a commit
  pub commit_shown : (fc : ℕ) (ms : List KeyMark) (us : List Version) (marks new_marks : List ℕ) → us ≡ finalise (of_pair tx part) fc vs → d.view.marks ≡ marks → new_marks ≡ raise_all ms marks
      → (commit_came tx part fc ms d).view ≡ with_parts (d.view) (merged r.cache us) new_marks d.view.waiters new_done
  unfolding commit_came
  commit_shown fc ms us marks new_marks v m k =
      ap (λ xs. with_parts (d.view) xs (raise_all ms d.view.marks) d.view.waiters (d.view.done ++ (tx, part) ∷ []))
      (ap (λ xs. finalise (of_pair tx part) fc xs) r.versions ∙ finalise_in_store (of_pair tx part) fc r.cache vs r.ordered o r.apart r.other ∙ ap (λ xs. merged r.cache xs) (sym v))
      ∙ ap (λ xs. with_parts (d.view) (merged r.cache us) xs d.view.waiters (d.view.done ++ (tx, part) ∷ [])) (ap (λ xs. raise_all ms xs) m ∙ sym k)
      ∙ ap (λ xs. with_parts (d.view) (merged r.cache us) new_marks d.view.waiters xs) pairs_so

  -- an abort
  pub abort_shown : (us : List Version) (ws new_ws : List Waiter) → us ≡ without (of_pair tx part) vs → d.view.waiters ≡ ws → new_ws ≡ drop_held tx part ws
      → (abort_came tx part (drop_held tx part d.view.waiters) d).view ≡ with_parts (d.view) (merged r.cache us) d.view.marks new_ws new_done
  unfolding abort_came
  abort_shown us ws new_ws v w k =
      ap (λ xs. with_parts (d.view) xs d.view.marks (drop_held tx part d.view.waiters) (d.view.done ++ (tx, part) ∷ []))
      (ap (λ xs. without (of_pair tx part) xs) r.versions ∙ without_merged (of_pair tx part) r.cache vs r.ordered o r.apart
      ∙ ap (λ xs. merged xs (without (of_pair tx part) vs)) (none_out (of_pair tx part) r.cache r.other) ∙ ap (λ xs. merged r.cache xs) (sym v))
      ∙ ap (λ xs. with_parts (d.view) (merged r.cache us) d.view.marks xs (d.view.done ++ (tx, part) ∷ [])) (ap (λ xs. drop_held tx part xs) w ∙ sym k)
      ∙ ap (λ xs. with_parts (d.view) (merged r.cache us) d.view.marks new_ws xs) pairs_so
