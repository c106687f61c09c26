-- Room in one backlog after another.
use Rattle.std.proofs.Common.{◌≡◌, ℕ, ◌+◌, ◌<◌, ◌≤◌, List, [], ◌∷◌, length, take, slice_index_or, slice_set, sym, subst, ◌∙◌, inl, inr, length-set, get_or-set_same, get_or-set_other}
use Rattle.std.proofs.lemmas.Bool.{cases_eq}
use Rattle.std.proofs.lemmas.List.{get_or_default, take_more_set, take_all}
use Rattle.std.proofs.lemmas.List.Elements.{All-append, All-cons, All-nil}
use Rattle.ring_links.specs.declared.link.Link.{Link}
use Rattle.ring_links.specs.Links.{spare, Stays}
use Rattle.ring_links.specs.Ends.{AllStay, AllHaveRoom}
use Rattle.ring_links.proofs.Meeting.{stays_on}

module _ (xs ys : List Link) (k : ℕ) (x y : Link) (lt : k < length ys) where
  pub one_stays : AllStay xs ys → x ≡ slice_index_or ys k x → Stays x y → AllStay xs (slice_set ys k y)
  one_stays h is s = record { width = length-set ys k y ∙ h.width; each = each }
    where
      at_place : (d : Link) → k < length xs → Stays (slice_index_or xs k d) (slice_index_or (slice_set ys k y) k d)
      at_place d less =
          let was : x ≡ slice_index_or ys k d = is ∙ get_or_default ys k x d lt in
          let old : Stays (slice_index_or xs k d) x = subst (λ (z : Link). Stays (slice_index_or xs k d) z) (sym was) (h.each k d less) in
          subst (λ (z : Link). Stays (slice_index_or xs k d) z) (sym (get_or-set_same ys k y d lt)) (stays_on (slice_index_or xs k d) x y old s)

      each : (i : ℕ) (d : Link) → i < length xs → Stays (slice_index_or xs i d) (slice_index_or (slice_set ys k y) i d)
      each i d less = elim (cases_eq i k) [
        | inl same ↦ subst (λ (j : ℕ). Stays (slice_index_or xs j d) (slice_index_or (slice_set ys k y) j d)) (sym same)
            (at_place d (subst (λ (j : ℕ). j < length xs) same less))
        | inr other ↦ subst (λ (z : Link). Stays (slice_index_or xs i d) z) (sym (get_or-set_other ys k i y d other)) (h.each i d less)
      ]

  pub one_has_room : (n : ℕ) → AllHaveRoom (take k ys) n → n ≤ spare y → AllHaveRoom (take (k + 1) (slice_set ys k y)) n
  one_has_room n h r =
      subst (λ (ls : List Link). AllHaveRoom ls n) (sym (take_more_set ys k y lt))
      (All-append (λ (l : Link). n ≤ spare l) (take k ys) (y ∷ []) h (All-cons (λ (l : Link). n ≤ spare l) y [] r (All-nil (λ (l : Link). n ≤ spare l))))

pub all_have_room : (ys : List Link) (k n : ℕ) → length ys ≤ k → AllHaveRoom (take k ys) n → AllHaveRoom ys n
all_have_room ys k n le h = subst (λ (ls : List Link). AllHaveRoom ls n) (take_all k ys le) h
