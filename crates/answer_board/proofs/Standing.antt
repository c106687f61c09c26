-- How a writer's history stands to what is shown and what is held.
use Rattle.std.proofs.Common.{◌≡◌, ℕ, List, [], ◌∷◌, ◌++◌, Option, Some, refl, subst, sym, ◌∙◌, ap, append_assoc, append-nil, fold, Result, Ok, Err, MatchResult, OnOk, OnErr}
use mathlib.Core.List.{IsPrefix}
use Rattle.crossbeam_utils.specs.Register.{TurnsAt}
use Rattle.answer_board.specs.declared.entries.Entry.{Entry}
use Rattle.answer_board.specs.declared.shelf.Shelf.{Shelf}
use Rattle.answer_board.specs.declared.shelf.Change.{Change}
use Rattle.answer_board.specs.declared.shelf.Change.TheVariants.{Put, Mark}
use Rattle.answer_board.specs.Changes.{changed, puts, marked}
use Rattle.answer_board.specs.History.{front_of, Rises}
use Rattle.answer_board.specs.Views.{FrontView}
use Rattle.answer_board.specs.Places.{Listed, MayAllFollow, MayFollow, extended}
use Rattle.answer_board.specs.Rule.{Keeps, Enters, Ready, ShowsAll, Stands}
use Rattle.answer_board.proofs.Answering.{follow_snoc, put_follows}
use Rattle.answer_board.proofs.Rising.{prefix_self, prefix_trans, front_snoc}
use Rattle.answer_board.proofs.Keeping.{turns}

pub puts_append : (p q : List Change) → puts (p ++ q) ≡ puts p ++ puts q
puts_append [] q = refl
puts_append (Put e ∷ p) q = ap (λ (xs : List Entry). e ∷ xs) (puts_append p q)
puts_append (Mark f ∷ p) q = puts_append p q

pub marked_snoc : (f g : FrontView) (p : List Change) → marked f (p ++ Mark g ∷ []) ≡ g
marked_snoc f g [] = refl
marked_snoc f g (Put e ∷ p) = marked_snoc f g p
marked_snoc f g (Mark h ∷ p) = marked_snoc h g p

-- entries that may follow are put one after the other
pub fold_changed : (l : Listed) (f : FrontView) (p : List Change) → MayAllFollow l.places l.items (puts p) → fold changed (l, f) p ≡ (record l { items = l.items ++ puts p }, marked f p)
fold_changed l f [] m = ap (λ (ys : List Entry). (record l { items = ys }, f)) (sym (append-nil l.items))
fold_changed l f (Put e ∷ p) m =
    ap (λ (x : Listed). fold changed (x, f) p) (put_follows l e m.0)
    ∙ (fold_changed (extended l e) f p m.1 ∙ ap (λ (ys : List Entry). (record l { items = ys }, marked f p)) (append_assoc l.items (e ∷ []) (puts p)))
fold_changed l f (Mark g ∷ p) m = fold_changed l g p m

-- the two parts of what is published
pub published : (x y : Shelf) (p : List Change) → MayAllFollow x.entries.places x.entries.items (puts p) → (y.entries, y.front) ≡ fold changed (x.entries, x.front) p
    → (y.entries ≡ record x.entries { items = x.entries.items ++ puts p }) × (y.front ≡ marked x.front p)
published x y p m e = let all = e ∙ fold_changed x.entries x.front p m in (ap (λ (t : Listed × FrontView). t.0) all, ap (λ (t : Listed × FrontView). t.1) all)

pub ready_turns : (seat : ℕ) (v : Option FrontView) (x y : Shelf) (p : List Change) → Ready x (puts p) (marked x.front p) → (y.entries, y.front) ≡ fold changed (x.entries, x.front) p → TurnsAt Keeps seat v x y Enters
ready_turns seat v x y p r e =
    let two = published x y p r.follow e in
    let r' : Ready x (puts p) y.front = subst (λ (f : FrontView). Ready x (puts p) f) (sym two.1) r in
    turns seat v x y r'.book r'.past (ap (λ (l : Listed). l.items) two.0 ∙ sym r'.list) r'.rises

-- what a publication that went well has shown, and what it has left
pub shown_all : {A E : Type 0} (r : Result A E) (x y : Shelf) (p q : List Change) (E1 : E → Type 0) → MayAllFollow x.entries.places x.entries.items (puts p)
    → MatchResult r (λ _. ((y.entries, y.front) ≡ fold changed (x.entries, x.front) p) × (q ≡ [])) E1
    → OnOk r (ShowsAll x p y)
shown_all (Ok u) x y p q E1 m a =
    let two = published x y p m a.0 in record {
      places = ap (λ (l : Listed). l.places) two.0;
      list = ap (λ (l : Listed). l.items) two.0;
      front = two.1;
    }
shown_all (Err e) x y p q E1 m a = tt

-- the parts of what one is told where all went well, and where it was refused
pub ok_second : {A E : Type 0} (P Q : Type 0) (r : Result A E) (E1 : E → Type 0) → MatchResult r (λ _. P × Q) E1 → OnOk r Q
ok_second P Q (Ok u) E1 a = a.1
ok_second P Q (Err e) E1 a = tt

pub ok_knows : {A E : Type 0} (r : Result A E) (x y : Shelf) (v w : Option FrontView) (E1 : E → Type 0) → MatchResult r (λ _. Enters v x y w) E1 → OnOk r (w ≡ Some y.front)
ok_knows (Ok u) x y v w E1 b = b.knows
ok_knows (Err e) x y v w E1 b = tt

pub err_first : {A E : Type 0} (P Q : Type 0) (r : Result A E) (O1 : A → Type 0) → MatchResult r O1 (λ _. P × Q) → OnErr r P
err_first P Q (Ok u) O1 a = tt
err_first P Q (Err e) O1 a = a.0

pub err_second : {A E : Type 0} (P Q : Type 0) (r : Result A E) (O1 : A → Type 0) → MatchResult r O1 (λ _. P × Q) → OnErr r Q
err_second P Q (Ok u) O1 a = tt
err_second P Q (Err e) O1 a = a.1

pub err_only : {A E : Type 0} (P : Type 0) (r : Result A E) (O1 : A → Type 0) → MatchResult r O1 (λ _. P) → OnErr r P
err_only P (Ok u) O1 a = tt
err_only P (Err e) O1 a = a

pub ready_first : (x : Shelf) (p : List Change) → p ≡ [] → x.front.log ≡ [] → x.entries.items ≡ [] → Ready x (puts p) (marked x.front p)
ready_first x p none log empty =
    let one : marked x.front p ≡ x.front = ap (λ (cs : List Change). marked x.front cs) none in
    let nothing : puts p ≡ [] = ap puts none in
    let list : front_of x.front.log ≡ x.entries.items ++ puts p = ap (λ (l : List (List Entry)). front_of l) log ∙ sym (ap (λ (xs : List Entry). xs ++ puts p) empty ∙ nothing) in
    subst (λ (f : FrontView). Ready x (puts p) f) (sym one) (record {
      book = refl;
      past = prefix_self x.front.log;
      rises = subst (λ (l : List (List Entry)). Rises [] l) (sym log) tt;
      list = list;
      follow = subst (λ (es : List Entry). MayAllFollow x.entries.places x.entries.items es) (sym nothing) tt;
    })

-- the next version was added to the history
pub stands_added : (x : Shelf) (es : List Entry) (k : Option FrontView) (f g : FrontView) → Stands x es k f → g.book ≡ f.book → g.log ≡ f.log ++ (x.entries.items ++ es) ∷ [] → Stands x es k g
stands_added x es k f g s book log =
    let front : front_of g.log ≡ x.entries.items ++ es = ap (λ (l : List (List Entry)). front_of l) log ∙ front_snoc [] f.log (x.entries.items ++ es) in record {
      knows = s.knows;
      book = book ∙ s.book;
      past = prefix_trans x.front.log f.log g.log s.past ((x.entries.items ++ es) ∷ [], sym log);
      shows = s.shows;
      next = subst (λ (xs : List Entry). IsPrefix xs (x.entries.items ++ es)) (sym front) (prefix_self (x.entries.items ++ es));
      follow = s.follow;
    }

pub ready_added : (x : Shelf) (es : List Entry) (k : Option FrontView) (f g : FrontView) → Stands x es k f → g.book ≡ f.book → g.log ≡ f.log ++ (x.entries.items ++ es) ∷ [] → Rises [] g.log → Ready x es g
ready_added x es k f g s book log rises =
    let t = stands_added x es k f g s book log in record {
      book = t.book;
      past = t.past;
      rises = rises;
      list = ap (λ (l : List (List Entry)). front_of l) log ∙ front_snoc [] f.log (x.entries.items ++ es);
      follow = s.follow;
    }

-- one more entry is held
pub stands_put : (x : Shelf) (es : List Entry) (k : Option FrontView) (f : FrontView) (e : Entry) → MayFollow x.entries.places (x.entries.items ++ es) e → Stands x es k f → Stands x (es ++ e ∷ []) k f
stands_put x es k f e may s = record {
  knows = s.knows;
  book = s.book;
  past = s.past;
  shows = s.shows;
  next = prefix_trans (front_of f.log) (x.entries.items ++ es) (x.entries.items ++ (es ++ e ∷ [])) s.next (e ∷ [], append_assoc x.entries.items es (e ∷ []));
  follow = follow_snoc x.entries.places x.entries.items es e s.follow may;
}

-- all was shown
pub stands_shown : (y : Shelf) (es : List Entry) (w : Option FrontView) (g : FrontView) → es ≡ [] → w ≡ Some y.front → y.front ≡ g → y.entries.items ≡ front_of g.log → Stands y es w g
stands_shown y es w g none knows is shows =
    let all : y.entries.items ++ es ≡ y.entries.items = ap (λ (xs : List Entry). y.entries.items ++ xs) none ∙ append-nil y.entries.items in record {
      knows = knows;
      book = ap (λ (f : FrontView). f.book) (sym is);
      past = subst (λ (f : FrontView). IsPrefix f.log g.log) (sym is) (prefix_self g.log);
      shows = shows ∙ ap (λ (f : FrontView). front_of f.log) (sym is);
      next = subst (λ (xs : List Entry). IsPrefix (front_of g.log) xs) (sym all) (subst (λ (xs : List Entry). IsPrefix (front_of g.log) xs) (sym shows) (prefix_self (front_of g.log)));
      follow = subst (λ (xs : List Entry). MayAllFollow y.entries.places y.entries.items xs) (sym none) tt;
    }

pub puts_put : (p q : List Change) (e : Entry) → q ≡ p ++ Put e ∷ [] → puts q ≡ puts p ++ e ∷ []
puts_put p q e is = ap (λ (cs : List Change). puts cs) is ∙ puts_append p (Put e ∷ [])

pub puts_mark : (p q : List Change) (g : FrontView) → q ≡ p ++ Mark g ∷ [] → puts q ≡ puts p
puts_mark p q g is = ap (λ (cs : List Change). puts cs) is ∙ (puts_append p (Mark g ∷ []) ∙ append-nil (puts p))

pub marked_mark : (f : FrontView) (p q : List Change) (g : FrontView) → q ≡ p ++ Mark g ∷ [] → marked f q ≡ g
marked_mark f p q g is = ap (λ (cs : List Change). marked f cs) is ∙ marked_snoc f g p

pub stands_same : (x : Shelf) (es fs : List Entry) (k : Option FrontView) (f : FrontView) → fs ≡ es → Stands x es k f → Stands x fs k f
stands_same x es fs k f e s = subst (λ (xs : List Entry). Stands x xs k f) (sym e) s

-- an entry was held, or refused
pub held_stands : {A E : Type 0} (r : Result A E) (x : Shelf) (es fs : List Entry) (k : Option FrontView) (f : FrontView) (e : Entry) → MayFollow x.entries.places (x.entries.items ++ es) e
    → OnOk r (fs ≡ es ++ e ∷ []) → OnErr r (fs ≡ es) → Stands x es k f → Stands x fs k f
held_stands (Ok u) x es fs k f e may ok err s = stands_same x (es ++ e ∷ []) fs k f ok (stands_put x es k f e may s)
held_stands (Err o) x es fs k f e may ok err s = stands_same x es fs k f err s

-- all was shown, or nothing
pub shown_stands : {A E : Type 0} (r : Result A E) (x y : Shelf) (es : List Entry) (q p : List Change) (k w : Option FrontView) (g : FrontView)
    → OnOk r (ShowsAll x p y) → OnOk r (q ≡ []) → OnOk r (w ≡ Some y.front)
    → OnErr r (y ≡ x) → OnErr r (q ≡ p) → OnErr r (w ≡ k)
    → puts p ≡ es → marked x.front p ≡ g → Ready x es g → Stands x es k g → Stands y (puts q) w g
shown_stands (Ok u) x y es q p k w g all none seen a b c same is ready s =
    stands_shown y (puts q) w g (ap (λ (cs : List Change). puts cs) none) seen (all.front ∙ is) (all.list ∙ (ap (λ (fs : List Entry). x.entries.items ++ fs) same ∙ sym ready.list))
shown_stands (Err o) x y es q p k w g a b c here kept told same is ready s =
    let a : Stands y es k g = subst (λ (z : Shelf). Stands z es k g) (sym here) s in
    let b : Stands y es w g = subst (λ (u : Option FrontView). Stands y es u g) (sym told) a in
    stands_same y es (puts q) w g (ap (λ (cs : List Change). puts cs) kept ∙ same) b
