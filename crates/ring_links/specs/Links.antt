-- What a contract sees of a link: four lists, what it knows of, and which two rings it has.
use Rattle.std.specs.Prelude.{◌≡◌, ℕ, List, [], ◌∷◌, ◌++◌, ◌+◌, ◌-◌, ◌<◌, ◌≤◌, ◌⊎◌, length, drop, Option, IfSome, IfNone}
use mathlib.Core.List.{IsPrefix}
use Rattle.std.specs.VecDeque.{deque_len, deque_capacity}
use Rattle.rtrb.specs.Ring.{sent, received, known_items, known_free, SameProducer, SameConsumer, IsPair}
use Rattle.ring_links.specs.declared.link.Link.{Link}
use Rattle.ring_links.specs.declared.parcel.Parcel.{Parcel}

-- what this side has put into the ring to the other
abbrev pub put : Link → List Parcel
put l = sent l.to

-- what this side has got out of the ring from the other
abbrev pub got : Link → List Parcel
got l = received l.from

-- what this side has seen in the ring and not got
abbrev pub known : Link → List Parcel
known l = known_items l.from

-- how many places this side knows to be free
abbrev pub free : Link → ℕ
free l = known_free l.to

-- the backlog to the other side
abbrev pub waiting : Link → List Parcel
waiting l = l.backlog.items

-- the inbox from the other side
abbrev pub arrived : Link → List Parcel
arrived l = l.inbox.items

-- nothing was sent and nothing has come
abbrev pub IsFresh : Link → Type 0
IsFresh l = (put l ≡ []) × (got l ≡ []) × (waiting l ≡ []) × (arrived l ≡ [])

-- the two sides of the same two rings
abbrev pub AreLinked : Link → Link → Type 0
AreLinked a b = IsPair a.to b.from × IsPair b.to a.from

-- one side of the same two rings, before and after
abbrev pub SameLink : Link → Link → Type 0
SameLink a b = SameProducer a.to b.to × SameConsumer a.from b.from

-- for how many more parcels the backlog has room
abbrev pub spare : Link → ℕ
spare l = deque_capacity l.backlog - deque_len l.backlog

-- no parcel has moved, none more is known of, and no room is lost
abbrev pub Stays : Link → Link → Type 0
Stays l l' = SameLink l l' × (put l' ≡ put l) × (got l' ≡ got l) × (waiting l' ≡ waiting l) × (arrived l' ≡ arrived l) × (known l' ≡ known l) × (spare l ≤ spare l')

-- a parcel was sent: behind a backlog, else into the ring, or into the backlog where no place is known to be free
abbrev pub Sends : Parcel → Link → Link → Type 0
Sends p l l' =
    SameLink l l'
    × (0 < length (waiting l) → (put l' ≡ put l) × (waiting l' ≡ waiting l ++ p ∷ []))
    × (length (waiting l) ≡ 0 → ((put l' ≡ put l ++ p ∷ []) × (waiting l' ≡ [])) ⊎ ((put l' ≡ put l) × (waiting l' ≡ p ∷ []) × (free l ≡ 0)))
    × (got l' ≡ got l)
    × (arrived l' ≡ arrived l)
    × (known l' ≡ known l)
    × (spare l ≤ spare l' + 1)

-- what was taken: the first parcel of the inbox, else the next of the ring, else none, and then none was known of
abbrev pub Takes : Option Parcel → Link → Link → Type 0
Takes r l l' =
    SameLink l l'
    × (0 < length (arrived l) → (IfSome r (λ p. arrived l ≡ p ∷ arrived l')) × (got l' ≡ got l))
    × (length (arrived l) ≡ 0 → (arrived l' ≡ []) × IfSome r (λ p. got l' ≡ got l ++ p ∷ []))
    × IfNone r ((arrived l ≡ []) × (known l ≡ []) × (known l' ≡ []) × (got l' ≡ got l))
    × (put l' ≡ put l)
    × (waiting l' ≡ waiting l)
    × (spare l' ≡ spare l)

-- what b got is a beginning of what a put
abbrev pub InOrder : Link → Link → Type 0
InOrder a b = IsPrefix (got b) (put a)

-- what a put into the ring and b has not got
abbrev pub in_ring : Link → Link → List Parcel
in_ring a b = drop (length (got b)) (put a)

-- all that was under way from a to b has arrived: what was in the ring, and then the backlog
abbrev pub Settled : Link → Link → Link → Link → Type 0
Settled a b a' b' =
    (got b' ≡ put a)
    × (put a' ≡ put a)
    × (arrived b' ≡ (arrived b ++ in_ring a b) ++ waiting a)
    × (waiting a' ≡ [])

-- nothing that is under way from a to b has moved
abbrev pub Unmoved : Link → Link → Link → Link → Type 0
Unmoved a b a' b' = (got b' ≡ got b) × (put a' ≡ put a) × (arrived b' ≡ arrived b) × (waiting a' ≡ waiting a)
