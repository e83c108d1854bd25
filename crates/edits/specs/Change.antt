-- A table on its way from some orders to others, level by level from a key's own down, and what one level of an enter and of a cancel does to it.
use Rattle.std.specs.Prelude.{◌≡◌, true, false, List, ◌∷◌, ◌++◌, ℕ, ◌+◌, ◌-◌, ◌≤◌, ◌<◌, length}
use Rattle.std.proofs.lemmas.List.Edits.{sets}
use Rattle.sizes.specs.Numbers.{big}
use Rattle.sizes.specs.Sizes.{made}
use Rattle.sizes.specs.Hash.{level}
use Rattle.sizes.specs.Header.{header, sizes_in, held_in}
use Rattle.placement.specs.Maps.{Map, map_of, Table}
use Rattle.sizes.specs.declared.Sizes.{Sizes}
use Rattle.placement.specs.declared.Order.{Order}
use Rattle.edits.specs.declared.changes.Change.{Change}
use Rattle.edits.specs.declared.changes.Change.TheVariants.{Enter, Cancel}
use Rattle.skiplist.specs.Lists.{first_key, chunks}
use Rattle.skiplist.specs.Image.{image, orders_good, fits, is_image, orders_in, quantities_good}
use Rattle.skiplist.specs.Parts.{head_part, counts}
use Rattle.skiplist.specs.Questions.{is_key, held, price_allowed}

-- an order between others, and room for all of them
pub record Setting (s : Sizes) (xs : List Order) (o : Order) (zs : List Order) : Type 0 where
  pub sizes : made s ≡ true
  pub good : orders_good s 1 (xs ++ o ∷ zs) ≡ true
  pub fit : fits s (xs ++ o ∷ zs) ≡ true

-- the header is that of the old orders; levels above k are those of the new orders, and levels up to k those of the old ones
pub record Between (s : Sizes) (old new : List Order) (k : ℕ) (bs : List ℕ) : Type 0 where
  pub map : Map
  pub full : ℕ
  pub table : Table s map full (header s (length old)) bs
  pub above : (l f i : ℕ) → k < l → map l f i ≡ map_of (chunks s new) l f i
  pub upto : (l f i : ℕ) → l ≤ k → map l f i ≡ map_of (chunks s old) l f i
  pub count : full + counts k 1 s new ≡ length (chunks s new) + counts k 1 s old

-- WHICH ORDER CHANGES: the very one that comes in, or the one with the key that goes out
abbrev pub Of : Change → Order → Type 0
Of (Enter o) p = p ≡ o
Of (Cancel y) p = p.key ≡ y

-- its key
abbrev pub key_of : Change → ℕ
key_of (Enter o) = o.key
key_of (Cancel y) = y

-- the orders before a change and after it, of the orders without that one and with it
abbrev pub before : Change → (less more : List Order) → List Order
before (Enter o) less more = less
before (Cancel y) less more = more

abbrev pub behind : Change → (less more : List Order) → List Order
behind (Enter o) less more = more
behind (Cancel y) less more = less

abbrev pub OnWay : Sizes → Change → (xs : List Order) → Order → (zs : List Order) → (k : ℕ) → (bs : List ℕ) → Type 0
OnWay s c xs o zs k bs = Between s (before c (xs ++ zs) (xs ++ o ∷ zs)) (behind c (xs ++ zs) (xs ++ o ∷ zs)) k bs

-- ONE LEVEL OF A CHANGE, not above the key's own; r is the first key of the partition one level down
unfoldable pub Turn : Sizes → (k l f : ℕ) → Change → (bs bs' : List ℕ) → (r : ℕ) → Type 0
Turn s k l f c bs bs' r =
    (xs : List Order) (o : Order) (zs : List Order) → Setting s xs o zs → Of c o → l ≡ level s o.key → 0 < k → k ≤ l → f ≡ first_key (head_part s k xs) →
    OnWay s c xs o zs k bs → (r ≡ first_key (head_part s (k - 1) xs)) × OnWay s c xs o zs (k - 1) bs'

-- ALL LEVELS, from the key's own, where f leads to it, down: with the number of orders written, the table is the image of the new orders
unfoldable pub Turned : Sizes → (f l : ℕ) → Change → (bs bs' : List ℕ) → Type 0
Turned s f l c bs bs' =
    (xs : List Order) (o : Order) (zs : List Order) → Setting s xs o zs → Of c o → f ≡ first_key (head_part s l xs) → l ≡ level s o.key →
    bs ≡ image s (before c (xs ++ zs) (xs ++ o ∷ zs)) →
    sets bs' 11 (big 2 (length (behind c (xs ++ zs) (xs ++ o ∷ zs)))) ≡ image s (behind c (xs ++ zs) (xs ++ o ∷ zs))

-- ---- what is known on the way of an enter or amend, question by question

-- questions 4, 14, 5 and 6 have a yes
pub record Sure (bs : List ℕ) (s : Sizes) (o : Order) : Type 0 where
  pub image : is_image bs ≡ true
  pub sizes_are : s ≡ sizes_in bs
  pub price : price_allowed s o.price ≡ true
  pub key : is_key o.key ≡ true
  pub quantities : quantities_good s o.total o.displayed o.price ≡ true

-- .. and 13 and 7
pub record Free (bs : List ℕ) (s : Sizes) (k : ℕ) : Type 0 where
  pub absent_is : held k (orders_in bs) ≡ false
  pub more : held_in bs < s.orders
