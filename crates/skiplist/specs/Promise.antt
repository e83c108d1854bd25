-- What is promised of images and of lists of calls. Each statement is a type; its proof stands in proofs/.
use Rattle.std.specs.Prelude.{◌≡◌, Bool, true, ◌&&◌, List, [], ◌∷◌, map, ℕ, ltb, length, replicate}
use Rattle.sizes.specs.Orders.{by, down, lex}
use Rattle.sizes.specs.Sizes.{made}
use Rattle.sizes.specs.Header.{sizes_in}
use Rattle.placement.specs.Blocks.{Block, empty, Among, Stands, Rule3, placed, how_many}
use Rattle.placement.specs.Chunks.{Chunk, chunk_home, chunk_before}
use Rattle.sizes.specs.declared.Sizes.{Sizes}
use Rattle.placement.specs.declared.Order.{Order}
use Rattle.skiplist.specs.Lists.{chunks, in_order, blocks}
use Rattle.skiplist.specs.Image.{image, is_image, orders_in, orders_good, fits}
use Rattle.skiplist.specs.Questions.{all_yes, held, asks_room}
use Rattle.skiplist.specs.Book.{Call, book, after}

-- ---- DEMAND 2: images

-- an image reads back as its orders and sizes
unfoldable pub ImageReadsBack : Type 0
ImageReadsBack =
    (s : Sizes) (os : List Order) → made s ≡ true → orders_good s 1 os ≡ true → fits s os ≡ true →
    (is_image (image s os) ≡ true) × (orders_in (image s os) ≡ os) × (sizes_in (image s os) ≡ s)

-- labels rise in the order in which chunks are placed
unfoldable pub labels_rise : Sizes → List Chunk → Bool
labels_rise s [] = true
labels_rise s (c ∷ []) = true
labels_rise s (c ∷ d ∷ cs) = chunk_before s c d && labels_rise s (d ∷ cs)

unfoldable pub LabelsRise : Type 0
LabelsRise = (s : Sizes) (os : List Order) → orders_good s 1 os ≡ true → labels_rise s (in_order s os) ≡ true

-- an image obeys rule 3
unfoldable pub RuleThree : Type 0
RuleThree =
    (s : Sizes) (os : List Order) → made s ≡ true → orders_good s 1 os ≡ true → fits s os ≡ true → Rule3 (chunk_home s) (chunk_before s) s.blocks (blocks s os)

-- rule 3 leaves only one arrangement of the same chunks
unfoldable pub OneArrangement : Type 0
OneArrangement =
    (s : Sizes) (os : List Order) (bs : List (Block Chunk)) → made s ≡ true → orders_good s 1 os ≡ true → fits s os ≡ true → length bs ≡ s.blocks →
    Rule3 (chunk_home s) (chunk_before s) s.blocks bs → ((c : Chunk) → Among c (chunks s os) → Stands s.blocks bs c) → how_many bs ≡ length (chunks s os) → bs ≡ blocks s os

-- ---- Document 02, A.7: two orders of labels

-- "Version 1 compares as it did": its chunks are placed as they come, from level 1 on
unfoldable pub FirstAsItWas : Type 0
FirstAsItWas =
    (s : Sizes) (os : List Order) → s.version ≡ 1 → orders_good s 1 os ≡ true → blocks s os ≡ placed (chunk_home s) s.blocks (chunks s os) (replicate s.blocks empty)

-- version 2's "compare by higher level first, then first key, then chunk number"
abbrev pub higher_first : Chunk → Chunk → Bool
higher_first = lex (down (λ c. c.label.level)) (lex (by (λ c. c.label.first)) (by (λ c. c.label.number)))

-- "a version 2 table has one arrangement under the new order": its blocks obey rule 3 under it, and no other blocks with the same chunks do
unfoldable pub SecondArranged : Type 0
SecondArranged =
    (s : Sizes) (os : List Order) → s.version ≡ 2 → made s ≡ true → orders_good s 1 os ≡ true → fits s os ≡ true →
    Rule3 (chunk_home s) higher_first s.blocks (blocks s os)
    × ((bs : List (Block Chunk)) → length bs ≡ s.blocks → Rule3 (chunk_home s) higher_first s.blocks bs →
    ((c : Chunk) → Among c (chunks s os) → Stands s.blocks bs c) → how_many bs ≡ length (chunks s os) → bs ≡ blocks s os)

-- ---- Document 02, A.4: amend asks neither 7 nor 8

-- the number of chunks depends on the keys alone
unfoldable pub ChunksByKeys : Type 0
ChunksByKeys =
    (s : Sizes) (os qs : List Order) → made s ≡ true → orders_good s 1 os ≡ true → orders_good s 1 qs ≡ true →
    map (λ (o : Order). o.key) os ≡ map (λ (o : Order). o.key) qs → length (chunks s os) ≡ length (chunks s qs)

-- so both would have a yes for a key that is held
unfoldable pub AmendHasRoom : Type 0
AmendHasRoom =
    (s : Sizes) (os : List Order) (o : Order) → made s ≡ true → orders_good s 1 os ≡ true → fits s os ≡ true → held o.key os ≡ true →
    all_yes (asks_room s o os) ≡ true

-- ---- DEMAND 3 over the definitions alone: the table that calls leave is the image of what the plain book leaves

unfoldable pub ListsImage : Type 0
ListsImage = (s : Sizes) (cs : List Call) → made s ≡ true → after cs (image s []) ≡ image s (book s cs [])

-- two tables of one make are equal exactly when the books are
unfoldable pub EqualExactly : Type 0
EqualExactly =
    (s : Sizes) (cs ds : List Call) → made s ≡ true →
    (after cs (image s []) ≡ after ds (image s []) → book s cs [] ≡ book s ds []) × (book s cs [] ≡ book s ds [] → after cs (image s []) ≡ after ds (image s []))

unfoldable pub byte_list : List ℕ → Bool
byte_list [] = true
byte_list (x ∷ xs) = ltb x 256 && byte_list xs

-- the check accepts bytes exactly when some sizes, seed and list give them
unfoldable pub ChecksExactly : Type 0
ChecksExactly =
    (bs : List ℕ) → byte_list bs ≡ true →
    (is_image bs ≡ true → (s : Sizes) × (cs : List Call) × (made s ≡ true) × (after cs (image s []) ≡ bs))
    × ((s : Sizes) (cs : List Call) → made s ≡ true → after cs (image s []) ≡ bs → is_image bs ≡ true)
