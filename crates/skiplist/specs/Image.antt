-- The image of some orders, and when bytes are one. Document 01, "Bytes of the table" and "When bytes are an image".
use Rattle.std.specs.Prelude.{Bool, true, false, ◌&&◌, cond, List, [], ◌∷◌, ◌++◌, ℕ, suc, ltb, leb, eqb, length}
use Rattle.sizes.specs.Orders.{by, sort_in}
use Rattle.sizes.specs.Sizes.{prime}
use Rattle.sizes.specs.Header.{header, sizes_in, rule_1}
use Rattle.placement.specs.Blocks.{Block, empty, holds}
use Rattle.placement.specs.Chunks.{Chunk, all_bytes}
use Rattle.placement.specs.Decode.{blocks_in}
use Rattle.sizes.specs.declared.Sizes.{Sizes}
use Rattle.placement.specs.declared.Order.{Order}
use Rattle.skiplist.specs.Lists.{chunks, blocks}

-- THE IMAGE of some orders, under sizes and seed
unfoldable pub image : Sizes → (orders : List Order) → List ℕ
image s os = header s (length os) ++ all_bytes s (blocks s os)

-- an order among others, by rising keys
abbrev pub into : Order → List Order → List Order
into = sort_in (by (λ o. o.key))

-- READ BACK: the nodes of the blocks of level 1, but for the front, by rising keys
unfoldable pub all_into : (nodes : List Order) → List Order → List Order
all_into [] os = os
all_into (n ∷ ns) os = all_into ns (cond (eqb n.key 0) os (into n os))

unfoldable pub gathered : List (Block Chunk) → List Order → List Order
gathered [] os = os
gathered (empty ∷ bs) os = gathered bs os
gathered (holds c ∷ bs) os = gathered bs (cond (eqb c.label.level 1) (all_into c.nodes os) os)

unfoldable pub orders_in : List ℕ → List Order
orders_in bs = gathered (blocks_in (sizes_in bs) bs) []

-- document 02, A.6: "a limit price, 1..4,294,967,295 ticks"; "Version 1 tables live on ..; their price is 0"
unfoldable pub price_good : Sizes → (price : ℕ) → Bool
price_good s p = cond (eqb s.version 1) (eqb p 0) (leb 1 p)

-- an order: key 1..p-1, total 1..4,294,967,295, displayed 0..total, and its price; keys rise, from a least one on
unfoldable pub quantities_good : Sizes → (total displayed price : ℕ) → Bool
quantities_good s t d p = ((leb 1 t && leb t 4294967295) && leb d t) && (price_good s p && leb p 4294967295)

unfoldable pub orders_good : Sizes → (least : ℕ) → List Order → Bool
orders_good s a [] = true
orders_good s a (o ∷ os) =
    ((leb a o.key && ltb o.key prime) && quantities_good s o.total o.displayed o.price) && orders_good s (suc o.key) os

-- at most N orders, in at most M chunks
unfoldable pub fits : Sizes → (orders : List Order) → Bool
fits s os = leb (length os) s.orders && leb (length (chunks s os)) s.blocks

unfoldable pub same : (a b : List ℕ) → Bool
same [] [] = true
same [] (y ∷ ys) = false
same (x ∷ xs) [] = false
same (x ∷ xs) (y ∷ ys) = eqb x y && same xs ys

-- QUESTION 4: rule 1 holds, and the bytes are the image of the orders that they hold. Rules.antt says it by rules 1, 2 and 3
unfoldable pub is_image : List ℕ → Bool
is_image bs =
    rule_1 bs && ((orders_good (sizes_in bs) 1 (orders_in bs) && fits (sizes_in bs) (orders_in bs)) && same (image (sizes_in bs) (orders_in bs)) bs)
