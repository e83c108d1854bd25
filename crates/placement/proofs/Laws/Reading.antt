-- What stands in the bytes of a block that a search found: the number of nodes, and each node.
use Rattle.std.proofs.Common.{◌≡◌, ℕ, ◌+◌, ◌-◌, ◌*◌, ◌<◌, ◌≤◌, List, [], ◌++◌, length, get_or, drop, replicate, sym, ap, ◌∙◌, append_assoc, add-zero, arith, take-append-drop, get_or-drop, get_or-take, drop-drop}
use Rattle.placement.specs.Blocks.{holds}
use Rattle.sizes.specs.declared.Sizes.{Sizes}
use Rattle.placement.specs.declared.Order.{Order}
use Rattle.sizes.specs.Numbers.{big, field}
use Rattle.sizes.specs.Sizes.{row}
use Rattle.sizes.specs.Header.{block_long}
use Rattle.placement.specs.Chunks.{block_bytes, node_bytes, nodes_bytes}
use Rattle.placement.specs.Decode.{node_in, node_of, nodes_from}
use Rattle.sizes.specs.Parts.{block_in}
use Rattle.placement.specs.Maps.{labelled, Fine, Fines}
use Rattle.placement.specs.declared.Label.{Label}
use Rattle.placement.proofs.Laws.Rows.{rows_back, rows_at}
use Rattle.placement.proofs.Laws.Bridge.{node_long}
use Rattle.sizes.proofs.Laws.Sizes.{row_least}
use Rattle.sizes.proofs.Laws.Numbers.{field_big, field_drop}

abbrev pub node_at : List Order → ℕ → Order
node_at ns j = get_or ns j (record { key = 0; total = 0; displayed = 0; price = 0 })

-- the key of a node is its first number
pub key_of : (w : ℕ) (bs : List ℕ) (a : ℕ) → (node_of w bs a).key ≡ field a 4 bs
unfolding node_of node_in
key_of w bs a = field_drop 0 4 a bs ∙ rw add-zero

-- one node, and a row of nodes, written and read back
node_back : (w : ℕ) (o : Order) (r : List ℕ) → Fine w o → node_in w (node_bytes w o ++ r) ≡ o
unfolding node_in node_bytes field big
node_back w o r f =
    let k = field_big 4 o.key [] f.key in
    let t = field_big 4 o.total [] f.total in
    let d = field_big 4 o.displayed [] f.displayed in
    let p = field_big (w - 12) o.price r f.price in
    λ i. record { key = k i; total = t i; displayed = d i; price = p i }

pub nodes_back : (w : ℕ) → 12 ≤ w → (ns : List Order) (r : List ℕ) → Fines w ns → nodes_from w (length ns) (nodes_bytes w ns ++ r) ≡ ns
nodes_back w least = rows_back w (node_bytes w) (node_long w least) (node_in w) (Fine w) (node_back w)

-- the block i has the nodes ns under the label w
module _ (s : Sizes) (bs : List ℕ) (i : ℕ) (w : Label) (ns : List Order) (is : block_in (block_long s) bs i ≡ block_bytes s (holds (labelled w ns))) where
  -- THE NUMBER of its nodes
  pub count_read : get_or bs (53 + i * block_long s + 1) 0 ≡ length ns
  unfolding block_in block_bytes block_long
  count_read =
      let h : 1 < 8 + row s * s.nodes = omega arith in
      sym (get_or-take (block_long s) (drop (53 + i * block_long s) bs) 1 0 h ∙ get_or-drop (53 + i * block_long s) bs 1 0) ∙ ap (λ (x : List ℕ). get_or x 1 0) is

  -- THE NODES, all of them and one by one
  module _ (fine : Fines (row s) ns) where
    pub nodes_read : nodes_from (row s) (length ns) (drop (53 + i * block_long s + 8) bs) ≡ ns
    unfolding block_in block_bytes big
    nodes_read =
        let a = 53 + i * block_long s in
        let y = drop (block_long s) (drop a bs) in
        let z : List ℕ = replicate (row s * (s.nodes - length ns)) 0 in
        let e : drop a bs ≡ block_bytes s (holds (labelled w ns)) ++ y = sym (take-append-drop (block_long s) (drop a bs)) ∙ ap (λ (x : List ℕ). x ++ y) is in
        ap (nodes_from (row s) (length ns)) (sym (drop-drop 8 a bs) ∙ ap (drop 8) e ∙ append_assoc (nodes_bytes (row s) ns) z y)
        ∙ nodes_back (row s) (row_least s) ns (z ++ y) fine

    pub node_read : (j : ℕ) → j < length ns → node_of (row s) bs (53 + i * block_long s + 8 + row s * j) ≡ node_at ns j
    unfolding node_of
    node_read j h =
        let a = 53 + i * block_long s + 8 in
        ap (node_in (row s)) (sym (drop-drop (row s * j) a bs)) ∙ sym (rows_at (row s) (node_in (row s)) (length ns) j (drop a bs) _ h) ∙ ap (λ (l : List Order). node_at l j) nodes_read
