-- Search, removal, insertion and change by the code, on a header and blocks as bytes, are those of the theory on the blocks.
use Rattle.std.proofs.Common.{◌≡◌, ℕ, ◌+◌, ◌-◌, ◌*◌, ◌%◌, ◌<◌, ◌≤◌, false, ◌≢◌, List, [], ◌++◌, length, get_or, set, refl, ap, ◌∙◌, true≢false, mod-lt, arith, length-set, Option, Some}
use Rattle.placement.specs.Blocks.{Block, empty, holds, around, is_free}
use Rattle.sizes.specs.declared.Sizes.{Sizes}
use Rattle.placement.specs.declared.Order.{Order}
use Rattle.placement.specs.Labels.{before, home}
use Rattle.placement.specs.Chunks.{Chunk, chunk_home, chunk_before, block_bytes, all_bytes, nodes_bytes}
use Rattle.sizes.specs.Header.{block_long}
use Rattle.sizes.specs.Parts.{block_in, put_block}
use Rattle.placement.specs.Place.{label_in, probe, search_in, distance_of, bytes, pull, settle, free_in, head_bytes, block_with, inserted}
use Rattle.placement.specs.Maps.{Map, Keeps, Holdable, labelled, nodes_of}
use Rattle.placement.specs.declared.Label.{Label}
use Rattle.placement.proofs.Laws.Kinds.{ordered, absent_other}
use Rattle.placement.proofs.Laws.Maps.{lawful}
use Rattle.placement.proofs.Laws.Placed.{First, lands}
use Rattle.placement.proofs.Laws.Removal.{removed_at, distance_steps}
use Rattle.placement.proofs.Laws.Insertion.{insert_from, carry_start}
use Rattle.placement.proofs.Laws.Labels.{home_inside}
use Rattle.placement.proofs.Laws.Bridge.{Good, held, AllGood, label_of, length_nodes, good_at, good_set, coding}
use Rattle.sizes.proofs.Laws.HeaderLoops.{rows_left}
use Rattle.sizes.specs.Sizes.{row}
use Rattle.placement.proofs.Laws.Coded.{block_read, block_write, pull_blocks, settle_blocks, label_blocks, probe_blocks}
use Rattle.placement.proofs.Laws.Pulling.{pull_removed}
use Rattle.placement.proofs.Laws.Settling.{Ahead, Carried, settle_theory, free_first}

-- a block that holds something, by its label
full_label : (s : Sizes) (b : Block Chunk) → Good s b → is_free b ≡ false → (label_of b).level ≢ 0
full_label s empty q n e = absurd (true≢false n)
full_label s (holds c) (held q) n e = omega (arith, q.level)

-- the bytes of a chunk's block, as the code writes them
pub block_written : (s : Sizes) (w : Label) (ns : List Order) → length ns ≤ s.nodes
    → block_with (block_long s) w (length ns) (nodes_bytes (row s) ns) ≡ block_bytes s (holds (labelled w ns))
unfolding block_with head_bytes block_bytes block_long
block_written s w ns h =
    let e : 8 + row s * s.nodes - 8 - row s * length ns ≡ row s * (s.nodes - length ns) = omega (arith, rows_left (row s) (length ns) s.nodes) in
    rw (length_nodes s ns, e)

-- a table of sizes s: a header and blocks
module _ (s : Sizes) (some : 0 < s.blocks) (hd : List ℕ) (eh : length hd ≡ 53) (bl : List (Block Chunk)) (v : AllGood s bl) (long : length bl ≡ s.blocks) where
  -- a block of the bytes, and one written
  pub block_bytes_at : (i : ℕ) → i < s.blocks → block_in (block_long s) (hd ++ all_bytes s bl) i ≡ block_bytes s (get_or bl i empty)
  block_bytes_at = block_read (coding s) s.blocks some hd eh bl v long

  pub block_put : (i : ℕ) (b : Block Chunk) → i < s.blocks → Good s b → put_block (block_long s) (hd ++ all_bytes s bl) i (block_bytes s b) ≡ hd ++ all_bytes s (set bl i b)
  block_put = block_write (coding s) s.blocks some hd eh bl v long

  pub search_blocks : (w : Label) → search_in s (hd ++ all_bytes s bl) w ≡ probe (before s) (λ j. label_of (get_or bl j empty)) s.blocks w s.blocks (home s w)
  unfolding search_in
  search_blocks w = probe_blocks (coding s) s.blocks some hd eh bl v long (before s) w s.blocks (home s w)

  pub pull_at : (i : ℕ) → i < s.blocks → pull (bytes (block_long s)) (home s) s.blocks (s.blocks - 1) i (i + 1) (hd ++ all_bytes s bl) ≡ hd ++ all_bytes s (removed_at (chunk_home s) s.blocks i bl)
  pull_at i h =
      pull_blocks (coding s) s.blocks some hd eh (home s) (s.blocks - 1) i (i + 1) bl (v, long) h
      ∙ ap (λ (x : List (Block Chunk)). hd ++ all_bytes s x) (pull_removed s some i bl v h)

  -- INSERTION
  module _ (F : Map) (n : ℕ) (k : Keeps s bl F n) (w : Label) (ns : List Order) (q : Holdable s (labelled w ns)) (gone : nodes_of F w ≡ []) (room : n < s.blocks) where
    abbrev start : ℕ
    start = home s w

    look_at : (j : ℕ) → label_in (block_long s) (hd ++ all_bytes s bl) (j % s.blocks) ≡ label_of (around s.blocks bl j)
    unfolding around
    look_at j = label_blocks (coding s) s.blocks some hd eh bl v long (j % s.blocks) (mod-lt j some)

    good_around : (j : ℕ) → Good s (around s.blocks bl j)
    unfolding around
    good_around j = good_at s v (j % s.blocks)

    first : First s.blocks (labelled w ns) bl s.blocks start
    first = lands s.blocks (labelled w ns) bl start (home_inside s some w) long (omega (arith, k.count))

    abbrev e : ℕ
    e = (start + first.steps) % s.blocks

    inside : e < s.blocks
    inside = mod-lt (start + first.steps) some

    found : free_in (label_in (block_long s) (hd ++ all_bytes s bl)) s.blocks s.blocks start ≡ Some e
    found =
        free_first _ s.blocks s.blocks start first.steps first.few (rw (look_at (start + first.steps), first.free))
        (λ l h. rw look_at (full_label s _ (good_around (start + l)) (first.full l h)))

    ahead : Ahead s some first.steps start e bl
    unfolding around
    ahead = record { long = long; there = refl; free = first.free; full = first.full }

    carry : Carried s some s.blocks start (labelled w ns) bl
    carry =
        carry_start (ordered (lawful s some)) (labelled w ns) bl long k.rule_3 (absent_other (lawful s some) bl (nodes_of F) (labelled w ns) k.map gone) first

    steps_is : distance_of s.blocks start e ≡ first.steps
    steps_is = distance_steps s.blocks start e first.steps (home_inside s some w) inside first.few refl

    insert_here : settle (bytes (block_long s)) (before s) s.blocks first.steps e start
        (put_block (block_long s) (hd ++ all_bytes s bl) e (block_bytes s (holds (labelled w ns))))
        ≡ hd ++ all_bytes s (insert_from (chunk_before s) s.blocks start s.blocks (labelled w ns) bl)
    insert_here =
        rw (block_put e (holds (labelled w ns)) inside (held q))
        (settle_blocks (coding s) s.blocks some hd eh (before s) first.steps e start (set bl e (holds (labelled w ns)))
        (good_set s v e (held q), length-set bl e _ ∙ long) inside
        ∙ ap (λ (x : List (Block Chunk)). hd ++ all_bytes s x) (settle_theory s some e inside first.steps s.blocks start (labelled w ns) bl carry ahead))

    pub insert_at : (r : Option ℕ) → r ≡ free_in (label_in (block_long s) (hd ++ all_bytes s bl)) s.blocks s.blocks start
        → inserted s r w (length ns) (nodes_bytes (row s) ns) (hd ++ all_bytes s bl) ≡ hd ++ all_bytes s (insert_from (chunk_before s) s.blocks start s.blocks (labelled w ns) bl)
    unfolding inserted
    insert_at r h = rw (h ∙ found, block_written s w ns q.nodes, steps_is) insert_here
