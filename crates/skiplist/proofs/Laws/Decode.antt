-- Blocks that bytes can hold are read back from their bytes.
use mathlib.Core.Path.{◌≡◌, sym, ap, ◌∙◌}
use mathlib.Core.List.{List, ◌++◌, map}
use Prim.Native.Nat.{ℕ, suc, ◌+◌, ◌*◌, ◌-◌}
use native.Mathlib.Omega.{arith}
use borrow.Author.Tests.{ne_eqb}
use lib.ListN.{length, replicate}
use lib.Seq.{drop_at}
use Rattle.sizes.specs.Numbers.{big}
use Rattle.sizes.specs.Sizes.{row}
use Rattle.sizes.specs.Header.{block_long}
use Rattle.placement.specs.Blocks.{Block, holds}
use Rattle.placement.specs.Chunks.{Chunk, block_bytes, all_bytes}
use Rattle.placement.specs.Decode.{chunk_of, block_of, cut, blocks_in}
use Rattle.placement.specs.Maps.{Holdable}
use Rattle.sizes.specs.declared.Sizes.{Sizes}
use Rattle.sizes.proofs.Laws.Sizes.{row_least}
use Rattle.placement.proofs.Laws.Reading.{nodes_back}
use Rattle.placement.proofs.Laws.Coded.{blocks_again}
use Rattle.placement.proofs.Laws.Bridge.{Good, free, held, AllGood, head_of, coding}

chunk_back : (s : Sizes) (c : Chunk) → Holdable s c → chunk_of (row s) (block_bytes s (holds c)) ≡ c
unfolding chunk_of block_bytes big
chunk_back s c k =
    let e = head_of s (held k) in
    let n = nodes_back (row s) (row_least s) c.nodes (replicate (row s * (s.nodes - length c.nodes)) 0) k.fine in
    λ i. record { label = e i; nodes = n i }

block_back : (s : Sizes) {b : Block Chunk} → Good s b → block_of (row s) (block_bytes s b) ≡ b
unfolding block_of block_bytes block_long
block_back s free =
    let e : 8 + row s * s.nodes ≡ suc (7 + row s * s.nodes) = omega arith in
    rw e
block_back s (held {c = c} k) = rw (ne_eqb c.label.level 0 (omega (arith, k.level))) (ap holds (chunk_back s c k))

pub blocks_back : (s : Sizes) (hd : List ℕ) (bl : List (Block Chunk)) → length hd ≡ 53 → length bl ≡ s.blocks → AllGood s bl → blocks_in s (hd ++ all_bytes s bl) ≡ bl
unfolding blocks_in
blocks_back s hd bl h l g =
    rw (drop_at hd (all_bytes s bl) 53 h)
    (ap (λ (n : ℕ). map (block_of (row s)) (cut (block_long s) n (all_bytes s bl))) (sym l) ∙ blocks_again (coding s) (block_of (row s)) (λ b k. block_back s k) g)
