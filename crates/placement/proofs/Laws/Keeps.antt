-- The placement of this version's chunks, by the law for chunks of any kind.
use Rattle.std.proofs.Common.{zero, ◌<◌, ◌≤◌, ◌≢◌, List, [], length, replicate}
use Rattle.sizes.specs.Orders.{sorted}
use Rattle.placement.specs.Blocks.{Among, empty, placed}
use Rattle.sizes.specs.declared.Sizes.{Sizes}
use Rattle.placement.specs.Chunks.{Chunk, chunk_home, chunk_before}
use Rattle.placement.specs.Maps.{Keeps, map_of}
use Rattle.placement.proofs.Laws.Sorted.{Comparable}
use Rattle.placement.proofs.Laws.Maps.{lawful}
use Rattle.placement.proofs.Laws.Kinds

-- THE PLACEMENT of chunks, sorted, keeps their map
pub placed_keeps : (s : Sizes) (cs : List Chunk) → zero < s.blocks → Comparable (chunk_before s) cs → length cs ≤ s.blocks → ((c : Chunk) → Among c cs → c.nodes ≢ [])
    → Keeps s (placed (chunk_home s) s.blocks (sorted (chunk_before s) cs) (replicate s.blocks empty)) (map_of cs) (length cs)
unfolding map_of
placed_keeps s cs some = Kinds.placed_keeps (lawful s some) cs
