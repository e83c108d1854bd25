-- This version's chunks are of a lawful kind.
use Rattle.std.proofs.Common.{zero, ◌<◌, List, refl, ap}
use Rattle.placement.specs.Blocks.{Block}
use Rattle.sizes.specs.declared.Sizes.{Sizes}
use Rattle.placement.specs.declared.Label.{Label}
use Rattle.placement.specs.Labels.{before, home}
use Rattle.placement.specs.Chunks.{Chunk, chunk_home, chunk_before}
use Rattle.placement.specs.Maps.{Map, chunk_kind, map_of}
use Rattle.placement.proofs.Laws.Labels.{labels_strict, labels_chain, labels_one, same_is, is_same, home_inside}
use Rattle.placement.proofs.Laws.Kinds.{Lawful, held}

pub lawful : (s : Sizes) → zero < s.blocks → Lawful chunk_kind (chunk_home s) (chunk_before s) s.blocks
lawful s some = record {
  again = λ c. refl;
  labelled = λ w ns. refl;
  own = λ c. is_same c.label c.label refl;
  only = λ c w e. same_is c.label w e;
  strict = λ c. labels_strict s c.label;
  chain = λ c d e. labels_chain s c.label d.label e.label;
  one = λ c d. labels_one s c.label d.label;
  alike = λ c d e. record { home_same = ap (home s) e; left = λ x. ap (λ (w : Label). before s w x.label) e; right = λ x. ap (before s x.label) e };
  inside = λ c. home_inside s some c.label;
}

-- the map read off a table
unfoldable pub nodes_at : List (Block Chunk) → Map
nodes_at bs = map_of (held bs)
