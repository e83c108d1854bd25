-- An image obeys rule 3, and rule 3 leaves only one arrangement of its chunks.
use mathlib.Core.Path.{◌≡◌, sym, subst}
use mathlib.Core.Bool.{Bool, true}
use mathlib.Core.List.{List}
use Prim.Native.Nat.{zero, ◌≤◌, ◌<◌}
use native.Mathlib.Omega.{arith}
use lib.ListN.{length, replicate}
use Rattle.sizes.specs.Sizes.{made}
use Rattle.placement.specs.Blocks.{Among, Block, empty, Stands, Rule3}
use Rattle.placement.specs.Chunks.{Chunk, chunk_before, chunk_home}
use Rattle.sizes.specs.declared.Sizes.{Sizes}
use Rattle.placement.specs.declared.Order.{Order}
use Rattle.placement.proofs.Laws.Labels.{lower_ordering, before_higher}
use Rattle.placement.proofs.Laws.Placed.{Placing, counted, one_placement}
use Rattle.placement.proofs.Laws.Sorted.{sorted_comes, sorted_only, sorted_long}
use Rattle.placement.proofs.Laws.Maps.{lawful}
use Rattle.placement.proofs.Laws.Kinds.{ordered, sorted_placement}
use Rattle.sizes.proofs.Laws.Sizes.{some_blocks}
use Rattle.skiplist.specs.Lists.{chunks, in_order, blocks}
use Rattle.skiplist.specs.Image.{orders_good, fits}
use Rattle.skiplist.specs.Promise.{RuleThree, OneArrangement, higher_first, SecondArranged}
use Rattle.skiplist.proofs.Laws.Kept.{fits_parts}
use Rattle.skiplist.proofs.Laws.Rising.{lower_chunk, chunks_rising, chunks_comparable, in_order_rises}

pub blocks_placing : (s : Sizes) (os : List Order) → made s ≡ true → orders_good s 1 os ≡ true → fits s os ≡ true →
    Placing (chunk_home s) (chunk_before s) s.blocks (chunks s os) (replicate s.blocks empty) (blocks s os)
unfolding blocks
blocks_placing s os m g f = sorted_placement (lawful s (some_blocks s m)) (chunks s os) (chunks_comparable s os g) (fits_parts s os f).room

pub rule_three : RuleThree
unfolding RuleThree
rule_three s os m g f = (blocks_placing s os m g f).rule_3

-- a table that keeps rule 3 and holds just the chunks is the one
pub the_blocks : (s : Sizes) (os : List Order) (bs : List (Block Chunk)) → zero < s.blocks → orders_good s 1 os ≡ true → length (chunks s os) ≤ s.blocks → length bs ≡ s.blocks →
    Rule3 (chunk_home s) (chunk_before s) s.blocks bs → ((c : Chunk) → Among c (chunks s os) → Stands s.blocks bs c) → ((c : Chunk) → Stands s.blocks bs c → Among c (chunks s os)) → bs ≡ blocks s os
unfolding blocks
the_blocks s os bs some g room p r all only =
    one_placement (ordered (lawful s some)) (in_order s os) bs (in_order_rises s os g) (omega (arith, sorted_long (chunk_before s) (chunks s os))) p r
    (λ c a. all c (sorted_only (chunk_before s) (chunks s os) c a)) (λ c t. sorted_comes (chunk_before s) (chunks s os) c (only c t))

pub one_arrangement : OneArrangement
unfolding OneArrangement
one_arrangement s os bs m g f p r all n =
    the_blocks s os bs (some_blocks s m) g (fits_parts s os f).room p r all
    (counted lower_chunk s.blocks (some_blocks s m) (λ c. lower_ordering.strict c.label) (chunks s os) bs p (chunks_rising s os g) all n)

-- VERSION 2, by higher levels first
second_order : (s : Sizes) → s.version ≡ 2 → chunk_before s ≡ higher_first
second_order s v = λ j c d. before_higher s v c.label d.label j

pub second_arranged : SecondArranged
unfolding SecondArranged RuleThree OneArrangement
second_arranged s os v m g f = (
  subst (λ (p : Chunk → Chunk → Bool). Rule3 (chunk_home s) p s.blocks (blocks s os)) (second_order s v) (rule_three s os m g f),
  λ bs p r all n. one_arrangement s os bs m g f p (subst (λ (q : Chunk → Chunk → Bool). Rule3 (chunk_home s) q s.blocks bs) (sym (second_order s v)) r) all n,
)
