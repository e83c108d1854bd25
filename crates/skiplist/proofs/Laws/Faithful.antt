-- Chunks as a map: where labels rise, what the map of a list of chunks tells under a label is what stands there; and no chunk is empty.
use mathlib.Core.Path.{◌≡◌, refl, ◌∙◌, subst}
use mathlib.Core.Bool.{Bool, true, false, cond}
use mathlib.Core.List.{List, [], ◌∷◌, ◌++◌, map, append-nil}
use mathlib.Core.Logic.{inl, inr}
use Prim.Native.Nat.{ℕ, ◌*◌, ◌≤◌, ◌<◌}
use lib.ListN.{length, take, drop}
use Rattle.sizes.specs.Sizes.{beta}
use Rattle.placement.specs.Blocks.{Among}
use Rattle.placement.specs.Labels.{label, same_label}
use Rattle.placement.specs.Chunks.{Chunk}
use Rattle.placement.specs.Maps.{map_of}
use Rattle.sizes.specs.declared.Sizes.{Sizes}
use Rattle.placement.specs.declared.Order.{Order}
use Rattle.placement.specs.declared.Label.{Label}
use Rattle.placement.proofs.Laws.Labels.{lower_first, lower_ordering, same_is, isnt_same}
use Rattle.skiplist.specs.Lists.{masked, chunks}
use Rattle.skiplist.proofs.Laws.Parts.{Up, part}
use Rattle.skiplist.proofs.Laws.Content.{picked, content, content_is}
use Rattle.skiplist.proofs.Laws.Pieces.{piece_of, piece_filled}
use Rattle.skiplist.proofs.Laws.Rise.{Rises, chunks_rise}

rises_from : (v w : Label) (cs : List Chunk) → lower_first v w ≡ true → Rises w cs → Rises v cs
rises_from v w [] h r = tt
rises_from v w (c ∷ cs) h r = (lower_ordering.chain v w c.label h r.0, r.1)

-- nothing stands under a label before all
content_before : (l f i : ℕ) (cs : List Chunk) → Rises (label l f i) cs → content l f i cs ≡ []
unfolding picked
content_before l f i [] r = refl
content_before l f i (c ∷ cs) r =
    rw (isnt_same lower_ordering c.label (label l f i) r.0) (content_before l f i cs (rises_from (label l f i) c.label cs r.0 r.1))

-- where labels rise a label stands once, so all that stands under it is what the map of the chunks tells
pub map_content : (l f i : ℕ) (cs : List Chunk) (w : Label) → Rises w cs → map_of cs l f i ≡ content l f i cs
unfolding map_of picked
map_content l f i [] w r = refl
map_content l f i (c ∷ cs) w r = go (map_content l f i cs c.label r.1) (same_label c.label (label l f i)) refl
  where
    go : map_of cs l f i ≡ content l f i cs → (t : Bool) → same_label c.label (label l f i) ≡ t → cond t c.nodes (map_of cs l f i) ≡ cond t c.nodes [] ++ content l f i cs
    go ih true e =
        let n = content_before l f i cs (subst (λ (v : Label). Rises v cs) (same_is c.label (label l f i) e) r.1) in
        rw (n, append-nil)
    go ih false e = ih

-- no chunk is empty, and none has more than b nodes
abbrev pub Filled : (b : ℕ) → List Chunk → Type 0
Filled b [] = Unit {0}
Filled b (c ∷ cs) = (0 < length c.nodes) × (length c.nodes ≤ b) × Filled b cs

filled_each : (b : ℕ) (cs : List Chunk) → ((c : Chunk) → Among c cs → (0 < length c.nodes) × (length c.nodes ≤ b)) → Filled b cs
filled_each b [] h = tt
filled_each b (c ∷ cs) h = let w = h c (inl refl) in (w.0, w.1, filled_each b cs (λ d a. h d (inr a)))

pub chunks_filled : (s : Sizes) (os : List Order) → 0 < s.nodes → Filled s.nodes (chunks s os)
chunks_filled s os h = filled_each s.nodes (chunks s os) (λ c a. piece_filled s os c h (piece_of s os c a))

-- THE MAP OF THE CHUNKS: under (l, f, i) stands the i-th piece of the partition that f heads, masked
pub map_is : (s : Sizes) (l f i : ℕ) (os : List Order) → 0 < s.nodes → Up 1 os → 1 ≤ l → l ≤ beta s → map_of (chunks s os) l f i ≡ map (masked l) (take s.nodes (drop (i * s.nodes) (part s os l f)))
map_is s l f i os b u h g = map_content l f i (chunks s os) (label 0 0 0) (chunks_rise s os u) ∙ content_is s l f i os b u h g
