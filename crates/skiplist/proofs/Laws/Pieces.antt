-- The chunks are exactly the pieces of the partitions, masked.
use mathlib.Core.Path.{◌≡◌, refl, sym, ap, ◌∙◌, subst}
use mathlib.Core.Bool.{Bool, true, false}
use mathlib.Core.List.{List, [], ◌∷◌, ◌++◌, map}
use mathlib.Core.Logic.{◌⊎◌, inl, inr}
use Prim.Native.Nat.{ℕ, zero, suc, ◌+◌, ◌*◌, ◌≤◌, ◌<◌}
use native.Mathlib.Nat.{zero-add, add-zero, zero-mul}
use native.Mathlib.Omega.{arith}
use borrow.Author.Tests.{eqb-true, eqb-false}
use lib.Dec.{eqb}
use lib.ListN.{length, take, drop, length-drop, length-take, length-map}
use lib.Seq.{drop-drop}
use Rattle.sizes.specs.Sizes.{beta}
use Rattle.placement.specs.Chunks.{Chunk}
use Rattle.placement.specs.Labels.{label}
use Rattle.sizes.specs.declared.Sizes.{Sizes}
use Rattle.placement.specs.declared.Order.{Order}
use Rattle.skiplist.specs.Lists.{list_at, partitions, first_key, masked, chunks_of, all_chunks, chunks_from, chunks}
use Rattle.skiplist.specs.Rules.{Piece, ChunksAre}
use Rattle.skiplist.proofs.Laws.Masks.{map_take, map_drop}
use Rattle.placement.specs.Blocks.{Among}
use Rattle.sizes.proofs.Laws.Sizes.{limits}

pub among_append : {A : Type 0} (c : A) (cs ds : List A) → Among c (cs ++ ds) → Among c cs ⊎ Among c ds
among_append c [] ds h = inr h
among_append c (d ∷ cs) ds (inl e) = inl (inl e)
among_append c (d ∷ cs) ds (inr h) = go (among_append c cs ds h)
  where
    go : Among c cs ⊎ Among c ds → Among c (d ∷ cs) ⊎ Among c ds
    go (inl w) = inl (inr w)
    go (inr w) = inr w

pub among_left : {A : Type 0} (c : A) (cs ds : List A) → Among c cs → Among c (cs ++ ds)
among_left c [] ds h = absurd h
among_left c (d ∷ cs) ds (inl e) = inl e
among_left c (d ∷ cs) ds (inr h) = inr (among_left c cs ds h)

pub among_right : {A : Type 0} (c : A) (cs ds : List A) → Among c ds → Among c (cs ++ ds)
among_right c [] ds h = h
among_right c (d ∷ cs) ds h = inr (among_right c cs ds h)

-- piece j of some nodes, where piece 0 has the number i
abbrev piece : (b l f i : ℕ) → List Order → (j : ℕ) → Chunk
piece b l f i os j = record { label = label l f (i + j); nodes = take b (drop (j * b) os) }

piece_first : (b l f i : ℕ) (os : List Order) → piece b l f i os 0 ≡ record { label = label l f i; nodes = take b os }
piece_first b l f i os = rw (add-zero, zero-mul)

piece_next : (b l f i : ℕ) (os : List Order) (j : ℕ) → piece b l f i os (suc j) ≡ piece b l f (suc i) (drop b os) j
piece_next b l f i os j =
    let n : i + suc j ≡ suc i + j = omega arith in
    let e : suc j * b ≡ b + j * b = omega arith in
    rw (n, e, drop-drop)

record Cut (b l f i : ℕ) (os : List Order) (c : Chunk) : Type 0 where
  pub past : ℕ
  pub is : c ≡ piece b l f i os past
  pub inside : past * b < length os

of_cut : (k b l f i : ℕ) (os : List Order) (c : Chunk) → Among c (chunks_of k b l f i os) → Cut b l f i os c
unfolding chunks_of
of_cut zero b l f i os c h = absurd h
of_cut (suc k) b l f i [] c h = absurd h
of_cut (suc k) b l f i (o ∷ os) c (inl e) = record { past = 0; is = e ∙ sym (piece_first b l f i (o ∷ os)); inside = rw zero-mul (omega arith) }
of_cut (suc k) b l f i (o ∷ os) c (inr h) =
    let w = of_cut k b l f (suc i) (drop b (o ∷ os)) c h in
    record { past = suc w.past; is = w.is ∙ sym (piece_next b l f i (o ∷ os) w.past); inside = omega (arith, w.inside, length-drop b (o ∷ os)) }

cut_of : (k b l f i : ℕ) (os : List Order) (j : ℕ) → 0 < b → length os ≤ k → j * b < length os → Among (piece b l f i os j) (chunks_of k b l f i os)
unfolding chunks_of
cut_of zero b l f i os j p q h = absurd (omega arith)
cut_of (suc k) b l f i [] j p q h = absurd (omega arith)
cut_of (suc k) b l f i (o ∷ os) zero p q h = inl (piece_first b l f i (o ∷ os))
cut_of (suc k) b l f i (o ∷ os) (suc j) p q h =
    let n = length-drop b (o ∷ os) in
    inr (subst (λ (c : Chunk). Among c (chunks_of k b l f (suc i) (drop b (o ∷ os)))) (sym (piece_next b l f i (o ∷ os) j))
    (cut_of k b l f (suc i) (drop b (o ∷ os)) j p (omega arith) (omega arith)))

record Of (s : Sizes) (l : ℕ) (ps : List (List Order)) (c : Chunk) : Type 0 where
  pub part : List Order
  pub among : Among part ps
  pub cut : Cut s.nodes l (first_key part) 0 (map (masked l) part) c

all_of : (s : Sizes) (l : ℕ) (ps : List (List Order)) (c : Chunk) → Among c (all_chunks s l ps) → Of s l ps c
unfolding all_chunks
all_of s l [] c h = absurd h
all_of s l (p ∷ ps) c h = go (among_append c (chunks_of (length p) s.nodes l (first_key p) 0 (map (masked l) p)) (all_chunks s l ps) h) (all_of s l ps c)
  where
    go : Among c (chunks_of (length p) s.nodes l (first_key p) 0 (map (masked l) p)) ⊎ Among c (all_chunks s l ps) → (Among c (all_chunks s l ps) → Of s l ps c) → Of s l (p ∷ ps) c
    go (inl w) ih = record { part = p; among = inl refl; cut = of_cut (length p) s.nodes l (first_key p) 0 (map (masked l) p) c w }
    go (inr w) ih = let v = ih w in record { part = v.part; among = inr v.among; cut = v.cut }

of_all : (s : Sizes) (l : ℕ) (ps : List (List Order)) (p : List Order) (j : ℕ) → 0 < s.nodes → Among p ps → j * s.nodes < length p
    → Among (piece s.nodes l (first_key p) 0 (map (masked l) p) j) (all_chunks s l ps)
unfolding all_chunks
of_all s l [] p j b h i = absurd h
of_all s l (q ∷ ps) p j b (inl e) i =
    let c = piece s.nodes l (first_key p) 0 (map (masked l) p) j in
    among_left c (chunks_of (length q) s.nodes l (first_key q) 0 (map (masked l) q)) (all_chunks s l ps)
    (subst (λ (z : List Order). Among c (chunks_of (length z) s.nodes l (first_key z) 0 (map (masked l) z))) e
    (cut_of (length p) s.nodes l (first_key p) 0 (map (masked l) p) j b (simp length-map (omega arith)) (simp length-map i)))
of_all s l (q ∷ ps) p j b (inr h) i = among_right _ (chunks_of (length q) s.nodes l (first_key q) 0 (map (masked l) q)) (all_chunks s l ps) (of_all s l ps p j b h i)

record From (k l : ℕ) (s : Sizes) (os : List Order) (c : Chunk) : Type 0 where
  pub low : l ≤ c.label.level
  pub high : c.label.level < l + k
  pub it : Of s c.label.level (partitions s c.label.level (list_at s c.label.level os)) c

from_of : (k l : ℕ) (s : Sizes) (os : List Order) (c : Chunk) → Among c (chunks_from k l s os) → From k l s os c
unfolding chunks_from
from_of zero l s os c h = absurd h
from_of (suc k) l s os c h = go (among_append c (all_chunks s l (partitions s l (list_at s l os))) (chunks_from k (suc l) s os) h) (from_of k (suc l) s os c)
  where
    go : Among c (all_chunks s l (partitions s l (list_at s l os))) ⊎ Among c (chunks_from k (suc l) s os) → (Among c (chunks_from k (suc l) s os) → From k (suc l) s os c) → From (suc k) l s os c
    go (inl w) ih =
        let v = all_of s l (partitions s l (list_at s l os)) c w in
        let e = ap (λ (z : Chunk). z.label.level) v.cut.is in
        record { low = omega (arith, e); high = omega (arith, e); it = subst (λ (z : ℕ). Of s z (partitions s z (list_at s z os)) c) (sym e) v }
    go (inr w) ih = let v = ih w in record { low = omega (arith, v.low); high = omega (arith, v.high); it = v.it }

of_from : (k l : ℕ) (s : Sizes) (os : List Order) (c : Chunk) → l ≤ c.label.level → c.label.level < l + k → Among c (all_chunks s c.label.level (partitions s c.label.level (list_at s c.label.level os))) → Among c (chunks_from k l s os)
unfolding chunks_from
of_from zero l s os c a b h = absurd (omega arith)
of_from (suc k) l s os c a b h = go (λ z. of_from k (suc l) s os c z (omega arith) h) (eqb c.label.level l) refl
  where
    go : (suc l ≤ c.label.level → Among c (chunks_from k (suc l) s os)) → (t : Bool) → eqb c.label.level l ≡ t → Among c (all_chunks s l (partitions s l (list_at s l os)) ++ chunks_from k (suc l) s os)
    go ih true e = among_left c (all_chunks s l (partitions s l (list_at s l os))) (chunks_from k (suc l) s os) (subst (λ (z : ℕ). Among c (all_chunks s z (partitions s z (list_at s z os)))) (eqb-true c.label.level l e) h)
    go ih false e = among_right c (all_chunks s l (partitions s l (list_at s l os))) (chunks_from k (suc l) s os) (ih (omega (arith, eqb-false c.label.level l e)))

-- pieces of masked nodes are masked pieces
masked_piece : (l b j : ℕ) (p : List Order) → map (masked l) (take b (drop (j * b) p)) ≡ take b (drop (j * b) (map (masked l) p))
masked_piece l b j p = rw (map_take, map_drop)

-- every chunk is a piece
pub piece_of : (s : Sizes) (os : List Order) (c : Chunk) → Among c (chunks s os) → Piece s os c
unfolding chunks
piece_of s os c h =
    let w = from_of (beta s) 1 s os c h in
    let v = w.it.cut in
    let n : v.past ≡ c.label.number = sym (ap (λ (z : Chunk). z.label.number) v.is ∙ zero-add v.past) in
    record {
      part = w.it.part;
      low = w.low;
      high = omega (arith, w.high);
      of_level = w.it.among;
      first_is = ap (λ (z : Chunk). z.label.first) v.is;
      inside = subst (λ (z : ℕ). z * s.nodes < length w.it.part) n (rw length-map at v.inside);
      nodes_are =
          ap (λ (z : Chunk). z.nodes) v.is ∙ sym (masked_piece c.label.level s.nodes v.past w.it.part)
          ∙ ap (λ (z : ℕ). map (masked c.label.level) (take s.nodes (drop (z * s.nodes) w.it.part))) n;
    }

-- .. and a piece has nodes, and no more than a chunk has
pub piece_filled : (s : Sizes) (os : List Order) (c : Chunk) → 0 < s.nodes → Piece s os c → (0 < length c.nodes) × (length c.nodes ≤ s.nodes)
piece_filled s os c b w = rw w.nodes_are (simp (length-map, length-take, length-drop) (omega (arith, w.inside)))

pub chunks_are : ChunksAre
unfolding ChunksAre chunks
chunks_are s os c m = (
  piece_of s os c,
  λ w.
      let l = c.label.level in
      let j = c.label.number in
      let nodes = w.nodes_are ∙ masked_piece l s.nodes j w.part in
      let is : c ≡ piece s.nodes l (first_key w.part) 0 (map (masked l) w.part) j =
      λ q. record { label = record { level = l; first = w.first_is q; number = sym (zero-add j) q }; nodes = nodes q } in
      of_from (beta s) 1 s os c w.low (omega (arith, w.high))
      (subst (λ (z : Chunk). Among z (all_chunks s l (partitions s l (list_at s l os)))) (sym is)
      (of_all s l (partitions s l (list_at s l os)) w.part j (limits s m).nodes_some w.of_level w.inside)),
)
