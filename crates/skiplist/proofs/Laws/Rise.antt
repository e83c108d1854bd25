-- Labels rise in the list of chunks, lower levels first.
use mathlib.Core.Path.{◌≡◌, refl}
use mathlib.Core.Bool.{true}
use mathlib.Core.List.{List, [], ◌∷◌, ◌++◌, map, append_assoc}
use Prim.Native.Nat.{ℕ, zero, suc, ◌≤◌, ◌<◌}
use native.Mathlib.Omega.{arith}
use lib.ListN.{length, drop}
use Rattle.sizes.specs.Sizes.{beta}
use Rattle.placement.specs.Labels.{label}
use Rattle.placement.specs.Chunks.{Chunk}
use Rattle.sizes.specs.declared.Sizes.{Sizes}
use Rattle.placement.specs.declared.Order.{Order}
use Rattle.placement.specs.declared.Label.{Label}
use Rattle.placement.proofs.Laws.Labels.{lower, lower_first, by_level, by_first, by_number}
use Rattle.skiplist.specs.Lists.{list_at, partitions, first_key, masked, chunks_of, all_chunks, chunks_from, chunks}
use Rattle.skiplist.proofs.Laws.Parts.{Up, Heads}
use Rattle.skiplist.proofs.Laws.Edits.{parts_heads}

-- labels rise, from one on
abbrev pub Rises : Label → List Chunk → Type 0
Rises w [] = Unit {0}
Rises w (c ∷ cs) = (lower_first w c.label ≡ true) × Rises c.label cs

of_rise : (k b l f i : ℕ) (p : List Order) (ds : List Chunk) (w : Label) → lower_first w (label l f i) ≡ true → ((j : ℕ) → Rises (label l f j) ds) → Rises w ds →
    Rises w (chunks_of k b l f i p ++ ds)
unfolding chunks_of
of_rise zero b l f i p ds w h g e = e
of_rise (suc k) b l f i [] ds w h g e = e
of_rise (suc k) b l f i (o ∷ os) ds w h g e =
    (h, of_rise k b l f (suc i) (drop b (o ∷ os)) ds (label l f i) (by_number lower (label l f i) (label l f (suc i)) refl refl (omega arith)) g (g i))

all_rise : (s : Sizes) (l : ℕ) (ps : List (List Order)) (ds : List Chunk) (a : ℕ) (w : Label) → Heads a ps → ((f : ℕ) → a ≤ f → lower_first w (label l f 0) ≡ true) →
    ((f j : ℕ) → Rises (label l f j) ds) → Rises w ds → Rises w (all_chunks s l ps ++ ds)
unfolding all_chunks
all_rise s l [] ds a w u h g e = e
all_rise s l (p ∷ ps) ds a w u h g e =
    rw (append_assoc (chunks_of (length p) s.nodes l (first_key p) 0 (map (masked l) p)) (all_chunks s l ps) ds)
    (of_rise (length p) s.nodes l (first_key p) 0 (map (masked l) p) (all_chunks s l ps ++ ds) w (h (first_key p) u.0)
    (λ j. all_rise s l ps ds (suc (first_key p)) (label l (first_key p) j) u.1 (λ f q. by_first lower (label l (first_key p) j) (label l f 0) refl q) g (g (first_key p) j))
    (all_rise s l ps ds (suc (first_key p)) w u.1 (λ f q. h f (omega (arith, u.0))) g e))

from_rise : (k l : ℕ) (w : Label) (s : Sizes) (os : List Order) → Up 1 os → w.level < l → Rises w (chunks_from k l s os)
unfolding chunks_from
from_rise zero l w s os u h = tt
from_rise (suc k) l w s os u h =
    all_rise s l (partitions s l (list_at s l os)) (chunks_from k (suc l) s os) 0 w (parts_heads s l os u)
    (λ f q. by_level w (label l f 0) h) (λ f j. from_rise k (suc l) (label l f j) s os u (omega arith)) (from_rise k (suc l) w s os u (omega arith))

pub chunks_rise : (s : Sizes) (os : List Order) → Up 1 os → Rises (label 0 0 0) (chunks s os)
unfolding chunks
chunks_rise s os u = from_rise (beta s) 1 (label 0 0 0) s os u (omega arith)
