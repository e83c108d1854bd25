-- Make: its three questions, and the bytes that it leaves, which are the image of no orders.
use mathlib.Core.Path.{◌≡◌, refl, sym, ap, ◌∙◌, subst}
use mathlib.Core.Bool.{Bool, true, false, ◌&&◌, cond}
use mathlib.Core.List.{List, [], ◌∷◌, ◌++◌}
use Prim.Native.Nat.{ℕ, zero, suc, ◌+◌, ◌*◌, ◌≤◌}
use native.Mathlib.Omega.{arith}
use native.Mathlib.Nat.{suc-mul, add_comm, zero-mul}
use lib.Dec.{leb, eqb}
use borrow.Author.Tests.{leb-true, leb-false, eqb-true, eqb-false, le-leb, lt-leb}
use lib.ListN.{length, take, drop, replicate, length-replicate, replicate-append-replicate}
use lib.Seq.{take_all, drop_at}
use Rattle.sizes.specs.Orders.{sorted}
use Rattle.sizes.specs.Numbers.{rows, rows_in}
use Rattle.sizes.specs.Sizes.{beta, sizes_good, seed_good, made}
use Rattle.sizes.specs.Header.{block_long, table_long, header}
use Rattle.placement.specs.Blocks.{empty, placed}
use Rattle.placement.specs.Chunks.{Chunk, block_bytes, all_bytes}
use Rattle.placement.specs.Place.{Shaped}
use Rattle.placement.specs.Labels.{label, same_label}
use Rattle.placement.specs.Maps.{Keeps, map_of, Table}
use Rattle.sizes.specs.declared.Sizes.{Sizes}
use Rattle.placement.specs.declared.Order.{Order}
use Rattle.sizes.proofs.Laws.Sizes.{limits, some_blocks}
use Rattle.sizes.proofs.Laws.Headers.{header_long, header_sizes}
use Rattle.placement.proofs.Laws.Keeps.{placed_keeps}
use Rattle.placement.proofs.Laws.Tables.{shaped}
use Rattle.skiplist.specs.Lists.{front, at_least, list_at, starts_one, run, rest, partitions, first_key, masked, chunks_of, all_chunks, chunks_from, chunks}
use Rattle.skiplist.specs.Image.{image}
use Rattle.skiplist.specs.Questions.{Parameters, sizes}
use Rattle.skiplist.proofs.Laws.Kept.{kept_none}
use Rattle.skiplist.proofs.Laws.Image.{is_the_image}
use Rattle.table.specs.Make.{fronts_map, Fronts}

-- A TABLE OF NO CHUNKS: the header, and zeros
abbrev zeros : ℕ → List ℕ
zeros k = replicate k 0

empty_bytes : (s : Sizes) (m : ℕ) → all_bytes s (replicate m empty) ≡ zeros (m * block_long s)
unfolding rows block_bytes
empty_bytes s zero = rw zero-mul
empty_bytes s (suc m) =
    let e : suc m * block_long s ≡ block_long s + m * block_long s = suc-mul m (block_long s) ∙ add_comm (m * block_long s) (block_long s) in
    rw (empty_bytes s m, e) (replicate-append-replicate (block_long s) (m * block_long s) 0)

drop_zeros : (a k : ℕ) → drop a (zeros (a + k)) ≡ zeros k
drop_zeros a k = ap (drop a) (sym (replicate-append-replicate a k 0)) ∙ drop_at (zeros a) (zeros k) a (length-replicate a 0)

empty_keeps : (s : Sizes) → made s ≡ true → Keeps s (replicate s.blocks empty) (map_of []) 0
unfolding placed sorted
empty_keeps s m = placed_keeps s [] (some_blocks s m) tt (omega arith) (λ c a. absurd a)

pub filled_long : (s : Sizes) (x x₁ : List ℕ) → length x ≡ table_long s → x₁ ≡ replicate (length x) 0 → 53 ≤ length x₁
unfolding table_long
filled_long s x x₁ long e = omega (arith, ap length e ∙ length-replicate (length x) 0)

module _ (s : Sizes) (m : made s ≡ true) (x x₁ x₂ : List ℕ) (long : length x ≡ table_long s) (e₁ : x₁ ≡ replicate (length x) 0) (e₂ : x₂ ≡ header s 0 ++ drop 53 x₁) where
  zeros_left : x₂ ≡ header s 0 ++ all_bytes s (replicate s.blocks empty)
  unfolding table_long
  zeros_left = e₂ ∙ ap (λ (z : List ℕ). header s 0 ++ z) (ap (drop 53) (e₁ ∙ ap zeros long) ∙ drop_zeros 53 (s.blocks * block_long s) ∙ sym (empty_bytes s s.blocks))

  empty_table : Table s (map_of []) 0 (header s 0) x₂
  unfolding map_of
  empty_table = record {
    good = m;
    head = header_long s 0 (limits s m).ten;
    sizes = header_sizes s 0 (limits s m);
    sound = λ l f i w. absurd (w refl);
    blocks = replicate s.blocks empty;
    is = zeros_left;
    keeps = empty_keeps s m;
  }

  pub empty_shaped : Shaped s x₂
  empty_shaped = shaped s (map_of []) 0 (header s 0) x₂ empty_table

-- THE CHUNKS OF NO ORDERS
abbrev front_chunk : ℕ → Chunk
front_chunk l = record { label = label l 0 0; nodes = front ∷ [] }

masked_front : (l : ℕ) → masked l front ≡ front
unfolding masked front
masked_front l = go (eqb l 1)
  where
    go : (t : Bool) → ◌≡◌ {A = Order} (record { key = 0; total = cond t 0 0; displayed = cond t 0 0; price = cond t 0 0 }) (record { key = 0; total = 0; displayed = 0; price = 0 })
    go true = refl
    go false = refl

front_alone : (s : Sizes) (l : ℕ) → 1 ≤ s.nodes → all_chunks s l (partitions s l (list_at s l [])) ≡ front_chunk l ∷ []
unfolding list_at at_least partitions rest run starts_one all_chunks chunks_of first_key front
front_alone s l h =
    let e : take s.nodes (masked l front ∷ []) ≡ front ∷ [] = rw (masked_front l) (take_all s.nodes (front ∷ []) h) in
    ap (λ (ns : List Order). record { label = label l 0 0; nodes = ns } ∷ []) e

chunks_more : (s : Sizes) (k l : ℕ) → 1 ≤ s.nodes → chunks_from (suc k) l s [] ≡ front_chunk l ∷ chunks_from k (suc l) s []
unfolding chunks_from
chunks_more s k l h = ap (λ (cs : List Chunk). cs ++ chunks_from k (suc l) s []) (front_alone s l h)

chunks_map : (s : Sizes) (k l top : ℕ) → 1 ≤ s.nodes → l + k ≡ suc top → (x f i : ℕ)
    → map_of (chunks_from k l s []) x f i ≡ cond ((leb l x && leb x top) && (eqb 0 f && eqb 0 i)) (front ∷ []) []
unfolding chunks_from map_of same_label
chunks_map s zero l top h e x f i = go (leb l x) refl (leb x top) refl
  where
    go : (t : Bool) → leb l x ≡ t → (u : Bool) → leb x top ≡ u → [] ≡ cond ((t && u) && (eqb 0 f && eqb 0 i)) (front ∷ []) []
    go true p true q = absurd (omega (arith, leb-true l x p, leb-true x top q))
    go true p false q = refl
    go false p u q = refl
chunks_map s (suc k) l top h e x f i =
    ap (λ (cs : List Chunk). map_of cs x f i) (chunks_more s k l h) ∙ go (eqb l x) refl (leb l x) refl (chunks_map s k (suc l) top h (omega arith) x f i)
  where
    go : (t : Bool) → eqb l x ≡ t → (u : Bool) → leb l x ≡ u → map_of (chunks_from k (suc l) s []) x f i ≡ cond ((leb (suc l) x && leb x top) && (eqb 0 f && eqb 0 i)) (front ∷ []) []
        → cond (t && (eqb 0 f && eqb 0 i)) (front ∷ []) (map_of (chunks_from k (suc l) s []) x f i) ≡ cond ((u && leb x top) && (eqb 0 f && eqb 0 i)) (front ∷ []) []
    go true p true q ih =
        let w = eqb-true l x p in
        rw (ih, le-leb x top (omega arith), lt-leb (suc l) x (omega arith))
    go true p false q ih = absurd (omega (arith, eqb-true l x p, leb-false l x q))
    go false p true q ih =
        let ne = eqb-false l x p in
        rw (ih, le-leb (suc l) x (omega (arith, leb-true l x q, ne)))
    go false p false q ih = rw (ih, lt-leb (suc l) x (omega (arith, leb-false l x q)))

fronts_chunks : (s : Sizes) → made s ≡ true → (l f i : ℕ) → fronts_map (beta s) l f i ≡ map_of (chunks s []) l f i
unfolding chunks fronts_map
fronts_chunks s m l f i = sym (chunks_map s (beta s) 1 (beta s) (limits s m).nodes_some (omega arith) l f i)

-- the image of no orders
pub fronts_image : (s : Sizes) (m : made s ≡ true) (x x₁ x₂ : List ℕ) (long : length x ≡ table_long s) → x₁ ≡ replicate (length x) 0 → x₂ ≡ header s 0 ++ drop 53 x₁
    → (top : ℕ) (z : List ℕ) → top ≡ beta s → Fronts s top x₂ z → z ≡ image s []
unfolding Fronts
fronts_image s m x x₁ x₂ long e₁ e₂ top z e f =
    let t = f (header s 0) (rw e (limits s m).blocks_least) (empty_table s m x x₁ x₂ long e₁ e₂) in
    let q : Table s (fronts_map (beta s)) (beta s) (header s 0) z = subst (λ (k : ℕ). Table s (fronts_map k) k (header s 0) z) e t in
    let k = kept_none s (limits s m) in
    is_the_image s [] (fronts_map (beta s)) (beta s) z k.good k.fit q (fronts_chunks s m)

-- sizes and seed that pass questions 1 and 2
pub given_made : (q : Parameters) (s : Sizes) → s ≡ sizes q → true ≡ seed_good s.seed → true ≡ sizes_good s → made s ≡ true
unfolding made sizes rows_in
given_made q s e h g = rw (← h, ← g, ap (λ (z : Sizes). length z.seed) e) refl
