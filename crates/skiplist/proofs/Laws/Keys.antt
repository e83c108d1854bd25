-- The number of chunks depends on the keys alone: an order that takes the place of another with its key leaves it as it is.
use mathlib.Core.Path.{◌≡◌, refl, sym, ap, ◌∙◌}
use mathlib.Core.List.{List, [], ◌∷◌, ◌++◌, map, append_assoc}
use Prim.Native.Nat.{ℕ, zero, suc, ◌<◌}
use native.Mathlib.Omega.{arith}
use lib.ListN.{length}
use Rattle.sizes.specs.Sizes.{beta}
use Rattle.sizes.specs.Hash.{level}
use Rattle.sizes.specs.declared.Sizes.{Sizes}
use Rattle.placement.specs.declared.Order.{Order}
use Rattle.sizes.proofs.Laws.Round.{Which, which, less, same, more}
use Rattle.sizes.proofs.Laws.Sizes.{some_nodes}
use Rattle.skiplist.specs.Lists.{chunks}
use Rattle.skiplist.specs.Promise.{ChunksByKeys}
use Rattle.skiplist.proofs.Laws.Parts.{Up, up_from, good_up}
use Rattle.skiplist.proofs.Laws.Count.{count, counts, count_low, count_same, count_high, length_chunks}

module _ (s : Sizes) (xs : List Order) (y o : Order) (zs : List Order) (e : y.key ≡ o.key) (p : 0 < y.key) where
  same_level : level s y.key ≡ level s o.key
  same_level = ap (level s) e

  pub count_swap : (l : ℕ) → count s l (xs ++ y ∷ zs) ≡ count s l (xs ++ o ∷ zs)
  count_swap l = go (which l (level s o.key))
    where
      q : 0 < o.key
      q = omega (arith, e, p)

      go : Which l (level s o.key) → count s l (xs ++ y ∷ zs) ≡ count s l (xs ++ o ∷ zs)
      go (less h) = omega (arith, count_high s l xs y zs p (rw same_level h), count_high s l xs o zs q h)
      go (same h) = omega (arith, count_same s l xs y zs p (same_level ∙ sym h), count_same s l xs o zs q (sym h))
      go (more h) = count_low s l xs y zs p (rw same_level h) ∙ sym (count_low s l xs o zs q h)

  counts_swap : (k l : ℕ) → counts k l s (xs ++ y ∷ zs) ≡ counts k l s (xs ++ o ∷ zs)
  unfolding counts
  counts_swap zero l = refl
  counts_swap (suc k) l = omega (arith, count_swap l, counts_swap k (suc l))

  pub chunks_swap : 0 < s.nodes → length (chunks s (xs ++ y ∷ zs)) ≡ length (chunks s (xs ++ o ∷ zs))
  chunks_swap b = rw (length_chunks s (xs ++ y ∷ zs) b, length_chunks s (xs ++ o ∷ zs) b) (counts_swap (beta s) 1)

-- one order after the other
abbrev key_of : Order → ℕ
key_of o = o.key

first_two : (x y : ℕ) (xs ys : List ℕ) → x ∷ xs ≡ y ∷ ys → (x ≡ y) × (xs ≡ ys)
first_two x y xs ys e = (ap head_of e, ap tail_of e)
  where
    head_of : List ℕ → ℕ
    head_of [] = 0
    head_of (z ∷ zs) = z

    tail_of : List ℕ → List ℕ
    tail_of [] = []
    tail_of (z ∷ zs) = zs

behind : (s : Sizes) (xs os qs : List Order) → 0 < s.nodes → Up 1 os → map key_of os ≡ map key_of qs → length (chunks s (xs ++ os)) ≡ length (chunks s (xs ++ qs))
behind s xs [] [] b u e = refl
behind s xs [] (q ∷ qs) b u e = absurd (omega (arith, ap length e))
behind s xs (o ∷ os) [] b u e = absurd (omega (arith, ap length e))
behind s xs (o ∷ os) (q ∷ qs) b u e =
    let w = first_two o.key q.key (map key_of os) (map key_of qs) e in
    chunks_swap s xs o q os w.0 (omega (arith, u.0)) b
    ∙ (rw (append_assoc xs (q ∷ []) os, append_assoc xs (q ∷ []) qs) at (behind s (xs ++ q ∷ []) os qs b (up_from os (omega arith) u.1) w.1))

pub chunks_by_keys : ChunksByKeys
unfolding ChunksByKeys
chunks_by_keys s os qs m g h e = behind s [] os qs (some_nodes s m) (good_up s 1 os g) e
