-- The chunks of some orders, seen as a map from labels to nodes: what stands under (l, f, i) is the i-th piece of the partition that f heads, masked.
use mathlib.Core.Path.{ap, ◌≡◌, refl, ◌∙◌}
use mathlib.Core.Bool.{Bool, true, false, cond, and-false}
use mathlib.Core.List.{List, [], ◌∷◌, ◌++◌, map, append_assoc, append-nil}
use Prim.Native.Nat.{ℕ, zero, suc, ◌+◌, ◌*◌, ◌≤◌, ◌<◌}
use native.Mathlib.Nat.{zero-add, zero-mul, suc-mul, add_comm, add-zero}
use native.Mathlib.Omega.{arith}
use borrow.Author.Tests.{eqb-true, eq-eqb, ne_eqb}
use lib.Dec.{eqb}
use lib.ListN.{length, take, drop, length-drop, length-map}
use lib.Seq.{take-nil, drop-nil, drop-drop}
use Rattle.sizes.specs.Sizes.{beta}
use Rattle.placement.specs.Chunks.{Chunk}
use Rattle.placement.specs.Labels.{label, same_label}
use Rattle.placement.specs.declared.Label.{Label}
use Rattle.sizes.proofs.Laws.Round.{Which, which, less, same, more}
use Rattle.sizes.specs.declared.Sizes.{Sizes}
use Rattle.placement.specs.declared.Order.{Order}
use Rattle.skiplist.specs.Lists.{list_at, partitions, first_key, masked, chunks_of, all_chunks, chunks_from, chunks}
use Rattle.skiplist.proofs.Laws.Parts.{Up, Heads, pick, part, pick_past}
use Rattle.skiplist.proofs.Laws.Edits.{parts_heads}
use Rattle.skiplist.proofs.Laws.Masks.{map_take, map_drop}

-- THE NODES of every chunk whose label passes a test
unfoldable pub picked : (Label → Bool) → List Chunk → List Order
picked t [] = []
picked t (c ∷ cs) = cond (t c.label) c.nodes [] ++ picked t cs

module _ (t : Label → Bool) where
  pub picked_append : (cs ds : List Chunk) → picked t (cs ++ ds) ≡ picked t cs ++ picked t ds
  unfolding picked
  picked_append [] ds = refl
  picked_append (c ∷ cs) ds = rw (picked_append cs ds, append_assoc)

  -- chunks of a partition, levels and all levels, none of which passes
  pub none_of : (k b l f j : ℕ) (p : List Order) → ((n : ℕ) → j ≤ n → t (label l f n) ≡ false) → picked t (chunks_of k b l f j p) ≡ []
  unfolding picked chunks_of
  none_of zero b l f j p h = refl
  none_of (suc k) b l f j [] h = refl
  none_of (suc k) b l f j (o ∷ os) h = rw (h j (omega arith)) (none_of k b l f (suc j) (drop b (o ∷ os)) (λ n g. h n (omega arith)))

  module _ (s : Sizes) where
    none_all : (l : ℕ) (ps : List (List Order)) → ((f n : ℕ) → t (label l f n) ≡ false) → picked t (all_chunks s l ps) ≡ []
    unfolding picked all_chunks
    none_all l [] h = refl
    none_all l (p ∷ ps) h = rw (picked_append, none_of (length p) s.nodes l (first_key p) 0 (map (masked l) p) (λ n g. h (first_key p) n)) (none_all l ps h)

    pub none_from : (k l : ℕ) (os : List Order) → ((l' f n : ℕ) → l ≤ l' → l' < l + k → t (label l' f n) ≡ false) → picked t (chunks_from k l s os) ≡ []
    unfolding picked chunks_from
    none_from zero l os h = refl
    none_from (suc k) l os h =
        rw (picked_append, none_all l (partitions s l (list_at s l os)) (λ f n. h l f n (omega arith) (omega arith)))
        (none_from k (suc l) os (λ l' f n a b. h l' f n (omega arith) (omega arith)))

    -- only chunks of one level pass
    pub picked_from : (k l m : ℕ) (os : List Order) → l ≤ m → m < l + k → ((l' f n : ℕ) → (l' ≡ m → ⊥) → t (label l' f n) ≡ false)
        → picked t (chunks_from k l s os) ≡ picked t (all_chunks s m (partitions s m (list_at s m os)))
    unfolding chunks_from
    picked_from zero l m os a b h = absurd (omega arith)
    picked_from (suc k) l m os a b h = rw picked_append (go (λ e. picked_from k (suc l) m os e (omega arith) h) (which l m))
      where
        go : (suc l ≤ m → picked t (chunks_from k (suc l) s os) ≡ picked t (all_chunks s m (partitions s m (list_at s m os)))) → Which l m
            → picked t (all_chunks s l (partitions s l (list_at s l os))) ++ picked t (chunks_from k (suc l) s os)
            ≡ picked t (all_chunks s m (partitions s m (list_at s m os)))
        go ih (less q) = rw (none_all l (partitions s l (list_at s l os)) (λ f n. h l f n (λ e. omega arith))) (ih q)
        go ih (same q) = rw (q, none_from k (suc m) os (λ l' f n c d. h l' f n (λ e. omega arith)), append-nil)
        go ih (more q) = absurd (omega arith)

-- ONE LABEL
abbrev is_label : (l f i : ℕ) → Label → Bool
is_label l f i w = same_label w (label l f i)

abbrev pub content : (l f i : ℕ) → List Chunk → List Order
content l f i cs = picked (is_label l f i) cs

module _ (l f : ℕ) where
  pub content_of : (n k b j : ℕ) (p : List Order) → 0 < b → length p ≤ k → content l f (j + n) (chunks_of k b l f j p) ≡ take b (drop (n * b) p)
  unfolding picked chunks_of same_label
  content_of n zero b j [] h g = rw (drop-nil (n * b), take-nil b)
  content_of n zero b j (o ∷ os) h g = absurd (omega arith)
  content_of n (suc k) b j [] h g = rw (drop-nil (n * b), take-nil b)
  content_of zero (suc k) b j (o ∷ os) h g =
      rw (
        add-zero,
        zero-mul,
        eq-eqb l l refl,
        eq-eqb f f refl,
        eq-eqb j j refl,
        none_of (is_label l f (j + 0)) k b l f (suc j) (drop b (o ∷ os)) (λ m q. rw (add-zero, ne_eqb m j (omega arith), and-false, and-false)),
        append-nil,
      )
  content_of (suc n) (suc k) b j (o ∷ os) h g =
      let e : j + suc n ≡ suc j + n = omega arith in
      rw (ne_eqb j (j + suc n) (omega arith), and-false, and-false, ap (λ (i : ℕ). picked (is_label l f i) (chunks_of k b l f (suc j) (drop b (o ∷ os)))) e, suc-mul, add_comm (n * b) b, ← drop-drop)
      (content_of n k b (suc j) (drop b (o ∷ os)) h (simp length-drop (omega arith)))

module _ (s : Sizes) (l f i : ℕ) where
  pub content_all : (ps : List (List Order)) (a : ℕ) → 0 < s.nodes → Heads a ps → content l f i (all_chunks s l ps) ≡ map (masked l) (take s.nodes (drop (i * s.nodes) (pick f ps)))
  unfolding picked all_chunks pick same_label
  content_all [] a h u = rw (drop-nil (i * s.nodes), take-nil s.nodes)
  content_all (p ∷ ps) a h u = rw (picked_append, content_all ps _ h u.1) (go (eqb (first_key p) f) refl)
    where
      go : (t : Bool) → eqb (first_key p) f ≡ t →
          content l f i (chunks_of (length p) s.nodes l (first_key p) 0 (map (masked l) p)) ++ map (masked l) (take s.nodes (drop (i * s.nodes) (pick f ps)))
          ≡ map (masked l) (take s.nodes (drop (i * s.nodes) (cond t p [] ++ pick f ps)))
      go true e =
          rw (
            pick_past f ps (suc (first_key p)) (omega (arith, eqb-true (first_key p) f e)) u.1,
            drop-nil (i * s.nodes),
            take-nil s.nodes,
            append-nil (content l f i (chunks_of (length p) s.nodes l (first_key p) 0 (map (masked l) p))),
            append-nil p,
            eqb-true (first_key p) f e,
            map_take,
            map_drop,
          )
          (rw zero-add at (content_of l f i (length p) s.nodes 0 (map (masked l) p) h (simp length-map (omega arith))))
      go false e = rw (none_of (is_label l f i) (length p) s.nodes l (first_key p) 0 (map (masked l) p) (λ n q. rw (e, and-false)))

  -- WHAT STANDS UNDER A LABEL
  pub content_is : (os : List Order) → 0 < s.nodes → Up 1 os → 1 ≤ l → l ≤ beta s → content l f i (chunks s os) ≡ map (masked l) (take s.nodes (drop (i * s.nodes) (part s os l f)))
  unfolding chunks part same_label
  content_is os b u h g =
      picked_from (is_label l f i) s (beta s) 1 l os h (omega arith) (λ l' f' n e. rw (ne_eqb l' l e))
      ∙ content_all (partitions s l (list_at s l os)) 0 b (parts_heads s l os u)

  -- levels past the last, and before the first
  pub content_outside : (os : List Order) → beta s < l → content l f i (chunks s os) ≡ []
  unfolding chunks same_label
  content_outside os h = none_from (is_label l f i) s (beta s) 1 os (λ l' f' n a b. rw (ne_eqb l' l (omega arith)))

  pub content_level_zero : (os : List Order) → l ≡ 0 → content l f i (chunks s os) ≡ []
  unfolding chunks same_label
  content_level_zero os h = none_from (is_label l f i) s (beta s) 1 os (λ l' f' n a b. rw (ne_eqb l' l (omega arith)))
