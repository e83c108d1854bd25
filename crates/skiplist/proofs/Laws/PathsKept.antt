-- A path has at most as many blocks as the table, and shows one partition of each level.
use mathlib.Core.Path.{◌≡◌, refl, sym, ap, ◌∙◌, subst}
use mathlib.Core.Bool.{true}
use mathlib.Core.List.{List, [], ◌∷◌, ◌++◌, map}
use mathlib.Core.Logic.{◌⊎◌, inl, inr}
use Prim.Native.Nat.{ℕ, zero, suc, ◌+◌, ◌*◌, ◌≤◌, ◌<◌}
use native.Mathlib.Nat.{add-zero}
use native.Mathlib.Omega.{arith}
use borrow.Author.Tests.{le-leb}
use lib.ListN.{length, get_or, take, drop, length-append, length-map}
use Rattle.sizes.specs.Sizes.{beta, made}
use Rattle.sizes.specs.Header.{header}
use Rattle.sizes.specs.declared.Sizes.{Sizes}
use Rattle.placement.specs.Blocks.{Among, empty, holds, around}
use Rattle.placement.specs.Chunks.{Chunk}
use Rattle.placement.specs.Maps.{labelled, map_of}
use Rattle.placement.specs.declared.Order.{Order}
use Rattle.placement.specs.declared.Label.{Label}
use Rattle.sizes.proofs.Laws.Sizes.{limits}
use Rattle.skiplist.specs.Lists.{first_key, masked, part, pieces, chunks, blocks}
use Rattle.skiplist.specs.Image.{image, orders_good, fits}
use Rattle.skiplist.specs.Parts.{count, counts}
use Rattle.skiplist.specs.Rules.{Piece, ChunksAre}
use Rattle.skiplist.specs.Paths.{labels_from, path_labels, stands_in, descent_path, PathFits, goes_down, OneWay, PathOneWay}
use Rattle.skiplist.proofs.Laws.Parts.{Up, good_up, below}
use Rattle.skiplist.proofs.Laws.Edits.{head_part, tail_part, parts_before, parts_after, parts_split, head_part_first, part_at}
use Rattle.skiplist.proofs.Laws.Count.{pieces_under, pieces_up_to, count_split, length_chunks}
use Rattle.skiplist.proofs.Laws.Kept.{fits_parts}
use Rattle.skiplist.proofs.Laws.Pieces.{among_append, among_right, chunks_are}
use Rattle.skiplist.proofs.Laws.Image.{image_keeps}
use Rattle.skiplist.proofs.Laws.Paths.{by_cut, path_step, stands_there}
use Rattle.skiplist.proofs.Laws.Arranged.{blocks_placing}

pub length_labels : (n l f i : ℕ) → length (labels_from n l f i) ≡ n
unfolding labels_from
length_labels zero l f i = refl
length_labels (suc n) l f i = ap suc (length_labels n l f (suc i))

counts_last : (k l : ℕ) (s : Sizes) (os : List Order) → counts (suc k) l s os ≡ counts k l s os + count s (l + k) os
unfolding counts
counts_last zero l s os = rw (add-zero l) (omega arith)
counts_last (suc k) l s os =
    let e : l + suc k ≡ suc l + k = omega arith in
    rw (counts_last k (suc l) s os, e) (omega arith)

record Counted (l f i n : ℕ) (w : Label) : Type 0 where
  pub level : w.level ≡ l
  pub first : w.first ≡ f
  pub number : w.number < i + n

of_labels : (n l f i : ℕ) (w : Label) → Among w (labels_from n l f i) → Counted l f i n w
unfolding labels_from
of_labels zero l f i w a = absurd a
of_labels (suc n) l f i w (inl e) = rw e (record { level = refl; first = refl; number = omega arith })
of_labels (suc n) l f i w (inr a) = let v = of_labels n l f (suc i) w a in record { level = v.level; first = v.first; number = omega (arith, v.number) }

-- THE CHUNK with a label, and the block where it stands in an image
abbrev chunk_at : Sizes → List Order → Label → Chunk
chunk_at s os w = labelled w (map (masked w.level) (take s.nodes (drop (w.number * s.nodes) (part s os w.level w.first))))

block_of : (s : Sizes) (os : List Order) → made s ≡ true → orders_good s 1 os ≡ true → fits s os ≡ true → (c : Chunk) → Among c (chunks s os) →
    get_or (blocks s os) (stands_in (blocks s os) c.label) empty ≡ holds c
unfolding around image_keeps
block_of s os m g f c a =
    let t = (blocks_placing s os m g f).comes c a in
    rw (stands_there s (map_of (chunks s os)) (length (chunks s os)) (header s (length os)) (image s os) (image_keeps s os m g f) c t.at t.is) t.is

levels_fall : (s : Sizes) (os : List Order) (n l f i : ℕ) (ws : List Label) → ((w : Label) → Among w ws → w.level ≤ l) → goes_down (map (chunk_at s os) ws) ≡ true →
    goes_down (map (chunk_at s os) (labels_from n l f i ++ ws)) ≡ true
unfolding goes_down labels_from
levels_fall s os zero l f i ws h e = e
levels_fall s os (suc zero) l f i [] h e = refl
levels_fall s os (suc zero) l f i (w ∷ ws) h e = rw (le-leb w.level l (h w (inl refl))) e
levels_fall s os (suc (suc n)) l f i ws h e = rw (le-leb l l (omega arith)) (levels_fall s os (suc n) l f (suc i) ws h e)

map_both : {A B C D : Type 0} (f : A → B) (g : B → D) (h : A → C) (k : C → D) (xs : List A) → ((x : A) → Among x xs → g (f x) ≡ k (h x)) → map g (map f xs) ≡ map k (map h xs)
map_both f g h k [] e = refl
map_both f g h k (x ∷ xs) e = rw (e x (inl refl), map_both f g h k xs (λ z a. e z (inr a)))

-- what holds of some holds of what they are mapped to
of_map : {A B : Type 0} (f : A → B) (P : B → Type 0) (xs : List A) → ((x : A) → Among x xs → P (f x)) → (y : B) → Among y (map f xs) → P y
of_map f P [] h y a = absurd a
of_map f P (x ∷ xs) h y (inl e) = rw e (h x (inl refl))
of_map f P (x ∷ xs) h y (inr a) = of_map f P xs (λ z b. h z (inr b)) y a

-- a label of the path: its partition is the one that is open, and has so many nodes that the chunk is there
record On (s : Sizes) (xs : List Order) (k : ℕ) (w : Label) : Type 0 where
  pub low : 1 ≤ w.level
  pub high : w.level ≤ k
  pub first : w.first ≡ first_key (head_part s w.level xs)
  pub inside : w.number * s.nodes < length (head_part s w.level xs)

module _ (s : Sizes) (m : made s ≡ true) (y : ℕ) (xs zs : List Order) (u : Up 1 (xs ++ zs)) (f : below (suc y) xs ≡ true) (g : Up (suc y) zs) where
  some : 0 < s.nodes
  some = (limits s m).nodes_some

  here : (k : ℕ) → List Label
  here k = labels_from (pieces s.nodes (length (head_part s k xs))) k (first_key (head_part s k xs)) 0

  path_few : (k : ℕ) → length (path_labels s (xs ++ zs) y k) ≤ counts k 1 s (xs ++ zs)
  unfolding path_labels
  path_few zero = omega arith
  path_few (suc k) =
      let e : 1 + k ≡ suc k = omega arith in
      rw (path_step s y xs zs u f g k, length-append, length_labels, counts_last k 1 s (xs ++ zs), e, count_split s (suc k) xs zs)
      (omega (arith, path_few k, pieces_up_to s.nodes (length (head_part s (suc k) xs)) (length (head_part s (suc k) xs) + length (tail_part s (suc k) zs)) some (omega arith)))

  on_here : (k : ℕ) (w : Label) → 1 ≤ k → Among w (here k) → On s xs k w
  unfolding here
  on_here k w h a =
      let v = of_labels (pieces s.nodes (length (head_part s k xs))) k (first_key (head_part s k xs)) 0 w a in
      record {
        low = omega (arith, v.level);
        high = omega (arith, v.level);
        first = rw v.level v.first;
        inside = rw v.level (pieces_under s.nodes (length (head_part s k xs)) w.number some (omega (arith, v.number)));
      }

  on_path : (k : ℕ) (w : Label) → Among w (path_labels s (xs ++ zs) y k) → On s xs k w
  unfolding path_labels here
  on_path zero w a = absurd a
  on_path (suc k) w a = go (among_append w (here (suc k)) (path_labels s (xs ++ zs) y k) (subst (Among w) (path_step s y xs zs u f g k) a)) (on_path k w)
    where
      go : Among w (here (suc k)) ⊎ Among w (path_labels s (xs ++ zs) y k) → (Among w (path_labels s (xs ++ zs) y k) → On s xs k w) → On s xs (suc k) w
      go (inl h) ih = on_here (suc k) w (omega arith) h
      go (inr h) ih = let v = ih h in record { low = v.low; high = omega (arith, v.high); first = v.first; inside = v.inside }

  path_falls : (k : ℕ) → goes_down (map (chunk_at s (xs ++ zs)) (path_labels s (xs ++ zs) y k)) ≡ true
  unfolding path_labels goes_down
  path_falls zero = refl
  path_falls (suc k) =
      rw (path_step s y xs zs u f g k)
      (levels_fall s (xs ++ zs) (pieces s.nodes (length (head_part s (suc k) xs))) (suc k) (first_key (head_part s (suc k) xs)) 0 (path_labels s (xs ++ zs) y k)
      (λ w a. omega (arith, (on_path k w a).high)) (path_falls k))

  -- it is a piece of the open partition
  on_piece : (w : Label) → On s xs (beta s) w → Piece s (xs ++ zs) (chunk_at s (xs ++ zs) w)
  on_piece w v =
      let l = w.level in
      let p = head_part s l xs ++ tail_part s l zs in
      record {
        part = p;
        low = v.low;
        high = v.high;
        of_level = rw (parts_split s l xs zs) (among_right p (parts_before s l xs) (p ∷ parts_after s l zs) (inl refl));
        first_is = v.first ∙ sym (head_part_first s l xs (tail_part s l zs));
        inside = simp length-append (omega (arith, v.inside));
        nodes_are = ap (λ (q : List Order). map (masked l) (take s.nodes (drop (w.number * s.nodes) q))) (ap (part s (xs ++ zs) l) v.first ∙ part_at s l xs zs u);
      }

  one_way : orders_good s 1 (xs ++ zs) ≡ true → fits s (xs ++ zs) ≡ true → OneWay s (xs ++ zs) y
  unfolding descent_path ChunksAre
  one_way good fit =
      let os = xs ++ zs in
      let ws = path_labels s os y (beta s) in
      let head : (c : Chunk) → Among c (map (chunk_at s os) ws) → c.label.first ≡ first_key (head_part s c.label.level xs) =
      of_map (chunk_at s os) (λ (c : Chunk). c.label.first ≡ first_key (head_part s c.label.level xs)) ws (λ w a. (on_path (beta s) w a).first) in
      record {
        chunks = map (chunk_at s os) ws;
        there =
            map_both (stands_in (blocks s os)) (λ i. get_or (blocks s os) i empty) (chunk_at s os) (λ c. holds c) ws
            (λ w a. block_of s os m good fit (chunk_at s os w) ((chunks_are s os (chunk_at s os w) m).1 (on_piece w (on_path (beta s) w a))));
        falls = path_falls (beta s);
        one_each = λ c d a b e. head c a ∙ ap (λ (l : ℕ). first_key (head_part s l xs)) e ∙ sym (head d b);
      }

pub path_fits : PathFits
unfolding PathFits descent_path
path_fits s os y m g f =
    let few = by_cut (λ (z : List Order). length (path_labels s z y (beta s)) ≤ counts (beta s) 1 s z) y os (good_up s 1 os g) (λ xs zs u e v. path_few s m y xs zs u e v (beta s)) in
    rw length-map (omega (arith, few, length_chunks s os (limits s m).nodes_some, (fits_parts s os f).room))

pub path_one_way : PathOneWay
unfolding PathOneWay
path_one_way s os y m g f = by_cut (λ (z : List Order). orders_good s 1 z ≡ true → fits s z ≡ true → OneWay s z y) y os (good_up s 1 os g) (one_way s m y) g f
