-- A visit of a whole table, and what it answers: the number of orders in a range, their rows, the first that has a reserve.
use Rattle.std.proofs.Common.{None}
use mathlib.Core.Path.{◌≡◌, refl, sym, ap, ◌∙◌, subst}
use mathlib.Core.Bool.{Bool, true, false, ◌&&◌, cond}
use mathlib.Core.List.{List, [], ◌∷◌, ◌++◌}
use Prim.Native.Nat.{ℕ, ◌+◌, ◌*◌, ◌≤◌, ◌<◌}
use native.Mathlib.Nat.{zero-add, mul-zero}
use native.Mathlib.Omega.{arith}
use lib.Dec.{leb}
use lib.ListN.{length, take, drop}
use lib.Seq.{sets, sets-eq, take_all}
use borrow.Author.Tests.{both_ways}
use Rattle.sizes.specs.Sizes.{beta, row}
use Rattle.sizes.specs.Header.{sizes_in}
use Rattle.placement.specs.Chunks.{nodes_bytes}
use Rattle.sizes.specs.declared.Sizes.{Sizes}
use Rattle.placement.specs.declared.Order.{Order}
use Rattle.sizes.proofs.Laws.Sizes.{limits, row_least}
use Rattle.placement.proofs.Laws.Bridge.{nodes_long}
use Rattle.placement.proofs.Laws.Tables.{shaped}
use Rattle.skiplist.specs.Lists.{front}
use Rattle.skiplist.specs.Image.{is_image, orders_in}
use Rattle.skiplist.specs.Questions.{between, enough, ZeroFindsAll}
use Rattle.skiplist.proofs.Laws.Questions.{zero_finds_all}
use Rattle.skiplist.proofs.Laws.Walk.{walk_all}
use Rattle.skiplist.proofs.Laws.Kept.{fits_parts}
use Rattle.skiplist.proofs.Laws.Third.{image_parts}
use Rattle.readings.specs.declared.Visit.{Visit}
use Rattle.readings.specs.Visit.{scan, starting, steps, Known, under, first_of}
use Rattle.readings.proofs.Laws.Visits.{next_few, step_below}
use Rattle.readings.proofs.Laws.Chunked.{kept_by, orders_up}
use Rattle.readings.proofs.Laws.Wholes.{last_found, written_room, written_none}
use Rattle.readings.proofs.Laws.Tallies.{finds, Tallied, tally}

-- AN IMAGE
pub known_image : (bs : List ℕ) → is_image bs ≡ true → Known (sizes_in bs) bs
known_image bs e =
    let w = image_parts bs e in
    let k = w.orders_kept in
    record {
      shaped = shaped _ _ _ _ bs (kept_by (sizes_in bs) bs w.sizes_made k.good k.fit w.bytes);
      sizes_made = w.sizes_made;
      good = k.good;
      fit = k.fit;
      bytes = w.bytes;
    }

pub known_at : (bs : List ℕ) (s : Sizes) → is_image bs ≡ true → s ≡ sizes_in bs → Known s bs
known_at bs s e h = subst (λ (z : Sizes). Known z bs) (sym h) (known_image bs e)

pub known_long : (bs : List ℕ) → is_image bs ≡ true → 53 ≤ length bs
known_long bs e = omega (arith, (known_image bs e).shaped.long)

pub known_sizes : (bs : List ℕ) (s : Sizes) → Known s bs → (0 < s.gamma) × (s.gamma ≤ 64) × (s.orders ≤ 65535) × (0 < s.blocks)
known_sizes bs s k = let l = limits s k.sizes_made in (omega (arith, l.gamma_least), l.gamma_most, l.orders_most, k.shaped.some)

-- the bytes of its rows
abbrev pub width : List ℕ → ℕ
width bs = row (sizes_in bs)

-- from the front at the top all orders come by, and the front does nothing
pub visit_whole : (bs : List ℕ) (s : Sizes) (l : ℕ) (v : Visit) (x : List ℕ) → Known s bs → s ≡ sizes_in bs → l ≡ beta s → 1 ≤ v.lo → v.lo ≤ v.hi → (w : Visit) (z : List ℕ) →
    scan (row s) w z ≡ steps (under s bs l (record { key = 0; total = 0; displayed = 0; price = 0 })) (scan (row s) v x) → scan (width bs) w z ≡ steps (orders_in bs) (scan (width bs) v x)
unfolding under steps front
visit_whole bs s l v x k es e p h w z q =
    subst (λ (t : Sizes). scan (row t) w z ≡ steps (orders_in bs) (scan (row t) v x)) es
    (q
    ∙ ap (λ (i : ℕ). steps (under s bs i front) (scan (row s) v x)) e
    ∙ ap (λ (os : List Order). steps os (scan (row s) v x)) (walk_all s (orders_in bs) (orders_up s bs k))
    ∙ ap (steps (orders_in bs)) (step_below front (scan (row s) v x) (omega arith) (omega arith)))

-- WHAT IT FINDS
pub between_few : (lo hi : ℕ) (os : List Order) → length (between lo hi os) ≤ length os
unfolding between
between_few lo hi [] = omega arith
between_few lo hi (o ∷ os) = go (between_few lo hi os) (leb lo o.key && leb o.key hi)
  where
    go : length (between lo hi os) ≤ length os → (t : Bool) → length (cond t (o ∷ between lo hi os) (between lo hi os)) ≤ length (o ∷ os)
    go ih true = omega arith
    go ih false = omega arith

-- with 0 all are found
all_enough : (os : List Order) → enough 0 os ≡ os
unfolding ZeroFindsAll
all_enough = zero_finds_all

one_first : (os : List Order) → last_found None (take 1 os) ≡ first_of os
unfolding last_found first_of
one_first [] = refl
one_first (o ∷ os) = refl

module _ (bs : List ℕ) (image : is_image bs ≡ true) (lo hi : ℕ) where
  few : length (between lo hi (orders_in bs)) ≤ 65535
  few =
      let k = known_image bs image in
      omega (arith, between_few lo hi (orders_in bs), (fits_parts (sizes_in bs) (orders_in bs) k.fit).few, (limits (sizes_in bs) k.sizes_made).orders_most)

  visited : (v w : Visit) (x z : List ℕ) → scan (width bs) w z ≡ steps (orders_in bs) (scan (width bs) v x) → Tallied (width bs) v x (finds v (orders_in bs)) (scan (width bs) w z)
  visited v w x z e = subst (Tallied (width bs) v x (finds v (orders_in bs))) (sym e) (tally (width bs) (orders_in bs) 1 (orders_up (sizes_in bs) bs (known_image bs image)) v x)

  -- all of a range: their number, and their rows where there is room, if rows are written
  module _ (b : Bool) (w : Visit) (x z : List ℕ) (e : scan (width bs) w z ≡ steps (orders_in bs) (scan (width bs) (starting lo hi 0 b 65535) x)) where
    all : Tallied (width bs) (starting lo hi 0 b 65535) x (between lo hi (orders_in bs)) (scan (width bs) w z)
    all =
        let f : finds (starting lo hi 0 b 65535) (orders_in bs) ≡ between lo hi (orders_in bs) =
        take_all 65535 (enough 0 (between lo hi (orders_in bs))) (rw (all_enough (between lo hi (orders_in bs))) few) ∙ all_enough (between lo hi (orders_in bs)) in
        subst (λ (ns : List Order). Tallied (width bs) (starting lo hi 0 b 65535) x ns (scan (width bs) w z)) f (visited (starting lo hi 0 b 65535) w x z e)

    pub counted_all : w.found ≡ length (between lo hi (orders_in bs))
    counted_all = omega (arith, all.found, next_few 0 (length (between lo hi (orders_in bs))) (rw zero-add few))

    pub output_kept : b ≡ false → z ≡ x
    output_kept f = all.output ∙ written_none (width bs) b x 0 (between lo hi (orders_in bs)) (λ e. absurd (both_ways b f e))

    pub written_all : b ≡ true → width bs * length (between lo hi (orders_in bs)) ≤ length x →
        z ≡ nodes_bytes (width bs) (between lo hi (orders_in bs)) ++ drop (width bs * length (between lo hi (orders_in bs))) x
    written_all t room =
        let os = between lo hi (orders_in bs) in
        let ns = nodes_bytes (width bs) os in
        let l : length ns ≡ width bs * length os = nodes_long (width bs) (row_least (sizes_in bs)) os in
        let n : 0 + length ns ≡ width bs * length os = omega arith in
        all.output
        ∙ rw t (written_room (width bs) (row_least (sizes_in bs)) x 0 os (rw zero-add few) (rw zero-add room))
        ∙ ap (λ (i : ℕ). sets x i ns) (mul-zero (width bs))
        ∙ sets-eq ns x 0 (omega arith) ∙ ap (λ (i : ℕ). ns ++ drop i x) n

  -- the first that has a reserve, whether rows are written or not
  pub sought_first : (b : Bool) (least : ℕ) (w : Visit) (x z : List ℕ) → scan (width bs) w z ≡ steps (orders_in bs) (scan (width bs) (starting lo hi least b 1) x) →
      w.last ≡ first_of (enough least (between lo hi (orders_in bs)))
  sought_first b least w x z e = (visited (starting lo hi least b 1) w x z e).last ∙ one_first (enough least (between lo hi (orders_in bs)))
