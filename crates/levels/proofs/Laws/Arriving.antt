-- The way down in an image: the path that its definition tells, and the node with the greatest key not above the one sought.
use Rattle.std.specs.Option.{IsSomeAnd}
use mathlib.Core.Path.{◌≡◌, refl, sym, ap, ◌∙◌, subst}
use mathlib.Core.Bool.{Bool}
use mathlib.Core.List.{List, [], ◌∷◌, ◌++◌, map, map-append}
use Prim.Native.Nat.{ℕ, zero, suc, ◌+◌, ◌-◌, ◌≤◌, ◌<◌}
use native.Mathlib.Nat.{zero-add}
use native.Mathlib.Omega.{arith}
use lib.ListN.{length, length-append, length-map}
use Rattle.sizes.specs.Sizes.{beta}
use Rattle.sizes.specs.declared.Sizes.{Sizes}
use Rattle.placement.specs.declared.Order.{Order}
use Rattle.sizes.proofs.Laws.Sizes.{some_nodes}
use Rattle.placement.proofs.Laws.Cells.{cond_valid}
use Rattle.skiplist.specs.Lists.{front, starts_one, masked, first_key, blocks}
use Rattle.placement.specs.declared.Label.{Label}
use Rattle.skiplist.specs.Paths.{labels_from, path_labels, stands_in}
use Rattle.skiplist.proofs.Laws.Parts.{up_front}
use Rattle.skiplist.proofs.Laws.Runs.{opened}
use Rattle.skiplist.proofs.Laws.Edits.{head_part, tail_part, head_part_long}
use Rattle.skiplist.proofs.Laws.Descent.{last_from, step_down, start_top, all_there}
use Rattle.skiplist.proofs.Laws.Count.{pieces}
use Rattle.skiplist.proofs.Laws.Masks.{last_masked, masked_one}
use Rattle.skiplist.proofs.Laws.Paths.{path_step}
use Rattle.skiplist.proofs.Laws.PathsKept.{length_labels}
use Rattle.levels.specs.declared.Trail.{Trail}
use Rattle.levels.specs.Edit.{Way, Leads}
use Rattle.levels.specs.Ways.{Trek, trek, coming, starting, along_in, down_in, way_down}
use Rattle.levels.proofs.Laws.Chunking.{pieces_most}
use Rattle.levels.proofs.Laws.Scanning.{chunks_most}
use Rattle.levels.proofs.Laws.Growing.{rising, there, kept, lower, upper}
use Rattle.levels.proofs.Laws.Numbers.{numbers_in, numbers_append}
use Rattle.levels.proofs.Laws.Leading.{last_of, last_append, last_key, Ends, Seated, Landed, told}

-- the key y is sought in the image of xs, not above it, and zs, above it
module _ (s : Sizes) (bs : List ℕ) (y : ℕ) (xs zs : List Order) (w : Way s bs (suc y) xs zs) where
  -- the nodes of a level that are not above it, as the chunks have them
  abbrev pub nodes : (k : ℕ) → List Order
  nodes k = map (masked k) (head_part s k xs)

  -- ONE LEVEL
  module _ (k : ℕ) (lo : 0 < k) (hi : k ≤ beta s) (x : Trail) (ex : x.first ≡ first_key (head_part s k xs)) (o : List ℕ) where
    fuel : pieces s.nodes (length (nodes k)) ≤ s.blocks
    fuel =
        let some = some_nodes s w.good in
        let most = chunks_most s k x.first lo _ _ _ bs (nodes k ++ map (masked k) (tail_part s k zs)) (kept s bs (suc y) xs zs w k lo hi x.first ex) (there s bs (suc y) xs zs w k lo hi x.first ex) in
        pieces_most s.nodes (length (nodes k)) s.blocks some (omega (arith, most, length-append (nodes k) (map (masked k) (tail_part s k zs))))

    level_told : Landed s bs (blocks s (xs ++ zs)) k x.first (along_in s bs k y (trek x o)) 0 (nodes k) (coming x.count x.first) o
    unfolding along_in kept
    level_told =
        told s _ _ _ bs (kept s bs (suc y) xs zs w k lo hi x.first ex) k x.first y lo s.blocks 0 (nodes k) (map (masked k) (tail_part s k zs))
        (there s bs (suc y) xs zs w k lo hi x.first ex) (lower s bs (suc y) xs zs w k lo hi x.first ex) (upper s bs (suc y) xs zs w k lo hi x.first ex) fuel _ o

    -- .. ends at the last of its nodes, which heads the partition one level down
    level_ends : Ends s bs level_told.trail (last_of front (nodes k))
    level_ends = level_told.ends front (λ e. absurd (omega (arith, head_part_long s k xs, length-map (head_part s k xs) (masked k))))

    level_first : level_told.trail.first ≡ last_from 0 (head_part s k xs)
    unfolding front
    level_first = level_ends.0 ∙ last_key front (nodes k) ∙ last_masked k 0 (head_part s k xs)

  -- THE LEVELS: x is where it comes from, o the output
  -- the last node of level 1 that is not above y: where it is, and where it stands
  pub record Ended (x : Trail) : Type 0 where
    pub ends : Ends s bs x (last_of front (nodes 1))
    pub seat : IsSomeAnd x.at (Seated s bs 1 (first_key (head_part s 1 xs)) (length (head_part s 1 xs) - 1))

  pub record Arrived (r : Trek) (k : ℕ) (x : Trail) (o : List ℕ) : Type 0 where
    pub trail : Trail
    pub is : r ≡ trek trail (numbers_in o x.count (map (stands_in (blocks s (xs ++ zs))) (path_labels s (xs ++ zs) y k)))
    pub count : trail.count ≡ x.count + length (path_labels s (xs ++ zs) y k)
    pub ended : 0 < k → Ended trail

  arrived_none : (x : Trail) (o : List ℕ) → Arrived (trek x o) 0 x o
  unfolding path_labels numbers_in
  arrived_none x o = record { trail = x; is = refl; count = omega arith; ended = λ h. absurd (omega arith) }

  -- one level, and those below it
  module _ (k : ℕ) (hi : suc k ≤ beta s) (x : Trail) (ex : x.first ≡ first_key (head_part s (suc k) xs)) (o : List ℕ) where
    abbrev one : Landed s bs (blocks s (xs ++ zs)) (suc k) x.first (along_in s bs (suc k) y (trek x o)) 0 (nodes (suc k)) (coming x.count x.first) o
    one = level_told (suc k) (omega arith) hi x ex o

    abbrev labels : List Label
    labels = labels_from (pieces s.nodes (length (nodes (suc k)))) (suc k) x.first 0

    abbrev after : List ℕ
    after = numbers_in o x.count (map (stands_in (blocks s (xs ++ zs))) labels)

    one_ends : Ends s bs one.trail (last_of front (nodes (suc k)))
    one_ends = level_ends (suc k) (omega arith) hi x ex o

    next_first : one.trail.first ≡ first_key (head_part s k xs)
    next_first = level_first (suc k) (omega arith) hi x ex o ∙ sym (step_down s k xs (up_front xs zs 1 (rising s bs (suc y) xs zs w)))

    steps : path_labels s (xs ++ zs) y (suc k) ≡ labels ++ path_labels s (xs ++ zs) y k
    steps =
        path_step s y xs zs (rising s bs (suc y) xs zs w) w.low w.high k
        ∙ rw (ex, length-map (head_part s (suc k) xs) (masked (suc k)))

    many : one.trail.count ≡ x.count + length (map (stands_in (blocks s (xs ++ zs))) labels)
    many = one.count ∙ ap (λ (c : ℕ). x.count + c) (sym (length-map labels (stands_in (blocks s (xs ++ zs))) ∙ length_labels (pieces s.nodes (length (nodes (suc k)))) (suc k) x.first 0))

    arrived_more : (a : Arrived (down_in s bs 0 y k (trek one.trail after)) k one.trail after) → Ended a.trail →
        Arrived (down_in s bs 0 y (suc k) (trek x o)) (suc k) x o
    unfolding down_in
    arrived_more a e =
        let z : suc k + 0 ≡ suc k = omega arith in
        record {
          trail = a.trail;
          is =
              ap (λ (l : ℕ). down_in s bs 0 y k (along_in s bs l y (trek x o))) z
              ∙ ap (down_in s bs 0 y k) one.is
              ∙ a.is
              ∙ rw (steps, map-append, numbers_append, many);
          count = rw (steps, length-append) (omega (arith, a.count, many, length-map labels (stands_in (blocks s (xs ++ zs)))));
          ended = λ h. e;
        }

  one_seat : (h : 1 ≤ beta s) (x : Trail) (e : x.first ≡ first_key (head_part s 1 xs)) (o : List ℕ) →
      IsSomeAnd (one 0 h x e o).trail.at (Seated s bs 1 (first_key (head_part s 1 xs)) (length (head_part s 1 xs) - 1))
  one_seat h x e o =
      let l = length-map (head_part s 1 xs) (masked 1) in
      let some = head_part_long s 1 xs in
      subst (λ (f : ℕ). IsSomeAnd (one 0 h x e o).trail.at (Seated s bs 1 f (length (head_part s 1 xs) - 1))) e
      ((one 0 h x e o).seat (length (head_part s 1 xs) - 1) (λ z. absurd (omega (arith, l, some))) (λ z. omega (arith, l, some)))

  pub arrives : (k : ℕ) → k ≤ beta s → (x : Trail) → x.first ≡ first_key (head_part s k xs) → (o : List ℕ) → Arrived (down_in s bs 0 y k (trek x o)) k x o
  unfolding down_in arrived_none
  arrives zero h x e o = arrived_none x o
  arrives (suc zero) h x e o = arrived_more 0 h x e o (arrived_none _ _) (record { ends = one_ends 0 h x e o; seat = one_seat h x e o })
  arrives (suc (suc k)) h x e o =
      let a = arrives (suc k) (omega arith) (one (suc k) h x e o).trail (next_first (suc k) h x e o) (after (suc k) h x e o) in
      arrived_more (suc k) h x e o a (a.ended (omega arith))

  -- WHERE THE WAY TO y COMES TO at level l: the partition that has the nodes just below suc y
  leads : (l m : ℕ) → m + l ≤ beta s → (x : Trail) → x.first ≡ first_key (head_part s (m + l) xs) → (o : List ℕ) → (down_in s bs l y m (trek x o)).trail.first ≡ first_key (head_part s l xs)
  unfolding down_in
  leads l zero h x e o = rw (zero-add l) at e
  leads l (suc m) h x e o =
      let n : suc m + l ≡ suc (m + l) = omega arith in
      let e' : x.first ≡ first_key (head_part s (suc (m + l)) xs) = rw n at e in
      ap (λ (k : ℕ). (down_in s bs l y m (along_in s bs k y (trek x o))).trail.first) n
      ∙ ap (λ (r : Trek). (down_in s bs l y m r).trail.first) (one (m + l) (omega arith) x e' o).is
      ∙ leads l m (omega arith) (one (m + l) (omega arith) x e' o).trail (next_first (m + l) (omega arith) x e' o) _

pub lead_right : (s : Sizes) (bs : List ℕ) (l y top : ℕ) → top ≡ beta s → 1 ≤ y → (t : Trail) → t ≡ way_down s bs top l (y - 1) → Leads s bs l y t.first
unfolding Leads way_down
lead_right s bs l y top et pos t e xs zs w h =
    let n : suc (y - 1) ≡ y = omega arith in
    let m : top - l + l ≡ beta s = omega arith in
    let v : Way s bs (suc (y - 1)) xs zs = rw n w in
    ap (λ (x : Trail). x.first) e
    ∙ leads s bs (y - 1) xs zs v l (top - l) (omega arith) starting (rw m (sym (start_top s xs (up_front xs zs 1 (rising s bs y xs zs w))))) _

-- THE LAST NODE of level 1 is the last of all orders that are not above the key, or the front
last_opened : (st : Order → Bool) (z : Order) (p xs : List Order) → last_of z (opened st p xs) ≡ last_of (last_of z p) xs
unfolding opened last_of
last_opened st z p [] = refl
last_opened st z p (x ∷ xs) =
    cond_valid (λ (q : List Order). last_of z q ≡ last_of x xs) (st x) (last_opened st z (x ∷ []) xs)
    (last_opened st z (p ++ x ∷ []) xs ∙ rw (last_append z p (x ∷ [])))

pub last_listed : (s : Sizes) (xs : List Order) → last_of front (map (masked 1) (head_part s 1 xs)) ≡ last_of front xs
unfolding head_part last_of
last_listed s xs = rw (masked_one, all_there) (last_opened (starts_one s 1) front (front ∷ []) xs)
