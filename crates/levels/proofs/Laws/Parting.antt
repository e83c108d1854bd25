-- A partition split before a key, and a partition joined to the one before it.
use mathlib.Core.Path.{◌≡◌, refl, sym, ap, ◌∙◌, subst}
use mathlib.Core.List.{List, [], ◌∷◌, ◌++◌, append_assoc}
use Prim.Native.Nat.{ℕ, min, suc, ◌+◌, ◌*◌, ◌-◌, ◌/◌, ◌%◌, ◌≤◌, ◌<◌}
use native.Mathlib.Nat.{div-add-mod', mod-lt, suc-mul, zero-mul, mul-le-mul_right}
use native.Mathlib.Numerals.{add-one}
use native.Mathlib.Omega.{arith}
use lib.ListN.{length, take, drop, length-append, length-drop, length-take, take-append-drop}
use lib.Seq.{sets, take_all, take-nil, drop-nil, drop-append-le}
use Rattle.sizes.specs.Sizes.{row}
use Rattle.placement.specs.Labels.{label}
use Rattle.placement.specs.Chunks.{node_bytes}
use Rattle.placement.specs.Maps.{Map, Table, Fines, with_nodes, cleared}
use Rattle.sizes.specs.declared.Sizes.{Sizes}
use Rattle.placement.specs.declared.Order.{Order}
use Rattle.placement.proofs.Laws.Tables.{count_most}
use Rattle.skiplist.specs.Lists.{masked}
use Rattle.skiplist.proofs.Laws.Count.{pieces, pieces_cut}
use Rattle.levels.specs.declared.Spot.{Spot}
use Rattle.levels.specs.Edit.{Pieces, ElsewhereBoth, followed, Splits, EntersBelow, CancelsBelow}
use Rattle.levels.specs.Pour.{Front, one, Reads, Taken, Takes, Pours}
use Rattle.levels.specs.Shift.{Stored, Stores}
use Rattle.levels.proofs.Laws.CarryFronts.{front_none, front_followed}
use Rattle.levels.proofs.Laws.Takes.{one_some}
use Rattle.levels.proofs.Laws.Flushes.{fines_drop, fines_append, fines_there, not_none}
use Rattle.levels.proofs.Laws.Chunking.{pieces_next, pieces_at, pieces_from, pieces_join, chunk_same, pieces_none, pieces_skip, number_half, pieces_half, pieces_full, one_pieces, drop_past, take_past}
use Rattle.levels.proofs.Laws.MapLabels.{with_other, with_number, cleared_other, cleared_number}
use Rattle.levels.proofs.Laws.Replacing.{chunk_low, rest_chunks}
use Rattle.levels.proofs.Laws.Levels.{fine_masked, carry_split, ChunkRead, chunk_read}

-- the last chunk of a list: number i, of the r nodes past i whole chunks
module _ (b i r : ℕ) (ps : List Order) (e : i * b + r ≡ length ps) (h : r < b) where
  past_last : (j : ℕ) → i < j → length ps ≤ j * b
  past_last j g = omega (arith, mul-le-mul_right b g, suc-mul i b)

  last_chunk : take b (drop (i * b) ps) ≡ drop (i * b) ps
  last_chunk = take_all b (drop (i * b) ps) (omega (arith, length-drop (i * b) ps))

  last_pieces : pieces b (length ps) ≡ i + one (drop (i * b) ps)
  last_pieces =
      let l : length (drop (i * b) ps) ≡ length ps - i * b = length-drop (i * b) ps in
      pieces_skip b (length ps) i (omega arith) (omega arith) ∙ rw (← l, one_pieces b (drop (i * b) ps) (omega arith)) refl

-- SPLIT: ps stay, and o starts partition g with qs
module _ (s : Sizes) (F : Map) (m : ℕ) (hd bs : List ℕ) (k f g i r n : ℕ) (ch : List ℕ) (ps qs : List Order) (o : Order) (t : Table s F m hd bs) (two : 2 ≤ s.nodes) (pos : 0 < k)
    (first : g < 4294967296) (ne : f ≡ g → ⊥) (p : Pieces F s.nodes k f 0 (ps ++ qs)) (p' : Pieces F s.nodes k g 0 []) (few : length (ps ++ qs) ≤ 65536)
    (u : ChunkRead s F k f i r n ch ps qs) (fine : Fines (row s) (o ∷ drop r (F k f i)))
    (room : m + pieces s.nodes (length ps) + pieces s.nodes (suc (length qs)) ≤ s.blocks + pieces s.nodes (length (ps ++ qs)))
    (bs₁ : List ℕ) (st : Stored s F m hd (label k f i) (take r (F k f i)) bs₁) where
  is : (o ∷ drop r (F k f i)) ++ drop (suc i * s.nodes) (ps ++ qs) ≡ o ∷ qs
  is = ap (λ (z : List Order). o ∷ z) u.split.behind

  old_pieces : pieces s.nodes (length (ps ++ qs)) ≡ i + one (F k f i) + pieces s.nodes (length (drop (suc i * s.nodes) (ps ++ qs)))
  old_pieces =
      let skip = pieces_skip s.nodes (length (ps ++ qs)) i (omega arith) (omega (arith, length-append ps qs)) in
      rw (pieces_at F s.nodes k f (ps ++ qs) i p) (omega (arith, ap (pieces s.nodes) (length-drop (i * s.nodes) (ps ++ qs)), pieces_next s.nodes i (ps ++ qs) (omega arith)))

  kept_pieces : pieces s.nodes (length ps) ≡ i + one (take r (F k f i))
  kept_pieces = last_pieces s.nodes i r ps u.split.sum u.split.less ∙ rw u.split.before refl

  new_pieces : pieces s.nodes (length ((o ∷ drop r (F k f i)) ++ drop (suc i * s.nodes) (ps ++ qs))) ≡ pieces s.nodes (suc (length qs))
  new_pieces = ap (λ (z : List Order). pieces s.nodes (length z)) is

  pub split_made : (count : ℕ) → count ≡ pieces s.nodes (length (ps ++ qs)) - (i + 1) → (cs : List ℕ) → Front (row s) cs (o ∷ drop r (F k f i)) → (bs₂ : List ℕ)
      → Pours s k f (i + 1) count g 0 (n - r + 1) bs₁ bs₂ cs → Splits s F m hd bs₂ k f g ps (o ∷ qs) (pieces s.nodes (length (ps ++ qs)))
  unfolding Pieces Pours ElsewhereBoth
  split_made count ec cs fr bs₂ pr =
      let q = pr (with_nodes (label k f i) (take r (F k f i)) F) st.full hd (o ∷ drop r (F k f i)) (drop (suc i * s.nodes) (ps ++ qs)) st.table fr
      (omega (arith, length-drop r (F k f i))) (record {
        level = pos;
        first = first;
        fine = fine;
        few = omega (arith, new_pieces, pieces_half s.nodes (suc (length qs)) two, length-append ps qs);
        some = omega arith;
        short = omega (arith, length-drop r (F k f i));
        chunks = ec ∙ rest_chunks s.nodes i (ps ++ qs) (omega arith);
        source = λ j. with_other F (λ a b d. omega arith) _ ∙ ap (λ (z : ℕ). F k f (z + j)) (add-one i) ∙ pieces_from F s.nodes k f (ps ++ qs) (suc i) p j;
        apart = ne;
        target = λ j a. with_other F (λ a b d. ne (sym b)) _ ∙ pieces_at F s.nodes k g [] j p' ∙ rw (drop-nil, take-nil);
        room = omega (arith, new_pieces, old_pieces, kept_pieces, st.count, room);
      }) in
      record {
        map = q.map;
        full = q.full;
        table = q.table;
        left_there =
            pieces_join q.map s.nodes k f ps (suc i)
            (λ j h. q.elsewhere k f j (λ a b d. ne b) (λ a b d. omega arith)
            ∙ with_number F _ (λ z. u.split.before ∙ sym (last_chunk s.nodes i r ps u.split.sum u.split.less) ∙ chunk_same s.nodes ps (sym z))
            (λ z. pieces_at F s.nodes k f (ps ++ qs) j p ∙ chunk_low s.nodes j i ps qs (omega (arith, z)) (omega arith)))
            (λ j. ap (λ (z : ℕ). q.map k f (z + j)) (sym (add-one i)) ∙ q.gone j
            ∙ rw (drop_past (suc i * s.nodes) ps (past_last s.nodes i r ps u.split.sum u.split.less (suc i) (omega arith))) refl);
        right_there = subst (Pieces q.map s.nodes k g 0) is q.there;
        elsewhere = λ l h j a b. q.elsewhere l h j (λ u v w. b u v) (λ u v w. a u v) ∙ with_other F (λ u v w. a u v) _;
        count = omega (arith, q.count, new_pieces, old_pieces, kept_pieces, st.count);
      }

-- JOIN: partition g, y ∷ qs, comes behind ps; the last chunk of ps and the first of y ∷ qs are taken out before
second_is : (s : Sizes) (F : Map) (k f g i : ℕ) (ns : List Order) → (f ≡ g → ⊥) → Pieces F s.nodes k g 0 ns → cleared (label k f i) F k g 0 ≡ take s.nodes ns
second_is s F k f g i ns ne p = cleared_other F (λ a b d. ne (sym b)) ∙ pieces_at F s.nodes k g ns 0 p ∙ rw zero-mul refl

module _ (s : Sizes) (F : Map) (m : ℕ) (hd bs : List ℕ) (k f g i r : ℕ) (ps : List Order) (y : Order) (qs : List Order) (t : Table s F m hd bs) (two : 2 ≤ s.nodes) (pos : 0 < k)
    (first : f < 4294967296) (ne : f ≡ g → ⊥) (p : Pieces F s.nodes k f 0 ps) (p' : Pieces F s.nodes k g 0 (y ∷ qs)) (few : length (ps ++ y ∷ qs) ≤ 65536) (filled : 0 < length ps)
    (e : i * s.nodes + r ≡ length ps) (less : r < s.nodes) (bs₁ ca : List ℕ) (m₁ : ℕ) (tk₁ : Taken s F m hd (label k f i) [] bs₁ ca m₁)
    (bs₂ ch : List ℕ) (m₂ : ℕ) (tk₂ : Taken s (cleared (label k f i) F) tk₁.full hd (label k g 0) [] bs₂ ch m₂) where
  some : 0 < s.nodes
  some = omega arith

  first_is : F k f i ≡ drop (i * s.nodes) ps
  first_is = pieces_at F s.nodes k f ps i p ∙ last_chunk s.nodes i r ps e less

  abbrev second : List Order
  second = cleared (label k f i) F k g 0

  abbrev rest : List Order
  rest = drop (suc 0 * s.nodes) (y ∷ qs)

  abbrev carry : List Order
  carry = F k f i ++ drop 1 second

  second_long : length second ≡ min s.nodes (suc (length qs))
  second_long = ap length (second_is s F k f g i (y ∷ qs) ne p') ∙ length-take s.nodes (y ∷ qs)

  joined : carry ++ rest ≡ drop (i * s.nodes) (ps ++ qs)
  joined = append_assoc (F k f i) (drop 1 second) rest ∙ rw (after, first_is) (sym (drop-append-le (i * s.nodes) ps qs (omega arith)))
    where
      after : drop 1 second ++ rest ≡ qs
      after =
          let z : suc 0 * s.nodes ≡ s.nodes = omega arith in
          let whole : second ++ rest ≡ y ∷ qs = rw (z, second_is s F k f g i (y ∷ qs) ne p') (take-append-drop s.nodes (y ∷ qs)) in
          sym (drop-append-le 1 second rest (omega (arith, second_long))) ∙ ap (drop 1) whole

  joined_pieces : pieces s.nodes (length (ps ++ qs)) ≡ i + pieces s.nodes (length (carry ++ rest))
  joined_pieces =
      let l = length-drop (i * s.nodes) (ps ++ qs) in
      pieces_skip s.nodes (length (ps ++ qs)) i some (omega (arith, length-append ps qs)) ∙ rw (joined, l) refl

  first_pieces : pieces s.nodes (length ps) ≡ i + one (F k f i)
  first_pieces = last_pieces s.nodes i r ps e less ∙ rw first_is refl

  second_pieces : pieces s.nodes (suc (length qs)) ≡ one second + pieces s.nodes (length rest)
  second_pieces =
      let z : suc (length qs) - s.nodes ≡ length rest = omega (arith, length-drop (suc 0 * s.nodes) (y ∷ qs)) in
      pieces_full s.nodes (suc (length qs)) some (omega arith) ∙ rw z (omega (arith, one_some second (not_none second (omega (arith, second_long)))))

  pub join_made : s.nodes ≤ 32 → (count : ℕ) → count ≡ pieces s.nodes (suc (length qs)) - (0 + 1) → length ca ≡ 1024 → (cs : List ℕ)
      → cs ≡ followed (row s) m₁ 1 m₂ ca ch → (bs₃ : List ℕ) → Pours s k g 1 count f i (m₁ + m₂ - 1) bs₂ bs₃ cs
      → Splits s F m hd bs₃ k f g (ps ++ qs) [] (pieces s.nodes (length ps) + pieces s.nodes (suc (length qs)))
  unfolding Pieces Pours ElsewhereBoth
  join_made max count ec long cs ecs bs₃ pr =
      let l₁ = ap length first_is ∙ length-drop (i * s.nodes) ps in
      let l₂ = second_long in
      let ld = length-drop 1 second in
      let lc = length-append (F k f i) (drop 1 second) in
      let fr = front_followed s ca cs ch (F k f i) second (drop 1 second) m₁ 1 m₂ tk₁.front tk₁.size tk₂.front (omega (arith, tk₂.size)) (omega (arith, tk₂.size))
      (take_all (m₂ - 1) (drop 1 second) (omega (arith, tk₂.size))) ecs (omega (arith, tk₁.size, tk₂.size)) in
      let q = pr (cleared (label k g 0) (cleared (label k f i) F)) tk₂.full hd carry rest tk₂.table fr (omega (arith, tk₁.size, tk₂.size)) (record {
        level = pos;
        first = first;
        fine =
            fines_append (row s) (F k f i) (drop 1 second) (fines_there s F m hd bs k f i t)
            (fines_drop (row s) 1 second (fines_there s (cleared (label k f i) F) tk₁.full hd bs₁ k g 0 tk₁.table));
        few = omega (arith, joined_pieces, pieces_half s.nodes (length (ps ++ qs)) two, length-append ps qs, length-append ps (y ∷ qs));
        some = some;
        short = omega arith;
        chunks = ec ∙ rest_chunks s.nodes 0 (y ∷ qs) some;
        source = λ j.
            cleared_other (cleared (label k f i) F) (λ a b d. omega arith) ∙ cleared_other F (λ a b d. ne (sym b)) ∙ pieces_from F s.nodes k g (y ∷ qs) (suc 0) p' j;
        apart = λ z. ne (sym z);
        target = λ j a.
            cleared_other (cleared (label k f i) F) (λ u v w. ne v)
            ∙ cleared_number F (λ z. refl)
            (λ z. pieces_at F s.nodes k f ps j p ∙ take_past s.nodes (j * s.nodes) ps (past_last s.nodes i r ps e less j (omega (arith, z))));
        room =
            let cut = pieces_cut s.nodes (length ps) (length qs) some filled in
            omega (arith, joined_pieces, first_pieces, second_pieces, tk₁.count, tk₂.count, count_most s F m hd bs t, ap (pieces s.nodes) (length-append ps qs));
      }) in
      record {
        map = q.map;
        full = q.full;
        table = q.table;
        left_there =
            pieces_join q.map s.nodes k f (ps ++ qs) i
            (λ j h. q.elsewhere k f j (λ a b d. omega arith) (λ a b d. ne b) ∙ cleared_other (cleared (label k f i) F) (λ a b d. ne b) ∙ cleared_other F (λ a b d. omega arith)
            ∙ pieces_at F s.nodes k f ps j p ∙ sym (chunk_low s.nodes j i ps qs h (omega arith)))
            (subst (Pieces q.map s.nodes k f i) joined q.there);
        right_there =
            pieces_join q.map s.nodes k g [] 1
            (λ j h. q.elsewhere k g j (λ a b d. ne (sym b)) (λ a b d. omega arith) ∙ cleared_number (cleared (label k f i) F) (λ z. refl) (λ z. absurd (z (omega arith)))
            ∙ sym (rw (drop-nil, take-nil)))
            (rw (drop-nil {A = Order} (1 * s.nodes)) q.gone);
        elsewhere = λ l h j a b.
            q.elsewhere l h j (λ u v w. a u v) (λ u v w. b u v) ∙ cleared_other (cleared (label k f i) F) (λ u v w. b u v) ∙ cleared_other F (λ u v w. a u v);
        count = omega (arith, q.count, joined_pieces, first_pieces, second_pieces, tk₁.count, tk₂.count, pieces_none s.nodes);
      }

-- AS `enter_below` ASKS
module _ (s : Sizes) (k f : ℕ) (x : Spot) (bs : List ℕ) (two : 2 ≤ s.nodes) (i r n : ℕ) (ei : i ≡ x.below / s.nodes) (er : r ≡ x.below % s.nodes)
    (ch₀ ch : List ℕ) (rd : Reads s (label k f i) 0 bs ch₀ ch n) (max : s.nodes ≤ 32) (o : Order) where
  pub enter_below_short : n < r → EntersBelow s k f x o bs bs
  unfolding EntersBelow
  enter_below_short h F m hd ps qs t rm p ne p' some room = let u = chunk_read s k f x bs two i r n ei er ch₀ ch rd F m hd ps qs o t rm p in absurd (omega arith)

  pub enter_below_made : (count : ℕ) → count ≡ pieces s.nodes x.size - (i + 1) → r ≤ n → (bs₁ : List ℕ) → Stores s (label k f i) r bs bs₁ ch → (ca₀ ca₁ ca₂ : List ℕ)
      → ca₁ ≡ sets ca₀ (row s * 0) (node_bytes (row s) (masked k o)) → ca₂ ≡ followed (row s) 1 r n ca₁ ch → length ca₀ ≡ 1024 → (bs₂ : List ℕ)
      → Pours s k f (i + 1) count o.key 0 (n - r + 1) bs₁ bs₂ ca₂ → EntersBelow s k f x o bs bs₂
  unfolding EntersBelow Stores
  enter_below_made count ec h bs₁ st ca₀ ca₁ ca₂ e₁ e₂ long bs₂ pr F m hd ps qs t rm p ne p' some room =
      let u = chunk_read s k f x bs two i r n ei er ch₀ ch rd F m hd ps qs o t rm p in
      let small : 2 * i ≤ length ps = rw (ei, ← rm.below) (number_half s.nodes x.below two) in
      let kept = st F m hd (F k f i) t u.front (omega arith) u.fine (record {
        level = rm.level;
        label = λ g. record { level = rm.level; first = rm.first; number = omega (arith, rm.few, length-append ps qs) };
        room = λ g z. absurd (omega (arith, ap length z));
      }) in
      split_made s F m hd bs k f o.key i r n ch ps qs (masked k o) t two rm.level rm.fine.key ne p p' rm.few u
      (fine_masked (row s) k o rm.fine, fines_drop (row s) r (F k f i) u.fine) room bs₁ kept
      count (ec ∙ rw rm.size refl) ca₂ (carry_split s ch ca₀ ca₁ ca₂ (F k f i) (masked k o) n r u.front u.size h (omega arith) (omega arith) e₁ e₂) bs₂ pr

-- AS `cancel_below` ASKS
module _ (s : Sizes) (k f g m w : ℕ) (bs : List ℕ) (two : 2 ≤ s.nodes) (max : s.nodes ≤ 32) (i count r n : ℕ) (ei : i ≡ m / s.nodes)
    (bs₁ ca₀ ca₁ : List ℕ) (tk₁ : Takes s (label k f i) 0 bs bs₁ ca₀ ca₁ r) (bs₂ ch₀ ch : List ℕ) (tk₂ : Takes s (label k g 0) 0 bs₁ bs₂ ch₀ ch n) where
  pub cancel_below_none : n ≡ 0 → CancelsBelow s k f g m w bs bs₂
  unfolding CancelsBelow Takes
  cancel_below_none z F a hd ps y qs t pos first ne few em ew some p p' =
      let u₁ = tk₁ F a hd [] t pos (front_none s ca₀) refl in
      let u₂ = tk₂ (cleared (label k f i) F) u₁.full hd [] u₁.table pos (front_none s ch₀) refl in
      absurd (omega (arith, u₂.size, ap length (second_is s F k f g i (y ∷ qs) ne p'), length-take s.nodes (y ∷ qs)))

  pub cancel_below_made : count ≡ pieces s.nodes w - (0 + 1) → length ca₁ ≡ 1024 → (ca₂ : List ℕ) → ca₂ ≡ followed (row s) r 1 n ca₁ ch
      → (bs₃ : List ℕ) → Pours s k g 1 count f i (r + n - 1) bs₂ bs₃ ca₂ → CancelsBelow s k f g m w bs bs₃
  unfolding CancelsBelow Takes
  cancel_below_made ec long ca₂ e₂ bs₃ pr F a hd ps y qs t pos first ne few em ew some p p' =
      let u₁ = tk₁ F a hd [] t pos (front_none s ca₀) refl in
      let u₂ = tk₂ (cleared (label k f i) F) u₁.full hd [] u₁.table pos (front_none s ch₀) refl in
      join_made s F a hd bs k f g i (m % s.nodes) ps y qs t two pos first ne p p' few some (rw (ei, ← em) (div-add-mod' m s.nodes))
      (mod-lt m (omega arith)) bs₁ ca₁ r u₁ bs₂ ch n u₂
      max count (ec ∙ rw ew refl) long ca₂ e₂ bs₃ pr
