-- What the loops of this crate keep, and their turns.
use Rattle.std.specs.List.{range_with_len, find, list_all}
use Rattle.std.proofs.Common.{◌==◌, map, ◌≡◌, ℕ, zero, suc, ◌+◌, ◌-◌, ◌*◌, ◌/◌, ◌%◌, ◌^◌, ◌<◌, ◌≤◌, Bool, true, false, cond, ◌&&◌, ◌||◌, eqb, ltb, List, [], ◌∷◌, ◌++◌, length, get_or, take, drop, replicate, sym, refl, ap, ◌∙◌, true≢false, le_refl, add-zero, mod-lt, mod-eq_of_lt, pos_of_ne-zero, sub-eq-zero_of_le, add-one, arith, length-append, ltb-true, le-ltb, lt-ltb, eq-eqb, ne_eqb, eqb-true, Option, Some, None}
use mathlib.Core.Bool.{false≢true}
use Rattle.std.proofs.Math.Bool.{and-true}
use native.Mathlib.Nat.{sub-zero, mod-eq-sub-mod}
use native.Mathlib.Numerals.{towards_suc}
use lib.Seq.{sets}
use Rattle.sizes.specs.Numbers.{field, big}
use Rattle.sizes.specs.Header.{block_long}
use Rattle.sizes.specs.Parts.{put_block, clear_in, swap_in}
use Rattle.sizes.specs.declared.Sizes.{Sizes}
use Rattle.placement.specs.declared.Label.{Label}
use Rattle.placement.specs.declared.Ahead.{Ahead}
use Rattle.placement.specs.declared.Met.{Met}
use Rattle.placement.specs.declared.Met.TheVariants.{Past, Here, Other}
use Rattle.placement.specs.Place.{Shaped, label_in, passes_label, met, meeting, Leading, probe, GoesOn, is_lower, four_lower, search_in, distance_of, stays_at, bytes, Pulled, pull, settle, free_in, head_bytes, block_with, inserted}
use Rattle.sizes.proofs.Laws.Parts.{sets_append, length_part}
use Rattle.sizes.proofs.Laws.Sizes.{and_parts}
use Rattle.placement.specs.Labels.{level_before, before, same_label, home}
use Rattle.sizes.specs.Hash.{hash_from, g}
use Rattle.placement.proofs.Laws.Labels.{before_level, before_first, before_number, before_lower, labels_strict, one_label, is_same, ne_same, home_inside}
use Rattle.placement.proofs.Laws.Insertion.{suc_mod_same}
use Rattle.placement.proofs.Laws.Cells.{cond_valid}

-- a turn more: one fewer is left, and the place is one further on
one_left : {k n : ℕ} → k < n → n - k ≡ suc (n - (k + 1))
one_left h = omega arith

one_on : (i k : ℕ) → i + (k + 1) ≡ suc (i + k)
one_on i k = omega arith

-- the search goes by where it stands on the way round
pub probe_round : (before : Label → Label → Bool) (look : ℕ → Label) (m : ℕ) (w : Label) (k i j : ℕ) → i % m ≡ j % m → probe before look m w k i ≡ probe before look m w k j
unfolding probe
probe_round before look m w zero i j e = refl
probe_round before look m w (suc k) i j e = rw (e, probe_round before look m w k (suc i) (suc j) (suc_mod_same m i j e))

-- what is met tells whether the label is passed, and whether it is the one
module _ (before : Label → Label → Bool) (l w : Label) where
  met_past : Past ≡ meeting before l w → passes_label before l w ≡ true
  unfolding meeting met
  met_past = go (passes_label before l w) (same_label l w)
    where
      go : (p q : Bool) → Past ≡ cond p Past (cond q Here Other) → p ≡ true
      go true q e = refl
      go false true e = cc
      go false false e = cc

  met_here : Here ≡ meeting before l w → (passes_label before l w ≡ false) × (same_label l w ≡ true)
  unfolding meeting met
  met_here = go (passes_label before l w) (same_label l w)
    where
      go : (p q : Bool) → Here ≡ cond p Past (cond q Here Other) → (p ≡ false) × (q ≡ true)
      go true q e = absurd (true≢false cc)
      go false true e = (refl, refl)
      go false false e = absurd (true≢false cc)

  met_other : Other ≡ meeting before l w → (passes_label before l w ≡ false) × (same_label l w ≡ false)
  unfolding meeting met
  met_other = go (passes_label before l w) (same_label l w)
    where
      go : (p q : Bool) → Other ≡ cond p Past (cond q Here Other) → (p ≡ false) × (q ≡ false)
      go true q e = absurd (true≢false cc)
      go false true e = absurd (true≢false cc)
      go false false e = (refl, refl)

-- what the loop of `find_from` keeps: after k turns the search from its start goes on from block i
pub record Probing (before : Label → Label → Bool) (look : ℕ → Label) (m : ℕ) (w : Label) (most start k i : ℕ) : Type 0 where
  pub inside : i < m
  pub rest : probe before look m w most start ≡ probe before look m w (most - k) i

module _ (before : Label → Label → Bool) (look : ℕ → Label) (m : ℕ) (w : Label) (most start : ℕ) where
  pub probing_start : start < m → Probing before look m w most start 0 start
  probing_start h = record { inside = h; rest = rw sub-zero }

  module _ (k i : ℕ) (q : Probing before look m w most start k i) where
    pub probing_end : most ≤ k → None ≡ probe before look m w most start
    unfolding probe
    probing_end h = sym (q.rest ∙ rw (sub-eq-zero_of_le h))

    module _ (some : k < most) where
      step : probe before look m w most start ≡ probe before look m w (suc (most - (k + 1))) i
      step = q.rest ∙ rw (one_left some)

      pub probing_past : Past ≡ meeting before (look i) w → (n : ℕ) → n ≡ (i + 1) % m → n < m → Probing before look m w most start (k + 1) n
      unfolding probe
      probing_past e n en l =
          let on : suc i % m ≡ n % m = ap (◌% m) (sym (add-one i)) ∙ sym en ∙ sym (mod-eq_of_lt l) in
          let one : probe before look m w (suc (most - (k + 1))) i ≡ probe before look m w (most - (k + 1)) (suc i) =
          rw (mod-eq_of_lt q.inside, met_past before (look i) w e) in
          record { inside = l; rest = step ∙ one ∙ probe_round before look m w (most - (k + 1)) (suc i) n on }

      pub probing_here : Here ≡ meeting before (look i) w → Some i ≡ probe before look m w most start
      unfolding probe
      probing_here h = let e = met_here before (look i) w h in sym (step ∙ rw (mod-eq_of_lt q.inside, e.0, e.1))

      pub probing_other : Other ≡ meeting before (look i) w → None ≡ probe before look m w most start
      unfolding probe
      probing_other h = let e = met_other before (look i) w h in sym (step ∙ rw (mod-eq_of_lt q.inside, e.0, e.1))

pub ruleset probing = (probing_start, probing_past, probing_here, probing_other, probing_end)

-- A SEARCH PASSES all blocks of lower levels in version 1
module _ (s : Sizes) (first : s.version ≡ 1) (look : ℕ → Label) (m : ℕ) (w : Label) where
  lower_passes : (i : ℕ) → is_lower look w.level i ≡ true → passes_label (before s) (look i) w ≡ true
  unfolding passes_label is_lower
  lower_passes i e = let p = and_parts (ltb 0 (look i).level) (ltb (look i).level w.level) e in rw (p.0, before_lower s first (look i) w, p.1)

  passed_one : (f i : ℕ) → i < m → 0 < f → is_lower look w.level i ≡ true → probe (before s) look m w f i ≡ probe (before s) look m w (f - 1) (suc i)
  unfolding probe
  passed_one f i h some e =
      let n : f ≡ suc (f - 1) = omega arith in
      ap (λ (k : ℕ). probe (before s) look m w k i) n ∙ rw (mod-eq_of_lt h, lower_passes i e)

-- .. and goes on behind them: what `passed` promises, and what the loops of `past_fours` and `past_lower` keep
module _ (s : Sizes) (bs : List ℕ) (w : Label) (start : ℕ) where
  pub goes_start : start < s.blocks → GoesOn s bs w start start
  goes_start h =
      record { rest = ap (λ (k : ℕ). probe (before s) (label_in (block_long s) bs) s.blocks w k start) (omega arith); least = le_refl start; most = omega arith }

  goes_one : s.version ≡ 1 → (i n : ℕ) → GoesOn s bs w start i → n ≤ s.blocks → n ≡ i + 1 → is_lower (label_in (block_long s) bs) w.level i ≡ true → GoesOn s bs w start n
  goes_one v i n q h e z =
      let from : (k j : ℕ) → Option ℕ = probe (before s) (label_in (block_long s) bs) s.blocks w in
      let least : start ≤ i = q.least in
      let one : from (s.blocks - (i - start)) i ≡ from (s.blocks - (i - start) - 1) (suc i) = passed_one s v (label_in (block_long s) bs) s.blocks w (s.blocks - (i - start)) i (omega arith) (omega arith) z in
      let there : from (s.blocks - (n - start)) n ≡ from (s.blocks - (i - start) - 1) (suc i) = ap (λ (k : ℕ). from k n) (omega arith) ∙ ap (from (s.blocks - (i - start) - 1)) (e ∙ add-one i) in
      record { rest = there ∙ sym one ∙ q.rest; least = omega arith; most = h }

  pub goes_more : s.version ≡ 1 → (i : ℕ) → GoesOn s bs w start i → i < s.blocks → (t : Bool) → t ≡ is_lower (label_in (block_long s) bs) w.level i → t ≡ true → GoesOn s bs w start (i + 1)
  goes_more v i q h t et z = goes_one v i (i + 1) q (omega arith) refl (sym et ∙ z)

  -- four in one turn
  pub goes_four : s.version ≡ 1 → (i j : ℕ) → GoesOn s bs w start i → j ≡ i + 4 → j ≤ s.blocks → (t : Bool) → t ≡ four_lower (label_in (block_long s) bs) w.level i → t ≡ true → GoesOn s bs w start j
  unfolding four_lower
  goes_four v i j q ej h t et z =
      let low : (k : ℕ) → Bool = λ k. is_lower (label_in (block_long s) bs) w.level (i + k) in
      let a = and_parts (is_lower (label_in (block_long s) bs) w.level i) (low 1 && (low 2 && low 3)) (sym et ∙ z) in
      let b = and_parts (low 1) (low 2 && low 3) a.1 in
      let c = and_parts (low 2) (low 3) b.1 in
      let one = goes_one v i (i + 1) q (omega arith) refl a.0 in
      let two = goes_one v (i + 1) (i + 2) one (omega arith) (omega arith) b.0 in
      let three = goes_one v (i + 2) (i + 3) two (omega arith) (omega arith) c.0 in
      goes_one v (i + 3) j three h (omega (arith, ej)) c.1

  -- as `find_past` asks
  pub goes_search : (i j : ℕ) (r : Option ℕ) → GoesOn s bs w start i → j ≡ i % s.blocks → j < s.blocks →
      r ≡ probe (before s) (label_in (block_long s) bs) s.blocks w (s.blocks - (i - start)) j → r ≡ probe (before s) (label_in (block_long s) bs) s.blocks w s.blocks start
  goes_search i j r q ej hj er = er ∙ probe_round (before s) (label_in (block_long s) bs) s.blocks w (s.blocks - (i - start)) j i (mod-eq_of_lt hj ∙ ej) ∙ q.rest

-- the search for a label is the one from home on, round the whole table
-- as `four_lower` asks
pub four_listed : (look : ℕ → Label) (l i : ℕ) → list_all (λ k. is_lower look l (i + k)) (range_with_len 0 4) ≡ four_lower look l i
unfolding four_lower
four_listed look l i = rw (add-zero, and-true (is_lower look l (i + 3)))

-- as `lower` asks: one byte tells
module _ (w : ℕ) (bs : List ℕ) (i a v l : ℕ) (ea : a ≡ 53 + i * w) (ev : v ≡ get_or bs a 0) where
  level_there : v ≡ (label_in w bs i).level
  unfolding label_in
  level_there = ev ∙ ap (λ (x : ℕ). get_or bs x 0) ea

-- a block that the search finds is one of the table
abbrev below : Option ℕ → (m : ℕ) → Type 0
below (Some i) m = i < m
below None m = Unit

probe_below : (before : Label → Label → Bool) (look : ℕ → Label) (m : ℕ) (w : Label) (k i : ℕ) → 0 < m → below (probe before look m w k i) m
unfolding probe
probe_below before look m w zero i pos = tt
probe_below before look m w (suc k) i pos =
    cond_valid (λ r. below r m) (passes_label before (look (i % m)) w) (probe_below before look m w k (suc i) pos)
    (cond_valid (λ r. below r m) (same_label (look (i % m)) w) (mod-lt i pos) tt)

-- as `remove` asks
pub search_below : (g : Sizes) (bs : List ℕ) (w : Label) (r : Option ℕ) (i : ℕ) → r ≡ Some i → r ≡ search_in g bs w → Shaped g bs → i < g.blocks
unfolding search_in
search_below g bs w r i e q s = rw (sym q ∙ e) at (probe_below (before g) (label_in (block_long g) bs) g.blocks w g.blocks (home g w) s.some)

pub passes_empty : (before : Label → Label → Bool) (l w : Label) → l.level ≡ 0 → 0 < w.level → false ≡ passes_label before l w
unfolding passes_label
passes_empty before l w e h = rw (e, ne_eqb 0 w.level (omega arith))

pub passes_held : (before : Label → Label → Bool) (l w : Label) (t : Bool) → t ≡ before l w → (l.level ≡ 0 → ⊥) → t ≡ passes_label before l w
unfolding passes_label
passes_held before l w t e ne = let h : 0 < l.level = pos_of_ne-zero ne in e ∙ rw (lt-ltb 0 l.level h)

passes_level : (before : Label → Label → Bool) (l w : Label) → l.level ≡ w.level → before l w ≡ passes_label before l w
unfolding passes_label
passes_level before l w e = go (ltb 0 l.level) (eqb l.level w.level) (eq-eqb _ _ e)
  where
    go : (p q : Bool) → q ≡ true → before l w ≡ ((p || q) && before l w)
    go true q h = refl
    go false true h = refl
    go false false h = absurd (false≢true h)

-- a label that is passed is no empty block, where none is looked for
pub passes_some : (before : Label → Label → Bool) (l w : Label) → 0 < w.level → passes_label before l w ≡ true → (0 < l.level) × (before l w ≡ true)
unfolding passes_label
passes_some before l w h e = let p = and_parts (ltb 0 l.level || eqb l.level w.level) (before l w) e in (go (ltb 0 l.level) (eqb l.level w.level) refl refl p.0, p.1)
  where
    go : (p q : Bool) → ltb 0 l.level ≡ p → eqb l.level w.level ≡ q → (p || q) ≡ true → 0 < l.level
    go true q a b c = ltb-true 0 l.level a
    go false true a b c = omega (arith, h, eqb-true l.level w.level b)
    go false false a b c = absurd (false≢true c)

-- as `meets` asks of block i: the first part of its label that is another than that of the one looked for decides
module _ (s : Sizes) (w : ℕ) (bs : List ℕ) (i a v : ℕ) (want : Label) (ea : a ≡ 53 + i * w) (ev : v ≡ get_or bs a 0) where
  at_level : v ≡ (label_in w bs i).level
  at_level = level_there w bs i a v want.level ea ev

  -- another label than the one looked for
  another : (t : Bool) → t ≡ passes_label (before s) (label_in w bs i) want → (label_in w bs i ≡ want → ⊥) → (r : Met) → r ≡ met t false → r ≡ meeting (before s) (label_in w bs i) want
  unfolding meeting
  another t et n r er = er ∙ rw (et, ne_same (label_in w bs i) want n)

  pub meets_level : (v ≡ want.level → ⊥) → (h : Ahead) → Leading s want.level h → v < 256 → (d : ℕ) → d < 2 ^ 32 → (d + h.from) % 2 ^ 32 ≡ v
      → (r : Met) → r ≡ met (ltb d h.many) false → r ≡ meeting (before s) (label_in w bs i) want
  unfolding passes_label
  meets_level ne h q small d hd ed =
      another (ltb d h.many)
      (q.told v d small ne hd ed ∙ ap (λ (x : ℕ). ltb 0 x && level_before s v want.level) at_level ∙ plain (ltb 0 (label_in w bs i).level) _ _ _ (ne_eqb _ _ apart) by_level)
      (λ e. ne (at_level ∙ ap (λ (l : Label). l.level) e))
    where
      apart : (label_in w bs i).level ≡ want.level → ⊥
      apart e = ne (at_level ∙ e)

      by_level : level_before s v want.level ≡ before s (label_in w bs i) want
      by_level = before_level s (label_in w bs i) want apart (level_before s v want.level) (ap (λ (x : ℕ). level_before s x want.level) at_level)

      split : (p b : Bool) → (p && b) ≡ ((p || false) && b)
      split true b = refl
      split false b = refl

      plain : (p o b c : Bool) → o ≡ false → c ≡ b → (p && c) ≡ ((p || o) && b)
      plain p o b c e f = rw (e, f) (split p b)

  module _ (e : v ≡ want.level) (f : ℕ) (ef : f ≡ field (a + 4) 4 bs) where
    level_same : (label_in w bs i).level ≡ want.level
    level_same = sym at_level ∙ e

    at_first : f ≡ (label_in w bs i).first
    unfolding label_in
    at_first = ef ∙ ap (λ (x : ℕ). field (x + 4) 4 bs) ea

    passed_by : (t : Bool) → t ≡ before s (label_in w bs i) want → t ≡ passes_label (before s) (label_in w bs i) want
    passed_by t et = et ∙ passes_level (before s) (label_in w bs i) want level_same

    pub meets_first : (f ≡ want.first → ⊥) → (r : Met) → r ≡ met (ltb f want.first) false → r ≡ meeting (before s) (label_in w bs i) want
    meets_first ne =
        another (ltb f want.first) (passed_by _ (ap (λ (x : ℕ). ltb x want.first) at_first ∙ before_first s (label_in w bs i) want level_same (λ q. ne (at_first ∙ q))))
        (λ q. ne (at_first ∙ ap (λ (l : Label). l.first) q))

    module _ (first : f ≡ want.first) (n : ℕ) (en : n ≡ field (a + 2) 2 bs) where
      at_number : n ≡ (label_in w bs i).number
      unfolding label_in
      at_number = en ∙ ap (λ (x : ℕ). field (x + 2) 2 bs) ea

      by_number : ltb n want.number ≡ passes_label (before s) (label_in w bs i) want
      by_number = passed_by _ (ap (λ (x : ℕ). ltb x want.number) at_number ∙ before_number s (label_in w bs i) want level_same (sym at_first ∙ first))

      pub meets_number : (n ≡ want.number → ⊥) → (r : Met) → r ≡ met (ltb n want.number) false → r ≡ meeting (before s) (label_in w bs i) want
      meets_number ne = another (ltb n want.number) by_number (λ q. ne (at_number ∙ ap (λ (l : Label). l.number) q))

      pub meets_here : n ≡ want.number → Here ≡ meeting (before s) (label_in w bs i) want
      unfolding meeting met
      meets_here z =
          let one = one_label (label_in w bs i) want level_same (sym at_first ∙ first) (sym at_number ∙ z) in
          rw (← by_number, le-ltb n want.number (omega arith), is_same (label_in w bs i) want one)

pub ruleset meets = (meets_first, meets_number, meets_here)

-- what the loop of `pull_back` keeps: the removal goes on from the block that is k further, on the bytes as they are
pub record Pulling (g : Sizes) (at : ℕ) (bs₀ bs : List ℕ) (hole k : ℕ) : Type 0 where
  pub shaped : Shaped g bs
  pub first : 1 ≤ k
  pub within : k ≤ g.blocks
  pub spot : hole < g.blocks
  pub same : length bs ≡ length bs₀
  pub rest : pull (bytes (block_long g)) (home g) g.blocks (g.blocks - 1) at (at + 1) bs₀ ≡ pull (bytes (block_long g)) (home g) g.blocks (g.blocks - k) hole (at + k) bs

pub shaped_same : (g : Sizes) (bs₀ bs : List ℕ) → Shaped g bs₀ → length bs ≡ length bs₀ → Shaped g bs
shaped_same g bs₀ bs s e =
    record { long = e ∙ s.long; width = s.width; least = s.least; wide = s.wide; few = s.few; some = s.some; most = s.most; seeds = s.seeds }

module _ (g : Sizes) (at : ℕ) (bs₀ : List ℕ) where
  pub pulling_start : Shaped g bs₀ → at < g.blocks → Pulling g at bs₀ bs₀ at 1
  pulling_start s h = record { shaped = s; first = omega arith; within = omega arith; spot = h; same = refl; rest = refl }

  module _ (bs : List ℕ) (e k : ℕ) (p : Pulling g at bs₀ bs e k) where
    pub pulling_end : g.blocks ≤ k → (bs' : List ℕ) → bs' ≡ clear_in (block_long g) bs e
        → bs' ≡ pull (bytes (block_long g)) (home g) g.blocks (g.blocks - 1) at (at + 1) bs₀
    unfolding pull
    pulling_end h bs' q = q ∙ rw (p.rest, sub-eq-zero_of_le h)

    module _ (lt : k < g.blocks) (l : Label) (el : l ≡ label_in (block_long g) bs ((at + k) % g.blocks)) where
      pub pulling_empty : l.level ≡ 0 → (bs' : List ℕ) → bs' ≡ clear_in (block_long g) bs e
          → bs' ≡ pull (bytes (block_long g)) (home g) g.blocks (g.blocks - 1) at (at + 1) bs₀
      unfolding pull
      pulling_empty z bs' q =
          let z' : eqb (label_in (block_long g) bs ((at + k) % g.blocks)).level 0 ≡ true = rw (← el) (eq-eqb _ _ z) in
          q ∙ rw (p.rest, one_left lt, z')

      pub pulling_next : (h : ℕ) (bs' : List ℕ) (e' : ℕ) → (l.level ≡ 0 → ⊥) → h ≡ home g l
          → Pulled g e ((at + k) % g.blocks) h bs bs' e' → length bs' ≡ length bs → Pulling g at bs₀ bs' e' (k + 1)
      unfolding pull
      pulling_next h bs' e' ne eh q ln =
          let held : eqb (label_in (block_long g) bs ((at + k) % g.blocks)).level 0 ≡ false = rw (← el) (ne_eqb _ _ ne) in
          let t : Bool = stays_at g.blocks e ((at + k) % g.blocks) h in
          let test : stays_at g.blocks e ((at + k) % g.blocks) (home g (label_in (block_long g) bs ((at + k) % g.blocks))) ≡ t = sym (rw (eh, el)) in
          record {
            shaped = shaped_same g bs bs' p.shaped ln;
            first = omega arith;
            within = omega arith;
            spot = rw q.hole (cond_valid (λ i. i < g.blocks) t p.spot (mod-lt _ (omega arith)));
            same = ln ∙ p.same;
            rest = p.rest ∙ rw (one_left lt, held, test, one_on at k, q.hole, q.table);
          }

-- as `home` asks
pub home_made : (s : Sizes) (w : Label) (h : ℕ) → h ≡ hash_from 5 5 s.seed w.first → (h + 65536 * w.level + w.number) % 2147483647 % s.blocks ≡ home s w
unfolding home g
home_made s w h e = rw e

-- an empty block where the search for a label starts ends the search
probe_none : (before : Label → Label → Bool) (look : ℕ → Label) (m : ℕ) (want : Label) (k i : ℕ) → i < m → 1 ≤ want.level → (look i).level ≡ 0 → probe before look m want k i ≡ None
unfolding probe same_label
probe_none before look m want zero i h lo z = refl
probe_none before look m want (suc k) i h lo z = rw (mod-eq_of_lt h, ← passes_empty before (look i) want z lo, z, ne_eqb 0 want.level (λ q. omega arith))

pub search_none : (s : Sizes) (bs : List ℕ) (want : Label) → Shaped s bs → 1 ≤ want.level → eqb (label_in (block_long s) bs (home s want)).level 0 ≡ true
    → search_in s bs want ≡ None
unfolding search_in
search_none s bs want h lo e = probe_none (before s) (label_in (block_long s) bs) s.blocks want s.blocks (home s want) (home_inside s h.some want) lo (eqb-true _ _ e)

-- a sum below p, and one that is less than p past it
pub home_below : (s : Sizes) (w : Label) (h r : ℕ) → h ≡ hash_from 5 5 s.seed w.first → h + 65536 * w.level + w.number < 2147483647
    → r ≡ (h + 65536 * w.level + w.number) % s.blocks → r ≡ home s w
home_below s w h r e l f = f ∙ ap (λ (i : ℕ). i % s.blocks) (sym (mod-eq_of_lt l)) ∙ home_made s w h e

pub home_past : (s : Sizes) (w : Label) (h r : ℕ) → h ≡ hash_from 5 5 s.seed w.first → h < 2147483647 → w.level ≤ 19 → w.number ≤ 65535
    → 2147483647 ≤ h + 65536 * w.level + w.number → r ≡ (h + 65536 * w.level + w.number - 2147483647) % s.blocks → r ≡ home s w
home_past s w h r e b hl hn l f =
    f ∙ ap (λ (i : ℕ). i % s.blocks) (sym (mod-eq-sub-mod l ∙ mod-eq_of_lt (omega arith))) ∙ home_made s w h e

-- what the loop of `settle_in` keeps
pub record Settling (g : Sizes) (e start n : ℕ) (bs₀ bs : List ℕ) (k : ℕ) : Type 0 where
  pub shaped : Shaped g bs
  pub within : k ≤ n
  pub same : length bs ≡ length bs₀
  pub rest : settle (bytes (block_long g)) (before g) g.blocks n e start bs₀ ≡ settle (bytes (block_long g)) (before g) g.blocks (n - k) e (start + k) bs

module _ (g : Sizes) (e start n : ℕ) (bs₀ : List ℕ) where
  pub settling_start : Shaped g bs₀ → Settling g e start n bs₀ bs₀ 0
  settling_start s = record { shaped = s; within = omega arith; same = refl; rest = rw (add-zero, sub-zero) }

  module _ (bs : List ℕ) (k : ℕ) (p : Settling g e start n bs₀ bs k) where
    pub settling_more : k < n → (bs' : List ℕ) → length bs' ≡ length bs
        → bs' ≡ cond (before g (label_in (block_long g) bs e) (label_in (block_long g) bs ((start + k) % g.blocks))) (swap_in (block_long g) bs ((start + k) % g.blocks) e) bs
        → Settling g e start n bs₀ bs' (k + 1)
    unfolding settle
    settling_more h bs' l q =
        record { shaped = shaped_same g bs bs' p.shaped l; within = omega arith; same = l ∙ p.same; rest = p.rest ∙ rw (one_left h, one_on start k, q) }

    pub settling_end : n ≤ k → bs ≡ settle (bytes (block_long g)) (before g) g.blocks n e start bs₀
    unfolding settle
    settling_end h = rw (p.rest, sub-eq-zero_of_le h)

-- where a comparison of the labels of two blocks holds, neither block is the other
module _ (s : Sizes) (w : ℕ) (bs : List ℕ) (i j : ℕ) (x y : Label) (t : Bool) (ex : x ≡ label_in w bs i) (ey : y ≡ label_in w bs j) (et : t ≡ before s x y) where
  compares : before s (label_in w bs i) (label_in w bs j) ≡ t
  compares = sym (rw (et, ex, ey))

  pub before_differs : t ≡ true → j ≡ i → ⊥
  before_differs h q = false≢true (sym (labels_strict s (label_in w bs i)) ∙ (rw q at (compares ∙ h)))

-- the first empty one of so many blocks, as `free` looks for it
module _ (look : ℕ → Label) (m start : ℕ) where
  free_from : (n k : ℕ) → find (λ i. (look i).level == 0) (map (λ j. (start + j) % m) (range_with_len k n)) ≡ free_in look m n (start + k)
  unfolding free_in
  free_from zero k = refl
  free_from (suc n) k = rw (free_from n (k + 1), one_on start k)

  pub free_found : (n : ℕ) → find (λ i. (look i).level == 0) (map (λ j. (start + j) % m) (range_with_len 0 n)) ≡ free_in look m n start
  free_found n = rw add-zero at (free_from n 0)

-- as `write_head` asks
head_two : (v n : ℕ) → v < 256 → n < 256 → big 2 (256 * v + n) ≡ v ∷ n ∷ []
unfolding big
head_two v n h k =
    let p : (256 * v + n) / 256 % 256 ≡ v = omega arith in
    let q : (256 * v + n) / 1 % 256 ≡ n = omega arith in
    rw (p, q)

head_written : (bs : List ℕ) (a v k n f : ℕ) → sets (sets (sets bs a (v ∷ k ∷ [])) (a + 2) (big 2 n)) (a + 4) (big 4 f) ≡ sets bs a (v ∷ k ∷ (big 2 n ++ big 4 f))
unfolding big
head_written bs a v k n f = simp towards_suc

pub head_made : (bs s₁ s₂ s₃ : List ℕ) (a : ℕ) (l : Label) (n : ℕ) → s₁ ≡ sets bs a (big 2 (256 * l.level + n)) → s₂ ≡ sets s₁ (a + 2) (big 2 l.number)
    → s₃ ≡ sets s₂ (a + 4) (big 4 l.first) → l.level < 256 → n < 256 → s₃ ≡ sets bs a (head_bytes l n)
unfolding head_bytes
head_made bs s₁ s₂ s₃ a l n e₁ e₂ e₃ h k = e₃ ∙ rw (e₂, e₁, head_two l.level n h k) (head_written bs a l.level n l.number l.first)

-- as `write_block` asks
pub length_head : (l : Label) (n : ℕ) → length (head_bytes l n) ≡ 8
unfolding head_bytes big
length_head l n = refl

pub block_made : (w v : ℕ) (bs s₁ s₂ s₃ : List ℕ) (e a : ℕ) (l : Label) (n u : ℕ) (xs : List ℕ) → s₁ ≡ sets bs a (head_bytes l n) → s₂ ≡ sets s₁ (a + 8) xs
    → s₃ ≡ sets s₂ (a + 8 + u) (replicate (v - 8 - u) 0) → a ≡ 53 + e * w → v ≡ w → length xs ≡ u → s₃ ≡ put_block w bs e (block_with w l n xs)
unfolding put_block block_with
block_made w v bs s₁ s₂ s₃ e a l n u xs e₁ e₂ e₃ ea ev el =
    let k : length (head_bytes l n ++ xs) ≡ 8 + u = length-append (head_bytes l n) xs ∙ rw (length_head l n, el) in
    let f : a + (8 + u) ≡ a + 8 + u = omega arith in
    e₃ ∙ rw (ev, ← ea, el, sets_append bs a (head_bytes l n ++ xs), k, sets_append bs a (head_bytes l n), length_head l n, f, e₂, e₁)

pub block_brought : (w v : ℕ) (bs s₁ s₂ s₃ : List ℕ) (e a : ℕ) (l : Label) (n u x : ℕ) (ys : List ℕ) (start : ℕ) → s₁ ≡ sets bs a (head_bytes l n) → s₂ ≡ sets s₁ (a + 8) (take u (drop start ys))
    → s₃ ≡ sets s₂ (a + 8 + u) (replicate (v - 8 - u) 0) → a ≡ 53 + e * w → v ≡ w → u ≡ x → start + x ≤ length ys → s₃ ≡ put_block w bs e (block_with w l n (take x (drop start ys)))
block_brought w v bs s₁ s₂ s₃ e a l n u x ys start e₁ e₂ e₃ ea ev eu h =
    let k : length (take x (drop start ys)) ≡ u = length_part x start ys h ∙ sym eu in
    block_made w v bs s₁ s₂ s₃ e a l n u (take x (drop start ys)) e₁ (e₂ ∙ ap (λ (z : ℕ). sets s₁ (a + 8) (take z (drop start ys))) eu) e₃ ea ev k

-- as `insert` asks
free_below : (look : ℕ → Label) (m k i : ℕ) → 0 < m → below (free_in look m k i) m
unfolding free_in
free_below look m zero i pos = tt
free_below look m (suc k) i pos = cond_valid (λ r. below r m) (eqb (look (i % m)).level 0) (mod-lt i pos) (free_below look m k (suc i) pos)

pub free_inside : (look : ℕ → Label) (m k i e : ℕ) → Some e ≡ free_in look m k i → 0 < m → e < m
free_inside look m k i e q pos = rw (← q) at (free_below look m k i pos)

pub inserted_made : (g : Sizes) (bs : List ℕ) (l : Label) (start e k n : ℕ) (xs s₁ s₂ : List ℕ) → start ≡ home g l → s₁ ≡ put_block (block_long g) bs e (block_with (block_long g) l n xs)
    → k ≡ distance_of g.blocks start e → s₂ ≡ settle (bytes (block_long g)) (before g) g.blocks k e start s₁ → s₂ ≡ inserted g (Some e) l n xs bs
unfolding inserted
inserted_made g bs l start e k n xs s₁ s₂ es e₁ ek e₂ = e₂ ∙ rw (ek, es, e₁)

pub inserted_same : (g : Sizes) (l : Label) (n : ℕ) (xs bs : List ℕ) → bs ≡ inserted g None l n xs bs
unfolding inserted
inserted_same g l n xs bs = refl

-- as the functions that read ask
