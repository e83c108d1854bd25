-- Why the search for a chunk may start behind the block where the chunk before it was found, on any bytes: every block from that one's home on is passed.
use Rattle.std.proofs.Common.{◌≡◌, ℕ, zero, suc, ◌+◌, ◌*◌, ◌%◌, ◌<◌, ◌≤◌, Bool, true, false, cond, eqb, List, sym, refl, ap, ◌∙◌, true≢false, add-zero, add-one, arith, eqb-true, Option, Some, None}
use native.Mathlib.Nat.{mod-mod, add-mod_right, suc-mod, zero-mod}
use borrow.Author.Tests.{eqb-false}
use Rattle.sizes.specs.Sizes.{prime}
use Rattle.sizes.specs.Hash.{g}
use Rattle.sizes.specs.Header.{block_long}
use Rattle.sizes.specs.declared.Sizes.{Sizes}
use Rattle.sizes.proofs.Laws.Orders.{Ordering}
use Rattle.sizes.proofs.Laws.Hashes.{hash_below}
use Rattle.placement.specs.declared.Label.{Label}
use Rattle.placement.specs.Labels.{label, before, same_label, home}
use Rattle.placement.specs.Place.{label_in, passes_label, probe, search_in, Starts, behind}
use Rattle.placement.proofs.Laws.Labels.{labels, before_next, same_is}
use Rattle.placement.proofs.Laws.Insertion.{suc_mod_same}
use Rattle.placement.proofs.Laws.Loops.{probe_round, passes_held, passes_some}

module _ (before : Label → Label → Bool) (look : ℕ → Label) (m : ℕ) (w : Label) where
  abbrev step : (i : ℕ) → Option ℕ → Option ℕ
  step i r = cond (passes_label before (look (i % m)) w) r (cond (same_label (look (i % m)) w) (Some (i % m)) None)

  -- a search may have one block more, if that is passed
  one_more : (f i : ℕ) → passes_label before (look ((i + f) % m)) w ≡ true → probe before look m w (suc f) i ≡ probe before look m w f i
  unfolding probe
  one_more zero i p = let q : passes_label before (look (i % m)) w ≡ true = rw add-zero at p in rw q
  one_more (suc f) i p = ap (step i) (one_more f (suc i) (ap (λ (n : ℕ). passes_label before (look (n % m)) w) (omega arith) ∙ p))

  -- so once around it may start one block later, if the first is passed
  one_later : (i : ℕ) → passes_label before (look (i % m)) w ≡ true → probe before look m w m i ≡ probe before look m w m (suc i)
  unfolding probe
  one_later i p = sym (one_more m i (ap (λ (n : ℕ). passes_label before (look n) w) (add-mod_right i m) ∙ p)) ∙ rw p

-- the search for b passes all that the search for a passed, and a itself
module _ {before : Label → Label → Bool} (o : Ordering before) (look : ℕ → Label) (m : ℕ) (a b : Label) (less : before a b ≡ true) (some : 0 < a.level) where
  passes_too : (l : Label) → passes_label before l a ≡ true → passes_label before l b ≡ true
  passes_too l e =
      let p = passes_some before l a some e in
      sym (passes_held before l b true (sym (o.chain l a b p.1 less)) (λ z. omega (arith, p.0)))

  passes_it : (l : Label) → same_label l a ≡ true → passes_label before l b ≡ true
  passes_it l e = ap (λ (z : Label). passes_label before z b) (same_is l a e) ∙ sym (passes_held before a b true (sym less) (λ z. omega arith))

  -- it may start one block later, or behind the block where a was found
  abbrev Later : (i j : ℕ) → Type 0
  Later i j = (probe before look m b m i ≡ probe before look m b m (suc i)) × (probe before look m b m i ≡ probe before look m b m (suc j))

  found_later : (f i j : ℕ) → probe before look m a f i ≡ Some j → Later i j
  unfolding probe
  found_later zero i j e = absurd (true≢false cc)
  found_later (suc f) i j e = go (passes_label before (look (i % m)) a) (same_label (look (i % m)) a) refl refl e (found_later f (suc i) j)
    where
      go : (p q : Bool) → passes_label before (look (i % m)) a ≡ p → same_label (look (i % m)) a ≡ q → cond p (probe before look m a f (suc i)) (cond q (Some (i % m)) None) ≡ Some j
          → (probe before look m a f (suc i) ≡ Some j → Later (suc i) j) → Later i j
      go true q h k e on = let o = one_later before look m b i (passes_too (look (i % m)) h) in (o, o ∙ (on e).1)
      go false true h k e on =
          let o = one_later before look m b i (passes_it (look (i % m)) k) in
          let there : i % m ≡ j = cc in
          (o, o ∙ probe_round before look m b m (suc i) (suc j) (suc_mod_same m i j (sym (mod-mod i m) ∙ ap (λ (n : ℕ). n % m) there)))
      go false false h k e on = absurd (true≢false cc)

-- THE SEARCH FOR THE NEXT CHUNK. Its home is one further, but where the place comes to p, which is the place 0
module _ (s : Sizes) (bs : List ℕ) (l f j i : ℕ) (some : 0 < l) (high : l ≤ 19) (few : j + 1 ≤ 65535) where
  abbrev place : (number : ℕ) → ℕ
  place n = g s f + 65536 * l + n

  small : g s f < prime
  unfolding g
  small = hash_below s 5 f (g s f) refl

  place_next : (place (j + 1) ≡ prime → ⊥) → place (j + 1) % prime % s.blocks ≡ suc (place j % prime % s.blocks) % s.blocks
  place_next ne =
      let e : place (j + 1) % prime ≡ suc (place j % prime) = omega (arith, small) in
      rw e (suc-mod (place j % prime) s.blocks)

  pub search_behind : search_in s bs (label l f j) ≡ Some i
      → probe (before s) (label_in (block_long s) bs) s.blocks (label l f (j + 1)) s.blocks (behind s (label l f (j + 1)) i) ≡ search_in s bs (label l f (j + 1))
  unfolding search_in behind home
  search_behind e = go (eqb (place (j + 1)) prime) refl
    where
      m : ℕ
      m = s.blocks

      from : (start : ℕ) → Option ℕ
      from = probe (before s) (label_in (block_long s) bs) m (label l f (j + 1)) m

      round : (x y : ℕ) → x % m ≡ y % m → from x ≡ from y
      round = probe_round (before s) (label_in (block_long s) bs) m (label l f (j + 1)) m

      go : (t : Bool) → eqb (place (j + 1)) prime ≡ t → from (cond t 0 ((i + 1) % m)) ≡ from (place (j + 1) % prime % m)
      go true z = ap from (sym (ap (λ (n : ℕ). n % prime % m) (eqb-true _ _ z) ∙ zero-mod m))
      go false z =
          let r = found_later (labels s) (label_in (block_long s) bs) m (label l f j) (label l f (j + 1)) (before_next s _ _ refl refl (omega arith)) some m (place j % prime % m) i e in
          round ((i + 1) % m) (suc i) (mod-mod (i + 1) m ∙ ap (λ (n : ℕ). n % m) (add-one i)) ∙ sym r.1 ∙ r.0
          ∙ round _ _ (sym (mod-mod (place (j + 1) % prime) m ∙ place_next (eqb-false _ _ z)))

-- WHERE A SEARCH MAY START: at home, and behind the chunk before
module _ (s : Sizes) (bs : List ℕ) where
  pub starts_home : (w : Label) (start : ℕ) → start ≡ home s w → start < s.blocks → Starts s bs w start
  unfolding search_in
  starts_home w start e h = record { inside = h; same = ap (probe (before s) (label_in (block_long s) bs) s.blocks w s.blocks) e }

  pub starts_behind : (l f j i start : ℕ) → 0 < l → l ≤ 19 → j + 1 ≤ 65535 → search_in s bs (label l f j) ≡ Some i → start ≡ behind s (label l f (j + 1)) i → start < s.blocks → Starts s bs (label l f (j + 1)) start
  starts_behind l f j i start some high few e es h = record { inside = h; same = rw es (search_behind s bs l f j i some high few e) }
