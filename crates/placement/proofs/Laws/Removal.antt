-- Removal: empty the block, and pull later chunks back toward home.
use Rattle.std.proofs.Common.{◌≡◌, ℕ, zero, suc, ◌+◌, ◌-◌, ◌%◌, ◌<◌, ◌≤◌, Bool, true, false, cond, leb, ◌≢◌, ◌⊎◌, List, length, sym, refl, ap, ◌∙◌, inl, inr, true≢false, add-zero, mod-lt, arith, leb-false, leb-true}
use mathlib.Core.Bool.{false≢true}
use native.Mathlib.Nat.{add-mod_right}
use native.Mathlib.Decide.{ℕ_discrete}
use Rattle.placement.specs.Place.{distance_of}
use Rattle.placement.specs.Blocks.{Block, empty, holds, around, stored, holds_smaller, Stands, Rule3, how_many}
use Rattle.sizes.proofs.Laws.Round.{steps_same, steps_on, steps_back, steps_apart, Which, which, less, same, more, Turn, turn, first, second}
use Rattle.placement.proofs.Laws.Blocks.{around_mod, stored_there, stored_elsewhere, stored_long, Far, far, Ordered}
use Rattle.placement.proofs.Laws.Placed.{store_count}
use Rattle.placement.proofs.Laws.Insertion.{one_label}

abbrev pub pull_step : {A : Type 0} → Block A → (stop : List (Block A)) → (A → List (Block A)) → List (Block A)
pull_step empty x y = x
pull_step (holds d) x y = y d

-- the hole is at h, and the block t steps on is looked at: a chunk whose way crosses the hole goes there
unfoldable pub pull_from : {A : Type 0} → (A → ℕ) → (fuel h t : ℕ) → (m : ℕ) → List (Block A) → List (Block A)
pull_from home zero h t m bs = bs
pull_from home (suc f) h t m bs =
    pull_step (around m bs (h + t)) bs
    (λ d. cond (leb t (distance_of m (home d) ((h + t) % m))) (pull_from home f (h + t) 1 m (stored m (stored m bs h (holds d)) (h + t) empty))
    (pull_from home f h (suc t) m bs))

unfoldable pub removed_at : {A : Type 0} → (A → ℕ) → (m i : ℕ) → List (Block A) → List (Block A)
removed_at home m i bs = pull_from home (m - 1) i 1 m (stored m bs i empty)

-- how far it is from a on to b
pub distance_steps : (m a b k : ℕ) → a < m → b < m → k < m → (a + k) % m ≡ b → distance_of m a b ≡ k
unfolding distance_of
distance_steps m a b k p q r e = go (turn m (a + k) (omega arith)) (turn m (b + m - a) (omega arith))
  where
    go : Turn m (a + k) → Turn m (b + m - a) → (b + m - a) % m ≡ k
    go (first u v) (first w x) = omega arith
    go (first u v) (second w x) = omega arith
    go (second u v) (first w x) = omega arith
    go (second u v) (second w x) = omega arith

-- what pulling leaves
pub record Pulled {A : Type 0} (home : A → ℕ) (before : A → A → Bool) (m : ℕ) (bs now : List (Block A)) : Type 0 where
  pub long : length now ≡ m
  pub rule_3 : Rule3 home before m now
  pub stays : (x : A) → Stands m bs x → Stands m now x
  pub only : (x : A) → Stands m now x → Stands m bs x
  pub count : how_many now ≡ how_many bs

-- the block l steps on from the home of c, which stands k steps on: it holds a smaller label, or it is the hole h, t steps or more before c, and last held e
pub data Way {A : Type 0} (home : A → ℕ) (before : A → A → Bool) (m : ℕ) (bs : List (Block A)) (h t : ℕ) (e c : A) (k l : ℕ) : Type 0 where
  clear : holds_smaller before c (around m bs (home c + l)) ≡ true → Way home before m bs h t e c k l
  crosses : (home c + l) % m ≡ h % m → l + t ≤ k → before e c ≡ true → Way home before m bs h t e c k l

module _ {A : Type 0} {home : A → ℕ} {before : A → A → Bool} {m : ℕ} (ord : Ordered home before m) where
  -- the first hole was at p; g steps on there is one now, that last held e; t - 1 blocks after it are looked at, and f are left
  pub record Hole (p f h t : ℕ) (e : A) (bs : List (Block A)) : Type 0 where
    pub long : length bs ≡ m
    pub hollow : around m bs h ≡ empty
    pub past : ℕ
    pub at : h ≡ p + past
    pub some : zero < t
    pub left : past + t + f ≡ m
    pub ways : (c : A) (k : ℕ) → k < m → around m bs (home c + k) ≡ holds c → (l : ℕ) → l < k → Way home before m bs h t e c k l
    pub behind : (c : A) (k a : ℕ) → k < m → around m bs (home c + k) ≡ holds c → a < past → (home c + k) % m ≡ (p + a) % m → a < k → (c ≡ e) ⊎ (before c e ≡ true)

  module _ {p f h t : ℕ} {e : A} {bs : List (Block A)} (y : Hole p f h t e bs) where
    -- no way crosses the hole: rule 3
    whole : ((c : A) (k l : ℕ) → k < m → around m bs (home c + k) ≡ holds c → (home c + l) % m ≡ h % m → l + t ≤ k → before e c ≡ true → ⊥) → Rule3 home before m bs
    whole none c k w z l v = go (y.ways c k w z l v)
      where
        go : Way home before m bs h t e c k l → holds_smaller before c (around m bs (home c + l)) ≡ true
        go (clear s) = s
        go (crosses u q b) = absurd (none c k l w z u q b)

    -- steps on from the hole, on the way of c
    ahead : (c : A) (l s : ℕ) → (home c + l) % m ≡ h % m → (home c + (l + s)) % m ≡ (h + s) % m
    ahead c l s u = ap (λ (x : ℕ). x % m) (omega arith) ∙ steps_on m (home c + l) h s u

    not_hole : (s : ℕ) → zero < s → s < m → (h + s) % m ≢ h % m
    not_hole s a b u = omega (arith, steps_apart m h s 0 b (omega arith) (u ∙ ap (λ (x : ℕ). x % m) (sym (add-zero h))))

    -- nothing is left to look at
    finished : f ≡ 0 → Rule3 home before m bs
    finished n =
        whole (λ c k l w z u q b.
        go c k l b (y.behind c k (y.past + (k - l) - m) w z (omega (arith, y.left))
        (ap (λ (x : ℕ). x % m) (omega arith) ∙ ahead c l (k - l) u ∙ ap (λ (x : ℕ). x % m) (omega (arith, y.at, y.left)) ∙ add-mod_right (p + (y.past + (k - l) - m)) m)
        (omega (arith, y.left))))
      where
        go : (c : A) (k l : ℕ) → before e c ≡ true → (c ≡ e) ⊎ (before c e ≡ true) → ⊥
        go c k l b (inl s) = true≢false (cc (ord.strict c))
        go c k l b (inr s) = true≢false (sym (ord.chain c e c s b) ∙ ord.strict c)

    -- past a way's crossing, the block t steps on holds a smaller label, unless the chunk itself is there
    smaller_ahead : (c : A) (k l : ℕ) → t < m → k < m → around m bs (home c + k) ≡ holds c → (home c + l) % m ≡ h % m → l + t < k
        → holds_smaller before c (around m bs (h + t)) ≡ true
    smaller_ahead c k l v w z u q = go (y.ways c k w z (l + t) q)
      where
        go : Way home before m bs h t e c k (l + t) → holds_smaller before c (around m bs (h + t)) ≡ true
        go (clear s) = rw (around_mod m bs (home c + (l + t)) (h + t) (ahead c l t u)) at s
        go (crosses s x b) = absurd (not_hole t y.some v (sym (ahead c l t u) ∙ s))

    at_ahead : (c : A) (k l : ℕ) → around m bs (home c + k) ≡ holds c → (home c + l) % m ≡ h % m → l + t ≡ k → around m bs (h + t) ≡ holds c
    at_ahead c k l z u q = around_mod m bs (h + t) (home c + k) (sym (ahead c l t u) ∙ ap (λ (x : ℕ). (home c + x) % m) q) ∙ z

    -- the next block is empty
    stopped : t < m → around m bs (h + t) ≡ empty → Rule3 home before m bs
    stopped v n = whole (λ c k l w z u q b. go c k l w z u q b (which (l + t) k))
      where
        go : (c : A) (k l : ℕ) → k < m → around m bs (home c + k) ≡ holds c → (home c + l) % m ≡ h % m → l + t ≤ k → before e c ≡ true → Which (l + t) k → ⊥
        go c k l w z u q b (less x) = false≢true (cc (smaller_ahead c k l v w z u x))
        go c k l w z u q b (same x) = false≢true (cc (at_ahead c k l z u x))
        go c k l w z u q b (more x) = omega arith

  -- the next block holds d, whose way does not cross the hole
  pass : {p f h t : ℕ} {e d : A} {bs : List (Block A)} (y : Hole p (suc f) h t e bs) (x : Far home m bs d (h + t))
      → around m bs (h + t) ≡ holds d → x.steps < t → Hole p f h (suc t) e bs
  pass {h = h} {t} {e} {d} {bs} y x n v = record {
    long = y.long;
    hollow = y.hollow;
    past = y.past;
    at = y.at;
    some = omega arith;
    left = omega (arith, y.left);
    ways = λ c k w z l g. way c k w z l g (y.ways c k w z l g);
    behind = y.behind;
  }
    where
      way : (c : A) (k : ℕ) → k < m → around m bs (home c + k) ≡ holds c → (l : ℕ) → l < k → Way home before m bs h t e c k l → Way home before m bs h (suc t) e c k l
      way c k w z l g (clear s) = clear s
      way c k w z l g (crosses u q b) = crosses u (by (which (l + t) k)) b
        where
          by : Which (l + t) k → l + suc t ≤ k
          by (less r) = omega arith
          by (same r) =
              let s : c ≡ d = cc (at_ahead y c k l z u r) in
              let o : (home d + k) % m ≡ (home d + x.steps) % m =
              ap (λ (a : A). (home a + k) % m) (sym s) ∙ ap (λ (a : ℕ). (home c + a) % m) (sym r) ∙ ahead y c l t u ∙ sym x.there in
              absurd (omega (arith, steps_same m (home d) (ord.homes d) k x.steps w x.few o))
          by (more r) = absurd (omega arith)

  -- the next block holds d, whose way crosses the hole: d goes there
  module _ {p f h t : ℕ} {e d : A} {bs : List (Block A)} (y : Hole p (suc f) h t e bs) (x : Far home m bs d (h + t))
      (n : around m bs (h + t) ≡ holds d) (v : t ≤ x.steps) where
    abbrev filled : List (Block A)
    filled = stored m bs h (holds d)

    abbrev next : List (Block A)
    next = stored m filled (h + t) empty

    apart : (h + t) % m ≢ h % m
    apart = not_hole y t y.some (omega (arith, y.left))

    next_block : (j : ℕ) → j % m ≡ (h + t) % m → around m next j ≡ empty
    next_block j u = stored_there m filled (h + t) j empty (omega (arith, ord.homes d)) (stored_long m bs h (holds d) y.long) u

    next_hole : (j : ℕ) → j % m ≡ h % m → around m next j ≡ holds d
    next_hole j u = stored_elsewhere m filled (h + t) j empty (λ w. apart (sym w ∙ u)) ∙ stored_there m bs h j (holds d) (omega (arith, ord.homes d)) y.long u

    next_else : (j : ℕ) → j % m ≢ h % m → j % m ≢ (h + t) % m → around m next j ≡ around m bs j
    next_else j u w = stored_elsewhere m filled (h + t) j empty w ∙ stored_elsewhere m bs h j (holds d) u

    -- a place is the hole, the next block or another one
    data Spot (j : ℕ) : Type 0 where
      hole : j % m ≡ h % m → Spot j
      block : j % m ≡ (h + t) % m → Spot j
      other : j % m ≢ h % m → j % m ≢ (h + t) % m → Spot j

    spot : (j : ℕ) → Spot j
    spot j = go (ℕ_discrete (j % m) (h % m)) (ℕ_discrete (j % m) ((h + t) % m))
      where
        go : Dec (j % m ≡ h % m) → Dec (j % m ≡ (h + t) % m) → Spot j
        go (yes u) w = hole u
        go (no u) (yes w) = block w
        go (no u) (no w) = other u w

    -- what stands in the new table is d, in the hole, or stood there before
    data Now (j : ℕ) (a : A) : Type 0 where
      moved : j % m ≡ h % m → a ≡ d → Now j a
      stayed : j % m ≢ h % m → j % m ≢ (h + t) % m → around m bs j ≡ holds a → Now j a

    now : (j : ℕ) (a : A) → around m next j ≡ holds a → Now j a
    now j a z = go (spot j)
      where
        go : Spot j → Now j a
        go (hole u) = moved u (cc (next_hole j u))
        go (block u) = absurd (true≢false (cc (next_block j u)))
        go (other u w) = stayed u w (sym (next_else j u w) ∙ z)

    -- d crosses the hole t steps before its block
    pull_back : (home d + (x.steps - t)) % m ≡ h % m
    pull_back = steps_back m (home d + (x.steps - t)) h t (omega (arith, x.few)) (ap (λ (a : ℕ). a % m) (omega arith) ∙ x.there)

    larger : before e d ≡ true
    larger = go (y.ways d x.steps x.few x.is (x.steps - t) (omega (arith, y.some)))
      where
        go : Way home before m bs h t e d x.steps (x.steps - t) → before e d ≡ true
        go (clear s) = absurd (false≢true (cc (s, y.hollow, around_mod m bs (home d + (x.steps - t)) h pull_back)))
        go (crosses u q b) = b

    -- the way of d to the hole
    own_way : (k : ℕ) → k < m → (home d + k) % m ≡ h % m → (l : ℕ) → l < k → holds_smaller before d (around m next (home d + l)) ≡ true
    own_way k w u l g = go (y.ways d x.steps x.few x.is l (omega (arith, near))) (spot (home d + l))
      where
        near : k ≡ x.steps - t
        near = steps_same m (home d) (ord.homes d) k (x.steps - t) w (omega (arith, x.few)) (u ∙ sym pull_back)

        not_there : (home d + l) % m ≡ h % m → ⊥
        not_there q = omega (arith, steps_same m (home d) (ord.homes d) l k (omega arith) w (q ∙ sym u))

        go : Way home before m bs h t e d x.steps l → Spot (home d + l) → holds_smaller before d (around m next (home d + l)) ≡ true
        go (crosses q r b) a = absurd (not_there q)
        go (clear q) (hole a) = absurd (not_there a)
        go (clear q) (block a) = absurd (omega (arith, y.some, near, steps_same m (home d) (ord.homes d) l x.steps (omega arith) x.few (a ∙ sym x.there)))
        go (clear q) (other a b) = rw (next_else (home d + l) a b) q

    -- c stands in the new table
    module _ (c : A) (k : ℕ) (w : k < m) (z : around m next (home c + k) ≡ holds c) where
      next_way : (l : ℕ) → l < k → Way home before m next (h + t) 1 d c k l
      next_way l g = by (now (home c + k) c z)
        where
          old : around m bs (home c + k) ≡ holds c → (home c + k) % m ≢ (h + t) % m → Way home before m bs h t e c k l → Spot (home c + l) → Way home before m next (h + t) 1 d c k l
          old o b (clear q) (hole a) = absurd (false≢true (cc (y.hollow, around_mod m bs (home c + l) h a)))
          old o b (clear q) (block a) = crosses a (omega arith) (let r : holds_smaller before c (holds d) ≡ true = rw (around_mod m bs (home c + l) (h + t) a, n) at q in r)
          old o b (clear q) (other a a') = clear (rw (next_else (home c + l) a a') q)
          old o b (crosses q r i) a = clear (rw (next_hole (home c + l) q) (ahead_of (which (l + t) k)))
            where
              ahead_of : Which (l + t) k → before d c ≡ true
              ahead_of (less j) =
                  let r : holds_smaller before c (holds d) ≡ true = rw n at (smaller_ahead y c k l (omega (arith, y.left)) w o q j) in r
              ahead_of (same j) = absurd (b (ap (λ (i : ℕ). (home c + i) % m) (sym j) ∙ ahead y c l t q))
              ahead_of (more j) = absurd (omega arith)

          by : Now (home c + k) c → Way home before m next (h + t) 1 d c k l
          by (moved a s) = rw s (clear (own_way k w (rw s at a) l g))
          by (stayed a b o) = old o b (y.ways c k w o l g) (spot (home c + l))

      next_behind : (a : ℕ) → a < y.past + t → (home c + k) % m ≡ (p + a) % m → a < k → (c ≡ d) ⊎ (before c d ≡ true)
      next_behind a u q r = by (now (home c + k) c z)
        where
          before_d : (c ≡ e) ⊎ (before c e ≡ true) → before c d ≡ true
          before_d (inl j) = rw j larger
          before_d (inr j) = ord.chain c e d j larger

          skipped : y.past < a → around m bs (home c + k) ≡ holds c → (home c + (k - (a - y.past))) % m ≡ h % m → Way home before m bs h t e c k (k - (a - y.past)) → ⊥
          skipped j o i (clear g) = false≢true (cc (g, y.hollow, around_mod m bs (home c + (k - (a - y.past))) h i))
          skipped j o i (crosses g v b) = omega arith

          old : (home c + k) % m ≢ h % m → around m bs (home c + k) ≡ holds c → Which a y.past → (c ≡ d) ⊎ (before c d ≡ true)
          old b o (less j) = inr (before_d (y.behind c k a w o j q r))
          old b o (same j) = absurd (b (q ∙ ap (λ (i : ℕ). i % m) (omega (arith, y.at))))
          old b o (more j) =
              absurd (skipped j o
              (steps_back m (home c + (k - (a - y.past))) h (a - y.past) (omega arith)
              (ap (λ (i : ℕ). i % m) (omega arith) ∙ q ∙ ap (λ (i : ℕ). i % m) (omega (arith, y.at))))
              (y.ways c k w o (k - (a - y.past)) (omega arith)))

          by : Now (home c + k) c → (c ≡ d) ⊎ (before c d ≡ true)
          by (moved i s) = inl s
          by (stayed i j o) = old i o (which a y.past)

    pull : Hole p f (h + t) 1 d next
    pull = record {
      long = stored_long m filled (h + t) empty (stored_long m bs h (holds d) y.long);
      hollow = next_block (h + t) refl;
      past = y.past + t;
      at = omega (arith, y.at);
      some = omega arith;
      left = omega (arith, y.left);
      ways = λ c k w z l g. next_way c k w z l g;
      behind = λ c k a w z u q r. next_behind c k w z a u q r;
    }

    pull_stays : (a : A) → Stands m bs a → Stands m next a
    pull_stays a s = go (spot s.at)
      where
        go : Spot s.at → Stands m next a
        go (hole u) = absurd (true≢false (cc (y.hollow, around_mod m bs s.at h u, s.is)))
        go (block u) = record { at = h; is = next_hole h refl ∙ sym n ∙ around_mod m bs (h + t) s.at (sym u) ∙ s.is }
        go (other u w) = record { at = s.at; is = next_else s.at u w ∙ s.is }

    pull_only : (a : A) → Stands m next a → Stands m bs a
    pull_only a s = go (now s.at a s.is)
      where
        go : Now s.at a → Stands m bs a
        go (moved u z) = record { at = h + t; is = n ∙ ap holds (sym z) }
        go (stayed u w o) = record { at = s.at; is = o }

    pull_count : how_many next ≡ how_many bs
    pull_count =
        let z : zero < m = omega (arith, ord.homes d) in
        omega (
          arith,
          store_count m bs h empty (holds d) y.long z y.hollow,
          store_count m filled (h + t) (holds d) empty (stored_long m bs h (holds d) y.long) z (stored_elsewhere m bs h (h + t) (holds d) apart ∙ n),
        )

  -- PULLING keeps what stands and restores rule 3
  pub pull_keeps : {p : ℕ} (f h t : ℕ) (e : A) (bs : List (Block A)) → Hole p f h t e bs → Pulled home before m bs (pull_from home f h t m bs)
  unfolding pull_from
  pull_keeps zero h t e bs y = record { long = y.long; rule_3 = finished y refl; stays = λ x s. s; only = λ x s. s; count = refl }
  pull_keeps {p} (suc f) h t e bs y =
      go (around m bs (h + t)) refl (λ u. pull_keeps f h (suc t) e bs u)
      (λ d u. pull_keeps f (h + t) 1 d (stored m (stored m bs h (holds d)) (h + t) empty) u)
    where
      to : A → List (Block A)
      to d = stored m (stored m bs h (holds d)) (h + t) empty

      go : (b : Block A) → around m bs (h + t) ≡ b
          → (Hole p f h (suc t) e bs → Pulled home before m bs (pull_from home f h (suc t) m bs))
          → ((d : A) → Hole p f (h + t) 1 d (to d) → Pulled home before m (to d) (pull_from home f (h + t) 1 m (to d)))
          → Pulled home before m bs (pull_step b bs (λ d. cond (leb t (distance_of m (home d) ((h + t) % m))) (pull_from home f (h + t) 1 m (to d)) (pull_from home f h (suc t) m bs)))
      go empty n skip move = record { long = y.long; rule_3 = stopped y (omega (arith, y.left)) n; stays = λ x s. s; only = λ x s. s; count = refl }
      go (holds d) n skip move =
          let x = far ord bs d (h + t) n in
          rw (distance_steps m (home d) ((h + t) % m) x.steps (ord.homes d) (mod-lt (h + t) (omega arith)) x.few x.there) (test x (leb t x.steps) refl)
        where
          test : (x : Far home m bs d (h + t)) (b : Bool) → leb t x.steps ≡ b
              → Pulled home before m bs (cond b (pull_from home f (h + t) 1 m (to d)) (pull_from home f h (suc t) m bs))
          test x true q =
              let v : t ≤ x.steps = leb-true t x.steps q in
              let r = move d (pull y x n v) in record {
                long = r.long;
                rule_3 = r.rule_3;
                stays = λ a s. r.stays a (pull_stays y x n v a s);
                only = λ a s. pull_only y x n v a (r.only a s);
                count = r.count ∙ pull_count y x n v;
              }
          test x false q = skip (pass y x n (leb-false t x.steps q))

-- what the removal of c leaves
pub record Removed {A : Type 0} (home : A → ℕ) (before : A → A → Bool) (m : ℕ) (c : A) (bs now : List (Block A)) : Type 0 where
  pub long : length now ≡ m
  pub rule_3 : Rule3 home before m now
  pub stays : (x : A) → Stands m bs x → (x ≡ c) ⊎ Stands m now x
  pub only : (x : A) → Stands m now x → Stands m bs x
  pub count : suc (how_many now) ≡ how_many bs
  pub gone : (x : A) → before x c ≡ false → before c x ≡ false → Stands m now x → ⊥

module _ {A : Type 0} {home : A → ℕ} {before : A → A → Bool} {m : ℕ} (ord : Ordered home before m) where
  module _ (i : ℕ) (c : A) (bs : List (Block A)) (long : length bs ≡ m) (rule : Rule3 home before m bs) (is : around m bs i ≡ holds c) where
    abbrev emptied : List (Block A)
    emptied = stored m bs i empty

    emptied_there : (j : ℕ) → j % m ≡ i % m → around m emptied j ≡ empty
    emptied_there j u = stored_there m bs i j empty (omega (arith, ord.homes c)) long u

    emptied_else : (j : ℕ) → j % m ≢ i % m → around m emptied j ≡ around m bs j
    emptied_else j u = stored_elsewhere m bs i j empty u

    emptied_apart : (x : A) (j : ℕ) → around m emptied j ≡ holds x → j % m ≢ i % m
    emptied_apart x j z u = true≢false (cc (emptied_there j u))

    emptied_is : (x : A) (j : ℕ) → around m emptied j ≡ holds x → around m bs j ≡ holds x
    emptied_is x j z = sym (emptied_else j (emptied_apart x j z)) ∙ z

    emptied_hole : Hole ord i (m - 1) i 1 c emptied
    emptied_hole = record {
      long = stored_long m bs i empty long;
      hollow = emptied_there i refl;
      past = 0;
      at = sym (add-zero i);
      some = omega arith;
      left = omega (arith, ord.homes c);
      ways = λ d k w z l g. way d k l g (rule d k w (emptied_is d (home d + k) z) l g) (ℕ_discrete ((home d + l) % m) (i % m));
      behind = λ d k a w z u q r. absurd (omega arith);
    }
      where
        way : (d : A) (k l : ℕ) → l < k → holds_smaller before d (around m bs (home d + l)) ≡ true → Dec ((home d + l) % m ≡ i % m) → Way home before m emptied i 1 c d k l
        way d k l g s (yes u) = crosses u (omega arith) (let r : holds_smaller before d (holds c) ≡ true = rw (around_mod m bs (home d + l) i u, is) at s in r)
        way d k l g s (no u) = clear (rw (emptied_else (home d + l) u) s)

    -- THE REMOVAL of the chunk at the place i
    pub removed : Removed home before m c bs (removed_at home m i bs)
    unfolding removed_at
    removed =
        let r = pull_keeps ord (m - 1) i 1 c emptied emptied_hole in record {
          long = r.long;
          rule_3 = r.rule_3;
          stays = λ x s. stay x s r (ℕ_discrete (s.at % m) (i % m));
          only = λ x s. let u = r.only x s in record { at = u.at; is = emptied_is x u.at u.is };
          count = omega (arith, r.count, store_count m bs i (holds c) empty long (omega (arith, ord.homes c)) is);
          gone = λ x a b s. let u = r.only x s in emptied_apart x u.at u.is (one_label ord bs rule x c u.at i (emptied_is x u.at u.is) is a b);
        }
      where
        end : List (Block A)
        end = pull_from home (m - 1) i 1 m emptied

        stay : (x : A) (s : Stands m bs x) → Pulled home before m emptied end → Dec (s.at % m ≡ i % m) → (x ≡ c) ⊎ Stands m end x
        stay x s r (yes u) = let o = around_mod m bs s.at i u in inl (cc (s.is, o))
        stay x s r (no u) = inr (r.stays x (record { at = s.at; is = emptied_else s.at u ∙ s.is }))
