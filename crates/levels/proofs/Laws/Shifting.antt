-- A partition under way from some nodes to others, chunk by chunk in place.
use mathlib.Core.Path.{◌≡◌, refl, sym, ap, ◌∙◌}
use mathlib.Core.List.{List, [], ◌∷◌, ◌++◌}
use Prim.Native.Nat.{ℕ, zero, suc, ◌+◌, ◌*◌, ◌-◌, ◌≤◌, ◌<◌}
use native.Mathlib.Decide.{dec_lt}
use native.Mathlib.Nat.{suc-mul, zero-mul, mul-le-mul_right}
use native.Mathlib.Numerals.{add-one}
use native.Mathlib.Omega.{arith}
use lib.ListN.{length, take, drop, length-append, length-drop, length-take}
use Rattle.sizes.specs.Sizes.{row}
use Rattle.placement.specs.Labels.{label}
use Rattle.placement.specs.Maps.{Map, Table, Fines, with_nodes}
use Rattle.placement.specs.Place.{Shaped}
use Rattle.sizes.specs.declared.Sizes.{Sizes}
use Rattle.placement.specs.declared.Order.{Order}
use Rattle.skiplist.proofs.Laws.Count.{pieces}
use Rattle.levels.specs.Edit.{Pieces}
use Rattle.levels.specs.Pour.{Front, one, Reads}
use Rattle.levels.specs.Shift.{Settable, Renews, Shiftable, Shifted, Shifts}
use Rattle.levels.proofs.Laws.Flushes.{fines_append, fines_drop, fines_there}
use Rattle.levels.proofs.Laws.Chunking.{pieces_next, chunk_behind, chunk_same, pieces_none, pieces_skip, pieces_pos, pieces_over, drop_next, drop_past, take_past}
use Rattle.levels.proofs.Laws.MapLabels.{with_other, with_number}

-- a list cut after b nodes, all of them in its first part, unless that is all
cut : (b : ℕ) (d e : List Order) → (length d < b → e ≡ []) → (take b d ≡ take b (d ++ e)) × (drop b d ++ e ≡ drop b (d ++ e))
cut zero d e h = (refl, refl)
cut (suc b) [] e h = rw (h (omega arith)) (refl, refl)
cut (suc b) (x ∷ d) e h = let c = cut b d e (λ l. h (omega arith)) in (ap (λ (z : List Order). x ∷ z) c.0, c.1)

-- t chunks hold what they are to hold; `carry` comes next, and then what came after chunk t
pub record Shifting (s : Sizes) (F : Map) (m : ℕ) (hd : List ℕ) (k f q : ℕ) (old new : List Order) (t left : ℕ) (bs cs : List ℕ) : Type 0 where
  pub map : Map
  pub full : ℕ
  pub table : Table s map full hd bs
  pub carry : List Order
  pub front : Front (row s) cs carry
  pub size : left ≡ length carry
  pub fine : Fines (row s) carry
  pub todo : carry ++ drop (suc t * s.nodes) old ≡ drop (t * s.nodes) new
  pub written : (i : ℕ) → i < t → map k f (q + i) ≡ take s.nodes (drop (i * s.nodes) new)
  pub elsewhere : (l h i : ℕ) → (l ≡ k → h ≡ f → q ≤ i → i < q + t → ⊥) → map l h i ≡ F l h i
  pub count : full + pieces s.nodes (length old) + pieces s.nodes (length (drop (t * s.nodes) new))
      ≡ m + pieces s.nodes (length new) + pieces s.nodes (length (drop (t * s.nodes) old))

module _ (s : Sizes) (F : Map) (m : ℕ) (hd : List ℕ) (k f q count : ℕ) (c old new : List Order) (sh : Shiftable s F m k f q count c old new) where
  some : 0 < s.nodes
  some = omega (arith, sh.two)

  pub shifting_start : (n : ℕ) (bs cs : List ℕ) → Table s F m hd bs → Front (row s) cs c → n ≡ length c → Shifting s F m hd k f q old new 0 n bs cs
  shifting_start n bs cs t fr en =
      let e : suc 0 * s.nodes ≡ s.nodes = omega arith in
      record {
        map = F;
        full = m;
        table = t;
        carry = c;
        front = fr;
        size = en;
        fine = sh.fine;
        todo = rw (e, zero-mul) sh.is;
        written = λ i h. absurd (omega arith);
        elsewhere = λ l h i a. refl;
        count = rw zero-mul (omega arith);
      }

  module _ (t left : ℕ) (bs cs : List ℕ) (p : Shifting s F m hd k f q old new t left bs cs) where
    -- a chunk that is not written yet
    as_before : (i : ℕ) → t ≤ i → p.map k f (q + i) ≡ take s.nodes (drop (i * s.nodes) old)
    unfolding Pieces
    as_before i h = p.elsewhere k f (q + i) (λ a b d e. omega arith) ∙ sh.source i

    here : p.map k f (q + t + 1) ≡ take s.nodes (drop (suc t * s.nodes) old)
    here = let e : q + t + 1 ≡ q + suc t = omega arith in rw e (as_before (suc t) (omega arith))

    -- with the next chunk read behind it, the carry has all of chunk t
    abbrev now : List Order
    now = p.carry ++ p.map k f (q + t + 1)

    whole : now ++ drop (suc (suc t) * s.nodes) old ≡ drop (t * s.nodes) new
    whole = chunk_behind s.nodes (suc t) old p.carry (p.map k f (q + t + 1)) _ here p.todo

    halves : (take s.nodes now ≡ take s.nodes (drop (t * s.nodes) new)) × (drop s.nodes now ++ drop (suc (suc t) * s.nodes) old ≡ drop s.nodes (drop (t * s.nodes) new))
    halves =
        rw whole at
        (cut s.nodes now (drop (suc (suc t) * s.nodes) old) (λ h. sym (drop_next s.nodes (suc t) old)
        ∙ drop_past s.nodes (drop (suc t * s.nodes) old)
        (omega (arith, length-append p.carry (p.map k f (q + t + 1)), ap length here, length-take s.nodes (drop (suc t * s.nodes) old)))))

    fine_now : Fines (row s) now
    fine_now = fines_append (row s) p.carry (p.map k f (q + t + 1)) p.fine (fines_there s p.map p.full hd bs k f (q + t + 1) p.table)

    -- what writing chunk t asks
    can : (r : ℕ) → r ≡ length now → Settable s p.map p.full (label k f (q + t)) r
    can r er = record {
      level = sh.level;
      label = λ pos. record {
        level = sh.level;
        first = sh.first;
        number = omega (
          arith,
          more pos,
          pieces_skip s.nodes (length new) t some (omega (arith, length-drop (t * s.nodes) new, long pos)),
          ap (pieces s.nodes) (length-drop (t * s.nodes) new),
          sh.few,
        );
      };
      room = λ pos z.
          let none : length (drop (t * s.nodes) old) ≡ 0 =
          omega (arith, some, ap length (sym (as_before t (omega arith)) ∙ z), length-take s.nodes (drop (t * s.nodes) old)) in
          omega (arith, more pos, ap (pieces s.nodes) none, pieces_none s.nodes, p.count, sh.room);
    }
      where
        long : 0 < r → 0 < length (drop (t * s.nodes) new)
        long pos = omega (arith, ap length whole, length-append now (drop (suc (suc t) * s.nodes) old))

        more : 0 < r → 0 < pieces s.nodes (length (drop (t * s.nodes) new))
        more pos = pieces_pos s.nodes (length (drop (t * s.nodes) new)) some (long pos)

    -- CHUNK t WRITTEN
    pub shifting_more : (cs₁ : List ℕ) (r₁ : ℕ) → Reads s (label k f (q + t + 1)) left bs cs cs₁ r₁ → (bs₂ cs₂ : List ℕ) (r₂ : ℕ)
        → Renews s (label k f (q + t)) r₁ bs bs₂ cs₁ cs₂ r₂
        → Shifting s F m hd k f q old new (suc t) r₂ bs₂ cs₂
    unfolding Reads Renews
    shifting_more cs₁ r₁ rd bs₂ cs₂ r₂ rn =
        let u = rd p.map p.full hd p.carry p.table sh.level p.front p.size in
        let x = rn p.map p.full hd now p.table u.front u.size fine_now (can r₁ u.size) in
        record {
          map = with_nodes (label k f (q + t)) (take s.nodes now) p.map;
          full = x.stored.full;
          table = x.stored.table;
          carry = drop s.nodes now;
          front = x.front;
          size = x.size;
          fine = fines_drop (row s) s.nodes now fine_now;
          todo = halves.1 ∙ drop_next s.nodes t new;
          written = λ i a. with_number p.map _ (λ z. halves.0 ∙ chunk_same s.nodes new (omega arith)) (λ z. p.written i (omega (arith, z)));
          elsewhere = λ l h i a. with_other p.map (λ u v w. a u v (omega arith) (omega arith)) _ ∙ p.elsewhere l h i (λ u v w y. a u v w (omega arith));
          count = omega (
            arith,
            p.count,
            x.stored.count,
            pieces_next s.nodes t new some,
            pieces_next s.nodes t old some,
            ap one (as_before t (omega arith)),
            ap one halves.0,
          );
        }

    -- THE END: no chunk comes after the last one written
    module _ (end : count + 2 ≤ t) where
      rest_long : length (drop s.nodes old) ≤ count * s.nodes
      rest_long = pieces_over s.nodes (length (drop s.nodes old)) count some (omega (arith, sh.chunks))

      far : (n : ℕ) → t ≤ n → count * s.nodes + s.nodes + s.nodes ≤ n * s.nodes
      far n h = omega (arith, suc-mul count s.nodes, suc-mul (suc count) s.nodes, mul-le-mul_right {m = suc (suc count)} {n = n} s.nodes (omega arith))

      old_past : (n : ℕ) → t ≤ n → length old ≤ n * s.nodes
      old_past n h = omega (arith, far n h, rest_long, length-drop s.nodes old)

      new_past : (n : ℕ) → t ≤ n → length new ≤ n * s.nodes
      new_past n h = omega (arith, far n h, rest_long, ap length sh.is, length-append c (drop s.nodes old), sh.short, sh.two)

      stands : (n : ℕ) → Dec (n < t) → p.map k f (q + n) ≡ take s.nodes (drop (n * s.nodes) new)
      stands n (yes h) = p.written n h
      stands n (no h) =
          as_before n (omega (arith, h)) ∙ take_past s.nodes (n * s.nodes) old (old_past n (omega (arith, h)))
          ∙ sym (take_past s.nodes (n * s.nodes) new (new_past n (omega (arith, h))))

      pub shifting_end : Shifted s F m hd k f q old new bs
      unfolding Pieces
      shifting_end = record {
        map = p.map;
        full = p.full;
        table = p.table;
        there = λ n. stands n (dec_lt n t);
        elsewhere = λ l h i a. p.elsewhere l h i (λ u v w y. a u v w);
        count = omega (
          arith,
          p.count,
          pieces_none s.nodes,
          ap (λ (z : List Order). pieces s.nodes (length z)) (drop_past (t * s.nodes) new (new_past t (omega arith))),
          ap (λ (z : List Order). pieces s.nodes (length z)) (drop_past (t * s.nodes) old (old_past t (omega arith))),
        );
      }

-- AS `shift` ASKS: what its loop keeps
pub record Moving (s : Sizes) (k f q count n : ℕ) (bs₀ cs₀ : List ℕ) (t left : ℕ) (bs cs : List ℕ) : Type 0 where
  pub shaped : Shaped s bs
  pub within : t ≤ count + 2
  pub short : left ≤ s.nodes + 1
  pub on : (F : Map) (m : ℕ) (hd : List ℕ) (c old new : List Order) → Table s F m hd bs₀ → Front (row s) cs₀ c → n ≡ length c → Shiftable s F m k f q count c old new
      → Shifting s F m hd k f q old new t left bs cs

module _ (s : Sizes) (k f q count n : ℕ) (bs₀ cs₀ : List ℕ) where
  module _ (t left : ℕ) (bs cs : List ℕ) (i : Moving s k f q count n bs₀ cs₀ t left bs cs) where
    pub moving_more : t < count + 2 → (cs₁ : List ℕ) (r : ℕ) → r ≤ left + s.nodes → Reads s (label k f (q + t + 1)) left bs cs cs₁ r
        → (bs₂ cs₂ : List ℕ) (r₂ : ℕ) → Shaped s bs₂ → r₂ ≤ r - s.nodes → Renews s (label k f (q + t)) r bs bs₂ cs₁ cs₂ r₂
        → Moving s k f q count n bs₀ cs₀ (t + 1) r₂ bs₂ cs₂
    moving_more h cs₁ r most rd bs₂ cs₂ r₂ shaped less rn = record {
      shaped = shaped;
      within = omega arith;
      short = omega (arith, i.short);
      on = λ F m hd c old new tb fr en sh.
          rw add-one (shifting_more s F m hd k f q count c old new sh t left bs cs (i.on F m hd c old new tb fr en sh) cs₁ r rd bs₂ cs₂ r₂ rn);
    }

    pub moving_end : count + 2 ≤ t → Shifts s k f q count n bs₀ bs cs₀
    unfolding Shifts
    moving_end h F m hd c old new tb fr en sh =
        shifting_end s F m hd k f q count c old new sh t left bs cs (i.on F m hd c old new tb fr en sh) h
