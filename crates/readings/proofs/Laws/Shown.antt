-- The answers of a descent: 4 and 5 on any bytes, what an image decides, and that it stays within its output.
use Rattle.std.proofs.Common.{Option, Some, None, Ok}
use mathlib.Core.Path.{◌≡◌, refl, sym, ap, ◌∙◌}
use mathlib.Core.Bool.{Bool, true, false, cond, false≢true}
use mathlib.Core.List.{List, ◌++◌}
use Prim.Native.Nat.{ℕ, ◌+◌, ◌*◌, ◌≤◌, ◌<◌}
use native.Mathlib.Omega.{arith}
use borrow.Author.Tests.{le-leb, lt-leb}
use lib.Dec.{leb, eqb}
use lib.ListN.{length, drop}
use lib.Seq.{sets-eq}
use Rattle.sizes.specs.Numbers.{rows}
use Rattle.sizes.specs.Sizes.{row}
use Rattle.sizes.specs.Header.{sizes_in, rule_1}
use Rattle.sizes.specs.declared.Geometry.{Geometry}
use Rattle.placement.specs.declared.Order.{Order}
use Rattle.sizes.proofs.Laws.HeaderLoops.{rule_short}
use Rattle.skiplist.specs.Image.{is_image, orders_in}
use Rattle.skiplist.specs.Questions.{first_no, is_key, held, between, asks_image}
use Rattle.skiplist.specs.Paths.{descent_path, path_bytes, asks_descent}
use Rattle.skiplist.specs.Book.{descent, asks, refusal}
use Rattle.table.specs.declared.Refusal.TheVariants.{NoImage, NoKey, OutputShort}
use Rattle.table.specs.Refusals.{refused}
use Rattle.table.specs.Calls.{gives, LookAs, asks_first, shown, DescentAs, Within, DescentSays}
use Rattle.table.specs.declared.Reply.{Reply}
use Rattle.table.proofs.Laws.Descents.{path_long, image_rule}
use Rattle.levels.specs.declared.Trail.{Trail}
use Rattle.levels.specs.Ways.{Trek, trek}
use Rattle.levels.proofs.Laws.Numbers.{numbers_in, numbers_long, numbers_behind, numbers_room}
use Rattle.readings.specs.Visit.{first_of}
use Rattle.readings.specs.Descent.{way, landed, path_reply}
use Rattle.readings.proofs.Laws.Answers.{known_image}
use Rattle.readings.proofs.Laws.Replies.{key_least, sought_absent, sought_there}
use Rattle.readings.proofs.Laws.Descents.{numbers, way_path, way_count, Reached, ends_right, order_right}

-- a reply that has no count, and an output that stays
within_none : (r : Reply) (o : List ℕ) → r.count ≡ 0 → Within r o o
within_none r o e = record { long = refl; room = omega arith; behind = refl }

module _ (bs : List ℕ) (k : ℕ) (o : List ℕ) where
  abbrev path : List ℕ
  path = descent_path (sizes_in bs) (orders_in bs) k

  number : is_image bs ≡ true → (a b c : Bool) → is_key k ≡ a → leb (2 * length path) (length o) ≡ b → held k (orders_in bs) ≡ c →
      refusal (descent k o) bs ≡ cond a (cond b (cond c 0 9) 11) 5
  unfolding refusal asks asks_image asks_descent first_no
  number i a b c ea eb ec = rw (i, ea, eb, ec)

  first : (a b : Bool) → rule_1 bs ≡ a → is_key k ≡ b → first_no (asks_first bs k) ≡ cond a (cond b 0 5) 4
  unfolding asks_first first_no
  first a b ea eb = rw (ea, eb)

  -- a refusal that shows no path
  refused_5 : refusal (descent k o) bs ≡ 5 → DescentAs (refusal (descent k o) bs) k (orders_in bs) path (refused NoKey) o o
  unfolding DescentAs LookAs gives shown path_bytes rows
  refused_5 h = rw h (refl, refl)

  refused_11 : refusal (descent k o) bs ≡ 11 → DescentAs (refusal (descent k o) bs) k (orders_in bs) path (refused OutputShort) o o
  unfolding DescentAs LookAs gives shown path_bytes rows
  refused_11 h = rw h (refl, refl)

  -- 4 and 5
  pub descent_4 : (a : Bool) → a ≡ rule_1 bs → a ≡ false → DescentSays bs k (refused NoImage) o o
  descent_4 a ea e = record {
    turned_down = λ z. (rw (first false (is_key k) (sym ea ∙ e) refl), refl);
    on_image = λ i. absurd (false≢true (sym e ∙ ea ∙ image_rule bs i));
    within = within_none _ o refl;
  }

  pub descent_short : length bs < 53 → DescentSays bs k (refused NoImage) o o
  descent_short l = descent_4 false (rule_short bs l) refl

  module _ (a : Bool) (ea : a ≡ rule_1 bs) (ra : a ≡ true) (b : Bool) (eb : b ≡ is_key k) where
    pub descent_5 : b ≡ false → DescentSays bs k (refused NoKey) o o
    descent_5 e = record {
      turned_down = λ z. (rw (first true false (sym ea ∙ ra) (sym eb ∙ e)), refl);
      on_image = λ i. refused_5 (number i false _ _ (sym eb ∙ e) refl refl);
      within = within_none _ o refl;
    }

    module _ (rb : b ≡ true) (q : Geometry) (eq : q.sizes ≡ sizes_in bs) (t : Trail) (x x' : List ℕ) (et : trek t x' ≡ way q bs k x) where
      passed : (first_no (asks_first bs k) ≡ 0 → ⊥) → {P : Type 0} → P
      passed z = absurd (z (first true true (sym ea ∙ ra) (sym eb ∙ rb)))

      many : t.count ≡ length (numbers q bs k)
      many = ap (λ (z : Trek). z.trail.count) et ∙ way_count q bs k x

      -- on an image
      module _ (i : is_image bs ≡ true) where
        reached : (z : List ℕ) → (y : Order) × Reached (sizes_in bs) bs (known_image bs i) k (key_least k b eb rb) q eq z y × (cond (eqb y.key k) (Some y) None ≡ first_of (between k k (orders_in bs)))
        reached z = ends_right (sizes_in bs) bs (known_image bs i) k (key_least k b eb rb) q eq z

        long : t.count ≡ length path
        long = let v = reached x in ap (λ (z : Trek). z.trail.count) (et ∙ v.1.is) ∙ v.1.count

        order : (f : Option Order) → f ≡ landed (row q.sizes) bs t.at k → f ≡ first_of (between k k (orders_in bs))
        order f ef = order_right (sizes_in bs) bs (known_image bs i) k (key_least k b eb rb) q eq x t x' et f ef

        written : 2 * t.count ≤ length o → (z : List ℕ) → z ≡ (way q bs k o).path → z ≡ path_bytes path ++ drop (2 * length path) o
        written h z ez =
            let room : 2 * (0 + length path) ≤ length o = omega (arith, long) in
            let n : 0 + length (path_bytes path) ≡ 2 * length path = omega (arith, path_long path) in
            let v = reached o in
            ez ∙ ap (λ (w : Trek). w.path) v.1.is ∙ numbers_room o 0 path room ∙ sets-eq (path_bytes path) o 0 (omega (arith, path_long path, room))
            ∙ ap (λ (j : ℕ). path_bytes path ++ drop j o) n

      pub descent_11 : length o < 2 * t.count → DescentSays bs k (refused OutputShort) o o
      descent_11 l = record {
        turned_down = λ z. passed z;
        on_image = λ i. refused_11 (number i true false _ (sym eb ∙ rb) (lt-leb (2 * length path) (length o) (omega (arith, long i))) refl);
        within = within_none _ o refl;
      }

      module _ (l : 2 * t.count ≤ length o) (z : List ℕ) (ez : z ≡ (way q bs k o).path) where
        inside : (r : Reply) → r.count ≡ t.count → Within r o z
        inside r c =
            let p : z ≡ numbers_in o 0 (numbers q bs k) = ez ∙ way_path q bs k o in
            record {
              long = ap length p ∙ numbers_long o 0 (numbers q bs k);
              room = rw c l;
              behind = ap (drop (2 * r.count)) p ∙ numbers_behind o 0 (numbers q bs k) (2 * r.count) (omega (arith, many));
            }

        room_yes : is_image bs ≡ true → leb (2 * length path) (length o) ≡ true
        room_yes i = le-leb (2 * length path) (length o) (omega (arith, long i))

        -- 9, or the order; and the path
        pub descent_rest : (f : Option Order) → f ≡ landed (row q.sizes) bs t.at k → DescentSays bs k (path_reply (Ok (t.count, f))) o z
        unfolding DescentAs LookAs gives shown
        descent_rest None ef = record {
          turned_down = λ z. passed z;
          on_image = λ i. rw (number i true true false (sym eb ∙ rb) (room_yes i) (sought_absent k (orders_in bs) None (order i None ef) refl)) (rw (long i), written i l z ez);
          within = inside _ refl;
        }
        descent_rest (Some y) ef = record {
          turned_down = λ z. passed z;
          on_image = λ i.
              let v = sought_there k (orders_in bs) (Some y) (order i (Some y) ef) y refl in
              rw (number i true true true (sym eb ∙ rb) (room_yes i) v.0) (rw (v.1, long i), written i l z ez);
          within = inside _ refl;
        }
