-- Rows of nodes in bytes: what copies and writes of whole nodes do to the nodes that a row begins with.
use mathlib.Core.Path.{◌≡◌, refl, sym, ap, ◌∙◌}
use mathlib.Core.List.{List, [], ◌∷◌, ◌++◌, append_assoc, append-nil}
use Prim.Native.Nat.{ℕ, ◌+◌, ◌*◌, ◌-◌, ◌≤◌}
use native.Mathlib.Nat.{mul-zero, mul-add}
use native.Mathlib.Omega.{arith}
use lib.ListN.{length, take, drop, take-append-drop, length-append, length-drop}
use lib.Seq.{sets, take_at, drop_at, length-take-le, take_all}
use Rattle.sizes.specs.Numbers.{rows}
use Rattle.sizes.specs.Sizes.{row}
use Rattle.sizes.specs.declared.Sizes.{Sizes}
use Rattle.sizes.proofs.Laws.Sizes.{row_most}
use Rattle.sizes.proofs.Laws.HeaderLoops.{rows_most}
use Rattle.placement.specs.Chunks.{node_bytes, nodes_bytes}
use Rattle.placement.specs.declared.Order.{Order}
use Rattle.placement.proofs.Laws.Cells.{take_sets_end}
use Rattle.placement.proofs.Laws.Bridge.{length_nodes}
use Rattle.levels.specs.Edit.{followed}
use Rattle.levels.specs.Pour.{Front}

module _ (s : Sizes) where
  pub nodes_append : (a b : List Order) → nodes_bytes (row s) (a ++ b) ≡ nodes_bytes (row s) a ++ nodes_bytes (row s) b
  unfolding rows
  nodes_append [] b = refl
  nodes_append (o ∷ a) b = rw (nodes_append a b, append_assoc)

  pub nodes_one : (o : Order) → nodes_bytes (row s) (o ∷ []) ≡ node_bytes (row s) o
  unfolding rows
  nodes_one o = append-nil (node_bytes (row s) o)

  pub front_none : (cs : List ℕ) → Front (row s) cs []
  unfolding Front rows
  front_none cs = rw mul-zero

  -- n whole nodes of a row, from node a on
  front_part : (cs : List ℕ) (c : List Order) (a n : ℕ) → Front (row s) cs c → a + n ≤ length c → take (row s * n) (drop (row s * a) cs) ≡ nodes_bytes (row s) (take n (drop a c))
  unfolding Front
  front_part cs c a n f h =
      let w = row s in
      let part = take n (drop a c) in
      let past = nodes_bytes w (drop n (drop a c)) ++ drop (w * length c) cs in
      let la : length (nodes_bytes w (take a c)) ≡ w * a = length_nodes s (take a c) ∙ rw (length-take-le a c (omega arith)) refl in
      let ln : length (nodes_bytes w part) ≡ w * n = length_nodes s part ∙ rw (length-take-le n (drop a c) (omega (arith, length-drop a c))) refl in
      let all : nodes_bytes w c ≡ nodes_bytes w (take a c) ++ (nodes_bytes w part ++ nodes_bytes w (drop n (drop a c))) =
      rw (← nodes_append part (drop n (drop a c)), take-append-drop n (drop a c), ← nodes_append (take a c) (drop a c), take-append-drop a c) refl in
      let whole : cs ≡ nodes_bytes w (take a c) ++ (nodes_bytes w part ++ past) = sym (take-append-drop (w * length c) cs) ∙ rw (f, all) (simp append_assoc) in
      ap (λ (z : List ℕ). take (w * n) (drop (w * a) z)) whole ∙ ap (take (w * n)) (drop_at (nodes_bytes w (take a c)) (nodes_bytes w part ++ past) (w * a) la)
      ∙ take_at (nodes_bytes w part) past (w * n) ln

  pub front_first : (cs : List ℕ) (c : List Order) (n : ℕ) → Front (row s) cs c → n ≤ length c → take (row s * n) (drop 0 cs) ≡ nodes_bytes (row s) (take n c)
  front_first cs c n f h = rw (mul-zero (row s)) at (front_part cs c 0 n f (omega arith))

  -- nodes written behind those of a row
  pub front_more : (cs cs' : List ℕ) (c d : List Order) (a : ℕ) (vs : List ℕ) → Front (row s) cs c → a ≡ row s * length c → vs ≡ nodes_bytes (row s) d → cs' ≡ sets cs a vs
      → 16 * (length c + length d) ≤ length cs → Front (row s) cs' (c ++ d)
  unfolding Front
  front_more cs cs' c d a vs f ea ev e h =
      let l : length vs ≡ row s * length d = ap length ev ∙ length_nodes s d in
      let z : row s * length (c ++ d) ≡ a + length vs = ap (λ (n : ℕ). row s * n) (length-append c d) ∙ omega (arith, mul-add (row s) (length c) (length d)) in
      rw z
      (ap (take (a + length vs)) e
      ∙ take_sets_end cs a vs (omega (arith, rows_most (row s) (length c) (row_most s), rows_most (row s) (length d) (row_most s)))
      ∙ rw (nodes_append, ← f, ← ea, ← ev))

  -- .. and those from node a on moved to its front
  pub front_moved : (cs cs' : List ℕ) (c : List Order) (a n : ℕ) → Front (row s) cs c → a + n ≡ length c → cs' ≡ sets cs 0 (take (row s * n) (drop (row s * a) cs))
      → 16 * length c ≤ length cs → Front (row s) cs' (drop a c)
  front_moved cs cs' c a n f e ec h =
      let all : take n (drop a c) ≡ drop a c = take_all n (drop a c) (omega (arith, length-drop a c)) in
      front_more cs cs' [] (drop a c) 0 _ (front_none cs) (sym (mul-zero (row s))) (rw all at (front_part cs c a n f (omega arith))) ec (omega (arith, length-drop a c))

  -- nodes a to n of a row, e, behind those of another
  pub front_followed : (cs cs' ch : List ℕ) (c d e : List Order) (k a n : ℕ) → Front (row s) cs c → k ≡ length c → Front (row s) ch d → a ≤ n → n ≤ length d → take (n - a) (drop a d) ≡ e
      → cs' ≡ followed (row s) k a n cs ch → 16 * (k + (n - a)) ≤ length cs → Front (row s) cs' (c ++ e)
  unfolding followed
  front_followed cs cs' ch c d e k a n f ek g h m q ec room =
      let l : length e ≡ n - a = ap length (sym q) ∙ length-take-le (n - a) (drop a d) (omega (arith, length-drop a d)) in
      front_more cs cs' c e (row s * k) _ f (ap (λ (z : ℕ). row s * z) ek) (rw q at (front_part ch d a (n - a) g (omega arith))) ec (omega arith)
