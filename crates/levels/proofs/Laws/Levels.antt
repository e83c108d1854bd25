-- What the edits of one level do: a key entered into its partition or taken out of it, a partition split or joined.
use mathlib.Core.Path.{◌≡◌, refl, sym, ap, ◌∙◌}
use mathlib.Core.Bool.{Bool, true, false, cond}
use mathlib.Core.List.{List, [], ◌∷◌, ◌++◌, append_assoc}
use Prim.Native.Nat.{ℕ, suc, ◌+◌, ◌*◌, ◌-◌, ◌/◌, ◌%◌, ◌≤◌, ◌<◌}
use native.Mathlib.Nat.{sub-zero}
use native.Mathlib.Numerals.{add-one}
use native.Mathlib.Omega.{arith}
use lib.Dec.{eqb}
use lib.ListN.{length, take, drop, length-append, length-take, length-drop}
use lib.Seq.{drop-append-le, sets, length-sets, append_snoc, length-take-le, take_all}
use Rattle.sizes.specs.Sizes.{row}
use Rattle.placement.specs.Labels.{label}
use Rattle.placement.specs.Chunks.{node_bytes}
use Rattle.placement.specs.Maps.{Map, Table, Fine, Fines}
use Rattle.sizes.specs.declared.Sizes.{Sizes}
use Rattle.placement.specs.declared.Order.{Order}
use Rattle.placement.proofs.Laws.Tables.{count_most}
use Rattle.skiplist.specs.Lists.{masked}
use Rattle.skiplist.proofs.Laws.Count.{pieces}
use Rattle.skiplist.proofs.Laws.Sound.{none_fine}
use Rattle.levels.specs.declared.Spot.{Spot}
use Rattle.levels.specs.Edit.{Pieces, followed, Room, EntersIn, CancelsIn}
use Rattle.levels.specs.Pour.{Front, Reads}
use Rattle.levels.specs.Shift.{Shifts}
use Rattle.levels.proofs.Laws.CarryFronts.{front_none, front_more, front_followed, nodes_one}
use Rattle.levels.proofs.Laws.Flushes.{fines_take, fines_drop, fines_append, fines_there}
use Rattle.levels.proofs.Laws.Chunking.{pieces_at, pieces_up_to, number_half, pieces_half}
use Rattle.levels.proofs.Laws.Replacing.{Split, split_at, behind_held, change_in}

-- SMALL FACTS
pub fine_masked : (w k : ℕ) (o : Order) → Fine w o → Fine w (masked k o)
unfolding masked
fine_masked w k o f = go (eqb k 1)
  where
    go : (t : Bool) → Fine w (record { key = o.key; total = cond t o.total 0; displayed = cond t o.displayed 0; price = cond t o.price 0 })
    go true = f
    go false = record { key = f.key; total = omega arith; displayed = omega arith; price = (none_fine w).price }

-- the number of a chunk, and of those after it, fit
module _ (b m w i count : ℕ) (two : 2 ≤ b) (hm : m < 4294967296) (hw : w < 4294967296) (ei : i ≡ m / b) where
  pub numbers_fit : (j : ℕ) → count ≡ pieces b w - (j + 1) → i + 1 + count < 4294967296
  numbers_fit j ec = omega (arith, number_half b m two, pieces_half b w two)

  pub numbers_shift : count ≡ pieces b w - (i + 1) → i + count + 3 < 4294967296
  numbers_shift ec = omega (arith, number_half b m two, pieces_half b w two)

-- THE CARRY, from a row of the n nodes of a chunk: r nodes before the key, the key, and the nodes behind it
module _ (s : Sizes) (ch ca₀ ca₁ ca₂ : List ℕ) (c : List Order) (o : Order) (n r : ℕ) (fr : Front (row s) ch c) (en : n ≡ length c) (most : r ≤ n) (few : n ≤ 32) (long : 528 ≤ length ca₀) where
  before_long : length (take r c) ≡ r
  before_long = length-take-le r c (omega arith)

  rest : (a : ℕ) → take (n - a) (drop a c) ≡ drop a c
  rest a = take_all (n - a) (drop a c) (omega (arith, length-drop a c))

  carry_before : ca₁ ≡ followed (row s) 0 0 r ca₀ ch → Front (row s) ca₁ (take r c)
  carry_before e = front_followed s ca₀ ca₁ ch [] c (take r c) 0 0 r (front_none s ca₀) refl fr (omega arith) (omega arith) (ap (λ (z : ℕ). take z c) (sub-zero r)) e (omega arith)

  pub carry_entered : (ca₃ : List ℕ) → ca₁ ≡ followed (row s) 0 0 r ca₀ ch → ca₂ ≡ sets ca₁ (row s * r) (node_bytes (row s) o) → ca₃ ≡ followed (row s) (r + 1) r n ca₂ ch
      → Front (row s) ca₃ (take r c ++ o ∷ [] ++ drop r c)
  unfolding followed
  carry_entered ca₃ e₁ e₂ e₃ =
      let l₁ : length ca₁ ≡ length ca₀ = ap length e₁ ∙ simp length-sets in
      let l₂ : length ca₂ ≡ length ca₁ = ap length e₂ ∙ simp length-sets in
      let f₂ = front_more s ca₁ ca₂ (take r c) (o ∷ []) (row s * r) _ (carry_before e₁) (ap (λ (z : ℕ). row s * z) (sym before_long)) (sym (nodes_one s o)) e₂ (omega (arith, before_long)) in
      front_followed s ca₂ ca₃ ch (take r c ++ o ∷ []) c (drop r c) (r + 1) r n f₂ (omega (arith, before_long, length-append (take r c) (o ∷ []))) fr most (omega arith) (rest r) e₃ (omega arith)

  -- .. of an enter that splits
  pub carry_split : ca₁ ≡ sets ca₀ (row s * 0) (node_bytes (row s) o) → ca₂ ≡ followed (row s) 1 r n ca₁ ch → Front (row s) ca₂ (o ∷ [] ++ drop r c)
  carry_split e₁ e₂ =
      let l₁ : length ca₁ ≡ length ca₀ = ap length e₁ ∙ simp length-sets in
      let f₁ = front_more s ca₀ ca₁ [] (o ∷ []) (row s * 0) _ (front_none s ca₀) refl (sym (nodes_one s o)) e₁ (omega arith) in
      front_followed s ca₁ ca₂ ch (o ∷ []) c (drop r c) 1 r n f₁ refl fr most (omega arith) (rest r) e₂ (omega arith)

  -- .. of a cancel
  pub carry_cancel : r < n → ca₁ ≡ followed (row s) 0 0 r ca₀ ch → ca₂ ≡ followed (row s) r (r + 1) n ca₁ ch → Front (row s) ca₂ (take r c ++ drop (r + 1) c)
  unfolding followed
  carry_cancel h e₁ e₂ =
      let l₁ : length ca₁ ≡ length ca₀ = ap length e₁ ∙ simp length-sets in
      front_followed s ca₁ ca₂ ch (take r c) c (drop (r + 1) c) r (r + 1) n (carry_before e₁) (sym before_long) fr (omega arith) (omega arith) (rest (r + 1)) e₂ (omega arith)

-- THE CHUNK WHERE A KEY COMES, in a row of n nodes
pub record ChunkRead (s : Sizes) (F : Map) (k f i r n : ℕ) (ch : List ℕ) (ps qs : List Order) : Type 0 where
  pub split : Split s.nodes i r ps qs (F k f i)
  pub front : Front (row s) ch (F k f i)
  pub size : n ≡ length (F k f i)
  pub fine : Fines (row s) (F k f i)

module _ (s : Sizes) (k f : ℕ) (x : Spot) (bs : List ℕ) (two : 2 ≤ s.nodes) (i r n : ℕ) (ei : i ≡ x.below / s.nodes) (er : r ≡ x.below % s.nodes)
    (ch₀ ch : List ℕ) (rd : Reads s (label k f i) 0 bs ch₀ ch n) where
  pub chunk_read : (F : Map) (m : ℕ) (hd : List ℕ) (ps qs : List Order) (o : Order) → Table s F m hd bs → Room s k f ps qs x o → Pieces F s.nodes k f 0 (ps ++ qs)
      → ChunkRead s F k f i r n ch ps qs
  unfolding Reads
  chunk_read F m hd ps qs o t rm p =
      let u = rd F m hd [] t rm.level (front_none s ch₀) refl in
      record {
        split = split_at s.nodes x.below i r ps qs (F k f i) two ei er rm.below (pieces_at F s.nodes k f (ps ++ qs) i p);
        front = u.front;
        size = u.size;
        fine = fines_there s F m hd bs k f i t;
      }

  -- ENTER, AT THE KEY'S OWN LEVEL
  module _ (max : s.nodes ≤ 32) (o : Order) where
    pub enter_in_short : n < r → EntersIn s k f x o bs bs
    unfolding EntersIn
    enter_in_short h F m hd ps qs t rm p room = let u = chunk_read F m hd ps qs o t rm p in absurd (omega arith)

    pub enter_in_made : (count : ℕ) → count ≡ pieces s.nodes x.size - (i + 1) → r ≤ n → (ca₀ ca₁ ca₂ ca₃ : List ℕ) → ca₁ ≡ followed (row s) 0 0 r ca₀ ch
        → ca₂ ≡ sets ca₁ (row s * r) (node_bytes (row s) (masked k o)) → ca₃ ≡ followed (row s) (r + 1) r n ca₂ ch → length ca₀ ≡ 1040 → (bs₂ : List ℕ) → Shifts s k f i count (n + 1) bs bs₂ ca₃
        → EntersIn s k f x o bs bs₂
    unfolding EntersIn
    enter_in_made count ec h ca₀ ca₁ ca₂ ca₃ e₁ e₂ e₃ long bs₂ sf F m hd ps qs t rm p room =
        let u = chunk_read F m hd ps qs o t rm p in
        let now = F k f i in
        let fr = carry_entered s ch ca₀ ca₁ ca₂ now (masked k o) n r u.front u.size h (omega arith) (omega arith) ca₃ e₁ e₂ e₃ in
        let c = take r now ++ masked k o ∷ [] ++ drop r now in
        let cl : n + 1 ≡ length c = simp (length-append, length-drop, length-take) (omega arith) in
        let fine = fines_append (row s) (take r now ++ masked k o ∷ []) (drop r now)
        (fines_append (row s) (take r now) (masked k o ∷ []) (fines_take (row s) r now u.fine) (fine_masked (row s) k o rm.fine, tt)) (fines_drop (row s) r now u.fine) in
        let is : c ++ drop (suc i * s.nodes) (ps ++ qs) ≡ drop (i * s.nodes) (ps ++ masked k o ∷ qs) =
        append_assoc (take r now ++ masked k o ∷ []) (drop r now) (drop (suc i * s.nodes) (ps ++ qs))
        ∙ rw (u.split.before, u.split.behind, append_snoc) (sym (drop-append-le (i * s.nodes) ps (masked k o ∷ qs) (omega arith))) in
        let ly : length (ps ++ masked k o ∷ qs) ≡ suc (length (ps ++ qs)) = length-append ps (masked k o ∷ qs) ∙ omega (arith, length-append ps qs) in
        change_in s F m hd bs k f i ps qs (masked k o ∷ qs) c t two rm.level rm.first p (omega arith) (omega (arith, rm.few)) fine (omega arith) is (rw ly room)
        count (ec ∙ rw rm.size refl) ca₃ fr (n + 1) cl bs₂ sf

  -- CANCEL, AT THE KEY'S OWN LEVEL
  module _ (max : s.nodes ≤ 32) where
    pub cancel_in_short : n ≤ r → CancelsIn s k f x bs bs
    unfolding CancelsIn
    cancel_in_short h F m hd ps y qs t rm p some = let u = chunk_read F m hd ps (y ∷ qs) y t rm p in absurd (omega arith)

    pub cancel_in_made : (count : ℕ) → count ≡ pieces s.nodes x.size - (i + 1) → r < n → (ca₀ ca₁ ca₂ : List ℕ) → ca₁ ≡ followed (row s) 0 0 r ca₀ ch
        → ca₂ ≡ followed (row s) r (r + 1) n ca₁ ch → length ca₀ ≡ 1040 → (bs₂ : List ℕ) → Shifts s k f i count (n - 1) bs bs₂ ca₂
        → CancelsIn s k f x bs bs₂
    unfolding CancelsIn
    cancel_in_made count ec h ca₀ ca₁ ca₂ e₁ e₂ long bs₂ sf F m hd ps y qs t rm p some =
        let u = chunk_read F m hd ps (y ∷ qs) y t rm p in
        let now = F k f i in
        let fr = rw add-one at (carry_cancel s ch ca₀ ca₁ ca₂ now y n r u.front u.size (omega arith) (omega arith) (omega arith) h e₁ e₂) in
        let c = take r now ++ drop (suc r) now in
        let cl : n - 1 ≡ length c = simp (length-append, length-drop, length-take) (omega arith) in
        let fine = fines_append (row s) (take r now) (drop (suc r) now) (fines_take (row s) r now u.fine) (fines_drop (row s) (suc r) now u.fine) in
        let is : c ++ drop (suc i * s.nodes) (ps ++ y ∷ qs) ≡ drop (i * s.nodes) (ps ++ qs) =
        append_assoc (take r now) (drop (suc r) now) (drop (suc i * s.nodes) (ps ++ y ∷ qs))
        ∙ rw (u.split.before, behind_held s.nodes i r ps y qs now u.split) (sym (drop-append-le (i * s.nodes) ps qs (omega arith))) in
        let ly : length (ps ++ y ∷ qs) ≡ suc (length (ps ++ qs)) = length-append ps (y ∷ qs) ∙ omega (arith, length-append ps qs) in
        let fewer = pieces_up_to s.nodes (length (ps ++ qs)) (length (ps ++ y ∷ qs)) (omega arith) (omega arith) in
        change_in s F m hd bs k f i ps (y ∷ qs) qs c t two rm.level rm.first p (omega arith) (omega (arith, rm.few)) fine (omega arith) is
        (omega (arith, count_most s F m hd bs t))
        count (ec ∙ rw rm.size refl) ca₂ fr (n - 1) cl bs₂ sf
