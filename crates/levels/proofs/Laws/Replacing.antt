-- The chunks of a partition before and from a key on, and what it does to a partition that chunks from one on are shifted.
use mathlib.Core.Path.{◌≡◌, refl, sym, ap, ◌∙◌}
use mathlib.Core.List.{List, ◌∷◌, ◌++◌}
use Prim.Native.Nat.{ℕ, ◌/◌, ◌%◌, suc, ◌+◌, ◌*◌, ◌-◌, ◌≤◌, ◌<◌, min}
use native.Mathlib.Decide.{dec_lt}
use native.Mathlib.Nat.{div-add-mod', mod-lt, suc-mul, mul-le-mul_right}
use native.Mathlib.Numerals.{add-one}
use native.Mathlib.Omega.{arith}
use lib.ListN.{length, take, drop, length-append, length-drop, length-take}
use lib.Seq.{drop-drop, take-append-le, drop-append-le, take_at, drop_at}
use Rattle.sizes.specs.Sizes.{row}
use Rattle.placement.specs.Maps.{Map, Table, Fines}
use Rattle.sizes.specs.declared.Sizes.{Sizes}
use Rattle.placement.specs.declared.Order.{Order}
use Rattle.skiplist.proofs.Laws.Count.{pieces}
use Rattle.levels.specs.Edit.{Pieces, Elsewhere, ComesIn}
use Rattle.levels.specs.Pour.{Front}
use Rattle.levels.specs.Shift.{Shifts}
use Rattle.levels.proofs.Laws.Chunking.{pieces_over, chunk_rest, pieces_at, pieces_from, pieces_join, pieces_none, pieces_skip, pieces_pass, pieces_half, drop_next}

-- a chunk before the end of ps, whatever follows
pub chunk_low : (b n i : ℕ) (ps x : List Order) → n < i → i * b ≤ length ps → take b (drop (n * b) (ps ++ x)) ≡ take b (drop (n * b) ps)
chunk_low b n i ps x h g =
    let e : suc n * b ≤ length ps = omega (arith, mul-le-mul_right b h) in
    let u = suc-mul n b in
    ap (take b) (drop-append-le (n * b) ps x (omega arith)) ∙ take-append-le b (drop (n * b) ps) x (simp length-drop (omega arith))

-- how many chunks come after number i
pub rest_chunks : (b i : ℕ) (l : List Order) → 0 < b → pieces b (length l) - (i + 1) ≡ pieces b (length (drop (suc i * b) l))
rest_chunks b i l h = go (dec_lt i (pieces b (length l)))
  where
    go : Dec (i < pieces b (length l)) → pieces b (length l) - (i + 1) ≡ pieces b (length (drop (suc i * b) l))
    go (yes p) = omega (arith, pieces_pass b (length l) (suc i) h p, ap (pieces b) (length-drop (suc i * b) l))
    go (no p) =
        let z : length (drop (suc i * b) l) ≡ 0 = length-drop (suc i * b) l ∙ omega (arith, suc-mul i b, pieces_over b (length l) i h (omega (arith, p))) in
        omega (arith, p, ap (pieces b) z, pieces_none b)

-- WHERE A KEY COMES in a partition of ps and qs: behind r nodes of chunk number i, which has the nodes c
pub record Split (b i r : ℕ) (ps qs c : List Order) : Type 0 where
  pub sum : i * b + r ≡ length ps
  pub less : r < b
  pub long : length c ≡ min b (r + length qs)
  pub before : take r c ≡ drop (i * b) ps
  pub behind : drop r c ++ drop (suc i * b) (ps ++ qs) ≡ qs

pub split_at : (b m i r : ℕ) (ps qs c : List Order) → 2 ≤ b → i ≡ m / b → r ≡ m % b → m ≡ length ps → c ≡ take b (drop (i * b) (ps ++ qs)) → Split b i r ps qs c
split_at b m i r ps qs c two ei er em ec =
    let sum : i * b + r ≡ length ps = rw (ei, er, ← em) (div-add-mod' m b) in
    let kept : length (drop (i * b) ps) ≡ r = length-drop (i * b) ps ∙ omega arith in
    let from : drop (i * b) (ps ++ qs) ≡ drop (i * b) ps ++ qs = drop-append-le (i * b) ps qs (omega arith) in
    let whole : c ++ drop (suc i * b) (ps ++ qs) ≡ drop (i * b) ps ++ qs = rw ec (chunk_rest b i (ps ++ qs)) ∙ from in
    let less : r < b = rw er (mod-lt m (omega arith)) in
    let long : length c ≡ min b (r + length qs) = ap length ec ∙ simp (length-take, from, length-append, kept) in
    record {
      sum = sum;
      less = less;
      long = long;
      before = sym (take-append-le r c (drop (suc i * b) (ps ++ qs)) (omega arith)) ∙ ap (take r) whole ∙ take_at (drop (i * b) ps) qs r kept;
      behind = sym (drop-append-le r c (drop (suc i * b) (ps ++ qs)) (omega arith)) ∙ ap (drop r) whole ∙ drop_at (drop (i * b) ps) qs r kept;
    }

-- .. of a key that is there itself
pub behind_held : (b i r : ℕ) (ps : List Order) (y : Order) (qs c : List Order) → Split b i r ps (y ∷ qs) c → drop (suc r) c ++ drop (suc i * b) (ps ++ y ∷ qs) ≡ qs
behind_held b i r ps y qs c x =
    let e : drop 1 (drop r c) ≡ drop (suc r) c = drop-drop 1 r c ∙ rw add-one refl in
    rw (← e) (sym (drop-append-le 1 (drop r c) (drop (suc i * b) (ps ++ y ∷ qs)) (omega (arith, length-drop r c))) ∙ ap (drop 1) x.behind)

-- A PARTITION SHIFTED FROM CHUNK i ON: the nodes behind ps were x and are y, and the carry has those of chunk i
module _ (s : Sizes) (F : Map) (n : ℕ) (hd bs : List ℕ) (k f i : ℕ) (ps x y c : List Order) (t : Table s F n hd bs) (two : 2 ≤ s.nodes) (pos : 0 < k) (first : f < 4294967296)
    (p : Pieces F s.nodes k f 0 (ps ++ x)) (low : i * s.nodes ≤ length ps) (few : length (ps ++ y) ≤ 65537) (fine : Fines (row s) c) (short : length c ≤ s.nodes + 1)
    (is : c ++ drop (suc i * s.nodes) (ps ++ x) ≡ drop (i * s.nodes) (ps ++ y))
    (room : n + pieces s.nodes (length (ps ++ y)) ≤ s.blocks + pieces s.nodes (length (ps ++ x))) where
  some : 0 < s.nodes
  some = omega arith

  from_number : (z : List Order) → pieces s.nodes (length (ps ++ z)) ≡ i + pieces s.nodes (length (drop (i * s.nodes) (ps ++ z)))
  from_number z = pieces_skip s.nodes (length (ps ++ z)) i some (omega (arith, length-append ps z)) ∙ rw (length-drop (i * s.nodes) (ps ++ z)) refl

  pub change_in : (count : ℕ) → count ≡ pieces s.nodes (length (ps ++ x)) - (i + 1) → (cs : List ℕ) → Front (row s) cs c → (m : ℕ) → m ≡ length c → (bs₂ : List ℕ)
      → Shifts s k f i count m bs bs₂ cs
      → ComesIn s F n hd bs₂ k f (ps ++ x) (ps ++ y)
  unfolding Elsewhere Shifts
  change_in count ec cs fr m em bs₂ sf =
      let q = sf F n hd c (drop (i * s.nodes) (ps ++ x)) (drop (i * s.nodes) (ps ++ y)) t fr em (record {
        level = pos;
        first = first;
        fine = fine;
        short = short;
        two = two;
        few = omega (arith, from_number y, pieces_half s.nodes (length (ps ++ y)) two);
        chunks = ec ∙ rest_chunks s.nodes i (ps ++ x) some ∙ rw (← drop_next s.nodes i (ps ++ x)) refl;
        source = pieces_from F s.nodes k f (ps ++ x) i p;
        is = rw (drop_next s.nodes i (ps ++ x)) is;
        room = omega (arith, from_number x, from_number y, room);
      }) in
      record {
        map = q.map;
        full = q.full;
        table = q.table;
        there =
            pieces_join q.map s.nodes k f (ps ++ y) i
            (λ m h. q.elsewhere k f m (λ a b d. omega arith) ∙ pieces_at F s.nodes k f (ps ++ x) m p
            ∙ chunk_low s.nodes m i ps x h low ∙ sym (chunk_low s.nodes m i ps y h low))
            q.there;
        elsewhere = λ l h j e. q.elsewhere l h j (λ a b d. e a b);
        count = omega (arith, q.count, from_number x, from_number y);
      }
